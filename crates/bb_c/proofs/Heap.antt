-- Calls that are generic over an allocator, at the heap of the C library.
use Rattle.std.proofs.Common.{[], refl, ◌∷◌, List}
use Rattle.std.proofs.alloc.Global.TheLaws as laws
use Rattle.std.specs.contracts.alloc.Global.{the_row}
use base.Fml.{flft}
use base.Fraction.{full_share}
use base.Logic.{emp}
use contract.Monad.{fact, fact_i}
use denote.Exit.{no}
use denote.Param.Laws.{Laws, arg_laws}
use denote.Param.{arg, layout}
use denote.RattleType.{RattleType}
use mir.Raw.{raw as nameless}
use mir.Syntax.{Dict, dnil, impl, tcons, tnil}
use seplogic.Ra.Ura.{Ura}
use types.Kit.{Goal, Item, Step, raw, step, use0, ‵, ◌$◌}
use types.Logic.{Logic}
use Rattle.bb_c.specs.contracts.Destruct++none.drop.Key.{symbol}

-- a type that owns no lifetime, as an argument of a generic function
abbrev pub Given : RattleType → RattleType
Given R = arg (nameless (layout R)) no R

abbrev pub Heap : RattleType
Heap = Given the_row

abbrev pub heap_laws : Laws Heap
heap_laws = arg_laws (nameless (layout the_row)) no the_row laws.the_row_laws refl

-- a handle to it is dropped by doing nothing
abbrev pub idle : Dict
idle = impl (symbol ∷ []) (tcons (layout Heap) tnil) dnil

module _ {M : Type 1} {𝓤 : Ura M} {𝓛 : Logic 𝓤} {K : Type 0} {Γ : List (Item 𝓤)} {G : Goal 𝓤 𝓛.H} where
  -- what is known can be said
  pub tells : K → {φ : Type 0} → φ → Step K 𝓛 (raw (fact 𝓤 φ) ∷ Γ) G Γ G
  tells t {φ} p = step (λ rest. use0 𝓛 (raw (fact 𝓤 φ)) (fact_i 𝓤 φ (emp 𝓤) p) $ rest)

  -- the token of what lives for ever is had for nothing
  pub lives : K → Step K 𝓛 (‵ (flft [] full_share) ∷ Γ) G Γ G
  lives t = step (λ rest. use0 𝓛 (‵ (flft [] full_share)) (𝓛.lfts.lft-nil full_share) $ rest)
