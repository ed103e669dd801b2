-- A `Run` in a walk: it is opened behind its reference, and shut there with other contents.
use Rattle.bb_c_run.specs.contracts.held.Held.{the_row}
use Rattle.bb_c_run.specs.declared.held.Held.{Held}
use Rattle.std.proofs.Common.{Bool, List, MutBor, [], false, not, refl, true, ◌∷◌, ◌≡◌}
use Rattle.std.specs.Prelude.{None, Option, Some}
use base.Fml.{Lft, Share, fauth, flft, fobor, fobs, ftrue}
use base.Fraction.{full_share}
use base.Logic.{never_e}
use base.Stored.{Gv}
use denote.Laws.{shows}
use denote.Memory.{cell_at, mem}
use denote.RattleType.{RattleType}
use denote.RawPtr.{Ptr, ptr_val}
use denote.Ref.{MutRef, mut_vals}
use denote.Steps.{closes, opens, owned, peeks}
use denote.Struct.Owning.{shape}
use denote.Struct.Struct.{Struct, Struct-Makes}
use lib.Dec.{T}
use mir.Syntax.{named}
use mir.Val.{Val, vbool, vcons, vnil, vstruct}
use seplogic.Ra.Ura.{Ura}
use types.Kit.{Goal, Item, Seq, Soaks, Step, drop, feq_i, fjoin, fjoin3, fsplit, fsplit3, given, learn, move, rewrite, step, use1, ‵, ◌$◌}
use types.Logic.{Logic}
use types.SemTy.{Body as Borrowed}
use Rattle.bb_c.proofs.run.Run.TheLaws.{lowers}
use Rattle.bb_c.specs.Owned.{boxed, run_owns}
use Rattle.bb_c.specs.contracts.run.Run as run
use Rattle.bb_c.specs.declared.run.Run.{Run}

abbrev pub Handle : RattleType
Handle = run.the_row

-- the handle in memory, which C sees
abbrev pub word : Ptr → Bool → Val
word at is_open = vstruct (vcons (ptr_val at) (vcons (vbool is_open) vnil))

module _ {M : Type 1} {𝓤 : Ura M} where
  -- a run behind its reference, with the token of the loan
  abbrev pub Shut : Lft → Share → MutBor Run → List (Item 𝓤) → List (Item 𝓤)
  Shut κ q r Γ = ‵ ((MutRef (named 0) κ Handle).own_val r (mut_vals r)) ∷ ‵ (flft κ q) ∷ Γ

  -- the handle's word, what it owns, and the loan, open, in three parts: `u` and `v` tell what was lent
  abbrev pub Open : Lft → Share → MutBor Run → (u v : Gv) → List (Item 𝓤) → List (Item 𝓤)
  Open κ q r u v Γ =
      let b = r.ref_ptr.0 in let o = r.ref_ptr.1 in
      ‵ (cell_at full_share Handle.mir (word r.now.at r.now.is_open ∷ []) b o) ∷ ‵ (run_owns r.now.is_open r.now.at r.now.sitting)
      ∷ ‵ (fobor κ q (Borrowed (mem Handle) b o r.ghost_name)) ∷ ‵ (fobs r.ghost_name u) ∷ ‵ (fauth r.ghost_name v) ∷ Γ

  module _ {𝓛 : Logic 𝓤} {K : Type 0} {Γ : List (Item 𝓤)} {G : Goal 𝓤 𝓛.H} {κ : Lft} {q : Share} where
    pub opens_run : K → Soaks G → (r : MutBor Run)
        → Step K 𝓛 (Open κ q r (Handle.coded.code r.now) (Handle.coded.code r.now) Γ) G (Shut κ q r Γ) G
    opens_run t soaks r = step (λ inside.
        let Cell = λ (ws : List Val). ‵ (cell_at full_share Handle.mir ws r.ref_ptr.0 r.ref_ptr.1) in
        fsplit3 t $ drop t $ opens t soaks Handle r.ref_ptr.0 r.ref_ptr.1 (λ vs. move t (1 ∷ []) $
        peeks t Handle _ (shows 𝓛 Handle) r.now vs (λ is. fsplit t $ drop t $ move t (1 ∷ []) $
        rewrite t 0 Cell (lowers.val_is r.now vs is) refl $ inside)))

    pub shuts_run : K → Soaks G → {u v : Gv} (r : MutBor Run) → Step K 𝓛 (Shut κ q r Γ) G (Open κ q r u v Γ) G
    shuts_run t soaks r = step (λ outside.
        let at = r.now.at in let is_open = r.now.is_open in let w = word at is_open in
        move t (1 ∷ []) $ owned t (Struct (shape run.the_type)) _ (Struct-Makes 𝓛 (shape run.the_type) ((λ x vs. tt), ((λ x vs. tt), tt)))
        (at, (is_open, tt)) (w ∷ []) ((ptr_val at ∷ [], (vbool is_open ∷ [], tt)), (refl, (refl, (refl, tt)))) $
        fjoin t $ move t (1 ∷ []) $ closes t soaks Handle r.now (w ∷ []) r.ref_ptr.0 r.ref_ptr.1 $
        feq_i t (List Val) (mut_vals r) (mut_vals r) refl $ fjoin3 t $ outside)

  module _ {𝓛 : Logic 𝓤} {K : Type 0} {Γ : List (Item 𝓤)} {G : Goal 𝓤 𝓛.H} where
    -- a handle that is not open holds nothing
    pub holds_none : K → (is_open : Bool) (at : Ptr) (held : Option Held) → T (not is_open)
        → (held ≡ None → Seq K 𝓛 (‵ (run_owns is_open at held) ∷ Γ) G) → Seq K 𝓛 (‵ (run_owns is_open at held) ∷ Γ) G
    holds_none t true at held shut rest = absurd shut
    holds_none t false at None shut rest = rest refl
    holds_none t false at (Some h) shut rest = use1 𝓛 (given ⊥ (‵ ftrue)) (never_e 𝓤 _) $ learn t (λ x. absurd x)

    -- one that is open holds a box
    pub holds_box : K → (is_open : Bool) (at : Ptr) (held : Option Held) → T (not (not is_open))
        → ((h : Held) → held ≡ Some h → Seq K 𝓛 (‵ (boxed the_row at h) ∷ Γ) G) → Seq K 𝓛 (‵ (run_owns is_open at held) ∷ Γ) G
    holds_box t true at (Some h) opened rest = rest h refl
    holds_box t true at None opened rest = use1 𝓛 (given ⊥ (‵ ftrue)) (never_e 𝓤 _) $ learn t (λ x. absurd x)
    holds_box t false at held opened rest = absurd opened
