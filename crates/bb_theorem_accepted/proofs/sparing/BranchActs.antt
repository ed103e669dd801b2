-- What an `if` and a `with` do to the names in scope, and what they spare, by the compiler's answer alone.
use Rattle.std.proofs.Common.{◌≡◌, ◌⊎◌, inl, inr, ℕ, Bool, true, false, cond, ◌&&◌, List, length, Ok, refl, subst, sym, ap, ◌∙◌}
use Rattle.bb_basis.proofs.BoolLemmas.{and_first}
use Rattle.bb_schema.specs.Schema.{Schema}
use Rattle.bb_verify_effect.specs.declared.part.Part.{Part}
use Rattle.bb_code.specs.declared.frame.Kind.{Kind}
use Rattle.bb_lang.specs.Blocks.{BlockTree, OtherwiseTree, absent, otherwise}
use Rattle.bb_compile_scope.specs.Kinds.{is_live}
use Rattle.bb_compile_scope.specs.LocalKinds.{kind_at, kinds_met}
use Rattle.bb_compile_scope.specs.Scope.{mark_of, back_to}
use Rattle.bb_compile_scope.specs.declared.scope.Scope.{Scope}
use Rattle.bb_compile_scope.proofs.Laws.{frees}
use Rattle.bb_compile_buffer.specs.declared.buffer.Buffer.{Buffer}
use Rattle.bb_compile.specs.Statements.{statements_code}
use Rattle.bb_theorem_accepted.proofs.blocks.BranchLemmas.{ElseEnded, ElseOn}
use Rattle.bb_theorem_accepted.proofs.blocks.GuardLemmas.{Branches, behind_first, branches_absent, branches_else}
use Rattle.bb_theorem_accepted.proofs.kinds.MoveLemmas.{Sole}
use Rattle.bb_theorem_accepted.proofs.sparing.ScopeLemmas.{Onto, onto_level, Levels, level_same, level_on, level_left, level_twice, level_mixed, level_frees, Mixed}
use Rattle.bb_theorem_accepted.proofs.sparing.SpareLemmas.{other_spares, block_spares, other_fits, block_fits}
use Rattle.bb_theorem_accepted.proofs.sparing.ShapeLemmas.{of, Spares, All, spares_on, spares_left, spares_twice, spares_mixed, spares_same, shaped_level}

-- what a block does to a scope, whose free locals suffice for it
pub record BlockActs (schema : Schema) (b : BlockTree) (s t : Scope) : Type 0 where
  pub onto : Onto s t
  pub fits : block_fits b (frees s.kinds)
  pub spares : Spares s t (block_spares schema (of s) b)

-- fewer are spared
pub spares_fewer : (a b : Scope) (p q : ℕ → Bool) → ((j : ℕ) → q j ≡ true → p j ≡ true) → Spares a b p → Spares a b q
spares_fewer a b p q each one j n at live spared = one j n at live (each j spared)

-- what a statement with blocks does
pub record BranchActs (schema : Schema) (other : OtherwiseTree) (p : ℕ → Bool) (s t : Scope) : Type 0 where
  pub level : Levels s t
  pub fits : other_fits other (frees s.kinds)
  pub spares : Spares s t (λ j. p j && other_spares schema (of s) other j)

module _ (schema : Schema) (part : Part) (loops : ℕ) (first : BlockTree) (s t : Buffer) (now : Bool) (sole : Sole s.scope.kinds s.scope.names) where
  -- after the first block
  module _ (other : OtherwiseTree) (br : Branches schema part loops first other s t now) (tested : br.guard.tested.scope ≡ s.scope) (enters : Onto s.scope br.inner.scope) (kept : Spares s.scope br.inner.scope All)
      (block : BlockActs schema first br.inner.scope br.blocks.end.scope) where
    abbrev behind : Buffer
    behind = behind_first schema part loops first other s t now br

    abbrev spared : ℕ → Bool
    spared = block_spares schema (of br.inner.scope) first

    behind_is : behind.scope ≡ back_to (mark_of s.scope) (back_to (mark_of br.inner.scope) br.blocks.end.scope)
    behind_is = ap (λ c. back_to (mark_of c) (back_to (mark_of br.inner.scope) br.blocks.end.scope)) tested

    level_behind : Levels s.scope behind.scope
    level_behind = subst (Levels s.scope) (sym behind_is) (level_twice s.scope br.inner.scope br.blocks.end.scope enters block.onto)

    spares_behind : Spares s.scope behind.scope spared
    spares_behind = subst (λ c. Spares s.scope c spared) (sym behind_is) (spares_twice s.scope br.inner.scope br.blocks.end.scope spared enters sole kept block.spares)

    kinds_before : br.guard.tested.scope.kinds ≡ s.scope.kinds
    kinds_before = ap (λ (c : Scope). c.kinds) tested

    -- the second block begins with what was known before the first
    module _ (b : BlockTree) (x y : Buffer) (names : x.scope.names ≡ behind.scope.names) (kinds_are : x.scope.kinds ≡ br.guard.tested.scope.kinds) (own : BlockActs schema b x.scope y.scope) where
      abbrev after : Scope
      after = back_to (mark_of x.scope) y.scope

      level_x : Levels s.scope x.scope
      level_x = level_same s.scope x.scope (names ∙ level_behind.names) (kinds_are ∙ kinds_before)

      level_after : Levels s.scope after
      level_after = level_on s.scope x.scope after level_x (level_left x.scope y.scope own.onto)

      shape_x : of x.scope ≡ of s.scope
      shape_x = shaped_level s.scope x.scope level_x sole

      spares_x : Spares s.scope x.scope All
      spares_x j n at live all = ap (λ ks. is_live (kind_at ks n.local)) (kinds_are ∙ kinds_before) ∙ live

      spares_after : Spares s.scope after (block_spares schema (of s.scope) b)
      spares_after =
          let sole_x = (onto_level s.scope x.scope level_x).sole sole in
          let inner = subst (λ S. Spares x.scope y.scope (block_spares schema S b)) shape_x own.spares in
          spares_fewer s.scope after (λ j. All j && block_spares schema (of s.scope) b j) (block_spares schema (of s.scope) b) (λ j h. h)
          (spares_on s.scope x.scope after All (block_spares schema (of s.scope) b) (onto_level s.scope x.scope level_x) spares_x (spares_left x.scope y.scope (block_spares schema (of s.scope) b) sole_x inner))

      fits_after : block_fits b (frees s.scope.kinds)
      fits_after = subst (block_fits b) (level_frees s.scope x.scope level_x) own.fits

      mixed_acts : (names_t : t.scope.names ≡ after.names) → Mixed behind.scope.kinds after.kinds t.scope.kinds → Levels s.scope t.scope × Spares s.scope t.scope (λ j. spared j && block_spares schema (of s.scope) b j)
      mixed_acts names_t mixed = (
        level_mixed s.scope behind.scope after t.scope level_behind level_after (names_t ∙ level_after.names) mixed,
        spares_mixed s.scope behind.scope after t.scope spared (block_spares schema (of s.scope) b) level_behind level_after mixed spares_behind spares_after,
      )

  pub absent_acts : (br : Branches schema part loops first absent s t now) → br.guard.tested.scope ≡ s.scope → Onto s.scope br.inner.scope → Spares s.scope br.inner.scope All → BlockActs schema first br.inner.scope br.blocks.end.scope
      → BranchActs schema absent (block_spares schema (of br.inner.scope) first) s.scope t.scope
  unfolding other_fits other_spares
  absent_acts br tested enters kept block =
      let al = branches_absent schema part loops first s t now br in
      let w = behind absent br tested enters kept block in
      let lw = level_behind absent br tested enters kept block in
      let same = level_same s.scope s.scope refl refl in
      let p = block_spares schema (of br.inner.scope) first in
      let mixed : Mixed s.scope.kinds w.scope.kinds t.scope.kinds = by_end w.scope.kinds br.blocks.ended (al.kinds ∙ ap (λ ks. cond br.blocks.ended ks (kinds_met ks w.scope.kinds)) (kinds_before absent br tested enters kept block)) in
      record {
        level = level_mixed s.scope s.scope w.scope t.scope same lw (al.names ∙ lw.names) mixed;
        fits = tt;
        spares = spares_fewer s.scope t.scope (λ j. All j && p j) (λ j. p j && true) (λ j h. and_first (p j) true h)
            (spares_mixed s.scope s.scope w.scope t.scope All p same lw mixed (spares_same s.scope s.scope refl) (spares_behind absent br tested enters kept block));
      }
    where
      by_end : (ks : List Kind) (e : Bool) → t.scope.kinds ≡ cond e s.scope.kinds (kinds_met s.scope.kinds ks) → Mixed s.scope.kinds ks t.scope.kinds
      by_end ks true is = inl is
      by_end ks false is = inr (inr is)

  -- where the second block begins
  pub second_sole : (b : BlockTree) (br : Branches schema part loops first (otherwise b) s t now) → br.guard.tested.scope ≡ s.scope → Onto s.scope br.inner.scope → Spares s.scope br.inner.scope All → BlockActs schema first br.inner.scope br.blocks.end.scope
      → (x : Buffer) → x.scope.names ≡ (behind_first schema part loops first (otherwise b) s t now br).scope.names → x.scope.kinds ≡ br.guard.tested.scope.kinds → Sole x.scope.kinds x.scope.names
  second_sole b br tested enters kept block x names kinds_are =
      (onto_level s.scope x.scope (level_same s.scope x.scope (names ∙ (level_behind (otherwise b) br tested enters kept block).names) (kinds_are ∙ kinds_before (otherwise b) br tested enters kept block))).sole sole

  pub else_acts : (b : BlockTree) (br : Branches schema part loops first (otherwise b) s t now) → br.guard.tested.scope ≡ s.scope → Onto s.scope br.inner.scope → Spares s.scope br.inner.scope All → BlockActs schema first br.inner.scope br.blocks.end.scope
      → ((d : Bool) (x y : Buffer) → statements_code schema part loops false b x ≡ Ok (d, y) → Sole x.scope.kinds x.scope.names → BlockActs schema b x.scope y.scope)
      → BranchActs schema (otherwise b) (block_spares schema (of br.inner.scope) first) s.scope t.scope
  unfolding other_fits other_spares
  else_acts b br tested enters kept block own = by_side (branches_else schema part loops first b s t now br)
    where
      p : ℕ → Bool
      p = block_spares schema (of br.inner.scope) first

      result : (x y : Buffer) (names : x.scope.names ≡ (behind_first schema part loops first (otherwise b) s t now br).scope.names) (kinds_are : x.scope.kinds ≡ br.guard.tested.scope.kinds) → BlockActs schema b x.scope y.scope
          → t.scope.names ≡ (back_to (mark_of x.scope) y.scope).names → Mixed (behind_first schema part loops first (otherwise b) s t now br).scope.kinds (back_to (mark_of x.scope) y.scope).kinds t.scope.kinds → BranchActs schema (otherwise b) p s.scope t.scope
      result x y names kinds_are acts names_t mixed =
          let both = mixed_acts (otherwise b) br tested enters kept block b x y names kinds_are acts names_t mixed in
          record { level = both.0; fits = fits_after (otherwise b) br tested enters kept block b x y names kinds_are acts; spares = both.1 }

      by_ended : (x y : Buffer) (e : Bool) → t.scope.kinds ≡ cond e (behind_first schema part loops first (otherwise b) s t now br).scope.kinds (back_to (mark_of x.scope) y.scope).kinds → Mixed (behind_first schema part loops first (otherwise b) s t now br).scope.kinds (back_to (mark_of x.scope) y.scope).kinds t.scope.kinds
      by_ended x y true is = inl is
      by_ended x y false is = inr (inl is)

      by_met : (x y : Buffer) (e : Bool) → (let w = behind_first schema part loops first (otherwise b) s t now br in t.scope.kinds ≡ cond e w.scope.kinds (kinds_met w.scope.kinds (back_to (mark_of x.scope) y.scope).kinds)) → Mixed (behind_first schema part loops first (otherwise b) s t now br).scope.kinds (back_to (mark_of x.scope) y.scope).kinds t.scope.kinds
      by_met x y true is = inl is
      by_met x y false is = inr (inr is)

      by_side : (let w = behind_first schema part loops first (otherwise b) s t now br in
          ((br.blocks.ended ≡ true) × ElseEnded schema part loops (mark_of br.guard.tested.scope) (length br.guard.behind.ops) (length br.guard.es) b w t now)
          ⊎ ((br.blocks.ended ≡ false) × ElseOn schema part loops (mark_of br.guard.tested.scope) (length br.guard.behind.ops) (length br.guard.es) b w t now)) → BranchActs schema (otherwise b) p s.scope t.scope
      by_side (inl (e, el)) = result el.inner el.end el.names el.kinds (own now el.inner el.end el.block_is (second_sole b br tested enters kept block el.inner el.names el.kinds)) el.names_after (by_ended el.inner el.end now el.kinds_after)
      by_side (inr (e, el)) = result el.inner el.end el.names el.kinds (own el.ended el.inner el.end el.block_is (second_sole b br tested enters kept block el.inner el.names el.kinds)) el.names_after (by_met el.inner el.end el.ended el.kinds_after)
