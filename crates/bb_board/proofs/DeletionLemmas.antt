-- What holds of a blackboard holds after a unit was deleted with its parts, and all of it can be read off the first state.
use Rattle.std.proofs.Common.{◌≡◌, ℕ, true, false, List, [], ◌∷◌, ◌++◌, nat_eq, refl, ap, ◌∙◌}
use Rattle.std.specs.Prelude.{◌==◌, ◌||◌}
use Rattle.std.specs.List.{AllByRecursion, IsDistinct, list_all}
use Rattle.std.specs.List.Sorted.{IsStrictlyIncreasing}
use Rattle.std.proofs.lemmas.Bool.{and_parts}
use Rattle.bb_basis.proofs.ListLemmas.{list_any-last}
use Rattle.bb_schema.specs.Schema.{Schema}
use Rattle.bb_schema.specs.Fits as schemas
use Rattle.bb_units.specs.Units.{is_live}
use Rattle.bb_board.specs.State.{World}
use Rattle.bb_board.specs.Fits.{Fits}
use Rattle.bb_board.specs.Deletion.{with_parts, after_delete}
use Rattle.bb_board.specs.proving.Deleted.{is_of, without_units}
use Rattle.bb_board.proofs.FoldLemmas.{AreNext, none_gone, fold_at_once, fold_keeps}
use Rattle.bb_board.proofs.FoundLemmas.{rising_differ}
use Rattle.bb_board.proofs.PartLemmas.{parts_rise, parts_live}

-- ---- units whose numbers rise can be deleted one after another

not_last : (gone ns : List ℕ) (n : ℕ) → AllByRecursion (λ m. (n == m) ≡ false) ns → AllByRecursion (λ m. is_of gone m ≡ false) ns → AllByRecursion (λ m. is_of (gone ++ n ∷ []) m ≡ false) ns
not_last gone [] n one two = tt
not_last gone (m ∷ ms) n one two = (list_any-last (λ k. k == m) gone n ∙ (ap (λ b. b || n == m) two.0 ∙ one.0), not_last gone ms n one.1 two.1)

next_from : (w : World) (gone ns : List ℕ) → IsDistinct nat_eq ns → AllByRecursion (λ m. is_of gone m ≡ false) ns → list_all (is_live w.units) ns ≡ true → AreNext w gone ns
unfolding IsDistinct
next_from w gone [] differ out live = tt
next_from w gone (n ∷ ns) differ out live =
    let both = and_parts (is_live w.units n) (list_all (is_live w.units) ns) live in
    (out.0, both.0, next_from w (gone ++ n ∷ []) ns differ.1 (not_last gone ns n differ.0 out.1) both.1)

none_out : (ns : List ℕ) → AllByRecursion (λ m. is_of [] m ≡ false) ns
none_out [] = tt
none_out (n ∷ ns) = (refl, none_out ns)

pub rising_next : (w : World) (ns : List ℕ) → IsStrictlyIncreasing ns → list_all (is_live w.units) ns ≡ true → AreNext w [] ns
rising_next w ns up live =
    next_from w [] ns (rising_differ ns up) (none_out ns) live

-- ---- a unit with its parts

module _ (s : Schema) (w : World) (sf : schemas.Fits s) (fits : Fits s w) (n : ℕ) where
  -- all of it is read off the first state
  pub delete_at_once : after_delete s w n ≡ without_units s w (with_parts s w n)
  unfolding after_delete
  delete_at_once = fold_at_once s sf w [] w (none_gone s w fits) (with_parts s w n) (rising_next w (with_parts s w n) (parts_rise s w n) (parts_live s w n))

  pub delete_keeps : Fits s (after_delete s w n)
  unfolding after_delete
  delete_keeps = fold_keeps s sf w [] w (none_gone s w fits) (with_parts s w n) (rising_next w (with_parts s w n) (parts_rise s w n) (parts_live s w n))
