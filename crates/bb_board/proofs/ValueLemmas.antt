-- What is given for slots, seen one by one.
use Rattle.std.proofs.Common.{◌≡◌, ℕ, Bor, Bool, true, false, cond, List, [], ◌∷◌, map, find, Option, Some, None, option_map, refl, ap, ◌∙◌}
use Rattle.std.specs.Str.{bytes_eq}
use Rattle.bb_schema_form.specs.declared.document.GivenEntry.{GivenEntry}
use Rattle.bb_schema_form.specs.UnitsDocument.{GivenDeclaration, given_declaration, value_declaration}
use Rattle.bb_board.specs.Load.{given_for}

module _ {X Y : Type 0} (view : X → Y) (test : Y → Bool) where
  first_seen : (x : X) (xs : List X) (b : Bool) → option_map view (find (λ y. test (view y)) xs) ≡ find test (map view xs)
      → option_map view (cond b (Some x) (find (λ y. test (view y)) xs)) ≡ cond b (Some (view x)) (find test (map view xs))
  first_seen x xs true rest = refl
  first_seen x xs false rest = rest

  pub found_seen : (xs : List X) → option_map view (find (λ x. test (view x)) xs) ≡ find test (map view xs)
  found_seen [] = refl
  found_seen (x ∷ xs) = first_seen x xs (test (view x)) (found_seen xs)

pub given_is : (name : List ℕ) (given : List GivenEntry) (found : Option (Bor GivenEntry)) → option_map (λ g. g.now) found ≡ find (λ g. bytes_eq name (given_declaration g).slot) given
    → option_map (λ (g : Bor GivenEntry). value_declaration g.now.value) found ≡ given_for name (map given_declaration given)
unfolding given_for
given_is name given (Some g) is =
    ap (λ o. option_map (λ (d : GivenDeclaration). d.value) (option_map given_declaration o)) is ∙ ap (option_map (λ (d : GivenDeclaration). d.value)) (found_seen given_declaration (λ d. bytes_eq name d.slot) given)
given_is name given None is =
    ap (λ o. option_map (λ (d : GivenDeclaration). d.value) (option_map given_declaration o)) is ∙ ap (option_map (λ (d : GivenDeclaration). d.value)) (found_seen given_declaration (λ d. bytes_eq name d.slot) given)
