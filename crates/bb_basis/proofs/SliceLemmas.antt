-- The rest of a slice whose items are seen by a view.
use Rattle.std.proofs.Common.{◌≡◌, ℕ, ◌+◌, ◌<◌, ◌≤◌, List, ◌∷◌, length, get_or, drop, map, sym, ap, ◌∙◌, arith}
use Rattle.std.proofs.Math.ListN.{get_or-map}
use Rattle.std.proofs.lemmas.List.{length-map}
use Rattle.bb_basis.proofs.IntoMapLemmas.{next_one, length_drop_all}

-- the item that comes next
pub next_seen : {A B : Type 0} (g : A → B) (xs : List A) (i : ℕ) (a : A) → i < length xs → a ≡ get_or xs i a → drop i (map g xs) ≡ g a ∷ drop (i + 1) (map g xs)
next_seen g xs i a lt is = next_one (map g xs) i (g a) (omega (arith, length-map xs g)) (sym (get_or-map g xs i a ∙ ap g (sym is)))

-- the end
pub none_seen : {A B : Type 0} (g : A → B) (xs : List A) (i : ℕ) → length xs ≤ i → length (drop i (map g xs)) ≡ 0
none_seen g xs i le = length_drop_all (map g xs) i (omega (arith, length-map xs g))
