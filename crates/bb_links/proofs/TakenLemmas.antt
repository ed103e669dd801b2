-- What a link takes away, by whether it adds a pair.
use Rattle.std.proofs.Common.{◌≡◌, ℕ, Bool, true, false, not, cond, List, None, refl, sym, ap, ◌∙◌}
use Rattle.bb_schema.specs.declared.couple.Side.TheVariants.{A, B}
use Rattle.bb_links.specs.declared.couple.Singular.{Singular}
use Rattle.bb_links.specs.declared.taken.Taken.{Taken}
use Rattle.bb_links.specs.Pairs.{has_pair, old_pair, taken_among}

-- the pair was not there, and the old pairs go
pub record Adds (s : Singular) (a b : ℕ) (pairs : List (ℕ × ℕ)) (t : Taken) : Type 0 where
  pub absent : has_pair (a, b) pairs ≡ false
  pub first : t.first ≡ old_pair s A a pairs
  pub second : t.second ≡ old_pair s B b pairs

module _ (s : Singular) (a b : ℕ) (pairs : List (ℕ × ℕ)) (t : Taken) where
  abbrev by : Bool → Taken
  by there =
      cond there (let none : Taken = record { first = None; second = None; added = false } in none)
      (let some : Taken = record { first = old_pair s A a pairs; second = old_pair s B b pairs; added = true } in some)

  adds_at : (there : Bool) → has_pair (a, b) pairs ≡ there → t ≡ by there → not t.added ≡ false → Adds s a b pairs t
  adds_at true is e added = absurd (let f : false ≡ true = sym added ∙ ap (λ (x : Taken). not x.added) e in cc)
  adds_at false is e added = record { absent = is; first = ap (λ (x : Taken). x.first) e; second = ap (λ (x : Taken). x.second) e }

  pub is_added : t ≡ taken_among s a b pairs → not t.added ≡ false → Adds s a b pairs t
  is_added e added = adds_at (has_pair (a, b) pairs) refl e added

  there_at : (there : Bool) → has_pair (a, b) pairs ≡ there → t ≡ by there → not t.added ≡ true → has_pair (a, b) pairs ≡ true
  there_at true is e added = is
  there_at false is e added = absurd (let f : true ≡ false = sym added ∙ ap (λ (x : Taken). not x.added) e in cc)

  pub is_there : t ≡ taken_among s a b pairs → not t.added ≡ true → has_pair (a, b) pairs ≡ true
  is_there e added = there_at (has_pair (a, b) pairs) refl e added
