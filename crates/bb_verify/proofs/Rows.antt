-- Worked rows, computed on the definitions: budgets of codes without a loop, with one, and with loops in each other.
use Rattle.std.specs.Prelude.{List, [], ◌∷◌}
use Rattle.std.proofs.Common.{◌≡◌, refl}
use Rattle.bb_code.specs.Code.{Code}
use Rattle.bb_code.specs.declared.op.Op.{Op}
use Rattle.bb_code.specs.declared.op.Op.TheVariants.{Find, Store, Next, Pop, Back, Done}
use Rattle.bb_verify.specs.Budget.{budget}

-- for each of the words found, for each of them again
nested : List Op
nested = Find 0 ∷ Store 1 ∷ Next 1 10 ∷ Pop ∷ Find 0 ∷ Store 2 ∷ Next 2 9 ∷ Pop ∷ Back 6 ∷ Back 2 ∷ Done ∷ []

-- three places outside, five in one loop, three in both: 3 + 5 * 3 + 3 * 9
nested_over_two : (c : Code) → budget (record c {
  ops = nested;
  loops = record { head = 2; end = 10 } ∷ record { head = 6; end = 9 } ∷ [];
}) 2 ≡ 45
unfolding nested
nested_over_two c = refl

-- nothing is found: each place once
nested_over_none : (c : Code) → budget (record c {
  ops = nested;
  loops = record { head = 2; end = 10 } ∷ record { head = 6; end = 9 } ∷ [];
}) 0 ≡ 11
unfolding nested
nested_over_none c = refl

-- three places outside, three in the loop: 3 + 3 * 65,537
once_over_most : (c : Code) → budget (record c {
  ops = Find 0 ∷ Store 1 ∷ Next 1 5 ∷ Pop ∷ Back 2 ∷ Done ∷ [];
  loops = record { head = 2; end = 5 } ∷ [];
}) 65536 ≡ 196614
once_over_most c = refl

-- no loop
straight : (c : Code) → budget (record c { ops = Done ∷ []; loops = [] }) 65536 ≡ 1
straight c = refl
