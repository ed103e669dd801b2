-- How many elements are left for each loop, after an op.
use Rattle.std.proofs.Common.{◌≡◌, ℕ, zero, suc, ◌-◌, ◌<◌, ◌≤◌, false, List, [], ◌∷◌, ◌++◌, length, Option, Some, None, refl, sym, ap, subst, ◌∙◌, arith}
use Rattle.std.specs.Prelude.{◌==◌, slice_get, set, map, replicate, All}
use Rattle.std.proofs.lemmas.Bool.Decides.{nat_tests}
use Rattle.std.proofs.lemmas.List.{length-set}
use Rattle.std.proofs.lemmas.List.Elements.{All-nil, All-cons, All-set, All-weaker}
use Rattle.std.proofs.lemmas.Option.{slice_get_within}
use Rattle.bb_basis.proofs.ListLemmas.{slice_get-set}
use Rattle.bb_schema_classes.proofs.Laws.{All-at}
use Rattle.bb_units.specs.declared.units.TheConstants.{UNIT_LIMIT}
use Rattle.bb_code.specs.Code.{Code}
use Rattle.bb_code.specs.declared.frame.Loop.{Loop}
use Rattle.bb_code.specs.declared.op.Op.{Op}
use Rattle.bb_code.specs.declared.op.Op.TheVariants as ops
use Rattle.bb_verify.specs.nesting.Loops.{local_of, is_same_local}
use Rattle.bb_machine.specs.declared.outcome.Entry.{Entry}
use Rattle.bb_machine.specs.declared.value.Value.{Value}
use Rattle.bb_machine.specs.declared.value.Value.TheVariants as values
use Rattle.bb_machine.specs.Machine.{Machine, units_of, entry_state}
use Rattle.bb_machine.specs.Changing.{State}
use Rattle.bb_theorem_machine.specs.proving.Sequences.{IsLow, IsLowIn, AreLow, elements, left_in, left_of, Keeps, Stores, Takes, Moved}
use Rattle.bb_theorem_machine.proofs.rounds.KeptSteps.{low_more}

-- ---- entries of a list

other_entry : {A : Type 0} (xs : List A) (l k : ℕ) (x : A) → (k == l) ≡ false → slice_get (set xs l x) k ≡ slice_get xs k
other_entry [] l k x other = refl
other_entry (y ∷ ys) zero zero x other = absurd cc
other_entry (y ∷ ys) zero (suc k) x other = refl
other_entry (y ∷ ys) (suc l) zero x other = refl
other_entry (y ∷ ys) (suc l) (suc k) x other = other_entry ys l k x (let f : (k == l) ≡ false = grind (arith, nat_tests) in f)

-- ---- no sequence is longer than what was found

low_in_more : (a b : ℕ) → a ≤ b → (o : Option Value) → IsLowIn a o → IsLowIn b o
low_in_more a b le None low = tt
low_in_more a b le (Some v) low = low_more a b le v low

kept_low : (m next : Machine) → AreLow m → Keeps m next → AreLow next
kept_low m next low k = record {
  locals = subst (All (IsLowIn next.found)) (sym k.locals) (All-weaker (IsLowIn m.found) (IsLowIn next.found) (low_in_more m.found next.found k.found) m.locals low.locals);
  stack = k.stack low.stack;
}

stored_low : (l : ℕ) (m next : Machine) → AreLow m → Stores l m next → AreLow next
stored_low l m next low k =
    let locals : All (IsLowIn m.found) next.locals = subst (All (IsLowIn m.found)) (sym k.locals) (All-set (IsLowIn m.found) m.locals l (Some k.value) (k.value_low low.stack) low.locals) in
    record { locals = subst (λ n. All (IsLowIn n) next.locals) (sym k.found) locals; stack = subst (λ n. All (IsLow n) next.stack) (sym k.found) (k.stack low.stack) }

taken_low : (l place : ℕ) (m next : Machine) → AreLow m → Takes l place m next → AreLow next
taken_low l place m next low k =
    let held = All-at (IsLowIn m.found) m.locals l (Some (values.Seq k.before)) k.held low.locals in
    let fewer = k.fewer in
    let later : length k.later.rest ≤ m.found = omega (arith, held, fewer) in
    let locals : All (IsLowIn m.found) next.locals =
    subst (All (IsLowIn m.found)) (sym k.locals) (All-set (IsLowIn m.found) (set m.locals l None) l (Some (values.Seq k.later)) later (All-set (IsLowIn m.found) m.locals l None tt low.locals)) in
    record { locals = subst (λ n. All (IsLowIn n) next.locals) (sym k.found) locals; stack = subst (λ n. All (IsLow n) next.stack) (sym k.found) (k.stack low.stack) }

-- what holds of a state after an op, where it held before
pub record Rises (m next : Machine) : Type 0 where
  pub low : AreLow next
  pub found : m.found ≤ next.found
  pub few : m.found ≤ UNIT_LIMIT → next.found ≤ UNIT_LIMIT

kept_rises : (m next : Machine) → AreLow m → Keeps m next → Rises m next
kept_rises m next low k = record { low = kept_low m next low k; found = k.found; few = k.few }

pub moved_rises : (op : Op) (m : Machine) (next : State) → AreLow m → Moved op m next → Rises m next.0
moved_rises (ops.Store l) m next low k =
    let same = k.found in
    record { low = stored_low l m next.0 low k; found = omega (arith, same); few = λ few. omega (arith, same, few) }
moved_rises (ops.Next l place) m next low k =
    let same = k.found in
    record { low = taken_low l place m next.0 low k; found = omega (arith, same); few = λ few. omega (arith, same, few) }
moved_rises (ops.Back place) m next low k = kept_rises m next.0 low k.0
moved_rises op m next low k = kept_rises m next.0 low k

-- ---- what is left for a loop

value_low : (n : ℕ) (o : Option Value) → IsLowIn n o → elements (Some o) ≤ n
value_low n None low = omega arith
value_low n (Some (values.Seq q)) low = low
value_low n (Some (values.Int z)) low = omega arith
value_low n (Some (values.Text t)) low = omega arith
value_low n (Some (values.Bool t)) low = omega arith
value_low n (Some (values.Label set label)) low = omega arith
value_low n (Some (values.Interval a b)) low = omega arith
value_low n (Some (values.Unit u)) low = omega arith

entry_low : (n l : ℕ) (locals : List (Option Value)) (o : Option (Option Value)) → slice_get locals l ≡ o → All (IsLowIn n) locals → elements o ≤ n
entry_low n l locals None is low = omega arith
entry_low n l locals (Some x) is low = value_low n x (All-at (IsLowIn n) locals l x is low)

left_low : (n : ℕ) (locals : List (Option Value)) (o : Option ℕ) → All (IsLowIn n) locals → left_in locals o ≤ n
left_low n locals None low = omega arith
left_low n locals (Some l) low = entry_low n l locals (slice_get locals l) refl low

module _ (code : Code) (l : Loop) where
  -- no more than the longest sequence that was found
  pub left_few : (m : Machine) → AreLow m → left_of code m l ≤ m.found
  left_few m low = left_low m.found m.locals (local_of code l) low.locals

  pub left_kept : (m next : Machine) → Keeps m next → left_of code next l ≤ left_of code m l
  left_kept m next k = let same = ap (λ (locals : List (Option Value)). left_in locals (local_of code l)) k.locals in omega (arith, same)

  stored_other : (locals : List (Option Value)) (k : ℕ) (x : Option Value) (o : Option ℕ) → is_same_local o (Some k) ≡ false → left_in (set locals k x) o ≡ left_in locals o
  stored_other locals k x None other = refl
  stored_other locals k x (Some j) other = ap elements (other_entry locals k j x other)

  pub left_stored : (local : ℕ) (m next : Machine) → Stores local m next → is_same_local (local_of code l) (Some local) ≡ false → left_of code next l ≤ left_of code m l
  left_stored local m next k other =
      let same = ap (λ (locals : List (Option Value)). left_in locals (local_of code l)) k.locals ∙ stored_other m.locals local (Some k.value) (local_of code l) other in
      omega (arith, same)

  pub left_around : (local place : ℕ) (m next : Machine) → Takes local place m next → is_same_local (local_of code l) (Some local) ≡ false → left_of code next l ≤ left_of code m l
  left_around local place m next k other =
      let same = ap (λ (locals : List (Option Value)). left_in locals (local_of code l)) k.locals
      ∙ (stored_other (set m.locals local None) local (Some (values.Seq k.later)) (local_of code l) other ∙ stored_other m.locals local None (local_of code l) other) in
      omega (arith, same)

  pub left_taken : (local place : ℕ) (m next : Machine) → (k : Takes local place m next) → local_of code l ≡ Some local → length k.later.rest < length k.before.rest → left_of code next l < left_of code m l
  left_taken local place m next k own fewer =
      let inside : local < length (set m.locals local None) = let lt = slice_get_within m.locals local (Some (values.Seq k.before)) k.held in let same = length-set m.locals local None in omega (arith, lt, same) in
      let before : left_of code m l ≡ length k.before.rest = ap (left_in m.locals) own ∙ ap elements k.held in
      let later : left_of code next l ≡ length k.later.rest =
      ap (left_in next.locals) own ∙ ap elements (ap (λ (locals : List (Option Value)). slice_get locals local) k.locals ∙ slice_get-set (set m.locals local None) local (Some (values.Seq k.later)) inside) in
      omega (arith, before, later, fewer)

-- ---- before the first step

units_low : (ns : List ℕ) (k : ℕ) → All (IsLowIn 0) (map (λ n. Some (values.Unit n)) ns ++ replicate k None)
units_low [] zero = All-nil (IsLowIn 0)
units_low [] (suc k) = All-cons (IsLowIn 0) None (replicate k None) tt (units_low [] k)
units_low (n ∷ ns) k = All-cons (IsLowIn 0) (Some (values.Unit n)) (map (λ n. Some (values.Unit n)) ns ++ replicate k None) tt (units_low ns k)

pub first_low : (code : Code) (entry : Entry) → AreLow (entry_state code entry)
first_low code entry = record { locals = units_low (units_of entry) (code.locals - length (units_of entry)); stack = All-nil (IsLow 0) }

pub first_left : (code : Code) (entry : Entry) (l : Loop) → left_of code (entry_state code entry) l ≡ 0
first_left code entry l = let low = left_few code l (entry_state code entry) (first_low code entry) in omega (arith, low)
