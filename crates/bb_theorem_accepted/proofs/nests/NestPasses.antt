-- A code whose ops and loops stand as a text lays them out passes what the verifier asks of loops.
use Rattle.std.proofs.Common.{◌≡◌, ◌⊎◌, inl, inr, ℕ, ◌<◌, ◌≤◌, Bool, true, false, cond, ◌&&◌, List, [], ◌∷◌, length, Option, Some, None, Result, Ok, refl, subst, sym, ap, ◌∙◌, arith}
use Rattle.std.specs.Prelude.{slice_get, nat_le, nat_lt, ◌==◌}
use Rattle.std.specs.List.{range_with_len}
use Rattle.std.proofs.lemmas.Bool.{lt-ltb, le-ltb, le-leb, ltb-true, leb-true, leb-false, eq-eqb}
use Rattle.bb_basis.specs.Results.{◌>>=◌}
use Rattle.bb_code.specs.declared.frame.Loop.{Loop}
use Rattle.bb_code.specs.Code.{Code}
use Rattle.bb_code.specs.declared.flaw.Flaw.{Flaw as CodeFlaw}
use Rattle.bb_code.specs.declared.op.Op.{Op}
use Rattle.bb_code.specs.declared.op.Op.TheVariants as ops
use Rattle.bb_code.specs.Each.{each}
use Rattle.bb_verify.specs.declared.nesting.loops.TheConstants.{NESTING_LIMIT}
use Rattle.bb_verify.specs.nesting.Loops.{check_order, never, depth, begins, ends, op_before, local_in, local_of, is_same_local, nests, loop_due, head_due, enters_at_head, keeps_local, op_due, place_due, loop_at, loops}
use Rattle.bb_theorem_accepted.proofs.buffers.StraightLemmas.{each_range}
use Rattle.bb_theorem_accepted.proofs.kinds.LabelLemmas.{other_place}
use Rattle.bb_theorem_accepted.proofs.nests.LoopOrder.{Within, Shallow, depth_is, rising_passes, none_passes}
use Rattle.bb_theorem_accepted.proofs.nests.NestLemmas.{exit_of, Loops, loops_map, May, Passes, Each, Fine}

-- each loop of a list passes a test
each_loop : (f : Loop → Result (Unit {0}) CodeFlaw) (ls : List Loop) → Loops (λ l. f l ≡ Ok tt) ls → each f ls ≡ Ok tt
unfolding each
each_loop f [] all = refl
each_loop f (l ∷ ls) all = rw all.0 (each_loop f ls all.1)

module _ (code : Code) where
  abbrev IsFine : Loop → Type 0
  IsFine l = Fine code l

  -- ---- one loop and another

  begin_is : (l : Loop) → IsFine l → begins l (slice_get code.ops l.head) ≡ true
  begin_is l f = ap (begins l) f.at_head ∙ same l.end
    where
      same : (n : ℕ) → (n == n) ≡ true
      same n = eq-eqb n n refl

  end_is : (l : Loop) → IsFine l → ends l (op_before code l.end) ≡ true
  end_is l f = ap (ends l) f.at_end ∙ eq-eqb l.head l.head refl

  local_is : (l : Loop) → (f : IsFine l) → local_of code l ≡ Some f.local
  local_is l f = ap local_in f.at_head

  nest_passes : (l outer : Loop) → IsFine l → IsFine outer → nests code l outer ≡ Ok tt
  unfolding nests
  nest_passes l outer own other = by_around (nat_lt outer.head l.head) (nat_lt l.head outer.end) refl refl
    where
      by_around : (a b : Bool) → nat_lt outer.head l.head ≡ a → nat_lt l.head outer.end ≡ b
          → (never ((a && b) && nat_lt outer.end l.end) >>= λ _. never ((a && b) && is_same_local (local_of code outer) (local_of code l))) ≡ Ok tt
      by_around false b below above = refl
      by_around true false below above = refl
      by_around true true below above =
          let low = ltb-true outer.head l.head below in
          let high = ltb-true l.head outer.end above in
          let body = (other.inside l.head (ops.Next own.local l.end) (omega (arith, low)) high own.at_head).next own.local l.end refl in
          rw (le-ltb outer.end l.end body.1, local_is outer other, local_is l own, other_place other.local own.local (λ e. body.0 (sym e))) refl

  loop_passes : (l : Loop) → IsFine l → Loops IsFine code.loops → loop_due code l ≡ Ok tt
  unfolding loop_due
  loop_passes l own all =
      rw (begin_is l own, end_is l own) (each_loop (nests code l) code.loops (loops_map IsFine (λ outer. nests code l outer ≡ Ok tt) code.loops (λ outer other. nest_passes l outer own other) all))

  head_passes : (place : ℕ) (l : Loop) → IsFine l → Loops IsFine code.loops → head_due code place l ≡ Ok tt
  unfolding head_due
  head_passes place l own all = by_place (l.head == place)
    where
      by_place : (b : Bool) → (let r : Result (Unit {0}) CodeFlaw = cond b (loop_due code l) (Ok tt) in r) ≡ Ok tt
      by_place true = loop_passes l own all
      by_place false = refl

  -- ---- one op and the loops

  -- a Store does not take the local of a loop that holds it
  keeps_passes : (place local : ℕ) (l : Loop) → IsFine l → slice_get code.ops place ≡ Some (ops.Store local) → keeps_local code place local l ≡ Ok tt
  unfolding keeps_local
  keeps_passes place local l own at = by_held (nat_le l.head place) (nat_lt place l.end) refl refl
    where
      by_held : (a b : Bool) → nat_le l.head place ≡ a → nat_lt place l.end ≡ b → never ((a && b) && is_same_local (local_of code l) (Some local)) ≡ Ok tt
      by_held false b low high = refl
      by_held true false low high = refl
      by_held true true low high =
          let up = leb-true l.head place low in
          let apart : l.head ≡ place → ⊥ = λ e. (let both : Some (ops.Next own.local l.end) ≡ Some (ops.Store local) = sym own.at_head ∙ (ap (slice_get code.ops) e ∙ at) in cc) in
          let body = (own.inside place (ops.Store local) (omega (arith, up, apart)) (ltb-true place l.end high) at).store local refl in
          rw (local_is l own, other_place own.local local (λ e. body (sym e))) refl

  -- what goes elsewhere goes into no loop
  enters_passes : (place target : ℕ) (op : Op) (l : Loop) → Each code 0 l.head (λ p op. Passes l op) → slice_get code.ops place ≡ Some op → exit_of op ≡ Some target → place < target → enters_at_head place target l ≡ Ok tt
  unfolding enters_at_head
  enters_passes place target op l passes at goes ahead = by_held (nat_le l.head target) (nat_lt target l.end) refl refl
    where
      there : l.head ≤ target → target < l.end → nat_le l.head place ≡ true
      there low high = by_place (nat_le l.head place) refl
        where
          none : place < l.head → ((target < l.head) ⊎ (l.end ≤ target)) → ⊥
          none before (inl lt) = omega (arith, lt, low)
          none before (inr le) = omega (arith, le, high)

          by_place : (b : Bool) → nat_le l.head place ≡ b → b ≡ true
          by_place true h = refl
          by_place false h = let before = leb-false l.head place h in absurd (none before (passes place op (omega arith) before at target goes))

      by_held : (a b : Bool) → nat_le l.head target ≡ a → nat_lt target l.end ≡ b → (let r : Result (Unit {0}) CodeFlaw = cond (a && b) (check_order (nat_le l.head place && nat_lt place l.end)) (Ok tt) in r) ≡ Ok tt
      by_held false b low high = refl
      by_held true false low high = refl
      by_held true true low high =
          let up = leb-true l.head target low in
          let top = ltb-true target l.end high in
          rw (there up top, lt-ltb place l.end (omega (arith, ahead, top))) refl

  abbrev AllPass : List Loop → Type 0
  AllPass ls = Loops (λ l. Each code 0 l.head (λ p op. Passes l op)) ls

  exits_pass : (place target : ℕ) (op : Op) → AllPass code.loops → slice_get code.ops place ≡ Some op → exit_of op ≡ Some target → place < target → each (enters_at_head place target) code.loops ≡ Ok tt
  exits_pass place target op all at goes ahead =
      each_loop (enters_at_head place target) code.loops (loops_map (λ l. Each code 0 l.head (λ p op. Passes l op)) (λ l. enters_at_head place target l ≡ Ok tt) code.loops (λ l own. enters_passes place target op l own at goes ahead) all)

  op_passes : (watched : ℕ → Type 0) (bound place : ℕ) (op : Op) → Loops IsFine code.loops → AllPass code.loops → slice_get code.ops place ≡ Some op → May watched bound code.loops place op → op_due code place op ≡ Ok tt
  unfolding op_due
  op_passes watched bound place (ops.Next l q) fine all at may = rw (may.next l q refl).2 refl
  op_passes watched bound place (ops.Back q) fine all at may = rw (may.back q refl) refl
  op_passes watched bound place (ops.Store local) fine all at may =
      each_loop (keeps_local code place local) code.loops (loops_map IsFine (λ l. keeps_local code place local l ≡ Ok tt) code.loops (λ l own. keeps_passes place local l own at) fine)
  op_passes watched bound place (ops.Jump q) fine all at may = exits_pass place q (ops.Jump q) all at refl (may.exit q refl).0
  op_passes watched bound place (ops.Unless q) fine all at may = exits_pass place q (ops.Unless q) all at refl (may.exit q refl).0
  op_passes watched bound place (ops.One slot q) fine all at may = exits_pass place q (ops.One slot q) all at refl (may.exit q refl).0
  op_passes watched bound place (ops.Alive q) fine all at may = exits_pass place q (ops.Alive q) all at refl (may.exit q refl).0
  op_passes watched bound place (ops.As class q) fine all at may = exits_pass place q (ops.As class q) all at refl (may.exit q refl).0
  op_passes watched bound place _ fine all at may = refl

  -- ---- the whole

  module _ (watched : ℕ → Type 0) (bound : ℕ) (within : Within 0 (length code.ops) code.loops) (shallow : Shallow NESTING_LIMIT code.loops)
      (may : Each code 0 (length code.ops) (May watched bound code.loops)) (fine : Loops IsFine code.loops) (all : AllPass code.loops) where
    place_passes : (place : ℕ) → place < length code.ops → (o : Option Op) → slice_get code.ops place ≡ o → place_due code place o ≡ Ok tt
    unfolding place_due
    place_passes place lt None at = refl
    place_passes place lt (Some op) at =
        let few : nat_le (depth code place) NESTING_LIMIT ≡ true = le-leb (depth code place) NESTING_LIMIT (subst (λ n. n ≤ NESTING_LIMIT) (sym (depth_is place code.loops)) (shallow place)) in
        rw (
          rising_passes place 0 (length code.ops) code.loops within,
          each_loop (head_due code place) code.loops (loops_map IsFine (λ l. head_due code place l ≡ Ok tt) code.loops (λ l own. head_passes place l own fine) fine),
          few,
        ) (op_passes watched bound place op fine all at (may place op (omega arith) lt at))

    pub nested_passes : loops code ≡ Ok tt
    unfolding loops loop_at
    nested_passes =
        let every : each (loop_at code) (range_with_len 0 (length code.ops)) ≡ Ok tt = each_range (loop_at code) 0 (length code.ops) (λ i lt. rw (place_passes i (omega (arith, lt)) (slice_get code.ops i) refl) refl) in
        rw (every, none_passes (length code.ops) 0 (length code.ops) code.loops (omega arith) within) refl
