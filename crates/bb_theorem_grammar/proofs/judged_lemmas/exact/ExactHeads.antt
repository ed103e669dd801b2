-- What the heads of statements with blocks lay out where nothing is noted, and that there was room for their names.
use Rattle.std.proofs.Common.{◌≡◌, ℕ, ◌≤◌, Bool, true, false, cond, List, length, Option, Some, None, Result, Ok, Err, subst}
use Rattle.std.specs.Prelude.{◌==◌}
use Rattle.std.proofs.lemmas.Bool.{le-leb}
use Rattle.bb_basis.specs.Results.{◌>>=◌, ok_or}
use Rattle.bb_code.specs.declared.parts.TheConstants.{STACK_LIMIT}
use Rattle.bb_code.specs.declared.frame.Kind.{Kind}
use Rattle.bb_code.specs.declared.frame.Kind.TheVariants as kinds
use Rattle.bb_code.specs.declared.op.Op.{Op}
use Rattle.bb_code.specs.declared.op.Op.TheVariants as put_ops
use Rattle.bb_schema.specs.Schema.{Schema, class_named}
use Rattle.bb_lang.specs.Binding.{Binding}
use Rattle.bb_lang.specs.Binding.TheVariants as bindings
use Rattle.bb_lang.specs.Sequence.{Sequence}
use Rattle.bb_lang.specs.Trees.{ExprTree}
use Rattle.bb_lang.specs.View.{sequence_of}
use Rattle.bb_compile_scope.specs.Kinds.{class_of, is_live}
use Rattle.bb_compile_scope.specs.Place.{Place}
use Rattle.bb_compile_scope.specs.Slots.{partner_slot}
use Rattle.bb_compile_scope.specs.declared.fault.CompileFault.TheVariants.{At}
use Rattle.bb_compile_scope.specs.declared.fault.TextFlaw.{TextFlaw}
use Rattle.bb_compile_scope.specs.declared.fault.TextFlaw.TheVariants.{Unknown, Kind as WrongKind, Limit}
use Rattle.bb_compile_scope.specs.declared.scope.Scope.{Scope}
use Rattle.bb_compile_scope.proofs.Laws.{frees}
use Rattle.bb_compile_buffer.specs.declared.buffer.Buffer.{Buffer}
use Rattle.bb_compile_buffer.specs.Atoms.{variable_code, unit_code}
use Rattle.bb_compile_buffer.specs.Buffers.{noted, due, known, put, take_local, declare}
use Rattle.bb_compile.specs.declared.exits.Exits.{Exits}
use Rattle.bb_compile.specs.Bindings.{one_exit, is_test, is_class, as_code, alive_and_as, alive_code, test_code, bound_as, as_named, with_as, partner_by, partner_in, with_partner, binding_code}
use Rattle.bb_compile.specs.Expressions.{expr_code, sequence_code}
use Rattle.bb_compile.specs.Statements.{if_code, with_code, loop_noted, for_code}
use Rattle.bb_theorem_grammar.specs.judged.Atoms.{variable_flaws, unit_flaws}
use Rattle.bb_theorem_grammar.specs.judged.Expressions.{sequence_class, sequence_flaws}
use Rattle.bb_theorem_grammar.specs.judged.Flaws.{least}
use Rattle.bb_theorem_grammar.specs.judged.Names.{kind_of, unit_class}
use Rattle.bb_theorem_grammar.specs.judged.Sums.{plus, nothing, ops, expr_sums, sequence_sums, test_count, binding_sums, has_room}
use Rattle.bb_theorem_grammar.proofs.judged_lemmas.faults.AtomLemmas.{variable_judged, unit_judged}
use Rattle.bb_theorem_grammar.proofs.judged_lemmas.faults.BindLemmas.{tested}
use Rattle.bb_theorem_grammar.proofs.judged_lemmas.exact.ExactActions.{Roomy, take_counted, declare_counted}
use Rattle.bb_theorem_grammar.proofs.judged_lemmas.exact.ExactExprs.{variable_counted, unit_counted}
use Rattle.bb_theorem_grammar.proofs.judged_lemmas.exact.ExactLemmas.{Counted, Unless, Made, exact_none, counted_then, counted_last, counted_known, unless_on, counted_from, counted_settled, put_counted, back_if, known_unless, back_known}
use Rattle.bb_theorem_grammar.proofs.judged_lemmas.exact.ExactQueries.{expr_counted, sequence_counted}
use Rattle.bb_theorem_grammar.proofs.judged_lemmas.faults.ExprLemmas.{sequence_judged}
use Rattle.bb_theorem_grammar.proofs.judged_lemmas.within.FineLemmas.{Clean, Anything, itself, second, never, due_back}
use Rattle.bb_theorem_grammar.proofs.judged_lemmas.scopes.HoldLemmas.{Keeps, noted_if, put_keeps, known_keeps}
use Rattle.bb_theorem_grammar.proofs.judged_lemmas.scopes.HoldLemmas as judged
use Rattle.bb_theorem_grammar.proofs.judged_lemmas.laying.LayLemmas.{if_counts, due_counts, known_counts}
use Rattle.bb_theorem_grammar.proofs.judged_lemmas.scopes.NameLemmas.{names_of}
use Rattle.bb_theorem_grammar.proofs.judged_lemmas.scopes.ScopeLemmas.{Tidy}

module _ (schema : Schema) (place : Place) (scope : Scope) where
  -- ---- `if`

  pub if_counted : (condition : ExprTree) (at : Place) (s : Buffer) → Counted second Anything (plus (expr_sums condition) (ops 1)) s (if_code schema condition at s)
  unfolding if_code
  if_counted condition at s =
      counted_then second second Made Anything (expr_sums condition) (ops 1) s (expr_code schema STACK_LIMIT condition s) _ (expr_counted schema condition STACK_LIMIT s)
      (λ p there. counted_last itself second Anything Anything (ops 1) p.1 (put (put_ops.Unless 0) (due p.0 kinds.Bool p.1)) _
      (counted_from itself Anything (ops 1) p.1 (due p.0 kinds.Bool p.1) (put (put_ops.Unless 0) (due p.0 kinds.Bool p.1)) (due_counts p.0 kinds.Bool p.1) (due_back p.0 kinds.Bool p.1) (put_counted (put_ops.Unless 0) (due p.0 kinds.Bool p.1)))
      (λ u any. counted_settled second Anything nothing at u u (Ok (one_exit (length p.1.ops), u)) (λ free. (λ clean. exact_none u clean, tt))))

  -- ---- `with`

  as_counted : (held : Kind) (class : ℕ) (s : Buffer) → Counted (second {X = Exits}) Anything (ops (test_count (Some held) (Some class))) s (test_code held class s)
  unfolding as_code alive_code
  as_counted held class s = by_live (is_live held)
    where
      one_more : (op : Op) (t : Buffer) (exits : Exits) → Counted (second {X = Exits}) Anything (ops 1) t (put op t >>= λ u. Ok (exits, u))
      one_more op t exits = counted_last itself (second {X = Exits}) Anything Anything (ops 1) t (put op t) _ (put_counted op t) (λ u any. (λ clean. exact_none u clean, tt))

      by_same : (b : Bool) → Counted (second {X = Exits}) Anything (ops (cond b 1 2)) s (put (put_ops.Alive 0) s >>= λ t. cond b (Ok (one_exit (length s.ops), t)) (alive_and_as (length s.ops) class t))
      by_same true = one_more (put_ops.Alive 0) s (one_exit (length s.ops))
      by_same false =
          counted_then itself (second {X = Exits}) Anything Anything (ops 1) (ops 1) s (put (put_ops.Alive 0) s) _ (put_counted (put_ops.Alive 0) s)
          (λ t any. counted_last itself (second {X = Exits}) Anything Anything (ops 1) t (put (put_ops.As class 0) t) _ (put_counted (put_ops.As class 0) t) (λ u more. (λ clean. exact_none u clean, tt)))

      by_live : (b : Bool) → Counted (second {X = Exits}) Anything (ops (cond b 1 (cond (is_class (class_of held) class) 1 2))) s (cond b (as_code class s) (alive_code (is_class (class_of held) class) class s))
      by_live true = one_more (put_ops.As class 0) s (one_exit (length s.ops))
      by_live false = by_same (is_class (class_of held) class)

  -- there was room for the name
  abbrev Bound : Option Exits × Buffer → Type 0
  Bound p = Clean p.1 → 1 ≤ frees scope.kinds

  roomy : (t : Buffer) (flaw : Option TextFlaw) → Keeps scope place flaw t → 1 ≤ frees t.scope.kinds → 1 ≤ frees scope.kinds
  roomy t flaw k some = subst (λ (sc : Scope). 1 ≤ frees sc.kinds) k.same some

  named_counted : (name : List ℕ) (class : ℕ) (exits : Exits) (t : Buffer) (flaw : Option TextFlaw) → Keeps scope place flaw t → Counted second Bound (ops 1) t (declare name (kinds.Ref class) t >>= λ u. Ok (Some exits, u))
  named_counted name class exits t flaw k =
      counted_last itself second (Roomy t) Bound (ops 1) t (declare name (kinds.Ref class) t) _ (declare_counted name (kinds.Ref class) t) (λ u some. (λ clean. exact_none u clean, λ clean. roomy t flaw k some))

  module _ (tidy : Tidy scope) where
    bound_counted : (name : List ℕ) (held : Kind) (class : ℕ) (s : Buffer) (flaw : Option TextFlaw) → Keeps scope place flaw s → Counted second Bound (plus (ops (test_count (Some held) (Some class))) (ops 1)) s (bound_as schema name held class s)
    bound_counted name held class s flaw k = by_test (is_test schema held class)
      where
        by_test : (b : Bool) → Counted second Bound (plus (ops (test_count (Some held) (Some class))) (ops 1)) s (cond b (test_code held class s >>= λ p. declare name (kinds.Ref class) p.1 >>= λ u. Ok (Some p.0, u)) (Ok (None, noted WrongKind s)))
        by_test true =
            counted_known place (λ (p : Exits × Buffer). Keeps scope place flaw p.1) (second {X = Exits}) second Anything Bound (ops (test_count (Some held) (Some class))) (ops 1) s (test_code held class s) _ (tested place scope tidy held class s flaw k) (as_counted held class s)
            (λ p kept any. named_counted name class p.0 p.1 flaw kept)
        by_test false = (λ clean. never WrongKind s clean, λ clean. never WrongKind s clean)

    as_named_counted : (name : List ℕ) (held : Option Kind) (class : Option ℕ) (s : Buffer) (flaw : Option TextFlaw) → Keeps scope place flaw s → Unless held s → Unless class s → Counted second Bound (plus (ops (test_count held class)) (ops 1)) s (as_named schema name held class s)
    as_named_counted name None None s flaw k one two = (λ clean. absurd (one clean), λ clean. absurd (one clean))
    as_named_counted name None (Some class) s flaw k one two = (λ clean. absurd (one clean), λ clean. absurd (one clean))
    as_named_counted name (Some held) None s flaw k one two = (λ clean. absurd (two clean), λ clean. absurd (two clean))
    as_named_counted name (Some held) (Some class) s flaw k one two = bound_counted name held class s flaw k

    partner_by_counted : (name : List ℕ) (r : Result (ℕ × ℕ) TextFlaw) (s : Buffer) (flaw : Option TextFlaw) → Keeps scope place flaw s → Counted second Bound (plus (ops 1) (ops 1)) s (partner_by name r s)
    partner_by_counted name (Err wrong) s flaw k = (λ clean. never wrong s clean, λ clean. never wrong s clean)
    partner_by_counted name (Ok slot) s flaw k =
        counted_known place (Keeps scope place flaw) itself second Anything Bound (ops 1) (ops 1) s (put (put_ops.One slot.0 0) s) _ (put_keeps scope place (put_ops.One slot.0 0) s flaw k) (put_counted (put_ops.One slot.0 0) s)
        (λ t kept any. named_counted name slot.1 (one_exit (length s.ops)) t flaw kept)

    partner_in_counted : (name slot : List ℕ) (class : Option ℕ) (s : Buffer) (flaw : Option TextFlaw) → Keeps scope place flaw s → Unless class s → Counted second Bound (plus (ops 1) (ops 1)) s (partner_in schema name slot class s)
    partner_in_counted name slot None s flaw k there = (λ clean. absurd (there clean), λ clean. absurd (there clean))
    partner_in_counted name slot (Some class) s flaw k there = partner_by_counted name (partner_slot schema class slot) s flaw k

    binding_counted : (binding : Binding) (s : Buffer) (seen : Option TextFlaw) → Keeps scope place seen s → Counted second Bound (binding_sums schema (names_of scope) binding) s (binding_code schema binding s)
    unfolding with_as with_partner
    binding_counted (bindings.As name unit class_name) s seen k =
        let class = class_named schema class_name in
        let one = least seen (variable_flaws (names_of scope) STACK_LIMIT unit) in
        counted_known place (judged.Made scope place (kind_of (names_of scope) unit) one) second second Made Bound (ops 1) (plus (ops (test_count (kind_of (names_of scope) unit) class)) (ops 1)) s (variable_code unit STACK_LIMIT s) _
        (variable_judged scope place unit STACK_LIMIT s seen k) (variable_counted unit STACK_LIMIT s)
        (λ p made there.
        let t = known class p.1 in
        counted_from second Bound (plus (ops (test_count (kind_of (names_of scope) unit) class)) (ops 1)) p.1 t (as_named schema name p.0 class t) (known_counts class p.1) (back_known class p.1)
        (subst (λ o. Counted second Bound (plus (ops (test_count o class)) (ops 1)) t (as_named schema name p.0 class t)) made.0
        (as_named_counted name p.0 class t _ (known_keeps scope place class p.1 one made.1) (unless_on p.0 p.1 t (back_known class p.1) there) (known_unless class p.1))))
    binding_counted (bindings.Linked name unit slot) s seen k =
        let one = least seen (unit_flaws (names_of scope) STACK_LIMIT unit) in
        counted_known place (judged.Made scope place (unit_class (names_of scope) unit) one) second second Made Bound (ops 1) (plus (ops 1) (ops 1)) s (unit_code unit STACK_LIMIT s) _
        (unit_judged scope place unit STACK_LIMIT s seen k) (unit_counted unit STACK_LIMIT s) (λ p made there. partner_in_counted name slot p.0 p.1 one made.1 there)

    -- there is room for a name
    abbrev pub HasRoom : {X : Type 0} → X → Type 0
    HasRoom x = has_room (names_of scope) ≡ true

    pub with_counted : (binding : Binding) (at : Place) (s : Buffer) (seen : Option TextFlaw) → Keeps scope place seen s → Counted second HasRoom (binding_sums schema (names_of scope) binding) s (with_code schema binding at s)
    unfolding with_code
    with_counted binding at s seen k =
        counted_last second second Bound HasRoom (binding_sums schema (names_of scope) binding) s (binding_code schema binding s) _ (binding_counted binding s seen k)
        (λ p bound. counted_settled second HasRoom nothing at p.1 p.1 (ok_or p.0 (At Unknown at) >>= λ exits. Ok (exits, p.1)) (λ clean. by_found p.0 p.1 (le-leb 1 (frees scope.kinds) (bound clean))))
      where
        by_found : (o : Option Exits) (t : Buffer) → has_room (names_of scope) ≡ true → Counted second HasRoom nothing t (ok_or o (At Unknown at) >>= λ exits. Ok (exits, t))
        by_found None t some = tt
        by_found (Some exits) t some = (λ clean. exact_none t clean, some)

    -- ---- `for`

    pub for_counted : (sequence : Sequence) (at : Place) (loops : ℕ) (s : Buffer) (seen : Option TextFlaw) → Keeps scope place seen s → Counted (second {X = ℕ × ℕ}) HasRoom (plus (sequence_sums (sequence_of sequence)) (ops 1)) s (for_code schema sequence at loops s)
    unfolding for_code
    for_counted sequence at loops s seen k =
        let class = sequence_class schema (names_of scope) (sequence_of sequence) in
        let one = least seen (sequence_flaws schema (names_of scope) STACK_LIMIT (sequence_of sequence)) in
        counted_known place (judged.Made scope place class one) second (second {X = ℕ × ℕ}) Made HasRoom (sequence_sums (sequence_of sequence)) (ops 1) s (sequence_code schema STACK_LIMIT (sequence_of sequence) s) _
        (sequence_judged schema scope place (sequence_of sequence) STACK_LIMIT s seen k) (sequence_counted schema (sequence_of sequence) STACK_LIMIT s)
        (λ p made there.
        let t = loop_noted loops p.1 in
        counted_settled (second {X = ℕ × ℕ}) HasRoom (ops 1) at p.1 t (ok_or p.0 (At Unknown at) >>= λ c. take_local (kinds.Seq c) t >>= λ q. put (put_ops.Store q.0) q.1 >>= λ v. Ok ((c, q.0), v))
        (λ clean. counted_from (second {X = ℕ × ℕ}) HasRoom (ops 1) p.1 t (ok_or p.0 (At Unknown at) >>= λ c. take_local (kinds.Seq c) t >>= λ q. put (put_ops.Store q.0) q.1 >>= λ v. Ok ((c, q.0), v)) (if_counts (loops == 0) Limit p.1) (back_if (loops == 0) Limit p.1)
        (by_class p.0 t _ (noted_if scope place (loops == 0) Limit p.1 one made.1))))
      where
        by_class : (o : Option ℕ) (t : Buffer) (flaw : Option TextFlaw) → Keeps scope place flaw t → Counted (second {X = ℕ × ℕ}) HasRoom (ops 1) t (ok_or o (At Unknown at) >>= λ c. take_local (kinds.Seq c) t >>= λ q. put (put_ops.Store q.0) q.1 >>= λ v. Ok ((c, q.0), v))
        by_class None t flaw kept = tt
        by_class (Some class) t flaw kept =
            counted_then (second {X = ℕ}) (second {X = ℕ × ℕ}) (Roomy t) HasRoom nothing (ops 1) t (take_local (kinds.Seq class) t) _ (take_counted (kinds.Seq class) t)
            (λ q some. counted_last itself (second {X = ℕ × ℕ}) Anything HasRoom (ops 1) q.1 (put (put_ops.Store q.0) q.1) _ (put_counted (put_ops.Store q.0) q.1)
            (λ v any. (λ free. exact_none v free, le-leb 1 (frees scope.kinds) (roomy t flaw kept some))))
