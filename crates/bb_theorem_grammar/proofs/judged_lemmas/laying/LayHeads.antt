-- What the heads of statements with blocks lay out at most, where nothing is wrong with them.
use Rattle.std.proofs.Common.{◌≡◌, ◌≤◌, ℕ, ◌+◌, Bool, true, false, cond, List, ◌++◌, length, Option, Some, None, Result, Ok, Err, refl, subst, sym, ◌∙◌, arith}
use Rattle.std.specs.Prelude.{◌==◌, position, set, max}
use Rattle.std.specs.Option.{ok_or}
use Rattle.bb_basis.proofs.PositionLemmas.{position_spot}
use Rattle.bb_basis.specs.Results.{◌>>=◌}
use Rattle.bb_code.specs.declared.parts.TheConstants.{STACK_LIMIT}
use Rattle.bb_code.specs.declared.frame.Kind.{Kind}
use Rattle.bb_code.specs.declared.frame.Kind.TheVariants as kinds
use Rattle.bb_code.specs.declared.op.Op.{Op}
use Rattle.bb_code.specs.declared.op.Op.TheVariants as put_ops
use Rattle.bb_schema.specs.Schema.{Schema, class_named}
use Rattle.bb_lang.specs.Binding.{Binding}
use Rattle.bb_lang.specs.Binding.TheVariants as bindings
use Rattle.bb_lang.specs.Sequence.{Sequence}
use Rattle.bb_lang.specs.Trees.{ExprTree}
use Rattle.bb_lang.specs.View.{sequence_of}
use Rattle.bb_compile_scope.specs.Kinds.{class_of, is_live}
use Rattle.bb_compile_scope.specs.LocalKinds.{is_free}
use Rattle.bb_compile_scope.specs.Place.{Place}
use Rattle.bb_compile_scope.specs.Slots.{partner_slot}
use Rattle.bb_compile_scope.specs.declared.fault.CompileFault.TheVariants.{At}
use Rattle.bb_compile_scope.specs.declared.fault.TextFlaw.{TextFlaw}
use Rattle.bb_compile_scope.specs.declared.fault.TextFlaw.TheVariants.{Unknown, Kind as WrongKind, Limit}
use Rattle.bb_compile_scope.specs.declared.scope.Scope.{Scope}
use Rattle.bb_compile_scope.proofs.Laws.{frees}
use Rattle.bb_compile_buffer.specs.declared.buffer.Buffer.{Buffer}
use Rattle.bb_compile_buffer.specs.Atoms.{unit_code, variable_code}
use Rattle.bb_compile_buffer.specs.Buffers.{noted, due, known, put, taken, take_local, declare}
use Rattle.bb_compile.specs.declared.exits.Exits.{Exits}
use Rattle.bb_compile.specs.Bindings.{one_exit, is_test, is_class, as_code, alive_and_as, alive_code, test_code, bound_as, as_named, with_as, partner_by, partner_in, with_partner, binding_code}
use Rattle.bb_compile.specs.Expressions.{expr_code, sequence_code}
use Rattle.bb_compile.specs.Statements.{if_code, with_code, loop_noted, for_code}
use Rattle.bb_theorem_grammar.specs.judged.Actions.{value_flaws}
use Rattle.bb_theorem_grammar.specs.judged.Atoms.{variable_flaws, unit_flaws}
use Rattle.bb_theorem_grammar.specs.judged.Expressions.{expr_kind, expr_flaws, sequence_class, sequence_flaws}
use Rattle.bb_theorem_grammar.specs.judged.Flaws.{least, if_so, if_other, fault_if}
use Rattle.bb_theorem_grammar.specs.judged.Names.{kind_of, unit_class}
use Rattle.bb_theorem_grammar.specs.judged.Statements.{binding_flaws, bound}
use Rattle.bb_theorem_grammar.specs.judged.Sums.{plus, ops, expr_sums, sequence_sums, test_count, binding_sums}
use Rattle.bb_theorem_grammar.proofs.judged_lemmas.faults.AgreeLemmas.{least_was}
use Rattle.bb_theorem_grammar.proofs.judged_lemmas.faults.AtomLemmas.{variable_judged, unit_judged}
use Rattle.bb_theorem_grammar.proofs.judged_lemmas.faults.BindLemmas.{There, sequence_there, Binds, binding_binds, tested}
use Rattle.bb_theorem_grammar.proofs.judged_lemmas.faults.ExprLemmas.{expr_judged, sequence_judged}
use Rattle.bb_theorem_grammar.proofs.judged_lemmas.laying.GiveLemmas.{Gives, gives_knowing, gives_known, settled_given}
use Rattle.bb_theorem_grammar.proofs.judged_lemmas.scopes.HoldLemmas.{least_on, Keeps, noted_if, Made, put_keeps, due_keeps, known_keeps}
use Rattle.bb_theorem_grammar.proofs.judged_lemmas.laying.LayActions.{declare_lays, lays_knowing}
use Rattle.bb_theorem_grammar.proofs.judged_lemmas.laying.LayExprs.{variable_lays, unit_lays, expr_lays, sequence_lays}
use Rattle.bb_theorem_grammar.proofs.judged_lemmas.laying.LayLemmas.{Laid, Lays, lays_then, lays_last, adds_none, Counts, lays_from, adds_noted, noted_counts, if_counts, due_counts, known_counts, itself, second, put_lays}
use Rattle.bb_theorem_grammar.proofs.judged_lemmas.scopes.LocalLemmas.{none_free}
use Rattle.bb_theorem_grammar.proofs.judged_lemmas.scopes.NameLemmas.{names_of}
use Rattle.bb_theorem_grammar.proofs.judged_lemmas.scopes.ScopeLemmas.{Tidy}

-- ---- `if`

module _ (schema : Schema) (place : Place) (scope : Scope) where
  pub if_gives : (condition : ExprTree) (at : Place) (s : Buffer) (seen : Option TextFlaw) → Keeps scope place seen s
      → Gives second (plus (expr_sums condition) (ops 1)) s (fault_if at (least seen (value_flaws schema (names_of scope) condition kinds.Bool))) (if_code schema condition at s)
  unfolding if_code
  if_gives condition at s seen k =
      let kind = expr_kind schema (names_of scope) condition in
      let one = expr_flaws schema (names_of scope) STACK_LIMIT condition in
      let two = if_other kind kinds.Bool in
      let flaw = least (least seen one) two in
      subst (λ f. Gives second (plus (expr_sums condition) (ops 1)) s (fault_if at f) (if_code schema condition at s)) (sym (least_on seen one two))
      (gives_knowing place (Made scope place kind (least seen one)) second second (expr_sums condition) (ops 1) s (fault_if at flaw) (expr_code schema STACK_LIMIT condition s) _
      (expr_judged schema scope place condition STACK_LIMIT s seen k) (expr_lays schema condition STACK_LIMIT s)
      (λ p made.
      let kept = subst (λ m. Keeps scope place flaw (due m kinds.Bool p.1)) (sym made.0) (due_keeps scope place kind kinds.Bool p.1 (least seen one) made.1) in
      gives_known place (Keeps scope place flaw) itself second (ops 1) p.1 (fault_if at flaw) (put (put_ops.Unless 0) (due p.0 kinds.Bool p.1)) _
      (put_keeps scope place (put_ops.Unless 0) (due p.0 kinds.Bool p.1) flaw kept)
      (lays_from itself (ops 1) p.1 (due p.0 kinds.Bool p.1) (put (put_ops.Unless 0) (due p.0 kinds.Bool p.1)) (due_counts p.0 kinds.Bool p.1) (put_lays (put_ops.Unless 0) (due p.0 kinds.Bool p.1)))
      (λ u last m. settled_given second (ops 1) p.1 at flaw u (Ok (one_exit (length p.1.ops), u)) last.flawed (λ none. m))))

  -- ---- `with`

  as_lays : (held : Kind) (class : ℕ) (s : Buffer) → Lays second (ops (test_count (Some held) (Some class))) s (test_code held class s)
  unfolding as_code alive_code
  as_lays held class s = by_live (is_live held)
    where
      one_more : (op : Op) (t : Buffer) (exits : Exits) → Lays second (ops 1) t (put op t >>= λ u. Ok (exits, u))
      one_more op t exits = lays_last itself second (ops 1) t (put op t) _ (put_lays op t) (λ u m. m)

      by_same : (b : Bool) → Lays second (ops (cond b 1 2)) s (put (put_ops.Alive 0) s >>= λ t. cond b (Ok (one_exit (length s.ops), t)) (alive_and_as (length s.ops) class t))
      by_same true = one_more (put_ops.Alive 0) s (one_exit (length s.ops))
      by_same false =
          lays_then itself second (ops 1) (ops 1) s (put (put_ops.Alive 0) s) _ (put_lays (put_ops.Alive 0) s)
          (λ t. lays_last itself second (ops 1) t (put (put_ops.As class 0) t) _ (put_lays (put_ops.As class 0) t) (λ u m. m))

      by_live : (b : Bool) → Lays second (ops (cond b 1 (cond (is_class (class_of held) class) 1 2))) s (cond b (as_code class s) (alive_code (is_class (class_of held) class) class s))
      by_live true = one_more (put_ops.As class 0) s (one_exit (length s.ops))
      by_live false = by_same (is_class (class_of held) class)

  -- a test, and then a name
  named_lays : (name : List ℕ) (class : ℕ) (exits : Exits) (t : Buffer) → 1 ≤ frees t.scope.kinds → Lays second (ops 1) t (declare name (kinds.Ref class) t >>= λ u. Ok (Some exits, u))
  named_lays name class exits t some = lays_last itself second (ops 1) t (declare name (kinds.Ref class) t) _ (declare_lays name (kinds.Ref class) t some) (λ u m. m)

  module _ (tidy : Tidy scope) (some : 1 ≤ frees scope.kinds) where
    free_in : (t : Buffer) (flaw : Option TextFlaw) → Keeps scope place flaw t → 1 ≤ frees t.scope.kinds
    free_in t flaw k = subst (λ (sc : Scope). 1 ≤ frees sc.kinds) (sym k.same) some

    bound_lays : (name : List ℕ) (held : Kind) (class : ℕ) (s : Buffer) (flaw : Option TextFlaw) → Keeps scope place flaw s → Lays second (plus (ops (test_count (Some held) (Some class))) (ops 1)) s (bound_as schema name held class s)
    bound_lays name held class s flaw k = by_test (is_test schema held class)
      where
        by_test : (b : Bool) → Lays second (plus (ops (test_count (Some held) (Some class))) (ops 1)) s (cond b (test_code held class s >>= λ p. declare name (kinds.Ref class) p.1 >>= λ u. Ok (Some p.0, u)) (Ok (None, noted WrongKind s)))
        by_test true =
            lays_knowing place (λ (p : Exits × Buffer). Keeps scope place flaw p.1) second second (ops (test_count (Some held) (Some class))) (ops 1) s (test_code held class s) _ (tested place scope tidy held class s flaw k) (as_lays held class s)
            (λ p kept. named_lays name class p.0 p.1 (free_in p.1 flaw kept))
        by_test false = λ room. adds_noted (plus (ops (test_count (Some held) (Some class))) (ops 1)) refl s (noted WrongKind s) (noted_counts WrongKind s)

    as_named_lays : (name : List ℕ) (held : Option Kind) (class : Option ℕ) (s : Buffer) (flaw : Option TextFlaw) → Keeps scope place flaw s → Lays second (plus (ops (test_count held class)) (ops 1)) s (as_named schema name held class s)
    as_named_lays name None None s flaw k = λ room. adds_none (plus (ops 0) (ops 1)) refl s
    as_named_lays name None (Some class) s flaw k = λ room. adds_none (plus (ops 0) (ops 1)) refl s
    as_named_lays name (Some held) None s flaw k = λ room. adds_none (plus (ops 0) (ops 1)) refl s
    as_named_lays name (Some held) (Some class) s flaw k = bound_lays name held class s flaw k

    partner_by_lays : (name : List ℕ) (r : Result (ℕ × ℕ) TextFlaw) (s : Buffer) (flaw : Option TextFlaw) → Keeps scope place flaw s → Lays second (plus (ops 1) (ops 1)) s (partner_by name r s)
    partner_by_lays name (Err wrong) s flaw k = λ room. adds_noted (plus (ops 1) (ops 1)) refl s (noted wrong s) (noted_counts wrong s)
    partner_by_lays name (Ok slot) s flaw k =
        lays_knowing place (Keeps scope place flaw) itself second (ops 1) (ops 1) s (put (put_ops.One slot.0 0) s) _ (put_keeps scope place (put_ops.One slot.0 0) s flaw k) (put_lays (put_ops.One slot.0 0) s)
        (λ t kept. named_lays name slot.1 (one_exit (length s.ops)) t (free_in t flaw kept))

    partner_in_lays : (name slot : List ℕ) (class : Option ℕ) (s : Buffer) (flaw : Option TextFlaw) → Keeps scope place flaw s → Lays second (plus (ops 1) (ops 1)) s (partner_in schema name slot class s)
    partner_in_lays name slot None s flaw k = λ room. adds_none (plus (ops 1) (ops 1)) refl s
    partner_in_lays name slot (Some class) s flaw k = partner_by_lays name (partner_slot schema class slot) s flaw k

    binding_lays : (binding : Binding) (s : Buffer) (seen : Option TextFlaw) → Keeps scope place seen s → Lays second (binding_sums schema (names_of scope) binding) s (binding_code schema binding s)
    unfolding with_as with_partner
    binding_lays (bindings.As name unit class_name) s seen k =
        let class = class_named schema class_name in
        let one = least seen (variable_flaws (names_of scope) STACK_LIMIT unit) in
        lays_knowing place (Made scope place (kind_of (names_of scope) unit) one) second second (ops 1) (plus (ops (test_count (kind_of (names_of scope) unit) class)) (ops 1)) s (variable_code unit STACK_LIMIT s) _
        (variable_judged scope place unit STACK_LIMIT s seen k) (variable_lays unit STACK_LIMIT s)
        (λ p made. lays_from second (plus (ops (test_count (kind_of (names_of scope) unit) class)) (ops 1)) p.1 (known class p.1) (as_named schema name p.0 class (known class p.1)) (known_counts class p.1)
        (subst (λ o. Lays second (plus (ops (test_count o class)) (ops 1)) (known class p.1) (as_named schema name p.0 class (known class p.1))) made.0
        (as_named_lays name p.0 class (known class p.1) _ (known_keeps scope place class p.1 one made.1))))
    binding_lays (bindings.Linked name unit slot) s seen k =
        let one = least seen (unit_flaws (names_of scope) STACK_LIMIT unit) in
        lays_knowing place (Made scope place (unit_class (names_of scope) unit) one) second second (ops 1) (plus (ops 1) (ops 1)) s (unit_code unit STACK_LIMIT s) _
        (unit_judged scope place unit STACK_LIMIT s seen k) (unit_lays unit STACK_LIMIT s) (λ p made. partner_in_lays name slot p.0 p.1 one made.1)

    pub with_gives : (binding : Binding) (at : Place) (s : Buffer) (seen : Option TextFlaw) → Keeps scope place seen s
        → Gives second (binding_sums schema (names_of scope) binding) s (fault_if at (least seen (binding_flaws schema (names_of scope) binding))) (with_code schema binding at s)
    unfolding with_code
    with_gives binding at s seen k =
        let flaw = least seen (binding_flaws schema (names_of scope) binding) in
        gives_known place (Binds place scope (bound schema (names_of scope) binding) flaw) second second (binding_sums schema (names_of scope) binding) s (fault_if at flaw) (binding_code schema binding s) _
        (binding_binds place scope tidy schema binding s seen k) (binding_lays binding s seen k)
        (λ p b m. settled_given second (binding_sums schema (names_of scope) binding) s at flaw p.1 (ok_or p.0 (At Unknown at) >>= λ exits. Ok (exits, p.1)) b.flawed
        (λ none. subst (λ o. Laid second (binding_sums schema (names_of scope) binding) s (ok_or o (At Unknown at) >>= λ exits. Ok (exits, p.1))) (sym (b.named none).1) m))

    -- ---- `for`

    take_lays : (class : ℕ) (s : Buffer) → 1 ≤ frees s.scope.kinds → Lays (second {X = ℕ × ℕ}) (ops 1) s (take_local (kinds.Seq class) s >>= λ p. put (put_ops.Store p.0) p.1 >>= λ v. Ok ((class, p.0), v))
    unfolding take_local
    take_lays class s free = by_first (position is_free s.scope.kinds) refl
      where
        by_first : (o : Option ℕ) → position is_free s.scope.kinds ≡ o → Lays (second {X = ℕ × ℕ}) (ops 1) s (taken o (kinds.Seq class) s >>= λ p. put (put_ops.Store p.0) p.1 >>= λ v. Ok ((class, p.0), v))
        by_first None first = absurd (let none = none_free s.scope.kinds (sym (position_spot is_free s.scope.kinds) ∙ first) in omega (arith, none, free))
        by_first (Some local) first =
            let t : Buffer = record s { scope = record { names = s.scope.names; kinds = set s.scope.kinds local (kinds.Seq class) }; locals = max s.locals (local + 1) } in
            lays_last itself (second {X = ℕ × ℕ}) (ops 1) s (put (put_ops.Store local) t) _
            (lays_from itself (ops 1) s t (put (put_ops.Store local) t) (record { ops_are = refl; texts_are = refl; queries_are = refl; loops_are = refl }) (put_lays (put_ops.Store local) t)) (λ u m. m)

    pub for_gives : (sequence : Sequence) (at : Place) (loops : ℕ) (s : Buffer) (seen : Option TextFlaw) → Keeps scope place seen s
        → Gives (second {X = ℕ × ℕ}) (plus (sequence_sums (sequence_of sequence)) (ops 1)) s (fault_if at (least seen (sequence_flaws schema (names_of scope) STACK_LIMIT (sequence_of sequence) ++ if_so (loops == 0) Limit))) (for_code schema sequence at loops s)
    unfolding for_code
    for_gives sequence at loops s seen k =
        let class = sequence_class schema (names_of scope) (sequence_of sequence) in
        let one = sequence_flaws schema (names_of scope) STACK_LIMIT (sequence_of sequence) in
        let deep = if_so (loops == 0) Limit in
        let flaw = least (least seen one) deep in
        subst (λ f. Gives (second {X = ℕ × ℕ}) (plus (sequence_sums (sequence_of sequence)) (ops 1)) s (fault_if at f) (for_code schema sequence at loops s)) (sym (least_on seen one deep))
        (gives_knowing place (Made scope place class (least seen one)) second (second {X = ℕ × ℕ}) (sequence_sums (sequence_of sequence)) (ops 1) s (fault_if at flaw) (sequence_code schema STACK_LIMIT (sequence_of sequence) s) _
        (sequence_judged schema scope place (sequence_of sequence) STACK_LIMIT s seen k) (sequence_lays schema (sequence_of sequence) STACK_LIMIT s)
        (λ p made room.
        let t = loop_noted loops p.1 in
        let kept = noted_if scope place (loops == 0) Limit p.1 (least seen one) made.1 in
        settled_given (second {X = ℕ × ℕ}) (ops 1) p.1 at flaw t (ok_or p.0 (At Unknown at) >>= λ c. take_local (kinds.Seq c) t >>= λ q. put (put_ops.Store q.0) q.1 >>= λ v. Ok ((c, q.0), v)) kept.flawed
        (λ none. by_class p.0 class made.0 (sequence_there schema (names_of scope) STACK_LIMIT (sequence_of sequence) seen (least_was (least seen one) deep none)) p.1 t (if_counts (loops == 0) Limit p.1) (free_in t flaw kept) room)))
      where
        by_class : (found o : Option ℕ) → found ≡ o → There o → (t u : Buffer) → Counts t u → 1 ≤ frees u.scope.kinds
            → Lays (second {X = ℕ × ℕ}) (ops 1) t (ok_or found (At Unknown at) >>= λ c. take_local (kinds.Seq c) u >>= λ q. put (put_ops.Store q.0) q.1 >>= λ v. Ok ((c, q.0), v))
        by_class found None same there t u c free = absurd there
        by_class found (Some class) same there t u c free =
            subst (λ f. Lays (second {X = ℕ × ℕ}) (ops 1) t (ok_or f (At Unknown at) >>= λ d. take_local (kinds.Seq d) u >>= λ q. put (put_ops.Store q.0) q.1 >>= λ v. Ok ((d, q.0), v))) (sym same)
            (lays_from (second {X = ℕ × ℕ}) (ops 1) t u (take_local (kinds.Seq class) u >>= λ q. put (put_ops.Store q.0) q.1 >>= λ v. Ok ((class, q.0), v)) c (take_lays class u free))
