-- Statements and blocks: the compiler refuses the first one with a flaw of the judgement, or leaves its names.
use Rattle.std.proofs.Common.{◌≡◌, ℕ, ◌-◌, Bool, true, false, ◌&&◌, ◌||◌, List, [], ◌++◌, length, Option, Some, None, Result, Ok, refl, subst, sym, ap, ◌∙◌}
use Rattle.std.specs.Prelude.{◌==◌}
use Rattle.std.specs.Option.{ok_or}
use Rattle.bb_basis.specs.Results.{◌>>=◌}
use Rattle.bb_code.specs.declared.parts.TheConstants.{STACK_LIMIT}
use Rattle.bb_code.specs.declared.frame.Kind.TheVariants as kinds
use Rattle.bb_code.specs.declared.op.Op.TheVariants as ops
use Rattle.bb_schema.specs.Schema.{Schema}
use Rattle.bb_verify_effect.specs.declared.part.Part.{Part}
use Rattle.bb_lang.specs.Action.{Action}
use Rattle.bb_lang.specs.Binding.{Binding}
use Rattle.bb_lang.specs.Blocks.{BlockTree, StatementTree, OtherwiseTree, no_statement, before_others, action, if_of, with_of, for_of, absent, otherwise}
use Rattle.bb_lang.specs.Sequence.{Sequence}
use Rattle.bb_lang.specs.Trees.{ExprTree}
use Rattle.bb_lang.specs.View.{sequence_of}
use Rattle.bb_compile_scope.specs.Ending.{ends, always_ends, otherwise_ends, block_ends}
use Rattle.bb_compile_scope.specs.Killed.{killed_under}
use Rattle.bb_compile_scope.specs.Place.{Place}
use Rattle.bb_compile_scope.specs.Scope.{mark_of, back_to}
use Rattle.bb_compile_scope.specs.declared.fault.CompileFault.{CompileFault}
use Rattle.bb_compile_scope.specs.declared.fault.CompileFault.TheVariants.{At}
use Rattle.bb_compile_scope.specs.declared.fault.TextFlaw.{TextFlaw}
use Rattle.bb_compile_scope.specs.declared.fault.TextFlaw.TheVariants.{Unknown, NoEnd, Limit}
use Rattle.bb_compile_scope.specs.declared.scope.Scope.{Scope}
use Rattle.bb_compile_buffer.specs.declared.buffer.Buffer.{Buffer}
use Rattle.bb_compile_buffer.specs.Buffers.{due, put, labelled, leave}
use Rattle.bb_compile.specs.declared.exits.Exits.{Exits}
use Rattle.bb_compile.specs.Actions.{action_code}
use Rattle.bb_compile.specs.Bindings.{one_exit, binding_code}
use Rattle.bb_compile.specs.Expressions.{expr_code}
use Rattle.bb_compile.specs.Statements.{if_code, with_code, for_code, loop_begun, loop_ended, else_begun, else_ended, left, after_end, action_of, statement_code, otherwise_code, statements_code}
use Rattle.bb_theorem_grammar.specs.judged.Actions.{value_flaws, action_flaws, after_action}
use Rattle.bb_theorem_grammar.specs.judged.Expressions.{expr_kind, expr_flaws, sequence_class, sequence_flaws}
use Rattle.bb_theorem_grammar.specs.judged.Flaws.{least, if_so, if_other, fault_if, fault_at}
use Rattle.bb_theorem_grammar.specs.judged.Killed.{at_start}
use Rattle.bb_theorem_grammar.specs.judged.Names.{Names, with_named, with_unit, holding, joined}
use Rattle.bb_theorem_grammar.specs.judged.Names as judged
use Rattle.bb_theorem_grammar.specs.judged.Statements.{binding_flaws, bound, looped, in_loop, after_statement, after_branches, after_statements, statement_faults, otherwise_faults, statements_faults}
use Rattle.bb_theorem_grammar.proofs.judged_lemmas.faults.ActionLemmas.{action_judged}
use Rattle.bb_theorem_grammar.proofs.judged_lemmas.faults.AgreeLemmas.{Agrees, agrees_then, agrees_last, holds_agrees, holds_clean, agrees_map, settle}
use Rattle.bb_theorem_grammar.proofs.judged_lemmas.faults.BindLemmas.{Binds, binding_binds}
use Rattle.bb_theorem_grammar.proofs.judged_lemmas.faults.BranchLemmas.{Levelled, Leaves, level_moves, block_left, twice_left, absent_levels, else_keeps, else_levels}
use Rattle.bb_theorem_grammar.proofs.judged_lemmas.faults.ExprLemmas.{expr_judged}
use Rattle.bb_theorem_grammar.proofs.judged_lemmas.scopes.HoldLemmas.{least_on, Keeps, noted_if, holds_then, Made, put_keeps, due_keeps}
use Rattle.bb_theorem_grammar.proofs.judged_lemmas.scopes.KilledLemmas.{start_comes}
use Rattle.bb_theorem_grammar.proofs.judged_lemmas.faults.LoopLemmas.{IsFor, for_agrees, IsBegun, begun_holds, ended_holds}
use Rattle.bb_theorem_grammar.proofs.judged_lemmas.scopes.MoveLemmas.{Moves, stay_moves}
use Rattle.bb_theorem_grammar.proofs.judged_lemmas.scopes.NameLemmas.{names_of}
use Rattle.bb_theorem_grammar.proofs.judged_lemmas.scopes.ScopeLemmas.{Tidy, Onto, onto_on, onto_level, level_left, names_left}

-- ---- whether statements end

or_false : (b : Bool) → b ≡ (b || false)
or_false true = refl
or_false false = refl

or_on : (a b c : Bool) → ((a || b) || c) ≡ (a || (b || c))
or_on true b c = refl
or_on false b c = refl

and_false : (b : Bool) → false ≡ (b && false)
and_false true = refl
and_false false = refl

module _ (schema : Schema) (part : Part) (place : Place) where
  -- what was seen before a statement
  abbrev pub seen_if : Bool → Option TextFlaw
  seen_if ended = least None (if_so ended NoEnd)

  -- the fault of a statement, where the flaws that were seen before it are noted first
  pub noted_before : {X : Type 0} (at : Place) (ended : Bool) (flaws : List TextFlaw) (P : X → Type 0) (r : Result X CompileFault) → Agrees place (fault_if at (least (seen_if ended) flaws)) P r → Agrees place (fault_at at (if_so ended NoEnd ++ flaws)) P r
  noted_before at ended flaws P r h = subst (λ f. Agrees place (fault_if at f) P r) (sym (least_on None (if_so ended NoEnd) flaws)) h

  -- ---- heads

  action_agrees : (scope : Scope) (tidy : Tidy scope) (a : Action) (at : Place) (ended : Bool) (s : Buffer) → Keeps scope place (seen_if ended) s
      → Agrees place (fault_at at (if_so ended NoEnd ++ action_flaws schema part (names_of scope) a)) (Leaves place scope (after_action schema (names_of scope) a) (ends a)) (action_of schema part at a s)
  action_agrees scope tidy a at ended s k =
      let flaws = action_flaws schema part (names_of scope) a in
      let names = after_action schema (names_of scope) a in
      let flaw = least (seen_if ended) flaws in
      noted_before at ended flaws (Leaves place scope names (ends a)) (action_of schema part at a s)
      (holds_agrees place (fault_if at flaw) (Moves place scope names flaw) (Leaves place scope names (ends a)) (action_code schema part a s) _ (action_judged schema scope place tidy part a s (seen_if ended) k)
      (λ t m. settle place at flaw t (Leaves place scope names (ends a)) (Ok (ends a, t)) m.flawed
      (λ none. (refl, (refl, record { begun = m.begun; flawed = m.flawed ∙ none; onto = m.onto; named = m.named })))))

  pub if_agrees : (scope : Scope) (test : ExprTree) (at : Place) (ended : Bool) (s : Buffer) → Keeps scope place (seen_if ended) s
      → Agrees place (fault_at at (if_so ended NoEnd ++ value_flaws schema (names_of scope) test kinds.Bool)) (λ (p : Exits × Buffer). Keeps scope place None p.1) (if_code schema test at s)
  unfolding if_code
  if_agrees scope test at ended s k =
      let kind = expr_kind schema (names_of scope) test in
      let one = expr_flaws schema (names_of scope) STACK_LIMIT test in
      let two = if_other kind kinds.Bool in
      let flaw = least (least (seen_if ended) one) two in
      noted_before at ended (one ++ two) (λ (p : Exits × Buffer). Keeps scope place None p.1) (if_code schema test at s)
      (subst (λ f. Agrees place (fault_if at f) (λ (p : Exits × Buffer). Keeps scope place None p.1) (if_code schema test at s)) (sym (least_on (seen_if ended) one two))
      (holds_agrees place (fault_if at flaw) (Made scope place kind (least (seen_if ended) one)) (λ (p : Exits × Buffer). Keeps scope place None p.1) (expr_code schema STACK_LIMIT test s) _ (expr_judged schema scope place test STACK_LIMIT s (seen_if ended) k)
      (λ p made. holds_agrees place (fault_if at flaw) (Keeps scope place flaw) (λ (q : Exits × Buffer). Keeps scope place None q.1) (put (ops.Unless 0) (due p.0 kinds.Bool p.1)) _
      (put_keeps scope place (ops.Unless 0) (due p.0 kinds.Bool p.1) flaw (subst (λ m. Keeps scope place flaw (due m kinds.Bool p.1)) (sym made.0) (due_keeps scope place kind kinds.Bool p.1 (least (seen_if ended) one) made.1)))
      (λ u kept. settle place at flaw u (λ (q : Exits × Buffer). Keeps scope place None q.1) (Ok (one_exit (length p.1.ops), u)) kept.flawed
      (λ none. (refl, record { same = kept.same; begun = kept.begun; flawed = kept.flawed ∙ none }))))))

  pub with_agrees : (scope : Scope) (tidy : Tidy scope) (binding : Binding) (at : Place) (ended : Bool) (s : Buffer) → Keeps scope place (seen_if ended) s
      → Agrees place (fault_at at (if_so ended NoEnd ++ binding_flaws schema (names_of scope) binding)) (λ (p : Exits × Buffer). Moves place scope (bound schema (names_of scope) binding) None p.1) (with_code schema binding at s)
  unfolding with_code
  with_agrees scope tidy binding at ended s k =
      let names = bound schema (names_of scope) binding in
      let flaws = binding_flaws schema (names_of scope) binding in
      let flaw = least (seen_if ended) flaws in
      noted_before at ended flaws (λ (p : Exits × Buffer). Moves place scope names None p.1) (with_code schema binding at s)
      (holds_agrees place (fault_if at flaw) (Binds place scope names flaw) (λ (p : Exits × Buffer). Moves place scope names None p.1) (binding_code schema binding s) _ (binding_binds place scope tidy schema binding s (seen_if ended) k)
      (λ p b. settle place at flaw p.1 (λ (q : Exits × Buffer). Moves place scope names None q.1) (ok_or p.0 (At Unknown at) >>= λ exits. Ok (exits, p.1)) b.flawed
      (λ none. let n = b.named none in
      subst (λ o. Agrees place [] (λ (q : Exits × Buffer). Moves place scope names None q.1) (ok_or o (At Unknown at) >>= λ exits. Ok (exits, p.1))) (sym n.1)
      (refl, record { begun = b.begun; flawed = b.flawed ∙ none; onto = n.2; named = n.3 }))))

  -- ---- blocks

  -- what is shown of a block, where it begins with a scope
  abbrev IsGone : (loops : ℕ) → (ended : Bool) → BlockTree → Type 0
  IsGone loops ended b = (scope : Scope) → Tidy scope → (s : Buffer) → Keeps scope place None s
      → Agrees place (statements_faults schema part loops ended (names_of scope) b) (Leaves place scope (after_statements schema (names_of scope) b) (ended || block_ends b)) (statements_code schema part loops ended b s)

  -- a block after another scope, whose names it forgets
  pub block_agrees_after : (scope : Scope) (tidy : Tidy scope) (inner : Names) (loops : ℕ) (b : BlockTree) (t : Buffer) → Moves place scope inner None t → IsGone loops false b
      → Agrees place (statements_faults schema part loops false inner b)
      (λ (r : Bool × Buffer). (r.0 ≡ block_ends b) × Levelled place scope (judged.back_to (names_of scope) (after_statements schema inner b)) (leave (mark_of scope) r.1))
      (statements_code schema part loops false b t >>= left (mark_of t.scope))
  block_agrees_after scope tidy inner loops b t m gone =
      subst (λ names. Agrees place (statements_faults schema part loops false names b)
      (λ (r : Bool × Buffer). (r.0 ≡ block_ends b) × Levelled place scope (judged.back_to (names_of scope) (after_statements schema names b)) (leave (mark_of scope) r.1))
      (statements_code schema part loops false b t >>= left (mark_of t.scope))) m.named
      (agrees_last place (statements_faults schema part loops false (names_of t.scope) b) (Leaves place t.scope (after_statements schema (names_of t.scope) b) (block_ends b))
      (λ (r : Bool × Buffer). (r.0 ≡ block_ends b) × Levelled place scope (judged.back_to (names_of scope) (after_statements schema (names_of t.scope) b)) (leave (mark_of scope) r.1))
      (statements_code schema part loops false b t) (left (mark_of t.scope))
      (gone t.scope m.onto.tidy t (record { same = refl; begun = m.begun; flawed = m.flawed }))
      (λ r leaves. (refl, (leaves.0, twice_left place scope tidy t.scope (after_statements schema (names_of t.scope) b) r.1 m.onto leaves.1))))

  -- what comes after the first block, which leaves these names
  abbrev IsOther : (loops : ℕ) → OtherwiseTree → Type 0
  IsOther loops other = (scope : Scope) → Tidy scope → (one : Names) (ended : Bool) (exits : Exits) (u : Buffer) → Levelled place scope one u
      → Agrees place (otherwise_faults schema part loops (names_of scope) other) (Leaves place scope (after_branches schema (names_of scope) ended one other) (ended && otherwise_ends other))
      (otherwise_code schema part loops (record { before = mark_of scope; exits = exits; ended = ended }) other u)

  absent_agrees : (loops : ℕ) → IsOther loops absent
  unfolding otherwise_faults after_branches otherwise_code otherwise_ends
  absent_agrees loops scope tidy one ended exits u l =
      (refl, (and_false ended, level_moves place scope tidy (joined ended (names_of scope) false one) _ (absent_levels place scope tidy one ended exits u l)))

  else_agrees : (loops : ℕ) (b : BlockTree) → IsGone loops false b → IsOther loops (otherwise b)
  unfolding otherwise_faults after_branches otherwise_code otherwise_ends
  else_agrees loops b gone scope tidy one ended exits u l =
      let faults = statements_faults schema part loops false (names_of scope) b in
      let names = judged.back_to (names_of scope) (after_statements schema (names_of scope) b) in
      let all = joined (block_ends b) one ended names in
      holds_agrees place faults (λ (p : ℕ × Buffer). Keeps scope place None p.1) (Leaves place scope all (ended && block_ends b)) (else_begun (record { before = mark_of scope; exits = exits; ended = ended }) u) _ (else_keeps place scope tidy one ended exits u l)
      (λ p kept. agrees_last place faults (λ (r : Bool × Buffer). (r.0 ≡ block_ends b) × Levelled place scope names r.1) (Leaves place scope all (ended && block_ends b)) (statements_code schema part loops false b p.1 >>= left (mark_of p.1.scope)) _
      (agrees_last place faults (Leaves place scope (after_statements schema (names_of scope) b) (block_ends b)) (λ (r : Bool × Buffer). (r.0 ≡ block_ends b) × Levelled place scope names r.1) (statements_code schema part loops false b p.1) (left (mark_of p.1.scope))
      (gone scope tidy p.1 kept) (λ r leaves. (refl, (leaves.0, block_left place scope tidy (after_statements schema (names_of scope) b) p.1.scope r.1 kept.same leaves.1))))
      (λ r last. (
        refl,
        (
          ap (λ e. ended && e) last.0,
          subst (λ e. Moves place scope (joined e one ended names) None (else_ended (record { before = mark_of scope; exits = exits; ended = ended }) p.0 u.scope.kinds r.0 r.1)) last.0
              (level_moves place scope tidy (joined r.0 one ended names) _ (else_levels place scope tidy u.scope names one ended exits p.0 r.0 r.1 l.level l.named last.1)),
        ),
      )))

  -- the blocks of an `if` or a `with`, after its test
  branches_agree : (scope : Scope) (tidy : Tidy scope) (sc : Scope) (inner : Names) (loops : ℕ) (first : BlockTree) (other : OtherwiseTree) (exits : Exits) (t : Buffer) → sc ≡ scope → Moves place scope inner None t → IsGone loops false first → IsOther loops other
      → Agrees place (statements_faults schema part loops false inner first ++ otherwise_faults schema part loops (names_of scope) other)
      (Leaves place scope (after_branches schema (names_of scope) (block_ends first) (judged.back_to (names_of scope) (after_statements schema inner first)) other) (block_ends first && otherwise_ends other))
      ((statements_code schema part loops false first t >>= left (mark_of t.scope)) >>= λ r. otherwise_code schema part loops (record { before = mark_of sc; exits = exits; ended = r.0 }) other (leave (mark_of sc) r.1))
  branches_agree scope tidy sc inner loops first other exits t same m gone rest =
      let one = judged.back_to (names_of scope) (after_statements schema inner first) in
      subst (λ (c : Scope). Agrees place (statements_faults schema part loops false inner first ++ otherwise_faults schema part loops (names_of scope) other)
      (Leaves place scope (after_branches schema (names_of scope) (block_ends first) one other) (block_ends first && otherwise_ends other))
      ((statements_code schema part loops false first t >>= left (mark_of t.scope)) >>= λ r. otherwise_code schema part loops (record { before = mark_of c; exits = exits; ended = r.0 }) other (leave (mark_of c) r.1))) (sym same)
      (agrees_then place (statements_faults schema part loops false inner first) (otherwise_faults schema part loops (names_of scope) other)
      (λ (r : Bool × Buffer). (r.0 ≡ block_ends first) × Levelled place scope one (leave (mark_of scope) r.1))
      (Leaves place scope (after_branches schema (names_of scope) (block_ends first) one other) (block_ends first && otherwise_ends other))
      (statements_code schema part loops false first t >>= left (mark_of t.scope)) _ (block_agrees_after scope tidy inner loops first t m gone)
      (λ r l. subst (λ e. Agrees place (otherwise_faults schema part loops (names_of scope) other)
      (Leaves place scope (after_branches schema (names_of scope) e one other) (e && otherwise_ends other))
      (otherwise_code schema part loops (record { before = mark_of scope; exits = exits; ended = r.0 }) other (leave (mark_of scope) r.1))) l.0
      (rest scope tidy one r.0 exits (leave (mark_of scope) r.1) l.1)))

  -- ---- loops

  loop_agrees : (scope : Scope) (tidy : Tidy scope) (sc : Scope) (name : List ℕ) (sequence : Sequence) (loops : ℕ) (body : BlockTree) (p : (ℕ × ℕ) × Buffer) → sc ≡ scope
      → IsFor schema place scope tidy (sequence_class schema (names_of scope) (sequence_of sequence)) p → IsGone (loops - 1) false body
      → Agrees place (statements_faults schema part (loops - 1) false (in_loop schema (names_of scope) name sequence body) body)
      (Leaves place scope (judged.back_to (names_of scope) (looped schema (names_of scope) name sequence body)) false)
      (loop_begun schema name p.0.0 p.0.1 body p.1 >>= λ q. (statements_code schema part (loops - 1) false body q.1 >>= left (mark_of q.1.scope)) >>= λ r. loop_ended q.0 r.0 r.1 >>= λ w. Ok (false, labelled (leave (mark_of sc) w)))
  unfolding labelled
  loop_agrees scope tidy sc name sequence loops body p same f gone =
      let t = p.1 in
      let k = killed_under schema t.scope name (Some p.0.0) body in
      let comes = start_comes schema name (Some p.0.0) body t.scope f.1.onto.tidy in
      let started = at_start schema name (Some p.0.0) body (holding (names_of scope)) in
      let named : names_of k ≡ started = comes.named ∙ ap (at_start schema name (Some p.0.0) body) f.1.named in
      let onto = onto_on scope t.scope k f.1.onto comes.onto in
      let inner = with_named name (kinds.Ref p.0.0) started in
      let faults = statements_faults schema part (loops - 1) false inner body in
      subst (λ class. Agrees place (statements_faults schema part (loops - 1) false (with_unit name class (at_start schema name class body (holding (names_of scope)))) body)
      (Leaves place scope (judged.back_to (names_of scope) (at_start schema name class body (holding (names_of scope)))) false)
      (loop_begun schema name p.0.0 p.0.1 body t >>= λ q. (statements_code schema part (loops - 1) false body q.1 >>= left (mark_of q.1.scope)) >>= λ r. loop_ended q.0 r.0 r.1 >>= λ w. Ok (false, labelled (leave (mark_of sc) w)))) (sym f.0)
      (holds_agrees place faults (IsBegun place k name p.0.0) (Leaves place scope (judged.back_to (names_of scope) started) false) (loop_begun schema name p.0.0 p.0.1 body t) _
      (begun_holds schema place name p.0.0 p.0.1 body t f.1.begun f.1.flawed comes.onto.tidy)
      (λ q begun.
      let moves = subst (λ n. Moves place k (with_named name (kinds.Ref p.0.0) n) None q.1) named begun.1 in
      let faulty = subst (λ n. Agrees place (statements_faults schema part (loops - 1) false n body) (Leaves place q.1.scope (after_statements schema n body) (block_ends body)) (statements_code schema part (loops - 1) false body q.1)) moves.named
      (gone q.1.scope moves.onto.tidy q.1 (record { same = refl; begun = moves.begun; flawed = moves.flawed })) in
      agrees_last place faults (λ (r : Bool × Buffer). (r.1.scope.names ≡ k.names ++ moves.onto.more) × (r.1.start ≡ place) × (r.1.flaw ≡ None)) (Leaves place scope (judged.back_to (names_of scope) started) false) (statements_code schema part (loops - 1) false body q.1 >>= left (mark_of q.1.scope)) _
      (agrees_last place faults (Leaves place q.1.scope (after_statements schema inner body) (block_ends body)) (λ (r : Bool × Buffer). (r.1.scope.names ≡ k.names ++ moves.onto.more) × (r.1.start ≡ place) × (r.1.flaw ≡ None)) (statements_code schema part (loops - 1) false body q.1) (left (mark_of q.1.scope)) faulty
      (λ r leaves. (refl, ((level_left q.1.scope r.1.scope leaves.1.onto).names ∙ moves.onto.names, leaves.1.begun, leaves.1.flawed))))
      (λ r last. holds_clean place (Leaves place scope (judged.back_to (names_of scope) started) false) (Leaves place scope (judged.back_to (names_of scope) started) false) (loop_ended q.0 r.0 r.1 >>= λ w. Ok (false, labelled (leave (mark_of sc) w))) (λ x l. l)
      (holds_then place (Keeps k place None) (Leaves place scope (judged.back_to (names_of scope) started) false) (loop_ended q.0 r.0 r.1) _ (ended_holds place k q.0 r.0 r.1 moves.onto.more begun.0 last.0 last.1 last.2)
      (λ w kept. (
        refl,
        subst (λ (c : Scope). Moves place scope (judged.back_to (names_of scope) started) None (labelled (leave (mark_of c) w))) (sym same) (record {
          begun = kept.begun;
          flawed = kept.flawed;
          onto = subst (λ (c : Scope). Onto scope (back_to (mark_of scope) c)) (sym kept.same) (onto_level scope (back_to (mark_of scope) k) (level_left scope k onto) tidy);
          named = ap (λ (c : Scope). names_of (back_to (mark_of scope) c)) kept.same ∙ (names_left scope k tidy onto ∙ ap (judged.back_to (names_of scope)) named);
        }),
      ))))))

  -- ---- all of them

  mutual
    unfolding statement_faults after_statement always_ends statement_code otherwise_code

    pub statement_agrees : (x : StatementTree) (loops : ℕ) (at : Place) (ended : Bool) (scope : Scope) → Tidy scope → (s : Buffer) → Keeps scope place (seen_if ended) s
        → Agrees place (statement_faults schema part loops ended (names_of scope) at x) (Leaves place scope (after_statement schema (names_of scope) x) (always_ends x)) (statement_code schema part loops at x s)
    statement_agrees (action a) loops at ended scope tidy s k = action_agrees scope tidy a at ended s k
    statement_agrees (if_of test first other) loops at ended scope tidy s k =
        agrees_then place (fault_at at (if_so ended NoEnd ++ value_flaws schema (names_of scope) test kinds.Bool)) (statements_faults schema part loops false (names_of scope) first ++ otherwise_faults schema part loops (names_of scope) other)
        (λ (p : Exits × Buffer). Keeps scope place None p.1)
        (Leaves place scope (after_statement schema (names_of scope) (if_of test first other)) (block_ends first && otherwise_ends other))
        (if_code schema test at s) _ (if_agrees scope test at ended s k)
        (λ p kept. branches_agree scope tidy p.1.scope (names_of scope) loops first other p.0 p.1 kept.same (stay_moves place scope tidy None p.1 kept) (block_agrees first loops false) (other_agrees other loops))
    statement_agrees (with_of binding first other) loops at ended scope tidy s k =
        agrees_then place (fault_at at (if_so ended NoEnd ++ binding_flaws schema (names_of scope) binding)) (statements_faults schema part loops false (bound schema (names_of scope) binding) first ++ otherwise_faults schema part loops (names_of scope) other)
        (λ (p : Exits × Buffer). Moves place scope (bound schema (names_of scope) binding) None p.1)
        (Leaves place scope (after_statement schema (names_of scope) (with_of binding first other)) (block_ends first && otherwise_ends other))
        (with_code schema binding at s) _ (with_agrees scope tidy binding at ended s k)
        (λ p m. branches_agree scope tidy s.scope (bound schema (names_of scope) binding) loops first other p.0 p.1 k.same m (block_agrees first loops false) (other_agrees other loops))
    statement_agrees (for_of name sequence body) loops at ended scope tidy s k =
        let flaws = sequence_flaws schema (names_of scope) STACK_LIMIT (sequence_of sequence) ++ if_so (loops == 0) Limit in
        let class = sequence_class schema (names_of scope) (sequence_of sequence) in
        agrees_then place (fault_at at (if_so ended NoEnd ++ flaws)) (statements_faults schema part (loops - 1) false (in_loop schema (names_of scope) name sequence body) body)
        (IsFor schema place scope tidy class) (Leaves place scope (after_statement schema (names_of scope) (for_of name sequence body)) false)
        (for_code schema sequence at loops s) _
        (noted_before at ended flaws (IsFor schema place scope tidy class) (for_code schema sequence at loops s) (for_agrees schema place scope tidy sequence at loops s (seen_if ended) k))
        (λ p f. loop_agrees scope tidy s.scope name sequence loops body p k.same f (block_agrees body (loops - 1) false))

    other_agrees : (other : OtherwiseTree) (loops : ℕ) → IsOther loops other
    other_agrees absent loops = absent_agrees loops
    other_agrees (otherwise b) loops = else_agrees loops b (block_agrees b loops false)

    pub block_agrees : (b : BlockTree) (loops : ℕ) (ended : Bool) → IsGone loops ended b
    block_agrees no_statement loops ended scope tidy s k = (refl, (or_false ended, stay_moves place scope tidy None s k))
    block_agrees (before_others at x others) loops ended scope tidy s k =
        let names = after_statement schema (names_of scope) x in
        agrees_then place (statement_faults schema part loops ended (names_of scope) at x) (statements_faults schema part loops (ended || always_ends x) names others)
        (Leaves place scope names (always_ends x)) (Leaves place scope (after_statements schema names others) (ended || (always_ends x || block_ends others)))
        (statement_code schema part loops at x (after_end ended s)) _
        (statement_agrees x loops at ended scope tidy (after_end ended s) (noted_if scope place ended NoEnd s None k))
        (λ p leaves. agrees_map place (statements_faults schema part loops (ended || always_ends x) names others)
        (Leaves place p.1.scope (after_statements schema names others) ((ended || always_ends x) || block_ends others))
        (Leaves place scope (after_statements schema names others) (ended || (always_ends x || block_ends others)))
        (statements_code schema part loops (ended || p.0) others p.1)
        (λ q l. (
          l.0 ∙ or_on ended (always_ends x) (block_ends others),
          record {
            begun = l.1.begun;
            flawed = l.1.flawed;
            onto = onto_on scope p.1.scope q.1.scope leaves.1.onto l.1.onto;
            named = l.1.named;
          },
        ))
        (subst (λ e. Agrees place (statements_faults schema part loops (ended || e) names others) (Leaves place p.1.scope (after_statements schema names others) ((ended || e) || block_ends others)) (statements_code schema part loops (ended || p.0) others p.1)) leaves.0
        (subst (λ n. Agrees place (statements_faults schema part loops (ended || p.0) n others) (Leaves place p.1.scope (after_statements schema n others) ((ended || p.0) || block_ends others)) (statements_code schema part loops (ended || p.0) others p.1)) leaves.1.named
        (block_agrees others loops (ended || p.0) p.1.scope leaves.1.onto.tidy p.1 (record { same = refl; begun = leaves.1.begun; flawed = leaves.1.flawed })))))
