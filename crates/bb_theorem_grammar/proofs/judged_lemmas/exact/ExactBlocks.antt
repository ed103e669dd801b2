-- What statements and blocks that are not refused lay out, and that there was room for their names.
use Rattle.std.proofs.Common.{◌≡◌, ◌≤◌, ℕ, ◌-◌, Bool, true, false, ◌&&◌, ◌||◌, cond, List, ◌++◌, Some, None, Ok, refl, subst, sym, ap, ◌∙◌}
use Rattle.std.specs.Prelude.{◌==◌}
use Rattle.std.proofs.lemmas.Bool.{le-leb, and_from}
use Rattle.bb_basis.specs.Results.{◌>>=◌}
use Rattle.bb_code.specs.declared.parts.TheConstants.{STACK_LIMIT}
use Rattle.bb_code.specs.declared.frame.Kind.TheVariants as kinds
use Rattle.bb_schema.specs.Schema.{Schema}
use Rattle.bb_verify_effect.specs.declared.part.Part.{Part}
use Rattle.bb_lang.specs.Action.{Action}
use Rattle.bb_lang.specs.Blocks.{BlockTree, StatementTree, OtherwiseTree, no_statement, before_others, action, if_of, with_of, for_of, absent, otherwise}
use Rattle.bb_lang.specs.Sequence.{Sequence}
use Rattle.bb_lang.specs.View.{sequence_of}
use Rattle.bb_compile_scope.specs.Ending.{ends, always_ends, block_ends}
use Rattle.bb_compile_scope.specs.Killed.{killed_under}
use Rattle.bb_compile_scope.specs.Place.{Place}
use Rattle.bb_compile_scope.specs.Scope.{mark_of}
use Rattle.bb_compile_scope.specs.declared.fault.TextFlaw.TheVariants.{NoEnd, Limit}
use Rattle.bb_compile_scope.specs.declared.scope.Scope.{Scope}
use Rattle.bb_compile_scope.proofs.Laws.{frees}
use Rattle.bb_compile_buffer.specs.declared.buffer.Buffer.{Buffer}
use Rattle.bb_compile_buffer.specs.Buffers.{labelled, leave}
use Rattle.bb_compile.specs.declared.exits.Exits.{Exits}
use Rattle.bb_compile.specs.declared.looping.Begun.{Begun}
use Rattle.bb_compile.specs.Actions.{action_code}
use Rattle.bb_compile.specs.Statements.{if_code, with_code, for_code, loop_begun, loop_ended, else_begun, else_ended, if_ended, left, after_end, action_of, statement_code, otherwise_code, statements_code}
use Rattle.bb_theorem_grammar.specs.judged.Actions.{value_flaws}
use Rattle.bb_theorem_grammar.specs.judged.Expressions.{sequence_class, sequence_flaws}
use Rattle.bb_theorem_grammar.specs.judged.Flaws.{if_so, fault_at}
use Rattle.bb_theorem_grammar.specs.judged.Killed.{at_start}
use Rattle.bb_theorem_grammar.specs.judged.Names.{Names, with_named, with_unit, holding}
use Rattle.bb_theorem_grammar.specs.judged.Names as judged
use Rattle.bb_theorem_grammar.specs.judged.Statements.{binding_flaws, bound, looped, in_loop, after_statement, after_statements, statement_faults, statements_faults}
use Rattle.bb_theorem_grammar.specs.judged.Sums.{plus, nothing, ops, one_loop, expr_sums, sequence_sums, action_sums, binding_sums, statement_sums, otherwise_sums, statements_sums, has_room, action_has_room, statement_has_room, otherwise_has_room, statements_have_room}
use Rattle.bb_theorem_grammar.proofs.judged_lemmas.faults.BlockLemmas.{seen_if, noted_before, if_agrees, with_agrees, block_agrees_after, statement_agrees, block_agrees}
use Rattle.bb_theorem_grammar.proofs.judged_lemmas.faults.BranchLemmas.{Levelled, Leaves, else_keeps}
use Rattle.bb_theorem_grammar.proofs.judged_lemmas.exact.ExactActions.{Fits, action_counted}
use Rattle.bb_theorem_grammar.proofs.judged_lemmas.exact.ExactHeads.{HasRoom, if_counted, with_counted, for_counted}
use Rattle.bb_theorem_grammar.proofs.judged_lemmas.exact.ExactLemmas.{Counted, exact_none, exact_same, counted_then, counted_last, counted_known, counted_agreeing, counted_from, counted_map, counted_settled, back_if}
use Rattle.bb_theorem_grammar.proofs.judged_lemmas.exact.ExactLoops.{label_back, absent_back, else_back, else_counted, begun_counted, ended_counted}
use Rattle.bb_theorem_grammar.proofs.judged_lemmas.within.FineLemmas.{Anything, itself, second}
use Rattle.bb_theorem_grammar.proofs.judged_lemmas.scopes.HoldLemmas.{Keeps, noted_if}
use Rattle.bb_theorem_grammar.proofs.judged_lemmas.scopes.KilledLemmas.{start_comes}
use Rattle.bb_theorem_grammar.proofs.judged_lemmas.laying.LayLemmas.{counts_on, if_counts}
use Rattle.bb_theorem_grammar.proofs.judged_lemmas.laying.LayLoops.{leave_counts, label_counts, absent_counts, else_counts}
use Rattle.bb_theorem_grammar.proofs.judged_lemmas.faults.LoopLemmas.{IsFor, for_agrees, IsBegun, begun_holds}
use Rattle.bb_theorem_grammar.proofs.judged_lemmas.scopes.MoveLemmas.{Moves, stay_moves}
use Rattle.bb_theorem_grammar.proofs.judged_lemmas.scopes.NameLemmas.{names_of}
use Rattle.bb_theorem_grammar.proofs.judged_lemmas.scopes.ScopeLemmas.{Tidy}

-- there is room for the names of a block, and of what comes after a first block
abbrev Roomy : {X : Type 0} → Schema → Names → BlockTree → X → Type 0
Roomy schema names b x = statements_have_room schema names b ≡ true

abbrev OtherRoomy : {X : Type 0} → Schema → Names → OtherwiseTree → X → Type 0
OtherRoomy schema names other x = otherwise_has_room schema names other ≡ true

module _ (schema : Schema) (part : Part) (place : Place) where
  abbrev IsCounted : (loops : ℕ) → (ended : Bool) → BlockTree → Type 0
  IsCounted loops ended b = (scope : Scope) → Tidy scope → (s : Buffer) → Keeps scope place None s → Counted (second {X = Bool}) (Roomy schema (names_of scope) b) (statements_sums schema (names_of scope) b) s (statements_code schema part loops ended b s)

  abbrev IsOtherCounted : (loops : ℕ) → OtherwiseTree → Type 0
  IsOtherCounted loops other = (scope : Scope) → Tidy scope → (one : Names) (ended : Bool) (exits : Exits) (u : Buffer) → Levelled place scope one u
      → Counted (second {X = Bool}) (OtherRoomy schema (names_of scope) other) (otherwise_sums schema (names_of scope) ended other) u (otherwise_code schema part loops (record { before = mark_of scope; exits = exits; ended = ended }) other u)

  one_action : (scope : Scope) (a : Action) (at : Place) (ended : Bool) (s : Buffer) → Keeps scope place (seen_if schema part place ended) s
      → Counted (second {X = Bool}) (λ r. action_has_room (names_of scope) a ≡ true) (action_sums a) s (action_of schema part at a s)
  one_action scope a at ended s k =
      counted_last itself (second {X = Bool}) (Fits schema scope place a) (λ r. action_has_room (names_of scope) a ≡ true) (action_sums a) s (action_code schema part a s) _
      (action_counted schema scope place part a s (seen_if schema part place ended) k)
      (λ t fits. counted_settled (second {X = Bool}) (λ r. action_has_room (names_of scope) a ≡ true) nothing at t t (Ok (ends a, t)) (λ clean. (λ free. exact_none t free, fits clean)))

  -- a block, whose names are forgotten
  pub left_counted : (inner : Names) (loops : ℕ) (b : BlockTree) (t : Buffer) → Tidy t.scope → t.start ≡ place → t.flaw ≡ None → names_of t.scope ≡ inner → IsCounted loops false b
      → Counted (second {X = Bool}) (Roomy schema inner b) (statements_sums schema inner b) t (statements_code schema part loops false b t >>= left (mark_of t.scope))
  left_counted inner loops b t tidy begun clean named counted =
      subst (λ n. Counted (second {X = Bool}) (Roomy schema n b) (statements_sums schema n b) t (statements_code schema part loops false b t >>= left (mark_of t.scope))) named
      (counted_last (second {X = Bool}) (second {X = Bool}) (Roomy schema (names_of t.scope) b) (Roomy schema (names_of t.scope) b) (statements_sums schema (names_of t.scope) b) t (statements_code schema part loops false b t) (left (mark_of t.scope))
      (counted t.scope tidy t (record { same = refl; begun = begun; flawed = clean }))
      (λ r some. (λ free. exact_same r.1 (leave (mark_of t.scope) r.1) (leave_counts (mark_of t.scope) r.1) (λ f. f) free, some)))

  else_fits : (loops : ℕ) (b : BlockTree) → IsCounted loops false b → IsOtherCounted loops (otherwise b)
  unfolding otherwise_has_room otherwise_sums otherwise_code
  else_fits loops b counted scope tidy one ended exits u l =
      counted_known place (λ (p : ℕ × Buffer). Keeps scope place None p.1) (second {X = ℕ}) (second {X = Bool}) Anything (Roomy schema (names_of scope) b) (ops (cond ended 0 1)) (statements_sums schema (names_of scope) b) u (else_begun (record { before = mark_of scope; exits = exits; ended = ended }) u) _
      (else_keeps place scope tidy one ended exits u l) (else_counted (record { before = mark_of scope; exits = exits; ended = ended }) u)
      (λ p kept any. counted_last (second {X = Bool}) (second {X = Bool}) (Roomy schema (names_of scope) b) (Roomy schema (names_of scope) b) (statements_sums schema (names_of scope) b) p.1 (statements_code schema part loops false b p.1 >>= left (mark_of p.1.scope)) _
      (left_counted (names_of scope) loops b p.1 (subst Tidy (sym kept.same) tidy) kept.begun kept.flawed (ap names_of kept.same) counted)
      (λ r some. (λ free. exact_same r.1 (else_ended (record { before = mark_of scope; exits = exits; ended = ended }) p.0 u.scope.kinds r.0 r.1) (else_counts (record { before = mark_of scope; exits = exits; ended = ended }) p.0 u.scope.kinds r.0 r.1) (else_back (record { before = mark_of scope; exits = exits; ended = ended }) p.0 u.scope.kinds r.0 r.1) free, some)))

  absent_fits : (loops : ℕ) → IsOtherCounted loops absent
  unfolding otherwise_has_room otherwise_sums otherwise_code
  absent_fits loops scope tidy one ended exits u l =
      (λ free. exact_same u (if_ended (record { before = mark_of scope; exits = exits; ended = ended }) u) (absent_counts (record { before = mark_of scope; exits = exits; ended = ended }) u) (absent_back (record { before = mark_of scope; exits = exits; ended = ended }) u) free, refl)

  branches_fit : (scope : Scope) (tidy : Tidy scope) (sc : Scope) (inner : Names) (loops : ℕ) (first : BlockTree) (other : OtherwiseTree) (exits : Exits) (t : Buffer) → sc ≡ scope → Moves place scope inner None t → IsCounted loops false first → IsOtherCounted loops other
      → Counted (second {X = Bool}) (λ r. (statements_have_room schema inner first && otherwise_has_room schema (names_of scope) other) ≡ true) (plus (statements_sums schema inner first) (otherwise_sums schema (names_of scope) (block_ends first) other)) t
      ((statements_code schema part loops false first t >>= left (mark_of t.scope)) >>= λ r. otherwise_code schema part loops (record { before = mark_of sc; exits = exits; ended = r.0 }) other (leave (mark_of sc) r.1))
  branches_fit scope tidy sc inner loops first other exits t same m counted rest =
      let faults = statements_faults schema part loops false inner first in
      let one = judged.back_to (names_of scope) (after_statements schema inner first) in
      subst (λ (c : Scope). Counted (second {X = Bool}) (λ r. (statements_have_room schema inner first && otherwise_has_room schema (names_of scope) other) ≡ true) (plus (statements_sums schema inner first) (otherwise_sums schema (names_of scope) (block_ends first) other)) t
      ((statements_code schema part loops false first t >>= left (mark_of t.scope)) >>= λ r. otherwise_code schema part loops (record { before = mark_of c; exits = exits; ended = r.0 }) other (leave (mark_of c) r.1))) (sym same)
      (counted_agreeing place faults (λ (r : Bool × Buffer). (r.0 ≡ block_ends first) × Levelled place scope one (leave (mark_of scope) r.1)) (second {X = Bool}) (second {X = Bool}) (Roomy schema inner first) (λ r. (statements_have_room schema inner first && otherwise_has_room schema (names_of scope) other) ≡ true)
      (statements_sums schema inner first) (otherwise_sums schema (names_of scope) (block_ends first) other) t (statements_code schema part loops false first t >>= left (mark_of t.scope)) _
      (block_agrees_after schema part place scope tidy inner loops first t m (block_agrees schema part place first loops false))
      (left_counted inner loops first t m.onto.tidy m.begun m.flawed m.named counted)
      (λ r l some. counted_from (second {X = Bool}) (λ x. (statements_have_room schema inner first && otherwise_has_room schema (names_of scope) other) ≡ true) (otherwise_sums schema (names_of scope) (block_ends first) other) r.1 (leave (mark_of scope) r.1) (otherwise_code schema part loops (record { before = mark_of scope; exits = exits; ended = r.0 }) other (leave (mark_of scope) r.1)) (leave_counts (mark_of scope) r.1) (λ free. free)
      (counted_map (second {X = Bool}) (OtherRoomy schema (names_of scope) other) (λ x. (statements_have_room schema inner first && otherwise_has_room schema (names_of scope) other) ≡ true) (otherwise_sums schema (names_of scope) (block_ends first) other) (leave (mark_of scope) r.1) (otherwise_code schema part loops (record { before = mark_of scope; exits = exits; ended = r.0 }) other (leave (mark_of scope) r.1))
      (λ x more. and_from (statements_have_room schema inner first) (otherwise_has_room schema (names_of scope) other) some more)
      (subst (λ e. Counted (second {X = Bool}) (OtherRoomy schema (names_of scope) other) (otherwise_sums schema (names_of scope) e other) (leave (mark_of scope) r.1) (otherwise_code schema part loops (record { before = mark_of scope; exits = exits; ended = r.0 }) other (leave (mark_of scope) r.1))) l.0
      (rest scope tidy one r.0 exits (leave (mark_of scope) r.1) l.1)))))

  loop_fits : (scope : Scope) (tidy : Tidy scope) (sc : Scope) (name : List ℕ) (sequence : Sequence) (loops : ℕ) (body : BlockTree) (p : (ℕ × ℕ) × Buffer) → IsFor schema place scope tidy (sequence_class schema (names_of scope) (sequence_of sequence)) p → IsCounted (loops - 1) false body
      → Counted (second {X = Bool}) (λ r. (has_room (looped schema (names_of scope) name sequence body) && statements_have_room schema (in_loop schema (names_of scope) name sequence body) body) ≡ true)
      (plus (plus one_loop (plus (ops 1) (ops 1))) (plus (statements_sums schema (in_loop schema (names_of scope) name sequence body) body) (ops 1))) p.1
      (loop_begun schema name p.0.0 p.0.1 body p.1 >>= λ q. (statements_code schema part (loops - 1) false body q.1 >>= left (mark_of q.1.scope)) >>= λ r. loop_ended q.0 r.0 r.1 >>= λ w. Ok (false, labelled (leave (mark_of sc) w)))
  loop_fits scope tidy sc name sequence loops body p f counted =
      let t = p.1 in
      let k = killed_under schema t.scope name (Some p.0.0) body in
      let comes = start_comes schema name (Some p.0.0) body t.scope f.1.onto.tidy in
      let started = at_start schema name (Some p.0.0) body (holding (names_of scope)) in
      let named : names_of k ≡ started = comes.named ∙ ap (at_start schema name (Some p.0.0) body) f.1.named in
      let inner = with_named name (kinds.Ref p.0.0) started in
      subst (λ class. Counted (second {X = Bool}) (λ r. (has_room (at_start schema name class body (holding (names_of scope))) && statements_have_room schema (with_unit name class (at_start schema name class body (holding (names_of scope)))) body) ≡ true)
      (plus (plus one_loop (plus (ops 1) (ops 1))) (plus (statements_sums schema (with_unit name class (at_start schema name class body (holding (names_of scope)))) body) (ops 1))) t
      (loop_begun schema name p.0.0 p.0.1 body t >>= λ q. (statements_code schema part (loops - 1) false body q.1 >>= left (mark_of q.1.scope)) >>= λ r. loop_ended q.0 r.0 r.1 >>= λ w. Ok (false, labelled (leave (mark_of sc) w)))) (sym f.0)
      (counted_known place (IsBegun place k name p.0.0) (second {X = Begun}) (second {X = Bool}) (λ q. 1 ≤ frees k.kinds) (λ r. (has_room started && statements_have_room schema inner body) ≡ true) (plus one_loop (plus (ops 1) (ops 1))) (plus (statements_sums schema inner body) (ops 1)) t (loop_begun schema name p.0.0 p.0.1 body t) _
      (begun_holds schema place name p.0.0 p.0.1 body t f.1.begun f.1.flawed comes.onto.tidy) (begun_counted schema place name p.0.0 p.0.1 body t f.1.begun f.1.flawed)
      (λ q begun free. counted_then (second {X = Bool}) (second {X = Bool}) (Roomy schema inner body) (λ r. (has_room started && statements_have_room schema inner body) ≡ true) (statements_sums schema inner body) (ops 1) q.1 (statements_code schema part (loops - 1) false body q.1 >>= left (mark_of q.1.scope)) _
      (left_counted inner (loops - 1) body q.1 begun.1.onto.tidy begun.1.begun begun.1.flawed (begun.1.named ∙ ap (with_named name (kinds.Ref p.0.0)) named) counted)
      (λ r some. counted_last itself (second {X = Bool}) Anything (λ x. (has_room started && statements_have_room schema inner body) ≡ true) (ops 1) r.1 (loop_ended q.0 r.0 r.1) _ (ended_counted q.0 r.0 r.1)
      (λ w any.
      let l = leave (mark_of sc) w in (
        λ clean. exact_same w (labelled l) (counts_on w l (labelled l) (leave_counts (mark_of sc) w) (label_counts l)) (label_back l) clean,
        and_from (has_room started) (statements_have_room schema inner body) (subst (λ n. has_room n ≡ true) named (le-leb 1 (frees k.kinds) free)) some,
      )))))

  -- ---- all of them

  mutual
    unfolding statement_faults statement_has_room statement_sums statement_code otherwise_code after_statement

    statement_counted : (x : StatementTree) (loops : ℕ) (at : Place) (ended : Bool) (scope : Scope) → Tidy scope → (s : Buffer) → Keeps scope place (seen_if schema part place ended) s
        → Counted (second {X = Bool}) (λ r. statement_has_room schema (names_of scope) x ≡ true) (statement_sums schema (names_of scope) x) s (statement_code schema part loops at x s)
    statement_counted (action a) loops at ended scope tidy s k = one_action scope a at ended s k
    statement_counted (if_of condition first other) loops at ended scope tidy s k =
        counted_agreeing place (fault_at at (if_so ended NoEnd ++ value_flaws schema (names_of scope) condition kinds.Bool)) (λ (p : Exits × Buffer). Keeps scope place None p.1) second (second {X = Bool}) Anything (λ r. statement_has_room schema (names_of scope) (if_of condition first other) ≡ true)
        (plus (expr_sums condition) (ops 1)) (plus (statements_sums schema (names_of scope) first) (otherwise_sums schema (names_of scope) (block_ends first) other)) s (if_code schema condition at s) _
        (if_agrees schema part place scope condition at ended s k) (if_counted schema place scope condition at s)
        (λ p kept any. branches_fit scope tidy p.1.scope (names_of scope) loops first other p.0 p.1 kept.same (stay_moves place scope tidy None p.1 kept) (block_counted first loops false) (other_counted other loops))
    statement_counted (with_of binding first other) loops at ended scope tidy s k =
        let inner = bound schema (names_of scope) binding in
        counted_agreeing place (fault_at at (if_so ended NoEnd ++ binding_flaws schema (names_of scope) binding)) (λ (p : Exits × Buffer). Moves place scope inner None p.1) second (second {X = Bool}) (HasRoom schema place scope tidy) (λ r. statement_has_room schema (names_of scope) (with_of binding first other) ≡ true)
        (binding_sums schema (names_of scope) binding) (plus (statements_sums schema inner first) (otherwise_sums schema (names_of scope) (block_ends first) other)) s (with_code schema binding at s) _
        (with_agrees schema part place scope tidy binding at ended s k) (with_counted schema place scope tidy binding at s (seen_if schema part place ended) k)
        (λ p m some. counted_map (second {X = Bool}) (λ r. (statements_have_room schema inner first && otherwise_has_room schema (names_of scope) other) ≡ true) (λ r. statement_has_room schema (names_of scope) (with_of binding first other) ≡ true)
        (plus (statements_sums schema inner first) (otherwise_sums schema (names_of scope) (block_ends first) other)) p.1 _ (λ x rest. and_from (has_room (names_of scope)) (statements_have_room schema inner first && otherwise_has_room schema (names_of scope) other) some rest)
        (branches_fit scope tidy s.scope inner loops first other p.0 p.1 k.same m (block_counted first loops false) (other_counted other loops)))
    statement_counted (for_of name sequence body) loops at ended scope tidy s k =
        let flaws = sequence_flaws schema (names_of scope) STACK_LIMIT (sequence_of sequence) ++ if_so (loops == 0) Limit in
        let class = sequence_class schema (names_of scope) (sequence_of sequence) in
        let inner = in_loop schema (names_of scope) name sequence body in
        let started = looped schema (names_of scope) name sequence body in
        counted_agreeing place (fault_at at (if_so ended NoEnd ++ flaws)) (IsFor schema place scope tidy class) (second {X = ℕ × ℕ}) (second {X = Bool}) (HasRoom schema place scope tidy) (λ r. statement_has_room schema (names_of scope) (for_of name sequence body) ≡ true)
        (plus (sequence_sums (sequence_of sequence)) (ops 1)) (plus (plus one_loop (plus (ops 1) (ops 1))) (plus (statements_sums schema inner body) (ops 1))) s (for_code schema sequence at loops s) _
        (noted_before schema part place at ended flaws (IsFor schema place scope tidy class) (for_code schema sequence at loops s) (for_agrees schema place scope tidy sequence at loops s (seen_if schema part place ended) k))
        (for_counted schema place scope tidy sequence at loops s (seen_if schema part place ended) k)
        (λ p f some. counted_map (second {X = Bool}) (λ r. (has_room started && statements_have_room schema inner body) ≡ true) (λ r. statement_has_room schema (names_of scope) (for_of name sequence body) ≡ true)
        (plus (plus one_loop (plus (ops 1) (ops 1))) (plus (statements_sums schema inner body) (ops 1))) p.1 _ (λ x rest. and_from (has_room (names_of scope)) (has_room started && statements_have_room schema inner body) some rest)
        (loop_fits scope tidy s.scope name sequence loops body p f (block_counted body (loops - 1) false)))

    other_counted : (other : OtherwiseTree) (loops : ℕ) → IsOtherCounted loops other
    other_counted absent loops = absent_fits loops
    other_counted (otherwise b) loops = else_fits loops b (block_counted b loops false)

    pub block_counted : (b : BlockTree) (loops : ℕ) (ended : Bool) → IsCounted loops ended b
    block_counted no_statement loops ended scope tidy s k = (λ clean. exact_none s clean, refl)
    block_counted (before_others at x others) loops ended scope tidy s k =
        let names = after_statement schema (names_of scope) x in
        let head = statement_faults schema part loops ended (names_of scope) at x in
        let kept = noted_if scope place ended NoEnd s None k in
        counted_agreeing place head (Leaves place scope names (always_ends x)) (second {X = Bool}) (second {X = Bool}) (λ r. statement_has_room schema (names_of scope) x ≡ true) (Roomy schema (names_of scope) (before_others at x others))
        (statement_sums schema (names_of scope) x) (statements_sums schema names others) s (statement_code schema part loops at x (after_end ended s)) _
        (statement_agrees schema part place x loops at ended scope tidy (after_end ended s) kept)
        (counted_from (second {X = Bool}) (λ r. statement_has_room schema (names_of scope) x ≡ true) (statement_sums schema (names_of scope) x) s (after_end ended s) (statement_code schema part loops at x (after_end ended s)) (if_counts ended NoEnd s) (back_if ended NoEnd s) (statement_counted x loops at ended scope tidy (after_end ended s) kept))
        (λ p leaves some. counted_map (second {X = Bool}) (Roomy schema names others) (Roomy schema (names_of scope) (before_others at x others)) (statements_sums schema names others) p.1 (statements_code schema part loops (ended || p.0) others p.1)
        (λ r rest. and_from (statement_has_room schema (names_of scope) x) (statements_have_room schema names others) some rest)
        (subst (λ n. Counted (second {X = Bool}) (Roomy schema n others) (statements_sums schema n others) p.1 (statements_code schema part loops (ended || p.0) others p.1)) leaves.1.named
        (block_counted others loops (ended || p.0) p.1.scope leaves.1.onto.tidy p.1 (record { same = refl; begun = leaves.1.begun; flawed = leaves.1.flawed }))))
