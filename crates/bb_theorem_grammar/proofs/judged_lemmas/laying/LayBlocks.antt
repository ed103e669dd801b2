-- What statements and blocks lay out at most, where there is room for their names; or they are refused for the first
-- fault.
use Rattle.std.proofs.Common.{◌≡◌, ℕ, ◌-◌, Bool, true, false, ◌&&◌, ◌||◌, List, ◌++◌, Some, None, Result, Ok, refl, subst, sym, ap, ◌∙◌, cond}
use Rattle.std.specs.Prelude.{◌==◌}
use Rattle.std.proofs.lemmas.Bool.{leb-true, and_parts}
use Rattle.bb_basis.specs.Results.{◌>>=◌}
use Rattle.bb_code.specs.declared.parts.TheConstants.{STACK_LIMIT}
use Rattle.bb_code.specs.declared.frame.Kind.TheVariants as kinds
use Rattle.bb_schema.specs.Schema.{Schema}
use Rattle.bb_verify_effect.specs.declared.part.Part.{Part}
use Rattle.bb_lang.specs.Action.{Action}
use Rattle.bb_lang.specs.Blocks.{BlockTree, StatementTree, OtherwiseTree, no_statement, before_others, action, if_of, with_of, for_of, absent, otherwise}
use Rattle.bb_lang.specs.Sequence.{Sequence}
use Rattle.bb_lang.specs.View.{sequence_of}
use Rattle.bb_compile_scope.specs.Ending.{ends, always_ends, block_ends}
use Rattle.bb_compile_scope.specs.Killed.{killed_under}
use Rattle.bb_compile_scope.specs.Place.{Place}
use Rattle.bb_compile_scope.specs.Scope.{mark_of}
use Rattle.bb_compile_scope.specs.declared.fault.CompileFault.{CompileFault}
use Rattle.bb_compile_scope.specs.declared.fault.TextFlaw.{TextFlaw}
use Rattle.bb_compile_scope.specs.declared.fault.TextFlaw.TheVariants.{NoEnd, Limit}
use Rattle.bb_compile_scope.specs.declared.scope.Scope.{Scope}
use Rattle.bb_compile_scope.proofs.Laws.{frees}
use Rattle.bb_compile_buffer.specs.declared.buffer.Buffer.{Buffer}
use Rattle.bb_compile_buffer.specs.Buffers.{labelled, leave}
use Rattle.bb_compile.specs.declared.exits.Exits.{Exits}
use Rattle.bb_compile.specs.Actions.{action_code}
use Rattle.bb_compile.specs.Statements.{if_code, with_code, for_code, loop_begun, loop_ended, else_begun, else_ended, if_ended, left, after_end, action_of, statement_code, otherwise_code, statements_code}
use Rattle.bb_theorem_grammar.specs.judged.Actions.{value_flaws, action_flaws, after_action}
use Rattle.bb_theorem_grammar.specs.judged.Expressions.{sequence_class, sequence_flaws}
use Rattle.bb_theorem_grammar.specs.judged.Flaws.{least, if_so, fault_if, fault_at}
use Rattle.bb_theorem_grammar.specs.judged.Killed.{at_start}
use Rattle.bb_theorem_grammar.specs.judged.Names.{Names, with_named, with_unit, holding}
use Rattle.bb_theorem_grammar.specs.judged.Names as judged
use Rattle.bb_theorem_grammar.specs.judged.Statements.{binding_flaws, bound, looped, in_loop, after_statement, after_statements, statement_faults, otherwise_faults, statements_faults}
use Rattle.bb_theorem_grammar.specs.judged.Sums.{Sums, plus, nothing, ops, one_loop, expr_sums, sequence_sums, action_sums, binding_sums, statement_sums, otherwise_sums, statements_sums, has_room, action_has_room, statement_has_room, otherwise_has_room, statements_have_room}
use Rattle.bb_theorem_grammar.proofs.judged_lemmas.faults.ActionLemmas.{action_judged}
use Rattle.bb_theorem_grammar.proofs.judged_lemmas.faults.BlockLemmas.{seen_if, noted_before, if_agrees, with_agrees, block_agrees_after, statement_agrees, block_agrees}
use Rattle.bb_theorem_grammar.proofs.judged_lemmas.faults.BranchLemmas.{Levelled, Leaves, else_keeps}
use Rattle.bb_theorem_grammar.proofs.judged_lemmas.scopes.HoldLemmas.{least_on, Keeps, noted_if}
use Rattle.bb_theorem_grammar.proofs.judged_lemmas.scopes.KilledLemmas.{start_comes}
use Rattle.bb_theorem_grammar.proofs.judged_lemmas.laying.LayActions.{action_lays}
use Rattle.bb_theorem_grammar.proofs.judged_lemmas.laying.LayHeads.{if_gives, with_gives, for_gives}
use Rattle.bb_theorem_grammar.proofs.judged_lemmas.laying.GiveLemmas.{Gives, gives_from, gives_knowing, gives_known, gives_then, gives_last, gives_agreeing, settled_given}
use Rattle.bb_theorem_grammar.proofs.judged_lemmas.laying.LayLemmas.{lays_last, adds_none, counts_on, adds_to, adds_noted, if_counts, itself, second}
use Rattle.bb_theorem_grammar.proofs.judged_lemmas.laying.LayLoops.{leave_counts, label_counts, absent_counts, else_counts, else_lays, begun_lays, ended_lays}
use Rattle.bb_theorem_grammar.proofs.judged_lemmas.faults.LoopLemmas.{IsFor, for_agrees, IsBegun, begun_holds}
use Rattle.bb_theorem_grammar.proofs.judged_lemmas.scopes.MoveLemmas.{Moves, stay_moves}
use Rattle.bb_theorem_grammar.proofs.judged_lemmas.scopes.NameLemmas.{names_of}
use Rattle.bb_theorem_grammar.proofs.judged_lemmas.scopes.ScopeLemmas.{Tidy}

module _ (schema : Schema) (part : Part) (place : Place) where
  -- what is shown of a block, and of what comes after a first block
  abbrev IsRoomy : (loops : ℕ) → (ended : Bool) → BlockTree → Type 0
  IsRoomy loops ended b = (scope : Scope) → Tidy scope → (s : Buffer) → Keeps scope place None s → statements_have_room schema (names_of scope) b ≡ true
      → Gives second (statements_sums schema (names_of scope) b) s (statements_faults schema part loops ended (names_of scope) b) (statements_code schema part loops ended b s)

  abbrev IsOtherRoomy : (loops : ℕ) → OtherwiseTree → Type 0
  IsOtherRoomy loops other = (scope : Scope) → Tidy scope → (one : Names) (ended : Bool) (exits : Exits) (u : Buffer) → Levelled place scope one u → otherwise_has_room schema (names_of scope) other ≡ true
      → Gives second (otherwise_sums schema (names_of scope) ended other) u (otherwise_faults schema part loops (names_of scope) other) (otherwise_code schema part loops (record { before = mark_of scope; exits = exits; ended = ended }) other u)

  -- the flaws that were seen before a statement are noted first
  noted_given : {X : Type 0} (out : X → Buffer) (a : Sums) (s : Buffer) (at : Place) (ended : Bool) (flaws : List TextFlaw) (r : Result X CompileFault) → Gives out a s (fault_if at (least (seen_if schema part place ended) flaws)) r → Gives out a s (fault_at at (if_so ended NoEnd ++ flaws)) r
  noted_given out a s at ended flaws r h = subst (λ f. Gives out a s (fault_if at f) r) (sym (least_on None (if_so ended NoEnd) flaws)) h

  one_action : (scope : Scope) (tidy : Tidy scope) (a : Action) (at : Place) (ended : Bool) (s : Buffer) → Keeps scope place (seen_if schema part place ended) s → action_has_room (names_of scope) a ≡ true
      → Gives second (action_sums a) s (fault_at at (if_so ended NoEnd ++ action_flaws schema part (names_of scope) a)) (action_of schema part at a s)
  one_action scope tidy a at ended s k some =
      let flaws = action_flaws schema part (names_of scope) a in
      let flaw = least (seen_if schema part place ended) flaws in
      noted_given second (action_sums a) s at ended flaws (action_of schema part at a s)
      (gives_known place (Moves place scope (after_action schema (names_of scope) a) flaw) itself second (action_sums a) s (fault_if at flaw) (action_code schema part a s) _
      (action_judged schema scope place tidy part a s (seen_if schema part place ended) k) (action_lays schema scope place part a s (seen_if schema part place ended) k some)
      (λ t m adds. settled_given second (action_sums a) s at flaw t (Ok (ends a, t)) m.flawed (λ none. adds)))

  -- a block, whose names are forgotten
  pub left_gives : (inner : Names) (loops : ℕ) (b : BlockTree) (t : Buffer) → Tidy t.scope → t.start ≡ place → t.flaw ≡ None → names_of t.scope ≡ inner → IsRoomy loops false b → statements_have_room schema inner b ≡ true
      → Gives second (statements_sums schema inner b) t (statements_faults schema part loops false inner b) (statements_code schema part loops false b t >>= left (mark_of t.scope))
  left_gives inner loops b t tidy begun clean named roomy some =
      subst (λ n. Gives second (statements_sums schema n b) t (statements_faults schema part loops false n b) (statements_code schema part loops false b t >>= left (mark_of t.scope))) named
      (gives_last second second (statements_sums schema (names_of t.scope) b) t (statements_faults schema part loops false (names_of t.scope) b) (statements_code schema part loops false b t) (left (mark_of t.scope))
      (roomy t.scope tidy t (record { same = refl; begun = begun; flawed = clean }) (subst (λ n. statements_have_room schema n b ≡ true) (sym named) some))
      (λ r m. adds_to (statements_sums schema (names_of t.scope) b) t r.1 (leave (mark_of t.scope) r.1) (leave_counts (mark_of t.scope) r.1) m))

  else_roomy : (loops : ℕ) (b : BlockTree) → IsRoomy loops false b → IsOtherRoomy loops (otherwise b)
  unfolding otherwise_faults otherwise_has_room otherwise_sums otherwise_code
  else_roomy loops b roomy scope tidy one ended exits u l some =
      let faults = statements_faults schema part loops false (names_of scope) b in
      gives_knowing place (λ (p : ℕ × Buffer). Keeps scope place None p.1) second second (ops (cond ended 0 1)) (statements_sums schema (names_of scope) b) u faults (else_begun (record { before = mark_of scope; exits = exits; ended = ended }) u) _
      (else_keeps place scope tidy one ended exits u l) (else_lays (record { before = mark_of scope; exits = exits; ended = ended }) u)
      (λ p kept. gives_last second second (statements_sums schema (names_of scope) b) p.1 faults (statements_code schema part loops false b p.1 >>= left (mark_of p.1.scope)) _
      (left_gives (names_of scope) loops b p.1 (subst Tidy (sym kept.same) tidy) kept.begun kept.flawed (ap names_of kept.same) roomy some)
      (λ r m. adds_to (statements_sums schema (names_of scope) b) p.1 r.1 (else_ended (record { before = mark_of scope; exits = exits; ended = ended }) p.0 u.scope.kinds r.0 r.1) (else_counts (record { before = mark_of scope; exits = exits; ended = ended }) p.0 u.scope.kinds r.0 r.1) m))

  absent_roomy : (loops : ℕ) → IsOtherRoomy loops absent
  unfolding otherwise_sums otherwise_code
  absent_roomy loops scope tidy one ended exits u l some =
      λ room. adds_noted nothing refl u (if_ended (record { before = mark_of scope; exits = exits; ended = ended }) u) (absent_counts (record { before = mark_of scope; exits = exits; ended = ended }) u)

  branches_give : (scope : Scope) (tidy : Tidy scope) (sc : Scope) (inner : Names) (loops : ℕ) (first : BlockTree) (other : OtherwiseTree) (exits : Exits) (t : Buffer) → sc ≡ scope → Moves place scope inner None t → IsRoomy loops false first → IsOtherRoomy loops other
      → statements_have_room schema inner first ≡ true → otherwise_has_room schema (names_of scope) other ≡ true
      → Gives second (plus (statements_sums schema inner first) (otherwise_sums schema (names_of scope) (block_ends first) other)) t (statements_faults schema part loops false inner first ++ otherwise_faults schema part loops (names_of scope) other)
      ((statements_code schema part loops false first t >>= left (mark_of t.scope)) >>= λ r. otherwise_code schema part loops (record { before = mark_of sc; exits = exits; ended = r.0 }) other (leave (mark_of sc) r.1))
  branches_give scope tidy sc inner loops first other exits t same m roomy rest some more =
      let faults = statements_faults schema part loops false inner first in
      let others = otherwise_faults schema part loops (names_of scope) other in
      let one = judged.back_to (names_of scope) (after_statements schema inner first) in
      subst (λ (c : Scope). Gives second (plus (statements_sums schema inner first) (otherwise_sums schema (names_of scope) (block_ends first) other)) t (faults ++ others) ((statements_code schema part loops false first t >>= left (mark_of t.scope)) >>= λ r. otherwise_code schema part loops (record { before = mark_of c; exits = exits; ended = r.0 }) other (leave (mark_of c) r.1))) (sym same)
      (gives_agreeing place faults others (λ (r : Bool × Buffer). (r.0 ≡ block_ends first) × Levelled place scope one (leave (mark_of scope) r.1)) second second (statements_sums schema inner first) (otherwise_sums schema (names_of scope) (block_ends first) other) t (statements_code schema part loops false first t >>= left (mark_of t.scope)) _
      (block_agrees_after schema part place scope tidy inner loops first t m (block_agrees schema part place first loops false))
      (left_gives inner loops first t m.onto.tidy m.begun m.flawed m.named roomy some)
      (λ r l. gives_from second (otherwise_sums schema (names_of scope) (block_ends first) other) r.1 (leave (mark_of scope) r.1) others (otherwise_code schema part loops (record { before = mark_of scope; exits = exits; ended = r.0 }) other (leave (mark_of scope) r.1)) (leave_counts (mark_of scope) r.1)
      (subst (λ e. Gives second (otherwise_sums schema (names_of scope) e other) (leave (mark_of scope) r.1) others (otherwise_code schema part loops (record { before = mark_of scope; exits = exits; ended = r.0 }) other (leave (mark_of scope) r.1))) l.0
      (rest scope tidy one r.0 exits (leave (mark_of scope) r.1) l.1 more))))

  loop_roomy : (scope : Scope) (tidy : Tidy scope) (sc : Scope) (name : List ℕ) (sequence : Sequence) (loops : ℕ) (body : BlockTree) (p : (ℕ × ℕ) × Buffer) → IsFor schema place scope tidy (sequence_class schema (names_of scope) (sequence_of sequence)) p → IsRoomy (loops - 1) false body
      → has_room (looped schema (names_of scope) name sequence body) ≡ true → statements_have_room schema (in_loop schema (names_of scope) name sequence body) body ≡ true
      → Gives second (plus (plus one_loop (plus (ops 1) (ops 1))) (plus (statements_sums schema (in_loop schema (names_of scope) name sequence body) body) (ops 1))) p.1 (statements_faults schema part (loops - 1) false (in_loop schema (names_of scope) name sequence body) body)
      (loop_begun schema name p.0.0 p.0.1 body p.1 >>= λ q. (statements_code schema part (loops - 1) false body q.1 >>= left (mark_of q.1.scope)) >>= λ r. loop_ended q.0 r.0 r.1 >>= λ w. Ok (false, labelled (leave (mark_of sc) w)))
  loop_roomy scope tidy sc name sequence loops body p f roomy some more =
      let t = p.1 in
      let k = killed_under schema t.scope name (Some p.0.0) body in
      let comes = start_comes schema name (Some p.0.0) body t.scope f.1.onto.tidy in
      let started = at_start schema name (Some p.0.0) body (holding (names_of scope)) in
      let named : names_of k ≡ started = comes.named ∙ ap (at_start schema name (Some p.0.0) body) f.1.named in
      let inner = with_named name (kinds.Ref p.0.0) started in
      let faults = statements_faults schema part (loops - 1) false inner body in
      let free = subst (λ class. has_room (at_start schema name class body (holding (names_of scope))) ≡ true) f.0 some in
      let spacious = subst (λ class. statements_have_room schema (with_unit name class (at_start schema name class body (holding (names_of scope)))) body ≡ true) f.0 more in
      let one = leb-true 1 (frees k.kinds) (subst (λ n. has_room n ≡ true) (sym named) free) in
      subst (λ class. Gives second (plus (plus one_loop (plus (ops 1) (ops 1))) (plus (statements_sums schema (with_unit name class (at_start schema name class body (holding (names_of scope)))) body) (ops 1))) t (statements_faults schema part (loops - 1) false (with_unit name class (at_start schema name class body (holding (names_of scope)))) body)
      (loop_begun schema name p.0.0 p.0.1 body t >>= λ q. (statements_code schema part (loops - 1) false body q.1 >>= left (mark_of q.1.scope)) >>= λ r. loop_ended q.0 r.0 r.1 >>= λ w. Ok (false, labelled (leave (mark_of sc) w)))) (sym f.0)
      (gives_knowing place (IsBegun place k name p.0.0) second second (plus one_loop (plus (ops 1) (ops 1))) (plus (statements_sums schema inner body) (ops 1)) t faults (loop_begun schema name p.0.0 p.0.1 body t) _
      (begun_holds schema place name p.0.0 p.0.1 body t f.1.begun f.1.flawed comes.onto.tidy) (begun_lays schema place name p.0.0 p.0.1 body t f.1.begun f.1.flawed one)
      (λ q begun. gives_then second second (statements_sums schema inner body) (ops 1) q.1 faults (statements_code schema part (loops - 1) false body q.1 >>= left (mark_of q.1.scope)) _
      (left_gives inner (loops - 1) body q.1 begun.1.onto.tidy begun.1.begun begun.1.flawed (begun.1.named ∙ ap (with_named name (kinds.Ref p.0.0)) named) roomy spacious)
      (λ r. lays_last itself second (ops 1) r.1 (loop_ended q.0 r.0 r.1) _ (ended_lays q.0 r.0 r.1)
      (λ w m. adds_to (ops 1) r.1 w (labelled (leave (mark_of sc) w)) (counts_on w (leave (mark_of sc) w) (labelled (leave (mark_of sc) w)) (leave_counts (mark_of sc) w) (label_counts (leave (mark_of sc) w))) m))))

  -- ---- all of them

  mutual
    unfolding statement_faults statement_has_room statement_sums statement_code otherwise_code after_statement

    statement_gives : (x : StatementTree) (loops : ℕ) (at : Place) (ended : Bool) (scope : Scope) → Tidy scope → (s : Buffer) → Keeps scope place (seen_if schema part place ended) s → statement_has_room schema (names_of scope) x ≡ true
        → Gives second (statement_sums schema (names_of scope) x) s (statement_faults schema part loops ended (names_of scope) at x) (statement_code schema part loops at x s)
    statement_gives (action a) loops at ended scope tidy s k some = one_action scope tidy a at ended s k some
    statement_gives (if_of condition first other) loops at ended scope tidy s k some =
        let flaws = value_flaws schema (names_of scope) condition kinds.Bool in
        let both = and_parts (statements_have_room schema (names_of scope) first) (otherwise_has_room schema (names_of scope) other) some in
        gives_agreeing place (fault_at at (if_so ended NoEnd ++ flaws)) (statements_faults schema part loops false (names_of scope) first ++ otherwise_faults schema part loops (names_of scope) other)
        (λ (p : Exits × Buffer). Keeps scope place None p.1) second second (plus (expr_sums condition) (ops 1)) (plus (statements_sums schema (names_of scope) first) (otherwise_sums schema (names_of scope) (block_ends first) other)) s (if_code schema condition at s) _
        (if_agrees schema part place scope condition at ended s k)
        (noted_given second (plus (expr_sums condition) (ops 1)) s at ended flaws (if_code schema condition at s) (if_gives schema place scope condition at s (seen_if schema part place ended) k))
        (λ p kept. branches_give scope tidy p.1.scope (names_of scope) loops first other p.0 p.1 kept.same (stay_moves place scope tidy None p.1 kept) (block_gives first loops false) (other_gives other loops) both.0 both.1)
    statement_gives (with_of binding first other) loops at ended scope tidy s k some =
        let flaws = binding_flaws schema (names_of scope) binding in
        let inner = bound schema (names_of scope) binding in
        let free = and_parts (has_room (names_of scope)) (statements_have_room schema inner first && otherwise_has_room schema (names_of scope) other) some in
        let both = and_parts (statements_have_room schema inner first) (otherwise_has_room schema (names_of scope) other) free.1 in
        gives_agreeing place (fault_at at (if_so ended NoEnd ++ flaws)) (statements_faults schema part loops false inner first ++ otherwise_faults schema part loops (names_of scope) other)
        (λ (p : Exits × Buffer). Moves place scope inner None p.1) second second (binding_sums schema (names_of scope) binding) (plus (statements_sums schema inner first) (otherwise_sums schema (names_of scope) (block_ends first) other)) s (with_code schema binding at s) _
        (with_agrees schema part place scope tidy binding at ended s k)
        (noted_given second (binding_sums schema (names_of scope) binding) s at ended flaws (with_code schema binding at s) (with_gives schema place scope tidy (leb-true 1 (frees scope.kinds) free.0) binding at s (seen_if schema part place ended) k))
        (λ p m. branches_give scope tidy s.scope inner loops first other p.0 p.1 k.same m (block_gives first loops false) (other_gives other loops) both.0 both.1)
    statement_gives (for_of name sequence body) loops at ended scope tidy s k some =
        let flaws = sequence_flaws schema (names_of scope) STACK_LIMIT (sequence_of sequence) ++ if_so (loops == 0) Limit in
        let class = sequence_class schema (names_of scope) (sequence_of sequence) in
        let inner = in_loop schema (names_of scope) name sequence body in
        let free = and_parts (has_room (names_of scope)) (has_room (looped schema (names_of scope) name sequence body) && statements_have_room schema inner body) some in
        let both = and_parts (has_room (looped schema (names_of scope) name sequence body)) (statements_have_room schema inner body) free.1 in
        gives_agreeing place (fault_at at (if_so ended NoEnd ++ flaws)) (statements_faults schema part (loops - 1) false inner body)
        (IsFor schema place scope tidy class) (second {X = ℕ × ℕ}) second (plus (sequence_sums (sequence_of sequence)) (ops 1)) (plus (plus one_loop (plus (ops 1) (ops 1))) (plus (statements_sums schema inner body) (ops 1))) s (for_code schema sequence at loops s) _
        (noted_before schema part place at ended flaws (IsFor schema place scope tidy class) (for_code schema sequence at loops s) (for_agrees schema place scope tidy sequence at loops s (seen_if schema part place ended) k))
        (noted_given (second {X = ℕ × ℕ}) (plus (sequence_sums (sequence_of sequence)) (ops 1)) s at ended flaws (for_code schema sequence at loops s) (for_gives schema place scope tidy (leb-true 1 (frees scope.kinds) free.0) sequence at loops s (seen_if schema part place ended) k))
        (λ p f. loop_roomy scope tidy s.scope name sequence loops body p f (block_gives body (loops - 1) false) both.0 both.1)

    other_gives : (other : OtherwiseTree) (loops : ℕ) → IsOtherRoomy loops other
    other_gives absent loops = absent_roomy loops
    other_gives (otherwise b) loops = else_roomy loops b (block_gives b loops false)

    pub block_gives : (b : BlockTree) (loops : ℕ) (ended : Bool) → IsRoomy loops ended b
    block_gives no_statement loops ended scope tidy s k some = λ room. adds_none nothing refl s
    block_gives (before_others at x others) loops ended scope tidy s k some =
        let names = after_statement schema (names_of scope) x in
        let head = statement_faults schema part loops ended (names_of scope) at x in
        let faults = statements_faults schema part loops (ended || always_ends x) names others in
        let both = and_parts (statement_has_room schema (names_of scope) x) (statements_have_room schema names others) some in
        let kept = noted_if scope place ended NoEnd s None k in
        gives_agreeing place head faults (Leaves place scope names (always_ends x)) second second (statement_sums schema (names_of scope) x) (statements_sums schema names others) s (statement_code schema part loops at x (after_end ended s)) _
        (statement_agrees schema part place x loops at ended scope tidy (after_end ended s) kept)
        (gives_from second (statement_sums schema (names_of scope) x) s (after_end ended s) head (statement_code schema part loops at x (after_end ended s)) (if_counts ended NoEnd s) (statement_gives x loops at ended scope tidy (after_end ended s) kept both.0))
        (λ p leaves.
        subst (λ e. Gives second (statements_sums schema names others) p.1 (statements_faults schema part loops (ended || e) names others) (statements_code schema part loops (ended || p.0) others p.1)) leaves.0
        (subst (λ n. Gives second (statements_sums schema n others) p.1 (statements_faults schema part loops (ended || p.0) n others) (statements_code schema part loops (ended || p.0) others p.1)) leaves.1.named
        (block_gives others loops (ended || p.0) p.1.scope leaves.1.onto.tidy p.1 (record { same = refl; begun = leaves.1.begun; flawed = leaves.1.flawed })
        (subst (λ n. statements_have_room schema n others ≡ true) (sym leaves.1.named) both.1))))
