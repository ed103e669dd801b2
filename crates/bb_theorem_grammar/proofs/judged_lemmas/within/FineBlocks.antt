-- Statements and blocks stay within the limits of codes.
use Rattle.std.proofs.Common.{◌≡◌, ℕ, ◌-◌, Bool, true, false, ◌&&◌, ◌||◌, List, Ok, refl}
use Rattle.bb_basis.specs.Results.{◌>>=◌}
use Rattle.bb_basis.proofs.BoolLemmas.{and_first, and_second}
use Rattle.bb_schema.specs.Fits.{Fits}
use Rattle.bb_schema.specs.Schema.{Schema}
use Rattle.bb_verify_effect.specs.declared.part.Part.{Part}
use Rattle.bb_lang.specs.Action.{Action}
use Rattle.bb_lang.specs.Blocks.{BlockTree, StatementTree, OtherwiseTree, no_statement, before_others, action, if_of, with_of, for_of, absent, otherwise}
use Rattle.bb_lang.specs.View.{sequence_of}
use Rattle.bb_compile_scope.specs.Ending.{ends}
use Rattle.bb_compile_scope.specs.Place.{Place}
use Rattle.bb_compile_scope.specs.Scope.{mark_of}
use Rattle.bb_compile_scope.specs.declared.fault.TextFlaw.TheVariants.{NoEnd}
use Rattle.bb_compile_scope.specs.declared.scope.Mark.{Mark}
use Rattle.bb_compile_buffer.specs.declared.buffer.Buffer.{Buffer}
use Rattle.bb_compile_buffer.specs.Buffers.{labelled, leave}
use Rattle.bb_compile.specs.declared.branches.Branch.{Branch}
use Rattle.bb_compile.specs.declared.exits.Exits.{Exits}
use Rattle.bb_compile.specs.Actions.{action_code}
use Rattle.bb_compile.specs.Statements.{if_code, with_code, for_code, loop_begun, loop_ended, else_begun, else_ended, left, after_end, action_of, statement_code, otherwise_code, statements_code}
use Rattle.bb_theorem_grammar.specs.judged.Held.{expr_held, sequence_held, action_held, statement_held, otherwise_held, statements_held}
use Rattle.bb_theorem_grammar.proofs.judged_lemmas.within.FineActions.{Ended, action_goes}
use Rattle.bb_theorem_grammar.proofs.judged_lemmas.within.FineHeads.{Headed, HoldsSequence, if_goes, with_goes, for_goes}
use Rattle.bb_theorem_grammar.proofs.judged_lemmas.within.FineLemmas.{onto_same, onto_on, Goes, goes_then, goes_knowing, goes_from, goes_settled, itself, second, onto_if, HasOp}
use Rattle.bb_theorem_grammar.proofs.judged_lemmas.within.FineLoops.{onto_labelled, onto_leave, some_on, absent_onto, else_onto, Begins, else_goes, Loops, begun_goes, ended_goes}
use Rattle.bb_theorem_grammar.proofs.judged_lemmas.within.FineScopes.{AllKinds}

-- a block that has ended has put an op
abbrev pub Blocked : Bool × Buffer → Type 0
Blocked r = Ended r.0 r.1

after_some : (ended : Bool) (s : Buffer) → (ended ≡ true → HasOp s) → ended ≡ true → HasOp (after_end ended s)
after_some true s some is = some is
after_some false s some is = some is

or_ended : (one two : Bool) (t : Buffer) → (one ≡ true → HasOp t) → (two ≡ true → HasOp t) → (one || two) ≡ true → HasOp t
or_ended true two t a b is = a refl
or_ended false two t a b is = b is

module _ (schema : Schema) (sf : Fits schema) (part : Part) where
  -- what is shown of a block, and of what comes after a first block
  abbrev IsFine : (loops : ℕ) → (ended : Bool) → BlockTree → Type 0
  IsFine loops ended b = (s : Buffer) → statements_held b ≡ true → (ended ≡ true → HasOp s) → Goes second Blocked s (statements_code schema part loops ended b s)

  abbrev IsOtherFine : (loops : ℕ) → OtherwiseTree → Type 0
  IsOtherFine loops other = (branch : Branch) (s : Buffer) → otherwise_held other ≡ true → AllKinds branch.before.kinds → HasOp s → Goes second Blocked s (otherwise_code schema part loops branch other s)

  one_action : (loops : ℕ) (place : Place) (a : Action) (s : Buffer) → action_held a ≡ true → Goes second Blocked s (action_of schema part place a s)
  one_action loops place a s held =
      goes_then itself second (Ended (ends a)) Blocked s (action_code schema part a s) _ (action_goes schema sf part a s held)
      (λ t e. goes_settled second Blocked place t t (Ok (ends a, t)) (λ f. (onto_same t f, e)))

  -- a block, whose names are forgotten
  pub left_goes : (loops : ℕ) (b : BlockTree) (t : Buffer) → IsFine loops false b → statements_held b ≡ true → Goes second Blocked t (statements_code schema part loops false b t >>= left (mark_of t.scope))
  left_goes loops b t fine held = λ f.
      goes_then second second Blocked Blocked t (statements_code schema part loops false b t) (left (mark_of t.scope)) (fine t held (λ never. absurd cc))
      (λ r e g. (onto_leave (mark_of t.scope) r.1 f.scoped.kinds_are g, e)) f

  else_fine : (loops : ℕ) (b : BlockTree) → IsFine loops false b → IsOtherFine loops (otherwise b)
  unfolding otherwise_code otherwise_held
  else_fine loops b fine branch s held marked some = λ f.
      goes_then second second Begins Blocked s (else_begun branch s) (λ p. (statements_code schema part loops false b p.1 >>= left (mark_of p.1.scope)) >>= λ r. Ok (branch.ended && r.0, else_ended branch p.0 s.scope.kinds r.0 r.1)) (else_goes branch s marked some)
      (λ p there. goes_knowing second second Blocked Blocked p.1 (statements_code schema part loops false b p.1 >>= left (mark_of p.1.scope)) _ (left_goes loops b p.1 fine held)
      (λ r e onto g.
      let last = else_onto branch p.0 s.scope.kinds r.0 r.1 f.scoped.kinds_are (some_on p.1 r.1 onto there) g in
      (last, λ is. some_on r.1 (else_ended branch p.0 s.scope.kinds r.0 r.1) last (some_on p.1 r.1 onto there)))) f

  absent_fine : (loops : ℕ) → IsOtherFine loops absent
  unfolding otherwise_code
  absent_fine loops branch s held marked some = λ f. (absent_onto branch s marked some f, λ never. absurd cc)

  branches_go : (loops : ℕ) (first : BlockTree) (other : OtherwiseTree) (exits : Exits) (before : Mark) (t : Buffer) → IsFine loops false first → IsOtherFine loops other → statements_held first ≡ true → otherwise_held other ≡ true → AllKinds before.kinds → HasOp t
      → Goes second Blocked t ((statements_code schema part loops false first t >>= left (mark_of t.scope)) >>= λ r. otherwise_code schema part loops (record { before = before; exits = exits; ended = r.0 }) other (leave before r.1))
  branches_go loops first other exits before t fine rest one two marked some =
      goes_knowing second second Blocked Blocked t (statements_code schema part loops false first t >>= left (mark_of t.scope)) _ (left_goes loops first t fine one)
      (λ r e onto. goes_from second Blocked r.1 (leave before r.1) (otherwise_code schema part loops (record { before = before; exits = exits; ended = r.0 }) other (leave before r.1)) (onto_leave before r.1 marked)
      (rest (record { before = before; exits = exits; ended = r.0 }) (leave before r.1) two marked (some_on t r.1 onto some)))

  loop_fine : (loops : ℕ) (name : List ℕ) (body : BlockTree) (before : Mark) (p : (ℕ × ℕ) × Buffer) → IsFine (loops - 1) false body → statements_held body ≡ true → AllKinds before.kinds → HoldsSequence schema sf p
      → Goes second Blocked p.1 (loop_begun schema name p.0.0 p.0.1 body p.1 >>= λ q. (statements_code schema part (loops - 1) false body q.1 >>= left (mark_of q.1.scope)) >>= λ r. loop_ended q.0 r.0 r.1 >>= λ w. Ok (false, labelled (leave before w)))
  loop_fine loops name body before p fine held marked is =
      goes_then second second Loops Blocked p.1 (loop_begun schema name p.0.0 p.0.1 body p.1) _ (begun_goes schema sf name p.0.0 p.0.1 body p.1 is.class is.local is.some)
      (λ q begun. goes_knowing second second Blocked Blocked q.1 (statements_code schema part (loops - 1) false body q.1 >>= left (mark_of q.1.scope)) _ (left_goes (loops - 1) body q.1 fine held)
      (λ r e onto. goes_then itself second HasOp Blocked r.1 (loop_ended q.0 r.0 r.1) _ (ended_goes q.0 r.0 r.1 begun.head begun.start (some_on q.1 r.1 onto begun.some))
      (λ w some f.
      let one = onto_leave before w marked f in
      (onto_on w (leave before w) (labelled (leave before w)) one (onto_labelled (leave before w) some one.fine), λ never. absurd cc))))

  mutual
    unfolding statement_code otherwise_code statements_code statement_held otherwise_held statements_held

    statement_fine : (x : StatementTree) (loops : ℕ) (place : Place) (s : Buffer) → statement_held x ≡ true → Goes second Blocked s (statement_code schema part loops place x s)
    statement_fine (action a) loops place s held = one_action loops place a s held
    statement_fine (if_of condition first other) loops place s held =
        let rest = and_second (expr_held condition) (statements_held first && otherwise_held other) held in
        goes_then second second Headed Blocked s (if_code schema condition place s) _ (if_goes schema sf condition place s (and_first (expr_held condition) (statements_held first && otherwise_held other) held))
        (λ p some f. branches_go loops first other p.0 (mark_of p.1.scope) p.1 (block_fine first loops false) (other_fine other loops) (and_first (statements_held first) (otherwise_held other) rest) (and_second (statements_held first) (otherwise_held other) rest) f.scoped.kinds_are some f)
    statement_fine (with_of binding first other) loops place s held = λ f.
        goes_then second second Headed Blocked s (with_code schema binding place s) (λ p. (statements_code schema part loops false first p.1 >>= left (mark_of p.1.scope)) >>= λ r. otherwise_code schema part loops (record { before = mark_of s.scope; exits = p.0; ended = r.0 }) other (leave (mark_of s.scope) r.1)) (with_goes schema sf binding place s)
        (λ p some. branches_go loops first other p.0 (mark_of s.scope) p.1 (block_fine first loops false) (other_fine other loops) (and_first (statements_held first) (otherwise_held other) held) (and_second (statements_held first) (otherwise_held other) held) f.scoped.kinds_are some) f
    statement_fine (for_of name sequence body) loops place s held = λ f.
        goes_then (second {X = ℕ × ℕ}) second (HoldsSequence schema sf) Blocked s (for_code schema sequence place loops s)
        (λ p. loop_begun schema name p.0.0 p.0.1 body p.1 >>= λ q. (statements_code schema part (loops - 1) false body q.1 >>= left (mark_of q.1.scope)) >>= λ r. loop_ended q.0 r.0 r.1 >>= λ w. Ok (false, labelled (leave (mark_of s.scope) w)))
        (for_goes schema sf sequence place loops s (and_first (sequence_held (sequence_of sequence)) (statements_held body) held))
        (λ p is. loop_fine loops name body (mark_of s.scope) p (block_fine body (loops - 1) false) (and_second (sequence_held (sequence_of sequence)) (statements_held body) held) f.scoped.kinds_are is) f

    other_fine : (other : OtherwiseTree) (loops : ℕ) → IsOtherFine loops other
    other_fine absent loops = absent_fine loops
    other_fine (otherwise b) loops = else_fine loops b (block_fine b loops false)

    pub block_fine : (b : BlockTree) (loops : ℕ) (ended : Bool) → IsFine loops ended b
    block_fine no_statement loops ended s held some = λ f. (onto_same s f, some)
    block_fine (before_others place x others) loops ended s held some =
        let t = after_end ended s in
        goes_from second Blocked s t (statement_code schema part loops place x t >>= λ r. statements_code schema part loops (ended || r.0) others r.1) (onto_if ended NoEnd s)
        (goes_knowing second second Blocked Blocked t (statement_code schema part loops place x t) _ (statement_fine x loops place t (and_first (statement_held x) (statements_held others) held))
        (λ r e onto. block_fine others loops (ended || r.0) r.1 (and_second (statement_held x) (statements_held others) held) (or_ended ended r.0 r.1 (λ is. some_on t r.1 onto (after_some ended s some is)) e)))
