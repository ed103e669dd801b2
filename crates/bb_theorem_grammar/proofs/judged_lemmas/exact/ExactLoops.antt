-- What loops and branches lay out beside their blocks where nothing is noted, and that there was room for a name.
use Rattle.std.proofs.Common.{◌≡◌, ◌≤◌, ℕ, Bool, true, false, cond, List, [], ◌∷◌, ◌++◌, length, Option, Some, None, Result, Ok, Err, refl, subst, ap}
use Rattle.std.specs.Prelude.{nat_le}
use Rattle.bb_basis.specs.Results.{◌>>=◌}
use Rattle.bb_code.specs.declared.parts.TheConstants.{LOOP_LIMIT}
use Rattle.bb_code.specs.declared.frame.Kind.{Kind}
use Rattle.bb_code.specs.declared.frame.Kind.TheVariants as kinds
use Rattle.bb_code.specs.declared.op.Op.TheVariants as put_ops
use Rattle.bb_schema.specs.Schema.{Schema}
use Rattle.bb_lang.specs.Blocks.{BlockTree}
use Rattle.bb_compile_scope.specs.Killed.{killed_under}
use Rattle.bb_compile_scope.specs.Place.{Place}
use Rattle.bb_compile_scope.specs.Scope.{mark_of}
use Rattle.bb_compile_scope.specs.declared.fault.CompileFault.{CompileFault}
use Rattle.bb_compile_scope.specs.declared.fault.CompileFault.TheVariants.{At}
use Rattle.bb_compile_scope.specs.declared.fault.TextFlaw.TheVariants.{Limit}
use Rattle.bb_compile_scope.specs.declared.scope.Scope.{Scope}
use Rattle.bb_compile_scope.proofs.Laws.{frees}
use Rattle.bb_compile_buffer.specs.declared.buffer.Buffer.{Buffer}
use Rattle.bb_compile_buffer.specs.Buffers.{put, aim, begun_loop, labelled, with_kinds, leave, declare, met}
use Rattle.bb_compile.specs.declared.branches.Branch.{Branch}
use Rattle.bb_compile.specs.declared.exits.Exits.{Exits}
use Rattle.bb_compile.specs.declared.looping.Begun.{Begun}
use Rattle.bb_compile.specs.Bindings.{second_aimed, exits_aimed}
use Rattle.bb_compile.specs.Statements.{loop_begun, at_back, loop_closed, loop_ended, jumped, else_begun, else_ended, if_ended}
use Rattle.bb_theorem_grammar.specs.judged.Sums.{plus, ops, one_loop}
use Rattle.bb_theorem_grammar.proofs.judged_lemmas.exact.ExactActions.{Roomy, declare_counted}
use Rattle.bb_theorem_grammar.proofs.judged_lemmas.exact.ExactLemmas.{Counted, exact_none, exact_same, counted_last, counted_known, counted_from, put_counted, loop_counted}
use Rattle.bb_theorem_grammar.proofs.judged_lemmas.within.FineLemmas.{Clean, Anything, itself, second}
use Rattle.bb_theorem_grammar.proofs.judged_lemmas.scopes.HoldLemmas.{Holds, Keeps, put_keeps}
use Rattle.bb_theorem_grammar.proofs.judged_lemmas.laying.LayLemmas.{Counts, counts_on}
use Rattle.bb_theorem_grammar.proofs.judged_lemmas.laying.LayLoops.{exits_counts, label_counts, kinds_counts, closed_counts}

-- ---- flaws stay

exits_back : (exits : Exits) (s : Buffer) → Clean (exits_aimed exits s) → Clean s
exits_back exits s clean = by_second exits.second clean
  where
    by_second : (o : Option ℕ) → Clean (second_aimed o (aim exits.first s)) → Clean s
    by_second None clean = clean
    by_second (Some at) clean = clean

met_back : (ended : Bool) (ks : List Kind) (other_ended : Bool) (s : Buffer) → Clean (met ended ks other_ended s) → Clean s
unfolding met
met_back true ks other_ended s clean = clean
met_back false ks true s clean = clean
met_back false ks false s clean = clean

pub label_back : (s : Buffer) → Clean (labelled s) → Clean s
unfolding labelled
label_back s clean = clean

pub absent_back : (branch : Branch) (s : Buffer) → Clean (if_ended branch s) → Clean s
unfolding if_ended labelled
absent_back branch s clean = exits_back branch.exits s (met_back branch.ended branch.before.kinds false (exits_aimed branch.exits s) clean)

pub else_back : (branch : Branch) (jump : ℕ) (ks : List Kind) (ended : Bool) (s : Buffer) → Clean (else_ended branch jump ks ended s) → Clean s
unfolding else_ended labelled
else_back branch jump ks ended s clean = by_end branch.ended clean
  where
    by_end : (b : Bool) → Clean (cond b (met ended ks branch.ended s) (labelled (aim jump (met ended ks branch.ended s)))) → Clean s
    by_end true clean = met_back ended ks branch.ended s clean
    by_end false clean = met_back ended ks branch.ended s clean

-- ---- branches

pub else_counted : (branch : Branch) (s : Buffer) → Counted (second {X = ℕ}) Anything (ops (cond branch.ended 0 1)) s (else_begun branch s)
unfolding else_begun
else_counted branch s =
    counted_last itself (second {X = ℕ}) Anything Anything (ops (cond branch.ended 0 1)) s (jumped branch s) _ (by_end branch.ended)
    (λ t any.
    let a = exits_aimed branch.exits t in
    let b = with_kinds branch.before.kinds a in
    (λ clean. exact_same t (labelled b) (counts_on t b (labelled b) (counts_on t a b (exits_counts branch.exits t) (kinds_counts branch.before.kinds a)) (label_counts b)) (λ free. exits_back branch.exits t (label_back b free)) clean, tt))
  where
    by_end : (b : Bool) → Counted itself Anything (ops (cond b 0 1)) s (cond b (Ok s) (put (put_ops.Jump 0) s))
    by_end true = (λ clean. exact_none s clean, tt)
    by_end false = put_counted (put_ops.Jump 0) s

-- ---- loops

pub begun_counted : (schema : Schema) (place : Place) (name : List ℕ) (class local : ℕ) (body : BlockTree) (s : Buffer) → s.start ≡ place → s.flaw ≡ None
    → Counted (second {X = Begun}) (λ q. 1 ≤ frees (killed_under schema s.scope name (Some class) body).kinds) (plus one_loop (plus (ops 1) (ops 1))) s (loop_begun schema name class local body s)
unfolding loop_begun labelled begun_loop
begun_counted schema place name class local body s begun clean =
    let t = labelled (record s { scope = b }) in
    counted_from (second {X = Begun}) Free (plus one_loop (plus (ops 1) (ops 1))) s t (begun_loop t >>= f) (record { ops_are = refl; texts_are = refl; queries_are = refl; loops_are = refl }) (λ free. free)
    (counted_known place (λ (p : ℕ × Buffer). Keeps b place None p.1) (second {X = ℕ}) (second {X = Begun}) Anything Free one_loop (plus (ops 1) (ops 1)) t (begun_loop t) f (by_room (nat_le LOOP_LIMIT (length t.loops))) (loop_counted t)
    (λ p kept any. counted_known place (Keeps b place None) itself (second {X = Begun}) Anything Free (ops 1) (ops 1) p.1 (put (put_ops.Next local 0) p.1) _ (put_keeps b place (put_ops.Next local 0) p.1 None kept) (put_counted (put_ops.Next local 0) p.1)
    (λ u last more. counted_last itself (second {X = Begun}) (Roomy u) Free (ops 1) u (declare name (kinds.Ref class) u) _ (declare_counted name (kinds.Ref class) u)
    (λ v some. (λ free. exact_none v free, subst (λ (sc : Scope). 1 ≤ frees sc.kinds) last.same some)))))
  where
    b : Scope
    b = killed_under schema s.scope name (Some class) body

    Free : Begun × Buffer → Type 0
    Free q = 1 ≤ frees b.kinds

    f : ℕ × Buffer → Result (Begun × Buffer) CompileFault
    f p = put (put_ops.Next local 0) p.1 >>= λ u. declare name (kinds.Ref class) u >>= λ v. Ok (record { index = p.0; head = length p.1.ops; start = mark_of p.1.scope }, v)

    by_room : (c : Bool) → Holds (λ (p : ℕ × Buffer). Keeps b place None p.1) place
        (cond c (Err (At Limit s.start)) (Ok (length s.loops, record (labelled (record s { scope = b })) { loops = s.loops ++ record { head = length s.ops; end = length s.ops } ∷ [] })))
    by_room true = ap (At Limit) begun
    by_room false = record { same = refl; begun = begun; flawed = clean }

pub ended_counted : (begun : Begun) (ended : Bool) (s : Buffer) → Counted itself Anything (ops 1) s (loop_ended begun ended s)
unfolding loop_ended
ended_counted begun ended s =
    counted_last itself itself Anything Anything (ops 1) s (put (put_ops.Back begun.head) (at_back begun ended s)) _
    (counted_from itself Anything (ops 1) s (at_back begun ended s) (put (put_ops.Back begun.head) (at_back begun ended s)) (by_end ended) (by_back ended) (put_counted (put_ops.Back begun.head) (at_back begun ended s)))
    (λ t any. (λ clean. exact_same t (loop_closed begun t) (closed_counts begun t) (λ free. free) clean, tt))
  where
    back : Buffer
    back = with_kinds begun.start.kinds (leave begun.start s)

    back_counts : Counts s back
    back_counts = record { ops_are = refl; texts_are = refl; queries_are = refl; loops_are = refl }

    by_end : (c : Bool) → Counts s (cond c (labelled back) back)
    by_end true = counts_on s back (labelled back) back_counts (label_counts back)
    by_end false = back_counts

    by_back : (c : Bool) → Clean (cond c (labelled back) back) → Clean s
    by_back true clean = label_back back clean
    by_back false clean = clean
