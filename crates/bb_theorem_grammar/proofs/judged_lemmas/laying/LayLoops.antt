-- What loops and branches lay out at most beside their blocks.
use Rattle.std.proofs.Common.{◌≡◌, ◌≤◌, ℕ, Bool, true, false, cond, List, [], ◌∷◌, ◌++◌, length, Option, Some, None, Result, Ok, Err, refl, subst, sym, ap}
use Rattle.std.specs.Prelude.{nat_le, slice_get}
use Rattle.std.proofs.lemmas.List.{length-set}
use Rattle.bb_basis.specs.Results.{◌>>=◌}
use Rattle.bb_code.specs.declared.parts.TheConstants.{LOOP_LIMIT}
use Rattle.bb_code.specs.declared.frame.Loop.{Loop}
use Rattle.bb_code.specs.declared.frame.Kind.{Kind}
use Rattle.bb_code.specs.declared.frame.Kind.TheVariants as kinds
use Rattle.bb_code.specs.declared.op.Op.{Op}
use Rattle.bb_code.specs.declared.op.Op.TheVariants as put_ops
use Rattle.bb_schema.specs.Schema.{Schema}
use Rattle.bb_lang.specs.Blocks.{BlockTree}
use Rattle.bb_compile_scope.specs.Killed.{killed_under}
use Rattle.bb_compile_scope.specs.LocalKinds.{kinds_met}
use Rattle.bb_compile_scope.specs.Place.{Place}
use Rattle.bb_compile_scope.specs.Scope.{mark_of}
use Rattle.bb_compile_scope.specs.declared.fault.CompileFault.{CompileFault}
use Rattle.bb_compile_scope.specs.declared.fault.CompileFault.TheVariants.{At}
use Rattle.bb_compile_scope.specs.declared.fault.TextFlaw.TheVariants.{Limit}
use Rattle.bb_compile_scope.specs.declared.scope.Mark.{Mark}
use Rattle.bb_compile_scope.specs.declared.scope.Scope.{Scope}
use Rattle.bb_compile_scope.proofs.Laws.{frees}
use Rattle.bb_compile_buffer.specs.declared.buffer.Buffer.{Buffer}
use Rattle.bb_compile_buffer.specs.Buffers.{put, aimed, with_aimed, aimed_at, aim, begun_loop, with_end, ended_at, labelled, with_kinds, leave, declare, met}
use Rattle.bb_compile.specs.declared.branches.Branch.{Branch}
use Rattle.bb_compile.specs.declared.exits.Exits.{Exits}
use Rattle.bb_compile.specs.declared.looping.Begun.{Begun}
use Rattle.bb_compile.specs.Bindings.{second_aimed, exits_aimed}
use Rattle.bb_compile.specs.Statements.{loop_begun, at_back, loop_closed, loop_ended, jumped, else_begun, else_ended, if_ended}
use Rattle.bb_theorem_grammar.specs.judged.Sums.{plus, ops, one_loop}
use Rattle.bb_theorem_grammar.proofs.judged_lemmas.scopes.HoldLemmas.{Holds, Keeps, put_keeps}
use Rattle.bb_theorem_grammar.proofs.judged_lemmas.laying.LayActions.{declare_lays, lays_knowing}
use Rattle.bb_theorem_grammar.proofs.judged_lemmas.laying.LayLemmas.{Lays, lays_last, adds_none, Counts, counts_same, counts_on, lays_from, adds_to, itself, second, put_lays, loop_lays}

-- ---- what changes no count

pub aimed_count : (at : ℕ) (l : List Op) → length (aimed_at at l) ≡ length l
aimed_count at l = by_op (slice_get l at)
  where
    by_op : (o : Option Op) → length (with_aimed l at o) ≡ length l
    by_op None = refl
    by_op (Some op) = length-set l at (aimed op (length l))

pub aim_counts : (at : ℕ) (s : Buffer) → Counts s (aim at s)
aim_counts at s = record { ops_are = aimed_count at s.ops; texts_are = refl; queries_are = refl; loops_are = refl }

pub exits_counts : (exits : Exits) (s : Buffer) → Counts s (exits_aimed exits s)
exits_counts exits s = by_second exits.second
  where
    by_second : (o : Option ℕ) → Counts s (second_aimed o (aim exits.first s))
    by_second None = aim_counts exits.first s
    by_second (Some at) = counts_on s (aim exits.first s) (aim at (aim exits.first s)) (aim_counts exits.first s) (aim_counts at (aim exits.first s))

pub label_counts : (s : Buffer) → Counts s (labelled s)
unfolding labelled
label_counts s = record { ops_are = refl; texts_are = refl; queries_are = refl; loops_are = refl }

pub leave_counts : (mark : Mark) (s : Buffer) → Counts s (leave mark s)
leave_counts mark s = record { ops_are = refl; texts_are = refl; queries_are = refl; loops_are = refl }

pub kinds_counts : (ks : List Kind) (s : Buffer) → Counts s (with_kinds ks s)
kinds_counts ks s = record { ops_are = refl; texts_are = refl; queries_are = refl; loops_are = refl }

met_counts : (ended : Bool) (ks : List Kind) (other_ended : Bool) (s : Buffer) → Counts s (met ended ks other_ended s)
unfolding met
met_counts true ks other_ended s = kinds_counts ks s
met_counts false ks true s = counts_same s
met_counts false ks false s = kinds_counts (kinds_met ks s.scope.kinds) s

-- ---- branches

pub absent_counts : (branch : Branch) (s : Buffer) → Counts s (if_ended branch s)
unfolding if_ended
absent_counts branch s =
    let a = exits_aimed branch.exits s in
    let b = met branch.ended branch.before.kinds false a in
    counts_on s b (labelled b) (counts_on s a b (exits_counts branch.exits s) (met_counts branch.ended branch.before.kinds false a)) (label_counts b)

pub else_counts : (branch : Branch) (jump : ℕ) (ks : List Kind) (ended : Bool) (s : Buffer) → Counts s (else_ended branch jump ks ended s)
unfolding else_ended
else_counts branch jump ks ended s = by_end branch.ended
  where
    by_end : (b : Bool) → Counts s (cond b (met ended ks branch.ended s) (labelled (aim jump (met ended ks branch.ended s))))
    by_end true = met_counts ended ks branch.ended s
    by_end false =
        let a = met ended ks branch.ended s in
        counts_on s (aim jump a) (labelled (aim jump a)) (counts_on s a (aim jump a) (met_counts ended ks branch.ended s) (aim_counts jump a)) (label_counts (aim jump a))

pub else_lays : (branch : Branch) (s : Buffer) → Lays second (ops (cond branch.ended 0 1)) s (else_begun branch s)
unfolding else_begun
else_lays branch s =
    lays_last itself second (ops (cond branch.ended 0 1)) s (jumped branch s) _ (by_end branch.ended)
    (λ t m.
    let a = exits_aimed branch.exits t in
    let b = with_kinds branch.before.kinds a in
    adds_to (ops (cond branch.ended 0 1)) s t (labelled b) (counts_on t b (labelled b) (counts_on t a b (exits_counts branch.exits t) (kinds_counts branch.before.kinds a)) (label_counts b)) m)
  where
    by_end : (b : Bool) → Lays itself (ops (cond b 0 1)) s (cond b (Ok s) (put (put_ops.Jump 0) s))
    by_end true = λ room. adds_none (ops 0) refl s
    by_end false = put_lays (put_ops.Jump 0) s

-- ---- loops

pub begun_lays : (schema : Schema) (place : Place) (name : List ℕ) (class local : ℕ) (body : BlockTree) (s : Buffer) → s.start ≡ place → s.flaw ≡ None → 1 ≤ frees (killed_under schema s.scope name (Some class) body).kinds
    → Lays second (plus one_loop (plus (ops 1) (ops 1))) s (loop_begun schema name class local body s)
unfolding loop_begun labelled begun_loop
begun_lays schema place name class local body s begun clean some =
    let t = labelled (record s { scope = b }) in
    lays_from second (plus one_loop (plus (ops 1) (ops 1))) s t (begun_loop t >>= f) (record { ops_are = refl; texts_are = refl; queries_are = refl; loops_are = refl })
    (lays_knowing place (λ (p : ℕ × Buffer). Keeps b place None p.1) second second one_loop (plus (ops 1) (ops 1)) t (begun_loop t) f (by_room (nat_le LOOP_LIMIT (length t.loops))) (loop_lays t)
    (λ p kept. lays_knowing place (Keeps b place None) itself second (ops 1) (ops 1) p.1 (put (put_ops.Next local 0) p.1) _ (put_keeps b place (put_ops.Next local 0) p.1 None kept) (put_lays (put_ops.Next local 0) p.1)
    (λ u last. lays_last itself second (ops 1) u (declare name (kinds.Ref class) u) _ (declare_lays name (kinds.Ref class) u (subst (λ (sc : Scope). 1 ≤ frees sc.kinds) (sym last.same) some)) (λ v m. m))))
  where
    b : Scope
    b = killed_under schema s.scope name (Some class) body

    f : ℕ × Buffer → Result (Begun × Buffer) CompileFault
    f p = put (put_ops.Next local 0) p.1 >>= λ u. declare name (kinds.Ref class) u >>= λ v. Ok (record { index = p.0; head = length p.1.ops; start = mark_of p.1.scope }, v)

    by_room : (c : Bool) → Holds (λ (p : ℕ × Buffer). Keeps b place None p.1) place
        (cond c (Err (At Limit s.start)) (Ok (length s.loops, record (labelled (record s { scope = b })) { loops = s.loops ++ record { head = length s.ops; end = length s.ops } ∷ [] })))
    by_room true = ap (At Limit) begun
    by_room false = record { same = refl; begun = begun; flawed = clean }

pub ended_count : (index end : ℕ) (l : List Loop) → length (ended_at index end l) ≡ length l
ended_count index end l = by_loop (slice_get l index)
  where
    by_loop : (o : Option Loop) → length (with_end l index end o) ≡ length l
    by_loop None = refl
    by_loop (Some x) = length-set l index (record { head = x.head; end = end })

pub closed_counts : (begun : Begun) (s : Buffer) → Counts s (loop_closed begun s)
closed_counts begun s = record {
  ops_are = aimed_count begun.head s.ops;
  texts_are = refl;
  queries_are = refl;
  loops_are = ended_count begun.index (length (aim begun.head s).ops) s.loops;
}

pub ended_lays : (begun : Begun) (ended : Bool) (s : Buffer) → Lays itself (ops 1) s (loop_ended begun ended s)
unfolding loop_ended
ended_lays begun ended s =
    lays_last itself itself (ops 1) s (put (put_ops.Back begun.head) (at_back begun ended s)) _
    (lays_from itself (ops 1) s (at_back begun ended s) (put (put_ops.Back begun.head) (at_back begun ended s)) (by_end ended) (put_lays (put_ops.Back begun.head) (at_back begun ended s)))
    (λ t m. adds_to (ops 1) s t (loop_closed begun t) (closed_counts begun t) m)
  where
    back : Buffer
    back = with_kinds begun.start.kinds (leave begun.start s)

    back_counts : Counts s back
    back_counts = record { ops_are = refl; texts_are = refl; queries_are = refl; loops_are = refl }

    by_end : (c : Bool) → Counts s (cond c (labelled back) back)
    by_end true = counts_on s back (labelled back) back_counts (label_counts back)
    by_end false = back_counts
