-- Jumps, labels, branches and loops stay within the limits of codes.
use Rattle.std.proofs.Common.{◌≡◌, ℕ, ◌+◌, ◌≤◌, Bool, true, false, cond, List, [], ◌∷◌, ◌++◌, length, Option, Some, None, Ok, refl, subst, sym, arith, length-append}
use Rattle.std.specs.Prelude.{slice_get, set, ◌==◌}
use Rattle.std.specs.List.{list_all}
use Rattle.std.proofs.lemmas.Bool.{eqb-false, and_from}
use Rattle.bb_basis.specs.Results.{◌>>=◌}
use Rattle.bb_basis.proofs.BoolLemmas.{and_first}
use Rattle.bb_code.specs.declared.parts.TheConstants.{OP_LIMIT, LOOP_LIMIT}
use Rattle.bb_code.specs.declared.frame.Loop.{Loop}
use Rattle.bb_schema.specs.Fits.{Fits}
use Rattle.bb_code.specs.declared.frame.Kind.{Kind}
use Rattle.bb_code.specs.declared.frame.Kind.TheVariants as kinds
use Rattle.bb_code.specs.declared.op.Op.{Op}
use Rattle.bb_code.specs.declared.op.Op.TheVariants as put_ops
use Rattle.bb_schema.specs.Schema.{Schema}
use Rattle.bb_lang.specs.Blocks.{BlockTree}
use Rattle.bb_compile_scope.specs.Killed.{killed_under}
use Rattle.bb_compile_scope.specs.LocalKinds.{kinds_met}
use Rattle.bb_compile_scope.specs.Scope.{mark_of}
use Rattle.bb_compile_scope.specs.declared.scope.Mark.{Mark}
use Rattle.bb_compile_buffer.specs.declared.buffer.Buffer.{Buffer}
use Rattle.bb_compile_buffer.specs.declared.label.Label.{Label}
use Rattle.bb_compile_buffer.specs.Buffers.{put, aimed, with_aimed, aimed_at, aim, begun_loop, with_end, ended_at, kept, labelled, with_kinds, leave, declare, met}
use Rattle.bb_compile_buffer.specs.Within.{byte, two_bytes, loop_within, op_within}
use Rattle.bb_compile.specs.declared.branches.Branch.{Branch}
use Rattle.bb_compile.specs.declared.exits.Exits.{Exits}
use Rattle.bb_compile.specs.declared.looping.Begun.{Begun}
use Rattle.bb_compile.specs.Bindings.{second_aimed, exits_aimed}
use Rattle.bb_compile.specs.Statements.{loop_begun, at_back, loop_closed, loop_ended, jumped, else_begun, else_ended, if_ended}
use Rattle.bb_theorem_grammar.proofs.judged_lemmas.within.FineLemmas.{EachLabel, IsLabelled, Fine, Onto, onto_same, onto_on, Goes, Anything, goes_then, goes_from, itself, second, HasOp, put_goes, ops_within, loop_goes}
use Rattle.bb_theorem_grammar.proofs.judged_lemmas.within.FineNames.{onto_scoped, declare_goes}
use Rattle.bb_theorem_grammar.proofs.judged_lemmas.within.FineScopes.{AreKinds, AllKinds, all_met, scoped_back, scoped_under}
use Rattle.bb_theorem_grammar.proofs.judged_lemmas.laying.LayLoops.{aimed_count, ended_count}
use Rattle.bb_theorem_grammar.proofs.judged_lemmas.within.WithinLists.{all_set, all_at}

-- ---- jumps

aimed_small : (op : Op) (place : ℕ) → two_bytes place ≡ true → op_within op ≡ true → op_within (aimed op place) ≡ true
aimed_small (put_ops.One slot at) place p h = and_from (two_bytes slot) (two_bytes place) (and_first (two_bytes slot) (two_bytes at) h) p
aimed_small (put_ops.Alive at) place p h = p
aimed_small (put_ops.As class at) place p h = and_from (two_bytes class) (two_bytes place) (and_first (two_bytes class) (two_bytes at) h) p
aimed_small (put_ops.Jump at) place p h = p
aimed_small (put_ops.Unless at) place p h = p
aimed_small (put_ops.Next local at) place p h = and_from (byte local) (two_bytes place) (and_first (byte local) (two_bytes at) h) p
aimed_small (put_ops.PushInt n) place p h = h
aimed_small (put_ops.PushText text) place p h = h
aimed_small (put_ops.PushBool b) place p h = h
aimed_small (put_ops.PushLabel set label) place p h = h
aimed_small (put_ops.Load local) place p h = h
aimed_small (put_ops.Store local) place p h = h
aimed_small put_ops.Pop place p h = h
aimed_small (put_ops.Calculate c) place p h = h
aimed_small (put_ops.Divide division by) place p h = h
aimed_small (put_ops.Compare c) place p h = h
aimed_small put_ops.EqText place p h = h
aimed_small put_ops.EqLabel place p h = h
aimed_small put_ops.EqUnit place p h = h
aimed_small put_ops.Not place p h = h
aimed_small (put_ops.Combine l) place p h = h
aimed_small put_ops.MakeInterval place p h = h
aimed_small (put_ops.BoundOf b) place p h = h
aimed_small (put_ops.Get slot) place p h = h
aimed_small (put_ops.Links slot) place p h = h
aimed_small (put_ops.Find query) place p h = h
aimed_small put_ops.Size place p h = h
aimed_small (put_ops.New class) place p h = h
aimed_small (put_ops.Set slot) place p h = h
aimed_small (put_ops.Relink change slot) place p h = h
aimed_small (put_ops.Enter space) place p h = h
aimed_small (put_ops.Leave space) place p h = h
aimed_small put_ops.Delete place p h = h
aimed_small (put_ops.Say count) place p h = h
aimed_small (put_ops.Back at) place p h = h
aimed_small put_ops.Done place p h = h
aimed_small put_ops.Rate place p h = h
aimed_small put_ops.Decline place p h = h
aimed_small put_ops.Answer place p h = h

aimed_all : (at : ℕ) (l : List Op) → two_bytes (length l) ≡ true → list_all op_within l ≡ true → list_all op_within (aimed_at at l) ≡ true
aimed_all at l few h = by_op (slice_get l at) refl
  where
    by_op : (o : Option Op) → slice_get l at ≡ o → list_all op_within (with_aimed l at o) ≡ true
    by_op None is = h
    by_op (Some op) is = all_set op_within l at (aimed op (length l)) h (aimed_small op (length l) few (all_at op_within l at op h is))

pub onto_aim : (at : ℕ) (s : Buffer) → Fine s → Onto s (aim at s)
onto_aim at s f =
    let same = aimed_count at s.ops in
    record {
      back = λ clean. clean;
      fine = record {
        few_ops = subst (λ n. n ≤ OP_LIMIT) (sym same) f.few_ops;
        few_texts = f.few_texts;
        few_queries = f.few_queries;
        few_loops = f.few_loops;
        ops_are = λ clean. aimed_all at s.ops (ops_within s f) (f.ops_are clean);
        texts_are = f.texts_are;
        queries_are = f.queries_are;
        loops_are = f.loops_are;
        some_local = f.some_local;
        few_locals = f.few_locals;
        scoped = f.scoped;
        labelled_are = subst (IsLabelled s.labels s.last) (sym same) f.labelled_are;
      };
      grows = subst (λ n. length s.ops ≤ n) (sym same) (omega arith);
    }

exits_onto : (exits : Exits) (s : Buffer) → Fine s → Onto s (exits_aimed exits s)
exits_onto exits s f = by_second exits.second
  where
    one : Onto s (aim exits.first s)
    one = onto_aim exits.first s f

    by_second : (o : Option ℕ) → Onto s (second_aimed o (aim exits.first s))
    by_second None = one
    by_second (Some at) = onto_on s (aim exits.first s) (aim at (aim exits.first s)) one (onto_aim at (aim exits.first s) one.fine)

-- ---- labels

each_more : (ls : List Label) (l : Label) → EachLabel ls → l.place ≤ OP_LIMIT → AreKinds l.kinds → EachLabel (ls ++ l ∷ [])
each_more [] l all place ks = (place, ks, tt)
each_more (m ∷ ls) l all place ks = (all.0, all.1, each_more ls l all.2 place ks)

kept_few : (labels : List Label) (last : Option Label) (count : ℕ) → 1 ≤ count → count ≤ OP_LIMIT → IsLabelled labels last count → EachLabel (kept labels last count) × (length (kept labels last count) + 1 ≤ count)
unfolding kept
kept_few labels None count some few h = subst (λ l. EachLabel l × (length l + 1 ≤ count)) (sym h) (tt, some)
kept_few labels (Some last) count some few h = by_place (last.place == count) refl
  where
    here : last.place ≤ count
    here = h.place

    lower : length labels + 1 ≤ last.place
    lower = h.few

    by_place : (b : Bool) → (last.place == count) ≡ b → EachLabel (cond b labels (labels ++ last ∷ [])) × (length (cond b labels (labels ++ last ∷ [])) + 1 ≤ count)
    by_place true same = (h.each, omega (arith, here, lower))
    by_place false apart =
        let other = eqb-false last.place count apart in
        let e : length (labels ++ last ∷ []) ≡ length labels + 1 = length-append labels (last ∷ []) in
        (each_more labels last h.each (omega (arith, here, few)) h.kinds_are, omega (arith, here, lower, other, e))

pub onto_labelled : (s : Buffer) → HasOp s → Fine s → Onto s (labelled s)
unfolding labelled
onto_labelled s some f =
    let k = kept_few s.labels s.last (length s.ops) some f.few_ops f.labelled_are in
    record {
      back = λ clean. clean;
      fine = record {
        few_ops = f.few_ops;
        few_texts = f.few_texts;
        few_queries = f.few_queries;
        few_loops = f.few_loops;
        ops_are = f.ops_are;
        texts_are = f.texts_are;
        queries_are = f.queries_are;
        loops_are = f.loops_are;
        some_local = f.some_local;
        few_locals = f.few_locals;
        scoped = f.scoped;
        labelled_are = record { each = k.0; few = k.1; place = omega arith; kinds_are = f.scoped.kinds_are.each };
      };
      grows = omega arith;
    }

-- ---- scopes

pub onto_leave : (mark : Mark) (s : Buffer) → AllKinds mark.kinds → Fine s → Onto s (leave mark s)
onto_leave mark s marked f = onto_scoped s (leave mark s).scope (scoped_back mark s.scope marked f.scoped) f

onto_kinds : (ks : List Kind) (s : Buffer) → AllKinds ks → Fine s → Onto s (with_kinds ks s)
onto_kinds ks s all f = onto_scoped s (record { names = s.scope.names; kinds = ks }) (record { kinds_are = all; locals_are = f.scoped.locals_are }) f

onto_met : (ended : Bool) (ks : List Kind) (other_ended : Bool) (s : Buffer) → AllKinds ks → Fine s → Onto s (met ended ks other_ended s)
unfolding met
onto_met true ks other_ended s all f = onto_kinds ks s all f
onto_met false ks true s all f = onto_same s f
onto_met false ks false s all f = onto_kinds (kinds_met ks s.scope.kinds) s (all_met ks s.scope.kinds all f.scoped.kinds_are) f

pub some_on : (s t : Buffer) → Onto s t → HasOp s → HasOp t
some_on s t one some = let grows = one.grows in omega (arith, grows, some)

-- ---- branches

pub absent_onto : (branch : Branch) (s : Buffer) → AllKinds branch.before.kinds → HasOp s → Fine s → Onto s (if_ended branch s)
unfolding if_ended
absent_onto branch s marked some f =
    let a = exits_aimed branch.exits s in
    let b = met branch.ended branch.before.kinds false a in
    let one = exits_onto branch.exits s f in
    let two = onto_on s a b one (onto_met branch.ended branch.before.kinds false a marked one.fine) in
    onto_on s b (labelled b) two (onto_labelled b (some_on s b two some) two.fine)

pub else_onto : (branch : Branch) (jump : ℕ) (ks : List Kind) (ended : Bool) (s : Buffer) → AllKinds ks → HasOp s → Fine s → Onto s (else_ended branch jump ks ended s)
unfolding else_ended
else_onto branch jump ks ended s all some f = by_end branch.ended
  where
    by_end : (b : Bool) → Onto s (cond b (met ended ks branch.ended s) (labelled (aim jump (met ended ks branch.ended s))))
    by_end true = onto_met ended ks branch.ended s all f
    by_end false =
        let a = met ended ks branch.ended s in
        let one = onto_met ended ks branch.ended s all f in
        let two = onto_on s a (aim jump a) one (onto_aim jump a one.fine) in
        onto_on s (aim jump a) (labelled (aim jump a)) two (onto_labelled (aim jump a) (some_on s (aim jump a) two some) two.fine)

abbrev pub Begins : ℕ × Buffer → Type 0
Begins p = HasOp p.1

pub else_goes : (branch : Branch) (s : Buffer) → AllKinds branch.before.kinds → HasOp s → Goes second Begins s (else_begun branch s)
unfolding else_begun
else_goes branch s marked some =
    goes_then itself second HasOp Begins s (jumped branch s) _ (by_end branch.ended)
    (λ t there f.
    let a = exits_aimed branch.exits t in
    let b = with_kinds branch.before.kinds a in
    let one = exits_onto branch.exits t f in
    let two = onto_on t a b one (onto_kinds branch.before.kinds a marked one.fine) in
    let three = onto_on t b (labelled b) two (onto_labelled b (some_on t b two there) two.fine) in
    (three, some_on t (labelled b) three there))
  where
    by_end : (b : Bool) → Goes itself HasOp s (cond b (Ok s) (put (put_ops.Jump 0) s))
    by_end true = λ f. (onto_same s f, some)
    by_end false = put_goes (put_ops.Jump 0) s (λ clean. refl)

-- ---- loops

pub record Loops (q : Begun × Buffer) : Type 0 where
  pub head : two_bytes q.0.head ≡ true
  pub start : AllKinds q.0.start.kinds
  pub some : HasOp q.1

pub begun_goes : (schema : Schema) (sf : Fits schema) (name : List ℕ) (class local : ℕ) (body : BlockTree) (s : Buffer) → two_bytes class ≡ true → byte local ≡ true → HasOp s → Goes second Loops s (loop_begun schema name class local body s)
unfolding loop_begun
begun_goes schema sf name class local body s small within some =
    goes_from second Loops s (labelled b) (begun_loop (labelled b) >>= λ p. put (put_ops.Next local 0) p.1 >>= λ u. declare name (kinds.Ref class) u >>= λ v. Ok (record { index = p.0; head = length p.1.ops; start = mark_of p.1.scope }, v))
    (λ f. let one = onto_scoped s (killed_under schema s.scope name (Some class) body) (scoped_under schema sf name class body s.scope f.scoped small) f in onto_on s b (labelled b) one (onto_labelled b some one.fine))
    (goes_then (second {X = ℕ}) second Anything Loops (labelled b) (begun_loop (labelled b)) _ (loop_goes (labelled b))
    (λ p any f. goes_then itself second HasOp Loops p.1 (put (put_ops.Next local 0) p.1) (λ u. declare name (kinds.Ref class) u >>= λ v. Ok (record { index = p.0; head = length p.1.ops; start = mark_of p.1.scope }, v))
    (put_goes (put_ops.Next local 0) p.1 (λ clean. and_from (byte local) (two_bytes 0) within refl))
    (λ u there. goes_then itself second HasOp Loops u (declare name (kinds.Ref class) u) _ (declare_goes name (kinds.Ref class) u small)
    (λ v last g. (onto_same v g, record { head = ops_within p.1 f; start = f.scoped.kinds_are; some = last }))) f))
  where
    b : Buffer
    b = record s { scope = killed_under schema s.scope name (Some class) body }

ended_all : (index end : ℕ) (l : List Loop) → two_bytes end ≡ true → list_all loop_within l ≡ true → list_all loop_within (ended_at index end l) ≡ true
ended_all index end l small h = by_loop (slice_get l index) refl
  where
    by_loop : (o : Option Loop) → slice_get l index ≡ o → list_all loop_within (with_end l index end o) ≡ true
    by_loop None at = h
    by_loop (Some x) at =
        all_set loop_within l index (record { head = x.head; end = end }) h
        (and_from (two_bytes x.head) (two_bytes end) (and_first (two_bytes x.head) (two_bytes x.end) (all_at loop_within l index x h at)) small)

closed_onto : (begun : Begun) (s : Buffer) → Fine s → Onto s (loop_closed begun s)
closed_onto begun s f =
    let one = onto_aim begun.head s f in
    let t = aim begun.head s in
    let g = one.fine in
    record {
      back = λ clean. clean;
      fine = record {
        few_ops = g.few_ops;
        few_texts = f.few_texts;
        few_queries = f.few_queries;
        few_loops = subst (λ n. n ≤ LOOP_LIMIT) (sym (ended_count begun.index (length t.ops) s.loops)) f.few_loops;
        ops_are = g.ops_are;
        texts_are = f.texts_are;
        queries_are = f.queries_are;
        loops_are = ended_all begun.index (length t.ops) s.loops (ops_within t g) f.loops_are;
        some_local = f.some_local;
        few_locals = f.few_locals;
        scoped = f.scoped;
        labelled_are = g.labelled_are;
      };
      grows = one.grows;
    }

pub ended_goes : (begun : Begun) (ended : Bool) (s : Buffer) → two_bytes begun.head ≡ true → AllKinds begun.start.kinds → HasOp s → Goes itself HasOp s (loop_ended begun ended s)
unfolding loop_ended
ended_goes begun ended s head start some =
    goes_from itself HasOp s (at_back begun ended s) (put (put_ops.Back begun.head) (at_back begun ended s) >>= λ t. Ok (loop_closed begun t)) (λ f. by_end ended f)
    (goes_then itself itself HasOp HasOp (at_back begun ended s) (put (put_ops.Back begun.head) (at_back begun ended s)) _ (put_goes (put_ops.Back begun.head) (at_back begun ended s) (λ clean. head))
    (λ t there f. let one = closed_onto begun t f in (one, some_on t (loop_closed begun t) one there)))
  where
    back : Buffer
    back = with_kinds begun.start.kinds (leave begun.start s)

    back_onto : Fine s → Onto s back
    back_onto f =
        let one = onto_leave begun.start s start f in
        onto_on s (leave begun.start s) back one (onto_kinds begun.start.kinds (leave begun.start s) start one.fine)

    by_end : (c : Bool) → Fine s → Onto s (cond c (labelled back) back)
    by_end true f = let one = back_onto f in onto_on s back (labelled back) one (onto_labelled back some one.fine)
    by_end false f = back_onto f
