-- A buffer that is within the limits of codes as far as it is laid out, where it has no flaw: steps keep it so.
use Rattle.std.proofs.Common.{◌≡◌, ℕ, ◌+◌, ◌≤◌, Bool, true, false, cond, List, [], ◌∷◌, ◌++◌, length, Option, Some, None, Result, Ok, Err, refl, arith, length-append}
use Rattle.std.specs.Prelude.{nat_le, position, ◌==◌}
use Rattle.std.specs.List.{list_all}
use Rattle.std.specs.Str.{bytes_eq}
use Rattle.std.proofs.lemmas.Bool.{leb-false, and_from}
use Rattle.bb_basis.specs.Results.{◌>>=◌}
use Rattle.bb_basis.proofs.PositionLemmas.{position_within}
use Rattle.bb_code.specs.declared.parts.TheConstants.{OP_LIMIT, TEXT_COUNT_LIMIT, QUERY_LIMIT, LOOP_LIMIT, LOCAL_LIMIT}
use Rattle.bb_code.specs.declared.frame.Loop.{Loop}
use Rattle.bb_code.specs.declared.frame.Kind.{Kind}
use Rattle.bb_verify_effect.specs.Kinds.{is_same_plain}
use Rattle.bb_code.specs.declared.op.Op.{Op}
use Rattle.bb_verify_effect.specs.Query.{Query}
use Rattle.bb_compile_scope.specs.Faults.{lowest}
use Rattle.bb_compile_scope.specs.Place.{Place}
use Rattle.bb_compile_scope.specs.declared.fault.CompileFault.{CompileFault}
use Rattle.bb_compile_scope.specs.declared.fault.CompileFault.TheVariants.{At}
use Rattle.bb_compile_scope.specs.declared.fault.TextFlaw.{TextFlaw}
use Rattle.bb_compile_scope.specs.declared.fault.TextFlaw.TheVariants.{Unknown, Kind as WrongKind, Limit}
use Rattle.bb_compile_buffer.specs.declared.buffer.Buffer.{Buffer}
use Rattle.bb_compile_buffer.specs.declared.label.Label.{Label}
use Rattle.bb_compile_buffer.specs.Buffers.{noted, due, refused_at, settled, known, put, put_value, text_at, text_index, asked_query, begun_loop}
use Rattle.bb_compile_buffer.specs.Within.{two_bytes, text_within, query_within, loop_within, op_within}
use Rattle.bb_theorem_grammar.proofs.judged_lemmas.within.FineScopes.{AreKinds, Scoped}
use Rattle.bb_theorem_grammar.proofs.judged_lemmas.within.WithinLists.{all_more, bytes_within}

-- ---- buffers

abbrev pub Clean : Buffer → Type 0
Clean s = s.flaw ≡ None

abbrev pub EachLabel : List Label → Type 0
EachLabel [] = Unit {0}
EachLabel (l ∷ ls) = (l.place ≤ OP_LIMIT) × AreKinds l.kinds × EachLabel ls

-- labels, each at a later place than the one before, and the first after an op: so there are no more than ops
pub record AreLabels (labels : List Label) (last : Label) (count : ℕ) : Type 0 where
  pub each : EachLabel labels
  pub few : length labels + 1 ≤ last.place
  pub place : last.place ≤ count
  pub kinds_are : AreKinds last.kinds

abbrev pub IsLabelled : List Label → Option Label → (count : ℕ) → Type 0
IsLabelled labels None count = labels ≡ []
IsLabelled labels (Some last) count = AreLabels labels last count

pub record Fine (s : Buffer) : Type 0 where
  pub few_ops : length s.ops ≤ OP_LIMIT
  pub few_texts : length s.texts ≤ TEXT_COUNT_LIMIT
  pub few_queries : length s.queries ≤ QUERY_LIMIT
  pub few_loops : length s.loops ≤ LOOP_LIMIT
  pub ops_are : Clean s → list_all op_within s.ops ≡ true
  pub texts_are : Clean s → list_all text_within s.texts ≡ true
  pub queries_are : Clean s → list_all query_within s.queries ≡ true
  pub loops_are : list_all loop_within s.loops ≡ true
  pub some_local : 1 ≤ s.locals
  pub few_locals : s.locals ≤ LOCAL_LIMIT
  pub scoped : Scoped s.scope
  pub labelled_are : IsLabelled s.labels s.last (length s.ops)

-- a buffer that comes of another: without a flaw only if that has none
pub record Onto (s t : Buffer) : Type 0 where
  pub back : Clean t → Clean s
  pub fine : Fine t
  pub grows : length s.ops ≤ length t.ops

pub onto_same : (s : Buffer) → Fine s → Onto s s
onto_same s f = record { back = λ clean. clean; fine = f; grows = omega arith }

pub onto_on : (s t u : Buffer) → Onto s t → Onto t u → Onto s u
onto_on s t u one two =
    let a = one.grows in
    let b = two.grows in
    record { back = λ clean. one.back (two.back clean); fine = two.fine; grows = omega (arith, a, b) }

-- ---- steps

abbrev pub Gone : {X : Type 0} → (out : X → Buffer) → (P : X → Type 0) → Buffer → Result X CompileFault → Type 0
Gone out P s (Ok x) = Onto s (out x) × P x
Gone out P s (Err fault) = Unit {0}

abbrev pub Goes : {X : Type 0} → (out : X → Buffer) → (P : X → Type 0) → Buffer → Result X CompileFault → Type 0
Goes out P s r = Fine s → Gone out P s r

abbrev pub Anything : {X : Type 0} → X → Type 0
Anything x = Unit {0}

pub gone_on : {X : Type 0} (out : X → Buffer) (P : X → Type 0) (s t : Buffer) (r : Result X CompileFault) → Onto s t → Gone out P t r → Gone out P s r
gone_on out P s t (Err fault) one h = tt
gone_on out P s t (Ok x) one h = (onto_on s t (out x) one h.0, h.1)

pub goes_then : {X Z : Type 0} (one : X → Buffer) (two : Z → Buffer) (P : X → Type 0) (Q : Z → Type 0) (s : Buffer) (r : Result X CompileFault) (f : X → Result Z CompileFault)
    → Goes one P s r → ((x : X) → P x → Goes two Q (one x) (f x)) → Goes two Q s (r >>= f)
goes_then one two P Q s (Err fault) f h next fine = tt
goes_then one two P Q s (Ok x) f h next fine = let g = h fine in gone_on two Q s (one x) (f x) g.0 (next x g.1 g.0.fine)

-- the second knows what the first did
pub goes_knowing : {X Z : Type 0} (one : X → Buffer) (two : Z → Buffer) (P : X → Type 0) (Q : Z → Type 0) (s : Buffer) (r : Result X CompileFault) (f : X → Result Z CompileFault)
    → Goes one P s r → ((x : X) → P x → Onto s (one x) → Goes two Q (one x) (f x)) → Goes two Q s (r >>= f)
goes_knowing one two P Q s (Err fault) f h next fine = tt
goes_knowing one two P Q s (Ok x) f h next fine = let g = h fine in gone_on two Q s (one x) (f x) g.0 (next x g.1 g.0 g.0.fine)

-- from a buffer that comes of another
pub goes_from : {X : Type 0} (out : X → Buffer) (P : X → Type 0) (s t : Buffer) (r : Result X CompileFault) → (Fine s → Onto s t) → Goes out P t r → Goes out P s r
goes_from out P s t r one h fine = gone_on out P s t r (one fine) (h (one fine).fine)

pub goes_map : {X : Type 0} (out : X → Buffer) (P Q : X → Type 0) (s : Buffer) (r : Result X CompileFault) → ((x : X) → P x → Q x) → Goes out P s r → Goes out Q s r
goes_map out P Q s (Err fault) f h fine = tt
goes_map out P Q s (Ok x) f h fine = let g = h fine in (g.0, f x g.1)

-- a statement with a flaw is refused
pub goes_settled : {X : Type 0} (out : X → Buffer) (P : X → Type 0) (place : Place) (s t : Buffer) (r : Result X CompileFault) → Goes out P s r → Goes out P s (settled place t >>= λ right. r)
goes_settled out P place s t r h = by_flaw t.flaw
  where
    by_flaw : (o : Option TextFlaw) → Goes out P s (refused_at place o >>= λ right. r)
    by_flaw None = h
    by_flaw (Some flaw) = λ fine. tt

abbrev pub itself : Buffer → Buffer
itself t = t

abbrev pub second : {X : Type 0} → X × Buffer → Buffer
second p = p.1

-- ---- flaws

pub never : {A : Type 0} (flaw : TextFlaw) (s : Buffer) → Clean (noted flaw s) → A
never flaw s clean = absurd (let c : Some (lowest s.flaw flaw) ≡ None = clean in cc)

pub onto_noted : (flaw : TextFlaw) (s : Buffer) → Fine s → Onto s (noted flaw s)
onto_noted flaw s f = record {
  back = λ clean. never flaw s clean;
  fine = record {
    few_ops = f.few_ops;
    few_texts = f.few_texts;
    few_queries = f.few_queries;
    few_loops = f.few_loops;
    ops_are = λ clean. never flaw s clean;
    texts_are = λ clean. never flaw s clean;
    queries_are = λ clean. never flaw s clean;
    loops_are = f.loops_are;
    some_local = f.some_local;
    few_locals = f.few_locals;
    scoped = f.scoped;
    labelled_are = f.labelled_are;
  };
  grows = omega arith;
}

pub onto_if : (b : Bool) (flaw : TextFlaw) (s : Buffer) → Fine s → Onto s (cond b (noted flaw s) s)
onto_if true flaw s f = onto_noted flaw s f
onto_if false flaw s f = onto_same s f

pub onto_unless : (b : Bool) (flaw : TextFlaw) (s : Buffer) → Fine s → Onto s (cond b s (noted flaw s))
onto_unless true flaw s f = onto_same s f
onto_unless false flaw s f = onto_noted flaw s f

-- where a test notes nothing, it passes
pub passes : (b : Bool) (flaw : TextFlaw) (s : Buffer) → Clean (cond b s (noted flaw s)) → b ≡ true
passes true flaw s clean = refl
passes false flaw s clean = never flaw s clean

pub fails : (b : Bool) (flaw : TextFlaw) (s : Buffer) → Clean (cond b (noted flaw s) s) → b ≡ false
fails true flaw s clean = never flaw s clean
fails false flaw s clean = refl

pub onto_due : (made : Option Kind) (wanted : Kind) (s : Buffer) → Fine s → Onto s (due made wanted s)
unfolding due
onto_due None wanted s f = onto_same s f
onto_due (Some kind) wanted s f = onto_unless (is_same_plain kind wanted) WrongKind s f

pub due_back : (made : Option Kind) (wanted : Kind) (s : Buffer) → Clean (due made wanted s) → Clean s
unfolding due
due_back None wanted s clean = clean
due_back (Some kind) wanted s clean = by_same (is_same_plain kind wanted) clean
  where
    by_same : (b : Bool) → Clean (cond b s (noted WrongKind s)) → Clean s
    by_same true clean = clean
    by_same false clean = never WrongKind s clean

pub onto_known : (o : Option ℕ) (s : Buffer) → Fine s → Onto s (known o s)
onto_known None s f = onto_noted Unknown s f
onto_known (Some n) s f = onto_same s f

-- ---- ops

labels_grow : (labels : List Label) (last : Option Label) (m n : ℕ) → m ≤ n → IsLabelled labels last m → IsLabelled labels last n
labels_grow labels None m n more h = h
labels_grow labels (Some last) m n more h =
    let place = h.place in
    record { each = h.each; few = h.few; place = omega (arith, place, more); kinds_are = h.kinds_are }

-- what is put is an op more
abbrev pub HasOp : Buffer → Type 0
HasOp t = 1 ≤ length t.ops

pub put_goes : (op : Op) (s : Buffer) → (Clean s → op_within op ≡ true) → Goes itself HasOp s (put op s)
unfolding put
put_goes op s small f = by_room (nat_le OP_LIMIT (length s.ops)) refl
  where
    by_room : (b : Bool) → nat_le OP_LIMIT (length s.ops) ≡ b → Gone itself HasOp s (cond b (Err (At Limit s.start)) (Ok (record s { ops = s.ops ++ op ∷ [] })))
    by_room true full = tt
    by_room false free =
        let lt = leb-false OP_LIMIT (length s.ops) free in
        let e : length (s.ops ++ op ∷ []) ≡ length s.ops + 1 = length-append s.ops (op ∷ []) in (
          record {
            back = λ clean. clean;
            fine = record {
              few_ops = omega (arith, lt, e);
              few_texts = f.few_texts;
              few_queries = f.few_queries;
              few_loops = f.few_loops;
              ops_are = λ clean. all_more op_within s.ops op (f.ops_are clean) (small clean);
              texts_are = f.texts_are;
              queries_are = f.queries_are;
              loops_are = f.loops_are;
              some_local = f.some_local;
              few_locals = f.few_locals;
              scoped = f.scoped;
              labelled_are = labels_grow s.labels s.last (length s.ops) (length (s.ops ++ op ∷ [])) (omega (arith, e)) f.labelled_are;
            };
            grows = omega (arith, e);
          },
          omega (arith, e),
        )

pub put_value_goes : (op : Op) (room : ℕ) (s : Buffer) → op_within op ≡ true → Goes itself HasOp s (put_value op room s)
unfolding put_value
put_value_goes op room s small =
    goes_from itself HasOp s (cond (room == 0) (noted Limit s) s) (put op (cond (room == 0) (noted Limit s) s)) (onto_if (room == 0) Limit s)
    (put_goes op (cond (room == 0) (noted Limit s) s) (λ clean. small))

-- ---- texts, queries and loops

-- the index of a text, or of a query
abbrev pub Indexed : ℕ × Buffer → Type 0
Indexed p = two_bytes p.0 ≡ true

pub index_goes : (text : List ℕ) (s : Buffer) → (Clean s → text_within text ≡ true) → Goes second Indexed s (text_index text s)
unfolding text_index
index_goes text s small f = by_place (position (bytes_eq text) s.texts) refl
  where
    few : length s.texts ≤ TEXT_COUNT_LIMIT
    few = f.few_texts

    by_room : (b : Bool) → nat_le TEXT_COUNT_LIMIT (length s.texts) ≡ b → Gone second Indexed s (cond b (Err (At Limit s.start)) (Ok (length s.texts, record s { texts = s.texts ++ text ∷ [] })))
    by_room true full = tt
    by_room false free =
        let lt = leb-false TEXT_COUNT_LIMIT (length s.texts) free in
        let e : length (s.texts ++ text ∷ []) ≡ length s.texts + 1 = length-append s.texts (text ∷ []) in (
          record {
            back = λ clean. clean;
            fine = record {
              few_ops = f.few_ops;
              few_texts = omega (arith, lt, e);
              few_queries = f.few_queries;
              few_loops = f.few_loops;
              ops_are = f.ops_are;
              texts_are = λ clean. all_more text_within s.texts text (f.texts_are clean) (small clean);
              queries_are = f.queries_are;
              loops_are = f.loops_are;
              some_local = f.some_local;
              few_locals = f.few_locals;
              scoped = f.scoped;
              labelled_are = f.labelled_are;
            };
            grows = omega arith;
          },
          bytes_within (length s.texts) TEXT_COUNT_LIMIT (omega (arith, lt)) (omega arith),
        )

    by_place : (o : Option ℕ) → position (bytes_eq text) s.texts ≡ o → Gone second Indexed s (text_at text o s)
    by_place (Some index) at =
        let lt = position_within (bytes_eq text) s.texts index at in
        (onto_same s f, bytes_within index TEXT_COUNT_LIMIT (omega (arith, lt, few)) (omega arith))
    by_place None at = by_room (nat_le TEXT_COUNT_LIMIT (length s.texts)) refl

pub asked_goes : (query : Query) (s : Buffer) → (Clean s → query_within query ≡ true) → Goes second Indexed s (asked_query query s)
unfolding asked_query
asked_goes query s small f = by_room (nat_le QUERY_LIMIT (length s.queries)) refl
  where
    by_room : (b : Bool) → nat_le QUERY_LIMIT (length s.queries) ≡ b → Gone second Indexed s (cond b (Err (At Limit s.start)) (Ok (length s.queries, record s { queries = s.queries ++ query ∷ [] })))
    by_room true full = tt
    by_room false free =
        let lt = leb-false QUERY_LIMIT (length s.queries) free in
        let e : length (s.queries ++ query ∷ []) ≡ length s.queries + 1 = length-append s.queries (query ∷ []) in (
          record {
            back = λ clean. clean;
            fine = record {
              few_ops = f.few_ops;
              few_texts = f.few_texts;
              few_queries = omega (arith, lt, e);
              few_loops = f.few_loops;
              ops_are = f.ops_are;
              texts_are = f.texts_are;
              queries_are = λ clean. all_more query_within s.queries query (f.queries_are clean) (small clean);
              loops_are = f.loops_are;
              some_local = f.some_local;
              few_locals = f.few_locals;
              scoped = f.scoped;
              labelled_are = f.labelled_are;
            };
            grows = omega arith;
          },
          bytes_within (length s.queries) QUERY_LIMIT (omega (arith, lt)) (omega arith),
        )

-- the number of ops fits in two bytes
pub ops_within : (s : Buffer) → Fine s → two_bytes (length s.ops) ≡ true
ops_within s f = let few : length s.ops ≤ OP_LIMIT = f.few_ops in bytes_within (length s.ops) 4097 (omega (arith, few)) (omega arith)

pub loop_goes : (s : Buffer) → Goes (second {X = ℕ}) Anything s (begun_loop s)
unfolding begun_loop
loop_goes s f = by_room (nat_le LOOP_LIMIT (length s.loops)) refl
  where
    here : Loop
    here = record { head = length s.ops; end = length s.ops }

    by_room : (b : Bool) → nat_le LOOP_LIMIT (length s.loops) ≡ b → Gone (second {X = ℕ}) Anything s (cond b (Err (At Limit s.start)) (Ok (length s.loops, record s { loops = s.loops ++ record { head = length s.ops; end = length s.ops } ∷ [] })))
    by_room true full = tt
    by_room false free =
        let lt = leb-false LOOP_LIMIT (length s.loops) free in
        let e : length (s.loops ++ record { head = length s.ops; end = length s.ops } ∷ []) ≡ length s.loops + 1 = length-append s.loops (record { head = length s.ops; end = length s.ops } ∷ []) in (
          record {
            back = λ clean. clean;
            fine = record {
              few_ops = f.few_ops;
              few_texts = f.few_texts;
              few_queries = f.few_queries;
              few_loops = omega (arith, lt, e);
              ops_are = f.ops_are;
              texts_are = f.texts_are;
              queries_are = f.queries_are;
              loops_are = all_more loop_within s.loops (record { head = length s.ops; end = length s.ops }) f.loops_are (and_from (two_bytes (length s.ops)) (two_bytes (length s.ops)) (ops_within s f) (ops_within s f));
              some_local = f.some_local;
              few_locals = f.few_locals;
              scoped = f.scoped;
              labelled_are = f.labelled_are;
            };
            grows = omega arith;
          },
          tt,
        )
