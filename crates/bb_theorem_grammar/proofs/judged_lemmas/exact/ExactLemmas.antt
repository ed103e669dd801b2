-- What a step lays out where nothing is noted: just as much as the sums say.
use Rattle.std.proofs.Common.{◌≡◌, ℕ, ◌+◌, Bool, true, false, cond, List, [], ◌∷◌, ◌++◌, length, Option, Some, None, Result, Ok, Err, refl, subst, sym, ap, ◌∙◌, arith, length-append}
use Rattle.std.specs.Prelude.{nat_le, position, ◌==◌}
use Rattle.std.specs.List.{list_any}
use Rattle.std.specs.Str.{bytes_eq}
use Rattle.bb_basis.specs.Results.{◌>>=◌}
use Rattle.bb_basis.proofs.PositionLemmas.{position_spot, spot_none}
use Rattle.bb_code.specs.declared.parts.TheConstants.{OP_LIMIT, TEXT_COUNT_LIMIT, QUERY_LIMIT, LOOP_LIMIT}
use Rattle.bb_code.specs.declared.op.Op.{Op}
use Rattle.bb_verify_effect.specs.Query.{Query}
use Rattle.bb_compile_scope.specs.Place.{Place}
use Rattle.bb_compile_scope.specs.declared.fault.CompileFault.{CompileFault}
use Rattle.bb_compile_scope.specs.declared.fault.CompileFault.TheVariants.{At}
use Rattle.bb_compile_scope.specs.declared.fault.TextFlaw.{TextFlaw}
use Rattle.bb_compile_scope.specs.declared.fault.TextFlaw.TheVariants.{Unknown, Limit}
use Rattle.bb_compile_buffer.specs.declared.buffer.Buffer.{Buffer}
use Rattle.bb_compile_buffer.specs.Buffers.{noted, refused_at, settled, known, put, put_value, text_at, text_index, asked_query, begun_loop}
use Rattle.bb_theorem_grammar.specs.judged.Sums.{Sums, plus, nothing, ops, one_text, one_query, one_loop, kept_once}
use Rattle.bb_theorem_grammar.proofs.judged_lemmas.faults.AgreeLemmas.{Agrees}
use Rattle.bb_theorem_grammar.proofs.judged_lemmas.within.FineLemmas.{Clean, Anything, itself, second, never}
use Rattle.bb_theorem_grammar.proofs.judged_lemmas.scopes.HoldLemmas.{Holds}
use Rattle.bb_theorem_grammar.proofs.judged_lemmas.laying.LayLemmas.{kept_on, there_at, Counts, if_counts}

pub record Exact (a : Sums) (s t : Buffer) : Type 0 where
  pub clean : Clean s
  pub ops_are : length t.ops ≡ length s.ops + a.ops
  pub texts_are : t.texts ≡ kept_once s.texts a.texts
  pub queries_are : length t.queries ≡ length s.queries + a.queries
  pub loops_are : length t.loops ≡ length s.loops + a.loops

abbrev pub Counted : {X : Type 0} → (out : X → Buffer) → (P : X → Type 0) → Sums → Buffer → Result X CompileFault → Type 0
Counted out P a s (Ok x) = (Clean (out x) → Exact a s (out x)) × P x
Counted out P a s (Err fault) = Unit {0}

-- what was made is there, unless something was noted
abbrev pub Unless : {X : Type 0} → Option X → Buffer → Type 0
Unless None t = Clean t → ⊥
Unless (Some x) t = Unit {0}

abbrev pub Made : {X : Type 0} → Option X × Buffer → Type 0
Made p = Unless p.0 p.1

-- ---- one after another

pub exact_none : (s : Buffer) → Clean s → Exact nothing s s
exact_none s clean = record { clean = clean; ops_are = omega arith; texts_are = refl; queries_are = omega arith; loops_are = omega arith }

exact_on : (a b : Sums) (s t u : Buffer) → Exact a s t → Exact b t u → Exact (plus a b) s u
exact_on a b s t u one two =
    let o = one.ops_are in
    let p = two.ops_are in
    let q = one.queries_are in
    let r = two.queries_are in
    let l = one.loops_are in
    let m = two.loops_are in
    record {
      clean = one.clean;
      ops_are = omega (arith, o, p);
      texts_are = two.texts_are ∙ (ap (λ k. kept_once k b.texts) one.texts_are ∙ sym (kept_on s.texts a.texts b.texts));
      queries_are = omega (arith, q, r);
      loops_are = omega (arith, l, m);
    }

exact_last : (a : Sums) (s t u : Buffer) → Exact a s t → Exact nothing t u → Exact a s u
exact_last a s t u one two =
    let o = one.ops_are in
    let p = two.ops_are in
    let q = one.queries_are in
    let r = two.queries_are in
    let l = one.loops_are in
    let m = two.loops_are in
    record {
      clean = one.clean;
      ops_are = omega (arith, o, p);
      texts_are = two.texts_are ∙ one.texts_are;
      queries_are = omega (arith, q, r);
      loops_are = omega (arith, l, m);
    }

counted_after : {X : Type 0} (out : X → Buffer) (Q : X → Type 0) (a b : Sums) (s t : Buffer) (r : Result X CompileFault) → (Clean t → Exact a s t) → Counted out Q b t r → Counted out Q (plus a b) s r
counted_after out Q a b s t (Err fault) one h = tt
counted_after out Q a b s t (Ok x) one h = (λ clean. let two = h.0 clean in exact_on a b s t (out x) (one two.clean) two, h.1)

last_behind : {X : Type 0} (out : X → Buffer) (Q : X → Type 0) (a : Sums) (s t : Buffer) (r : Result X CompileFault) → (Clean t → Exact a s t) → Counted out Q nothing t r → Counted out Q a s r
last_behind out Q a s t (Err fault) one h = tt
last_behind out Q a s t (Ok x) one h = (λ clean. let two = h.0 clean in exact_last a s t (out x) (one two.clean) two, h.1)

pub counted_then : {X Z : Type 0} (one : X → Buffer) (two : Z → Buffer) (P : X → Type 0) (Q : Z → Type 0) (a b : Sums) (s : Buffer) (r : Result X CompileFault) (f : X → Result Z CompileFault)
    → Counted one P a s r → ((x : X) → P x → Counted two Q b (one x) (f x)) → Counted two Q (plus a b) s (r >>= f)
counted_then one two P Q a b s (Err fault) f h next = tt
counted_then one two P Q a b s (Ok x) f h next = counted_after two Q a b s (one x) (f x) h.0 (next x h.1)

-- the second adds nothing
pub counted_last : {X Z : Type 0} (one : X → Buffer) (two : Z → Buffer) (P : X → Type 0) (Q : Z → Type 0) (a : Sums) (s : Buffer) (r : Result X CompileFault) (f : X → Result Z CompileFault)
    → Counted one P a s r → ((x : X) → P x → Counted two Q nothing (one x) (f x)) → Counted two Q a s (r >>= f)
counted_last one two P Q a s (Err fault) f h next = tt
counted_last one two P Q a s (Ok x) f h next = last_behind two Q a s (one x) (f x) h.0 (next x h.1)

-- the second knows what the first did
pub counted_knowing : {X Z : Type 0} (one : X → Buffer) (two : Z → Buffer) (P : X → Type 0) (Q : Z → Type 0) (a b : Sums) (s : Buffer) (r : Result X CompileFault) (f : X → Result Z CompileFault)
    → Counted one P a s r → ((x : X) → P x → (Clean (one x) → Clean s) → Counted two Q b (one x) (f x)) → Counted two Q (plus a b) s (r >>= f)
counted_knowing one two P Q a b s (Err fault) f h next = tt
counted_knowing one two P Q a b s (Ok x) f h next = counted_after two Q a b s (one x) (f x) h.0 (next x h.1 (λ clean. (h.0 clean).clean))

-- what was made before is there, unless something was noted since
pub unless_on : {X : Type 0} (made : Option X) (s t : Buffer) → (Clean t → Clean s) → Unless made s → Unless made t
unless_on None s t back there = λ clean. there (back clean)
unless_on (Some x) s t back there = tt

-- from a buffer with the same counts
pub exact_from : (a : Sums) (s t u : Buffer) → Counts s t → (Clean t → Clean s) → Exact a t u → Exact a s u
exact_from a s t u c back e = record {
  clean = back e.clean;
  ops_are = subst (λ n. length u.ops ≡ n + a.ops) c.ops_are e.ops_are;
  texts_are = subst (λ k. u.texts ≡ kept_once k a.texts) c.texts_are e.texts_are;
  queries_are = subst (λ n. length u.queries ≡ n + a.queries) c.queries_are e.queries_are;
  loops_are = subst (λ n. length u.loops ≡ n + a.loops) c.loops_are e.loops_are;
}

pub counted_from : {X : Type 0} (out : X → Buffer) (P : X → Type 0) (a : Sums) (s t : Buffer) (r : Result X CompileFault) → Counts s t → (Clean t → Clean s) → Counted out P a t r → Counted out P a s r
counted_from out P a s t (Err fault) c back h = tt
counted_from out P a s t (Ok x) c back h = (λ clean. exact_from a s t (out x) c back (h.0 clean), h.1)

pub counted_map : {X : Type 0} (out : X → Buffer) (P Q : X → Type 0) (a : Sums) (s : Buffer) (r : Result X CompileFault) → ((x : X) → P x → Q x) → Counted out P a s r → Counted out Q a s r
counted_map out P Q a s (Err fault) f h = tt
counted_map out P Q a s (Ok x) f h = (h.0, f x h.1)

pub counted_settled : {X : Type 0} (out : X → Buffer) (P : X → Type 0) (a : Sums) (place : Place) (s t : Buffer) (r : Result X CompileFault) → (Clean t → Counted out P a s r) → Counted out P a s (settled place t >>= λ right. r)
counted_settled out P a place s t r h = by_flaw t.flaw h
  where
    by_flaw : (o : Option TextFlaw) → (o ≡ None → Counted out P a s r) → Counted out P a s (refused_at place o >>= λ right. r)
    by_flaw None h = h refl
    by_flaw (Some flaw) h = tt

-- ---- ops, texts, queries and loops

pub put_counted : (op : Op) (s : Buffer) → Counted itself Anything (ops 1) s (put op s)
unfolding put
put_counted op s = by_room (nat_le OP_LIMIT (length s.ops))
  where
    by_room : (b : Bool) → Counted itself Anything (ops 1) s (cond b (Err (At Limit s.start)) (Ok (record s { ops = s.ops ++ op ∷ [] })))
    by_room true = tt
    by_room false = (λ clean. record { clean = clean; ops_are = length-append s.ops (op ∷ []); texts_are = refl; queries_are = omega arith; loops_are = omega arith }, tt)

pub back_if : (b : Bool) (flaw : TextFlaw) (s : Buffer) → Clean (cond b (noted flaw s) s) → Clean s
back_if true flaw s clean = never flaw s clean
back_if false flaw s clean = clean

pub index_counted : (text : List ℕ) (s : Buffer) → Counted (second {X = ℕ}) Anything (one_text text) s (text_index text s)
unfolding text_index
index_counted text s = by_place (position (bytes_eq text) s.texts) refl
  where
    by_room : list_any (bytes_eq text) s.texts ≡ false → (b : Bool) → Counted (second {X = ℕ}) Anything (one_text text) s (cond b (Err (At Limit s.start)) (Ok (length s.texts, record s { texts = s.texts ++ text ∷ [] })))
    by_room new true = tt
    by_room new false = (λ clean. record { clean = clean; ops_are = omega arith; texts_are = ap (λ b. cond b s.texts (s.texts ++ text ∷ [])) (sym new); queries_are = omega arith; loops_are = omega arith }, tt)

    by_place : (o : Option ℕ) → position (bytes_eq text) s.texts ≡ o → Counted (second {X = ℕ}) Anything (one_text text) s (text_at text o s)
    by_place (Some index) at =
        (λ clean. record { clean = clean; ops_are = omega arith; texts_are = ap (λ b. cond b s.texts (s.texts ++ text ∷ [])) (sym (there_at s.texts text index at)); queries_are = omega arith; loops_are = omega arith }, tt)
    by_place None at = by_room (spot_none (bytes_eq text) s.texts (sym (position_spot (bytes_eq text) s.texts) ∙ at)) (nat_le TEXT_COUNT_LIMIT (length s.texts))

pub asked_counted : (query : Query) (s : Buffer) → Counted (second {X = ℕ}) Anything one_query s (asked_query query s)
unfolding asked_query
asked_counted query s = by_room (nat_le QUERY_LIMIT (length s.queries))
  where
    by_room : (b : Bool) → Counted (second {X = ℕ}) Anything one_query s (cond b (Err (At Limit s.start)) (Ok (length s.queries, record s { queries = s.queries ++ query ∷ [] })))
    by_room true = tt
    by_room false = (λ clean. record { clean = clean; ops_are = omega arith; texts_are = refl; queries_are = length-append s.queries (query ∷ []); loops_are = omega arith }, tt)

pub loop_counted : (s : Buffer) → Counted (second {X = ℕ}) Anything one_loop s (begun_loop s)
unfolding begun_loop
loop_counted s = by_room (nat_le LOOP_LIMIT (length s.loops))
  where
    by_room : (b : Bool) → Counted (second {X = ℕ}) Anything one_loop s (cond b (Err (At Limit s.start)) (Ok (length s.loops, record s { loops = s.loops ++ record { head = length s.ops; end = length s.ops } ∷ [] })))
    by_room true = tt
    by_room false = (λ clean. record { clean = clean; ops_are = omega arith; texts_are = refl; queries_are = omega arith; loops_are = length-append s.loops (record { head = length s.ops; end = length s.ops } ∷ []) }, tt)

-- ---- what is noted

pub back_unless : (b : Bool) (flaw : TextFlaw) (s : Buffer) → Clean (cond b s (noted flaw s)) → Clean s
back_unless true flaw s clean = clean
back_unless false flaw s clean = never flaw s clean

pub known_unless : (o : Option ℕ) (s : Buffer) → Unless o (known o s)
known_unless None s = λ clean. never Unknown s clean
known_unless (Some n) s = tt

pub back_known : (o : Option ℕ) (s : Buffer) → Clean (known o s) → Clean s
back_known None s clean = never Unknown s clean
back_known (Some n) s clean = clean

pub put_value_counted : (op : Op) (room : ℕ) (s : Buffer) → Counted itself Anything (ops 1) s (put_value op room s)
unfolding put_value
put_value_counted op room s =
    counted_from itself Anything (ops 1) s (cond (room == 0) (noted Limit s) s) (put op (cond (room == 0) (noted Limit s) s)) (if_counts (room == 0) Limit s) (back_if (room == 0) Limit s)
    (put_counted op (cond (room == 0) (noted Limit s) s))

-- a flaw more: then nothing is known of how much is laid out
pub flawed : {X : Type 0} (P : X → Type 0) (a : Sums) (flaw : TextFlaw) (s : Buffer) (x : X) → P x → (Clean (noted flaw s) → Exact a s (noted flaw s)) × P x
flawed P a flaw s x p = (λ clean. never flaw s clean, p)

-- the second knows what the judgement says of the first
pub counted_known : {X Z : Type 0} (place : Place) (R : X → Type 0) (one : X → Buffer) (two : Z → Buffer) (P : X → Type 0) (Q : Z → Type 0) (a b : Sums) (s : Buffer) (r : Result X CompileFault) (f : X → Result Z CompileFault)
    → Holds R place r → Counted one P a s r → ((x : X) → R x → P x → Counted two Q b (one x) (f x)) → Counted two Q (plus a b) s (r >>= f)
counted_known place R one two P Q a b s (Err fault) f known h next = tt
counted_known place R one two P Q a b s (Ok x) f known h next = counted_after two Q a b s (one x) (f x) h.0 (next x known h.1)

-- the second knows that the first agrees with the judgement
pub counted_agreeing : {X Z : Type 0} (place : Place) (faults : List CompileFault) (R : X → Type 0) (one : X → Buffer) (two : Z → Buffer) (P : X → Type 0) (Q : Z → Type 0) (a b : Sums) (s : Buffer) (r : Result X CompileFault) (f : X → Result Z CompileFault)
    → Agrees place faults R r → Counted one P a s r → ((x : X) → R x → P x → Counted two Q b (one x) (f x)) → Counted two Q (plus a b) s (r >>= f)
counted_agreeing place faults R one two P Q a b s (Err fault) f agrees h next = tt
counted_agreeing place faults R one two P Q a b s (Ok x) f agrees h next = counted_after two Q a b s (one x) (f x) h.0 (next x agrees.1 h.1)

-- nothing is laid out
pub exact_same : (s t : Buffer) → Counts s t → (Clean t → Clean s) → Clean t → Exact nothing s t
exact_same s t c back clean = exact_from nothing s t t c back (exact_none t clean)
