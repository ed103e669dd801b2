-- What a step of the compiler lays out at most, and that there is room for it where the sums say so.
use Rattle.std.proofs.Common.{◌≡◌, ◌≤◌, ℕ, ◌+◌, Bool, true, false, cond, List, [], ◌∷◌, ◌++◌, length, Option, Some, None, Result, Ok, Err, refl, subst, sym, ap, ◌∙◌, arith, length-append}
use Rattle.std.specs.Prelude.{nat_le, ◌==◌, position}
use Rattle.std.specs.List.{list_any}
use Rattle.std.specs.Str.{bytes_eq}
use Rattle.std.proofs.lemmas.Bool.{leb-true}
use Rattle.bb_basis.specs.Results.{◌>>=◌}
use Rattle.bb_basis.proofs.PositionLemmas.{position_spot, spot_none, none_spot}
use Rattle.bb_code.specs.declared.parts.TheConstants.{OP_LIMIT, TEXT_COUNT_LIMIT, QUERY_LIMIT, LOOP_LIMIT}
use Rattle.bb_code.specs.declared.frame.Kind.{Kind}
use Rattle.bb_verify_effect.specs.Kinds.{is_same_plain}
use Rattle.bb_code.specs.declared.op.Op.{Op}
use Rattle.bb_verify_effect.specs.Query.{Query}
use Rattle.bb_compile_scope.specs.declared.fault.CompileFault.{CompileFault}
use Rattle.bb_compile_scope.specs.declared.fault.CompileFault.TheVariants.{At}
use Rattle.bb_compile_scope.specs.declared.fault.TextFlaw.{TextFlaw}
use Rattle.bb_compile_scope.specs.declared.fault.TextFlaw.TheVariants.{Unknown, Kind as WrongKind, Limit}
use Rattle.bb_compile_buffer.specs.declared.buffer.Buffer.{Buffer}
use Rattle.bb_compile_buffer.specs.Buffers.{noted, due, known, put, put_value, text_at, text_index, asked_query, begun_loop}
use Rattle.bb_theorem_grammar.specs.judged.Sums.{Sums, plus, ops, one_text, one_query, one_loop, with_text, kept_once}

-- ---- room, and what is added

kept_grows : (kept texts : List (List ℕ)) → length kept ≤ length (kept_once kept texts)
kept_grows kept [] = omega arith
kept_grows kept (text ∷ texts) = by_text (λ more. kept_grows more texts) (list_any (bytes_eq text) kept)
  where
    by_text : ((more : List (List ℕ)) → length more ≤ length (kept_once more texts)) → (b : Bool) → length kept ≤ length (kept_once (cond b kept (kept ++ text ∷ [])) texts)
    by_text rest true = rest kept
    by_text rest false =
        let grown = rest (kept ++ text ∷ []) in
        let e = length-append kept (text ∷ []) in
        omega (arith, grown, e)

pub kept_on : (kept xs ys : List (List ℕ)) → kept_once kept (xs ++ ys) ≡ kept_once (kept_once kept xs) ys
kept_on kept [] ys = refl
kept_on kept (x ∷ xs) ys = kept_on (with_text kept x) xs ys

pub record Room (a : Sums) (s : Buffer) : Type 0 where
  pub few_ops : length s.ops + a.ops ≤ OP_LIMIT
  pub few_texts : length (kept_once s.texts a.texts) ≤ TEXT_COUNT_LIMIT
  pub few_queries : length s.queries + a.queries ≤ QUERY_LIMIT
  pub few_loops : length s.loops + a.loops ≤ LOOP_LIMIT

pub record Adds (a : Sums) (s t : Buffer) : Type 0 where
  pub more_ops : length t.ops ≤ length s.ops + a.ops
  pub more_texts : t.texts ≡ kept_once s.texts a.texts
  pub more_queries : length t.queries ≤ length s.queries + a.queries
  pub more_loops : length t.loops ≤ length s.loops + a.loops

abbrev pub Laid : {X : Type 0} → (out : X → Buffer) → Sums → Buffer → Result X CompileFault → Type 0
Laid out a s (Ok x) = Adds a s (out x)
Laid out a s (Err fault) = ⊥

-- where there is room for so much, a step makes something, and adds no more
abbrev pub Lays : {X : Type 0} → (out : X → Buffer) → Sums → Buffer → Result X CompileFault → Type 0
Lays out a s r = Room a s → Laid out a s r

pub room_first : (a b : Sums) (s : Buffer) → Room (plus a b) s → Room a s
room_first a b s r =
    let o = r.few_ops in
    let x = subst (λ l. length l ≤ TEXT_COUNT_LIMIT) (kept_on s.texts a.texts b.texts) r.few_texts in
    let g = kept_grows (kept_once s.texts a.texts) b.texts in
    let q = r.few_queries in
    let l = r.few_loops in
    record { few_ops = omega (arith, o); few_texts = omega (arith, x, g); few_queries = omega (arith, q); few_loops = omega (arith, l) }

pub room_rest : (a b : Sums) (s t : Buffer) → Adds a s t → Room (plus a b) s → Room b t
room_rest a b s t m r =
    let o = r.few_ops in
    let q = r.few_queries in
    let l = r.few_loops in
    let mo = m.more_ops in
    let mq = m.more_queries in
    let ml = m.more_loops in
    record { few_ops = omega (arith, o, mo); few_texts = subst (λ k. length (kept_once k b.texts) ≤ TEXT_COUNT_LIMIT) (sym m.more_texts) (subst (λ k. length k ≤ TEXT_COUNT_LIMIT) (kept_on s.texts a.texts b.texts) r.few_texts); few_queries = omega (arith, q, mq); few_loops = omega (arith, l, ml) }

pub adds_on : (a b : Sums) (s t u : Buffer) → Adds a s t → Adds b t u → Adds (plus a b) s u
adds_on a b s t u m n =
    let mo = m.more_ops in
    let mq = m.more_queries in
    let ml = m.more_loops in
    let no_ = n.more_ops in
    let nq = n.more_queries in
    let nl = n.more_loops in
    record { more_ops = omega (arith, mo, no_); more_texts = n.more_texts ∙ (ap (λ k. kept_once k b.texts) m.more_texts ∙ sym (kept_on s.texts a.texts b.texts)); more_queries = omega (arith, mq, nq); more_loops = omega (arith, ml, nl) }

pub laid_on : {X : Type 0} (out : X → Buffer) (a b : Sums) (s t : Buffer) (r : Result X CompileFault) → Adds a s t → Laid out b t r → Laid out (plus a b) s r
laid_on out a b s t (Err fault) m h = h
laid_on out a b s t (Ok x) m h = adds_on a b s t (out x) m h

pub lays_then : {X Z : Type 0} (one : X → Buffer) (two : Z → Buffer) (a b : Sums) (s : Buffer) (r : Result X CompileFault) (f : X → Result Z CompileFault)
    → Lays one a s r → ((x : X) → Lays two b (one x) (f x)) → Lays two (plus a b) s (r >>= f)
lays_then one two a b s (Err fault) f h next room = absurd (h (room_first a b s room))
lays_then one two a b s (Ok x) f h next room =
    let m = h (room_first a b s room) in laid_on two a b s (one x) (f x) m (next x (room_rest a b s (one x) m room))

-- the second adds nothing
pub lays_last : {X Z : Type 0} (one : X → Buffer) (two : Z → Buffer) (a : Sums) (s : Buffer) (r : Result X CompileFault) (f : X → Result Z CompileFault)
    → Lays one a s r → ((x : X) → Adds a s (one x) → Laid two a s (f x)) → Lays two a s (r >>= f)
lays_last one two a s (Err fault) f h next room = absurd (h room)
lays_last one two a s (Ok x) f h next room = next x (h room)

pub adds_none : (a : Sums) → a.texts ≡ [] → (s : Buffer) → Adds a s s
adds_none a none s = record { more_ops = omega arith; more_texts = sym (ap (kept_once s.texts) none); more_queries = omega arith; more_loops = omega arith }

-- ---- buffers that differ in nothing that is counted

pub record Counts (s t : Buffer) : Type 0 where
  pub ops_are : length t.ops ≡ length s.ops
  pub texts_are : t.texts ≡ s.texts
  pub queries_are : length t.queries ≡ length s.queries
  pub loops_are : length t.loops ≡ length s.loops

pub counts_same : (s : Buffer) → Counts s s
counts_same s = record { ops_are = refl; texts_are = refl; queries_are = refl; loops_are = refl }

pub counts_on : (s t u : Buffer) → Counts s t → Counts t u → Counts s u
counts_on s t u c d = record {
  ops_are = d.ops_are ∙ c.ops_are;
  texts_are = d.texts_are ∙ c.texts_are;
  queries_are = d.queries_are ∙ c.queries_are;
  loops_are = d.loops_are ∙ c.loops_are;
}

pub room_counts : (a : Sums) (s t : Buffer) → Counts s t → Room a s → Room a t
room_counts a s t c r = record {
  few_ops = subst (λ l. l + a.ops ≤ OP_LIMIT) (sym c.ops_are) r.few_ops;
  few_texts = subst (λ l. length (kept_once l a.texts) ≤ TEXT_COUNT_LIMIT) (sym c.texts_are) r.few_texts;
  few_queries = subst (λ l. l + a.queries ≤ QUERY_LIMIT) (sym c.queries_are) r.few_queries;
  few_loops = subst (λ l. l + a.loops ≤ LOOP_LIMIT) (sym c.loops_are) r.few_loops;
}

pub adds_counts : (a : Sums) (s t u : Buffer) → Counts s t → Adds a t u → Adds a s u
adds_counts a s t u c m = record {
  more_ops = subst (λ l. length u.ops ≤ l + a.ops) c.ops_are m.more_ops;
  more_texts = subst (λ l. u.texts ≡ kept_once l a.texts) c.texts_are m.more_texts;
  more_queries = subst (λ l. length u.queries ≤ l + a.queries) c.queries_are m.more_queries;
  more_loops = subst (λ l. length u.loops ≤ l + a.loops) c.loops_are m.more_loops;
}

laid_counts : {X : Type 0} (out : X → Buffer) (a : Sums) (s t : Buffer) (r : Result X CompileFault) → Counts s t → Laid out a t r → Laid out a s r
laid_counts out a s t (Err fault) c h = h
laid_counts out a s t (Ok x) c h = adds_counts a s t (out x) c h

-- the step is made from a buffer with the same counts
pub lays_from : {X : Type 0} (out : X → Buffer) (a : Sums) (s t : Buffer) (r : Result X CompileFault) → Counts s t → Lays out a t r → Lays out a s r
lays_from out a s t r c h room = laid_counts out a s t r c (h (room_counts a s t c room))

pub adds_to : (a : Sums) (s t u : Buffer) → Counts t u → Adds a s t → Adds a s u
adds_to a s t u c m = record {
  more_ops = subst (λ l. l ≤ length s.ops + a.ops) (sym c.ops_are) m.more_ops;
  more_texts = c.texts_are ∙ m.more_texts;
  more_queries = subst (λ l. l ≤ length s.queries + a.queries) (sym c.queries_are) m.more_queries;
  more_loops = subst (λ l. l ≤ length s.loops + a.loops) (sym c.loops_are) m.more_loops;
}

-- nothing is laid out
pub adds_noted : (a : Sums) → a.texts ≡ [] → (s t : Buffer) → Counts s t → Adds a s t
adds_noted a none s t c = adds_to a s s t c (adds_none a none s)

pub noted_counts : (flaw : TextFlaw) (s : Buffer) → Counts s (noted flaw s)
noted_counts flaw s = record { ops_are = refl; texts_are = refl; queries_are = refl; loops_are = refl }

pub if_counts : (b : Bool) (flaw : TextFlaw) (s : Buffer) → Counts s (cond b (noted flaw s) s)
if_counts true flaw s = noted_counts flaw s
if_counts false flaw s = counts_same s

pub unless_counts : (b : Bool) (flaw : TextFlaw) (s : Buffer) → Counts s (cond b s (noted flaw s))
unless_counts true flaw s = counts_same s
unless_counts false flaw s = noted_counts flaw s

pub due_counts : (made : Option Kind) (wanted : Kind) (s : Buffer) → Counts s (due made wanted s)
unfolding due
due_counts None wanted s = counts_same s
due_counts (Some kind) wanted s = unless_counts (is_same_plain kind wanted) WrongKind s

pub known_counts : (o : Option ℕ) (s : Buffer) → Counts s (known o s)
known_counts None s = noted_counts Unknown s
known_counts (Some n) s = counts_same s

-- ---- what is put

abbrev pub itself : Buffer → Buffer
itself t = t

abbrev pub second : {X : Type 0} → X × Buffer → Buffer
second p = p.1

pub put_lays : (op : Op) (s : Buffer) → Lays itself (ops 1) s (put op s)
unfolding put
put_lays op s room = by_room (nat_le OP_LIMIT (length s.ops)) refl
  where
    by_room : (b : Bool) → nat_le OP_LIMIT (length s.ops) ≡ b → Laid itself (ops 1) s (cond b (Err (At Limit s.start)) (Ok (record s { ops = s.ops ++ op ∷ [] })))
    by_room true full = let o = room.few_ops in let f = leb-true OP_LIMIT (length s.ops) full in omega (arith, o, f)
    by_room false free = record {
      more_ops = let e = length-append s.ops (op ∷ []) in omega (arith, e);
      more_texts = refl;
      more_queries = omega arith;
      more_loops = omega arith;
    }

pub put_value_lays : (op : Op) (room : ℕ) (s : Buffer) → Lays itself (ops 1) s (put_value op room s)
unfolding put_value
put_value_lays op room s = lays_from itself (ops 1) s (cond (room == 0) (noted Limit s) s) (put op (cond (room == 0) (noted Limit s) s)) (if_counts (room == 0) Limit s) (put_lays op (cond (room == 0) (noted Limit s) s))

-- a text that is there has a place, and one that is not has none
pub there_at : (texts : List (List ℕ)) (text : List ℕ) (i : ℕ) → position (bytes_eq text) texts ≡ Some i → list_any (bytes_eq text) texts ≡ true
there_at texts text i at = by_any (list_any (bytes_eq text) texts) refl
  where
    by_any : (b : Bool) → list_any (bytes_eq text) texts ≡ b → list_any (bytes_eq text) texts ≡ true
    by_any true is = is
    by_any false is = absurd (let none = sym at ∙ (position_spot (bytes_eq text) texts ∙ none_spot (bytes_eq text) texts is) in cc)

pub index_lays : (text : List ℕ) (s : Buffer) → Lays second (one_text text) s (text_index text s)
unfolding text_index
index_lays text s room = by_place (position (bytes_eq text) s.texts) refl
  where
    by_room : list_any (bytes_eq text) s.texts ≡ false → (b : Bool) → nat_le TEXT_COUNT_LIMIT (length s.texts) ≡ b
        → Laid second (one_text text) s (cond b (Err (At Limit s.start)) (Ok (length s.texts, record s { texts = s.texts ++ text ∷ [] })))
    by_room new true full =
        let few : length (cond false s.texts (s.texts ++ text ∷ [])) ≤ TEXT_COUNT_LIMIT = subst (λ b. length (cond b s.texts (s.texts ++ text ∷ [])) ≤ TEXT_COUNT_LIMIT) new room.few_texts in
        let e = length-append s.texts (text ∷ []) in
        let f = leb-true TEXT_COUNT_LIMIT (length s.texts) full in
        omega (arith, few, e, f)
    by_room new false free = record {
      more_ops = omega arith;
      more_texts = ap (λ b. cond b s.texts (s.texts ++ text ∷ [])) (sym new);
      more_queries = omega arith;
      more_loops = omega arith;
    }

    by_place : (o : Option ℕ) → position (bytes_eq text) s.texts ≡ o → Laid second (one_text text) s (text_at text o s)
    by_place (Some index) at = record {
      more_ops = omega arith;
      more_texts = ap (λ b. cond b s.texts (s.texts ++ text ∷ [])) (sym (there_at s.texts text index at));
      more_queries = omega arith;
      more_loops = omega arith;
    }
    by_place None at = by_room (spot_none (bytes_eq text) s.texts (sym (position_spot (bytes_eq text) s.texts) ∙ at)) (nat_le TEXT_COUNT_LIMIT (length s.texts)) refl

pub asked_lays : (query : Query) (s : Buffer) → Lays second one_query s (asked_query query s)
unfolding asked_query
asked_lays query s room = by_room (nat_le QUERY_LIMIT (length s.queries)) refl
  where
    by_room : (b : Bool) → nat_le QUERY_LIMIT (length s.queries) ≡ b → Laid second one_query s (cond b (Err (At Limit s.start)) (Ok (length s.queries, record s { queries = s.queries ++ query ∷ [] })))
    by_room true full = let o = room.few_queries in let f = leb-true QUERY_LIMIT (length s.queries) full in omega (arith, o, f)
    by_room false free = record {
      more_ops = omega arith;
      more_texts = refl;
      more_queries = let e = length-append s.queries (query ∷ []) in omega (arith, e);
      more_loops = omega arith;
    }

pub loop_lays : (s : Buffer) → Lays second one_loop s (begun_loop s)
unfolding begun_loop
loop_lays s room = by_room (nat_le LOOP_LIMIT (length s.loops)) refl
  where
    by_room : (b : Bool) → nat_le LOOP_LIMIT (length s.loops) ≡ b → Laid second one_loop s (cond b (Err (At Limit s.start)) (Ok (length s.loops, record s { loops = s.loops ++ record { head = length s.ops; end = length s.ops } ∷ [] })))
    by_room true full = let o = room.few_loops in let f = leb-true LOOP_LIMIT (length s.loops) full in omega (arith, o, f)
    by_room false free = record {
      more_ops = omega arith;
      more_texts = refl;
      more_queries = omega arith;
      more_loops = let e = length-append s.loops (record { head = length s.ops; end = length s.ops } ∷ []) in omega (arith, e);
    }
