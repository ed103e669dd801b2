-- Sources that are read stand there, and the text ends after the last.
use Rattle.std.proofs.Common.{◌≡◌, ◌+◌, ◌<◌, ◌≤◌, ℕ, zero, suc, Bool, true, false, cond, List, [], ◌∷◌, ◌++◌, length, Option, Some, None, Result, Ok, Err, refl, sym, ap, subst, codes, arith}
use Rattle.std.specs.Prelude.{nat_le}
use Rattle.std.specs.List.{list_any}
use Rattle.std.specs.Str.{bytes_eq}
use Rattle.std.proofs.lemmas.Bool.{leb-false}
use Rattle.bb_basis.specs.Results.{◌>>=◌}
use Rattle.bb_basis.proofs.ResultLemmas.{bind_ok, same_ok}
use Rattle.bb_lang_tree.specs.declared.fault.LangFault.{LangFault}
use Rattle.bb_lang_tree.specs.declared.fault.LangFault.TheVariants.{Token, Twice, Limit}
use Rattle.bb_lang_tree.specs.declared.scan.TokenKind.{TokenKind}
use Rattle.bb_lang_tree.specs.State.{State, before, next, at, left}
use Rattle.bb_lang_tree.specs.Tokens.{is_end}
use Rattle.bb_lang_tree.specs.Words.{name_at, is_reserved}
use Rattle.bb_lang_tree.specs.declared.source_text.SourceText.{SourceText}
use Rattle.bb_lang.specs.Repeats.{more_after, repeated, as_many}
use Rattle.bb_lang.specs.Sources.{source_word, source_name, header, rating, source, next_source, sources_of}
use Rattle.bb_lang.specs.declared.sources.TheConstants.{SOURCE_LIMIT}
use Rattle.bb_theorem_grammar.specs.Tokens.{IsToken, IsCut, Next, Takes}
use Rattle.bb_theorem_grammar.specs.Repeats.{AreMany}
use Rattle.bb_theorem_grammar.specs.Sources.{with_source, NamesSource, IsRating, IsHeader, IsSource, IsFile}
use Rattle.bb_theorem_grammar.proofs.SoundLemmas.{behind, Sound, Read, Moves, by_move, by_value, by_read, done, next_left, next_is, next_cut, skip_moves, takes}
use Rattle.bb_theorem_grammar.proofs.NameLemmas.{AreWord, free_at, name_read, int_read}
use Rattle.bb_theorem_grammar.proofs.ClauseLemmas.{clauses_read, parts_read, act_read}

-- ---- a source

word_by : (s : State) (b c : Bool) (t : State) → at (codes "source") s ≡ b → nat_le SOURCE_LIMIT (length s.sources) ≡ c
    → cond b (cond c (Err (Limit s.place)) (next s)) (Err (Token s.place)) ≡ Ok t → (length s.sources < SOURCE_LIMIT) × Takes (codes "source") s t
word_by s true true t is few h = absurd cc
word_by s true false t is few h = (leb-false SOURCE_LIMIT (length s.sources) few, takes (codes "source") s t is (next_is s t h))
word_by s false c t is few h = absurd cc

word_is : (s t : State) → source_word s ≡ Ok t → (length s.sources < SOURCE_LIMIT) × Takes (codes "source") s t
unfolding source_word
word_is s t h = word_by s (at (codes "source") s) (nat_le SOURCE_LIMIT (length s.sources)) t refl refl h

word_moves : (s : State) → Moves (behind s) (λ t. (length s.sources < SOURCE_LIMIT) × Takes (codes "source") s t) (source_word s)
word_moves s = record {
  holds = λ t h. word_is s t h;
  later = λ t h. let n = next_left s t (word_is s t h).1.next in omega (arith, n);
  cut = λ t h c. next_cut s t (word_is s t h).1.next c;
}

named_by : (s : State) (x : List ℕ) (b : Bool) (t : State) → list_any (bytes_eq x) s.sources ≡ b → cond b (Err (Twice s.place)) (next (with_source x s)) ≡ Ok t → (list_any (bytes_eq x) s.sources ≡ false) × Next (with_source x s) t
named_by s x true t is h = absurd cc
named_by s x false t is h = (is, next_is (with_source x s) t h)

named_moves : (s : State) (x : List ℕ) → AreWord s x × (is_reserved x ≡ false) → Moves s (λ t. NamesSource x s t) (cond (list_any (bytes_eq x) s.sources) (Err (Twice s.place)) (next (with_source x s)))
named_moves s x w = record {
  holds = λ t h.
      let n = named_by s x (list_any (bytes_eq x) s.sources) t refl h in
      record { kind = w.0.kind; is = w.0.is; is_name = w.0.is_name; free = w.1; new = n.0; next = n.1 };
  later = λ t h. let n = next_left (with_source x s) t (named_by s x (list_any (bytes_eq x) s.sources) t refl h).1 in omega (arith, n);
  cut = λ t h c. next_cut (with_source x s) t (named_by s x (list_any (bytes_eq x) s.sources) t refl h).1 c;
}

named_read : (s : State) → Sound s (λ x t. NamesSource x s t) (source_name s)
unfolding source_name
named_read s = by_value (name_at s) _ (λ x is. by_move _ (named_moves s x (free_at s x is)) (λ t d. done d))

header_read : (s : State) → Read (behind s) (header s) (λ h t. IsHeader h.name h.class h.on s t)
unfolding header
header_read s = by_move _ (word_moves s) (λ t a. by_read _ (named_read t) (λ x u b. by_move _ (skip_moves (codes "on") u) (λ v c. by_read _ (name_read v) (λ class w d. done (IsHeader.header a.0 a.1 b refl c d)))))

rating_read : (s : State) → Sound s (λ i t. IsRating i s t) (rating s)
unfolding rating
rating_read s = by_move _ (skip_moves (codes "rate") s) (λ t a. by_read _ (int_read t) (λ i u b. by_move _ (skip_moves (codes ";") u) (λ v c. done (IsRating.rating a b c))))

pub source_read : (s : State) → Sound (behind s) (λ x t. IsSource x s t) (source s)
unfolding source
source_read s = by_read _ (header_read s) (λ h t a. by_move _ (skip_moves (codes "{") t) (λ u b. by_read _ (clauses_read u) (λ cs v c. by_read _ (rating_read v) (λ i w d.
    by_read _ (parts_read w) (λ ps x e. by_read _ (act_read x) (λ one y f. by_move _ (skip_moves (codes "}") y) (λ z g. done (IsSource.source a (record { takes = b; within = omega arith }) c d e f g))))))))

-- ---- as many as come

pub source_has_token : (x : SourceText) (s t : State) → IsSource x s t → 0 < length s.token
source_has_token x s t (IsSource.source (IsHeader.header few word named on_at on class) opens cs rate ps a closes) = let six : length s.token ≡ 6 = ap length word.is in omega (arith, six)

pub stops : (x : SourceText) (s t : State) → IsSource x s t → IsToken t.rest t.kind t.token
stops x s t (IsSource.source head opens cs rate ps a closes) = closes.next.is_token

no_bytes : (xs ys : List ℕ) → length xs + length ys ≤ 0 → xs ++ ys ≡ []
no_bytes [] [] h = refl
no_bytes [] (y ∷ ys) h = absurd (omega arith)
no_bytes (x ∷ xs) ys h = absurd (omega arith)

at_end : (rest : List ℕ) (kind : TokenKind) (token : List ℕ) → IsToken rest kind token → is_end kind ≡ true → token ++ rest ≡ []
at_end rest kind token (IsToken.word a b c) h = absurd cc
at_end rest kind token (IsToken.int a b c) h = absurd cc
at_end rest kind token (IsToken.text a) h = absurd cc
at_end rest kind token IsToken.at_most h = absurd cc
at_end rest kind token (IsToken.symbol a b) h = absurd cc
at_end rest kind token (IsToken.end none) h = none

none_behind : (xs ys : List ℕ) → xs ++ ys ≡ [] → ys ≡ []
none_behind [] ys h = h
none_behind (x ∷ xs) ys h = absurd cc

-- what as many sources are, up to the end of the text
abbrev ReadToEnd : State → List SourceText → State → Type 0
ReadToEnd s xs t = AreMany IsSource xs s t × (t.token ++ t.rest ≡ []) × IsCut s.rest

abbrev Sources : Type 0
Sources = Result (List SourceText × State) LangFault

abbrev no_source : State → Sources
no_source s = Ok ([], s)

abbrev given : SourceText × State → Result (Option SourceText × State) LangFault
given p = Ok (Some p.0, p.1)

abbrev one_or_end : Bool → State → Result (Option SourceText × State) LangFault
one_or_end b s = cond b (Ok (None, s)) (source s >>= given)

abbrev others : ℕ → Option SourceText × State → Sources
others n p = more_after (repeated n next_source) p.0 p.1

abbrev before_others : SourceText → List SourceText × State → Sources
before_others x p = Ok (x ∷ p.0, p.1)

ended : (s : State) (xs : List SourceText) (t : State) → s.token ++ s.rest ≡ [] → no_source s ≡ Ok (xs, t) → ReadToEnd s xs t
ended s xs t none h = subst (λ p. ReadToEnd s p.0 p.1) (same_ok {E = LangFault} ([], s) (xs, t) h) (AreMany.no_item, none, subst IsCut (sym (none_behind s.token s.rest none)) IsCut.nothing_left)

sources_by : (n : ℕ) → ((s : State) (xs : List SourceText) (t : State) → left s ≤ n → IsToken s.rest s.kind s.token → repeated n next_source s ≡ Ok (xs, t) → ReadToEnd s xs t)
    → (s : State) (xs : List SourceText) (t : State) (b : Bool) → is_end s.kind ≡ b → left s ≤ suc n → IsToken s.rest s.kind s.token
    → (one_or_end b s >>= others n) ≡ Ok (xs, t) → ReadToEnd s xs t
unfolding more_after
sources_by n rest s xs t true is le token h = ended s xs t (at_end s.rest s.kind s.token token is) h
sources_by n rest s xs t false is le token h =
    let two = bind_ok (source s >>= given) (others n) (xs, t) h in
    let one = bind_ok (source s) given two.0 two.1 in
    let x = one.0.0 in
    let u = one.0.1 in
    let there = (source_read s).holds x u one.1 in
    let later = (source_read s).later x u one.1 in
    let first = source_has_token x s u there in
    let same : (let p : Option SourceText × State = (Some x, u) in p) ≡ two.0 = same_ok {E = LangFault} (Some x, u) two.0 one.2 in
    let behind_it : others n (Some x, u) ≡ Ok (xs, t) = subst (λ p. others n p ≡ Ok (xs, t)) (sym same) two.2 in
    let three = bind_ok (repeated n next_source u) (before_others x) (xs, t) behind_it in
    let more = rest u three.0.0 three.0.1 (omega (arith, le, later, first)) (stops x s u there) three.1 in
    subst (λ p. ReadToEnd s p.0 p.1) (same_ok {E = LangFault} (x ∷ three.0.0, three.0.1) (xs, t) three.2) (AreMany.items there more.0, more.1, (source_read s).cut x u one.1 more.2)

sources_are : (n : ℕ) (s : State) (xs : List SourceText) (t : State) → left s ≤ n → IsToken s.rest s.kind s.token → repeated n next_source s ≡ Ok (xs, t) → ReadToEnd s xs t
unfolding repeated next_source
sources_are zero s xs t le token h = ended s xs t (no_bytes s.token s.rest le) h
sources_are (suc n) s xs t le token h = sources_by n (sources_are n) s xs t (is_end s.kind) refl le token h

-- the trees that are read of a text are those that the grammar gives it, and it is tokens to its end
pub file_read : (text : List ℕ) (trees : List SourceText) → sources_of text ≡ Ok trees → IsFile text trees × IsCut text
unfolding sources_of as_many
file_read text trees h =
    let one = bind_ok (next (before text)) (λ s. as_many next_source s >>= λ p. Ok p.0) trees h in
    let two = bind_ok (as_many next_source one.0) (λ p. Ok p.0) trees one.2 in
    let first = next_is (before text) one.0 one.1 in
    let all = sources_are (left one.0) one.0 two.0.0 two.0.1 (omega arith) first.is_token two.1 in
    (record { first = one.0; last = two.0.1; begins = first; sources = subst (λ xs. AreMany IsSource xs one.0 two.0.1) (same_ok two.0.0 trees two.2) all.0; ends = all.1 }, next_cut (before text) one.0 first all.2)
