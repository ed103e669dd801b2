-- Sources that stand in a text are read.
use Rattle.std.proofs.Common.{◌≡◌, ℕ, zero, suc, ◌<◌, ◌≤◌, true, false, List, [], ◌∷◌, ◌++◌, length, Some, None, Ok, refl, ap, codes, arith}
use Rattle.std.specs.Prelude.{ℤ, nat_le}
use Rattle.std.specs.List.{list_any}
use Rattle.std.specs.Str.{bytes_eq}
use Rattle.std.proofs.lemmas.Bool.{lt-leb}
use Rattle.bb_lang_tree.specs.declared.scan.TokenKind.{TokenKind}
use Rattle.bb_lang_tree.specs.State.{State, before, at, left}
use Rattle.bb_lang_tree.specs.Tokens.{is_end}
use Rattle.bb_lang_tree.specs.declared.source_text.SourceText.{SourceText}
use Rattle.bb_lang.specs.Repeats.{repeated, as_many}
use Rattle.bb_lang.specs.Sources.{source_word, source_name, header, rating, source, next_source, sources_of}
use Rattle.bb_lang.specs.declared.sources.TheConstants.{SOURCE_LIMIT}
use Rattle.bb_theorem_grammar.specs.Tokens.{IsToken, Takes}
use Rattle.bb_theorem_grammar.specs.Repeats.{AreMany}
use Rattle.bb_theorem_grammar.specs.Sources.{with_source, NamesSource, IsRating, IsHeader, IsSource, IsFile}
use Rattle.bb_theorem_grammar.proofs.SourceLemmas.{source_read, source_has_token, stops}
use Rattle.bb_theorem_grammar.proofs.FoundTokens.{next_found, yes_is, no_is, ok_then, at_its_token, skip_found, missed}
use Rattle.bb_theorem_grammar.proofs.FoundNames.{Stands, free_found, name_found, int_found}
use Rattle.bb_theorem_grammar.proofs.FoundParts.{none_found, more_found}
use Rattle.bb_theorem_grammar.proofs.FoundActions.{ok_within}
use Rattle.bb_theorem_grammar.proofs.FoundClauses.{clauses_found, parts_found, act_found}

-- ---- a source

source_word_found : (s t : State) → length s.sources < SOURCE_LIMIT → Takes (codes "source") s t → source_word s ≡ Ok t
unfolding source_word
source_word_found s t few k = yes_is (at (codes "source") s) _ _ (at_its_token (codes "source") s k.is) (no_is (nat_le SOURCE_LIMIT (length s.sources)) _ _ (lt-leb SOURCE_LIMIT (length s.sources) few) (next_found s t k.next))

source_name_found : (x : List ℕ) (s t : State) → NamesSource x s t → source_name s ≡ Ok (x, t)
unfolding source_name
source_name_found x s t h = ok_then _ (free_found s x h.kind h.is h.is_name h.free) (ok_then _ (no_is (list_any (bytes_eq x) s.sources) _ _ h.new (next_found (with_source x s) t h.next)) refl)

rating_at : (i : ℤ) (s t : State) → IsRating i s t → s.token ≡ codes "rate"
rating_at i s t (IsRating.rating k d c) = k.is

rating_found : (i : ℤ) (s t : State) → IsRating i s t → rating s ≡ Ok (i, t)
unfolding rating
rating_found i s t (IsRating.rating {t = u} {u = v} k d c) = ok_then _ (skip_found (codes "rate") s u k) (ok_then _ (int_found i u v d k.next.is_token) (ok_then _ (skip_found (codes ";") v t c) refl))

source_found : (x : SourceText) (s t : State) → IsSource x s t → source s ≡ Ok (x, t)
unfolding source header
source_found x s t (IsSource.source {name = name} {class = class} {cs = cs} {i = i} {ps = ps} {a = a} {t = t1} {u = t2} {v = t3} {w = t4} {x = t5} {y = t6} (IsHeader.header {t = h1} {u = h2} {v = h3} few k named on_at on is_class) o d r e f c) =
    ok_within _ _ (source_word_found s h1 few k) (ok_within _ _ (source_name_found name h1 h2 named) (ok_within _ _ (skip_found (codes "on") h2 h3 on) (ok_within _ _ (name_found h3 t1 class is_class)
    (ok_then _ (skip_found (codes "{") t1 t2 o.takes) (ok_then _ (clauses_found cs t2 t3 d (missed (codes "rate") t3 (rating_at i t3 t4 r) (codes "when" ∷ []) refl).0) (ok_then _ (rating_found i t3 t4 r)
    (ok_then _ (parts_found ps a t4 t5 t6 e f) (ok_then _ (act_found a t5 t6 f) (ok_then _ (skip_found (codes "}") t6 t c) (ap (λ p. Ok (record { header = record { name = name; on = p; class = class }; clauses = cs; rate = i; parts = ps; act = a }, t)) on_at))))))))))

-- ---- as many as come

not_end : (rest : List ℕ) (kind : TokenKind) (token : List ℕ) → IsToken rest kind token → 0 < length token → is_end kind ≡ false
not_end rest kind token (IsToken.word a b c) some = refl
not_end rest kind token (IsToken.int a b c) some = refl
not_end rest kind token (IsToken.text a) some = refl
not_end rest kind token IsToken.at_most some = refl
not_end rest kind token (IsToken.symbol a b) some = refl
not_end rest kind token (IsToken.end a) some = absurd (omega (arith, some))

is_ended : (rest : List ℕ) (kind : TokenKind) (token : List ℕ) → IsToken rest kind token → token ++ rest ≡ [] → is_end kind ≡ true
is_ended rest kind token (IsToken.word a b c) none = absurd cc
is_ended rest kind token (IsToken.int a b c) none = absurd cc
is_ended rest kind token (IsToken.text a) none = absurd cc
is_ended rest kind token IsToken.at_most none = absurd cc
is_ended rest kind token (IsToken.symbol a b) none = absurd cc
is_ended rest kind token (IsToken.end a) none = refl

one_source : (x : SourceText) (s t : State) → Stands s → IsSource x s t → next_source s ≡ Ok (Some x, t)
unfolding next_source
one_source x s t stands d = no_is (is_end s.kind) _ _ (not_end s.rest s.kind s.token stands (source_has_token x s t d)) (ok_then _ (source_found x s t d) refl)

no_source : (s : State) → Stands s → s.token ++ s.rest ≡ [] → next_source s ≡ Ok (None, s)
unfolding next_source
no_source s stands none = yes_is (is_end s.kind) _ _ (is_ended s.rest s.kind s.token stands none) refl

source_more : (x : SourceText) (xs : List SourceText) (s t u : State) (k : ℕ) → left s ≤ k → Stands s → IsSource x s t → ((j : ℕ) → left t ≤ j → repeated j next_source t ≡ Ok (xs, u)) → repeated k next_source s ≡ Ok (x ∷ xs, u)
source_more x xs s t u zero le stands d more = let some = source_has_token x s t d in absurd (omega (arith, le, some))
source_more x xs s t u (suc j) le stands d more =
    let some = source_has_token x s t d in
    let later = (source_read s).later x t (source_found x s t d) in
    more_found next_source s t u x xs j (one_source x s t stands d) (more j (omega (arith, le, some, later)))

sources_found : {xs : List SourceText} {s t : State} → AreMany IsSource xs s t → Stands s → t.token ++ t.rest ≡ [] → (k : ℕ) → left s ≤ k → repeated k next_source s ≡ Ok (xs, t)
sources_found (AreMany.no_item {s = s}) stands none k le = none_found next_source s (no_source s stands none) k
sources_found (AreMany.items {x = x} {xs = xs} {s = s} {t = t} {u = u} d ds) stands none k le = source_more x xs s t u k le stands d (λ j later. sources_found ds (stops x s t d) none j later)

-- the trees that the grammar gives a text are those that are read of it
pub file_found : (text : List ℕ) (trees : List SourceText) → IsFile text trees → sources_of text ≡ Ok trees
unfolding sources_of as_many
file_found text trees f = ok_then _ (next_found (before text) f.first f.begins) (ok_then _ (sources_found f.sources f.begins.is_token f.ends (left f.first) (omega arith)) refl)
