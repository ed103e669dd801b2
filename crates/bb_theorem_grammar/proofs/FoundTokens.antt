-- Tokens that stand in a text are found there.
use Rattle.std.proofs.Common.{◌≡◌, ℕ, suc, ◌≤◌, Bool, true, false, cond, List, [], ◌∷◌, ◌++◌, length, take, drop, Some, Result, Ok, refl, sym, ap, subst, ◌∙◌, arith}
use Rattle.std.specs.Prelude.{not, ◌&&◌, ◌||◌, ◌==◌, nat_le, codes}
use Rattle.std.specs.List.{list_all, list_any, take_while}
use Rattle.std.specs.Str.{bytes_eq}
use Rattle.std.proofs.lemmas.Bool.{and_parts, leb-true, lt-leb}
use Rattle.std.proofs.lemmas.Bool.Decides.{nat_tests}
use Rattle.std.proofs.lemmas.List.Sums.{take_while-cons}
use Rattle.std.proofs.lemmas.Slice.Eq.{bytes_eq-Decides}
use Rattle.bb_basis.specs.Names.{is_small_letter, is_digit, is_name_byte}
use Rattle.bb_basis.specs.Results.{◌>>=◌, ok_or}
use Rattle.bb_lang_tree.specs.declared.fault.LangFault.{LangFault}
use Rattle.bb_lang_tree.specs.declared.fault.LangFault.TheVariants.{Character}
use Rattle.bb_lang_tree.specs.declared.place.Place.{Place}
use Rattle.bb_lang_tree.specs.declared.scan.TokenKind.{TokenKind}
use Rattle.bb_lang_tree.specs.declared.scan.TokenKind.TheVariants.{Word, Int}
use Rattle.bb_lang_tree.specs.Places.{place_after}
use Rattle.bb_lang_tree.specs.Tokens.{is_blank, begins_comment, blank_len, text_len, is_symbol, token_at}
use Rattle.bb_lang_tree.specs.State.{State, next, at_token, at, skip}
use Rattle.bb_theorem_grammar.specs.Tokens.{is_at_token, AreBlanks, IsComment, first_passes, IsQuoted, IsToken, Next, Takes}

-- ---- tests

pub yes_is : {A : Type 0} {z : A} (b : Bool) (x y : A) → b ≡ true → x ≡ z → cond b x y ≡ z
yes_is true x y is h = h
yes_is false x y is h = absurd cc

pub no_is : {A : Type 0} {z : A} (b : Bool) (x y : A) → b ≡ false → y ≡ z → cond b x y ≡ z
no_is true x y is h = absurd cc
no_is false x y is h = h

-- ---- between tokens

not_true : (b : Bool) → not b ≡ true → b ≡ false
not_true true h = absurd cc
not_true false h = refl

none_there : (rest : List ℕ) → is_at_token rest ≡ true → blank_len false rest ≡ 0
unfolding blank_len
none_there [] is = refl
none_there (b ∷ bs) is =
    let parts = and_parts (not (is_blank b)) (not (begins_comment (b ∷ bs))) is in
    let one : is_blank b ≡ false = not_true (is_blank b) parts.0 in
    let two : begins_comment (b ∷ bs) ≡ false = not_true (begins_comment (b ∷ bs)) parts.1 in
    rw (one, two) refl

mutual
  unfolding blank_len

  blanks_len : {rest bs : List ℕ} → AreBlanks rest bs → blank_len false (bs ++ rest) ≡ length bs
  blanks_len {rest = rest} (AreBlanks.no_more is) = none_there rest is
  blanks_len (AreBlanks.blank is d) = rw is (ap suc (blanks_len d))
  blanks_len (AreBlanks.comment d) = ap (λ n. suc (suc n)) (comment_len d)

  comment_len : {rest bs : List ℕ} → IsComment rest bs → blank_len true (bs ++ rest) ≡ length bs
  comment_len (IsComment.text_ends e) = rw e refl
  comment_len (IsComment.goes_on is d) = rw is (ap suc (comment_len d))
  comment_len (IsComment.line_ends d) = ap suc (blanks_len d)

-- ---- words and numbers

cut_off : (p : ℕ → Bool) (rest : List ℕ) → first_passes p rest ≡ false → take_while p rest ≡ []
cut_off p [] h = refl
cut_off p (b ∷ rest) h = take_while-cons p b rest ∙ ap (λ t. cond t (b ∷ take_while p rest) []) h

run_found : (p : ℕ → Bool) (xs rest : List ℕ) → list_all p xs ≡ true → first_passes p rest ≡ false → take_while p (xs ++ rest) ≡ xs
run_found p [] rest all stop = cut_off p rest stop
run_found p (x ∷ xs) rest all stop =
    let parts = and_parts (p x) (list_all p xs) all in
    take_while-cons p x (xs ++ rest) ∙ ap (λ t. cond t (x ∷ take_while p (xs ++ rest)) []) parts.0 ∙ ap (λ l. x ∷ l) (run_found p xs rest parts.1 stop)

whole_run : (p : ℕ → Bool) (b : ℕ) (bs rest : List ℕ) → p b ≡ true → list_all p bs ≡ true → first_passes p rest ≡ false → length (take_while p (b ∷ (bs ++ rest))) ≡ suc (length bs)
whole_run p b bs rest first all stop = ap length (run_found p (b ∷ bs) rest (rw (first, all) refl) stop)

digit_plain : (b : ℕ) → is_digit b ≡ true → is_small_letter b ≡ false
digit_plain b is =
    let parts = and_parts (nat_le 48 b) (nat_le b 57) is in
    let below : b ≤ 57 = leb-true b 57 parts.1 in
    let low : nat_le 97 b ≡ false = lt-leb 97 b (omega (arith, below)) in
    rw low refl

letter_named : (b : ℕ) → is_small_letter b ≡ true → is_name_byte b ≡ true
letter_named b is = rw is refl

-- ---- text constants

quoted_len : {value bs : List ℕ} (rest : List ℕ) → IsQuoted value bs → text_len false (bs ++ rest) ≡ Some (length bs)
unfolding text_len
quoted_len rest IsQuoted.closes = refl
quoted_len rest (IsQuoted.escape is d) = rw (is, quoted_len rest d) refl
quoted_len rest (IsQuoted.character q c l d) = rw (q, l, c, quoted_len rest d) refl

-- ---- symbols

-- what is neither a letter, a digit nor a quote
abbrev is_plain : ℕ → Bool
is_plain b = not (is_small_letter b) && (not (is_digit b) && not (b == 34))

first_or : (p : ℕ → Bool) (b x : ℕ) (t later : Bool) → (x == b) ≡ t → p x ≡ true → (later ≡ true → p b ≡ true) → (t || later) ≡ true → p b ≡ true
first_or p b x true later is pass more h = let same : x ≡ b = grind (arith, nat_tests, is) in subst (λ c. p c ≡ true) same pass
first_or p b x false later is pass more h = more h

among : (p : ℕ → Bool) (b : ℕ) (xs : List ℕ) → list_all p xs ≡ true → list_any (λ s. s == b) xs ≡ true → p b ≡ true
among p b [] all any = absurd cc
among p b (x ∷ xs) all any =
    let parts = and_parts (p x) (list_all p xs) all in
    first_or p b x (x == b) (list_any (λ s. s == b) xs) refl parts.0 (among p b xs parts.1) any

symbol_plain : (b : ℕ) → is_symbol b ≡ true → is_plain b ≡ true
symbol_plain b is = among is_plain b (codes "{}()[];,.:=<+-*/%") refl is

-- ---- all tokens

token_is : {rest : List ℕ} {kind : TokenKind} {token : List ℕ} → IsToken rest kind token → token_at (token ++ rest) ≡ Some (kind, length token)
unfolding token_at
token_is {rest = rest} (IsToken.word {b = b} {bs = bs} is all stop) = yes_is (is_small_letter b) _ _ is (ap (λ n. Some (Word, n)) (whole_run is_name_byte b bs rest (letter_named b is) all stop))
token_is {rest = rest} (IsToken.int {b = b} {bs = bs} is all stop) = no_is (is_small_letter b) _ _ (digit_plain b is) (yes_is (is_digit b) _ _ is (ap (λ n. Some (Int, n)) (whole_run is_digit b bs rest is all stop)))
token_is {rest = rest} (IsToken.text d) = rw (quoted_len rest d) refl
token_is IsToken.at_most = refl
token_is (IsToken.symbol {b = b} is one) =
    let plain = symbol_plain b is in
    let parts = and_parts (not (is_small_letter b)) (not (is_digit b) && not (b == 34)) plain in
    let more = and_parts (not (is_digit b)) (not (b == 34)) parts.1 in
    rw (not_true (is_small_letter b) parts.0, not_true (is_digit b) more.0, not_true (b == 34) more.1, one, is) refl
token_is (IsToken.end e) = rw e refl

-- ---- from one token to the next

front_of : (xs ys : List ℕ) → take (length xs) (xs ++ ys) ≡ xs
front_of [] ys = refl
front_of (x ∷ xs) ys = ap (λ l. x ∷ l) (front_of xs ys)

rest_of : (xs ys : List ℕ) → drop (length xs) (xs ++ ys) ≡ ys
rest_of [] ys = refl
rest_of (x ∷ xs) ys = rest_of xs ys

abbrev built : TokenKind → List ℕ → Place → List ℕ → List (List ℕ) → List (List ℕ) → State
built k token p rest scope sources = record { kind = k; token = token; place = p; rest = rest; scope = scope; sources = sources }

abbrev made : State → Place → List ℕ → TokenKind × ℕ → Result State LangFault
made s p bs t = Ok (built t.0 (take t.1 bs) p (drop t.1 bs) s.scope s.sources)

found_at : (s t : State) (p : Place) (bs : List ℕ) → bs ≡ t.token ++ t.rest → t.place ≡ p → IsToken t.rest t.kind t.token → t.scope ≡ s.scope → t.sources ≡ s.sources → (ok_or (token_at bs) (Character p) >>= made s p bs) ≡ Ok t
found_at s t p bs is place token scope sources =
    ap (λ o. ok_or o (Character p) >>= made s p bs) (ap token_at is ∙ token_is token)
    ∙ ap (λ l. Ok (built t.kind l p (drop (length t.token) bs) s.scope s.sources)) (ap (take (length t.token)) is ∙ front_of t.token t.rest)
    ∙ ap (λ l. Ok (built t.kind t.token p l s.scope s.sources)) (ap (drop (length t.token)) is ∙ rest_of t.token t.rest)
    ∙ ap (λ q. Ok (built t.kind t.token q t.rest s.scope s.sources)) (sym place)
    ∙ ap (λ l. Ok (built t.kind t.token t.place t.rest l s.sources)) (sym scope)
    ∙ ap (λ l. Ok (built t.kind t.token t.place t.rest t.scope l)) (sym sources)

pub next_found : (s t : State) → Next s t → next s ≡ Ok t
unfolding next at_token
next_found s t n =
    let count : blank_len false s.rest ≡ length n.blanks = ap (blank_len false) n.text ∙ blanks_len n.are_blanks in
    let front : take (blank_len false s.rest) s.rest ≡ n.blanks = ap (λ k. take k s.rest) count ∙ ap (take (length n.blanks)) n.text ∙ front_of n.blanks (t.token ++ t.rest) in
    let behind : drop (blank_len false s.rest) s.rest ≡ t.token ++ t.rest = ap (λ k. drop k s.rest) count ∙ ap (drop (length n.blanks)) n.text ∙ rest_of n.blanks (t.token ++ t.rest) in
    found_at s t (place_after (place_after s.place s.token) (take (blank_len false s.rest) s.rest)) (drop (blank_len false s.rest) s.rest) behind (n.place ∙ ap (place_after (place_after s.place s.token)) (sym front)) n.is_token n.scope n.sources

-- ---- symbols and words that stand there

-- a step that succeeds, and what comes after it
pub ok_then : {A B E : Type 0} {r : Result A E} {x : A} {y : Result B E} (k : A → Result B E) → r ≡ Ok x → k x ≡ y → (r >>= k) ≡ y
ok_then k e h = ap (λ r. r >>= k) e ∙ h

pub at_its_token : (word : List ℕ) (s : State) → s.token ≡ word → at word s ≡ true
at_its_token word s is = (bytes_eq-Decides s.token word).1 is

pub skip_found : (word : List ℕ) (s t : State) → Takes word s t → skip word s ≡ Ok t
unfolding skip
skip_found word s t h = yes_is (at word s) _ _ (at_its_token word s h.is) (next_found s t h.next)

-- ---- other words

-- none of these words stands at a state
abbrev pub NotAt : List (List ℕ) → State → Type 0
NotAt [] s = Unit {0}
NotAt (w ∷ ws) s = (at w s ≡ false) × NotAt ws s

-- no word passes a test
abbrev pub none_pass : (List ℕ → Bool) → List (List ℕ) → Bool
none_pass p [] = true
none_pass p (w ∷ ws) = not (p w) && none_pass p ws

other_by : (p : List ℕ → Bool) (w : List ℕ) (s : State) (t : Bool) → at w s ≡ t → p s.token ≡ true → p w ≡ false → at w s ≡ false
other_by p w s false is pass fail = is
other_by p w s true is pass fail =
    let same : s.token ≡ w = (bytes_eq-Decides s.token w).0 is in
    let both : p s.token ≡ p w = ap p same in
    absurd cc

-- a token that passes a test is none of the words that do not
pub others : (p : List ℕ → Bool) (s : State) → p s.token ≡ true → (ws : List (List ℕ)) → none_pass p ws ≡ true → NotAt ws s
others p s pass [] h = tt
others p s pass (w ∷ ws) h =
    let parts = and_parts (not (p w)) (none_pass p ws) h in
    (other_by p w s (at w s) refl pass (not_true (p w) parts.0), others p s pass ws parts.1)

-- a word is none of other words
pub missed : (word : List ℕ) (s : State) → s.token ≡ word → (ws : List (List ℕ)) → none_pass (λ x. bytes_eq x word) ws ≡ true → NotAt ws s
missed word s is ws h = others (λ x. bytes_eq x word) s (at_its_token word s is) ws h
