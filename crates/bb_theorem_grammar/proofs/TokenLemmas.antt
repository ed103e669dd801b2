-- What the bytes of a text are cut into are blanks, comments and tokens.
use Rattle.std.proofs.Common.{◌≡◌, ℕ, suc, Bool, true, false, cond, List, [], ◌∷◌, length, take, drop, Option, Some, None, refl, sym, ap, subst, ◌∙◌, arith}
use Rattle.std.specs.Prelude.{not, ◌==◌, nat_lt, option_map}
use Rattle.std.specs.List.{list_all, take_while}
use Rattle.std.proofs.lemmas.Bool.{and_parts}
use Rattle.std.proofs.lemmas.Bool.Decides.{nat_tests}
use Rattle.std.proofs.lemmas.List.Sums.{take_while-cons}
use Rattle.bb_basis.specs.Names.{is_small_letter, is_digit, is_name_byte}
use Rattle.bb_lang_tree.specs.Literals.{escape_of}
use Rattle.bb_lang_tree.specs.declared.scan.TokenKind.{TokenKind}
use Rattle.bb_lang_tree.specs.declared.scan.TokenKind.TheVariants.{Word, Int, Text, Symbol}
use Rattle.bb_lang_tree.specs.Tokens.{is_blank, begins_comment, blank_len, is_escape, text_len, is_symbol, begins_at_most, token_at}
use Rattle.bb_theorem_grammar.specs.Tokens.{AreBlanks, IsComment, first_passes, IsQuoted, IsToken}

-- ---- between tokens

abbrev Between : Bool → List ℕ → List ℕ → Type 0
Between true rest bs = IsComment rest bs
Between false rest bs = AreBlanks rest bs

-- that as many of the bytes are blanks, or what is left of a comment
abbrev Passed : Bool → List ℕ → ℕ → Type 0
Passed c bs n = Between c (drop n bs) (take n bs)

in_line : (b : ℕ) (bs : List ℕ) (t : Bool) → (b == 10) ≡ t → Passed (not t) bs (blank_len (not t) bs) → Passed true (b ∷ bs) (suc (blank_len (not t) bs))
in_line b bs true is h = let same : b ≡ 10 = grind (arith, nat_tests, is) in rw same (IsComment.line_ends h)
in_line b bs false is h = IsComment.goes_on is h

not_blank : (b : ℕ) (bs : List ℕ) → is_blank b ≡ false → begins_comment (b ∷ bs) ≡ false → Passed false (b ∷ bs) 0
not_blank b bs one two = AreBlanks.no_more (rw (one, two) refl)

begun : (b c : ℕ) (bs : List ℕ) (t : Bool) → begins_comment (b ∷ c ∷ bs) ≡ t → is_blank b ≡ false → Passed true bs (blank_len true bs) → Passed false (b ∷ c ∷ bs) (cond t (suc (blank_len true (c ∷ bs))) 0)
unfolding blank_len
begun b c bs false is one h = not_blank b (c ∷ bs) one is
begun b c bs true is one h =
    let parts = and_parts (b == 47) (c == 47) is in
    let first : b ≡ 47 = grind (arith, nat_tests, parts.0) in
    let second : c ≡ 47 = grind (arith, nat_tests, parts.1) in
    rw (first, second) (AreBlanks.comment h)

blank_or : (b : ℕ) (bs : List ℕ) (t : Bool) (n : ℕ) → is_blank b ≡ t → Passed false bs (blank_len false bs) → (is_blank b ≡ false → Passed false (b ∷ bs) n) → Passed false (b ∷ bs) (cond t (suc (blank_len false bs)) n)
blank_or b bs true n is h g = AreBlanks.blank is h
blank_or b bs false n is h g = g is

-- what blank_len counts is between tokens
between : (c : Bool) (bs : List ℕ) → Passed c bs (blank_len c bs)
unfolding blank_len
between true [] = IsComment.text_ends refl
between true (b ∷ bs) = in_line b bs (b == 10) refl (between (not (b == 10)) bs)
between false [] = AreBlanks.no_more refl
between false (b ∷ []) = blank_or b [] (is_blank b) 0 refl (AreBlanks.no_more refl) (λ one. not_blank b [] one refl)
between false (b ∷ c ∷ bs) = blank_or b (c ∷ bs) (is_blank b) _ refl (between false (c ∷ bs)) (λ one. begun b c bs (begins_comment (b ∷ c ∷ bs)) refl one (between true bs))

pub blanks_passed : (bs : List ℕ) → AreBlanks (drop (blank_len false bs) bs) (take (blank_len false bs) bs)
blanks_passed bs = between false bs

-- ---- words and numbers

-- all of a front pass a test, and what stands after it does not
abbrev IsRun : (ℕ → Bool) → List ℕ → ℕ → Type 0
IsRun p xs n = (list_all p (take n xs) ≡ true) × (first_passes p (drop n xs) ≡ false)

run_by : (p : ℕ → Bool) (x : ℕ) (xs : List ℕ) (t : Bool) → p x ≡ t → IsRun p xs (length (take_while p xs)) → IsRun p (x ∷ xs) (length (cond t (x ∷ take_while p xs) []))
run_by p x xs true is h = (rw (is, h.0) refl, h.1)
run_by p x xs false is h = (refl, is)

run : (p : ℕ → Bool) (xs : List ℕ) → IsRun p xs (length (take_while p xs))
run p [] = (refl, refl)
run p (x ∷ xs) = subst (λ l. IsRun p (x ∷ xs) (length l)) (sym (take_while-cons p x xs)) (run_by p x xs (p x) refl (run p xs))

longest : (p : ℕ → Bool) (x : ℕ) (xs : List ℕ) → p x ≡ true → take_while p (x ∷ xs) ≡ x ∷ take_while p xs
longest p x xs is = take_while-cons p x xs ∙ ap (λ t. cond t (x ∷ take_while p xs) []) is

letter_named : (b : ℕ) → is_small_letter b ≡ true → is_name_byte b ≡ true
letter_named b is = rw is refl

word_is : (b : ℕ) (bs : List ℕ) → is_small_letter b ≡ true → IsToken (drop (length (take_while is_name_byte (b ∷ bs))) (b ∷ bs)) Word (take (length (take_while is_name_byte (b ∷ bs))) (b ∷ bs))
word_is b bs is =
    let r = run is_name_byte bs in
    subst (λ l. IsToken (drop (length l) (b ∷ bs)) Word (take (length l) (b ∷ bs))) (sym (longest is_name_byte b bs (letter_named b is))) (IsToken.word is r.0 r.1)

int_is : (b : ℕ) (bs : List ℕ) → is_digit b ≡ true → IsToken (drop (length (take_while is_digit (b ∷ bs))) (b ∷ bs)) Int (take (length (take_while is_digit (b ∷ bs))) (b ∷ bs))
int_is b bs is =
    let r = run is_digit bs in
    subst (λ l. IsToken (drop (length l) (b ∷ bs)) Int (take (length l) (b ∷ bs))) (sym (longest is_digit b bs is)) (IsToken.int is r.0 r.1)

-- ---- text constants

abbrev HasValue : List ℕ → Type 0
HasValue bs = (value : List ℕ) × IsQuoted value bs

-- after a quote, or after a backslash
abbrev Quoted : Bool → List ℕ → Type 0
Quoted true bs = HasValue (92 ∷ bs)
Quoted false bs = HasValue bs

-- where a length is found
abbrev WhereFound : (ℕ → Type 0) → Option ℕ → Type 0
WhereFound P None = Unit {0}
WhereFound P (Some n) = P n

one_further : (P Q : ℕ → Type 0) → ((n : ℕ) → P n → Q (suc n)) → (o : Option ℕ) → WhereFound P o → WhereFound Q (option_map (λ n. suc n) o)
one_further P Q f None h = tt
one_further P Q f (Some n) h = f n h

escaped_by : (b : ℕ) (bs : List ℕ) (t : Bool) → is_escape b ≡ t → WhereFound (λ n. HasValue (take n bs)) (text_len false bs)
    → WhereFound (λ n. HasValue (92 ∷ take n (b ∷ bs))) (cond t (option_map (λ n. suc n) (text_len false bs)) None)
escaped_by b bs true is h = one_further (λ n. HasValue (take n bs)) (λ n. HasValue (92 ∷ take n (b ∷ bs))) (λ n q. (escape_of b ∷ q.0, IsQuoted.escape is q.1)) (text_len false bs) h
escaped_by b bs false is h = tt

backslash_by : (b : ℕ) (bs : List ℕ) (t : Bool) → (b == 92) ≡ t → (b == 34) ≡ false → nat_lt b 32 ≡ false → (n : ℕ) → Quoted t (take n bs) → HasValue (b ∷ take n bs)
backslash_by b bs true is quote low n h = let same : b ≡ 92 = grind (arith, nat_tests, is) in rw same h
backslash_by b bs false is quote low n h = (b ∷ h.0, IsQuoted.character quote is low h.1)

control_by : (b : ℕ) (bs : List ℕ) (t : Bool) → nat_lt b 32 ≡ t → (b == 34) ≡ false → WhereFound (λ n. Quoted (b == 92) (take n bs)) (text_len (b == 92) bs)
    → WhereFound (λ n. HasValue (take n (b ∷ bs))) (cond t None (option_map (λ n. suc n) (text_len (b == 92) bs)))
control_by b bs true is quote h = tt
control_by b bs false is quote h = one_further (λ n. Quoted (b == 92) (take n bs)) (λ n. HasValue (take n (b ∷ bs))) (backslash_by b bs (b == 92) refl quote is) (text_len (b == 92) bs) h

quote_by : (b : ℕ) (bs : List ℕ) (t : Bool) → (b == 34) ≡ t → WhereFound (λ n. Quoted (b == 92) (take n bs)) (text_len (b == 92) bs)
    → WhereFound (λ n. HasValue (take n (b ∷ bs))) (cond t (Some 1) (cond (nat_lt b 32) None (option_map (λ n. suc n) (text_len (b == 92) bs))))
quote_by b bs true is h = let same : b ≡ 34 = grind (arith, nat_tests, is) in rw same ([], IsQuoted.closes)
quote_by b bs false is h = control_by b bs (nat_lt b 32) refl is h

quoted : (e : Bool) (bs : List ℕ) → WhereFound (λ n. Quoted e (take n bs)) (text_len e bs)
unfolding text_len
quoted e [] = tt
quoted true (b ∷ bs) = escaped_by b bs (is_escape b) refl (quoted false bs)
quoted false (b ∷ bs) = quote_by b bs (b == 34) refl (quoted (b == 92) bs)

-- ---- all tokens

-- that the bytes begin with the token that was found
abbrev pub AreAt : List ℕ → Option (TokenKind × ℕ) → Type 0
AreAt bs None = Unit {0}
AreAt bs (Some p) = IsToken (drop p.1 bs) p.0 (take p.1 bs)

text_is : (b : ℕ) (bs : List ℕ) (o : Option ℕ) → b ≡ 34 → WhereFound (λ n. HasValue (take n bs)) o → AreAt (b ∷ bs) (option_map (λ n. (Text, suc n)) o)
text_is b bs None is h = tt
text_is b bs (Some n) is h = rw is (IsToken.text h.1)

by_symbol : (b : ℕ) (bs : List ℕ) (t : Bool) → is_symbol b ≡ t → begins_at_most (b ∷ bs) ≡ false → AreAt (b ∷ bs) (cond t (Some (Symbol, 1)) None)
by_symbol b bs true is not_two = IsToken.symbol is not_two
by_symbol b bs false is not_two = tt

by_at_most : (b : ℕ) (bs : List ℕ) (t : Bool) → begins_at_most (b ∷ bs) ≡ t → AreAt (b ∷ bs) (cond t (Some (Symbol, 2)) (cond (is_symbol b) (Some (Symbol, 1)) None))
by_at_most b [] true is = absurd cc
by_at_most b (c ∷ bs) true is =
    let parts = and_parts (b == 60) (c == 61) is in
    let first : b ≡ 60 = grind (arith, nat_tests, parts.0) in
    let second : c ≡ 61 = grind (arith, nat_tests, parts.1) in
    rw (first, second) IsToken.at_most
by_at_most b bs false is = by_symbol b bs (is_symbol b) refl is

by_quote : (b : ℕ) (bs : List ℕ) (t : Bool) → (b == 34) ≡ t
    → AreAt (b ∷ bs) (cond t (option_map (λ n. (Text, suc n)) (text_len false bs)) (cond (begins_at_most (b ∷ bs)) (Some (Symbol, 2)) (cond (is_symbol b) (Some (Symbol, 1)) None)))
by_quote b bs true is = text_is b bs (text_len false bs) (grind (arith, nat_tests, is)) (quoted false bs)
by_quote b bs false is = by_at_most b bs (begins_at_most (b ∷ bs)) refl

abbrev others : ℕ → List ℕ → Option (TokenKind × ℕ)
others b bs = cond (b == 34) (option_map (λ n. (Text, suc n)) (text_len false bs)) (cond (begins_at_most (b ∷ bs)) (Some (Symbol, 2)) (cond (is_symbol b) (Some (Symbol, 1)) None))

by_digit : (b : ℕ) (bs : List ℕ) (t : Bool) → is_digit b ≡ t → AreAt (b ∷ bs) (cond t (Some (Int, length (take_while is_digit (b ∷ bs)))) (others b bs))
by_digit b bs true is = int_is b bs is
by_digit b bs false is = by_quote b bs (b == 34) refl

by_letter : (b : ℕ) (bs : List ℕ) (t : Bool) → is_small_letter b ≡ t
    → AreAt (b ∷ bs) (cond t (Some (Word, length (take_while is_name_byte (b ∷ bs)))) (cond (is_digit b) (Some (Int, length (take_while is_digit (b ∷ bs)))) (others b bs)))
by_letter b bs true is = word_is b bs is
by_letter b bs false is = by_digit b bs (is_digit b) refl

pub token_found : (bs : List ℕ) → AreAt bs (token_at bs)
unfolding token_at
token_found [] = IsToken.end refl
token_found (b ∷ bs) = by_letter b bs (is_small_letter b) refl
