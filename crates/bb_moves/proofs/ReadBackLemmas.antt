-- What is written as JSON is read as what was written, and a name with a colon behind it is no JSON.
use Rattle.std.proofs.Common.{◌≡◌, ◌^◌, ◌<◌, ◌≤◌, ℕ, ℤ, pos, negsuc, suc, zero, Bool, true, false, cond, List, [], ◌∷◌, ◌++◌, drop, length, get_or, Some, None, option_map, option_and_then, decimal, refl, sym, ap, ◌∙◌, arith, append-nil, append_assoc, eqb-true, ltb-true, ne_eqb, true≢false}
use Rattle.std.specs.Prelude.{codes, nat_le, ◌==◌, ◌&&◌}
use Rattle.std.specs.Fmt.{signed_decimal}
use Rattle.std.specs.List.{list_all}
use Rattle.std.proofs.lemmas.Bool.{or_from}
use Rattle.std.proofs.lemmas.Fmt.{decimal_nonempty, decimal_digit, first_decimal}
use Rattle.json.specs.Json.{value, items, members, if_last}
use Rattle.json.specs.Lex.{tokens, lex, lex_byte, backslash, class, operator, other, quote, space, token, colon, between, in_word, punctuate, place_token, fresh, Lexeme}
use Rattle.json.specs.Print.{IsNumber}
use Rattle.json.specs.Token.{Token}
use Rattle.json.specs.Tree as tree
use Rattle.json.specs.Word.{after_exponent, after_fraction, after_number, after_whole, head, is_operator, is_space, word}
use Rattle.json.proofs.Printed.Decimals.{IsNumber-decimal}
use Rattle.json.proofs.Printed.Tokens.{tokens-print}
use Rattle.json.proofs.Printed.Trees.{value-json_tokens, ArePrintable-json_tokens}
use Rattle.serde_json.specs.Data.{Data, unsigned, boolean, number, string, array, item, no_items}
use Rattle.serde_json.specs.Find.{of_integer}
use Rattle.serde_json.specs.Read.{read, of_json, number_of, max_depth}
use Rattle.serde_json.specs.Written.{outline, compact_text, number_text}
use Rattle.serde_json.proofs.Numbers.{number_of-decimal, number_of-negative}
use Rattle.serde_json.proofs.Texts.{print-outline}
use Rattle.bb_moves.specs.Written.{is_i64}
use Rattle.bb_basis.specs.Names.{is_name, is_name_byte, starts_with_letter}
use Rattle.bb_basis.proofs.BoolLemmas.{and_first, and_second}

-- ---- data whose numbers are read as themselves

pub reads_back : (d : Data) → tree.HasNumbers (outline d) → tree.depth (outline d) ≤ max_depth → of_json (outline d) ≡ Some d → read (compact_text d) ≡ Some d
reads_back d numbers shallow back =
    let ts = tree.json_tokens (outline d) in
    let same : tokens (compact_text d) ≡ ts ++ [] = ap tokens (sym (print-outline d)) ∙ (tokens-print ts (ArePrintable-json_tokens (outline d) numbers) ∙ sym (append-nil ts)) in
    ap (λ o. option_and_then of_json (option_and_then (λ p. if_last p.0 p.1) o)) (ap (value max_depth) same ∙ value-json_tokens (outline d) max_depth [] shallow) ∙ back

pub read_decimal : (n : ℕ) → n < 2 ^ 64 → read (decimal n) ≡ Some (number (unsigned n))
read_decimal n h = reads_back (number (unsigned n)) (IsNumber-decimal n h) (omega arith) (ap (option_map number) (number_of-decimal n h))

-- the first byte of a decimal number is no minus sign
no_minus : (n : ℕ) → n < 2 ^ 64 → (head (decimal n) == 45) ≡ false
no_minus zero h = ap (λ l. head l == 45) (decimal_digit 0 (omega arith))
no_minus (suc n) h = by (decimal (suc n)) (decimal_nonempty (suc n) h) (first_decimal (suc n) (omega arith) h)
  where
    by : (ds : List ℕ) → 0 < length ds → 48 < get_or ds 0 0 → (head ds == 45) ≡ false
    by [] some first = absurd (omega arith)
    by (d ∷ ds) some first = ne_eqb d 45 (λ e. omega arith)

behind_minus : (s : List ℕ) → (head s == 45) ≡ false → IsNumber s → IsNumber (45 ∷ s)
unfolding after_number
behind_minus s h is = ap (λ b. option_and_then after_exponent (option_and_then after_fraction (after_whole (cond b (drop 1 s) s)))) (sym h) ∙ is

pub is_number : (z : ℤ) → is_i64 z ≡ true → IsNumber (number_text (of_integer z))
is_number (pos n) h = let low = ltb-true n (2 ^ 63) h in IsNumber-decimal n (omega (arith, low))
is_number (negsuc n) h = let low = ltb-true n (2 ^ 63) h in behind_minus (decimal (suc n)) (no_minus (suc n) (omega (arith, low))) (IsNumber-decimal (suc n) (omega (arith, low)))

pub number_back : (z : ℤ) → is_i64 z ≡ true → number_of (number_text (of_integer z)) ≡ Some (of_integer z)
number_back (pos n) h = let low = ltb-true n (2 ^ 63) h in number_of-decimal n (omega (arith, low))
number_back (negsuc n) h = number_of-negative n (ltb-true n (2 ^ 63) h)

pub text_of_integer : (z : ℤ) → number_text (of_integer z) ≡ signed_decimal z
text_of_integer (pos n) = refl
text_of_integer (negsuc n) = refl

pub read_integer : (z : ℤ) → is_i64 z ≡ true → read (signed_decimal z) ≡ Some (number (of_integer z))
read_integer z h = ap read (sym (text_of_integer z)) ∙ reads_back (number (of_integer z)) (is_number z h) (omega arith) (ap (option_map number) (number_back z h))

pub read_text : (t : List ℕ) → read (compact_text (string t)) ≡ Some (string t)
read_text t = reads_back (string t) tt (omega arith) refl

pub read_truth : (b : Bool) → read (cond b (codes "true") (codes "false")) ≡ Some (boolean b)
read_truth true = reads_back (boolean true) tt (omega arith) refl
read_truth false = reads_back (boolean false) tt (omega arith) refl

abbrev two : ℤ → ℤ → Data
two low high = array (item (number (of_integer low)) (item (number (of_integer high)) no_items))

interval_text : (low high : List ℕ) → codes "[" ++ low ++ codes "," ++ high ++ codes "]" ≡ 91 ∷ (low ++ (44 ∷ (high ++ 93 ∷ [])))
interval_text low high = append_assoc (codes "[" ++ low ++ codes ",") high (codes "]") ∙ append_assoc (codes "[" ++ low) (codes ",") (high ++ codes "]")

pub read_interval : (low high : ℤ) → is_i64 low ≡ true → is_i64 high ≡ true
    → read (codes "[" ++ signed_decimal low ++ codes "," ++ signed_decimal high ++ codes "]") ≡ Some (two low high)
read_interval low high h k =
    let back : of_json (outline (two low high)) ≡ Some (two low high) = rw (number_back low h, number_back high k) refl in
    ap read (interval_text (signed_decimal low) (signed_decimal high) ∙ (λ i. 91 ∷ (sym (text_of_integer low) i ++ (44 ∷ (sym (text_of_integer high) i ++ 93 ∷ [])))))
    ∙ reads_back (two low high) (is_number low h, (is_number high k, tt)) (omega arith) back

-- ---- a name with a colon behind it

-- a byte of a name is none of those that are in no name
pub apart : (b : ℕ) → is_name_byte b ≡ true → (c : ℕ) → is_name_byte c ≡ false → (b == c) ≡ false
apart b h c k = by (b == c) refl
  where
    by : (t : Bool) → (b == c) ≡ t → t ≡ false
    by false e = refl
    by true e = absurd (true≢false (sym h ∙ (ap is_name_byte (eqb-true b c e) ∙ k)))

no_operator : (b : ℕ) → is_name_byte b ≡ true → is_operator b ≡ false
no_operator b h =
    or_from _ _ (or_from _ _ (or_from _ _ (or_from _ _ (or_from _ _ (apart b h 123 refl) (apart b h 125 refl)) (apart b h 91 refl)) (apart b h 93 refl)) (apart b h 58 refl)) (apart b h 44 refl)

no_space : (b : ℕ) → is_name_byte b ≡ true → is_space b ≡ false
no_space b h = or_from _ _ (or_from _ _ (or_from _ _ (apart b h 32 refl) (apart b h 9 refl)) (apart b h 10 refl)) (apart b h 13 refl)

name_class : (b : ℕ) → is_name_byte b ≡ true → class b ≡ other
name_class b h =
    ap (λ t. cond t quote (cond (b == 92) backslash (cond (is_operator b) operator (cond (is_space b) space other)))) (apart b h 34 refl)
    ∙ (ap (λ t. cond t backslash (cond (is_operator b) operator (cond (is_space b) space other))) (apart b h 92 refl)
    ∙ (ap (λ t. cond t operator (cond (is_space b) space other)) (no_operator b h) ∙ ap (λ t. cond t space other) (no_space b h)))

in_name : (name rest : List ℕ) → list_all is_name_byte name ≡ true → lex in_word (name ++ 58 ∷ rest) ≡ colon ∷ lex between rest
unfolding lex
in_name [] rest h = refl
in_name (b ∷ bs) rest h =
    ap (λ c. lex_byte in_word c b (bs ++ 58 ∷ rest) (λ next. lex next (bs ++ 58 ∷ rest))) (name_class b (and_first (is_name_byte b) (list_all is_name_byte bs) h))
    ∙ in_name bs rest (and_second (is_name_byte b) (list_all is_name_byte bs) h)

-- whatever word the name is, no value has a colon behind it
no_value : (d : ℕ) (w : Token) (ls : List Lexeme) → option_and_then of_json (option_and_then (λ p. if_last p.0 p.1) (value (suc d) (place_token fresh w true (λ next. punctuate next (colon ∷ ls))))) ≡ None
unfolding value items members punctuate
no_value zero Token.begin_object ls = refl
no_value zero Token.end_object ls = refl
no_value zero Token.begin_array ls = refl
no_value zero Token.end_array ls = refl
no_value zero (Token.key s) ls = refl
no_value zero (Token.string s) ls = refl
no_value zero (Token.number s) ls = refl
no_value zero (Token.boolean b) ls = refl
no_value zero Token.null ls = refl
no_value zero Token.bad ls = refl
no_value (suc d) Token.begin_object ls = refl
no_value (suc d) Token.end_object ls = refl
no_value (suc d) Token.begin_array ls = refl
no_value (suc d) Token.end_array ls = refl
no_value (suc d) (Token.key s) ls = refl
no_value (suc d) (Token.string s) ls = refl
no_value (suc d) (Token.number s) ls = refl
no_value (suc d) (Token.boolean b) ls = refl
no_value (suc d) Token.null ls = refl
no_value (suc d) Token.bad ls = refl

pub no_json : (name rest : List ℕ) → is_name name ≡ true → read (name ++ 58 ∷ rest) ≡ None
unfolding is_name lex punctuate
no_json name rest h = by name (and_first (starts_with_letter name) _ (and_first (starts_with_letter name && list_all is_name_byte name) (nat_le (length name) 31) h)) (and_second (starts_with_letter name) _ (and_first (starts_with_letter name && list_all is_name_byte name) (nat_le (length name) 31) h))
  where
    by : (name : List ℕ) → starts_with_letter name ≡ true → list_all is_name_byte name ≡ true → read (name ++ 58 ∷ rest) ≡ None
    by [] first all = absurd cc
    by (b ∷ bs) first all =
        let text = bs ++ 58 ∷ rest in
        let lexed : lex between (b ∷ text) ≡ token (word (b ∷ text)) ∷ (colon ∷ lex between rest) =
        ap (λ c. lex_byte between c b text (λ next. lex next text)) (name_class b (and_first (is_name_byte b) (list_all is_name_byte bs) all))
        ∙ ap (λ ls. token (word (b ∷ text)) ∷ ls) (in_name bs rest (and_second (is_name_byte b) (list_all is_name_byte bs) all)) in
        ap (λ ls. option_and_then of_json (option_and_then (λ p. if_last p.0 p.1) (value max_depth (punctuate fresh ls)))) lexed ∙ no_value 126 (word (b ∷ text)) (lex between rest)
