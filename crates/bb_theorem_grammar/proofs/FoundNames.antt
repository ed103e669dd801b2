-- Names, numbers and text constants that stand in a text are read.
use Rattle.std.proofs.Common.{◌≡◌, ℕ, ◌-◌, ◌^◌, ◌<◌, Bool, true, false, List, [], ◌∷◌, length, drop, Ok, refl, sym, ap, ◌∙◌, codes, arith}
use Rattle.std.specs.Prelude.{ℤ, nat_le, ◌==◌, not, ◌&&◌}
use Rattle.std.specs.List.{list_any}
use Rattle.std.specs.Str.{bytes_eq}
use Rattle.std.specs.Str.Lossy.{utf8_lossy}
use Rattle.std.proofs.lemmas.Bool.{le-leb}
use Rattle.std.proofs.lemmas.Bool.Decides.{nat_tests}
use Rattle.bb_basis.specs.Names.{is_digit, is_name}
use Rattle.bb_lang_tree.specs.declared.literals.TheConstants.{TEXT_LIMIT}
use Rattle.bb_lang_tree.specs.declared.scan.TokenKind.{TokenKind}
use Rattle.bb_lang_tree.specs.declared.scan.TokenKind.TheVariants.{Word, Int, Text}
use Rattle.bb_lang_tree.specs.Tokens.{is_word, is_int, is_text}
use Rattle.bb_lang_tree.specs.State.{State, at}
use Rattle.bb_lang_tree.specs.Words.{is_reserved, member_at, name_at, member, name, declared}
use Rattle.bb_lang_tree.specs.Literals.{with_digits, number_at, number, int, divisor, text_bytes, text_at, text}
use Rattle.bb_theorem_grammar.specs.Tokens.{first_passes, IsToken}
use Rattle.bb_theorem_grammar.specs.Words.{IsMember, IsName, with_name, Declares, IsNumber, IsInt, IsDivisor, IsText}
pub use Rattle.bb_theorem_grammar.proofs.SoundLemmas.{Stands}
use Rattle.bb_theorem_grammar.proofs.NameLemmas.{value_read}
use Rattle.bb_theorem_grammar.proofs.FoundTokens.{next_found, yes_is, no_is, ok_then, at_its_token, NotAt, none_pass, others}

-- ---- names

word_found : (s : State) (x : List ℕ) → s.kind ≡ Word → s.token ≡ x → is_name x ≡ true → member_at s ≡ Ok x
unfolding member_at
word_found s x kind is named = yes_is (is_word s.kind) _ _ (ap is_word kind) (yes_is (is_name s.token) _ _ (ap is_name is ∙ named) (ap (λ l. Ok l) is))

pub free_found : (s : State) (x : List ℕ) → s.kind ≡ Word → s.token ≡ x → is_name x ≡ true → is_reserved x ≡ false → name_at s ≡ Ok x
unfolding name_at
free_found s x kind is named free = no_is (is_reserved s.token) _ _ (ap is_reserved is ∙ free) (word_found s x kind is named)

pub name_at_found : (s t : State) (x : List ℕ) → IsName x s t → name_at s ≡ Ok x
name_at_found s t x h = free_found s x h.member.kind h.member.takes.is h.member.is_name h.free

pub member_found : (s t : State) (x : List ℕ) → IsMember x s t → member s ≡ Ok (x, t)
unfolding member
member_found s t x h = ok_then _ (word_found s x h.kind h.takes.is h.is_name) (ok_then _ (next_found s t h.takes.next) refl)

pub name_found : (s t : State) (x : List ℕ) → IsName x s t → name s ≡ Ok (x, t)
unfolding name
name_found s t x h = ok_then _ (name_at_found s t x h) (ok_then _ (next_found s t h.member.takes.next) refl)

pub declared_found : (s t : State) (x : List ℕ) → Declares x s t → declared s ≡ Ok (x, t)
unfolding declared
declared_found s t x h = ok_then _ (free_found s x h.kind h.is h.is_name h.free) (ok_then _ (no_is (list_any (bytes_eq x) s.scope) _ _ h.new (next_found (with_name x s) t h.next)) refl)

-- names are no reserved words and no symbols
abbrev pub is_free : List ℕ → Bool
is_free x = is_name x && not (is_reserved x)

pub name_others : (s t : State) (x : List ℕ) → IsName x s t → (ws : List (List ℕ)) → none_pass is_free ws ≡ true → NotAt ws s
name_others s t x h ws none = others is_free s (ap is_free h.member.takes.is ∙ rw (h.member.is_name, h.free) refl) ws none

-- ---- kinds

pub no_int : (s : State) → Stands s → first_passes is_digit s.token ≡ false → is_int s.kind ≡ false
no_int s h = by_kind s.rest s.kind s.token h
  where
    by_kind : (rest : List ℕ) (k : TokenKind) (token : List ℕ) → IsToken rest k token → first_passes is_digit token ≡ false → is_int k ≡ false
    by_kind rest k token (IsToken.word a b c) no_digit = refl
    by_kind rest k token (IsToken.int a b c) no_digit = absurd cc
    by_kind rest k token (IsToken.text a) no_digit = refl
    by_kind rest k token IsToken.at_most no_digit = refl
    by_kind rest k token (IsToken.symbol a b) no_digit = refl
    by_kind rest k token (IsToken.end a) no_digit = refl

pub no_text : (s : State) → Stands s → first_passes (λ b. b == 34) s.token ≡ false → is_text s.kind ≡ false
no_text s h = by_kind s.rest s.kind s.token h
  where
    by_kind : (rest : List ℕ) (k : TokenKind) (token : List ℕ) → IsToken rest k token → first_passes (λ b. b == 34) token ≡ false → is_text k ≡ false
    by_kind rest k token (IsToken.word a b c) no_quote = refl
    by_kind rest k token (IsToken.int a b c) no_quote = refl
    by_kind rest k token (IsToken.text a) no_quote = absurd cc
    by_kind rest k token IsToken.at_most no_quote = refl
    by_kind rest k token (IsToken.symbol a b) no_quote = refl
    by_kind rest k token (IsToken.end a) no_quote = refl

int_first : (rest : List ℕ) (k : TokenKind) (token : List ℕ) → IsToken rest k token → k ≡ Int → first_passes is_digit token ≡ true
int_first rest k token (IsToken.word a b c) is = absurd cc
int_first rest k token (IsToken.int a b c) is = a
int_first rest k token (IsToken.text a) is = absurd cc
int_first rest k token IsToken.at_most is = absurd cc
int_first rest k token (IsToken.symbol a b) is = absurd cc
int_first rest k token (IsToken.end a) is = absurd cc

text_first : (rest : List ℕ) (k : TokenKind) (token : List ℕ) → IsToken rest k token → k ≡ Text → first_passes (λ b. b == 34) token ≡ true
text_first rest k token (IsToken.word a b c) is = absurd cc
text_first rest k token (IsToken.int a b c) is = absurd cc
text_first rest k token (IsToken.text a) is = refl
text_first rest k token IsToken.at_most is = absurd cc
text_first rest k token (IsToken.symbol a b) is = absurd cc
text_first rest k token (IsToken.end a) is = absurd cc

pub digit_others : (s : State) → Stands s → s.kind ≡ Int → (ws : List (List ℕ)) → none_pass (first_passes is_digit) ws ≡ true → NotAt ws s
digit_others s h is ws none = others (first_passes is_digit) s (int_first s.rest s.kind s.token h is) ws none

pub quote_others : (s : State) → Stands s → s.kind ≡ Text → (ws : List (List ℕ)) → none_pass (first_passes (λ b. b == 34)) ws ≡ true → NotAt ws s
quote_others s h is ws none = others (first_passes (λ b. b == 34)) s (text_first s.rest s.kind s.token h is) ws none

-- ---- numbers

number_at_found : (limit n : ℕ) (s t : State) → IsNumber limit n s t → number_at limit s ≡ Ok n
unfolding number_at
number_at_found limit n s t h =
    let within : nat_le (with_digits 0 s.token) limit ≡ true = ap (λ k. nat_le k limit) h.is ∙ le-leb n limit h.within in
    yes_is (is_int s.kind) _ _ (ap is_int h.kind) (yes_is (nat_le (with_digits 0 s.token) limit) _ _ within (ap (λ k. Ok k) h.is))

number_found : (limit n : ℕ) (s t : State) → IsNumber limit n s t → number limit s ≡ Ok (n, t)
unfolding number
number_found limit n s t h = ok_then _ (number_at_found limit n s t h) (ok_then _ (next_found s t h.next) refl)

pub int_found : (i : ℤ) (s t : State) → IsInt i s t → Stands s → int s ≡ Ok (i, t)
unfolding int
int_found i s t (IsInt.plain {n = n} h) stands = no_is (at (codes "-") s) _ _ (digit_others s stands h.kind (codes "-" ∷ []) refl).0 (ok_then _ (number_found (2 ^ 63 - 1) n s t h) refl)
int_found i s t (IsInt.minus {n = n} {t = u} a h) stands = yes_is (at (codes "-") s) _ _ (at_its_token (codes "-") s a.is) (ok_then _ (next_found s u a.next) (ok_then _ (number_found (2 ^ 63) n u t h) refl))

zero_by : (n : ℕ) (t : Bool) → (n == 0) ≡ t → 0 < n → (n == 0) ≡ false
zero_by n true is h = let none : n ≡ 0 = grind (arith, nat_tests, is) in absurd (omega (arith, none, h))
zero_by n false is h = is

not_zero : (n : ℕ) → 0 < n → (n == 0) ≡ false
not_zero n h = zero_by n (n == 0) refl h

pub divisor_found : (i : ℤ) (s t : State) → IsDivisor i s t → divisor s ≡ Ok (i, t)
unfolding divisor
divisor_found i s t (IsDivisor.above_zero {n = n} some h) = ok_then _ (number_at_found (2 ^ 63 - 1) n s t h) (ok_then _ (no_is (n == 0) _ _ (not_zero n some) (next_found s t h.next)) refl)

-- ---- text constants

text_at_found : (x : List ℕ) (s t : State) → IsText x s t → text_at s ≡ Ok x
unfolding text_at
text_at_found x s t h =
    let same : text_bytes false (drop 1 s.token) ≡ h.value = ap (λ l. text_bytes false (drop 1 l)) h.token ∙ value_read h.stands_for in
    let within : nat_le (length (text_bytes false (drop 1 s.token))) TEXT_LIMIT ≡ true = ap (λ l. nat_le (length l) TEXT_LIMIT) same ∙ le-leb (length h.value) TEXT_LIMIT h.within in
    yes_is (is_text s.kind) _ _ (ap is_text h.kind) (yes_is (nat_le (length (text_bytes false (drop 1 s.token))) TEXT_LIMIT) _ _ within (ap (λ l. Ok l) (ap utf8_lossy same ∙ sym h.is)))

pub text_found : (x : List ℕ) (s t : State) → IsText x s t → text s ≡ Ok (x, t)
unfolding text
text_found x s t h = ok_then _ (text_at_found x s t h) (ok_then _ (next_found s t h.next) refl)
