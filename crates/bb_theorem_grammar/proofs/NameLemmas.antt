-- Names, numbers and text constants that are read stand there.
use Rattle.std.proofs.Common.{◌∷◌, ◌≡◌, ℕ, ◌-◌, ◌^◌, ◌<◌, ◌≤◌, Bool, true, false, cond, List, length, drop, Ok, Err, refl, sym, ap, subst, ◌∙◌, codes, arith}
use Rattle.std.specs.Prelude.{nat_le, ◌==◌}
use Rattle.std.specs.List.{list_any}
use Rattle.std.specs.Str.{bytes_eq}
use Rattle.std.specs.Str.Lossy.{utf8_lossy}
use Rattle.std.proofs.lemmas.Bool.{leb-true}
use Rattle.std.proofs.lemmas.Bool.Decides.{nat_tests}
use Rattle.bb_basis.specs.Names.{is_name}
use Rattle.bb_basis.proofs.ResultLemmas.{guard_ok, same_ok}
use Rattle.bb_lang_tree.specs.declared.fault.LangFault.TheVariants.{Token, Twice, Limit}
use Rattle.bb_lang_tree.specs.declared.literals.TheConstants.{TEXT_LIMIT}
use Rattle.bb_lang_tree.specs.declared.scan.TokenKind.{TokenKind}
use Rattle.bb_lang_tree.specs.declared.scan.TokenKind.TheVariants.{Word, Int, Text, Symbol, End}
use Rattle.bb_lang_tree.specs.Tokens.{is_word, is_int, is_text}
use Rattle.bb_lang_tree.specs.State.{State, next, at}
use Rattle.bb_lang_tree.specs.Words.{is_reserved, member_at, name_at, member, name, declared}
use Rattle.bb_lang_tree.specs.Literals.{escape_of, with_digits, number_at, number, int, divisor, text_bytes, text_at, text}
use Rattle.bb_theorem_grammar.specs.Tokens.{IsQuoted, IsToken, Next}
use Rattle.bb_theorem_grammar.specs.Words.{IsMember, IsName, with_name, Declares, IsNumber, IsInt, IsDivisor, IsText}
use Rattle.bb_theorem_grammar.proofs.SoundLemmas.{Stands, Sound, Moves, by_move, by_value, by_if, by_read, done, behind, next_strict, next_moves, next_is, next_left, next_cut, takes}

-- ---- names

pub word_kind : (k : TokenKind) → is_word k ≡ true → k ≡ Word
word_kind Word h = refl
word_kind Int h = absurd cc
word_kind Text h = absurd cc
word_kind Symbol h = absurd cc
word_kind End h = absurd cc

-- what the token is where it is a word that is a name
pub record AreWord (s : State) (x : List ℕ) : Type 0 where
  pub kind : s.kind ≡ Word
  pub is : s.token ≡ x
  pub is_name : is_name x ≡ true

member_by : (s : State) (x : List ℕ) (k t : Bool) → is_word s.kind ≡ k → is_name s.token ≡ t → cond k (cond t (Ok s.token) (Err (Limit s.place))) (Err (Token s.place)) ≡ Ok x → AreWord s x
member_by s x true true word named h = let same : s.token ≡ x = same_ok s.token x h in record { kind = word_kind s.kind word; is = same; is_name = subst (λ l. is_name l ≡ true) same named }
member_by s x true false word named h = absurd cc
member_by s x false t word named h = absurd cc

pub word_at : (s : State) (x : List ℕ) → member_at s ≡ Ok x → AreWord s x
unfolding member_at
word_at s x h = member_by s x (is_word s.kind) (is_name s.token) refl refl h

-- and is not reserved
pub free_at : (s : State) (x : List ℕ) → name_at s ≡ Ok x → AreWord s x × (is_reserved x ≡ false)
unfolding name_at
free_at s x h =
    let parts = guard_ok (is_reserved s.token) (Token s.place) (member_at s) x h in
    let w = word_at s x parts.1 in
    (w, subst (λ l. is_reserved l ≡ false) w.is parts.0)

member_of : (s t : State) (x : List ℕ) → AreWord s x → Next s t → IsMember x s t
member_of s t x w n = record { kind = w.kind; takes = record { is = w.is; next = n }; is_name = w.is_name }

pub name_of : (s t : State) (x : List ℕ) → name_at s ≡ Ok x → Next s t → IsName x s t
name_of s t x h n = let w = free_at s x h in record { member = member_of s t x w.0 n; free = w.1 }

pub member_read : (s : State) → Sound s (λ x t. IsMember x s t) (member s)
unfolding member
member_read s = by_value (member_at s) _ (λ x is. by_move _ (next_moves s) (λ t n. done (member_of s t x (word_at s x is) n)))

pub name_strict : (s : State) → Sound (behind s) (λ x t. IsName x s t) (name s)
unfolding name
name_strict s = by_value (name_at s) _ (λ x is. by_move _ (next_strict s) (λ t n. done (name_of s t x is n)))

pub name_read : (s : State) → Sound s (λ x t. IsName x s t) (name s)
unfolding name
name_read s = by_value (name_at s) _ (λ x is. by_move _ (next_moves s) (λ t n. done (name_of s t x is n)))

new_by : (s : State) (x : List ℕ) (b : Bool) (t : State) → list_any (bytes_eq x) s.scope ≡ b → cond b (Err (Twice s.place)) (next (with_name x s)) ≡ Ok t → (list_any (bytes_eq x) s.scope ≡ false) × Next (with_name x s) t
new_by s x true t is h = absurd cc
new_by s x false t is h = (is, next_is (with_name x s) t h)

declared_moves : (s : State) (x : List ℕ) → AreWord s x × (is_reserved x ≡ false) → Moves s (λ t. Declares x s t) (cond (list_any (bytes_eq x) s.scope) (Err (Twice s.place)) (next (with_name x s)))
declared_moves s x w = record {
  holds = λ t h.
      let n = new_by s x (list_any (bytes_eq x) s.scope) t refl h in
      record { kind = w.0.kind; is = w.0.is; is_name = w.0.is_name; free = w.1; new = n.0; next = n.1 };
  later = λ t h. let n = next_left (with_name x s) t (new_by s x (list_any (bytes_eq x) s.scope) t refl h).1 in omega (arith, n);
  cut = λ t h c. next_cut (with_name x s) t (new_by s x (list_any (bytes_eq x) s.scope) t refl h).1 c;
}

pub declared_read : (s : State) → Sound s (λ x t. Declares x s t) (declared s)
unfolding declared
declared_read s = by_value (name_at s) _ (λ x is. by_move _ (declared_moves s x (free_at s x is)) (λ t d. done d))

-- ---- numbers

int_kind : (k : TokenKind) → is_int k ≡ true → k ≡ Int
int_kind Word h = absurd cc
int_kind Int h = refl
int_kind Text h = absurd cc
int_kind Symbol h = absurd cc
int_kind End h = absurd cc

-- what the token is where it is a number up to a limit
record AreDigits (limit : ℕ) (s : State) (n : ℕ) : Type 0 where
  kind : s.kind ≡ Int
  is : with_digits 0 s.token ≡ n
  within : n ≤ limit

digits_by : (limit : ℕ) (s : State) (n d : ℕ) (k t : Bool) → with_digits 0 s.token ≡ d → is_int s.kind ≡ k → nat_le d limit ≡ t → cond k (cond t (Ok d) (Err (Limit s.place))) (Err (Token s.place)) ≡ Ok n → AreDigits limit s n
digits_by limit s n d true true are number within h = let same : d ≡ n = same_ok d n h in record { kind = int_kind s.kind number; is = are ∙ same; within = subst (λ m. m ≤ limit) same (leb-true d limit within) }
digits_by limit s n d true false are number within h = absurd cc
digits_by limit s n d false t are number within h = absurd cc

digits_at : (limit : ℕ) (s : State) (n : ℕ) → number_at limit s ≡ Ok n → AreDigits limit s n
unfolding number_at
digits_at limit s n h = digits_by limit s n (with_digits 0 s.token) (is_int s.kind) (nat_le (with_digits 0 s.token) limit) refl refl refl h

number_of : (limit : ℕ) (s t : State) (n : ℕ) → number_at limit s ≡ Ok n → Next s t → IsNumber limit n s t
number_of limit s t n h next = let d = digits_at limit s n h in record { kind = d.kind; is = d.is; within = d.within; next = next }

number_read : (limit : ℕ) (s : State) → Sound s (λ n t. IsNumber limit n s t) (number limit s)
unfolding number
number_read limit s = by_value (number_at limit s) _ (λ n is. by_move _ (next_moves s) (λ t m. done (number_of limit s t n is m)))

pub int_read : (s : State) → Sound s (λ i t. IsInt i s t) (int s)
unfolding int
int_read s =
    by_if (at (codes "-") s) _ _
    (λ is. by_move _ (next_moves s) (λ t n. by_read _ (number_read (2 ^ 63) t) (λ i u d. done (IsInt.minus (takes (codes "-") s t is n) d))))
    (λ _. by_read _ (number_read (2 ^ 63 - 1) s) (λ i t d. done (IsInt.plain d)))

above : (n : ℕ) → (n == 0) ≡ false → 0 < n
above n h = grind (arith, nat_tests, h)

divisor_by : (s : State) (n : ℕ) (b : Bool) (t : State) → (n == 0) ≡ b → cond b (Err (Limit s.place)) (next s) ≡ Ok t → (0 < n) × Next s t
divisor_by s n true t is h = absurd cc
divisor_by s n false t is h = (above n is, next_is s t h)

divisor_moves : (s : State) (n : ℕ) → Moves s (λ t. (0 < n) × Next s t) (cond (n == 0) (Err (Limit s.place)) (next s))
divisor_moves s n = record {
  holds = λ t h. divisor_by s n (n == 0) t refl h;
  later = λ t h. let m = next_left s t (divisor_by s n (n == 0) t refl h).1 in omega (arith, m);
  cut = λ t h c. next_cut s t (divisor_by s n (n == 0) t refl h).1 c;
}

pub divisor_read : (s : State) → Sound s (λ i t. IsDivisor i s t) (divisor s)
unfolding divisor
divisor_read s = by_value (number_at (2 ^ 63 - 1) s) _ (λ n is. by_move _ (divisor_moves s n) (λ t d. done (IsDivisor.above_zero d.0 (number_of (2 ^ 63 - 1) s t n is d.1))))

-- ---- text constants

text_kind : (k : TokenKind) → is_text k ≡ true → k ≡ Text
text_kind Word h = absurd cc
text_kind Int h = absurd cc
text_kind Text h = refl
text_kind Symbol h = absurd cc
text_kind End h = absurd cc

-- what is read of a text constant is what it stands for
pub value_read : {value bs : List ℕ} → IsQuoted value bs → text_bytes false bs ≡ value
unfolding text_bytes
value_read IsQuoted.closes = refl
value_read (IsQuoted.escape {b = b} is d) = ap (λ l. escape_of b ∷ l) (value_read d)
value_read (IsQuoted.character {b = b} quote slash low d) = rw (quote, slash) (ap (λ l. b ∷ l) (value_read d))

-- a text constant, by its parts
record AreQuoted (token : List ℕ) : Type 0 where
  quoted : List ℕ
  value : List ℕ
  is : token ≡ 34 ∷ quoted
  stands_for : IsQuoted value quoted

quoted_at : (rest : List ℕ) (k : TokenKind) (token : List ℕ) → IsToken rest k token → k ≡ Text → AreQuoted token
quoted_at rest k token (IsToken.word a b c) is = absurd cc
quoted_at rest k token (IsToken.int a b c) is = absurd cc
quoted_at rest k token (IsToken.text {value = value} {bs = bs} a) is = record { quoted = bs; value = value; is = refl; stands_for = a }
quoted_at rest k token IsToken.at_most is = absurd cc
quoted_at rest k token (IsToken.symbol a b) is = absurd cc
quoted_at rest k token (IsToken.end a) is = absurd cc

text_by : (s : State) (x bytes : List ℕ) (k b : Bool) → text_bytes false (drop 1 s.token) ≡ bytes → is_text s.kind ≡ k → nat_le (length bytes) TEXT_LIMIT ≡ b
    → cond k (cond b (Ok (utf8_lossy bytes)) (Err (Limit s.place))) (Err (Token s.place)) ≡ Ok x → (t : State) → Stands s → Next s t → IsText x s t
text_by s x bytes true true are text within h t stands n =
    let kind = text_kind s.kind text in
    let q = quoted_at s.rest s.kind s.token stands kind in
    let same : bytes ≡ q.value = sym are ∙ ap (λ l. text_bytes false (drop 1 l)) q.is ∙ value_read q.stands_for in
    record {
      kind = kind;
      quoted = q.quoted;
      value = q.value;
      token = q.is;
      stands_for = q.stands_for;
      within = subst (λ l. length l ≤ TEXT_LIMIT) same (leb-true (length bytes) TEXT_LIMIT within);
      is = sym (same_ok (utf8_lossy bytes) x h) ∙ ap utf8_lossy same;
      next = n;
    }
text_by s x bytes true false are text within h t stands n = absurd cc
text_by s x bytes false b are text within h t stands n = absurd cc

text_of : (s t : State) (x : List ℕ) → text_at s ≡ Ok x → Stands s → Next s t → IsText x s t
unfolding text_at
text_of s t x h stands n = text_by s x (text_bytes false (drop 1 s.token)) (is_text s.kind) (nat_le (length (text_bytes false (drop 1 s.token))) TEXT_LIMIT) refl refl refl h t stands n

pub text_read : (s : State) → Stands s → Sound s (λ x t. IsText x s t) (text s)
unfolding text
text_read s stands = by_value (text_at s) _ (λ x is. by_move _ (next_moves s) (λ t n. done (text_of s t x is stands n)))
