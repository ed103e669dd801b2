-- The laws of one field: what is read was spelled so, and what is spelled so is read again.
use Rattle.std.proofs.Common.{◌≡◌, ℕ, suc, ℤ, Fits, ◌+◌, ◌^◌, ◌<◌, ◌≤◌, Bool, true, false, cond, ltb, eqb, List, [], ◌∷◌, ◌++◌, length, get_or, take, drop, Result, Ok, Err, refl, sym, ap, subst, ◌∙◌, append_assoc, arith, inl, inr, ◌⊎◌}
use Rattle.std.specs.Int.{w16, w64, to_be_bytes, from_be_bytes, cast_signed, cast_unsigned}
use Rattle.std.specs.Str.{is_utf8}
use Rattle.std.specs.Prelude.{IsUtf8, FitsSigned}
use Rattle.std.proofs.lemmas.Bool.{cases_lt, ltb-false, le-ltb, eqb-true, false_from_ne_true}
use Rattle.std.proofs.lemmas.List.{take_at, drop_at, take-append-drop, length-append, length-take, get_or-drop, get_or-take, get_or_past}
use Rattle.std.proofs.lemmas.Nat.{be_bytes_2, be_bytes_8, from_be_bytes-to_be_bytes_2, from_be_bytes-to_be_bytes_8}
use Rattle.std.proofs.lemmas.Int.{of_z-to_z, to_z-of_z}
use Rattle.std.proofs.Math.Facts.{sfits_to_z, Fits-of_z}
use Rattle.std.proofs.lemmas.Str.{IsUtf8-from_is_utf8, is_utf8-from_IsUtf8}
use Rattle.bb_code.specs.declared.fault.CodeFault.{CodeFault}
use Rattle.bb_code.specs.declared.fault.CodeFault.TheVariants.{Short, Limit, Operand}
use Rattle.bb_code.specs.Code.{IsText}
use Rattle.bb_code.specs.Spelling.{two_bytes, eight_bytes, bool_byte, text_bytes}
use Rattle.bb_basis.specs.Results.{◌>>=◌}
use Rattle.bb_basis.proofs.ResultLemmas.{bind_ok, guard_ok, same_ok}
use Rattle.bb_code.specs.Fields.{Field, byte_at, number_at, int_at, bool_at, within, count_at, short_count_at, text_at}

-- ---- tools

-- each number of the list is a byte
abbrev pub IsBytes : List ℕ → Type 0
IsBytes bytes = (i : ℕ) → get_or bytes i 0 < 256

pub IsBytes-drop : (n : ℕ) (bytes : List ℕ) → IsBytes bytes → IsBytes (drop n bytes)
IsBytes-drop n bytes fits i = rw get_or-drop (fits (n + i))

IsBytes-take : (n : ℕ) (bytes : List ℕ) → IsBytes bytes → IsBytes (take n bytes)
IsBytes-take n bytes fits i =
    elim (cases_lt i n) [
      | inl below ↦ rw (get_or-take n bytes i 0 below) (fits i)
      | inr above ↦ rw (get_or_past (take n bytes) i 0 (omega (arith, length-take n bytes))) (omega arith)
    ]

pub IsBytes-rest : (b : ℕ) (bytes : List ℕ) → IsBytes (b ∷ bytes) → IsBytes bytes
IsBytes-rest b bytes fits i = fits (suc i)

-- a test that was met, since otherwise there is a fault
pub met : {A : Type 0} (b : Bool) (fault : CodeFault) (r : Result A CodeFault) (y : A) → cond b r (Err fault) ≡ Ok y → (b ≡ true) × (r ≡ Ok y)
met true fault r y e = (refl, e)
met false fault r y e = absurd cc

-- which way a test went
pub chosen : {A : Type 0} (b : Bool) (x y z : A) → cond b x y ≡ z → ((b ≡ true) × (x ≡ z)) ⊎ ((b ≡ false) × (y ≡ z))
chosen true x y z e = inl (refl, e)
chosen false x y z e = inr (refl, e)

abbrev read : {A : Type 0} → A → Result A CodeFault
read x = Ok x

-- what was taken from the front, and what is left
pub record Takes (bytes front rest : List ℕ) : Type 0 where
  pub parts : bytes ≡ front ++ rest
  pub rest_fits : IsBytes rest

pub Takes-then : (a x b y c : List ℕ) → Takes a x b → Takes b y c → Takes a (x ++ y) c
Takes-then a x b y c first second = record { parts = first.parts ∙ ap (λ (t : List ℕ). x ++ t) second.parts ∙ sym (append_assoc x y c); rest_fits = second.rest_fits }

-- the two laws of a field, which spells its values by bytes_of
pub record IsSpelled (A : Type 0) (field : Field A) (bytes_of : A → List ℕ) (Fits : A → Type 0) : Type 0 where
  pub takes : (bytes : List ℕ) (x : A × List ℕ) → IsBytes bytes → field bytes ≡ Ok x → Takes bytes (bytes_of x.0) x.1 × Fits x.0
  pub again : (a : A) (rest : List ℕ) → Fits a → field (bytes_of a ++ rest) ≡ Ok (a, rest)

-- ---- what is made of one field or of two, after bytes that were read before

module _ (A B : Type 0) (field : Field B) (bytes_b : B → List ℕ) (FitsB : B → Type 0) (spelled : IsSpelled B field bytes_b FitsB) (make : B → A) where
  pub one_takes : (front : List ℕ) (bytes_of : A → List ℕ) (Fits : A → Type 0) → ((b : B) → FitsB b → (bytes_of (make b) ≡ front ++ bytes_b b) × Fits (make b))
      → (bytes : List ℕ) (x : A × List ℕ) → IsBytes bytes → (field bytes >>= λ b. Ok (make b.0, b.1)) ≡ Ok x → Takes (front ++ bytes) (bytes_of x.0) x.1 × Fits x.0
  one_takes front bytes_of Fits is bytes x fits e =
      let b = bind_ok (field bytes) (λ b. Ok (make b.0, b.1)) x e in
      let took = spelled.takes bytes b.0 fits b.1 in
      let law = is b.0.0 took.1 in
      subst (λ (y : A × List ℕ). Takes (front ++ bytes) (bytes_of y.0) y.1 × Fits y.0) (same_ok (make b.0.0, b.0.1) x b.2)
      (record { parts = ap (λ (t : List ℕ). front ++ t) took.0.parts ∙ sym (append_assoc front (bytes_b b.0.0) b.0.1) ∙ ap (λ (t : List ℕ). t ++ b.0.1) (sym law.0); rest_fits = took.0.rest_fits }, law.1)

  pub one_again : (b : B) (rest : List ℕ) → FitsB b → (field (bytes_b b ++ rest) >>= λ b. read {A = A × List ℕ} (make b.0, b.1)) ≡ read (make b, rest)
  one_again b rest fits = ap (λ (r : Result (B × List ℕ) CodeFault). r >>= λ b. read {A = A × List ℕ} (make b.0, b.1)) (spelled.again b rest fits)

module _ (A B C : Type 0) (field : Field B) (bytes_b : B → List ℕ) (FitsB : B → Type 0) (spelled : IsSpelled B field bytes_b FitsB) (second : Field C) (bytes_c : C → List ℕ) (FitsC : C → Type 0) (also : IsSpelled C second bytes_c FitsC) (make : B → C → A) where
  pub two_takes : (front : List ℕ) (bytes_of : A → List ℕ) (Fits : A → Type 0) → ((b : B) (c : C) → FitsB b → FitsC c → (bytes_of (make b c) ≡ front ++ (bytes_b b ++ bytes_c c)) × Fits (make b c))
      → (bytes : List ℕ) (x : A × List ℕ) → IsBytes bytes → (field bytes >>= λ b. second b.1 >>= λ c. Ok (make b.0 c.0, c.1)) ≡ Ok x → Takes (front ++ bytes) (bytes_of x.0) x.1 × Fits x.0
  two_takes front bytes_of Fits is bytes x fits e =
      let b = bind_ok (field bytes) (λ b. second b.1 >>= λ c. Ok (make b.0 c.0, c.1)) x e in
      let c = bind_ok (second b.0.1) (λ c. Ok (make b.0.0 c.0, c.1)) x b.2 in
      let took = spelled.takes bytes b.0 fits b.1 in
      let then' = also.takes b.0.1 c.0 took.0.rest_fits c.1 in
      let both = Takes-then bytes (bytes_b b.0.0) b.0.1 (bytes_c c.0.0) c.0.1 took.0 then'.0 in
      let law = is b.0.0 c.0.0 took.1 then'.1 in
      subst (λ (y : A × List ℕ). Takes (front ++ bytes) (bytes_of y.0) y.1 × Fits y.0) (same_ok (make b.0.0 c.0.0, c.0.1) x c.2)
      (record { parts = ap (λ (t : List ℕ). front ++ t) both.parts ∙ sym (append_assoc front (bytes_b b.0.0 ++ bytes_c c.0.0) c.0.1) ∙ ap (λ (t : List ℕ). t ++ c.0.1) (sym law.0); rest_fits = both.rest_fits }, law.1)

  pub two_again : (b : B) (c : C) (rest : List ℕ) → FitsB b → FitsC c → (field (bytes_b b ++ (bytes_c c ++ rest)) >>= λ b. second b.1 >>= λ c. read {A = A × List ℕ} (make b.0 c.0, c.1)) ≡ read (make b c, rest)
  two_again b c rest fits_b fits_c =
      ap (λ (r : Result (B × List ℕ) CodeFault). r >>= λ b. second b.1 >>= λ c. read {A = A × List ℕ} (make b.0 c.0, c.1)) (spelled.again b (bytes_c c ++ rest) fits_b)
      ∙ ap (λ (r : Result (C × List ℕ) CodeFault). r >>= λ c. read {A = A × List ℕ} (make b c.0, c.1)) (also.again c rest fits_c)

-- ---- a byte

pub byte_takes : (bytes : List ℕ) (x : ℕ × List ℕ) → IsBytes bytes → byte_at bytes ≡ Ok x → Takes bytes (x.0 ∷ []) x.1 × (x.0 < 256)
byte_takes [] x fits e = absurd cc
byte_takes (b ∷ bytes) x fits e =
    subst (λ (y : ℕ × List ℕ). Takes (b ∷ bytes) (y.0 ∷ []) y.1 × (y.0 < 256)) (same_ok (b, bytes) x e) (record { parts = refl; rest_fits = IsBytes-rest b bytes fits }, fits 0)

-- a byte alone
abbrev pub single : ℕ → List ℕ
single n = n ∷ []

abbrev pub Byte : ℕ → Type 0
Byte n = n < 256

abbrev pub Number : ℕ → Type 0
Number n = n < 2 ^ 16

pub byte_spelled : IsSpelled ℕ byte_at single Byte
byte_spelled = record { takes = byte_takes; again = λ n rest fits. refl }

-- ---- a number in two bytes

number_takes : (bytes : List ℕ) (x : ℕ × List ℕ) → IsBytes bytes → number_at bytes ≡ Ok x → Takes bytes (two_bytes x.0) x.1 × (x.0 < 2 ^ 16)
number_takes [] x fits e = absurd cc
number_takes (high ∷ []) x fits e = absurd cc
number_takes (high ∷ low ∷ rest) x fits e =
    let n : ℕ = from_be_bytes w16 (high ∷ low ∷ []) in
    let both_fit : IsBytes (high ∷ low ∷ []) = IsBytes-take 2 (high ∷ low ∷ rest) fits in
    let front : two_bytes n ≡ high ∷ low ∷ [] = be_bytes_2 (high ∷ low ∷ []) n refl both_fit refl in
    let rest_fits : IsBytes rest = IsBytes-rest low rest (IsBytes-rest high (low ∷ rest) fits) in
    subst (λ (y : ℕ × List ℕ). Takes (high ∷ low ∷ rest) (two_bytes y.0) y.1 × (y.0 < 2 ^ 16)) (same_ok (n, rest) x e)
    (record { parts = ap (λ (t : List ℕ). t ++ rest) (sym front); rest_fits = rest_fits }, omega (arith, fits 0, fits 1))

number_again : (n : ℕ) (rest : List ℕ) → n < 2 ^ 16 → number_at (two_bytes n ++ rest) ≡ Ok (n, rest)
number_again n rest fits = ap (λ (k : ℕ). read (k, rest)) (from_be_bytes-to_be_bytes_2 n fits)

pub number_spelled : IsSpelled ℕ number_at two_bytes Number
number_spelled = record { takes = number_takes; again = number_again }

-- ---- a number with a sign

int_takes : (bytes : List ℕ) (x : ℤ × List ℕ) → IsBytes bytes → int_at bytes ≡ Ok x → Takes bytes (eight_bytes x.0) x.1 × FitsSigned w64 x.0
int_takes bytes x fits e =
    let front : List ℕ = take 8 bytes in
    let n : ℕ = from_be_bytes w64 (take 8 bytes) in
    let enough = guard_ok (ltb (length bytes) 8) Short (Ok (cast_signed w64 (from_be_bytes w64 (take 8 bytes)), drop 8 bytes)) x e in
    let long : 8 ≤ length bytes = ltb-false _ _ enough.0 in
    let len : length (take 8 bytes) ≡ 8 = omega (arith, length-take 8 bytes) in
    let front_fits : IsBytes (take 8 bytes) = IsBytes-take 8 bytes fits in
    let small : n < 2 ^ 64 = omega (arith, front_fits 0, front_fits 1, front_fits 2, front_fits 3, front_fits 4, front_fits 5, front_fits 6, front_fits 7) in
    let same : eight_bytes (cast_signed w64 n) ≡ take 8 bytes = ap (to_be_bytes w64) (of_z-to_z w64 n small) ∙ be_bytes_8 (take 8 bytes) n len front_fits refl in
    subst (λ (y : ℤ × List ℕ). Takes bytes (eight_bytes y.0) y.1 × FitsSigned w64 y.0) (same_ok (cast_signed w64 n, drop 8 bytes) x enough.1)
    (record { parts = sym (take-append-drop 8 bytes) ∙ ap (λ (t : List ℕ). t ++ drop 8 bytes) (sym same); rest_fits = IsBytes-drop 8 bytes fits }, sfits_to_z (let in_word : Fits w64 n = omega (arith, small) in in_word))

int_of : (front rest : List ℕ) → length front ≡ 8 → int_at (front ++ rest) ≡ Ok (cast_signed w64 (from_be_bytes w64 front), rest)
int_of front rest len =
    let long : ltb (length (front ++ rest)) 8 ≡ false = le-ltb _ _ (omega (arith, length-append front rest)) in
    rw (long, take_at front rest 8 len, drop_at front rest 8 len) refl

int_bits : (n : ℕ) (rest : List ℕ) → n < 2 ^ 64 → int_at (to_be_bytes w64 n ++ rest) ≡ Ok (cast_signed w64 n, rest)
int_bits n rest fits = int_of (to_be_bytes w64 n) rest refl ∙ ap (λ (k : ℕ). read (cast_signed w64 k, rest)) (from_be_bytes-to_be_bytes_8 n fits)

int_again : (n : ℤ) (rest : List ℕ) → FitsSigned w64 n → int_at (eight_bytes n ++ rest) ≡ Ok (n, rest)
int_again n rest fits = int_bits (cast_unsigned w64 n) rest (let small : cast_unsigned w64 n < 2 ^ 64 = omega (arith, Fits-of_z fits) in small) ∙ ap (λ (z : ℤ). read (z, rest)) (to_z-of_z w64 n fits)

pub int_spelled : IsSpelled ℤ int_at eight_bytes (FitsSigned w64)
int_spelled = record { takes = int_takes; again = int_again }

-- ---- a truth value

abbrev pub bool_bytes : Bool → List ℕ
bool_bytes b = bool_byte b ∷ []

abbrev pub Always : {A : Type 0} → A → Type 0
Always a = Unit {0}

-- one of two values, each of which is a byte
pub either_takes : (A : Type 0) (byte_of : A → ℕ) (first second : A) (fault : CodeFault) (bytes : List ℕ) (x : A × List ℕ) → IsBytes bytes
    → (byte_at bytes >>= λ b. cond (eqb b.0 (byte_of first)) (Ok (first, b.1)) (cond (eqb b.0 (byte_of second)) (Ok (second, b.1)) (Err fault))) ≡ Ok x
    → Takes bytes (byte_of x.0 ∷ []) x.1 × Always x.0
either_takes A byte_of first second fault bytes x fits e =
    let b = bind_ok (byte_at bytes) (λ b. cond (eqb b.0 (byte_of first)) (Ok (first, b.1)) (cond (eqb b.0 (byte_of second)) (Ok (second, b.1)) (Err fault))) x e in
    let took = byte_takes bytes b.0 fits b.1 in
    let is = λ (v : A) (same : b.0.0 ≡ byte_of v) (made : read (v, b.0.1) ≡ Ok x).
    subst (λ (y : A × List ℕ). Takes bytes (byte_of y.0 ∷ []) y.1 × Always y.0) (same_ok (v, b.0.1) x made)
    (subst (λ (k : ℕ). Takes bytes (single k) b.0.1) same took.0, tt) in
    elim (chosen (eqb b.0.0 (byte_of first)) (Ok (first, b.0.1)) _ (Ok x) b.2) [
      | inl c ↦ is first (eqb-true _ _ c.0) c.1
      | inr c ↦
          let other = met (eqb b.0.0 (byte_of second)) fault (Ok (second, b.0.1)) x c.1 in
          is second (eqb-true _ _ other.0) other.1
    ]

bool_takes : (bytes : List ℕ) (x : Bool × List ℕ) → IsBytes bytes → bool_at bytes ≡ Ok x → Takes bytes (bool_bytes x.0) x.1 × Always x.0
unfolding bool_at
bool_takes bytes x fits e = either_takes Bool bool_byte false true Operand bytes x fits e

bool_again : (b : Bool) (rest : List ℕ) → Always b → bool_at (bool_bytes b ++ rest) ≡ Ok (b, rest)
unfolding bool_at
bool_again false rest fits = refl
bool_again true rest fits = refl

pub bool_spelled : IsSpelled Bool bool_at bool_bytes Always
bool_spelled = record { takes = bool_takes; again = bool_again }

-- ---- a number within limits

pub within_is : (low high : ℕ) (n x : ℕ × List ℕ) → within low high n ≡ Ok x → (low ≤ n.0) × (n.0 ≤ high) × (n ≡ x)
within_is low high n x e =
    let above = guard_ok (ltb n.0 low) Limit (cond (ltb high n.0) (Err Limit) (Ok n)) x e in
    let below = guard_ok (ltb high n.0) Limit (Ok n) x above.1 in
    (ltb-false _ _ above.0, ltb-false _ _ below.0, same_ok n x below.1)

pub within_again : (low high : ℕ) (n : ℕ × List ℕ) → low ≤ n.0 → n.0 ≤ high → within low high n ≡ Ok n
within_again low high n above below =
    let not_below : ltb n.0 low ≡ false = le-ltb _ _ above in
    let not_above : ltb high n.0 ≡ false = le-ltb _ _ below in
    rw (not_below, not_above) refl

-- from low to high
abbrev pub IsWithin : ℕ → ℕ → ℕ → Type 0
IsWithin low high n = (low ≤ n) × (n ≤ high)

-- a field of a number that is tested
pub within_spelled : (field : Field ℕ) (bytes_of : ℕ → List ℕ) (limit low high : ℕ) → high < limit → IsSpelled ℕ field bytes_of (λ n. n < limit)
    → IsSpelled ℕ (λ bytes. field bytes >>= within low high) bytes_of (IsWithin low high)
within_spelled field bytes_of limit low high small spelled = record {
  takes = λ bytes x fits e.
      let n = bind_ok (field bytes) (within low high) x e in
      let is = within_is low high n.0 x n.2 in
      let took = spelled.takes bytes n.0 fits n.1 in
      subst (λ (y : ℕ × List ℕ). Takes bytes (bytes_of y.0) y.1 × IsWithin low high y.0) is.2 (took.0, (is.0, is.1));
  again = λ n rest fits. ap (λ (r : Result (ℕ × List ℕ) CodeFault). r >>= within low high) (spelled.again n rest (omega (arith, fits.1))) ∙ within_again low high (n, rest) fits.0 fits.1;
}

pub count_spelled : (low high : ℕ) → high < 2 ^ 16 → IsSpelled ℕ (count_at low high) two_bytes (IsWithin low high)
unfolding count_at
count_spelled low high small = within_spelled number_at two_bytes (2 ^ 16) low high small number_spelled

pub short_count_spelled : (low high : ℕ) → high < 256 → IsSpelled ℕ (short_count_at low high) single (IsWithin low high)
unfolding short_count_at
short_count_spelled low high small = within_spelled byte_at single 256 low high small byte_spelled

-- ---- a text

text_takes : (bytes : List ℕ) (x : List ℕ × List ℕ) → IsBytes bytes → text_at bytes ≡ Ok x → Takes bytes (text_bytes x.0) x.1 × IsText x.0
unfolding text_at
text_takes bytes x fits e =
    let n = bind_ok (number_at bytes) (λ n. cond (ltb (length n.1) n.0) (Err Short) (cond (is_utf8 (take n.0 n.1)) (Ok (take n.0 n.1, drop n.0 n.1)) (Err Operand))) x e in
    let took = number_takes bytes n.0 fits n.1 in
    let long = guard_ok (ltb (length n.0.1) n.0.0) Short (cond (is_utf8 (take n.0.0 n.0.1)) (Ok (take n.0.0 n.0.1, drop n.0.0 n.0.1)) (Err Operand)) x n.2 in
    let text : List ℕ = take n.0.0 n.0.1 in
    let rest : List ℕ = drop n.0.0 n.0.1 in
    let valid = met (is_utf8 text) Operand (Ok (text, rest)) x long.1 in
    let enough : n.0.0 ≤ length n.0.1 = ltb-false _ _ long.0 in
    let len : length text ≡ n.0.0 = omega (arith, length-take n.0.0 n.0.1) in
    let second : Takes n.0.1 text rest = record { parts = sym (take-append-drop n.0.0 n.0.1); rest_fits = IsBytes-drop n.0.0 n.0.1 took.0.rest_fits } in
    let both = Takes-then bytes (two_bytes n.0.0) n.0.1 text rest took.0 second in
    let whole : Takes bytes (text_bytes text) rest = subst (λ (k : ℕ). Takes bytes (two_bytes k ++ text) rest) (sym len) both in
    subst (λ (y : List ℕ × List ℕ). Takes bytes (text_bytes y.0) y.1 × IsText y.0) (same_ok (text, rest) x valid.1)
    (whole, record { len = omega (arith, took.1); utf8 = IsUtf8-from_is_utf8 text valid.0 })

text_again : (text rest : List ℕ) → IsText text → text_at (text_bytes text ++ rest) ≡ Ok (text, rest)
unfolding text_at
text_again text rest fits =
    let long : ltb (length (text ++ rest)) (length text) ≡ false = le-ltb _ _ (omega (arith, length-append text rest)) in
    let valid : is_utf8 text ≡ true = is_utf8-from_IsUtf8 text fits.utf8 in
    ap (λ (r : Result (ℕ × List ℕ) CodeFault). r >>= λ n. cond (ltb (length n.1) n.0) (Err Short) (cond (is_utf8 (take n.0 n.1)) (Ok (take n.0 n.1, drop n.0 n.1)) (Err Operand))) (number_again (length text) (text ++ rest) (let small : length text < 2 ^ 16 = omega (arith, fits.len) in small))
    ∙ rw (long, take_at text rest (length text) refl, drop_at text rest (length text) refl, valid) refl

pub text_spelled : IsSpelled (List ℕ) text_at text_bytes IsText
text_spelled = record { takes = text_takes; again = text_again }

-- n bytes that are no text, after their number, are refused
pub text_refused : (bytes : List ℕ) (n : ℕ) (rest front : List ℕ) → number_at bytes ≡ Ok (n, rest) → n ≤ length rest → front ≡ take n rest → ¬ (IsUtf8 front) → text_at bytes ≡ Err Operand
unfolding text_at
text_refused bytes n rest front counted enough is invalid =
    let long : ltb (length rest) n ≡ false = le-ltb _ _ enough in
    let refused : is_utf8 (take n rest) ≡ false = false_from_ne_true _ (λ valid. invalid (IsUtf8-from_is_utf8 front (ap is_utf8 is ∙ valid))) in
    rw (counted, long, refused) refl

-- n bytes that are a text, after their number, are read
pub text_read : (bytes : List ℕ) (n : ℕ) (rest front : List ℕ) → number_at bytes ≡ Ok (n, rest) → n ≤ length rest → front ≡ take n rest → IsUtf8 front → text_at bytes ≡ Ok (front, drop n rest)
unfolding text_at
text_read bytes n rest front counted enough is text =
    let long : ltb (length rest) n ≡ false = le-ltb _ _ enough in
    let valid : is_utf8 (take n rest) ≡ true = ap is_utf8 (sym is) ∙ is_utf8-from_IsUtf8 front text in
    rw (counted, long, valid) (ap (λ (t : List ℕ). read (t, drop n rest)) (sym is))
