-- The bytes of what is written: words are graphic, a line has no control byte and begins and ends with a graphic byte,
-- so no line is cut within it, and none loses anything at its ends.
use Rattle.std.proofs.Common.{◌≡◌, ◌^◌, ◌<◌, ◌≤◌, ◌+◌, ◌-◌, ◌/◌, ◌%◌, ℕ, ℤ, pos, negsuc, suc, Bool, true, false, cond, List, [], ◌∷◌, ◌++◌, take, drop, length, length-append, get_or, decimal, refl, sym, ap, ◌∙◌, subst, arith, append_assoc, get_or-append-add, add-zero, eqb-true, leb-true, ltb-false, ltb-true, ne_eqb, tests, true≢false}
use Rattle.std.specs.Prelude.{◌==◌, ◌&&◌, ◌||◌, nat_lt, nat_le, All}
use Rattle.std.specs.Char.{digit_char, is_not_whitespace, is_whitespace}
use Rattle.std.specs.Fmt.{signed_decimal}
use Rattle.std.specs.Int.{IsInRange}
use Rattle.std.specs.List.{AllByRecursion, list_all}
use Rattle.std.specs.Str.{IsUtf8, chars, drop_trailing_whitespace, encode_utf8_all, skip_leading_whitespace, trim, trim_end, trim_start}
use Rattle.std.specs.Str.Lines.{strip_carriage_return}
use Rattle.std.specs.Str.Parse.{AllDigits}
use Rattle.std.proofs.lemmas.Fmt.{decimal_is_IsNumeral}
use Rattle.std.proofs.lemmas.List.{drop_at, take_at}
use Rattle.std.proofs.lemmas.List.Elements.{All-from_recursion}
use Rattle.std.proofs.lemmas.Str.{IsCharBoundary-after_ascii, IsCharBoundary-before_ascii, IsUtf8-drop, IsUtf8-from_ascii, IsUtf8-take, chars-append, chars-nil, chars_past_char, encode_ascii, encodes-chars}
use Rattle.std.proofs.lemmas.Str.Ascii.{IsAscii-cons, IsAscii-nil}
use Rattle.std.proofs.lemmas.Str.Parse.{digit_at}
use Rattle.json.specs.Print.{escape, escape_byte, escape_letter, quoted}
use Rattle.bb_basis.specs.Names.{is_digit, is_name, is_name_byte, is_small_letter, starts_with_letter}
use Rattle.bb_basis.proofs.BoolLemmas.{and_false, and_first, and_second, not_true}
use Rattle.bb_moves.specs.Written.{is_i64}

abbrev pub IsGraphic : ℕ → Type 0
IsGraphic b = (33 ≤ b) × (b ≤ 126)

abbrev pub IsPlain : ℕ → Type 0
IsPlain b = 32 ≤ b

-- a word: it is not empty, and its bytes are graphic
pub record IsWord (w : List ℕ) : Type 0 where
  pub some : 0 < length w
  pub bytes : AllByRecursion IsGraphic w

-- what a line may end with
pub record IsTail (t : List ℕ) : Type 0 where
  pub bytes : AllByRecursion IsPlain t
  pub front : List ℕ
  pub last : ℕ
  pub is : t ≡ front ++ last ∷ []
  pub graphic : IsGraphic last

-- ---- lists of bytes

pub each_weaker : (P Q : ℕ → Type 0) → ((b : ℕ) → P b → Q b) → (bs : List ℕ) → AllByRecursion P bs → AllByRecursion Q bs
each_weaker P Q weaker [] all = tt
each_weaker P Q weaker (b ∷ bs) all = (weaker b all.0, each_weaker P Q weaker bs all.1)

pub each_append : (P : ℕ → Type 0) (xs ys : List ℕ) → AllByRecursion P xs → AllByRecursion P ys → AllByRecursion P (xs ++ ys)
each_append P [] ys all more = more
each_append P (x ∷ xs) ys all more = (all.0, each_append P xs ys all.1 more)

pub each_passes : (test : ℕ → Bool) (P : ℕ → Type 0) → ((b : ℕ) → test b ≡ true → P b) → (bs : List ℕ) → list_all test bs ≡ true → AllByRecursion P bs
each_passes test P passes [] all = tt
each_passes test P passes (b ∷ bs) all =
    (passes b (and_first (test b) (list_all test bs) all), each_passes test P passes bs (and_second (test b) (list_all test bs) all))

graphic_plain : (b : ℕ) → IsGraphic b → IsPlain b
graphic_plain b g = let low = g.0 in omega (arith, low)

pub plain_word : (w : List ℕ) → IsWord w → AllByRecursion IsPlain w
plain_word w is = each_weaker IsGraphic IsPlain graphic_plain w is.bytes

-- ---- words

pub join_words : (v w : List ℕ) → IsWord v → AllByRecursion IsGraphic w → IsWord (v ++ w)
join_words [] w is more = absurd (let some = is.some in omega (arith, some))
join_words (b ∷ bs) w is more = record { some = omega (arith, length-append (b ∷ bs) w); bytes = each_append IsGraphic (b ∷ bs) w is.bytes more }

between : (low high b : ℕ) → 33 ≤ low → high ≤ 126 → (nat_le low b && nat_le b high) ≡ true → IsGraphic b
between low high b l h is =
    let from = leb-true low b (and_first (nat_le low b) (nat_le b high) is) in
    let to = leb-true b high (and_second (nat_le low b) (nat_le b high) is) in
    (omega (arith, from, l), omega (arith, to, h))

name_graphic : (b : ℕ) → is_name_byte b ≡ true → IsGraphic b
name_graphic b h = by (is_small_letter b) (is_digit b) (b == 95) refl refl refl h
  where
    by : (x y z : Bool) → is_small_letter b ≡ x → is_digit b ≡ y → (b == 95) ≡ z → ((x || y) || z) ≡ true → IsGraphic b
    by true y z letter digit line is = between 97 122 b (omega arith) (omega arith) letter
    by false true z letter digit line is = between 48 57 b (omega arith) (omega arith) digit
    by false false true letter digit line is = let same = eqb-true b 95 line in (omega (arith, same), omega (arith, same))
    by false false false letter digit line is = absurd (true≢false (sym is))

pub name_bytes : (w : List ℕ) → is_name w ≡ true → list_all is_name_byte w ≡ true
unfolding is_name
name_bytes w h = and_second (starts_with_letter w) (list_all is_name_byte w) (and_first (starts_with_letter w && list_all is_name_byte w) (nat_le (length w) 31) h)

pub name_word : (w : List ℕ) → is_name w ≡ true → IsWord w
unfolding is_name
name_word [] h = absurd cc
name_word (b ∷ bs) h = record { some = omega arith; bytes = each_passes is_name_byte IsGraphic name_graphic (b ∷ bs) (name_bytes (b ∷ bs) h) }

digits_graphic : (ds : List ℕ) → AllDigits 10 ds → AllByRecursion IsGraphic ds
digits_graphic [] h = tt
digits_graphic (d ∷ ds) h =
    let digit = digit_at (d ∷ ds) 0 h (omega arith) in
    let low = digit.0 in
    let high = digit.1 in
    ((omega (arith, low), omega (arith, high)), digits_graphic ds h.1)

pub decimal_word : (n : ℕ) → n < 2 ^ 64 → IsWord (decimal n)
decimal_word n h = let is = decimal_is_IsNumeral n h in record { some = is.0.0; bytes = digits_graphic (decimal n) is.0.1 }

pub integer_word : (z : ℤ) → is_i64 z ≡ true → IsWord (signed_decimal z)
integer_word (pos n) h = let low = ltb-true n (2 ^ 63) h in decimal_word n (omega (arith, low))
integer_word (negsuc n) h =
    let low = ltb-true n (2 ^ 63) h in
    let some : 0 < length (45 ∷ decimal (suc n)) = omega arith in
    record { some = some; bytes = ((omega arith, omega arith), (decimal_word (suc n) (omega (arith, low))).bytes) }

-- ---- tails

word_ends : (b : ℕ) (bs : List ℕ) → AllByRecursion IsGraphic (b ∷ bs) → IsTail (b ∷ bs)
word_ends b [] h = record { bytes = (graphic_plain b h.0, tt); front = []; last = b; is = refl; graphic = h.0 }
word_ends b (c ∷ cs) h =
    let t = word_ends c cs h.1 in
    record { bytes = (graphic_plain b h.0, t.bytes); front = b ∷ t.front; last = t.last; is = ap (λ l. b ∷ l) t.is; graphic = t.graphic }

pub word_tail : (w : List ℕ) → IsWord w → IsTail w
word_tail [] is = absurd (let some = is.some in omega (arith, some))
word_tail (b ∷ bs) is = word_ends b bs is.bytes

pub tail_behind : (xs ys : List ℕ) → AllByRecursion IsPlain xs → IsTail ys → IsTail (xs ++ ys)
tail_behind xs ys plain t = record {
  bytes = each_append IsPlain xs ys plain t.bytes;
  front = xs ++ t.front;
  last = t.last;
  is = ap (λ l. xs ++ l) t.is ∙ sym (append_assoc xs t.front (t.last ∷ []));
  graphic = t.graphic;
}

letter_plain : (a b c d e f : Bool) (x : ℕ) → (a ≡ true → IsPlain x) → 0 < cond a x (cond b 98 (cond c 102 (cond d 110 (cond e 114 (cond f 116 0))))) → IsPlain (cond a x (cond b 98 (cond c 102 (cond d 110 (cond e 114 (cond f 116 0))))))
letter_plain true b c d e f x h some = h refl
letter_plain false true c d e f x h some = let low : 32 ≤ 98 = omega arith in low
letter_plain false false true d e f x h some = let low : 32 ≤ 102 = omega arith in low
letter_plain false false false true e f x h some = let low : 32 ≤ 110 = omega arith in low
letter_plain false false false false true f x h some = let low : 32 ≤ 114 = omega arith in low
letter_plain false false false false false true x h some = let low : 32 ≤ 116 = omega arith in low
letter_plain false false false false false false x h some = absurd (let none : 0 < 0 = some in omega (arith, none))

hex_plain : (b : Bool) (d : ℕ) → IsPlain (cond b (48 + d) (87 + d))
hex_plain true d = let low : 32 ≤ 48 + d = omega arith in low
hex_plain false d = let low : 32 ≤ 87 + d = omega arith in low

quote_plain : (x : ℕ) (a b : Bool) → (x == 34) ≡ a → (x == 92) ≡ b → (a || b) ≡ true → IsPlain x
quote_plain x true b quote back is = let same = eqb-true x 34 quote in omega (arith, same)
quote_plain x false true quote back is = let same = eqb-true x 92 back in omega (arith, same)
quote_plain x false false quote back is = absurd (true≢false (sym is))

escaped : (x : ℕ) (a b : Bool) → (a ≡ true → IsPlain (escape_letter x)) → (b ≡ false → IsPlain x)
    → AllByRecursion IsPlain (cond a (92 ∷ escape_letter x ∷ []) (cond b (92 ∷ 117 ∷ 48 ∷ 48 ∷ digit_char (x / 16) ∷ digit_char (x % 16) ∷ []) (x ∷ [])))
escaped x true b h k = (omega arith, (h refl, tt))
escaped x false true h k = (omega arith, (omega arith, (omega arith, (omega arith, (hex_plain (nat_lt (x / 16) 10) (x / 16), (hex_plain (nat_lt (x % 16) 10) (x % 16), tt))))))
escaped x false false h k = (k refl, tt)

byte_plain : (x : ℕ) → AllByRecursion IsPlain (escape_byte x)
unfolding escape_byte
byte_plain x =
    escaped x (nat_lt 0 (escape_letter x)) (nat_lt x 32)
    (λ some. letter_plain ((x == 34) || (x == 92)) (x == 8) (x == 12) (x == 10) (x == 13) (x == 9) x (quote_plain x (x == 34) (x == 92) refl refl) (ltb-true 0 (escape_letter x) some))
    (λ h. ltb-false x 32 h)

escape_plain : (t : List ℕ) → AllByRecursion IsPlain (escape t)
escape_plain [] = tt
escape_plain (x ∷ xs) = each_append IsPlain (escape_byte x) (escape xs) (byte_plain x) (escape_plain xs)

pub quoted_tail : (t : List ℕ) → IsTail (quoted t)
quoted_tail t = record {
  bytes = (omega arith, each_append IsPlain (escape t) (34 ∷ []) (escape_plain t) (omega arith, tt));
  front = 34 ∷ escape t;
  last = 34;
  is = refl;
  graphic = (omega arith, omega arith);
}

-- ---- nothing is cut off

no_feed : (b : ℕ) → IsPlain b → (b == 10) ≡ false
no_feed b low = ne_eqb b 10 (λ e. omega (arith, low, e))

pub no_line_feed : (t : List ℕ) → AllByRecursion IsPlain t → All (λ b. (b == 10) ≡ false) t
no_line_feed t plain = All-from_recursion (λ b. (b == 10) ≡ false) t (each_weaker IsPlain (λ b. (b == 10) ≡ false) no_feed t plain)

ends_whole : (front : List ℕ) (last : ℕ) → IsGraphic last → strip_carriage_return (front ++ last ∷ []) ≡ front ++ last ∷ []
ends_whole front last graphic =
    let low = graphic.0 in
    let l = front ++ last ∷ [] in
    let at : length l - 1 ≡ length front + 0 = omega (arith, length-append front (last ∷ [])) in
    let is : get_or l (length l - 1) 0 ≡ last = ap (λ n. get_or l n 0) at ∙ get_or-append-add front (last ∷ []) 0 0 in
    ap (λ b. cond b (take (length l - 1) l) l) (ap (λ n. n == 13) is ∙ ne_eqb last 13 (λ e. omega (arith, low, e)))

pub no_return : (t : List ℕ) → IsTail t → strip_carriage_return t ≡ t
no_return t tail = ap strip_carriage_return tail.is ∙ (ends_whole tail.front tail.last tail.graphic ∙ sym tail.is)

bright : (c : ℕ) → IsInRange 33 126 c → is_not_whitespace c ≡ true
bright c h = grind (arith, tests)

dark : (c : ℕ) → IsGraphic c → is_whitespace c ≡ false
dark c g = not_true (is_whitespace c) (bright c g)

pub starts_whole : (c : ℕ) (cs : List ℕ) → IsGraphic c → IsUtf8 (c ∷ cs) → trim_start (c ∷ cs) ≡ c ∷ cs
unfolding trim_start
starts_whole c cs g u =
    let high = g.1 in
    let is : chars (c ∷ cs) ≡ c ∷ chars cs = chars_past_char (c ∷ cs) cs c u (ap (λ l. l ++ cs) (sym (encode_ascii c (omega (arith, high))))) in
    ap (λ l. encode_utf8_all (skip_leading_whitespace l)) is
    ∙ (ap (λ b. encode_utf8_all (cond b (skip_leading_whitespace (chars cs)) (c ∷ chars cs))) (dark c g) ∙ (ap encode_utf8_all (sym is) ∙ encodes-chars (c ∷ cs) u))

none_dropped : (cs : List ℕ) (last : ℕ) → IsGraphic last → drop_trailing_whitespace (cs ++ last ∷ []) ≡ cs ++ last ∷ []
none_dropped [] last g = ap (λ b. cond (b && true) [] (last ∷ [])) (dark last g)
none_dropped (c ∷ cs) last g =
    let l = cs ++ last ∷ [] in
    let some : (length l == 0) ≡ false = ne_eqb (length l) 0 (λ e. omega (arith, e, length-append cs (last ∷ []))) in
    ap (λ m. cond (is_whitespace c && (length m == 0)) [] (c ∷ m)) (none_dropped cs last g)
    ∙ ap (λ b. cond b [] (c ∷ l)) (ap (λ b. is_whitespace c && b) some ∙ and_false (is_whitespace c))

cut_before : (l rest : List ℕ) (b : ℕ) → b < 128 → IsUtf8 (l ++ b ∷ rest) → IsUtf8 l × IsUtf8 rest
cut_before l rest b low u =
    let whole = l ++ b ∷ rest in
    let long = length-append l (b ∷ rest) in
    let at : get_or whole (length l) 0 ≡ b = ap (λ n. get_or whole n 0) (sym (add-zero (length l))) ∙ get_or-append-add l (b ∷ rest) 0 0 in
    let ascii : get_or whole (length l) 0 < 128 = omega (arith, at, low) in
    let within : length l < length whole = omega (arith, long) in
    let behind : drop (length l + 1) whole ≡ rest = ap (drop (length l + 1)) (sym (append_assoc l (b ∷ []) rest)) ∙ drop_at (l ++ b ∷ []) rest (length l + 1) (length-append l (b ∷ [])) in (
      subst IsUtf8 (take_at l (b ∷ rest) (length l) refl) (IsUtf8-take whole (length l) u (IsCharBoundary-before_ascii whole (length l) within ascii)),
      subst IsUtf8 behind (IsUtf8-drop whole (length l + 1) u (IsCharBoundary-after_ascii whole (length l) u within ascii)),
    )

pub cut_at_line : (l rest : List ℕ) → IsUtf8 (l ++ 10 ∷ rest) → IsUtf8 l × IsUtf8 rest
cut_at_line l rest u = cut_before l rest 10 (omega arith) u

last_whole : (front : List ℕ) (last : ℕ) → IsGraphic last → IsUtf8 (front ++ last ∷ []) → trim_end (front ++ last ∷ []) ≡ front ++ last ∷ []
unfolding trim_end
last_whole front last g u =
    let high = g.1 in
    let ascii : last < 128 = omega (arith, high) in
    let parts = cut_before front [] last ascii u in
    let one : chars (last ∷ []) ≡ last ∷ [] = chars_past_char (last ∷ []) [] last (IsUtf8-from_ascii (last ∷ []) (IsAscii-cons last [] ascii IsAscii-nil)) (ap (λ l. l ++ []) (sym (encode_ascii last ascii))) ∙ ap (λ l. last ∷ l) chars-nil in
    let is : chars (front ++ last ∷ []) ≡ chars front ++ last ∷ [] = chars-append front (last ∷ []) parts.0 ∙ ap (λ l. chars front ++ l) one in
    ap (λ l. encode_utf8_all (drop_trailing_whitespace l)) is
    ∙ (ap encode_utf8_all (none_dropped (chars front) last g) ∙ (ap encode_utf8_all (sym is) ∙ encodes-chars (front ++ last ∷ []) u))

-- a line that begins with a graphic byte keeps everything
pub trim_whole : (c : ℕ) (cs : List ℕ) → IsGraphic c → IsTail (c ∷ cs) → IsUtf8 (c ∷ cs) → trim (c ∷ cs) ≡ c ∷ cs
trim_whole c cs g tail u =
    ap trim_end (starts_whole c cs g u)
    ∙ (ap trim_end tail.is ∙ (last_whole tail.front tail.last tail.graphic (subst IsUtf8 tail.is u) ∙ sym tail.is))
