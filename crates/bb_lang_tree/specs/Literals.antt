-- Numbers and text constants.
use Rattle.std.specs.Prelude.{ℕ, ◌+◌, ◌-◌, ◌*◌, ◌^◌, ℤ, pos, neg_ℤ, Bool, true, false, ◌==◌, nat_le, List, [], ◌∷◌, length, drop, Result, Ok, Err, codes, if◌then◌else◌}
use Rattle.std.specs.Str.Lossy.{utf8_lossy}
use Rattle.bb_basis.specs.Results.{◌>>=◌}
use Rattle.bb_lang_tree.specs.declared.fault.LangFault.{LangFault}
use Rattle.bb_lang_tree.specs.declared.fault.LangFault.TheVariants.{Token, Limit}
use Rattle.bb_lang_tree.specs.declared.literals.TheConstants.{TEXT_LIMIT}
use Rattle.bb_lang_tree.specs.Tokens.{is_int, is_text}
use Rattle.bb_lang_tree.specs.State.{State, Reader, next, at}

-- the number spelled by the digits of n followed by these digits
abbrev pub with_digits : ℕ → List ℕ → ℕ
with_digits n [] = n
with_digits n (d ∷ ds) = with_digits (n * 10 + (d - 48)) ds

-- INT, a number up to `limit`
unfoldable pub number_at : ℕ → State → Result ℕ LangFault
number_at limit s =
    if is_int s.kind
    then (if nat_le (with_digits 0 s.token) limit then Ok (with_digits 0 s.token) else Err (Limit s.place))
    else Err (Token s.place)

unfoldable pub number : ℕ → Reader ℕ
number limit s = do
  n ← number_at limit s
  t ← next s
  Ok (n, t)

-- int = [ "-" ] INT
unfoldable pub int : Reader ℤ
int s =
    if at (codes "-") s
    then (do
      t ← next s
      (n, u) ← number (2 ^ 63) t
      Ok (neg_ℤ (pos n), u))
    else (do
      (n, t) ← number (2 ^ 63 - 1) s
      Ok (pos n, t))

-- INT as a divisor, which is not 0
unfoldable pub divisor : Reader ℤ
divisor s = do
  n ← number_at (2 ^ 63 - 1) s
  t ← if n == 0 then Err (Limit s.place) else next s
  Ok (pos n, t)

-- the byte that an escape stands for
abbrev pub escape_of : ℕ → ℕ
escape_of b = if b == 110 then 10 else if b == 116 then 9 else b

-- the value of the bytes after an opening quote, up to the closing one
unfoldable pub text_bytes : (escaped : Bool) → List ℕ → List ℕ
text_bytes escaped [] = []
text_bytes true (b ∷ bs) = escape_of b ∷ text_bytes false bs
text_bytes false (b ∷ bs) =
    if b == 34 then []
    else if b == 92 then text_bytes true bs
    else b ∷ text_bytes false bs

-- the value of TEXT. The bytes are UTF-8 because the whole text is, so `utf8_lossy` leaves them unchanged
unfoldable pub text_at : State → Result (List ℕ) LangFault
text_at s =
    if is_text s.kind
    then (let bytes = text_bytes false (drop 1 s.token) in
    if nat_le (length bytes) TEXT_LIMIT then Ok (utf8_lossy bytes) else Err (Limit s.place))
    else Err (Token s.place)

unfoldable pub text : Reader (List ℕ)
text s = do
  bytes ← text_at s
  t ← next s
  Ok (bytes, t)
