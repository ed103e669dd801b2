-- Reading one field at the start of bytes. Each field gives a value and the bytes after it, or the first fault.
use Rattle.std.specs.Prelude.{ℕ, zero, suc, ℤ, Bool, true, false, List, [], ◌∷◌, length, take, drop, Result, Ok}
use Rattle.std.specs.Prelude.{Err, nat_lt, ◌==◌}
use Rattle.std.specs.Prelude.{if◌then◌else◌, slice_get}
use Rattle.std.specs.Int.{w16, w64, from_be_bytes, cast_signed}
use Rattle.std.specs.Str.{is_utf8}
use Rattle.bb_basis.specs.Results.{◌>>=◌, ok_or}
use Rattle.bb_code.specs.declared.parts.TheConstants.{STACK_LIMIT}
use Rattle.bb_code.specs.declared.fault.CodeFault.{CodeFault}
use Rattle.bb_code.specs.declared.fault.CodeFault.TheVariants.{Short, Operand, Limit}
use Rattle.bb_code.specs.declared.frame.FrameEntry.{FrameEntry}
use Rattle.bb_code.specs.declared.frame.Kind.{Kind}
use Rattle.bb_code.specs.declared.frame.Kind.TheVariants as kinds
use Rattle.bb_code.specs.declared.frame.Loop.{Loop}
use Rattle.bb_code.specs.declared.table.KindForm.{KindForm}
use Rattle.bb_code.specs.declared.table.KindForm.TheVariants as forms
use Rattle.bb_code.specs.declared.table.TheConstants.{KINDS}

-- a field of values in A
abbrev pub Field : Type 0 → Type 0
Field A = List ℕ → Result (A × List ℕ) CodeFault

-- ---- numbers

-- one byte
abbrev pub byte_at : Field ℕ
byte_at [] = Err Short
byte_at (b ∷ rest) = Ok (b, rest)

-- a number in two bytes
abbrev pub number_at : Field ℕ
number_at [] = Err Short
number_at (high ∷ []) = Err Short
number_at (high ∷ low ∷ rest) = Ok (from_be_bytes w16 (high ∷ low ∷ []), rest)

-- a number with a sign in eight bytes
abbrev pub int_at : Field ℤ
int_at bytes =
    if nat_lt (length bytes) 8 then Err Short
    else Ok (cast_signed w64 (from_be_bytes w64 (take 8 bytes)), drop 8 bytes)

-- a truth value: 0 or 1
unfoldable pub bool_at : Field Bool
bool_at bytes = do
  b ← byte_at bytes
  if b.0 == 0 then Ok (false, b.1) else (if b.0 == 1 then Ok (true, b.1) else Err Operand)

-- ---- lists

-- the number that was read, if it is from low to high
abbrev pub within : ℕ → ℕ → ℕ × List ℕ → Result (ℕ × List ℕ) CodeFault
within low high n = if nat_lt n.0 low then Err Limit else (if nat_lt high n.0 then Err Limit else Ok n)

-- a count from low to high, in two bytes
unfoldable pub count_at : ℕ → ℕ → Field ℕ
count_at low high bytes = number_at bytes >>= within low high

-- a count from low to high, in one byte
unfoldable pub short_count_at : ℕ → ℕ → Field ℕ
short_count_at low high bytes = byte_at bytes >>= within low high

-- a number of values, read in sequence from a state: the input still to be read
unfoldable pub repeated : {A S : Type 0} → (S → Result (A × S) CodeFault) → ℕ → S → Result (List A × S) CodeFault
repeated one zero at = Ok ([], at)
repeated one (suc n) at = do
  first ← one at
  others ← repeated one n first.1
  Ok (first.0 ∷ others.0, others.1)

-- a count from low to high in two bytes, and then that number of fields
unfoldable pub list_at : {A : Type 0} → ℕ → ℕ → Field A → Field (List A)
list_at low high field bytes = do
  n ← count_at low high bytes
  repeated field n.0 n.1

-- a count up to high in one byte, and then that number of fields
unfoldable pub short_list_at : {A : Type 0} → ℕ → Field A → Field (List A)
short_list_at high field bytes = do
  n ← short_count_at 0 high bytes
  repeated field n.0 n.1

-- ---- texts

-- a text: its length, and that many bytes of UTF-8
unfoldable pub text_at : Field (List ℕ)
text_at bytes = do
  n ← number_at bytes
  if nat_lt (length n.1) n.0 then Err Short else
      (if is_utf8 (take n.0 n.1) then Ok (take n.0 n.1, drop n.0 n.1) else Err Operand)

-- ---- frames and loops

-- what follows the byte of a kind
unfoldable pub kind_after : KindForm → Field Kind
kind_after (forms.Plain kind) bytes = Ok (kind, bytes)
kind_after forms.Label bytes = do
  set ← number_at bytes
  Ok (kinds.Label set.0, set.1)
kind_after forms.Ref bytes = do
  class ← number_at bytes
  Ok (kinds.Ref class.0, class.1)
kind_after forms.Old bytes = do
  class ← number_at bytes
  Ok (kinds.Old class.0, class.1)
kind_after forms.Seq bytes = do
  class ← number_at bytes
  Ok (kinds.Seq class.0, class.1)

-- a kind: its byte, then what follows it
unfoldable pub kind_at : Field Kind
kind_at bytes = do
  tag ← byte_at bytes
  form ← ok_or (slice_get KINDS tag.0) Operand
  kind_after form tag.1

-- a declared frame of a code with `locals` locals: its place, a kind for each local, the kinds of the stack
unfoldable pub frame_at : ℕ → Field FrameEntry
frame_at locals bytes = do
  place ← number_at bytes
  kinds ← repeated kind_at locals place.1
  stack ← short_list_at STACK_LIMIT kind_at kinds.1
  Ok (record { place = place.0; frame = record { locals = kinds.0; stack = stack.0 } }, stack.1)

-- a loop: its head and its end
unfoldable pub loop_at : Field Loop
loop_at bytes = do
  head ← number_at bytes
  end ← number_at head.1
  Ok (record { head = head.0; end = end.0 }, end.1)
