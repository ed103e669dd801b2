-- The bytes of a name are ASCII, and so a text.
use Rattle.std.proofs.Common.{◌≡◌, ℕ, ◌<◌, true, List, [], ◌∷◌, length, arith}
use Rattle.std.specs.Prelude.{◌&&◌, nat_le, All}
use Rattle.std.specs.List.{list_all}
use Rattle.std.specs.Str.{IsUtf8}
use Rattle.std.proofs.lemmas.Bool.{and_parts}
use Rattle.std.proofs.lemmas.Bool.Decides.{nat_tests}
use Rattle.std.proofs.lemmas.List.Elements.{All-nil, All-cons}
use Rattle.std.proofs.lemmas.Str.{IsUtf8-from_ascii}
use Rattle.std.proofs.lemmas.Str.Ascii.{IsAscii-from_all}
use Rattle.bb_basis.specs.Names.{is_name, is_name_byte, starts_with_letter}

byte_ascii : (b : ℕ) → is_name_byte b ≡ true → b < 128
byte_ascii b h = grind (arith, nat_tests)

all_ascii : (bs : List ℕ) → list_all is_name_byte bs ≡ true → All (λ b. b < 128) bs
all_ascii [] h = All-nil (λ b. b < 128)
all_ascii (b ∷ bs) h =
    let parts = and_parts (is_name_byte b) (list_all is_name_byte bs) h in
    All-cons (λ b. b < 128) b bs (byte_ascii b parts.0) (all_ascii bs parts.1)

pub name_utf8 : (bs : List ℕ) → is_name bs ≡ true → IsUtf8 bs
unfolding is_name
name_utf8 bs h =
    let parts = and_parts (starts_with_letter bs && list_all is_name_byte bs) (nat_le (length bs) 31) h in
    let bytes = (and_parts (starts_with_letter bs) (list_all is_name_byte bs) parts.0).1 in
    IsUtf8-from_ascii bs (IsAscii-from_all bs (all_ascii bs bytes))
