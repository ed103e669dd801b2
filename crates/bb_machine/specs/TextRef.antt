-- The bytes of a text, stored in the code or shared.
use Rattle.std.specs.Prelude.{ℕ, List}
use Rattle.bb_machine.specs.declared.text_ref.Storage.{Storage}
use Rattle.bb_machine.specs.declared.text_ref.Storage.TheVariants.{Borrowed, Shared}

abbrev pub text_of : Storage → List ℕ
text_of (Borrowed text) = text.now
text_of (Shared text) = text
