use Rattle.std.proofs.Common.{◌≡◌, ◌++◌, false, drop}
use Rattle.bb_lang_tree.specs.Literals.{text_bytes}
use Rattle.bb_lang_tree.proofs.literals.text_bytes.Given as goal

abbrev pub invariant-loop-byte : goal.invariant-loop-byte
invariant-loop-byte l = l.text.items ++ text_bytes l.escaped (drop l.byte-index l.bytes) ≡ text_bytes false l.bytes
