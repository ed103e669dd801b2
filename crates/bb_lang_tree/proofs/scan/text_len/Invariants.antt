use Rattle.std.proofs.Common.{◌≡◌, ◌+◌, false, drop}
use Rattle.std.specs.Prelude.{option_map}
use Rattle.bb_lang_tree.specs.Tokens.{text_len}
use Rattle.bb_lang_tree.proofs.scan.text_len.Given as goal

-- what is counted and what is still to be counted
abbrev pub invariant-loop-i : goal.invariant-loop-i
invariant-loop-i l = option_map (λ n. l.i + n) (text_len l.escaped (drop l.i l.bytes)) ≡ text_len false l.bytes
