use Rattle.std.proofs.Common.{◌≡◌, ◌+◌, false, drop}
use Rattle.bb_lang_tree.specs.Tokens.{blank_len}
use Rattle.bb_lang_tree.proofs.scan.blank_len.Given as goal

-- what is counted and what is still to be counted
abbrev pub invariant-loop-i : goal.invariant-loop-i
invariant-loop-i l = l.i + blank_len l.in_comment (drop l.i l.bytes) ≡ blank_len false l.bytes
