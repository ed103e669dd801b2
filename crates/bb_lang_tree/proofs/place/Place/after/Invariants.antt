use Rattle.std.proofs.Common.{◌≡◌, ◌+◌, ◌-◌, ◌≤◌, length, drop}
use Rattle.bb_lang_tree.specs.Places.{place_after}
use Rattle.bb_lang_tree.proofs.place.Place.after.Given as goal

abbrev pub invariant-loop-byte : goal.invariant-loop-byte
invariant-loop-byte l = record {
  line : l.place.line + (length l.bytes - l.byte-index) ≤ l.fn.self.line + length l.bytes;
  column : l.place.column + (length l.bytes - l.byte-index) ≤ l.fn.self.column + length l.bytes;
  same : place_after l.place (drop l.byte-index l.bytes) ≡ place_after l.fn.self l.bytes;
}
