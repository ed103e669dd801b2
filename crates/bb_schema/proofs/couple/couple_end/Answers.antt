use Rattle.std.proofs.Common.{◌≡◌, ◌<◌, ap, arith, rules, ℕ, List, length, get_or}
use Rattle.std.proofs.lemmas.Option.{get_or_from_slice_get}
use Rattle.bb_schema.specs.declared.slot.Slot.{Slot}
use Rattle.bb_schema.specs.Couples.{counts, couple_number}
use Rattle.bb_schema.proofs.CoupleLemmas.{couple_number_at, counts_long}
use Rattle.bb_schema.proofs.couple.couple_end.Goals as goal

couples_within : (slots : List Slot) (couples_before : List ℕ) (n : ℕ) → couples_before ≡ counts 0 0 slots → n < length slots → n < length couples_before
couples_within slots couples_before n counted lt = omega (arith, ap length counted, counts_long 0 0 slots)

read : (slots : List Slot) (couples_before : List ℕ) (n : ℕ) → couples_before ≡ counts 0 0 slots → n < length slots → get_or couples_before n 0 ≡ couple_number slots n
read slots couples_before n counted lt = rw counted (get_or_from_slice_get (counts 0 0 slots) n (couple_number slots n) 0 (couple_number_at slots n lt))

pub bounds-couples_before-slot : goal.bounds-couples_before-slot
bounds-couples_before-slot c = couples_within c.args.slots.now c.args.couples_before.now c.args.slot c.requires.counted c.requires.slot

pub bounds-couples_before-link : goal.bounds-couples_before-link
bounds-couples_before-link c = couples_within c.args.slots.now c.args.couples_before.now c.args.link.inverse c.requires.counted c.requires.inverse

pub returns-then-slot-link : goal.returns-then-slot-link
returns-then-slot-link c = rw (read c.args.slots.now c.args.couples_before.now c.args.slot c.requires.counted c.requires.slot) (search rules)

pub returns : goal.returns
returns c = rw (read c.args.slots.now c.args.couples_before.now c.args.link.inverse c.requires.counted c.requires.inverse) (search rules)
