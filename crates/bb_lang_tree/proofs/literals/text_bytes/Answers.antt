use Rattle.std.proofs.Common.{rules, tests, ◌+◌, drop, slice_index_or, false}
use Rattle.bb_lang_tree.specs.Literals.{text_bytes}
use Rattle.bb_lang_tree.proofs.LiteralLemmas.{at_escape, at_quote, at_backslash, at_plain, bytes_here, bytes_more, bytes_stop, bytes_end}
use Rattle.bb_lang_tree.proofs.literals.text_bytes.Goals as goal

pub loop-byte-preserved-then-escaped : goal.loop-byte-preserved-then-escaped
loop-byte-preserved-then-escaped c =
    bytes_more c.args.bytes.now c.loop-byte.byte-index c.loop-byte.text.items _ c.loop-byte.escaped c.push.new.self.items _ _
    (search rules) c.loop-byte-test.true (at_escape c.loop-byte.escaped _ _ c.if-escaped.true) c.loop-byte.invariant

pub returns-then-byte-eq34 : goal.returns-then-byte-eq34
returns-then-byte-eq34 c =
    bytes_stop c.args.bytes.now c.loop-byte.byte-index c.loop-byte.text.items _ c.loop-byte.escaped c.loop-byte-test.true
    (at_quote c.loop-byte.escaped _ _ c.if-escaped.false (search (rules, tests))) c.loop-byte.invariant

pub loop-byte-preserved-then-byte-eq92 : goal.loop-byte-preserved-then-byte-eq92
loop-byte-preserved-then-byte-eq92 c =
    bytes_here c.args.bytes.now c.loop-byte.byte-index c.loop-byte.text.items _ c.loop-byte.escaped _ c.loop-byte-test.true
    (at_backslash c.loop-byte.escaped _ _ c.if-escaped.false (search (rules, tests)) (search (rules, tests))) c.loop-byte.invariant

pub loop-byte-preserved : goal.loop-byte-preserved
loop-byte-preserved c =
    rw c.if-escaped.false (bytes_more c.args.bytes.now c.loop-byte.byte-index c.loop-byte.text.items (text_bytes false c.args.bytes.now) c.loop-byte.escaped c.push-in-loop-byte.new.self.items (slice_index_or c.args.bytes.now c.loop-byte.byte-index 0) (text_bytes false (drop (c.loop-byte.byte-index + 1) c.args.bytes.now))
    (search rules) c.loop-byte-test.true (at_plain c.loop-byte.escaped _ _ c.if-escaped.false (search (rules, tests)) (search (rules, tests))) c.loop-byte.invariant)

pub returns : goal.returns
returns c = bytes_end c.args.bytes.now c.loop-byte.byte-index c.loop-byte.text.items _ c.loop-byte.escaped c.loop-byte-test.false c.loop-byte.invariant
