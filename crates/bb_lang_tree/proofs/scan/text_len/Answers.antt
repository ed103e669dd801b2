use Rattle.std.proofs.Common.{◌∙◌, sym, nat_eq, false, None, Some, slice_index_or, rules, tests}
use Rattle.bb_lang_tree.proofs.ScanLemmas.{at_escape, at_other_escape, at_quote, at_control, at_character, text_here, text_next, text_end}
use Rattle.bb_lang_tree.proofs.scan.text_len.Goals as goal

pub returns-then-not-is_escape-clause-len : goal.returns-then-not-is_escape-clause-len
returns-then-not-is_escape-clause-len c =
    text_here c.args.bytes.now c.loop-i.i _ c.loop-i.escaped None c.loop-i-test.true
    (at_other_escape c.loop-i.escaped _ _ c.if-escaped.true (sym c.is_escape.ensures ∙ c.if-not-is_escape.true)) c.loop-i.invariant

pub loop-i-preserved-then-escaped : goal.loop-i-preserved-then-escaped
loop-i-preserved-then-escaped c =
    text_next c.args.bytes.now c.loop-i.i _ c.loop-i.escaped false c.loop-i-test.true
    (at_escape c.loop-i.escaped _ _ c.if-escaped.true (sym c.is_escape.ensures ∙ c.if-not-is_escape.false)) c.loop-i.invariant

pub returns-then-byte-eq34-clause-len : goal.returns-then-byte-eq34-clause-len
returns-then-byte-eq34-clause-len c =
    text_here c.args.bytes.now c.loop-i.i _ c.loop-i.escaped (Some 1) c.loop-i-test.true
    (at_quote c.loop-i.escaped _ _ c.if-escaped.false (search (rules, tests))) c.loop-i.invariant

pub returns-then-byte-lt32-clause-len : goal.returns-then-byte-lt32-clause-len
returns-then-byte-lt32-clause-len c =
    text_here c.args.bytes.now c.loop-i.i _ c.loop-i.escaped None c.loop-i-test.true
    (at_control c.loop-i.escaped _ _ c.if-escaped.false (search (rules, tests)) (search (rules, tests))) c.loop-i.invariant

pub loop-i-preserved : goal.loop-i-preserved
loop-i-preserved c =
    text_next c.args.bytes.now c.loop-i.i _ c.loop-i.escaped (nat_eq (slice_index_or c.args.bytes.now c.loop-i.i 0) 92) c.loop-i-test.true
    (at_character c.loop-i.escaped _ _ c.if-escaped.false (search (rules, tests)) (search (rules, tests))) c.loop-i.invariant

pub returns-clause-len : goal.returns-clause-len
returns-clause-len c = text_end c.args.bytes.now c.loop-i.i _ c.loop-i.escaped c.loop-i-test.false c.loop-i.invariant
