use Rattle.std.proofs.Common.{◌∙◌, refl, sym, not, nat_eq, true, false, slice_index_or}
use Rattle.bb_lang_tree.proofs.ScanLemmas.{in_comment, at_blank, at_comment, at_token, begins_of, blank_next, blank_stop, blank_end}
use Rattle.bb_lang_tree.proofs.scan.blank_len.Goals as goal

pub loop-i-preserved-then-in_comment : goal.loop-i-preserved-then-in_comment
loop-i-preserved-then-in_comment c =
    blank_next c.args.bytes.now c.loop-i.i _ c.loop-i.in_comment (not (nat_eq (slice_index_or c.args.bytes.now c.loop-i.i 0) 10)) c.loop-i-test.true
    (in_comment c.loop-i.in_comment _ _ c.if-in_comment.true) c.loop-i.invariant

pub loop-i-preserved-then-is_blank : goal.loop-i-preserved-then-is_blank
loop-i-preserved-then-is_blank c =
    blank_next c.args.bytes.now c.loop-i.i _ c.loop-i.in_comment c.loop-i.in_comment c.loop-i-test.true
    (rw c.if-in_comment.false (at_blank false _ _ refl (sym c.is_blank.ensures ∙ c.if-is_blank.true))) c.loop-i.invariant

pub returns-then-not-begins_comment-clause-len : goal.returns-then-not-begins_comment-clause-len
returns-then-not-begins_comment-clause-len c =
    blank_stop c.args.bytes.now c.loop-i.i _ c.loop-i.in_comment c.loop-i-test.true
    (at_token c.loop-i.in_comment _ _ c.if-in_comment.false (sym c.is_blank.ensures ∙ c.if-is_blank.false)
    (begins_of c.args.bytes.now c.loop-i.i c.begins_comment.result false c.loop-i-test.true c.begins_comment.ensures c.if-not-begins_comment.true)) c.loop-i.invariant

pub loop-i-preserved : goal.loop-i-preserved
loop-i-preserved c =
    blank_next c.args.bytes.now c.loop-i.i _ c.loop-i.in_comment true c.loop-i-test.true
    (at_comment c.loop-i.in_comment _ _ c.if-in_comment.false (sym c.is_blank.ensures ∙ c.if-is_blank.false)
    (begins_of c.args.bytes.now c.loop-i.i c.begins_comment.result true c.loop-i-test.true c.begins_comment.ensures c.if-not-begins_comment.false)) c.loop-i.invariant

pub returns-clause-len : goal.returns-clause-len
returns-clause-len c = blank_end c.args.bytes.now c.loop-i.i _ c.loop-i.in_comment c.loop-i-test.false c.loop-i.auto.i-end c.loop-i.invariant
