use Rattle.std.proofs.Common.{◌≡◌, ◌∙◌, inr, sym}
use Rattle.bb_code.proofs.Fields.{text_refused, text_read}
use Rattle.bb_code.proofs.decode.fields.TextField.read.Goals as goal

pub returns-in_default : goal.returns-in_default
returns-in_default c = inr (text_refused c.args.bytes.now c.in_ok-len.len c.in_ok-len.rest.now c.split_at.result.0.now (sym c.in_ok-len.ensures) c.if-rest-len.false c.split_at.ensures.front c.in_default.ensures.cases.0)

pub returns : goal.returns
returns c =
    let read = text_read c.args.bytes.now c.in_ok-len.len c.in_ok-len.rest.now c.split_at.result.0.now (sym c.in_ok-len.ensures) c.if-rest-len.false c.split_at.ensures.front c.in-Ok.ensures.cases.1 in
    let same : c.in_ok-from_str.field-0 ≡ c.split_at.result.0.now = c.in_ok-from_str.ensures ∙ c.in-Ok.ensures.cases.0 in
    rw (same, c.split_at.ensures.back) read
