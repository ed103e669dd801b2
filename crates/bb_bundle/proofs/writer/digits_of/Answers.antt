use Rattle.std.proofs.Common.{◌≡◌, subst, ◌∙◌, Result, Ok, Err}
use Rattle.std.specs.Prelude.{OnOk}
use Rattle.std.proofs.lemmas.Result.{IfOk-at_ok}
use Rattle.hex.specs.Hex.{IsBytes}
use Rattle.bb_code.specs.Spelling.{spelling}
use Rattle.bb_bundle.proofs.CodeLemmas.{digits_spell}
use Rattle.bb_bundle.proofs.writer.digits_of.Goals as goal

-- what always holds, holds at Ok
at_any : {X E P : Type 0} (r : Result X E) → P → OnOk r P
at_any (Ok x) p = p
at_any (Err e) p = tt

pub returns-clause-again : goal.returns-clause-again
returns-clause-again c =
    let spelled : c.in_ok-bytes.bytes.items ≡ spelling c.args.code.now = IfOk-at_ok _ c.in_ok-bytes.was c.encode.ensures in
    let bytes : IsBytes (spelling c.args.code.now) = subst IsBytes (c.as_slice.ensures.value ∙ spelled) c.hex_of.ensures.bytes in
    at_any c.hex_of.result (digits_spell c.args.code.now c.ops-ops.ensures.fits bytes)
