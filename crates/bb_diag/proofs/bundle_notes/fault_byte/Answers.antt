use Rattle.std.proofs.Common.{◌≡◌, ◌≤◌, ◌∙◌, ap, false, length, sym, arith}
use Rattle.std.proofs.Math.Seq.{take-length}
use Rattle.bb_diag.specs.Early.{is_early}
use Rattle.bb_diag.proofs.EarlyLemmas.{late_is_some, nothing_is_early}
use Rattle.bb_diag.proofs.bundle_notes.fault_byte.Goals as goal

pub loop-high-init : goal.loop-high-init
loop-high-init c =
    let bytes = c.args.bytes.now in
    let late : is_early bytes ≡ false = sym c.in_ok-is_early.ensures ∙ c.if-branch.false in
    let within : length bytes ≤ length bytes = grind (arith) in
    record {
      apart = late_is_some bytes late;
      within = within;
      early = nothing_is_early;
      late = ap is_early (take-length bytes) ∙ late;
    }
