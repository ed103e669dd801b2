use Rattle.std.proofs.Common.{◌≡◌, Ok, sym, subst, ◌∙◌, arith}
use Rattle.bb_code.specs.Code.{IsCode}
use Rattle.bb_verify.specs.Accepted.{Checked, checked}
use Rattle.bb_verify.specs.Facts.{Facts}
use Rattle.bb_verify.proofs.BudgetLemmas.{depths_long}
use Rattle.bb_verify.proofs.CheckedLemmas.{checked_by}
use Rattle.bb_verify.proofs.FactLemmas.{facts_by}
use Rattle.bb_verify.proofs.TableLemmas.{tables_fit}
use Rattle.bb_verify.proofs.WalkLemmas.{frames_long}
use Rattle.bb_verify.proofs.verifier.verify.Goals as goal

pub frames_of-requires : goal.frames_of-requires
frames_of-requires c = tables_fit c.args.schema.now c.args.part c.args.code c.in_ok-check_tables.field-0 c.in_ok-check_tables.ensures

pub counts_of-places_in-requires : goal.counts_of-places_in-requires
counts_of-places_in-requires c =
    let code : IsCode c.args.code = subst IsCode c.code.view_is c.code.invariant in
    omega (arith, code.ops.few, depths_long c.args.code c.as_slice.result.now (c.as_slice.ensures ∙ c.in_ok-depths.ensures.depths))

pub new-requires-clause-frames : goal.new-requires-clause-frames
new-requires-clause-frames c = frames_long c.args.schema.now c.args.part c.args.code c.in_ok-frames.frames c.in_ok-frames.ensures

pub new-requires-clause-sound : goal.new-requires-clause-sound
new-requires-clause-sound c = record {
  code = subst IsCode c.code.view_is c.code.invariant;
  schema = c.args.schema.now;
  accepted = checked_by c.args.schema.now c.args.part c.args.code c.in_ok-frames.frames (sym c.in_ok-check_tables.ensures) (sym c.in_ok-check_jumps.ensures) c.in_ok-depths.ensures.fault c.in_ok-frames.ensures;
}

pub returns-clause-accepted : goal.returns-clause-accepted
returns-clause-accepted c =
    subst (λ (x : Checked). checked c.args.schema.now x.part x.code ≡ Ok x) (sym c.new.ensures)
    (checked_by c.args.schema.now c.args.part c.args.code c.in_ok-frames.frames (sym c.in_ok-check_tables.ensures) (sym c.in_ok-check_jumps.ensures) c.in_ok-depths.ensures.fault c.in_ok-frames.ensures)

pub returns-clause-facts : goal.returns-clause-facts
returns-clause-facts c =
    let code : IsCode c.args.code = subst IsCode c.code.view_is c.code.invariant in
    let facts = facts_by c.args.schema.now c.args.part c.args.code c.in_ok-frames.frames code.ops.some (sym c.in_ok-check_tables.ensures) (sym c.in_ok-check_jumps.ensures) c.in_ok-depths.ensures.fault
    c.in_ok-frames.ensures in
    subst (λ (x : Checked). Facts c.args.schema.now x.part x.code x.frames) (sym c.new.ensures) facts
