use Rattle.std.proofs.Common.{◌≤◌, ◌∙◌, sym, subst}
use Rattle.bb_schema_classes.specs.declared.draft.TheConstants.{SLOT_LIMIT}
use Rattle.bb_schema.proofs.schema.Schema.slot_count.Goals as goal

pub returns-clause-few : goal.returns-clause-few
returns-clause-few c = subst (λ n. n ≤ SLOT_LIMIT) (sym (c.len.ensures ∙ c.self.inside.slots.ok.0)) c.self.invariant.fits.few_slots
