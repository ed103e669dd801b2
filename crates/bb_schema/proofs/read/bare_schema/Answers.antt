use Rattle.std.proofs.Common.{◌≡◌, ◌≤◌, ◌∙◌, ◌⊎◌, inl, inr, Result, Ok, Err, List, [], length, ap, sym, subst}
use Rattle.std.proofs.lemmas.Result.{err_from_is_err_and}
use Rattle.bb_schema_classes.specs.declared.class.Class.{Class}
use Rattle.bb_schema_classes.specs.declared.fault.SchemaFault.TheVariants.{Memory}
use Rattle.bb_schema_classes.specs.declared.read.classes.TheConstants.{CLASS_LIMIT}
use Rattle.bb_schema_classes.specs.Inheritance.{ParentsAreEarlier}
use Rattle.bb_schema.specs.declared.slot.Slot.{Slot}
use Rattle.bb_schema.specs.Couples.{firsts, counts}
use Rattle.bb_schema.specs.proving.Struck.{struck_table}
use Rattle.bb_schema.specs.proving.WellFormed.{IsStruck}
use Rattle.bb_schema.proofs.OwnershipLemmas.{table_struck}
use Rattle.bb_schema.proofs.LinkLemmas.{links_are_there}
use Rattle.bb_schema.proofs.SchemaFitLemmas.{bare_fits, few_resolved}
use Rattle.bb_schema.proofs.ReadingLemmas.{nothing_read}
use Rattle.bb_schema.proofs.read.bare_schema.Goals as goal

pub count_couples-requires : goal.count_couples-requires
count_couples-requires c = rw c.deref.ensures.value (few_resolved c.args.walked.draft c.in_ok-slots.slots.items c.requires.few_slots (rw c.as_slice.ensures at c.in_ok-slots.ensures))

pub invariant_of-result : goal.invariant_of-result
invariant_of-result c =
    let fits = bare_fits c.args.walked c.in_ok-slots.slots.items c.requires (rw c.as_slice.ensures at c.in_ok-slots.ensures) in
    let made = c.in_ok-struck.ensures ∙ (ap (λ (ks : List Class). struck_table ks c.deref-2.result.now) (c.new.ensures ∙ c.as_slice-3.ensures) ∙ ap (λ (ts : List Slot). struck_table c.args.walked.draft.classes ts) c.deref-2.ensures.value) in
    rw (c.new-2.ensures, c.new-3.ensures, c.new-4.ensures, c.new-5.ensures) (record {
      fits = fits;
      counted = c.in_ok-couples_before.ensures.before ∙ ap (counts 0 0) c.deref.ensures.value;
      all = c.in_ok-couples_before.ensures.all ∙ ap (λ (ts : List Slot). length (firsts 0 ts)) c.deref.ensures.value;
      told = rw c.as_slice-2.ensures at c.in_ok-spans.ensures;
      struck = subst (IsStruck _) (sym made) (table_struck _ fits);
      readings = nothing_read (record { label_sets = c.args.walked.label_sets; classes = c.args.walked.draft.classes; slots = c.in_ok-slots.slots.items; spaces = [] });
    })

pub spans_of-requires : goal.spans_of-requires
spans_of-requires c = record {
  few = subst (λ (ks : List Class). length ks ≤ CLASS_LIMIT) (sym c.as_slice-2.ensures) c.requires.few_classes;
  parents = subst ParentsAreEarlier (sym c.as_slice-2.ensures) c.requires.parents;
}

never : {X E : Type 0} (memory e : E) (r : Result X E) (made : X) → r ≡ Ok made → (e ≡ memory) ⊎ (r ≡ Err e) → e ≡ memory
never memory e r made is (inl m) = m
never memory e r made is (inr failed) = absurd (let h = sym is ∙ failed in cc)

pub returns-in_err-slots-clause-only : goal.returns-in_err-slots-clause-only
returns-in_err-slots-clause-only c =
    let links = links_are_there c.args.walked.draft c.requires.paired in
    let p = err_from_is_err_and c.from_residual.result c.from_residual.ensures.1 in
    rw (p.1, p.2) (never Memory c.in_err-slots.field-0.0 _ links.0 links.1 (rw c.as_slice.ensures at c.in_err-slots.ensures))
