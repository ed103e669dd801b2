-- The label sets that a walk leaves are named, and their labels are.
use Rattle.std.proofs.Common.{◌≡◌, ℕ, not, List, [], ◌∷◌, ◌++◌, length, map, Ok, subst}
use Rattle.std.specs.Prelude.{nat_le}
use Rattle.std.specs.Str.{bytes_eq}
use Rattle.std.specs.List.{list_any}
use Rattle.std.proofs.lemmas.List.{length-map}
use Rattle.std.proofs.lemmas.List.Elements.{All-nil, All-push}
use Rattle.bb_basis.specs.Names.{is_name}
use Rattle.bb_basis.specs.Results.{try_fold}
use Rattle.bb_basis.proofs.ListLemmas.{map-last}
use Rattle.bb_basis.proofs.ResultLemmas.{guard_ok, same_ok, try_fold_keeps}
use Rattle.bb_schema_form.specs.Document.{LabelSetDeclaration}
use Rattle.bb_schema_classes.specs.declared.read.labels.TheConstants.{LABEL_SET_LIMIT}
use Rattle.bb_schema_classes.specs.declared.label_set.TheConstants.{LABEL_LIMIT}
use Rattle.bb_schema_classes.specs.declared.fault.SchemaFlaw.TheVariants as flaws
use Rattle.bb_schema_classes.specs.Faults.{here, inside}
use Rattle.bb_schema_form.specs.declared.place.ListKey.TheVariants as lists
use Rattle.bb_basis.proofs.PlacedLemmas.{bind_fold}
use Rattle.bb_schema_classes.specs.declared.label_set.LabelSet.{LabelSet}
use Rattle.bb_schema_classes.specs.LabelReading.{label_after, label_set_after}
use Rattle.bb_schema_classes.specs.Naming.{AreNames}
use Rattle.bb_schema_classes.specs.Fits.{AreLabelSets}
use Rattle.bb_schema_classes.proofs.NamingLemmas.{no_names, one_more_name}

label_keeps : (labels more : List (List ℕ)) (name : List ℕ) → AreNames LABEL_LIMIT labels
    → label_after labels name ≡ Ok more → AreNames LABEL_LIMIT more
unfolding label_after
label_keeps labels more name are made =
    let named = guard_ok (not (is_name name)) (here flaws.Name) _ more made in
    let fresh = guard_ok (list_any (bytes_eq name) labels) (here flaws.Twice) _ more named.1 in
    let room = guard_ok (nat_le LABEL_LIMIT (length labels)) (here flaws.Limit) _ more fresh.1 in
    subst (AreNames LABEL_LIMIT) (same_ok (labels ++ name ∷ []) more room.1) (one_more_name LABEL_LIMIT labels name are named.0 fresh.0 room.0)

set_keeps : (sets more : List LabelSet) (e : LabelSetDeclaration) → AreLabelSets sets
    → label_set_after sets e ≡ Ok more → AreLabelSets more
unfolding label_set_after
set_keeps sets more e are made =
    let named = guard_ok (not (is_name e.name)) (here flaws.Name) _ more made in
    let fresh = guard_ok (list_any (bytes_eq e.name) (map (λ (l : LabelSet). l.name) sets)) (here flaws.Twice) _ more named.1 in
    let room = guard_ok (nat_le LABEL_SET_LIMIT (length sets)) (here flaws.Limit) _ more fresh.1 in
    let values = bind_fold (inside lists.Values) label_after 0 [] e.values _ more room.1 in
    let set : LabelSet = record { name = e.name; values = values.0 } in
    subst AreLabelSets (same_ok (sets ++ set ∷ []) more values.2) (record {
      named = rw (map-last (λ (l : LabelSet). l.name) sets set) (one_more_name LABEL_SET_LIMIT (map (λ (l : LabelSet). l.name) sets) e.name are.named named.0 fresh.0 (rw (length-map sets (λ (l : LabelSet). l.name)) room.0));
      labels = All-push (λ l. AreNames LABEL_LIMIT l.values) sets set are.labels (try_fold_keeps (AreNames LABEL_LIMIT) label_after (λ a b n. label_keeps a b n) [] values.0 e.values (no_names LABEL_LIMIT) values.1);
    })

pub label_sets_fit : (entries : List LabelSetDeclaration) (sets : List LabelSet)
    → try_fold label_set_after [] entries ≡ Ok sets → AreLabelSets sets
label_sets_fit entries sets made = try_fold_keeps AreLabelSets label_set_after (λ a b e. set_keeps a b e) [] sets entries (record { named = no_names LABEL_SET_LIMIT; labels = All-nil (λ l. AreNames LABEL_LIMIT l.values) }) made
