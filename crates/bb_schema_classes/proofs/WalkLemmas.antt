-- What each walk without a fault leaves, all laws of it together.
use Rattle.std.proofs.Common.{◌≡◌, List, ◌∷◌, [], Ok}
use Rattle.std.specs.Prelude.{All}
use Rattle.bb_basis.specs.Results.{try_fold_at}
use Rattle.bb_basis.proofs.PlacedLemmas.{fold_at_ok}
use Rattle.bb_schema_form.specs.declared.place.ListKey.TheVariants as lists
use Rattle.bb_schema_form.specs.Document.{LabelSetDeclaration, ClassDeclaration}
use Rattle.bb_schema_form.specs.Defaults.{HasSoundDefaults}
use Rattle.bb_schema_classes.specs.declared.label_set.LabelSet.{LabelSet}
use Rattle.bb_schema_classes.specs.LabelReading.{label_set_after}
use Rattle.bb_schema_classes.specs.Drafts.{SchemaDraft}
use Rattle.bb_schema_classes.specs.ClassReading.{focus, class_after, draft_of}
use Rattle.bb_schema_classes.specs.Faults.{inside, inside_class}
use Rattle.bb_schema_classes.specs.Fits.{IsWalked}
use Rattle.bb_schema_classes.proofs.SetLemmas.{label_sets_fit}
use Rattle.bb_schema_classes.proofs.FitLemmas.{classes_fit, focus_sound}
use Rattle.bb_schema_classes.proofs.FocusLemmas.{walk_focus}
use Rattle.bb_schema_classes.proofs.OwnerLemmas.{classes_own}
use Rattle.bb_schema_classes.proofs.SlotNameLemmas.{classes_named}
use Rattle.bb_schema_classes.proofs.CouplingLemmas.{walk_pairs}

pub walk_fits : (entries : List LabelSetDeclaration) (classes : List ClassDeclaration) (sets : List LabelSet)
    (s : SchemaDraft) → All HasSoundDefaults classes → try_fold_at (inside lists.Labels) label_set_after 0 [] entries ≡ Ok sets
    → draft_of sets (focus ∷ classes) (focus ∷ classes) ≡ Ok s → IsWalked (record { label_sets = sets; draft = s })
walk_fits entries classes sets s sound told placed =
    let all = focus ∷ classes in
    let named = fold_at_ok (inside lists.Labels) label_set_after 0 [] sets entries told in
    let made = fold_at_ok inside_class (class_after sets all) 0 (record { classes = []; slots = [] }) s all placed in
    let fit = classes_fit sets all all s (focus_sound classes sound) made in
    let front = walk_focus sets all classes s made in
    record {
      label_sets = label_sets_fit entries sets named;
      focus = front.class;
      focus_slots = front.slots;
      few_classes = fit.few_classes;
      few_slots = fit.few_slots;
      class_names = fit.class_names;
      parents = fit.parents;
      heirs = fit.heirs;
      classes = fit.classes;
      owned = classes_own sets all all s (focus_sound classes sound) made;
      slot_names = classes_named sets all all s made;
      slots = fit.slots;
      paired = walk_pairs sets all s made;
    }
