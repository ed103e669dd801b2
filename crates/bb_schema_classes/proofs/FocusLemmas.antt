-- The first class that a walk leaves is `focus`.
use Rattle.std.proofs.Common.{◌≡◌, ℕ, not, List, [], ◌∷◌, ◌++◌, length, map, Ok, Err, refl, ap, sym, subst, ◌∙◌, append_assoc}
use Rattle.std.specs.Prelude.{nat_le, if◌then◌else◌}
use Rattle.std.specs.Str.{bytes_eq}
use Rattle.std.specs.List.{list_any}
use Rattle.bb_basis.specs.Names.{is_name}
use Rattle.bb_basis.specs.Results.{ok_or, try_fold, try_fold_at}
use Rattle.bb_basis.proofs.ResultLemmas.{bind_ok, guard_ok, same_ok, try_fold_keeps}
use Rattle.bb_schema_form.specs.Document.{SlotDeclaration, LinkDeclaration, ClassDeclaration}
use Rattle.bb_schema_classes.specs.declared.read.classes.TheConstants.{CLASS_LIMIT}
use Rattle.bb_schema_classes.specs.declared.fault.SchemaFlaw.TheVariants as flaws
use Rattle.bb_schema_classes.specs.Faults.{here, inside}
use Rattle.bb_schema_form.specs.declared.place.ListKey.TheVariants as lists
use Rattle.bb_basis.proofs.PlacedLemmas.{bind_fold}
use Rattle.bb_schema_classes.specs.declared.label_set.LabelSet.{LabelSet}
use Rattle.bb_schema_classes.specs.declared.class.Class.{Class}
use Rattle.bb_schema_classes.specs.declared.draft.Draft.{Draft}
use Rattle.bb_schema_classes.specs.declared.draft.DraftContent.TheVariants as contents
use Rattle.bb_schema_classes.specs.Drafts.{ClassDraft, SchemaDraft, has_slot_named, draft_has_name, is_full, with_slot}
use Rattle.bb_schema_classes.specs.SlotReading.{default_value, slot_after}
use Rattle.bb_schema_classes.specs.LinkReading.{first_named, leads_back, drafted_link, link_after}
use Rattle.bb_schema_classes.specs.ClassReading.{focus, parent_number, inherited_slots, class_after}
use Rattle.bb_schema_classes.specs.Focus.{focus_class, focus_drafts}
use Rattle.bb_schema_classes.specs.Fits.{StartsWith}

starts_more : {X : Type 0} (xs front : List X) (x : X) → StartsWith xs front → StartsWith (xs ++ x ∷ []) front
starts_more xs front x starts = (starts.0 ++ x ∷ [], ap (λ ys. ys ++ x ∷ []) starts.1 ∙ append_assoc front starts.0 (x ∷ []))

slot_front : (sets : List LabelSet) (owner : ℕ) (g h : ClassDraft) (e : SlotDeclaration)
    → StartsWith g.slots focus_drafts → slot_after sets owner g e ≡ Ok h → StartsWith h.slots focus_drafts
unfolding slot_after
slot_front sets owner g h e starts made =
    let named = guard_ok (not (is_name e.name)) (here flaws.Name) _ h made in
    let fresh = guard_ok (has_slot_named g e.name) (here flaws.Twice) _ h named.1 in
    let value = bind_ok (default_value sets e.default) _ h fresh.1 in
    let room = guard_ok _ (here flaws.Limit) (Ok (with_slot g (record { name = e.name; owner = owner; content = contents.Default value.0 }))) h value.2 in
    subst (λ (d : ClassDraft). StartsWith d.slots focus_drafts) (same_ok _ h room.1) (starts_more g.slots focus_drafts (record { name = e.name; owner = owner; content = contents.Default value.0 }) starts)

link_front : (all : List ClassDeclaration) (class : List ℕ) (owner : ℕ) (g h : ClassDraft) (e : LinkDeclaration)
    → StartsWith g.slots focus_drafts → link_after all class owner g e ≡ Ok h → StartsWith h.slots focus_drafts
unfolding link_after
link_front all class owner g h e starts made =
    let draft : Draft = record { name = e.name; owner = owner; content = contents.Link (drafted_link e) } in
    let named = guard_ok (not (is_name e.name)) (here flaws.Name) _ h made in
    let fresh = guard_ok (has_slot_named g e.name) (here flaws.Twice) _ h named.1 in
    let target = bind_ok (ok_or (first_named (λ c. c.name) e.to all) (here flaws.Unknown)) (λ target. if not (leads_back target class e) then Err (here flaws.Inverse) else if is_full g then Err (here flaws.Limit) else Ok (with_slot g draft)) h fresh.1 in
    let back = guard_ok (not (leads_back target.0 class e)) (here flaws.Inverse) (if is_full g then Err (here flaws.Limit) else Ok (with_slot g draft)) h target.2 in
    let room = guard_ok (is_full g) (here flaws.Limit) (Ok (with_slot g draft)) h back.1 in
    subst (λ (d : ClassDraft). StartsWith d.slots focus_drafts) (same_ok _ h room.1) (starts_more g.slots focus_drafts draft starts)

-- the classes and the slots begin with those of `focus`
pub record HasFocus (s : SchemaDraft) : Type 0 where
  pub class : StartsWith s.classes (focus_class ∷ [])
  pub slots : StartsWith s.slots focus_drafts

class_front : (sets : List LabelSet) (all : List ClassDeclaration) (s t : SchemaDraft) (e : ClassDeclaration)
    → HasFocus s → class_after sets all s e ≡ Ok t → HasFocus t
unfolding class_after
class_front sets all s t e has made =
    let named = guard_ok (not (is_name e.name)) (here flaws.Name) _ t made in
    let fresh = guard_ok (list_any (bytes_eq e.name) (map (λ (k : Class). k.name) s.classes)) (here flaws.Twice) _ t named.1 in
    let parent = bind_ok (parent_number s.classes e.parent) _ t fresh.1 in
    let room = guard_ok (nat_le CLASS_LIMIT (length s.classes)) (here flaws.Limit) _ t parent.2 in
    let start : ClassDraft = record { slots = s.slots; class_slots = inherited_slots s.classes parent.0 } in
    let ordinary = bind_fold (inside lists.Slots) (slot_after sets (length s.classes)) 0 start e.slots _ t room.1 in
    let own = bind_fold (inside lists.Links) (link_after all e.name (length s.classes)) 0 ordinary.0 e.links _ t ordinary.2 in
    let P : ClassDraft → Type 0 = λ g. StartsWith g.slots focus_drafts in
    let one : P ordinary.0 = try_fold_keeps P (slot_after sets (length s.classes)) (λ g h d. slot_front sets (length s.classes) g h d) start ordinary.0 e.slots has.slots ordinary.1 in
    let two : P own.0 = try_fold_keeps P (link_after all e.name (length s.classes)) (λ g h d. link_front all e.name (length s.classes) g h d) ordinary.0 own.0 e.links one own.1 in
    let class : Class = record { name = e.name; parent = parent.0; slots = own.0.class_slots } in
    subst HasFocus (same_ok _ t own.2) (record { class = starts_more s.classes (focus_class ∷ []) class has.class; slots = two })

first_step : (sets : List LabelSet) (all : List ClassDeclaration)
    → class_after sets all (record { classes = []; slots = [] }) focus ≡ Ok (record { classes = focus_class ∷ []; slots = focus_drafts })
unfolding class_after slot_after link_after is_name try_fold_at draft_has_name
first_step sets all = refl

pub walk_focus : (sets : List LabelSet) (all entries : List ClassDeclaration) (t : SchemaDraft)
    → try_fold (class_after sets all) (record { classes = []; slots = [] }) (focus ∷ entries) ≡ Ok t → HasFocus t
unfolding try_fold
walk_focus sets all entries t made =
    let one = bind_ok (class_after sets all (record { classes = []; slots = [] }) focus) (λ next. try_fold (class_after sets all) next entries) t made in
    let start : SchemaDraft = record { classes = focus_class ∷ []; slots = focus_drafts } in
    let is : start ≡ one.0 = same_ok start one.0 (sym (first_step sets all) ∙ one.1) in
    try_fold_keeps HasFocus (class_after sets all) (λ s u e. class_front sets all s u e) one.0 t entries (subst HasFocus is (record { class = ([], refl); slots = ([], refl) })) one.2
