-- A schema made of classes that fit, with coupled links and with its spaces, fits.
use Rattle.std.proofs.Common.{◌≡◌, ℕ, ◌<◌, ◌≤◌, Bool, true, false, not, List, [], ◌∷◌, ◌++◌, length, map, Option, Some, None, Ok, Err, refl, sym, subst, ◌∙◌, arith}
use Rattle.std.specs.Prelude.{◌==◌, All, IfSome, nat_le, nat_eq, if◌then◌else◌}
use Rattle.std.specs.Str.{bytes_eq}
use Rattle.std.specs.List.{list_any, list_all, IsDistinct}
use Rattle.std.proofs.lemmas.List.{length-map}
use Rattle.std.proofs.lemmas.List.Elements.{All-nil, All-push, All-weaker}
use Rattle.std.proofs.lemmas.Bool.{eqb-true, eqb-false, or_parts}
use Rattle.std.proofs.lemmas.Cmp.{nat_eq_equiv}
use Rattle.std.proofs.lemmas.Map.Keys.{IsDistinct-push}
use Rattle.bb_basis.proofs.ListLemmas.{map-last, list_all_same}
use Rattle.bb_schema_classes.specs.declared.draft.TheConstants.{SLOT_LIMIT}
use Rattle.bb_schema.specs.declared.read.spaces.TheConstants.{DIM_LIMIT, SPACE_LIMIT}
use Rattle.bb_schema_classes.specs.Naming.{AreNames}
use Rattle.bb_schema_classes.proofs.Laws.{not_false, distinct_nil, no_names, one_more_name}
use Rattle.bb_basis.specs.Results.{ok_or, try_map, try_fold_at}
use Rattle.bb_basis.proofs.PlacedLemmas.{bind_fold, fold_at_ok}
use Rattle.bb_schema_form.specs.Document.{SpaceDeclaration, DimDeclaration}
use Rattle.bb_schema_classes.specs.declared.fault.SchemaFlaw.TheVariants as flaws
use Rattle.bb_schema_classes.specs.Faults.{here, inside}
use Rattle.bb_schema_form.specs.declared.place.ListKey.TheVariants as lists
use Rattle.bb_schema_classes.specs.declared.label_set.LabelSet.{LabelSet}
use Rattle.bb_schema_classes.specs.declared.class.Class.{Class}
use Rattle.bb_schema_classes.specs.declared.value.Value.{Value}
use Rattle.bb_schema.specs.declared.slot.Slot.{Slot}
use Rattle.bb_schema.specs.declared.slot.Content.{Content}
use Rattle.bb_schema.specs.declared.slot.Content.TheVariants as contents
use Rattle.bb_schema_classes.specs.declared.draft.Draft.{Draft}
use Rattle.bb_schema_classes.specs.declared.draft.DraftContent.{DraftContent}
use Rattle.bb_schema_classes.specs.declared.draft.DraftContent.TheVariants as drafts
use Rattle.bb_schema.specs.declared.space.Space.{Space}
use Rattle.bb_schema.specs.declared.space.Dim.{Dim}
use Rattle.bb_basis.specs.Names.{is_name}
use Rattle.bb_schema.specs.Schema.{Schema, class_named, label_set_named}
use Rattle.bb_schema.specs.Slots.{default_in}
use Rattle.bb_schema_classes.specs.declared.draft.SchemaDraft.{SchemaDraft}
use Rattle.bb_schema_classes.specs.Resolution.{resolved_link}
use Rattle.bb_schema.specs.Resolution.{resolved_content, resolved_slot}
use Rattle.bb_schema_classes.specs.Inheritance.{is_among}
use Rattle.bb_schema.specs.SpaceReading.{space_class_after, has_slot_for, set_number, dim_after, space_after}
use Rattle.bb_schema.specs.Fits.{IsSlot, IsSpace, AreSpaces, Fits}
use Rattle.bb_schema_classes.specs.declared.read.Walked.{Walked}
use Rattle.bb_schema_classes.specs.Fits.{IsHeld, draft_default, IsDraft, IsWalked}
use Rattle.bb_schema.proofs.SlotLemmas.{slots_focus, slots_owned, slots_named_apart}
use Rattle.bb_schema.proofs.LinkLemmas.{links_couple}
use Rattle.bb_basis.proofs.ResultLemmas.{bind_ok, guard_ok, ok_or_ok, same_ok, try_fold_keeps, length-try_map, All-try_map}
use Rattle.bb_basis.proofs.PositionLemmas.{position_within}

-- ---- links with numbers

content_kept : (P : Value → Type 0) (classes : List Class) (slots : List Draft) (d : DraftContent) (content : Content)
    → IfSome (draft_default d) P → resolved_content classes slots d ≡ Ok content → IfSome (default_in content) P
content_kept P classes slots (drafts.Default v) content p h = subst (λ (c : Content). IfSome (default_in c) P) (same_ok (contents.Default v) content h) p
content_kept P classes slots (drafts.Link named) content p h =
    let link = bind_ok (resolved_link classes slots named) (λ l. Ok (contents.Link l)) content h in
    subst (λ (c : Content). IfSome (default_in c) P) (same_ok (contents.Link link.0) content link.2) tt

slot_kept : (sets : List LabelSet) (count : ℕ) (classes : List Class) (slots : List Draft) (d : Draft) (t : Slot)
    → IsDraft sets count d → resolved_slot classes slots d ≡ Ok t → IsSlot sets count t
unfolding resolved_slot
slot_kept sets count classes slots d t fit made =
    let content = bind_ok (resolved_content classes slots d.content) (λ content. Ok (record { name = d.name; owner = d.owner; content = content })) t made in
    subst (IsSlot sets count) (same_ok (record { name = d.name; owner = d.owner; content = content.0 }) t content.2)
    (record { name = fit.name; owner = fit.owner; default = content_kept (IsHeld sets) classes slots d.content content.0 fit.default content.1 })

no_spaces : (s : Schema) → AreSpaces s []
no_spaces s = record { named = no_names SPACE_LIMIT; each = All-nil (IsSpace s) }

-- the schema without spaces
pub bare_fits : (w : Walked) (slots : List Slot) → IsWalked w
    → try_map (resolved_slot w.draft.classes w.draft.slots) w.draft.slots ≡ Ok slots
    → Fits (record { label_sets = w.label_sets; classes = w.draft.classes; slots = slots; spaces = [] })
bare_fits w slots fit made =
    let resolved = resolved_slot w.draft.classes w.draft.slots in
    let count = length w.draft.classes in
    let long : length slots ≡ length w.draft.slots = length-try_map resolved w.draft.slots slots made in
    record {
      label_sets = fit.label_sets;
      focus = fit.focus;
      focus_slots = slots_focus w.draft.classes w.draft.slots slots fit.focus_slots made;
      few_classes = fit.few_classes;
      few_slots = rw long fit.few_slots;
      class_names = fit.class_names;
      parents = fit.parents;
      heirs = fit.heirs;
      classes = rw long fit.classes;
      owned = slots_owned w.draft.classes w.draft.slots slots fit.owned made;
      slot_names = slots_named_apart w.draft.classes w.draft.slots slots fit.slot_names made;
      slots = All-try_map (IsDraft w.label_sets count) (IsSlot w.label_sets count) resolved (λ d t h. slot_kept w.label_sets count w.draft.classes w.draft.slots d t h) w.draft.slots slots fit.slots made;
      coupled = links_couple w.draft slots fit.paired made;
      spaces = no_spaces (record { label_sets = w.label_sets; classes = w.draft.classes; slots = slots; spaces = [] });
    }

pub few_resolved : (s : SchemaDraft) (slots : List Slot) → length s.slots ≤ SLOT_LIMIT
    → try_map (resolved_slot s.classes s.slots) s.slots ≡ Ok slots → length slots ≤ SLOT_LIMIT
few_resolved s slots few made = rw (length-try_map (resolved_slot s.classes s.slots) s.slots slots made) few

-- ---- spaces

-- the classes that a space lists so far
record AreListed (s : Schema) (listed : List ℕ) : Type 0 where
  within : All (λ c. c < length s.classes) listed
  distinct : IsDistinct nat_eq listed

apart : (c d : ℕ) (b : Bool) → nat_eq c d ≡ b → (d == c) ≡ false → b ≡ false
apart c d true h other = absurd (eqb-false d c other (sym (eqb-true c d h)))
apart c d false h other = refl

flipped : (c : ℕ) (listed : List ℕ) → is_among listed c ≡ false → list_any (nat_eq c) listed ≡ false
unfolding is_among
flipped c [] h = refl
flipped c (d ∷ ds) h =
    let parts = or_parts (d == c) (list_any (λ d. d == c) ds) h in
    rw (apart c d (nat_eq c d) refl parts.0) (flipped c ds parts.1)

listed_keeps : (s : Schema) (listed more : List ℕ) (name : List ℕ) → AreListed s listed
    → space_class_after s listed name ≡ Ok more → AreListed s more
unfolding space_class_after
listed_keeps s listed more name all made =
    let class = bind_ok (ok_or (class_named s name) (here flaws.Unknown)) (λ c. if is_among listed c then Err (here flaws.Twice) else Ok (listed ++ c ∷ [])) more made in
    let fresh = guard_ok (is_among listed class.0) (here flaws.Twice) (Ok (listed ++ class.0 ∷ [])) more class.2 in
    let within = position_within (bytes_eq name) (map (λ (k : Class). k.name) s.classes) class.0 (ok_or_ok (here flaws.Unknown) (class_named s name) class.0 class.1) in
    subst (AreListed s) (same_ok (listed ++ class.0 ∷ []) more fresh.1) (record {
      within = All-push (λ c. c < length s.classes) listed class.0 all.within (let lt : class.0 < length s.classes = omega (arith, within, length-map s.classes (λ (k : Class). k.name)) in lt);
      distinct = IsDistinct-push nat_eq_equiv listed class.0 all.distinct (flipped class.0 listed fresh.0);
    })

set_within : (s : Schema) (of : Option (List ℕ)) (set : Option ℕ) → set_number s of ≡ Ok set
    → IfSome set (λ n. n < length s.label_sets)
set_within s None set h = subst (λ (o : Option ℕ). IfSome o (λ n. n < length s.label_sets)) (same_ok None set h) tt
set_within s (Some name) set h =
    let found = bind_ok (ok_or (label_set_named s name) (here flaws.Unknown)) (λ n. Ok (Some n)) set h in
    let within = position_within (bytes_eq name) (map (λ (l : LabelSet). l.name) s.label_sets) found.0 (ok_or_ok (here flaws.Unknown) (label_set_named s name) found.0 found.1) in
    subst (λ (o : Option ℕ). IfSome o (λ n. n < length s.label_sets)) (same_ok (Some found.0) set found.2) (let lt : found.0 < length s.label_sets = omega (arith, within, length-map s.label_sets (λ (l : LabelSet). l.name)) in lt)

abbrev SetIsThere : Schema → Dim → Type 0
SetIsThere s d = IfSome d.set (λ n. n < length s.label_sets)

abbrev IsRead : Schema → List ℕ → Dim → Type 0
IsRead s listed d = list_all (has_slot_for s d.name d.set) listed ≡ true

-- the dimensions of a space so far
record AreDims (s : Schema) (listed : List ℕ) (dims : List Dim) : Type 0 where
  named : AreNames DIM_LIMIT (map (λ d. d.name) dims)
  sets : All (SetIsThere s) dims
  slots : All (IsRead s listed) dims

dim_keeps : (s : Schema) (listed : List ℕ) (dims more : List Dim) (e : DimDeclaration) → AreDims s listed dims
    → dim_after s listed dims e ≡ Ok more → AreDims s listed more
unfolding dim_after
dim_keeps s listed dims more e all made =
    let named = guard_ok (not (is_name e.name)) (here flaws.Name) _ more made in
    let fresh = guard_ok (list_any (bytes_eq e.name) (map (λ (d : Dim). d.name) dims)) (here flaws.Twice) _ more named.1 in
    let set = bind_ok (set_number s e.of) _ more fresh.1 in
    let fitting = guard_ok (not (list_all (has_slot_for s e.name set.0) listed)) (here flaws.Dimension) _ more set.2 in
    let room = guard_ok (nat_le DIM_LIMIT (length dims)) (here flaws.Limit) _ more fitting.1 in
    let dim : Dim = record { name = e.name; set = set.0 } in
    subst (AreDims s listed) (same_ok (dims ++ dim ∷ []) more room.1) (record {
      named = rw (map-last (λ (d : Dim). d.name) dims dim) (one_more_name DIM_LIMIT (map (λ (d : Dim). d.name) dims) e.name all.named named.0 fresh.0 (rw (length-map dims (λ (d : Dim). d.name)) room.0));
      sets = All-push (SetIsThere s) dims dim all.sets (set_within s e.of set.0 set.1);
      slots = All-push (IsRead s listed) dims dim all.slots (not_false (list_all (has_slot_for s e.name set.0) listed) fitting.0);
    })

space_keeps : (s : Schema) (spaces more : List Space) (e : SpaceDeclaration) → AreSpaces s spaces
    → space_after s spaces e ≡ Ok more → AreSpaces s more
unfolding space_after
space_keeps s spaces more e all made =
    let named = guard_ok (not (is_name e.name)) (here flaws.Name) _ more made in
    let fresh = guard_ok (list_any (bytes_eq e.name) (map (λ (p : Space). p.name) spaces)) (here flaws.Twice) _ more named.1 in
    let room = guard_ok (nat_le SPACE_LIMIT (length spaces)) (here flaws.Limit) _ more fresh.1 in
    let listed = bind_fold (inside lists.Classes) (space_class_after s) 0 [] e.classes _ more room.1 in
    let dims = bind_fold (inside lists.Dims) (dim_after s listed.0) 0 [] e.dims _ more listed.2 in
    let classes = try_fold_keeps (AreListed s) (space_class_after s) (λ a b n. listed_keeps s a b n) [] listed.0 e.classes (record { within = All-nil (λ c. c < length s.classes); distinct = distinct_nil nat_eq }) listed.1 in
    let read = try_fold_keeps (AreDims s listed.0) (dim_after s listed.0) (λ a b d. dim_keeps s listed.0 a b d) [] dims.0 e.dims (record { named = no_names DIM_LIMIT; sets = All-nil (SetIsThere s); slots = All-nil (IsRead s listed.0) }) dims.1 in
    let space : Space = record { name = e.name; classes = listed.0; dims = dims.0 } in
    subst (AreSpaces s) (same_ok (spaces ++ space ∷ []) more dims.2) (record {
      named = rw (map-last (λ (p : Space). p.name) spaces space) (one_more_name SPACE_LIMIT (map (λ (p : Space). p.name) spaces) e.name all.named named.0 fresh.0 (rw (length-map spaces (λ (p : Space). p.name)) room.0));
      each = All-push (IsSpace s) spaces space all.each (record { classes = classes.within; distinct = classes.distinct; named = read.named; sets = read.sets; slots = read.slots });
    })

pub spaces_fit : (s : Schema) (entries : List SpaceDeclaration) (spaces : List Space)
    → try_fold_at (inside lists.Spaces) (space_after s) 0 [] entries ≡ Ok spaces → AreSpaces s spaces
spaces_fit s entries spaces made = try_fold_keeps (AreSpaces s) (space_after s) (λ a b e. space_keeps s a b e) [] spaces entries (no_spaces s) (fold_at_ok (inside lists.Spaces) (space_after s) 0 [] spaces entries made)

-- spaces ask for label sets, classes and slots alone
same_slots : (s : Schema) (spaces : List Space) (name : List ℕ) (set : Option ℕ) (c : ℕ)
    → has_slot_for s name set c ≡ has_slot_for (record s { spaces = spaces }) name set c
unfolding has_slot_for
same_slots s spaces name set c = refl

space_same : (s : Schema) (spaces : List Space) (p : Space) → IsSpace s p → IsSpace (record s { spaces = spaces }) p
space_same s spaces p is = record {
  classes = is.classes;
  distinct = is.distinct;
  named = is.named;
  sets = is.sets;
  slots = All-weaker (IsRead s p.classes) (IsRead (record s { spaces = spaces }) p.classes) (λ d h. sym (list_all_same (has_slot_for s d.name d.set) (has_slot_for (record s { spaces = spaces }) d.name d.set) (λ c. same_slots s spaces d.name d.set c) p.classes) ∙ h) p.dims is.slots;
}

pub spaced_fits : (s : Schema) (spaces : List Space) → Fits s → AreSpaces s spaces
    → Fits (record s { spaces = spaces })
spaced_fits s spaces fit all = record {
  label_sets = fit.label_sets;
  focus = fit.focus;
  focus_slots = fit.focus_slots;
  few_classes = fit.few_classes;
  few_slots = fit.few_slots;
  class_names = fit.class_names;
  parents = fit.parents;
  heirs = fit.heirs;
  classes = fit.classes;
  owned = fit.owned;
  slot_names = fit.slot_names;
  slots = fit.slots;
  coupled = fit.coupled;
  spaces = record { named = all.named; each = All-weaker (IsSpace s) (IsSpace (record s { spaces = spaces })) (λ p h. space_same s spaces p h) spaces all.each };
}
