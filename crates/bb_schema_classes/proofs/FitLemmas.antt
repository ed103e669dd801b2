-- The classes that a walk leaves fit, and so does the schema made of them.
use Rattle.std.proofs.Common.{◌≡◌, ℕ, zero, suc, ◌+◌, ◌<◌, ◌≤◌, inl, inr, ◌||◌, Bool, true, false, not, List, [], ◌∷◌, ◌++◌, length, map, Option, Some, None, Result, Ok, Err, refl, ap, sym, subst, ◌∙◌, arith, append_assoc, length-append}
use Rattle.std.specs.Prelude.{◌==◌, All, IfSome, nat_le, nat_eq, slice_get, position, option_and_then, if◌then◌else◌}
use Rattle.std.specs.Str.{bytes_eq}
use Rattle.std.specs.List.{list_any, IsDistinct}
use Rattle.std.specs.List.Sorted.{IsStrictlySortedBy}
use Rattle.std.specs.Ordering.{nat_cmp}
use Rattle.std.specs.Option.{option_map_or}
use Rattle.std.proofs.lemmas.Bool.{leb-false, ltb-false, lt-ltb, le-leb, eqb-false, or_parts}
use Rattle.std.proofs.lemmas.Option.{get_or_from_slice_get}
use Rattle.std.proofs.lemmas.List.{append-nil, length-map}
use Rattle.std.proofs.lemmas.List.Elements.{All-nil, All-cons, All-from_recursion, All-push, All-head, All-tail, All-weaker, All-get_or}
use Rattle.bb_basis.specs.Results.{◌>>=◌, ok_or, try_fold}
use Rattle.bb_schema_form.specs.Document.{SlotDeclaration, LinkDeclaration, ClassDeclaration, DefaultDeclaration, int_default, text_default, bool_default, label_default, interval_default}
use Rattle.bb_schema_classes.specs.declared.read.classes.TheConstants.{CLASS_LIMIT}
use Rattle.bb_schema_classes.specs.declared.draft.TheConstants.{CLASS_SLOT_LIMIT, SLOT_LIMIT}
use Rattle.bb_schema_classes.specs.declared.value.TheConstants.{TEXT_LIMIT}
use Rattle.bb_schema_classes.specs.declared.fault.SchemaFlaw.TheVariants as flaws
use Rattle.bb_schema_classes.specs.Faults.{here, inside}
use Rattle.bb_schema_form.specs.declared.place.ListKey.TheVariants as lists
use Rattle.bb_basis.proofs.PlacedLemmas.{bind_fold}
use Rattle.bb_schema_classes.specs.declared.label_set.LabelSet.{LabelSet}
use Rattle.bb_schema_classes.specs.declared.class.Class.{Class}
use Rattle.bb_schema_classes.specs.declared.value.Value.{Value}
use Rattle.bb_schema_classes.specs.declared.value.Value.TheVariants as values
use Rattle.bb_schema_classes.specs.declared.draft.Draft.{Draft}
use Rattle.bb_schema_classes.specs.declared.draft.DraftContent.TheVariants as contents
use Rattle.bb_basis.specs.Names.{is_name}
use Rattle.bb_schema_classes.specs.Inheritance.{slots_in}
use Rattle.bb_schema_classes.specs.Inheritance.{parent_of}
use Rattle.bb_schema_classes.specs.Drafts.{ClassDraft, SchemaDraft, has_slot_named, is_full, with_slot}
use Rattle.bb_schema_classes.specs.SlotReading.{chosen_label, label_set_number, label_value, default_value, is_long, slot_after}
use Rattle.bb_schema_classes.specs.LinkReading.{first_named, leads_back, drafted_link, link_after}
use Rattle.bb_schema_classes.specs.ClassReading.{focus, parent_number, inherited_slots, class_after}
use Rattle.bb_schema_classes.specs.Fits.{IsHeld, IsClass, IsDraft, StartsWith}
use Rattle.bb_schema_classes.specs.Values.{label_counts, is_label, value_fits}
use Rattle.bb_schema_form.specs.Defaults.{IsSound, HasSoundDefaults}
use Rattle.bb_basis.proofs.AppendLemmas.{some_within, there_is, snoc_cases, snoc_old, snoc_new}
use Rattle.bb_basis.proofs.PositionLemmas.{position_within}
use Rattle.bb_basis.proofs.ListLemmas.{map-last}
use Rattle.bb_schema_classes.specs.Naming.{AreNames}
use Rattle.bb_schema_classes.proofs.NamingLemmas.{not_false, distinct_nil, no_names, one_more_name, one_more_number}
use Rattle.bb_schema_classes.proofs.RisingLemmas.{rising_push, rising_nil}
use Rattle.bb_schema_classes.proofs.ClassesFit.{ClassesFit}
use Rattle.bb_basis.proofs.ResultLemmas.{bind_ok, guard_ok, ok_or_ok, same_ok, try_fold_keeps}

-- ---- a slot can hold its default

chosen_there : (labels : List (List ℕ)) (given : Option (List ℕ)) (label : ℕ) → chosen_label labels given ≡ Some label
    → label < length labels
chosen_there [] None label h = absurd cc
chosen_there (x ∷ xs) None label h = let e : 0 ≡ label = cc in omega arith
chosen_there labels (Some name) label h = position_within (bytes_eq name) labels label h

count_at : (sets : List LabelSet) (set : ℕ) (s : LabelSet) → slice_get sets set ≡ Some s
    → slice_get (label_counts sets) set ≡ Some (length s.values)
count_at [] set s h = absurd cc
count_at (x ∷ xs) zero s h = ap (λ (t : LabelSet). Some (length t.values)) (let e : x ≡ s = cc in e)
count_at (x ∷ xs) (suc set) s h = count_at xs set s h

is_label_of : (counts : List ℕ) (set label count : ℕ) → slice_get counts set ≡ Some count → label < count
    → is_label counts set label ≡ true
is_label_of counts set label count at lt = rw at (lt-ltb label count lt)

label_found : (sets : List LabelSet) (set label : ℕ) (given : Option (List ℕ)) (o : Option LabelSet)
    → slice_get sets set ≡ o → option_and_then (λ s. chosen_label s.values given) o ≡ Some label
    → is_label (label_counts sets) set label ≡ true
label_found sets set label given None at h = absurd cc
label_found sets set label given (Some s) at h = is_label_of (label_counts sets) set label (length s.values) (count_at sets set s at) (chosen_there s.values given label h)

same_by : (n : ℕ) (b : Bool) → (n == n) ≡ b → b ≡ true
same_by n true h = refl
same_by n false h = absurd (eqb-false n n h refl)

equals_itself : (n : ℕ) → (n == n) ≡ true
equals_itself n = same_by n (n == n) refl

label_held : (sets : List LabelSet) (set label : ℕ) → is_label (label_counts sets) set label ≡ true
    → IsHeld sets (values.Label set label)
unfolding value_fits
label_held sets set label there = rw (equals_itself set) there

label_value_held : (sets : List LabelSet) (of : List ℕ) (given : Option (List ℕ)) (v : Value)
    → label_value sets of given ≡ Ok v → IsHeld sets v
unfolding label_value
label_value_held sets of given v h =
    let set = bind_ok (ok_or (label_set_number sets of) (here flaws.Unknown)) (λ set. ok_or (option_and_then (λ s. chosen_label s.values given) (slice_get sets set)) (here flaws.Unknown) >>= λ label. Ok (values.Label set label)) v h in
    let label = bind_ok (ok_or (option_and_then (λ (s : LabelSet). chosen_label s.values given) (slice_get sets set.0)) (here flaws.Unknown)) (λ label. Ok (values.Label set.0 label)) v set.2 in
    subst (IsHeld sets) (same_ok (values.Label set.0 label.0) v label.2) (label_held sets set.0 label.0 (label_found sets set.0 label.0 given (slice_get sets set.0) refl (ok_or_ok (here flaws.Unknown) _ label.0 label.1)))

default_held : (sets : List LabelSet) (e : DefaultDeclaration) (v : Value) → IsSound e → is_long e ≡ false
    → default_value sets e ≡ Ok v → IsHeld sets v
unfolding value_fits
default_held sets (int_default z) v sound short h = subst (IsHeld sets) (same_ok (values.Int z) v h) sound
default_held sets (text_default t) v sound short h = subst (IsHeld sets) (same_ok (values.Text t) v h) (le-leb (length t) TEXT_LIMIT (ltb-false TEXT_LIMIT (length t) short))
default_held sets (bool_default b) v sound short h = subst (IsHeld sets) (same_ok (values.Bool b) v h) refl
default_held sets (label_default of given) v sound short h = label_value_held sets of given v h
default_held sets (interval_default low high) v sound short h = subst (IsHeld sets) (same_ok (values.Interval low high) v h) sound

-- what each change by an entry of a kind keeps, all of them keep
pub walk_keeps : {S A E : Type 0} (P : S → Type 0) (Q : A → Type 0) (f : S → A → Result S E)
    → ((s t : S) (a : A) → Q a → P s → f s a ≡ Ok t → P t) → (s t : S) (items : List A) → All Q items → P s
    → try_fold f s items ≡ Ok t → P t
unfolding try_fold
walk_keeps P Q f step s t [] all p h = subst P (same_ok s t h) p
walk_keeps P Q f step s t (a ∷ more) all p h =
    let one = bind_ok (f s a) (λ next. try_fold f next more) t h in
    walk_keeps P Q f step one.0 t more (All-tail Q a more all) (step s one.0 a (All-head Q a more all) p one.1) one.2

-- ---- the slots of a class that is read

pub record GrowsWell (sets : List LabelSet) (owner old : ℕ) (base : List ℕ) (g : ClassDraft) : Type 0 where
  pub longer : old ≤ length g.slots
  pub few_slots : length g.slots ≤ SLOT_LIMIT
  pub few : length g.class_slots ≤ CLASS_SLOT_LIMIT
  pub distinct : IsDistinct nat_eq g.class_slots
  pub rising : IsStrictlySortedBy nat_cmp g.class_slots
  pub class_slots : All (λ n. n < length g.slots) g.class_slots
  pub front : StartsWith g.class_slots base
  pub drafts : All (IsDraft sets (suc owner)) g.slots

grown : (sets : List LabelSet) (owner old : ℕ) (base : List ℕ) (g : ClassDraft) (d : Draft)
    → GrowsWell sets owner old base g → is_full g ≡ false → IsDraft sets (suc owner) d
    → GrowsWell sets owner old base (with_slot g d)
grown sets owner old base g d well room made =
    let parts = or_parts (nat_le CLASS_SLOT_LIMIT (length g.class_slots)) (nat_le SLOT_LIMIT (length g.slots)) room in
    let long : length (g.slots ++ d ∷ []) ≡ length g.slots + 1 = length-append g.slots (d ∷ []) in
    record {
      longer = omega (arith, long, well.longer);
      few_slots = omega (arith, long, leb-false SLOT_LIMIT (length g.slots) parts.1);
      few = omega (arith, length-append g.class_slots (length g.slots ∷ []), leb-false CLASS_SLOT_LIMIT (length g.class_slots) parts.0);
      distinct = one_more_number (length g.slots) g.class_slots well.distinct well.class_slots;
      rising = rising_push g.class_slots (length g.slots) well.rising well.class_slots;
      class_slots = All-push (λ n. n < length (g.slots ++ d ∷ [])) g.class_slots (length g.slots) (All-weaker (λ n. n < length g.slots) (λ n. n < length (g.slots ++ d ∷ [])) (λ n lt. omega (arith, long)) g.class_slots well.class_slots) (omega (arith, long));
      front = (well.front.0 ++ length g.slots ∷ [], ap (λ ms. ms ++ length g.slots ∷ []) well.front.1 ∙ append_assoc base well.front.0 (length g.slots ∷ []));
      drafts = All-push (IsDraft sets (suc owner)) g.slots d well.drafts made;
    }

slot_keeps : (sets : List LabelSet) (owner old : ℕ) (base : List ℕ) (g h : ClassDraft) (e : SlotDeclaration)
    → IsSound e.default → GrowsWell sets owner old base g → slot_after sets owner g e ≡ Ok h
    → GrowsWell sets owner old base h
unfolding slot_after
slot_keeps sets owner old base g h e sound well made =
    let named = guard_ok (not (is_name e.name)) (here flaws.Name) _ h made in
    let fresh = guard_ok (has_slot_named g e.name) (here flaws.Twice) _ h named.1 in
    let value = bind_ok (default_value sets e.default) (λ value. if is_full g || is_long e.default then Err (here flaws.Limit) else Ok (with_slot g (record { name = e.name; owner = owner; content = contents.Default value }))) h fresh.1 in
    let room = guard_ok (is_full g || is_long e.default) (here flaws.Limit) (Ok (with_slot g (record { name = e.name; owner = owner; content = contents.Default value.0 }))) h value.2 in
    subst (GrowsWell sets owner old base) (same_ok _ h room.1)
    (grown sets owner old base g (record { name = e.name; owner = owner; content = contents.Default value.0 }) well (or_parts _ _ room.0).0 (record { name = not_false (is_name e.name) named.0; owner = omega arith; default = default_held sets e.default value.0 sound (or_parts _ _ room.0).1 value.1 }))

link_keeps : (sets : List LabelSet) (all : List ClassDeclaration) (class : List ℕ) (owner old : ℕ) (base : List ℕ)
    (g h : ClassDraft) (e : LinkDeclaration) → GrowsWell sets owner old base g → link_after all class owner g e ≡ Ok h
    → GrowsWell sets owner old base h
unfolding link_after
link_keeps sets all class owner old base g h e well made =
    let draft : Draft = record { name = e.name; owner = owner; content = contents.Link (drafted_link e) } in
    let named = guard_ok (not (is_name e.name)) (here flaws.Name) _ h made in
    let fresh = guard_ok (has_slot_named g e.name) (here flaws.Twice) _ h named.1 in
    let target = bind_ok (ok_or (first_named (λ c. c.name) e.to all) (here flaws.Unknown)) (λ target. if not (leads_back target class e) then Err (here flaws.Inverse) else if is_full g then Err (here flaws.Limit) else Ok (with_slot g draft)) h fresh.1 in
    let back = guard_ok (not (leads_back target.0 class e)) (here flaws.Inverse) (if is_full g then Err (here flaws.Limit) else Ok (with_slot g draft)) h target.2 in
    let room = guard_ok (is_full g) (here flaws.Limit) (Ok (with_slot g draft)) h back.1 in
    subst (GrowsWell sets owner old base) (same_ok _ h room.1) (grown sets owner old base g draft well room.0 (record { name = not_false (is_name e.name) named.0; owner = omega arith; default = tt }))

-- ---- the classes

-- a class with a parent is there
class_there : (o : Option Class) (p : ℕ) → option_and_then (λ k. k.parent) o ≡ Some p
    → (k : Class) × (o ≡ Some k) × (k.parent ≡ Some p)
class_there None p h = absurd cc
class_there (Some k) p h = (k, refl, h)

pub parent_within : (classes : List Class) (given : Option (List ℕ)) (parent : Option ℕ)
    → parent_number classes given ≡ Ok parent → IfSome parent (λ p. p < length classes)
parent_within classes None parent h = subst (λ (o : Option ℕ). IfSome o (λ p. p < length classes)) (same_ok None parent h) tt
parent_within classes (Some name) parent h =
    let found = bind_ok (ok_or (position (bytes_eq name) (map (λ k. k.name) classes)) (here flaws.Unknown)) (λ p. Ok (Some p)) parent h in
    let within = position_within (bytes_eq name) (map (λ (k : Class). k.name) classes) found.0 (ok_or_ok (here flaws.Unknown) _ found.0 found.1) in
    subst (λ (o : Option ℕ). IfSome o (λ p. p < length classes)) (same_ok (Some found.0) parent found.2) (let lt : found.0 < length classes = omega (arith, within, length-map classes (λ (k : Class). k.name)) in lt)

pub All-at : {X : Type 0} (P : X → Type 0) (xs : List X) (i : ℕ) (x : X) → slice_get xs i ≡ Some x → All P xs → P x
All-at P xs i x h all = subst P (get_or_from_slice_get xs i x x h) (All-get_or P xs i x (some_within xs i x h) all)

pub slots_old : (classes : List Class) (k : Class) (i : ℕ) → i < length classes
    → slots_in (classes ++ k ∷ []) i ≡ slots_in classes i
slots_old classes k i lt = ap (λ (o : Option Class). option_map_or (λ j. j.slots) o []) (snoc_old classes k i lt)

pub slots_new : (classes : List Class) (k : Class) → slots_in (classes ++ k ∷ []) (length classes) ≡ k.slots
slots_new classes k = ap (λ (o : Option Class). option_map_or (λ j. j.slots) o []) (snoc_new classes k)

parent_lt : (classes : List Class) (k j : Class) (p : ℕ) → IfSome k.parent (λ q. q < length classes) → k ≡ j
    → j.parent ≡ Some p → p < length classes
parent_lt classes k j p within same h = subst (λ (o : Option ℕ). IfSome o (λ q. q < length classes)) (ap (λ (i : Class). i.parent) same ∙ h) within

-- what the walk over the slots of a class begins with
grows_at_first : (sets : List LabelSet) (s : SchemaDraft) (parent : Option ℕ) → ClassesFit sets s
    → IfSome parent (λ p. p < length s.classes) → GrowsWell sets (length s.classes) (length s.slots)
    (inherited_slots s.classes parent) (record { slots = s.slots; class_slots = inherited_slots s.classes parent })
grows_at_first sets s None fit within = record {
  longer = omega arith;
  few_slots = fit.few_slots;
  few = omega arith;
  distinct = distinct_nil nat_eq;
  rising = rising_nil;
  class_slots = All-nil (λ n. n < length s.slots);
  front = ([], refl);
  drafts = All-weaker (IsDraft sets (length s.classes)) (IsDraft sets (suc (length s.classes))) (λ d h. record { name = h.name; owner = omega (arith, h.owner); default = h.default }) s.slots fit.slots;
}
grows_at_first sets s (Some p) fit within =
    let k = there_is s.classes p within in
    let is : slots_in s.classes p ≡ k.0.slots = ap (λ (o : Option Class). option_map_or (λ j. j.slots) o []) k.1 in
    let class : IsClass (length s.slots) k.0 = All-at (IsClass (length s.slots)) s.classes p k.0 k.1 fit.classes in
    record {
      longer = omega arith;
      few_slots = fit.few_slots;
      few = rw is class.few;
      distinct = rw is class.distinct;
      rising = rw is class.rising;
      class_slots = rw is class.slots;
      front = ([], sym (append-nil (slots_in s.classes p)));
      drafts = All-weaker (IsDraft sets (length s.classes)) (IsDraft sets (suc (length s.classes))) (λ d h. record { name = h.name; owner = omega (arith, h.owner); default = h.default }) s.slots fit.slots;
    }

-- a class more
joins : (sets : List LabelSet) (s : SchemaDraft) (k : Class) (g : ClassDraft) → ClassesFit sets s
    → AreNames CLASS_LIMIT (map (λ (j : Class). j.name) (s.classes ++ k ∷ [])) → length s.classes < CLASS_LIMIT
    → IfSome k.parent (λ p. p < length s.classes) → k.slots ≡ g.class_slots → GrowsWell sets (length s.classes)
    (length s.slots) (inherited_slots s.classes k.parent) g
    → ClassesFit sets (record { classes = s.classes ++ k ∷ []; slots = g.slots })
joins sets s k g fit named room within is well =
    let long : length (s.classes ++ k ∷ []) ≡ length s.classes + 1 = length-append s.classes (k ∷ []) in
    record {
      few_classes = omega (arith, long);
      few_slots = well.few_slots;
      class_names = named;
      parents = λ c p h. let at = class_there (slice_get (s.classes ++ k ∷ []) c) p h in elim (snoc_cases s.classes k c at.0 at.1) [
        | inl old ↦ fit.parents c p (ap (option_and_then (λ (j : Class). j.parent)) old.1 ∙ at.2)
        | inr new ↦ omega (arith, new.0, parent_lt s.classes k at.0 p within new.1 at.2)
      ];
      heirs = λ c p h. let at = class_there (slice_get (s.classes ++ k ∷ []) c) p h in elim (snoc_cases s.classes k c at.0 at.1) [
        | inl old ↦
            let known : parent_of s.classes c ≡ Some p = ap (option_and_then (λ (j : Class). j.parent)) old.1 ∙ at.2 in
            rw (slots_old s.classes k c old.0, slots_old s.classes k p (omega (arith, old.0, fit.parents c p known))) (fit.heirs c p known)
        | inr new ↦
            let mine : k.parent ≡ Some p = ap (λ (j : Class). j.parent) new.1 ∙ at.2 in
            rw (new.0, slots_new s.classes k, slots_old s.classes k p (parent_lt s.classes k at.0 p within new.1 at.2), is)
            (subst (λ (o : Option ℕ). StartsWith g.class_slots (inherited_slots s.classes o)) mine well.front)
      ];
      classes = All-push (IsClass (length g.slots)) s.classes k (All-weaker (IsClass (length s.slots)) (IsClass (length g.slots)) (λ j h. record { few = h.few; distinct = h.distinct; rising = h.rising; slots = All-weaker (λ n. n < length s.slots) (λ n. n < length g.slots) (λ n lt. omega (arith, lt, well.longer)) j.slots h.slots }) s.classes fit.classes)
          (record { few = rw is well.few; distinct = rw is well.distinct; rising = rw is well.rising; slots = rw is well.class_slots });
      slots = rw long (All-weaker (IsDraft sets (suc (length s.classes))) (IsDraft sets (length s.classes + 1)) (λ d h. record { name = h.name; owner = omega (arith, h.owner); default = h.default }) g.slots well.drafts);
    }

pub class_keeps : (sets : List LabelSet) (all : List ClassDeclaration) (s t : SchemaDraft) (e : ClassDeclaration)
    → HasSoundDefaults e → ClassesFit sets s → class_after sets all s e ≡ Ok t → ClassesFit sets t
unfolding class_after
class_keeps sets all s t e sound fit made =
    let named = guard_ok (not (is_name e.name)) (here flaws.Name) _ t made in
    let fresh = guard_ok (list_any (bytes_eq e.name) (map (λ (k : Class). k.name) s.classes)) (here flaws.Twice) _ t named.1 in
    let parent = bind_ok (parent_number s.classes e.parent) _ t fresh.1 in
    let room = guard_ok (nat_le CLASS_LIMIT (length s.classes)) (here flaws.Limit) _ t parent.2 in
    let start : ClassDraft = record { slots = s.slots; class_slots = inherited_slots s.classes parent.0 } in
    let ordinary = bind_fold (inside lists.Slots) (slot_after sets (length s.classes)) 0 start e.slots _ t room.1 in
    let own = bind_fold (inside lists.Links) (link_after all e.name (length s.classes)) 0 ordinary.0 e.links _ t ordinary.2 in
    let within = parent_within s.classes e.parent parent.0 parent.1 in
    let P : ClassDraft → Type 0 = GrowsWell sets (length s.classes) (length s.slots) (inherited_slots s.classes parent.0) in
    let one : P ordinary.0 = walk_keeps P (λ (d : SlotDeclaration). IsSound d.default) (slot_after sets (length s.classes)) (λ g h d. slot_keeps sets (length s.classes) (length s.slots) (inherited_slots s.classes parent.0) g h d) start ordinary.0 e.slots sound (grows_at_first sets s parent.0 fit within) ordinary.1 in
    let two : P own.0 = try_fold_keeps P (link_after all e.name (length s.classes)) (λ g h d. link_keeps sets all e.name (length s.classes) (length s.slots) (inherited_slots s.classes parent.0) g h d) ordinary.0 own.0 e.links one own.1 in
    subst (ClassesFit sets) (same_ok _ t own.2) (joins sets s (record { name = e.name; parent = parent.0; slots = own.0.class_slots }) own.0 fit (rw (map-last (λ (k : Class). k.name) s.classes (record { name = e.name; parent = parent.0; slots = own.0.class_slots })) (one_more_name CLASS_LIMIT (map (λ (k : Class). k.name) s.classes) e.name fit.class_names named.0 fresh.0 (rw (length-map s.classes (λ (k : Class). k.name)) room.0))) (leb-false CLASS_LIMIT (length s.classes) room.0) within refl two)

pub classes_fit : (sets : List LabelSet) (all entries : List ClassDeclaration) (t : SchemaDraft)
    → All HasSoundDefaults entries → try_fold (class_after sets all)
    (record { classes = []; slots = [] }) entries ≡ Ok t → ClassesFit sets t
classes_fit sets all entries t sound made =
    walk_keeps (ClassesFit sets) HasSoundDefaults (class_after sets all) (λ s u e. class_keeps sets all s u e) (record { classes = []; slots = [] }) t entries sound
    (record {
      few_classes = omega arith;
      few_slots = omega arith;
      class_names = no_names CLASS_LIMIT;
      parents = λ c p h. absurd (let at = class_there (slice_get (let none : List Class = [] in none) c) p h in cc);
      heirs = λ c p h. absurd (let at = class_there (slice_get (let none : List Class = [] in none) c) p h in cc);
      classes = All-nil (IsClass 0);
      slots = All-nil (IsDraft sets 0);
    }) made

pub focus_sound : (others : List ClassDeclaration) → All HasSoundDefaults others
    → All HasSoundDefaults (focus ∷ others)
focus_sound others all = All-cons HasSoundDefaults focus others (All-from_recursion (λ d. IsSound d.default) focus.slots (tt, (tt, (refl, (tt, tt))))) all
