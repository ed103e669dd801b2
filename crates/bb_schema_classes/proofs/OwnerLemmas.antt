-- A slot is among those of a class exactly where the class descends from the one that declares the slot.
use Rattle.std.proofs.Common.{◌≡◌, ℕ, zero, suc, ◌+◌, ◌<◌, ◌≤◌, ◌⊎◌, inl, inr, ◌||◌, Bool, true, false, not, List, [], ◌∷◌, ◌++◌, length, map, Option, Some, None, Result, Ok, Err, refl, ap, sym, subst, ◌∙◌, arith, length-append}
use Rattle.std.specs.Prelude.{◌==◌, All, IfSome, nat_le, nat_lt, slice_get, option_and_then, if◌then◌else◌}
use Rattle.std.specs.Str.{bytes_eq}
use Rattle.std.specs.List.{list_any}
use Rattle.std.specs.Option.{option_map_or}
use Rattle.std.proofs.lemmas.Bool.{leb-true, le-leb, ltb-true, ltb-false, eqb-true, eqb-false, or_right}
use Rattle.std.proofs.lemmas.List.Elements.{All-nil, All-head, All-tail}
use Rattle.bb_basis.proofs.BoolLemmas.{or_false}
use Rattle.bb_basis.specs.Names.{is_name}
use Rattle.bb_basis.specs.Results.{ok_or, try_fold}
use Rattle.bb_basis.proofs.NumberLemmas.{differs, differ_swapped}
use Rattle.bb_basis.proofs.AppendLemmas.{some_within, there_is, snoc_cases, snoc_old, snoc_new}
use Rattle.bb_basis.proofs.ResultLemmas.{bind_ok, guard_ok, same_ok, try_fold_keeps}
use Rattle.bb_schema_form.specs.Document.{SlotDeclaration, LinkDeclaration, ClassDeclaration}
use Rattle.bb_schema_form.specs.Defaults.{HasSoundDefaults}
use Rattle.bb_schema_classes.specs.declared.read.classes.TheConstants.{CLASS_LIMIT}
use Rattle.bb_schema_classes.specs.declared.fault.SchemaFlaw.TheVariants as flaws
use Rattle.bb_schema_classes.specs.Faults.{here, inside}
use Rattle.bb_schema_form.specs.declared.place.ListKey.TheVariants as lists
use Rattle.bb_basis.proofs.PlacedLemmas.{bind_fold}
use Rattle.bb_schema_classes.specs.declared.label_set.LabelSet.{LabelSet}
use Rattle.bb_schema_classes.specs.declared.class.Class.{Class}
use Rattle.bb_schema_classes.specs.declared.draft.Draft.{Draft}
use Rattle.bb_schema_classes.specs.declared.draft.DraftContent.TheVariants as contents
use Rattle.bb_schema_classes.specs.Drafts.{ClassDraft, SchemaDraft, has_slot_named, is_full, with_slot}
use Rattle.bb_schema_classes.specs.SlotReading.{default_value, slot_after}
use Rattle.bb_schema_classes.specs.LinkReading.{first_named, leads_back, drafted_link, link_after}
use Rattle.bb_schema_classes.specs.ClassReading.{parent_number, inherited_slots, class_after}
use Rattle.bb_schema_classes.specs.Inheritance.{ParentsAreEarlier, parent_of, climbs, descends_in}
use Rattle.bb_schema_classes.specs.Inheritance.{slots_in}
use Rattle.bb_schema_classes.specs.Inheritance.{is_among}
use Rattle.bb_schema_classes.specs.Fits.{IsClass, IsDraft, OwnsDrafts}
use Rattle.bb_schema_classes.proofs.ClassesFit.{ClassesFit}
use Rattle.bb_schema_classes.proofs.ClimbLemmas.{descends_parent, descends_top, found_itself}
use Rattle.bb_schema_classes.proofs.FitLemmas.{All-at, class_keeps, classes_fit, parent_within, slots_old, slots_new, walk_keeps}

-- ---- small steps

or_assoc : (a b c : Bool) → (a || (b || c)) ≡ ((a || b) || c)
or_assoc true b c = refl
or_assoc false b c = refl

by_cmp : (n l : ℕ) → n < l + 1 → (b : Bool) → nat_lt n l ≡ b → (n == l) ≡ false → n < l
by_cmp n l lt true h other = ltb-true n l h
by_cmp n l lt false h other = absurd (eqb-false n l other (let le = ltb-false n l h in omega (arith, le, lt)))

below_last : (n l : ℕ) → n < l + 1 → (n == l) ≡ false → n < l
below_last n l lt other = by_cmp n l lt (nat_lt n l) refl other

pub last_or : (c l : ℕ) (b : Bool) → (c == l) ≡ b → c < l + 1 → (c < l) ⊎ (c ≡ l)
last_or c l true same lt = inr (eqb-true c l same)
last_or c l false other lt = inl (below_last c l lt other)

above_false : (a n : ℕ) (b : Bool) → nat_le a n ≡ b → n < a → b ≡ false
above_false a n true h lt = absurd (omega (arith, leb-true a n h, lt))
above_false a n false h lt = refl

try_fold_nil : {S A E : Type 0} (f : S → A → Result S E) (s : S) → try_fold f s [] ≡ Ok s
unfolding try_fold
try_fold_nil f s = refl

-- ---- among some numbers and one more

pub among_more : (xs : List ℕ) (m n : ℕ) → is_among (xs ++ m ∷ []) n ≡ (is_among xs n || (m == n))
unfolding is_among
among_more [] m n = or_false (m == n)
among_more (x ∷ xs) m n = ap (λ b. (x == n) || b) (among_more xs m n) ∙ or_assoc (x == n) (list_any (λ d. d == n) xs) (m == n)

pub among_none : (n : ℕ) → is_among [] n ≡ false
unfolding is_among
among_none n = refl

below_none : (bound n : ℕ) (xs : List ℕ) → bound ≤ n → All (λ m. m < bound) xs → is_among xs n ≡ false
unfolding is_among
below_none bound n [] le all = refl
below_none bound n (x ∷ xs) le all = rw (differs x n (λ e. absurd (omega (arith, e, le, All-head (λ m. m < bound) x xs all)))) (below_none bound n xs le (All-tail (λ m. m < bound) x xs all))

-- ---- going up in classes with one more

same_each : (p q : ℕ → Bool) (o : Option ℕ) → ((i : ℕ) → o ≡ Some i → p i ≡ q i)
    → option_map_or p o false ≡ option_map_or q o false
same_each p q None same = refl
same_each p q (Some i) same = same i refl

none_each : (p : ℕ → Bool) (o : Option ℕ) → ((i : ℕ) → o ≡ Some i → p i ≡ false) → option_map_or p o false ≡ false
none_each p None none = refl
none_each p (Some i) none = none i refl

climbs_old : (classes : List Class) (k : Class) (d n c : ℕ) → ParentsAreEarlier classes → c < length classes
    → climbs n (classes ++ k ∷ []) c d ≡ climbs n classes c d
unfolding climbs
climbs_old classes k d zero c earlier lt = refl
climbs_old classes k d (suc n) c earlier lt =
    ap (λ b. (c == d) || b) (ap (λ (o : Option Class). option_map_or (λ p. climbs n (classes ++ k ∷ []) p d) (option_and_then (λ j. j.parent) o) false) (snoc_old classes k c lt)
    ∙ same_each (λ p. climbs n (classes ++ k ∷ []) p d) (λ p. climbs n classes p d) (parent_of classes c) (λ p h. climbs_old classes k d n p earlier (omega (arith, lt, earlier c p h))))

climbs_below : (classes : List Class) (d n c : ℕ) → ParentsAreEarlier classes → c < d → climbs n classes c d ≡ false
unfolding climbs
climbs_below classes d zero c earlier lt = differs c d (λ e. absurd (omega (arith, e, lt)))
climbs_below classes d (suc n) c earlier lt = rw (differs c d (λ e. absurd (omega (arith, e, lt)))) (none_each (λ p. climbs n classes p d) (parent_of classes c) (λ p h. climbs_below classes d n p earlier (omega (arith, lt, earlier c p h))))

-- ---- the slots of a class that is read

-- the slots so far are those before, and the class's own; the class has those of its parent, and its own
record OwnsNew (s : SchemaDraft) (base : List ℕ) (g : ClassDraft) : Type 0 where
  longer : length s.slots ≤ length g.slots
  owners : (n : ℕ) (d : Draft) → slice_get g.slots n ≡ Some d
      → (slice_get s.slots n ≡ Some d) ⊎ ((length s.slots ≤ n) × (d.owner ≡ length s.classes))
  among : (n : ℕ) → n < length g.slots → is_among g.class_slots n ≡ (is_among base n || nat_le (length s.slots) n)

among_by : (s : SchemaDraft) (base : List ℕ) (g : ClassDraft) (n : ℕ) → length s.slots ≤ length g.slots
    → n < length g.slots + 1
    → (n < length g.slots → is_among g.class_slots n ≡ (is_among base n || nat_le (length s.slots) n)) → (b : Bool)
    → (length g.slots == n) ≡ b → (is_among g.class_slots n || b) ≡ (is_among base n || nat_le (length s.slots) n)
among_by s base g n longer lt before true same =
    let le : length s.slots ≤ n = omega (arith, longer, eqb-true (length g.slots) n same) in
    or_right (is_among g.class_slots n) true refl ∙ sym (or_right (is_among base n) (nat_le (length s.slots) n) (le-leb (length s.slots) n le))
among_by s base g n longer lt before false other = or_false (is_among g.class_slots n) ∙ before (below_last n (length g.slots) lt (differ_swapped n (length g.slots) other))

owns_more : (s : SchemaDraft) (base : List ℕ) (g : ClassDraft) (d : Draft) → OwnsNew s base g
    → d.owner ≡ length s.classes → OwnsNew s base (with_slot g d)
owns_more s base g d owns mine =
    let long : length (g.slots ++ d ∷ []) ≡ length g.slots + 1 = length-append g.slots (d ∷ []) in
    record {
      longer = omega (arith, long, owns.longer);
      owners = λ n e at. elim (snoc_cases g.slots d n e at) [
        | inl old ↦ owns.owners n e old.1
        | inr new ↦ inr (omega (arith, new.0, owns.longer), ap (λ (x : Draft). x.owner) (sym new.1) ∙ mine)
      ];
      among = λ n lt. among_more g.class_slots (length g.slots) n ∙ among_by s base g n owns.longer (omega (arith, long, lt)) (owns.among n) (length g.slots == n) refl;
    }

slot_owns : (sets : List LabelSet) (s : SchemaDraft) (base : List ℕ) (g h : ClassDraft) (e : SlotDeclaration)
    → OwnsNew s base g → slot_after sets (length s.classes) g e ≡ Ok h → OwnsNew s base h
unfolding slot_after
slot_owns sets s base g h e owns made =
    let named = guard_ok (not (is_name e.name)) (here flaws.Name) _ h made in
    let fresh = guard_ok (has_slot_named g e.name) (here flaws.Twice) _ h named.1 in
    let value = bind_ok (default_value sets e.default) _ h fresh.1 in
    let room = guard_ok _ (here flaws.Limit) (Ok (with_slot g (record { name = e.name; owner = length s.classes; content = contents.Default value.0 }))) h value.2 in
    subst (OwnsNew s base) (same_ok _ h room.1) (owns_more s base g (record { name = e.name; owner = length s.classes; content = contents.Default value.0 }) owns refl)

link_owns : (all : List ClassDeclaration) (class : List ℕ) (s : SchemaDraft) (base : List ℕ) (g h : ClassDraft)
    (e : LinkDeclaration) → OwnsNew s base g → link_after all class (length s.classes) g e ≡ Ok h → OwnsNew s base h
unfolding link_after
link_owns all class s base g h e owns made =
    let draft : Draft = record { name = e.name; owner = length s.classes; content = contents.Link (drafted_link e) } in
    let named = guard_ok (not (is_name e.name)) (here flaws.Name) _ h made in
    let fresh = guard_ok (has_slot_named g e.name) (here flaws.Twice) _ h named.1 in
    let target = bind_ok (ok_or (first_named (λ c. c.name) e.to all) (here flaws.Unknown)) (λ target. if not (leads_back target class e) then Err (here flaws.Inverse) else if is_full g then Err (here flaws.Limit) else Ok (with_slot g draft)) h fresh.1 in
    let back = guard_ok (not (leads_back target.0 class e)) (here flaws.Inverse) (if is_full g then Err (here flaws.Limit) else Ok (with_slot g draft)) h target.2 in
    let room = guard_ok (is_full g) (here flaws.Limit) (Ok (with_slot g draft)) h back.1 in
    subst (OwnsNew s base) (same_ok _ h room.1) (owns_more s base g draft owns refl)

owns_first : (s : SchemaDraft) (base : List ℕ) → OwnsNew s base (record { slots = s.slots; class_slots = base })
owns_first s base = record {
  longer = omega arith;
  owners = λ n d at. inl at;
  among = λ n lt. sym (ap (λ b. is_among base n || b) (above_false (length s.slots) n (nat_le (length s.slots) n) refl lt) ∙ or_false (is_among base n));
}

-- ---- the classes

module _ (sets : List LabelSet) (s : SchemaDraft) (k : Class) (g : ClassDraft) (fit : ClassesFit sets s) (earlier : ParentsAreEarlier (s.classes ++ k ∷ [])) (within : IfSome k.parent (λ p. p < length s.classes)) (is : k.slots ≡ g.class_slots)
    (owns : OwnsNew s (inherited_slots s.classes k.parent) g) (owned : OwnsDrafts s.classes s.slots) where
  class_slots_below : (c : ℕ) → c < length s.classes → All (λ n. n < length s.slots) (slots_in s.classes c)
  class_slots_below c lt =
      let j = there_is s.classes c lt in
      let class : IsClass (length s.slots) j.0 = All-at (IsClass (length s.slots)) s.classes c j.0 j.1 fit.classes in
      rw (ap (λ (o : Option Class). option_map_or (λ i. i.slots) o []) j.1) class.slots

  old_class : (c n : ℕ) (d : Draft) → c < length s.classes → slice_get g.slots n ≡ Some d
      → is_among (slots_in (s.classes ++ k ∷ []) c) n ≡ descends_in (s.classes ++ k ∷ []) c d.owner
  old_class c n d lt at =
      let before : is_among (slots_in s.classes c) n ≡ descends_in s.classes c d.owner = elim (owns.owners n d at) [
        | inl old ↦ owned c n d lt old
        | inr new ↦ below_none (length s.slots) n (slots_in s.classes c) new.0 (class_slots_below c lt) ∙ sym (ap (descends_in s.classes c) new.1 ∙ climbs_below s.classes (length s.classes) c c fit.parents lt)
      ] in
      ap (λ xs. is_among xs n) (slots_old s.classes k c lt) ∙ (before ∙ sym (climbs_old s.classes k d.owner c c fit.parents lt))

  inherited : (n : ℕ) (d : Draft) → slice_get s.slots n ≡ Some d → d.owner < length s.classes → (parent : Option ℕ)
      → k.parent ≡ parent → IfSome parent (λ p. p < length s.classes)
      → is_among (inherited_slots s.classes parent) n ≡ descends_in (s.classes ++ k ∷ []) (length s.classes) d.owner
  inherited n d at lower None h there = among_none n ∙ sym (descends_top (s.classes ++ k ∷ []) (length s.classes) d.owner earlier (ap (option_and_then (λ (j : Class). j.parent)) (snoc_new s.classes k) ∙ h) (differs (length s.classes) d.owner (λ e. absurd (omega (arith, e, lower)))))
  inherited n d at lower (Some p) h there =
      owned p n d there at ∙ sym (descends_parent (s.classes ++ k ∷ []) (length s.classes) p d.owner earlier (ap (option_and_then (λ (j : Class). j.parent)) (snoc_new s.classes k) ∙ h) (differs (length s.classes) d.owner (λ e. absurd (omega (arith, e, lower))))
      ∙ climbs_old s.classes k d.owner p p fit.parents there)

  new_class : (n : ℕ) (d : Draft) → slice_get g.slots n ≡ Some d
      → is_among (slots_in (s.classes ++ k ∷ []) (length s.classes)) n ≡ descends_in (s.classes ++ k ∷ [])
      (length s.classes) d.owner
  new_class n d at =
      let base = inherited_slots s.classes k.parent in
      let told : (is_among base n || nat_le (length s.slots) n) ≡ descends_in (s.classes ++ k ∷ []) (length s.classes) d.owner = elim (owns.owners n d at) [
        | inl old ↦
            let drafted : IsDraft sets (length s.classes) d = All-at (IsDraft sets (length s.classes)) s.slots n d old fit.slots in
            ap (λ b. is_among base n || b) (above_false (length s.slots) n (nat_le (length s.slots) n) refl (some_within s.slots n d old)) ∙ (or_false (is_among base n) ∙ inherited n d old drafted.owner k.parent refl within)
        | inr new ↦ or_right (is_among base n) (nat_le (length s.slots) n) (le-leb (length s.slots) n new.0) ∙ sym (found_itself (s.classes ++ k ∷ []) (length s.classes) d.owner earlier (sym new.1))
      ] in
      ap (λ xs. is_among xs n) (slots_new s.classes k ∙ is) ∙ (owns.among n (some_within g.slots n d at) ∙ told)

  by_class : (c n : ℕ) (d : Draft) → (c < length s.classes) ⊎ (c ≡ length s.classes) → slice_get g.slots n ≡ Some d
      → is_among (slots_in (s.classes ++ k ∷ []) c) n ≡ descends_in (s.classes ++ k ∷ []) c d.owner
  by_class c n d (inl lt) at = old_class c n d lt at
  by_class c n d (inr same) at = subst (λ c. is_among (slots_in (s.classes ++ k ∷ []) c) n ≡ descends_in (s.classes ++ k ∷ []) c d.owner) (sym same) (new_class n d at)

  joined : OwnsDrafts (s.classes ++ k ∷ []) g.slots
  joined c n d lt at = by_class c n d (last_or c (length s.classes) (c == length s.classes) refl (omega (arith, lt, length-append s.classes (k ∷ [])))) at

record Owned (sets : List LabelSet) (s : SchemaDraft) : Type 0 where
  fit : ClassesFit sets s
  owned : OwnsDrafts s.classes s.slots

owned_after : (sets : List LabelSet) (all : List ClassDeclaration) (s t : SchemaDraft) (e : ClassDeclaration)
    → Owned sets s → ClassesFit sets t → class_after sets all s e ≡ Ok t → OwnsDrafts t.classes t.slots
unfolding class_after
owned_after sets all s t e o fit made =
    let named = guard_ok (not (is_name e.name)) (here flaws.Name) _ t made in
    let fresh = guard_ok (list_any (bytes_eq e.name) (map (λ (k : Class). k.name) s.classes)) (here flaws.Twice) _ t named.1 in
    let parent = bind_ok (parent_number s.classes e.parent) _ t fresh.1 in
    let room = guard_ok (nat_le CLASS_LIMIT (length s.classes)) (here flaws.Limit) _ t parent.2 in
    let base = inherited_slots s.classes parent.0 in
    let start : ClassDraft = record { slots = s.slots; class_slots = base } in
    let ordinary = bind_fold (inside lists.Slots) (slot_after sets (length s.classes)) 0 start e.slots _ t room.1 in
    let own = bind_fold (inside lists.Links) (link_after all e.name (length s.classes)) 0 ordinary.0 e.links _ t ordinary.2 in
    let P : ClassDraft → Type 0 = OwnsNew s base in
    let one : P ordinary.0 = try_fold_keeps P (slot_after sets (length s.classes)) (λ g h d. slot_owns sets s base g h d) start ordinary.0 e.slots (owns_first s base) ordinary.1 in
    let two : P own.0 = try_fold_keeps P (link_after all e.name (length s.classes)) (λ g h d. link_owns all e.name s base g h d) ordinary.0 own.0 e.links one own.1 in
    let class : Class = record { name = e.name; parent = parent.0; slots = own.0.class_slots } in
    let made_of : SchemaDraft = record { classes = s.classes ++ class ∷ []; slots = own.0.slots } in
    let same : made_of ≡ t = same_ok made_of t own.2 in
    let earlier : ParentsAreEarlier (s.classes ++ class ∷ []) = subst (λ (u : SchemaDraft). ParentsAreEarlier u.classes) (sym same) fit.parents in
    subst (λ (u : SchemaDraft). OwnsDrafts u.classes u.slots) same (joined sets s class own.0 o.fit earlier (parent_within s.classes e.parent parent.0 parent.1) refl two o.owned)

class_owns : (sets : List LabelSet) (all : List ClassDeclaration) (s t : SchemaDraft) (e : ClassDeclaration)
    → HasSoundDefaults e → Owned sets s → class_after sets all s e ≡ Ok t → Owned sets t
class_owns sets all s t e sound o made =
    let fit = class_keeps sets all s t e sound o.fit made in
    record { fit = fit; owned = owned_after sets all s t e o fit made }

pub classes_own : (sets : List LabelSet) (all entries : List ClassDeclaration) (t : SchemaDraft)
    → All HasSoundDefaults entries → try_fold (class_after sets all)
    (record { classes = []; slots = [] }) entries ≡ Ok t → OwnsDrafts t.classes t.slots
classes_own sets all entries t sound made =
    (walk_keeps (Owned sets) HasSoundDefaults (class_after sets all) (λ s u e. class_owns sets all s u e) (record { classes = []; slots = [] }) t entries sound
    (record { fit = classes_fit sets all [] (record { classes = []; slots = [] }) (All-nil HasSoundDefaults) (try_fold_nil (class_after sets all) (record { classes = []; slots = [] })); owned = λ c n d lt at. absurd (omega (arith, lt)) }) made).owned
