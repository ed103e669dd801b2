-- No two slots of a class have one name.
use Rattle.std.proofs.Common.{◌≡◌, ℕ, ◌+◌, ◌<◌, ◌≤◌, ◌⊎◌, inl, inr, ◌||◌, Bool, true, false, not, List, [], ◌∷◌, ◌++◌, length, map, Option, Some, None, Ok, Err, refl, ap, sym, subst, ◌∙◌, arith, length-append}
use Rattle.std.specs.Prelude.{◌==◌, IfSome, nat_le, slice_get, if◌then◌else◌}
use Rattle.std.specs.Str.{bytes_eq}
use Rattle.std.specs.List.{list_any}
use Rattle.std.proofs.lemmas.Bool.{eqb-true, or_right}
use Rattle.std.proofs.lemmas.Slice.Eq.{bytes_eq-Decides}
use Rattle.bb_basis.specs.Names.{is_name}
use Rattle.bb_basis.specs.Results.{ok_or, try_fold}
use Rattle.bb_basis.proofs.AppendLemmas.{snoc_old, snoc_new}
use Rattle.bb_basis.proofs.ResultLemmas.{bind_ok, guard_ok, same_ok, try_fold_keeps}
use Rattle.bb_schema_form.specs.Document.{SlotDeclaration, LinkDeclaration, ClassDeclaration}
use Rattle.bb_schema_classes.specs.declared.read.classes.TheConstants.{CLASS_LIMIT}
use Rattle.bb_schema_classes.specs.declared.fault.SchemaFlaw.TheVariants as flaws
use Rattle.bb_schema_classes.specs.Faults.{here, inside}
use Rattle.bb_schema_form.specs.declared.place.ListKey.TheVariants as lists
use Rattle.bb_basis.proofs.PlacedLemmas.{bind_fold}
use Rattle.bb_schema_classes.specs.declared.label_set.LabelSet.{LabelSet}
use Rattle.bb_schema_classes.specs.declared.class.Class.{Class}
use Rattle.bb_schema_classes.specs.declared.draft.Draft.{Draft}
use Rattle.bb_schema_classes.specs.declared.draft.DraftContent.TheVariants as contents
use Rattle.bb_schema_classes.specs.Drafts.{ClassDraft, SchemaDraft, draft_has_name, has_slot_named, is_full, with_slot}
use Rattle.bb_schema_classes.specs.SlotReading.{default_value, slot_after}
use Rattle.bb_schema_classes.specs.LinkReading.{first_named, leads_back, drafted_link, link_after}
use Rattle.bb_schema_classes.specs.ClassReading.{parent_number, inherited_slots, class_after}
use Rattle.bb_schema_classes.specs.Inheritance.{slots_in}
use Rattle.bb_schema_classes.specs.Inheritance.{is_among}
use Rattle.bb_schema_classes.specs.Fits.{AreApart, AreNamedApart}
use Rattle.bb_schema_classes.proofs.FitLemmas.{parent_within, slots_old, slots_new}
use Rattle.bb_schema_classes.proofs.OwnerLemmas.{among_more, among_none, last_or}

-- one of some numbers that passes is found
found_by : (p : ℕ → Bool) (x : ℕ) (xs : List ℕ) (n : ℕ) (b : Bool) → (x == n) ≡ b
    → (b || list_any (λ d. d == n) xs) ≡ true → p n ≡ true → (list_any (λ d. d == n) xs ≡ true → list_any p xs ≡ true)
    → (p x || list_any p xs) ≡ true
found_by p x xs n true same h passes later = rw (ap p (eqb-true x n same) ∙ passes) refl
found_by p x xs n false other h passes later = or_right (p x) (list_any p xs) (later h)

any_of_among : (p : ℕ → Bool) (xs : List ℕ) (n : ℕ) → is_among xs n ≡ true → p n ≡ true → list_any p xs ≡ true
unfolding is_among
any_of_among p [] n h passes = absurd cc
any_of_among p (x ∷ xs) n h passes = found_by p x xs n (x == n) refl h passes (λ later. any_of_among p xs n later passes)

named : (slots : List Draft) (n : ℕ) (d : Draft) (name : List ℕ) → slice_get slots n ≡ Some d → d.name ≡ name
    → draft_has_name slots name n ≡ true
unfolding draft_has_name
named slots n d name at is = rw at ((bytes_eq-Decides name d.name).1 (sym is))

-- a name that a class has is not new
not_new : (g : ClassDraft) (n : ℕ) (d : Draft) (name : List ℕ) → has_slot_named g name ≡ false
    → is_among g.class_slots n ≡ true → slice_get g.slots n ≡ Some d → d.name ≡ name → ⊥
not_new g n d name fresh among at is = let h : has_slot_named g name ≡ true = any_of_among (draft_has_name g.slots name) g.class_slots n among (named g.slots n d name at is) in let e : false ≡ true = sym fresh ∙ h in cc

old_or_new : (xs : List ℕ) (l n : ℕ) → is_among (xs ++ l ∷ []) n ≡ true → (is_among xs n ≡ true) ⊎ (l ≡ n)
old_or_new xs l n h = by_last (is_among xs n) refl (l == n) refl (sym (among_more xs l n) ∙ h) where
  by_last : (a : Bool) → is_among xs n ≡ a → (b : Bool) → (l == n) ≡ b → (is_among xs n || (l == n)) ≡ true
      → (is_among xs n ≡ true) ⊎ (l ≡ n)
  by_last true old b last h = inl old
  by_last false old true last h = inr (eqb-true l n last)
  by_last false old false last h = absurd (let e = sym h ∙ (ap (λ a. a || (l == n)) old ∙ last) in cc)

apart_more : (g : ClassDraft) (x : Draft) → AreApart g.slots g.class_slots → has_slot_named g x.name ≡ false
    → AreApart (g.slots ++ x ∷ []) (g.class_slots ++ length g.slots ∷ [])
apart_more g x are fresh =
    let long : length (g.slots ++ x ∷ []) ≡ length g.slots + 1 = length-append g.slots (x ∷ []) in
    let before = λ (n : ℕ) (d : Draft) (among : is_among g.class_slots n ≡ true) (at : slice_get (g.slots ++ x ∷ []) n ≡ Some d). sym (snoc_old g.slots x n (are.there n among)) ∙ at in
    let last = λ (n : ℕ) (d : Draft) (is : length g.slots ≡ n) (at : slice_get (g.slots ++ x ∷ []) n ≡ Some d). let e : Some x ≡ Some d = sym (snoc_new g.slots x) ∙ (ap (slice_get (g.slots ++ x ∷ [])) is ∙ at) in let same : x ≡ d = cc in same in
    record {
      there = λ m among. elim (old_or_new g.class_slots (length g.slots) m among) [
        | inl old ↦ omega (arith, long, are.there m old)
        | inr new ↦ omega (arith, long, new)
      ];
      apart = λ m n d e first second at there same. elim (old_or_new g.class_slots (length g.slots) m first) [
        | inl old ↦ elim (old_or_new g.class_slots (length g.slots) n second) [
          | inl other ↦ are.apart m n d e old other (before m d old at) (before n e other there) same
          | inr new ↦ absurd (not_new g m d x.name fresh old (before m d old at) (same ∙ sym (ap (λ (y : Draft). y.name) (last n e new there))))
        ]
        | inr mine ↦ elim (old_or_new g.class_slots (length g.slots) n second) [
          | inl other ↦ absurd (not_new g n e x.name fresh other (before n e other there) (sym same ∙ sym (ap (λ (y : Draft). y.name) (last m d mine at))))
          | inr new ↦ sym mine ∙ new
        ]
      ];
    }

-- ---- the slots of a class that is read

record AreNew (s : SchemaDraft) (g : ClassDraft) : Type 0 where
  longer : length s.slots ≤ length g.slots
  before : (n : ℕ) (d : Draft) → n < length s.slots → slice_get g.slots n ≡ Some d → slice_get s.slots n ≡ Some d
  apart : AreApart g.slots g.class_slots

new_more : (s : SchemaDraft) (g : ClassDraft) (x : Draft) → AreNew s g → has_slot_named g x.name ≡ false
    → AreNew s (with_slot g x)
new_more s g x are fresh = record {
  longer = omega (arith, are.longer, length-append g.slots (x ∷ []));
  before = λ n d lt at. are.before n d lt (sym (snoc_old g.slots x n (omega (arith, lt, are.longer))) ∙ at);
  apart = apart_more g x are.apart fresh;
}

slot_apart : (s : SchemaDraft) (sets : List LabelSet) (owner : ℕ) (g h : ClassDraft) (e : SlotDeclaration)
    → AreNew s g → slot_after sets owner g e ≡ Ok h → AreNew s h
unfolding slot_after
slot_apart s sets owner g h e are made =
    let named = guard_ok (not (is_name e.name)) (here flaws.Name) _ h made in
    let fresh = guard_ok (has_slot_named g e.name) (here flaws.Twice) _ h named.1 in
    let value = bind_ok (default_value sets e.default) _ h fresh.1 in
    let room = guard_ok _ (here flaws.Limit) (Ok (with_slot g (record { name = e.name; owner = owner; content = contents.Default value.0 }))) h value.2 in
    subst (AreNew s) (same_ok _ h room.1) (new_more s g (record { name = e.name; owner = owner; content = contents.Default value.0 }) are fresh.0)

link_apart : (s : SchemaDraft) (all : List ClassDeclaration) (class : List ℕ) (owner : ℕ) (g h : ClassDraft)
    (e : LinkDeclaration) → AreNew s g → link_after all class owner g e ≡ Ok h → AreNew s h
unfolding link_after
link_apart s all class owner g h e are made =
    let draft : Draft = record { name = e.name; owner = owner; content = contents.Link (drafted_link e) } in
    let named = guard_ok (not (is_name e.name)) (here flaws.Name) _ h made in
    let fresh = guard_ok (has_slot_named g e.name) (here flaws.Twice) _ h named.1 in
    let target = bind_ok (ok_or (first_named (λ c. c.name) e.to all) (here flaws.Unknown)) (λ target. if not (leads_back target class e) then Err (here flaws.Inverse) else if is_full g then Err (here flaws.Limit) else Ok (with_slot g draft)) h fresh.1 in
    let back = guard_ok (not (leads_back target.0 class e)) (here flaws.Inverse) (if is_full g then Err (here flaws.Limit) else Ok (with_slot g draft)) h target.2 in
    let room = guard_ok (is_full g) (here flaws.Limit) (Ok (with_slot g draft)) h back.1 in
    subst (AreNew s) (same_ok _ h room.1) (new_more s g draft are fresh.0)

joined : (s : SchemaDraft) (k : Class) (g : ClassDraft) → k.slots ≡ g.class_slots → AreNew s g
    → AreNamedApart s.classes s.slots → AreNamedApart (s.classes ++ k ∷ []) g.slots
joined s k g is new old c lt = by_class (last_or c (length s.classes) (c == length s.classes) refl (omega (arith, lt, length-append s.classes (k ∷ [])))) where
  by_class : (c < length s.classes) ⊎ (c ≡ length s.classes) → AreApart g.slots (slots_in (s.classes ++ k ∷ []) c)
  by_class (inl within) = rw (slots_old s.classes k c within) (record {
    there = λ m among. omega (arith, (old c within).there m among, new.longer);
    apart = λ m n d e first second at there same. (old c within).apart m n d e first second (new.before m d ((old c within).there m first) at) (new.before n e ((old c within).there n second) there) same;
  })
  by_class (inr last) = rw (last, slots_new s.classes k, is) new.apart

abbrev AreSoFar : SchemaDraft → Type 0
AreSoFar s = AreNamedApart s.classes s.slots

none_apart : (slots : List Draft) → AreApart slots []
none_apart slots = record {
  there = λ m among. absurd (let e : false ≡ true = sym (among_none m) ∙ among in cc);
  apart = λ m n d e first second at there same. absurd (let e : false ≡ true = sym (among_none m) ∙ first in cc);
}

begun : (s : SchemaDraft) → AreSoFar s → (parent : Option ℕ) → IfSome parent (λ p. p < length s.classes)
    → AreApart s.slots (inherited_slots s.classes parent)
begun s far None within = none_apart s.slots
begun s far (Some p) within = far p within

named_after : (sets : List LabelSet) (all : List ClassDeclaration) (s t : SchemaDraft) (e : ClassDeclaration)
    → AreSoFar s → class_after sets all s e ≡ Ok t → AreSoFar t
unfolding class_after
named_after sets all s t e far made =
    let named = guard_ok (not (is_name e.name)) (here flaws.Name) _ t made in
    let fresh = guard_ok (list_any (bytes_eq e.name) (map (λ (k : Class). k.name) s.classes)) (here flaws.Twice) _ t named.1 in
    let parent = bind_ok (parent_number s.classes e.parent) _ t fresh.1 in
    let room = guard_ok (nat_le CLASS_LIMIT (length s.classes)) (here flaws.Limit) _ t parent.2 in
    let start : ClassDraft = record { slots = s.slots; class_slots = inherited_slots s.classes parent.0 } in
    let ordinary = bind_fold (inside lists.Slots) (slot_after sets (length s.classes)) 0 start e.slots _ t room.1 in
    let own = bind_fold (inside lists.Links) (link_after all e.name (length s.classes)) 0 ordinary.0 e.links _ t ordinary.2 in
    let first : AreNew s start = record { longer = omega arith; before = λ n d lt at. at; apart = begun s far parent.0 (parent_within s.classes e.parent parent.0 parent.1) } in
    let one : AreNew s ordinary.0 = try_fold_keeps (AreNew s) (slot_after sets (length s.classes)) (λ g h d. slot_apart s sets (length s.classes) g h d) start ordinary.0 e.slots first ordinary.1 in
    let two : AreNew s own.0 = try_fold_keeps (AreNew s) (link_after all e.name (length s.classes)) (λ g h d. link_apart s all e.name (length s.classes) g h d) ordinary.0 own.0 e.links one own.1 in
    let class : Class = record { name = e.name; parent = parent.0; slots = own.0.class_slots } in
    subst AreSoFar (same_ok _ t own.2) (joined s class own.0 refl two far)

pub classes_named : (sets : List LabelSet) (all entries : List ClassDeclaration) (t : SchemaDraft)
    → try_fold (class_after sets all) (record { classes = []; slots = [] }) entries ≡ Ok t
    → AreNamedApart t.classes t.slots
classes_named sets all entries t made = try_fold_keeps AreSoFar (class_after sets all) (λ s u e. named_after sets all s u e) (record { classes = []; slots = [] }) t entries (λ c lt. absurd (omega (arith, lt))) made
