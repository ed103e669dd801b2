-- The slots of the class that the walk reads: each is found by its name, and its link leads back.
use Rattle.std.proofs.Common.{◌≡◌, ℕ, ◌+◌, ◌<◌, ◌≤◌, inl, inr, ◌||◌, Bool, true, false, not, cond, List, [], ◌∷◌, ◌++◌, length, Option, Some, None, Ok, Err, refl, ap, sym, subst, ◌∙◌, arith, length-append}
use Rattle.std.specs.Prelude.{All, slice_get, find, if◌then◌else◌}
use Rattle.std.specs.Str.{bytes_eq}
use Rattle.std.specs.List.{list_any}
use Rattle.std.specs.Option.{option_map_or}
use Rattle.std.specs.Cmp.Lexicographic.{bytes_decides}
use Rattle.std.proofs.lemmas.List.Elements.{All-push, All-weaker}
use Rattle.bb_basis.specs.Results.{ok_or}
use Rattle.bb_schema_form.specs.Document.{SlotDeclaration, LinkDeclaration, ClassDeclaration}
use Rattle.bb_schema_classes.specs.declared.fault.SchemaFlaw.TheVariants as flaws
use Rattle.bb_schema_classes.specs.Faults.{here}
use Rattle.bb_schema_classes.specs.declared.label_set.LabelSet.{LabelSet}
use Rattle.bb_schema_classes.specs.declared.draft.Draft.{Draft}
use Rattle.bb_schema_classes.specs.declared.draft.DraftContent.{DraftContent}
use Rattle.bb_schema_classes.specs.declared.draft.LinkDraft.{LinkDraft}
use Rattle.bb_schema_classes.specs.declared.draft.DraftContent.TheVariants as drafts
use Rattle.bb_basis.specs.Names.{is_name}
use Rattle.bb_schema_classes.specs.Drafts.{ClassDraft, draft_has_name, has_slot_named, is_full, with_slot}
use Rattle.bb_schema_classes.specs.SlotReading.{default_value, is_long, slot_after}
use Rattle.bb_schema_classes.specs.LinkReading.{first_named, leads_back, drafted_link, link_after}
use Rattle.bb_basis.proofs.ResultLemmas.{bind_ok, guard_ok, ok_or_ok, same_ok}
use Rattle.bb_basis.proofs.AppendLemmas.{some_within, snoc_old, snoc_new, snoc_cases}
use Rattle.bb_basis.proofs.SearchLemmas.{find_front, find_after, find_same, any_same}

-- ---- searches

not_false : (b : Bool) → not b ≡ false → b ≡ true
not_false true h = refl
not_false false h = absurd cc

pub itself : (a : List ℕ) → bytes_eq a a ≡ true
itself a = (bytes_decides a a).1 refl

old_name : (slots : List Draft) (d : Draft) (name : List ℕ) (n : ℕ) → n < length slots
    → draft_has_name (slots ++ d ∷ []) name n ≡ draft_has_name slots name n
unfolding draft_has_name
old_name slots d name n lt = ap (λ (o : Option Draft). option_map_or (λ t. bytes_eq name t.name) o false) (snoc_old slots d n lt)

new_name : (slots : List Draft) (d : Draft) → draft_has_name (slots ++ d ∷ []) d.name (length slots) ≡ true
unfolding draft_has_name
new_name slots d = ap (λ (o : Option Draft). option_map_or (λ t. bytes_eq d.name t.name) o false) (snoc_new slots d) ∙ itself d.name

-- what was found among slots that are there is found when one more comes
still_found : (slots : List Draft) (d : Draft) (name : List ℕ) (class_slots more : List ℕ) (n : ℕ)
    → All (λ m. m < length slots) class_slots → find (draft_has_name slots name) class_slots ≡ Some n
    → find (draft_has_name (slots ++ d ∷ []) name) (class_slots ++ more) ≡ Some n
still_found slots d name class_slots more n all h =
    find_front (draft_has_name (slots ++ d ∷ []) name) class_slots more n (find_same (draft_has_name (slots ++ d ∷ []) name) (draft_has_name slots name) (λ m. m < length slots) class_slots all (λ m lt. old_name slots d name m lt) ∙ h)

new_found : (slots : List Draft) (d : Draft) (class_slots : List ℕ) → All (λ m. m < length slots) class_slots
    → list_any (draft_has_name slots d.name) class_slots ≡ false → find (draft_has_name (slots ++ d ∷ []) d.name)
    (class_slots ++ length slots ∷ []) ≡ Some (length slots)
new_found slots d class_slots all fresh =
    find_after (draft_has_name (slots ++ d ∷ []) d.name) class_slots (length slots ∷ []) (any_same (draft_has_name (slots ++ d ∷ []) d.name) (draft_has_name slots d.name) (λ m. m < length slots) class_slots all (λ m lt. old_name slots d d.name m lt) ∙ fresh)
    ∙ ap (λ b. cond b (Some (length slots)) None) (new_name slots d)

-- ---- the slots of the class that is read

-- the class of the walk has the link slot of the entry, and finds it by its name
pub record Held (slots : List Draft) (owner : ℕ) (class_slots : List ℕ) (l : LinkDeclaration) : Type 0 where
  pub number : ℕ
  pub found : find (draft_has_name slots l.name) class_slots ≡ Some number
  pub is : slice_get slots number ≡ Some (record { name = l.name; owner = owner; content = drafts.Link (drafted_link l) })

-- the entry of a link slot
abbrev pub declared : List ℕ → LinkDraft → LinkDeclaration
declared name l = record { name = name; to = l.to; many = l.many; inverse = l.inverse; owns = l.owns }

-- the link of a slot of the class of the name leads back
abbrev pub LeadsBackIn : List ClassDeclaration → List ℕ → List ℕ → DraftContent → Type 0
LeadsBackIn all class name (drafts.Default v) = Unit {0}
LeadsBackIn all class name (drafts.Link l) = (target : ClassDeclaration) × (first_named (λ c. c.name) l.to all ≡ Some target) × (leads_back target class (declared name l) ≡ true)

-- a slot of the class that is read, from the number old on
pub record Own (all : List ClassDeclaration) (class : List ℕ) (owner : ℕ) (g : ClassDraft) (n : ℕ) (t : Draft) : Type 0 where
  pub owned : t.owner ≡ owner
  pub found : find (draft_has_name g.slots t.name) g.class_slots ≡ Some n
  pub back : LeadsBackIn all class t.name t.content

pub record Grows (all : List ClassDeclaration) (class : List ℕ) (owner : ℕ) (before : List Draft) (g : ClassDraft) : Type 0 where
  pub longer : length before ≤ length g.slots
  pub class_slots : All (λ n. n < length g.slots) g.class_slots
  pub old : (n : ℕ) → n < length before → slice_get g.slots n ≡ slice_get before n
  pub own : (n : ℕ) (t : Draft) → length before ≤ n → slice_get g.slots n ≡ Some t → Own all class owner g n t

grow : (all : List ClassDeclaration) (class : List ℕ) (owner : ℕ) (before : List Draft) (g : ClassDraft) (d : Draft)
    → Grows all class owner before g → has_slot_named g d.name ≡ false → d.owner ≡ owner
    → LeadsBackIn all class d.name d.content → Grows all class owner before (with_slot g d)
grow all class owner before g d well fresh owned back =
    let long : length (g.slots ++ d ∷ []) ≡ length g.slots + 1 = length-append g.slots (d ∷ []) in
    record {
      longer = omega (arith, long, well.longer);
      class_slots = All-push (λ n. n < length (g.slots ++ d ∷ [])) g.class_slots (length g.slots) (All-weaker (λ n. n < length g.slots) (λ n. n < length (g.slots ++ d ∷ [])) (λ n lt. omega (arith, long, lt)) g.class_slots well.class_slots) (omega (arith, long));
      old = λ n lt. snoc_old g.slots d n (omega (arith, lt, well.longer)) ∙ well.old n lt;
      own = λ n t le at. elim (snoc_cases g.slots d n t at) [
        | inl before' ↦ let o = well.own n t le before'.1 in record { owned = o.owned; found = still_found g.slots d t.name g.class_slots (length g.slots ∷ []) n well.class_slots o.found; back = o.back }
        | inr new ↦ record {
          owned = ap (λ (u : Draft). u.owner) (sym new.1) ∙ owned;
          found = subst (λ (u : Draft). find (draft_has_name (g.slots ++ d ∷ []) u.name) (g.class_slots ++ length g.slots ∷ []) ≡ Some n) new.1 (new_found g.slots d g.class_slots well.class_slots fresh ∙ ap (λ m. Some m) (sym new.0));
          back = subst (λ (u : Draft). LeadsBackIn all class u.name u.content) new.1 back;
        }
      ];
    }

held_on : (g : ClassDraft) (d : Draft) (owner : ℕ) (l : LinkDeclaration) → All (λ n. n < length g.slots) g.class_slots
    → Held g.slots owner g.class_slots l → Held (g.slots ++ d ∷ []) owner (g.class_slots ++ length g.slots ∷ []) l
held_on g d owner l within held = record {
  number = held.number;
  found = still_found g.slots d l.name g.class_slots (length g.slots ∷ []) held.number within held.found;
  is = snoc_old g.slots d held.number (some_within g.slots held.number _ held.is) ∙ held.is;
}

pub slot_step : (sets : List LabelSet) (all : List ClassDeclaration) (class : List ℕ) (owner : ℕ) (before : List Draft)
    (g h : ClassDraft) (e : SlotDeclaration) → Grows all class owner before g → slot_after sets owner g e ≡ Ok h
    → Grows all class owner before h
unfolding slot_after
slot_step sets all class owner before g h e well made =
    let named = guard_ok (not (is_name e.name)) (here flaws.Name) _ h made in
    let fresh = guard_ok (has_slot_named g e.name) (here flaws.Twice) _ h named.1 in
    let value = bind_ok (default_value sets e.default) (λ value. if is_full g || is_long e.default then Err (here flaws.Limit) else Ok (with_slot g (record { name = e.name; owner = owner; content = drafts.Default value }))) h fresh.1 in
    let room = guard_ok (is_full g || is_long e.default) (here flaws.Limit) (Ok (with_slot g (record { name = e.name; owner = owner; content = drafts.Default value.0 }))) h value.2 in
    subst (Grows all class owner before) (same_ok _ h room.1) (grow all class owner before g (record { name = e.name; owner = owner; content = drafts.Default value.0 }) well fresh.0 refl tt)

-- what a link that was taken says
record LinkTaken (all : List ClassDeclaration) (class : List ℕ) (owner : ℕ) (g h : ClassDraft) (e : LinkDeclaration) : Type 0 where
  pub fresh : has_slot_named g e.name ≡ false
  pub target : ClassDeclaration
  pub there : first_named (λ c. c.name) e.to all ≡ Some target
  pub back : leads_back target class e ≡ true
  pub is : with_slot g (record { name = e.name; owner = owner; content = drafts.Link (drafted_link e) }) ≡ h

link_taken : (all : List ClassDeclaration) (class : List ℕ) (owner : ℕ) (g h : ClassDraft) (e : LinkDeclaration)
    → link_after all class owner g e ≡ Ok h → LinkTaken all class owner g h e
unfolding link_after
link_taken all class owner g h e made =
    let draft : Draft = record { name = e.name; owner = owner; content = drafts.Link (drafted_link e) } in
    let named = guard_ok (not (is_name e.name)) (here flaws.Name) _ h made in
    let fresh = guard_ok (has_slot_named g e.name) (here flaws.Twice) _ h named.1 in
    let target = bind_ok (ok_or (first_named (λ c. c.name) e.to all) (here flaws.Unknown)) (λ target. if not (leads_back target class e) then Err (here flaws.Inverse) else if is_full g then Err (here flaws.Limit) else Ok (with_slot g draft)) h fresh.1 in
    let back = guard_ok (not (leads_back target.0 class e)) (here flaws.Inverse) (if is_full g then Err (here flaws.Limit) else Ok (with_slot g draft)) h target.2 in
    let room = guard_ok (is_full g) (here flaws.Limit) (Ok (with_slot g draft)) h back.1 in
    record { fresh = fresh.0; target = target.0; there = ok_or_ok (here flaws.Unknown) _ target.0 target.1; back = not_false (leads_back target.0 class e) back.0; is = same_ok (with_slot g draft) h room.1 }

pub link_step : (all : List ClassDeclaration) (class : List ℕ) (owner : ℕ) (before : List Draft) (g h : ClassDraft)
    (e : LinkDeclaration) → Grows all class owner before g → link_after all class owner g e ≡ Ok h
    → Grows all class owner before h
link_step all class owner before g h e well made =
    let taken = link_taken all class owner g h e made in
    subst (Grows all class owner before) taken.is (grow all class owner before g (record { name = e.name; owner = owner; content = drafts.Link (drafted_link e) }) well taken.fresh refl (taken.target, taken.there, taken.back))

abbrev pub HeldIn : ℕ → ClassDraft → LinkDeclaration → Type 0
HeldIn owner g l = Held g.slots owner g.class_slots l

pub link_mark : (all : List ClassDeclaration) (class : List ℕ) (owner : ℕ) (before : List Draft) (g h : ClassDraft)
    (e : LinkDeclaration) → Grows all class owner before g → link_after all class owner g e ≡ Ok h → HeldIn owner h e
link_mark all class owner before g h e well made =
    let taken = link_taken all class owner g h e made in
    let draft : Draft = record { name = e.name; owner = owner; content = drafts.Link (drafted_link e) } in
    subst (λ (i : ClassDraft). HeldIn owner i e) taken.is (record { number = length g.slots; found = new_found g.slots draft g.class_slots well.class_slots taken.fresh; is = snoc_new g.slots draft })

pub link_stable : (all : List ClassDeclaration) (class : List ℕ) (owner : ℕ) (before : List Draft) (g h : ClassDraft)
    (l e : LinkDeclaration) → Grows all class owner before g → link_after all class owner g e ≡ Ok h
    → HeldIn owner g l → HeldIn owner h l
link_stable all class owner before g h l e well made held =
    let taken = link_taken all class owner g h e made in
    subst (λ (i : ClassDraft). HeldIn owner i l) taken.is (held_on g (record { name = e.name; owner = owner; content = drafts.Link (drafted_link e) }) owner l well.class_slots held)
