-- The walk has refused each link whose inverse does not lead back.
use Rattle.std.proofs.Common.{◌&&◌, ◌≡◌, ℕ, ◌<◌, inl, inr, Bool, true, false, not, cond, List, [], ◌∷◌, ◌++◌, length, map, Option, Some, None, Ok, refl, ap, sym, subst, ◌∙◌, arith}
use Rattle.std.specs.Prelude.{All, nat_le, slice_get, position, find, if◌then◌else◌}
use Rattle.std.specs.Str.{bytes_eq}
use Rattle.std.specs.List.{list_any, AllByRecursion}
use Rattle.std.specs.Option.{option_map_or}
use Rattle.std.specs.Cmp.Lexicographic.{bytes_decides}
use Rattle.std.proofs.lemmas.Bool.{and_parts, cases_lt}
use Rattle.std.proofs.lemmas.List.Elements.{All-nil, All-weaker}
use Rattle.bb_basis.specs.Results.{try_fold}
use Rattle.bb_schema_form.specs.Document.{SlotDeclaration, LinkDeclaration, ClassDeclaration}
use Rattle.bb_schema_classes.specs.declared.read.classes.TheConstants.{CLASS_LIMIT}
use Rattle.bb_schema_classes.specs.declared.fault.SchemaFlaw.TheVariants as flaws
use Rattle.bb_schema_classes.specs.Faults.{here, inside}
use Rattle.bb_schema_form.specs.declared.place.ListKey.TheVariants as lists
use Rattle.bb_basis.proofs.PlacedLemmas.{bind_fold}
use Rattle.bb_schema_classes.specs.declared.label_set.LabelSet.{LabelSet}
use Rattle.bb_schema_classes.specs.declared.class.Class.{Class}
use Rattle.bb_schema_classes.specs.declared.draft.Draft.{Draft}
use Rattle.bb_schema_classes.specs.declared.draft.DraftContent.TheVariants as drafts
use Rattle.bb_schema_classes.specs.declared.draft.LinkDraft.{LinkDraft}
use Rattle.bb_basis.specs.Names.{is_name}
use Rattle.bb_schema_classes.specs.Inheritance.{slots_in}
use Rattle.bb_schema_classes.specs.Drafts.{ClassDraft, SchemaDraft, draft_has_name}
use Rattle.bb_schema_classes.specs.SlotReading.{slot_after}
use Rattle.bb_schema_classes.specs.LinkReading.{first_named, link_entry, leads_to, may_own, is_back, drafted_link, link_after}
use Rattle.bb_schema_classes.specs.ClassReading.{parent_number, inherited_slots, class_after}
use Rattle.bb_schema_classes.specs.Resolution.{resolved_link}
use Rattle.bb_schema_classes.specs.Fits.{IsPaired, ArePaired}
use Rattle.bb_basis.proofs.ResultLemmas.{bind_ok, guard_ok, same_ok, try_fold_keeps}
use Rattle.bb_basis.proofs.AppendLemmas.{some_within, snoc_old, snoc_new, snoc_cases}
use Rattle.bb_basis.proofs.PositionLemmas.{spot, position_spot, or_last, spot_snoc, none_spot}
use Rattle.bb_basis.proofs.SearchLemmas.{find_same}
use Rattle.bb_basis.proofs.MadeLemmas.{Marked, try_fold_marks}
use Rattle.bb_basis.proofs.ListLemmas.{map-last}
use Rattle.std.proofs.lemmas.List.{length-map}
use Rattle.bb_schema_classes.proofs.HeldLemmas.{itself, Held, declared, LeadsBackIn, Grows, HeldIn, slot_step, link_step, link_mark, link_stable}

same_text : (a b : List ℕ) → bytes_eq a b ≡ true → a ≡ b
same_text a b h = (bytes_decides a b).0 h

-- ---- the classes that were read

-- a slot is found in its class by its name, and its link leads back
pub record Resolves (all : List ClassDeclaration) (s : SchemaDraft) (n : ℕ) (t : Draft) : Type 0 where
  pub class : Class
  pub at : slice_get s.classes t.owner ≡ Some class
  pub found : find (draft_has_name s.slots t.name) class.slots ≡ Some n
  pub back : LeadsBackIn all class.name t.name t.content

pub record Walks (all : List ClassDeclaration) (s : SchemaDraft) : Type 0 where
  pub class_slots : (c : ℕ) (k : Class) → slice_get s.classes c ≡ Some k → All (λ n. n < length s.slots) k.slots
  pub named : (c : ℕ) (k : Class) → slice_get s.classes c ≡ Some k → spot (bytes_eq k.name)
      (map (λ (j : Class). j.name) s.classes) ≡ Some c
  pub resolves : (n : ℕ) (t : Draft) → slice_get s.slots n ≡ Some t → Resolves all s n t

-- the class of an entry has all its links
pub record Declares (s : SchemaDraft) (e : ClassDeclaration) : Type 0 where
  pub number : ℕ
  pub class : Class
  pub at : slice_get s.classes number ≡ Some class
  pub name : class.name ≡ e.name
  pub links : (l : LinkDeclaration) → link_entry e l.name ≡ Some l → Held s.slots number class.slots l

record ClassTaken (sets : List LabelSet) (all : List ClassDeclaration) (s t : SchemaDraft) (e : ClassDeclaration) : Type 0 where
  pub fresh : list_any (bytes_eq e.name) (map (λ (k : Class). k.name) s.classes) ≡ false
  pub parent : Option ℕ
  pub ordinary : ClassDraft
  pub slots : try_fold (slot_after sets (length s.classes))
      (record { slots = s.slots; class_slots = inherited_slots s.classes parent }) e.slots ≡ Ok ordinary
  pub own : ClassDraft
  pub links : try_fold (link_after all e.name (length s.classes)) ordinary e.links ≡ Ok own
  pub is : (let made : SchemaDraft = record { classes = s.classes ++ record { name = e.name; parent = parent; slots = own.class_slots } ∷ []; slots = own.slots } in made) ≡ t

class_taken : (sets : List LabelSet) (all : List ClassDeclaration) (s t : SchemaDraft) (e : ClassDeclaration)
    → class_after sets all s e ≡ Ok t → ClassTaken sets all s t e
unfolding class_after
class_taken sets all s t e made =
    let named = guard_ok (not (is_name e.name)) (here flaws.Name) _ t made in
    let fresh = guard_ok (list_any (bytes_eq e.name) (map (λ (k : Class). k.name) s.classes)) (here flaws.Twice) _ t named.1 in
    let parent = bind_ok (parent_number s.classes e.parent) _ t fresh.1 in
    let room = guard_ok (nat_le CLASS_LIMIT (length s.classes)) (here flaws.Limit) _ t parent.2 in
    let ordinary = bind_fold (inside lists.Slots) (slot_after sets (length s.classes)) 0 (record { slots = s.slots; class_slots = inherited_slots s.classes parent.0 }) e.slots _ t room.1 in
    let own = bind_fold (inside lists.Links) (link_after all e.name (length s.classes)) 0 ordinary.0 e.links _ t ordinary.2 in
    record { fresh = fresh.0; parent = parent.0; ordinary = ordinary.0; slots = ordinary.1; own = own.0; links = own.1; is = same_ok _ t own.2 }

class_slots_there : (all : List ClassDeclaration) (s : SchemaDraft) (p : ℕ) (o : Option Class) → Walks all s
    → slice_get s.classes p ≡ o → All (λ n. n < length s.slots) (option_map_or (λ k. k.slots) o [])
class_slots_there all s p None walks at = All-nil (λ n. n < length s.slots)
class_slots_there all s p (Some k) walks at = walks.class_slots p k at

inherited_there : (all : List ClassDeclaration) (s : SchemaDraft) (parent : Option ℕ) → Walks all s
    → All (λ n. n < length s.slots) (inherited_slots s.classes parent)
inherited_there all s None walks = All-nil (λ n. n < length s.slots)
inherited_there all s (Some p) walks = class_slots_there all s p (slice_get s.classes p) walks refl

grows_from : (all : List ClassDeclaration) (class : List ℕ) (owner : ℕ) (s : SchemaDraft) (class_slots : List ℕ)
    → All (λ n. n < length s.slots) class_slots
    → Grows all class owner s.slots (record { slots = s.slots; class_slots = class_slots })
grows_from all class owner s class_slots within = record {
  longer = omega arith;
  class_slots = within;
  old = λ n lt. refl;
  own = λ n t le at. absurd (let lt = some_within s.slots n t at in omega arith);
}

-- what the walk over a class leaves
record Left (all : List ClassDeclaration) (s : SchemaDraft) (e : ClassDeclaration) (own : ClassDraft) : Type 0 where
  pub grows : Grows all e.name (length s.classes) s.slots own
  pub held : AllByRecursion (HeldIn (length s.classes) own) e.links

left_by : (sets : List LabelSet) (all : List ClassDeclaration) (s t : SchemaDraft) (e : ClassDeclaration)
    (taken : ClassTaken sets all s t e) → Walks all s → Left all s e taken.own
left_by sets all s t e taken walks =
    let P : ClassDraft → Type 0 = Grows all e.name (length s.classes) s.slots in
    let one : P taken.ordinary = try_fold_keeps P (slot_after sets (length s.classes)) (λ g h d. slot_step sets all e.name (length s.classes) s.slots g h d) (record { slots = s.slots; class_slots = inherited_slots s.classes taken.parent }) taken.ordinary e.slots
    (grows_from all e.name (length s.classes) s (inherited_slots s.classes taken.parent) (inherited_there all s taken.parent walks)) taken.slots in
    let two = try_fold_marks P (HeldIn (length s.classes)) (link_after all e.name (length s.classes)) (λ g h l. link_step all e.name (length s.classes) s.slots g h l) (λ g h l. link_mark all e.name (length s.classes) s.slots g h l)
    (λ g h l m. link_stable all e.name (length s.classes) s.slots g h l m) taken.ordinary taken.own e.links one taken.links in
    record { grows = two.kept; held = two.all }

name_same : (a b : List Draft) (name : List ℕ) (n : ℕ) → slice_get a n ≡ slice_get b n
    → draft_has_name a name n ≡ draft_has_name b name n
unfolding draft_has_name
name_same a b name n same = ap (λ (o : Option Draft). option_map_or (λ t. bytes_eq name t.name) o false) same

found_same : (a b : List Draft) (name : List ℕ) (class_slots : List ℕ) (n : ℕ) → All (λ m. m < length b) class_slots
    → ((m : ℕ) → m < length b → slice_get a m ≡ slice_get b m) → find (draft_has_name b name) class_slots ≡ Some n
    → find (draft_has_name a name) class_slots ≡ Some n
found_same a b name class_slots n within same h = find_same (draft_has_name a name) (draft_has_name b name) (λ m. m < length b) class_slots within (λ m lt. name_same a b name m (same m lt)) ∙ h

walks_on : (sets : List LabelSet) (all : List ClassDeclaration) (s t : SchemaDraft) (e : ClassDeclaration)
    → Walks all s → class_after sets all s e ≡ Ok t → Walks all t
walks_on sets all s t e walks made =
    let taken = class_taken sets all s t e made in
    let left = left_by sets all s t e taken walks in
    let k : Class = record { name = e.name; parent = taken.parent; slots = taken.own.class_slots } in
    let names = map (λ (j : Class). j.name) s.classes in
    subst (Walks all) taken.is (record {
      class_slots = λ c j at. elim (snoc_cases s.classes k c j at) [
        | inl old ↦ All-weaker (λ n. n < length s.slots) (λ n. n < length taken.own.slots) (λ n lt. omega (arith, lt, left.grows.longer)) j.slots (walks.class_slots c j old.1)
        | inr new ↦ subst (λ (i : Class). All (λ n. n < length taken.own.slots) i.slots) new.1 left.grows.class_slots
      ];
      named = λ c j at. elim (snoc_cases s.classes k c j at) [
        | inl old ↦ ap (spot (bytes_eq j.name)) (map-last (λ (i : Class). i.name) s.classes k) ∙ (spot_snoc (bytes_eq j.name) names e.name ∙ ap (λ o. or_last o (bytes_eq j.name e.name) (length names)) (walks.named c j old.1))
        | inr new ↦ subst (λ (i : Class). spot (bytes_eq i.name) (map (λ (i : Class). i.name) (s.classes ++ k ∷ [])) ≡ Some c) new.1
            (ap (spot (bytes_eq e.name)) (map-last (λ (i : Class). i.name) s.classes k) ∙ (spot_snoc (bytes_eq e.name) names e.name
            ∙ (ap (λ o. or_last o (bytes_eq e.name e.name) (length names)) (none_spot (bytes_eq e.name) names taken.fresh) ∙ (ap (λ b. cond b (Some (length names)) None) (itself e.name) ∙ ap (λ m. Some m) (length-map s.classes (λ (j : Class). j.name) ∙ sym new.0)))))
      ];
      resolves = λ n d at. elim (cases_lt n (length s.slots)) [
        | inl lt ↦
            let before = walks.resolves n d (sym (left.grows.old n lt) ∙ at) in
            record {
              class = before.class;
              at = snoc_old s.classes k d.owner (some_within s.classes d.owner before.class before.at) ∙ before.at;
              found = found_same taken.own.slots s.slots d.name before.class.slots n (walks.class_slots d.owner before.class before.at) left.grows.old before.found;
              back = before.back;
            }
        | inr le ↦
            let own = left.grows.own n d le at in
            record { class = k; at = ap (slice_get (s.classes ++ k ∷ [])) own.owned ∙ snoc_new s.classes k; found = own.found; back = own.back }
      ];
    })

first_by : {X : Type 0} (P : X → Type 0) (name_of : X → List ℕ) (name : List ℕ) (y x : X) (b : Bool) (rest : Option X)
    → P y → (rest ≡ Some x → P x × (bytes_eq name (name_of x) ≡ true)) → bytes_eq name (name_of y) ≡ b
    → cond b (Some y) rest ≡ Some x → P x × (bytes_eq name (name_of x) ≡ true)
first_by P name_of name y x true rest here below test h = let same : y ≡ x = cc in (subst P same here, subst (λ z. bytes_eq name (name_of z) ≡ true) same test)
first_by P name_of name y x false rest here below test h = below h

-- what is found by a name is one of the list, and has the name
first_in : {X : Type 0} (P : X → Type 0) (name_of : X → List ℕ) (name : List ℕ) (xs : List X) (x : X)
    → first_named name_of name xs ≡ Some x → AllByRecursion P xs → P x × (bytes_eq name (name_of x) ≡ true)
unfolding first_named
first_in P name_of name [] x h all = absurd cc
first_in P name_of name (y ∷ ys) x h all = first_by P name_of name y x (bytes_eq name (name_of y)) (find (λ z. bytes_eq name (name_of z)) ys) all.0 (λ g. first_in P name_of name ys x g all.1) refl h

link_by : (b : Bool) (o : Option LinkDeclaration) (l : LinkDeclaration) → (if b then None else o) ≡ Some l
    → o ≡ Some l
link_by true o l h = absurd cc
link_by false o l h = h

link_first : (e : ClassDeclaration) (name : List ℕ) (l : LinkDeclaration) → link_entry e name ≡ Some l
    → first_named (λ (m : LinkDeclaration). m.name) name e.links ≡ Some l
link_first e name l h = link_by (list_any (bytes_eq name) (map (λ (d : SlotDeclaration). d.name) e.slots)) (first_named (λ (m : LinkDeclaration). m.name) name e.links) l h

declares_now : (sets : List LabelSet) (all : List ClassDeclaration) (s t : SchemaDraft) (e : ClassDeclaration)
    → Walks all s → class_after sets all s e ≡ Ok t → Declares t e
declares_now sets all s t e walks made =
    let taken = class_taken sets all s t e made in
    let left = left_by sets all s t e taken walks in
    let k : Class = record { name = e.name; parent = taken.parent; slots = taken.own.class_slots } in
    subst (λ (u : SchemaDraft). Declares u e) taken.is (record {
      number = length s.classes;
      class = k;
      at = snoc_new s.classes k;
      name = refl;
      links = λ l h. (first_in (HeldIn (length s.classes) taken.own) (λ (m : LinkDeclaration). m.name) l.name e.links l (link_first e l.name l h) left.held).0;
    })

declares_still : (sets : List LabelSet) (all : List ClassDeclaration) (s t : SchemaDraft) (a e : ClassDeclaration)
    → Walks all s → class_after sets all s e ≡ Ok t → Declares s a → Declares t a
declares_still sets all s t a e walks made before =
    let taken = class_taken sets all s t e made in
    let left = left_by sets all s t e taken walks in
    let k : Class = record { name = e.name; parent = taken.parent; slots = taken.own.class_slots } in
    subst (λ (u : SchemaDraft). Declares u a) taken.is (record {
      number = before.number;
      class = before.class;
      at = snoc_old s.classes k before.number (some_within s.classes before.number before.class before.at) ∙ before.at;
      name = before.name;
      links = λ l h. let held = before.links l h in record {
        number = held.number;
        found = found_same taken.own.slots s.slots l.name before.class.slots held.number (walks.class_slots before.number before.class before.at) left.grows.old held.found;
        is = left.grows.old held.number (some_within s.slots held.number _ held.is) ∙ held.is;
      };
    })

-- all that the walk leaves
pub walk_leaves : (sets : List LabelSet) (all : List ClassDeclaration) (t : SchemaDraft)
    → try_fold (class_after sets all) (record { classes = []; slots = [] }) all ≡ Ok t
    → Marked (Walks all) Declares t all
walk_leaves sets all t made =
    try_fold_marks (Walks all) Declares (class_after sets all) (λ s u e. walks_on sets all s u e) (λ s u e. declares_now sets all s u e) (λ s u a e. declares_still sets all s u a e) (record { classes = []; slots = [] }) t all
    (record { class_slots = λ c k at. absurd cc; named = λ c k at. absurd cc; resolves = λ n d at. absurd cc }) made

-- ---- linking

link_gives : (classes : List Class) (slots : List Draft) (l : LinkDraft) (c : ℕ) (k : Class) (m : ℕ)
    → position (bytes_eq l.to) (map (λ (j : Class). j.name) classes) ≡ Some c → slice_get classes c ≡ Some k
    → find (draft_has_name slots l.inverse) k.slots ≡ Some m
    → resolved_link classes slots l ≡ Ok (record { to = c; many = l.many; inverse = m; owns = l.owns })
unfolding resolved_link
link_gives classes slots l c k m number at found =
    let class_slots : slots_in classes c ≡ k.slots = ap (λ (o : Option Class). option_map_or (λ j. j.slots) o []) at in
    rw (number, class_slots, found) refl

all_units : {X : Type 0} (xs : List X) → AllByRecursion (λ (x : X). Unit {0}) xs
all_units [] = tt
all_units (x ∷ xs) = (tt, all_units xs)

back_entry : (o : Option LinkDeclaration) (class : List ℕ) (l : LinkDeclaration) → is_back o class l ≡ true
    → (back : LinkDeclaration) × (o ≡ Some back) × (leads_to back class l.name ≡ true)
back_entry None class l h = absurd cc
back_entry (Some back) class l h = (back, refl, (and_parts (leads_to back class l.name) (may_own l back) h).0)

some_same : {X : Type 0} (x y : X) → (let o : Option X = Some x in o) ≡ Some y → x ≡ y
some_same x y h = cc

-- a link is not its own inverse
itself_refused : (b c : Bool) → b ≡ true → c ≡ true → not (b && c) ≡ true → ⊥
itself_refused b c first second refused = let e : false ≡ true = sym (ap not (let h : (b && c) ≡ true = rw (first, second) refl in h)) ∙ refused in absurd cc

pair_of : (all : List ClassDeclaration) (s : SchemaDraft) (n : ℕ) (t : Draft) (link : LinkDraft)
    → Marked (Walks all) Declares s all → slice_get s.slots n ≡ Some t → t.content ≡ drafts.Link link → IsPaired s n t
pair_of all s n t link left at is =
    let entry = declared t.name link in
    let names = map (λ (j : Class). j.name) s.classes in
    let mine = left.kept.resolves n t at in
    let found = subst (LeadsBackIn all mine.class.name t.name) is mine.back in
    let target = first_in (Declares s) (λ (c : ClassDeclaration). c.name) link.to all found.0 found.1 left.all in
    let theirs = target.0 in
    let to_is : link.to ≡ theirs.class.name = same_text link.to found.0.name target.1 ∙ sym theirs.name in
    let number : position (bytes_eq link.to) names ≡ Some theirs.number = ap (λ x. position (bytes_eq x) names) to_is ∙ (position_spot (bytes_eq theirs.class.name) names ∙ left.kept.named theirs.number theirs.class theirs.at) in
    let parts = and_parts (not (leads_to entry mine.class.name t.name)) (is_back (link_entry found.0 link.inverse) mine.class.name entry) found.2 in
    let back = back_entry (link_entry found.0 link.inverse) mine.class.name entry parts.1 in
    let ways = and_parts (bytes_eq back.0.to mine.class.name) (bytes_eq back.0.inverse t.name) back.2 in
    let name_is : link.inverse ≡ back.0.name = same_text link.inverse back.0.name (first_in (λ (l : LinkDeclaration). Unit {0}) (λ (l : LinkDeclaration). l.name) link.inverse found.0.links back.0 (link_first found.0 link.inverse back.0 back.1) (all_units found.0.links)).1 in
    let held = theirs.links back.0 (ap (link_entry found.0) (sym name_is) ∙ back.1) in
    let other : Draft = record { name = back.0.name; owner = theirs.number; content = drafts.Link (drafted_link back.0) } in
    let my_number : position (bytes_eq back.0.to) names ≡ Some t.owner = ap (λ x. position (bytes_eq x) names) (same_text back.0.to mine.class.name ways.0) ∙ (position_spot (bytes_eq mine.class.name) names ∙ left.kept.named t.owner mine.class mine.at) in
    record {
      link = record { to = theirs.number; many = link.many; inverse = held.number; owns = link.owns };
      leads = record {
        named = link;
        is = is;
        gives = link_gives s.classes s.slots link theirs.number theirs.class held.number number theirs.at (ap (λ x. find (draft_has_name s.slots x) theirs.class.slots) name_is ∙ held.found);
      };
      other = other;
      there = held.is;
      owned = refl;
      back = record { to = t.owner; many = back.0.many; inverse = n; owns = back.0.owns };
      returns = record {
        named = drafted_link back.0;
        is = refl;
        gives = link_gives s.classes s.slots (drafted_link back.0) t.owner mine.class n my_number mine.at (ap (λ x. find (draft_has_name s.slots x) mine.class.slots) (same_text back.0.inverse t.name ways.1) ∙ mine.found);
      };
      is = refl;
      apart = λ same.
          let two : t ≡ other = some_same t other (sym at ∙ (ap (slice_get s.slots) (sym same) ∙ held.is)) in
          let class : mine.class ≡ theirs.class = some_same mine.class theirs.class (sym mine.at ∙ (ap (λ (d : Draft). slice_get s.classes d.owner) two ∙ theirs.at)) in
          let to_mine : bytes_eq link.to mine.class.name ≡ true = subst (λ x. bytes_eq link.to x ≡ true) (to_is ∙ ap (λ (k : Class). k.name) (sym class)) (itself link.to) in
          let back_mine : bytes_eq link.inverse t.name ≡ true = subst (λ x. bytes_eq link.inverse x ≡ true) (name_is ∙ ap (λ (d : Draft). d.name) (sym two)) (itself link.inverse) in
          itself_refused (bytes_eq link.to mine.class.name) (bytes_eq link.inverse t.name) to_mine back_mine parts.0;
    }

-- the inverse of each link that the walk has let through leads back
pub walk_pairs : (sets : List LabelSet) (all : List ClassDeclaration) (s : SchemaDraft)
    → try_fold (class_after sets all) (record { classes = []; slots = [] }) all ≡ Ok s → ArePaired s
walk_pairs sets all s made n d link at is = pair_of all s n d link (walk_leaves sets all s made) at is
