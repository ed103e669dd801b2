-- A document of which each list was read from its members is what `serde_json` and the form give of all of them.
use Rattle.std.proofs.Common.{◌≡◌, ℕ, Bool, true, false, List, [], ◌∷◌, Ordering, Less, Equal, Greater, Some, Result, Ok, refl, sym, ◌∙◌, subst, Vec, bytes_eq}
use Rattle.std.specs.Prelude.{◌||◌, codes, if◌then◌else◌}
use Rattle.std.specs.List.{list_all, list_any}
use Rattle.std.specs.Ordering.{nat_cmp, match_ordering}
use Rattle.std.specs.Cmp.Lexicographic.{slice_cmp}
use Rattle.std.specs.declared.alloc.Global.{Global}
use Rattle.std.proofs.lemmas.Bool.{and_parts, and_from}
use Rattle.std.proofs.lemmas.Slice.Eq.{bytes_eq-Decides}
use denote.Ref.{Bor}
use Rattle.json.specs.Json as json
use Rattle.json.specs.Lex.{tokens}
use Rattle.json.specs.Value as borrowed
use Rattle.json.specs.declared.value.Value.{Value as Borrowed, Object as borrowed-object}
use Rattle.json.proofs.Trees.{view-Object as borrowed-Object}
use Rattle.serde_json.specs.Data.{Data, object, Members, no_members, member, put}
use Rattle.serde_json.specs.Read.{of_json, of_members, read}
use Rattle.serde_json.proofs.Views.{get_member-put, get_member-put_other}
use Rattle.bb_basis.specs.Results.{◌>>=◌, ok_or, try_map_at}
use Rattle.bb_basis.proofs.ResultLemmas.{bind_ok, ok_or_ok, same_ok}
use Rattle.bb_schema_form.specs.declared.document.UnitsDocument.{UnitsDocument}
use Rattle.bb_schema_form.specs.declared.fault.DocumentFault.{DocumentFault}
use Rattle.bb_schema_form.specs.declared.fault.DocumentFault.TheVariants as faults
use Rattle.bb_schema_form.specs.declared.place.ListKey.{ListKey}
use Rattle.bb_schema_form.specs.declared.place.ListKey.TheVariants as lists
use Rattle.bb_schema_form.specs.Faults.{misshapen, inside}
use Rattle.bb_schema_form.specs.Places.{list_key}
use Rattle.bb_schema_form.specs.Quick.{entries_of, listed, list_keys, document_of}
use Rattle.bb_schema_form.specs.Shapes.{as_list, keys_of, list_at}
use Rattle.bb_schema_form.specs.UnitsDocument.{UnitDeclaration, FirstLinkDeclaration, MemberDeclaration, unit_of, first_link_of, member_of, units_declaration, units_declaration_of, units_document_of}

abbrev Member : Type 0
Member = Bor (List ℕ) × Borrowed Global

-- ---- the keys that were put

abbrev pub among : List ℕ → Bool
among k = list_any (bytes_eq k) list_keys

put_at : (p : List ℕ → Bool) (o : Ordering) (k l : List ℕ) (d e : Data) (ms : Members) → p k ≡ true → list_all p (keys_of (member l e ms)) ≡ true → list_all p (keys_of (put k d ms)) ≡ true
    → list_all p (keys_of (match_ordering o (member k d (member l e ms)) (member l d ms) (member l e (put k d ms)))) ≡ true
put_at p Less k l d e ms one all later = and_from (p k) _ one all
put_at p Equal k l d e ms one all later = all
put_at p Greater k l d e ms one all later = and_from (p l) _ (and_parts (p l) _ all).0 later

keys_put : (p : List ℕ → Bool) (k : List ℕ) (d : Data) (ms : Members) → p k ≡ true → list_all p (keys_of ms) ≡ true → list_all p (keys_of (put k d ms)) ≡ true
keys_put p k d no_members one all = and_from (p k) true one refl
keys_put p k d (member l e ms) one all = put_at p (slice_cmp nat_cmp k l) k l d e ms one all (keys_put p k d ms one (and_parts (p l) _ all).1)

-- ---- one list of the document

module _ {X : Type 0} (list : ListKey) (form : Data → Result X DocumentFault) where
  -- the members have this list
  abbrev Holds : Members → List X → Type 0
  Holds ms ys = (ds : List Data) × (list_at (list_key list) (object ms) ≡ Some ds) × (try_map_at (inside list) form 0 ds ≡ Ok ys)

  given : (j : json.Json) (ys : List X) → entries_of list form j ≡ Ok ys → (d : Data) × (of_json j ≡ Some d)
  given j ys h =
      let one = bind_ok (ok_or (of_json j) faults.Json) (λ d. ok_or (as_list d) misshapen >>= try_map_at (inside list) form 0) ys h in
      (one.0, ok_or_ok faults.Json (of_json j) one.0 one.1)

  put_here : (k : List ℕ) (j : json.Json) (d : Data) (ms : Members) (ys : List X) → k ≡ list_key list → of_json j ≡ Some d → entries_of list form j ≡ Ok ys → Holds (put k d ms) ys
  put_here k j d ms ys same read h =
      let one : (ok_or (as_list d) misshapen >>= try_map_at (inside list) form 0) ≡ Ok ys = sym (rw read) ∙ h in
      let items = bind_ok (ok_or (as_list d) misshapen) (try_map_at (inside list) form 0) ys one in
      (items.0, rw (← same, get_member-put k d ms) (ok_or_ok misshapen (as_list d) items.0 items.1), items.2)

  put_other : (k : List ℕ) (d : Data) (ms : Members) (ys : List X) → (list_key list ≡ k → ⊥) → Holds ms ys → Holds (put k d ms) ys
  put_other k d ms ys other has = (has.0, rw (get_member-put_other (list_key list) k d ms other) has.1, has.2)

  kept_at : (b : Bool) (k : List ℕ) (j : json.Json) (d : Data) (ms : Members) (before after : List X) → bytes_eq k (list_key list) ≡ b → of_json j ≡ Some d
      → (if b then entries_of list form j else Ok before) ≡ Ok after → Holds ms before → Holds (put k d ms) after
  kept_at true k j d ms before after is read h has = put_here k j d ms after ((bytes_eq-Decides k (list_key list)).0 is) read h
  kept_at false k j d ms before after is read h has =
      subst (Holds (put k d ms)) (same_ok before after h) (put_other k d ms before (λ (e : list_key list ≡ k). absurd (let yes : bytes_eq k (list_key list) ≡ true = (bytes_eq-Decides k (list_key list)).1 (sym e) in cc)) has)

-- ---- all three

abbrev Reads : List UnitDeclaration → List FirstLinkDeclaration → List MemberDeclaration → Members → Type 0
Reads us ls ss ms = Holds lists.Units unit_of ms us × Holds lists.Links first_link_of ms ls × Holds lists.Spaces member_of ms ss × (list_all among (keys_of ms) ≡ true)

some_given : (j : json.Json) (a b c : Bool) (us us' : List UnitDeclaration) (ls ls' : List FirstLinkDeclaration) (ss ss' : List MemberDeclaration) → (a || (b || (c || false))) ≡ true
    → (if a then entries_of lists.Units unit_of j else Ok us) ≡ Ok us' → (if b then entries_of lists.Links first_link_of j else Ok ls) ≡ Ok ls' → (if c then entries_of lists.Spaces member_of j else Ok ss) ≡ Ok ss'
    → (d : Data) × (of_json j ≡ Some d)
some_given j true b c us us' ls ls' ss ss' one u l s = given lists.Units unit_of j us' u
some_given j false true c us us' ls ls' ss ss' one u l s = given lists.Links first_link_of j ls' l
some_given j false false true us us' ls ls' ss ss' one u l s = given lists.Spaces member_of j ss' s
some_given j false false false us us' ls ls' ss ss' one u l s = absurd cc

abbrev unit_list : json.Json → Result (List UnitDeclaration) DocumentFault
unit_list = entries_of lists.Units unit_of

abbrev link_list : json.Json → Result (List FirstLinkDeclaration) DocumentFault
link_list = entries_of lists.Links first_link_of

abbrev space_list : json.Json → Result (List MemberDeclaration) DocumentFault
space_list = entries_of lists.Spaces member_of

members_with_one : (k : List ℕ) (j : json.Json) (ms : json.Members) (made all : Members) (d : Data) → of_json j ≡ Some d → of_members ms (put k d made) ≡ Some all → of_members (json.member k j ms) made ≡ Some all
members_with_one k j ms made all d read others = rw read others

all_read : (ms : List Member) (made : Members) (us us' : List UnitDeclaration) (ls ls' : List FirstLinkDeclaration) (ss ss' : List MemberDeclaration) → list_all (λ m. among m.0.now) ms ≡ true
    → listed (codes "units") unit_list us (borrowed.members_view ms) ≡ Ok us' → listed (codes "links") link_list ls (borrowed.members_view ms) ≡ Ok ls' → listed (codes "spaces") space_list ss (borrowed.members_view ms) ≡ Ok ss'
    → Reads us ls ss made → (all : Members) × (of_members (borrowed.members_view ms) made ≡ Some all) × Reads us' ls' ss' all
unfolding listed
all_read [] made us us' ls ls' ss ss' keys u l s reads =
    (made, refl, (subst (Holds lists.Units unit_of made) (same_ok us us' u) reads.0, subst (Holds lists.Links first_link_of made) (same_ok ls ls' l) reads.1, subst (Holds lists.Spaces member_of made) (same_ok ss ss' s) reads.2, reads.3))
all_read (m ∷ ms) made us us' ls ls' ss ss' keys u l s reads =
    let k = m.0.now in
    let j = borrowed.value_view m.1 in
    let both = and_parts (among k) _ keys in
    let u1 = bind_ok (if bytes_eq k (codes "units") then unit_list j else Ok us) (λ next. listed (codes "units") unit_list next (borrowed.members_view ms)) us' u in
    let l1 = bind_ok (if bytes_eq k (codes "links") then link_list j else Ok ls) (λ next. listed (codes "links") link_list next (borrowed.members_view ms)) ls' l in
    let s1 = bind_ok (if bytes_eq k (codes "spaces") then space_list j else Ok ss) (λ next. listed (codes "spaces") space_list next (borrowed.members_view ms)) ss' s in
    let d = some_given j (bytes_eq k (codes "units")) (bytes_eq k (codes "links")) (bytes_eq k (codes "spaces")) us u1.0 ls l1.0 ss s1.0 both.0 u1.1 l1.1 s1.1 in
    let now : Reads u1.0 l1.0 s1.0 (put k d.0 made) = (
      kept_at lists.Units unit_of (bytes_eq k (codes "units")) k j d.0 made us u1.0 refl d.1 u1.1 reads.0,
      kept_at lists.Links first_link_of (bytes_eq k (codes "links")) k j d.0 made ls l1.0 refl d.1 l1.1 reads.1,
      kept_at lists.Spaces member_of (bytes_eq k (codes "spaces")) k j d.0 made ss s1.0 refl d.1 s1.1 reads.2,
      keys_put among k d.0 made both.0 reads.3,
    ) in
    let rest = all_read ms (put k d.0 made) u1.0 us' l1.0 ls' s1.0 ss' both.1 u1.2 l1.2 s1.2 now in
    (rest.0, members_with_one k j (borrowed.members_view ms) made rest.0 d.0 d.1 rest.1, rest.2)

pub document_made : (ms : Vec Member Global) (items : List Member) (document : UnitsDocument) → items ≡ ms.items → list_all (λ m. among m.0.now) items ≡ true
    → listed (codes "units") unit_list [] (borrowed.members_view items) ≡ Ok (units_declaration document).units
    → listed (codes "links") link_list [] (borrowed.members_view items) ≡ Ok (units_declaration document).links
    → listed (codes "spaces") space_list [] (borrowed.members_view items) ≡ Ok (units_declaration document).spaces
    → document_of (borrowed.value_view (borrowed-object ms)) ≡ Ok (units_declaration document)
unfolding units_declaration_of try_map_at
document_made ms items document is keys u l s =
    let all = all_read items no_members [] _ [] _ [] _ keys u l s (([], refl, refl), ([], refl, refl), ([], refl, refl), refl) in
    let reads = all.2 in
    rw (borrowed-Object ms, ← is, all.1, reads.3, reads.0.1, reads.0.2, reads.1.1, reads.1.2, reads.2.1, reads.2.2)

-- ---- the text

pub text_made : (text : List ℕ) (j : json.Json) → json.value 127 (tokens text) ≡ Some (j, []) → units_document_of text ≡ document_of j
unfolding units_document_of
text_made text j h = rw h
