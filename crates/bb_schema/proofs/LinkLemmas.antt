-- The inverse of each link leads back, as the walk asked of it, so linking refuses nothing.
use Rattle.std.proofs.Common.{◌≡◌, ℕ, List, Option, Some, None, Ok, refl, ap, sym, subst, ◌∙◌}
use Rattle.std.specs.Prelude.{slice_get, option_map, option_and_then}
use Rattle.bb_basis.specs.Results.{try_map}
use Rattle.bb_basis.proofs.ResultLemmas.{same_ok}
use Rattle.bb_basis.proofs.MadeLemmas.{try_map-at, try_map-from, try_map-ok}
use Rattle.bb_schema_classes.specs.declared.class.Class.{Class}
use Rattle.bb_schema_classes.specs.declared.value.Value.{Value}
use Rattle.bb_schema_classes.specs.declared.kind.Link.{Link}
use Rattle.bb_schema_classes.specs.declared.draft.Draft.{Draft}
use Rattle.bb_schema_classes.specs.declared.draft.DraftContent.{DraftContent}
use Rattle.bb_schema_classes.specs.declared.draft.DraftContent.TheVariants as drafts
use Rattle.bb_schema_classes.specs.declared.draft.LinkDraft.{LinkDraft}
use Rattle.bb_schema_classes.specs.declared.draft.SchemaDraft.{SchemaDraft}
use Rattle.bb_schema_classes.specs.Resolution.{resolved_link}
use Rattle.bb_schema_classes.specs.Fits.{LeadsBy, ArePaired}
use Rattle.bb_schema.specs.declared.slot.Slot.{Slot}
use Rattle.bb_schema.specs.declared.slot.Content.TheVariants as contents
use Rattle.bb_schema.specs.Slots.{link_in, link_of}
use Rattle.bb_schema.specs.Resolution.{resolved_slot}
use Rattle.bb_schema.specs.Fits.{IsCoupled}

-- a slot made of a link, by its numbers
abbrev linked : Draft → Link → Slot
linked d l = record { name = d.name; owner = d.owner; content = contents.Link l }

-- what linking makes of a draft
draft_gives : (classes : List Class) (slots : List Draft) (d : Draft) (named : LinkDraft) (l : Link)
    → d.content ≡ drafts.Link named → resolved_link classes slots named ≡ Ok l
    → resolved_slot classes slots d ≡ Ok (linked d l)
unfolding resolved_slot
draft_gives classes slots d named l is made = rw (is, made) refl

link_gives : (s : SchemaDraft) (d : Draft) (l : Link) → LeadsBy s d.content l
    → resolved_slot s.classes s.slots d ≡ Ok (linked d l)
link_gives s d l leads = draft_gives s.classes s.slots d leads.named l leads.is leads.gives

default_gives : (classes : List Class) (slots : List Draft) (d : Draft) (v : Value) → d.content ≡ drafts.Default v
    → resolved_slot classes slots d ≡ Ok (record { name = d.name; owner = d.owner; content = contents.Default v })
unfolding resolved_slot
default_gives classes slots d v is = rw is refl

link_there : (o : Option Slot) (l : Link) → option_and_then (λ t. link_in t.content) o ≡ Some l
    → (x : Slot) × (o ≡ Some x) × (link_in x.content ≡ Some l)
link_there None l h = absurd cc
link_there (Some x) l h = (x, refl, h)

some_same : {X : Type 0} (x y : X) → (let o : Option X = Some x in o) ≡ Some y → x ≡ y
some_same x y h = cc

one_coupled : (made : List Slot) (n : ℕ) (l back : Link) (name : List ℕ) (owner : ℕ)
    → slice_get made l.inverse ≡ Some (record { name = name; owner = owner; content = contents.Link back })
    → owner ≡ l.to → back.inverse ≡ n → (l.inverse ≡ n → ⊥) → IsCoupled made n l
one_coupled made n l back name owner at owned is apart = record {
  there = ap (option_map (λ (t : Slot). t.owner)) at ∙ ap (λ m. Some m) owned;
  other = apart;
  back = back;
  is = ap (option_and_then (λ (t : Slot). link_in t.content)) at;
  returns = is;
}

slot_coupled : (s : SchemaDraft) (made : List Slot) (n : ℕ) (t : Draft) (x : Slot) (content : DraftContent) (l : Link)
    → ArePaired s → try_map (resolved_slot s.classes s.slots) s.slots ≡ Ok made → slice_get s.slots n ≡ Some t
    → resolved_slot s.classes s.slots t ≡ Ok x → link_in x.content ≡ Some l → t.content ≡ content → IsCoupled made n l
slot_coupled s made n t x (drafts.Default v) l paired h at gives is_link is =
    let same = same_ok (record { name = t.name; owner = t.owner; content = contents.Default v }) x (sym (default_gives s.classes s.slots t v is) ∙ gives) in
    absurd (let e : None ≡ Some l = ap (λ (y : Slot). link_in y.content) same ∙ is_link in cc)
slot_coupled s made n t x (drafts.Link named) l paired h at gives is_link is =
    let pair = paired n t named at is in
    let there = try_map-at (resolved_slot s.classes s.slots) s.slots made pair.link.inverse pair.other (linked pair.other pair.back) h pair.there (link_gives s pair.other pair.back pair.returns) in
    let same = same_ok (linked t pair.link) x (sym (link_gives s t pair.link pair.leads) ∙ gives) in
    let link_is : pair.link ≡ l = some_same pair.link l (ap (λ (y : Slot). link_in y.content) same ∙ is_link) in
    subst (IsCoupled made n) link_is (one_coupled made n pair.link pair.back pair.other.name pair.other.owner there pair.owned pair.is pair.apart)

-- the inverse of each link leads back
pub links_couple : (s : SchemaDraft) (made : List Slot) → ArePaired s
    → try_map (resolved_slot s.classes s.slots) s.slots ≡ Ok made → (n : ℕ) (l : Link) → link_of made n ≡ Some l
    → IsCoupled made n l
links_couple s made paired h n l is_link =
    let slot = link_there (slice_get made n) l is_link in
    let from = try_map-from (resolved_slot s.classes s.slots) s.slots made n slot.0 h slot.1 in
    slot_coupled s made n from.0 slot.0 from.0.content l paired h from.1 from.2 slot.2 refl

-- a slot of paired links is resolved, and nothing is refused
linked_ok : (s : SchemaDraft) (n : ℕ) (t : Draft) (content : DraftContent) → ArePaired s
    → slice_get s.slots n ≡ Some t → t.content ≡ content → (x : Slot) × (resolved_slot s.classes s.slots t ≡ Ok x)
linked_ok s n t (drafts.Default v) paired at is = (record { name = t.name; owner = t.owner; content = contents.Default v }, default_gives s.classes s.slots t v is)
linked_ok s n t (drafts.Link named) paired at is = let pair = paired n t named at is in (linked t pair.link, link_gives s t pair.link pair.leads)

pub links_are_there : (s : SchemaDraft) → ArePaired s
    → (made : List Slot) × (try_map (resolved_slot s.classes s.slots) s.slots ≡ Ok made)
links_are_there s paired = try_map-ok (resolved_slot s.classes s.slots) s.slots (λ i t at. linked_ok s i t t.content paired at refl)
