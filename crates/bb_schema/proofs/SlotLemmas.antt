-- What holds of slots whose links have names holds of those that have numbers.
use Rattle.std.proofs.Common.{◌≡◌, ℕ, pos, true, List, [], ◌∷◌, ◌++◌, Ok, refl, ap, sym, ◌∙◌}
use Rattle.std.specs.Prelude.{codes}
use Rattle.bb_basis.specs.Results.{◌>>=◌, try_map}
use Rattle.bb_basis.proofs.ResultLemmas.{bind_ok, same_ok}
use Rattle.bb_basis.proofs.MadeLemmas.{try_map-from}
use Rattle.bb_schema_classes.specs.declared.class.Class.{Class}
use Rattle.bb_schema_classes.specs.declared.value.Value.{Value}
use Rattle.bb_schema_classes.specs.declared.value.Value.TheVariants as values
use Rattle.bb_schema_classes.specs.declared.draft.Draft.{Draft}
use Rattle.bb_schema_classes.specs.declared.draft.DraftContent.TheVariants as contents
use Rattle.bb_schema_classes.specs.Inheritance.{descends_in}
use Rattle.bb_schema_classes.specs.Focus.{focus_drafts}
use Rattle.bb_schema_classes.specs.Fits.{StartsWith, OwnsDrafts, AreNamedApart}
use Rattle.bb_schema.specs.declared.slot.Slot.{Slot}
use Rattle.bb_schema.specs.declared.slot.Content.TheVariants as slots
use Rattle.bb_schema.specs.Resolution.{resolved_content, resolved_slot}
use Rattle.bb_schema.specs.Focus.{focus_slots}
use Rattle.bb_schema.specs.Fits.{OwnsSlots, HasOwnNames}

-- ---- the slots of `focus` are as they were

module _ (classes : List Class) (drafts : List Draft) where
  plain : (name : List ℕ) (v : Value)
      → resolved_slot classes drafts (record { name = name; owner = 0; content = contents.Default v }) ≡ Ok (record { name = name; owner = 0; content = slots.Default v })
  unfolding resolved_slot
  plain name v = refl

  peeled : (d : Draft) (t : Slot) (more : List Draft) (made : List Slot) → resolved_slot classes drafts d ≡ Ok t
      → try_map (resolved_slot classes drafts) (d ∷ more) ≡ Ok made
      → (others : List Slot) × (made ≡ t ∷ others) × (try_map (resolved_slot classes drafts) more ≡ Ok others)
  unfolding try_map
  peeled d t more made is h =
      let one = bind_ok (resolved_slot classes drafts d) (λ first. try_map (resolved_slot classes drafts) more >>= λ others. Ok (first ∷ others)) made h in
      let rest = bind_ok (try_map (resolved_slot classes drafts) more) (λ others. Ok (one.0 ∷ others)) made one.2 in
      (rest.0, sym (same_ok (one.0 ∷ rest.0) made rest.2) ∙ ap (λ (x : Slot). x ∷ rest.0) (same_ok one.0 t (sym one.1 ∙ is)), rest.1)

  abbrev source : Slot
  source = record { name = codes "source"; owner = 0; content = slots.Default (values.Text []) }

  abbrev area : Slot
  area = record { name = codes "area"; owner = 0; content = slots.Default (values.Text []) }

  abbrev weight : Slot
  weight = record { name = codes "weight"; owner = 0; content = slots.Default (values.Int (pos 0)) }

  abbrev active : Slot
  active = record { name = codes "active"; owner = 0; content = slots.Default (values.Bool true) }

  resolved_front : (more : List Draft) (made : List Slot) → try_map (resolved_slot classes drafts)
      (focus_drafts ++ more) ≡ Ok made → StartsWith made focus_slots
  resolved_front more made h =
      let a = peeled _ source _ made (plain (codes "source") (values.Text [])) h in
      let b = peeled _ area _ a.0 (plain (codes "area") (values.Text [])) a.2 in
      let c = peeled _ weight _ b.0 (plain (codes "weight") (values.Int (pos 0))) b.2 in
      let d = peeled _ active more c.0 (plain (codes "active") (values.Bool true)) c.2 in
      (d.0, a.1 ∙ ap (λ xs. source ∷ xs) (b.1 ∙ ap (λ xs. area ∷ xs) (c.1 ∙ ap (λ xs. weight ∷ xs) d.1)))

pub slots_focus : (classes : List Class) (drafts : List Draft) (made : List Slot) → StartsWith drafts focus_drafts
    → try_map (resolved_slot classes drafts) drafts ≡ Ok made → StartsWith made focus_slots
slots_focus classes drafts made starts h = resolved_front classes drafts starts.0 made (ap (try_map (resolved_slot classes drafts)) (sym starts.1) ∙ h)

-- ---- owners

owner_same : (classes : List Class) (drafts : List Draft) (d : Draft) (t : Slot)
    → resolved_slot classes drafts d ≡ Ok t → d.owner ≡ t.owner
unfolding resolved_slot
owner_same classes drafts d t made =
    let content = bind_ok (resolved_content classes drafts d.content) (λ content. Ok (record { name = d.name; owner = d.owner; content = content })) t made in
    ap (λ (u : Slot). u.owner) (same_ok (record { name = d.name; owner = d.owner; content = content.0 }) t content.2)

pub slots_owned : (classes : List Class) (drafts : List Draft) (slots : List Slot) → OwnsDrafts classes drafts
    → try_map (resolved_slot classes drafts) drafts ≡ Ok slots → OwnsSlots classes slots
slots_owned classes drafts slots owned made c n t lt at =
    let from = try_map-from (resolved_slot classes drafts) drafts slots n t made at in
    owned c n from.0 lt from.1 ∙ ap (descends_in classes c) (owner_same classes drafts from.0 t from.2)

-- ---- names

name_same : (classes : List Class) (drafts : List Draft) (d : Draft) (t : Slot)
    → resolved_slot classes drafts d ≡ Ok t → d.name ≡ t.name
unfolding resolved_slot
name_same classes drafts d t made =
    let content = bind_ok (resolved_content classes drafts d.content) (λ content. Ok (record { name = d.name; owner = d.owner; content = content })) t made in
    ap (λ (u : Slot). u.name) (same_ok (record { name = d.name; owner = d.owner; content = content.0 }) t content.2)

pub slots_named_apart : (classes : List Class) (drafts : List Draft) (slots : List Slot)
    → AreNamedApart classes drafts → try_map (resolved_slot classes drafts) drafts ≡ Ok slots
    → HasOwnNames classes slots
slots_named_apart classes drafts slots apart made c m n t u lt first second at there same =
    let d = try_map-from (resolved_slot classes drafts) drafts slots m t made at in
    let e = try_map-from (resolved_slot classes drafts) drafts slots n u made there in
    (apart c lt).apart m n d.0 e.0 first second d.1 e.1 (name_same classes drafts d.0 t d.2 ∙ (same ∙ sym (name_same classes drafts e.0 u e.2)))
