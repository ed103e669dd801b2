-- The slots of a schema are of classes and lead to classes, so the laws of heirs and strikes hold of it.
use Rattle.std.proofs.Common.{◌≡◌, ℕ, true, length, Option, Some, None, refl, ap, ◌∙◌, arith}
use Rattle.std.specs.Prelude.{slice_get, option_map, option_and_then}
use Rattle.bb_basis.proofs.ClosureLemmas.{has}
use Rattle.bb_schema_classes.specs.declared.kind.Link.{Link}
use Rattle.bb_schema_classes.proofs.Laws.{All-at, climbs_sound}
use Rattle.bb_schema.specs.declared.slot.Slot.{Slot}
use Rattle.bb_schema.specs.Slots.{link_in}
use Rattle.bb_schema.specs.Heirs.{related_in}
use Rattle.bb_schema.specs.proving.Struck.{struck_table}
use Rattle.bb_schema.proofs.HeirLemmas.{AreSound, leads_by, heirs_first, heirs_closed}
use Rattle.bb_schema.proofs.StrikeLemmas.{struck_by, strikes_above}
use Rattle.bb_schema.proofs.StruckLemmas.{table_told}
use Rattle.bb_schema.specs.Schema.{Schema, descends}
use Rattle.bb_schema.specs.Fits.{IsSlot, Fits}
use Rattle.bb_schema.specs.Ownership.{heirs, strikes}
use Rattle.bb_schema.specs.proving.WellFormed.{IsStruck}

owner_is : (o : Option Slot) (c : ℕ) → option_map (λ t. t.owner) o ≡ Some c → (t : Slot) × (o ≡ Some t) × (t.owner ≡ c)
owner_is None c h = absurd cc
owner_is (Some t) c h = (t, refl, let same : t.owner ≡ c = cc in same)

pub sound_by : (s : Schema) → Fits s → AreSound s.classes s.slots
sound_by s fits =
    let owner = λ (n : ℕ) (t : Slot) (at : slice_get s.slots n ≡ Some t). (All-at (IsSlot s.label_sets (length s.classes)) s.slots n t at fits.slots).owner in
    record {
      parents = fits.parents;
      owner = owner;
      to = λ n t l at is.
          let there = owner_is (slice_get s.slots l.inverse) l.to (fits.coupled n l (ap (option_and_then (λ (u : Slot). link_in u.content)) at ∙ is)).there in
          let lt = owner l.inverse there.0 there.1 in
          omega (arith, lt, there.2);
    }

-- ---- what a delete strikes

module _ (s : Schema) (fits : Fits s) where
  sound : AreSound s.classes s.slots
  sound = sound_by s fits

  -- where b descends from c and e from d, c strikes d if b strikes e
  pub strikes_up : (b c d e : ℕ) → descends s b c ≡ true → descends s e d ≡ true → strikes s b e ≡ true → strikes s c d ≡ true
  strikes_up b c d e up up_other =
      strikes_above s.classes s.slots sound b c d e (climbs_sound s.classes c b b up) (climbs_sound s.classes d e e up_other)

  -- a class is an heir of its own
  pub heirs_itself : (d : ℕ) → has (heirs s d) d ≡ true
  heirs_itself = heirs_first s.classes s.slots sound

  -- where a slot owns, of a class related to an heir, the class that it leads to is an heir
  pub heirs_owned : (d h n : ℕ) (t : Slot) (l : Link) → has (heirs s d) h ≡ true → slice_get s.slots n ≡ Some t → link_in t.content ≡ Some l
      → l.owns ≡ true → related_in s.classes h t.owner ≡ true → has (heirs s d) l.to ≡ true
  heirs_owned d h n t l there at is owns related =
      heirs_closed s.classes s.slots sound d h l.to there (leads_by s.classes s.slots h n t l at is owns related)

  -- what is related to an heir is struck
  pub strikes_by_heir : (d h c : ℕ) → has (heirs s d) h ≡ true → related_in s.classes c h ≡ true → strikes s d c ≡ true
  strikes_by_heir = struck_by s.classes s.slots sound

-- the table of a schema
pub table_struck : (s : Schema) → Fits s → IsStruck s (struck_table s.classes s.slots)
table_struck s fits =
    let told = table_told s.classes s.slots (sound_by s fits) in
    record { owning = told.owning; tell = told.tell }
