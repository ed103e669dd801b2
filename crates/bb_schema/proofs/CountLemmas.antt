-- How many parts a schema has at most.
use Rattle.std.proofs.Common.{ℕ, suc, ◌≤◌, Bool, true, false, List, [], ◌∷◌, length, subst, arith}
use Rattle.std.specs.Prelude.{if◌then◌else◌}
use Rattle.std.proofs.lemmas.List.{length-map}
use Rattle.bb_schema_classes.specs.declared.label_set.LabelSet.{LabelSet}
use Rattle.bb_schema_classes.specs.declared.read.labels.TheConstants.{LABEL_SET_LIMIT}
use Rattle.bb_schema_classes.specs.declared.draft.TheConstants.{SLOT_LIMIT}
use Rattle.bb_schema.specs.declared.slot.Slot.{Slot}
use Rattle.bb_schema.specs.declared.space.Space.{Space}
use Rattle.bb_schema.specs.declared.read.spaces.TheConstants.{SPACE_LIMIT}
use Rattle.bb_schema.specs.Schema.{Schema}
use Rattle.bb_schema.specs.Couples.{comes_first, firsts, couples}
use Rattle.bb_schema.specs.Fits.{Fits}

pub few_label_sets : (s : Schema) → Fits s → length s.label_sets ≤ LABEL_SET_LIMIT
few_label_sets s fits = subst (λ n. n ≤ LABEL_SET_LIMIT) (length-map s.label_sets (λ (l : LabelSet). l.name)) fits.label_sets.named.few

pub few_spaces : (s : Schema) → Fits s → length s.spaces ≤ SPACE_LIMIT
few_spaces s fits = subst (λ n. n ≤ SPACE_LIMIT) (length-map s.spaces (λ (p : Space). p.name)) fits.spaces.named.few

at_most_one_more : (b : Bool) (n : ℕ) (rest : List ℕ) (m : ℕ) → length rest ≤ m
    → length (if b then n ∷ rest else rest) ≤ suc m
at_most_one_more true n rest m le = omega (arith, le)
at_most_one_more false n rest m le = omega (arith, le)

-- each couple has a first slot of its own
few_firsts : (n : ℕ) (slots : List Slot) → length (firsts n slots) ≤ length slots
unfolding firsts
few_firsts n [] = omega arith
few_firsts n (t ∷ ts) = at_most_one_more (comes_first n t) n (firsts (suc n) ts) (length ts) (few_firsts (suc n) ts)

pub few_couples : (s : Schema) → Fits s → length (couples s) ≤ SLOT_LIMIT
few_couples s fits = let few = few_firsts 0 s.slots in omega (arith, few, fits.few_slots)
