use Rattle.std.proofs.Common.{◌≡◌, pos, ◌+◌, ◌==◌, refl, ap, ◌∙◌}
use Rattle.std.specs.Ordering.{int_eq}
use Rattle.std.proofs.lemmas.Bool.{and_from, eq-eqb}
use Rattle.std.proofs.lemmas.Cmp.{int_eq_equiv}
use Rattle.bb_pattern.specs.declared.pattern.Relation.TheVariants.{Within, Covers, Overlaps, Less, More}
use Rattle.bb_space.specs.declared.index.leaf.Leaf.{Leaf}
use Rattle.bb_space.specs.declared.index.leaf.Leaf.TheVariants.{Ordered, Is}
use Rattle.bb_space.specs.index.Candidates.{asks_one}
use Rattle.bb_space.specs.index.proving.Stretches.{has_one_key, stretch_of}
use Rattle.bb_space.proofs.index.leaf.Leaf.has_one_key.Goals as goal

one_key : (leaf : Leaf) → has_one_key (stretch_of leaf) ≡ asks_one leaf
one_key (Ordered Within dim low high) = refl
one_key (Ordered Covers dim low high) = refl
one_key (Ordered Overlaps dim low high) = refl
one_key (Ordered Less dim low high) = refl
one_key (Ordered More dim low high) = refl
one_key (Is dim set label) = and_from ((4 + set) == (4 + set)) (int_eq (pos label) (pos label)) (eq-eqb (4 + set) (4 + set) refl) (int_eq_equiv.refl (pos label))

pub returns : goal.returns
returns c = c.has_one_key.ensures ∙ (ap has_one_key c.of.ensures ∙ one_key c.args.self.now)
