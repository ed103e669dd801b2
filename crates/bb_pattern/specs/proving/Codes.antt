-- How trees are encoded as data that can be compared: as the list of their nodes in order, each with its number of
-- parts.
use Rattle.std.specs.Prelude.{◌≡◌, ◌⊎◌, ℕ, zero, suc, List, [], ◌∷◌, refl}
use Rattle.std.proofs.Common.{inl, inr, ap, ◌∙◌}
use Rattle.std.specs.Coded.{Coded, code_by, coded×, coded⊎, coded_ℕ, coded_list}
use Rattle.bb_pattern.specs.declared.pattern.Relation.{Relation}
use Rattle.bb_pattern.specs.declared.pattern.Relation.TheVariants.{Within, Covers, Overlaps, Less, More}
use Rattle.bb_pattern.specs.Trees.{Tree, Trees, all, and_of, or_of, not_of, ordered, is_label, no_more, more}

abbrev number_of : Relation → ℕ
number_of Within = 0
number_of Covers = 1
number_of Overlaps = 2
number_of Less = 3
number_of More = 4

abbrev relation_of : ℕ → Relation
relation_of zero = Within
relation_of (suc zero) = Covers
relation_of (suc (suc zero)) = Overlaps
relation_of (suc (suc (suc zero))) = Less
relation_of (suc (suc (suc (suc n)))) = More

relation_back : (r : Relation) → relation_of (number_of r) ≡ r
relation_back Within = refl
relation_back Covers = refl
relation_back Overlaps = refl
relation_back Less = refl
relation_back More = refl

-- a node without its parts: a number of parts or 0, or a relation and two numbers, or two numbers
abbrev Sign : Type 0
Sign = ℕ ⊎ (ℕ ⊎ (ℕ ⊎ (ℕ ⊎ ((ℕ × (ℕ × ℕ)) ⊎ (ℕ × ℕ)))))

abbrev count : Trees → ℕ
count no_more = 0
count (more p ps) = suc (count ps)

abbrev mutual
  signs : Tree → List Sign → List Sign
  signs all rest = inl 0 ∷ rest
  signs (and_of ps) rest = inr (inl (count ps)) ∷ all_signs ps rest
  signs (or_of ps) rest = inr (inr (inl (count ps))) ∷ all_signs ps rest
  signs (not_of p) rest = inr (inr (inr (inl 0))) ∷ signs p rest
  signs (ordered r dim operand) rest = inr (inr (inr (inr (inl (number_of r, (dim, operand)))))) ∷ rest
  signs (is_label dim operand) rest = inr (inr (inr (inr (inr (dim, operand))))) ∷ rest

  all_signs : Trees → List Sign → List Sign
  all_signs no_more rest = rest
  all_signs (more p ps) rest = signs p (all_signs ps rest)

abbrev first_of : ℕ → Trees → Trees
first_of zero ps = no_more
first_of (suc n) no_more = no_more
first_of (suc n) (more p ps) = more p (first_of n ps)

abbrev without : ℕ → Trees → Trees
without zero ps = ps
without (suc n) no_more = no_more
without (suc n) (more p ps) = without n ps

abbrev head_of : Trees → Tree
head_of no_more = all
head_of (more p ps) = p

-- a node in front of later trees, the first of which are its parts
abbrev built : Sign → Trees → Trees
built (inl _) later = more all later
built (inr (inl n)) later = more (and_of (first_of n later)) (without n later)
built (inr (inr (inl n))) later = more (or_of (first_of n later)) (without n later)
built (inr (inr (inr (inl _)))) later = more (not_of (head_of later)) (without 1 later)
built (inr (inr (inr (inr (inl t))))) later = more (ordered (relation_of t.0) t.1.0 t.1.1) later
built (inr (inr (inr (inr (inr t))))) later = more (is_label t.0 t.1) later

abbrev trees_of_signs : List Sign → Trees
trees_of_signs [] = no_more
trees_of_signs (s ∷ ss) = built s (trees_of_signs ss)

abbrev followed_by : Trees → Trees → Trees
followed_by no_more qs = qs
followed_by (more p ps) qs = more p (followed_by ps qs)

first_of_all : (ps qs : Trees) → first_of (count ps) (followed_by ps qs) ≡ ps
first_of_all no_more qs = refl
first_of_all (more p ps) qs = ap (more p) (first_of_all ps qs)

without_all : (ps qs : Trees) → without (count ps) (followed_by ps qs) ≡ qs
without_all no_more qs = refl
without_all (more p ps) qs = without_all ps qs

mutual
  back : (p : Tree) (rest : List Sign) → trees_of_signs (signs p rest) ≡ more p (trees_of_signs rest)
  back all rest = refl
  back (and_of ps) rest = rw (all_back ps rest, first_of_all ps (trees_of_signs rest), without_all ps (trees_of_signs rest)) refl
  back (or_of ps) rest = rw (all_back ps rest, first_of_all ps (trees_of_signs rest), without_all ps (trees_of_signs rest)) refl
  back (not_of p) rest = rw (back p rest) refl
  back (ordered r dim operand) rest = rw (relation_back r) refl
  back (is_label dim operand) rest = refl

  all_back : (ps : Trees) (rest : List Sign) → trees_of_signs (all_signs ps rest) ≡ followed_by ps (trees_of_signs rest)
  all_back no_more rest = refl
  all_back (more p ps) rest = back p (all_signs ps rest) ∙ ap (more p) (all_back ps rest)

pub head_back : (p : Tree) → head_of (trees_of_signs (signs p [])) ≡ p
head_back p = ap head_of (back p [])

abbrev pub tree_code : Coded Tree
tree_code =
    code_by (List Sign)
    (coded_list (coded⊎ coded_ℕ (coded⊎ coded_ℕ (coded⊎ coded_ℕ (coded⊎ coded_ℕ
    (coded⊎ (coded× coded_ℕ (coded× coded_ℕ coded_ℕ)) (coded× coded_ℕ coded_ℕ)))))))
    (λ p. signs p []) (λ ss. head_of (trees_of_signs ss)) head_back
