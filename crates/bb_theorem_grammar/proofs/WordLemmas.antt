-- Words and symbols of operations.
use Rattle.std.proofs.Common.{◌≡◌, Bool, true, false, cond, List, ℕ, Option, Some, None, refl, subst, codes}
use Rattle.bb_lang_tree.specs.declared.atom.Unary.TheVariants as unaries
use Rattle.bb_lang_tree.specs.declared.atom.Binary.TheVariants as binaries
use Rattle.bb_lang_tree.specs.declared.atom.Relation.TheVariants as relations
use Rattle.bb_lang_tree.specs.State.{State, at}
use Rattle.bb_lang.specs.Expressions.{unary_at, binary_at, comparison_at, relation_at}
use Rattle.bb_theorem_grammar.specs.Expressions.{IsUnary, IsBinary, IsComparison, IsRelation}
use Rattle.bb_theorem_grammar.proofs.SoundLemmas.{at_is}

-- what an option has
pub record Has {X : Type 0} (P : X → Type 0) (o : Option X) : Type 0 where
  pub holds : (x : X) → o ≡ Some x → P x

has_none : {X : Type 0} {P : X → Type 0} → Has P None
has_none = record { holds = λ x h. absurd cc }

pub some_is : {X : Type 0} (x y : X) → Some x ≡ Some y → x ≡ y
some_is x y h = cc

has_if : {X : Type 0} {P : X → Type 0} (b : Bool) (x : X) (o : Option X) → (b ≡ true → P x) → Has P o → Has P (cond b (Some x) o)
has_if {P = P} true x o f h = record { holds = λ y is. subst P (some_is x y is) (f refl) }
has_if false x o f h = h

-- the token is a word for this
abbrev pub IsWord : {X : Type 0} → (X → List ℕ → Type 0) → State → X → Type 0
IsWord Word s x = (word : List ℕ) × Word x word × (s.token ≡ word)

pub unary_word : (s : State) → Has (IsWord IsUnary s) (unary_at s)
unfolding unary_at
unary_word s =
    has_if (at (codes "not") s) unaries.Not _ (λ is. (codes "not", IsUnary.not, at_is (codes "not") s is))
    (has_if (at (codes "low") s) unaries.Low _ (λ is. (codes "low", IsUnary.low, at_is (codes "low") s is))
    (has_if (at (codes "high") s) unaries.High _ (λ is. (codes "high", IsUnary.high, at_is (codes "high") s is)) has_none))

pub binary_word : (s : State) → Has (IsWord IsBinary s) (binary_at s)
unfolding binary_at
binary_word s =
    has_if (at (codes "min") s) binaries.Min _ (λ is. (codes "min", IsBinary.min, at_is (codes "min") s is))
    (has_if (at (codes "max") s) binaries.Max _ (λ is. (codes "max", IsBinary.max, at_is (codes "max") s is)) has_none)

pub comparison_word : (s : State) → Has (IsWord IsComparison s) (comparison_at s)
unfolding comparison_at
comparison_word s =
    has_if (at (codes "<") s) binaries.Less _ (λ is. (codes "<", IsComparison.less, at_is (codes "<") s is))
    (has_if (at (codes "<=") s) binaries.AtMost _ (λ is. (codes "<=", IsComparison.at_most, at_is (codes "<=") s is))
    (has_if (at (codes "=") s) binaries.Equal _ (λ is. (codes "=", IsComparison.equal, at_is (codes "=") s is)) has_none))

pub relation_word : (s : State) → Has (IsWord IsRelation s) (relation_at s)
unfolding relation_at
relation_word s =
    has_if (at (codes "within") s) relations.Within _ (λ is. (codes "within", IsRelation.within, at_is (codes "within") s is))
    (has_if (at (codes "covers") s) relations.Covers _ (λ is. (codes "covers", IsRelation.covers, at_is (codes "covers") s is))
    (has_if (at (codes "overlaps") s) relations.Overlaps _ (λ is. (codes "overlaps", IsRelation.overlaps, at_is (codes "overlaps") s is))
    (has_if (at (codes "less") s) relations.Less _ (λ is. (codes "less", IsRelation.is_less, at_is (codes "less") s is))
    (has_if (at (codes "more") s) relations.More _ (λ is. (codes "more", IsRelation.is_more, at_is (codes "more") s is))
    (has_if (at (codes "is") s) relations.Is _ (λ is. (codes "is", IsRelation.equals, at_is (codes "is") s is)) has_none)))))
