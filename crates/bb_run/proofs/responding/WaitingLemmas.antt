-- What is pending of a source is found by its numbers, one after another.
use Rattle.std.proofs.Common.{◌≡◌, ℕ, suc, List, [], ◌∷◌, ◌++◌, map, Some, refl, sym, ap, subst, ◌∙◌, arith, append_assoc}
use Rattle.std.specs.Prelude.{Contains, IsSome, is_some}
use Rattle.std.proofs.lemmas.List.{append-nil}
use Rattle.bb_agenda.specs.declared.focusing.activation.Activation.{Activation}
use Rattle.bb_agenda.specs.Agenda.{Agenda, number_of, pending_at}

-- each is pending under its number
abbrev pub EachItself : Agenda → List Activation → Type 0
EachItself a waiting = (x : Activation) → Contains waiting x → pending_at a x.number ≡ Some x

-- those that were found, and those whose numbers are left
pub record Finds (waiting found : List Activation) (numbers : List ℕ) : Type 0 where
  pub left : List Activation
  pub whole : found ++ left ≡ waiting
  pub numbered : numbers ≡ map number_of left

-- the one whose number comes first
record First (left : List Activation) (number : ℕ) (numbers : List ℕ) : Type 0 where
  one : Activation
  others : List Activation
  parts : left ≡ one ∷ others
  its_number : number ≡ one.number
  numbered : numbers ≡ map number_of others

first_of : (left : List Activation) (number : ℕ) (numbers : List ℕ) → number ∷ numbers ≡ map number_of left → First left number numbers
first_of [] number numbers are = absurd cc
first_of (x ∷ xs) number numbers are = record { one = x; others = xs; parts = refl; its_number = cc; numbered = cc }

some_same : {X : Type 0} (x y : X) → Some x ≡ Some y → x ≡ y
some_same x y same = let is : x ≡ y = cc in is

in_place : (found : List Activation) (x : Activation) (others : List Activation) → Contains (found ++ x ∷ others) x
in_place [] x others = (0, omega arith, refl)
in_place (y ∷ found) x others = later (in_place found x others)
  where
    later : Contains (found ++ x ∷ others) x → Contains (y ∷ found ++ x ∷ others) x
    later (k, lt, is) = (suc k, omega (arith, lt), is)

pub none_found : (waiting : List Activation) (numbers : List ℕ) → numbers ≡ map number_of waiting → Finds waiting [] numbers
none_found waiting numbers are = record { left = waiting; whole = refl; numbered = are }

pub all_found : (waiting found : List Activation) (numbers : List ℕ) → Finds waiting found numbers → numbers ≡ [] → found ≡ waiting
all_found waiting found numbers finds none = at finds.left (sym none ∙ finds.numbered) finds.whole
  where
    at : (left : List Activation) → [] ≡ map number_of left → found ++ left ≡ waiting → found ≡ waiting
    at [] are whole = sym (append-nil found) ∙ whole
    at (x ∷ xs) are whole = absurd cc

module _ (a : Agenda) (waiting found : List Activation) (itself : EachItself a waiting) (all : List ℕ) (finds : Finds waiting found all) (number : ℕ) (numbers : List ℕ) (next : all ≡ number ∷ numbers) where
  first : First finds.left number numbers
  first = first_of finds.left number numbers (sym next ∙ finds.numbered)

  whole : found ++ first.one ∷ first.others ≡ waiting
  whole = ap (λ left. found ++ left) (sym first.parts) ∙ finds.whole

  next_found : pending_at a number ≡ Some first.one
  next_found = ap (pending_at a) first.its_number ∙ itself first.one (subst (λ l. Contains l first.one) whole (in_place found first.one first.others))

  -- an activation is pending under the number that comes next
  pub next_pends : IsSome (pending_at a number)
  next_pends = ap is_some next_found

  -- that activation is the next one
  pub take_one_more : (x : Activation) → pending_at a number ≡ Some x → Finds waiting (found ++ x ∷ []) numbers
  take_one_more x is = record {
    left = first.others;
    whole =
        let same : x ≡ first.one = some_same x first.one (sym is ∙ next_found) in
        ap (λ y. (found ++ y ∷ []) ++ first.others) same ∙ append_assoc found (first.one ∷ []) first.others ∙ whole;
    numbered = first.numbered;
  }
