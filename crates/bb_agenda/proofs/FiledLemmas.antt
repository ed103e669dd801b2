-- What is pending is found by its number, its source and its unit, after each change.
use Rattle.std.proofs.Common.{◌≡◌, ℕ, ℤ, ◌<◌, List, [], ◌∷◌, ◌++◌, map, filter, find, Some, refl, ◌∙◌}
use Rattle.std.specs.List.{AllByRecursion}
use Rattle.bb_agenda.specs.declared.focusing.activation.Activation.{Activation}
use Rattle.bb_agenda.specs.declared.lists.Lists.{Lists}
use Rattle.bb_agenda.specs.Agenda.{number_of, has_number}
use Rattle.bb_agenda.specs.Changes.{other_than, rebased}
use Rattle.bb_agenda.specs.proving.Lists.{at_source, at_unit, HasMore, HasLess, IsBack}
use Rattle.bb_agenda.specs.proving.Filed.{AreFiled}
use Rattle.bb_agenda.proofs.ListedLemmas.{listed_none, listed_put, listed_gone, listed_rebased, not_listed_yet}
use Rattle.bb_agenda.proofs.RisingLemmas.{rising_same, rising_filter, rising_put}

module _ (xs : List Activation) (ls : Lists) (filed : AreFiled xs ls) where
  -- one more, above all
  module _ (a : Activation) (below : AllByRecursion (λ x. x.number < a.number) xs) where
    pub filed_put : (ms : Lists) → HasMore ls a ms → AreFiled (xs ++ a ∷ []) ms
    filed_put ms more = record {
      rising = rising_put number_of xs a filed.rising below;
      by_source = listed_put at_source (λ b. refl) xs ls.by_source filed.by_source a below ms.by_source more.sources;
      by_unit = listed_put at_unit (λ b. refl) xs ls.by_unit filed.by_unit a below ms.by_unit more.units;
    }

    -- it was added nowhere
    pub filed_back : (ms : Lists) → IsBack ls a ms → AreFiled xs ms
    filed_back ms back = record {
      rising = filed.rising;
      by_source = λ p. back.sources p (not_listed_yet at_source (λ b. refl) xs ls.by_source filed.by_source a below p) ∙ filed.by_source p;
      by_unit = λ p. back.units p ∙ filed.by_unit p;
    }

  -- without the one of a number
  pub filed_less : (n : ℕ) (a : Activation) → find (has_number n) xs ≡ Some a → (ms : Lists) → HasLess ls a ms → AreFiled (filter (other_than n) xs) ms
  filed_less n a is ms less = record {
    rising = rising_filter number_of (other_than n) xs filed.rising;
    by_source = listed_gone at_source (λ b. refl) xs ls.by_source filed.by_source n a is ms.by_source less.sources;
    by_unit = listed_gone at_unit (λ b. refl) xs ls.by_unit filed.by_unit n a is ms.by_unit less.units;
  }

  -- the same with another base
  pub filed_rebased : (n : ℕ) (base : ℤ) → AreFiled (map (rebased n base) xs) ls
  filed_rebased n base = record {
    rising = rising_same number_of (rebased n base) (λ y. refl) xs filed.rising;
    by_source = listed_rebased at_source (λ b. refl) xs ls.by_source filed.by_source n base (λ b. refl);
    by_unit = listed_rebased at_unit (λ b. refl) xs ls.by_unit filed.by_unit n base (λ b. refl);
  }

-- nothing is pending
pub filed_none : (ls : Lists) → ls.by_source.keys ≡ [] → ls.by_unit.keys ≡ [] → AreFiled [] ls
filed_none ls sources units = record {
  rising = tt;
  by_source = listed_none at_source ls.by_source sources;
  by_unit = listed_none at_unit ls.by_unit units;
}
