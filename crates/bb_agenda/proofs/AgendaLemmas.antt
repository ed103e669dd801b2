-- What each change of an agenda does to what is pending, and to how many were given.
use Rattle.std.proofs.Common.{◌≡◌, ℕ, ◌+◌, ℤ, Bool, true, false, not, cond, List, [], ◌∷◌, ◌++◌, length, map, filter, None, refl, ap, ◌∙◌, length-append}
use Rattle.std.specs.List.{filter_map}
use Rattle.std.proofs.lemmas.List.{length-map}
use Rattle.std.proofs.lemmas.List.Elements.{filter_map-append}
use Rattle.bb_agenda.specs.declared.focusing.activation.Activation.{Activation}
use Rattle.bb_agenda.specs.Agenda.{Agenda, Entry, pending, executed, obviated, if_pending, pending_of, has_number}
use Rattle.bb_agenda.specs.Changes.{new_activation, with_activation, becoming, with_entry, with_obviated, with_executed, based_at, with_base, other_than, rebased}

pub pending_added : (a : Agenda) (source unit : ℕ) (base : ℤ) → pending_of (with_activation a source unit base) ≡ pending_of a ++ new_activation a source unit base ∷ []
pending_added a source unit base = filter_map-append if_pending a.given (pending (new_activation a source unit base) ∷ [])

-- where a pending activation gets an entry that is over
module _ (over : Entry) (is_over : if_pending over ≡ None) (number : ℕ) where
  over_first : (a : Activation) (rest : List Entry) (t : Bool) → filter_map if_pending (cond t over (pending a) ∷ rest) ≡ cond (not t) (a ∷ filter_map if_pending rest) (filter_map if_pending rest)
  over_first a rest true = rw is_over refl
  over_first a rest false = refl

  pub pending_over : (given : List Entry) → filter_map if_pending (map (becoming number (λ _. over)) given) ≡ filter (other_than number) (filter_map if_pending given)
  pending_over [] = refl
  pending_over (pending a ∷ given) =
      over_first a (map (becoming number (λ _. over)) given) (has_number number a)
      ∙ ap (λ l. cond (not (has_number number a)) (a ∷ l) l) (pending_over given)
  pending_over (executed ∷ given) = pending_over given
  pending_over (obviated ∷ given) = pending_over given

pub pending_executed : (a : Agenda) (number : ℕ) → pending_of (with_executed a number) ≡ filter (other_than number) (pending_of a)
pending_executed a number = pending_over executed refl number a.given

pub pending_obviated : (a : Agenda) (number : ℕ) → pending_of (with_obviated a number) ≡ filter (other_than number) (pending_of a)
pending_obviated a number = pending_over obviated refl number a.given

-- where it gets another base
module _ (number : ℕ) (base : ℤ) where
  pub entry_rebased : (a : Activation) → becoming number (λ x. pending (based_at base x)) (pending a) ≡ pending (rebased number base a)
  entry_rebased a = at (has_number number a)
    where
      at : (t : Bool) → cond t (pending (based_at base a)) (pending a) ≡ pending (based_at (cond t base a.base) a)
      at true = refl
      at false = refl

  pub pending_changed : (given : List Entry) → filter_map if_pending (map (becoming number (λ x. pending (based_at base x))) given) ≡ map (rebased number base) (filter_map if_pending given)
  pending_changed [] = refl
  pending_changed (pending a ∷ given) =
      ap (λ e. filter_map if_pending (e ∷ map (becoming number (λ x. pending (based_at base x))) given)) (entry_rebased a)
      ∙ ap (λ l. rebased number base a ∷ l) (pending_changed given)
  pending_changed (executed ∷ given) = pending_changed given
  pending_changed (obviated ∷ given) = pending_changed given

pub pending_rebased : (a : Agenda) (number : ℕ) (base : ℤ) → pending_of (with_base a number base) ≡ map (rebased number base) (pending_of a)
pending_rebased a number base = pending_changed number base a.given

pub given_added : (a : Agenda) (source unit : ℕ) (base : ℤ) → length (with_activation a source unit base).given ≡ length a.given + 1
given_added a source unit base = length-append a.given (pending (new_activation a source unit base) ∷ [])

pub given_changed : (a : Agenda) (number : ℕ) (new_entry : Activation → Entry) → length (with_entry a number new_entry).given ≡ length a.given
given_changed a number new_entry = length-map a.given (becoming number new_entry)

pub given_obviated : (a : Agenda) (number : ℕ) → length (with_obviated a number).given ≡ length a.given
given_obviated a number = given_changed a number (λ _. obviated)

pub given_rebased : (a : Agenda) (number : ℕ) (base : ℤ) → length (with_base a number base).given ≡ length a.given
given_rebased a number base = given_changed a number (λ x. pending (based_at base x))

pub given_executed : (a : Agenda) (number : ℕ) → length (with_executed a number).given ≡ length a.given
given_executed a number = given_changed a number (λ _. executed)

-- ---- the number that is added
