-- What is over stays so, whatever changes come.
use Rattle.std.proofs.Common.{◌≡◌, ℕ, zero, suc, ◌<◌, List, [], ◌∷◌, ◌++◌, length, map, Option, Some, None, refl, ap, ◌∙◌, arith, length-append}
use Rattle.std.specs.Prelude.{option_map, slice_get}
use Rattle.std.proofs.lemmas.List.{get_or_append_left}
use Rattle.std.proofs.lemmas.Option.{slice_get-map, slice_get_within, slice_get-get_or, get_or_from_slice_get}
use Rattle.bb_agenda.specs.declared.focusing.activation.Activation.{Activation}
use Rattle.bb_agenda.specs.declared.status.Status.TheVariants as statuses
use Rattle.bb_agenda.specs.Agenda.{Agenda, Entry, pending, executed, obviated, if_pending, status_of, entry_of, status}
use Rattle.bb_agenda.specs.Changes.{new_activation, becoming, based_at}
use Rattle.bb_agenda.specs.History.{Change, adding, obviating, executing, rerating, focusing, unfocusing, refusing, changed, after}

executed_entry : (o : Option Entry) → option_map status_of o ≡ Some statuses.Executed → o ≡ Some executed
executed_entry None is = absurd cc
executed_entry (Some (pending a)) is = absurd cc
executed_entry (Some executed) is = refl
executed_entry (Some obviated) is = absurd cc

obviated_entry : (o : Option Entry) → option_map status_of o ≡ Some statuses.Obviated → o ≡ Some obviated
obviated_entry None is = absurd cc
obviated_entry (Some (pending a)) is = absurd cc
obviated_entry (Some executed) is = absurd cc
obviated_entry (Some obviated) is = refl

-- an entry that is over becomes no other
stays_over : (number : ℕ) (f : Activation → Entry) (e : Entry) → if_pending e ≡ None → becoming number f e ≡ e
stays_over number f (pending a) over = absurd cc
stays_over number f executed over = refl
stays_over number f obviated over = refl

-- the entries before one more
front : (given : List Entry) (last e : Entry) (i : ℕ) → slice_get given i ≡ Some e → slice_get (given ++ last ∷ []) i ≡ Some e
front given last e i is =
    let lt : i < length given = slice_get_within given i e is in
    let within : i < length (given ++ last ∷ []) = omega (arith, lt, length-append given (last ∷ [])) in
    slice_get-get_or (given ++ last ∷ []) i e within ∙ ap (λ x. Some x) (get_or_append_left given (last ∷ []) e i lt ∙ get_or_from_slice_get given i e e is)

module _ (e : Entry) (over : if_pending e ≡ None) where
  becomes : (a : Agenda) (i number : ℕ) (f : Activation → Entry) → slice_get a.given i ≡ Some e → slice_get (map (becoming number f) a.given) i ≡ Some e
  becomes a i number f is = slice_get-map (becoming number f) a.given i ∙ ap (option_map (becoming number f)) is ∙ ap (λ x. Some x) (stays_over number f e over)

  stays_at : (a : Agenda) (change : Change) (i : ℕ) → slice_get a.given i ≡ Some e → slice_get (changed a change).given i ≡ Some e
  stays_at a (adding source unit base) i is = front a.given (pending (new_activation a source unit base)) e i is
  stays_at a (obviating number) i is = becomes a i number (λ _. obviated) is
  stays_at a (executing number) i is = becomes a i number (λ _. executed) is
  stays_at a (rerating number base) i is = becomes a i number (λ x. pending (based_at base x)) is
  stays_at a (focusing unit focus) i is = is
  stays_at a (unfocusing unit) i is = is
  stays_at a refusing i is = is

  entry_stays : (a : Agenda) (change : Change) (n : ℕ) → entry_of a n ≡ Some e → entry_of (changed a change) n ≡ Some e
  entry_stays a change zero is = absurd cc
  entry_stays a change (suc i) is = stays_at a change i is

  pub stays_after : (changes : List Change) (a : Agenda) (n : ℕ) → entry_of a n ≡ Some e → entry_of (after changes a) n ≡ Some e
  stays_after [] a n is = is
  stays_after (change ∷ changes) a n is = stays_after changes (changed a change) n (entry_stays a change n is)

pub executed_stays : (a : Agenda) (changes : List Change) (n : ℕ) → status a n ≡ Some statuses.Executed → status (after changes a) n ≡ Some statuses.Executed
executed_stays a changes n is = ap (option_map status_of) (stays_after executed refl changes a n (executed_entry (entry_of a n) is))

pub obviated_stays : (a : Agenda) (changes : List Change) (n : ℕ) → status a n ≡ Some statuses.Obviated → status (after changes a) n ≡ Some statuses.Obviated
obviated_stays a changes n is = ap (option_map status_of) (stays_after obviated refl changes a n (obviated_entry (entry_of a n) is))
