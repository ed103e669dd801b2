-- How an agenda is encoded as data that can be told apart.
use Rattle.std.specs.Prelude.{◌≡◌, ℕ, ℤ, Bool, List, Option, Some, None, refl}
use Rattle.std.specs.Coded.{Coded, code_by, coded×, coded_ℕ, coded_ℤ, coded_bool, coded_list, coded_option}
use Rattle.bb_agenda.specs.contracts.focusing.steering.Steering as steerings
use Rattle.bb_agenda.specs.declared.focusing.activation.Activation.{Activation}
use Rattle.bb_agenda.specs.focusing.Foci.{Steered}
use Rattle.bb_agenda.specs.Agenda.{Agenda, Entry, pending, executed, obviated}

abbrev activation_code : Coded Activation
activation_code =
    code_by (ℕ × (ℕ × (ℕ × ℤ))) (coded× coded_ℕ (coded× coded_ℕ (coded× coded_ℕ coded_ℤ)))
    (λ a. (a.number, (a.source, (a.unit, a.base))))
    (λ p. record { number = p.0; source = p.1.0; unit = p.1.1.0; base = p.1.1.1 }) (λ _. refl)

-- what became of an activation; `None` if it was obviated
abbrev outcome : Entry → Option (Option Activation)
outcome (pending a) = Some (Some a)
outcome executed = Some None
outcome obviated = None

abbrev entry_of_outcome : Option (Option Activation) → Entry
entry_of_outcome None = obviated
entry_of_outcome (Some None) = executed
entry_of_outcome (Some (Some a)) = pending a

pub entry_of_outcome-outcome : (e : Entry) → entry_of_outcome (outcome e) ≡ e
entry_of_outcome-outcome (pending a) = refl
entry_of_outcome-outcome executed = refl
entry_of_outcome-outcome obviated = refl

abbrev entry_code : Coded Entry
entry_code =
    code_by (Option (Option Activation)) (coded_option (coded_option activation_code)) outcome entry_of_outcome
    entry_of_outcome-outcome

abbrev pub agenda_code : Coded Agenda
agenda_code =
    code_by (List Entry × (Steered × Bool)) (coded× (coded_list entry_code) (coded× steerings.the_row.coded coded_bool))
    (λ a. (a.given, (record { setting = a.setting; foci = a.foci }, a.refused)))
    (λ p. record { given = p.0; foci = p.1.0.foci; setting = p.1.0.setting; refused = p.1.1 }) (λ _. refl)
