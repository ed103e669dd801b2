-- What a host in another language sees of the agenda of a held run.
use Rattle.std.specs.Prelude.{◌^◌, ◌-◌, ℕ, ℤ, pos, negsuc, List, Option, Some, None, if◌then◌else◌, is_some, option_and_then, option_map, slice_get}
use Rattle.std.specs.Int.{int_max, int_min}
use Rattle.bb_agenda.specs.Agenda.{Agenda, number_of, numbers_pending, pending_at}
use Rattle.bb_agenda.specs.Rating.{rating_in}
use Rattle.bb_agenda.specs.declared.focusing.activation.Activation.{Activation}
use Rattle.bb_run_held.specs.declared.running.Running.{Running}
use Rattle.bb_shell.specs.Plan.{Plan}
use Rattle.bb_shell.specs.Run.{choice}
use Rattle.bb_shell.specs.Seen.{seen}
use Rattle.bb_c_run.specs.Sitting.{meant}
use Rattle.bb_c_run.specs.declared.agenda.Waits.{Waits}
use Rattle.bb_c_run.specs.declared.no_native.NoNative.{NoNative}

-- a number, or the greatest or the least of 64 bits
abbrev pub in_64_bits : ℤ → ℤ
in_64_bits z = int_max (negsuc (2 ^ 63 - 1)) (int_min z (pos (2 ^ 63 - 1)))

-- the numbers of the pending activations, ascending
abbrev pub pending_in : {b : _} → Option (Running NoNative b) → Option (List ℕ)
pending_in None = None
pending_in (Some r) = Some (numbers_pending r.state.agenda)

-- what a host is told of an activation
abbrev pub waits_of : Agenda → Activation → Waits
waits_of agenda a = record { unit = a.unit; base = a.base; rating = in_64_bits (rating_in agenda a) }

-- the pending activation with a number, and the name of its source
abbrev pub waits_by : Plan → Agenda → (number : ℕ) → Option (Waits × List ℕ)
waits_by plan agenda number = option_and_then (λ a.
    option_map (λ source. (waits_of agenda a, source.name)) (slice_get plan.sources a.source)) (pending_at agenda number)

abbrev pub waits_in : {b : _} → Option (Running NoNative b) → (number : ℕ) → Option (Waits × List ℕ)
waits_in None number = None
waits_in (Some r) number = waits_by r.plan r.state.agenda number

-- the number of the activation that the next cycle executes, if the run goes on; none after a move that was cut short
abbrev pub choice_in : {b : _} → Option (Running NoNative b) → Option ℕ
choice_in None = None
choice_in (Some r) = if is_some r.cut then None else option_map number_of (choice r.plan (seen meant r.state))
