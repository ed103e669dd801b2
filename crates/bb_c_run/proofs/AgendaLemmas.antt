-- An activation is pending exactly if its status says so.
use Rattle.std.proofs.Common.{◌≡◌, ◌∙◌, ℕ, Option, None, Some, false, refl, sym, true}
use Rattle.std.specs.Prelude.{IsSome, is_some}
use Rattle.std.proofs.lemmas.Bool.{false_from_ne_true}
use Rattle.bb_agenda.specs.Agenda.{Agenda, pending_at, status}
use Rattle.bb_agenda.specs.Fits.{Fits}
use Rattle.bb_agenda.specs.declared.focusing.activation.Activation.{Activation}
use Rattle.bb_agenda.specs.declared.status.Status.{Status}
use Rattle.bb_agenda.specs.declared.status.Status.TheVariants.{Pending}

absent : (o : Option Activation) → is_some o ≡ false → o ≡ None
absent None none = refl
absent (Some a) none = absurd (let e : true ≡ false = none in cc)

pub is_pending : (a : Agenda) (number : ℕ) (s : Option Status) → Fits a → s ≡ status a number → s ≡ Some Pending → IsSome (pending_at a number)
is_pending a number s fits is pending = (fits.known number).1 (sym is ∙ pending)

pub is_not_pending : (a : Agenda) (number : ℕ) (s : Option Status) → Fits a → s ≡ status a number → (s ≡ Some Pending → ⊥) → None ≡ pending_at a number
is_not_pending a number s fits is other =
    sym (absent (pending_at a number) (false_from_ne_true (is_some (pending_at a number)) (λ there. other (is ∙ (fits.known number).0 there))))
