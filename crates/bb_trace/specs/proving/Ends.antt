-- The ends of the code's runs among those of the definitions, and how the latter are encoded as data that can be told
-- apart.
use Rattle.std.specs.Prelude.{◌≡◌, ◌⊎◌, ℕ, ℤ, zero, suc}
use Rattle.std.proofs.Common.{inl, inr, refl}
use Rattle.std.specs.Coded.{Coded, code_by, coded⊎, coded×, coded_ℕ, coded_ℤ}
use Rattle.bb_agenda.specs.declared.focusing.activation.Activation.{Activation}
use Rattle.bb_machine.specs.declared.outcome.Stuck.{Stuck as Reason}
use Rattle.bb_machine.specs.contracts.outcome.Stuck as reasons
use Rattle.bb_trace.specs.declared.end.EndKind.{EndKind}
use Rattle.bb_trace.specs.declared.end.EndKind.TheVariants as kinds
use Rattle.bb_trace.specs.End.{End, Quiescence, Limit, Full, Due, Stuck}

-- ---- ends of the code

-- the end of that kind
abbrev pub end_of : EndKind → End
end_of kinds.Quiescence = Quiescence
end_of kinds.Limit = Limit
end_of kinds.Full = Full
end_of (kinds.Due a) = Due a

-- the kind of an end that the code has
abbrev pub kind_of : End → EndKind
kind_of Quiescence = kinds.Quiescence
kind_of Limit = kinds.Limit
kind_of (Due a) = kinds.Due a
kind_of _ = kinds.Full

pub kind_back : (k : EndKind) → kind_of (end_of k) ≡ k
kind_back kinds.Quiescence = refl
kind_back kinds.Limit = refl
kind_back kinds.Full = refl
kind_back (kinds.Due a) = refl

-- ---- as data

abbrev activation_code : Coded Activation
activation_code =
    code_by (ℕ × (ℕ × (ℕ × ℤ))) (coded× coded_ℕ (coded× coded_ℕ (coded× coded_ℕ coded_ℤ)))
    (λ a. (a.number, (a.source, (a.unit, a.base))))
    (λ p. record { number = p.0; source = p.1.0; unit = p.1.1.0; base = p.1.1.1 }) (λ _. refl)

abbrev told : End → ℕ ⊎ (Activation ⊎ Reason)
told Quiescence = inl 0
told Limit = inl 1
told Full = inl 2
told (Due a) = inr (inl a)
told (Stuck reason) = inr (inr reason)

abbrev untold : ℕ ⊎ (Activation ⊎ Reason) → End
untold (inl zero) = Quiescence
untold (inl (suc zero)) = Limit
untold (inl (suc (suc n))) = Full
untold (inr (inl a)) = Due a
untold (inr (inr reason)) = Stuck reason

pub told_back : (e : End) → untold (told e) ≡ e
told_back Quiescence = refl
told_back Limit = refl
told_back Full = refl
told_back (Due a) = refl
told_back (Stuck reason) = refl

abbrev pub end_code : Coded End
end_code =
    code_by (ℕ ⊎ (Activation ⊎ Reason)) (coded⊎ coded_ℕ (coded⊎ activation_code reasons.the_row.coded))
    told untold told_back
