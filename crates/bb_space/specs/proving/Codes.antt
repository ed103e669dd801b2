-- How spaces are encoded as data that can be compared.
use Rattle.std.specs.Prelude.{◌≡◌, ℕ, ℤ, ◌⊎◌, List, refl}
use Rattle.std.proofs.Common.{inl, inr}
use Rattle.std.specs.FinMap as fin
use Rattle.std.specs.Coded.{Coded, code_by, coded×, coded⊎, coded_ℕ, coded_ℤ, coded_list}
use Rattle.bb_pattern.specs.declared.value.DimValue.{DimValue}
use Rattle.bb_pattern.specs.declared.value.DimValue.TheVariants.{Interval, Label}
use Rattle.bb_space.specs.Spaces.{Membership, Spaces}

abbrev Cases : Type 0
Cases = (ℤ × ℤ) ⊎ (ℕ × ℕ)

abbrev cases : DimValue → Cases
cases (Interval low high) = inl (low, high)
cases (Label set label) = inr (set, label)

abbrev value_of_cases : Cases → DimValue
value_of_cases (inl i) = Interval i.0 i.1
value_of_cases (inr l) = Label l.0 l.1

pub value_of_cases-cases : (v : DimValue) → value_of_cases (cases v) ≡ v
value_of_cases-cases (Interval low high) = refl
value_of_cases-cases (Label set label) = refl

abbrev value_code : Coded DimValue
value_code =
    code_by Cases (coded⊎ (coded× coded_ℤ coded_ℤ) (coded× coded_ℕ coded_ℕ)) cases value_of_cases value_of_cases-cases

abbrev pub membership_code : Coded Membership
membership_code = fin.code coded_ℕ (coded_list value_code)

abbrev pub spaces_code : Coded Spaces
spaces_code =
    code_by (List Membership) (coded_list membership_code) (λ s. s.spaces) (λ list. record { spaces = list })
    (λ _. refl)
