-- How units are encoded as data that can be compared.
use Rattle.std.specs.Prelude.{◌≡◌, ℕ, ℤ, Bool, ◌⊎◌, List, Option, refl}
use Rattle.std.proofs.Common.{inl, inr}
use Rattle.std.specs.Ordering.{nat_cmp}
use Rattle.std.specs.FinMap as map
use Rattle.std.specs.Coded.{Coded, code_by, coded×, coded⊎, coded_ℕ, coded_ℤ, coded_bool, coded_list, coded_option}
use Rattle.bb_schema_classes.specs.declared.value.Value.{Value}
use Rattle.bb_schema_classes.specs.declared.value.Value.TheVariants.{Int, Text, Bool as Truth, Label, Interval}
use Rattle.bb_units.specs.declared.unit.Unit.{Unit}
use Rattle.bb_units.specs.Layout.{Layout}
use Rattle.bb_units.specs.Units.{Units}
use Rattle.bb_units.specs.proving.Numbered.{Given}

abbrev Cases : Type 0
Cases = ℤ ⊎ (List ℕ ⊎ (Bool ⊎ ((ℕ × ℕ) ⊎ (ℤ × ℤ))))

abbrev cases : Value → Cases
cases (Int z) = inl z
cases (Text t) = inr (inl t)
cases (Truth b) = inr (inr (inl b))
cases (Label set label) = inr (inr (inr (inl (set, label))))
cases (Interval low high) = inr (inr (inr (inr (low, high))))

abbrev value_of_cases : Cases → Value
value_of_cases (inl z) = Int z
value_of_cases (inr (inl t)) = Text t
value_of_cases (inr (inr (inl b))) = Truth b
value_of_cases (inr (inr (inr (inl l)))) = Label l.0 l.1
value_of_cases (inr (inr (inr (inr i)))) = Interval i.0 i.1

pub value_of_cases-cases : (v : Value) → value_of_cases (cases v) ≡ v
value_of_cases-cases (Int z) = refl
value_of_cases-cases (Text t) = refl
value_of_cases-cases (Truth b) = refl
value_of_cases-cases (Label set label) = refl
value_of_cases-cases (Interval low high) = refl

abbrev value_code : Coded Value
value_code =
    code_by Cases (coded⊎ coded_ℤ (coded⊎ (coded_list coded_ℕ) (coded⊎ coded_bool (coded⊎ (coded× coded_ℕ coded_ℕ)
    (coded× coded_ℤ coded_ℤ))))) cases value_of_cases value_of_cases-cases

abbrev unit_code : Coded Unit
unit_code =
    code_by (ℕ × List (ℕ × Value)) (coded× coded_ℕ (coded_list (coded× coded_ℕ value_code)))
    (λ x. (x.class, x.values)) (λ p. record { class = p.0; values = p.1 }) (λ _. refl)

abbrev pub layout_code : Coded Layout
layout_code =
    code_by (List (List ℕ) × (List (Option Value) × List ℕ))
    (coded× (coded_list (coded_list coded_ℕ)) (coded× (coded_list (coded_option value_code)) (coded_list coded_ℕ)))
    (λ l. (l.slots, (l.defaults, l.label_counts)))
    (λ p. record { slots = p.0; defaults = p.1.0; label_counts = p.1.1 }) (λ _. refl)

abbrev pub units_code : Coded Units
units_code =
    code_by (ℕ × (map.FinMap nat_cmp Unit × Layout))
    (coded× coded_ℕ (coded× (map.code coded_ℕ unit_code) layout_code)) (λ u. (u.next, (u.units, u.layout)))
    (λ p. record { next = p.0; units = p.1.0; layout = p.1.1 }) (λ _. refl)

abbrev pub given_code : Coded Given
given_code =
    code_by (ℕ × map.FinMap nat_cmp Unit) (coded× coded_ℕ (map.code coded_ℕ unit_code)) (λ g. (g.next, g.units))
    (λ p. record { next = p.0; units = p.1 }) (λ _. refl)
