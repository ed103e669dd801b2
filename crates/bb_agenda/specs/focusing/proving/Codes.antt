-- How foci and what they are matched with are encoded as data that can be told apart.
use Rattle.std.specs.Prelude.{ℕ, ℤ, Bool, List, refl}
use Rattle.std.specs.Coded.{Coded, code_by, coded×, coded_ℕ, coded_ℤ, coded_bool, coded_list}
use Rattle.std.specs.FinMap as fin
use Rattle.bb_schema.specs.Schema.{Schema}
use Rattle.bb_schema.specs.contracts.schema.Schema as schemas
use Rattle.bb_agenda.specs.declared.focusing.focus.Focus.{Focus}
use Rattle.bb_agenda.specs.declared.focusing.setting.RatedSource.{RatedSource}
use Rattle.bb_agenda.specs.focusing.Foci.{Foci, Setting, Steered}

abbrev focus_code : Coded Focus
focus_code =
    code_by (List ℕ × (List ℕ × (ℤ × Bool)))
    (coded× (coded_list coded_ℕ) (coded× (coded_list coded_ℕ) (coded× coded_ℤ coded_bool)))
    (λ f. (f.source, (f.area, (f.weight, f.active))))
    (λ p. record { source = p.0; area = p.1.0; weight = p.1.1.0; active = p.1.1.1 }) (λ _. refl)

abbrev pub foci_code : Coded Foci
foci_code = fin.code coded_ℕ focus_code

abbrev source_code : Coded RatedSource
source_code =
    code_by (List ℕ × ℕ) (coded× (coded_list coded_ℕ) coded_ℕ) (λ x. (x.name, x.class))
    (λ p. record { name = p.0; class = p.1 }) (λ _. refl)

abbrev pub setting_code : Coded Setting
setting_code =
    code_by (Schema × List RatedSource) (coded× schemas.the_row.coded (coded_list source_code))
    (λ s. (s.schema, s.sources)) (λ p. record { schema = p.0; sources = p.1 }) (λ _. refl)

abbrev pub steered_code : Coded Steered
steered_code =
    code_by (Setting × Foci) (coded× setting_code foci_code) (λ s. (s.setting, s.foci))
    (λ p. record { setting = p.0; foci = p.1 }) (λ _. refl)
