-- How sources and a plan are encoded as data that can be told apart.
use Rattle.std.specs.Prelude.{ℤ, List, refl}
use Rattle.std.specs.Coded.{Coded, code_by, coded×, coded_ℤ, coded_list}
use Rattle.bb_schema.specs.Schema.{Schema}
use Rattle.bb_schema.specs.contracts.schema.Schema as schemas
use Rattle.bb_rules.specs.proving.Codes.{source_code}
use Rattle.bb_rules.specs.Parts.{Source}
use Rattle.bb_run_plan.specs.Plan.{Plan}

abbrev pub sources_code : Coded (List Source)
sources_code = coded_list source_code

abbrev pub plan_code : Coded Plan
plan_code =
    code_by (Schema × (List Source × ℤ)) (coded× schemas.the_row.coded (coded× sources_code coded_ℤ))
    (λ p. (p.schema, (p.sources, p.floor)))
    (λ t. record { schema = t.0; sources = t.1.0; floor = t.1.1 }) (λ _. refl)
