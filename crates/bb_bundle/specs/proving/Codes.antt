-- An injective encoding of the parser's state.
use Rattle.std.specs.Prelude.{ℕ, List, Option, refl}
use Rattle.std.specs.Coded.{Coded, code_by, coded×, coded_ℕ, coded_list, coded_option}
use Rattle.bb_code.specs.Code.{Code}
use Rattle.bb_bundle.specs.declared.draft.SourceDraft.{SourceDraft}
use Rattle.bb_bundle.specs.declared.partial.PartialSource.{PartialSource}
use Rattle.bb_bundle.specs.contracts.source_code.SourceCode as sources
use Rattle.bb_bundle.specs.contracts.partial.PartialSource as partials
use Rattle.bb_bundle.specs.Bundle.{Parser}

abbrev pub parser_code : Coded Parser
parser_code =
    code_by (ℕ × (List (SourceDraft Code) × Option PartialSource))
    (coded× coded_ℕ (coded× (coded_list sources.the_row.coded) (coded_option partials.the_row.coded)))
    (λ p. (p.lines, (p.sources, p.partial)))
    (λ t. record { lines = t.0; sources = t.1.0; partial = t.1.1 }) (λ _. refl)
