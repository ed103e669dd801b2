-- The responses of the sources at some places to an event, and of no others. No public contract cites it.
use Rattle.std.specs.Prelude.{ℕ, List, [], ◌∷◌, slice_get}
use Rattle.std.specs.Option.{option_map_or}
use Rattle.bb_schema.specs.Schema.{Schema}
use Rattle.bb_trace.specs.Event.{Event}
use Rattle.bb_rules.specs.Parts.{Source}
use Rattle.bb_run.specs.Processing.{source_response}
use Rattle.bb_run.specs.State.{State}
use Rattle.bb_run.specs.Emission.{Response, and_then, idle}

-- the response of the source at a place, if there is one
abbrev pub response_at : Schema → Event → List Source → (place : ℕ) → State → Response
response_at schema event sources place s =
    option_map_or (λ source. source_response schema event place source s) (slice_get sources place) (idle s)

-- the response of the sources at these places, in order
unfoldable pub responses_at : Schema → Event → List Source → (places : List ℕ) → State → Response
responses_at schema event sources [] s = idle s
responses_at schema event sources (place ∷ places) s =
    and_then (response_at schema event sources place s) (responses_at schema event sources places)
