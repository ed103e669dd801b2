-- Which parts are small enough for a code.
use Rattle.std.specs.Prelude.{Bool, ◌&&◌, nat_le}
use Rattle.bb_code.specs.declared.parts.TheConstants.{OP_LIMIT, TEXT_COUNT_LIMIT, QUERY_LIMIT, LOOP_LIMIT}
use Rattle.bb_schema.specs.Schema.{Schema}
use Rattle.bb_verify_effect.specs.declared.part.Part.{Part}
use Rattle.bb_lang.specs.Blocks.{BlockTree}
use Rattle.bb_theorem_grammar.specs.judged.Held.{part_held, statements_held}
use Rattle.bb_theorem_grammar.specs.judged.Names.{begin_with}
use Rattle.bb_theorem_grammar.specs.judged.Sums.{Sums, different, part_sums, statements_have_room}

-- the sums are within the limits of a code
abbrev pub are_few : Sums → Bool
are_few a =
    nat_le a.ops OP_LIMIT
    && (nat_le (different a.texts) TEXT_COUNT_LIMIT && (nat_le a.queries QUERY_LIMIT && nat_le a.loops LOOP_LIMIT))

-- its sums are within the limits of a code, there is room for its names, and it contains only what a text can contain
unfoldable pub fits : Schema → Part → BlockTree → Bool
fits schema part b =
    are_few (part_sums schema part b)
    && (statements_have_room schema (begin_with part) b && (part_held part && statements_held b))
