-- The judgement of a part: the faults of its text, in order; the first is reported. It depends on names and kinds, not
-- on code.
use Rattle.std.specs.Prelude.{◌≡◌, ◌⊎◌, Bool, false, ◌&&◌, not, is_ok, List, [], ◌∷◌, Result, Ok, Err, if◌then◌else◌}
use Rattle.bb_verify_effect.specs.Part.{ends_done}
use Rattle.bb_schema.specs.Schema.{Schema}
use Rattle.bb_verify_effect.specs.declared.part.Part.{Part}
use Rattle.bb_lang.specs.Blocks.{BlockTree}
use Rattle.bb_compile.specs.declared.part.TheConstants.{LOOP_NESTING}
use Rattle.bb_compile_scope.specs.Ending.{block_ends}
use Rattle.bb_compile_scope.specs.Place.{Place}
use Rattle.bb_compile_scope.specs.declared.fault.CompileFault.{CompileFault}
use Rattle.bb_compile_scope.specs.declared.fault.CompileFault.TheVariants.{At}
use Rattle.bb_compile_scope.specs.declared.fault.TextFlaw.TheVariants.{NoEnd, Limit}
use Rattle.bb_theorem_grammar.specs.judged.Names.{begin_with}
use Rattle.bb_theorem_grammar.specs.judged.Statements.{statements_faults}

-- ---- parts

-- the part must end by a statement, but can run past its end
abbrev pub runs_out : Part → BlockTree → Bool
runs_out part b = not (is_ok (ends_done part)) && not (block_ends b)

-- the faults of a part that begins at a place; a part that can run past its end has that fault only
unfoldable pub part_faults : Schema → Part → Place → BlockTree → List CompileFault
part_faults schema part place b =
    if runs_out part b then At NoEnd place ∷ []
    else statements_faults schema part LOOP_NESTING false (begin_with part) b

-- ---- answers

-- the fault is the first of the faults
abbrev pub IsFirst : CompileFault → List CompileFault → Type 0
IsFirst fault [] = ⊥
IsFirst fault (first ∷ others) = fault ≡ first

-- a part that has a code has no fault; a part that is refused is refused for its first fault, or at its beginning
-- because its code is too large, and then it does not fit
abbrev pub IsJudged : {X : Type 0} → (start : Place) → (fits : Bool) → List CompileFault → Result X CompileFault
    → Type 0
IsJudged start fits faults (Ok x) = faults ≡ []
IsJudged start fits faults (Err fault) = IsFirst fault faults ⊎ ((fault ≡ At Limit start) × (fits ≡ false))
