-- What holds at each place of an accepted code.
use Rattle.std.proofs.Common.{◌≡◌, ◌≤◌, length, List, Ok}
use Rattle.bb_basis.proofs.ResultLemmas.{bind_ok}
use Rattle.bb_schema.specs.Schema.{Schema}
use Rattle.bb_code.specs.Code.{Code}
use Rattle.bb_verify_effect.specs.declared.frame.Frame.{Frame}
use Rattle.bb_verify_effect.specs.declared.part.Part.{Part}
use Rattle.bb_verify.specs.Tables.{tables}
use Rattle.bb_verify.specs.nesting.Jumps.{jumps}
use Rattle.bb_verify.specs.nesting.Loops.{loops}
use Rattle.bb_verify.specs.Places.{frames_of}
use Rattle.bb_verify.specs.Accepted.{accepted}
use Rattle.bb_verify.specs.Facts.{Facts}
use Rattle.bb_verify.proofs.nesting_lemmas.Laws.{loop_passed}
use Rattle.bb_verify.proofs.TableLemmas.{tables_ok}
use Rattle.bb_verify.proofs.WalkLemmas.{walked}
use Rattle.bb_verify.proofs.PhaseLemmas.{table_passed, jump_passed, heads_passed}
use Rattle.bb_verify.proofs.StandLemmas.{entry_stands, op_leaves}
use Rattle.bb_verify.proofs.KnownFrames.{frames_known}

-- where no phase found a fault
pub facts_by : (s : Schema) (part : Part) (code : Code) (frames : List Frame) → 1 ≤ length code.ops → tables s part code ≡ Ok tt → jumps code ≡ Ok tt → loops code ≡ Ok tt → frames_of s part code ≡ Ok frames
    → Facts s part code frames
facts_by s part code frames some one two three four =
    let w = walked s part code frames four in
    record {
      units = (tables_ok s part code one).units;
      count = w.long;
      entry = entry_stands s part code frames w some;
      tables = λ place op is. table_passed s part code place op is one;
      jumps = λ place op is. jump_passed s part code place op is two;
      loops = λ place op is. loop_passed code place op is three;
      heads = heads_passed code three;
      leaves = op_leaves s part code frames w;
      known = frames_known s part code frames one w;
    }

pub facts_of : (s : Schema) (part : Part) (code : Code) (frames : List Frame) → 1 ≤ length code.ops → accepted s part code ≡ Ok frames → Facts s part code frames
unfolding accepted
facts_of s part code frames some h =
    let one = bind_ok (tables s part code) _ frames h in
    let two = bind_ok (jumps code) _ frames one.2 in
    let three = bind_ok (loops code) _ frames two.2 in
    facts_by s part code frames some one.1 two.1 three.1 three.2
