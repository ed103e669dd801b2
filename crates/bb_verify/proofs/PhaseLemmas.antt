-- What the tests of a place say of its op.
use Rattle.std.proofs.Common.{◌≡◌, ℕ, ◌<◌, length, Some, None, Ok}
use Rattle.std.specs.Prelude.{slice_get}
use Rattle.std.proofs.lemmas.Option.{slice_get_within}
use Rattle.bb_basis.specs.Results.{map_err}
use Rattle.bb_basis.proofs.ResultLemmas.{bind_ok}
use Rattle.bb_schema.specs.Schema.{Schema}
use Rattle.bb_code.specs.Code.{Code, places}
use Rattle.bb_code.specs.declared.op.Op.{Op}
use Rattle.bb_verify_effect.specs.declared.part.Part.{Part}
use Rattle.bb_code.specs.Each.{each}
use Rattle.bb_code.specs.Flaws.{fault_at}
use Rattle.bb_verify.specs.Tables.{in_tables, table_at, tables}
use Rattle.bb_verify.specs.nesting.Jumps.{check_target, jump_at, jumps}
use Rattle.bb_verify.specs.nesting.Loops.{loop_at, lowest_outside, none_outside, loops}
use Rattle.bb_verify_effect.proofs.Laws.{range_at, no_fault}
use Rattle.bb_verify.proofs.TableLemmas.{tables_ok}

module _ (s : Schema) (part : Part) (code : Code) (place : ℕ) (op : Op) (is : slice_get code.ops place ≡ Some op) where
  inside : place < length code.ops
  inside = slice_get_within code.ops place op is

  pub table_passed : tables s part code ≡ Ok tt → in_tables s code op ≡ Ok tt
  unfolding table_at
  table_passed h =
      let passed : table_at s code place ≡ Ok tt = range_at (table_at s code) (length code.ops) place inside (tables_ok s part code h).ops in
      let here : map_err (fault_at place) (in_tables s code op) ≡ Ok tt = rw (is, table_at) at passed in
      no_fault (fault_at place) (in_tables s code op) tt here

  pub jump_passed : jumps code ≡ Ok tt → check_target (length code.ops) place op ≡ Ok tt
  unfolding jumps jump_at
  jump_passed h =
      let passed : jump_at code place ≡ Ok tt = range_at (jump_at code) (length code.ops) place inside h in
      let here : map_err (fault_at place) (check_target (length code.ops) place op) ≡ Ok tt = rw (is, jump_at) at passed in
      no_fault (fault_at place) (check_target (length code.ops) place op) tt here

pub heads_passed : (code : Code) → loops code ≡ Ok tt → none_outside (lowest_outside (length code.ops) None code.loops) ≡ Ok tt
unfolding loops
heads_passed code h = (bind_ok (each (loop_at code) (places code)) _ tt h).2
