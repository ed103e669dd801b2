use Rattle.std.proofs.Common.{◌≡◌, drop, map}
use Rattle.bb_basis.specs.Results.{try_fold_at}
use Rattle.bb_schema_form.specs.UnitsDocument.{unit_declaration}
use Rattle.bb_schema_form.specs.declared.place.ListKey.TheVariants as lists
use Rattle.bb_board.specs.UnitsFaults.{inside}
use Rattle.bb_board.specs.Load.{entry_after}
use Rattle.bb_board.specs.proving.Reading.{progress_of}
use Rattle.bb_board.proofs.loader.Progress.add_all.Given as goal

abbrev pub invariant-loop-index : goal.invariant-loop-index
invariant-loop-index l =
    (try_fold_at (inside lists.Units) (entry_after l.schema) l.index (progress_of l.self) (drop l.index (map unit_declaration l.entries))
    ≡ try_fold_at (inside lists.Units) (entry_after l.fn.schema) 0 (progress_of l.fn.self) (map unit_declaration l.fn.entries))
    × (l.self.board.schema ≡ l.fn.self.board.schema)
    × (l.self.board.refused ≡ l.fn.self.board.refused)
