use Rattle.std.proofs.Common.{◌≡◌, drop, map}
use Rattle.bb_basis.specs.Results.{try_fold_at}
use Rattle.bb_schema_form.specs.UnitsDocument.{member_declaration}
use Rattle.bb_schema_form.specs.declared.place.ListKey.TheVariants as lists
use Rattle.bb_board.specs.UnitsFaults.{inside}
use Rattle.bb_board.specs.Load.{member_after}
use Rattle.bb_board.proofs.loader.add_members.Given as goal

abbrev pub invariant-loop-index : goal.invariant-loop-index
invariant-loop-index l =
    (try_fold_at (inside lists.Spaces) (member_after l.schema l.names) l.index l.board.world (drop l.index (map member_declaration l.entries))
    ≡ try_fold_at (inside lists.Spaces) (member_after l.fn.schema l.fn.names) 0 l.fn.board.world (map member_declaration l.fn.entries))
    × (l.board.schema ≡ l.fn.board.schema)
    × (l.board.refused ≡ l.fn.board.refused)
