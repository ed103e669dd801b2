-- Values that are said, one after another.
use Rattle.std.proofs.Common.{◌≡◌, true, List, [], ◌∷◌, ◌++◌, refl, ◌∙◌}
use Rattle.std.specs.List.{list_all}
use Rattle.std.proofs.lemmas.List.Folds.{list_all-append}
use Rattle.bb_board.specs.declared.note.Said.{Said}
use Rattle.bb_board.specs.Board.{Board}
use Rattle.bb_board.specs.Fits.{is_said_of}

pub said_with : (b : Board) (said : List Said) (v : Said) → list_all (is_said_of b.schema) said ≡ true → is_said_of b.schema v ≡ true → list_all (is_said_of b.schema) (said ++ v ∷ []) ≡ true
said_with b said v all one = list_all-append (is_said_of b.schema) said (v ∷ []) ∙ rw (all, one) refl
