-- How codes are encoded as data that can be compared: by their parts.
use Rattle.std.specs.Coded.{Coded}
use Rattle.bb_code.specs.declared.parts.CodeParts.{CodeParts}
use Rattle.bb_code.specs.contracts.parts.CodeParts as parts

abbrev pub parts_code : Coded CodeParts
parts_code = parts.the_row.coded
