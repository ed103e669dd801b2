-- How frames, parts and codes are encoded as data that can be compared.
use Rattle.std.specs.Coded.{Coded}
use Rattle.bb_verify_effect.specs.declared.frame.Frame.{Frame}
use Rattle.bb_verify_effect.specs.contracts.frame.Frame as frames
use Rattle.bb_verify_effect.specs.declared.part.Part.{Part}
use Rattle.bb_verify_effect.specs.contracts.part.Part as parts
pub use Rattle.bb_code.specs.proving.Codes.{parts_code}

abbrev pub frame_code : Coded Frame
frame_code = frames.the_row.coded

abbrev pub part_code : Coded Part
part_code = parts.the_row.coded
