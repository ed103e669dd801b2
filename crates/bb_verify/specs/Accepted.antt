-- Which codes are accepted for a part of a source (of this project).
use Rattle.std.specs.Prelude.{◌≡◌, List, Result, Ok}
use Rattle.bb_basis.specs.Results.{◌>>=◌}
use Rattle.bb_schema.specs.Schema.{Schema}
use Rattle.bb_code.specs.Code.{Code, IsCode}
use Rattle.bb_code.specs.declared.flaw.VerifyFault.{VerifyFault}
use Rattle.bb_verify_effect.specs.declared.frame.Frame.{Frame}
use Rattle.bb_verify_effect.specs.declared.part.Part.{Part}
use Rattle.bb_verify.specs.Tables.{tables}
use Rattle.bb_verify.specs.nesting.Jumps.{jumps}
use Rattle.bb_verify.specs.nesting.Loops.{loops}
use Rattle.bb_verify.specs.Places.{frames_of}

-- the frames of all places of an accepted code, or the first fault
unfoldable pub accepted : Schema → Part → Code → Result (List Frame) VerifyFault
accepted s part code = do
  _ ← tables s part code
  _ ← jumps code
  _ ← loops code
  frames_of s part code

-- an accepted code, its part, and a frame for each place
pub record Checked : Type 0 where
  pub code : Code
  pub part : Part
  pub frames : List Frame

-- an accepted code, with its part and frames, or the first fault
unfoldable pub checked : Schema → Part → Code → Result Checked VerifyFault
checked s part code = do
  frames ← accepted s part code
  Ok (record { code = code; part = part; frames = frames })

-- the code is within its limits, and the verifier accepts it under some schema
pub record IsSound (c : Checked) : Type 0 where
  pub code : IsCode c.code
  pub schema : Schema
  pub accepted : checked schema c.part c.code ≡ Ok c
