-- The codes that a source may ask.
use Rattle.std.specs.Prelude.{◌≡◌, Err}
use Rattle.bb_verify.specs.Accepted.{Checked, IsSound}
use Rattle.bb_code.specs.declared.flaw.Flaw.TheVariants as flaws
use Rattle.bb_verify.specs.Part.{writes}

-- a code that was accepted, for a part that may not write
pub record IsQuestion (c : Checked) : Type 0 where
  pub reads : writes c.part ≡ Err flaws.Effect
  pub sound : IsSound c
