use Rattle.std.proofs.lemmas.Map.Keys.{IsStrictlyIncreasing-from_sorted}
use Rattle.bb_space.specs.Spaces.{membership}
use Rattle.bb_space.proofs.RisingLemmas.{keys_rise}
use Rattle.bb_space.proofs.spaces.Spaces.fits.Goals as goal

pub returns : goal.returns
returns c = λ space. IsStrictlyIncreasing-from_sorted _ (keys_rise (membership c.args.self.now space))
