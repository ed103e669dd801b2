use Rattle.std.proofs.Common.{subst}
use Rattle.bb_rules.specs.Law.{HasSoundCodes}
use Rattle.bb_rules.proofs.source.Source.fits.Goals as goal

pub returns : goal.returns
returns c =
    let sound : HasSoundCodes c.self.inside.parts = record {
      require = c.question_fits.ensures;
      obviate = c.reaction_fits.ensures;
      retrigger = c.reaction_fits-2.ensures;
      revalidate = c.question_fits-2.ensures;
      act = c.act_fits.ensures;
    } in
    subst HasSoundCodes c.self.view_is sound
