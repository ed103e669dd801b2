use Rattle.bb_run.specs.Seen.{seen}
use Rattle.bb_run.proofs.Laws.{steady_again}
use Rattle.bb_run_held.proofs.running.Running.next.Goals as goal

pub choose-requires : goal.choose-requires
choose-requires g c = record {
  knows = (steady_again c.args.self.now.plan (seen g.N.NativeSource.meaning c.args.self.now.state) (c.args.self.now.lasts c.requires.whole)
      c.schema.ensures c.fits.ensures c.sources.ensures.sound c.fits-2.ensures).knows;
}
