use Rattle.bb_theorem_texts.proofs.GivenLemmas.{runs_at}
use Rattle.bb_theorem_texts.proofs.RefusedLemmas.{refused_in_bundle}
use Rattle.bb_theorem_texts.proofs.laws.text_sources_mean_their_text.Goals as goal

pub returns : goal.returns
returns c =
    let schema = c.args.schema.now in
    let passes = c.compiled_source_is_accepted.ensures.accepted in
    let means = c.compiled_source_means_its_text.ensures.means in
    record {
      accepted = λ natives sources bundle name part fault h. refused_in_bundle schema natives sources bundle name part fault passes h;
      run_as_written = λ natives sources bundle made trees i text h read at. runs_at schema natives sources bundle made trees i text means h read at;
    }
