use Rattle.std.proofs.Common.{ap, subst, ◌∙◌, string_bytes}
use Rattle.std.specs.Prelude.{All}
use Rattle.std.proofs.lemmas.List.{take_all}
use Rattle.std.proofs.lemmas.List.Elements.{All-more}
use Rattle.bb_bundle.specs.Bundle.{sources_of}
use Rattle.bb_bundle.specs.Written.{bundle_text}
use Rattle.bb_bundle.specs.proving.Again.{IsSpelledAgain}
use Rattle.bb_bundle.proofs.AgainLemmas.{sources_again}
use Rattle.bb_bundle.proofs.WrittenLemmas.{more_written}
use Rattle.bb_bundle.proofs.writer.bundle.Goals as goal

pub loop-source-preserved : goal.loop-source-preserved
loop-source-preserved c = record {
  text = more_written c.args.sources.now c.loop-source.source-index c.source-item.result (string_bytes c.loop-source.out) (string_bytes c.put_source.new.out) c.loop-source-test.true c.source-item.is c.loop-source.invariant.text
      c.in_ok-put_source.ensures.written;
  again = All-more IsSpelledAgain c.args.sources.now c.loop-source.source-index c.source-item.result c.loop-source-test.true c.loop-source.invariant.again (subst IsSpelledAgain c.source-item.is c.in_ok-put_source.ensures.again);
}

pub returns-clause-written : goal.returns-clause-written
returns-clause-written c = c.loop-source.invariant.text ∙ ap bundle_text (take_all c.loop-source.source-index c.args.sources.now c.loop-source-test.false)

pub returns-clause-again : goal.returns-clause-again
returns-clause-again c =
    let all = take_all c.loop-source.source-index c.args.sources.now c.loop-source-test.false in
    ap sources_of (c.loop-source.invariant.text ∙ ap bundle_text all)
    ∙ sources_again c.args.sources.now (subst (All IsSpelledAgain) all c.loop-source.invariant.again)
