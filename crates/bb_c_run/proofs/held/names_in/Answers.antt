use Rattle.std.proofs.Common.{◌∷◌, [], length-append}
use Rattle.std.specs.Str.Lines.{lines}
use Rattle.std.proofs.lemmas.Iterator.Consumers.{YieldsList-turn, YieldsList-end}
use Rattle.std.proofs.lemmas.Iterator.Splits.{YieldsList-from_lines}
use Rattle.bb_c_run.proofs.NameLemmas.{names_next, names_end}
use Rattle.bb_c_run.proofs.held.names_in.Goals as goal

pub loop-name-preserved : goal.loop-name-preserved
loop-name-preserved c =
    let turn = YieldsList-turn (YieldsList-from_lines c.args.natives.now cc) c.loop-name.yielded _ c.loop-name.yielded_by _ _ c.in-Some.name c.in-Some.is c.next.ensures.steps in
    record {
      more = tt;
      finite = tt;
      so_far = rw (c.in_ok-push.ensures.items) (names_next (lines c.args.natives.now) c.loop-name.names.items _ _ c.in-Some.name.now c.in_ok-from_str.field-0 turn.0 turn.1 c.in_ok-from_str.ensures (length-append c.loop-name.yielded (c.in-Some.name ∷ [])) c.loop-name.invariant.so_far);
    }

pub returns : goal.returns
returns c =
    let end = YieldsList-end (YieldsList-from_lines c.args.natives.now cc) c.loop-name.yielded _ c.loop-name.yielded_by _ _ c.in-None.is c.next.ensures.steps in
    names_end (lines c.args.natives.now) c.loop-name.names.items _ end.1 c.loop-name.invariant.so_far
