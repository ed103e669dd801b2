use Rattle.std.proofs.Common.{[], ◌∷◌, ◌++◌}
use Rattle.std.proofs.lemmas.List.Elements.{All-push, All-same}
use Rattle.bb_shell.specs.Law.{IsMade}
use Rattle.bb_shell_tests.proofs.shells.hails.Goals as goal

pub loop-turn-preserved : goal.loop-turn-preserved
loop-turn-preserved c =
    let made = IsMade c.args.schema.now in
    let old = c.loop-turn.sources.items in
    let source = c.in_ok-hail.field-0 in
    All-same made c.push.new.self.items (old ++ source ∷ []) c.in_ok-push.ensures.items (All-push made old source c.loop-turn.invariant c.in_ok-hail.ensures)
