use Rattle.std.proofs.Common.{rules, subst}
use Rattle.bb_c.proofs.OpenLemmas.{IsBegun, opens}
use Rattle.bb_c.proofs.moves.open.Goals as goal

pub returns : goal.returns
returns c =
    let begun : IsBegun c.args.input.now c.args.natives.now c.args.floor c.in-Ok.held = subst (λ floor. IsBegun c.args.input.now c.args.natives.now floor c.in-Ok.held) (search rules) c.in-Ok.ensures.begun in
    opens c.args.input.now c.args.natives.now c.args.floor c.args.run.now.sitting c.put-2.new.self.sitting c.in-Ok.held c.in-Ok-new.held.value c.status_of-status.result
    begun (search rules) (search rules) (search rules) (search rules)
