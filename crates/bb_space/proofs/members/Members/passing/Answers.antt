use Rattle.std.proofs.Common.{ap, ◌∙◌}
use Rattle.std.specs.Prelude.{filter}
use Rattle.std.proofs.lemmas.Result.{IfOk-weaker}
use Rattle.bb_space.specs.Passing.{passes}
use Rattle.bb_space.specs.proving.Indexed.{membership}
use Rattle.bb_space.proofs.IndexLemmas.{passing_left}
use Rattle.bb_space.proofs.members.Members.passing.Goals as goal

pub returns : goal.returns
returns c =
    let m = c.args.self.now in
    let pass = passes (membership m) c.args.tests.now in
    IfOk-weaker c.passing-2.result _ _ (λ list h. h ∙ (ap (filter pass) c.deref.ensures.value ∙ passing_left m c.requires c.args.tests.now c.args.among.now c.in_ok-list.list.items c.in_ok-list.ensures)) c.passing-2.ensures
