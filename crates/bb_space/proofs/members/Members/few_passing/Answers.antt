use Rattle.std.proofs.lemmas.Option.{IfSome_then}
use Rattle.std.proofs.lemmas.Result.{IfOk-weaker}
use Rattle.bb_space.proofs.IndexLemmas.{all_passing}
use Rattle.bb_space.proofs.members.Members.few_passing.Goals as goal

pub returns : goal.returns
returns c =
    IfOk-weaker c.few_by_two.result _ _ (λ few h. IfSome_then few h (λ list near. all_passing c.args.self.now c.requires c.args.tests.now list.items near)) c.few_by_two.ensures
