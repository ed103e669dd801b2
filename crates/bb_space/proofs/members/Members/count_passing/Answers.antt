use Rattle.std.proofs.lemmas.Option.{IfSome_then}
use Rattle.bb_space.proofs.IndexLemmas.{count_is_length}
use Rattle.bb_space.proofs.members.Members.count_passing.Goals as goal

pub returns : goal.returns
returns c =
    IfSome_then c.count_passing.result c.count_passing.ensures (λ n count. count_is_length c.args.self.now c.requires c.args.leaf.now n count)
