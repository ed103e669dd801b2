use Rattle.std.proofs.Common.{◌≡◌, ℕ, ◌||◌, ◌∙◌, ap}
use Rattle.std.specs.List.{list_any}
use Rattle.std.specs.Ordering.{nat_cmp}
use Rattle.std.specs.BTreeMap.{is_at as meets}
use Rattle.bb_space.specs.Candidates.{is_candidate}
use Rattle.bb_space.specs.proving.Indexed.{membership}
use Rattle.bb_space.specs.index.Among.{is_among}
use Rattle.bb_space.specs.index.proving.Stretches.{is_near}
use Rattle.bb_space.proofs.index_lemmas.Laws.{meets_among}
use Rattle.bb_space.proofs.CandidateLemmas.{candidates_are}
use Rattle.bb_space.proofs.IndexLemmas.{near_candidate}
use Rattle.bb_space.proofs.members.Members.candidates.Goals as goal

pub returns : goal.returns
returns c =
    let m = c.args.self.now in
    let list = c.rise.new.list.items in
    let same : (n : ℕ) → list_any (meets (nat_cmp n)) list ≡ is_candidate (membership m) c.args.leaf.now n = λ n.
    meets_among n list ∙ (c.rise.ensures.same n ∙ (c.in_ok-collect_near.ensures n ∙ (ap (λ ks. is_among n ks || is_near c.args.leaf.now m.places n) c.new-found.ensures.items ∙ near_candidate m c.requires c.args.leaf.now n))) in
    candidates_are (membership m) c.args.leaf.now list c.rise.ensures.rises same
