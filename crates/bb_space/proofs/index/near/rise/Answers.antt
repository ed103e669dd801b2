use Rattle.std.proofs.Common.{◌∙◌, sym, ap, subst}
use Rattle.std.specs.List.Sorted.{IsStrictlySortedBy}
use Rattle.std.specs.Ordering.{nat_cmp}
use Rattle.std.specs.Cmp.{nat_cmp_total}
use Rattle.std.proofs.Math.Dec.{eqb}
use Rattle.std.proofs.lemmas.List.Filters.{dedup_is}
use Rattle.std.proofs.lemmas.List.Kept.{IsStrictlySortedBy-dedup}
use Rattle.std.proofs.lemmas.List.Sorted.{list_any-IsPermutation}
use Rattle.bb_space.specs.index.Among.{is_among}
use Rattle.bb_space.proofs.index_lemmas.AmongLemmas.{among_dedup, same_order}
use Rattle.bb_space.proofs.index.near.rise.Goals as goal

pub returns-clause-rises : goal.returns-clause-rises
returns-clause-rises c =
    let xs = c.sort_unstable.new.self.items in
    subst (IsStrictlySortedBy nat_cmp) (sym (dedup_is eqb xs c.dedup.new.self.items c.dedup.ensures.filtered)) (IsStrictlySortedBy-dedup nat_cmp_total same_order xs c.sort_unstable.ensures.sorted)

pub returns-clause-same : goal.returns-clause-same
returns-clause-same c = λ n.
    let xs = c.sort_unstable.new.self.items in
    ap (is_among n) (dedup_is eqb xs c.dedup.new.self.items c.dedup.ensures.filtered) ∙ (among_dedup n xs ∙ sym (list_any-IsPermutation _ c.args.list.now.items xs c.sort_unstable.ensures.permutation))
