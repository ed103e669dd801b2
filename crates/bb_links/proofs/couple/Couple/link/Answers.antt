use Rattle.std.proofs.Common.{◌∙◌, refl, ap, Option, [], ◌∷◌, ◌++◌, ℕ}
use Rattle.bb_links.specs.Pairs.{without_old, old_pair}
use Rattle.bb_schema.specs.declared.couple.Side.TheVariants.{B}
use Rattle.bb_links.specs.Couples.{Couple, with_pairs}
use Rattle.bb_links.proofs.CutLemmas.{put_then_cut}
use Rattle.bb_links.proofs.TakenLemmas.{is_added, is_there}
use Rattle.bb_links.proofs.couple.Couple.link.Goals as goal

pub add-requires : goal.add-requires
add-requires c = (is_added c.args.self.now.singular c.args.a c.args.b c.args.self.now.pairs c.taken-taken.result c.taken-taken.ensures c.if-not-taken.false).absent

pub returns-then-not-taken-clause-linked : goal.returns-then-not-taken-clause-linked
returns-then-not-taken-clause-linked c =
    let there = is_there c.args.self.now.singular c.args.a c.args.b c.args.self.now.pairs c.taken-taken.result c.taken-taken.ensures c.if-not-taken.true in
    rw there refl

pub returns-clause-linked : goal.returns-clause-linked
returns-clause-linked c =
    let now : Couple = c.args.self.now in
    let adds = is_added now.singular c.args.a c.args.b now.pairs c.taken-taken.result c.taken-taken.ensures c.if-not-taken.false in
    let cut : Option (ℕ × ℕ) → Couple → Couple = λ old k. with_pairs k (without_old old k.pairs) in
    let put : Couple = with_pairs now (now.pairs ++ (c.args.a, c.args.b) ∷ []) in
    c.cut_old-2.ensures
    ∙ (ap (cut c.taken-taken.result.second) (c.cut_old.ensures ∙ ap (cut c.taken-taken.result.first) c.in_ok-add.ensures.ok)
    ∙ (ap (λ (old : Option (ℕ × ℕ)). cut old (cut c.taken-taken.result.first put)) adds.second
    ∙ (ap (λ (old : Option (ℕ × ℕ)). cut (old_pair now.singular B c.args.b now.pairs) (cut old put)) adds.first
    ∙ ap (with_pairs now) (put_then_cut now.singular c.args.a c.args.b now.pairs adds.absent))))
