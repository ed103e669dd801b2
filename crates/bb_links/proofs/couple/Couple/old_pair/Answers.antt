use Rattle.std.proofs.Common.{◌≡◌, ◌∙◌, ap, sym, true, Option, Some, None, List, ℕ}
use Rattle.std.specs.Prelude.{option_map, slice_get}
use Rattle.bb_schema.specs.declared.couple.Side.{Side}
use Rattle.bb_schema.specs.Couples.{pair_of}
use Rattle.bb_links.specs.declared.couple.Singular.{Singular}
use Rattle.bb_links.specs.Pairs.{is_singular, old_pair}
use Rattle.bb_links.specs.Links.{partners}
use Rattle.bb_links.proofs.PairLemmas.{find-first}
use Rattle.bb_links.proofs.couple.Couple.old_pair.Goals as goal

by_first : (s : Singular) (side : Side) (n : ℕ) (pairs : List (ℕ × ℕ)) (first : Option ℕ) → is_singular s side ≡ true → slice_get (partners side n pairs) 0 ≡ first → old_pair s side n pairs ≡ option_map (pair_of side n) first
by_first s side n pairs first single is = rw single (find-first side n pairs ∙ ap (option_map (pair_of side n)) is)

pub returns-in_err-partner : goal.returns-in_err-partner
returns-in_err-partner c =
    let now = c.args.self.now in
    c.from_residual.ensures ∙ sym (by_first now.singular c.args.side c.args.unit now.pairs None (sym c.is_singular.ensures ∙ c.if-not-is_singular.false) (sym c.in_err-partner.ensures))

pub returns : goal.returns
returns c =
    let now = c.args.self.now in
    ap (λ (p : ℕ × ℕ). Some p) c.pair.ensures
    ∙ sym (by_first now.singular c.args.side c.args.unit now.pairs (Some c.in_ok-partner.partner) (sym c.is_singular.ensures ∙ c.if-not-is_singular.false) (sym c.in_ok-partner.ensures))
