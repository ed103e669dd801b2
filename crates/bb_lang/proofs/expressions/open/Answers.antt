use Rattle.std.proofs.Common.{rules, sym, ◌∙◌, inr}
use Rattle.bb_lang.proofs.NestingLemmas.{opens_none, opens_one}
use Rattle.bb_lang.proofs.expressions.open.Goals as goal

pub returns-then-nesting-eq0-clause-inner : goal.returns-then-nesting-eq0-clause-inner
returns-then-nesting-eq0-clause-inner c =
    rw c.place-place.ensures (inr (opens_none c.args.bracket.now c.args.parser.now.nesting c.args.parser.now.state (sym c.at.ensures ∙ c.if-not-at.false) (sym c.nesting-nesting.ensures ∙ c.if-nesting-eq0.true)))

pub returns-in_err-advance-clause-inner : goal.returns-in_err-advance-clause-inner
returns-in_err-advance-clause-inner c =
    rw (opens_one c.args.bracket.now c.args.parser.now.nesting c.args.parser.now.state (sym c.at.ensures ∙ c.if-not-at.false) (λ none. c.if-nesting-eq0.false (c.nesting-nesting.ensures ∙ none))) (search rules)

pub returns-clause-inner : goal.returns-clause-inner
returns-clause-inner c =
    rw (opens_one c.args.bracket.now c.args.parser.now.nesting c.args.parser.now.state (sym c.at.ensures ∙ c.if-not-at.false) (λ none. c.if-nesting-eq0.false (c.nesting-nesting.ensures ∙ none))) (search rules)
