use Rattle.std.proofs.Common.{◌≡◌, ◌∙◌, sym, lit<, true, false}
use Rattle.std.proofs.lemmas.Str.Pattern.{starts_char}
use Rattle.bb_bundle.proofs.RateLemmas.{rate_of-parse, rate_of-plus}
use Rattle.bb_bundle.proofs.rate.rate_of.Goals as goal

pub returns-then-starts_with : goal.returns-then-starts_with
returns-then-starts_with c = rate_of-plus c.args.word.now ((starts_char 43 c.args.word.now c.starts_with.result c.starts_with.ensures.cases (lit< tt) (lit< tt)).0 c.if-starts_with.true)

pub returns : goal.returns
returns c =
    let plus = starts_char 43 c.args.word.now c.starts_with.result c.starts_with.ensures.cases (lit< tt) (lit< tt) in
    c.ok.ensures.value ∙ rate_of-parse c.args.word.now c.parse.result c.parse.ensures.value.0 (λ e. absurd (let t : true ≡ false = sym (plus.1 e) ∙ c.if-starts_with.false in cc))
