use Rattle.std.proofs.Common.{◌≡◌, ◌≢◌, ℕ, ◌<◌, false, List, ◌∷◌, ◌++◌, length, get_or, Option, Some, None, sym, lit<, Bor}
use Rattle.std.specs.Prelude.{◌==◌, All, MatchOption, option_map}
use Rattle.std.proofs.lemmas.Bool.{ne_eqb}
use Rattle.std.proofs.lemmas.List.Elements.{All-from_get_or}
use Rattle.std.proofs.lemmas.Str.Pattern.{split_parts}
use Rattle.bb_bundle.specs.Clauses.{split_dot}
use Rattle.bb_bundle.proofs.LineLemmas.{split_dot-at, split_dot-none}
use Rattle.bb_bundle.proofs.clause.split_dot.Goals as goal

lacks_dot : (bs : List ℕ) → ((i : ℕ) → i < length bs → get_or bs i 0 ≢ 46) → All (λ b. (b == 46) ≡ false) bs
lacks_dot bs h = All-from_get_or (λ b. (b == 46) ≡ false) bs 0 (λ i lt. ne_eqb (get_or bs i 0) 46 (h i lt))

cut : (word : List ℕ) (r : Option (Bor (List ℕ) × Bor (List ℕ))) → MatchOption r ((i : ℕ) → i < length word → get_or word i 0 ≢ 46) (λ x. (word ≡ x.0.now ++ (46 ∷ x.1.now)) × ((i : ℕ) → i < length x.0.now → get_or x.0.now i 0 ≢ 46))
    → option_map (λ p. (p.0.now, p.1.now)) r ≡ split_dot word
cut word None h = sym (split_dot-none word (lacks_dot word h))
cut word (Some x) h = rw (h.0) (sym (split_dot-at x.0.now x.1.now (lacks_dot x.0.now h.1)))

pub returns : goal.returns
returns c = cut c.args.word.now c.split_once.result (split_parts 46 c.args.word.now c.split_once.result c.split_once.ensures.cases (lit< tt))
