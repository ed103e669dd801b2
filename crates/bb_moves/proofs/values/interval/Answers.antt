use Rattle.std.proofs.Common.{◌≡◌, List, [], ◌∷◌, length, None, refl, arith}
use Rattle.serde_json.specs.View.{items_view}
use Rattle.serde_json.specs.declared.value.Value.{Value}
use Rattle.bb_moves.specs.Values.{ends_of}
use Rattle.bb_moves.proofs.values.interval.Goals as goal

-- no interval has another number of ends than two
other_count : (vs : List Value) → (length vs ≡ 2 → ⊥) → None ≡ ends_of (items_view vs)
other_count [] h = refl
other_count (a ∷ []) h = refl
other_count (a ∷ b ∷ []) h = absurd (h refl)
other_count (a ∷ b ∷ c ∷ more) h = refl

pub returns-in_default : goal.returns-in_default
returns-in_default c = other_count c.args.ends.now (λ e. let below = c.in_default.len_below in omega arith)

pub returns-in_default-2 : goal.returns-in_default-2
returns-in_default-2 c = other_count c.args.ends.now (λ e. let above = c.in_default.len_at_least in omega arith)
