-- What a source may cost.
use Rattle.std.specs.Prelude.{ℕ, Bool, true, false, ◌||◌, max, Option, option_map}
use Rattle.std.specs.List.{list_any}
use Rattle.std.specs.Option.{option_map_or}
use Rattle.bb_code.specs.declared.op.Op.{Op}
use Rattle.bb_code.specs.declared.op.Op.TheVariants as ops
use Rattle.bb_verify.specs.Accepted.{Checked}
use Rattle.bb_verify.specs.Budget.{budget}
use Rattle.bb_rules.specs.declared.source.Reaction.{Reaction}
use Rattle.bb_rules.specs.Codes.{act_code}
use Rattle.bb_rules.specs.Parts.{Source}

-- the maximum number of steps of a code, if there is one, when no sequence that it finds has more than `found` units
abbrev pub steps_of : (found : ℕ) → Option Checked → ℕ
steps_of found code = option_map_or (λ c. budget c.code found) code 0

-- the code of a reaction, if there is one
abbrev pub code_of : Option Reaction → Option Checked
code_of reaction = option_map (λ r. r.code) reaction

-- the maximum number of steps of any code of a source
abbrev pub most_steps : Source → (found : ℕ) → ℕ
most_steps s found =
    max (max (max (steps_of found s.require) (steps_of found s.revalidate))
    (max (steps_of found (code_of s.obviate)) (steps_of found (code_of s.retrigger))))
    (steps_of found (act_code s.act))

-- the op makes a unit
abbrev pub is_new : Op → Bool
is_new (ops.New class) = true
is_new _ = false

-- a code, if there is one, has an op that makes a unit
abbrev pub can_create : Option Checked → Bool
can_create code = option_map_or (λ c. list_any is_new c.code.ops) code false

-- a code of the source has an op that makes a unit
abbrev pub creates : Source → Bool
creates s =
    can_create (act_code s.act) || can_create s.require || can_create s.revalidate || can_create (code_of s.obviate)
    || can_create (code_of s.retrigger)
