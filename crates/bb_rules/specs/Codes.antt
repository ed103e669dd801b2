-- The codes of a source, in the order of its parts.
use Rattle.std.specs.Prelude.{List, [], ◌∷◌, Option, Some, None, option_map}
use Rattle.bb_verify.specs.Accepted.{Checked}
use Rattle.bb_rules.specs.declared.source.Act.{Act}
use Rattle.bb_rules.specs.declared.source.Act.TheVariants as acts
use Rattle.bb_rules.specs.Parts.{Source}

-- the code of what an activation does, if it has one
abbrev pub act_code : Act → Option Checked
act_code (acts.Code c) = Some c
act_code acts.Native = None

-- the codes of require, obviate, retrigger, revalidate and do
abbrev pub codes_of : Source → List (Option Checked)
codes_of s =
    s.require ∷ option_map (λ r. r.code) s.obviate ∷ option_map (λ r. r.code) s.retrigger ∷ s.revalidate
    ∷ act_code s.act ∷ []
