-- The lines of a check: the costs of each source's parts, and the number of sources.
use Rattle.std.specs.Prelude.{ℕ, List, [], ◌∷◌, ◌++◌, Option, Some, None, option_map, length, codes}
use Rattle.std.specs.Fmt.{decimal}
use Rattle.std.specs.List.{flat_map}
use Rattle.bb_verify.specs.Accepted.{Checked}
use Rattle.bb_verify.specs.Budget.{budget}
use Rattle.bb_rules.specs.declared.source.Act.{Act}
use Rattle.bb_rules.specs.declared.source.Act.TheVariants as acts
use Rattle.bb_rules.specs.Parts.{Source}

-- `NAME PART ops N budget B0 B1`: the number of ops of a code, its budget if it finds nothing, and its budget if it
-- finds at most one unit
abbrev pub part_line : (name part : List ℕ) → Checked → List ℕ
part_line name part checked =
    name ++ codes " " ++ part ++ codes " ops " ++ decimal (length checked.code.ops)
    ++ codes " budget " ++ decimal (budget checked.code 0) ++ codes " " ++ decimal (budget checked.code 1) ++ 10 ∷ []

-- the line of a part, if the source has it
abbrev pub part_text : (name part : List ℕ) → Option Checked → List ℕ
part_text name part None = []
part_text name part (Some checked) = part_line name part checked

-- the line of what an activation does
abbrev pub act_text : (name : List ℕ) → Act → List ℕ
act_text name (acts.Code checked) = part_line name (codes "do") checked
act_text name acts.Native = name ++ codes " native" ++ 10 ∷ []

-- the lines of a source, with its parts in the order of a bundle
abbrev pub source_text : Source → List ℕ
source_text source =
    part_text source.name (codes "require") source.require
    ++ part_text source.name (codes "obviate") (option_map (λ r. r.code) source.obviate)
    ++ part_text source.name (codes "retrigger") (option_map (λ r. r.code) source.retrigger)
    ++ part_text source.name (codes "revalidate") source.revalidate
    ++ act_text source.name source.act

-- the lines of all sources, then `checked K`
abbrev pub check_text : List Source → List ℕ
check_text sources = flat_map source_text sources ++ codes "checked " ++ decimal (length sources) ++ 10 ∷ []
