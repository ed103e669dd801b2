-- The sources that run together: each must fit the earlier ones.
use Rattle.std.specs.Prelude.{◌≡◌, ℕ, Bool, true, false, not, ◌&&◌, nat_le, is_some, List, [], ◌∷◌, ◌++◌, length, map, position, Result, Ok, Err, if◌then◌else◌}
use Rattle.std.specs.List.{list_any}
use Rattle.std.specs.Str.{bytes_eq}
use Rattle.bb_basis.specs.Results.{try_fold}
use Rattle.bb_run.specs.Closing.{Closing}
use Rattle.bb_run.specs.Native.{Native}
use Rattle.bb_rules.specs.declared.source.Act.{Act}
use Rattle.bb_rules.specs.declared.source.Act.TheVariants as acts
use Rattle.bb_rules.specs.declared.fault.RuleFault.{RuleFault}
use Rattle.bb_rules.specs.declared.fault.RuleFault.TheVariants as rules
use Rattle.bb_rules.specs.Parts.{Source}
use Rattle.bb_run.specs.Limits.{SOURCE_LIMIT}
use Rattle.bb_shell.specs.declared.fitting.Unfit.{Unfit}
use Rattle.bb_shell.specs.declared.fitting.Unfit.TheVariants as unfits

abbrev pub names_of : List Source → List (List ℕ)
names_of sources = map (λ source. source.name) sources

-- the act is a native's
abbrev pub is_native : Act → Bool
is_native (acts.Code body) = false
is_native acts.Native = true

-- the names of the natives handed in
abbrev pub native_names : List Native → List (List ℕ)
native_names natives = map (λ (n : Native). n.name) natives

-- the names of the natives of a roster
abbrev pub names_in : List Closing → List (List ℕ)
names_in handed_in = map (λ (c : Closing). c.name) handed_in

-- one of the natives has this name
abbrev pub has_native : (natives : List (List ℕ)) → (name : List ℕ) → Bool
has_native natives name = is_some (position (λ one. bytes_eq one name) natives)

-- a source's act is a native's, and none of its name was handed in
abbrev pub lacks_native : (natives : List (List ℕ)) → Source → Bool
lacks_native natives source = is_native source.act && not (has_native natives source.name)

-- a source has a code for its act, or a native of its name is present
abbrev pub HasAct : (natives : List (List ℕ)) → Source → Type 0
HasAct natives source = lacks_native natives source ≡ false

-- the sources with another one: no other has its name, their number is within the limit, and the native that it needs
-- is present
abbrev pub source_after : (natives : List (List ℕ)) → List Source → Source → Result (List Source) Unfit
source_after natives sources source =
    if list_any (bytes_eq source.name) (names_of sources) then Err (unfits.Source source.name (rules.Twice (length sources)))
    else if nat_le SOURCE_LIMIT (length sources) then Err (unfits.Source source.name (rules.Limit (length sources)))
    else if lacks_native natives source then Err (unfits.Source source.name (rules.Native (length sources)))
    else Ok (sources ++ source ∷ [])

-- all sources, or the first that does not fit
abbrev pub fitted : (natives : List (List ℕ)) → List Source → Result (List Source) Unfit
fitted natives sources = try_fold (source_after natives) [] sources

-- the fault of a source that does not fit
abbrev pub fault_of : Unfit → RuleFault
fault_of (unfits.Source name fault) = fault
fault_of unfits.Memory = rules.Memory
