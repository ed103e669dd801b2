-- What a native of the tests asks for a unit, by its role.
use Rattle.std.specs.Prelude.{ℕ, pos, true, List, [], ◌∷◌, codes}
use Rattle.bb_shell.specs.Ask.{Ask}
use Rattle.bb_shell.specs.Ask.TheVariants.{Delete, Enter, Link, New, Say, Set}
use Rattle.bb_shell.specs.Value.TheVariants as values
use Rattle.bb_shell_tests.specs.declared.role.Role.{Role}
use Rattle.bb_shell_tests.specs.declared.role.Role.TheVariants as roles

-- one ask for each reason to refuse an ask, and then two that are applied
abbrev pub each_refusal : List Ask
each_refusal =
    Delete 9
    ∷ Set 1 (codes "nope") (values.Int (pos 1))
    ∷ Set 1 (codes "score") (values.Bool true)
    ∷ Link 1 (codes "parts") 1
    ∷ Enter 1 (codes "desk")
    ∷ New (codes "x")
    ∷ Say (codes "ok")
    ∷ Set 1 (codes "score") (values.Int (pos 7))
    ∷ []

abbrev pub asked : Role → (text : List ℕ) → (unit : ℕ) → List Ask
asked roles.EachRefusal text unit = each_refusal
asked roles.DeletesFirst text unit = Delete unit ∷ Set unit (codes "score") (values.Int (pos 1)) ∷ []
asked roles.CreatesTwo text unit = New (codes "note") ∷ New (codes "note") ∷ []
asked roles.Says text unit = Say text ∷ []
asked roles.HasNoMemory text unit = []
