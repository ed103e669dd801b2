-- The names in scope.
use Rattle.std.specs.Prelude.{ℕ, List, [], ◌∷◌, ◌++◌, length, take, set, find, Option, option_map, codes}
use Rattle.std.specs.Str.{bytes_eq}
use Rattle.bb_code.specs.declared.frame.Kind.{Kind}
use Rattle.bb_code.specs.declared.frame.Kind.TheVariants.{Old}
use Rattle.bb_verify_effect.specs.declared.part.Part.{Part}
use Rattle.bb_verify_effect.specs.declared.part.Part.TheVariants.{Require, Obviate, Retrigger, Revalidate, Do}
use Rattle.bb_lang_tree.specs.declared.atom.Variable.{Variable}
use Rattle.bb_lang_tree.specs.declared.atom.Variable.TheVariants.{It, Ev, Named}
use Rattle.bb_compile_scope.specs.declared.scope.NamedLocal.{NamedLocal}
use Rattle.bb_compile_scope.specs.declared.scope.Scope.{Scope}
use Rattle.bb_compile_scope.specs.declared.scope.Mark.{Mark}
use Rattle.bb_compile_scope.specs.LocalKinds.{all_free, kind_at, kinds_left}

-- the text of a name
abbrev pub name_of : Variable → List ℕ
name_of It = codes "it"
name_of Ev = codes "ev"
name_of (Named name) = name

-- the local of a name
abbrev pub local_of : Scope → (name : List ℕ) → Option ℕ
local_of scope name = option_map (λ n. n.local) (find (λ n. bytes_eq n.name name) scope.names)

-- what a name holds
abbrev pub kind_of : Scope → (name : List ℕ) → Option Kind
kind_of scope name = option_map (kind_at scope.kinds) (local_of scope name)

-- the scope with another name, for a local that holds a value of this kind
abbrev pub with_name : (name : List ℕ) → (local : ℕ) → Kind → Scope → Scope
with_name name local kind scope = record {
  names = scope.names ++ record { name = name; local = local } ∷ [];
  kinds = set scope.kinds local kind;
}

-- the scope without names
abbrev pub no_name : Scope
no_name = record { names = []; kinds = all_free }

-- the names that a part begins with: the activation's unit, and the event's
abbrev pub of_unit : (class : ℕ) → Scope
of_unit class = with_name (codes "it") 0 (Old class) no_name

abbrev pub of_event : (class of : ℕ) → Scope
of_event class of = with_name (codes "ev") 1 (Old of) (of_unit class)

abbrev pub begin_with : Part → Scope
begin_with (Require class) = of_unit class
begin_with (Obviate class of) = of_event class of
begin_with (Retrigger class of) = of_event class of
begin_with (Revalidate class) = of_unit class
begin_with (Do class) = of_unit class

-- the mark of a scope, to return to
abbrev pub mark_of : Scope → Mark
mark_of scope = record { names = length scope.names; kinds = scope.kinds }

-- the scope without the names declared since the mark, and with their locals free
abbrev pub back_to : Mark → Scope → Scope
back_to mark scope = record { names = take mark.names scope.names; kinds = kinds_left mark.kinds scope.kinds }
