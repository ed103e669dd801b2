-- What an expression is of, and what a name holds, is something: a local that holds it is not free.
use Rattle.std.proofs.Common.{◌≡◌, ℕ, Bool, true, false, cond, List, [], ◌∷◌, map, Option, Some, None, Result, Ok, Err, refl, subst}
use Rattle.std.specs.Prelude.{find, option_map, option_and_then}
use Rattle.std.specs.Str.{bytes_eq}
use Rattle.bb_basis.specs.Results.{◌>>=◌}
use Rattle.bb_schema_classes.specs.declared.kind.Kind.{Kind as SlotKind}
use Rattle.bb_schema_classes.specs.declared.kind.Kind.TheVariants as held
use Rattle.bb_code.specs.declared.frame.Kind.{Kind}
use Rattle.bb_code.specs.declared.frame.Kind.TheVariants as kinds
use Rattle.bb_verify_effect.specs.Kinds.{is_same_plain}
use Rattle.bb_schema.specs.Schema.{Schema, descends, label_set_named}
use Rattle.bb_lang.specs.Atom.{Atom}
use Rattle.bb_lang.specs.Atom.TheVariants as atoms
use Rattle.bb_lang.specs.Binary.{Binary}
use Rattle.bb_lang.specs.Binary.TheVariants as binaries
use Rattle.bb_lang.specs.Operator.{Operator}
use Rattle.bb_lang.specs.Operator.TheVariants as operators
use Rattle.bb_lang.specs.Trees.{ExprTree, Steps, atom, unary, binary, chain, size_of, no_step, apply, divide}
use Rattle.bb_lang.specs.Unary.{Unary}
use Rattle.bb_lang.specs.Unary.TheVariants as unaries
use Rattle.bb_compile_scope.specs.Killed.{unless_fault}
use Rattle.bb_compile_scope.specs.Kinds.{class_of, is_live, unit_of, assigned_unit, assigned}
use Rattle.bb_compile_scope.specs.LocalKinds.{is_free}
use Rattle.bb_compile_scope.specs.Scope.{name_of}
use Rattle.bb_compile_scope.specs.Slots.{slot_of, value_in, value_slot}
use Rattle.bb_compile_scope.specs.declared.fault.TextFlaw.{TextFlaw}
use Rattle.bb_compile_scope.specs.declared.scope.NamedLocal.{NamedLocal}
use Rattle.bb_compile_scope.specs.declared.scope.Scope.{Scope}
use Rattle.bb_theorem_grammar.specs.judged.Atoms.{slot_kind, atom_kind}
use Rattle.bb_theorem_grammar.specs.judged.Expressions.{steps_kind, expr_kind}
use Rattle.bb_theorem_grammar.specs.judged.Names.{kind_named, unit_class}
use Rattle.bb_theorem_grammar.specs.judged.Operations.{unary_gives, binary_gives, operator_kind}
use Rattle.bb_theorem_grammar.proofs.judged_lemmas.scopes.NameLemmas.{named_in, names_of}
use Rattle.bb_theorem_grammar.proofs.judged_lemmas.scopes.ScopeLemmas.{AllTaken, Tidy}

abbrev pub IsHeld : Option Kind → Type 0
IsHeld None = Unit {0}
IsHeld (Some k) = is_free k ≡ false

-- ---- names

found_held : (ks : List Kind) (ns : List NamedLocal) (name : List ℕ) → AllTaken ks ns → IsHeld (option_map (λ n. n.kind) (find (λ n. bytes_eq n.name name) (map (named_in ks) ns)))
found_held ks [] name all = tt
found_held ks (n ∷ ns) name all = by_name (found_held ks ns name all.1) (bytes_eq n.name name)
  where
    by_name : IsHeld (option_map (λ m. m.kind) (find (λ m. bytes_eq m.name name) (map (named_in ks) ns))) → (b : Bool) → IsHeld (option_map (λ m. m.kind) (cond b (Some (named_in ks n)) (find (λ m. bytes_eq m.name name) (map (named_in ks) ns))))
    by_name rest true = all.0
    by_name rest false = rest

pub named_held : (scope : Scope) (name : List ℕ) → Tidy scope → IsHeld (kind_named (names_of scope) name)
named_held scope name tidy = found_held scope.kinds scope.names name tidy.taken

-- ---- slots

value_held : (slot : ℕ) (k : SlotKind) → IsHeld (option_map (λ p. p.1) (unless_fault (value_in slot k)))
value_held slot held.Int = refl
value_held slot held.Text = refl
value_held slot held.Bool = refl
value_held slot (held.Label set) = refl
value_held slot held.Interval = refl
value_held slot (held.Link link) = tt

slot_held : (schema : Schema) (class : Option ℕ) (slot : List ℕ) → IsHeld (slot_kind schema class slot)
unfolding value_slot
slot_held schema None slot = tt
slot_held schema (Some class) slot = by_slot (slot_of schema class slot)
  where
    by_slot : (r : Result (ℕ × SlotKind) TextFlaw) → IsHeld (option_map (λ (p : ℕ × Kind). p.1) (unless_fault (r >>= λ p. value_in p.0 p.1)))
    by_slot (Err flaw) = tt
    by_slot (Ok p) = value_held p.0 p.1

label_held : (set : Option ℕ) → IsHeld (option_map kinds.Label set)
label_held None = tt
label_held (Some set) = refl

-- ---- expressions

unary_held : (operation : Unary) → is_free (unary_gives operation) ≡ false
unary_held unaries.Not = refl
unary_held unaries.Low = refl
unary_held unaries.High = refl

binary_held : (operation : Binary) → is_free (binary_gives operation) ≡ false
binary_held binaries.Less = refl
binary_held binaries.AtMost = refl
binary_held binaries.Equal = refl
binary_held binaries.Min = refl
binary_held binaries.Max = refl
binary_held binaries.Interval = refl

operator_held : (operator : Operator) → is_free (operator_kind operator) ≡ false
operator_held operators.Or = refl
operator_held operators.And = refl
operator_held operators.Plus = refl
operator_held operators.Minus = refl
operator_held operators.Times = refl

steps_held : (left : Option Kind) (steps : Steps) → IsHeld left → IsHeld (steps_kind left steps)
steps_held left no_step one = one
steps_held left (apply operator e steps) one = steps_held (Some (operator_kind operator)) steps (operator_held operator)
steps_held left (divide division divisor steps) one = steps_held (Some kinds.Int) steps refl

atom_held : (schema : Schema) (scope : Scope) (a : Atom) → Tidy scope → IsHeld (atom_kind schema (names_of scope) a)
atom_held schema scope (atoms.Int n) tidy = refl
atom_held schema scope (atoms.Text text) tidy = refl
atom_held schema scope (atoms.Bool b) tidy = refl
atom_held schema scope (atoms.Label set label) tidy = label_held (label_set_named schema set)
atom_held schema scope (atoms.Variable v) tidy = named_held scope (name_of v) tidy
atom_held schema scope (atoms.Slot unit slot) tidy = slot_held schema (unit_class (names_of scope) unit) slot

pub expr_held : (schema : Schema) (scope : Scope) (e : ExprTree) → Tidy scope → IsHeld (expr_kind schema (names_of scope) e)
expr_held schema scope (atom a) tidy = atom_held schema scope a tidy
expr_held schema scope (unary operation e) tidy = unary_held operation
expr_held schema scope (binary operation l r) tidy = binary_held operation
expr_held schema scope (chain first steps) tidy = steps_held (expr_kind schema (names_of scope) first) steps (expr_held schema scope first tidy)
expr_held schema scope (size_of sequence) tidy = refl

-- ---- assignments

unit_held : (live : Bool) (class : ℕ) → is_free (unit_of live class) ≡ false
unit_held true class = refl
unit_held false class = refl

pub assigned_held : (s : Schema) (held value now : Kind) → assigned s held value ≡ Some now → is_free held ≡ false → is_free now ≡ false
unfolding assigned assigned_unit
assigned_held s held value now h was = by_plain (is_same_plain held value) h
  where
    by_descent : (class : ℕ) (d : Bool) → cond d (Some (unit_of (is_live value) class)) None ≡ Some now → is_free now ≡ false
    by_descent class true h = subst (λ k. is_free k ≡ false) (let e : unit_of (is_live value) class ≡ now = cc in e) (unit_held (is_live value) class)
    by_descent class false h = absurd cc

    by_other : (class : ℕ) (o : Option ℕ) → option_and_then (λ other. cond (descends s other class) (Some (unit_of (is_live value) class)) None) o ≡ Some now → is_free now ≡ false
    by_other class None h = absurd cc
    by_other class (Some other) h = by_descent class (descends s other class) h

    by_class : (o : Option ℕ) → option_and_then (λ class. option_and_then (λ other. cond (descends s other class) (Some (unit_of (is_live value) class)) None) (class_of value)) o ≡ Some now → is_free now ≡ false
    by_class None h = absurd cc
    by_class (Some class) h = by_other class (class_of value) h

    by_plain : (b : Bool) → cond b (Some held) (option_and_then (λ class. option_and_then (λ other. cond (descends s other class) (Some (unit_of (is_live value) class)) None) (class_of value)) (class_of held)) ≡ Some now → is_free now ≡ false
    by_plain true h = subst (λ k. is_free k ≡ false) (let e : held ≡ now = cc in e) was
    by_plain false h = by_class (class_of held) h
