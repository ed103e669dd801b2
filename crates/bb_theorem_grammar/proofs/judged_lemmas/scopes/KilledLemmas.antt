-- What the body of a loop leaves of the names that are live is the same by the names, and by their locals.
use Rattle.std.proofs.Common.{◌≡◌, ℕ, ◌≤◌, Bool, true, false, cond, List, [], ◌∷◌, ◌++◌, map, Option, Some, None, refl, subst, sym, ap, ◌∙◌, arith}
use Rattle.std.specs.Prelude.{set, position, option_map, option_and_then, ◌==◌}
use Rattle.std.specs.Option.{option_map_or}
use Rattle.std.proofs.lemmas.Bool.{eqb-true}
use Rattle.bb_basis.proofs.PositionLemmas.{position_spot}
use Rattle.bb_code.specs.declared.frame.Kind.TheVariants as kinds
use Rattle.bb_verify_effect.specs.Kinds.{struck}
use Rattle.bb_schema.specs.Schema.{Schema, class_named}
use Rattle.bb_lang.specs.Action.{Action}
use Rattle.bb_lang.specs.Action.TheVariants as actions
use Rattle.bb_lang.specs.Atom.TheVariants as atoms
use Rattle.bb_lang.specs.Binding.{Binding}
use Rattle.bb_lang.specs.Binding.TheVariants as bindings
use Rattle.bb_lang.specs.Blocks.{BlockTree, StatementTree, OtherwiseTree, no_statement, before_others, action, if_of, with_of, for_of, absent, otherwise}
use Rattle.bb_lang.specs.Sequence.{Sequence}
use Rattle.bb_lang.specs.Sequence.TheVariants as sequences
use Rattle.bb_lang.specs.Trees.{ExprTree, atom, unary, binary, chain, size_of, no_step, apply, divide}
use Rattle.bb_lang.specs.Variable.{Variable}
use Rattle.bb_lang.specs.View.{sequence_of}
use Rattle.bb_compile_scope.specs.Killed as scopes
use Rattle.bb_compile_scope.specs.Killed.{unless_fault, unit_kind, bound_name}
use Rattle.bb_compile_scope.specs.Kinds.{class_of}
use Rattle.bb_compile_scope.specs.LocalKinds.{is_free, kind_at}
use Rattle.bb_compile_scope.specs.Scope.{name_of, local_of, mark_of, back_to}
use Rattle.bb_compile_scope.specs.Slots.{link_slot, partner_slot}
use Rattle.bb_compile_scope.specs.declared.scope.Scope.{Scope}
use Rattle.bb_compile_scope.proofs.Laws.{frees}
use Rattle.bb_theorem_grammar.specs.judged.Actions.{after_delete}
use Rattle.bb_theorem_grammar.specs.judged.Expressions.{sequence_class}
use Rattle.bb_theorem_grammar.specs.judged.Killed.{declared, value_class, bound_class, killed_as, killed_name, killed_action, killed_statement, killed_otherwise, killed_statements, at_start}
use Rattle.bb_theorem_grammar.specs.judged.Names.{Names, unit_class, with_named}
use Rattle.bb_theorem_grammar.specs.judged.Names as judged
use Rattle.bb_theorem_grammar.proofs.judged_lemmas.scopes.LocalLemmas.{none_free, frees_some}
use Rattle.bb_theorem_grammar.proofs.judged_lemmas.scopes.NameLemmas.{names_of, kind_same}
use Rattle.bb_theorem_grammar.proofs.judged_lemmas.scopes.ScopeLemmas.{Tidy, Onto, onto_same, onto_level, onto_on, onto_declared, names_declared, name_taken, names_assigned, level_assigned, names_struck, level_struck, level_left, names_left, level_twice, names_twice}

-- a scope comes of another, with these names
pub record Comes (a b : Scope) (names : Names) : Type 0 where
  pub onto : Onto a b
  pub named : names_of b ≡ names

comes_same : (a : Scope) → Tidy a → Comes a a (names_of a)
comes_same a tidy = record { onto = onto_same a a refl tidy; named = refl }

-- ---- classes

pub unit_same : (a : Scope) (unit : Variable) → scopes.unit_class a unit ≡ unit_class (names_of a) unit
unfolding scopes.unit_class
unit_same a unit = ap (option_and_then class_of) (sym (kind_same a (name_of unit)))

value_same : (a : Scope) (e : ExprTree) → scopes.value_class a e ≡ value_class (names_of a) e
value_same a (atom (atoms.Variable unit)) = unit_same a unit
value_same a (atom (atoms.Int n)) = refl
value_same a (atom (atoms.Text text)) = refl
value_same a (atom (atoms.Bool b)) = refl
value_same a (atom (atoms.Label set label)) = refl
value_same a (atom (atoms.Slot unit slot)) = refl
value_same a (unary operation e) = refl
value_same a (binary operation l r) = refl
value_same a (chain first no_step) = value_same a first
value_same a (chain first (apply operator e steps)) = refl
value_same a (chain first (divide division divisor steps)) = refl
value_same a (size_of sequence) = refl

pub sequence_same : (s : Schema) (a : Scope) (sequence : Sequence) → scopes.sequence_class s a sequence ≡ sequence_class s (names_of a) (sequence_of sequence)
sequence_same s a (sequences.Find class space pattern) = refl
sequence_same s a (sequences.Links unit slot) =
    ap (option_and_then (λ class. option_map (λ p. p.1.to) (unless_fault (link_slot s class slot)))) (unit_same a unit)

bound_same : (s : Schema) (a : Scope) (binding : Binding) → scopes.bound_class s a binding ≡ bound_class s (names_of a) binding
bound_same s a (bindings.As name unit class) = refl
bound_same s a (bindings.Linked name unit slot) =
    ap (option_and_then (λ class. option_map (λ p. p.1) (unless_fault (partner_slot s class slot)))) (unit_same a unit)

-- ---- names

unit_held : (class : Option ℕ) → is_free (unit_kind class) ≡ false
unit_held None = refl
unit_held (Some class) = refl

not_zero : (n : ℕ) → 1 ≤ n → (n == 0) ≡ false
not_zero n some = by_test (n == 0) refl
  where
    by_test : (b : Bool) → (n == 0) ≡ b → (n == 0) ≡ false
    by_test true h = absurd (let e = eqb-true n 0 h in omega (arith, e, some))
    by_test false h = h

pub declared_comes : (a : Scope) (name : List ℕ) (class : Option ℕ) → Tidy a → Comes a (scopes.declared name class a) (declared name class (names_of a))
unfolding scopes.declared
declared_comes a name class tidy = by_first (position is_free a.kinds) refl
  where
    by_first : (o : Option ℕ) → position is_free a.kinds ≡ o → Comes a (option_map_or (λ local. record { names = a.names ++ record { name = name; local = local } ∷ []; kinds = set a.kinds local (unit_kind class) }) o a) (declared name class (names_of a))
    by_first None first =
        let full : (frees a.kinds == 0) ≡ true = ap (λ n. n == 0) (none_free a.kinds (sym (position_spot is_free a.kinds) ∙ first)) in
        subst (Comes a a) (ap (λ b. cond b (names_of a) (with_named name (unit_kind class) (names_of a))) (sym full)) (comes_same a tidy)
    by_first (Some local) first =
        let b : Scope = record { names = a.names ++ record { name = name; local = local } ∷ []; kinds = set a.kinds local (unit_kind class) } in
        let some : (frees a.kinds == 0) ≡ false = not_zero (frees a.kinds) (frees_some a.kinds local first) in
        subst (Comes a b) (ap (λ t. cond t (names_of a) (with_named name (unit_kind class) (names_of a))) (sym some))
        (record {
          onto = onto_declared a b name local (unit_kind class) first (unit_held class) refl refl tidy;
          named = names_declared a name local (unit_kind class) first (unit_held class) tidy;
        })

name_comes : (a : Scope) (name : List ℕ) → Tidy a → Comes a (scopes.killed_name name a) (killed_name name (names_of a))
unfolding scopes.killed_name
name_comes a name tidy =
    subst (λ k. Comes a (scopes.killed_name name a) (killed_as name (option_and_then class_of k) (names_of a))) (sym (kind_same a name)) (by_local (local_of a name) refl)
  where
    by_class : (local : ℕ) → local_of a name ≡ Some local → (o : Option ℕ) → Comes a (scopes.with_old local o a) (killed_as name o (names_of a))
    by_class local at None = comes_same a tidy
    by_class local at (Some class) =
        let b : Scope = record { names = a.names; kinds = set a.kinds local (kinds.Old class) } in
        record {
          onto = onto_level a b (level_assigned a b local (kinds.Old class) (name_taken a name local at tidy) refl refl refl) tidy;
          named = names_assigned a name local (kinds.Old class) at refl tidy;
        }

    by_local : (o : Option ℕ) → local_of a name ≡ o
        → Comes a (option_map_or (λ local. scopes.with_old local (class_of (kind_at a.kinds local)) a) o a) (killed_as name (option_and_then class_of (option_map (kind_at a.kinds) o)) (names_of a))
    by_local None at = comes_same a tidy
    by_local (Some local) at = by_class local at (class_of (kind_at a.kinds local))

struck_comes : (s : Schema) (a : Scope) (class : Option ℕ) → Tidy a → Comes a (scopes.struck_units s class a) (after_delete s class (names_of a))
struck_comes s a None tidy = comes_same a tidy
struck_comes s a (Some class) tidy =
    let b : Scope = record { names = a.names; kinds = map (struck s class) a.kinds } in
    record { onto = onto_level a b (level_struck s class a b refl refl) tidy; named = names_struck s class a }

action_comes : (s : Schema) (a : Scope) (x : Action) → Tidy a → Comes a (scopes.killed_action s a x) (killed_action s (names_of a) x)
unfolding scopes.killed_action
action_comes s a (actions.Let name value) tidy = subst (λ c. Comes a (scopes.declared name (scopes.value_class a value) a) (declared name c (names_of a))) (value_same a value) (declared_comes a name (scopes.value_class a value) tidy)
action_comes s a (actions.New name class) tidy = declared_comes a name (class_named s class) tidy
action_comes s a (actions.Assign name value) tidy = name_comes a name tidy
action_comes s a (actions.Delete unit) tidy = subst (λ c. Comes a (scopes.struck_units s (scopes.unit_class a unit) a) (after_delete s c (names_of a))) (unit_same a unit) (struck_comes s a (scopes.unit_class a unit) tidy)
action_comes s a (actions.Set unit slot value) tidy = comes_same a tidy
action_comes s a (actions.Link unit slot other) tidy = comes_same a tidy
action_comes s a (actions.Unlink unit slot other) tidy = comes_same a tidy
action_comes s a (actions.Enter unit space) tidy = comes_same a tidy
action_comes s a (actions.Leave unit space) tidy = comes_same a tidy
action_comes s a (actions.Say values) tidy = comes_same a tidy
action_comes s a (actions.Rate value) tidy = comes_same a tidy
action_comes s a actions.Decline tidy = comes_same a tidy
action_comes s a (actions.Answer value) tidy = comes_same a tidy

-- ---- blocks

-- one after another
comes_on : (a b c : Scope) (names : Names) → Onto a b → Comes b c names → Comes a c names
comes_on a b c names first second = record { onto = onto_on a b c first second.onto; named = second.named }

-- after a block
comes_left : (a b : Scope) (names : Names) → Tidy a → Comes a b names → Comes a (back_to (mark_of a) b) (judged.back_to (names_of a) names)
comes_left a b names tidy c = record {
  onto = onto_level a (back_to (mark_of a) b) (level_left a b c.onto) tidy;
  named = names_left a b tidy c.onto ∙ ap (judged.back_to (names_of a)) c.named;
}

-- after a block with a name before it
comes_twice : (a b c : Scope) (names : Names) → Tidy a → Onto a b → Comes b c names → Comes a (back_to (mark_of a) (back_to (mark_of b) c)) (judged.back_to (names_of a) names)
comes_twice a b c names tidy first second = record {
  onto = onto_level a (back_to (mark_of a) (back_to (mark_of b) c)) (level_twice a b c first second.onto) tidy;
  named = names_twice a b c tidy first second.onto ∙ ap (judged.back_to (names_of a)) second.named;
}

module _ (s : Schema) where
  mutual
    unfolding scopes.killed_statement scopes.killed_otherwise scopes.killed_statements killed_statement killed_otherwise killed_statements

    statement_comes : (x : StatementTree) (a : Scope) → Tidy a → Comes a (scopes.killed_statement s a x) (killed_statement s (names_of a) x)
    statement_comes (action x) a tidy = action_comes s a x tidy
    statement_comes (if_of test first other) a tidy =
        let one = comes_left a (scopes.killed_statements s a first) (killed_statements s (names_of a) first) tidy (statements_come first a tidy) in
        other_comes other a (back_to (mark_of a) (scopes.killed_statements s a first)) (judged.back_to (names_of a) (killed_statements s (names_of a) first)) one
    statement_comes (with_of binding first other) a tidy =
        let inner = scopes.declared (bound_name binding) (scopes.bound_class s a binding) a in
        let begun = subst (λ c. Comes a inner (declared (bound_name binding) c (names_of a))) (bound_same s a binding) (declared_comes a (bound_name binding) (scopes.bound_class s a binding) tidy) in
        let names = declared (bound_name binding) (bound_class s (names_of a) binding) (names_of a) in
        let body = subst (λ n. Comes inner (scopes.killed_statements s inner first) (killed_statements s n first)) begun.named (statements_come first inner begun.onto.tidy) in
        let one = comes_twice a inner (scopes.killed_statements s inner first) (killed_statements s names first) tidy begun.onto body in
        other_comes other a (back_to (mark_of a) (back_to (mark_of inner) (scopes.killed_statements s inner first))) (judged.back_to (names_of a) (killed_statements s names first)) one
    statement_comes (for_of name sequence body) a tidy =
        let class = sequence_class s (names_of a) (sequence_of sequence) in
        let inner = scopes.declared name (scopes.sequence_class s a sequence) a in
        let begun = subst (λ c. Comes a inner (declared name c (names_of a))) (sequence_same s a sequence) (declared_comes a name (scopes.sequence_class s a sequence) tidy) in
        let all = subst (λ n. Comes inner (scopes.killed_statements s inner body) (killed_statements s n body)) begun.named (statements_come body inner begun.onto.tidy) in
        comes_twice a inner (scopes.killed_statements s inner body) (killed_statements s (declared name class (names_of a)) body) tidy begun.onto all

    -- what comes after the first block
    other_comes : (other : OtherwiseTree) (a b : Scope) (names : Names) → Comes a b names → Comes a (scopes.killed_otherwise s b other) (killed_otherwise s names other)
    other_comes absent a b names one = one
    other_comes (otherwise block) a b names one =
        let body = comes_left b (scopes.killed_statements s b block) (killed_statements s (names_of b) block) one.onto.tidy (statements_come block b one.onto.tidy) in
        comes_on a b (back_to (mark_of b) (scopes.killed_statements s b block)) (judged.back_to names (killed_statements s names block)) one.onto
        (subst (λ n. Comes b (back_to (mark_of b) (scopes.killed_statements s b block)) (judged.back_to n (killed_statements s n block))) one.named body)

    pub statements_come : (block : BlockTree) (a : Scope) → Tidy a → Comes a (scopes.killed_statements s a block) (killed_statements s (names_of a) block)
    statements_come no_statement a tidy = comes_same a tidy
    statements_come (before_others place x others) a tidy =
        let b = scopes.killed_statement s a x in
        let one = statement_comes x a tidy in
        comes_on a b (scopes.killed_statements s b others) (killed_statements s (killed_statement s (names_of a) x) others) one.onto
        (subst (λ n. Comes b (scopes.killed_statements s b others) (killed_statements s n others)) one.named (statements_come others b one.onto.tidy))

  -- the start of a loop
  pub start_comes : (name : List ℕ) (class : Option ℕ) (body : BlockTree) (a : Scope) → Tidy a → Comes a (scopes.killed_under s a name class body) (at_start s name class body (names_of a))
  start_comes name class body a tidy =
      let inner = scopes.declared name class a in
      let begun = declared_comes a name class tidy in
      comes_twice a inner (scopes.killed_statements s inner body) (killed_statements s (declared name class (names_of a)) body) tidy begun.onto
      (subst (λ n. Comes inner (scopes.killed_statements s inner body) (killed_statements s n body)) begun.named (statements_come body inner begun.onto.tidy))
