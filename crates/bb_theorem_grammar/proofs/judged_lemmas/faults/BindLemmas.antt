-- What a `with` tests and declares, and the sequence of a `for`: where nothing is wrong, there is a name for a unit.
use Rattle.std.proofs.Common.{◌≡◌, ℕ, Bool, true, false, cond, List, [], ◌∷◌, ◌++◌, length, Option, Some, None, Result, Ok, Err, refl, subst, sym, ◌∙◌}
use Rattle.std.specs.Prelude.{option_map, option_and_then}
use Rattle.bb_basis.specs.Results.{◌>>=◌}
use Rattle.bb_code.specs.declared.parts.TheConstants.{STACK_LIMIT}
use Rattle.bb_code.specs.declared.frame.Kind.{Kind}
use Rattle.bb_code.specs.declared.frame.Kind.TheVariants as kinds
use Rattle.bb_code.specs.declared.op.Op.TheVariants as ops
use Rattle.bb_schema.specs.Schema.{Schema, class_named, space_named}
use Rattle.bb_lang.specs.Binding.{Binding}
use Rattle.bb_lang.specs.Binding.TheVariants as bindings
use Rattle.bb_lang.specs.Trees.{SequenceTree, found, linked}
use Rattle.bb_lang.specs.Variable.{Variable}
use Rattle.bb_compile_scope.specs.Killed.{unless_fault}
use Rattle.bb_compile_scope.specs.Kinds.{class_of, is_live}
use Rattle.bb_compile_scope.specs.Place.{Place}
use Rattle.bb_compile_scope.specs.Slots.{link_slot, partner_slot}
use Rattle.bb_compile_scope.specs.declared.fault.TextFlaw.{TextFlaw}
use Rattle.bb_compile_scope.specs.declared.fault.TextFlaw.TheVariants.{Unknown, Kind as WrongKind}
use Rattle.bb_compile_scope.specs.declared.scope.Scope.{Scope}
use Rattle.bb_schema_classes.specs.declared.kind.Link.{Link}
use Rattle.bb_compile_buffer.specs.declared.buffer.Buffer.{Buffer}
use Rattle.bb_compile_buffer.specs.Atoms.{unit_code, variable_code}
use Rattle.bb_compile_buffer.specs.Buffers.{noted, known, put, declare}
use Rattle.bb_compile.specs.declared.exits.Exits.{Exits}
use Rattle.bb_compile.specs.Bindings.{one_exit, is_test_of, is_test, is_class, as_code, alive_and_as, alive_code, test_code, bound_as, as_named, with_as, partner_by, partner_in, with_partner, binding_code}
use Rattle.bb_theorem_grammar.specs.judged.Atoms.{variable_flaws, if_no_unit, if_not_live, unit_flaws}
use Rattle.bb_theorem_grammar.specs.judged.Expressions.{sequence_class, sequence_flaws, pattern_flaws}
use Rattle.bb_theorem_grammar.specs.judged.Flaws.{least, unless, if_unknown, flaw_of, if_not_pushed}
use Rattle.bb_theorem_grammar.specs.judged.Names.{Names, kind_of, unit_class, with_named, with_unit}
use Rattle.bb_theorem_grammar.specs.judged.Queries.{linked_class, linked_flaws, no_operand, found_flaws}
use Rattle.bb_theorem_grammar.specs.judged.Statements.{tells, as_flaws, partner_flaws, binding_flaws, bound}
use Rattle.bb_theorem_grammar.proofs.judged_lemmas.faults.AgreeLemmas.{least_was, least_one}
use Rattle.bb_theorem_grammar.proofs.judged_lemmas.faults.AtomLemmas.{variable_judged, unit_judged}
use Rattle.bb_theorem_grammar.proofs.judged_lemmas.scopes.HoldLemmas.{least_on, Holds, Keeps, noted_flaw, holds_then, first_noted, made_then, put_keeps, known_keeps}
use Rattle.bb_theorem_grammar.proofs.judged_lemmas.scopes.MoveLemmas.{Moves, declare_moves}
use Rattle.bb_theorem_grammar.proofs.judged_lemmas.scopes.NameLemmas.{names_of}
use Rattle.bb_theorem_grammar.proofs.judged_lemmas.scopes.ScopeLemmas.{Tidy, Onto}

-- ---- what is there where nothing is noted

abbrev pub There : {X : Type 0} → Option X → Type 0
There None = ⊥
There (Some x) = Unit {0}

known_there : (o : Option ℕ) (seen : Option TextFlaw) → least seen (if_unknown o) ≡ None → There o
known_there None seen h = least_one seen Unknown h
known_there (Some n) seen h = tt

pushed_there : (o : Option Kind) (room : ℕ) (seen : Option TextFlaw) → least seen (if_not_pushed o room) ≡ None → There o
pushed_there None room seen h = least_one seen Unknown h
pushed_there (Some k) room seen h = tt

no_unit_there : (o : Option ℕ) (live : Bool) (seen : Option TextFlaw) → least seen (if_no_unit o live) ≡ None → There o
no_unit_there None live seen h = least_one seen WrongKind h
no_unit_there (Some class) live seen h = tt

live_there : (o : Option Kind) (room : ℕ) (seen : Option TextFlaw) → least (least seen (if_not_pushed o room)) (if_not_live o) ≡ None → There (option_and_then class_of o)
live_there None room seen h = least_one seen Unknown (least_was (least seen (Unknown ∷ [])) [] h)
live_there (Some kind) room seen h = no_unit_there (class_of kind) (is_live kind) (least seen (if_not_pushed (Some kind) room)) h

unit_there : (names : Names) (room : ℕ) (v : Variable) (seen : Option TextFlaw) → least seen (unit_flaws names room v) ≡ None → There (unit_class names v)
unit_there names room v seen h = live_there (kind_of names v) room seen (sym (least_on seen (variable_flaws names room v) (if_not_live (kind_of names v))) ∙ h)

linked_there : (schema : Schema) (class : Option ℕ) (slot : List ℕ) (seen : Option TextFlaw) → There class → least seen (linked_flaws schema class slot) ≡ None → There (linked_class schema class slot)
linked_there schema None slot seen there h = absurd there
linked_there schema (Some class) slot seen there h = by_slot (link_slot schema class slot) h
  where
    by_slot : (r : Result (ℕ × Link) TextFlaw) → least seen (flaw_of r) ≡ None → There (option_map (λ (p : ℕ × Link). p.1.to) (unless_fault r))
    by_slot (Err flaw) h = least_one seen flaw h
    by_slot (Ok p) h = tt

-- a sequence is of a class
pub sequence_there : (schema : Schema) (names : Names) (room : ℕ) (sequence : SequenceTree) (seen : Option TextFlaw) → least seen (sequence_flaws schema names room sequence) ≡ None → There (sequence_class schema names sequence)
unfolding sequence_flaws
sequence_there schema names room (linked unit slot) seen h =
    let units = unit_flaws names room unit in
    let links = linked_flaws schema (unit_class names unit) slot in
    let both = sym (least_on seen units links) ∙ h in
    linked_there schema (unit_class names unit) slot (least seen units) (unit_there names room unit seen (least_was (least seen units) links both)) both
sequence_there schema names room (found class space p) seen h =
    let rest = if_unknown (space_named schema space) ++ (pattern_flaws schema names room (space_named schema space) p no_operand ++ found_flaws (class_named schema class) (space_named schema space) room) in
    known_there (class_named schema class) seen (least_was (least seen (if_unknown (class_named schema class))) rest (sym (least_on seen (if_unknown (class_named schema class)) rest) ∙ h))

-- ---- a name for a unit

-- where nothing was noted, there is a test, and the names are these
pub record Binds (place : Place) (scope : Scope) (names : Names) (flaw : Option TextFlaw) (p : Option Exits × Buffer) : Type 0 where
  pub begun : p.1.start ≡ place
  pub flawed : p.1.flaw ≡ flaw
  pub named : flaw ≡ None → (exits : Exits) × (p.0 ≡ Some exits) × Onto scope p.1.scope × (names_of p.1.scope ≡ names)

module _ (place : Place) (scope : Scope) (tidy : Tidy scope) where
  not_bound : (names : Names) (flaw : Option TextFlaw) (t : Buffer) → (flaw ≡ None → ⊥) → Keeps scope place flaw t → Binds place scope names flaw (None, t)
  not_bound names flaw t never k = record { begun = k.begun; flawed = k.flawed; named = λ none. absurd (never none) }

  is_bound : (names : Names) (flaw : Option TextFlaw) (exits : Exits) (t : Buffer) → Moves place scope names flaw t → Binds place scope names flaw (Some exits, t)
  is_bound names flaw exits t m = record { begun = m.begun; flawed = m.flawed; named = λ none. (exits, refl, m.onto, m.named) }

  -- a test, and then a name
  declares : (name : List ℕ) (class : ℕ) (exits : Exits) (flaw : Option TextFlaw) (t : Buffer) → Keeps scope place flaw t
      → Holds (Binds place scope (with_named name (kinds.Ref class) (names_of scope)) flaw) place (declare name (kinds.Ref class) t >>= λ u. Ok (Some exits, u))
  declares name class exits flaw t k =
      let names = with_named name (kinds.Ref class) (names_of scope) in
      holds_then place (Moves place scope names flaw) (Binds place scope names flaw) (declare name (kinds.Ref class) t) _
      (declare_moves place scope tidy name (kinds.Ref class) t flaw refl k) (λ u moves. is_bound names flaw exits u moves)

  -- ---- a unit that is tested

  pub tested : (held : Kind) (class : ℕ) (s : Buffer) (flaw : Option TextFlaw) → Keeps scope place flaw s → Holds (λ (p : Exits × Buffer). Keeps scope place flaw p.1) place (test_code held class s)
  unfolding as_code alive_code
  tested held class s flaw k = by_live (is_live held)
    where
      by_same : (b : Bool) (t : Buffer) → Keeps scope place flaw t → Holds (λ (p : Exits × Buffer). Keeps scope place flaw p.1) place (cond b (Ok (one_exit (length s.ops), t)) (alive_and_as (length s.ops) class t))
      by_same true t kept = kept
      by_same false t kept =
          holds_then place (Keeps scope place flaw) (λ (p : Exits × Buffer). Keeps scope place flaw p.1) (put (ops.As class 0) t) _ (put_keeps scope place (ops.As class 0) t flaw kept) (λ u last. last)

      by_live : (b : Bool) → Holds (λ (p : Exits × Buffer). Keeps scope place flaw p.1) place (cond b (as_code class s) (alive_code (is_class (class_of held) class) class s))
      by_live true =
          holds_then place (Keeps scope place flaw) (λ (p : Exits × Buffer). Keeps scope place flaw p.1) (put (ops.As class 0) s) _ (put_keeps scope place (ops.As class 0) s flaw k) (λ t kept. kept)
      by_live false =
          holds_then place (Keeps scope place flaw) (λ (p : Exits × Buffer). Keeps scope place flaw p.1) (put (ops.Alive 0) s) _ (put_keeps scope place (ops.Alive 0) s flaw k) (λ t kept. by_same (is_class (class_of held) class) t kept)

  tells_same : (schema : Schema) (live : Bool) (own : Option ℕ) (class : ℕ) → tells schema live own class ≡ is_test_of schema live own class
  tells_same schema live None class = refl
  tells_same schema live (Some own) class = refl

  bound_as_binds : (schema : Schema) (name : List ℕ) (held : Kind) (class : ℕ) (s : Buffer) (flaw : Option TextFlaw) → Keeps scope place flaw s
      → Holds (Binds place scope (with_named name (kinds.Ref class) (names_of scope)) (least flaw (as_flaws schema (Some held) (Some class)))) place (bound_as schema name held class s)
  unfolding least
  bound_as_binds schema name held class s flaw k =
      subst (λ b. Holds (Binds place scope names (least flaw (unless b WrongKind))) place (bound_as schema name held class s)) (sym (tells_same schema (is_live held) (class_of held) class)) (by_test (is_test schema held class))
    where
      names : Names
      names = with_named name (kinds.Ref class) (names_of scope)

      by_test : (b : Bool) → Holds (Binds place scope names (least flaw (unless b WrongKind))) place
          (cond b (test_code held class s >>= λ p. declare name (kinds.Ref class) p.1 >>= λ u. Ok (Some p.0, u)) (Ok (None, noted WrongKind s)))
      by_test true =
          holds_then place (λ (p : Exits × Buffer). Keeps scope place flaw p.1) (Binds place scope names flaw) (test_code held class s) _ (tested held class s flaw k) (λ p kept. declares name class p.0 flaw p.1 kept)
      by_test false = not_bound names (least flaw (WrongKind ∷ [])) (noted WrongKind s) (least_one flaw WrongKind) (noted_flaw scope place WrongKind s flaw k)

  as_named_binds : (schema : Schema) (name : List ℕ) (held : Option Kind) (class : Option ℕ) (s : Buffer) (flaw : Option TextFlaw) → (flaw ≡ None → There held) → (flaw ≡ None → There class) → Keeps scope place flaw s
      → Holds (Binds place scope (with_unit name class (names_of scope)) (least flaw (as_flaws schema held class))) place (as_named schema name held class s)
  unfolding least
  as_named_binds schema name None None s flaw held_there class_there k = not_bound (names_of scope) flaw s held_there k
  as_named_binds schema name None (Some class) s flaw held_there class_there k = not_bound (with_unit name (Some class) (names_of scope)) flaw s held_there k
  as_named_binds schema name (Some held) None s flaw held_there class_there k = not_bound (names_of scope) flaw s class_there k
  as_named_binds schema name (Some held) (Some class) s flaw held_there class_there k = bound_as_binds schema name held class s flaw k

  -- ---- a partner

  partner_by_binds : (name : List ℕ) (r : Result (ℕ × ℕ) TextFlaw) (s : Buffer) (flaw : Option TextFlaw) → Keeps scope place flaw s
      → Holds (Binds place scope (with_unit name (option_map (λ (p : ℕ × ℕ). p.1) (unless_fault r)) (names_of scope)) (least flaw (flaw_of r))) place (partner_by name r s)
  unfolding least
  partner_by_binds name (Err wrong) s flaw k = not_bound (names_of scope) (least flaw (wrong ∷ [])) (noted wrong s) (least_one flaw wrong) (noted_flaw scope place wrong s flaw k)
  partner_by_binds name (Ok slot) s flaw k =
      holds_then place (Keeps scope place flaw) (Binds place scope (with_named name (kinds.Ref slot.1) (names_of scope)) flaw) (put (ops.One slot.0 0) s) _
      (put_keeps scope place (ops.One slot.0 0) s flaw k) (λ t kept. declares name slot.1 (one_exit (length s.ops)) flaw t kept)

  partner_in_binds : (schema : Schema) (name slot : List ℕ) (class : Option ℕ) (s : Buffer) (flaw : Option TextFlaw) → (flaw ≡ None → There class) → Keeps scope place flaw s
      → Holds (Binds place scope (with_unit name (option_and_then (λ c. option_map (λ p. p.1) (unless_fault (partner_slot schema c slot))) class) (names_of scope)) (least flaw (partner_flaws schema class slot))) place (partner_in schema name slot class s)
  unfolding least
  partner_in_binds schema name slot None s flaw there k = not_bound (names_of scope) flaw s there k
  partner_in_binds schema name slot (Some class) s flaw there k = partner_by_binds name (partner_slot schema class slot) s flaw k

  -- ---- both

  pub binding_binds : (schema : Schema) (binding : Binding) (s : Buffer) (seen : Option TextFlaw) → Keeps scope place seen s
      → Holds (Binds place scope (bound schema (names_of scope) binding) (least seen (binding_flaws schema (names_of scope) binding))) place (binding_code schema binding s)
  unfolding with_as with_partner
  binding_binds schema (bindings.As name unit class_name) s seen k =
      let held = kind_of (names_of scope) unit in
      let class = class_named schema class_name in
      let one = variable_flaws (names_of scope) STACK_LIMIT unit in
      let two = if_unknown class in
      made_then scope place held (Binds place scope (with_unit name class (names_of scope))) seen one (two ++ as_flaws schema held class) (variable_code unit STACK_LIMIT s) _
      (variable_judged scope place unit STACK_LIMIT s seen k) (λ t kept.
      first_noted place (Binds place scope (with_unit name class (names_of scope))) (least seen one) two (as_flaws schema held class) (as_named schema name held class (known class t))
      (as_named_binds schema name held class (known class t) (least (least seen one) two)
      (λ none. pushed_there held STACK_LIMIT seen (least_was (least seen one) two none)) (λ none. known_there class (least seen one) none)
      (known_keeps scope place class t (least seen one) kept)))
  binding_binds schema (bindings.Linked name unit slot) s seen k =
      let class = unit_class (names_of scope) unit in
      let one = unit_flaws (names_of scope) STACK_LIMIT unit in
      made_then scope place class (Binds place scope (bound schema (names_of scope) (bindings.Linked name unit slot))) seen one (partner_flaws schema class slot) (unit_code unit STACK_LIMIT s) _
      (unit_judged scope place unit STACK_LIMIT s seen k) (λ t kept.
      partner_in_binds schema name slot class t (least seen one) (λ none. unit_there (names_of scope) STACK_LIMIT unit seen none) kept)
