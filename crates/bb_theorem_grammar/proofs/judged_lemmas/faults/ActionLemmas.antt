-- Statements without blocks: the compiler notes the flaws of the judgement, and leaves its names.
use Rattle.std.proofs.Common.{ℕ, ◌-◌, Bool, true, false, cond, List, [], ◌∷◌, ◌++◌, length, Option, Some, None, Result, Ok, Err}
use Rattle.std.specs.Prelude.{nat_lt, is_ok}
use Rattle.bb_code.specs.declared.parts.TheConstants.{STACK_LIMIT, SAID_LIMIT}
use Rattle.bb_code.specs.declared.op.LinkChange.{LinkChange}
use Rattle.bb_code.specs.declared.op.LinkChange.TheVariants as changes
use Rattle.bb_schema_classes.specs.declared.kind.Link.{Link}
use Rattle.bb_code.specs.declared.frame.Kind.{Kind}
use Rattle.bb_code.specs.declared.frame.Kind.TheVariants as kinds
use Rattle.bb_code.specs.declared.op.Op.{Op}
use Rattle.bb_code.specs.declared.op.Op.TheVariants as ops
use Rattle.bb_verify_effect.specs.Part.{writes, ends_rated, ends_answered}
use Rattle.bb_schema.specs.Schema.{Schema, class_named, space_named, descends}
use Rattle.bb_schema.specs.Spaces.{allowed}
use Rattle.bb_verify_effect.specs.declared.part.Part.{Part}
use Rattle.bb_lang.specs.Action.{Action}
use Rattle.bb_lang.specs.Action.TheVariants as actions
use Rattle.bb_lang.specs.Trees.{ExprTree}
use Rattle.bb_lang.specs.Variable.{Variable}
use Rattle.bb_compile_scope.specs.Place.{Place}
use Rattle.bb_compile_scope.specs.Slots.{value_slot, link_slot}
use Rattle.bb_compile_scope.specs.declared.fault.CompileFault.{CompileFault}
use Rattle.bb_compile_scope.specs.declared.fault.TextFlaw.{TextFlaw}
use Rattle.bb_compile_scope.specs.declared.fault.TextFlaw.TheVariants.{Unknown, LinkClass, Space, Effect, NoEnd, Limit}
use Rattle.bb_compile_scope.specs.declared.scope.Scope.{Scope}
use Rattle.bb_compile_buffer.specs.declared.buffer.Buffer.{Buffer}
use Rattle.bb_compile_buffer.specs.Atoms.{unit_code}
use Rattle.bb_compile_buffer.specs.Buffers.{noted, due, known, put}
use Rattle.bb_compile.specs.Actions.{effect_noted, end_noted, let_code, assign_code, new_code, set_by, set_in, set_code, link_noted, relinked_by, relinked_in, relink_code, space_noted, entered, enter_code, left_space, leave_code, delete_code, values_code, say_code, end_code, change_code, action_code}
use Rattle.bb_compile.specs.Expressions.{expr_code}
use Rattle.bb_theorem_grammar.specs.judged.Actions.{effect_flaws, end_flaws, assigned_flaws, set_by_flaws, set_flaws, other_flaws, relink_by_flaws, relink_flaws, enter_flaws, values_flaws, value_flaws, change_flaws, action_flaws, after_let, assigned_kind, after_assign, after_delete, after_action}
use Rattle.bb_theorem_grammar.specs.judged.Atoms.{unit_flaws}
use Rattle.bb_theorem_grammar.specs.judged.Expressions.{expr_kind, expr_flaws}
use Rattle.bb_theorem_grammar.specs.judged.Flaws.{least, unless, if_so, if_unknown, if_other}
use Rattle.bb_theorem_grammar.specs.judged.Names.{Names, kind_named, unit_class}
use Rattle.bb_theorem_grammar.proofs.judged_lemmas.faults.AtomLemmas.{unit_judged}
use Rattle.bb_theorem_grammar.proofs.judged_lemmas.faults.ExprLemmas.{expr_judged}
use Rattle.bb_theorem_grammar.proofs.judged_lemmas.scopes.HoldLemmas.{Holds, Keeps, noted_flaw, noted_unless, first_noted, made_then, made_last, keeps_then, put_keeps, due_keeps, known_keeps}
use Rattle.bb_theorem_grammar.proofs.judged_lemmas.scopes.KindLemmas.{expr_held}
use Rattle.bb_theorem_grammar.proofs.judged_lemmas.scopes.MoveLemmas.{Moves, holds_map, stay_moves, let_moves, new_moves, assign_moves, delete_moves}
use Rattle.bb_theorem_grammar.proofs.judged_lemmas.scopes.NameLemmas.{names_of, kind_same}
use Rattle.bb_theorem_grammar.proofs.judged_lemmas.scopes.ScopeLemmas.{Tidy}

module _ (schema : Schema) (scope : Scope) (place : Place) where
  abbrev names : Names
  names = names_of scope

  -- ---- slots and links

  set_by_keeps : (r : Result (ℕ × Kind) TextFlaw) (made : Option Kind) (s : Buffer) (seen : Option TextFlaw) → Keeps scope place seen s → Holds (Keeps scope place (least seen (set_by_flaws r made))) place (set_by r made s)
  set_by_keeps (Err flaw) made s seen k = noted_flaw scope place flaw s seen k
  set_by_keeps (Ok slot) made s seen k = put_keeps scope place (ops.Set slot.0) (due made slot.1 s) (least seen (if_other made slot.1)) (due_keeps scope place made slot.1 s seen k)

  set_in_keeps : (class : Option ℕ) (slot : List ℕ) (made : Option Kind) (s : Buffer) (seen : Option TextFlaw) → Keeps scope place seen s → Holds (Keeps scope place (least seen (set_flaws schema class slot made))) place (set_in schema class slot made s)
  unfolding least
  set_in_keeps None slot made s seen k = k
  set_in_keeps (Some class) slot made s seen k = set_by_keeps (value_slot schema class slot) made s seen k

  set_keeps : (unit : Variable) (slot : List ℕ) (value : ExprTree) (s : Buffer) (seen : Option TextFlaw) → Keeps scope place seen s → Holds (Keeps scope place (least seen (change_flaws schema names (actions.Set unit slot value)))) place (set_code schema unit slot value s)
  unfolding set_code
  set_keeps unit slot value s seen k =
      let class = unit_class names unit in
      let kind = expr_kind schema names value in
      let one = unit_flaws names STACK_LIMIT unit in
      let two = expr_flaws schema names (STACK_LIMIT - 1) value in
      let rest = set_flaws schema class slot kind in
      made_then scope place class (Keeps scope place) seen one (two ++ rest) (unit_code unit STACK_LIMIT s) _ (unit_judged scope place unit STACK_LIMIT s seen k)
      (λ t kept. made_then scope place kind (Keeps scope place) (least seen one) two rest (expr_code schema (STACK_LIMIT - 1) value t) _ (expr_judged schema scope place value (STACK_LIMIT - 1) t (least seen one) kept)
      (λ u last. set_in_keeps class slot kind u (least (least seen one) two) last))

  link_keeps : (to : ℕ) (other : Option ℕ) (s : Buffer) (seen : Option TextFlaw) → Keeps scope place seen s → Keeps scope place (least seen (other_flaws schema to other)) (link_noted schema to other s)
  unfolding least
  link_keeps to None s seen k = k
  link_keeps to (Some class) s seen k = noted_unless scope place (descends schema class to) LinkClass s seen k

  relinked_keeps : (change : LinkChange) (r : Result (ℕ × Link) TextFlaw) (other : Option ℕ) (s : Buffer) (seen : Option TextFlaw) → Keeps scope place seen s → Holds (Keeps scope place (least seen (relink_by_flaws schema r other))) place (relinked_by schema change r other s)
  relinked_keeps change (Err flaw) other s seen k = noted_flaw scope place flaw s seen k
  relinked_keeps change (Ok slot) other s seen k =
      put_keeps scope place (ops.Relink change slot.0) (link_noted schema slot.1.to other s) (least seen (other_flaws schema slot.1.to other)) (link_keeps slot.1.to other s seen k)

  relinked_in_keeps : (change : LinkChange) (class : Option ℕ) (slot : List ℕ) (other : Option ℕ) (s : Buffer) (seen : Option TextFlaw) → Keeps scope place seen s → Holds (Keeps scope place (least seen (relink_flaws schema class slot other))) place (relinked_in schema change class slot other s)
  unfolding least
  relinked_in_keeps change None slot other s seen k = k
  relinked_in_keeps change (Some class) slot other s seen k = relinked_keeps change (link_slot schema class slot) other s seen k

  relink_keeps : (change : LinkChange) (unit : Variable) (slot : List ℕ) (other : Variable) (s : Buffer) (seen : Option TextFlaw) → Keeps scope place seen s
      → Holds (Keeps scope place (least seen (unit_flaws names STACK_LIMIT unit ++ (unit_flaws names (STACK_LIMIT - 1) other ++ relink_flaws schema (unit_class names unit) slot (unit_class names other))))) place (relink_code schema change unit slot other s)
  unfolding relink_code
  relink_keeps change unit slot other s seen k =
      let class = unit_class names unit in
      let of = unit_class names other in
      let one = unit_flaws names STACK_LIMIT unit in
      let two = unit_flaws names (STACK_LIMIT - 1) other in
      let rest = relink_flaws schema class slot of in
      made_then scope place class (Keeps scope place) seen one (two ++ rest) (unit_code unit STACK_LIMIT s) _ (unit_judged scope place unit STACK_LIMIT s seen k)
      (λ t kept. made_then scope place of (Keeps scope place) (least seen one) two rest (unit_code other (STACK_LIMIT - 1) t) _ (unit_judged scope place other (STACK_LIMIT - 1) t (least seen one) kept)
      (λ u last. relinked_in_keeps change class slot of u (least (least seen one) two) last))

  -- ---- spaces

  entered_keeps : (class space : Option ℕ) (s : Buffer) (seen : Option TextFlaw) → Keeps scope place seen s → Holds (Keeps scope place (least seen (enter_flaws schema class space))) place (entered schema class space s)
  unfolding least
  entered_keeps None None s seen k = k
  entered_keeps None (Some space) s seen k = k
  entered_keeps (Some class) None s seen k = k
  entered_keeps (Some class) (Some space) s seen k =
      put_keeps scope place (ops.Enter space) (space_noted schema space class s) (least seen (unless (allowed schema space class) Space)) (noted_unless scope place (allowed schema space class) Space s seen k)

  enter_keeps : (unit : Variable) (space : List ℕ) (s : Buffer) (seen : Option TextFlaw) → Keeps scope place seen s → Holds (Keeps scope place (least seen (change_flaws schema names (actions.Enter unit space)))) place (enter_code schema unit space s)
  unfolding enter_code
  enter_keeps unit space s seen k =
      let class = unit_class names unit in
      let of = space_named schema space in
      let one = unit_flaws names STACK_LIMIT unit in
      made_then scope place class (Keeps scope place) seen one (if_unknown of ++ enter_flaws schema class of) (unit_code unit STACK_LIMIT s) _ (unit_judged scope place unit STACK_LIMIT s seen k)
      (λ t kept. first_noted place (Keeps scope place) (least seen one) (if_unknown of) (enter_flaws schema class of) (entered schema class of (known of t))
      (entered_keeps class of (known of t) (least (least seen one) (if_unknown of)) (known_keeps scope place of t (least seen one) kept)))

  left_keeps : (space : Option ℕ) (s : Buffer) (seen : Option TextFlaw) → Keeps scope place seen s → Holds (Keeps scope place (least seen (if_unknown space))) place (left_space space s)
  unfolding least
  left_keeps None s seen k = noted_flaw scope place Unknown s seen k
  left_keeps (Some space) s seen k = put_keeps scope place (ops.Leave space) s seen k

  leave_keeps : (unit : Variable) (space : List ℕ) (s : Buffer) (seen : Option TextFlaw) → Keeps scope place seen s → Holds (Keeps scope place (least seen (change_flaws schema names (actions.Leave unit space)))) place (leave_code schema unit space s)
  unfolding leave_code
  leave_keeps unit space s seen k =
      let one = unit_flaws names STACK_LIMIT unit in
      made_then scope place (unit_class names unit) (Keeps scope place) seen one (if_unknown (space_named schema space)) (unit_code unit STACK_LIMIT s) _ (unit_judged scope place unit STACK_LIMIT s seen k)
      (λ t kept. left_keeps (space_named schema space) t (least seen one) kept)

  -- ---- values

  values_keeps : (values : List ExprTree) (room : ℕ) (s : Buffer) (seen : Option TextFlaw) → Keeps scope place seen s → Holds (Keeps scope place (least seen (values_flaws schema names room values))) place (values_code schema room values s)
  unfolding least values_code
  values_keeps [] room s seen k = k
  values_keeps (e ∷ es) room s seen k =
      let one = expr_flaws schema names room e in
      made_then scope place (expr_kind schema names e) (Keeps scope place) seen one (values_flaws schema names (room - 1) es) (expr_code schema room e s) _ (expr_judged schema scope place e room s seen k)
      (λ t kept. values_keeps es (room - 1) t (least seen one) kept)

  say_keeps : (values : List ExprTree) (s : Buffer) (seen : Option TextFlaw) → Keeps scope place seen s → Holds (Keeps scope place (least seen (change_flaws schema names (actions.Say values)))) place (say_code schema values s)
  unfolding say_code least
  say_keeps values s seen k =
      let one = values_flaws schema names STACK_LIMIT values in
      keeps_then scope place (Keeps scope place) seen one (if_so (nat_lt SAID_LIMIT (length values)) Limit) (values_code schema STACK_LIMIT values s) _ (values_keeps values STACK_LIMIT s seen k)
      (λ t kept. by_count (nat_lt SAID_LIMIT (length values)) t (least seen one) kept)
    where
      by_count : (b : Bool) (t : Buffer) (flaw : Option TextFlaw) → Keeps scope place flaw t → Holds (Keeps scope place (least flaw (if_so b Limit))) place (cond b (Ok (noted Limit t)) (put (ops.Say (length values)) t))
      by_count true t flaw kept = noted_flaw scope place Limit t flaw kept
      by_count false t flaw kept = put_keeps scope place (ops.Say (length values)) t flaw kept

  end_keeps : (value : ExprTree) (wanted : Kind) (op : Op) (s : Buffer) (seen : Option TextFlaw) → Keeps scope place seen s → Holds (Keeps scope place (least seen (value_flaws schema names value wanted))) place (end_code schema value wanted op s)
  unfolding end_code
  end_keeps value wanted op s seen k =
      let kind = expr_kind schema names value in
      let one = expr_flaws schema names STACK_LIMIT value in
      made_then scope place kind (Keeps scope place) seen one (if_other kind wanted) (expr_code schema STACK_LIMIT value s) _ (expr_judged schema scope place value STACK_LIMIT s seen k)
      (λ t kept. put_keeps scope place op (due kind wanted t) (least (least seen one) (if_other kind wanted)) (due_keeps scope place kind wanted t (least seen one) kept))

  -- ---- all of them

  module _ (tidy : Tidy scope) where
    keeps_moves : (flaw : Option TextFlaw) (r : Result Buffer CompileFault) → Holds (Keeps scope place flaw) place r → Holds (Moves place scope names flaw) place r
    keeps_moves flaw r h = holds_map place (Keeps scope place flaw) (Moves place scope names flaw) r (stay_moves place scope tidy flaw) h

    let_judged : (name : List ℕ) (value : ExprTree) (s : Buffer) (seen : Option TextFlaw) → Keeps scope place seen s
        → Holds (Moves place scope (after_let name (expr_kind schema names value) names) (least seen (expr_flaws schema names STACK_LIMIT value))) place (let_code schema name value s)
    unfolding let_code
    let_judged name value s seen k =
        let kind = expr_kind schema names value in
        let flaw = least seen (expr_flaws schema names STACK_LIMIT value) in
        made_last scope place kind flaw (Moves place scope (after_let name kind names) flaw) (expr_code schema STACK_LIMIT value s) _ (expr_judged schema scope place value STACK_LIMIT s seen k)
        (λ t kept. let_moves place scope tidy name kind t flaw (expr_held schema scope value tidy) kept)

    assign_judged : (name : List ℕ) (value : ExprTree) (s : Buffer) (seen : Option TextFlaw) → Keeps scope place seen s
        → Holds (Moves place scope (after_assign name (assigned_kind schema (kind_named names name) (expr_kind schema names value)) names) (least seen (expr_flaws schema names STACK_LIMIT value ++ assigned_flaws schema (kind_named names name) (expr_kind schema names value)))) place (assign_code schema name value s)
    unfolding assign_code
    assign_judged name value s seen k =
        let kind = expr_kind schema names value in
        let one = expr_flaws schema names STACK_LIMIT value in
        let held = kind_named names name in
        made_then scope place kind (Moves place scope (after_assign name (assigned_kind schema held kind) names)) seen one (assigned_flaws schema held kind) (expr_code schema STACK_LIMIT value s) _ (expr_judged schema scope place value STACK_LIMIT s seen k)
        (λ t kept. assign_moves place scope tidy schema name held kind t (least seen one) (kind_same scope name) kept)

    delete_judged : (unit : Variable) (s : Buffer) (seen : Option TextFlaw) → Keeps scope place seen s
        → Holds (Moves place scope (after_delete schema (unit_class names unit) names) (least seen (unit_flaws names STACK_LIMIT unit))) place (delete_code schema unit s)
    unfolding delete_code
    delete_judged unit s seen k =
        let class = unit_class names unit in
        let flaw = least seen (unit_flaws names STACK_LIMIT unit) in
        made_last scope place class flaw (Moves place scope (after_delete schema class names) flaw) (unit_code unit STACK_LIMIT s) _ (unit_judged scope place unit STACK_LIMIT s seen k)
        (λ t kept. delete_moves place scope tidy schema class t flaw kept)

    -- a change, after what is noted where the part may make none
    changed : (part : Part) (a : Action) (s : Buffer) (seen : Option TextFlaw) → Keeps scope place seen s
        → ((t : Buffer) (flaw : Option TextFlaw) → Keeps scope place flaw t → Holds (Moves place scope (after_action schema names a) (least flaw (change_flaws schema names a))) place (change_code schema a t))
        → Holds (Moves place scope (after_action schema names a) (least seen (effect_flaws part ++ change_flaws schema names a))) place (change_code schema a (effect_noted part s))
    changed part a s seen k change =
        first_noted place (Moves place scope (after_action schema names a)) seen (effect_flaws part) (change_flaws schema names a) (change_code schema a (effect_noted part s))
        (change (effect_noted part s) (least seen (effect_flaws part)) (noted_unless scope place (is_ok (writes part)) Effect s seen k))

    ended : (right : Bool) (value : ExprTree) (wanted : Kind) (op : Op) (s : Buffer) (seen : Option TextFlaw) → Keeps scope place seen s
        → Holds (Moves place scope names (least seen (end_flaws right ++ value_flaws schema names value wanted))) place (end_code schema value wanted op (end_noted right s))
    ended right value wanted op s seen k =
        first_noted place (Moves place scope names) seen (end_flaws right) (value_flaws schema names value wanted) (end_code schema value wanted op (end_noted right s))
        (keeps_moves (least (least seen (end_flaws right)) (value_flaws schema names value wanted)) (end_code schema value wanted op (end_noted right s))
        (end_keeps value wanted op (end_noted right s) (least seen (end_flaws right)) (noted_unless scope place right NoEnd s seen k)))

    pub action_judged : (part : Part) (a : Action) (s : Buffer) (seen : Option TextFlaw) → Keeps scope place seen s → Holds (Moves place scope (after_action schema names a) (least seen (action_flaws schema part names a))) place (action_code schema part a s)
    unfolding action_code action_flaws after_action new_code
    action_judged part (actions.Let name value) s seen k = let_judged name value s seen k
    action_judged part (actions.Assign name value) s seen k = assign_judged name value s seen k
    action_judged part (actions.New name class) s seen k = changed part (actions.New name class) s seen k (λ t flaw kept. new_moves place scope tidy name (class_named schema class) t flaw kept)
    action_judged part (actions.Set unit slot value) s seen k =
        changed part (actions.Set unit slot value) s seen k (λ t flaw kept. keeps_moves (least flaw (change_flaws schema names (actions.Set unit slot value))) (set_code schema unit slot value t) (set_keeps unit slot value t flaw kept))
    action_judged part (actions.Link unit slot other) s seen k =
        changed part (actions.Link unit slot other) s seen k (λ t flaw kept. keeps_moves (least flaw (change_flaws schema names (actions.Link unit slot other))) (relink_code schema changes.Link unit slot other t) (relink_keeps changes.Link unit slot other t flaw kept))
    action_judged part (actions.Unlink unit slot other) s seen k =
        changed part (actions.Unlink unit slot other) s seen k (λ t flaw kept. keeps_moves (least flaw (change_flaws schema names (actions.Unlink unit slot other))) (relink_code schema changes.Unlink unit slot other t) (relink_keeps changes.Unlink unit slot other t flaw kept))
    action_judged part (actions.Enter unit space) s seen k =
        changed part (actions.Enter unit space) s seen k (λ t flaw kept. keeps_moves (least flaw (change_flaws schema names (actions.Enter unit space))) (enter_code schema unit space t) (enter_keeps unit space t flaw kept))
    action_judged part (actions.Leave unit space) s seen k =
        changed part (actions.Leave unit space) s seen k (λ t flaw kept. keeps_moves (least flaw (change_flaws schema names (actions.Leave unit space))) (leave_code schema unit space t) (leave_keeps unit space t flaw kept))
    action_judged part (actions.Delete unit) s seen k = changed part (actions.Delete unit) s seen k (λ t flaw kept. delete_judged unit t flaw kept)
    action_judged part (actions.Say values) s seen k =
        changed part (actions.Say values) s seen k (λ t flaw kept. keeps_moves (least flaw (change_flaws schema names (actions.Say values))) (say_code schema values t) (say_keeps values t flaw kept))
    action_judged part (actions.Rate value) s seen k = ended (is_ok (ends_rated part)) value kinds.Int ops.Rate s seen k
    action_judged part actions.Decline s seen k =
        keeps_moves (least seen (end_flaws (is_ok (ends_rated part)))) (put ops.Decline (end_noted (is_ok (ends_rated part)) s))
        (put_keeps scope place ops.Decline (end_noted (is_ok (ends_rated part)) s) (least seen (end_flaws (is_ok (ends_rated part)))) (noted_unless scope place (is_ok (ends_rated part)) NoEnd s seen k))
    action_judged part (actions.Answer value) s seen k = ended (is_ok (ends_answered part)) value kinds.Bool ops.Answer s seen k
