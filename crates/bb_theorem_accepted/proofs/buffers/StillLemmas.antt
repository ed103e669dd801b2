-- Statements that declare no name and delete no unit leave the scope as it is, and their ops go on to the next.
use Rattle.std.proofs.Common.{◌≡◌, ℕ, ◌-◌, Bool, true, false, cond, List, [], ◌∷◌, length, Option, Some, None, Result, Ok, Err, refl}
use Rattle.std.specs.Prelude.{nat_lt, is_ok}
use Rattle.bb_basis.specs.Results.{◌>>=◌}
use Rattle.bb_code.specs.declared.parts.TheConstants.{STACK_LIMIT, SAID_LIMIT}
use Rattle.bb_code.specs.declared.op.LinkChange.{LinkChange}
use Rattle.bb_code.specs.declared.op.LinkChange.TheVariants as changes
use Rattle.bb_verify_effect.specs.declared.part.Part.{Part}
use Rattle.bb_verify_effect.specs.Part.{writes, ends_rated, ends_answered}
use Rattle.bb_code.specs.declared.frame.Kind.{Kind}
use Rattle.bb_code.specs.declared.frame.Kind.TheVariants as kinds
use Rattle.bb_code.specs.declared.op.Op.{Op}
use Rattle.bb_code.specs.declared.op.Op.TheVariants as ops
use Rattle.bb_schema.specs.Schema.{Schema, space_named, descends}
use Rattle.bb_schema.specs.Spaces.{allowed}
use Rattle.bb_schema_classes.specs.declared.kind.Link.{Link}
use Rattle.bb_lang.specs.Action.{Action}
use Rattle.bb_lang.specs.Action.TheVariants as actions
use Rattle.bb_lang.specs.Trees.{ExprTree}
use Rattle.bb_lang.specs.Variable.{Variable}
use Rattle.bb_compile_scope.specs.declared.fault.CompileFault.{CompileFault}
use Rattle.bb_compile_scope.specs.declared.fault.TextFlaw.{TextFlaw}
use Rattle.bb_compile_scope.specs.declared.fault.TextFlaw.TheVariants.{Unknown, LinkClass, Space, Effect, NoEnd, Limit}
use Rattle.bb_compile_scope.specs.Slots.{value_slot, link_slot}
use Rattle.bb_compile_buffer.specs.declared.buffer.Buffer.{Buffer}
use Rattle.bb_compile_buffer.specs.Buffers.{noted, due, known, put}
use Rattle.bb_compile_buffer.specs.Operations.{Made}
use Rattle.bb_compile_buffer.specs.Atoms.{unit_code}
use Rattle.bb_compile.specs.Expressions.{expr_code}
use Rattle.bb_compile.specs.Actions.{effect_noted, end_noted, set_by, set_in, set_code, link_noted, relinked_by, relinked_in, relink_code, space_noted, entered, enter_code, left_space, leave_code, values_code, say_code, end_code, action_code}
use Rattle.bb_theorem_accepted.proofs.buffers.QuietLemmas.{is_quiet}
use Rattle.bb_theorem_accepted.proofs.buffers.StayLemmas.{Stays, Keeps, itself, behind, stays_same, onward, then, flawed, unless_flawed, due_keeps, known_keeps, put_keeps, put_on, unit_keeps, expr_keeps}

module _ (schema : Schema) where
  set_keeps : (v : Variable) (slot : List ℕ) (e : ExprTree) (s : Buffer) → Keeps itself s (set_code schema v slot e s)
  unfolding set_code
  set_keeps v slot e s =
      then behind itself s (unit_code v STACK_LIMIT s) (λ p. expr_code schema (STACK_LIMIT - 1) e p.1 >>= λ q. set_in schema p.0 slot q.0 q.1) (unit_keeps v STACK_LIMIT s)
      (λ p. then behind itself p.1 (expr_code schema (STACK_LIMIT - 1) e p.1) (λ q. set_in schema p.0 slot q.0 q.1) (expr_keeps schema e (STACK_LIMIT - 1) p.1) (λ q. by_class p.0 q.0 q.1))
    where
      by_slot : (r : Result (ℕ × Kind) TextFlaw) (made : Made) (t : Buffer) → Keeps itself t (set_by r made t)
      by_slot (Err flaw) made t = flawed flaw t
      by_slot (Ok p) made t = put_on (ops.Set p.0) refl t (due made p.1 t) (due_keeps made p.1 t)

      by_class : (class : Option ℕ) (made : Made) (t : Buffer) → Keeps itself t (set_in schema class slot made t)
      by_class None made t = stays_same t
      by_class (Some class) made t = by_slot (value_slot schema class slot) made t

  relink_keeps : (change : LinkChange) (v : Variable) (slot : List ℕ) (other : Variable) (s : Buffer) → Keeps itself s (relink_code schema change v slot other s)
  unfolding relink_code
  relink_keeps change v slot other s =
      then behind itself s (unit_code v STACK_LIMIT s) (λ p. unit_code other (STACK_LIMIT - 1) p.1 >>= λ q. relinked_in schema change p.0 slot q.0 q.1) (unit_keeps v STACK_LIMIT s)
      (λ p. then behind itself p.1 (unit_code other (STACK_LIMIT - 1) p.1) (λ q. relinked_in schema change p.0 slot q.0 q.1) (unit_keeps other (STACK_LIMIT - 1) p.1) (λ q. by_class p.0 q.0 q.1))
    where
      link_flawed : (to : ℕ) (of : Option ℕ) (t : Buffer) → Stays t (link_noted schema to of t)
      link_flawed to None t = stays_same t
      link_flawed to (Some class) t = unless_flawed (descends schema class to) LinkClass t

      by_slot : (r : Result (ℕ × Link) TextFlaw) (of : Option ℕ) (t : Buffer) → Keeps itself t (relinked_by schema change r of t)
      by_slot (Err flaw) of t = flawed flaw t
      by_slot (Ok p) of t = put_on (ops.Relink change p.0) refl t (link_noted schema p.1.to of t) (link_flawed p.1.to of t)

      by_class : (class of : Option ℕ) (t : Buffer) → Keeps itself t (relinked_in schema change class slot of t)
      by_class None of t = stays_same t
      by_class (Some class) of t = by_slot (link_slot schema class slot) of t

  enter_keeps : (v : Variable) (space : List ℕ) (s : Buffer) → Keeps itself s (enter_code schema v space s)
  unfolding enter_code
  enter_keeps v space s =
      then behind itself s (unit_code v STACK_LIMIT s) (λ p. entered schema p.0 (space_named schema space) (known (space_named schema space) p.1)) (unit_keeps v STACK_LIMIT s) (λ p. by_names p.0 (space_named schema space) p.1)
    where
      by_names : (class o : Option ℕ) (t : Buffer) → Keeps itself t (entered schema class o (known o t))
      by_names (Some class) (Some k) t = put_on (ops.Enter k) refl t (space_noted schema k class t) (unless_flawed (allowed schema k class) Space t)
      by_names (Some class) None t = flawed Unknown t
      by_names None o t = known_keeps o t

  leave_keeps : (v : Variable) (space : List ℕ) (s : Buffer) → Keeps itself s (leave_code schema v space s)
  unfolding leave_code
  leave_keeps v space s = then behind itself s (unit_code v STACK_LIMIT s) (λ p. left_space (space_named schema space) p.1) (unit_keeps v STACK_LIMIT s) (λ p. by_space (space_named schema space) p.1)
    where
      by_space : (o : Option ℕ) (t : Buffer) → Keeps itself t (left_space o t)
      by_space None t = flawed Unknown t
      by_space (Some k) t = put_keeps (ops.Leave k) refl t

  -- ---- values that are said, and ends

  values_keep : (es : List ExprTree) (room : ℕ) (s : Buffer) → Keeps itself s (values_code schema room es s)
  unfolding values_code
  values_keep [] room s = stays_same s
  values_keep (e ∷ es) room s = then behind itself s (expr_code schema room e s) (λ p. values_code schema (room - 1) es p.1) (expr_keeps schema e room s) (λ p. values_keep es (room - 1) p.1)

  say_keeps : (es : List ExprTree) (s : Buffer) → Keeps itself s (say_code schema es s)
  unfolding say_code
  say_keeps es s =
      then itself itself s (values_code schema STACK_LIMIT es s) (λ u. cond (nat_lt SAID_LIMIT (length es)) (Ok (noted Limit u)) (put (ops.Say (length es)) u)) (values_keep es STACK_LIMIT s)
      (λ u. by_few u (nat_lt SAID_LIMIT (length es)))
    where
      by_few : (u : Buffer) (many : Bool) → Keeps itself u (cond many (Ok (noted Limit u)) (put (ops.Say (length es)) u))
      by_few u true = flawed Limit u
      by_few u false = put_keeps (ops.Say (length es)) refl u

  end_keeps : (e : ExprTree) (wanted : Kind) (op : Op) → is_quiet op ≡ true → (right : Bool) (s : Buffer) → Keeps itself s (end_code schema e wanted op (end_noted right s))
  unfolding end_code
  end_keeps e wanted op quiet right s =
      let was = end_noted right s in
      onward itself s was (expr_code schema STACK_LIMIT e was >>= λ p. put op (due p.0 wanted p.1)) (unless_flawed right NoEnd s)
      (then behind itself was (expr_code schema STACK_LIMIT e was) (λ p. put op (due p.0 wanted p.1)) (expr_keeps schema e STACK_LIMIT was) (λ p. put_on op quiet p.1 (due p.0 wanted p.1) (due_keeps p.0 wanted p.1)))

  -- ---- all of them

  -- neither declares a name, nor assigns to one, nor deletes a unit
  abbrev pub is_still : Action → Bool
  is_still (actions.Let name value) = false
  is_still (actions.New name class) = false
  is_still (actions.Assign name value) = false
  is_still (actions.Delete unit) = false
  is_still _ = true

  pub action_keeps : (part : Part) (a : Action) (s : Buffer) → is_still a ≡ true → Keeps itself s (action_code schema part a s)
  unfolding action_code
  action_keeps part a s still = by_action a still
    where
      was : Buffer
      was = effect_noted part s

      on : (r : Result Buffer CompileFault) → Keeps itself was r → Keeps itself s r
      on r own = onward itself s was r (unless_flawed (is_ok (writes part)) Effect s) own

      by_action : (a : Action) → is_still a ≡ true → Keeps itself s (action_code schema part a s)
      by_action (actions.Let name value) still = absurd cc
      by_action (actions.New name class) still = absurd cc
      by_action (actions.Assign name value) still = absurd cc
      by_action (actions.Delete unit) still = absurd cc
      by_action (actions.Rate value) still = end_keeps value kinds.Int ops.Rate refl (is_ok (ends_rated part)) s
      by_action actions.Decline still = put_on ops.Decline refl s (end_noted (is_ok (ends_rated part)) s) (unless_flawed (is_ok (ends_rated part)) NoEnd s)
      by_action (actions.Answer value) still = end_keeps value kinds.Bool ops.Answer refl (is_ok (ends_answered part)) s
      by_action (actions.Set unit slot value) still = on (set_code schema unit slot value was) (set_keeps unit slot value was)
      by_action (actions.Link unit slot other) still = on (relink_code schema changes.Link unit slot other was) (relink_keeps changes.Link unit slot other was)
      by_action (actions.Unlink unit slot other) still = on (relink_code schema changes.Unlink unit slot other was) (relink_keeps changes.Unlink unit slot other was)
      by_action (actions.Enter unit space) still = on (enter_code schema unit space was) (enter_keeps unit space was)
      by_action (actions.Leave unit space) still = on (leave_code schema unit space was) (leave_keeps unit space was)
      by_action (actions.Say values) still = on (say_code schema values was) (say_keeps values was)
