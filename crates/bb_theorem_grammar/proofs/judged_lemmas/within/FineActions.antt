-- Statements without blocks stay within the limits of codes.
use Rattle.std.proofs.Common.{◌≡◌, ℕ, ◌-◌, Bool, true, false, cond, List, [], ◌∷◌, length, map, Option, Some, None, Result, Ok, Err, refl}
use Rattle.std.specs.Prelude.{is_ok, nat_lt, set, option_and_then}
use Rattle.std.proofs.lemmas.Bool.{ltb-false, le-leb}
use Rattle.bb_basis.specs.Results.{◌>>=◌}
use Rattle.bb_basis.proofs.BoolLemmas.{and_first, and_second}
use Rattle.bb_code.specs.declared.op.LinkChange.{LinkChange}
use Rattle.bb_code.specs.declared.op.LinkChange.TheVariants as changes
use Rattle.bb_code.specs.declared.parts.TheConstants.{STACK_LIMIT, SAID_LIMIT}
use Rattle.bb_schema.specs.Fits.{Fits}
use Rattle.bb_schema_classes.specs.declared.kind.Link.{Link}
use Rattle.bb_code.specs.declared.frame.Kind.{Kind}
use Rattle.bb_code.specs.declared.frame.Kind.TheVariants as kinds
use Rattle.bb_verify_effect.specs.Kinds.{is_same_plain, struck}
use Rattle.bb_code.specs.declared.op.Op.{Op}
use Rattle.bb_code.specs.declared.op.Op.TheVariants as put_ops
use Rattle.bb_verify_effect.specs.Part.{writes, ends_rated, ends_answered}
use Rattle.bb_schema.specs.Schema.{Schema, class_named, space_named, descends}
use Rattle.bb_schema.specs.Spaces.{allowed}
use Rattle.bb_verify_effect.specs.declared.part.Part.{Part}
use Rattle.bb_lang.specs.Action.{Action}
use Rattle.bb_lang.specs.Action.TheVariants as actions
use Rattle.bb_lang.specs.Trees.{ExprTree}
use Rattle.bb_lang.specs.Variable.{Variable}
use Rattle.bb_compile_scope.specs.Ending.{ends}
use Rattle.bb_compile_scope.specs.Kinds.{class_of, is_live, unit_of, assigned_unit, assigned}
use Rattle.bb_compile_scope.specs.LocalKinds.{kind_at}
use Rattle.bb_compile_scope.specs.Scope.{local_of}
use Rattle.bb_compile_scope.specs.Slots.{value_slot, link_slot}
use Rattle.bb_compile_scope.specs.declared.fault.CompileFault.{CompileFault}
use Rattle.bb_compile_scope.specs.declared.fault.TextFlaw.{TextFlaw}
use Rattle.bb_compile_scope.specs.declared.fault.TextFlaw.TheVariants.{Unknown, Kind as WrongKind, LinkClass, Space, Effect, NoEnd, Limit}
use Rattle.bb_compile_buffer.specs.declared.buffer.Buffer.{Buffer}
use Rattle.bb_compile_buffer.specs.Atoms.{unit_code}
use Rattle.bb_compile_buffer.specs.Buffers.{noted, due, known, put, with_kinds, declare}
use Rattle.bb_compile_buffer.specs.Within.{byte, two_bytes, kind_within, op_within}
use Rattle.bb_compile.specs.Actions.{effect_noted, end_noted, let_as, let_code, assign_as, assign_to, assign_code, new_of, new_code, set_by, set_in, set_code, link_noted, relinked_by, relinked_in, relink_code, space_noted, entered, enter_code, left_space, leave_code, deleted, delete_code, values_code, say_code, end_code, action_code}
use Rattle.bb_compile.specs.Expressions.{expr_code}
use Rattle.bb_theorem_grammar.specs.judged.Held.{expr_held, values_held, action_held}
use Rattle.bb_theorem_grammar.proofs.judged_lemmas.within.FineExprs.{Kinded, Classed, unit_goes}
use Rattle.bb_theorem_grammar.proofs.judged_lemmas.within.FineLemmas.{Clean, Fine, Onto, onto_same, Goes, Anything, goes_then, goes_from, goes_map, itself, second, onto_noted, onto_unless, onto_due, onto_known, HasOp, put_goes}
use Rattle.bb_theorem_grammar.proofs.judged_lemmas.within.FineNames.{onto_scoped, declare_goes}
use Rattle.bb_theorem_grammar.proofs.judged_lemmas.within.FineQueries.{expr_goes}
use Rattle.bb_theorem_grammar.proofs.judged_lemmas.within.FineScopes.{IsKind, all_set_kind, all_struck, local_within}
use Rattle.bb_theorem_grammar.proofs.judged_lemmas.within.WithinSchema.{InByte, InTwoBytes, IsValueSlot, IsLinkSlot, class_in, space_in, value_here, link_in_two}

-- an op is put, and nothing is asked of it
put_any : (op : Op) (s : Buffer) → (Clean s → op_within op ≡ true) → Goes itself Anything s (put op s)
put_any op s small = goes_map itself HasOp Anything s (put op s) (λ t some. tt) (put_goes op s small)

declare_any : (name : List ℕ) (kind : Kind) (s : Buffer) → kind_within kind ≡ true → Goes itself Anything s (declare name kind s)
declare_any name kind s small = goes_map itself HasOp Anything s (declare name kind s) (λ t some. tt) (declare_goes name kind s small)

-- what a name holds once a value is assigned to it
assigned_small : (s : Schema) (held value : Kind) → kind_within held ≡ true → IsKind (assigned s held value)
unfolding assigned assigned_unit
assigned_small s held value small = by_plain (is_same_plain held value)
  where
    unit_small : (live : Bool) (class : ℕ) → two_bytes class ≡ true → kind_within (unit_of live class) ≡ true
    unit_small true class h = h
    unit_small false class h = h

    by_descent : (class : ℕ) (b : Bool) → two_bytes class ≡ true → IsKind (cond b (Some (unit_of (is_live value) class)) None)
    by_descent class true h = unit_small (is_live value) class h
    by_descent class false h = tt

    by_other : (class : ℕ) (o : Option ℕ) → two_bytes class ≡ true → IsKind (option_and_then (λ other. cond (descends s other class) (Some (unit_of (is_live value) class)) None) o)
    by_other class None h = tt
    by_other class (Some other) h = by_descent class (descends s other class) h

    by_class : (k : Kind) → kind_within k ≡ true → IsKind (option_and_then (λ class. option_and_then (λ other. cond (descends s other class) (Some (unit_of (is_live value) class)) None) (class_of value)) (class_of k))
    by_class (kinds.Ref class) h = by_other class (class_of value) h
    by_class (kinds.Old class) h = by_other class (class_of value) h
    by_class kinds.Any h = tt
    by_class kinds.Int h = tt
    by_class kinds.Text h = tt
    by_class kinds.Bool h = tt
    by_class (kinds.Label set) h = tt
    by_class kinds.Interval h = tt
    by_class (kinds.Seq class) h = tt

    by_plain : (b : Bool) → IsKind (cond b (Some held) (option_and_then (λ class. option_and_then (λ other. cond (descends s other class) (Some (unit_of (is_live value) class)) None) (class_of value)) (class_of held)))
    by_plain true = small
    by_plain false = by_class held small

-- a statement that ends has put an op
abbrev pub Ended : (ended : Bool) → Buffer → Type 0
Ended ended t = ended ≡ true → HasOp t

module _ (schema : Schema) (sf : Fits schema) where
  -- ---- names

  let_as_goes : (name : List ℕ) (made : Option Kind) (s : Buffer) → IsKind made → Goes itself Anything s (let_as name made s)
  let_as_goes name None s kind f = (onto_same s f, tt)
  let_as_goes name (Some k) s kind f = declare_any name k s kind f

  let_goes : (name : List ℕ) (value : ExprTree) (s : Buffer) → expr_held value ≡ true → Goes itself Anything s (let_code schema name value s)
  unfolding let_code
  let_goes name value s held =
      goes_then second itself Kinded Anything s (expr_code schema STACK_LIMIT value s) _ (expr_goes schema sf value STACK_LIMIT s held) (λ p kind. let_as_goes name p.0 p.1 kind)

  assign_as_goes : (local : ℕ) (now : Option Kind) (s : Buffer) → byte local ≡ true → IsKind now → Goes itself Anything s (assign_as local now s)
  assign_as_goes local None s small kind f = (onto_noted WrongKind s f, tt)
  assign_as_goes local (Some now) s small kind f =
      goes_from itself Anything s (with_kinds (set s.scope.kinds local now) s) (put (put_ops.Store local) (with_kinds (set s.scope.kinds local now) s))
      (λ g. onto_scoped s (record { names = s.scope.names; kinds = set s.scope.kinds local now }) (record { kinds_are = all_set_kind s.scope.kinds local now g.scoped.kinds_are kind; locals_are = g.scoped.locals_are }) g)
      (put_any (put_ops.Store local) (with_kinds (set s.scope.kinds local now) s) (λ clean. small)) f

  assign_to_goes : (local : Option ℕ) (made : Option Kind) (s : Buffer) → InByte local → Goes itself Anything s (assign_to schema local made s)
  assign_to_goes None made s small f = (onto_noted Unknown s f, tt)
  assign_to_goes (Some local) None s small f = (onto_same s f, tt)
  assign_to_goes (Some local) (Some k) s small f =
      assign_as_goes local (assigned schema (kind_at s.scope.kinds local) k) s small (assigned_small schema (kind_at s.scope.kinds local) k (f.scoped.kinds_are.each local)) f

  assign_goes : (name : List ℕ) (value : ExprTree) (s : Buffer) → expr_held value ≡ true → Goes itself Anything s (assign_code schema name value s)
  unfolding assign_code
  assign_goes name value s held =
      goes_then second itself Kinded Anything s (expr_code schema STACK_LIMIT value s) _ (expr_goes schema sf value STACK_LIMIT s held)
      (λ p kind f. assign_to_goes (local_of p.1.scope name) p.0 p.1 (local_within p.1.scope name f.scoped) f)

  new_goes : (name : List ℕ) (class : Option ℕ) (s : Buffer) → InTwoBytes class → Goes itself Anything s (new_of name class s)
  new_goes name None s small f = (onto_noted Unknown s f, tt)
  new_goes name (Some class) s small f =
      goes_then itself itself HasOp Anything s (put (put_ops.New class) s) (λ t. declare name (kinds.Ref class) t) (put_goes (put_ops.New class) s (λ clean. small)) (λ t some. declare_any name (kinds.Ref class) t small) f

  -- ---- slots, links and spaces

  set_by_goes : (r : Result (ℕ × Kind) TextFlaw) (made : Option Kind) (s : Buffer) → IsValueSlot r → Goes itself Anything s (set_by r made s)
  set_by_goes (Err flaw) made s small f = (onto_noted flaw s f, tt)
  set_by_goes (Ok slot) made s small f =
      goes_from itself Anything s (due made slot.1 s) (put (put_ops.Set slot.0) (due made slot.1 s)) (onto_due made slot.1 s) (put_any (put_ops.Set slot.0) (due made slot.1 s) (λ clean. small.0)) f

  set_in_goes : (class : Option ℕ) (slot : List ℕ) (made : Option Kind) (s : Buffer) → Goes itself Anything s (set_in schema class slot made s)
  set_in_goes None slot made s f = (onto_same s f, tt)
  set_in_goes (Some class) slot made s f = set_by_goes (value_slot schema class slot) made s (value_here schema sf class slot) f

  set_goes : (unit : Variable) (slot : List ℕ) (value : ExprTree) (s : Buffer) → expr_held value ≡ true → Goes itself Anything s (set_code schema unit slot value s)
  unfolding set_code
  set_goes unit slot value s held =
      goes_then second itself Classed Anything s (unit_code unit STACK_LIMIT s) _ (unit_goes unit STACK_LIMIT s)
      (λ p class. goes_then second itself Kinded Anything p.1 (expr_code schema (STACK_LIMIT - 1) value p.1) _ (expr_goes schema sf value (STACK_LIMIT - 1) p.1 held) (λ q kind. set_in_goes p.0 slot q.0 q.1))

  link_onto : (to : ℕ) (other : Option ℕ) (s : Buffer) → Fine s → Onto s (link_noted schema to other s)
  link_onto to None s f = onto_same s f
  link_onto to (Some class) s f = onto_unless (descends schema class to) LinkClass s f

  relinked_goes : (change : LinkChange) (r : Result (ℕ × Link) TextFlaw) (other : Option ℕ) (s : Buffer) → IsLinkSlot r → Goes itself Anything s (relinked_by schema change r other s)
  relinked_goes change (Err flaw) other s small f = (onto_noted flaw s f, tt)
  relinked_goes change (Ok slot) other s small f =
      goes_from itself Anything s (link_noted schema slot.1.to other s) (put (put_ops.Relink change slot.0) (link_noted schema slot.1.to other s)) (link_onto slot.1.to other s)
      (put_any (put_ops.Relink change slot.0) (link_noted schema slot.1.to other s) (λ clean. small.0)) f

  relinked_in_goes : (change : LinkChange) (class : Option ℕ) (slot : List ℕ) (other : Option ℕ) (s : Buffer) → Goes itself Anything s (relinked_in schema change class slot other s)
  relinked_in_goes change None slot other s f = (onto_same s f, tt)
  relinked_in_goes change (Some class) slot other s f = relinked_goes change (link_slot schema class slot) other s (link_in_two schema sf class slot) f

  relink_goes : (change : LinkChange) (unit : Variable) (slot : List ℕ) (other : Variable) (s : Buffer) → Goes itself Anything s (relink_code schema change unit slot other s)
  unfolding relink_code
  relink_goes change unit slot other s =
      goes_then second itself Classed Anything s (unit_code unit STACK_LIMIT s) _ (unit_goes unit STACK_LIMIT s)
      (λ p class. goes_then second itself Classed Anything p.1 (unit_code other (STACK_LIMIT - 1) p.1) _ (unit_goes other (STACK_LIMIT - 1) p.1) (λ q of. relinked_in_goes change p.0 slot q.0 q.1))

  entered_goes : (class space : Option ℕ) (s : Buffer) → InTwoBytes space → Goes itself Anything s (entered schema class space s)
  entered_goes None None s small f = (onto_same s f, tt)
  entered_goes None (Some space) s small f = (onto_same s f, tt)
  entered_goes (Some class) None s small f = (onto_same s f, tt)
  entered_goes (Some class) (Some space) s small f =
      goes_from itself Anything s (space_noted schema space class s) (put (put_ops.Enter space) (space_noted schema space class s)) (onto_unless (allowed schema space class) Space s)
      (put_any (put_ops.Enter space) (space_noted schema space class s) (λ clean. small)) f

  enter_goes : (unit : Variable) (space : List ℕ) (s : Buffer) → Goes itself Anything s (enter_code schema unit space s)
  unfolding enter_code
  enter_goes unit space s =
      goes_then second itself Classed Anything s (unit_code unit STACK_LIMIT s) _ (unit_goes unit STACK_LIMIT s)
      (λ p class. goes_from itself Anything p.1 (known (space_named schema space) p.1) (entered schema p.0 (space_named schema space) (known (space_named schema space) p.1)) (onto_known (space_named schema space) p.1)
      (entered_goes p.0 (space_named schema space) (known (space_named schema space) p.1) (space_in schema sf space)))

  left_goes : (space : Option ℕ) (s : Buffer) → InTwoBytes space → Goes itself Anything s (left_space space s)
  left_goes None s small f = (onto_noted Unknown s f, tt)
  left_goes (Some space) s small f = put_any (put_ops.Leave space) s (λ clean. small) f

  leave_goes : (unit : Variable) (space : List ℕ) (s : Buffer) → Goes itself Anything s (leave_code schema unit space s)
  unfolding leave_code
  leave_goes unit space s =
      goes_then second itself Classed Anything s (unit_code unit STACK_LIMIT s) _ (unit_goes unit STACK_LIMIT s) (λ p class. left_goes (space_named schema space) p.1 (space_in schema sf space))

  deleted_goes : (class : Option ℕ) (s : Buffer) → Goes itself Anything s (deleted schema class s)
  deleted_goes None s f = (onto_same s f, tt)
  deleted_goes (Some class) s f =
      goes_then itself itself HasOp Anything s (put put_ops.Delete s) (λ t. Ok (with_kinds (map (struck schema class) t.scope.kinds) t)) (put_goes put_ops.Delete s (λ clean. refl))
      (λ t some g. (onto_scoped t (record { names = t.scope.names; kinds = map (struck schema class) t.scope.kinds }) (record { kinds_are = all_struck schema class t.scope.kinds g.scoped.kinds_are; locals_are = g.scoped.locals_are }) g, tt)) f

  delete_goes : (unit : Variable) (s : Buffer) → Goes itself Anything s (delete_code schema unit s)
  unfolding delete_code
  delete_goes unit s = goes_then second itself Classed Anything s (unit_code unit STACK_LIMIT s) _ (unit_goes unit STACK_LIMIT s) (λ p class. deleted_goes p.0 p.1)

  -- ---- values

  values_go : (values : List ExprTree) (room : ℕ) (s : Buffer) → values_held values ≡ true → Goes itself Anything s (values_code schema room values s)
  unfolding values_code
  values_go [] room s held = λ f. (onto_same s f, tt)
  values_go (e ∷ es) room s held =
      goes_then second itself Kinded Anything s (expr_code schema room e s) _ (expr_goes schema sf e room s (and_first (expr_held e) (values_held es) held)) (λ p kind. values_go es (room - 1) p.1 (and_second (expr_held e) (values_held es) held))

  say_goes : (values : List ExprTree) (s : Buffer) → values_held values ≡ true → Goes itself Anything s (say_code schema values s)
  unfolding say_code
  say_goes values s held =
      goes_then itself itself Anything Anything s (values_code schema STACK_LIMIT values s) _ (values_go values STACK_LIMIT s held) (λ t any. by_count (nat_lt SAID_LIMIT (length values)) refl t)
    where
      by_count : (b : Bool) → nat_lt SAID_LIMIT (length values) ≡ b → (t : Buffer) → Goes itself Anything t (cond b (Ok (noted Limit t)) (put (put_ops.Say (length values)) t))
      by_count true many t = λ f. (onto_noted Limit t f, tt)
      by_count false few t = put_any (put_ops.Say (length values)) t (λ clean. le-leb (length values) SAID_LIMIT (ltb-false SAID_LIMIT (length values) few))

  -- an end puts an op
  end_goes : (right : Bool) (value : ExprTree) (wanted : Kind) (op : Op) (s : Buffer) → op_within op ≡ true → expr_held value ≡ true → Goes itself HasOp s (end_code schema value wanted op (end_noted right s))
  unfolding end_code
  end_goes right value wanted op s small held =
      goes_from itself HasOp s (end_noted right s) (expr_code schema STACK_LIMIT value (end_noted right s) >>= λ p. put op (due p.0 wanted p.1)) (onto_unless right NoEnd s)
      (goes_then second itself Kinded HasOp (end_noted right s) (expr_code schema STACK_LIMIT value (end_noted right s)) _ (expr_goes schema sf value STACK_LIMIT (end_noted right s) held)
      (λ p kind. goes_from itself HasOp p.1 (due p.0 wanted p.1) (put op (due p.0 wanted p.1)) (onto_due p.0 wanted p.1) (put_goes op (due p.0 wanted p.1) (λ clean. small))))

  -- ---- all of them

  -- a change, where what the part may not do was noted
  changed : (part : Part) (s : Buffer) (f : Buffer → Result Buffer CompileFault) → ((t : Buffer) → Goes itself Anything t (f t)) → Goes itself (Ended false) s (f (effect_noted part s))
  changed part s f h =
      goes_map itself Anything (Ended false) s (f (effect_noted part s)) (λ t any ended. absurd cc)
      (goes_from itself Anything s (effect_noted part s) (f (effect_noted part s)) (onto_unless (is_ok (writes part)) Effect s) (h (effect_noted part s)))

  unended : (s : Buffer) (r : Result Buffer CompileFault) → Goes itself Anything s r → Goes itself (Ended false) s r
  unended s r h = goes_map itself Anything (Ended false) s r (λ t any ended. absurd cc) h

  some_ended : (s : Buffer) (r : Result Buffer CompileFault) → Goes itself HasOp s r → Goes itself (Ended true) s r
  some_ended s r h = goes_map itself HasOp (Ended true) s r (λ t some ended. some) h

  pub action_goes : (part : Part) (a : Action) (s : Buffer) → action_held a ≡ true → Goes itself (Ended (ends a)) s (action_code schema part a s)
  unfolding action_code action_held new_code
  action_goes part (actions.Let name value) s held = unended s (let_code schema name value s) (let_goes name value s held)
  action_goes part (actions.Assign name value) s held = unended s (assign_code schema name value s) (assign_goes name value s held)
  action_goes part (actions.New name class) s held = changed part s (new_of name (class_named schema class)) (λ t. new_goes name (class_named schema class) t (class_in schema sf class))
  action_goes part (actions.Set unit slot value) s held = changed part s (set_code schema unit slot value) (λ t. set_goes unit slot value t held)
  action_goes part (actions.Link unit slot other) s held = changed part s (relink_code schema changes.Link unit slot other) (relink_goes changes.Link unit slot other)
  action_goes part (actions.Unlink unit slot other) s held = changed part s (relink_code schema changes.Unlink unit slot other) (relink_goes changes.Unlink unit slot other)
  action_goes part (actions.Enter unit space) s held = changed part s (enter_code schema unit space) (enter_goes unit space)
  action_goes part (actions.Leave unit space) s held = changed part s (leave_code schema unit space) (leave_goes unit space)
  action_goes part (actions.Delete unit) s held = changed part s (delete_code schema unit) (delete_goes unit)
  action_goes part (actions.Say values) s held = changed part s (say_code schema values) (λ t. say_goes values t held)
  action_goes part (actions.Rate value) s held = some_ended s (end_code schema value kinds.Int put_ops.Rate (end_noted (is_ok (ends_rated part)) s)) (end_goes (is_ok (ends_rated part)) value kinds.Int put_ops.Rate s refl held)
  action_goes part actions.Decline s held =
      some_ended s (put put_ops.Decline (end_noted (is_ok (ends_rated part)) s))
      (goes_from itself HasOp s (end_noted (is_ok (ends_rated part)) s) (put put_ops.Decline (end_noted (is_ok (ends_rated part)) s)) (onto_unless (is_ok (ends_rated part)) NoEnd s) (put_goes put_ops.Decline (end_noted (is_ok (ends_rated part)) s) (λ clean. refl)))
  action_goes part (actions.Answer value) s held = some_ended s (end_code schema value kinds.Bool put_ops.Answer (end_noted (is_ok (ends_answered part)) s)) (end_goes (is_ok (ends_answered part)) value kinds.Bool put_ops.Answer s refl held)
