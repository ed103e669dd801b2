-- What statements without blocks lay out at most, where there is room for their names.
use Rattle.std.proofs.Common.{◌≡◌, ◌≤◌, ℕ, ◌+◌, ◌-◌, Bool, true, false, cond, List, [], ◌∷◌, ◌++◌, length, map, Option, Some, None, Result, Ok, Err, refl, subst, sym, ◌∙◌, arith}
use Rattle.std.specs.Prelude.{nat_lt, is_ok, position, set, max}
use Rattle.std.proofs.lemmas.Bool.{leb-true}
use Rattle.bb_basis.proofs.PositionLemmas.{position_spot}
use Rattle.bb_basis.specs.Results.{◌>>=◌}
use Rattle.bb_code.specs.declared.parts.TheConstants.{STACK_LIMIT, SAID_LIMIT}
use Rattle.bb_code.specs.declared.op.LinkChange.{LinkChange}
use Rattle.bb_code.specs.declared.op.LinkChange.TheVariants as changes
use Rattle.bb_schema_classes.specs.declared.kind.Link.{Link}
use Rattle.bb_code.specs.declared.frame.Kind.{Kind}
use Rattle.bb_code.specs.declared.frame.Kind.TheVariants as kinds
use Rattle.bb_verify_effect.specs.Kinds.{struck}
use Rattle.bb_code.specs.declared.op.Op.{Op}
use Rattle.bb_code.specs.declared.op.Op.TheVariants as put_ops
use Rattle.bb_verify_effect.specs.Part.{writes, ends_rated, ends_answered}
use Rattle.bb_schema.specs.Schema.{Schema, class_named, space_named, descends}
use Rattle.bb_schema.specs.Spaces.{allowed}
use Rattle.bb_verify_effect.specs.declared.part.Part.{Part}
use Rattle.bb_lang.specs.Action.{Action}
use Rattle.bb_lang.specs.Action.TheVariants as actions
use Rattle.bb_lang.specs.Trees.{ExprTree}
use Rattle.bb_lang.specs.Variable.{Variable}
use Rattle.bb_compile_scope.specs.Kinds.{assigned}
use Rattle.bb_compile_scope.specs.LocalKinds.{is_free, kind_at}
use Rattle.bb_compile_scope.specs.Place.{Place}
use Rattle.bb_compile_scope.specs.Scope.{local_of, with_name}
use Rattle.bb_compile_scope.specs.Slots.{value_slot, link_slot}
use Rattle.bb_compile_scope.specs.declared.fault.CompileFault.{CompileFault}
use Rattle.bb_compile_scope.specs.declared.fault.TextFlaw.{TextFlaw}
use Rattle.bb_compile_scope.specs.declared.fault.TextFlaw.TheVariants.{Unknown, Kind as WrongKind, LinkClass, Space, Effect, NoEnd, Limit}
use Rattle.bb_compile_scope.specs.declared.scope.Scope.{Scope}
use Rattle.bb_compile_scope.proofs.Laws.{frees}
use Rattle.bb_compile_buffer.specs.declared.buffer.Buffer.{Buffer}
use Rattle.bb_compile_buffer.specs.Atoms.{unit_code}
use Rattle.bb_compile_buffer.specs.Buffers.{noted, due, known, put, with_kinds, taken, take_local, declare}
use Rattle.bb_compile.specs.Actions.{effect_noted, end_noted, let_as, let_code, assign_as, assign_to, assign_code, new_of, new_code, set_by, set_in, set_code, link_noted, relinked_by, relinked_in, relink_code, space_noted, entered, enter_code, left_space, leave_code, deleted, delete_code, values_code, say_code, end_code, action_code}
use Rattle.bb_compile.specs.Expressions.{expr_code}
use Rattle.bb_theorem_grammar.specs.judged.Expressions.{expr_kind, expr_flaws}
use Rattle.bb_theorem_grammar.specs.judged.Flaws.{least}
use Rattle.bb_theorem_grammar.specs.judged.Sums.{Sums, plus, nothing, ops, expr_sums, values_sums, action_sums, action_has_room}
use Rattle.bb_theorem_grammar.proofs.judged_lemmas.faults.ExprLemmas.{expr_judged}
use Rattle.bb_theorem_grammar.proofs.judged_lemmas.scopes.HoldLemmas.{Holds, Keeps, Made, noted_unless, put_keeps}
use Rattle.bb_theorem_grammar.proofs.judged_lemmas.laying.LayExprs.{unit_lays, expr_lays}
use Rattle.bb_theorem_grammar.proofs.judged_lemmas.laying.LayLemmas.{Lays, room_first, room_rest, laid_on, lays_then, lays_last, adds_none, Counts, counts_same, lays_from, adds_to, adds_noted, noted_counts, unless_counts, due_counts, known_counts, itself, second, put_lays}
use Rattle.bb_theorem_grammar.proofs.judged_lemmas.scopes.LocalLemmas.{none_free}
use Rattle.bb_theorem_grammar.proofs.judged_lemmas.scopes.NameLemmas.{names_of}

-- ---- names

-- a name that is declared where a local is free
pub declare_lays : (name : List ℕ) (kind : Kind) (s : Buffer) → 1 ≤ frees s.scope.kinds → Lays itself (ops 1) s (declare name kind s)
unfolding declare take_local
declare_lays name kind s some = by_first (position is_free s.scope.kinds) refl
  where
    by_first : (o : Option ℕ) → position is_free s.scope.kinds ≡ o → Lays itself (ops 1) s (taken o kind s >>= λ p. put (put_ops.Store p.0) (record p.1 { scope = with_name name p.0 kind p.1.scope }))
    by_first None first = absurd (let none = none_free s.scope.kinds (sym (position_spot is_free s.scope.kinds) ∙ first) in omega (arith, none, some))
    by_first (Some local) first =
        let b : Scope = record { names = s.scope.names ++ record { name = name; local = local } ∷ []; kinds = set (set s.scope.kinds local kind) local kind } in
        let t : Buffer = record s { scope = b; locals = max s.locals (local + 1) } in
        lays_from itself (ops 1) s t (put (put_ops.Store local) t) (record { ops_are = refl; texts_are = refl; queries_are = refl; loops_are = refl }) (put_lays (put_ops.Store local) t)

-- what is known of a step beside what it lays out
pub lays_knowing : {X Z : Type 0} (place : Place) (P : X → Type 0) (one : X → Buffer) (two : Z → Buffer) (a b : Sums) (s : Buffer) (r : Result X CompileFault) (f : X → Result Z CompileFault)
    → Holds P place r → Lays one a s r → ((x : X) → P x → Lays two b (one x) (f x)) → Lays two (plus a b) s (r >>= f)
lays_knowing place P one two a b s (Err fault) f known h next room = absurd (h (room_first a b s room))
lays_knowing place P one two a b s (Ok x) f known h next room =
    let m = h (room_first a b s room) in laid_on two a b s (one x) (f x) m (next x known (room_rest a b s (one x) m room))

-- ---- slots, links and spaces

set_by_lays : (r : Result (ℕ × Kind) TextFlaw) (made : Option Kind) (s : Buffer) → Lays itself (ops 1) s (set_by r made s)
set_by_lays (Err flaw) made s room = adds_noted (ops 1) refl s (noted flaw s) (noted_counts flaw s)
set_by_lays (Ok slot) made s room =
    lays_from itself (ops 1) s (due made slot.1 s) (put (put_ops.Set slot.0) (due made slot.1 s)) (due_counts made slot.1 s) (put_lays (put_ops.Set slot.0) (due made slot.1 s)) room

set_in_lays : (schema : Schema) (class : Option ℕ) (slot : List ℕ) (made : Option Kind) (s : Buffer) → Lays itself (ops 1) s (set_in schema class slot made s)
set_in_lays schema None slot made s room = adds_none (ops 1) refl s
set_in_lays schema (Some class) slot made s room = set_by_lays (value_slot schema class slot) made s room

set_lays : (schema : Schema) (unit : Variable) (slot : List ℕ) (value : ExprTree) (s : Buffer) → Lays itself (plus (ops 1) (plus (expr_sums value) (ops 1))) s (set_code schema unit slot value s)
unfolding set_code
set_lays schema unit slot value s =
    lays_then second itself (ops 1) (plus (expr_sums value) (ops 1)) s (unit_code unit STACK_LIMIT s) _ (unit_lays unit STACK_LIMIT s)
    (λ p. lays_then second itself (expr_sums value) (ops 1) p.1 (expr_code schema (STACK_LIMIT - 1) value p.1) _ (expr_lays schema value (STACK_LIMIT - 1) p.1) (λ q. set_in_lays schema p.0 slot q.0 q.1))

link_counts : (schema : Schema) (to : ℕ) (other : Option ℕ) (s : Buffer) → Counts s (link_noted schema to other s)
link_counts schema to None s = counts_same s
link_counts schema to (Some class) s = unless_counts (descends schema class to) LinkClass s

relinked_lays : (schema : Schema) (change : LinkChange) (r : Result (ℕ × Link) TextFlaw) (other : Option ℕ) (s : Buffer) → Lays itself (ops 1) s (relinked_by schema change r other s)
relinked_lays schema change (Err flaw) other s room = adds_noted (ops 1) refl s (noted flaw s) (noted_counts flaw s)
relinked_lays schema change (Ok slot) other s room =
    lays_from itself (ops 1) s (link_noted schema slot.1.to other s) (put (put_ops.Relink change slot.0) (link_noted schema slot.1.to other s)) (link_counts schema slot.1.to other s) (put_lays (put_ops.Relink change slot.0) (link_noted schema slot.1.to other s)) room

relinked_in_lays : (schema : Schema) (change : LinkChange) (class : Option ℕ) (slot : List ℕ) (other : Option ℕ) (s : Buffer) → Lays itself (ops 1) s (relinked_in schema change class slot other s)
relinked_in_lays schema change None slot other s room = adds_none (ops 1) refl s
relinked_in_lays schema change (Some class) slot other s room = relinked_lays schema change (link_slot schema class slot) other s room

relink_lays : (schema : Schema) (change : LinkChange) (unit : Variable) (slot : List ℕ) (other : Variable) (s : Buffer) → Lays itself (plus (ops 1) (plus (ops 1) (ops 1))) s (relink_code schema change unit slot other s)
unfolding relink_code
relink_lays schema change unit slot other s =
    lays_then second itself (ops 1) (plus (ops 1) (ops 1)) s (unit_code unit STACK_LIMIT s) _ (unit_lays unit STACK_LIMIT s)
    (λ p. lays_then second itself (ops 1) (ops 1) p.1 (unit_code other (STACK_LIMIT - 1) p.1) _ (unit_lays other (STACK_LIMIT - 1) p.1) (λ q. relinked_in_lays schema change p.0 slot q.0 q.1))

entered_lays : (schema : Schema) (class space : Option ℕ) (s : Buffer) → Lays itself (ops 1) s (entered schema class space s)
entered_lays schema None None s room = adds_none (ops 1) refl s
entered_lays schema None (Some space) s room = adds_none (ops 1) refl s
entered_lays schema (Some class) None s room = adds_none (ops 1) refl s
entered_lays schema (Some class) (Some space) s room =
    lays_from itself (ops 1) s (space_noted schema space class s) (put (put_ops.Enter space) (space_noted schema space class s)) (unless_counts (allowed schema space class) Space s) (put_lays (put_ops.Enter space) (space_noted schema space class s)) room

enter_lays : (schema : Schema) (unit : Variable) (space : List ℕ) (s : Buffer) → Lays itself (plus (ops 1) (ops 1)) s (enter_code schema unit space s)
unfolding enter_code
enter_lays schema unit space s =
    lays_then second itself (ops 1) (ops 1) s (unit_code unit STACK_LIMIT s) _ (unit_lays unit STACK_LIMIT s)
    (λ p. lays_from itself (ops 1) p.1 (known (space_named schema space) p.1) (entered schema p.0 (space_named schema space) (known (space_named schema space) p.1)) (known_counts (space_named schema space) p.1)
    (entered_lays schema p.0 (space_named schema space) (known (space_named schema space) p.1)))

left_lays : (space : Option ℕ) (s : Buffer) → Lays itself (ops 1) s (left_space space s)
left_lays None s room = adds_noted (ops 1) refl s (noted Unknown s) (noted_counts Unknown s)
left_lays (Some space) s room = put_lays (put_ops.Leave space) s room

leave_lays : (schema : Schema) (unit : Variable) (space : List ℕ) (s : Buffer) → Lays itself (plus (ops 1) (ops 1)) s (leave_code schema unit space s)
unfolding leave_code
leave_lays schema unit space s = lays_then second itself (ops 1) (ops 1) s (unit_code unit STACK_LIMIT s) _ (unit_lays unit STACK_LIMIT s) (λ p. left_lays (space_named schema space) p.1)

deleted_lays : (schema : Schema) (class : Option ℕ) (s : Buffer) → Lays itself (ops 1) s (deleted schema class s)
deleted_lays schema None s room = adds_none (ops 1) refl s
deleted_lays schema (Some class) s room =
    lays_last itself itself (ops 1) s (put put_ops.Delete s) (λ t. Ok (with_kinds (map (struck schema class) t.scope.kinds) t)) (put_lays put_ops.Delete s)
    (λ t m. adds_to (ops 1) s t (with_kinds (map (struck schema class) t.scope.kinds) t) (record { ops_are = refl; texts_are = refl; queries_are = refl; loops_are = refl }) m) room

delete_lays : (schema : Schema) (unit : Variable) (s : Buffer) → Lays itself (plus (ops 1) (ops 1)) s (delete_code schema unit s)
unfolding delete_code
delete_lays schema unit s = lays_then second itself (ops 1) (ops 1) s (unit_code unit STACK_LIMIT s) _ (unit_lays unit STACK_LIMIT s) (λ p. deleted_lays schema p.0 p.1)

-- ---- values

values_lay : (schema : Schema) (values : List ExprTree) (room : ℕ) (s : Buffer) → Lays itself (values_sums values) s (values_code schema room values s)
unfolding values_code
values_lay schema [] room s = λ free. adds_none nothing refl s
values_lay schema (e ∷ es) room s = lays_then second itself (expr_sums e) (values_sums es) s (expr_code schema room e s) _ (expr_lays schema e room s) (λ p. values_lay schema es (room - 1) p.1)

say_lays : (schema : Schema) (values : List ExprTree) (s : Buffer) → Lays itself (plus (values_sums values) (ops 1)) s (say_code schema values s)
unfolding say_code
say_lays schema values s =
    lays_then itself itself (values_sums values) (ops 1) s (values_code schema STACK_LIMIT values s) _ (values_lay schema values STACK_LIMIT s) (λ t. by_count (nat_lt SAID_LIMIT (length values)) t)
  where
    by_count : (b : Bool) (t : Buffer) → Lays itself (ops 1) t (cond b (Ok (noted Limit t)) (put (put_ops.Say (length values)) t))
    by_count true t = λ room. adds_noted (ops 1) refl t (noted Limit t) (noted_counts Limit t)
    by_count false t = put_lays (put_ops.Say (length values)) t

end_lays : (schema : Schema) (right : Bool) (value : ExprTree) (wanted : Kind) (op : Op) (s : Buffer) → Lays itself (plus (expr_sums value) (ops 1)) s (end_code schema value wanted op (end_noted right s))
unfolding end_code
end_lays schema right value wanted op s =
    lays_then second itself (expr_sums value) (ops 1) s (expr_code schema STACK_LIMIT value (end_noted right s)) _
    (lays_from second (expr_sums value) s (end_noted right s) (expr_code schema STACK_LIMIT value (end_noted right s)) (unless_counts right NoEnd s) (expr_lays schema value STACK_LIMIT (end_noted right s)))
    (λ p. lays_from itself (ops 1) p.1 (due p.0 wanted p.1) (put op (due p.0 wanted p.1)) (due_counts p.0 wanted p.1) (put_lays op (due p.0 wanted p.1)))

-- ---- names

assign_as_lays : (local : ℕ) (now : Option Kind) (s : Buffer) → Lays itself (ops 1) s (assign_as local now s)
assign_as_lays local None s room = adds_noted (ops 1) refl s (noted WrongKind s) (noted_counts WrongKind s)
assign_as_lays local (Some now) s room =
    let t = with_kinds (set s.scope.kinds local now) s in
    lays_from itself (ops 1) s t (put (put_ops.Store local) t) (record { ops_are = refl; texts_are = refl; queries_are = refl; loops_are = refl }) (put_lays (put_ops.Store local) t) room

assign_to_lays : (schema : Schema) (local : Option ℕ) (made : Option Kind) (s : Buffer) → Lays itself (ops 1) s (assign_to schema local made s)
assign_to_lays schema None made s room = adds_noted (ops 1) refl s (noted Unknown s) (noted_counts Unknown s)
assign_to_lays schema (Some local) None s room = adds_none (ops 1) refl s
assign_to_lays schema (Some local) (Some kind) s room = assign_as_lays local (assigned schema (kind_at s.scope.kinds local) kind) s room

assign_lays : (schema : Schema) (name : List ℕ) (value : ExprTree) (s : Buffer) → Lays itself (plus (expr_sums value) (ops 1)) s (assign_code schema name value s)
unfolding assign_code
assign_lays schema name value s =
    lays_then second itself (expr_sums value) (ops 1) s (expr_code schema STACK_LIMIT value s) _ (expr_lays schema value STACK_LIMIT s) (λ p. assign_to_lays schema (local_of p.1.scope name) p.0 p.1)

let_as_lays : (name : List ℕ) (made : Option Kind) (s : Buffer) → 1 ≤ frees s.scope.kinds → Lays itself (ops 1) s (let_as name made s)
let_as_lays name None s some room = adds_none (ops 1) refl s
let_as_lays name (Some kind) s some room = declare_lays name kind s some room

new_of_lays : (name : List ℕ) (class : Option ℕ) (s : Buffer) → 1 ≤ frees s.scope.kinds → Lays itself (plus (ops 1) (ops 1)) s (new_of name class s)
new_of_lays name None s some room = adds_noted (plus (ops 1) (ops 1)) refl s (noted Unknown s) (noted_counts Unknown s)
new_of_lays name (Some class) s some room =
    lays_knowing s.start (Keeps s.scope s.start s.flaw) itself itself (ops 1) (ops 1) s (put (put_ops.New class) s) (λ t. declare name (kinds.Ref class) t)
    (put_keeps s.scope s.start (put_ops.New class) s s.flaw (record { same = refl; begun = refl; flawed = refl })) (put_lays (put_ops.New class) s)
    (λ t kept. declare_lays name (kinds.Ref class) t (subst (λ (sc : Scope). 1 ≤ frees sc.kinds) (sym kept.same) some)) room

module _ (schema : Schema) (scope : Scope) (place : Place) where
  let_lays : (name : List ℕ) (value : ExprTree) (s : Buffer) (seen : Option TextFlaw) → Keeps scope place seen s → 1 ≤ frees scope.kinds → Lays itself (plus (expr_sums value) (ops 1)) s (let_code schema name value s)
  unfolding let_code
  let_lays name value s seen k some =
      lays_knowing place (Made scope place (expr_kind schema (names_of scope) value) (least seen (expr_flaws schema (names_of scope) STACK_LIMIT value))) second itself (expr_sums value) (ops 1) s (expr_code schema STACK_LIMIT value s) _
      (expr_judged schema scope place value STACK_LIMIT s seen k) (expr_lays schema value STACK_LIMIT s)
      (λ p made. let_as_lays name p.0 p.1 (subst (λ (sc : Scope). 1 ≤ frees sc.kinds) (sym made.1.same) some))

  new_lays : (part : Part) (name class : List ℕ) (s : Buffer) (seen : Option TextFlaw) → Keeps scope place seen s → 1 ≤ frees scope.kinds → Lays itself (plus (ops 1) (ops 1)) s (new_of name (class_named schema class) (effect_noted part s))
  new_lays part name class s seen k some =
      let kept = noted_unless scope place (is_ok (writes part)) Effect s seen k in
      lays_from itself (plus (ops 1) (ops 1)) s (effect_noted part s) (new_of name (class_named schema class) (effect_noted part s)) (unless_counts (is_ok (writes part)) Effect s)
      (new_of_lays name (class_named schema class) (effect_noted part s) (subst (λ (sc : Scope). 1 ≤ frees sc.kinds) (sym kept.same) some))

  -- a change, where what the part may not do was noted
  changed_lays : (a : Sums) (part : Part) (s : Buffer) (f : Buffer → Result Buffer CompileFault) → ((t : Buffer) → Lays itself a t (f t)) → Lays itself a s (f (effect_noted part s))
  changed_lays a part s f h = lays_from itself a s (effect_noted part s) (f (effect_noted part s)) (unless_counts (is_ok (writes part)) Effect s) (h (effect_noted part s))

  pub action_lays : (part : Part) (a : Action) (s : Buffer) (seen : Option TextFlaw) → Keeps scope place seen s → action_has_room (names_of scope) a ≡ true → Lays itself (action_sums a) s (action_code schema part a s)
  unfolding action_code action_sums new_code
  action_lays part (actions.Let name value) s seen k some = let_lays name value s seen k (leb-true 1 (frees scope.kinds) some)
  action_lays part (actions.Assign name value) s seen k some = assign_lays schema name value s
  action_lays part (actions.New name class) s seen k some = new_lays part name class s seen k (leb-true 1 (frees scope.kinds) some)
  action_lays part (actions.Set unit slot value) s seen k some = changed_lays (plus (ops 1) (plus (expr_sums value) (ops 1))) part s (set_code schema unit slot value) (set_lays schema unit slot value)
  action_lays part (actions.Link unit slot other) s seen k some = changed_lays (plus (ops 1) (plus (ops 1) (ops 1))) part s (relink_code schema changes.Link unit slot other) (relink_lays schema changes.Link unit slot other)
  action_lays part (actions.Unlink unit slot other) s seen k some = changed_lays (plus (ops 1) (plus (ops 1) (ops 1))) part s (relink_code schema changes.Unlink unit slot other) (relink_lays schema changes.Unlink unit slot other)
  action_lays part (actions.Enter unit space) s seen k some = changed_lays (plus (ops 1) (ops 1)) part s (enter_code schema unit space) (enter_lays schema unit space)
  action_lays part (actions.Leave unit space) s seen k some = changed_lays (plus (ops 1) (ops 1)) part s (leave_code schema unit space) (leave_lays schema unit space)
  action_lays part (actions.Delete unit) s seen k some = changed_lays (plus (ops 1) (ops 1)) part s (delete_code schema unit) (delete_lays schema unit)
  action_lays part (actions.Say values) s seen k some = changed_lays (plus (values_sums values) (ops 1)) part s (say_code schema values) (say_lays schema values)
  action_lays part (actions.Rate value) s seen k some = end_lays schema (is_ok (ends_rated part)) value kinds.Int put_ops.Rate s
  action_lays part actions.Decline s seen k some =
      lays_from itself (ops 1) s (end_noted (is_ok (ends_rated part)) s) (put put_ops.Decline (end_noted (is_ok (ends_rated part)) s)) (unless_counts (is_ok (ends_rated part)) NoEnd s) (put_lays put_ops.Decline (end_noted (is_ok (ends_rated part)) s))
  action_lays part (actions.Answer value) s seen k some = end_lays schema (is_ok (ends_answered part)) value kinds.Bool put_ops.Answer s
