-- What statements without blocks lay out where nothing is noted, and that there was room for their names.
use Rattle.std.proofs.Common.{◌≡◌, ℕ, ◌-◌, ◌≤◌, Bool, true, false, cond, List, [], ◌∷◌, length, map, Option, Some, None, Result, Ok, Err, refl, subst, sym, arith}
use Rattle.std.specs.Prelude.{is_ok, nat_lt, set, position}
use Rattle.std.proofs.lemmas.Bool.{le-leb}
use Rattle.bb_basis.specs.Results.{◌>>=◌}
use Rattle.bb_code.specs.declared.op.LinkChange.{LinkChange}
use Rattle.bb_code.specs.declared.op.LinkChange.TheVariants as changes
use Rattle.bb_code.specs.declared.parts.TheConstants.{STACK_LIMIT, SAID_LIMIT}
use Rattle.bb_schema_classes.specs.declared.kind.Link.{Link}
use Rattle.bb_code.specs.declared.frame.Kind.{Kind}
use Rattle.bb_code.specs.declared.frame.Kind.TheVariants as kinds
use Rattle.bb_verify_effect.specs.Kinds.{struck}
use Rattle.bb_code.specs.declared.op.Op.{Op}
use Rattle.bb_code.specs.declared.op.Op.TheVariants as put_ops
use Rattle.bb_verify_effect.specs.Part.{writes, ends_rated, ends_answered}
use Rattle.bb_schema.specs.Schema.{Schema, class_named, space_named, descends}
use Rattle.bb_schema.specs.Spaces.{allowed}
use Rattle.bb_verify_effect.specs.declared.part.Part.{Part}
use Rattle.bb_lang.specs.Action.{Action}
use Rattle.bb_lang.specs.Action.TheVariants as actions
use Rattle.bb_lang.specs.Trees.{ExprTree}
use Rattle.bb_lang.specs.Variable.{Variable}
use Rattle.bb_compile_scope.specs.Kinds.{assigned}
use Rattle.bb_compile_scope.specs.LocalKinds.{is_free, kind_at}
use Rattle.bb_compile_scope.specs.Place.{Place}
use Rattle.bb_compile_scope.specs.Scope.{local_of, with_name}
use Rattle.bb_compile_scope.specs.Slots.{value_slot, link_slot}
use Rattle.bb_compile_scope.specs.declared.fault.CompileFault.{CompileFault}
use Rattle.bb_compile_scope.specs.declared.fault.TextFlaw.{TextFlaw}
use Rattle.bb_compile_scope.specs.declared.fault.TextFlaw.TheVariants.{Unknown, Kind as WrongKind, LinkClass, Space, Effect, NoEnd, Limit}
use Rattle.bb_compile_scope.specs.declared.scope.Scope.{Scope}
use Rattle.bb_compile_scope.proofs.Laws.{frees}
use Rattle.bb_compile_buffer.specs.declared.buffer.Buffer.{Buffer}
use Rattle.bb_compile_buffer.specs.Atoms.{unit_code}
use Rattle.bb_compile_buffer.specs.Buffers.{noted, due, known, put, with_kinds, taken, take_local, declare}
use Rattle.bb_compile.specs.Actions.{effect_noted, end_noted, let_as, let_code, assign_as, assign_to, assign_code, new_of, new_code, set_by, set_in, set_code, link_noted, relinked_by, relinked_in, relink_code, space_noted, entered, enter_code, left_space, leave_code, deleted, delete_code, values_code, say_code, end_code, action_code}
use Rattle.bb_compile.specs.Expressions.{expr_code}
use Rattle.bb_theorem_grammar.specs.judged.Expressions.{expr_kind, expr_flaws}
use Rattle.bb_theorem_grammar.specs.judged.Flaws.{least}
use Rattle.bb_theorem_grammar.specs.judged.Sums.{Sums, plus, nothing, ops, expr_sums, values_sums, action_sums, action_has_room}
use Rattle.bb_theorem_grammar.proofs.judged_lemmas.exact.ExactExprs.{unit_counted}
use Rattle.bb_theorem_grammar.proofs.judged_lemmas.exact.ExactLemmas.{Counted, Unless, Made, exact_none, counted_then, counted_last, counted_knowing, counted_known, unless_on, counted_from, counted_map, put_counted, back_unless, known_unless, back_known}
use Rattle.bb_theorem_grammar.proofs.judged_lemmas.exact.ExactQueries.{expr_counted}
use Rattle.bb_theorem_grammar.proofs.judged_lemmas.faults.ExprLemmas.{expr_judged}
use Rattle.bb_theorem_grammar.proofs.judged_lemmas.within.FineLemmas.{Clean, Anything, itself, second, never, due_back}
use Rattle.bb_theorem_grammar.proofs.judged_lemmas.scopes.HoldLemmas.{Keeps, noted_unless, put_keeps}
use Rattle.bb_theorem_grammar.proofs.judged_lemmas.scopes.HoldLemmas as judged
use Rattle.bb_theorem_grammar.proofs.judged_lemmas.laying.LayLemmas.{Counts, counts_same, unless_counts, due_counts, known_counts}
use Rattle.bb_theorem_grammar.proofs.judged_lemmas.scopes.LocalLemmas.{frees_some}
use Rattle.bb_theorem_grammar.proofs.judged_lemmas.scopes.NameLemmas.{names_of}

same_counts : (s t : Buffer) → t.ops ≡ s.ops → t.texts ≡ s.texts → t.queries ≡ s.queries → t.loops ≡ s.loops → Counts s t
same_counts s t o x q l = record { ops_are = subst (λ y. length y ≡ length s.ops) (sym o) refl; texts_are = x; queries_are = subst (λ y. length y ≡ length s.queries) (sym q) refl; loops_are = subst (λ y. length y ≡ length s.loops) (sym l) refl }

-- ---- names

-- there was room for one more name
abbrev pub Roomy : {X : Type 0} → Buffer → X → Type 0
Roomy s x = 1 ≤ frees s.scope.kinds

pub take_counted : (kind : Kind) (s : Buffer) → Counted (second {X = ℕ}) (Roomy s) nothing s (take_local kind s)
unfolding take_local
take_counted kind s = by_first (position is_free s.scope.kinds) refl
  where
    by_first : (o : Option ℕ) → position is_free s.scope.kinds ≡ o → Counted (second {X = ℕ}) (Roomy s) nothing s (taken o kind s)
    by_first None at = tt
    by_first (Some local) at =
        (λ clean. record { clean = clean; ops_are = omega arith; texts_are = refl; queries_are = omega arith; loops_are = omega arith }, frees_some s.scope.kinds local at)

pub declare_counted : (name : List ℕ) (kind : Kind) (s : Buffer) → Counted itself (Roomy s) (ops 1) s (declare name kind s)
unfolding declare
declare_counted name kind s =
    counted_then (second {X = ℕ}) itself (Roomy s) (Roomy s) nothing (ops 1) s (take_local kind s) _ (take_counted kind s)
    (λ p some.
    let t : Buffer = record p.1 { scope = with_name name p.0 kind p.1.scope } in
    counted_from itself (Roomy s) (ops 1) p.1 t (put (put_ops.Store p.0) t) (same_counts p.1 t refl refl refl refl) (λ clean. clean)
    (counted_map itself Anything (Roomy s) (ops 1) t (put (put_ops.Store p.0) t) (λ u any. some) (put_counted (put_ops.Store p.0) t)))

assign_as_counted : (local : ℕ) (now : Option Kind) (s : Buffer) → Counted itself Anything (ops 1) s (assign_as local now s)
assign_as_counted local None s = (λ clean. never WrongKind s clean, tt)
assign_as_counted local (Some now) s =
    let t = with_kinds (set s.scope.kinds local now) s in
    counted_from itself Anything (ops 1) s t (put (put_ops.Store local) t) (same_counts s t refl refl refl refl) (λ clean. clean) (put_counted (put_ops.Store local) t)

assign_to_counted : (schema : Schema) (local : Option ℕ) (made : Option Kind) (s : Buffer) → Unless made s → Counted itself Anything (ops 1) s (assign_to schema local made s)
assign_to_counted schema None made s there = (λ clean. never Unknown s clean, tt)
assign_to_counted schema (Some local) None s there = (λ clean. absurd (there clean), tt)
assign_to_counted schema (Some local) (Some kind) s there = assign_as_counted local (assigned schema (kind_at s.scope.kinds local) kind) s

assign_counted : (schema : Schema) (name : List ℕ) (value : ExprTree) (s : Buffer) → Counted itself Anything (plus (expr_sums value) (ops 1)) s (assign_code schema name value s)
unfolding assign_code
assign_counted schema name value s =
    counted_then second itself Made Anything (expr_sums value) (ops 1) s (expr_code schema STACK_LIMIT value s) _ (expr_counted schema value STACK_LIMIT s) (λ p there. assign_to_counted schema (local_of p.1.scope name) p.0 p.1 there)

-- ---- slots, links and spaces

set_by_counted : (r : Result (ℕ × Kind) TextFlaw) (made : Option Kind) (s : Buffer) → Counted itself Anything (ops 1) s (set_by r made s)
set_by_counted (Err flaw) made s = (λ clean. never flaw s clean, tt)
set_by_counted (Ok slot) made s =
    counted_from itself Anything (ops 1) s (due made slot.1 s) (put (put_ops.Set slot.0) (due made slot.1 s)) (due_counts made slot.1 s) (due_back made slot.1 s) (put_counted (put_ops.Set slot.0) (due made slot.1 s))

set_in_counted : (schema : Schema) (class : Option ℕ) (slot : List ℕ) (made : Option Kind) (s : Buffer) → Unless class s → Counted itself Anything (ops 1) s (set_in schema class slot made s)
set_in_counted schema None slot made s there = (λ clean. absurd (there clean), tt)
set_in_counted schema (Some class) slot made s there = set_by_counted (value_slot schema class slot) made s

set_counted : (schema : Schema) (unit : Variable) (slot : List ℕ) (value : ExprTree) (s : Buffer) → Counted itself Anything (plus (ops 1) (plus (expr_sums value) (ops 1))) s (set_code schema unit slot value s)
unfolding set_code
set_counted schema unit slot value s =
    counted_then second itself Made Anything (ops 1) (plus (expr_sums value) (ops 1)) s (unit_code unit STACK_LIMIT s) _ (unit_counted unit STACK_LIMIT s)
    (λ p there. counted_knowing second itself Made Anything (expr_sums value) (ops 1) p.1 (expr_code schema (STACK_LIMIT - 1) value p.1) _ (expr_counted schema value (STACK_LIMIT - 1) p.1)
    (λ q two back. set_in_counted schema p.0 slot q.0 q.1 (unless_on p.0 p.1 q.1 back there)))

link_counts : (schema : Schema) (to : ℕ) (other : Option ℕ) (s : Buffer) → Counts s (link_noted schema to other s)
link_counts schema to None s = counts_same s
link_counts schema to (Some class) s = unless_counts (descends schema class to) LinkClass s

link_back : (schema : Schema) (to : ℕ) (other : Option ℕ) (s : Buffer) → Clean (link_noted schema to other s) → Clean s
link_back schema to None s clean = clean
link_back schema to (Some class) s clean = back_unless (descends schema class to) LinkClass s clean

relinked_counted : (schema : Schema) (change : LinkChange) (r : Result (ℕ × Link) TextFlaw) (other : Option ℕ) (s : Buffer) → Counted itself Anything (ops 1) s (relinked_by schema change r other s)
relinked_counted schema change (Err flaw) other s = (λ clean. never flaw s clean, tt)
relinked_counted schema change (Ok slot) other s =
    let t = link_noted schema slot.1.to other s in
    counted_from itself Anything (ops 1) s t (put (put_ops.Relink change slot.0) t) (link_counts schema slot.1.to other s) (link_back schema slot.1.to other s) (put_counted (put_ops.Relink change slot.0) t)

relinked_in_counted : (schema : Schema) (change : LinkChange) (class : Option ℕ) (slot : List ℕ) (other : Option ℕ) (s : Buffer) → Unless class s → Counted itself Anything (ops 1) s (relinked_in schema change class slot other s)
relinked_in_counted schema change None slot other s there = (λ clean. absurd (there clean), tt)
relinked_in_counted schema change (Some class) slot other s there = relinked_counted schema change (link_slot schema class slot) other s

relink_counted : (schema : Schema) (change : LinkChange) (unit : Variable) (slot : List ℕ) (other : Variable) (s : Buffer) → Counted itself Anything (plus (ops 1) (plus (ops 1) (ops 1))) s (relink_code schema change unit slot other s)
unfolding relink_code
relink_counted schema change unit slot other s =
    counted_then second itself Made Anything (ops 1) (plus (ops 1) (ops 1)) s (unit_code unit STACK_LIMIT s) _ (unit_counted unit STACK_LIMIT s)
    (λ p there. counted_knowing second itself Made Anything (ops 1) (ops 1) p.1 (unit_code other (STACK_LIMIT - 1) p.1) _ (unit_counted other (STACK_LIMIT - 1) p.1)
    (λ q two back. relinked_in_counted schema change p.0 slot q.0 q.1 (unless_on p.0 p.1 q.1 back there)))

entered_counted : (schema : Schema) (class space : Option ℕ) (s : Buffer) → Unless class s → Unless space s → Counted itself Anything (ops 1) s (entered schema class space s)
entered_counted schema None None s one two = (λ clean. absurd (one clean), tt)
entered_counted schema None (Some space) s one two = (λ clean. absurd (one clean), tt)
entered_counted schema (Some class) None s one two = (λ clean. absurd (two clean), tt)
entered_counted schema (Some class) (Some space) s one two =
    let t = space_noted schema space class s in
    counted_from itself Anything (ops 1) s t (put (put_ops.Enter space) t) (unless_counts (allowed schema space class) Space s) (back_unless (allowed schema space class) Space s) (put_counted (put_ops.Enter space) t)

enter_counted : (schema : Schema) (unit : Variable) (space : List ℕ) (s : Buffer) → Counted itself Anything (plus (ops 1) (ops 1)) s (enter_code schema unit space s)
unfolding enter_code
enter_counted schema unit space s =
    counted_then second itself Made Anything (ops 1) (ops 1) s (unit_code unit STACK_LIMIT s) _ (unit_counted unit STACK_LIMIT s)
    (λ p there.
    let w = space_named schema space in
    let t = known w p.1 in
    counted_from itself Anything (ops 1) p.1 t (entered schema p.0 w t) (known_counts w p.1) (back_known w p.1) (entered_counted schema p.0 w t (unless_on p.0 p.1 t (back_known w p.1) there) (known_unless w p.1)))

left_counted : (space : Option ℕ) (s : Buffer) → Counted itself Anything (ops 1) s (left_space space s)
left_counted None s = (λ clean. never Unknown s clean, tt)
left_counted (Some space) s = put_counted (put_ops.Leave space) s

leave_counted : (schema : Schema) (unit : Variable) (space : List ℕ) (s : Buffer) → Counted itself Anything (plus (ops 1) (ops 1)) s (leave_code schema unit space s)
unfolding leave_code
leave_counted schema unit space s = counted_then second itself Made Anything (ops 1) (ops 1) s (unit_code unit STACK_LIMIT s) _ (unit_counted unit STACK_LIMIT s) (λ p there. left_counted (space_named schema space) p.1)

deleted_counted : (schema : Schema) (class : Option ℕ) (s : Buffer) → Unless class s → Counted itself Anything (ops 1) s (deleted schema class s)
deleted_counted schema None s there = (λ clean. absurd (there clean), tt)
deleted_counted schema (Some class) s there =
    counted_last itself itself Anything Anything (ops 1) s (put put_ops.Delete s) (λ t. Ok (with_kinds (map (struck schema class) t.scope.kinds) t)) (put_counted put_ops.Delete s)
    (λ t any. (λ clean. record { clean = clean; ops_are = omega arith; texts_are = refl; queries_are = omega arith; loops_are = omega arith }, tt))

delete_counted : (schema : Schema) (unit : Variable) (s : Buffer) → Counted itself Anything (plus (ops 1) (ops 1)) s (delete_code schema unit s)
unfolding delete_code
delete_counted schema unit s = counted_then second itself Made Anything (ops 1) (ops 1) s (unit_code unit STACK_LIMIT s) _ (unit_counted unit STACK_LIMIT s) (λ p there. deleted_counted schema p.0 p.1 there)

-- ---- values

values_counted : (schema : Schema) (values : List ExprTree) (room : ℕ) (s : Buffer) → Counted itself Anything (values_sums values) s (values_code schema room values s)
unfolding values_code
values_counted schema [] room s = (λ clean. exact_none s clean, tt)
values_counted schema (e ∷ es) room s = counted_then second itself Made Anything (expr_sums e) (values_sums es) s (expr_code schema room e s) _ (expr_counted schema e room s) (λ p there. values_counted schema es (room - 1) p.1)

say_counted : (schema : Schema) (values : List ExprTree) (s : Buffer) → Counted itself Anything (plus (values_sums values) (ops 1)) s (say_code schema values s)
unfolding say_code
say_counted schema values s =
    counted_then itself itself Anything Anything (values_sums values) (ops 1) s (values_code schema STACK_LIMIT values s) _ (values_counted schema values STACK_LIMIT s) (λ t any. by_count (nat_lt SAID_LIMIT (length values)) t)
  where
    by_count : (b : Bool) (t : Buffer) → Counted itself Anything (ops 1) t (cond b (Ok (noted Limit t)) (put (put_ops.Say (length values)) t))
    by_count true t = (λ clean. never Limit t clean, tt)
    by_count false t = put_counted (put_ops.Say (length values)) t

end_counted : (schema : Schema) (right : Bool) (value : ExprTree) (wanted : Kind) (op : Op) (s : Buffer) → Counted itself Anything (plus (expr_sums value) (ops 1)) s (end_code schema value wanted op (end_noted right s))
unfolding end_code
end_counted schema right value wanted op s =
    counted_from itself Anything (plus (expr_sums value) (ops 1)) s (end_noted right s) (expr_code schema STACK_LIMIT value (end_noted right s) >>= λ p. put op (due p.0 wanted p.1)) (unless_counts right NoEnd s) (back_unless right NoEnd s)
    (counted_then second itself Made Anything (expr_sums value) (ops 1) (end_noted right s) (expr_code schema STACK_LIMIT value (end_noted right s)) _ (expr_counted schema value STACK_LIMIT (end_noted right s))
    (λ p there. counted_from itself Anything (ops 1) p.1 (due p.0 wanted p.1) (put op (due p.0 wanted p.1)) (due_counts p.0 wanted p.1) (due_back p.0 wanted p.1) (put_counted op (due p.0 wanted p.1))))

-- ---- all of them, with room for a name where one is declared

module _ (schema : Schema) (scope : Scope) (place : Place) where
  abbrev pub Fits : Action → Buffer → Type 0
  Fits a t = Clean t → action_has_room (names_of scope) a ≡ true

  roomy : (t : Buffer) (flaw : Option TextFlaw) → Keeps scope place flaw t → 1 ≤ frees t.scope.kinds → 1 ≤ frees scope.kinds
  roomy t flaw k some = subst (λ (sc : Scope). 1 ≤ frees sc.kinds) k.same some

  let_as_counted : (name : List ℕ) (value : ExprTree) (made : Option Kind) (t : Buffer) (flaw : Option TextFlaw) → Keeps scope place flaw t → Unless made t → Counted itself (Fits (actions.Let name value)) (ops 1) t (let_as name made t)
  let_as_counted name value None t flaw k there = (λ clean. absurd (there clean), λ clean. absurd (there clean))
  let_as_counted name value (Some kind) t flaw k there =
      counted_map itself (Roomy t) (Fits (actions.Let name value)) (ops 1) t (declare name kind t) (λ u some clean. le-leb 1 (frees scope.kinds) (roomy t flaw k some)) (declare_counted name kind t)

  let_counted : (name : List ℕ) (value : ExprTree) (s : Buffer) (seen : Option TextFlaw) → Keeps scope place seen s → Counted itself (Fits (actions.Let name value)) (plus (expr_sums value) (ops 1)) s (let_code schema name value s)
  unfolding let_code
  let_counted name value s seen k =
      counted_known place (judged.Made scope place (expr_kind schema (names_of scope) value) (least seen (expr_flaws schema (names_of scope) STACK_LIMIT value))) second itself Made (Fits (actions.Let name value)) (expr_sums value) (ops 1) s (expr_code schema STACK_LIMIT value s) _
      (expr_judged schema scope place value STACK_LIMIT s seen k) (expr_counted schema value STACK_LIMIT s)
      (λ p made there. let_as_counted name value p.0 p.1 (least seen (expr_flaws schema (names_of scope) STACK_LIMIT value)) made.1 there)

  new_of_counted : (name class : List ℕ) (o : Option ℕ) (s : Buffer) (flaw : Option TextFlaw) → Keeps scope place flaw s → Counted itself (Fits (actions.New name class)) (plus (ops 1) (ops 1)) s (new_of name o s)
  new_of_counted name class None s flaw k = (λ clean. never Unknown s clean, λ clean. never Unknown s clean)
  new_of_counted name class (Some c) s flaw k =
      counted_known place (Keeps scope place flaw) itself itself Anything (Fits (actions.New name class)) (ops 1) (ops 1) s (put (put_ops.New c) s) (λ t. declare name (kinds.Ref c) t) (put_keeps scope place (put_ops.New c) s flaw k) (put_counted (put_ops.New c) s)
      (λ t kept any. counted_map itself (Roomy t) (Fits (actions.New name class)) (ops 1) t (declare name (kinds.Ref c) t) (λ u some clean. le-leb 1 (frees scope.kinds) (roomy t flaw kept some)) (declare_counted name (kinds.Ref c) t))

  new_counted : (part : Part) (name class : List ℕ) (s : Buffer) (seen : Option TextFlaw) → Keeps scope place seen s → Counted itself (Fits (actions.New name class)) (plus (ops 1) (ops 1)) s (new_of name (class_named schema class) (effect_noted part s))
  new_counted part name class s seen k =
      counted_from itself (Fits (actions.New name class)) (plus (ops 1) (ops 1)) s (effect_noted part s) (new_of name (class_named schema class) (effect_noted part s)) (unless_counts (is_ok (writes part)) Effect s) (back_unless (is_ok (writes part)) Effect s)
      (new_of_counted name class (class_named schema class) (effect_noted part s) _ (noted_unless scope place (is_ok (writes part)) Effect s seen k))

  -- one that declares no name
  plain : (a : Action) (sums : Sums) (s : Buffer) (r : Result Buffer CompileFault) → action_has_room (names_of scope) a ≡ true → Counted itself Anything sums s r → Counted itself (Fits a) sums s r
  plain a sums s r some h = counted_map itself Anything (Fits a) sums s r (λ t any clean. some) h

  changed : (sums : Sums) (part : Part) (s : Buffer) (f : Buffer → Result Buffer CompileFault) → ((t : Buffer) → Counted itself Anything sums t (f t)) → Counted itself Anything sums s (f (effect_noted part s))
  changed sums part s f h = counted_from itself Anything sums s (effect_noted part s) (f (effect_noted part s)) (unless_counts (is_ok (writes part)) Effect s) (back_unless (is_ok (writes part)) Effect s) (h (effect_noted part s))

  pub action_counted : (part : Part) (a : Action) (s : Buffer) (seen : Option TextFlaw) → Keeps scope place seen s → Counted itself (Fits a) (action_sums a) s (action_code schema part a s)
  unfolding action_code action_sums new_code
  action_counted part (actions.Let name value) s seen k = let_counted name value s seen k
  action_counted part (actions.Assign name value) s seen k = plain (actions.Assign name value) _ s _ refl (assign_counted schema name value s)
  action_counted part (actions.New name class) s seen k = new_counted part name class s seen k
  action_counted part (actions.Set unit slot value) s seen k = plain (actions.Set unit slot value) _ s _ refl (changed _ part s (set_code schema unit slot value) (set_counted schema unit slot value))
  action_counted part (actions.Link unit slot other) s seen k = plain (actions.Link unit slot other) _ s _ refl (changed _ part s (relink_code schema changes.Link unit slot other) (relink_counted schema changes.Link unit slot other))
  action_counted part (actions.Unlink unit slot other) s seen k = plain (actions.Unlink unit slot other) _ s _ refl (changed _ part s (relink_code schema changes.Unlink unit slot other) (relink_counted schema changes.Unlink unit slot other))
  action_counted part (actions.Enter unit space) s seen k = plain (actions.Enter unit space) _ s _ refl (changed _ part s (enter_code schema unit space) (enter_counted schema unit space))
  action_counted part (actions.Leave unit space) s seen k = plain (actions.Leave unit space) _ s _ refl (changed _ part s (leave_code schema unit space) (leave_counted schema unit space))
  action_counted part (actions.Delete unit) s seen k = plain (actions.Delete unit) _ s _ refl (changed _ part s (delete_code schema unit) (delete_counted schema unit))
  action_counted part (actions.Say values) s seen k = plain (actions.Say values) _ s _ refl (changed _ part s (say_code schema values) (say_counted schema values))
  action_counted part (actions.Rate value) s seen k = plain (actions.Rate value) _ s _ refl (end_counted schema (is_ok (ends_rated part)) value kinds.Int put_ops.Rate s)
  action_counted part actions.Decline s seen k =
      plain actions.Decline _ s _ refl (counted_from itself Anything (ops 1) s (end_noted (is_ok (ends_rated part)) s) (put put_ops.Decline (end_noted (is_ok (ends_rated part)) s)) (unless_counts (is_ok (ends_rated part)) NoEnd s) (back_unless (is_ok (ends_rated part)) NoEnd s) (put_counted put_ops.Decline (end_noted (is_ok (ends_rated part)) s)))
  action_counted part (actions.Answer value) s seen k = plain (actions.Answer value) _ s _ refl (end_counted schema (is_ok (ends_answered part)) value kinds.Bool put_ops.Answer s)
