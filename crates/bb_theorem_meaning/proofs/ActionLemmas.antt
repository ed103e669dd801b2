-- Every statement without blocks does what it means.
use Rattle.std.proofs.Common.{◌≡◌, ◌⊎◌, inl, inr, ℕ, suc, ◌+◌, ◌-◌, Bool, true, false, cond, List, [], ◌∷◌, ◌++◌, length, reverse, Result, Ok, Err, refl, subst, sym, ap, ◌∙◌, append_assoc}
use Rattle.std.specs.Prelude.{is_ok, nat_lt}
use Rattle.std.proofs.lemmas.List.{append-nil}
use Rattle.bb_basis.specs.Results.{◌>>=◌, ok_or, try_map}
use Rattle.bb_basis.proofs.ResultLemmas.{bind_ok, same_ok}
use Rattle.bb_code.specs.Code.{Code}
use Rattle.bb_code.specs.declared.parts.TheConstants.{STACK_LIMIT, SAID_LIMIT}
use Rattle.bb_code.specs.declared.op.LinkChange.TheVariants as changes
use Rattle.bb_verify_effect.specs.declared.part.Part.{Part}
use Rattle.bb_verify_effect.specs.Part.{writes, ends_rated, ends_answered}
use Rattle.bb_code.specs.declared.frame.Kind.{Kind}
use Rattle.bb_code.specs.declared.frame.Kind.TheVariants as kinds
use Rattle.bb_code.specs.declared.op.Op.{Op}
use Rattle.bb_code.specs.declared.op.Op.TheVariants as ops
use Rattle.bb_schema.specs.Schema.{Schema}
use Rattle.bb_schema.specs.Fits as schemas
use Rattle.bb_lang.specs.Action.{Action}
use Rattle.bb_lang.specs.Action.TheVariants as actions
use Rattle.bb_lang.specs.Trees.{ExprTree}
use Rattle.bb_compile_scope.specs.declared.fault.CompileFault.{CompileFault}
use Rattle.bb_compile_scope.specs.declared.fault.TextFlaw.TheVariants.{Effect, NoEnd, Limit}
use Rattle.bb_compile_scope.specs.declared.scope.Scope.{Scope}
use Rattle.bb_compile_scope.specs.declared.scope.NamedLocal.{NamedLocal}
use Rattle.bb_compile_scope.specs.LocalKinds.{is_free, kind_at}
use Rattle.bb_theorem_meaning.proofs.KeepLemmas.{moves_same}
use Rattle.bb_theorem_accepted.specs.Buffer.{Buffer}
use Rattle.bb_theorem_accepted.specs.Buffers.{noted, due, put}
use Rattle.bb_compile.specs.Expressions.{expr_code}
use Rattle.bb_compile.specs.Actions.{effect_noted, end_noted, values_code, say_code, end_code, action_code}
use Rattle.bb_board.specs.Board.{Board, with_world}
use Rattle.bb_board.specs.World.{after_say}
use Rattle.bb_board.specs.declared.note.Said.{Said}
use Rattle.bb_machine.specs.declared.outcome.Answer.TheVariants.{Rated, Declined}
use Rattle.bb_machine.specs.Changing.{State, say, said_due}
use Rattle.bb_machine.specs.Jumping.{answered}
use Rattle.bb_machine.specs.Machine.{Machine, with_stack, go_to, pop_many}
use Rattle.bb_machine.specs.Step.{step}
use Rattle.bb_machine.specs.declared.outcome.Stuck.TheVariants as reasons
use Rattle.bb_machine.specs.Value.{stuck, said_of}
use Rattle.bb_machine.specs.declared.value.Value.{Value}
use Rattle.bb_theorem_accepted.proofs.Laws.{Clean, Grown, Has, is_open, passed, never_noted, is_due, put_ok, put_clean, grown_none, grown_on, grown_op, has_before, clean_before}
use Rattle.bb_theorem_meaning.specs.Meaning.{Meaning, Name, meaningless, named}
use Rattle.bb_theorem_meaning.specs.Meaning as ends
use Rattle.bb_theorem_meaning.specs.Values.{number, truth}
use Rattle.bb_theorem_meaning.specs.Expressions.{value_of}
use Rattle.bb_theorem_meaning.specs.Statements as says
use Rattle.bb_theorem_meaning.specs.Statements.{Scene, in_world, where_named, created, set_to, relinked, moved, acted}
use Rattle.bb_theorem_meaning.proofs.ComeLemmas.{Leaves, done_on, Comes, Gets, gets_none}
use Rattle.bb_theorem_meaning.proofs.MeansLemmas.{part_gets}
use Rattle.bb_theorem_meaning.proofs.NameLemmas.{AreHeld}
use Rattle.bb_theorem_meaning.proofs.OpLemmas.{Pushed}
use Rattle.bb_theorem_meaning.proofs.AtomLemmas.{Good}
use Rattle.bb_theorem_meaning.proofs.ExprLemmas.{expr_means}
use Rattle.bb_theorem_meaning.proofs.FindLemmas.{Piled, popped, pile}
use Rattle.bb_theorem_meaning.proofs.ActLemmas.{IsTidy, IsScene, Acts, OneLeaf, last_put, last_gets, one_act, acts_as}
use Rattle.bb_theorem_meaning.proofs.LeafLemmas.{rates, answers, all_said}
use Rattle.bb_theorem_meaning.proofs.BindLemmas.{let_does, assign_does, new_does}
use Rattle.bb_theorem_meaning.proofs.UnitLemmas.{delete_does, enter_does, leave_does, set_does, relink_does}

module _ (schema : Schema) (sf : schemas.Fits schema) (code : Code) (start : State) (good : (n : ℕ) (st : State) → Comes code start n (Ok st) → Good schema st.1) where
  anything : (n : ℕ) (st : State) → Comes code start n (Ok st) → Unit {0}
  anything n st c = tt

  abbrev Does : Buffer → Buffer → (Scene → Meaning Scene) → Type 0
  Does s t f = Acts code start s t f

  -- ---- say

  -- what is laid out from one buffer to another pushes the values of expressions
  record Values (s t : Buffer) (es : List ExprTree) : Type 0 where
    grown : Grown s t
    clean : Clean s
    scope : t.scope ≡ s.scope
    gets : (st base : State) (names : List Name) (vs : List Value) → Comes code start (length s.ops) (Ok st) → Piled (length s.ops) base vs st → AreHeld base.0.locals s.scope.names names
        → Gets code start (λ ws next. Piled (length t.ops) base (vs ++ ws) next × (length ws ≡ length es)) (try_map (value_of base.1 names) es) (length t.ops)

  values_mean : (es : List ExprTree) (r : ℕ) (s t : Buffer) → values_code schema r es s ≡ Ok t → Clean t → Has code t → Values s t es
  unfolding values_code try_map
  values_mean [] r s t h clean has =
      let same = same_ok s t h in
      subst (λ u. Values s u []) same
      (record {
        grown = grown_none s s refl refl refl;
        clean = ap (λ (x : Buffer). x.flaw) same ∙ clean;
        scope = refl;
        gets = λ st base names vs c piled held.
            gets_none code start (λ ws next. Piled (length s.ops) base (vs ++ ws) next × (length ws ≡ length (let l : List ExprTree = [] in l))) [] (length s.ops) st c (subst (λ l. Piled (length s.ops) base l st) (sym (append-nil vs)) piled, refl);
      })
  values_mean (e ∷ es) r s t h clean has =
      let one = bind_ok (expr_code schema r e s) (λ p. values_code schema (r - 1) es p.1) t h in
      let u = one.0.1 in
      let rest = values_mean es (r - 1) u t one.2 clean has in
      let m = expr_means schema sf code start good e r s u one.0.0 one.1 rest.clean (has_before code u t rest.grown has) in
      record {
        grown = grown_on s u t m.grown rest.grown;
        clean = m.clean;
        scope = rest.scope ∙ m.scope;
        gets = λ st base names vs c piled held.
            part_gets code start u t (Pushed (length u.ops) st) (λ ws next. Piled (length t.ops) base (vs ++ ws) next × (length ws ≡ length (e ∷ es))) (value_of base.1 names e) (λ first. try_map (value_of base.1 names) es >>= λ others. Ok (first ∷ others)) rest.grown
            (subst (λ b. Gets code start (Pushed (length u.ops) st) (value_of b names e) (length u.ops)) piled.board (m.gets st names c (subst (λ l. AreHeld l s.scope.names names) (sym piled.locals) held)))
            (λ v next there p.
            part_gets code start t t (λ ws last. Piled (length t.ops) base ((vs ++ v ∷ []) ++ ws) last × (length ws ≡ length es)) (λ ws next. Piled (length t.ops) base (vs ++ ws) next × (length ws ≡ length (e ∷ es)))
            (try_map (value_of base.1 names) es) (λ others. Ok (v ∷ others)) (grown_none t t refl refl refl)
            (rest.gets next base names (vs ++ v ∷ []) there (record { place = p.place; locals = p.locals ∙ piled.locals; stack = p.stack ∙ (ap (λ l. v ∷ l) piled.stack ∙ pile vs base.0.stack v); board = p.board ∙ piled.board })
            (subst (λ (d : Scope). AreHeld base.0.locals d.names names) (sym m.scope) held))
            (λ ws last here q.
            gets_none code start (λ ws next. Piled (length t.ops) base (vs ++ ws) next × (length ws ≡ length (e ∷ es))) (v ∷ ws) (length t.ops) last here
            (subst (λ l. Piled (length t.ops) base l last) (append_assoc vs (v ∷ []) ws) q.0, ap suc q.1)));
      }

  -- what values are as they are said
  abbrev all_values_said : Scene → List Value → Meaning Scene
  all_values_said scene vs = try_map (λ v. let r : Meaning Said = ok_or (said_of v) meaningless in r) vs >>= λ said. Ok (in_world scene (after_say scene.board.world said))

  say_on : (count : ℕ) (m : Machine) (b : Board) → step code (ops.Say count) (m, b) ≡ (pop_many count m >>= λ p. try_map (said_due b) p.0 >>= λ said. Ok (p.1, with_world b (after_say b.world said)))
  unfolding step say
  say_on count m b = refl

  say_leaves : (count n : ℕ) (ns : List NamedLocal) (m : Machine) (b : Board) (names : List Name) (vs : List Value) → count ≡ length vs → m.place ≡ n → AreHeld m.locals ns names → m.stack ≡ reverse vs ++ []
      → Leaves (IsScene n ns) (all_values_said (record { names = names; board = b }) vs) (done_on b (step code (ops.Say count) (m, b)))
  say_leaves count n ns m b names vs same place held stack =
      subst (λ r. Leaves (IsScene n ns) (all_values_said scene vs) (done_on b r)) (sym (say_on count m b)) (by_pop (popped count m vs [] stack same))
    where
      scene : Scene
      scene = record { names = names; board = b }

      by_said : ((said : List Said) × (try_map (said_due b) vs ≡ Ok said) × (try_map (λ v. let r : Meaning Said = ok_or (said_of v) meaningless in r) vs ≡ Ok said)) ⊎ (try_map (said_due b) vs ≡ stuck reasons.Kind)
          → Leaves (IsScene n ns) (all_values_said scene vs) (done_on b (try_map (said_due b) vs >>= λ said. Ok (with_stack [] m, with_world b (after_say b.world said))))
      by_said (inl ok) =
          let means : all_values_said scene vs ≡ Ok (in_world scene (after_say b.world ok.0)) = rw ok.2 refl in
          subst (λ r. Leaves (IsScene n ns) (all_values_said scene vs) (done_on b (r >>= λ said. Ok (with_stack [] m, with_world b (after_say b.world said))))) (sym ok.1)
          (in_world scene (after_say b.world ok.0), means, record { place = place; held = held; stack = refl; board = refl })
      by_said (inr none) = subst (λ r. Leaves (IsScene n ns) (all_values_said scene vs) (done_on b (r >>= λ said. Ok (with_stack [] m, with_world b (after_say b.world said))))) (sym none) tt

      by_pop : (pop_many count m ≡ Ok (vs, with_stack [] m)) ⊎ (pop_many count m ≡ stuck reasons.Missing)
          → Leaves (IsScene n ns) (all_values_said scene vs) (done_on b (pop_many count m >>= λ p. try_map (said_due b) p.0 >>= λ said. Ok (p.1, with_world b (after_say b.world said))))
      by_pop (inl ok) = subst (λ r. Leaves (IsScene n ns) (all_values_said scene vs) (done_on b (r >>= λ p. try_map (said_due b) p.0 >>= λ said. Ok (p.1, with_world b (after_say b.world said))))) (sym ok) (by_said (all_said b vs))
      by_pop (inr none) = subst (λ r. Leaves (IsScene n ns) (all_values_said scene vs) (done_on b (r >>= λ p. try_map (said_due b) p.0 >>= λ said. Ok (p.1, with_world b (after_say b.world said))))) (sym none) tt

  say_does : (es : List ExprTree) (s t : Buffer) → say_code schema es s ≡ Ok t → Clean t → Has code t → Does s t (λ scene. try_map (value_of scene.board scene.names) es >>= all_values_said scene)
  unfolding say_code
  say_does es s t h clean has =
      let one = bind_ok (values_code schema STACK_LIMIT es s) (λ u. cond (nat_lt SAID_LIMIT (length es)) (Ok (noted Limit u)) (put (ops.Say (length es)) u)) t h in
      by_few one.0 (nat_lt SAID_LIMIT (length es)) one.1 one.2
    where
      by_few : (u : Buffer) (many : Bool) → values_code schema STACK_LIMIT es s ≡ Ok u → (let r : Result Buffer CompileFault = cond many (Ok (noted Limit u)) (put (ops.Say (length es)) u) in r) ≡ Ok t
          → Does s t (λ scene. try_map (value_of scene.board scene.names) es >>= all_values_said scene)
      by_few u true is h = never_noted Limit u (ap (λ (x : Buffer). x.flaw) (same_ok (noted Limit u) t h) ∙ clean)
      by_few u false is h =
          let op = ops.Say (length es) in
          let put_is = put_ok op u t h in
          let last = last_put op u t put_is in
          let m = values_mean es STACK_LIMIT s u is (clean_before op u t put_is clean) (has_before code u t (grown_op op u t put_is) has) in
          let scope : t.scope ≡ s.scope = ap (λ (x : Buffer). x.scope) put_is ∙ m.scope in
          record {
            grown = grown_on s u t m.grown (grown_op op u t put_is);
            clean = m.clean;
            tidy = λ tidy. subst IsTidy (sym scope) tidy;
            moves = λ tidy. moves_same s.scope t.scope scope;
            gets = λ tidy st scene c here.
                part_gets code start u t (λ ws next. Piled (length u.ops) st ([] ++ ws) next × (length ws ≡ length es)) (IsScene (length t.ops) t.scope.names) (try_map (value_of scene.board scene.names) es) (all_values_said scene) (grown_op op u t put_is)
                (subst (λ b. Gets code start (λ ws next. Piled (length u.ops) st ([] ++ ws) next × (length ws ≡ length es)) (try_map (value_of b scene.names) es) (length u.ops)) here.board
                (m.gets st st scene.names [] c (record { place = c.0; locals = refl; stack = refl; board = refl }) here.held))
                (λ vs next there p.
                subst (λ (d : Scope). Gets code start (IsScene (length t.ops) d.names) (all_values_said scene vs) (length t.ops)) (sym scope)
                (subst (λ b. Gets code start (IsScene (length t.ops) s.scope.names) (all_values_said (record { names = scene.names; board = b }) vs) (length t.ops)) (p.0.board ∙ here.board)
                (last_gets code start op u t (λ n. IsScene n s.scope.names) (all_values_said (record { names = scene.names; board = next.1 }) vs) next last refl has there (λ n x after i. i.place)
                (say_leaves (length es) (length u.ops + 1) s.scope.names (go_to (length u.ops + 1) next.0) next.1 scene.names vs (sym p.1) refl (subst (λ l. AreHeld l s.scope.names scene.names) (sym p.0.locals) here.held)
                (p.0.stack ∙ ap (λ l. reverse vs ++ l) here.stack)))));
          }

  -- ---- ends

  end_does : (e : ExprTree) (wanted : Kind) (op : Op) (f : Scene → Value → Meaning Scene) (s t : Buffer) → end_code schema e wanted op s ≡ Ok t → Clean t → is_open op ≡ false → Has code t → ((ns : List NamedLocal) → OneLeaf code start ns op (λ b. Unit {0}) f)
      → Does s t (λ scene. value_of scene.board scene.names e >>= f scene)
  unfolding end_code
  end_does e wanted op f s t h clean closed has leaf =
      let one = bind_ok (expr_code schema STACK_LIMIT e s) (λ p. put op (due p.0 wanted p.1)) t h in
      let u = one.0.1 in
      let put_is = put_clean op u (due one.0.0 wanted u) t (is_due one.0.0 wanted u) one.2 clean in
      let m = expr_means schema sf code start good e STACK_LIMIT s u one.0.0 one.1 (clean_before op u t put_is clean) (has_before code u t (grown_op op u t put_is) has) in
      let scope : t.scope ≡ s.scope = ap (λ (x : Buffer). x.scope) put_is ∙ m.scope in
      one_act code start op (λ b. Unit {0}) s u t one.0.0 (λ b names. value_of b names e) f anything m (last_put op u t put_is) closed (ap (λ (x : Scope). x.names) scope) (λ i taken. subst (λ (x : Scope). is_free (kind_at x.kinds i) ≡ false) (sym scope) taken) (λ tidy. subst IsTidy (sym scope) tidy) has (leaf s.scope.names)

  decline_on : (m : Machine) (b : Board) → step code ops.Decline (m, b) ≡ answered Declined
  unfolding step
  decline_on m b = refl

  decline_does : (s t : Buffer) → put ops.Decline s ≡ Ok t → Clean t → Has code t → Does s t (λ scene. Err (ends.answered Declined scene.board))
  decline_does s t h clean has =
      let put_is = put_ok ops.Decline s t h in
      record {
        grown = grown_op ops.Decline s t put_is;
        clean = clean_before ops.Decline s t put_is clean;
        tidy = λ tidy. subst IsTidy (sym (ap (λ (x : Buffer). x.scope) put_is)) tidy;
        moves = λ tidy. moves_same s.scope t.scope (ap (λ (x : Buffer). x.scope) put_is);
        gets = λ tidy st scene c here.
            last_gets code start ops.Decline s t (λ n. IsScene n t.scope.names) (Err (ends.answered Declined scene.board)) st (last_put ops.Decline s t put_is) refl has c (λ n x next i. i.place)
            (subst (λ r. Leaves (IsScene (length s.ops + 1) t.scope.names) (Err (ends.answered Declined scene.board)) (done_on st.1 r)) (sym (decline_on (go_to (length s.ops + 1) st.0) st.1)) (ap (λ b. Err (ends.answered Declined b)) (sym here.board)));
      }

  -- ---- all of them

  module _ (part : Part) where
    effect_free : (s : Buffer) → Clean (effect_noted part s) → effect_noted part s ≡ s
    effect_free s clean = (passed (is_ok (writes part)) Effect s clean).1

    end_free : (right : Bool) (s : Buffer) → Clean (end_noted right s) → end_noted right s ≡ s
    end_free right s clean = (passed right NoEnd s clean).1

    pub action_does : (a : Action) (s t : Buffer) → action_code schema part a s ≡ Ok t → Clean t → Has code t → Does s t (acted a)
    unfolding action_code acted
    action_does (actions.Let name value) s t h clean has = let_does schema sf code start good name value s t h clean has
    action_does (actions.Assign name value) s t h clean has = assign_does schema sf code start good name value s t h clean has
    action_does (actions.Rate value) s t h clean has =
        acts_as code start (end_noted (is_ok (ends_rated part)) s) s t (acted (actions.Rate value)) (end_free (is_ok (ends_rated part)) s)
        (end_does value kinds.Int ops.Rate (λ scene v. number v >>= λ n. Err (ends.answered (Rated n) scene.board)) (end_noted (is_ok (ends_rated part)) s) t h clean refl has (λ ns. rates code start ns))
    action_does actions.Decline s t h clean has =
        acts_as code start (end_noted (is_ok (ends_rated part)) s) s t (acted actions.Decline) (end_free (is_ok (ends_rated part)) s) (decline_does (end_noted (is_ok (ends_rated part)) s) t h clean has)
    action_does (actions.Answer value) s t h clean has =
        acts_as code start (end_noted (is_ok (ends_answered part)) s) s t (acted (actions.Answer value)) (end_free (is_ok (ends_answered part)) s)
        (end_does value kinds.Bool ops.Answer (λ scene v. truth v >>= λ b. Err (says.yes_or_no scene.board b)) (end_noted (is_ok (ends_answered part)) s) t h clean refl has (λ ns. answers code start ns))
    action_does (actions.New name class) s t h clean has = acts_as code start (effect_noted part s) s t (acted (actions.New name class)) (effect_free s) (new_does schema sf code start good name class (effect_noted part s) t h clean has)
    action_does (actions.Set unit slot value) s t h clean has = acts_as code start (effect_noted part s) s t (acted (actions.Set unit slot value)) (effect_free s) (set_does schema sf code start good unit slot value (effect_noted part s) t h clean has)
    action_does (actions.Link unit slot other) s t h clean has = acts_as code start (effect_noted part s) s t (acted (actions.Link unit slot other)) (effect_free s) (relink_does schema sf code start good changes.Link unit slot other (effect_noted part s) t h clean has)
    action_does (actions.Unlink unit slot other) s t h clean has = acts_as code start (effect_noted part s) s t (acted (actions.Unlink unit slot other)) (effect_free s) (relink_does schema sf code start good changes.Unlink unit slot other (effect_noted part s) t h clean has)
    action_does (actions.Enter unit space) s t h clean has = acts_as code start (effect_noted part s) s t (acted (actions.Enter unit space)) (effect_free s) (enter_does schema sf code start good unit space (effect_noted part s) t h clean has)
    action_does (actions.Leave unit space) s t h clean has = acts_as code start (effect_noted part s) s t (acted (actions.Leave unit space)) (effect_free s) (leave_does schema sf code start good unit space (effect_noted part s) t h clean has)
    action_does (actions.Delete unit) s t h clean has = acts_as code start (effect_noted part s) s t (acted (actions.Delete unit)) (effect_free s) (delete_does schema sf code start good unit (effect_noted part s) t h clean has)
    action_does (actions.Say values) s t h clean has = acts_as code start (effect_noted part s) s t (acted (actions.Say values)) (effect_free s) (say_does values (effect_noted part s) t h clean has)
