-- Every statement without blocks leads from frame to frame, or ends.
use Rattle.std.proofs.Common.{◌≡◌, inl, ℕ, suc, ◌+◌, ◌-◌, Bool, true, false, cond, List, [], ◌∷◌, ◌++◌, length, reverse, take, drop, Result, Ok, refl, subst, sym, ap, ◌∙◌, arith, append_assoc}
use Rattle.std.specs.Prelude.{is_ok, nat_lt}
use Rattle.std.proofs.lemmas.Bool.{le-ltb}
use Rattle.std.proofs.lemmas.List.{reverse-append}
use Rattle.bb_basis.specs.Results.{◌>>=◌}
use Rattle.bb_basis.proofs.ResultLemmas.{bind_ok, same_ok}
use Rattle.bb_code.specs.declared.parts.TheConstants.{STACK_LIMIT, SAID_LIMIT}
use Rattle.bb_code.specs.declared.op.LinkChange.TheVariants as changes
use Rattle.bb_schema.specs.Schema.{Schema}
use Rattle.bb_schema.specs.Fits as schemas
use Rattle.bb_code.specs.Code.{Code}
use Rattle.bb_code.specs.declared.flaw.Flaw.{Flaw as CodeFlaw}
use Rattle.bb_code.specs.declared.frame.Kind.{Kind}
use Rattle.bb_code.specs.declared.frame.Kind.TheVariants as kinds
use Rattle.bb_code.specs.declared.op.Op.{Op}
use Rattle.bb_code.specs.declared.op.Op.TheVariants as ops
use Rattle.bb_lang.specs.Action.{Action}
use Rattle.bb_lang.specs.Action.TheVariants as actions
use Rattle.bb_lang.specs.Trees.{ExprTree}
use Rattle.bb_compile_scope.specs.declared.fault.CompileFault.{CompileFault}
use Rattle.bb_compile_scope.specs.declared.fault.TextFlaw.TheVariants.{Effect, NoEnd, Limit}
use Rattle.bb_compile_scope.specs.Ending.{ends}
use Rattle.bb_compile_buffer.specs.declared.buffer.Buffer.{Buffer}
use Rattle.bb_compile_buffer.specs.Buffers.{noted, due, put}
use Rattle.bb_compile.specs.Expressions.{expr_code}
use Rattle.bb_compile.specs.Actions.{effect_noted, end_noted, values_code, say_code, end_code, action_code}
use Rattle.bb_code.specs.Each.{each}
use Rattle.bb_verify_effect.specs.Part.{writes, ends_done, ends_rated, ends_answered}
use Rattle.bb_verify_effect.specs.declared.part.Part.{Part}
use Rattle.bb_verify_effect.specs.declared.part.Part.TheVariants.{Require, Obviate, Retrigger, Revalidate, Do}
use Rattle.bb_verify_effect.specs.declared.frame.Frame.{Frame}
use Rattle.bb_verify_effect.specs.Frame.{with_stack, pop, enough}
use Rattle.bb_verify_effect.specs.Due as dues
use Rattle.bb_verify_effect.specs.Effect.{effect, on, say, rate, decline, answer}
use Rattle.bb_verify.specs.Tables.{in_tables}
use Rattle.bb_theorem_accepted.proofs.buffers.StraightLemmas.{Gives, Ends, Leads, leads_on, runs_on, nothing_follows}
use Rattle.bb_theorem_accepted.proofs.kinds.UnderLemmas.{is_due, under_copied}
use Rattle.bb_theorem_accepted.proofs.buffers.BufferLemmas.{Clean, Grown, Has, with_op, passed, never_noted, put_ok, grown_none, grown_op, grown_on, has_before}
use Rattle.bb_theorem_accepted.proofs.buffers.BufferLemmas as buffers
use Rattle.bb_theorem_accepted.proofs.buffers.PutLemmas.{clean_before, due_kind}
use Rattle.bb_theorem_accepted.proofs.buffers.LayLemmas.{Known, bare, bare_op, known_same}
use Rattle.bb_theorem_accepted.proofs.straight.QueryLemmas.{piled, pile_count}
use Rattle.bb_theorem_accepted.proofs.straight.PatternLemmas.{AreSmall}
use Rattle.bb_theorem_accepted.proofs.straight.ExprLemmas.{expr_lays}
use Rattle.bb_theorem_accepted.proofs.kinds.MoveLemmas.{last_some, moves_same}
use Rattle.bb_theorem_accepted.proofs.straight.StoreLemmas.{Does, marks, marks_same, all_room, let_does, assign_does, new_does}
use Rattle.bb_theorem_accepted.proofs.straight.UnitLemmas.{enter_does, leave_does, delete_does, set_does, relink_does}

-- ---- what parts may do

may_write : (part : Part) → is_ok (writes part) ≡ true → writes part ≡ Ok tt
may_write (Do c) h = refl
may_write (Require c) h = absurd cc
may_write (Obviate c of) h = absurd cc
may_write (Retrigger c of) h = absurd cc
may_write (Revalidate c) h = absurd cc

may_rate : (part : Part) → is_ok (ends_rated part) ≡ true → (ends_rated part ≡ Ok tt) × (is_ok (ends_done part) ≡ false)
may_rate (Require c) h = (refl, refl)
may_rate (Retrigger c of) h = (refl, refl)
may_rate (Do c) h = absurd cc
may_rate (Obviate c of) h = absurd cc
may_rate (Revalidate c) h = absurd cc

may_answer : (part : Part) → is_ok (ends_answered part) ≡ true → (ends_answered part ≡ Ok tt) × (is_ok (ends_done part) ≡ false)
may_answer (Obviate c of) h = (refl, refl)
may_answer (Revalidate c) h = (refl, refl)
may_answer (Do c) h = absurd cc
may_answer (Require c) h = absurd cc
may_answer (Retrigger c of) h = absurd cc

-- ---- values that are said

abbrev AreSaid : List Kind → Type 0
AreSaid [] = Unit {0}
AreSaid (k ∷ ks) = (dues.sayable k ≡ Ok tt) × AreSaid ks

all_said : (ks : List Kind) → AreSaid ks → each dues.sayable ks ≡ Ok tt
unfolding each
all_said [] said = refl
all_said (k ∷ ks) said = ap (λ (r : Result (Unit {0}) CodeFlaw). r >>= λ _. each dues.sayable ks) said.0 ∙ all_said ks said.1

module _ (schema : Schema) (sf : schemas.Fits schema) (part : Part) (code : Code) (small : AreSmall schema sf part code) where
  -- what is laid out from one buffer to another pushes the values of expressions
  record LaysAll (space : ℕ) (s t : Buffer) (es : List ExprTree) : Type 0 where
    grown : Grown s t
    clean : Clean s
    same : bare t ≡ bare s
    leads : (f : Frame) → Known schema sf part code f s → length f.stack + space ≡ STACK_LIMIT → (ks : List Kind) × (length ks ≡ length es) × AreSaid ks × Leads schema part code grown.ops f (with_stack (reverse ks ++ f.stack) f)

  values_lay : (es : List ExprTree) (space : ℕ) (s t : Buffer) → values_code schema space es s ≡ Ok t → Clean t → Has code t → LaysAll space s t es
  unfolding values_code grown_on grown_none
  values_lay [] space s t h clean has =
      let same = same_ok s t h in
      subst (λ u. LaysAll space s u []) same
      (record { grown = grown_none s s refl refl refl; clean = ap (λ (x : Buffer). x.flaw) same ∙ clean; same = refl; leads = λ f known count. ([], refl, tt, refl) })
  values_lay (e ∷ es) space s t h clean has =
      let one = bind_ok (expr_code schema space e s) (λ p. values_code schema (space - 1) es p.1) t h in
      let u = one.0.1 in
      let rest = values_lay es (space - 1) u t one.2 clean has in
      let m = expr_lays schema sf part code small e space s u one.0.0 one.1 rest.clean (has_before code u t rest.grown has) in
      record {
        grown = grown_on s u t m.grown rest.grown;
        clean = m.clean;
        same = rest.same ∙ m.same;
        leads = λ f known count.
            let x = m.leads f known count in
            let g = with_stack (x.0 ∷ f.stack) f in
            let some = m.some in
            let y = rest.leads g (known_same schema sf part code f s u m.same known) (omega (arith, count, some)) in
            let stack : reverse y.0 ++ (x.0 ∷ f.stack) ≡ reverse (x.0 ∷ y.0) ++ f.stack = sym (append_assoc (reverse y.0) (x.0 ∷ []) f.stack) ∙ ap (λ l. l ++ f.stack) (sym (reverse-append (x.0 ∷ []) y.0)) in (
              x.0 ∷ y.0,
              ap suc y.1,
              ((under_copied schema sf x.0 m.kind x.1).1, y.2),
              leads_on schema part code m.grown.ops rest.grown.ops f g (with_stack (reverse (x.0 ∷ y.0) ++ f.stack) f) x.2 (subst (λ l. Leads schema part code rest.grown.ops g (with_stack l f)) stack y.3),
            );
      }

  module _ (may : writes part ≡ Ok tt) where
    say_on : (count : ℕ) (f : Frame) (ks : List Kind) → length ks ≡ count → AreSaid ks → say part count (with_stack (reverse ks ++ f.stack) f) ≡ Ok f
    unfolding say enough
    say_on count f ks same said =
        rw (le-ltb (length (reverse ks ++ f.stack)) count (omega (arith, same, height)), may)
        (ap (λ l. rest l (drop count (reverse ks ++ f.stack))) parts.0 ∙ (ap (rest ks) parts.1 ∙ last))
      where
        height : length (reverse ks ++ f.stack) ≡ length ks + length f.stack
        height = pile_count ks f.stack

        parts : (reverse (take count (reverse ks ++ f.stack)) ≡ ks) × (drop count (reverse ks ++ f.stack) ≡ f.stack)
        parts = piled count ks f.stack (sym same)

        rest : List Kind → List Kind → Result Frame CodeFlaw
        rest tops left = each dues.sayable tops >>= λ _. Ok (with_stack left f)

        last : rest ks f.stack ≡ Ok f
        last = ap (λ (r : Result (Unit {0}) CodeFlaw). r >>= λ _. Ok f) (all_said ks said)

    say_gives : (count : ℕ) (f : Frame) (ks : List Kind) → length ks ≡ count → AreSaid ks → Gives schema part code (ops.Say count) (with_stack (reverse ks ++ f.stack) f) f
    unfolding effect in_tables
    say_gives count f ks same said = record { straight = refl; tables = refl; gives = ap on (say_on count f ks same said) }

  say_does : (es : List ExprTree) (s t : Buffer) → (Clean s → writes part ≡ Ok tt) → say_code schema es s ≡ Ok t → Clean t → Has code t → Does schema sf part code small false s t
  unfolding say_code grown_on grown_op
  say_does es s t may h clean has =
      let one = bind_ok (values_code schema STACK_LIMIT es s) (λ u. cond (nat_lt SAID_LIMIT (length es)) (Ok (noted Limit u)) (put (ops.Say (length es)) u)) t h in
      by_few one.0 (nat_lt SAID_LIMIT (length es)) one.1 one.2
    where
      by_few : (u : Buffer) (many : Bool) → values_code schema STACK_LIMIT es s ≡ Ok u → (let r : Result Buffer CompileFault = cond many (Ok (noted Limit u)) (put (ops.Say (length es)) u) in r) ≡ Ok t → Does schema sf part code small false s t
      by_few u true code_is h = never_noted Limit u (ap (λ (x : Buffer). x.flaw) (same_ok (noted Limit u) t h) ∙ clean)
      by_few u false code_is h =
          let op = ops.Say (length es) in
          let put_is = put_ok op u t h in
          let m = values_lay es STACK_LIMIT s u code_is (clean_before op u t put_is clean) (has_before code u t (grown_op op u t put_is) has) in
          record {
            grown = grown_on s u t m.grown (grown_op op u t put_is);
            clean = m.clean;
            same = ap marks put_is ∙ marks_same s u m.same;
            locals = let e : t.locals ≡ s.locals = ap (λ (x : Buffer). x.locals) put_is ∙ ap (λ (x : Buffer). x.locals) m.same in omega (arith, e);
            right = λ no. absurd cc;
            moves = moves_same schema sf s t (ap (λ (x : Buffer). x.scope) put_is ∙ ap (λ (x : Buffer). x.scope) m.same) (ap (λ (x : Buffer). x.locals) put_is ∙ ap (λ (x : Buffer). x.locals) m.same);
            some = last_some m.grown.ops op;
            leads = λ few f stands.
                let x = m.leads f stands.1 (all_room schema sf part code small f stands.0) in
                let end : Leads schema part code (op ∷ []) (with_stack (reverse x.0 ++ f.stack) f) f = (f, say_gives (may m.clean) (length es) f x.0 x.1 x.2, refl) in
                (f, (stands.0, known_same schema sf part code f s t (bare_op op u t put_is ∙ m.same) stands.1), leads_on schema part code m.grown.ops (op ∷ []) f (with_stack (reverse x.0 ++ f.stack) f) f x.3 end);
          }

  -- ---- ends

  end_does : (e : ExprTree) (wanted : Kind) (op : Op) (s t : Buffer) → is_ok (ends_done part) ≡ false → end_code schema e wanted op s ≡ Ok t → Clean t → Has code t
      → ((f : Frame) (k : Kind) → dues.due wanted k ≡ Ok tt → Ends schema part code op (with_stack (k ∷ f.stack) f)) → Does schema sf part code small true s t
  unfolding end_code grown_on grown_op
  end_does e wanted op s t other h clean has gives =
      let one = bind_ok (expr_code schema STACK_LIMIT e s) (λ p. put op (due p.0 wanted p.1)) t h in
      let u = one.0.1 in
      let noted_put = put_ok op (due one.0.0 wanted u) t one.2 in
      let due_clean = clean_before op (due one.0.0 wanted u) t noted_put clean in
      let put_is : t ≡ with_op op u = noted_put ∙ ap (with_op op) (buffers.is_due one.0.0 wanted u due_clean) in
      let m = expr_lays schema sf part code small e STACK_LIMIT s u one.0.0 one.1 (clean_before op u t put_is clean) (has_before code u t (grown_op op u t put_is) has) in
      let same = due_kind m.kind wanted u (subst (λ o. Clean (due o wanted u)) m.made_is due_clean) in
      record {
        grown = grown_on s u t m.grown (grown_op op u t put_is);
        clean = m.clean;
        same = ap marks put_is ∙ marks_same s u m.same;
        locals = let e : t.locals ≡ s.locals = ap (λ (x : Buffer). x.locals) put_is ∙ ap (λ (x : Buffer). x.locals) m.same in omega (arith, e);
        right = λ yes_it_is. other;
        moves = moves_same schema sf s t (ap (λ (x : Buffer). x.scope) put_is ∙ ap (λ (x : Buffer). x.scope) m.same) (ap (λ (x : Buffer). x.locals) put_is ∙ ap (λ (x : Buffer). x.locals) m.same);
        some = last_some m.grown.ops op;
        leads = λ few f stands.
            let x = m.leads f stands.1 (all_room schema sf part code small f stands.0) in
            runs_on schema part code m.grown.ops (op ∷ []) f (with_stack (x.0 ∷ f.stack) f) x.2 (inl (gives f x.0 (is_due schema sf x.0 m.kind wanted x.1 same), refl));
      }

  rate_ends : (f : Frame) (k : Kind) → ends_rated part ≡ Ok tt → dues.due kinds.Int k ≡ Ok tt → Ends schema part code ops.Rate (with_stack (k ∷ f.stack) f)
  unfolding effect in_tables rate pop
  rate_ends f k may right = record {
    straight = refl;
    tables = refl;
    ends = ap (λ (r : Result (Unit {0}) CodeFlaw). r >>= λ _. ends_rated part >>= λ _. Ok nothing_follows) right ∙ ap (λ (r : Result (Unit {0}) CodeFlaw). r >>= λ _. Ok nothing_follows) may;
  }

  answer_ends : (f : Frame) (k : Kind) → ends_answered part ≡ Ok tt → dues.due kinds.Bool k ≡ Ok tt → Ends schema part code ops.Answer (with_stack (k ∷ f.stack) f)
  unfolding effect in_tables answer pop
  answer_ends f k may right = record {
    straight = refl;
    tables = refl;
    ends = ap (λ (r : Result (Unit {0}) CodeFlaw). r >>= λ _. ends_answered part >>= λ _. Ok nothing_follows) right ∙ ap (λ (r : Result (Unit {0}) CodeFlaw). r >>= λ _. Ok nothing_follows) may;
  }

  decline_ends : (f : Frame) → ends_rated part ≡ Ok tt → Ends schema part code ops.Decline f
  unfolding effect in_tables decline
  decline_ends f may = record { straight = refl; tables = refl; ends = ap (λ (r : Result (Unit {0}) CodeFlaw). r >>= λ _. Ok nothing_follows) may }

  decline_does : (s t : Buffer) → ends_rated part ≡ Ok tt → is_ok (ends_done part) ≡ false → put ops.Decline s ≡ Ok t → Clean t → Does schema sf part code small true s t
  unfolding grown_op
  decline_does s t may other h clean =
      let put_is = put_ok ops.Decline s t h in
      record {
        grown = grown_op ops.Decline s t put_is;
        clean = clean_before ops.Decline s t put_is clean;
        same = ap marks put_is;
        locals = let e : t.locals ≡ s.locals = ap (λ (x : Buffer). x.locals) put_is in omega (arith, e);
        right = λ yes_it_is. other;
        moves = moves_same schema sf s t (ap (λ (x : Buffer). x.scope) put_is) (ap (λ (x : Buffer). x.locals) put_is);
        some = omega arith;
        leads = λ few f stands. inl (decline_ends f may, refl);
      }

  -- ---- all of them

  -- a change that a part may not make is a flaw
  change_does : (s t : Buffer) → ((Clean (effect_noted part s) → writes part ≡ Ok tt) → Does schema sf part code small false (effect_noted part s) t) → Does schema sf part code small false s t
  change_does s t does =
      let d = does (λ clean. may_write part (passed (is_ok (writes part)) Effect s clean).0) in
      subst (λ u. Does schema sf part code small false u t) (passed (is_ok (writes part)) Effect s d.clean).1 d

  -- an end that a part does not have is a flaw
  end_right : (right : Bool) (e : ExprTree) (wanted : Kind) (op : Op) (s t : Buffer) → end_code schema e wanted op (end_noted right s) ≡ Ok t → Clean t → Has code t → (right ≡ true) × (end_noted right s ≡ s)
  unfolding end_code
  end_right right e wanted op s t h clean has =
      let was = end_noted right s in
      let one = bind_ok (expr_code schema STACK_LIMIT e was) (λ p. put op (due p.0 wanted p.1)) t h in
      let u = one.0.1 in
      let noted_put = put_ok op (due one.0.0 wanted u) t one.2 in
      let due_clean = clean_before op (due one.0.0 wanted u) t noted_put clean in
      let put_is : t ≡ with_op op u = noted_put ∙ ap (with_op op) (buffers.is_due one.0.0 wanted u due_clean) in
      let m = expr_lays schema sf part code small e STACK_LIMIT was u one.0.0 one.1 (clean_before op u t put_is clean) (has_before code u t (grown_op op u t put_is) has) in
      passed right NoEnd s m.clean

  pub action_does : (a : Action) (s t : Buffer) → action_code schema part a s ≡ Ok t → Clean t → Has code t → Does schema sf part code small (ends a) s t
  unfolding action_code
  action_does (actions.Let name value) s t h clean has = let_does schema sf part code small name value s t h clean has
  action_does (actions.Assign name value) s t h clean has = assign_does schema sf part code small name value s t h clean has
  action_does (actions.Rate value) s t h clean has =
      let right = end_right (is_ok (ends_rated part)) value kinds.Int ops.Rate s t h clean has in
      let may = may_rate part right.0 in
      end_does value kinds.Int ops.Rate s t may.1 (ap (end_code schema value kinds.Int ops.Rate) (sym right.1) ∙ h) clean has (λ f k fits. rate_ends f k may.0 fits)
  action_does actions.Decline s t h clean has =
      let was = end_noted (is_ok (ends_rated part)) s in
      let right = passed (is_ok (ends_rated part)) NoEnd s (clean_before ops.Decline was t (put_ok ops.Decline was t h) clean) in
      let may = may_rate part right.0 in
      decline_does s t may.0 may.1 (ap (put ops.Decline) (sym right.1) ∙ h) clean
  action_does (actions.Answer value) s t h clean has =
      let right = end_right (is_ok (ends_answered part)) value kinds.Bool ops.Answer s t h clean has in
      let may = may_answer part right.0 in
      end_does value kinds.Bool ops.Answer s t may.1 (ap (end_code schema value kinds.Bool ops.Answer) (sym right.1) ∙ h) clean has (λ f k fits. answer_ends f k may.0 fits)
  action_does (actions.New name class) s t h clean has = change_does s t (λ may. new_does schema sf part code small name class (effect_noted part s) t may h clean has)
  action_does (actions.Set unit slot value) s t h clean has = change_does s t (λ may. set_does schema sf part code small unit slot value (effect_noted part s) t may h clean has)
  action_does (actions.Link unit slot other) s t h clean has = change_does s t (λ may. relink_does schema sf part code small changes.Link unit slot other (effect_noted part s) t may h clean)
  action_does (actions.Unlink unit slot other) s t h clean has = change_does s t (λ may. relink_does schema sf part code small changes.Unlink unit slot other (effect_noted part s) t may h clean)
  action_does (actions.Enter unit space) s t h clean has = change_does s t (λ may. enter_does schema sf part code small unit space (effect_noted part s) t may h clean)
  action_does (actions.Leave unit space) s t h clean has = change_does s t (λ may. leave_does schema sf part code small unit space (effect_noted part s) t may h clean)
  action_does (actions.Delete unit) s t h clean has = change_does s t (λ may. delete_does schema sf part code small unit (effect_noted part s) t may h clean)
  action_does (actions.Say values) s t h clean has = change_does s t (λ may. say_does values (effect_noted part s) t may h clean has)
