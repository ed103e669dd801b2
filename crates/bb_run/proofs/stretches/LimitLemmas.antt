-- A longer limit lets a run go on, and changes nothing before.
use Rattle.std.proofs.Common.{◌≡◌, ◌⊎◌, inl, inr, ℕ, zero, suc, ◌+◌, List, [], ◌∷◌, ◌++◌, Option, Some, None, refl, sym, ap, subst, ◌∙◌, append_assoc, arith}
use Rattle.std.proofs.lemmas.List.{append-nil}
use Rattle.bb_agenda.specs.declared.focusing.activation.Activation.{Activation}
use Rattle.bb_trace.specs.Board.{Board as Blackboard}
use Rattle.bb_trace.specs.End.{End}
use Rattle.bb_trace.specs.End as finishes
use Rattle.bb_trace.specs.declared.note.Note.{Note}
use Rattle.bb_trace.specs.Native.{Native}
use Rattle.bb_run_plan.specs.Plan.{Plan}
use Rattle.bb_run.specs.State.{State}
use Rattle.bb_run.specs.Emission.{Stretch, over, after_emitted, and_then, and_then_unless}
use Rattle.bb_run.specs.Run.{choice, wait, cycle, if_chosen, cycles, start, finish, finish_segments, with_finish, unfinished, run}
use Rattle.bb_run.specs.Order.{Extends}

-- a stretch and its finish begin a stretch that goes on with it, and its finish; then comes what the next one emits
pub first_emits : (end : Option End) (p : Stretch) (next : State → Stretch) → p.end ≡ end
    → (more : List (List Note)) × (let q = and_then_unless end p next in q.emitted ++ finish_segments q.end q.state.natives ≡ (p.emitted ++ finish_segments p.end p.state.natives) ++ more)
    × (p.end ≡ None → (with_finish (next p.state)).emitted ≡ more)
first_emits (Some e) p next is = ([], sym (append-nil (p.emitted ++ finish_segments p.end p.state.natives)), λ none. absurd (let no : Some e ≡ None = sym is ∙ none in cc))
first_emits None p next is =
    let r = next p.state in
    let first : p.emitted ≡ p.emitted ++ finish_segments p.end p.state.natives = sym (append-nil p.emitted) ∙ ap (λ e. p.emitted ++ finish_segments e p.state.natives) (sym is) in
    (r.emitted ++ finish_segments r.end r.state.natives, append_assoc p.emitted r.emitted (finish_segments r.end r.state.natives) ∙ ap (λ l. l ++ (r.emitted ++ finish_segments r.end r.state.natives)) first, λ none. refl)

module _ (plan : Plan) where
  -- the segments begin with the cycle of what can be chosen in a state, and the finish if the run ends in it
  pub record BeginsByCycle (number : ℕ) (s : State) (segments : List (List Note)) : Type 0 where
    pub chosen : Activation
    pub choice_is : choice plan s ≡ Some chosen
    pub more : List (List Note)
    pub begins : let p = cycle plan number chosen s in segments ≡ (p.emitted ++ finish_segments p.end p.state.natives) ++ more
    -- after the cycle the run goes on with others, unless it is over
    pub left : ℕ
    pub goes_on : let p = cycle plan number chosen s in p.end ≡ None → (with_finish (cycles plan number left p.state)).emitted ≡ more

  -- the second stretch is the first, or goes on by a cycle of this number where the first is over by the limit
  abbrev GoesOn : (number : ℕ) → Stretch → Stretch → Type 0
  GoesOn number p q =
      (q ≡ p) ⊎ ((p.end ≡ Some finishes.Limit) × ((rest : List (List Note)) × ((q.emitted ≡ p.emitted ++ rest) × BeginsByCycle number p.state (rest ++ finish_segments q.end q.state.natives))))

  goes_after : (number : ℕ) (emitted : List (List Note)) (p q : Stretch) → GoesOn number p q → GoesOn number (after_emitted emitted p) (after_emitted emitted q)
  goes_after number emitted p q (inl same) = inl (ap (after_emitted emitted) same)
  goes_after number emitted p q (inr more) = inr (more.0, (more.1.0, (ap (λ t. emitted ++ t) more.1.1.0 ∙ sym (append_assoc emitted p.emitted more.1.0), more.1.1.1)))

  goes_then : (number : ℕ) (end : Option End) (p : Stretch) (next later : State → Stretch) → ((s : State) → GoesOn number (next s) (later s)) → GoesOn number (and_then_unless end p next) (and_then_unless end p later)
  goes_then number (Some e) p next later on = inl refl
  goes_then number None p next later on = goes_after number p.emitted (next p.state) (later p.state) (on p.state)

  -- by what can be chosen
  goes_if : (number : ℕ) (s : State) (c : Option Activation) (next later : Activation → Stretch) → ((a : Activation) → c ≡ Some a → GoesOn number (next a) (later a)) → GoesOn number (if_chosen s c next) (if_chosen s c later)
  goes_if number s None next later on = inl refl
  goes_if number s (Some a) next later on = on a refl

  -- what a chosen activation leads to, where `left` cycles are left after it
  abbrev cycle_then : (made left : ℕ) → State → Activation → Stretch
  cycle_then made left t a = and_then (cycle plan (made + 1) a t) (cycles plan (made + 1) left)

  -- how the cycles go on after the wait
  abbrev by_choice : (State → Activation → Stretch) → State → Stretch
  by_choice next t = if_chosen t (choice plan t) (next t)

  abbrev ends_at : State → Activation → Stretch
  ends_at t a = over finishes.Limit t

  -- a cycle more is made where it was the limit
  goes_by_cycle : (made more number : ℕ) (t : State) (a : Activation) → made + 1 ≡ number → choice plan t ≡ Some a → GoesOn number (ends_at t a) (cycle_then made more t a)
  goes_by_cycle made more number t a is chosen =
      let c = cycle plan (made + 1) a t in
      let first = first_emits c.end c (cycles plan (made + 1) more) refl in
      let begins : BeginsByCycle (made + 1) t ((cycle_then made more t a).emitted ++ finish_segments (cycle_then made more t a).end (cycle_then made more t a).state.natives) =
      record { chosen = a; choice_is = chosen; more = first.0; begins = first.1; left = more; goes_on = first.2 } in
      inr (refl, ((cycle_then made more t a).emitted, (refl, subst (λ n. BeginsByCycle n t ((cycle_then made more t a).emitted ++ finish_segments (cycle_then made more t a).end (cycle_then made more t a).state.natives)) is begins)))

  cycles_go_on : (made left more number : ℕ) (s : State) → number ≡ made + left + 1 → GoesOn number (cycles plan made left s) (cycles plan made (left + more) s)
  unfolding cycles
  cycles_go_on made zero zero number s is = inl refl
  cycles_go_on made zero (suc more) number s is =
      let p = wait plan s in
      let count : suc more ≡ 0 + suc more = omega arith in
      let same : made + 1 ≡ number = omega (arith, is) in
      subst (λ n. GoesOn number (cycles plan made 0 s) (cycles plan made n s)) count
      (goes_then number p.end p (by_choice ends_at) (by_choice (cycle_then made more)) (λ t. goes_if number t (choice plan t) (ends_at t) (cycle_then made more t) (λ a chosen. goes_by_cycle made more number t a same chosen)))
  cycles_go_on made (suc left) more number s is =
      let p = wait plan s in
      let count : suc (left + more) ≡ suc left + more = omega arith in
      let same : number ≡ (made + 1) + left + 1 = omega (arith, is) in
      subst (λ n. GoesOn number (cycles plan made (suc left) s) (cycles plan made n s)) count
      (goes_then number p.end p (by_choice (cycle_then made left)) (by_choice (cycle_then made (left + more)))
      (λ t. goes_if number t (choice plan t) (cycle_then made left t) (cycle_then made (left + more) t)
      (λ a chosen. let c = cycle plan (made + 1) a t in goes_then number c.end c (cycles plan (made + 1) left) (cycles plan (made + 1) (left + more)) (λ u. cycles_go_on (made + 1) left more number u same))))

  -- a run with a longer limit is the same, or emits the same up to the finish by the limit, and goes on by a cycle
  abbrev pub GoesFurther : (number : ℕ) → (run longer : Stretch) → Type 0
  GoesFurther number run longer =
      (longer ≡ run) ⊎ ((run.end ≡ Some finishes.Limit) × ((front : List (List Note)) × ((rest : List (List Note)) ×
      ((run.emitted ≡ front ++ finish finishes.Limit run.state.natives ∷ []) × ((longer.emitted ≡ front ++ rest) × BeginsByCycle number run.state rest)))))

  -- a stretch that goes on from another goes further, with the finish of each emitted last
  finishes_on : (number : ℕ) (p q : Stretch) → GoesOn number p q → GoesFurther number (with_finish p) (with_finish q)
  finishes_on number p q (inl same) = inl (ap with_finish same)
  finishes_on number p q (inr more) =
      inr (
        more.0,
        (
          p.emitted,
          (
            more.1.0 ++ finish_segments q.end q.state.natives,
            (
              ap (λ e. p.emitted ++ finish_segments e p.state.natives) more.0,
              (ap (λ t. t ++ finish_segments q.end q.state.natives) more.1.1.0 ∙ append_assoc p.emitted more.1.0 (finish_segments q.end q.state.natives), more.1.1.1),
            ),
          ),
        ),
      )

  pub run_goes_further : (board : Blackboard) (natives : List Native) (limit more : ℕ) → GoesFurther (limit + 1) (run plan board natives limit) (run plan board natives (limit + more))
  run_goes_further board natives limit more =
      let p = start plan board natives in
      let count : limit + 1 ≡ 0 + limit + 1 = omega arith in
      finishes_on (limit + 1) (unfinished plan board natives limit) (unfinished plan board natives (limit + more))
      (goes_then (limit + 1) p.end p (cycles plan 0 limit) (cycles plan 0 (limit + more)) (λ s. cycles_go_on 0 limit more (limit + 1) s count))

  extends_by : (number : ℕ) (p q : Stretch) → GoesFurther number p q → Extends p q
  extends_by number p q (inl same) = inl same
  extends_by number p q (inr more) = inr (more.0, (more.1.0, (more.1.1.0, (more.1.1.1.0, more.1.1.1.1.0))))

  pub run_extends : (board : Blackboard) (natives : List Native) (limit more : ℕ) → Extends (run plan board natives limit) (run plan board natives (limit + more))
  run_extends board natives limit more = extends_by (limit + 1) (run plan board natives limit) (run plan board natives (limit + more)) (run_goes_further board natives limit more)
