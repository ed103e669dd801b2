-- Cycles that are made in one move are those of some number of turns; and what a post emits first.
use Rattle.std.proofs.Common.{◌≡◌, true, ℕ, zero, suc, ◌+◌, List, [], ◌∷◌, ◌++◌, length, replicate, Option, Some, None, refl, sym, ap, subst, ◌∙◌, arith}
use Rattle.std.proofs.lemmas.List.{append-nil}
use Rattle.bb_run.specs.Activation.{Activation}
use Rattle.bb_run.specs.End.{End}
use Rattle.bb_run.specs.End as ends
use Rattle.bb_run.specs.Plan.{Plan}
use Rattle.bb_run.specs.Run.{asked, choice, cycle, cycles, if_chosen, quiet, wait, wait_for}
use Rattle.bb_run.specs.State.{State}
use Rattle.bb_run.specs.Ask.{Ask}
use Rattle.bb_run.specs.Note.{Note}
use Rattle.bb_run.specs.Note.TheVariants.{Posted, PostEnded}
use Rattle.bb_run.specs.Processing.{events_in, processing_all}
use Rattle.bb_run.specs.Emission.{Response, Stretch, after_emitted, and_then, and_then_unless, idle, over, segment}
use Rattle.bb_run.specs.Turns.{choices_of, turn_by}
use Rattle.bb_run.proofs.Laws.{IsEarly, choices_after, cycle_chooses, cycle_early, cycles_again, wait_early, wait_silent}
use Rattle.bb_run_held.specs.Moves.{Moved, Standing, advance, advanced, after, made_by, moved, one_turn, played, post, post_segment, takes_posts, unmoved}
use Rattle.bb_run_held.specs.declared.pause.Pause.{Pause}
use Rattle.bb_run_held.specs.declared.pause.Pause.TheVariants.{Going, Resting, Due, Over}

-- a run that goes on
abbrev going : (made : ℕ) → State → Standing
going made s = record { state = s; made = made; pause = Going }

-- what came before, and then this
abbrev behind : List (List Note) → Moved → Moved
behind emitted m = record { emitted = emitted ++ m.emitted; standing = m.standing }

module _ (plan : Plan) where
  -- some number of turns from there come to this
  abbrev IsTurns : Standing → Moved → Type 0
  IsTurns t m = (k : ℕ) × (played plan (replicate k one_turn) t ≡ m)

  no_turn : (t : Standing) → IsTurns t (unmoved t)
  unfolding played
  no_turn t = (0, refl)

  -- a turn, and then some number of them
  turn_first : (t : Standing) (p m : Moved) → moved plan one_turn t ≡ p → IsTurns p.standing m → IsTurns t (behind p.emitted m)
  unfolding played
  turn_first t p m first (k, later) =
      (suc k, ap (λ x. behind x.emitted (played plan (replicate k one_turn) x.standing)) first ∙ ap (behind p.emitted) later)

  one : (t : Standing) (p : Moved) → moved plan one_turn t ≡ p → IsTurns t p
  one t p first =
      let turns = turn_first t p (unmoved p.standing) first (no_turn p.standing) in
      (turns.0, turns.1 ∙ ap (λ l. record { emitted = l; standing = p.standing }) (append-nil p.emitted))

  -- the cycles of one move come to some number of turns
  abbrev Turned : (n made : ℕ) → State → Type 0
  Turned n made s = IsTurns (going made s) (advanced plan made n s)

  -- the number of cycles that were made is counted on
  renumbered : (t : Standing) (p : Stretch) (k n : ℕ) → k ≡ n → IsTurns t (after k p) → IsTurns t (after n p)
  renumbered t p k n is = subst (λ x. IsTurns t (after x p)) is

  turn_is : (made : ℕ) (s : State) (c : Option Activation) → choice plan s ≡ c → moved plan one_turn (going made s) ≡ after (made_by made c) (turn_by plan made s c)
  turn_is made s c is = ap (λ x. after (made_by made x) (turn_by plan made s x)) is

  -- a cycle, and then those that are left, by how the cycle ended
  cycle_turned : (n made : ℕ) (c : Stretch) (t : Standing) (end : Option End) → c.end ≡ end → IsEarly end → choices_of c ≡ 1 → moved plan one_turn t ≡ after (made + 1) c
      → ((s : State) → Turned n (made + 1) s)
      → (let p = and_then_unless end c (cycles plan (made + 1) n) in IsTurns t (after (made + choices_of p) p))
  cycle_turned n made c t (Some ends.Quiescence) is early counted first rest = absurd early
  cycle_turned n made c t (Some ends.Limit) is early counted first rest = absurd early
  cycle_turned n made c t (Some ends.Full) is early counted first rest =
      renumbered t c (made + 1) (made + choices_of c) (ap (λ k. made + k) (sym counted)) (one t (after (made + 1) c) first)
  cycle_turned n made c t (Some (ends.Due a)) is early counted first rest =
      renumbered t c (made + 1) (made + choices_of c) (ap (λ k. made + k) (sym counted)) (one t (after (made + 1) c) first)
  cycle_turned n made c t (Some (ends.Stuck reason)) is early counted first rest =
      renumbered t c (made + 1) (made + choices_of c) (ap (λ k. made + k) (sym counted)) (one t (after (made + 1) c) first)
  cycle_turned n made c t None is early counted first rest =
      let r = cycles plan (made + 1) n c.state in
      let whole = after_emitted c.emitted r in
      let all : choices_of whole ≡ choices_of c + choices_of r = choices_after c.emitted r in
      let number : (made + 1) + choices_of r ≡ made + choices_of whole = omega (arith, all, counted) in
      let goes : moved plan one_turn t ≡ after (made + 1) (record c { end = None }) =
      first ∙ ap (λ e. after (made + 1) (record c { end = e })) is in
      renumbered t whole ((made + 1) + choices_of r) (made + choices_of whole) number
      (turn_first t (after (made + 1) (record c { end = None })) (advanced plan (made + 1) n c.state) goes (rest c.state))

  -- where an activation can be chosen
  chosen_none : (made : ℕ) (s : State) (a : Activation) → choice plan s ≡ Some a → Turned 0 made s
  chosen_none made s a chosen =
      let again : over ends.Limit s ≡ cycles plan made 0 s = sym (cycles_again plan made 0 s a chosen) in
      let number : made ≡ made + 0 = omega arith in
      subst (λ p. IsTurns (going made s) (after (made + choices_of p) p)) again
      (renumbered (going made s) (over ends.Limit s) made (made + 0) number (no_turn (going made s)))

  chosen_more : (n made : ℕ) (s : State) (a : Activation) → ((number : ℕ) (t : State) → Turned n number t) → choice plan s ≡ Some a → Turned (suc n) made s
  chosen_more n made s a rest chosen =
      let c = cycle plan (made + 1) a s in
      let again : and_then c (cycles plan (made + 1) n) ≡ cycles plan made (suc n) s = sym (cycles_again plan made (suc n) s a chosen) in
      let counted : choices_of c ≡ 1 = ap length (cycle_chooses plan (made + 1) a s) in
      subst (λ p. IsTurns (going made s) (after (made + choices_of p) p)) again
      (cycle_turned n made c (going made s) c.end refl (cycle_early plan (made + 1) a s) counted (turn_is made s (Some a) chosen) (rest (made + 1)))

  -- behind quiescence, by what can be chosen then
  abbrev by_choice : (State → Activation → Stretch) → State → Option Activation → Stretch
  by_choice next t c = if_chosen t c (next t)

  quiet_turned : (n made : ℕ) (w : Stretch) (t : Standing) (next : State → Activation → Stretch) (c : Option Activation) → w.end ≡ None → choices_of w ≡ 0 → choice plan w.state ≡ c
      → moved plan one_turn t ≡ after made (after_emitted w.emitted (if_chosen w.state c (λ a. idle w.state)))
      → ((a : Activation) → c ≡ Some a → next w.state a ≡ cycles plan made n w.state)
      → ((a : Activation) → c ≡ Some a → Turned n made w.state)
      → (let p = after_emitted w.emitted (by_choice next w.state c) in IsTurns t (after (made + choices_of p) p))
  quiet_turned n made w t next None is silent chosen first goes rest =
      let p = after_emitted w.emitted (over ends.Quiescence w.state) in
      let all : choices_of p ≡ choices_of w + 0 = choices_after w.emitted (over ends.Quiescence w.state) in
      let number : made ≡ made + choices_of p = omega (arith, all, silent) in
      renumbered t p made (made + choices_of p) number (one t (after made p) first)
  quiet_turned n made w t next (Some a) is silent chosen first goes rest =
      let r = cycles plan made n w.state in
      let p = after_emitted w.emitted r in
      let all : choices_of p ≡ choices_of w + choices_of r = choices_after w.emitted r in
      let number : made + choices_of r ≡ made + choices_of p = omega (arith, all, silent) in
      let here : moved plan one_turn t ≡ after made (after_emitted w.emitted (idle w.state)) = first in
      let plain : moved plan one_turn t ≡ record { emitted = w.emitted; standing = going made w.state } =
      here ∙ ap (λ l. record { emitted = l; standing = going made w.state }) (append-nil w.emitted) in
      subst (λ x. let q = after_emitted w.emitted x in IsTurns t (after (made + choices_of q) q)) (sym (goes a refl))
      (renumbered t p (made + choices_of r) (made + choices_of p) number
      (turn_first t (record { emitted = w.emitted; standing = going made w.state }) (advanced plan made n w.state) plain (rest a refl)))

  -- where none can be chosen quiescence comes first, by how it ended
  quiet_by : (n made : ℕ) (w : Stretch) (t : Standing) (next : State → Activation → Stretch) (end : Option End) → w.end ≡ end → IsEarly end → choices_of w ≡ 0
      → moved plan one_turn t ≡ after made (and_then_unless end w (λ u. if_chosen u (choice plan u) (λ a. idle u)))
      → ((u : State) (a : Activation) → choice plan u ≡ Some a → next u a ≡ cycles plan made n u)
      → ((u : State) (a : Activation) → choice plan u ≡ Some a → Turned n made u)
      → (let p = and_then_unless end w (λ u. by_choice next u (choice plan u)) in IsTurns t (after (made + choices_of p) p))
  quiet_by n made w t next (Some ends.Quiescence) is early silent first goes rest = absurd early
  quiet_by n made w t next (Some ends.Limit) is early silent first goes rest = absurd early
  quiet_by n made w t next (Some ends.Full) is early silent first goes rest =
      let number : made ≡ made + choices_of w = omega (arith, silent) in
      renumbered t w made (made + choices_of w) number (one t (after made w) first)
  quiet_by n made w t next (Some (ends.Due a)) is early silent first goes rest =
      let number : made ≡ made + choices_of w = omega (arith, silent) in
      renumbered t w made (made + choices_of w) number (one t (after made w) first)
  quiet_by n made w t next (Some (ends.Stuck reason)) is early silent first goes rest =
      let number : made ≡ made + choices_of w = omega (arith, silent) in
      renumbered t w made (made + choices_of w) number (one t (after made w) first)
  quiet_by n made w t next None is early silent first goes rest =
      quiet_turned n made w t next (choice plan w.state) is silent refl first (goes w.state) (rest w.state)

  -- what a chosen activation leads to, where so many cycles are left
  abbrev then_left : (made left : ℕ) → State → Activation → Stretch
  then_left made zero t a = over ends.Limit t
  then_left made (suc left) t a = and_then (cycle plan (made + 1) a t) (cycles plan (made + 1) left)

  abbrev waiting : (made left : ℕ) (s : State) → Option Activation → Stretch
  waiting made left s c = and_then (wait_for plan s c) (λ u. by_choice (then_left made left) u (choice plan u))

  cycles_wait : (made left : ℕ) (s : State) → cycles plan made left s ≡ waiting made left s (choice plan s)
  unfolding cycles
  cycles_wait made zero s = refl
  cycles_wait made (suc left) s = refl

  turned_by : (n made : ℕ) (s : State) (c : Option Activation) → choice plan s ≡ c → ((u : State) (a : Activation) → choice plan u ≡ Some a → Turned n made u) → Turned n made s
  turned_by n made s (Some a) is rest = rest s a is
  turned_by n made s None is rest =
      let w = quiet plan s in
      let quiet_is : wait plan s ≡ w = ap (wait_for plan s) is in
      let silent : choices_of w ≡ 0 = ap choices_of (sym quiet_is) ∙ ap length (wait_silent plan s) in
      let early : IsEarly w.end = subst (λ x. IsEarly x.end) quiet_is (wait_early plan s) in
      let again : waiting made n s None ≡ cycles plan made n s = ap (waiting made n s) (sym is) ∙ sym (cycles_wait made n s) in
      subst (λ p. IsTurns (going made s) (after (made + choices_of p) p)) again
      (quiet_by n made w (going made s) (then_left made n) w.end refl early silent (turn_is made s None is)
      (λ u a chosen. sym (cycles_again plan made n u a chosen)) rest)

  is_turned : (n made : ℕ) (s : State) → Turned n made s
  is_turned zero made s = turned_by 0 made s (choice plan s) refl (chosen_none made)
  is_turned (suc n) made s =
      turned_by (suc n) made s (choice plan s) refl (λ u a chosen. chosen_more n made u a (λ number t. is_turned n number t) chosen)

  -- by how the run stands
  turns_by : (t : Standing) (n : ℕ) (pause : Pause) → t.pause ≡ pause → IsTurns t (moved plan (advance n) t)
  turns_by t n Going is = subst (λ x. IsTurns (record t { pause = x }) (moved plan (advance n) (record t { pause = x }))) (sym is) (is_turned n t.made t.state)
  turns_by t n Resting is = subst (λ x. IsTurns (record t { pause = x }) (moved plan (advance n) (record t { pause = x }))) (sym is) (no_turn (record t { pause = Resting }))
  turns_by t n (Due a) is = subst (λ x. IsTurns (record t { pause = x }) (moved plan (advance n) (record t { pause = x }))) (sym is) (no_turn (record t { pause = Due a }))
  turns_by t n (Over end) is = subst (λ x. IsTurns (record t { pause = x }) (moved plan (advance n) (record t { pause = x }))) (sym is) (no_turn (record t { pause = Over end }))

  pub moves_turn : (t : Standing) (n : ℕ) → (k : ℕ) × (played plan (replicate k one_turn) t ≡ moved plan (advance n) t)
  moves_turn t n = turns_by t n t.pause refl

  -- a response is the first segment of what is emitted of it
  reported_first : (r : Response) (end : Option End) → (later : List (List Note)) × ((and_then_unless end (segment r) (processing_all plan (events_in r.emitted))).emitted ≡ r.emitted ∷ later)
  reported_first r (Some e) = ([], refl)
  reported_first r None = ((processing_all plan (events_in r.emitted) r.state).emitted, refl)

  -- by how the run stands
  post_by : (t : Standing) (asks : List Ask) (pause : Pause) → t.pause ≡ pause → takes_posts pause ≡ true → (later : List (List Note)) × ((moved plan (post asks) t).emitted ≡ post_segment asks t.state ∷ later)
  post_by t asks Going is takes =
      let r = after_emitted (Posted ∷ []) (asked PostEnded asks t.state) in
      subst (λ x. (later : List (List Note)) × ((moved plan (post asks) (record t { pause = x })).emitted ≡ post_segment asks t.state ∷ later)) (sym is) (reported_first r r.end)
  post_by t asks Resting is takes =
      let r = after_emitted (Posted ∷ []) (asked PostEnded asks t.state) in
      subst (λ x. (later : List (List Note)) × ((moved plan (post asks) (record t { pause = x })).emitted ≡ post_segment asks t.state ∷ later)) (sym is) (reported_first r r.end)
  post_by t asks (Due a) is takes = absurd cc
  post_by t asks (Over end) is takes = absurd cc

  pub post_first : (t : Standing) (asks : List Ask) → takes_posts t.pause ≡ true → (later : List (List Note)) × ((moved plan (post asks) t).emitted ≡ post_segment asks t.state ∷ later)
  post_first t asks = post_by t asks t.pause refl
