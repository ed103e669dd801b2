-- Moves that are made in two are those that are made in one; and a run is a start, a move and a finish.
use Rattle.std.proofs.Common.{◌≡◌, ◌⊎◌, inl, inr, ℕ, ◌+◌, List, [], ◌∷◌, ◌++◌, Option, Some, None, refl, sym, ap, subst, ◌∙◌, append_assoc, arith}
use Rattle.std.proofs.lemmas.List.{append-nil}
use Rattle.bb_run.specs.Activation.{Activation}
use Rattle.bb_run.specs.Board.{Board as Blackboard}
use Rattle.bb_run.specs.End.{End}
use Rattle.bb_run.specs.End as ends
use Rattle.bb_run.specs.Native.{Native}
use Rattle.bb_run.specs.Plan.{Plan}
use Rattle.bb_run.specs.Run.{choice, cycles, finish_segments, run, start, with_finish}
use Rattle.bb_run.specs.State.{State}
use Rattle.bb_run.specs.Emission.{Stretch, emitting, over, after_emitted, and_then_unless}
use Rattle.bb_run.specs.Turns.{choices_of}
use Rattle.bb_run.proofs.Laws.{IsEarly, IsOver, Meets, choices_after, cycles_again, cycles_meet, start_early}
use Rattle.bb_run_held.specs.Moves.{Moved, Standing, advance, advanced, after, alone, finished, moved, pause_by, played}
use Rattle.bb_run_held.specs.declared.pause.Pause.{Pause}
use Rattle.bb_run_held.specs.declared.pause.Pause.TheVariants.{Going, Resting, Due, Over}

-- one after the other
abbrev both : Moved → (Standing → Moved) → Moved
both p next = let q = next p.standing in record { emitted = p.emitted ++ q.emitted; standing = q.standing }

module _ (plan : Plan) where
  -- where a stretch left the run over, cycles more change nothing
  nothing_more : (made n : ℕ) (p : Stretch) (end : Option End) → p.end ≡ end → IsOver end → both (after made p) (moved plan (advance n)) ≡ after made p
  nothing_more made n p None is over = absurd over
  nothing_more made n p (Some ends.Limit) is over = absurd over
  nothing_more made n p (Some ends.Quiescence) is over =
      subst (λ e. both (after made (record p { end = e })) (moved plan (advance n)) ≡ after made (record p { end = e })) (sym is)
      (ap (λ l. record { emitted = l; standing = record { state = p.state; made = made; pause = Resting } }) (append-nil p.emitted))
  nothing_more made n p (Some ends.Full) is over =
      subst (λ e. both (after made (record p { end = e })) (moved plan (advance n)) ≡ after made (record p { end = e })) (sym is)
      (ap (λ l. record { emitted = l; standing = record { state = p.state; made = made; pause = Over ends.Full } }) (append-nil p.emitted))
  nothing_more made n p (Some (ends.Due a)) is over =
      subst (λ e. both (after made (record p { end = e })) (moved plan (advance n)) ≡ after made (record p { end = e })) (sym is)
      (ap (λ l. record { emitted = l; standing = record { state = p.state; made = made; pause = Due a } }) (append-nil p.emitted))
  nothing_more made n p (Some (ends.Stuck reason)) is over =
      subst (λ e. both (after made (record p { end = e })) (moved plan (advance n)) ≡ after made (record p { end = e })) (sym is)
      (ap (λ l. record { emitted = l; standing = record { state = p.state; made = made; pause = Over (ends.Stuck reason) } }) (append-nil p.emitted))

  -- where it left the run at its limit, they go on
  limit_goes_on : (made n : ℕ) (p : Stretch) → p.end ≡ Some ends.Limit
      → both (after made p) (moved plan (advance n)) ≡ (let q = advanced plan made n p.state in record { emitted = p.emitted ++ q.emitted; standing = q.standing })
  limit_goes_on made n p is =
      subst (λ e. both (after made (record p { end = e })) (moved plan (advance n)) ≡ (let q = advanced plan made n p.state in record { emitted = p.emitted ++ q.emitted; standing = q.standing })) (sym is) refl

  -- the second of two moves, by how the first came out
  two_by : (made m n : ℕ) (s : State) (p q : Stretch) → p ≡ cycles plan made m s → q ≡ cycles plan made (m + n) s → Meets plan m (cycles plan (made + m) n) p q
      → both (after (made + choices_of p) p) (moved plan (advance n)) ≡ after (made + choices_of q) q
  two_by made m n s p q first whole (inl meets) =
      let r = cycles plan (made + m) n p.state in
      let counted : made + choices_of p ≡ made + m = ap (λ k. made + k) meets.1.0 in
      let all : choices_of q ≡ choices_of p + choices_of r = ap choices_of meets.1.1.1 ∙ choices_after p.emitted r in
      let number : (made + m) + choices_of r ≡ made + choices_of q = omega (arith, counted, all) in
      limit_goes_on (made + choices_of p) n p meets.0
      ∙ (ap (λ k. let t = advanced plan k n p.state in record { emitted = p.emitted ++ t.emitted; standing = t.standing }) counted
      ∙ (ap (λ k. record { emitted = p.emitted ++ r.emitted; standing = record { state = r.state; made = k; pause = pause_by r.end } }) number
      ∙ ap (λ x. after (made + choices_of q) x) (sym meets.1.1.1)))
  two_by made m n s p q first whole (inr meets) =
      nothing_more (made + choices_of p) n p p.end refl meets.0 ∙ ap (λ x. after (made + choices_of x) x) (sym meets.1)

  two_going : (t : Standing) (m n : ℕ) → both (advanced plan t.made m t.state) (moved plan (advance n)) ≡ advanced plan t.made (m + n) t.state
  two_going t m n =
      two_by t.made m n t.state (cycles plan t.made m t.state) (cycles plan t.made (m + n) t.state) refl refl (cycles_meet plan t.made m n (t.made + m) t.state refl)

  -- by how the run stands
  two_moves : (t : Standing) (m n : ℕ) (pause : Pause) → t.pause ≡ pause → both (moved plan (advance m) t) (moved plan (advance n)) ≡ moved plan (advance (m + n)) t
  two_moves t m n Going is =
      subst (λ x. both (moved plan (advance m) (record t { pause = x })) (moved plan (advance n)) ≡ moved plan (advance (m + n)) (record t { pause = x })) (sym is) (two_going t m n)
  two_moves t m n Resting is =
      subst (λ x. both (moved plan (advance m) (record t { pause = x })) (moved plan (advance n)) ≡ moved plan (advance (m + n)) (record t { pause = x })) (sym is) refl
  two_moves t m n (Due a) is =
      subst (λ x. both (moved plan (advance m) (record t { pause = x })) (moved plan (advance n)) ≡ moved plan (advance (m + n)) (record t { pause = x })) (sym is) refl
  two_moves t m n (Over end) is =
      subst (λ x. both (moved plan (advance m) (record t { pause = x })) (moved plan (advance n)) ≡ moved plan (advance (m + n)) (record t { pause = x })) (sym is) refl

  pub moves_apart : (t : Standing) (m n : ℕ) → played plan (advance m ∷ advance n ∷ []) t ≡ moved plan (advance (m + n)) t
  unfolding played
  moves_apart t m n =
      let p = moved plan (advance m) t in
      let q = moved plan (advance n) p.standing in
      ap (λ l. record { emitted = p.emitted ++ l; standing = q.standing }) (append-nil q.emitted) ∙ two_moves t m n t.pause refl

  -- ---- a whole run

  -- a run that its host ends after cycles, by how they ended
  ends_by : (made : ℕ) (p : Stretch) (end : Option End) → p.end ≡ end → (IsOver end) ⊎ ((end ≡ Some ends.Limit) × ((a : Activation) × (choice plan p.state ≡ Some a)))
      → after_emitted p.emitted (finished plan (after made p).standing) ≡ with_finish p
  ends_by made p None is (inl over) = absurd over
  ends_by made p None is (inr limit) = absurd (let no : None ≡ Some ends.Limit = limit.0 in cc)
  ends_by made p (Some ends.Quiescence) is how =
      subst (λ e. after_emitted p.emitted (finished plan (after made (record p { end = e })).standing) ≡ with_finish (record p { end = e })) (sym is) refl
  ends_by made p (Some ends.Full) is how =
      subst (λ e. after_emitted p.emitted (finished plan (after made (record p { end = e })).standing) ≡ with_finish (record p { end = e })) (sym is) refl
  ends_by made p (Some (ends.Due a)) is how =
      subst (λ e. after_emitted p.emitted (finished plan (after made (record p { end = e })).standing) ≡ with_finish (record p { end = e })) (sym is) refl
  ends_by made p (Some (ends.Stuck reason)) is how =
      subst (λ e. after_emitted p.emitted (finished plan (after made (record p { end = e })).standing) ≡ with_finish (record p { end = e })) (sym is) refl
  ends_by made p (Some ends.Limit) is (inl over) = absurd over
  ends_by made p (Some ends.Limit) is (inr limit) =
      subst (λ e. after_emitted p.emitted (finished plan (after made (record p { end = e })).standing) ≡ with_finish (record p { end = e })) (sym is)
      (ap (λ x. after_emitted p.emitted (with_finish x)) (cycles_again plan made 0 p.state limit.1.0 limit.1.1))

  -- how cycles end
  cycles_end : (made n : ℕ) (s : State) → let p = cycles plan made n s in (IsOver p.end) ⊎ ((p.end ≡ Some ends.Limit) × ((a : Activation) × (choice plan p.state ≡ Some a)))
  cycles_end made n s =
      elim (cycles_meet plan made n 0 (made + n) s refl) [
        | inl meets ↦ inr (meets.0, meets.1.1.0)
        | inr meets ↦ inl meets.0
      ]

  -- by how the start ended
  alone_by : (p : Stretch) (limit : ℕ) (end : Option End) → p.end ≡ end → IsEarly end
      → (let moves = moved plan (advance limit) (after 0 p).standing in after_emitted p.emitted (after_emitted moves.emitted (finished plan moves.standing)))
      ≡ with_finish (and_then_unless end p (cycles plan 0 limit))
  alone_by p limit None is early =
      let c = cycles plan 0 limit p.state in
      let made = 0 + choices_of c in
      subst (λ e. (let moves = moved plan (advance limit) (after 0 (record p { end = e })).standing in after_emitted p.emitted (after_emitted moves.emitted (finished plan moves.standing)))
      ≡ with_finish (after_emitted p.emitted c)) (sym is)
      (ap (after_emitted p.emitted) (ends_by made c c.end refl (cycles_end 0 limit p.state))
      ∙ ap (λ l. emitting l c.state c.end) (sym (append_assoc p.emitted c.emitted (finish_segments c.end c.state.natives))))
  alone_by p limit (Some ends.Quiescence) is early = absurd early
  alone_by p limit (Some ends.Limit) is early = absurd early
  alone_by p limit (Some ends.Full) is early =
      subst (λ e. (let moves = moved plan (advance limit) (after 0 (record p { end = e })).standing in after_emitted p.emitted (after_emitted moves.emitted (finished plan moves.standing)))
      ≡ with_finish (record p { end = e })) (sym is) refl
  alone_by p limit (Some (ends.Due a)) is early =
      subst (λ e. (let moves = moved plan (advance limit) (after 0 (record p { end = e })).standing in after_emitted p.emitted (after_emitted moves.emitted (finished plan moves.standing)))
      ≡ with_finish (record p { end = e })) (sym is) refl
  alone_by p limit (Some (ends.Stuck reason)) is early =
      subst (λ e. (let moves = moved plan (advance limit) (after 0 (record p { end = e })).standing in after_emitted p.emitted (after_emitted moves.emitted (finished plan moves.standing)))
      ≡ with_finish (record p { end = e })) (sym is) refl

  pub run_alone : (board : Blackboard) (natives : List Native) (limit : ℕ) → alone plan board natives limit ≡ run plan board natives limit
  run_alone board natives limit = let p = start plan board natives in alone_by p limit p.end refl (start_early plan board natives)
