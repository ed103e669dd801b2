-- Moves one after another: what was emitted so far, and then what the moves that are left emit.
use Rattle.std.proofs.Common.{◌≡◌, ℕ, List, [], ◌∷◌, ◌++◌, Option, Some, None, Result, Ok, Err, refl, sym, ap, subst, ◌∙◌, append_assoc}
use Rattle.std.specs.Io.KnownBytes.{Appends}
use Rattle.std.proofs.lemmas.List.{append-nil}
use Rattle.std.proofs.lemmas.List.Concat.{flat_map-append}
use Rattle.bb_shell.specs.Emitting.{WroteUntil}
use Rattle.bb_shell.specs.Halt.{Halt}
use Rattle.bb_shell.specs.Halt.TheVariants as halts
use Rattle.bb_run_held.specs.Making.{Begins, Makes}
use Rattle.bb_run_held.specs.Moves.{Move, Moved, Standing, moved, played}
use Rattle.bb_shell.specs.Note.{Note}
use Rattle.bb_run_held.specs.declared.pause.Pause.{Pause}
use Rattle.bb_shell.specs.Plan.{Plan}
use Rattle.bb_shell.specs.TraceText.{segment_text, trace_text}
use Rattle.bb_moves.specs.Meant.{replayed}

-- ---- what is written

appends_none : (known : Option (List ℕ)) → Appends known known []
appends_none None = tt
appends_none (Some xs) = sym (append-nil xs)

appends_then : (old mid new : Option (List ℕ)) (xs ys : List ℕ) → Appends old mid xs → Appends mid new ys → Appends old new (xs ++ ys)
appends_then None mid new xs ys a b = tt
appends_then (Some o) None new xs ys a b = absurd a
appends_then (Some o) (Some m) None xs ys a b = absurd b
appends_then (Some o) (Some m) (Some n) xs ys a b = b ∙ (ap (λ t. t ++ ys) a ∙ append_assoc o xs ys)

module _ (plan : Plan) where
  text_of_two : (xs ys : List (List Note)) → trace_text plan (xs ++ ys) ≡ trace_text plan xs ++ trace_text plan ys
  text_of_two xs ys = flat_map-append (segment_text plan) xs ys

  module _ (taken mid given : Option (List ℕ)) where
    -- segments that were written, and then others
    wrote_two : (before mine : List (List Note)) → Appends taken mid (trace_text plan before) → Appends mid given (trace_text plan mine) → Appends taken given (trace_text plan (before ++ mine))
    wrote_two before mine a b =
        subst (Appends taken given) (sym (text_of_two before mine)) (appends_then taken mid given (trace_text plan before) (trace_text plan mine) a b)

    -- where a part is cut short, so is the whole, whatever would have come after
    until_after : (before mine after : List (List Note)) (halt : Halt) → Appends taken mid (trace_text plan before) → WroteUntil plan mid given mine halt → WroteUntil plan taken given (before ++ (mine ++ after)) halt
    until_after before mine after halts.Memory a w = record {
      first = before ++ w.first;
      rest = w.rest ++ after;
      all = ap (λ l. before ++ (l ++ after)) w.all ∙ (ap (λ l. before ++ l) (append_assoc w.first w.rest after) ∙ sym (append_assoc before w.first (w.rest ++ after)));
      appended = wrote_two before w.first a w.appended;
    }
    until_after before mine after halts.Write a w =
        let ahead = trace_text plan before in
        let behind = trace_text plan after in
        record {
          front = ahead ++ w.front;
          rest = w.rest ++ behind;
          all = text_of_two before (mine ++ after)
              ∙ (ap (λ l. ahead ++ l) (text_of_two mine after ∙ (ap (λ l. l ++ behind) w.all ∙ append_assoc w.front w.rest behind))
              ∙ sym (append_assoc ahead w.front (w.rest ++ behind)));
          appended = appends_then taken mid given ahead w.front a w.appended;
        }

-- ---- moves

-- what was emitted so far was written, and with what the moves that are left emit it is the whole
pub record IsPlayed (plan : Plan) (whole : Moved) (moves : List Move) (t : Standing) (taken given : Option (List ℕ)) : Type 0 where
  pub emitted : List (List Note)
  pub appended : Appends taken given (trace_text plan emitted)
  pub emitted_is : emitted ++ (played plan moves t).emitted ≡ whole.emitted
  pub standing_is : (played plan moves t).standing ≡ whole.standing

pub none_played : (plan : Plan) (moves : List Move) (t : Standing) (taken : Option (List ℕ)) → IsPlayed plan (played plan moves t) moves t taken taken
none_played plan moves t taken = record { emitted = []; appended = appends_none taken; emitted_is = refl; standing_is = refl }

module _ (plan : Plan) (whole : Moved) (m : Move) (ms all : List Move) (t : Standing) (taken mid given : Option (List ℕ)) (is : all ≡ m ∷ ms) (so_far : IsPlayed plan whole all t taken mid) where
  -- the first move, and then the others
  emits_first : (played plan all t).emitted ≡ (moved plan m t).emitted ++ (played plan ms (moved plan m t).standing).emitted
  unfolding played
  emits_first = ap (λ l. (played plan l t).emitted) is

  stands_first : (played plan all t).standing ≡ (played plan ms (moved plan m t).standing).standing
  unfolding played
  stands_first = ap (λ l. (played plan l t).standing) is

  whole_is : so_far.emitted ++ ((moved plan m t).emitted ++ (played plan ms (moved plan m t).standing).emitted) ≡ whole.emitted
  whole_is = ap (λ l. so_far.emitted ++ l) (sym emits_first) ∙ so_far.emitted_is

  -- a move more was made
  pub one_played : (u : Standing) (pause : Pause) → Makes plan (moved plan m t) u mid given (Ok pause) → IsPlayed plan whole ms u taken given
  one_played u pause made =
      let p = moved plan m t in
      subst (λ x. IsPlayed plan whole ms x taken given) (sym made.0) (record {
        emitted = so_far.emitted ++ p.emitted;
        appended = wrote_two plan taken mid given so_far.emitted p.emitted so_far.appended made.2;
        emitted_is = append_assoc so_far.emitted p.emitted (played plan ms p.standing).emitted ∙ whole_is;
        standing_is = sym stands_first ∙ so_far.standing_is;
      })

  -- a move was cut short
  pub cut_in_one : (u : Standing) (halt : Halt) → Makes plan (moved plan m t) u mid given (Err halt) → WroteUntil plan taken given whole.emitted halt
  cut_in_one u halt made =
      let p = moved plan m t in
      subst (λ l. WroteUntil plan taken given l halt) whole_is
      (until_after plan taken mid given so_far.emitted p.emitted (played plan ms p.standing).emitted halt so_far.appended made)

-- no move is left
pub all_played : (plan : Plan) (whole : Moved) (moves : List Move) (t : Standing) (taken given : Option (List ℕ)) (pause : Pause) → moves ≡ [] → pause ≡ t.pause → IsPlayed plan whole moves t taken given
    → Makes plan whole t taken given (Ok pause)
unfolding played
all_played plan whole moves t taken given pause none is h =
    let emitted : h.emitted ≡ whole.emitted = sym (append-nil h.emitted) ∙ (ap (λ l. h.emitted ++ (played plan l t).emitted) (sym none) ∙ h.emitted_is) in
    let standing : t ≡ whole.standing = ap (λ l. (played plan l t).standing) (sym none) ∙ h.standing_is in
    (standing, is ∙ ap (λ x. x.pause) standing, subst (λ l. Appends taken given (trace_text plan l)) emitted h.appended)

-- ---- a run from its start

-- where the start is cut short, so is the whole
pub start_cut : (plan : Plan) (start : Moved) (moves : List Move) (taken given : Option (List ℕ)) (halt : Halt) → WroteUntil plan taken given start.emitted halt
    → WroteUntil plan taken given (replayed plan start moves).emitted halt
start_cut plan start moves taken given halt w =
    until_after plan taken taken given [] start.emitted (played plan moves start.standing).emitted halt (appends_none taken) w

-- a start and then moves, where the moves were made or one was cut short
pub then_begun : {X : Type 0} (plan : Plan) (start : Moved) (moves : List Move) (t : Standing) (taken mid given : Option (List ℕ)) (standing : X → Standing) (result : Result X Halt)
    → t ≡ start.standing → Appends taken mid (trace_text plan start.emitted) → Begins plan (played plan moves t) standing mid given result
    → Begins plan (replayed plan start moves) standing taken given result
then_begun plan start moves t taken mid given standing (Ok r) is began made =
    let q = played plan moves t in
    let same : q ≡ played plan moves start.standing = ap (played plan moves) is in
    (made.0 ∙ ap (λ x. x.standing) same, subst (λ x. Appends taken given (trace_text plan (start.emitted ++ x.emitted))) same (wrote_two plan taken mid given start.emitted q.emitted began made.1))
then_begun plan start moves t taken mid given standing (Err halt) is began made =
    let q = played plan moves t in
    let same : q ≡ played plan moves start.standing = ap (played plan moves) is in
    let ended : start.emitted ++ (q.emitted ++ []) ≡ start.emitted ++ (played plan moves start.standing).emitted = ap (λ l. start.emitted ++ l) (append-nil q.emitted ∙ ap (λ x. x.emitted) same) in
    subst (λ l. WroteUntil plan taken given l halt) ended (until_after plan taken mid given start.emitted q.emitted [] halt began made)
