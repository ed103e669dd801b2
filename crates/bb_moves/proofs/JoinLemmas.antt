-- Two histories, one after the other: what the lines of the second leave does not depend on the moves before.
use Rattle.std.proofs.Common.{◌≡◌, inl, inr, ℕ, suc, Bool, true, false, cond, List, [], ◌∷◌, ◌++◌, length, Option, Some, None, Result, Ok, Err, refl, sym, ap, ◌∙◌, append_assoc, append-nil}
use Rattle.std.specs.Str.{trim}
use Rattle.std.specs.Str.Lines.{lines}
use Rattle.bb_basis.specs.Results.{◌>>=◌, map_err, ok_or, try_fold, try_fold_at}
use Rattle.bb_basis.proofs.PlacedLemmas.{bind_fold}
use Rattle.bb_basis.proofs.ResultLemmas.{bind_ok, same_ok}
use Rattle.bb_schema.specs.Schema.{Schema}
use Rattle.bb_run_held.specs.Moves.{Move, one_turn, advance}
use Rattle.bb_moves.specs.Asks.{ask_of}
use Rattle.bb_moves.specs.Faults.{fault_at}
use Rattle.bb_moves.specs.Keywords.{keyword_of}
use Rattle.bb_moves.specs.MovesText.{Asks, Progress, after_ask, after_line, after_move, after_words, all_ended, at_end, inside, move_of, moves_of, nothing_read, outside, says_nothing, with_move}
use Rattle.bb_moves.specs.Words.{behind, count_of, first, nothing_in}
use Rattle.bb_moves.specs.Written.{IsEnded}
use Rattle.bb_moves.specs.declared.fault.MovesFlaw.TheVariants.{Word}
use Rattle.bb_moves.specs.declared.fault.Slip.{Slip}
use Rattle.bb_moves.specs.declared.fault.Slip.TheVariants.{Flaw}
use Rattle.bb_moves.specs.declared.keyword.Keyword.{Keyword}
use Rattle.bb_moves.specs.declared.keyword.Keyword.TheVariants as keywords
use Rattle.bb_moves.proofs.CutLemmas.{lines_join}

-- ---- folds

pub fold_then : {S A E : Type 0} (f : S → A → Result S E) (s t : S) (xs ys : List A) → try_fold f s xs ≡ Ok t → try_fold f s (xs ++ ys) ≡ try_fold f t ys
unfolding try_fold
fold_then f s t [] ys h = ap (λ u. try_fold f u ys) (same_ok s t h)
fold_then f s t (x ∷ xs) ys h =
    let p = bind_ok (f s x) (λ u. try_fold f u xs) t h in
    ap (λ r. r >>= λ u. try_fold f u (xs ++ ys)) p.1 ∙ fold_then f p.0 t xs ys p.2

pub fold_placed : {S A E F : Type 0} (at : ℕ → E → F) (f : S → A → Result S E) (n : ℕ) (s t : S) (xs : List A) → try_fold f s xs ≡ Ok t → try_fold_at at f n s xs ≡ Ok t
unfolding try_fold try_fold_at
fold_placed at f n s t [] h = ap Ok (same_ok s t h)
fold_placed at f n s t (x ∷ xs) h =
    let p = bind_ok (f s x) (λ u. try_fold f u xs) t h in
    ap (λ r. map_err (at n) r >>= λ u. try_fold_at at f (suc n) u xs) p.1 ∙ fold_placed at f (suc n) p.0 t xs p.2

abbrev pub progress : List Move → Option Asks → Progress
progress ms g = record { moves = ms; gathered = g }

-- ---- what was read with moves before

module _ (ms : List Move) where
  abbrev pub after : Progress → Progress
  after p = progress (ms ++ p.moves) p.gathered

  abbrev map_after : Result Progress Slip → Result Progress Slip
  map_after (Ok p) = Ok (after p)
  map_after (Err e) = Err e

  moved : (p : Progress) (m : Move) → with_move (after p) m ≡ after (with_move p m)
  moved p m = ap (λ l. progress l p.gathered) (append_assoc ms p.moves (m ∷ []))

  then_same : {X : Type 0} (r : Result X Slip) (f g : X → Progress) → ((x : X) → f x ≡ after (g x)) → (r >>= λ x. Ok (f x)) ≡ map_after (r >>= λ x. Ok (g x))
  then_same (Ok x) f g same = ap Ok (same x)
  then_same (Err e) f g same = refl

  move_after : (p : Progress) (k : Keyword) (text : List ℕ) → after_move (after p) k text ≡ map_after (after_move p k text)
  unfolding after_move
  move_after p keywords.Turn text = then_same (nothing_in text) _ _ (λ _. moved p one_turn)
  move_after p (keywords.Advance) text = then_same (count_of text) _ _ (λ n. moved p (advance n))
  move_after p (keywords.Gather gathering) text = then_same (nothing_in text) _ _ (λ _. refl)
  move_after p keywords.End text = refl
  move_after p (keywords.Ask word) text = refl

  outside_by : (p : Progress) (k : Option Keyword) (text : List ℕ) → (ok_or k (Flaw Word) >>= λ x. after_move (after p) x text) ≡ map_after (ok_or k (Flaw Word) >>= λ x. after_move p x text)
  outside_by p None text = refl
  outside_by p (Some k) text = move_after p k text

  module _ (s : Schema) where
    ask_after : (p : Progress) (g : Asks) (k : Keyword) (text : List ℕ) → after_ask s (after p) g k text ≡ map_after (after_ask s p g k text)
    ask_after p g (keywords.Ask word) text = then_same (ask_of s word text) _ _ (λ ask. refl)
    ask_after p g keywords.End text = then_same (nothing_in text) _ _ (λ _. moved p (move_of g))
    ask_after p g keywords.Turn text = refl
    ask_after p g keywords.Advance text = refl
    ask_after p g (keywords.Gather gathering) text = refl

    inside_by : (p : Progress) (g : Asks) (k : Option Keyword) (text : List ℕ) → (ok_or k (Flaw Word) >>= λ x. after_ask s (after p) g x text) ≡ map_after (ok_or k (Flaw Word) >>= λ x. after_ask s p g x text)
    inside_by p g None text = refl
    inside_by p g (Some k) text = ask_after p g k text

    words_after : (p : Progress) (gathered : Option Asks) (line : List ℕ) → after_words s (after p) gathered line ≡ map_after (after_words s p gathered line)
    unfolding inside outside
    words_after p None line = outside_by p (keyword_of (first line)) (behind line)
    words_after p (Some g) line = inside_by p g (keyword_of (first line)) (behind line)

    line_by : (p : Progress) (line : List ℕ) (b : Bool)
        → cond b (Ok (after p)) (after_words s (after (progress p.moves None)) p.gathered line) ≡ map_after (cond b (Ok p) (after_words s (progress p.moves None) p.gathered line))
    line_by p line true = refl
    line_by p line false = words_after (progress p.moves None) p.gathered line

    line_after : (p : Progress) (line : List ℕ) → after_line s (after p) line ≡ map_after (after_line s p line)
    unfolding after_line
    line_after p line = line_by p (trim line) (says_nothing (trim line))

    pub lines_after : (p q : Progress) (ls : List (List ℕ)) → try_fold (after_line s) p ls ≡ Ok q → try_fold (after_line s) (after p) ls ≡ Ok (after q)
    unfolding try_fold
    lines_after p q [] h = ap (λ r. Ok (after r)) (same_ok p q h)
    lines_after p q (l ∷ ls) h =
        let t = bind_ok (after_line s p l) (λ u. try_fold (after_line s) u ls) q h in
        ap (λ r. r >>= λ u. try_fold (after_line s) u ls) (line_after p l ∙ ap map_after t.1) ∙ lines_after t.0 q ls t.2

-- ---- a whole history

-- these moves were read, and no asks are gathered
abbrev pub all_read : List Move → Progress
all_read ms = progress ms None

ended_by : (n : ℕ) (moves ms : List Move) (gathered : Option Asks) → all_ended n moves gathered ≡ Ok ms → progress moves gathered ≡ all_read ms
ended_by n moves ms None h = ap all_read (same_ok moves ms h)
ended_by n moves ms (Some g) h = absurd cc

module _ (s : Schema) where
  pub read_by_lines : (text : List ℕ) (ms : List Move) → moves_of s text ≡ Ok ms → try_fold (after_line s) nothing_read (lines text) ≡ Ok (all_read ms)
  unfolding moves_of
  read_by_lines text ms h =
      let n = length (lines text) in
      let t = bind_fold fault_at (after_line s) 0 nothing_read (lines text) (at_end n) ms h in
      t.1 ∙ ap Ok (ended_by n t.0.moves ms t.0.gathered t.2)

  pub lines_by_read : (text : List ℕ) (ms : List Move) → try_fold (after_line s) nothing_read (lines text) ≡ Ok (all_read ms) → moves_of s text ≡ Ok ms
  unfolding moves_of
  lines_by_read text ms h = ap (λ r. r >>= at_end (length (lines text))) (fold_placed fault_at (after_line s) 0 nothing_read (all_read ms) (lines text) h)

  lines_joined : (a b : List ℕ) → IsEnded a → lines (a ++ b) ≡ lines a ++ lines b
  lines_joined a b (inl none) = ap (λ l. lines (l ++ b)) none ∙ ap (λ l. lines l ++ lines b) (sym none)
  lines_joined a b (inr ends) = ap (λ l. lines (l ++ b)) ends.1 ∙ (lines_join ends.0 b ∙ ap (λ l. lines l ++ lines b) (sym ends.1))

  pub read_together : (a b : List ℕ) (ms ns : List Move) → IsEnded a → moves_of s a ≡ Ok ms → moves_of s b ≡ Ok ns → moves_of s (a ++ b) ≡ Ok (ms ++ ns)
  read_together a b ms ns ends one two =
      let more = lines_after ms s nothing_read (all_read ns) (lines b) (read_by_lines b ns two) in
      let from : after ms nothing_read ≡ all_read ms = ap all_read (append-nil ms) in
      lines_by_read (a ++ b) (ms ++ ns)
      (ap (try_fold (after_line s) nothing_read) (lines_joined a b ends)
      ∙ (fold_then (after_line s) nothing_read (all_read ms) (lines a) (lines b) (read_by_lines a ms one)
      ∙ (ap (λ p. try_fold (after_line s) p (lines b)) (sym from) ∙ more)))
