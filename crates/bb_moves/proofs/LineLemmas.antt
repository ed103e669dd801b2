-- The loop over the lines of a history: a fault tells how many lines stand before.
use Rattle.std.proofs.Common.{◌≡◌, ◌⊎◌, inl, inr, ℕ, ◌+◌, ◌<◌, get_or, drop, List, length, Result, Ok, Err, sym, ap, ◌∙◌, add-one, arith}
use Rattle.std.proofs.lemmas.List.{nil_from_length}
use Rattle.std.specs.Str.Lines.{lines}
use Rattle.bb_basis.specs.Results.{◌>>=◌, map_err, try_fold_at}
use Rattle.bb_basis.proofs.IntoMapLemmas.{next_one, length_drop_all}
use Rattle.bb_schema.specs.Schema.{Schema}
use Rattle.bb_moves.specs.Faults.{fault_at}
use Rattle.bb_moves.specs.MovesText.{Progress, after_line, at_end, moves_of, nothing_read}
use Rattle.bb_moves.specs.declared.fault.MovesFault.{MovesFault}
use Rattle.bb_moves.specs.declared.fault.MovesFault.TheVariants.{Memory}

module _ (schema : Schema) (text : List ℕ) where
  -- what the lines from this one on leave
  abbrev pub from_line : ℕ → Progress → Result Progress MovesFault
  from_line k p = try_fold_at fault_at (after_line schema) k p (drop k (lines text))

  abbrev pub whole : Result Progress MovesFault
  whole = try_fold_at fault_at (after_line schema) 0 nothing_read (lines text)

  module _ (p : Progress) (k : ℕ) (line : List ℕ) (lt : k < length (lines text)) (is : line ≡ get_or (lines text) k line) where
    -- the line, and then the others
    one : from_line k p ≡ (map_err (fault_at k) (after_line schema p line) >>= from_line (k + 1))
    unfolding try_fold_at
    one =
        ap (try_fold_at fault_at (after_line schema) k p) (next_one (lines text) k line lt is)
        ∙ ap (λ m. map_err (fault_at k) (after_line schema p line) >>= λ next. try_fold_at fault_at (after_line schema) m next (drop (k + 1) (lines text))) (sym (add-one k))

    pub line_next : (t : Progress) (n : ℕ) → n ≡ k + 1 → map_err (fault_at k) (after_line schema p line) ≡ Ok t → from_line k p ≡ whole → from_line n t ≡ whole
    line_next t n more read so_far =
        ap (λ m. from_line m t) more ∙ (sym (one ∙ ap (λ r. r >>= from_line (k + 1)) read) ∙ so_far)

    -- a fault in a line is the fault of the history
    pub line_error : (e : MovesFault) → (e ≡ Memory) ⊎ (map_err (fault_at k) (after_line schema p line) ≡ Err e) → from_line k p ≡ whole → (e ≡ Memory) ⊎ (moves_of schema text ≡ Err e)
    unfolding moves_of
    line_error e (inl memory) so_far = inl memory
    line_error e (inr failed) so_far =
        inr (ap (λ r. r >>= at_end (length (lines text))) (sym so_far ∙ (one ∙ ap (λ r. r >>= from_line (k + 1)) failed)))

  -- at the end of the text
  pub lines_end : (p : Progress) (k : ℕ) → k ≡ length (lines text) → from_line k p ≡ whole → moves_of schema text ≡ at_end k p
  unfolding moves_of try_fold_at
  lines_end p k last so_far =
      let ended : whole ≡ Ok p =
      sym so_far ∙ ap (try_fold_at fault_at (after_line schema) k p) (nil_from_length (drop k (lines text)) (length_drop_all (lines text) k (omega arith))) in
      ap (λ r. r >>= at_end (length (lines text))) ended ∙ ap (λ n. at_end n p) (sym last)
