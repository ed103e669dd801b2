-- Notes that may come one after another, by any rule for what may come after what.
use Rattle.std.proofs.Common.{◌≡◌, ◌⊎◌, inl, inr, List, [], ◌∷◌, ◌++◌, map, refl, sym, ap, subst, ◌∙◌, append_assoc}
use Rattle.std.specs.Prelude.{⊤}
use Rattle.std.proofs.lemmas.List.{append-nil}
use Rattle.bb_trace.specs.Closing.{Closing}
use Rattle.bb_trace.specs.End.{End}
use Rattle.bb_trace.specs.declared.note.Note.{Note}
use Rattle.bb_trace.specs.declared.note.Note.TheVariants.{Closed, Finished}

-- a note of a closing
abbrev pub IsClosing : Note → Type 0
IsClosing note = (closing : Closing) × (note ≡ Closed closing)

-- a note that does not come with the finish
abbrev pub ComesBefore : Note → Type 0
ComesBefore (Finished end) = ⊥
ComesBefore (Closed closing) = ⊥
ComesBefore _ = ⊤

same_end : (d e : End) → Finished d ≡ Finished e → d ≡ e
same_end d e is = cc

closing_among : (closings : List Closing) (bs : List Note) (note : Note) (after : List Note) → map Closed closings ≡ bs ++ note ∷ after → IsClosing note
closing_among [] [] note after is = absurd cc
closing_among [] (b ∷ bs) note after is = absurd cc
closing_among (c ∷ cs) [] note after is = (c, let same : Closed c ≡ note = cc in sym same)
closing_among (c ∷ cs) (b ∷ bs) note after is = let rest : map Closed cs ≡ bs ++ note ∷ after = cc in closing_among cs bs note after rest

module _ (May : List Note → Note → Type 0) where
  -- notes to come, each of which may come after those before it
  unfoldable pub Comes : (past notes : List Note) → Type 0
  Comes past [] = ⊤
  Comes past (note ∷ notes) = May past note × Comes (past ++ note ∷ []) notes

  pub comes_none : (past : List Note) → Comes past []
  unfolding Comes
  comes_none past = tt

  pub comes_one : (past : List Note) (note : Note) → May past note → Comes past (note ∷ [])
  unfolding Comes
  comes_one past note may = (may, tt)

  pub comes_then : (past xs ys : List Note) → Comes past xs → Comes (past ++ xs) ys → Comes past (xs ++ ys)
  unfolding Comes
  comes_then past [] ys p q = subst (λ b. Comes b ys) (append-nil past) q
  comes_then past (x ∷ xs) ys p q = (p.0, comes_then (past ++ x ∷ []) xs ys p.1 (subst (λ b. Comes b ys) (sym (append_assoc past (x ∷ []) xs)) q))

  -- a note of these may come where it is
  pub comes_at : (past xs before : List Note) (note : Note) (after : List Note) → Comes past xs → xs ≡ before ++ note ∷ after → May (past ++ before) note
  unfolding Comes
  comes_at past [] [] note after p is = absurd cc
  comes_at past [] (b ∷ bs) note after p is = absurd cc
  comes_at past (x ∷ xs) [] note after p is =
      let same : x ≡ note = cc in
      subst (λ b. May b note) (sym (append-nil past)) (subst (May past) same p.0)
  comes_at past (x ∷ xs) (b ∷ bs) note after p is =
      let same : x ≡ b = cc in
      let rest : xs ≡ bs ++ note ∷ after = cc in
      subst (λ c. May c note) (append_assoc past (b ∷ []) bs) (comes_at (past ++ b ∷ []) xs bs note after (subst (λ y. Comes (past ++ y ∷ []) xs) same p.1) rest)

  -- a note of these, one more, and closings: it may come where it is, or it is that one, or a closing
  pub comes_or_last : (past xs : List Note) (last : Note) (closings : List Closing) (before : List Note) (note : Note) (after : List Note) → Comes past xs → xs ++ last ∷ map Closed closings ≡ before ++ note ∷ after
      → May (past ++ before) note ⊎ (((note ≡ last) × ((before ≡ xs) × (after ≡ map Closed closings))) ⊎ IsClosing note)
  unfolding Comes
  comes_or_last past [] last closings [] note after p is = let same : last ≡ note = cc in let rest : map Closed closings ≡ after = cc in inr (inl (sym same, (refl, sym rest)))
  comes_or_last past [] last closings (b ∷ bs) note after p is = let rest : map Closed closings ≡ bs ++ note ∷ after = cc in inr (inr (closing_among closings bs note after rest))
  comes_or_last past (x ∷ xs) last closings [] note after p is =
      let same : x ≡ note = cc in
      inl (subst (λ b. May b note) (sym (append-nil past)) (subst (May past) same p.0))
  comes_or_last past (x ∷ xs) last closings (b ∷ bs) note after p is =
      let same : x ≡ b = cc in
      let rest : xs ++ last ∷ map Closed closings ≡ bs ++ note ∷ after = cc in
      elim (comes_or_last (past ++ b ∷ []) xs last closings bs note after (subst (λ y. Comes (past ++ y ∷ []) xs) same p.1) rest) [
        | inl may ↦ inl (subst (λ c. May c note) (append_assoc past (b ∷ []) bs) may)
        | inr (inl at) ↦ inr (inl (at.0, (ap (λ l. b ∷ l) at.1.0 ∙ ap (λ y. y ∷ xs) (sym same), at.1.1)))
        | inr (inr closing) ↦ inr (inr closing)
      ]

  -- what does not come with the finish may come where it is
  pub comes_before : (past xs : List Note) (end : End) (closings : List Closing) (before : List Note) (note : Note) (after : List Note) → Comes past xs → ComesBefore note
      → xs ++ Finished end ∷ map Closed closings ≡ before ++ note ∷ after → May (past ++ before) note
  comes_before past xs end closings before note after p early is =
      elim (comes_or_last past xs (Finished end) closings before note after p is) [
        | inl may ↦ may
        | inr (inl last) ↦ absurd (subst ComesBefore last.0 early)
        | inr (inr closing) ↦ absurd (subst ComesBefore closing.1 early)
      ]

  -- where no finish may come it is the last
  pub comes_last : (past xs : List Note) (end : End) (closings : List Closing) (before : List Note) (e : End) (after : List Note) → Comes past xs → (May (past ++ before) (Finished e) → ⊥)
      → xs ++ Finished end ∷ map Closed closings ≡ before ++ Finished e ∷ after → (e ≡ end) × ((before ≡ xs) × (after ≡ map Closed closings))
  comes_last past xs end closings before e after p none is =
      elim (comes_or_last past xs (Finished end) closings before (Finished e) after p is) [
        | inl may ↦ absurd (none may)
        | inr (inl last) ↦ (same_end e end last.0, last.1)
        | inr (inr closing) ↦ absurd (let other : Finished e ≡ Closed closing.0 = closing.1 in cc)
      ]
