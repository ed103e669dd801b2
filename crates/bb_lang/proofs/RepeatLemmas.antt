-- A loop that reads as many as come reads what `repeated` does.
use Rattle.std.proofs.Common.{◌≡◌, ◌⊎◌, inl, inr, ℕ, suc, ◌+◌, ◌-◌, ◌<◌, ◌≤◌, false, List, [], ◌∷◌, ◌++◌, Option, Some, None, Result, Ok, Err, refl, sym, ap, ◌∙◌, arith, append_assoc}
use Rattle.std.proofs.lemmas.List.{append-nil}
use Rattle.bb_basis.specs.Results.{◌>>=◌}
use Rattle.bb_lang_tree.specs.declared.fault.LangFault.{LangFault}
use Rattle.bb_lang_tree.specs.State.{State, Reader, at, left}
use Rattle.bb_lang.specs.Repeats.{more_after, repeated, as_many, next_item, items}
use Rattle.bb_lang.specs.proving.Fronts.{with_front}
use Rattle.bb_lang.proofs.TestLemmas.{no}

module _ {X : Type 0} (read : Reader (Option X)) where
  one_turn : (i end : ℕ) (s : State) → i < end → repeated (end - i) read s ≡ (read s >>= λ p. more_after (repeated (end - (i + 1)) read) p.0 p.1)
  unfolding repeated
  one_turn i end s lt = let one : end - i ≡ suc (end - (i + 1)) = omega arith in ap (λ n. repeated n read s) one

  front_moves : (front : List X) (x : X) (r : Result (List X × State) LangFault) → with_front front (r >>= λ p. Ok (x ∷ p.0, p.1)) ≡ with_front (front ++ x ∷ []) r
  front_moves front x (Ok p) = ap (λ l. Ok (l, p.1)) (sym (append_assoc front (x ∷ []) p.0))
  front_moves front x (Err e) = refl

  pub repeat_more : (front new : List X) (x : X) (i end : ℕ) (s t : State) (total : Result (List X × State) LangFault) → i < end → new ≡ front ++ x ∷ [] → read s ≡ Ok (Some x, t)
      → with_front front (repeated (end - i) read s) ≡ total → with_front new (repeated (end - (i + 1)) read t) ≡ total
  unfolding more_after
  repeat_more front new x i end s t total lt made got h =
      ap (λ l. with_front l (repeated (end - (i + 1)) read t)) made
      ∙ sym (front_moves front x (repeated (end - (i + 1)) read t))
      ∙ ap (with_front front) (ap (λ r. r >>= λ p. more_after (repeated (end - (i + 1)) read) p.0 p.1) (sym got) ∙ sym (one_turn i end s lt))
      ∙ h

  pub repeat_stop : (front : List X) (i end : ℕ) (s t : State) (total : Result (List X × State) LangFault) → i < end → read s ≡ Ok (None, t)
      → with_front front (repeated (end - i) read s) ≡ total → total ≡ Ok (front, t)
  unfolding more_after
  repeat_stop front i end s t total lt got h =
      sym h ∙ ap (with_front front) (one_turn i end s lt ∙ ap (λ r. r >>= λ p. more_after (repeated (end - (i + 1)) read) p.0 p.1) got) ∙ ap (λ l. Ok (l, t)) (append-nil front)

  pub repeat_error : (out e : LangFault) (front : List X) (i end : ℕ) (s : State) (total : Result (List X × State) LangFault) → i < end → (e ≡ out) ⊎ (read s ≡ Err e)
      → with_front front (repeated (end - i) read s) ≡ total → (e ≡ out) ⊎ (total ≡ Err e)
  repeat_error out e front i end s total lt (inl m) h = inl m
  repeat_error out e front i end s total lt (inr failed) h =
      inr (sym h ∙ ap (with_front front) (one_turn i end s lt ∙ ap (λ r. r >>= λ p. more_after (repeated (end - (i + 1)) read) p.0 p.1) failed))

  pub repeat_end : (front : List X) (i end : ℕ) (s : State) (total : Result (List X × State) LangFault) → end ≤ i
      → with_front front (repeated (end - i) read s) ≡ total → total ≡ Ok (front, s)
  unfolding repeated
  repeat_end front i end s total le h =
      let none : end - i ≡ 0 = omega arith in
      sym h ∙ ap (λ n. with_front front (repeated n read s)) none ∙ ap (λ l. Ok (l, s)) (append-nil front)

pub one_before : {X : Type 0} (x : X) (r : Result (List X × State) LangFault) → (r >>= λ q. Ok (x ∷ q.0, q.1)) ≡ with_front (x ∷ []) r
one_before x (Ok q) = refl
one_before x (Err e) = refl

-- the first of a list, and those after it
pub items_by_loop : {X : Type 0} (close : List ℕ) (item : Reader X) (s t : State) (x : X) → at close s ≡ false → item s ≡ Ok (x, t)
    → items close item s ≡ with_front (x ∷ []) (repeated (left t) (next_item item) t)
unfolding items as_many
items_by_loop close item s t x shut got =
    no (at close s) _ _ shut ∙ ap (λ r. r >>= λ p. as_many (next_item item) p.1 >>= λ q. Ok (p.0 ∷ q.0, q.1)) got ∙ one_before x (repeated (left t) (next_item item) t)

-- the first of a list and those after it, as a loop begins with what it has
pub items_begin : {X : Type 0} (close : List ℕ) (item : Reader X) (s t : State) (x : X) (old new : List X) (end : ℕ) → at close s ≡ false → item s ≡ Ok (x, t) → old ≡ [] → new ≡ old ++ x ∷ [] → end ≡ left t
    → items close item s ≡ with_front new (repeated end (next_item item) t)
items_begin close item s t x old new end shut got empty made all =
    items_by_loop close item s t x shut got
    ∙ ap (λ l. with_front l (repeated (left t) (next_item item) t)) (sym (made ∙ ap (λ l. l ++ x ∷ []) empty))
    ∙ ap (λ n. with_front new (repeated n (next_item item) t)) (sym all)
