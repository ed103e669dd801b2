-- A unit's values change in several spaces: the new places are put, the values exchanged, the old places taken.
use Rattle.std.proofs.Common.{◌≡◌, ℕ, zero, suc, ◌+◌, ◌≤◌, ◌==◌, ◌&&◌, ◌⊎◌, inl, inr, Bool, true, false, List, [], ◌∷◌, drop, set, length, Option, Some, None, unwrap_or, refl, sym, ap, subst, ◌∙◌, arith, eqb-true, eq-eqb, add-one, slice_get}
use Rattle.std.specs.FinMap as fin
use Rattle.std.proofs.lemmas.Bool.{and_parts, and_from, or_left, or_right, or_cases}
use Rattle.std.proofs.lemmas.Option.{slice_get_within}
use Rattle.bb_pattern.specs.declared.value.DimValue.{DimValue}
use Rattle.bb_space.specs.declared.members.Members.{Members}
use Rattle.bb_space.specs.declared.index.place.Place.{Place}
use Rattle.bb_space.specs.Spaces.{Spaces, moved, after_moved, after_moves}
use Rattle.bb_space.specs.index.proving.Places.{is_place_of, has, ArePut, AreTaken}
use Rattle.bb_space.specs.proving.Indexed.{membership, seen, IsLoose, AreIndexed, AreLoose, AreReady, is_moved}
use Rattle.bb_space.proofs.ListLemmas.{get_set_here, get_set_other, at_set, drop_next, dropped, seen_set, seen_same, seen_past}
use Rattle.bb_space.proofs.index_lemmas.Laws.{by_bool}
use Rattle.bb_space.proofs.LooseLemmas.{same_loose, put_loose, take_loose, moved_loose}

abbrev Move : Type 0
Move = ℕ × List DimValue

module _ (unit i : ℕ) (p : Place) where
  here_moved : (e : Move) (es : List Move) → e.0 ≡ i → is_place_of unit e.1 p ≡ true → is_moved unit i (e ∷ es) p ≡ true
  here_moved e es same h = or_left ((e.0 == i) && is_place_of unit e.1 p) (is_moved unit i es p) (and_from (e.0 == i) (is_place_of unit e.1 p) (eq-eqb e.0 i same) h)

  later_moved : (e : Move) (es : List Move) → is_moved unit i es p ≡ true → is_moved unit i (e ∷ es) p ≡ true
  later_moved e es h = or_right ((e.0 == i) && is_place_of unit e.1 p) (is_moved unit i es p) h

  -- the first, in this space, or the others
  first_moved : (e : Move) (es : List Move) (G : Type 0) → is_moved unit i (e ∷ es) p ≡ true → (e.0 ≡ i → is_place_of unit e.1 p ≡ true → G) → (is_moved unit i es p ≡ true → G) → G
  first_moved e es G h here later = at (or_cases ((e.0 == i) && is_place_of unit e.1 p) (is_moved unit i es p) h)
    where
      at : (((e.0 == i) && is_place_of unit e.1 p) ≡ true) ⊎ (is_moved unit i es p ≡ true) → G
      at (inl one) = let parts = and_parts (e.0 == i) (is_place_of unit e.1 p) one in here (eqb-true e.0 i parts.0) parts.1
      at (inr other) = later other

  moved_there : (es : List Move) (k : ℕ) (e : Move) → slice_get es k ≡ Some e → e.0 ≡ i → is_place_of unit e.1 p ≡ true → is_moved unit i es p ≡ true
  moved_there [] zero e there same h = absurd cc
  moved_there [] (suc k) e there same h = absurd cc
  moved_there (d ∷ es) zero e there same h = subst (λ o. at_first o ≡ true) (sym there) (here_moved e es same h)
    where
      at_first : Option Move → Bool
      at_first None = false
      at_first (Some f) = is_moved unit i (f ∷ es) p
  moved_there (d ∷ es) (suc k) e there same h = later_moved d es (moved_there es k e there same h)

  -- with another move in place of one
  moved_set : (es : List Move) (k : ℕ) (e f : Move) → slice_get es k ≡ Some e → is_moved unit i es p ≡ true
      → (e.0 ≡ i → is_place_of unit e.1 p ≡ true → (f.0 ≡ i) × (is_place_of unit f.1 p ≡ true)) → is_moved unit i (set es k f) p ≡ true
  moved_set [] k e f there h over = h
  moved_set (d ∷ es) zero e f there h over = at_first (Some d) there h
    where
      listed : Option Move → Bool
      listed None = false
      listed (Some g) = is_moved unit i (g ∷ es) p

      at_first : (o : Option Move) → o ≡ Some e → listed o ≡ true → is_moved unit i (f ∷ es) p ≡ true
      at_first o is_e g = first_moved e es _ (subst (λ w. listed w ≡ true) is_e g)
          (λ same one. let both = over same one in here_moved f es both.0 both.1)
          (λ others. later_moved f es others)
  moved_set (d ∷ es) (suc k) e f there h over = first_moved d es _ h
      (λ same one. here_moved d (set es k f) same one)
      (λ others. later_moved d (set es k f) (moved_set es k e f there others over))

-- ---- puts

pub record IsPreparing (unit : ℕ) (moves rest : List (ℕ × List DimValue)) (first now : List Members) : Type 0 where
  pub same : seen now ≡ seen first
  pub among : (i : ℕ) (p : Place) → is_moved unit i rest p ≡ true → is_moved unit i moves p ≡ true
  pub loose : AreLoose unit moves now
  pub ready : (i : ℕ) (m : Members) → slice_get now i ≡ Some m → (p : Place) → is_moved unit i moves p ≡ true → is_moved unit i rest p ≡ false → has m.places p ≡ true

pub indexed_loose : (unit : ℕ) (moves : List Move) (spaces : List Members) → AreIndexed spaces → AreLoose unit moves spaces
indexed_loose unit moves spaces all = λ i m there. same_loose (λ _. false) (is_moved unit i moves) m m refl refl (λ p h. absurd cc) (all i m there)

pub preparing_none : (unit : ℕ) (moves : List (ℕ × List DimValue)) (spaces : List Members) → AreIndexed spaces → IsPreparing unit moves moves spaces spaces
preparing_none unit moves spaces all = record {
  same = refl;
  among = λ i p h. h;
  loose = indexed_loose unit moves spaces all;
  ready = λ i m there p h g. absurd cc;
}

module _ (unit : ℕ) (moves : List (ℕ × List DimValue)) (e : ℕ × List DimValue) (rest : List (ℕ × List DimValue)) (first now : List Members) (was : IsPreparing unit moves (e ∷ rest) first now) where
  not_yet : (i : ℕ) (p : Place) → (e.0 ≡ i → is_place_of unit e.1 p ≡ true → ⊥) → is_moved unit i rest p ≡ false → is_moved unit i (e ∷ rest) p ≡ false
  not_yet i p apart h = by_bool (is_moved unit i (e ∷ rest) p) _ (λ g. absurd (first_moved unit i p e rest _ g apart (λ k. no_both k))) (λ g. g)
    where
      no_both : is_moved unit i rest p ≡ true → ⊥
      no_both k = absurd cc

  -- a space that is not there
  pub preparing_over : length now ≤ e.0 → IsPreparing unit moves rest first now
  preparing_over past = record {
    same = was.same;
    among = λ i p h. was.among i p (later_moved unit i p e rest h);
    loose = was.loose;
    ready = λ i m there p h g. was.ready i m there p h (not_yet i p (λ same _. let lt = slice_get_within now i m there in absurd (omega (arith, past, same, lt))) g);
  }

  module _ (m n : Members) (there : slice_get now e.0 ≡ Some m) (values : n.values ≡ m.values) (put : ArePut unit e.1 m.places n.places) where
    members : membership n ≡ membership m
    members = ap (λ v. membership (record { values = v; places = n.places })) values

    pub prepared_same : seen (set now e.0 n) ≡ seen first
    prepared_same = seen_same now e.0 m n there members ∙ was.same

    pub prepared_loose : AreLoose unit moves (set now e.0 n)
    prepared_loose = λ i w at. at_set now e.0 n i w _ (slice_get_within now e.0 m there) at
        (λ here same. subst (λ q. IsLoose (is_moved unit i moves) q) same
        (put_loose unit e.1 (is_moved unit i moves) (is_moved unit i moves) m n members put (λ p h. h)
        (λ p h. was.among i p (here_moved unit i p e rest (sym here) h)) (was.loose i m (ap (slice_get now) here ∙ there))))
        (λ apart old. was.loose i w old)

    pub preparing_more : ((p : Place) → is_place_of unit e.1 p ≡ true → has n.places p ≡ true) → IsPreparing unit moves rest first (set now e.0 n)
    preparing_more all = record {
      same = prepared_same;
      among = λ i p h. was.among i p (later_moved unit i p e rest h);
      loose = prepared_loose;
      ready = λ i w at p h g. at_set now e.0 n i w _ (slice_get_within now e.0 m there) at
          (λ here same. subst (λ (q : Members). has q.places p ≡ true) same (by_bool (is_place_of unit e.1 p) _ (all p)
          (λ out. put.keeps p (was.ready i m (ap (slice_get now) here ∙ there) p h (not_yet i p (λ _ one. absurd cc) g)))))
          (λ apart old. was.ready i w old p h (not_yet i p (λ same _. apart (sym same)) g));
    }

pub all_ready : (k unit : ℕ) (moves : List (ℕ × List DimValue)) (first now : List Members) → length moves ≤ k → IsPreparing unit moves (drop k moves) first now → AreReady unit moves now
all_ready k unit moves first now le was = λ i m there p h. was.ready i m there p h (ap (λ rest. is_moved unit i rest p) (dropped k moves le))

-- the moves from one on
pub preparing_at : (k unit : ℕ) (moves : List (ℕ × List DimValue)) (first now : List Members) (e : ℕ × List DimValue) → slice_get moves k ≡ Some e → IsPreparing unit moves (drop k moves) first now → IsPreparing unit moves (e ∷ drop (k + 1) moves) first now
preparing_at k unit moves first now e there was = subst (λ rest. IsPreparing unit moves rest first now) (drop_next moves k e there ∙ ap (λ j. e ∷ drop j moves) (sym (add-one k))) was

-- ---- takes

module _ (unit : ℕ) (e : ℕ × List DimValue) (rest : List (ℕ × List DimValue)) (now : List Members) (was : AreLoose unit (e ∷ rest) now) where
  pub settled_over : length now ≤ e.0 → AreLoose unit rest now
  settled_over past = λ i m there. same_loose (is_moved unit i (e ∷ rest)) (is_moved unit i rest) m m refl refl
      (λ p h. first_moved unit i p e rest _ h (λ same _. let lt = slice_get_within now i m there in absurd (omega (arith, past, same, lt))) (λ later. later))
      (was i m there)

  module _ (m n : Members) (there : slice_get now e.0 ≡ Some m) (values : n.values ≡ m.values) where
    pub settled_same : seen (set now e.0 n) ≡ seen now
    settled_same = seen_same now e.0 m n there (ap (λ v. membership (record { values = v; places = n.places })) values)

    pub settled_more : AreTaken unit e.1 (unwrap_or (fin.get (membership m) unit) []) m.places n.places → AreLoose unit rest (set now e.0 n)
    settled_more taken = λ i w at. at_set now e.0 n i w _ (slice_get_within now e.0 m there) at
        (λ here same. subst (λ q. IsLoose (is_moved unit i rest) q) same
        (take_loose unit e.1 (is_moved unit i (e ∷ rest)) (is_moved unit i rest) m n (ap (λ v. membership (record { values = v; places = n.places })) values) taken
        (λ p h. first_moved unit i p e rest _ h (λ _ one. inl one) (λ later. inr later)) (was i m (ap (slice_get now) here ∙ there))))
        (λ apart old. same_loose (is_moved unit i (e ∷ rest)) (is_moved unit i rest) w w refl refl
        (λ p h. first_moved unit i p e rest _ h (λ same _. absurd (apart (sym same))) (λ later. later)) (was i w old))

pub all_settled : (k unit : ℕ) (moves : List (ℕ × List DimValue)) (now : List Members) → length moves ≤ k → AreLoose unit (drop k moves) now → AreIndexed now
all_settled k unit moves now le was = λ i m there. subst (λ rest. IsLoose (is_moved unit i rest) m) (dropped k moves le) (was i m there)

-- the moves from one on
pub settling_at : (k unit : ℕ) (moves : List (ℕ × List DimValue)) (now : List Members) (e : ℕ × List DimValue) → slice_get moves k ≡ Some e → AreLoose unit (drop k moves) now → AreLoose unit (e ∷ drop (k + 1) moves) now
settling_at k unit moves now e there was = subst (λ rest. AreLoose unit rest now) (drop_next moves k e there ∙ ap (λ j. e ∷ drop j moves) (sym (add-one k))) was

-- ---- exchanges

pub record IsExchanging (k unit : ℕ) (moves : List (ℕ × List DimValue)) (first : List Members) (left : List (ℕ × List DimValue)) (now : List Members) : Type 0 where
  pub moved : after_moves (seen now) unit (drop k moves) ≡ after_moves (seen first) unit moves
  pub long : length left ≡ length moves
  pub rest : (j : ℕ) → k ≤ j → slice_get left j ≡ slice_get moves j
  pub loose : AreLoose unit left now
  pub ready : AreReady unit moves now

module _ (k unit : ℕ) (moves : List (ℕ × List DimValue)) (first : List Members) (left : List (ℕ × List DimValue)) (now : List Members) (was : IsExchanging k unit moves first left now) (e : ℕ × List DimValue) (at : slice_get left k ≡ Some e) where
  at_moves : slice_get moves k ≡ Some e
  at_moves = sym (was.rest k (omega arith)) ∙ at

  next : (s : Spaces) → after_moves s unit (drop k moves) ≡ after_moves (after_moved s e.0 unit e.1) unit (drop (k + 1) moves)
  unfolding after_moves
  next s = ap (after_moves s unit) (drop_next moves k e at_moves) ∙ ap (λ j. after_moves (after_moved s e.0 unit e.1) unit (drop j moves)) (sym (add-one k))

  pub exchanged_over : length now ≤ e.0 → IsExchanging (k + 1) unit moves first left now
  exchanged_over past = record {
    moved = ap (λ s. after_moves s unit (drop (k + 1) moves)) (sym (seen_past now e.0 (moved unit e.1) past)) ∙ (sym (next (seen now)) ∙ was.moved);
    long = was.long;
    rest = λ j le. was.rest j (omega (arith, le));
    loose = was.loose;
    ready = was.ready;
  }

  module _ (m n : Members) (had : List DimValue) (there : slice_get now e.0 ≡ Some m) (places : n.places ≡ m.places)
      (members : membership n ≡ moved unit e.1 (membership m)) (had_is : had ≡ unwrap_or (fin.get (membership m) unit) e.1) where
    pub exchanged_more : IsExchanging (k + 1) unit moves first (set left k (e.0, had)) (set now e.0 n)
    exchanged_more = record {
      moved = ap (λ s. after_moves s unit (drop (k + 1) moves)) (seen_set now e.0 m n (moved unit e.1) there members) ∙ (sym (next (seen now)) ∙ was.moved);
      long = length_set left k (e.0, had) ∙ was.long;
      rest = λ j le. get_set_other left k j (e.0, had) (λ same. omega (arith, le, same)) ∙ was.rest j (omega (arith, le));
      loose = λ i w there_now. at_set now e.0 n i w _ (slice_get_within now e.0 m there) there_now
          (λ here same. subst (λ q. IsLoose (is_moved unit i (set left k (e.0, had))) q) same (in_space i here))
          (λ apart old. same_loose (is_moved unit i left) (is_moved unit i (set left k (e.0, had))) w w refl refl
          (λ p h. moved_set unit i p left k e (e.0, had) at h (λ same _. absurd (apart (sym same)))) (was.loose i w old));
      ready = λ i w there_now p h. at_set now e.0 n i w _ (slice_get_within now e.0 m there) there_now
          (λ here same. subst (λ (q : Members). has q.places p ≡ true) same (ap (λ s. has s p) places ∙ was.ready i m (ap (slice_get now) here ∙ there) p h))
          (λ apart old. was.ready i w old p h);
    }
      where
        length_set : {X : Type 0} (xs : List X) (i : ℕ) (x : X) → length (set xs i x) ≡ length xs
        length_set [] i x = refl
        length_set (y ∷ xs) zero x = refl
        length_set (y ∷ xs) (suc i) x = ap suc (length_set xs i x)

        in_space : (i : ℕ) → i ≡ e.0 → IsLoose (is_moved unit i (set left k (e.0, had))) n
        in_space i here = moved_loose unit e.1 had (is_moved unit i left) (is_moved unit i (set left k (e.0, had))) m n places members had_is
            (λ p h. was.ready e.0 m there p (moved_there unit e.0 p moves k e at_moves refl h))
            (λ p h. moved_there unit i p (set left k (e.0, had)) k (e.0, had) (get_set_here left k (e.0, had) (slice_get_within left k e at)) (sym here) h)
            (λ p over h. moved_set unit i p left k e (e.0, had) at h (λ same one. (same, over one)))
            (was.loose i m (ap (slice_get now) here ∙ there))

pub exchanged_all : (k unit : ℕ) (moves : List (ℕ × List DimValue)) (first : List Members) (left : List (ℕ × List DimValue)) (now : List Members) → length moves ≤ k → IsExchanging k unit moves first left now → seen now ≡ after_moves (seen first) unit moves
unfolding after_moves
exchanged_all k unit moves first left now le was = sym (ap (after_moves (seen now) unit) (dropped k moves le)) ∙ was.moved
