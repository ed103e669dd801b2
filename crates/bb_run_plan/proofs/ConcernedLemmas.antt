-- The places that are kept for each kind, clause by clause and source by source, are those of the sources that an event
-- of the kind concerns.
use Rattle.std.proofs.Common.{◌≡◌, ◌<◌, ◌≤◌, ℕ, ◌+◌, Bool, true, false, cond, ◌||◌, ◌==◌, arith, List, [], ◌∷◌, ◌++◌, length, get_or, take, refl, sym, ap, ◌∙◌, eq-eqb}
use Rattle.std.proofs.lemmas.List.{append-nil, length-take-le, take_all, take_more}
use Rattle.std.proofs.lemmas.List.Folds.{list_any-append}
use Rattle.bb_basis.proofs.ListLemmas.{list_any-last}
use Rattle.bb_basis.proofs.BoolLemmas.{or_true}
use Rattle.bb_basis.proofs.NumberLemmas.{differs}
use Rattle.bb_board.specs.declared.event.Event.{Event}
use Rattle.bb_rules.specs.declared.clause.Clause.{Clause}
use Rattle.bb_rules.specs.Parts.{Source}
use Rattle.bb_rules.specs.KindIndex.{has, put, put_if}
use Rattle.bb_run_plan.specs.Concerned.{any_of_kind, concerned_from, is_concerned, is_of_kind}

-- ---- one place, put again and again

put_at : (ns : List ℕ) (n : ℕ) (there : Bool) → has ns n ≡ there → has (cond there ns (ns ++ n ∷ [])) n ≡ true
put_at ns n true h = h
put_at ns n false h =
    list_any-append (λ d. d == n) ns (n ∷ [])
    ∙ (ap (λ b. has ns n || (b || false)) (eq-eqb n n refl) ∙ or_true (has ns n))

-- what was put is there
has_put : (ns : List ℕ) (n : ℕ) → has (put ns n) n ≡ true
has_put ns n = put_at ns n (has ns n) refl

-- put for one reason, and then for another, is put for one of the two
pub put_again : (ns : List ℕ) (n : ℕ) (b c : Bool) → put_if c (put_if b ns n) n ≡ put_if (b || c) ns n
put_again ns n false c = refl
put_again ns n true false = refl
put_again ns n true true = ap (λ t. cond t (put ns n) (put ns n ++ n ∷ [])) (has_put ns n)

pub put_thrice : (old : List ℕ) (n : ℕ) (a b c : Bool) (one two new : List ℕ) → one ≡ put_if a old n → two ≡ put_if b one n → new ≡ put_if c two n → new ≡ put_if (a || b || c) old n
put_thrice old n a b c one two new first second third =
    third ∙ (ap (λ ns. put_if c ns n) (second ∙ (ap (λ ns. put_if b ns n) first ∙ put_again old n a b)) ∙ put_again old n (a || b) c)

-- ---- clause by clause

module _ (event : Event) (clauses : List Clause) (place : ℕ) (old : List ℕ) where
  pub clause_added : (i : ℕ) (d : Clause) (now new : List ℕ) → i < length clauses
      → now ≡ put_if (any_of_kind event (take i clauses)) old place → new ≡ put_if (is_of_kind event (get_or clauses i d)) now place → new ≡ put_if (any_of_kind event (take (i + 1) clauses)) old place
  clause_added i d now new lt so_far added =
      let clause = get_or clauses i d in
      added
      ∙ (ap (λ ns. put_if (is_of_kind event clause) ns place) so_far
      ∙ (put_again old place (any_of_kind event (take i clauses)) (is_of_kind event clause)
      ∙ ap (λ b. put_if b old place) (sym (list_any-last (is_of_kind event) (take i clauses) clause) ∙ ap (any_of_kind event) (sym (take_more clauses i d lt)))))

  pub clauses_added : (i : ℕ) (now : List ℕ) → length clauses ≤ i → now ≡ put_if (any_of_kind event (take i clauses)) old place → now ≡ put_if (any_of_kind event clauses) old place
  clauses_added i now le so_far = so_far ∙ ap (λ cs. put_if (any_of_kind event cs) old place) (take_all i clauses le)

-- ---- source by source

-- one source more
last_at : (event : Event) (source : Source) (n m : ℕ) → n ≡ m → cond (is_concerned event source) (n ∷ []) [] ≡ cond (is_concerned event source) (m ∷ []) []
last_at event source n m same = ap (λ k. cond (is_concerned event source) (k ∷ []) []) same

more_after : (b : Bool) (n : ℕ) (xs ys : List ℕ) → cond b (n ∷ (xs ++ ys)) (xs ++ ys) ≡ cond b (n ∷ xs) xs ++ ys
more_after true n xs ys = refl
more_after false n xs ys = refl

concerned_last : (event : Event) (n : ℕ) (sources : List Source) (source : Source)
    → concerned_from event n (sources ++ source ∷ []) ≡ concerned_from event n sources ++ cond (is_concerned event source) ((n + length sources) ∷ []) []
unfolding concerned_from
concerned_last event n [] source = last_at event source n (n + 0) (omega arith)
concerned_last event n (first ∷ more) source =
    let moved : (n + 1) + length more ≡ n + length (first ∷ more) = omega arith in
    let rest = concerned_last event (n + 1) more source ∙ ap (λ ys. concerned_from event (n + 1) more ++ ys) (last_at event source ((n + 1) + length more) (n + length (first ∷ more)) moved) in
    ap (λ ys. cond (is_concerned event first) (n ∷ ys) ys) rest
    ∙ more_after (is_concerned event first) n (concerned_from event (n + 1) more) (cond (is_concerned event source) ((n + length (first ∷ more)) ∷ []) [])

none_or : (b : Bool) (n p : ℕ) (ns : List ℕ) → n < p → has ns p ≡ false → has (cond b (n ∷ ns) ns) p ≡ false
none_or true n p ns lt h = ap (λ b. b || has ns p) (differs n p (λ same. let le : p ≤ n = omega (arith, same) in omega (arith, lt, le))) ∙ h
none_or false n p ns lt h = h

-- no place is past the last source
none_past : (event : Event) (n p : ℕ) (sources : List Source) → n + length sources ≤ p → has (concerned_from event n sources) p ≡ false
unfolding concerned_from
none_past event n p [] le = refl
none_past event n p (first ∷ more) le =
    none_or (is_concerned event first) n p (concerned_from event (n + 1) more) (omega (arith, le)) (none_past event (n + 1) p more (omega (arith, le)))

-- what is put that is not there is the last
put_last : (b there : Bool) (ns : List ℕ) (n : ℕ) → has ns n ≡ there → there ≡ false → put_if b ns n ≡ ns ++ cond b (n ∷ []) []
put_last true there ns n is none = ap (λ t. cond t ns (ns ++ n ∷ [])) (is ∙ none)
put_last false there ns n is none = sym (append-nil ns)

pub source_added : (event : Event) (sources : List Source) (i : ℕ) (source : Source) (now new : List ℕ) → i < length sources → source ≡ get_or sources i source
    → now ≡ concerned_from event 0 (take i sources) → new ≡ put_if (is_concerned event source) now i → new ≡ concerned_from event 0 (take (i + 1) sources)
source_added event sources i source now new lt is so_far added =
    let front = take i sources in
    let count : length front ≡ i = length-take-le i sources (omega (arith, lt)) in
    let one : take (i + 1) sources ≡ front ++ source ∷ [] = take_more sources i source lt ∙ ap (λ s. front ++ s ∷ []) (sym is) in
    let fresh : has (concerned_from event 0 front) i ≡ false = none_past event 0 i front (omega (arith, count)) in
    added
    ∙ (ap (λ ns. put_if (is_concerned event source) ns i) so_far
    ∙ (put_last (is_concerned event source) (has (concerned_from event 0 front) i) (concerned_from event 0 front) i refl fresh
    ∙ (ap (λ ns. concerned_from event 0 front ++ ns) (last_at event source i (0 + length front) (omega (arith, count)))
    ∙ (sym (concerned_last event 0 front source) ∙ ap (concerned_from event 0) (sym one)))))

pub sources_added : (event : Event) (sources : List Source) (i : ℕ) (now : List ℕ) → length sources ≤ i → now ≡ concerned_from event 0 (take i sources) → now ≡ concerned_from event 0 sources
sources_added event sources i now le so_far = so_far ∙ ap (concerned_from event 0) (take_all i sources le)
