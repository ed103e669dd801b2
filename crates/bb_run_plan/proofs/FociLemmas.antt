-- The agenda is told of units one after another.
use Rattle.std.proofs.Common.{◌≡◌, ℕ, zero, suc, ◌+◌, ◌<◌, List, [], ◌∷◌, ◌++◌, length, get_or, drop, sym, ap, ◌∙◌, add-one, drop-cons, arith}
use Rattle.std.specs.List.{fold, range_with_len}
use Rattle.std.proofs.lemmas.List.Sums.{fold-append}
use Rattle.bb_agenda.specs.Agenda.{Agenda}
use Rattle.bb_agenda.specs.focusing.Foci.{Foci}
use Rattle.bb_run_plan.specs.Foci.{with_foci}

-- ---- a fold, one step after another

pub fold_next : {S A : Type 0} (f : S → A → S) (s : S) (xs : List A) (i : ℕ) (a : A) → i < length xs → a ≡ get_or xs i a → fold f s (drop i xs) ≡ fold f (f s a) (drop (i + 1) xs)
fold_next f s xs i a lt is =
    let parts : drop i xs ≡ a ∷ drop (i + 1) xs = rw (add-one, drop-cons xs i a) (ap (λ x. x ∷ drop (suc i) xs) (sym is)) in
    ap (fold f s) parts

pub range_more : (a n : ℕ) → range_with_len a (n + 1) ≡ range_with_len a n ++ (a + n) ∷ []
range_more a zero = let same : a ≡ a + 0 = omega arith in ap (λ x. x ∷ []) same
range_more a (suc n) =
    let count : suc n + 1 ≡ suc (n + 1) = omega arith in
    let last : (a + 1) + n ≡ a + suc n = omega arith in
    ap (range_with_len a) count ∙ ap (λ l. a ∷ l) (range_more (a + 1) n ∙ ap (λ x. range_with_len (a + 1) n ++ x ∷ []) last)

pub fold_range : {S : Type 0} (f : S → ℕ → S) (s : S) (n : ℕ) → fold f s (range_with_len 0 (n + 1)) ≡ f (fold f s (range_with_len 0 n)) n
fold_range f s n =
    let last : 0 + n ≡ n = omega arith in
    ap (fold f s) (range_more 0 n ∙ ap (λ x. range_with_len 0 n ++ x ∷ []) last) ∙ fold-append f s (range_with_len 0 n) (n ∷ [])

-- an agenda that differs from the first in its foci alone, and so does the next
pub foci_again : (first now next : Agenda) (foci : Foci) → now ≡ with_foci first now.foci → next ≡ with_foci now foci → next ≡ with_foci first next.foci
foci_again first now next foci same is =
    let has : next.foci ≡ foci = ap (λ a. a.foci) is in
    is ∙ ap (λ a. with_foci a foci) same ∙ ap (with_foci first) (sym has)

pub foci_are : (now next : Agenda) (foci : Foci) → next ≡ with_foci now foci → next.foci ≡ foci
foci_are now next foci is = ap (λ a. a.foci) is
