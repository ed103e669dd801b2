-- What `try_map` makes, item by item, and what each step of a `try_fold` leaves.
use Rattle.std.proofs.Common.{◌≡◌, ℕ, zero, suc, List, [], ◌∷◌, Result, Ok, Some, refl, ap, sym, subst, ◌∙◌}
use Rattle.std.specs.Prelude.{slice_get}
use Rattle.std.specs.List.{AllByRecursion}
use Rattle.bb_basis.specs.Results.{◌>>=◌, try_map, try_fold}
use Rattle.bb_basis.proofs.ResultLemmas.{bind_ok, same_ok}

-- what is made of the item at an index is at that index
pub try_map-at : {A X E : Type 0} (f : A → Result X E) (items : List A) (made : List X) (i : ℕ) (a : A) (x : X) → try_map f items ≡ Ok made → slice_get items i ≡ Some a → f a ≡ Ok x → slice_get made i ≡ Some x
unfolding try_map
try_map-at f [] made i a x h at gives = absurd cc
try_map-at {X = X} f (b ∷ more) made zero a x h at gives =
    let one = bind_ok (f b) (λ first. try_map f more >>= λ others. Ok (first ∷ others)) made h in
    let rest = bind_ok (try_map f more) (λ others. Ok (one.0 ∷ others)) made one.2 in
    let same : b ≡ a = cc in
    let got : one.0 ≡ x = same_ok one.0 x (sym one.1 ∙ (ap f same ∙ gives)) in
    ap (λ (ys : List X). slice_get ys 0) (sym (same_ok (one.0 ∷ rest.0) made rest.2)) ∙ ap (λ y. Some y) got
try_map-at {X = X} f (b ∷ more) made (suc i) a x h at gives =
    let one = bind_ok (f b) (λ first. try_map f more >>= λ others. Ok (first ∷ others)) made h in
    let rest = bind_ok (try_map f more) (λ others. Ok (one.0 ∷ others)) made one.2 in
    ap (λ (ys : List X). slice_get ys (suc i)) (sym (same_ok (one.0 ∷ rest.0) made rest.2)) ∙ try_map-at f more rest.0 i a x rest.1 at gives

from_either : {A X E : Type 0} (f : A → Result X E) (b : A) (more : List A) (first : X) (others : List X) (i : ℕ) (x : X) → f b ≡ Ok first → ((j : ℕ) → slice_get others j ≡ Some x → (a : A) × (slice_get more j ≡ Some a) × (f a ≡ Ok x)) → slice_get (first ∷ others) i ≡ Some x → (a : A) × (slice_get (b ∷ more) i ≡ Some a) × (f a ≡ Ok x)
from_either f b more first others zero x gives rest at = (b, refl, gives ∙ ap (λ y. Ok y) (let same : first ≡ x = cc in same))
from_either f b more first others (suc i) x gives rest at = rest i at

-- what is at an index was made of the item at that index
pub try_map-from : {A X E : Type 0} (f : A → Result X E) (items : List A) (made : List X) (i : ℕ) (x : X) → try_map f items ≡ Ok made → slice_get made i ≡ Some x → (a : A) × (slice_get items i ≡ Some a) × (f a ≡ Ok x)
unfolding try_map
try_map-from {X = X} f [] made i x h at = absurd (let e = ap (λ (ys : List X). slice_get ys i) (same_ok [] made h) ∙ at in cc)
try_map-from {X = X} f (b ∷ more) made i x h at =
    let one = bind_ok (f b) (λ first. try_map f more >>= λ others. Ok (first ∷ others)) made h in
    let rest = bind_ok (try_map f more) (λ others. Ok (one.0 ∷ others)) made one.2 in
    from_either f b more one.0 rest.0 i x one.1 (λ j g. try_map-from f more rest.0 j x rest.1 g) (ap (λ (ys : List X). slice_get ys i) (same_ok (one.0 ∷ rest.0) made rest.2) ∙ at)

-- where each item gives something, all do
pub try_map-ok : {A X E : Type 0} (f : A → Result X E) (items : List A) → ((i : ℕ) (a : A) → slice_get items i ≡ Some a → (x : X) × (f a ≡ Ok x)) → (made : List X) × (try_map f items ≡ Ok made)
unfolding try_map
try_map-ok f [] h = ([], refl)
try_map-ok f (a ∷ more) h =
    let one = h 0 a refl in
    let rest = try_map-ok f more (λ i b at. h (suc i) b at) in
    (one.0 ∷ rest.0, rw (one.1, rest.1) refl)

-- ---- walks that leave something of each item

pub record Marked {S A : Type 0} (P : S → Type 0) (Q : S → A → Type 0) (t : S) (items : List A) : Type 0 where
  pub kept : P t
  pub all : AllByRecursion (Q t) items

-- what one step keeps of another item, all steps keep
fold_keeps_known : {S A E : Type 0} (P : S → Type 0) (Q : S → A → Type 0) (f : S → A → Result S E) → ((s t : S) (a : A) → P s → f s a ≡ Ok t → P t) → ((s t : S) (a b : A) → P s → f s b ≡ Ok t → Q s a → Q t a) → (a : A) (s t : S) (items : List A) → P s → try_fold f s items ≡ Ok t → Q s a → Q t a
unfolding try_fold
fold_keeps_known P Q f step stable a s t [] p h q = subst (λ u. Q u a) (same_ok s t h) q
fold_keeps_known P Q f step stable a s t (b ∷ more) p h q =
    let one = bind_ok (f s b) (λ next. try_fold f next more) t h in
    fold_keeps_known P Q f step stable a one.0 t more (step s one.0 b p one.1) one.2 (stable s one.0 a b p one.1 q)

pub try_fold_marks : {S A E : Type 0} (P : S → Type 0) (Q : S → A → Type 0) (f : S → A → Result S E) → ((s t : S) (a : A) → P s → f s a ≡ Ok t → P t) → ((s t : S) (a : A) → P s → f s a ≡ Ok t → Q t a) → ((s t : S) (a b : A) → P s → f s b ≡ Ok t → Q s a → Q t a)
    → (s t : S) (items : List A) → P s → try_fold f s items ≡ Ok t → Marked P Q t items
unfolding try_fold
try_fold_marks P Q f step mark stable s t [] p h = record { kept = subst P (same_ok s t h) p; all = tt }
try_fold_marks P Q f step mark stable s t (a ∷ more) p h =
    let one = bind_ok (f s a) (λ next. try_fold f next more) t h in
    let rest = try_fold_marks P Q f step mark stable one.0 t more (step s one.0 a p one.1) one.2 in
    record { kept = rest.kept; all = (fold_keeps_known P Q f step stable a one.0 t more (step s one.0 a p one.1) one.2 (mark s one.0 a p one.1), rest.all) }
