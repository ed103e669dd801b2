-- What an answer without a fault says of each step to it.
use Rattle.std.proofs.Common.{◌≡◌, suc, Bool, true, false, List, [], ◌∷◌, length, Option, Some, None, Result, Ok, Err, refl, ap, sym, subst, ◌∙◌}
use Rattle.std.specs.Prelude.{if◌then◌else◌, All}
use Rattle.std.proofs.lemmas.List.Elements.{All-nil, All-cons, All-head, All-tail}
use Rattle.bb_basis.specs.Results.{◌>>=◌, ok_or, try_map, try_fold}

pub bind_ok : {A B E : Type 0} (r : Result A E) (f : A → Result B E) (y : B) → (r >>= f) ≡ Ok y → (x : A) × (r ≡ Ok x) × (f x ≡ Ok y)
bind_ok (Ok x) f y h = (x, refl, h)
bind_ok (Err e) f y h = absurd cc

pub guard_ok : {A E : Type 0} (b : Bool) (e : E) (r : Result A E) (y : A) → (if b then Err e else r) ≡ Ok y → (b ≡ false) × (r ≡ Ok y)
guard_ok true e r y h = absurd cc
guard_ok false e r y h = (refl, h)

pub ok_or_ok : {X E : Type 0} (e : E) (o : Option X) (x : X) → ok_or o e ≡ Ok x → o ≡ Some x
ok_or_ok e None x h = absurd cc
ok_or_ok e (Some y) x h = ap (λ z. Some z) (let q : y ≡ x = cc in q)

pub same_ok : {X E : Type 0} (x y : X) → (let r : Result X E = Ok x in r) ≡ Ok y → x ≡ y
same_ok x y h = cc

-- what each change keeps, all of them keep
pub try_fold_keeps : {S A E : Type 0} (P : S → Type 0) (f : S → A → Result S E) → ((s t : S) (a : A) → P s → f s a ≡ Ok t → P t) → (s t : S) (items : List A) → P s → try_fold f s items ≡ Ok t → P t
unfolding try_fold
try_fold_keeps P f step s t [] p h = subst P (same_ok s t h) p
try_fold_keeps P f step s t (a ∷ more) p h =
    let one = bind_ok (f s a) (λ next. try_fold f next more) t h in
    try_fold_keeps P f step one.0 t more (step s one.0 a p one.1) one.2

pub length-try_map : {A X E : Type 0} (f : A → Result X E) (items : List A) (made : List X) → try_map f items ≡ Ok made → length made ≡ length items
unfolding try_map
length-try_map f [] made h = ap length (sym (same_ok [] made h))
length-try_map f (a ∷ more) made h =
    let one = bind_ok (f a) (λ first. try_map f more >>= λ others. Ok (first ∷ others)) made h in
    let rest = bind_ok (try_map f more) (λ others. Ok (one.0 ∷ others)) made one.2 in
    ap length (sym (same_ok (one.0 ∷ rest.0) made rest.2)) ∙ ap suc (length-try_map f more rest.0 rest.1)

pub All-try_map : {A X E : Type 0} (P : A → Type 0) (Q : X → Type 0) (f : A → Result X E) → ((a : A) (x : X) → P a → f a ≡ Ok x → Q x) → (items : List A) (made : List X) → All P items → try_map f items ≡ Ok made → All Q made
unfolding try_map
All-try_map P Q f step [] made all h = subst (All Q) (same_ok [] made h) (All-nil Q)
All-try_map P Q f step (a ∷ more) made all h =
    let one = bind_ok (f a) (λ first. try_map f more >>= λ others. Ok (first ∷ others)) made h in
    let rest = bind_ok (try_map f more) (λ others. Ok (one.0 ∷ others)) made one.2 in
    subst (All Q) (same_ok (one.0 ∷ rest.0) made rest.2) (All-cons Q one.0 rest.0 (step a one.0 (All-head P a more all) one.1) (All-try_map P Q f step more rest.0 (All-tail P a more all) rest.1))
