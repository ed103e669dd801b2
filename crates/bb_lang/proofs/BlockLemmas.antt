-- A block, by what its opening bracket gives.
use Rattle.std.proofs.Common.{◌≡◌, ◌⊎◌, inl, inr, ℕ, zero, suc, ◌+◌, Bool, true, false, cond, List, Option, Some, None, Result, Ok, Err, refl, sym, ap, ◌∙◌, arith}
use Rattle.std.specs.Prelude.{codes}
use Rattle.bb_basis.specs.Results.{◌>>=◌, ok_or}
use Rattle.bb_basis.proofs.ResultLemmas.{bind_ok, same_ok}
use Rattle.bb_lang_tree.specs.declared.block.Placed.{Placed}
use Rattle.bb_lang_tree.specs.declared.fault.LangFault.{LangFault}
use Rattle.bb_lang_tree.specs.declared.fault.LangFault.TheVariants.{Token, Nesting}
use Rattle.bb_lang_tree.specs.State.{State, next, at, skip}
use Rattle.bb_lang_tree.specs.Blocks.{BlockTree}
use Rattle.bb_lang_tree.specs.BlockView.{block_of}
use Rattle.bb_lang.specs.Repeats.{as_many}
use Rattle.bb_lang.specs.Expressions.{Inner, opened, inside}
use Rattle.bb_lang.specs.Statements.{leave_scope, next_statement, block}
use Rattle.bb_lang.proofs.TestLemmas.{yes}

here_if : {X : Type 0} (b : Bool) (r : Result X LangFault) (e : LangFault) (x : X) → cond b r (Err e) ≡ Ok x → b ≡ true
here_if true r e x h = refl
here_if false r e x h = absurd cc

-- an opening bracket that was taken is skipped
skips : (bracket : List ℕ) (i : Option Inner) (s t : State) (x : Inner) → opened bracket i s ≡ Ok (x, t) → skip bracket s ≡ Ok t
unfolding opened skip
skips bracket i s t x h =
    let one = bind_ok (cond (at bracket s) (ok_or i (Nesting s.place)) (Err (Token s.place))) (λ inner. next s >>= λ u. Ok (inner, u)) (x, t) h in
    let two = bind_ok (next s) (λ u. Ok (one.0, u)) (x, t) one.2 in
    let same : two.0 ≡ t = ap (λ p. p.1) (same_ok (one.0, two.0) (x, t) two.2) in
    yes (at bracket s) (next s) (Err (Token s.place)) (here_if (at bracket s) (ok_or i (Nesting s.place)) (Token s.place) one.0 one.1)
    ∙ two.1 ∙ ap (λ u. Ok u) same

abbrev closed : State → Result (List Placed × State) LangFault → Result (BlockTree × State) LangFault
closed s r = r >>= λ p. skip (codes "}") p.1 >>= λ v. Ok (block_of p.0, leave_scope s v)

-- ---- what is not opened is no block

fails_at : {X Y : Type 0} (e d : LangFault) → (let r : Result X LangFault = Err e in r) ≡ Err d → (let r : Result Y LangFault = Err e in r) ≡ Err d
fails_at e d h = let same : e ≡ d = cc in ap (λ x. Err x) same

none_open : (b : Bool) (n t e : LangFault) (f : Inner → Result (Inner × State) LangFault) → (cond b (ok_or None n) (Err t) >>= f) ≡ Err e → (let r : Result (BlockTree × State) LangFault = cond b (Err n) (Err t) in r) ≡ Err e
none_open true n t e f h = fails_at n e h
none_open false n t e f h = fails_at t e h

abbrev given : Inner → State → Result (Inner × State) LangFault
given x u = Ok (x, u)

next_fails : (r : Result State LangFault) (x : Inner) (e : LangFault) (g : State → Result (BlockTree × State) LangFault) → (r >>= given x) ≡ Err e → (r >>= g) ≡ Err e
next_fails (Ok u) x e g h = absurd cc
next_fails (Err d) x e g h = fails_at d e h

one_open : (b : Bool) (r : Result State LangFault) (x : Inner) (n t e : LangFault) (g : State → Result (BlockTree × State) LangFault) → (cond b (ok_or (Some x) n) (Err t) >>= λ inner. r >>= given inner) ≡ Err e → (cond b r (Err t) >>= g) ≡ Err e
one_open true r x n t e g h = next_fails r x e g h
one_open false r x n t e g h = fails_at t e h

unopened : (nesting : ℕ) (s : State) (e : LangFault) → opened (codes "{") (inside nesting) s ≡ Err e → block nesting s ≡ Err e
unfolding opened inside skip block
unopened zero s e h = none_open (at (codes "{") s) (Nesting s.place) (Token s.place) e (λ inner. next s >>= λ u. Ok (inner, u)) h
unopened (suc n) s e h = one_open (at (codes "{") s) (next s) _ (Nesting s.place) (Token s.place) e (λ t. closed s (as_many (next_statement n (block n)) t)) h

-- ---- what is opened is one

block_is : (nesting m : ℕ) (s t : State) (x : Inner) → m + 1 ≡ nesting → opened (codes "{") (inside nesting) s ≡ Ok (x, t) → block nesting s ≡ closed s (as_many (next_statement m (block m)) t)
unfolding block
block_is zero m s t x one h = absurd (omega arith)
block_is (suc n) m s t x one h =
    let same : n ≡ m = omega arith in
    ap (λ r. r >>= λ u. closed s (as_many (next_statement n (block n)) u)) (skips (codes "{") (inside (suc n)) s t x h)
    ∙ ap (λ k. closed s (as_many (next_statement k (block k)) t)) same

module _ (nesting : ℕ) (s : State) where
  pub unopened_fails : (out e : LangFault) → (e ≡ out) ⊎ (opened (codes "{") (inside nesting) s ≡ Err e) → (e ≡ out) ⊎ (block nesting s ≡ Err e)
  unopened_fails out e (inl m) = inl m
  unopened_fails out e (inr h) = inr (unopened nesting s e h)

  module _ (m : ℕ) (t : State) (x : Inner) (one : m + 1 ≡ nesting) (begun : opened (codes "{") (inside nesting) s ≡ Ok (x, t)) where
    pub statements_fail : (out e : LangFault) → (e ≡ out) ⊎ (as_many (next_statement m (block m)) t ≡ Err e) → (e ≡ out) ⊎ (block nesting s ≡ Err e)
    statements_fail out e (inl h) = inl h
    statements_fail out e (inr h) = inr (block_is nesting m s t x one begun ∙ ap (closed s) h)

    with_statements : (ss : List Placed) (u : State) → as_many (next_statement m (block m)) t ≡ Ok (ss, u) → block nesting s ≡ (skip (codes "}") u >>= λ v. Ok (block_of ss, leave_scope s v))
    with_statements ss u h = block_is nesting m s t x one begun ∙ ap (closed s) h

    pub close_fails : (out e : LangFault) (ss : List Placed) (u : State) → as_many (next_statement m (block m)) t ≡ Ok (ss, u) → (e ≡ out) ⊎ (skip (codes "}") u ≡ Err e) → (e ≡ out) ⊎ (block nesting s ≡ Err e)
    close_fails out e ss u h (inl g) = inl g
    close_fails out e ss u h (inr g) = inr (with_statements ss u h ∙ ap (λ r. r >>= λ v. Ok (block_of ss, leave_scope s v)) g)

    pub block_whole : (ss : List Placed) (u v w : State) (b : BlockTree) → as_many (next_statement m (block m)) t ≡ Ok (ss, u) → skip (codes "}") u ≡ Ok v → b ≡ block_of ss → w ≡ leave_scope s v → block nesting s ≡ Ok (b, w)
    block_whole ss u v w b h g made left =
        with_statements ss u h ∙ ap (λ r. r >>= λ v. Ok (block_of ss, leave_scope s v)) g
        ∙ ap (λ x. Ok (x, leave_scope s v)) (sym made) ∙ ap (λ y. Ok (b, y)) (sym left)
