-- The chains of each level are operands with steps after them.
use Rattle.std.proofs.Common.{◌≡◌, ◌⊎◌, inl, inr, List, Option, Ok, Err, refl, sym, ap, ◌∙◌}
use Rattle.bb_basis.specs.Results.{◌>>=◌}
use Rattle.bb_lang.specs.declared.level.Level.{Level}
use Rattle.bb_lang.specs.declared.level.Level.TheVariants.{Or, And, Sum, Term}
use Rattle.bb_lang_tree.specs.declared.fault.LangFault.{LangFault}
use Rattle.bb_lang_tree.specs.declared.tree.Step.{Step}
use Rattle.bb_lang_tree.specs.State.{State}
use Rattle.bb_lang_tree.specs.Trees.{ExprTree}
use Rattle.bb_lang.specs.Repeats.{as_many}
use Rattle.bb_lang.specs.Expressions.{Inner, step, chained, chain_of, term, sum, conjunction, expr_in, operand_of, chain_at}

pub chain_is : (level : Level) (i : Option Inner) (s : State) → chain_at level i s ≡ (operand_of level i s >>= λ p. as_many (step level (operand_of level i)) p.1 >>= λ q. Ok (chained p.0 q.0, q.1))
unfolding chain_of term sum conjunction expr_in
chain_is Or i s = refl
chain_is And i s = refl
chain_is Sum i s = refl
chain_is Term i s = refl

module _ (level : Level) (i : Option Inner) (s : State) where
  -- a fault of the first operand
  pub first_fails : (out e : LangFault) → (e ≡ out) ⊎ (operand_of level i s ≡ Err e) → (e ≡ out) ⊎ (chain_at level i s ≡ Err e)
  first_fails out e (inl m) = inl m
  first_fails out e (inr h) = inr (chain_is level i s ∙ ap (λ r. r >>= λ p. as_many (step level (operand_of level i)) p.1 >>= λ q. Ok (chained p.0 q.0, q.1)) h)

  with_first : (first : ExprTree) (t : State) → operand_of level i s ≡ Ok (first, t) → chain_at level i s ≡ (as_many (step level (operand_of level i)) t >>= λ q. Ok (chained first q.0, q.1))
  with_first first t h = chain_is level i s ∙ ap (λ r. r >>= λ p. as_many (step level (operand_of level i)) p.1 >>= λ q. Ok (chained p.0 q.0, q.1)) h

  -- a fault of the steps
  pub steps_fail : (out e : LangFault) (first : ExprTree) (t : State) → operand_of level i s ≡ Ok (first, t) → (e ≡ out) ⊎ (as_many (step level (operand_of level i)) t ≡ Err e) → (e ≡ out) ⊎ (chain_at level i s ≡ Err e)
  steps_fail out e first t h (inl m) = inl m
  steps_fail out e first t h (inr g) = inr (with_first first t h ∙ ap (λ r. r >>= λ q. Ok (chained first q.0, q.1)) g)

  -- the whole
  pub chain_whole : (first e : ExprTree) (steps : List Step) (t u : State) → operand_of level i s ≡ Ok (first, t) → as_many (step level (operand_of level i)) t ≡ Ok (steps, u) → e ≡ chained first steps → chain_at level i s ≡ Ok (e, u)
  chain_whole first e steps t u h g made = with_first first t h ∙ ap (λ r. r >>= λ q. Ok (chained first q.0, q.1)) g ∙ ap (λ x. Ok (x, u)) (sym made)
