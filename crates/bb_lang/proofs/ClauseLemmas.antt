-- The clauses of a source, as a loop begins with the first.
use Rattle.std.proofs.Common.{◌≡◌, ℕ, List, [], ◌∷◌, ◌++◌, Ok, sym, ap, ◌∙◌}
use Rattle.bb_basis.specs.Results.{◌>>=◌}
use Rattle.bb_lang_tree.specs.declared.source_text.ClauseText.{ClauseText}
use Rattle.bb_lang_tree.specs.State.{State, left}
use Rattle.bb_lang.specs.Repeats.{repeated, as_many}
use Rattle.bb_lang.specs.Sources.{clause, next_clause, clauses}
use Rattle.bb_lang.specs.proving.Fronts.{with_front}
use Rattle.bb_lang.proofs.RepeatLemmas.{one_before}

pub clauses_begin : (s t : State) (x : ClauseText) (old new : List ClauseText) (end : ℕ) → clause s ≡ Ok (x, t) → old ≡ [] → new ≡ old ++ x ∷ [] → end ≡ left t
    → clauses s ≡ with_front new (repeated end next_clause t)
unfolding clauses as_many
clauses_begin s t x old new end got empty made all =
    ap (λ r. r >>= λ p. as_many next_clause p.1 >>= λ q. Ok (p.0 ∷ q.0, q.1)) got
    ∙ one_before x (repeated (left t) next_clause t)
    ∙ ap (λ l. with_front l (repeated (left t) next_clause t)) (sym (made ∙ ap (λ l. l ++ x ∷ []) empty))
    ∙ ap (λ n. with_front new (repeated n next_clause t)) (sym all)
