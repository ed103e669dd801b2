use Rattle.std.proofs.Common.{refl}
use Rattle.bb_rules.proofs.resolve.reaction_clauses.Goals as goal

pub returns-in_ok-clauses-in-Some-Some : goal.returns-in_ok-clauses-in-Some-Some
returns-in_ok-clauses-in-Some-Some g c = rw (c.in-Some-Some.is-0, c.in-Some-Some.is-1, ← c.as_slice.ensures, c.in_ok-clauses-in-Some-Some.ensures) refl
