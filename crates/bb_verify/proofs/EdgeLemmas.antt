-- The frames that an op leaves, where what is known of an accepted code gives them.
use Rattle.std.proofs.Common.{◌≡◌, Option, Some, None, Result, Ok, Err, refl}
use Rattle.bb_basis.specs.Results.{◌>>=◌}
use Rattle.bb_basis.proofs.ResultLemmas.{same_ok}
use Rattle.bb_verify_effect.specs.Edges.{Edges}
use Rattle.bb_verify_effect.specs.Effect.{on}
use Rattle.bb_code.specs.declared.flaw.Flaw.{Flaw}
use Rattle.bb_verify_effect.specs.declared.frame.Frame.{Frame}

pub edges_ok : (r : Result Edges Flaw) (e : Option Frame × Option Frame) → (r >>= λ x. Ok (x.on, x.target)) ≡ Ok e → (x : Edges) × (r ≡ Ok x) × ((x.on, x.target) ≡ e)
edges_ok (Ok x) e h = (x, refl, same_ok (x.on, x.target) e h)
edges_ok (Err flaw) e h = absurd cc

pub on_edges : (r : Result Frame Flaw) (e : Option Frame × Option Frame) → (on r >>= λ x. Ok (x.on, x.target)) ≡ Ok e → (g : Frame) × (r ≡ Ok g) × ((Some g, None) ≡ e)
on_edges (Ok g) e h = (g, refl, same_ok (Some g, None) e h)
on_edges (Err flaw) e h = absurd cc
