-- Ops that the next op alone follows.
use Rattle.std.proofs.Common.{◌≡◌, true, None, Result, Ok, Err, refl}
use Rattle.bb_code.specs.Answers.{map_ok}
use Rattle.bb_code.specs.declared.flaw.Flaw.{Flaw}
use Rattle.bb_verify_effect.specs.declared.frame.Frame.{Frame}
use Rattle.bb_verify_effect.specs.Effect.{on}
use Rattle.bb_verify_effect.specs.Edges.{edges_of}

pub on_is : {X : Type 0} (done : Result X Flaw) (f : Frame) → map_ok (edges_of f None) (map_ok (λ _. true) done) ≡ on (map_ok (λ _. f) done)
on_is (Ok x) f = refl
on_is (Err e) f = refl
