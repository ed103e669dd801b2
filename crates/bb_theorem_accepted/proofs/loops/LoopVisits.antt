-- The ops of a loop, for the verifier: its head goes on with a unit, and after the loop where none is left, and the
-- way back goes to the head.
use Rattle.std.proofs.Common.{◌≡◌, ℕ, ◌+◌, ◌<◌, ◌≤◌, ◌∷◌, length, Option, Some, None, Result, Ok, refl, ap}
use Rattle.std.proofs.lemmas.Bool.{lt-leb, lt-ltb}
use Rattle.bb_basis.specs.Results.{◌>>=◌}
use Rattle.bb_code.specs.declared.parts.TheConstants.{STACK_LIMIT}
use Rattle.bb_schema.specs.Schema.{Schema}
use Rattle.bb_schema.specs.Fits as schemas
use Rattle.bb_code.specs.Code.{Code}
use Rattle.bb_code.specs.declared.flaw.Flaw.{Flaw as CodeFlaw}
use Rattle.bb_code.specs.declared.frame.Kind.TheVariants as kinds
use Rattle.bb_code.specs.declared.op.Op.TheVariants as ops
use Rattle.bb_verify_effect.specs.Effect.{effect, next_unit, either, only_there}
use Rattle.bb_verify_effect.specs.Frame.{with_stack, room, local_at}
use Rattle.bb_verify_effect.specs.declared.frame.Frame.{Frame}
use Rattle.bb_verify.specs.nesting.Jumps.{check_target}
use Rattle.bb_verify_effect.specs.declared.part.Part.{Part}
use Rattle.bb_verify.specs.Places.{frame_at, on_due, target_due}
use Rattle.bb_verify.specs.Tables.{in_tables}
use Rattle.bb_theorem_accepted.proofs.blocks.AimLemmas.{no_place}
use Rattle.bb_theorem_accepted.proofs.buffers.EffectLemmas.{push_on}
use Rattle.bb_theorem_accepted.proofs.walks.WalkLemmas.{At, Visits}

module _ (s : Schema) (sf : schemas.Fits s) (part : Part) (code : Code) where
  next_gives : (local c : ℕ) (f : Frame) → local_at local f ≡ kinds.Seq c → length f.stack < STACK_LIMIT → next_unit local f ≡ Ok (either (with_stack (kinds.Ref c ∷ f.stack) f) f)
  unfolding next_unit room
  next_gives local c f holds lt =
      rw (lt-leb STACK_LIMIT (length f.stack) lt, holds)
      (ap (λ (r : Result Frame CodeFlaw). r >>= λ next. Ok (either next f)) (push_on s sf part code (kinds.Ref c) f lt))

  -- the head of a loop
  pub next_visit : (place at local c : ℕ) (f : Frame) (next : Option Frame) → frame_at (At s part code place) next ≡ Ok f → local_at local f ≡ kinds.Seq c → length f.stack < STACK_LIMIT → local < code.locals → 1 ≤ at → at < length code.ops → place + 1 < length code.ops
      → on_due s (Some (with_stack (kinds.Ref c ∷ f.stack) f)) (At s part code (place + 1)) ≡ Ok tt → target_due s (Some f) (At s part code at) ≡ Ok tt → Visits s part code place (ops.Next local at) next (Some (with_stack (kinds.Ref c ∷ f.stack) f))
  unfolding effect in_tables check_target
  next_visit place at local c f next here holds free within some high lt on target = record {
    tables = rw (lt-ltb local code.locals within) refl;
    jumps = rw (lt-ltb at (length code.ops) high) refl;
    closed = no_place at some;
    frame = f;
    here = here;
    edges = either (with_stack (kinds.Ref c ∷ f.stack) f) f;
    gives = next_gives local c f holds free;
    there = rw (lt-leb (length code.ops) (place + 1) lt) refl;
    on = on;
    target = target;
    leaves = refl;
  }

  -- the way back
  pub back_visit : (place head : ℕ) (f : Frame) (next : Option Frame) → frame_at (At s part code place) next ≡ Ok f → head < place → target_due s (Some f) (At s part code head) ≡ Ok tt → Visits s part code place (ops.Back head) next None
  unfolding effect in_tables check_target
  back_visit place head f next here low target = record {
    tables = refl;
    jumps = rw (lt-ltb head place low) refl;
    closed = refl;
    frame = f;
    here = here;
    edges = only_there f;
    gives = refl;
    there = refl;
    on = refl;
    target = target;
    leaves = refl;
  }
