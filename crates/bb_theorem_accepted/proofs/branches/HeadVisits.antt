-- The tests of a `with`, for the verifier: each goes on with a unit on the stack, and elsewhere without it.
use Rattle.std.proofs.Common.{◌≡◌, ℕ, ◌+◌, ◌<◌, ◌∷◌, length, Option, Some, Result, Ok, refl, ap, ◌∙◌, arith}
use Rattle.std.proofs.lemmas.Bool.{lt-leb, lt-ltb}
use Rattle.bb_basis.specs.Results.{◌>>=◌}
use Rattle.bb_code.specs.declared.parts.TheConstants.{STACK_LIMIT}
use Rattle.bb_schema.specs.Schema.{Schema}
use Rattle.bb_schema.specs.Fits as schemas
use Rattle.bb_schema_classes.specs.declared.kind.Link.{Link}
use Rattle.bb_code.specs.Code.{Code}
use Rattle.bb_code.specs.declared.flaw.Flaw.{Flaw as CodeFlaw}
use Rattle.bb_code.specs.declared.frame.Kind.{Kind}
use Rattle.bb_code.specs.declared.frame.Kind.TheVariants as kinds
use Rattle.bb_code.specs.declared.op.Op.TheVariants as ops
use Rattle.bb_verify_effect.specs.Due as dues
use Rattle.bb_code.specs.Each.{each}
use Rattle.bb_verify_effect.specs.Effect.{effect, one, alive, as_class, either}
use Rattle.bb_verify_effect.specs.Frame.{with_stack, pop, push}
use Rattle.bb_verify_effect.specs.declared.frame.Frame.{Frame}
use Rattle.bb_verify.specs.nesting.Jumps.{check_target}
use Rattle.bb_verify.specs.nesting.Loops.{op_due}
use Rattle.bb_verify_effect.specs.declared.part.Part.{Part}
use Rattle.bb_verify.specs.Places.{frame_at, on_due, target_due}
use Rattle.bb_verify.specs.Tables.{in_tables}
use Rattle.bb_theorem_accepted.proofs.buffers.EffectLemmas.{push_on}
use Rattle.bb_theorem_accepted.proofs.blocks.AimLemmas.{no_place}
use Rattle.bb_theorem_accepted.proofs.straight.AtomLemmas.{live_on}
use Rattle.bb_theorem_accepted.proofs.walks.WalkLemmas.{At, Visits, goes_ahead}

module _ (s : Schema) (sf : schemas.Fits s) (part : Part) (code : Code) where
  -- a test of a kind on the stack, which goes on with a unit in its place
  pub record Tests (place at : ℕ) (k gives : Kind) (f : Frame) (next : Option Frame) : Type 0 where
    pub here : frame_at (At s part code place) next ≡ Ok (with_stack (k ∷ f.stack) f)
    pub room : length f.stack < STACK_LIMIT
    pub low : place < at
    pub high : at < length code.ops
    pub more : place + 1 < length code.ops
    pub on : on_due s (Some (with_stack (gives ∷ f.stack) f)) (At s part code (place + 1)) ≡ Ok tt
    pub target : target_due s (Some f) (At s part code at) ≡ Ok tt

  as_gives : (class c : ℕ) (k : Kind) (f : Frame) → dues.class_of k ≡ Ok c → dues.live k ≡ Ok tt → length f.stack < STACK_LIMIT → as_class class (with_stack (k ∷ f.stack) f) ≡ Ok (either (with_stack (kinds.Ref class ∷ f.stack) f) f)
  unfolding as_class
  as_gives class c k f of live lt =
      ap (λ (r : Result (ℕ × Frame) CodeFlaw). r >>= λ unit. push (kinds.Ref class) unit.1 >>= λ next. Ok (either next unit.1)) (live_on s sf part code k c f f.stack of live)
      ∙ ap (λ (r : Result Frame CodeFlaw). r >>= λ next. Ok (either next f)) (push_on s sf part code (kinds.Ref class) f lt)

  pub as_visit : (class place at c : ℕ) (k : Kind) (f : Frame) (next : Option Frame) → Tests place at k (kinds.Ref class) f next → dues.class_of k ≡ Ok c → dues.live k ≡ Ok tt → class < length s.classes
      → Visits s part code place (ops.As class at) next (Some (with_stack (kinds.Ref class ∷ f.stack) f))
  unfolding effect in_tables check_target op_due each
  as_visit class place at c k f next t of live there = record {
    tables = rw (lt-ltb class (length s.classes) there) refl;
    jumps = goes_ahead (length code.ops) place at t.low t.high;
    closed = (let low = t.low in no_place at (omega (arith, low)));
    frame = with_stack (k ∷ f.stack) f;
    here = t.here;
    edges = either (with_stack (kinds.Ref class ∷ f.stack) f) f;
    gives = as_gives class c k f of live t.room;
    there = rw (lt-leb (length code.ops) (place + 1) t.more) refl;
    on = t.on;
    target = t.target;
    leaves = refl;
  }

  alive_gives : (c : ℕ) (k : Kind) (f : Frame) → dues.class_of k ≡ Ok c → length f.stack < STACK_LIMIT → alive (with_stack (k ∷ f.stack) f) ≡ Ok (either (with_stack (kinds.Ref c ∷ f.stack) f) f)
  unfolding alive pop
  alive_gives c k f of lt =
      ap (λ (r : Result ℕ CodeFlaw). r >>= λ class. push (kinds.Ref class) f >>= λ next. Ok (either next f)) of
      ∙ ap (λ (r : Result Frame CodeFlaw). r >>= λ next. Ok (either next f)) (push_on s sf part code (kinds.Ref c) f lt)

  pub alive_visit : (place at c : ℕ) (k : Kind) (f : Frame) (next : Option Frame) → Tests place at k (kinds.Ref c) f next → dues.class_of k ≡ Ok c → Visits s part code place (ops.Alive at) next (Some (with_stack (kinds.Ref c ∷ f.stack) f))
  unfolding effect in_tables check_target op_due each
  alive_visit place at c k f next t of = record {
    tables = refl;
    jumps = goes_ahead (length code.ops) place at t.low t.high;
    closed = (let low = t.low in no_place at (omega (arith, low)));
    frame = with_stack (k ∷ f.stack) f;
    here = t.here;
    edges = either (with_stack (kinds.Ref c ∷ f.stack) f) f;
    gives = alive_gives c k f of t.room;
    there = rw (lt-leb (length code.ops) (place + 1) t.more) refl;
    on = t.on;
    target = t.target;
    leaves = refl;
  }

  one_gives : (slot c : ℕ) (link : Link) (k : Kind) (f : Frame) → dues.class_of k ≡ Ok c → dues.live k ≡ Ok tt → dues.single_slot s c slot ≡ Ok link → length f.stack < STACK_LIMIT
      → one s slot (with_stack (k ∷ f.stack) f) ≡ Ok (either (with_stack (kinds.Ref link.to ∷ f.stack) f) f)
  unfolding one
  one_gives slot c link k f of live single lt =
      ap (λ (r : Result (ℕ × Frame) CodeFlaw). r >>= λ unit. dues.single_slot s unit.0 slot >>= λ l. push (kinds.Ref l.to) unit.1 >>= λ next. Ok (either next unit.1)) (live_on s sf part code k c f f.stack of live)
      ∙ (ap (λ (r : Result Link CodeFlaw). r >>= λ l. push (kinds.Ref l.to) f >>= λ next. Ok (either next f)) single ∙ ap (λ (r : Result Frame CodeFlaw). r >>= λ next. Ok (either next f)) (push_on s sf part code (kinds.Ref link.to) f lt))

  pub one_visit : (slot place at c : ℕ) (link : Link) (k : Kind) (f : Frame) (next : Option Frame) → Tests place at k (kinds.Ref link.to) f next → dues.class_of k ≡ Ok c → dues.live k ≡ Ok tt → dues.single_slot s c slot ≡ Ok link
      → Visits s part code place (ops.One slot at) next (Some (with_stack (kinds.Ref link.to ∷ f.stack) f))
  unfolding effect in_tables check_target op_due each
  one_visit slot place at c link k f next t of live single = record {
    tables = refl;
    jumps = goes_ahead (length code.ops) place at t.low t.high;
    closed = (let low = t.low in no_place at (omega (arith, low)));
    frame = with_stack (k ∷ f.stack) f;
    here = t.here;
    edges = either (with_stack (kinds.Ref link.to ∷ f.stack) f) f;
    gives = one_gives slot c link k f of live single t.room;
    there = rw (lt-leb (length code.ops) (place + 1) t.more) refl;
    on = t.on;
    target = t.target;
    leaves = refl;
  }
