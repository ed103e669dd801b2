-- Parts of an expression, one after another, lead from frame to frame.
use Rattle.std.proofs.Common.{◌≡◌, ℕ, ◌+◌, ◌-◌, ◌<◌, ◌≤◌, [], ◌∷◌, length, Option, Some, None, refl, subst, sym, ap, ◌∙◌, arith}
use Rattle.bb_code.specs.declared.parts.TheConstants.{STACK_LIMIT}
use Rattle.bb_schema.specs.Schema.{Schema}
use Rattle.bb_schema.specs.Fits as schemas
use Rattle.bb_code.specs.Code.{Code}
use Rattle.bb_code.specs.declared.frame.Kind.{Kind}
use Rattle.bb_code.specs.declared.frame.Kind.TheVariants as kinds
use Rattle.bb_code.specs.declared.op.Op.{Op}
use Rattle.bb_compile_buffer.specs.declared.buffer.Buffer.{Buffer}
use Rattle.bb_compile_buffer.specs.Operations.{Made}
use Rattle.bb_verify_effect.specs.declared.part.Part.{Part}
use Rattle.bb_verify_effect.specs.declared.frame.Frame.{Frame}
use Rattle.bb_verify_effect.specs.Frame.{with_stack}
use Rattle.bb_theorem_accepted.proofs.buffers.StraightLemmas.{Gives, Leads, leads_on}
use Rattle.bb_theorem_accepted.proofs.kinds.UnderLemmas.{IsUnder, AreKnown}
use Rattle.bb_theorem_accepted.proofs.kinds.KnowLemmas.{HasSequences}
use Rattle.bb_theorem_accepted.proofs.buffers.BufferLemmas.{Clean, Grown, with_op, grown_op, grown_on}
use Rattle.bb_theorem_accepted.proofs.buffers.EffectLemmas.{OneGives, TwoGives}

-- a buffer but for what expressions put on it
abbrev pub bare : Buffer → Buffer
bare s = record s { ops = []; texts = []; queries = []; flaw = None }

pub bare_op : (op : Op) (s t : Buffer) → t ≡ with_op op s → bare t ≡ bare s
bare_op op s t put = ap bare put

module _ (schema : Schema) (sf : schemas.Fits schema) (part : Part) (code : Code) where
  -- the verifier knows of each name's local what the compiler takes it for
  abbrev pub Known : Frame → Buffer → Type 0
  Known f s = (length f.locals ≡ code.locals) × AreKnown schema sf f.locals s.scope.kinds s.scope.names × HasSequences schema sf f.locals s.scope.kinds

  pub known_same : (f : Frame) (s t : Buffer) → bare t ≡ bare s → Known f s → Known f t
  known_same f s t same known = (known.0, subst (λ (u : Buffer). AreKnown schema sf f.locals u.scope.kinds u.scope.names) (sym same) known.1, subst (λ (u : Buffer). HasSequences schema sf f.locals u.scope.kinds) (sym same) known.2)

  -- what is laid out from one buffer to another pushes a value of a kind, where the stack has room for `space` values
  pub record Lays (space : ℕ) (s t : Buffer) (made : Made) : Type 0 where
    pub grown : Grown s t
    pub clean : Clean s
    pub same : bare t ≡ bare s
    pub some : 1 ≤ space
    pub kind : Kind
    pub made_is : made ≡ Some kind
    pub leads : (f : Frame) → Known f s → length f.stack + space ≡ STACK_LIMIT → (k : Kind) × IsUnder schema sf k kind × Leads schema part code grown.ops f (with_stack (k ∷ f.stack) f)

  -- what is laid out from one buffer to another leaves a value of a kind in the place of the newest one
  pub record Turns (space : ℕ) (s t : Buffer) (left made : Made) : Type 0 where
    pub grown : Grown s t
    pub clean : Clean s
    pub same : bare t ≡ bare s
    pub turns : (thought : Kind) → left ≡ Some thought → (gives : Kind) × (made ≡ Some gives)
        × ((f : Frame) (k : Kind) → Known f s → IsUnder schema sf k thought → 1 ≤ space → length f.stack + space ≡ STACK_LIMIT
        → (g : Kind) × IsUnder schema sf g gives × Leads schema part code grown.ops (with_stack (k ∷ f.stack) f) (with_stack (g ∷ f.stack) f))

  pub lays_on : (space : ℕ) (s t u : Buffer) (left made : Made) → Lays space s t left → Turns space t u left made → Lays space s u made
  unfolding grown_on
  lays_on space s t u left made first then =
      let turn = then.turns first.kind first.made_is in
      record {
        grown = grown_on s t u first.grown then.grown;
        clean = first.clean;
        same = then.same ∙ first.same;
        some = first.some;
        kind = turn.0;
        made_is = turn.1;
        leads = λ f known count.
            let one = first.leads f known count in
            let two = turn.2 f one.0 (known_same f s t first.same known) one.1 first.some count in
            (two.0, two.1, leads_on schema part code first.grown.ops then.grown.ops f (with_stack (one.0 ∷ f.stack) f) (with_stack (two.0 ∷ f.stack) f) one.2 two.2);
      }

  pub turns_on : (space : ℕ) (s t u : Buffer) (left between made : Made) → Turns space s t left between → Turns space t u between made → Turns space s u left made
  unfolding grown_on
  turns_on space s t u left between made first then = record {
    grown = grown_on s t u first.grown then.grown;
    clean = first.clean;
    same = then.same ∙ first.same;
    turns = λ thought left_is.
        let one = first.turns thought left_is in
        let two = then.turns one.0 one.1 in (
          two.0,
          two.1,
          λ f k known under some count.
              let a = one.2 f k known under some count in
              let b = two.2 f a.0 (known_same f s t first.same known) a.1 some count in
              (b.0, b.1, leads_on schema part code first.grown.ops then.grown.ops (with_stack (k ∷ f.stack) f) (with_stack (a.0 ∷ f.stack) f) (with_stack (b.0 ∷ f.stack) f) a.2 b.2),
        );
  }

  -- an op that pushes a value
  pub push_lays : (space : ℕ) (s t : Buffer) (op : Op) (made : Made) (kind : Kind) → Clean s → t ≡ with_op op s → made ≡ Some kind → 1 ≤ space
      → ((f : Frame) → Known f s → length f.stack < STACK_LIMIT → (k : Kind) × IsUnder schema sf k kind × Gives schema part code op f (with_stack (k ∷ f.stack) f)) → Lays space s t made
  unfolding grown_op
  push_lays space s t op made kind clean put made_is some gives = record {
    grown = grown_op op s t put;
    clean = clean;
    same = bare_op op s t put;
    some = some;
    kind = kind;
    made_is = made_is;
    leads = λ f known count.
        let g = gives f known (omega (arith, count, some)) in
        (g.0, g.1, (with_stack (g.0 ∷ f.stack) f, g.2, refl));
  }

  -- an op on the newest value
  pub one_turns : (space : ℕ) (s t : Buffer) (op : Op) (left made : Made) → Clean s → t ≡ with_op op s → ((thought : Kind) → left ≡ Some thought → (gives : Kind) × (made ≡ Some gives) × OneGives schema sf part code op thought gives)
      → Turns space s t left made
  unfolding grown_op
  one_turns space s t op left made clean put gives = record {
    grown = grown_op op s t put;
    clean = clean;
    same = bare_op op s t put;
    turns = λ thought left_is.
        let one = gives thought left_is in (
          one.0,
          one.1,
          λ f k known under some count.
              let g = one.2 f f.stack k under (omega (arith, count, some)) in
              (g.0, g.1, (with_stack (g.0 ∷ f.stack) f, g.2, refl)),
        );
  }

  -- a value more, and an op on both
  pub two_turns : (space : ℕ) (s t u : Buffer) (op : Op) (left right made : Made) → Lays (space - 1) s t right → u ≡ with_op op t
      → ((thought other : Kind) → left ≡ Some thought → right ≡ Some other → (gives : Kind) × (made ≡ Some gives) × TwoGives schema sf part code op thought other gives) → Turns space s u left made
  unfolding grown_on grown_op
  two_turns space s t u op left right made more put gives = record {
    grown = grown_on s t u more.grown (grown_op op t u put);
    clean = more.clean;
    same = bare_op op t u put ∙ more.same;
    turns = λ thought left_is.
        let two = gives thought more.kind left_is more.made_is in (
          two.0,
          two.1,
          λ f k known under some count.
              let both = with_stack (k ∷ f.stack) f in
              let later = more.leads both known (omega (arith, count, some, more.some)) in
              let g = two.2 f f.stack k later.0 under later.1 (omega (arith, count, some)) in
              let last : Leads schema part code (op ∷ []) (with_stack (later.0 ∷ k ∷ f.stack) f) (with_stack (g.0 ∷ f.stack) f) = (with_stack (g.0 ∷ f.stack) f, g.2, refl) in
              (g.0, g.1, leads_on schema part code more.grown.ops (op ∷ []) both (with_stack (later.0 ∷ k ∷ f.stack) f) (with_stack (g.0 ∷ f.stack) f) later.2 last),
        );
  }

  -- ---- sequences

  -- what is laid out pushes a sequence
  pub record LaysUnits (space : ℕ) (s t : Buffer) (found : Option ℕ) : Type 0 where
    pub grown : Grown s t
    pub clean : Clean s
    pub same : bare t ≡ bare s
    pub some : 1 ≤ space
    pub class : ℕ
    pub found_is : found ≡ Some class
    pub there : class < length schema.classes
    pub leads : (f : Frame) → Known f s → length f.stack + space ≡ STACK_LIMIT → Leads schema part code grown.ops f (with_stack (kinds.Seq class ∷ f.stack) f)
