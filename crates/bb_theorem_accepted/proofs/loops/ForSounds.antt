-- Where the body of a `for` begins and ends, for a code that agrees with what is laid out.
use Rattle.std.proofs.Common.{◌≡◌, ℕ, ◌+◌, ◌<◌, ◌≤◌, Bool, List, length, Some, refl, subst, sym, ap, ◌∙◌, arith}
use Rattle.std.specs.Prelude.{max}
use Rattle.std.proofs.lemmas.Bool.{lt-ltb}
use Rattle.bb_schema.specs.Schema.{Schema}
use Rattle.bb_schema.specs.Fits as schemas
use Rattle.bb_code.specs.Code.{Code}
use Rattle.bb_code.specs.declared.frame.Kind.TheVariants as kinds
use Rattle.bb_lang.specs.Sequence.{Sequence}
use Rattle.bb_lang.specs.Blocks.{BlockTree}
use Rattle.bb_compile_scope.specs.declared.scope.Scope.{Scope}
use Rattle.bb_compile_buffer.specs.declared.buffer.Buffer.{Buffer}
use Rattle.bb_compile_buffer.specs.Buffers.{labelled, kept}
use Rattle.bb_verify_effect.specs.declared.part.Part.{Part}
use Rattle.bb_theorem_accepted.proofs.kinds.UnderLemmas.{descends_same}
use Rattle.bb_theorem_accepted.proofs.buffers.BufferLemmas.{count_of}
use Rattle.bb_code.specs.declared.parts.TheConstants.{STACK_LIMIT}
use Rattle.bb_theorem_accepted.proofs.buffers.LayLemmas.{LaysUnits}
use Rattle.bb_theorem_accepted.proofs.straight.StoreLemmas.{declare_is}
use Rattle.bb_theorem_accepted.proofs.kinds.ValueLemmas.{IsGood}
use Rattle.bb_theorem_accepted.proofs.kinds.MoveLemmas.{Sole, Tidy, moves_same, declared_moves}
use Rattle.bb_theorem_accepted.proofs.walks.JoinLemmas.{Sound}
use Rattle.bb_theorem_accepted.proofs.blocks.BlockLemmas.{Lays}
use Rattle.bb_theorem_accepted.proofs.walks.GoesLemmas.{plain_sound}
use Rattle.bb_theorem_accepted.proofs.branches.BranchScopes.{labelled_sound}
use Rattle.bb_theorem_accepted.proofs.blocks.LoopLaid.{ForLaid}
use Rattle.bb_theorem_accepted.proofs.blocks.ForLays as lays
use Rattle.bb_theorem_accepted.proofs.sparing.ScopeLemmas.{Levels}
use Rattle.bb_theorem_accepted.proofs.sparing.ForActs as acts
use Rattle.bb_theorem_accepted.proofs.loops.LoopSounds.{level_tidy, held_tidy}

module _ (schema : Schema) (sf : schemas.Fits schema) (part : Part) (code : Code) (loops : ℕ) (name : List ℕ) (sequence : Sequence) (body : BlockTree) (s t : Buffer) (now : Bool) (sole : Sole s.scope.kinds s.scope.names)
    (f : ForLaid schema part loops name sequence body s t now) (block : Lays f.inner f.end) (units : LaysUnits schema sf part code STACK_LIMIT s f.sequence_is.behind (Some f.class)) where
  abbrev IsSound : Buffer → Type 0
  IsSound x = Sound schema sf part code x

  abbrev head : Buffer
  head = f.head_is.head

  abbrev at_head : Scope
  at_head = acts.head schema part loops name sequence body s t now sole f

  pub class_is : units.class ≡ f.class
  class_is = (let e = units.found_is in cc)

  class_is_there : f.class < length schema.classes
  class_is_there = subst (λ n. n < length schema.classes) class_is units.there

  pub head_locals : head.locals ≡ f.held.locals
  unfolding labelled
  head_locals = ap (λ (x : Buffer). x.locals) f.head_is.head_is

  pub head_labels : head.labels ≡ kept f.held.labels f.held.last (length f.held.ops)
  unfolding labelled
  head_labels = ap (λ (x : Buffer). x.labels) f.head_is.head_is

  pub head_last : head.last ≡ Some (record { place = length f.held.ops; kinds = head.scope.kinds })
  unfolding labelled
  head_last = ap (λ (x : Buffer). x.last) f.head_is.head_is ∙ ap (λ ks. Some (record { place = length f.held.ops; kinds = ks })) (sym (ap (λ (x : Buffer). x.scope.kinds) f.head_is.head_is))

  -- ---- where the body begins

  module _ (sound : IsSound s) where
    held_tidy_is : Tidy schema sf f.held
    held_tidy_is =
        held_tidy schema sf s f.held f.local f.class (acts.free schema part loops name sequence body s t now sole f) class_is_there (acts.names_held schema part loops name sequence body s t now sole f) (acts.kinds_held schema part loops name sequence body s t now sole f)
        locals_held (acts.agree_held schema part loops name sequence body s t now sole f) sound.tidy
      where
        locals_held : f.held.locals ≡ max s.locals (f.local + 1)
        locals_held = ap (λ (x : Buffer). x.locals) f.sequence_is.is ∙ ap (λ n. max n (f.local + 1)) same
          where
            same : f.sequence_is.behind.locals ≡ s.locals
            same = ap (λ (x : Buffer). x.locals) units.same

    pub sound_held : IsSound f.held
    sound_held =
        let a = lays.adds schema part loops name sequence body s t now f in
        let count = count_of s f.sequence_is.behind a.grown in
        let more = lays.held_count schema part loops name sequence body s t now f block in
        plain_sound schema sf part code s f.held sound (ap (λ (x : Buffer). x.labels) f.sequence_is.is ∙ a.labels) (ap (λ (x : Buffer). x.last) f.sequence_is.is ∙ a.last) (omega (arith, count, more)) held_tidy_is

    head_tidy : Tidy schema sf head
    head_tidy = level_tidy schema sf f.held head (subst (Levels f.held.scope) (sym (acts.head_scope schema part loops name sequence body s t now sole f)) (acts.level_head schema part loops name sequence body s t now sole f)) same_locals held_tidy_is
      where
        same_locals : f.held.locals ≤ head.locals
        same_locals = let e : head.locals ≡ f.held.locals = head_locals in omega (arith, e)

    pub sound_head : IsSound head
    sound_head =
        labelled_sound schema sf part code f.held head (length f.held.ops) sound_held.rises sound_held.last sound_held.good (ap length (lays.head_ops schema part loops name sequence body s t now f)) head_labels head_last head_tidy

    inner_tidy : Tidy schema sf f.inner
    inner_tidy =
        let u = lays.next schema part loops name sequence body s t now f in
        let d = declare_is name (kinds.Ref f.class) u f.inner f.head_is.declared in
        (declared_moves schema sf u f.inner name d.0 (kinds.Ref f.class) d.1 (λ tidy. ref_good) (ap (λ (x : Buffer). x.scope.names) d.2) (ap (λ (x : Buffer). x.scope.kinds) d.2) (ap (λ (x : Buffer). x.locals) d.2)).tidy (next_tidy u refl refl)
      where
        ref_good : IsGood schema sf (kinds.Ref f.class)
        ref_good = (rw (lt-ltb f.class (length schema.classes) class_is_there) refl, (f.class, refl, descends_same schema sf f.class))

        next_tidy : (u : Buffer) → u.scope ≡ head.scope → u.locals ≡ head.locals → Tidy schema sf u
        next_tidy u scope locals = (moves_same schema sf head u scope locals).tidy head_tidy

    pub sound_inner : IsSound f.inner
    sound_inner =
        let e = lays.inner_is schema part loops name sequence body s t now f in
        let count = lays.inner_count schema part loops name sequence body s t now f block in
        let same : length head.ops ≡ length f.held.ops = ap length (lays.head_ops schema part loops name sequence body s t now f) in
        plain_sound schema sf part code head f.inner sound_head (ap (λ (x : Buffer). x.labels) e) (ap (λ (x : Buffer). x.last) e) (omega (arith, count, same)) inner_tidy
