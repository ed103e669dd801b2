-- Where the body of a `for` ends, and what stands after the loop, for a code that agrees with what is laid out.
use Rattle.std.proofs.Common.{◌≡◌, ℕ, ◌+◌, ◌<◌, Bool, true, false, List, length, Some, subst, sym, ap, ◌∙◌, arith}
use Rattle.std.specs.Prelude.{option_map}
use Rattle.bb_schema.specs.Schema.{Schema}
use Rattle.bb_schema.specs.Fits as schemas
use Rattle.bb_code.specs.Code.{Code}
use Rattle.bb_lang.specs.Sequence.{Sequence}
use Rattle.bb_lang.specs.Blocks.{BlockTree}
use Rattle.bb_compile_scope.specs.LocalKinds.{is_free, kind_at}
use Rattle.bb_compile_scope.specs.declared.scope.Scope.{Scope}
use Rattle.bb_compile_buffer.specs.declared.buffer.Buffer.{Buffer}
use Rattle.bb_compile_buffer.specs.Buffers.{labelled, kept, leave}
use Rattle.bb_compile.specs.Statements.{at_back}
use Rattle.bb_verify_effect.specs.declared.part.Part.{Part}
use Rattle.bb_code.specs.declared.parts.TheConstants.{STACK_LIMIT}
use Rattle.bb_theorem_accepted.proofs.buffers.LayLemmas.{LaysUnits}
use Rattle.bb_theorem_accepted.proofs.kinds.LabelLemmas.{labels_of, label_at, Rises, HasLast, AllLabels, labelled_rises, labelled_all, rises_weaker, frame_by}
use Rattle.bb_theorem_accepted.proofs.kinds.ValueLemmas.{IsFit}
use Rattle.bb_theorem_accepted.proofs.kinds.MoveLemmas.{Sole, Moves, kept_moves}
use Rattle.bb_theorem_accepted.proofs.walks.JoinLemmas.{here, AreGood, Sound, Agrees}
use Rattle.bb_theorem_accepted.proofs.blocks.BlockLemmas.{Lays}
use Rattle.bb_theorem_accepted.proofs.branches.BranchScopes.{labelled_sound, labelled_here}
use Rattle.bb_theorem_accepted.proofs.blocks.LoopLaid.{ForLaid}
use Rattle.bb_theorem_accepted.proofs.blocks.ForLays as lays
use Rattle.bb_theorem_accepted.proofs.sparing.ScopeLemmas.{Levels}
use Rattle.bb_theorem_accepted.proofs.sparing.ForActs as acts
use Rattle.bb_compile_scope.specs.Scope.{mark_of}
use Rattle.bb_theorem_accepted.proofs.loops.LoopSounds.{fit_aged}
use Rattle.bb_theorem_accepted.proofs.sparing.BranchActs.{BlockActs}
use Rattle.bb_theorem_accepted.proofs.loops.ForSounds as begins

module _ (schema : Schema) (sf : schemas.Fits schema) (part : Part) (code : Code) (loops : ℕ) (name : List ℕ) (sequence : Sequence) (body : BlockTree) (s t : Buffer) (now : Bool) (sole : Sole s.scope.kinds s.scope.names)
    (f : ForLaid schema part loops name sequence body s t now) (block : Lays f.inner f.end) (units : LaysUnits schema sf part code STACK_LIMIT s f.sequence_is.behind (Some f.class))
    (sound : Sound schema sf part code s) (agrees : Agrees schema sf part code t) where
  abbrev left : Buffer
  left = lays.left schema part loops name sequence body s t now f

  abbrev closed : Buffer
  closed = lays.closed schema part loops name sequence body s t now f

  abbrev pub over : ℕ
  over = lays.over schema part loops name sequence body s t now f block

  abbrev stored : ℕ
  stored = lays.stored schema part loops name sequence body s t now f

  over_is : over ≡ length f.end.ops + 1
  over_is = lays.over_is schema part loops name sequence body s t now f block

  count_t : length t.ops ≡ over
  count_t = lays.count_t schema part loops name sequence body s t now f block

  -- labels before the end of the body
  pub end_marks : (p : ℕ) → p < length f.end.ops → label_at (labels_of t) p ≡ label_at (labels_of f.end) p
  end_marks p lt =
      let count = lays.length_aimed schema part loops name sequence body s t now f block in
      let behind = over_is in
      ap (λ (x : Buffer). label_at (labels_of x) p) f.is ∙ (lays.labelled_marks (leave (mark_of s.scope) closed) p (omega (arith, lt, count, behind)) ∙ lays.back_marks f.begun f.ended left p lt)

  pub agrees_end : Agrees schema sf part code f.end
  agrees_end =
      let same = lays.t_same schema part loops name sequence body s t now f block in
      let back = lays.back_same f.begun f.ended left in
      let locals : t.locals ≡ f.end.locals = same.4 ∙ back.4 in
      let few = agrees.locals in
      let le = agrees.within in
      let count = count_t in
      let behind = over_is in
      record {
        has = lays.end_has schema part loops name sequence body s t now f block code agrees.has;
        within = omega (arith, le, count, behind);
        locals = omega (arith, locals, few);
        frames = λ p lt. agrees.frames p (omega (arith, lt, count, behind)) ∙ ap (option_map (frame_by code.locals)) (end_marks p lt);
      }

  -- ---- what stands after the loop

  module _ (own : BlockActs schema body f.inner.scope f.end.scope) (tidy_end : Sound schema sf part code f.end) where
    level : Levels s.scope t.scope
    level = (acts.for_acts schema part loops name sequence body s t now sole f own).level

    pub moves_t : Moves schema sf s t
    moves_t =
        kept_moves schema sf s t level.names (lays.for_locals schema part loops name sequence body s t now f block) (λ tidy. level.agree)
        (λ tidy i taken. let was = sym (level.free i) ∙ taken in (was, fit_aged schema sf (kind_at s.scope.kinds i) (kind_at t.scope.kinds i) (level.agree i was) (tidy.good i was)))

    -- labels up to the way back
    abbrev Labelled : Buffer → Type 0
    Labelled x = Rises 0 (labels_of x) (length x.ops + 1) × HasLast x.labels x.last × AllLabels (AreGood schema sf part code) (labels_of x)

    back_labels : (e : Bool) → AreGood schema sf part code f.begun.start.kinds → Labelled (at_back f.begun e left)
    unfolding labelled
    back_labels true good = (labelled_rises f.end.labels f.end.last (length f.end.ops) f.begun.start.kinds tidy_end.last tidy_end.rises, tt, labelled_all (AreGood schema sf part code) f.end.labels f.end.last (length f.end.ops) f.begun.start.kinds tidy_end.good good)
    back_labels false good = (tidy_end.rises, tidy_end.last, tidy_end.good)

    start_good : AreGood schema sf part code f.begun.start.kinds
    start_good i taken =
        let start = ap (λ m. m.kinds) (acts.start_is schema part loops name sequence body s t now sole f own) in
        let head_kinds = ap (λ (c : Scope). c.kinds) (acts.head_scope schema part loops name sequence body s t now sole f) in
        let sound_h = begins.sound_head schema sf part code loops name sequence body s t now sole f block units sound in
        subst (λ ks. is_free (kind_at ks i) ≡ false → IsFit schema sf (kind_at ks i)) (sym start) (subst (λ ks. is_free (kind_at ks i) ≡ false → IsFit schema sf (kind_at ks i)) head_kinds (sound_h.tidy.good i)) taken

    abbrev last_one : Buffer
    last_one = leave (mark_of s.scope) closed

    t_labels : t.labels ≡ kept last_one.labels last_one.last (length last_one.ops)
    unfolding labelled
    t_labels = ap (λ (x : Buffer). x.labels) f.is

    t_last : t.last ≡ Some (record { place = length last_one.ops; kinds = t.scope.kinds })
    unfolding labelled
    t_last = ap (λ (x : Buffer). x.last) f.is ∙ ap (λ ks. Some (record { place = length last_one.ops; kinds = ks })) (sym (ap (λ (x : Buffer). x.scope.kinds) f.is))

    same_count : length t.ops ≡ length last_one.ops
    same_count = ap length (lays.t_same schema part loops name sequence body s t now f block).0

    pub here_t : here t ≡ Some t.scope.kinds
    here_t = labelled_here schema sf part code last_one t (length last_one.ops) same_count t_labels t_last

    pub sound_t : Sound schema sf part code t
    sound_t =
        let l = back_labels f.ended start_good in
        let count = lays.length_aimed schema part loops name sequence body s t now f block in
        let behind = over_is in
        let same : length (at_back f.begun f.ended left).ops ≡ length f.end.ops = ap length (lays.back_same f.begun f.ended left).0 in
        labelled_sound schema sf part code last_one t (length last_one.ops) (rises_weaker 0 (labels_of last_one) (length (at_back f.begun f.ended left).ops + 1) (length last_one.ops + 1) (omega (arith, same, count, behind)) l.0) l.1 l.2 same_count t_labels t_last (moves_t.tidy sound.tidy)
