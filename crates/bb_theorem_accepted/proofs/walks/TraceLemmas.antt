-- The frames that the verifier finds: where it comes to a place with what the op before left, it goes from there
-- through whatever walks from there.
use Rattle.std.proofs.Common.{◌≡◌, ℕ, suc, ◌+◌, ◌<◌, List, [], ◌∷◌, ◌++◌, length, Option, Some, Ok, refl, subst, sym, ap, ◌∙◌, arith, append_assoc, length-append}
use Rattle.std.specs.Prelude.{slice_get}
use Rattle.std.proofs.lemmas.List.{append-nil}
use Rattle.std.proofs.lemmas.Option.{slice_get_within}
use Rattle.bb_basis.proofs.ResultLemmas.{same_ok}
use Rattle.bb_schema.specs.Schema.{Schema}
use Rattle.bb_code.specs.Code.{Code}
use Rattle.bb_code.specs.declared.op.Op.{Op}
use Rattle.bb_compile_buffer.specs.declared.buffer.Buffer.{Buffer}
use Rattle.bb_verify_effect.specs.Edges.{Edges}
use Rattle.bb_verify_effect.specs.Effect.{effect}
use Rattle.bb_verify_effect.specs.declared.frame.Frame.{Frame}
use Rattle.bb_verify_effect.specs.declared.part.Part.{Part}
use Rattle.bb_verify.specs.Places.{frame_at}
use Rattle.bb_theorem_accepted.proofs.buffers.BufferLemmas.{Has, seam}
use Rattle.bb_theorem_accepted.proofs.walks.WalkLemmas.{Visits, Walks, At, walked_frames}

module _ (s : Schema) (part : Part) (code : Code) where
  -- at a place, with what the op before left, the walk goes on that finds these frames
  pub record Traced (frames : List Frame) (place : ℕ) (next : Option Frame) : Type 0 where
    pub found : List Frame
    pub before : List Op
    pub rest : List Op
    pub came : Option Frame
    pub out : Option Frame
    pub walks : Walks s part code place rest came out
    pub same : came ≡ next
    pub found_count : length found ≡ place
    pub before_count : length before ≡ place
    pub whole : code.ops ≡ before ++ rest
    pub frames_are : frames ≡ found ++ walked_frames s part code place rest came out walks

  pub traced_first : (next out : Option Frame) → (walks : Walks s part code 0 code.ops next out) → Traced (walked_frames s part code 0 code.ops next out walks) 0 next
  traced_first next out walks = record { found = []; before = []; rest = code.ops; came = next; out = out; walks = walks; same = refl; found_count = refl; before_count = refl; whole = refl; frames_are = refl }

  module _ (frames : List Frame) where
    -- one op: its frame is among those that are found
    pub traced_on : (place : ℕ) (op : Op) (next mid : Option Frame) → slice_get code.ops place ≡ Some op → Visits s part code place op next mid → Traced frames place next → Traced frames (place + 1) mid
    traced_on place op next mid at v t = by_rest t.rest t.walks t.whole t.frames_are
      where
        by_rest : (rest : List Op) → (walks : Walks s part code place rest t.came t.out) → code.ops ≡ t.before ++ rest → frames ≡ t.found ++ walked_frames s part code place rest t.came t.out walks
            → Traced frames (place + 1) mid
        by_rest [] walks whole frames_are =
            let count : length code.ops ≡ length t.before = ap length whole ∙ ap length (append-nil t.before) in
            let lt = slice_get_within code.ops place op at in
            let here = t.before_count in
            absurd (omega (arith, count, lt, here))
        by_rest (o ∷ more) walks whole frames_are =
            let w = walks.1 in
            let there : slice_get code.ops place ≡ Some o = ap (λ l. slice_get l place) whole ∙ (ap (slice_get (t.before ++ o ∷ more)) (sym t.before_count) ∙ seam t.before more o) in
            let same_op : o ≡ op = (let e : Some o ≡ Some op = sym there ∙ at in cc) in
            let here : frame_at (At s part code place) next ≡ Ok w.frame = ap (frame_at (At s part code place)) (sym t.same) ∙ w.here in
            let same_frame : w.frame ≡ v.frame = same_ok w.frame v.frame (sym here ∙ v.here) in
            let same_edges : w.edges ≡ v.edges = same_ok w.edges v.edges (sym w.gives ∙ (ap (λ p. effect s part code p w.frame) same_op ∙ (ap (effect s part code op) same_frame ∙ v.gives))) in
            let count : length (t.found ++ w.frame ∷ []) ≡ place + 1 = length-append t.found (w.frame ∷ []) ∙ ap (λ n. n + 1) t.found_count in
            let listed = walked_frames s part code (place + 1) more walks.0 t.out walks.2 in
            record {
              found = t.found ++ w.frame ∷ [];
              before = t.before ++ o ∷ [];
              rest = more;
              came = walks.0;
              out = t.out;
              walks = walks.2;
              same = sym w.leaves ∙ (ap (λ (e : Edges). e.on) same_edges ∙ v.leaves);
              found_count = count;
              before_count = length-append t.before (o ∷ []) ∙ ap (λ n. n + 1) t.before_count;
              whole = whole ∙ sym (append_assoc t.before (o ∷ []) more);
              frames_are = frames_are ∙ sym (append_assoc t.found (w.frame ∷ []) listed);
            }

    -- ops of a buffer, one after another
    pub traced_walk : (t : Buffer) → Has code t → (place : ℕ) (before listed rest : List Op) (next out : Option Frame) → length before ≡ place → t.ops ≡ before ++ (listed ++ rest) → Walks s part code place listed next out → Traced frames place next
        → Traced frames (place + length listed) out
    traced_walk t has place before [] rest next out count is walks traced = subst (λ n. Traced frames n out) (let e : place ≡ place + 0 = omega arith in e) (subst (Traced frames place) walks traced)
    traced_walk t has place before (op ∷ more) rest next out count is walks traced =
        let v = walks.1 in
        let own : slice_get t.ops place ≡ Some op = ap (λ l. slice_get l place) is ∙ (ap (slice_get (before ++ op ∷ (more ++ rest))) (sym count) ∙ seam before (more ++ rest) op) in
        let one = traced_on place op next walks.0 (has.ops place op own v.closed) v traced in
        subst (λ n. Traced frames n out) (let e : place + 1 + length more ≡ place + suc (length more) = omega arith in e)
        (traced_walk t has (place + 1) (before ++ op ∷ []) more rest walks.0 out (length-append before (op ∷ []) ∙ ap (λ n. n + 1) count) (is ∙ sym (append_assoc before (op ∷ []) (more ++ rest))) walks.2 one)

    -- the frame of the place is among those that are found
    pub traced_here : (place : ℕ) (next : Option Frame) (f : Frame) → place < length code.ops → frame_at (At s part code place) next ≡ Ok f → Traced frames place next → slice_get frames place ≡ Some f
    traced_here place next f lt here t = by_rest t.rest t.walks t.whole t.frames_are
      where
        by_rest : (rest : List Op) → (walks : Walks s part code place rest t.came t.out) → code.ops ≡ t.before ++ rest → frames ≡ t.found ++ walked_frames s part code place rest t.came t.out walks → slice_get frames place ≡ Some f
        by_rest [] walks whole frames_are =
            let count : length code.ops ≡ length t.before = ap length whole ∙ ap length (append-nil t.before) in
            let before = t.before_count in
            absurd (omega (arith, count, lt, before))
        by_rest (o ∷ more) walks whole frames_are =
            let w = walks.1 in
            let own : frame_at (At s part code place) next ≡ Ok w.frame = ap (frame_at (At s part code place)) (sym t.same) ∙ w.here in
            let listed = walked_frames s part code (place + 1) more walks.0 t.out walks.2 in
            ap (λ l. slice_get l place) frames_are ∙ (ap (slice_get (t.found ++ w.frame ∷ listed)) (sym t.found_count) ∙ (seam t.found listed w.frame ∙ ap (λ g. Some g) (same_ok w.frame f (sym own ∙ here))))
