-- Declared frames by their numbers.
use Rattle.std.proofs.Common.{◌≡◌, ℕ, zero, suc, ◌+◌, ◌<◌, List, ◌∷◌, length, drop, get_or, set, replicate, Option, Some, None, refl, sym, ap, ◌∙◌}
use Rattle.std.specs.Prelude.{slice_get, option_map}
use Rattle.std.proofs.lemmas.List.{map-set}
use Rattle.std.proofs.lemmas.Option.{slice_get-get_or}
use Rattle.bb_code.specs.declared.frame.FrameEntry.{FrameEntry}
use Rattle.bb_verify_effect.specs.declared.frame.Frame.{Frame}
use Rattle.bb_verify_effect.specs.Frame.{frame_of}
use Rattle.bb_verify.specs.Places.{with_frames}
use Rattle.bb_verify.specs.proving.Numbered.{numbered_frame, numbered_frames}
use Rattle.bb_verify.proofs.TableLemmas.{frames_next}

pub none_numbered : (fs : List FrameEntry) (n : ℕ) → numbered_frames fs (replicate n None) ≡ replicate n None
none_numbered fs zero = refl
none_numbered fs (suc n) = ap (λ l. None ∷ l) (none_numbered fs n)

-- a turn of the loop that puts the numbers of declared frames at their places
pub numbered_next : (fs : List FrameEntry) (all new : List (Option ℕ)) (i : ℕ) (e : FrameEntry) (total : List (Option Frame)) → i < length fs → e ≡ get_or fs i e → new ≡ set all e.place (Some i) → with_frames (numbered_frames fs all) (drop i fs) ≡ total → with_frames (numbered_frames fs new) (drop (i + 1) fs) ≡ total
numbered_next fs all new i e total lt is put so_far =
    let there : slice_get fs i ≡ Some e = slice_get-get_or fs i e lt ∙ ap (λ x. Some x) (sym is) in
    let shown : numbered_frame fs (Some i) ≡ Some (frame_of e.frame) = ap (option_map (λ x. frame_of x.frame)) there in
    let made : numbered_frames fs new ≡ set (numbered_frames fs all) e.place (Some (frame_of e.frame)) =
    ap (numbered_frames fs) put ∙ (map-set (numbered_frame fs) all e.place (Some i) ∙ ap (set (numbered_frames fs all) e.place) shown) in
    frames_next (numbered_frames fs all) (numbered_frames fs new) fs i e total lt is made so_far
