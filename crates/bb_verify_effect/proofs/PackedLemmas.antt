-- Frames that are stored one after the other.
use Rattle.std.proofs.Common.{◌≡◌, ℕ, ◌-◌, ◌≤◌, All, List, [], ◌∷◌, ◌++◌, length, take, drop, map, refl, ap, sym, ◌+◌, ◌∙◌, arith, length-drop}
use Rattle.std.proofs.lemmas.List.{take-append-le, drop-append-le, take-append-drop, take_all, length-append, map_push}
use Rattle.std.proofs.lemmas.List.Elements.{All-head, All-push, All-tail, All-weaker}
use Rattle.bb_code.specs.declared.frame.Kind.{Kind}
use Rattle.bb_verify_effect.specs.declared.frame.Frame.{Frame}
use Rattle.bb_verify_effect.specs.declared.packed_frames.Span.{Span}
use Rattle.bb_verify_effect.specs.declared.packed_frames.Stretch.{Stretch}
use Rattle.bb_verify_effect.specs.proving.Packed.{Grows, IsStretch, Lies, frame_in, stretch_in}

-- ---- kinds that lie within the first ones are met there also once more follow

same_part : (ks more : List Kind) (a b : ℕ) → a ≤ b → b ≤ length ks → take (b - a) (drop a (ks ++ more)) ≡ take (b - a) (drop a ks)
same_part ks more a b le all =
    let long : length (drop a ks) ≡ length ks - a = length-drop a ks in
    ap (take (b - a)) (drop-append-le a ks more (omega (arith, le, all))) ∙ take-append-le (b - a) (drop a ks) more (omega (arith, le, all, long))

pub same_stretch : {most : ℕ} (ks more : List Kind) (s : Stretch) → IsStretch (length ks) most s → stretch_in (ks ++ more) s ≡ stretch_in ks s
same_stretch ks more s lies = same_part ks more s.start s.end lies.rising lies.inside

pub same_frame : (ks more : List Kind) (s : Span) → Lies (length ks) s → frame_in (ks ++ more) s ≡ frame_in ks s
same_frame ks more s lies =
    let locals : stretch_in (ks ++ more) s.locals ≡ stretch_in ks s.locals = same_stretch ks more s.locals lies.locals in
    let stack : stretch_in (ks ++ more) s.stack ≡ stretch_in ks s.stack = same_stretch ks more s.stack lies.stack in
    rw (locals, stack) refl

same_frames : (ks more : List Kind) (spans : List Span) → All (Lies (length ks)) spans → map (frame_in (ks ++ more)) spans ≡ map (frame_in ks) spans
same_frames ks more [] all = refl
same_frames ks more (s ∷ spans) all =
    let here : frame_in (ks ++ more) s ≡ frame_in ks s = same_frame ks more s (All-head (Lies (length ks)) s spans all) in
    let others : map (frame_in (ks ++ more)) spans ≡ map (frame_in ks) spans = same_frames ks more spans (All-tail (Lies (length ks)) s spans all) in
    rw (here, others) refl

-- ---- a frame goes last

pub shows_one_more : (ks new : List Kind) (spans : List Span) (s : Span) (f : Frame) → Grows ks new → All (Lies (length ks)) spans → frame_in new s ≡ f → map (frame_in new) (spans ++ s ∷ []) ≡ map (frame_in ks) spans ++ f ∷ []
shows_one_more ks new spans s f (more, grown) lies shown =
    let old : map (frame_in new) spans ≡ map (frame_in ks) spans = ap (λ l. map (frame_in l) spans) grown ∙ same_frames ks more spans lies in
    map_push (frame_in new) spans s ∙ rw (old, shown) refl

-- ---- what can be stored in some kinds can be stored in more

stretch_in_more : (count more most : ℕ) (s : Stretch) → count ≤ more → IsStretch count most s → IsStretch more most s
stretch_in_more count more most s le lies = record { rising = lies.rising; few = lies.few; inside = omega (arith, le, lies.inside) }

lies_in_more : (count more : ℕ) (s : Span) → count ≤ more → Lies count s → Lies more s
lies_in_more count more s le lies = record { locals = stretch_in_more count more 32 s.locals le lies.locals; stack = stretch_in_more count more 64 s.stack le lies.stack }

pub grown : (ks new : List Kind) → Grows ks new → length ks ≤ length new
grown ks new (more, made) =
    let long : length new ≡ length ks + length more = ap length made ∙ length-append ks more in
    omega (arith, long)

pub lie_in_more : (ks new : List Kind) (spans : List Span) (s : Span) → Grows ks new → All (Lies (length ks)) spans → Lies (length new) s → All (Lies (length new)) (spans ++ s ∷ [])
lie_in_more ks new spans s grows all one =
    All-push (Lies (length new)) spans s (All-weaker (Lies (length ks)) (Lies (length new)) (λ x. lies_in_more (length ks) (length new) x (grown ks new grows)) spans all) one

-- ---- kinds that are there already, and kinds that what is there begins

pub is_there : (ks more read : List Kind) (near : ℕ) → read ≡ ks → take ((near + length more) - near) (drop near read) ≡ more → take ((near + length more) - near) (drop near ks) ≡ more
is_there ks more read near value same = ap (λ l. take ((near + length more) - near) (drop near l)) (sym value) ∙ same

pub is_completed : (ks more read new : List Kind) (near left end : ℕ) → near ≤ length ks → left ≡ length ks - near → read ≡ ks → drop near read ≡ take left more → new ≡ ks ++ drop left more → end ≡ length ks + length (drop left more) → left ≤ length more → take (end - near) (drop near new) ≡ more
is_completed ks more read new near left end inside counts value begun made ends few =
    let whole : drop near new ≡ more = ap (drop near) made ∙ (drop-append-le near ks (drop left more) inside ∙ (ap (λ l. l ++ drop left more) (ap (drop near) (sym value) ∙ begun) ∙ take-append-drop left more)) in
    let rest : length (drop left more) ≡ length more - left = length-drop left more in
    ap (take (end - near)) whole ∙ take_all (end - near) more (omega (arith, inside, counts, few, ends, rest))
