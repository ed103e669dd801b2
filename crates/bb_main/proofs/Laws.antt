-- For callers: a front of what was given of an answer.
use Rattle.std.proofs.Common.{◌≡◌, ◌⊎◌, ◌++◌, inl, inr, ℕ, List, [], take, drop, Some, refl, sym, ap, ◌∙◌}
use Rattle.std.proofs.lemmas.List.{take-append-drop}
use Rattle.std.proofs.lemmas.List.Concat.{flat_map-append}
use Rattle.bb_main.specs.declared.serving.TheConstants.{WRITE}
use Rattle.bb_main.specs.Serve.{Answer, CutShort, Delivers, text_of}
use Rattle.bb_main.proofs.ServeLemmas.{front_within}

text-cut : (count : ℕ) (pieces : List (List ℕ)) → text_of (take count pieces) ++ text_of (drop count pieces) ≡ text_of pieces
text-cut count pieces = sym (flat_map-append (λ p. p) (take count pieces) (drop count pieces)) ∙ ap text_of (take-append-drop count pieces)

-- what was given of an answer was cut once more, so that it is a front as where the output fails
pub front_delivers : (a : Answer) (given : List ℕ) (status n : ℕ) → Delivers a (Some []) (Some given) status ⊎ CutShort a (Some []) (Some given) status → Delivers a (Some []) (Some (take n given)) WRITE
front_delivers a given status n (inl (inl whole)) = inr (refl, (n, ap (take n) whole.1))
front_delivers a given status n (inl (inr cut)) =
    let count = cut.1.0 in
    let text = text_of a.pieces in
    let f = front_within n (take count text) (drop count text) in
    inr (refl, (f.0, ap (take n) cut.1.1 ∙ (f.1 ∙ ap (take f.0) (take-append-drop count text))))
front_delivers a given status n (inr short) =
    let count = short.1.0 in
    let f = front_within n (text_of (take count a.pieces)) (text_of (drop count a.pieces)) in
    inr (refl, (f.0, ap (take n) short.1.2 ∙ (f.1 ∙ ap (take f.0) (text-cut count a.pieces))))
