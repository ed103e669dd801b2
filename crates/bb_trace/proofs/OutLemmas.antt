-- What an output took, piece by piece.
use Rattle.std.proofs.Common.{◌≡◌, ℕ, ◌-◌, List, [], ◌++◌, length, take, drop, Option, Some, None, subst, sym, ap, ◌∙◌, arith, append_assoc}
use Rattle.std.specs.Io.KnownBytes.{Appends}
use Rattle.std.proofs.lemmas.List.{append-nil, take-append-drop, take_all, length-drop}
use Rattle.std.proofs.Math.Seq.{take-append_seam}

pub appends_none : (known : Option (List ℕ)) → Appends known known []
appends_none None = tt
appends_none (Some xs) = sym (append-nil xs)

pub appends_then : (old mid new : Option (List ℕ)) (xs ys : List ℕ) → Appends old mid xs → Appends mid new ys → Appends old new (xs ++ ys)
appends_then None mid new xs ys a b = tt
appends_then (Some o) None new xs ys a b = absurd a
appends_then (Some o) (Some m) None xs ys a b = absurd b
appends_then (Some o) (Some m) (Some n) xs ys a b = b ∙ (ap (λ t. t ++ ys) a ∙ append_assoc o xs ys)

-- some bytes were taken, and the rest is left of the whole
abbrev pub Sent : (taken given : Option (List ℕ)) → (rest whole : List ℕ) → Type 0
Sent taken given rest whole = (sent : List ℕ) × Appends taken given sent × (sent ++ rest ≡ whole)

pub sent_more : (old mid new : Option (List ℕ)) (rest whole : List ℕ) (count : ℕ) → Sent old mid rest whole → Appends mid new (take count rest) → Sent old new (take (length rest - count) (drop count rest)) whole
sent_more old mid new rest whole count so_far more = (
  so_far.0 ++ take count rest,
  appends_then old mid new so_far.0 (take count rest) so_far.1 more,
  append_assoc so_far.0 (take count rest) (take (length rest - count) (drop count rest))
      ∙ ap (λ t. so_far.0 ++ (take count rest ++ t)) (take_all (length rest - count) (drop count rest) (omega (arith, length-drop count rest)))
      ∙ ap (λ t. so_far.0 ++ t) (take-append-drop count rest) ∙ so_far.2,
)

-- what was taken is the front of the whole
pub sent_front : (old new : Option (List ℕ)) (rest whole : List ℕ) → Sent old new rest whole → (count : ℕ) × Appends old new (take count whole)
sent_front old new rest whole s = (length s.0, subst (Appends old new) (sym (take-append_seam s.0 rest) ∙ ap (take (length s.0)) s.2) s.1)
