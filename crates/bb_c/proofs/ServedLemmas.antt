-- What is handed out of an answer that was cut, and that the whole of it is longer.
use Rattle.std.proofs.Common.{◌≡◌, ◌<◌, ◌≤◌, ◌⊎◌, ◌++◌, inl, inr, ℕ, ℤ, List, [], length, length-append, take, drop, Option, Some, sym, subst, ap, ◌∙◌, arith, append-nil}
use Rattle.std.proofs.lemmas.List.{take-append-drop}
use Rattle.std.proofs.lemmas.List.Concat.{flat_map-append}
use Rattle.bb_main.specs.Mode.{Mode}
use Rattle.bb_main.specs.Native.{Native}
use Rattle.bb_main.specs.Serve.{Answer, CutShort, Delivers, Serves, answer, text_of}
use Rattle.bb_main.proofs.Laws.{front_delivers}
use Rattle.bb_c.specs.Served.{IsLonger, IsServed}

delivers : Mode → (limit : ℕ) → (floor : ℤ) → (input given : List ℕ) → (status : ℕ) → Type 0
delivers mode limit floor input given status =
    Delivers (answer [] input mode limit floor) (Some []) (Some given) status
    ⊎ CutShort (answer [] input mode limit floor) (Some []) (Some given) status

served : (mode : Mode) (limit : ℕ) (floor : ℤ) (natives : List Native) (input taken given : List ℕ) (status : ℕ)
    → natives ≡ [] → taken ≡ [] → Serves natives mode limit floor (Some input) (Some taken) (Some given) status → delivers mode limit floor input given status
unfolding delivers
served mode limit floor natives input taken given status none empty all = rw (none, empty, all.1) at all.2

pub cut_served : (chosen : Option Mode) (mode : Mode) (limit : ℕ) (floor : ℤ) (natives : List Native) (input taken given out : List ℕ) (status count : ℕ)
    → Some mode ≡ chosen → natives ≡ [] → taken ≡ [] → take count out ≡ take count given
    → Serves natives mode limit floor (Some input) (Some taken) (Some given) status → IsServed chosen limit floor input (take count out) 6
unfolding delivers
cut_served chosen mode limit floor natives input taken given out status count is none empty front all =
    subst (λ (m : Option Mode). IsServed m limit floor input (take count out) 6) is
    (subst (λ (t : List ℕ). delivers mode limit floor input t 6) (sym front)
    (inl (front_delivers (answer [] input mode limit floor) given status count (served mode limit floor natives input taken given status none empty all))))

-- what was given of an answer is a front of it
rest_of : (a : Answer) (given : List ℕ) (status : ℕ) → Delivers a (Some []) (Some given) status ⊎ CutShort a (Some []) (Some given) status
    → (rest : List ℕ) × (given ++ rest ≡ text_of a.pieces)
rest_of a given status (inl (inl whole)) = ([], append-nil given ∙ whole.1)
rest_of a given status (inl (inr cut)) =
    let text = text_of a.pieces in
    let count = cut.1.0 in
    (drop count text, ap (λ front. front ++ drop count text) cut.1.1 ∙ take-append-drop count text)
rest_of a given status (inr short) =
    let count = short.1.0 in
    let rest = text_of (drop count a.pieces) in (
      rest,
      ap (λ front. front ++ rest) short.1.2
          ∙ (sym (flat_map-append (λ piece. piece) (take count a.pieces) (drop count a.pieces)) ∙ ap text_of (take-append-drop count a.pieces)),
    )

no_longer : (a : Answer) (given : List ℕ) (status : ℕ) → Delivers a (Some []) (Some given) status ⊎ CutShort a (Some []) (Some given) status
    → length given ≤ length (text_of a.pieces)
no_longer a given status all =
    let r = rest_of a given status all in
    let whole = sym (length-append given r.0) ∙ ap length r.1 in
    omega (arith, whole)

pub is_longer : (chosen : Option Mode) (mode : Mode) (limit : ℕ) (floor : ℤ) (natives : List Native) (input taken given : List ℕ) (status room : ℕ)
    → Some mode ≡ chosen → natives ≡ [] → taken ≡ [] → room < length given
    → Serves natives mode limit floor (Some input) (Some taken) (Some given) status → IsLonger chosen limit floor input room
unfolding delivers
is_longer chosen mode limit floor natives input taken given status room is none empty more all =
    let most = no_longer (answer [] input mode limit floor) given status (served mode limit floor natives input taken given status none empty all) in
    subst (λ (m : Option Mode). IsLonger m limit floor input room) is (omega (arith, more, most))
