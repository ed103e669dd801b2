use Rattle.std.proofs.Common.{◌≡◌, ℕ, List, [], ◌∷◌, ◌++◌, append_assoc, codes, subst, sym, ◌∙◌, OnOk, string_bytes}
use Rattle.std.specs.Fmt.{decimal}
use Rattle.bb_trace.proofs.line.add_refused_number.Goals as goal

-- the pieces one by one, as they are written
in_turn : (ask number : List ℕ) → (codes "refused ask " ++ ask ++ codes " " ++ number) ++ 10 ∷ [] ≡ codes "refused ask " ++ (ask ++ (codes " " ++ (number ++ 10 ∷ [])))
in_turn ask number = let tail = append_assoc (ask ++ codes " ") number (10 ∷ []) ∙ append_assoc ask (codes " ") (number ++ 10 ∷ []) in cc

pub returns : goal.returns
returns c =
    subst (λ (t : List ℕ). OnOk c.writeln.result (string_bytes c.writeln.new.self ≡ string_bytes c.args.text.now ++ t)) (sym (in_turn (decimal c.args.ask) (decimal c.args.number))) c.writeln.ensures.bytes
