-- Refusals are texts of several pieces.
use Rattle.std.proofs.Common.{◌≡◌, List, ◌∙◌, append_assoc}
use Rattle.std.specs.Prelude.{◌++◌}

pub four_pieces : {A : Type 0} (a b c d : List A) → a ++ b ++ c ++ d ≡ a ++ (b ++ (c ++ d))
four_pieces a b c d = append_assoc (a ++ b) c d ∙ append_assoc a b (c ++ d)

pub eight_pieces : {A : Type 0} (a b c d e f g h : List A) → a ++ b ++ c ++ d ++ e ++ f ++ g ++ h ≡ a ++ (b ++ (c ++ (d ++ (e ++ (f ++ (g ++ h))))))
eight_pieces a b c d e f g h =
    append_assoc (a ++ b ++ c ++ d ++ e ++ f) g h ∙ (append_assoc (a ++ b ++ c ++ d ++ e) f (g ++ h) ∙ (append_assoc (a ++ b ++ c ++ d) e (f ++ (g ++ h)) ∙ (append_assoc (a ++ b ++ c) d (e ++ (f ++ (g ++ h))) ∙ four_pieces a b c (d ++ (e ++ (f ++ (g ++ h)))))))

pub five_pieces : {A : Type 0} (a b c d e : List A) → a ++ b ++ c ++ d ++ e ≡ a ++ (b ++ (c ++ (d ++ e)))
five_pieces a b c d e = append_assoc (a ++ b ++ c) d e ∙ four_pieces a b c (d ++ e)
