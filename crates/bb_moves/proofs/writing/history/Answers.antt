use Rattle.std.proofs.Common.{◌≡◌, ◌∷◌, [], Ok, true, string_bytes, subst, sym, ◌∙◌}
use Rattle.std.specs.Str.{IsUtf8}
use Rattle.std.proofs.lemmas.Str.{IsUtf8-string_bytes}
use Rattle.bb_moves.specs.Meant.{meant}
use Rattle.bb_moves.specs.MovesText.{moves_of}
use Rattle.bb_moves.specs.Written.{can_tell, move_text}
use Rattle.bb_moves.proofs.AgainLemmas.{again}
use Rattle.bb_moves.proofs.writing.history.Goals as goal

pub returns-clause-again : goal.returns-clause-again
returns-clause-again c =
    let s = c.args.schema.now in
    let m = meant c.args.each.now in
    let told : can_tell s m ≡ true = sym c.can_tell.ensures ∙ c.if-not-can_tell.false in
    let is : string_bytes c.in_ok-text.text ≡ move_text s m = c.in_ok-text.ensures in
    subst (λ t. moves_of s t ≡ Ok (m ∷ [])) (sym is) (again s c.fits.ensures m told (subst IsUtf8 is (IsUtf8-string_bytes c.in_ok-text.text)))
