-- What is said of the shell that the texts give is said of what they mean.
use Rattle.std.proofs.Common.{◌≡◌, ℤ, List, rules, w64, map, Ok, ap, subst, sym, ◌∙◌, string_bytes}
use Rattle.std.proofs.lemmas.Int.{to_z-of_z}
use Rattle.bb_board_document.specs.Document.{units_text}
use Rattle.bb_board_document.specs.Loading.{LoadsAs}
use Rattle.bb_board_document.specs.Renumbered.{renumbered}
use Rattle.bb_shell.specs.Meaning.{Meaning}
use Rattle.bb_run.specs.Native.{Native}
use Rattle.bb_run.specs.Sight.{Sight, sight_of}
use Rattle.bb_shell.specs.Left.{EndsBy, LoadsAsLeft, left_text, meaning_of}
use Rattle.bb_shell.proofs.UnitsMeaningLemmas.{at_meaning}
use Rattle.bb_shell.proofs.units.units_texts.Goals as goal

pub returns-clause-finish : goal.returns-clause-finish
returns-clause-finish g c =
    let s = c.in_ok-shell.shell in
    let natives = map g.N.NativeSource.meaning c.args.natives.items in
    let m : Meaning = record { plan = s.plan; board = s.board } in
    let means = subst (λ (z : ℤ). meaning_of natives c.args.texts.now z ≡ Ok m) (to_z-of_z w64 c.args.floor (search rules)) c.in_ok-shell.ensures.means in
    at_meaning (meaning_of natives c.args.texts.now c.args.floor) m (map g.N.NativeSource.meaning s.roster.natives.items) natives
    (λ (ns : List Native) (n : Meaning). EndsBy ns c.args.limit n c.in-Ok.finish) means c.in_ok-shell.ensures.natives c.in-Ok.ensures.finish

pub returns-clause-text : goal.returns-clause-text
returns-clause-text g c =
    let s = c.in_ok-shell.shell in
    let natives = map g.N.NativeSource.meaning c.args.natives.items in
    let m : Meaning = record { plan = s.plan; board = s.board } in
    let means = subst (λ (z : ℤ). meaning_of natives c.args.texts.now z ≡ Ok m) (to_z-of_z w64 c.args.floor (search rules)) c.in_ok-shell.ensures.means in
    let text = c.in_ok-document.ensures.text ∙ ap units_text (c.new.ensures ∙ ap sight_of c.in-Ok.ensures.board) in
    at_meaning (meaning_of natives c.args.texts.now c.args.floor) m (map g.N.NativeSource.meaning s.roster.natives.items) natives
    (λ (ns : List Native) (n : Meaning). string_bytes c.in_ok-document.document ≡ left_text ns c.args.limit n) means c.in_ok-shell.ensures.natives text

pub returns-clause-loads : goal.returns-clause-loads
returns-clause-loads g c =
    let s = c.in_ok-shell.shell in
    let natives = map g.N.NativeSource.meaning c.args.natives.items in
    let m : Meaning = record { plan = s.plan; board = s.board } in
    let means = subst (λ (z : ℤ). meaning_of natives c.args.texts.now z ≡ Ok m) (to_z-of_z w64 c.args.floor (search rules)) c.in_ok-shell.ensures.means in
    let loads = subst (λ (seen : Sight). LoadsAs seen.schema (string_bytes c.in_ok-document.document) (renumbered seen)) (c.new.ensures ∙ ap sight_of c.in-Ok.ensures.board) c.in_ok-document.ensures.loads in
    at_meaning (meaning_of natives c.args.texts.now c.args.floor) m (map g.N.NativeSource.meaning s.roster.natives.items) natives
    (λ (ns : List Native) (n : Meaning). LoadsAsLeft ns c.args.limit n (string_bytes c.in_ok-document.document)) means c.in_ok-shell.ensures.natives loads
