use Rattle.std.proofs.Common.{ap, ◌∙◌, sym, ◌||◌, length, arith}
use Rattle.std.proofs.lemmas.Bool.{lt-leb}
use Rattle.std.specs.Prelude.{nat_le}
use Rattle.bb_agenda.specs.Agenda.{is_full}
use Rattle.bb_agenda.specs.declared.agenda.TheConstants.{PENDING_LIMIT, NUMBER_LIMIT}
use Rattle.bb_agenda.specs.proving.Numbers.{is_in}
use Rattle.bb_agenda.proofs.KeptLemmas.{full_kept}
use Rattle.bb_agenda.proofs.agenda.Agenda.is_full.Goals as goal

pub returns-else-len-ge-PENDING_LIMIT : goal.returns-else-len-ge-PENDING_LIMIT
returns-else-len-ge-PENDING_LIMIT c =
    let few = lt-leb PENDING_LIMIT (length c.self.inside.waiting) (omega (arith, c.len.ensures, c.if-len-ge-PENDING_LIMIT.false)) in
    ap (λ b. b || nat_le NUMBER_LIMIT c.self.inside.given) (sym few)
    ∙ sym (full_kept c.self.inside.given c.self.inside.waiting (is_in c.self.inside.obviated) c.self.inside.steering.foci c.self.inside.steering.setting c.self.inside.refused c.self.invariant) ∙ ap is_full c.self.view_is
