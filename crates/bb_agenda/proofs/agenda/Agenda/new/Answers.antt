use Rattle.std.proofs.Common.{ap, refl, ◌∙◌, List, [], false}
use Rattle.std.specs.FinMap as fin
use Rattle.bb_agenda.specs.declared.focusing.activation.Activation.{Activation}
use Rattle.bb_agenda.specs.Agenda.{Agenda, Entry}
use Rattle.bb_agenda.specs.proving.Kept.{entries_of}
use Rattle.bb_agenda.specs.proving.Numbers.{is_in}
use Rattle.bb_agenda.specs.focusing.Foci.{Steered}
use Rattle.bb_agenda.proofs.KeptLemmas.{kept_first, none_kept}
use Rattle.bb_agenda.proofs.agenda.Agenda.new.Goals as goal

pub invariant_of-result : goal.invariant_of-result
invariant_of-result c = rw (c.new.ensures, c.new-2.ensures) (kept_first (is_in []) (λ n. refl))

pub returns : goal.returns
returns c =
    let made : List Entry → Steered → Agenda = λ given s. record { given = given; foci = s.foci; setting = s.setting; refused = false } in
    ap (λ given. made given c.new-4.result) (ap (λ (l : List Activation). entries_of 0 l (is_in c.new-2.result)) c.new.ensures ∙ none_kept (is_in c.new-2.result))
    ∙ ap (made []) c.new-4.ensures ∙ ap (λ setting. made [] (record { setting = setting; foci = fin.empty })) c.new-3.ensures
