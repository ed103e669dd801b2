use Rattle.std.proofs.Common.{ℤ, None, ap, refl, rules, subst, sym, w64}
use Rattle.std.proofs.lemmas.Int.{to_z-of_z}
use Rattle.bb_agenda.specs.Agenda.{Agenda}
use Rattle.bb_machine.specs.declared.outcome.Answer.{Answer}
use Rattle.bb_machine.specs.declared.outcome.Answer.TheVariants.{Rated}
use Rattle.bb_run.specs.Processing.{rerated_by}
use Rattle.bb_run.specs.State.{with_agenda}
use Rattle.bb_run.specs.Seen.{seen}
use Rattle.bb_run.specs.Emitting.{IsResponse}
use Rattle.bb_run.proofs.reacting.rerate.Goals as goal

pub returns-clause-noted : goal.returns-clause-noted
returns-clause-noted g c =
    let base = c.in-Rated.base in
    let s = seen g.N.NativeSource.meaning c.args.state.now in
    let t = with_agenda s c.rerate.new.self in
    let old = c.args.notes.now.items in
    let new = c.push.new.self.items in
    subst (λ (x : Answer). IsResponse (rerated_by c.args.activation x s) old new t None) (sym c.in-Rated.is)
    (subst (λ (z : ℤ). IsResponse (rerated_by c.args.activation (Rated z) s) old new t None) (to_z-of_z w64 base (search rules)) (record {
      notes = c.in_ok-push.ensures.items;
      state = ap (λ (a : Agenda). with_agenda s a) c.in_ok-rerate.ensures.ok;
      end = refl;
    }))
