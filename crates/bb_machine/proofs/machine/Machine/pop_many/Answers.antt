use Rattle.std.proofs.Common.{◌≡◌, ◌-◌, Ok, subst, refl, reverse, arith}
use Rattle.bb_machine.specs.Machine.{Machine, pop_many, with_stack}
use Rattle.bb_machine.proofs.StackLemmas.{split_is_popped}
use Rattle.bb_machine.proofs.machine.Machine.pop_many.Goals as goal

pub returns-clause-gives : goal.returns-clause-gives
returns-clause-gives c =
    let whole = c.self.inside.stack.items in
    let popped = c.in_ok-split_off.field-0.items in
    let kept = c.split_off.new.self.items in
    let m : Machine = record { place = c.self.inside.place; locals = c.self.inside.locals.items; stack = reverse whole; found = c.self.inside.found } in
    subst (λ (x : Machine). pop_many c.args.count x ≡ Ok (popped, with_stack (reverse kept) m)) {x = m} {y = c.args.self.now} c.self.view_is
    (split_is_popped m whole kept popped (c.len-2.result - c.args.count) c.args.count refl (omega (arith, c.len-2.ensures, c.if-len-count.false)) c.in_ok-split_off.ensures.items c.in_ok-split_off.ensures.tail)
