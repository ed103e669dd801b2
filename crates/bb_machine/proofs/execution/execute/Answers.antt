use Rattle.std.proofs.Common.{◌≡◌, ◌+◌, ◌-◌, Option, Some, None, inl, inr, refl, sym, ap, ◌∙◌, arith}
use Rattle.std.specs.Prelude.{slice_get}
use Rattle.bb_code.specs.declared.op.Op.{Op}
use Rattle.bb_machine.specs.declared.halt.Halt.TheVariants as halts
use Rattle.bb_machine.specs.declared.outcome.Stuck.TheVariants.{Outside, Turns}
use Rattle.std.proofs.lemmas.Option.{slice_get_within}
use Rattle.bb_schema_classes.proofs.Laws.{All-at}
use Rattle.bb_code.specs.Code.{IsOp}
use Rattle.bb_machine.specs.Machine.{go_to}
use Rattle.bb_machine.specs.Step.{step}
use Rattle.bb_machine.specs.Activation.{Execution, halted}
use Rattle.bb_machine.proofs.ReadLemmas.{no_write_at}
use Rattle.bb_machine.proofs.ExecutionLemmas.{steps_next, left_by, kept_or_memory, cut_after, cut_before, ends_outside, ends_at_limit, ends_by_op, gives_halted, leaves_halted}
use Rattle.bb_machine.proofs.NamedLemmas.{named_cut}
use Rattle.bb_machine.proofs.FullLemmas.{full_where}
use Rattle.bb_machine.proofs.execution.execute.Goals as goal

pub returns-in_default-clause-outcome : goal.returns-in_default-clause-outcome
returns-in_default-clause-outcome c =
    let at : (let none : Option Op = None in none) ≡ slice_get c.args.code.now.ops c.loop-steps.machine.place =
    sym c.in_default.is ∙ (c.op.ensures.value ∙ ap (slice_get c.args.code.now.ops) c.place-place.ensures) in
    gives_halted (halts.Stuck Outside) c.loop-steps.steps c.loop-steps.machine.found c.halted-in_default.result _ c.loop-steps.board
    (c.halted-in_default.ensures.gives ∙ ap (halted (halts.Stuck Outside) c.loop-steps.steps) c.found-found.ensures.value)
    (inr ((c.loop-steps.invariant.told (c.args.limit - c.loop-steps.steps) c.args.limit (omega arith)) ∙ ends_outside c.args.limit c.loop-steps.steps c.args.code.now c.loop-steps.machine c.loop-steps.board c.loop-steps-test.true at))

pub returns-in_default-clause-board : goal.returns-in_default-clause-board
returns-in_default-clause-board c =
    let at : (let none : Option Op = None in none) ≡ slice_get c.args.code.now.ops c.loop-steps.machine.place =
    sym c.in_default.is ∙ (c.op.ensures.value ∙ ap (slice_get c.args.code.now.ops) c.place-place.ensures) in
    leaves_halted (halts.Stuck Outside) c.loop-steps.steps c.loop-steps.machine.found c.halted-in_default.result _ c.loop-steps.board c.loop-steps.board
    (c.halted-in_default.ensures.gives ∙ ap (halted (halts.Stuck Outside) c.loop-steps.steps) c.found-found.ensures.value)
    (inr ((c.loop-steps.invariant.told (c.args.limit - c.loop-steps.steps) c.args.limit (omega arith)) ∙ ends_outside c.args.limit c.loop-steps.steps c.args.code.now c.loop-steps.machine c.loop-steps.board c.loop-steps-test.true at))
    (inr refl)

pub returns-in_default-clause-reads_only : goal.returns-in_default-clause-reads_only
returns-in_default-clause-reads_only c = c.loop-steps.invariant.reads

pub overflow_add-place : goal.overflow_add-place
overflow_add-place c =
    let at : slice_get c.args.code.now.ops c.place-place.result ≡ Some c.in-Some.op = sym c.in-Some.ensures.value in
    omega (arith, slice_get_within c.args.code.now.ops c.place-place.result c.in-Some.op at, c.in-Some.ensures.fits.ops.few)

pub step-requires : goal.step-requires
step-requires c =
    let at : slice_get c.args.code.now.ops c.place-place.result ≡ Some c.in-Some.op = sym c.in-Some.ensures.value in
    All-at IsOp c.args.code.now.ops c.place-place.result c.in-Some.op at c.in-Some.ensures.fits.ops.each

pub returns-in-Err-clause-outcome : goal.returns-in-Err-clause-outcome
returns-in-Err-clause-outcome c =
    let at : Some c.in-Some.op ≡ slice_get c.args.code.now.ops c.loop-steps.machine.place =
    c.in-Some.ensures.value ∙ ap (slice_get c.args.code.now.ops) c.place-place.ensures in
    let moved : c.go_to.new.self ≡ go_to (c.loop-steps.machine.place + 1) c.loop-steps.machine = c.go_to.ensures ∙ ap (λ p. go_to (p + 1) c.loop-steps.machine) c.place-place.ensures in
    gives_halted c.in-Err.halt (c.loop-steps.steps + 1) c.loop-steps.machine.found c.halted-in-Err.result _ c.loop-steps.board
    (c.halted-in-Err.ensures.gives ∙ ap (halted c.in-Err.halt (c.loop-steps.steps + 1)) c.found-found.ensures.value)
    (ends_by_op c.args.limit c.loop-steps.steps c.args.code.now c.loop-steps.machine c.go_to.new.self c.loop-steps.board c.in-Some.op c.in-Err.halt _ c.loop-steps-test.true at moved c.in-Err.ensures.gives (c.loop-steps.invariant.told (c.args.limit - c.loop-steps.steps) c.args.limit (omega arith)))

pub returns-in-Err-clause-board : goal.returns-in-Err-clause-board
returns-in-Err-clause-board c =
    let at : Some c.in-Some.op ≡ slice_get c.args.code.now.ops c.loop-steps.machine.place =
    c.in-Some.ensures.value ∙ ap (slice_get c.args.code.now.ops) c.place-place.ensures in
    let moved : c.go_to.new.self ≡ go_to (c.loop-steps.machine.place + 1) c.loop-steps.machine = c.go_to.ensures ∙ ap (λ p. go_to (p + 1) c.loop-steps.machine) c.place-place.ensures in
    leaves_halted c.in-Err.halt (c.loop-steps.steps + 1) c.loop-steps.machine.found c.halted-in-Err.result _ c.loop-steps.board c.step.new.board
    (c.halted-in-Err.ensures.gives ∙ ap (halted c.in-Err.halt (c.loop-steps.steps + 1)) c.found-found.ensures.value)
    (ends_by_op c.args.limit c.loop-steps.steps c.args.code.now c.loop-steps.machine c.go_to.new.self c.loop-steps.board c.in-Some.op c.in-Err.halt _ c.loop-steps-test.true at moved c.in-Err.ensures.gives (c.loop-steps.invariant.told (c.args.limit - c.loop-steps.steps) c.args.limit (omega arith)))
    (kept_or_memory c.in-Err.halt c.loop-steps.board c.step.new.board c.in-Err.ensures.kept)

pub returns-in-Err-clause-reads_only : goal.returns-in-Err-clause-reads_only
returns-in-Err-clause-reads_only c =
    let at : Some c.in-Some.op ≡ slice_get c.args.code.now.ops c.loop-steps.machine.place =
    c.in-Some.ensures.value ∙ ap (slice_get c.args.code.now.ops) c.place-place.ensures in
    λ none. c.in-Err.ensures.reads (no_write_at c.args.code.now c.loop-steps.machine.place c.in-Some.op none (sym at)) ∙ c.loop-steps.invariant.reads none

pub loop-steps-preserved : goal.loop-steps-preserved
loop-steps-preserved c =
    let at : Some c.in-Some.op ≡ slice_get c.args.code.now.ops c.loop-steps.machine.place =
    c.in-Some.ensures.value ∙ ap (slice_get c.args.code.now.ops) c.place-place.ensures in
    let moved : c.go_to.new.self ≡ go_to (c.loop-steps.machine.place + 1) c.loop-steps.machine = c.go_to.ensures ∙ ap (λ p. go_to (p + 1) c.loop-steps.machine) c.place-place.ensures in
    record {
      told = λ n limit is.
          c.loop-steps.invariant.told (n + 1) limit (omega arith)
          ∙ steps_next n c.loop-steps.steps c.args.code.now c.loop-steps.machine c.loop-steps.board c.in-Some.op (c.step.new.machine, c.step.new.board) at
          (ap (λ x. step c.args.code.now c.in-Some.op (x, c.loop-steps.board)) (sym moved) ∙ c.in_default-step.ensures.gives);
      reads = λ none.
          c.in_default-step.ensures.reads (no_write_at c.args.code.now c.loop-steps.machine.place c.in-Some.op none (sym at)) ∙ c.loop-steps.invariant.reads none;
    }

pub returns-clause-outcome : goal.returns-clause-outcome
returns-clause-outcome c =
    let all : c.loop-steps.steps ≡ c.args.limit = omega arith in
    gives_halted (halts.Stuck Turns) c.args.limit c.loop-steps.machine.found c.halted-2.result _ c.loop-steps.board
    (c.halted-2.ensures.gives ∙ ap (halted (halts.Stuck Turns) c.args.limit) c.found.ensures.value)
    (inr ((c.loop-steps.invariant.told (c.args.limit - c.loop-steps.steps) c.args.limit (omega arith)) ∙ (ends_at_limit c.args.limit c.loop-steps.steps c.args.code.now c.loop-steps.machine c.loop-steps.board (omega arith) ∙ ap (λ n. let e : Execution = (halted (halts.Stuck Turns) n c.loop-steps.machine.found, c.loop-steps.board) in e) all)))

pub returns-clause-board : goal.returns-clause-board
returns-clause-board c =
    let all : c.loop-steps.steps ≡ c.args.limit = omega arith in
    leaves_halted (halts.Stuck Turns) c.args.limit c.loop-steps.machine.found c.halted-2.result _ c.loop-steps.board c.loop-steps.board
    (c.halted-2.ensures.gives ∙ ap (halted (halts.Stuck Turns) c.args.limit) c.found.ensures.value)
    (inr ((c.loop-steps.invariant.told (c.args.limit - c.loop-steps.steps) c.args.limit (omega arith)) ∙ (ends_at_limit c.args.limit c.loop-steps.steps c.args.code.now c.loop-steps.machine c.loop-steps.board (omega arith) ∙ ap (λ n. let e : Execution = (halted (halts.Stuck Turns) n c.loop-steps.machine.found, c.loop-steps.board) in e) all)))
    (inr refl)

pub returns-clause-reads_only : goal.returns-clause-reads_only
returns-clause-reads_only c = c.loop-steps.invariant.reads

pub returns-in_err-machine-clause-cut : goal.returns-in_err-machine-clause-cut
returns-in_err-machine-clause-cut c = cut_before c.args.code.now c.args.entry c.args.board.now c.args.board.now (inl refl)

pub returns-in_default-clause-cut : goal.returns-in_default-clause-cut
returns-in_default-clause-cut c =
    cut_after c.loop-steps.steps c.args.code.now c.args.entry c.args.board.now c.loop-steps.machine c.loop-steps.board c.loop-steps.board c.loop-steps.invariant.told (inl refl)

pub returns-in-Err-clause-cut : goal.returns-in-Err-clause-cut
returns-in-Err-clause-cut c =
    cut_after c.loop-steps.steps c.args.code.now c.args.entry c.args.board.now c.loop-steps.machine c.loop-steps.board c.step.new.board c.loop-steps.invariant.told
    (left_by c.in-Err.halt c.loop-steps.board c.step.new.board c.in-Err.ensures.kept)

pub returns-clause-cut : goal.returns-clause-cut
returns-clause-cut c =
    cut_after c.loop-steps.steps c.args.code.now c.args.entry c.args.board.now c.loop-steps.machine c.loop-steps.board c.loop-steps.board c.loop-steps.invariant.told (inl refl)

pub returns-in_default-clause-named : goal.returns-in_default-clause-named
returns-in_default-clause-named c =
    named_cut c.args.code.now c.args.entry c.args.board.now c.loop-steps.board (returns-in_default-clause-cut c)

pub returns-in_default-clause-full : goal.returns-in_default-clause-full
returns-in_default-clause-full c =
    full_where c.halted-in_default.result c.args.limit c.args.code.now c.args.entry c.args.board.now c.loop-steps.board (returns-in_default-clause-outcome c) (returns-in_default-clause-board c)

pub returns-in-Err-clause-named : goal.returns-in-Err-clause-named
returns-in-Err-clause-named c =
    named_cut c.args.code.now c.args.entry c.args.board.now c.step.new.board (returns-in-Err-clause-cut c)

pub returns-in-Err-clause-full : goal.returns-in-Err-clause-full
returns-in-Err-clause-full c =
    full_where c.halted-in-Err.result c.args.limit c.args.code.now c.args.entry c.args.board.now c.step.new.board (returns-in-Err-clause-outcome c) (returns-in-Err-clause-board c)

pub returns-clause-named : goal.returns-clause-named
returns-clause-named c =
    named_cut c.args.code.now c.args.entry c.args.board.now c.loop-steps.board (returns-clause-cut c)

pub returns-clause-full : goal.returns-clause-full
returns-clause-full c =
    full_where c.halted-2.result c.args.limit c.args.code.now c.args.entry c.args.board.now c.loop-steps.board (returns-clause-outcome c) (returns-clause-board c)
