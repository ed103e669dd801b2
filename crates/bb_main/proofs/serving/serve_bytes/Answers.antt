use Rattle.std.proofs.Common.{◌⊎◌, ℕ, inl, List, Option, Ok, Err, map, subst, sym}
use Rattle.bb_main_input.specs.Input.{texts_of}
use Rattle.bb_main_options.specs.declared.choice.Mode.{Mode}
use Rattle.bb_main.specs.Serve.{Answer, CutShort, Delivers, answer_in}
use Rattle.bb_main.proofs.ServeLemmas.{answer-from}
use Rattle.bb_main.proofs.serving.serve_bytes.Goals as goal

-- an answer was delivered, or cut short
abbrev Answers : (taken given : Option (List ℕ)) → (status : ℕ) → Answer → Type 0
Answers taken given status a = Delivers a taken given status ⊎ CutShort a taken given status

pub returns-in-Run-clause-answer : goal.returns-in-Run-clause-answer
returns-in-Run-clause-answer g c =
    let natives = map g.N.NativeSource.meaning c.args.natives.items in
    let o = c.args.options in
    let t = c.in-Ok.sections in
    let served : Answer → Type 0 = Answers (g.O.Out.taken c.args.writer.now) (g.O.Out.taken c.run_sections.new.writer) c.run_sections.result.status in
    answer-from natives c.args.bytes.now o.mode o.limit o.floor (texts_of (Ok t)) served c.in-Ok.ensures
    (subst (λ (m : Mode). served (answer_in natives m o.limit o.floor t.schema.now t.units.now t.sources.now t.bundle.now)) (sym c.in-Run.is) c.run_sections.ensures.answer)

pub returns-in-Check-clause-answer : goal.returns-in-Check-clause-answer
returns-in-Check-clause-answer g c =
    let natives = map g.N.NativeSource.meaning c.args.natives.items in
    let o = c.args.options in
    let t = c.in-Ok.sections in
    let served : Answer → Type 0 = Answers (g.O.Out.taken c.args.writer.now) (g.O.Out.taken c.check_sections.new.writer) c.check_sections.result.status in
    answer-from natives c.args.bytes.now o.mode o.limit o.floor (texts_of (Ok t)) served c.in-Ok.ensures
    (subst (λ (m : Mode). served (answer_in natives m o.limit o.floor t.schema.now t.units.now t.sources.now t.bundle.now)) (sym c.in-Check.is) c.check_sections.ensures.answer)

pub returns-in-Compile-clause-answer : goal.returns-in-Compile-clause-answer
returns-in-Compile-clause-answer g c =
    let natives = map g.N.NativeSource.meaning c.args.natives.items in
    let o = c.args.options in
    let t = c.in-Ok.sections in
    let served : Answer → Type 0 = Answers (g.O.Out.taken c.args.writer.now) (g.O.Out.taken c.compile_sections.new.writer) c.compile_sections.result.status in
    answer-from natives c.args.bytes.now o.mode o.limit o.floor (texts_of (Ok t)) served c.in-Ok.ensures
    (subst (λ (m : Mode). served (answer_in natives m o.limit o.floor t.schema.now t.units.now t.sources.now t.bundle.now)) (sym c.in-Compile.is) c.compile_sections.ensures.answer)

pub returns-in-Units-clause-answer : goal.returns-in-Units-clause-answer
returns-in-Units-clause-answer g c =
    let natives = map g.N.NativeSource.meaning c.args.natives.items in
    let o = c.args.options in
    let t = c.in-Ok.sections in
    let served : Answer → Type 0 = Answers (g.O.Out.taken c.args.writer.now) (g.O.Out.taken c.units_sections.new.writer) c.units_sections.result.status in
    answer-from natives c.args.bytes.now o.mode o.limit o.floor (texts_of (Ok t)) served c.in-Ok.ensures
    (subst (λ (m : Mode). served (answer_in natives m o.limit o.floor t.schema.now t.units.now t.sources.now t.bundle.now)) (sym c.in-Units.is) c.units_sections.ensures.answer)

pub returns-in-Err-clause-answer : goal.returns-in-Err-clause-answer
returns-in-Err-clause-answer g c =
    let served : Answer → Type 0 = Answers (g.O.Out.taken c.args.writer.now) (g.O.Out.taken c.refuse_input.new.writer) c.refuse_input.result.status in
    answer-from (map g.N.NativeSource.meaning c.args.natives.items) c.args.bytes.now c.args.options.mode c.args.options.limit c.args.options.floor (texts_of (Err c.in-Err.fault)) served c.in-Err.ensures (inl (rw c.line.ensures at c.refuse_input.ensures.answer))
