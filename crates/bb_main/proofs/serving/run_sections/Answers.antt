use Rattle.std.proofs.Common.{rules, ◌⊎◌, inr, refl, map, w64, ℤ, to_z, of_z, subst}
use Rattle.std.proofs.lemmas.Int.{to_z-of_z}
use Rattle.bb_shell.specs.Fitting.{native_names}
use Rattle.bb_shell.specs.Meaning.{meaning}
use Rattle.bb_main.specs.Serve.{CutShort, Delivers, answer_to_meaning}
use Rattle.bb_main.proofs.ServeLemmas.{cut-nothing, served_meaning}
use Rattle.bb_main.specs.declared.serving.TheConstants.{MEMORY}
use Rattle.bb_main.proofs.serving.run_sections.Goals as goal

pub returns-in-Ok-clause-answer : goal.returns-in-Ok-clause-answer
returns-in-Ok-clause-answer g c =
    let natives = map g.N.NativeSource.meaning c.args.natives.items in
    let old = g.O.Out.taken c.args.writer.now in
    let new = g.O.Out.taken c.run_texts.new.out in
    let given = λ (z : ℤ). meaning (native_names natives) c.args.sections.schema.now c.args.sections.units.now c.args.sections.sources.now c.args.sections.bundle.now z in
    let same = to_z-of_z w64 c.args.options.floor (search rules) in
    rw c.quiet.ensures.status (subst (λ (z : ℤ). Delivers (answer_to_meaning natives c.args.options.limit (given z)) old new c.status.result ⊎ CutShort (answer_to_meaning natives c.args.options.limit (given z)) old new c.status.result) same
    (served_meaning natives c.args.options.limit (given (to_z w64 (of_z w64 c.args.options.floor))) c.in-Ok.finish c.status.result old new c.status.ensures c.in-Ok.ensures.finish c.in-Ok.ensures.text c.in-Ok.ensures.front))

pub returns-in-Err-Memory-clause-answer : goal.returns-in-Err-Memory-clause-answer
returns-in-Err-Memory-clause-answer g c =
    let natives = map g.N.NativeSource.meaning c.args.natives.items in
    let given = meaning (native_names natives) c.args.sections.schema.now c.args.sections.units.now c.args.sections.sources.now c.args.sections.bundle.now c.args.options.floor in
    rw (c.in-Err-Memory.ensures.quiet, c.quiet-in-Err-Memory.ensures.status) (inr (cut-nothing (answer_to_meaning natives c.args.options.limit given) (g.O.Out.taken c.args.writer.now) MEMORY refl))
