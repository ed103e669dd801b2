-- The document is one piece of the answer, and a run whose document is there was not cut short.
use Rattle.std.proofs.Common.{rules, ◌≡◌, ◌⊎◌, inr, refl, map, w64, ℤ, to_z, of_z, subst}
use Rattle.std.specs.Prelude.{string_bytes}
use Rattle.std.proofs.lemmas.Int.{to_z-of_z}
use Rattle.bb_shell.specs.Fitting.{native_names}
use Rattle.bb_shell.specs.InputFault.TheVariants.{Memory as out_of_memory}
use Rattle.bb_shell.specs.Meaning.{meaning}
use Rattle.bb_main.specs.Serve.{CutShort, Delivers, answer_to_units}
use Rattle.bb_main.proofs.ServeLemmas.{cut-nothing, left_no_write, served_refusal, served_units}
use Rattle.bb_main.specs.declared.serving.TheConstants.{MEMORY}
use Rattle.bb_main.proofs.leaving.units_sections.Goals as goal

pub write_line-requires-clause-other : goal.write_line-requires-clause-other
write_line-requires-clause-other g c =
    let natives = map g.N.NativeSource.meaning c.args.natives.items in
    let given = λ (z : ℤ). meaning (native_names natives) c.args.sections.schema.now c.args.sections.units.now c.args.sections.sources.now c.args.sections.bundle.now z in
    rw c.status-status.ensures (left_no_write natives c.args.options.limit (given (to_z w64 (of_z w64 c.args.options.floor))) c.in-Ok.left.finish c.in-Ok.ensures.finish)

pub returns-in-Ok-clause-answer : goal.returns-in-Ok-clause-answer
returns-in-Ok-clause-answer g c =
    let natives = map g.N.NativeSource.meaning c.args.natives.items in
    let old = g.O.Out.taken c.args.writer.now in
    let new = g.O.Out.taken c.write_line.new.writer in
    let given = λ (z : ℤ). meaning (native_names natives) c.args.sections.schema.now c.args.sections.units.now c.args.sections.sources.now c.args.sections.bundle.now z in
    let same = to_z-of_z w64 c.args.options.floor (search rules) in
    let wrote = rw (c.as_str.ensures.value, c.status-status.ensures) at c.write_line.ensures.answer in
    rw c.quiet.ensures.status (subst (λ (z : ℤ). Delivers (answer_to_units natives c.args.options.limit (given z)) old new c.write_line.result ⊎ CutShort (answer_to_units natives c.args.options.limit (given z)) old new c.write_line.result) same
    (served_units natives c.args.options.limit (given (to_z w64 (of_z w64 c.args.options.floor))) c.in-Ok.left.finish (string_bytes c.in-Ok.left.document) c.write_line.result old new c.in-Ok.ensures.finish c.in-Ok.ensures.text wrote))

pub returns-in-Err-Memory-clause-answer : goal.returns-in-Err-Memory-clause-answer
returns-in-Err-Memory-clause-answer g c =
    let natives = map g.N.NativeSource.meaning c.args.natives.items in
    let given = meaning (native_names natives) c.args.sections.schema.now c.args.sections.units.now c.args.sections.sources.now c.args.sections.bundle.now c.args.options.floor in
    rw c.quiet-in-Err-Memory.ensures.status (inr (cut-nothing (answer_to_units natives c.args.options.limit given) (g.O.Out.taken c.args.writer.now) MEMORY refl))

pub returns-in-Err : goal.returns-in-Err
returns-in-Err g c =
    let natives = map g.N.NativeSource.meaning c.args.natives.items in
    let old = g.O.Out.taken c.args.writer.now in
    let new = g.O.Out.taken c.refuse.new.writer in
    let given = λ (z : ℤ). meaning (native_names natives) c.args.sections.schema.now c.args.sections.units.now c.args.sections.sources.now c.args.sections.bundle.now z in
    let same = to_z-of_z w64 c.args.options.floor (search rules) in
    let other : c.in-Err.fault ≡ out_of_memory → ⊥ = λ is. search rules in
    record {
      answer = subst (λ (z : ℤ). Delivers (answer_to_units natives c.args.options.limit (given z)) old new c.refuse.result.status ⊎ CutShort (answer_to_units natives c.args.options.limit (given z)) old new c.refuse.result.status) same
          (served_refusal natives c.args.options.limit (given (to_z w64 (of_z w64 c.args.options.floor))) c.in-Err.fault c.refuse.result.status old new other c.in-Err.ensures.refused c.refuse.ensures.answer);
      failed = c.refuse.ensures.failed;
      silent = c.refuse.ensures.silent;
      unasked = c.refuse.ensures.unasked;
    }
