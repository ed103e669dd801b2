use Rattle.std.proofs.Common.{◌≡◌, ◌⊎◌, ℕ, map, List, Ok, Err, sym, ap, subst, ◌∙◌}
use Rattle.std.proofs.lemmas.Result.{err_from_is_err_and}
use Rattle.bb_shell.specs.Check.{sources_in}
use Rattle.bb_refusal.specs.declared.input_fault.InputFault.TheVariants.{Memory}
use Rattle.bb_shell.specs.Fitting.{native_names}
use Rattle.bb_shell.proofs.UnstuckLemmas.{names_told}
use Rattle.bb_shell.proofs.check.check_sources.Goals as goal

pub returns-in_err-checked-clause-refused : goal.returns-in_err-checked-clause-refused
returns-in_err-checked-clause-refused g c =
    let held = map g.N.NativeSource.meaning c.in_ok-roster.roster.natives.items in
    let names = names_told held c.handed_in.result.now c.handed_in.ensures ∙ ap native_names c.in_ok-roster.ensures in
    let p = err_from_is_err_and c.from_residual-in_err-checked.result c.from_residual-in_err-checked.ensures.1 in
    rw (p.1, p.2) (subst (λ (ns : List (List ℕ)). (c.in_err-checked.field-0.0 ≡ Memory) ⊎ (sources_in ns c.args.schema.now c.args.sources.now c.args.bundle.now ≡ Err c.in_err-checked.field-0.0)) names c.in_err-checked.ensures.sources)

pub returns-clause-text : goal.returns-clause-text
returns-clause-text g c =
    let held = map g.N.NativeSource.meaning c.in_ok-roster.roster.natives.items in
    let names = names_told held c.handed_in.result.now c.handed_in.ensures ∙ ap native_names c.in_ok-roster.ensures in
    let given = λ (ns : List (List ℕ)). sources_in ns c.args.schema.now c.args.sources.now c.args.bundle.now in
    let is : given (native_names (map g.N.NativeSource.meaning c.args.natives.items)) ≡ Ok c.in_ok-checked.checked.1.items = sym (ap given names) ∙ c.in_ok-checked.ensures.sources in
    rw is (rw (c.as_str.ensures.value, c.in_ok-text.ensures, c.as_slice.ensures.value) at c.write-done.ensures.wrote)

pub returns-clause-sources : goal.returns-clause-sources
returns-clause-sources g c =
    let held = map g.N.NativeSource.meaning c.in_ok-roster.roster.natives.items in
    let names = names_told held c.handed_in.result.now c.handed_in.ensures ∙ ap native_names c.in_ok-roster.ensures in
    let given = λ (ns : List (List ℕ)). sources_in ns c.args.schema.now c.args.sources.now c.args.bundle.now in
    sym (ap given names) ∙ c.in_ok-checked.ensures.sources
