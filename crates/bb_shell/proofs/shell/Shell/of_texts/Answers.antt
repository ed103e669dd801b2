use Rattle.std.proofs.Common.{◌≡◌, ◌⊎◌, ℕ, ℤ, rules, w64, List, map, Result, Ok, Err, ◌∙◌, ap, sym, subst}
use Rattle.std.proofs.lemmas.Int.{to_z-of_z}
use Rattle.bb_refusal.specs.declared.input_fault.InputFault.{InputFault}
use Rattle.bb_refusal.specs.declared.input_fault.InputFault.TheVariants.{Memory}
use Rattle.bb_run.specs.Native.{Native}
use Rattle.bb_shell.specs.Fitting.{names_in, native_names}
use Rattle.bb_shell.specs.Meaning.{Meaning, meaning}
use Rattle.bb_shell.proofs.UnstuckLemmas.{meaning_whole, names_told}
use Rattle.bb_shell.proofs.shell.Shell.of_texts.Goals as goal

-- what the texts mean, with the names that a roster tells, is what they mean with those of its natives
means_with : (natives : List Native) (names : List (List ℕ)) (given : List (List ℕ) → Result Meaning InputFault) (r : Result Meaning InputFault) → names ≡ native_names natives → given names ≡ r → given (native_names natives) ≡ r
means_with natives names given r same is = sym (ap given same) ∙ is

pub invariant_of-result : goal.invariant_of-result
invariant_of-result g c =
    let held = map g.N.NativeSource.meaning c.in_ok-roster.roster.natives.items in let t = c.args.texts.now in
    let given = λ (names : List (List ℕ)). meaning names t.schema.now t.units.now t.sources.now t.bundle.now c.args.floor in
    let m : Meaning = record { plan = c.in-Ok.plan; board = c.in-Ok.board } in
    let floor = to_z-of_z w64 c.args.floor (search rules) in
    let means = sym (ap (λ (z : ℤ). meaning (names_in c.handed_in.result.now) t.schema.now t.units.now t.sources.now t.bundle.now z) floor) ∙ c.in-Ok.ensures.means in
    let whole = meaning_whole (native_names held) t.schema.now t.units.now t.sources.now t.bundle.now c.args.floor m
    (means_with held (names_in c.handed_in.result.now) given (Ok m) (names_told held c.handed_in.result.now c.handed_in.ensures) means) in
    record { of_schema = whole.schema; made = ∣ whole.made ∣₁; acted = whole.acts }

pub returns-in-Ok-clause-means : goal.returns-in-Ok-clause-means
returns-in-Ok-clause-means g c =
    let held = map g.N.NativeSource.meaning c.in_ok-roster.roster.natives.items in let t = c.args.texts.now in
    let names = names_told held c.handed_in.result.now c.handed_in.ensures ∙ ap native_names c.in_ok-roster.ensures in
    let means = λ (ns : List (List ℕ)) (z : ℤ). meaning ns t.schema.now t.units.now t.sources.now t.bundle.now z ≡ Ok (record { plan = c.in-Ok.plan; board = c.in-Ok.board }) in
    subst (λ (ns : List (List ℕ)). means ns c.args.floor) names (subst (means _) (to_z-of_z w64 c.args.floor (search rules)) c.in-Ok.ensures.means)

pub returns-in-Err-clause-means : goal.returns-in-Err-clause-means
returns-in-Err-clause-means g c =
    let held = map g.N.NativeSource.meaning c.in_ok-roster.roster.natives.items in let t = c.args.texts.now in
    let names = names_told held c.handed_in.result.now c.handed_in.ensures ∙ ap native_names c.in_ok-roster.ensures in
    let means = λ (ns : List (List ℕ)) (z : ℤ). (c.in-Err.fault ≡ Memory) ⊎ (meaning ns t.schema.now t.units.now t.sources.now t.bundle.now z ≡ Err c.in-Err.fault) in
    subst (λ (ns : List (List ℕ)). means ns c.args.floor) names (subst (means _) (to_z-of_z w64 c.args.floor (search rules)) c.in-Err.ensures.means)
