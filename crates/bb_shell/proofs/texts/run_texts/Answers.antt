use Rattle.std.proofs.Common.{◌≡◌, ℤ, rules, w64, List, map, Some, Ok, subst}
use Rattle.std.proofs.lemmas.Int.{to_z-of_z}
use Rattle.std.specs.Prelude.{IfSome}
use Rattle.std.specs.Io.KnownBytes.{Appends}
use Rattle.bb_run.specs.Finish.{WritesFront, end_of}
use Rattle.bb_run.specs.Native.{Native}
use Rattle.bb_run.specs.Run.{run}
use Rattle.bb_run.specs.TraceText.{trace_text}
use Rattle.bb_run.specs.Unstuck.{IsUnstuck}
use Rattle.bb_shell.specs.Fitting.{native_names}
use Rattle.bb_shell.specs.Meaning.{Meaning, meaning}
use Rattle.bb_shell.proofs.texts.run_texts.Goals as goal

pub returns-clause-finish : goal.returns-clause-finish
returns-clause-finish g c =
    let s = c.in_ok-shell.shell in let names = native_names (map g.N.NativeSource.meaning c.args.natives.items) in
    let m : Meaning = record { plan = s.plan; board = s.board } in
    let means = subst (λ (z : ℤ). meaning names c.args.schema.now c.args.units.now c.args.sources.now c.args.bundle.now z ≡ Ok m) (to_z-of_z w64 c.args.floor (search rules)) c.in_ok-shell.ensures.means in
    (m, means, subst (λ (ns : List Native). IfSome (end_of c.run.result) (λ end. (run s.plan s.board ns c.args.limit).end ≡ Some end)) c.in_ok-shell.ensures.natives c.run.ensures.finish)

pub returns-clause-text : goal.returns-clause-text
returns-clause-text g c =
    let s = c.in_ok-shell.shell in let names = native_names (map g.N.NativeSource.meaning c.args.natives.items) in
    let m : Meaning = record { plan = s.plan; board = s.board } in
    let means = subst (λ (z : ℤ). meaning names c.args.schema.now c.args.units.now c.args.sources.now c.args.bundle.now z ≡ Ok m) (to_z-of_z w64 c.args.floor (search rules)) c.in_ok-shell.ensures.means in
    (m, means, subst (λ (ns : List Native). IfSome (end_of c.run.result) (λ _. Appends (g.O.Out.taken c.args.out.now) (g.O.Out.taken c.run.new.out) (trace_text s.plan (run s.plan s.board ns c.args.limit).emitted))) c.in_ok-shell.ensures.natives c.run.ensures.text)

pub returns-clause-front : goal.returns-clause-front
returns-clause-front g c =
    let s = c.in_ok-shell.shell in let names = native_names (map g.N.NativeSource.meaning c.args.natives.items) in
    let m : Meaning = record { plan = s.plan; board = s.board } in
    let means = subst (λ (z : ℤ). meaning names c.args.schema.now c.args.units.now c.args.sources.now c.args.bundle.now z ≡ Ok m) (to_z-of_z w64 c.args.floor (search rules)) c.in_ok-shell.ensures.means in
    (m, means, subst (λ (ns : List Native). WritesFront s.plan (run s.plan s.board ns c.args.limit) c.run.result (g.O.Out.taken c.args.out.now) (g.O.Out.taken c.run.new.out)) c.in_ok-shell.ensures.natives c.run.ensures.front)

pub returns-clause-unstuck : goal.returns-clause-unstuck
returns-clause-unstuck g c =
    let s = c.in_ok-shell.shell in let names = native_names (map g.N.NativeSource.meaning c.args.natives.items) in
    let m : Meaning = record { plan = s.plan; board = s.board } in
    let means = subst (λ (z : ℤ). meaning names c.args.schema.now c.args.units.now c.args.sources.now c.args.bundle.now z ≡ Ok m) (to_z-of_z w64 c.args.floor (search rules)) c.in_ok-shell.ensures.means in
    (m, means, subst (λ (ns : List Native). IsUnstuck (run s.plan s.board ns c.args.limit)) c.in_ok-shell.ensures.natives c.run.ensures.unstuck)
