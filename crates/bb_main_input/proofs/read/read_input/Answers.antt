use Rattle.std.proofs.Common.{◌≡◌, ◌≤◌, ◌+◌, ℕ, length, length-take, arith}
use Rattle.std.proofs.lemmas.Result.{err_from_is_err_and}
use Rattle.bb_main_input.specs.declared.read.TheConstants.{INPUT_LIMIT}
use Rattle.bb_main_input.proofs.ReadLemmas.{takes-read}
use Rattle.bb_main_input.proofs.read.read_input.Goals as goal

pub returns-in_err-extend_from_slice-clause-read : goal.returns-in_err-extend_from_slice-clause-read
returns-in_err-extend_from_slice-clause-read g c =
    let p = err_from_is_err_and c.from_residual-in_err-extend_from_slice.result c.from_residual-in_err-extend_from_slice.ensures.1 in
    let count = rw c.in_ok-count.ensures.ok_part at c.read.ensures.count in
    let bytes = rw c.in_ok-count.ensures.ok_part at c.read.ensures.bytes in
    let taken = takes-read (g.R.In.remaining c.args.reader.now) (g.R.In.remaining c.loop-input.reader) (g.R.In.remaining c.read.new.self) c.loop-input.input.items c.read.new.buffer c.in_ok-count.count count c.loop-input.invariant.taken bytes in
    let room : length c.loop-input.input.items + c.in_ok-count.count ≤ INPUT_LIMIT = omega (arith, c.read.auto.buffer, length-take {A = ℕ}) in
    rw (p.1, p.2) (taken.0, taken.1, omega arith)

pub returns-in-Some-clause-read : goal.returns-in-Some-clause-read
returns-in-Some-clause-read g c =
    let taken = takes-read (g.R.In.remaining c.args.reader.now) (g.R.In.remaining c.loop-input.reader) (g.R.In.remaining c.read-2.new.self) c.loop-input.input.items c.read-2.new.buffer c.in-Some.field-0 c.in-Some.ensures.count c.loop-input.invariant.taken c.in-Some.ensures.bytes in
    let some = c.in-Some.field-0-test.1 in
    let one : c.in-Some.field-0 ≡ 1 = omega (arith, c.in-Some.ensures.count, c.read-2.auto.buffer, length-take {A = ℕ}) in
    (taken.0, taken.1, omega arith)
