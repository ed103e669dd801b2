use Rattle.std.proofs.Common.{◌≡◌, drop}
use Rattle.bb_code.specs.declared.parts.TheConstants.{STACK_LIMIT}
use Rattle.bb_compile.specs.Actions.{values_code}
use Rattle.bb_compile.specs.proving.Laying.{Same}
use Rattle.bb_compile.proofs.actions.emit_values.Given as goal

-- what is laid out, and what is still to be
abbrev pub invariant-loop-value : goal.invariant-loop-value
invariant-loop-value l =
    (values_code l.fn.emitter.schema.now l.room (drop l.value-index l.values) l.emitter.buffer ≡ values_code l.fn.emitter.schema.now STACK_LIMIT l.values l.fn.emitter.buffer)
    × Same l.fn.emitter l.emitter
