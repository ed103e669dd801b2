-- What a call does to an emitter: the buffer becomes what a definition says, and everything else stays unchanged. Or
-- memory runs out.
use Rattle.std.specs.Prelude.{◌≡◌, ◌⊎◌, Result, Ok, Err}
use Rattle.bb_compile_scope.specs.declared.fault.CompileFault.{CompileFault}
use Rattle.bb_compile_scope.specs.declared.fault.CompileFault.TheVariants.{Memory}
use Rattle.bb_compile_buffer.specs.Buffers.{Step, Change}
use Rattle.bb_compile.specs.declared.asked.Asked.{Asked}
use Rattle.bb_compile.specs.declared.emitter.Emitter.{Emitter}
use Rattle.bb_compile.specs.Queries.{Patterned}

-- schema and part are unchanged
abbrev pub Same : (before after : Emitter) → Type 0
Same before after = (after.schema ≡ before.schema) × (after.part ≡ before.part)

-- the call made nothing, and left the buffer that the definition says; or it failed as the definition does, or memory
-- ran out
abbrev pub Lays : {X : Type 0} → (before after : Emitter) → Result X CompileFault → Change → Type 0
Lays before after (Ok x) change = (change before.buffer ≡ Ok after.buffer) × Same before after
Lays before after (Err fault) change = (fault ≡ Memory) ⊎ (change before.buffer ≡ Err fault)

-- what the call made and the buffer it left are those of the definition; or it failed as the definition does, or memory
-- ran out
abbrev pub Makes : {X : Type 0} → (before after : Emitter) → Result X CompileFault → Step X → Type 0
Makes before after (Ok x) step = (step before.buffer ≡ Ok (x, after.buffer)) × Same before after
Makes before after (Err fault) step = (fault ≡ Memory) ⊎ (step before.buffer ≡ Err fault)

-- the same for a pattern that the call made, seen by `view`, the query after it, and the buffer
abbrev pub Asks : {X Y : Type 0} → (view : X → Y) → (asked : Asked) → (before after : Emitter) → Result X CompileFault → Result (Patterned Y) CompileFault → Type 0
Asks view asked before after (Ok x) patterned = (patterned ≡ Ok (view x, asked, after.buffer)) × Same before after
Asks view asked before after (Err fault) patterned = (fault ≡ Memory) ⊎ (patterned ≡ Err fault)
