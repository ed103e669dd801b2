-- What a loop over patterns has made so far, put before what it still makes.
use Rattle.std.specs.Prelude.{List, [], ◌∷◌, Result, Ok}
use Rattle.bb_basis.specs.Results.{◌>>=◌}
use Rattle.bb_pattern.specs.Trees.{Tree, Trees, more}
use Rattle.bb_compile_scope.specs.declared.fault.CompileFault.{CompileFault}
use Rattle.bb_compile.specs.declared.asked.Asked.{Asked}
use Rattle.bb_compile_buffer.specs.declared.buffer.Buffer.{Buffer}

abbrev pub behind : List Tree → Trees → Trees
behind [] ps = ps
behind (t ∷ ts) ps = more t (behind ts ps)

unfoldable pub with_front : List Tree → Result (Trees × Asked × Buffer) CompileFault → Result (Trees × Asked × Buffer) CompileFault
with_front made rest = rest >>= λ r. Ok (behind made r.0, r.1, r.2)
