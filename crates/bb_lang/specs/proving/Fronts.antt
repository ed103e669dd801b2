-- What a loop of a repeated reader has read so far, put before what it still reads.
use Rattle.std.specs.Prelude.{List, ◌++◌, Result, Ok, Err}
use Rattle.bb_lang_tree.specs.declared.fault.LangFault.{LangFault}
use Rattle.bb_lang_tree.specs.State.{State}

-- the result of a reader, with `front` before what it read
abbrev pub with_front : {X : Type 0} → List X → Result (List X × State) LangFault → Result (List X × State) LangFault
with_front front (Ok p) = Ok (front ++ p.0, p.1)
with_front front (Err e) = Err e
