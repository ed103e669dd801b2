-- How far the bytes of a code show no fault: decoding them reports at most a missing end.
use Rattle.std.specs.Prelude.{ℕ, Bool, true, false, List, Result, Ok, Err}
use Rattle.bb_code.specs.Reading.{code_of}
use Rattle.bb_code.specs.declared.fault.CodeFault.{CodeFault}
use Rattle.bb_code.specs.declared.fault.CodeFault.TheVariants.{Short}
use Rattle.bb_code.specs.Code.{Code}

-- bytes are missing, or the bytes are a code, after which any further byte would be a fault
abbrev pub goes_on : Result Code CodeFault → Bool
goes_on (Ok code) = true
goes_on (Err Short) = true
goes_on (Err _) = false

-- a prefix of the bytes of a code shows no fault
abbrev pub is_early : List ℕ → Bool
is_early bytes = goes_on (code_of bytes)
