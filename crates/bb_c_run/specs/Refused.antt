-- Why an input is refused, as a host is told.
use Rattle.std.specs.Prelude.{ℕ, List, string_bytes}
use Rattle.bb_c_run.specs.declared.refusal.Refusal.{Refusal}

-- the line of a refusal, without its line feed
abbrev pub line_of : Refusal → List ℕ
line_of r = string_bytes r.line
