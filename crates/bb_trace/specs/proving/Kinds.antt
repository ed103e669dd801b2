-- An end of the code is recovered from its end in the definitions.
use Rattle.std.specs.Prelude.{◌≡◌}
use Rattle.std.proofs.Common.{ap}
use Rattle.bb_trace.specs.declared.end.EndKind.{EndKind}
use Rattle.bb_trace.specs.declared.end.End.TheInside.{Inside}
use Rattle.bb_trace.specs.proving.Ends.{end_of, kind_back, kind_of}

abbrev pub of_kind : EndKind → Inside
of_kind k = record { kind = k }

pub end_back : (e : Inside) → of_kind (kind_of (end_of e.kind)) ≡ e
end_back e = ap of_kind (kind_back e.kind)
