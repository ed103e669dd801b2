use Rattle.std.proofs.Common.{◌≡◌, drop}
use Rattle.std.specs.Prelude.{find}
use Rattle.std.specs.Str.{bytes_eq}
use Rattle.bb_compile_scope.proofs.scope.Scope.local_of.Given as goal

-- none of those before has the name
abbrev pub invariant-loop-named : goal.invariant-loop-named
invariant-loop-named l = find (λ n. bytes_eq n.name l.name) (drop l.named-index l.self.names) ≡ find (λ n. bytes_eq n.name l.name) l.self.names
