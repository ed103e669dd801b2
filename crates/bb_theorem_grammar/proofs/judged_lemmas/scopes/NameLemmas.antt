-- The names of a scope, with what they hold.
use Rattle.std.proofs.Common.{◌≡◌, ℕ, Bool, true, false, cond, List, [], ◌∷◌, map, Some, refl}
use Rattle.std.specs.Prelude.{find, option_map}
use Rattle.std.specs.Str.{bytes_eq}
use Rattle.bb_code.specs.declared.frame.Kind.{Kind}
use Rattle.bb_compile_scope.specs.LocalKinds.{kind_at}
use Rattle.bb_compile_scope.specs.Scope.{local_of}
use Rattle.bb_compile_scope.specs.declared.scope.NamedLocal.{NamedLocal}
use Rattle.bb_compile_scope.specs.declared.scope.Scope.{Scope}
use Rattle.bb_compile_scope.proofs.Laws.{frees}
use Rattle.bb_theorem_grammar.specs.judged.Names.{Named, Names, kind_named}

-- the names of a scope, without their locals
abbrev pub named_in : List Kind → NamedLocal → Named
named_in kinds n = record { name = n.name; kind = kind_at kinds n.local }

abbrev pub names_of : Scope → Names
names_of scope = record { held = map (named_in scope.kinds) scope.names; room = frees scope.kinds }

-- a name holds what its local holds
found_kind : (kinds : List Kind) (ns : List NamedLocal) (name : List ℕ) → option_map (λ n. n.kind) (find (λ n. bytes_eq n.name name) (map (named_in kinds) ns)) ≡ option_map (kind_at kinds) (option_map (λ n. n.local) (find (λ n. bytes_eq n.name name) ns))
found_kind kinds [] name = refl
found_kind kinds (n ∷ ns) name = by_name (found_kind kinds ns name) (bytes_eq n.name name)
  where
    by_name : option_map (λ m. m.kind) (find (λ m. bytes_eq m.name name) (map (named_in kinds) ns)) ≡ option_map (kind_at kinds) (option_map (λ m. m.local) (find (λ m. bytes_eq m.name name) ns)) → (b : Bool) → option_map (λ m. m.kind) (cond b (Some (named_in kinds n)) (find (λ m. bytes_eq m.name name) (map (named_in kinds) ns))) ≡ option_map (kind_at kinds) (option_map (λ m. m.local) (cond b (Some n) (find (λ m. bytes_eq m.name name) ns)))
    by_name rest true = refl
    by_name rest false = rest

pub kind_same : (scope : Scope) (name : List ℕ) → kind_named (names_of scope) name ≡ option_map (kind_at scope.kinds) (local_of scope name)
kind_same scope name = found_kind scope.kinds scope.names name
