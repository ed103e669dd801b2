use Rattle.std.proofs.Common.{◌≡◌, ◌∙◌, sym, ap, subst, ℕ, false, List, [], ◌∷◌, ◌++◌, cond, map, String, Global, string_bytes}
use Rattle.std.specs.String.{string_eq}
use Rattle.std.specs.List.{list_any}
use Rattle.std.specs.Str.{bytes_eq}
use Rattle.bb_basis.proofs.ListLemmas.{list_any-map, map-last}
use Rattle.bb_basis.proofs.names.Names.insert.Goals as goal

-- what is not there goes last
pushed : (keys new : List (String Global)) (k : String Global) (name : List ℕ) (seen : List (List ℕ)) → map string_bytes keys ≡ seen → string_bytes k ≡ name → list_any (bytes_eq name) seen ≡ false → new ≡ cond (list_any (string_eq k) keys) keys (keys ++ k ∷ []) → map string_bytes new ≡ seen ++ name ∷ []
pushed keys new k name seen view is absent made =
    let shown : list_any (λ s. bytes_eq name (string_bytes s)) keys ≡ false = sym (list_any-map (bytes_eq name) string_bytes keys) ∙ (ap (list_any (bytes_eq name)) view ∙ absent) in
    let missing : list_any (string_eq k) keys ≡ false = subst (λ n. list_any (λ s. bytes_eq n (string_bytes s)) keys ≡ false) (sym is) shown in
    rw (made, missing) (map-last string_bytes keys k ∙ (ap (λ n. map string_bytes keys ++ n ∷ []) is ∙ ap (λ ns. ns ++ name ∷ []) view))

pub returns-clause-added : goal.returns-clause-added
returns-clause-added c = pushed c.self.inside.set.keys c.insert.new.self.keys c.in_ok-from_str.field-0 c.args.name.now c.args.self.now c.self.view_is c.in_ok-from_str.ensures.ok (sym c.if-contains.ensures) c.in_ok-insert.ensures.keys
