use Rattle.std.proofs.Common.{◌≡◌, ◌∙◌, sym, ap, subst, refl, ℕ, ◌||◌, ◌==◌, false, List, [], ◌∷◌, ◌++◌, cond, nat_eq}
use Rattle.std.specs.List.{list_any}
use Rattle.std.proofs.lemmas.Bool.{or_parts}
use Rattle.bb_basis.proofs.NumberLemmas.{differ_swapped}
use Rattle.bb_basis.proofs.id_set.IdSet.push.Goals as goal

-- a number that is not there is not met from either side
none_turned : (c : ℕ) (ds : List ℕ) → list_any (λ d. d == c) ds ≡ false → list_any (λ d. nat_eq c d) ds ≡ false
none_turned c [] h = refl
none_turned c (d ∷ ds) h =
    let parts = or_parts (d == c) (list_any (λ e. e == c) ds) h in
    ap (λ b. b || list_any (λ e. nat_eq c e) ds) (differ_swapped c d parts.0) ∙ none_turned c ds parts.1

pushed : (keys seen new : List ℕ) (c : ℕ) → keys ≡ seen → list_any (λ d. d == c) seen ≡ false → new ≡ cond (list_any (λ d. nat_eq c d) keys) keys (keys ++ c ∷ []) → new ≡ seen ++ c ∷ []
pushed keys seen new c view fresh made =
    let absent : list_any (λ d. nat_eq c d) keys ≡ false = none_turned c keys (subst (λ l. list_any (λ d. d == c) l ≡ false) (sym view) fresh) in
    made ∙ (ap (λ b. cond b keys (keys ++ c ∷ [])) absent ∙ ap (λ l. l ++ c ∷ []) view)

pub returns-clause-ok : goal.returns-clause-ok
returns-clause-ok c = pushed c.self.inside.set.keys c.args.self.now c.insert.new.self.keys c.args.id c.self.view_is c.requires c.in_ok-insert.ensures.keys
