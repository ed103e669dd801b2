use Rattle.std.proofs.Common.{◌≡◌, ◌∙◌, ap, arith, length, length-append, sym, ℕ, Bool, false, cond, not, List, [], ◌∷◌, ◌++◌, map}
use Rattle.std.specs.List.{list_any}
use Rattle.std.specs.Str.{bytes_eq}
use Rattle.bb_basis.proofs.ListLemmas.{map-last}
use Rattle.bb_basis.proofs.table.Table.push.Goals as goal

-- the names stay in step where a new one goes last
in_step : {X : Type 0} (name_of : X → List ℕ) (old new : List X) (x : X) (names more : List (List ℕ)) (name : List ℕ) (fresh : Bool) → names ≡ map name_of old → name ≡ name_of x → list_any (bytes_eq (name_of x)) (map name_of old) ≡ false
    → fresh ≡ not (list_any (bytes_eq name) names) → more ≡ cond fresh (names ++ name ∷ []) names → new ≡ old ++ x ∷ [] → more ≡ map name_of new
in_step name_of old new x names more name fresh named is absent test grown made =
    let missing : list_any (bytes_eq name) names ≡ false = ap (list_any (bytes_eq name)) named ∙ (ap (λ n. list_any (bytes_eq n) (map name_of old)) is ∙ absent) in
    let added : more ≡ names ++ name ∷ [] = grown ∙ ap (λ b. cond b (names ++ name ∷ []) names) (test ∙ ap not missing) in
    added ∙ (ap (λ ns. ns ++ name ∷ []) named ∙ (ap (λ n. map name_of old ++ n ∷ []) is ∙ (sym (map-last name_of old x) ∙ ap (map name_of) (sym made))))

pub invariant_of-self-2 : goal.invariant_of-self-2
invariant_of-self-2 g c =
    let made = c.push_reserved.ensures.items ∙ ap (λ xs. xs ++ c.args.item ∷ []) c.reserve.ensures.items in
    record {
      named = in_step g.T.Named.name_of c.self.inside.items.items c.push_reserved.new.self.items c.args.item c.self.inside.names c.insert.new.self c.name.result.now c.in_ok-insert.field-0 c.self.invariant.named c.name.ensures
          (rw c.self.view_is c.requires.fresh) c.in_ok-insert.ensures.fresh c.in_ok-insert.ensures.added made;
      few = rw made (omega (arith, length-append c.self.inside.items.items (c.args.item ∷ []), ap length c.self.view_is));
    }
