-- The clauses of a source are what their texts say.
use Rattle.std.proofs.Common.{◌≡◌, ℕ, Bool, true, false, cond, List, [], ◌∷◌, Option, Some, Result, Ok, Err, refl, sym, ap, subst, ◌∙◌}
use Rattle.std.specs.Prelude.{is_some}
use Rattle.std.specs.List.{AllZip}
use Rattle.bb_basis.specs.Results.{◌>>=◌, ok_or, try_map}
use Rattle.bb_basis.proofs.PlacedLemmas.{map_at_ok}
use Rattle.bb_basis.proofs.ResultLemmas.{bind_ok, ok_or_ok, same_ok}
use Rattle.bb_schema.specs.Schema.{Schema, class_named, default_of, descends, slot_named, space_named}
use Rattle.bb_schema.specs.Slots.{link_of}
use Rattle.bb_board.specs.declared.event.ChangeKind.{ChangeKind}
use Rattle.bb_board.specs.declared.event.ChangeKind.TheVariants as kinds
use Rattle.bb_bundle.specs.ChangeText.{ChangeText}
use Rattle.bb_bundle.specs.ChangeText.TheVariants as changes
use Rattle.bb_bundle.specs.ClauseText.{ClauseText}
use Rattle.bb_bundle.specs.ClauseText.TheVariants as texts
use Rattle.bb_rules.specs.declared.clause.Clause.{Clause}
use Rattle.bb_rules.specs.declared.clause.Clause.TheVariants as clauses
use Rattle.bb_rules.specs.declared.place.ClauseList.{ClauseList}
use Rattle.bb_rules.specs.Faults.{at_clause}
use Rattle.bb_rules.specs.Source.{class_within, clause_of, clauses_of, kind_of, link_slot, ordinary_slot, space_of}
use Rattle.bb_theorem_texts.specs.Texts.{IsClause, IsKind}

-- ---- lists

-- what f gives of each item stands where the item does
pub zip_try_map : {A X E : Type 0} (R : A → X → Type 0) (f : A → Result X E) → ((a : A) (x : X) → f a ≡ Ok x → R a x) → (items : List A) (made : List X) → try_map f items ≡ Ok made → AllZip R items made
unfolding try_map
zip_try_map R f each [] made h = subst (AllZip R []) (same_ok [] made h) tt
zip_try_map R f each (a ∷ more) made h =
    let one = bind_ok (f a) (λ first. try_map f more >>= λ others. Ok (first ∷ others)) made h in
    let rest = bind_ok (try_map f more) (λ others. Ok (one.0 ∷ others)) made one.2 in
    subst (AllZip R (a ∷ more)) (same_ok (one.0 ∷ rest.0) made rest.2) (each a one.0 one.1, zip_try_map R f each more rest.0 rest.1)

-- ---- a clause

kept_if : {X E : Type 0} (b : Bool) (x y : X) (e : E) → cond b (Ok x) (Err e) ≡ Ok y → x ≡ y
kept_if true x y e h = same_ok x y h
kept_if false x y e h = absurd cc

module _ (s : Schema) (class : ℕ) where
  slot_is : {E : Type 0} (flaw : E) (name : List ℕ) (passes : ℕ → Bool) (slot : ℕ) → (ok_or (slot_named s class name) flaw >>= λ found. cond (passes found) (Ok found) (Err flaw)) ≡ Ok slot → slot_named s class name ≡ Some slot
  slot_is flaw name passes slot h =
      let one = bind_ok (ok_or (slot_named s class name) flaw) (λ found. cond (passes found) (Ok found) (Err flaw)) slot h in
      ok_or_ok flaw (slot_named s class name) one.0 one.1 ∙ ap (λ n. Some n) (kept_if (passes one.0) one.0 slot flaw one.2)

  -- a kind with what was found of a name
  of_found : {E : Type 0} (make : ℕ → ChangeKind) (found : Result ℕ E) (given : Option ℕ) (kind : ChangeKind) → ((n : ℕ) → found ≡ Ok n → given ≡ Some n) → (found >>= λ n. Ok (make n)) ≡ Ok kind → (n : ℕ) × (given ≡ Some n) × (kind ≡ make n)
  of_found make found given kind is h =
      let one = bind_ok found (λ n. Ok (make n)) kind h in
      (one.0, is one.0 one.1, sym (same_ok (make one.0) kind one.2))

  kind_is : (text : ChangeText) (kind : ChangeKind) → kind_of s class text ≡ Ok kind → IsKind s class text kind
  kind_is changes.Create kind h = sym (same_ok kinds.Create kind h)
  kind_is changes.Delete kind h = sym (same_ok kinds.Delete kind h)
  kind_is (changes.Update name) kind h = of_found kinds.Update (ordinary_slot s class name) (slot_named s class name) kind (slot_is _ name (λ slot. is_some (default_of s slot))) h
  kind_is (changes.Link name) kind h = of_found kinds.Link (link_slot s class name) (slot_named s class name) kind (slot_is _ name (λ slot. is_some (link_of s.slots slot))) h
  kind_is (changes.Unlink name) kind h = of_found kinds.Unlink (link_slot s class name) (slot_named s class name) kind (slot_is _ name (λ slot. is_some (link_of s.slots slot))) h
  kind_is (changes.Enter name) kind h = of_found kinds.Enter (space_of s name) (space_named s name) kind (ok_or_ok _ (space_named s name)) h
  kind_is (changes.Leave name) kind h = of_found kinds.Leave (space_of s name) (space_named s name) kind (ok_or_ok _ (space_named s name)) h

module _ (s : Schema) where
  within_is : {E : Type 0} (flaw : E) (within : ℕ) (name : List ℕ) (class : ℕ) → (ok_or (class_named s name) flaw >>= λ c. cond (descends s c within) (Ok c) (Err flaw)) ≡ Ok class → class_named s name ≡ Some class
  within_is flaw within name class h =
      let one = bind_ok (ok_or (class_named s name) flaw) (λ c. cond (descends s c within) (Ok c) (Err flaw)) class h in
      ok_or_ok flaw (class_named s name) one.0 one.1 ∙ ap (λ n. Some n) (kept_if (descends s one.0 within) one.0 class flaw one.2)

  class_is : (within : ℕ) (name : List ℕ) (class : ℕ) → class_within s within name ≡ Ok class → class_named s name ≡ Some class
  class_is within name class h = within_is _ within name class h

  clause_is : (within : ℕ) (text : ClauseText) (clause : Clause) → clause_of s within text ≡ Ok clause → IsClause s text clause
  clause_is within (texts.Change kind name) clause h =
      let one = bind_ok (class_within s within name) (λ c. kind_of s c kind >>= λ change. Ok (clauses.Change change c)) clause h in
      let two = bind_ok (kind_of s one.0 kind) (λ change. Ok (clauses.Change change one.0)) clause one.2 in
      subst (IsClause s (texts.Change kind name)) (same_ok (clauses.Change two.0 one.0) clause two.2) (class_is within name one.0 one.1, kind_is s one.0 kind two.0 two.1)
  clause_is within texts.Quiescence clause h = sym (same_ok clauses.Quiescence clause h)

  pub clauses_are : (list : ClauseList) (within : ℕ) (texts : List ClauseText) (made : List Clause) → clauses_of s list within texts ≡ Ok made → AllZip (IsClause s) texts made
  clauses_are list within texts made h = zip_try_map (IsClause s) (clause_of s within) (clause_is within) texts made (map_at_ok (at_clause list) (clause_of s within) 0 texts made h)
