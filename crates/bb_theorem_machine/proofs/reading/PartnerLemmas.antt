-- The units that link slots lead to.
use Rattle.std.proofs.Common.{◌≡◌, ℕ, Bool, true, false, cond, List, [], ◌∷◌, map, filter, Option, Some, None, option_map, refl, sym, ap, subst, ◌∙◌}
use Rattle.std.specs.Prelude.{◌==◌, All}
use Rattle.std.specs.List.{list_all}
use Rattle.std.specs.Option.{option_map_or}
use Rattle.std.proofs.lemmas.Bool.{and_parts}
use Rattle.std.proofs.lemmas.List.Elements.{All-nil, All-cons}
use Rattle.bb_schema_classes.specs.declared.kind.Link.{Link}
use Rattle.bb_schema.specs.declared.couple.Side.{Side}
use Rattle.bb_schema.specs.declared.couple.Side.TheVariants.{A, B}
use Rattle.bb_schema.specs.Couples.{couple_end}
use Rattle.bb_schema.specs.Fits as schemas
use Rattle.bb_schema.specs.Schema.{Schema, descends, owner_of}
use Rattle.bb_schema.specs.Slots.{link_of}
use Rattle.bb_units.specs.Units.{class_of}
use Rattle.bb_links.specs.Couples.{end_of, pairs_of}
use Rattle.bb_links.specs.Links.{partners, ends}
use Rattle.bb_links.specs.Pairs.{near, far}
use Rattle.bb_links.specs.proving.Partners.{opposite}
use Rattle.bb_board.specs.Fits.{is_of_owner, Fits}
use Rattle.bb_board.specs.May.{class_has}
use Rattle.bb_board.specs.State.{World}
use Rattle.bb_board.proofs.Laws.{inverse_end}
use Rattle.bb_theorem_machine.specs.Kinds.{IsOf}

far_is : (side : Side) (p : ℕ × ℕ) → near (opposite side) p ≡ far side p
far_is A p = refl
far_is B p = refl

-- what holds at the other side of each pair holds of each partner
module _ (P : ℕ → Type 0) (test : ℕ → Bool) (from : (k : ℕ) → test k ≡ true → P k) (side : Side) (n : ℕ) where
  partners_by : (p : ℕ × ℕ) (ps : List (ℕ × ℕ)) (b : Bool) → P (far side p) → All P (partners side n ps) → All P (map (far side) (cond b (p ∷ filter (λ q. near side q == n) ps) (filter (λ q. near side q == n) ps)))
  partners_by p ps true one rest = All-cons P (far side p) (partners side n ps) one rest
  partners_by p ps false one rest = rest

  all_partners : (ps : List (ℕ × ℕ)) → list_all (λ p. test (near (opposite side) p)) ps ≡ true → All P (partners side n ps)
  all_partners [] all = All-nil P
  all_partners (p ∷ ps) all =
      let both = and_parts (test (near (opposite side) p)) (list_all (λ q. test (near (opposite side) q)) ps) all in
      partners_by p ps (near side p == n) (from (far side p) (ap test (sym (far_is side p)) ∙ both.0)) (all_partners ps both.1)

-- a unit that has a slot is of the class that owns it
owner_by : (s : Schema) (w : World) (k slot to : ℕ) (found : Option ℕ) → owner_of s slot ≡ Some to → class_of w.units k ≡ found → option_map_or (λ c. class_has s c slot) found false ≡ true → IsOf s w to k
owner_by s w k slot to None owner is has = absurd cc
owner_by s w k slot to (Some c) owner is has =
    record { own = c; is = is; under = sym (ap (λ (o : Option ℕ). option_map_or (λ d. descends s c d) o false) owner) ∙ has }

-- the partners by a link slot are of the class that it leads to
pub links_lead : (s : Schema) (w : World) → schemas.Fits s → Fits s w → (n slot : ℕ) (l : Link) → link_of s.slots slot ≡ Some l → All (IsOf s w l.to) (ends w.links n slot)
links_lead s w sf fits n slot l link =
    let e = couple_end s.slots slot l in
    let at : end_of w.links slot ≡ Some e = fits.ends slot ∙ ap (option_map (couple_end s.slots slot)) link in
    let pairs = fits.pairs l.inverse (e.0, opposite e.1) (inverse_end s sf.coupled slot l link) in
    subst (λ (o : Option (ℕ × Side)). All (IsOf s w l.to) (option_map_or (λ (x : ℕ × Side). partners x.1 n (pairs_of w.links x.0)) o [])) (sym at)
    (all_partners (IsOf s w l.to) (λ k. is_of_owner s w.units k l.inverse) (λ k has. owner_by s w k l.inverse l.to (class_of w.units k) (sf.coupled slot l link).there refl has) e.1 n (pairs_of w.links e.0) pairs)
