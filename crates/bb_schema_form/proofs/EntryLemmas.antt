-- Entries of the usual form, read from borrowed text, are what the form gives of the data.
use Rattle.std.proofs.Common.{◌≡◌, ℕ, ◌<◌, ◌≤◌, List, [], ◌∷◌, length, get_or, Some, Ok, refl, sym, ap, ◌∙◌, arith}
use Rattle.std.specs.Prelude.{codes}
use Rattle.std.specs.declared.alloc.Global.{Global}
use denote.Ref.{Bor}
use Rattle.json.specs.Json as json
use Rattle.json.specs.Value as borrowed
use Rattle.json.specs.declared.value.Value.{Value as Borrowed}
use Rattle.serde_json.specs.Data.{Data}
use Rattle.serde_json.specs.Read.{of_json}
use Rattle.bb_schema_form.specs.Form.{text_of}
use Rattle.bb_schema_form.specs.Quick.{declared_by}
use Rattle.bb_schema_form.specs.UnitsDocument.{GivenDeclaration, unit_of, given_slots_of, first_link_of, first_link_of_names, member_of, member_of_names}

abbrev Member : Type 0
Member = Bor (List ℕ) × Borrowed Global

-- ---- a list that is as long as a pattern

pub two_items : {A : Type 0} (xs : List A) (a b : A) → 2 ≤ length xs → length xs < 3 → a ≡ get_or xs 0 a → b ≡ get_or xs 1 b → xs ≡ a ∷ b ∷ []
two_items [] a b least below first second = absurd (omega arith)
two_items (x ∷ []) a b least below first second = absurd (omega arith)
two_items (x ∷ y ∷ []) a b least below first second = ap (λ u. u ∷ y ∷ []) (sym first) ∙ ap (λ v. a ∷ v ∷ []) (sym second)
two_items (x ∷ y ∷ z ∷ xs) a b least below first second = absurd (omega arith)

pub three_items : {A : Type 0} (xs : List A) (a b c : A) → 3 ≤ length xs → length xs < 4 → a ≡ get_or xs 0 a → b ≡ get_or xs 1 b → c ≡ get_or xs 2 c → xs ≡ a ∷ b ∷ c ∷ []
three_items [] a b c least below first second third = absurd (omega arith)
three_items (x ∷ []) a b c least below first second third = absurd (omega arith)
three_items (x ∷ y ∷ []) a b c least below first second third = absurd (omega arith)
three_items (x ∷ y ∷ z ∷ []) a b c least below first second third =
    ap (λ u. u ∷ y ∷ z ∷ []) (sym first) ∙ (ap (λ v. a ∷ v ∷ z ∷ []) (sym second) ∙ ap (λ w. a ∷ b ∷ w ∷ []) (sym third))
three_items (x ∷ y ∷ z ∷ w ∷ xs) a b c least below first second third = absurd (omega arith)

-- ---- links and members

pub link_made : (a b c : Borrowed Global) (from slot to : List ℕ) → borrowed.value_view a ≡ json.string from → borrowed.value_view b ≡ json.string slot → borrowed.value_view c ≡ json.string to
    → declared_by first_link_of (json.array (borrowed.items_view (a ∷ b ∷ c ∷ []))) ≡ Ok (record { from = from; slot = slot; to = to })
unfolding first_link_of first_link_of_names text_of
link_made a b c from slot to first second third = rw (first, second, third) refl

pub member_made : (a b : Borrowed Global) (unit space : List ℕ) → borrowed.value_view a ≡ json.string unit → borrowed.value_view b ≡ json.string space
    → declared_by member_of (json.array (borrowed.items_view (a ∷ b ∷ []))) ≡ Ok (record { unit = unit; space = space })
unfolding member_of member_of_names text_of
member_made a b unit space first second = rw (first, second) refl

-- ---- units

pub plain_unit_made : (a b : Member) (name class : List ℕ) → (a.0.now ≡ codes "name") × (borrowed.value_view a.1 ≡ json.string name) → (b.0.now ≡ codes "class") × (borrowed.value_view b.1 ≡ json.string class)
    → declared_by unit_of (json.object (borrowed.members_view (a ∷ b ∷ []))) ≡ Ok (record { name = name; class = class; slots = [] })
unfolding unit_of given_slots_of
plain_unit_made a b name class first second = rw (first.0, first.1, second.0, second.1)

pub unit_made : (a b c : Member) (name class : List ℕ) (slots : List GivenDeclaration) → (a.0.now ≡ codes "name") × (borrowed.value_view a.1 ≡ json.string name) → (b.0.now ≡ codes "class") × (borrowed.value_view b.1 ≡ json.string class)
    → (c.0.now ≡ codes "slots") × ((d : Data) × (of_json (borrowed.value_view c.1) ≡ Some d) × (given_slots_of (Some d) ≡ Ok slots))
    → declared_by unit_of (json.object (borrowed.members_view (a ∷ b ∷ c ∷ []))) ≡ Ok (record { name = name; class = class; slots = slots })
unfolding unit_of
unit_made a b c name class slots first second third = rw (first.0, first.1, second.0, second.1, third.0, third.1.1, third.1.2)
