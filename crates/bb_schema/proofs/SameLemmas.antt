-- Two schemas are the same value exactly where the comparisons of their parts say so.
use Rattle.std.proofs.Common.{◌≡◌, Bool, true, false, not, ◌&&◌, List, refl, sym, ap, ◌∙◌}
use Rattle.std.specs.Prelude.{IsTrue, ◌↔◌, nat_eq}
use Rattle.std.specs.Bool.{Decides}
use Rattle.std.specs.Option.{option_eq}
use Rattle.std.specs.Str.{bytes_eq}
use Rattle.std.specs.Cmp.Lexicographic.{pointwise, pointwise_decides, bytes_decides}
use Rattle.std.proofs.lemmas.Bool.Decides.{Decides-eqb, Decides-and, Decides-like}
use Rattle.bb_schema.specs.declared.space.Space.{Space}
use Rattle.bb_schema.specs.declared.space.Dim.{Dim}
use Rattle.bb_schema_classes.proofs.Laws.{option_decides}
use Rattle.bb_schema.specs.contracts.space.SpacePartialEq.TheImpl as space_eq
use Rattle.bb_schema.specs.contracts.space.DimPartialEq.TheImpl as dim_eq
use Rattle.bb_schema.specs.Schema.{Schema}

dim_decides : (a b : Dim) → Decides (dim_eq.eq-value.it a b) (a ≡ b)
dim_decides a b =
    Decides-like (dim_eq.eq-value.it a b) (λ (h : (a.name ≡ b.name) × (a.set ≡ b.set)) i. record { name = h.0 i; set = h.1 i }) (λ h. (ap (λ k. k.name) h, ap (λ k. k.set) h))
    (Decides-and (bytes_eq a.name b.name) (option_eq nat_eq a.set b.set) (bytes_decides a.name b.name) (option_decides nat_eq Decides-eqb a.set b.set))

space_decides : (a b : Space) → Decides (space_eq.eq-value.it a b) (a ≡ b)
space_decides a b =
    Decides-like (space_eq.eq-value.it a b) (λ (h : (a.name ≡ b.name) × (let p : Type 0 = (a.classes ≡ b.classes) × (a.dims ≡ b.dims) in p)) i. record { name = h.0 i; classes = h.1.0 i; dims = h.1.1 i }) (λ h. (ap (λ k. k.name) h, (ap (λ k. k.classes) h, ap (λ k. k.dims) h)))
    (Decides-and (bytes_eq a.name b.name) (pointwise nat_eq a.classes b.classes && pointwise dim_eq.eq-value.it a.dims b.dims) (bytes_decides a.name b.name)
    (Decides-and (pointwise nat_eq a.classes b.classes) (pointwise dim_eq.eq-value.it a.dims b.dims) (bytes_decides a.classes b.classes) (pointwise_decides dim_decides a.dims b.dims)))

pub spaces_decide : (xs ys : List Space) → Decides (pointwise space_eq.eq-value.it xs ys) (xs ≡ ys)
spaces_decide = pointwise_decides space_decides

pub differs : {X : Type 0} (part : Schema → X) (s t : Schema) (b r : Bool) → Decides b (part s ≡ part t) → r ≡ not b
    → r ≡ true → IsTrue false ↔ (s ≡ t)
differs part s t b r decides is unlike = (λ h. absurd cc, λ e. absurd (let alike = decides.1 (ap part e) in let f : r ≡ false = is ∙ ap not alike in cc))

pub agrees : {P : Type 0} (b r : Bool) → Decides b P → r ≡ not b → r ≡ false → P
agrees true r decides is alike = decides.0 refl
agrees false r decides is alike = absurd (let e : true ≡ false = sym is ∙ alike in cc)

pub all_same : (s t : Schema) (r : Bool) → s.label_sets ≡ t.label_sets → s.classes ≡ t.classes → s.slots ≡ t.slots
    → Decides r (s.spaces ≡ t.spaces) → IsTrue r ↔ (s ≡ t)
all_same s t r p q u decides = (λ h. let v = decides.0 h in λ i. record { label_sets = p i; classes = q i; slots = u i; spaces = v i }, λ e. decides.1 (ap (λ x. x.spaces) e))
