-- Two lists of slots are the same value exactly where the comparison says so.
use Rattle.std.proofs.Common.{◌≡◌, ◌&&◌, List, ap}
use Rattle.std.specs.Prelude.{nat_eq}
use Rattle.std.specs.Bool.{Decides}
use Rattle.std.specs.Str.{bytes_eq}
use Rattle.std.specs.Cmp.Lexicographic.{pointwise, pointwise_decides, bytes_decides}
use Rattle.std.proofs.lemmas.Bool.Decides.{Decides-eqb, Decides-and, Decides-like}
use Rattle.bb_schema_classes.specs.contracts.value.ValuePartialEq.TheImpl as value_eq
use Rattle.bb_schema_classes.specs.contracts.kind.LinkPartialEq.TheImpl as link_eq
use Rattle.bb_schema_classes.proofs.Laws.{link_decides, value_decides}
use Rattle.bb_schema.specs.declared.slot.Slot.{Slot}
use Rattle.bb_schema.specs.declared.slot.Content.{Content}
use Rattle.bb_schema.specs.declared.slot.Content.TheVariants as contents
use Rattle.bb_schema.specs.contracts.slot.ContentPartialEq.TheImpl as content_eq
use Rattle.bb_schema.specs.contracts.slot.SlotPartialEq.TheImpl as slot_eq

content_decides : (a b : Content) → Decides (content_eq.eq-value.it a b) (a ≡ b)
content_decides (contents.Default x) (contents.Default y) = Decides-like (value_eq.eq-value.it x y) (λ h. ap contents.Default h) (λ h. cc) (value_decides x y)
content_decides (contents.Link x) (contents.Link y) = Decides-like (link_eq.eq-value.it x y) (λ h. ap contents.Link h) (λ h. cc) (link_decides x y)
content_decides (contents.Default x) (contents.Link y) = (λ h. absurd cc, λ h. absurd cc)
content_decides (contents.Link x) (contents.Default y) = (λ h. absurd cc, λ h. absurd cc)

slot_decides : (a b : Slot) → Decides (slot_eq.eq-value.it a b) (a ≡ b)
slot_decides a b =
    Decides-like (slot_eq.eq-value.it a b) (λ (h : (a.name ≡ b.name) × (let p : Type 0 = (a.owner ≡ b.owner) × (a.content ≡ b.content) in p)) i. record { name = h.0 i; owner = h.1.0 i; content = h.1.1 i }) (λ h. (ap (λ k. k.name) h, (ap (λ k. k.owner) h, ap (λ k. k.content) h)))
    (Decides-and (bytes_eq a.name b.name) (nat_eq a.owner b.owner && content_eq.eq-value.it a.content b.content) (bytes_decides a.name b.name)
    (Decides-and (nat_eq a.owner b.owner) (content_eq.eq-value.it a.content b.content) (Decides-eqb a.owner b.owner) (content_decides a.content b.content)))

pub slots_decide : (xs ys : List Slot) → Decides (pointwise slot_eq.eq-value.it xs ys) (xs ≡ ys)
slots_decide = pointwise_decides slot_decides
