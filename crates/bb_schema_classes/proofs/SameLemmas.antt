-- Two parts of schemas are the same value exactly where their comparison says so.
use Rattle.std.proofs.Common.{◌≡◌, ℕ, Bool, ◌&&◌, List, Option, Some, None, refl, ap}
use Rattle.std.specs.Prelude.{nat_eq}
use Rattle.std.specs.Bool.{Decides}
use Rattle.std.specs.Option.{option_eq}
use Rattle.std.specs.Str.{bytes_eq}
use Rattle.std.specs.Cmp.{booleans_Decides}
use Rattle.std.specs.Ordering.{int_eq}
use Rattle.std.specs.Bool.{beq}
use Rattle.std.specs.Cmp.Lexicographic.{pointwise, pointwise_decides, bytes_decides}
use Rattle.std.proofs.lemmas.Bool.Decides.{Decides-eqb, Decides-int_eq, Decides-and, Decides-like}
use Rattle.bb_schema_classes.specs.declared.class.Class.{Class}
use Rattle.bb_schema_classes.specs.declared.label_set.LabelSet.{LabelSet}
use Rattle.bb_schema_classes.specs.declared.value.Value.{Value}
use Rattle.bb_schema_classes.specs.declared.value.Value.TheVariants as values
use Rattle.bb_schema_classes.specs.declared.kind.Link.{Link}
use Rattle.bb_schema_classes.specs.contracts.class.ClassPartialEq.TheImpl as class_eq
use Rattle.bb_schema_classes.specs.contracts.label_set.LabelSetPartialEq.TheImpl as label_set_eq
use Rattle.bb_schema_classes.specs.contracts.value.ValuePartialEq.TheImpl as value_eq
use Rattle.bb_schema_classes.specs.contracts.kind.LinkPartialEq.TheImpl as link_eq

pub option_decides : {A : Type 0} (E : A → A → Bool) → ((a b : A) → Decides (E a b) (a ≡ b)) → (x y : Option A)
    → Decides (option_eq E x y) (x ≡ y)
option_decides E e None None = (λ _. refl, λ _. refl)
option_decides E e None (Some y) = (λ h. absurd cc, λ h. absurd cc)
option_decides E e (Some x) None = (λ h. absurd cc, λ h. absurd cc)
option_decides E e (Some x) (Some y) = Decides-like (E x y) (λ h. ap (λ z. Some z) h) (λ h. cc) (e x y)

texts_decide : (xs ys : List (List ℕ)) → Decides (pointwise bytes_eq xs ys) (xs ≡ ys)
texts_decide = pointwise_decides bytes_decides

label_set_decides : (a b : LabelSet) → Decides (label_set_eq.eq-value.it a b) (a ≡ b)
label_set_decides a b =
    Decides-like (label_set_eq.eq-value.it a b) (λ (h : (a.name ≡ b.name) × (a.values ≡ b.values)) i. record { name = h.0 i; values = h.1 i }) (λ h. (ap (λ k. k.name) h, ap (λ k. k.values) h))
    (Decides-and (bytes_eq a.name b.name) (pointwise bytes_eq a.values b.values) (bytes_decides a.name b.name) (texts_decide a.values b.values))

class_decides : (a b : Class) → Decides (class_eq.eq-value.it a b) (a ≡ b)
class_decides a b =
    Decides-like (class_eq.eq-value.it a b) (λ (h : (a.name ≡ b.name) × (let p : Type 0 = (a.parent ≡ b.parent) × (a.slots ≡ b.slots) in p)) i. record { name = h.0 i; parent = h.1.0 i; slots = h.1.1 i }) (λ h. (ap (λ k. k.name) h, (ap (λ k. k.parent) h, ap (λ k. k.slots) h)))
    (Decides-and (bytes_eq a.name b.name) (option_eq nat_eq a.parent b.parent && pointwise nat_eq a.slots b.slots) (bytes_decides a.name b.name)
    (Decides-and (option_eq nat_eq a.parent b.parent) (pointwise nat_eq a.slots b.slots) (option_decides nat_eq Decides-eqb a.parent b.parent) (bytes_decides a.slots b.slots)))

pub link_decides : (a b : Link) → Decides (link_eq.eq-value.it a b) (a ≡ b)
link_decides a b =
    Decides-like (link_eq.eq-value.it a b) (λ (h : (a.to ≡ b.to) × (let p : Type 0 = (a.many ≡ b.many) × (let q : Type 0 = (a.inverse ≡ b.inverse) × (a.owns ≡ b.owns) in q) in p)) i. record { to = h.0 i; many = h.1.0 i; inverse = h.1.1.0 i; owns = h.1.1.1 i })
    (λ h. (ap (λ k. k.to) h, (ap (λ k. k.many) h, (ap (λ k. k.inverse) h, ap (λ k. k.owns) h))))
    (Decides-and (nat_eq a.to b.to) (beq a.many b.many && (nat_eq a.inverse b.inverse && beq a.owns b.owns)) (Decides-eqb a.to b.to)
    (Decides-and (beq a.many b.many) (nat_eq a.inverse b.inverse && beq a.owns b.owns) (booleans_Decides a.many b.many)
    (Decides-and (nat_eq a.inverse b.inverse) (beq a.owns b.owns) (Decides-eqb a.inverse b.inverse) (booleans_Decides a.owns b.owns))))

pub value_decides : (a b : Value) → Decides (value_eq.eq-value.it a b) (a ≡ b)
value_decides (values.Int x) (values.Int y) = Decides-like (int_eq x y) (λ h. ap values.Int h) (λ h. cc) (Decides-int_eq x y)
value_decides (values.Text x) (values.Text y) = Decides-like (bytes_eq x y) (λ h. ap values.Text h) (λ h. cc) (bytes_decides x y)
value_decides (values.Bool x) (values.Bool y) = Decides-like (beq x y) (λ h. ap values.Bool h) (λ h. cc) (booleans_Decides x y)
value_decides (values.Label x u) (values.Label y v) = Decides-like (nat_eq x y && nat_eq u v) (λ (h : (x ≡ y) × (u ≡ v)). cc) (λ h. (let e : x ≡ y = cc in e, let e : u ≡ v = cc in e)) (Decides-and (nat_eq x y) (nat_eq u v) (Decides-eqb x y) (Decides-eqb u v))
value_decides (values.Interval x u) (values.Interval y v) = Decides-like (int_eq x y && int_eq u v) (λ (h : (x ≡ y) × (u ≡ v)). cc) (λ h. (let e : x ≡ y = cc in e, let e : u ≡ v = cc in e)) (Decides-and (int_eq x y) (int_eq u v) (Decides-int_eq x y) (Decides-int_eq u v))
value_decides _ _ = (λ h. absurd cc, λ h. absurd cc)

pub label_sets_decide : (xs ys : List LabelSet) → Decides (pointwise label_set_eq.eq-value.it xs ys) (xs ≡ ys)
label_sets_decide = pointwise_decides label_set_decides

pub classes_decide : (xs ys : List Class) → Decides (pointwise class_eq.eq-value.it xs ys) (xs ≡ ys)
classes_decide = pointwise_decides class_decides
