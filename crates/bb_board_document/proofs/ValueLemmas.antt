-- Two values are the same exactly where their comparison says so.
use Rattle.std.proofs.Common.{◌≡◌, ◌&&◌, ap}
use Rattle.std.specs.Prelude.{nat_eq}
use Rattle.std.specs.Bool.{Decides, beq}
use Rattle.std.specs.Str.{bytes_eq}
use Rattle.std.specs.Cmp.{booleans_Decides}
use Rattle.std.specs.Ordering.{int_eq}
use Rattle.std.specs.Cmp.Lexicographic.{bytes_decides}
use Rattle.std.proofs.lemmas.Bool.Decides.{Decides-eqb, Decides-int_eq, Decides-and, Decides-like}
use Rattle.bb_schema_classes.specs.declared.value.Value.{Value}
use Rattle.bb_schema_classes.specs.declared.value.Value.TheVariants as values
use Rattle.bb_board_document.specs.Values.{same_value}

pub same_decides : (a b : Value) → Decides (same_value a b) (a ≡ b)
same_decides (values.Int x) (values.Int y) = Decides-like (int_eq x y) (λ h. ap values.Int h) (λ h. cc) (Decides-int_eq x y)
same_decides (values.Text x) (values.Text y) = Decides-like (bytes_eq x y) (λ h. ap values.Text h) (λ h. cc) (bytes_decides x y)
same_decides (values.Bool x) (values.Bool y) = Decides-like (beq x y) (λ h. ap values.Bool h) (λ h. cc) (booleans_Decides x y)
same_decides (values.Label x u) (values.Label y v) = Decides-like (nat_eq x y && nat_eq u v) (λ (h : (x ≡ y) × (u ≡ v)). cc) (λ h. (let e : x ≡ y = cc in e, let e : u ≡ v = cc in e)) (Decides-and (nat_eq x y) (nat_eq u v) (Decides-eqb x y) (Decides-eqb u v))
same_decides (values.Interval x u) (values.Interval y v) = Decides-like (int_eq x y && int_eq u v) (λ (h : (x ≡ y) × (u ≡ v)). cc) (λ h. (let e : x ≡ y = cc in e, let e : u ≡ v = cc in e)) (Decides-and (int_eq x y) (int_eq u v) (Decides-int_eq x y) (Decides-int_eq u v))
same_decides _ _ = (λ h. absurd cc, λ h. absurd cc)
