-- Two lists of kinds are the same exactly where the comparison says so.
use Rattle.std.proofs.Common.{◌≡◌, List, refl, ap}
use Rattle.std.specs.Prelude.{nat_eq}
use Rattle.std.specs.Bool.{Decides}
use Rattle.std.specs.Cmp.Lexicographic.{pointwise, pointwise_decides}
use Rattle.std.proofs.lemmas.Bool.Decides.{Decides-eqb, Decides-like}
use Rattle.bb_code.specs.contracts.frame.KindPartialEq.TheImpl as kind_eq
use Rattle.bb_code.specs.declared.frame.Kind.{Kind}
use Rattle.bb_code.specs.declared.frame.Kind.TheVariants.{Any, Int, Text, Bool, Label, Interval, Ref, Old, Seq}

kind_decides : (a b : Kind) → Decides (kind_eq.eq-value.it a b) (a ≡ b)
kind_decides Any Any = (λ h. refl, λ h. refl)
kind_decides Int Int = (λ h. refl, λ h. refl)
kind_decides Text Text = (λ h. refl, λ h. refl)
kind_decides Bool Bool = (λ h. refl, λ h. refl)
kind_decides (Label x) (Label y) = Decides-like (nat_eq x y) (λ h. ap Label h) (λ h. cc) (Decides-eqb x y)
kind_decides Interval Interval = (λ h. refl, λ h. refl)
kind_decides (Ref x) (Ref y) = Decides-like (nat_eq x y) (λ h. ap Ref h) (λ h. cc) (Decides-eqb x y)
kind_decides (Old x) (Old y) = Decides-like (nat_eq x y) (λ h. ap Old h) (λ h. cc) (Decides-eqb x y)
kind_decides (Seq x) (Seq y) = Decides-like (nat_eq x y) (λ h. ap Seq h) (λ h. cc) (Decides-eqb x y)
kind_decides _ _ = (λ h. absurd cc, λ h. absurd cc)

pub kinds_decide : (xs ys : List Kind) → Decides (pointwise kind_eq.eq-value.it xs ys) (xs ≡ ys)
kinds_decide = pointwise_decides kind_decides
