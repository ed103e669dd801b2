-- Going through the operands of a query and their kinds.
use Rattle.std.proofs.Common.{◌≡◌, ℕ, ◌+◌, ◌<◌, ◌≤◌, List, length, drop, get_or, Result, Ok, Err, sym, ap, ◌∙◌, arith, add-one, drop-cons, refl}
use Rattle.std.proofs.lemmas.List.{drop_all}
use Rattle.bb_basis.specs.Results.{◌>>=◌}
use Rattle.bb_code.specs.declared.frame.Kind.{Kind}
use Rattle.bb_code.specs.OperandKind.{OperandKind}
use Rattle.bb_code.specs.declared.flaw.Flaw.{Flaw}
use Rattle.bb_verify_effect.specs.Due.{operand_due, operands_due}

operands-drop : (os : List OperandKind) (ks : List Kind) (i : ℕ) (o : OperandKind) (k : Kind) → i < length os → length os ≡ length ks → operands_due (drop i os) (drop i ks) ≡ (operand_due (get_or os i o) (get_or ks i k) >>= λ _. operands_due (drop (i + 1) os) (drop (i + 1) ks))
unfolding operands_due
operands-drop os ks i o k lt same = rw (drop-cons os i o lt, drop-cons ks i k (omega (arith, lt, same)), add-one) refl

pub operands_next : (os : List OperandKind) (ks : List Kind) (i : ℕ) (o : OperandKind) (k : Kind) (x : Unit {0}) (total : Result (Unit {0}) Flaw) → i < length os → length os ≡ length ks → Ok x ≡ operand_due (get_or os i o) (get_or ks i k) → operands_due (drop i os) (drop i ks) ≡ total → operands_due (drop (i + 1) os) (drop (i + 1) ks) ≡ total
operands_next os ks i o k x total lt same ok so_far = ap (λ r. r >>= λ _. operands_due (drop (i + 1) os) (drop (i + 1) ks)) ok ∙ (sym (operands-drop os ks i o k lt same) ∙ so_far)

pub operands_error : (os : List OperandKind) (ks : List Kind) (i : ℕ) (o : OperandKind) (k : Kind) (e : Flaw) (total : Result (Unit {0}) Flaw) → i < length os → length os ≡ length ks → Err e ≡ operand_due (get_or os i o) (get_or ks i k) → operands_due (drop i os) (drop i ks) ≡ total → Err e ≡ total
operands_error os ks i o k e total lt same failed so_far = ap (λ r. r >>= λ _. operands_due (drop (i + 1) os) (drop (i + 1) ks)) failed ∙ (sym (operands-drop os ks i o k lt same) ∙ so_far)

pub operands_end : (os : List OperandKind) (ks : List Kind) (i : ℕ) (total : Result (Unit {0}) Flaw) → length os ≤ i → operands_due (drop i os) (drop i ks) ≡ total → Ok tt ≡ total
unfolding operands_due
operands_end os ks i total le so_far = sym (ap (λ l. operands_due l (drop i ks)) (drop_all i os le)) ∙ so_far
