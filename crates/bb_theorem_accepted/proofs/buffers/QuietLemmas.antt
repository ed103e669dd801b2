-- Ops that go on to the next one and take no local; and those that may take a local, but none that holds a sequence.
use Rattle.std.proofs.Common.{◌≡◌, ℕ, zero, suc, ◌<◌, ◌≤◌, Bool, true, false, cond, ◌&&◌, not, List, [], ◌∷◌, ◌++◌, length, Some, None, refl, sym, ap, ◌∙◌, arith}
use Rattle.std.specs.Prelude.{slice_get, is_some}
use Rattle.bb_code.specs.declared.op.Comparison.TheVariants as comparisons
use Rattle.bb_code.specs.Code.{Code}
use Rattle.bb_code.specs.declared.frame.Kind.{Kind}
use Rattle.bb_code.specs.declared.frame.Kind.TheVariants as kinds
use Rattle.bb_verify_effect.specs.Kinds.{is_same_plain}
use Rattle.bb_code.specs.declared.op.Op.{Op}
use Rattle.bb_code.specs.declared.op.Op.TheVariants as ops
use Rattle.bb_compile_scope.specs.Kinds.{class_of, plain_equality, equality}
use Rattle.bb_compile_scope.specs.LocalKinds.{kind_at}
use Rattle.bb_compile_buffer.specs.declared.buffer.Buffer.{Buffer}
use Rattle.bb_theorem_accepted.proofs.buffers.BufferLemmas.{Has, is_open}
use Rattle.bb_theorem_accepted.proofs.kinds.KnowLemmas.{is_sequence}

abbrev pub is_quiet : Op → Bool
is_quiet (ops.Store l) = false
is_quiet (ops.One slot target) = false
is_quiet (ops.Alive target) = false
is_quiet (ops.As class target) = false
is_quiet (ops.Jump target) = false
is_quiet (ops.Unless target) = false
is_quiet (ops.Next l target) = false
is_quiet (ops.Back target) = false
is_quiet op = true

abbrev pub AreQuiet : List Op → Type 0
AreQuiet [] = Unit {0}
AreQuiet (o ∷ os) = (is_quiet o ≡ true) × AreQuiet os

pub quiet_on : (xs ys : List Op) → AreQuiet xs → AreQuiet ys → AreQuiet (xs ++ ys)
quiet_on [] ys first then = then
quiet_on (x ∷ xs) ys first then = (first.0, quiet_on xs ys first.1 then)

-- the op that compares two values
pub equal_quiet : (l r : Kind) (op : Op) → equality l r ≡ Some op → is_quiet op ≡ true
unfolding equality
equal_quiet l r op h = by_units (is_some (class_of l) && is_some (class_of r)) h
  where
    by_kind : (k : Kind) → plain_equality k ≡ Some op → is_quiet op ≡ true
    by_kind kinds.Int h = ap is_quiet (sym (let e : ops.Compare comparisons.EqInt ≡ op = cc in e))
    by_kind kinds.Text h = ap is_quiet (sym (let e : ops.EqText ≡ op = cc in e))
    by_kind (kinds.Label set) h = ap is_quiet (sym (let e : ops.EqLabel ≡ op = cc in e))
    by_kind _ h = absurd cc

    by_plain : (b : Bool) → cond b (plain_equality l) None ≡ Some op → is_quiet op ≡ true
    by_plain true h = by_kind l h
    by_plain false h = absurd cc

    by_units : (b : Bool) → cond b (Some ops.EqUnit) (cond (is_same_plain l r) (plain_equality l) None) ≡ Some op → is_quiet op ≡ true
    by_units true h = ap is_quiet (sym (let e : ops.EqUnit ≡ op = cc in e))
    by_units false h = by_plain (is_same_plain l r) h

-- ---- ops that take no local that holds a sequence

abbrev pub is_calm : List Kind → Op → Bool
is_calm ks (ops.Store l) = not (is_sequence (kind_at ks l))
is_calm ks op = is_quiet op

abbrev pub AreCalm : List Kind → List Op → Type 0
AreCalm ks [] = Unit {0}
AreCalm ks (o ∷ os) = (is_calm ks o ≡ true) × AreCalm ks os

quiet_calm : (ks : List Kind) (op : Op) → is_quiet op ≡ true → is_calm ks op ≡ true
quiet_calm ks (ops.Store l) h = absurd cc
quiet_calm ks _ h = h

pub are_calm : (ks : List Kind) (xs : List Op) → AreQuiet xs → AreCalm ks xs
are_calm ks [] all = tt
are_calm ks (x ∷ xs) all = (quiet_calm ks x all.0, are_calm ks xs all.1)

pub calm_on : (ks : List Kind) (xs ys : List Op) → AreCalm ks xs → AreCalm ks ys → AreCalm ks (xs ++ ys)
calm_on ks [] ys first then = then
calm_on ks (x ∷ xs) ys first then = (first.0, calm_on ks xs ys first.1 then)

calm_closed : (ks : List Kind) (op : Op) → is_calm ks op ≡ true → is_open op ≡ false
calm_closed ks (ops.One slot target) h = absurd cc
calm_closed ks (ops.Alive target) h = absurd cc
calm_closed ks (ops.As class target) h = absurd cc
calm_closed ks (ops.Jump target) h = absurd cc
calm_closed ks (ops.Unless target) h = absurd cc
calm_closed ks (ops.Next l target) h = absurd cc
calm_closed ks _ h = refl

-- what stands at a place of ops that come after others
calm_at : (ks : List Kind) (xs es : List Op) (p : ℕ) → AreCalm ks es → length xs ≤ p → p < length (xs ++ es) → (op : Op) × (slice_get (xs ++ es) p ≡ Some op) × (is_calm ks op ≡ true)
calm_at ks [] [] p calm low high = absurd (omega (arith, high))
calm_at ks [] (e ∷ es) zero calm low high = (e, refl, calm.0)
calm_at ks [] (e ∷ es) (suc p) calm low high = calm_at ks [] es p calm.1 (omega arith) (omega (arith, high))
calm_at ks (x ∷ xs) es zero calm low high = absurd (omega (arith, low))
calm_at ks (x ∷ xs) es (suc p) calm low high = calm_at ks xs es p calm (omega (arith, low)) (omega (arith, high))

-- a code has them
pub calm_there : (ks : List Kind) (code : Code) (s t : Buffer) (es : List Op) → Has code t → t.ops ≡ s.ops ++ es → AreCalm ks es → (p : ℕ) (op : Op) → length s.ops ≤ p → p < length t.ops → slice_get code.ops p ≡ Some op → is_calm ks op ≡ true
calm_there ks code s t es has is calm p op low high at =
    let count : length t.ops ≡ length (s.ops ++ es) = ap length is in
    let there = calm_at ks s.ops es p calm low (omega (arith, high, count)) in
    let own = has.ops p there.0 (ap (λ l. slice_get l p) is ∙ there.1) (calm_closed ks there.0 there.2) in
    ap (is_calm ks) (sym (let e : there.0 ≡ op = (let same : Some there.0 ≡ Some op = sym own ∙ at in cc) in e)) ∙ there.2
