-- What a part of a text lays out, where its buffer has no flaw after it.
use Rattle.std.proofs.Common.{◌≡◌, ℕ, zero, suc, ◌+◌, Bool, true, false, cond, List, [], ◌∷◌, ◌++◌, length, Option, Some, None, Ok, refl, sym, ap, ◌∙◌, append_assoc, length-append}
use Rattle.std.specs.Prelude.{slice_get, nat_le, ◌==◌}
use Rattle.std.proofs.lemmas.List.{append-nil}
use Rattle.bb_basis.proofs.ResultLemmas.{guard_ok, same_ok}
use Rattle.bb_code.specs.Code.{Code}
use Rattle.bb_code.specs.declared.parts.TheConstants.{OP_LIMIT}
use Rattle.bb_code.specs.declared.frame.Kind.{Kind}
use Rattle.bb_verify_effect.specs.Kinds.{is_same_plain}
use Rattle.bb_code.specs.declared.op.Op.{Op}
use Rattle.bb_code.specs.declared.op.Op.TheVariants as ops
use Rattle.bb_pattern.specs.declared.query.Query.{Query}
use Rattle.bb_compile_scope.specs.declared.fault.CompileFault.TheVariants.{At}
use Rattle.bb_compile_scope.specs.declared.fault.TextFlaw.{TextFlaw}
use Rattle.bb_compile_scope.specs.declared.fault.TextFlaw.TheVariants.{Unknown, Kind as WrongKind, Limit}
use Rattle.bb_compile_buffer.specs.declared.buffer.Buffer.{Buffer}
use Rattle.bb_compile_buffer.specs.Buffers.{noted, due, known, put, put_value}

-- ---- no flaw

abbrev pub Clean : Buffer → Type 0
Clean s = s.flaw ≡ None

-- what is noted where a test fails was not noted where there is no flaw
pub passed : (c : Bool) (flaw : TextFlaw) (s : Buffer) → Clean (cond c s (noted flaw s)) → (c ≡ true) × (cond c s (noted flaw s) ≡ s)
passed true flaw s clean = (refl, refl)
passed false flaw s clean = absurd cc

pub not_failed : (c : Bool) (flaw : TextFlaw) (s : Buffer) → Clean (cond c (noted flaw s) s) → (c ≡ false) × (cond c (noted flaw s) s ≡ s)
not_failed true flaw s clean = absurd cc
not_failed false flaw s clean = (refl, refl)

pub never_noted : {A : Type 0} (flaw : TextFlaw) (s : Buffer) → Clean (noted flaw s) → A
never_noted flaw s clean = absurd cc

pub is_due : (made : Option Kind) (wanted : Kind) (s : Buffer) → Clean (due made wanted s) → due made wanted s ≡ s
unfolding due
is_due None wanted s clean = refl
is_due (Some kind) wanted s clean = (passed (is_same_plain kind wanted) WrongKind s clean).1

pub is_known : (o : Option ℕ) (s : Buffer) → Clean (known o s) → (n : ℕ) × (o ≡ Some n) × (known o s ≡ s)
is_known None s clean = never_noted Unknown s clean
is_known (Some n) s clean = (n, refl, refl)

-- ---- ops

abbrev pub with_op : Op → Buffer → Buffer
with_op op s = record s { ops = s.ops ++ op ∷ [] }

pub put_ok : (op : Op) (s t : Buffer) → put op s ≡ Ok t → t ≡ with_op op s
unfolding put
put_ok op s t h = sym (same_ok (with_op op s) t (guard_ok (nat_le OP_LIMIT (length s.ops)) (At Limit s.start) (Ok (with_op op s)) t h).1)

-- an op after a buffer that may have had a flaw noted
pub put_clean : (op : Op) (s was t : Buffer) → (Clean was → was ≡ s) → put op was ≡ Ok t → Clean t → t ≡ with_op op s
put_clean op s was t same h clean =
    let is = put_ok op was t h in
    is ∙ ap (with_op op) (same (sym (ap (λ (u : Buffer). u.flaw) is) ∙ clean))

pub put_value_ok : (op : Op) (room : ℕ) (s t : Buffer) → put_value op room s ≡ Ok t → Clean t → (t ≡ with_op op s) × ((room == 0) ≡ false)
unfolding put_value
put_value_ok op room s t h clean =
    let is = put_ok op (cond (room == 0) (noted Limit s) s) t h in
    let free = not_failed (room == 0) Limit s (sym (ap (λ (u : Buffer). u.flaw) is) ∙ clean) in
    (is ∙ ap (with_op op) free.1, free.0)

-- ---- what a buffer has more than another

pub record Grown (s t : Buffer) : Type 0 where
  pub ops : List Op
  pub ops_are : t.ops ≡ s.ops ++ ops
  pub texts : List (List ℕ)
  pub texts_are : t.texts ≡ s.texts ++ texts
  pub queries : List Query
  pub queries_are : t.queries ≡ s.queries ++ queries

unfoldable pub grown_none : (s t : Buffer) → t.ops ≡ s.ops → t.texts ≡ s.texts → t.queries ≡ s.queries → Grown s t
grown_none s t o x q = record {
  ops = [];
  ops_are = o ∙ sym (append-nil s.ops);
  texts = [];
  texts_are = x ∙ sym (append-nil s.texts);
  queries = [];
  queries_are = q ∙ sym (append-nil s.queries);
}

unfoldable pub grown_op : (op : Op) (s t : Buffer) → t ≡ with_op op s → Grown s t
grown_op op s t is = record {
  ops = op ∷ [];
  ops_are = ap (λ (u : Buffer). u.ops) is;
  texts = [];
  texts_are = ap (λ (u : Buffer). u.texts) is ∙ sym (append-nil s.texts);
  queries = [];
  queries_are = ap (λ (u : Buffer). u.queries) is ∙ sym (append-nil s.queries);
}

pub both_grown : {A : Type 0} (a b c x y : List A) → b ≡ a ++ x → c ≡ b ++ y → c ≡ a ++ (x ++ y)
both_grown a b c x y one two = two ∙ (ap (λ l. l ++ y) one ∙ append_assoc a x y)

unfoldable pub grown_on : (s t u : Buffer) → Grown s t → Grown t u → Grown s u
grown_on s t u g h = record {
  ops = g.ops ++ h.ops;
  ops_are = both_grown s.ops t.ops u.ops g.ops h.ops g.ops_are h.ops_are;
  texts = g.texts ++ h.texts;
  texts_are = both_grown s.texts t.texts u.texts g.texts h.texts g.texts_are h.texts_are;
  queries = g.queries ++ h.queries;
  queries_are = both_grown s.queries t.queries u.queries g.queries h.queries g.queries_are h.queries_are;
}

-- how many ops
pub count_of : (s t : Buffer) → (g : Grown s t) → length t.ops ≡ length s.ops + length g.ops
count_of s t g = ap length g.ops_are ∙ length-append s.ops g.ops

-- ---- lists that begin as others do

pub front : {A : Type 0} (xs ys : List A) (i : ℕ) (x : A) → slice_get xs i ≡ Some x → slice_get (xs ++ ys) i ≡ Some x
front [] ys i x h = absurd cc
front (y ∷ xs) ys zero x h = h
front (y ∷ xs) ys (suc i) x h = front xs ys i x h

-- ---- a code that has what a buffer has, but for ops that are aimed later

-- an op goes to a place ahead, and that place is not known yet
abbrev pub is_open : Op → Bool
is_open (ops.One slot place) = place == 0
is_open (ops.Alive place) = place == 0
is_open (ops.As class place) = place == 0
is_open (ops.Jump place) = place == 0
is_open (ops.Unless place) = place == 0
is_open (ops.Next local place) = place == 0
is_open op = false

pub record Has (code : Code) (t : Buffer) : Type 0 where
  pub ops : (i : ℕ) (op : Op) → slice_get t.ops i ≡ Some op → is_open op ≡ false → slice_get code.ops i ≡ Some op
  pub texts : List (List ℕ)
  pub texts_are : code.texts ≡ t.texts ++ texts
  pub queries : List Query
  pub queries_are : code.queries ≡ t.queries ++ queries

pub has_before : (code : Code) (s t : Buffer) → Grown s t → Has code t → Has code s
has_before code s t g h = record {
  ops = λ i op at closed. h.ops i op (ap (λ l. slice_get l i) g.ops_are ∙ front s.ops g.ops i op at) closed;
  texts = g.texts ++ h.texts;
  texts_are = both_grown s.texts t.texts code.texts g.texts h.texts g.texts_are h.texts_are;
  queries = g.queries ++ h.queries;
  queries_are = both_grown s.queries t.queries code.queries g.queries h.queries g.queries_are h.queries_are;
}

pub seam : {A : Type 0} (xs ys : List A) (x : A) → slice_get (xs ++ x ∷ ys) (length xs) ≡ Some x
seam [] ys x = refl
seam (y ∷ xs) ys x = seam xs ys x

-- the op that was put last stands at its place
pub op_at : (code : Code) (s t : Buffer) (op : Op) → t ≡ with_op op s → is_open op ≡ false → Has code t → slice_get code.ops (length s.ops) ≡ Some op
op_at code s t op is closed h = h.ops (length s.ops) op (ap (λ (u : Buffer). slice_get u.ops (length s.ops)) is ∙ seam s.ops [] op) closed

pub count_op : (s t : Buffer) (op : Op) → t ≡ with_op op s → length t.ops ≡ length s.ops + 1
count_op s t op is = ap (λ (u : Buffer). length u.ops) is ∙ length-append s.ops (op ∷ [])
