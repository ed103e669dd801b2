-- What is put on a buffer, taken from what the compiler answers.
use Rattle.std.proofs.Common.{◌≡◌, ◌≤◌, ℕ, zero, suc, arith, Bool, true, false, cond, Option, Some, None, Result, Ok, refl, subst, sym, ap, ◌∙◌}
use Rattle.std.specs.Prelude.{nat_eq}
use Rattle.bb_basis.proofs.ResultLemmas.{bind_ok, same_ok}
use Rattle.bb_code.specs.declared.frame.Kind.{Kind}
use Rattle.bb_verify_effect.specs.Kinds.{is_same_plain}
use Rattle.bb_code.specs.declared.op.Op.{Op}
use Rattle.bb_code.specs.declared.op.Op.TheVariants as ops
use Rattle.bb_lang.specs.Variable.{Variable}
use Rattle.bb_compile_scope.specs.declared.fault.TextFlaw.TheVariants.{Unknown, Kind as WrongKind, DeadName}
use Rattle.bb_compile_scope.specs.Kinds.{class_of, is_live}
use Rattle.bb_compile_scope.specs.LocalKinds.{kind_at}
use Rattle.bb_compile_scope.specs.Scope.{name_of, local_of}
use Rattle.bb_compile_buffer.specs.declared.buffer.Buffer.{Buffer}
use Rattle.bb_compile_buffer.specs.Buffers.{noted, due, put, put_value}
use Rattle.bb_compile_buffer.specs.Operations.{Made, one_due, two_due}
use Rattle.bb_compile_buffer.specs.Atoms.{pushed, loaded, variable_code, live_unit, unit_of, unit_code}
use Rattle.bb_theorem_accepted.proofs.buffers.BufferLemmas.{Clean, with_op, passed, never_noted, is_due, put_ok, put_clean, put_value_ok}

-- the parts of a pair that was made
pub pair_ok : {A B E : Type 0} (a c : A) (b d : B) → (let r : Result (A × B) E = Ok (a, b) in r) ≡ Ok (c, d) → (a ≡ c) × (b ≡ d)
pair_ok {A} {B} a c b d h =
    let e = same_ok (a, b) (c, d) h in
    (ap (λ (p : A × B). p.0) e, ap (λ (p : A × B). p.1) e)

pub clean_before : (op : Op) (s t : Buffer) → t ≡ with_op op s → Clean t → Clean s
clean_before op s t is clean = sym (ap (λ (u : Buffer). u.flaw) is) ∙ clean

abbrev pub IsPut : Op → (gives : Kind) → Buffer → Buffer → Option Kind → Type 0
IsPut op gives s t made = (t ≡ with_op op s) × (made ≡ Some gives)

pub pushed_ok : (op : Op) (gives : Kind) (room : ℕ) (s t : Buffer) (made : Option Kind) → pushed op gives room s ≡ Ok (made, t) → Clean t → IsPut op gives s t made
unfolding pushed
pushed_ok op gives room s t made h clean =
    let one = bind_ok (put_value op room s) (λ u. Ok (Some gives, u)) (made, t) h in
    let same = pair_ok (Some gives) made one.0 t one.2 in
    let is = put_value_ok op room s one.0 one.1 (ap (λ (u : Buffer). u.flaw) same.1 ∙ clean) in
    (sym same.1 ∙ is.0, sym same.0)

-- ---- names

abbrev pub IsLoaded : Variable → Buffer → Buffer → Option Kind → Type 0
IsLoaded v s t made = (local : ℕ) × (local_of s.scope (name_of v) ≡ Some local) × (t ≡ with_op (ops.Load local) s) × (made ≡ Some (kind_at s.scope.kinds local))

pub variable_ok : (v : Variable) (room : ℕ) (s t : Buffer) (made : Option Kind) → variable_code v room s ≡ Ok (made, t) → Clean t → IsLoaded v s t made
unfolding variable_code
variable_ok v room s t made h clean = by_local (local_of s.scope (name_of v)) refl h
  where
    by_local : (o : Option ℕ) → local_of s.scope (name_of v) ≡ o → loaded o room s ≡ Ok (made, t) → IsLoaded v s t made
    by_local None is h = never_noted Unknown s (ap (λ (u : Buffer). u.flaw) (pair_ok None made (noted Unknown s) t h).1 ∙ clean)
    by_local (Some local) is h =
        let one = bind_ok (put_value (ops.Load local) room s) (λ u. Ok (Some (kind_at u.scope.kinds local), u)) (made, t) h in
        let same = pair_ok (Some (kind_at one.0.scope.kinds local)) made one.0 t one.2 in
        let put = put_value_ok (ops.Load local) room s one.0 one.1 (ap (λ (u : Buffer). u.flaw) same.1 ∙ clean) in
        (local, is, sym same.1 ∙ put.0, sym same.0 ∙ ap (λ (u : Buffer). Some (kind_at u.scope.kinds local)) put.0)

pub triple_ok : {A B C E : Type 0} (a x : A) (b y : B) (c z : C) → (let r : Result (A × B × C) E = Ok (a, b, c) in r) ≡ Ok (x, y, z) → (a ≡ x) × (b ≡ y) × (c ≡ z)
triple_ok {A} {B} {C} a x b y c z h =
    let e = same_ok (a, b, c) (x, y, z) h in
    (ap (λ (p : A × B × C). p.0) e, ap (λ (p : A × B × C). p.1) e, ap (λ (p : A × B × C). p.2) e)

abbrev pub IsUnit : Buffer → Buffer → Option ℕ → Variable → Type 0
IsUnit s t class v = (kind : Kind) × (c : ℕ) × IsLoaded v s t (Some kind) × (class ≡ Some c) × (class_of kind ≡ Some c) × (is_live kind ≡ true)

-- a live unit by its name
pub unit_ok : (v : Variable) (room : ℕ) (s t : Buffer) (class : Option ℕ) → unit_code v room s ≡ Ok (class, t) → Clean t → IsUnit s t class v
unfolding unit_code
unit_ok v room s t class h clean =
    let one = bind_ok (variable_code v room s) (λ p. unit_of p.0 p.1) (class, t) h in by_made one.0.0 one.0.1 one.1 one.2
  where
    by_class : (kind : Kind) (u : Buffer) (o : Option ℕ) → class_of kind ≡ o → variable_code v room s ≡ Ok (Some kind, u) → live_unit o (is_live kind) u ≡ Ok (class, t) → IsUnit s t class v
    by_class kind u None is var h = never_noted WrongKind u (ap (λ (x : Buffer). x.flaw) (pair_ok None class (noted WrongKind u) t h).1 ∙ clean)
    by_class kind u (Some c) is var h =
        let same = pair_ok (Some c) class (cond (is_live kind) u (noted DeadName u)) t h in
        let alive = passed (is_live kind) DeadName u (ap (λ (x : Buffer). x.flaw) same.1 ∙ clean) in
        let here : u ≡ t = sym alive.1 ∙ same.1 in
        (kind, c, subst (λ x. IsLoaded v s x (Some kind)) here (variable_ok v room s u (Some kind) var (ap (λ (x : Buffer). x.flaw) here ∙ clean)), sym same.0, is, alive.0)

    by_made : (made : Option Kind) (u : Buffer) → variable_code v room s ≡ Ok (made, u) → unit_of made u ≡ Ok (class, t) → IsUnit s t class v
    by_made None u var h =
        let same = pair_ok None class u t h in
        let loaded = variable_ok v room s u None var (ap (λ (x : Buffer). x.flaw) same.1 ∙ clean) in
        absurd (let e = loaded.3 in cc)
    by_made (Some kind) u var h = by_class kind u (class_of kind) refl var h

-- ---- operations

pub one_due_ok : (operand : Made) (wanted : Kind) (op : Op) (gives : Kind) (s t : Buffer) (made : Made) → one_due operand wanted op gives s ≡ Ok (made, t) → Clean t → IsPut op gives s t made
unfolding one_due
one_due_ok operand wanted op gives s t made h clean =
    let one = bind_ok (put op (due operand wanted s)) (λ u. Ok (Some gives, u)) (made, t) h in
    let same = pair_ok (Some gives) made one.0 t one.2 in
    (sym same.1 ∙ put_clean op s (due operand wanted s) one.0 (is_due operand wanted s) one.1 (ap (λ (u : Buffer). u.flaw) same.1 ∙ clean), sym same.0)

pub two_due_ok : (left right : Made) (wanted : Kind) (op : Op) (gives : Kind) (s t : Buffer) (made : Made) → two_due left right wanted op gives s ≡ Ok (made, t) → Clean t → IsPut op gives s t made
unfolding two_due
two_due_ok left right wanted op gives s t made h clean =
    let one = bind_ok (put op (due right wanted (due left wanted s))) (λ u. Ok (Some gives, u)) (made, t) h in
    let same = pair_ok (Some gives) made one.0 t one.2 in
    (sym same.1 ∙ put_clean op s (due right wanted (due left wanted s)) one.0 both one.1 (ap (λ (u : Buffer). u.flaw) same.1 ∙ clean), sym same.0)
  where
    both : Clean (due right wanted (due left wanted s)) → due right wanted (due left wanted s) ≡ s
    both c =
        let outer = is_due right wanted (due left wanted s) c in
        outer ∙ is_due left wanted s (sym (ap (λ (u : Buffer). u.flaw) outer) ∙ c)

-- ---- there was room on the stack

pub room_left : (room : ℕ) → nat_eq room 0 ≡ false → 1 ≤ room
room_left zero h = absurd cc
room_left (suc n) h = omega arith

pub put_room : (op : Op) (room : ℕ) (s t : Buffer) → put_value op room s ≡ Ok t → Clean t → 1 ≤ room
put_room op room s t h clean = room_left room (put_value_ok op room s t h clean).1

pub pushed_room : (op : Op) (gives : Kind) (room : ℕ) (s t : Buffer) (made : Option Kind) → pushed op gives room s ≡ Ok (made, t) → Clean t → 1 ≤ room
unfolding pushed
pushed_room op gives room s t made h clean =
    let one = bind_ok (put_value op room s) (λ u. Ok (Some gives, u)) (made, t) h in
    let same = pair_ok (Some gives) made one.0 t one.2 in
    put_room op room s one.0 one.1 (ap (λ (u : Buffer). u.flaw) same.1 ∙ clean)

pub variable_room : (v : Variable) (room : ℕ) (s t : Buffer) (made : Option Kind) → variable_code v room s ≡ Ok (made, t) → Clean t → 1 ≤ room
unfolding variable_code
variable_room v room s t made h clean = by_local (local_of s.scope (name_of v)) h
  where
    by_local : (o : Option ℕ) → loaded o room s ≡ Ok (made, t) → 1 ≤ room
    by_local None h = never_noted Unknown s (ap (λ (u : Buffer). u.flaw) (pair_ok None made (noted Unknown s) t h).1 ∙ clean)
    by_local (Some local) h =
        let one = bind_ok (put_value (ops.Load local) room s) (λ u. Ok (Some (kind_at u.scope.kinds local), u)) (made, t) h in
        let same = pair_ok (Some (kind_at one.0.scope.kinds local)) made one.0 t one.2 in
        put_room (ops.Load local) room s one.0 one.1 (ap (λ (u : Buffer). u.flaw) same.1 ∙ clean)

pub unit_room : (v : Variable) (room : ℕ) (s t : Buffer) (class : Option ℕ) → unit_code v room s ≡ Ok (class, t) → Clean t → 1 ≤ room
unfolding unit_code
unit_room v room s t class h clean =
    let one = bind_ok (variable_code v room s) (λ p. unit_of p.0 p.1) (class, t) h in by_made one.0.0 one.0.1 one.1 one.2
  where
    by_class : (live : Bool) (u : Buffer) (o : Option ℕ) → live_unit o live u ≡ Ok (class, t) → Clean u
    by_class live u None h = never_noted WrongKind u (ap (λ (x : Buffer). x.flaw) (pair_ok None class (noted WrongKind u) t h).1 ∙ clean)
    by_class live u (Some c) h =
        let same = pair_ok (Some c) class (cond live u (noted DeadName u)) t h in
        let alive = passed live DeadName u (ap (λ (x : Buffer). x.flaw) same.1 ∙ clean) in
        ap (λ (x : Buffer). x.flaw) (sym alive.1 ∙ same.1) ∙ clean

    by_made : (made : Option Kind) (u : Buffer) → variable_code v room s ≡ Ok (made, u) → unit_of made u ≡ Ok (class, t) → 1 ≤ room
    by_made None u var h = variable_room v room s u None var (ap (λ (x : Buffer). x.flaw) (pair_ok None class u t h).1 ∙ clean)
    by_made (Some kind) u var h = variable_room v room s u (Some kind) var (by_class (is_live kind) u (class_of kind) h)

-- ---- operands are of the kinds that are due

pub due_kind : (k wanted : Kind) (s : Buffer) → Clean (due (Some k) wanted s) → is_same_plain k wanted ≡ true
unfolding due
due_kind k wanted s clean = (passed (is_same_plain k wanted) WrongKind s clean).0

pub one_due_kind : (k wanted : Kind) (op : Op) (gives : Kind) (s t : Buffer) (made : Made) → one_due (Some k) wanted op gives s ≡ Ok (made, t) → Clean t → is_same_plain k wanted ≡ true
unfolding one_due
one_due_kind k wanted op gives s t made h clean =
    let one = bind_ok (put op (due (Some k) wanted s)) (λ u. Ok (Some gives, u)) (made, t) h in
    let same = pair_ok (Some gives) made one.0 t one.2 in
    let put_is = put_ok op (due (Some k) wanted s) one.0 one.1 in
    due_kind k wanted s (clean_before op (due (Some k) wanted s) one.0 put_is (ap (λ (u : Buffer). u.flaw) same.1 ∙ clean))

pub two_due_kinds : (k l wanted : Kind) (op : Op) (gives : Kind) (s t : Buffer) (made : Made) → two_due (Some k) (Some l) wanted op gives s ≡ Ok (made, t) → Clean t
    → (is_same_plain k wanted ≡ true) × (is_same_plain l wanted ≡ true)
unfolding two_due
two_due_kinds k l wanted op gives s t made h clean =
    let was = due (Some l) wanted (due (Some k) wanted s) in
    let one = bind_ok (put op was) (λ u. Ok (Some gives, u)) (made, t) h in
    let same = pair_ok (Some gives) made one.0 t one.2 in
    let put_is = put_ok op was one.0 one.1 in
    let outer = clean_before op was one.0 put_is (ap (λ (u : Buffer). u.flaw) same.1 ∙ clean) in
    let inner = ap (λ (u : Buffer). u.flaw) (sym (is_due (Some l) wanted (due (Some k) wanted s) outer)) ∙ outer in
    (due_kind k wanted s inner, due_kind l wanted (due (Some k) wanted s) outer)
