-- What is known of kinds and slots that were tested without a flaw.
use Rattle.std.proofs.Common.{◌≡◌, ℕ, Bool, true, false, Option, Some, Result, Ok, Err, refl, sym, ap, ◌∙◌}
use Rattle.std.specs.Prelude.{if◌then◌else◌}
use Rattle.std.proofs.lemmas.Bool.{eqb-true}
use Rattle.bb_basis.specs.Results.{◌>>=◌, ok_or}
use Rattle.bb_basis.proofs.ResultLemmas.{bind_ok, guard_ok, ok_or_ok, same_ok}
use Rattle.bb_schema_classes.specs.declared.kind.Kind.{Kind as SlotKind}
use Rattle.bb_schema_classes.specs.declared.kind.Link.{Link}
use Rattle.bb_schema.specs.Schema.{Schema}
use Rattle.bb_code.specs.declared.frame.Kind.{Kind}
use Rattle.bb_code.specs.declared.frame.Kind.TheVariants.{Int, Text, Bool as Truth, Label, Interval, Ref, Seq}
use Rattle.bb_code.specs.declared.flaw.Flaw.TheVariants as flaws
use Rattle.bb_verify_effect.specs.Kinds.{is_same_plain}
use Rattle.bb_verify_effect.specs.Due.{due, label_of, class_of, live, sequence_of, held_in, plain_kind, link_kind, plain_slot, link_slot, single_slot, value_due}

-- a test passed, and what comes after it is the answer
pub test_ok : {A E : Type 0} (b : Bool) (e : E) (r : Result A E) (y : A) → (if b then r else Err e) ≡ Ok y → (b ≡ true) × (r ≡ Ok y)
test_ok true e r y h = (refl, h)
test_ok false e r y h = absurd cc

pub same_plain : (k l : Kind) → is_same_plain k l ≡ true → k ≡ l
same_plain Int Int h = refl
same_plain Text Text h = refl
same_plain Truth Truth h = refl
same_plain Interval Interval h = refl
same_plain (Label set) (Label other) h = ap Label (eqb-true set other h)
same_plain _ _ h = absurd cc

pub due_ok : (from k : Kind) (u : Unit {0}) → due from k ≡ Ok u → from ≡ k
due_ok from k u h = same_plain from k (test_ok (is_same_plain from k) flaws.Kind (Ok tt) u h).0

pub label_of_ok : (k : Kind) (set : ℕ) → label_of k ≡ Ok set → k ≡ Label set
label_of_ok (Label own) set h = ap Label (same_ok own set h)
label_of_ok _ set h = absurd cc

pub sequence_of_ok : (k : Kind) (class : ℕ) → sequence_of k ≡ Ok class → k ≡ Seq class
sequence_of_ok (Seq own) class h = ap Seq (same_ok own class h)
sequence_of_ok _ class h = absurd cc

pub live_ok : (k : Kind) (class : ℕ) (u : Unit {0}) → class_of k ≡ Ok class → live k ≡ Ok u → k ≡ Ref class
live_ok (Ref own) class u of h = ap Ref (same_ok own class of)
live_ok _ class u of h = absurd cc

-- ---- slots

-- what a slot of a class holds, as something of a kind of slots
held_ok : {A : Type 0} (s : Schema) (class slot : ℕ) (as_kind : SlotKind → Option A) (x : A) → (ok_or (held_in s class slot) flaws.Slot >>= λ held. ok_or (as_kind held) flaws.Slot) ≡ Ok x
    → (held : SlotKind) × (held_in s class slot ≡ Some held) × (as_kind held ≡ Some x)
held_ok s class slot as_kind x h =
    let held = bind_ok (ok_or (held_in s class slot) flaws.Slot) _ x h in
    (held.0, ok_or_ok flaws.Slot (held_in s class slot) held.0 held.1, ok_or_ok flaws.Slot (as_kind held.0) x held.2)

pub plain_slot_ok : (s : Schema) (class slot : ℕ) (k : Kind) → plain_slot s class slot ≡ Ok k → (held : SlotKind) × (held_in s class slot ≡ Some held) × (plain_kind held ≡ Some k)
unfolding plain_slot
plain_slot_ok s class slot k h = held_ok s class slot plain_kind k h

pub link_slot_ok : (s : Schema) (class slot : ℕ) (l : Link) → link_slot s class slot ≡ Ok l → (held : SlotKind) × (held_in s class slot ≡ Some held) × (link_kind held ≡ Some l)
unfolding link_slot
link_slot_ok s class slot l h = held_ok s class slot link_kind l h

pub single_slot_ok : (s : Schema) (class slot : ℕ) (l : Link) → single_slot s class slot ≡ Ok l → (link_slot s class slot ≡ Ok l) × (l.many ≡ false)
unfolding single_slot
single_slot_ok s class slot l h =
    let link = bind_ok (link_slot s class slot) _ l h in
    let one = guard_ok link.0.many flaws.Slot (Ok link.0) l link.2 in
    let same = same_ok link.0 l one.1 in
    (link.1 ∙ ap Ok same, ap (λ (x : Link). x.many) (sym same) ∙ one.0)

pub value_due_ok : (s : Schema) (class slot : ℕ) (held k : Kind) (u : Unit {0}) → plain_slot s class slot ≡ Ok held → value_due s class slot k ≡ Ok u → due held k ≡ Ok u
unfolding value_due
value_due_ok s class slot held k u is h = rw (value_due, is) at h
