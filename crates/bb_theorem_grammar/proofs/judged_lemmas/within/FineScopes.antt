-- Scopes whose kinds and locals are within the limits of codes.
use Rattle.std.proofs.Common.{◌≡◌, ℕ, zero, suc, ◌<◌, Bool, true, false, cond, List, [], ◌∷◌, ◌++◌, length, map, Option, Some, None, Result, Ok, Err, refl, subst, sym, ◌∙◌, arith}
use Rattle.std.specs.Prelude.{set, take, find, position, option_map, option_and_then}
use Rattle.std.specs.Option.{option_map_or}
use Rattle.std.specs.Str.{bytes_eq}
use Rattle.std.proofs.lemmas.List.{length-set}
use Rattle.bb_basis.proofs.PositionLemmas.{position_within}
use Rattle.bb_schema.specs.Fits.{Fits}
use Rattle.bb_schema.specs.Ownership.{strikes}
use Rattle.bb_code.specs.declared.parts.TheConstants.{LOCAL_LIMIT}
use Rattle.bb_code.specs.declared.frame.Kind.{Kind}
use Rattle.bb_code.specs.declared.frame.Kind.TheVariants as kinds
use Rattle.bb_verify_effect.specs.Kinds.{struck}
use Rattle.bb_schema.specs.Schema.{Schema, class_named}
use Rattle.bb_lang.specs.Action.{Action}
use Rattle.bb_lang.specs.Action.TheVariants as actions
use Rattle.bb_lang.specs.Atom.TheVariants as atoms
use Rattle.bb_lang.specs.Binding.{Binding}
use Rattle.bb_lang.specs.Binding.TheVariants as bindings
use Rattle.bb_lang.specs.Blocks.{BlockTree, StatementTree, OtherwiseTree, no_statement, before_others, action, if_of, with_of, for_of, absent, otherwise}
use Rattle.bb_lang.specs.Sequence.{Sequence}
use Rattle.bb_lang.specs.Sequence.TheVariants as sequences
use Rattle.bb_lang.specs.Trees.{ExprTree, atom, unary, binary, chain, size_of, no_step, apply, divide}
use Rattle.bb_lang.specs.Variable.{Variable}
use Rattle.bb_schema_classes.specs.declared.kind.Link.{Link}
use Rattle.bb_compile_scope.specs.Killed.{unless_fault, unit_kind, declared, unit_class, value_class, sequence_class, bound_name, bound_class, with_old, killed_name, struck_units, killed_action, killed_statement, killed_otherwise, killed_statements, killed_under}
use Rattle.bb_compile_scope.specs.Kinds.{class_of, is_live}
use Rattle.bb_compile_scope.specs.LocalKinds.{is_free, kind_at, left_kind, kinds_left, met_kind, kinds_met}
use Rattle.bb_compile_scope.specs.Scope.{name_of, local_of, kind_of, mark_of, back_to}
use Rattle.bb_compile_scope.specs.Slots.{link_slot, partner_slot}
use Rattle.bb_compile_scope.specs.declared.fault.TextFlaw.{TextFlaw}
use Rattle.bb_compile_scope.specs.declared.scope.Mark.{Mark}
use Rattle.bb_compile_scope.specs.declared.scope.NamedLocal.{NamedLocal}
use Rattle.bb_compile_scope.specs.declared.scope.Scope.{Scope}
use Rattle.bb_compile_scope.proofs.Laws.{struck_at, length_paired}
use Rattle.bb_compile_buffer.specs.Within.{byte, two_bytes, kind_within}
use Rattle.bb_theorem_grammar.proofs.judged_lemmas.scopes.LocalLemmas.{length_struck, paired_at}
use Rattle.bb_theorem_grammar.proofs.judged_lemmas.within.WithinLists.{byte_within}
use Rattle.bb_theorem_grammar.proofs.judged_lemmas.within.WithinSchema.{InByte, InTwoBytes, IsLinkSlot, IsPartnerSlot, class_in, link_in_two, partner_in_two}

-- ---- kinds

abbrev pub AreKinds : List Kind → Type 0
AreKinds ks = (i : ℕ) → kind_within (kind_at ks i) ≡ true

-- as many as there are locals
pub record AllKinds (ks : List Kind) : Type 0 where
  pub each : AreKinds ks
  pub count : length ks ≡ LOCAL_LIMIT

set_kinds : (ks : List Kind) (i : ℕ) (k : Kind) → AreKinds ks → kind_within k ≡ true → AreKinds (set ks i k)
set_kinds [] i k each now j = each j
set_kinds (x ∷ xs) zero k each now zero = now
set_kinds (x ∷ xs) zero k each now (suc j) = each (suc j)
set_kinds (x ∷ xs) (suc i) k each now zero = each zero
set_kinds (x ∷ xs) (suc i) k each now (suc j) = set_kinds xs i k (λ n. each (suc n)) now j

pub all_set_kind : (ks : List Kind) (i : ℕ) (k : Kind) → AllKinds ks → kind_within k ≡ true → AllKinds (set ks i k)
all_set_kind ks i k all now = record { each = set_kinds ks i k all.each now; count = length-set ks i k ∙ all.count }

struck_kind : (s : Schema) (class : ℕ) (k : Kind) → kind_within k ≡ true → kind_within (struck s class k) ≡ true
unfolding struck
struck_kind s class (kinds.Ref d) h = by_strike (strikes s class d)
  where
    by_strike : (b : Bool) → kind_within (cond b (kinds.Old d) (kinds.Ref d)) ≡ true
    by_strike true = h
    by_strike false = h
struck_kind s class kinds.Any h = h
struck_kind s class kinds.Int h = h
struck_kind s class kinds.Text h = h
struck_kind s class kinds.Bool h = h
struck_kind s class (kinds.Label set) h = h
struck_kind s class kinds.Interval h = h
struck_kind s class (kinds.Old d) h = h
struck_kind s class (kinds.Seq d) h = h

pub all_struck : (s : Schema) (class : ℕ) (ks : List Kind) → AllKinds ks → AllKinds (map (struck s class) ks)
all_struck s class ks all = record {
  each = λ i. subst (λ k. kind_within k ≡ true) (sym (struck_at s class ks i)) (struck_kind s class (kind_at ks i) (all.each i));
  count = length_struck s class ks ∙ all.count;
}

left_within : (k l : Kind) → kind_within l ≡ true → kind_within (left_kind k l) ≡ true
left_within k l h = by_free (is_free k)
  where
    by_free : (b : Bool) → kind_within (cond b kinds.Any l) ≡ true
    by_free true = refl
    by_free false = h

pub all_left : (ks ls : List Kind) → AllKinds ks → AllKinds ls → AllKinds (kinds_left ks ls)
all_left ks ls one two =
    let count : length ks ≡ length ls = one.count ∙ sym two.count in
    record {
      each = λ i. subst (λ k. kind_within k ≡ true) (sym (paired_at left_kind ks ls i refl count)) (left_within (kind_at ks i) (kind_at ls i) (two.each i));
      count = length_paired left_kind ks ls count ∙ one.count;
    }

met_within : (k l : Kind) → kind_within k ≡ true → kind_within l ≡ true → kind_within (met_kind k l) ≡ true
met_within k l one two = by_live (is_live l)
  where
    by_live : (b : Bool) → kind_within (cond b k l) ≡ true
    by_live true = one
    by_live false = two

pub all_met : (ks ls : List Kind) → AllKinds ks → AllKinds ls → AllKinds (kinds_met ks ls)
all_met ks ls one two =
    let count : length ks ≡ length ls = one.count ∙ sym two.count in
    record {
      each = λ i. subst (λ k. kind_within k ≡ true) (sym (paired_at met_kind ks ls i refl count)) (met_within (kind_at ks i) (kind_at ls i) (one.each i) (two.each i));
      count = length_paired met_kind ks ls count ∙ one.count;
    }

-- ---- what is known of a kind, if there is one

abbrev pub IsKind : Option Kind → Type 0
IsKind None = Unit {0}
IsKind (Some k) = kind_within k ≡ true

pub class_within : (k : Kind) → kind_within k ≡ true → InTwoBytes (class_of k)
class_within (kinds.Ref class) h = h
class_within (kinds.Old class) h = h
class_within kinds.Any h = tt
class_within kinds.Int h = tt
class_within kinds.Text h = tt
class_within kinds.Bool h = tt
class_within (kinds.Label set) h = tt
class_within kinds.Interval h = tt
class_within (kinds.Seq class) h = tt

pub class_if : (o : Option Kind) → IsKind o → InTwoBytes (option_and_then class_of o)
class_if None h = tt
class_if (Some k) h = class_within k h

-- ---- scopes

abbrev pub AreLocals : List NamedLocal → Type 0
AreLocals [] = Unit {0}
AreLocals (n ∷ ns) = (byte n.local ≡ true) × AreLocals ns

pub record Scoped (a : Scope) : Type 0 where
  pub kinds_are : AllKinds a.kinds
  pub locals_are : AreLocals a.names

locals_more : (ns : List NamedLocal) (n : NamedLocal) → AreLocals ns → byte n.local ≡ true → AreLocals (ns ++ n ∷ [])
locals_more [] n all last = (last, tt)
locals_more (m ∷ ns) n all last = (all.0, locals_more ns n all.1 last)

locals_taken : (count : ℕ) (ns : List NamedLocal) → AreLocals ns → AreLocals (take count ns)
locals_taken zero ns all = tt
locals_taken (suc count) [] all = tt
locals_taken (suc count) (n ∷ ns) all = (all.0, locals_taken count ns all.1)

names_within : (name : List ℕ) (ns : List NamedLocal) → AreLocals ns → InByte (option_map (λ n. n.local) (find (λ n. bytes_eq n.name name) ns))
names_within name [] all = tt
names_within name (n ∷ ns) all = by_name (bytes_eq n.name name) (names_within name ns all.1)
  where
    by_name : (b : Bool) → InByte (option_map (λ m. m.local) (find (λ m. bytes_eq m.name name) ns)) → InByte (option_map (λ m. m.local) (cond b (Some n) (find (λ m. bytes_eq m.name name) ns)))
    by_name true rest = all.0
    by_name false rest = rest

pub local_within : (a : Scope) (name : List ℕ) → Scoped a → InByte (local_of a name)
local_within a name scoped = names_within name a.names scoped.locals_are

-- the lowest free local
pub free_within : (a : Scope) (local : ℕ) → Scoped a → position is_free a.kinds ≡ Some local → local < LOCAL_LIMIT
free_within a local scoped at =
    let lt = position_within is_free a.kinds local at in
    let count : length a.kinds ≡ LOCAL_LIMIT = scoped.kinds_are.count in
    omega (arith, lt, count)

pub scoped_named : (a : Scope) (name : List ℕ) (local : ℕ) (kind : Kind) → Scoped a → local < LOCAL_LIMIT → kind_within kind ≡ true → Scoped (record { names = a.names ++ record { name = name; local = local } ∷ []; kinds = set a.kinds local kind })
scoped_named a name local kind scoped lt small = record {
  kinds_are = all_set_kind a.kinds local kind scoped.kinds_are small;
  locals_are = locals_more a.names (record { name = name; local = local }) scoped.locals_are (byte_within local LOCAL_LIMIT lt (omega arith));
}

pub scoped_back : (mark : Mark) (a : Scope) → AllKinds mark.kinds → Scoped a → Scoped (back_to mark a)
scoped_back mark a marked scoped = record {
  kinds_are = all_left mark.kinds a.kinds marked scoped.kinds_are;
  locals_are = locals_taken mark.names a.names scoped.locals_are;
}

-- ---- what the body of a loop leaves

unit_within : (class : Option ℕ) → InTwoBytes class → kind_within (unit_kind class) ≡ true
unit_within None h = refl
unit_within (Some class) h = h

scoped_declared : (a : Scope) (name : List ℕ) (class : Option ℕ) → Scoped a → InTwoBytes class → Scoped (declared name class a)
unfolding declared
scoped_declared a name class scoped small = by_first (position is_free a.kinds) refl
  where
    by_first : (o : Option ℕ) → position is_free a.kinds ≡ o → Scoped (option_map_or (λ local. record { names = a.names ++ record { name = name; local = local } ∷ []; kinds = set a.kinds local (unit_kind class) }) o a)
    by_first None at = scoped
    by_first (Some local) at = scoped_named a name local (unit_kind class) scoped (free_within a local scoped at) (unit_within class small)

kind_named : (a : Scope) (name : List ℕ) → Scoped a → IsKind (kind_of a name)
kind_named a name scoped = by_local (local_of a name)
  where
    by_local : (o : Option ℕ) → IsKind (option_map (kind_at a.kinds) o)
    by_local None = tt
    by_local (Some local) = scoped.kinds_are.each local

class_named_in : (a : Scope) (unit : Variable) → Scoped a → InTwoBytes (unit_class a unit)
unfolding unit_class
class_named_in a unit scoped = class_if (kind_of a (name_of unit)) (kind_named a (name_of unit) scoped)

value_class_in : (a : Scope) (e : ExprTree) → Scoped a → InTwoBytes (value_class a e)
value_class_in a (atom (atoms.Variable unit)) scoped = class_named_in a unit scoped
value_class_in a (atom (atoms.Int n)) scoped = tt
value_class_in a (atom (atoms.Text text)) scoped = tt
value_class_in a (atom (atoms.Bool b)) scoped = tt
value_class_in a (atom (atoms.Label set label)) scoped = tt
value_class_in a (atom (atoms.Slot unit slot)) scoped = tt
value_class_in a (unary operation e) scoped = tt
value_class_in a (binary operation l r) scoped = tt
value_class_in a (chain first no_step) scoped = value_class_in a first scoped
value_class_in a (chain first (apply operator e steps)) scoped = tt
value_class_in a (chain first (divide division divisor steps)) scoped = tt
value_class_in a (size_of sequence) scoped = tt

scoped_killed : (a : Scope) (name : List ℕ) → Scoped a → Scoped (killed_name name a)
unfolding killed_name
scoped_killed a name scoped = by_local (local_of a name)
  where
    by_class : (local : ℕ) (o : Option ℕ) → InTwoBytes o → Scoped (with_old local o a)
    by_class local None small = scoped
    by_class local (Some class) small = record { kinds_are = all_set_kind a.kinds local (kinds.Old class) scoped.kinds_are small; locals_are = scoped.locals_are }

    by_local : (o : Option ℕ) → Scoped (option_map_or (λ local. with_old local (class_of (kind_at a.kinds local)) a) o a)
    by_local None = scoped
    by_local (Some local) = by_class local (class_of (kind_at a.kinds local)) (class_within (kind_at a.kinds local) (scoped.kinds_are.each local))

scoped_struck : (s : Schema) (a : Scope) (class : Option ℕ) → Scoped a → Scoped (struck_units s class a)
scoped_struck s a None scoped = scoped
scoped_struck s a (Some class) scoped = record { kinds_are = all_struck s class a.kinds scoped.kinds_are; locals_are = scoped.locals_are }

module _ (s : Schema) (sf : Fits s) where
  scoped_action : (a : Scope) (x : Action) → Scoped a → Scoped (killed_action s a x)
  unfolding killed_action
  scoped_action a (actions.Let name value) scoped = scoped_declared a name (value_class a value) scoped (value_class_in a value scoped)
  scoped_action a (actions.New name class) scoped = scoped_declared a name (class_named s class) scoped (class_in s sf class)
  scoped_action a (actions.Assign name value) scoped = scoped_killed a name scoped
  scoped_action a (actions.Delete unit) scoped = scoped_struck s a (unit_class a unit) scoped
  scoped_action a (actions.Set unit slot value) scoped = scoped
  scoped_action a (actions.Link unit slot other) scoped = scoped
  scoped_action a (actions.Unlink unit slot other) scoped = scoped
  scoped_action a (actions.Enter unit space) scoped = scoped
  scoped_action a (actions.Leave unit space) scoped = scoped
  scoped_action a (actions.Say values) scoped = scoped
  scoped_action a (actions.Rate value) scoped = scoped
  scoped_action a actions.Decline scoped = scoped
  scoped_action a (actions.Answer value) scoped = scoped

  leads_to : (slot : List ℕ) (o : Option ℕ) → InTwoBytes (option_and_then (λ class. option_map (λ p. p.1.to) (unless_fault (link_slot s class slot))) o)
  leads_to slot None = tt
  leads_to slot (Some class) = by_link (link_slot s class slot) (link_in_two s sf class slot)
    where
      by_link : (r : Result (ℕ × Link) TextFlaw) → IsLinkSlot r → InTwoBytes (option_map (λ p. p.1.to) (unless_fault r))
      by_link (Err flaw) there = tt
      by_link (Ok p) there = there.1

  partner_of : (slot : List ℕ) (o : Option ℕ) → InTwoBytes (option_and_then (λ class. option_map (λ p. p.1) (unless_fault (partner_slot s class slot))) o)
  partner_of slot None = tt
  partner_of slot (Some class) = by_link (partner_slot s class slot) (partner_in_two s sf class slot)
    where
      by_link : (r : Result (ℕ × ℕ) TextFlaw) → IsPartnerSlot r → InTwoBytes (option_map (λ p. p.1) (unless_fault r))
      by_link (Err flaw) there = tt
      by_link (Ok p) there = there.1

  sequence_in : (a : Scope) (sequence : Sequence) → InTwoBytes (sequence_class s a sequence)
  sequence_in a (sequences.Find class space pattern) = class_in s sf class
  sequence_in a (sequences.Links unit slot) = leads_to slot (unit_class a unit)

  bound_in : (a : Scope) (binding : Binding) → InTwoBytes (bound_class s a binding)
  bound_in a (bindings.As name unit class) = class_in s sf class
  bound_in a (bindings.Linked name unit slot) = partner_of slot (unit_class a unit)

  -- after a block
  scoped_after : (a b : Scope) → Scoped a → Scoped b → Scoped (back_to (mark_of a) b)
  scoped_after a b one two = scoped_back (mark_of a) b one.kinds_are two

  mutual
    unfolding killed_statement killed_otherwise killed_statements

    scoped_statement : (x : StatementTree) (a : Scope) → Scoped a → Scoped (killed_statement s a x)
    scoped_statement (action x) a scoped = scoped_action a x scoped
    scoped_statement (if_of test first other) a scoped =
        scoped_otherwise other (back_to (mark_of a) (killed_statements s a first)) (scoped_after a (killed_statements s a first) scoped (scoped_statements first a scoped))
    scoped_statement (with_of binding first other) a scoped =
        let inner = declared (bound_name binding) (bound_class s a binding) a in
        let begun = scoped_declared a (bound_name binding) (bound_class s a binding) scoped (bound_in a binding) in
        let left = back_to (mark_of inner) (killed_statements s inner first) in
        scoped_otherwise other (back_to (mark_of a) left)
        (scoped_after a left scoped (scoped_after inner (killed_statements s inner first) begun (scoped_statements first inner begun)))
    scoped_statement (for_of name sequence body) a scoped =
        let inner = declared name (sequence_class s a sequence) a in
        let begun = scoped_declared a name (sequence_class s a sequence) scoped (sequence_in a sequence) in
        let left = back_to (mark_of inner) (killed_statements s inner body) in
        scoped_after a left scoped (scoped_after inner (killed_statements s inner body) begun (scoped_statements body inner begun))

    scoped_otherwise : (other : OtherwiseTree) (a : Scope) → Scoped a → Scoped (killed_otherwise s a other)
    scoped_otherwise absent a scoped = scoped
    scoped_otherwise (otherwise b) a scoped = scoped_after a (killed_statements s a b) scoped (scoped_statements b a scoped)

    scoped_statements : (b : BlockTree) (a : Scope) → Scoped a → Scoped (killed_statements s a b)
    scoped_statements no_statement a scoped = scoped
    scoped_statements (before_others place x others) a scoped = scoped_statements others (killed_statement s a x) (scoped_statement x a scoped)

  -- at the start of a loop
  pub scoped_under : (name : List ℕ) (class : ℕ) (body : BlockTree) (a : Scope) → Scoped a → two_bytes class ≡ true → Scoped (killed_under s a name (Some class) body)
  scoped_under name class body a scoped small =
      let inner = declared name (Some class) a in
      let begun = scoped_declared a name (Some class) scoped small in
      let left = back_to (mark_of inner) (killed_statements s inner body) in
      scoped_after a left scoped (scoped_after inner (killed_statements s inner body) begun (scoped_statements body inner begun))
