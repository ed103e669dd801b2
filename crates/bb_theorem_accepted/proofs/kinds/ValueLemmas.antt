-- The kind of what an expression makes is one of the schema, and is known.
use Rattle.std.proofs.Common.{◌≡◌, ℕ, ◌-◌, Bool, true, false, cond, List, [], ◌∷◌, ◌++◌, length, map, Option, Some, None, Result, Ok, Err, refl, subst, sym, ap, ◌∙◌, arith}
use Rattle.std.specs.Prelude.{option_map, find, nat_le, ◌==◌}
use Rattle.std.specs.Str.{bytes_eq}
use Rattle.std.proofs.lemmas.Bool.{lt-ltb}
use Rattle.std.proofs.lemmas.List.{length-map}
use Rattle.bb_basis.specs.Results.{◌>>=◌}
use Rattle.bb_basis.proofs.PositionLemmas.{position_within}
use Rattle.bb_code.specs.declared.parts.TheConstants.{OP_LIMIT}
use Rattle.bb_schema_classes.specs.declared.label_set.LabelSet.{LabelSet}
use Rattle.bb_schema.specs.Schema.{Schema, label_set_named, label_named}
use Rattle.bb_schema.specs.Fits as schemas
use Rattle.bb_code.specs.declared.frame.Kind.{Kind}
use Rattle.bb_code.specs.declared.frame.Kind.TheVariants as kinds
use Rattle.bb_code.specs.declared.op.Op.TheVariants as ops
use Rattle.bb_lang.specs.Atom.{Atom}
use Rattle.bb_lang.specs.Atom.TheVariants as atoms
use Rattle.bb_lang.specs.Trees.{ExprTree, atom, unary, binary, chain, size_of}
use Rattle.bb_lang.specs.Variable.{Variable}
use Rattle.bb_compile_scope.specs.declared.fault.CompileFault.{CompileFault}
use Rattle.bb_compile_scope.specs.declared.fault.CompileFault.TheVariants.{At}
use Rattle.bb_compile_scope.specs.declared.fault.TextFlaw.{TextFlaw}
use Rattle.bb_compile_scope.specs.declared.fault.TextFlaw.TheVariants.{Limit}
use Rattle.bb_compile_scope.specs.declared.scope.NamedLocal.{NamedLocal}
use Rattle.bb_compile_scope.specs.LocalKinds.{is_free, kind_at}
use Rattle.bb_compile_scope.specs.Scope.{name_of, local_of}
use Rattle.bb_compile_scope.specs.Slots.{value_slot}
use Rattle.bb_compile_buffer.specs.declared.buffer.Buffer.{Buffer}
use Rattle.bb_compile_buffer.specs.Buffers.{noted, put, put_value, text_index}
use Rattle.bb_compile_buffer.specs.Operations.{Made, unary_code, binary_code}
use Rattle.bb_compile_buffer.specs.Atoms.{pushed, loaded, variable_code, unit_code, gotten, got_from, slot_code, text_code, label_of, label_in, label_code, atom_code}
use Rattle.bb_compile.specs.Expressions.{expr_code, steps_code, sequence_code}
use Rattle.bb_verify.specs.Tables.{known_kind}
use Rattle.bb_theorem_accepted.proofs.kinds.UnderLemmas.{IsUnder}
use Rattle.bb_theorem_accepted.proofs.kinds.HeldLemmas.{value_known}
use Rattle.bb_theorem_accepted.proofs.kinds.SlotKinds.{slot_kind}
use Rattle.bb_theorem_accepted.proofs.kinds.KnowLemmas.{is_sequence, IsKept, under_kept, kept_under, AllTaken}
use Rattle.bb_theorem_accepted.proofs.kinds.MadeLemmas as making

module _ (s : Schema) (sf : schemas.Fits s) where
  -- a kind of values, of which the classes and label sets are of the schema
  abbrev pub IsGood : Kind → Type 0
  IsGood k = (known_kind s k ≡ Ok tt) × IsUnder s sf k k

  -- what a local may hold
  abbrev pub IsFit : Kind → Type 0
  IsFit k = (known_kind s k ≡ Ok tt) × IsKept s sf k k

  pub good_fits : (k : Kind) → IsGood k → IsFit k
  good_fits k good = (good.0, under_kept s sf k k good.1)

  abbrev pub IsMade : Made → Type 0
  IsMade None = Unit {0}
  IsMade (Some k) = IsGood k

  -- so is what an answer makes
  abbrev Makes : Result (Made × Buffer) CompileFault → Type 0
  Makes r = making.Makes IsMade r

  pub good_int : IsGood kinds.Int
  good_int = (refl, refl)

  pub good_text : IsGood kinds.Text
  good_text = (refl, refl)

  pub good_truth : IsGood kinds.Bool
  good_truth = (refl, refl)

  pub good_interval : IsGood kinds.Interval
  good_interval = (refl, refl)

  -- ---- names

  -- the local of a name is known, and holds a value
  pub local_value : (thought : List Kind) (name : List ℕ) (local : ℕ) (ns : List NamedLocal) → AllTaken s sf thought ns → option_map (λ (n : NamedLocal). n.local) (find (λ (n : NamedLocal). bytes_eq n.name name) ns) ≡ Some local → is_sequence (kind_at thought local) ≡ false
  local_value thought name local [] taken h = absurd cc
  local_value thought name local (n ∷ ns) taken h = by_name (local_value thought name local ns taken.2) (bytes_eq n.name name) h
    where
      by_name : (option_map (λ (n : NamedLocal). n.local) (find (λ (n : NamedLocal). bytes_eq n.name name) ns) ≡ Some local → is_sequence (kind_at thought local) ≡ false)
          → (b : Bool) → option_map (λ (n : NamedLocal). n.local) (cond b (Some n) (find (λ (n : NamedLocal). bytes_eq n.name name) ns)) ≡ Some local → is_sequence (kind_at thought local) ≡ false
      by_name more true h = let e : n.local ≡ local = cc in ap (λ l. is_sequence (kind_at thought l)) (sym e) ∙ taken.1
      by_name more false h = more h

  pub local_good : (thought : List Kind) (name : List ℕ) (local : ℕ) (ns : List NamedLocal) → AllTaken s sf thought ns → option_map (λ (n : NamedLocal). n.local) (find (λ (n : NamedLocal). bytes_eq n.name name) ns) ≡ Some local → is_free (kind_at thought local) ≡ false
  local_good thought name local [] taken h = absurd cc
  local_good thought name local (n ∷ ns) taken h = by_name (local_good thought name local ns taken.2) (bytes_eq n.name name) h
    where
      by_name : (option_map (λ (n : NamedLocal). n.local) (find (λ (n : NamedLocal). bytes_eq n.name name) ns) ≡ Some local → is_free (kind_at thought local) ≡ false)
          → (b : Bool) → option_map (λ (n : NamedLocal). n.local) (cond b (Some n) (find (λ (n : NamedLocal). bytes_eq n.name name) ns)) ≡ Some local → is_free (kind_at thought local) ≡ false
      by_name more true h = let e : n.local ≡ local = cc in ap (λ l. is_free (kind_at thought l)) (sym e) ∙ taken.0
      by_name more false h = more h

  module _ (t : Buffer) (taken : AllTaken s sf t.scope.kinds t.scope.names) (good : (i : ℕ) → is_free (kind_at t.scope.kinds i) ≡ false → IsFit (kind_at t.scope.kinds i)) where
    variable_makes : (v : Variable) (room : ℕ) → Makes (variable_code v room t)
    unfolding variable_code put_value put
    variable_makes v room = by_local (local_of t.scope (name_of v)) refl
      where
        held : (local : ℕ) → local_of t.scope (name_of v) ≡ Some local → IsGood (kind_at t.scope.kinds local)
        held local at =
            let own = good local (local_good t.scope.kinds (name_of v) local t.scope.names taken at) in
            (own.0, kept_under s sf (kind_at t.scope.kinds local) (kind_at t.scope.kinds local) (local_value t.scope.kinds (name_of v) local t.scope.names taken at) own.1)

        by_room : (local : ℕ) → local_of t.scope (name_of v) ≡ Some local → (a b : Bool)
            → Makes ((let r : Result Buffer CompileFault = cond b (Err (At Limit (cond a (noted Limit t) t).start)) (Ok (record (cond a (noted Limit t) t) { ops = (cond a (noted Limit t) t).ops ++ ops.Load local ∷ [] })) in r) >>= λ u. Ok (Some (kind_at u.scope.kinds local), u))
        by_room local at true true = tt
        by_room local at true false = held local at
        by_room local at false true = tt
        by_room local at false false = held local at

        by_local : (o : Option ℕ) → local_of t.scope (name_of v) ≡ o → Makes (loaded o room t)
        by_local None at = tt
        by_local (Some local) at = by_room local at (room == 0) (nat_le OP_LIMIT (length (cond (room == 0) (noted Limit t) t).ops))

    -- ---- expressions without parts

    slot_makes : (v : Variable) (slot : List ℕ) (room : ℕ) → Makes (slot_code s v slot room t)
    unfolding slot_code
    slot_makes v slot room = making.makes_then IsMade (unit_code v room t) (λ p. got_from s slot p.0 p.1) (λ p. by_class p.0 p.1)
      where
        by_slot : (c : ℕ) (r : Result (ℕ × Kind) TextFlaw) → value_slot s c slot ≡ r → (u : Buffer) → Makes (gotten r u)
        by_slot c (Err flaw) at u = tt
        by_slot c (Ok p) at u = making.makes_then IsMade (put (ops.Get p.0) u) (λ w. Ok (Some p.1, w)) (λ w. (slot_kind s sf c slot p at, value_known s sf c slot p at))

        by_class : (class : Option ℕ) (u : Buffer) → Makes (got_from s slot class u)
        by_class None u = tt
        by_class (Some c) u = by_slot c (value_slot s c slot) refl u

    label_makes : (set label : List ℕ) (room : ℕ) → Makes (label_code s set label room t)
    unfolding label_code
    label_makes set label room = by_set (label_set_named s set) refl
      where
        there : (k : ℕ) → label_set_named s set ≡ Some k → IsGood (kinds.Label k)
        there k at =
            let lt = position_within (bytes_eq set) (map (λ (l : LabelSet). l.name) s.label_sets) k at in
            let count : length (map (λ (l : LabelSet). l.name) s.label_sets) ≡ length s.label_sets = length-map s.label_sets (λ (l : LabelSet). l.name) in
            (rw (lt-ltb k (length s.label_sets) (omega (arith, lt, count))) refl, refl)

        by_label : (k : ℕ) (o : Option ℕ) → label_set_named s set ≡ Some k → Makes (label_of k o room t)
        by_label k None at = there k at
        by_label k (Some l) at = making.pushed_makes IsMade (ops.PushLabel k l) (kinds.Label k) room t (there k at)

        by_set : (o : Option ℕ) → label_set_named s set ≡ o → Makes (label_in s label o room t)
        by_set None at = tt
        by_set (Some k) at = by_label k (label_named s k label) at

    atom_makes : (a : Atom) (room : ℕ) → Makes (atom_code s room a t)
    unfolding atom_code text_code
    atom_makes (atoms.Int n) room = making.pushed_makes IsMade (ops.PushInt n) kinds.Int room t good_int
    atom_makes (atoms.Text text) room = making.makes_then IsMade (text_index text _) (λ p. pushed (ops.PushText p.0) kinds.Text room p.1) (λ p. making.pushed_makes IsMade (ops.PushText p.0) kinds.Text room p.1 good_text)
    atom_makes (atoms.Bool b) room = making.pushed_makes IsMade (ops.PushBool b) kinds.Bool room t good_truth
    atom_makes (atoms.Label set label) room = label_makes set label room
    atom_makes (atoms.Variable v) room = variable_makes v room
    atom_makes (atoms.Slot unit slot) room = slot_makes unit slot room

  -- ---- all expressions

  pub expr_makes : (e : ExprTree) (room : ℕ) (t : Buffer) → AllTaken s sf t.scope.kinds t.scope.names → ((i : ℕ) → is_free (kind_at t.scope.kinds i) ≡ false → IsFit (kind_at t.scope.kinds i)) → Makes (expr_code s room e t)
  unfolding expr_code
  expr_makes (atom a) room t taken good = atom_makes t taken good a room
  expr_makes (unary operation e) room t taken good = making.makes_then IsMade (expr_code s room e t) (λ p. unary_code operation p.0 p.1) (λ p. making.unary_makes IsMade good_int good_truth good_interval operation p.0 p.1)
  expr_makes (binary operation l r) room t taken good =
      making.makes_then IsMade (expr_code s room l t) (λ p. expr_code s (room - 1) r p.1 >>= λ q. binary_code operation p.0 q.0 q.1)
      (λ p. making.makes_then IsMade (expr_code s (room - 1) r p.1) (λ q. binary_code operation p.0 q.0 q.1) (λ q. making.binary_makes IsMade good_int good_truth good_interval operation p.0 q.0 q.1))
  expr_makes (chain first steps) room t taken good =
      making.makes_on IsMade (expr_code s room first t) (λ p. steps_code s room p.0 steps p.1) (expr_makes first room t taken good) (λ p own. making.steps_make IsMade good_int good_truth good_interval s steps room p.0 p.1 (making.needed IsMade good_int good_truth good_interval steps p.0 own))
  expr_makes (size_of sequence) room t taken good =
      making.makes_then IsMade (sequence_code s room sequence t) (λ p. put ops.Size p.1 >>= λ u. Ok (Some kinds.Int, u)) (λ p. making.makes_then IsMade (put ops.Size p.1) (λ u. Ok (Some kinds.Int, u)) (λ u. good_int))

  pub made_good : (e : ExprTree) (room : ℕ) (t u : Buffer) (k : Kind) → expr_code s room e t ≡ Ok (Some k, u) → AllTaken s sf t.scope.kinds t.scope.names → ((i : ℕ) → is_free (kind_at t.scope.kinds i) ≡ false → IsFit (kind_at t.scope.kinds i)) → IsGood k
  made_good e room t u k is taken good = subst Makes is (expr_makes e room t taken good)
