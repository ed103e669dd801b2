-- What a loop's body leaves of the names that are live, as the compiler says it before it lays the body out: a name is
-- live after it if and only if it was so before, and the body spares it.
use Rattle.std.proofs.Common.{◌≡◌, ◌⊎◌, inl, inr, ℕ, ◌+◌, ◌≤◌, Bool, true, false, List, [], ◌∷◌, ◌++◌, length, map, Option, Some, None, refl, subst, sym, ap, ◌∙◌, arith}
use Rattle.std.specs.Prelude.{set, position, option_map, option_and_then}
use Rattle.std.specs.Option.{option_map_or}
use Rattle.std.proofs.lemmas.List.{append-nil, length-map, length-set}
use Rattle.bb_schema.specs.Schema.{Schema, class_named}
use Rattle.bb_code.specs.declared.frame.Kind.{Kind}
use Rattle.bb_code.specs.declared.frame.Kind.TheVariants as kinds
use Rattle.bb_verify_effect.specs.Kinds.{struck}
use Rattle.bb_lang.specs.Action.{Action}
use Rattle.bb_lang.specs.Action.TheVariants as actions
use Rattle.bb_lang.specs.Atom.TheVariants as atoms
use Rattle.bb_lang.specs.Binding.{Binding}
use Rattle.bb_lang.specs.Binding.TheVariants as bindings
use Rattle.bb_lang.specs.Sequence.{Sequence}
use Rattle.bb_lang.specs.Sequence.TheVariants as sequences
use Rattle.bb_lang.specs.Trees.{ExprTree, atom, unary, binary, chain, size_of, no_step, apply, divide}
use Rattle.bb_lang.specs.Variable.{Variable}
use Rattle.bb_lang.specs.Blocks.{BlockTree, StatementTree, OtherwiseTree, no_statement, before_others, action, if_of, with_of, for_of, absent, otherwise}
use Rattle.bb_compile_scope.specs.Kinds.{class_of, is_live}
use Rattle.bb_compile_scope.specs.Killed.{unless_fault, unit_kind, declared, unit_class, value_class, sequence_class, bound_name, bound_class, with_old, killed_name, struck_units, killed_action, after_block, killed_statement, killed_otherwise, killed_statements, killed_under}
use Rattle.bb_compile_scope.specs.LocalKinds.{is_free, kind_at}
use Rattle.bb_compile_scope.specs.Scope.{name_of, local_of, with_name}
use Rattle.bb_compile_scope.specs.Slots.{link_slot, partner_slot}
use Rattle.bb_compile_scope.specs.declared.scope.Scope.{Scope}
use Rattle.bb_compile_scope.proofs.Laws.{at_same, at_other, struck_at, taken_within, frees, frees_taken}
use Rattle.bb_theorem_accepted.proofs.kinds.KnowLemmas.{aged, Agree}
use Rattle.bb_theorem_accepted.proofs.kinds.MoveLemmas.{Sole, one_or_other, struck_aged, unit_aged}
use Rattle.bb_theorem_accepted.proofs.sparing.FreeLemmas.{has_free}
use Rattle.bb_theorem_accepted.proofs.sparing.ScopeLemmas.{Onto, onto_kept, onto_same, onto_on, onto_declared, onto_level, Levels, level_frees, level_left}
use Rattle.bb_theorem_accepted.proofs.sparing.SpareLemmas.{Shape, class_in, value_in, bound_in, sequence_in, class_is}
use Rattle.bb_theorem_accepted.proofs.sparing.ShapeLemmas.{of, Shaped, Spares, Reveals, Fades, All, fades_on, fades_left, shaped_level, spares_set, reveals_set, fades_set, shaped_set, fades_struck}

-- ---- what it does to a scope, whatever the text is

abbrev pub Walked : (a b : Scope) → Type 0
Walked a b = Onto a b × Fades a b

pub walked_on : (a b c : Scope) → Walked a b → Walked b c → Walked a c
walked_on a b c first then = (onto_on a b c first.0 then.0, fades_on a b c first.0 first.1 then.1)

pub walked_left : (a b : Scope) → Walked a b → Walked a (after_block a b)
walked_left a b w = (onto_level a (after_block a b) (level_left a b w.0), fades_left a b w.1)

walked_same : (a : Scope) → Walked a a
walked_same a = (onto_same a a refl, λ i taken live. live)

pub unit_taken : (class : Option ℕ) → is_free (unit_kind class) ≡ false
unit_taken None = refl
unit_taken (Some c) = refl

pub unit_class_of : (class : Option ℕ) → class_of (unit_kind class) ≡ class
unit_class_of None = refl
unit_class_of (Some c) = refl

pub declared_walks : (name : List ℕ) (class : Option ℕ) (a : Scope) → Walked a (declared name class a)
unfolding declared
declared_walks name class a = by_local (position is_free a.kinds) refl
  where
    by_local : (o : Option ℕ) → position is_free a.kinds ≡ o → Walked a (option_map_or (λ local. with_name name local (unit_kind class) a) o a)
    by_local None free = walked_same a
    by_local (Some local) free =
        let b = with_name name local (unit_kind class) a in
        (onto_declared a b name local (unit_kind class) free (unit_taken class) refl refl, fades_set a b local (unit_kind class) free refl)

-- a unit that may be deleted, in a local of its class
old_agree : (ks : List Kind) (local c : ℕ) → class_of (kind_at ks local) ≡ Some c → Agree ks (set ks local (kinds.Old c))
old_agree ks local c is i taken = by_local (one_or_other i local)
  where
    by_local : ((i ≡ local) ⊎ (i ≡ local → ⊥)) → aged (kind_at ks i) ≡ aged (kind_at (set ks local (kinds.Old c)) i)
    by_local (inl e) =
        let within = taken_within ks i taken in
        let here : kind_at (set ks local (kinds.Old c)) i ≡ kinds.Old c = ap (λ l. kind_at (set ks l (kinds.Old c)) i) (sym e) ∙ at_same ks i (kinds.Old c) within in
        ap (λ l. aged (kind_at ks l)) e ∙ (unit_aged (kind_at ks local) c is ∙ ap aged (sym here))
    by_local (inr apart) = ap aged (sym (at_other ks local i (kinds.Old c) apart))

old_fades : (ks : List Kind) (local c i : ℕ) → is_free (kind_at ks i) ≡ false → is_live (kind_at (set ks local (kinds.Old c)) i) ≡ true → is_live (kind_at ks i) ≡ true
old_fades ks local c i taken live = by_local (one_or_other i local)
  where
    by_local : ((i ≡ local) ⊎ (i ≡ local → ⊥)) → is_live (kind_at ks i) ≡ true
    by_local (inl e) =
        let here : kind_at (set ks local (kinds.Old c)) i ≡ kinds.Old c = ap (λ l. kind_at (set ks l (kinds.Old c)) i) (sym e) ∙ at_same ks i (kinds.Old c) (taken_within ks i taken) in
        absurd (let other : true ≡ false = sym live ∙ ap is_live here in cc)
    by_local (inr apart) = sym (ap is_live (at_other ks local i (kinds.Old c) apart)) ∙ live

-- and so in all locals
pub old_aged : (ks : List Kind) (local c i : ℕ) → class_of (kind_at ks local) ≡ Some c → aged (kind_at ks i) ≡ aged (kind_at (set ks local (kinds.Old c)) i)
old_aged ks local c i is = by_local (one_or_other i local)
  where
    has_class : (k : Kind) → class_of k ≡ Some c → is_free k ≡ false
    has_class kinds.Any h = absurd cc
    has_class _ h = refl

    by_local : ((i ≡ local) ⊎ (i ≡ local → ⊥)) → aged (kind_at ks i) ≡ aged (kind_at (set ks local (kinds.Old c)) i)
    by_local (inl e) =
        let within = taken_within ks local (has_class (kind_at ks local) is) in
        ap (λ l. aged (kind_at ks l)) e ∙ (unit_aged (kind_at ks local) c is ∙ ap aged (sym (ap (kind_at (set ks local (kinds.Old c))) e ∙ at_same ks local (kinds.Old c) within)))
    by_local (inr apart) = ap aged (sym (at_other ks local i (kinds.Old c) apart))

old_walks : (local : ℕ) (o : Option ℕ) (a : Scope) → class_of (kind_at a.kinds local) ≡ o → Walked a (with_old local o a)
old_walks local None a is = walked_same a
old_walks local (Some c) a is =
    let b : Scope = record { names = a.names; kinds = set a.kinds local (kinds.Old c) } in
    (onto_kept a b refl (length-set a.kinds local (kinds.Old c)) (old_agree a.kinds local c is), λ i taken live. old_fades a.kinds local c i taken live)

pub name_walks : (name : List ℕ) (a : Scope) → Walked a (killed_name name a)
unfolding killed_name
name_walks name a = by_local (local_of a name)
  where
    by_local : (o : Option ℕ) → Walked a (option_map_or (λ local. with_old local (class_of (kind_at a.kinds local)) a) o a)
    by_local None = walked_same a
    by_local (Some local) = old_walks local (class_of (kind_at a.kinds local)) a refl

pub struck_walks : (s : Schema) (o : Option ℕ) (a : Scope) → Walked a (struck_units s o a)
struck_walks s None a = walked_same a
struck_walks s (Some c) a =
    let b : Scope = record { names = a.names; kinds = map (struck s c) a.kinds } in
    (onto_kept a b refl (length-map a.kinds (struck s c)) (λ i taken. sym (ap aged (struck_at s c a.kinds i) ∙ struck_aged s c (kind_at a.kinds i))), fades_struck s a b c refl)

module _ (s : Schema) where
  pub action_walks : (a : Scope) (x : Action) → Walked a (killed_action s a x)
  unfolding killed_action
  action_walks a (actions.Let name value) = declared_walks name (value_class a value) a
  action_walks a (actions.New name class) = declared_walks name (class_named s class) a
  action_walks a (actions.Assign name value) = name_walks name a
  action_walks a (actions.Delete unit) = struck_walks s (unit_class a unit) a
  action_walks a _ = walked_same a

  mutual
    unfolding killed_statement killed_otherwise killed_statements

    pub statement_walks : (x : StatementTree) (a : Scope) → Walked a (killed_statement s a x)
    statement_walks (action x) a = action_walks a x
    statement_walks (if_of test then other) a =
        let b = after_block a (killed_statements s a then) in
        walked_on a b (killed_otherwise s b other) (walked_left a (killed_statements s a then) (block_walks then a)) (other_walks other b)
    statement_walks (with_of binding then other) a =
        let inner = declared (bound_name binding) (bound_class s a binding) a in
        let c = after_block inner (killed_statements s inner then) in
        let b = after_block a c in
        walked_on a b (killed_otherwise s b other) (walked_left a c (walked_on a inner c (declared_walks (bound_name binding) (bound_class s a binding) a) (walked_left inner (killed_statements s inner then) (block_walks then inner)))) (other_walks other b)
    statement_walks (for_of name sequence body) a =
        let inner = declared name (sequence_class s a sequence) a in
        let c = after_block inner (killed_statements s inner body) in
        walked_left a c (walked_on a inner c (declared_walks name (sequence_class s a sequence) a) (walked_left inner (killed_statements s inner body) (block_walks body inner)))

    pub other_walks : (o : OtherwiseTree) (a : Scope) → Walked a (killed_otherwise s a o)
    other_walks absent a = walked_same a
    other_walks (otherwise b) a = walked_left a (killed_statements s a b) (block_walks b a)

    pub block_walks : (b : BlockTree) (a : Scope) → Walked a (killed_statements s a b)
    block_walks no_statement a = walked_same a
    block_walks (before_others place x others) a =
        let b = killed_statement s a x in
        walked_on a b (killed_statements s b others) (statement_walks x a) (block_walks others b)

  -- what a loop leaves is level with what was before it
  pub under_walks : (a : Scope) (name : List ℕ) (class : Option ℕ) (body : BlockTree) → Levels a (killed_under s a name class body) × Fades a (killed_under s a name class body)
  under_walks a name class body =
      let inner = declared name class a in
      let c = after_block inner (killed_statements s inner body) in
      let w = walked_on a inner c (declared_walks name class a) (walked_left inner (killed_statements s inner body) (block_walks body inner)) in
      (level_left a c w.0, fades_left a c w.1)

-- ---- which names are live after it, where the locals suffice

-- names of the scope, with their classes
pub class_of_name : (a : Scope) (unit : Variable) → unit_class a unit ≡ class_in (of a) (name_of unit)
unfolding unit_class
class_of_name a unit = class_is a.kinds a.names (name_of unit)

pub value_is : (a : Scope) (e : ExprTree) → value_class a e ≡ value_in (of a) e
value_is a (atom (atoms.Variable unit)) = class_of_name a unit
value_is a (atom (atoms.Int n)) = refl
value_is a (atom (atoms.Text text)) = refl
value_is a (atom (atoms.Bool b)) = refl
value_is a (atom (atoms.Label set label)) = refl
value_is a (atom (atoms.Slot unit slot)) = refl
value_is a (unary operation e) = refl
value_is a (binary operation l r) = refl
value_is a (chain first no_step) = value_is a first
value_is a (chain first (apply operator e steps)) = refl
value_is a (chain first (divide division divisor steps)) = refl
value_is a (size_of sequence) = refl

pub bound_is : (s : Schema) (a : Scope) (binding : Binding) → bound_class s a binding ≡ bound_in s (of a) binding
bound_is s a (bindings.As name unit class) = refl
bound_is s a (bindings.Linked name unit slot) = ap (λ o. option_and_then (λ class. option_map (λ (p : ℕ × ℕ). p.1) (unless_fault (partner_slot s class slot))) o) (class_of_name a unit)

pub sequence_is : (s : Schema) (a : Scope) (sequence : Sequence) → sequence_class s a sequence ≡ sequence_in s (of a) sequence
sequence_is s a (sequences.Find class space pattern) = refl
sequence_is s a (sequences.Links unit slot) = ap (λ o. option_and_then (λ class. option_map (λ p. p.1.to) (unless_fault (link_slot s class slot))) o) (class_of_name a unit)

-- what a block spares is live after it, and nothing else of what was there before it
pub record Kills (a b : Scope) (spared : ℕ → Bool) : Type 0 where
  pub spares : Spares a b spared
  pub reveals : Reveals a b spared

pub record KillsOne (a b : Scope) (added : Shape) (spared : ℕ → Bool) : Type 0 where
  pub shaped : Shaped a b added
  pub frees : frees b.kinds + length added ≡ frees a.kinds
  pub kills : Kills a b spared

pub kills_same : (a : Scope) (p : ℕ → Bool) → ((j : ℕ) → p j ≡ true) → Kills a a p
kills_same a p all = record { spares = λ j n at live spared. live; reveals = λ j n at live. (live, all j) }

pub declared_kills : (name : List ℕ) (class : Option ℕ) (a : Scope) → Sole a.kinds a.names → 1 ≤ frees a.kinds → KillsOne a (declared name class a) ((name, class) ∷ []) All
unfolding declared
declared_kills name class a sole some =
    let free = has_free a.kinds some in
    let b = with_name name free.0 (unit_kind class) a in
    subst (λ o. KillsOne a (option_map_or (λ local. with_name name local (unit_kind class) a) o a) ((name, class) ∷ []) All) (sym free.1)
    (record {
      shaped = shaped_set a b free.0 (unit_kind class) free.1 refl name sole refl ∙ ap (λ c. of a ++ (name, c) ∷ []) (unit_class_of class);
      frees = let e = frees_taken a.kinds free.0 (unit_kind class) free.1 (unit_taken class) in omega (arith, e);
      kills = record { spares = spares_set a b free.0 (unit_kind class) free.1 refl sole; reveals = reveals_set a b free.0 (unit_kind class) free.1 refl sole };
    })

-- a statement that adds no name, as it leaves the scope level
module _ (a b : Scope) (p : ℕ → Bool) (sole : Sole a.kinds a.names) where
  pub kills_level : Levels a b → Kills a b p → KillsOne a b [] p
  kills_level l k = record { shaped = shaped_level a b l sole ∙ sym (append-nil (of a)); frees = (let e = level_frees a b l in omega (arith, e)); kills = k }
