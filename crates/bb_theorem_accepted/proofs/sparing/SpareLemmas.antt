-- Which names a text spares: of those in scope it assigns to none of these, and deletes no unit of their classes. That
-- goes by the names and the classes of their units alone.
use Rattle.std.proofs.Common.{◌≡◌, ◌⊎◌, inl, inr, ℕ, zero, suc, ◌-◌, ◌≤◌, Bool, true, false, not, cond, ◌&&◌, List, [], ◌∷◌, ◌++◌, Option, Some, None, refl, subst, sym, ap, ◌∙◌, arith}
use Rattle.std.specs.Prelude.{slice_get, find, option_map, option_and_then}
use Rattle.std.specs.Str.{bytes_eq}
use Rattle.bb_schema.specs.Schema.{Schema, class_named}
use Rattle.bb_schema.specs.Ownership.{strikes}
use Rattle.bb_code.specs.declared.frame.Kind.{Kind}
use Rattle.bb_code.specs.declared.frame.Kind.TheVariants as kinds
use Rattle.bb_lang.specs.Atom.TheVariants as atoms
use Rattle.bb_lang.specs.Action.{Action}
use Rattle.bb_lang.specs.Action.TheVariants as actions
use Rattle.bb_lang.specs.Binding.{Binding}
use Rattle.bb_lang.specs.Binding.TheVariants as bindings
use Rattle.bb_lang.specs.Sequence.{Sequence}
use Rattle.bb_lang.specs.Sequence.TheVariants as sequences
use Rattle.bb_lang.specs.Trees.{ExprTree, atom, chain, no_step}
use Rattle.bb_lang.specs.Blocks.{BlockTree, StatementTree, OtherwiseTree, no_statement, before_others, action, if_of, with_of, for_of, absent, otherwise}
use Rattle.bb_compile_scope.specs.Kinds.{class_of}
use Rattle.bb_compile_scope.specs.Killed.{unless_fault, bound_name}
use Rattle.bb_compile_scope.specs.LocalKinds.{is_free, kind_at}
use Rattle.bb_compile_scope.specs.Scope.{name_of}
use Rattle.bb_compile_scope.specs.Slots.{link_slot, partner_slot}
use Rattle.bb_compile_scope.specs.declared.scope.NamedLocal.{NamedLocal}
use Rattle.bb_theorem_accepted.proofs.kinds.KnowLemmas.{aged, Agree}
use Rattle.bb_theorem_accepted.proofs.kinds.MoveLemmas.{Apart, Sole}

-- ---- names and classes

abbrev pub Shape : Type 0
Shape = List (List ℕ × Option ℕ)

abbrev pub shape : List Kind → List NamedLocal → Shape
shape ks [] = []
shape ks (n ∷ ns) = (n.name, class_of (kind_at ks n.local)) ∷ shape ks ns

-- the class of the unit of a name
abbrev pub class_in : Shape → (name : List ℕ) → Option ℕ
class_in [] name = None
class_in (p ∷ ps) name = cond (bytes_eq p.0 name) p.1 (class_in ps name)

abbrev pub class_at : Shape → ℕ → Option ℕ
class_at [] j = None
class_at (p ∷ ps) zero = p.1
class_at (p ∷ ps) (suc j) = class_at ps j

-- the name of an index is the first of its text
abbrev pub is_first : Shape → (name : List ℕ) → ℕ → Bool
is_first [] name j = false
is_first (p ∷ ps) name zero = bytes_eq p.0 name
is_first (p ∷ ps) name (suc j) = cond (bytes_eq p.0 name) false (is_first ps name j)

-- ---- what a text adds to a shape

abbrev pub value_in : Shape → ExprTree → Option ℕ
value_in S (atom (atoms.Variable unit)) = class_in S (name_of unit)
value_in S (chain first no_step) = value_in S first
value_in S _ = None

abbrev pub bound_in : Schema → Shape → Binding → Option ℕ
bound_in s S (bindings.As name unit class) = class_named s class
bound_in s S (bindings.Linked name unit slot) = option_and_then (λ class. option_map (λ p. p.1) (unless_fault (partner_slot s class slot))) (class_in S (name_of unit))

abbrev pub sequence_in : Schema → Shape → Sequence → Option ℕ
sequence_in s S (sequences.Find class space pattern) = class_named s class
sequence_in s S (sequences.Links unit slot) = option_and_then (λ class. option_map (λ p. p.1.to) (unless_fault (link_slot s class slot))) (class_in S (name_of unit))

abbrev pub added_by : Schema → Shape → StatementTree → Shape
added_by s S (action (actions.Let name value)) = (name, value_in S value) ∷ []
added_by s S (action (actions.New name class)) = (name, class_named s class) ∷ []
added_by s S _ = []

-- ---- what it spares

abbrev pub is_struck : Schema → (deleted class : Option ℕ) → Bool
is_struck s (Some c) (Some d) = strikes s c d
is_struck s _ _ = false

abbrev pub action_spares : Schema → Shape → Action → ℕ → Bool
action_spares s S (actions.Assign name value) j = not (is_first S name j)
action_spares s S (actions.Delete unit) j = not (is_struck s (class_in S (name_of unit)) (class_at S j))
action_spares s S _ j = true

unfoldable mutual
  pub statement_spares : Schema → Shape → StatementTree → ℕ → Bool
  statement_spares s S (action a) j = action_spares s S a j
  statement_spares s S (if_of test then other) j = block_spares s S then j && other_spares s S other j
  statement_spares s S (with_of binding then other) j = block_spares s (S ++ (bound_name binding, bound_in s S binding) ∷ []) then j && other_spares s S other j
  statement_spares s S (for_of name sequence body) j = block_spares s (S ++ (name, sequence_in s S sequence) ∷ []) body j

  pub other_spares : Schema → Shape → OtherwiseTree → ℕ → Bool
  other_spares s S absent j = true
  other_spares s S (otherwise b) j = block_spares s S b j

  pub block_spares : Schema → Shape → BlockTree → ℕ → Bool
  block_spares s S no_statement j = true
  block_spares s S (before_others place x others) j = statement_spares s S x j && block_spares s (S ++ added_by s S x) others j

-- ---- how many locals it needs at once

abbrev pub adds : StatementTree → ℕ
adds (action (actions.Let name value)) = 1
adds (action (actions.New name class)) = 1
adds _ = 0

unfoldable mutual
  pub statement_fits : StatementTree → ℕ → Type 0
  statement_fits (action a) room = adds (action a) ≤ room
  statement_fits (if_of test then other) room = block_fits then room × other_fits other room
  statement_fits (with_of binding then other) room = (1 ≤ room) × block_fits then (room - 1) × other_fits other room
  statement_fits (for_of name sequence body) room = (2 ≤ room) × block_fits body (room - 2)

  pub other_fits : OtherwiseTree → ℕ → Type 0
  other_fits absent room = Unit {0}
  other_fits (otherwise b) room = block_fits b room

  pub block_fits : BlockTree → ℕ → Type 0
  block_fits no_statement room = Unit {0}
  block_fits (before_others place x others) room = statement_fits x room × block_fits others (room - adds x)

-- more room does
mutual
  unfolding statement_fits other_fits block_fits

  pub statement_more : (x : StatementTree) (n m : ℕ) → n ≤ m → statement_fits x n → statement_fits x m
  statement_more (action a) n m le fits = omega (arith, le, fits)
  statement_more (if_of test then other) n m le fits = (block_more then n m le fits.0, other_more other n m le fits.1)
  statement_more (with_of binding then other) n m le fits = (let some = fits.0 in omega (arith, le, some), block_more then (n - 1) (m - 1) (omega (arith, le)) fits.1, other_more other n m le fits.2)
  statement_more (for_of name sequence body) n m le fits = (let some = fits.0 in omega (arith, le, some), block_more body (n - 2) (m - 2) (omega (arith, le)) fits.1)

  other_more : (o : OtherwiseTree) (n m : ℕ) → n ≤ m → other_fits o n → other_fits o m
  other_more absent n m le fits = tt
  other_more (otherwise b) n m le fits = block_more b n m le fits

  pub block_more : (b : BlockTree) (n m : ℕ) → n ≤ m → block_fits b n → block_fits b m
  block_more no_statement n m le fits = tt
  block_more (before_others place x others) n m le fits = (statement_more x n m le fits.0, block_more others (n - adds x) (m - adds x) (omega (arith, le)) fits.1)

-- ---- shapes of scopes

pub aged_class : (k : Kind) → class_of (aged k) ≡ class_of k
aged_class (kinds.Ref c) = refl
aged_class kinds.Any = refl
aged_class kinds.Int = refl
aged_class kinds.Text = refl
aged_class kinds.Bool = refl
aged_class (kinds.Label set) = refl
aged_class kinds.Interval = refl
aged_class (kinds.Old c) = refl
aged_class (kinds.Seq c) = refl

pub shape_agree : (ks ls : List Kind) (ns : List NamedLocal) → Agree ks ls → Sole ks ns → shape ls ns ≡ shape ks ns
shape_agree ks ls [] agree sole = refl
shape_agree ks ls (n ∷ ns) agree sole =
    let one : class_of (kind_at ls n.local) ≡ class_of (kind_at ks n.local) = sym (aged_class (kind_at ls n.local)) ∙ (ap class_of (sym (agree n.local sole.0)) ∙ aged_class (kind_at ks n.local)) in
    ap (λ c. (n.name, c) ∷ shape ls ns) one ∙ ap (λ l. (n.name, class_of (kind_at ks n.local)) ∷ l) (shape_agree ks ls ns agree sole.2)

pub shape_more : (ks : List Kind) (ns : List NamedLocal) (n : NamedLocal) → shape ks (ns ++ n ∷ []) ≡ shape ks ns ++ (n.name, class_of (kind_at ks n.local)) ∷ []
shape_more ks [] n = refl
shape_more ks (m ∷ ms) n = ap (λ l. (m.name, class_of (kind_at ks m.local)) ∷ l) (shape_more ks ms n)

-- the class of a name
pub class_is : (ks : List Kind) (ns : List NamedLocal) (name : List ℕ) → option_and_then class_of (option_map (kind_at ks) (option_map (λ (n : NamedLocal). n.local) (find (λ (n : NamedLocal). bytes_eq n.name name) ns))) ≡ class_in (shape ks ns) name
class_is ks [] name = refl
class_is ks (n ∷ ns) name = by_name (class_is ks ns name) (bytes_eq n.name name)
  where
    by_name : option_and_then class_of (option_map (kind_at ks) (option_map (λ (n : NamedLocal). n.local) (find (λ (n : NamedLocal). bytes_eq n.name name) ns))) ≡ class_in (shape ks ns) name
        → (b : Bool) → option_and_then class_of (option_map (kind_at ks) (option_map (λ (n : NamedLocal). n.local) (cond b (Some n) (find (λ (n : NamedLocal). bytes_eq n.name name) ns)))) ≡ cond b (class_of (kind_at ks n.local)) (class_in (shape ks ns) name)
    by_name rest true = refl
    by_name rest false = rest

pub class_at_is : (ks : List Kind) (ns : List NamedLocal) (j : ℕ) (n : NamedLocal) → slice_get ns j ≡ Some n → class_at (shape ks ns) j ≡ class_of (kind_at ks n.local)
class_at_is ks [] j n at = absurd cc
class_at_is ks (m ∷ ms) zero n at = ap (λ (x : NamedLocal). class_of (kind_at ks x.local)) (let e : m ≡ n = cc in e)
class_at_is ks (m ∷ ms) (suc j) n at = class_at_is ks ms j n at

-- a name has its local taken
pub sole_taken : (ks : List Kind) (ns : List NamedLocal) (j : ℕ) (n : NamedLocal) → Sole ks ns → slice_get ns j ≡ Some n → is_free (kind_at ks n.local) ≡ false
sole_taken ks [] j n sole at = absurd cc
sole_taken ks (m ∷ ms) zero n sole at = ap (λ (x : NamedLocal). is_free (kind_at ks x.local)) (sym (let e : m ≡ n = cc in e)) ∙ sole.0
sole_taken ks (m ∷ ms) (suc j) n sole at = sole_taken ks ms j n sole.2 at

-- the local that a text names is that of the first name, and no other's
other_local : (local : ℕ) (ns : List NamedLocal) (j : ℕ) (n : NamedLocal) → Apart local ns → slice_get ns j ≡ Some n → n.local ≡ local → ⊥
other_local local [] j n apart at same = absurd cc
other_local local (m ∷ ms) zero n apart at same = apart.0 (ap (λ (x : NamedLocal). x.local) (let e : m ≡ n = cc in e) ∙ same)
other_local local (m ∷ ms) (suc j) n apart at same = other_local local ms j n apart.1 at same

found_local : (local : ℕ) (ns : List NamedLocal) (name : List ℕ) → Apart local ns → option_map (λ (n : NamedLocal). n.local) (find (λ (n : NamedLocal). bytes_eq n.name name) ns) ≡ Some local → ⊥
found_local local [] name apart at = absurd cc
found_local local (m ∷ ms) name apart at = by_name (found_local local ms name apart.1) (bytes_eq m.name name) at
  where
    by_name : (option_map (λ (n : NamedLocal). n.local) (find (λ (n : NamedLocal). bytes_eq n.name name) ms) ≡ Some local → ⊥)
        → (b : Bool) → option_map (λ (n : NamedLocal). n.local) (cond b (Some m) (find (λ (n : NamedLocal). bytes_eq n.name name) ms)) ≡ Some local → ⊥
    by_name rest true at = apart.0 (let e : m.local ≡ local = cc in e)
    by_name rest false at = rest at

pub first_is : (ks : List Kind) (ns : List NamedLocal) (name : List ℕ) (local j : ℕ) (n : NamedLocal) → Sole ks ns → option_map (λ (n : NamedLocal). n.local) (find (λ (n : NamedLocal). bytes_eq n.name name) ns) ≡ Some local → slice_get ns j ≡ Some n
    → ((is_first (shape ks ns) name j ≡ true) × (n.local ≡ local)) ⊎ ((is_first (shape ks ns) name j ≡ false) × (n.local ≡ local → ⊥))
first_is ks [] name local j n sole found at = absurd cc
first_is ks (m ∷ ms) name local zero n sole found at = by_name (bytes_eq m.name name) refl found
  where
    same : m ≡ n
    same = cc

    by_name : (b : Bool) → bytes_eq m.name name ≡ b → option_map (λ (n : NamedLocal). n.local) (cond b (Some m) (find (λ (n : NamedLocal). bytes_eq n.name name) ms)) ≡ Some local
        → ((bytes_eq m.name name ≡ true) × (n.local ≡ local)) ⊎ ((bytes_eq m.name name ≡ false) × (n.local ≡ local → ⊥))
    by_name true is found = inl (is, ap (λ (x : NamedLocal). x.local) (sym same) ∙ (let e : m.local ≡ local = cc in e))
    by_name false is found = inr (is, λ e. found_local local ms name (subst (λ l. Apart l ms) (ap (λ (x : NamedLocal). x.local) same ∙ e) sole.1) found)
first_is ks (m ∷ ms) name local (suc j) n sole found at = by_name (first_is ks ms name local j n sole.2) (bytes_eq m.name name) found
  where
    by_name : (option_map (λ (n : NamedLocal). n.local) (find (λ (n : NamedLocal). bytes_eq n.name name) ms) ≡ Some local → slice_get ms j ≡ Some n → ((is_first (shape ks ms) name j ≡ true) × (n.local ≡ local)) ⊎ ((is_first (shape ks ms) name j ≡ false) × (n.local ≡ local → ⊥)))
        → (b : Bool) → option_map (λ (n : NamedLocal). n.local) (cond b (Some m) (find (λ (n : NamedLocal). bytes_eq n.name name) ms)) ≡ Some local
        → ((cond b false (is_first (shape ks ms) name j) ≡ true) × (n.local ≡ local)) ⊎ ((cond b false (is_first (shape ks ms) name j) ≡ false) × (n.local ≡ local → ⊥))
    by_name rest true found = inr (refl, λ e. other_local m.local ms j n sole.1 at (e ∙ (let q : local ≡ m.local = cc in q)))
    by_name rest false found = rest found at

-- the local of a text is taken
pub sole_named : (ks : List Kind) (ns : List NamedLocal) (name : List ℕ) (local : ℕ) → Sole ks ns → option_map (λ (n : NamedLocal). n.local) (find (λ (n : NamedLocal). bytes_eq n.name name) ns) ≡ Some local → is_free (kind_at ks local) ≡ false
sole_named ks [] name local sole at = absurd cc
sole_named ks (n ∷ ns) name local sole at = by_name (sole_named ks ns name local sole.2) (bytes_eq n.name name) at
  where
    by_name : (option_map (λ (n : NamedLocal). n.local) (find (λ (n : NamedLocal). bytes_eq n.name name) ns) ≡ Some local → is_free (kind_at ks local) ≡ false)
        → (b : Bool) → option_map (λ (n : NamedLocal). n.local) (cond b (Some n) (find (λ (n : NamedLocal). bytes_eq n.name name) ns)) ≡ Some local → is_free (kind_at ks local) ≡ false
    by_name rest true at = ap (λ l. is_free (kind_at ks l)) (sym (let e : n.local ≡ local = cc in e)) ∙ sole.0
    by_name rest false at = rest at
