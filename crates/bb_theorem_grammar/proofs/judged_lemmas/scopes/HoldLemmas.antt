-- What a step of the compiler leaves of a buffer: its scope, where it began, and its flaw. One step after another.
use Rattle.std.proofs.Common.{◌≡◌, ℕ, Bool, true, false, cond, List, [], ◌∷◌, ◌++◌, length, Option, Some, None, Result, Ok, Err, refl, subst, sym, ap}
use Rattle.std.specs.Prelude.{nat_le, ◌==◌}
use Rattle.bb_basis.specs.Results.{◌>>=◌}
use Rattle.bb_code.specs.declared.parts.TheConstants.{OP_LIMIT}
use Rattle.bb_code.specs.declared.frame.Kind.{Kind}
use Rattle.bb_verify_effect.specs.Kinds.{is_same_plain}
use Rattle.bb_code.specs.declared.op.Op.{Op}
use Rattle.bb_compile_scope.specs.Faults.{lowest}
use Rattle.bb_compile_scope.specs.Place.{Place}
use Rattle.bb_compile_scope.specs.declared.fault.CompileFault.{CompileFault}
use Rattle.bb_compile_scope.specs.declared.fault.CompileFault.TheVariants.{At}
use Rattle.bb_compile_scope.specs.declared.fault.TextFlaw.{TextFlaw}
use Rattle.bb_compile_scope.specs.declared.fault.TextFlaw.TheVariants.{Unknown, Kind as WrongKind, Limit}
use Rattle.bb_compile_scope.specs.declared.scope.Scope.{Scope}
use Rattle.bb_compile_buffer.specs.declared.buffer.Buffer.{Buffer}
use Rattle.bb_compile_buffer.specs.Buffers.{noted, due, known, put, put_value}
use Rattle.bb_theorem_grammar.specs.judged.Flaws.{least, unless, if_so, if_unknown, if_full, if_other}

-- ---- flaws, one after another

pub least_on : (seen : Option TextFlaw) (xs ys : List TextFlaw) → least seen (xs ++ ys) ≡ least (least seen xs) ys
unfolding least
least_on seen [] ys = refl
least_on seen (x ∷ xs) ys = least_on (Some (lowest seen x)) xs ys

-- ---- answers

-- P holds of what a step makes; a step that makes nothing is one whose code is too large
abbrev pub Holds : {X : Type 0} → (P : X → Type 0) → Place → Result X CompileFault → Type 0
Holds P place (Ok x) = P x
Holds P place (Err fault) = fault ≡ At Limit place

-- a buffer with this scope and this flaw, of a part that begins at a place
pub record Keeps (scope : Scope) (place : Place) (flaw : Option TextFlaw) (t : Buffer) : Type 0 where
  pub same : t.scope ≡ scope
  pub begun : t.start ≡ place
  pub flawed : t.flaw ≡ flaw

-- one flaw more, if there is one
pub noted_flaw : (scope : Scope) (place : Place) (flaw : TextFlaw) (s : Buffer) (seen : Option TextFlaw) → Keeps scope place seen s → Keeps scope place (least seen (flaw ∷ [])) (noted flaw s)
unfolding least
noted_flaw scope place flaw s seen k = record { same = k.same; begun = k.begun; flawed = ap (λ f. Some (lowest f flaw)) k.flawed }

pub noted_if : (scope : Scope) (place : Place) (b : Bool) (flaw : TextFlaw) (s : Buffer) (seen : Option TextFlaw) → Keeps scope place seen s → Keeps scope place (least seen (if_so b flaw)) (cond b (noted flaw s) s)
unfolding least
noted_if scope place true flaw s seen k = noted_flaw scope place flaw s seen k
noted_if scope place false flaw s seen k = k

pub noted_unless : (scope : Scope) (place : Place) (b : Bool) (flaw : TextFlaw) (s : Buffer) (seen : Option TextFlaw) → Keeps scope place seen s → Keeps scope place (least seen (unless b flaw)) (cond b s (noted flaw s))
unfolding least
noted_unless scope place true flaw s seen k = k
noted_unless scope place false flaw s seen k = noted_flaw scope place flaw s seen k

-- one step after another
pub holds_then : {X Z : Type 0} (place : Place) (P : X → Type 0) (Q : Z → Type 0) (r : Result X CompileFault) (f : X → Result Z CompileFault) → Holds P place r → ((x : X) → P x → Holds Q place (f x)) → Holds Q place (r >>= f)
holds_then place P Q (Err fault) f h next = h
holds_then place P Q (Ok x) f h next = next x h

-- flaws that are noted first
pub first_noted : {X : Type 0} (place : Place) (Q : Option TextFlaw → X → Type 0) (seen : Option TextFlaw) (xs ys : List TextFlaw) (r : Result X CompileFault) → Holds (Q (least (least seen xs) ys)) place r → Holds (Q (least seen (xs ++ ys))) place r
first_noted place Q seen xs ys r h = subst (λ flaw. Holds (Q flaw) place r) (sym (least_on seen xs ys)) h

module _ (scope : Scope) (place : Place) where
  -- what was made, and the buffer
  abbrev pub Made : {X : Type 0} → X → Option TextFlaw → X × Buffer → Type 0
  Made x flaw p = (p.0 ≡ x) × Keeps scope place flaw p.1

  -- a step that makes something, and then another
  pub made_then : {X Z : Type 0} (x : X) (Q : Option TextFlaw → Z → Type 0) (seen : Option TextFlaw) (xs ys : List TextFlaw) (r : Result (X × Buffer) CompileFault) (f : X × Buffer → Result Z CompileFault)
      → Holds (Made x (least seen xs)) place r → ((t : Buffer) → Keeps scope place (least seen xs) t → Holds (Q (least (least seen xs) ys)) place (f (x, t))) → Holds (Q (least seen (xs ++ ys))) place (r >>= f)
  made_then x Q seen xs ys (Err fault) f h next = h
  made_then x Q seen xs ys (Ok p) f h next =
      subst (λ flaw. Holds (Q flaw) place (f p)) (sym (least_on seen xs ys))
      (subst (λ m. Holds (Q (least (least seen xs) ys)) place (f (m, p.1))) (sym h.0) (next p.1 h.1))

  -- a step that makes nothing, and then another
  pub keeps_then : {Z : Type 0} (Q : Option TextFlaw → Z → Type 0) (seen : Option TextFlaw) (xs ys : List TextFlaw) (r : Result Buffer CompileFault) (f : Buffer → Result Z CompileFault)
      → Holds (Keeps scope place (least seen xs)) place r → ((t : Buffer) → Keeps scope place (least seen xs) t → Holds (Q (least (least seen xs) ys)) place (f t)) → Holds (Q (least seen (xs ++ ys))) place (r >>= f)
  keeps_then Q seen xs ys (Err fault) f h next = h
  keeps_then Q seen xs ys (Ok t) f h next = subst (λ flaw. Holds (Q flaw) place (f t)) (sym (least_on seen xs ys)) (next t h)

  -- two steps, where the second notes nothing
  pub made_last : {X Z : Type 0} (x : X) (flaw : Option TextFlaw) (Q : Z → Type 0) (r : Result (X × Buffer) CompileFault) (f : X × Buffer → Result Z CompileFault) → Holds (Made x flaw) place r → ((t : Buffer) → Keeps scope place flaw t → Holds Q place (f (x, t))) → Holds Q place (r >>= f)
  made_last x flaw Q (Err fault) f h next = h
  made_last x flaw Q (Ok p) f h next = subst (λ m. Holds Q place (f (m, p.1))) (sym h.0) (next p.1 h.1)

  pub keeps_last : {Z : Type 0} (P : Buffer → Type 0) (Q : Z → Type 0) (r : Result Buffer CompileFault) (f : Buffer → Result Z CompileFault) → Holds P place r → ((t : Buffer) → P t → Holds Q place (f t)) → Holds Q place (r >>= f)
  keeps_last P Q (Err fault) f h next = h
  keeps_last P Q (Ok t) f h next = next t h

  -- ---- ops

  pub put_keeps : (op : Op) (s : Buffer) (seen : Option TextFlaw) → Keeps scope place seen s → Holds (Keeps scope place seen) place (put op s)
  unfolding put
  put_keeps op s seen k = by_room (nat_le OP_LIMIT (length s.ops))
    where
      by_room : (b : Bool) → Holds (Keeps scope place seen) place (cond b (Err (At Limit s.start)) (Ok (record s { ops = s.ops ++ op ∷ [] })))
      by_room true = ap (At Limit) k.begun
      by_room false = record { same = k.same; begun = k.begun; flawed = k.flawed }

  pub put_value_keeps : (op : Op) (room : ℕ) (s : Buffer) (seen : Option TextFlaw) → Keeps scope place seen s → Holds (Keeps scope place (least seen (if_full room))) place (put_value op room s)
  unfolding put_value
  put_value_keeps op room s seen k =
      put_keeps op (cond (room == 0) (noted Limit s) s) (least seen (if_full room)) (noted_if scope place (room == 0) Limit s seen k)

  -- ---- single flaws

  pub due_keeps : (made : Option Kind) (wanted : Kind) (s : Buffer) (seen : Option TextFlaw) → Keeps scope place seen s → Keeps scope place (least seen (if_other made wanted)) (due made wanted s)
  unfolding due least
  due_keeps None wanted s seen k = k
  due_keeps (Some kind) wanted s seen k = noted_unless scope place (is_same_plain kind wanted) WrongKind s seen k

  pub known_keeps : (o : Option ℕ) (s : Buffer) (seen : Option TextFlaw) → Keeps scope place seen s → Keeps scope place (least seen (if_unknown o)) (known o s)
  unfolding least
  known_keeps None s seen k = noted_flaw scope place Unknown s seen k
  known_keeps (Some n) s seen k = k
