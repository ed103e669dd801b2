-- The test of a `with` does what it means.
use Rattle.std.proofs.Common.{◌≡◌, inl, inr, ℕ, ◌+◌, ◌≤◌, Bool, true, false, ◌&&◌, cond, List, [], ◌∷◌, length, Option, Some, None, Result, Ok, Err, refl, subst, sym, ap, ◌∙◌, arith}
use Rattle.std.specs.Prelude.{slice_get, option_map}
use Rattle.std.proofs.lemmas.Bool.{eqb-true}
use Rattle.bb_basis.specs.Results.{◌>>=◌, ok_or}
use Rattle.bb_basis.proofs.ResultLemmas.{bind_ok, same_ok}
use Rattle.bb_schema_classes.specs.declared.kind.Link.{Link}
use Rattle.bb_code.specs.Code.{Code}
use Rattle.bb_code.specs.declared.parts.TheConstants.{STACK_LIMIT}
use Rattle.bb_code.specs.declared.frame.Kind.{Kind}
use Rattle.bb_code.specs.declared.frame.Kind.TheVariants as kinds
use Rattle.bb_code.specs.declared.op.Op.TheVariants as ops
use Rattle.bb_schema.specs.Schema.{Schema, class_named, slot_named, descends}
use Rattle.bb_schema.specs.Fits as schemas
use Rattle.bb_links.specs.Links.{ends}
use Rattle.bb_lang.specs.Binding.{Binding}
use Rattle.bb_lang.specs.Binding.TheVariants as bindings
use Rattle.bb_lang.specs.Variable.{Variable}
use Rattle.bb_compile_scope.specs.declared.fault.TextFlaw.{TextFlaw}
use Rattle.bb_compile_scope.specs.declared.fault.TextFlaw.TheVariants.{Kind as WrongKind}
use Rattle.bb_compile_scope.specs.declared.scope.NamedLocal.{NamedLocal}
use Rattle.bb_compile_scope.specs.declared.scope.Scope.{Scope}
use Rattle.bb_compile_scope.specs.Kinds.{class_of, is_live}
use Rattle.bb_compile_scope.specs.LocalKinds.{kind_at}
use Rattle.bb_compile_scope.specs.Scope.{name_of, local_of}
use Rattle.bb_compile_scope.specs.Slots.{link_slot, partner_slot, partner_in}
use Rattle.bb_theorem_accepted.specs.Buffer.{Buffer}
use Rattle.bb_theorem_accepted.specs.Buffers.{declare}
use Rattle.bb_compile.specs.Bindings.{is_class, is_test_of}
use Rattle.bb_compile.specs.declared.exits.Exits.{Exits}
use Rattle.bb_board.specs.Board.{Board}
use Rattle.bb_units.specs.Units as units
use Rattle.bb_board.specs.World.{class_at}
use Rattle.bb_machine.specs.Changing.{State}
use Rattle.bb_machine.specs.Machine.{go_to}
use Rattle.bb_machine.specs.declared.value.Value.{Value}
use Rattle.bb_machine.specs.declared.value.Value.TheVariants.{Unit as One}
use Rattle.bb_theorem_accepted.proofs.Laws.{Clean, Has, AreAimed, Tested, HeadLaid, with_op, count_op, variable_ok, unit_ok, exits_of, named_guard, head_guard, head_scope}
use Rattle.bb_theorem_meaning.specs.Meaning.{Meaning, meaningless, nothing, named}
use Rattle.bb_theorem_meaning.specs.Values.{unit}
use Rattle.bb_theorem_meaning.specs.Units as texts
use Rattle.bb_theorem_meaning.specs.Statements.{Scene, where_named, as_class, bound, with_unit}
use Rattle.bb_theorem_meaning.proofs.ComeLemmas.{Comes, Gets, gets_then}
use Rattle.bb_theorem_meaning.proofs.MeansLemmas.{Means, bind_assoc}
use Rattle.bb_theorem_meaning.proofs.AtomLemmas.{Good, link_slot_ok, name_means}
use Rattle.bb_theorem_meaning.proofs.SequenceLemmas.{linked_slot}
use Rattle.bb_theorem_meaning.proofs.ActLemmas.{IsTidy, IsScene, Holds, declare_ok, declared_tidy, declared_moves, act_in, declare_gets}
use Rattle.bb_theorem_meaning.proofs.ClassLemmas.{AreBelow}
use Rattle.bb_theorem_meaning.proofs.TriedLemmas.{tried_gets, IsLive, IsDead, alive_tried, IsAs, IsNot, as_tried, HasOne, one_tried}
use Rattle.bb_theorem_meaning.proofs.TestLemmas.{Chooses, Tests, chosen}

-- the scene with a name for the unit, where there is one
abbrev pub with_found : Scene → List ℕ × Option ℕ → Option Scene
with_found s test = option_map (λ n. where_named test.0 (One n) s) test.1

abbrev pub where_found : Binding → Scene → Meaning (Option Scene)
where_found binding s = bound binding s >>= λ test. Ok (with_found s test)

-- a `with` means what its test chooses
pub with_means : (s : Scene) (r : Meaning (List ℕ × Option ℕ)) (first other : Scene → Meaning Scene) → ((let q : Meaning (Option Scene) = r >>= λ test. Ok (with_found s test) in q) >>= chosen first other s) ≡ (r >>= λ test. with_unit first (other s) test s)
with_means s (Ok (name, None)) first other = refl
with_means s (Ok (name, Some n)) first other = refl
with_means s (Err e) first other = refl

-- what comes of a test, and what follows
abbrev then_found : Scene → (Option Scene → Meaning Scene) → Meaning (List ℕ × Option ℕ) → Meaning Scene
then_found s f r = (let q : Meaning (Option Scene) = r >>= λ test. Ok (with_found s test) in q) >>= f

found_then : (s : Scene) (f : Option Scene → Meaning Scene) (r : Meaning Value) (q : Value → Meaning (List ℕ × Option ℕ)) → (r >>= λ v. then_found s f (q v)) ≡ then_found s f (r >>= q)
found_then s f (Ok v) q = refl
found_then s f (Err e) q = refl

-- ---- what a text says of a value

abbrev as_of : (name class : List ℕ) → Scene → Value → Meaning (List ℕ × Option ℕ)
as_of name class s v = unit v >>= λ n. ok_or (class_named s.board.schema class) meaningless >>= λ c. Ok (name, as_class s n c)

module _ (name : List ℕ) (class : List ℕ) (of : ℕ) (s : Scene) (f : Option Scene → Meaning Scene) (at : class_named s.board.schema class ≡ Some of) where
  as_is : (k : ℕ) (v : Value) (o : Option ℕ) → v ≡ One k → as_class s k of ≡ o → then_found s f (as_of name class s v) ≡ f (with_found s (name, o))
  as_is k v o same is =
      ap (λ w. then_found s f (as_of name class s w)) same
      ∙ (ap (λ (c : Meaning ℕ). then_found s f (c >>= λ c. Ok (name, as_class s k c))) (ap (λ o. ok_or o meaningless) at) ∙ ap (λ o. f (with_found s (name, o))) is)

  class_found : (k : ℕ) (live up : Bool) → units.is_live s.board.world.units k ≡ live → descends s.board.schema (class_at s.board.world k) of ≡ up → as_class s k of ≡ cond (live && up) (Some k) None
  class_found k live up alive below =
      ap (λ b. cond (b && descends s.board.schema (class_at s.board.world k) of) (Some k) None) alive ∙ ap (λ b. cond (live && b) (Some k) None) below

  not_live : (k : ℕ) → units.is_live s.board.world.units k ≡ false → as_class s k of ≡ None
  not_live k dead = class_found k false (descends s.board.schema (class_at s.board.world k) of) dead refl

  not_below : (k : ℕ) → descends s.board.schema (class_at s.board.world k) of ≡ false → as_class s k of ≡ None
  not_below k never = class_found k (units.is_live s.board.world.units k) false refl never ∙ by_live (units.is_live s.board.world.units k)
    where
      by_live : (b : Bool) → cond (b && false) (Some k) None ≡ None
      by_live true = refl
      by_live false = refl

abbrev linked_of : (name slot : List ℕ) → Scene → Value → Meaning (List ℕ × Option ℕ)
linked_of name slot s v = (unit v >>= texts.live s.board) >>= λ n. texts.slot_of s.board n slot >>= λ k. Ok (name, slice_get (ends s.board.world.links n k) 0)

module _ (name slot : List ℕ) (s : Scene) (f : Option Scene → Meaning Scene) where
  linked_is : (k at : ℕ) (v : Value) (o : Option ℕ) → v ≡ One k → units.is_live s.board.world.units k ≡ true → texts.slot_of s.board k slot ≡ Ok at → slice_get (ends s.board.world.links k at) 0 ≡ o → then_found s f (linked_of name slot s v) ≡ f (with_found s (name, o))
  linked_is k at v o same live there is =
      ap (λ w. then_found s f (linked_of name slot s w)) same
      ∙ (ap (λ b. then_found s f ((let r : Meaning ℕ = cond b (Ok k) nothing in r) >>= λ n. texts.slot_of s.board n slot >>= λ k. Ok (name, slice_get (ends s.board.world.links n k) 0))) live
      ∙ (ap (λ (r : Meaning ℕ). then_found s f (r >>= λ j. Ok (name, slice_get (ends s.board.world.links k j) 0))) there ∙ ap (λ o. f (with_found s (name, o))) is))

partner_slot_ok : (s : Schema) (c : ℕ) (name : List ℕ) (q : ℕ × ℕ) → partner_slot s c name ≡ Ok q → slot_named s c name ≡ Some q.0
unfolding partner_slot
partner_slot_ok s c name q h =
    let one = bind_ok (link_slot s c name) (λ p. partner_in p.0 p.1) q h in
    link_slot_ok s c name one.0 one.1 ∙ ap (λ n. Some n) (by_many one.0.0 one.0.1 one.0.1.many one.2)
  where
    by_many : (slot : ℕ) (link : Link) (m : Bool) → (let r : Result (ℕ × ℕ) TextFlaw = cond m (Err WrongKind) (Ok (slot, link.to)) in r) ≡ Ok q → slot ≡ q.0
    by_many slot link true h = absurd cc
    by_many slot link false h = ap (λ (p : ℕ × ℕ). p.0) (same_ok (slot, link.to) q h)

module _ (schema : Schema) (sf : schemas.Fits schema) (code : Code) (start : State) (good : (n : ℕ) (st : State) → Comes code start n (Ok st) → Good schema st.1) where
  -- ---- after what was tested

  module _ (name : List ℕ) (s t u : Buffer) (of : ℕ) (scope_t : t.scope ≡ s.scope) (declared : declare name (kinds.Ref of) t ≡ Ok u) (w : Buffer) (f : Option Scene → Meaning Scene) (at : ℕ) (has_u : Has code u) (tidy : IsTidy s.scope) (low : length t.ops ≤ at) (high : at ≤ length w.ops)
      (le : length u.ops ≤ length w.ops) (sc : Scene) (onward : (after : Scene) (next : State) → Comes code start (length u.ops) (Ok next) → IsScene (length u.ops) u.scope.names after next → Gets code start (IsScene (length w.ops) w.scope.names) (f (Some after)) (length w.ops))
      (elsewhere : (next : State) → Comes code start at (Ok next) → IsScene at s.scope.names sc next → Gets code start (IsScene (length w.ops) w.scope.names) (f None) (length w.ops)) where
    abbrev GetsEnd : Meaning Scene → Type 0
    GetsEnd r = Gets code start (IsScene (length w.ops) w.scope.names) r (length w.ops)

    -- the unit that was found gets its name
    named_gets : (k : ℕ) (next : State) → Comes code start (length t.ops) (Ok next) → Holds code start (length t.ops) s.scope.names sc (One k) next → GetsEnd (f (with_found sc (name, Some k)))
    named_gets k next c h =
        let d = declare_ok name (kinds.Ref of) t u declared in
        gets_then code start (IsScene (length u.ops) u.scope.names) (IsScene (length w.ops) w.scope.names) (Ok (where_named name (One k) sc)) (λ after. f (Some after)) (length u.ops) (length w.ops) le
        (declare_gets code start name (kinds.Ref of) t u d has_u (subst IsTidy (sym scope_t) tidy) next sc (One k) c (subst (λ (x : Scope). Holds code start (length t.ops) x.names sc (One k) next) (sym scope_t) h))
        (λ after later c' is. onward after later c' is)

    -- a live unit, and its class
    as_step : (class : List ℕ) → class_named sc.board.schema class ≡ Some of → (n : ℕ) → length t.ops ≡ n + 1 → (st : State) (v was : Value) → ((k : ℕ) → v ≡ One k → was ≡ One k) → Comes code start n (Ok st) → Holds code start n s.scope.names sc v st → slice_get code.ops n ≡ Some (ops.As of at)
        → GetsEnd (then_found sc f (as_of name class sc was))
    as_step class class_is n count st v was same c h there =
        tried_gets code start (IsScene (length w.ops) w.scope.names) (then_found sc f (as_of name class sc was)) s.scope.names n at (length w.ops) sc st (omega (arith, count, low)) high (ops.As of at) v
        (IsAs code at (go_to (n + 1) st.0) st.1 v h.stack of) (IsNot code at (go_to (n + 1) st.0) st.1 v h.stack of) c h there (as_tried code at (go_to (n + 1) st.0) st.1 v h.stack of)
        (λ k next found c' h'.
        let live = subst (λ (b : Board). units.is_live b.world.units k ≡ true) h.board found.1 in
        let up = subst (λ (b : Board). descends b.schema (class_at b.world k) of ≡ true) h.board found.2 in
        subst GetsEnd (sym (as_is name class of sc f class_is k was (Some k) (same k found.0) (class_found name class of sc f class_is k true true live up)))
        (named_gets k next (subst (λ i. Comes code start i (Ok next)) (sym count) c') (subst (λ i. Holds code start i s.scope.names sc (One k) next) (sym count) h')))
        (λ next none c' is.
        let never = subst (λ (b : Board). descends b.schema (class_at b.world none.0) of ≡ false) h.board none.2 in
        subst GetsEnd (sym (as_is name class of sc f class_is none.0 was None (same none.0 none.1) (not_below name class of sc f class_is none.0 never))) (elsewhere next c' is))

    -- a unit that may be deleted, of the class
    alive_step : (class : List ℕ) → class_named sc.board.schema class ≡ Some of → (n : ℕ) → length t.ops ≡ n + 1 → (st : State) (v : Value) → ((k : ℕ) → v ≡ One k → units.is_live sc.board.world.units k ≡ true → descends sc.board.schema (class_at sc.board.world k) of ≡ true)
        → Comes code start n (Ok st) → Holds code start n s.scope.names sc v st → slice_get code.ops n ≡ Some (ops.Alive at) → GetsEnd (then_found sc f (as_of name class sc v))
    alive_step class class_is n count st v known c h there =
        tried_gets code start (IsScene (length w.ops) w.scope.names) (then_found sc f (as_of name class sc v)) s.scope.names n at (length w.ops) sc st (omega (arith, count, low)) high (ops.Alive at) v
        (IsLive code at (go_to (n + 1) st.0) st.1 v h.stack) (IsDead code at (go_to (n + 1) st.0) st.1 v h.stack) c h there (alive_tried code at (go_to (n + 1) st.0) st.1 v h.stack)
        (λ k next found c' h'.
        let live = subst (λ (b : Board). units.is_live b.world.units k ≡ true) h.board found.1 in
        subst GetsEnd (sym (as_is name class of sc f class_is k v (Some k) found.0 (class_found name class of sc f class_is k true true live (known k found.0 live))))
        (named_gets k next (subst (λ i. Comes code start i (Ok next)) (sym count) c') (subst (λ i. Holds code start i s.scope.names sc (One k) next) (sym count) h')))
        (λ next none c' is.
        let dead = subst (λ (b : Board). units.is_live b.world.units none.0 ≡ false) h.board none.2 in
        subst GetsEnd (sym (as_is name class of sc f class_is none.0 v None none.1 (not_live name class of sc f class_is none.0 dead))) (elsewhere next c' is))

    -- a unit that may be deleted, and its class
    both_step : (class : List ℕ) → class_named sc.board.schema class ≡ Some of → (n : ℕ) → length t.ops ≡ n + 1 + 1 → (st : State) (v : Value) → Comes code start n (Ok st) → Holds code start n s.scope.names sc v st → slice_get code.ops n ≡ Some (ops.Alive at) → slice_get code.ops (n + 1) ≡ Some (ops.As of at)
        → GetsEnd (then_found sc f (as_of name class sc v))
    both_step class class_is n count st v c h there next_there =
        tried_gets code start (IsScene (length w.ops) w.scope.names) (then_found sc f (as_of name class sc v)) s.scope.names n at (length w.ops) sc st (omega (arith, count, low)) high (ops.Alive at) v
        (IsLive code at (go_to (n + 1) st.0) st.1 v h.stack) (IsDead code at (go_to (n + 1) st.0) st.1 v h.stack) c h there (alive_tried code at (go_to (n + 1) st.0) st.1 v h.stack)
        (λ k next found c' h'. as_step class class_is (n + 1) count next (One k) v (λ j e. found.0 ∙ e) c' h' next_there)
        (λ next none c' is.
        let dead = subst (λ (b : Board). units.is_live b.world.units none.0 ≡ false) h.board none.2 in
        subst GetsEnd (sym (as_is name class of sc f class_is none.0 v None none.1 (not_live name class of sc f class_is none.0 dead))) (elsewhere next c' is))

    -- a partner
    one_step : (slot : List ℕ) (k c : ℕ) → slot_named schema c slot ≡ Some k → (n : ℕ) → length t.ops ≡ n + 1 → (st : State) (v : Value) → Comes code start n (Ok st) → Holds code start n s.scope.names sc v st
        → slice_get code.ops n ≡ Some (ops.One k at) → GetsEnd (then_found sc f (linked_of name slot sc v))
    one_step slot k class slot_is n count st v c h there =
        tried_gets code start (IsScene (length w.ops) w.scope.names) (then_found sc f (linked_of name slot sc v)) s.scope.names n at (length w.ops) sc st (omega (arith, count, low)) high (ops.One k at) v
        (λ p. HasOne code at (go_to (n + 1) st.0) st.1 v h.stack k (Some p)) (HasOne code at (go_to (n + 1) st.0) st.1 v h.stack k None) c h there (one_tried code at (go_to (n + 1) st.0) st.1 v h.stack k)
        (λ p next found c' h'.
        subst GetsEnd (sym (means (Some p) found)) (named_gets p next (subst (λ i. Comes code start i (Ok next)) (sym count) c') (subst (λ i. Holds code start i s.scope.names sc (One p) next) (sym count) h')))
        (λ next none c' is. subst GetsEnd (sym (means None none)) (elsewhere next c' is))
      where
        means : (o : Option ℕ) → HasOne code at (go_to (n + 1) st.0) st.1 v h.stack k o → then_found sc f (linked_of name slot sc v) ≡ f (with_found sc (name, o))
        means o found =
            let j = found.0 in
            let live = subst (λ (b : Board). units.is_live b.world.units j ≡ true) h.board found.2 in
            let at_first = subst (λ (b : Board). slice_get (ends b.world.links j k) 0 ≡ o) h.board found.4 in
            let named_there = linked_slot schema sf code class k slot slot_is st.1 (good n st c) j found.2 found.3 in
            linked_is name slot sc f j k v o found.1 live (subst (λ (b : Board). texts.slot_of b j slot ≡ Ok k) h.board named_there) at_first

  -- ---- the whole test

  schema_there : (n : ℕ) (st : State) (ns : List NamedLocal) (scene : Scene) → Comes code start n (Ok st) → IsScene n ns scene st → scene.board.schema ≡ schema
  schema_there n st ns scene c here = ap (λ (b : Board). b.schema) (sym here.board) ∙ (good n st c).schema

  module _ (name : List ℕ) (unit_name : Variable) (class : List ℕ) (held : Kind) (of : ℕ) (s a t u : Buffer) (exits : Exits) (named_is : class_named schema class ≡ Some of) (m : Means code start s a (Some held) (λ b names. named (name_of unit_name) names)) (scope_t : t.scope ≡ s.scope)
      (declared : declare name (kinds.Ref of) t ≡ Ok u) (known : AreBelow schema sf code start s) (local own : ℕ) (loaded : local_of s.scope (name_of unit_name) ≡ Some local) (held_is : held ≡ kind_at s.scope.kinds local) (own_is : class_of held ≡ Some own) where
    as_chooses : (is : Tested held of a t exits) → Chooses code start s u a t (exits_of held of a t exits is) (where_found (bindings.As name unit_name class))
    unfolding bound
    as_chooses is w f at grown aimed has_u tidy low high le st sc c here onward elsewhere =
        let class_is : class_named sc.board.schema class ≡ Some of = ap (λ x. class_named x class) (schema_there (length s.ops) st s.scope.names sc c here) ∙ named_is in
        subst (λ r. Gets code start (IsScene (length w.ops) w.scope.names) r (length w.ops))
        (found_then sc f (named (name_of unit_name) sc.names) (as_of name class sc) ∙ ap (then_found sc f) (sym (bind_assoc (named (name_of unit_name) sc.names) unit (λ n. ok_or (class_named sc.board.schema class) meaningless >>= λ c. Ok (name, as_class sc n c)))))
        (act_in code start s a w (Some held) (λ b names. named (name_of unit_name) names) st sc (λ v. then_found sc f (as_of name class sc v)) m grown c here (λ after v is_v c' h. by_test is aimed class_is after v is_v c' h))
      where
        by_test : (is : Tested held of a t exits) → AreAimed code at (length a.ops) (exits_of held of a t exits is) → class_named sc.board.schema class ≡ Some of → (after : State) (v : Value) → named (name_of unit_name) sc.names ≡ Ok v → Comes code start (length a.ops) (Ok after)
            → Holds code start (length a.ops) s.scope.names sc v after → Gets code start (IsScene (length w.ops) w.scope.names) (then_found sc f (as_of name class sc v)) (length w.ops)
        by_test (inl is) aimed class_is after v is_v c' h =
            as_step name s t u of scope_t declared w f at has_u tidy low high le sc onward elsewhere class class_is (length a.ops) (count_op a t (ops.As of 0) is.put_is) after v v (λ k e. e) c' h aimed.0
        by_test (inr (inl is)) aimed class_is after v is_v c' h =
            let same : own ≡ of = eqb-true own of (ap (λ o. is_class o of) (sym own_is) ∙ is.same) in
            alive_step name s t u of scope_t declared w f at has_u tidy low high le sc onward elsewhere class class_is (length a.ops) (count_op a t (ops.Alive 0) is.put_is) after v
            (λ k e live.
            ap (λ x. descends x (class_at sc.board.world k) of) (schema_there (length s.ops) st s.scope.names sc c here)
            ∙ subst (λ d. descends schema (class_at sc.board.world k) d ≡ true) same (known unit_name local own loaded (ap class_of (sym held_is) ∙ own_is) st sc c here k (is_v ∙ ap (λ x. Ok x) e) live))
            c' h aimed.0
        by_test (inr (inr is)) aimed class_is after v is_v c' h =
            let first = with_op (ops.Alive 0) a in
            let count : length t.ops ≡ length a.ops + 1 + 1 = count_op first t (ops.As of 0) is.put_is ∙ ap (λ n. n + 1) (count_op a first (ops.Alive 0) refl) in
            both_step name s t u of scope_t declared w f at has_u tidy low high le sc onward elsewhere class class_is (length a.ops) count after v c' h aimed.0 aimed.1.0

  linked_chooses : (name : List ℕ) (unit_name : Variable) (slot : List ℕ) (made : Option Kind) (of class k : ℕ) (s a t u : Buffer) → slot_named schema class slot ≡ Some k → Means code start s a made (λ b names. named (name_of unit_name) names) → t.scope ≡ s.scope → t ≡ with_op (ops.One k 0) a → declare name (kinds.Ref of) t ≡ Ok u
      → Chooses code start s u a t (ops.One k 0 ∷ []) (where_found (bindings.Linked name unit_name slot))
  unfolding bound
  linked_chooses name unit_name slot made of class k s a t u slot_is m scope_t put_is declared w f at grown aimed has_u tidy low high le st sc c here onward elsewhere =
      subst (λ r. Gets code start (IsScene (length w.ops) w.scope.names) r (length w.ops))
      (found_then sc f (named (name_of unit_name) sc.names) (linked_of name slot sc) ∙ ap (then_found sc f) (by_assoc (named (name_of unit_name) sc.names)))
      (act_in code start s a w made (λ b names. named (name_of unit_name) names) st sc (λ v. then_found sc f (linked_of name slot sc v)) m grown c here
      (λ after v is_v c' h. one_step name s t u of scope_t declared w f at has_u tidy low high le sc onward elsewhere slot k class slot_is (length a.ops) (count_op a t (ops.One k 0) put_is) after v c' h aimed.0))
    where
      by_assoc : (r : Meaning Value) → (r >>= linked_of name slot sc) ≡ (((r >>= unit) >>= texts.live sc.board) >>= λ n. texts.slot_of sc.board n slot >>= λ k. Ok (name, slice_get (ends sc.board.world.links n k) 0))
      by_assoc (Ok v) = refl
      by_assoc (Err e) = refl

  -- the class of what is tested
  own_class : (live : Bool) (o : Option ℕ) (class : ℕ) → is_test_of schema live o class ≡ true → (c : ℕ) × (o ≡ Some c)
  own_class live None class h = absurd cc
  own_class live (Some c) class h = (c, refl)

  pub head_tests : (binding : Binding) (s u : Buffer) (exits : Exits) → (laid : HeadLaid schema binding s u exits) → (clean : Clean u) → AreBelow schema sf code start s → Has code (head_guard schema binding s u exits laid clean).behind
      → Tests code start s u exits (head_guard schema binding s u exits laid clean) (where_found binding)
  unfolding head_guard named_guard
  head_tests (bindings.As name unit_name class) s u exits laid clean known has =
      let free = (head_guard schema (bindings.As name unit_name class) s u exits laid clean).clean_behind in
      let loaded = variable_ok unit_name STACK_LIMIT s laid.behind (Some laid.held) laid.code_is free in
      let m = name_means schema sf code start good unit_name s laid.behind (Some laid.held) free has loaded in
      let scope_t = head_scope schema (bindings.As name unit_name class) s u exits laid clean in
      let own = own_class (is_live laid.held) (class_of laid.held) laid.of laid.may in
      let held_is : laid.held ≡ kind_at s.scope.kinds loaded.0 = (let e = loaded.3 in cc) in
      let d = declare_ok name (kinds.Ref laid.of) laid.test u laid.declared in
      record {
        grown = m.grown;
        scope = scope_t;
        tidy = declared_tidy name (kinds.Ref laid.of) laid.test u d refl;
        moves = declared_moves name (kinds.Ref laid.of) laid.test u d refl;
        gets = as_chooses name unit_name class laid.held laid.of s laid.behind laid.test u exits laid.named m scope_t laid.declared known loaded.0 own.0 loaded.1 held_is own.1 laid.test_is;
      }
  head_tests (bindings.Linked name unit_name slot) s u exits laid clean known has =
      let free = (head_guard schema (bindings.Linked name unit_name slot) s u exits laid clean).clean_behind in
      let is = unit_ok unit_name STACK_LIMIT s laid.behind (Some laid.class) laid.code_is free in
      let m = name_means schema sf code start good unit_name s laid.behind (Some is.0) free has is.2 in
      let scope_t = head_scope schema (bindings.Linked name unit_name slot) s u exits laid clean in
      let d = declare_ok name (kinds.Ref laid.at.1) laid.test u laid.declared in
      record {
        grown = m.grown;
        scope = scope_t;
        tidy = declared_tidy name (kinds.Ref laid.at.1) laid.test u d refl;
        moves = declared_moves name (kinds.Ref laid.at.1) laid.test u d refl;
        gets = linked_chooses name unit_name slot (Some is.0) laid.at.1 laid.class laid.at.0 s laid.behind laid.test u (partner_slot_ok schema laid.class slot laid.at laid.slot_is) m scope_t laid.put_is laid.declared;
      }
