-- The test of a `with` guides the verifier: to a first block with a name for the unit that is found, or elsewhere.
use Rattle.std.proofs.Common.{◌≡◌, inl, inr, ℕ, ◌+◌, ◌<◌, ◌≤◌, Bool, true, List, [], ◌∷◌, ◌++◌, length, Option, Some, None, Ok, refl, subst, sym, ap, ◌∙◌, arith, length-append}
use Rattle.std.specs.Prelude.{max}
use Rattle.std.proofs.Math.Nat.{le-max_right}
use Rattle.std.proofs.lemmas.Bool.{lt-ltb, eqb-true}
use Rattle.std.proofs.lemmas.List.{length-set}
use Rattle.bb_code.specs.declared.parts.TheConstants.{STACK_LIMIT}
use Rattle.bb_schema_classes.specs.declared.kind.Link.{Link}
use Rattle.bb_schema.specs.Schema.{Schema, descends}
use Rattle.bb_schema.specs.Fits as schemas
use Rattle.bb_code.specs.Code.{Code}
use Rattle.bb_code.specs.declared.frame.Kind.{Kind}
use Rattle.bb_code.specs.declared.frame.Kind.TheVariants as kinds
use Rattle.bb_code.specs.declared.op.Op.{Op}
use Rattle.bb_code.specs.declared.op.Op.TheVariants as ops
use Rattle.bb_lang.specs.Binding.{Binding}
use Rattle.bb_lang.specs.Binding.TheVariants as bindings
use Rattle.bb_compile_scope.specs.declared.scope.Scope.{Scope}
use Rattle.bb_compile_scope.specs.Kinds.{class_of, is_live}
use Rattle.bb_compile_buffer.specs.declared.buffer.Buffer.{Buffer}
use Rattle.bb_compile_buffer.specs.Buffers.{declare}
use Rattle.bb_compile_buffer.specs.Atoms.{variable_code, unit_code}
use Rattle.bb_compile.specs.declared.exits.Exits.{Exits}
use Rattle.bb_compile.specs.Bindings.{is_class, is_test_of}
use Rattle.bb_verify_effect.specs.Due as dues
use Rattle.bb_verify_effect.specs.declared.frame.Frame.{Frame}
use Rattle.bb_verify_effect.specs.Frame.{with_stack, with_local}
use Rattle.bb_verify_effect.specs.declared.part.Part.{Part}
use Rattle.bb_verify.specs.Tables.{known_kind}
use Rattle.bb_verify.specs.Places.{frame_at, on_due, target_due}
use Rattle.bb_theorem_accepted.proofs.kinds.UnderLemmas.{IsUnder, AreKnown, descends_same, under_class}
use Rattle.bb_theorem_accepted.proofs.buffers.BufferLemmas.{Clean, with_op, count_of, count_op}
use Rattle.bb_theorem_accepted.proofs.buffers.PutLemmas.{variable_ok, variable_room}
use Rattle.bb_theorem_accepted.proofs.kinds.HeldLemmas.{single_below}
use Rattle.bb_theorem_accepted.proofs.buffers.LayLemmas.{Lays}
use Rattle.bb_theorem_accepted.proofs.straight.AtomLemmas.{name_lays, unit_lays}
use Rattle.bb_theorem_accepted.proofs.straight.PatternLemmas.{AreSmall}
use Rattle.bb_theorem_accepted.proofs.straight.ExprLemmas.{class_there}
use Rattle.bb_theorem_accepted.proofs.straight.StoreLemmas.{declare_is, declared_known, store_gives, all_room, declared_sequences}
use Rattle.bb_theorem_accepted.proofs.blocks.AimLemmas.{all_aimed}
use Rattle.bb_theorem_accepted.proofs.blocks.HeadLemmas.{Tested, HeadLaid}
use Rattle.bb_theorem_accepted.proofs.branches.HeadVisits.{Tests, as_visit, alive_visit, one_visit}
use Rattle.bb_theorem_accepted.proofs.buffers.GrownLemmas.{Adds}
use Rattle.bb_theorem_accepted.proofs.buffers.StayLemmas.{behind, keeps_ok, variable_keeps, unit_keeps}
use Rattle.bb_theorem_accepted.proofs.blocks.GuardLemmas.{Puts, exits_of, tested_puts, puts_one, named_guard, head_guard}
use Rattle.bb_theorem_accepted.proofs.kinds.KnowLemmas.{HasSequences, under_value, knows_sequences, knows_from}
use Rattle.bb_theorem_accepted.proofs.kinds.SlotKinds.{partner_class}
use Rattle.bb_theorem_accepted.proofs.kinds.ValueLemmas.{IsGood}
use Rattle.bb_theorem_accepted.proofs.kinds.MoveLemmas.{Tidy, moves_same, declared_moves}
use Rattle.bb_theorem_accepted.proofs.walks.WalkLemmas.{Walks, leads_then, undeclared_on, straight_visit, At}
use Rattle.bb_theorem_accepted.proofs.walks.JoinLemmas.{known_there}
use Rattle.bb_theorem_accepted.proofs.walks.GuideLemmas.{Guides}

module _ (schema : Schema) (sf : schemas.Fits schema) (part : Part) (code : Code) where
  abbrev Here : ℕ → Option Frame
  Here place = At schema part code place

  abbrev WalksHere : ℕ → List Op → (next out : Option Frame) → Type 0
  WalksHere place listed next out = Walks schema part code place listed next out

  -- ops of a test from one place to another, the first of which finds a kind on the stack: a unit comes in its place,
  -- or none does and the next op comes elsewhere
  abbrev Tries : (from to : ℕ) → List Op → Frame → (k gives : Kind) → Type 0
  Tries from to es f k gives =
      (at : ℕ) (rest : List Op) (last out : Option Frame) → frame_at (Here from) last ≡ Ok (with_stack (k ∷ f.stack) f) → ((p : ℕ) → from < p → p ≤ to → Here p ≡ None) → to ≤ at → at < length code.ops → to < length code.ops → target_due schema (Some f) (Here at) ≡ Ok tt
      → WalksHere to rest (Some (with_stack (gives ∷ f.stack) f)) out → WalksHere from (all_aimed es at ++ rest) last out

  abbrev TestsHere : (place at : ℕ) (k gives : Kind) → Frame → Option Frame → Type 0
  TestsHere place at k gives f next = Tests schema sf part code place at k gives f next

  tests_here : (place at : ℕ) (k gives : Kind) (f : Frame) (last : Option Frame) → frame_at (Here place) last ≡ Ok (with_stack (k ∷ f.stack) f) → length f.stack < STACK_LIMIT → Here (place + 1) ≡ None → place < at → at < length code.ops → place + 1 < length code.ops
      → target_due schema (Some f) (Here at) ≡ Ok tt → TestsHere place at k gives f last
  tests_here place at k gives f last found room none low high lt target = record {
    here = found;
    room = room;
    low = low;
    high = high;
    more = lt;
    on = (undeclared_on schema part code (with_stack (gives ∷ f.stack) f) (Here (place + 1)) none).0;
    target = target;
  }

  as_tries : (class c n : ℕ) (f : Frame) (k : Kind) → length f.stack < STACK_LIMIT → dues.class_of k ≡ Ok c → dues.live k ≡ Ok tt → class < length schema.classes → Tries n (n + 1) (ops.As class 0 ∷ []) f k (kinds.Ref class)
  as_tries class c n f k room of live there at rest last out found none low high lt target behind = (
    Some (with_stack (kinds.Ref class ∷ f.stack) f),
    as_visit schema sf part code class n at c k f last (tests_here n at k (kinds.Ref class) f last found room (none (n + 1) (omega arith) (omega arith)) (omega (arith, low)) high lt target) of live there,
    behind,
  )

  alive_tries : (c n : ℕ) (f : Frame) (k : Kind) → length f.stack < STACK_LIMIT → dues.class_of k ≡ Ok c → Tries n (n + 1) (ops.Alive 0 ∷ []) f k (kinds.Ref c)
  alive_tries c n f k room of at rest last out found none low high lt target behind = (
    Some (with_stack (kinds.Ref c ∷ f.stack) f),
    alive_visit schema sf part code n at c k f last (tests_here n at k (kinds.Ref c) f last found room (none (n + 1) (omega arith) (omega arith)) (omega (arith, low)) high lt target) of,
    behind,
  )

  -- a unit that may be deleted, and then its class
  both_try : (class c n : ℕ) (f : Frame) (k : Kind) → length f.stack < STACK_LIMIT → dues.class_of k ≡ Ok c → class < length schema.classes → Tries n (n + 1 + 1) (ops.Alive 0 ∷ ops.As class 0 ∷ []) f k (kinds.Ref class)
  both_try class c n f k room of there at rest last out found none low high lt target behind =
      let mid = with_stack (kinds.Ref c ∷ f.stack) f in
      let next : Here (n + 1) ≡ None = none (n + 1) (omega arith) (omega arith) in
      alive_tries c n f k room of at (ops.As class at ∷ rest) last out found (λ p first then. none p first (omega (arith, then))) (omega (arith, low)) high (omega (arith, lt)) target
      (as_tries class c (n + 1) f (kinds.Ref c) room refl refl there at rest (Some mid) out (undeclared_on schema part code mid (Here (n + 1)) next).1 (λ p first then. none p (omega (arith, first)) then) low high lt target behind)

  one_tries : (slot c n to : ℕ) (f : Frame) (k : Kind) → length f.stack < STACK_LIMIT → dues.class_of k ≡ Ok c → dues.live k ≡ Ok tt → (link : Link) → dues.single_slot schema c slot ≡ Ok link → link.to ≡ to → Tries n (n + 1) (ops.One slot 0 ∷ []) f k (kinds.Ref to)
  one_tries slot c n to f k room of live link single leads at rest last out found none low high lt target behind =
      subst (λ t. WalksHere (n + 1) rest (Some (with_stack (kinds.Ref t ∷ f.stack) f)) out → WalksHere n (ops.One slot at ∷ rest) last out) leads
      (λ then. (
        Some (with_stack (kinds.Ref link.to ∷ f.stack) f),
        one_visit schema sf part code slot n at c link k f last (tests_here n at k (kinds.Ref link.to) f last found room (none (n + 1) (omega arith) (omega arith)) (omega (arith, low)) high lt target) of live single,
        then,
      ))
      behind

  module _ (small : AreSmall schema sf part code) where
    -- what is loaded, tested and named
    named_guides : (name : List ℕ) (kind held : Kind) (s a t u : Buffer) (es : List Op) (exits : Exits) (adds : Adds s a) (puts : Puts a t es exits) (declared : declare name kind t ≡ Ok u) (clean : Clean u) → Lays schema sf part code STACK_LIMIT s a (Some held) → (Tidy schema sf t → IsGood schema sf kind)
        → ((f : Frame) (k : Kind) → length f.stack < STACK_LIMIT → IsUnder schema sf k held → (gives : Kind) × IsUnder schema sf gives kind × Tries (length a.ops) (length t.ops) es f k gives) → Guides schema sf part code s u exits (named_guard name kind s a t u es exits adds puts declared clean)
    unfolding named_guard
    named_guides name kind held s a t u es exits adds puts declared clean m good tries =
        let d = declare_is name kind t u declared in
        let scope_t : t.scope ≡ s.scope = ap (λ (x : Buffer). x.scope) puts.same ∙ ap (λ (x : Buffer). x.scope) m.same in
        let locals_t : t.locals ≡ s.locals = ap (λ (x : Buffer). x.locals) puts.same ∙ ap (λ (x : Buffer). x.locals) m.same in
        let locals_u : u.locals ≡ max t.locals (d.0 + 1) = ap (λ (x : Buffer). x.locals) d.2 in
        let moves = declared_moves schema sf t u name d.0 kind d.1 good (ap (λ (x : Buffer). x.scope.names) d.2) (ap (λ (x : Buffer). x.scope.kinds) d.2) locals_u in
        let kind_is : m.kind ≡ held = (let e = m.made_is in cc) in
        record {
          grown = m.grown;
          scope = scope_t;
          locals = locals_t;
          moves = moves;
          leads = λ sound few few_u f has.
              let known = known_there schema sf part code s f sound few has in
              let sequences = knows_sequences schema sf f.locals s.scope.kinds has.2 in
              let room = all_room schema sf part code small f has.0 in
              let some = m.some in
              let x = m.leads f (has.1, known, sequences) room in
              let g = tries f x.0 (omega (arith, room, some)) (subst (IsUnder schema sf x.0) kind_is x.1) in
              let own = with_local d.0 g.0 f in
              let high = le-max_right t.locals (d.0 + 1) in
              let count = has.1 in
              let within : d.0 < length f.locals = omega (arith, high, few_u, locals_u, count) in
              let after =
              declared_known schema sf part code small name kind t d.0 f.locals g.0 d.1 within g.1 (subst (λ (c : Scope). AreKnown schema sf f.locals c.kinds c.names) (sym scope_t) known) in
              let tidy = moves.tidy ((moves_same schema sf s t scope_t locals_t).tidy sound.tidy) in (
                own,
                (
                  has.0,
                  length-set f.locals d.0 g.0 ∙ has.1,
                  knows_from schema sf own.locals u.scope.kinds u.scope.names tidy.named
                      (subst (λ (c : Scope). HasSequences schema sf own.locals c.kinds) (sym (ap (λ (x : Buffer). x.scope) d.2))
                      (declared_sequences schema sf part code small kind t d.0 f.locals g.0 d.1 (under_value schema sf g.0 kind g.1) (subst (λ (c : Scope). HasSequences schema sf f.locals c.kinds) (sym scope_t) sequences)))
                      (subst (λ (c : Scope). AreKnown schema sf own.locals c.kinds c.names) (sym (ap (λ (x : Buffer). x.scope) d.2)) after),
                ),
                λ at rest listed next out is found none low high lt on target behind.
                    let found_a = count_of s a m.grown in
                    let tested : length t.ops ≡ length a.ops + length es = ap length puts.ops ∙ length-append a.ops es in
                    let put : length u.ops ≡ length t.ops + 1 = ap (λ (x : Buffer). length x.ops) d.2 ∙ length-append t.ops (ops.Store d.0 ∷ []) in
                    let w = with_stack (g.0 ∷ f.stack) f in
                    let undeclared : Here (length t.ops) ≡ None = none (length t.ops) (omega (arith, found_a, tested)) (omega (arith, put)) in
                    let store : WalksHere (length t.ops) (ops.Store d.0 ∷ rest) (Some w) out = (
                      Some own,
                      straight_visit schema part code (length t.ops) (ops.Store d.0) w own (Some w) (undeclared_on schema part code w (Here (length t.ops)) undeclared).1
                          (store_gives schema sf part code small d.0 g.0 f (omega (arith, within, count))) (omega (arith, put, lt)) (subst (λ p. on_due schema (Some own) (Here p) ≡ Ok tt) put on),
                      subst (λ p. WalksHere p rest (Some own) out) put behind,
                    ) in
                    subst (λ l. WalksHere (length s.ops) (m.grown.ops ++ (all_aimed es at ++ l)) next out) (sym is)
                    (leads_then schema part code m.grown.ops (all_aimed es at ++ (ops.Store d.0 ∷ rest)) (length s.ops) f (with_stack (x.0 ∷ f.stack) f) next out found (λ i first then. none i first (omega (arith, then, found_a, tested, put))) (omega (arith, found_a, tested, put, lt)) x.2
                    (λ last found_here.
                    subst (λ p. WalksHere p (all_aimed es at ++ (ops.Store d.0 ∷ rest)) last out) found_a
                    (g.2 at (ops.Store d.0 ∷ rest) last out (subst (λ p. frame_at (Here p) last ≡ Ok (with_stack (x.0 ∷ f.stack) f)) (sym found_a) found_here) (λ p first then. none p (omega (arith, first, found_a)) (omega (arith, then, put))) low high (omega (arith, put, lt)) target store))),
              );
        }

    ref_good : (t : Buffer) (c : ℕ) → c < length schema.classes → Tidy schema sf t → IsGood schema sf (kinds.Ref c)
    ref_good t c there tidy = (known there, (c, refl, descends_same schema sf c))
      where
        known : c < length schema.classes → known_kind schema (kinds.Ref c) ≡ Ok tt
        known lt = rw (lt-ltb c (length schema.classes) lt) refl

    -- the class of what is tested
    own_class : (live : Bool) (o : Option ℕ) (class : ℕ) → is_test_of schema live o class ≡ true → (c : ℕ) × (o ≡ Some c)
    own_class live None class h = absurd cc
    own_class live (Some c) class h = (c, refl)

    tested_tries : (held : Kind) (class : ℕ) (a t : Buffer) (exits : Exits) → (c : ℕ) → class_of held ≡ Some c → class < length schema.classes → (is : Tested held class a t exits) → (f : Frame) (k : Kind) → length f.stack < STACK_LIMIT → IsUnder schema sf k held
        → (gives : Kind) × IsUnder schema sf gives (kinds.Ref class) × Tries (length a.ops) (length t.ops) (exits_of held class a t exits is) f k gives
    tested_tries held class a t exits c of there (inl is) f k room under =
        let unit = under_class schema sf k held c under of in (
          kinds.Ref class,
          (class, refl, descends_same schema sf class),
          subst (λ n. Tries (length a.ops) n (ops.As class 0 ∷ []) f k (kinds.Ref class)) (sym (count_op a t (ops.As class 0) is.put_is)) (as_tries class unit.0 (length a.ops) f k room unit.1 (unit.3 is.live) there),
        )
    tested_tries held class a t exits c of there (inr (inl is)) f k room under =
        let unit = under_class schema sf k held c under of in
        let same : c ≡ class = eqb-true c class (ap (λ o. is_class o class) (sym of) ∙ is.same) in (
          kinds.Ref unit.0,
          (unit.0, refl, subst (λ d. descends schema unit.0 d ≡ true) same unit.2),
          subst (λ n. Tries (length a.ops) n (ops.Alive 0 ∷ []) f k (kinds.Ref unit.0)) (sym (count_op a t (ops.Alive 0) is.put_is)) (alive_tries unit.0 (length a.ops) f k room unit.1),
        )
    tested_tries held class a t exits c of there (inr (inr is)) f k room under =
        let unit = under_class schema sf k held c under of in
        let first = with_op (ops.Alive 0) a in
        let count : length t.ops ≡ length a.ops + 1 + 1 = count_op first t (ops.As class 0) is.put_is ∙ ap (λ n. n + 1) (count_op a first (ops.Alive 0) refl) in (
          kinds.Ref class,
          (class, refl, descends_same schema sf class),
          subst (λ n. Tries (length a.ops) n (ops.Alive 0 ∷ ops.As class 0 ∷ []) f k (kinds.Ref class)) (sym count) (both_try class unit.0 (length a.ops) f k room unit.1 there),
        )

    pub head_guides : (binding : Binding) (s u : Buffer) (exits : Exits) → (laid : HeadLaid schema binding s u exits) → (clean : Clean u) → Guides schema sf part code s u exits (head_guard schema binding s u exits laid clean)
    unfolding head_guard named_guard
    head_guides (bindings.As name unit class) s u exits laid clean =
        let free = (head_guard schema (bindings.As name unit class) s u exits laid clean).clean_behind in
        let loaded = variable_ok unit STACK_LIMIT s laid.behind (Some laid.held) laid.code_is free in
        let some = variable_room unit STACK_LIMIT s laid.behind (Some laid.held) laid.code_is free in
        let m = name_lays schema sf part code unit STACK_LIMIT s laid.behind (Some laid.held) some free loaded in
        let there = class_there schema class laid.of laid.named in
        let own = own_class (is_live laid.held) (class_of laid.held) laid.of laid.may in
        named_guides name (kinds.Ref laid.of) laid.held s laid.behind laid.test u (exits_of laid.held laid.of laid.behind laid.test exits laid.test_is) exits
        (keeps_ok behind s (variable_code unit STACK_LIMIT s) (Some laid.held, laid.behind) laid.code_is (variable_keeps unit STACK_LIMIT s)).adds (tested_puts laid.held laid.of laid.behind laid.test exits laid.test_is) laid.declared clean m (ref_good laid.test laid.of there)
        (λ f k room under. tested_tries laid.held laid.of laid.behind laid.test exits own.0 own.1 there laid.test_is f k room under)
    head_guides (bindings.Linked name unit slot) s u exits laid clean =
        let free = (head_guard schema (bindings.Linked name unit slot) s u exits laid clean).clean_behind in
        let first = unit_lays schema sf part code unit STACK_LIMIT s laid.behind (Some laid.class) laid.code_is free in
        let there = partner_class schema sf laid.class slot laid.at laid.slot_is in
        let class : first.of ≡ laid.class = (let e = first.class_is in cc) in
        named_guides name (kinds.Ref laid.at.1) first.kind s laid.behind laid.test u (ops.One laid.at.0 0 ∷ []) exits
        (keeps_ok behind s (unit_code unit STACK_LIMIT s) (Some laid.class, laid.behind) laid.code_is (unit_keeps unit STACK_LIMIT s)).adds (puts_one (ops.One laid.at.0 0) laid.behind laid.test exits (refl, tt) laid.put_is laid.exits_are) laid.declared clean first.lays
        (ref_good laid.test laid.at.1 there)
        (λ f k room under.
        let unit = under_class schema sf k first.kind first.of under first.kind_of in
        let single = single_below schema sf laid.class slot unit.0 (subst (λ d. descends schema unit.0 d ≡ true) class unit.2) laid.at laid.slot_is in (
          kinds.Ref laid.at.1,
          (laid.at.1, refl, descends_same schema sf laid.at.1),
          subst (λ n. Tries (length laid.behind.ops) n (ops.One laid.at.0 0 ∷ []) f k (kinds.Ref laid.at.1)) (sym (count_op laid.behind laid.test (ops.One laid.at.0 0) laid.put_is))
              (one_tries laid.at.0 unit.0 (length laid.behind.ops) laid.at.1 f k room unit.1 (unit.3 first.live) single.0 single.1 single.2),
        ))
