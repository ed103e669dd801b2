-- The units that a unit is linked to, and how many are in a sequence.
use Rattle.std.proofs.Common.{◌≡◌, ◌⊎◌, inl, inr, ℕ, Bool, true, false, cond, List, ◌∷◌, length, Option, Some, None, Result, Ok, Err, refl, subst, sym, ap, ◌∙◌}
use Rattle.std.specs.Prelude.{pos, nat_le}
use Rattle.bb_basis.specs.Results.{◌>>=◌, ok_or}
use Rattle.bb_basis.proofs.ResultLemmas.{bind_ok}
use Rattle.bb_schema_classes.specs.declared.kind.Link.{Link}
use Rattle.bb_code.specs.Code.{Code}
use Rattle.bb_code.specs.declared.parts.TheConstants.{STACK_LIMIT}
use Rattle.bb_code.specs.declared.frame.Kind.TheVariants as kinds
use Rattle.bb_code.specs.declared.op.Op.TheVariants as ops
use Rattle.bb_schema.specs.Schema.{Schema, slot_named}
use Rattle.bb_schema.specs.Fits as schemas
use Rattle.bb_links.specs.Links.{ends}
use Rattle.bb_lang.specs.Variable.{Variable}
use Rattle.bb_compile_scope.specs.declared.fault.TextFlaw.{TextFlaw}
use Rattle.bb_compile_scope.specs.Scope.{name_of}
use Rattle.bb_compile_scope.specs.Slots.{link_slot}
use Rattle.bb_theorem_accepted.specs.Buffer.{Buffer}
use Rattle.bb_theorem_accepted.specs.Buffers.{noted, put}
use Rattle.bb_theorem_accepted.specs.Operations.{Made}
use Rattle.bb_theorem_accepted.specs.Atoms.{unit_code}
use Rattle.bb_compile.specs.Queries.{linked_by, linked_from, links_code}
use Rattle.bb_board.specs.Board.{Board}
use Rattle.bb_board.specs.May.{has_link}
use Rattle.bb_units.specs.Units as units
use Rattle.bb_board.specs.World.{class_at}
use Rattle.bb_board.proofs.Laws.{class_there}
use Rattle.bb_machine.specs.Changing.{State}
use Rattle.bb_machine.specs.declared.halt.Halt.{Halt}
use Rattle.bb_machine.specs.Machine.{Machine, with_stack, after_found, pop, push, room}
use Rattle.bb_machine.specs.Reading.{pop_live, push_found, any_link, links, size}
use Rattle.bb_machine.specs.Sequence.{whole}
use Rattle.bb_machine.specs.Step.{step, keeps}
use Rattle.bb_machine.specs.declared.outcome.Stuck.{Stuck}
use Rattle.bb_machine.specs.declared.outcome.Stuck.TheVariants as reasons
use Rattle.bb_machine.specs.Value.{stuck, sequence_of}
use Rattle.bb_machine.specs.declared.value.Value.{Value}
use Rattle.bb_machine.specs.declared.value.Value.TheVariants.{Int, Unit as One, Seq}
use Rattle.bb_theorem_accepted.proofs.Laws.{Clean, Has, with_op, never_noted, put_ok, grown_op, has_before, pair_ok, clean_before, unit_ok}
use Rattle.bb_theorem_meaning.specs.Meaning.{Meaning, Name, meaningless, nothing, named}
use Rattle.bb_theorem_meaning.specs.Values.{unit}
use Rattle.bb_theorem_meaning.specs.Units as texts
use Rattle.bb_theorem_meaning.proofs.ComeLemmas.{Leaves, done_on, Comes}
use Rattle.bb_theorem_meaning.proofs.MeansLemmas.{OneOp, OneOpOn, Means, means_on, one_turns, one_turns_on, means_as}
use Rattle.bb_theorem_meaning.proofs.OpLemmas.{Pushed, Like, push_leaves}
use Rattle.bb_theorem_meaning.proofs.SlotLemmas.{slot_same, link_among}
use Rattle.bb_theorem_meaning.proofs.AtomLemmas.{Good, live_cases, link_slot_ok, name_means}

-- a list of units as a value
abbrev pub as_sequence : List ℕ → Meaning Value
as_sequence us = Ok (Seq (whole us))

-- ---- a sequence that was found is pushed

found_by : (us : List ℕ) (n : ℕ) (base : State) (m : Machine) (b : Board) (no_room : Bool) → Like n base m b
    → Leaves (Pushed n base) (as_sequence us)
    (done_on b (keeps b (((let r : Result (Unit {0}) Halt = cond no_room (stuck reasons.Outside) (Ok tt) in r) >>= λ _. Ok (with_stack (Seq (whole us) ∷ m.stack) m)) >>= λ next. Ok (after_found (length us) next))))
found_by us n base m b true like = tt
found_by us n base m b false like = (Seq (whole us), refl, record { place = like.place; locals = like.locals; stack = ap (λ vs. Seq (whole us) ∷ vs) like.stack; board = like.board })

pub found_leaves : (us : List ℕ) (n : ℕ) (base : State) (m : Machine) (b : Board) → Like n base m b → Leaves (Pushed n base) (as_sequence us) (done_on b (keeps b (push_found us m)))
unfolding push_found push room
found_leaves us n base m b like = found_by us n base m b (nat_le STACK_LIMIT (length m.stack)) like

-- ---- links

abbrev linked : (name : List ℕ) → Board → Value → Meaning Value
linked name b v = (unit v >>= texts.live b) >>= λ n. texts.slot_of b n name >>= λ slot. as_sequence (ends b.world.links n slot)

links_on : (code : Code) (b : Board) (slot : ℕ) (m : Machine) → step code (ops.Links slot) (m, b) ≡ keeps b (pop_live b m >>= λ u. any_link b u.0 slot >>= λ _. push_found (ends b.world.links u.0 slot) u.1)
unfolding step links
links_on code b slot m = refl

module _ (schema : Schema) (sf : schemas.Fits schema) (code : Code) where
  -- the slot that the name means for a unit whose class has the link
  pub linked_slot : (c slot : ℕ) (name : List ℕ) → slot_named schema c name ≡ Some slot → (b : Board) → Good schema b → (k : ℕ) → units.is_live b.world.units k ≡ true → has_link b.schema (class_at b.world k) slot ≡ true → texts.slot_of b k name ≡ Ok slot
  linked_slot c slot name is b good k live has =
      let own : has_link schema (class_at b.world k) slot ≡ true = ap (λ z. has_link z (class_at b.world k) slot) (sym good.schema) ∙ has in
      let among = link_among schema b.world sf good.fits k slot live own in
      let same = slot_same schema c (class_at b.world k) slot name sf (class_there schema b.world k good.fits live).1 is among in
      ap (λ s. ok_or (slot_named s (class_at b.world k) name) meaningless) good.schema ∙ ap (λ o. ok_or o meaningless) same

  links_do : (c slot : ℕ) (name : List ℕ) → slot_named schema c name ≡ Some slot → OneOpOn (Good schema) code (ops.Links slot) (linked name)
  unfolding any_link
  links_do c slot name is n base m b v rest good stack like = subst (λ r. Leaves (Pushed n base) (linked name b v) (done_on b r)) (sym (links_on code b slot m)) (by_unit (live_cases m b v rest stack))
    where
      by_link : (k : ℕ) (has : Bool) → has_link b.schema (class_at b.world k) slot ≡ has → units.is_live b.world.units k ≡ true
          → Leaves (Pushed n base) (linked name b (One k)) (done_on b (keeps b ((let r : Result (Unit {0}) Halt = cond has (Ok tt) (stuck reasons.Slot) in r) >>= λ _. push_found (ends b.world.links k slot) (with_stack rest m))))
      by_link k false has live = tt
      by_link k true has live =
          let means : linked name b (One k) ≡ as_sequence (ends b.world.links k slot) = rw (live, linked_slot c slot name is b good k live has) refl in
          subst (λ r. Leaves (Pushed n base) r (done_on b (keeps b (push_found (ends b.world.links k slot) (with_stack rest m))))) (sym means) (found_leaves (ends b.world.links k slot) n base (with_stack rest m) b like)

      by_unit : ((k : ℕ) × (v ≡ One k) × (units.is_live b.world.units k ≡ true) × (pop_live b m ≡ Ok (k, with_stack rest m))) ⊎ ((reason : Stuck) × (pop_live b m ≡ stuck reason))
          → Leaves (Pushed n base) (linked name b v) (done_on b (keeps b (pop_live b m >>= λ u. any_link b u.0 slot >>= λ _. push_found (ends b.world.links u.0 slot) u.1)))
      by_unit (inl live) =
          subst (λ r. Leaves (Pushed n base) (linked name b v) (done_on b (keeps b (r >>= λ u. any_link b u.0 slot >>= λ _. push_found (ends b.world.links u.0 slot) u.1)))) (sym live.3)
          (subst (λ w. Leaves (Pushed n base) (linked name b w) (done_on b (keeps b (any_link b live.0 slot >>= λ _. push_found (ends b.world.links live.0 slot) (with_stack rest m))))) (sym live.1)
          (by_link live.0 (has_link b.schema (class_at b.world live.0) slot) refl live.2))
      by_unit (inr dead) =
          subst (λ r. Leaves (Pushed n base) (linked name b v) (done_on b (keeps b (r >>= λ u. any_link b u.0 slot >>= λ _. push_found (ends b.world.links u.0 slot) u.1)))) (sym dead.1) tt

  module _ (start : State) (good : (n : ℕ) (st : State) → Comes code start n (Ok st) → Good schema st.1) where
    abbrev pub MeansUnits : Buffer → Buffer → (Board → List Name → Meaning (List ℕ)) → Type 0
    MeansUnits s t us = Means code start s t (Some kinds.Int) (λ b names. us b names >>= as_sequence)

    pub links_mean : (v : Variable) (name : List ℕ) (room : ℕ) (s t : Buffer) (class : Option ℕ) → links_code schema v name room s ≡ Ok (class, t) → Clean t → Has code t → MeansUnits s t (λ b names. texts.linked_units b names v name)
    unfolding links_code texts.linked_units
    links_mean v name room s t class h clean has =
        let one = bind_ok (unit_code v room s) (λ p. linked_from schema name p.0 p.1) (class, t) h in by_class one.0.0 one.0.1 one.1 one.2
      where
        by_slot : (class' : Option ℕ) (c : ℕ) (u : Buffer) (r : Result (ℕ × Link) TextFlaw) → unit_code v room s ≡ Ok (class', u) → link_slot schema c name ≡ r → linked_by r u ≡ Ok (class, t) → MeansUnits s t (λ b names. texts.linked_units b names v name)
        by_slot class' c u (Err flaw) code_is is h = never_noted flaw u (ap (λ (x : Buffer). x.flaw) (pair_ok None class (noted flaw u) t h).1 ∙ clean)
        by_slot class' c u (Ok p) code_is is h =
            let one = bind_ok (put (ops.Links p.0) u) (λ x. Ok (Some p.1.to, x)) (class, t) h in
            let same = pair_ok (Some p.1.to) class one.0 t one.2 in
            let put : t ≡ with_op (ops.Links p.0) u = sym same.1 ∙ put_ok (ops.Links p.0) u one.0 one.1 in
            let free = clean_before (ops.Links p.0) u t put clean in
            let unit_is = unit_ok v room s u class' code_is free in
            let slot = link_slot_ok schema c name p is in
            let first = name_means schema sf code start good v s u (Some unit_is.0) free (has_before code u t (grown_op (ops.Links p.0) u t put) has) unit_is.2 in
            let then = one_turns_on code start (Good schema) u t (ops.Links p.0) (Some kinds.Int) (linked name) good free put refl has (kinds.Int, refl) refl (links_do c p.0 name slot) in
            means_as code start s t (Some kinds.Int) (Some kinds.Int) (λ b names. named (name_of v) names >>= linked name b) (λ b names. texts.linked_units b names v name >>= as_sequence) refl
            (λ b names. by_assoc b (named (name_of v) names))
            (means_on code start s u t (Some unit_is.0) (Some kinds.Int) (λ b names. named (name_of v) names) (λ b names v. linked name b v) first then)
          where
            by_slots : (b : Board) (n : ℕ) (r : Meaning ℕ) → (r >>= λ slot. as_sequence (ends b.world.links n slot)) ≡ ((let q : Meaning (List ℕ) = r >>= λ slot. Ok (ends b.world.links n slot) in q) >>= as_sequence)
            by_slots b n (Ok slot) = refl
            by_slots b n (Err e) = refl

            by_units : (b : Board) (r : Meaning ℕ) → (r >>= λ n. texts.slot_of b n name >>= λ slot. as_sequence (ends b.world.links n slot)) ≡ ((let q : Meaning (List ℕ) = r >>= λ n. texts.slot_of b n name >>= λ slot. Ok (ends b.world.links n slot) in q) >>= as_sequence)
            by_units b (Ok n) = by_slots b n (texts.slot_of b n name)
            by_units b (Err e) = refl

            by_assoc : (b : Board) (r : Meaning Value) → (r >>= linked name b) ≡ ((let q : Meaning (List ℕ) = ((r >>= unit) >>= texts.live b) >>= λ n. texts.slot_of b n name >>= λ slot. Ok (ends b.world.links n slot) in q) >>= as_sequence)
            by_assoc b (Ok w) = by_units b (unit w >>= texts.live b)
            by_assoc b (Err e) = refl

        by_class : (class' : Option ℕ) (u : Buffer) → unit_code v room s ≡ Ok (class', u) → linked_from schema name class' u ≡ Ok (class, t) → MeansUnits s t (λ b names. texts.linked_units b names v name)
        by_class None u code_is h =
            let same = pair_ok None class u t h in
            let unit_is = unit_ok v room s u None code_is (ap (λ (x : Buffer). x.flaw) same.1 ∙ clean) in
            absurd (let e = unit_is.3 in cc)
        by_class (Some c) u code_is h = by_slot (Some c) c u (link_slot schema c name) code_is refl h

    -- ---- how many

    abbrev pub counted : Value → Meaning Value
    counted (Seq q) = Ok (Int (pos q.found))
    counted _ = nothing

    size_on : (m : Machine) (b : Board) (v : Value) (rest : List Value) → m.stack ≡ v ∷ rest → step code ops.Size (m, b) ≡ keeps b (sequence_of v >>= λ q. push (Int (pos q.found)) (with_stack rest m))
    unfolding step size pop
    size_on m b v rest is = rw is refl

    size_does : OneOp code ops.Size (λ b v. counted v)
    size_does n base m b v rest stack like = subst (λ r. Leaves (Pushed n base) (counted v) (done_on b r)) (sym (size_on m b v rest stack)) (by_value v)
      where
        by_value : (w : Value) → Leaves (Pushed n base) (counted w) (done_on b (keeps b (sequence_of w >>= λ q. push (Int (pos q.found)) (with_stack rest m))))
        by_value (Seq q) = push_leaves n base (with_stack rest m) b like (Int (pos q.found))
        by_value _ = tt

    -- how many units are in a sequence
    pub size_means : (s t u : Buffer) (made : Made) (us : Board → List Name → Meaning (List ℕ)) → MeansUnits s t us → u ≡ with_op ops.Size t → Clean u → Has code u → made ≡ Some kinds.Int
        → Means code start s u made (λ b names. us b names >>= λ xs. Ok (Int (pos (length xs))))
    size_means s t u made us first is clean has kind =
        means_as code start s u (Some kinds.Int) made (λ b names. (us b names >>= as_sequence) >>= counted) (λ b names. us b names >>= λ xs. Ok (Int (pos (length xs)))) (sym kind) (λ b names. by_units (us b names))
        (means_on code start s t u (Some kinds.Int) (Some kinds.Int) (λ b names. us b names >>= as_sequence) (λ b names v. counted v) first
        (one_turns code start t u ops.Size (Some kinds.Int) (λ b v. counted v) (clean_before ops.Size t u is clean) is refl has (kinds.Int, refl) refl size_does))
      where
        by_units : (r : Meaning (List ℕ)) → ((r >>= as_sequence) >>= counted) ≡ (r >>= λ xs. Ok (Int (pos (length xs))))
        by_units (Ok xs) = refl
        by_units (Err e) = refl
