-- Expressions without parts mean what their code does.
use Rattle.std.proofs.Common.{◌≡◌, ◌⊎◌, inl, inr, ℕ, ◌+◌, ◌<◌, Bool, true, false, List, [], ◌∷◌, ◌++◌, length, Option, Some, None, Result, Ok, Err, refl, subst, sym, ap, ◌∙◌}
use Rattle.std.specs.Prelude.{slice_get, position, get_or, option_map, nat_le}
use Rattle.std.specs.Str.{bytes_eq}
use Rattle.std.proofs.lemmas.List.{append-nil}
use Rattle.std.proofs.lemmas.List.Quantifiers.{position-Some}
use Rattle.std.proofs.lemmas.Option.{slice_get-get_or}
use Rattle.std.proofs.lemmas.Slice.Eq.{bytes_eq-Decides}
use Rattle.bb_basis.specs.Results.{◌>>=◌, ok_or}
use Rattle.bb_basis.proofs.ResultLemmas.{bind_ok, guard_ok, same_ok, ok_or_ok}
use Rattle.bb_schema_classes.specs.declared.value.Value.{Value as SlotValue}
use Rattle.bb_schema_classes.specs.declared.kind.Kind.{Kind as SlotKind}
use Rattle.bb_schema_classes.specs.declared.kind.Kind.TheVariants as held
use Rattle.bb_schema_classes.specs.declared.kind.Link.{Link}
use Rattle.bb_code.specs.Code.{Code}
use Rattle.bb_code.specs.declared.parts.TheConstants.{TEXT_BYTES_LIMIT, TEXT_COUNT_LIMIT}
use Rattle.bb_code.specs.declared.frame.Kind.{Kind}
use Rattle.bb_code.specs.declared.frame.Kind.TheVariants as kinds
use Rattle.bb_code.specs.declared.op.Op.{Op}
use Rattle.bb_code.specs.declared.op.Op.TheVariants as ops
use Rattle.bb_schema.specs.Schema.{Schema, slot_named, kind_of_slot, name_of_label, label_set_named, label_named}
use Rattle.bb_schema.specs.Fits as schemas
use Rattle.bb_lang.specs.Atom.{Atom}
use Rattle.bb_lang.specs.Atom.TheVariants as atoms
use Rattle.bb_lang.specs.Variable.{Variable}
use Rattle.bb_compile_scope.specs.declared.fault.CompileFault.{CompileFault}
use Rattle.bb_compile_scope.specs.declared.fault.CompileFault.TheVariants.{At}
use Rattle.bb_compile_scope.specs.declared.fault.TextFlaw.{TextFlaw}
use Rattle.bb_compile_scope.specs.declared.fault.TextFlaw.TheVariants.{Unknown, Limit}
use Rattle.bb_compile_scope.specs.declared.scope.Scope.{Scope}
use Rattle.bb_compile_scope.specs.LocalKinds.{is_free, kind_at}
use Rattle.bb_compile_scope.specs.Scope.{name_of}
use Rattle.bb_compile_scope.specs.Slots.{with_kind, slot_of, value_in, link_in, value_slot, link_slot}
use Rattle.bb_theorem_accepted.specs.Buffer.{Buffer}
use Rattle.bb_theorem_accepted.specs.Buffers.{noted, put, text_at, text_index}
use Rattle.bb_theorem_accepted.specs.Atoms.{pushed, loaded, unit_code, gotten, got_from, slot_code, text_noted, text_code, label_of, label_in, label_code, atom_code}
use Rattle.bb_board.specs.Board.{Board}
use Rattle.bb_board.specs.Fits.{Fits}
use Rattle.bb_units.specs.Units as units
use Rattle.bb_board.specs.World.{class_at}
use Rattle.bb_machine.specs.Changing.{State}
use Rattle.bb_machine.specs.declared.halt.Halt.TheVariants as halts
use Rattle.bb_machine.specs.Machine.{Machine, with_stack, go_to, there, local_at, pop, push}
use Rattle.bb_machine.specs.Reading.{push_text, push_label, load, live, pop_unit, pop_live, get}
use Rattle.bb_machine.specs.Step.{step, keeps}
use Rattle.bb_machine.specs.declared.outcome.Stuck.{Stuck}
use Rattle.bb_machine.specs.declared.outcome.Stuck.TheVariants as reasons
use Rattle.bb_machine.specs.Value.{copy_of, value_from, stuck}
use Rattle.bb_machine.specs.declared.value.Value.{Value}
use Rattle.bb_machine.specs.declared.value.Value.TheVariants.{Int, Text, Bool as Truth, Label, Interval, Unit as One, Seq}
use Rattle.bb_theorem_accepted.proofs.Laws.{Clean, Grown, Has, is_open, with_op, passed, never_noted, put_ok, grown_none, grown_on, grown_op, has_before, front, seam, pair_ok, clean_before, IsPut, pushed_ok, IsLoaded, variable_ok, unit_ok}
use Rattle.bb_theorem_meaning.specs.Meaning.{Meaning, meaningless, named}
use Rattle.bb_theorem_meaning.specs.Values.{unit}
use Rattle.bb_theorem_meaning.specs.Units as texts
use Rattle.bb_theorem_meaning.specs.Expressions.{label, atom_value}
use Rattle.bb_theorem_meaning.proofs.ComeLemmas.{Leaves, done_on, Comes}
use Rattle.bb_theorem_meaning.proofs.MeansLemmas.{IsKind, OneOpOn, Means, means_on, one_turns_on, push_means, means_as}
use Rattle.bb_theorem_meaning.proofs.NameLemmas.{AreHeld, AreTaken, value_named, name_taken}
use Rattle.bb_theorem_meaning.proofs.OpLemmas.{Pushed, Like, push_leaves}
use Rattle.bb_theorem_meaning.proofs.SlotLemmas.{slot_same, value_among}
use Rattle.bb_board.proofs.Laws.{class_there}

-- ---- names

-- a copy of what a local holds
copy_leaves : (n : ℕ) (base : State) (m : Machine) (b : Board) (v : Value) → Like n base m b → Leaves (Pushed n base) (Ok v) (done_on b (keeps b (copy_of v >>= λ u. push u m)))
copy_leaves n base m b (Int x) like = push_leaves n base m b like (Int x)
copy_leaves n base m b (Text x) like = push_leaves n base m b like (Text x)
copy_leaves n base m b (Truth x) like = push_leaves n base m b like (Truth x)
copy_leaves n base m b (Label x y) like = push_leaves n base m b like (Label x y)
copy_leaves n base m b (Interval x y) like = push_leaves n base m b like (Interval x y)
copy_leaves n base m b (One x) like = push_leaves n base m b like (One x)
copy_leaves n base m b (Seq x) like = tt

load_on : (code : Code) (l : ℕ) (m : Machine) (b : Board) (v : Value) → slice_get m.locals l ≡ Some (Some v) → step code (ops.Load l) (m, b) ≡ keeps b (copy_of v >>= λ u. push u m)
unfolding step load local_at
load_on code l m b v is = rw is refl

-- ---- live units

-- the newest entry is a live unit, or an op that wants one is stuck
pub live_cases : (m : Machine) (b : Board) (v : Value) (rest : List Value) → m.stack ≡ v ∷ rest
    → ((n : ℕ) × (v ≡ One n) × (units.is_live b.world.units n ≡ true) × (pop_live b m ≡ Ok (n, with_stack rest m))) ⊎ ((reason : Stuck) × (pop_live b m ≡ stuck reason))
unfolding pop_live pop_unit pop live
live_cases m b (One n) rest is = by_live (units.is_live b.world.units n) refl
  where
    by_live : (alive : Bool) → units.is_live b.world.units n ≡ alive
        → ((k : ℕ) × (One n ≡ One k) × (units.is_live b.world.units k ≡ true) × (pop_live b m ≡ Ok (k, with_stack rest m))) ⊎ ((reason : Stuck) × (pop_live b m ≡ stuck reason))
    by_live true h = inl (n, refl, h, rw (is, h) refl)
    by_live false h = inr (reasons.Deleted, rw (is, h) refl)
live_cases m b (Int x) rest is = inr (reasons.Kind, rw is refl)
live_cases m b (Text x) rest is = inr (reasons.Kind, rw is refl)
live_cases m b (Truth x) rest is = inr (reasons.Kind, rw is refl)
live_cases m b (Label x y) rest is = inr (reasons.Kind, rw is refl)
live_cases m b (Interval x y) rest is = inr (reasons.Kind, rw is refl)
live_cases m b (Seq x) rest is = inr (reasons.Kind, rw is refl)

-- ---- slots

slot_of_ok : (s : Schema) (c : ℕ) (name : List ℕ) (p : ℕ × SlotKind) → slot_of s c name ≡ Ok p → slot_named s c name ≡ Some p.0
unfolding slot_of
slot_of_ok s c name p h =
    let one = bind_ok (ok_or (slot_named s c name) Unknown) (λ slot. ok_or (with_kind s slot) Unknown) p h in
    let named = ok_or_ok Unknown (slot_named s c name) one.0 one.1 in
    named ∙ ap (λ n. Some n) (by_kind one.0 (kind_of_slot s one.0) (ok_or_ok Unknown (with_kind s one.0) p one.2))
  where
    by_kind : (slot : ℕ) (o : Option SlotKind) → option_map (λ kind. (slot, kind)) o ≡ Some p → slot ≡ p.0
    by_kind slot None h = absurd cc
    by_kind slot (Some k) h = let e : (slot, k) ≡ p = cc in ap (λ (q : ℕ × SlotKind). q.0) e

pub value_slot_ok : (s : Schema) (c : ℕ) (name : List ℕ) (p : ℕ × Kind) → value_slot s c name ≡ Ok p → (slot_named s c name ≡ Some p.0) × (is_free p.1 ≡ false)
unfolding value_slot
value_slot_ok s c name p h =
    let one = bind_ok (slot_of s c name) (λ q. value_in q.0 q.1) p h in
    let kind = by_kind one.0.0 one.0.1 one.2 in
    (slot_of_ok s c name one.0 one.1 ∙ ap (λ n. Some n) kind.0, kind.1)
  where
    by_pair : (slot : ℕ) (k : Kind) → is_free k ≡ false → (let r : Result (ℕ × Kind) TextFlaw = Ok (slot, k) in r) ≡ Ok p → (slot ≡ p.0) × (is_free p.1 ≡ false)
    by_pair slot k known h =
        let e = same_ok (slot, k) p h in
        (ap (λ (q : ℕ × Kind). q.0) e, subst (λ (q : ℕ × Kind). is_free q.1 ≡ false) e known)

    by_kind : (slot : ℕ) (k : SlotKind) → value_in slot k ≡ Ok p → (slot ≡ p.0) × (is_free p.1 ≡ false)
    by_kind slot held.Int h = by_pair slot kinds.Int refl h
    by_kind slot held.Text h = by_pair slot kinds.Text refl h
    by_kind slot held.Bool h = by_pair slot kinds.Bool refl h
    by_kind slot (held.Label set) h = by_pair slot (kinds.Label set) refl h
    by_kind slot held.Interval h = by_pair slot kinds.Interval refl h
    by_kind slot (held.Link link) h = absurd cc

pub link_slot_ok : (s : Schema) (c : ℕ) (name : List ℕ) (p : ℕ × Link) → link_slot s c name ≡ Ok p → slot_named s c name ≡ Some p.0
unfolding link_slot
link_slot_ok s c name p h =
    let one = bind_ok (slot_of s c name) (λ q. link_in q.0 q.1) p h in
    slot_of_ok s c name one.0 one.1 ∙ ap (λ n. Some n) (by_kind one.0.0 one.0.1 one.2)
  where
    by_kind : (slot : ℕ) (k : SlotKind) → link_in slot k ≡ Ok p → slot ≡ p.0
    by_kind slot (held.Link link) h = ap (λ (q : ℕ × Link). q.0) (same_ok (slot, link) p h)
    by_kind slot held.Int h = absurd cc
    by_kind slot held.Text h = absurd cc
    by_kind slot held.Bool h = absurd cc
    by_kind slot (held.Label set) h = absurd cc
    by_kind slot held.Interval h = absurd cc

-- what is known of each blackboard that is met
pub record Good (s : Schema) (b : Board) : Type 0 where
  pub schema : b.schema ≡ s
  pub fits : Fits s b.world

-- the value of a slot
abbrev pub got : (name : List ℕ) → Board → Value → Meaning Value
got name b v = (unit v >>= texts.live b) >>= λ n. texts.slot_of b n name >>= λ slot. ok_or (units.value_of b.world.units n slot) meaningless >>= λ value. Ok (value_from value)

get_on : (code : Code) (b : Board) (slot : ℕ) (m : Machine) → step code (ops.Get slot) (m, b) ≡ keeps b (pop_live b m >>= λ u. ok_or (units.value_of b.world.units u.0 slot) (halts.Stuck reasons.Slot) >>= λ v. push (value_from v) u.1)
unfolding step get
get_on code b slot m = refl

module _ (schema : Schema) (sf : schemas.Fits schema) (code : Code) where
  get_does : (c slot : ℕ) (name : List ℕ) → slot_named schema c name ≡ Some slot → OneOpOn (Good schema) code (ops.Get slot) (got name)
  get_does c slot name is n base m b v rest good stack like = subst (λ r. Leaves (Pushed n base) (got name b v) (done_on b r)) (sym (get_on code b slot m)) (by_unit (live_cases m b v rest stack))
    where
      -- the slot that the name means for the unit
      named_there : (k : ℕ) (x : SlotValue) → units.is_live b.world.units k ≡ true → units.value_of b.world.units k slot ≡ Some x → texts.slot_of b k name ≡ Ok slot
      named_there k x live has =
          let among = value_among schema b.world sf good.fits k slot x has in
          let same = slot_same schema c (class_at b.world k) slot name sf (class_within k live) is among in
          ap (λ s. ok_or (slot_named s (class_at b.world k) name) meaningless) good.schema ∙ ap (λ o. ok_or o meaningless) same
        where
          class_within : (k : ℕ) → units.is_live b.world.units k ≡ true → class_at b.world k < length schema.classes
          class_within k live = (class_there schema b.world k good.fits live).1

      by_value : (k : ℕ) (o : Option SlotValue) → units.value_of b.world.units k slot ≡ o → units.is_live b.world.units k ≡ true
          → Leaves (Pushed n base) (got name b (One k)) (done_on b (keeps b (ok_or o (halts.Stuck reasons.Slot) >>= λ x. push (value_from x) (with_stack rest m))))
      by_value k None has live = tt
      by_value k (Some x) has live =
          let means : got name b (One k) ≡ Ok (value_from x) = rw (live, named_there k x live has, has) refl in
          subst (λ r. Leaves (Pushed n base) r (done_on b (keeps b (push (value_from x) (with_stack rest m))))) (sym means) (push_leaves n base (with_stack rest m) b like (value_from x))

      by_unit : ((k : ℕ) × (v ≡ One k) × (units.is_live b.world.units k ≡ true) × (pop_live b m ≡ Ok (k, with_stack rest m))) ⊎ ((reason : Stuck) × (pop_live b m ≡ stuck reason))
          → Leaves (Pushed n base) (got name b v) (done_on b (keeps b (pop_live b m >>= λ u. ok_or (units.value_of b.world.units u.0 slot) (halts.Stuck reasons.Slot) >>= λ v. push (value_from v) u.1)))
      by_unit (inl live) =
          subst (λ r. Leaves (Pushed n base) (got name b v) (done_on b (keeps b (r >>= λ u. ok_or (units.value_of b.world.units u.0 slot) (halts.Stuck reasons.Slot) >>= λ v. push (value_from v) u.1)))) (sym live.3)
          (subst (λ w. Leaves (Pushed n base) (got name b w) (done_on b (keeps b (ok_or (units.value_of b.world.units live.0 slot) (halts.Stuck reasons.Slot) >>= λ x. push (value_from x) (with_stack rest m))))) (sym live.1)
          (by_value live.0 (units.value_of b.world.units live.0 slot) refl live.2))
      by_unit (inr dead) =
          subst (λ r. Leaves (Pushed n base) (got name b v) (done_on b (keeps b (r >>= λ u. ok_or (units.value_of b.world.units u.0 slot) (halts.Stuck reasons.Slot) >>= λ v. push (value_from v) u.1)))) (sym dead.1) tt

  module _ (start : State) (good : (n : ℕ) (st : State) → Comes code start n (Ok st) → Good schema st.1) where
    -- a name
    pub name_means : (v : Variable) (s t : Buffer) (made : Option Kind) → Clean t → Has code t → IsLoaded v s t made → Means code start s t made (λ b names. named (name_of v) names)
    name_means v s t made clean has loaded =
        push_means code start s t (ops.Load loaded.0) made (λ b names. named (name_of v) names) (clean_before (ops.Load loaded.0) s t loaded.2 clean) loaded.2 refl has (kind_at s.scope.kinds loaded.0, loaded.3)
        (λ taken. subst IsKind (sym loaded.3) (name_taken s.scope.kinds (name_of v) loaded.0 s.scope.names taken loaded.1))
        (λ st names c held.
        let n = length s.ops + 1 in
        let is = value_named st.0.locals (name_of v) loaded.0 s.scope.names names held loaded.1 in
        subst (λ r. Leaves (Pushed n st) r (done_on st.1 (step code (ops.Load loaded.0) (go_to n st.0, st.1)))) (sym is.1)
        (subst (λ r. Leaves (Pushed n st) (Ok is.0) (done_on st.1 r)) (sym (load_on code loaded.0 (go_to n st.0) st.1 is.0 is.2))
        (copy_leaves n st (go_to n st.0) st.1 is.0 (record { place = refl; locals = refl; stack = refl; board = refl }))))

    -- a value that does not depend on anything
    fixed_means : (op : Op) (v : Value) (kind : Kind) (s t : Buffer) (made : Option Kind) → is_free kind ≡ false → Clean t → is_open op ≡ false → Has code t → IsPut op kind s t made
        → ((m : Machine) (b : Board) → step code op (m, b) ≡ keeps b (push v m)) → Means code start s t made (λ b names. Ok v)
    fixed_means op v kind s t made known clean closed has put does =
        push_means code start s t op made (λ b names. Ok v) (clean_before op s t put.0 clean) put.0 closed has (kind, put.1) (λ taken. subst IsKind (sym put.1) known)
        (λ st names c held.
        subst (λ r. Leaves (Pushed (length s.ops + 1) st) (Ok v) (done_on st.1 r)) (sym (does (go_to (length s.ops + 1) st.0) st.1))
        (push_leaves (length s.ops + 1) st (go_to (length s.ops + 1) st.0) st.1 (record { place = refl; locals = refl; stack = refl; board = refl }) v))

    -- ---- texts

    push_text_on : (i : ℕ) (text : List ℕ) (m : Machine) (b : Board) → slice_get code.texts i ≡ Some text → step code (ops.PushText i) (m, b) ≡ keeps b (push (Text text) m)
    unfolding step push_text
    push_text_on i text m b is = rw is refl

    -- a text that stands on a buffer, which has nothing else more
    abbrev HasText : (text : List ℕ) (s t : Buffer) → ℕ → Type 0
    HasText text s t i = (g : Grown s t) × (t.scope ≡ s.scope) × (t.flaw ≡ s.flaw) × (t.ops ≡ s.ops) × (slice_get t.texts i ≡ Some text)

    same_text : (text : List ℕ) (s t : Buffer) (i j : ℕ) → slice_get s.texts j ≡ Some text → (let r : Result (ℕ × Buffer) CompileFault = Ok (j, s) in r) ≡ Ok (i, t) → HasText text s t i
    same_text text s t i j at h =
        let same = pair_ok j i s t h in
        subst (λ u. HasText text s u i) same.1 (grown_none s s refl refl refl, refl, refl, refl, ap (slice_get s.texts) (sym same.0) ∙ at)

    more_text : (text : List ℕ) (s t : Buffer) (i : ℕ) → (let r : Result (ℕ × Buffer) CompileFault = Ok (length s.texts, record s { texts = s.texts ++ text ∷ [] }) in r) ≡ Ok (i, t) → HasText text s t i
    more_text text s t i h =
        let more : Buffer = record s { texts = s.texts ++ text ∷ [] } in
        let same = pair_ok (length s.texts) i more t h in
        let grown : Grown s more = record { ops = []; ops_are = sym (append-nil s.ops); texts = text ∷ []; texts_are = refl; queries = []; queries_are = sym (append-nil s.queries) } in
        subst (λ u. HasText text s u i) same.1 (grown, refl, refl, refl, ap (slice_get (s.texts ++ text ∷ [])) (sym same.0) ∙ seam s.texts [] text)

    text_ok : (text : List ℕ) (s t : Buffer) (i : ℕ) → text_index text s ≡ Ok (i, t) → HasText text s t i
    unfolding text_index
    text_ok text s t i h = by_place (position (bytes_eq text) s.texts) refl h
      where
        by_place : (o : Option ℕ) → position (bytes_eq text) s.texts ≡ o → text_at text o s ≡ Ok (i, t) → HasText text s t i
        by_place (Some j) is h =
            let found = position-Some (bytes_eq text) s.texts j [] is in
            same_text text s t i j (slice_get-get_or s.texts j [] found.0 ∙ ap (λ x. Some x) (sym ((bytes_eq-Decides text (get_or s.texts j [])).0 found.1))) h
        by_place None is h =
            more_text text s t i (guard_ok (nat_le TEXT_COUNT_LIMIT (length s.texts)) (At Limit s.start) (Ok (length s.texts, record s { texts = s.texts ++ text ∷ [] })) (i, t) h).1

    -- what stands after a buffer that has a text more
    after_text : (text : List ℕ) (s u t : Buffer) (i : ℕ) (made : Option Kind) (value : Meaning Value) → HasText text s u i → Means code start u t made (λ b names. value) → Means code start s t made (λ b names. value)
    after_text text s u t i made value has m = record {
      grown = grown_on s u t has.0 m.grown;
      clean = sym has.2 ∙ m.clean;
      scope = m.scope ∙ has.1;
      some = m.some;
      kind = λ taken. m.kind (subst (λ (c : Scope). AreTaken c.kinds c.names) (sym has.1) taken);
      gets = λ st names c held.
          m.gets st names (subst (λ l. Comes code start (length l) (Ok st)) (sym has.3) c) (subst (λ (d : Scope). AreHeld st.0.locals d.names names) (sym has.1) held);
    }

    text_means : (text : List ℕ) (room : ℕ) (s t : Buffer) (made : Option Kind) → text_code text room s ≡ Ok (made, t) → Clean t → Has code t → Means code start s t made (λ b names. Ok (Text text))
    unfolding text_code
    text_means text room s t made h clean has =
        let one = bind_ok (text_index text (text_noted text s)) (λ p. pushed (ops.PushText p.0) kinds.Text room p.1) (made, t) h in
        let put = pushed_ok (ops.PushText one.0.0) kinds.Text room one.0.1 t made one.2 clean in
        let there = text_ok text (text_noted text s) one.0.1 one.0.0 one.1 in
        let here : slice_get code.texts one.0.0 ≡ Some text =
        let own = has_before code one.0.1 t (grown_op (ops.PushText one.0.0) one.0.1 t put.0) has in
        ap (λ l. slice_get l one.0.0) own.texts_are ∙ front one.0.1.texts own.texts one.0.0 text there.4 in
        let means = fixed_means (ops.PushText one.0.0) (Text text) kinds.Text one.0.1 t made refl clean refl has put (λ m b. push_text_on one.0.0 text m b here) in
        let free = passed (nat_le (length text) TEXT_BYTES_LIMIT) Limit s (sym there.2 ∙ means.clean) in
        subst (λ u. Means code start u t made (λ b names. Ok (Text text))) free.1 (after_text text (text_noted text s) one.0.1 t one.0.0 made (Ok (Text text)) there means)

    -- ---- labels

    label_leaves : (set label : ℕ) (n : ℕ) (st : State) (m : Machine) (b : Board) → Like n st m b → Leaves (Pushed n st) (Ok (Label set label)) (done_on b (step code (ops.PushLabel set label) (m, b)))
    unfolding step push_label
    label_leaves set label n st m b like = by_name (name_of_label b.schema set label)
      where
        by_name : (o : Option (List ℕ)) → Leaves (Pushed n st) (Ok (Label set label)) (done_on b (keeps b (there o >>= λ _. push (Label set label) m)))
        by_name None = tt
        by_name (Some name) = push_leaves n st m b like (Label set label)

    label_means : (set name : List ℕ) (room : ℕ) (s t : Buffer) (made : Option Kind) → label_code schema set name room s ≡ Ok (made, t) → Clean t → Has code t → Means code start s t made (λ b names. label b set name)
    unfolding label_code label
    label_means set name room s t made h clean has = by_set (label_set_named schema set) refl h
      where
        by_label : (k : ℕ) (o : Option ℕ) → label_set_named schema set ≡ Some k → label_named schema k name ≡ o → label_of k o room s ≡ Ok (made, t) → Means code start s t made (λ b names. label b set name)
        by_label k None is at h = never_noted Unknown s (ap (λ (u : Buffer). u.flaw) (pair_ok (Some (kinds.Label k)) made (noted Unknown s) t h).1 ∙ clean)
        by_label k (Some l) is at h =
            let put = pushed_ok (ops.PushLabel k l) (kinds.Label k) room s t made h clean in
            push_means code start s t (ops.PushLabel k l) made (λ b names. label b set name) (clean_before (ops.PushLabel k l) s t put.0 clean) put.0 refl has (kinds.Label k, put.1) (λ taken. subst IsKind (sym put.1) refl)
            (λ st names c held.
            let same = (good (length s.ops) st c).schema in
            let means : label st.1 set name ≡ Ok (Label k l) =
            ap (λ (z : Schema). ok_or (label_set_named z set) meaningless >>= λ number. ok_or (label_named z number name) meaningless >>= λ label. Ok (Label number label)) same ∙ rw (is, at) refl in
            subst (λ r. Leaves (Pushed (length s.ops + 1) st) r (done_on st.1 (step code (ops.PushLabel k l) (go_to (length s.ops + 1) st.0, st.1)))) (sym means)
            (label_leaves k l (length s.ops + 1) st (go_to (length s.ops + 1) st.0) st.1 (record { place = refl; locals = refl; stack = refl; board = refl })))

        by_set : (o : Option ℕ) → label_set_named schema set ≡ o → label_in schema name o room s ≡ Ok (made, t) → Means code start s t made (λ b names. label b set name)
        by_set None is h = never_noted Unknown s (ap (λ (u : Buffer). u.flaw) (pair_ok None made (noted Unknown s) t h).1 ∙ clean)
        by_set (Some k) is h = by_label k (label_named schema k name) is refl h

    -- ---- slots

    slot_means : (v : Variable) (name : List ℕ) (room : ℕ) (s t : Buffer) (made : Option Kind) → slot_code schema v name room s ≡ Ok (made, t) → Clean t → Has code t → Means code start s t made (λ b names. texts.value_in b names v name)
    unfolding slot_code texts.value_in
    slot_means v name room s t made h clean has =
        let one = bind_ok (unit_code v room s) (λ p. got_from schema name p.0 p.1) (made, t) h in by_class one.0.0 one.0.1 one.1 one.2
      where
        by_slot : (class : Option ℕ) (c : ℕ) (u : Buffer) (r : Result (ℕ × Kind) TextFlaw) → unit_code v room s ≡ Ok (class, u) → value_slot schema c name ≡ r → gotten r u ≡ Ok (made, t) → Means code start s t made (λ b names. texts.value_in b names v name)
        by_slot class c u (Err flaw) code_is is h = never_noted flaw u (ap (λ (x : Buffer). x.flaw) (pair_ok None made (noted flaw u) t h).1 ∙ clean)
        by_slot class c u (Ok p) code_is is h =
            let one = bind_ok (put (ops.Get p.0) u) (λ x. Ok (Some p.1, x)) (made, t) h in
            let same = pair_ok (Some p.1) made one.0 t one.2 in
            let put : t ≡ with_op (ops.Get p.0) u = sym same.1 ∙ put_ok (ops.Get p.0) u one.0 one.1 in
            let free = clean_before (ops.Get p.0) u t put clean in
            let unit_is = unit_ok v room s u class code_is free in
            let slot = value_slot_ok schema c name p is in
            let first = name_means v s u (Some unit_is.0) free (has_before code u t (grown_op (ops.Get p.0) u t put) has) unit_is.2 in
            let then = one_turns_on code start (Good schema) u t (ops.Get p.0) made (got name) good free put refl has (p.1, sym same.0) (subst IsKind same.0 slot.1) (get_does c p.0 name slot.0) in
            means_as code start s t made made (λ b names. named (name_of v) names >>= got name b) (λ b names. texts.value_in b names v name) refl (λ b names. by_assoc b (named (name_of v) names))
            (means_on code start s u t (Some unit_is.0) made (λ b names. named (name_of v) names) (λ b names v. got name b v) first then)
          where
            by_assoc : (b : Board) (r : Meaning Value) → (r >>= got name b) ≡ (((r >>= unit) >>= texts.live b) >>= λ n. texts.slot_of b n name >>= λ slot. ok_or (units.value_of b.world.units n slot) meaningless >>= λ value. Ok (value_from value))
            by_assoc b (Ok w) = refl
            by_assoc b (Err e) = refl

        by_class : (class : Option ℕ) (u : Buffer) → unit_code v room s ≡ Ok (class, u) → got_from schema name class u ≡ Ok (made, t) → Means code start s t made (λ b names. texts.value_in b names v name)
        by_class None u code_is h =
            let same = pair_ok None made u t h in
            let unit_is = unit_ok v room s u None code_is (ap (λ (x : Buffer). x.flaw) same.1 ∙ clean) in
            absurd (let e = unit_is.3 in cc)
        by_class (Some c) u code_is h = by_slot (Some c) c u (value_slot schema c name) code_is refl h

    -- ---- an expression without parts

    pub atom_means : (a : Atom) (room : ℕ) (s t : Buffer) (made : Option Kind) → atom_code schema room a s ≡ Ok (made, t) → Clean t → Has code t → Means code start s t made (λ b names. atom_value b names a)
    unfolding atom_code atom_value step
    atom_means (atoms.Int n) room s t made h clean has = fixed_means (ops.PushInt n) (Int n) kinds.Int s t made refl clean refl has (pushed_ok (ops.PushInt n) kinds.Int room s t made h clean) (λ m b. refl)
    atom_means (atoms.Text text) room s t made h clean has = text_means text room s t made h clean has
    atom_means (atoms.Bool x) room s t made h clean has = fixed_means (ops.PushBool x) (Truth x) kinds.Bool s t made refl clean refl has (pushed_ok (ops.PushBool x) kinds.Bool room s t made h clean) (λ m b. refl)
    atom_means (atoms.Label set name) room s t made h clean has = label_means set name room s t made h clean has
    atom_means (atoms.Variable v) room s t made h clean has = name_means v s t made clean has (variable_ok v room s t made h clean)
    atom_means (atoms.Slot v name) room s t made h clean has = slot_means v name room s t made h clean has
