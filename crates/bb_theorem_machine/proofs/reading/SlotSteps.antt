-- Ops that read slots, and queries, are safe.
use Rattle.std.proofs.Common.{◌≡◌, ◌≤◌, ◌⊎◌, inl, inr, ℕ, true, false, List, ◌∷◌, length, take, drop, reverse, Option, Some, None, Result, Ok, refl, ap, ◌∙◌}
use Rattle.std.specs.Prelude.{All, slice_get, nat_lt}
use Rattle.std.proofs.lemmas.List.Elements.{All-weaker}
use Rattle.bb_basis.specs.Results.{◌>>=◌}
use Rattle.bb_schema_classes.specs.declared.value.Value.{Value as SlotValue}
use Rattle.bb_schema_classes.proofs.Laws.{All-at}
use Rattle.bb_schema.specs.Fits as schemas
use Rattle.bb_schema.specs.Schema.{Schema}
use Rattle.bb_pattern.specs.declared.query.Query.{Query}
use Rattle.bb_pattern.specs.declared.value.DimValue.{DimValue}
use Rattle.bb_units.specs.Units.{is_live, value_of}
use Rattle.bb_links.specs.Links.{ends}
use Rattle.bb_machine.specs.QueryAnswer.{answer, answers}
use Rattle.bb_board.specs.Board.{Board}
use Rattle.bb_board.specs.Fits.{Fits}
use Rattle.bb_board.specs.May.{has_link}
use Rattle.bb_board.specs.World.{class_at}
use Rattle.bb_board.specs.State.{World}
use Rattle.bb_code.specs.Code.{Code}
use Rattle.bb_code.specs.declared.frame.Kind.TheVariants.{Ref, Seq}
use Rattle.bb_code.specs.declared.op.Op.{Op}
use Rattle.bb_code.specs.declared.op.Op.TheVariants as ops
use Rattle.bb_verify.specs.FrameType.{Frame}
use Rattle.bb_verify.specs.PartType.{Part}
use Rattle.bb_verify.specs.Effect as effects
use Rattle.bb_verify.specs.Effect.{effect}
use Rattle.bb_verify.specs.Frame as frames
use Rattle.bb_verify.proofs.Laws.{edges_ok, Pushed, get_ok, links_ok, find_ok, one_ok}
use Rattle.bb_machine.specs.declared.halt.Halt.{Halt}
use Rattle.bb_machine.specs.declared.value.Value.{Value}
use Rattle.bb_machine.specs.declared.value.Value.TheVariants as values
use Rattle.bb_machine.specs.Sequence.{whole}
use Rattle.bb_machine.specs.Value.{value_from}
use Rattle.bb_machine.specs.Machine.{Machine, go_to, after_found, with_stack, push}
use Rattle.bb_machine.specs.Reading.{get, push_found, any_link, is_singular, one_link, push_partner, one, links, right_query, operands_due, find}
use Rattle.bb_machine.specs.Step.{step}
use Rattle.bb_theorem_machine.specs.Kinds.{IsOf, WasOf, Suits}
use Rattle.bb_theorem_machine.specs.Safe.{edges_of, IsSafe}
use Rattle.bb_theorem_machine.specs.proving.Moves.{Makes}
use Rattle.bb_theorem_machine.proofs.MoveLemmas.{pushes, makes_as, turns}
use Rattle.bb_theorem_machine.proofs.LiveLemmas.{is_live_of, class_at_of, was_of}
use Rattle.bb_theorem_machine.proofs.UnitLemmas.{pops_live, pop_live_on}
use Rattle.bb_theorem_machine.proofs.ManyLemmas.{pops_many, pop_many_on}
use Rattle.bb_theorem_machine.proofs.reading.SlotLemmas.{reads, links_there, is_single}
use Rattle.bb_theorem_machine.proofs.reading.PartnerLemmas.{links_lead}
use Rattle.bb_theorem_machine.proofs.reading.FindLemmas.{query_right, operands_given, answers_are}
use Rattle.bb_theorem_machine.proofs.EdgeLemmas.{leads_by, leads_either}
use Rattle.bb_units.specs.declared.units.TheConstants.{UNIT_LIMIT}
use Rattle.bb_board.proofs.Laws.{few_ends, few_pass}
use Rattle.std.proofs.lemmas.Bool.{le-leb}

get_on : (b : Board) (slot : ℕ) (m : Machine) (n : ℕ) (rest : List Value) (v : SlotValue) → m.stack ≡ values.Unit n ∷ rest → is_live b.world.units n ≡ true → value_of b.world.units n slot ≡ Some v
    → get b slot m ≡ push (value_from v) (with_stack rest m)
unfolding get
get_on b slot m n rest v is alive has = rw (pop_live_on b m n rest is alive, has) refl

links_on : (b : Board) (slot : ℕ) (m : Machine) (n : ℕ) (rest : List Value) → m.stack ≡ values.Unit n ∷ rest → is_live b.world.units n ≡ true → has_link b.schema (class_at b.world n) slot ≡ true
    → links b slot m ≡ push_found (ends b.world.links n slot) (with_stack rest m)
unfolding links any_link
links_on b slot m n rest is alive has = rw (pop_live_on b m n rest is alive, has) refl

one_on : (b : Board) (slot place : ℕ) (m : Machine) (n : ℕ) (rest : List Value) → m.stack ≡ values.Unit n ∷ rest → is_live b.world.units n ≡ true → has_link b.schema (class_at b.world n) slot ≡ true → is_singular b.schema slot ≡ true
    → one b slot place m ≡ push_partner (slice_get (ends b.world.links n slot) 0) place (with_stack rest m)
unfolding one one_link any_link
one_on b slot place m n rest is alive has single = rw (pop_live_on b m n rest is alive, has, single) refl

find_on : (code : Code) (b : Board) (i : ℕ) (m : Machine) (q : Query) (ds : List DimValue) → slice_get code.queries i ≡ Some q → nat_lt (length m.stack) (length q.kinds) ≡ false → right_query b q ≡ Ok tt
    → operands_due q.kinds (reverse (take (length q.kinds) m.stack)) ≡ Ok ds
    → find code b i m ≡ push_found (answer b.schema b.world.units b.world.spaces q ds) (with_stack (drop (length q.kinds) m.stack) m)
unfolding find
find_on code b i m q ds at low right due = rw (at, pop_many_on (length q.kinds) m low, right, due) refl

-- a sequence of units that were found
found_makes : (s : Schema) (w : World) (m : Machine) (f g : Frame) (units : List ℕ) (class : ℕ) → Pushed (Seq class) f g → Suits s w m f → All (WasOf s w class) units → length units ≤ UNIT_LIMIT → Makes s w m g (push_found units m)
unfolding push_found
found_makes s w m f g units class h suits are few =
    let made = pushes s w m f g (values.Seq (whole units)) (Seq class) h suits (whole units, refl, are, le-leb (length units) UNIT_LIMIT few) in
    record {
      next = after_found (length units) made.next;
      is = ap (λ (r : Result Machine Halt). r >>= λ next. Ok (after_found (length units) next)) made.is;
      place = made.place;
      suits = record { locals = made.suits.locals; stack = made.suits.stack };
    }

-- a partner, or none
partner_by : (s : Schema) (w : World) (left : Machine) (g next : Frame) (place to : ℕ) (first : Option ℕ) → Pushed (Ref to) g next → Suits s w left g → ((k : ℕ) → first ≡ Some k → IsOf s w to k)
    → (Makes s w left next (push_partner first place left)) ⊎ (push_partner first place left ≡ Ok (go_to place left))
partner_by s w left g next place to None h suits of = inr refl
partner_by s w left g next place to (Some k) h suits of = inl (pushes s w left g next (values.Unit k) (Ref to) h suits (k, refl, of k refl))

module _ (part : Part) (code : Code) (b : Board) (sf : schemas.Fits b.schema) (fits : Fits b.schema b.world) (m : Machine) (f : Frame) (suits : Suits b.schema b.world m f) (e : Option Frame × Option Frame) where
  -- an op that is safe at the state
  abbrev Safe : Op → Type 0
  Safe op = edges_of b.schema part code op f ≡ Ok e → IsSafe b.schema m.place op e (step code op (m, b))

  get_makes : (slot : ℕ) (g : Frame) → effects.get b.schema slot f ≡ Ok g → Makes b.schema b.world m g (get b slot m)
  get_makes slot g h =
      let it = get_ok b.schema slot f g h in
      turns b.schema b.world m f g (Ref it.class) it.held (get b slot m) it.turned suits
      (λ v rest is unit.
      let x = reads b.schema b.world sf fits it.class unit.0 slot it.held it.holds unit.2 in
      (value_from x.0, x.2, get_on b slot m unit.0 rest x.0 (is ∙ ap (λ (u : Value). u ∷ rest) unit.1) (is_live_of b.schema b.world fits.units it.class unit.0 unit.2) x.1))

  pub get_safe : (slot : ℕ) → Safe (ops.Get slot)
  unfolding step effect
  get_safe slot h = leads_by b fits m (ops.Get slot) e (effects.get b.schema slot f) (get b slot m) h (get_makes slot)

  links_makes : (slot : ℕ) (g : Frame) → effects.links b.schema slot f ≡ Ok g → Makes b.schema b.world m g (links b slot m)
  links_makes slot g h =
      let it = links_ok b.schema slot f g h in
      let p = pops_live b.schema b.world m f it.class it.turned.rest it.turned.stack suits in
      let there = links_there b.schema p.of.own it.class slot it.link sf p.of.under it.leads in
      let has : has_link b.schema (class_at b.world p.n) slot ≡ true = ap (λ c. has_link b.schema c slot) (class_at_of b.schema b.world fits.units it.class p.n p.of) ∙ there.1 in
      let units = ends b.world.links p.n slot in
      let were = All-weaker (IsOf b.schema b.world it.link.to) (WasOf b.schema b.world it.link.to) (was_of b.schema b.world fits.units it.link.to) units (links_lead b.schema b.world sf fits p.n slot it.link there.0) in
      makes_as b.schema b.world m (with_stack p.rest m) g (push_found units (with_stack p.rest m)) (links b slot m)
      (links_on b slot m p.n p.rest p.stack (is_live_of b.schema b.world fits.units it.class p.n p.of) has) refl
      (found_makes b.schema b.world (with_stack p.rest m) (frames.with_stack it.turned.rest f) g units it.link.to it.turned.pushed p.suits were (few_ends b.schema b.world sf fits p.n slot))

  pub links_safe : (slot : ℕ) → Safe (ops.Links slot)
  unfolding step effect
  links_safe slot h = leads_by b fits m (ops.Links slot) e (effects.links b.schema slot f) (links b slot m) h (links_makes slot)

  pub one_safe : (slot place : ℕ) → Safe (ops.One slot place)
  unfolding step effect
  one_safe slot place h =
      let x = edges_ok (effects.one b.schema slot f) e h in
      let it = one_ok b.schema slot f x.0 x.1 in
      let p = pops_live b.schema b.world m f it.class it.rest it.stack suits in
      let there = links_there b.schema p.of.own it.class slot it.link sf p.of.under it.leads in
      let has : has_link b.schema (class_at b.world p.n) slot ≡ true = ap (λ c. has_link b.schema c slot) (class_at_of b.schema b.world fits.units it.class p.n p.of) ∙ there.1 in
      let first = slice_get (ends b.world.links p.n slot) 0 in
      let lead = links_lead b.schema b.world sf fits p.n slot it.link there.0 in
      let left = with_stack p.rest m in
      let g = frames.with_stack it.rest f in
      let is = one_on b slot place m p.n p.rest p.stack (is_live_of b.schema b.world fits.units it.class p.n p.of) has (is_single b.schema slot it.link there.0 it.single) in
      leads_either b fits m (ops.One slot place) place e x.0 left it.branched.next g (push_partner first place left) (one b slot place m) refl it.branched.edges x.2 refl p.suits is
      (partner_by b.schema b.world left g it.branched.next place it.link.to first it.branched.pushed p.suits (λ k at. All-at (IsOf b.schema b.world it.link.to) (ends b.world.links p.n slot) 0 k at lead))

  find_makes : (i : ℕ) (g : Frame) → effects.find b.schema code i f ≡ Ok g → Makes b.schema b.world m g (find code b i m)
  find_makes i g h =
      let it = find_ok b.schema code i f g h in
      let q = it.query in
      let n = length q.kinds in
      let p = pops_many b.schema b.world n m f it.enough suits in
      let given = operands_given b.schema b.world q.kinds (frames.top n f) (reverse (take n m.stack)) tt it.operands p.has in
      let units = answer b.schema b.world.units b.world.spaces q given.0 in
      let left = with_stack (drop n m.stack) m in
      makes_as b.schema b.world m left g (push_found units left) (find code b i m) (find_on code b i m q given.0 it.entry p.enough (query_right b q tt it.fits) given.1) refl
      (found_makes b.schema b.world left (frames.without n f) g units q.class it.pushed p.suits (answers_are b fits.units q given.0) (few_pass b.world.units (answers b.schema b.world.units b.world.spaces q given.0) fits.units))

  pub find_safe : (query : ℕ) → Safe (ops.Find query)
  unfolding step effect
  find_safe query h = leads_by b fits m (ops.Find query) e (effects.find b.schema code query f) (find code b query m) h (find_makes query)
