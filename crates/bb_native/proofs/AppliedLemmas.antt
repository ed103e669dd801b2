-- What an ask leaves of a blackboard to which it is applied: each is one of its changes, under that change's condition.
use Rattle.std.proofs.Common.{◌≡◌, ℕ, ◌<◌, Bool, true, false, cond, not, List, [], ◌∷◌, map, length, Option, Some, None, Result, Ok, Err, refl, sym, ap, subst, ◌∙◌, arith}
use Rattle.std.specs.Prelude.{nat_le, position, if◌then◌else◌}
use Rattle.std.specs.Str.{bytes_eq}
use Rattle.std.proofs.lemmas.List.{length-map}
use Rattle.std.proofs.lemmas.List.Quantifiers.{position-Some}
use Rattle.bb_basis.specs.Results.{◌>>=◌, ok_or, map_err}
use Rattle.bb_basis.proofs.ResultLemmas.{ok_or_ok}
use Rattle.bb_schema_classes.specs.declared.class.Class.{Class}
use Rattle.bb_schema_classes.specs.declared.value.Value.{Value}
use Rattle.bb_schema_classes.specs.declared.value.Value.TheVariants as values
use Rattle.bb_schema_classes.specs.declared.value.TheConstants.{TEXT_LIMIT}
use Rattle.bb_schema.specs.declared.space.Space.{Space}
use Rattle.bb_schema.specs.Schema.{class_named, slot_named, space_named}
use Rattle.bb_units.specs.Units.{is_live, is_full, next_number}
use Rattle.bb_board.specs.declared.reason.Reason.{Reason}
use Rattle.bb_board.specs.declared.note.Said.TheVariants as saids
use Rattle.bb_board.specs.Board.{Board, with_world}
use Rattle.bb_board.specs.World.{class_at, after_create, after_set, after_say}
use Rattle.bb_board.specs.Links.{after_link, after_unlink}
use Rattle.bb_board.specs.Deletion.{after_delete}
use Rattle.bb_board.specs.May.{may_set, may_link}
use Rattle.bb_board.specs.Spaces.{may_enter, after_enter, after_leave}
use Rattle.bb_native.specs.declared.ask.Ask.{Ask}
use Rattle.bb_native.specs.declared.ask.Ask.TheVariants as asks
use Rattle.bb_native.specs.declared.refusal.Refusal.{Refusal}
use Rattle.bb_native.specs.declared.refusal.Refusal.TheVariants.{Deleted, Slot, Kind, Space as NoSpace, Class as NoClass}
use Rattle.bb_native.specs.declared.denial.Denial.{Denial}
use Rattle.bb_native.specs.declared.denial.Denial.TheVariants.{Refused, Full, Memory}
use Rattle.bb_native.specs.Refusals.{denial_of, denial_of_create}
use Rattle.bb_native.specs.Applied.{live, slot_due, space_due, class_due, link_due, set, link, unlink, enter, leave, create, delete, say, applied}

-- ---- where an ask is applied

-- where it is, the blackboard that it leaves is so
abbrev pub After : (Board → Type 0) → Result Board Denial → Type 0
After P (Ok c) = P c
After P (Err denial) = Unit {0}

pub after_ok : (P : Board → Type 0) (r : Result Board Denial) (c : Board) → After P r → r ≡ Ok c → P c
after_ok P r c after is = subst (After P) is after

-- what is so of each change under its condition
pub record Cases (b : Board) (P : Board → Type 0) : Type 0 where
  pub sets : (n slot : ℕ) (value : Value) → may_set b.world n slot value ≡ Ok tt → P (with_world b (after_set b.schema b.world n slot value))
  pub links : (n slot m : ℕ) → may_link b.schema b.world n slot m ≡ Ok tt → P (with_world b (after_link b.schema b.world n slot m))
  pub unlinks : (n slot m : ℕ) → may_link b.schema b.world n slot m ≡ Ok tt → P (with_world b (after_unlink b.schema b.world n slot m))
  pub enters : (n space : ℕ) → may_enter b.schema b.world n space ≡ Ok tt → P (with_world b (after_enter b.schema b.world n space))
  pub leaves : (n space : ℕ) → is_live b.world.units n ≡ true → space < length b.schema.spaces → P (with_world b (after_leave b.world n space))
  pub creates : (class : ℕ) → class < length b.schema.classes → is_full b.world.units ≡ false → P (with_world b (after_create b.world class))
  pub deletes : (n : ℕ) → is_live b.world.units n ≡ true → P (with_world b (after_delete b.schema b.world n))
  pub says : (text : List ℕ) → P (with_world b (after_say b.world (saids.Value (values.Text text) ∷ [])))

step : {A : Type 0} (P : Board → Type 0) (r : Result A Denial) (f : A → Result Board Denial) → ((a : A) → r ≡ Ok a → After P (f a)) → After P (r >>= f)
step P (Ok a) f next = next a refl
step P (Err denial) f next = tt

may_by : (r : Result (Unit {0}) Reason) (u : Unit {0}) → map_err denial_of r ≡ Ok u → r ≡ Ok tt
may_by (Ok u) v h = refl
may_by (Err reason) v h = absurd cc

live_by : (b : Board) (n : ℕ) (alive : Bool) (u : Unit {0}) → is_live b.world.units n ≡ alive → live b n ≡ Ok u → is_live b.world.units n ≡ true
unfolding live
live_by b n true u is h = is
live_by b n false u is h = absurd (let no : (let r : Result (Unit {0}) Denial = Err (Refused Deleted) in r) ≡ Ok u = rw is at h in cc)

live_ok : (b : Board) (n : ℕ) (u : Unit {0}) → live b n ≡ Ok u → is_live b.world.units n ≡ true
live_ok b n u h = live_by b n (is_live b.world.units n) u refl h

space_ok : (b : Board) (name : List ℕ) (space : ℕ) → space_due b name ≡ Ok space → space < length b.schema.spaces
unfolding space_due
space_ok b name space h =
    let names = map (λ (p : Space). p.name) b.schema.spaces in
    let lt = (position-Some (bytes_eq name) names space [] (ok_or_ok (Refused NoSpace) (space_named b.schema name) space h)).0 in
    omega (arith, lt, length-map b.schema.spaces (λ (p : Space). p.name))

class_ok : (b : Board) (name : List ℕ) (class : ℕ) → class_due b name ≡ Ok class → class < length b.schema.classes
unfolding class_due
class_ok b name class h =
    let names = map (λ (k : Class). k.name) b.schema.classes in
    let lt = (position-Some (bytes_eq name) names class [] (ok_or_ok (Refused NoClass) (class_named b.schema name) class h)).0 in
    omega (arith, lt, length-map b.schema.classes (λ (k : Class). k.name))

free_by : (b : Board) (full : Bool) (n : ℕ) → is_full b.world.units ≡ full → map_err denial_of_create (next_number b.world.units) ≡ Ok n → is_full b.world.units ≡ false
free_by b true n is h = absurd (let no : (let r : Result ℕ Denial = Err Full in r) ≡ Ok n = rw is at h in cc)
free_by b false n is h = is

module _ (b : Board) (P : Board → Type 0) (cases : Cases b P) where
  set_after : (n : ℕ) (name : List ℕ) (value : Value) → After P (set b n name value)
  unfolding set
  set_after n name value =
      step P (live b n) _
      (λ _ _. step P (slot_due b n name) _
      (λ slot _. step P (map_err denial_of (may_set b.world n slot value)) _
      (λ u h. cases.sets n slot value (may_by (may_set b.world n slot value) u h))))

  link_ok : (n : ℕ) (name : List ℕ) (m slot : ℕ) → link_due b n name m ≡ Ok slot → may_link b.schema b.world n slot m ≡ Ok tt
  unfolding link_due
  link_ok n name m slot h = found (live b n) (live b m) (slot_due b n name) h
    where
      asked : (k : ℕ) (r : Result (Unit {0}) Reason) → (map_err denial_of r >>= λ _. Ok k) ≡ Ok slot → (r ≡ Ok tt) × (k ≡ slot)
      asked k (Ok u) h = (refl, cc)
      asked k (Err reason) h = absurd cc

      found : (one other : Result (Unit {0}) Denial) (due : Result ℕ Denial) → (one >>= λ _. other >>= λ _. due >>= λ k. map_err denial_of (may_link b.schema b.world n k m) >>= λ _. Ok k) ≡ Ok slot → may_link b.schema b.world n slot m ≡ Ok tt
      found (Ok u) (Ok v) (Ok k) h = let p = asked k (may_link b.schema b.world n k m) h in subst (λ i. may_link b.schema b.world n i m ≡ Ok tt) p.1 p.0
      found (Ok u) (Ok v) (Err denial) h = absurd cc
      found (Ok u) (Err denial) due h = absurd cc
      found (Err denial) other due h = absurd cc

  link_after : (n : ℕ) (name : List ℕ) (m : ℕ) → After P (link b n name m)
  unfolding link
  link_after n name m = step P (link_due b n name m) _ (λ slot h. cases.links n slot m (link_ok n name m slot h))

  unlink_after : (n : ℕ) (name : List ℕ) (m : ℕ) → After P (unlink b n name m)
  unfolding unlink
  unlink_after n name m = step P (link_due b n name m) _ (λ slot h. cases.unlinks n slot m (link_ok n name m slot h))

  enter_after : (n : ℕ) (name : List ℕ) → After P (enter b n name)
  unfolding enter
  enter_after n name =
      step P (live b n) _
      (λ _ _. step P (space_due b name) _
      (λ space _. step P (map_err denial_of (may_enter b.schema b.world n space)) _
      (λ u h. cases.enters n space (may_by (may_enter b.schema b.world n space) u h))))

  leave_after : (n : ℕ) (name : List ℕ) → After P (leave b n name)
  unfolding leave
  leave_after n name =
      step P (live b n) _
      (λ u alive. step P (space_due b name) _
      (λ space there. cases.leaves n space (live_ok b n u alive) (space_ok b name space there)))

  create_after : (name : List ℕ) → After P (create b name)
  unfolding create
  create_after name =
      step P (class_due b name) _
      (λ class there. step P (map_err denial_of_create (next_number b.world.units)) _
      (λ n free. cases.creates class (class_ok b name class there) (free_by b (is_full b.world.units) n refl free)))

  delete_after : (n : ℕ) → After P (delete b n)
  unfolding delete
  delete_after n = step P (live b n) _ (λ u alive. cases.deletes n (live_ok b n u alive))

  said_by : (text : List ℕ) (short : Bool) → After P (cond short (Ok (with_world b (after_say b.world (saids.Value (values.Text text) ∷ [])))) (Err (Refused Kind)))
  said_by text true = cases.says text
  said_by text false = tt

  say_after : (text : List ℕ) → After P (say b text)
  unfolding say
  say_after text = said_by text (nat_le (length text) TEXT_LIMIT)

  pub applied_after : (ask : Ask) → After P (applied ask b)
  applied_after (asks.Set n slot value) = set_after n slot value
  applied_after (asks.Link n slot m) = link_after n slot m
  applied_after (asks.Unlink n slot m) = unlink_after n slot m
  applied_after (asks.Enter n space) = enter_after n space
  applied_after (asks.Leave n space) = leave_after n space
  applied_after (asks.New class) = create_after class
  applied_after (asks.Delete n) = delete_after n
  applied_after (asks.Say text) = say_after text

-- ---- where it is not

-- an ask is denied as full on a full blackboard alone, and never for want of memory
abbrev DeniedFor : {A : Type 0} → Board → Result A Denial → Type 0
DeniedFor b (Ok a) = Unit {0}
DeniedFor b (Err (Refused refusal)) = Unit {0}
DeniedFor b (Err Full) = is_full b.world.units ≡ true
DeniedFor b (Err Memory) = ⊥

part : {A B : Type 0} (b : Board) (r : Result A Denial) (f : A → Result B Denial) → DeniedFor b r → ((a : A) → DeniedFor b (f a)) → DeniedFor b (r >>= f)
part b (Ok a) f one next = next a
part b (Err (Refused refusal)) f one next = tt
part b (Err Full) f one next = one
part b (Err Memory) f one next = one

test_denied : {A : Type 0} (b : Board) (t : Bool) (x y : Result A Denial) → DeniedFor b x → DeniedFor b y → DeniedFor b (cond t x y)
test_denied b true x y one other = one
test_denied b false x y one other = other

refused_denied : (b : Board) (o : Option ℕ) (refusal : Refusal) → DeniedFor b (ok_or o (Refused refusal))
refused_denied b None refusal = tt
refused_denied b (Some k) refusal = tt

free_denied : (b : Board) (full : Bool) → is_full b.world.units ≡ full → DeniedFor b (map_err denial_of_create (next_number b.world.units))
free_denied b true is = rw is is
free_denied b false is = rw is tt

module _ (b : Board) where
  may_denied : (r : Result (Unit {0}) Reason) → DeniedFor b (map_err denial_of r)
  may_denied (Ok u) = tt
  may_denied (Err reason) = tt

  live_denied : (n : ℕ) → DeniedFor b (live b n)
  unfolding live
  live_denied n = test_denied b (is_live b.world.units n) (Ok tt) (Err (Refused Deleted)) tt tt

  slot_denied : (n : ℕ) (name : List ℕ) → DeniedFor b (slot_due b n name)
  unfolding slot_due
  slot_denied n name = refused_denied b (slot_named b.schema (class_at b.world n) name) Slot

  space_denied : (name : List ℕ) → DeniedFor b (space_due b name)
  unfolding space_due
  space_denied name = refused_denied b (space_named b.schema name) NoSpace

  class_denied : (name : List ℕ) → DeniedFor b (class_due b name)
  unfolding class_due
  class_denied name = refused_denied b (class_named b.schema name) NoClass

  set_denied : (n : ℕ) (name : List ℕ) (value : Value) → DeniedFor b (set b n name value)
  unfolding set
  set_denied n name value =
      part b (live b n) _ (live_denied n)
      (λ _. part b (slot_due b n name) _ (slot_denied n name)
      (λ slot. part b (map_err denial_of (may_set b.world n slot value)) _ (may_denied (may_set b.world n slot value)) (λ _. tt)))

  link_due_denied : (n : ℕ) (name : List ℕ) (m : ℕ) → DeniedFor b (link_due b n name m)
  unfolding link_due
  link_due_denied n name m =
      part b (live b n) _ (live_denied n)
      (λ _. part b (live b m) _ (live_denied m)
      (λ _. part b (slot_due b n name) _ (slot_denied n name)
      (λ slot. part b (map_err denial_of (may_link b.schema b.world n slot m)) _ (may_denied (may_link b.schema b.world n slot m)) (λ _. tt))))

  link_denied : (n : ℕ) (name : List ℕ) (m : ℕ) → DeniedFor b (link b n name m)
  unfolding link
  link_denied n name m = part b (link_due b n name m) _ (link_due_denied n name m) (λ slot. tt)

  unlink_denied : (n : ℕ) (name : List ℕ) (m : ℕ) → DeniedFor b (unlink b n name m)
  unfolding unlink
  unlink_denied n name m = part b (link_due b n name m) _ (link_due_denied n name m) (λ slot. tt)

  enter_denied : (n : ℕ) (name : List ℕ) → DeniedFor b (enter b n name)
  unfolding enter
  enter_denied n name =
      part b (live b n) _ (live_denied n)
      (λ _. part b (space_due b name) _ (space_denied name)
      (λ space. part b (map_err denial_of (may_enter b.schema b.world n space)) _ (may_denied (may_enter b.schema b.world n space)) (λ _. tt)))

  leave_denied : (n : ℕ) (name : List ℕ) → DeniedFor b (leave b n name)
  unfolding leave
  leave_denied n name = part b (live b n) _ (live_denied n) (λ _. part b (space_due b name) _ (space_denied name) (λ space. tt))

  create_denied : (name : List ℕ) → DeniedFor b (create b name)
  unfolding create
  create_denied name =
      part b (class_due b name) _ (class_denied name)
      (λ class. part b (map_err denial_of_create (next_number b.world.units)) _ (free_denied b (is_full b.world.units) refl) (λ n. tt))

  delete_denied : (n : ℕ) → DeniedFor b (delete b n)
  unfolding delete
  delete_denied n = part b (live b n) _ (live_denied n) (λ _. tt)

  say_denied : (text : List ℕ) → DeniedFor b (say b text)
  unfolding say
  say_denied text =
      test_denied b (nat_le (length text) TEXT_LIMIT) (Ok (with_world b (after_say b.world (saids.Value (values.Text text) ∷ [])))) (Err (Refused Kind)) tt tt

  denied : (ask : Ask) → DeniedFor b (applied ask b)
  denied (asks.Set n slot value) = set_denied n slot value
  denied (asks.Link n slot m) = link_denied n slot m
  denied (asks.Unlink n slot m) = unlink_denied n slot m
  denied (asks.Enter n space) = enter_denied n space
  denied (asks.Leave n space) = leave_denied n space
  denied (asks.New class) = create_denied class
  denied (asks.Delete n) = delete_denied n
  denied (asks.Say text) = say_denied text

-- where an ask is denied as full, no unit can be created
pub applied_full : (ask : Ask) (b : Board) → applied ask b ≡ Err Full → is_full b.world.units ≡ true
applied_full ask b is = subst (DeniedFor b) is (denied b ask)

-- the definition of an ask asks for no memory
pub applied_no_memory : (ask : Ask) (b : Board) → applied ask b ≡ Err Memory → ⊥
applied_no_memory ask b is = subst (DeniedFor b) is (denied b ask)
