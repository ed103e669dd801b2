-- What one unit more makes of a blackboard, by what the units' own call answers.
use Rattle.std.proofs.Common.{◌≡◌, ℕ, ◌⊎◌, inl, inr, Bool, true, false, cond, Result, Ok, Err, refl, ap}
use Rattle.std.specs.Prelude.{OnOk}
use Rattle.bb_basis.specs.Results.{map_err}
use Rattle.bb_units.specs.declared.fault.CreateFault.{CreateFault}
use Rattle.bb_units.specs.declared.fault.CreateFault.TheVariants.{Full as NoMoreUnits, Memory as NoMemory}
use Rattle.bb_units.specs.Units.{next_number, is_full}
use Rattle.bb_board.specs.declared.units_fault.UnitsFault.{UnitsFault}
use Rattle.bb_board.specs.declared.units_fault.UnitsFault.TheVariants.{Memory}
use Rattle.bb_board.specs.declared.units_fault.UnitsFlaw.TheVariants.{Full}
use Rattle.bb_board.specs.State.{World}
use Rattle.bb_board.specs.UnitsFaults.{here, of_create_fault}
use Rattle.bb_board.specs.World.{after_create}
use Rattle.bb_board.specs.Load.{with_unit}

-- one test decides whether there is a number and whether a unit is made
where_room : {X : Type 0} (full : Bool) (next n : ℕ) (x : X) → (let r : Result ℕ CreateFault = cond full (Err NoMoreUnits) (Ok next) in r) ≡ Ok n → (let r : Result X UnitsFault = cond full (Err (here Full)) (Ok x) in r) ≡ Ok x
where_room true next n x given = absurd cc
where_room false next n x given = refl

where_full : {X : Type 0} (full : Bool) (next : ℕ) (x : X) (e : CreateFault) → (let r : Result ℕ CreateFault = cond full (Err NoMoreUnits) (Ok next) in r) ≡ Err e → (let r : Result X UnitsFault = cond full (Err (here Full)) (Ok x) in r) ≡ Err (of_create_fault e)
where_full true next x e given = let same : NoMoreUnits ≡ e = cc in ap (λ f. Err (of_create_fault f)) same
where_full false next x e given = absurd cc

pub with_unit-ok : (w : World) (class n : ℕ) → next_number w.units ≡ Ok n → with_unit w class ≡ Ok (after_create w class)
unfolding with_unit
with_unit-ok w class n given = where_room (is_full w.units) w.units.next n (after_create w class) given

pub with_unit-err : (w : World) (class : ℕ) (e : CreateFault) → (e ≡ NoMemory) ⊎ (next_number w.units ≡ Err e) → (of_create_fault e ≡ Memory) ⊎ (with_unit w class ≡ Err (of_create_fault e))
unfolding with_unit
with_unit-err w class e (inl m) = inl (ap of_create_fault m)
with_unit-err w class e (inr given) = inr (where_full (is_full w.units) w.units.next (after_create w class) e given)

-- a call that has no fault once its fault is mapped leaves what it leaves without a fault
pub placed_leaves : {X E F : Type 0} (P : Type 0) (at : E → F) (r : Result X E) (x : X) → Ok x ≡ map_err at r → OnOk r P → P
placed_leaves P at (Ok y) x is left = left
placed_leaves P at (Err e) x is left = absurd cc
