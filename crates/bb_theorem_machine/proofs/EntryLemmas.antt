-- The state before the first step stands at the first place.
use Rattle.std.proofs.Common.{◌≡◌, ℕ, zero, suc, ◌+◌, ◌-◌, ◌≤◌, false, List, [], ◌∷◌, ◌++◌, length, map, replicate, Option, Some, None, refl, sym, subst, arith}
use Rattle.std.specs.Prelude.{nat_lt}
use Rattle.std.specs.List.{AllZip}
use Rattle.std.proofs.lemmas.Bool.Decides.{nat_tests}
use Rattle.std.proofs.lemmas.List.{length-append, length-replicate}
use Rattle.std.proofs.lemmas.Slice.Zip.{AllZip-long}
use Rattle.bb_schema.specs.Schema.{Schema}
use Rattle.bb_schema.specs.Fits as schemas
use Rattle.bb_board.specs.Board.{Board}
use Rattle.bb_board.specs.Fits.{Fits}
use Rattle.bb_board.specs.State.{World}
use Rattle.bb_code.specs.Code.{Code}
use Rattle.bb_code.specs.declared.frame.Kind.{Kind}
use Rattle.bb_code.specs.declared.frame.Kind.TheVariants.{Any}
use Rattle.bb_verify.specs.Part as parts
use Rattle.bb_verify.specs.Places.{entry_frame}
use Rattle.bb_verify.specs.FrameType.{Frame}
use Rattle.bb_verify.specs.PartType.{Part}
use Rattle.bb_machine.specs.declared.outcome.Entry.{Entry}
use Rattle.bb_machine.specs.declared.value.Value.{Value}
use Rattle.bb_machine.specs.declared.value.Value.TheVariants as values
use Rattle.bb_machine.specs.Machine.{units_of, entry_state}
use Rattle.bb_verify.specs.Facts.{Facts}
use Rattle.bb_theorem_machine.specs.Kinds.{HasKind, LocalHas, Suits}
use Rattle.bb_theorem_machine.specs.NeverWrong.{EntryFits, Stands}
use Rattle.bb_theorem_machine.proofs.StandLemmas.{settles}

-- ---- lists, entry by entry

zip_append : {A B : Type 0} (R : A → B → Type 0) (xs xs' : List A) (ys ys' : List B) → AllZip R xs ys → AllZip R xs' ys' → AllZip R (xs ++ xs') (ys ++ ys')
zip_append R [] xs' [] ys' one other = other
zip_append R [] xs' (y ∷ ys) ys' one other = elim one [ ]
zip_append R (x ∷ xs) xs' [] ys' one other = elim one [ ]
zip_append R (x ∷ xs) xs' (y ∷ ys) ys' one other = (one.0, zip_append R xs xs' ys ys' one.1 other)

zip_map : {A B C : Type 0} (R : A → C → Type 0) (f : B → C) (xs : List A) (ys : List B) → AllZip (λ x y. R x (f y)) xs ys → AllZip R xs (map f ys)
zip_map R f [] [] all = all
zip_map R f [] (y ∷ ys) all = elim all [ ]
zip_map R f (x ∷ xs) [] all = elim all [ ]
zip_map R f (x ∷ xs) (y ∷ ys) all = (all.0, zip_map R f xs ys all.1)

zip_replicate : {A B : Type 0} (R : A → B → Type 0) (x : A) (y : B) (n : ℕ) → R x y → AllZip R (replicate n x) (replicate n y)
zip_replicate R x y zero has = tt
zip_replicate R x y (suc n) has = (has, zip_replicate R x y n has)

-- ---- the first state

filled : (n rest all locals : ℕ) → n ≤ locals → rest ≡ locals - n → all ≡ n + rest → all ≡ locals
filled n rest all locals le is whole = omega (arith, le, is, whole)

pub as_many_locals : (part : Part) (locals : ℕ) → length (parts.units_of part) ≤ locals → length (entry_frame part locals).locals ≡ locals
as_many_locals part locals le =
    let n = length (parts.units_of part) in
    let any : Kind = Any in
    filled n (length (replicate (locals - n) any)) (length (parts.units_of part ++ replicate (locals - n) any)) locals le
    (length-replicate (locals - n) any) (length-append (parts.units_of part) (replicate (locals - n) any))

module _ (s : Schema) (w : World) (part : Part) (code : Code) (entry : Entry) (fit : EntryFits s w part entry) where
  pub as_many_units : length (units_of entry) ≡ length (parts.units_of part)
  as_many_units = AllZip-long (λ (k : Kind) (n : ℕ). HasKind s w k (values.Unit n)) (parts.units_of part) (units_of entry) fit

  suits_entry : Suits s w (entry_state code entry) (entry_frame part code.locals)
  suits_entry = record {
    locals = zip_append (LocalHas s w) (parts.units_of part) (replicate (code.locals - length (parts.units_of part)) Any) (map (λ (n : ℕ). let v : Option Value = Some (values.Unit n) in v) (units_of entry)) (replicate (code.locals - length (units_of entry)) None)
        (zip_map (LocalHas s w) (λ (n : ℕ). let v : Option Value = Some (values.Unit n) in v) (parts.units_of part) (units_of entry) fit)
        (subst (λ (n : ℕ). AllZip (LocalHas s w) (replicate (code.locals - length (parts.units_of part)) Any) (replicate (code.locals - n) None)) (sym as_many_units)
        (zip_replicate (LocalHas s w) Any None (code.locals - length (parts.units_of part)) refl));
    stack = tt;
  }

-- before the first step
pub entry_stands : (b : Board) (part : Part) (code : Code) (frames : List Frame) (entry : Entry) → schemas.Fits b.schema → Fits b.schema b.world → Facts b.schema part code frames → EntryFits b.schema b.world part entry
    → Stands b.schema code frames (entry_state code entry, b)
entry_stands b part code frames entry sf fits facts fit =
    settles b.schema code frames sf (entry_state code entry, b) (entry_frame part code.locals) 0 refl fits (as_many_locals part code.locals facts.units) (suits_entry b.schema b.world part code entry fit) refl facts.entry

pub locals_enough : (s : Schema) (w : World) (part : Part) (code : Code) (entry : Entry) → length (parts.units_of part) ≤ code.locals → EntryFits s w part entry → nat_lt code.locals (length (units_of entry)) ≡ false
locals_enough s w part code entry le fit = let same = as_many_units s w part code entry fit in test (length (units_of entry)) (length (parts.units_of part)) code.locals same le
  where
    test : (n k locals : ℕ) → n ≡ k → k ≤ locals → nat_lt locals n ≡ false
    test n k locals same le = grind (arith, nat_tests)
