-- The places of declared frames rise, and what holds where the tables of a code are in order.
use Rattle.std.proofs.Common.{◌≡◌, ℕ, ◌+◌, ◌<◌, ◌≤◌, true, false, List, ◌∷◌, length, drop, get_or, Result, Ok, Err, sym, ap, ◌∙◌, arith, add-one, drop-cons, cond, set, Option, Some}
use Rattle.std.specs.Prelude.{nat_le, nat_lt, ◌||◌}
use Rattle.std.proofs.lemmas.List.{drop_all}
use Rattle.std.proofs.lemmas.Bool.Decides.{nat_tests}
use Rattle.std.proofs.lemmas.Bool.{or_right}
use Rattle.bb_basis.specs.Results.{map_err}
use Rattle.bb_basis.proofs.ResultLemmas.{bind_ok, guard_ok}
use Rattle.bb_schema.specs.Schema.{Schema}
use Rattle.bb_code.specs.Code.{Code, places}
use Rattle.bb_code.specs.declared.frame.FrameEntry.{FrameEntry}
use Rattle.bb_code.specs.declared.flaw.Flaw.{Flaw}
use Rattle.bb_code.specs.declared.flaw.Flaw.TheVariants.{Table}
use Rattle.bb_verify_effect.specs.declared.frame.Frame.{Frame}
use Rattle.bb_verify_effect.specs.declared.part.Part.{Part}
use Rattle.bb_code.specs.Each.{each}
use Rattle.bb_code.specs.Flaws.{fault_at}
use Rattle.bb_verify_effect.specs.Part.{units_of}
use Rattle.bb_verify.specs.Tables.{places_rise, known_frame, enough_locals, frames_in_order, fit_version, table_at, tables}
use Rattle.bb_verify_effect.specs.Frame.{frame_of}
use Rattle.bb_verify.specs.Places.{with_frames}
use Rattle.bb_verify_effect.proofs.Laws.{no_fault}

pub drop_next : (fs : List FrameEntry) (i : ℕ) (e : FrameEntry) → i < length fs → e ≡ get_or fs i e → drop i fs ≡ e ∷ drop (i + 1) fs
drop_next fs i e lt is = drop-cons fs i e lt ∙ (ap (λ k. get_or fs i e ∷ drop k fs) (sym (add-one i)) ∙ ap (λ x. x ∷ drop (i + 1) fs) (sym is))

first_place : (floor count : ℕ) (fs : List FrameEntry) (i : ℕ) (e : FrameEntry) → i < length fs → e ≡ get_or fs i e
    → places_rise floor count (drop i fs) ≡ cond (nat_lt e.place floor || nat_le count e.place) (Err Table) (places_rise (e.place + 1) count (drop (i + 1) fs))
unfolding places_rise
first_place floor count fs i e lt is = ap (places_rise floor count) (drop_next fs i e lt is)

pub rise_low : (floor count : ℕ) (fs : List FrameEntry) (i : ℕ) (e : FrameEntry) (total : Result (Unit {0}) Flaw) → i < length fs → e ≡ get_or fs i e → e.place < floor → places_rise floor count (drop i fs) ≡ total → Err Table ≡ total
rise_low floor count fs i e total lt is low so_far =
    let test : nat_lt e.place floor ≡ true = grind (arith, nat_tests) in
    sym (ap (λ b. cond (b || nat_le count e.place) (Err Table) (places_rise (e.place + 1) count (drop (i + 1) fs))) test) ∙ (sym (first_place floor count fs i e lt is) ∙ so_far)

pub rise_high : (floor count : ℕ) (fs : List FrameEntry) (i : ℕ) (e : FrameEntry) (total : Result (Unit {0}) Flaw) → i < length fs → e ≡ get_or fs i e → count ≤ e.place → places_rise floor count (drop i fs) ≡ total → Err Table ≡ total
rise_high floor count fs i e total lt is high so_far =
    let test : nat_le count e.place ≡ true = grind (arith, nat_tests) in
    sym (ap (λ b. cond b (Err Table) (places_rise (e.place + 1) count (drop (i + 1) fs))) (or_right (nat_lt e.place floor) (nat_le count e.place) test)) ∙ (sym (first_place floor count fs i e lt is) ∙ so_far)

pub rise_next : (floor count : ℕ) (fs : List FrameEntry) (i : ℕ) (e : FrameEntry) (total : Result (Unit {0}) Flaw) → i < length fs → e ≡ get_or fs i e → floor ≤ e.place → e.place < count → places_rise floor count (drop i fs) ≡ total → places_rise (e.place + 1) count (drop (i + 1) fs) ≡ total
rise_next floor count fs i e total lt is low high so_far =
    let first : nat_lt e.place floor ≡ false = grind (arith, nat_tests) in
    let second : nat_le count e.place ≡ false = grind (arith, nat_tests) in
    sym (ap (λ b. cond (b || nat_le count e.place) (Err Table) (places_rise (e.place + 1) count (drop (i + 1) fs))) first ∙ ap (λ b. cond b (Err Table) (places_rise (e.place + 1) count (drop (i + 1) fs))) second) ∙ (sym (first_place floor count fs i e lt is) ∙ so_far)

pub rise_end : (floor count : ℕ) (fs : List FrameEntry) (i : ℕ) (total : Result (Unit {0}) Flaw) → length fs ≤ i → places_rise floor count (drop i fs) ≡ total → Ok tt ≡ total
unfolding places_rise
rise_end floor count fs i total le so_far = sym (ap (places_rise floor count) (drop_all i fs le)) ∙ so_far

-- ---- declared frames put at their places

pub frames_next : (all new : List (Option Frame)) (fs : List FrameEntry) (i : ℕ) (e : FrameEntry) (total : List (Option Frame)) → i < length fs → e ≡ get_or fs i e → new ≡ set all e.place (Some (frame_of e.frame)) → with_frames all (drop i fs) ≡ total → with_frames new (drop (i + 1) fs) ≡ total
unfolding with_frames
frames_next all new fs i e total lt is put so_far = ap (λ t. with_frames t (drop (i + 1) fs)) put ∙ (sym (ap (with_frames all) (drop_next fs i e lt is)) ∙ so_far)

pub frames_end : (all : List (Option Frame)) (fs : List FrameEntry) (i : ℕ) (total : List (Option Frame)) → length fs ≤ i → with_frames all (drop i fs) ≡ total → all ≡ total
unfolding with_frames
frames_end all fs i total le so_far = sym (ap (with_frames all) (drop_all i fs le)) ∙ so_far

-- ---- tables in order

-- each declared frame is right, there is a local for each unit of the part, and each op names entries of its tables
pub record InOrder (s : Schema) (part : Part) (code : Code) : Type 0 where
  pub frames : each (known_frame s) code.frames ≡ Ok tt
  pub units : length (units_of part) ≤ code.locals
  pub ops : each (table_at s code) (places code) ≡ Ok tt

units_fit : (part : Part) (code : Code) → enough_locals part code ≡ Ok tt → length (units_of part) ≤ code.locals
unfolding enough_locals
units_fit part code h = let g = guard_ok (nat_lt code.locals (length (units_of part))) Table (Ok tt) tt h in let test = g.0 in grind (arith, nat_tests)

pub tables_ok : (s : Schema) (part : Part) (code : Code) → tables s part code ≡ Ok tt → InOrder s part code
unfolding tables frames_in_order
tables_ok s part code h =
    let version = bind_ok (map_err (fault_at 0) (fit_version s code.version)) _ tt h in
    let all = bind_ok (map_err (fault_at 0) (frames_in_order s part code)) _ tt version.2 in
    let rise = bind_ok (places_rise 0 (length code.ops) code.frames) _ tt (no_fault (fault_at 0) (frames_in_order s part code) tt all.1) in
    let frames = bind_ok (each (known_frame s) code.frames) _ tt rise.2 in
    record { frames = frames.1; units = units_fit part code frames.2; ops = all.2 }

pub tables_fit : (s : Schema) (part : Part) (code : Code) (x : Unit {0}) → Ok x ≡ tables s part code → length (units_of part) ≤ code.locals
tables_fit s part code x h = (tables_ok s part code (sym h)).units
