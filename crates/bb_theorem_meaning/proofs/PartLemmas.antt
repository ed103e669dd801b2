-- The code of a part does what its text means.
use Rattle.std.proofs.Common.{◌≡◌, ℕ, zero, suc, ◌+◌, ◌-◌, ◌≤◌, Bool, true, false, List, length, Option, Some, None, Ok, Err, refl, subst, sym, ap, ◌∙◌, arith}
use Rattle.std.specs.Prelude.{slice_get, nat_lt}
use Rattle.std.proofs.lemmas.Bool.{ltb-true, ltb-false}
use Rattle.std.proofs.lemmas.Option.{slice_get_past}
use Rattle.bb_basis.proofs.ResultLemmas.{same_ok}
use Rattle.bb_code.specs.Code.{Code, IsCode}
use Rattle.bb_verify_effect.specs.declared.part.Part.{Part}
use Rattle.bb_verify_effect.specs.declared.part.Part.TheVariants.{Require, Obviate, Retrigger, Revalidate, Do}
use Rattle.bb_code.specs.declared.op.Op.{Op}
use Rattle.bb_code.specs.declared.op.Op.TheVariants as ops
use Rattle.bb_schema.specs.Schema.{Schema}
use Rattle.bb_schema.specs.Fits as schemas
use Rattle.bb_lang.specs.Blocks.{BlockTree}
use Rattle.bb_compile_scope.specs.Place.{Place}
use Rattle.bb_compile_scope.specs.Ending.{ends}
use Rattle.bb_compile_scope.specs.Scope.{begin_with, of_unit, of_event, mark_of}
use Rattle.bb_theorem_accepted.specs.Buffer.{Buffer}
use Rattle.bb_theorem_accepted.specs.Buffers.{put, leave}
use Rattle.bb_theorem_accepted.specs.Finish.{empty_buffer}
use Rattle.bb_compile.specs.Statements.{left}
use Rattle.bb_compile.specs.Parts.{done, part_code}
use Rattle.bb_compile.specs.declared.part.TheConstants.{LOOP_NESTING}
use Rattle.bb_board.specs.Board.{Board}
use Rattle.bb_board.specs.Fits.{Fits}
use Rattle.bb_board.specs.State.{World}
use Rattle.bb_verify.specs.Budget.{budget}
use Rattle.bb_verify.specs.declared.checked.TheConstants.{FOUND_LIMIT}
use Rattle.bb_verify.specs.Accepted.{checked}
use Rattle.bb_verify_effect.specs.declared.frame.Frame.{Frame}
use Rattle.bb_machine.specs.Activation.{Execution, halted, steps_from, activation}
use Rattle.bb_machine.specs.declared.outcome.Answer.TheVariants.{Done}
use Rattle.bb_machine.specs.Changing.{State}
use Rattle.bb_machine.specs.declared.outcome.Entry.{Entry}
use Rattle.bb_machine.specs.declared.halt.Halt.{Halt}
use Rattle.bb_machine.specs.declared.halt.Halt.TheVariants as halts
use Rattle.bb_machine.specs.Jumping.{answered}
use Rattle.bb_machine.specs.Machine.{Machine, go_to, units_of, entry_state}
use Rattle.bb_machine.specs.Step.{step}
use Rattle.bb_machine.specs.declared.outcome.Stop.TheVariants as stops
use Rattle.bb_machine.specs.declared.outcome.Stuck.{Stuck}
use Rattle.bb_machine.specs.declared.outcome.Stuck.TheVariants as reasons
use Rattle.bb_machine.proofs.Laws.{activation_schema, by_op}
use Rattle.bb_theorem_machine.specs.NeverWrong.{Begins, EntryFits, NeverStuck, Stands, after}
use Rattle.bb_theorem_machine.proofs.Laws.{activation_fits, activation_never_stuck, each_stands}
use Rattle.bb_theorem_accepted.proofs.Laws.{Has, put_ok, op_at, PartLaid, part_laid, Finds, InBlock, text_accepted}
use Rattle.bb_verify.proofs.Laws.{checked_facts}
use Rattle.bb_theorem_meaning.specs.Meaning.{End, Meaning, Name, meaningless}
use Rattle.bb_theorem_meaning.specs.Meaning as comes
use Rattle.bb_theorem_meaning.specs.Statements.{Scene, statements}
use Rattle.bb_theorem_meaning.specs.Parts.{first_names, first_scene, ended, meaning}
use Rattle.bb_theorem_meaning.specs.Classes.{HasClasses}
use Rattle.bb_theorem_meaning.specs.Loopless.{is_loopless}
use Rattle.bb_theorem_meaning.specs.Told.{IsTold}
use Rattle.bb_theorem_meaning.proofs.ComeLemmas.{Came, Leaves, was_before, Comes, comes_first, Gets, goes_there, ended_steps}
use Rattle.bb_theorem_meaning.proofs.NameLemmas.{AreHeld}
use Rattle.bb_theorem_meaning.proofs.AtomLemmas.{Good}
use Rattle.bb_theorem_meaning.proofs.ActLemmas.{IsTidy, IsScene}
use Rattle.bb_theorem_meaning.proofs.BudgetLemmas.{whole_has, has_block, few_steps}
use Rattle.bb_theorem_meaning.proofs.TextLemmas.{block_does}

-- ---- what a part begins with

begin_held : (s : Schema) (w : World) (part : Part) (code : Code) (entry : Entry) → EntryFits s w part entry → AreHeld (entry_state code entry).locals (begin_with part).names (first_names entry)
begin_held s w part code entry fits = by_part part entry.ev fits
  where
    by_part : (p : Part) (o : Option ℕ) → EntryFits s w p (record { it = entry.it; ev = o }) → AreHeld (entry_state code (record { it = entry.it; ev = o })).locals (begin_with p).names (first_names (record { it = entry.it; ev = o }))
    by_part (Require c) None fits = (refl, refl, tt)
    by_part (Require c) (Some n) fits = elim fits.1 [ ]
    by_part (Obviate c of) None fits = elim fits.1 [ ]
    by_part (Obviate c of) (Some n) fits = (refl, refl, (refl, refl, tt))
    by_part (Retrigger c of) None fits = elim fits.1 [ ]
    by_part (Retrigger c of) (Some n) fits = (refl, refl, (refl, refl, tt))
    by_part (Revalidate c) None fits = (refl, refl, tt)
    by_part (Revalidate c) (Some n) fits = elim fits.1 [ ]
    by_part (Do c) None fits = (refl, refl, tt)
    by_part (Do c) (Some n) fits = elim fits.1 [ ]

unit_tidy : (c : ℕ) → IsTidy (of_unit c)
unit_tidy c = record { taken = (refl, tt); apart = (tt, tt) }

event_tidy : (c of : ℕ) → IsTidy (of_event c of)
event_tidy c of = record { taken = (refl, (refl, tt)); apart = (((λ e. absurd (let no : 1 ≡ 0 = e in omega arith)), tt), (tt, tt)) }

begin_tidy : (part : Part) → IsTidy (begin_with part)
begin_tidy (Require c) = unit_tidy c
begin_tidy (Obviate c of) = event_tidy c of
begin_tidy (Retrigger c of) = event_tidy c of
begin_tidy (Revalidate c) = unit_tidy c
begin_tidy (Do c) = unit_tidy c

ended_err : (part : Part) (e : End) → ended part (Err e) ≡ e
ended_err (Require c) e = refl
ended_err (Obviate c of) e = refl
ended_err (Retrigger c of) e = refl
ended_err (Revalidate c) e = refl
ended_err (Do c) e = refl

-- ---- an execution of an accepted code

module _ (part : Part) (frames : List Frame) (code : Code) (entry : Entry) (b : Board) (is : IsCode code) (sf : schemas.Fits b.schema) (fits : Fits b.schema b.world) (begins : Begins part frames code entry b) where
  abbrev start : State
  start = (entry_state code entry, b)

  -- the execution is not stuck, whatever the limit is from its budget on
  not_stuck : (limit : ℕ) (reason : Stuck) (steps found : ℕ) (left : Board) → budget code FOUND_LIMIT ≤ limit → activation limit code entry b ≡ (Err (stops.Stuck reason steps found), left) → ⊥
  not_stuck limit reason steps found left le is_stuck = subst (λ (e : Execution). NeverStuck e.0) is_stuck (activation_never_stuck part frames code entry b limit is sf fits begins le)

  enough : nat_lt code.locals (length (units_of entry)) ≡ false
  enough = by_few (nat_lt code.locals (length (units_of entry))) refl
    where
      by_few : (few : Bool) → nat_lt code.locals (length (units_of entry)) ≡ few → few ≡ false
      by_few true few = absurd (not_stuck (budget code FOUND_LIMIT) reasons.Missing 0 0 b (omega arith) (rw few refl))
      by_few false few = refl

  as_steps : (limit : ℕ) → activation limit code entry b ≡ steps_from limit 0 code start
  as_steps limit = rw enough refl

  no_steps_stuck : (n : ℕ) (m : Machine) (left : Board) → steps_from zero n code (m, left) ≡ (Err (stops.Stuck reasons.Turns n m.found), left)
  unfolding steps_from
  no_steps_stuck n m left = refl

  -- each blackboard that is met fits, and each state stands at its place
  reached : (j : ℕ) (st : State) → after j code start ≡ Some st → Good b.schema st.1 × Stands b.schema code frames st
  reached j st h =
      let plus : j ≡ j + 0 = omega arith in
      let e : activation j code entry b ≡ (Err (stops.Stuck reasons.Turns j st.0.found), st.1) = as_steps j ∙ (ap (λ i. steps_from i 0 code start) plus ∙ (goes_there code start j 0 st h ∙ no_steps_stuck j st.0 st.1)) in (
        record {
          schema = ap (λ (x : Execution). x.1.schema) (sym e) ∙ activation_schema j code entry b;
          fits = subst (λ (x : Execution). Fits b.schema x.1.world) e (activation_fits part frames code entry b j is sf fits begins);
        },
        each_stands part frames code entry b 0 is sf fits begins j st h,
      )

  -- an execution that ended did so within the limit, if that is the budget or more
  at_limit : (limit j : ℕ) (last : State) (op : Op) (halt : Halt) → budget code FOUND_LIMIT ≤ limit → after j code start ≡ Some last → slice_get code.ops last.0.place ≡ Some op → step code op (go_to (last.0.place + 1) last.0, last.1) ≡ Err halt
      → activation limit code entry b ≡ (halted halt (j + 1) last.0.found, last.1)
  at_limit limit j last op halt budgeted h at ends = by_few (nat_lt limit (j + 1)) refl
    where
      by_few : (few : Bool) → nat_lt limit (j + 1) ≡ few → activation limit code entry b ≡ (halted halt (j + 1) last.0.found, last.1)
      by_few false many =
          let le = ltb-false limit (j + 1) many in
          let whole : limit ≡ j + 1 + (limit - (j + 1)) = omega (arith, le) in
          as_steps limit ∙ (ap (λ i. steps_from i 0 code start) whole ∙ ended_steps code start j (limit - (j + 1)) last op halt h at ends)
      by_few true few =
          let lt = ltb-true limit (j + 1) few in
          let whole : j ≡ limit + (j - limit) = omega (arith, lt) in
          let mid = was_before code limit (j - limit) start last (ap (λ i. after i code start) (sym whole) ∙ h) in
          let plus : limit ≡ limit + 0 = omega arith in
          absurd (not_stuck limit reasons.Turns limit mid.0.0.found mid.0.1 budgeted
          (as_steps limit ∙ (ap (λ i. steps_from i 0 code start) plus ∙ (goes_there code start limit 0 mid.0 mid.1 ∙ no_steps_stuck limit mid.0.0 mid.0.1))))

  -- what an execution came to, where it ended
  ended_is_told : (r : Meaning Scene) (P : Scene → State → Type 0) (n limit : ℕ) (halt : Halt) (left : Board) → budget code FOUND_LIMIT ≤ limit → Comes code start n (Err (halt, left)) → Leaves P r (Err (halt, left)) → IsTold (ended part r) (activation limit code entry b)
  ended_is_told r P n limit (halts.Answered a) left budgeted c h =
      subst (IsTold (ended part r)) (sym (at_limit limit c.0 c.1 c.2 (halts.Answered a) budgeted c.3 c.4 c.5)) (ap (ended part) h ∙ (ended_err part (comes.answered a left) ∙ ap (comes.answered a) (sym c.6)))
  ended_is_told r P n limit halts.Full left budgeted c h =
      subst (IsTold (ended part r)) (sym (at_limit limit c.0 c.1 c.2 halts.Full budgeted c.3 c.4 c.5)) (ap (ended part) h ∙ (ended_err part (comes.full left) ∙ ap comes.full (sym c.6)))
  ended_is_told r P n limit (halts.Stuck reason) left budgeted c h =
      absurd (not_stuck limit reason (c.0 + 1) c.1.0.found c.1.1 budgeted (at_limit limit c.0 c.1 c.2 (halts.Stuck reason) budgeted c.3 c.4 c.5))
  ended_is_told r P n limit halts.Memory left budgeted c h = absurd h

  -- ---- after the last statement

  done_on : (m : Machine) (left : Board) → step code ops.Done (m, left) ≡ answered Done
  unfolding step
  done_on m left = refl

  -- a `do` has done its work
  told_done : (class : ℕ) (r : Meaning Scene) (t : Buffer) (limit : ℕ) (st : State) (x : Scene) → part ≡ Do class → slice_get code.ops (length t.ops) ≡ Some ops.Done → budget code FOUND_LIMIT ≤ limit → Comes code start (length t.ops) (Ok st) → r ≡ Ok x → st.1 ≡ x.board
      → IsTold (ended part r) (activation limit code entry b)
  told_done class r t limit st x do_is at budgeted c means board =
      subst (IsTold (ended part r)) (sym (at_limit limit c.1 st ops.Done (halts.Answered Done) budgeted c.3 (ap (slice_get code.ops) c.0 ∙ at) (done_on (go_to (st.0.place + 1) st.0) st.1)))
      (ap (λ p. ended p r) do_is ∙ (ap (ended (Do class)) means ∙ ap (comes.answered Done) (sym board)))

  -- another part does not come to its end
  told_else : {A : Type 0} (n : ℕ) (st : State) → length code.ops ≤ n → Comes code start n (Ok st) → A
  told_else n st le c =
      let past : slice_get code.ops n ≡ None = slice_get_past code.ops n le in
      let here : None ≡ slice_get code.ops st.0.place = sym past ∙ ap (slice_get code.ops) (sym c.0) in
      let k = budget code FOUND_LIMIT in
      let j = c.1 in
      let e : activation (j + suc k) code entry b ≡ (Err (stops.Stuck reasons.Outside j st.0.found), st.1) = as_steps (j + suc k) ∙ (goes_there code start j (suc k) st c.3 ∙ by_op k j code st.0 st.1 None here) in
      absurd (not_stuck (j + suc k) reasons.Outside j st.0.found st.1 (omega arith) e)

  -- ---- the whole

  module _ (place : Place) (block : BlockTree) (limit : ℕ) (enough_steps : budget code FOUND_LIMIT ≤ limit) (laid : PartLaid b.schema part place block code)
      (before : InBlock b.schema part (λ s. Finds b.schema sf frames (length s.ops) s.scope.kinds) block LOOP_NESTING false laid.now (empty_buffer part place) laid.behind laid.block_is) where
    abbrev first : Buffer
    first = empty_buffer part place

    abbrev t : Buffer
    t = laid.behind

    abbrev u : Buffer
    u = laid.whole

    has : Has code t
    has = (has_block b.schema part place block code laid).0

    block_gets : Gets code start (IsScene (length t.ops) t.scope.names) (statements block (first_scene entry b)) (length t.ops)
    block_gets =
        (block_does b.schema sf part code frames start reached block LOOP_NESTING false laid.now first t refl laid.block_is before has).gets (begin_tidy part) start (first_scene entry b) (comes_first code start)
        (record { place = refl; held = begin_held b.schema b.world part code entry begins.units; stack = refl; board = refl })

    by_came : (class : ℕ) → part ≡ Do class → slice_get code.ops (length t.ops) ≡ Some ops.Done → (came : Came) → Comes code start (length t.ops) came
        → Leaves (IsScene (length t.ops) t.scope.names) (statements block (first_scene entry b)) came → IsTold (ended part (statements block (first_scene entry b))) (activation limit code entry b)
    by_came class part_is at (Ok st) c l = told_done class (statements block (first_scene entry b)) t limit st l.0 part_is at enough_steps c l.1 l.2.board
    by_came class part_is at (Err (halt, left)) c l = ended_is_told (statements block (first_scene entry b)) (IsScene (length t.ops) t.scope.names) (length t.ops) limit halt left enough_steps c l

    by_end : length code.ops ≡ length t.ops → (came : Came) → Comes code start (length t.ops) came → Leaves (IsScene (length t.ops) t.scope.names) (statements block (first_scene entry b)) came
        → IsTold (ended part (statements block (first_scene entry b))) (activation limit code entry b)
    by_end count (Ok st) c l = told_else (length t.ops) st (omega (arith, count)) c
    by_end count (Err (halt, left)) c l = ended_is_told (statements block (first_scene entry b)) (IsScene (length t.ops) t.scope.names) (length t.ops) limit halt left enough_steps c l

    do_told : (class : ℕ) → part ≡ Do class → put ops.Done (leave (mark_of first.scope) t) ≡ Ok u → IsTold (ended part (statements block (first_scene entry b))) (activation limit code entry b)
    do_told class part_is last =
        let was = leave (mark_of first.scope) t in
        let at : slice_get code.ops (length t.ops) ≡ Some ops.Done = op_at code was u ops.Done (put_ok ops.Done was u last) refl (whole_has b.schema part place block code laid) in
        let g = block_gets in
        by_came class part_is at g.0 g.1 g.2

    else_told : leave (mark_of first.scope) t ≡ u → IsTold (ended part (statements block (first_scene entry b))) (activation limit code entry b)
    else_told last =
        let e : length code.ops ≡ length t.ops = ap (λ (c : Code). length c.ops) (sym laid.same) ∙ ap (λ (x : Buffer). length x.ops) (sym last) in
        let g = block_gets in
        by_end e g.0 g.1 g.2

    by_part : (p : Part) → part ≡ p → done p (leave (mark_of first.scope) t) ≡ Ok u → IsTold (ended part (statements block (first_scene entry b))) (activation limit code entry b)
    by_part (Do class) part_is last = do_told class part_is last
    by_part (Require c) part_is last = else_told (same_ok (leave (mark_of first.scope) t) u last)
    by_part (Obviate c of) part_is last = else_told (same_ok (leave (mark_of first.scope) t) u last)
    by_part (Retrigger c of) part_is last = else_told (same_ok (leave (mark_of first.scope) t) u last)
    by_part (Revalidate c) part_is last = else_told (same_ok (leave (mark_of first.scope) t) u last)

    pub part_told : IsTold (meaning part block entry b) (activation limit code entry b)
    part_told = by_part part refl laid.last

-- ---- a code that is accepted does what its text means, and that of any part is accepted

begins_so : (part : Part) (code : Code) (frames : List Frame) (entry : Entry) (b : Board) → IsCode code → checked b.schema part code ≡ Ok (record { code = code; part = part; frames = frames }) → EntryFits b.schema b.world part entry → Begins part frames code entry b
begins_so part code frames entry b is accepted entry_fits = record { accepted = checked_facts b.schema part code (record { code = code; part = part; frames = frames }) accepted is.ops.some; units = entry_fits }

pub loopless_told : (part : Part) (code : Code) (entry : Entry) (b : Board) → IsCode code → schemas.Fits b.schema → Fits b.schema b.world → (place : Place) (block : BlockTree) (limit : ℕ) → is_loopless block ≡ true → HasClasses b.schema part → part_code b.schema part place block ≡ Ok code
    → EntryFits b.schema b.world part entry → length code.ops ≤ limit → IsTold (meaning part block entry b) (activation limit code entry b)
loopless_told part code entry b is sf fits place block limit loopless classes code_is entry_fits enough =
    let laid = part_laid b.schema part place block code code_is in
    let it = text_accepted b.schema sf part classes place block code laid in
    let count = few_steps b.schema part place block code loopless (begin_tidy part) laid in
    part_told part it.0 code entry b is sf fits (begins_so part code it.0 entry b is it.1 entry_fits) place block limit (omega (arith, count, enough)) laid it.2

-- a code of any text
pub text_told : (part : Part) (code : Code) (entry : Entry) (b : Board) → IsCode code → schemas.Fits b.schema → Fits b.schema b.world → (place : Place) (block : BlockTree) (limit : ℕ) → HasClasses b.schema part → part_code b.schema part place block ≡ Ok code
    → EntryFits b.schema b.world part entry → budget code FOUND_LIMIT ≤ limit → IsTold (meaning part block entry b) (activation limit code entry b)
text_told part code entry b is sf fits place block limit classes code_is entry_fits enough =
    let laid = part_laid b.schema part place block code code_is in
    let it = text_accepted b.schema sf part classes place block code laid in
    part_told part it.0 code entry b is sf fits (begins_so part code it.0 entry b is it.1 entry_fits) place block limit enough laid it.2
