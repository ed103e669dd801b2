-- A `for` does what it means: its body is run through for each unit of its sequence that is still live.
use Rattle.std.proofs.Common.{◌≡◌, ℕ, ◌+◌, ◌<◌, ◌≤◌, Bool, true, false, cond, List, [], ◌∷◌, ◌++◌, length, Option, Some, None, Result, Ok, Err, refl, subst, sym, ap, ◌∙◌, arith, length-append}
use Rattle.std.specs.Prelude.{slice_get, set, nat_le}
use Rattle.std.proofs.lemmas.Bool.{leb-true}
use Rattle.std.proofs.lemmas.List.{length-set}
use Rattle.std.proofs.lemmas.Option.{slice_get_within}
use Rattle.bb_basis.specs.Results.{◌>>=◌}
use Rattle.bb_basis.proofs.ListLemmas.{slice_get-set}
use Rattle.bb_code.specs.Code.{Code}
use Rattle.bb_verify_effect.specs.declared.part.Part.{Part}
use Rattle.bb_code.specs.declared.frame.Kind.TheVariants as kinds
use Rattle.bb_code.specs.declared.op.Op.{Op}
use Rattle.bb_code.specs.declared.op.Op.TheVariants as ops
use Rattle.bb_verify_effect.specs.declared.frame.Frame.{Frame}
use Rattle.bb_schema.specs.Schema.{Schema}
use Rattle.bb_schema.specs.Fits as schemas
use Rattle.bb_units.specs.Units.{is_live}
use Rattle.bb_lang.specs.Blocks.{BlockTree}
use Rattle.bb_lang.specs.Sequence.{Sequence as SequenceText}
use Rattle.bb_theorem_accepted.specs.Buffer.{Buffer}
use Rattle.bb_board.specs.Board.{Board}
use Rattle.bb_board.specs.Fits as fits
use Rattle.bb_machine.specs.Changing.{State}
use Rattle.bb_machine.specs.declared.halt.Halt.{Halt}
use Rattle.bb_machine.specs.Jumping.{after_next, next_unit}
use Rattle.bb_machine.specs.Machine.{Machine, with_stack, with_local, emptied, go_to, push, room, local_at, store, taken, next_in}
use Rattle.bb_machine.specs.Sequence.{Sequence, from_live, first_of}
use Rattle.bb_machine.specs.Step.{step, keeps}
use Rattle.bb_machine.specs.declared.value.Value.{Value}
use Rattle.bb_machine.specs.declared.value.Value.TheVariants.{Unit as One, Seq}
use Rattle.bb_theorem_machine.specs.NeverWrong.{Stands, after}
use Rattle.bb_theorem_accepted.proofs.Laws.{with_op, ForLaid, LoopRuns}
use Rattle.bb_compile_scope.proofs.Laws.{free_first}
use Rattle.bb_theorem_meaning.specs.Meaning.{Meaning, Name}
use Rattle.bb_theorem_meaning.specs.Statements.{Scene, where_named, where_unit, for_each, statements}
use Rattle.bb_theorem_meaning.proofs.ComeLemmas.{Came, Leaves, leaves_on, more_after, then_after, Spares, AllFit, Stays, Comes, comes_first, stays_on, Gets, gets_then}
use Rattle.bb_theorem_meaning.proofs.NameLemmas.{AreHeld}
use Rattle.bb_theorem_meaning.proofs.AtomLemmas.{Good}
use Rattle.bb_theorem_meaning.proofs.SceneLemmas.{AreOthers, free_other, held_apart}
use Rattle.bb_theorem_meaning.proofs.KeepLemmas.{moves_on, held_count}
use Rattle.bb_theorem_meaning.proofs.ActLemmas.{IsTidy, IsScene, Holds, Acts, Declares, declare_ok, declared_tidy, declared_moves, declare_gets}
use Rattle.bb_theorem_meaning.proofs.BlockLemmas.{tidy_kept}
use Rattle.bb_theorem_meaning.proofs.BranchLemmas.{left_gets}

-- what is known of the states that an execution of a code comes to
abbrev pub Reached : (schema : Schema) (code : Code) (frames : List Frame) → State → Type 0
Reached schema code frames start = (j : ℕ) (st : State) → after j code start ≡ Some st → Good schema st.1 × Stands schema code frames st

-- ---- the op at the head, and that at the end

module _ (code : Code) where
  -- what comes of a sequence whose first live unit is the first of a list
  abbrev next_of : (l at found : ℕ) → List ℕ → Machine → Result Machine Halt
  next_of l at found front m = after_next at (first_of found front).0 (with_local l (Seq (first_of found front).1) (emptied l m))

  next_on : (l at : ℕ) (m : Machine) (b : Board) (q : Sequence) → slice_get m.locals l ≡ Some (Some (Seq q)) → nat_le (length (set m.locals l None)) l ≡ false
      → step code (ops.Next l at) (m, b) ≡ keeps b (next_of l at q.found (from_live b.world.units q.rest) m)
  unfolding step next_unit next_in taken local_at store
  next_on l at m b q is few = rw (is, few) refl

  -- a local that holds something is there, and there it stays
  inside : (ls : List (Option Value)) (l : ℕ) (x : Option Value) → slice_get ls l ≡ Some x → nat_le (length (set ls l None)) l ≡ false
  inside ls l x at = by_few (nat_le (length (set ls l None)) l) refl
    where
      by_few : (few : Bool) → nat_le (length (set ls l None)) l ≡ few → few ≡ false
      by_few false h = refl
      by_few true h =
          let lt = slice_get_within ls l x at in
          let same = length-set ls l None in
          let le = leb-true (length (set ls l None)) l h in
          absurd (omega (arith, lt, same, le))

  -- there is no unit left
  none_next : (l at : ℕ) (m : Machine) (b : Board) (q : Sequence) → slice_get m.locals l ≡ Some (Some (Seq q)) → from_live b.world.units q.rest ≡ []
      → step code (ops.Next l at) (m, b) ≡ Ok (go_to at (with_local l (Seq (record { rest = []; found = q.found })) (emptied l m)), b)
  none_next l at m b q is none = next_on l at m b q is (inside m.locals l (Some (Seq q)) is) ∙ ap (λ front. keeps b (next_of l at q.found front m)) none

  pushed_next : (l at found n : ℕ) (ns : List ℕ) (m : Machine) (b : Board) → m.stack ≡ []
      → keeps b (next_of l at found (n ∷ ns) m) ≡ Ok (with_stack (One n ∷ []) (with_local l (Seq (record { rest = ns; found = found })) (emptied l m)), b)
  unfolding push room
  pushed_next l at found n ns m b stack = rw stack refl

  -- there is one
  some_next : (l at n : ℕ) (ns : List ℕ) (m : Machine) (b : Board) (q : Sequence) → m.stack ≡ [] → slice_get m.locals l ≡ Some (Some (Seq q)) → from_live b.world.units q.rest ≡ n ∷ ns
      → step code (ops.Next l at) (m, b) ≡ Ok (with_stack (One n ∷ []) (with_local l (Seq (record { rest = ns; found = q.found })) (emptied l m)), b)
  some_next l at n ns m b q stack is some = next_on l at m b q is (inside m.locals l (Some (Seq q)) is) ∙ (ap (λ front. keeps b (next_of l at q.found front m)) some ∙ pushed_next l at q.found n ns m b stack)

  back_on : (at : ℕ) (m : Machine) (b : Board) → step code (ops.Back at) (m, b) ≡ Ok (go_to at m, b)
  unfolding step
  back_on at m b = refl

-- a unit that is not live is passed over
dead_first : (b : Board) (n : ℕ) (ns : List ℕ) → is_live b.world.units n ≡ false → from_live b.world.units (n ∷ ns) ≡ from_live b.world.units ns
unfolding from_live
dead_first b n ns dead = rw dead refl

live_first : (b : Board) (n : ℕ) (ns : List ℕ) → is_live b.world.units n ≡ true → from_live b.world.units (n ∷ ns) ≡ n ∷ ns
unfolding from_live
live_first b n ns live = rw live refl

no_first : (b : Board) → from_live b.world.units [] ≡ []
unfolding from_live
no_first b = refl

module _ (schema : Schema) (sf : schemas.Fits schema) (part : Part) (code : Code) (frames : List Frame) (loops : ℕ) (name : List ℕ) (sequence : SequenceText) (body : BlockTree) (s t : Buffer) (now : Bool)
    (f : ForLaid schema part loops name sequence body s t now) (lr : LoopRuns code schema part loops name sequence body s t now f) (tidy : IsTidy s.scope)
    (own : (start : State) → Reached schema code frames start → Acts code start f.inner f.end (statements body)) where
  abbrev head : ℕ
  head = length f.held.ops

  abbrev l : ℕ
  l = f.local

  abbrev next_buffer : Buffer
  next_buffer = with_op (ops.Next l 0) f.head_is.head

  -- the local of the sequence is that of no name
  apart : AreOthers l s.scope.names
  apart = free_other s.scope.names s.scope.kinds l tidy.taken (free_first s.scope.kinds l lr.free)

  fits_all : (start : State) → Reached schema code frames start → AllFit code start
  fits_all start reached i st h =
      let good = (reached i st h).0 in
      (subst schemas.Fits (sym good.schema) sf, subst (λ z. fits.Fits z st.1.world) (sym good.schema) good.fits)

  -- ---- the name of the unit, and the body

  place_next : length next_buffer.ops ≡ head + 1
  place_next = length-append f.head_is.head.ops (ops.Next l 0 ∷ []) ∙ ap (λ n. n + 1) lr.head_count

  tidy_next : IsTidy next_buffer.scope
  tidy_next = tidy_kept s.scope next_buffer.scope lr.head_names lr.head_keeps tidy

  declares : Declares name (kinds.Ref f.class) next_buffer f.inner
  declares = declare_ok name (kinds.Ref f.class) next_buffer f.inner f.head_is.declared

  tidy_inner : IsTidy f.inner.scope
  tidy_inner = declared_tidy name (kinds.Ref f.class) next_buffer f.inner declares refl tidy_next

  -- with a unit on the stack, up to the end of the body
  body_gets : (n : ℕ) (scene : Scene) (st : State) → Reached schema code frames st → st.0.place ≡ head + 1 → Holds code st (head + 1) s.scope.names scene (One n) st
      → Gets code st (IsScene (length f.end.ops) s.scope.names) (where_unit (statements body) name n scene) (length f.end.ops)
  body_gets n scene st reached place holds =
      let block = own st reached in
      let inner = where_named name (One n) scene in
      let le = lr.within in
      let named = declare_gets code st name (kinds.Ref f.class) next_buffer f.inner declares lr.has_inner tidy_next st scene (One n)
      (subst (λ i. Comes code st i (Ok st)) (place ∙ sym place_next) (comes_first code st))
      (subst (λ ns. Holds code st (length next_buffer.ops) ns scene (One n) st) (sym lr.head_names) (subst (λ i. Holds code st i s.scope.names scene (One n) st) (sym place_next) holds)) in
      let got = gets_then code st (IsScene (length f.inner.ops) f.inner.scope.names) (IsScene (length f.end.ops) f.end.scope.names) (Ok inner) (statements body) (length f.inner.ops) (length f.end.ops) le named
      (λ x next c is. block.gets tidy_inner next x c is) in
      let moves = moves_on next_buffer.scope f.inner.scope f.end.scope (declared_moves name (kinds.Ref f.class) next_buffer f.inner declares refl) (block.moves tidy_inner) in
      let names : f.end.scope.names ≡ s.scope.names ++ moves.more = moves.names ∙ ap (λ ns. ns ++ moves.more) lr.head_names in
      left_gets code st s.scope.names moves.more (length f.end.ops) scene (statements body inner) (held_count st.0.locals s.scope.names scene.names holds.held)
      (subst (λ ns. Gets code st (IsScene (length f.end.ops) ns) (statements body inner) (length f.end.ops)) names got)

  -- ---- the loop

  module _ (start : State) (reached : Reached schema code frames start) (low : start.0.place ≤ head) where
    -- a state at the head, with what is left of the sequence
    pub record AtHead (st : State) (scene : Scene) (q : Sequence) : Type 0 where
      pub j : ℕ
      pub steps : after j code start ≡ Some st
      pub stays : Stays code start lr.over st
      pub here : IsScene head s.scope.names scene st
      pub held : slice_get st.0.locals l ≡ Some (Some (Seq q))

    abbrev GetsOver : Meaning Scene → Type 0
    GetsOver r = Gets code start (IsScene lr.over s.scope.names) r lr.over

    head_low : head < lr.over
    head_low = let a = lr.inner in let b = lr.within in let c = lr.end in omega (arith, a, b, c)

    -- another value in the local
    held_kept : (locals : List (Option Value)) (x y : Option Value) (ms : List Name) → AreHeld locals s.scope.names ms → AreHeld (set (set locals l x) l y) s.scope.names ms
    held_kept locals x y ms held = held_apart (set locals l x) l y s.scope.names ms apart (held_apart locals l x s.scope.names ms apart held)

    op_here : (st : State) (scene : Scene) (op : Op) (r : Result State Halt) → IsScene head s.scope.names scene st → slice_get code.ops head ≡ Some op → step code op (go_to (head + 1) st.0, st.1) ≡ r
        → (slice_get code.ops st.0.place ≡ Some op) × (step code op (go_to (st.0.place + 1) st.0, st.1) ≡ r)
    op_here st scene op r here at is = (ap (slice_get code.ops) here.place ∙ at, ap (λ i. step code op (go_to (i + 1) st.0, st.1)) here.place ∙ is)

    -- no unit is left
    over_gets : (st : State) (scene : Scene) (q : Sequence) → AtHead st scene q → from_live st.1.world.units q.rest ≡ [] → GetsOver (Ok scene)
    over_gets st scene q a none =
        let later : Value = Seq (record { rest = []; found = q.found }) in
        let m : Machine = go_to (head + 1) st.0 in
        let next : State = (go_to lr.over (with_local l later (emptied l m)), st.1) in
        let is : step code (ops.Next l lr.over) (m, st.1) ≡ Ok next = none_next code l lr.over m st.1 q a.held none in
        let op = op_here st scene (ops.Next l lr.over) (Ok next) a.here lr.at_head is in
        let lt = head_low in (
          Ok next,
          (
            refl,
            a.j + 1,
            omega (arith, low, lt),
            more_after code a.j start st (ops.Next l lr.over) next a.steps op.0 op.1,
            stays_on code start lr.over head lr.over a.j st (ops.Next l lr.over) next (omega arith) lt low a.steps a.stays lr.at_head is,
          ),
          (scene, refl, record { place = refl; held = held_kept st.0.locals None (Some later) scene.names a.here.held; stack = a.here.stack; board = a.here.board }),
        )

    module _ (n : ℕ) (ms : List ℕ) (st : State) (scene : Scene) (q : Sequence) (a : AtHead st scene q) (some : from_live st.1.world.units q.rest ≡ n ∷ ms)
        (again : (st : State) (scene : Scene) (q : Sequence) → AtHead st scene q → q.rest ≡ ms → GetsOver (for_each (statements body) name ms scene)) where
      abbrev rest : Sequence
      rest = record { rest = ms; found = q.found }

      abbrev m : Machine
      m = go_to (head + 1) st.0

      -- after the head
      abbrev st1 : State
      st1 = (with_stack (One n ∷ []) (with_local l (Seq rest) (emptied l m)), st.1)

      next_leads : step code (ops.Next l lr.over) (m, st.1) ≡ Ok st1
      next_leads = some_next code l lr.over n ms m st.1 q a.here.stack a.held some

      steps1 : after (a.j + 1) code start ≡ Some st1
      steps1 = let op = op_here st scene (ops.Next l lr.over) (Ok st1) a.here lr.at_head next_leads in more_after code a.j start st (ops.Next l lr.over) st1 a.steps op.0 op.1

      stays1 : Stays code start lr.over st1
      stays1 = let lt = head_low in stays_on code start lr.over head lr.over a.j st (ops.Next l lr.over) st1 (omega arith) lt low a.steps a.stays lr.at_head next_leads

      reached1 : Reached schema code frames st1
      reached1 i x h = reached (a.j + 1 + i) x (then_after code (a.j + 1) i start st1 x steps1 h)

      holds1 : Holds code st1 (head + 1) s.scope.names scene (One n) st1
      holds1 = record { place = refl; held = held_kept st.0.locals None (Some (Seq rest)) scene.names a.here.held; stack = refl; board = a.here.board }

      held1 : slice_get st1.0.locals l ≡ Some (Some (Seq rest))
      held1 =
          let lt = slice_get_within st.0.locals l (Some (Seq q)) a.held in
          let same = length-set st.0.locals l None in
          slice_get-set (set st.0.locals l None) l (Some (Seq rest)) (omega (arith, lt, same))

      end_low : length f.end.ops < lr.over
      end_low = let c = lr.end in omega (arith, c)

      -- no op of the body takes the local
      spares : Spares code (head + 1) (length f.end.ops) l
      spares p op from to there =
          let c = end_low in
          let i = lr.inside p op from (omega (arith, to, c)) there in
          ((λ e. i.store l e refl), (λ q e. (i.next l q e).0 refl))

      abbrev r : Meaning Scene
      r = where_unit (statements body) name n scene

      -- back at the head
      back : (x : Scene) (st3 : State) → Comes code st1 (length f.end.ops) (Ok st3) → IsScene (length f.end.ops) s.scope.names x st3 → GetsOver (for_each (statements body) name ms x)
      back x st3 c here =
          let k = length f.end.ops in
          let st4 : State = (go_to head (go_to (k + 1) st3.0), st3.1) in
          let there = then_after code (a.j + 1) c.1 start st1 st3 steps1 c.3 in
          let at = ap (slice_get code.ops) c.0 ∙ lr.at_back in
          let back_is : step code (ops.Back head) (go_to (st3.0.place + 1) st3.0, st3.1) ≡ Ok st4 = ap (λ i. step code (ops.Back head) (go_to (i + 1) st3.0, st3.1)) c.0 ∙ back_on code head (go_to (k + 1) st3.0) st3.1 in
          again st4 x rest
          (record {
            j = a.j + 1 + c.1 + 1;
            steps = more_after code (a.j + 1 + c.1) start st3 (ops.Back head) st4 there at back_is;
            stays = λ fit i spare.
                c.4 (λ n y h. fit (a.j + 1 + n) y (then_after code (a.j + 1) n start st1 y steps1 h)) i
                (λ p op from to here. let b = end_low in spare p op (omega (arith, low, from)) (omega (arith, to, b)) here)
                ∙ stays1 fit i spare;
            here = record { place = refl; held = here.held; stack = here.stack; board = here.board };
            held = c.4 (fits_all st1 reached1) l spares ∙ held1;
          })
          refl

      by_came : (came : Came) → Comes code st1 (length f.end.ops) came → Leaves (IsScene (length f.end.ops) s.scope.names) r came → GetsOver (r >>= for_each (statements body) name ms)
      by_came (Ok st3) c h = subst (λ r. GetsOver (r >>= for_each (statements body) name ms)) (sym h.1) (back h.0 st3 c h.2)
      by_came (Err (halt, b)) c h = (
        Err (halt, b),
        (a.j + 1 + c.0, c.1, c.2, then_after code (a.j + 1) c.0 start st1 c.1 steps1 c.3, c.4, c.5, c.6),
        leaves_on (IsScene (length f.end.ops) s.scope.names) (IsScene lr.over s.scope.names) r (for_each (statements body) name ms) (halt, b) h,
      )

      turn : GetsOver (r >>= for_each (statements body) name ms)
      turn = let g = body_gets n scene st1 reached1 refl holds1 in by_came g.0 g.1 g.2

    pub loop_gets : (ns : List ℕ) (st : State) (scene : Scene) (q : Sequence) → AtHead st scene q → from_live st.1.world.units q.rest ≡ from_live st.1.world.units ns → GetsOver (for_each (statements body) name ns scene)
    loop_gets [] st scene q a same = over_gets st scene q a (same ∙ no_first st.1)
    loop_gets (n ∷ ms) st scene q a same =
        by_live (is_live scene.board.world.units n) (ap (λ (b : Board). is_live b.world.units n) a.here.board)
        (λ dead. loop_gets ms st scene q a (same ∙ dead_first st.1 n ms dead))
        (λ st' scene' q' at rest. loop_gets ms st' scene' q' at (ap (from_live st'.1.world.units) rest))
      where
        by_live : (live : Bool) → is_live st.1.world.units n ≡ live → (is_live st.1.world.units n ≡ false → GetsOver (for_each (statements body) name ms scene))
            → ((st : State) (scene : Scene) (q : Sequence) → AtHead st scene q → q.rest ≡ ms → GetsOver (for_each (statements body) name ms scene))
            → GetsOver (cond live (where_unit (statements body) name n scene >>= for_each (statements body) name ms) (for_each (statements body) name ms scene))
        by_live true is skip again = turn n ms st scene q a (same ∙ live_first st.1 n ms is) again
        by_live false is skip again = skip is
