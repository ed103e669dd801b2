-- What a `for` lays out does what it means: its sequence, the local that holds it, and its loop.
use Rattle.std.proofs.Common.{◌≡◌, ℕ, ◌+◌, ◌<◌, Bool, true, false, cond, List, [], ◌∷◌, length, Some, Result, Ok, Err, refl, subst, sym, ◌∙◌, arith}
use Rattle.std.specs.Prelude.{slice_get, nat_le}
use Rattle.std.proofs.lemmas.Bool.{leb-false}
use Rattle.bb_basis.specs.Results.{◌>>=◌}
use Rattle.bb_basis.proofs.ListLemmas.{slice_get-set}
use Rattle.bb_basis.proofs.ResultLemmas.{bind_ok, same_ok}
use Rattle.bb_code.specs.Code.{Code}
use Rattle.bb_code.specs.declared.parts.TheConstants.{STACK_LIMIT}
use Rattle.bb_verify_effect.specs.declared.part.Part.{Part}
use Rattle.bb_code.specs.declared.frame.Kind.TheVariants as kinds
use Rattle.bb_code.specs.declared.op.Op.TheVariants as ops
use Rattle.bb_verify_effect.specs.declared.frame.Frame.{Frame}
use Rattle.bb_schema.specs.Schema.{Schema}
use Rattle.bb_schema.specs.Fits as schemas
use Rattle.bb_lang.specs.Blocks.{BlockTree, for_of}
use Rattle.bb_lang.specs.Sequence.{Sequence as SequenceText}
use Rattle.bb_lang.specs.View.{sequence_of}
use Rattle.bb_compile_scope.specs.declared.scope.NamedLocal.{NamedLocal}
use Rattle.bb_compile_scope.proofs.Laws.{free_first}
use Rattle.bb_theorem_accepted.specs.Buffer.{Buffer}
use Rattle.bb_board.specs.Board.{Board}
use Rattle.bb_machine.specs.Changing.{State}
use Rattle.bb_machine.specs.declared.halt.Halt.{Halt}
use Rattle.bb_machine.specs.Machine.{Machine, with_stack, with_local, go_to, store}
use Rattle.bb_machine.specs.Sequence.{whole}
use Rattle.bb_machine.specs.Step.{step, keeps}
use Rattle.bb_machine.specs.declared.outcome.Stuck.TheVariants as reasons
use Rattle.bb_machine.specs.Value.{stuck}
use Rattle.bb_machine.specs.declared.value.Value.{Value}
use Rattle.bb_machine.specs.declared.value.Value.TheVariants.{Seq}
use Rattle.bb_theorem_accepted.proofs.Laws.{Clean, Has, ForLaid, LoopRuns, loop_runs, loop_grown, LoopKeeps, loop_keeps, Sole}
use Rattle.bb_theorem_meaning.specs.Meaning.{Meaning, nothing}
use Rattle.bb_theorem_meaning.specs.Expressions.{units_of}
use Rattle.bb_theorem_meaning.specs.Statements.{Scene, for_each, statement, statements}
use Rattle.bb_theorem_meaning.proofs.ComeLemmas.{Leaves, done_on, Comes, Gets, gets_then, gets_op}
use Rattle.bb_theorem_meaning.proofs.NameLemmas.{AreHeld}
use Rattle.bb_theorem_meaning.proofs.SequenceLemmas.{as_sequence}
use Rattle.bb_theorem_meaning.proofs.ExprLemmas.{sequence_means}
use Rattle.bb_theorem_meaning.proofs.SceneLemmas.{AreOthers, sole_of, free_other, held_apart}
use Rattle.bb_theorem_meaning.proofs.KeepLemmas.{moves_kept}
use Rattle.bb_theorem_meaning.proofs.AtomLemmas.{Good}
use Rattle.bb_theorem_meaning.proofs.ActLemmas.{IsTidy, IsScene, Holds, Acts, act_in, store_on}
use Rattle.bb_theorem_meaning.proofs.BlockLemmas.{tidy_kept}
use Rattle.bb_theorem_meaning.proofs.LoopLemmas.{Reached, loop_gets}

-- what comes of a value that is a sequence
abbrev over_value : (List ℕ → Scene → Meaning Scene) → Scene → Value → Meaning Scene
over_value each scene (Seq q) = each q.rest scene
over_value each scene _ = nothing

over_units : (each : List ℕ → Scene → Meaning Scene) (scene : Scene) (r : Meaning (List ℕ)) → ((let v : Meaning Value = r >>= as_sequence in v) >>= over_value each scene) ≡ (r >>= λ us. each us scene)
over_units each scene (Ok us) = refl
over_units each scene (Err e) = refl

-- a local that is no name's takes the value on the stack
record Stored (l n : ℕ) (ns : List NamedLocal) (v : Value) (scene : Scene) (next : State) : Type 0 where
  scene_is : IsScene n ns scene next
  local : slice_get next.0.locals l ≡ Some (Some v)

store_leaves : (code : Code) (start : State) (l n : ℕ) (ns : List NamedLocal) (scene : Scene) (m : Machine) (b : Board) (v : Value) → AreOthers l ns → m.place ≡ n → m.stack ≡ v ∷ [] → b ≡ scene.board → AreHeld m.locals ns scene.names
    → Leaves (Stored l n ns v) (Ok scene) (done_on b (step code (ops.Store l) (m, b)))
unfolding store
store_leaves code start l n ns scene m b v others place stack board held =
    subst (λ r. Leaves (Stored l n ns v) (Ok scene) (done_on b r)) (sym (store_on code start l m b v stack)) (by_few (nat_le (length m.locals) l) refl)
  where
    by_few : (few : Bool) → nat_le (length m.locals) l ≡ few → Leaves (Stored l n ns v) (Ok scene) (done_on b (keeps b (let r : Result Machine Halt = cond few (stuck reasons.Missing) (Ok (with_local l v (with_stack [] m))) in r)))
    by_few true few = tt
    by_few false few = (
      scene,
      refl,
      record {
        scene_is = record { place = place; held = held_apart m.locals l (Some v) ns scene.names others held; stack = refl; board = board };
        local = slice_get-set m.locals l (Some v) (leb-false (length m.locals) l few);
      },
    )

module _ (schema : Schema) (sf : schemas.Fits schema) (part : Part) (code : Code) (frames : List Frame) (start : State) (reached : Reached schema code frames start) (loops : ℕ) (name : List ℕ) (sequence : SequenceText) (body : BlockTree) (s t : Buffer) (now : Bool)
    (f : ForLaid schema part loops name sequence body s t now) (has : Has code t) (own : (start : State) → Reached schema code frames start → Acts code start f.inner f.end (statements body)) where
  good : (n : ℕ) (st : State) → Comes code start n (Ok st) → Good schema st.1
  good n st c = (reached c.1 st c.3).0

  abbrev before : Buffer
  before = f.sequence_is.behind

  abbrev each : List ℕ → Scene → Meaning Scene
  each us scene = for_each (statements body) name us scene

  abbrev GetsEnd : Meaning Scene → Type 0
  GetsEnd r = Gets code start (IsScene (length t.ops) t.scope.names) r (length t.ops)

  module _ (tidy : IsTidy s.scope) where
    sole : Sole s.scope.kinds s.scope.names
    sole = sole_of s.scope.kinds s.scope.names tidy.taken tidy.apart

    runs : LoopRuns code schema part loops name sequence body s t now f
    runs = loop_runs code schema part loops name sequence body s t now f sole has

    keeps_names : LoopKeeps schema part loops name sequence body s t now f
    keeps_names = loop_keeps schema part loops name sequence body s t now f sole

    others : AreOthers f.local s.scope.names
    others = free_other s.scope.names s.scope.kinds f.local tidy.taken (free_first s.scope.kinds f.local runs.free)

    -- the sequence is in its local
    stored_gets : (st : State) (scene : Scene) (v : Value) → Comes code start (length before.ops) (Ok st) → Holds code start (length before.ops) s.scope.names scene v st
        → Gets code start (Stored f.local (length f.held.ops) s.scope.names v) (Ok scene) (length f.held.ops)
    stored_gets st scene v c h =
        subst (λ n. Gets code start (Stored f.local n s.scope.names v) (Ok scene) n) (sym runs.held)
        (gets_op code start (Stored f.local (length before.ops + 1) s.scope.names v) (Ok scene) (length before.ops) st (ops.Store f.local) c runs.at_store (λ x next p. p.scene_is.place)
        (store_leaves code start f.local (length before.ops + 1) s.scope.names scene (go_to (length before.ops + 1) st.0) st.1 v others refl h.stack h.board h.held))

    head_over : length f.held.ops < runs.over
    head_over = let a = runs.inner in let b = runs.within in let c = runs.end in omega (arith, a, b, c)

    -- the loop, from its head on
    each_gets : (us : List ℕ) (st : State) (scene : Scene) → Comes code start (length before.ops) (Ok st) → Holds code start (length before.ops) s.scope.names scene (Seq (whole us)) st → GetsEnd (each us scene)
    each_gets us st scene c h =
        let lt = head_over in
        subst (λ n. Gets code start (IsScene n t.scope.names) (each us scene) n) (sym runs.whole)
        (subst (λ ns. Gets code start (IsScene runs.over ns) (each us scene) runs.over) (sym keeps_names.names)
        (gets_then code start (Stored f.local (length f.held.ops) s.scope.names (Seq (whole us))) (IsScene runs.over s.scope.names) (Ok scene) (each us) (length f.held.ops) runs.over (omega (arith, lt)) (stored_gets st scene (Seq (whole us)) c h)
        (λ x next c' p.
        loop_gets schema sf part code frames loops name sequence body s t now f runs tidy own start reached c'.2 us next x (whole us)
        (record {
          j = c'.1;
          steps = c'.3;
          stays = λ fit i spare. c'.4 fit i (λ q op from to there. spare q op from (omega (arith, to, lt)) there);
          here = p.scene_is;
          held = p.local;
        })
        refl)))

    by_value : (st : State) (scene : Scene) (v : Value) → (units_of scene.board scene.names (sequence_of sequence) >>= as_sequence) ≡ Ok v → Comes code start (length before.ops) (Ok st) → Holds code start (length before.ops) s.scope.names scene v st → GetsEnd (over_value each scene v)
    by_value st scene v is c h =
        let one = bind_ok (units_of scene.board scene.names (sequence_of sequence)) as_sequence v is in
        let same : Seq (whole one.0) ≡ v = same_ok (Seq (whole one.0)) v one.2 in
        subst (λ w. GetsEnd (over_value each scene w)) same (each_gets one.0 st scene c (subst (λ w. Holds code start (length before.ops) s.scope.names scene w st) (sym same) h))

    for_gets : (st : State) (scene : Scene) → Comes code start (length s.ops) (Ok st) → IsScene (length s.ops) s.scope.names scene st → GetsEnd (statement (for_of name sequence body) scene)
    unfolding statement
    for_gets st scene c here =
        let m = sequence_means schema sf code start good (sequence_of sequence) STACK_LIMIT s before (Some f.class) f.sequence_is.code_is f.sequence_is.clean runs.has_before in
        subst GetsEnd (over_units each scene (units_of scene.board scene.names (sequence_of sequence)))
        (act_in code start s before t (Some kinds.Int) (λ b names. units_of b names (sequence_of sequence) >>= as_sequence) st scene (over_value each scene) m runs.behind c here
        (λ after v is c' h. by_value after scene v is c' h))

  pub for_does : Clean s → Acts code start s t (statement (for_of name sequence body))
  for_does clean = record {
    grown = loop_grown schema part loops name sequence body s t now f;
    clean = clean;
    tidy = λ tidy. tidy_kept s.scope t.scope (keeps_names tidy).names (λ i taken. (keeps_names tidy).free i ∙ taken) tidy;
    moves = λ tidy. moves_kept s.scope t.scope (keeps_names tidy).names (λ i taken. (keeps_names tidy).free i ∙ taken);
    gets = λ tidy st scene c here. for_gets tidy st scene c here;
  }
