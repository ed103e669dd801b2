-- A `for` and the loops in its body.
use Rattle.std.proofs.Common.{◌≡◌, ℕ, zero, suc, ◌+◌, ◌-◌, ◌≤◌, Bool, true, false, ◌||◌, List, [], ◌∷◌, ◌++◌, length, Some, None, refl, subst, sym, ap, ◌∙◌, arith, length-append, append_assoc}
use Rattle.std.specs.Prelude.{slice_get, position, ◌==◌}
use Rattle.std.specs.List.{list_any}
use Rattle.std.proofs.lemmas.Bool.{eq-eqb}
use Rattle.bb_basis.proofs.PositionLemmas.{position_within}
use Rattle.bb_code.specs.declared.parts.TheConstants.{STACK_LIMIT}
use Rattle.bb_code.specs.declared.frame.Loop.{Loop}
use Rattle.bb_code.specs.Code.{Code}
use Rattle.bb_verify_effect.specs.declared.part.Part.{Part}
use Rattle.bb_code.specs.declared.frame.Kind.{Kind}
use Rattle.bb_code.specs.declared.frame.Kind.TheVariants as kinds
use Rattle.bb_code.specs.declared.op.Op.{Op}
use Rattle.bb_code.specs.declared.op.Op.TheVariants as ops
use Rattle.bb_schema.specs.Schema.{Schema}
use Rattle.bb_lang.specs.Blocks.{BlockTree}
use Rattle.bb_lang.specs.Sequence.{Sequence}
use Rattle.bb_lang.specs.View.{sequence_of}
use Rattle.bb_compile_scope.specs.LocalKinds.{is_free, kind_at}
use Rattle.bb_compile_scope.proofs.Laws.{at_same, free_first}
use Rattle.bb_compile_buffer.specs.declared.buffer.Buffer.{Buffer}
use Rattle.bb_compile.specs.Expressions.{sequence_code}
use Rattle.bb_verify.specs.nesting.Loops.{op_before, is_head, is_end}
use Rattle.bb_theorem_accepted.proofs.blocks.AimLemmas.{no_place}
use Rattle.bb_theorem_accepted.proofs.blocks.BlockLemmas.{Lays}
use Rattle.bb_theorem_accepted.proofs.buffers.BufferLemmas.{Has, has_before, op_at, seam, count_of}
use Rattle.bb_theorem_accepted.proofs.blocks.CalmLemmas.{free_calm}
use Rattle.bb_theorem_accepted.proofs.sparing.ForActs as acts
use Rattle.bb_theorem_accepted.proofs.blocks.ForLays as lays
use Rattle.bb_theorem_accepted.proofs.kinds.KnowLemmas.{is_sequence, taken_on}
use Rattle.bb_theorem_accepted.proofs.blocks.LoopLaid.{ForLaid}
use Rattle.bb_theorem_accepted.proofs.nests.LoopOrder.{within_more, shallow_more}
use Rattle.bb_theorem_accepted.proofs.kinds.MoveLemmas.{Sole}
use Rattle.bb_theorem_accepted.proofs.nests.NestBranches.{Watched, sequence_taken, watched_on, calm_exit, calm_may, Nested}
use Rattle.bb_theorem_accepted.proofs.nests.NestLemmas.{exit_of, loops_map, May, Inside, Passes, may_right, Each, each_on, each_one, Fine, Nest}
use Rattle.bb_theorem_accepted.proofs.buffers.QuietLemmas.{are_calm, calm_there}
use Rattle.bb_theorem_accepted.proofs.buffers.StayLemmas.{Stays, behind, keeps_ok, sequence_keeps}
use Rattle.bb_theorem_accepted.proofs.straight.StoreLemmas.{declare_is}

some_deep : (n : ℕ) → (n == 0) ≡ false → 1 ≤ n
some_deep zero h = absurd cc
some_deep (suc n) h = omega arith

-- the first or another
first_holds : (f : Loop → Bool) (l : Loop) (ls : List Loop) → f l ≡ true → list_any f (l ∷ ls) ≡ true
first_holds f l ls h = ap (λ b. b || list_any f ls) h

module _ (code : Code) (schema : Schema) (part : Part) (loops : ℕ) (name : List ℕ) (sequence : Sequence) (body : BlockTree) (s t : Buffer) (now : Bool) (sole : Sole s.scope.kinds s.scope.names) (f : ForLaid schema part loops name sequence body s t now)
    (block : Lays f.inner f.end) (has : Has code t) (own : Nested code (loops - 1) f.inner f.end) where
  abbrev stored : ℕ
  stored = lays.stored schema part loops name sequence body s t now f

  abbrev over : ℕ
  over = lays.over schema part loops name sequence body s t now f block

  abbrev more : List Op
  more = lays.more schema part loops name sequence body s t now f block

  abbrev before : Buffer
  before = f.sequence_is.behind

  abbrev whole : Loop
  whole = record { head = length f.held.ops; end = over }

  -- ---- places

  pub counts : (length s.ops ≤ length before.ops) × (length f.held.ops ≡ length before.ops + 1) × (length f.inner.ops ≡ length f.held.ops + 2) × (length f.inner.ops ≤ length f.end.ops) × (over ≡ length f.end.ops + 1) × (length t.ops ≡ over)
  counts =
      let one = count_of s before (lays.adds schema part loops name sequence body s t now f).grown in
      let two = count_of f.inner f.end block.grown in (
        omega (arith, one),
        lays.held_count schema part loops name sequence body s t now f block,
        lays.inner_count schema part loops name sequence body s t now f block,
        omega (arith, two),
        lays.over_is schema part loops name sequence body s t now f block,
        lays.count_t schema part loops name sequence body s t now f block,
      )

  pub has_before_loop : Has code before
  has_before_loop = has_before code before t (lays.behind_grown schema part loops name sequence body s t now f block) has

  pub has_inner : Has code f.inner
  has_inner = has_before code f.inner f.end block.grown (lays.end_has schema part loops name sequence body s t now f block code has)

  pub sequence_at : slice_get code.ops (length before.ops) ≡ Some (ops.Store f.local)
  sequence_at =
      has.ops (length before.ops) (ops.Store f.local) (ap (λ l. slice_get l (length before.ops)) (lays.ops_are schema part loops name sequence body s t now f block)
      ∙ seam before.ops (ops.Next f.local over ∷ lays.after_head schema part loops name sequence body s t now f more) (ops.Store f.local)) refl

  pub head_at : slice_get code.ops (length f.held.ops) ≡ Some (ops.Next f.local over)
  head_at =
      let some = counts.4 in
      has.ops (length f.held.ops) (ops.Next f.local over) (ap (λ l. slice_get l (length f.held.ops)) (lays.for_ops schema part loops name sequence body s t now f block)
      ∙ seam f.held.ops (lays.after_head schema part loops name sequence body s t now f more) (ops.Next f.local over)) (no_place over (omega (arith, some)))

  stored_at : slice_get code.ops (length f.held.ops + 1) ≡ Some (ops.Store stored)
  stored_at =
      let there = op_at code _ f.inner (ops.Store stored) (lays.inner_is schema part loops name sequence body s t now f) refl has_inner in
      let place : length (f.head_is.head.ops ++ ops.Next f.local 0 ∷ []) ≡ length f.held.ops + 1 = length-append f.head_is.head.ops (ops.Next f.local 0 ∷ []) ∙ ap (λ l. length l + 1) (lays.head_ops schema part loops name sequence body s t now f) in
      ap (slice_get code.ops) (sym place) ∙ there

  abbrev until : List Op
  until = f.held.ops ++ (ops.Next f.local over ∷ ops.Store stored ∷ more)

  all_ops : t.ops ≡ until ++ ops.Back f.begun.head ∷ []
  all_ops = lays.for_ops schema part loops name sequence body s t now f block ∙ sym (append_assoc f.held.ops (ops.Next f.local over ∷ ops.Store stored ∷ more) (ops.Back f.begun.head ∷ []))

  pub back_at : slice_get code.ops (length f.end.ops) ≡ Some (ops.Back (length f.held.ops))
  back_at =
      let one : length t.ops ≡ length until + 1 = ap length all_ops ∙ length-append until (ops.Back f.begun.head ∷ []) in
      let two = counts.4 in
      let three = counts.5 in
      let place : length until ≡ length f.end.ops = omega (arith, one, two, three) in
      let there = has.ops (length until) (ops.Back f.begun.head) (ap (λ l. slice_get l (length until)) all_ops ∙ seam until [] (ops.Back f.begun.head)) refl in
      ap (slice_get code.ops) (sym place)
      ∙ (there ∙ ap (λ n. Some (ops.Back n)) (lays.head_place schema part loops name sequence body s t now f block ∙ ap length (lays.head_ops schema part loops name sequence body s t now f)))

  -- ---- locals

  abbrev held : List Kind
  held = f.held.scope.kinds

  before_stays : Stays s before
  before_stays = keeps_ok behind s (sequence_code schema STACK_LIMIT (sequence_of sequence) s) (Some f.class, before) f.sequence_is.code_is (sequence_keeps schema (sequence_of sequence) STACK_LIMIT s)

  free : position is_free s.scope.kinds ≡ Some f.local
  free = acts.free schema part loops name sequence body s t now sole f

  held_is : kind_at held f.local ≡ kinds.Seq f.class
  held_is = ap (λ ks. kind_at ks f.local) (acts.kinds_held schema part loops name sequence body s t now sole f) ∙ at_same s.scope.kinds f.local (kinds.Seq f.class) (position_within is_free s.scope.kinds f.local free)

  -- what is free and what is taken are apart
  never_both : (ks : List Kind) (i j : ℕ) → is_free (kind_at ks i) ≡ false → is_free (kind_at ks j) ≡ true → i ≡ j → ⊥
  never_both ks i j taken free same = (let no : false ≡ true = sym taken ∙ (ap (λ k. is_free (kind_at ks k)) same ∙ free) in cc)

  -- the name's local was free at the head, and before it
  stored_free : is_free (kind_at held stored) ≡ true
  stored_free =
      let d = declare_is name (kinds.Ref f.class) (lays.next schema part loops name sequence body s t now f) f.inner f.head_is.declared in
      let level = acts.level_head schema part loops name sequence body s t now sole f in
      sym (level.free stored) ∙ (ap (λ c. is_free (kind_at c.kinds stored)) (sym (acts.head_scope schema part loops name sequence body s t now sole f)) ∙ free_first f.head_is.head.scope.kinds stored d.1)

  not_local : Watched s.scope.kinds f.local → ⊥
  not_local w = never_both s.scope.kinds f.local f.local (sequence_taken (kind_at s.scope.kinds f.local) w) (free_first s.scope.kinds f.local free) refl

  not_stored : (l : ℕ) → Watched s.scope.kinds l → l ≡ stored → ⊥
  not_stored l w =
      let taken = sequence_taken (kind_at s.scope.kinds l) w in
      never_both held l stored (taken_on (kind_at s.scope.kinds l) (kind_at held l) (acts.agree_held schema part loops name sequence body s t now sole f l taken) taken) stored_free

  apart : stored ≡ f.local → ⊥
  apart same = never_both held f.local stored (ap is_free held_is) stored_free (sym same)

  to_inner : (l : ℕ) → Watched held l → Watched f.inner.scope.kinds l
  to_inner l w =
      let level = acts.level_head schema part loops name sequence body s t now sole f in
      let named = (acts.named schema part loops name sequence body s t now sole f).1 in
      watched_on (acts.head schema part loops name sequence body s t now sole f).kinds f.inner.scope.kinds named.onto.agree l (watched_on held (acts.head schema part loops name sequence body s t now sole f).kinds level.agree l w)

  all_inner : (l : ℕ) → Watched s.scope.kinds l → Watched f.inner.scope.kinds l
  all_inner l w = to_inner l (watched_on s.scope.kinds held (acts.agree_held schema part loops name sequence body s t now sole f) l w)

  local_inner : Watched f.inner.scope.kinds f.local
  local_inner = to_inner f.local (ap is_sequence held_is)

  -- ---- ops

  abbrev MayHere : ℕ → Op → Type 0
  MayHere p op = May (Watched s.scope.kinds) (length t.ops) (whole ∷ own.loops) p op

  sequence_may : Each code (length s.ops) (length f.held.ops) (λ p op. MayHere p op × (exit_of op ≡ None))
  sequence_may =
      let ks = s.scope.kinds in
      let P = (λ (p : ℕ) (op : Op). MayHere p op × (exit_of op ≡ None)) in
      let a = counts.0 in
      subst (λ n. Each code (length s.ops) n (λ p op. MayHere p op × (exit_of op ≡ None))) (sym counts.1)
      (each_on code (λ p op. MayHere p op × (exit_of op ≡ None)) (length s.ops) (length before.ops) (length before.ops + 1)
      (λ p op low high there. let calm = calm_there ks code s before before_stays.adds.grown.ops has_before_loop before_stays.adds.grown.ops_are (are_calm ks before_stays.adds.grown.ops before_stays.quiet) p op low high there in (calm_may ks (length t.ops) (whole ∷ own.loops) p op calm, calm_exit ks op calm))
      (each_one code (λ p op. MayHere p op × (exit_of op ≡ None)) (length before.ops) (ops.Store f.local) sequence_at (calm_may ks (length t.ops) (whole ∷ own.loops) (length before.ops) (ops.Store f.local) (free_calm ks f.local free), refl)))

  head_may : MayHere (length f.held.ops) (ops.Next f.local over)
  head_may = record {
    store = λ l is w. cc;
    next = λ l q is.
        let le = counts.5 in
        let same : over ≡ q = cc in
        ((λ w. not_local (subst (Watched s.scope.kinds) (sym (let e : f.local ≡ l = cc in e)) w)), omega (arith, le, same), first_holds (is_head (length f.held.ops)) whole own.loops (eq-eqb (length f.held.ops) (length f.held.ops) refl));
    back = λ q is. absurd cc;
    exit = λ q is. absurd cc;
  }

  stored_may : MayHere (length f.held.ops + 1) (ops.Store stored)
  stored_may = record { store = λ l is w. not_stored l w (sym (let e : stored ≡ l = cc in e)); next = λ l q is. absurd cc; back = λ q is. absurd cc; exit = λ q is. absurd cc }

  back_may : MayHere (length f.end.ops) (ops.Back (length f.held.ops))
  back_may = record {
    store = λ l is w. cc;
    next = λ l q is. absurd cc;
    back = λ q is. first_holds (is_end (length f.end.ops + 1)) whole own.loops (eq-eqb over (length f.end.ops + 1) counts.4);
    exit = λ q is. absurd cc;
  }

  -- up to the body nothing goes elsewhere
  begin_may : Each code (length s.ops) (length f.inner.ops) (λ p op. MayHere p op × (exit_of op ≡ None))
  begin_may =
      let c : length f.held.ops + 1 + 1 ≡ length f.inner.ops = (let e = counts.2 in omega (arith, e)) in
      each_on code (λ p op. MayHere p op × (exit_of op ≡ None)) (length s.ops) (length f.held.ops) (length f.inner.ops) sequence_may
      (each_on code (λ p op. MayHere p op × (exit_of op ≡ None)) (length f.held.ops) (length f.held.ops + 1) (length f.inner.ops) (each_one code (λ p op. MayHere p op × (exit_of op ≡ None)) (length f.held.ops) (ops.Next f.local over) head_at (head_may, refl))
      (subst (λ n. Each code (length f.held.ops + 1) n (λ p op. MayHere p op × (exit_of op ≡ None))) c (each_one code (λ p op. MayHere p op × (exit_of op ≡ None)) (length f.held.ops + 1) (ops.Store stored) stored_at (stored_may, refl))))

  all_may : Each code (length s.ops) (length t.ops) MayHere
  all_may =
      let d = counts.4 in
      let e = counts.5 in
      let c : length f.end.ops + 1 ≡ length t.ops = omega (arith, d, e) in
      let le : length f.end.ops ≤ length t.ops = omega (arith, d, e) in
      each_on code MayHere (length s.ops) (length f.inner.ops) (length t.ops) (λ p op low high there. (begin_may p op low high there).0)
      (each_on code MayHere (length f.inner.ops) (length f.end.ops) (length t.ops)
      (λ p op low high there. may_right (Watched f.inner.scope.kinds) (Watched s.scope.kinds) all_inner (length f.end.ops) (length t.ops) (whole ∷ []) own.loops p op le (own.nest.may p op low high there))
      (subst (λ n. Each code (length f.end.ops) n MayHere) c (each_one code MayHere (length f.end.ops) (ops.Back (length f.held.ops)) back_at back_may)))

  -- ---- the loop

  abbrev In : ℕ → Op → Type 0
  In p op = Inside f.local over op

  body_inside : (p : ℕ) (op : Op) → May (Watched f.inner.scope.kinds) (length f.end.ops) own.loops p op → In p op
  body_inside p op m = record {
    store = λ l is same. m.store l is (subst (Watched f.inner.scope.kinds) (sym same) local_inner);
    next = λ l q is. let n = m.next l q is in let up = n.1 in let c = counts.4 in ((λ same. n.0 (subst (Watched f.inner.scope.kinds) (sym same) local_inner)), omega (arith, up, c));
  }

  pub inside : Each code (length f.held.ops + 1) over In
  inside =
      let c : length f.held.ops + 1 + 1 ≡ length f.inner.ops = (let e = counts.2 in omega (arith, e)) in
      each_on code In (length f.held.ops + 1) (length f.inner.ops) over
      (subst (λ n. Each code (length f.held.ops + 1) n In) c (each_one code In (length f.held.ops + 1) (ops.Store stored) stored_at (record { store = λ l is same. apart ((let e : stored ≡ l = cc in e) ∙ same); next = λ l q is. absurd cc })))
      (each_on code In (length f.inner.ops) (length f.end.ops) over (λ p op low high there. body_inside p op (own.nest.may p op low high there))
      (subst (λ n. Each code (length f.end.ops) n In) (sym counts.4) (each_one code In (length f.end.ops) (ops.Back (length f.held.ops)) back_at (record { store = λ l is same. cc; next = λ l q is. absurd cc }))))

  whole_fine : Fine code whole
  whole_fine = record {
    local = f.local;
    at_head = head_at;
    at_end = subst (λ n. op_before code n ≡ Some (ops.Back (length f.held.ops))) (let c = counts.4 in let e : suc (length f.end.ops) ≡ over = omega (arith, c) in e) back_at;
    inside = inside;
  }

  none_passes : (l : Loop) (op : Op) → exit_of op ≡ None → Passes l op
  none_passes l op none q is = absurd (let no : None ≡ Some q = sym none ∙ is in cc)

  nest : Nest code (Watched s.scope.kinds) (length s.ops) (length t.ops) (length t.ops) (whole ∷ own.loops)
  nest = record {
    may = all_may;
    fine = (whole_fine, own.nest.fine);
    passes = (
      (λ p op low high there. none_passes whole op (sequence_may p op low high there).1),
      loops_map (λ l. Each code (length f.inner.ops) l.head (λ p op. Passes l op)) (λ l. Each code (length s.ops) l.head (λ p op. Passes l op)) own.loops
          (λ l passes. each_on code (λ p op. Passes l op) (length s.ops) (length f.inner.ops) l.head (λ p op low high there. none_passes l op (begin_may p op low high there).1) passes) own.nest.passes,
    );
  }

  pub for_nests : Nested code loops s t
  for_nests =
      let a = counts.0 in
      let b = counts.1 in
      let c = counts.2 in
      let d = counts.3 in
      let e = counts.4 in
      let g = counts.5 in
      record {
        loops = whole ∷ own.loops;
        loops_are = lays.for_loops schema part loops name sequence body s t now f (record { grown = block.grown; loops = own.loops; loops_are = own.loops_are; locals = block.locals; marks = block.marks });
        within = (omega (arith, a, b), omega (arith, c, d, e), omega (arith, g), within_more (length f.inner.ops + 1) (length f.end.ops) (length f.held.ops + 1) (length t.ops) own.loops (omega (arith, c)) (omega (arith, e, g)) own.within);
        shallow = shallow_more loops whole own.loops (some_deep loops f.sequence_is.deep) own.shallow;
        nest = nest;
      }
