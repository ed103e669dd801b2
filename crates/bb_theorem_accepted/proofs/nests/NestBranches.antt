-- Loops after a statement without blocks, and after a test and its blocks.
use Rattle.std.proofs.Common.{◌≡◌, ◌⊎◌, inl, inr, ℕ, suc, ◌+◌, ◌<◌, ◌≤◌, Bool, true, false, not, List, [], ◌∷◌, ◌++◌, length, Some, None, Ok, refl, subst, sym, ap, ◌∙◌, arith, length-append}
use Rattle.std.proofs.lemmas.List.{append-nil}
use Rattle.bb_code.specs.declared.frame.Loop.{Loop}
use Rattle.bb_code.specs.Code.{Code}
use Rattle.bb_verify_effect.specs.declared.part.Part.{Part}
use Rattle.bb_code.specs.declared.frame.Kind.{Kind}
use Rattle.bb_code.specs.declared.op.Op.{Op}
use Rattle.bb_code.specs.declared.op.Op.TheVariants as ops
use Rattle.bb_schema.specs.Schema.{Schema}
use Rattle.bb_lang.specs.Blocks.{BlockTree, OtherwiseTree, absent, otherwise}
use Rattle.bb_compile_scope.specs.LocalKinds.{is_free, kind_at}
use Rattle.bb_compile_scope.specs.Scope.{mark_of}
use Rattle.bb_compile_scope.specs.declared.scope.Scope.{Scope}
use Rattle.bb_compile_buffer.specs.declared.buffer.Buffer.{Buffer}
use Rattle.bb_compile_buffer.specs.Buffers.{aimed}
use Rattle.bb_compile.specs.Statements.{statements_code}
use Rattle.bb_theorem_accepted.proofs.buffers.BufferLemmas.{Grown, Has, grown_none, grown_on, has_before, both_grown, count_of}
use Rattle.bb_theorem_accepted.proofs.blocks.AimLemmas.{AreAimed, aims, same_more, more_after, block_count, aims_grown, aims_has, aims_there, aimed_behind, behind_count, aimed_before, jump_count, open_is, closed_is, end_count, open_has, jump_there}
use Rattle.bb_theorem_accepted.proofs.blocks.BlockLemmas.{Lays}
use Rattle.bb_theorem_accepted.proofs.blocks.BranchLemmas.{ElseEnded, ElseOn}
use Rattle.bb_theorem_accepted.proofs.blocks.TextLays.{block_grown}
use Rattle.bb_theorem_accepted.proofs.blocks.GuardLemmas.{Guard, Branches, behind_first, branches_absent, branches_else}
use Rattle.bb_theorem_accepted.proofs.kinds.KnowLemmas.{Agree, is_sequence, sequence_aged}
use Rattle.bb_theorem_accepted.proofs.buffers.QuietLemmas.{is_calm, are_calm, calm_there}
use Rattle.bb_theorem_accepted.proofs.blocks.CalmLemmas.{Calm, free_value, is_exit, AreExit, Tests}
use Rattle.bb_theorem_accepted.proofs.nests.LoopOrder.{Within, Shallow, within_more, within_on, within_all, shallow_on}
use Rattle.bb_theorem_accepted.proofs.nests.NestLemmas.{exit_of, Loops, loops_map, May, Before, Each, each_on, each_one, Nest, nest_on, nest_before, nest_none}

-- the locals that hold sequences are watched
abbrev pub Watched : List Kind → ℕ → Type 0
Watched ks l = is_sequence (kind_at ks l) ≡ true

pub sequence_taken : (k : Kind) → is_sequence k ≡ true → is_free k ≡ false
sequence_taken k h = by_free (is_free k) refl
  where
    by_free : (b : Bool) → is_free k ≡ b → b ≡ false
    by_free false e = refl
    by_free true e = absurd (let no : true ≡ false = sym h ∙ free_value k e in cc)

pub watched_on : (ks ls : List Kind) → Agree ks ls → (l : ℕ) → Watched ks l → Watched ls l
watched_on ks ls agree l h = sym (sequence_aged (kind_at ls l)) ∙ (ap is_sequence (sym (agree l (sequence_taken (kind_at ks l) h))) ∙ (sequence_aged (kind_at ks l) ∙ h))

-- ---- ops that are calm

calm_store : (ks : List Kind) (op : Op) (l : ℕ) → is_calm ks op ≡ true → op ≡ ops.Store l → Watched ks l → ⊥
calm_store ks op l calm is w = let here : not (is_sequence (kind_at ks l)) ≡ true = ap (is_calm ks) (sym is) ∙ calm in let no : false ≡ true = sym (ap not w) ∙ here in cc

pub calm_exit : (ks : List Kind) (op : Op) → is_calm ks op ≡ true → exit_of op ≡ None
calm_exit ks (ops.One slot target) h = absurd cc
calm_exit ks (ops.Alive target) h = absurd cc
calm_exit ks (ops.As class target) h = absurd cc
calm_exit ks (ops.Jump target) h = absurd cc
calm_exit ks (ops.Unless target) h = absurd cc
calm_exit ks _ h = refl

pub calm_before : (ks : List Kind) (at : ℕ) (op : Op) → is_calm ks op ≡ true → Before (Watched ks) at op
calm_before ks at op calm = record {
  store = λ l is w. calm_store ks op l calm is w;
  next = λ l q is. (let no : false ≡ true = ap (is_calm ks) (sym is) ∙ calm in cc);
  back = λ q is. (let no : false ≡ true = ap (is_calm ks) (sym is) ∙ calm in cc);
  exit = λ q is. absurd (let no : None ≡ Some q = sym (calm_exit ks op calm) ∙ is in cc);
}

pub calm_may : (ks : List Kind) (bound : ℕ) (ls : List Loop) (p : ℕ) (op : Op) → is_calm ks op ≡ true → May (Watched ks) bound ls p op
calm_may ks bound ls p op calm =
    let b = calm_before ks 0 op calm in
    record { store = b.store; next = λ l q is. absurd (b.next l q is); back = λ q is. absurd (b.back q is); exit = λ q is. absurd (let no : None ≡ Some q = sym (calm_exit ks op calm) ∙ is in cc) }

-- ---- ops that go elsewhere

exit_aimed : (op : Op) (at : ℕ) → is_exit op ≡ true → exit_of (aimed op at) ≡ Some at
exit_aimed (ops.One slot target) at h = refl
exit_aimed (ops.Alive target) at h = refl
exit_aimed (ops.As class target) at h = refl
exit_aimed (ops.Unless target) at h = refl
exit_aimed (ops.Jump target) at h = refl
exit_aimed _ at h = absurd cc

exit_before : (watched : ℕ → Type 0) (op : Op) (at : ℕ) → exit_of op ≡ Some at → Before watched at op
exit_before watched op at goes = record {
  store = λ l is w. (let no : None ≡ Some at = ap exit_of (sym is) ∙ goes in cc);
  next = λ l q is. (let no : None ≡ Some at = ap exit_of (sym is) ∙ goes in cc);
  back = λ q is. (let no : None ≡ Some at = ap exit_of (sym is) ∙ goes in cc);
  exit = λ q is. (let same : Some at ≡ Some q = sym goes ∙ is in cc);
}

module _ (code : Code) where
  exits_before : (watched : ℕ → Type 0) (at place : ℕ) (es : List Op) → AreExit es → AreAimed code at place es → Each code place (place + length es) (λ p op. Before watched at op)
  exits_before watched at place [] exits aims = λ p op low high there. absurd (omega (arith, low, high))
  exits_before watched at place (e ∷ es) exits aims =
      let rest = exits_before watched at (place + 1) es exits.1 aims.1 in
      each_on code (λ p op. Before watched at op) place (place + 1) (place + suc (length es)) (each_one code (λ p op. Before watched at op) place (aimed e at) aims.0 (exit_before watched (aimed e at) at (exit_aimed e at exits.0)))
      (λ p op low high there. rest p op low (omega (arith, high)) there)

  -- the loops that a buffer has more than another are in order, and their ops and the others stand where they may
  pub record Nested (n : ℕ) (s t : Buffer) : Type 0 where
    pub loops : List Loop
    pub loops_are : t.loops ≡ s.loops ++ loops
    pub within : Within (length s.ops + 1) (length t.ops) loops
    pub shallow : Shallow n loops
    pub nest : Nest code (Watched s.scope.kinds) (length s.ops) (length t.ops) (length t.ops) loops

  pub nested_none : (n : ℕ) (s : Buffer) → Nested n s s
  nested_none n s = record {
    loops = [];
    loops_are = sym (append-nil s.loops);
    within = tt;
    shallow = λ place. omega arith;
    nest = nest_none code (Watched s.scope.kinds) (length s.ops) (length s.ops) (λ p op low high at. absurd (omega (arith, low, high)));
  }

  pub nested_calm : (n : ℕ) (s t : Buffer) → Calm s t → Has code t → Nested n s t
  nested_calm n s t c has = record {
    loops = [];
    loops_are = c.adds.loops ∙ sym (append-nil s.loops);
    within = tt;
    shallow = λ place. omega arith;
    nest = nest_none code (Watched s.scope.kinds) (length s.ops) (length t.ops)
        (λ p op low high at. calm_may s.scope.kinds (length t.ops) [] p op (calm_there s.scope.kinds code s t c.adds.grown.ops has c.adds.grown.ops_are c.calm p op low high at));
  }

  heads : (from to : ℕ) (ls : List Loop) → Within (from + 1) to ls → Loops (λ l. from < l.head) ls
  heads from to ls w = loops_map (λ l. (from + 1 ≤ l.head) × (l.end ≤ to)) (λ l. from < l.head) ls (λ l both. let low = both.0 in omega (arith, low)) (within_all (from + 1) to (from + 1) ls (omega arith) w)

  tails : (from to : ℕ) (ls : List Loop) → Within from to ls → Loops (λ l. l.end ≤ to) ls
  tails from to ls w = loops_map (λ l. (from ≤ l.head) × (l.end ≤ to)) (λ l. l.end ≤ to) ls (λ l both. both.1) (within_all from to from ls (omega arith) w)

  pub nested_on : (n : ℕ) (s t u : Buffer) → length s.ops ≤ length t.ops → length t.ops ≤ length u.ops → Agree s.scope.kinds t.scope.kinds → Nested n s t → Nested n t u → Nested n s u
  nested_on n s t u le up agree first then = record {
    loops = first.loops ++ then.loops;
    loops_are = both_grown s.loops t.loops u.loops first.loops then.loops first.loops_are then.loops_are;
    within = within_on (length s.ops + 1) (length t.ops) (length u.ops) first.loops then.loops (omega (arith, le)) up first.within then.within;
    shallow = shallow_on n (length s.ops + 1) (length t.ops) (length u.ops) first.loops then.loops first.within then.within first.shallow then.shallow;
    nest = nest_on code (Watched s.scope.kinds) (Watched t.scope.kinds) (watched_on s.scope.kinds t.scope.kinds agree) (length s.ops) (length t.ops) (length t.ops) (length u.ops) first.loops then.loops up
        (heads (length t.ops) (length u.ops) then.loops then.within) first.nest then.nest;
  }

  -- ---- a test and the blocks after it

  module _ (schema : Schema) (part : Part) (loops : ℕ) (first : BlockTree) (s t : Buffer) (now : Bool) (has : Has code t) where
    -- up to the end of the first block
    module _ (other : OtherwiseTree) (br : Branches schema part loops first other s t now) (tests : Tests s br.inner br.exits br.guard) (agree : Agree s.scope.kinds br.inner.scope.kinds) (block : Lays br.inner br.blocks.end)
        (at : ℕ) (behind : Has code br.guard.behind) (end : Has code br.blocks.end) (aims : AreAimed code at (length br.guard.behind.ops) br.guard.es) (below : length br.blocks.end.ops ≤ at)
        (own : Nested loops br.inner br.blocks.end) where
      abbrev a : Buffer
      a = br.guard.behind

      abbrev r : Buffer
      r = br.guard.tested

      abbrev u : Buffer
      u = br.inner

      abbrev v : Buffer
      v = br.blocks.end

      counts : (length s.ops ≤ length a.ops) × (length r.ops ≡ length a.ops + length br.guard.es) × (length r.ops ≤ length u.ops) × (length u.ops ≤ length v.ops)
      counts =
          let one = count_of s a br.guard.adds.grown in
          let two : length r.ops ≡ length a.ops + length br.guard.es = ap length br.guard.ops ∙ length-append a.ops br.guard.es in
          let three = count_of r u br.guard.named in
          let four = count_of u v block.grown in
          (omega (arith, one), two, omega (arith, three), omega (arith, four))

      test_before : Each code (length s.ops) (length u.ops) (λ p op. Before (Watched s.scope.kinds) at op)
      test_before =
          let ks = s.scope.kinds in
          let P = (λ (p : ℕ) (op : Op). Before (Watched ks) at op) in
          each_on code (λ p op. Before (Watched ks) at op) (length s.ops) (length a.ops) (length u.ops)
          (λ p op low high there. calm_before ks at op (calm_there ks code s a tests.stays.adds.grown.ops behind tests.stays.adds.grown.ops_are (are_calm ks tests.stays.adds.grown.ops tests.stays.quiet) p op low high there))
          (each_on code (λ p op. Before (Watched ks) at op) (length a.ops) (length r.ops) (length u.ops)
          (λ p op low high there. exits_before (Watched ks) at (length a.ops) br.guard.es tests.exits_are aims p op low (let c = counts.1 in omega (arith, high, c)) there)
          (λ p op low high there. calm_before ks at op (calm_there ks code r u br.guard.named.ops (has_before code u v block.grown end) br.guard.named.ops_are tests.named p op low high there)))

      first_nest : Nest code (Watched s.scope.kinds) (length s.ops) (length v.ops) at own.loops
      first_nest =
          let d = counts.3 in
          nest_before code (Watched s.scope.kinds) (Watched u.scope.kinds) (watched_on s.scope.kinds u.scope.kinds agree) (length s.ops) (length u.ops) (length v.ops) at own.loops (omega (arith, below, d)) below
          (tails (length u.ops + 1) (length v.ops) own.loops own.within) test_before own.nest

      first_within : Within (length s.ops + 1) (length v.ops) own.loops
      first_within = let b = counts.0 in let c = counts.1 in let d = counts.2 in within_more (length u.ops + 1) (length v.ops) (length s.ops + 1) (length v.ops) own.loops (omega (arith, b, c, d)) (omega arith) own.within

      first_loops : v.loops ≡ s.loops ++ own.loops
      first_loops = own.loops_are ∙ ap (λ l. l ++ own.loops) (br.guard.loops ∙ br.guard.adds.loops)

    branches_grown : (other : OtherwiseTree) (br : Branches schema part loops first other s t now) → Lays br.inner br.blocks.end → Grown br.guard.tested br.blocks.end
    branches_grown other br block = grown_on br.guard.tested br.inner br.blocks.end br.guard.named block.grown

    pub one_nests : (br : Branches schema part loops first absent s t now) → Tests s br.inner br.exits br.guard → Agree s.scope.kinds br.inner.scope.kinds → Lays br.inner br.blocks.end → (Has code br.blocks.end → Nested loops br.inner br.blocks.end) → Nested loops s t
    one_nests br tests agree block own =
        let al = branches_absent schema part loops first s t now br in
        let g = br.guard in
        let a = g.behind in
        let r = g.tested in
        let v = br.blocks.end in
        let w = branches_grown absent br block in
        let count : length t.ops ≡ length v.ops = ap length al.alike.ops ∙ behind_count a r v g.es g.some g.ops g.texts g.queries w in
        let all = al.alike.ops ∙ aimed_behind a r v g.es g.some g.ops g.texts g.queries w in
        let more = same_more v t al.alike.texts al.alike.queries in
        let some = block_count a r v g.es g.some g.ops g.texts g.queries w in
        let has_v = aims_has a r v g.es g.some g.ops g.texts g.queries w t (length v.ops) [] all more code g.opens has in
        let has_a = has_before code a t (aims_grown a r v g.es g.some g.ops g.texts g.queries w t (length v.ops) [] all more) has in
        let aims = aims_there a r v g.es g.some g.ops g.texts g.queries w t (length v.ops) [] all more code (omega (arith, some)) g.opens has in
        let le : length v.ops ≤ length v.ops = omega arith in
        let inner = own has_v in
        let nest = first_nest absent br tests agree block (length v.ops) has_a has_v aims le inner in
        record {
          loops = inner.loops;
          loops_are = al.alike.loops ∙ first_loops absent br tests agree block (length v.ops) has_a has_v aims le inner;
          within = subst (λ n. Within (length s.ops + 1) n inner.loops) (sym count) (first_within absent br tests agree block (length v.ops) has_a has_v aims le inner);
          shallow = inner.shallow;
          nest = subst (λ n. Nest code (Watched s.scope.kinds) (length s.ops) n n inner.loops) (sym count) nest;
        }

    pub both_nest : (b : BlockTree) (br : Branches schema part loops first (otherwise b) s t now) → Tests s br.inner br.exits br.guard → Agree s.scope.kinds br.inner.scope.kinds → Lays br.inner br.blocks.end → (Has code br.blocks.end → Nested loops br.inner br.blocks.end)
        → ((d : Bool) (x y : Buffer) → statements_code schema part loops false b x ≡ Ok (d, y) → x.scope.names ≡ (behind_first schema part loops first (otherwise b) s t now br).scope.names → x.scope.kinds ≡ br.guard.tested.scope.kinds → Has code y → Lays x y × Nested loops x y) → Nested loops s t
    both_nest b br tests agree block own other = by_side (branches_else schema part loops first b s t now br)
      where
        g : Guard s br.inner br.exits
        g = br.guard

        -- the first block, and what comes after it
        joined : (x y : Buffer) (at : ℕ) (behind : Has code br.guard.behind) (end : Has code br.blocks.end) → AreAimed code at (length br.guard.behind.ops) br.guard.es → length br.blocks.end.ops ≤ at → at ≤ length y.ops → length t.ops ≡ length y.ops → t.loops ≡ y.loops → x.loops ≡ br.blocks.end.loops
            → length x.ops ≡ at → length x.ops ≤ length y.ops → (second : Nested loops x y) → Nest code (Watched s.scope.kinds) (length br.blocks.end.ops) (length y.ops) (length y.ops) second.loops → Nested loops s t
        joined x y at behind end aims below high count same same_x place up second nest =
            let inner = own end in
            let one = first_nest (otherwise b) br tests agree block at behind end aims below inner in
            let low = first_within (otherwise b) br tests agree block at behind end aims below inner in
            let before = first_loops (otherwise b) br tests agree block at behind end aims below inner in
            let up_v = counts (otherwise b) br tests agree block at behind end aims below inner in
            let c0 = up_v.0 in
            let c1 = up_v.1 in
            let c2 = up_v.2 in
            let c3 = up_v.3 in
            let later = subst (λ n. Within (n + 1) (length y.ops) second.loops) place second.within in
            let later_v = within_more (at + 1) (length y.ops) (length br.blocks.end.ops + 1) (length y.ops) second.loops (omega (arith, below)) (omega arith) later in
            record {
              loops = inner.loops ++ second.loops;
              loops_are = both_grown s.loops x.loops t.loops inner.loops second.loops (same_x ∙ before) (same ∙ second.loops_are);
              within = subst (λ n. Within (length s.ops + 1) n (inner.loops ++ second.loops)) (sym count) (within_on (length s.ops + 1) (length br.blocks.end.ops) (length y.ops) inner.loops second.loops (omega (arith, c0, c1, c2, c3)) (omega (arith, below, high)) low later_v);
              shallow = shallow_on loops (length s.ops + 1) (length br.blocks.end.ops) (length y.ops) inner.loops second.loops low later_v inner.shallow second.shallow;
              nest = subst (λ n. Nest code (Watched s.scope.kinds) (length s.ops) n n (inner.loops ++ second.loops)) (sym count)
                  (nest_on code (Watched s.scope.kinds) (Watched s.scope.kinds) (λ l w. w) (length s.ops) (length br.blocks.end.ops) at (length y.ops) inner.loops second.loops high (heads at (length y.ops) second.loops later) one nest);
            }

        by_side : (let w = behind_first schema part loops first (otherwise b) s t now br in
            ((br.blocks.ended ≡ true) × ElseEnded schema part loops (mark_of br.guard.tested.scope) (length br.guard.behind.ops) (length br.guard.es) b w t now)
            ⊎ ((br.blocks.ended ≡ false) × ElseOn schema part loops (mark_of br.guard.tested.scope) (length br.guard.behind.ops) (length br.guard.es) b w t now)) → Nested loops s t
        by_side (inl (e, el)) =
            let a = g.behind in
            let r = g.tested in
            let v = br.blocks.end in
            let w = branches_grown (otherwise b) br block in
            let x = el.inner in
            let y = el.end in
            let has_y = has_before code y t (grown_none y t el.alike.ops el.alike.texts el.alike.queries) has in
            let both = other now x y el.block_is el.names el.kinds has_y in
            let h = both.0.grown in
            let second = both.1 in
            let count_x : length x.ops ≡ length v.ops = ap length el.begun.ops ∙ behind_count a r v g.es g.some g.ops g.texts g.queries w in
            let count_y = count_of x y h in
            let y_ops = aimed_before a r v g.es g.some g.ops g.texts g.queries w x y el.begun.ops h in
            let more_y = more_after v x y y el.begun.texts el.begun.queries h refl refl in
            let more_t = more_after v x y t el.begun.texts el.begun.queries h el.alike.texts el.alike.queries in
            let some = block_count a r v g.es g.some g.ops g.texts g.queries w in
            let has_v = aims_has a r v g.es g.some g.ops g.texts g.queries w y (length v.ops) h.ops y_ops more_y code g.opens has_y in
            let has_a = has_before code a t (aims_grown a r v g.es g.some g.ops g.texts g.queries w t (length v.ops) h.ops (el.alike.ops ∙ y_ops) more_t) has in
            let aims = aims_there a r v g.es g.some g.ops g.texts g.queries w t (length v.ops) h.ops (el.alike.ops ∙ y_ops) more_t code (omega (arith, some)) g.opens has in
            let nest = subst (λ ks. Nest code (Watched ks) (length v.ops) (length y.ops) (length y.ops) second.loops) (el.kinds ∙ ap (λ (c : Scope). c.kinds) tests.scope)
            (subst (λ n. Nest code (Watched x.scope.kinds) n (length y.ops) (length y.ops) second.loops) count_x second.nest) in
            joined x y (length v.ops) has_a has_v aims (omega arith) (omega (arith, count_x, count_y)) (ap length el.alike.ops) el.alike.loops el.begun.loops count_x (omega (arith, count_y)) second nest
        by_side (inr (e, el)) =
            let a = g.behind in
            let r = g.tested in
            let v = br.blocks.end in
            let w = branches_grown (otherwise b) br block in
            let x = el.inner in
            let y = el.end in
            let grown = block_grown schema part b loops false el.ended x y el.block_is in
            let has_y = open_has a r v g.es g.some g.ops g.texts g.queries w x y t el.begun.ops grown el.alike.ops code (same_more y t el.alike.texts el.alike.queries) has in
            let both = other el.ended x y el.block_is el.names el.kinds has_y in
            let second = both.1 in
            let count_x = jump_count a r v g.es g.some g.ops g.texts g.queries w x y t el.begun.ops grown el.alike.ops in
            let count_y = count_of x y grown in
            let count_t = end_count a r v g.es g.some g.ops g.texts g.queries w x y t el.begun.ops grown el.alike.ops in
            let y_ops = open_is a r v g.es g.some g.ops g.texts g.queries w x y t el.begun.ops grown el.alike.ops in
            let t_ops = closed_is a r v g.es g.some g.ops g.texts g.queries w x y t el.begun.ops grown el.alike.ops in
            let more_y = more_after v x y y el.begun.texts el.begun.queries grown refl refl in
            let more_t = more_after v x y t el.begun.texts el.begun.queries grown el.alike.texts el.alike.queries in
            let has_v = aims_has a r v g.es g.some g.ops g.texts g.queries w y (length x.ops) (ops.Jump 0 ∷ grown.ops) y_ops more_y code g.opens has_y in
            let has_a = has_before code a t (aims_grown a r v g.es g.some g.ops g.texts g.queries w t (length x.ops) (ops.Jump (length y.ops) ∷ grown.ops) t_ops more_t) has in
            let aims = aims_there a r v g.es g.some g.ops g.texts g.queries w t (length x.ops) (ops.Jump (length y.ops) ∷ grown.ops) t_ops more_t code (omega (arith, count_x)) g.opens has in
            let there = jump_there a r v g.es g.some g.ops g.texts g.queries w x y t el.begun.ops grown el.alike.ops code has in
            let own_nest = subst (λ ks. Nest code (Watched ks) (length x.ops) (length y.ops) (length y.ops) second.loops) (el.kinds ∙ ap (λ (c : Scope). c.kinds) tests.scope) second.nest in
            let jump = subst (λ n. Each code (length v.ops) n (λ p op. Before (Watched s.scope.kinds) (length y.ops) op)) (sym count_x)
            (each_one code (λ p op. Before (Watched s.scope.kinds) (length y.ops) op) (length v.ops) (ops.Jump (length y.ops)) there (exit_before (Watched s.scope.kinds) (ops.Jump (length y.ops)) (length y.ops) refl)) in
            let nest = nest_before code (Watched s.scope.kinds) (Watched s.scope.kinds) (λ l w. w) (length v.ops) (length x.ops) (length y.ops) (length y.ops) second.loops (omega (arith, count_y)) (omega arith)
            (tails (length x.ops + 1) (length y.ops) second.loops second.within) jump own_nest in
            joined x y (length x.ops) has_a has_v aims (omega (arith, count_x)) (omega (arith, count_y)) count_t el.alike.loops el.begun.loops refl (omega (arith, count_y)) second nest
