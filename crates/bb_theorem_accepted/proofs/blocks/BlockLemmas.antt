-- What a block lays out, by the answer of the compiler alone: it only adds, and so does a test with the blocks after
-- it.
use Rattle.std.proofs.Common.{◌≡◌, ◌⊎◌, inl, inr, ℕ, ◌+◌, ◌<◌, ◌≤◌, Bool, true, false, cond, length, List, [], ◌∷◌, ◌++◌, Some, Ok, refl, sym, ap, ◌∙◌, arith, length-append}
use Rattle.std.proofs.lemmas.List.{append-nil}
use Rattle.bb_code.specs.declared.frame.Loop.{Loop}
use Rattle.bb_basis.specs.Results.{◌>>=◌}
use Rattle.bb_basis.proofs.ResultLemmas.{bind_ok}
use Rattle.bb_verify_effect.specs.declared.part.Part.{Part}
use Rattle.bb_code.specs.declared.frame.Kind.{Kind}
use Rattle.bb_code.specs.declared.op.Op.TheVariants as ops
use Rattle.bb_schema.specs.Schema.{Schema}
use Rattle.bb_lang.specs.Action.{Action}
use Rattle.bb_compile_scope.specs.declared.scope.Mark.{Mark}
use Rattle.bb_compile.specs.declared.exits.Exits.{Exits}
use Rattle.bb_lang.specs.Blocks.{BlockTree, absent, otherwise}
use Rattle.bb_compile_scope.specs.Place.{Place}
use Rattle.bb_compile_scope.specs.Ending.{ends}
use Rattle.bb_compile_scope.specs.Scope.{mark_of}
use Rattle.bb_compile_buffer.specs.declared.buffer.Buffer.{Buffer}
use Rattle.bb_compile_buffer.specs.Buffers.{settled, kept, leave}
use Rattle.bb_compile.specs.Actions.{action_code}
use Rattle.bb_compile.specs.Statements.{action_of, statements_code}
use Rattle.bb_theorem_accepted.proofs.buffers.BufferLemmas.{Clean, Grown, both_grown, grown_none, grown_on, count_of}
use Rattle.bb_theorem_accepted.proofs.buffers.PutLemmas.{pair_ok}
use Rattle.bb_theorem_accepted.proofs.blocks.BranchLemmas.{AbsentLaid, ElseEnded, ElseOn, settled_clean}
use Rattle.bb_theorem_accepted.proofs.blocks.GuardLemmas.{Guard, Branches, branches_absent, branches_else}
use Rattle.bb_theorem_accepted.proofs.blocks.AimLemmas.{aims, same_more, more_after, aims_grown, aimed_behind, behind_count, aimed_before, jump_count, closed_is, end_count}
use Rattle.bb_theorem_accepted.proofs.buffers.GrownLemmas.{Adds}
use Rattle.bb_theorem_accepted.proofs.kinds.LabelLemmas.{listed, labels_of, label_at, labelled_at, other_place}

-- what comes of a statement without blocks, taken apart
pub record Stated (schema : Schema) (part : Part) (a : Action) (s t : Buffer) (now : Bool) : Type 0 where
  pub code_is : action_code schema part a s ≡ Ok t
  pub clean : Clean t
  pub now_is : ends a ≡ now

pub stated : (schema : Schema) (part : Part) (place : Place) (a : Action) (s t : Buffer) (now : Bool) → action_of schema part place a s ≡ Ok (now, t) → Stated schema part a s t now
stated schema part place a s t now h =
    let one = bind_ok (action_code schema part a s) (λ u. settled place u >>= λ _. Ok (ends a, u)) (now, t) h in
    let two = bind_ok (settled place one.0) (λ _. Ok (ends a, one.0)) (now, t) one.2 in
    let same = pair_ok (ends a) now one.0 t two.2 in
    record {
      code_is = one.1 ∙ ap (λ u. Ok u) same.1;
      clean = ap (λ (x : Buffer). x.flaw) (sym same.1) ∙ settled_clean place one.0.flaw two.0 two.1;
      now_is = same.0;
    }

-- ---- what a block adds

-- what a block lays out
pub record Lays (s t : Buffer) : Type 0 where
  pub grown : Grown s t
  pub loops : List Loop
  pub loops_are : t.loops ≡ s.loops ++ loops
  pub locals : s.locals ≤ t.locals
  pub marks : (p : ℕ) → p ≤ length s.ops → p < length t.ops → label_at (labels_of t) p ≡ label_at (labels_of s) p

-- what a statement lays out: it puts no label before an op
pub record LaysOne (s t : Buffer) : Type 0 where
  pub grown : Grown s t
  pub loops : List Loop
  pub loops_are : t.loops ≡ s.loops ++ loops
  pub locals : s.locals ≤ t.locals
  pub marks : (p : ℕ) → p ≤ length s.ops → label_at (labels_of t) p ≡ label_at (labels_of s) p
  pub clean : Clean s

pub same_labels : (s t : Buffer) → t.labels ≡ s.labels → t.last ≡ s.last → labels_of t ≡ labels_of s
same_labels s t labels last = ap (λ l. listed l t.last) labels ∙ ap (listed s.labels) last

pub lays_none : (s : Buffer) → Lays s s
lays_none s = record { grown = grown_none s s refl refl refl; loops = []; loops_are = sym (append-nil s.loops); locals = omega arith; marks = λ p low high. refl }

pub lays_added : (s t : Buffer) → Adds s t → Clean t → LaysOne s t
lays_added s t a clean = record { grown = a.grown; loops = []; loops_are = a.loops ∙ sym (append-nil s.loops); locals = a.locals; marks = λ p low. ap (λ l. label_at l p) (same_labels s t a.labels a.last); clean = a.clean clean }

pub lays_noted : (s here t : Buffer) → Adds s here → Lays here t → Lays s t
lays_noted s here t a l =
    let more = count_of s here a.grown in
    let one = a.locals in
    let two = l.locals in
    record {
      grown = grown_on s here t a.grown l.grown;
      loops = l.loops;
      loops_are = l.loops_are ∙ ap (λ x. x ++ l.loops) a.loops;
      locals = omega (arith, one, two);
      marks = λ p low high. l.marks p (omega (arith, more, low)) high ∙ ap (λ x. label_at x p) (same_labels s here a.labels a.last);
    }

pub lays_then : (s t u : Buffer) → LaysOne s t → Lays t u → Lays s u
lays_then s t u a l =
    let more = count_of s t a.grown in
    let one = a.locals in
    let two = l.locals in
    record {
      grown = grown_on s t u a.grown l.grown;
      loops = a.loops ++ l.loops;
      loops_are = both_grown s.loops t.loops u.loops a.loops l.loops a.loops_are l.loops_are;
      locals = omega (arith, one, two);
      marks = λ p low high. l.marks p (omega (arith, more, low)) high ∙ a.marks p low;
    }

-- a label after a buffer leaves those before
pub marks_before : (w t : Buffer) (n p : ℕ) (ks : List Kind) → t.labels ≡ kept w.labels w.last n → t.last ≡ Some (record { place = n; kinds = ks }) → p < n → label_at (labels_of t) p ≡ label_at (labels_of w) p
marks_before w t n p ks labels last lt =
    ap (λ l. label_at (listed l t.last) p) labels ∙ (ap (λ o. label_at (listed (kept w.labels w.last n) o) p) last
    ∙ (labelled_at w.labels w.last n ks p ∙ ap (λ b. cond b (Some ks) (label_at (labels_of w) p)) (other_place n p (λ e. absurd (omega (arith, e, lt))))))

-- ---- a test and the blocks after it

module _ (s u v : Buffer) (exits : Exits) (gd : Guard s u exits) (block : Lays u v) where
  abbrev base : Buffer
  base = gd.behind

  -- what comes after the test, up to the end of the first block
  abbrev tested_grown : Grown gd.tested v
  tested_grown = grown_on gd.tested u v gd.named block.grown

  count_u : length s.ops < length u.ops
  count_u =
      let one = count_of s base gd.adds.grown in
      let two : length gd.tested.ops ≡ length base.ops + length gd.es = ap length gd.ops ∙ length-append base.ops gd.es in
      let three = count_of gd.tested u gd.named in
      let some = gd.some in
      omega (arith, one, two, three, some)

  first_marks : (p : ℕ) → p ≤ length s.ops → label_at (labels_of v) p ≡ label_at (labels_of s) p
  first_marks p low =
      let up = count_u in
      let behind = count_of u v block.grown in
      block.marks p (omega (arith, low, up)) (omega (arith, low, up, behind)) ∙ ap (λ x. label_at x p) (same_labels s u (gd.labels ∙ gd.adds.labels) (gd.last ∙ gd.adds.last))

  inner_loops : v.loops ≡ s.loops ++ block.loops
  inner_loops = block.loops_are ∙ ap (λ x. x ++ block.loops) (gd.loops ∙ gd.adds.loops)

  inner_locals : s.locals ≤ v.locals
  inner_locals = let one = gd.adds.locals in let two = gd.locals in let three = block.locals in omega (arith, one, two, three)

  below_end : (p : ℕ) → p ≤ length s.ops → p < length v.ops
  below_end p low = let up = count_u in let behind = count_of u v block.grown in omega (arith, low, up, behind)

  absent_lays : (t : Buffer) (ended now : Bool) (before inner : Mark) → AbsentLaid before (length base.ops) (length gd.es) ended (leave before (leave inner v)) t now → LaysOne s t
  absent_lays t ended now before inner al =
      let all = al.alike.ops ∙ aimed_behind base gd.tested v gd.es gd.some gd.ops gd.texts gd.queries tested_grown in
      let same_place = behind_count base gd.tested v gd.es gd.some gd.ops gd.texts gd.queries tested_grown in
      let locals_t : t.locals ≡ v.locals = al.alike.locals in
      let one = inner_locals in
      record {
        grown = grown_on s base t gd.adds.grown (aims_grown base gd.tested v gd.es gd.some gd.ops gd.texts gd.queries tested_grown t (length v.ops) [] all (same_more v t al.alike.texts al.alike.queries));
        loops = block.loops;
        loops_are = al.alike.loops ∙ inner_loops;
        locals = omega (arith, one, locals_t);
        marks = λ p low.
            let lt = below_end p low in
            marks_before v t (length (aims (length base.ops) (length gd.es) v.ops)) p t.scope.kinds al.labels al.last (omega (arith, lt, same_place)) ∙ first_marks p low;
        clean = gd.adds.clean gd.clean_behind;
      }

  else_lays : (schema : Schema) (part : Part) (loops : ℕ) (b : BlockTree) (ended now : Bool) (t : Buffer) (before inner : Mark)
      → ((d : Bool) (inner end : Buffer) → statements_code schema part loops false b inner ≡ Ok (d, end) → Lays inner end)
      → (let w = leave before (leave inner v) in
      ((ended ≡ true) × ElseEnded schema part loops before (length base.ops) (length gd.es) b w t now) ⊎ ((ended ≡ false) × ElseOn schema part loops before (length base.ops) (length gd.es) b w t now)) → LaysOne s t
  else_lays schema part loops b ended now t before inner own (inl (e, el)) =
      let x = el.inner in
      let y = el.end in
      let other = own now x y el.block_is in
      let count_x : length x.ops ≡ length v.ops = ap length el.begun.ops ∙ behind_count base gd.tested v gd.es gd.some gd.ops gd.texts gd.queries tested_grown in
      let count_y = count_of x y other.grown in
      let locals_x : x.locals ≡ v.locals = el.begun.locals in
      let locals_t : t.locals ≡ y.locals = el.alike.locals in
      let one = inner_locals in
      let two = other.locals in
      let all = aimed_before base gd.tested v gd.es gd.some gd.ops gd.texts gd.queries tested_grown x y el.begun.ops other.grown in
      record {
        grown = grown_on s base t gd.adds.grown (aims_grown base gd.tested v gd.es gd.some gd.ops gd.texts gd.queries tested_grown t (length v.ops) other.grown.ops (el.alike.ops ∙ all)
            (more_after v x y t el.begun.texts el.begun.queries other.grown el.alike.texts el.alike.queries));
        loops = block.loops ++ other.loops;
        loops_are = both_grown s.loops x.loops t.loops block.loops other.loops (el.begun.loops ∙ inner_loops) (el.alike.loops ∙ other.loops_are);
        locals = omega (arith, one, two, locals_x, locals_t);
        marks = λ p low.
            let lt = below_end p low in
            ap (λ l. label_at l p) (same_labels y t el.labels_after el.last_after)
            ∙ (other.marks p (omega (arith, lt, count_x)) (omega (arith, lt, count_x, count_y)) ∙ (marks_before v x (length x.ops) p x.scope.kinds el.labels el.last (omega (arith, lt, count_x)) ∙ first_marks p low));
        clean = gd.adds.clean gd.clean_behind;
      }
  else_lays schema part loops b ended now t before inner own (inr (e, el)) =
      let x = el.inner in
      let y = el.end in
      let other = own el.ended x y el.block_is in
      let h = other.grown in
      let count_x = jump_count base gd.tested v gd.es gd.some gd.ops gd.texts gd.queries tested_grown x y t el.begun.ops h el.alike.ops in
      let count_y = count_of x y h in
      let count_t = end_count base gd.tested v gd.es gd.some gd.ops gd.texts gd.queries tested_grown x y t el.begun.ops h el.alike.ops in
      let locals_x : x.locals ≡ v.locals = el.begun.locals in
      let locals_t : t.locals ≡ y.locals = el.alike.locals in
      let one = inner_locals in
      let two = other.locals in
      record {
        grown = grown_on s base t gd.adds.grown (aims_grown base gd.tested v gd.es gd.some gd.ops gd.texts gd.queries tested_grown t (length x.ops) (ops.Jump (length y.ops) ∷ h.ops)
            (closed_is base gd.tested v gd.es gd.some gd.ops gd.texts gd.queries tested_grown x y t el.begun.ops h el.alike.ops) (more_after v x y t el.begun.texts el.begun.queries h el.alike.texts el.alike.queries));
        loops = block.loops ++ other.loops;
        loops_are = both_grown s.loops x.loops t.loops block.loops other.loops (el.begun.loops ∙ inner_loops) (el.alike.loops ∙ other.loops_are);
        locals = omega (arith, one, two, locals_x, locals_t);
        marks = λ p low.
            let lt = below_end p low in
            marks_before y t (length t.ops) p t.scope.kinds el.labels_after el.last_after (omega (arith, lt, count_x, count_y, count_t))
            ∙ (other.marks p (omega (arith, lt, count_x)) (omega (arith, lt, count_x, count_y)) ∙ (marks_before v x (length x.ops) p x.scope.kinds el.labels el.last (omega (arith, lt, count_x)) ∙ first_marks p low));
        clean = gd.adds.clean gd.clean_behind;
      }

module _ (schema : Schema) (part : Part) (loops : ℕ) (first : BlockTree) (s t : Buffer) (now : Bool) where
  pub one_lays : (br : Branches schema part loops first absent s t now) → Lays br.inner br.blocks.end → LaysOne s t
  one_lays br own =
      absent_lays s br.inner br.blocks.end br.exits br.guard own t br.blocks.ended now (mark_of br.guard.tested.scope) (mark_of br.inner.scope) (branches_absent schema part loops first s t now br)

  pub both_lay : (b : BlockTree) → (br : Branches schema part loops first (otherwise b) s t now) → Lays br.inner br.blocks.end → ((d : Bool) (inner end : Buffer) → statements_code schema part loops false b inner ≡ Ok (d, end) → Lays inner end) → LaysOne s t
  both_lay b br own other =
      else_lays s br.inner br.blocks.end br.exits br.guard own schema part loops b br.blocks.ended now t (mark_of br.guard.tested.scope) (mark_of br.inner.scope) other (branches_else schema part loops first b s t now br)
