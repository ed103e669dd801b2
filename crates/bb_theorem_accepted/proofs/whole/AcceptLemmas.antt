-- Statements of all kinds, one after another, lead the verifier to what stands after them.
use Rattle.std.proofs.Common.{◌≡◌, ◌⊎◌, inl, inr, ℕ, Bool, true, false, ◌||◌, List, [], ◌++◌, length, Option, None, Ok, refl, subst, sym, ap, ◌∙◌, arith, ◌-◌, Some}
use Rattle.std.proofs.lemmas.List.{append-nil}
use Rattle.bb_basis.proofs.ResultLemmas.{bind_ok}
use Rattle.bb_schema.specs.Schema.{Schema}
use Rattle.bb_schema.specs.Fits as schemas
use Rattle.bb_code.specs.Code.{Code}
use Rattle.bb_lang.specs.Blocks.{BlockTree, StatementTree, no_statement, before_others, action, if_of, with_of, for_of, absent, otherwise}
use Rattle.bb_compile_scope.specs.Scope.{mark_of}
use Rattle.bb_compile_scope.specs.Ending.{ends}
use Rattle.bb_compile_scope.specs.Place.{Place}
use Rattle.bb_compile_scope.specs.declared.fault.TextFlaw.TheVariants.{NoEnd}
use Rattle.bb_compile_buffer.specs.declared.buffer.Buffer.{Buffer}
use Rattle.bb_compile.specs.Statements.{after_end, statement_code, statements_code}
use Rattle.bb_verify_effect.specs.declared.frame.Frame.{Frame}
use Rattle.bb_verify_effect.specs.declared.part.Part.{Part}
use Rattle.bb_theorem_accepted.proofs.buffers.BufferLemmas.{Grown, Has, never_noted, grown_none, grown_on, count_of, has_before}
use Rattle.bb_theorem_accepted.proofs.buffers.PutLemmas.{pair_ok}
use Rattle.bb_theorem_accepted.proofs.straight.PatternLemmas.{AreSmall}
use Rattle.bb_theorem_accepted.proofs.straight.ActionLemmas.{action_does}
use Rattle.bb_theorem_accepted.proofs.blocks.BranchLemmas.{ElseEnded, ElseOn, if_laid, with_laid}
use Rattle.bb_theorem_accepted.proofs.blocks.HeadLemmas.{binding_laid}
use Rattle.bb_theorem_accepted.proofs.blocks.GuardLemmas.{Branches, if_branches, with_branches, behind_first, branches_absent, branches_else}
use Rattle.bb_theorem_accepted.proofs.kinds.KnowLemmas.{Finds}
use Rattle.bb_theorem_accepted.proofs.blocks.BlockLemmas.{Lays as LaysBlock, stated}
use Rattle.bb_theorem_accepted.proofs.blocks.TextLays.{block_lays, statement_lays}
use Rattle.bb_theorem_accepted.proofs.kinds.MoveLemmas.{moves_same, moves_on}
use Rattle.bb_theorem_accepted.proofs.walks.WalkLemmas.{Walks, walks_on}
use Rattle.bb_theorem_accepted.proofs.walks.JoinLemmas.{Sound, Agrees, agrees_before}
use Rattle.bb_theorem_accepted.proofs.walks.GoesLemmas.{After, Goes, action_goes}
use Rattle.bb_theorem_accepted.proofs.walks.TraceLemmas.{Traced, traced_walk}
use Rattle.bb_theorem_accepted.proofs.walks.GuideLemmas.{Guides}
use Rattle.bb_theorem_accepted.proofs.blocks.BeforeLemmas.{InEither, InOther, InBlock, InStatement}
use Rattle.bb_theorem_accepted.proofs.branches.TestGoes.{test_guides}
use Rattle.bb_theorem_accepted.proofs.branches.HeadGoes.{head_guides}
use Rattle.bb_theorem_accepted.proofs.branches.BranchGoes.{absent_goes}
use Rattle.bb_theorem_accepted.proofs.branches.ElseGoes.{ended_goes, on_goes}
use Rattle.bb_code.specs.declared.parts.TheConstants.{STACK_LIMIT}
use Rattle.bb_lang.specs.View.{sequence_of}
use Rattle.bb_theorem_accepted.proofs.straight.ExprLemmas.{sequence_lays}
use Rattle.bb_theorem_accepted.proofs.blocks.LoopLaid.{for_laid}
use Rattle.bb_theorem_accepted.proofs.blocks.ForLays.{behind_grown}
use Rattle.bb_theorem_accepted.proofs.sparing.TextActs.{block_acts}
use Rattle.bb_theorem_accepted.proofs.sparing.ForActs.{sole_inner}
use Rattle.bb_theorem_accepted.proofs.loops.ForSounds.{sound_inner}
use Rattle.bb_theorem_accepted.proofs.loops.ForEnds.{agrees_end}
use Rattle.bb_theorem_accepted.proofs.loops.ForGoes.{for_goes}

module _ (schema : Schema) (sf : schemas.Fits schema) (part : Part) (code : Code) (small : AreSmall schema sf part code) where
  abbrev pub GoesHere : Buffer → Buffer → Bool → (List Frame → Type 0) → Type 0
  GoesHere s t now S = Goes schema sf part code s t now S

  abbrev pub IsSound : Buffer → Type 0
  IsSound t = Sound schema sf part code t

  abbrev pub AgreesHere : Buffer → Type 0
  AgreesHere t = Agrees schema sf part code t

  abbrev TracedHere : List Frame → ℕ → Option Frame → Type 0
  TracedHere frames place next = Traced schema part code frames place next

  -- after a statement that ends there is no other
  abbrev pub Block : (was now : Bool) → Buffer → Buffer → (List Frame → Type 0) → Type 0
  Block true now s t S = (s ≡ t) × (now ≡ true) × ((frames : List Frame) → S frames)
  Block false now s t S = GoesHere s t now S

  pub goes_none : (s t : Buffer) → s ≡ t → IsSound s → GoesHere s t false (λ frames. Unit {0})
  unfolding grown_none
  goes_none s t same sound =
      subst (λ u. GoesHere s u false (λ frames. Unit {0})) same
      (record {
        grown = grown_none s s refl refl refl;
        moves = moves_same schema sf s s refl refl;
        sound = sound;
        unlabelled = λ e. absurd cc;
        right = λ e. absurd cc;
        more = λ joins. (joins refl, λ next arrives. ((next, arrives, refl), λ frames traced. tt));
      })

  -- more may be told
  pub goes_with : (s t : Buffer) (now : Bool) (S T : List Frame → Type 0) → ((frames : List Frame) → S frames → T frames) → GoesHere s t now S → GoesHere s t now T
  goes_with s t now S T also g = record {
    grown = g.grown;
    moves = g.moves;
    sound = g.sound;
    unlabelled = g.unlabelled;
    right = g.right;
    more = λ joins. let m = g.more joins in (m.0, λ next arrives. let a = m.1 next arrives in (a.0, λ frames traced. also frames (a.1 frames traced)));
  }

  -- the verifier comes from one statement to the next
  traced_next : (s t : Buffer) (g : Grown s t) → Has code t → (frames : List Frame) (next out : Option Frame) → Walks schema part code (length s.ops) g.ops next out → TracedHere frames (length s.ops) next → TracedHere frames (length t.ops) out
  traced_next s t g has frames next out walks traced =
      subst (λ n. TracedHere frames n out) (sym (count_of s t g)) (traced_walk schema part code frames t has (length s.ops) s.ops g.ops [] next out refl (g.ops_are ∙ ap (λ l. s.ops ++ l) (sym (append-nil g.ops))) walks traced)

  goes_then : (now : Bool) (s t u : Buffer) (S T : List Frame → Type 0) → Has code t → GoesHere s t false S → GoesHere t u now T → GoesHere s u now (λ frames. S frames × T frames)
  unfolding grown_on
  goes_then now s t u S T has first then = record {
    grown = grown_on s t u first.grown then.grown;
    moves = moves_on schema sf s t u first.moves then.moves;
    sound = then.sound;
    unlabelled = then.unlabelled;
    right = then.right;
    more = λ joins.
        let two = then.more joins in
        let one = first.more (λ e. two.0) in (
          one.0,
          λ next arrives.
              let x = one.1 next arrives in
              let y = two.1 x.0.0 x.0.1 in
              (both now next x.0.0 x.0.2 y.0, λ frames traced. (x.1 frames traced, y.1 frames (traced_next s t first.grown has frames next x.0.0 x.0.2 traced))),
        );
  }
    where
      both : (n : Bool) (next mid : Option Frame) → Walks schema part code (length s.ops) first.grown.ops next mid → After schema sf part code n (length t.ops) then.grown.ops mid u → After schema sf part code n (length s.ops) (first.grown.ops ++ then.grown.ops) next u
      both true next mid walks after =
          walks_on schema part code (length s.ops) first.grown.ops then.grown.ops next mid None walks (subst (λ p. Walks schema part code p then.grown.ops mid None) (count_of s t first.grown) after)
      both false next mid walks after =
          (after.0, after.1, walks_on schema part code (length s.ops) first.grown.ops then.grown.ops next mid after.0 walks (subst (λ p. Walks schema part code p then.grown.ops mid after.0) (count_of s t first.grown) after.2))

  pub joined : (e now : Bool) (s t u : Buffer) (S T : List Frame → Type 0) → Has code t → GoesHere s t e S → Block e now t u T → GoesHere s u now (λ frames. S frames × T frames)
  joined true now s t u S T has first rest =
      subst (λ b. GoesHere s u b (λ frames. S frames × T frames)) (sym rest.1) (subst (λ x. GoesHere s x true (λ frames. S frames × T frames)) rest.0 (goes_with s t true S (λ frames. S frames × T frames) (λ frames own. (own, rest.2 frames)) first))
  joined false now s t u S T has first rest = goes_then now s t u S T has first rest

  -- the frame where a statement with blocks begins fits what the compiler knows there
  abbrev pub Found : List Frame → Buffer → Type 0
  Found frames x = Finds schema sf frames (length x.ops) x.scope.kinds

  -- a test and the blocks after it
  module _ (loops : ℕ) (first : BlockTree) (s t : Buffer) (now : Bool) (sound : IsSound s) (agrees : AgreesHere t) (S : (e : Bool) (x y : Buffer) → statements_code schema part loops false first x ≡ Ok (e, y) → List Frame → Type 0)
      (lays : (e : Bool) (x y : Buffer) → statements_code schema part loops false first x ≡ Ok (e, y) → LaysBlock x y) (goes : (e : Bool) (x y : Buffer) → (is : statements_code schema part loops false first x ≡ Ok (e, y)) → IsSound x → AgreesHere y → GoesHere x y e (S e x y is)) where
    pub one_goes : (br : Branches schema part loops first absent s t now) → (Has code br.guard.behind → Guides schema sf part code s br.inner br.exits br.guard) → GoesHere s t now (λ frames. Found frames s × S br.blocks.ended br.inner br.blocks.end br.blocks.block_is frames)
    one_goes br guides =
        let blocks = br.blocks in
        absent_goes schema sf part code s br.inner blocks.end br.exits br.guard guides (lays blocks.ended br.inner blocks.end blocks.block_is) (S blocks.ended br.inner blocks.end blocks.block_is) t blocks.ended now (branches_absent schema part loops first s t now br) sound agrees
        (goes blocks.ended br.inner blocks.end blocks.block_is)

    pub both_go : (b : BlockTree) (T : (d : Bool) (x y : Buffer) → statements_code schema part loops false b x ≡ Ok (d, y) → List Frame → Type 0) → ((d : Bool) (x y : Buffer) → statements_code schema part loops false b x ≡ Ok (d, y) → LaysBlock x y)
        → ((d : Bool) (x y : Buffer) → (is : statements_code schema part loops false b x ≡ Ok (d, y)) → IsSound x → AgreesHere y → GoesHere x y d (T d x y is))
        → (br : Branches schema part loops first (otherwise b) s t now) → (Has code br.guard.behind → Guides schema sf part code s br.inner br.exits br.guard)
        → GoesHere s t now (λ frames. Found frames s × (S br.blocks.ended br.inner br.blocks.end br.blocks.block_is frames × InOther schema part loops first b s t now br (λ d x y is. T d x y is frames)))
    both_go b T more second br guides = by_end (branches_else schema part loops first b s t now br)
      where
        by_end : (sides : (let w = behind_first schema part loops first (otherwise b) s t now br in
            ((br.blocks.ended ≡ true) × ElseEnded schema part loops (mark_of br.guard.tested.scope) (length br.guard.behind.ops) (length br.guard.es) b w t now)
            ⊎ ((br.blocks.ended ≡ false) × ElseOn schema part loops (mark_of br.guard.tested.scope) (length br.guard.behind.ops) (length br.guard.es) b w t now)))
            → GoesHere s t now (λ frames. Found frames s × (S br.blocks.ended br.inner br.blocks.end br.blocks.block_is frames
            × InEither schema part loops (mark_of br.guard.tested.scope) (length br.guard.behind.ops) (length br.guard.es) b br.blocks.ended (behind_first schema part loops first (otherwise b) s t now br) t now (λ d x y is. T d x y is frames) sides))
        by_end (inl (e, el)) =
            let blocks = br.blocks in
            ended_goes schema sf part code s br.inner blocks.end br.exits br.guard guides (lays blocks.ended br.inner blocks.end blocks.block_is) (S blocks.ended br.inner blocks.end blocks.block_is) loops b t now (T now el.inner el.end el.block_is) sound agrees el (more now el.inner el.end el.block_is)
            (λ a c. subst (λ d. GoesHere br.inner blocks.end d (S blocks.ended br.inner blocks.end blocks.block_is)) e (goes blocks.ended br.inner blocks.end blocks.block_is a c)) (second now el.inner el.end el.block_is)
        by_end (inr (e, el)) =
            let blocks = br.blocks in
            on_goes schema sf part code s br.inner blocks.end br.exits br.guard guides (lays blocks.ended br.inner blocks.end blocks.block_is) (S blocks.ended br.inner blocks.end blocks.block_is) loops b t now (T el.ended el.inner el.end el.block_is) sound agrees el (more el.ended el.inner el.end el.block_is)
            (λ a c. subst (λ d. GoesHere br.inner blocks.end d (S blocks.ended br.inner blocks.end blocks.block_is)) e (goes blocks.ended br.inner blocks.end blocks.block_is a c)) (second el.ended el.inner el.end el.block_is)

  abbrev pub Told : (b : BlockTree) (loops : ℕ) (was now : Bool) (s t : Buffer) → statements_code schema part loops was b s ≡ Ok (now, t) → List Frame → Type 0
  Told b loops was now s t h frames = InBlock schema part (Found frames) b loops was now s t h

  mutual
    unfolding statements_code statement_code if_branches with_branches InBlock InStatement

    pub block_goes : (b : BlockTree) (loops : ℕ) (was now : Bool) (s t : Buffer) → (h : statements_code schema part loops was b s ≡ Ok (now, t)) → IsSound s → AgreesHere t → Block was now s t (Told b loops was now s t h)
    block_goes no_statement loops true now s t h sound agrees = let same = pair_ok true now s t h in (same.1, sym same.0, λ frames. tt)
    block_goes no_statement loops false now s t h sound agrees = let same = pair_ok false now s t h in subst (λ b. GoesHere s t b (λ frames. Unit {0})) same.0 (goes_none s t same.1 sound)
    block_goes (before_others place x others) loops true now s t h sound agrees =
        let here = after_end true s in
        let one = bind_ok (statement_code schema part loops place x here) (λ p. statements_code schema part loops (true || p.0) others p.1) (now, t) h in
        never_noted NoEnd s (statement_lays schema part x loops place one.0.0 here one.0.1 one.1).clean
    block_goes (before_others place x others) loops false now s t h sound agrees =
        let one = bind_ok (statement_code schema part loops place x s) (λ p. statements_code schema part loops (false || p.0) others p.1) (now, t) h in
        let behind = block_lays schema part others loops one.0.0 now one.0.1 t one.2 in
        let agrees_here = agrees_before schema sf part code one.0.1 t behind.grown behind.locals (λ p lt. behind.marks p (omega (arith, lt)) (let count = count_of one.0.1 t behind.grown in omega (arith, lt, count))) agrees in
        let first = statement_goes x loops place one.0.0 s one.0.1 one.1 sound agrees_here in
        joined one.0.0 now s one.0.1 t (λ frames. InStatement schema part (Found frames) x loops place one.0.0 s one.0.1 one.1) (Told others loops one.0.0 now one.0.1 t one.2) agrees_here.has first (block_goes others loops one.0.0 now one.0.1 t one.2 first.sound agrees)

    statement_goes : (x : StatementTree) (loops : ℕ) (place : Place) (now : Bool) (s t : Buffer) → (h : statement_code schema part loops place x s ≡ Ok (now, t)) → IsSound s → AgreesHere t → GoesHere s t now (λ frames. InStatement schema part (Found frames) x loops place now s t h)
    statement_goes (action a) loops place now s t h sound agrees =
        let is = stated schema part place a s t now h in
        subst (λ e. GoesHere s t e (λ frames. Unit {0})) is.now_is (action_goes schema sf part code small (ends a) s t (action_does schema sf part code small a s t is.code_is is.clean agrees.has) sound agrees)
    statement_goes (if_of test first absent) loops place now s t h sound agrees =
        let laid = if_laid schema part loops place test first absent s t now h in
        one_goes loops first s t now sound agrees (λ e x y is. Told first loops false e x y is) (λ e x y is. block_lays schema part first loops false e x y is) (λ e x y is sound agrees. block_goes first loops false e x y is sound agrees)
        (if_branches schema part loops test first absent s t now laid) (λ has. test_guides schema sf part code small test s laid.inner laid.exits laid.test_is has)
    statement_goes (if_of test first (otherwise b)) loops place now s t h sound agrees =
        let laid = if_laid schema part loops place test first (otherwise b) s t now h in
        both_go loops first s t now sound agrees (λ e x y is. Told first loops false e x y is) (λ e x y is. block_lays schema part first loops false e x y is) (λ e x y is sound agrees. block_goes first loops false e x y is sound agrees) b (λ d x y is. Told b loops false d x y is)
        (λ d x y is. block_lays schema part b loops false d x y is) (λ d x y is sound agrees. block_goes b loops false d x y is sound agrees)
        (if_branches schema part loops test first (otherwise b) s t now laid) (λ has. test_guides schema sf part code small test s laid.inner laid.exits laid.test_is has)
    statement_goes (with_of binding first absent) loops place now s t h sound agrees =
        let laid = with_laid schema part loops place binding first absent s t now h in
        let head = binding_laid schema binding place s laid.inner laid.exits laid.test_is in
        one_goes loops first s t now sound agrees (λ e x y is. Told first loops false e x y is) (λ e x y is. block_lays schema part first loops false e x y is) (λ e x y is sound agrees. block_goes first loops false e x y is sound agrees)
        (with_branches schema part loops binding place first absent s t now laid) (λ has. head_guides schema sf part code small binding s laid.inner laid.exits head.0 head.1)
    statement_goes (with_of binding first (otherwise b)) loops place now s t h sound agrees =
        let laid = with_laid schema part loops place binding first (otherwise b) s t now h in
        let head = binding_laid schema binding place s laid.inner laid.exits laid.test_is in
        both_go loops first s t now sound agrees (λ e x y is. Told first loops false e x y is) (λ e x y is. block_lays schema part first loops false e x y is) (λ e x y is sound agrees. block_goes first loops false e x y is sound agrees) b (λ d x y is. Told b loops false d x y is)
        (λ d x y is. block_lays schema part b loops false d x y is) (λ d x y is sound agrees. block_goes b loops false d x y is sound agrees)
        (with_branches schema part loops binding place first (otherwise b) s t now laid) (λ has. head_guides schema sf part code small binding s laid.inner laid.exits head.0 head.1)
    statement_goes (for_of name sequence body) loops place now s t h sound agrees =
        let f = for_laid schema part loops place name sequence body s t now h in
        let sole = sound.tidy.sole in
        let first = block_lays schema part body (loops - 1) false f.ended f.inner f.end f.block_is in
        let has_behind = has_before code f.sequence_is.behind t (behind_grown schema part loops name sequence body s t now f first) agrees.has in
        let units = sequence_lays schema sf part code small (sequence_of sequence) STACK_LIMIT s f.sequence_is.behind (Some f.class) f.sequence_is.code_is f.sequence_is.clean has_behind in
        let acted = block_acts schema part body (loops - 1) false f.ended f.inner f.end f.block_is (sole_inner schema part loops name sequence body s t now sole f) in
        let sound_body = sound_inner schema sf part code loops name sequence body s t now sole f first units sound in
        let agrees_body = agrees_end schema sf part code loops name sequence body s t now sole f first units sound agrees in
        let own = block_goes body (loops - 1) false f.ended f.inner f.end f.block_is sound_body agrees_body in
        for_goes schema sf part code loops name sequence body s t now sole f first units sound agrees small acted (Told body (loops - 1) false f.ended f.inner f.end f.block_is) own
