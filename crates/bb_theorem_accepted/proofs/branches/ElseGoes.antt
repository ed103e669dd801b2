-- What an `if` or a `with` with an `else` lays out leads the verifier to what stands after it, where its test and its
-- blocks do so.
use Rattle.std.proofs.Common.{◌≡◌, inl, inr, ℕ, ◌+◌, ◌<◌, ◌≤◌, Bool, true, false, cond, List, [], ◌∷◌, ◌++◌, length, Option, Some, None, Ok, refl, subst, sym, ap, ◌∙◌, arith, append_assoc}
use Rattle.std.specs.Prelude.{option_map}
use Rattle.std.proofs.lemmas.List.{append-nil}
use Rattle.bb_compile_scope.specs.declared.scope.Scope.{Scope}
use Rattle.bb_schema.specs.Schema.{Schema}
use Rattle.bb_schema.specs.Fits as schemas
use Rattle.bb_code.specs.Code.{Code}
use Rattle.bb_code.specs.declared.frame.Kind.{Kind}
use Rattle.bb_code.specs.declared.op.Op.{Op}
use Rattle.bb_code.specs.declared.op.Op.TheVariants as ops
use Rattle.bb_lang.specs.Blocks.{BlockTree}
use Rattle.bb_compile_scope.specs.LocalKinds.{is_free, kind_at, kinds_left}
use Rattle.bb_compile_scope.specs.Scope.{mark_of}
use Rattle.bb_compile_buffer.specs.declared.buffer.Buffer.{Buffer}
use Rattle.bb_compile_buffer.specs.Buffers.{leave}
use Rattle.bb_compile.specs.declared.exits.Exits.{Exits}
use Rattle.bb_verify_effect.specs.declared.frame.Frame.{Frame}
use Rattle.bb_verify_effect.specs.declared.part.Part.{Part}
use Rattle.bb_verify.specs.Places.{target_due}
use Rattle.bb_theorem_accepted.proofs.buffers.BufferLemmas.{Grown, Has, grown_none, grown_on, has_before, count_of}
use Rattle.bb_theorem_accepted.proofs.blocks.BranchLemmas.{ElseEnded, ElseOn}
use Rattle.bb_theorem_accepted.proofs.blocks.GuardLemmas.{Guard}
use Rattle.bb_theorem_accepted.proofs.blocks.AimLemmas.{all_aimed, same_more, more_after, aims_grown, aims_has, behind_count, aimed_before, jump_count, open_is, closed_is, end_count, open_has, jump_there}
use Rattle.bb_theorem_accepted.proofs.kinds.KnowLemmas.{IsKept, Agree, Meet, Knows, Finds, left_taken, agree_on, agree_left, knows_left}
use Rattle.bb_theorem_accepted.proofs.kinds.MergeLemmas.{merged_other, merged_one}
use Rattle.bb_theorem_accepted.proofs.kinds.LabelLemmas.{listed, labels_of, label_at, Rises, rises_weaker, HasLast, AllLabels, frame_by}
use Rattle.bb_theorem_accepted.proofs.kinds.MoveLemmas.{moves_on}
use Rattle.bb_theorem_accepted.proofs.walks.WalkLemmas.{Walks, walks_on, jump_visit, At}
use Rattle.bb_theorem_accepted.proofs.walks.JoinLemmas.{here, HasFrame, AreGood, Weaker, Sound, Agrees, arrive, joins_own, joins_weaker, joins_same}
use Rattle.bb_theorem_accepted.proofs.blocks.BlockLemmas.{Lays as LaysBlock, same_labels, marks_before}
use Rattle.bb_theorem_accepted.proofs.walks.GoesLemmas.{After, Goes}
use Rattle.bb_theorem_accepted.proofs.walks.TraceLemmas.{Traced, traced_on, traced_walk}
use Rattle.bb_theorem_accepted.proofs.walks.GuideLemmas.{Guides, ahead, in_labels, in_moves, in_sound, in_fits, in_marks, led_after, led_traced, known_so}
use Rattle.bb_theorem_accepted.proofs.branches.BranchScopes.{labelled_here, labelled_sound, merged_moves, left_good, twice_good, names_left, names_twice, block_rest, block_same, either_moves, same_moves}

module _ (schema : Schema) (sf : schemas.Fits schema) (part : Part) (code : Code) where
  abbrev IsSound : Buffer → Type 0
  IsSound t = Sound schema sf part code t

  abbrev AgreesHere : Buffer → Type 0
  AgreesHere t = Agrees schema sf part code t

  abbrev WalksHere : ℕ → List Op → (next out : Option Frame) → Type 0
  WalksHere place listed next out = Walks schema part code place listed next out

  abbrev GoesHere : Buffer → Buffer → Bool → (List Frame → Type 0) → Type 0
  GoesHere s t now S = Goes schema sf part code s t now S

  abbrev TracedHere : List Frame → ℕ → Option Frame → Type 0
  TracedHere frames place next = Traced schema part code frames place next

  abbrev Fitting : Frame → List Kind → Type 0
  Fitting f ks = HasFrame schema sf part code f ks

  module _ (s u v : Buffer) (exits : Exits) (gd : Guard s u exits) (guides : Has code gd.behind → Guides schema sf part code s u exits gd) (block : LaysBlock u v) (S : List Frame → Type 0) where
    abbrev a : Buffer
    a = gd.behind

    -- after the test, before a name is declared
    abbrev r : Buffer
    r = gd.tested

    abbrev w : Buffer
    w = leave (mark_of r.scope) (leave (mark_of u.scope) v)

    abbrev grown_from_test : Grown u v → Grown r v
    grown_from_test g = grown_on r u v gd.named g

    long : length u.ops ≤ length v.ops
    long = let e = count_of u v block.grown in omega (arith, e)

    short : length r.ops ≤ length u.ops
    short = let e = count_of r u gd.named in omega (arith, e)

    module _ (loops : ℕ) (b : BlockTree) (t : Buffer) (now : Bool) (T : List Frame → Type 0) (sound : IsSound s) (agrees : AgreesHere t) where
      pub ended_goes : (el : ElseEnded schema part loops (mark_of r.scope) (length a.ops) (length gd.es) b w t now) → LaysBlock el.inner el.end → (IsSound u → AgreesHere v → GoesHere u v true S) → (IsSound el.inner → AgreesHere el.end → GoesHere el.inner el.end now T) → GoesHere s t now (λ frames. Finds schema sf frames (length s.ops) s.scope.kinds × (S frames × T frames))
      unfolding aims_grown grown_on
      ended_goes el other own second =
          let x = el.inner in
          let y = el.end in
          let h = other.grown in
          let le_v = long in
          let le_u = short in
          let up = ahead schema sf part code s u exits gd in
          let count_x : length x.ops ≡ length v.ops = ap length el.begun.ops ∙ behind_count a r v gd.es gd.some gd.ops gd.texts gd.queries (grown_from_test block.grown) in
          let count_y = count_of x y h in
          let count_t : length t.ops ≡ length y.ops = ap length el.alike.ops in
          let locals_x : x.locals ≡ v.locals = el.begun.locals in
          let locals_t : t.locals ≡ y.locals = el.alike.locals in
          let labels_t = same_labels y t el.labels_after el.last_after in
          let y_ops = aimed_before a r v gd.es gd.some gd.ops gd.texts gd.queries (grown_from_test block.grown) x y el.begun.ops h in
          let has_y = has_before code y t (grown_none y t el.alike.ops el.alike.texts el.alike.queries) agrees.has in
          let more_y = more_after v x y y el.begun.texts el.begun.queries h refl refl in
          let more_t = more_after v x y t el.begun.texts el.begun.queries h el.alike.texts el.alike.queries in
          let le_within = agrees.within in
          let le_code = agrees.locals in
          let le_other = other.locals in
          let le_block = block.locals in
          let agrees_y : AgreesHere y = record {
            has = has_y;
            within = omega (arith, le_within, count_t);
            locals = omega (arith, le_code, locals_t);
            frames = λ p lt. agrees.frames p (omega (arith, lt, count_t)) ∙ ap (λ ls. option_map (frame_by code.locals) (label_at ls p)) labels_t;
          } in
          let marks_v : (p : ℕ) → p < length v.ops → label_at (labels_of y) p ≡ label_at (labels_of v) p =
          λ p lt. other.marks p (omega (arith, lt, count_x)) (omega (arith, lt, count_x, count_y)) ∙ marks_before v x (length x.ops) p x.scope.kinds el.labels el.last (omega (arith, lt, count_x)) in
          let agrees_v : AgreesHere v = record {
            has = aims_has a r v gd.es gd.some gd.ops gd.texts gd.queries (grown_from_test block.grown) y (length v.ops) h.ops y_ops more_y code gd.opens has_y;
            within = omega (arith, le_within, count_t, count_y, count_x);
            locals = omega (arith, le_code, locals_t, le_other, locals_x);
            frames = λ p lt. agrees_y.frames p (omega (arith, lt, count_y, count_x)) ∙ ap (option_map (frame_by code.locals)) (marks_v p lt);
          } in
          let m = guides (has_before code a t (aims_grown a r v gd.es gd.some gd.ops gd.texts gd.queries (grown_from_test block.grown) t (length v.ops) h.ops (el.alike.ops ∙ y_ops) more_t) agrees.has) in
          let sound_u = in_sound schema sf part code s u exits gd m sound in
          let tidy_r = (in_moves schema sf part code s u exits gd m sound).tidy sound.tidy in
          let gv = own sound_u agrees_v in
          let names_x : x.scope.names ≡ r.scope.names = el.names ∙ names_twice schema sf part code r u v m.moves gv.moves in
          let locals_r = m.locals in
          let le_adds = gd.adds.locals in
          let le_named = gd.locals in
          let moves_x = same_moves schema sf part code r x names_x (omega (arith, locals_r, le_adds, le_named, le_block, locals_x)) el.kinds in
          let tidy_x = moves_x.tidy tidy_r in
          let here_x = labelled_here schema sf part code v x (length x.ops) refl el.labels el.last in
          let sound_x = labelled_sound schema sf part code v x (length x.ops) (subst (λ k. Rises 0 (labels_of v) (k + 1)) (sym count_x) gv.sound.rises) gv.sound.last gv.sound.good refl el.labels el.last tidy_x in
          let gy = second sound_x agrees_y in
          let g = gv.grown in
          let left = kinds_left u.scope.kinds v.scope.kinds in
          let once = agree_on r.scope.kinds u.scope.kinds left (m.moves.agree tidy_r) (agree_left u.scope.kinds v.scope.kinds (gv.moves.agree sound_u.tidy)) in
          let twice = agree_left r.scope.kinds left once in
          let agree_z : Agree r.scope.kinds (kinds_left x.scope.kinds y.scope.kinds) = subst (λ ks. Agree ks (kinds_left x.scope.kinds y.scope.kinds)) el.kinds (agree_left x.scope.kinds y.scope.kinds (gy.moves.agree tidy_x)) in
          let names_t : t.scope.names ≡ r.scope.names = el.names_after ∙ (names_left schema sf part code x y gy.moves ∙ names_x) in
          let le_locals : r.locals ≤ t.locals = omega (arith, locals_r, le_adds, le_named, le_block, locals_x, le_other, locals_t) in
          let moves_t =
          either_moves schema sf part code r t w.scope.kinds (kinds_left x.scope.kinds y.scope.kinds) now names_t le_locals el.kinds_after (λ tidy. (twice, agree_z))
          (λ tidy. (twice_good schema sf part code r u v gv.sound.tidy, (λ i taken. let back = left_good schema sf part code x y gy.sound.tidy i taken in (ap (λ ks. is_free (kind_at ks i)) (sym el.kinds) ∙ back.0, back.1)))) in
          let here_same : here t ≡ here y = ap (λ ls. label_at ls (length t.ops)) labels_t ∙ ap (label_at (labels_of y)) count_t in
          let kinds_t : now ≡ false → t.scope.kinds ≡ kinds_left x.scope.kinds y.scope.kinds = λ e. el.kinds_after ∙ ap (λ b. cond b w.scope.kinds (kinds_left x.scope.kinds y.scope.kinds)) e in
          let weaker : now ≡ false → (f : Frame) → Fitting f y.scope.kinds → Fitting f t.scope.kinds =
          λ e f has. (has.0, has.1, subst (Knows schema sf f.locals) (sym (kinds_t e)) (knows_left schema sf f.locals x.scope.kinds y.scope.kinds has.2)) in
          let sound_t : IsSound t = record {
            tidy = moves_t.tidy tidy_r;
            rises = subst (λ ls. Rises 0 ls (length t.ops + 1)) (sym labels_t) (subst (λ n. Rises 0 (labels_of y) (n + 1)) (sym count_t) gy.sound.rises);
            last = subst (λ k. HasLast k t.last) (sym el.labels_after) (subst (HasLast y.labels) (sym el.last_after) gy.sound.last);
            good = subst (AllLabels (AreGood schema sf part code)) (sym labels_t) gy.sound.good;
            strong = λ ks at. by_now now refl gy ks (sym here_same ∙ at) (λ e. kinds_t e);
          } in
          let few : s.locals ≤ code.locals = omega (arith, le_code, locals_r, le_locals) in
          let few_u : u.locals ≤ code.locals = omega (arith, le_code, le_block, locals_x, le_other, locals_t) in
          let declared_s : At schema part code (length s.ops) ≡ option_map (frame_by code.locals) (here s) =
          agrees_v.frames (length s.ops) (omega (arith, up, le_v))
          ∙ ap (option_map (frame_by code.locals)) (block.marks (length s.ops) (omega (arith, up)) (omega (arith, up, le_v)) ∙ ap (λ ls. label_at ls (length s.ops)) (in_labels schema sf part code s u exits gd)) in
          let count_g = count_of u v g in
          let grown_t =
          grown_on s a t m.grown (aims_grown a r v gd.es gd.some gd.ops gd.texts gd.queries (grown_from_test g) t (length v.ops) gy.grown.ops (el.alike.ops ∙ aimed_before a r v gd.es gd.some gd.ops gd.texts gd.queries (grown_from_test g) x y el.begun.ops gy.grown)
          (more_after v x y t el.begun.texts el.begun.queries gy.grown el.alike.texts el.alike.queries)) in
          record {
            grown = grown_t;
            moves = moves_on schema sf s r t (in_moves schema sf part code s u exits gd m sound) moves_t;
            sound = sound_t;
            unlabelled = λ e. here_same ∙ gy.unlabelled e;
            right = gy.right;
            more = λ joins.
                let by_y = gy.more (λ e. joins_same schema sf part code y t (sym count_t) labels_t (weaker e) (joins e)) in
                let by_v = gv.more (λ e. absurd cc) in
                let below = by_y.0.below in (
                  joins_own schema sf part code s sound (omega (arith, up, le_v, count_x, below)) declared_s,
                  λ next arrives.
                      let found = arrive schema sf part code s next sound few declared_s arrives in
                      let f = found.0 in
                      let led = m.leads sound few few_u f found.2 in
                      let fits = in_fits schema sf part code s u exits gd m sound led.0 led.1 in
                      let fits_x : Fitting f x.scope.kinds = subst (Fitting f) (sym el.kinds) (subst (λ (c : Scope). Fitting f c.kinds) (sym m.scope) found.2) in
                      let first = by_v.1 (Some led.0) (inl (led.0, refl, fits)) in
                      let last = by_y.1 None (inr (refl, x.scope.kinds, here_x)) in
                      let behind = block_same schema sf part code (length x.ops) y t g.ops gy.grown.ops (length u.ops) (Some led.0) None (sym count_t) labels_t now weaker (sym count_g ∙ sym count_x) first.0 last.0 in
                      let none : (p : ℕ) → length s.ops < p → p < length u.ops → At schema part code p ≡ None =
                      λ p low high. agrees_v.frames p (omega (arith, high, le_v)) ∙ ap (option_map (frame_by code.locals)) (in_marks schema sf part code s u exits gd m sound v block p low high) in
                      let there = by_v.0.on led.0 fits in
                      let target = subst (λ p. target_due schema (Some f) (At schema part code p) ≡ Ok tt) count_x (by_y.0.target x.scope.kinds here_x f fits_x) in (
                        led_after schema sf part code s u exits gd m.grown f led.0 led.2 (length v.ops) (g.ops ++ gy.grown.ops) ((gd.named.ops ++ g.ops) ++ gy.grown.ops) next now t (append_assoc gd.named.ops g.ops gy.grown.ops) found.1 none (omega (arith, le_u, le_v)) (omega (arith, below, count_x))
                            (omega (arith, le_v, below, count_x)) there target behind,
                        λ frames traced.
                            let traced_u =
                            led_traced schema sf part code s u exits gd m.grown f led.0 led.2 frames t agrees.has (length v.ops) g.ops gy.grown.ops next grown_t.ops_are found.1 none (omega (arith, le_u, le_v)) (omega (arith, below, count_x)) (omega (arith, le_v, below, count_x)) there target traced in
                            let traced_v = traced_walk schema part code frames v agrees_v.has (length u.ops) u.ops g.ops [] (Some led.0) None refl (g.ops_are ∙ ap (λ l. u.ops ++ l) (sym (append-nil g.ops))) first.0 traced_u in
                            (known_so schema sf part code frames s next f (omega (arith, up, le_v, count_x, below)) found.1 found.2 traced, (first.1 frames traced_u, last.1 frames (subst (λ n. TracedHere frames n None) (sym count_g ∙ sym count_x) traced_v))),
                      ),
                );
          }
        where
          by_now : (n : Bool) → now ≡ n → (gy : GoesHere el.inner el.end now T) → (ks : List Kind) → here el.end ≡ Some ks → (now ≡ false → t.scope.kinds ≡ kinds_left el.inner.scope.kinds el.end.scope.kinds) → Weaker schema sf part code ks t.scope.kinds
          by_now true is gy ks at kinds_t i taken k held = absurd (let no : None ≡ Some ks = sym (gy.unlabelled is) ∙ at in cc)
          by_now false is gy ks at kinds_t i taken k held =
              let same : t.scope.kinds ≡ kinds_left el.inner.scope.kinds el.end.scope.kinds = kinds_t is in
              let was = left_taken el.inner.scope.kinds el.end.scope.kinds i (ap (λ l. is_free (kind_at l i)) (sym same) ∙ taken) in
              let e : kind_at t.scope.kinds i ≡ kind_at el.end.scope.kinds i = ap (λ l. kind_at l i) same ∙ was.1 in
              subst (IsKept schema sf k) (sym e) (gy.sound.strong ks at i (ap is_free (sym e) ∙ taken) k held)

      pub on_goes : (el : ElseOn schema part loops (mark_of r.scope) (length a.ops) (length gd.es) b w t now) → LaysBlock el.inner el.end → (IsSound u → AgreesHere v → GoesHere u v false S) → (IsSound el.inner → AgreesHere el.end → GoesHere el.inner el.end el.ended T) → GoesHere s t now (λ frames. Finds schema sf frames (length s.ops) s.scope.kinds × (S frames × T frames))
      unfolding aims_grown grown_on
      on_goes el other own second =
          let x = el.inner in
          let y = el.end in
          let h = other.grown in
          let le_v = long in
          let le_u = short in
          let up = ahead schema sf part code s u exits gd in
          let count_x = jump_count a r v gd.es gd.some gd.ops gd.texts gd.queries (grown_from_test block.grown) x y t el.begun.ops h el.alike.ops in
          let count_y = count_of x y h in
          let count_t = end_count a r v gd.es gd.some gd.ops gd.texts gd.queries (grown_from_test block.grown) x y t el.begun.ops h el.alike.ops in
          let locals_x : x.locals ≡ v.locals = el.begun.locals in
          let locals_t : t.locals ≡ y.locals = el.alike.locals in
          let has_y = open_has a r v gd.es gd.some gd.ops gd.texts gd.queries (grown_from_test block.grown) x y t el.begun.ops h el.alike.ops code (same_more y t el.alike.texts el.alike.queries) agrees.has in
          let y_ops = open_is a r v gd.es gd.some gd.ops gd.texts gd.queries (grown_from_test block.grown) x y t el.begun.ops h el.alike.ops in
          let t_ops = closed_is a r v gd.es gd.some gd.ops gd.texts gd.queries (grown_from_test block.grown) x y t el.begun.ops h el.alike.ops in
          let more_y = more_after v x y y el.begun.texts el.begun.queries h refl refl in
          let more_t = more_after v x y t el.begun.texts el.begun.queries h el.alike.texts el.alike.queries in
          let le_within = agrees.within in
          let le_code = agrees.locals in
          let le_other = other.locals in
          let le_block = block.locals in
          let agrees_y : AgreesHere y = record {
            has = has_y;
            within = omega (arith, le_within, count_t);
            locals = omega (arith, le_code, locals_t);
            frames = λ p lt. agrees.frames p (omega (arith, lt, count_t)) ∙ ap (option_map (frame_by code.locals)) (marks_before y t (length t.ops) p t.scope.kinds el.labels_after el.last_after (omega (arith, lt, count_t)));
          } in
          let marks_v : (p : ℕ) → p < length x.ops → label_at (labels_of y) p ≡ label_at (labels_of v) p =
          λ p lt. other.marks p (omega (arith, lt)) (omega (arith, lt, count_y)) ∙ marks_before v x (length x.ops) p x.scope.kinds el.labels el.last lt in
          let agrees_v : AgreesHere v = record {
            has = aims_has a r v gd.es gd.some gd.ops gd.texts gd.queries (grown_from_test block.grown) y (length x.ops) (ops.Jump 0 ∷ h.ops) y_ops more_y code gd.opens has_y;
            within = omega (arith, le_within, count_t, count_y, count_x);
            locals = omega (arith, le_code, locals_t, le_other, locals_x);
            frames = λ p lt. agrees_y.frames p (omega (arith, lt, count_y, count_x)) ∙ ap (option_map (frame_by code.locals)) (marks_v p (omega (arith, lt, count_x)));
          } in
          let m = guides (has_before code a t (aims_grown a r v gd.es gd.some gd.ops gd.texts gd.queries (grown_from_test block.grown) t (length x.ops) (ops.Jump (length y.ops) ∷ h.ops) t_ops more_t) agrees.has) in
          let sound_u = in_sound schema sf part code s u exits gd m sound in
          let tidy_r = (in_moves schema sf part code s u exits gd m sound).tidy sound.tidy in
          let gv = own sound_u agrees_v in
          let names_x : x.scope.names ≡ r.scope.names = el.names ∙ names_twice schema sf part code r u v m.moves gv.moves in
          let locals_r = m.locals in
          let le_adds = gd.adds.locals in
          let le_named = gd.locals in
          let moves_x = same_moves schema sf part code r x names_x (omega (arith, locals_r, le_adds, le_named, le_block, locals_x)) el.kinds in
          let tidy_x = moves_x.tidy tidy_r in
          let here_x = labelled_here schema sf part code v x (length x.ops) refl el.labels el.last in
          let sound_x =
          labelled_sound schema sf part code v x (length x.ops) (rises_weaker 0 (labels_of v) (length v.ops + 1) (length x.ops + 1) (omega (arith, count_x)) gv.sound.rises) gv.sound.last gv.sound.good refl el.labels el.last tidy_x in
          let gy = second sound_x agrees_y in
          let g = gv.grown in
          let left = kinds_left u.scope.kinds v.scope.kinds in
          let once = agree_on r.scope.kinds u.scope.kinds left (m.moves.agree tidy_r) (agree_left u.scope.kinds v.scope.kinds (gv.moves.agree sound_u.tidy)) in
          let twice = agree_left r.scope.kinds left once in
          let z = kinds_left x.scope.kinds y.scope.kinds in
          let agree_y = gy.moves.agree tidy_x in
          let agree_z : Agree r.scope.kinds z = subst (λ ks. Agree ks z) el.kinds (agree_left x.scope.kinds y.scope.kinds agree_y) in
          let meets : Meet w.scope.kinds z =
          λ i taken.
          let was = left_taken x.scope.kinds y.scope.kinds i taken in
          let taken_r : is_free (kind_at r.scope.kinds i) ≡ false = ap (λ ks. is_free (kind_at ks i)) (sym el.kinds) ∙ was.0 in
          sym (twice i taken_r) ∙ agree_z i taken_r in
          let names_t : t.scope.names ≡ r.scope.names = el.names_after ∙ (names_left schema sf part code x y gy.moves ∙ names_x) in
          let le_locals : r.locals ≤ t.locals = omega (arith, locals_r, le_adds, le_named, le_block, locals_x, le_other, locals_t) in
          let moves_t =
          merged_moves schema sf part code r t w.scope.kinds z el.ended names_t le_locals el.kinds_after (λ tidy. (twice, agree_z, meets))
          (λ tidy. (twice_good schema sf part code r u v gv.sound.tidy, (λ i taken. let back = left_good schema sf part code x y gy.sound.tidy i taken in (ap (λ ks. is_free (kind_at ks i)) (sym el.kinds) ∙ back.0, back.1)))) in
          let tidy_t = moves_t.tidy tidy_r in
          let here_t = labelled_here schema sf part code y t (length t.ops) refl el.labels_after el.last_after in
          let sound_t = labelled_sound schema sf part code y t (length t.ops) (subst (λ n. Rises 0 (labels_of y) (n + 1)) (sym count_t) gy.sound.rises) gy.sound.last gy.sound.good refl el.labels_after el.last_after tidy_t in
          let from_first : (f : Frame) → Fitting f v.scope.kinds → Fitting f t.scope.kinds =
          λ f has. (
            has.0,
            has.1,
            merged_other r.scope.kinds w.scope.kinds z t.scope.kinds el.ended el.kinds_after twice agree_z meets schema sf f.locals
                (knows_left schema sf f.locals r.scope.kinds left (knows_left schema sf f.locals u.scope.kinds v.scope.kinds has.2)),
          ) in
          let from_second : el.ended ≡ false → (f : Frame) → Fitting f y.scope.kinds → Fitting f t.scope.kinds =
          λ e f has. (has.0, has.1, merged_one r.scope.kinds w.scope.kinds z t.scope.kinds el.ended el.kinds_after twice agree_z meets schema sf f.locals e (knows_left schema sf f.locals x.scope.kinds y.scope.kinds has.2)) in
          let few : s.locals ≤ code.locals = omega (arith, le_code, locals_r, le_locals) in
          let few_u : u.locals ≤ code.locals = omega (arith, le_code, le_block, locals_x, le_other, locals_t) in
          let few_v : v.locals ≤ code.locals = omega (arith, le_code, locals_t, le_other, locals_x) in
          let declared_s : At schema part code (length s.ops) ≡ option_map (frame_by code.locals) (here s) =
          agrees_v.frames (length s.ops) (omega (arith, up, le_v))
          ∙ ap (option_map (frame_by code.locals)) (block.marks (length s.ops) (omega (arith, up)) (omega (arith, up, le_v)) ∙ ap (λ ls. label_at ls (length s.ops)) (in_labels schema sf part code s u exits gd)) in
          let declared_v : At schema part code (length v.ops) ≡ option_map (frame_by code.locals) (here v) =
          agrees_y.frames (length v.ops) (omega (arith, count_y, count_x)) ∙ ap (option_map (frame_by code.locals)) (marks_v (length v.ops) (omega (arith, count_x))) in
          let count_g = count_of u v g in
          let over = ops.Jump (length y.ops) ∷ gy.grown.ops in
          let grown_t =
          grown_on s a t m.grown (aims_grown a r v gd.es gd.some gd.ops gd.texts gd.queries (grown_from_test g) t (length x.ops) over (closed_is a r v gd.es gd.some gd.ops gd.texts gd.queries (grown_from_test g) x y t el.begun.ops gy.grown el.alike.ops)
          (more_after v x y t el.begun.texts el.begun.queries gy.grown el.alike.texts el.alike.queries)) in
          record {
            grown = grown_t;
            moves = moves_on schema sf s r t (in_moves schema sf part code s u exits gd m sound) moves_t;
            sound = sound_t;
            unlabelled = λ e. absurd (let no : true ≡ false = sym e ∙ el.now_is in cc);
            right = λ e. absurd (let no : true ≡ false = sym e ∙ el.now_is in cc);
            more = λ joins.
                let j = joins el.now_is in
                let high = j.below in
                let by_y = gy.more (λ e. joins_weaker schema sf part code y t gy.sound (sym count_t) here_t (from_second e) j) in
                let by_v = gv.more (λ e. joins_own schema sf part code v gv.sound (omega (arith, high, count_t, count_y, count_x)) declared_v) in
                let below = by_y.0.below in (
                  joins_own schema sf part code s sound (omega (arith, up, le_v, count_x, below)) declared_s,
                  λ next arrives.
                      let found = arrive schema sf part code s next sound few declared_s arrives in
                      let f = found.0 in
                      let led = m.leads sound few few_u f found.2 in
                      let fits = in_fits schema sf part code s u exits gd m sound led.0 led.1 in
                      let fits_x : Fitting f x.scope.kinds = subst (Fitting f) (sym el.kinds) (subst (λ (c : Scope). Fitting f c.kinds) (sym m.scope) found.2) in
                      let first = by_v.1 (Some led.0) (inl (led.0, refl, fits)) in
                      let out = first.0 in
                      let last = by_y.1 None (inr (refl, x.scope.kinds, here_x)) in
                      let at_jump = arrive schema sf part code v out.0 gv.sound few_v declared_v out.1 in
                      let rest = block_rest schema sf part code (length x.ops) y t gy.grown.ops gy.sound here_t el.ended from_second None last.0 in
                      let jump =
                      jump_visit schema part code (length v.ops) (length y.ops) at_jump.0 out.0 at_jump.1 (omega (arith, count_y, count_x)) (omega (arith, high, count_t))
                      (subst (λ p. target_due schema (Some at_jump.0) (At schema part code p) ≡ Ok tt) count_t (j.target t.scope.kinds here_t at_jump.0 (from_first at_jump.0 at_jump.2))) in
                      let behind : WalksHere (length u.ops) (g.ops ++ over) (Some led.0) rest.0 =
                      walks_on schema part code (length u.ops) g.ops over (Some led.0) out.0 rest.0 out.2
                      (subst (λ p. WalksHere p over out.0 rest.0) count_g (None, jump, subst (λ p. WalksHere p gy.grown.ops None rest.0) count_x rest.2)) in
                      let none : (p : ℕ) → length s.ops < p → p < length u.ops → At schema part code p ≡ None =
                      λ p low high. agrees_v.frames p (omega (arith, high, le_v)) ∙ ap (option_map (frame_by code.locals)) (in_marks schema sf part code s u exits gd m sound v block p low high) in
                      let there = by_v.0.on led.0 fits in
                      let target = by_y.0.target x.scope.kinds here_x f fits_x in (
                        subst (λ e. After schema sf part code e (length s.ops) (m.grown.ops ++ (all_aimed gd.es (length x.ops) ++ ((gd.named.ops ++ g.ops) ++ over))) next t) (sym el.now_is)
                            (led_after schema sf part code s u exits gd m.grown f led.0 led.2 (length x.ops) (g.ops ++ over) ((gd.named.ops ++ g.ops) ++ over) next false t (append_assoc gd.named.ops g.ops over) found.1 none (omega (arith, le_u, le_v, count_x)) below (omega (arith, le_v, below, count_x)) there target
                            (rest.0, rest.1, behind)),
                        λ frames traced.
                            let traced_u =
                            led_traced schema sf part code s u exits gd m.grown f led.0 led.2 frames t agrees.has (length x.ops) g.ops over next grown_t.ops_are found.1 none (omega (arith, le_u, le_v, count_x)) below (omega (arith, le_v, below, count_x)) there target traced in
                            let traced_v = traced_walk schema part code frames v agrees_v.has (length u.ops) u.ops g.ops [] (Some led.0) out.0 refl (g.ops_are ∙ ap (λ l. u.ops ++ l) (sym (append-nil g.ops))) out.2 traced_u in
                            let at = jump_there a r v gd.es gd.some gd.ops gd.texts gd.queries (grown_from_test block.grown) x y t el.begun.ops h el.alike.ops code agrees.has in
                            let traced_x = (traced_on schema part code frames (length v.ops) (ops.Jump (length y.ops)) out.0 None at jump (subst (λ n. TracedHere frames n out.0) (sym count_g) traced_v)) in
                            (known_so schema sf part code frames s next f (omega (arith, up, le_v, count_x, below)) found.1 found.2 traced, (first.1 frames traced_u, last.1 frames (subst (λ n. TracedHere frames n None) (sym count_x) traced_x))),
                      ),
                );
          }
