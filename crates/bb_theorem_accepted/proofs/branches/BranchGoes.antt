-- What an `if` or a `with` without `else` lays out leads the verifier to what stands after it, where its test and its
-- block do so.
use Rattle.std.proofs.Common.{◌≡◌, inl, ℕ, ◌+◌, ◌<◌, ◌≤◌, Bool, true, false, List, [], ◌++◌, length, Option, Some, None, Ok, refl, subst, sym, ap, ◌∙◌, arith, append_assoc}
use Rattle.std.specs.Prelude.{option_map}
use Rattle.std.proofs.lemmas.List.{append-nil}
use Rattle.bb_compile_scope.specs.declared.scope.Scope.{Scope}
use Rattle.bb_schema.specs.Schema.{Schema}
use Rattle.bb_schema.specs.Fits as schemas
use Rattle.bb_code.specs.Code.{Code}
use Rattle.bb_code.specs.declared.frame.Kind.{Kind}
use Rattle.bb_code.specs.declared.op.Op.{Op}
use Rattle.bb_compile_scope.specs.LocalKinds.{kinds_left}
use Rattle.bb_compile_scope.specs.Scope.{mark_of}
use Rattle.bb_compile_buffer.specs.declared.buffer.Buffer.{Buffer}
use Rattle.bb_compile_buffer.specs.Buffers.{leave}
use Rattle.bb_compile.specs.declared.exits.Exits.{Exits}
use Rattle.bb_verify_effect.specs.declared.frame.Frame.{Frame}
use Rattle.bb_verify_effect.specs.declared.part.Part.{Part}
use Rattle.bb_verify.specs.Places.{target_due}
use Rattle.bb_theorem_accepted.proofs.buffers.BufferLemmas.{Grown, Has, grown_on, has_before, count_of}
use Rattle.bb_theorem_accepted.proofs.blocks.BranchLemmas.{AbsentLaid}
use Rattle.bb_theorem_accepted.proofs.blocks.GuardLemmas.{Guard}
use Rattle.bb_theorem_accepted.proofs.blocks.AimLemmas.{all_aimed, aims, same_more, aims_grown, aims_has, aimed_behind, behind_count}
use Rattle.bb_theorem_accepted.proofs.kinds.KnowLemmas.{Finds, agree_on, agree_left, meet_left, knows_left}
use Rattle.bb_theorem_accepted.proofs.kinds.MergeLemmas.{merged_other, merged_one}
use Rattle.bb_theorem_accepted.proofs.kinds.LabelLemmas.{listed, labels_of, label_at, Rises, frame_by}
use Rattle.bb_theorem_accepted.proofs.kinds.MoveLemmas.{moves_on}
use Rattle.bb_theorem_accepted.proofs.walks.WalkLemmas.{Walks, At}
use Rattle.bb_theorem_accepted.proofs.walks.JoinLemmas.{here, HasFrame, Sound, Agrees, arrive, joins_own, joins_weaker}
use Rattle.bb_theorem_accepted.proofs.blocks.BlockLemmas.{Lays as LaysBlock, marks_before}
use Rattle.bb_theorem_accepted.proofs.walks.GoesLemmas.{After, Goes}
use Rattle.bb_theorem_accepted.proofs.walks.GuideLemmas.{Guides, ahead, in_labels, in_moves, in_sound, in_fits, in_marks, led_traced, known_so}
use Rattle.bb_theorem_accepted.proofs.branches.BranchScopes.{labelled_here, labelled_sound, merged_moves, twice_good, names_twice, block_rest}

module _ (schema : Schema) (sf : schemas.Fits schema) (part : Part) (code : Code) where
  abbrev IsSound : Buffer → Type 0
  IsSound t = Sound schema sf part code t

  abbrev AgreesHere : Buffer → Type 0
  AgreesHere t = Agrees schema sf part code t

  abbrev WalksHere : ℕ → List Op → (next out : Option Frame) → Type 0
  WalksHere place listed next out = Walks schema part code place listed next out

  abbrev GoesHere : Buffer → Buffer → Bool → (List Frame → Type 0) → Type 0
  GoesHere s t now S = Goes schema sf part code s t now S

  abbrev Fitting : Frame → List Kind → Type 0
  Fitting f ks = HasFrame schema sf part code f ks

  module _ (s u v : Buffer) (exits : Exits) (gd : Guard s u exits) (guides : Has code gd.behind → Guides schema sf part code s u exits gd) (block : LaysBlock u v) (S : List Frame → Type 0) where
    abbrev a : Buffer
    a = gd.behind

    -- after the test, before a name is declared
    abbrev r : Buffer
    r = gd.tested

    abbrev w : Buffer
    w = leave (mark_of r.scope) (leave (mark_of u.scope) v)

    abbrev grown_from_test : Grown u v → Grown r v
    grown_from_test g = grown_on r u v gd.named g

    long : length u.ops ≤ length v.ops
    long = let e = count_of u v block.grown in omega (arith, e)

    short : length r.ops ≤ length u.ops
    short = let e = count_of r u gd.named in omega (arith, e)

    pub absent_goes : (t : Buffer) (ended now : Bool) → AbsentLaid (mark_of r.scope) (length a.ops) (length gd.es) ended w t now → IsSound s → AgreesHere t → (IsSound u → AgreesHere v → GoesHere u v ended S) → GoesHere s t now (λ frames. Finds schema sf frames (length s.ops) s.scope.kinds × S frames)
    unfolding aims_grown grown_on
    absent_goes t ended now al sound agrees own =
        let n = length (aims (length a.ops) (length gd.es) v.ops) in
        let same_n : n ≡ length v.ops = behind_count a r v gd.es gd.some gd.ops gd.texts gd.queries (grown_from_test block.grown) in
        let count_t : length t.ops ≡ n = ap length al.alike.ops in
        let up = ahead schema sf part code s u exits gd in
        let le_v = long in
        let le_u = short in
        let all = al.alike.ops ∙ aimed_behind a r v gd.es gd.some gd.ops gd.texts gd.queries (grown_from_test block.grown) in
        let more_v = same_more v t al.alike.texts al.alike.queries in
        let agrees_v : AgreesHere v = record {
          has = aims_has a r v gd.es gd.some gd.ops gd.texts gd.queries (grown_from_test block.grown) t (length v.ops) [] all more_v code gd.opens agrees.has;
          within = let le = agrees.within in omega (arith, le, count_t, same_n);
          locals = let le = agrees.locals in let same : t.locals ≡ v.locals = al.alike.locals in omega (arith, le, same);
          frames = λ p lt. agrees.frames p (omega (arith, lt, count_t, same_n)) ∙ ap (option_map (frame_by code.locals)) (marks_before v t n p t.scope.kinds al.labels al.last (omega (arith, lt, same_n)));
        } in
        let m = guides (has_before code a t (aims_grown a r v gd.es gd.some gd.ops gd.texts gd.queries (grown_from_test block.grown) t (length v.ops) [] all more_v) agrees.has) in
        let sound_u = in_sound schema sf part code s u exits gd m sound in
        let tidy_r = (in_moves schema sf part code s u exits gd m sound).tidy sound.tidy in
        let gv = own sound_u agrees_v in
        let g = gv.grown in
        let all_v = al.alike.ops ∙ aimed_behind a r v gd.es gd.some gd.ops gd.texts gd.queries (grown_from_test g) in
        let names_are : t.scope.names ≡ r.scope.names = al.names ∙ names_twice schema sf part code r u v m.moves gv.moves in
        let left = kinds_left u.scope.kinds v.scope.kinds in
        let once = agree_on r.scope.kinds u.scope.kinds left (m.moves.agree tidy_r) (agree_left u.scope.kinds v.scope.kinds (gv.moves.agree sound_u.tidy)) in
        let twice = agree_left r.scope.kinds left once in
        let meets = meet_left r.scope.kinds left once in
        let same_locals : t.locals ≡ v.locals = al.alike.locals in
        let le_block = block.locals in
        let le_adds = gd.adds.locals in
        let le_named = gd.locals in
        let locals_r = m.locals in
        let le_code = agrees.locals in
        let le_locals : r.locals ≤ t.locals = omega (arith, locals_r, le_adds, le_named, le_block, same_locals) in
        let moves_t = merged_moves schema sf part code r t r.scope.kinds w.scope.kinds ended names_are le_locals al.kinds (λ tidy. ((λ i taken. refl), twice, meets)) (λ tidy. ((λ i taken. (taken, tidy.good i taken)), twice_good schema sf part code r u v gv.sound.tidy)) in
        let tidy_t = moves_t.tidy tidy_r in
        let here_t = labelled_here schema sf part code v t n count_t al.labels al.last in
        let sound_t = labelled_sound schema sf part code v t n (subst (λ k. Rises 0 (labels_of v) (k + 1)) (sym same_n) gv.sound.rises) gv.sound.last gv.sound.good count_t al.labels al.last tidy_t in
        let from_test : (f : Frame) → Fitting f r.scope.kinds → Fitting f t.scope.kinds =
        λ f has. (has.0, has.1, merged_other r.scope.kinds r.scope.kinds w.scope.kinds t.scope.kinds ended al.kinds (λ i taken. refl) twice meets schema sf f.locals has.2) in
        let from_block : ended ≡ false → (f : Frame) → Fitting f v.scope.kinds → Fitting f t.scope.kinds =
        λ goes f has. (
          has.0,
          has.1,
          merged_one r.scope.kinds r.scope.kinds w.scope.kinds t.scope.kinds ended al.kinds (λ i taken. refl) twice meets schema sf f.locals goes
              (knows_left schema sf f.locals r.scope.kinds left (knows_left schema sf f.locals u.scope.kinds v.scope.kinds has.2)),
        ) in
        let count_v : length v.ops ≡ length t.ops = sym (count_t ∙ same_n) in
        let lt_t : length s.ops < length t.ops = omega (arith, up, le_v, count_v) in
        let few : s.locals ≤ code.locals = omega (arith, le_code, le_adds, le_named, le_block, same_locals) in
        let few_u : u.locals ≤ code.locals = omega (arith, le_code, le_block, same_locals) in
        let declared_s : At schema part code (length s.ops) ≡ option_map (frame_by code.locals) (here s) =
        agrees.frames (length s.ops) lt_t
        ∙ ap (option_map (frame_by code.locals)) (marks_before v t n (length s.ops) t.scope.kinds al.labels al.last (omega (arith, lt_t, count_t))
        ∙ (block.marks (length s.ops) (omega (arith, up)) (omega (arith, lt_t, count_v)) ∙ ap (λ ls. label_at ls (length s.ops)) (in_labels schema sf part code s u exits gd))) in
        let grown_t = grown_on s a t m.grown (aims_grown a r v gd.es gd.some gd.ops gd.texts gd.queries (grown_from_test g) t (length v.ops) [] all_v more_v) in
        record {
          grown = grown_t;
          moves = moves_on schema sf s r t (in_moves schema sf part code s u exits gd m sound) moves_t;
          sound = sound_t;
          unlabelled = λ e. absurd (let no : true ≡ false = sym e ∙ al.now_is in cc);
          right = λ e. absurd (let no : true ≡ false = sym e ∙ al.now_is in cc);
          more = λ joins.
              let j = joins al.now_is in
              let more = gv.more (λ goes. joins_weaker schema sf part code v t gv.sound count_v here_t (from_block goes) j) in (
                joins_own schema sf part code s sound (let le = j.below in omega (arith, lt_t, le)) declared_s,
                λ next arrives.
                    let found = arrive schema sf part code s next sound few declared_s arrives in
                    let f = found.0 in
                    let led = m.leads sound few few_u f found.2 in
                    let fits = in_fits schema sf part code s u exits gd m sound led.0 led.1 in
                    let first = more.1 (Some led.0) (inl (led.0, refl, fits)) in
                    let rest = block_rest schema sf part code (length u.ops) v t g.ops gv.sound here_t ended from_block (Some led.0) first.0 in
                    let below = j.below in
                    let none : (p : ℕ) → length s.ops < p → p < length u.ops → At schema part code p ≡ None =
                    λ p low high. agrees.frames p (omega (arith, high, le_v, count_v)) ∙ ap (option_map (frame_by code.locals)) (marks_before v t n p t.scope.kinds al.labels al.last (omega (arith, high, le_v, same_n)) ∙ in_marks schema sf part code s u exits gd m sound v block p low high) in
                    let there = more.0.on led.0 fits in
                    let target = subst (λ p. target_due schema (Some f) (At schema part code p) ≡ Ok tt) (sym count_v) (j.target t.scope.kinds here_t f (from_test f (subst (λ (c : Scope). Fitting f c.kinds) (sym m.scope) found.2))) in (
                      subst (λ e. After schema sf part code e (length s.ops) (m.grown.ops ++ (all_aimed gd.es (length v.ops) ++ ((gd.named.ops ++ g.ops) ++ []))) next t) (sym al.now_is) (
                        rest.0,
                        rest.1,
                        led.2 (length v.ops) (g.ops ++ []) ((gd.named.ops ++ g.ops) ++ []) next rest.0 (append_assoc gd.named.ops g.ops []) found.1 none (omega (arith, le_u, le_v)) (omega (arith, below, count_v)) (omega (arith, le_v, below, count_v)) there target
                            (subst (λ ls. WalksHere (length u.ops) ls (Some led.0) rest.0) (sym (append-nil g.ops)) rest.2),
                      ),
                      λ frames traced.
                          (known_so schema sf part code frames s next f (omega (arith, lt_t, count_v, below)) found.1 found.2 traced, first.1 frames (led_traced schema sf part code s u exits gd m.grown f led.0 led.2 frames t agrees.has (length v.ops) g.ops [] next grown_t.ops_are found.1 none (omega (arith, le_u, le_v)) (omega (arith, below, count_v)) (omega (arith, le_v, below, count_v)) there target traced)),
                    ),
              );
        }
