-- What holds of a buffer after an `if` or a `with`: its labels, its names and what is known of the locals.
use Rattle.std.proofs.Common.{◌≡◌, ◌⊎◌, inl, inr, ℕ, ◌+◌, ◌≤◌, Bool, true, false, cond, List, ◌++◌, length, Option, Some, None, refl, subst, sym, ap, ◌∙◌}
use Rattle.std.specs.Prelude.{take}
use Rattle.std.proofs.Math.Seq.{take-append_seam}
use Rattle.std.proofs.lemmas.Bool.{eq-eqb}
use Rattle.bb_schema.specs.Schema.{Schema}
use Rattle.bb_schema.specs.Fits as schemas
use Rattle.bb_code.specs.Code.{Code}
use Rattle.bb_code.specs.declared.frame.Kind.{Kind}
use Rattle.bb_code.specs.declared.op.Op.{Op}
use Rattle.bb_compile_scope.specs.LocalKinds.{is_free, kind_at, kinds_left, kinds_met}
use Rattle.bb_compile_scope.specs.Scope.{mark_of, back_to}
use Rattle.bb_compile_buffer.specs.declared.buffer.Buffer.{Buffer}
use Rattle.bb_compile_buffer.specs.Buffers.{kept}
use Rattle.bb_verify_effect.specs.declared.frame.Frame.{Frame}
use Rattle.bb_verify_effect.specs.declared.part.Part.{Part}
use Rattle.bb_theorem_accepted.proofs.kinds.KnowLemmas.{aged, IsKept, Agree, Meet, left_taken}
use Rattle.bb_theorem_accepted.proofs.kinds.MergeLemmas.{merged_agree, merged_from}
use Rattle.bb_theorem_accepted.proofs.kinds.LabelLemmas.{listed, labels_of, label_at, labelled_at, labelled_rises, labelled_all, Rises, HasLast, AllLabels}
use Rattle.bb_theorem_accepted.proofs.kinds.ValueLemmas.{IsFit}
use Rattle.bb_theorem_accepted.proofs.kinds.MoveLemmas.{Tidy, Moves, kept_moves}
use Rattle.bb_theorem_accepted.proofs.walks.WalkLemmas.{Walks, walks_on}
use Rattle.bb_theorem_accepted.proofs.walks.JoinLemmas.{here, HasFrame, AreGood, Sound, Arrives, arrives_weaker, arrives_same}
use Rattle.bb_theorem_accepted.proofs.walks.GoesLemmas.{After}

module _ (schema : Schema) (sf : schemas.Fits schema) (part : Part) (code : Code) where
  abbrev IsSound : Buffer → Type 0
  IsSound t = Sound schema sf part code t

  abbrev ArrivesHere : Option Frame → Buffer → Type 0
  ArrivesHere out t = Arrives schema sf part code out t

  abbrev WalksHere : ℕ → List Op → (next out : Option Frame) → Type 0
  WalksHere place listed next out = Walks schema part code place listed next out

  abbrev AfterHere : Bool → ℕ → List Op → Option Frame → Buffer → Type 0
  AfterHere ended place listed next t = After schema sf part code ended place listed next t

  abbrev Fitting : Frame → List Kind → Type 0
  Fitting f ks = HasFrame schema sf part code f ks

  -- a label stands after a buffer
  pub labelled_here : (v t : Buffer) (n : ℕ) → length t.ops ≡ n → t.labels ≡ kept v.labels v.last n → t.last ≡ Some (record { place = n; kinds = t.scope.kinds }) → here t ≡ Some t.scope.kinds
  labelled_here v t n count labels last =
      ap (λ l. label_at (listed l t.last) (length t.ops)) labels ∙ (ap (λ o. label_at (listed (kept v.labels v.last n) o) (length t.ops)) last
      ∙ (labelled_at v.labels v.last n t.scope.kinds (length t.ops) ∙ ap (λ b. cond b (Some t.scope.kinds) (label_at (labels_of v) (length t.ops))) (eq-eqb n (length t.ops) (sym count))))

  pub labelled_sound : (v t : Buffer) (n : ℕ) → Rises 0 (labels_of v) (n + 1) → HasLast v.labels v.last → AllLabels (AreGood schema sf part code) (labels_of v) → length t.ops ≡ n → t.labels ≡ kept v.labels v.last n → t.last ≡ Some (record { place = n; kinds = t.scope.kinds })
      → Tidy schema sf t → IsSound t
  labelled_sound v t n rises has good count labels last tidy =
      let listed_is : labels_of t ≡ listed (kept v.labels v.last n) (Some (record { place = n; kinds = t.scope.kinds })) = ap (λ l. listed l t.last) labels ∙ ap (listed (kept v.labels v.last n)) last in
      record {
        tidy = tidy;
        rises = subst (λ ls. Rises 0 ls (length t.ops + 1)) (sym listed_is) (subst (λ m. Rises 0 (listed (kept v.labels v.last n) (Some (record { place = n; kinds = t.scope.kinds }))) (m + 1)) (sym count) (labelled_rises v.labels v.last n t.scope.kinds has rises));
        last = subst (HasLast t.labels) (sym last) tt;
        good = subst (AllLabels (AreGood schema sf part code)) (sym listed_is) (labelled_all (AreGood schema sf part code) v.labels v.last n t.scope.kinds good tidy.good);
        strong = λ ks at i taken k held.
            let same : t.scope.kinds ≡ ks = (let e = sym (labelled_here v t n count labels last) ∙ at in cc) in
            subst (λ l. IsKept schema sf k (kind_at l i)) (sym same) (held (ap (λ l. is_free (kind_at l i)) (sym same) ∙ taken));
      }

  -- a scope with the names of another, whose kinds are those after one of two branches
  pub merged_moves : (u t : Buffer) (other one : List Kind) (ended : Bool) → t.scope.names ≡ u.scope.names → u.locals ≤ t.locals → t.scope.kinds ≡ cond ended other (kinds_met other one)
      → (Tidy schema sf u → Agree u.scope.kinds other × Agree u.scope.kinds one × Meet other one)
      → (Tidy schema sf u → ((i : ℕ) → is_free (kind_at other i) ≡ false → (is_free (kind_at u.scope.kinds i) ≡ false) × IsFit schema sf (kind_at other i)) × ((i : ℕ) → is_free (kind_at one i) ≡ false → (is_free (kind_at u.scope.kinds i) ≡ false) × IsFit schema sf (kind_at one i)))
      → Moves schema sf u t
  merged_moves u t other one ended names le is agree back =
      kept_moves schema sf u t names le (λ tidy. let a = agree tidy in merged_agree u.scope.kinds other one t.scope.kinds ended is a.0 a.1 a.2)
      (λ tidy i taken.
      let a = agree tidy in
      let b = back tidy in
      by_side i taken b (merged_from u.scope.kinds other one t.scope.kinds ended is a.0 a.1 a.2 i taken))
    where
      by_side : (i : ℕ) → is_free (kind_at t.scope.kinds i) ≡ false
          → (((j : ℕ) → is_free (kind_at other j) ≡ false → (is_free (kind_at u.scope.kinds j) ≡ false) × IsFit schema sf (kind_at other j)) × ((j : ℕ) → is_free (kind_at one j) ≡ false → (is_free (kind_at u.scope.kinds j) ≡ false) × IsFit schema sf (kind_at one j)))
          → ((kind_at t.scope.kinds i ≡ kind_at other i) ⊎ (kind_at t.scope.kinds i ≡ kind_at one i)) → (is_free (kind_at u.scope.kinds i) ≡ false) × IsFit schema sf (kind_at t.scope.kinds i)
      by_side i taken back (inl e) = let r = back.0 i (ap is_free (sym e) ∙ taken) in (r.0, subst (IsFit schema sf) (sym e) r.1)
      by_side i taken back (inr e) = let r = back.1 i (ap is_free (sym e) ∙ taken) in (r.0, subst (IsFit schema sf) (sym e) r.1)

  -- kinds after a block are good where those at its end are
  pub left_good : (u v : Buffer) → Tidy schema sf v → (i : ℕ) → is_free (kind_at (kinds_left u.scope.kinds v.scope.kinds) i) ≡ false → (is_free (kind_at u.scope.kinds i) ≡ false) × IsFit schema sf (kind_at (kinds_left u.scope.kinds v.scope.kinds) i)
  left_good u v tidy i taken =
      let was = left_taken u.scope.kinds v.scope.kinds i taken in
      (was.0, subst (IsFit schema sf) (sym was.1) (tidy.good i (ap is_free (sym was.1) ∙ taken)))

  pub twice_good : (r u v : Buffer) → Tidy schema sf v → (i : ℕ) → is_free (kind_at (kinds_left r.scope.kinds (kinds_left u.scope.kinds v.scope.kinds)) i) ≡ false
      → (is_free (kind_at r.scope.kinds i) ≡ false) × IsFit schema sf (kind_at (kinds_left r.scope.kinds (kinds_left u.scope.kinds v.scope.kinds)) i)
  twice_good r u v tidy i taken =
      let was = left_taken r.scope.kinds (kinds_left u.scope.kinds v.scope.kinds) i taken in
      (was.0, subst (IsFit schema sf) (sym was.1) (left_good u v tidy i (ap is_free (sym was.1) ∙ taken)).1)

  -- the names that a block declared are forgotten
  pub names_left : (u v : Buffer) → Moves schema sf u v → (back_to (mark_of u.scope) v.scope).names ≡ u.scope.names
  names_left u v moves = ap (take (length u.scope.names)) moves.names ∙ take-append_seam u.scope.names moves.more

  pub names_twice : (r u v : Buffer) → Moves schema sf r u → Moves schema sf u v → (back_to (mark_of r.scope) (back_to (mark_of u.scope) v.scope)).names ≡ r.scope.names
  names_twice r u v first then = ap (take (length r.scope.names)) (names_left u v then) ∙ names_left r u first

  -- what comes after a block, in a buffer after which a label stands
  pub block_rest : (place : ℕ) (v t : Buffer) (listed : List Op) → IsSound v → here t ≡ Some t.scope.kinds → (ended : Bool) → (ended ≡ false → (f : Frame) → Fitting f v.scope.kinds → Fitting f t.scope.kinds) → (next : Option Frame) → AfterHere ended place listed next v
      → (out : Option Frame) × ArrivesHere out t × WalksHere place listed next out
  block_rest place v t listed sound here_t true weaker next walks = (None, inr (refl, t.scope.kinds, here_t), walks)
  block_rest place v t listed sound here_t false weaker next after = (after.0, arrives_weaker schema sf part code after.0 v t sound here_t (weaker refl) after.1, after.2)

  -- and in one with the same labels
  pub block_same : (place : ℕ) (v t : Buffer) (before listed : List Op) (start : ℕ) (first next : Option Frame) → length v.ops ≡ length t.ops → labels_of t ≡ labels_of v → (ended : Bool) → (ended ≡ false → (f : Frame) → Fitting f v.scope.kinds → Fitting f t.scope.kinds)
      → start + length before ≡ place → WalksHere start before first next → AfterHere ended place listed next v → AfterHere ended start (before ++ listed) first t
  block_same place v t before listed start first next count labels true weaker places begin after = walks_on schema part code start before listed first next None begin (subst (λ p. WalksHere p listed next None) (sym places) after)
  block_same place v t before listed start first next count labels false weaker places begin after = (
    after.0,
    arrives_same schema sf part code after.0 v t count labels (weaker refl) after.1,
    walks_on schema part code start before listed first next after.0 begin (subst (λ p. WalksHere p listed next after.0) (sym places) after.2),
  )

  -- the same names, and kinds that are those of one of two lists
  pub either_moves : (u t : Buffer) (other one : List Kind) (ended : Bool) → t.scope.names ≡ u.scope.names → u.locals ≤ t.locals → t.scope.kinds ≡ cond ended other one
      → (Tidy schema sf u → Agree u.scope.kinds other × Agree u.scope.kinds one)
      → (Tidy schema sf u → ((i : ℕ) → is_free (kind_at other i) ≡ false → (is_free (kind_at u.scope.kinds i) ≡ false) × IsFit schema sf (kind_at other i)) × ((i : ℕ) → is_free (kind_at one i) ≡ false → (is_free (kind_at u.scope.kinds i) ≡ false) × IsFit schema sf (kind_at one i)))
      → Moves schema sf u t
  either_moves u t other one true names le is agree back =
      kept_moves schema sf u t names le (λ tidy. subst (Agree u.scope.kinds) (sym is) (agree tidy).0) (λ tidy. subst (λ ks. (i : ℕ) → is_free (kind_at ks i) ≡ false → (is_free (kind_at u.scope.kinds i) ≡ false) × IsFit schema sf (kind_at ks i)) (sym is) (back tidy).0)
  either_moves u t other one false names le is agree back =
      kept_moves schema sf u t names le (λ tidy. subst (Agree u.scope.kinds) (sym is) (agree tidy).1) (λ tidy. subst (λ ks. (i : ℕ) → is_free (kind_at ks i) ≡ false → (is_free (kind_at u.scope.kinds i) ≡ false) × IsFit schema sf (kind_at ks i)) (sym is) (back tidy).1)

  -- the kinds of a scope in another
  pub same_moves : (u x : Buffer) → x.scope.names ≡ u.scope.names → u.locals ≤ x.locals → x.scope.kinds ≡ u.scope.kinds → Moves schema sf u x
  same_moves u x names le is =
      kept_moves schema sf u x names le (λ tidy i taken. ap (λ ks. aged (kind_at ks i)) (sym is))
      (λ tidy. subst (λ ks. (i : ℕ) → is_free (kind_at ks i) ≡ false → (is_free (kind_at u.scope.kinds i) ≡ false) × IsFit schema sf (kind_at ks i)) (sym is) (λ i taken. (taken, tidy.good i taken)))
