-- A code that the verifier is led through whole is accepted, and what a part begins with is sound.
use Rattle.std.proofs.Common.{◌≡◌, ◌⊎◌, inl, inr, ℕ, zero, suc, ◌+◌, ◌<◌, ◌≤◌, ◌≢◌, Bool, true, false, cond, List, [], ◌∷◌, length, Option, Some, None, Result, Ok, refl, subst, sym, ap, ◌∙◌, arith}
use Rattle.std.specs.Prelude.{slice_get, set, replicate, ◌==◌}
use Rattle.std.specs.List.{range_with_len}
use Rattle.std.proofs.lemmas.Bool.{le-ltb, lt-ltb, eq-eqb}
use Rattle.bb_compile_buffer.specs.declared.label.Label.{Label}
use Rattle.bb_basis.specs.Results.{map_err}
use Rattle.bb_code.specs.declared.parts.TheConstants.{LOCAL_LIMIT}
use Rattle.bb_schema.specs.Schema.{Schema}
use Rattle.bb_schema.specs.Fits as schemas
use Rattle.bb_code.specs.Code.{Code}
use Rattle.bb_code.specs.declared.frame.Kind.{Kind}
use Rattle.bb_code.specs.declared.frame.Kind.TheVariants as kinds
use Rattle.bb_code.specs.declared.op.Op.{Op}
use Rattle.bb_compile_scope.specs.LocalKinds.{is_free, kind_at, all_free}
use Rattle.bb_compile_scope.specs.Place.{Place}
use Rattle.bb_compile_scope.specs.declared.scope.Scope.{Scope}
use Rattle.bb_compile_scope.specs.Scope.{of_unit, of_event, begin_with}
use Rattle.bb_compile_scope.proofs.Laws.{at_other}
use Rattle.bb_compile_buffer.specs.Finish.{empty_buffer, frames_of as declared_of}
use Rattle.bb_code.specs.Each.{each}
use Rattle.bb_code.specs.Flaws.{fault_at}
use Rattle.bb_code.specs.declared.flaw.VerifyFault.{VerifyFault}
use Rattle.bb_verify_effect.specs.Part.{units_of}
use Rattle.bb_verify_effect.specs.declared.part.Part.{Part}
use Rattle.bb_verify_effect.specs.declared.part.Part.TheVariants.{Require, Obviate, Retrigger, Revalidate, Do}
use Rattle.bb_verify_effect.specs.declared.frame.Frame.{Frame}
use Rattle.bb_verify.specs.Accepted.{accepted, checked}
use Rattle.bb_verify.specs.nesting.Jumps.{check_target, jump_at, jumps}
use Rattle.bb_verify.specs.nesting.Loops.{loops}
use Rattle.bb_verify.specs.Places.{entry_frame, on_due, frames_of}
use Rattle.bb_verify.specs.Tables.{in_tables, table_at, known_frame, known_kind, places_rise, enough_locals, frames_in_order, fit_version, tables}
use Rattle.bb_theorem_accepted.specs.Classes.{HasClass, HasClasses}
use Rattle.bb_theorem_accepted.proofs.buffers.StraightLemmas.{each_range}
use Rattle.bb_theorem_accepted.proofs.kinds.UnderLemmas.{descends_same}
use Rattle.bb_theorem_accepted.proofs.kinds.KnowLemmas.{HasLocal, AllTaken, HasSequences}
use Rattle.bb_theorem_accepted.proofs.kinds.LabelLemmas.{listed, label_at, found, AllLabels, AreKinds, Rises, rises_up, all_frames, rise_passes, frames_pass}
use Rattle.bb_theorem_accepted.proofs.kinds.ValueLemmas.{IsFit}
use Rattle.bb_theorem_accepted.proofs.kinds.MoveLemmas.{Tidy, Sole, one_or_other}
use Rattle.bb_theorem_accepted.proofs.walks.WalkLemmas.{Walks, walked_frames, visited, fine_at, At}
use Rattle.bb_theorem_accepted.proofs.walks.JoinLemmas.{Sound}

-- ---- the tables and the jumps of a code each of whose ops may stand where it does

module _ (s : Schema) (part : Part) (code : Code) (out : Option Frame) (walks : Walks s part code 0 code.ops (Some (entry_frame part code.locals)) out) where
  table_fits : (place : ℕ) → table_at s code place ≡ Ok tt
  unfolding table_at
  table_fits place = by_op (slice_get code.ops place) refl
    where
      by_op : (o : Option Op) → slice_get code.ops place ≡ o → (let r : Result (Unit {0}) VerifyFault = elim o [ None ↦ Ok tt | Some op ↦ map_err (fault_at place) (in_tables s code op) ] in r) ≡ Ok tt
      by_op None h = refl
      by_op (Some op) h = rw (fine_at s part code code.ops 0 place op (Some (entry_frame part code.locals)) out walks h).tables refl

  jump_fits : (place : ℕ) → jump_at code place ≡ Ok tt
  unfolding jump_at
  jump_fits place = by_op (slice_get code.ops place) refl
    where
      by_op : (o : Option Op) → slice_get code.ops place ≡ o → (let r : Result (Unit {0}) VerifyFault = elim o [ None ↦ Ok tt | Some op ↦ map_err (fault_at place) (check_target (length code.ops) place op) ] in r) ≡ Ok tt
      by_op None h = refl
      by_op (Some op) h =
          let fine = fine_at s part code code.ops 0 place op (Some (entry_frame part code.locals)) out walks h in
          let e : 0 + place ≡ place = omega arith in
          rw (subst (λ p. check_target (length code.ops) p op ≡ Ok tt) e fine.jumps) refl

-- ---- declared frames that rise up to the end of a code

-- a label that is found stays found
found_some : (ks : List Kind) (ls : List Label) (n : ℕ) → found (λ ks. ks) (Some ks) ls n ≡ None → ⊥
found_some ks [] n h = cc
found_some ks (l ∷ ls) n h = by_place (λ ms. found_some ms ls n) (l.place == n) h
  where
    by_place : ((ms : List Kind) → found (λ ks. ks) (Some ms) ls n ≡ None → ⊥) → (b : Bool) → found (λ ks. ks) (cond b (Some l.kinds) (Some ks)) ls n ≡ None → ⊥
    by_place never true h = never l.kinds h
    by_place never false h = never ks h

-- where no label stands at the last place, all stand before it
pub rises_unlabelled : (from : ℕ) (ls : List Label) (n : ℕ) → from ≤ n → Rises from ls (n + 1) → label_at ls n ≡ None → Rises from ls n
rises_unlabelled from [] n le r none = le
rises_unlabelled from (l ∷ ls) n le r none = by_place (λ low h. rises_unlabelled (l.place + 1) ls n low r.1 h) (l.place == n) refl none
  where
    by_place : (l.place + 1 ≤ n → label_at ls n ≡ None → Rises (l.place + 1) ls n) → (b : Bool) → (l.place == n) ≡ b → found (λ ks. ks) (cond b (Some l.kinds) None) ls n ≡ None → Rises from (l ∷ ls) n
    by_place rest true same h = absurd (found_some l.kinds ls n h)
    by_place rest false other h =
        let apart : l.place ≢ n = λ e. absurd (let no : true ≡ false = sym (eq-eqb l.place n e) ∙ other in cc) in
        let up = rises_up (l.place + 1) ls (n + 1) r.1 in
        (r.0, rest (omega (arith, apart, up)) h)

-- ---- a code that is walked is accepted

module _ (s : Schema) (sf : schemas.Fits s) (part : Part) where
  good_kinds : (ls : List Label) → AllLabels (λ ks. (i : ℕ) → is_free (kind_at ks i) ≡ false → IsFit s sf (kind_at ks i)) ls → AllLabels (AreKinds s) ls
  good_kinds [] all = tt
  good_kinds (l ∷ ls) all = ((λ i. by_free (kind_at l.kinds i) (all.0 i)), good_kinds ls all.1)
    where
      by_free : (k : Kind) → (is_free k ≡ false → IsFit s sf k) → known_kind s k ≡ Ok tt
      by_free kinds.Any good = refl
      by_free kinds.Int good = (good refl).0
      by_free kinds.Text good = (good refl).0
      by_free kinds.Bool good = (good refl).0
      by_free (kinds.Label set) good = (good refl).0
      by_free kinds.Interval good = (good refl).0
      by_free (kinds.Ref c) good = (good refl).0
      by_free (kinds.Old c) good = (good refl).0
      by_free (kinds.Seq c) good = (good refl).0

  tables_pass : (code : Code) → each (table_at s code) (range_with_len 0 (length code.ops)) ≡ Ok tt → places_rise 0 (length code.ops) code.frames ≡ Ok tt → each (known_frame s) code.frames ≡ Ok tt → length (units_of part) ≤ code.locals → fit_version s code.version ≡ Ok tt → tables s part code ≡ Ok tt
  unfolding tables frames_in_order enough_locals
  tables_pass code table in_order known enough fit = rw (fit, in_order, known, le-ltb code.locals (length (units_of part)) enough, table) refl

  jumps_pass : (code : Code) → each (jump_at code) (range_with_len 0 (length code.ops)) ≡ Ok tt → jumps code ≡ Ok tt
  unfolding jumps
  jumps_pass code jump = rw (jump) refl

  frames_found : (code : Code) (out : Option Frame) → (walks : Walks s part code 0 code.ops (Some (entry_frame part code.locals)) out) → on_due s (Some (entry_frame part code.locals)) (At s part code 0) ≡ Ok tt
      → frames_of s part code ≡ Ok (walked_frames s part code 0 code.ops (Some (entry_frame part code.locals)) out walks)
  unfolding frames_of
  frames_found code out walks on = rw (on, visited s part code 0 [] code.ops (Some (entry_frame part code.locals)) out [] refl refl walks) refl

  pub walked_accepted : (code : Code) (labels : List Label) (last : Option Label) → code.frames ≡ declared_of code.locals labels last → Rises 0 (listed labels last) (length code.ops)
      → AllLabels (λ ks. (i : ℕ) → is_free (kind_at ks i) ≡ false → IsFit s sf (kind_at ks i)) (listed labels last) → length (units_of part) ≤ code.locals → fit_version s code.version ≡ Ok tt → loops code ≡ Ok tt
      → (out : Option Frame) → (walks : Walks s part code 0 code.ops (Some (entry_frame part code.locals)) out) → on_due s (Some (entry_frame part code.locals)) (At s part code 0) ≡ Ok tt
      → checked s part code ≡ Ok (record { code = code; part = part; frames = walked_frames s part code 0 code.ops (Some (entry_frame part code.locals)) out walks })
  unfolding checked accepted
  walked_accepted code labels last frames_are rises good enough fit nested out walks on =
      let all = frames_are ∙ all_frames code.locals labels last in
      let in_order : places_rise 0 (length code.ops) code.frames ≡ Ok tt = ap (places_rise 0 (length code.ops)) all ∙ rise_passes code.locals 0 (listed labels last) (length code.ops) (length code.ops) rises (omega arith) in
      let known : each (known_frame s) code.frames ≡ Ok tt = ap (each (known_frame s)) all ∙ frames_pass s code.locals (listed labels last) (good_kinds (listed labels last) good) in
      let table : each (table_at s code) (range_with_len 0 (length code.ops)) ≡ Ok tt = each_range (table_at s code) 0 (length code.ops) (λ i lt. table_fits s part code out walks i) in
      let jump : each (jump_at code) (range_with_len 0 (length code.ops)) ≡ Ok tt = each_range (jump_at code) 0 (length code.ops) (λ i lt. jump_fits s part code out walks i) in
      rw (tables_pass code table in_order known enough fit, jumps_pass code jump, nested, frames_found code out walks on) refl

-- ---- what a part begins with

free_at : (n i : ℕ) → kind_at (replicate n kinds.Any) i ≡ kinds.Any
free_at zero i = refl
free_at (suc n) zero = refl
free_at (suc n) (suc i) = free_at n i

unit_at : (c i : ℕ) → ((i ≡ 0) × (kind_at (set all_free 0 (kinds.Old c)) i ≡ kinds.Old c)) ⊎ (kind_at (set all_free 0 (kinds.Old c)) i ≡ kinds.Any)
unit_at c i = by_local (one_or_other i 0)
  where
    by_local : ((i ≡ 0) ⊎ (i ≡ 0 → ⊥)) → ((i ≡ 0) × (kind_at (set all_free 0 (kinds.Old c)) i ≡ kinds.Old c)) ⊎ (kind_at (set all_free 0 (kinds.Old c)) i ≡ kinds.Any)
    by_local (inl e) = inl (e, ap (kind_at (set all_free 0 (kinds.Old c))) e)
    by_local (inr apart) = inr (at_other all_free 0 i (kinds.Old c) apart ∙ free_at LOCAL_LIMIT i)

abbrev event_kinds : (c of : ℕ) → List Kind
event_kinds c of = set (set all_free 0 (kinds.Old c)) 1 (kinds.Old of)

event_at : (c of i : ℕ) → ((i ≡ 0) × (kind_at (event_kinds c of) i ≡ kinds.Old c)) ⊎ (((i ≡ 1) × (kind_at (event_kinds c of) i ≡ kinds.Old of)) ⊎ (kind_at (event_kinds c of) i ≡ kinds.Any))
event_at c of i = by_local (one_or_other i 1)
  where
    by_first : (i ≡ 1 → ⊥) → (((i ≡ 0) × (kind_at (set all_free 0 (kinds.Old c)) i ≡ kinds.Old c)) ⊎ (kind_at (set all_free 0 (kinds.Old c)) i ≡ kinds.Any))
        → ((i ≡ 0) × (kind_at (event_kinds c of) i ≡ kinds.Old c)) ⊎ (((i ≡ 1) × (kind_at (event_kinds c of) i ≡ kinds.Old of)) ⊎ (kind_at (event_kinds c of) i ≡ kinds.Any))
    by_first apart (inl (e, is)) = inl (e, at_other (set all_free 0 (kinds.Old c)) 1 i (kinds.Old of) apart ∙ is)
    by_first apart (inr free) = inr (inr (at_other (set all_free 0 (kinds.Old c)) 1 i (kinds.Old of) apart ∙ free))

    by_local : ((i ≡ 1) ⊎ (i ≡ 1 → ⊥)) → ((i ≡ 0) × (kind_at (event_kinds c of) i ≡ kinds.Old c)) ⊎ (((i ≡ 1) × (kind_at (event_kinds c of) i ≡ kinds.Old of)) ⊎ (kind_at (event_kinds c of) i ≡ kinds.Any))
    by_local (inl e) = inr (inl (e, ap (kind_at (event_kinds c of)) e))
    by_local (inr apart) = by_first apart (unit_at c i)

module _ (s : Schema) (sf : schemas.Fits s) where
  class_good : (c : ℕ) → HasClass s c → IsFit s sf (kinds.Old c)
  class_good c lt = (rw (lt-ltb c (length s.classes) lt) refl, (c, inr refl, descends_same s sf c))

  never_free : {A : Type 0} (k : Kind) → k ≡ kinds.Any → is_free k ≡ false → A
  never_free k is taken = absurd (let no : true ≡ false = sym (ap is_free is) ∙ taken in cc)

  unit_tidy : (part : Part) (place : Place) (c : ℕ) → HasClass s c → begin_with part ≡ of_unit c → units_of part ≡ kinds.Old c ∷ [] → Tidy s sf (empty_buffer part place)
  unit_tidy part place c lt scope units = record {
    good = λ i taken. subst (λ (x : Scope). is_free (kind_at x.kinds i) ≡ false → IsFit s sf (kind_at x.kinds i)) (sym scope) (λ taken. by_good i taken (unit_at c i)) taken;
    named = λ i taken value. subst (λ (x : Scope). is_free (kind_at x.kinds i) ≡ false → HasLocal s sf i x.names) (sym scope) (λ taken. by_named i taken (unit_at c i)) taken;
    taken = subst (λ (x : Scope). AllTaken s sf x.kinds x.names) (sym scope) (refl, refl, tt);
    sole = subst (λ (x : Scope). Sole x.kinds x.names) (sym scope) (refl, tt, tt);
    low = λ i taken. subst (λ (x : Scope). is_free (kind_at x.kinds i) ≡ false → i < length (units_of part)) (sym scope) (λ taken. by_low i taken (unit_at c i)) taken;
  }
    where
      by_good : (i : ℕ) → is_free (kind_at (set all_free 0 (kinds.Old c)) i) ≡ false → (((i ≡ 0) × (kind_at (set all_free 0 (kinds.Old c)) i ≡ kinds.Old c)) ⊎ (kind_at (set all_free 0 (kinds.Old c)) i ≡ kinds.Any)) → IsFit s sf (kind_at (set all_free 0 (kinds.Old c)) i)
      by_good i taken (inl (e, is)) = subst (IsFit s sf) (sym is) (class_good c lt)
      by_good i taken (inr free) = never_free (kind_at (set all_free 0 (kinds.Old c)) i) free taken

      by_named : (i : ℕ) → is_free (kind_at (set all_free 0 (kinds.Old c)) i) ≡ false → (((i ≡ 0) × (kind_at (set all_free 0 (kinds.Old c)) i ≡ kinds.Old c)) ⊎ (kind_at (set all_free 0 (kinds.Old c)) i ≡ kinds.Any)) → HasLocal s sf i (of_unit c).names
      by_named i taken (inl (e, is)) = inl (sym e)
      by_named i taken (inr free) = never_free (kind_at (set all_free 0 (kinds.Old c)) i) free taken

      by_low : (i : ℕ) → is_free (kind_at (set all_free 0 (kinds.Old c)) i) ≡ false → (((i ≡ 0) × (kind_at (set all_free 0 (kinds.Old c)) i ≡ kinds.Old c)) ⊎ (kind_at (set all_free 0 (kinds.Old c)) i ≡ kinds.Any)) → i < length (units_of part)
      by_low i taken (inl (e, is)) = let count : length (units_of part) ≡ 1 = ap length units in omega (arith, e, count)
      by_low i taken (inr free) = never_free (kind_at (set all_free 0 (kinds.Old c)) i) free taken

  event_tidy : (part : Part) (place : Place) (c of : ℕ) → HasClass s c → HasClass s of → begin_with part ≡ of_event c of → units_of part ≡ kinds.Old c ∷ kinds.Old of ∷ [] → Tidy s sf (empty_buffer part place)
  event_tidy part place c of lt lt_of scope units = record {
    good = λ i taken. subst (λ (x : Scope). is_free (kind_at x.kinds i) ≡ false → IsFit s sf (kind_at x.kinds i)) (sym scope) (λ taken. by_good i taken (event_at c of i)) taken;
    named = λ i taken value. subst (λ (x : Scope). is_free (kind_at x.kinds i) ≡ false → HasLocal s sf i x.names) (sym scope) (λ taken. by_named i taken (event_at c of i)) taken;
    taken = subst (λ (x : Scope). AllTaken s sf x.kinds x.names) (sym scope) (refl, refl, (refl, refl, tt));
    sole = subst (λ (x : Scope). Sole x.kinds x.names) (sym scope) (refl, ((λ e. cc), tt), (refl, tt, tt));
    low = λ i taken. subst (λ (x : Scope). is_free (kind_at x.kinds i) ≡ false → i < length (units_of part)) (sym scope) (λ taken. by_low i taken (event_at c of i)) taken;
  }
    where
      abbrev_at : ℕ → Type 0
      abbrev_at i = ((i ≡ 0) × (kind_at (event_kinds c of) i ≡ kinds.Old c)) ⊎ (((i ≡ 1) × (kind_at (event_kinds c of) i ≡ kinds.Old of)) ⊎ (kind_at (event_kinds c of) i ≡ kinds.Any))

      by_good : (i : ℕ) → is_free (kind_at (event_kinds c of) i) ≡ false → abbrev_at i → IsFit s sf (kind_at (event_kinds c of) i)
      by_good i taken (inl (e, is)) = subst (IsFit s sf) (sym is) (class_good c lt)
      by_good i taken (inr (inl (e, is))) = subst (IsFit s sf) (sym is) (class_good of lt_of)
      by_good i taken (inr (inr free)) = never_free (kind_at (event_kinds c of) i) free taken

      by_named : (i : ℕ) → is_free (kind_at (event_kinds c of) i) ≡ false → abbrev_at i → HasLocal s sf i (of_event c of).names
      by_named i taken (inl (e, is)) = inl (sym e)
      by_named i taken (inr (inl (e, is))) = inr (inl (sym e))
      by_named i taken (inr (inr free)) = never_free (kind_at (event_kinds c of) i) free taken

      by_low : (i : ℕ) → is_free (kind_at (event_kinds c of) i) ≡ false → abbrev_at i → i < length (units_of part)
      by_low i taken (inl (e, is)) = let count : length (units_of part) ≡ 2 = ap length units in omega (arith, e, count)
      by_low i taken (inr (inl (e, is))) = let count : length (units_of part) ≡ 2 = ap length units in omega (arith, e, count)
      by_low i taken (inr (inr free)) = never_free (kind_at (event_kinds c of) i) free taken

  -- a part begins with no sequence
  unit_none : {A : Type 0} (c i class : ℕ) → kind_at (set all_free 0 (kinds.Old c)) i ≡ kinds.Seq class → A
  unit_none c i class is = by_kind (unit_at c i)
    where
      by_kind : {A : Type 0} → (((i ≡ 0) × (kind_at (set all_free 0 (kinds.Old c)) i ≡ kinds.Old c)) ⊎ (kind_at (set all_free 0 (kinds.Old c)) i ≡ kinds.Any)) → A
      by_kind (inl (e, own)) = absurd (let no : kinds.Old c ≡ kinds.Seq class = sym own ∙ is in cc)
      by_kind (inr free) = absurd (let no : kinds.Any ≡ kinds.Seq class = sym free ∙ is in cc)

  event_none : {A : Type 0} (c of i class : ℕ) → kind_at (event_kinds c of) i ≡ kinds.Seq class → A
  event_none c of i class is = by_kind (event_at c of i)
    where
      by_kind : {A : Type 0} → (((i ≡ 0) × (kind_at (event_kinds c of) i ≡ kinds.Old c)) ⊎ (((i ≡ 1) × (kind_at (event_kinds c of) i ≡ kinds.Old of)) ⊎ (kind_at (event_kinds c of) i ≡ kinds.Any))) → A
      by_kind (inl (e, own)) = absurd (let no : kinds.Old c ≡ kinds.Seq class = sym own ∙ is in cc)
      by_kind (inr (inl (e, own))) = absurd (let no : kinds.Old of ≡ kinds.Seq class = sym own ∙ is in cc)
      by_kind (inr (inr free)) = absurd (let no : kinds.Any ≡ kinds.Seq class = sym free ∙ is in cc)

  pub begin_sequences : (part : Part) (locals : List Kind) → HasSequences s sf locals (begin_with part).kinds
  begin_sequences (Require c) locals i class is = unit_none c i class is
  begin_sequences (Obviate c of) locals i class is = event_none c of i class is
  begin_sequences (Retrigger c of) locals i class is = event_none c of i class is
  begin_sequences (Revalidate c) locals i class is = unit_none c i class is
  begin_sequences (Do c) locals i class is = unit_none c i class is

  begin_tidy : (part : Part) (place : Place) → HasClasses s part → Tidy s sf (empty_buffer part place)
  begin_tidy (Require c) place has = unit_tidy (Require c) place c has refl refl
  begin_tidy (Obviate c of) place has = event_tidy (Obviate c of) place c of has.0 has.1 refl refl
  begin_tidy (Retrigger c of) place has = event_tidy (Retrigger c of) place c of has.0 has.1 refl refl
  begin_tidy (Revalidate c) place has = unit_tidy (Revalidate c) place c has refl refl
  begin_tidy (Do c) place has = unit_tidy (Do c) place c has refl refl

  pub begin_sound : (part : Part) (place : Place) (code : Code) → HasClasses s part → Sound s sf part code (empty_buffer part place)
  begin_sound part place code has = record { tidy = begin_tidy part place has; rises = omega arith; last = refl; good = tt; strong = λ ks at. absurd cc }
