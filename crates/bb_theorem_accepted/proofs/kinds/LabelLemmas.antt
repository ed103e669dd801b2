-- The labels of a buffer, by their places, and the frames that its code declares there.
use Rattle.std.proofs.Common.{◌≡◌, ◌≢◌, ℕ, zero, suc, ◌+◌, ◌<◌, ◌≤◌, Bool, true, false, cond, List, [], ◌∷◌, ◌++◌, length, map, Option, Some, None, Result, Ok, refl, subst, sym, ap, ◌∙◌, arith}
use Rattle.std.specs.Prelude.{◌==◌, set, replicate, option_map}
use Rattle.std.specs.List.{range_with_len}
use Rattle.std.proofs.lemmas.Bool.{le-ltb, lt-leb, eqb-true, eq-eqb}
use Rattle.std.proofs.lemmas.List.{length-set, length-replicate}
use Rattle.bb_basis.specs.Results.{◌>>=◌}
use Rattle.bb_schema.specs.Schema.{Schema}
use Rattle.bb_code.specs.Code.{Code}
use Rattle.bb_code.specs.declared.flaw.Flaw.{Flaw as CodeFlaw}
use Rattle.bb_code.specs.declared.frame.Kind.{Kind}
use Rattle.bb_compile_scope.specs.LocalKinds.{kind_at}
use Rattle.bb_compile_buffer.specs.declared.buffer.Buffer.{Buffer}
use Rattle.bb_compile_buffer.specs.declared.label.Label.{Label}
use Rattle.bb_compile_buffer.specs.Buffers.{kept}
use Rattle.bb_compile_buffer.specs.Finish.{frame_of, frames_of}
use Rattle.bb_code.specs.Each.{each}
use Rattle.bb_verify_effect.specs.declared.frame.Frame.{Frame}
use Rattle.bb_verify.specs.Places.{with_frames, declared_frames, declared_at}
use Rattle.bb_verify.specs.Tables.{known_kind, known_frame, places_rise}

-- all labels, the last one after the others
abbrev pub listed : List Label → Option Label → List Label
listed labels None = labels
listed labels (Some l) = labels ++ l ∷ []

abbrev pub labels_of : Buffer → List Label
labels_of s = listed s.labels s.last

-- what stands at a place: of two labels there the later one
abbrev pub found : {A : Type 0} → (List Kind → A) → Option A → List Label → ℕ → Option A
found f o [] p = o
found f o (l ∷ ls) p = found f (cond (l.place == p) (Some (f l.kinds)) o) ls p

abbrev pub label_at : List Label → ℕ → Option (List Kind)
label_at ls p = found (λ ks. ks) None ls p

found_on : {A : Type 0} (f : List Kind → A) (o : Option A) (xs ys : List Label) (p : ℕ) → found f o (xs ++ ys) p ≡ found f (found f o xs p) ys p
found_on f o [] ys p = refl
found_on f o (x ∷ xs) ys p = found_on f (cond (x.place == p) (Some (f x.kinds)) o) xs ys p

found_map : {A : Type 0} (f : List Kind → A) (o : Option (List Kind)) (ls : List Label) (p : ℕ) → found f (option_map f o) ls p ≡ option_map f (found (λ ks. ks) o ls p)
found_map f o [] p = refl
found_map f o (l ∷ ls) p = ap (λ x. found f x ls p) (by_place (l.place == p)) ∙ found_map f (cond (l.place == p) (Some l.kinds) o) ls p
  where
    by_place : (b : Bool) → cond b (Some (f l.kinds)) (option_map f o) ≡ option_map f (cond b (Some l.kinds) o)
    by_place true = refl
    by_place false = refl

pub other_place : (n m : ℕ) → (n ≡ m → ⊥) → (n == m) ≡ false
other_place n m apart = by_test (n == m) refl
  where
    by_test : (b : Bool) → (n == m) ≡ b → b ≡ false
    by_test true h = absurd (apart (eqb-true n m h))
    by_test false h = refl

-- ---- one label more

pub labelled_at : (labels : List Label) (last : Option Label) (n : ℕ) (ks : List Kind) (p : ℕ) → label_at (listed (kept labels last n) (Some (record { place = n; kinds = ks }))) p ≡ cond (n == p) (Some ks) (label_at (listed labels last) p)
unfolding kept
labelled_at labels last n ks p = found_on (λ ks. ks) None (kept labels last n) (record { place = n; kinds = ks } ∷ []) p ∙ by_place (n == p) refl
  where
    by_last : (o : Option Label) → (n == p) ≡ false → label_at (kept labels o n) p ≡ label_at (listed labels o) p
    by_last None apart = refl
    by_last (Some l) apart = by_same (l.place == n) refl
      where
        by_same : (b : Bool) → (l.place == n) ≡ b → label_at (cond b labels (labels ++ l ∷ [])) p ≡ label_at (labels ++ l ∷ []) p
        by_same true same =
            let no : (l.place == p) ≡ false = ap (λ i. i == p) (eqb-true l.place n same) ∙ apart in
            sym (found_on (λ ks. ks) None labels (l ∷ []) p ∙ ap (λ b. cond b (Some l.kinds) (label_at labels p)) no)
        by_same false other = refl

    by_place : (b : Bool) → (n == p) ≡ b → cond b (Some ks) (label_at (kept labels last n) p) ≡ cond b (Some ks) (label_at (listed labels last) p)
    by_place true same = refl
    by_place false apart = by_last last apart

-- ---- places that rise

abbrev pub Rises : ℕ → List Label → ℕ → Type 0
Rises from [] to = from ≤ to
Rises from (l ∷ ls) to = (from ≤ l.place) × Rises (l.place + 1) ls to

pub rises_up : (from : ℕ) (ls : List Label) (to : ℕ) → Rises from ls to → from ≤ to
rises_up from [] to r = r
rises_up from (l ∷ ls) to r = let le = r.0 in let up = rises_up (l.place + 1) ls to r.1 in omega (arith, le, up)

pub rises_weaker : (from : ℕ) (ls : List Label) (to more : ℕ) → to ≤ more → Rises from ls to → Rises from ls more
rises_weaker from [] to more le r = omega (arith, le, r)
rises_weaker from (l ∷ ls) to more le r = (r.0, rises_weaker (l.place + 1) ls to more le r.1)

rises_more : (from : ℕ) (ls : List Label) (to : ℕ) (l : Label) → Rises from ls to → to ≤ l.place → Rises from (ls ++ l ∷ []) (l.place + 1)
rises_more from [] to l r le = (omega (arith, r, le), omega arith)
rises_more from (x ∷ xs) to l r le = (r.0, rises_more (x.place + 1) xs to l r.1 le)

rises_front : (from : ℕ) (ls : List Label) (to : ℕ) (l : Label) → Rises from (ls ++ l ∷ []) to → Rises from ls l.place × (l.place + 1 ≤ to)
rises_front from [] to l r = (r.0, r.1)
rises_front from (x ∷ xs) to l r = let rest = rises_front (x.place + 1) xs to l r.1 in ((r.0, rest.0), rest.1)

-- where no label is the last, there is none at all
abbrev pub HasLast : List Label → Option Label → Type 0
HasLast labels None = labels ≡ []
HasLast labels (Some l) = Unit {0}

pub labelled_rises : (labels : List Label) (last : Option Label) (n : ℕ) (ks : List Kind) → HasLast labels last → Rises 0 (listed labels last) (n + 1) → Rises 0 (listed (kept labels last n) (Some (record { place = n; kinds = ks }))) (n + 1)
unfolding kept
labelled_rises labels None n ks none r = subst (λ ls. Rises 0 (ls ++ record { place = n; kinds = ks } ∷ []) (n + 1)) (sym none) (omega arith, omega arith)
labelled_rises labels (Some l) n ks has r = by_same (l.place == n) refl
  where
    front : Rises 0 labels l.place × (l.place + 1 ≤ n + 1)
    front = rises_front 0 labels (n + 1) l r

    by_same : (b : Bool) → (l.place == n) ≡ b → Rises 0 (cond b labels (labels ++ l ∷ []) ++ record { place = n; kinds = ks } ∷ []) (n + 1)
    by_same true same = rises_more 0 labels l.place (record { place = n; kinds = ks }) front.0 (let e = eqb-true l.place n same in omega (arith, e))
    by_same false other =
        let apart : l.place ≢ n = λ e. absurd (let no : true ≡ false = sym (eq-eqb l.place n e) ∙ other in cc) in
        let below = front.1 in
        rises_more 0 (labels ++ l ∷ []) (l.place + 1) (record { place = n; kinds = ks }) (rises_more 0 labels l.place l front.0 (omega arith)) (omega (arith, below, apart))

-- no label stands past the last place
pub found_past : {A : Type 0} (f : List Kind → A) (o : Option A) (from : ℕ) (ls : List Label) (to p : ℕ) → Rises from ls to → to ≤ p → found f o ls p ≡ o
found_past f o from [] to p r le = refl
found_past f o from (l ∷ ls) to p r le =
    let up = rises_up (l.place + 1) ls to r.1 in
    ap (λ b. found f (cond b (Some (f l.kinds)) o) ls p) (other_place l.place p (λ e. absurd (omega (arith, up, le, e)))) ∙ found_past f o (l.place + 1) ls to p r.1 le

-- ---- what holds of the kinds of all labels

abbrev pub AllLabels : (List Kind → Type 0) → List Label → Type 0
AllLabels P [] = Unit {0}
AllLabels P (l ∷ ls) = P l.kinds × AllLabels P ls

all_more : (P : List Kind → Type 0) (ls : List Label) (l : Label) → AllLabels P ls → P l.kinds → AllLabels P (ls ++ l ∷ [])
all_more P [] l all own = (own, tt)
all_more P (x ∷ xs) l all own = (all.0, all_more P xs l all.1 own)

all_front : (P : List Kind → Type 0) (ls : List Label) (l : Label) → AllLabels P (ls ++ l ∷ []) → AllLabels P ls
all_front P [] l all = tt
all_front P (x ∷ xs) l all = (all.0, all_front P xs l all.1)

pub labelled_all : (P : List Kind → Type 0) (labels : List Label) (last : Option Label) (n : ℕ) (ks : List Kind) → AllLabels P (listed labels last) → P ks → AllLabels P (listed (kept labels last n) (Some (record { place = n; kinds = ks })))
unfolding kept
labelled_all P labels None n ks all own = all_more P labels (record { place = n; kinds = ks }) all own
labelled_all P labels (Some l) n ks all own = by_same (l.place == n)
  where
    by_same : (b : Bool) → AllLabels P (cond b labels (labels ++ l ∷ []) ++ record { place = n; kinds = ks } ∷ [])
    by_same true = all_more P labels (record { place = n; kinds = ks }) (all_front P labels l all) own
    by_same false = all_more P (labels ++ l ∷ []) (record { place = n; kinds = ks }) all own

pub found_all : (P : List Kind → Type 0) (o : Option (List Kind)) (ls : List Label) (p : ℕ) (ks : List Kind) → AllLabels P ls → ((ms : List Kind) → o ≡ Some ms → P ms) → found (λ ks. ks) o ls p ≡ Some ks → P ks
found_all P o [] p ks all own h = own ks h
found_all P o (l ∷ ls) p ks all own h = found_all P (cond (l.place == p) (Some l.kinds) o) ls p ks all.1 (λ ms e. by_place (l.place == p) ms e) h
  where
    by_place : (b : Bool) (ms : List Kind) → cond b (Some l.kinds) o ≡ Some ms → P ms
    by_place true ms e = subst P (let same : l.kinds ≡ ms = cc in same) all.0
    by_place false ms e = own ms e

-- ---- declared frames

-- the frame of these kinds
abbrev pub frame_by : (locals : ℕ) → List Kind → Frame
frame_by locals ks = record { locals = map (kind_at ks) (range_with_len 0 locals); stack = [] }

set_there : (all : List (Option Frame)) (i : ℕ) (f : Frame) → i < length all → declared_at (set all i (Some f)) i ≡ Some f
set_there [] i f lt = absurd (omega (arith, lt))
set_there (x ∷ xs) zero f lt = refl
set_there (x ∷ xs) (suc i) f lt = set_there xs i f (omega (arith, lt))

set_other : (all : List (Option Frame)) (i p : ℕ) (f : Frame) → (i ≡ p → ⊥) → declared_at (set all i (Some f)) p ≡ declared_at all p
set_other [] i p f apart = refl
set_other (x ∷ xs) zero zero f apart = absurd (apart refl)
set_other (x ∷ xs) zero (suc p) f apart = refl
set_other (x ∷ xs) (suc i) zero f apart = refl
set_other (x ∷ xs) (suc i) (suc p) f apart = set_other xs i p f (λ e. apart (ap suc e))

set_declared : (all : List (Option Frame)) (i p : ℕ) (f : Frame) → p < length all → declared_at (set all i (Some f)) p ≡ cond (i == p) (Some f) (declared_at all p)
set_declared all i p f lt = by_test (i == p) refl
  where
    by_test : (b : Bool) → (i == p) ≡ b → declared_at (set all i (Some f)) p ≡ cond b (Some f) (declared_at all p)
    by_test true h =
        let e = eqb-true i p h in
        ap (declared_at (set all i (Some f))) (sym e) ∙ set_there all i f (omega (arith, lt, e))
    by_test false h = set_other all i p f (λ e. absurd (let no : true ≡ false = sym (eq-eqb i p e) ∙ h in cc))

frames_at : (locals : ℕ) (ls : List Label) (all : List (Option Frame)) (p : ℕ) → p < length all → declared_at (with_frames all (map (frame_of locals) ls)) p ≡ found (frame_by locals) (declared_at all p) ls p
unfolding with_frames
frames_at locals [] all p lt = refl
frames_at locals (l ∷ ls) all p lt =
    let one : Frame = frame_by locals l.kinds in
    frames_at locals ls (set all l.place (Some one)) p (subst (λ n. p < n) (sym (length-set all l.place (Some one))) lt) ∙ ap (λ o. found (frame_by locals) o ls p) (set_declared all l.place p one lt)

none_there : (n p : ℕ) → declared_at (replicate n None) p ≡ None
none_there zero p = refl
none_there (suc n) zero = refl
none_there (suc n) (suc p) = none_there n p

map_on : {A B : Type 0} (f : A → B) (xs ys : List A) → map f (xs ++ ys) ≡ map f xs ++ map f ys
map_on f [] ys = refl
map_on f (x ∷ xs) ys = ap (λ l. f x ∷ l) (map_on f xs ys)

pub all_frames : (locals : ℕ) (labels : List Label) (last : Option Label) → frames_of locals labels last ≡ map (frame_of locals) (listed labels last)
all_frames locals labels None = nil (map (frame_of locals) labels)
  where
    nil : {A : Type 0} (xs : List A) → xs ++ [] ≡ xs
    nil [] = refl
    nil (y ∷ ys) = ap (λ l. y ∷ l) (nil ys)
all_frames locals labels (Some l) = sym (map_on (frame_of locals) labels (l ∷ []))

pub declared_is : (code : Code) (labels : List Label) (last : Option Label) (p : ℕ) → code.frames ≡ frames_of code.locals labels last → p < length code.ops → declared_at (declared_frames code) p ≡ option_map (frame_by code.locals) (label_at (listed labels last) p)
unfolding declared_frames
declared_is code labels last p is lt =
    let none : List (Option Frame) = replicate (length code.ops) None in
    let count : length none ≡ length code.ops = length-replicate (length code.ops) None in
    ap (λ fs. declared_at (with_frames none fs) p) (is ∙ all_frames code.locals labels last)
    ∙ (frames_at code.locals (listed labels last) none p (subst (λ n. p < n) (sym count) lt)
    ∙ (ap (λ o. found (frame_by code.locals) o (listed labels last) p) (none_there (length code.ops) p) ∙ found_map (frame_by code.locals) None (listed labels last) p))

-- ---- the tables of declared frames

pub rise_passes : (locals : ℕ) (from : ℕ) (ls : List Label) (to count : ℕ) → Rises from ls to → to ≤ count → places_rise from count (map (frame_of locals) ls) ≡ Ok tt
unfolding places_rise
rise_passes locals from [] to count r le = refl
rise_passes locals from (l ∷ ls) to count r le =
    let up = rises_up (l.place + 1) ls to r.1 in
    rw (le-ltb l.place from r.0, lt-leb count l.place (omega (arith, up, le))) (rise_passes locals (l.place + 1) ls to count r.1 le)

module _ (s : Schema) where
  abbrev pub AreKinds : List Kind → Type 0
  AreKinds ks = (i : ℕ) → known_kind s (kind_at ks i) ≡ Ok tt

  kinds_pass : (ks : List Kind) (n m : ℕ) → AreKinds ks → each (known_kind s) (map (kind_at ks) (range_with_len n m)) ≡ Ok tt
  unfolding each
  kinds_pass ks n zero are = refl
  kinds_pass ks n (suc m) are = ap (λ (r : Result (Unit {0}) CodeFlaw). r >>= λ _. each (known_kind s) (map (kind_at ks) (range_with_len (n + 1) m))) (are n) ∙ kinds_pass ks (n + 1) m are

  pub frames_pass : (locals : ℕ) (ls : List Label) → AllLabels AreKinds ls → each (known_frame s) (map (frame_of locals) ls) ≡ Ok tt
  unfolding each known_frame
  frames_pass locals [] all = refl
  frames_pass locals (l ∷ ls) all =
      ap (λ (r : Result (Unit {0}) CodeFlaw). (r >>= λ _. Ok tt) >>= λ _. each (known_frame s) (map (frame_of locals) ls)) (kinds_pass l.kinds 0 locals all.0) ∙ frames_pass locals ls all.1
