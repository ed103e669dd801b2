-- A roster's natives: the one at a place is called, and one after another is closed.
use Rattle.std.proofs.Common.{◌≡◌, ℕ, zero, suc, ◌+◌, ◌<◌, ◌&&◌, ℤ, pos, true, List, [], ◌∷◌, ◌++◌, map, length, get_or, set, take, drop, Option, Some, None, IfSome, Result, Ok, Err, OnOk, OnErr, refl, sym, ap, ◌∙◌, append_assoc, arith}
use Rattle.std.specs.Prelude.{slice_get, position}
use Rattle.std.specs.Option.{option_map_or}
use Rattle.std.specs.Str.{bytes_eq}
use Rattle.std.proofs.lemmas.Bool.{and_parts}
use Rattle.std.proofs.lemmas.List.{map-set, take_more_set, drop-set-lt, length-drop}
use Rattle.bb_basis.proofs.ListLemmas.{map_map, position-map}
use Rattle.bb_basis.proofs.SliceLemmas.{next_seen}
use Rattle.bb_basis.proofs.PositionLemmas.{position_within}
use Rattle.bb_basis.proofs.IntoMapLemmas.{next_one}
use Rattle.bb_native.specs.declared.closing.Closing.{Closing}
use Rattle.bb_native.specs.Sight.{Sight}
use Rattle.bb_native.specs.Native.{Native, asks_of, after_act, closing_of}
use Rattle.bb_native.specs.Roster.{all_open, place_of, unclosed, closing, asks_at, after_act_at, sum_said}

-- ---- the native at a place

pub open_at : {A : Type 0} (m : A → Native) (xs : List A) (i : ℕ) (x : A) → i < length xs → x ≡ get_or xs i x → all_open (map m xs) ≡ true → (m x).is_open ≡ true
open_at m [] i x lt at h = absurd (omega arith)
open_at m (y ∷ ys) zero x lt at h = ap (λ a. (m a).is_open) at ∙ (and_parts (m y).is_open (all_open (map m ys)) h).0
open_at m (y ∷ ys) (suc i) x lt at h = open_at m ys i x (omega arith) at (and_parts (m y).is_open (all_open (map m ys)) h).1

-- another item in its place that is seen as it was
pub same_seen : {A B : Type 0} (f : A → B) (xs : List A) (i : ℕ) (x y : A) → x ≡ get_or xs i x → f y ≡ f x → map f (set xs i y) ≡ map f xs
same_seen f [] i x y at h = refl
same_seen f (z ∷ zs) zero x y at h = ap (λ b. b ∷ map f zs) (h ∙ ap f at)
same_seen f (z ∷ zs) (suc i) x y at h = ap (λ bs. f z ∷ bs) (same_seen f zs i x y at h)

pub still_open : {A : Type 0} (m : A → Native) (xs : List A) (i : ℕ) (y : A) → (m y).is_open ≡ true → all_open (map m xs) ≡ true → all_open (map m (set xs i y)) ≡ true
still_open m [] i y o h = h
still_open m (z ∷ zs) zero y o h = ap (λ b. b && all_open (map m zs)) o ∙ (and_parts (m z).is_open (all_open (map m zs)) h).1
still_open m (z ∷ zs) (suc i) y o h =
    let p = and_parts (m z).is_open (all_open (map m zs)) h in
    ap (λ b. b && all_open (map m (set zs i y))) p.0 ∙ still_open m zs i y o p.1

-- a call leaves it open, under its name
pub acts_stay_open : {X E : Type 0} (before after : Native) (unit : ℕ) (seen : Sight) (r : Result X E) → OnOk r (after ≡ after_act before unit seen) → OnErr r (after ≡ before) → (after.is_open ≡ before.is_open) × (unclosed after ≡ unclosed before)
acts_stay_open before after unit seen (Ok x) ok err = (ap (λ (n : Native). n.is_open) ok, ap unclosed ok)
acts_stay_open before after unit seen (Err e) ok err = (ap (λ (n : Native). n.is_open) err, ap unclosed err)

seen_at : {A B : Type 0} (f : A → B) (xs : List A) (i : ℕ) (x : A) → i < length xs → x ≡ get_or xs i x → slice_get (map f xs) i ≡ Some (f x)
seen_at f [] i x lt at = absurd (omega arith)
seen_at f (y ∷ ys) zero x lt at = ap (λ a. Some (f a)) (sym at)
seen_at f (y ∷ ys) (suc i) x lt at = seen_at f ys i x (omega arith) at

pub asked_at : {A : Type 0} (m : A → Native) (xs : List A) (i : ℕ) (x : A) (unit : ℕ) (seen : Sight) → i < length xs → x ≡ get_or xs i x → asks_of (m x) unit seen ≡ asks_at (map m xs) i unit seen
asked_at m xs i x unit seen lt at = ap (λ (o : Option Native). option_map_or (λ n. asks_of n unit seen) o []) (sym (seen_at m xs i x lt at))

pub acted_at : {A : Type 0} (m : A → Native) (xs : List A) (i : ℕ) (x y : A) (unit : ℕ) (seen : Sight) → i < length xs → x ≡ get_or xs i x → m y ≡ after_act (m x) unit seen
    → map m (set xs i y) ≡ after_act_at (map m xs) i unit seen
acted_at m xs i x y unit seen lt at h =
    let one : after_act_at (map m xs) i unit seen ≡ set (map m xs) i (after_act (m x) unit seen) = ap (λ (o : Option Native). option_map_or (λ n. set (map m xs) i (after_act n unit seen)) o (map m xs)) (seen_at m xs i x lt at) in
    map-set m xs i y ∙ (ap (set (map m xs) i) h ∙ sym one)

pub named_still : {A : Type 0} (m : A → Native) (xs : List A) (i : ℕ) (x y : A) → x ≡ get_or xs i x → unclosed (m y) ≡ unclosed (m x) → map unclosed (map m (set xs i y)) ≡ map unclosed (map m xs)
named_still m xs i x y at h = map_map unclosed m (set xs i y) ∙ (same_seen (λ a. unclosed (m a)) xs i x y at h ∙ sym (map_map unclosed m xs))

-- ---- names

pub place_among : (natives : List Native) (name : List ℕ) → position (λ (c : Closing). bytes_eq c.name name) (map unclosed natives) ≡ place_of natives name
place_among natives name = position-map (λ (c : Closing). bytes_eq c.name name) unclosed natives

pub place_within : (natives : List Native) (name : List ℕ) (place : Option ℕ) → place ≡ place_of natives name → IfSome place (λ at. at < length natives)
place_within natives name None is = tt
place_within natives name (Some at) is = position_within (λ (n : Native). bytes_eq n.name name) natives at (sym is)

-- ---- one after another

-- one name more stands
pub named_next : {A : Type 0} (m : A → Native) (xs : List A) (i : ℕ) (x : A) (before after total : List Closing) (one : Closing) → i < length xs → x ≡ get_or xs i x → one ≡ unclosed (m x) → after ≡ before ++ one ∷ []
    → before ++ map unclosed (drop i (map m xs)) ≡ total → after ++ map unclosed (drop (i + 1) (map m xs)) ≡ total
named_next m xs i x before after total one lt at is pushed so_far =
    let rest = map unclosed (drop (i + 1) (map m xs)) in
    let more : before ++ one ∷ rest ≡ total = ap (λ c. before ++ c ∷ rest) is ∙ (ap (λ ys. before ++ map unclosed ys) (sym (next_seen m xs i x lt at)) ∙ so_far) in
    ap (λ front. front ++ rest) pushed ∙ (append_assoc before (one ∷ []) rest ∙ more)

-- count natives were closed, and their numbers stand; left has the others, and their names stand
pub record Closes {A : Type 0} (m : A → Native) (closings : List Closing) (count : ℕ) (left : List A) (total : List Closing) : Type 0 where
  pub opened : all_open (map m left) ≡ true
  pub made : take count closings ++ map closing (map m left) ≡ total
  pub named : drop count closings ≡ map unclosed (map m left)

-- one native more was closed
pub close_next : {A : Type 0} (m : A → Native) (closings : List Closing) (count : ℕ) (items rest : List A) (a : A) (total : List Closing) (old : Closing) (number : ℤ) → items ≡ a ∷ rest → old ≡ get_or closings count old → number ≡ closing_of (m a)
    → Closes m closings count items total → Closes m (set closings count (record { name = old.name; number = number })) (count + 1) rest total
close_next m closings count items rest a total old number is at says h =
    let here : drop count closings ≡ unclosed (m a) ∷ map unclosed (map m rest) = h.named ∙ ap (λ xs. map unclosed (map m xs)) is in
    let some : length (drop count closings) ≡ suc (length (map unclosed (map m rest))) = ap length here in
    let lt : count < length closings = omega (arith, length-drop count closings, some) in
    let split : drop count closings ≡ old ∷ drop (count + 1) closings = next_one closings count old lt at in
    let first : old ≡ unclosed (m a) = cc in
    let others : drop (count + 1) closings ≡ map unclosed (map m rest) = cc in
    let name : old.name ≡ (m a).name = ap (λ (c : Closing). c.name) first in
    let put : Closing = record { name = old.name; number = number } in
    let right : put ≡ closing (m a) = cc in
    let made : take count closings ++ closing (m a) ∷ map closing (map m rest) ≡ total = ap (λ xs. take count closings ++ map closing (map m xs)) (sym is) ∙ h.made in
    record {
      opened = (and_parts (m a).is_open (all_open (map m rest)) (ap (λ xs. all_open (map m xs)) (sym is) ∙ h.opened)).1;
      made = ap (λ xs. xs ++ map closing (map m rest)) (take_more_set closings count put lt)
          ∙ (append_assoc (take count closings) (put ∷ []) (map closing (map m rest)) ∙ (ap (λ c. take count closings ++ c ∷ map closing (map m rest)) right ∙ made));
      named = drop-set-lt (count + 1) closings count put (omega arith) ∙ others;
    }

-- ---- the sum of what natives said

-- the natives that are left are open, and the sum with what they will say is that of all
pub record Sums {A : Type 0} (m : A → Native) (sum : ℤ) (left all : List A) : Type 0 where
  pub opened : all_open (map m left) ≡ true
  pub so_far : sum_said sum (map m left) ≡ sum_said (pos 0) (map m all)
