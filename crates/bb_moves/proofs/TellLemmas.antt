-- What the format gives, it can tell: each move of a history that is read can be written again.
use Rattle.std.proofs.Common.{◌≡◌, ◌<◌, ◌≤◌, ◌^◌, ℕ, ℤ, zero, suc, pos, Bool, true, false, cond, drop, Float, List, [], ◌∷◌, ◌++◌, Option, Some, None, Result, Ok, Err, refl, sym, ap, subst, ◌∙◌, arith, leb-true, lt-ltb, ltb-true}
use Rattle.std.specs.Prelude.{◌&&◌, ◌==◌, nat_le, int_le, nat_lt, option_map, option_and_then, position, slice_get, slice_index}
use Rattle.std.specs.List.{list_all}
use Rattle.std.specs.Option.{is_some}
use Rattle.std.specs.Str.{bytes_eq, trim}
use Rattle.std.specs.Str.Lines.{lines}
use Rattle.std.proofs.Math.IntN.{neg_ℤ}
use Rattle.std.proofs.lemmas.List.Folds.{list_all-append}
use Rattle.std.specs.Float.{binary64, float_is_finite}
use Rattle.fast_float.specs.Text.{Parts, digits_of, minus, nearest, scan}
use Rattle.json.specs.Json as json
use Rattle.json.specs.Lex.{tokens}
use Rattle.serde_json.specs.Data.{Data, Num, unsigned, negative, float, null, boolean, number, string, array, object, Items, no_items, item, no_members}
use Rattle.serde_json.specs.Find.{as_i64, as_number, as_u64}
use Rattle.serde_json.specs.Read.{float_of, is_integer, number_from, of_items, max_depth, of_json, of_members, read}
use Rattle.serde_json.specs.Read as reads
use Rattle.bb_basis.specs.Names.{is_name}
use Rattle.bb_basis.specs.Results.{◌>>=◌, ok_or}
use Rattle.bb_basis.proofs.AppendLemmas.{there_is}
use Rattle.bb_basis.proofs.BoolLemmas.{and_first, and_second}
use Rattle.bb_basis.proofs.PositionLemmas.{position_within}
use Rattle.bb_basis.proofs.ResultLemmas.{bind_ok, ok_or_ok, same_ok, try_fold_keeps}
use Rattle.bb_schema_classes.specs.declared.label_set.LabelSet.{LabelSet}
use Rattle.bb_schema.specs.Schema.{Schema, label_named, label_set_named}
use Rattle.bb_shell.specs.Ask.{Ask}
use Rattle.bb_shell.specs.Ask.TheVariants as asks
use Rattle.bb_shell.specs.Value.{Value}
use Rattle.bb_shell.specs.Value.TheVariants as values
use Rattle.bb_run_held.specs.Moves.{Move, one_turn, advance}
use Rattle.bb_moves.specs.Asks.{ask_of, delete_of, enter_of, leave_of, link_of, new_of, say_of, set_of, unlink_of}
use Rattle.bb_moves.specs.Keywords.{keyword_of}
use Rattle.bb_moves.specs.MovesText.{Asks, Progress, after_ask, after_line, after_move, after_words, inside, move_by, moves_of, nothing_read, outside, says_nothing}
use Rattle.bb_moves.specs.Values.{ends_of, label_of, plain_value, text_of, value_by, value_of, whole}
use Rattle.bb_moves.specs.Words.{behind, count_of, first, name_of, nothing_in, number_of, split_at}
use Rattle.bb_moves.specs.Written.{can_tell, is_i64, is_u64, tells_ask, tells_value}
use Rattle.bb_moves.specs.declared.fault.MovesFlaw.TheVariants.{Label, Name, Number, Value as NoValue, Word}
use Rattle.bb_moves.specs.declared.fault.Slip.{Slip}
use Rattle.bb_moves.specs.declared.fault.Slip.TheVariants.{Flaw}
use Rattle.bb_moves.specs.declared.keyword.AskWord.{AskWord}
use Rattle.bb_moves.specs.declared.keyword.AskWord.TheVariants as words
use Rattle.bb_moves.specs.declared.keyword.Gathering.{Gathering}
use Rattle.bb_moves.specs.declared.keyword.Gathering.TheVariants as gatherings
use Rattle.bb_moves.specs.declared.keyword.Keyword.{Keyword}
use Rattle.bb_moves.specs.declared.keyword.Keyword.TheVariants as keywords
use Rattle.bb_moves.proofs.JoinLemmas.{all_read, progress, read_by_lines}

some_is : {X : Type 0} (x y : X) → (let o : Option X = Some x in o) ≡ Some y → x ≡ y
some_is x y h = cc

both : (a b : Bool) → a ≡ true → b ≡ true → (a && b) ≡ true
both a b h k = rw (h, k) refl

-- ---- the numbers that are read

-- a number without a fraction is one of 64 bits
abbrev IsSmall : Num → Type 0
IsSmall (unsigned n) = nat_lt n (2 ^ 64) ≡ true
IsSmall (negative z) = is_i64 z ≡ true
IsSmall (float x) = Unit {0}

choose : (b : Bool) (o p : Option Num) (n : Num) → cond b o p ≡ Some n → (o ≡ Some n → IsSmall n) → (p ≡ Some n → IsSmall n) → IsSmall n
choose true o p n h f g = f h
choose false o p n h f g = g h

float_by : (b : Bool) (x : Float) (n : Num) → cond b (Some (float x)) None ≡ Some n → IsSmall n
float_by true x n h = subst IsSmall (some_is (float x) n h) tt
float_by false x n h = absurd cc

unsigned_by : (b : Bool) (m : ℕ) (rest : Option Num) (n : Num) → cond b (Some (unsigned m)) rest ≡ Some n → (b ≡ true → nat_lt m (2 ^ 64) ≡ true) → (rest ≡ Some n → IsSmall n) → IsSmall n
unsigned_by true m rest n h low f = subst IsSmall (some_is (unsigned m) n h) (low refl)
unsigned_by false m rest n h low f = f h

negative_small : (m : ℕ) → 0 < m → m ≤ 2 ^ 63 → IsSmall (negative (neg_ℤ (pos m)))
negative_small zero some low = absurd (omega (arith, some))
negative_small (suc m) some low = lt-ltb m (2 ^ 63) (omega (arith, low))

negative_by : (b : Bool) (m : ℕ) (rest : Option Num) (n : Num) → cond b (Some (negative (neg_ℤ (pos m)))) rest ≡ Some n → (b ≡ true → (0 < m) × (m ≤ 2 ^ 63)) → (rest ≡ Some n → IsSmall n) → IsSmall n
negative_by true m rest n h low f = let is = low refl in subst IsSmall (some_is (negative (neg_ℤ (pos m))) n h) (negative_small m is.0 is.1)
negative_by false m rest n h low f = f h

float_small : (sign : Bool) (p : Parts) (n : Num) → float_of sign p ≡ Some n → IsSmall n
float_small sign p n h = float_by (float_is_finite (nearest binary64 sign p)) (nearest binary64 sign p) n h

unsigned_small : (p : Parts) (n : Num) → number_from false p ≡ Some n → IsSmall n
unsigned_small p n h =
    let low = nat_lt (digits_of p) (2 ^ 64) in
    unsigned_by (is_integer p && low) (digits_of p) (float_of false p) n h (and_second (is_integer p) low) (float_small false p n)

signed_small : (p : Parts) (n : Num) → number_from true p ≡ Some n → IsSmall n
signed_small p n h =
    let some = nat_lt 0 (digits_of p) in
    let low = nat_le (digits_of p) (2 ^ 63) in
    negative_by (is_integer p && some && low) (digits_of p) (float_of true p) n h
    (λ t. (ltb-true 0 (digits_of p) (and_second (is_integer p) some (and_first (is_integer p && some) low t)), leb-true (digits_of p) (2 ^ 63) (and_second (is_integer p && some) low t)))
    (float_small true p n)

number_small : (s : List ℕ) (n : Num) → reads.number_of s ≡ Some n → IsSmall n
unfolding reads.number_of
number_small s n h = choose (slice_index s 0 == minus) (number_from true (scan (drop 1 s))) (number_from false (scan s)) n h (signed_small (scan (drop 1 s)) n) (unsigned_small (scan s) n)

abbrev mutual
  AreSmallData : Data → Type 0
  AreSmallData null = Unit {0}
  AreSmallData (boolean b) = Unit {0}
  AreSmallData (number n) = IsSmall n
  AreSmallData (string s) = Unit {0}
  AreSmallData (array ds) = AreSmallItems ds
  AreSmallData (object ms) = Unit {0}

  AreSmallItems : Items → Type 0
  AreSmallItems no_items = Unit {0}
  AreSmallItems (item d ds) = AreSmallData d × AreSmallItems ds

mapped : {X : Type 0} (f : X → Data) (o : Option X) (d : Data) → option_map f o ≡ Some d → ((x : X) → o ≡ Some x → AreSmallData (f x)) → AreSmallData d
mapped f None d h g = absurd cc
mapped f (Some x) d h g = subst AreSmallData (some_is (f x) d h) (g x refl)

one_more_item : (o : Option Data) (p : Option Items) (ds : Items) → option_and_then (λ d. option_map (item d) p) o ≡ Some ds → ((d : Data) → o ≡ Some d → AreSmallData d) → ((es : Items) → p ≡ Some es → AreSmallItems es) → AreSmallItems ds
one_more_item None p ds h f g = absurd cc
one_more_item (Some d) None ds h f g = absurd cc
one_more_item (Some d) (Some es) ds h f g = subst AreSmallItems (some_is (item d es) ds h) (f d refl, g es refl)

mutual
  json_small : (j : json.Json) (d : Data) → of_json j ≡ Some d → AreSmallData d
  json_small json.null d h = subst AreSmallData (some_is null d h) tt
  json_small (json.boolean b) d h = subst AreSmallData (some_is (boolean b) d h) tt
  json_small (json.number s) d h = mapped number (reads.number_of s) d h (λ n e. number_small s n e)
  json_small (json.string s) d h = subst AreSmallData (some_is (string s) d h) tt
  json_small (json.array js) d h = mapped array (of_items js) d h (λ ds e. items_small js ds e)
  json_small (json.object ms) d h = mapped object (of_members ms no_members) d h (λ _ _. tt)

  items_small : (js : json.Items) (ds : Items) → of_items js ≡ Some ds → AreSmallItems ds
  items_small json.no_items ds h = subst AreSmallItems (some_is no_items ds h) tt
  items_small (json.item j js) ds h = one_more_item (of_json j) (of_items js) ds h (λ d e. json_small j d e) (λ es e. items_small js es e)

small_by : (o : Option json.Json) (d : Data) → option_and_then of_json o ≡ Some d → AreSmallData d
small_by None d h = absurd cc
small_by (Some j) d h = json_small j d h

read_small : (text : List ℕ) (d : Data) → read text ≡ Some d → AreSmallData d
read_small text d h = small_by (option_and_then (λ p. json.if_last p.0 p.1) (json.value max_depth (tokens text))) d h

-- ---- units and cycles

unit_by : (d : Data) (n : ℕ) → AreSmallData d → option_and_then as_u64 (as_number d) ≡ Some n → is_u64 n ≡ true
unit_by null n small h = absurd cc
unit_by (boolean b) n small h = absurd cc
unit_by (number (unsigned m)) n small h = subst (λ k. is_u64 k ≡ true) (some_is m n h) small
unit_by (number (negative z)) n small h = absurd cc
unit_by (number (float x)) n small h = absurd cc
unit_by (string s) n small h = absurd cc
unit_by (array ds) n small h = absurd cc
unit_by (object ms) n small h = absurd cc

unit_told : (text : List ℕ) (n : ℕ) → number_of text ≡ Ok n → is_u64 n ≡ true
unfolding number_of
unit_told text n h =
    let d = bind_ok (ok_or (read text) (Flaw Number)) _ n h in
    unit_by d.0 n (read_small text d.0 (ok_or_ok (Flaw Number) (read text) d.0 d.1)) (ok_or_ok (Flaw Number) (option_and_then as_u64 (as_number d.0)) n d.2)

count_by : (b : Bool) (m n : ℕ) → nat_lt m (2 ^ 32) ≡ b → (let r : Result ℕ Slip = cond b (Ok m) (Err (Flaw Number)) in r) ≡ Ok n → nat_lt n (2 ^ 32) ≡ true
count_by true m n is h = subst (λ k. nat_lt k (2 ^ 32) ≡ true) (same_ok m n h) is
count_by false m n is h = absurd cc

count_told : (text : List ℕ) (n : ℕ) → count_of text ≡ Ok n → nat_lt n (2 ^ 32) ≡ true
unfolding count_of
count_told text n h = let m = bind_ok (number_of text) _ n h in count_by (nat_lt m.0 (2 ^ 32)) m.0 n refl m.2

name_by : (b : Bool) (text name : List ℕ) → is_name text ≡ b → (let r : Result (List ℕ) Slip = cond b (Ok text) (Err (Flaw Name)) in r) ≡ Ok name → is_name name ≡ true
name_by true text name is h = subst (λ t. is_name t ≡ true) (same_ok text name h) is
name_by false text name is h = absurd cc

name_told : (text name : List ℕ) → name_of text ≡ Ok name → is_name name ≡ true
unfolding name_of
name_told text name h = name_by (is_name text) text name refl h

-- ---- values

positive_by : (b : Bool) (m : ℕ) (z : ℤ) → nat_lt m (2 ^ 63) ≡ b → cond b (Some (pos m)) None ≡ Some z → is_i64 z ≡ true
positive_by true m z is h = subst (λ x. is_i64 x ≡ true) (some_is (pos m) z h) is
positive_by false m z is h = absurd cc

integer_told : (n : Num) (z : ℤ) → IsSmall n → as_i64 n ≡ Some z → is_i64 z ≡ true
integer_told (unsigned m) z small h = positive_by (nat_lt m (2 ^ 63)) m z refl h
integer_told (negative y) z small h = subst (λ x. is_i64 x ≡ true) (some_is y z h) small
integer_told (float x) z small h = absurd cc

whole_told : (d : Data) (z : ℤ) → AreSmallData d → whole d ≡ Some z → is_i64 z ≡ true
whole_told null z small h = absurd cc
whole_told (boolean b) z small h = absurd cc
whole_told (number n) z small h = integer_told n z small h
whole_told (string s) z small h = absurd cc
whole_told (array ds) z small h = absurd cc
whole_told (object ms) z small h = absurd cc

-- two ends
abbrev two_ends : ℤ → ℤ → Option (ℤ × ℤ)
two_ends low high = Some (low, high)

ordered_by : (b : Bool) (l h low high : ℤ) → int_le l h ≡ b → is_i64 l ≡ true → is_i64 h ≡ true → cond b (two_ends l h) None ≡ two_ends low high → (is_i64 low && is_i64 high && int_le low high) ≡ true
ordered_by true l h low high is one two e =
    let pair : ℤ × ℤ = (l, h) in
    let other : ℤ × ℤ = (low, high) in
    let same = some_is pair other e in
    subst (λ (p : ℤ × ℤ). (is_i64 p.0 && is_i64 p.1 && int_le p.0 p.1) ≡ true) same (both (is_i64 l && is_i64 h) (int_le l h) (both (is_i64 l) (is_i64 h) one two) is)
ordered_by false l h low high is one two e = absurd cc

ends_by : (o p : Option ℤ) (low high : ℤ) → ((z : ℤ) → o ≡ Some z → is_i64 z ≡ true) → ((z : ℤ) → p ≡ Some z → is_i64 z ≡ true)
    → option_and_then (λ l. option_and_then (λ h. cond (int_le l h) (two_ends l h) None) p) o ≡ two_ends low high → (is_i64 low && is_i64 high && int_le low high) ≡ true
ends_by None p low high f g e = absurd cc
ends_by (Some l) None low high f g e = absurd cc
ends_by (Some l) (Some h) low high f g e = ordered_by (int_le l h) l h low high refl (f l refl) (g h refl) e

ends_told : (ds : Items) (low high : ℤ) → AreSmallItems ds → ends_of ds ≡ two_ends low high → (is_i64 low && is_i64 high && int_le low high) ≡ true
ends_told no_items low high small e = absurd cc
ends_told (item a no_items) low high small e = absurd cc
ends_told (item a (item b no_items)) low high small e = ends_by (whole a) (whole b) low high (λ z. whole_told a z small.0) (λ z. whole_told b z small.1.0) e
ends_told (item a (item b (item c ds))) low high small e = absurd cc

module _ (s : Schema) where
  valued : {X : Type 0} (f : X → Value) (o : Option X) (v : Value) → option_map f o ≡ Some v → ((x : X) → o ≡ Some x → tells_value s (f x) ≡ true) → tells_value s v ≡ true
  valued f None v h g = absurd cc
  valued f (Some x) v h g = subst (λ y. tells_value s y ≡ true) (let e : f x ≡ v = cc in e) (g x refl)

  plain_told : (d : Data) (v : Value) → AreSmallData d → plain_value d ≡ Ok v → tells_value s v ≡ true
  plain_told null v small h = absurd cc
  plain_told (boolean b) v small h = subst (λ y. tells_value s y ≡ true) (same_ok (values.Bool b) v h) refl
  plain_told (number n) v small h = valued values.Int (as_i64 n) v (ok_or_ok _ (option_map values.Int (as_i64 n)) v h) (λ z. integer_told n z small)
  plain_told (string t) v small h = subst (λ y. tells_value s y ≡ true) (same_ok (values.Text t) v h) refl
  plain_told (array ds) v small h = valued (λ (e : ℤ × ℤ). values.Interval e.0 e.1) (ends_of ds) v (ok_or_ok _ (option_map (λ (e : ℤ × ℤ). values.Interval e.0 e.1) (ends_of ds)) v h) (λ e is. ends_told ds e.0 e.1 small is)
  plain_told (object ms) v small h = absurd cc

  label_there : (name : List ℕ) (label : ℕ) (o : Option LabelSet) → option_and_then (λ (l : LabelSet). position (bytes_eq name) l.values) o ≡ Some label → is_some (option_and_then (λ (l : LabelSet). slice_get l.values label) o) ≡ true
  label_there name label None h = absurd cc
  label_there name label (Some l) h = let there = there_is l.values label (position_within (bytes_eq name) l.values label h) in ap is_some there.1

  named_told : (text : List ℕ) (v : Value) → label_of s text ≡ Ok v → tells_value s v ≡ true
  unfolding label_of
  named_told text v h =
      let parts = bind_ok (ok_or (split_at 58 text) _) _ v h in
      by (is_name parts.0.0) parts.0.0 parts.0.1 parts.2
    where
      by : (b : Bool) (of name : List ℕ) → (let r : Result Value Slip = cond b (do
        set ← ok_or (label_set_named s of) (Flaw Label)
        label ← ok_or (label_named s set name) (Flaw Label)
        Ok (values.Label set label)) (Err (Flaw NoValue)) in r) ≡ Ok v → tells_value s v ≡ true
      by false of name k = absurd cc
      by true of name k =
          let set = bind_ok (ok_or (label_set_named s of) (Flaw Label)) _ v k in
          let label = bind_ok (ok_or (label_named s set.0 name) (Flaw Label)) _ v set.2 in
          subst (λ y. tells_value s y ≡ true) (same_ok (values.Label set.0 label.0) v label.2)
          (label_there name label.0 (slice_get s.label_sets set.0) (ok_or_ok (Flaw Label) (label_named s set.0 name) label.0 label.1))

  value_by_told : (text : List ℕ) (o : Option Data) (v : Value) → read text ≡ o → value_by s text o ≡ Ok v → tells_value s v ≡ true
  value_by_told text None v is h = named_told text v h
  value_by_told text (Some d) v is h = plain_told d v (read_small text d is) h

  value_told : (text : List ℕ) (v : Value) → value_of s text ≡ Ok v → tells_value s v ≡ true
  unfolding value_of
  value_told text v h = value_by_told text (read text) v refl h

  -- ---- asks

  told_by : (a b : Ask) → a ≡ b → tells_ask s a ≡ true → tells_ask s b ≡ true
  told_by a b e h = subst (λ x. tells_ask s x ≡ true) e h

  ask_told : (word : AskWord) (text : List ℕ) (a : Ask) → ask_of s word text ≡ Ok a → tells_ask s a ≡ true
  unfolding tells_ask new_of delete_of set_of link_of unlink_of enter_of leave_of say_of
  ask_told words.New text a h =
      let name = bind_ok (name_of text) _ a h in
      told_by (asks.New name.0) a (same_ok (asks.New name.0) a name.2) (name_told text name.0 name.1)
  ask_told words.Delete text a h =
      let unit = bind_ok (number_of text) _ a h in
      told_by (asks.Delete unit.0) a (same_ok (asks.Delete unit.0) a unit.2) (unit_told text unit.0 unit.1)
  ask_told words.Set text a h =
      let unit = bind_ok (number_of (first text)) _ a h in
      let name = bind_ok (name_of (first (behind text))) _ a unit.2 in
      let value = bind_ok (value_of s (behind (behind text))) _ a name.2 in
      told_by (asks.Set unit.0 name.0 value.0) a (same_ok (asks.Set unit.0 name.0 value.0) a value.2)
      (both (is_u64 unit.0 && is_name name.0) (tells_value s value.0) (both (is_u64 unit.0) (is_name name.0) (unit_told _ unit.0 unit.1) (name_told _ name.0 name.1)) (value_told _ value.0 value.1))
  ask_told words.Link text a h =
      let unit = bind_ok (number_of (first text)) _ a h in
      let name = bind_ok (name_of (first (behind text))) _ a unit.2 in
      let other = bind_ok (number_of (behind (behind text))) _ a name.2 in
      told_by (asks.Link unit.0 name.0 other.0) a (same_ok (asks.Link unit.0 name.0 other.0) a other.2)
      (both (is_u64 unit.0 && is_name name.0) (is_u64 other.0) (both (is_u64 unit.0) (is_name name.0) (unit_told _ unit.0 unit.1) (name_told _ name.0 name.1)) (unit_told _ other.0 other.1))
  ask_told words.Unlink text a h =
      let unit = bind_ok (number_of (first text)) _ a h in
      let name = bind_ok (name_of (first (behind text))) _ a unit.2 in
      let other = bind_ok (number_of (behind (behind text))) _ a name.2 in
      told_by (asks.Unlink unit.0 name.0 other.0) a (same_ok (asks.Unlink unit.0 name.0 other.0) a other.2)
      (both (is_u64 unit.0 && is_name name.0) (is_u64 other.0) (both (is_u64 unit.0) (is_name name.0) (unit_told _ unit.0 unit.1) (name_told _ name.0 name.1)) (unit_told _ other.0 other.1))
  ask_told words.Enter text a h =
      let unit = bind_ok (number_of (first text)) _ a h in
      let name = bind_ok (name_of (behind text)) _ a unit.2 in
      told_by (asks.Enter unit.0 name.0) a (same_ok (asks.Enter unit.0 name.0) a name.2) (both (is_u64 unit.0) (is_name name.0) (unit_told _ unit.0 unit.1) (name_told _ name.0 name.1))
  ask_told words.Leave text a h =
      let unit = bind_ok (number_of (first text)) _ a h in
      let name = bind_ok (name_of (behind text)) _ a unit.2 in
      told_by (asks.Leave unit.0 name.0) a (same_ok (asks.Leave unit.0 name.0) a name.2) (both (is_u64 unit.0) (is_name name.0) (unit_told _ unit.0 unit.1) (name_told _ name.0 name.1))
  ask_told words.Say text a h =
      let said = bind_ok (text_of text) _ a h in
      told_by (asks.Say said.0) a (same_ok (asks.Say said.0) a said.2) refl

  -- ---- what was read so far

  abbrev HasTold : Option Asks → Type 0
  HasTold None = Unit {0}
  HasTold (Some g) = list_all (tells_ask s) g.asks ≡ true

  record IsTold (p : Progress) : Type 0 where
    moves : list_all (can_tell s) p.moves ≡ true
    gathered : HasTold p.gathered

  move_told : (moves : List Move) (m : Move) → list_all (can_tell s) moves ≡ true → can_tell s m ≡ true → list_all (can_tell s) (moves ++ m ∷ []) ≡ true
  move_told moves m h k = list_all-append (can_tell s) moves (m ∷ []) ∙ both (list_all (can_tell s) moves) (can_tell s m && true) h (both (can_tell s m) true k refl)

  -- what a step gives holds, if it gives something
  stepped : {X : Type 0} (r : Result X Slip) (f : X → Progress) (q : Progress) → (r >>= λ x. Ok (f x)) ≡ Ok q → ((x : X) → r ≡ Ok x → IsTold (f x)) → IsTold q
  stepped r f q h g = let x = bind_ok r (λ x. Ok (f x)) q h in subst IsTold (same_ok (f x.0) q x.2) (g x.0 x.1)

  after_move_told : (p q : Progress) (k : Keyword) (text : List ℕ) → list_all (can_tell s) p.moves ≡ true → p.gathered ≡ None → after_move p k text ≡ Ok q → IsTold q
  unfolding after_move can_tell
  after_move_told p q keywords.Turn text told none h =
      stepped (nothing_in text) _ q h (λ _ _. record { moves = move_told p.moves one_turn told refl; gathered = subst HasTold (sym none) tt })
  after_move_told p q keywords.Advance text told none h =
      stepped (count_of text) _ q h (λ n is. record { moves = move_told p.moves (advance n) told (count_told text n is); gathered = subst HasTold (sym none) tt })
  after_move_told p q (keywords.Gather kind) text told none h = stepped (nothing_in text) _ q h (λ _ _. record { moves = told; gathered = refl })
  after_move_told p q keywords.End text told none h = absurd cc
  after_move_told p q (keywords.Ask word) text told none h = absurd cc

  gathered_told : (kind : Gathering) (asks : List Ask) → list_all (tells_ask s) asks ≡ true → can_tell s (move_by kind asks) ≡ true
  unfolding can_tell
  gathered_told gatherings.Post asks h = h
  gathered_told gatherings.Answer asks h = h

  after_ask_told : (p q : Progress) (g : Asks) (k : Keyword) (text : List ℕ) → list_all (can_tell s) p.moves ≡ true → p.gathered ≡ None → list_all (tells_ask s) g.asks ≡ true → after_ask s p g k text ≡ Ok q → IsTold q
  after_ask_told p q g (keywords.Ask word) text told none all h =
      stepped (ask_of s word text) _ q h (λ a is. record {
        moves = told;
        gathered = list_all-append (tells_ask s) g.asks (a ∷ []) ∙ both (list_all (tells_ask s) g.asks) (tells_ask s a && true) all (both (tells_ask s a) true (ask_told word text a is) refl);
      })
  after_ask_told p q g keywords.End text told none all h =
      stepped (nothing_in text) _ q h (λ _ _. record { moves = move_told p.moves (move_by g.gathering g.asks) told (gathered_told g.gathering g.asks all); gathered = subst HasTold (sym none) tt })
  after_ask_told p q g keywords.Turn text told none all h = absurd cc
  after_ask_told p q g keywords.Advance text told none all h = absurd cc
  after_ask_told p q g (keywords.Gather kind) text told none all h = absurd cc

  outside_by : (p q : Progress) (k : Option Keyword) (text : List ℕ) → list_all (can_tell s) p.moves ≡ true → p.gathered ≡ None → (ok_or k (Flaw Word) >>= λ x. after_move p x text) ≡ Ok q → IsTold q
  outside_by p q None text told none h = absurd cc
  outside_by p q (Some k) text told none h = after_move_told p q k text told none h

  inside_by : (p q : Progress) (g : Asks) (k : Option Keyword) (text : List ℕ) → list_all (can_tell s) p.moves ≡ true → p.gathered ≡ None → list_all (tells_ask s) g.asks ≡ true
      → (ok_or k (Flaw Word) >>= λ x. after_ask s p g x text) ≡ Ok q → IsTold q
  inside_by p q g None text told none all h = absurd cc
  inside_by p q g (Some k) text told none all h = after_ask_told p q g k text told none all h

  words_told : (p q : Progress) (gathered : Option Asks) (line : List ℕ) → list_all (can_tell s) p.moves ≡ true → p.gathered ≡ None → HasTold gathered → after_words s p gathered line ≡ Ok q → IsTold q
  unfolding inside outside
  words_told p q None line told none all h = outside_by p q (keyword_of (first line)) (behind line) told none h
  words_told p q (Some g) line told none all h = inside_by p q g (keyword_of (first line)) (behind line) told none all h

  line_by : (b : Bool) (p q : Progress) (line : List ℕ) → IsTold p → (let r : Result Progress Slip = cond b (Ok p) (after_words s (progress p.moves None) p.gathered line) in r) ≡ Ok q → IsTold q
  line_by true p q line told h = subst IsTold (same_ok p q h) told
  line_by false p q line told h = words_told (progress p.moves None) q p.gathered line told.moves refl told.gathered h

  line_told : (p q : Progress) (line : List ℕ) → IsTold p → after_line s p line ≡ Ok q → IsTold q
  unfolding after_line
  line_told p q line told h = line_by (says_nothing (trim line)) p q (trim line) told h

  pub only_told : (text : List ℕ) (ms : List Move) → moves_of s text ≡ Ok ms → list_all (can_tell s) ms ≡ true
  only_told text ms h =
      let nothing : IsTold nothing_read = record { moves = refl; gathered = tt } in
      let all : IsTold (all_read ms) = try_fold_keeps IsTold (after_line s) (λ p q line. line_told p q line) nothing_read (all_read ms) (lines text) nothing (read_by_lines s text ms h) in
      all.moves
