-- `SET:LABEL` is read as the label: the names of a schema lead back to the numbers that have them.
use Rattle.std.proofs.Common.{◌≡◌, ℕ, zero, suc, ◌+◌, Bool, true, false, List, [], ◌∷◌, ◌++◌, map, Option, Some, None, Result, Ok, Err, refl, sym, ap, subst, ◌∙◌, codes, arith, append_assoc}
use Rattle.std.specs.Prelude.{◌==◌, All, if◌then◌else◌, option_and_then, option_map, position, slice_get, unwrap_or}
use Rattle.std.specs.List.{AllByRecursion, IsDistinct, position_from}
use Rattle.std.specs.Option.{is_some}
use Rattle.std.specs.Str.{bytes_eq}
use Rattle.std.specs.Cmp.Lexicographic.{bytes_decides}
use Rattle.std.proofs.lemmas.Iterator.Adapters.{position_from-zero}
use Rattle.std.proofs.lemmas.List.Elements.{All-from_recursion, recursion_from_All}
use Rattle.bb_basis.specs.Names.{is_name, is_name_byte}
use Rattle.bb_basis.specs.Results.{◌>>=◌, ok_or}
use Rattle.bb_schema_classes.specs.Naming.{AreNames}
use Rattle.bb_schema_classes.specs.declared.label_set.LabelSet.{LabelSet}
use Rattle.bb_schema.specs.Fits as schemas
use Rattle.bb_schema.specs.Schema.{Schema, label_named, label_set_named, name_of_label, name_of_label_set}
use Rattle.bb_shell.specs.Value.{Value}
use Rattle.bb_shell.specs.Value.TheVariants as values
use Rattle.bb_moves.specs.Values.{label_of}
use Rattle.bb_moves.specs.Written.{label_text}
use Rattle.bb_moves.specs.declared.fault.MovesFlaw.TheVariants.{Value as NoValue, Label as NoLabel}
use Rattle.bb_moves.specs.declared.fault.Slip.{Slip}
use Rattle.bb_moves.specs.declared.fault.Slip.TheVariants.{Flaw}
use Rattle.bb_moves.proofs.GraphicLemmas.{each_passes, name_bytes}
use Rattle.bb_moves.proofs.ReadBackLemmas.{apart}
use Rattle.bb_moves.proofs.WordLemmas.{split_at_first}

-- ---- the place of a name among names that differ

eq_itself : (name : List ℕ) → bytes_eq name name ≡ true
eq_itself name = (bytes_decides name name).1 refl

eq_flips : (x y : List ℕ) → bytes_eq x y ≡ false → bytes_eq y x ≡ false
eq_flips x y apart = by (bytes_eq y x) refl
  where
    by : (b : Bool) → bytes_eq y x ≡ b → b ≡ false
    by false h = refl
    by true h = let same : y ≡ x = (bytes_decides y x).0 h in let e : true ≡ false = sym ((bytes_decides x y).1 (sym same)) ∙ apart in cc

all_at : {X : Type 0} (P : X → Type 0) (xs : List X) (i : ℕ) (x : X) → AllByRecursion P xs → slice_get xs i ≡ Some x → P x
all_at P [] i x all at = absurd cc
all_at P (y ∷ ys) zero x all at = let e : y ≡ x = cc in subst P e all.0
all_at P (y ∷ ys) (suc i) x all at = all_at P ys i x all.1 at

named_from : (names : List (List ℕ)) (i m : ℕ) (name : List ℕ) → IsDistinct bytes_eq names → slice_get names i ≡ Some name → position_from (bytes_eq name) m names ≡ Some (m + i)
unfolding IsDistinct
named_from [] i m name differ at = absurd cc
named_from (x ∷ xs) zero m name differ at = let e : x ≡ name = cc in rw (e, eq_itself name) (ap Some (omega arith))
named_from (x ∷ xs) (suc i) m name differ at =
    rw (eq_flips x name (all_at (λ y. bytes_eq x y ≡ false) xs i name differ.0 at)) (named_from xs i (m + 1) name differ.1 at ∙ ap Some (omega arith))

named_at : (names : List (List ℕ)) (i : ℕ) (name : List ℕ) → IsDistinct bytes_eq names → slice_get names i ≡ Some name → position (bytes_eq name) names ≡ Some i
named_at names i name differ at = position_from-zero (bytes_eq name) names ∙ (named_from names i 0 name differ at ∙ ap Some (omega arith))

at_map : {X Y : Type 0} (f : X → Y) (xs : List X) (i : ℕ) (x : X) → slice_get xs i ≡ Some x → slice_get (map f xs) i ≡ Some (f x)
at_map f [] i x at = absurd cc
at_map f (y ∷ ys) zero x at = let e : y ≡ x = cc in ap (λ z. Some (f z)) e
at_map f (y ∷ ys) (suc i) x at = at_map f ys i x at

-- ---- a label of a schema

-- no name has a colon
pub name_has_none : (name : List ℕ) → is_name name ≡ true → All (λ b. (b == 58) ≡ false) name
name_has_none name h = All-from_recursion (λ b. (b == 58) ≡ false) name (each_passes is_name_byte (λ b. (b == 58) ≡ false) (λ b is. apart b is 58 refl) name (name_bytes name h))

-- a label of a schema by the names of its set and itself
pub record HasLabel (s : Schema) (set label : ℕ) : Type 0 where
  pub of : List ℕ
  pub name : List ℕ
  pub set_is : name_of_label_set s set ≡ Some of
  pub label_is : name_of_label s set label ≡ Some name
  pub set_name : is_name of ≡ true
  pub label_name : is_name name ≡ true
  pub set_back : label_set_named s of ≡ Some set
  pub label_back : label_named s set name ≡ Some label

-- the labels of a set are names, none twice
labels_named : (limit : ℕ) (sets : List LabelSet) (set : ℕ) (l : LabelSet) → All (λ x. AreNames limit x.values) sets → slice_get sets set ≡ Some l → AllByRecursion (λ t. is_name t ≡ true) l.values
labels_named limit sets set l all at =
    let named = all_at (λ (x : LabelSet). AreNames limit x.values) sets set l (recursion_from_All (λ (x : LabelSet). AreNames limit x.values) sets all) at in
    recursion_from_All (λ t. is_name t ≡ true) l.values named.names

labels_differ : (limit : ℕ) (sets : List LabelSet) (set : ℕ) (l : LabelSet) → All (λ x. AreNames limit x.values) sets → slice_get sets set ≡ Some l → IsDistinct bytes_eq l.values
labels_differ limit sets set l all at =
    let named = all_at (λ (x : LabelSet). AreNames limit x.values) sets set l (recursion_from_All (λ (x : LabelSet). AreNames limit x.values) sets all) at in
    named.distinct

module _ (s : Schema) (fits : schemas.Fits s) (set label : ℕ) where
  label_there : (l : LabelSet) (name : List ℕ) → slice_get s.label_sets set ≡ Some l → slice_get l.values label ≡ Some name → HasLabel s set label
  label_there l name at there =
      let at_name = at_map (λ (x : LabelSet). x.name) s.label_sets set l at in
      let names = map (λ (x : LabelSet). x.name) s.label_sets in
      record {
        of = l.name;
        name = name;
        set_is = ap (option_map (λ (x : LabelSet). x.name)) at;
        label_is = ap (option_and_then (λ (x : LabelSet). slice_get x.values label)) at ∙ there;
        set_name = all_at (λ t. is_name t ≡ true) names set l.name (recursion_from_All (λ t. is_name t ≡ true) names fits.label_sets.named.names) at_name;
        label_name = all_at (λ t. is_name t ≡ true) l.values label name (labels_named _ s.label_sets set l fits.label_sets.labels at) there;
        set_back = named_at names set l.name fits.label_sets.named.distinct at_name;
        label_back = ap (option_and_then (λ (x : LabelSet). position (bytes_eq name) x.values)) at
            ∙ named_at l.values label name (labels_differ _ s.label_sets set l fits.label_sets.labels at) there;
      }

  by_label : (l : LabelSet) (o : Option (List ℕ)) → slice_get s.label_sets set ≡ Some l → slice_get l.values label ≡ o → is_some o ≡ true → HasLabel s set label
  by_label l None at there is = absurd cc
  by_label l (Some name) at there is = label_there l name at there

  by_set : (o : Option LabelSet) → slice_get s.label_sets set ≡ o → is_some (option_and_then (λ (l : LabelSet). slice_get l.values label) o) ≡ true → HasLabel s set label
  by_set None at is = absurd cc
  by_set (Some l) at is = by_label l (slice_get l.values label) at refl is

  pub has_label : is_some (name_of_label s set label) ≡ true → HasLabel s set label
  has_label is = by_set (slice_get s.label_sets set) refl is

  pub label_spelt : (h : HasLabel s set label) → label_text s set label ≡ h.of ++ 58 ∷ h.name
  label_spelt h =
      (λ i. unwrap_or (h.set_is i) [] ++ codes ":" ++ unwrap_or (h.label_is i) [])
      ∙ append_assoc h.of (58 ∷ []) h.name

  -- what is left once the text was cut at its colon
  abbrev label_by : List ℕ × List ℕ → Result Value Slip
  label_by parts = if is_name parts.0 then (do
    found ← ok_or (label_set_named s parts.0) (Flaw NoLabel)
    inside ← ok_or (label_named s found parts.1) (Flaw NoLabel)
    Ok (values.Label found inside)) else Err (Flaw NoValue)

  pub label_read : (h : HasLabel s set label) → label_of s (h.of ++ 58 ∷ h.name) ≡ Ok (values.Label set label)
  unfolding label_of
  label_read h =
      ap (λ o. ok_or o (Flaw NoValue) >>= label_by) (split_at_first 58 h.of h.name (name_has_none h.of h.set_name))
      ∙ rw (h.set_name, h.set_back, h.label_back) refl
