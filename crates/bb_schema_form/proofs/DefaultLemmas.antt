-- What has the form of a document declares defaults of 64 bits, intervals in order.
use Rattle.std.proofs.Common.{◌≡◌, ℕ, ℤ, pos, Bool, true, false, List, [], ◌∷◌, Option, Some, None, Result, Ok, Err, refl, subst}
use Rattle.std.specs.Prelude.{◌&&◌, All, IfOk, codes, int_le, option_map, option_and_then, if◌then◌else◌}
use Rattle.std.specs.Option.{option_map_or}
use Rattle.std.specs.Str.{bytes_eq}
use Rattle.std.proofs.lemmas.List.Elements.{All-nil, All-cons}
use Rattle.serde_json.specs.Data.{Data}
use Rattle.serde_json.specs.Find.{get, as_bool, as_i64, as_number, as_str}
use Rattle.bb_basis.specs.Results.{◌>>=◌, ok_or, try_map, try_map_at, Gives}
use Rattle.bb_basis.proofs.ResultLemmas.{bind_ok, ok_or_ok, same_ok}
use Rattle.bb_basis.proofs.PlacedLemmas.{map_at_ok}
use Rattle.bb_schema_form.specs.declared.fault.DocumentFault.{DocumentFault}
use Rattle.bb_schema_form.specs.declared.fault.DocumentFault.TheVariants.{Memory}
use Rattle.bb_schema_form.specs.Faults.{misshapen, inside}
use Rattle.bb_schema_form.specs.declared.place.ListKey.TheVariants as lists
use Rattle.bb_schema_form.specs.Numbers.{is_i64}
use Rattle.bb_schema_form.specs.Shapes.{is_object_with, as_whole, as_list, text_at, list_at, optional_text_at}
use Rattle.bb_schema_form.specs.declared.document.Document.{Document}
use Rattle.bb_schema_form.specs.Document.{declarations, Declarations, SlotDeclaration, ClassDeclaration, DefaultDeclaration, int_default, text_default, bool_default, label_default, interval_default}
use Rattle.bb_schema_form.specs.Form.{ends_of, as_interval, plain_default_of, label_default_of, default_of, slot_of, link_of, label_set_of, class_of, space_of, declarations_of}
use Rattle.bb_schema_form.specs.Defaults.{IsSound, HasSoundDefaults, HaveSoundDefaults}

-- ---- an answer without a fault, by its parts

by_test : {X E : Type 0} (P : X → Type 0) (b : Bool) (r s : Result X E) (y : X) → (r ≡ Ok y → P y) → (s ≡ Ok y → P y) → (if b then r else s) ≡ Ok y → P y
by_test P true r s y first second h = first h
by_test P false r s y first second h = second h

passes : {X E : Type 0} (b : Bool) (r : Result X E) (e : E) (y : X) → (if b then r else Err e) ≡ Ok y → r ≡ Ok y
passes true r e y h = h
passes false r e y h = absurd cc

mapped : {X Y : Type 0} (P : Y → Type 0) (f : X → Y) (o : Option X) (y : Y) → ((x : X) → o ≡ Some x → P (f x)) → option_map f o ≡ Some y → P y
mapped P f None y each h = absurd cc
mapped P f (Some x) y each h = subst P (let e : f x ≡ y = cc in e) (each x refl)

given_as : {X Y E : Type 0} (P : Y → Type 0) (f : X → Y) (o : Option X) (e : E) (y : Y) → ((x : X) → o ≡ Some x → P (f x)) → ok_or (option_map f o) e ≡ Ok y → P y
given_as P f o e y each h = mapped P f o y each (ok_or_ok e (option_map f o) y h)

All-made : {A X E : Type 0} (P : X → Type 0) (f : A → Result X E) → ((a : A) (x : X) → f a ≡ Ok x → P x) → (items : List A) (made : List X) → try_map f items ≡ Ok made → All P made
unfolding try_map
All-made P f each [] made h = subst (All P) (same_ok [] made h) (All-nil P)
All-made P f each (a ∷ more) made h =
    let one = bind_ok (f a) (λ first. try_map f more >>= λ others. Ok (first ∷ others)) made h in
    let rest = bind_ok (try_map f more) (λ others. Ok (one.0 ∷ others)) made one.2 in
    subst (All P) (same_ok (one.0 ∷ rest.0) made rest.2) (All-cons P one.0 rest.0 (each a one.0 one.1) (All-made P f each more rest.0 rest.1))

-- ---- numbers

whole_by : (z y : ℤ) (b : Bool) → is_i64 z ≡ b → (if b then Some z else None) ≡ Some y → is_i64 y ≡ true
whole_by z y true is h = subst (λ x. is_i64 x ≡ true) (let e : z ≡ y = cc in e) is
whole_by z y false is h = absurd cc

tested : (o : Option ℤ) (y : ℤ) → option_and_then (λ z. if is_i64 z then Some z else None) o ≡ Some y → is_i64 y ≡ true
tested None y h = absurd cc
tested (Some z) y h = whole_by z y (is_i64 z) refl h

whole_sound : (d : Data) (y : ℤ) → as_whole d ≡ Some y → is_i64 y ≡ true
whole_sound d y h = tested (option_and_then as_i64 (as_number d)) y h

int_sound : (given : Option Data) (y : ℤ) → option_map_or as_whole given (Some (pos 0)) ≡ Some y → is_i64 y ≡ true
int_sound None y h = subst (λ z. is_i64 z ≡ true) (let e : pos 0 ≡ y = cc in e) refl
int_sound (Some d) y h = whole_sound d y h

-- ---- an interval

abbrev IsInterval : ℤ × ℤ → Type 0
IsInterval z = (is_i64 z.0 && is_i64 z.1 && int_le z.0 z.1) ≡ true

pair_sound : (lo hi : ℤ) (b : Bool) → int_le lo hi ≡ b → is_i64 lo ≡ true → is_i64 hi ≡ true → (z : ℤ × ℤ) → (if b then Some (lo, hi) else None) ≡ Some z → IsInterval z
pair_sound lo hi true is low high z h = subst IsInterval (let e : (lo, hi) ≡ z = cc in e) (rw (low, high, is) refl)
pair_sound lo hi false is low high z h = absurd cc

both_sound : (x y : Option ℤ) → ((lo : ℤ) → x ≡ Some lo → is_i64 lo ≡ true) → ((hi : ℤ) → y ≡ Some hi → is_i64 hi ≡ true) → (z : ℤ × ℤ) → option_and_then (λ lo. option_and_then (λ hi. if int_le lo hi then Some (lo, hi) else None) y) x ≡ Some z → IsInterval z
both_sound None y low high z h = absurd cc
both_sound (Some lo) None low high z h = absurd cc
both_sound (Some lo) (Some hi) low high z h = pair_sound lo hi (int_le lo hi) refl (low lo refl) (high hi refl) z h

ends_sound : (ds : List Data) (z : ℤ × ℤ) → ends_of ds ≡ Some z → IsInterval z
ends_sound [] z h = absurd cc
ends_sound (a ∷ []) z h = absurd cc
ends_sound (a ∷ b ∷ []) z h = both_sound (as_whole a) (as_whole b) (λ lo e. whole_sound a lo e) (λ hi e. whole_sound b hi e) z h
ends_sound (a ∷ b ∷ c ∷ ds) z h = absurd cc

list_sound : (o : Option (List Data)) (z : ℤ × ℤ) → option_and_then ends_of o ≡ Some z → IsInterval z
list_sound None z h = absurd cc
list_sound (Some ds) z h = ends_sound ds z h

interval_sound : (given : Option Data) (z : ℤ × ℤ) → option_map_or as_interval given (Some (pos 0, pos 0)) ≡ Some z → IsInterval z
interval_sound None z h = subst IsInterval (let e : (pos 0, pos 0) ≡ z = cc in e) refl
interval_sound (Some d) z h = list_sound (as_list d) z h

-- ---- a default, a slot, a class

plain_sound : (kind : List ℕ) (given : Option Data) (y : DefaultDeclaration) → plain_default_of kind given ≡ Ok y → IsSound y
unfolding plain_default_of
plain_sound kind given y h =
    by_test IsSound (bytes_eq kind (codes "int")) _ _ y (λ e. given_as IsSound int_default (option_map_or as_whole given (Some (pos 0))) misshapen y (λ x is. int_sound given x is) e)
    (λ h. by_test IsSound (bytes_eq kind (codes "text")) _ _ y (λ e. given_as IsSound text_default (option_map_or as_str given (Some [])) misshapen y (λ x _. tt) e)
    (λ h. by_test IsSound (bytes_eq kind (codes "bool")) _ _ y (λ e. given_as IsSound bool_default (option_map_or as_bool given (Some false)) misshapen y (λ x _. tt) e)
    (λ h. by_test IsSound (bytes_eq kind (codes "interval")) _ _ y (λ e. given_as IsSound (λ (z : ℤ × ℤ). interval_default z.0 z.1) (option_map_or as_interval given (Some (pos 0, pos 0))) misshapen y (λ z is. interval_sound given z is) e)
    (λ h. absurd cc) h) h) h) h

label_sound : (set : List ℕ) (given : Option Data) (y : DefaultDeclaration) → label_default_of set given ≡ Ok y → IsSound y
unfolding label_default_of
label_sound set given y h = given_as IsSound (label_default set) _ misshapen y (λ x _. tt) h

default_sound : (kind : List ℕ) (set : Option (List ℕ)) (given : Option Data) (y : DefaultDeclaration) → default_of kind set given ≡ Ok y → IsSound y
unfolding default_of
default_sound kind None given y h = plain_sound kind given y h
default_sound kind (Some set) given y h = label_sound set given y (passes (bytes_eq kind (codes "label")) (label_default_of set given) misshapen y h)

slot_sound : (d : Data) (s : SlotDeclaration) → slot_of d ≡ Ok s → IsSound s.default
unfolding slot_of
slot_sound d s h =
    let name = bind_ok (ok_or (text_at (codes "name") d) misshapen) _ s (passes (is_object_with (codes "name" ∷ codes "kind" ∷ codes "of" ∷ codes "default" ∷ []) d) _ misshapen s h) in
    let kind = bind_ok (ok_or (text_at (codes "kind") d) misshapen) _ s name.2 in
    let set = bind_ok (ok_or (optional_text_at (codes "of") d) misshapen) _ s kind.2 in
    let default = bind_ok (default_of kind.0 set.0 (get (codes "default") d)) _ s set.2 in
    subst (λ (e : SlotDeclaration). IsSound e.default) (same_ok (record { name = name.0; default = default.0 }) s default.2) (default_sound kind.0 set.0 (get (codes "default") d) default.0 default.1)

class_sound : (d : Data) (k : ClassDeclaration) → class_of d ≡ Ok k → HasSoundDefaults k
unfolding class_of
class_sound d k h =
    let name = bind_ok (ok_or (text_at (codes "name") d) misshapen) _ k (passes (is_object_with (codes "name" ∷ codes "parent" ∷ codes "slots" ∷ codes "links" ∷ []) d) _ misshapen k h) in
    let parent = bind_ok (ok_or (optional_text_at (codes "parent") d) misshapen) _ k name.2 in
    let given_slots = bind_ok (ok_or (list_at (codes "slots") d) misshapen) _ k parent.2 in
    let slots = bind_ok (try_map_at (inside lists.Slots) slot_of 0 given_slots.0) _ k given_slots.2 in
    let given_links = bind_ok (ok_or (list_at (codes "links") d) misshapen) _ k slots.2 in
    let links = bind_ok (try_map_at (inside lists.Links) link_of 0 given_links.0) _ k given_links.2 in
    subst HasSoundDefaults (same_ok (record { name = name.0; parent = parent.0; slots = slots.0; links = links.0 }) k links.2)
    (All-made (λ s. IsSound s.default) slot_of (λ d s h. slot_sound d s h) given_slots.0 slots.0 (map_at_ok (inside lists.Slots) slot_of 0 given_slots.0 slots.0 slots.1))

-- ---- the document

declarations_sound : (d : Data) (all : Declarations) → declarations_of d ≡ Ok all → HaveSoundDefaults all
unfolding declarations_of
declarations_sound d all h =
    let given_sets = bind_ok (ok_or (list_at (codes "labels") d) misshapen) _ all (passes (is_object_with (codes "labels" ∷ codes "classes" ∷ codes "spaces" ∷ []) d) _ misshapen all h) in
    let label_sets = bind_ok (try_map_at (inside lists.Labels) label_set_of 0 given_sets.0) _ all given_sets.2 in
    let given_classes = bind_ok (ok_or (list_at (codes "classes") d) misshapen) _ all label_sets.2 in
    let classes = bind_ok (try_map_at (inside lists.Classes) class_of 0 given_classes.0) _ all given_classes.2 in
    let given_spaces = bind_ok (ok_or (list_at (codes "spaces") d) misshapen) _ all classes.2 in
    let spaces = bind_ok (try_map_at (inside lists.Spaces) space_of 0 given_spaces.0) _ all given_spaces.2 in
    subst HaveSoundDefaults (same_ok (record { label_sets = label_sets.0; classes = classes.0; spaces = spaces.0 }) all spaces.2)
    (All-made HasSoundDefaults class_of (λ d k h. class_sound d k h) given_classes.0 classes.0 (map_at_ok (inside lists.Classes) class_of 0 given_classes.0 classes.0 classes.1))

pub read_sound : (d : Data) (r : Result Document DocumentFault) → Gives Memory declarations r (declarations_of d) → IfOk r (λ document. HaveSoundDefaults (declarations document))
read_sound d (Ok document) gives = declarations_sound d (declarations document) gives
read_sound d (Err e) gives = tt
