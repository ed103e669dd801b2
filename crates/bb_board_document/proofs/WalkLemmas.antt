-- The walk over the units of a document: it creates each unit under its new number, with its values.
use Rattle.std.proofs.Common.{◌≡◌, ℕ, suc, ◌+◌, ◌<◌, ◌≤◌, ◌^◌, Bool, true, false, cond, List, [], ◌∷◌, ◌++◌, map, length, Some, None, Ok, refl, sym, ap, subst, ◌∙◌, arith, append_assoc, length-append, ne_eqb}
use Rattle.std.specs.Prelude.{◌==◌, slice_get, option_map, option_and_then, is_some, unwrap_or, decimal, nat_eq}
use Rattle.std.specs.List.{IsDistinct}
use Rattle.std.specs.Map.{keys_of}
use Rattle.std.specs.Str.{bytes_eq}
use Rattle.std.proofs.lemmas.List.{append-nil, length-map}
use Rattle.std.specs.Ordering.{nat_cmp, eq_by_cmp}
use Rattle.std.specs.Cmp.{nat_cmp_total, unsigned_tied}
use Rattle.std.specs.Cmp.Lexicographic.{slice_cmp, nat_list_cmp_total, bytes_decides}
use Rattle.std.specs.FinMap as fin
use Rattle.std.proofs.lemmas.Bool.{eqb-true, eqb-false}
use Rattle.std.proofs.lemmas.Bool.Decides.{nat_tests}
use Rattle.std.proofs.lemmas.Fmt.{decimal_injective}
use Rattle.std.proofs.lemmas.Map.Text.{is_eq-slice_cmp}
use Rattle.bb_basis.specs.Results.{◌>>=◌, map_err, try_fold, try_fold_at}
use Rattle.bb_basis.proofs.ListLemmas.{map-last}
use Rattle.bb_schema_form.specs.UnitsDocument.{GivenDeclaration, UnitDeclaration, givens_of}
use Rattle.bb_schema_form.specs.declared.place.ListKey.TheVariants as lists
use Rattle.bb_schema_classes.specs.declared.class.Class.{Class}
use Rattle.bb_schema_classes.specs.Inheritance.{is_among}
use Rattle.bb_schema.specs.Schema.{Schema, class_named, slots_of}
use Rattle.bb_schema.specs.Fits as schemas
use Rattle.bb_units.specs.declared.unit.Unit.{Unit as OneUnit}
use Rattle.bb_units.specs.declared.units.TheConstants.{UNIT_LIMIT}
use Rattle.bb_units.specs.Values.{value_at}
use Rattle.bb_units.specs.Layout.{Layout, layout_of, blank}
use Rattle.bb_units.specs.Units.{Units, is_full, value_of, after_create as with_new_unit}
use Rattle.bb_units.specs.Fits.{IsUnitOf}
use Rattle.bb_links.specs.Couples.{no_links}
use Rattle.bb_space.specs.Spaces.{no_spaces}
use Rattle.bb_board.specs.UnitsFaults.{inside}
use Rattle.bb_board.specs.Load.{Progress, are_slots, slot_after, with_unit, with_values, entry_after}
use Rattle.bb_board.specs.Fits.{Fits}
use Rattle.bb_board.specs.State.{World}
use Rattle.bb_board.specs.World.{class_at, after_create}
use Rattle.bb_native.specs.Sight.{Sight}
use Rattle.bb_board_document.specs.Renumbered.{renamed}
use Rattle.bb_board_document.proofs.NameLemmas.{eq_itself, class_back}
use Rattle.bb_board_document.proofs.FormLemmas.{given_members, class_name, unit_declared}
use Rattle.bb_board_document.proofs.GivenLemmas.{class_slots, fits_class, given_slots, at_within}
use Rattle.bb_board_document.proofs.SetLemmas.{blank_is, HasUnit}
use Rattle.bb_board_document.proofs.BlankLemmas.{givens, set_back}
use Rattle.bb_board_document.proofs.EntryLemmas.{get_here, renamed_here}

-- ---- names

same_name : (i k : ℕ) → i < 2 ^ 64 → k < 2 ^ 64 → eq_by_cmp (slice_cmp nat_cmp) (decimal i) (decimal k) ≡ (i == k)
same_name i k one other = is_eq-slice_cmp (decimal i) (decimal k) ∙ by (bytes_eq (decimal i) (decimal k)) refl (i == k) refl
  where
    by : (b : Bool) → bytes_eq (decimal i) (decimal k) ≡ b → (c : Bool) → (i == k) ≡ c → b ≡ c
    by true h true g = refl
    by false h false g = refl
    by true h false g = absurd (eqb-false i k g (decimal_injective i k one other ((bytes_decides (decimal i) (decimal k)).0 h)))
    by false h true g = let e : true ≡ false = sym (eq_itself (decimal i)) ∙ (ap (λ j. bytes_eq (decimal i) (decimal j)) (eqb-true i k g) ∙ h) in cc

-- ---- one entry

entry_done : (s : Schema) (p : Progress) (entry : UnitDeclaration) (c : ℕ) (v : World) → fin.contains_key p.names entry.name ≡ false → class_named s entry.class ≡ Some c → is_full p.world.units ≡ false
    → with_values s p.world.units.next c entry.slots (after_create p.world c) ≡ Ok v → entry_after s p entry ≡ Ok (record { names = fin.insert p.names entry.name p.world.units.next; world = v })
unfolding entry_after with_unit
entry_done s p entry c v fresh class room values = rw (fresh, class, room, values) refl

values_done : (s : Schema) (number c : ℕ) (given : List GivenDeclaration) (w v : World) → are_slots s c given ≡ true → try_fold (slot_after s number given) w (slots_of s c) ≡ Ok v → with_values s number c given w ≡ Ok v
unfolding with_values
values_done s number c given w v ordinary set = rw ordinary set

module _ (seen : Sight) (schema_fits : schemas.Fits seen.schema) (fits : Fits seen.schema seen.world) where
  abbrev m : fin.FinMap nat_cmp OneUnit
  m = seen.world.units.units

  abbrev Entries : Type 0
  Entries = List (ℕ × OneUnit)

  -- entries under the new numbers
  abbrev pub under_new : Entries → Entries
  under_new es = map (λ e. (renamed seen.world e.0, e.1)) es

  -- how far the walk has come
  pub record Reached (pre : Entries) (p : Progress) : Type 0 where
    pub units : p.world.units ≡ record { next = length pre + 1; units = fin.from_entries (under_new pre); layout = layout_of seen.schema }
    pub count : fin.len (fin.from_entries {R = nat_cmp} (under_new pre)) ≡ length pre
    pub above : (i : ℕ) → length pre < i → fin.get (fin.from_entries {R = nat_cmp} (under_new pre)) i ≡ None
    pub links : p.world.links ≡ no_links seen.schema
    pub spaces : p.world.spaces ≡ no_spaces seen.schema
    pub known : (i : ℕ) → 0 < i → i ≤ length pre → fin.get p.names (decimal i) ≡ Some i
    pub fresh : (i : ℕ) → length pre < i → i < 2 ^ 64 → fin.get p.names (decimal i) ≡ None

  module _ (pre : Entries) (e : ℕ × OneUnit) (post : Entries) (p : Progress) (is : pre ++ e ∷ post ≡ fin.entries m) (reached : Reached pre p) where
    abbrev number : ℕ
    number = length pre + 1

    abbrev base : fin.FinMap nat_cmp OneUnit
    base = fin.from_entries (under_new pre)

    few : length pre < 65536
    few =
        let limit : fin.len m ≤ UNIT_LIMIT = fits.units.few in
        let all : fin.len m ≡ length pre + suc (length post) = fin.len-entries m ∙ (ap length (sym is) ∙ length-append pre (e ∷ post)) in
        omega (arith, limit, all)

    entry_held : fin.get m e.0 ≡ Some e.1
    entry_held = get_here m pre e post is

    unit_fits : IsUnitOf (layout_of seen.schema) e.1
    unit_fits = subst (λ (l : Layout). IsUnitOf l e.1) fits.layout (fits.units.units e.0 e.1 entry_held)

    class_within : e.1.class < length seen.schema.classes
    class_within = let lt = unit_fits.class in omega (arith, lt, length-map seen.schema.classes (λ (k : Class). k.slots))

    k : Class
    k = (at_within seen.schema.classes e.1.class class_within).0

    k_at : slice_get seen.schema.classes e.1.class ≡ Some k
    unfolding k
    k_at = (at_within seen.schema.classes e.1.class class_within).1

    class_is : class_at seen.world e.0 ≡ e.1.class
    class_is = ap (λ o. unwrap_or (option_map (λ (x : OneUnit). x.class) o) 0) entry_held

    named : renamed seen.world e.0 ≡ number
    named = renamed_here seen.world m pre e post refl is

    next_is : p.world.units.next ≡ number
    next_is = ap (λ (u : Units). u.next) reached.units

    value_is : (slot : ℕ) → value_of seen.world.units e.0 slot ≡ value_at e.1.values slot
    value_is slot = ap (option_and_then (λ (x : OneUnit). value_at x.values slot)) entry_held

    created : HasUnit seen.schema e.1.class number base (blank (layout_of seen.schema) e.1.class) (after_create p.world e.1.class)
    created = record {
      units = ap (λ (u : Units). with_new_unit u e.1.class) reached.units;
      links = reached.links;
      spaces = reached.spaces;
    }

    set_all : (z : World) × (try_fold (slot_after seen.schema number (givens seen schema_fits e.0 e.1 k k_at value_is unit_fits.values number base)) (after_create p.world e.1.class) (slots_of seen.schema e.1.class) ≡ Ok z) × HasUnit seen.schema e.1.class number base e.1.values z
    set_all = set_back seen schema_fits e.0 e.1 k k_at value_is unit_fits.values number base
        (slots_of seen.schema e.1.class) [] e.1.values (after_create p.world e.1.class) refl
        (unit_fits.slots ∙ ap keys_of (blank_is seen.schema e.1.class))
        (subst (λ ns. IsDistinct nat_eq ns) (sym (class_slots seen schema_fits e.0 e.1.class k k_at)) (fits_class seen schema_fits e.0 e.1.class k k_at).distinct)
        (λ u h. refl) (λ u h. ap (λ ns. is_among ns u) (sym (class_slots seen schema_fits e.0 e.1.class k k_at)) ∙ h)
        (subst (λ vs. HasUnit seen.schema e.1.class number base vs (after_create p.world e.1.class)) (blank_is seen.schema e.1.class) created)

    pub after : Progress
    after = record { names = fin.insert p.names (decimal number) number; world = set_all.0 }

    abbrev entry : UnitDeclaration
    entry = unit_declared seen e.0

    name_is : entry.name ≡ decimal number
    name_is = ap decimal named

    class_there : class_named seen.schema entry.class ≡ Some e.1.class
    class_there =
        ap (λ c. class_named seen.schema (class_name seen c)) class_is
        ∙ (ap (λ o. class_named seen.schema (unwrap_or (option_map (λ (x : Class). x.name) o) [])) k_at
        ∙ class_back seen.schema schema_fits e.1.class k k_at)

    unused : fin.contains_key p.names entry.name ≡ false
    unused = ap is_some (ap (fin.get p.names) name_is ∙ reached.fresh number (omega arith) (let lt = few in omega (arith, lt)))

    room : is_full p.world.units ≡ false
    room = ap is_full reached.units ∙ rw reached.count (let lt = few in grind (arith, nat_tests))

    slots_same : entry.slots ≡ givens seen schema_fits e.0 e.1 k k_at value_is unit_fits.values number base
    slots_same = ap (λ c. givens_of (given_members seen e.0 c)) class_is

    values_set : with_values seen.schema p.world.units.next e.1.class entry.slots (after_create p.world e.1.class) ≡ Ok set_all.0
    values_set =
        ap (λ i. with_values seen.schema i e.1.class entry.slots (after_create p.world e.1.class)) next_is
        ∙ (ap (λ g. with_values seen.schema number e.1.class g (after_create p.world e.1.class)) slots_same
        ∙ values_done seen.schema number e.1.class _ (after_create p.world e.1.class) set_all.0 (given_slots seen schema_fits e.0 e.1.class k k_at) set_all.1)

    pub one_entry : entry_after seen.schema p entry ≡ Ok after
    unfolding after
    one_entry =
        entry_done seen.schema p entry e.1.class set_all.0 unused class_there room values_set
        ∙ (ap (λ i. Ok (let q : Progress = record { names = fin.insert p.names entry.name i; world = set_all.0 } in q)) next_is
        ∙ ap (λ name. Ok (let q : Progress = record { names = fin.insert p.names name number; world = set_all.0 } in q)) name_is)

    -- ---- what holds then

    pushed : under_new (pre ++ e ∷ []) ≡ under_new pre ++ (number, e.1) ∷ []
    pushed = map-last (λ (f : ℕ × OneUnit). (renamed seen.world f.0, f.1)) pre e ∙ ap (λ i. under_new pre ++ (i, e.1) ∷ []) named

    inserted : fin.from_entries (under_new (pre ++ e ∷ [])) ≡ fin.insert base number e.1
    inserted =
        ap (λ es. fin.from_entries {R = nat_cmp} es) pushed
        ∙ fin.from_entries_push nat_cmp_total fin.nat_cmp-IsAntisymmetric (under_new pre) number e.1
        (sym (fin.get-from_entries nat_cmp_total (under_new pre) number) ∙ reached.above number (omega arith))

    longer : length (pre ++ e ∷ []) ≡ number
    longer = length-append pre (e ∷ []) ∙ omega arith

    count_by : fin.len (fin.insert base number e.1) ≡ number
    count_by =
        fin.len-insert nat_cmp_total base number e.1
        ∙ rw (reached.above number (omega arith), reached.count) refl

    above_by : (i : ℕ) → number < i → fin.get (fin.insert base number e.1) i ≡ None
    above_by i lt =
        fin.get-insert nat_cmp_total base number e.1 i
        ∙ rw (unsigned_tied i number, ne_eqb i number (λ same. omega (arith, lt, same))) (reached.above i (omega (arith, lt)))

    known_by : (i : ℕ) → 0 < i → i ≤ number → fin.get (fin.insert p.names (decimal number) number) (decimal i) ≡ Some i
    known_by i low le =
        fin.get-insert nat_list_cmp_total p.names (decimal number) number (decimal i)
        ∙ rw (same_name i number (let lt = few in omega (arith, lt, le)) (let lt = few in omega (arith, lt))) (by (i == number) refl)
      where
        by : (b : Bool) → (i == number) ≡ b → cond b (Some number) (fin.get p.names (decimal i)) ≡ Some i
        by true h = ap Some (sym (eqb-true i number h))
        by false h = let apart = eqb-false i number h in reached.known i low (omega (arith, le, apart))

    fresh_by : (i : ℕ) → number < i → i < 2 ^ 64 → fin.get (fin.insert p.names (decimal number) number) (decimal i) ≡ None
    fresh_by i lt below =
        fin.get-insert nat_list_cmp_total p.names (decimal number) number (decimal i)
        ∙ rw (same_name i number below (let small = few in omega (arith, small)), ne_eqb i number (λ same. omega (arith, lt, same))) (reached.fresh i (omega (arith, lt)) below)

    pub reached_more : Reached (pre ++ e ∷ []) after
    unfolding after
    reached_more = record {
      units =
          set_all.2.units
          ∙ (ap (λ (t : fin.FinMap nat_cmp OneUnit). (let u : Units = record { next = number + 1; units = t; layout = layout_of seen.schema } in u)) (sym inserted)
          ∙ ap (λ i. (let u : Units = record { next = i + 1; units = fin.from_entries (under_new (pre ++ e ∷ [])); layout = layout_of seen.schema } in u)) (sym longer));
      count = ap fin.len inserted ∙ (count_by ∙ sym longer);
      above = λ i lt. ap (λ (t : fin.FinMap nat_cmp OneUnit). fin.get t i) inserted ∙ above_by i (omega (arith, longer, lt));
      links = set_all.2.links;
      spaces = set_all.2.spaces;
      known = λ i low le. known_by i low (omega (arith, longer, le));
      fresh = λ i lt below. fresh_by i (omega (arith, longer, lt)) below;
    }

  -- ---- all entries

  pub walk : (pre post : Entries) (p : Progress) (at : ℕ) → pre ++ post ≡ fin.entries m → Reached pre p
      → (q : Progress) × (try_fold_at (inside lists.Units) (entry_after seen.schema) at p (map (λ (e : ℕ × OneUnit). unit_declared seen e.0) post) ≡ Ok q) × Reached (fin.entries m) q
  unfolding try_fold_at
  walk pre [] p at is reached = (p, refl, subst (λ es. Reached es p) (sym (append-nil pre) ∙ is) reached)
  walk pre (e ∷ post) p at is reached =
      let rest = walk (pre ++ e ∷ []) post (after pre e post p is reached) (suc at) (append_assoc pre (e ∷ []) post ∙ is) (reached_more pre e post p is reached) in
      (rest.0, ap (λ r. map_err (inside lists.Units at) r >>= λ next. try_fold_at (inside lists.Units) (entry_after seen.schema) (suc at) next (map (λ (f : ℕ × OneUnit). unit_declared seen f.0) post)) (one_entry pre e post p is reached) ∙ rest.1, rest.2)
