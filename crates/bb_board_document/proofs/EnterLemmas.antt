-- The walk over the members of spaces: each unit enters each of its spaces under its new number.
use Rattle.std.proofs.Common.{◌≡◌, ℕ, suc, ◌+◌, ◌<◌, ◌≤◌, Bool, true, false, cond, ◌||◌, ◌==◌, List, [], ◌∷◌, ◌++◌, map, length, Option, Some, None, Result, Ok, refl, sym, ap, subst, ◌∙◌, arith, append_assoc, length-append, rules}
use Rattle.std.specs.Prelude.{slice_get, option_map, option_and_then, is_some, unwrap_or, IfSome, IsTrue, filter, nat_le}
use Rattle.std.specs.List.{AllByRecursion, flat_map}
use Rattle.std.specs.Option.{option_map_or}
use Rattle.std.specs.Ordering.{nat_cmp, eq_by_cmp}
use Rattle.std.specs.Cmp.{nat_cmp_total, unsigned_tied}
use Rattle.std.specs.Cmp.Lexicographic.{slice_cmp}
use Rattle.std.specs.FinMap as fin
use Rattle.std.proofs.lemmas.Bool.{eqb-true, eqb-false, leb-true, leb-false}
use Rattle.std.proofs.lemmas.List.{append-nil}
use Rattle.std.proofs.lemmas.List.Folds.{list_any-append}
use Rattle.bb_basis.proofs.BoolLemmas.{or_false}
use Rattle.bb_basis.specs.Results.{◌>>=◌, map_err, try_fold_at}
use Rattle.bb_schema_form.specs.UnitsDocument.{MemberDeclaration}
use Rattle.bb_schema_form.specs.declared.place.ListKey.TheVariants as lists
use Rattle.bb_schema.specs.declared.space.Space.{Space}
use Rattle.bb_schema.specs.Schema.{space_named}
use Rattle.bb_schema.specs.Spaces.{allowed}
use Rattle.bb_schema.specs.Fits as schemas
use Rattle.bb_units.specs.declared.unit.Unit.{Unit as OneUnit}
use Rattle.bb_units.specs.Values.{value_at}
use Rattle.bb_units.specs.Units.{Units, is_live, class_of, value_of}
use Rattle.bb_links.specs.Couples.{Couples}
use Rattle.bb_space.specs.Spaces.{Membership, Spaces, membership, is_member, values_in, spaces_of, after_enter as with_member}
use Rattle.bb_query.specs.PresentValues.{present_values}
use Rattle.bb_board.specs.declared.units_fault.UnitsFault.{UnitsFault}
use Rattle.bb_board.specs.UnitsFaults.{inside}
use Rattle.bb_board.specs.Load.{member_after}
use Rattle.bb_board.specs.State.{World}
use Rattle.bb_board.specs.World.{class_at}
use Rattle.bb_board.specs.Spaces.{may_enter, after_enter}
use Rattle.bb_board.specs.Fits.{Fits}
use Rattle.bb_native.specs.Sight.{Sight}
use Rattle.bb_board_document.specs.Renumbered.{renamed, with_new_keys}
use Rattle.bb_board_document.specs.Document.{name_of}
use Rattle.bb_board_document.proofs.NameLemmas.{space_back}
use Rattle.bb_board_document.proofs.GivenLemmas.{at_within}
use Rattle.bb_board_document.proofs.FormLemmas.{space_name, member_declared}
use Rattle.bb_board_document.proofs.PlaceLemmas.{Lives, held_new, number_within}
use Rattle.bb_board_document.proofs.EntryLemmas.{get_here, renamed_here}
use Rattle.bb_board_document.proofs.LinkLemmas.{loaded_units, live_new}
use Rattle.bb_board_document.proofs.MemberLemmas.{Values, here_space, here_other, other_unit, count_kept, among, member_within, among_spaces, same_present, new_at, new_none}

module _ (seen : Sight) (schema_fits : schemas.Fits seen.schema) (fits : Fits seen.schema seen.world) (names : fin.FinMap (slice_cmp nat_cmp) ℕ)
    (known : (n : ℕ) → Lives seen.world n → fin.get names (name_of seen n) ≡ Some (renamed seen.world n)) (next : ℕ) where
  abbrev loaded : Units
  loaded = loaded_units seen schema_fits fits names known next

  abbrev Step : World → MemberDeclaration → Result World UnitsFault
  Step = member_after seen.schema names

  -- the members that a space has in the end
  abbrev target : (space : ℕ) → Membership
  target space = with_new_keys seen.world (membership seen.world.spaces space)

  -- ---- one entry

  done_by : (v : World) (e : MemberDeclaration) (k space : ℕ) → fin.get names e.unit ≡ Some k → space_named seen.schema e.space ≡ Some space → may_enter seen.schema v k space ≡ Ok tt → Step v e ≡ Ok (after_enter seen.schema v k space)
  unfolding member_after
  done_by v e k space unit named may = rw (unit, named, may) refl

  may_by : (v : World) (k space : ℕ) → is_live v.units k ≡ true → allowed seen.schema space (class_at v k) ≡ true → may_enter seen.schema v k space ≡ Ok tt
  may_by v k space live admitted = rw (live, admitted) refl

  is_there : (space n : ℕ) (o : Option Values) → values_in seen.world.spaces space n ≡ o → is_some o ≡ true → (vs : Values) × (values_in seen.world.spaces space n ≡ Some vs)
  is_there space n None h is = absurd cc
  is_there space n (Some vs) h is = (vs, h)

  module _ (n : ℕ) (l : Lives seen.world n) where
    abbrev number : ℕ
    number = renamed seen.world n

    class_is : class_of seen.world.units n ≡ Some l.unit.class
    class_is = ap (option_map (λ (x : OneUnit). x.class)) l.held

    class_loaded : class_of loaded number ≡ Some l.unit.class
    class_loaded = ap (option_map (λ (x : OneUnit). x.class)) (held_new seen.world n l)

    value_loaded : (slot : ℕ) → value_of seen.world.units n slot ≡ value_of loaded number slot
    value_loaded slot = ap (option_and_then (λ (x : OneUnit). value_at x.values slot)) (l.held ∙ sym (held_new seen.world n l))

    present : (space : ℕ) → present_values seen.schema seen.world.units n space ≡ present_values seen.schema loaded number space
    present space = same_present seen.schema seen.world.units loaded n number space (class_is ∙ sym class_loaded) value_loaded

    admits : (space : ℕ) → is_member seen.world.spaces space n ≡ true → allowed seen.schema space l.unit.class ≡ true
    admits space is =
        let vs = is_there space n (values_in seen.world.spaces space n) refl is in
        let admitted = subst (λ o. IfSome o (λ class. IsTrue (allowed seen.schema space class))) class_is (fits.spaces.admitted space n vs.0 vs.1) in
        search (rules, admitted)

    named : (space : ℕ) → is_member seen.world.spaces space n ≡ true → space_named seen.schema (space_name seen space) ≡ Some space
    named space is =
        let lt = member_within seen.world.spaces space n is in
        let count = fits.spaces.spaces in
        let p = at_within seen.schema.spaces space (omega (arith, lt, count)) in
        ap (λ o. space_named seen.schema (unwrap_or (option_map (λ (x : Space). x.name) o) [])) p.1 ∙ space_back seen.schema schema_fits space p.0 p.1

    one_member : (v : World) (space : ℕ) → v.units ≡ loaded → is_member seen.world.spaces space n ≡ true → Step v (member_declared seen n space) ≡ Ok (after_enter seen.schema v number space)
    one_member v space units is =
        done_by v (member_declared seen n space) number space (known n l) (named space is)
        (may_by v number space (live_new seen schema_fits fits names known next v.units n units l)
        (ap (λ (u : Units). allowed seen.schema space (unwrap_or (class_of u number) 0)) units
        ∙ (ap (λ o. allowed seen.schema space (unwrap_or o 0)) class_loaded ∙ admits space is)))

    -- ---- the unit in some of its spaces

    abbrev values : (space : ℕ) → Values
    values space = present_values seen.schema loaded number space

    record Inside (start : World) (done : List ℕ) (v : World) : Type 0 where
      units : v.units ≡ loaded
      links : v.links ≡ start.links
      count : length v.spaces.spaces ≡ length seen.world.spaces.spaces
      here : (space : ℕ) → values_in v.spaces space number ≡ cond (among space done) (Some (values space)) None
      others : (space q : ℕ) → (q ≡ number → ⊥) → values_in v.spaces space q ≡ values_in start.spaces space q

    -- one more space
    among_last : (done : List ℕ) (space j : ℕ) → among j (done ++ space ∷ []) ≡ (among j done || (eq_by_cmp nat_cmp j space || false))
    among_last done space j = list_any-append (eq_by_cmp nat_cmp j) done (space ∷ [])

    module _ (start : World) (done : List ℕ) (v : World) (has : Inside start done v) (space : ℕ) (is : is_member seen.world.spaces space n ≡ true) where
      space_there : (m : Membership) × (slice_get v.spaces.spaces space ≡ Some m)
      space_there = at_within v.spaces.spaces space (let lt = member_within seen.world.spaces space n is in let count = has.count in omega (arith, lt, count))

      space_within : space < length v.spaces.spaces
      space_within = let lt = member_within seen.world.spaces space n is in let count = has.count in omega (arith, lt, count)

      was_member : is_member v.spaces space number ≡ among space done
      was_member = ap is_some (has.here space) ∙ by (among space done)
        where
          by : (b : Bool) → is_some (cond b (Some (values space)) (let o : Option Values = None in o)) ≡ b
          by true = refl
          by false = refl

      same_among : among space done ≡ true → (j : ℕ) → (among j done || (eq_by_cmp nat_cmp j space || false)) ≡ among j done
      same_among h j = by (eq_by_cmp nat_cmp j space) refl
        where
          by : (b : Bool) → eq_by_cmp nat_cmp j space ≡ b → (among j done || (b || false)) ≡ among j done
          by false g = or_false (among j done)
          by true g =
              let e : j ≡ space = eqb-true j space (sym (unsigned_tied j space) ∙ g) in
              rw (e, h) refl

      again : among space done ≡ true → Inside start (done ++ space ∷ []) (after_enter seen.schema v number space)
      again h =
          let stays : after_enter seen.schema v number space ≡ v = rw (was_member, h) refl in
          subst (λ x. Inside start (done ++ space ∷ []) x) (sym stays) (record {
            units = has.units;
            links = has.links;
            count = has.count;
            here = λ j. has.here j ∙ ap (λ b. cond b (Some (values j)) None) (sym (among_last done space j ∙ same_among h j));
            others = has.others;
          })

      abbrev entered : Spaces
      entered = with_member v.spaces space number (present_values seen.schema v.units number space)

      here_by : among space done ≡ false → (j : ℕ) (b : Bool) → (j == space) ≡ b → values_in entered j number ≡ cond (among j done || (b || false)) (Some (values j)) None
      here_by h j true same =
          let e : j ≡ space = eqb-true j space same in
          rw (e, h) (here_space v.spaces space number (present_values seen.schema v.units number space) space_there.0 space_there.1 space_within (was_member ∙ h)
          ∙ ap (λ (u : Units). Some (present_values seen.schema u number space)) has.units)
      here_by h j false other =
          here_other v.spaces space number (present_values seen.schema v.units number space) space_there.0 space_there.1 space_within (was_member ∙ h) j number (λ e. eqb-false j space other (sym e))
          ∙ (has.here j ∙ ap (λ b. cond b (Some (values j)) None) (sym (or_false (among j done))))

      others_by : among space done ≡ false → (j q : ℕ) (b : Bool) → (space == j) ≡ b → (q ≡ number → ⊥) → values_in entered j q ≡ values_in v.spaces j q
      others_by h j q true same other =
          let e : space ≡ j = eqb-true space j same in
          subst (λ i. values_in entered i q ≡ values_in v.spaces i q) e
          (other_unit v.spaces space number (present_values seen.schema v.units number space) space_there.0 space_there.1 space_within (was_member ∙ h) q other)
      others_by h j q false apart other =
          here_other v.spaces space number (present_values seen.schema v.units number space) space_there.0 space_there.1 space_within (was_member ∙ h) j q (eqb-false space j apart)

      anew : among space done ≡ false → Inside start (done ++ space ∷ []) (after_enter seen.schema v number space)
      anew h =
          let makes : (after_enter seen.schema v number space).spaces ≡ entered = rw (was_member, h) refl in
          record {
            units = ap (λ (x : Units). x) (rw (was_member, h) refl) ∙ has.units;
            links = ap (λ (x : Couples). x) (rw (was_member, h) refl) ∙ has.links;
            count = ap (λ (t : Spaces). length t.spaces) makes ∙ (count_kept v.spaces space number (present_values seen.schema v.units number space) space_there.0 space_there.1 space_within (was_member ∙ h) ∙ has.count);
            here = λ j. ap (λ (t : Spaces). values_in t j number) makes
                ∙ (here_by h j (j == space) refl
                ∙ ap (λ b. cond b (Some (values j)) None) (sym (among_last done space j ∙ ap (λ b. among j done || (b || false)) (unsigned_tied j space))));
            others = λ j q other. ap (λ (t : Spaces). values_in t j q) makes ∙ (others_by h j q (space == j) refl other ∙ has.others j q other);
          }

      inside_after_enter : Inside start (done ++ space ∷ []) (after_enter seen.schema v number space)
      inside_after_enter = by (among space done) refl
        where
          by : (b : Bool) → among space done ≡ b → Inside start (done ++ space ∷ []) (after_enter seen.schema v number space)
          by true h = again h
          by false h = anew h

    -- the walk over its spaces, with what comes after
    record Enters (at : ℕ) (start v : World) (done : List ℕ) (es more : List MemberDeclaration) : Type 0 where
      next_at : ℕ
      left : World
      same : try_fold_at (inside lists.Spaces) Step at v (es ++ more) ≡ try_fold_at (inside lists.Spaces) Step next_at left more
      has : Inside start done left

    enters_next : (at : ℕ) (start v v' : World) (done : List ℕ) (e : MemberDeclaration) (es more : List MemberDeclaration) → Step v e ≡ Ok v' → Enters (suc at) start v' done es more → Enters at start v done (e ∷ es) more
    unfolding try_fold_at
    enters_next at start v v' done e es more one g = record {
      next_at = g.next_at;
      left = g.left;
      same = ap (λ r. map_err (inside lists.Spaces at) r >>= λ t. try_fold_at (inside lists.Spaces) Step (suc at) t (es ++ more)) one ∙ g.same;
      has = g.has;
    }

    spaces_walk : (rest done : List ℕ) (at : ℕ) (start v : World) (more : List MemberDeclaration) → AllByRecursion (λ space. is_member seen.world.spaces space n ≡ true) rest → Inside start done v
        → Enters at start v (done ++ rest) (map (member_declared seen n) rest) more
    spaces_walk [] done at start v more all has = record { next_at = at; left = v; same = refl; has = subst (λ ds. Inside start ds v) (sym (append-nil done)) has }
    spaces_walk (space ∷ rest) done at start v more all has =
        let after = after_enter seen.schema v number space in
        subst (λ ds. Enters at start v ds (map (member_declared seen n) (space ∷ rest)) more) (append_assoc done (space ∷ []) rest)
        (enters_next at start v after ((done ++ space ∷ []) ++ rest) (member_declared seen n space) (map (member_declared seen n) rest) more (one_member v space has.units all.0)
        (spaces_walk rest (done ++ space ∷ []) (suc at) start after more all.1 (inside_after_enter start done v has space all.0)))

  -- ---- all units

  passes_all : (p : ℕ → Bool) (ns : List ℕ) → AllByRecursion (λ n. p n ≡ true) (filter p ns)
  passes_all p [] = tt
  passes_all p (n ∷ ns) = by (p n) refl (passes_all p ns)
    where
      by : (b : Bool) → p n ≡ b → AllByRecursion (λ m. p m ≡ true) (filter p ns) → AllByRecursion (λ m. p m ≡ true) (cond b (n ∷ filter p ns) (filter p ns))
      by true h rest = (h, rest)
      by false h rest = rest

  abbrev UnitEntries : Type 0
  UnitEntries = List (ℕ × OneUnit)

  abbrev m : fin.FinMap nat_cmp OneUnit
  m = seen.world.units.units

  -- the units of a front of all are in their spaces, and no others
  pub record Entered (start : World) (pre : UnitEntries) (v : World) : Type 0 where
    pub units : v.units ≡ loaded
    pub links : v.links ≡ start.links
    pub count : length v.spaces.spaces ≡ length seen.world.spaces.spaces
    pub same : (space q : ℕ) → q ≤ length pre → values_in v.spaces space q ≡ fin.get (target space) q
    pub none : (space q : ℕ) → length pre < q → values_in v.spaces space q ≡ None

  abbrev pub declared_members : List ℕ → List MemberDeclaration
  declared_members ns = flat_map (λ n. map (member_declared seen n) (spaces_of seen.world.spaces n)) ns

  members_live : (space n : ℕ) (vs : Values) → fin.get (membership seen.world.spaces space) n ≡ Some vs → is_live seen.world.units n ≡ true
  members_live space n vs held = fits.spaces.live space n vs held

  module _ (start : World) (pre : UnitEntries) (e : ℕ × OneUnit) (post : UnitEntries) (v : World) (is : pre ++ e ∷ post ≡ fin.entries m) (has : Entered start pre v) where
    lives_here : Lives seen.world e.0
    lives_here = record { unit = e.1; held = get_here m pre e post is; placed = record { pre = pre; post = post; is = is } }

    number_is : renamed seen.world e.0 ≡ length pre + 1
    number_is = renamed_here seen.world m pre e post refl is

    outside : Inside e.0 lives_here v [] v
    outside = record {
      units = has.units;
      links = refl;
      count = has.count;
      here = λ space. has.none space (renamed seen.world e.0) (omega (arith, number_is));
      others = λ space q other. refl;
    }

    unit_walk : (at : ℕ) (more : List MemberDeclaration) → Enters e.0 lives_here at v v (spaces_of seen.world.spaces e.0) (map (member_declared seen e.0) (spaces_of seen.world.spaces e.0)) more
    unit_walk at more = spaces_walk e.0 lives_here (spaces_of seen.world.spaces e.0) [] at v v more (passes_all (λ space. is_member seen.world.spaces space e.0) _) outside

    -- what the unit has in a space then
    has_by : (space : ℕ) (o : Option Values) → values_in seen.world.spaces space e.0 ≡ o → cond (is_some o) (Some (values e.0 lives_here space)) None ≡ o
    has_by space None h = refl
    has_by space (Some vs) h = ap Some (sym (fits.spaces.told space e.0 vs h ∙ present e.0 lives_here space))

    held_then : (left : World) → Inside e.0 lives_here v (spaces_of seen.world.spaces e.0) left → (space : ℕ) → values_in left.spaces space (renamed seen.world e.0) ≡ fin.get (target space) (renamed seen.world e.0)
    held_then left inside_it space =
        inside_it.here space
        ∙ (ap (λ b. cond b (Some (values e.0 lives_here space)) None) (among_spaces seen.world.spaces e.0 space)
        ∙ (has_by space (values_in seen.world.spaces space e.0) refl
        ∙ sym (new_at seen.world (membership seen.world.spaces space) (members_live space) e.0 lives_here)))

    longer : length (pre ++ e ∷ []) ≡ length pre + 1
    longer = length-append pre (e ∷ [])

    same_by : (left : World) → Inside e.0 lives_here v (spaces_of seen.world.spaces e.0) left → (space q : ℕ) (b : Bool) → (q == renamed seen.world e.0) ≡ b → q ≤ length pre + 1 → values_in left.spaces space q ≡ fin.get (target space) q
    same_by left inside_it space q true h le = subst (λ i. values_in left.spaces space i ≡ fin.get (target space) i) (sym (eqb-true q (renamed seen.world e.0) h)) (held_then left inside_it space)
    same_by left inside_it space q false h le =
        let apart = eqb-false q (renamed seen.world e.0) h in
        let lower : q ≤ length pre = below_number (λ same. apart (same ∙ sym number_is)) in
        inside_it.others space q apart ∙ has.same space q lower
      where
        below_number : (q ≡ length pre + 1 → ⊥) → q ≤ length pre
        below_number other = omega (arith, le, other)

    entered_more : (left : World) → Inside e.0 lives_here v (spaces_of seen.world.spaces e.0) left → Entered start (pre ++ e ∷ []) left
    entered_more left inside_it = record {
      units = inside_it.units;
      links = inside_it.links ∙ has.links;
      count = inside_it.count;
      same = λ space q le. same_by left inside_it space q (q == renamed seen.world e.0) refl (omega (arith, le, longer));
      none = λ space q lt.
          inside_it.others space q (λ same. omega (arith, lt, longer, same, number_is))
          ∙ has.none space q (omega (arith, lt, longer));
    }

  -- the walk over the units of a rest
  pub record Fills (at : ℕ) (start v : World) (ns : List ℕ) : Type 0 where
    pub made : World
    pub is : try_fold_at (inside lists.Spaces) Step at v (declared_members ns) ≡ Ok made
    pub has : Entered start (fin.entries m) made

  pub units_walk : (post pre : UnitEntries) (at : ℕ) (start v : World) → pre ++ post ≡ fin.entries m → Entered start pre v → Fills at start v (map (λ e. e.0) post)
  unfolding try_fold_at
  units_walk [] pre at start v is has = record { made = v; is = refl; has = subst (λ es. Entered start es v) (sym (append-nil pre) ∙ is) has }
  units_walk (e ∷ post) pre at start v is has =
      let g = unit_walk start pre e post v is has at (declared_members (map (λ (f : ℕ × OneUnit). f.0) post)) in
      let rest = units_walk post (pre ++ e ∷ []) g.next_at start g.left (append_assoc pre (e ∷ []) post ∙ is) (entered_more start pre e post v is has g.left g.has) in
      record { made = rest.made; is = g.same ∙ rest.is; has = rest.has }

  -- ---- in the end

  outside_all : (space q : ℕ) → ((n : ℕ) → Lives seen.world n → q ≡ renamed seen.world n → ⊥) → fin.get (target space) q ≡ None
  outside_all space q other = new_none seen.world (membership seen.world.spaces space) (members_live space) q other

  -- before any unit entered
  pub entered_none : (start : World) → start.units ≡ loaded → length start.spaces.spaces ≡ length seen.world.spaces.spaces → ((space q : ℕ) → values_in start.spaces space q ≡ None) → Entered start [] start
  entered_none start units count none = record {
    units = units;
    links = refl;
    count = count;
    same = λ space q le. none space q ∙ sym (outside_all space q (λ n l same. let number = number_within seen.world n l in omega (arith, le, same, number.0)));
    none = λ space q lt. none space q;
  }

  space_same : (start v : World) → Entered start (fin.entries m) v → (space : ℕ) → membership v.spaces space ≡ target space
  space_same start v has space = fin.same_map nat_cmp_total fin.nat_cmp-IsAntisymmetric _ _ (λ q. by q (nat_le q (length (fin.entries m))) refl)
    where
      by : (q : ℕ) (b : Bool) → nat_le q (length (fin.entries m)) ≡ b → values_in v.spaces space q ≡ fin.get (target space) q
      by q true h = has.same space q (leb-true q (length (fin.entries m)) h)
      by q false h =
          let lt : length (fin.entries m) < q = leb-false q (length (fin.entries m)) h in
          has.none space q lt ∙ sym (outside_all space q (λ n l same. let number = number_within seen.world n l in omega (arith, lt, same, number.1)))

  same_spaces : (f : Membership → Membership) (ms ns : List Membership) → length ns ≡ length ms → ((j : ℕ) → j < length ms → option_map_or (λ x. x) (slice_get ns j) fin.empty ≡ f (option_map_or (λ x. x) (slice_get ms j) fin.empty)) → ns ≡ map f ms
  same_spaces f [] [] long same = refl
  same_spaces f [] (n ∷ ns) long same = absurd (omega (arith, long))
  same_spaces f (m ∷ ms) [] long same = absurd (omega (arith, long))
  same_spaces f (m ∷ ms) (n ∷ ns) long same =
      ap (λ x. x ∷ ns) (same 0 (omega arith)) ∙ ap (λ xs. f m ∷ xs) (same_spaces f ms ns (omega (arith, long)) (λ j lt. same (suc j) (omega (arith, lt))))

  pub spaces_same : (start v : World) → Entered start (fin.entries m) v → v.spaces ≡ (let t : Spaces = record { spaces = map (with_new_keys seen.world) seen.world.spaces.spaces } in t)
  spaces_same start v has =
      ap (λ ms. (let t : Spaces = record { spaces = ms } in t))
      (same_spaces (with_new_keys seen.world) seen.world.spaces.spaces v.spaces.spaces has.count (λ j lt. space_same start v has j))
