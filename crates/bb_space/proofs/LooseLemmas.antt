-- The members of a space and its index, after each change.
use Rattle.std.proofs.Common.{◌≡◌, ℕ, Bool, true, false, cond, ◌⊎◌, inl, inr, List, [], Option, Some, None, refl, sym, ap, subst, ◌∙◌, unwrap_or, is_some, is_err, OnOk, Result, Ok, Err}
use Rattle.std.specs.Option.{option_map_or}
use Rattle.std.specs.Ordering.{is_eq, nat_cmp}
use Rattle.std.specs.Cmp.{nat_cmp_total}
use Rattle.std.specs.List.{list_any}
use Rattle.std.specs.BTreeMap.{is_at as meets}
use Rattle.std.specs.FinMap as fin
use Rattle.std.proofs.lemmas.Map.Lookups.{exact_unsigned}
use Rattle.bb_basis.proofs.NumberLemmas.{nat_cmp_itself}
use Rattle.bb_pattern.specs.declared.value.DimValue.{DimValue}
use Rattle.bb_space.specs.declared.members.Members.{Members}
use Rattle.bb_space.specs.declared.index.place.Place.{Place}
use Rattle.bb_space.specs.Spaces.{Membership, left, moved}
use Rattle.bb_space.specs.index.proving.Places.{place_cmp, is_at, is_place_of, has, ArePut, AreIn, AreTaken}
use Rattle.bb_space.specs.proving.Indexed.{membership, is_told, IsLoose, IsIndexed}
use Rattle.bb_space.specs.proving.Entries.{members_of_entries}
use Rattle.bb_basis.proofs.EntryLemmas.{get_is_lookup}
use Rattle.bb_space.proofs.index_lemmas.Laws.{equal, by_bool, by_number, of_unit, at_of, place_from, none_at}

by_unit : (p : Place) (unit : ℕ) (G : Type 0) → (p.unit ≡ unit → G) → ((p.unit ≡ unit → ⊥) → G) → G
by_unit p unit G same other = by_number p.unit unit G same other

-- ---- what is told of a place

told_by : (o : Option (List DimValue)) (p : Place) → option_map_or (λ values. is_at values p) o false ≡ is_at (unwrap_or o []) p
told_by None p = sym (none_at p)
told_by (Some values) p = refl

-- what is told of a unit's places, by its values
pub told_present : (unit : ℕ) (m : Membership) (p : Place) → p.unit ≡ unit → is_told m p ≡ is_at (unwrap_or (fin.get m unit) []) p
told_present unit m p same = ap (λ n. option_map_or (λ values. is_at values p) (fin.get m n) false) same ∙ told_by (fin.get m unit) p

told_at : (unit : ℕ) (m : Membership) (p : Place) (o : Option (List DimValue)) → fin.get m p.unit ≡ o → is_told m p ≡ option_map_or (λ values. is_at values p) o false
told_at unit m p o there = ap (λ w. option_map_or (λ values. is_at values p) w false) there

number_other : (n k : ℕ) → (n ≡ k → ⊥) → is_eq (nat_cmp n k) ≡ false
number_other n k apart = at (is_eq (nat_cmp n k)) refl
  where
    at : (b : Bool) → is_eq (nat_cmp n k) ≡ b → b ≡ false
    at true h = absurd (apart (exact_unsigned n k (equal _ h)))
    at false h = refl

pub told_new : (unit : ℕ) (m : Membership) (new : List DimValue) (p : Place) → p.unit ≡ unit → is_told (fin.insert m unit new) p ≡ is_at new p
told_new unit m new p same =
    let on : is_eq (nat_cmp p.unit unit) ≡ true = subst (λ n. is_eq (nat_cmp p.unit n) ≡ true) same (nat_cmp_itself p.unit) in
    told_at unit (fin.insert m unit new) p (Some new) (fin.get-insert nat_cmp_total m unit new p.unit ∙ ap (λ b. cond b (Some new) (fin.get m p.unit)) on)

pub told_beside : (unit : ℕ) (m : Membership) (new : List DimValue) (p : Place) → (p.unit ≡ unit → ⊥) → is_told (fin.insert m unit new) p ≡ is_told m p
told_beside unit m new p apart =
    told_at unit (fin.insert m unit new) p (fin.get m p.unit) (fin.get-insert nat_cmp_total m unit new p.unit ∙ ap (λ b. cond b (Some new) (fin.get m p.unit)) (number_other p.unit unit apart))

pub told_left : (unit : ℕ) (m : Membership) (p : Place) → p.unit ≡ unit → is_told (fin.remove m unit) p ≡ is_at [] p
told_left unit m p same =
    let on : is_eq (nat_cmp p.unit unit) ≡ true = subst (λ n. is_eq (nat_cmp p.unit n) ≡ true) same (nat_cmp_itself p.unit) in
    told_at unit (fin.remove m unit) p None (fin.get-remove nat_cmp_total m unit p.unit ∙ ap (λ b. cond b None (fin.get m p.unit)) on) ∙ sym (none_at p)

pub told_but : (unit : ℕ) (m : Membership) (p : Place) → (p.unit ≡ unit → ⊥) → is_told (fin.remove m unit) p ≡ is_told m p
told_but unit m p apart =
    told_at unit (fin.remove m unit) p (fin.get m p.unit) (fin.get-remove nat_cmp_total m unit p.unit ∙ ap (λ b. cond b None (fin.get m p.unit)) (number_other p.unit unit apart))

-- ---- the index beside the members

pub same_values : (m n : Members) → n.values ≡ m.values → membership n ≡ membership m
same_values m n same = ap (λ v. membership (record { values = v; places = n.places })) same

-- an index stays loose where the members and places are the same
pub same_loose : (spare more : Place → Bool) (m n : Members) → membership n ≡ membership m → n.places ≡ m.places → ((p : Place) → spare p ≡ true → more p ≡ true) → IsLoose spare m → IsLoose more n
same_loose spare more m n members places wider l = record {
  full = λ p h. ap (λ s. has s p) places ∙ l.full p (ap (λ w. is_told w p) (sym members) ∙ h);
  only = λ p h g. wider p (l.only p (ap (λ s. has s p) (sym places) ∙ h) (ap (λ w. is_told w p) (sym members) ∙ g));
}

-- places were put
pub put_loose : (unit : ℕ) (values : List DimValue) (spare more : Place → Bool) (m n : Members) → membership n ≡ membership m → ArePut unit values m.places n.places
    → ((p : Place) → spare p ≡ true → more p ≡ true) → ((p : Place) → is_place_of unit values p ≡ true → more p ≡ true) → IsLoose spare m → IsLoose more n
put_loose unit values spare more m n members put wider put_too l = record {
  full = λ p h. put.keeps p (l.full p (ap (λ w. is_told w p) (sym members) ∙ h));
  only = λ p h g. by_bool (has m.places p) _
      (λ there. wider p (l.only p there (ap (λ w. is_told w p) (sym members) ∙ g)))
      (λ new. put_too p (put.only p h new));
}

-- the places of values are there, once those are put that the unit has not
pub put_ready : (unit : ℕ) (values : List DimValue) (spare : Place → Bool) (m n : Members) → ArePut unit values m.places n.places
    → AreIn unit values (unwrap_or (fin.get (membership m) unit) []) n.places → IsLoose spare m → (p : Place) → is_place_of unit values p ≡ true → has n.places p ≡ true
put_ready unit values spare m n put new l p h = by_bool (is_at (unwrap_or (fin.get (membership m) unit) []) p) _
    (λ on. put.keeps p (l.full p (told_present unit (membership m) p (of_unit unit values p h) ∙ on)))
    (λ off. new p h off)

-- places were taken, but for those of the unit's values
pub take_loose : (unit : ℕ) (values : List DimValue) (spare less : Place → Bool) (m n : Members) → membership n ≡ membership m
    → AreTaken unit values (unwrap_or (fin.get (membership m) unit) []) m.places n.places
    → ((p : Place) → spare p ≡ true → (is_place_of unit values p ≡ true) ⊎ (less p ≡ true)) → IsLoose spare m → IsLoose less n
take_loose unit values spare less m n members taken apart l = record {
  full = λ p h. let told : is_told (membership m) p ≡ true = ap (λ w. is_told w p) (sym members) ∙ h in
      taken.keeps p (l.full p told) (λ g. sym (told_present unit (membership m) p (of_unit unit values p g)) ∙ told);
  only = λ p h g. let out : is_told (membership m) p ≡ false = ap (λ w. is_told w p) (sym members) ∙ g in
      either p h out (apart p (l.only p (taken.only p h) out));
}
  where
    either : (p : Place) → has n.places p ≡ true → is_told (membership m) p ≡ false → (is_place_of unit values p ≡ true) ⊎ (less p ≡ true) → less p ≡ true
    either p h out (inl is_one) =
        let told = told_present unit (membership m) p (of_unit unit values p is_one) ∙ taken.gone p h is_one in
        absurd cc
    either p h out (inr kept) = kept

-- other values are told of the unit, whose places are there
pub retold : (unit : ℕ) (new : List DimValue) (spare less : Place → Bool) (m n : Members) → n.places ≡ m.places
    → ((p : Place) → p.unit ≡ unit → is_told (membership n) p ≡ is_at new p)
    → ((p : Place) → (p.unit ≡ unit → ⊥) → is_told (membership n) p ≡ is_told (membership m) p)
    → ((p : Place) → is_place_of unit new p ≡ true → has m.places p ≡ true)
    → ((p : Place) → p.unit ≡ unit → is_told (membership m) p ≡ true → less p ≡ true)
    → ((p : Place) → (p.unit ≡ unit → is_at new p ≡ false) → spare p ≡ true → less p ≡ true)
    → IsLoose spare m → IsLoose less n
retold unit new spare less m n places of_it beside ready was kept l = record {
  full = λ p h. ap (λ s. has s p) places ∙ by_unit p unit _
      (λ same. ready p (place_from unit new p same (sym (of_it p same) ∙ h)))
      (λ other. l.full p (sym (beside p other) ∙ h));
  only = λ p h g. let there : has m.places p ≡ true = ap (λ s. has s p) (sym places) ∙ h in
      by_unit p unit _
      (λ same. by_bool (is_told (membership m) p) _ (was p same) (λ out. kept p (λ _. sym (of_it p same) ∙ g) (l.only p there out)))
      (λ other. kept p (λ same. absurd (other same)) (l.only p there (sym (beside p other) ∙ g)));
}

-- what stands nowhere else is nowhere
pub spare_none : (unit : ℕ) (new : List DimValue) (p : Place) → (p.unit ≡ unit → is_at new p ≡ false) → is_place_of unit new p ≡ true → false ≡ true
spare_none unit new p out h =
    let off = out (of_unit unit new p h) in
    let on = at_of unit new p h in
    absurd cc

-- ---- each change of one space

module _ (unit : ℕ) (values : List DimValue) (m n : Members) (places : n.places ≡ m.places) where
  -- a unit entered whose places were put
  pub entered_loose : membership n ≡ fin.insert (membership m) unit values → fin.contains_key (membership m) unit ≡ false
      → ((p : Place) → is_place_of unit values p ≡ true → has m.places p ≡ true) → IsLoose (is_place_of unit values) m → IsIndexed n
  entered_loose members absent ready = retold unit values (is_place_of unit values) (λ _. false) m n places
      (λ p same. ap (λ w. is_told w p) members ∙ told_new unit (membership m) values p same)
      (λ p other. ap (λ w. is_told w p) members ∙ told_beside unit (membership m) values p other)
      ready
      (λ p same told. let out = told_present unit (membership m) p same ∙ not_told (fin.get (membership m) unit) absent p in absurd cc)
      (spare_none unit values)
    where
      not_told : (o : Option (List DimValue)) → is_some o ≡ false → (p : Place) → is_at (unwrap_or o []) p ≡ false
      not_told None gone p = none_at p
      not_told (Some vs) gone p = absurd cc

  -- a unit left whose places are still there
  pub left_loose : membership n ≡ left unit (membership m) → values ≡ unwrap_or (fin.get (membership m) unit) [] → IsIndexed m → IsLoose (is_place_of unit values) n
  left_loose members had = retold unit [] (λ _. false) (is_place_of unit values) m n places
      (λ p same. ap (λ w. is_told w p) members ∙ told_left unit (membership m) p same)
      (λ p other. ap (λ w. is_told w p) members ∙ told_but unit (membership m) p other)
      (λ p h. let off = none_at p in let on = at_of unit [] p h in absurd cc)
      (λ p same told. place_from unit values p same (ap (λ vs. is_at vs p) had ∙ (sym (told_present unit (membership m) p same) ∙ told)))
      (λ p out h. absurd cc)

-- a member has other values, whose places were put; then those that it had may be spare
pub moved_loose : (unit : ℕ) (values had : List DimValue) (spare less : Place → Bool) (m n : Members) → n.places ≡ m.places
    → membership n ≡ moved unit values (membership m) → had ≡ unwrap_or (fin.get (membership m) unit) values
    → ((p : Place) → is_place_of unit values p ≡ true → has m.places p ≡ true)
    → ((p : Place) → is_place_of unit had p ≡ true → less p ≡ true)
    → ((p : Place) → (is_place_of unit values p ≡ true → is_place_of unit had p ≡ true) → spare p ≡ true → less p ≡ true)
    → IsLoose spare m → IsLoose less n
moved_loose unit values had spare less m n places members had_is ready had_too kept l = at (fin.get (membership m) unit) refl
  where
    at : (o : Option (List DimValue)) → fin.get (membership m) unit ≡ o → IsLoose less n
    at None none =
        let stays : membership n ≡ membership m = members ∙ ap (λ o. cond (is_some o) (fin.insert (membership m) unit values) (membership m)) none in
        let same : had ≡ values = had_is ∙ ap (λ o. unwrap_or o values) none in
        same_loose spare less m n stays places (λ p. kept p (λ h. subst (λ vs. is_place_of unit vs p ≡ true) (sym same) h)) l
    at (Some vs) there =
        let goes : membership n ≡ fin.insert (membership m) unit values = members ∙ ap (λ o. cond (is_some o) (fin.insert (membership m) unit values) (membership m)) there in
        let same : had ≡ vs = had_is ∙ ap (λ o. unwrap_or o values) there in
        retold unit values spare less m n places
        (λ p here. ap (λ w. is_told w p) goes ∙ told_new unit (membership m) values p here)
        (λ p other. ap (λ w. is_told w p) goes ∙ told_beside unit (membership m) values p other)
        ready
        (λ p here told. had_too p (place_from unit had p here (ap (λ ws. is_at ws p) same ∙ (sym (ap (λ o. is_at (unwrap_or o []) p) there) ∙ (sym (told_present unit (membership m) p here) ∙ told)))))
        (λ p out h. kept p (λ g. absurd (true_or_not p out g)) h) l
      where
        true_or_not : (p : Place) → (p.unit ≡ unit → is_at values p ≡ false) → is_place_of unit values p ≡ true → ⊥
        true_or_not p out g = let off = out (of_unit unit values p g) in let on = at_of unit values p g in absurd cc

-- ---- changes of one space from end to end

-- nothing is there
pub indexed_none : (m : Members) → m.values.entries ≡ [] → m.places.keys ≡ [] → IsIndexed m
indexed_none m no_values_there no_places = record {
  full = λ p h. let off = nothing_told p in absurd cc;
  only = λ p h g. let off : has m.places p ≡ false = ap (λ ks. list_any (meets (place_cmp p)) ks) no_places in absurd cc;
}
  where
    nothing_told : (p : Place) → is_told (membership m) p ≡ false
    nothing_told p = ap (λ es. is_told (members_of_entries es) p) no_values_there ∙ told_at p.unit (members_of_entries []) p None (get_is_lookup [] p.unit)

pub at_ok : {X E P : Type 0} (r : Result X E) → is_err r ≡ false → OnOk r P → P
at_ok (Ok x) h p = p
at_ok (Err e) h p = absurd cc

-- a unit enters: puts, and then it is a member
pub entered_indexed : (unit : ℕ) (values : List DimValue) (m a n : Members) → a.values ≡ m.values → ArePut unit values m.places a.places
    → ((p : Place) → is_place_of unit values p ≡ true → has a.places p ≡ true)
    → n.places ≡ a.places → membership n ≡ fin.insert (membership a) unit values → fin.contains_key (membership m) unit ≡ false → IsIndexed m → IsIndexed n
entered_indexed unit values m a n puts put all places members absent indexed =
    entered_loose unit values a n places members (ap (λ w. fin.contains_key w unit) (same_values m a puts) ∙ absent) all
    (put_loose unit values (λ _. false) (is_place_of unit values) m a (same_values m a puts) put (λ p h. absurd cc) (λ p h. h) indexed)

-- a unit leaves: it is no member, and then its places are taken
pub left_indexed : (unit : ℕ) (values : List DimValue) (m a n : Members) → a.places ≡ m.places → membership a ≡ left unit (membership m)
    → values ≡ unwrap_or (fin.get (membership m) unit) [] → n.values ≡ a.values → AreTaken unit values (unwrap_or (fin.get (membership a) unit) []) a.places n.places → IsIndexed m → IsIndexed n
left_indexed unit values m a n places members had takes taken indexed =
    take_loose unit values (is_place_of unit values) (λ _. false) a n (same_values a n takes) taken (λ p h. inl h) (left_loose unit values m a places members had indexed)

-- one leaves that was no member
pub left_none : (unit : ℕ) (m n : Members) → n.places ≡ m.places → membership n ≡ left unit (membership m) → fin.get (membership m) unit ≡ None → IsIndexed m → IsIndexed n
left_none unit m n places members none indexed =
    same_loose (is_place_of unit []) (λ _. false) n n refl refl (λ p h. let off = none_at p in let on = at_of unit [] p h in absurd cc)
    (left_loose unit [] m n places members (sym (ap (λ o. unwrap_or o []) none)) indexed)

-- a member moves: puts, the exchange, takes
pub moved_indexed : (unit : ℕ) (values had : List DimValue) (m a b n : Members) → a.values ≡ m.values → ArePut unit values m.places a.places
    → ((p : Place) → is_place_of unit values p ≡ true → has a.places p ≡ true)
    → b.places ≡ a.places → membership b ≡ moved unit values (membership a) → had ≡ unwrap_or (fin.get (membership a) unit) values
    → n.values ≡ b.values → AreTaken unit had (unwrap_or (fin.get (membership b) unit) []) b.places n.places → IsIndexed m → IsIndexed n
moved_indexed unit values had m a b n puts put all places members had_is takes taken indexed =
    take_loose unit had (is_place_of unit had) (λ _. false) b n (same_values b n takes) taken (λ p h. inl h)
    (moved_loose unit values had (is_place_of unit values) (is_place_of unit had) a b places members had_is all (λ p h. h) (λ p over h. over h)
    (put_loose unit values (λ _. false) (is_place_of unit values) m a (same_values m a puts) put (λ p h. absurd cc) (λ p h. h) indexed))
