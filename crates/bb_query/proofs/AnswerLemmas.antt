-- Units that rise, among them all that a query answers, hold its answer.
use Rattle.std.proofs.Common.{◌≡◌, ℕ, suc, ◌&&◌, Bool, true, false, cond, List, [], ◌∷◌, ◌++◌, Option, Some, None, refl, sym, ap, ◌∙◌, arith, get_or}
use Rattle.std.specs.Prelude.{is_some, filter}
use Rattle.std.specs.List.{All}
use Rattle.std.specs.List.Sorted.{IsStrictlySortedBy}
use Rattle.std.specs.Option.{option_map_or}
use Rattle.std.specs.Map.{keys_of, lookup}
use Rattle.std.specs.Ordering.{nat_cmp}
use Rattle.std.specs.BTreeMap.{is_at}
use Rattle.std.specs.FinMap.{keys, get, from_entries, contains_key-keys}
use Rattle.std.proofs.lemmas.Bool.{and_parts}
use Rattle.std.proofs.lemmas.List.{append_assoc}
use Rattle.std.proofs.lemmas.List.Kept.{IsStrictlySortedBy-filter}
use Rattle.bb_basis.proofs.EntryLemmas.{get_is_lookup, entries_are}
use Rattle.bb_schema.specs.Schema.{Schema}
use Rattle.bb_units.specs.Units.{Units, is_live}
use Rattle.bb_pattern.specs.declared.query.Query.{Query}
use Rattle.bb_pattern.specs.declared.value.DimValue.{DimValue}
use Rattle.bb_pattern.specs.Holds.{holds}
use Rattle.bb_space.specs.declared.index.leaf.Leaf.{Leaf}
use Rattle.bb_space.specs.index.Leaf.{fits_leaf}
use Rattle.bb_space.specs.Passing.{passes_one}
use Rattle.bb_space.specs.Spaces.{Spaces, Membership, membership, members, is_member, values_in}
use Rattle.bb_query.specs.Answer.{answers, answer, is_of_class}
use Rattle.bb_query.specs.Knows.{Knows}
use Rattle.bb_query.specs.PresentValues.{present_values}
use Rattle.bb_query.specs.proving.Enough.{AreEnough, among}
use Rattle.bb_query.specs.proving.Tests.{Asks, HoldsOfAll}
use Rattle.bb_query.proofs.MemberLemmas.{passes_told, fails_told}
use Rattle.bb_query.proofs.NearLemmas.{members_enough}
use Rattle.bb_space.proofs.Laws.{keys_rise, same_numbers, any_filter}

module _ (s : Schema) (u : Units) (t : Spaces) (knows : Knows s u t) (q : Query) (operands : List DimValue) where
  -- a unit that the query answers is live, and among the units
  record Answered (list : List ℕ) (n : ℕ) : Type 0 where
    live : is_live u n ≡ true
    listed : among n list ≡ true

  module _ (list : List ℕ) (enough : AreEnough t q.space (λ values. holds operands values q.pattern) list) where
    answered : (n : ℕ) → answers s u t q operands n ≡ true → Answered list n
    answered n h = at (values_in t q.space n) refl (and_parts (is_member t q.space n) (is_of_class s u q n) first.0).0
      where
        first : ((is_member t q.space n && is_of_class s u q n) ≡ true) × (holds operands (present_values s u n q.space) q.pattern ≡ true)
        first = and_parts (is_member t q.space n && is_of_class s u q n) (holds operands (present_values s u n q.space) q.pattern) h

        at : (o : Option (List DimValue)) → values_in t q.space n ≡ o → is_some o ≡ true → Answered list n
        at None none there = absurd cc
        at (Some values) some there = record {
          live = knows.live q.space n values some;
          listed = enough.enough n values some (ap (λ vs. holds operands vs q.pattern) (knows.told q.space n values some) ∙ first.1);
        }

    both_pass : (a b p : Bool) → (p ≡ true → a ≡ true) → (p ≡ true → b ≡ true) → (a && p) ≡ (b && p)
    both_pass a b true one other = ap (λ c. c && true) (one refl) ∙ sym (ap (λ c. c && true) (other refl))
    both_pass a b false one other = none a ∙ sym (none b)
      where
        none : (c : Bool) → (c && false) ≡ false
        none true = refl
        none false = refl

    pub answer_among : filter (answers s u t q operands) list ≡ answer s u t q operands
    answer_among =
        let passes = answers s u t q operands in
        same_numbers (filter passes list) (filter passes (keys u.units)) (IsStrictlySortedBy-filter nat_cmp passes list enough.rises) (IsStrictlySortedBy-filter nat_cmp passes (keys u.units) (keys_rise u.units)) (λ n.
        any_filter passes n list ∙ (both_pass (among n list) (among n (keys u.units)) (passes n) (λ h. (answered n h).listed) (λ h. sym (contains_key-keys u.units n) ∙ (answered n h).live)
        ∙ sym (any_filter passes n (keys u.units))))

-- ---- members with their values

module _ (t : Spaces) (space : ℕ) where
  -- the values that members have
  abbrev pub AreTold : List (ℕ × List DimValue) → Type 0
  AreTold es = All (λ e. values_in t space e.0 ≡ Some e.1) es

  pub first_told : (e : ℕ × List DimValue) (es : List (ℕ × List DimValue)) → AreTold (e ∷ es) → values_in t space e.0 ≡ Some e.1
  first_told e es all = all 0 e (omega arith)

  pub others_told : (e : ℕ × List DimValue) (es : List (ℕ × List DimValue)) → AreTold (e ∷ es) → AreTold es
  others_told e es all = λ k d lt. all (suc k) d (omega (arith, lt))

  module _ (es : List (ℕ × List DimValue)) (same : from_entries es ≡ membership t space) where
    -- the entries of a map of all members
    pub map_told : All (λ e. lookup (is_at (nat_cmp e.0)) es ≡ Some e.1) es → AreTold es
    map_told all = λ k d lt. let e = get_or es k d in ap (λ (m : Membership). get m e.0) (sym same) ∙ (get_is_lookup es e.0 ∙ all k d lt)

    pub map_members : IsStrictlySortedBy nat_cmp (keys_of es) → keys_of es ≡ members t space
    map_members rise = sym (ap (λ (fs : List (ℕ × List DimValue)). keys_of fs) (entries_are es rise)) ∙ ap keys same

-- one more member is gone over, which passes, or does not
module _ (p : ℕ → Bool) (made : List ℕ) (n : ℕ) (rest whole : List ℕ) (was : made ++ filter p (n ∷ rest) ≡ whole) where
  one_first : (b : Bool) → p n ≡ b → made ++ cond b (n ∷ filter p rest) (filter p rest) ≡ whole
  one_first b is = ap (λ c. made ++ cond c (n ∷ filter p rest) (filter p rest)) (sym is) ∙ was

  pub scan_more : p n ≡ true → (made ++ n ∷ []) ++ filter p rest ≡ whole
  scan_more is = append_assoc made (n ∷ []) (filter p rest) ∙ one_first true is

  pub scan_over : p n ≡ false → made ++ filter p rest ≡ whole
  scan_over is = one_first false is

-- all members hold the answer
pub answer_members : (s : Schema) (u : Units) (t : Spaces) → Knows s u t → (q : Query) (operands : List DimValue) → filter (answers s u t q operands) (members t q.space) ≡ answer s u t q operands
answer_members s u t knows q operands = answer_among s u t knows q operands (members t q.space) (members_enough t q.space (λ values. holds operands values q.pattern))

-- ---- a query that asks for no more than membership

module _ (s : Schema) (u : Units) (t : Spaces) (knows : Knows s u t) (q : Query) (operands : List DimValue) (always : HoldsOfAll q.pattern)
    (of_class : (n : ℕ) (values : List DimValue) → values_in t q.space n ≡ Some values → is_of_class s u q n ≡ true) where
  member_answers : (n : ℕ) (o : Option (List DimValue)) → values_in t q.space n ≡ o → is_some o ≡ true → answers s u t q operands n ≡ true
  member_answers n None there some = absurd cc
  member_answers n (Some values) there some = passes_told s u t knows q operands n values there (always operands values) ∙ of_class n values there

  and_given : (a b : Bool) → (a ≡ true → b ≡ true) → (a && b) ≡ a
  and_given true b h = h refl
  and_given false b h = refl

  -- all members are its answer
  pub all_answer : filter (answers s u t q operands) (members t q.space) ≡ members t q.space
  all_answer =
      let passes = answers s u t q operands in
      let all = members t q.space in
      let rise = keys_rise (membership t q.space) in
      same_numbers (filter passes all) all (IsStrictlySortedBy-filter nat_cmp passes all rise) rise (λ n.
      any_filter passes n all ∙ and_given (among n all) (passes n) (λ h. member_answers n (values_in t q.space n) refl (contains_key-keys (membership t q.space) n ∙ h)))

-- ---- a query that is one test

module _ (s : Schema) (u : Units) (t : Spaces) (knows : Knows s u t) (q : Query) (operands : List DimValue) (test : Leaf) (asks : Asks (λ values. holds operands values q.pattern) test)
    (of_class : (n : ℕ) (values : List DimValue) → values_in t q.space n ≡ Some values → is_of_class s u q n ≡ true) where
  told_answers : (n : ℕ) (values : List DimValue) → values_in t q.space n ≡ Some values → (b : Bool) → holds operands values q.pattern ≡ b → answers s u t q operands n ≡ b
  told_answers n values told true passes = passes_told s u t knows q operands n values told passes ∙ of_class n values told
  told_answers n values told false fails = fails_told s u t knows q operands n values told fails

  -- it answers who passes the test
  one_answers : (n : ℕ) (o : Option (List DimValue)) → values_in t q.space n ≡ o → option_map_or (fits_leaf test) o false ≡ answers s u t q operands n
  one_answers n None none = sym (ap (λ o. is_some o && is_of_class s u q n && holds operands (present_values s u n q.space) q.pattern) none)
  one_answers n (Some values) told = asks values ∙ sym (told_answers n values told (holds operands values q.pattern) refl)

  pub test_answers : filter (passes_one (membership t q.space) test) (members t q.space) ≡ filter (answers s u t q operands) (members t q.space)
  test_answers =
      let same : (n : ℕ) → passes_one (membership t q.space) test n ≡ answers s u t q operands n = λ n.
      ap (λ o. option_map_or (fits_leaf test) o false) refl ∙ one_answers n (values_in t q.space n) refl in
      (λ k. filter (λ n. same n k) (members t q.space))
