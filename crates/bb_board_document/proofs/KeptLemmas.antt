-- Where no number below the next one is missing, the units keep their numbers.
use Rattle.std.proofs.Common.{◌≡◌, ℕ, suc, ◌+◌, ◌<◌, true, ◌&&◌, List, [], ◌∷◌, ◌++◌, map, length, Some, Less, refl, sym, ap, subst, ◌∙◌, arith, append_assoc, length-append}
use Rattle.std.specs.Prelude.{is_some, slice_get}
use Rattle.std.specs.Option.{option_map_or}
use Rattle.std.specs.List.{AllByRecursion, list_all}
use Rattle.std.specs.List.Sorted.{IsStrictlySortedBy}
use Rattle.std.specs.Ordering.{nat_cmp}
use Rattle.std.specs.FinMap as fin
use Rattle.std.proofs.lemmas.Bool.{and_parts, and_from}
use Rattle.std.proofs.lemmas.Cmp.{ranked}
use Rattle.std.proofs.lemmas.List.{length-map}
use Rattle.bb_basis.proofs.EntryLemmas.{entries_are}
use Rattle.bb_schema.specs.Couples.{couples}
use Rattle.bb_schema.specs.Fits as schemas
use Rattle.bb_units.specs.declared.unit.Unit.{Unit as OneUnit}
use Rattle.bb_units.specs.Units.{Units, is_live}
use Rattle.bb_links.specs.Layout.{singular_of, slot_ends}
use Rattle.bb_links.specs.Couples.{Couple, Couples, with_pairs}
use Rattle.bb_space.specs.Spaces.{Membership, Spaces}
use Rattle.bb_space.proofs.Laws.{keys_rise}
use Rattle.bb_board.specs.Fits.{Fits}
use Rattle.bb_native.specs.Sight.{Sight}
use Rattle.bb_board_document.specs.Renumbered.{renamed, with_new_keys, with_new_pairs, renumbered, HasNoGap, with_same_numbers}
use Rattle.bb_board_document.proofs.EntryLemmas.{renamed_here}
use Rattle.bb_board_document.proofs.PlaceLemmas.{lives, each_live}
use Rattle.bb_board_document.proofs.PairLemmas.{all_weaker, is_pair, pair_owns, IsTold, couple_told}

-- ---- numbers that rise

next_above : (j p : ℕ) (ns : List ℕ) → j < p → AllByRecursion (λ n. nat_cmp p n ≡ Less) ns → AllByRecursion (λ n. j + 1 < n) ns
next_above j p [] lt all = tt
next_above j p (n ∷ ns) lt all = (let up : p < n = ranked p n Less (sym all.0) in omega (arith, lt, up), next_above j p ns lt all.1)

module _ {X : Type 0} where
  abbrev firsts : List (ℕ × X) → List ℕ
  firsts es = map (λ e. e.0) es

  -- as many stand before a number, at least, as it is above what all are above
  front : (pre : List (ℕ × X)) (e : ℕ × X) (post : List (ℕ × X)) (j : ℕ) → IsStrictlySortedBy nat_cmp (firsts (pre ++ e ∷ post)) → AllByRecursion (λ n. j < n) (firsts (pre ++ e ∷ post)) → j + length pre < e.0
  unfolding IsStrictlySortedBy
  front [] e post j rise above = let lt = above.0 in omega (arith, lt)
  front (p ∷ pre) e post j rise above =
      let rest = front pre e post (j + 1) rise.1 (next_above j p.0 (firsts (pre ++ e ∷ post)) above.0 rise.0) in
      omega (arith, rest)

  back : (e : ℕ × X) (post : List (ℕ × X)) (end : ℕ) → IsStrictlySortedBy nat_cmp (firsts (e ∷ post)) → AllByRecursion (λ n. n < end) (firsts (e ∷ post)) → e.0 + length post < end
  unfolding IsStrictlySortedBy
  back e [] end rise below = let lt = below.0 in omega (arith, lt)
  back e (f ∷ post) end rise below =
      let up : e.0 < f.0 = ranked e.0 f.0 Less (sym rise.0.0) in
      let rest = back f post end rise.1 below.1 in
      omega (arith, up, rest)

  rest_rises : (pre post : List (ℕ × X)) → IsStrictlySortedBy nat_cmp (firsts (pre ++ post)) → IsStrictlySortedBy nat_cmp (firsts post)
  unfolding IsStrictlySortedBy
  rest_rises [] post rise = rise
  rest_rises (p ∷ pre) post rise = rest_rises pre post rise.1

  each_first : (P : ℕ → Type 0) (es : List (ℕ × X)) → AllByRecursion (λ e. P e.0) es → AllByRecursion P (firsts es)
  each_first P [] all = tt
  each_first P (e ∷ es) all = (all.0, each_first P es all.1)

each_weaker : {X : Type 0} (P Q : X → Type 0) (xs : List X) → ((x : X) → P x → Q x) → AllByRecursion P xs → AllByRecursion Q xs
each_weaker P Q [] weaker all = tt
each_weaker P Q (x ∷ xs) weaker all = (weaker x all.0, each_weaker P Q xs weaker all.1)

-- the map of a map's entries is the map
made_again : {X : Type 0} (t : fin.FinMap nat_cmp X) → fin.from_entries (fin.entries t) ≡ t
made_again t = fin.same_entries_map (fin.from_entries (fin.entries t)) t (entries_are (fin.entries t) (keys_rise t))

module _ (seen : Sight) (schema_fits : schemas.Fits seen.schema) (fits : Fits seen.schema seen.world) (gapless : HasNoGap seen.world) where
  abbrev m : fin.FinMap nat_cmp OneUnit
  m = seen.world.units.units

  all_live : (pre post : List (ℕ × OneUnit)) → pre ++ post ≡ fin.entries m → AllByRecursion (λ (e : ℕ × OneUnit). is_live seen.world.units e.0 ≡ true) post
  all_live pre post is = each_live seen.world m (λ n x held. ap is_some held) pre post is

  -- the number of a unit is one more than those before it
  number_kept : (pre : List (ℕ × OneUnit)) (e : ℕ × OneUnit) (post : List (ℕ × OneUnit)) → pre ++ e ∷ post ≡ fin.entries m → renamed seen.world e.0 ≡ e.0
  number_kept pre e post is =
      let whole = fin.entries m in
      let rise = subst (λ es. IsStrictlySortedBy nat_cmp (firsts es)) (sym is) (keys_rise m) in
      let above = each_first (λ n. 0 < n) (pre ++ e ∷ post) (each_weaker _ _ (pre ++ e ∷ post) (λ f live. (fits.units.numbers f.0 live).0) (subst (λ es. AllByRecursion (λ (f : ℕ × OneUnit). is_live seen.world.units f.0 ≡ true) es) (sym is) (all_live [] whole refl))) in
      let below = each_first (λ n. n < seen.world.units.next) (e ∷ post) (each_weaker _ _ (e ∷ post) (λ f live. (fits.units.numbers f.0 live).1) (all_live pre (e ∷ post) is)) in
      let low : 0 + length pre < e.0 = front pre e post 0 rise above in
      let high : e.0 + length post < seen.world.units.next = back e post seen.world.units.next (rest_rises pre (e ∷ post) rise) below in
      let count : fin.len m ≡ length pre + suc (length post) = fin.len-entries m ∙ (ap length (sym is) ∙ length-append pre (e ∷ post)) in
      let number : renamed seen.world e.0 ≡ length pre + 1 = renamed_here seen.world m pre e post refl is in
      omega (arith, low, high, count, number, gapless)

  renamed_same : (n : ℕ) → is_live seen.world.units n ≡ true → renamed seen.world n ≡ n
  renamed_same n live = let l = lives seen.world n live in number_kept l.placed.pre (n, l.unit) l.placed.post l.placed.is

  -- ---- what stands under numbers

  same_keys : {X : Type 0} (es : List (ℕ × X)) → AllByRecursion (λ (e : ℕ × X). is_live seen.world.units e.0 ≡ true) es → map (λ e. (renamed seen.world e.0, e.1)) es ≡ es
  same_keys [] all = refl
  same_keys (e ∷ es) all = rw (renamed_same e.0 all.0, same_keys es all.1) refl

  same_map_kept : {X : Type 0} (t : fin.FinMap nat_cmp X) → ((n : ℕ) (x : X) → fin.get t n ≡ Some x → is_live seen.world.units n ≡ true) → with_new_keys seen.world t ≡ t
  same_map_kept t live = ap (λ es. fin.from_entries es) (same_keys (fin.entries t) (each_live seen.world t live [] (fin.entries t) refl)) ∙ made_again t

  same_pairs : (pairs : List (ℕ × ℕ)) → list_all (λ (p : ℕ × ℕ). is_live seen.world.units p.0 && is_live seen.world.units p.1) pairs ≡ true → map (λ p. (renamed seen.world p.0, renamed seen.world p.1)) pairs ≡ pairs
  same_pairs [] all = refl
  same_pairs (p ∷ ps) all =
      let both = and_parts (is_live seen.world.units p.0 && is_live seen.world.units p.1) (list_all (λ (q : ℕ × ℕ). is_live seen.world.units q.0 && is_live seen.world.units q.1) ps) all in
      let ends = and_parts (is_live seen.world.units p.0) (is_live seen.world.units p.1) both.0 in
      rw (renamed_same p.0 ends.0, renamed_same p.1 ends.1, same_pairs ps both.1) refl

  same_couple : (i slot : ℕ) (k : Couple) → IsTold seen schema_fits fits i slot k → with_new_pairs seen.world k ≡ k
  same_couple i slot k told =
      ap (with_pairs k)
      (same_pairs k.pairs (all_weaker (is_pair seen schema_fits fits slot told.couple.link.inverse) _ k.pairs
      (λ p h. let owns = pair_owns seen schema_fits fits slot told.couple.link.inverse p h in and_from (is_live seen.world.units p.0) (is_live seen.world.units p.1) owns.0.live owns.1.live) told.pairs))

  same_couples : (slots slots_done : List ℕ) (ks done : List Couple) → slots_done ++ slots ≡ couples seen.schema → done ++ ks ≡ seen.world.links.couples → length done ≡ length slots_done → length ks ≡ length slots → map (with_new_pairs seen.world) ks ≡ ks
  same_couples slots slots_done [] done slots_is is long also = refl
  same_couples [] slots_done (k ∷ ks) done slots_is is long also = absurd (omega (arith, also))
  same_couples (slot ∷ slots) slots_done (k ∷ ks) done slots_is is long also =
      ap (λ c. c ∷ map (with_new_pairs seen.world) ks) (same_couple (length slots_done) slot k (couple_told seen schema_fits fits slots_done slot slots done k ks slots_is is long))
      ∙ ap (λ cs. k ∷ cs) (same_couples slots (slots_done ++ slot ∷ []) ks (done ++ k ∷ []) (append_assoc slots_done (slot ∷ []) slots ∙ slots_is) (append_assoc done (k ∷ []) ks ∙ is)
      (length-append done (k ∷ []) ∙ (ap (λ n. n + 1) long ∙ sym (length-append slots_done (slot ∷ [])))) (omega (arith, also)))

  same_members : (ts : List Membership) → ((j : ℕ) (t : Membership) → slice_get ts j ≡ Some t → with_new_keys seen.world t ≡ t) → map (with_new_keys seen.world) ts ≡ ts
  same_members [] same = refl
  same_members (t ∷ ts) same = ap (λ u. u ∷ map (with_new_keys seen.world) ts) (same 0 t refl) ∙ ap (λ us. t ∷ us) (same_members ts (λ j u at. same (suc j) u at))

  as_many : length seen.world.links.couples ≡ length (couples seen.schema)
  as_many =
      sym (length-map seen.world.links.couples (λ (k : Couple). k.singular))
      ∙ (ap length fits.singular ∙ length-map (couples seen.schema) (singular_of seen.schema.slots))

  pub numbers_kept : renumbered seen ≡ with_same_numbers seen
  numbers_kept =
      let units : (renumbered seen).units ≡ seen.world.units =
      ap (λ i. (let u : Units = record { next = i; units = with_new_keys seen.world m; layout = seen.world.units.layout } in u)) (sym gapless)
      ∙ ap (λ t. (let u : Units = record { next = seen.world.units.next; units = t; layout = seen.world.units.layout } in u)) (same_map_kept m (λ n x held. ap is_some held)) in
      let links : (renumbered seen).links ≡ (with_same_numbers seen).links =
      ap (λ ks. (let c : Couples = record { couples = ks; ends = slot_ends seen.schema } in c)) (same_couples (couples seen.schema) [] seen.world.links.couples [] refl refl refl as_many) in
      let spaces : (renumbered seen).spaces ≡ seen.world.spaces =
      ap (λ ts. (let t : Spaces = record { spaces = ts } in t))
      (same_members seen.world.spaces.spaces (λ j t at. same_map_kept t (λ n vs held. fits.spaces.live j n vs (ap (λ o. fin.get (option_map_or (λ (u : Membership). u) o fin.empty) n) at ∙ held)))) in
      λ i. record { units = units i; links = links i; spaces = spaces i; notes = [] }
