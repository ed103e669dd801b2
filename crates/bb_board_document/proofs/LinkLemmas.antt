-- The walk over the links of a document: it makes each pair under its new numbers, after those before it.
use Rattle.std.proofs.Common.{◌≡◌, ℕ, suc, ◌+◌, Bool, true, false, ◌&&◌, ◌==◌, List, [], ◌∷◌, ◌++◌, map, length, Some, option_map, Ok, refl, sym, ap, subst, ◌∙◌, arith, append_assoc, length-append}
use Rattle.std.specs.Prelude.{is_some, unwrap_or}
use Rattle.std.specs.List.{flat_map, list_all}
use Rattle.std.specs.Option.{option_map_or}
use Rattle.std.specs.Ordering.{nat_cmp}
use Rattle.std.specs.Cmp.Lexicographic.{slice_cmp}
use Rattle.std.specs.FinMap as fin
use Rattle.std.proofs.lemmas.Bool.{and_from}
use Rattle.std.proofs.lemmas.List.{append-nil, length-map}
use Rattle.bb_basis.specs.Results.{◌>>=◌, map_err, try_fold_at}
use Rattle.bb_basis.proofs.ListLemmas.{map-last}
use Rattle.bb_schema_form.specs.UnitsDocument.{FirstLinkDeclaration}
use Rattle.bb_schema_form.specs.declared.place.ListKey.TheVariants as lists
use Rattle.bb_schema_classes.specs.declared.kind.Link.{Link}
use Rattle.bb_schema.specs.Slots.{link_of}
use Rattle.bb_schema.specs.Schema.{slot_named, descends}
use Rattle.bb_schema.specs.Couples.{couples}
use Rattle.bb_schema.specs.Fits as schemas
use Rattle.bb_units.specs.declared.unit.Unit.{Unit as OneUnit}
use Rattle.bb_units.specs.Layout.{layout_of}
use Rattle.bb_units.specs.Units.{Units, is_live, class_of}
use Rattle.bb_links.specs.Layout.{singular_of, slot_ends}
use Rattle.bb_links.specs.Couples.{Couple, Couples, no_pairs, with_pairs, linked, after_link as with_pair}
use Rattle.bb_links.specs.Links.{pairs_by}
use Rattle.bb_space.specs.Spaces.{no_spaces}
use Rattle.bb_board.specs.UnitsFaults.{inside}
use Rattle.bb_board.specs.Load.{link_after}
use Rattle.bb_board.specs.State.{World}
use Rattle.bb_board.specs.World.{class_at}
use Rattle.bb_board.specs.May.{class_has, has_link, leads_to, may_link}
use Rattle.bb_board.specs.Links.{linked_at, after_link}
use Rattle.bb_board.specs.Fits.{Fits}
use Rattle.bb_native.specs.Sight.{Sight}
use Rattle.bb_board_document.specs.Renumbered.{renamed, with_new_pairs}
use Rattle.bb_board_document.specs.Document.{name_of}
use Rattle.bb_board_document.proofs.FormLemmas.{slot_name, link_declared}
use Rattle.bb_board_document.proofs.PlaceLemmas.{Lives, lives, same_number, new_units, held_new}
use Rattle.bb_board_document.proofs.CoupleLemmas.{renew, linked_last}
use Rattle.bb_board_document.proofs.PairLemmas.{get_middle, set_middle, all_parts, all_weaker, slot_of_class, slot_end, class_there, is_pair, pair_owns, IsTold, couple_told}

module _ (seen : Sight) (schema_fits : schemas.Fits seen.schema) (fits : Fits seen.schema seen.world) (names : fin.FinMap (slice_cmp nat_cmp) ℕ)
    (known : (n : ℕ) → Lives seen.world n → fin.get names (name_of seen n) ≡ Some (renamed seen.world n)) (next : ℕ) where
  abbrev pub loaded_units : Units
  loaded_units = record { next = next; units = new_units seen.world; layout = layout_of seen.schema }

  -- the units are there, and these couples
  pub record Linked (ks : List Couple) (v : World) : Type 0 where
    pub units : v.units ≡ loaded_units
    pub links : v.links ≡ (let c : Couples = record { couples = ks; ends = slot_ends seen.schema } in c)
    pub spaces : v.spaces ≡ no_spaces seen.schema

  -- ---- units by their new numbers

  pub live_new : (u : Units) (n : ℕ) → u ≡ loaded_units → (l : Lives seen.world n) → is_live u (renamed seen.world n) ≡ true
  live_new u n is l = ap (λ (x : Units). is_live x (renamed seen.world n)) is ∙ ap is_some (held_new seen.world n l)

  pub class_new : (u : Units) (n : ℕ) → u ≡ loaded_units → (l : Lives seen.world n) → unwrap_or (class_of u (renamed seen.world n)) 0 ≡ class_at seen.world n
  class_new u n is l =
      ap (λ (x : Units). unwrap_or (class_of x (renamed seen.world n)) 0) is
      ∙ (ap (λ o. unwrap_or (option_map (λ (x : OneUnit). x.class) o) 0) (held_new seen.world n l)
      ∙ sym (ap (λ o. unwrap_or (option_map (λ (x : OneUnit). x.class) o) 0) l.held))

  -- ---- one link

  done_by : (v : World) (e : FirstLinkDeclaration) (a b slot : ℕ) → fin.get names e.from ≡ Some a → fin.get names e.to ≡ Some b → slot_named seen.schema (class_at v a) e.slot ≡ Some slot → may_link seen.schema v a slot b ≡ Ok tt
      → link_after seen.schema names v e ≡ Ok (after_link seen.schema v a slot b)
  unfolding link_after
  done_by v e a b slot from to named may = rw (from, to, named, may) refl

  may_by : (v : World) (a b slot : ℕ) → is_live v.units a ≡ true → is_live v.units b ≡ true → has_link seen.schema (class_at v a) slot ≡ true → leads_to seen.schema slot (class_at v b) ≡ true → may_link seen.schema v a slot b ≡ Ok tt
  may_by v a b slot one other has leads = rw (one, other, has, leads) refl

  module _ (i slot : ℕ) (k : Couple) (told : IsTold seen schema_fits fits i slot k) where
    abbrev inverse : ℕ
    inverse = told.couple.link.inverse

    abbrev passes : ℕ × ℕ → Bool
    passes p = is_pair seen schema_fits fits slot inverse p

    one_link : (p : ℕ × ℕ) → passes p ≡ true → (v : World) → v.units ≡ loaded_units → link_after seen.schema names v (link_declared seen slot p) ≡ Ok (after_link seen.schema v (renamed seen.world p.0) slot (renamed seen.world p.1))
    one_link p pair v units =
        let owns = pair_owns seen schema_fits fits slot inverse p pair in
        let a = owns.0 in
        let b = owns.1 in
        let class_a : class_at v (renamed seen.world p.0) ≡ class_at seen.world p.0 = class_new v.units p.0 units a.lives in
        let class_b : class_at v (renamed seen.world p.1) ≡ class_at seen.world p.1 = class_new v.units p.1 units b.lives in
        let coupled = schema_fits.coupled slot told.couple.link told.couple.is in
        done_by v (link_declared seen slot p) (renamed seen.world p.0) (renamed seen.world p.1) slot (known p.0 a.lives) (known p.1 b.lives)
        (ap (λ c. slot_named seen.schema c (slot_name seen slot)) class_a ∙ slot_of_class seen.schema schema_fits (class_at seen.world p.0) slot (class_there seen schema_fits fits p.0 a.lives) a.has)
        (may_by v (renamed seen.world p.0) (renamed seen.world p.1) slot (live_new v.units p.0 units a.lives) (live_new v.units p.1 units b.lives)
        (and_from (is_some (link_of seen.schema.slots slot)) (class_has seen.schema (class_at v (renamed seen.world p.0)) slot) (ap is_some told.couple.is) (ap (λ c. class_has seen.schema c slot) class_a ∙ a.has))
        (ap (λ c. leads_to seen.schema slot c) class_b
        ∙ (ap (λ o. option_map_or (λ (l : Link). descends seen.schema (class_at seen.world p.1) l.to) o false) told.couple.is
        ∙ (sym (ap (λ o. option_map_or (λ owner. descends seen.schema (class_at seen.world p.1) owner) o false) coupled.there) ∙ b.has))))

    with_pair_at : (a b : ℕ) (done : List Couple) (c : Couple) (rest : List Couple) → length done ≡ i
        → with_pair (let cs : Couples = record { couples = done ++ c ∷ rest; ends = slot_ends seen.schema } in cs) i a b ≡ (let cs : Couples = record { couples = done ++ linked a b c ∷ rest; ends = slot_ends seen.schema } in cs)
    with_pair_at a b done c rest long = rw (← long, get_middle done c rest, set_middle done c (linked a b c) rest) refl

    -- what it makes of the couples
    linked_by : (v : World) (a b : ℕ) (done : List Couple) (c : Couple) (rest : List Couple) → length done ≡ i → Linked (done ++ c ∷ rest) v → Linked (done ++ linked a b c ∷ rest) (after_link seen.schema v a slot b)
    linked_by v a b done c rest long has =
        let made = ap (λ o. option_map_or (linked_at seen.schema v a slot b) o v) (slot_end seen.schema i slot told.couple) in
        record {
          units = ap (λ (x : World). x.units) made ∙ has.units;
          links = ap (λ (x : World). x.links) made ∙ (ap (λ (cs : Couples). with_pair cs i a b) has.links ∙ with_pair_at a b done c rest long);
          spaces = ap (λ (x : World). x.spaces) made ∙ has.spaces;
        }

    -- ---- the links of the couple

    abbrev new : ℕ → ℕ
    new n = renamed seen.world n

    module _ (done rest : List Couple) (long : length done ≡ i) where
      abbrev so_far : List (ℕ × ℕ) → Couple
      so_far front = with_pairs (no_pairs k.singular) (map (renew new) front)

      both_live : (p : ℕ × ℕ) → passes p ≡ true → (is_live seen.world.units p.0 && is_live seen.world.units p.1) ≡ true
      both_live p h = let owns = pair_owns seen schema_fits fits slot inverse p h in and_from (is_live seen.world.units p.0) (is_live seen.world.units p.1) owns.0.live owns.1.live

      same_new : (a b : ℕ) → is_live seen.world.units a ≡ true → is_live seen.world.units b ≡ true → (new a == new b) ≡ (a == b)
      same_new a b one other = same_number seen.world a b (lives seen.world a one) (lives seen.world b other)

      linked_with_one : (front : List (ℕ × ℕ)) (p : ℕ × ℕ) (qs : List (ℕ × ℕ)) → front ++ p ∷ qs ≡ k.pairs → linked (new p.0) (new p.1) (so_far front) ≡ so_far (front ++ p ∷ [])
      linked_with_one front p qs is =
          let parts = all_parts passes front p qs (ap (list_all passes) is ∙ told.pairs) in
          ap (λ ps. with_pairs (no_pairs k.singular) ps)
          (linked_last new (is_live seen.world.units) same_new k told.couple_fits front p qs is (all_weaker passes _ front both_live parts.0) (both_live p parts.1)
          ∙ sym (map-last (renew new) front p))

      -- the walk over some of its links, with what comes after
      record Goes (at : ℕ) (v : World) (es more : List FirstLinkDeclaration) : Type 0 where
        next_at : ℕ
        left : World
        same : try_fold_at (inside lists.Links) (link_after seen.schema names) at v (es ++ more) ≡ try_fold_at (inside lists.Links) (link_after seen.schema names) next_at left more
        has : Linked (done ++ so_far k.pairs ∷ rest) left

      goes_next : (at : ℕ) (v v' : World) (e : FirstLinkDeclaration) (es more : List FirstLinkDeclaration) → link_after seen.schema names v e ≡ Ok v' → Goes (suc at) v' es more → Goes at v (e ∷ es) more
      unfolding try_fold_at
      goes_next at v v' e es more one g = record {
        next_at = g.next_at;
        left = g.left;
        same = ap (λ r. map_err (inside lists.Links at) r >>= λ t. try_fold_at (inside lists.Links) (link_after seen.schema names) (suc at) t (es ++ more)) one ∙ g.same;
        has = g.has;
      }

      pairs_walk : (qs front : List (ℕ × ℕ)) (at : ℕ) (v : World) (more : List FirstLinkDeclaration) → front ++ qs ≡ k.pairs → Linked (done ++ so_far front ∷ rest) v → Goes at v (map (link_declared seen slot) qs) more
      pairs_walk [] front at v more is has = record {
        next_at = at;
        left = v;
        same = refl;
        has = subst (λ ps. Linked (done ++ so_far ps ∷ rest) v) (sym (append-nil front) ∙ is) has;
      }
      pairs_walk (p ∷ qs) front at v more is has =
          let pair = (all_parts passes front p qs (ap (list_all passes) is ∙ told.pairs)).1 in
          let after = after_link seen.schema v (new p.0) slot (new p.1) in
          goes_next at v after (link_declared seen slot p) (map (link_declared seen slot) qs) more (one_link p pair v has.units)
          (pairs_walk qs (front ++ p ∷ []) (suc at) after more (append_assoc front (p ∷ []) qs ∙ is)
          (subst (λ c. Linked (done ++ c ∷ rest) after) (linked_with_one front p qs is) (linked_by v (new p.0) (new p.1) done (so_far front) rest long has)))

  -- ---- all couples

  abbrev news : List Couple → List Couple
  news ks = map (with_new_pairs seen.world) ks

  abbrev empties : List ℕ → List Couple
  empties slots = map no_pairs (map (singular_of seen.schema.slots) slots)

  abbrev pub declared_links : List ℕ → List FirstLinkDeclaration
  declared_links slots = flat_map (λ slot. map (link_declared seen slot) (pairs_by seen.world.links slot)) slots

  -- the walk over the links of some couples
  pub record Makes (at : ℕ) (v : World) (slots : List ℕ) : Type 0 where
    pub made : World
    pub is : try_fold_at (inside lists.Links) (link_after seen.schema names) at v (declared_links slots) ≡ Ok made
    pub has : Linked (news seen.world.links.couples) made

  module _ (slots_done : List ℕ) (slot : ℕ) (slots : List ℕ) (done : List Couple) (k : Couple) (ks : List Couple)
      (slots_is : slots_done ++ slot ∷ slots ≡ couples seen.schema) (is : done ++ k ∷ ks ≡ seen.world.links.couples) (long : length done ≡ length slots_done) where
    abbrev i : ℕ
    i = length slots_done

    slot_is_told : IsTold seen schema_fits fits i slot k
    slot_is_told = couple_told seen schema_fits fits slots_done slot slots done k ks slots_is is long

    so_long : length (news done) ≡ i
    so_long = length-map done (with_new_pairs seen.world) ∙ long

    couple_walk : (at : ℕ) (v : World) → Linked (news done ++ empties (slot ∷ slots)) v → Goes i slot k slot_is_told (news done) (empties slots) so_long at v (map (link_declared seen slot) k.pairs) (declared_links slots)
    couple_walk at v has =
        pairs_walk i slot k slot_is_told (news done) (empties slots) so_long k.pairs [] at v (declared_links slots) refl
        (subst (λ g. Linked (news done ++ no_pairs g ∷ empties slots) v) (sym slot_is_told.singular) has)

    -- and what comes after them
    couple_then : (at : ℕ) (v : World) → Linked (news done ++ empties (slot ∷ slots)) v
        → ((at : ℕ) (v : World) → Linked (news (done ++ k ∷ []) ++ empties slots) v → Makes at v slots) → Makes at v (slot ∷ slots)
    couple_then at v has more =
        let g = couple_walk at v has in
        let whole : news (done ++ k ∷ []) ++ empties slots ≡ news done ++ with_new_pairs seen.world k ∷ empties slots = ap (λ cs. cs ++ empties slots) (map-last (with_new_pairs seen.world) done k) ∙ append_assoc (news done) (with_new_pairs seen.world k ∷ []) (empties slots) in
        let m = more g.next_at g.left (subst (λ cs. Linked cs g.left) (sym whole) g.has) in
        record {
          made = m.made;
          is = ap (λ ps. try_fold_at (inside lists.Links) (link_after seen.schema names) at v (map (link_declared seen slot) ps ++ declared_links slots)) slot_is_told.told ∙ (g.same ∙ m.is);
          has = m.has;
        }

  pub couples_walk : (slots slots_done : List ℕ) (ks done : List Couple) (at : ℕ) (v : World) → slots_done ++ slots ≡ couples seen.schema → done ++ ks ≡ seen.world.links.couples → length done ≡ length slots_done → length ks ≡ length slots
      → Linked (news done ++ empties slots) v → Makes at v slots
  unfolding try_fold_at
  couples_walk [] slots_done [] done at v slots_is is long also has = record {
    made = v;
    is = refl;
    has = subst (λ cs. Linked cs v) (append-nil (news done) ∙ ap news (sym (append-nil done) ∙ is)) has;
  }
  couples_walk [] slots_done (k ∷ ks) done at v slots_is is long also has = absurd (omega (arith, also))
  couples_walk (slot ∷ slots) slots_done [] done at v slots_is is long also has = absurd (omega (arith, also))
  couples_walk (slot ∷ slots) slots_done (k ∷ ks) done at v slots_is is long also has =
      couple_then slots_done slot slots done k ks slots_is is long at v has
      (λ at' v' has'. couples_walk slots (slots_done ++ slot ∷ []) ks (done ++ k ∷ []) at' v' (append_assoc slots_done (slot ∷ []) slots ∙ slots_is) (append_assoc done (k ∷ []) ks ∙ is)
      (length-append done (k ∷ []) ∙ (ap (λ n. n + 1) long ∙ sym (length-append slots_done (slot ∷ [])))) (omega (arith, also)) has')
