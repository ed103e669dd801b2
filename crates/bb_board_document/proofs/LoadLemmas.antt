-- The text of a blackboard's document, loaded, gives the blackboard under its new numbers.
use Rattle.std.proofs.Common.{◌≡◌, ℕ, ◌+◌, List, [], map, length, Some, None, Ok, refl, sym, ap, ◌∙◌, arith}
use Rattle.std.specs.Prelude.{decimal}
use Rattle.std.specs.Ordering.{nat_cmp}
use Rattle.std.specs.Cmp.Lexicographic.{slice_cmp}
use Rattle.std.specs.FinMap as fin
use Rattle.std.proofs.lemmas.List.{length-map}
use Rattle.serde_json.specs.Read.{read}
use Rattle.bb_basis.specs.Results.{try_fold_at}
use Rattle.bb_basis.proofs.ListLemmas.{map_map}
use Rattle.bb_schema_form.specs.UnitsDocument.{UnitsDeclaration, units_document_of}
use Rattle.bb_schema_form.specs.declared.place.ListKey.TheVariants as lists
use Rattle.bb_schema.specs.Schema.{Schema}
use Rattle.bb_schema.specs.Couples.{couples}
use Rattle.bb_schema.specs.Fits as schemas
use Rattle.bb_units.specs.declared.unit.Unit.{Unit as OneUnit}
use Rattle.bb_units.specs.Layout.{Layout, layout_of}
use Rattle.bb_units.specs.Units.{Units}
use Rattle.bb_links.specs.Layout.{singular_of}
use Rattle.bb_links.specs.Couples.{Couple}
use Rattle.bb_space.specs.Spaces.{Membership, Spaces, values_in}
use Rattle.bb_board.specs.UnitsFaults.{inside}
use Rattle.bb_board.specs.Load.{Progress, no_progress, entry_after, link_after, member_after, load}
use Rattle.bb_board.specs.State.{World}
use Rattle.bb_board.specs.World.{after_take}
use Rattle.bb_board.specs.Fits.{Fits}
use Rattle.bb_native.specs.Sight.{Sight}
use Rattle.bb_board_document.specs.Renumbered.{renamed, with_new_keys, renumbered}
use Rattle.bb_board_document.specs.Document.{name_of, units_data}
use Rattle.bb_board_document.specs.Loading.{LoadsAs}
use Rattle.bb_board_document.proofs.FormLemmas.{unit_declared, declared, document_read}
use Rattle.bb_board_document.proofs.SetLemmas.{none_in}
use Rattle.bb_board_document.proofs.WalkLemmas.{Reached, walk}
use Rattle.bb_board_document.proofs.PlaceLemmas.{Lives, number_within}
use Rattle.bb_board_document.proofs.LinkLemmas.{loaded_units, Makes, couples_walk}
use Rattle.bb_board_document.proofs.EnterLemmas.{Fills, entered_none, units_walk, spaces_same}

-- ---- the walks, one after another

declares : (text : List ℕ) (seen : Sight) → read text ≡ Some (units_data seen) → units_document_of text ≡ Ok (declared seen)
unfolding units_document_of
declares text seen is = rw is (document_read seen)

three_walks : (s : Schema) (text : List ℕ) (d : UnitsDeclaration) (p : Progress) (linked filled : World) → units_document_of text ≡ Ok d
    → try_fold_at (inside lists.Units) (entry_after s) 0 (no_progress s) d.units ≡ Ok p
    → try_fold_at (inside lists.Links) (link_after s p.names) 0 p.world d.links ≡ Ok linked
    → try_fold_at (inside lists.Spaces) (member_after s p.names) 0 linked d.spaces ≡ Ok filled
    → load s text ≡ Ok filled
unfolding load
three_walks s text d p linked filled one units links spaces = rw (one, units, links) spaces

module _ (seen : Sight) (schema_fits : schemas.Fits seen.schema) (fits : Fits seen.schema seen.world) where
  abbrev m : fin.FinMap nat_cmp OneUnit
  m = seen.world.units.units

  none_reached : Reached seen schema_fits fits [] (no_progress seen.schema)
  none_reached = record {
    units = refl;
    count = fin.len-empty nat_cmp OneUnit;
    above = λ i lt. fin.get-empty nat_cmp i;
    links = refl;
    spaces = refl;
    known = λ i low le. absurd (omega (arith, low, le));
    fresh = λ i lt below. fin.get-empty (slice_cmp nat_cmp) (decimal i);
  }

  units_done : (q : Progress) × (try_fold_at (inside lists.Units) (entry_after seen.schema) 0 (no_progress seen.schema) (map (λ (e : ℕ × OneUnit). unit_declared seen e.0) (fin.entries m)) ≡ Ok q) × Reached seen schema_fits fits (fin.entries m) q
  units_done = walk seen schema_fits fits [] (fin.entries m) (no_progress seen.schema) 0 refl none_reached

  abbrev p : Progress
  p = units_done.0

  known : (n : ℕ) → Lives seen.world n → fin.get p.names (name_of seen n) ≡ Some (renamed seen.world n)
  known n l = let number = number_within seen.world n l in units_done.2.known (renamed seen.world n) number.0 number.1

  abbrev next : ℕ
  next = length (fin.entries m) + 1

  as_many : length seen.world.links.couples ≡ length (couples seen.schema)
  as_many =
      sym (length-map seen.world.links.couples (λ (k : Couple). k.singular))
      ∙ (ap length fits.singular ∙ length-map (couples seen.schema) (singular_of seen.schema.slots))

  links_done : Makes seen schema_fits fits p.names known next 0 p.world (couples seen.schema)
  links_done =
      couples_walk seen schema_fits fits p.names known next (couples seen.schema) [] seen.world.links.couples [] 0 p.world refl refl refl as_many
      (record { units = units_done.2.units; links = units_done.2.links; spaces = units_done.2.spaces })

  abbrev linked : World
  linked = links_done.made

  none_entered : (space q : ℕ) → values_in linked.spaces space q ≡ None
  none_entered space q =
      ap (λ (t : Spaces). values_in t space q) links_done.has.spaces
      ∙ (ap (λ (x : Membership). fin.get x q) (none_in seen.schema.spaces space 0) ∙ fin.get-empty nat_cmp q)

  count_linked : length linked.spaces.spaces ≡ length seen.world.spaces.spaces
  count_linked =
      ap (λ (t : Spaces). length t.spaces) links_done.has.spaces
      ∙ (length-map seen.schema.spaces _ ∙ sym fits.spaces.spaces)

  spaces_done : Fills seen schema_fits fits p.names known next 0 linked linked (map (λ (e : ℕ × OneUnit). e.0) (fin.entries m))
  spaces_done =
      units_walk seen schema_fits fits p.names known next (fin.entries m) [] 0 linked linked refl
      (entered_none seen schema_fits fits p.names known next linked links_done.has.units count_linked none_entered)

  -- ---- the blackboard that is made

  abbrev made : World
  made = spaces_done.made

  loaded_is : loaded_units seen schema_fits fits p.names known next ≡ (renumbered seen).units
  loaded_is =
      ap (λ i. (let u : Units = record { next = i + 1; units = with_new_keys seen.world m; layout = layout_of seen.schema } in u)) (sym (fin.len-entries m))
      ∙ ap (λ (l : Layout). (let u : Units = record { next = fin.len m + 1; units = with_new_keys seen.world m; layout = l } in u)) (sym fits.layout)

  made_is : after_take made ≡ renumbered seen
  made_is =
      let units : made.units ≡ (renumbered seen).units = spaces_done.has.units ∙ loaded_is in
      let links : made.links ≡ (renumbered seen).links = spaces_done.has.links ∙ links_done.has.links in
      let spaces : made.spaces ≡ (renumbered seen).spaces = spaces_same seen schema_fits fits p.names known next linked made spaces_done.has in
      λ i. record { units = units i; links = links i; spaces = spaces i; notes = [] }

  pub loads : (text : List ℕ) → read text ≡ Some (units_data seen) → LoadsAs seen.schema text (renumbered seen)
  loads text is = (
    made,
    three_walks seen.schema text (declared seen) p linked made (declares text seen is)
        (ap (λ us. try_fold_at (inside lists.Units) (entry_after seen.schema) 0 (no_progress seen.schema) us) (map_map (unit_declared seen) (λ (e : ℕ × OneUnit). e.0) (fin.entries m)) ∙ units_done.1)
        links_done.is spaces_done.is,
    made_is,
  )
