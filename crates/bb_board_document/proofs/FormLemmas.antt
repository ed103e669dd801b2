-- What the document declares: the form of each entry, and of the whole.
use Rattle.std.proofs.Common.{◌≡◌, ℕ, suc, List, [], ◌∷◌, ◌++◌, map, codes, Result, Ok, refl, sym, ap, ◌∙◌}
use Rattle.std.specs.Prelude.{unwrap_or}
use Rattle.std.specs.List.{flat_map, fold}
use Rattle.std.proofs.lemmas.List.{append-nil}
use Rattle.serde_json.specs.Data.{Data, object, Members, no_members, member}
use Rattle.serde_json.specs.View.{items_of}
use Rattle.bb_basis.specs.Results.{try_map_at}
use Rattle.bb_schema_form.specs.declared.fault.DocumentFault.{DocumentFault}
use Rattle.bb_schema_form.specs.declared.place.ListKey.{ListKey}
use Rattle.bb_schema_form.specs.declared.place.ListKey.TheVariants as lists
use Rattle.bb_schema_form.specs.Faults.{inside}
use Rattle.bb_schema_form.specs.Shapes.{list_of}
use Rattle.bb_schema_form.specs.Form.{text_of}
use Rattle.bb_schema_form.specs.UnitsDocument.{UnitDeclaration, FirstLinkDeclaration, MemberDeclaration, UnitsDeclaration}
use Rattle.bb_schema_form.specs.UnitsDocument.{givens_of, given_slots_of, unit_of, first_link_of_names, first_link_of, member_of_names, member_of, units_declaration_of}
use Rattle.bb_schema.specs.Schema.{slots_of, name_of_class, name_of_slot, name_of_space}
use Rattle.bb_schema.specs.Couples.{couples}
use Rattle.bb_units.specs.Units.{live_units}
use Rattle.bb_links.specs.Links.{pairs_by}
use Rattle.bb_space.specs.Spaces.{spaces_of}
use Rattle.bb_board.specs.World.{class_at}
use Rattle.bb_native.specs.Sight.{Sight}
use Rattle.bb_board_document.specs.Values.{list_data}
use Rattle.bb_board_document.specs.Document.{name_of, with_given, unit_data, link_data, member_data, units_data}

-- ---- what is declared

module _ (seen : Sight) where
  -- what a unit gives for its slots, as it stands in its entry
  abbrev pub given_members : (unit class : ℕ) → Members
  given_members n class = fold (with_given seen n) no_members (slots_of seen.schema class)

  abbrev pub class_name : (class : ℕ) → List ℕ
  class_name class = unwrap_or (name_of_class seen.schema class) []

  abbrev pub slot_name : (slot : ℕ) → List ℕ
  slot_name slot = unwrap_or (name_of_slot seen.schema slot) []

  abbrev pub space_name : (space : ℕ) → List ℕ
  space_name space = unwrap_or (name_of_space seen.schema space) []

  abbrev pub unit_declared : (unit : ℕ) → UnitDeclaration
  unit_declared n = let class = class_at seen.world n in
      record { name = name_of seen n; class = class_name class; slots = givens_of (given_members n class) }

  abbrev pub link_declared : (slot : ℕ) → (pair : ℕ × ℕ) → FirstLinkDeclaration
  link_declared slot p = record { from = name_of seen p.0; slot = slot_name slot; to = name_of seen p.1 }

  abbrev pub member_declared : (unit space : ℕ) → MemberDeclaration
  member_declared n space = record { unit = name_of seen n; space = space_name space }

  abbrev pub declared : UnitsDeclaration
  declared = let live = live_units seen.world.units in record {
    units = map unit_declared live;
    links = flat_map (λ slot. map (link_declared slot) (pairs_by seen.world.links slot)) (couples seen.schema);
    spaces = flat_map (λ n. map (member_declared n) (spaces_of seen.world.spaces n)) live;
  }

  unit_read : (n : ℕ) → unit_of (unit_data seen n) ≡ Ok (unit_declared n)
  unfolding unit_of given_slots_of
  unit_read n = refl

  link_read : (slot : ℕ) (p : ℕ × ℕ) → first_link_of (link_data seen slot p) ≡ Ok (link_declared slot p)
  unfolding first_link_of first_link_of_names text_of
  link_read slot p = refl

  member_read : (n space : ℕ) → member_of (member_data seen n space) ≡ Ok (member_declared n space)
  unfolding member_of member_of_names text_of
  member_read n space = refl

-- ---- lists of entries

list_back : (ds : List Data) → list_of (items_of ds) ≡ ds
list_back [] = refl
list_back (d ∷ ds) = ap (λ es. d ∷ es) (list_back ds)

module _ {X : Type 0} (key : ListKey) (form : Data → Result X DocumentFault) where
  -- the entries have the form, and declare these
  abbrev Read : List Data → List X → Type 0
  Read ds xs = (n : ℕ) → try_map_at (inside key) form n ds ≡ Ok xs

  read_map_then : {A : Type 0} (shows : A → Data) (declares : A → X) (all : List A) (ds : List Data) (xs : List X) → ((a : A) → form (shows a) ≡ Ok (declares a)) → Read ds xs → Read (map shows all ++ ds) (map declares all ++ xs)
  unfolding try_map_at
  read_map_then shows declares [] ds xs each rest n = rest n
  read_map_then shows declares (a ∷ all) ds xs each rest n = rw (each a, read_map_then shows declares all ds xs each rest (suc n)) refl

  read_none : Read [] []
  unfolding try_map_at
  read_none n = refl

  read_map : {A : Type 0} (shows : A → Data) (declares : A → X) (all : List A) → ((a : A) → form (shows a) ≡ Ok (declares a)) → Read (map shows all) (map declares all)
  read_map shows declares all each n =
      ap (λ ds. try_map_at (inside key) form n ds) (sym (append-nil (map shows all)))
      ∙ (read_map_then shows declares all [] [] each read_none n ∙ ap (λ xs. Ok xs) (append-nil (map declares all)))

  read_flat_map : {A B : Type 0} (shows : A → B → Data) (declares : A → B → X) (inner : A → List B) (all : List A) → ((a : A) (b : B) → form (shows a b) ≡ Ok (declares a b))
      → Read (flat_map (λ a. map (shows a) (inner a)) all) (flat_map (λ a. map (declares a) (inner a)) all)
  read_flat_map shows declares inner [] each = read_none
  read_flat_map shows declares inner (a ∷ all) each =
      read_map_then (shows a) (declares a) (inner a) (flat_map (λ a. map (shows a) (inner a)) all) (flat_map (λ a. map (declares a) (inner a)) all) (each a) (read_flat_map shows declares inner all each)

-- ---- the whole document

document_of : (ls ms us : List Data) (links : List FirstLinkDeclaration) (spaces : List MemberDeclaration) (units : List UnitDeclaration) → Read lists.Links first_link_of ls links → Read lists.Spaces member_of ms spaces → Read lists.Units unit_of us units
    → units_declaration_of (object (member (codes "links") (list_data ls) (member (codes "spaces") (list_data ms) (member (codes "units") (list_data us) no_members)))) ≡ Ok (record { units = units; links = links; spaces = spaces })
unfolding units_declaration_of
document_of ls ms us links spaces units l m u = rw (list_back us, u 0, list_back ls, l 0, list_back ms, m 0) refl

pub document_read : (seen : Sight) → units_declaration_of (units_data seen) ≡ Ok (declared seen)
document_read seen =
    document_of _ _ _ _ _ _
    (read_flat_map lists.Links first_link_of (link_data seen) (link_declared seen) (pairs_by seen.world.links) (couples seen.schema) (link_read seen))
    (read_flat_map lists.Spaces member_of (member_data seen) (member_declared seen) (spaces_of seen.world.spaces) (live_units seen.world.units) (member_read seen))
    (read_map lists.Units unit_of (unit_data seen) (unit_declared seen) (live_units seen.world.units) (unit_read seen))
