-- The link slots that a class's entries declare, one after another. A link may lead to a class that is declared later
-- in the document, so its inverse is looked up among all class entries.
use Rattle.std.specs.Prelude.{ℕ, Bool, false, not, ◌&&◌, ◌||◌, List, map, Option, Some, None, find, Result, Ok, Err, if◌then◌else◌}
use Rattle.std.specs.List.{list_any}
use Rattle.std.specs.Str.{bytes_eq}
use Rattle.bb_basis.specs.Results.{◌>>=◌, ok_or}
use Rattle.bb_schema_form.specs.Document.{ClassDeclaration, LinkDeclaration}
use Rattle.bb_schema_classes.specs.declared.fault.SchemaFault.{SchemaFault}
use Rattle.bb_schema_classes.specs.Faults.{here}
use Rattle.bb_schema_classes.specs.declared.fault.SchemaFlaw.TheVariants.{Name, Twice, Unknown, Inverse, Limit}
use Rattle.bb_schema_classes.specs.declared.draft.Draft.{Draft}
use Rattle.bb_schema_classes.specs.declared.draft.DraftContent.TheVariants.{Link}
use Rattle.bb_schema_classes.specs.declared.draft.LinkDraft.{LinkDraft}
use Rattle.bb_basis.specs.Names.{is_name}
use Rattle.bb_schema_classes.specs.Drafts.{ClassDraft, has_slot_named, is_full, with_slot}

-- the first item with a name
unfoldable pub first_named : {X : Type 0} → (X → List ℕ) → List ℕ → List X → Option X
first_named name_of name xs = find (λ x. bytes_eq name (name_of x)) xs

-- the link slot with a name that a class itself declares; none if an ordinary slot of the class has the name
abbrev pub link_entry : ClassDeclaration → List ℕ → Option LinkDeclaration
link_entry class name =
    if list_any (bytes_eq name) (map (λ s. s.name) class.slots) then None
    else first_named (λ l. l.name) name class.links

-- whether the link has the target class and the inverse with these names
abbrev pub leads_to : LinkDeclaration → List ℕ → List ℕ → Bool
leads_to link class inverse = bytes_eq link.to class && bytes_eq link.inverse inverse

-- whether the link owns nothing, or its inverse is singular and owns nothing
abbrev pub may_own : LinkDeclaration → LinkDeclaration → Bool
may_own link back = not link.owns || (not back.many && not back.owns)

-- whether the inverse exists, leads back to the link of the class with the name, and allows the link to own, if it does
abbrev pub is_back : Option LinkDeclaration → List ℕ → LinkDeclaration → Bool
is_back None class link = false
is_back (Some back) class link = leads_to back class link.name && may_own link back

-- whether the target class of a link, of the class with the name, declares its inverse: another slot, which leads back
abbrev pub leads_back : ClassDeclaration → List ℕ → LinkDeclaration → Bool
leads_back target class link =
    not (leads_to link class link.name) && is_back (link_entry target link.inverse) class link

-- the link of an entry, with the names of its target class and its inverse
abbrev pub drafted_link : LinkDeclaration → LinkDraft
drafted_link entry = record { to = entry.to; many = entry.many; inverse = entry.inverse; owns = entry.owns }

-- the link slot of an entry
abbrev pub draft_of_link : ℕ → LinkDeclaration → Draft
draft_of_link owner entry = record { name = entry.name; owner = owner; content = Link (drafted_link entry) }

-- the class with this name and number owner, with the entry's link slot added, or the entry's fault
unfoldable pub link_after : List ClassDeclaration → List ℕ → ℕ → ClassDraft → LinkDeclaration
    → Result ClassDraft SchemaFault
link_after all class owner g entry =
    if not (is_name entry.name) then Err (here Name)
    else if has_slot_named g entry.name then Err (here Twice)
    else ok_or (first_named (λ c. c.name) entry.to all) (here Unknown) >>= λ target.
    if not (leads_back target class entry) then Err (here Inverse)
    else if is_full g then Err (here Limit)
    else Ok (with_slot g (draft_of_link owner entry))
