use Rattle.std.proofs.Common.{◌≡◌, ◌∙◌, Bool, true, false, cond, Option, None, Bor, List, refl, ap, sym, map}
use Rattle.std.specs.Prelude.{option_map, option_and_then, slice_get}
use Rattle.bb_schema_form.specs.declared.document.LinkEntry.{LinkEntry}
use Rattle.bb_schema_form.specs.Document.{SlotDeclaration, LinkDeclaration, link_declaration, class_declaration}
use Rattle.bb_schema_classes.proofs.IndexLemmas.{named_by, indexed_any, seen_through}
use Rattle.bb_schema_classes.proofs.read.entries.ClassIndex.link.Goals as goal

-- what a slot of the name leaves of the links
behind : (slot : Bool) (links : Option LinkDeclaration) → slot ≡ true → None ≡ cond slot None links
behind true links there = refl
behind false links there = absurd cc

-- without a slot of the name they are as they are
before : (slot : Bool) (one links : Option LinkDeclaration) → slot ≡ false → one ≡ links → one ≡ cond slot None links
before true one links there same = absurd cc
before false one links there same = same

pub returns-then-is_indexed : goal.returns-then-is_indexed
returns-then-is_indexed c =
    rw (← c.self.view_is) (behind _ _ (sym (indexed_any c.self.inside.slots (map (λ (s : SlotDeclaration). s.name) (class_declaration c.self.inside.entry.now).slots) c.args.name.now c.self.invariant.slots)
    ∙ (sym c.is_indexed.ensures ∙ c.if-is_indexed.true)))

pub returns : goal.returns
returns c =
    rw (← c.self.view_is) (before _ _ _ (sym (indexed_any c.self.inside.slots (map (λ (s : SlotDeclaration). s.name) (class_declaration c.self.inside.entry.now).slots) c.args.name.now c.self.invariant.slots)
    ∙ (sym c.is_indexed.ensures ∙ c.if-is_indexed.false))
    (seen_through (λ (r : Bor LinkEntry). r.now) link_declaration c.link_at.result
    ∙ (ap (option_map link_declaration) (c.link_at.ensures ∙ ap (λ (xs : List LinkEntry). option_and_then (slice_get xs) c.indexed_place.result) c.deref.ensures.value)
    ∙ named_by link_declaration (λ (d : LinkDeclaration). d.name) c.self.inside.entry.now.links.items c.self.inside.links c.args.name.now c.indexed_place.result c.self.invariant.links c.indexed_place.ensures)))
