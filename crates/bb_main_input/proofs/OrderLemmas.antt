-- The order of the sections, one after another.
use Rattle.std.proofs.Common.{◌≡◌, ◌≢◌, ℕ, ◌<◌, ◌==◌, Bool, true, false, List, [], ◌∷◌, length, Option, Some, None, Ok, Err, refl, sym, ap, ◌∙◌, arith, cond}
use Rattle.std.specs.Prelude.{codes, if◌then◌else◌}
use Rattle.std.specs.Borrow.{Bor}
use Rattle.std.specs.Option.{unwrap_or}
use Rattle.std.specs.Str.{bytes_eq}
use Rattle.std.proofs.lemmas.List.{nil_from_length}
use Rattle.bb_main_input.specs.declared.sections.Header.{Header}
use Rattle.bb_main_input.specs.declared.sections.Header.TheVariants.{Schema, Units, Sources, Bundle}
use Rattle.bb_main_input.specs.declared.section_fault.SectionFault.TheVariants.{Sections as NotInOrder}
use Rattle.bb_main_input.specs.Lines.{lines, onto_first}
use Rattle.bb_main_input.specs.Sections.{header_of, before, parts, line_before, with_part, Part, part, Texts, alone, bundle_first, in_order, sections_of, sources_first, units_first}
use Rattle.bb_main_input.specs.proving.Cuts.{Begins, Takes}

units-none : (ps : List Part) → ((s : List ℕ) (others : List Part) → ps ≢ part Units s ∷ others) → units_first ps ≡ (codes "{}", ps)
units-none [] lacks = refl
units-none (part Units u ∷ others) lacks = absurd (lacks u others refl)
units-none (part Schema u ∷ others) lacks = refl
units-none (part Sources u ∷ others) lacks = refl
units-none (part Bundle u ∷ others) lacks = refl

sources-none : (ps : List Part) → ((s : List ℕ) (others : List Part) → ps ≢ part Sources s ∷ others) → sources_first ps ≡ ([], ps)
sources-none [] lacks = refl
sources-none (part Sources u ∷ others) lacks = absurd (lacks u others refl)
sources-none (part Schema u ∷ others) lacks = refl
sources-none (part Bundle u ∷ others) lacks = refl
sources-none (part Units u ∷ others) lacks = refl

bundle-none : (ps : List Part) → ((s : List ℕ) (others : List Part) → ps ≢ part Bundle s ∷ others) → bundle_first ps ≡ ([], ps)
bundle-none [] lacks = refl
bundle-none (part Bundle u ∷ others) lacks = absurd (lacks u others refl)
bundle-none (part Schema u ∷ others) lacks = refl
bundle-none (part Sources u ∷ others) lacks = refl
bundle-none (part Units u ∷ others) lacks = refl

-- what a section that may be absent leaves
pub record Left (first : List Part → List ℕ × List Part) (rest : List ℕ) (got : Bor (List ℕ) × Bor (List ℕ)) : Type 0 where
  pub is : first (parts (lines rest)) ≡ (got.0.now, parts (lines got.1.now))
  pub begins : Begins got.1.now

pub units-taken : (rest : List ℕ) (taken : Option (Bor (List ℕ) × Bor (List ℕ))) (d got : Bor (List ℕ) × Bor (List ℕ)) → got ≡ unwrap_or taken d → Takes Units rest taken → Begins rest → d.0.now ≡ codes "{}" → d.1.now ≡ rest → Left units_first rest got
units-taken rest (Some p) d got is takes begins none same = rw is (record { is = ap units_first takes.1; begins = takes.2 })
units-taken rest None d got is takes begins none same = rw (is, none, same) (record { is = units-none (parts (lines rest)) (takes begins); begins = begins })

pub sources-taken : (rest : List ℕ) (taken : Option (Bor (List ℕ) × Bor (List ℕ))) (d got : Bor (List ℕ) × Bor (List ℕ)) → got ≡ unwrap_or taken d → Takes Sources rest taken → Begins rest → d.0.now ≡ [] → d.1.now ≡ rest → Left sources_first rest got
sources-taken rest (Some p) d got is takes begins none same = rw is (record { is = ap sources_first takes.1; begins = takes.2 })
sources-taken rest None d got is takes begins none same = rw (is, none, same) (record { is = sources-none (parts (lines rest)) (takes begins); begins = begins })

pub bundle-taken : (rest : List ℕ) (taken : Option (Bor (List ℕ) × Bor (List ℕ))) (d got : Bor (List ℕ) × Bor (List ℕ)) → got ≡ unwrap_or taken d → Takes Bundle rest taken → Begins rest → d.0.now ≡ [] → d.1.now ≡ rest → Left bundle_first rest got
bundle-taken rest (Some p) d got is takes begins none same = rw is (record { is = ap bundle_first takes.1; begins = takes.2 })
bundle-taken rest None d got is takes begins none same = rw (is, none, same) (record { is = bundle-none (parts (lines rest)) (takes begins); begins = begins })

pub sections-lacks : (text : List ℕ) → (Begins text → (s : List ℕ) (others : List Part) → parts (lines text) ≢ part Schema s ∷ others) → sections_of text ≡ Err NotInOrder
unfolding sections_of
sections-lacks text lacks = go (before (lines text)) (parts (lines text)) lacks
  where
    go : (b : List ℕ) (ps : List Part) → (b ≡ [] → (s : List ℕ) (others : List Part) → ps ≢ part Schema s ∷ others) → (if bytes_eq b [] then in_order ps else Err NotInOrder) ≡ Err NotInOrder
    go (x ∷ b) ps lacks = refl
    go [] [] lacks = refl
    go [] (part Schema s ∷ others) lacks = absurd (lacks refl s others refl)
    go [] (part Units s ∷ others) lacks = refl
    go [] (part Sources s ∷ others) lacks = refl
    go [] (part Bundle s ∷ others) lacks = refl

-- a pair whose halves are known
abbrev both : (List ℕ × List Part) → List ℕ → List Part → Type 0
both p text others = p ≡ (text, others)

in_order-as : (s u t b : List ℕ) (others behind_units behind_sources left : List Part) → both (units_first others) u behind_units → both (sources_first behind_units) t behind_sources → both (bundle_first behind_sources) b left
    → in_order (part Schema s ∷ others) ≡ alone (record { schema = s; units = u; sources = t; bundle = b }) left
in_order-as s u t b others behind_units behind_sources left first second third =
    ap (λ (p : List ℕ × List Part). alone (record { schema = s; units = p.0; sources = (sources_first p.1).0; bundle = (bundle_first (sources_first p.1).1).0 }) (bundle_first (sources_first p.1).1).1) first
    ∙ (ap (λ (p : List ℕ × List Part). alone (record { schema = s; units = u; sources = p.0; bundle = (bundle_first p.1).0 }) (bundle_first p.1).1) second
    ∙ ap (λ (p : List ℕ × List Part). alone (record { schema = s; units = u; sources = t; bundle = p.0 }) p.1) third)

pub sections-finish : (text s rest : List ℕ) (units sources bundle : Bor (List ℕ) × Bor (List ℕ)) → Begins text → parts (lines text) ≡ part Schema s ∷ parts (lines rest) → Left units_first rest units → Left sources_first units.1.now sources → Left bundle_first sources.1.now bundle
    → sections_of text ≡ alone (record { schema = s; units = units.0.now; sources = sources.0.now; bundle = bundle.0.now }) (parts (lines bundle.1.now))
unfolding sections_of
sections-finish text s rest units sources bundle begins is first second third =
    ap (λ b. if bytes_eq b [] then in_order (parts (lines text)) else Err NotInOrder) begins ∙ (ap in_order is
    ∙ in_order-as s units.0.now sources.0.now bundle.0.now (parts (lines rest)) (parts (lines units.1.now)) (parts (lines sources.1.now)) (parts (lines bundle.1.now)) first.is second.is third.is)

pub alone-end : (texts : Texts) (rest : List ℕ) → length rest ≡ 0 → alone texts (parts (lines rest)) ≡ Ok texts
alone-end texts rest empty = ap (λ r. alone texts (parts (lines r))) (nil_from_length rest empty)

onto-begin : (x : ℕ) (found : List (List ℕ)) → (l : List ℕ) × (ls : List (List ℕ)) × (onto_first x found ≡ (x ∷ l) ∷ ls)
onto-begin x [] = ([], [], refl)
onto-begin x (line ∷ found) = (line, found, refl)

lines-begin : (x : ℕ) (bytes : List ℕ) → (l : List ℕ) × (ls : List (List ℕ)) × (lines (x ∷ bytes) ≡ (x ∷ l) ∷ ls)
lines-begin x bytes = go (x == 10)
  where
    go : (t : Bool) → (l : List ℕ) × (ls : List (List ℕ)) × (cond t ((x ∷ []) ∷ lines bytes) (onto_first x (lines bytes)) ≡ (x ∷ l) ∷ ls)
    go true = ([], lines bytes, refl)
    go false = onto-begin x (lines bytes)

pub alone-more : (texts : Texts) (rest : List ℕ) → Begins rest → 0 < length rest → alone texts (parts (lines rest)) ≡ Err NotInOrder
alone-more texts [] begins some = absurd (omega arith)
alone-more texts (x ∷ bytes) begins some =
    let shape = lines-begin x bytes in
    ap (λ ls. alone texts (parts ls)) shape.2 ∙ go (header_of (x ∷ shape.0)) shape.0 (before shape.1) (parts shape.1) (sym (ap before shape.2) ∙ begins)
  where
    go : (found : Option Header) (l rest : List ℕ) (ps : List Part) → line_before found (x ∷ l) rest ≡ [] → alone texts (with_part found rest ps) ≡ Err NotInOrder
    go (Some h) l rest ps none = refl
    go None l rest ps none = cc
