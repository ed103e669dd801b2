-- Sequences lead from frame to frame: units that a unit is linked to, and queries with their patterns.
use Rattle.std.proofs.Common.{◌≡◌, ℕ, suc, ◌+◌, ◌<◌, true, List, [], ◌∷◌, ◌++◌, length, reverse, take, drop, Option, Some, None, Result, Ok, Err, refl, sym, ap, ◌∙◌, arith, length-append}
use Rattle.std.proofs.Math.Seq.{take-append_seam, drop-append_seam}
use Rattle.std.proofs.lemmas.List.{reverse-append, length-reverse}
use Rattle.bb_basis.specs.Results.{◌>>=◌}
use Rattle.bb_basis.proofs.ResultLemmas.{bind_ok}
use Rattle.bb_schema_classes.specs.declared.kind.Link.{Link}
use Rattle.bb_code.specs.declared.parts.TheConstants.{STACK_LIMIT}
use Rattle.bb_schema.specs.Schema.{Schema}
use Rattle.bb_schema.specs.Fits as schemas
use Rattle.bb_code.specs.Code.{Code}
use Rattle.bb_code.specs.declared.flaw.Flaw.{Flaw as CodeFlaw}
use Rattle.bb_code.specs.declared.frame.Kind.{Kind}
use Rattle.bb_code.specs.declared.frame.Kind.TheVariants as kinds
use Rattle.bb_code.specs.declared.op.Op.TheVariants as ops
use Rattle.bb_pattern.specs.declared.value.OperandKind.{OperandKind}
use Rattle.bb_lang.specs.Variable.{Variable}
use Rattle.bb_compile_scope.specs.declared.fault.TextFlaw.{TextFlaw}
use Rattle.bb_compile_scope.specs.Kinds.{class_of, is_live}
use Rattle.bb_compile_scope.specs.Slots as slots
use Rattle.bb_compile_scope.specs.Slots.{index_of, in_byte, dimension_at, dimension}
use Rattle.bb_compile.specs.Queries.{linked_by, linked_from, links_code}
use Rattle.bb_compile_buffer.specs.declared.buffer.Buffer.{Buffer}
use Rattle.bb_compile_buffer.specs.Buffers.{noted, put}
use Rattle.bb_compile_buffer.specs.Operations.{Made}
use Rattle.bb_compile_buffer.specs.Atoms.{unit_code}
use Rattle.bb_verify_effect.specs.declared.part.Part.{Part}
use Rattle.bb_verify_effect.specs.declared.frame.Frame.{Frame}
use Rattle.bb_verify_effect.specs.Frame.{with_stack, pop, push}
use Rattle.bb_verify_effect.specs.Due as dues
use Rattle.bb_verify_effect.specs.Effect.{effect, on, links, size}
use Rattle.bb_verify.specs.Tables.{in_tables}
use Rattle.bb_theorem_accepted.proofs.buffers.StraightLemmas.{Gives, Leads, leads_on}
use Rattle.bb_theorem_accepted.proofs.kinds.UnderLemmas.{IsUnder, under_class}
use Rattle.bb_theorem_accepted.proofs.buffers.BufferLemmas.{Clean, with_op, never_noted, put_ok, grown_op, grown_on}
use Rattle.bb_theorem_accepted.proofs.buffers.PutLemmas.{pair_ok, clean_before}
use Rattle.bb_theorem_accepted.proofs.kinds.HeldLemmas.{link_below}
use Rattle.bb_theorem_accepted.proofs.buffers.EffectLemmas.{push_on}
use Rattle.bb_theorem_accepted.proofs.kinds.SlotKinds.{link_class}
use Rattle.bb_theorem_accepted.proofs.buffers.LayLemmas.{Lays, LaysUnits, bare_op}
use Rattle.bb_theorem_accepted.proofs.straight.AtomLemmas.{live_on, unit_lays, no_unit}

-- ---- operands on the stack

pub pile : (ks rest : List Kind) (k : Kind) → k ∷ (reverse ks ++ rest) ≡ reverse (ks ++ k ∷ []) ++ rest
pile ks rest k = ap (λ l. l ++ rest) (sym (reverse-append ks (k ∷ [])))

reversed : (ks : List Kind) → reverse (reverse ks) ≡ ks
reversed [] = refl
reversed (k ∷ ks) = ap reverse (reverse-append (k ∷ []) ks) ∙ reverse-append (reverse ks) (k ∷ []) ∙ ap (λ l. k ∷ l) (reversed ks)

-- what stands on top of a pile, and below it
pub piled : (n : ℕ) (ks rest : List Kind) → n ≡ length ks → (reverse (take n (reverse ks ++ rest)) ≡ ks) × (drop n (reverse ks ++ rest) ≡ rest)
piled n ks rest count =
    let own : n ≡ length (reverse ks) = count ∙ sym (length-reverse ks) in (
      ap (λ k. reverse (take k (reverse ks ++ rest))) own ∙ ap reverse (take-append_seam (reverse ks) rest) ∙ reversed ks,
      ap (λ k. drop k (reverse ks ++ rest)) own ∙ drop-append_seam (reverse ks) rest,
    )

pub pile_count : (ks rest : List Kind) → length (reverse ks ++ rest) ≡ length ks + length rest
pile_count ks rest = length-append (reverse ks) rest ∙ ap (λ n. n + length rest) (length-reverse ks)

-- ---- operands of the kinds that are due

abbrev pub AreDue : List OperandKind → List Kind → Type 0
AreDue [] [] = Unit {0}
AreDue (o ∷ os) (k ∷ ks) = (dues.operand_due o k ≡ Ok tt) × AreDue os ks
AreDue _ _ = ⊥

pub due_count : (os : List OperandKind) (ks : List Kind) → AreDue os ks → length os ≡ length ks
due_count [] [] d = refl
due_count [] (k ∷ ks) d = absurd d
due_count (o ∷ os) [] d = absurd d
due_count (o ∷ os) (k ∷ ks) d = ap suc (due_count os ks d.1)

pub due_more : (os : List OperandKind) (ks : List Kind) (o : OperandKind) (k : Kind) → AreDue os ks → dues.operand_due o k ≡ Ok tt → AreDue (os ++ o ∷ []) (ks ++ k ∷ [])
due_more [] [] o k d one = (one, tt)
due_more [] (x ∷ ks) o k d one = absurd d
due_more (x ∷ os) [] o k d one = absurd d
due_more (x ∷ os) (y ∷ ks) o k d one = (d.0, due_more os ks o k d.1 one)

pub all_due : (os : List OperandKind) (ks : List Kind) → AreDue os ks → dues.operands_due os ks ≡ Ok tt
unfolding dues.operands_due
all_due [] [] d = refl
all_due [] (k ∷ ks) d = absurd d
all_due (o ∷ os) [] d = absurd d
all_due (o ∷ os) (k ∷ ks) d = ap (λ (r : Result (Unit {0}) CodeFlaw). r >>= λ _. dues.operands_due os ks) d.0 ∙ all_due os ks d.1

module _ (schema : Schema) (sf : schemas.Fits schema) (part : Part) (code : Code) where
  -- ---- links

  links_on : (k : Kind) (c slot : ℕ) (link : Link) (b : Frame) (rest : List Kind) → dues.class_of k ≡ Ok c → dues.live k ≡ Ok tt → dues.link_slot schema c slot ≡ Ok link → length rest < STACK_LIMIT
      → links schema slot (with_stack (k ∷ rest) b) ≡ Ok (with_stack (kinds.Seq link.to ∷ rest) b)
  unfolding links
  links_on k c slot link b rest class live there lt =
      ap (λ (r : Result (ℕ × Frame) CodeFlaw). r >>= λ unit. dues.link_slot schema unit.0 slot >>= λ link. push (kinds.Seq link.to) unit.1) (live_on schema sf part code k c b rest class live)
      ∙ (ap (λ (r : Result Link CodeFlaw). r >>= λ link. push (kinds.Seq link.to) (with_stack rest b)) there ∙ push_on schema sf part code (kinds.Seq link.to) (with_stack rest b) lt)

  links_give : (t : Kind) (class : ℕ) (name : List ℕ) (p : ℕ × Link) (b : Frame) (rest : List Kind) (k : Kind) → class_of t ≡ Some class → is_live t ≡ true → slots.link_slot schema class name ≡ Ok p → IsUnder schema sf k t → length rest < STACK_LIMIT
      → Gives schema part code (ops.Links p.0) (with_stack (k ∷ rest) b) (with_stack (kinds.Seq p.1.to ∷ rest) b)
  unfolding effect in_tables
  links_give t class name p b rest k of live slot under lt =
      let unit = under_class schema sf k t class under of in
      record { straight = refl; tables = refl; gives = ap on (links_on k unit.0 p.0 p.1 b rest unit.1 (unit.3 live) (link_below schema sf class name unit.0 unit.2 p slot) lt) }

  pub links_lay : (v : Variable) (name : List ℕ) (space : ℕ) (s t : Buffer) (class : Option ℕ) → links_code schema v name space s ≡ Ok (class, t) → Clean t → LaysUnits schema sf part code space s t class
  unfolding links_code grown_on grown_op
  links_lay v name space s t class h clean =
      let one = bind_ok (unit_code v space s) (λ p. linked_from schema name p.0 p.1) (class, t) h in by_class one.0.0 one.0.1 one.1 one.2
    where
      by_slot : (c : ℕ) (u : Buffer) (r : Result (ℕ × Link) TextFlaw) → unit_code v space s ≡ Ok (Some c, u) → slots.link_slot schema c name ≡ r → linked_by r u ≡ Ok (class, t) → LaysUnits schema sf part code space s t class
      by_slot c u (Err flaw) unit at h = never_noted flaw u (ap (λ (x : Buffer). x.flaw) (pair_ok None class (noted flaw u) t h).1 ∙ clean)
      by_slot c u (Ok p) unit at h =
          let one = bind_ok (put (ops.Links p.0) u) (λ x. Ok (Some p.1.to, x)) (class, t) h in
          let same = pair_ok (Some p.1.to) class one.0 t one.2 in
          let put_is : t ≡ with_op (ops.Links p.0) u = sym same.1 ∙ put_ok (ops.Links p.0) u one.0 one.1 in
          let free = clean_before (ops.Links p.0) u t put_is clean in
          let first = unit_lays schema sf part code v space s u (Some c) unit free in
          let lays = first.lays in
          let of : class_of lays.kind ≡ Some c = let e : first.kind ≡ lays.kind = (let m = lays.made_is in cc) in ap class_of (sym e) ∙ (first.kind_of ∙ sym first.class_is) in
          let live : is_live lays.kind ≡ true = let e : first.kind ≡ lays.kind = (let m = lays.made_is in cc) in ap is_live (sym e) ∙ first.live in
          record {
            grown = grown_on s u t lays.grown (grown_op (ops.Links p.0) u t put_is);
            clean = lays.clean;
            same = bare_op (ops.Links p.0) u t put_is ∙ lays.same;
            some = lays.some;
            class = p.1.to;
            found_is = sym same.0;
            there = link_class schema sf c name p at;
            leads = λ f known count.
                let k = lays.leads f known count in
                let some = lays.some in
                let g = links_give lays.kind c name p f f.stack k.0 of live at k.1 (omega (arith, count, some)) in
                let last : Leads schema part code (ops.Links p.0 ∷ []) (with_stack (k.0 ∷ f.stack) f) (with_stack (kinds.Seq p.1.to ∷ f.stack) f) = (with_stack (kinds.Seq p.1.to ∷ f.stack) f, g, refl) in
                leads_on schema part code lays.grown.ops (ops.Links p.0 ∷ []) f (with_stack (k.0 ∷ f.stack) f) (with_stack (kinds.Seq p.1.to ∷ f.stack) f) k.2 last;
          }

      by_class : (class' : Option ℕ) (u : Buffer) → unit_code v space s ≡ Ok (class', u) → linked_from schema name class' u ≡ Ok (class, t) → LaysUnits schema sf part code space s t class
      by_class None u unit h = no_unit schema sf part code v space s u unit (ap (λ (x : Buffer). x.flaw) (pair_ok None class u t h).1 ∙ clean)
      by_class (Some c) u unit h = by_slot c u (slots.link_slot schema c name) unit refl h

  -- ---- how many

  size_on : (c : ℕ) (b : Frame) (rest : List Kind) → length rest < STACK_LIMIT → size (with_stack (kinds.Seq c ∷ rest) b) ≡ Ok (with_stack (kinds.Int ∷ rest) b)
  unfolding size pop
  size_on c b rest lt = push_on schema sf part code kinds.Int (with_stack rest b) lt

  size_gives : (c : ℕ) (b : Frame) (rest : List Kind) → length rest < STACK_LIMIT → Gives schema part code ops.Size (with_stack (kinds.Seq c ∷ rest) b) (with_stack (kinds.Int ∷ rest) b)
  unfolding effect in_tables
  size_gives c b rest lt = record { straight = refl; tables = refl; gives = ap on (size_on c b rest lt) }

  pub size_lays : (space : ℕ) (s t u : Buffer) (made : Made) (found : Option ℕ) → LaysUnits schema sf part code space s t found → u ≡ with_op ops.Size t → made ≡ Some kinds.Int → Lays schema sf part code space s u made
  unfolding grown_on grown_op
  size_lays space s t u made found units put_is made_is = record {
    grown = grown_on s t u units.grown (grown_op ops.Size t u put_is);
    clean = units.clean;
    same = bare_op ops.Size t u put_is ∙ units.same;
    some = units.some;
    kind = kinds.Int;
    made_is = made_is;
    leads = λ f known count.
        let q = units.leads f known count in
        let some = units.some in
        let g = size_gives units.class f f.stack (omega (arith, count, some)) in
        let last : Leads schema part code (ops.Size ∷ []) (with_stack (kinds.Seq units.class ∷ f.stack) f) (with_stack (kinds.Int ∷ f.stack) f) = (with_stack (kinds.Int ∷ f.stack) f, g, refl) in
        (kinds.Int, refl, leads_on schema part code units.grown.ops (ops.Size ∷ []) f (with_stack (kinds.Seq units.class ∷ f.stack) f) (with_stack (kinds.Int ∷ f.stack) f) q last);
  }
