-- Sequences, and what is counted of a query: the compiler makes what the judgement says, and notes its flaws.
use Rattle.std.proofs.Common.{◌≡◌, ℕ, ◌+◌, Bool, true, false, cond, List, [], ◌∷◌, ◌++◌, length, Option, Some, None, Result, Ok, Err, refl, subst, sym, ap, length-append}
use Rattle.std.specs.Prelude.{nat_le, option_map}
use Rattle.bb_basis.specs.Results.{◌>>=◌}
use Rattle.bb_code.specs.declared.parts.TheConstants.{QUERY_LIMIT}
use Rattle.bb_code.specs.PatternLimits.{OPERAND_LIMIT}
use Rattle.bb_code.specs.Trees.{Tree}
use Rattle.bb_schema_classes.specs.declared.kind.Link.{Link}
use Rattle.bb_code.specs.declared.frame.Kind.{Kind}
use Rattle.bb_code.specs.declared.op.Op.TheVariants as ops
use Rattle.bb_verify_effect.specs.Query.{Query}
use Rattle.bb_schema.specs.Schema.{Schema}
use Rattle.bb_lang.specs.Relation.{Relation}
use Rattle.bb_lang.specs.Variable.{Variable}
use Rattle.bb_compile_scope.specs.Killed.{unless_fault}
use Rattle.bb_compile_scope.specs.Place.{Place}
use Rattle.bb_compile_scope.specs.Slots.{link_slot, dimension}
use Rattle.bb_compile_scope.specs.declared.fault.CompileFault.{CompileFault}
use Rattle.bb_compile_scope.specs.declared.fault.CompileFault.TheVariants.{At}
use Rattle.bb_compile_scope.specs.declared.fault.TextFlaw.{TextFlaw}
use Rattle.bb_compile_scope.specs.declared.fault.TextFlaw.TheVariants.{Unknown, Limit}
use Rattle.bb_compile_scope.specs.declared.scope.Scope.{Scope}
use Rattle.bb_compile_buffer.specs.declared.buffer.Buffer.{Buffer}
use Rattle.bb_compile_buffer.specs.Atoms.{unit_code}
use Rattle.bb_compile_buffer.specs.Buffers.{due, put, put_value, asked_query}
use Rattle.bb_compile.specs.declared.asked.Asked.{Asked}
use Rattle.bb_compile.specs.Queries.{Patterned, operand_kind, with_operand, operand_noted, test_at, test_code, query_code, linked_by, linked_from, links_code}
use Rattle.bb_theorem_grammar.specs.judged.Atoms.{unit_flaws}
use Rattle.bb_theorem_grammar.specs.judged.Flaws.{least, flaw_of, if_full, if_other}
use Rattle.bb_theorem_grammar.specs.judged.Names.{unit_class}
use Rattle.bb_theorem_grammar.specs.judged.Queries.{Counts, operand_counted, operand_flaws, counted_at, flaws_at, test_counted, test_flaws, found_flaws, linked_class, linked_flaws}
use Rattle.bb_theorem_grammar.proofs.judged_lemmas.faults.AtomLemmas.{unit_judged}
use Rattle.bb_theorem_grammar.proofs.judged_lemmas.scopes.HoldLemmas.{least_on, Holds, Keeps, noted_flaw, noted_if, holds_then, Made, made_then, keeps_last, put_keeps, put_value_keeps, due_keeps}
use Rattle.bb_theorem_grammar.proofs.judged_lemmas.scopes.NameLemmas.{names_of}

-- what the compiler has counted
abbrev pub counts_of : Asked → Counts
counts_of asked = record { operands = length asked.kinds; nodes = asked.nodes }

module _ (scope : Scope) (place : Place) where
  -- what was counted, and the buffer
  abbrev pub Asks : {X : Type 0} → Counts → Option TextFlaw → Patterned X → Type 0
  Asks c flaw p = (counts_of p.1 ≡ c) × Keeps scope place flaw p.2

  pub asks_then : {X Z : Type 0} (c : Counts) (Q : Option TextFlaw → Z → Type 0) (seen : Option TextFlaw) (xs ys : List TextFlaw) (r : Result (Patterned X) CompileFault) (f : Patterned X → Result Z CompileFault)
      → Holds (Asks c (least seen xs)) place r → ((p : Patterned X) → Asks c (least seen xs) p → Holds (Q (least (least seen xs) ys)) place (f p)) → Holds (Q (least seen (xs ++ ys))) place (r >>= f)
  asks_then c Q seen xs ys (Err fault) f h next = h
  asks_then c Q seen xs ys (Ok p) f h next = subst (λ flaw. Holds (Q flaw) place (f p)) (sym (least_on seen xs ys)) (next p h)

  -- ---- tests

  operand_counts : (kind : Kind) (asked : Asked) → counts_of (with_operand kind asked) ≡ operand_counted (counts_of asked)
  operand_counts kind asked = by_full (nat_le OPERAND_LIMIT (length asked.kinds))
    where
      by_full : (b : Bool) → counts_of (cond b asked (record { kinds = asked.kinds ++ operand_kind kind ∷ []; nodes = asked.nodes })) ≡ cond b (counts_of asked) (record { operands = length asked.kinds + 1; nodes = asked.nodes })
      by_full true = refl
      by_full false = ap (λ n. record { operands = n; nodes = asked.nodes }) (length-append asked.kinds (operand_kind kind ∷ []))

  by_dimension : (relation : Relation) (o : Option (ℕ × Kind)) (operand : Option Kind) (asked : Asked) (s : Buffer) (seen : Option TextFlaw) → Keeps scope place seen s → Asks (counted_at o (counts_of asked)) (least seen (flaws_at o operand (counts_of asked))) (test_at relation o operand asked s)
  by_dimension relation None operand asked s seen k = (refl, noted_flaw scope place Unknown s seen k)
  by_dimension relation (Some dim) operand asked s seen k =
      let full = operand_flaws (counts_of asked) in
      let kept = noted_if scope place (nat_le OPERAND_LIMIT (length asked.kinds)) Limit (due operand dim.1 s) (least seen (if_other operand dim.1)) (due_keeps scope place operand dim.1 s seen k) in
      (operand_counts dim.1 asked, subst (λ flaw. Keeps scope place flaw (operand_noted asked (due operand dim.1 s))) (sym (least_on seen (if_other operand dim.1) full)) kept)

  pub test_judged : (schema : Schema) (space : Option ℕ) (dim : List ℕ) (relation : Relation) (operand : Option Kind) (asked : Asked) (s : Buffer) (seen : Option TextFlaw) → Keeps scope place seen s
      → Asks (test_counted schema space dim relation (counts_of asked)) (least seen (test_flaws schema space dim relation operand (counts_of asked))) (test_code schema space dim relation operand asked s)
  unfolding test_code least
  test_judged schema None dim relation operand asked s seen k = (refl, k)
  test_judged schema (Some space) dim relation operand asked s seen k = by_dimension relation (dimension schema space dim relation) operand asked s seen k

  -- ---- sequences

  query_put : (query : Query) (s : Buffer) (seen : Option TextFlaw) → Keeps scope place seen s → Holds (λ (p : ℕ × Buffer). Keeps scope place seen p.1) place (asked_query query s)
  unfolding asked_query
  query_put query s seen k = by_room (nat_le QUERY_LIMIT (length s.queries))
    where
      by_room : (b : Bool) → Holds (λ (p : ℕ × Buffer). Keeps scope place seen p.1) place (cond b (Err (At Limit s.start)) (Ok (length s.queries, record s { queries = s.queries ++ query ∷ [] })))
      by_room true = ap (At Limit) k.begun
      by_room false = record { same = k.same; begun = k.begun; flawed = k.flawed }

  pub query_judged : (class space : Option ℕ) (asked : Asked) (pattern : Tree) (room : ℕ) (s : Buffer) (seen : Option TextFlaw) → Keeps scope place seen s → Holds (Made scope place class (least seen (found_flaws class space room))) place (query_code class space asked pattern room s)
  unfolding query_code least
  query_judged None None asked pattern room s seen k = (refl, k)
  query_judged None (Some space) asked pattern room s seen k = (refl, k)
  query_judged (Some class) None asked pattern room s seen k = (refl, k)
  query_judged (Some class) (Some space) asked pattern room s seen k =
      let query : Query = record { class = class; space = space; kinds = asked.kinds; pattern = pattern } in
      holds_then place (λ (p : ℕ × Buffer). Keeps scope place seen p.1) (Made scope place (Some class) (least seen (if_full room))) (asked_query query s) _ (query_put query s seen k)
      (λ p kept. keeps_last scope place (Keeps scope place (least seen (if_full room))) (Made scope place (Some class) (least seen (if_full room))) (put_value (ops.Find p.0) room p.1) _
      (put_value_keeps scope place (ops.Find p.0) room p.1 seen kept) (λ t last. (refl, last)))

  by_link : (r : Result (ℕ × Link) TextFlaw) (s : Buffer) (seen : Option TextFlaw) → Keeps scope place seen s → Holds (Made scope place (option_map (λ (p : ℕ × Link). p.1.to) (unless_fault r)) (least seen (flaw_of r))) place (linked_by r s)
  unfolding least
  by_link (Err flaw) s seen k = (refl, noted_flaw scope place flaw s seen k)
  by_link (Ok p) s seen k =
      keeps_last scope place (Keeps scope place seen) (Made scope place (Some p.1.to) seen) (put (ops.Links p.0) s) _ (put_keeps scope place (ops.Links p.0) s seen k) (λ t kept. (refl, kept))

  linked_judged : (schema : Schema) (slot : List ℕ) (class : Option ℕ) (s : Buffer) (seen : Option TextFlaw) → Keeps scope place seen s → Holds (Made scope place (linked_class schema class slot) (least seen (linked_flaws schema class slot))) place (linked_from schema slot class s)
  unfolding least
  linked_judged schema slot None s seen k = (refl, k)
  linked_judged schema slot (Some class) s seen k = by_link (link_slot schema class slot) s seen k

  pub links_judged : (schema : Schema) (unit : Variable) (slot : List ℕ) (room : ℕ) (s : Buffer) (seen : Option TextFlaw) → Keeps scope place seen s
      → Holds (Made scope place (linked_class schema (unit_class (names_of scope) unit) slot) (least seen (unit_flaws (names_of scope) room unit ++ linked_flaws schema (unit_class (names_of scope) unit) slot))) place (links_code schema unit slot room s)
  unfolding links_code
  links_judged schema unit slot room s seen k =
      let class = unit_class (names_of scope) unit in
      made_then scope place class (Made scope place (linked_class schema class slot)) seen (unit_flaws (names_of scope) room unit) (linked_flaws schema class slot) (unit_code unit room s) _
      (unit_judged scope place unit room s seen k) (λ t kept. linked_judged schema slot class t (least seen (unit_flaws (names_of scope) room unit)) kept)
