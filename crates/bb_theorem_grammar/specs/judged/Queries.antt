-- The counts of a query: its operands so far, and how many more nodes its pattern may have.
use Rattle.std.specs.Prelude.{ℕ, ◌+◌, ◌-◌, ◌==◌, nat_le, List, [], ◌∷◌, ◌++◌, Option, Some, None, option_map, option_and_then, if◌then◌else◌}
use Rattle.bb_code.specs.PatternLimits.{NODE_LIMIT, OPERAND_LIMIT}
use Rattle.bb_code.specs.declared.frame.Kind.{Kind}
use Rattle.bb_schema.specs.Schema.{Schema}
use Rattle.bb_lang.specs.Relation.{Relation}
use Rattle.bb_compile_scope.specs.declared.fault.TextFlaw.{TextFlaw}
use Rattle.bb_compile_scope.specs.declared.fault.TextFlaw.TheVariants.{Unknown, Limit}
use Rattle.bb_compile_scope.specs.Killed.{unless_fault}
use Rattle.bb_compile_scope.specs.Slots.{link_slot, dimension}
use Rattle.bb_theorem_grammar.specs.judged.Flaws.{if_so, flaw_of, if_full, if_other}

pub record Counts : Type 0 where
  pub operands : ℕ
  pub nodes : ℕ

abbrev pub no_operand : Counts
no_operand = record { operands = 0; nodes = NODE_LIMIT }

-- counts a node; one too many is a flaw
abbrev pub node_counted : Counts → Counts
node_counted c = record { operands = c.operands; nodes = c.nodes - 1 }

abbrev pub node_flaws : Counts → List TextFlaw
node_flaws c = if_so (c.nodes == 0) Limit

-- counts an operand, if it fits; one that does not is a flaw
abbrev pub operand_counted : Counts → Counts
operand_counted c =
    if nat_le OPERAND_LIMIT c.operands then c else record { operands = c.operands + 1; nodes = c.nodes }

abbrev pub operand_flaws : Counts → List TextFlaw
operand_flaws c = if_so (nat_le OPERAND_LIMIT c.operands) Limit

-- ---- a test of a dimension, if the space is known

abbrev pub counted_at : Option (ℕ × Kind) → Counts → Counts
counted_at None c = c
counted_at (Some dim) c = operand_counted c

abbrev pub flaws_at : Option (ℕ × Kind) → (operand : Option Kind) → Counts → List TextFlaw
flaws_at None operand c = Unknown ∷ []
flaws_at (Some dim) operand c = if_other operand dim.1 ++ operand_flaws c

abbrev pub test_counted : Schema → (space : Option ℕ) → (dim : List ℕ) → Relation → Counts → Counts
test_counted schema None dim relation c = c
test_counted schema (Some space) dim relation c = counted_at (dimension schema space dim relation) c

abbrev pub test_flaws : Schema → (space : Option ℕ) → (dim : List ℕ) → Relation → Option Kind → Counts → List TextFlaw
test_flaws schema None dim relation operand c = []
test_flaws schema (Some space) dim relation operand c = flaws_at (dimension schema space dim relation) operand c

-- ---- sequences

-- the units of a class in a space, if both are known: the sequence must fit on the stack
abbrev pub found_flaws : (class space : Option ℕ) → (room : ℕ) → List TextFlaw
found_flaws (Some class) (Some space) room = if_full room
found_flaws class space room = []

-- the units that a unit of a class is linked to, if the class is known
abbrev pub linked_class : Schema → (class : Option ℕ) → (slot : List ℕ) → Option ℕ
linked_class schema class slot =
    option_and_then (λ c. option_map (λ p. p.1.to) (unless_fault (link_slot schema c slot))) class

abbrev pub linked_flaws : Schema → (class : Option ℕ) → (slot : List ℕ) → List TextFlaw
linked_flaws schema None slot = []
linked_flaws schema (Some class) slot = flaw_of (link_slot schema class slot)
