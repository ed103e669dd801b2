-- The flaws of one statement, and its fault.
use Rattle.std.specs.Prelude.{ℕ, ◌==◌, Bool, List, [], ◌∷◌, Option, Some, None, Result, Ok, Err, if◌then◌else◌}
use Rattle.bb_code.specs.declared.frame.Kind.{Kind}
use Rattle.bb_verify_effect.specs.Kinds.{is_same_plain}
use Rattle.bb_compile_scope.specs.Faults.{lowest}
use Rattle.bb_compile_scope.specs.Place.{Place}
use Rattle.bb_compile_scope.specs.declared.fault.TextFlaw.{TextFlaw}
use Rattle.bb_compile_scope.specs.declared.fault.TextFlaw.TheVariants.{Unknown, Kind as WrongKind, Limit}
use Rattle.bb_compile_scope.specs.declared.fault.CompileFault.{CompileFault}
use Rattle.bb_compile_scope.specs.declared.fault.CompileFault.TheVariants.{At}

-- ---- single flaws

abbrev pub unless : (right : Bool) → TextFlaw → List TextFlaw
unless right flaw = if right then [] else flaw ∷ []

abbrev pub if_so : (wrong : Bool) → TextFlaw → List TextFlaw
if_so wrong flaw = if wrong then flaw ∷ [] else []

-- an unknown name is a flaw
abbrev pub if_unknown : {X : Type 0} → Option X → List TextFlaw
if_unknown None = Unknown ∷ []
if_unknown (Some x) = []

-- a name without a meaning has a flaw
abbrev pub flaw_of : {X : Type 0} → Result X TextFlaw → List TextFlaw
flaw_of (Ok x) = []
flaw_of (Err flaw) = flaw ∷ []

-- a value that does not fit on the stack is a flaw
abbrev pub if_full : (room : ℕ) → List TextFlaw
if_full room = if_so (room == 0) Limit

-- the value of a name: the name is unknown, or the value does not fit on the stack
abbrev pub if_not_pushed : {X : Type 0} → Option X → (room : ℕ) → List TextFlaw
if_not_pushed None room = Unknown ∷ []
if_not_pushed (Some x) room = if_full room

-- a value whose kind is known and is not the one that is wanted
abbrev pub if_other : Option Kind → (wanted : Kind) → List TextFlaw
if_other None wanted = []
if_other (Some kind) wanted = unless (is_same_plain kind wanted) WrongKind

-- ---- the fault of a statement

-- the flaw with the lowest number, of one seen before and of these
unfoldable pub least : Option TextFlaw → List TextFlaw → Option TextFlaw
least seen [] = seen
least seen (flaw ∷ flaws) = least (Some (lowest seen flaw)) flaws

abbrev pub fault_if : Place → Option TextFlaw → List CompileFault
fault_if place None = []
fault_if place (Some flaw) = At flaw place ∷ []

-- of several flaws of a statement, the one with the lowest number is its fault
abbrev pub fault_at : Place → List TextFlaw → List CompileFault
fault_at place flaws = fault_if place (least None flaws)
