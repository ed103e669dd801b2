-- The one spelling of each code.
use Rattle.std.specs.Prelude.{ℕ, suc, ℤ, Bool, true, false, List, [], ◌∷◌, ◌++◌, length}
use Rattle.std.specs.List.{flat_map}
use Rattle.std.specs.Int.{w16, w64, to_be_bytes, cast_unsigned}
use Rattle.bb_code.specs.declared.frame.FrameEntry.{FrameEntry}
use Rattle.bb_code.specs.declared.frame.Kind.{Kind}
use Rattle.bb_code.specs.declared.frame.Kind.TheVariants as kinds
use Rattle.bb_code.specs.declared.frame.Loop.{Loop}
use Rattle.bb_code.specs.declared.op.Bound.TheVariants.{Low, High}
use Rattle.bb_code.specs.declared.op.Calculation.TheVariants.{Add, Sub, Mul, Min, Max}
use Rattle.bb_code.specs.declared.op.Comparison.TheVariants.{Lt, Le, EqInt}
use Rattle.bb_code.specs.declared.op.Division.TheVariants.{DivBy, ModBy}
use Rattle.bb_code.specs.declared.op.LinkChange.TheVariants as changes
use Rattle.bb_code.specs.declared.op.Logic.TheVariants as logic
use Rattle.bb_code.specs.declared.op.Op.{Op}
use Rattle.bb_code.specs.declared.op.Op.TheVariants.{PushInt, PushText, PushBool, PushLabel, Load, Store, Pop, Calculate}
use Rattle.bb_code.specs.declared.op.Op.TheVariants.{Divide, Compare, EqText, EqLabel, EqUnit, Not, Combine}
use Rattle.bb_code.specs.declared.op.Op.TheVariants.{MakeInterval}
use Rattle.bb_code.specs.declared.op.Op.TheVariants.{BoundOf, Get, One, Links, Find, Size, Alive, As, New, Set, Relink}
use Rattle.bb_code.specs.declared.op.Op.TheVariants.{Enter, Leave, Delete, Say, Jump, Unless, Next, Back, Done, Rate}
use Rattle.bb_code.specs.declared.op.Op.TheVariants.{Decline, Answer}
use Rattle.bb_pattern.specs.declared.pattern.Relation.{Relation}
use Rattle.bb_pattern.specs.declared.pattern.Relation.TheVariants as relations
use Rattle.bb_pattern.specs.declared.query.Query.{Query}
use Rattle.bb_pattern.specs.declared.value.OperandKind.{OperandKind}
use Rattle.bb_pattern.specs.declared.value.OperandKind.TheVariants as operand_kinds
use Rattle.bb_pattern.specs.Trees.{Tree, Trees, all, and_of, or_of, not_of, ordered, is_label, no_more, more}
use Rattle.bb_code.specs.declared.version.Version.{Version}
use Rattle.bb_code.specs.declared.version.Version.TheVariants as versions
use Rattle.bb_code.specs.Code.{Code}

-- ---- numbers and lists

-- a number in two bytes, the high one first
abbrev pub two_bytes : ℕ → List ℕ
two_bytes n = to_be_bytes w16 n

-- a number with a sign in eight bytes, the high one first
abbrev pub eight_bytes : ℤ → List ℕ
eight_bytes n = to_be_bytes w64 (cast_unsigned w64 n)

-- a truth value: 0 or 1
abbrev pub bool_byte : Bool → ℕ
bool_byte false = 0
bool_byte true = 1

-- a list: the number of its items in two bytes, and each item
abbrev pub listed : {A : Type 0} → (A → List ℕ) → List A → List ℕ
listed bytes_of xs = two_bytes (length xs) ++ flat_map bytes_of xs

-- a short list: the number of its items in one byte, and each item
abbrev pub short_listed : {A : Type 0} → (A → List ℕ) → List A → List ℕ
short_listed bytes_of xs = length xs ∷ flat_map bytes_of xs

-- ---- texts

-- a text: its length, and its bytes
abbrev pub text_bytes : List ℕ → List ℕ
text_bytes text = two_bytes (length text) ++ text

-- ---- queries

-- the kind that an operand must have
abbrev pub operand_kind_bytes : OperandKind → List ℕ
operand_kind_bytes operand_kinds.Interval = 0 ∷ []
operand_kind_bytes (operand_kinds.Label set) = 1 ∷ two_bytes set

-- the byte of a test of an ordered dimension
abbrev pub relation_byte : Relation → ℕ
relation_byte relations.Within = 4
relation_byte relations.Covers = 5
relation_byte relations.Overlaps = 6
relation_byte relations.Less = 7
relation_byte relations.More = 8

-- the number of the parts of a node
abbrev pub part_count : Trees → ℕ
part_count no_more = 0
part_count (more p ps) = suc (part_count ps)

-- a pattern: the byte of its node, then its dimension and operand, or the number of its parts and each part
abbrev mutual
  pub tree_bytes : Tree → List ℕ
  tree_bytes all = 0 ∷ []
  tree_bytes (and_of ps) = 1 ∷ part_count ps ∷ trees_bytes ps
  tree_bytes (or_of ps) = 2 ∷ part_count ps ∷ trees_bytes ps
  tree_bytes (not_of p) = 3 ∷ tree_bytes p
  tree_bytes (ordered relation dim operand) = relation_byte relation ∷ dim ∷ operand ∷ []
  tree_bytes (is_label dim operand) = 9 ∷ dim ∷ operand ∷ []

  pub trees_bytes : Trees → List ℕ
  trees_bytes no_more = []
  trees_bytes (more p ps) = tree_bytes p ++ trees_bytes ps

-- a query: class, space, operands, pattern
abbrev pub query_bytes : Query → List ℕ
query_bytes q =
    two_bytes q.class ++ two_bytes q.space ++ short_listed operand_kind_bytes q.kinds ++ tree_bytes q.pattern

-- ---- frames and loops

-- a kind: its byte, then its label set or its class
abbrev pub kind_bytes : Kind → List ℕ
kind_bytes kinds.Any = 0 ∷ []
kind_bytes kinds.Int = 1 ∷ []
kind_bytes kinds.Text = 2 ∷ []
kind_bytes kinds.Bool = 3 ∷ []
kind_bytes (kinds.Label set) = 4 ∷ two_bytes set
kind_bytes kinds.Interval = 5 ∷ []
kind_bytes (kinds.Ref class) = 6 ∷ two_bytes class
kind_bytes (kinds.Old class) = 7 ∷ two_bytes class
kind_bytes (kinds.Seq class) = 8 ∷ two_bytes class

-- a declared frame: its place, a kind for each local, and the kinds of the stack
abbrev pub frame_bytes : FrameEntry → List ℕ
frame_bytes f =
    two_bytes f.place ++ flat_map kind_bytes f.frame.locals ++ short_listed kind_bytes f.frame.stack

-- a loop: its head and its end
abbrev pub loop_bytes : Loop → List ℕ
loop_bytes l = two_bytes l.head ++ two_bytes l.end

-- ---- ops

-- the number of an op
abbrev pub opcode : Op → ℕ
opcode (PushInt n) = 1
opcode (PushText text) = 2
opcode (PushBool b) = 3
opcode (PushLabel set label) = 4
opcode (Load local) = 5
opcode (Store local) = 6
opcode Pop = 7
opcode (Calculate Add) = 8
opcode (Calculate Sub) = 9
opcode (Calculate Mul) = 10
opcode (Divide DivBy by) = 11
opcode (Divide ModBy by) = 12
opcode (Calculate Min) = 13
opcode (Calculate Max) = 14
opcode (Compare Lt) = 15
opcode (Compare Le) = 16
opcode (Compare EqInt) = 17
opcode EqText = 18
opcode EqLabel = 19
opcode EqUnit = 20
opcode Not = 21
opcode (Combine logic.And) = 22
opcode (Combine logic.Or) = 23
opcode MakeInterval = 24
opcode (BoundOf Low) = 25
opcode (BoundOf High) = 26
opcode (Get slot) = 27
opcode (One slot place) = 28
opcode (Links slot) = 29
opcode (Find query) = 30
opcode Size = 31
opcode (Alive place) = 32
opcode (As class place) = 33
opcode (New class) = 34
opcode (Set slot) = 35
opcode (Relink changes.Link slot) = 36
opcode (Relink changes.Unlink slot) = 37
opcode (Enter space) = 38
opcode (Leave space) = 39
opcode Delete = 40
opcode (Say count) = 41
opcode (Jump place) = 42
opcode (Unless place) = 43
opcode (Next local place) = 44
opcode (Back place) = 45
opcode Done = 46
opcode Rate = 47
opcode Decline = 48
opcode Answer = 49

-- what follows the number of an op
abbrev pub operand_bytes : Op → List ℕ
operand_bytes (PushInt n) = eight_bytes n
operand_bytes (PushText text) = two_bytes text
operand_bytes (PushBool b) = bool_byte b ∷ []
operand_bytes (PushLabel set label) = two_bytes set ++ label ∷ []
operand_bytes (Load local) = local ∷ []
operand_bytes (Store local) = local ∷ []
operand_bytes (Divide division by) = eight_bytes by
operand_bytes (Get slot) = two_bytes slot
operand_bytes (One slot place) = two_bytes slot ++ two_bytes place
operand_bytes (Links slot) = two_bytes slot
operand_bytes (Find query) = two_bytes query
operand_bytes (Alive place) = two_bytes place
operand_bytes (As class place) = two_bytes class ++ two_bytes place
operand_bytes (New class) = two_bytes class
operand_bytes (Set slot) = two_bytes slot
operand_bytes (Relink change slot) = two_bytes slot
operand_bytes (Enter space) = two_bytes space
operand_bytes (Leave space) = two_bytes space
operand_bytes (Say count) = count ∷ []
operand_bytes (Jump place) = two_bytes place
operand_bytes (Unless place) = two_bytes place
operand_bytes (Next local place) = local ∷ two_bytes place
operand_bytes (Back place) = two_bytes place
operand_bytes _ = []

-- an op: its number, and what follows it
abbrev pub op_bytes : Op → List ℕ
op_bytes op = opcode op ∷ operand_bytes op

-- ---- the whole

-- the number of a version
abbrev pub version_byte : Version → ℕ
version_byte versions.One = 1
version_byte versions.Two = 2

-- the first bytes of every code: the letters BBC, and its version
abbrev pub head : Version → List ℕ
head version = 66 ∷ 66 ∷ 67 ∷ version_byte version ∷ []

-- the bytes of a code: version, locals, texts, queries, frames, loops, ops
abbrev pub spelling : Code → List ℕ
spelling c =
    head c.version ++ (c.locals ∷ []) ++ listed text_bytes c.texts ++ listed query_bytes c.queries
    ++ listed frame_bytes c.frames ++ listed loop_bytes c.loops ++ listed op_bytes c.ops
