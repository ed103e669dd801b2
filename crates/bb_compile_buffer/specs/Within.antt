-- Which codes are within the limits of codes, as a test.
use Rattle.std.specs.Prelude.{ℕ, ℤ, pos, negsuc, ◌^◌, Bool, true, ◌&&◌, nat_le, nat_lt, nat_eq, int_le, List, length}
use Rattle.std.specs.List.{list_all}
use Rattle.std.specs.Str.{is_utf8}
use Rattle.bb_code.specs.Code.{Code}
use Rattle.bb_code.specs.PatternLimits.{NODE_LIMIT, OPERAND_LIMIT}
use Rattle.bb_code.specs.OperandKind.{OperandKind}
use Rattle.bb_code.specs.OperandKind.TheVariants as operands
use Rattle.bb_code.specs.Query.{Query}
use Rattle.bb_code.specs.Trees.{Tree, Trees, all, and_of, or_of, not_of, ordered, is_label, no_more, more, node_count}
use Rattle.bb_code.specs.declared.parts.TheConstants.{LOCAL_LIMIT, TEXT_COUNT_LIMIT, TEXT_BYTES_LIMIT, QUERY_LIMIT, FRAME_LIMIT, LOOP_LIMIT, OP_LIMIT, SAID_LIMIT, STACK_LIMIT}
use Rattle.bb_code.specs.declared.frame.FrameEntry.{FrameEntry}
use Rattle.bb_code.specs.declared.frame.Loop.{Loop}
use Rattle.bb_code.specs.declared.frame.Kind.{Kind}
use Rattle.bb_code.specs.declared.frame.Kind.TheVariants as kinds
use Rattle.bb_code.specs.declared.op.Op.{Op}
use Rattle.bb_code.specs.declared.op.Op.TheVariants as ops

-- a number fits in one byte, in two, or in eight with a sign
abbrev pub byte : ℕ → Bool
byte n = nat_lt n (2 ^ 8)

abbrev pub two_bytes : ℕ → Bool
two_bytes n = nat_lt n (2 ^ 16)

abbrev pub eight_bytes : ℤ → Bool
eight_bytes (pos n) = nat_lt n (2 ^ 63)
eight_bytes (negsuc n) = nat_lt n (2 ^ 63)

-- a text
abbrev pub text_within : List ℕ → Bool
text_within text = nat_le (length text) TEXT_BYTES_LIMIT && is_utf8 text

-- a query
abbrev pub operand_within : OperandKind → Bool
operand_within operands.Interval = true
operand_within (operands.Label set) = two_bytes set

abbrev mutual
  pub tree_within : Tree → Bool
  tree_within all = true
  tree_within (and_of ps) = trees_within ps
  tree_within (or_of ps) = trees_within ps
  tree_within (not_of p) = tree_within p
  tree_within (ordered relation dim operand) = byte dim && byte operand
  tree_within (is_label dim operand) = byte dim && byte operand

  pub trees_within : Trees → Bool
  trees_within no_more = true
  trees_within (more p ps) = tree_within p && trees_within ps

abbrev pub query_within : Query → Bool
query_within q =
    two_bytes q.class && (two_bytes q.space && (nat_le (length q.kinds) OPERAND_LIMIT
    && (list_all operand_within q.kinds && (nat_le (node_count q.pattern) NODE_LIMIT && tree_within q.pattern))))

-- a frame for `locals` locals, and a loop
abbrev pub kind_within : Kind → Bool
kind_within (kinds.Label set) = two_bytes set
kind_within (kinds.Ref class) = two_bytes class
kind_within (kinds.Old class) = two_bytes class
kind_within (kinds.Seq class) = two_bytes class
kind_within _ = true

abbrev pub frame_within : (locals : ℕ) → FrameEntry → Bool
frame_within locals f =
    two_bytes f.place && (nat_eq (length f.frame.locals) locals && (list_all kind_within f.frame.locals
    && (nat_le (length f.frame.stack) STACK_LIMIT && list_all kind_within f.frame.stack)))

abbrev pub loop_within : Loop → Bool
loop_within l = two_bytes l.head && two_bytes l.end

-- an op
abbrev pub op_within : Op → Bool
op_within (ops.PushInt n) = eight_bytes n
op_within (ops.PushText text) = two_bytes text
op_within (ops.PushLabel set label) = two_bytes set && byte label
op_within (ops.Load local) = byte local
op_within (ops.Store local) = byte local
op_within (ops.Divide division by) = eight_bytes by && int_le (pos 1) by
op_within (ops.Get slot) = two_bytes slot
op_within (ops.One slot place) = two_bytes slot && two_bytes place
op_within (ops.Links slot) = two_bytes slot
op_within (ops.Find query) = two_bytes query
op_within (ops.Alive place) = two_bytes place
op_within (ops.As class place) = two_bytes class && two_bytes place
op_within (ops.New class) = two_bytes class
op_within (ops.Set slot) = two_bytes slot
op_within (ops.Relink change slot) = two_bytes slot
op_within (ops.Enter space) = two_bytes space
op_within (ops.Leave space) = two_bytes space
op_within (ops.Say count) = nat_le count SAID_LIMIT
op_within (ops.Jump place) = two_bytes place
op_within (ops.Unless place) = two_bytes place
op_within (ops.Next local place) = byte local && two_bytes place
op_within (ops.Back place) = two_bytes place
op_within _ = true

-- at most `few` items, each within its limits
abbrev pub list_within : {X : Type 0} → (few : ℕ) → (X → Bool) → List X → Bool
list_within few each xs = nat_le (length xs) few && list_all each xs

-- a code
unfoldable pub is_within : Code → Bool
is_within c =
    (nat_le 1 c.locals && nat_le c.locals LOCAL_LIMIT)
    && (list_within TEXT_COUNT_LIMIT text_within c.texts
    && (list_within QUERY_LIMIT query_within c.queries
    && (list_within FRAME_LIMIT (frame_within c.locals) c.frames
    && (list_within LOOP_LIMIT loop_within c.loops
    && (nat_le 1 (length c.ops) && list_within OP_LIMIT op_within c.ops)))))
