-- A code that passes the test of its limits is within them.
use Rattle.std.proofs.Common.{◌≡◌, ℕ, ◌^◌, ◌≤◌, Bool, true, List, [], ◌∷◌, length, arith}
use Rattle.std.specs.Prelude.{ℤ, pos, negsuc, int_le, All, FitsSigned, ◌≤ℤ◌}
use Rattle.std.specs.Int.{w64}
use Rattle.std.specs.List.{list_all}
use Rattle.std.proofs.lemmas.Bool.{ltb-true, leb-true, eqb-true, and_parts}
use Rattle.std.proofs.lemmas.Int.{ints}
use Rattle.std.proofs.lemmas.Str.{IsUtf8-from_is_utf8}
use Rattle.std.proofs.lemmas.List.Elements.{All-nil, All-cons}
use Rattle.bb_code.specs.Code as codes
use Rattle.bb_pattern.specs.declared.value.OperandKind.{OperandKind}
use Rattle.bb_pattern.specs.declared.value.OperandKind.TheVariants as operands
use Rattle.bb_pattern.specs.declared.query.Query.{Query}
use Rattle.bb_pattern.specs.Trees.{Tree, Trees, all, and_of, or_of, not_of, ordered, is_label, no_more, more, node_count}
use Rattle.bb_pattern.specs.declared.fits.TheConstants.{NODE_LIMIT, OPERAND_LIMIT}
use Rattle.bb_code.specs.declared.parts.TheConstants.{TEXT_COUNT_LIMIT, TEXT_BYTES_LIMIT, QUERY_LIMIT, FRAME_LIMIT, LOOP_LIMIT, OP_LIMIT, SAID_LIMIT, STACK_LIMIT, LOCAL_LIMIT}
use Rattle.bb_code.specs.declared.frame.FrameEntry.{FrameEntry}
use Rattle.bb_code.specs.declared.frame.Loop.{Loop}
use Rattle.bb_code.specs.declared.frame.Kind.{Kind}
use Rattle.bb_code.specs.declared.frame.Kind.TheVariants as kinds
use Rattle.bb_code.specs.declared.op.Op.{Op}
use Rattle.bb_code.specs.declared.op.Op.TheVariants as ops
use Rattle.bb_theorem_accepted.specs.Within as tests

every : {X : Type 0} (f : X → Bool) (P : X → Type 0) → ((x : X) → f x ≡ true → P x) → (xs : List X) → list_all f xs ≡ true → All P xs
every f P each [] h = All-nil P
every f P each (x ∷ xs) h = let p = and_parts (f x) (list_all f xs) h in All-cons P x xs (each x p.0) (every f P each xs p.1)

-- ---- numbers

signed : (z : ℤ) → tests.eight_bytes z ≡ true → FitsSigned w64 z
signed (pos n) h = record { sfits = ltb-true n (2 ^ 63) h }
signed (negsuc n) h = record { sfits = ltb-true n (2 ^ 63) h }

positive : (z : ℤ) → int_le (pos 1) z ≡ true → pos 1 ≤ℤ z
positive (pos n) h = let le = leb-true 1 n h in omega (arith, ints, le)
positive (negsuc n) h = absurd cc

-- ---- texts

text : (t : List ℕ) → tests.text_within t ≡ true → codes.IsText t
text t h = let p = and_parts _ _ h in record { len = leb-true (length t) TEXT_BYTES_LIMIT p.0; utf8 = IsUtf8-from_is_utf8 t p.1 }

-- ---- queries

operand : (k : OperandKind) → tests.operand_within k ≡ true → codes.IsOperandKind k
operand operands.Interval h = tt
operand (operands.Label set) h = ltb-true set (2 ^ 16) h

mutual
  tree : (t : Tree) → tests.tree_within t ≡ true → codes.IsTree t
  tree all h = tt
  tree (and_of ps) h = trees ps h
  tree (or_of ps) h = trees ps h
  tree (not_of p) h = tree p h
  tree (ordered relation dim n) h = let p = and_parts _ _ h in (ltb-true dim (2 ^ 8) p.0, ltb-true n (2 ^ 8) p.1)
  tree (is_label dim n) h = let p = and_parts _ _ h in (ltb-true dim (2 ^ 8) p.0, ltb-true n (2 ^ 8) p.1)

  trees : (ts : Trees) → tests.trees_within ts ≡ true → codes.AreTrees ts
  trees no_more h = tt
  trees (more p ps) h = let both = and_parts (tests.tree_within p) (tests.trees_within ps) h in (tree p both.0, trees ps both.1)

query : (q : Query) → tests.query_within q ≡ true → codes.IsQuery q
query q h =
    let one = and_parts _ _ h in
    let two = and_parts _ _ one.1 in
    let three = and_parts _ _ two.1 in
    let four = and_parts _ _ three.1 in
    let five = and_parts _ _ four.1 in
    record {
      class = ltb-true q.class (2 ^ 16) one.0;
      space = ltb-true q.space (2 ^ 16) two.0;
      few = leb-true (length q.kinds) OPERAND_LIMIT three.0;
      each = every tests.operand_within codes.IsOperandKind operand q.kinds four.0;
      nodes = leb-true (node_count q.pattern) NODE_LIMIT five.0;
      pattern = tree q.pattern five.1;
    }

-- ---- frames and loops

kind : (k : Kind) → tests.kind_within k ≡ true → codes.IsKind k
kind (kinds.Label set) h = ltb-true set (2 ^ 16) h
kind (kinds.Ref class) h = ltb-true class (2 ^ 16) h
kind (kinds.Old class) h = ltb-true class (2 ^ 16) h
kind (kinds.Seq class) h = ltb-true class (2 ^ 16) h
kind _ h = tt

frame : (locals : ℕ) (f : FrameEntry) → tests.frame_within locals f ≡ true → codes.IsFrame locals f
frame locals f h =
    let one = and_parts _ _ h in
    let two = and_parts _ _ one.1 in
    let three = and_parts _ _ two.1 in
    let four = and_parts _ _ three.1 in
    record {
      place = ltb-true f.place (2 ^ 16) one.0;
      locals = eqb-true (length f.frame.locals) locals two.0;
      local_kinds = every tests.kind_within codes.IsKind kind f.frame.locals three.0;
      stack = leb-true (length f.frame.stack) STACK_LIMIT four.0;
      stack_kinds = every tests.kind_within codes.IsKind kind f.frame.stack four.1;
    }

one_loop : (l : Loop) → tests.loop_within l ≡ true → codes.IsLoop l
one_loop l h = let p = and_parts _ _ h in record { head = ltb-true l.head (2 ^ 16) p.0; end = ltb-true l.end (2 ^ 16) p.1 }

-- ---- ops

op : (o : Op) → tests.op_within o ≡ true → codes.IsOp o
op (ops.PushInt n) h = signed n h
op (ops.PushText t) h = ltb-true t (2 ^ 16) h
op (ops.PushLabel set label) h = let p = and_parts _ _ h in (ltb-true set (2 ^ 16) p.0, ltb-true label (2 ^ 8) p.1)
op (ops.Load local) h = ltb-true local (2 ^ 8) h
op (ops.Store local) h = ltb-true local (2 ^ 8) h
op (ops.Divide division n) h = let p = and_parts _ _ h in record { fits = signed n p.0; positive = positive n p.1 }
op (ops.Get slot) h = ltb-true slot (2 ^ 16) h
op (ops.One slot place) h = let p = and_parts _ _ h in (ltb-true slot (2 ^ 16) p.0, ltb-true place (2 ^ 16) p.1)
op (ops.Links slot) h = ltb-true slot (2 ^ 16) h
op (ops.Find q) h = ltb-true q (2 ^ 16) h
op (ops.Alive place) h = ltb-true place (2 ^ 16) h
op (ops.As class place) h = let p = and_parts _ _ h in (ltb-true class (2 ^ 16) p.0, ltb-true place (2 ^ 16) p.1)
op (ops.New class) h = ltb-true class (2 ^ 16) h
op (ops.Set slot) h = ltb-true slot (2 ^ 16) h
op (ops.Relink change slot) h = ltb-true slot (2 ^ 16) h
op (ops.Enter space) h = ltb-true space (2 ^ 16) h
op (ops.Leave space) h = ltb-true space (2 ^ 16) h
op (ops.Say count) h = leb-true count SAID_LIMIT h
op (ops.Jump place) h = ltb-true place (2 ^ 16) h
op (ops.Unless place) h = ltb-true place (2 ^ 16) h
op (ops.Next local place) h = let p = and_parts _ _ h in (ltb-true local (2 ^ 8) p.0, ltb-true place (2 ^ 16) p.1)
op (ops.Back place) h = ltb-true place (2 ^ 16) h
op _ h = tt

-- ---- the whole

listed : {X : Type 0} (n : ℕ) (f : X → Bool) (P : X → Type 0) → ((x : X) → f x ≡ true → P x) → (xs : List X) → tests.list_within n f xs ≡ true → (length xs ≤ n) × All P xs
listed n f P each xs h = let p = and_parts _ _ h in (leb-true (length xs) n p.0, every f P each xs p.1)

pub within_code : (c : codes.Code) → tests.is_within c ≡ true → codes.IsCode c
unfolding tests.is_within
within_code c h =
    let one = and_parts _ _ h in
    let locals = and_parts _ _ one.0 in
    let two = and_parts _ _ one.1 in
    let three = and_parts _ _ two.1 in
    let four = and_parts _ _ three.1 in
    let five = and_parts _ _ four.1 in
    let six = and_parts _ _ five.1 in
    let texts = listed TEXT_COUNT_LIMIT tests.text_within codes.IsText text c.texts two.0 in
    let queries = listed QUERY_LIMIT tests.query_within codes.IsQuery query c.queries three.0 in
    let frames = listed FRAME_LIMIT (tests.frame_within c.locals) (codes.IsFrame c.locals) (frame c.locals) c.frames four.0 in
    let loops = listed LOOP_LIMIT tests.loop_within codes.IsLoop one_loop c.loops five.0 in
    let all_ops = listed OP_LIMIT tests.op_within codes.IsOp op c.ops six.1 in
    record {
      locals_low = leb-true 1 c.locals locals.0;
      locals_high = leb-true c.locals LOCAL_LIMIT locals.1;
      texts = record { few = texts.0; each = texts.1 };
      queries = record { few = queries.0; each = queries.1 };
      frames = record { few = frames.0; each = frames.1 };
      loops = record { few = loops.0; each = loops.1 };
      ops = record { some = leb-true 1 (length c.ops) six.0; few = all_ops.0; each = all_ops.1 };
    }
