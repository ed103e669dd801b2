-- The test tells which codes are within their limits.
use Rattle.std.proofs.Common.{◌≡◌, ℕ, ◌^◌, ◌<◌, ◌≤◌, Bool, true, false, ◌&&◌, List, [], ◌∷◌, length, Option, Some, None, Result, Ok, Err, cond, refl, ap, arith}
use Rattle.std.specs.Prelude.{ℤ, pos, negsuc, nat_le, nat_lt, nat_eq, int_le, All, FitsSigned, ◌≤ℤ◌, ◌↔◌, IsSome, IfSome}
use Rattle.std.specs.Int.{w64}
use Rattle.std.specs.List.{list_all}
use Rattle.std.proofs.lemmas.Bool.{lt-ltb, ltb-true, le-leb, leb-true, eqb-true, eq-eqb, and_parts, and_from}
use Rattle.std.proofs.lemmas.Int.{ints}
use Rattle.std.proofs.lemmas.Str.{IsUtf8-from_is_utf8, is_utf8-from_IsUtf8}
use Rattle.std.proofs.lemmas.List.Elements.{All-nil, All-cons, All-head, All-tail}
use Rattle.bb_code.specs.Code as codes
use Rattle.bb_code.specs.OperandKind.{OperandKind}
use Rattle.bb_code.specs.OperandKind.TheVariants as operands
use Rattle.bb_code.specs.Query.{Query}
use Rattle.bb_code.specs.Trees.{Tree, Trees, all, and_of, or_of, not_of, ordered, is_label, no_more, more, node_count}
use Rattle.bb_code.specs.PatternLimits.{NODE_LIMIT, OPERAND_LIMIT}
use Rattle.bb_code.specs.declared.parts.TheConstants.{LOCAL_LIMIT, TEXT_COUNT_LIMIT, TEXT_BYTES_LIMIT, QUERY_LIMIT, FRAME_LIMIT, LOOP_LIMIT, OP_LIMIT, SAID_LIMIT, STACK_LIMIT}
use Rattle.bb_code.specs.declared.frame.FrameEntry.{FrameEntry}
use Rattle.bb_code.specs.declared.frame.Loop.{Loop}
use Rattle.bb_code.specs.declared.frame.Kind.{Kind}
use Rattle.bb_code.specs.declared.frame.Kind.TheVariants as kinds
use Rattle.bb_code.specs.declared.op.Op.{Op}
use Rattle.bb_code.specs.declared.op.Op.TheVariants as ops
use Rattle.bb_basis.specs.Results.{ok_or}
use Rattle.bb_compile_scope.specs.Place.{Place}
use Rattle.bb_compile_scope.specs.declared.fault.TextFlaw.TheVariants.{Limit}
use Rattle.bb_compile_scope.specs.declared.fault.CompileFault.{CompileFault}
use Rattle.bb_compile_scope.specs.declared.fault.CompileFault.TheVariants.{At}
use Rattle.bb_compile_buffer.specs.Finish.{if_within}
use Rattle.bb_compile_buffer.specs.Within as tests

-- a test tells whether a fact holds
pub record Tells (b : Bool) (P : Type 0) : Type 0 where
  pub yes : b ≡ true → P
  pub no : P → b ≡ true

by : {b : Bool} {P Q : Type 0} → Tells b P → (P → Q) → (Q → P) → Tells b Q
by t f g = record { yes = λ h. f (t.yes h); no = λ q. t.no (g q) }

always : Tells true (Unit {0})
always = record { yes = λ _. tt; no = λ _. refl }

tells_and : {P Q : Type 0} (b c : Bool) → Tells b P → Tells c Q → Tells (b && c) (P × Q)
tells_and b c t u = record {
  yes = λ h. (t.yes (and_parts b c h).0, u.yes (and_parts b c h).1);
  no = λ p. and_from b c (t.no p.0) (u.no p.1);
}

at_most : (m n : ℕ) → Tells (nat_le m n) (m ≤ n)
at_most m n = record { yes = leb-true m n; no = le-leb m n }

tells_below : (m n : ℕ) → Tells (nat_lt m n) (m < n)
tells_below m n = record { yes = ltb-true m n; no = lt-ltb m n }

tells_equal : (m n : ℕ) → Tells (nat_eq m n) (m ≡ n)
tells_equal m n = record { yes = eqb-true m n; no = eq-eqb m n }

every : {X : Type 0} (f : X → Bool) (P : X → Type 0) → ((x : X) → Tells (f x) (P x)) → (xs : List X) → Tells (list_all f xs) (All P xs)
every f P each [] = record { yes = λ _. All-nil P; no = λ _. refl }
every f P each (x ∷ xs) =
    let rest = every f P each xs in
    record {
      yes = λ h. let p = and_parts (f x) (list_all f xs) h in All-cons P x xs ((each x).yes p.0) (rest.yes p.1);
      no = λ a. and_from (f x) (list_all f xs) ((each x).no (All-head P x xs a)) (rest.no (All-tail P x xs a));
    }

-- ---- numbers

signed : (z : ℤ) → Tells (tests.eight_bytes z) (FitsSigned w64 z)
signed (pos n) = by (tells_below n (2 ^ 63)) (λ h. record { sfits = h }) (λ f. f.sfits)
signed (negsuc n) = by (tells_below n (2 ^ 63)) (λ h. record { sfits = h }) (λ f. f.sfits)

positive : (z : ℤ) → Tells (int_le (pos 1) z) (pos 1 ≤ℤ z)
positive (pos n) = by (at_most 1 n) (λ h. omega (arith, ints, h)) (λ h. omega (arith, ints, h))
positive (negsuc n) = record { yes = λ h. absurd cc; no = λ h. absurd (omega (arith, ints, h)) }

-- ---- texts

text : (t : List ℕ) → Tells (tests.text_within t) (codes.IsText t)
text t =
    by (tells_and _ _ (at_most (length t) TEXT_BYTES_LIMIT) (record { yes = IsUtf8-from_is_utf8 t; no = is_utf8-from_IsUtf8 t }))
    (λ p. record { len = p.0; utf8 = p.1 }) (λ i. (i.len, i.utf8))

-- ---- queries

operand : (k : OperandKind) → Tells (tests.operand_within k) (codes.IsOperandKind k)
operand operands.Interval = always
operand (operands.Label set) = tells_below set (2 ^ 16)

mutual
  tree : (t : Tree) → Tells (tests.tree_within t) (codes.IsTree t)
  tree all = always
  tree (and_of ps) = trees ps
  tree (or_of ps) = trees ps
  tree (not_of p) = tree p
  tree (ordered relation dim n) = tells_and _ _ (tells_below dim (2 ^ 8)) (tells_below n (2 ^ 8))
  tree (is_label dim n) = tells_and _ _ (tells_below dim (2 ^ 8)) (tells_below n (2 ^ 8))

  trees : (ts : Trees) → Tells (tests.trees_within ts) (codes.AreTrees ts)
  trees no_more = always
  trees (more p ps) = tells_and _ _ (tree p) (trees ps)

query : (q : Query) → Tells (tests.query_within q) (codes.IsQuery q)
query q =
    by (tells_and _ _ (tells_below q.class (2 ^ 16)) (tells_and _ _ (tells_below q.space (2 ^ 16)) (tells_and _ _ (at_most (length q.kinds) OPERAND_LIMIT)
    (tells_and _ _ (every tests.operand_within codes.IsOperandKind operand q.kinds) (tells_and _ _ (at_most (node_count q.pattern) NODE_LIMIT) (tree q.pattern))))))
    (λ p. record { class = p.0; space = p.1.0; few = p.1.1.0; each = p.1.1.1.0; nodes = p.1.1.1.1.0; pattern = p.1.1.1.1.1 })
    (λ i. (i.class, (i.space, (i.few, (i.each, (i.nodes, i.pattern))))))

-- ---- frames and loops

kind : (k : Kind) → Tells (tests.kind_within k) (codes.IsKind k)
kind (kinds.Label set) = tells_below set (2 ^ 16)
kind (kinds.Ref class) = tells_below class (2 ^ 16)
kind (kinds.Old class) = tells_below class (2 ^ 16)
kind (kinds.Seq class) = tells_below class (2 ^ 16)
kind kinds.Any = always
kind kinds.Int = always
kind kinds.Text = always
kind kinds.Bool = always
kind kinds.Interval = always

frame : (locals : ℕ) (f : FrameEntry) → Tells (tests.frame_within locals f) (codes.IsFrame locals f)
frame locals f =
    by (tells_and _ _ (tells_below f.place (2 ^ 16)) (tells_and _ _ (tells_equal (length f.frame.locals) locals) (tells_and _ _ (every tests.kind_within codes.IsKind kind f.frame.locals)
    (tells_and _ _ (at_most (length f.frame.stack) STACK_LIMIT) (every tests.kind_within codes.IsKind kind f.frame.stack)))))
    (λ p. record { place = p.0; locals = p.1.0; local_kinds = p.1.1.0; stack = p.1.1.1.0; stack_kinds = p.1.1.1.1 })
    (λ i. (i.place, (i.locals, (i.local_kinds, (i.stack, i.stack_kinds)))))

one_loop : (l : Loop) → Tells (tests.loop_within l) (codes.IsLoop l)
one_loop l = by (tells_and _ _ (tells_below l.head (2 ^ 16)) (tells_below l.end (2 ^ 16))) (λ p. record { head = p.0; end = p.1 }) (λ i. (i.head, i.end))

-- ---- ops

op : (o : Op) → Tells (tests.op_within o) (codes.IsOp o)
op (ops.PushInt n) = signed n
op (ops.PushText t) = tells_below t (2 ^ 16)
op (ops.PushLabel set label) = tells_and _ _ (tells_below set (2 ^ 16)) (tells_below label (2 ^ 8))
op (ops.Load local) = tells_below local (2 ^ 8)
op (ops.Store local) = tells_below local (2 ^ 8)
op (ops.Divide division n) = by (tells_and _ _ (signed n) (positive n)) (λ p. record { fits = p.0; positive = p.1 }) (λ i. (i.fits, i.positive))
op (ops.Get slot) = tells_below slot (2 ^ 16)
op (ops.One slot place) = tells_and _ _ (tells_below slot (2 ^ 16)) (tells_below place (2 ^ 16))
op (ops.Links slot) = tells_below slot (2 ^ 16)
op (ops.Find q) = tells_below q (2 ^ 16)
op (ops.Alive place) = tells_below place (2 ^ 16)
op (ops.As class place) = tells_and _ _ (tells_below class (2 ^ 16)) (tells_below place (2 ^ 16))
op (ops.New class) = tells_below class (2 ^ 16)
op (ops.Set slot) = tells_below slot (2 ^ 16)
op (ops.Relink change slot) = tells_below slot (2 ^ 16)
op (ops.Enter space) = tells_below space (2 ^ 16)
op (ops.Leave space) = tells_below space (2 ^ 16)
op (ops.Say count) = at_most count SAID_LIMIT
op (ops.Jump place) = tells_below place (2 ^ 16)
op (ops.Unless place) = tells_below place (2 ^ 16)
op (ops.Next local place) = tells_and _ _ (tells_below local (2 ^ 8)) (tells_below place (2 ^ 16))
op (ops.Back place) = tells_below place (2 ^ 16)
op (ops.PushBool b) = always
op ops.Pop = always
op (ops.Calculate c) = always
op (ops.Compare c) = always
op ops.EqText = always
op ops.EqLabel = always
op ops.EqUnit = always
op ops.Not = always
op (ops.Combine l) = always
op ops.MakeInterval = always
op (ops.BoundOf b) = always
op ops.Size = always
op ops.Delete = always
op ops.Done = always
op ops.Rate = always
op ops.Decline = always
op ops.Answer = always

-- ---- the and_from

listed : {X : Type 0} (n : ℕ) (f : X → Bool) (P : X → Type 0) → ((x : X) → Tells (f x) (P x)) → (xs : List X) → Tells (tests.list_within n f xs) ((length xs ≤ n) × All P xs)
listed n f P each xs = tells_and _ _ (at_most (length xs) n) (every f P each xs)

pub within_tells : (c : codes.Code) → Tells (tests.is_within c) (codes.IsCode c)
unfolding tests.is_within
within_tells c =
    by (tells_and _ _ (tells_and _ _ (at_most 1 c.locals) (at_most c.locals LOCAL_LIMIT))
    (tells_and _ _ (listed TEXT_COUNT_LIMIT tests.text_within codes.IsText text c.texts)
    (tells_and _ _ (listed QUERY_LIMIT tests.query_within codes.IsQuery query c.queries)
    (tells_and _ _ (listed FRAME_LIMIT (tests.frame_within c.locals) (codes.IsFrame c.locals) (frame c.locals) c.frames)
    (tells_and _ _ (listed LOOP_LIMIT tests.loop_within codes.IsLoop one_loop c.loops)
    (tells_and _ _ (at_most 1 (length c.ops)) (listed OP_LIMIT tests.op_within codes.IsOp op c.ops)))))))
    (λ p. record {
      locals_low = p.0.0;
      locals_high = p.0.1;
      texts = record { few = p.1.0.0; each = p.1.0.1 };
      queries = record { few = p.1.1.0.0; each = p.1.1.0.1 };
      frames = record { few = p.1.1.1.0.0; each = p.1.1.1.0.1 };
      loops = record { few = p.1.1.1.1.0.0; each = p.1.1.1.1.0.1 };
      ops = record { some = p.1.1.1.1.1.0; few = p.1.1.1.1.1.1.0; each = p.1.1.1.1.1.1.1 };
    })
    (λ i. (
      (i.locals_low, i.locals_high),
      (
        (i.texts.few, i.texts.each),
        (
          (i.queries.few, i.queries.each),
          (
            (i.frames.few, i.frames.each),
            ((i.loops.few, i.loops.each), (i.ops.some, (i.ops.few, i.ops.each))),
          ),
        ),
      ),
    ))

-- ---- a code that is made where its and_parts are within the limits

past : {P : Type 0} (b : Bool) → Tells b P → (P → ⊥) → b ≡ false
past true t never = absurd (never (t.yes refl))
past false t never = refl

chosen : (start : Place) (and_parts code : codes.Code) (b : Bool) → b ≡ true → code ≡ and_parts → (let r : Result codes.Code CompileFault = Ok code in r) ≡ cond b (Ok and_parts) (Err (At Limit start))
chosen start and_parts code true h same_code = ap (λ c. Ok c) same_code
chosen start and_parts code false h same_code = absurd cc

refused : (start : Place) (and_parts : codes.Code) (b : Bool) → b ≡ false → (let r : Result codes.Code CompileFault = Err (At Limit start) in r) ≡ cond b (Ok and_parts) (Err (At Limit start))
refused start and_parts true h = absurd cc
refused start and_parts false h = refl

none_made : (let o : Option codes.Code = None in IsSome o) → ⊥
none_made h = cc

pub checked_is : (start : Place) (and_parts : codes.Code) (made : Option codes.Code) → IsSome made ↔ codes.IsCode and_parts → IfSome made (λ c. c ≡ and_parts) → ok_or made (At Limit start) ≡ if_within start and_parts
unfolding if_within
checked_is start and_parts (Some code) says same_code = chosen start and_parts code (tests.is_within and_parts) ((within_tells and_parts).no (says.0 refl)) same_code
checked_is start and_parts None says same_code = refused start and_parts (tests.is_within and_parts) (past (tests.is_within and_parts) (within_tells and_parts) (λ h. none_made (says.1 h)))
