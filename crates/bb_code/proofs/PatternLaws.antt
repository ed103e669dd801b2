-- The laws of patterns and queries.
use Rattle.std.proofs.Common.{◌≡◌, ℕ, zero, suc, ◌+◌, ◌-◌, ◌≤◌, List, [], ◌∷◌, ◌++◌, eqb, Result, Ok, inl, inr, refl, sym, ap, subst, ◌∙◌, append_assoc, arith}
use Rattle.std.specs.List.{slice_get}
use Rattle.std.proofs.lemmas.Bool.{eqb-true}
use Rattle.std.proofs.lemmas.List.Elements.{All-from_recursion, recursion_from_All}
use Rattle.bb_basis.specs.Results.{◌>>=◌, ok_or}
use Rattle.bb_basis.proofs.ResultLemmas.{bind_ok, same_ok, ok_or_ok}
use Rattle.bb_pattern.specs.declared.fits.TheConstants.{NODE_LIMIT, OPERAND_LIMIT}
use Rattle.bb_pattern.specs.declared.query.Query.{Query}
use Rattle.bb_pattern.specs.declared.pattern.Relation.TheVariants as relations
use Rattle.bb_pattern.specs.declared.value.OperandKind.{OperandKind}
use Rattle.bb_pattern.specs.declared.value.OperandKind.TheVariants as operand_kinds
use Rattle.bb_pattern.specs.Trees.{Tree, Trees, all, and_of, or_of, not_of, ordered, is_label, no_more, more, node_count, nodes_count}
use Rattle.bb_pattern.specs.View.{trees_of}
use Rattle.bb_code.specs.declared.fault.CodeFault.{CodeFault}
use Rattle.bb_code.specs.declared.fault.CodeFault.TheVariants.{Operand}
use Rattle.bb_code.specs.declared.table.NodeForm.{NodeForm}
use Rattle.bb_code.specs.declared.table.NodeForm.TheVariants as forms
use Rattle.bb_code.specs.declared.table.TheConstants.{NODES}
use Rattle.bb_code.specs.Code.{IsTree, AreTrees, IsOperandKind, IsQuery, InByte}
use Rattle.bb_code.specs.Spelling.{two_bytes, short_listed, operand_kind_bytes, relation_byte, part_count, tree_bytes, trees_bytes, query_bytes}
use Rattle.bb_code.specs.Fields.{byte_at, number_at, repeated, short_list_at}
use Rattle.bb_code.specs.Patterns.{operand_kind_at, label_at, Ahead, Reader, parts_at, test_at, node_after, node_at, pattern_at, query_at}
use Rattle.bb_code.proofs.Fields.{IsBytes, IsBytes-rest, met, chosen, Takes, Takes-then, IsSpelled, Number, number_spelled, byte_takes, single, one_takes, one_again}
use Rattle.bb_code.proofs.Lists.{AreListed, short_list_spelled}
use Rattle.bb_code.proofs.Tables.{EachAt, entry_at}

-- ---- the kinds of operands

operand_kind_takes : (bytes : List ℕ) (x : OperandKind × List ℕ) → IsBytes bytes → operand_kind_at bytes ≡ Ok x → Takes bytes (operand_kind_bytes x.0) x.1 × IsOperandKind x.0
unfolding operand_kind_at
operand_kind_takes [] x fits e = absurd cc
operand_kind_takes (tag ∷ bytes) x fits e =
    let rest_fits = IsBytes-rest tag bytes fits in
    let as_read = λ (t : ℕ). Takes (t ∷ bytes) (operand_kind_bytes x.0) x.1 × IsOperandKind x.0 in
    elim (chosen (eqb tag 0) (Ok (operand_kinds.Interval, bytes)) _ (Ok x) e) [
      | inl c ↦ subst as_read (sym (eqb-true _ _ c.0))
          (subst (λ (y : OperandKind × List ℕ). Takes (0 ∷ bytes) (operand_kind_bytes y.0) y.1 × IsOperandKind y.0) (same_ok (operand_kinds.Interval, bytes) x c.1) (record { parts = refl; rest_fits = rest_fits }, tt))
      | inr c ↦
          let one = met (eqb tag 1) Operand (label_at bytes) x c.1 in
          subst as_read (sym (eqb-true _ _ one.0))
          (one_takes OperandKind ℕ number_at two_bytes Number number_spelled operand_kinds.Label (1 ∷ []) operand_kind_bytes IsOperandKind (λ set h. (refl, h)) bytes x rest_fits one.1)
    ]

operand_kind_again : (kind : OperandKind) (rest : List ℕ) → IsOperandKind kind → operand_kind_at (operand_kind_bytes kind ++ rest) ≡ Ok (kind, rest)
unfolding operand_kind_at
operand_kind_again operand_kinds.Interval rest fits = refl
operand_kind_again (operand_kinds.Label set) rest fits = one_again OperandKind ℕ number_at two_bytes Number number_spelled operand_kinds.Label set rest fits

operand_kinds_spelled : IsSpelled (List OperandKind) (short_list_at OPERAND_LIMIT operand_kind_at) (short_listed operand_kind_bytes) (AreListed OperandKind IsOperandKind 0 OPERAND_LIMIT)
operand_kinds_spelled = short_list_spelled OperandKind operand_kind_at operand_kind_bytes IsOperandKind (record { takes = operand_kind_takes; again = operand_kind_again }) OPERAND_LIMIT (omega arith)

-- ---- the table

abbrev NodeFits : ℕ → NodeForm → Type 0
NodeFits tag forms.All = tag ≡ 0
NodeFits tag forms.And = tag ≡ 1
NodeFits tag forms.Or = tag ≡ 2
NodeFits tag forms.Not = tag ≡ 3
NodeFits tag (forms.Ordered relation) = relation_byte relation ≡ tag
NodeFits tag forms.Is = tag ≡ 9

nodes_fit : EachAt NodeFits 0 NODES
nodes_fit = (refl, (refl, (refl, (refl, (refl, (refl, (refl, (refl, (refl, (refl, tt))))))))))

-- ---- reading

-- a pattern was read, and its nodes were counted
pub record IsRead (at : Ahead) (x : Tree × Ahead) : Type 0 where
  pub takes : Takes at.1 (tree_bytes x.0) x.1.1
  pub fits : IsTree x.0
  pub left : node_count x.0 + x.1.0 ≡ at.0

-- n patterns were read, and their nodes were counted
record AreRead (n : ℕ) (at : Ahead) (x : List Tree × Ahead) : Type 0 where
  takes : Takes at.1 (trees_bytes (trees_of x.0)) x.1.1
  fits : AreTrees (trees_of x.0)
  left : nodes_count (trees_of x.0) + x.1.0 ≡ at.0
  count : part_count (trees_of x.0) ≡ n

-- a reader reads only what its bytes spell
abbrev pub Reads : Reader → Type 0
Reads part = (at : Ahead) (x : Tree × Ahead) → IsBytes at.1 → part at ≡ Ok x → IsRead at x

repeated_reads : (part : Reader) → Reads part → (n : ℕ) (at : Ahead) (x : List Tree × Ahead) → IsBytes at.1 → repeated part n at ≡ Ok x → AreRead n at x
unfolding repeated
repeated_reads part reads zero at x fits e =
    subst (AreRead 0 at) (same_ok ([], at) x e) (record { takes = record { parts = refl; rest_fits = fits }; fits = tt; left = omega arith; count = refl })
repeated_reads part reads (suc n) at x fits e =
    let a = bind_ok (part at) (λ first. repeated part n first.1 >>= λ others. Ok (first.0 ∷ others.0, others.1)) x e in
    let b = bind_ok (repeated part n a.0.1) (λ others. Ok (a.0.0 ∷ others.0, others.1)) x a.2 in
    let first = reads at a.0 fits a.1 in
    let others = repeated_reads part reads n a.0.1 b.0 first.takes.rest_fits b.1 in
    let both = Takes-then at.1 (tree_bytes a.0.0) a.0.1.1 (trees_bytes (trees_of b.0.0)) b.0.1.1 first.takes others.takes in
    let made : List Tree × Ahead = (a.0.0 ∷ b.0.0, b.0.1) in
    subst (AreRead (suc n) at) {x = made} {y = x} (same_ok made x b.2)
    (record { takes = both; fits = (first.fits, others.fits); left = omega (arith, first.left, others.left); count = ap suc others.count })

-- what was read after the byte of a node
record IsNodeRead (tag : ℕ) (at : Ahead) (x : Tree × Ahead) : Type 0 where
  takes : Takes (tag ∷ at.1) (tree_bytes x.0) x.1.1
  fits : IsTree x.0
  left : node_count x.0 + x.1.0 ≡ suc at.0

parts_read : (part : Reader) → Reads part → (tag : ℕ) (make : Trees → Tree)
    → ((ps : Trees) → (tree_bytes (make ps) ≡ tag ∷ part_count ps ∷ trees_bytes ps) × (node_count (make ps) ≡ suc (nodes_count ps)) × (AreTrees ps → IsTree (make ps)))
    → (at : Ahead) (x : Tree × Ahead) → IsBytes at.1 → (parts_at part at >>= λ parts. Ok (make (trees_of parts.0), parts.1)) ≡ Ok x → IsNodeRead tag at x
unfolding parts_at
parts_read part reads tag make is at x fits e =
    let a = bind_ok (byte_at at.1 >>= λ count. repeated part count.0 (at.0, count.1)) (λ parts. Ok (make (trees_of parts.0), parts.1)) x e in
    let count = bind_ok (byte_at at.1) (λ count. repeated part count.0 (at.0, count.1)) a.0 a.1 in
    let one = byte_takes at.1 count.0 fits count.1 in
    let parts = repeated_reads part reads count.0.0 (at.0, count.0.1) a.0 one.0.rest_fits count.2 in
    let ps : Trees = trees_of a.0.0 in
    let both = Takes-then at.1 (single count.0.0) count.0.1 (trees_bytes ps) a.0.1.1 one.0 parts.takes in
    let law = is ps in
    let same : tag ∷ count.0.0 ∷ trees_bytes ps ≡ tree_bytes (make ps) = ap (λ (n : ℕ). tag ∷ n ∷ trees_bytes ps) (sym parts.count) ∙ sym law.0 in
    let whole : Takes (tag ∷ at.1) (tag ∷ count.0.0 ∷ trees_bytes ps) a.0.1.1 = record { parts = ap (λ (t : List ℕ). tag ∷ t) both.parts; rest_fits = both.rest_fits } in
    let made : Tree × Ahead = (make ps, a.0.1) in
    subst (IsNodeRead tag at) {x = made} {y = x} (same_ok made x a.2)
    (record { takes = subst (λ (t : List ℕ). Takes (tag ∷ at.1) t a.0.1.1) same whole; fits = law.2 parts.fits; left = omega (arith, law.1, parts.left) })

test_read : (tag : ℕ) (test : ℕ → ℕ → Tree) → ((dim operand : ℕ) → (tree_bytes (test dim operand) ≡ tag ∷ dim ∷ operand ∷ []) × (node_count (test dim operand) ≡ 1) × (InByte dim → InByte operand → IsTree (test dim operand)))
    → (at : Ahead) (x : Tree × Ahead) → IsBytes at.1 → test_at test at ≡ Ok x → IsNodeRead tag at x
unfolding test_at
test_read tag test is at x fits e =
    let dim = bind_ok (byte_at at.1) (λ dim. byte_at dim.1 >>= λ operand. Ok (test dim.0 operand.0, (at.0, operand.1))) x e in
    let operand = bind_ok (byte_at dim.0.1) (λ operand. Ok (test dim.0.0 operand.0, (at.0, operand.1))) x dim.2 in
    let one = byte_takes at.1 dim.0 fits dim.1 in
    let two = byte_takes dim.0.1 operand.0 one.0.rest_fits operand.1 in
    let both = Takes-then at.1 (single dim.0.0) dim.0.1 (single operand.0.0) operand.0.1 one.0 two.0 in
    let law = is dim.0.0 operand.0.0 in
    let whole : Takes (tag ∷ at.1) (tag ∷ dim.0.0 ∷ operand.0.0 ∷ []) operand.0.1 = record { parts = ap (λ (t : List ℕ). tag ∷ t) both.parts; rest_fits = both.rest_fits } in
    let made : Tree × Ahead = (test dim.0.0 operand.0.0, (at.0, operand.0.1)) in
    subst (IsNodeRead tag at) {x = made} {y = x} (same_ok made x operand.2)
    (record { takes = subst (λ (t : List ℕ). Takes (tag ∷ at.1) t operand.0.1) (sym law.0) whole; fits = law.2 one.1 two.1; left = omega (arith, law.1) })

node_after_reads : (part : Reader) → Reads part → (tag : ℕ) (form : NodeForm) (at : Ahead) (x : Tree × Ahead) → IsBytes at.1 → NodeFits tag form → node_after part form at ≡ Ok x → IsNodeRead tag at x
unfolding node_after
node_after_reads part reads tag forms.All at x fits is e =
    subst (λ (t : ℕ). IsNodeRead t at x) (sym is) (subst (IsNodeRead 0 at) (same_ok (all, at) x e) (record { takes = record { parts = refl; rest_fits = fits }; fits = tt; left = omega arith }))
node_after_reads part reads tag forms.And at x fits is e =
    subst (λ (t : ℕ). IsNodeRead t at x) (sym is) (parts_read part reads 1 and_of (λ ps. (refl, refl, λ h. h)) at x fits e)
node_after_reads part reads tag forms.Or at x fits is e =
    subst (λ (t : ℕ). IsNodeRead t at x) (sym is) (parts_read part reads 2 or_of (λ ps. (refl, refl, λ h. h)) at x fits e)
node_after_reads part reads tag forms.Not at x fits is e =
    let one = bind_ok (part at) (λ one. Ok (not_of one.0, one.1)) x e in
    let read = reads at one.0 fits one.1 in
    let made : Tree × Ahead = (not_of one.0.0, one.0.1) in
    subst (λ (t : ℕ). IsNodeRead t at x) (sym is)
    (subst (IsNodeRead 3 at) {x = made} {y = x} (same_ok made x one.2)
    (record { takes = record { parts = ap (λ (t : List ℕ). 3 ∷ t) read.takes.parts; rest_fits = read.takes.rest_fits }; fits = read.fits; left = omega (arith, read.left) }))
node_after_reads part reads tag (forms.Ordered relation) at x fits is e =
    subst (λ (t : ℕ). IsNodeRead t at x) is (test_read (relation_byte relation) (ordered relation) (λ dim operand. (refl, refl, λ h k. (h, k))) at x fits e)
node_after_reads part reads tag forms.Is at x fits is e =
    subst (λ (t : ℕ). IsNodeRead t at x) (sym is) (test_read 9 is_label (λ dim operand. (refl, refl, λ h k. (h, k))) at x fits e)

node_reads : (part : Reader) → Reads part → (room : ℕ) (bytes : List ℕ) (x : Tree × Ahead) → IsBytes bytes → node_at part (room, bytes) ≡ Ok x → IsRead (suc room, bytes) x
unfolding node_at
node_reads part reads room [] x fits e = absurd cc
node_reads part reads room (tag ∷ bytes) x fits e =
    let form = bind_ok (ok_or (slice_get NODES tag) Operand) (λ form. node_after part form (room, bytes)) x e in
    let there = ok_or_ok Operand (slice_get NODES tag) form.0 form.1 in
    let read = node_after_reads part reads tag form.0 (room, bytes) x (IsBytes-rest tag bytes fits) (entry_at NodeForm NodeFits NODES tag form.0 nodes_fit there) form.2 in
    record { takes = read.takes; fits = read.fits; left = read.left }

pub pattern_reads : (depth : ℕ) → Reads (pattern_at depth)
unfolding pattern_at
pattern_reads zero at x fits e = absurd cc
pattern_reads (suc depth) (zero, bytes) x fits e = absurd cc
pattern_reads (suc depth) (suc room, bytes) x fits e = node_reads (pattern_at depth) (pattern_reads depth) room bytes x fits e

-- ---- reading again

abbrev list_of : Trees → List Tree
list_of no_more = []
list_of (more p ps) = p ∷ list_of ps

trees_of-list_of : (ps : Trees) → trees_of (list_of ps) ≡ ps
trees_of-list_of no_more = refl
trees_of-list_of (more p ps) = ap (more p) (trees_of-list_of ps)

-- what was read, how many nodes may still come, and the bytes that are left
abbrev gives : {A : Type 0} → A → ℕ → List ℕ → Result (A × Ahead) CodeFault
gives a room rest = Ok (a, (room, rest))

nodeless : (p : Tree) → node_count p ≤ 0 → ⊥
nodeless all few = omega arith
nodeless (and_of ps) few = omega arith
nodeless (or_of ps) few = omega arith
nodeless (not_of p) few = omega arith
nodeless (ordered relation dim operand) few = omega arith
nodeless (is_label dim operand) few = omega arith

one_off : (room : ℕ) → room ≡ suc room - 1
one_off room = omega arith

all_off : (room count : ℕ) → room - count ≡ suc room - suc count
all_off room count = omega arith

none_off : (room : ℕ) → room ≡ room - 0
none_off room = omega arith

both_off : (room one others : ℕ) → room - one - others ≡ room - (one + others)
both_off room one others = omega arith

mutual
  unfolding pattern_at node_at node_after parts_at test_at repeated

  pattern_again : (depth : ℕ) (p : Tree) (room : ℕ) (rest : List ℕ) → node_count p ≤ room → room ≤ depth → pattern_at depth (room, tree_bytes p ++ rest) ≡ gives p (room - (node_count p)) rest
  pattern_again depth p zero rest few deep = absurd (nodeless p few)
  pattern_again zero p (suc room) rest few deep = absurd (omega arith)
  pattern_again (suc depth) all (suc room) rest few deep = ap (λ (n : ℕ). gives (all) n rest) (one_off room)
  pattern_again (suc depth) (and_of ps) (suc room) rest few deep =
      rw (parts_again depth ps room rest (omega (arith, few)) (omega (arith, deep)), trees_of-list_of ps) (ap (λ (n : ℕ). gives (and_of ps) n rest) (all_off room (nodes_count ps)))
  pattern_again (suc depth) (or_of ps) (suc room) rest few deep =
      rw (parts_again depth ps room rest (omega (arith, few)) (omega (arith, deep)), trees_of-list_of ps) (ap (λ (n : ℕ). gives (or_of ps) n rest) (all_off room (nodes_count ps)))
  pattern_again (suc depth) (not_of p) (suc room) rest few deep =
      rw (pattern_again depth p room rest (omega (arith, few)) (omega (arith, deep))) (ap (λ (n : ℕ). gives (not_of p) n rest) (all_off room (node_count p)))
  pattern_again (suc depth) (ordered relations.Within dim operand) (suc room) rest few deep = ap (λ (n : ℕ). gives (ordered relations.Within dim operand) n rest) (one_off room)
  pattern_again (suc depth) (ordered relations.Covers dim operand) (suc room) rest few deep = ap (λ (n : ℕ). gives (ordered relations.Covers dim operand) n rest) (one_off room)
  pattern_again (suc depth) (ordered relations.Overlaps dim operand) (suc room) rest few deep = ap (λ (n : ℕ). gives (ordered relations.Overlaps dim operand) n rest) (one_off room)
  pattern_again (suc depth) (ordered relations.Less dim operand) (suc room) rest few deep = ap (λ (n : ℕ). gives (ordered relations.Less dim operand) n rest) (one_off room)
  pattern_again (suc depth) (ordered relations.More dim operand) (suc room) rest few deep = ap (λ (n : ℕ). gives (ordered relations.More dim operand) n rest) (one_off room)
  pattern_again (suc depth) (is_label dim operand) (suc room) rest few deep = ap (λ (n : ℕ). gives (is_label dim operand) n rest) (one_off room)

  parts_again : (depth : ℕ) (ps : Trees) (room : ℕ) (rest : List ℕ) → nodes_count ps ≤ room → room ≤ depth → repeated (pattern_at depth) (part_count ps) (room, trees_bytes ps ++ rest) ≡ gives (list_of ps) (room - (nodes_count ps)) rest
  parts_again depth no_more room rest few deep = ap (λ (n : ℕ). gives ([]) n rest) (none_off room)
  parts_again depth (more p ps) room rest few deep =
      let regrouped : trees_bytes (more p ps) ++ rest ≡ tree_bytes p ++ (trees_bytes ps ++ rest) = append_assoc (tree_bytes p) (trees_bytes ps) rest in
      let first = pattern_again depth p room (trees_bytes ps ++ rest) (omega (arith, few)) deep in
      let others = parts_again depth ps (room - node_count p) rest (omega (arith, few)) (omega (arith, deep)) in
      ap (λ (t : List ℕ). repeated (pattern_at depth) (suc (part_count ps)) (room, t)) regrouped
      ∙ rw (first, others) (ap (λ (n : ℕ). gives (p ∷ list_of ps) n rest) (both_off room (node_count p) (nodes_count ps)))

-- ---- queries

query_takes : (bytes : List ℕ) (x : Query × List ℕ) → IsBytes bytes → query_at bytes ≡ Ok x → Takes bytes (query_bytes x.0) x.1 × IsQuery x.0
unfolding query_at
query_takes bytes x fits e =
    let a = bind_ok (number_at bytes) (λ class. number_at class.1 >>= λ space. short_list_at OPERAND_LIMIT operand_kind_at space.1 >>= λ kinds. pattern_at NODE_LIMIT (NODE_LIMIT, kinds.1) >>= λ pattern. Ok (record { class = class.0; space = space.0; kinds = kinds.0; pattern = pattern.0 }, pattern.1.1)) x e in
    let b = bind_ok (number_at a.0.1) (λ space. short_list_at OPERAND_LIMIT operand_kind_at space.1 >>= λ kinds. pattern_at NODE_LIMIT (NODE_LIMIT, kinds.1) >>= λ pattern. Ok (record { class = a.0.0; space = space.0; kinds = kinds.0; pattern = pattern.0 }, pattern.1.1)) x a.2 in
    let d = bind_ok (short_list_at OPERAND_LIMIT operand_kind_at b.0.1) (λ kinds. pattern_at NODE_LIMIT (NODE_LIMIT, kinds.1) >>= λ pattern. Ok (record { class = a.0.0; space = b.0.0; kinds = kinds.0; pattern = pattern.0 }, pattern.1.1)) x b.2 in
    let p = bind_ok (pattern_at NODE_LIMIT (NODE_LIMIT, d.0.1)) (λ pattern. Ok (record { class = a.0.0; space = b.0.0; kinds = d.0.0; pattern = pattern.0 }, pattern.1.1)) x d.2 in
    let t0 = number_spelled.takes bytes a.0 fits a.1 in
    let t1 = number_spelled.takes a.0.1 b.0 t0.0.rest_fits b.1 in
    let t2 = operand_kinds_spelled.takes b.0.1 d.0 t1.0.rest_fits d.1 in
    let t3 = pattern_reads NODE_LIMIT (NODE_LIMIT, d.0.1) p.0 t2.0.rest_fits p.1 in
    let made : Query = record { class = a.0.0; space = b.0.0; kinds = d.0.0; pattern = p.0.0 } in
    let to_space = Takes-then bytes (two_bytes a.0.0) a.0.1 (two_bytes b.0.0) b.0.1 t0.0 t1.0 in
    let to_kinds = Takes-then bytes (two_bytes a.0.0 ++ two_bytes b.0.0) b.0.1 (short_listed operand_kind_bytes d.0.0) d.0.1 to_space t2.0 in
    let whole = Takes-then bytes (two_bytes a.0.0 ++ two_bytes b.0.0 ++ short_listed operand_kind_bytes d.0.0) d.0.1 (tree_bytes p.0.0) p.0.1.1 to_kinds t3.takes in
    let is : IsQuery made = record {
      class = t0.1;
      space = t1.1;
      few = t2.1.few;
      each = All-from_recursion IsOperandKind d.0.0 t2.1.each;
      nodes = omega (arith, t3.left);
      pattern = t3.fits;
    } in
    subst (λ (y : Query × List ℕ). Takes bytes (query_bytes y.0) y.1 × IsQuery y.0) {x = (made, p.0.1.1)} {y = x} (same_ok (made, p.0.1.1) x p.2) (whole, is)

-- what is read after the class and the space
abbrev after_space : ℕ → ℕ × List ℕ → Result (Query × List ℕ) CodeFault
after_space class space = short_list_at OPERAND_LIMIT operand_kind_at space.1 >>= λ kinds. pattern_at NODE_LIMIT (NODE_LIMIT, kinds.1) >>= λ pattern. Ok (record { class = class; space = space.0; kinds = kinds.0; pattern = pattern.0 }, pattern.1.1)

query_again : (q : Query) (rest : List ℕ) → IsQuery q → query_at (query_bytes q ++ rest) ≡ Ok (q, rest)
unfolding query_at
query_again q rest fits =
    let class : List ℕ = two_bytes q.class in
    let space : List ℕ = two_bytes q.space in
    let kinds : List ℕ = short_listed operand_kind_bytes q.kinds in
    let after_kinds : List ℕ = tree_bytes q.pattern ++ rest in
    let kinds_fit : AreListed OperandKind IsOperandKind 0 OPERAND_LIMIT q.kinds = record { enough = omega arith; few = fits.few; each = recursion_from_All IsOperandKind q.kinds fits.each } in
    let regrouped : query_bytes q ++ rest ≡ class ++ (space ++ (kinds ++ after_kinds)) =
    append_assoc (class ++ space ++ kinds) (tree_bytes q.pattern) rest ∙ append_assoc (class ++ space) kinds after_kinds ∙ append_assoc class space (kinds ++ after_kinds) in
    ap query_at regrouped
    ∙ ap (λ (r : Result (ℕ × List ℕ) CodeFault). r >>= λ class. number_at class.1 >>= λ space. after_space class.0 space) (number_spelled.again q.class (space ++ (kinds ++ after_kinds)) fits.class)
    ∙ ap (λ (r : Result (ℕ × List ℕ) CodeFault). r >>= λ space. after_space q.class space) (number_spelled.again q.space (kinds ++ after_kinds) fits.space)
    ∙ rw (operand_kinds_spelled.again q.kinds after_kinds kinds_fit, pattern_again NODE_LIMIT q.pattern NODE_LIMIT rest fits.nodes (omega arith)) refl

pub query_spelled : IsSpelled Query query_at query_bytes IsQuery
query_spelled = record { takes = query_takes; again = query_again }
