-- Expressions only add ops, texts and queries, and leave the scope as it is: the same names, and what the locals hold.
-- Their ops go on to the next one, and take no local.
use Rattle.std.proofs.Common.{◌≡◌, ℕ, ◌-◌, Bool, true, false, cond, List, [], ◌∷◌, ◌++◌, length, Option, Some, None, Result, Ok, Err, refl, subst, sym, ◌∙◌, arith}
use Rattle.std.specs.Prelude.{ℤ, pos, int_lt, nat_le, position, ◌==◌}
use Rattle.std.specs.Str.{bytes_eq}
use Rattle.std.proofs.lemmas.List.{append-nil}
use Rattle.bb_basis.specs.Results.{◌>>=◌}
use Rattle.bb_code.specs.declared.op.Bound.TheVariants as bounds
use Rattle.bb_code.specs.declared.parts.TheConstants.{OP_LIMIT, TEXT_COUNT_LIMIT, TEXT_BYTES_LIMIT, QUERY_LIMIT}
use Rattle.bb_pattern.specs.declared.fits.TheConstants.{OPERAND_LIMIT}
use Rattle.bb_pattern.specs.Trees.{Tree, Trees}
use Rattle.bb_pattern.specs.Trees as nodes
use Rattle.bb_code.specs.declared.frame.Kind.{Kind}
use Rattle.bb_code.specs.declared.frame.Kind.TheVariants as kinds
use Rattle.bb_verify_effect.specs.Kinds.{is_same_plain}
use Rattle.bb_code.specs.declared.op.Op.{Op}
use Rattle.bb_code.specs.declared.op.Op.TheVariants as ops
use Rattle.bb_pattern.specs.declared.query.Query.{Query}
use Rattle.bb_schema.specs.Schema.{Schema, class_named, space_named, label_set_named, label_named}
use Rattle.bb_schema_classes.specs.declared.kind.Link.{Link}
use Rattle.bb_lang.specs.Atom.{Atom}
use Rattle.bb_lang.specs.Atom.TheVariants as atoms
use Rattle.bb_lang.specs.Binary.{Binary}
use Rattle.bb_lang.specs.Binary.TheVariants as binaries
use Rattle.bb_lang.specs.Division.{Division}
use Rattle.bb_lang.specs.Operator.{Operator}
use Rattle.bb_lang.specs.Operator.TheVariants as operators
use Rattle.bb_lang.specs.Relation.{Relation}
use Rattle.bb_lang.specs.Trees.{ExprTree, Steps, SequenceTree, PatternTree, Patterns, atom, unary, binary, chain, size_of, no_step, apply, divide, found, linked, all, and_of, or_of, not_of, test, no_pattern, more}
use Rattle.bb_lang.specs.Unary.{Unary}
use Rattle.bb_lang.specs.Unary.TheVariants as unaries
use Rattle.bb_lang.specs.Variable.{Variable}
use Rattle.bb_compile_scope.specs.declared.fault.CompileFault.{CompileFault}
use Rattle.bb_compile_scope.specs.declared.fault.CompileFault.TheVariants.{At}
use Rattle.bb_compile_scope.specs.declared.fault.TextFlaw.{TextFlaw}
use Rattle.bb_compile_scope.specs.declared.fault.TextFlaw.TheVariants.{Unknown, Kind as WrongKind, DeadName, Limit}
use Rattle.bb_compile_scope.specs.Kinds.{class_of, is_live, equality}
use Rattle.bb_compile_scope.specs.LocalKinds.{kind_at}
use Rattle.bb_compile_scope.specs.Scope.{name_of, local_of}
use Rattle.bb_compile_scope.specs.Slots.{value_slot, link_slot, dimension}
use Rattle.bb_compile_buffer.specs.declared.buffer.Buffer.{Buffer}
use Rattle.bb_compile_buffer.specs.Buffers.{noted, due, known, put, put_value, text_at, text_index, asked_query}
use Rattle.bb_compile_buffer.specs.Operations.{Made, one_due, two_due, unary_code, equality_by, equality_code, binary_code, operator_code, division_op, divisor_noted, division_code}
use Rattle.bb_compile_buffer.specs.Atoms.{pushed, loaded, variable_code, live_unit, unit_of, unit_code, gotten, got_from, slot_code, text_noted, text_code, label_of, label_in, label_code, atom_code}
use Rattle.bb_compile.specs.declared.asked.Asked.{Asked}
use Rattle.bb_compile.specs.Expressions.{expr_code, steps_code, sequence_code, pattern_code, patterns_code}
use Rattle.bb_theorem_accepted.proofs.buffers.BufferLemmas.{grown_none, grown_on}
use Rattle.bb_theorem_accepted.proofs.buffers.GrownLemmas.{Adds, adds_on, adds_none, adds_flaw, adds_op}
use Rattle.bb_theorem_accepted.proofs.buffers.QuietLemmas.{is_quiet, AreQuiet, quiet_on, equal_quiet}
use Rattle.bb_compile.specs.Queries.{Patterned, no_operand, node_counted, node_noted, operand_noted, test_at, test_code, query_code, linked_by, linked_from, links_code}

-- a buffer has more than another, with the same scope: what is put goes on to the next op, and takes no local
pub record Stays (s t : Buffer) : Type 0 where
  pub adds : Adds s t
  pub scope : t.scope ≡ s.scope
  pub quiet : AreQuiet adds.grown.ops

pub same_on : (s t u : Buffer) → Stays s t → Stays t u → Stays s u
unfolding adds_on grown_on
same_on s t u a b = record { adds = adds_on s t u a.adds b.adds; scope = b.scope ∙ a.scope; quiet = quiet_on a.adds.grown.ops b.adds.grown.ops a.quiet b.quiet }

-- so it is in what an answer has of a buffer
abbrev pub Keeps : {X : Type 0} → (at : X → Buffer) → Buffer → Result X CompileFault → Type 0
Keeps at s (Ok x) = Stays s (at x)
Keeps at s (Err e) = Unit {0}

abbrev pub itself : Buffer → Buffer
itself t = t

abbrev pub behind : {X : Type 0} → X × Buffer → Buffer
behind p = p.1

abbrev pub last : {X : Type 0} → Patterned X → Buffer
last p = p.2

pub stays_same : (s : Buffer) → Stays s s
unfolding adds_none grown_none
stays_same s = record { adds = adds_none s; scope = refl; quiet = tt }

pub onward : {X : Type 0} (at : X → Buffer) (s t : Buffer) (r : Result X CompileFault) → Stays s t → Keeps at t r → Keeps at s r
onward at s t (Ok x) g h = same_on s t (at x) g h
onward at s t (Err e) g h = tt

-- one part after another
pub then : {X Y : Type 0} (at : X → Buffer) (to : Y → Buffer) (s : Buffer) (r : Result X CompileFault) (f : X → Result Y CompileFault) → Keeps at s r → ((x : X) → Keeps to (at x) (f x)) → Keeps to s (r >>= f)
then at to s (Ok x) f g h = onward to s (at x) (f x) g (h x)
then at to s (Err e) f g h = tt

pub keeps_ok : {X : Type 0} (at : X → Buffer) (s : Buffer) (r : Result X CompileFault) (x : X) → r ≡ Ok x → Keeps at s r → Stays s (at x)
keeps_ok at s r x is g = subst (Keeps at s) is g

-- ---- flaws, and one op

pub flawed : (flaw : TextFlaw) (s : Buffer) → Stays s (noted flaw s)
unfolding adds_flaw grown_none
flawed flaw s = record { adds = adds_flaw flaw s; scope = refl; quiet = tt }

pub unless_flawed : (b : Bool) (flaw : TextFlaw) (s : Buffer) → Stays s (cond b s (noted flaw s))
unless_flawed true flaw s = stays_same s
unless_flawed false flaw s = flawed flaw s

pub if_flawed : (b : Bool) (flaw : TextFlaw) (s : Buffer) → Stays s (cond b (noted flaw s) s)
if_flawed true flaw s = flawed flaw s
if_flawed false flaw s = stays_same s

pub due_keeps : (made : Made) (wanted : Kind) (s : Buffer) → Stays s (due made wanted s)
unfolding due
due_keeps None wanted s = stays_same s
due_keeps (Some kind) wanted s = unless_flawed (is_same_plain kind wanted) WrongKind s

pub known_keeps : (o : Option ℕ) (s : Buffer) → Stays s (known o s)
known_keeps None s = flawed Unknown s
known_keeps (Some n) s = stays_same s

pub put_keeps : (op : Op) → is_quiet op ≡ true → (s : Buffer) → Keeps itself s (put op s)
unfolding put adds_op
put_keeps op quiet s = by_room (nat_le OP_LIMIT (length s.ops))
  where
    by_room : (b : Bool) → Keeps itself s (cond b (Err (At Limit s.start)) (Ok (record s { ops = s.ops ++ op ∷ [] })))
    by_room true = tt
    by_room false = record { adds = adds_op op s (record s { ops = s.ops ++ op ∷ [] }) s.scope s.locals (omega arith) refl; scope = refl; quiet = (quiet, tt) }

-- an op after what was noted
pub put_on : (op : Op) → is_quiet op ≡ true → (s t : Buffer) → Stays s t → Keeps itself s (put op t)
put_on op quiet s t g = onward itself s t (put op t) g (put_keeps op quiet t)

pub made_on : {X : Type 0} (x : X) (op : Op) → is_quiet op ≡ true → (s t : Buffer) → Stays s t → Keeps behind s (put op t >>= λ u. Ok (x, u))
made_on x op quiet s t g = then itself behind s (put op t) (λ u. Ok (x, u)) (put_on op quiet s t g) (λ u. stays_same u)

pushed_keeps : (op : Op) → is_quiet op ≡ true → (gives : Kind) (room : ℕ) (s : Buffer) → Keeps behind s (pushed op gives room s)
unfolding pushed put_value
pushed_keeps op quiet gives room s = made_on (Some gives) op quiet s (cond (room == 0) (noted Limit s) s) (if_flawed (room == 0) Limit s)

-- ---- expressions without parts

pub variable_keeps : (v : Variable) (room : ℕ) (s : Buffer) → Keeps behind s (variable_code v room s)
unfolding variable_code put_value
variable_keeps v room s = by_local (local_of s.scope (name_of v))
  where
    by_local : (o : Option ℕ) → Keeps behind s (loaded o room s)
    by_local None = flawed Unknown s
    by_local (Some local) =
        let was = cond (room == 0) (noted Limit s) s in
        then itself behind s (put (ops.Load local) was) (λ t. Ok (Some (kind_at t.scope.kinds local), t)) (put_on (ops.Load local) refl s was (if_flawed (room == 0) Limit s)) (λ t. stays_same t)

pub unit_keeps : (v : Variable) (room : ℕ) (s : Buffer) → Keeps behind s (unit_code v room s)
unfolding unit_code
unit_keeps v room s = then behind behind s (variable_code v room s) (λ p. unit_of p.0 p.1) (variable_keeps v room s) (λ p. by_made p.0 p.1)
  where
    by_class : (o : Option ℕ) (live : Bool) (t : Buffer) → Keeps behind t (live_unit o live t)
    by_class None live t = flawed WrongKind t
    by_class (Some class) live t = unless_flawed live DeadName t

    by_made : (made : Made) (t : Buffer) → Keeps behind t (unit_of made t)
    by_made None t = stays_same t
    by_made (Some kind) t = by_class (class_of kind) (is_live kind) t

slot_keeps : (schema : Schema) (v : Variable) (slot : List ℕ) (room : ℕ) (s : Buffer) → Keeps behind s (slot_code schema v slot room s)
unfolding slot_code
slot_keeps schema v slot room s = then behind behind s (unit_code v room s) (λ p. got_from schema slot p.0 p.1) (unit_keeps v room s) (λ p. by_class p.0 p.1)
  where
    by_slot : (r : Result (ℕ × Kind) TextFlaw) (t : Buffer) → Keeps behind t (gotten r t)
    by_slot (Err flaw) t = flawed flaw t
    by_slot (Ok p) t = made_on (Some p.1) (ops.Get p.0) refl t t (stays_same t)

    by_class : (class : Option ℕ) (t : Buffer) → Keeps behind t (got_from schema slot class t)
    by_class None t = stays_same t
    by_class (Some class) t = by_slot (value_slot schema class slot) t

text_keeps : (text : List ℕ) (room : ℕ) (s : Buffer) → Keeps behind s (text_code text room s)
unfolding text_code text_index
text_keeps text room s =
    let was = text_noted text s in
    onward behind s was (text_at text (position (bytes_eq text) was.texts) was >>= λ p. pushed (ops.PushText p.0) kinds.Text room p.1) (unless_flawed (nat_le (length text) TEXT_BYTES_LIMIT) Limit s)
    (then behind behind was (text_at text (position (bytes_eq text) was.texts) was) (λ p. pushed (ops.PushText p.0) kinds.Text room p.1) (by_place was (position (bytes_eq text) was.texts))
    (λ p. pushed_keeps (ops.PushText p.0) refl kinds.Text room p.1))
  where
    by_room : (t : Buffer) (b : Bool) → Keeps behind t (cond b (Err (At Limit t.start)) (Ok (length t.texts, record t { texts = t.texts ++ text ∷ [] })))
    by_room t true = tt
    by_room t false = record { adds = record { grown = record { ops = []; ops_are = sym (append-nil t.ops); texts = text ∷ []; texts_are = refl; queries = []; queries_are = sym (append-nil t.queries) }; labels = refl; last = refl; loops = refl; locals = omega arith; clean = λ c. c }; scope = refl; quiet = tt }

    by_place : (t : Buffer) (o : Option ℕ) → Keeps behind t (text_at text o t)
    by_place t (Some index) = stays_same t
    by_place t None = by_room t (nat_le TEXT_COUNT_LIMIT (length t.texts))

label_keeps : (schema : Schema) (set label : List ℕ) (room : ℕ) (s : Buffer) → Keeps behind s (label_code schema set label room s)
unfolding label_code
label_keeps schema set label room s = by_set (label_set_named schema set)
  where
    by_label : (k : ℕ) (o : Option ℕ) → Keeps behind s (label_of k o room s)
    by_label k None = flawed Unknown s
    by_label k (Some l) = pushed_keeps (ops.PushLabel k l) refl (kinds.Label k) room s

    by_set : (o : Option ℕ) → Keeps behind s (label_in schema label o room s)
    by_set None = flawed Unknown s
    by_set (Some k) = by_label k (label_named schema k label)

pub atom_keeps : (schema : Schema) (room : ℕ) (a : Atom) (s : Buffer) → Keeps behind s (atom_code schema room a s)
unfolding atom_code
atom_keeps schema room (atoms.Int n) s = pushed_keeps (ops.PushInt n) refl kinds.Int room s
atom_keeps schema room (atoms.Text text) s = text_keeps text room s
atom_keeps schema room (atoms.Bool b) s = pushed_keeps (ops.PushBool b) refl kinds.Bool room s
atom_keeps schema room (atoms.Label set label) s = label_keeps schema set label room s
atom_keeps schema room (atoms.Variable v) s = variable_keeps v room s
atom_keeps schema room (atoms.Slot unit slot) s = slot_keeps schema unit slot room s

-- ---- operations

one_keeps : (operand : Made) (wanted : Kind) (op : Op) → is_quiet op ≡ true → (gives : Kind) (s : Buffer) → Keeps behind s (one_due operand wanted op gives s)
unfolding one_due
one_keeps operand wanted op quiet gives s = made_on (Some gives) op quiet s (due operand wanted s) (due_keeps operand wanted s)

two_keep : (l r : Made) (wanted : Kind) (op : Op) → is_quiet op ≡ true → (gives : Kind) (s : Buffer) → Keeps behind s (two_due l r wanted op gives s)
unfolding two_due
two_keep l r wanted op quiet gives s =
    made_on (Some gives) op quiet s (due r wanted (due l wanted s)) (same_on s (due l wanted s) (due r wanted (due l wanted s)) (due_keeps l wanted s) (due_keeps r wanted (due l wanted s)))

pub unary_keeps : (operation : Unary) (operand : Made) (s : Buffer) → Keeps behind s (unary_code operation operand s)
unary_keeps unaries.Not operand s = one_keeps operand kinds.Bool ops.Not refl kinds.Bool s
unary_keeps unaries.Low operand s = one_keeps operand kinds.Interval (ops.BoundOf bounds.Low) refl kinds.Int s
unary_keeps unaries.High operand s = one_keeps operand kinds.Interval (ops.BoundOf bounds.High) refl kinds.Int s

equal_keeps : (l r : Made) (s : Buffer) → Keeps itself s (equality_code l r s)
equal_keeps (Some l) (Some r) s = by_op (equality l r) (equal_quiet l r)
  where
    by_op : (o : Option Op) → ((op : Op) → o ≡ Some op → is_quiet op ≡ true) → Keeps itself s (equality_by o s)
    by_op None quiet = flawed WrongKind s
    by_op (Some op) quiet = put_keeps op (quiet op refl) s
equal_keeps (Some l) None s = stays_same s
equal_keeps None r s = stays_same s

pub binary_keeps : (operation : Binary) (l r : Made) (s : Buffer) → Keeps behind s (binary_code operation l r s)
unfolding binary_code
binary_keeps binaries.Less l r s = two_keep l r kinds.Int _ refl kinds.Bool s
binary_keeps binaries.AtMost l r s = two_keep l r kinds.Int _ refl kinds.Bool s
binary_keeps binaries.Equal l r s = then itself behind s (equality_code l r s) (λ t. Ok (Some kinds.Bool, t)) (equal_keeps l r s) (λ t. stays_same t)
binary_keeps binaries.Min l r s = two_keep l r kinds.Int _ refl kinds.Int s
binary_keeps binaries.Max l r s = two_keep l r kinds.Int _ refl kinds.Int s
binary_keeps binaries.Interval l r s = two_keep l r kinds.Int ops.MakeInterval refl kinds.Interval s

pub operator_keeps : (operator : Operator) (l r : Made) (s : Buffer) → Keeps behind s (operator_code operator l r s)
operator_keeps operators.Or l r s = two_keep l r kinds.Bool _ refl kinds.Bool s
operator_keeps operators.And l r s = two_keep l r kinds.Bool _ refl kinds.Bool s
operator_keeps operators.Plus l r s = two_keep l r kinds.Int _ refl kinds.Int s
operator_keeps operators.Minus l r s = two_keep l r kinds.Int _ refl kinds.Int s
operator_keeps operators.Times l r s = two_keep l r kinds.Int _ refl kinds.Int s

pub division_keeps : (d : Division) (divisor : ℤ) (l : Made) (s : Buffer) → Keeps behind s (division_code d divisor l s)
unfolding division_code
division_keeps d divisor l s =
    let was = divisor_noted divisor s in
    onward behind s was (one_due l kinds.Int (ops.Divide (division_op d) divisor) kinds.Int was) (if_flawed (int_lt divisor (pos 1)) Limit s) (one_keeps l kinds.Int (ops.Divide (division_op d) divisor) refl kinds.Int was)

-- ---- sequences and patterns

pub links_keep : (schema : Schema) (unit : Variable) (slot : List ℕ) (room : ℕ) (s : Buffer) → Keeps behind s (links_code schema unit slot room s)
unfolding links_code
links_keep schema unit slot room s = then behind behind s (unit_code unit room s) (λ p. linked_from schema slot p.0 p.1) (unit_keeps unit room s) (λ p. by_class p.0 p.1)
  where
    by_slot : (r : Result (ℕ × Link) TextFlaw) (t : Buffer) → Keeps behind t (linked_by r t)
    by_slot (Err flaw) t = flawed flaw t
    by_slot (Ok p) t = made_on (Some p.1.to) (ops.Links p.0) refl t t (stays_same t)

    by_class : (class : Option ℕ) (t : Buffer) → Keeps behind t (linked_from schema slot class t)
    by_class None t = stays_same t
    by_class (Some class) t = by_slot (link_slot schema class slot) t

pub query_keeps : (class space : Option ℕ) (asked : Asked) (pattern : Tree) (room : ℕ) (s : Buffer) → Keeps behind s (query_code class space asked pattern room s)
unfolding query_code put_value asked_query
query_keeps (Some class) (Some space) asked pattern room s =
    then behind behind s (cond (nat_le QUERY_LIMIT (length s.queries)) (Err (At Limit s.start)) (Ok (length s.queries, record s { queries = s.queries ++ q ∷ [] })))
    (λ p. put (ops.Find p.0) (cond (room == 0) (noted Limit p.1) p.1) >>= λ u. Ok (Some class, u)) (by_room (nat_le QUERY_LIMIT (length s.queries)))
    (λ p. made_on (Some class) (ops.Find p.0) refl p.1 (cond (room == 0) (noted Limit p.1) p.1) (if_flawed (room == 0) Limit p.1))
  where
    q : Query
    q = record { class = class; space = space; kinds = asked.kinds; pattern = pattern }

    by_room : (b : Bool) → Keeps behind s (cond b (Err (At Limit s.start)) (Ok (length s.queries, record s { queries = s.queries ++ q ∷ [] })))
    by_room true = tt
    by_room false = record { adds = record { grown = record { ops = []; ops_are = sym (append-nil s.ops); texts = []; texts_are = sym (append-nil s.texts); queries = q ∷ []; queries_are = refl }; labels = refl; last = refl; loops = refl; locals = omega arith; clean = λ c. c }; scope = refl; quiet = tt }
query_keeps (Some class) None asked pattern room s = stays_same s
query_keeps None space asked pattern room s = stays_same s

pub test_keeps : (schema : Schema) (space : Option ℕ) (dim : List ℕ) (relation : Relation) (operand : Made) (asked : Asked) (s : Buffer) → Stays s (test_code schema space dim relation operand asked s).2
unfolding test_code
test_keeps schema None dim relation operand asked s = stays_same s
test_keeps schema (Some space) dim relation operand asked s = by_dimension (dimension schema space dim relation)
  where
    by_dimension : (o : Option (ℕ × Kind)) → Stays s (test_at relation o operand asked s).2
    by_dimension None = flawed Unknown s
    by_dimension (Some d) = same_on s (due operand d.1 s) (operand_noted asked (due operand d.1 s)) (due_keeps operand d.1 s) (if_flawed (nat_le OPERAND_LIMIT (length asked.kinds)) Limit (due operand d.1 s))

pub node_keeps : (asked : Asked) (s : Buffer) → Stays s (node_noted asked s)
node_keeps asked s = if_flawed (asked.nodes == 0) Limit s

-- ---- all expressions

module _ (schema : Schema) where
  mutual
    unfolding expr_code steps_code sequence_code pattern_code patterns_code

    pub expr_keeps : (e : ExprTree) (room : ℕ) (s : Buffer) → Keeps behind s (expr_code schema room e s)
    expr_keeps (atom a) room s = atom_keeps schema room a s
    expr_keeps (unary operation e) room s = then behind behind s (expr_code schema room e s) (λ p. unary_code operation p.0 p.1) (expr_keeps e room s) (λ p. unary_keeps operation p.0 p.1)
    expr_keeps (binary operation l r) room s =
        then behind behind s (expr_code schema room l s) (λ p. expr_code schema (room - 1) r p.1 >>= λ q. binary_code operation p.0 q.0 q.1) (expr_keeps l room s)
        (λ p. then behind behind p.1 (expr_code schema (room - 1) r p.1) (λ q. binary_code operation p.0 q.0 q.1) (expr_keeps r (room - 1) p.1) (λ q. binary_keeps operation p.0 q.0 q.1))
    expr_keeps (chain first steps) room s = then behind behind s (expr_code schema room first s) (λ p. steps_code schema room p.0 steps p.1) (expr_keeps first room s) (λ p. steps_keep steps room p.0 p.1)
    expr_keeps (size_of sequence) room s =
        then behind behind s (sequence_code schema room sequence s) (λ p. put ops.Size p.1 >>= λ u. Ok (Some kinds.Int, u)) (sequence_keeps sequence room s) (λ p. made_on (Some kinds.Int) ops.Size refl p.1 p.1 (stays_same p.1))

    steps_keep : (steps : Steps) (room : ℕ) (left : Made) (s : Buffer) → Keeps behind s (steps_code schema room left steps s)
    steps_keep no_step room left s = stays_same s
    steps_keep (apply operator e steps) room left s =
        then behind behind s (expr_code schema (room - 1) e s) (λ p. operator_code operator left p.0 p.1 >>= λ q. steps_code schema room q.0 steps q.1) (expr_keeps e (room - 1) s)
        (λ p. then behind behind p.1 (operator_code operator left p.0 p.1) (λ q. steps_code schema room q.0 steps q.1) (operator_keeps operator left p.0 p.1) (λ q. steps_keep steps room q.0 q.1))
    steps_keep (divide division divisor steps) room left s =
        then behind behind s (division_code division divisor left s) (λ p. steps_code schema room p.0 steps p.1) (division_keeps division divisor left s) (λ p. steps_keep steps room p.0 p.1)

    pub sequence_keeps : (sequence : SequenceTree) (room : ℕ) (s : Buffer) → Keeps behind s (sequence_code schema room sequence s)
    sequence_keeps (linked unit slot) room s = links_keep schema unit slot room s
    sequence_keeps (found class space p) room s =
        let space_is = space_named schema space in
        let class_is = class_named schema class in
        let was = known space_is (known class_is s) in
        onward behind s was (pattern_code schema room space_is p no_operand was >>= λ (q : Patterned Tree). query_code class_is space_is q.1 q.0 room q.2) (same_on s (known class_is s) was (known_keeps class_is s) (known_keeps space_is (known class_is s)))
        (then last behind was (pattern_code schema room space_is p no_operand was) (λ (q : Patterned Tree). query_code class_is space_is q.1 q.0 room q.2) (pattern_keeps p room space_is no_operand was)
        (λ q. query_keeps class_is space_is q.1 q.0 room q.2))

    pattern_keeps : (p : PatternTree) (room : ℕ) (space : Option ℕ) (asked : Asked) (s : Buffer) → Keeps last s (pattern_code schema room space p asked s)
    pattern_keeps all room space asked s = node_keeps asked s
    pattern_keeps (and_of ps) room space asked s =
        let was = node_noted asked s in
        onward last s was (patterns_code schema room space ps (node_counted asked) was >>= λ (q : Patterned Trees). Ok (nodes.and_of q.0, q.1, q.2)) (node_keeps asked s)
        (then last last was (patterns_code schema room space ps (node_counted asked) was) (λ (q : Patterned Trees). Ok (nodes.and_of q.0, q.1, q.2)) (patterns_keep ps room space (node_counted asked) was) (λ q. stays_same q.2))
    pattern_keeps (or_of ps) room space asked s =
        let was = node_noted asked s in
        onward last s was (patterns_code schema room space ps (node_counted asked) was >>= λ (q : Patterned Trees). Ok (nodes.or_of q.0, q.1, q.2)) (node_keeps asked s)
        (then last last was (patterns_code schema room space ps (node_counted asked) was) (λ (q : Patterned Trees). Ok (nodes.or_of q.0, q.1, q.2)) (patterns_keep ps room space (node_counted asked) was) (λ q. stays_same q.2))
    pattern_keeps (not_of p) room space asked s =
        let was = node_noted asked s in
        onward last s was (pattern_code schema room space p (node_counted asked) was >>= λ (q : Patterned Tree). Ok (nodes.not_of q.0, q.1, q.2)) (node_keeps asked s)
        (then last last was (pattern_code schema room space p (node_counted asked) was) (λ (q : Patterned Tree). Ok (nodes.not_of q.0, q.1, q.2)) (pattern_keeps p room space (node_counted asked) was) (λ q. stays_same q.2))
    pattern_keeps (test dim relation e) room space asked s =
        let was = node_noted asked s in
        onward last s was (expr_code schema (room - length asked.kinds) e was >>= λ p. Ok (test_code schema space dim relation p.0 (node_counted asked) p.1)) (node_keeps asked s)
        (then behind last was (expr_code schema (room - length asked.kinds) e was) (λ p. Ok (test_code schema space dim relation p.0 (node_counted asked) p.1)) (expr_keeps e (room - length asked.kinds) was)
        (λ p. test_keeps schema space dim relation p.0 (node_counted asked) p.1))

    patterns_keep : (ps : Patterns) (room : ℕ) (space : Option ℕ) (asked : Asked) (s : Buffer) → Keeps last s (patterns_code schema room space ps asked s)
    patterns_keep no_pattern room space asked s = stays_same s
    patterns_keep (more p ps) room space asked s =
        then last last s (pattern_code schema room space p asked s) (λ (q : Patterned Tree). patterns_code schema room space ps q.1 q.2 >>= λ (r : Patterned Trees). Ok (nodes.more q.0 r.0, r.1, r.2)) (pattern_keeps p room space asked s)
        (λ q. then last last q.2 (patterns_code schema room space ps q.1 q.2) (λ (r : Patterned Trees). Ok (nodes.more q.0 r.0, r.1, r.2)) (patterns_keep ps room space q.1 q.2) (λ r. stays_same r.2))
