-- The code of a part as far as it is emitted, and single steps of emission.
use Rattle.std.specs.Prelude.{ℕ, ◌+◌, ◌==◌, Bool, nat_le, max, set, List, [], ◌∷◌, ◌++◌, length, slice_get, position, Option, Some, None, Result, Ok, Err, if◌then◌else◌}
use Rattle.std.specs.Str.{bytes_eq}
use Rattle.bb_basis.specs.Results.{◌>>=◌}
use Rattle.bb_compile_scope.specs.Place.{Place}
use Rattle.bb_code.specs.declared.frame.Kind.{Kind}
use Rattle.bb_verify_effect.specs.Kinds.{is_same_plain}
use Rattle.bb_code.specs.declared.op.Op.{Op}
use Rattle.bb_code.specs.declared.op.Op.TheVariants.{One, Alive, As, Jump, Unless, Next, Store}
use Rattle.bb_verify_effect.specs.Query.{Query}
use Rattle.bb_code.specs.declared.parts.TheConstants.{OP_LIMIT, TEXT_COUNT_LIMIT, QUERY_LIMIT, LOOP_LIMIT}
use Rattle.bb_code.specs.declared.frame.Loop.{Loop}
use Rattle.bb_compile_scope.specs.declared.fault.TextFlaw.{TextFlaw}
use Rattle.bb_compile_scope.specs.declared.fault.TextFlaw.TheVariants.{Unknown, Kind as WrongKind, Limit}
use Rattle.bb_compile_scope.specs.declared.fault.CompileFault.{CompileFault}
use Rattle.bb_compile_scope.specs.declared.fault.CompileFault.TheVariants.{At}
use Rattle.bb_compile_scope.specs.declared.scope.Mark.{Mark}
use Rattle.bb_compile_scope.specs.Faults.{lowest}
use Rattle.bb_compile_scope.specs.LocalKinds.{is_free, kinds_met}
use Rattle.bb_compile_scope.specs.Scope.{with_name, back_to}
use Rattle.bb_compile_buffer.specs.declared.label.Label.{Label}
use Rattle.bb_compile_buffer.specs.declared.buffer.Buffer.{Buffer}

-- a step: its result and the buffer after it, or a fault
abbrev pub Step : Type 0 → Type 0
Step X = Buffer → Result (X × Buffer) CompileFault

-- a step without a result: the buffer after it, or a fault
abbrev pub Change : Type 0
Change = Buffer → Result Buffer CompileFault

-- a code that is too large is refused at its part
abbrev pub too_large : {X : Type 0} → Buffer → Result X CompileFault
too_large s = Err (At Limit s.start)

-- ---- flaws

-- this statement has another flaw
abbrev pub noted : TextFlaw → Buffer → Buffer
noted flaw s = record s { flaw = Some (lowest s.flaw flaw) }

-- a value, if its kind is known, must be of the kind that is wanted
unfoldable pub due : Option Kind → (wanted : Kind) → Buffer → Buffer
due None wanted s = s
due (Some kind) wanted s = if is_same_plain kind wanted then s else noted WrongKind s

-- a statement with a flaw is refused
abbrev pub refused_at : Place → Option TextFlaw → Result (Unit {0}) CompileFault
refused_at place None = Ok tt
refused_at place (Some flaw) = Err (At flaw place)

abbrev pub settled : Place → Buffer → Result (Unit {0}) CompileFault
settled place s = refused_at place s.flaw

-- a name must have a meaning
abbrev pub known : Option ℕ → Buffer → Buffer
known None s = noted Unknown s
known (Some n) s = s

-- ---- ops

-- appends an op
unfoldable pub put : Op → Change
put op s = if nat_le OP_LIMIT (length s.ops) then too_large s else Ok (record s { ops = s.ops ++ op ∷ [] })

-- appends an op that pushes a value, which must fit on the stack
unfoldable pub put_value : Op → (room : ℕ) → Change
put_value op room s = put op (if room == 0 then noted Limit s else s)

-- an op with another target, if it has a target
abbrev pub aimed : Op → (place : ℕ) → Op
aimed (One slot _) place = One slot place
aimed (Alive _) place = Alive place
aimed (As class _) place = As class place
aimed (Jump _) place = Jump place
aimed (Unless _) place = Unless place
aimed (Next local _) place = Next local place
aimed op place = op

abbrev pub with_aimed : List Op → (at : ℕ) → Option Op → List Op
with_aimed ops at None = ops
with_aimed ops at (Some op) = set ops at (aimed op (length ops))

-- the op at a place gets the place after the last op as its target
abbrev pub aimed_at : (at : ℕ) → List Op → List Op
aimed_at at ops = with_aimed ops at (slice_get ops at)

abbrev pub aim : (at : ℕ) → Buffer → Buffer
aim at s = record s { ops = aimed_at at s.ops }

-- ---- texts, queries and loops, with their indexes

abbrev pub text_at : (text : List ℕ) → Option ℕ → Step ℕ
text_at text (Some index) s = Ok (index, s)
text_at text None s =
    if nat_le TEXT_COUNT_LIMIT (length s.texts) then too_large s
    else Ok (length s.texts, record s { texts = s.texts ++ text ∷ [] })

-- the index of a text, which is added if it is new
unfoldable pub text_index : (text : List ℕ) → Step ℕ
text_index text s = text_at text (position (bytes_eq text) s.texts) s

-- appends a query
unfoldable pub asked_query : Query → Step ℕ
asked_query query s =
    if nat_le QUERY_LIMIT (length s.queries) then too_large s
    else Ok (length s.queries, record s { queries = s.queries ++ query ∷ [] })

-- a loop begins here
unfoldable pub begun_loop : Step ℕ
begun_loop s =
    if nat_le LOOP_LIMIT (length s.loops) then too_large s
    else Ok (length s.loops, record s { loops = s.loops ++ record { head = length s.ops; end = length s.ops } ∷ [] })

abbrev pub with_end : List Loop → (index end : ℕ) → Option Loop → List Loop
with_end loops index end None = loops
with_end loops index end (Some l) = set loops index (record { head = l.head; end = end })

-- the loop at an index ends before a place
abbrev pub ended_at : (index end : ℕ) → List Loop → List Loop
ended_at index end loops = with_end loops index end (slice_get loops index)

-- ---- labels

-- of two labels at one place, the later one is kept
unfoldable pub kept : List Label → Option Label → (place : ℕ) → List Label
kept labels None place = labels
kept labels (Some last) place = if last.place == place then labels else labels ++ last ∷ []

-- a label is put at the place of the next op
unfoldable pub labelled : Buffer → Buffer
labelled s = record s {
  labels = kept s.labels s.last (length s.ops);
  last = Some (record { place = length s.ops; kinds = s.scope.kinds });
}

-- ---- names

-- the buffer with other kinds of the locals, or after a return to a mark
abbrev pub with_kinds : List Kind → Buffer → Buffer
with_kinds kinds s = record s { scope = record { names = s.scope.names; kinds = kinds } }

abbrev pub leave : Mark → Buffer → Buffer
leave mark s = record s { scope = back_to mark s.scope }

abbrev pub taken : Option ℕ → Kind → Step ℕ
taken None kind s = too_large s
taken (Some local) kind s =
    Ok (
      local,
      record s {
        scope = record { names = s.scope.names; kinds = set s.scope.kinds local kind };
        locals = max s.locals (local + 1);
      },
    )

-- the lowest free local holds a value of this kind from now on
unfoldable pub take_local : Kind → Step ℕ
take_local kind s = taken (position is_free s.scope.kinds) kind s

-- a name is declared for the value on the stack
unfoldable pub declare : (name : List ℕ) → Kind → Change
declare name kind s = do
  (local, t) ← take_local kind s
  put (Store local) (record t { scope = with_name name local kind t.scope })

-- a branch is merged with another, after which the locals hold `other`; a branch that has ended does not count
unfoldable pub met : (ended : Bool) → (other : List Kind) → (other_ended : Bool) → Buffer → Buffer
met ended other other_ended s =
    if ended then with_kinds other s
    else if other_ended then s
    else with_kinds (kinds_met other s.scope.kinds) s
