-- The laws of whole codes: what is read was spelled so, and what is spelled so is read again.
use Rattle.std.proofs.Common.{◌≡◌, ◌≤◌, ℕ, cond, eqb, List, [], ◌∷◌, ◌++◌, length, Result, Ok, Err, refl, sym, ap, subst, ◌∙◌, append_assoc, arith}
use Rattle.std.specs.Prelude.{IfOk, All}
use Rattle.std.proofs.lemmas.Bool.{eqb-true}
use Rattle.std.proofs.lemmas.List.{append-nil, nil_from_length}
use Rattle.std.proofs.lemmas.List.Elements.{All-from_recursion, recursion_from_All}
use Rattle.bb_pattern.specs.declared.query.Query.{Query}
use Rattle.bb_code.specs.declared.fault.CodeFault.{CodeFault}
use Rattle.bb_code.specs.declared.fault.CodeFault.TheVariants as faults
use Rattle.bb_code.specs.declared.fault.CodeFault.TheVariants.{Magic, Trailing, Memory}
use Rattle.bb_code.specs.declared.parts.TheConstants.{LOCAL_LIMIT, TEXT_COUNT_LIMIT, QUERY_LIMIT, FRAME_LIMIT, LOOP_LIMIT, OP_LIMIT}
use Rattle.bb_code.specs.declared.frame.FrameEntry.{FrameEntry}
use Rattle.bb_code.specs.declared.frame.Loop.{Loop}
use Rattle.bb_code.specs.declared.op.Op.{Op}
use Rattle.bb_code.specs.declared.version.Version.{Version}
use Rattle.bb_code.specs.declared.version.Version.TheVariants.{One, Two}
use Rattle.bb_code.specs.Code.{Code, IsText, IsQuery, IsFrame, IsLoop, IsOp, IsCode}
use Rattle.bb_code.specs.Spelling.{text_bytes, query_bytes, frame_bytes, loop_bytes, op_bytes, listed, version_byte, head, spelling}
use Rattle.bb_basis.specs.Results.{◌>>=◌, Gives}
use Rattle.bb_code.specs.Fields.{Field, short_count_at, list_at, text_at, frame_at, loop_at}
use Rattle.bb_code.specs.Patterns.{query_at}
use Rattle.bb_code.specs.Ops.{op_at}
use Rattle.bb_code.specs.Reading.{expected_at, version_at, head_at, code_at, code_of}
use Rattle.bb_basis.proofs.ResultLemmas.{bind_ok, same_ok}
use Rattle.bb_code.proofs.Fields.{IsBytes, IsBytes-rest, met, Takes, Takes-then, IsSpelled, IsWithin, Always, single, either_takes, short_count_spelled, text_spelled}
use Rattle.bb_code.proofs.Lists.{AreListed, list_spelled}
use Rattle.bb_code.proofs.Frames.{frame_spelled, loop_spelled}
use Rattle.bb_code.proofs.OpLaws.{op_spelled}
use Rattle.bb_code.proofs.PatternLaws.{query_spelled}

-- ---- what every code begins with

expected_takes : (wanted : ℕ) (fault : CodeFault) (bytes rest : List ℕ) → IsBytes bytes → expected_at wanted fault bytes ≡ Ok rest → Takes bytes (wanted ∷ []) rest
expected_takes wanted fault [] rest fits e = absurd cc
expected_takes wanted fault (b ∷ bytes) rest fits e =
    let is = met (eqb b wanted) fault (Ok bytes) rest e in
    let same : b ≡ wanted = eqb-true _ _ is.0 in
    subst (λ (r : List ℕ). Takes (b ∷ bytes) (wanted ∷ []) r) (same_ok bytes rest is.1)
    (record { parts = ap (λ (n : ℕ). n ∷ bytes) same; rest_fits = IsBytes-rest b bytes fits })

version_takes : (bytes : List ℕ) (x : Version × List ℕ) → IsBytes bytes → version_at bytes ≡ Ok x → Takes bytes (version_byte x.0 ∷ []) x.1 × Always x.0
unfolding version_at
version_takes bytes x fits e = either_takes Version version_byte One Two faults.Version bytes x fits e

head_takes : (bytes : List ℕ) (x : Version × List ℕ) → IsBytes bytes → head_at bytes ≡ Ok x → Takes bytes (head x.0) x.1 × Always x.0
unfolding head_at
head_takes bytes x fits e =
    let a = bind_ok (expected_at 66 Magic bytes) (λ first. expected_at 66 Magic first >>= λ second. expected_at 67 Magic second >>= λ third. version_at third) x e in
    let b = bind_ok (expected_at 66 Magic a.0) (λ second. expected_at 67 Magic second >>= λ third. version_at third) x a.2 in
    let c = bind_ok (expected_at 67 Magic b.0) (λ third. version_at third) x b.2 in
    let t0 = expected_takes 66 Magic bytes a.0 fits a.1 in
    let t1 = expected_takes 66 Magic a.0 b.0 t0.rest_fits b.1 in
    let t2 = expected_takes 67 Magic b.0 c.0 t1.rest_fits c.1 in
    let t3 = version_takes c.0 x t2.rest_fits c.2 in
    let number : ℕ = version_byte x.0 in (
      Takes-then bytes (66 ∷ []) a.0 (66 ∷ 67 ∷ number ∷ []) x.1 t0
          (Takes-then a.0 (66 ∷ []) b.0 (67 ∷ number ∷ []) x.1 t1 (Takes-then b.0 (67 ∷ []) c.0 (number ∷ []) x.1 t2 t3.0)),
      tt,
    )

head_again : (version : Version) (rest : List ℕ) → Always version → head_at (head version ++ rest) ≡ Ok (version, rest)
unfolding head_at version_at
head_again One rest fits = refl
head_again Two rest fits = refl

-- ---- the parts

head_spelled : IsSpelled Version head_at head Always
head_spelled = record { takes = head_takes; again = head_again }

locals_spelled : IsSpelled ℕ (short_count_at 1 LOCAL_LIMIT) single (IsWithin 1 LOCAL_LIMIT)
locals_spelled = short_count_spelled 1 LOCAL_LIMIT (omega arith)

texts_spelled : IsSpelled (List (List ℕ)) (list_at 0 TEXT_COUNT_LIMIT text_at) (listed text_bytes) (AreListed (List ℕ) IsText 0 TEXT_COUNT_LIMIT)
texts_spelled = list_spelled (List ℕ) text_at text_bytes IsText text_spelled 0 TEXT_COUNT_LIMIT (omega arith)

queries_spelled : IsSpelled (List Query) (list_at 0 QUERY_LIMIT query_at) (listed query_bytes) (AreListed Query IsQuery 0 QUERY_LIMIT)
queries_spelled = list_spelled Query query_at query_bytes IsQuery query_spelled 0 QUERY_LIMIT (omega arith)

frames_spelled : (locals : ℕ) → IsSpelled (List FrameEntry) (list_at 0 FRAME_LIMIT (frame_at locals)) (listed frame_bytes) (AreListed FrameEntry (IsFrame locals) 0 FRAME_LIMIT)
frames_spelled locals = list_spelled FrameEntry (frame_at locals) frame_bytes (IsFrame locals) (frame_spelled locals) 0 FRAME_LIMIT (omega arith)

loops_spelled : IsSpelled (List Loop) (list_at 0 LOOP_LIMIT loop_at) (listed loop_bytes) (AreListed Loop IsLoop 0 LOOP_LIMIT)
loops_spelled = list_spelled Loop loop_at loop_bytes IsLoop loop_spelled 0 LOOP_LIMIT (omega arith)

ops_spelled : IsSpelled (List Op) (list_at 1 OP_LIMIT op_at) (listed op_bytes) (AreListed Op IsOp 1 OP_LIMIT)
ops_spelled = list_spelled Op op_at op_bytes IsOp op_spelled 1 OP_LIMIT (omega arith)

-- ---- the whole

-- a code and the bytes after it
abbrev read_one : Code → List ℕ → Result (Code × List ℕ) CodeFault
read_one c rest = Ok (c, rest)

-- a whole code was read from parts that were read before, and from bytes that spell the others
record IsRest (bytes : List ℕ) (x : Code × List ℕ) (text : Code → List ℕ) (Holds : Code → Type 0) (Same : Code → Type 0) : Type 0 where
  takes : Takes bytes (text x.0) x.1
  holds : Holds x.0
  same : Same x.0

-- one part more
with_part : (A : Type 0) (field : Field A) (bytes_of : A → List ℕ) (Fits : A → Type 0) (spelled : IsSpelled A field bytes_of Fits) (part : Code → A) (others : A → Field Code) (text : Code → List ℕ) (Holds : A → Code → Type 0) (Same : Code → Type 0)
    → ((a : A) (bytes : List ℕ) (x : Code × List ℕ) → IsBytes bytes → others a bytes ≡ Ok x → IsRest bytes x text (Holds a) (λ c. (part c ≡ a) × Same c))
    → (bytes : List ℕ) (x : Code × List ℕ) → IsBytes bytes → (field bytes >>= λ a. others a.0 a.1) ≡ Ok x → IsRest bytes x (λ c. bytes_of (part c) ++ text c) (λ c. Fits (part c) × Holds (part c) c) Same
with_part A field bytes_of Fits spelled part others text Holds Same next bytes x fits e =
    let a = bind_ok (field bytes) (λ a. others a.0 a.1) x e in
    let one = spelled.takes bytes a.0 fits a.1 in
    let rest = next a.0.0 a.0.1 x one.0.rest_fits a.2 in
    let is : part x.0 ≡ a.0.0 = rest.same.0 in
    let both = Takes-then bytes (bytes_of a.0.0) a.0.1 (text x.0) x.1 one.0 rest.takes in
    record {
      takes = subst (λ (v : A). Takes bytes (bytes_of v ++ text x.0) x.1) (sym is) both;
      holds = (subst Fits (sym is) one.1, subst (λ (v : A). Holds v x.0) (sym is) rest.holds);
      same = rest.same.1;
    }

-- the parts that were read are those of the code
abbrev Same-version : Version → Code → Type 0
Same-version version c = (c.version ≡ version) × Unit {0}

abbrev Same-locals : Version → ℕ → Code → Type 0
Same-locals version locals c = (c.locals ≡ locals) × Same-version version c

abbrev Same-texts : Version → ℕ → List (List ℕ) → Code → Type 0
Same-texts version locals texts c = (c.texts ≡ texts) × Same-locals version locals c

abbrev Same-queries : Version → ℕ → List (List ℕ) → List Query → Code → Type 0
Same-queries version locals texts queries c = (c.queries ≡ queries) × Same-texts version locals texts c

abbrev Same-frames : Version → ℕ → List (List ℕ) → List Query → List FrameEntry → Code → Type 0
Same-frames version locals texts queries frames c = (c.frames ≡ frames) × Same-queries version locals texts queries c

abbrev Same-loops : Version → ℕ → List (List ℕ) → List Query → List FrameEntry → List Loop → Code → Type 0
Same-loops version locals texts queries frames loops c = (c.loops ≡ loops) × Same-frames version locals texts queries frames c

abbrev Same-ops : Version → ℕ → List (List ℕ) → List Query → List FrameEntry → List Loop → List Op → Code → Type 0
Same-ops version locals texts queries frames loops ops c = (c.ops ≡ ops) × Same-loops version locals texts queries frames loops c

-- the bytes from each part on, and what holds of them
abbrev text-ops : Code → List ℕ
text-ops c = listed op_bytes c.ops ++ []

abbrev text-loops : Code → List ℕ
text-loops c = listed loop_bytes c.loops ++ text-ops c

abbrev text-frames : Code → List ℕ
text-frames c = listed frame_bytes c.frames ++ text-loops c

abbrev text-queries : Code → List ℕ
text-queries c = listed query_bytes c.queries ++ text-frames c

abbrev text-texts : Code → List ℕ
text-texts c = listed text_bytes c.texts ++ text-queries c

abbrev text-locals : Code → List ℕ
text-locals c = single c.locals ++ text-texts c

abbrev text-head : Code → List ℕ
text-head c = head c.version ++ text-locals c

abbrev Holds-ops : ℕ → Code → Type 0
Holds-ops locals c = AreListed Op IsOp 1 OP_LIMIT c.ops × Unit {0}

abbrev Holds-loops : ℕ → Code → Type 0
Holds-loops locals c = AreListed Loop IsLoop 0 LOOP_LIMIT c.loops × Holds-ops locals c

abbrev Holds-frames : ℕ → Code → Type 0
Holds-frames locals c = AreListed FrameEntry (IsFrame locals) 0 FRAME_LIMIT c.frames × Holds-loops locals c

abbrev Holds-queries : ℕ → Code → Type 0
Holds-queries locals c = AreListed Query IsQuery 0 QUERY_LIMIT c.queries × Holds-frames locals c

abbrev Holds-texts : ℕ → Code → Type 0
Holds-texts locals c = AreListed (List ℕ) IsText 0 TEXT_COUNT_LIMIT c.texts × Holds-queries locals c

abbrev Holds-locals : Code → Type 0
Holds-locals c = IsWithin 1 LOCAL_LIMIT c.locals × Holds-texts c.locals c

abbrev Holds-head : Code → Type 0
Holds-head c = Always c.version × Holds-locals c

abbrev from-ops : Version → ℕ → List (List ℕ) → List Query → List FrameEntry → List Loop → Field Code
from-ops version locals texts queries frames loops bytes = list_at 1 OP_LIMIT op_at bytes >>= λ ops. Ok (record { version = version; locals = locals; texts = texts; queries = queries; frames = frames; loops = loops; ops = ops.0 }, ops.1)

abbrev from-loops : Version → ℕ → List (List ℕ) → List Query → List FrameEntry → Field Code
from-loops version locals texts queries frames bytes = list_at 0 LOOP_LIMIT loop_at bytes >>= λ loops. from-ops version locals texts queries frames loops.0 loops.1

abbrev from-frames : Version → ℕ → List (List ℕ) → List Query → Field Code
from-frames version locals texts queries bytes = list_at 0 FRAME_LIMIT (frame_at locals) bytes >>= λ frames. from-loops version locals texts queries frames.0 frames.1

abbrev from-queries : Version → ℕ → List (List ℕ) → Field Code
from-queries version locals texts bytes = list_at 0 QUERY_LIMIT query_at bytes >>= λ queries. from-frames version locals texts queries.0 queries.1

abbrev from-texts : Version → ℕ → Field Code
from-texts version locals bytes = list_at 0 TEXT_COUNT_LIMIT text_at bytes >>= λ texts. from-queries version locals texts.0 texts.1

abbrev from-locals : Version → Field Code
from-locals version bytes = short_count_at 1 LOCAL_LIMIT bytes >>= λ locals. from-texts version locals.0 locals.1

abbrev from-head : Field Code
from-head bytes = head_at bytes >>= λ version. from-locals version.0 version.1

nothing_more : (version : Version) (locals : ℕ) (texts : List (List ℕ)) (queries : List Query) (frames : List FrameEntry) (loops : List Loop) (ops : List Op) (bytes : List ℕ) (x : Code × List ℕ) → IsBytes bytes → read_one (record { version = version; locals = locals; texts = texts; queries = queries; frames = frames; loops = loops; ops = ops }) bytes ≡ Ok x → IsRest bytes x (λ c. []) (λ c. Unit {0}) (Same-ops version locals texts queries frames loops ops)
nothing_more version locals texts queries frames loops ops bytes x fits e =
    subst (λ (y : Code × List ℕ). IsRest bytes y (λ c. []) (λ c. Unit {0}) (Same-ops version locals texts queries frames loops ops)) (same_ok _ x e)
    (record { takes = record { parts = refl; rest_fits = fits }; holds = tt; same = (refl, (refl, (refl, (refl, (refl, (refl, (refl, tt))))))) })

ops_read : (version : Version) (locals : ℕ) (texts : List (List ℕ)) (queries : List Query) (frames : List FrameEntry) (loops : List Loop) (bytes : List ℕ) (x : Code × List ℕ) → IsBytes bytes → from-ops version locals texts queries frames loops bytes ≡ Ok x → IsRest bytes x text-ops (Holds-ops locals) (Same-loops version locals texts queries frames loops)
ops_read version locals texts queries frames loops bytes x fits e =
    with_part (List Op) (list_at 1 OP_LIMIT op_at) (listed op_bytes) (AreListed Op IsOp 1 OP_LIMIT) ops_spelled (λ c. c.ops) (λ ops bytes. read_one (record { version = version; locals = locals; texts = texts; queries = queries; frames = frames; loops = loops; ops = ops }) bytes) (λ c. []) (λ a c. Unit {0}) (Same-loops version locals texts queries frames loops) (nothing_more version locals texts queries frames loops) bytes x fits e

loops_read : (version : Version) (locals : ℕ) (texts : List (List ℕ)) (queries : List Query) (frames : List FrameEntry) (bytes : List ℕ) (x : Code × List ℕ) → IsBytes bytes → from-loops version locals texts queries frames bytes ≡ Ok x → IsRest bytes x text-loops (Holds-loops locals) (Same-frames version locals texts queries frames)
loops_read version locals texts queries frames bytes x fits e =
    with_part (List Loop) (list_at 0 LOOP_LIMIT loop_at) (listed loop_bytes) (AreListed Loop IsLoop 0 LOOP_LIMIT) loops_spelled (λ c. c.loops) (from-ops version locals texts queries frames) text-ops (λ a. Holds-ops locals) (Same-frames version locals texts queries frames) (ops_read version locals texts queries frames) bytes x fits e

frames_read : (version : Version) (locals : ℕ) (texts : List (List ℕ)) (queries : List Query) (bytes : List ℕ) (x : Code × List ℕ) → IsBytes bytes → from-frames version locals texts queries bytes ≡ Ok x → IsRest bytes x text-frames (Holds-frames locals) (Same-queries version locals texts queries)
frames_read version locals texts queries bytes x fits e =
    with_part (List FrameEntry) (list_at 0 FRAME_LIMIT (frame_at locals)) (listed frame_bytes) (AreListed FrameEntry (IsFrame locals) 0 FRAME_LIMIT) (frames_spelled locals) (λ c. c.frames) (from-loops version locals texts queries) text-loops (λ a. Holds-loops locals) (Same-queries version locals texts queries) (loops_read version locals texts queries) bytes x fits e

queries_read : (version : Version) (locals : ℕ) (texts : List (List ℕ)) (bytes : List ℕ) (x : Code × List ℕ) → IsBytes bytes → from-queries version locals texts bytes ≡ Ok x → IsRest bytes x text-queries (Holds-queries locals) (Same-texts version locals texts)
queries_read version locals texts bytes x fits e =
    with_part (List Query) (list_at 0 QUERY_LIMIT query_at) (listed query_bytes) (AreListed Query IsQuery 0 QUERY_LIMIT) queries_spelled (λ c. c.queries) (from-frames version locals texts) text-frames (λ a. Holds-frames locals) (Same-texts version locals texts) (frames_read version locals texts) bytes x fits e

texts_read : (version : Version) (locals : ℕ) (bytes : List ℕ) (x : Code × List ℕ) → IsBytes bytes → from-texts version locals bytes ≡ Ok x → IsRest bytes x text-texts (Holds-texts locals) (Same-locals version locals)
texts_read version locals bytes x fits e =
    with_part (List (List ℕ)) (list_at 0 TEXT_COUNT_LIMIT text_at) (listed text_bytes) (AreListed (List ℕ) IsText 0 TEXT_COUNT_LIMIT) texts_spelled (λ c. c.texts) (from-queries version locals) text-queries (λ a. Holds-queries locals) (Same-locals version locals) (queries_read version locals) bytes x fits e

locals_read : (version : Version) (bytes : List ℕ) (x : Code × List ℕ) → IsBytes bytes → from-locals version bytes ≡ Ok x → IsRest bytes x text-locals Holds-locals (Same-version version)
locals_read version bytes x fits e =
    with_part (ℕ) (short_count_at 1 LOCAL_LIMIT) single (IsWithin 1 LOCAL_LIMIT) locals_spelled (λ c. c.locals) (from-texts version) text-texts (λ a. Holds-texts a) (Same-version version) (texts_read version) bytes x fits e

head_read : (bytes : List ℕ) (x : Code × List ℕ) → IsBytes bytes → from-head bytes ≡ Ok x → IsRest bytes x text-head Holds-head (λ c. Unit {0})
head_read bytes x fits e =
    with_part Version head_at head Always head_spelled (λ c. c.version) from-locals text-locals (λ a. Holds-locals) (λ c. Unit {0}) locals_read bytes x fits e

joined : (a b c d e f g : List ℕ) → a ++ (b ++ (c ++ (d ++ (e ++ (f ++ (g ++ [])))))) ≡ ((((((a ++ b) ++ c) ++ d) ++ e) ++ f) ++ g)
joined a b c d e f g = ap (λ (t : List ℕ). a ++ (b ++ (c ++ (d ++ (e ++ (f ++ t)))))) (append-nil g) ∙ sym (simp append_assoc)

parts_joined : (c : Code) → text-head c ≡ spelling c
parts_joined c = joined (head c.version) (single c.locals) (listed text_bytes c.texts) (listed query_bytes c.queries) (listed frame_bytes c.frames) (listed loop_bytes c.loops) (listed op_bytes c.ops)

fitting : (c : Code) → Holds-locals c → IsCode c
fitting c is = record {
  locals_low = is.0.0;
  locals_high = is.0.1;
  texts = record { few = is.1.0.few; each = All-from_recursion IsText c.texts is.1.0.each };
  queries = record { few = is.1.1.0.few; each = All-from_recursion IsQuery c.queries is.1.1.0.each };
  frames = record { few = is.1.1.1.0.few; each = All-from_recursion (IsFrame c.locals) c.frames is.1.1.1.0.each };
  loops = record { few = is.1.1.1.1.0.few; each = All-from_recursion IsLoop c.loops is.1.1.1.1.0.each };
  ops = record { some = is.1.1.1.1.1.0.enough; few = is.1.1.1.1.1.0.few; each = All-from_recursion IsOp c.ops is.1.1.1.1.1.0.each };
}

code_takes : (bytes : List ℕ) (x : Code × List ℕ) → IsBytes bytes → code_at bytes ≡ Ok x → Takes bytes (spelling x.0) x.1 × IsCode x.0
unfolding code_at
code_takes bytes x fits e =
    let read = head_read bytes x fits e in
    (subst (λ (t : List ℕ). Takes bytes t x.1) {x = text-head x.0} {y = spelling x.0} (parts_joined x.0) read.takes, fitting x.0 read.holds.1)

before_rest : (a b c d e f g rest : List ℕ) → ((((((a ++ b) ++ c) ++ d) ++ e) ++ f) ++ g) ++ rest ≡ a ++ (b ++ (c ++ (d ++ (e ++ (f ++ (g ++ rest))))))
before_rest a b c d e f g rest = simp append_assoc

listed_fit : {A : Type 0} (Fits : A → Type 0) (high : ℕ) (xs : List A) → length xs ≤ high → All Fits xs → AreListed A Fits 0 high xs
listed_fit Fits high xs few each = record { enough = omega arith; few = few; each = recursion_from_All Fits xs each }

pub code_again : (c : Code) (rest : List ℕ) → IsCode c → code_at (spelling c ++ rest) ≡ Ok (c, rest)
unfolding code_at
code_again c rest fits =
    let after_loops : List ℕ = listed op_bytes c.ops ++ rest in
    let after_frames : List ℕ = listed loop_bytes c.loops ++ after_loops in
    let after_queries : List ℕ = listed frame_bytes c.frames ++ after_frames in
    let after_texts : List ℕ = listed query_bytes c.queries ++ after_queries in
    let after_locals : List ℕ = listed text_bytes c.texts ++ after_texts in
    let after_head : List ℕ = single c.locals ++ after_locals in
    let regrouped : spelling c ++ rest ≡ head c.version ++ after_head =
    before_rest (head c.version) (single c.locals) (listed text_bytes c.texts) (listed query_bytes c.queries) (listed frame_bytes c.frames) (listed loop_bytes c.loops) (listed op_bytes c.ops) rest in
    let ops_fit : AreListed Op IsOp 1 OP_LIMIT c.ops = record { enough = fits.ops.some; few = fits.ops.few; each = recursion_from_All IsOp c.ops fits.ops.each } in
    ap code_at regrouped
    ∙ rw (
      head_spelled.again c.version after_head tt,
      locals_spelled.again c.locals after_locals (fits.locals_low, fits.locals_high),
      texts_spelled.again c.texts after_texts (listed_fit IsText TEXT_COUNT_LIMIT c.texts fits.texts.few fits.texts.each),
      queries_spelled.again c.queries after_queries (listed_fit IsQuery QUERY_LIMIT c.queries fits.queries.few fits.queries.each),
      (frames_spelled c.locals).again c.frames after_frames (listed_fit (IsFrame c.locals) FRAME_LIMIT c.frames fits.frames.few fits.frames.each),
      loops_spelled.again c.loops after_loops (listed_fit IsLoop LOOP_LIMIT c.loops fits.loops.few fits.loops.each),
      ops_spelled.again c.ops rest ops_fit,
    ) refl

-- ---- all of the bytes

pub all_takes : (bytes : List ℕ) (c : Code) → IsBytes bytes → code_of bytes ≡ Ok c → IsCode c × (bytes ≡ spelling c)
unfolding code_of
all_takes bytes c fits e =
    let a = bind_ok (code_at bytes) (λ code. cond (eqb (length code.1) 0) (Ok code.0) (Err Trailing)) c e in
    let ended = met (eqb (length a.0.1) 0) Trailing (Ok a.0.0) c a.2 in
    let took = code_takes bytes a.0 fits a.1 in
    let nothing_left : a.0.1 ≡ [] = nil_from_length a.0.1 (eqb-true _ _ ended.0) in
    let whole : bytes ≡ spelling a.0.0 = took.0.parts ∙ ap (λ (r : List ℕ). spelling a.0.0 ++ r) nothing_left ∙ append-nil (spelling a.0.0) in
    subst (λ (d : Code). IsCode d × (bytes ≡ spelling d)) (same_ok a.0.0 c ended.1) (took.1, whole)

pub all_again : (c : Code) → IsCode c → code_of (spelling c) ≡ Ok c
unfolding code_of
all_again c fits =
    let one : code_at (spelling c) ≡ Ok (c, []) = ap code_at (sym (append-nil (spelling c))) ∙ code_again c [] fits in
    rw one refl

-- one code has one spelling, and none is the beginning of another
pub spelled_once : (a b : Code) (x y : List ℕ) → IsCode a → IsCode b → spelling a ++ x ≡ spelling b ++ y → (a ≡ b) × (x ≡ y)
spelled_once a b x y a_fits b_fits e =
    let same : (a, x) ≡ (b, y) = same_ok (a, x) (b, y) (sym (code_again a x a_fits) ∙ ap code_at e ∙ code_again b y b_fits) in
    (ap (λ (p : Code × List ℕ). p.0) same, ap (λ (p : Code × List ℕ). p.1) same)

-- what was read is a code, and was spelled so
pub is_found : (bytes : List ℕ) (r : Result Code CodeFault) → IsBytes bytes → Gives Memory (λ c. c) r (code_of bytes) → IfOk r (λ c. IsCode c × (bytes ≡ spelling c))
is_found bytes (Ok c) fits given = all_takes bytes c fits given
is_found bytes (Err fault) fits given = tt
