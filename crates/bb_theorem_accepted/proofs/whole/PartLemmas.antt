-- What a part begins with, and the limits of a code that is within them.
use Rattle.std.proofs.Common.{◌≡◌, inr, ℕ, zero, suc, ◌+◌, ◌-◌, ◌≤◌, Bool, true, false, cond, ◌&&◌, List, [], ◌∷◌, ◌++◌, length, Some, Ok, refl, sym, ap, ◌∙◌, arith, length-append}
use Rattle.std.specs.Prelude.{slice_get, replicate, nat_le}
use Rattle.std.specs.List.{list_all}
use Rattle.std.proofs.lemmas.Bool.{leb-true}
use Rattle.std.proofs.lemmas.List.{length-replicate}
use Rattle.bb_basis.proofs.BoolLemmas.{and_first, and_second}
use Rattle.bb_pattern.specs.declared.fits.TheConstants.{NODE_LIMIT, OPERAND_LIMIT}
use Rattle.bb_pattern.specs.Trees.{node_count}
use Rattle.bb_schema.specs.Schema.{Schema}
use Rattle.bb_schema.specs.Fits as schemas
use Rattle.bb_code.specs.Code.{Code}
use Rattle.bb_code.specs.declared.frame.Kind.TheVariants as kinds
use Rattle.bb_pattern.specs.declared.query.Query.{Query}
use Rattle.bb_schema.specs.Ownership.{owns_any}
use Rattle.bb_code.specs.declared.version.Version.TheVariants.{One, Two}
use Rattle.bb_compile_scope.specs.Scope.{begin_with}
use Rattle.bb_code.specs.declared.parts.TheConstants.{LOCAL_LIMIT, TEXT_COUNT_LIMIT, QUERY_LIMIT, FRAME_LIMIT, LOOP_LIMIT, OP_LIMIT}
use Rattle.bb_compile_buffer.specs.Within.{text_within, query_within, frame_within, loop_within, op_within, list_within, is_within}
use Rattle.bb_compile.specs.Parts.{version_for}
use Rattle.bb_verify_effect.specs.Part.{units_of}
use Rattle.bb_verify_effect.specs.declared.part.Part.{Part}
use Rattle.bb_verify_effect.specs.declared.part.Part.TheVariants.{Require, Obviate, Retrigger, Revalidate, Do}
use Rattle.bb_verify.specs.Tables.{fit_version}
use Rattle.bb_verify.specs.Places.{entry_frame}
use Rattle.bb_theorem_accepted.proofs.kinds.UnderLemmas.{AreKnown, descends_same}

-- ---- what a part begins with

pub begin_known : (schema : Schema) (sf : schemas.Fits schema) (part : Part) (n : ℕ) → length (units_of part) ≤ n → AreKnown schema sf (entry_frame part n).locals (begin_with part).kinds (begin_with part).names
begin_known schema sf (Require c) n few = (omega arith, (c, inr refl, descends_same schema sf c), tt)
begin_known schema sf (Obviate c of) n few = (omega arith, (c, inr refl, descends_same schema sf c), (omega arith, (of, inr refl, descends_same schema sf of), tt))
begin_known schema sf (Retrigger c of) n few = (omega arith, (c, inr refl, descends_same schema sf c), (omega arith, (of, inr refl, descends_same schema sf of), tt))
begin_known schema sf (Revalidate c) n few = (omega arith, (c, inr refl, descends_same schema sf c), tt)
begin_known schema sf (Do c) n few = (omega arith, (c, inr refl, descends_same schema sf c), tt)

pub begin_count : (part : Part) (n : ℕ) → length (units_of part) ≤ n → length (entry_frame part n).locals ≡ n
begin_count part n few =
    let rest : length (replicate (n - length (units_of part)) kinds.Any) ≡ n - length (units_of part) = length-replicate (n - length (units_of part)) kinds.Any in
    let all : length (units_of part ++ replicate (n - length (units_of part)) kinds.Any) ≡ length (units_of part) + length (replicate (n - length (units_of part)) kinds.Any) = length-append (units_of part) (replicate (n - length (units_of part)) kinds.Any) in
    omega (arith, rest, all, few)

-- ---- the limits of a code that is within them

pub all_at : {X : Type 0} (p : X → Bool) (xs : List X) (i : ℕ) (x : X) → list_all p xs ≡ true → slice_get xs i ≡ Some x → p x ≡ true
all_at p [] i x h at = absurd cc
all_at p (y ∷ ys) zero x h at = let e : y ≡ x = cc in ap p (sym e) ∙ and_first (p y) (list_all p ys) h
all_at p (y ∷ ys) (suc i) x h at = all_at p ys i x (and_second (p y) (list_all p ys) h) at

pub query_limits : (q : Query) → query_within q ≡ true → (node_count q.pattern ≤ NODE_LIMIT) × (length q.kinds ≤ OPERAND_LIMIT)
query_limits q h =
    let one = and_second _ _ h in
    let two = and_second _ _ one in
    let few = and_first _ _ two in
    let three = and_second _ _ two in
    let four = and_second _ _ three in
    let nodes = and_first _ _ four in
    (leb-true (node_count q.pattern) NODE_LIMIT nodes, leb-true (length q.kinds) OPERAND_LIMIT few)

pub queries_within : (code : Code) → is_within code ≡ true → list_all query_within code.queries ≡ true
unfolding is_within
queries_within code h =
    let locals = nat_le 1 code.locals && nat_le code.locals LOCAL_LIMIT in
    let texts = list_within TEXT_COUNT_LIMIT text_within code.texts in
    let queries = list_within QUERY_LIMIT query_within code.queries in
    let rest =
    list_within FRAME_LIMIT (frame_within code.locals) code.frames
    && (list_within LOOP_LIMIT loop_within code.loops && (nat_le 1 (length code.ops) && list_within OP_LIMIT op_within code.ops)) in
    let own = and_first queries rest (and_second texts (queries && rest) (and_second locals (texts && (queries && rest)) h)) in
    and_second (nat_le (length code.queries) QUERY_LIMIT) (list_all query_within code.queries) own

-- ---- the whole

-- the schema takes the version that is compiled for it
version_by : (s : Schema) (b : Bool) → owns_any s ≡ b → fit_version s (cond b Two One) ≡ Ok tt
unfolding fit_version
version_by s true is = refl
version_by s false is = rw is refl

pub version_fits : (s : Schema) → fit_version s (version_for s) ≡ Ok tt
version_fits s = version_by s (owns_any s) refl
