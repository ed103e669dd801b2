-- What an input means is well made: its sources were made under its schema, and each has a code for its act.
use Rattle.std.proofs.Common.{◌≡◌, ℕ, ℤ, Bool, true, false, map, not, ◌&&◌, List, [], ◌∷◌, ◌++◌, length, Result, Ok, Err, refl, ap, subst, sym, ◌∙◌}
use Rattle.std.specs.Prelude.{All, is_some, nat_le, position, if◌then◌else◌}
use Rattle.std.specs.List.{list_any}
use Rattle.std.specs.Str.{bytes_eq}
use Rattle.std.proofs.lemmas.List.Elements.{All-append, All-cons, All-contains, All-nil}
use Rattle.bb_basis.proofs.PlacedLemmas.{map_err_ok}
use Rattle.bb_basis.proofs.ListLemmas.{position-map}
use Rattle.bb_basis.specs.Results.{◌>>=◌, map_err, try_map}
use Rattle.bb_basis.proofs.ResultLemmas.{bind_ok, guard_ok, same_ok, try_fold_keeps}
use Rattle.bb_schema.specs.Schema.{Schema}
use Rattle.bb_schema.specs.Reading.{schema_of}
use Rattle.bb_code.specs.Code.{Code}
use Rattle.bb_bundle.specs.declared.draft.SourceDraft.{SourceDraft}
use Rattle.bb_run.specs.Closing.{Closing}
use Rattle.bb_run.specs.Native.{Native}
use Rattle.bb_run.specs.Roster.{place_of, unclosed}
use Rattle.bb_run.specs.Board.{Board, new_board, with_world}
use Rattle.bb_run.specs.Causes.{LacksNative}
use Rattle.bb_rules.specs.Law.{IsMade}
use Rattle.bb_run.specs.Limits.{SOURCE_LIMIT}
use Rattle.bb_run.specs.Load.{load, loaded}
use Rattle.bb_run.specs.Plan.{Plan}
use Rattle.bb_rules.specs.declared.fault.RuleFault.TheVariants as rules
use Rattle.bb_rules.specs.Parts.{Source}
use Rattle.bb_shell.specs.declared.fitting.Unfit.{Unfit}
use Rattle.bb_shell.specs.declared.fitting.Unfit.TheVariants as unfits
use Rattle.bb_refusal.specs.declared.input_fault.InputFault.TheVariants as inputs
use Rattle.bb_shell.specs.Accepting.{accepted_source}
use Rattle.bb_shell.specs.Fitting.{HasAct, fitted, has_native, is_native, lacks_native, names_in, names_of, native_names, source_after}
use Rattle.bb_shell.specs.Meaning.{Meaning, meaning}
use Rattle.bb_shell.specs.Sources.{codes_in, given, in_input, resolved_source, sources_for}
use Rattle.bb_shell.proofs.MadeLemmas.{sources_made}

-- ---- sources that fit together have codes or natives for their acts

after_acts : (natives : List (List ℕ)) (before after : List Source) (x : Source) → All (HasAct natives) before → source_after natives before x ≡ Ok after → All (HasAct natives) after
after_acts natives before after x all h =
    let count = length before in
    let whole : Result (List Source) Unfit = Ok (before ++ x ∷ []) in
    let native : Result (List Source) Unfit = if lacks_native natives x then Err (unfits.Source x.name (rules.Native count)) else whole in
    let limit : Result (List Source) Unfit = if nat_le SOURCE_LIMIT count then Err (unfits.Source x.name (rules.Limit count)) else native in
    let one = guard_ok (list_any (bytes_eq x.name) (names_of before)) (unfits.Source x.name (rules.Twice count)) limit after h in
    let two = guard_ok (nat_le SOURCE_LIMIT count) (unfits.Source x.name (rules.Limit count)) native after one.1 in
    let three = guard_ok (lacks_native natives x) (unfits.Source x.name (rules.Native count)) whole after two.1 in
    subst (All (HasAct natives)) (same_ok (before ++ x ∷ []) after three.1) (All-append (HasAct natives) before (x ∷ []) all (All-cons (HasAct natives) x [] three.0 (All-nil (HasAct natives))))

pub fitted_acts : (natives : List (List ℕ)) (xs after : List Source) → fitted natives xs ≡ Ok after → All (HasAct natives) after
fitted_acts natives xs after h = try_fold_keeps (All (HasAct natives)) (source_after natives) (after_acts natives) [] after xs (All-nil (HasAct natives)) h

pub sources_act : (natives : List (List ℕ)) (s : Schema) (codes : List (SourceDraft Code)) (sources : List Source) → sources_for natives s codes ≡ Ok sources → All (HasAct natives) sources
unfolding sources_for
sources_act natives s codes sources h =
    let drafts = bind_ok (try_map (accepted_source s) codes) (λ ds. try_map (resolved_source s) ds >>= λ rs. map_err in_input (fitted natives rs)) sources h in
    let resolved = bind_ok (try_map (resolved_source s) drafts.0) (λ rs. map_err in_input (fitted natives rs)) sources drafts.2 in
    fitted_acts natives resolved.0 sources (map_err_ok in_input (fitted natives resolved.0) sources resolved.2)

-- ---- none lacks a native

place_by_name : (natives : List Native) (name : List ℕ) → position (λ one. bytes_eq one name) (native_names natives) ≡ place_of natives name
place_by_name natives name = position-map (λ one. bytes_eq one name) (λ (n : Native). n.name) natives

lacking : (native there : Bool) → native ≡ true → there ≡ false → (native && not there) ≡ false → ⊥
lacking true false is none has = absurd cc
lacking true true is none has = absurd cc
lacking false there is none has = absurd cc

pub no_native : (plan : Plan) (natives : List Native) → All (HasAct (native_names natives)) plan.sources → ¬ LacksNative plan natives
no_native plan natives all (source, there, is, none) =
    let has = All-contains (HasAct (native_names natives)) plan.sources source all there in
    lacking (is_native source.act) (has_native (native_names natives) source.name) (ap is_native is) (ap is_some (place_by_name natives source.name ∙ none)) has

names_unclosed : (natives : List Native) → names_in (map unclosed natives) ≡ native_names natives
names_unclosed [] = refl
names_unclosed (n ∷ natives) = ap (λ rest. n.name ∷ rest) (names_unclosed natives)

-- what a roster tells of its natives are their names
pub names_told : (natives : List Native) (handed_in : List Closing) → handed_in ≡ map unclosed natives → names_in handed_in ≡ native_names natives
names_told natives handed_in is = ap names_in is ∙ names_unclosed natives

-- ---- what an input means

-- sources, and a blackboard of their schema
pub record IsWhole (natives : List (List ℕ)) (m : Meaning) : Type 0 where
  pub made : All (IsMade m.plan.schema) m.plan.sources
  pub acts : All (HasAct natives) m.plan.sources
  pub schema : m.board.schema ≡ m.plan.schema

loaded_schema : (s : Schema) (units : List ℕ) (board : Board) → loaded (new_board s) units ≡ Ok board → board.schema ≡ s
loaded_schema s units board h =
    let one = bind_ok (load s units) (λ w. Ok (with_world (new_board s) w)) board h in
    sym (ap (λ (x : Board). x.schema) (same_ok (with_world (new_board s) one.0) board one.2))

pub meaning_whole : (natives : List (List ℕ)) (schema units texts bundle : List ℕ) (floor : ℤ) (m : Meaning) → meaning natives schema units texts bundle floor ≡ Ok m → IsWhole natives m
unfolding meaning given
meaning_whole natives schema units texts bundle floor m h =
    let of : Schema → Board → List Source → Meaning = λ s board sources. record { plan = record { schema = s; sources = sources; floor = floor }; board = board } in
    let read = bind_ok (map_err inputs.Schema (schema_of schema)) (λ s. map_err inputs.Units (loaded (new_board s) units) >>= λ board. given natives s texts bundle >>= λ sources. Ok (of s board sources)) m h in
    let s = read.0 in
    let board = bind_ok (map_err inputs.Units (loaded (new_board s) units)) (λ board. given natives s texts bundle >>= λ sources. Ok (of s board sources)) m read.2 in
    let sources = bind_ok (given natives s texts bundle) (λ sources. Ok (of s board.0 sources)) m board.2 in
    let codes = bind_ok (codes_in s texts bundle) (sources_for natives s) sources.0 sources.1 in
    subst (IsWhole natives) (same_ok (of s board.0 sources.0) m sources.2) (record {
      made = sources_made natives s codes.0 sources.0 codes.2;
      acts = sources_act natives s codes.0 sources.0 codes.2;
      schema = loaded_schema s units board.0 (map_err_ok inputs.Units (loaded (new_board s) units) board.0 board.1);
    })
