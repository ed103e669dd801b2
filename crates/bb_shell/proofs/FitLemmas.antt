-- Sources that fit together are those that were given, and what does not fit is refused by no fault of the verifier.
use Rattle.std.proofs.Common.{◌≡◌, ℕ, List, [], ◌∷◌, ◌++◌, length, Result, Ok, Err, subst, sym, ap, ◌∙◌, append_assoc}
use Rattle.std.specs.Prelude.{All, nat_le, if◌then◌else◌}
use Rattle.std.specs.List.{list_any}
use Rattle.std.specs.Str.{bytes_eq}
use Rattle.std.proofs.lemmas.List.{append-nil}
use Rattle.bb_basis.specs.Results.{map_err, try_fold}
use Rattle.bb_basis.proofs.ResultLemmas.{bind_ok, guard_ok, same_ok}
use Rattle.bb_code.specs.declared.flaw.VerifyFault.{VerifyFault}
use Rattle.bb_verify.specs.PartType.{Part}
use Rattle.bb_rules.specs.declared.fault.RuleFault.TheVariants as rules
use Rattle.bb_rules.specs.Parts.{Source}
use Rattle.bb_run.specs.Limits.{SOURCE_LIMIT}
use Rattle.bb_refusal.specs.declared.input_fault.InputFault.TheVariants as inputs
use Rattle.bb_shell.specs.declared.fitting.Unfit.{Unfit}
use Rattle.bb_shell.specs.declared.fitting.Unfit.TheVariants as unfits
use Rattle.bb_shell.specs.Fitting.{fitted, lacks_native, names_of, source_after}
use Rattle.bb_shell.specs.Sources.{in_input}

module _ (natives : List (List ℕ)) where
  fitted_with_one : (before : List Source) (x : Source) (after : List Source) → source_after natives before x ≡ Ok after → before ++ x ∷ [] ≡ after
  fitted_with_one before x after h =
      let count = length before in
      let whole : Result (List Source) Unfit = Ok (before ++ x ∷ []) in
      let native : Result (List Source) Unfit = if lacks_native natives x then Err (unfits.Source x.name (rules.Native count)) else whole in
      let limit : Result (List Source) Unfit = if nat_le SOURCE_LIMIT count then Err (unfits.Source x.name (rules.Limit count)) else native in
      let one = guard_ok (list_any (bytes_eq x.name) (names_of before)) (unfits.Source x.name (rules.Twice count)) limit after h in
      let two = guard_ok (nat_le SOURCE_LIMIT count) (unfits.Source x.name (rules.Limit count)) native after one.1 in
      let three = guard_ok (lacks_native natives x) (unfits.Source x.name (rules.Native count)) whole after two.1 in
      same_ok (before ++ x ∷ []) after three.1

  all_same : (before xs after : List Source) → try_fold (source_after natives) before xs ≡ Ok after → before ++ xs ≡ after
  unfolding try_fold
  all_same before [] after h = append-nil before ∙ same_ok before after h
  all_same before (x ∷ xs) after h =
      let one = bind_ok (source_after natives before x) (λ t. try_fold (source_after natives) t xs) after h in
      sym (append_assoc before (x ∷ []) xs) ∙ (ap (λ l. l ++ xs) (fitted_with_one before x one.0 one.1) ∙ all_same one.0 xs after one.2)

  pub fitted_same : (xs after : List Source) → fitted natives xs ≡ Ok after → xs ≡ after
  fitted_same xs after h = all_same [] xs after h

  pub fitted_keeps : (P : Source → Type 0) (xs after : List Source) → All P xs → fitted natives xs ≡ Ok after → All P after
  fitted_keeps P xs after all h = subst (All P) (fitted_same xs after h) all

pub fits_or_not : (r : Result (List Source) Unfit) (name : List ℕ) (part : Part) (fault : VerifyFault) → map_err in_input r ≡ Err (inputs.Verify name part fault) → ⊥
fits_or_not (Ok xs) name part fault h = absurd cc
fits_or_not (Err (unfits.Source other flaw)) name part fault h = absurd (let no : inputs.Rule other flaw ≡ inputs.Verify name part fault = (let e : Err (inputs.Rule other flaw) ≡ Err (inputs.Verify name part fault) = h in cc) in cc)
fits_or_not (Err unfits.Memory) name part fault h = absurd (let no : inputs.Memory ≡ inputs.Verify name part fault = (let e : Err inputs.Memory ≡ Err (inputs.Verify name part fault) = h in cc) in cc)
