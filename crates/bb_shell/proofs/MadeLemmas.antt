-- The sources of an input are made of codes that the verifier accepted under its schema.
use Rattle.std.proofs.Common.{◌≡◌, ℕ, List, Option, Some, None, Ok, subst}
use Rattle.std.specs.Prelude.{All}
use Rattle.bb_basis.proofs.ListLemmas.{all_any}
use Rattle.bb_basis.proofs.PlacedLemmas.{map_err_ok}
use Rattle.bb_basis.specs.Results.{◌>>=◌, map_err, try_map}
use Rattle.bb_basis.proofs.ResultLemmas.{All-try_map, bind_ok, same_ok}
use Rattle.bb_schema.specs.Schema.{Schema}
use Rattle.bb_code.specs.Code.{Code}
use Rattle.bb_verify.specs.Accepted.{Checked, checked}
use Rattle.bb_verify.specs.PartType.{Part}
use Rattle.bb_verify.specs.PartType.TheVariants.{Require, Revalidate, Do}
use Rattle.bb_verify.proofs.Laws.{checked_again}
use Rattle.bb_bundle.specs.declared.draft.ActDraft.{ActDraft}
use Rattle.bb_bundle.specs.declared.draft.ActDraft.TheVariants as acts
use Rattle.bb_bundle.specs.declared.draft.Parts.{Parts}
use Rattle.bb_bundle.specs.declared.draft.ReactionDraft.{ReactionDraft}
use Rattle.bb_bundle.specs.declared.draft.SourceDraft.{SourceDraft}
use Rattle.bb_rules.specs.declared.resolve.Classes.{Classes}
use Rattle.bb_rules.specs.Source.{classes_of, obviate_part, retrigger_part, source_of}
use Rattle.bb_rules.specs.Law.{AreAccepted, IsAccepted, IsMade}
use Rattle.bb_rules.specs.Parts.{Source}
use Rattle.bb_rules.proofs.Laws.{source_made_of}
use Rattle.bb_shell.specs.declared.accepting.CodeFault.TheVariants as faults
use Rattle.bb_refusal.specs.declared.input_fault.InputFault.TheVariants as inputs
use Rattle.bb_shell.specs.Accepting.{accepted_code, accepted_part, accepted_reaction, accepted_act, accepted_parts, accepted_draft, accepted_source, in_source}
use Rattle.bb_shell.specs.Fitting.{fitted}
use Rattle.bb_shell.specs.Sources.{codes_in, given, in_input, resolved_source, sources_for}
use Rattle.bb_shell.proofs.FitLemmas.{fitted_keeps}

-- ---- the codes of a source

module _ (s : Schema) where
  code_is : (part : Part) (code : Code) (c : Checked) → accepted_code s part code ≡ Ok c → IsAccepted s c
  code_is part code c h = checked_again s part code c (map_err_ok (faults.Verify part) (checked s part code) c h)

  part_is : (part : Part) (code : Option Code) (made : Option Checked) → accepted_part s part code ≡ Ok made → (c : Checked) → made ≡ Some c → IsAccepted s c
  part_is part None made h c is = let none : None ≡ made = same_ok None made h in absurd cc
  part_is part (Some code) made h c is =
      let one = bind_ok (accepted_code s part code) (λ d. Ok (Some d)) made h in
      let some : Some one.0 ≡ made = same_ok (Some one.0) made one.2 in
      let same : one.0 ≡ c = cc in
      subst (IsAccepted s) same (code_is part code one.0 one.1)

  reaction_is : (part : Option Part) (draft : Option (ReactionDraft Code)) (made : Option (ReactionDraft Checked)) → accepted_reaction s part draft ≡ Ok made → (r : ReactionDraft Checked) → made ≡ Some r → IsAccepted s r.code
  reaction_is None draft made h r is = let none : None ≡ made = same_ok None made h in absurd cc
  reaction_is (Some part) None made h r is = let none : None ≡ made = same_ok None made h in absurd cc
  reaction_is (Some part) (Some draft) made h r is =
      let one = bind_ok (accepted_code s part draft.code) (λ c. Ok (Some (record { class = draft.class; clauses = draft.clauses; code = c }))) made h in
      let whole : ReactionDraft Checked = record { class = draft.class; clauses = draft.clauses; code = one.0 } in
      let some : Some whole ≡ made = same_ok (Some whole) made one.2 in
      let same : whole ≡ r = cc in
      subst (λ t. IsAccepted s t.code) same (code_is part draft.code one.0 one.1)

  act_is : (part : Part) (draft : ActDraft Code) (made : ActDraft Checked) → accepted_act s part draft ≡ Ok made → (c : Checked) → made ≡ acts.Do c → IsAccepted s c
  act_is part (acts.Do code) made h c is =
      let one = bind_ok (accepted_code s part code) (λ d. Ok (acts.Do d)) made h in
      let some : acts.Do one.0 ≡ made = same_ok (acts.Do one.0) made one.2 in
      let same : one.0 ≡ c = cc in
      subst (IsAccepted s) same (code_is part code one.0 one.1)
  act_is part acts.Native made h c is = let none : acts.Native ≡ made = same_ok acts.Native made h in absurd cc

  -- each code of these parts was accepted
  record ArePartsAccepted (made : Parts Checked) : Type 0 where
    require : (c : Checked) → made.require ≡ Some c → IsAccepted s c
    obviate : (r : ReactionDraft Checked) → made.obviate ≡ Some r → IsAccepted s r.code
    retrigger : (r : ReactionDraft Checked) → made.retrigger ≡ Some r → IsAccepted s r.code
    revalidate : (c : Checked) → made.revalidate ≡ Some c → IsAccepted s c

  parts_are : (classes : Classes) (codes : Parts Code) (made : Parts Checked) → accepted_parts s classes codes ≡ Ok made → ArePartsAccepted made
  unfolding accepted_parts
  parts_are classes codes made h =
      let require = accepted_part s (Require classes.own) codes.require in
      let obviate = accepted_reaction s (obviate_part classes) codes.obviate in
      let retrigger = accepted_reaction s (retrigger_part classes) codes.retrigger in
      let revalidate = accepted_part s (Revalidate classes.own) codes.revalidate in
      let whole : Option Checked → Option (ReactionDraft Checked) → Option (ReactionDraft Checked) → Option Checked → Parts Checked =
      λ r o t v. record { require = r; obviate = o; retrigger = t; revalidate = v } in
      let one = bind_ok require (λ r. obviate >>= λ o. retrigger >>= λ t. revalidate >>= λ v. Ok (whole r o t v)) made h in
      let two = bind_ok obviate (λ o. retrigger >>= λ t. revalidate >>= λ v. Ok (whole one.0 o t v)) made one.2 in
      let three = bind_ok retrigger (λ t. revalidate >>= λ v. Ok (whole one.0 two.0 t v)) made two.2 in
      let four = bind_ok revalidate (λ v. Ok (whole one.0 two.0 three.0 v)) made three.2 in
      subst ArePartsAccepted (same_ok (whole one.0 two.0 three.0 four.0) made four.2) (record {
        require = part_is (Require classes.own) codes.require one.0 one.1;
        obviate = reaction_is (obviate_part classes) codes.obviate two.0 two.1;
        retrigger = reaction_is (retrigger_part classes) codes.retrigger three.0 three.1;
        revalidate = part_is (Revalidate classes.own) codes.revalidate four.0 four.1;
      })

  drafts_are : (classes : Classes) (draft : SourceDraft Code) (made : SourceDraft Checked) → accepted_draft s classes draft ≡ Ok made → AreAccepted s made
  unfolding accepted_draft
  drafts_are classes draft made h =
      let act = accepted_act s (Do classes.own) draft.act in
      let whole : Parts Checked → ActDraft Checked → SourceDraft Checked = λ p a. record { header = draft.header; parts = p; act = a } in
      let one = bind_ok (accepted_parts s classes draft.parts) (λ p. act >>= λ a. Ok (whole p a)) made h in
      let two = bind_ok act (λ a. Ok (whole one.0 a)) made one.2 in
      let are = parts_are classes draft.parts one.0 one.1 in
      subst (AreAccepted s) (same_ok (whole one.0 two.0) made two.2) (record {
        require = are.require;
        obviate = are.obviate;
        retrigger = are.retrigger;
        revalidate = are.revalidate;
        act = act_is (Do classes.own) draft.act two.0 two.1;
      })

  source_are : (draft : SourceDraft Code) (made : SourceDraft Checked) → accepted_source s draft ≡ Ok made → AreAccepted s made
  source_are draft made h =
      let one = bind_ok (map_err (inputs.Rule draft.header.name) (classes_of s draft)) (λ classes. map_err (in_source draft.header.name) (accepted_draft s classes draft)) made h in
      drafts_are one.0 draft made (map_err_ok (in_source draft.header.name) (accepted_draft s one.0 draft) made one.2)

-- ---- all sources of an input

pub sources_made : (natives : List (List ℕ)) (s : Schema) (codes : List (SourceDraft Code)) (sources : List Source) → sources_for natives s codes ≡ Ok sources → All (IsMade s) sources
unfolding sources_for
sources_made natives s codes sources h =
    let drafts = bind_ok (try_map (accepted_source s) codes) (λ ds. try_map (resolved_source s) ds >>= λ rs. map_err in_input (fitted natives rs)) sources h in
    let resolved = bind_ok (try_map (resolved_source s) drafts.0) (λ rs. map_err in_input (fitted natives rs)) sources drafts.2 in
    let accepted = All-try_map (λ _. Unit {0}) (AreAccepted s) (accepted_source s) (λ draft made _ is. source_are s draft made is) codes drafts.0 (all_any codes) drafts.1 in
    let made = All-try_map (AreAccepted s) (IsMade s) (resolved_source s) (λ draft source are is. source_made_of s draft source (map_err_ok (inputs.Rule draft.header.name) (source_of s draft) source is) are) drafts.0 resolved.0 accepted resolved.1 in
    fitted_keeps natives (IsMade s) resolved.0 sources made (map_err_ok in_input (fitted natives resolved.0) sources resolved.2)

-- the sources of an input's texts are made of codes that were accepted
pub given_made : (natives : List (List ℕ)) (s : Schema) (texts bundle : List ℕ) (sources : List Source) → given natives s texts bundle ≡ Ok sources → All (IsMade s) sources
unfolding given
given_made natives s texts bundle sources h =
    let one = bind_ok (codes_in s texts bundle) (sources_for natives s) sources h in
    sources_made natives s one.0 sources one.2
