-- That each source goes through all steps before the next one tells the same as that each step is over all sources.
use Rattle.std.proofs.Common.{◌≡◌, ℕ, ◌⊎◌, inl, inr, refl, sym, ap, ◌∙◌, List, [], ◌∷◌, Result, Ok, Err}
use Rattle.bb_basis.specs.Results.{◌>>=◌, map_err, try_fold, try_map}
use Rattle.bb_schema.specs.Schema.{Schema}
use Rattle.bb_verify.specs.Accepted.{Checked}
use Rattle.bb_code.specs.Code.{Code}
use Rattle.bb_bundle.specs.declared.draft.SourceDraft.{SourceDraft}
use Rattle.bb_rules.specs.Parts.{Source}
use Rattle.bb_shell.specs.declared.fitting.Unfit.{Unfit}
use Rattle.bb_refusal.specs.declared.input_fault.InputFault.{InputFault}
use Rattle.bb_refusal.specs.declared.input_fault.InputFault.TheVariants.{Memory}
use Rattle.bb_shell.specs.declared.sources.Resolution.{Resolution}
use Rattle.bb_shell.specs.Accepting.{accepted_source}
use Rattle.bb_shell.specs.Fitting.{source_after}
use Rattle.bb_shell.specs.Sources.{in_input, resolved_source, sources_for}
use Rattle.bb_shell.specs.proving.Gathering.{Gathering, ended, resolution_as, gathering, with_code, with_draft}

module _ (natives : List (List ℕ)) where
  -- what comes of the sources so far and those whose codes are accepted, by steps
  by_steps : Schema → Gathering → List (SourceDraft Checked) → Result (List Source) InputFault
  by_steps s g drafts = do
    fit ← g
    sources ← try_map (resolved_source s) drafts
    map_err in_input (fit >>= λ t. try_fold (source_after natives) t sources)

  no_more : (s : Schema) (g : Gathering) → ended g ≡ by_steps s g []
  unfolding try_map try_fold by_steps
  no_more s (Ok (Ok t)) = refl
  no_more s (Ok (Err unfit)) = refl
  no_more s (Err fault) = refl

  -- where the names of the next one are looked up, and more sources come
  resolves : (s : Schema) (fit : Result (List Source) Unfit) (source : Source) (others : Result (List Source) InputFault) → (others >>= λ sources. map_err in_input ((fit >>= λ t. source_after natives t source) >>= λ t. try_fold (source_after natives) t sources)) ≡ ((others >>= λ sources. Ok (source ∷ sources)) >>= λ sources. map_err in_input (fit >>= λ t. try_fold (source_after natives) t sources))
  unfolding try_fold
  resolves s (Ok t) source (Ok sources) = refl
  resolves s (Err unfit) source (Ok sources) = refl
  resolves s fit source (Err fault) = refl

  one_more_by : (s : Schema) (fit : Result (List Source) Unfit) (drafts : List (SourceDraft Checked)) (resolved : Result Source InputFault) → by_steps s (resolved >>= λ source. Ok (fit >>= λ t. source_after natives t source)) drafts ≡ ((resolved >>= λ first. try_map (resolved_source s) drafts >>= λ others. Ok (first ∷ others)) >>= λ sources. map_err in_input (fit >>= λ t. try_fold (source_after natives) t sources))
  unfolding by_steps
  one_more_by s fit drafts (Ok source) = resolves s fit source (try_map (resolved_source s) drafts)
  one_more_by s fit drafts (Err fault) = refl

  steps_with_one : (s : Schema) (g : Gathering) (draft : SourceDraft Checked) (drafts : List (SourceDraft Checked)) → by_steps s (with_draft natives s g draft) drafts ≡ by_steps s g (draft ∷ drafts)
  unfolding try_map by_steps
  steps_with_one s (Ok fit) draft drafts = one_more_by s fit drafts (resolved_source s draft)
  steps_with_one s (Err fault) draft drafts = refl

  -- the accepted code of one, and then the rest
  next_by : (s : Schema) (g : Gathering) (accepted : Result (SourceDraft Checked) InputFault) (rest : Gathering → Result (List Source) InputFault) (others : Result (List (SourceDraft Checked)) InputFault) → ((h : Gathering) → rest h ≡ (others >>= λ drafts. by_steps s h drafts)) → (accepted >>= λ draft. rest (with_draft natives s g draft)) ≡ ((accepted >>= λ first. others >>= λ drafts. Ok (first ∷ drafts)) >>= λ drafts. by_steps s g drafts)
  next_by s g (Ok draft) rest (Ok drafts) is = is (with_draft natives s g draft) ∙ steps_with_one s g draft drafts
  next_by s g (Ok draft) rest (Err fault) is = is (with_draft natives s g draft)
  next_by s g (Err fault) rest others is = refl

  same_result : (s : Schema) (g : Gathering) (accepted : Result (SourceDraft Checked) InputFault) (codes : List (SourceDraft Code)) → (((accepted >>= λ draft. Ok (with_draft natives s g draft)) >>= λ next. try_fold (with_code natives s) next codes) >>= ended) ≡ (accepted >>= λ draft. (try_fold (with_code natives s) (with_draft natives s g draft) codes >>= ended))
  same_result s g (Ok draft) codes = refl
  same_result s g (Err fault) codes = refl

  from : (s : Schema) (g : Gathering) (codes : List (SourceDraft Code)) → (try_fold (with_code natives s) g codes >>= ended) ≡ (try_map (accepted_source s) codes >>= λ drafts. by_steps s g drafts)
  unfolding try_map try_fold
  from s g [] = no_more s g
  from s g (code ∷ codes) =
      same_result s g (accepted_source s code) codes
      ∙ next_by s g (accepted_source s code) (λ h. try_fold (with_code natives s) h codes >>= ended) (try_map (accepted_source s) codes) (λ h. from s h codes)

  pub gathers : (s : Schema) (codes : List (SourceDraft Code)) → (gathering natives s codes >>= ended) ≡ sources_for natives s codes
  unfolding sources_for by_steps
  gathers s codes = from s (Ok (Ok [])) codes

  -- ---- the loop over the sources

  pub one_gathered : (s : Schema) (g next : Gathering) (code handed : SourceDraft Code) (draft : SourceDraft Checked) → handed ≡ code → accepted_source s handed ≡ Ok draft → next ≡ with_draft natives s g draft → with_code natives s g code ≡ Ok next
  one_gathered s g next code handed draft same accepted is =
      ap (with_code natives s g) (sym same) ∙ (ap (λ r. r >>= λ d. Ok (with_draft natives s g d)) accepted ∙ ap (λ h. Ok h) (sym is))

  pub none_gathered : (s : Schema) (g : Gathering) (code handed : SourceDraft Code) (e : InputFault) → handed ≡ code → (e ≡ Memory) ⊎ (accepted_source s handed ≡ Err e) → (e ≡ Memory) ⊎ (with_code natives s g code ≡ Err e)
  none_gathered s g code handed e same (inl memory) = inl memory
  none_gathered s g code handed e same (inr failed) = inr (ap (with_code natives s g) (sym same) ∙ ap (λ r. r >>= λ d. Ok (with_draft natives s g d)) failed)

  -- ---- what it tells in the end

  pub ends_as : (s : Schema) (codes : List (SourceDraft Code)) (g h : Resolution) → gathering natives s codes ≡ Ok (resolution_as g) → g ≡ h → sources_for natives s codes ≡ ended (resolution_as h)
  ends_as s codes g h all is = sym (gathers s codes) ∙ (ap (λ r. r >>= ended) all ∙ ap (λ x. ended (resolution_as x)) is)

  pub fails_as : (s : Schema) (codes : List (SourceDraft Code)) (e : InputFault) → (e ≡ Memory) ⊎ (gathering natives s codes ≡ Err e) → (e ≡ Memory) ⊎ (sources_for natives s codes ≡ Err e)
  fails_as s codes e (inl memory) = inl memory
  fails_as s codes e (inr failed) = inr (sym (gathers s codes) ∙ ap (λ r. r >>= ended) failed)
