-- The steps by which the code makes a source give what `source_of` says.
use Rattle.std.proofs.Common.{◌≡◌, ◌⊎◌, inl, inr, ℕ, List, Option, Some, None, Result, Ok, Err, refl, sym, ap, subst, ◌∙◌}
use Rattle.bb_basis.specs.Results.{◌>>=◌}
use Rattle.bb_basis.proofs.ResultLemmas.{bind_ok, same_ok}
use Rattle.bb_schema.specs.Schema.{Schema}
use Rattle.bb_verify.specs.Accepted.{Checked}
use Rattle.bb_bundle.specs.ClauseText.{ClauseText}
use Rattle.bb_bundle.specs.declared.draft.ReactionDraft.{ReactionDraft}
use Rattle.bb_bundle.specs.declared.draft.SourceDraft.{SourceDraft}
use Rattle.bb_rules.specs.declared.found.Found.{Found}
use Rattle.bb_rules.specs.declared.clause.Clause.{Clause}
use Rattle.bb_rules.specs.declared.fault.RuleFault.{RuleFault}
use Rattle.bb_rules.specs.declared.fault.RuleFault.TheVariants.{Memory}
use Rattle.bb_rules.specs.declared.place.ClauseList.{ClauseList}
use Rattle.bb_rules.specs.declared.place.ClauseList.TheVariants as lists
use Rattle.bb_rules.specs.declared.resolve.Classes.{Classes}
use Rattle.bb_rules.specs.declared.source.Reaction.{Reaction}
use Rattle.bb_rules.specs.Parts.{Source}
use Rattle.bb_rules.specs.Source.{classes_of, clauses_of, made_of, parts_fit, reaction_of, source_of}
use Rattle.bb_rules.specs.proving.Steps.{found, found_with, reaction_clauses, reaction_with, source_with}

-- ---- the events that a source answers

module _ {C : Type 0} (s : Schema) (c : Classes) (draft : SourceDraft C) where
  -- what follows each step
  abbrev answers : List Clause → Option (List Clause) → Option (List Clause) → Result Found RuleFault
  answers ts o r = Ok (record { classes = c; triggers = ts; obviating = o; retriggering = r })

  abbrev after_obviating : List Clause → Option (List Clause) → Result Found RuleFault
  after_obviating ts o = reaction_clauses s lists.Retrigger c.retriggered draft.parts.retrigger >>= answers ts o

  abbrev after_triggers : List Clause → Result Found RuleFault
  after_triggers ts = reaction_clauses s lists.Obviate c.obviated draft.parts.obviate >>= after_obviating ts

  triggered : (texts : List ClauseText) (ts : List Clause) → texts ≡ draft.header.triggers → clauses_of s lists.Triggers c.own texts ≡ Ok ts → found_with s c draft ≡ after_triggers ts
  unfolding found_with
  triggered texts ts read found = ap (λ r. r >>= after_triggers) (ap (clauses_of s lists.Triggers c.own) (sym read) ∙ found)

  pub obviating_fails : (texts : List ClauseText) (ts : List Clause) (e : RuleFault) → texts ≡ draft.header.triggers → clauses_of s lists.Triggers c.own texts ≡ Ok ts
      → (e ≡ Memory) ⊎ (reaction_clauses s lists.Obviate c.obviated draft.parts.obviate ≡ Err e) → (e ≡ Memory) ⊎ (found_with s c draft ≡ Err e)
  obviating_fails texts ts e read found (inl memory) = inl memory
  obviating_fails texts ts e read found (inr failed) = inr (triggered texts ts read found ∙ ap (λ r. r >>= after_obviating ts) failed)

  pub retriggering_fails : (texts : List ClauseText) (ts : List Clause) (o : Option (List Clause)) (e : RuleFault) → texts ≡ draft.header.triggers → clauses_of s lists.Triggers c.own texts ≡ Ok ts → reaction_clauses s lists.Obviate c.obviated draft.parts.obviate ≡ Ok o
      → (e ≡ Memory) ⊎ (reaction_clauses s lists.Retrigger c.retriggered draft.parts.retrigger ≡ Err e) → (e ≡ Memory) ⊎ (found_with s c draft ≡ Err e)
  retriggering_fails texts ts o e read found obviating (inl memory) = inl memory
  retriggering_fails texts ts o e read found obviating (inr failed) =
      inr (triggered texts ts read found ∙ (ap (λ r. r >>= after_obviating ts) obviating ∙ ap (λ r. r >>= answers ts o) failed))

  pub all_found : (texts : List ClauseText) (ts : List Clause) (o r : Option (List Clause)) → texts ≡ draft.header.triggers → clauses_of s lists.Triggers c.own texts ≡ Ok ts → reaction_clauses s lists.Obviate c.obviated draft.parts.obviate ≡ Ok o
      → reaction_clauses s lists.Retrigger c.retriggered draft.parts.retrigger ≡ Ok r → found_with s c draft ≡ answers ts o r
  all_found texts ts o r read found obviating retriggering =
      triggered texts ts read found ∙ (ap (λ x. x >>= after_obviating ts) obviating ∙ ap (λ x. x >>= answers ts o) retriggering)

-- ---- the source

with_clauses : (class : ℕ) (draft : ReactionDraft Checked) (found : Result (List Clause) RuleFault)
    → (found >>= λ cs. Ok (Some (record { class = class; clauses = cs; code = draft.code })))
    ≡ ((found >>= λ cs. Ok (Some cs)) >>= λ cs. Ok (reaction_with (Some class) cs (Some draft)))
with_clauses class draft (Ok cs) = refl
with_clauses class draft (Err e) = refl

-- a reaction is its clauses, put together with its class and its code
reaction_is : (s : Schema) (list : ClauseList) (class : Option ℕ) (draft : Option (ReactionDraft Checked)) → reaction_of s list class draft ≡ (reaction_clauses s list class draft >>= λ cs. Ok (reaction_with class cs draft))
reaction_is s list (Some class) (Some draft) = with_clauses class draft (clauses_of s list class draft.clauses)
reaction_is s list (Some class) None = refl
reaction_is s list None (Some draft) = refl
reaction_is s list None None = refl

module _ (s : Schema) (draft : SourceDraft Checked) where
  abbrev made : Classes → List Clause → Option Reaction → Option Reaction → Result Source RuleFault
  made c ts o r = Ok (made_of draft c ts o r)

  -- what follows once each code is for its part, by either order of the steps
  abbrev at_once : Classes → Result Source RuleFault
  at_once c = clauses_of s lists.Triggers c.own draft.header.triggers >>= λ ts. reaction_of s lists.Obviate c.obviated draft.parts.obviate >>= λ o. reaction_of s lists.Retrigger c.retriggered draft.parts.retrigger >>= made c ts o

  abbrev at_the_end : Classes → Result Source RuleFault
  at_the_end c = found_with s c draft >>= λ f. Ok (source_with f draft)

  put_off : (c : Classes) (t : Result (List Clause) RuleFault) (o r : Result (Option (List Clause)) RuleFault)
      → (t >>= λ ts. (o >>= λ cs. Ok (reaction_with c.obviated cs draft.parts.obviate)) >>= λ obviate. (r >>= λ cs. Ok (reaction_with c.retriggered cs draft.parts.retrigger)) >>= made c ts obviate)
      ≡ ((t >>= λ ts. o >>= λ os. r >>= λ rs. Ok (record { classes = c; triggers = ts; obviating = os; retriggering = rs })) >>= λ f. Ok (source_with f draft))
  put_off c (Ok ts) (Ok os) (Ok rs) = refl
  put_off c (Ok ts) (Ok os) (Err e) = refl
  put_off c (Ok ts) (Err e) r = refl
  put_off c (Err e) o r = refl

  same_source : (c : Classes) → at_once c ≡ at_the_end c
  unfolding found_with
  same_source c =
      ap (λ o. clauses_of s lists.Triggers c.own draft.header.triggers >>= λ ts. o >>= λ obviate. reaction_of s lists.Retrigger c.retriggered draft.parts.retrigger >>= made c ts obviate) (reaction_is s lists.Obviate c.obviated draft.parts.obviate)
      ∙ (ap (λ r. clauses_of s lists.Triggers c.own draft.header.triggers >>= λ ts. (reaction_clauses s lists.Obviate c.obviated draft.parts.obviate >>= λ cs. Ok (reaction_with c.obviated cs draft.parts.obviate)) >>= λ obviate. r >>= made c ts obviate) (reaction_is s lists.Retrigger c.retriggered draft.parts.retrigger)
      ∙ put_off c (clauses_of s lists.Triggers c.own draft.header.triggers) (reaction_clauses s lists.Obviate c.obviated draft.parts.obviate) (reaction_clauses s lists.Retrigger c.retriggered draft.parts.retrigger))

  once_fit : (c : Classes) (fit : Result (Unit {0}) RuleFault) → (fit >>= λ _. at_once c) ≡ ((fit >>= λ _. found_with s c draft) >>= λ f. Ok (source_with f draft))
  once_fit c (Ok done) = same_source c
  once_fit c (Err e) = refl

  once_known : (classes : Result Classes RuleFault) → (classes >>= λ c. parts_fit c draft >>= λ _. at_once c)
      ≡ ((classes >>= λ c. parts_fit c draft >>= λ _. found_with s c draft) >>= λ f. Ok (source_with f draft))
  once_known (Ok c) = once_fit c (parts_fit c draft)
  once_known (Err e) = refl

  source_is : source_of s draft ≡ (found s draft >>= λ f. Ok (source_with f draft))
  unfolding source_of found
  source_is = once_known (classes_of s draft)

  pub none_found : (e : RuleFault) → (e ≡ Memory) ⊎ (found s draft ≡ Err e) → (e ≡ Memory) ⊎ (source_of s draft ≡ Err e)
  none_found e (inl memory) = inl memory
  none_found e (inr failed) = inr (source_is ∙ ap (λ r. r >>= λ f. Ok (source_with f draft)) failed)

  pub source_made : (f : Found) → found s draft ≡ Ok f → source_of s draft ≡ Ok (source_with f draft)
  source_made f all = source_is ∙ ap (λ r. r >>= λ g. Ok (source_with g draft)) all

-- where all is found, each code is for its part
pub found_fits : (s : Schema) (draft : SourceDraft Checked) (f : Found) → found s draft ≡ Ok f → parts_fit f.classes draft ≡ Ok tt
unfolding found found_with
found_fits s draft f h =
    let c = bind_ok (classes_of s draft) (λ c. parts_fit c draft >>= λ _. found_with s c draft) f h in
    let fit = bind_ok (parts_fit c.0 draft) (λ _. found_with s c.0 draft) f c.2 in
    let t = bind_ok (clauses_of s lists.Triggers c.0.own draft.header.triggers) (after_triggers s c.0 draft) f fit.2 in
    let o = bind_ok (reaction_clauses s lists.Obviate c.0.obviated draft.parts.obviate) (after_obviating s c.0 draft t.0) f t.2 in
    let r = bind_ok (reaction_clauses s lists.Retrigger c.0.retriggered draft.parts.retrigger) (answers s c.0 draft t.0 o.0) f o.2 in
    let whole : Found = record { classes = c.0; triggers = t.0; obviating = o.0; retriggering = r.0 } in
    subst (λ (g : Found). parts_fit g.classes draft ≡ Ok tt) (same_ok whole f r.2) fit.1
