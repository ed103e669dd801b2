-- What holds of every source that was made under a schema.
use Rattle.std.proofs.Common.{◌≡◌, ℕ, Bool, true, false, ◌==◌, cond, List, Option, Some, None, Result, Ok, Err, refl, sym, ap, subst, ◌∙◌, eqb-true}
use Rattle.std.specs.Prelude.{All, IfSome, option_map}
use Rattle.std.proofs.lemmas.Bool.{and_parts}
use Rattle.bb_basis.proofs.ListLemmas.{all_any}
use Rattle.bb_basis.specs.Results.{◌>>=◌, ok_or}
use Rattle.bb_basis.proofs.PlacedLemmas.{map_at_ok}
use Rattle.bb_basis.proofs.ResultLemmas.{bind_ok, same_ok, All-try_map}
use Rattle.bb_schema.specs.Schema.{Schema, class_named, descends}
use Rattle.bb_verify.specs.Accepted.{Checked}
use Rattle.bb_code.specs.declared.flaw.Flaw.TheVariants as flaws
use Rattle.bb_verify.specs.Part.{writes}
use Rattle.bb_verify.specs.PartType.{Part}
use Rattle.bb_verify.specs.PartType.TheVariants as parts
use Rattle.bb_bundle.specs.ClauseText.{ClauseText}
use Rattle.bb_bundle.specs.ClauseText.TheVariants as texts
use Rattle.bb_bundle.specs.declared.draft.ReactionDraft.{ReactionDraft}
use Rattle.bb_bundle.specs.declared.draft.ActDraft.{ActDraft}
use Rattle.bb_bundle.specs.declared.draft.ActDraft.TheVariants as drafts
use Rattle.bb_bundle.specs.declared.draft.SourceDraft.{SourceDraft}
use Rattle.bb_rules.specs.declared.clause.Clause.{Clause}
use Rattle.bb_rules.specs.declared.clause.Clause.TheVariants as clauses
use Rattle.bb_rules.specs.declared.fault.ClauseFlaw.TheVariants as flawed
use Rattle.bb_rules.specs.declared.fault.RuleFault.{RuleFault}
use Rattle.bb_rules.specs.declared.fault.RuleFault.TheVariants as faults
use Rattle.bb_rules.specs.declared.place.ClauseList.{ClauseList}
use Rattle.bb_rules.specs.declared.place.ClauseList.TheVariants as lists
use Rattle.bb_rules.specs.declared.resolve.Classes.{Classes}
use Rattle.bb_rules.specs.declared.source.Act.TheVariants as acts
use Rattle.bb_rules.specs.declared.source.Reaction.{Reaction}
use Rattle.bb_rules.specs.Parts.{Source}
use Rattle.bb_rules.specs.Faults.{at_clause}
use Rattle.bb_rules.specs.Source.{classes_of, obviate_part, retrigger_part, is_same_part, is_for, is_for_reaction, reaction_code, act_code, parts_fit, class_within, kind_of, clause_of, clauses_of, reaction_of, act_of, made_of, source_of}
use Rattle.bb_rules.specs.Law.{IsWithin, IsPart, Reacts, IsOf, IsAccepted, AreAccepted, IsMade}

-- ---- clauses

guarded : {X E : Type 0} (b : Bool) (x y : X) (e : E) → cond b (Ok x) (Err e) ≡ Ok y → (b ≡ true) × (x ≡ y)
guarded true x y e h = (refl, same_ok x y h)
guarded false x y e h = absurd cc

changed_descends : (s : Schema) (class : ℕ) (name : List ℕ) (changed : ℕ) → class_within s class name ≡ Ok changed → descends s changed class ≡ true
changed_descends s class name changed h =
    let one = bind_ok (ok_or (class_named s name) flawed.Class) (λ c. cond (descends s c class) (Ok c) (Err flawed.Class)) changed h in
    let two = guarded (descends s one.0 class) one.0 changed flawed.Class one.2 in
    ap (λ c. descends s c class) (sym two.1) ∙ two.0

clause_within : (s : Schema) (class : ℕ) (text : ClauseText) (clause : Clause) → clause_of s class text ≡ Ok clause → IsWithin s class clause
clause_within s class (texts.Change kind name) clause h =
    let one = bind_ok (class_within s class name) (λ c. kind_of s c kind >>= λ change. Ok (clauses.Change change c)) clause h in
    let two = bind_ok (kind_of s one.0 kind) (λ change. Ok (clauses.Change change one.0)) clause one.2 in
    subst (IsWithin s class) (same_ok (clauses.Change two.0 one.0) clause two.2) (changed_descends s class name one.0 one.1)
clause_within s class texts.Quiescence clause h = subst (IsWithin s class) (same_ok clauses.Quiescence clause h) tt

clauses_within : (s : Schema) (list : ClauseList) (class : ℕ) (texts : List ClauseText) (made : List Clause) → clauses_of s list class texts ≡ Ok made → All (IsWithin s class) made
clauses_within s list class texts made h =
    All-try_map (λ _. Unit {0}) (IsWithin s class) (clause_of s class) (λ text clause _ is. clause_within s class text clause is) texts made (all_any texts)
    (map_at_ok (at_clause list) (clause_of s class) 0 texts made h)

-- ---- codes

same_part : (p q : Part) → is_same_part p q ≡ true → p ≡ q
same_part (parts.Require class) (parts.Require other) h = ap parts.Require (eqb-true class other h)
same_part (parts.Obviate class of) (parts.Obviate other from) h =
    let both = and_parts (class == other) (of == from) h in
    ap (λ c. parts.Obviate c of) (eqb-true class other both.0) ∙ ap (λ o. parts.Obviate other o) (eqb-true of from both.1)
same_part (parts.Retrigger class of) (parts.Retrigger other from) h =
    let both = and_parts (class == other) (of == from) h in
    ap (λ c. parts.Retrigger c of) (eqb-true class other both.0) ∙ ap (λ o. parts.Retrigger other o) (eqb-true of from both.1)
same_part (parts.Revalidate class) (parts.Revalidate other) h = ap parts.Revalidate (eqb-true class other h)
same_part (parts.Do class) (parts.Do other) h = ap parts.Do (eqb-true class other h)
same_part (parts.Require class) (parts.Obviate other from) h = absurd cc
same_part (parts.Require class) (parts.Retrigger other from) h = absurd cc
same_part (parts.Require class) (parts.Revalidate other) h = absurd cc
same_part (parts.Require class) (parts.Do other) h = absurd cc
same_part (parts.Obviate class of) (parts.Require other) h = absurd cc
same_part (parts.Obviate class of) (parts.Retrigger other from) h = absurd cc
same_part (parts.Obviate class of) (parts.Revalidate other) h = absurd cc
same_part (parts.Obviate class of) (parts.Do other) h = absurd cc
same_part (parts.Retrigger class of) (parts.Require other) h = absurd cc
same_part (parts.Retrigger class of) (parts.Obviate other from) h = absurd cc
same_part (parts.Retrigger class of) (parts.Revalidate other) h = absurd cc
same_part (parts.Retrigger class of) (parts.Do other) h = absurd cc
same_part (parts.Revalidate class) (parts.Require other) h = absurd cc
same_part (parts.Revalidate class) (parts.Obviate other from) h = absurd cc
same_part (parts.Revalidate class) (parts.Retrigger other from) h = absurd cc
same_part (parts.Revalidate class) (parts.Do other) h = absurd cc
same_part (parts.Do class) (parts.Require other) h = absurd cc
same_part (parts.Do class) (parts.Obviate other from) h = absurd cc
same_part (parts.Do class) (parts.Retrigger other from) h = absurd cc
same_part (parts.Do class) (parts.Revalidate other) h = absurd cc

is_part : (part : Part) (code : Option Checked) (done : Unit {0}) → is_for part code ≡ Ok done → IsPart part code
is_part part None done h c is = absurd cc
is_part part (Some code) done h c is =
    let same : code ≡ c = cc in
    ap (λ d. d.part) (sym same) ∙ same_part code.part part (guarded (is_same_part code.part part) tt done faults.Part h).0

module _ (s : Schema) (list : ClauseList) (part : ℕ → Part) where
  reacts : (of : Option ℕ) (draft : Option (ReactionDraft Checked)) (made : Option Reaction) (done : Unit {0}) → is_for_reaction (option_map part of) (reaction_code draft) ≡ Ok done → reaction_of s list of draft ≡ Ok made → Reacts s part made
  reacts None draft made done fit h =
      let none : None ≡ made = same_ok None made h in
      record { clauses = λ r is. absurd cc; code = λ r is. absurd cc }
  reacts (Some class) None made done fit h =
      let none : None ≡ made = same_ok None made h in
      record { clauses = λ r is. absurd cc; code = λ r is. absurd cc }
  reacts (Some class) (Some draft) made done fit h =
      let one = bind_ok (clauses_of s list class draft.clauses) (λ found. Ok (Some (record { class = class; clauses = found; code = draft.code }))) made h in
      let whole : Reaction = record { class = class; clauses = one.0; code = draft.code } in
      let is_made : Some whole ≡ made = same_ok (Some whole) made one.2 in
      subst (Reacts s part) is_made (record {
        clauses = λ r is. let same : whole ≡ r = cc in subst (λ t. All (IsWithin s t.class) t.clauses) same (clauses_within s list class draft.clauses one.0 one.1);
        code = λ r is. let same : whole ≡ r = cc in subst (λ t. t.code.part ≡ part t.class) same (is_part (part class) (Some draft.code) done fit draft.code refl);
      })

act_part : (class : ℕ) (draft : ActDraft Checked) (done : Unit {0}) → is_for (parts.Do class) (act_code draft) ≡ Ok done → (c : Checked) → act_of draft ≡ acts.Code c → c.part ≡ parts.Do class
act_part class (drafts.Do code) done h c is = is_part (parts.Do class) (Some code) done h c (let same : code ≡ c = cc in ap (λ d. Some d) same)
act_part class drafts.Native done h c is = absurd cc

-- ---- the source

-- each code is for its part
record FitParts (c : Classes) (draft : SourceDraft Checked) : Type 0 where
  done : Unit {0}
  require : is_for (parts.Require c.own) draft.parts.require ≡ Ok done
  obviate : is_for_reaction (obviate_part c) (reaction_code draft.parts.obviate) ≡ Ok done
  retrigger : is_for_reaction (retrigger_part c) (reaction_code draft.parts.retrigger) ≡ Ok done
  revalidate : is_for (parts.Revalidate c.own) draft.parts.revalidate ≡ Ok done
  act : is_for (parts.Do c.own) (act_code draft.act) ≡ Ok done

fit_parts : (c : Classes) (draft : SourceDraft Checked) (done : Unit {0}) → parts_fit c draft ≡ Ok done → FitParts c draft
unfolding parts_fit
fit_parts c draft done h =
    let obviated = is_for_reaction (obviate_part c) (reaction_code draft.parts.obviate) in
    let retriggered = is_for_reaction (retrigger_part c) (reaction_code draft.parts.retrigger) in
    let valid = is_for (parts.Revalidate c.own) draft.parts.revalidate in
    let acts = is_for (parts.Do c.own) (act_code draft.act) in
    let one = bind_ok (is_for (parts.Require c.own) draft.parts.require) (λ _. obviated >>= λ _. retriggered >>= λ _. valid >>= λ _. acts) done h in
    let two = bind_ok obviated (λ _. retriggered >>= λ _. valid >>= λ _. acts) done one.2 in
    let three = bind_ok retriggered (λ _. valid >>= λ _. acts) done two.2 in
    let four = bind_ok valid (λ _. acts) done three.2 in
    record { done = done; require = one.1; obviate = two.1; retrigger = three.1; revalidate = four.1; act = four.2 }

-- what is asked may not write
abbrev reads_only : Checked → Type 0
reads_only c = writes c.part ≡ Err flaws.Effect

code_reads : (part : Part) (code : Option Checked) (done : Unit {0}) → writes part ≡ Err flaws.Effect → is_for part code ≡ Ok done → IfSome code reads_only
code_reads part None done may_not fit = tt
code_reads part (Some c) done may_not fit = ap writes (is_part part (Some c) done fit c refl) ∙ may_not

reaction_reads : (part : ℕ → Part) (of : Option ℕ) (draft : Option (ReactionDraft Checked)) (done : Unit {0}) → ((class : ℕ) → writes (part class) ≡ Err flaws.Effect) → is_for_reaction (option_map part of) (reaction_code draft) ≡ Ok done
    → IfSome of (λ _. IfSome draft (λ d. reads_only d.code))
reaction_reads part None draft done may_not fit = tt
reaction_reads part (Some class) None done may_not fit = tt
reaction_reads part (Some class) (Some draft) done may_not fit = code_reads (part class) (Some draft.code) done (may_not class) fit

module _ (c : Classes) (draft : SourceDraft Checked) (h : parts_fit c draft ≡ Ok tt) where
  all_parts : FitParts c draft
  all_parts = fit_parts c draft tt h

  pub require_reads : IfSome draft.parts.require (λ d. writes d.part ≡ Err flaws.Effect)
  require_reads = code_reads (parts.Require c.own) draft.parts.require all_parts.done refl all_parts.require

  pub revalidate_reads : IfSome draft.parts.revalidate (λ d. writes d.part ≡ Err flaws.Effect)
  revalidate_reads = code_reads (parts.Revalidate c.own) draft.parts.revalidate all_parts.done refl all_parts.revalidate

  pub obviate_reads : IfSome c.obviated (λ _. IfSome draft.parts.obviate (λ d. writes d.code.part ≡ Err flaws.Effect))
  obviate_reads = reaction_reads (parts.Obviate c.own) c.obviated draft.parts.obviate all_parts.done (λ _. refl) all_parts.obviate

  pub retrigger_reads : IfSome c.retriggered (λ _. IfSome draft.parts.retrigger (λ d. writes d.code.part ≡ Err flaws.Effect))
  retrigger_reads = reaction_reads (parts.Retrigger c.own) c.retriggered draft.parts.retrigger all_parts.done (λ _. refl) all_parts.retrigger

-- the steps by which a source was made
pub record Steps (s : Schema) (draft : SourceDraft Checked) (source : Source) : Type 0 where
  pub classes : Classes
  pub done : Unit {0}
  pub fit : parts_fit classes draft ≡ Ok done
  pub triggers : List Clause
  pub triggers_are : clauses_of s lists.Triggers classes.own draft.header.triggers ≡ Ok triggers
  pub obviate : Option Reaction
  pub obviate_is : reaction_of s lists.Obviate classes.obviated draft.parts.obviate ≡ Ok obviate
  pub retrigger : Option Reaction
  pub retrigger_is : reaction_of s lists.Retrigger classes.retriggered draft.parts.retrigger ≡ Ok retrigger
  pub made : made_of draft classes triggers obviate retrigger ≡ source

pub steps_of : (s : Schema) (draft : SourceDraft Checked) (source : Source) → source_of s draft ≡ Ok source → Steps s draft source
unfolding source_of
steps_of s draft source h =
    let made = made_of draft in
    let after : Classes → List Clause → Result Source RuleFault = λ c ts. reaction_of s lists.Obviate c.obviated draft.parts.obviate >>= λ o. reaction_of s lists.Retrigger c.retriggered draft.parts.retrigger >>= λ r. Ok (made c ts o r) in
    let c = bind_ok (classes_of s draft) (λ c. parts_fit c draft >>= λ _. clauses_of s lists.Triggers c.own draft.header.triggers >>= λ ts. after c ts) source h in
    let p = bind_ok (parts_fit c.0 draft) (λ _. clauses_of s lists.Triggers c.0.own draft.header.triggers >>= λ ts. after c.0 ts) source c.2 in
    let t = bind_ok (clauses_of s lists.Triggers c.0.own draft.header.triggers) (λ ts. after c.0 ts) source p.2 in
    let o = bind_ok (reaction_of s lists.Obviate c.0.obviated draft.parts.obviate) (λ o. reaction_of s lists.Retrigger c.0.retriggered draft.parts.retrigger >>= λ r. Ok (made c.0 t.0 o r)) source t.2 in
    let r = bind_ok (reaction_of s lists.Retrigger c.0.retriggered draft.parts.retrigger) (λ r. Ok (made c.0 t.0 o.0 r)) source o.2 in
    record {
      classes = c.0;
      done = p.0;
      fit = p.1;
      triggers = t.0;
      triggers_are = t.1;
      obviate = o.0;
      obviate_is = o.1;
      retrigger = r.0;
      retrigger_is = r.1;
      made = same_ok (made c.0 t.0 o.0 r.0) source r.2;
    }

pub source_law : (s : Schema) (draft : SourceDraft Checked) (source : Source) → source_of s draft ≡ Ok source → IsOf s source
source_law s draft source h =
    let steps = steps_of s draft source h in
    let c = steps.classes in
    let fit = fit_parts c draft steps.done steps.fit in
    subst (IsOf s) steps.made (record {
      triggers = clauses_within s lists.Triggers c.own draft.header.triggers steps.triggers steps.triggers_are;
      require = is_part (parts.Require c.own) draft.parts.require fit.done fit.require;
      obviate = reacts s lists.Obviate (parts.Obviate c.own) c.obviated draft.parts.obviate steps.obviate fit.done fit.obviate steps.obviate_is;
      retrigger = reacts s lists.Retrigger (parts.Retrigger c.own) c.retriggered draft.parts.retrigger steps.retrigger fit.done fit.retrigger steps.retrigger_is;
      revalidate = is_part (parts.Revalidate c.own) draft.parts.revalidate fit.done fit.revalidate;
      act = act_part c.own draft.act fit.done fit.act;
    })

-- ---- codes that were accepted

reaction_accepted : (s : Schema) (list : ClauseList) (of : Option ℕ) (draft : Option (ReactionDraft Checked)) (made : Option Reaction) → reaction_of s list of draft ≡ Ok made → ((d : ReactionDraft Checked) → draft ≡ Some d → IsAccepted s d.code)
    → (r : Reaction) → made ≡ Some r → IsAccepted s r.code
reaction_accepted s list None draft made h are r is =
    let none : None ≡ made = same_ok None made h in
    absurd cc
reaction_accepted s list (Some class) None made h are r is =
    let none : None ≡ made = same_ok None made h in
    absurd cc
reaction_accepted s list (Some class) (Some draft) made h are r is =
    let one = bind_ok (clauses_of s list class draft.clauses) (λ found. Ok (Some (record { class = class; clauses = found; code = draft.code }))) made h in
    let whole : Reaction = record { class = class; clauses = one.0; code = draft.code } in
    let is_made : Some whole ≡ made = same_ok (Some whole) made one.2 in
    let same : whole ≡ r = cc in
    subst (λ t. IsAccepted s t.code) same (are draft refl)

act_accepted : (s : Schema) (draft : ActDraft Checked) → ((c : Checked) → draft ≡ drafts.Do c → IsAccepted s c) → (c : Checked) → act_of draft ≡ acts.Code c → IsAccepted s c
act_accepted s (drafts.Do code) are c is = let same : code ≡ c = cc in subst (IsAccepted s) same (are code refl)
act_accepted s drafts.Native are c is = absurd cc

-- a source of codes that were accepted is made of these
pub source_made_of : (s : Schema) (draft : SourceDraft Checked) (source : Source) → source_of s draft ≡ Ok source → AreAccepted s draft → IsMade s source
source_made_of s draft source h are =
    let steps = steps_of s draft source h in
    let whole = made_of draft steps.classes steps.triggers steps.obviate steps.retrigger in
    subst (IsMade s) steps.made (record {
      law = subst (IsOf s) (sym steps.made) (source_law s draft source h);
      require = are.require;
      obviate = reaction_accepted s lists.Obviate steps.classes.obviated draft.parts.obviate steps.obviate steps.obviate_is are.obviate;
      retrigger = reaction_accepted s lists.Retrigger steps.classes.retriggered draft.parts.retrigger steps.retrigger steps.retrigger_is are.retrigger;
      revalidate = are.revalidate;
      act = act_accepted s draft.act are.act;
    })
