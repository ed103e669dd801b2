-- What a compiled source is made of: the code of each part that its text has.
use Rattle.std.proofs.Common.{◌≡◌, ℕ, Bool, true, false, List, Option, Some, None, Result, Ok, Err, refl, subst, ◌∙◌}
use Rattle.std.specs.Prelude.{if◌then◌else◌}
use Rattle.bb_basis.specs.Results.{◌>>=◌, ok_or}
use Rattle.bb_basis.proofs.ResultLemmas.{bind_ok, same_ok, ok_or_ok}
use Rattle.bb_schema.specs.Schema.{Schema, class_named}
use Rattle.bb_code.specs.Code.{Code}
use Rattle.bb_lang.specs.ActText.{ActText}
use Rattle.bb_lang.specs.ActText.TheVariants as acts
use Rattle.bb_lang.specs.PartText.{PartText}
use Rattle.bb_lang.specs.PartTexts.{PartTexts}
use Rattle.bb_lang.specs.ReactionText.{ReactionText}
use Rattle.bb_lang.specs.SourceText.{SourceText}
use Rattle.bb_compile_scope.specs.Ending.{block_ends}
use Rattle.bb_compile_scope.specs.Place.{Place}
use Rattle.bb_compile_scope.specs.declared.fault.CompileFault.{CompileFault}
use Rattle.bb_compile_scope.specs.declared.fault.CompileFault.TheVariants.{At}
use Rattle.bb_compile_scope.specs.declared.fault.TextFlaw.TheVariants.{Unknown, NoEnd}
use Rattle.bb_bundle.specs.declared.draft.ActDraft.{ActDraft}
use Rattle.bb_bundle.specs.declared.draft.ActDraft.TheVariants as drafts
use Rattle.bb_bundle.specs.declared.draft.Parts.{Parts}
use Rattle.bb_bundle.specs.declared.draft.ReactionDraft.{ReactionDraft}
use Rattle.bb_bundle.specs.declared.draft.SourceDraft.{SourceDraft}
use Rattle.bb_bundle.specs.Spelled.{is_spelled, if_spelled}
use Rattle.bb_compile.specs.Compiled.{class_on, class_of_events, part_of, reaction_of, reaction_if, act_of, header_of, parts_of, draft_of, compiled}
use Rattle.bb_verify_effect.specs.declared.part.Part.{Part}
use Rattle.bb_verify_effect.specs.declared.part.Part.TheVariants.{Require, Obviate, Retrigger, Revalidate, Do}
use Rattle.bb_compile.specs.Parts.{part_code}

spelled_same : (b : Bool) (d e : SourceDraft Code) → (let o : Option (SourceDraft Code) = if b then Some d else None in o) ≡ Some e → d ≡ e
spelled_same true d e h = cc
spelled_same false d e h = absurd cc

-- the draft of a tree with these parts and this act
abbrev whole_of : SourceText → Parts Code → ActDraft Code → SourceDraft Code
whole_of text parts act = record { header = header_of text; parts = parts; act = act }

class_ok : (schema : Schema) (name : List ℕ) (on : Place) (c : ℕ) → class_on schema name on ≡ Ok c → class_named schema name ≡ Some c
class_ok schema name on c h = ok_or_ok (At Unknown on) (class_named schema name) c h

module _ (schema : Schema) where
  -- ---- a part that a source may have

  abbrev pub IsMade : Part → Option PartText → Option Code → Type 0
  IsMade part None None = Unit {0}
  IsMade part (Some text) (Some code) = part_code schema part text.place text.block ≡ Ok code
  IsMade part _ _ = ⊥

  part_made : (part : Part) (o : Option PartText) (code : Option Code) → part_of schema part o ≡ Ok code → IsMade part o code
  part_made part None code h = subst (IsMade part None) (same_ok None code h) tt
  part_made part (Some text) code h =
      let one = bind_ok (part_code schema part text.place text.block) (λ c. Ok (Some c)) code h in
      subst (IsMade part (Some text)) (same_ok (Some one.0) code one.2) one.1

  -- ---- a reaction that a source may have

  pub record IsMadeFor (part : (of : ℕ) → Part) (text : ReactionText) (r : ReactionDraft Code) : Type 0 where
    pub of : ℕ
    pub named : class_named schema text.class ≡ Some of
    pub class : r.class ≡ text.class
    pub clauses : r.clauses ≡ text.clauses
    pub code : part_code schema (part of) text.place text.block ≡ Ok r.code

  abbrev pub IsMadeReaction : ((of : ℕ) → Part) → Option ReactionText → Option (ReactionDraft Code) → Type 0
  IsMadeReaction part None None = Unit {0}
  IsMadeReaction part (Some text) (Some r) = IsMadeFor part text r
  IsMadeReaction part _ _ = ⊥

  events_ok : (text : ReactionText) (of : ℕ) → class_of_events schema text ≡ Ok of → class_named schema text.class ≡ Some of
  events_ok text of h = by_end (block_ends text.block) h
    where
      by_end : (b : Bool) → (let r : Result ℕ CompileFault = if b then class_on schema text.class text.on else Err (At NoEnd text.place) in r) ≡ Ok of → class_named schema text.class ≡ Some of
      by_end true h = class_ok schema text.class text.on of h
      by_end false h = absurd cc

  reaction_made : (part : (of : ℕ) → Part) (o : Option ReactionText) (r : Option (ReactionDraft Code)) → reaction_if schema part o ≡ Ok r → IsMadeReaction part o r
  unfolding reaction_of
  reaction_made part None r h = subst (IsMadeReaction part None) (same_ok None r h) tt
  reaction_made part (Some text) r h =
      let one = bind_ok (class_of_events schema text) (λ of. reaction_of schema (part of) text >>= λ x. Ok (Some x)) r h in
      let two = bind_ok (reaction_of schema (part one.0) text) (λ x. Ok (Some x)) r one.2 in
      let three = bind_ok (part_code schema (part one.0) text.place text.block) (λ code. Ok (record { class = text.class; clauses = text.clauses; code = code })) two.0 two.1 in
      let made : ReactionDraft Code = record { class = text.class; clauses = text.clauses; code = three.0 } in
      let own : IsMadeFor part text made = record { of = one.0; named = events_ok text one.0 one.1; class = refl; clauses = refl; code = three.1 } in
      subst (IsMadeReaction part (Some text)) (same_ok (Some two.0) r two.2) (subst (IsMadeFor part text) (same_ok made two.0 three.2) own)

  -- ---- the act

  abbrev pub IsMadeAct : (class : ℕ) → ActText → ActDraft Code → Type 0
  IsMadeAct class acts.Native drafts.Native = Unit {0}
  IsMadeAct class (acts.Do text) (drafts.Do code) = part_code schema (Do class) text.place text.block ≡ Ok code
  IsMadeAct class _ _ = ⊥

  act_made : (class : ℕ) (text : ActText) (act : ActDraft Code) → act_of schema class text ≡ Ok act → IsMadeAct class text act
  act_made class acts.Native act h = subst (IsMadeAct class acts.Native) (same_ok drafts.Native act h) tt
  act_made class (acts.Do text) act h =
      let one = bind_ok (part_code schema (Do class) text.place text.block) (λ code. Ok (drafts.Do code)) act h in
      subst (IsMadeAct class (acts.Do text)) (same_ok (drafts.Do one.0) act one.2) one.1

  -- ---- the parts besides the act, one after another

  record PartsMade (c : ℕ) (p : PartTexts) (parts : Parts Code) : Type 0 where
    require : IsMade (Require c) p.require parts.require
    obviate : IsMadeReaction (Obviate c) p.obviate parts.obviate
    retrigger : IsMadeReaction (Retrigger c) p.retrigger parts.retrigger
    revalidate : IsMade (Revalidate c) p.revalidate parts.revalidate

  parts_made : (c : ℕ) (p : PartTexts) (parts : Parts Code) → parts_of schema c p ≡ Ok parts → PartsMade c p parts
  unfolding parts_of
  parts_made c p parts h =
      let require = part_of schema (Require c) p.require in
      let obviate = reaction_if schema (Obviate c) p.obviate in
      let retrigger = reaction_if schema (Retrigger c) p.retrigger in
      let revalidate = part_of schema (Revalidate c) p.revalidate in
      let whole : Option Code → Option (ReactionDraft Code) → Option (ReactionDraft Code) → Option Code → Parts Code =
      λ r o t v. record { require = r; obviate = o; retrigger = t; revalidate = v } in
      let a = bind_ok require (λ r. obviate >>= λ o. retrigger >>= λ t. revalidate >>= λ v. Ok (whole r o t v)) parts h in
      let b = bind_ok obviate (λ o. retrigger >>= λ t. revalidate >>= λ v. Ok (whole a.0 o t v)) parts a.2 in
      let d = bind_ok retrigger (λ t. revalidate >>= λ v. Ok (whole a.0 b.0 t v)) parts b.2 in
      let e = bind_ok revalidate (λ v. Ok (whole a.0 b.0 d.0 v)) parts d.2 in
      subst (PartsMade c p) {x = whole a.0 b.0 d.0 e.0} (same_ok (whole a.0 b.0 d.0 e.0) parts e.2) (record {
        require = part_made (Require c) p.require a.0 a.1;
        obviate = reaction_made (Obviate c) p.obviate b.0 b.1;
        retrigger = reaction_made (Retrigger c) p.retrigger d.0 d.1;
        revalidate = part_made (Revalidate c) p.revalidate e.0 e.1;
      })

  -- ---- the whole

  pub record SourceMade (text : SourceText) (draft : SourceDraft Code) : Type 0 where
    pub header : draft.header ≡ header_of text
    pub of : ℕ
    pub named : class_named schema text.header.class ≡ Some of
    pub require : IsMade (Require of) text.parts.require draft.parts.require
    pub obviate : IsMadeReaction (Obviate of) text.parts.obviate draft.parts.obviate
    pub retrigger : IsMadeReaction (Retrigger of) text.parts.retrigger draft.parts.retrigger
    pub revalidate : IsMade (Revalidate of) text.parts.revalidate draft.parts.revalidate
    pub act : IsMadeAct of text.act draft.act

  pub source_made : (text : SourceText) (draft : SourceDraft Code) → compiled schema text ≡ Ok draft → SourceMade text draft
  unfolding compiled draft_of
  source_made text draft h =
      let made = bind_ok (draft_of schema text) (λ d. ok_or (if_spelled d) (At Unknown text.header.on)) draft h in
      let spelled : made.0 ≡ draft = spelled_same (is_spelled made.0) made.0 draft (ok_or_ok (At Unknown text.header.on) (if_spelled made.0) draft made.2) in
      let whole : Parts Code → ActDraft Code → SourceDraft Code = whole_of text in
      let class = bind_ok (class_on schema text.header.class text.header.on) (λ c. parts_of schema c text.parts >>= λ parts. act_of schema c text.act >>= λ act. Ok (whole parts act)) made.0 made.1 in
      let parts = bind_ok (parts_of schema class.0 text.parts) (λ parts. act_of schema class.0 text.act >>= λ act. Ok (whole parts act)) made.0 class.2 in
      let act = bind_ok (act_of schema class.0 text.act) (λ act. Ok (whole parts.0 act)) made.0 parts.2 in
      let p = parts_made class.0 text.parts parts.0 parts.1 in
      subst (SourceMade text) (same_ok (whole parts.0 act.0) made.0 act.2 ∙ spelled)
      (record {
        header = refl;
        of = class.0;
        named = class_ok schema text.header.class text.header.on class.0 class.1;
        require = p.require;
        obviate = p.obviate;
        retrigger = p.retrigger;
        revalidate = p.revalidate;
        act = act_made class.0 text.act act.0 act.1;
      })
