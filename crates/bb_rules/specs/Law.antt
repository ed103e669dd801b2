-- The laws of every source, and of every source made under a schema.
use Rattle.std.specs.Prelude.{◌≡◌, ℕ, true, All, Option, Some, Ok}
use Rattle.bb_schema.specs.Schema.{Schema, descends}
use Rattle.bb_verify.specs.Accepted.{Checked, IsSound, checked}
use Rattle.bb_verify.specs.PartType.{Part}
use Rattle.bb_verify.specs.PartType.TheVariants as parts
use Rattle.bb_bundle.specs.declared.draft.ActDraft.TheVariants as drafts
use Rattle.bb_bundle.specs.declared.draft.ReactionDraft.{ReactionDraft}
use Rattle.bb_bundle.specs.declared.draft.SourceDraft.{SourceDraft}
use Rattle.bb_rules.specs.declared.clause.Clause.{Clause}
use Rattle.bb_rules.specs.declared.clause.Clause.TheVariants as clauses
use Rattle.bb_rules.specs.declared.source.Act.TheVariants as acts
use Rattle.bb_rules.specs.declared.source.Reaction.{Reaction}
use Rattle.bb_rules.specs.Parts.{Source}
use Rattle.bb_rules.specs.Questions.{IsQuestion}

-- the class of a clause descends from this one
abbrev pub IsWithin : Schema → ℕ → Clause → Type 0
IsWithin s class (clauses.Change kind changed) = descends s changed class ≡ true
IsWithin s class clauses.Quiescence = Unit {0}

-- a code, if there is one, was accepted for this part
abbrev pub IsPart : Part → Option Checked → Type 0
IsPart part code = (c : Checked) → code ≡ Some c → c.part ≡ part

-- a reaction, if there is one, has clauses of its class, and a code for this part of that class
pub record Reacts (s : Schema) (part : ℕ → Part) (reaction : Option Reaction) : Type 0 where
  pub clauses : (r : Reaction) → reaction ≡ Some r → All (IsWithin s r.class) r.clauses
  pub code : (r : Reaction) → reaction ≡ Some r → r.code.part ≡ part r.class

pub record IsOf (s : Schema) (source : Source) : Type 0 where
  -- the classes of the events that trigger it descend from its own
  pub triggers : All (IsWithin s source.class) source.triggers
  -- each code was accepted for its part and these classes
  pub require : IsPart (parts.Require source.class) source.require
  pub obviate : Reacts s (parts.Obviate source.class) source.obviate
  pub retrigger : Reacts s (parts.Retrigger source.class) source.retrigger
  pub revalidate : IsPart (parts.Revalidate source.class) source.revalidate
  pub act : (c : Checked) → source.act ≡ acts.Code c → c.part ≡ parts.Do source.class

-- ---- under any schema

-- each code of a source was accepted, and the codes it asks may not write
pub record HasSoundCodes (source : Source) : Type 0 where
  pub require : (c : Checked) → source.require ≡ Some c → IsQuestion c
  pub obviate : (r : Reaction) → source.obviate ≡ Some r → IsQuestion r.code
  pub retrigger : (r : Reaction) → source.retrigger ≡ Some r → IsQuestion r.code
  pub revalidate : (c : Checked) → source.revalidate ≡ Some c → IsQuestion c
  pub act : (c : Checked) → source.act ≡ acts.Code c → IsSound c

-- ---- codes that were accepted under the schema

-- the verifier accepts the code for its part, with these frames
abbrev pub IsAccepted : Schema → Checked → Type 0
IsAccepted s c = checked s c.part c.code ≡ Ok c

-- all codes of a draft were accepted
pub record AreAccepted (s : Schema) (draft : SourceDraft Checked) : Type 0 where
  pub require : (c : Checked) → draft.parts.require ≡ Some c → IsAccepted s c
  pub obviate : (r : ReactionDraft Checked) → draft.parts.obviate ≡ Some r → IsAccepted s r.code
  pub retrigger : (r : ReactionDraft Checked) → draft.parts.retrigger ≡ Some r → IsAccepted s r.code
  pub revalidate : (c : Checked) → draft.parts.revalidate ≡ Some c → IsAccepted s c
  pub act : (c : Checked) → draft.act ≡ drafts.Do c → IsAccepted s c

-- a source made of codes that were accepted
pub record IsMade (s : Schema) (source : Source) : Type 0 where
  pub law : IsOf s source
  pub require : (c : Checked) → source.require ≡ Some c → IsAccepted s c
  pub obviate : (r : Reaction) → source.obviate ≡ Some r → IsAccepted s r.code
  pub retrigger : (r : Reaction) → source.retrigger ≡ Some r → IsAccepted s r.code
  pub revalidate : (c : Checked) → source.revalidate ≡ Some c → IsAccepted s c
  pub act : (c : Checked) → source.act ≡ acts.Code c → IsAccepted s c
