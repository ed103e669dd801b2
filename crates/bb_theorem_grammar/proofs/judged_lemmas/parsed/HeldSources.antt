-- The numbers and the text constants of sources that stand in a text.
use Rattle.std.proofs.Common.{◌≡◌, ℕ, true, ◌&&◌, List, Option, refl}
use Rattle.std.specs.List.{list_all}
use Rattle.std.proofs.lemmas.Bool.{and_from}
use Rattle.bb_lang_tree.specs.State.{State}
use Rattle.bb_lang_tree.specs.declared.source_text.ActText.{ActText}
use Rattle.bb_lang_tree.specs.declared.source_text.PartText.{PartText}
use Rattle.bb_lang_tree.specs.declared.source_text.PartTexts.{PartTexts}
use Rattle.bb_lang_tree.specs.declared.source_text.ReactionText.{ReactionText}
use Rattle.bb_lang_tree.specs.declared.source_text.SourceText.{SourceText}
use Rattle.bb_theorem_grammar.specs.Repeats.{IsOptional, AreMany}
use Rattle.bb_theorem_grammar.specs.Sources.{IsPart, IsReaction, AreParts, IsAct, IsSource}
use Rattle.bb_theorem_grammar.specs.judged.Held.{statements_held, text_held, reaction_held, act_held, source_held}
use Rattle.bb_theorem_grammar.proofs.judged_lemmas.parsed.HeldBlocks.{block_holds}

part_holds : {word : List ℕ} {p : PartText} {s t : State} → IsPart word p s t → statements_held p.block ≡ true
part_holds (IsPart.part k b) = block_holds b

reaction_holds : {word : List ℕ} {r : ReactionText} {s t : State} → IsReaction word r s t → statements_held r.block ≡ true
reaction_holds (IsReaction.reaction k on class cs b) = block_holds b

if_part : {word : List ℕ} {o : Option PartText} {s t : State} → IsOptional (IsPart word) o s t → text_held o ≡ true
if_part IsOptional.missing = refl
if_part (IsOptional.there d) = part_holds d

if_reaction : {word : List ℕ} {o : Option ReactionText} {s t : State} → IsOptional (IsReaction word) o s t → reaction_held o ≡ true
if_reaction IsOptional.missing = refl
if_reaction (IsOptional.there d) = reaction_holds d

act_holds : {a : ActText} {s t : State} → IsAct a s t → act_held a ≡ true
act_holds (IsAct.acts d) = part_holds d
act_holds (IsAct.native k c) = refl

parts_hold : {ps : PartTexts} {s t : State} (act : ActText) → AreParts ps s t → act_held act ≡ true
    → (text_held ps.require && (reaction_held ps.obviate && (reaction_held ps.retrigger && (text_held ps.revalidate && act_held act)))) ≡ true
parts_hold act (AreParts.parts {a = a} {d = d} {b = b} {c = c} one two three four) last =
    let with_four = text_held d && act_held act in
    let with_three = reaction_held c && with_four in
    and_from (text_held a) (reaction_held b && with_three) (if_part one)
    (and_from (reaction_held b) with_three (if_reaction two)
    (and_from (reaction_held c) with_four (if_reaction three) (and_from (text_held d) (act_held act) (if_part four) last)))

source_holds : {x : SourceText} {s t : State} → IsSource x s t → source_held x ≡ true
source_holds (IsSource.source {a = act} head opens cs rate ps does closes) = parts_hold act ps (act_holds does)

pub sources_hold : {xs : List SourceText} {s t : State} → AreMany IsSource xs s t → list_all source_held xs ≡ true
sources_hold AreMany.no_item = refl
sources_hold (AreMany.items {x = x} {xs = xs} d ds) =
    and_from (source_held x) (list_all source_held xs) (source_holds d) (sources_hold ds)
