-- What a call returns that compiles a text, by the laws of what is compiled and refused.
use Rattle.std.proofs.Common.{◌≡◌, ◌⊎◌, inl, inr, [], Ok, Err, subst}
use Rattle.bb_code.specs.Code.{Code}
use Rattle.bb_schema.specs.Schema.{Schema}
use Rattle.bb_lang.specs.SourceText.{SourceText}
use Rattle.bb_bundle.specs.declared.draft.SourceDraft.{SourceDraft}
use Rattle.bb_compile.specs.Compiled.{compiled}
use Rattle.bb_compile_scope.specs.declared.fault.CompileFault.{CompileFault}
use Rattle.bb_compile_scope.specs.declared.fault.CompileFault.TheVariants.{Memory}
use Rattle.bb_theorem_grammar.specs.judged.Judgement.{IsFirst}
use Rattle.bb_theorem_grammar.specs.judged.Sources.{source_faults, extents, AreJudged, IsTooLarge}

module _ (schema : Schema) (text : SourceText) (judged : AreJudged (extents schema text) (source_faults schema text) (compiled schema text)) where
  pub has_no_fault : (draft : SourceDraft Code) → compiled schema text ≡ Ok draft → source_faults schema text ≡ []
  has_no_fault draft is = subst (AreJudged {X = SourceDraft Code} (extents schema text) (source_faults schema text)) is judged

  pub has_fault : (fault : CompileFault) → (fault ≡ Memory) ⊎ (compiled schema text ≡ Err fault) → (fault ≡ Memory) ⊎ (IsFirst fault (source_faults schema text) ⊎ IsTooLarge fault (extents schema text))
  has_fault fault (inl memory) = inl memory
  has_fault fault (inr is) = inr (subst (AreJudged {X = SourceDraft Code} (extents schema text) (source_faults schema text)) is judged)
