-- What a call answers that gives what is read of a text.
use Rattle.std.proofs.Common.{◌≡◌, ◌⊎◌, inl, inr, ℕ, List, Result, Ok, Err, sym, ◌∙◌}
use Rattle.std.specs.Prelude.{IfOk, IfErr}
use Rattle.bb_basis.specs.Results.{Gives}
use Rattle.bb_lang_tree.specs.declared.fault.LangFault.{LangFault}
use Rattle.bb_lang_tree.specs.declared.fault.LangFault.TheVariants.{Memory}
use Rattle.bb_lang_tree.specs.declared.source_text.SourceText.{SourceText}
use Rattle.bb_lang.specs.Sources.{sources_of}
use Rattle.bb_theorem_grammar.specs.Sources.{IsFile}
use Rattle.bb_theorem_grammar.proofs.SourceLemmas.{file_read}
use Rattle.bb_theorem_grammar.proofs.FoundSources.{file_found}

-- a text with a fault has no trees
pub no_trees : (text : List ℕ) (e : LangFault) → sources_of text ≡ Err e → (trees : List SourceText) → IsFile text trees → ⊥
no_trees text e h trees f = let both : (let r : Result (List SourceText) LangFault = Err e in r) ≡ Ok trees = sym h ∙ file_found text trees f in absurd cc

module _ {A : Type 0} (view : A → List SourceText) (text : List ℕ) where
  pub trees_given : (r : Result A LangFault) → Gives Memory view r (sources_of text) → IfOk r (λ v. IsFile text (view v))
  trees_given (Ok v) h = (file_read text (view v) h).0
  trees_given (Err e) h = tt

  pub trees_refused : (r : Result A LangFault) → Gives Memory view r (sources_of text) → IfErr r (λ e. (e ≡ Memory) ⊎ ((trees : List SourceText) → IsFile text trees → ⊥))
  trees_refused (Ok v) h = tt
  trees_refused (Err e) (inl memory) = inl memory
  trees_refused (Err e) (inr fault) = inr (no_trees text e fault)
