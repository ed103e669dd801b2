-- What is answered to words, by what clap promises of its matches and its errors.
use Rattle.std.proofs.Common.{◌≡◌, ◌⊎◌, ◌∙◌, ap, refl, true, List, [], inl, inr, subst, Ok, Err}
use Rattle.clap.specs.Walk.{Text, rows_of}
use Rattle.clap.specs.Matches.{found_of}
use Rattle.clap.specs.Simple.{App, HasMatchesOf, is_simple}
use Rattle.clap.specs.Faults.{fault_of, is_simple_and_free}
use Rattle.clap.specs.Kinds.{HasKind, IsAmong}
use Rattle.clap.specs.Takes.{takes}
use Rattle.clap.specs.Values.{kind_of}
use Rattle.clap.specs.declared.builder.value_parser.ValueParser.{ValueParser}
use Rattle.clap.specs.declared.error.Error.{Error}
use Rattle.clap.specs.declared.error.kind.ErrorKind.{ErrorKind}
use Rattle.clap.specs.declared.error.kind.ErrorKind.TheVariants.{OutOfMemory}
use Rattle.clap.specs.declared.parser.matches.ArgMatches.{ArgMatches}
use Rattle.bb_main_options.specs.declared.choice.Options.{Options}
use Rattle.bb_main_options.specs.declared.fault.OptionsFault.{OptionsFault}
use Rattle.bb_main_options.specs.declared.fault.OptionsFault.TheVariants.{Memory}
use Rattle.bb_main_options.specs.CommandLine.{command_with, options_in}
use Rattle.bb_main_options.specs.Answers.{AnswersBy, IsRefusal, Tells}

-- clap's promises are exact for such commands
simple : (modes : ValueParser) → is_simple (command_with modes) ≡ true
simple modes = refl

simple_and_free : (modes : ValueParser) → is_simple_and_free (command_with modes) ≡ true
simple_and_free modes = refl

module _ (command : App) (modes : ValueParser) (words : List Text) (is : command ≡ command_with modes) where
  pub answers_matches : (m : ArgMatches) (o : Options) → HasMatchesOf command words m
      → (is_simple_and_free command ≡ true → fault_of command words ≡ []) → o ≡ options_in (rows_of (found_of m))
      → AnswersBy (command_with modes) words (Ok o)
  answers_matches m o has none chosen =
      let matches = subst (λ c. HasMatchesOf c words m) is has (simple modes) in
      let no_fault = subst (λ c. is_simple_and_free c ≡ true → fault_of c words ≡ []) is none (simple_and_free modes) in
      record {
        given = chosen ∙ ap options_in matches.0;
        faultless = no_fault;
        taken = λ _. tt;
        refused = tt;
      }

  refused_for : (e : Error) (f : OptionsFault) → HasKind (fault_of (command_with modes) words) e → IsRefusal e f
      → (f ≡ Memory) ⊎ ((k : ErrorKind) × IsAmong k (fault_of (command_with modes) words) × Tells f k)
  refused_for e f kind (inl memory) = inl memory
  refused_for e f (inl no_memory) (inr told) = absurd (told.0 no_memory)
  refused_for e f (inr among) (inr told) = inr (kind_of e, among, told.1)

  memory_for : (e : Error) (f : OptionsFault) → kind_of e ≡ OutOfMemory → IsRefusal e f → f ≡ Memory
  memory_for e f no_memory (inl memory) = memory
  memory_for e f no_memory (inr told) = absurd (told.0 no_memory)

  pub answers_error : (e : Error) (f : OptionsFault) → (takes command words ≡ true → kind_of e ≡ OutOfMemory)
      → (is_simple_and_free command ≡ true → HasKind (fault_of command words) e) → IsRefusal e f
      → AnswersBy (command_with modes) words (Err f)
  answers_error e f passes kinds refusal =
      let kind = subst (λ c. is_simple_and_free c ≡ true → HasKind (fault_of c words) e) is kinds (simple_and_free modes) in
      record {
        given = tt;
        faultless = tt;
        taken = λ t. memory_for e f (subst (λ c. takes c words ≡ true → kind_of e ≡ OutOfMemory) is passes t) refusal;
        refused = refused_for e f kind refusal;
      }
