-- What `options` returns for the words of a command line.
use Rattle.std.specs.Prelude.{◌≡◌, ◌≢◌, ◌⊎◌, Bool, true, false, List, [], Result, IfOk, IfErr}
use Rattle.std.specs.Borrow.{Bor}
use Rattle.clap.specs.Walk.{Text}
use Rattle.clap.specs.Simple.{App, matches_of}
use Rattle.clap.specs.Takes.{takes}
use Rattle.clap.specs.Faults.{fault_of}
use Rattle.clap.specs.Kinds.{IsAmong}
use Rattle.clap.specs.Values.{kind_of}
use Rattle.clap.specs.declared.builder.possible_value.PossibleValue.{PossibleValue}
use Rattle.clap.specs.declared.builder.value_parser.ValueParser.TheVariants.{Values}
use Rattle.clap.specs.declared.error.Error.{Error}
use Rattle.clap.specs.declared.error.kind.ErrorKind.{ErrorKind}
use Rattle.clap.specs.declared.error.kind.ErrorKind.TheVariants.{DisplayHelp, DisplayVersion, OutOfMemory}
use Rattle.bb_main_options.specs.declared.choice.Options.{Options}
use Rattle.bb_main_options.specs.declared.fault.OptionsFault.{OptionsFault}
use Rattle.bb_main_options.specs.declared.fault.OptionsFault.TheVariants.{Help, Words, Memory}
use Rattle.bb_main_options.specs.CommandLine.{command_with, mode_names, names_in, options_in}

-- the words request help or the version
abbrev pub is_request : ErrorKind → Bool
is_request DisplayHelp = true
is_request DisplayVersion = true
is_request _ = false

-- the fault belongs to this kind of error
abbrev pub Tells : OptionsFault → ErrorKind → Type 0
Tells (Help text) kind = is_request kind ≡ true
Tells (Words text) kind = is_request kind ≡ false
Tells Memory kind = ⊥

-- the fault that an error of clap becomes
abbrev pub IsRefusal : Error → OptionsFault → Type 0
IsRefusal error fault = (fault ≡ Memory) ⊎ ((kind_of error ≢ OutOfMemory) × Tells fault (kind_of error))

-- what is returned for words, given a command
pub record AnswersBy (command : App) (words : List Text) (result : Result Options OptionsFault) : Type 0 where
  -- the options are those of clap's matches, and clap finds no fault in the words
  pub given : IfOk result (λ o. o ≡ options_in (matches_of command words))
  pub faultless : IfOk result (λ o. fault_of command words ≡ [])
  -- words accepted by clap are refused only if memory runs out; any other refusal has a kind of fault that clap finds
  pub taken : takes command words ≡ true → IfErr result (λ e. e ≡ Memory)
  pub refused : IfErr result (λ e. (e ≡ Memory) ⊎ ((k : ErrorKind) × IsAmong k (fault_of command words) × Tells e k))

-- what is returned for words, by the command with the modes
abbrev pub Answers : List Text → Result Options OptionsFault → Type 0
Answers words result =
    (modes : Bor (List PossibleValue)) × (names_in modes.now ≡ mode_names)
    × AnswersBy (command_with (Values modes)) words result
