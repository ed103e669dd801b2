-- What a whole command line comes to.
use Rattle.std.specs.Prelude.{ℕ, Bool, List, Option, Result, Ok, Err}
use Rattle.std.specs.Bool.{OnFalse, OnTrue}
use Rattle.bb_main_options.specs.Answers.{Answers}
use Rattle.bb_main_options.specs.declared.choice.Options.{Options}
use Rattle.bb_main_options.specs.declared.fault.OptionsFault.{OptionsFault}
use Rattle.bb_main.specs.Natives.{program_natives}
use Rattle.bb_main.specs.Serve.{Delivers, Serves, fault_answer, read_refusal}

-- the input is served by the options that words choose, and one that can't be read is refused; words that choose none
-- are answered by their text
abbrev pub Comes : Result Options OptionsFault → (unread : Bool) → (read taken given : Option (List ℕ)) → (status : ℕ) → Type 0
Comes (Ok o) unread read taken given status =
    OnFalse unread (Serves program_natives o.mode o.limit o.floor read taken given status)
    × OnTrue unread (Delivers read_refusal taken given status)
Comes (Err fault) unread read taken given status = Delivers (fault_answer fault) taken given status

-- the words after the program's name choose options, or none, and the answer is what that comes to
abbrev pub Obeys : (words : List (List ℕ)) → (unread : Bool) → (read taken given : Option (List ℕ)) → (status : ℕ) → Type 0
Obeys words unread read taken given status =
    (chosen : Result Options OptionsFault) × Answers words chosen × Comes chosen unread read taken given status
