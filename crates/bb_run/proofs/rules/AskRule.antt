-- What holds of the asks of a native, applied in order, where it holds of each.
use Rattle.std.proofs.Common.{◌≡◌, ℕ, ◌+◌, List, [], ◌∷◌, None, Result, Ok, Err, refl}
use Rattle.std.specs.Prelude.{All, Contains}
use Rattle.std.proofs.lemmas.List.Elements.{All-contains_itself, All-head, All-tail}
use Rattle.bb_trace.specs.Applied.{applied}
use Rattle.bb_trace.specs.Ask.{Ask}
use Rattle.bb_trace.specs.Board.{Board as Blackboard}
use Rattle.bb_trace.specs.Denial.{Denial}
use Rattle.bb_trace.specs.Denial.TheVariants as denials
use Rattle.bb_trace.specs.Refusal.{Refusal}
use Rattle.bb_trace.specs.End as finishes
use Rattle.bb_trace.specs.declared.note.Note.TheVariants.{Refused}
use Rattle.bb_run.specs.State.{State, with_board}
use Rattle.bb_run.specs.Emission.{Response, emitting, idle, over, and_then_unless}
use Rattle.bb_run.specs.Run.{each_applied, noted, upon_ask}

module _ (asks : List Ask) (Holds : State → Response → Type 0) where
  -- a property holds of what comes of each ask, and of responses one after another
  pub record HoldsOfAsks : Type 0 where
    pub nothing : (s : State) → Holds s (idle s)
    pub changed : (s : State) (ask : Ask) (board : Blackboard) → applied ask s.board ≡ Ok board → Holds s (noted (with_board s board) [] None)
    pub refused : (s : State) (number : ℕ) (refusal : Refusal) → Holds s (emitting (Refused number refusal ∷ []) s None)
    pub full : (s : State) (ask : Ask) → Contains asks ask → applied ask s.board ≡ Err denials.Full → Holds s (over finishes.Full s)
    pub no_memory : (s : State) (ask : Ask) → applied ask s.board ≡ Err denials.Memory → Holds s (over finishes.Full s)
    pub further : (s : State) (r : Response) (next : State → Response) → Holds s r → Holds r.state (next r.state) → Holds s (and_then_unless r.end r next)

  module _ (parts : HoldsOfAsks) where
    upon : (s : State) (number : ℕ) (ask : Ask) (r : Result Blackboard Denial) → Contains asks ask → applied ask s.board ≡ r → Holds s (upon_ask number r s)
    upon s number ask (Ok board) there is = parts.changed s ask board is
    upon s number ask (Err (denials.Refused refusal)) there is = parts.refused s number refusal
    upon s number ask (Err denials.Full) there is = parts.full s ask there is
    upon s number ask (Err denials.Memory) there is = parts.no_memory s ask is

    each : (number : ℕ) (list : List Ask) (s : State) → All (Contains asks) list → Holds s (each_applied number list s)
    unfolding each_applied
    each number [] s all = parts.nothing s
    each number (ask ∷ more) s all =
        let r = upon_ask number (applied ask s.board) s in
        parts.further s r (each_applied (number + 1) more) (upon s number ask (applied ask s.board) (All-head (Contains asks) ask more all) refl) (each (number + 1) more r.state (All-tail (Contains asks) ask more all))

    pub asks_hold : (s : State) → Holds s (each_applied 1 asks s)
    asks_hold s = each 1 asks s (All-contains_itself asks)
