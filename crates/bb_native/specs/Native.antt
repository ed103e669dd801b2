-- The meaning of a native: a name, the integers that it holds, whether it is open, and three functions.
use Rattle.std.specs.Prelude.{ℕ, ℤ, Bool, List}
use Rattle.bb_native.specs.declared.ask.Ask.{Ask}
use Rattle.bb_native.specs.Sight.{Sight}

pub record Native : Type 0 where
  pub name : List ℕ
  pub held : List ℤ
  pub is_open : Bool
  -- its asks, from what it holds, a unit and what it sees
  pub asks : List ℤ → ℕ → Sight → List Ask
  -- what it holds next, from the same
  pub next : List ℤ → ℕ → Sight → List ℤ
  -- the number that it says when it is closed, from what it holds
  pub closing : List ℤ → ℤ

-- the asks of a native that is called now
abbrev pub asks_of : Native → (unit : ℕ) → Sight → List Ask
asks_of n unit seen = n.asks n.held unit seen

-- a native after a call, with what it then holds
abbrev pub after_act : Native → (unit : ℕ) → Sight → Native
after_act n unit seen = record n { held = n.next n.held unit seen }

-- the number that a native says if it is closed now
abbrev pub closing_of : Native → ℤ
closing_of n = n.closing n.held
