-- What `bb_serve` returns: the answer of the program to these bytes, without natives.
use Rattle.std.specs.Prelude.{◌≡◌, ◌==◌, ◌<◌, ◌⊎◌, ℕ, ℤ, List, [], length, Option, Some, None, if◌then◌else◌}
use Rattle.bb_main.specs.Mode.{Mode}
use Rattle.bb_main.specs.Mode.TheVariants as modes
use Rattle.bb_main.specs.Serve.{CutShort, Delivers, answer, text_of}

abbrev pub mode_of : ℕ → Option Mode
mode_of number =
    if number == 0 then Some modes.Run
    else if number == 1 then Some modes.Check
    else if number == 2 then Some modes.Compile
    else if number == 3 then Some modes.Units
    else None

-- the answer to some bytes is delivered, or cut short if memory ran out; status 2 for a number that is not a mode
abbrev pub IsServed : Option Mode → (limit : ℕ) → (floor : ℤ) → (input given : List ℕ) → (status : ℕ) → Type 0
IsServed None limit floor input given status = (status ≡ 2) × (given ≡ [])
IsServed (Some mode) limit floor input given status =
    Delivers (answer [] input mode limit floor) (Some []) (Some given) status
    ⊎ CutShort (answer [] input mode limit floor) (Some []) (Some given) status

-- the whole answer to some bytes is longer than the buffer
abbrev pub IsLonger : Option Mode → (limit : ℕ) → (floor : ℤ) → (input : List ℕ) → (room : ℕ) → Type 0
IsLonger None limit floor input room = ⊥
IsLonger (Some mode) limit floor input room = room < length (text_of (answer [] input mode limit floor).pieces)
