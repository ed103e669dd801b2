-- The state of a blackboard at a time, as the code keeps it.
use Rattle.bb_board.specs.declared.state.State.{State}

-- definitions call it a world: units, their links, the members of spaces, and the notes not yet taken. Three parts
-- repeat what the schema and the units say, for speed: `units.layout`, `links.ends`, and the values in `spaces`, which
-- are the present ones of the members. `Fits` states that they agree.
abbrev pub World : Type 0
World = State
