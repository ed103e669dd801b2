-- What the locals of a code hold, indexed by local.
use Rattle.std.specs.Prelude.{ℕ, Bool, true, false, List, [], ◌∷◌, replicate, slice_get, unwrap_or, if◌then◌else◌}
use Rattle.bb_code.specs.declared.frame.Kind.{Kind}
use Rattle.bb_code.specs.declared.frame.Kind.TheVariants.{Any}
use Rattle.bb_code.specs.declared.parts.TheConstants.{LOCAL_LIMIT}
use Rattle.bb_compile_scope.specs.Kinds.{is_live}

-- the local is free
abbrev pub is_free : Kind → Bool
is_free Any = true
is_free _ = false

-- all locals are free
abbrev pub all_free : List Kind
all_free = replicate LOCAL_LIMIT Any

-- what a local holds
abbrev pub kind_at : List Kind → ℕ → Kind
kind_at kinds local = unwrap_or (slice_get kinds local) Any

-- f applied to two lists of kinds, local by local
unfoldable pub paired : (Kind → Kind → Kind) → List Kind → List Kind → List Kind
paired f (k ∷ ks) (l ∷ ls) = f k l ∷ paired f ks ls
paired f _ _ = []

-- after a block a local is free again if it was free before the block
abbrev pub left_kind : (before now : Kind) → Kind
left_kind before now = if is_free before then Any else now

abbrev pub kinds_left : (before now : List Kind) → List Kind
kinds_left before now = paired left_kind before now

-- where two branches meet, a unit is live if it is live after both
abbrev pub met_kind : (other one : Kind) → Kind
met_kind other one = if is_live one then other else one

abbrev pub kinds_met : (other one : List Kind) → List Kind
kinds_met other one = paired met_kind other one
