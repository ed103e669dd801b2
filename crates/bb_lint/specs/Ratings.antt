-- Sources whose activations are never chosen, as long as no unit is a focus.
use Rattle.std.specs.Prelude.{ℤ, Bool, true, false, not, ◌&&◌, int_lt, List, is_some}
use Rattle.std.specs.List.{list_any}
use Rattle.bb_schema.specs.Schema.{Schema, descends}
use Rattle.bb_code.specs.declared.op.Op.{Op}
use Rattle.bb_code.specs.declared.op.Op.TheVariants as ops
use Rattle.bb_rules.specs.declared.source.Act.{Act}
use Rattle.bb_rules.specs.declared.source.Act.TheVariants as acts
use Rattle.bb_rules.specs.Parts.{Source}

-- the op creates a focus: a unit of class 0, or of one below it
abbrev pub makes_focus : Schema → Op → Bool
makes_focus s (ops.New class) = descends s class 0
makes_focus s _ = false

-- the act of a source may create a focus; its other parts create nothing
abbrev pub may_make_focus : Schema → Act → Bool
may_make_focus s (acts.Code c) = list_any (makes_focus s) c.code.ops
may_make_focus s acts.Native = true

-- one of the sources may create a focus
abbrev pub any_makes_focus : Schema → List Source → Bool
any_makes_focus s sources = list_any (λ source. may_make_focus s source.act) sources

-- every activation of the source has the source's rate as its base, and this is below the floor
abbrev pub starts_below : ℤ → Source → Bool
starts_below floor source = not (is_some source.require) && not (is_some source.retrigger) && int_lt source.rate floor

-- no source may create a focus, so every activation of the source stays below the floor
abbrev pub stays_below : Bool → ℤ → Source → Bool
stays_below raised floor source = not raised && starts_below floor source
