-- The kinds of slots: what they can hold.
use Rattle.bb_schema_classes.specs.declared.kind.Kind.{Kind}
use Rattle.bb_schema_classes.specs.declared.kind.Kind.TheVariants as kinds
use Rattle.bb_schema_classes.specs.Kinds.{kind_of_value}
use Rattle.bb_schema.specs.declared.slot.Content.{Content}
use Rattle.bb_schema.specs.declared.slot.Content.TheVariants.{Default, Link}

-- the kind of a slot: the kind of its default, or its link
abbrev pub kind_of : Content → Kind
kind_of (Default value) = kind_of_value value
kind_of (Link link) = kinds.Link link
