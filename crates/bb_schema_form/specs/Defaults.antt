-- Sound defaults: numbers are of 64 bits, and those of an interval in order. The form of a document ensures it.
use Rattle.std.specs.Prelude.{◌&&◌, IsTrue, All, int_le}
use Rattle.bb_schema_form.specs.Numbers.{is_i64}
use Rattle.bb_schema_form.specs.Document.{Declarations, ClassDeclaration, DefaultDeclaration, int_default, text_default}
use Rattle.bb_schema_form.specs.Document.{bool_default, label_default, interval_default}

-- a default whose numbers are of 64 bits; the first number of an interval is not greater than the second
abbrev pub IsSound : DefaultDeclaration → Type 0
IsSound (int_default z) = IsTrue (is_i64 z)
IsSound (text_default t) = Unit {0}
IsSound (bool_default b) = Unit {0}
IsSound (label_default of given) = Unit {0}
IsSound (interval_default low high) = IsTrue (is_i64 low && is_i64 high && int_le low high)

-- the defaults of a class's slots are sound
abbrev pub HasSoundDefaults : ClassDeclaration → Type 0
HasSoundDefaults k = All (λ s. IsSound s.default) k.slots

-- the defaults of all classes are sound
abbrev pub HaveSoundDefaults : Declarations → Type 0
HaveSoundDefaults d = All HasSoundDefaults d.classes
