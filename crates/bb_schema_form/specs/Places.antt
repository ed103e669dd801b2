-- Where in a document a fault is.
use Rattle.std.specs.Prelude.{ℕ, List, codes}
use Rattle.bb_schema_form.specs.declared.place.ListKey.{ListKey}
use Rattle.bb_schema_form.specs.declared.place.DocumentPlace.{DocumentPlace}
use Rattle.bb_schema_form.specs.declared.place.ListKey.TheVariants.{Labels, Values, Classes, Slots, Links, Spaces, Dims, Units}
use Rattle.bb_schema_form.specs.declared.place.DocumentPlace.TheVariants.{Whole, Entry, Inner}

-- the place of an entry, seen from the value that lists the entry; entries are nested at most two deep
abbrev pub inside_place : ListKey → ℕ → DocumentPlace → DocumentPlace
inside_place list index Whole = Entry (record { list = list; index = index })
inside_place list index (Entry inner) = Inner (record { list = list; index = index }) inner
inside_place list index (Inner inner deeper) = Inner (record { list = list; index = index }) inner

-- the key of a list, as in documents
abbrev pub list_key : ListKey → List ℕ
list_key Labels = codes "labels"
list_key Values = codes "values"
list_key Classes = codes "classes"
list_key Slots = codes "slots"
list_key Links = codes "links"
list_key Spaces = codes "spaces"
list_key Dims = codes "dims"
list_key Units = codes "units"
