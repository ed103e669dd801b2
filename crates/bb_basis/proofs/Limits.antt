-- The numbers of the limits. Definitions and code go by the same constants, so here each is said once.
use Rattle.std.proofs.Common.{◌≡◌, refl}
use Rattle.bb_basis.specs.declared.table.TheConstants.{ITEM_LIMIT}
use Rattle.bb_basis.specs.declared.name.TheConstants.{NAME_LIMIT}

-- items of a table
pub item_limit : ITEM_LIMIT ≡ 65536
item_limit = refl

-- bytes of a name
pub name_limit : NAME_LIMIT ≡ 31
name_limit = refl
