-- The number of the limit. Definitions and code go by the same constant, so here it is said once.
use Rattle.std.proofs.Common.{◌≡◌, refl}
use Rattle.bb_lang_tree.specs.declared.literals.TheConstants.{TEXT_LIMIT}

-- bytes of a text constant
pub text_limit : TEXT_LIMIT ≡ 65535
text_limit = refl
