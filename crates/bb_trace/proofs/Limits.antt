-- The number of the limit. Definitions and code go by the same constant, so here it is said once.
use Rattle.std.proofs.Common.{◌≡◌, refl}
use Rattle.bb_trace.specs.declared.page.TheConstants.{PAGE_LIMIT}

-- bytes of a page
pub page_limit : PAGE_LIMIT ≡ 65536
page_limit = refl
