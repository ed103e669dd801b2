use Rattle.std.proofs.Common.{Ok, Err}
use Rattle.bb_board_document.proofs.CountLemmas.{searched_place}
use Rattle.bb_board_document.proofs.listing.lower.Goals as goal

pub returns-in-Ok-clause-count : goal.returns-in-Ok-clause-count
returns-in-Ok-clause-count c = searched_place c.args.live.now c.args.unit (Ok c.in-Ok.place) c.requires c.in-Ok.ensures.position

pub returns-in-Err-clause-count : goal.returns-in-Err-clause-count
returns-in-Err-clause-count c = searched_place c.args.live.now c.args.unit (Err c.in-Err.place) c.requires c.in-Err.ensures.position
