use Rattle.std.proofs.Common.{◌≡◌, subst}
use Rattle.std.specs.Prelude.{IfOk, option_map, string_bytes}
use Rattle.bb_run_held.specs.Moves.{Move}
use Rattle.bb_c_run.specs.History.{move_of, text_if_told}
use Rattle.bb_c_run.proofs.HistoryLemmas.{told_by}
use Rattle.bb_c_run.proofs.telling.tell.Goals as goal

pub returns-clause-text : goal.returns-clause-text
returns-clause-text c =
    let schema = c.args.schema.now in
    let is = subst (λ (m : Move). IfOk c.history-told.result (λ t. option_map string_bytes t ≡ text_if_told schema m)) c.taken-each.ensures.means c.history-told.ensures.text in
    told_by c.history-told.result (text_if_told schema (move_of c.args.step c.args.asks.now.items)) c.answered.result is c.answered.ensures.text c.answered.ensures.err
