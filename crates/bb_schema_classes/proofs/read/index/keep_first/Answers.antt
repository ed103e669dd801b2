use Rattle.std.proofs.Common.{sym}
use Rattle.bb_schema_classes.proofs.IndexLemmas.{indexed_twice, indexed_new}
use Rattle.bb_schema_classes.proofs.read.index.keep_first.Goals as goal

pub returns-then-contains_key : goal.returns-then-contains_key
returns-then-contains_key c = λ texts end index. indexed_twice c.args.places.now texts c.args.name.now (sym c.if-contains_key.ensures) index

pub returns : goal.returns
returns c = λ texts end index. indexed_new c.args.places.now c.insert.new.self texts c.args.place c.args.name.now c.in_ok-insert.ensures.updates (sym c.if-contains_key.ensures) end index
