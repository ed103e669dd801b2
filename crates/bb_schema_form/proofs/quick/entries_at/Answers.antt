use Rattle.std.proofs.Common.{◌≡◌, true, false, map, rules}
use Rattle.std.specs.Str.{bytes_eq}
use Rattle.bb_schema_form.specs.Places.{list_key}
use Rattle.bb_schema_form.specs.Quick.{entries_of}
use Rattle.bb_schema_form.proofs.QuickLemmas.{listed_past, listed_next, listed_end}
use Rattle.bb_schema_form.proofs.quick.entries_at.Goals as goal

pub loop-member-preserved-then-ne : goal.loop-member-preserved-then-ne
loop-member-preserved-then-ne g c =
    let l = c.loop-member in
    let list = c.args.list in
    let other : bytes_eq c.member-item.result.0.now (list_key list) ≡ false = search rules in
    listed_past (list_key list) (entries_of list g.E.Entry.form) (map g.E.Entry.declared l.found.items) c.args.members.now l.member-index c.member-item.result _ c.loop-member-test.true c.member-item.is other l.invariant

pub loop-member-preserved : goal.loop-member-preserved
loop-member-preserved g c =
    let l = c.loop-member in
    let list = c.args.list in
    let same : bytes_eq c.member-item.result.0.now (list_key list) ≡ true = search rules in
    rw c.replace.ensures.after
    (listed_next (list_key list) (entries_of list g.E.Entry.form) (map g.E.Entry.declared l.found.items) (map g.E.Entry.declared c.in_ok-next.next.items) c.args.members.now l.member-index c.member-item.result _ c.loop-member-test.true c.member-item.is same c.in_ok-next.ensures l.invariant)

pub returns : goal.returns
returns g c =
    let l = c.loop-member in
    listed_end (list_key c.args.list) (entries_of c.args.list g.E.Entry.form) (map g.E.Entry.declared l.found.items) c.args.members.now l.member-index _ c.loop-member-test.false l.invariant
