use Rattle.std.proofs.Common.{◌≡◌, [], drop, map}
use Rattle.json.specs.Value.{members_view}
use Rattle.bb_schema_form.specs.Places.{list_key}
use Rattle.bb_schema_form.specs.Quick.{entries_of, listed}
use Rattle.bb_schema_form.proofs.quick.entries_at.Given as goal

abbrev pub invariant-loop-member : goal.invariant-loop-member
invariant-loop-member g l =
    listed (list_key l.list) (entries_of l.list g.E.Entry.form) (map g.E.Entry.declared l.found.items) (members_view (drop l.member-index l.members))
    ≡ listed (list_key l.list) (entries_of l.list g.E.Entry.form) [] (members_view l.members)
