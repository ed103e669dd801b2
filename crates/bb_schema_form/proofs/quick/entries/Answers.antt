use Rattle.std.proofs.Common.{◌≡◌, Ok, IfSome, map, sym, subst}
use Rattle.std.proofs.lemmas.Option.{IfSome_then}
use Rattle.json.specs.Value.{value_view}
use Rattle.bb_schema_form.specs.Quick.{entry_of, entries_of}
use Rattle.bb_schema_form.proofs.QuickLemmas.{entries_made}
use Rattle.bb_schema_form.proofs.quick.entries.Goals as goal

pub returns : goal.returns
returns g c =
    let r = c.each_entry.result in
    let form = g.E.Entry.form in
    let declared = g.E.Entry.declared in
    let list = c.args.list in
    let each = subst (λ vs. IfSome r (λ es. map (entry_of form) vs ≡ map (λ e. Ok (declared e)) es.items)) c.as_slice.ensures.value c.each_entry.ensures in
    subst (λ v. IfSome r (λ es. entries_of list form (value_view v) ≡ Ok (map declared es.items))) (sym c.in-Array.is)
    (IfSome_then r each (λ es h. entries_made list form declared c.in-Array.values es.items h))
