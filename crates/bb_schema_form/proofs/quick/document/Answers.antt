use Rattle.std.proofs.Common.{◌≡◌, true, rules}
use Rattle.std.specs.List.{list_all}
use Rattle.bb_schema_form.proofs.DocumentLemmas.{among, document_made}
use Rattle.bb_schema_form.proofs.quick.document.Goals as goal

pub returns : goal.returns
returns c =
    let keys : list_all (λ m. among m.0.now) c.as_slice-members.result.now ≡ true = search rules in
    rw c.in-Object.is (document_made c.in-Object.members c.as_slice-members.result.now (record { units = c.in_ok-units.units; links = c.in_ok-links.links; spaces = c.in_ok-spaces.spaces }) c.as_slice-members.ensures.value keys c.in_ok-units.ensures c.in_ok-links.ensures c.in_ok-spaces.ensures)
