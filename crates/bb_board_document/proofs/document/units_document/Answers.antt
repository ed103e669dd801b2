use Rattle.std.proofs.Common.{◌≡◌, ◌≤◌, ◌∙◌, Some, ap, sym, subst, arith, string_bytes}
use Rattle.std.proofs.lemmas.Result.{IfOk-weaker}
use Rattle.serde_json.specs.Data.{depth}
use Rattle.serde_json.specs.Read.{read}
use Rattle.serde_json.specs.View.{view}
use Rattle.bb_schema.specs.Fits as schemas
use Rattle.serde_json.specs.Written.{has_float, compact_text}
use Rattle.bb_board_document.specs.Document.{units_data}
use Rattle.bb_board_document.specs.Loading.{LoadsAs}
use Rattle.bb_board_document.proofs.LoadLemmas.{loads}
use Rattle.bb_board_document.proofs.KeptLemmas.{numbers_kept}
use Rattle.bb_board_document.proofs.ShallowLemmas.{data_shallow}
use Rattle.bb_board_document.proofs.document.units_document.Goals as goal

pub returns : goal.returns
returns c =
    let seen = c.args.view.now in
    let is : view c.in_ok-document.field-0 ≡ units_data seen = c.in_ok-document.ensures ∙ ap units_data c.in_ok-listing.ensures in
    let shallow = data_shallow seen in
    let low = shallow.low in
    let reads = IfOk-weaker c.to_string.result _ (λ text. read (string_bytes text) ≡ Some (units_data seen)) (λ text back. back (subst (λ d. depth d ≤ 127) (sym is) (omega (arith, low))) ∙ ap Some is) c.to_string.ensures.reads_back in
    let schema_fits : schemas.Fits seen.schema = subst (λ s. schemas.Fits s) c.schema.ensures c.fits.ensures in
    record {
      text = IfOk-weaker c.to_string.result _ _ (λ text written. written (ap has_float is ∙ shallow.flat) ∙ ap compact_text is) c.to_string.ensures.text;
      json = reads;
      loads = IfOk-weaker c.to_string.result _ _ (λ text back. loads seen schema_fits c.fits-2.ensures (string_bytes text) back) reads;
      kept = IfOk-weaker c.to_string.result _ _
          (λ text back gapless. subst (LoadsAs seen.schema (string_bytes text)) (numbers_kept seen schema_fits c.fits-2.ensures gapless) (loads seen schema_fits c.fits-2.ensures (string_bytes text) back)) reads;
    }
