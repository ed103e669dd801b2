use Rattle.serde_json.specs.View.{view}
use Rattle.bb_schema_form.proofs.DefaultLemmas.{read_sound}
use Rattle.bb_schema_form.proofs.document.Document.read.Goals as goal

pub returns-clause-sound : goal.returns-clause-sound
returns-clause-sound c = read_sound (view c.in_ok-value.value) c.document.result c.document.ensures
