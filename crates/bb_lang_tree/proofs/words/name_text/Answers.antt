use Rattle.std.proofs.Common.{◌∙◌}
use Rattle.std.proofs.lemmas.Result.{IfOk-weaker}
use Rattle.bb_lang_tree.proofs.WordLemmas.{name_utf8}
use Rattle.bb_lang_tree.proofs.words.name_text.Goals as goal

pub returns : goal.returns
returns c = IfOk-weaker c.new.result _ _ (λ text h. h ∙ c.in_ok-from_utf8_lossy.ensures.ok (name_utf8 c.args.bytes.now c.requires)) c.new.ensures
