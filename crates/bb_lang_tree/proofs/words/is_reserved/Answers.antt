use Rattle.std.proofs.Common.{lit<, rules, tests}
use Rattle.std.specs.Str.{bytes_eq}
use Rattle.std.proofs.lemmas.Iterator.Search.{any_from_yields_List}
use Rattle.std.proofs.lemmas.Iterator.Splits.{YieldsList-from_str_split}
use Rattle.bb_lang_tree.specs.Words.{is_reserved, reserved_words}
use Rattle.bb_lang_tree.proofs.words.is_reserved.Goals as goal

pub returns : goal.returns
unfolding is_reserved
returns c =
    any_from_yields_List (bytes_eq c.args.word.now) _ _ c.any.result c.any.ensures.ran
    (YieldsList-from_str_split 32 reserved_words (lit< tt) c.split.ensures.text c.split.ensures.has_more c.split.ensures.pattern) (λ x b q k. search (rules, tests))
