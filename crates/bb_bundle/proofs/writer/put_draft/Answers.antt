use Rattle.std.proofs.Common.{◌≡◌, ◌++◌, map, ap, ◌∙◌, string_bytes}
use Rattle.std.proofs.lemmas.Result.{on_ok_weaker}
use Rattle.bb_bundle.specs.Written.{clause_words, text_of}
use Rattle.bb_bundle.proofs.WrittenLemmas.{all_put}
use Rattle.bb_bundle.proofs.writer.put_draft.Goals as goal

pub returns-clause-written : goal.returns-clause-written
returns-clause-written c =
    let clauses : string_bytes c.put_clauses.new.out ≡ string_bytes c.put_header.new.out ++ text_of (map clause_words c.args.source.now.header.triggers) =
    c.in_ok-put_clauses.ensures ∙ ap (λ cs. string_bytes c.put_header.new.out ++ text_of (map clause_words cs)) c.as_slice.ensures in
    on_ok_weaker c.put_act.result
    (all_put c.args.source.now (string_bytes c.args.out.now) (string_bytes c.put_header.new.out) (string_bytes c.put_clauses.new.out) (string_bytes c.put_code.new.out)
    (string_bytes c.put_reaction.new.out) (string_bytes c.put_reaction-2.new.out) (string_bytes c.put_code-2.new.out) (string_bytes c.put_act.new.out)
    c.in_ok-put_header.ensures.written clauses c.in_ok-put_code.ensures.written c.in_ok-put_reaction.ensures.written c.in_ok-put_reaction-2.ensures.written c.in_ok-put_code-2.ensures.written)
    c.put_act.ensures.written
