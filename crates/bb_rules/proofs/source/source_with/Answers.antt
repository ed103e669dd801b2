use Rattle.bb_rules.proofs.LawLemmas.{obviate_reads, require_reads, retrigger_reads, revalidate_reads}
use Rattle.bb_rules.proofs.source.source_with.Goals as goal

pub question_of-requires : goal.question_of-requires
question_of-requires c = rw c.take.ensures.value (require_reads c.args.found.classes c.args.draft c.requires)

pub reaction_with-requires : goal.reaction_with-requires
reaction_with-requires c = rw c.take-2.ensures.value (obviate_reads c.args.found.classes c.args.draft c.requires)

pub reaction_with-requires-2 : goal.reaction_with-requires-2
reaction_with-requires-2 c = rw c.take-3.ensures.value (retrigger_reads c.args.found.classes c.args.draft c.requires)

pub question_of-requires-2 : goal.question_of-requires-2
question_of-requires-2 c = rw c.take-4.ensures.value (revalidate_reads c.args.found.classes c.args.draft c.requires)
