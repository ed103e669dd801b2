use Rattle.bb_lint_parts.proofs.widths.digits.Given as goal

abbrev pub decreases-loop-left : goal.decreases-loop-left
decreases-loop-left l = l.left
