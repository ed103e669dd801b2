use Rattle.std.proofs.Common.{arith}
use Rattle.bb_lang_tree.proofs.parser.Parser.advance.Goals as goal

pub after-place-requires-clause-line : goal.after-place-requires-clause-line
after-place-requires-clause-line c = omega (arith, c.self.invariant.line, c.after-behind.ensures.line, c.split_at.ensures.front_len, c.blank_len.ensures.within)

pub after-place-requires-clause-column : goal.after-place-requires-clause-column
after-place-requires-clause-column c = omega (arith, c.self.invariant.column, c.after-behind.ensures.column, c.split_at.ensures.front_len, c.blank_len.ensures.within)

pub invariant_of-self : goal.invariant_of-self
invariant_of-self c = record {
  line = omega (arith, c.self.invariant.line, c.after-behind.ensures.line, c.after-place.ensures.line, c.split_at.ensures.front_len, c.split_at.ensures.back_len, c.blank_len.ensures.within, c.split_at-2.ensures.front_len, c.split_at-2.ensures.back_len);
  column = omega (arith, c.self.invariant.column, c.after-behind.ensures.column, c.after-place.ensures.column, c.split_at.ensures.front_len, c.split_at.ensures.back_len, c.blank_len.ensures.within, c.split_at-2.ensures.front_len, c.split_at-2.ensures.back_len);
}
