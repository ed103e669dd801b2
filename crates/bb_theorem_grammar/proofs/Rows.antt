-- Worked texts: their reading is computed, and the grammar gives them what was read.
use Rattle.std.proofs.Common.{◌≡◌, refl, subst, ℕ, List, [], ◌∷◌, None, Ok, codes}
use Rattle.std.specs.Prelude.{pos, negsuc}
use Rattle.bb_basis.specs.Results.{◌>>=◌}
use Rattle.bb_basis.proofs.ResultLemmas.{bind_ok, same_ok}
use Rattle.bb_lang_tree.specs.declared.source_text.ActText.TheVariants.{Do, Native}
use Rattle.bb_lang_tree.specs.declared.source_text.ClauseText.TheVariants.{Change, Quiescence}
use Rattle.bb_lang_tree.specs.declared.source_text.ChangeText.TheVariants.{Update}
use Rattle.bb_lang_tree.specs.declared.block.Action.TheVariants as actions
use Rattle.bb_lang_tree.specs.Blocks.{no_statement, before_others, action}
use Rattle.bb_lang.specs.Statements.{action_of, let_of, say_of, plain, statement_in, next_statement, block}
use Rattle.bb_lang_tree.specs.declared.source_text.SourceText.{SourceText}
use Rattle.bb_lang_tree.specs.declared.atom.Atom.TheVariants as atoms
use Rattle.bb_lang_tree.specs.declared.atom.Variable.TheVariants.{It, Named}
use Rattle.bb_lang_tree.specs.declared.atom.Operator.TheVariants.{Plus, Times}
use Rattle.bb_lang_tree.specs.Trees.{ExprTree, atom, chain, no_step, apply}
use Rattle.bb_lang.specs.Repeats.{more_after, repeated, as_many, next_item, items}
use Rattle.bb_lang.specs.Expressions.{variable_at, variable, label_or_variable, named, atom_of, unary_at, binary_at, comparison_at, operator_at, division_at, step_by, step, chain_of, applied, factor, term, sum, compared, comparison, conjunction, expr_in, inside, expr}
use Rattle.bb_lang.specs.Sources.{slot_event, change_event, part, event, clause, next_clause, clauses, part_if, reaction_if, parts, act, source_word, source_name, header, rating, source, next_source, sources_of}
use Rattle.bb_lang_tree.specs.declared.fault.LangFault.TheVariants.{Token, Twice}
use Rattle.bb_lang_tree.specs.Literals.{number_at, number, int}
use Rattle.bb_lang_tree.specs.State.{State, before, at_token, next, skip}
use Rattle.bb_lang_tree.specs.Tokens.{blank_len, token_at}
use Rattle.bb_lang_tree.specs.Words.{is_reserved, member_at, name_at, member, name, declared}
use Rattle.bb_basis.specs.Names.{is_name}
use Rattle.bb_theorem_grammar.specs.Tokens.{Next}
use Rattle.bb_theorem_grammar.specs.Expressions.{IsExpr}
use Rattle.bb_theorem_grammar.specs.Sources.{IsFile}
use Rattle.bb_theorem_grammar.proofs.SoundLemmas.{next_is}
use Rattle.bb_theorem_grammar.proofs.ActionLemmas.{expr_read}
use Rattle.bb_theorem_grammar.proofs.SourceLemmas.{file_read}
use Rattle.bb_theorem_grammar.proofs.GrammarLemmas.{no_trees}

-- no source
abbrev nothing : List ℕ
nothing = codes "  // no source yet\n"

nothing_read : sources_of nothing ≡ Ok []
unfolding sources_of as_many repeated more_after next_source next at_token blank_len token_at
nothing_read = refl

nothing_given : IsFile nothing []
nothing_given = (file_read nothing [] nothing_read).0

-- a source by a native
abbrev smallest : List ℕ
smallest = codes "source a on b { when quiescence; rate -1; native; }"

abbrev smallest_tree : SourceText
smallest_tree = record {
  header = record { name = codes "a"; on = record { line = 1; column = 10 }; class = codes "b" };
  clauses = Quiescence ∷ [];
  rate = negsuc 0;
  parts = record { require = None; obviate = None; retrigger = None; revalidate = None };
  act = Native;
}

smallest_read : sources_of smallest ≡ Ok (smallest_tree ∷ [])
unfolding sources_of as_many repeated more_after next_source source header source_word source_name rating clauses clause next_clause event parts part_if reaction_if act name member name_at member_at is_reserved is_name int number number_at skip next at_token blank_len token_at
smallest_read = refl

smallest_given : IsFile smallest (smallest_tree ∷ [])
smallest_given = (file_read smallest (smallest_tree ∷ []) smallest_read).0

-- a source with a block, in which a name is declared
abbrev acting : List ℕ
acting = codes "source a on b { when update b.c; rate 2; do { let x = it.c; say x, x; } }"

abbrev acting_tree : SourceText
acting_tree = record {
  header = record { name = codes "a"; on = record { line = 1; column = 10 }; class = codes "b" };
  clauses = Change (Update (codes "c")) (codes "b") ∷ [];
  rate = pos 2;
  parts = record { require = None; obviate = None; retrigger = None; revalidate = None };
  act = Do (record {
    place = record { line = 1; column = 42 };
    block = before_others (record { line = 1; column = 47 }) (action (actions.Let (codes "x") (atom (atoms.Slot It (codes "c")))))
        (before_others (record { line = 1; column = 61 }) (action (actions.Say (atom (atoms.Variable (Named (codes "x"))) ∷ atom (atoms.Variable (Named (codes "x"))) ∷ []))) no_statement);
  });
}

acting_read : sources_of acting ≡ Ok (acting_tree ∷ [])
unfolding sources_of as_many repeated more_after next_item items next_source source header source_word source_name rating clauses clause next_clause event slot_event change_event parts part_if part reaction_if act block next_statement statement_in plain action_of let_of say_of expr_in conjunction comparison sum term factor chain_of step step_by operator_at division_at unary_at binary_at comparison_at compared applied atom_of named variable variable_at label_or_variable inside name member declared name_at member_at is_reserved is_name int number number_at skip next at_token blank_len token_at
acting_read = refl

acting_given : IsFile acting (acting_tree ∷ [])
acting_given = (file_read acting (acting_tree ∷ []) acting_read).0

-- an expression at the front of a text, where one bracket is open
abbrev Begins : List ℕ → ExprTree → Type 0
Begins text e = (s t : State) × Next (before text) s × IsExpr 1 e s t

begins : (text : List ℕ) (e : ExprTree) → (next (before text) >>= λ s. expr 63 s >>= λ p. Ok p.0) ≡ Ok e → Begins text e
begins text e h =
    let one = bind_ok (next (before text)) (λ s. expr 63 s >>= λ p. Ok p.0) e h in
    let two = bind_ok (expr 63 one.0) (λ p. Ok p.0) e one.2 in
    (one.0, two.0.1, next_is (before text) one.0 one.1, subst (λ x. IsExpr 1 x one.0 two.0.1) (same_ok two.0.0 e two.2) ((expr_read 1 63 refl one.0 (next_is (before text) one.0 one.1).is_token).holds two.0.0 two.0.1 two.1))

-- what binds more stands deeper
abbrev sum_first : ExprTree
sum_first = chain (atom (atoms.Int (pos 1))) (apply Plus (chain (atom (atoms.Variable (Named (codes "x")))) (apply Times (atom (atoms.Int (pos 2))) no_step)) no_step)

sum_first_given : Begins (codes "1 + x * 2;") sum_first
unfolding next at_token blank_len token_at expr_in conjunction comparison sum term factor chain_of step step_by operator_at division_at unary_at binary_at comparison_at compared applied atom_of named variable variable_at label_or_variable as_many repeated more_after name name_at member_at is_reserved is_name int number number_at inside
sum_first_given = begins (codes "1 + x * 2;") sum_first refl

-- ---- what the grammar does not give

-- a text that stops within a source
stops_early : (trees : List SourceText) → IsFile (codes "source a on") trees → ⊥
unfolding sources_of as_many repeated more_after next_source source header source_word source_name name member name_at member_at is_reserved is_name skip next at_token blank_len token_at
stops_early = no_trees (codes "source a on") (Token (record { line = 1; column = 12 })) refl

-- a source of a reserved name
reserved_name : (trees : List SourceText) → IsFile (codes "source when on b { when quiescence; rate 1; native; }") trees → ⊥
unfolding sources_of as_many repeated more_after next_source source header source_word source_name name_at is_reserved skip next at_token blank_len token_at
reserved_name = no_trees (codes "source when on b { when quiescence; rate 1; native; }") (Token (record { line = 1; column = 8 })) refl

-- a second source of one name
same_name_twice : (trees : List SourceText) → IsFile (codes "source a on b { when quiescence; rate 1; native; } source a on b { when quiescence; rate 1; native; }") trees → ⊥
unfolding sources_of as_many repeated more_after next_source source header source_word source_name rating clauses clause next_clause event parts part_if reaction_if act name member name_at member_at is_reserved is_name int number number_at skip next at_token blank_len token_at
same_name_twice = no_trees (codes "source a on b { when quiescence; rate 1; native; } source a on b { when quiescence; rate 1; native; }") (Twice (record { line = 1; column = 59 })) refl
