-- What is left after blocks and branches: the names with what they hold are those of the judgement.
use Rattle.std.proofs.Common.{◌≡◌, ℕ, Bool, true, false, cond, Option, Some, None, Ok, refl, subst, sym, ap, ◌∙◌}
use Rattle.bb_code.specs.declared.op.Op.TheVariants as ops
use Rattle.bb_compile_scope.specs.Place.{Place}
use Rattle.bb_compile_scope.specs.Scope.{mark_of}
use Rattle.bb_compile_scope.specs.declared.scope.Scope.{Scope}
use Rattle.bb_compile_buffer.specs.declared.buffer.Buffer.{Buffer}
use Rattle.bb_compile_buffer.specs.Buffers.{put, aim, labelled, with_kinds, leave, met}
use Rattle.bb_compile.specs.declared.exits.Exits.{Exits}
use Rattle.bb_compile.specs.Bindings.{second_aimed, exits_aimed}
use Rattle.bb_compile.specs.Statements.{jumped, else_begun, else_ended, if_ended}
use Rattle.bb_theorem_grammar.specs.judged.Names.{Names, names_met, joined}
use Rattle.bb_theorem_grammar.specs.judged.Names as judged
use Rattle.bb_theorem_grammar.proofs.judged_lemmas.scopes.HoldLemmas.{Holds, Keeps, holds_then, put_keeps}
use Rattle.bb_theorem_grammar.proofs.judged_lemmas.scopes.MoveLemmas.{Moves}
use Rattle.bb_theorem_grammar.proofs.judged_lemmas.scopes.NameLemmas.{names_of}
use Rattle.bb_theorem_grammar.proofs.judged_lemmas.scopes.ScopeLemmas.{Tidy, Onto, Levels, onto_level, level_left, names_left, level_twice, names_twice, level_met, names_both}

-- a buffer without a flaw, with the names of a scope, which hold this
pub record Levelled (place : Place) (scope : Scope) (names : Names) (t : Buffer) : Type 0 where
  pub begun : t.start ≡ place
  pub clean : t.flaw ≡ None
  pub level : Levels scope t.scope
  pub named : names_of t.scope ≡ names

-- what a statement leaves: whether it ends, and its names
abbrev pub Leaves : Place → Scope → Names → (ends : Bool) → Bool × Buffer → Type 0
Leaves place scope names ends p = (p.0 ≡ ends) × Moves place scope names None p.1

module _ (place : Place) (scope : Scope) (tidy : Tidy scope) where
  pub level_moves : (names : Names) (t : Buffer) → Levelled place scope names t → Moves place scope names None t
  level_moves names t l = record { begun = l.begun; flawed = l.clean; onto = onto_level scope t.scope l.level tidy; named = l.named }

  -- ---- after a block

  pub block_left : (names : Names) (sc : Scope) (t : Buffer) → sc ≡ scope → Moves place scope names None t → Levelled place scope (judged.back_to (names_of scope) names) (leave (mark_of sc) t)
  block_left names sc t same m =
      subst (λ (c : Scope). Levelled place scope (judged.back_to (names_of scope) names) (leave (mark_of c) t)) (sym same) (record {
        begun = m.begun;
        clean = m.flawed;
        level = level_left scope t.scope m.onto;
        named = names_left scope t.scope tidy m.onto ∙ ap (judged.back_to (names_of scope)) m.named;
      })

  pub twice_left : (inner : Scope) (names : Names) (t : Buffer) → Onto scope inner → Moves place inner names None t → Levelled place scope (judged.back_to (names_of scope) names) (leave (mark_of scope) (leave (mark_of inner) t))
  twice_left inner names t onto m = record {
    begun = m.begun;
    clean = m.flawed;
    level = level_twice scope inner t.scope onto m.onto;
    named = names_twice scope inner t.scope tidy onto m.onto ∙ ap (judged.back_to (names_of scope)) m.named;
  }

  -- ---- where branches meet

  pub met_levels : (b : Scope) (one other : Names) (ended other_ended : Bool) (s : Buffer) → Levels scope b → names_of b ≡ other → Levelled place scope one s → Levelled place scope (joined ended other other_ended one) (met ended b.kinds other_ended s)
  unfolding met
  met_levels b one other true other_ended s level named l = record {
    begun = l.begun;
    clean = l.clean;
    level = record { names = l.level.names; free = level.free; count = level.count };
    named = ap (λ ns. names_of (record { names = ns; kinds = b.kinds })) (l.level.names ∙ sym level.names) ∙ named;
  }
  met_levels b one other false true s level named l = l
  met_levels b one other false false s level named l = record {
    begun = l.begun;
    clean = l.clean;
    level = level_met scope b s.scope level l.level;
    named = names_both scope b s.scope level l.level ∙ (ap (λ n. names_met n (names_of s.scope)) named ∙ ap (names_met other) l.named);
  }

  -- a label, and ops that are aimed
  label_levels : (names : Names) (s : Buffer) → Levelled place scope names s → Levelled place scope names (labelled s)
  unfolding labelled
  label_levels names s l = record { begun = l.begun; clean = l.clean; level = l.level; named = l.named }

  aim_levels : (names : Names) (at : ℕ) (s : Buffer) → Levelled place scope names s → Levelled place scope names (aim at s)
  aim_levels names at s l = record { begun = l.begun; clean = l.clean; level = l.level; named = l.named }

  exits_levels : (names : Names) (exits : Exits) (s : Buffer) → Levelled place scope names s → Levelled place scope names (exits_aimed exits s)
  exits_levels names exits s l = by_second exits.second
    where
      by_second : (o : Option ℕ) → Levelled place scope names (second_aimed o (aim exits.first s))
      by_second None = aim_levels names exits.first s l
      by_second (Some at) = aim_levels names at (aim exits.first s) (aim_levels names exits.first s l)

  same_levels : Levels scope scope
  same_levels = record { names = refl; free = λ i. refl; count = refl }

  -- no `else`
  pub absent_levels : (one : Names) (ended : Bool) (exits : Exits) (s : Buffer) → Levelled place scope one s
      → Levelled place scope (joined ended (names_of scope) false one) (if_ended (record { before = mark_of scope; exits = exits; ended = ended }) s)
  unfolding if_ended
  absent_levels one ended exits s l =
      label_levels (joined ended (names_of scope) false one) (met ended scope.kinds false (exits_aimed exits s))
      (met_levels scope one (names_of scope) ended false (exits_aimed exits s) same_levels refl (exits_levels one exits s l))

  -- the block of `else` begins with the names from before
  pub else_keeps : (one : Names) (ended : Bool) (exits : Exits) (s : Buffer) → Levelled place scope one s
      → Holds (λ (p : ℕ × Buffer). Keeps scope place None p.1) place (else_begun (record { before = mark_of scope; exits = exits; ended = ended }) s)
  unfolding else_begun labelled
  else_keeps one ended exits s l =
      holds_then place (Keeps s.scope place None) (λ (p : ℕ × Buffer). Keeps scope place None p.1) (jumped (record { before = mark_of scope; exits = exits; ended = ended }) s) _ (by_end ended)
      (λ t kept. by_second exits.second t kept)
    where
      by_end : (b : Bool) → Holds (Keeps s.scope place None) place (cond b (Ok s) (put (ops.Jump 0) s))
      by_end true = record { same = refl; begun = l.begun; flawed = l.clean }
      by_end false = put_keeps s.scope place (ops.Jump 0) s None (record { same = refl; begun = l.begun; flawed = l.clean })

      by_second : (o : Option ℕ) (t : Buffer) → Keeps s.scope place None t → Keeps scope place None (labelled (with_kinds scope.kinds (second_aimed o (aim exits.first t))))
      by_second None t kept = record {
        same = ap (λ ns. record { names = ns; kinds = scope.kinds }) (ap (λ (c : Scope). c.names) kept.same ∙ l.level.names);
        begun = kept.begun;
        flawed = kept.flawed;
      }
      by_second (Some at) t kept = record {
        same = ap (λ ns. record { names = ns; kinds = scope.kinds }) (ap (λ (c : Scope). c.names) kept.same ∙ l.level.names);
        begun = kept.begun;
        flawed = kept.flawed;
      }

  -- both blocks have been gone through
  pub else_levels : (b : Scope) (one other : Names) (ended : Bool) (exits : Exits) (jump : ℕ) (last : Bool) (s : Buffer) → Levels scope b → names_of b ≡ other → Levelled place scope one s
      → Levelled place scope (joined last other ended one) (else_ended (record { before = mark_of scope; exits = exits; ended = ended }) jump b.kinds last s)
  unfolding else_ended
  else_levels b one other true exits jump last s level named l = met_levels b one other last true s level named l
  else_levels b one other false exits jump last s level named l =
      label_levels (joined last other false one) (aim jump (met last b.kinds false s))
      (aim_levels (joined last other false one) jump (met last b.kinds false s) (met_levels b one other last false s level named l))
