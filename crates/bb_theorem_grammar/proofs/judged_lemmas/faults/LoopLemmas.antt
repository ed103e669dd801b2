-- The head and the end of a loop: the names with what they hold are those of the judgement.
use Rattle.std.proofs.Common.{◌≡◌, ℕ, ◌+◌, Bool, true, false, cond, List, [], ◌∷◌, ◌++◌, length, Option, Some, None, Ok, Err, refl, subst, sym, ap, ◌∙◌}
use Rattle.std.specs.Prelude.{nat_le, ◌==◌, max, set, take, position}
use Rattle.std.specs.Option.{ok_or}
use Rattle.std.proofs.Math.Seq.{take-append_seam}
use Rattle.bb_basis.specs.Results.{◌>>=◌}
use Rattle.bb_code.specs.declared.parts.TheConstants.{STACK_LIMIT, LOOP_LIMIT}
use Rattle.bb_code.specs.declared.frame.Kind.TheVariants as kinds
use Rattle.bb_code.specs.declared.op.Op.TheVariants as ops
use Rattle.bb_schema.specs.Schema.{Schema}
use Rattle.bb_lang.specs.Blocks.{BlockTree}
use Rattle.bb_lang.specs.Sequence.{Sequence}
use Rattle.bb_lang.specs.View.{sequence_of}
use Rattle.bb_compile_scope.specs.Killed.{killed_under}
use Rattle.bb_compile_scope.specs.LocalKinds.{is_free}
use Rattle.bb_compile_scope.specs.Place.{Place}
use Rattle.bb_compile_scope.specs.Scope.{mark_of}
use Rattle.bb_compile_scope.specs.declared.fault.CompileFault.TheVariants.{At}
use Rattle.bb_compile_scope.specs.declared.fault.TextFlaw.{TextFlaw}
use Rattle.bb_compile_scope.specs.declared.fault.TextFlaw.TheVariants.{Unknown, Limit}
use Rattle.bb_compile_scope.specs.declared.scope.Mark.{Mark}
use Rattle.bb_compile_scope.specs.declared.scope.Scope.{Scope}
use Rattle.bb_compile_buffer.specs.declared.buffer.Buffer.{Buffer}
use Rattle.bb_compile_buffer.specs.Buffers.{put, begun_loop, labelled, with_kinds, leave, taken, take_local, declare}
use Rattle.bb_compile.specs.declared.looping.Begun.{Begun}
use Rattle.bb_compile.specs.Expressions.{sequence_code}
use Rattle.bb_compile.specs.Statements.{loop_noted, for_code, loop_begun, at_back, loop_ended}
use Rattle.bb_theorem_grammar.specs.judged.Expressions.{sequence_class, sequence_flaws}
use Rattle.bb_theorem_grammar.specs.judged.Flaws.{least, if_so, fault_if}
use Rattle.bb_theorem_grammar.specs.judged.Names.{with_named, holding}
use Rattle.bb_theorem_grammar.proofs.judged_lemmas.faults.AgreeLemmas.{Agrees, holds_agrees, holds_clean, settle, least_was}
use Rattle.bb_theorem_grammar.proofs.judged_lemmas.faults.BindLemmas.{There, sequence_there}
use Rattle.bb_theorem_grammar.proofs.judged_lemmas.faults.ExprLemmas.{sequence_judged}
use Rattle.bb_theorem_grammar.proofs.judged_lemmas.scopes.HoldLemmas.{least_on, Holds, Keeps, noted_if, holds_then, Made, put_keeps}
use Rattle.bb_theorem_grammar.proofs.judged_lemmas.scopes.MoveLemmas.{Moves, declare_moves}
use Rattle.bb_theorem_grammar.proofs.judged_lemmas.scopes.NameLemmas.{names_of}
use Rattle.bb_theorem_grammar.proofs.judged_lemmas.scopes.ScopeLemmas.{Tidy, Onto, names_put, onto_holding, names_holding}

module _ (schema : Schema) (place : Place) (scope : Scope) (tidy : Tidy scope) where
  -- ---- the sequence takes a local

  sequence_moves : (class : ℕ) (s : Buffer) → Keeps scope place None s
      → Holds (λ (p : (ℕ × ℕ) × Buffer). (p.0.0 ≡ class) × Moves place scope (holding (names_of scope)) None p.1) place (take_local (kinds.Seq class) s >>= λ p. put (ops.Store p.0) p.1 >>= λ v. Ok ((class, p.0), v))
  unfolding take_local
  sequence_moves class s k = by_first (position is_free s.scope.kinds) refl
    where
      by_first : (o : Option ℕ) → position is_free s.scope.kinds ≡ o
          → Holds (λ (p : (ℕ × ℕ) × Buffer). (p.0.0 ≡ class) × Moves place scope (holding (names_of scope)) None p.1) place (taken o (kinds.Seq class) s >>= λ p. put (ops.Store p.0) p.1 >>= λ v. Ok ((class, p.0), v))
      by_first None first = ap (At Limit) k.begun
      by_first (Some local) first =
          let free : position is_free scope.kinds ≡ Some local = ap (λ (sc : Scope). position is_free sc.kinds) (sym k.same) ∙ first in
          let b : Scope = record { names = s.scope.names; kinds = set s.scope.kinds local (kinds.Seq class) } in
          let names : b.names ≡ scope.names = ap (λ (sc : Scope). sc.names) k.same in
          let kinds_are : b.kinds ≡ set scope.kinds local (kinds.Seq class) = ap (λ (sc : Scope). set sc.kinds local (kinds.Seq class)) k.same in
          let t : Buffer = record s { scope = b; locals = max s.locals (local + 1) } in
          holds_then place (Keeps b place None) (λ (p : (ℕ × ℕ) × Buffer). (p.0.0 ≡ class) × Moves place scope (holding (names_of scope)) None p.1) (put (ops.Store local) t) _
          (put_keeps b place (ops.Store local) t None (record { same = refl; begun = k.begun; flawed = k.flawed }))
          (λ u kept. (
            refl,
            record {
              begun = kept.begun;
              flawed = kept.flawed;
              onto = subst (Onto scope) (sym kept.same) (onto_holding scope b local (kinds.Seq class) free names kinds_are tidy);
              named = ap names_of kept.same ∙ (names_put b scope.names (set scope.kinds local (kinds.Seq class)) names kinds_are ∙ names_holding scope local (kinds.Seq class) free refl tidy);
            },
          ))

  -- the class of a sequence is known, and a local holds it
  abbrev pub IsFor : Option ℕ → (ℕ × ℕ) × Buffer → Type 0
  IsFor class p = (class ≡ Some p.0.0) × Moves place scope (holding (names_of scope)) None p.1

  pub for_agrees : (sequence : Sequence) (at : Place) (loops : ℕ) (s : Buffer) (seen : Option TextFlaw) → Keeps scope place seen s
      → Agrees place (fault_if at (least seen (sequence_flaws schema (names_of scope) STACK_LIMIT (sequence_of sequence) ++ if_so (loops == 0) Limit)))
      (IsFor (sequence_class schema (names_of scope) (sequence_of sequence))) (for_code schema sequence at loops s)
  unfolding for_code
  for_agrees sequence at loops s seen k =
      let class = sequence_class schema (names_of scope) (sequence_of sequence) in
      let one = sequence_flaws schema (names_of scope) STACK_LIMIT (sequence_of sequence) in
      let deep = if_so (loops == 0) Limit in
      let flaw = least (least seen one) deep in
      subst (λ f. Agrees place (fault_if at f) (IsFor class) (for_code schema sequence at loops s)) (sym (least_on seen one deep))
      (holds_agrees place (fault_if at flaw) (Made scope place class (least seen one)) (IsFor class) (sequence_code schema STACK_LIMIT (sequence_of sequence) s) _
      (sequence_judged schema scope place (sequence_of sequence) STACK_LIMIT s seen k) (λ p made.
      let kept = noted_if scope place (loops == 0) Limit p.1 (least seen one) made.1 in
      settle place at flaw (loop_noted loops p.1) (IsFor class) _ kept.flawed (λ none.
      by_class class p.0 made.0 refl (sequence_there schema (names_of scope) STACK_LIMIT (sequence_of sequence) seen (least_was (least seen one) deep none)) (loop_noted loops p.1)
      (record { same = kept.same; begun = kept.begun; flawed = kept.flawed ∙ none }))))
    where
      by_class : (o found : Option ℕ) → found ≡ o → o ≡ sequence_class schema (names_of scope) (sequence_of sequence) → There o → (t : Buffer) → Keeps scope place None t
          → Agrees place [] (IsFor (sequence_class schema (names_of scope) (sequence_of sequence))) (ok_or found (At Unknown at) >>= λ class. take_local (kinds.Seq class) t >>= λ p. put (ops.Store p.0) p.1 >>= λ v. Ok ((class, p.0), v))
      by_class None found same is there t kept = absurd there
      by_class (Some class) found same is there t kept =
          subst (λ f. Agrees place [] (IsFor (sequence_class schema (names_of scope) (sequence_of sequence))) (ok_or f (At Unknown at) >>= λ class. take_local (kinds.Seq class) t >>= λ p. put (ops.Store p.0) p.1 >>= λ v. Ok ((class, p.0), v))) (sym same)
          (holds_clean place (λ (p : (ℕ × ℕ) × Buffer). (p.0.0 ≡ class) × Moves place scope (holding (names_of scope)) None p.1) (IsFor (sequence_class schema (names_of scope) (sequence_of sequence)))
          (take_local (kinds.Seq class) t >>= λ p. put (ops.Store p.0) p.1 >>= λ v. Ok ((class, p.0), v))
          (λ p made. (sym is ∙ ap Some (sym made.0), made.1)) (sequence_moves class t kept))

-- ---- the head of the loop, and its end

-- a loop begins with this scope, and has a name for its units
abbrev pub IsBegun : Place → Scope → (name : List ℕ) → (class : ℕ) → Begun × Buffer → Type 0
IsBegun place b name class p = (p.0.start ≡ mark_of b) × Moves place b (with_named name (kinds.Ref class) (names_of b)) None p.1

pub begun_holds : (schema : Schema) (place : Place) (name : List ℕ) (class local : ℕ) (body : BlockTree) (s : Buffer) → s.start ≡ place → s.flaw ≡ None → Tidy (killed_under schema s.scope name (Some class) body)
    → Holds (IsBegun place (killed_under schema s.scope name (Some class) body) name class) place (loop_begun schema name class local body s)
unfolding loop_begun labelled begun_loop
begun_holds schema place name class local body s begun clean tidy =
    let t = labelled (record s { scope = b }) in
    holds_then place (λ (p : ℕ × Buffer). Keeps b place None p.1) (IsBegun place b name class) (begun_loop t) _ (by_room (nat_le LOOP_LIMIT (length t.loops)))
    (λ p kept. holds_then place (Keeps b place None) (IsBegun place b name class) (put (ops.Next local 0) p.1) _ (put_keeps b place (ops.Next local 0) p.1 None kept)
    (λ u last. holds_then place (Moves place b (with_named name (kinds.Ref class) (names_of b)) None) (IsBegun place b name class) (declare name (kinds.Ref class) u) _
    (declare_moves place b tidy name (kinds.Ref class) u None refl last) (λ v moves. (ap mark_of kept.same, moves))))
  where
    b : Scope
    b = killed_under schema s.scope name (Some class) body

    by_room : (c : Bool) → Holds (λ (p : ℕ × Buffer). Keeps b place None p.1) place
        (cond c (Err (At Limit s.start)) (Ok (length s.loops, record (labelled (record s { scope = b })) { loops = s.loops ++ record { head = length s.ops; end = length s.ops } ∷ [] })))
    by_room true = ap (At Limit) begun
    by_room false = record { same = refl; begun = begun; flawed = clean }

-- at the end the scope is that of the start
pub ended_holds : (place : Place) (b : Scope) (begun : Begun) (ended : Bool) (s : Buffer) (more : _) → begun.start ≡ mark_of b → s.scope.names ≡ b.names ++ more → s.start ≡ place → s.flaw ≡ None → Holds (Keeps b place None) place (loop_ended begun ended s)
unfolding loop_ended labelled
ended_holds place b begun ended s more start names at clean =
    holds_then place (Keeps b place None) (Keeps b place None) (put (ops.Back begun.head) (at_back begun ended s)) _ (put_keeps b place (ops.Back begun.head) (at_back begun ended s) None (by_end ended))
    (λ t kept. record { same = kept.same; begun = kept.begun; flawed = kept.flawed })
  where
    back : (let c : Scope = record { names = take begun.start.names s.scope.names; kinds = begun.start.kinds } in c) ≡ b
    back =
        ap (λ (m : Mark). record { names = take m.names s.scope.names; kinds = m.kinds }) start
        ∙ ap (λ ns. record { names = ns; kinds = b.kinds }) (ap (take (length b.names)) names ∙ take-append_seam b.names more)

    by_end : (c : Bool) → Keeps b place None (cond c (labelled (with_kinds begun.start.kinds (leave begun.start s))) (with_kinds begun.start.kinds (leave begun.start s)))
    by_end true = record { same = back; begun = at; flawed = clean }
    by_end false = record { same = back; begun = at; flawed = clean }
