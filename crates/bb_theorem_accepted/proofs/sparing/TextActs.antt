-- What whole texts do to the names in scope, and what they spare, by the compiler's answer alone.
use Rattle.std.proofs.Common.{◌≡◌, ℕ, ◌-◌, ◌≤◌, Bool, true, false, ◌&&◌, ◌||◌, [], ◌∷◌, ◌++◌, Option, Some, Result, Ok, refl, subst, sym, ap, ◌∙◌, arith}
use Rattle.std.specs.Prelude.{option_map, option_and_then}
use Rattle.bb_basis.proofs.ResultLemmas.{bind_ok}
use Rattle.bb_code.specs.declared.parts.TheConstants.{STACK_LIMIT}
use Rattle.bb_schema.specs.Schema.{Schema, class_named}
use Rattle.bb_verify_effect.specs.declared.part.Part.{Part}
use Rattle.bb_code.specs.declared.frame.Kind.TheVariants.{Ref}
use Rattle.bb_lang.specs.Binding.{Binding}
use Rattle.bb_lang.specs.Binding.TheVariants as bindings
use Rattle.bb_lang.specs.Trees.{ExprTree}
use Rattle.bb_lang.specs.Blocks.{BlockTree, StatementTree, OtherwiseTree, no_statement, before_others, action, if_of, with_of, for_of, absent, otherwise}
use Rattle.bb_compile_scope.specs.Place.{Place}
use Rattle.bb_compile_scope.specs.declared.fault.TextFlaw.{TextFlaw}
use Rattle.bb_compile_scope.specs.Killed.{unless_fault, bound_name}
use Rattle.bb_compile_scope.specs.Scope.{name_of}
use Rattle.bb_compile_scope.specs.Slots.{partner_slot}
use Rattle.bb_compile_scope.specs.declared.scope.Scope.{Scope}
use Rattle.bb_compile_scope.proofs.Laws.{frees}
use Rattle.bb_compile_buffer.specs.declared.buffer.Buffer.{Buffer}
use Rattle.bb_compile_buffer.specs.Buffers.{declare}
use Rattle.bb_compile_buffer.specs.Atoms.{variable_code, unit_code}
use Rattle.bb_compile.specs.declared.exits.Exits.{Exits}
use Rattle.bb_compile.specs.Expressions.{expr_code}
use Rattle.bb_compile.specs.Statements.{after_end, statement_code, statements_code}
use Rattle.bb_theorem_accepted.proofs.buffers.BufferLemmas.{Clean}
use Rattle.bb_theorem_accepted.proofs.buffers.PutLemmas.{pair_ok}
use Rattle.bb_theorem_accepted.proofs.blocks.BranchLemmas.{IfLaid, if_laid, with_laid}
use Rattle.bb_theorem_accepted.proofs.blocks.HeadLemmas.{HeadLaid, binding_laid}
use Rattle.bb_theorem_accepted.proofs.blocks.GuardLemmas.{test_guard, tested_puts, head_scope, if_branches, with_branches}
use Rattle.bb_theorem_accepted.proofs.straight.StoreLemmas.{declare_is}
use Rattle.bb_theorem_accepted.proofs.blocks.BlockLemmas.{stated}
use Rattle.bb_theorem_accepted.proofs.kinds.MoveLemmas.{Sole}
use Rattle.bb_theorem_accepted.proofs.sparing.ScopeLemmas.{onto_same, onto_on}
use Rattle.bb_theorem_accepted.proofs.sparing.SpareLemmas.{class_in, bound_in, sequence_in, added_by, statement_spares, other_spares, block_spares, adds, statement_fits, other_fits, block_fits, block_more}
use Rattle.bb_theorem_accepted.proofs.sparing.ShapeLemmas.{of, Spares, All, spares_on, spares_same}
use Rattle.bb_theorem_accepted.proofs.sparing.BodyLemmas.{added_count}
use Rattle.bb_theorem_accepted.proofs.buffers.StayLemmas.{behind, keeps_ok, variable_keeps, unit_keeps, expr_keeps}
use Rattle.bb_theorem_accepted.proofs.sparing.PlainLemmas.{unit_class_is}
use Rattle.bb_theorem_accepted.proofs.sparing.ActLemmas.{Acts, acts_level, acts_declared, action_acts}
use Rattle.bb_theorem_accepted.proofs.blocks.LoopLaid.{for_laid}
use Rattle.bb_theorem_accepted.proofs.sparing.BranchActs.{BlockActs, BranchActs, absent_acts, else_acts}
use Rattle.bb_theorem_accepted.proofs.sparing.ForActs.{sole_inner, for_acts}

-- what a statement does to a scope, whose free locals suffice for it
pub record StatementActs (schema : Schema) (x : StatementTree) (s t : Scope) : Type 0 where
  pub fits : statement_fits x (frees s.kinds)
  pub acts : Acts s t (added_by schema (of s) x) (statement_spares schema (of s) x)

module _ (schema : Schema) where
  -- ---- tests

  -- the name of a `with`
  pub head_acts : (binding : Binding) (s u : Buffer) (exits : Exits) → Sole s.scope.kinds s.scope.names → HeadLaid schema binding s u exits → Clean u → (1 ≤ frees s.scope.kinds) × Acts s.scope u.scope ((bound_name binding, bound_in schema (of s.scope) binding) ∷ []) All
  head_acts (bindings.As name unit class) s u exits sole laid clean =
      let puts = tested_puts laid.held laid.of laid.behind laid.test exits laid.test_is in
      let same : laid.test.scope ≡ s.scope = ap (λ (x : Buffer). x.scope) puts.same ∙ (keeps_ok behind s (variable_code unit STACK_LIMIT s) (Some laid.held, laid.behind) laid.code_is (variable_keeps unit STACK_LIMIT s)).scope in
      acts_declared s.scope name (Ref laid.of) (class_named schema class) laid.test u sole same refl (sym laid.named) laid.declared
  head_acts (bindings.Linked name unit slot) s u exits sole laid clean =
      let same_behind : laid.behind.scope ≡ s.scope = (keeps_ok behind s (unit_code unit STACK_LIMIT s) (Some laid.class, laid.behind) laid.code_is (unit_keeps unit STACK_LIMIT s)).scope in
      let same : laid.test.scope ≡ s.scope = ap (λ (x : Buffer). x.scope) laid.put_is ∙ same_behind in
      acts_declared s.scope name (Ref laid.at.1) (bound_in schema (of s.scope) (bindings.Linked name unit slot)) laid.test u sole same refl class laid.declared
    where
      own : (o : Option ℕ) → Some laid.class ≡ o → Some laid.at.1 ≡ option_and_then (λ class. option_map (λ (p : ℕ × ℕ). p.1) (unless_fault (partner_slot schema class slot))) o
      own o is = ap (λ (r : Result (ℕ × ℕ) TextFlaw). option_map (λ (p : ℕ × ℕ). p.1) (unless_fault r)) (sym laid.slot_is) ∙ ap (λ o. option_and_then (λ class. option_map (λ (p : ℕ × ℕ). p.1) (unless_fault (partner_slot schema class slot))) o) is

      clean_behind : Clean laid.behind
      clean_behind = sym (ap (λ (x : Buffer). x.flaw) laid.put_is) ∙ (sym (declared_flaw laid.test u laid.declared) ∙ clean)
        where
          declared_flaw : (a b : Buffer) → declare name (Ref laid.at.1) a ≡ Ok b → b.flaw ≡ a.flaw
          declared_flaw a b h = ap (λ (x : Buffer). x.flaw) (declare_is name (Ref laid.at.1) a b h).2

      class : Some laid.at.1 ≡ bound_in schema (of s.scope) (bindings.Linked name unit slot)
      class = own (class_in (of s.scope) (name_of unit)) (unit_class_is unit STACK_LIMIT s laid.behind laid.class laid.code_is clean_behind)

  -- ---- statements with blocks

  module _ (part : Part) where
    -- after the test of an `if` the scope is as before it
    pub if_scope : (loops : ℕ) (test : ExprTree) (first : BlockTree) (other : OtherwiseTree) (s t : Buffer) (now : Bool) → (laid : IfLaid schema part loops test first other s t now) → laid.inner.scope ≡ s.scope
    if_scope loops test first other s t now laid =
        let l = laid.test_is in
        ap (λ (x : Buffer). x.scope) l.put_is ∙ (keeps_ok behind s (expr_code schema STACK_LIMIT test s) (l.made, l.behind) l.code_is (expr_keeps schema test STACK_LIMIT s)).scope

    -- what a statement with blocks does adds no name
    acts_branch : (x : StatementTree) (other : OtherwiseTree) (p q : ℕ → Bool) (s t : Buffer) → Sole s.scope.kinds s.scope.names → ((j : ℕ) → q j ≡ true → (p j && other_spares schema (of s.scope) other j) ≡ true) → BranchActs schema other p s.scope t.scope → Acts s.scope t.scope [] q
    acts_branch x other p q s t sole each b = acts_level s.scope t.scope q sole b.level (λ j n at live ok. b.spares j n at live (each j ok))

    here_scope : (was : Bool) (s : Buffer) → (after_end was s).scope ≡ s.scope
    here_scope true s = refl
    here_scope false s = refl

    mutual
      unfolding statements_code statement_code if_branches with_branches test_guard statement_spares other_spares block_spares statement_fits other_fits block_fits

      pub block_acts : (b : BlockTree) (loops : ℕ) (was now : Bool) (s t : Buffer) → statements_code schema part loops was b s ≡ Ok (now, t) → Sole s.scope.kinds s.scope.names → BlockActs schema b s.scope t.scope
      block_acts no_statement loops was now s t h sole =
          let same : t.scope ≡ s.scope = ap (λ (x : Buffer). x.scope) (sym (pair_ok was now s t h).1) in
          record { onto = onto_same s.scope t.scope same; fits = tt; spares = spares_same s.scope t.scope same }
      block_acts (before_others place x others) loops was now s t h sole =
          let here = after_end was s in
          let one = bind_ok (statement_code schema part loops place x here) (λ p. statements_code schema part loops (was || p.0) others p.1) (now, t) h in
          let same = here_scope was s in
          let u = one.0.1 in
          let first = subst (λ c. StatementActs schema x c u.scope) same (statement_acts x loops place one.0.0 here u one.1 (subst (λ (c : Scope). Sole c.kinds c.names) (sym same) sole)) in
          let rest = block_acts others loops (was || one.0.0) now u t one.2 (first.acts.onto.sole sole) in
          let count = added_count schema (of s.scope) x in
          let room = first.acts.frees in
          record {
            onto = onto_on s.scope u.scope t.scope first.acts.onto rest.onto;
            fits = (first.fits, block_more others (frees u.scope.kinds) (frees s.scope.kinds - adds x) (omega (arith, count, room)) rest.fits);
            spares = spares_on s.scope u.scope t.scope (statement_spares schema (of s.scope) x) (block_spares schema (of s.scope ++ added_by schema (of s.scope) x) others) first.acts.onto first.acts.spares
                (subst (λ S. Spares u.scope t.scope (block_spares schema S others)) first.acts.shaped rest.spares);
          }

      pub statement_acts : (x : StatementTree) (loops : ℕ) (place : Place) (now : Bool) (s t : Buffer) → statement_code schema part loops place x s ≡ Ok (now, t) → Sole s.scope.kinds s.scope.names → StatementActs schema x s.scope t.scope
      statement_acts (action a) loops place now s t h sole =
          let is = stated schema part place a s t now h in
          let own = action_acts schema part s t sole is.clean a is.code_is in
          record { fits = own.0; acts = own.1 }
      statement_acts (if_of test first absent) loops place now s t h sole =
          let laid = if_laid schema part loops place test first absent s t now h in
          let br = if_branches schema part loops test first absent s t now laid in
          let same = if_scope loops test first absent s t now laid in
          let block = block_acts first loops false br.blocks.ended br.inner br.blocks.end br.blocks.block_is (subst (λ (c : Scope). Sole c.kinds c.names) (sym same) sole) in
          let b = absent_acts schema part loops first s t now sole br same (onto_same s.scope br.inner.scope same) (spares_same s.scope br.inner.scope same) block in
          record {
            fits = (subst (λ (c : Scope). block_fits first (frees c.kinds)) same block.fits, tt);
            acts = acts_branch (if_of test first absent) absent (block_spares schema (of br.inner.scope) first) (λ j. block_spares schema (of s.scope) first j && true) s t sole (λ j k. ap (λ c. block_spares schema (of c) first j && true) same ∙ k) b;
          }
      statement_acts (if_of test first (otherwise c)) loops place now s t h sole =
          let laid = if_laid schema part loops place test first (otherwise c) s t now h in
          let br = if_branches schema part loops test first (otherwise c) s t now laid in
          let same = if_scope loops test first (otherwise c) s t now laid in
          let block = block_acts first loops false br.blocks.ended br.inner br.blocks.end br.blocks.block_is (subst (λ (c : Scope). Sole c.kinds c.names) (sym same) sole) in
          let b = else_acts schema part loops first s t now sole c br same (onto_same s.scope br.inner.scope same) (spares_same s.scope br.inner.scope same) block (λ d x y is own. block_acts c loops false d x y is own) in
          record {
            fits = (subst (λ (c : Scope). block_fits first (frees c.kinds)) same block.fits, b.fits);
            acts = acts_branch (if_of test first (otherwise c)) (otherwise c) (block_spares schema (of br.inner.scope) first) (λ j. block_spares schema (of s.scope) first j && block_spares schema (of s.scope) c j) s t sole (λ j k. ap (λ a. block_spares schema (of a) first j && block_spares schema (of s.scope) c j) same ∙ k) b;
          }
      statement_acts (with_of binding first absent) loops place now s t h sole =
          let laid = with_laid schema part loops place binding first absent s t now h in
          let hd = binding_laid schema binding place s laid.inner laid.exits laid.test_is in
          let br = with_branches schema part loops binding place first absent s t now laid in
          let named = head_acts binding s laid.inner laid.exits sole hd.0 hd.1 in
          let block = block_acts first loops false br.blocks.ended br.inner br.blocks.end br.blocks.block_is (named.1.onto.sole sole) in
          let b = absent_acts schema part loops first s t now sole br (head_scope schema binding s laid.inner laid.exits hd.0 hd.1) named.1.onto named.1.spares block in
          let room = named.1.frees in
          let some = named.0 in
          record {
            fits = (named.0, block_more first (frees laid.inner.scope.kinds) (frees s.scope.kinds - 1) (omega (arith, room)) block.fits, tt);
            acts = acts_branch (with_of binding first absent) absent (block_spares schema (of br.inner.scope) first) (λ j. block_spares schema (of s.scope ++ (bound_name binding, bound_in schema (of s.scope) binding) ∷ []) first j && true) s t sole
                (λ j k. ap (λ S. block_spares schema S first j && true) named.1.shaped ∙ k) b;
          }
      statement_acts (with_of binding first (otherwise c)) loops place now s t h sole =
          let laid = with_laid schema part loops place binding first (otherwise c) s t now h in
          let hd = binding_laid schema binding place s laid.inner laid.exits laid.test_is in
          let br = with_branches schema part loops binding place first (otherwise c) s t now laid in
          let named = head_acts binding s laid.inner laid.exits sole hd.0 hd.1 in
          let block = block_acts first loops false br.blocks.ended br.inner br.blocks.end br.blocks.block_is (named.1.onto.sole sole) in
          let b = else_acts schema part loops first s t now sole c br (head_scope schema binding s laid.inner laid.exits hd.0 hd.1) named.1.onto named.1.spares block (λ d x y is own. block_acts c loops false d x y is own) in
          let room = named.1.frees in
          record {
            fits = (named.0, block_more first (frees laid.inner.scope.kinds) (frees s.scope.kinds - 1) (omega (arith, room)) block.fits, b.fits);
            acts = acts_branch (with_of binding first (otherwise c)) (otherwise c) (block_spares schema (of br.inner.scope) first) (λ j. block_spares schema (of s.scope ++ (bound_name binding, bound_in schema (of s.scope) binding) ∷ []) first j && block_spares schema (of s.scope) c j) s t sole
                (λ j k. ap (λ S. block_spares schema S first j && block_spares schema (of s.scope) c j) named.1.shaped ∙ k) b;
          }
      statement_acts (for_of name sequence body) loops place now s t h sole =
          let f = for_laid schema part loops place name sequence body s t now h in
          let block = block_acts body (loops - 1) false f.ended f.inner f.end f.block_is (sole_inner schema part loops name sequence body s t now sole f) in
          let a = for_acts schema part loops name sequence body s t now sole f block in
          record { fits = (a.room, a.fits); acts = acts_level s.scope t.scope (block_spares schema (of s.scope ++ (name, sequence_in schema (of s.scope) sequence) ∷ []) body) sole a.level a.spares }
