-- That sources were made under a schema has one proof at most, so it may be taken out of where only that it holds is
-- said.
use Rattle.std.proofs.Common.{◌≡◌, true, List, Result, Ok, Err, ap}
use Rattle.std.proofs.Math.Logic.{∥∥₁_elim}
use Rattle.std.specs.Prelude.{All, ℕ, slice_index_or}
use Rattle.std.specs.Coded.{Coded-set, coded_bool}
use Rattle.bb_schema.specs.Schema.{Schema, descends}
use Rattle.bb_verify.specs.Accepted.{Checked, checked}
use Rattle.bb_code.specs.declared.flaw.VerifyFault.{VerifyFault}
use Rattle.bb_verify.specs.proving.Codes.{checked_code}
use Rattle.bb_verify_effect.specs.proving.Codes.{part_code}
use Rattle.bb_rules.specs.declared.clause.Clause.{Clause}
use Rattle.bb_rules.specs.declared.clause.Clause.TheVariants as clauses
use Rattle.bb_rules.specs.Law.{IsMade, IsWithin}
use Rattle.bb_rules.specs.Parts.{Source}

module _ {A : Type 0} (holds : ∥ A ∥₁) where
  same_of : (x y : Checked) → (A → x ≡ y) → x ≡ y
  same_of x y from = ∥∥₁_elim holds (Coded-set checked_code x y) from

  accepted_of : (r : Result Checked VerifyFault) (c : Checked) → (A → r ≡ Ok c) → r ≡ Ok c
  accepted_of (Ok d) c from = ap Ok (same_of d c (λ a. let is = from a in cc))
  accepted_of (Err fault) c from = absurd (∥∥₁_elim holds (λ p q. absurd p) (λ a. let is = from a in absurd cc))

  within_of : (s : Schema) (class : ℕ) (clause : Clause) → (A → IsWithin s class clause) → IsWithin s class clause
  within_of s class (clauses.Change kind changed) from = ∥∥₁_elim holds (Coded-set coded_bool (descends s changed class) true) from
  within_of s class clauses.Quiescence from = tt

  -- a source that was made under a schema
  made_of : (s : Schema) (source : Source) → (A → IsMade s source) → IsMade s source
  made_of s source from = record {
    law = record {
      triggers = λ k d lt. within_of s source.class (slice_index_or source.triggers k d) (λ a. (from a).law.triggers k d lt);
      require = λ c is. ∥∥₁_elim holds (Coded-set part_code c.part _) (λ a. (from a).law.require c is);
      obviate = record {
        clauses = λ r is k d lt. within_of s r.class (slice_index_or r.clauses k d) (λ a. (from a).law.obviate.clauses r is k d lt);
        code = λ r is. ∥∥₁_elim holds (Coded-set part_code r.code.part _) (λ a. (from a).law.obviate.code r is);
      };
      retrigger = record {
        clauses = λ r is k d lt. within_of s r.class (slice_index_or r.clauses k d) (λ a. (from a).law.retrigger.clauses r is k d lt);
        code = λ r is. ∥∥₁_elim holds (Coded-set part_code r.code.part _) (λ a. (from a).law.retrigger.code r is);
      };
      revalidate = λ c is. ∥∥₁_elim holds (Coded-set part_code c.part _) (λ a. (from a).law.revalidate c is);
      act = λ c is. ∥∥₁_elim holds (Coded-set part_code c.part _) (λ a. (from a).law.act c is);
    };
    require = λ c is. accepted_of (checked s c.part c.code) c (λ a. (from a).require c is);
    obviate = λ r is. accepted_of (checked s r.code.part r.code.code) r.code (λ a. (from a).obviate r is);
    retrigger = λ r is. accepted_of (checked s r.code.part r.code.code) r.code (λ a. (from a).retrigger r is);
    revalidate = λ c is. accepted_of (checked s c.part c.code) c (λ a. (from a).revalidate c is);
    act = λ c is. accepted_of (checked s c.part c.code) c (λ a. (from a).act c is);
  }

-- all of them
pub all_made : (s : Schema) (sources : List Source) → ∥ All (IsMade s) sources ∥₁ → All (IsMade s) sources
all_made s sources holds k d lt = made_of holds s (slice_index_or sources k d) (λ all. all k d lt)
