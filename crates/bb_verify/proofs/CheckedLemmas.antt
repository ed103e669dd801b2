-- A code that was accepted is accepted again, and the facts hold of it.
use Rattle.std.proofs.Common.{◌≡◌, ◌≤◌, List, length, Ok, refl, sym, subst}
use Rattle.bb_basis.proofs.ResultLemmas.{bind_ok, same_ok}
use Rattle.bb_schema.specs.Schema.{Schema}
use Rattle.bb_code.specs.Code.{Code}
use Rattle.bb_verify_effect.specs.declared.frame.Frame.{Frame}
use Rattle.bb_verify_effect.specs.declared.part.Part.{Part}
use Rattle.bb_verify.specs.nesting.Jumps.{jumps}
use Rattle.bb_verify.specs.nesting.Loops.{loops}
use Rattle.bb_verify.specs.Tables.{tables}
use Rattle.bb_verify.specs.Places.{frames_of}
use Rattle.bb_verify.specs.Accepted.{Checked, accepted, checked}
use Rattle.bb_verify.specs.Facts.{Facts}
use Rattle.bb_verify.proofs.FactLemmas.{facts_of}

-- where no phase found a fault
pub checked_by : (s : Schema) (part : Part) (code : Code) (frames : List Frame) → tables s part code ≡ Ok tt → jumps code ≡ Ok tt → loops code ≡ Ok tt → frames_of s part code ≡ Ok frames
    → checked s part code ≡ Ok (record { code = code; part = part; frames = frames })
unfolding checked accepted
checked_by s part code frames one two three four = rw (one, two, three, four) refl

-- what was accepted is the code with the frames of its places
module _ (s : Schema) (part : Part) (code : Code) (c : Checked) (h : checked s part code ≡ Ok c) where
  abbrev with_frames : List Frame → Checked
  with_frames frames = record { code = code; part = part; frames = frames }

  frames_accepted : (frames : List Frame) × (accepted s part code ≡ Ok frames) × (with_frames frames ≡ c)
  unfolding checked
  frames_accepted =
      let one = bind_ok (accepted s part code) _ c h in
      (one.0, one.1, same_ok (with_frames one.0) c one.2)

  pub checked_again : checked s c.part c.code ≡ Ok c
  checked_again = subst (λ d. checked s d.part d.code ≡ Ok d) frames_accepted.2 (subst (λ d. checked s part code ≡ Ok d) (sym frames_accepted.2) h)

  pub checked_facts : 1 ≤ length code.ops → Facts s c.part c.code c.frames
  checked_facts some = subst (λ d. Facts s d.part d.code d.frames) frames_accepted.2 (facts_of s part code frames_accepted.0 some frames_accepted.1)
