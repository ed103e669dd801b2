-- How accepted codes are stored as data that can be told apart.
use Rattle.std.specs.Prelude.{List, refl}
use Rattle.std.specs.Coded.{Coded, code_by, coded×, coded_list}
use Rattle.bb_code.specs.Code.{Code}
use Rattle.bb_code.specs.proving.Codes.{parts_code}
use Rattle.bb_verify_effect.specs.proving.Codes.{frame_code, part_code}
use Rattle.bb_verify_effect.specs.declared.frame.Frame.{Frame}
use Rattle.bb_verify_effect.specs.declared.part.Part.{Part}
use Rattle.bb_verify.specs.Accepted.{Checked}

abbrev pub checked_code : Coded Checked
checked_code =
    code_by (Code × (Part × List Frame)) (coded× parts_code (coded× part_code (coded_list frame_code)))
    (λ c. (c.code, (c.part, c.frames)))
    (λ p. record { code = p.0; part = p.1.0; frames = p.1.1 }) (λ _. refl)
