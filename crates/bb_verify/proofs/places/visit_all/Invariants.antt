use Rattle.std.proofs.Common.{◌≡◌, ◌-◌, length}
use Rattle.std.specs.List.{range_with_len}
use Rattle.bb_basis.specs.Results.{try_fold}
use Rattle.bb_verify.specs.Places.{visit}
use Rattle.bb_verify.specs.proving.Numbered.{frames_by}
use Rattle.bb_verify.specs.proving.Passes.{walk_of}
use Rattle.bb_verify.proofs.places.visit_all.Given as goal

abbrev pub invariant-loop-place : goal.invariant-loop-place
invariant-loop-place l = try_fold (visit l.schema l.part l.framed.code.now (frames_by l.framed)) (walk_of l.pass) (range_with_len l.place (length l.framed.code.now.ops - l.place)) ≡ try_fold (visit l.schema l.part l.framed.code.now (frames_by l.framed)) (walk_of l.fn.pass) (range_with_len 0 (length l.framed.code.now.ops))
