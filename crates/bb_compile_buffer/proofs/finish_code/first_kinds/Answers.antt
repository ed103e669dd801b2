use Rattle.std.proofs.Common.{◌≡◌, ◌++◌, ◌∷◌, [], ◌∙◌, sym, ap, arith, map}
use Rattle.std.specs.List.{range_with_len}
use Rattle.std.proofs.lemmas.List.FromFn.{map-range_with_len_more}
use Rattle.bb_compile_scope.specs.LocalKinds.{kind_at}
use Rattle.bb_compile_buffer.proofs.finish_code.first_kinds.Goals as goal

pub loop-local-preserved : goal.loop-local-preserved
loop-local-preserved c =
    c.in_ok-push.ensures.ok
    ∙ ap (λ l. l ++ c.get.result ∷ []) c.loop-local.invariant
    ∙ ap (λ k. map (kind_at c.args.kinds.now) (range_with_len 0 c.loop-local.local) ++ k ∷ []) c.get.ensures
    ∙ sym (map-range_with_len_more (kind_at c.args.kinds.now) 0 c.loop-local.local c.loop-local.local (omega arith))
