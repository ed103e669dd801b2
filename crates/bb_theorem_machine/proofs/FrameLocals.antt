-- An op leaves frames with as many locals as there were.
use Rattle.std.proofs.Common.{◌≡◌, length, Option, Ok, refl, subst, ◌∙◌}
use Rattle.std.proofs.lemmas.List.{length-set, length-map}
use Rattle.bb_schema.specs.Schema.{Schema}
use Rattle.bb_code.specs.Code.{Code}
use Rattle.bb_code.specs.declared.op.Op.{Op}
use Rattle.bb_verify.specs.FrameType.{Frame}
use Rattle.bb_verify.specs.PartType.{Part}
use Rattle.bb_verify.specs.Kinds.{struck}
use Rattle.bb_verify.specs.Effect.{effect, after_delete}
use Rattle.bb_verify.proofs.Laws.{edges_ok, IsKept, OnEdge, effect_keeps}
use Rattle.bb_theorem_machine.specs.Safe.{edges_of}

abbrev SameCount : Frame → Frame → Type 0
SameCount f g = length g.locals ≡ length f.locals

-- a frame that is left has as many locals
abbrev pub AsMany : Frame → Option Frame → Type 0
AsMany f o = OnEdge (SameCount f) o

count_kept : (f : Frame) → IsKept (SameCount f)
unfolding after_delete
count_kept f = record {
  drops = λ n g same. same;
  pushes = λ k g known same. same;
  stores = λ l k g same. length-set g.locals l k ∙ same;
  strikes = λ s class g same. length-map g.locals (struck s class) ∙ same;
}

pub as_many : (s : Schema) (part : Part) (code : Code) (f : Frame) (e : Option Frame × Option Frame) (op : Op) → edges_of s part code op f ≡ Ok e → AsMany f e.0 × AsMany f e.1
as_many s part code f e op h =
    let x = edges_ok (effect s part code op f) e h in
    subst (λ (p : Option Frame × Option Frame). AsMany f p.0 × AsMany f p.1) x.2 (effect_keeps (SameCount f) (count_kept f) s part code f refl x.0 op x.1)
