use Rattle.std.proofs.lemmas.Bool.Decides.{Decides-at}
use Rattle.bb_schema_classes.proofs.Laws.{label_sets_decide, classes_decide}
use Rattle.bb_schema.proofs.SlotsSameLemmas.{slots_decide}
use Rattle.bb_schema.proofs.SameLemmas.{spaces_decide, differs, agrees, all_same}
use Rattle.bb_schema.proofs.schema.Schema.same.Goals as goal

pub returns-then-ne : goal.returns-then-ne
returns-then-ne c = rw (← c.self.view_is, ← c.other.view_is) (differs (λ s. s.label_sets) _ _ _ _ (label_sets_decide c.self.inside.label_sets c.other.inside.label_sets) c.ne.ensures c.if-ne.true)

pub returns-then-ne-2 : goal.returns-then-ne-2
returns-then-ne-2 c = rw (← c.self.view_is, ← c.other.view_is) (differs (λ s. s.classes) _ _ _ _ (classes_decide c.self.inside.classes c.other.inside.classes) c.ne-2.ensures c.if-ne-2.true)

pub returns-then-ne-3 : goal.returns-then-ne-3
returns-then-ne-3 c = rw (← c.self.view_is, ← c.other.view_is) (differs (λ s. s.slots) _ _ _ _ (slots_decide c.self.inside.slots.items c.other.inside.slots.items) c.ne-3.ensures c.if-ne-3.true)

pub returns : goal.returns
returns c = rw (← c.self.view_is, ← c.other.view_is)
    (all_same _ _ _ (agrees _ _ (label_sets_decide c.self.inside.label_sets c.other.inside.label_sets) c.ne.ensures c.if-ne.false) (agrees _ _ (classes_decide c.self.inside.classes c.other.inside.classes) c.ne-2.ensures c.if-ne-2.false)
    (agrees _ _ (slots_decide c.self.inside.slots.items c.other.inside.slots.items) c.ne-3.ensures c.if-ne-3.false) (Decides-at c.eq.result _ c.eq.ensures (spaces_decide c.self.inside.spaces c.other.inside.spaces)))
