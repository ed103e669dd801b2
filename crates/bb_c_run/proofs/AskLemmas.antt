-- After a post or an answer that was made no asks are left, and it is no misuse.
use Rattle.std.proofs.Common.{◌≡◌, ◌∙◌, List, [], ap, false, refl, subst, sym, true}
use Rattle.bb_run_held.specs.declared.pause.Pause.{Pause}
use Rattle.bb_run_held.specs.declared.pause.Pause.TheVariants.{Going, Resting, Due, Over}
use Rattle.bb_shell.specs.Ask.{Ask}
use Rattle.bb_c_run.specs.Moving.{did_nothing, left_by}
use Rattle.bb_c_run.specs.Sitting.{stands_by}
use Rattle.bb_c_run.specs.declared.held.Held.{Held}
use Rattle.bb_c_run.specs.declared.stands.Stands.{Stands}

did_something : (p : Pause) → did_nothing (stands_by p) ≡ false
did_something Going = refl
did_something Resting = refl
did_something (Due a) = refl
did_something (Over end) = refl

pub left_none : (p : Pause) (s : Stands) (asks left : List Ask) → s ≡ stands_by p → left ≡ [] → left ≡ left_by s asks
left_none Going s asks left is none = subst (λ (t : Stands). left ≡ left_by t asks) (sym is) none
left_none Resting s asks left is none = subst (λ (t : Stands). left ≡ left_by t asks) (sym is) none
left_none (Due a) s asks left is none = subst (λ (t : Stands). left ≡ left_by t asks) (sym is) none
left_none (Over end) s asks left is none = subst (λ (t : Stands). left ≡ left_by t asks) (sym is) none

pub moved_keeps : (p : Pause) (s : Stands) (old new : Held) → s ≡ stands_by p → did_nothing s ≡ true → new ≡ old
moved_keeps p s old new is nothing = absurd (let e : false ≡ true = sym (did_something p) ∙ (ap did_nothing (sym is) ∙ nothing) in cc)
