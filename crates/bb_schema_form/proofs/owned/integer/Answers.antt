use Rattle.std.proofs.Common.{◌≡◌, Some, IfSome, true, false, drop, get_or, ◌==◌, sym, ap, ◌∙◌, subst, arith, take_all, length-drop}
use Rattle.fast_float.specs.Text.{scan}
use Rattle.serde_json.specs.Read.{number_of, number_from}
use Rattle.serde_json.specs.View.{number_view}
use Rattle.bb_schema_form.proofs.owned.integer.Goals as goal

pub returns-then-has_minus : goal.returns-then-has_minus
unfolding number_of
returns-then-has_minus c =
    let s = c.as_bytes-bytes.result.now in
    let signed : (get_or s 0 0 == 45) ≡ true = sym c.if-has_minus.ensures.value in
    let read : number_of s ≡ number_from true (scan (drop 1 s)) = rw signed in
    let parts : number_of s ≡ number_from true (scan _) = read ∙ ap (λ digits. number_from true (scan digits)) (sym (take_all _ (drop 1 s) (omega (arith, length-drop 1 s)))) in
    subst (λ made. IfSome c.negative.result (λ n. made ≡ Some (number_view n))) (sym (ap number_of (sym c.as_bytes-bytes.ensures.value) ∙ parts)) c.negative.ensures

pub returns-else-has_minus : goal.returns-else-has_minus
unfolding number_of
returns-else-has_minus c =
    let s = c.as_bytes-bytes.result.now in
    let unsigned : (get_or s 0 0 == 45) ≡ false = sym c.if-has_minus.ensures.value in
    let read : number_of s ≡ number_from false (scan s) = rw unsigned in
    subst (λ made. IfSome c.positive.result (λ n. made ≡ Some (number_view n))) (sym (ap number_of (sym c.as_bytes-bytes.ensures.value) ∙ read)) c.positive.ensures
