use Rattle.std.proofs.Common.{◌≡◌, ◌∙◌, ◌<◌, ap, sym, subst, refl, length, Option, Some, [], inl}
use Rattle.std.specs.Prelude.{slice_get, slice_set}
use Rattle.std.specs.Option.{option_map_or}
use Rattle.std.proofs.lemmas.Option.{slice_get_read}
use Rattle.bb_links.specs.Pairs.{has_pair}
use Rattle.bb_links.specs.Couples.{Couple, Couples, unlinked, are_linked, after_unlink}
use Rattle.bb_links.specs.Fits.{FitsCouple}
use Rattle.bb_links.proofs.FitLemmas.{unlinked_fits}
use Rattle.bb_links.proofs.ChangeLemmas.{changed_at, set_fits}
use Rattle.bb_links.specs.proving.Standing.{stands_in}
use Rattle.bb_links.proofs.StandingLemmas.{one_changed, stood_unlinked}
use Rattle.bb_links.proofs.couples.Couples.unlink.Goals as goal

pub invariant_of-self : goal.invariant_of-self
invariant_of-self c =
    let seen : Couples = record { couples = c.self.inside.couples.items; ends = c.self.inside.ends.items } in
    let old : Couple = c.index_mut.result.now in
    let lt : c.args.couple < length seen.couples = subst (λ (u : Couples). c.args.couple < length u.couples) (sym c.self.view_is) c.requires in
    let there : slice_get seen.couples c.args.couple ≡ Some old = slice_get_read seen.couples (length seen.couples) c.args.couple old refl lt c.index_mut.ensures.value in
    let fits : FitsCouple old = subst FitsCouple (sym c.index_mut.ensures.value) (c.self.invariant.fits.couples c.args.couple old lt) in
    record {
      fits = set_fits seen c.args.couple c.unlink.new.self c.self.invariant.fits (subst FitsCouple (sym c.unlink.ensures.unlinked) (unlinked_fits old fits c.args.a c.args.b));
      each = one_changed seen.couples c.self.inside.standing c.args.couple c.unlink.new.self old lt there c.self.invariant.each
          (λ n stands. inl (stood_unlinked n c.args.a c.args.b old (ap (λ (k : Couple). stands_in n k.pairs) (sym c.unlink.ensures.unlinked) ∙ stands)));
    }

pub returns-clause-was : goal.returns-clause-was
returns-clause-was c =
    let seen : Couples = record { couples = c.self.inside.couples.items; ends = c.self.inside.ends.items } in
    let old : Couple = c.index_mut.result.now in
    let lt : c.args.couple < length seen.couples = subst (λ (u : Couples). c.args.couple < length u.couples) (sym c.self.view_is) c.requires in
    let there : slice_get seen.couples c.args.couple ≡ Some old = slice_get_read seen.couples (length seen.couples) c.args.couple old refl lt c.index_mut.ensures.value in
    c.unlink.ensures.was
    ∙ (ap (λ (o : Option Couple). has_pair (c.args.a, c.args.b) (option_map_or (λ (k : Couple). k.pairs) o [])) (sym there) ∙ ap (λ (u : Couples). are_linked u c.args.couple c.args.a c.args.b) c.self.view_is)

pub returns-clause-unlinked : goal.returns-clause-unlinked
returns-clause-unlinked c =
    let seen : Couples = record { couples = c.self.inside.couples.items; ends = c.self.inside.ends.items } in
    let old : Couple = c.index_mut.result.now in
    let lt : c.args.couple < length seen.couples = subst (λ (u : Couples). c.args.couple < length u.couples) (sym c.self.view_is) c.requires in
    let there : slice_get seen.couples c.args.couple ≡ Some old = slice_get_read seen.couples (length seen.couples) c.args.couple old refl lt c.index_mut.ensures.value in
    ap (λ (k : Couple). let u : Couples = record { couples = slice_set seen.couples c.args.couple k; ends = seen.ends } in u) c.unlink.ensures.unlinked
    ∙ (sym (changed_at (unlinked c.args.a c.args.b) seen c.args.couple old there) ∙ ap (λ (u : Couples). after_unlink u c.args.couple c.args.a c.args.b) c.self.view_is)
