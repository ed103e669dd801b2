use Rattle.std.proofs.Common.{◌≡◌, ◌∙◌, ◌<◌, ◌⊎◌, inl, inr, ap, sym, subst, refl, true, ℕ, length, List, Some, Result, Ok, Err}
use Rattle.std.specs.Prelude.{slice_get, slice_set, option_map, OnOk, OnErr}
use Rattle.std.proofs.lemmas.Option.{slice_get_read}
use Rattle.std.proofs.lemmas.Result.{IfOk-weaker, on_ok_weaker}
use Rattle.bb_links.specs.Pairs.{taken_among}
use Rattle.bb_links.specs.Couples.{Couple, Couples, linked, taken, after_link}
use Rattle.bb_links.specs.Fits.{FitsCouple}
use Rattle.bb_links.proofs.FitLemmas.{linked_fits}
use Rattle.bb_links.proofs.ChangeLemmas.{changed_at, set_fits, one_of_two}
use Rattle.bb_links.specs.declared.lists.Lists.{Lists}
use Rattle.bb_links.specs.proving.Lists.{listed}
use Rattle.bb_links.specs.proving.Standing.{stands_in, is_in, AreListed}
use Rattle.bb_links.proofs.StandingLemmas.{one_changed, stood}
use Rattle.bb_links.proofs.couples.Couples.link.Goals as goal

-- what a note keeps
each_kept : (couples : List Couple) (s t : Lists) → AreListed couples s → ((n i : ℕ) → is_in (listed s.lists n) i ≡ true → is_in (listed t.lists n) i ≡ true) → AreListed couples t
each_kept couples s t each kept n i k is stands = kept n i (each n i k is stands)

-- what a link that may fail leaves stands where it did, or where it was noted
from_link : {T E : Type 0} (r : Result T E) (a b : ℕ) (new old : Couple) (P : ℕ → Type 0) → OnOk r (new ≡ linked a b old) → OnErr r (new ≡ old) → P a → P b
    → (n : ℕ) → stands_in n new.pairs ≡ true → (stands_in n old.pairs ≡ true) ⊎ P n
from_link (Ok t) a b new old P ok err at_a at_b n stands = elim (stood n a b old (ap (λ (k : Couple). stands_in n k.pairs) (sym ok) ∙ stands)) [
  | inl did ↦ inl did
  | inr one ↦ inr (elim one [ inl first ↦ subst P first at_a | inr second ↦ subst P second at_b ])
]
from_link (Err e) a b new old P ok err at_a at_b n stands = inl (ap (λ (k : Couple). stands_in n k.pairs) (sym err) ∙ stands)

pub invariant_of-self : goal.invariant_of-self
invariant_of-self c = record { fits = c.self.invariant.fits; each = each_kept c.self.inside.couples.items c.self.inside.standing c.note.new.standing c.self.invariant.each c.note.ensures.kept }

pub invariant_of-self-in_err-note-2 : goal.invariant_of-self-in_err-note-2
invariant_of-self-in_err-note-2 c = record {
  fits = c.self.invariant.fits;
  each = each_kept c.self.inside.couples.items c.self.inside.standing c.note-2.new.standing c.self.invariant.each (λ n i is. c.note-2.ensures.kept n i (c.note.ensures.kept n i is));
}

pub invariant_of-self-2 : goal.invariant_of-self-2
invariant_of-self-2 c =
    let seen : Couples = record { couples = c.self.inside.couples.items; ends = c.self.inside.ends.items } in
    let old : Couple = c.index_mut.result.now in
    let lt : c.args.couple < length seen.couples = subst (λ (u : Couples). c.args.couple < length u.couples) (sym c.self.view_is) c.requires in
    let there : slice_get seen.couples c.args.couple ≡ Some old = slice_get_read seen.couples (length seen.couples) c.args.couple old refl lt c.index_mut.ensures.value in
    let fits : FitsCouple old = subst FitsCouple (sym c.index_mut.ensures.value) (c.self.invariant.fits.couples c.args.couple old lt) in
    let each = each_kept seen.couples c.self.inside.standing c.note-2.new.standing c.self.invariant.each (λ n i is. c.note-2.ensures.kept n i (c.note.ensures.kept n i is)) in
    let at_a : is_in (listed c.note-2.new.standing.lists c.args.a) c.args.couple ≡ true = c.note-2.ensures.kept c.args.a c.args.couple c.in_ok-note.ensures.noted in
    let at_b : is_in (listed c.note-2.new.standing.lists c.args.b) c.args.couple ≡ true = c.in_ok-note-2.ensures.noted in
    record {
      fits = set_fits seen c.args.couple c.link.new.self c.self.invariant.fits (one_of_two FitsCouple c.link.result c.link.new.self (linked c.args.a c.args.b old) old c.link.ensures.linked c.link.ensures.err (linked_fits old fits c.args.a c.args.b) fits);
      each = one_changed seen.couples c.note-2.new.standing c.args.couple c.link.new.self old lt there each
          (from_link c.link.result c.args.a c.args.b c.link.new.self old (λ n. is_in (listed c.note-2.new.standing.lists n) c.args.couple ≡ true) c.link.ensures.linked c.link.ensures.err at_a at_b);
    }

pub returns-clause-taken : goal.returns-clause-taken
returns-clause-taken c =
    let seen : Couples = record { couples = c.self.inside.couples.items; ends = c.self.inside.ends.items } in
    let old : Couple = c.index_mut.result.now in
    let lt : c.args.couple < length seen.couples = subst (λ (u : Couples). c.args.couple < length u.couples) (sym c.self.view_is) c.requires in
    let there : slice_get seen.couples c.args.couple ≡ Some old = slice_get_read seen.couples (length seen.couples) c.args.couple old refl lt c.index_mut.ensures.value in
    IfOk-weaker c.link.result _ _
    (λ t is. ap (λ (u : Couples). taken u c.args.couple c.args.a c.args.b) (sym c.self.view_is) ∙ (ap (option_map (λ (k : Couple). taken_among k.singular c.args.a c.args.b k.pairs)) there ∙ ap (λ u. Some u) (sym is)))
    c.link.ensures.taken

pub returns-clause-linked : goal.returns-clause-linked
returns-clause-linked c =
    let seen : Couples = record { couples = c.self.inside.couples.items; ends = c.self.inside.ends.items } in
    let old : Couple = c.index_mut.result.now in
    let lt : c.args.couple < length seen.couples = subst (λ (u : Couples). c.args.couple < length u.couples) (sym c.self.view_is) c.requires in
    let there : slice_get seen.couples c.args.couple ≡ Some old = slice_get_read seen.couples (length seen.couples) c.args.couple old refl lt c.index_mut.ensures.value in
    on_ok_weaker c.link.result
    (λ is. ap (λ (k : Couple). let u : Couples = record { couples = slice_set seen.couples c.args.couple k; ends = seen.ends } in u) is
    ∙ (sym (changed_at (linked c.args.a c.args.b) seen c.args.couple old there) ∙ ap (λ (u : Couples). after_link u c.args.couple c.args.a c.args.b) c.self.view_is))
    c.link.ensures.linked
