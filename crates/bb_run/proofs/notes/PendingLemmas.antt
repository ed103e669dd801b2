-- The agenda is what is pending by the notes so far.
use Rattle.std.proofs.Common.{◌≡◌, ℕ, ℤ, ◌+◌, ◌<◌, Bool, true, false, not, cond, ◌||◌, ◌==◌, List, [], ◌∷◌, ◌++◌, length, map, refl, sym, ap, subst, ◌∙◌, arith, length-append}
use Rattle.std.specs.Prelude.{All, Contains}
use Rattle.std.specs.List.{count_by, fold}
use Rattle.std.proofs.lemmas.Bool.{ne_eqb}
use Rattle.std.proofs.lemmas.List.{append-nil}
use Rattle.std.proofs.lemmas.List.Concat.{flat_map-append}
use Rattle.std.proofs.lemmas.List.Elements.{All-append, All-cons, All-contains, All-filter, All-head, All-nil, All-tail, All-weaker}
use Rattle.std.proofs.lemmas.List.Folds.{list_any-append, list_any_none}
use Rattle.std.proofs.lemmas.List.Sums.{fold-append, sum_by-append}
use Rattle.bb_agenda.specs.declared.focusing.activation.Activation.{Activation}
use Rattle.bb_agenda.specs.Agenda.{Agenda, no_activations, pending_of, next_number}
use Rattle.bb_agenda.specs.focusing.Foci.{Foci, Setting}
use Rattle.bb_agenda.specs.Changes.{based_at, new_activation, other_than, rebased, with_activation, with_base, with_executed, with_obviated}
use Rattle.bb_agenda.proofs.Laws.{pending_added, pending_executed, pending_obviated, pending_rebased, given_added, given_executed, given_obviated, given_rebased}
use Rattle.bb_trace.specs.declared.note.Note.{Note}
use Rattle.bb_trace.specs.declared.note.Note.TheVariants.{Triggered, Obviated, Retriggered, Chosen, Invalid, Ended, NativeEnded}
use Rattle.bb_run_plan.specs.Foci.{with_foci}
use Rattle.bb_run.specs.Processing.{event_in, events_in}
use Rattle.bb_run.specs.Order.{triggered_by, chosen_by, gone_by, triggered_in, chosen_in, gone_in, is_among, without, after_note, pending_after}

-- ---- lists

module _ {X : Type 0} (P : X → Type 0) where
  pub All-last : (xs : List X) (x : X) → All P xs → P x → All P (xs ++ x ∷ [])
  All-last xs x all here = All-append P xs (x ∷ []) all (All-cons P x [] here (All-nil P))

-- the number of an activation is not among these
abbrev pub IsApart : List ℕ → Activation → Type 0
IsApart numbers a = is_among a.number numbers ≡ false

or_none : (b c : Bool) → b ≡ false → c ≡ false → (b || (c || false)) ≡ false
or_none true c p q = absurd cc
or_none false true p q = absurd cc
or_none false false p q = refl

apart_one : (number : ℕ) (numbers : List ℕ) (a : Activation) → IsApart numbers a → (a.number == number) ≡ false → IsApart (numbers ++ number ∷ []) a
apart_one number numbers a apart other = list_any-append (λ n. a.number == n) numbers (number ∷ []) ∙ or_none (is_among a.number numbers) (a.number == number) apart other

apart_kept : (number : ℕ) (numbers : List ℕ) (a : Activation) (rest : List Activation) (t : Bool) → (a.number == number) ≡ t → IsApart numbers a → All (IsApart (numbers ++ number ∷ [])) rest → All (IsApart (numbers ++ number ∷ [])) (cond (not t) (a ∷ rest) rest)
apart_kept number numbers a rest true is apart all = all
apart_kept number numbers a rest false is apart all = All-cons (IsApart (numbers ++ number ∷ [])) a rest (apart_one number numbers a apart is) all

-- what is left without the one of a number is apart from that number too
apart_without : (number : ℕ) (numbers : List ℕ) (xs : List Activation) → All (IsApart numbers) xs → All (IsApart (numbers ++ number ∷ [])) (without number xs)
apart_without number numbers [] all = All-nil (IsApart (numbers ++ number ∷ []))
apart_without number numbers (a ∷ xs) all =
    apart_kept number numbers a (without number xs) (a.number == number) refl (All-head (IsApart numbers) a xs all) (apart_without number numbers xs (All-tail (IsApart numbers) a xs all))

-- what does not go by the base holds of activations with another base
pub all_rebased : (P : Activation → Type 0) → ((a : Activation) (base : ℤ) → P a → P (based_at base a)) → (number : ℕ) (base : ℤ) (xs : List Activation) → All P xs → All P (map (rebased number base) xs)
all_rebased P keeps number base [] all = All-nil P
all_rebased P keeps number base (a ∷ xs) all =
    All-cons P (rebased number base a) (map (rebased number base) xs)
    (keeps a (cond (a.number == number) base a.base) (All-head P a xs all))
    (all_rebased P keeps number base xs (All-tail P a xs all))

-- ---- notes, one after another

-- a cycle is over by the note: its execution has ended, or its activation was invalid
abbrev pub is_end : Note → Bool
is_end (Ended steps found budget) = true
is_end (NativeEnded asks) = true
is_end (Invalid number) = true
is_end _ = false

-- the number of cycles that are over
abbrev pub ends_in : List Note → ℕ
ends_in notes = count_by is_end notes

pub triggered_then : (xs ys : List Note) → triggered_in (xs ++ ys) ≡ triggered_in xs ++ triggered_in ys
triggered_then xs ys = flat_map-append triggered_by xs ys

pub chosen_then : (xs ys : List Note) → chosen_in (xs ++ ys) ≡ chosen_in xs ++ chosen_in ys
chosen_then xs ys = flat_map-append chosen_by xs ys

pub events_two : (xs ys : List Note) → events_in (xs ++ ys) ≡ events_in xs ++ events_in ys
events_two xs ys = flat_map-append event_in xs ys

gone_then : (xs ys : List Note) → gone_in (xs ++ ys) ≡ gone_in xs ++ gone_in ys
gone_then xs ys = flat_map-append gone_by xs ys

pub ends_then : (xs ys : List Note) → ends_in (xs ++ ys) ≡ ends_in xs + ends_in ys
ends_then xs ys = sum_by-append (λ note. cond (is_end note) 1 0) xs ys

pub pending_then : (xs ys : List Note) → pending_after (xs ++ ys) ≡ fold after_note (pending_after xs) ys
pending_then xs ys = fold-append after_note [] xs ys

-- ---- the agenda and the notes

-- the activation's number was given, and its source is one of `sources`
pub record IsKnown (next sources : ℕ) (a : Activation) : Type 0 where
  pub number : a.number < next
  pub source : a.source < sources

-- after these notes, with `made` cycles made and `executed` of them over, the agenda is what is pending
pub record Stands (sources : ℕ) (past : List Note) (made executed : ℕ) (agenda : Agenda) : Type 0 where
  pub numbers : next_number agenda ≡ length (triggered_in past) + 1
  pub cycles : made ≡ length (chosen_in past)
  pub executions : executed ≡ ends_in past
  pub pending : pending_of agenda ≡ pending_after past
  pub known : All (IsKnown (next_number agenda) sources) (pending_of agenda)
  pub gone : All (λ n. n < next_number agenda) (gone_in past)
  pub apart : All (IsApart (gone_in past)) (pending_of agenda)

pub stands_first : (sources : ℕ) (setting : Setting) (foci : Foci) → Stands sources [] 0 0 (with_foci (no_activations setting) foci)
stands_first sources setting foci = record {
  numbers = refl;
  cycles = refl;
  executions = refl;
  pending = refl;
  known = All-nil (IsKnown 1 sources);
  gone = All-nil (λ n. n < 1);
  apart = All-nil (IsApart []);
}

-- foci change nothing of what is pending
pub stands_emitted : (sources : ℕ) (past : List Note) (made executed : ℕ) (agenda : Agenda) (foci : Foci) → Stands sources past made executed agenda → Stands sources past made executed (with_foci agenda foci)
stands_emitted sources past made executed agenda foci s = record {
  numbers = s.numbers;
  cycles = s.cycles;
  executions = s.executions;
  pending = s.pending;
  known = s.known;
  gone = s.gone;
  apart = s.apart;
}

-- notes that tell of no activation
pub record IsSilent (notes : List Note) : Type 0 where
  pub none_triggered : triggered_in notes ≡ []
  pub none_chosen : chosen_in notes ≡ []
  pub none_gone : gone_in notes ≡ []
  pub same_pending : (pending : List Activation) → fold after_note pending notes ≡ pending

module _ (sources : ℕ) (past : List Note) (made executed : ℕ) (agenda : Agenda) (s : Stands sources past made executed agenda) where
  same_triggered : (notes : List Note) → triggered_in notes ≡ [] → triggered_in past ≡ triggered_in (past ++ notes)
  same_triggered notes none = sym (triggered_then past notes ∙ ap (λ l. triggered_in past ++ l) none ∙ append-nil (triggered_in past))

  same_chosen : (notes : List Note) → chosen_in notes ≡ [] → chosen_in past ≡ chosen_in (past ++ notes)
  same_chosen notes none = sym (chosen_then past notes ∙ ap (λ l. chosen_in past ++ l) none ∙ append-nil (chosen_in past))

  same_gone : (notes : List Note) → gone_in notes ≡ [] → gone_in past ≡ gone_in (past ++ notes)
  same_gone notes none = sym (gone_then past notes ∙ ap (λ l. gone_in past ++ l) none ∙ append-nil (gone_in past))

  -- after notes that tell of no activation, but that `more` cycles are over
  pub stands_silent : (notes : List Note) (more : ℕ) → IsSilent notes → ends_in notes ≡ more → Stands sources (past ++ notes) made (executed + more) agenda
  stands_silent notes more silent ended =
      let gone = same_gone notes silent.none_gone in
      record {
        numbers = s.numbers ∙ ap (λ l. length l + 1) (same_triggered notes silent.none_triggered);
        cycles = s.cycles ∙ ap length (same_chosen notes silent.none_chosen);
        executions = ap (λ n. n + more) s.executions ∙ ap (λ n. ends_in past + n) (sym ended) ∙ sym (ends_then past notes);
        pending = s.pending ∙ sym (pending_then past notes ∙ silent.same_pending (pending_after past));
        known = s.known;
        gone = subst (All (λ n. n < next_number agenda)) gone s.gone;
        apart = subst (λ g. All (IsApart g) (pending_of agenda)) gone s.apart;
      }

  no_end : (note : Note) → ends_in (note ∷ []) ≡ 0 → executed ≡ ends_in (past ++ note ∷ [])
  no_end note none = s.executions ∙ (let same : ends_in past ≡ ends_in past + ends_in (note ∷ []) = omega (arith, none) in same) ∙ sym (ends_then past (note ∷ []))

  -- the number of what is pending was given
  pub number_given : (a : Activation) → Contains (pending_of agenda) a → a.number < next_number agenda
  number_given a there = (All-contains (IsKnown (next_number agenda) sources) (pending_of agenda) a s.known there).number

  -- after a new activation
  pub stands_triggered : (source unit : ℕ) (base : ℤ) → source < sources → Stands sources (past ++ Triggered (new_activation agenda source unit base) ∷ []) made executed (with_activation agenda source unit base)
  stands_triggered source unit base lt =
      let a = new_activation agenda source unit base in
      let later = with_activation agenda source unit base in
      let grown = given_added agenda source unit base in
      let note : List Note = Triggered a ∷ [] in
      let gone = same_gone note refl in
      let new : IsApart (gone_in past) a =
      list_any_none (λ n. next_number agenda == n) (gone_in past) (All-weaker (λ n. n < next_number agenda) (λ n. (next_number agenda == n) ≡ false) (λ n under. ne_eqb (next_number agenda) n (λ e. omega (arith, e, under))) (gone_in past) s.gone) in
      record {
        numbers = ap (λ n. n + 1) (grown ∙ s.numbers) ∙ ap (λ n. n + 1) (sym (length-append (triggered_in past) (a ∷ []))) ∙ ap (λ l. length l + 1) (sym (triggered_then past note));
        cycles = s.cycles ∙ ap length (same_chosen note refl);
        executions = no_end (Triggered a) refl;
        pending = pending_added agenda source unit base ∙ ap (λ l. l ++ a ∷ []) s.pending ∙ sym (pending_then past note);
        known = subst (All (IsKnown (next_number later) sources)) (sym (pending_added agenda source unit base)) (All-last (IsKnown (next_number later) sources) (pending_of agenda) a
            (All-weaker (IsKnown (next_number agenda) sources) (IsKnown (next_number later) sources) (λ b k. let under = k.number in record { number = omega (arith, grown); source = k.source }) (pending_of agenda) s.known)
            (record { number = omega (arith, grown); source = lt }));
        gone = subst (All (λ n. n < next_number later)) gone (All-weaker (λ n. n < next_number agenda) (λ n. n < next_number later) (λ n under. omega (arith, grown, under)) (gone_in past) s.gone);
        apart = subst (λ g. All (IsApart g) (pending_of later)) gone
            (subst (All (IsApart (gone_in past))) (sym (pending_added agenda source unit base)) (All-last (IsApart (gone_in past)) (pending_of agenda) a s.apart new));
      }

  -- without the one of a number that was given
  known_without : (later : Agenda) (number : ℕ) → next_number later ≡ next_number agenda → pending_of later ≡ without number (pending_of agenda) → All (IsKnown (next_number later) sources) (pending_of later)
  known_without later number same left =
      subst (λ n. All (IsKnown n sources) (pending_of later)) (sym same)
      (subst (All (IsKnown (next_number agenda) sources)) (sym left) (All-filter (other_than number) (IsKnown (next_number agenda) sources) (pending_of agenda) s.known))

  gone_one : (later : Agenda) (number : ℕ) → next_number later ≡ next_number agenda → number < next_number agenda → All (λ n. n < next_number later) (gone_in past ++ number ∷ [])
  gone_one later number same under = subst (λ m. All (λ n. n < m) (gone_in past ++ number ∷ [])) (sym same) (All-last (λ n. n < next_number agenda) (gone_in past) number s.gone under)

  apart_left : (later : Agenda) (number : ℕ) → pending_of later ≡ without number (pending_of agenda) → All (IsApart (gone_in past ++ number ∷ [])) (pending_of later)
  apart_left later number left = subst (All (IsApart (gone_in past ++ number ∷ []))) (sym left) (apart_without number (gone_in past) (pending_of agenda) s.apart)

  -- after one that is pending was obviated
  pub stands_obviated : (number : ℕ) → number < next_number agenda → Stands sources (past ++ Obviated number ∷ []) made executed (with_obviated agenda number)
  stands_obviated number under =
      let later = with_obviated agenda number in
      let same : next_number later ≡ next_number agenda = ap (λ n. n + 1) (given_obviated agenda number) in
      let note : List Note = Obviated number ∷ [] in
      let left = pending_obviated agenda number in
      let gone = sym (gone_then past note) in
      record {
        numbers = same ∙ s.numbers ∙ ap (λ l. length l + 1) (same_triggered note refl);
        cycles = s.cycles ∙ ap length (same_chosen note refl);
        executions = no_end (Obviated number) refl;
        pending = left ∙ ap (without number) s.pending ∙ sym (pending_then past note);
        known = known_without later number same left;
        gone = subst (All (λ n. n < next_number later)) gone (gone_one later number same under);
        apart = subst (λ g. All (IsApart g) (pending_of later)) gone (apart_left later number left);
      }

  -- after one got another base
  pub stands_rebased : (number : ℕ) (base : ℤ) → Stands sources (past ++ Retriggered number base ∷ []) made executed (with_base agenda number base)
  stands_rebased number base =
      let later = with_base agenda number base in
      let same : next_number later ≡ next_number agenda = ap (λ n. n + 1) (given_rebased agenda number base) in
      let note : List Note = Retriggered number base ∷ [] in
      let left = pending_rebased agenda number base in
      let gone = same_gone note refl in
      record {
        numbers = same ∙ s.numbers ∙ ap (λ l. length l + 1) (same_triggered note refl);
        cycles = s.cycles ∙ ap length (same_chosen note refl);
        executions = no_end (Retriggered number base) refl;
        pending = left ∙ ap (map (rebased number base)) s.pending ∙ sym (pending_then past note);
        known = subst (λ n. All (IsKnown n sources) (pending_of later)) (sym same)
            (subst (All (IsKnown (next_number agenda) sources)) (sym left) (all_rebased (IsKnown (next_number agenda) sources) (λ a b k. record { number = k.number; source = k.source }) number base (pending_of agenda) s.known));
        gone = subst (λ n. All (λ m. m < n) (gone_in (past ++ note))) (sym same) (subst (All (λ n. n < next_number agenda)) gone s.gone);
        apart = subst (λ g. All (IsApart g) (pending_of later)) gone
            (subst (All (IsApart (gone_in past))) (sym left) (all_rebased (IsApart (gone_in past)) (λ a b apart. apart) number base (pending_of agenda) s.apart));
      }

  -- after a choice of what is pending, whatever becomes of it
  stands_taken : (number : ℕ) (a : Activation) (r : ℤ) (later : Agenda) → length later.given ≡ length agenda.given → pending_of later ≡ without a.number (pending_of agenda) → Contains (pending_of agenda) a → Stands sources (past ++ Chosen number a r ∷ []) (made + 1) executed later
  stands_taken number a r later count left there =
      let same : next_number later ≡ next_number agenda = ap (λ n. n + 1) count in
      let note : List Note = Chosen number a r ∷ [] in
      let gone = sym (gone_then past note) in
      record {
        numbers = same ∙ s.numbers ∙ ap (λ l. length l + 1) (same_triggered note refl);
        cycles = ap (λ n. n + 1) s.cycles ∙ sym (length-append (chosen_in past) (a ∷ [])) ∙ ap length (sym (chosen_then past note));
        executions = no_end (Chosen number a r) refl;
        pending = left ∙ ap (without a.number) s.pending ∙ sym (pending_then past note);
        known = known_without later a.number same left;
        gone = subst (All (λ n. n < next_number later)) gone (gone_one later a.number same (number_given a there));
        apart = subst (λ g. All (IsApart g) (pending_of later)) gone (apart_left later a.number left);
      }

  pub stands_executed : (number : ℕ) (a : Activation) (r : ℤ) → Contains (pending_of agenda) a → Stands sources (past ++ Chosen number a r ∷ []) (made + 1) executed (with_executed agenda a.number)
  stands_executed number a r there = stands_taken number a r (with_executed agenda a.number) (given_executed agenda a.number) (pending_executed agenda a.number) there

  pub stands_invalid : (number : ℕ) (a : Activation) (r : ℤ) → Contains (pending_of agenda) a → Stands sources (past ++ Chosen number a r ∷ []) (made + 1) executed (with_obviated agenda a.number)
  stands_invalid number a r there = stands_taken number a r (with_obviated agenda a.number) (given_obviated agenda a.number) (pending_obviated agenda a.number) there

  -- what is pending was not gone before
  pub is_apart : (a : Activation) → Contains (pending_of agenda) a → is_among a.number (gone_in past) ≡ false
  is_apart a there = All-contains (IsApart (gone_in past)) (pending_of agenda) a s.apart there
