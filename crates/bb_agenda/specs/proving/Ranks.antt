-- The order in which the pending activations of a source are executed. No public clause cites it.
use Rattle.std.specs.Prelude.{◌≡◌, ℕ, ℤ, Bool, true, false, ◌&&◌, ◌==◌, List, find, slice_get, if◌then◌else◌}
use Rattle.std.specs.Option.{option_map_or}
use Rattle.std.specs.declared.cmp.Ordering.{Ordering}
use Rattle.std.specs.Ordering.{ordering_then, nat_cmp, int_cmp, is_eq}
use Rattle.std.specs.BTreeSet.{BTreeSet, contains}
use Rattle.bb_agenda.specs.declared.focusing.activation.Activation.{Activation}
use Rattle.bb_agenda.specs.declared.rank.Rank.{Rank}
use Rattle.bb_agenda.specs.Agenda.{has_number, is_of}
use Rattle.bb_agenda.specs.Changes.{based_at}

-- the rank of an activation
abbrev pub rank_of : Activation → Rank
rank_of a = record { base = record { 0 = a.base }; number = a.number }

-- the order of ranks
abbrev pub rank_cmp : Rank → Rank → Ordering
rank_cmp r q = ordering_then (int_cmp q.base.0 r.base.0) (nat_cmp r.number q.number)

abbrev pub same_rank : Rank → Rank → Bool
same_rank r q = is_eq (rank_cmp r q)

-- the rank is in the order of a source
abbrev pub is_ranked : List (BTreeSet Rank) → ℕ → Rank → Bool
is_ranked orders source r = option_map_or (λ o. contains rank_cmp o r) (slice_get orders source) false

-- is_ranked after a rank is added to a source's order
abbrev pub ranked_more : List (BTreeSet Rank) → ℕ → Rank → ℕ → Rank → Bool
ranked_more orders source rank s r = if source == s && same_rank rank r then true else is_ranked orders s r

-- is_ranked after a rank is removed from a source's order
abbrev pub ranked_less : List (BTreeSet Rank) → ℕ → Rank → ℕ → Rank → Bool
ranked_less orders source rank s r = if source == s && same_rank rank r then false else is_ranked orders s r

-- is_ranked after an activation gets another base
abbrev pub reranked : List (BTreeSet Rank) → Activation → ℤ → ℕ → Rank → Bool
reranked orders a base s r =
    if a.source == s && same_rank (rank_of a) r then false
    else ranked_more orders a.source (rank_of (based_at base a)) s r

-- the order of each source has the ranks of its pending activations, and no others
pub record AreRanked (activations : List Activation) (orders : List (BTreeSet Rank)) : Type 0 where
  pub ranked : (s : ℕ) (r : Rank) →
      is_ranked orders s r ≡ option_map_or (λ a. is_of s a && same_rank r (rank_of a)) (find (has_number r.number) activations) false
