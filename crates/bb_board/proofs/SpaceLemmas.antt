-- What holds of a blackboard holds after a unit enters or leaves a space.
use Rattle.std.proofs.Common.{◌≡◌, ℕ, ◌<◌, Bool, true, false, cond, not, [], ◌∷◌, ◌++◌, length, Option, Some, None, Result, Ok, Err, refl}
use Rattle.std.specs.Prelude.{slice_get}
use Rattle.std.specs.List.{list_any}
use Rattle.std.specs.Option.{option_map_or}
use Rattle.std.proofs.lemmas.Option.{slice_get_within}
use Rattle.bb_basis.proofs.NumberLemmas.{nat_lt_below}
use Rattle.bb_schema_classes.specs.Inheritance.{descends_in}
use Rattle.bb_schema.specs.declared.space.Space.{Space}
use Rattle.bb_schema.specs.Schema.{Schema}
use Rattle.bb_schema.specs.Spaces.{allowed}
use Rattle.bb_units.specs.Units.{is_live}
use Rattle.bb_space.specs.Spaces.{is_member, after_enter as with_member, after_leave as without_member}
use Rattle.bb_query.specs.PresentValues.{present_values}
use Rattle.bb_board.specs.declared.event.Change.{Change}
use Rattle.bb_board.specs.declared.event.Change.TheVariants.{Enter, Leave}
use Rattle.bb_board.specs.declared.reason.Reason.{Reason}
use Rattle.bb_board.specs.declared.reason.Reason.TheVariants.{Deleted, Space as NoSpace}
use Rattle.bb_board.specs.State.{World}
use Rattle.bb_board.specs.World.{event, class_at}
use Rattle.bb_board.specs.Spaces.{may_enter, after_enter, after_leave}
use Rattle.bb_board.specs.Fits.{is_noted, names_slot_of, Fits}
use Rattle.bb_board.proofs.NoteLemmas.{noted_more}
use Rattle.bb_board.proofs.KeepLemmas.{event_of_live}
use Rattle.bb_board.proofs.OutliveLemmas.{outlives_same}
use Rattle.bb_board.proofs.KnowLemmas.{knows_entered, knows_left}

-- what may enter is live, and admitted
pub record MayEnter (s : Schema) (w : World) (n space : ℕ) : Type 0 where
  pub live : is_live w.units n ≡ true
  pub admitted : allowed s space (class_at w n) ≡ true
  pub there : space < length s.spaces

admits_by : (s : Schema) (space class : ℕ) (o : Option Space) → slice_get s.spaces space ≡ o → list_any (λ d. descends_in s.classes class d) (option_map_or (λ p. p.classes) o []) ≡ true → space < length s.spaces
admits_by s space class None is admitted = absurd cc
admits_by s space class (Some p) is admitted = slice_get_within s.spaces space p is

may_by : (s : Schema) (w : World) (n space : ℕ) (a b : Bool) → is_live w.units n ≡ a → allowed s space (class_at w n) ≡ b
    → (let r : Result (Unit {0}) Reason = cond (not a) (Err Deleted) (cond (not b) (Err NoSpace) (Ok tt)) in r) ≡ Ok tt → MayEnter s w n space
may_by s w n space true true live admitted is = record { live = live; admitted = admitted; there = admits_by s space (class_at w n) (slice_get s.spaces space) refl admitted }
may_by s w n space true false live admitted is = absurd cc
may_by s w n space false b live admitted is = absurd cc

pub may_enter_facts : (s : Schema) (w : World) (n space : ℕ) → may_enter s w n space ≡ Ok tt → MayEnter s w n space
may_enter_facts s w n space is = may_by s w n space (is_live w.units n) (allowed s space (class_at w n)) refl refl is

module _ (s : Schema) (w : World) (fits : Fits s w) (n space : ℕ) where
  more_noted : (change : Change) → is_live w.units n ≡ true → names_slot_of s change ≡ true → is_noted s w.units (event n (class_at w n) change) ≡ true
  more_noted change live names = event_of_live s w w.units n change fits (outlives_same w.units) live names

  pub enter_keeps : MayEnter s w n space → Fits s (after_enter s w n space)
  enter_keeps asked = by (is_member w.spaces space n)
    where
      by : (b : Bool) → Fits s (cond b w (record {
        units = w.units;
        links = w.links;
        spaces = with_member w.spaces space n (present_values s w.units n space);
        notes = w.notes ++ event n (class_at w n) (Enter space) ∷ [];
      }))
      by true = fits
      by false = record {
        units = fits.units;
        layout = fits.layout;
        links = fits.links;
        ends = fits.ends;
        singular = fits.singular;
        pairs = fits.pairs;
        spaces = knows_entered s w.units w.spaces fits.spaces n space asked.live asked.admitted;
        notes = noted_more s w.units w.notes (event n (class_at w n) (Enter space)) fits.notes (more_noted (Enter space) asked.live (nat_lt_below space (length s.spaces) asked.there));
      }

  pub leave_keeps : is_live w.units n ≡ true → space < length s.spaces → Fits s (after_leave w n space)
  leave_keeps live there = by (not (is_member w.spaces space n))
    where
      by : (b : Bool) → Fits s (cond b w (record {
        units = w.units;
        links = w.links;
        spaces = without_member w.spaces space n;
        notes = w.notes ++ event n (class_at w n) (Leave space) ∷ [];
      }))
      by true = fits
      by false = record {
        units = fits.units;
        layout = fits.layout;
        links = fits.links;
        ends = fits.ends;
        singular = fits.singular;
        pairs = fits.pairs;
        spaces = knows_left s w.units w.spaces fits.spaces n space;
        notes = noted_more s w.units w.notes (event n (class_at w n) (Leave space)) fits.notes (more_noted (Leave space) live (nat_lt_below space (length s.spaces) there));
      }
