-- What is known of a member: what was told of it, and its class if the space lists only the query's and those below.
use Rattle.std.proofs.Common.{◌≡◌, ℕ, ◌&&◌, Bool, true, false, List, Option, Some, None, refl, sym, ap, ◌∙◌}
use Rattle.std.specs.Prelude.{is_some, option_map, IfSome, IsTrue}
use Rattle.std.specs.List.{list_all}
use Rattle.std.specs.Option.{option_map_or}
use Rattle.std.specs.FinMap.{get}
use Rattle.bb_schema_classes.specs.declared.class.Class.{Class}
use Rattle.bb_schema_classes.specs.Inheritance.{Descends, itself, through_parent, descends_in, ParentsAreEarlier}
use Rattle.bb_schema_classes.proofs.Laws.{climbs_sound, descends_complete}
use Rattle.bb_schema.specs.Schema.{Schema, descends}
use Rattle.bb_schema.specs.Spaces.{classes_in, allowed}
use Rattle.bb_units.specs.declared.unit.Unit.{Unit}
use Rattle.bb_units.specs.Units.{Units}
use Rattle.bb_pattern.specs.declared.query.Query.{Query}
use Rattle.bb_pattern.specs.declared.value.DimValue.{DimValue}
use Rattle.bb_pattern.specs.Holds.{holds}
use Rattle.bb_space.specs.Spaces.{Spaces, is_member, values_in}
use Rattle.bb_query.specs.Answer.{answers, is_of_class}
use Rattle.bb_query.specs.Knows.{Knows}
use Rattle.bb_query.specs.PresentValues.{present_values}
use Rattle.bb_query.proofs.WholeLemmas.{passes_both}

descends_on : {classes : List Class} {a b c : ℕ} → Descends classes a b → Descends classes b c → Descends classes a c
descends_on (itself a) d = d
descends_on (through_parent a p b is up) d = through_parent a p _ is (descends_on up d)

module _ (s : Schema) (u : Units) (t : Spaces) (knows : Knows s u t) (q : Query) where
  module _ (parents : ParentsAreEarlier s.classes) (all : list_all (λ d. descends s d q.class) (classes_in s q.space) ≡ true) where
    -- a class that the space admits
    of_admitted : (c : ℕ) → allowed s q.space c ≡ true → descends s c q.class ≡ true
    of_admitted c admitted =
        let both = passes_both (λ d. descends_in s.classes c d) (λ d. descends s d q.class) (classes_in s q.space) admitted all in
        descends_complete s.classes parents c q.class (descends_on (climbs_sound s.classes both.item c c both.first) (climbs_sound s.classes q.class both.item both.item both.second))

    of_live : (o : Option Unit) → is_some o ≡ true → IfSome (option_map (λ (x : Unit). x.class) o) (λ class. IsTrue (allowed s q.space class))
        → option_map_or (λ class. descends s class q.class) (option_map (λ (x : Unit). x.class) o) false ≡ true
    of_live None live admitted = absurd cc
    of_live (Some x) live admitted = of_admitted x.class admitted

    -- each member is of the query's class
    pub members_are_of_class : (n : ℕ) (values : List DimValue) → values_in t q.space n ≡ Some values → is_of_class s u q n ≡ true
    members_are_of_class n values told = of_live (get u.units n) (knows.live q.space n values told) (knows.admitted q.space n values told)

  module _ (operands : List DimValue) (n : ℕ) (values : List DimValue) (told : values_in t q.space n ≡ Some values) where
    -- what decides of a member: its class, and what was told of it
    by_told : answers s u t q operands n ≡ (is_of_class s u q n && holds operands values q.pattern)
    by_told =
        let there : is_member t q.space n ≡ true = ap is_some told in
        ap (λ b. b && is_of_class s u q n && holds operands (present_values s u n q.space) q.pattern) there
        ∙ ap (λ vs. is_of_class s u q n && holds operands vs q.pattern) (sym (knows.told q.space n values told))

    and_false : (b : Bool) → (b && false) ≡ false
    and_false true = refl
    and_false false = refl

    and_true : (b : Bool) → (b && true) ≡ b
    and_true true = refl
    and_true false = refl

    pub fails_told : holds operands values q.pattern ≡ false → answers s u t q operands n ≡ false
    fails_told fails = by_told ∙ (ap (λ b. is_of_class s u q n && b) fails ∙ and_false (is_of_class s u q n))

    pub passes_told : holds operands values q.pattern ≡ true → answers s u t q operands n ≡ is_of_class s u q n
    passes_told passes = by_told ∙ (ap (λ b. is_of_class s u q n && b) passes ∙ and_true (is_of_class s u q n))
