-- The partners of all units follow the pairs, after each change of both.
use Rattle.std.proofs.Common.{◌≡◌, ℕ, ◌==◌, Bool, true, false, cond, ◌&&◌, Option, Some, None, refl, sym, ap, ◌∙◌}
use Rattle.std.specs.Prelude.{option_and_then}
use Rattle.std.proofs.lemmas.Bool.{eqb-true, eqb-false, eq-eqb, ne_eqb}
use Rattle.bb_schema.specs.declared.couple.Side.{Side}
use Rattle.bb_links.specs.declared.partners.Partners.{Partners}
use Rattle.bb_links.specs.Pairs.{near, far, same_pair}
use Rattle.bb_links.specs.proving.Partners.{partner_at, partner_in, IsPut, IsTaken, Follow}
use Rattle.bb_links.proofs.StampLemmas.{Under}

-- one pair gets a stamp, or loses it
module _ (u v : Under) (old new : Partners) (pair : ℕ × ℕ) (k : ℕ) (more : Bool) (own : (q : ℕ × ℕ) → u k ≡ Some q → q ≡ pair)
    (now : (s : ℕ) → v s ≡ cond (s == k) (cond more (Some pair) None) (u s))
    (one : (side : Side) (key : ℕ × ℕ) → partner_at side new key ≡ cond (same_pair (near side pair, k) key) (cond more (Some (far side pair)) None) (partner_at side old key)) where
  follow_changed : Follow u old → Follow v new
  follow_changed follow side key = one side key ∙ (at (key.1 == k) refl (key.0 == near side pair) refl ∙ ap (option_and_then (partner_in side key.0)) (sym (now key.1)))
    where
      -- the unit of the pair
      here : (m : Bool) → key.0 ≡ near side pair → cond m (Some (far side pair)) None ≡ option_and_then (partner_in side key.0) (cond m (Some pair) None)
      here true same = rw (eq-eqb (near side pair) key.0 (sym same)) refl
      here false same = refl

      -- another unit has no partner in the pair
      other : (key.0 ≡ near side pair → ⊥) → partner_in side key.0 pair ≡ None
      other apart = rw (ne_eqb (near side pair) key.0 (λ same. apart (sym same))) refl

      was : (o : Option (ℕ × ℕ)) → u k ≡ o → (key.0 ≡ near side pair → ⊥) → option_and_then (partner_in side key.0) o ≡ None
      was None is apart = refl
      was (Some q) is apart = ap (partner_in side key.0) (own q is) ∙ other apart

      is_now : (m : Bool) → (key.0 ≡ near side pair → ⊥) → None ≡ option_and_then (partner_in side key.0) (cond m (Some pair) None)
      is_now true apart = sym (other apart)
      is_now false apart = refl

      at : (b : Bool) → (key.1 == k) ≡ b → (c : Bool) → (key.0 == near side pair) ≡ c
          → cond (c && b) (cond more (Some (far side pair)) None) (partner_at side old key) ≡ option_and_then (partner_in side key.0) (cond b (cond more (Some pair) None) (u key.1))
      at false h true g = follow side key
      at false h false g = follow side key
      at true h true g = here more (eqb-true key.0 (near side pair) g)
      at true h false g =
          let apart = eqb-false key.0 (near side pair) g in
          follow side key ∙ (ap (λ s. option_and_then (partner_in side key.0) (u s)) (eqb-true key.1 k h) ∙ (was (u k) refl apart ∙ is_now more apart))

module _ (u : Under) (p : Partners) (follow : Follow u p) (pair : ℕ × ℕ) (k : ℕ) (none : u k ≡ None) where
  -- nothing is under a stamp that no pair has
  pub none_under : (side : Side) (n : ℕ) → partner_at side p (n, k) ≡ None
  none_under side n = follow side (n, k) ∙ ap (option_and_then (partner_in side n)) none

  pub follow_put : (v : Under) (q : Partners) → ((s : ℕ) → v s ≡ cond (s == k) (Some pair) (u s)) → IsPut pair k p q → Follow v q
  follow_put v q now put = follow_changed u v p q pair k true (λ r is. let e : None ≡ Some r = sym none ∙ is in absurd cc) now put follow

  -- a pair that was put, and is taken again
  pub follow_again : (q r : Partners) → IsPut pair k p q → IsTaken pair k q r → Follow u r
  follow_again q r put taken =
      let v : Under = λ s. cond (s == k) (Some pair) (u s) in
      follow_changed v u q r pair k false own (λ s. back s (s == k) refl) taken (follow_put v q (λ s. refl) put)
    where
      own : (s : ℕ × ℕ) → cond (k == k) (Some pair) (u k) ≡ Some s → s ≡ pair
      own s is = let e : Some pair ≡ Some s = sym (rw (eq-eqb k k refl) refl) ∙ is in cc

      back : (s : ℕ) (b : Bool) → (s == k) ≡ b → u s ≡ cond b None (cond b (Some pair) (u s))
      back s true h = ap u (eqb-true s k h) ∙ none
      back s false h = refl

-- one pair less
pub follow_less : (u v : Under) (p q : Partners) (pair : ℕ × ℕ) (k : ℕ) → Follow u p → u k ≡ Some pair → ((s : ℕ) → v s ≡ cond (s == k) None (u s)) → IsTaken pair k p q → Follow v q
follow_less u v p q pair k follow there now taken = follow_changed u v p q pair k false (λ r is. let e : Some r ≡ Some pair = sym is ∙ there in cc) now taken follow
