-- The kinds after two branches, one of which may have ended.
use Rattle.std.proofs.Common.{◌≡◌, ◌⊎◌, inl, inr, ℕ, zero, suc, Bool, true, false, cond, List, [], ◌∷◌, refl, subst, sym, ap, ◌∙◌}
use Rattle.bb_schema.specs.Schema.{Schema}
use Rattle.bb_schema.specs.Fits as schemas
use Rattle.bb_code.specs.declared.frame.Kind.{Kind}
use Rattle.bb_code.specs.declared.frame.Kind.TheVariants.{Any}
use Rattle.bb_compile_scope.specs.Kinds.{is_live}
use Rattle.bb_compile_scope.specs.LocalKinds.{is_free, kind_at, paired, met_kind, kinds_met}
use Rattle.bb_theorem_accepted.proofs.kinds.KnowLemmas.{aged, taken_on, Agree, Meet, Knows, met_at, knows_met_one, knows_met_other}

met_here : (ks ls : List Kind) (i : ℕ) → is_free (kind_at ks i) ≡ false → is_free (kind_at ls i) ≡ false → kind_at (kinds_met ks ls) i ≡ met_kind (kind_at ks i) (kind_at ls i)
unfolding paired
met_here [] ls i one other = absurd cc
met_here (k ∷ ks) [] i one other = absurd cc
met_here (k ∷ ks) (l ∷ ls) zero one other = refl
met_here (k ∷ ks) (l ∷ ls) (suc i) one other = met_here ks ls i one other

either_aged : (k l : Kind) → aged k ≡ aged l → aged (met_kind k l) ≡ aged l
either_aged k l same = by_live (is_live l)
  where
    by_live : (b : Bool) → aged (cond b k l) ≡ aged l
    by_live true = same
    by_live false = refl

module _ (base other one now : List Kind) (ended : Bool) (is : now ≡ cond ended other (kinds_met other one)) (first : Agree base other) (second : Agree base one) (meet : Meet other one) where
  pub merged_agree : Agree base now
  merged_agree i taken = by_end ended is
    where
      by_end : (e : Bool) → now ≡ cond e other (kinds_met other one) → aged (kind_at base i) ≡ aged (kind_at now i)
      by_end true is = first i taken ∙ ap (λ ks. aged (kind_at ks i)) (sym is)
      by_end false is =
          let one_taken = taken_on (kind_at base i) (kind_at one i) (second i taken) taken in
          let here = met_here other one i (taken_on (kind_at base i) (kind_at other i) (first i taken) taken) one_taken in
          second i taken ∙ (sym (either_aged (kind_at other i) (kind_at one i) (meet i one_taken)) ∙ (ap aged (sym here) ∙ ap (λ ks. aged (kind_at ks i)) (sym is)))

  -- what a local holds is what it holds after one of the branches
  pub merged_from : (i : ℕ) → is_free (kind_at now i) ≡ false → (kind_at now i ≡ kind_at other i) ⊎ (kind_at now i ≡ kind_at one i)
  merged_from i taken = by_end ended is
    where
      by_met : now ≡ kinds_met other one → (kind_at (kinds_met other one) i ≡ met_kind (kind_at other i) (kind_at one i)) ⊎ (kind_at (kinds_met other one) i ≡ Any) → (kind_at now i ≡ kind_at other i) ⊎ (kind_at now i ≡ kind_at one i)
      by_met is (inl e) = by_live (is_live (kind_at one i)) refl
        where
          by_live : (b : Bool) → is_live (kind_at one i) ≡ b → (kind_at now i ≡ kind_at other i) ⊎ (kind_at now i ≡ kind_at one i)
          by_live true live = inl (ap (λ ks. kind_at ks i) is ∙ (e ∙ ap (λ b. cond b (kind_at other i) (kind_at one i)) live))
          by_live false live = inr (ap (λ ks. kind_at ks i) is ∙ (e ∙ ap (λ b. cond b (kind_at other i) (kind_at one i)) live))
      by_met is (inr e) = absurd (let no : true ≡ false = sym (ap is_free (ap (λ ks. kind_at ks i) is ∙ e)) ∙ taken in cc)

      by_end : (e : Bool) → now ≡ cond e other (kinds_met other one) → (kind_at now i ≡ kind_at other i) ⊎ (kind_at now i ≡ kind_at one i)
      by_end true is = inl (ap (λ ks. kind_at ks i) is)
      by_end false is = by_met is (met_at other one i)

  module _ (s : Schema) (sf : schemas.Fits s) (locals : List Kind) where
    pub merged_other : Knows s sf locals other → Knows s sf locals now
    merged_other knows = by_end ended is
      where
        by_end : (e : Bool) → now ≡ cond e other (kinds_met other one) → Knows s sf locals now
        by_end true is = subst (Knows s sf locals) (sym is) knows
        by_end false is = subst (Knows s sf locals) (sym is) (knows_met_other s sf locals other one meet knows)

    pub merged_one : ended ≡ false → Knows s sf locals one → Knows s sf locals now
    merged_one goes knows = subst (Knows s sf locals) (sym (is ∙ ap (λ e. cond e other (kinds_met other one)) goes)) (knows_met_one s sf locals other one meet knows)
