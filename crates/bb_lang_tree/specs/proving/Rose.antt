-- Trees with a label at each node. Other trees are stored as these.
use Rattle.std.specs.Prelude.{◌≡◌, ℕ, ◌+◌, suc}
use Rattle.std.proofs.Common.{refl, ap, ◌∙◌}
use Rattle.std.specs.Coded.{Coded}
use base.Stored.{Gv, gnil, gcons}

mutual
  pub data Rose (A : Type 0) : Type 0 where
    node : A → Roses A → Rose A

  pub data Roses (A : Type 0) : Type 0 where
    none : Roses A
    one_more : Rose A → Roses A → Roses A

-- the number of nodes
abbrev mutual
  pub nodes : {A : Type 0} → Rose A → ℕ
  nodes (node a rs) = suc (all_nodes rs)

  pub all_nodes : {A : Type 0} → Roses A → ℕ
  all_nodes none = 0
  all_nodes (one_more r rs) = nodes r + all_nodes rs

module _ {A : Type 0} (c : Coded A) where
  abbrev mutual
    stored : Rose A → Gv
    stored (node a rs) = gcons (c.code a) (all_stored rs)

    all_stored : Roses A → Gv
    all_stored none = gnil
    all_stored (one_more r rs) = gcons (stored r) (all_stored rs)

  mutual
    pub same : (r s : Rose A) → stored r ≡ stored s → r ≡ s
    same (node a rs) (node b ss) h =
        let labels : c.code a ≡ c.code b = cc in
        let parts : all_stored rs ≡ all_stored ss = cc in
        ap (λ x. node x rs) (c.inj a b labels) ∙ ap (node b) (all_same rs ss parts)

    pub all_same : (rs ss : Roses A) → all_stored rs ≡ all_stored ss → rs ≡ ss
    all_same none none h = refl
    all_same none (one_more s ss) h = cc
    all_same (one_more r rs) none h = cc
    all_same (one_more r rs) (one_more s ss) h =
        let first : stored r ≡ stored s = cc in
        let others : all_stored rs ≡ all_stored ss = cc in
        ap (λ x. one_more x rs) (same r s first) ∙ ap (one_more s) (all_same rs ss others)

  abbrev pub rose_code : Coded (Rose A)
  rose_code = record { code = stored; inj = same }
