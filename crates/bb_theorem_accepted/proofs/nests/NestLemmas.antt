-- Where the ops of a code may stand between the loops of a text, and that such a code passes what the verifier asks of
-- loops.
use Rattle.std.proofs.Common.{◌≡◌, ◌⊎◌, inl, inr, ℕ, ◌+◌, ◌<◌, ◌≤◌, Bool, true, false, ◌||◌, List, [], ◌∷◌, ◌++◌, Option, Some, None, refl, subst, sym, ap, ◌∙◌, arith}
use Rattle.std.specs.Prelude.{slice_get, nat_lt}
use Rattle.std.specs.List.{list_any}
use Rattle.std.proofs.lemmas.Bool.{ltb-true, ltb-false}
use Rattle.std.proofs.lemmas.List.Folds.{list_any-append}
use Rattle.bb_code.specs.declared.frame.Loop.{Loop}
use Rattle.bb_code.specs.Code.{Code}
use Rattle.bb_code.specs.declared.op.Op.{Op}
use Rattle.bb_code.specs.declared.op.Op.TheVariants as ops
use Rattle.bb_code.specs.Each.{each}
use Rattle.bb_verify.specs.nesting.Loops.{op_before, is_head, is_end}

-- the place to which an op goes where it fails, or always
abbrev pub exit_of : Op → Option ℕ
exit_of (ops.One slot target) = Some target
exit_of (ops.Alive target) = Some target
exit_of (ops.As class target) = Some target
exit_of (ops.Jump target) = Some target
exit_of (ops.Unless target) = Some target
exit_of op = None

abbrev pub Loops : (Loop → Type 0) → List Loop → Type 0
Loops P [] = Unit {0}
Loops P (l ∷ ls) = P l × Loops P ls

pub loops_on : (P : Loop → Type 0) (xs ys : List Loop) → Loops P xs → Loops P ys → Loops P (xs ++ ys)
loops_on P [] ys first then = then
loops_on P (l ∷ xs) ys first then = (first.0, loops_on P xs ys first.1 then)

pub loops_map : (P Q : Loop → Type 0) (ls : List Loop) → ((l : Loop) → P l → Q l) → Loops P ls → Loops Q ls
loops_map P Q [] each all = tt
loops_map P Q (l ∷ ls) each all = (each l all.0, loops_map P Q ls each all.1)

pub loops_both : (P Q R : Loop → Type 0) (ls : List Loop) → ((l : Loop) → P l → Q l → R l) → Loops P ls → Loops Q ls → Loops R ls
loops_both P Q R [] each one two = tt
loops_both P Q R (l ∷ ls) each one two = (each l one.0 two.0, loops_both P Q R ls each one.1 two.1)

-- what an op may do: it takes none of the locals that are watched, a Next stands at a head and a Back before an end,
-- and what goes elsewhere goes ahead, and not beyond a place
pub record May (watched : ℕ → Type 0) (bound : ℕ) (ls : List Loop) (p : ℕ) (op : Op) : Type 0 where
  pub store : (l : ℕ) → op ≡ ops.Store l → watched l → ⊥
  pub next : (l q : ℕ) → op ≡ ops.Next l q → (watched l → ⊥) × (q ≤ bound) × (list_any (is_head p) ls ≡ true)
  pub back : (q : ℕ) → op ≡ ops.Back q → list_any (is_end (p + 1)) ls ≡ true
  pub exit : (q : ℕ) → exit_of op ≡ Some q → (p < q) × (q ≤ bound)

-- what it may do in the body of a loop
pub record Inside (local end : ℕ) (op : Op) : Type 0 where
  pub store : (l : ℕ) → op ≡ ops.Store l → l ≡ local → ⊥
  pub next : (l q : ℕ) → op ≡ ops.Next l q → (l ≡ local → ⊥) × (q ≤ end)

-- what goes elsewhere from before a loop does not go into it
abbrev pub Passes : Loop → Op → Type 0
Passes l op = (q : ℕ) → exit_of op ≡ Some q → (q < l.head) ⊎ (l.end ≤ q)

any_left : (f : Loop → Bool) (xs ys : List Loop) → list_any f xs ≡ true → list_any f (xs ++ ys) ≡ true
any_left f xs ys h = list_any-append f xs ys ∙ ap (λ b. b || list_any f ys) h

any_right : (f : Loop → Bool) (xs ys : List Loop) → list_any f ys ≡ true → list_any f (xs ++ ys) ≡ true
any_right f xs ys h = list_any-append f xs ys ∙ (ap (λ b. list_any f xs || b) h ∙ either (list_any f xs))
  where
    either : (b : Bool) → (b || true) ≡ true
    either true = refl
    either false = refl

pub may_left : (watched : ℕ → Type 0) (low high : ℕ) (xs ys : List Loop) (p : ℕ) (op : Op) → low ≤ high → May watched low xs p op → May watched high (xs ++ ys) p op
may_left watched low high xs ys p op le m = record {
  store = m.store;
  next = λ l q is. let n = m.next l q is in let up = n.1 in (n.0, omega (arith, up, le), any_left (is_head p) xs ys n.2);
  back = λ q is. any_left (is_end (p + 1)) xs ys (m.back q is);
  exit = λ q is. let e = m.exit q is in let up = e.1 in (e.0, omega (arith, up, le));
}

pub may_right : (watched was : ℕ → Type 0) → ((l : ℕ) → was l → watched l) → (low high : ℕ) (xs ys : List Loop) (p : ℕ) (op : Op) → low ≤ high → May watched low ys p op → May was high (xs ++ ys) p op
may_right watched was so low high xs ys p op le m = record {
  store = λ l is w. m.store l is (so l w);
  next = λ l q is. let n = m.next l q is in let up = n.1 in ((λ w. n.0 (so l w)), omega (arith, up, le), any_right (is_head p) xs ys n.2);
  back = λ q is. any_right (is_end (p + 1)) xs ys (m.back q is);
  exit = λ q is. let e = m.exit q is in let up = e.1 in (e.0, omega (arith, up, le));
}

-- ops that go to one place, and take none of the locals that are watched
pub record Before (watched : ℕ → Type 0) (at : ℕ) (op : Op) : Type 0 where
  pub store : (l : ℕ) → op ≡ ops.Store l → watched l → ⊥
  pub next : (l q : ℕ) → op ≡ ops.Next l q → ⊥
  pub back : (q : ℕ) → op ≡ ops.Back q → ⊥
  pub exit : (q : ℕ) → exit_of op ≡ Some q → q ≡ at

may_before : (watched : ℕ → Type 0) (at bound : ℕ) (ls : List Loop) (p : ℕ) (op : Op) → p < at → at ≤ bound → Before watched at op → May watched bound ls p op
may_before watched at bound ls p op low le b = record {
  store = b.store;
  next = λ l q is. absurd (b.next l q is);
  back = λ q is. absurd (b.back q is);
  exit = λ q is. let e = b.exit q is in (omega (arith, e, low), omega (arith, e, le));
}

module _ (code : Code) where
  -- of each op from a place up to another
  abbrev pub Each : (from to : ℕ) → (ℕ → Op → Type 0) → Type 0
  Each from to P = (p : ℕ) (op : Op) → from ≤ p → p < to → slice_get code.ops p ≡ Some op → P p op

  pub each_on : (P : ℕ → Op → Type 0) (from mid to : ℕ) → Each from mid P → Each mid to P → Each from to P
  each_on P from mid to first then p op low high at = by_place (nat_lt p mid) refl
    where
      by_place : (b : Bool) → nat_lt p mid ≡ b → P p op
      by_place true h = first p op low (ltb-true p mid h) at
      by_place false h = then p op (ltb-false p mid h) high at

  pub each_one : (P : ℕ → Op → Type 0) (place : ℕ) (op : Op) → slice_get code.ops place ≡ Some op → P place op → Each place (place + 1) P
  each_one P place op is own p other low high at =
      let same : place ≡ p = omega (arith, low, high) in
      subst (λ n. P n other) same (subst (P place) (let e : op ≡ other = (let both : Some op ≡ Some other = sym is ∙ (ap (slice_get code.ops) same ∙ at) in cc) in e) own)

  -- a loop begins and ends as it has to, and its body leaves its local
  pub record Fine (l : Loop) : Type 0 where
    pub local : ℕ
    pub at_head : slice_get code.ops l.head ≡ Some (ops.Next local l.end)
    pub at_end : op_before code l.end ≡ Some (ops.Back l.head)
    pub inside : Each (l.head + 1) l.end (λ p op. Inside local l.end op)

  -- of the ops from a place up to another, and of the loops between
  pub record Nest (watched : ℕ → Type 0) (from to bound : ℕ) (ls : List Loop) : Type 0 where
    pub may : Each from to (May watched bound ls)
    pub fine : Loops Fine ls
    pub passes : Loops (λ l. Each from l.head (λ p op. Passes l op)) ls

  -- ---- one part after another

  pub nest_on : (watched then_watched : ℕ → Type 0) → ((l : ℕ) → watched l → then_watched l) → (from mid low to : ℕ) (xs ys : List Loop) → low ≤ to → Loops (λ l. low < l.head) ys
      → Nest watched from mid low xs → Nest then_watched mid to to ys → Nest watched from to to (xs ++ ys)
  nest_on watched then_watched so from mid low to xs ys le behind first then = record {
    may = each_on (May watched to (xs ++ ys)) from mid to (λ p op a b at. may_left watched low to xs ys p op le (first.may p op a b at))
        (λ p op a b at. may_right then_watched watched so to to xs ys p op (omega arith) (then.may p op a b at));
    fine = loops_on Fine xs ys first.fine then.fine;
    passes = loops_on (λ l. Each from l.head (λ p op. Passes l op)) xs ys first.passes
        (loops_both (λ l. low < l.head) (λ l. Each mid l.head (λ p op. Passes l op)) (λ l. Each from l.head (λ p op. Passes l op)) ys
        (λ l up own. each_on (λ p op. Passes l op) from mid l.head (λ p op a b at q is. inl (let e = (first.may p op a b at).exit q is in let top = e.1 in omega (arith, top, up))) own) behind then.passes);
  }

  -- ops that go after a block come before it
  pub nest_before : (watched then_watched : ℕ → Type 0) → ((l : ℕ) → watched l → then_watched l) → (from mid to at : ℕ) (ls : List Loop) → mid ≤ at → to ≤ at → Loops (λ l. l.end ≤ to) ls
      → Each from mid (λ p op. Before watched at op) → Nest then_watched mid to to ls → Nest watched from to at ls
  nest_before watched then_watched so from mid to at ls low le within first then = record {
    may = each_on (May watched at ls) from mid to (λ p op a b there. may_before watched at at ls p op (omega (arith, b, low)) (omega arith) (first p op a b there))
        (λ p op a b there. may_right then_watched watched so to at [] ls p op le (then.may p op a b there));
    fine = then.fine;
    passes = loops_both (λ l. l.end ≤ to) (λ l. Each mid l.head (λ p op. Passes l op)) (λ l. Each from l.head (λ p op. Passes l op)) ls
        (λ l top own. each_on (λ p op. Passes l op) from mid l.head (λ p op a b there q is. inr (let e = (first p op a b there).exit q is in omega (arith, e, top, le))) own) within then.passes;
  }

  -- ops that go nowhere else
  pub nest_none : (watched : ℕ → Type 0) (from to : ℕ) → Each from to (May watched to []) → Nest watched from to to []
  nest_none watched from to may = record { may = may; fine = tt; passes = tt }
