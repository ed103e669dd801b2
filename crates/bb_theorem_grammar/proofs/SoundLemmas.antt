-- What holds of what a reader gives, part by part: nothing is asked of a fault.
use Rattle.std.proofs.Common.{◌≡◌, ℕ, ◌≤◌, Bool, true, false, cond, List, [], ◌++◌, length, take, drop, Option, Some, None, Result, Ok, Err, refl, sym, ap, subst, ◌∙◌, arith, length-append}
use Rattle.std.proofs.lemmas.List.{take-append-drop}
use Rattle.std.proofs.lemmas.Slice.Eq.{bytes_eq-Decides}
use Rattle.bb_basis.specs.Results.{◌>>=◌, ok_or}
use Rattle.bb_basis.proofs.ResultLemmas.{bind_ok, same_ok}
use Rattle.bb_lang_tree.specs.declared.fault.LangFault.{LangFault}
use Rattle.bb_lang_tree.specs.declared.fault.LangFault.TheVariants.{Character, Token}
use Rattle.bb_lang_tree.specs.declared.scan.TokenKind.{TokenKind}
use Rattle.bb_lang_tree.specs.Places.{place_after}
use Rattle.bb_lang_tree.specs.Tokens.{blank_len, token_at}
use Rattle.bb_lang_tree.specs.State.{State, next, at_token, at, skip, left}
use Rattle.bb_theorem_grammar.specs.Tokens.{AreBlanks, IsToken, IsCut, Next, Takes}
use Rattle.bb_theorem_grammar.proofs.TokenLemmas.{blanks_passed, AreAt, token_found}

-- a state stands at a token
abbrev pub Stands : State → Type 0
Stands s = IsToken s.rest s.kind s.token

-- what a reader gives holds, the text after it is no longer than that before, and what was read is tokens
pub record Sound {X : Type 0} (s : State) (P : X → State → Type 0) (r : Result (X × State) LangFault) : Type 0 where
  pub holds : (x : X) (t : State) → r ≡ Ok (x, t) → P x t
  pub later : (x : X) (t : State) → r ≡ Ok (x, t) → left t ≤ left s
  pub cut : (x : X) (t : State) → r ≡ Ok (x, t) → IsCut t.rest → IsCut s.rest

-- the same of what gives a state alone
pub record Moves (s : State) (P : State → Type 0) (r : Result State LangFault) : Type 0 where
  pub holds : (t : State) → r ≡ Ok t → P t
  pub later : (t : State) → r ≡ Ok t → left t ≤ left s
  pub cut : (t : State) → r ≡ Ok t → IsCut t.rest → IsCut s.rest

-- the same, with what is read before what holds of it
abbrev pub Read : {X : Type 0} → State → Result (X × State) LangFault → (X → State → Type 0) → Type 0
Read s r P = Sound s P r

-- ---- one after another

pub by_read : {X Y : Type 0} {s : State} {P : X → State → Type 0} {Q : Y → State → Type 0} {r : Result (X × State) LangFault} (k : X × State → Result (Y × State) LangFault)
    → Sound s P r → ((x : X) (t : State) → P x t → Sound t Q (k (x, t))) → Sound s Q (r >>= k)
by_read {r = r} k first rest = record {
  holds = λ y u h.
      let one = bind_ok r k (y, u) h in
      (rest one.0.0 one.0.1 (first.holds one.0.0 one.0.1 one.1)).holds y u one.2;
  later = λ y u h.
      let one = bind_ok r k (y, u) h in
      let a = first.later one.0.0 one.0.1 one.1 in
      let b = (rest one.0.0 one.0.1 (first.holds one.0.0 one.0.1 one.1)).later y u one.2 in
      omega (arith, a, b);
  cut = λ y u h c.
      let one = bind_ok r k (y, u) h in
      first.cut one.0.0 one.0.1 one.1 ((rest one.0.0 one.0.1 (first.holds one.0.0 one.0.1 one.1)).cut y u one.2 c);
}

pub by_move : {Y : Type 0} {s : State} {P : State → Type 0} {Q : Y → State → Type 0} {r : Result State LangFault} (k : State → Result (Y × State) LangFault)
    → Moves s P r → ((t : State) → P t → Sound t Q (k t)) → Sound s Q (r >>= k)
by_move {r = r} k first rest = record {
  holds = λ y u h.
      let one = bind_ok r k (y, u) h in
      (rest one.0 (first.holds one.0 one.1)).holds y u one.2;
  later = λ y u h.
      let one = bind_ok r k (y, u) h in
      let a = first.later one.0 one.1 in
      let b = (rest one.0 (first.holds one.0 one.1)).later y u one.2 in
      omega (arith, a, b);
  cut = λ y u h c.
      let one = bind_ok r k (y, u) h in
      first.cut one.0 one.1 ((rest one.0 (first.holds one.0 one.1)).cut y u one.2 c);
}

-- a value that moves nothing
pub by_value : {A Y : Type 0} {s : State} {Q : Y → State → Type 0} (r : Result A LangFault) (k : A → Result (Y × State) LangFault)
    → ((a : A) → r ≡ Ok a → Sound s Q (k a)) → Sound s Q (r >>= k)
by_value r k rest = record {
  holds = λ y u h. let one = bind_ok r k (y, u) h in (rest one.0 one.1).holds y u one.2;
  later = λ y u h. let one = bind_ok r k (y, u) h in (rest one.0 one.1).later y u one.2;
  cut = λ y u h c. let one = bind_ok r k (y, u) h in (rest one.0 one.1).cut y u one.2 c;
}

pub by_ok : {X : Type 0} {Q : X → State → Type 0} (x : X) (s t : State) → left t ≤ left s → s.rest ≡ t.rest → Q x t → Sound s Q (Ok (x, t))
by_ok {Q = Q} x s t le same q = record {
  holds = λ y u h. subst (λ p. Q p.0 p.1) (same_ok (x, t) (y, u) h) q;
  later = λ y u h. let at : left t ≡ left u = ap (λ p. left p.1) (same_ok (x, t) (y, u) h) in omega (arith, le, at);
  cut = λ y u h c. subst IsCut (sym (same ∙ ap (λ p. p.1.rest) (same_ok (x, t) (y, u) h))) c;
}

-- at the end of a reader
pub done : {X : Type 0} {Q : X → State → Type 0} {x : X} {s : State} → Q x s → Sound s Q (Ok (x, s))
done {x = x} {s = s} q = by_ok x s s (omega arith) refl q

pub fails : {X : Type 0} {s : State} {Q : X → State → Type 0} (e : LangFault) → Sound s Q (Err e)
fails e = record { holds = λ y u h. absurd cc; later = λ y u h. absurd cc; cut = λ y u h c. absurd cc }

pub by_if : {X : Type 0} {s : State} {Q : X → State → Type 0} (b : Bool) (x y : Result (X × State) LangFault) → (b ≡ true → Sound s Q x) → (b ≡ false → Sound s Q y) → Sound s Q (cond b x y)
by_if true x y f g = f refl
by_if false x y f g = g refl

-- what holds of the parts of a text holds of a whole that asks for less
pub weaker : {X : Type 0} {s : State} {P Q : X → State → Type 0} {r : Result (X × State) LangFault} → Sound s P r → ((x : X) (t : State) → P x t → Q x t) → Sound s Q r
weaker h f = record { holds = λ x t is. f x t (h.holds x t is); later = h.later; cut = h.cut }

-- from a state that has more left
pub from_more : {X : Type 0} {P : X → State → Type 0} {r : Result (X × State) LangFault} (s t : State) → left s ≤ left t → t.rest ≡ s.rest → Sound s P r → Sound t P r
from_more s t le same h = record {
  holds = h.holds;
  later = λ x u is. let a = h.later x u is in omega (arith, le, a);
  cut = λ x u is c. subst IsCut (sym same) (h.cut x u is c);
}

-- ---- tokens

pub next_left : (s t : State) → Next s t → left t ≤ length s.rest
next_left s t n =
    let all : length s.rest ≡ length (n.blanks ++ (t.token ++ t.rest)) = ap length n.text in
    omega (arith, all, length-append n.blanks (t.token ++ t.rest), length-append t.token t.rest)

moved_to : (s : State) (n : ℕ) (bs : List ℕ) (o : Option (TokenKind × ℕ)) → bs ≡ drop n s.rest → AreBlanks bs (take n s.rest) → AreAt bs o → (t : State)
    → (ok_or o (Character (place_after (place_after s.place s.token) (take n s.rest))) >>= λ p. Ok (record { kind = p.0; token = take p.1 bs; place = place_after (place_after s.place s.token) (take n s.rest); rest = drop p.1 bs; scope = s.scope; sources = s.sources })) ≡ Ok t
    → Next s t
moved_to s n bs None same blanks found t h = absurd cc
moved_to s n bs (Some p) same blanks found t h =
    subst (Next s) (same_ok _ t h) (record {
      blanks = take n s.rest;
      text = sym (take-append-drop n s.rest) ∙ ap (λ l. take n s.rest ++ l) (sym same ∙ sym (take-append-drop p.1 bs));
      are_blanks = subst (λ l. AreBlanks l (take n s.rest)) (sym (take-append-drop p.1 bs)) blanks;
      is_token = found;
      place = refl;
      scope = refl;
      sources = refl;
    })

pub next_is : (s t : State) → next s ≡ Ok t → Next s t
unfolding next at_token
next_is s t h = moved_to s (blank_len false s.rest) (drop (blank_len false s.rest) s.rest) (token_at (drop (blank_len false s.rest) s.rest)) refl (blanks_passed s.rest) (token_found (drop (blank_len false s.rest) s.rest)) t h

pub next_cut : (s t : State) → Next s t → IsCut t.rest → IsCut s.rest
next_cut s t n c = subst IsCut (sym n.text) (IsCut.token_first n.are_blanks n.is_token c)

pub next_moves : (s : State) → Moves s (Next s) (next s)
next_moves s = record {
  holds = λ t h. next_is s t h;
  later = λ t h. let n = next_left s t (next_is s t h) in omega (arith, n);
  cut = λ t h c. next_cut s t (next_is s t h) c;
}

-- the text after the token, where what is read is shorter than what it began with
abbrev pub behind : State → State
behind s = record s { token = [] }

pub next_strict : (s : State) → Moves (behind s) (Next s) (next s)
next_strict s = record {
  holds = λ t h. next_is s t h;
  later = λ t h. let n = next_left s t (next_is s t h) in omega (arith, n);
  cut = λ t h c. next_cut s t (next_is s t h) c;
}

pub at_is : (word : List ℕ) (s : State) → at word s ≡ true → s.token ≡ word
at_is word s is = (bytes_eq-Decides s.token word).0 is

pub takes : (word : List ℕ) (s t : State) → at word s ≡ true → Next s t → Takes word s t
takes word s t is n = record { is = at_is word s is; next = n }

skip_by : (word : List ℕ) (s : State) (b : Bool) (t : State) → at word s ≡ b → cond b (next s) (Err (Token s.place)) ≡ Ok t → Takes word s t
skip_by word s true t is h = takes word s t is (next_is s t h)
skip_by word s false t is h = absurd cc

pub skip_is : (word : List ℕ) (s t : State) → skip word s ≡ Ok t → Takes word s t
unfolding skip
skip_is word s t h = skip_by word s (at word s) t refl h

pub skip_strict : (word : List ℕ) (s : State) → Moves (behind s) (Takes word s) (skip word s)
skip_strict word s = record {
  holds = λ t h. skip_is word s t h;
  later = λ t h. let n = next_left s t (skip_is word s t h).next in omega (arith, n);
  cut = λ t h c. next_cut s t (skip_is word s t h).next c;
}

pub skip_moves : (word : List ℕ) (s : State) → Moves s (Takes word s) (skip word s)
skip_moves word s = record {
  holds = λ t h. skip_is word s t h;
  later = λ t h. let n = next_left s t (skip_is word s t h).next in omega (arith, n);
  cut = λ t h c. next_cut s t (skip_is word s t h).next c;
}
