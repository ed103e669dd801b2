-- Where the ops of a test and of the blocks after it stand, once all of them are aimed. A test has one op that goes
-- elsewhere, or two, one after the other.
use Rattle.std.proofs.Common.{◌≡◌, ℕ, zero, suc, ◌+◌, ◌≤◌, Bool, true, false, List, [], ◌∷◌, ◌++◌, length, Some, refl, sym, ap, ◌∙◌, arith, length-append, append_assoc}
use Rattle.std.specs.Prelude.{slice_get, ◌==◌}
use Rattle.std.proofs.Math.Seq.{set-append_seam}
use Rattle.std.proofs.lemmas.Bool.{eqb-true}
use Rattle.std.proofs.lemmas.List.{append-nil}
use Rattle.bb_code.specs.Code.{Code}
use Rattle.bb_code.specs.declared.op.Op.{Op}
use Rattle.bb_code.specs.declared.op.Op.TheVariants as ops
use Rattle.bb_compile_buffer.specs.declared.buffer.Buffer.{Buffer}
use Rattle.bb_compile_buffer.specs.Buffers.{aimed, with_aimed, aimed_at}
use Rattle.bb_theorem_accepted.proofs.buffers.BufferLemmas.{Grown, Has, is_open, both_grown, seam, front}

pub no_place : (n : ℕ) → 1 ≤ n → (n == 0) ≡ false
no_place n some = by_test (n == 0) refl
  where
    by_test : (b : Bool) → (n == 0) ≡ b → b ≡ false
    by_test true h = let e = eqb-true n 0 h in absurd (omega (arith, e, some))
    by_test false h = refl

-- an op that is aimed
pub aimed_seam : (xs ys : List Op) (op : Op) → aimed_at (length xs) (xs ++ op ∷ ys) ≡ xs ++ aimed op (length (xs ++ op ∷ ys)) ∷ ys
aimed_seam xs ys op =
    ap (with_aimed (xs ++ op ∷ ys) (length xs)) (seam xs ys op) ∙ set-append_seam xs op ys (aimed op (length (xs ++ op ∷ ys)))

-- ---- ops that are aimed, one after the other

abbrev pub all_aimed : List Op → (at : ℕ) → List Op
all_aimed [] at = []
all_aimed (o ∷ es) at = aimed o at ∷ all_aimed es at

-- each of some ops from a place on goes to the end
abbrev pub aims : (from count : ℕ) → List Op → List Op
aims from zero l = l
aims from (suc count) l = aims (from + 1) count (aimed_at from l)

abbrev pub aims_on : (from count : ℕ) → Buffer → Buffer
aims_on from count s = record s { ops = aims from count s.ops }

abbrev pub AreOpen : List Op → Type 0
AreOpen [] = Unit {0}
AreOpen (o ∷ es) = (is_open o ≡ true) × AreOpen es

pub same_aimed : (es : List Op) (at : ℕ) → length es ≡ length (all_aimed es at)
same_aimed [] at = refl
same_aimed (o ∷ es) at = ap suc (same_aimed es at)

pub aims_seam : (xs es ys : List Op) → aims (length xs) (length es) (xs ++ (es ++ ys)) ≡ xs ++ (all_aimed es (length (xs ++ (es ++ ys))) ++ ys)
aims_seam xs [] ys = refl
aims_seam xs (e ∷ es) ys =
    let n = length (xs ++ e ∷ (es ++ ys)) in
    let front = xs ++ aimed e n ∷ [] in
    let place : length front ≡ length xs + 1 = length-append xs (aimed e n ∷ []) in
    let first : aimed_at (length xs) (xs ++ e ∷ (es ++ ys)) ≡ front ++ (es ++ ys) = aimed_seam xs (es ++ ys) e ∙ sym (append_assoc xs (aimed e n ∷ []) (es ++ ys)) in
    let count : length (front ++ (es ++ ys)) ≡ n =
    ap length (append_assoc xs (aimed e n ∷ []) (es ++ ys)) ∙ (length-append xs (aimed e n ∷ (es ++ ys)) ∙ sym (length-append xs (e ∷ (es ++ ys)))) in
    ap (aims (length xs + 1) (length es)) first
    ∙ (ap (λ k. aims k (length es) (front ++ (es ++ ys))) (sym place)
    ∙ (aims_seam front es ys ∙ (ap (λ k. front ++ (all_aimed es k ++ ys)) count ∙ append_assoc xs (aimed e n ∷ []) (all_aimed es n ++ ys))))

-- where open ops are aimed and others come after, each op that is not open stays at its place
closed_stays : (xs es ps ys zs : List Op) (i : ℕ) (op : Op) → length es ≡ length ps → AreOpen es → slice_get (xs ++ (es ++ ys)) i ≡ Some op → is_open op ≡ false → slice_get (xs ++ (ps ++ (ys ++ zs))) i ≡ Some op
closed_stays [] [] [] [] zs i op count opens at closed = absurd cc
closed_stays [] [] [] (y ∷ ys) zs zero op count opens at closed = at
closed_stays [] [] [] (y ∷ ys) zs (suc i) op count opens at closed = closed_stays [] [] [] ys zs i op count opens at closed
closed_stays [] [] (p ∷ ps) ys zs i op count opens at closed = absurd cc
closed_stays [] (e ∷ es) [] ys zs i op count opens at closed = absurd cc
closed_stays [] (e ∷ es) (p ∷ ps) ys zs zero op count opens at closed = absurd (let same : e ≡ op = cc in let no : true ≡ false = sym opens.0 ∙ (ap is_open same ∙ closed) in cc)
closed_stays [] (e ∷ es) (p ∷ ps) ys zs (suc i) op count opens at closed = closed_stays [] es ps ys zs i op (let down : length es ≡ length ps = omega (arith, count) in down) opens.1 at closed
closed_stays (x ∷ xs) es ps ys zs zero op count opens at closed = at
closed_stays (x ∷ xs) es ps ys zs (suc i) op count opens at closed = closed_stays xs es ps ys zs i op count opens at closed

-- a code has what a buffer has, where some of the buffer's ops are aimed later
pub has_aimed : (code : Code) (v t : Buffer) (xs es ps ys zs : List Op) → length es ≡ length ps → AreOpen es → v.ops ≡ xs ++ (es ++ ys) → t.ops ≡ xs ++ (ps ++ (ys ++ zs)) → Grown v (record t { ops = v.ops }) → Has code t → Has code v
has_aimed code v t xs es ps ys zs count opens was is g h = record {
  ops = λ i op at closed.
      h.ops i op (ap (λ l. slice_get l i) is ∙ closed_stays xs es ps ys zs i op count opens (ap (λ l. slice_get l i) (sym was) ∙ at) closed) closed;
  texts = g.texts ++ h.texts;
  texts_are = h.texts_are ∙ (ap (λ l. l ++ h.texts) g.texts_are ∙ append_assoc v.texts g.texts h.texts);
  queries = g.queries ++ h.queries;
  queries_are = h.queries_are ∙ (ap (λ l. l ++ h.queries) g.queries_are ∙ append_assoc v.queries g.queries h.queries);
}

-- a buffer with other ops has the same texts and queries more
pub same_more : (v t : Buffer) → t.texts ≡ v.texts → t.queries ≡ v.queries → Grown v (record t { ops = v.ops })
same_more v t x q = record { ops = []; ops_are = sym (append-nil v.ops); texts = []; texts_are = x ∙ sym (append-nil v.texts); queries = []; queries_are = q ∙ sym (append-nil v.queries) }

-- so has one that is after another block
pub more_after : (v x y t : Buffer) → x.texts ≡ v.texts → x.queries ≡ v.queries → Grown x y → t.texts ≡ y.texts → t.queries ≡ y.queries → Grown v (record t { ops = v.ops })
more_after v x y t x_texts x_queries h t_texts t_queries = record {
  ops = [];
  ops_are = sym (append-nil v.ops);
  texts = h.texts;
  texts_are = t_texts ∙ (h.texts_are ∙ ap (λ l. l ++ h.texts) x_texts);
  queries = h.queries;
  queries_are = t_queries ∙ (h.queries_are ∙ ap (λ l. l ++ h.queries) x_queries);
}

-- what stands in the middle of a list
there_at : (xs ps ys : List Op) (i : ℕ) (p : Op) → slice_get ps i ≡ Some p → slice_get (xs ++ (ps ++ ys)) (length xs + i) ≡ Some p
there_at [] ps ys i p at = ap (slice_get (ps ++ ys)) (let e : 0 + i ≡ i = omega arith in e) ∙ front ps ys i p at
there_at (x ∷ xs) ps ys i p at = ap (slice_get (x ∷ (xs ++ (ps ++ ys)))) (let e : suc (length xs) + i ≡ suc (length xs + i) = omega arith in e) ∙ there_at xs ps ys i p at

all_at : (es : List Op) (i : ℕ) (o : Op) (at : ℕ) → slice_get es i ≡ Some o → slice_get (all_aimed es at) i ≡ Some (aimed o at)
all_at [] i o at own = absurd cc
all_at (e ∷ es) zero o at own = ap (λ x. Some (aimed x at)) (let same : e ≡ o = cc in same)
all_at (e ∷ es) (suc i) o at own = all_at es i o at own

-- an op that is aimed goes to a place
closed_aimed : (o : Op) (at : ℕ) → is_open o ≡ true → 1 ≤ at → is_open (aimed o at) ≡ false
closed_aimed (ops.One slot place) at opens some = no_place at some
closed_aimed (ops.Alive place) at opens some = no_place at some
closed_aimed (ops.As class place) at opens some = no_place at some
closed_aimed (ops.Jump place) at opens some = no_place at some
closed_aimed (ops.Unless place) at opens some = no_place at some
closed_aimed (ops.Next local place) at opens some = no_place at some
closed_aimed _ at opens some = absurd cc

-- the ops of a code from a place on go to another place
abbrev pub AreAimed : Code → (at place : ℕ) → List Op → Type 0
AreAimed code at place [] = Unit {0}
AreAimed code at place (o ∷ es) = (slice_get code.ops place ≡ Some (aimed o at)) × AreAimed code at (place + 1) es

each_aimed : (code : Code) (at place : ℕ) (es : List Op) → AreOpen es → ((i : ℕ) (o : Op) → slice_get es i ≡ Some o → is_open o ≡ true → slice_get code.ops (place + i) ≡ Some (aimed o at)) → AreAimed code at place es
each_aimed code at place [] opens each = tt
each_aimed code at place (e ∷ es) opens each = (
  ap (slice_get code.ops) (let same : place ≡ place + 0 = omega arith in same) ∙ each 0 e refl opens.0,
  each_aimed code at (place + 1) es opens.1 (λ i o own going. ap (slice_get code.ops) (let same : place + 1 + i ≡ place + suc i = omega arith in same) ∙ each (suc i) o own going),
)

cut_at : (xs ps ys zs : List Op) → (xs ++ (ps ++ ys)) ++ zs ≡ xs ++ (ps ++ (ys ++ zs))
cut_at xs ps ys zs = append_assoc xs (ps ++ ys) zs ∙ ap (λ l. xs ++ l) (append_assoc ps ys zs)

-- after a test, of which ops go to a place ahead, comes a block
module _ (a u v : Buffer) (es : List Op) (some : 1 ≤ length es) (put_ops : u.ops ≡ a.ops ++ es) (put_texts : u.texts ≡ a.texts) (put_queries : u.queries ≡ a.queries) (g : Grown u v) where
  pub block_ops : v.ops ≡ a.ops ++ (es ++ g.ops)
  block_ops = g.ops_are ∙ (ap (λ l. l ++ g.ops) put_ops ∙ append_assoc a.ops es g.ops)

  -- the places of a list with ops of this number in the middle
  appended_length : (ps ys : List Op) → length es ≡ length ps → length (a.ops ++ (ps ++ ys)) ≡ length a.ops + length es + length ys
  appended_length ps ys same =
      let whole : length (a.ops ++ (ps ++ ys)) ≡ length a.ops + length (ps ++ ys) = length-append a.ops (ps ++ ys) in
      let both : length (ps ++ ys) ≡ length ps + length ys = length-append ps ys in
      omega (arith, whole, both, same)

  block_places : length v.ops ≡ length a.ops + length es + length g.ops
  block_places = ap length block_ops ∙ appended_length es g.ops refl

  pub block_texts : v.texts ≡ a.texts ++ g.texts
  block_texts = g.texts_are ∙ ap (λ l. l ++ g.texts) put_texts

  pub block_queries : v.queries ≡ a.queries ++ g.queries
  block_queries = g.queries_are ∙ ap (λ l. l ++ g.queries) put_queries

  pub block_count : length a.ops + 1 ≤ length v.ops
  block_count = let count = block_places in omega (arith, count, some)

  -- they are aimed, and there are more after the block
  module _ (t : Buffer) (at : ℕ) (more : List Op) (is : t.ops ≡ a.ops ++ (all_aimed es at ++ (g.ops ++ more))) (h : Grown v (record t { ops = v.ops })) where
    unfoldable pub aims_grown : Grown a t
    aims_grown = record {
      ops = all_aimed es at ++ (g.ops ++ more);
      ops_are = is;
      texts = g.texts ++ h.texts;
      texts_are = both_grown a.texts v.texts t.texts g.texts h.texts block_texts h.texts_are;
      queries = g.queries ++ h.queries;
      queries_are = both_grown a.queries v.queries t.queries g.queries h.queries block_queries h.queries_are;
    }

    pub aims_count : length t.ops ≡ length v.ops + length more
    aims_count =
        let whole : length t.ops ≡ length a.ops + length es + length (g.ops ++ more) = ap length is ∙ appended_length (all_aimed es at) (g.ops ++ more) (same_aimed es at) in
        let both : length (g.ops ++ more) ≡ length g.ops + length more = length-append g.ops more in
        let block = block_places in
        omega (arith, whole, both, block)

    pub aims_has : (code : Code) → AreOpen es → Has code t → Has code v
    aims_has code opens has = has_aimed code v t a.ops es (all_aimed es at) g.ops more (same_aimed es at) opens block_ops is h has

    pub aims_there : (code : Code) → 1 ≤ at → AreOpen es → Has code t → AreAimed code at (length a.ops) es
    aims_there code ahead opens has =
        each_aimed code at (length a.ops) es opens
        (λ i o own going.
        has.ops (length a.ops + i) (aimed o at) (ap (λ l. slice_get l (length a.ops + i)) is ∙ there_at a.ops (all_aimed es at) (g.ops ++ more) i (aimed o at) (all_at es i o at own)) (closed_aimed o at going ahead))

  -- they are aimed after the block
  pub aimed_behind : aims (length a.ops) (length es) v.ops ≡ a.ops ++ (all_aimed es (length v.ops) ++ (g.ops ++ []))
  aimed_behind =
      ap (aims (length a.ops) (length es)) block_ops ∙ (aims_seam a.ops es g.ops
      ∙ (ap (λ l. a.ops ++ (all_aimed es (length l) ++ g.ops)) (sym block_ops) ∙ ap (λ l. a.ops ++ (all_aimed es (length v.ops) ++ l)) (sym (append-nil g.ops))))

  pub behind_count : length (aims (length a.ops) (length es) v.ops) ≡ length v.ops
  behind_count =
      let whole : length (aims (length a.ops) (length es) v.ops) ≡ length a.ops + length es + length (g.ops ++ []) =
      ap length aimed_behind ∙ appended_length (all_aimed es (length v.ops)) (g.ops ++ []) (same_aimed es (length v.ops)) in
      let none : length (g.ops ++ []) ≡ length g.ops = ap length (append-nil g.ops) in
      let block = block_places in
      omega (arith, whole, none, block)

  -- another block comes right after
  pub aimed_before : (x y : Buffer) → x.ops ≡ aims (length a.ops) (length es) v.ops → (h : Grown x y) → y.ops ≡ a.ops ++ (all_aimed es (length v.ops) ++ (g.ops ++ h.ops))
  aimed_before x y is h =
      h.ops_are ∙ (ap (λ l. l ++ h.ops) (is ∙ (aimed_behind ∙ ap (λ l. a.ops ++ (all_aimed es (length v.ops) ++ l)) (append-nil g.ops)))
      ∙ cut_at a.ops (all_aimed es (length v.ops)) g.ops h.ops)

  -- a jump over another block comes after, and then that block
  module _ (x y t : Buffer) (x_is : x.ops ≡ aims (length a.ops) (length es) (v.ops ++ ops.Jump 0 ∷ [])) (h : Grown x y) (t_is : t.ops ≡ aimed_at (length v.ops) y.ops) where
    abbrev jump : List Op
    jump = ops.Jump 0 ∷ []

    all_ops : v.ops ++ jump ≡ a.ops ++ (es ++ (g.ops ++ jump))
    all_ops = ap (λ l. l ++ jump) block_ops ∙ cut_at a.ops es g.ops jump

    with_jump : x.ops ≡ a.ops ++ (all_aimed es (length (v.ops ++ jump)) ++ (g.ops ++ jump))
    with_jump =
        x_is ∙ (ap (aims (length a.ops) (length es)) all_ops ∙ (aims_seam a.ops es (g.ops ++ jump) ∙ ap (λ l. a.ops ++ (all_aimed es (length l) ++ (g.ops ++ jump))) (sym all_ops)))

    same_count : length (v.ops ++ jump) ≡ length x.ops
    same_count =
        ap length all_ops ∙ (appended_length es (g.ops ++ jump) refl
        ∙ (sym (appended_length (all_aimed es (length (v.ops ++ jump))) (g.ops ++ jump) (same_aimed es (length (v.ops ++ jump)))) ∙ ap length (sym with_jump)))

    pub jump_count : length x.ops ≡ length v.ops + 1
    jump_count = sym same_count ∙ length-append v.ops jump

    abbrev now : List Op
    now = all_aimed es (length x.ops)

    begin_is : x.ops ≡ a.ops ++ (now ++ (g.ops ++ jump))
    begin_is = with_jump ∙ ap (λ n. a.ops ++ (all_aimed es n ++ (g.ops ++ jump))) same_count

    pub open_is : y.ops ≡ a.ops ++ (now ++ (g.ops ++ (ops.Jump 0 ∷ h.ops)))
    open_is =
        h.ops_are ∙ (ap (λ l. l ++ h.ops) begin_is ∙ (cut_at a.ops now (g.ops ++ jump) h.ops
        ∙ ap (λ l. a.ops ++ (now ++ l)) (append_assoc g.ops jump h.ops)))

    abbrev until : List Op
    until = a.ops ++ (now ++ g.ops)

    until_count : length v.ops ≡ length until
    until_count = block_places ∙ sym (appended_length now g.ops (same_aimed es (length x.ops)))

    cut : (l : List Op) → until ++ l ≡ a.ops ++ (now ++ (g.ops ++ l))
    cut l = cut_at a.ops now g.ops l

    open_cut : y.ops ≡ until ++ ops.Jump 0 ∷ h.ops
    open_cut = open_is ∙ sym (cut (ops.Jump 0 ∷ h.ops))

    closed_cut : t.ops ≡ until ++ ops.Jump (length y.ops) ∷ h.ops
    closed_cut =
        t_is ∙ (ap (λ n. aimed_at n y.ops) until_count ∙ (ap (aimed_at (length until)) open_cut ∙ (aimed_seam until h.ops (ops.Jump 0)
        ∙ ap (λ l. until ++ ops.Jump (length l) ∷ h.ops) (sym open_cut))))

    pub closed_is : t.ops ≡ a.ops ++ (now ++ (g.ops ++ (ops.Jump (length y.ops) ∷ h.ops)))
    closed_is = closed_cut ∙ cut (ops.Jump (length y.ops) ∷ h.ops)

    pub end_count : length t.ops ≡ length y.ops
    end_count =
        ap length closed_cut ∙ (length-append until (ops.Jump (length y.ops) ∷ h.ops) ∙ (sym (length-append until (ops.Jump 0 ∷ h.ops)) ∙ ap length (sym open_cut)))

    pub open_has : (code : Code) → Grown y (record t { ops = y.ops }) → Has code t → Has code y
    open_has code more has =
        has_aimed code y t until (ops.Jump 0 ∷ []) (ops.Jump (length y.ops) ∷ []) h.ops [] refl (refl, tt) open_cut (closed_cut ∙ ap (λ l. until ++ ops.Jump (length y.ops) ∷ l) (sym (append-nil h.ops))) more has

    pub jump_there : (code : Code) → Has code t → slice_get code.ops (length v.ops) ≡ Some (ops.Jump (length y.ops))
    jump_there code has =
        let high : 1 ≤ length y.ops = let count : length y.ops ≡ length until + suc (length h.ops) = ap length open_cut ∙ length-append until (ops.Jump 0 ∷ h.ops) in omega (arith, count) in
        has.ops (length v.ops) (ops.Jump (length y.ops)) (ap (slice_get t.ops) until_count ∙ (ap (λ l. slice_get l (length until)) closed_cut ∙ seam until h.ops (ops.Jump (length y.ops)))) (no_place (length y.ops) high)
