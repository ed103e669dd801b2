-- The frames of the places of a code, one op after another, where some are declared: what the verifier finds at each.
use Rattle.std.proofs.Common.{◌≡◌, inl, inr, ℕ, false, zero, suc, ◌+◌, ◌<◌, ◌≤◌, List, [], ◌∷◌, ◌++◌, length, Option, Some, None, Result, Ok, refl, subst, sym, ap, ◌∙◌, arith, append_assoc, length-append}
use Rattle.std.specs.Prelude.{slice_get}
use Rattle.std.specs.List.{range_with_len}
use Rattle.std.proofs.lemmas.Bool.{lt-leb, lt-ltb}
use Rattle.std.proofs.lemmas.List.{append-nil}
use Rattle.bb_basis.specs.Results.{◌>>=◌, try_fold}
use Rattle.bb_schema.specs.Schema.{Schema}
use Rattle.bb_code.specs.Code.{Code}
use Rattle.bb_code.specs.declared.flaw.Flaw.{Flaw as CodeFlaw}
use Rattle.bb_code.specs.declared.frame.Kind.{Kind}
use Rattle.bb_code.specs.declared.frame.Kind.TheVariants as kinds
use Rattle.bb_code.specs.declared.op.Op.{Op}
use Rattle.bb_code.specs.declared.op.Op.TheVariants as ops
use Rattle.bb_verify_effect.specs.Edges.{Edges}
use Rattle.bb_verify_effect.specs.Due as dues
use Rattle.bb_verify_effect.specs.Effect.{effect, unless, only_there, either}
use Rattle.bb_verify_effect.specs.Frame.{with_stack, pop}
use Rattle.bb_verify_effect.specs.declared.frame.Frame.{Frame}
use Rattle.bb_verify.specs.nesting.Jumps.{target_of, before, ahead, check_target}
use Rattle.bb_verify_effect.specs.declared.part.Part.{Part}
use Rattle.bb_verify.specs.Places.{declared_at, declared_frames, frame_at, on_due, target_due, has_next, declared_for, visit_op, visit}
use Rattle.bb_verify.specs.Tables.{in_tables}
use Rattle.bb_theorem_accepted.proofs.buffers.StraightLemmas.{Gives, Ends, Leads, Runs, goes_on, nothing_follows}
use Rattle.bb_theorem_accepted.proofs.buffers.BufferLemmas.{is_open, seam}
use Rattle.bb_theorem_accepted.proofs.blocks.AimLemmas.{no_place}

straight_target : (count place : ℕ) (op : Op) → target_of op ≡ None → check_target count place op ≡ Ok tt
unfolding check_target
straight_target count place (ops.One slot target) h = absurd cc
straight_target count place (ops.Alive target) h = absurd cc
straight_target count place (ops.As class target) h = absurd cc
straight_target count place (ops.Jump target) h = absurd cc
straight_target count place (ops.Unless target) h = absurd cc
straight_target count place (ops.Next l target) h = absurd cc
straight_target count place (ops.Back target) h = absurd cc
straight_target count place _ h = refl

straight_closed : (op : Op) → target_of op ≡ None → is_open op ≡ false
straight_closed (ops.One slot target) h = absurd cc
straight_closed (ops.Alive target) h = absurd cc
straight_closed (ops.As class target) h = absurd cc
straight_closed (ops.Jump target) h = absurd cc
straight_closed (ops.Unless target) h = absurd cc
straight_closed (ops.Next l target) h = absurd cc
straight_closed _ h = refl

pub goes_ahead : (count place target : ℕ) → place < target → target < count → ahead count place target ≡ Ok tt
unfolding ahead
goes_ahead count place target low high = rw (lt-ltb place target low, lt-ltb target count high) refl

module _ (s : Schema) (part : Part) (code : Code) where
  -- the frame that is declared for a place
  abbrev pub At : ℕ → Option Frame
  At place = declared_at (declared_frames code) place

  -- an op at a place, with what the op before left, and what it leaves itself
  pub record Visits (place : ℕ) (op : Op) (next mid : Option Frame) : Type 0 where
    pub tables : in_tables s code op ≡ Ok tt
    pub jumps : check_target (length code.ops) place op ≡ Ok tt
    pub closed : is_open op ≡ false
    pub frame : Frame
    pub here : frame_at (At place) next ≡ Ok frame
    pub edges : Edges
    pub gives : effect s part code op frame ≡ Ok edges
    pub there : has_next (length code.ops) (place + 1) edges.on ≡ Ok tt
    pub on : on_due s edges.on (At (place + 1)) ≡ Ok tt
    pub target : target_due s edges.target (declared_for (declared_frames code) op) ≡ Ok tt
    pub leaves : edges.on ≡ mid

  -- one after another
  abbrev pub Walks : ℕ → List Op → (next out : Option Frame) → Type 0
  Walks place [] next out = next ≡ out
  Walks place (op ∷ more) next out = (mid : Option Frame) × Visits place op next mid × Walks (place + 1) more mid out

  pub walks_on : (place : ℕ) (xs ys : List Op) (next mid out : Option Frame) → Walks place xs next mid → Walks (place + length xs) ys mid out → Walks place (xs ++ ys) next out
  walks_on place [] ys next mid out first then = subst (λ n. Walks place ys n out) (sym first) (subst (λ p. Walks p ys mid out) (let e : place + 0 ≡ place = omega arith in e) then)
  walks_on place (x ∷ xs) ys next mid out first then =
      (first.0, first.1, walks_on (place + 1) xs ys first.0 mid out first.2 (subst (λ p. Walks p ys mid out) (let e : place + suc (length xs) ≡ place + 1 + length xs = omega arith in e) then))

  -- ---- ops that go nowhere else

  pub straight_visit : (place : ℕ) (op : Op) (f g : Frame) (next : Option Frame) → frame_at (At place) next ≡ Ok f → Gives s part code op f g → place + 1 < length code.ops → on_due s (Some g) (At (place + 1)) ≡ Ok tt → Visits place op next (Some g)
  straight_visit place op f g next here gives lt on = record {
    tables = gives.tables;
    jumps = straight_target (length code.ops) place op gives.straight;
    closed = straight_closed op gives.straight;
    frame = f;
    here = here;
    edges = goes_on g;
    gives = gives.gives;
    there = rw (lt-leb (length code.ops) (place + 1) lt) refl;
    on = on;
    target = refl;
    leaves = refl;
  }

  pub end_visit : (place : ℕ) (op : Op) (f : Frame) (next : Option Frame) → frame_at (At place) next ≡ Ok f → Ends s part code op f → Visits place op next None
  end_visit place op f next here ends = record {
    tables = ends.tables;
    jumps = straight_target (length code.ops) place op ends.straight;
    closed = straight_closed op ends.straight;
    frame = f;
    here = here;
    edges = nothing_follows;
    gives = ends.ends;
    there = refl;
    on = refl;
    target = refl;
    leaves = refl;
  }

  -- no frame is declared from after a place up to another
  abbrev pub Undeclared : (from to : ℕ) → Type 0
  Undeclared from to = (i : ℕ) → from < i → i ≤ to → At i ≡ None

  pub undeclared_on : (g : Frame) (o : Option Frame) → o ≡ None → (on_due s (Some g) o ≡ Ok tt) × (frame_at o (Some g) ≡ Ok g)
  undeclared_on g o none = rw none (refl, refl)

  -- ops that lead from frame to frame, and what comes after them
  pub leads_then : (listed rest : List Op) (place : ℕ) (f g : Frame) (next out : Option Frame) → frame_at (At place) next ≡ Ok f → Undeclared place (place + length listed) → place + length listed < length code.ops → Leads s part code listed f g
      → ((last : Option Frame) → frame_at (At (place + length listed)) last ≡ Ok g → Walks (place + length listed) rest last out) → Walks place (listed ++ rest) next out
  leads_then [] rest place f g next out here none lt leads then =
      let same : place + 0 ≡ place = omega arith in
      subst (λ p. Walks p rest next out) same (then next (subst (λ p. frame_at (At p) next ≡ Ok g) (sym same) (here ∙ ap (λ x. Ok x) leads)))
  leads_then (op ∷ more) rest place f g next out here none lt leads then =
      let h = leads.0 in
      let count : place + suc (length more) ≡ place + 1 + length more = omega arith in
      let behind = undeclared_on h (At (place + 1)) (none (place + 1) (omega arith) (omega (arith, count))) in (
        Some h,
        straight_visit place op f h next here leads.1 (omega (arith, lt, count)) behind.0,
        leads_then more rest (place + 1) h g (Some h) out behind.1 (λ i low high. none i (omega (arith, low)) (omega (arith, high, count))) (omega (arith, lt, count)) leads.2
            (λ last at. subst (λ p. Walks p rest last out) count (then last (subst (λ p. frame_at (At p) last ≡ Ok g) (sym count) at))),
      )

  -- ops that lead from frame to frame, up to a place where one may be declared
  pub leads_walk : (listed : List Op) (place : ℕ) (f g : Frame) (next : Option Frame) → 1 ≤ length listed → frame_at (At place) next ≡ Ok f → ((i : ℕ) → place < i → i < place + length listed → At i ≡ None) → place + length listed < length code.ops
      → on_due s (Some g) (At (place + length listed)) ≡ Ok tt → Leads s part code listed f g → Walks place listed next (Some g)
  leads_walk [] place f g next some here none lt on leads = absurd (omega (arith, some))
  leads_walk (op ∷ []) place f g next some here none lt on leads = (Some g, straight_visit place op f g next here (subst (Gives s part code op f) leads.2 leads.1) lt on, refl)
  leads_walk (op ∷ x ∷ more) place f g next some here none lt on leads =
      let h = leads.0 in
      let count : place + suc (suc (length more)) ≡ place + 1 + suc (length more) = omega arith in
      let behind = undeclared_on h (At (place + 1)) (none (place + 1) (omega arith) (omega (arith, count))) in (
        Some h,
        straight_visit place op f h next here leads.1 (omega (arith, lt, count)) behind.0,
        leads_walk (x ∷ more) (place + 1) h g (Some h) (omega arith) behind.1 (λ i low high. none i (omega (arith, low)) (omega (arith, high, count))) (omega (arith, lt, count)) (subst (λ p. on_due s (Some g) (At p) ≡ Ok tt) count on) leads.2,
      )

  -- ops of which the last ends
  pub runs_walk : (listed : List Op) (place : ℕ) (f : Frame) (next : Option Frame) → frame_at (At place) next ≡ Ok f → ((i : ℕ) → place < i → i < place + length listed → At i ≡ None) → place + length listed ≤ length code.ops → Runs s part code listed f → Walks place listed next None
  runs_walk [] place f next here none le runs = absurd runs
  runs_walk (op ∷ more) place f next here none le (inl ends) = (None, end_visit place op f next here ends.0, subst (λ l. Walks (place + 1) l None None) (sym ends.1) refl)
  runs_walk (op ∷ []) place f next here none le (inr step) = absurd step.2
  runs_walk (op ∷ x ∷ more) place f next here none le (inr step) =
      let h = step.0 in
      let count : place + suc (suc (length more)) ≡ place + 1 + suc (length more) = omega arith in
      let behind = undeclared_on h (At (place + 1)) (none (place + 1) (omega arith) (omega (arith, count))) in (
        Some h,
        straight_visit place op f h next here step.1 (omega (arith, le, count)) behind.0,
        runs_walk (x ∷ more) (place + 1) h (Some h) behind.1 (λ i low high. none i (omega (arith, low)) (omega (arith, high, count))) (omega (arith, le, count)) step.2,
      )

  -- ---- ops that go ahead

  pub unless_visit : (place at : ℕ) (f : Frame) (k : Kind) (next : Option Frame) → frame_at (At place) next ≡ Ok (with_stack (k ∷ f.stack) f) → dues.due kinds.Bool k ≡ Ok tt → place < at → at < length code.ops → place + 1 < length code.ops
      → on_due s (Some f) (At (place + 1)) ≡ Ok tt → target_due s (Some f) (At at) ≡ Ok tt → Visits place (ops.Unless at) next (Some f)
  unfolding effect in_tables check_target unless pop
  unless_visit place at f k next here right low high lt on target = record {
    tables = refl;
    jumps = goes_ahead (length code.ops) place at low high;
    closed = no_place at (omega (arith, low));
    frame = with_stack (k ∷ f.stack) f;
    here = here;
    edges = either f f;
    gives = unless_on;
    there = rw (lt-leb (length code.ops) (place + 1) lt) refl;
    on = on;
    target = target;
    leaves = refl;
  }
    where
      unless_on : unless (with_stack (k ∷ f.stack) f) ≡ Ok (either f f)
      unless_on = ap (λ (r : Result (Unit {0}) CodeFlaw). r >>= λ _. Ok (either f f)) right

  pub jump_visit : (place at : ℕ) (f : Frame) (next : Option Frame) → frame_at (At place) next ≡ Ok f → place < at → at < length code.ops → target_due s (Some f) (At at) ≡ Ok tt → Visits place (ops.Jump at) next None
  unfolding effect in_tables check_target
  jump_visit place at f next here low high target = record {
    tables = refl;
    jumps = goes_ahead (length code.ops) place at low high;
    closed = no_place at (omega (arith, low));
    frame = f;
    here = here;
    edges = only_there f;
    gives = refl;
    there = refl;
    on = refl;
    target = target;
    leaves = refl;
  }

  -- ---- all places

  pub visit_is : (place : ℕ) (op : Op) (next mid : Option Frame) (fs : List Frame) → slice_get code.ops place ≡ Some op → (v : Visits place op next mid)
      → visit s part code (declared_frames code) (record { frames = fs; next = next }) place ≡ Ok (record { frames = fs ++ v.frame ∷ []; next = mid })
  unfolding visit visit_op
  visit_is place op next mid fs at v = rw (at, visit, v.here, v.gives, v.there, v.on, v.target) (ap (λ n. Ok (record { frames = fs ++ v.frame ∷ []; next = n })) v.leaves)

  -- the frames that are found
  abbrev pub walked_frames : (place : ℕ) (listed : List Op) (next out : Option Frame) → Walks place listed next out → List Frame
  walked_frames place [] next out walks = []
  walked_frames place (op ∷ more) next out walks = walks.1.frame ∷ walked_frames (place + 1) more walks.0 out walks.2

  pub visited : (place : ℕ) (before rest : List Op) (next out : Option Frame) (fs : List Frame) → length before ≡ place → code.ops ≡ before ++ rest → (walks : Walks place rest next out)
      → try_fold (visit s part code (declared_frames code)) (record { frames = fs; next = next }) (range_with_len place (length rest)) ≡ Ok (record { frames = fs ++ walked_frames place rest next out walks; next = out })
  unfolding try_fold
  visited place before [] next out fs count whole walks = ap (λ n. Ok (record { frames = fs; next = n })) walks ∙ ap (λ l. Ok (record { frames = l; next = out })) (sym (append-nil fs))
  visited place before (op ∷ more) next out fs count whole walks =
      let there : slice_get code.ops place ≡ Some op = ap (λ l. slice_get l place) whole ∙ (ap (slice_get (before ++ op ∷ more)) (sym count) ∙ seam before more op) in
      let v = walks.1 in
      let later = visited (place + 1) (before ++ op ∷ []) more walks.0 out (fs ++ v.frame ∷ []) (length-append before (op ∷ []) ∙ ap (λ n. n + 1) count) (whole ∙ sym (append_assoc before (op ∷ []) more)) walks.2 in
      rw (visit_is place op next walks.0 fs there v) (later ∙ ap (λ l. Ok (record { frames = l; next = out })) (append_assoc fs (v.frame ∷ []) (walked_frames (place + 1) more walks.0 out walks.2)))

  -- what holds of the op at each place
  pub record IsFine (place : ℕ) (op : Op) : Type 0 where
    pub tables : in_tables s code op ≡ Ok tt
    pub jumps : check_target (length code.ops) place op ≡ Ok tt

  pub fine_at : (listed : List Op) (place i : ℕ) (op : Op) (next out : Option Frame) → Walks place listed next out → slice_get listed i ≡ Some op → IsFine (place + i) op
  fine_at [] place i op next out walks at = absurd cc
  fine_at (x ∷ more) place zero op next out walks at =
      let e : x ≡ op = cc in
      let v = walks.1 in
      subst (λ p. IsFine p op) (let same : place ≡ place + 0 = omega arith in same) (subst (IsFine place) e (record { tables = v.tables; jumps = v.jumps }))
  fine_at (x ∷ more) place (suc i) op next out walks at = subst (λ p. IsFine p op) (let same : place + 1 + i ≡ place + suc i = omega arith in same) (fine_at more (place + 1) i op walks.0 out walks.2 at)
