-- Ops whose effects succeed, one after another, on the frames that they lead to.
use Rattle.std.proofs.Common.{◌≡◌, ◌⊎◌, inr, ℕ, zero, suc, ◌+◌, ◌<◌, List, [], ◌∷◌, ◌++◌, Some, None, Result, Ok, refl, subst, sym, arith}
use Rattle.std.specs.List.{range_with_len}
use Rattle.bb_verify_effect.specs.declared.part.Part.{Part}
use Rattle.bb_verify_effect.specs.declared.frame.Frame.{Frame}
use Rattle.bb_code.specs.Each.{each}
use Rattle.bb_verify_effect.specs.Edges.{Edges}
use Rattle.bb_verify_effect.specs.Effect.{effect}
use Rattle.bb_verify.specs.nesting.Jumps.{target_of}
use Rattle.bb_verify.specs.Tables.{in_tables}
use Rattle.bb_code.specs.declared.version.Version.{Version}
use Rattle.bb_code.specs.Code.{Code}
use Rattle.bb_code.specs.declared.op.Op.{Op}
use Rattle.bb_pattern.specs.declared.query.Query.{Query}
use Rattle.bb_schema.specs.Schema.{Schema}

-- the next op alone follows, on this frame
abbrev pub goes_on : Frame → Edges
goes_on f = record { on = Some f; target = None }

-- nothing follows
abbrev pub nothing_follows : Edges
nothing_follows = record { on = None; target = None }

-- ---- lists of places

pub each_range : {E : Type 0} (f : ℕ → Result (Unit {0}) E) (n m : ℕ) → ((i : ℕ) → i < n + m → f i ≡ Ok tt) → each f (range_with_len n m) ≡ Ok tt
unfolding each
each_range f n zero passes = refl
each_range f n (suc m) passes = rw (passes n (omega arith)) (each_range f (n + 1) m (λ i lt. passes i (omega (arith, lt))))

-- ---- ops that lead from frame to frame

module _ (s : Schema) (part : Part) (code : Code) where
  -- an op goes to no place and finds its operands, and the next op alone follows it
  pub record Gives (op : Op) (f g : Frame) : Type 0 where
    pub straight : target_of op ≡ None
    pub tables : in_tables s code op ≡ Ok tt
    pub gives : effect s part code op f ≡ Ok (goes_on g)

  -- nothing follows it
  pub record Ends (op : Op) (f : Frame) : Type 0 where
    pub straight : target_of op ≡ None
    pub tables : in_tables s code op ≡ Ok tt
    pub ends : effect s part code op f ≡ Ok nothing_follows

  -- one after another
  abbrev pub Leads : List Op → Frame → Frame → Type 0
  Leads [] f g = f ≡ g
  Leads (op ∷ more) f g = (h : Frame) × Gives op f h × Leads more h g

  -- the last one ends
  abbrev pub Runs : List Op → Frame → Type 0
  Runs [] f = ⊥
  Runs (op ∷ more) f = (Ends op f × (more ≡ [])) ⊎ ((h : Frame) × Gives op f h × Runs more h)

  pub leads_on : (a b : List Op) (f g h : Frame) → Leads a f g → Leads b g h → Leads (a ++ b) f h
  leads_on [] b f g h first then = subst (λ x. Leads b x h) (sym first) then
  leads_on (op ∷ more) b f g h first then = (first.0, first.1, leads_on more b first.0 g h first.2 then)

  pub runs_on : (a b : List Op) (f g : Frame) → Leads a f g → Runs b g → Runs (a ++ b) f
  runs_on [] b f g first then = subst (λ x. Runs b x) (sym first) then
  runs_on (op ∷ more) b f g first then = inr (first.0, first.1, runs_on more b first.0 g first.2 then)

-- ---- a code without declared frames and loops

abbrev pub straight_code : (version : Version) (locals : ℕ) → (texts : List (List ℕ)) → List Query → List Op → Code
straight_code version locals texts queries all = record { version = version; locals = locals; texts = texts; queries = queries; frames = []; loops = []; ops = all }
