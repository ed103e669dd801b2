-- Where there is room for so much, a step makes something, and adds no more, or is refused for the first fault.
use Rattle.std.proofs.Common.{◌≡◌, List, [], ◌++◌, Option, Some, None, Result, Ok, Err, refl, subst, sym}
use Rattle.bb_basis.specs.Results.{◌>>=◌}
use Rattle.bb_compile_scope.specs.Place.{Place}
use Rattle.bb_compile_scope.specs.declared.fault.CompileFault.{CompileFault}
use Rattle.bb_compile_scope.specs.declared.fault.TextFlaw.{TextFlaw}
use Rattle.bb_compile_buffer.specs.declared.buffer.Buffer.{Buffer}
use Rattle.bb_compile_buffer.specs.Buffers.{refused_at, settled}
use Rattle.bb_theorem_grammar.specs.judged.Flaws.{fault_if}
use Rattle.bb_theorem_grammar.specs.judged.Judgement.{IsFirst}
use Rattle.bb_theorem_grammar.specs.judged.Sums.{Sums, plus}
use Rattle.bb_theorem_grammar.proofs.judged_lemmas.faults.AgreeLemmas.{Agrees, first_on}
use Rattle.bb_theorem_grammar.proofs.judged_lemmas.scopes.HoldLemmas.{Holds}
use Rattle.bb_theorem_grammar.proofs.judged_lemmas.laying.LayLemmas.{Room, Adds, Laid, Lays, room_first, room_rest, adds_on, laid_on, Counts, room_counts, adds_counts}

abbrev pub Given : {X : Type 0} → (out : X → Buffer) → Sums → Buffer → List CompileFault → Result X CompileFault → Type 0
Given out a s faults (Ok x) = Adds a s (out x)
Given out a s faults (Err fault) = IsFirst fault faults

abbrev pub Gives : {X : Type 0} → (out : X → Buffer) → Sums → Buffer → List CompileFault → Result X CompileFault → Type 0
Gives out a s faults r = Room a s → Given out a s faults r

pub given_laid : {X : Type 0} (out : X → Buffer) (a : Sums) (s : Buffer) (faults : List CompileFault) (r : Result X CompileFault) → Laid out a s r → Given out a s faults r
given_laid out a s faults (Err fault) h = absurd h
given_laid out a s faults (Ok x) h = h

given_on : {X : Type 0} (out : X → Buffer) (a b : Sums) (s t : Buffer) (faults : List CompileFault) (r : Result X CompileFault) → Adds a s t → Given out b t faults r → Given out (plus a b) s faults r
given_on out a b s t faults (Err fault) m h = h
given_on out a b s t faults (Ok x) m h = adds_on a b s t (out x) m h

-- the step is made from a buffer with the same counts
given_counts : {X : Type 0} (out : X → Buffer) (a : Sums) (s t : Buffer) (faults : List CompileFault) (r : Result X CompileFault) → Counts s t → Given out a t faults r → Given out a s faults r
given_counts out a s t faults (Err fault) c h = h
given_counts out a s t faults (Ok x) c h = adds_counts a s t (out x) c h

pub gives_from : {X : Type 0} (out : X → Buffer) (a : Sums) (s t : Buffer) (faults : List CompileFault) (r : Result X CompileFault) → Counts s t → Gives out a t faults r → Gives out a s faults r
gives_from out a s t faults r c h room = given_counts out a s t faults r c (h (room_counts a s t c room))

-- ---- one step after another

-- the first is not refused, and something is known of what it made
pub gives_knowing : {X Z : Type 0} (place : Place) (P : X → Type 0) (one : X → Buffer) (two : Z → Buffer) (a b : Sums) (s : Buffer) (faults : List CompileFault) (r : Result X CompileFault) (f : X → Result Z CompileFault)
    → Holds P place r → Lays one a s r → ((x : X) → P x → Gives two b (one x) faults (f x)) → Gives two (plus a b) s faults (r >>= f)
gives_knowing place P one two a b s faults (Err fault) f known h next room = absurd (h (room_first a b s room))
gives_knowing place P one two a b s faults (Ok x) f known h next room =
    let m = h (room_first a b s room) in given_on two a b s (one x) faults (f x) m (next x known (room_rest a b s (one x) m room))

-- so too, where the second adds nothing
pub gives_known : {X Z : Type 0} (place : Place) (P : X → Type 0) (one : X → Buffer) (two : Z → Buffer) (a : Sums) (s : Buffer) (faults : List CompileFault) (r : Result X CompileFault) (f : X → Result Z CompileFault)
    → Holds P place r → Lays one a s r → ((x : X) → P x → Adds a s (one x) → Given two a s faults (f x)) → Gives two a s faults (r >>= f)
gives_known place P one two a s faults (Err fault) f known h next room = absurd (h room)
gives_known place P one two a s faults (Ok x) f known h next room = next x known (h room)

-- the second is not refused
pub gives_then : {X Z : Type 0} (one : X → Buffer) (two : Z → Buffer) (a b : Sums) (s : Buffer) (faults : List CompileFault) (r : Result X CompileFault) (f : X → Result Z CompileFault)
    → Gives one a s faults r → ((x : X) → Lays two b (one x) (f x)) → Gives two (plus a b) s faults (r >>= f)
gives_then one two a b s faults (Err fault) f h next room = h (room_first a b s room)
gives_then one two a b s faults (Ok x) f h next room =
    let m = h (room_first a b s room) in
    given_laid two (plus a b) s faults (f x) (laid_on two a b s (one x) (f x) m (next x (room_rest a b s (one x) m room)))

pub gives_last : {X Z : Type 0} (one : X → Buffer) (two : Z → Buffer) (a : Sums) (s : Buffer) (faults : List CompileFault) (r : Result X CompileFault) (f : X → Result Z CompileFault)
    → Gives one a s faults r → ((x : X) → Adds a s (one x) → Laid two a s (f x)) → Gives two a s faults (r >>= f)
gives_last one two a s faults (Err fault) f h next room = h room
gives_last one two a s faults (Ok x) f h next room = given_laid two a s faults (f x) (next x (h room))

-- both may be refused, and the first agrees with the judgement
pub gives_agreeing : {X Z : Type 0} (place : Place) (xs ys : List CompileFault) (P : X → Type 0) (one : X → Buffer) (two : Z → Buffer) (a b : Sums) (s : Buffer) (r : Result X CompileFault) (f : X → Result Z CompileFault)
    → Agrees place xs P r → Gives one a s xs r → ((x : X) → P x → Gives two b (one x) ys (f x)) → Gives two (plus a b) s (xs ++ ys) (r >>= f)
gives_agreeing place xs ys P one two a b s (Err fault) f known h next room = first_on fault xs ys (h (room_first a b s room))
gives_agreeing place xs ys P one two a b s (Ok x) f known h next room =
    let m = h (room_first a b s room) in
    subst (λ l. Given two (plus a b) s (l ++ ys) (f x)) (sym known.0) (given_on two a b s (one x) ys (f x) m (next x known.1 (room_rest a b s (one x) m room)))

-- a statement is refused for its flaw, and goes on without one
pub settled_given : {X : Type 0} (out : X → Buffer) (a : Sums) (s : Buffer) (at : Place) (flaw : Option TextFlaw) (t : Buffer) (next : Result X CompileFault) → t.flaw ≡ flaw → (flaw ≡ None → Laid out a s next) → Given out a s (fault_if at flaw) (settled at t >>= λ right. next)
settled_given out a s at flaw t next is clean = subst (λ o. Given out a s (fault_if at flaw) (refused_at at o >>= λ right. next)) (sym is) (by_flaw flaw clean)
  where
    by_flaw : (o : Option TextFlaw) → (o ≡ None → Laid out a s next) → Given out a s (fault_if at o) (refused_at at o >>= λ right. next)
    by_flaw None h = given_laid out a s [] next (h refl)
    by_flaw (Some f) h = refl
