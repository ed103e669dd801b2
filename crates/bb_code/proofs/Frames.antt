-- The laws of kinds, frames and loops.
use Rattle.std.proofs.Common.{◌≡◌, ℕ, List, [], ◌∷◌, ◌++◌, Result, Ok, refl, sym, ap, subst, ◌∙◌, append_assoc, arith}
use Rattle.std.specs.List.{flat_map, slice_get}
use Rattle.std.proofs.lemmas.List.Elements.{All-from_recursion, recursion_from_All}
use Rattle.bb_basis.specs.Results.{◌>>=◌, ok_or}
use Rattle.bb_basis.proofs.ResultLemmas.{bind_ok, same_ok, ok_or_ok}
use Rattle.bb_code.specs.declared.parts.TheConstants.{STACK_LIMIT}
use Rattle.bb_code.specs.declared.fault.CodeFault.{CodeFault}
use Rattle.bb_code.specs.declared.fault.CodeFault.TheVariants.{Operand}
use Rattle.bb_code.specs.declared.frame.FrameEntry.{FrameEntry}
use Rattle.bb_code.specs.declared.frame.Kind.{Kind}
use Rattle.bb_code.specs.declared.frame.Kind.TheVariants as kinds
use Rattle.bb_code.specs.declared.frame.Loop.{Loop}
use Rattle.bb_code.specs.declared.table.KindForm.{KindForm}
use Rattle.bb_code.specs.declared.table.KindForm.TheVariants as forms
use Rattle.bb_code.specs.declared.table.TheConstants.{KINDS}
use Rattle.bb_code.specs.Code.{IsKind, IsFrame, IsLoop}
use Rattle.bb_code.specs.Spelling.{two_bytes, short_listed, kind_bytes, frame_bytes, loop_bytes}
use Rattle.bb_code.specs.Fields.{number_at, repeated, short_list_at, kind_after, kind_at, frame_at, loop_at}
use Rattle.bb_code.proofs.Fields.{IsBytes, IsBytes-rest, Takes, Takes-then, IsSpelled, Number, number_spelled, one_takes, one_again, two_takes, two_again}
use Rattle.bb_code.proofs.Lists.{AreListed, repeated_takes, repeated_again, short_list_spelled}
use Rattle.bb_code.proofs.Tables.{EachAt, entry_at}

-- ---- kinds

-- a kind has the byte at which the table has its form
abbrev KindFits : ℕ → KindForm → Type 0
KindFits tag (forms.Plain kind) = (kind_bytes kind ≡ tag ∷ []) × IsKind kind
KindFits tag forms.Label = tag ≡ 4
KindFits tag forms.Ref = tag ≡ 6
KindFits tag forms.Old = tag ≡ 7
KindFits tag forms.Seq = tag ≡ 8

kinds_fit : EachAt KindFits 0 KINDS
kinds_fit = ((refl, tt), ((refl, tt), ((refl, tt), ((refl, tt), (refl, ((refl, tt), (refl, (refl, (refl, tt)))))))))

-- what was read after a byte is a kind that both spell
abbrev IsKindRead : ℕ → List ℕ → Kind × List ℕ → Type 0
IsKindRead tag bytes x = Takes (tag ∷ bytes) (kind_bytes x.0) x.1 × IsKind x.0

numbered : (tag n : ℕ) (make : ℕ → Kind) → tag ≡ n → ((k : ℕ) → Number k → (kind_bytes (make k) ≡ (n ∷ []) ++ two_bytes k) × IsKind (make k))
    → (bytes : List ℕ) (x : Kind × List ℕ) → IsBytes bytes → (number_at bytes >>= λ b. Ok (make b.0, b.1)) ≡ Ok x → IsKindRead tag bytes x
numbered tag n make is law bytes x fits e =
    subst (λ (t : ℕ). IsKindRead t bytes x) (sym is) (one_takes Kind ℕ number_at two_bytes Number number_spelled make (n ∷ []) kind_bytes IsKind law bytes x fits e)

kind_after_takes : (tag : ℕ) (form : KindForm) (bytes : List ℕ) (x : Kind × List ℕ) → IsBytes bytes → KindFits tag form → kind_after form bytes ≡ Ok x → IsKindRead tag bytes x
unfolding kind_after
kind_after_takes tag (forms.Plain kind) bytes x fits is e =
    subst (IsKindRead tag bytes) (same_ok (kind, bytes) x e) (record { parts = ap (λ (t : List ℕ). t ++ bytes) (sym is.0); rest_fits = fits }, is.1)
kind_after_takes tag forms.Label bytes x fits is e = numbered tag 4 kinds.Label is (λ k h. (refl, h)) bytes x fits e
kind_after_takes tag forms.Ref bytes x fits is e = numbered tag 6 kinds.Ref is (λ k h. (refl, h)) bytes x fits e
kind_after_takes tag forms.Old bytes x fits is e = numbered tag 7 kinds.Old is (λ k h. (refl, h)) bytes x fits e
kind_after_takes tag forms.Seq bytes x fits is e = numbered tag 8 kinds.Seq is (λ k h. (refl, h)) bytes x fits e

kind_takes : (bytes : List ℕ) (x : Kind × List ℕ) → IsBytes bytes → kind_at bytes ≡ Ok x → Takes bytes (kind_bytes x.0) x.1 × IsKind x.0
unfolding kind_at
kind_takes [] x fits e = absurd cc
kind_takes (tag ∷ bytes) x fits e =
    let form = bind_ok (ok_or (slice_get KINDS tag) Operand) (λ form. kind_after form bytes) x e in
    let there = ok_or_ok Operand (slice_get KINDS tag) form.0 form.1 in
    kind_after_takes tag form.0 bytes x (IsBytes-rest tag bytes fits) (entry_at KindForm KindFits KINDS tag form.0 kinds_fit there) form.2

kind_again : (kind : Kind) (rest : List ℕ) → IsKind kind → kind_at (kind_bytes kind ++ rest) ≡ Ok (kind, rest)
unfolding kind_at kind_after
kind_again kinds.Any rest fits = refl
kind_again kinds.Int rest fits = refl
kind_again kinds.Text rest fits = refl
kind_again kinds.Bool rest fits = refl
kind_again (kinds.Label set) rest fits = one_again Kind ℕ number_at two_bytes Number number_spelled kinds.Label set rest fits
kind_again kinds.Interval rest fits = refl
kind_again (kinds.Ref class) rest fits = one_again Kind ℕ number_at two_bytes Number number_spelled kinds.Ref class rest fits
kind_again (kinds.Old class) rest fits = one_again Kind ℕ number_at two_bytes Number number_spelled kinds.Old class rest fits
kind_again (kinds.Seq class) rest fits = one_again Kind ℕ number_at two_bytes Number number_spelled kinds.Seq class rest fits

pub kind_spelled : IsSpelled Kind kind_at kind_bytes IsKind
kind_spelled = record { takes = kind_takes; again = kind_again }

-- ---- loops

abbrev make_loop : ℕ → ℕ → Loop
make_loop head end = record { head = head; end = end }

loop_takes : (bytes : List ℕ) (x : Loop × List ℕ) → IsBytes bytes → loop_at bytes ≡ Ok x → Takes bytes (loop_bytes x.0) x.1 × IsLoop x.0
unfolding loop_at
loop_takes bytes x fits e =
    two_takes Loop ℕ ℕ number_at two_bytes Number number_spelled number_at two_bytes Number number_spelled make_loop [] loop_bytes IsLoop
    (λ b c h k. (refl, record { head = h; end = k })) bytes x fits e

loop_again : (l : Loop) (rest : List ℕ) → IsLoop l → loop_at (loop_bytes l ++ rest) ≡ Ok (l, rest)
unfolding loop_at
loop_again l rest fits = two_again Loop ℕ ℕ number_at two_bytes Number number_spelled number_at two_bytes Number number_spelled make_loop l.head l.end rest fits.head fits.end

pub loop_spelled : IsSpelled Loop loop_at loop_bytes IsLoop
loop_spelled = record { takes = loop_takes; again = loop_again }

-- ---- frames

stack_spelled : IsSpelled (List Kind) (short_list_at STACK_LIMIT kind_at) (short_listed kind_bytes) (AreListed Kind IsKind 0 STACK_LIMIT)
stack_spelled = short_list_spelled Kind kind_at kind_bytes IsKind kind_spelled STACK_LIMIT (omega arith)

frame_takes : (count : ℕ) (bytes : List ℕ) (x : FrameEntry × List ℕ) → IsBytes bytes → frame_at count bytes ≡ Ok x → Takes bytes (frame_bytes x.0) x.1 × IsFrame count x.0
unfolding frame_at
frame_takes count bytes x fits e =
    let a = bind_ok (number_at bytes) (λ place. repeated kind_at count place.1 >>= λ kinds. short_list_at STACK_LIMIT kind_at kinds.1 >>= λ stack. Ok (record { place = place.0; frame = record { locals = kinds.0; stack = stack.0 } }, stack.1)) x e in
    let b = bind_ok (repeated kind_at count a.0.1) (λ kinds. short_list_at STACK_LIMIT kind_at kinds.1 >>= λ stack. Ok (record { place = a.0.0; frame = record { locals = kinds.0; stack = stack.0 } }, stack.1)) x a.2 in
    let d = bind_ok (short_list_at STACK_LIMIT kind_at b.0.1) (λ stack. Ok (record { place = a.0.0; frame = record { locals = b.0.0; stack = stack.0 } }, stack.1)) x b.2 in
    let t0 = number_spelled.takes bytes a.0 fits a.1 in
    let t1 = repeated_takes Kind kind_at kind_bytes IsKind kind_spelled count a.0.1 b.0 t0.0.rest_fits b.1 in
    let t2 = stack_spelled.takes b.0.1 d.0 t1.0.rest_fits d.1 in
    let made : FrameEntry = record { place = a.0.0; frame = record { locals = b.0.0; stack = d.0.0 } } in
    let to_locals = Takes-then bytes (two_bytes a.0.0) a.0.1 (flat_map kind_bytes b.0.0) b.0.1 t0.0 t1.0 in
    let whole = Takes-then bytes (two_bytes a.0.0 ++ flat_map kind_bytes b.0.0) b.0.1 (short_listed kind_bytes d.0.0) d.0.1 to_locals t2.0 in
    let is : IsFrame count made = record {
      place = t0.1;
      locals = t1.1;
      local_kinds = All-from_recursion IsKind b.0.0 t1.2;
      stack = t2.1.few;
      stack_kinds = All-from_recursion IsKind d.0.0 t2.1.each;
    } in
    subst (λ (y : FrameEntry × List ℕ). Takes bytes (frame_bytes y.0) y.1 × IsFrame count y.0) {x = (made, d.0.1)} {y = x} (same_ok (made, d.0.1) x d.2) (whole, is)

-- the frame that was read, and the bytes after it
abbrev made : ℕ → List Kind → List Kind → List ℕ → Result (FrameEntry × List ℕ) CodeFault
made place locals stack rest = Ok (record { place = place; frame = record { locals = locals; stack = stack } }, rest)

frame_again : (count : ℕ) (f : FrameEntry) (rest : List ℕ) → IsFrame count f → frame_at count (frame_bytes f ++ rest) ≡ Ok (f, rest)
unfolding frame_at
frame_again count f rest fits =
    let stack : List ℕ = short_listed kind_bytes f.frame.stack in
    let locals : List ℕ = flat_map kind_bytes f.frame.locals in
    let stack_fits : AreListed Kind IsKind 0 STACK_LIMIT f.frame.stack = record { enough = omega arith; few = fits.stack; each = recursion_from_All IsKind f.frame.stack fits.stack_kinds } in
    let regrouped : frame_bytes f ++ rest ≡ two_bytes f.place ++ (locals ++ (stack ++ rest)) =
    append_assoc (two_bytes f.place ++ locals) stack rest ∙ append_assoc (two_bytes f.place) locals (stack ++ rest) in
    let kinds_again : repeated kind_at count (locals ++ (stack ++ rest)) ≡ Ok (f.frame.locals, stack ++ rest) =
    subst (λ (n : ℕ). repeated kind_at n (locals ++ (stack ++ rest)) ≡ Ok (f.frame.locals, stack ++ rest)) fits.locals
    (repeated_again Kind kind_at kind_bytes IsKind kind_spelled f.frame.locals (stack ++ rest) (recursion_from_All IsKind f.frame.locals fits.local_kinds)) in
    ap (frame_at count) regrouped
    ∙ ap (λ (r : Result (ℕ × List ℕ) CodeFault). r >>= λ place. repeated kind_at count place.1 >>= λ kinds. short_list_at STACK_LIMIT kind_at kinds.1 >>= λ stack. made place.0 kinds.0 stack.0 stack.1) (number_spelled.again f.place (locals ++ (stack ++ rest)) fits.place)
    ∙ rw (kinds_again, stack_spelled.again f.frame.stack rest stack_fits) refl

pub frame_spelled : (count : ℕ) → IsSpelled FrameEntry (frame_at count) frame_bytes (IsFrame count)
frame_spelled count = record { takes = frame_takes count; again = frame_again count }
