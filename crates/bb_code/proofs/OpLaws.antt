-- The laws of ops.
use Rattle.std.proofs.Common.{◌≡◌, ℕ, ℤ, pos, ◌≤ℤ◌, ◌≤◌, Bool, false, cond, ltb, List, [], ◌∷◌, ◌++◌, Option, Some, None, Result, Ok, Err, refl, sym, ap, subst, ◌∙◌, arith}
use Rattle.std.specs.Prelude.{FitsSigned, int_lt}
use Rattle.std.specs.Int.{w64}
use Rattle.std.specs.List.{slice_get}
use Rattle.std.proofs.lemmas.Bool.{ltb-false, le-ltb}
use Rattle.std.proofs.lemmas.Option.{option_and_then_some}
use Rattle.std.proofs.lemmas.Int.{ints}
use Rattle.bb_basis.specs.Results.{◌>>=◌, ok_or}
use Rattle.bb_basis.proofs.ResultLemmas.{bind_ok, guard_ok, same_ok, ok_or_ok}
use Rattle.bb_code.specs.declared.parts.TheConstants.{SAID_LIMIT}
use Rattle.bb_code.specs.declared.fault.CodeFault.{CodeFault}
use Rattle.bb_code.specs.declared.fault.CodeFault.TheVariants.{Opcode, Operand}
use Rattle.bb_code.specs.declared.op.Bound.TheVariants.{Low, High}
use Rattle.bb_code.specs.declared.op.Calculation.TheVariants.{Add, Sub, Mul, Min, Max}
use Rattle.bb_code.specs.declared.op.Comparison.TheVariants.{Lt, Le, EqInt}
use Rattle.bb_code.specs.declared.op.Division.{Division}
use Rattle.bb_code.specs.declared.op.Division.TheVariants.{DivBy, ModBy}
use Rattle.bb_code.specs.declared.op.LinkChange.TheVariants as changes
use Rattle.bb_code.specs.declared.op.Logic.TheVariants as logic
use Rattle.bb_code.specs.declared.op.Op.{Op}
use Rattle.bb_code.specs.declared.op.Op.TheVariants as ops
use Rattle.bb_code.specs.declared.table.Branch.{Branch}
use Rattle.bb_code.specs.declared.table.Branch.TheVariants as branches
use Rattle.bb_code.specs.declared.table.Numbered.{Numbered}
use Rattle.bb_code.specs.declared.table.Numbered.TheVariants as numbered
use Rattle.bb_code.specs.declared.table.OpForm.{OpForm}
use Rattle.bb_code.specs.declared.table.OpForm.TheVariants as forms
use Rattle.bb_code.specs.declared.table.TheConstants.{OPS}
use Rattle.bb_code.specs.Code.{IsOp}
use Rattle.bb_code.specs.Spelling.{two_bytes, eight_bytes, opcode, op_bytes}
use Rattle.bb_code.specs.Fields.{byte_at, number_at, int_at, bool_at}
use Rattle.bb_code.specs.Ops.{op_form, with_number, with_local, with_pair, push_label_at, branch_at, divide_at, say_at, next_at, op_after, op_at}
use Rattle.bb_code.proofs.Fields.{IsBytes, IsBytes-rest, Takes, IsSpelled, Byte, Number, Always, single, bool_bytes, byte_spelled, number_spelled, int_spelled, bool_spelled, one_takes, one_again, two_takes, two_again}
use Rattle.bb_code.proofs.Tables.{EachAt, entry_at}

-- ---- the table

-- each op of a form has the opcode at which the table has the form
abbrev OpFits : ℕ → Option OpForm → Type 0
OpFits code None = Unit {0}
OpFits code (Some (forms.Plain op)) = (op_bytes op ≡ code ∷ []) × IsOp op
OpFits code (Some (forms.Number numbered)) = (n : ℕ) → Number n → (op_bytes (with_number numbered n) ≡ (code ∷ []) ++ two_bytes n) × IsOp (with_number numbered n)
OpFits code (Some (forms.Local of)) = (n : ℕ) → Byte n → (op_bytes (with_local of n) ≡ (code ∷ []) ++ single n) × IsOp (with_local of n)
OpFits code (Some (forms.Branch branch)) = (n place : ℕ) → Number n → Number place → (op_bytes (with_pair branch n place) ≡ (code ∷ []) ++ (two_bytes n ++ two_bytes place)) × IsOp (with_pair branch n place)
OpFits code (Some forms.Int) = code ≡ 1
OpFits code (Some forms.Bool) = code ≡ 3
OpFits code (Some forms.Label) = code ≡ 4
OpFits code (Some (forms.Divisor division)) = (by : ℤ) → opcode (ops.Divide division by) ≡ code
OpFits code (Some forms.Count) = code ≡ 41
OpFits code (Some forms.Next) = code ≡ 44

ops_fit : EachAt OpFits 0 OPS
ops_fit = (
  tt,
  (
    refl,
    (
      (λ n h. (refl, h)),
      (
        refl,
        (
          refl,
          (
            (λ n h. (refl, h)),
            (
              (λ n h. (refl, h)),
              (
                (refl, tt),
                (
                  (refl, tt),
                  (
                    (refl, tt),
                    (
                      (refl, tt),
                      (
                        (λ by. refl),
                        (
                          (λ by. refl),
                          (
                            (refl, tt),
                            (
                              (refl, tt),
                              (
                                (refl, tt),
                                (
                                  (refl, tt),
                                  (
                                    (refl, tt),
                                    (
                                      (refl, tt),
                                      (
                                        (refl, tt),
                                        (
                                          (refl, tt),
                                          (
                                            (refl, tt),
                                            (
                                              (refl, tt),
                                              (
                                                (refl, tt),
                                                (
                                                  (refl, tt),
                                                  (
                                                    (refl, tt),
                                                    (
                                                      (refl, tt),
                                                      (
                                                        (λ n h. (refl, h)),
                                                        (
                                                          (λ n p h k. (refl, (h, k))),
                                                          (
                                                            (λ n h. (refl, h)),
                                                            (
                                                              (λ n h. (refl, h)),
                                                              (
                                                                (refl, tt),
                                                                (
                                                                  (λ n h. (refl, h)),
                                                                  (
                                                                    (λ n p h k. (refl, (h, k))),
                                                                    (
                                                                      (λ n h. (refl, h)),
                                                                      (
                                                                        (λ n h. (refl, h)),
                                                                        (
                                                                          (λ n h. (refl, h)),
                                                                          (
                                                                            (λ n h. (refl, h)),
                                                                            (
                                                                              (λ n h. (refl, h)),
                                                                              (
                                                                                (λ n h. (refl, h)),
                                                                                (
                                                                                  (refl, tt),
                                                                                  (
                                                                                    refl,
                                                                                    (
                                                                                      (λ n h. (refl, h)),
                                                                                      (
                                                                                        (λ n h. (refl, h)),
                                                                                        (
                                                                                          refl,
                                                                                          (
                                                                                            (λ n h. (refl, h)),
                                                                                            (
                                                                                              (refl, tt),
                                                                                              (
                                                                                                (refl, tt),
                                                                                                (
                                                                                                  (refl, tt),
                                                                                                  ((refl, tt), tt),
                                                                                                ),
                                                                                              ),
                                                                                            ),
                                                                                          ),
                                                                                        ),
                                                                                      ),
                                                                                    ),
                                                                                  ),
                                                                                ),
                                                                              ),
                                                                            ),
                                                                          ),
                                                                        ),
                                                                      ),
                                                                    ),
                                                                  ),
                                                                ),
                                                              ),
                                                            ),
                                                          ),
                                                        ),
                                                      ),
                                                    ),
                                                  ),
                                                ),
                                              ),
                                            ),
                                          ),
                                        ),
                                      ),
                                    ),
                                  ),
                                ),
                              ),
                            ),
                          ),
                        ),
                      ),
                    ),
                  ),
                ),
              ),
            ),
          ),
        ),
      ),
    ),
  ),
)

-- ---- reading

not_below : (z : ℤ) → int_lt z (pos 1) ≡ false → pos 1 ≤ℤ z
not_below z h = grind (arith, ints)

at_least : (z : ℤ) → pos 1 ≤ℤ z → int_lt z (pos 1) ≡ false
at_least z h = grind (arith, ints)

-- what was read after an opcode is an op that both spell
abbrev IsOpRead : ℕ → List ℕ → Op × List ℕ → Type 0
IsOpRead code bytes x = Takes (code ∷ bytes) (op_bytes x.0) x.1 × IsOp x.0

divide_takes : (code : ℕ) (division : Division) (bytes : List ℕ) (x : Op × List ℕ) → IsBytes bytes → ((by : ℤ) → opcode (ops.Divide division by) ≡ code) → divide_at division bytes ≡ Ok x → IsOpRead code bytes x
unfolding divide_at
divide_takes code division bytes x fits is e =
    let by = bind_ok (int_at bytes) (λ by. cond (int_lt by.0 (pos 1)) (Err Operand) (Ok (ops.Divide division by.0, by.1))) x e in
    let took = int_spelled.takes bytes by.0 fits by.1 in
    let positive = guard_ok (int_lt by.0.0 (pos 1)) Operand (Ok (ops.Divide division by.0.0, by.0.1)) x by.2 in
    let one : pos 1 ≤ℤ by.0.0 = not_below by.0.0 positive.0 in
    subst (IsOpRead code bytes) (same_ok (ops.Divide division by.0.0, by.0.1) x positive.1)
    (record { parts = ap (λ (t : List ℕ). code ∷ t) took.0.parts ∙ ap (λ (c : ℕ). c ∷ (eight_bytes by.0.0 ++ by.0.1)) (sym (is by.0.0)); rest_fits = took.0.rest_fits }, record { fits = took.1; positive = one })

say_takes : (bytes : List ℕ) (x : Op × List ℕ) → IsBytes bytes → say_at bytes ≡ Ok x → IsOpRead 41 bytes x
unfolding say_at
say_takes bytes x fits e =
    let n = bind_ok (byte_at bytes) (λ n. cond (ltb SAID_LIMIT n.0) (Err Operand) (Ok (ops.Say n.0, n.1))) x e in
    let took = byte_spelled.takes bytes n.0 fits n.1 in
    let few = guard_ok (ltb SAID_LIMIT n.0.0) Operand (Ok (ops.Say n.0.0, n.0.1)) x n.2 in
    subst (IsOpRead 41 bytes) (same_ok (ops.Say n.0.0, n.0.1) x few.1) (record { parts = ap (λ (t : List ℕ). 41 ∷ t) took.0.parts; rest_fits = took.0.rest_fits }, ltb-false _ _ few.0)

op_after_takes : (code : ℕ) (form : OpForm) (bytes : List ℕ) (x : Op × List ℕ) → IsBytes bytes → OpFits code (Some form) → op_after form bytes ≡ Ok x → IsOpRead code bytes x
unfolding op_after push_label_at branch_at next_at
op_after_takes code (forms.Plain op) bytes x fits is e =
    subst (IsOpRead code bytes) (same_ok (op, bytes) x e) (record { parts = ap (λ (t : List ℕ). t ++ bytes) (sym is.0); rest_fits = fits }, is.1)
op_after_takes code (forms.Number numbered) bytes x fits is e = one_takes Op ℕ number_at two_bytes Number number_spelled (with_number numbered) (code ∷ []) op_bytes IsOp is bytes x fits e
op_after_takes code (forms.Local of) bytes x fits is e = one_takes Op ℕ byte_at single Byte byte_spelled (with_local of) (code ∷ []) op_bytes IsOp is bytes x fits e
op_after_takes code (forms.Branch branch) bytes x fits is e =
    two_takes Op ℕ ℕ number_at two_bytes Number number_spelled number_at two_bytes Number number_spelled (with_pair branch) (code ∷ []) op_bytes IsOp is bytes x fits e
op_after_takes code forms.Int bytes x fits is e =
    subst (λ (c : ℕ). IsOpRead c bytes x) (sym is) (one_takes Op ℤ int_at eight_bytes (FitsSigned w64) int_spelled ops.PushInt (1 ∷ []) op_bytes IsOp (λ n h. (refl, h)) bytes x fits e)
op_after_takes code forms.Bool bytes x fits is e =
    subst (λ (c : ℕ). IsOpRead c bytes x) (sym is) (one_takes Op Bool bool_at bool_bytes Always bool_spelled ops.PushBool (3 ∷ []) op_bytes IsOp (λ b h. (refl, tt)) bytes x fits e)
op_after_takes code forms.Label bytes x fits is e =
    subst (λ (c : ℕ). IsOpRead c bytes x) (sym is)
    (two_takes Op ℕ ℕ number_at two_bytes Number number_spelled byte_at single Byte byte_spelled ops.PushLabel (4 ∷ []) op_bytes IsOp (λ set label h k. (refl, (h, k))) bytes x fits e)
op_after_takes code (forms.Divisor division) bytes x fits is e = divide_takes code division bytes x fits is e
op_after_takes code forms.Count bytes x fits is e = subst (λ (c : ℕ). IsOpRead c bytes x) (sym is) (say_takes bytes x fits e)
op_after_takes code forms.Next bytes x fits is e =
    subst (λ (c : ℕ). IsOpRead c bytes x) (sym is)
    (two_takes Op ℕ ℕ byte_at single Byte byte_spelled number_at two_bytes Number number_spelled ops.Next (44 ∷ []) op_bytes IsOp (λ local place h k. (refl, (h, k))) bytes x fits e)

op_takes : (bytes : List ℕ) (x : Op × List ℕ) → IsBytes bytes → op_at bytes ≡ Ok x → Takes bytes (op_bytes x.0) x.1 × IsOp x.0
unfolding op_at
op_takes [] x fits e = absurd cc
op_takes (code ∷ bytes) x fits e =
    let form = bind_ok (ok_or (op_form code) Opcode) (λ form. op_after form bytes) x e in
    let there = ok_or_ok Opcode (op_form code) form.0 form.1 in
    option_and_then_some (λ (o : Option OpForm). o) (slice_get OPS code) form.0 there
    (λ o at is. op_after_takes code form.0 bytes x (IsBytes-rest code bytes fits) (subst (OpFits code) is (entry_at (Option OpForm) OpFits OPS code o ops_fit at)) form.2)

-- ---- reading again

with_number_again : (numbered : Numbered) (n : ℕ) (rest : List ℕ) → Number n → op_after (forms.Number numbered) (two_bytes n ++ rest) ≡ Ok (with_number numbered n, rest)
unfolding op_after
with_number_again numbered n rest fits = one_again Op ℕ number_at two_bytes Number number_spelled (with_number numbered) n rest fits

branch_again : (branch : Branch) (n place : ℕ) (rest : List ℕ) → Number n → Number place → op_after (forms.Branch branch) (two_bytes n ++ (two_bytes place ++ rest)) ≡ Ok (with_pair branch n place, rest)
unfolding op_after branch_at
branch_again branch n place rest fits fits_place =
    two_again Op ℕ ℕ number_at two_bytes Number number_spelled number_at two_bytes Number number_spelled (with_pair branch) n place rest fits fits_place

divide_again : (division : Division) (by : ℤ) (rest : List ℕ) → FitsSigned w64 by → pos 1 ≤ℤ by → op_after (forms.Divisor division) (eight_bytes by ++ rest) ≡ Ok (ops.Divide division by, rest)
unfolding op_after divide_at
divide_again division by rest fits positive =
    ap (λ (r : Result (ℤ × List ℕ) CodeFault). r >>= λ by. cond (int_lt by.0 (pos 1)) (Err Operand) (Ok (ops.Divide division by.0, by.1))) (int_spelled.again by rest fits)
    ∙ rw (at_least by positive) refl

say_again : (count : ℕ) (rest : List ℕ) → count ≤ SAID_LIMIT → op_after forms.Count (count ∷ rest) ≡ Ok (ops.Say count, rest)
unfolding op_after say_at
say_again count rest fits =
    let few : ltb SAID_LIMIT count ≡ false = le-ltb _ _ fits in
    rw few refl

op_again : (op : Op) (rest : List ℕ) → IsOp op → op_at (op_bytes op ++ rest) ≡ Ok (op, rest)
unfolding op_at op_after push_label_at next_at
op_again (ops.PushInt n) rest fits = one_again Op ℤ int_at eight_bytes (FitsSigned w64) int_spelled ops.PushInt n rest fits
op_again (ops.PushBool b) rest fits = one_again Op Bool bool_at bool_bytes Always bool_spelled ops.PushBool b rest tt
op_again (ops.PushLabel set label) rest fits = two_again Op ℕ ℕ number_at two_bytes Number number_spelled byte_at single Byte byte_spelled ops.PushLabel set label rest fits.0 fits.1
op_again (ops.Load n) rest fits = one_again Op ℕ byte_at single Byte byte_spelled ops.Load n rest fits
op_again (ops.Store n) rest fits = one_again Op ℕ byte_at single Byte byte_spelled ops.Store n rest fits
op_again (ops.PushText n) rest fits = with_number_again numbered.PushText n rest fits
op_again (ops.Get n) rest fits = with_number_again numbered.Get n rest fits
op_again (ops.Links n) rest fits = with_number_again numbered.Links n rest fits
op_again (ops.Find n) rest fits = with_number_again numbered.Find n rest fits
op_again (ops.Alive n) rest fits = with_number_again numbered.Alive n rest fits
op_again (ops.New n) rest fits = with_number_again numbered.New n rest fits
op_again (ops.Set n) rest fits = with_number_again numbered.Set n rest fits
op_again (ops.Enter n) rest fits = with_number_again numbered.Enter n rest fits
op_again (ops.Leave n) rest fits = with_number_again numbered.Leave n rest fits
op_again (ops.Jump n) rest fits = with_number_again numbered.Jump n rest fits
op_again (ops.Unless n) rest fits = with_number_again numbered.Unless n rest fits
op_again (ops.Back n) rest fits = with_number_again numbered.Back n rest fits
op_again (ops.Relink changes.Link n) rest fits = with_number_again (numbered.Relink changes.Link) n rest fits
op_again (ops.Relink changes.Unlink n) rest fits = with_number_again (numbered.Relink changes.Unlink) n rest fits
op_again (ops.One n place) rest fits = branch_again branches.One n place rest fits.0 fits.1
op_again (ops.As n place) rest fits = branch_again branches.As n place rest fits.0 fits.1
op_again (ops.Divide DivBy by) rest fits = divide_again DivBy by rest fits.fits fits.positive
op_again (ops.Divide ModBy by) rest fits = divide_again ModBy by rest fits.fits fits.positive
op_again (ops.Say count) rest fits = say_again count rest fits
op_again (ops.Next local place) rest fits = two_again Op ℕ ℕ byte_at single Byte byte_spelled number_at two_bytes Number number_spelled ops.Next local place rest fits.0 fits.1
op_again (ops.Calculate Add) rest fits = refl
op_again (ops.Calculate Sub) rest fits = refl
op_again (ops.Calculate Mul) rest fits = refl
op_again (ops.Calculate Min) rest fits = refl
op_again (ops.Calculate Max) rest fits = refl
op_again (ops.Compare Lt) rest fits = refl
op_again (ops.Compare Le) rest fits = refl
op_again (ops.Compare EqInt) rest fits = refl
op_again (ops.Combine logic.And) rest fits = refl
op_again (ops.Combine logic.Or) rest fits = refl
op_again (ops.BoundOf Low) rest fits = refl
op_again (ops.BoundOf High) rest fits = refl
op_again ops.Pop rest fits = refl
op_again ops.EqText rest fits = refl
op_again ops.EqLabel rest fits = refl
op_again ops.EqUnit rest fits = refl
op_again ops.Not rest fits = refl
op_again ops.MakeInterval rest fits = refl
op_again ops.Size rest fits = refl
op_again ops.Delete rest fits = refl
op_again ops.Done rest fits = refl
op_again ops.Rate rest fits = refl
op_again ops.Decline rest fits = refl
op_again ops.Answer rest fits = refl

pub op_spelled : IsSpelled Op op_at op_bytes IsOp
op_spelled = record { takes = op_takes; again = op_again }
