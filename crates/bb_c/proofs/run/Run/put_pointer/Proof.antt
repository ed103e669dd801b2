-- `put_pointer`: the handle points where the pointer did, and owns what is there.
use Rattle.bb_c_run.proofs.Laws.{held_laws}
use Rattle.bb_c_run.specs.contracts.held.Held as held
use Rattle.std.proofs.Common.{List, [], refl, ◌∷◌}
use Rattle.std.proofs.raw_atomic.Walks.{proved}
use Rattle.std.specs.Prelude.{Some, true}
use base.Fml.{flft, ftrue}
use denote.Exit.{yes}
use denote.RattleType.{RattleType, owns}
use denote.RawPtr.{rawptr_Lawful}
use denote.Ref.{mut_Tells, mut_vals}
use denote.Signature.{plain, types_at}
use denote.Steps.{nothing}
use denote.Triple.Walked.{Goes-dropped, Goes-ref, Stays, ends_at, says, stay_dropped, stay_ref, walk_of}
use mir.Syntax.{named}
use mir.Val.{Val, vunit}
use types.ByLocal.{alloc_all, free_all, get, get_in, look_at, pass_all, sets, through}
use types.Kit.{ !, done, drop, feq_i, fjoin, frame, fsplit, join, keep, move, qed, raw, split, suffices, ‵, ◌$◌, ◌∵◌, ◌⊛◌}
use types.Part.{store_in, sub, whole}
use types.Run.{assigns, enter, fld, of_opd, returns, stop, true_lit, unit_lit}
use Rattle.bb_c.proofs.Handle.{Handle, opens_run, shuts_run}
use Rattle.bb_c.proofs.pointer.Pointer.TheLaws as loose
use Rattle.bb_c.proofs.run.Run.put_pointer.Code as code
use Rattle.bb_c.proofs.run.Run.put_pointer.Statement.{statement}
use Rattle.bb_c.specs.contracts.pointer.Pointer as pointer
use Rattle.bb_c.specs.contracts.run.Run.put_pointer as f
use Rattle.bb_c.specs.declared.run.Run.{Run}

abbrev Loosened : RattleType
Loosened = pointer.the_row held.the_row

abbrev slots : Stays f.ended.signature.params f.ended.kept
slots = (stay_ref (0 ∷ []) tt (plain (λ _. Handle)), (stay_dropped (plain (λ _. Loosened)) yes, tt))

pub put_pointer_spec : {M : Type 1} → statement M
put_pointer_spec 𝓤 𝓛 𝓜 𝓡 wired =
    let asks = f.clauses 𝓛 𝓜.mem 𝓡.returns in
    proved 𝓛 f.ended slots asks 𝓜 𝓡
    (Goes-ref 𝓛 1 0 tt (plain (λ _. Handle)), (Goes-dropped 𝓛 1 (plain (λ _. Loosened)) yes (λ κs x w. refl), tt))
    f.Key.name code.function (code.unfolded 𝓤 𝓛.H 𝓜 𝓡 wired)
    (λ κs. (mut_vals, ((λ p. (loose.lowers held.the_row held_laws).lowered p ∷ []), tt)))
    (λ κs. (mut_Tells (named 0) κs.0 Handle, ((loose.lowers held.the_row held_laws).val_is, tt)))
    (λ κs qs bounds a _ are.
    let r = a.0 in let p = a.1.0 in let fits = ((rawptr_Lawful 𝓛).typed p.at _ refl).0 in
    let h : Run = record { at = p.at; is_open = true; sitting = Some p.value } in
    let y : (walk_of 𝓛 f.ended slots asks).Ghost =
    ((κs, qs, bounds, a, (mut_vals r, ((loose.lowers held.the_row held_laws).lowered p ∷ [], tt))), tt) in
    qed 𝓛 (((‵ (flft κs.0 qs.0) ⊛ ‵ ftrue) ⊛ ‵ (owns (types_at f.ended.signature.params κs) a y.0.4)) ∷ raw ((asks κs a).requires tt) ∷ []) ∵
    split ! $ split ! $ move ! (2 ∷ []) $ fsplit ! $ move ! (1 ∷ []) $ fsplit ! $ keep ! (0 ∷ 2 ∷ 3 ∷ []) $ fsplit ! $ drop ! $
    -- [the box; the reference; its token]
    enter ! _ _ _ _ _ $ alloc_all ! (λ l. pass_all ! refl ((tt, tt), ((loose.the_row_laws held.the_row held_laws).lawful 𝓛).typed p _ are.1.0) $
    move ! (1 ∷ 2 ∷ []) $ opens_run ! tt r $ move ! (1 ∷ []) $ drop ! $
    -- [the handle's word; the loan, in three parts; the box]
    sets ! (of_opd ! (get_in ! (fld ! refl (stop !)) (sub ! 0 refl (whole !)))) refl fits $
    sets ! (of_opd ! (get ! refl)) refl fits $
    assigns ! (of_opd ! (get ! refl)) (through ! refl (fld ! refl (stop !))) (store_in ! 0 (sub ! 0 refl (whole !)) fits) $
    assigns ! (of_opd ! (true_lit !)) (through ! refl (fld ! refl (stop !))) (store_in ! 0 (sub ! 1 refl (whole !)) (tt, tt)) $
    sets ! (of_opd ! (unit_lit !)) refl (tt, tt) $ move ! (0 ∷ 4 ∷ []) $ shuts_run ! tt (record r { now = h }) $
    returns ! (look_at ! 0 refl) $ free_all ! refl $ suffices ! _ (ends_at 𝓛 f.ended slots asks y vunit tt (h, (tt, tt)) (tt, (tt, tt))) $ says ! refl $
    -- [the reference; its token]
    move ! (1 ∷ []) $ nothing ! $ move ! (1 ∷ 0 ∷ []) $ join ! $ frame ! $
    nothing ! $ nothing ! $ fjoin ! $ move ! (1 ∷ 0 ∷ []) $ fjoin ! $ frame ! $
    feq_i ! (List Val) (vunit ∷ []) (vunit ∷ []) refl $ done !))
