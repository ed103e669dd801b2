-- `take`: a handle that is open gives its box, and is open no more.
use Rattle.core.proofs.atomic.Steps.{fm}
use Rattle.core.proofs.option.Made.{Some-of, none_of}
use Rattle.bb_c_run.proofs.Laws.{held_laws}
use Rattle.bb_c_run.specs.contracts.held.Held as held
use Rattle.std.proofs.Common.{List, [], ap, false, lit<, refl, sym, ◌∙◌, ◌∷◌, ◌≡◌}
use Rattle.std.proofs.alloc.Global.TheLaws as global
use Rattle.std.proofs.impls.GlobalAllocator.TheImpl.Met.{passed}
use Rattle.std.proofs.raw_atomic.Walks.{proved}
use Rattle.std.specs.Prelude.{None, Some}
use Rattle.std.specs.contracts.alloc.Global as heap
use Rattle.std.specs.contracts.impls.GlobalAllocator.TheImpl.{dict, ghosts}
use Rattle.std_alloc.proofs.ResultValues.{and_tt}
use Rattle.std_alloc.proofs.boxed.Box.TheLaws as box_laws
use Rattle.std_alloc.proofs.boxed.Box.from_raw.Met.{met}
use Rattle.std_alloc.specs.contracts.boxed.Box as box
use Rattle.std_alloc.specs.contracts.boxed.Box.from_raw as claim
use base.Fml.{flft, ftrue}
use base.Fraction.{full_share}
use base.Logic.{SProp, id⊢}
use contract.BorrowLft.{⊑_static}
use contract.Monad.{fact}
use contract.Running.{tables}
use denote.Exit.{no, yes}
use denote.Laws.{shows}
use denote.Param.Laws.{Laws, arg_laws}
use denote.Param.{layout}
use denote.RattleType.{RattleType, owns}
use denote.RawPtr.{ptr_val, rawptr_Lawful}
use denote.Ref.{mut_Tells, mut_vals}
use denote.Signature.{plain, type_at, types_at}
use denote.Steps.{heard, nothing, peeks}
use denote.Triple.Call.{calls_at_last}
use denote.Triple.Clauses.{Lasts, lasts}
use denote.Triple.Spec.{triple_of}
use denote.Triple.Walked.{Goes-dropped, Goes-ref, Stays, ends_at, stay_dropped, stay_ref, walk_of}
use mir.Raw.{raw as nameless}
use mir.Syntax.{named}
use mir.Val.{Val, vcons, vnil}
use types.ByLocal.{alloc_all, env, free_all, get, lands_last, look_at, pass_all, sets, through}
use types.Kit.{ !, Sq, at_ret, await, done, drop, feq_i, fjoin, fsplit, group, join, keep, later, move, pick, prop, qed, raw, some, split, suffices, use0, use1, ‵, ◌$◌, ◌∵◌, ◌⊛◌}
use types.Match.{live}
use types.Part.{agg, look_in, store_in, sub, whole}
use types.Run.{and_then, assigns, blocks, branches, enter, exec, false_lit, first, fld, lit, load, no_more, of_opd, returns, returns_within, skips, stop, un}
use Rattle.bb_c.proofs.Destruct++none.drop.Code.{glues}
use Rattle.bb_c.proofs.Handle.{Handle, Shut, holds_box, holds_none, opens_run, shuts_run}
use Rattle.bb_c.proofs.Heap.{Given, Heap, heap_laws, idle, lives, tells}
use Rattle.bb_c.proofs.run.Run.take.Code as code
use Rattle.bb_c.proofs.run.Run.take.Statement.{statement}
use Rattle.bb_c.specs.Taken.{in_box}
use Rattle.bb_c.specs.contracts.run.Run.take as f
use Rattle.bb_c.specs.declared.run.Run.{Run}

abbrev Kept : RattleType
Kept = Given held.the_row

abbrev kept_laws : Laws Kept
kept_laws = arg_laws (nameless (layout held.the_row)) no held.the_row held_laws refl

abbrev Boxed : RattleType
Boxed = box.the_row held.the_row heap.the_row ghosts

abbrev slots : Stays f.ended.signature.params f.ended.kept
slots = (stay_ref (0 ∷ []) tt (plain (λ _. Handle)), (stay_dropped (plain (λ _. heap.the_row)) yes, tt))

pub take_spec : {M : Type 1} → statement M
take_spec {M} 𝓤 𝓛 𝓜 𝓡 wired =
    let asks = f.clauses 𝓛 𝓜.mem 𝓡.returns in let runs = tables 𝓤 𝓛.H 𝓜 𝓡 𝓡.env in
    proved 𝓛 f.ended slots asks 𝓜 𝓡
    (Goes-ref 𝓛 1 0 tt (plain (λ _. Handle)), (Goes-dropped 𝓛 1 (plain (λ _. heap.the_row)) yes (λ κs x w. refl), tt))
    f.Key.name code.function (code.unfolded 𝓤 𝓛.H 𝓜 𝓡 wired)
    (λ κs. (mut_vals, ((λ g. global.lowered g ∷ []), tt))) (λ κs. (mut_Tells (named 0) κs.0 Handle, (global.lowers.val_is, tt)))
    (λ κs qs bounds a _ are.
    let r = a.0 in let g = a.1.0 in let h = r.now in
    let alloc_fits = ((global.the_row_laws.lawful 𝓛).typed g _ are.1.0).0 in let at_fits = ((rawptr_Lawful 𝓛).typed h.at _ refl).0 in
    let y : (walk_of 𝓛 f.ended slots asks).Ghost = ((κs, qs, bounds, a, (mut_vals r, (global.lowered g ∷ [], tt))), tt) in
    let Done : Val → SProp 𝓤 = (walk_of 𝓛 f.ended slots asks).post y in let Out : RattleType = type_at f.ended.signature.result κs in
    let ends : (k : Run) (x : Out.Denot) (v : Val) → in_box x ≡ h.sitting → k.sitting ≡ None
    → Sq 𝓛 (‵ (Out.own_val x (v ∷ [])) ∷ Shut κs.0 qs.0 (record r { now = k }) []) (prop (Done v)) = λ k x v taken none.
    suffices ! _ (ends_at 𝓛 f.ended slots asks y v x (k, (tt, tt)) (tt, (tt, tt))) $ tells ! none $ tells ! taken $ join ! $
    -- [what is ensured; the result; the reference; its token]
    move ! (3 ∷ []) $ nothing ! $ move ! (1 ∷ 0 ∷ []) $ join ! $
    nothing ! $ nothing ! $ fjoin ! $ move ! (4 ∷ 0 ∷ []) $ fjoin ! $ move ! (1 ∷ 0 ∷ 3 ∷ []) $ group ! 3 $ done ! in
    qed 𝓛 (((‵ (flft κs.0 qs.0) ⊛ ‵ ftrue) ⊛ ‵ (owns (types_at f.ended.signature.params κs) a y.0.4)) ∷ raw ((asks κs a).requires tt) ∷ []) ∵
    split ! $ split ! $ move ! (2 ∷ []) $ fsplit ! $ move ! (1 ∷ []) $ fsplit ! $ keep ! (0 ∷ 2 ∷ 3 ∷ []) $
    -- [the allocator; the reference; its token]
    enter ! _ _ _ _ _ $ alloc_all ! (λ l. let E = env code.Mir.locals l in
    pass_all ! refl ((tt, tt), (alloc_fits, tt)) $ move ! (1 ∷ 2 ∷ []) $ opens_run ! tt r $
    -- [the handle; what it owns; the loan, in three parts; the allocator]
    sets ! (of_opd ! (load ! (through ! refl (fld ! refl (stop !))) (look_in ! 0 (sub ! 1 refl (whole !))))) refl (tt, tt) $ sets ! (un ! (get ! refl) tt) refl (tt, tt) $
    first ! $ branches ! (get ! refl)
    (λ shut. move ! (1 ∷ []) $ holds_none ! h.is_open h.at h.sitting shut (λ none. move ! (1 ∷ 0 ∷ []) $ shuts_run ! tt r $
    sets ! (agg ! (and_then ! (lit ! tt) (no_more !))) refl (tt, (record { fits = lit< tt }, tt)) $ returns_within ! Done refl (look_at ! 0 refl) $
    free_all ! refl $ keep ! (0 ∷ 1 ∷ []) $
    use0 𝓛 (‵ (Out.own_val None (live 0 vnil ∷ []))) (none_of 𝓛 Boxed) $ ends h None (live 0 vnil) (sym none) none))
    (λ opened. skips ! $ exec ! runs.C runs.Λ E code.Mir.t-4 (at_ret E Done) $
    assigns ! (of_opd ! (false_lit !)) (through ! refl (fld ! refl (stop !))) (store_in ! 0 (sub ! 1 refl (whole !)) (tt, tt)) $
    first ! $ blocks ! $
    sets ! (of_opd ! (load ! (through ! refl (fld ! refl (stop !))) (look_in ! 0 (sub ! 0 refl (whole !))))) refl at_fits $
    sets ! (of_opd ! (get ! refl)) refl at_fits $ move ! (1 ∷ []) $ holds_box ! h.is_open h.at h.sitting opened (λ k holds.
    let emptied : Run = record { at = h.at; is_open = false; sitting = None } in
    nothing ! $ move ! (2 ∷ 0 ∷ 3 ∷ 4 ∷ 5 ∷ []) $ shuts_run ! tt (record r { now = emptied }) $ move ! (2 ∷ 3 ∷ []) $
    -- [the box; the allocator; the reference; its token]
    let Claim = triple_of 𝓛 (claim.signature Kept Heap ghosts dict idle) (claim.spec Kept Heap ghosts dict idle 𝓛 𝓜.mem 𝓡.returns) in
    let last = claim.ended Kept Heap ghosts dict idle in
    let z : Claim.Ghost = ((([], ([], tt)), (full_share, (full_share, tt)), tt, (g, (h.at, tt)), (global.lowered g ∷ [], (ptr_val h.at ∷ [], tt))), k) in
    tells ! (⊑_static []) $ join ! $ tells ! (⊑_static []) $ join ! $ move ! (1 ∷ []) $
    nothing ! $ feq_i ! (List Val) (ptr_val h.at ∷ []) (ptr_val h.at ∷ []) refl $ fjoin ! $ move ! (1 ∷ 0 ∷ []) $ fjoin ! $
    nothing ! $ lives ! $ join ! $ lives ! $ join ! $ join ! $ join ! $ use1 𝓛 (raw (Claim.pre z)) (id⊢ 𝓤 _) $
    calls_at_last ! (fm 𝓛 𝓜 𝓡) Claim
    (met 𝓤 𝓛 𝓜 𝓡 (code.calls-std_alloc::boxed::Box::from_raw 𝓡.env wired) Kept Heap kept_laws heap_laws ghosts dict idle
    (passed 𝓡.env (code.calls-std_heap::GlobalAllocator::allocate 𝓡.env wired) (code.calls-std_heap::GlobalAllocator::deallocate 𝓡.env wired)
    (code.calls-std_heap::GlobalAllocator::grow 𝓡.env wired) (code.calls-std_heap::GlobalAllocator::shrink 𝓡.env wired) M 𝓤 𝓛 𝓜 𝓡)
    (glues 𝓡.env (code.calls-bb_c::Destruct++none::drop 𝓡.env wired) Heap heap_laws M 𝓤 𝓛 𝓜 𝓡)) z
    (and_then ! (get ! refl) (and_then ! (get ! refl) (no_more !))) (λ u.
    use1 𝓛 (later (some (λ (b : Boxed.Denot). ((‵ (flft [] full_share) ⊛ ‵ (flft [] full_share) ⊛ ‵ ftrue) ⊛ ‵ (Boxed.own_val b (u ∷ [])))
    ⊛ some (λ (ls : Lasts last z.0.0 z.0.3). ‵ (lasts last z.0.0 z.0.3 ls) ⊛ (raw (fact 𝓤 (b.value ≡ k)) ⊛ raw (fact 𝓤 (b.alloc ≡ g))))))) (id⊢ 𝓤 _) $
    await ! tt $ pick ! (λ b. split ! $ split ! $ drop ! $ move ! (1 ∷ []) $ pick ! (λ ls. split ! $ drop ! $
    split ! $ heard ! (b.value ≡ k) (λ same. drop ! $ peeks ! Boxed _ (shows 𝓛 Boxed) b (u ∷ []) (λ is.
    -- [the box; the reference; its token]
    let fits = (((box_laws.the_row_laws held.the_row heap.the_row ghosts held_laws global.the_row_laws).lawful 𝓛).typed b (u ∷ []) is).0 in
    lands_last ! refl fits $ exec ! runs.C runs.Λ E code.Mir.t-6 (at_ret E Done) $
    sets ! (of_opd ! (get ! refl)) refl fits $ sets ! (of_opd ! (get ! refl)) refl fits $
    sets ! (agg ! (and_then ! (lit ! tt) (and_then ! (get ! refl) (no_more !)))) refl (and_tt _ fits.0, (record { fits = lit< tt }, (fits.1, tt))) $
    use1 𝓛 (‵ (Out.own_val (Some b) (live 1 (vcons u vnil) ∷ []))) (Some-of 𝓛 Boxed b u) $
    returns ! (look_at ! 0 refl) $ free_all ! refl $ ends emptied (Some b) (live 1 (vcons u vnil)) (ap Some same ∙ sym holds) refl)))))))))
