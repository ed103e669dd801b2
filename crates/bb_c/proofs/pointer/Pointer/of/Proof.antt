-- `of`: what the box owned, the pointer owns.
use Rattle.core.proofs.alloc.Calls.{Goes-blank}
use Rattle.core.proofs.atomic.Steps.{fm}
use Rattle.std.proofs.Common.{List, [], ap, refl, ◌++◌, ◌∷◌}
use Rattle.std.proofs.alloc.Global.TheLaws as global
use Rattle.std.proofs.impls.GlobalAllocator.TheImpl.Met.{passed}
use Rattle.std.proofs.raw_atomic.Walks.{proved_at}
use Rattle.std.specs.contracts.alloc.Global as heap
use Rattle.std.specs.contracts.impls.GlobalAllocator.TheImpl.{dict, ghosts}
use Rattle.std_alloc.proofs.ResultValues.{and_tt}
use Rattle.std_alloc.proofs.boxed.Box.TheLaws as box_laws
use Rattle.std_alloc.proofs.boxed.Box.into_raw.Met.{met}
use Rattle.std_alloc.specs.contracts.boxed.Box as box
use Rattle.std_alloc.specs.contracts.boxed.Box.into_raw as release
use base.Fml.{flft, ftrue}
use base.Fraction.{full_share}
use base.Logic.{id⊢}
use contract.BorrowLft.{◌⊑◌, ⊑_static}
use contract.Monad.{fact}
use contract.Running.{tables}
use denote.Builtin.{RawPtr}
use denote.Exit.{no}
use denote.Param.Laws.{param_laws}
use denote.Param.Steps.{one_value}
use denote.Param.{bounded, layout, param}
use denote.RattleType.{RattleType, owns}
use denote.RawPtr.{Ptr, ptr_val, rawptr_Lawful}
use denote.Signature.{plain}
use denote.Steps.{nothing, only, owned}
use denote.Struct.Owning.{shape}
use denote.Struct.Struct.{Struct, Struct-Makes}
use denote.Triple.Call.{calls_at}
use denote.Triple.Clauses.{Lasts, lasts}
use denote.Triple.Spec.{triple_of}
use denote.Triple.Walked.{Stays, ends_at, says, stay_dropped, walk_of}
use mir.MapTy.{inst_fn}
use mir.Syntax.{a_type, dcons, dnil}
use mir.Val.{Val, vcons, vnil, vstruct}
use prog.Wp.{WpFn}
use types.ByLocal.{alloc_all, free_all, get, lands_as, look_at, pass_all, sets}
use types.Kit.{ !, Goal, Item, Sq, await, done, drop, feq_l, fjoin, frame, join, later, move, pick, prop, qed, raw, some, split, suffices, use1, ‵, ◌$◌, ◌∵◌, ◌⊛◌}
use types.Part.{agg}
use types.Run.{and_then, enter, no_more, of_opd, returns}
use Rattle.bb_c.proofs.Destruct++none.drop.Code.{glues}
use Rattle.bb_c.proofs.Heap.{Heap, heap_laws, idle, lives, tells}
use Rattle.bb_c.proofs.pointer.Pointer.of.Code as code
use Rattle.bb_c.proofs.pointer.Pointer.of.Statement.{statement}
use Rattle.bb_c.specs.Owned.{boxed}
use Rattle.bb_c.specs.contracts.pointer.Pointer as pointer
use Rattle.bb_c.specs.contracts.pointer.Pointer.of as f

pub of_spec : {M : Type 1} → statement M
of_spec {M} 𝓤 𝓛 𝓜 𝓡 wired T laws drops dropped =
    let X : RattleType = param 0 T in let Boxed : RattleType = box.the_row X heap.the_row ghosts in
    let asks = f.clauses T drops 𝓛 𝓜.mem 𝓡.returns in let at = bounded (a_type ∷ []) (T, tt) (dcons drops dnil) in
    let slots : Stays (f.ended T drops).signature.params (f.ended T drops).kept = (stay_dropped (plain (λ _. Boxed)) no, tt) in
    proved_at 𝓛 (f.ended T drops) slots asks 𝓜 𝓡 (Goes-blank 𝓛 1 (plain (λ _. Boxed)) no (λ κs x left. tt), tt)
    (f.Key.name at) (inst_fn at code.function) (code.unfolded 𝓤 𝓛.H 𝓜 𝓡 wired (T, tt) drops) (λ y are.
    let κ = y.0.0.0 in let q = y.0.1.0 in let b = y.0.3.0 in let runs = tables 𝓤 𝓛.H 𝓜 𝓡 𝓡.env in
    let Begins : List Val → List (Item 𝓤) =
    λ vs. ((‵ (flft κ q) ⊛ ‵ ftrue) ⊛ ‵ (owns (Boxed ∷ []) (b, tt) (vs, tt))) ∷ (raw (fact 𝓤 (κ ⊑ T.lives)) ⊛ ‵ ftrue) ∷ [] in
    let Goes : List Val → Goal 𝓤 𝓛.H = λ vs. prop (WpFn 𝓤 𝓛.H runs.C runs.Λ (inst_fn at code.function) (vs ++ [])
    ((walk_of 𝓛 (f.ended T drops) slots asks).post ((y.0.0, y.0.1, y.0.2, y.0.3, (vs, tt)), y.1))) in
    let typed = ((box_laws.the_row_laws X heap.the_row ghosts (param_laws 0 T laws) global.the_row_laws).lawful 𝓛).typed b y.0.4.0 are.0 in
    qed 𝓛 (Begins y.0.4.0) ∵ one_value (layout Boxed) (λ (vs : List Val). Sq 𝓛 (Begins vs) (Goes vs)) y.0.4.0 typed (λ v fits.
    let Release = triple_of 𝓛 (release.signature T Heap ghosts dict idle drops) (release.spec T Heap ghosts dict idle drops 𝓛 𝓜.mem 𝓡.returns) in
    let ends = release.ended T Heap ghosts dict idle drops in
    let z : Release.Ghost = (((κ, ([], tt)), (q, (full_share, tt)), tt, (b, tt), (v ∷ [], tt)), tt) in
    split ! $ split ! $ enter ! _ _ _ _ _ $ alloc_all ! (λ l. pass_all ! refl (fits, tt) $ sets ! (of_opd ! (get ! refl)) refl fits $
    -- [the token; no more tokens; the box; what is required]
    lives ! $ move ! (0 ∷ 2 ∷ []) $ join ! $ move ! (1 ∷ 0 ∷ []) $ join ! $ join ! $
    move ! (1 ∷ []) $ split ! $ move ! (1 ∷ []) $ tells ! (⊑_static []) $ join ! $ move ! (1 ∷ 0 ∷ []) $ join ! $
    move ! (1 ∷ 0 ∷ []) $ join ! $ use1 𝓛 (raw (Release.pre z)) (id⊢ 𝓤 _) $
    calls_at ! (fm 𝓛 𝓜 𝓡) Release
    (met 𝓤 𝓛 𝓜 𝓡 (code.calls-std_alloc::boxed::Box::into_raw 𝓡.env wired) T Heap laws heap_laws ghosts dict idle drops
    (passed 𝓡.env (code.calls-std_heap::GlobalAllocator::allocate 𝓡.env wired) (code.calls-std_heap::GlobalAllocator::deallocate 𝓡.env wired)
    (code.calls-std_heap::GlobalAllocator::grow 𝓡.env wired) (code.calls-std_heap::GlobalAllocator::shrink 𝓡.env wired) M 𝓤 𝓛 𝓜 𝓡)
    (glues 𝓡.env (code.calls-bb_c::Destruct++none::drop 𝓡.env wired) Heap heap_laws M 𝓤 𝓛 𝓜 𝓡) dropped) z
    (and_then ! (get ! refl) (no_more !)) (λ u.
    use1 𝓛 (later (some (λ (p : Ptr). ((‵ (flft κ q) ⊛ ‵ (flft [] full_share) ⊛ ‵ ftrue) ⊛ ‵ (RawPtr.own_val p (u ∷ [])))
    ⊛ some (λ (last : Lasts ends z.0.0 z.0.3). ‵ (lasts ends z.0.0 z.0.3 last) ⊛ ‵ (boxed X p b.value))))) (id⊢ 𝓤 _) $
    await ! tt $ pick ! (λ p. split ! $ move ! (1 ∷ []) $ pick ! (λ last. split ! $ drop ! $ move ! (1 ∷ []) $ split ! $ split ! $
    -- [the token; the others; what the pointer is in memory; the box]
    move ! (2 ∷ []) $ feq_l ! (λ is. let word = ((rawptr_Lawful 𝓛).typed p _ refl).0 in
    lands_as ! (ap only is) refl word $ sets ! (agg ! (and_then ! (get ! refl) (no_more !))) refl (and_tt _ word.0, (word.1, tt)) $
    returns ! (look_at ! 0 refl) $ free_all ! refl $ suffices ! _ (ends_at 𝓛 (f.ended T drops) slots asks ((y.0.0, y.0.1, y.0.2, y.0.3, (v ∷ [], tt)), y.1) _
    (record { at = p; value = b.value }) (tt, tt) (tt, tt)) $ says ! refl $
    move ! (1 ∷ []) $ split ! $ drop ! $ move ! (1 ∷ 0 ∷ []) $ join ! $ frame ! $ nothing ! $ nothing ! $ fjoin ! $ frame ! $
    owned ! (Struct (shape (pointer.the_type X))) _ (Struct-Makes 𝓛 (shape (pointer.the_type X)) ((λ x vs. tt), tt))
    (p, tt) (vstruct (vcons (ptr_val p) vnil) ∷ []) ((ptr_val p ∷ [], tt), (refl, (refl, tt))) $ fjoin ! $ done !)))))))
