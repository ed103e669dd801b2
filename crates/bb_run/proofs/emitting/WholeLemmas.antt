-- The whole run is emitted, its finish last, or it is cut short.
use Rattle.std.proofs.Common.{◌≡◌, ℕ, List, [], ◌∷◌, ◌++◌, length, map, take, Option, Some, Result, Ok, Err, refl, subst, sym, ap, ◌∙◌}
use Rattle.std.specs.Prelude.{IfOk}
use Rattle.std.specs.Io.KnownBytes.{Appends}
use Rattle.std.proofs.Math.Seq.{take-append_seam}
use Rattle.std.proofs.lemmas.List.{append-nil, nil_from_length}
use Rattle.bb_trace.specs.End.{End}
use Rattle.bb_run.specs.declared.finish.Finish.TheVariants as finishes
use Rattle.bb_trace.specs.declared.halt.Halt.{Halt}
use Rattle.bb_trace.specs.declared.halt.Halt.TheVariants as halts
use Rattle.bb_trace.specs.declared.note.Note.{Note}
use Rattle.bb_trace.specs.declared.note.Note.TheVariants.{Closed, Finished}
use Rattle.bb_trace.specs.Closing.{Closing}
use Rattle.bb_trace.specs.Roster.{closings_of}
use Rattle.bb_run_plan.specs.Plan.{Plan}
use Rattle.bb_trace.specs.Board.{Board as Blackboard}
use Rattle.bb_run.specs.State.{State}
use Rattle.bb_run.specs.Finish.{WritesFront}
use Rattle.bb_run.specs.Emission.{Stretch}
use Rattle.bb_run.specs.Run.{finish, finish_segments, with_finish}
use Rattle.bb_trace.specs.TraceText.{segment_text, trace_text}
use Rattle.bb_run.specs.Emitting.{Concludes, CutIn, CutsShort, EndsRun, Finishes, GivesUp, Leaves, HasWritten, Place, IsEmitted, EmittedFirst, Writes, WroteFirst, WroteFront, WroteUntil, at_page}
use Rattle.bb_trace.specs.Page.{Flushes}
use Rattle.bb_trace.proofs.Laws.{appends_none}
use Rattle.bb_run.proofs.emitting.SegmentLemmas.{segment_added, all_written, front_later, page_cut, until_later}

-- ---- the last notes

-- nothing is left to move
pub all_moved : {A B : Type 0} (f : A → B) (front total : List B) (items : List A) → length items ≡ 0 → front ++ map f items ≡ total → front ≡ total
all_moved f front total items none so_far = sym (append-nil front) ∙ ap (λ xs. front ++ map f xs) (sym (nil_from_length items none)) ∙ so_far

-- the end, and what the natives that are left said at their close
pub last_is : (end : End) (s t : State) (said : List Closing) (notes : List Note) → s ≡ t → said ≡ closings_of s.natives → notes ≡ Finished end ∷ map Closed said → notes ≡ finish end t.natives
last_is end s t said notes same closes is = is ∙ ap (λ cs. Finished end ∷ map Closed cs) (closes ∙ ap (λ (u : State). closings_of u.natives) same)

-- ---- the whole run

-- nothing was emitted, and the page is empty
pub nothing_written : (plan : Plan) (taken : Option (List ℕ)) (page : List ℕ) → page ≡ [] → HasWritten plan taken (at_page taken page) []
nothing_written plan taken page empty = record { written = []; waiting = []; all = refl; appended = appends_none taken; page_is = empty }

-- where memory runs out before anything is emitted, nothing is written
pub none_written : (plan : Plan) (taken : Option (List ℕ)) (segments : List (List Note)) → WroteFirst plan taken taken segments
none_written plan taken segments = record { first = []; rest = segments; all = refl; appended = appends_none taken }

-- what waited is written where memory ran out
pub given_up : (plan : Plan) (start given : Option (List ℕ)) (place : Place) (segments : List (List Note)) (halt : Halt) → EmittedFirst plan start place segments → GivesUp place.taken given place.page halt → WroteUntil plan start given segments halt
given_up plan start given place segments halts.Memory t more = record { first = t.first; rest = t.rest; all = t.all; appended = all_written plan start given place t.first t.emitted more }
given_up plan start given place segments halts.Write t more =
    subst (WroteFront plan start given) (sym t.all) (front_later plan start given t.first t.rest (page_cut plan start given place t.first more.0 t.emitted more.1))

-- the last segment is emitted, and all is written
pub concluded : (plan : Plan) (place : Place) (given : Option (List ℕ)) (page new : List ℕ) (notes : List Note) (r : Result (Unit {0}) Halt) → page ≡ place.page ++ segment_text plan notes → Flushes place.taken given page new r
    → Concludes plan place given (notes ∷ []) r
concluded plan place given page new notes (Ok x) grown f = λ start emitted h.
    all_written plan start given (at_page place.taken page) (emitted ++ notes ∷ []) (segment_added plan start place.taken place.page page emitted notes grown h) f.0
concluded plan place given page new notes (Err halts.Memory) grown f = absurd f
concluded plan place given page new notes (Err halts.Write) grown f = λ start emitted h.
    page_cut plan start given (at_page place.taken page) (emitted ++ notes ∷ []) f.0 (segment_added plan start place.taken place.page page emitted notes grown h) f.1

module _ (plan : Plan) (taken : Option (List ℕ)) (first : List ℕ) (here : Place) (p : Stretch) where
  -- the last segment is the finish, and the closings
  finished : (end : End) → p.end ≡ Some end → (with_finish p).emitted ≡ p.emitted ++ finish end p.state.natives ∷ []
  finished end is = ap (λ e. p.emitted ++ finish_segments e p.state.natives) is

  pub run_written : {X : Type 0} (given : Option (List ℕ)) (end : End) (r : Result X Halt) → first ≡ [] → p.end ≡ Some end → IsEmitted plan (at_page taken first) here p.emitted
      → Concludes plan here given (finish end p.state.natives ∷ []) r → Writes plan taken given (with_finish p).emitted r
  run_written given end r empty is emitted concludes =
      subst (λ w. Writes plan taken given w r) (sym (finished end is)) (concludes taken p.emitted (emitted taken [] (nothing_written plan taken first empty)))

  pub run_cut : (given : Option (List ℕ)) (halt result : Halt) → first ≡ [] → CutIn plan (at_page taken first) here p.emitted halt
      → CutsShort here given halt result → WroteUntil plan taken given (with_finish p).emitted result
  run_cut given halt result empty cut cuts =
      let last = finish_segments p.end p.state.natives in
      cuts plan taken (p.emitted ++ last) (until_later plan taken here p.emitted last halt (cut taken [] (nothing_written plan taken first empty)))

-- ---- the end of a run, by how it was made

module _ (plan : Plan) (here : Place) (given start : Option (List ℕ)) (p : Stretch) (s : State) where
  same_end : (end : End) (r : Result End Halt) → Leaves p s (Some end) → IfOk r (λ e. e ≡ end) → IfOk r (λ e. p.end ≡ Some e)
  same_end end (Ok e) left is = sym left.end ∙ ap (λ x. Some x) (sym is)
  same_end end (Err halt) left is = tt

  pub made_ends : (closed : List Closing) (end : End) (r : Result End Halt) → closed ≡ closings_of s.natives → Finishes plan (at_page start []) here p s (Ok end)
      → Concludes plan here given ((Finished end ∷ map Closed closed) ∷ []) r → IfOk r (λ e. e ≡ end) → EndsRun plan start given p r
  made_ends closed end r closes made concludes is = record {
    written = run_written plan start [] here p given end r refl (sym made.1.end) made.0
        (subst (λ (ns : List Note). Concludes plan here given (ns ∷ []) r) (last_is end s p.state closed (Finished end ∷ map Closed closed) made.1.state closes refl) concludes);
    end = same_end end r made.1 is;
  }

  pub cut_ends : (halt result : Halt) → CutIn plan (at_page start []) here p.emitted halt → CutsShort here given halt result → EndsRun plan start given p (Err result)
  cut_ends halt result cut cuts = record { written = run_cut plan start [] here p given halt result refl cut cuts; end = tt }

-- where a run ends, the blackboard that it left is that of the stretch
pub left_board : (plan : Plan) (a b : Place) (p : Stretch) (s : State) (made r : Result End Halt) (board : Blackboard) → board ≡ s.board → Finishes plan a b p s made → IfOk r (λ e. made ≡ Ok e) → IfOk r (λ e. board ≡ p.state.board)
left_board plan a b p s made (Ok e) board is finishes same = is ∙ ap (λ (u : State). u.board) (subst (Finishes plan a b p s) same finishes).1.state
left_board plan a b p s made (Err halt) board is finishes same = tt

-- ---- what is said of a run that was cut short

pub wrote_first : (plan : Plan) (p : Stretch) (old new : Option (List ℕ)) → WroteFirst plan old new p.emitted → WritesFront plan p finishes.Memory old new
wrote_first plan p old new w = (length w.first, subst (λ x. Appends old new (trace_text plan x)) (sym (ap (take (length w.first)) w.all ∙ take-append_seam w.first w.rest)) w.appended)

pub wrote_front : (plan : Plan) (p : Stretch) (old new : Option (List ℕ)) → WroteFront plan old new p.emitted → WritesFront plan p finishes.Write old new
wrote_front plan p old new w = (length w.front, subst (Appends old new) (sym (ap (take (length w.front)) w.all ∙ take-append_seam w.front w.rest)) w.appended)
