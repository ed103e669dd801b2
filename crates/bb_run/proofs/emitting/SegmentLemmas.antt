-- Segments are emitted one after another: the first were written, and the page has the text of the others.
use Rattle.std.proofs.Common.{◌≡◌, ℕ, List, [], ◌∷◌, ◌++◌, take, drop, Option, Result, Ok, Err, refl, subst, sym, ap, ◌∙◌, append_assoc}
use Rattle.std.specs.Io.KnownBytes.{Appends}
use Rattle.std.proofs.lemmas.List.{append-nil, take-append-drop}
use Rattle.std.proofs.lemmas.List.Concat.{flat_map-append, flat_map-cons}
use Rattle.bb_trace.specs.declared.halt.Halt.{Halt}
use Rattle.bb_trace.specs.declared.halt.Halt.TheVariants as halts
use Rattle.bb_trace.specs.declared.note.Note.{Note}
use Rattle.bb_run_plan.specs.Plan.{Plan}
use Rattle.bb_trace.specs.TraceText.{segment_text, trace_text}
use Rattle.bb_run.specs.Emitting.{CutIn, HasWritten, Place, Emits, IsEmitted, EmittedFirst, EmittedUntil, WroteFront, at_page}
use Rattle.bb_trace.specs.Page.{Spills, flushed, kept}
use Rattle.bb_trace.proofs.Laws.{appends_then}

-- ---- the text of segments

text_of_two : (plan : Plan) (xs ys : List (List Note)) → trace_text plan (xs ++ ys) ≡ trace_text plan xs ++ trace_text plan ys
text_of_two plan xs ys = flat_map-append (segment_text plan) xs ys

pub text_of_one : (plan : Plan) (notes : List Note) → trace_text plan (notes ∷ []) ≡ segment_text plan notes
text_of_one plan notes = flat_map-cons (segment_text plan) notes [] ∙ append-nil (segment_text plan notes)

-- ---- a segment is added to the page, and the page is written

pub segment_added : (plan : Plan) (start taken : Option (List ℕ)) (page new : List ℕ) (emitted : List (List Note)) (notes : List Note) → new ≡ page ++ segment_text plan notes
    → HasWritten plan start (at_page taken page) emitted → HasWritten plan start (at_page taken new) (emitted ++ notes ∷ [])
segment_added plan start taken page new emitted notes grown h = record {
  written = h.written;
  waiting = h.waiting ++ notes ∷ [];
  all = ap (λ t. t ++ notes ∷ []) h.all ∙ append_assoc h.written h.waiting (notes ∷ []);
  appended = h.appended;
  page_is = grown ∙ ap (λ t. t ++ segment_text plan notes) h.page_is ∙ ap (λ t. trace_text plan h.waiting ++ t) (sym (text_of_one plan notes)) ∙ sym (text_of_two plan h.waiting (notes ∷ []));
}

-- the text of what was emitted is what was written and the page
all_text : (plan : Plan) (start : Option (List ℕ)) (place : Place) (emitted : List (List Note)) (h : HasWritten plan start place emitted) → trace_text plan emitted ≡ trace_text plan h.written ++ place.page
all_text plan start place emitted h = ap (trace_text plan) h.all ∙ text_of_two plan h.written h.waiting ∙ ap (λ t. trace_text plan h.written ++ t) (sym h.page_is)

pub all_written : (plan : Plan) (start given : Option (List ℕ)) (place : Place) (emitted : List (List Note)) → HasWritten plan start place emitted → Appends place.taken given place.page → Appends start given (trace_text plan emitted)
all_written plan start given place emitted h more =
    subst (Appends start given) (sym (all_text plan start place emitted h)) (appends_then start place.taken given (trace_text plan h.written) place.page h.appended more)

page_written : (plan : Plan) (start given : Option (List ℕ)) (place : Place) (new : List ℕ) (emitted : List (List Note)) → HasWritten plan start place emitted → Appends place.taken given place.page → new ≡ []
    → HasWritten plan start (at_page given new) emitted
page_written plan start given place new emitted h more empty = record {
  written = emitted;
  waiting = [];
  all = sym (append-nil emitted);
  appended = all_written plan start given place emitted h more;
  page_is = empty;
}

pub page_cut : (plan : Plan) (start given : Option (List ℕ)) (place : Place) (emitted : List (List Note)) (count : ℕ) → HasWritten plan start place emitted → Appends place.taken given (take count place.page)
    → WroteFront plan start given emitted
page_cut plan start given place emitted count h more = record {
  front = trace_text plan h.written ++ take count place.page;
  rest = drop count place.page;
  all = all_text plan start place emitted h ∙ ap (λ t. trace_text plan h.written ++ t) (sym (take-append-drop count place.page)) ∙ sym (append_assoc (trace_text plan h.written) (take count place.page) (drop count place.page));
  appended = appends_then start place.taken given (trace_text plan h.written) (take count place.page) h.appended more;
}

-- where memory runs out, what was emitted stays
pub emitted_first_more : (plan : Plan) (start : Option (List ℕ)) (place : Place) (emitted more : List (List Note)) → HasWritten plan start place emitted → EmittedFirst plan start place (emitted ++ more)
emitted_first_more plan start place emitted more h = record { first = emitted; rest = more; all = refl; emitted = h }

pub cut_by_memory : (plan : Plan) (place : Place) (segments : List (List Note)) → CutIn plan place place segments halts.Memory
cut_by_memory plan place segments start emitted h = emitted_first_more plan start place emitted segments h

-- ---- what is emitted goes on

pub front_later : (plan : Plan) (start taken : Option (List ℕ)) (segments more : List (List Note)) → WroteFront plan start taken segments → WroteFront plan start taken (segments ++ more)
front_later plan start taken segments more w = record {
  front = w.front;
  rest = w.rest ++ trace_text plan more;
  all = text_of_two plan segments more ∙ ap (λ t. t ++ trace_text plan more) w.all ∙ append_assoc w.front w.rest (trace_text plan more);
  appended = w.appended;
}

pub until_later : (plan : Plan) (start : Option (List ℕ)) (place : Place) (segments more : List (List Note)) (halt : Halt) → EmittedUntil plan start place segments halt → EmittedUntil plan start place (segments ++ more) halt
until_later plan start place segments more halts.Memory w = record {
  first = w.first;
  rest = w.rest ++ more;
  all = ap (λ t. t ++ more) w.all ∙ append_assoc w.first w.rest more;
  emitted = w.emitted;
}
until_later plan start place segments more halts.Write w = front_later plan start place.taken segments more w

pub emitted_nothing : (plan : Plan) (place : Place) → IsEmitted plan place place []
emitted_nothing plan place start emitted h = subst (HasWritten plan start place) (sym (append-nil emitted)) h

pub emitted_then : (plan : Plan) (a b c : Place) (xs ys : List (List Note)) → IsEmitted plan a b xs → IsEmitted plan b c ys → IsEmitted plan a c (xs ++ ys)
emitted_then plan a b c xs ys p q start emitted h = subst (HasWritten plan start c) (append_assoc emitted xs ys) (q start (emitted ++ xs) (p start emitted h))

pub cut_then : (plan : Plan) (a b c : Place) (xs ys : List (List Note)) (halt : Halt) → IsEmitted plan a b xs → CutIn plan b c ys halt → CutIn plan a c (xs ++ ys) halt
cut_then plan a b c xs ys halt p q start emitted h = subst (λ t. EmittedUntil plan start c t halt) (append_assoc emitted xs ys) (q start (emitted ++ xs) (p start emitted h))

pub cut_before : (plan : Plan) (a b : Place) (xs ys : List (List Note)) (halt : Halt) → CutIn plan a b xs halt → CutIn plan a b (xs ++ ys) halt
cut_before plan a b xs ys halt p start emitted h = subst (λ t. EmittedUntil plan start b t halt) (append_assoc emitted xs ys) (until_later plan start b (emitted ++ xs) ys halt (p start emitted h))

-- ---- a segment, emitted in whole

pub segment_emitted : (plan : Plan) (taken given : Option (List ℕ)) (page mid new : List ℕ) (notes : List Note) (r : Result (Unit {0}) Halt) → mid ≡ page ++ segment_text plan notes → Spills taken given mid new r
    → Emits plan (at_page taken page) (at_page given new) (notes ∷ []) r
segment_emitted plan taken given page mid new notes (Ok x) grown (flushed f) =
    λ start emitted h. page_written plan start given (at_page taken mid) new (emitted ++ notes ∷ []) (segment_added plan start taken page mid emitted notes grown h) f.0 f.1
segment_emitted plan taken given page mid new notes (Err halts.Memory) grown (flushed f) = absurd f
segment_emitted plan taken given page mid new notes (Err halts.Write) grown (flushed f) =
    λ start emitted h. page_cut plan start given (at_page taken mid) (emitted ++ notes ∷ []) f.0 (segment_added plan start taken page mid emitted notes grown h) f.1
segment_emitted plan taken given page mid new notes (Ok x) grown (kept same left ok) =
    λ start emitted h. subst (λ t. HasWritten plan start (at_page t new) (emitted ++ notes ∷ [])) (sym same) (segment_added plan start taken page new emitted notes (left ∙ grown) h)
segment_emitted plan taken given page mid new notes (Err halt) grown (kept same left ok) = absurd cc
