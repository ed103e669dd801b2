-- Worked rows, computed on the definitions: each line of a run in which a source greets a note, and the other lines.
use Rattle.std.specs.Prelude.{ℕ, ℤ, pos, negsuc, true, List, [], ◌∷◌, ◌++◌, codes, Some, unwrap_or}
use Rattle.std.specs.Fmt.{decimal, signed_decimal}
use Rattle.std.proofs.Common.{◌≡◌, refl, ap}
use Rattle.bb_schema.specs.Schema.{Schema, name_of_label}
use Rattle.bb_schema_classes.specs.declared.value.Value.TheVariants as values
use Rattle.bb_board.specs.declared.event.Change.TheVariants.{Create, Delete}
use Rattle.bb_board.specs.declared.event.Event.TheVariants as events
use Rattle.bb_board.specs.declared.note.Note.TheVariants.{Event as happened, Said as said}
use Rattle.bb_board.specs.declared.note.Said.TheVariants as saids
use Rattle.bb_agenda.specs.declared.focusing.activation.Activation.{Activation}
use Rattle.bb_native.specs.declared.closing.Closing.{Closing}
use Rattle.bb_native.specs.declared.refusal.Refusal.TheVariants.{Slot}
use Rattle.bb_trace.specs.End as ends
use Rattle.bb_trace.specs.declared.note.Note.TheVariants.{Board, Triggered, Declined, Obviated, Retriggered}
use Rattle.bb_trace.specs.declared.note.Note.TheVariants.{Chosen, Invalid, Ended, Refused, NativeEnded, Finished}
use Rattle.bb_trace.specs.declared.note.Note.TheVariants.{Closed, Posted, PostEnded}
use Rattle.bb_trace.specs.TraceText.{class_name, source_name, value_text, note_text, line}
use Rattle.bb_run_plan.specs.Plan.{Plan}

-- the activation of the source that listens to notes, for unit 1
first : Activation
first = record { number = 1; source = 0; unit = 1; base = pos 100 }

-- the lines of the run, in a plan whose class 1 is `note` and whose source 0 is `hail`
create : (plan : Plan) → class_name plan.schema 1 ≡ codes "note"
    → note_text plan (Board (happened (events.Change 1 1 Create)))
    ≡ codes "create " ++ decimal 1 ++ codes " " ++ codes "note"
create plan named = ap (λ name. codes "create " ++ decimal 1 ++ codes " " ++ name) named

trigger : (plan : Plan) → source_name plan.sources 0 ≡ codes "hail" → note_text plan (Triggered first)
    ≡ codes "trigger " ++ (decimal 1 ++ codes " " ++ codes "hail" ++ codes " unit " ++ decimal 1
    ++ codes " rating " ++ signed_decimal (pos 100))
unfolding first
trigger plan named = ap (λ name. codes "trigger " ++ (decimal 1 ++ codes " " ++ name ++ codes " unit " ++ decimal 1
    ++ codes " rating " ++ signed_decimal (pos 100))) named

cycle : (plan : Plan) → source_name plan.sources 0 ≡ codes "hail" → note_text plan (Chosen 4 first (pos 70))
    ≡ codes "cycle " ++ decimal 4 ++ codes " act " ++ (decimal 1 ++ codes " " ++ codes "hail" ++ codes " unit "
    ++ decimal 1 ++ codes " rating " ++ signed_decimal (pos 70))
unfolding first
cycle plan named = ap (λ name. codes "cycle " ++ decimal 4 ++ codes " act " ++ (decimal 1 ++ codes " " ++ name
    ++ codes " unit " ++ decimal 1 ++ codes " rating " ++ signed_decimal (pos 70))) named

end : (plan : Plan) → note_text plan (Ended 3 0 5)
    ≡ codes "end steps " ++ decimal 3 ++ codes " found " ++ decimal 0 ++ codes " budget " ++ decimal 5
end plan = refl

quiescence : (plan : Plan) → note_text plan (Board (happened events.Quiescence)) ≡ codes "quiescence"
quiescence plan = refl

finish : (plan : Plan) → note_text plan (Finished ends.Quiescence) ≡ codes "finish quiescence"
finish plan = refl

ends_by_a_line_feed : (plan : Plan) → line plan Posted ≡ codes "post\n"
ends_by_a_line_feed plan = refl

-- the other lines
delete : (plan : Plan) (class : ℕ)
    → note_text plan (Board (happened (events.Change 12 class Delete))) ≡ codes "delete " ++ decimal 12
delete plan class = refl

decline : (plan : Plan) → source_name plan.sources 0 ≡ codes "hail"
    → note_text plan (Declined 0 7) ≡ codes "decline hail unit " ++ decimal 7
decline plan named = ap (λ name. codes "decline " ++ name ++ codes " unit " ++ decimal 7) named

obviate : (plan : Plan) → note_text plan (Obviated 3) ≡ codes "obviate " ++ decimal 3
obviate plan = refl

retrigger : (plan : Plan)
    → note_text plan (Retriggered 3 (negsuc 4)) ≡ codes "retrigger " ++ decimal 3 ++ codes " " ++ signed_decimal (negsuc 4)
retrigger plan = refl

invalid : (plan : Plan) → note_text plan (Invalid 3) ≡ codes "invalid " ++ decimal 3
invalid plan = refl

refused : (plan : Plan) → note_text plan (Refused 1 Slot) ≡ codes "refused ask " ++ decimal 1 ++ codes " " ++ decimal 2
refused plan = refl

native : (plan : Plan) → note_text plan (NativeEnded 2) ≡ codes "end native " ++ decimal 2
native plan = refl

post_ends : (plan : Plan) → note_text plan (PostEnded 2) ≡ codes "end post " ++ decimal 2
post_ends plan = refl

limit : (plan : Plan) → note_text plan (Finished ends.Limit) ≡ codes "finish limit"
limit plan = refl

full : (plan : Plan) → note_text plan (Finished ends.Full) ≡ codes "finish full"
full plan = refl

closed : (plan : Plan) → note_text plan (Closed (record { name = codes "tally"; number = pos 2 }))
    ≡ codes "closed tally " ++ signed_decimal (pos 2)
closed plan = refl

-- what is said
says_nothing : (plan : Plan) → note_text plan (Board (said [])) ≡ codes "say"
says_nothing plan = refl

says_a_truth_value : (plan : Plan) → note_text plan (Board (said (saids.Value (values.Bool true) ∷ []))) ≡ codes "say true"
says_a_truth_value plan = refl

says_a_unit : (plan : Plan) → note_text plan (Board (said (saids.Unit 4 ∷ []))) ≡ codes "say #" ++ (decimal 4 ++ [])
says_a_unit plan = refl

says_a_label : (s : Schema) → name_of_label s 0 1 ≡ Some (codes "red") → value_text s (values.Label 0 1) ≡ codes "red"
says_a_label s named = ap (λ name. unwrap_or name []) named
