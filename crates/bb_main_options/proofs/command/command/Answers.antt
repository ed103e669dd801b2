-- The command that is built is the one of the definition.
use Rattle.std.proofs.Common.{Some, ◌≡◌, ◌∙◌, ap, ap₂, codes, pos}
use Rattle.std.proofs.lemmas.Result.{IfOk-weaker}
use Rattle.clap.specs.Walk.{Rule, rule_of}
use Rattle.clap.specs.Simple.{new_app, with_rule}
use Rattle.clap.specs.declared.builder.value_parser.ValueParser.TheVariants.{Values, Signed}
use Rattle.bb_main_options.specs.CommandLine.{least_floor, most_floor, most_limit, mode_rule, number_rule}
use Rattle.bb_main_options.proofs.CommandLemmas.{told_command, value_local, value_rule}
use Rattle.bb_main_options.proofs.command.command.Goals as goal

pub returns : goal.returns
returns c =
    let mode_parser = c.value_parser.ensures.given in
    let mode : rule_of c.help-mode.result ≡ mode_rule (Values c.args.modes) =
    value_rule c.new.result c.value_name.result c.value_parser.result c.help-mode.result _ _ _ (Values c.args.modes) c.new.ensures.rule
    c.value_name.ensures c.value_parser.ensures.others (mode_parser.1 ∙ ap Some mode_parser.2) c.help-mode.ensures in
    let limit_parser = c.value_parser-3.ensures.given in
    let limit_long = ap rule_of c.long.ensures ∙ ap (λ (r : Rule). record r { long = Some (codes "limit") }) c.new-2.ensures.rule in
    let limit : rule_of c.help-limit.result ≡ number_rule (codes "limit") (pos 0) (pos most_limit) =
    value_rule c.long.result c.value_name-2.result c.value_parser-3.result c.help-limit.result _ _ _ (Signed (pos 0) (pos most_limit)) limit_long
    c.value_name-2.ensures c.value_parser-3.ensures.others (limit_parser.1 ∙ ap Some (limit_parser.2 ∙ c.value_parser-2.ensures)) c.help-limit.ensures in
    let floor_parser = c.value_parser-5.ensures.given in
    let floor_long = ap rule_of c.long-2.ensures ∙ ap (λ (r : Rule). record r { long = Some (codes "floor") }) c.new-3.ensures.rule in
    let floor : rule_of c.help-floor.result ≡ number_rule (codes "floor") least_floor most_floor =
    value_rule c.long-2.result c.value_name-3.result c.value_parser-5.result c.help-floor.result _ _ _ (Signed least_floor most_floor) floor_long
    c.value_name-3.ensures c.value_parser-5.ensures.others (floor_parser.1 ∙ ap Some (floor_parser.2 ∙ c.value_parser-4.ensures)) c.help-floor.ensures in
    let named = told_command c.new-4.result c.version.result c.about.result c.after_help.result c.no_binary_name.result _ _ _ (new_app (codes "bb"))
    c.new-4.ensures.app c.version.ensures c.about.ensures c.after_help.ensures c.no_binary_name.ensures in
    let mode_local = value_local c.new.result c.value_name.result c.value_parser.result c.help-mode.result _ _ c.new.ensures.optional.1
    c.value_name.ensures c.value_parser.ensures.others c.help-mode.ensures in
    let limit_local = value_local c.long.result c.value_name-2.result c.value_parser-3.result c.help-limit.result _ _
    (ap (λ a. a.global) c.long.ensures ∙ c.new-2.ensures.optional.1)
    c.value_name-2.ensures c.value_parser-3.ensures.others c.help-limit.ensures in
    let floor_local = value_local c.long-2.result c.value_name-3.result c.value_parser-5.result c.help-floor.result _ _
    (ap (λ a. a.global) c.long-2.ensures ∙ c.new-3.ensures.optional.1)
    c.value_name-3.ensures c.value_parser-5.ensures.others c.help-floor.ensures in
    let one = c.in_ok-arg.ensures.shape mode_local ∙ ap₂ with_rule named mode in
    let two = c.in_ok-arg-2.ensures.shape limit_local ∙ ap₂ with_rule one limit in
    IfOk-weaker c.arg-3.result _ _ (λ r adds. adds.shape floor_local ∙ ap₂ with_rule two floor) c.arg-3.ensures
