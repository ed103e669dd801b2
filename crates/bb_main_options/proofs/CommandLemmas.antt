-- What a parse reads of the command, step by step as it is built.
use Rattle.std.proofs.Common.{◌≡◌, ◌∙◌, Option, Some, None, refl, ap, true, false}
use Rattle.std.specs.Prelude.{option_map, unwrap_or}
use Rattle.std.specs.Borrow.{Bor}
use Rattle.clap.specs.Walk.{Rule, Text, rule_of}
use Rattle.clap.specs.Simple.{App, app_of, app_of_fields, on_top}
use Rattle.clap.specs.declared.builder.arg.Arg.{Arg}
use Rattle.clap.specs.declared.builder.command.Command.{Command}
use Rattle.clap.specs.declared.builder.command.Command.TheViews.{out-Command}
use Rattle.clap.specs.declared.builder.texts.Texts.TheVariants.{One}
use Rattle.clap.specs.declared.builder.value_parser.ValueParser.{ValueParser}

-- an argument that is given a name for its value, a parser and a help text
pub value_rule : (fresh named parsed told : Arg) (name help : Bor Text) (r : Rule) (q : ValueParser) → rule_of fresh ≡ r
    → named ≡ record fresh { val_names = One name } → parsed ≡ record named { value_parser = parsed.value_parser }
    → parsed.value_parser ≡ Some q → told ≡ record parsed { help = Some help }
    → rule_of told ≡ record r { value_names = 1; parser = Some q }
value_rule fresh named parsed told name help r q is names others given helps =
    ap rule_of helps ∙ ap rule_of others ∙ ap (λ (p : Option ValueParser). record (rule_of named) { parser = p }) given
    ∙ ap (λ (a : Arg). record (rule_of a) { parser = Some q }) names ∙ ap (λ (x : Rule). record x { value_names = 1; parser = Some q }) is

-- a command that is given a version, a text before the words and one after them, and no program name among the words
pub told_command : (fresh versioned told ended named : Command) (v a e : Bor Text) (app : App) → app_of fresh ≡ app
    → out-Command versioned ≡ record (out-Command fresh) { version = Some v }
    → out-Command told ≡ record (out-Command versioned) { about = Some a }
    → out-Command ended ≡ record (out-Command told) { after_help = Some e }
    → out-Command named ≡ record (out-Command ended) { no_binary_name = true }
    → app_of named ≡ on_top (λ s. record s { has_version = true; no_binary_name = true }) app
told_command fresh versioned told ended named v a e app is has_version has_about has_end has_no_name =
    ap app_of_fields has_no_name ∙ ap (λ c. on_top (λ s. record s { no_binary_name = true }) (app_of_fields c)) has_end
    ∙ ap (λ c. on_top (λ s. record s { no_binary_name = true }) (app_of_fields c)) has_about
    ∙ ap (λ c. on_top (λ s. record s { no_binary_name = true }) (app_of_fields c)) has_version
    ∙ ap (on_top (λ s. record s { has_version = true; no_binary_name = true })) is

-- the text of a reference, or of another if there is none
pub text_or : (o : Option (Bor Text)) (d : Bor Text) → (unwrap_or o d).now ≡ unwrap_or (option_map (λ s. s.now) o) d.now
text_or None d = refl
text_or (Some s) d = refl

-- an argument that is not global stays so
pub value_local : (fresh named parsed told : Arg) (name help : Bor Text) → fresh.global ≡ false
    → named ≡ record fresh { val_names = One name } → parsed ≡ record named { value_parser = parsed.value_parser }
    → told ≡ record parsed { help = Some help } → told.global ≡ false
value_local fresh named parsed told name help is names others helps =
    ap (λ a. a.global) helps ∙ ap (λ a. a.global) others ∙ ap (λ a. a.global) names ∙ is
