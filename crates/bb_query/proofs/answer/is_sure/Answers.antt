use Rattle.std.proofs.Common.{◌≡◌, ◌∙◌, true, sym, ap}
use Rattle.std.specs.List.{list_all}
use Rattle.bb_schema.specs.Schema.{descends}
use Rattle.bb_schema.specs.Spaces.{classes_in}
use Rattle.bb_query.proofs.FitLemmas.{listed_space}
use Rattle.bb_query.proofs.MemberLemmas.{members_are_of_class}
use Rattle.bb_query.proofs.answer.is_sure.Goals as goal

pub classes_in-listed-requires : goal.classes_in-listed-requires
classes_in-listed-requires c = listed_space c.args.search.now.schema.now c.args.search.now.query.now c.requires.fits

pub returns : goal.returns
returns c = λ sure.
    let s = c.args.search.now.schema.now in
    let q = c.args.search.now.query.now in
    let all : list_all (λ d. descends s d q.class) (classes_in s q.space) ≡ true =
    ap (list_all (λ d. descends s d q.class)) (sym c.classes_in-listed.ensures) ∙ (sym c.all_descend.ensures ∙ sure) in
    members_are_of_class s c.args.search.now.units.now c.args.search.now.spaces.now c.requires.knows q c.fits.ensures.parents all
