use Rattle.std.proofs.Common.{◌≡◌, ◌<◌, ◌∙◌, ap, sym, arith, get_or, length, map, List, ℕ}
use Rattle.std.proofs.Math.ListN.{get_or-map}
use Rattle.std.proofs.lemmas.List.{length-map}
use Rattle.bb_schema_classes.proofs.IndexLemmas.{index_next}
use Rattle.bb_schema_classes.proofs.read.index.first_places.Goals as goal

name_at : {X : Type 0} (name_of : X → List ℕ) (xs : List X) (i : ℕ) (x : X) (name : List ℕ) → x ≡ get_or xs i x → name ≡ name_of x → get_or (map name_of xs) i name ≡ name
name_at name_of xs i x name is named =
    ap (get_or (map name_of xs) i) named ∙ (get_or-map name_of xs i x ∙ (ap name_of (sym is) ∙ sym named))

pub loop-place-preserved : goal.loop-place-preserved
loop-place-preserved g c =
    let within : c.loop-place.place < length (map g.T.NamedEntry.name_of c.args.entries.now) = omega (arith, length-map c.args.entries.now g.T.NamedEntry.name_of, c.loop-place-test.true) in
    index_next c.loop-place.places c.keep_first.new.places (map g.T.NamedEntry.name_of c.args.entries.now) c.loop-place.place c.name.result.now within
    (name_at g.T.NamedEntry.name_of c.args.entries.now c.loop-place.place c.index-entries-place.result c.name.result.now c.index-entries-place.is c.name.ensures)
    c.in_ok-keep_first.ensures c.loop-place.invariant
