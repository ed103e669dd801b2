use Rattle.std.proofs.Common.{◌≡◌, ◌<◌, ◌+◌, ◌∙◌, ap, sym, length, map, arith, ◌++◌, ◌∷◌, [], List}
use Rattle.std.specs.Prelude.{IfSome, Option, ℕ}
use Rattle.std.specs.List.{range_with_len}
use Rattle.std.proofs.lemmas.List.FromFn.{map-range_with_len_more}
use Rattle.std.proofs.lemmas.List.Elements.{All-push}
use Rattle.bb_schema.specs.declared.couple.Side.{Side}
use Rattle.bb_schema.specs.Schema.{Schema}
use Rattle.bb_schema.specs.Couples.{couples, couple_of}
use Rattle.bb_links.proofs.layout.slot_ends.Goals as goal

-- one more end
ends_with_one : (s : Schema) (made after : List (Option (ℕ × Side))) (n : ℕ) (e : Option (ℕ × Side)) → made ≡ map (couple_of s) (range_with_len 0 n) → e ≡ couple_of s n → after ≡ made ++ e ∷ [] → after ≡ map (couple_of s) (range_with_len 0 (n + 1))
ends_with_one s made after n e so_far is new = rw (new, so_far, is) (sym (map-range_with_len_more (couple_of s) 0 n n (omega arith)))

pub loop-slot-preserved : goal.loop-slot-preserved
loop-slot-preserved c =
    let s = c.args.schema.now in (
      ends_with_one s c.loop-slot.ends.items c.push.new.self.items c.loop-slot.slot c.end_of.result c.loop-slot.invariant.0 c.end_of.ensures.value c.in_ok-push.ensures.items,
      rw c.in_ok-push.ensures.items (All-push (λ (e : Option (ℕ × Side)). IfSome e (λ x. x.0 < length (couples s))) c.loop-slot.ends.items c.end_of.result c.loop-slot.invariant.1 c.end_of.ensures.there),
    )

pub returns-clause-ends : goal.returns-clause-ends
returns-clause-ends c =
    let all : c.loop-slot.slot ≡ length c.args.schema.now.slots = omega (arith, c.loop-slot-test.false, c.loop-slot.auto.slot-end, c.slot_count-slot-end.ensures.count) in
    c.loop-slot.invariant.0 ∙ ap (λ n. map (couple_of c.args.schema.now) (range_with_len 0 n)) all
