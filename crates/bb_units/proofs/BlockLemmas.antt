-- The blocks of the classes: that of a class has the values of a new unit.
use Rattle.std.proofs.Common.{◌≡◌, ℕ, zero, suc, List, [], ◌∷◌, map, Option, refl, ap, ◌∙◌}
use Rattle.std.specs.Prelude.{slice_get}
use Rattle.std.specs.Global.{Vec}
use Rattle.std.specs.Option.{option_map_or}
use Rattle.bb_schema_classes.specs.declared.value.Value.{Value}
use Rattle.bb_units.specs.Layout.{defaults_of}
use Rattle.bb_units.specs.proving.Blocks.{AreBlocks}

block_at : (defaults : List (Option Value)) (lists : List (Vec ℕ)) (class : ℕ)
    → option_map_or (λ b. b) (slice_get (map (λ v. defaults_of defaults v.items) lists) class) []
    ≡ option_map_or (defaults_of defaults) (slice_get (map (λ v. v.items) lists) class) []
block_at defaults [] class = refl
block_at defaults (v ∷ vs) zero = refl
block_at defaults (v ∷ vs) (suc class) = block_at defaults vs class

pub block_is_blank : (lists : List (Vec ℕ)) (defaults : List (Option Value)) (blocks : List (List (ℕ × Value))) (class : ℕ)
    → AreBlocks lists defaults blocks
    → option_map_or (λ b. b) (slice_get blocks class) [] ≡ option_map_or (defaults_of defaults) (slice_get (map (λ v. v.items) lists) class) []
block_is_blank lists defaults blocks class are =
    ap (λ (bs : List (List (ℕ × Value))). option_map_or (λ b. b) (slice_get bs class) []) are ∙ block_at defaults lists class
