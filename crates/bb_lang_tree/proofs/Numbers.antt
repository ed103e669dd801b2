-- The number of each fault of a text, as refusals have them.
use Rattle.std.proofs.Common.{◌≡◌, refl}
use Rattle.bb_lang_tree.specs.declared.fault.LangFault.TheVariants.{Character, Token, Nesting, Twice, Limit, Memory}
use Rattle.bb_lang_tree.specs.declared.place.Place.{Place}
use Rattle.bb_lang_tree.specs.Faults.{fault_number}

character : (place : Place) → fault_number (Character place) ≡ 1
character place = refl

token : (place : Place) → fault_number (Token place) ≡ 2
token place = refl

nesting : (place : Place) → fault_number (Nesting place) ≡ 3
nesting place = refl

twice : (place : Place) → fault_number (Twice place) ≡ 4
twice place = refl

limit : (place : Place) → fault_number (Limit place) ≡ 5
limit place = refl

memory : fault_number Memory ≡ 6
memory = refl
