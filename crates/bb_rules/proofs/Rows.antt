-- Worked rows, computed on the definitions: the kind of change that each clause of a text listens to.
use Rattle.std.specs.Prelude.{ℕ, List, Result, Ok}
use Rattle.std.proofs.Common.{◌≡◌, refl, ap}
use Rattle.bb_basis.specs.Results.{◌>>=◌}
use Rattle.bb_board.specs.declared.event.ChangeKind.TheVariants as kinds
use Rattle.bb_bundle.specs.ChangeText.TheVariants as changes
use Rattle.bb_schema.specs.Schema.{Schema}
use Rattle.bb_rules.specs.declared.fault.ClauseFlaw.{ClauseFlaw}
use Rattle.bb_rules.specs.Source.{kind_of, link_slot, ordinary_slot, space_of}

create : (s : Schema) (class : ℕ) → kind_of s class changes.Create ≡ Ok kinds.Create
create s class = refl

delete : (s : Schema) (class : ℕ) → kind_of s class changes.Delete ≡ Ok kinds.Delete
delete s class = refl

update : (s : Schema) (class : ℕ) (name : List ℕ) → ordinary_slot s class name ≡ Ok 5
    → kind_of s class (changes.Update name) ≡ Ok (kinds.Update 5)
update s class name found = ap (λ slot. slot >>= λ n. Ok (kinds.Update n)) found

link : (s : Schema) (class : ℕ) (name : List ℕ) → link_slot s class name ≡ Ok 5
    → kind_of s class (changes.Link name) ≡ Ok (kinds.Link 5)
link s class name found = ap (λ slot. slot >>= λ n. Ok (kinds.Link n)) found

unlink : (s : Schema) (class : ℕ) (name : List ℕ) → link_slot s class name ≡ Ok 5
    → kind_of s class (changes.Unlink name) ≡ Ok (kinds.Unlink 5)
unlink s class name found = ap (λ slot. slot >>= λ n. Ok (kinds.Unlink n)) found

enter : (s : Schema) (class : ℕ) (name : List ℕ) → space_of s name ≡ Ok 2
    → kind_of s class (changes.Enter name) ≡ Ok (kinds.Enter 2)
enter s class name found = ap (λ space. space >>= λ n. Ok (kinds.Enter n)) found

leave : (s : Schema) (class : ℕ) (name : List ℕ) → space_of s name ≡ Ok 2
    → kind_of s class (changes.Leave name) ≡ Ok (kinds.Leave 2)
leave s class name found = ap (λ space. space >>= λ n. Ok (kinds.Leave n)) found
