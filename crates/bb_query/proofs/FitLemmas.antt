-- What follows from a query that fits its schema.
use Rattle.std.proofs.Common.{◌≡◌, ℕ, ◌<◌, ◌||◌, Bool, true, false, length, List, Result, Ok, Err, refl, sym, subst, cond}
use Rattle.std.specs.Prelude.{nat_le}
use Rattle.std.proofs.lemmas.Bool.{leb-false}
use Rattle.bb_schema.specs.Schema.{Schema}
use Rattle.bb_pattern.specs.declared.fault.PatternFault.{PatternFault}
use Rattle.bb_pattern.specs.declared.fault.PatternFault.TheVariants.{Space}
use Rattle.bb_pattern.specs.declared.query.Query.{Query}
use Rattle.bb_pattern.specs.declared.value.OperandKind.{OperandKind}
use Rattle.bb_pattern.specs.Trees.{Tree}
use Rattle.bb_pattern.specs.Fits.{pattern_fits, query_fits}
use Rattle.bb_space.specs.Spaces.{Spaces}

not_refused : (size space : ℕ) (a b : Bool) (rest : Result (Unit {0}) PatternFault) → nat_le size space ≡ a → cond (a || b) (Err Space) rest ≡ Ok tt → space < size
not_refused size space true b rest is fits = absurd cc
not_refused size space false b rest is fits = leb-false size space is

space_there : (s : Schema) (class space : ℕ) (kinds : List OperandKind) (p : Tree) → pattern_fits s class space kinds p ≡ Ok tt → space < length s.spaces
unfolding pattern_fits
space_there s class space kinds p fits = not_refused (length s.spaces) space (nat_le (length s.spaces) space) _ _ refl fits

-- the space of a query that fits is there
pub fitting_space : (s : Schema) (t : Spaces) (q : Query) → length t.spaces ≡ length s.spaces → query_fits s q ≡ Ok tt → q.space < length t.spaces
fitting_space s t q same fits = subst (λ n. q.space < n) (sym same) (space_there s q.class q.space q.kinds q.pattern fits)

-- and is one of the schema's
pub listed_space : (s : Schema) (q : Query) → query_fits s q ≡ Ok tt → q.space < length s.spaces
listed_space s q fits = space_there s q.class q.space q.kinds q.pattern fits
