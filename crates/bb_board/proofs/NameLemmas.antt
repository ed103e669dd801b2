-- The map of names that contracts see, and the entries that the code keeps.
use Rattle.std.proofs.Common.{◌≡◌, ℕ, cond, List, [], ◌∷◌, Some, refl, sym, ap, ◌∙◌}
use Rattle.std.specs.Prelude.{string_bytes, String}
use Rattle.std.specs.Ordering.{nat_cmp, eq_by_cmp}
use Rattle.std.specs.Map.{lookup}
use Rattle.std.specs.Cmp.{eq_by_cmp_equiv}
use Rattle.std.specs.Cmp.Lexicographic.{slice_cmp, nat_list_cmp_total}
use Rattle.std.specs.BTreeMap.{BTreeMap, is_at, get_by_text, UpdatesBy}
use Rattle.std.specs.String.{string_cmp}
use Rattle.std.specs.FinMap.{FinMap, get, insert, from_entries, find, get-from_entries, get-insert, same_map, nat_cmp-IsAntisymmetric, slice_cmp-IsAntisymmetric}
use Rattle.std.proofs.lemmas.Map.Text.{is_eq-slice_cmp, btree_map_updates_text}
use Rattle.bb_board.specs.proving.Naming.{named}

abbrev pub seen : {Y : Type 0} → BTreeMap (String Y) ℕ → FinMap (slice_cmp nat_cmp) ℕ
seen m = from_entries (named m.entries)

find_named : {Y : Type 0} (es : List (String Y × ℕ)) (name : List ℕ) → find (slice_cmp nat_cmp) name (named es) ≡ lookup (is_at (λ k. slice_cmp nat_cmp name (string_bytes k))) es
find_named [] name = refl
find_named (e ∷ es) name = ap (cond (is_at (λ k. slice_cmp nat_cmp name (string_bytes k)) e.0) (Some e.1)) (find_named es name)

-- the unit of a name, by the entries
pub get_seen : {Y : Type 0} (m : BTreeMap (String Y) ℕ) (name : List ℕ) → get (seen m) name ≡ get_by_text m name
get_seen m name = get-from_entries nat_list_cmp_total (named m.entries) name ∙ find_named m.entries name

-- entries that differ at one name make maps that differ there
pub seen_inserted : {Y : Type 0} (m n : BTreeMap (String Y) ℕ) (name : List ℕ) (unit : ℕ) → UpdatesBy string_cmp (λ k. slice_cmp nat_cmp name (string_bytes k)) m n (Some unit) → seen n ≡ insert (seen m) name unit
seen_inserted m n name unit updates = same_map nat_list_cmp_total (slice_cmp-IsAntisymmetric nat_cmp-IsAntisymmetric) _ _ (λ q.
    get_seen n q ∙ btree_map_updates_text name m n (Some unit) updates q
    ∙ ap (λ b. cond b (Some unit) (get_by_text m q)) (sym (is_eq-slice_cmp name q) ∙ (eq_by_cmp_equiv nat_list_cmp_total).symm name q)
    ∙ sym (get-insert nat_list_cmp_total (seen m) name unit q ∙ ap (cond (eq_by_cmp (slice_cmp nat_cmp) q name) (Some unit)) (get_seen m q)))
