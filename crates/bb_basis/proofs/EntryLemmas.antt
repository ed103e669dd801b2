-- The finite map that contracts see, and the entries that the code keeps.
use Rattle.std.proofs.Common.{◌≡◌, ℕ, cond, List, [], ◌∷◌, map, Some, None, refl, sym, ap, ◌∙◌}
use Rattle.std.specs.Ordering.{nat_cmp}
use Rattle.std.specs.Map.{lookup, keys_of, values_of}
use Rattle.std.specs.BTreeMap.{is_at}
use Rattle.std.specs.Cmp.{nat_cmp_total, eq_by_cmp_equiv}
use Rattle.std.specs.List.Sorted.{IsStrictlySortedBy}
use Rattle.std.specs.FinMap.{empty, get, insert, remove, entries, from_entries, find, put, get-from_entries, get-insert, get-remove, same_map, nat_cmp-IsAntisymmetric, entries-insert, len-entries, len-empty}
use Rattle.std.proofs.lemmas.List.{nil_from_length}

find_is_lookup : {X : Type 0} (es : List (ℕ × X)) (q : ℕ) → find nat_cmp q es ≡ lookup (is_at (nat_cmp q)) es
find_is_lookup [] q = refl
find_is_lookup (e ∷ es) q = ap (cond (is_at (nat_cmp q) e.0) (Some e.1)) (find_is_lookup es q)

-- what the map that the entries make has at a number
pub get_is_lookup : {X : Type 0} (es : List (ℕ × X)) (q : ℕ) → get (from_entries {R = nat_cmp} es) q ≡ lookup (is_at (nat_cmp q)) es
get_is_lookup es q = get-from_entries nat_cmp_total es q ∙ find_is_lookup es q

-- entries that differ at one number make maps that differ there
pub one_set : {X : Type 0} (es fs : List (ℕ × X)) (k : ℕ) (v : X) → ((q : ℕ) → lookup (is_at (nat_cmp q)) fs ≡ cond (is_at (nat_cmp k) q) (Some v) (lookup (is_at (nat_cmp q)) es)) → from_entries {R = nat_cmp} fs ≡ insert (from_entries es) k v
one_set es fs k v h = same_map nat_cmp_total nat_cmp-IsAntisymmetric _ _ (λ q.
    get_is_lookup fs q ∙ h q ∙ ap (λ b. cond b (Some v) (lookup (is_at (nat_cmp q)) es)) ((eq_by_cmp_equiv nat_cmp_total).symm k q)
    ∙ sym (get-insert nat_cmp_total (from_entries es) k v q ∙ ap (cond (is_at (nat_cmp q) k) (Some v)) (get_is_lookup es q)))

-- entries that differ at one number, which the second lack, make maps that differ there
pub one_gone : {X : Type 0} (es fs : List (ℕ × X)) (k : ℕ) → ((q : ℕ) → lookup (is_at (nat_cmp q)) fs ≡ cond (is_at (nat_cmp k) q) None (lookup (is_at (nat_cmp q)) es)) → from_entries {R = nat_cmp} fs ≡ remove (from_entries es) k
one_gone es fs k h = same_map nat_cmp_total nat_cmp-IsAntisymmetric _ _ (λ q.
    get_is_lookup fs q ∙ h q ∙ ap (λ b. cond b None (lookup (is_at (nat_cmp q)) es)) ((eq_by_cmp_equiv nat_cmp_total).symm k q)
    ∙ sym (get-remove nat_cmp_total (from_entries es) k q ∙ ap (cond (is_at (nat_cmp q) k) None) (get_is_lookup es q)))

put_first : {X : Type 0} (k : ℕ) (v : X) (es : List (ℕ × X)) → IsStrictlySortedBy nat_cmp (k ∷ keys_of es) → put nat_cmp k v es ≡ (k, v) ∷ es
unfolding IsStrictlySortedBy
put_first k v [] s = refl
put_first k v (e ∷ es) s = rw s.0.0 refl

-- the map of entries in order has these entries
pub entries_are : {X : Type 0} (es : List (ℕ × X)) → IsStrictlySortedBy nat_cmp (keys_of es) → entries (from_entries {R = nat_cmp} es) ≡ es
unfolding IsStrictlySortedBy
entries_are {X} [] s = nil_from_length (entries (empty {X = X} {R = nat_cmp})) (sym (len-entries (empty {X = X} {R = nat_cmp})) ∙ len-empty nat_cmp X)
entries_are (e ∷ es) s = entries-insert nat_cmp_total (from_entries es) e.0 e.1 ∙ (ap (put nat_cmp e.0 e.1) (entries_are es s.1) ∙ put_first e.0 e.1 es s)

-- the map of entries in order has the values of these entries
pub values_are : {X : Type 0} (es : List (ℕ × X)) → IsStrictlySortedBy nat_cmp (keys_of es) → map (λ e. e.1) (entries (from_entries {R = nat_cmp} es)) ≡ values_of es
values_are es s = ap (map (λ e. e.1)) (entries_are es s)
