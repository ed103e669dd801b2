-- The keys of an object, as its members show them.
use Rattle.std.proofs.Common.{◌≡◌, ℕ, Bool, List, [], ◌∷◌, map, refl, ap, ◌∙◌, sym}
use Rattle.std.specs.Prelude.{String, string_bytes}
use Rattle.std.specs.List.{list_any, list_all}
use Rattle.std.specs.Str.{bytes_eq}
use Rattle.std.specs.declared.alloc.Global.{Global}
use Rattle.std.proofs.lemmas.List.Folds.{list_all-map}
use Rattle.bb_basis.proofs.ListLemmas.{list_any-map, list_all_same}
use denote.Ref.{Bor}
use Rattle.serde_json.specs.declared.value.Value.{Value}
use Rattle.serde_json.specs.Data.{Data}
use Rattle.serde_json.specs.View.{members_view, items_of}
use Rattle.bb_schema_form.specs.Shapes.{keys_of, list_of}

keys_of-members_view : (es : List (String Global × Value)) → keys_of (members_view es) ≡ map (λ e. string_bytes e.0) es
keys_of-members_view [] = refl
keys_of-members_view (e ∷ es) = ap (λ ks. string_bytes e.0 ∷ ks) (keys_of-members_view es)

-- the test that the code makes is the definition's
pub keys_among : (es : List (String Global × Value)) (keys : List (Bor (List ℕ)))
    → list_all (λ s. list_any (λ k. bytes_eq (string_bytes s) k.now) keys) (map (λ e. e.0) es) ≡ list_all (λ k. list_any (bytes_eq k) (map (λ k. k.now) keys)) (keys_of (members_view es))
keys_among es keys =
    let p : List ℕ → Bool = λ k. list_any (bytes_eq k) (map (λ k. k.now) keys) in
    list_all-map (λ s. list_any (λ k. bytes_eq (string_bytes s) k.now) keys) (λ (e : String Global × Value). e.0) es
    ∙ list_all_same (λ e. list_any (λ k. bytes_eq (string_bytes e.0) k.now) keys) (λ e. p (string_bytes e.0)) (λ e. sym (list_any-map (bytes_eq (string_bytes e.0)) (λ k. k.now) keys)) es
    ∙ sym (list_all-map p (λ (e : String Global × Value). string_bytes e.0) es)
    ∙ ap (list_all p) (sym (keys_of-members_view es))

-- the items of an array, as its list shows them
pub list_of-items_of : (ds : List Data) → list_of (items_of ds) ≡ ds
list_of-items_of [] = refl
list_of-items_of (d ∷ ds) = ap (λ es. d ∷ es) (list_of-items_of ds)
