-- Lines that lead from one place of a bundle to another.
use Rattle.std.proofs.Common.{◌≡◌, ℕ, ◌+◌, true, cond, List, [], ◌∷◌, ◌++◌, map, Option, Some, None, Result, Ok, Err, refl, ap, ◌∙◌}
use Rattle.std.specs.List.{list_all, join_with_byte}
use Rattle.std.proofs.lemmas.Bool.{and_from}
use Rattle.std.proofs.lemmas.List.{map-append}
use Rattle.std.proofs.lemmas.List.Folds.{list_all-append}
use Rattle.bb_basis.specs.Results.{◌>>=◌, ok_or, try_fold}
use Rattle.bb_code.specs.Code.{Code}
use Rattle.bb_bundle.specs.declared.fault.BundleFault.{BundleFault}
use Rattle.bb_bundle.specs.declared.fault.BundleFault.TheVariants.{Line}
use Rattle.bb_bundle.specs.declared.keyword.Keyword.{Keyword}
use Rattle.bb_bundle.specs.declared.partial.PartialSource.{PartialSource}
use Rattle.bb_bundle.specs.declared.draft.SourceDraft.{SourceDraft}
use Rattle.bb_bundle.specs.Keywords.{keyword_of}
use Rattle.bb_bundle.specs.Partial.{may_come}
use Rattle.bb_bundle.specs.Bundle.{Parser, after_keyword, after_further, after_words, after_line}
use Rattle.bb_bundle.specs.Written.{Words}
use Rattle.bb_bundle.proofs.LinesLemmas.{is_line, line_again}

abbrev pub joined : Words → List ℕ
joined ws = join_with_byte 32 ws

-- lines lead from what was read before them to what is read after them
pub record Leads (d : List (SourceDraft Code)) (p : Option PartialSource) (wss : List Words) (d' : List (SourceDraft Code)) (p' : Option PartialSource) : Type 0 where
  pub are_lines : list_all is_line wss ≡ true
  pub reads : (n : ℕ) → (m : ℕ) × (try_fold after_line (record { lines = n; sources = d; partial = p }) (map joined wss) ≡ Ok (record { lines = m; sources = d'; partial = p' }))

pub leads_by_nothing : (d : List (SourceDraft Code)) (p : Option PartialSource) → Leads d p [] d p
unfolding try_fold
leads_by_nothing d p = record { are_lines = refl; reads = λ n. (n, refl) }

try_fold-bind : {S A E : Type 0} (f : S → A → Result S E) (xs ys : List A) → ((t : S) → try_fold f t (xs ++ ys) ≡ (try_fold f t xs >>= λ u. try_fold f u ys)) → (r : Result S E)
    → (r >>= λ t. try_fold f t (xs ++ ys)) ≡ ((r >>= λ t. try_fold f t xs) >>= λ u. try_fold f u ys)
try_fold-bind f xs ys each (Ok t) = each t
try_fold-bind f xs ys each (Err e) = refl

try_fold-append : {S A E : Type 0} (f : S → A → Result S E) (xs : List A) (s : S) (ys : List A) → try_fold f s (xs ++ ys) ≡ (try_fold f s xs >>= λ t. try_fold f t ys)
unfolding try_fold
try_fold-append f [] s ys = refl
try_fold-append f (x ∷ xs) s ys = try_fold-bind f xs ys (λ t. try_fold-append f xs t ys) (f s x)

pub leads_on : (d d' d'' : List (SourceDraft Code)) (p p' p'' : Option PartialSource) (as' bs : List Words) → Leads d p as' d' p' → Leads d' p' bs d'' p'' → Leads d p (as' ++ bs) d'' p''
leads_on d d' d'' p p' p'' as' bs first second = record {
  are_lines = list_all-append is_line as' bs ∙ and_from (list_all is_line as') (list_all is_line bs) first.are_lines second.are_lines;
  reads = λ n.
      let one = first.reads n in
      let two = second.reads one.0 in (
        two.0,
        ap (try_fold after_line (record { lines = n; sources = d; partial = p })) (map-append joined as' bs)
            ∙ try_fold-append after_line (map joined as') (record { lines = n; sources = d; partial = p }) (map joined bs)
            ∙ ap (λ r. r >>= λ t. try_fold after_line t (map joined bs)) one.1 ∙ two.1,
      );
}

abbrev pub ends : Result Parser BundleFault → Result Parser BundleFault
ends r = r >>= λ t. Ok t

-- one line
pub by_line : (d d' : List (SourceDraft Code)) (p p' : Option PartialSource) (ws : Words) → is_line ws ≡ true
    → ((n : ℕ) → after_words (record { lines = n; sources = d; partial = None }) p ws ≡ Ok (record { lines = n; sources = d'; partial = p' })) → Leads d p (ws ∷ []) d' p'
unfolding try_fold
by_line d d' p p' ws line reads = record {
  are_lines = and_from (is_line ws) true line refl;
  reads = λ n. (n + 1, ap ends (line_again (record { lines = n; sources = d; partial = p }) ws (Ok (record { lines = n + 1; sources = d'; partial = p' })) line (reads (n + 1))));
}

-- between two sources, behind so many lines
abbrev pub between : ℕ → List (SourceDraft Code) → Parser
between n d = record { lines = n; sources = d; partial = None }

-- in the midst of one
abbrev pub goes : ℕ → List (SourceDraft Code) → PartialSource → Result Parser BundleFault
goes n d s = Ok (record { lines = n; sources = d; partial = Some s })

-- a further line of a source that its keyword leads on
pub by_keyword : (d : List (SourceDraft Code)) (s : PartialSource) (word : List ℕ) (keyword : Keyword) (ws : Words) (n : ℕ) (r : Result Parser BundleFault) → keyword_of word ≡ Some keyword → may_come s keyword ≡ true
    → after_keyword (between n d) s keyword ws ≡ r → after_further (between n d) s (word ∷ ws) ≡ r
unfolding after_further
by_keyword d s word keyword ws n r known comes e =
    ap (λ o. ok_or o (Line n) >>= λ k. cond (may_come s k) (after_keyword (between n d) s k ws) (Err (Line n))) known
    ∙ ap (λ b. cond b (after_keyword (between n d) s keyword ws) (Err (Line n))) comes ∙ e
