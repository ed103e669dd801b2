-- What is written of a clause is read as that clause again.
use Rattle.std.proofs.Common.{◌≡◌, ℕ, true, false, cond, List, [], ◌∷◌, ◌++◌, Some, None, refl, ap, ◌∙◌, lit<, append_assoc}
use Rattle.std.specs.Prelude.{◌==◌, codes, All}
use Rattle.std.proofs.lemmas.Bool.{and_parts, and_from}
use Rattle.bb_basis.specs.Names.{is_name}
use Rattle.bb_lang_tree.specs.declared.source_text.ChangeText.{ChangeText}
use Rattle.bb_lang_tree.specs.declared.source_text.ChangeText.TheVariants.{Create, Delete, Update, Link, Unlink, Enter, Leave}
use Rattle.bb_lang_tree.specs.declared.source_text.ClauseText.{ClauseText}
use Rattle.bb_lang_tree.specs.declared.source_text.ClauseText.TheVariants.{Change, Quiescence}
use Rattle.bb_bundle.specs.Spelled.{is_change, is_clause}
use Rattle.bb_bundle.specs.Clauses.{unit_change, slot_change, space_change, split_dot, unit_clause, change_clause, slot_clause, space_clause, dotted_clause, unit_or_slot_clause, subject_clause, quiescence_clause, clause_of}
use Rattle.bb_bundle.specs.Written.{Words, dotted, change_words, clause_words}
use Rattle.bb_bundle.proofs.WordLemmas.{from, are_words, lacks, from-append, name_from, name_word, words3, words4}
use Rattle.bb_bundle.proofs.LineLemmas.{split_dot-at}
use Rattle.bb_bundle.proofs.LinesLemmas.{is_line}

no_dot : (name : List ℕ) → is_name name ≡ true → All (λ b. (b == 46) ≡ false) name
no_dot name h = lacks 46 48 name (lit< tt) (name_from name h)

split_again : (class slot : List ℕ) → is_name class ≡ true → split_dot (dotted class slot) ≡ Some (class, slot)
split_again class slot h = ap split_dot (append_assoc class (46 ∷ []) slot) ∙ split_dot-at class slot (no_dot class h)

unit_again : (kind : ChangeText) (class : List ℕ) → is_name class ≡ true → unit_clause kind class ≡ Some (Change kind class)
unfolding unit_clause
unit_again kind class h = ap (λ b. cond b (Some (Change kind class)) None) h

slot_again : (event class slot : List ℕ) (kind : ChangeText) → is_name class ≡ true → is_name slot ≡ true → unit_change event ≡ None → slot_change event slot ≡ Some kind → subject_clause event (dotted class slot) ≡ Some (Change kind class)
unfolding subject_clause slot_clause
slot_again event class slot kind c s none some =
    ap (λ o. unit_or_slot_clause o event (dotted class slot)) none ∙ ap (dotted_clause event) (split_again class slot c)
    ∙ ap (λ b. cond b (change_clause (slot_change event slot) class) None) s ∙ ap (λ o. change_clause o class) some ∙ unit_again kind class c

space_again : (event class space : List ℕ) (kind : ChangeText) → is_name class ≡ true → is_name space ≡ true → space_change event space ≡ Some kind → space_clause event class space ≡ Some (Change kind class)
unfolding space_clause
space_again event class space kind c s some = ap (λ b. cond b (change_clause (space_change event space) class) None) s ∙ ap (λ o. change_clause o class) some ∙ unit_again kind class c

change_again : (kind : ChangeText) (class : List ℕ) → is_change kind ≡ true → is_name class ≡ true → clause_of (change_words kind class) ≡ Some (Change kind class)
unfolding clause_of subject_clause unit_change slot_change space_change
change_again Create class k c = unit_again Create class c
change_again Delete class k c = unit_again Delete class c
change_again (Update slot) class k c = slot_again (codes "update") class slot (Update slot) c k refl refl
change_again (Link slot) class k c = slot_again (codes "link") class slot (Link slot) c k refl refl
change_again (Unlink slot) class k c = slot_again (codes "unlink") class slot (Unlink slot) c k refl refl
change_again (Enter space) class k c = space_again (codes "enter") class space (Enter space) c k refl
change_again (Leave space) class k c = space_again (codes "leave") class space (Leave space) c k refl

-- the words behind `when`
abbrev pub event_words : ClauseText → Words
event_words (Change kind class) = change_words kind class
event_words Quiescence = codes "quiescence" ∷ []

pub clause_words_are : (clause : ClauseText) → clause_words clause ≡ codes "when" ∷ event_words clause
clause_words_are (Change kind class) = refl
clause_words_are Quiescence = refl

pub clause_again : (clause : ClauseText) → is_clause clause ≡ true → clause_of (event_words clause) ≡ Some clause
unfolding clause_of quiescence_clause
clause_again (Change kind class) h = let parts = and_parts (is_change kind) (is_name class) h in change_again kind class parts.0 parts.1
clause_again Quiescence h = refl

dotted_word : (class slot : List ℕ) → is_name class ≡ true → is_name slot ≡ true → from 33 (dotted class slot) ≡ true
dotted_word class slot c s = from-append 33 (class ++ 46 ∷ []) slot (from-append 33 class (46 ∷ []) (name_word class c) refl) (name_word slot s)

one_word : (event class : List ℕ) → from 33 event ≡ true → from 33 class ≡ true → is_line (codes "when" ∷ event ∷ class ∷ []) ≡ true
one_word event class e c = and_from (are_words (codes "when" ∷ event ∷ class ∷ [])) true (words3 (codes "when") event class refl e c) refl

two_words : (event class space : List ℕ) → from 33 event ≡ true → from 33 class ≡ true → from 33 space ≡ true → is_line (codes "when" ∷ event ∷ class ∷ space ∷ []) ≡ true
two_words event class space e c s = and_from (are_words (codes "when" ∷ event ∷ class ∷ space ∷ [])) true (words4 (codes "when") event class space refl e c s) refl

change_line : (kind : ChangeText) (class : List ℕ) → is_change kind ≡ true → is_name class ≡ true → is_line (codes "when" ∷ change_words kind class) ≡ true
change_line Create class k c = one_word (codes "create") class refl (name_word class c)
change_line Delete class k c = one_word (codes "delete") class refl (name_word class c)
change_line (Update slot) class k c = one_word (codes "update") (dotted class slot) refl (dotted_word class slot c k)
change_line (Link slot) class k c = one_word (codes "link") (dotted class slot) refl (dotted_word class slot c k)
change_line (Unlink slot) class k c = one_word (codes "unlink") (dotted class slot) refl (dotted_word class slot c k)
change_line (Enter space) class k c = two_words (codes "enter") class space refl (name_word class c) (name_word space k)
change_line (Leave space) class k c = two_words (codes "leave") class space refl (name_word class c) (name_word space k)

pub clause_line : (clause : ClauseText) → is_clause clause ≡ true → is_line (clause_words clause) ≡ true
clause_line (Change kind class) h = let parts = and_parts (is_change kind) (is_name class) h in change_line kind class parts.0 parts.1
clause_line Quiescence h = refl
