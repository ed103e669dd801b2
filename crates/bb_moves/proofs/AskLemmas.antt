-- The line of an ask is read as the ask, and nothing of it is cut off.
use Rattle.std.proofs.Common.{◌≡◌, ◌^◌, ℕ, true, false, cond, List, [], ◌∷◌, ◌++◌, Some, None, Result, Ok, decimal, refl, sym, ap, subst, ◌∙◌, codes, arith, append_assoc, drop, leb-true, ltb-true, ne_eqb}
use Rattle.std.specs.Prelude.{◌==◌, nat_le, ◌&&◌}
use Rattle.std.specs.List.{AllByRecursion, list_all}
use Rattle.std.specs.Option.{option_map_or}
use Rattle.std.specs.Str.{IsUtf8}
use Rattle.std.proofs.lemmas.List.Elements.{All-from_recursion}
use Rattle.serde_json.specs.Data.{string}
use Rattle.serde_json.specs.Written.{compact_text}
use Rattle.bb_basis.specs.Names.{is_name}
use Rattle.bb_basis.specs.Results.{◌>>=◌}
use Rattle.bb_basis.proofs.BoolLemmas.{and_first, and_second}
use Rattle.bb_schema.specs.Fits as schemas
use Rattle.bb_schema.specs.Schema.{Schema}
use Rattle.bb_shell.specs.Ask.{Ask}
use Rattle.bb_shell.specs.Ask.TheVariants as asks
use Rattle.bb_shell.specs.Value.{Value}
use Rattle.bb_moves.specs.Asks.{ask_of, delete_of, enter_of, leave_of, link_of, new_of, say_of, set_of, unlink_of}
use Rattle.bb_moves.specs.Keywords.{ask_word_of, keyword_of}
use Rattle.bb_moves.specs.MovesText.{Asks, Progress, after_line, after_words, inside, one_more, says_nothing, with_asks}
use Rattle.bb_moves.specs.Values.{text_of, value_of}
use Rattle.bb_moves.specs.Words.{behind, first, name_of, number_of, split_at}
use Rattle.bb_moves.specs.Written.{ask_line, is_u64, spelt, tells_ask, tells_value}
use Rattle.bb_moves.specs.declared.fault.Slip.{Slip}
use Rattle.bb_moves.specs.declared.keyword.AskWord.{AskWord}
use Rattle.bb_moves.specs.declared.keyword.AskWord.TheVariants as words
use Rattle.bb_moves.proofs.GraphicLemmas.{IsGraphic, IsPlain, IsTail, IsWord, decimal_word, each_passes, each_weaker, name_word, plain_word, quoted_tail, tail_behind, trim_whole, word_tail}
use Rattle.bb_moves.proofs.ReadBackLemmas.{read_decimal}
use Rattle.bb_moves.proofs.SpeltLemmas.{text_back, value_back, value_tail}
use Rattle.bb_moves.proofs.WordLemmas.{split_at_first}

-- ---- the words of a line

no_space : (b : ℕ) → IsGraphic b → (b == 32) ≡ false
no_space b g = let low = g.0 in ne_eqb b 32 (λ e. omega (arith, low, e))

cut_at_space : (w rest : List ℕ) → IsWord w → split_at 32 (w ++ 32 ∷ rest) ≡ Some (w, rest)
cut_at_space w rest is = split_at_first 32 w rest (All-from_recursion (λ b. (b == 32) ≡ false) w (each_weaker IsGraphic (λ b. (b == 32) ≡ false) no_space w is.bytes))

pub first_word : (w rest : List ℕ) → IsWord w → first (w ++ 32 ∷ rest) ≡ w
first_word w rest is = ap (λ o. option_map_or (λ p. p.0) o (w ++ 32 ∷ rest)) (cut_at_space w rest is)

pub rest_behind : (w rest : List ℕ) → IsWord w → behind (w ++ 32 ∷ rest) ≡ rest
rest_behind w rest is = ap (λ o. option_map_or (λ p. p.1) o []) (cut_at_space w rest is)

pub unit_word : (n : ℕ) → is_u64 n ≡ true → IsWord (decimal n)
unit_word n h = decimal_word n (ltb-true n (2 ^ 64) h)

pub unit_back : (n : ℕ) → is_u64 n ≡ true → number_of (decimal n) ≡ Ok n
unfolding number_of
unit_back n h = rw (read_decimal n (ltb-true n (2 ^ 64) h)) refl

pub name_back : (w : List ℕ) → is_name w ≡ true → name_of w ≡ Ok w
unfolding name_of
name_back w h = rw h refl

-- ---- what follows the first word

abbrev pub spaced : (v w : List ℕ) → List ℕ
spaced v w = v ++ 32 ∷ w

two_words : (v w : List ℕ) → v ++ codes " " ++ w ≡ spaced v w
two_words v w = append_assoc v (codes " ") w

-- `U NAME` and a word more
three_words : (n slot w : List ℕ) → (n ++ codes " " ++ slot) ++ codes " " ++ w ≡ spaced n (spaced slot w)
three_words n slot w = append_assoc (n ++ codes " " ++ slot) (codes " ") w ∙ (ap (λ l. l ++ 32 ∷ w) (two_words n slot) ∙ append_assoc n (32 ∷ slot) (32 ∷ w))

spaced_tail : (v w : List ℕ) → IsWord v → IsTail w → IsTail (spaced v w)
spaced_tail v w is t = tail_behind v (32 ∷ w) (plain_word v is) (tail_behind (32 ∷ []) w (omega arith, tt) t)

-- ---- each ask

-- a step that is known to give something
ok_then : {A B : Type 0} (r : Result A Slip) (x : A) (f : A → Result B Slip) → r ≡ Ok x → (r >>= f) ≡ f x
ok_then r x f is = ap (λ t. t >>= f) is

-- what follows the first word is read as the ask, and ends a line
pub record IsTold (s : Schema) (word : AskWord) (ask : Ask) (text : List ℕ) : Type 0 where
  pub reads : ask_of s word text ≡ Ok ask
  pub tail : IsTail text

module _ (s : Schema) where
  new_told : (class : List ℕ) → is_name class ≡ true → IsTold s words.New (asks.New class) class
  unfolding new_of
  new_told class h = record { reads = ok_then (name_of class) class _ (name_back class h); tail = word_tail class (name_word class h) }

  delete_told : (unit : ℕ) → is_u64 unit ≡ true → IsTold s words.Delete (asks.Delete unit) (decimal unit)
  unfolding delete_of
  delete_told unit h = record { reads = ok_then (number_of (decimal unit)) unit _ (unit_back unit h); tail = word_tail (decimal unit) (unit_word unit h) }

  say_told : (t : List ℕ) → IsTold s words.Say (asks.Say t) (compact_text (string t))
  unfolding say_of
  say_told t = record { reads = ok_then (text_of (compact_text (string t))) t _ (text_back t); tail = quoted_tail t }

  module _ (fits : schemas.Fits s) (unit : ℕ) (name : List ℕ) (number : is_u64 unit ≡ true) (named : is_name name ≡ true) where
    behind_is : (rest : List ℕ) → behind (spaced (decimal unit) rest) ≡ rest
    behind_is rest = rest_behind (decimal unit) rest (unit_word unit number)

    unit_read : (rest : List ℕ) → number_of (first (spaced (decimal unit) rest)) ≡ Ok unit
    unit_read rest = ap number_of (first_word (decimal unit) rest (unit_word unit number)) ∙ unit_back unit number

    -- the name, where nothing follows it
    last_read : name_of (behind (spaced (decimal unit) name)) ≡ Ok name
    last_read = ap name_of (behind_is name) ∙ name_back name named

    last_tail : IsTail (spaced (decimal unit) name)
    last_tail = spaced_tail (decimal unit) name (unit_word unit number) (word_tail name (name_word name named))

    enter_told : IsTold s words.Enter (asks.Enter unit name) (spaced (decimal unit) name)
    unfolding enter_of
    enter_told = record { reads = ok_then (number_of (first (spaced (decimal unit) name))) unit _ (unit_read name) ∙ ok_then (name_of (behind (spaced (decimal unit) name))) name _ last_read; tail = last_tail }

    leave_told : IsTold s words.Leave (asks.Leave unit name) (spaced (decimal unit) name)
    unfolding leave_of
    leave_told = record { reads = ok_then (number_of (first (spaced (decimal unit) name))) unit _ (unit_read name) ∙ ok_then (name_of (behind (spaced (decimal unit) name))) name _ last_read; tail = last_tail }

    module _ (last : List ℕ) where
      -- what follows the name
      third_is : behind (behind (spaced (decimal unit) (spaced name last))) ≡ last
      third_is = ap behind (behind_is (spaced name last)) ∙ rest_behind name last (name_word name named)

      name_read : name_of (first (behind (spaced (decimal unit) (spaced name last)))) ≡ Ok name
      name_read = ap (λ t. name_of (first t)) (behind_is (spaced name last)) ∙ (ap name_of (first_word name last (name_word name named)) ∙ name_back name named)

      three_tail : IsTail last → IsTail (spaced (decimal unit) (spaced name last))
      three_tail t = spaced_tail (decimal unit) (spaced name last) (unit_word unit number) (spaced_tail name last (name_word name named) t)

    set_told : (v : Value) → tells_value s v ≡ true → IsTold s words.Set (asks.Set unit name v) (spaced (decimal unit) (spaced name (spelt s v)))
    unfolding set_of
    set_told v h =
        let last = spelt s v in
        let text = spaced (decimal unit) (spaced name last) in
        record {
          reads = ok_then (number_of (first text)) unit _ (unit_read (spaced name last))
              ∙ (ok_then (name_of (first (behind text))) name _ (name_read last)
              ∙ ok_then (value_of s (behind (behind text))) v _ (ap (value_of s) (third_is last) ∙ value_back s fits v h));
          tail = three_tail last (value_tail s fits v h);
        }

    module _ (other : ℕ) (also : is_u64 other ≡ true) where
      other_read : number_of (behind (behind (spaced (decimal unit) (spaced name (decimal other))))) ≡ Ok other
      other_read = ap number_of (third_is (decimal other)) ∙ unit_back other also

      link_told : IsTold s words.Link (asks.Link unit name other) (spaced (decimal unit) (spaced name (decimal other)))
      unfolding link_of
      link_told =
          let text = spaced (decimal unit) (spaced name (decimal other)) in
          record {
            reads = ok_then (number_of (first text)) unit _ (unit_read (spaced name (decimal other)))
                ∙ (ok_then (name_of (first (behind text))) name _ (name_read (decimal other)) ∙ ok_then (number_of (behind (behind text))) other _ other_read);
            tail = three_tail (decimal other) (word_tail (decimal other) (unit_word other also));
          }

      unlink_told : IsTold s words.Unlink (asks.Unlink unit name other) (spaced (decimal unit) (spaced name (decimal other)))
      unfolding unlink_of
      unlink_told =
          let text = spaced (decimal unit) (spaced name (decimal other)) in
          record {
            reads = ok_then (number_of (first text)) unit _ (unit_read (spaced name (decimal other)))
                ∙ (ok_then (name_of (first (behind text))) name _ (name_read (decimal other)) ∙ ok_then (number_of (behind (behind text))) other _ other_read);
            tail = three_tail (decimal other) (word_tail (decimal other) (unit_word other also));
          }

-- ---- lines

-- a line that begins with a letter and ends with a graphic byte, which is read so while asks are gathered
pub record IsAskLine (s : Schema) (ask : Ask) (line : List ℕ) : Type 0 where
  pub letter : ℕ
  pub rest : List ℕ
  pub is : line ≡ letter ∷ rest
  pub graphic : IsGraphic letter
  pub no_mark : (letter == 35) ≡ false
  pub tail : IsTail line
  pub reads : (p : Progress) (g : Asks) → inside s p g line ≡ Ok (with_asks p (one_more g ask))

module _ (s : Schema) where
  by_word : (word : AskWord) (letter : ℕ) (others : List ℕ) (ask : Ask) (text line : List ℕ) → IsGraphic letter → (letter == 35) ≡ false → AllByRecursion IsPlain (letter ∷ others)
      → ((p : Progress) (g : Asks) → inside s p g ((letter ∷ others) ++ text) ≡ (ask_of s word text >>= λ a. Ok (with_asks p (one_more g a))))
      → line ≡ (letter ∷ others) ++ text → IsTold s word ask text → IsAskLine s ask line
  by_word word letter others ask text line graphic no_mark plain opens is told = record {
    letter = letter;
    rest = others ++ text;
    is = is;
    graphic = graphic;
    no_mark = no_mark;
    tail = subst IsTail (sym is) (tail_behind (letter ∷ others) text plain told.tail);
    reads = λ p g. ap (inside s p g) is ∙ (opens p g ∙ ap (λ r. r >>= λ a. Ok (with_asks p (one_more g a))) told.reads);
  }

  new_opens : (text : List ℕ) (p : Progress) (g : Asks) → inside s p g (codes "new " ++ text) ≡ (ask_of s words.New text >>= λ a. Ok (with_asks p (one_more g a)))
  unfolding inside keyword_of ask_word_of split_at
  new_opens text p g = refl

  delete_opens : (text : List ℕ) (p : Progress) (g : Asks) → inside s p g (codes "delete " ++ text) ≡ (ask_of s words.Delete text >>= λ a. Ok (with_asks p (one_more g a)))
  unfolding inside keyword_of ask_word_of split_at
  delete_opens text p g = refl

  set_opens : (text : List ℕ) (p : Progress) (g : Asks) → inside s p g (codes "set " ++ text) ≡ (ask_of s words.Set text >>= λ a. Ok (with_asks p (one_more g a)))
  unfolding inside keyword_of ask_word_of split_at
  set_opens text p g = refl

  link_opens : (text : List ℕ) (p : Progress) (g : Asks) → inside s p g (codes "link " ++ text) ≡ (ask_of s words.Link text >>= λ a. Ok (with_asks p (one_more g a)))
  unfolding inside keyword_of ask_word_of split_at
  link_opens text p g = refl

  unlink_opens : (text : List ℕ) (p : Progress) (g : Asks) → inside s p g (codes "unlink " ++ text) ≡ (ask_of s words.Unlink text >>= λ a. Ok (with_asks p (one_more g a)))
  unfolding inside keyword_of ask_word_of split_at
  unlink_opens text p g = refl

  enter_opens : (text : List ℕ) (p : Progress) (g : Asks) → inside s p g (codes "enter " ++ text) ≡ (ask_of s words.Enter text >>= λ a. Ok (with_asks p (one_more g a)))
  unfolding inside keyword_of ask_word_of split_at
  enter_opens text p g = refl

  leave_opens : (text : List ℕ) (p : Progress) (g : Asks) → inside s p g (codes "leave " ++ text) ≡ (ask_of s words.Leave text >>= λ a. Ok (with_asks p (one_more g a)))
  unfolding inside keyword_of ask_word_of split_at
  leave_opens text p g = refl

  say_opens : (text : List ℕ) (p : Progress) (g : Asks) → inside s p g (codes "say " ++ text) ≡ (ask_of s words.Say text >>= λ a. Ok (with_asks p (one_more g a)))
  unfolding inside keyword_of ask_word_of split_at
  say_opens text p g = refl

  -- the letters of a keyword, and the space behind it
  pub plain_list : (bs : List ℕ) → list_all (λ b. nat_le 32 b) bs ≡ true → AllByRecursion IsPlain bs
  plain_list bs h = each_passes (λ b. nat_le 32 b) IsPlain (λ b t. leb-true 32 b t) bs h

  pub ask_line_is : schemas.Fits s → (ask : Ask) → tells_ask s ask ≡ true → IsAskLine s ask (ask_line s ask)
  unfolding ask_line tells_ask
  ask_line_is fits (asks.New class) h = by_word words.New 110 (drop 1 (codes "new ")) (asks.New class) class _ (omega arith, omega arith) refl (plain_list (codes "new ") refl) (new_opens class) refl (new_told s class h)
  ask_line_is fits (asks.Delete unit) h = by_word words.Delete 100 (drop 1 (codes "delete ")) (asks.Delete unit) (decimal unit) _ (omega arith, omega arith) refl (plain_list (codes "delete ") refl) (delete_opens (decimal unit)) refl (delete_told s unit h)
  ask_line_is fits (asks.Say t) h = by_word words.Say 115 (drop 1 (codes "say ")) (asks.Say t) (compact_text (string t)) _ (omega arith, omega arith) refl (plain_list (codes "say ") refl) (say_opens (compact_text (string t))) refl (say_told s t)
  ask_line_is fits (asks.Enter unit space) h =
      let text = spaced (decimal unit) space in
      by_word words.Enter 101 (drop 1 (codes "enter ")) (asks.Enter unit space) text _ (omega arith, omega arith) refl (plain_list (codes "enter ") refl) (enter_opens text) (ap (λ l. codes "enter " ++ l) (two_words (decimal unit) space))
      (enter_told s fits unit space (and_first (is_u64 unit) (is_name space) h) (and_second (is_u64 unit) (is_name space) h))
  ask_line_is fits (asks.Leave unit space) h =
      let text = spaced (decimal unit) space in
      by_word words.Leave 108 (drop 1 (codes "leave ")) (asks.Leave unit space) text _ (omega arith, omega arith) refl (plain_list (codes "leave ") refl) (leave_opens text) (ap (λ l. codes "leave " ++ l) (two_words (decimal unit) space))
      (leave_told s fits unit space (and_first (is_u64 unit) (is_name space) h) (and_second (is_u64 unit) (is_name space) h))
  ask_line_is fits (asks.Set unit slot v) h =
      let text = spaced (decimal unit) (spaced slot (spelt s v)) in
      let both = and_first (is_u64 unit && is_name slot) (tells_value s v) h in
      by_word words.Set 115 (drop 1 (codes "set ")) (asks.Set unit slot v) text _ (omega arith, omega arith) refl (plain_list (codes "set ") refl) (set_opens text) (ap (λ l. codes "set " ++ l) (three_words (decimal unit) slot (spelt s v)))
      (set_told s fits unit slot (and_first (is_u64 unit) (is_name slot) both) (and_second (is_u64 unit) (is_name slot) both) v (and_second (is_u64 unit && is_name slot) (tells_value s v) h))
  ask_line_is fits (asks.Link unit slot other) h =
      let text = spaced (decimal unit) (spaced slot (decimal other)) in
      let both = and_first (is_u64 unit && is_name slot) (is_u64 other) h in
      by_word words.Link 108 (drop 1 (codes "link ")) (asks.Link unit slot other) text _ (omega arith, omega arith) refl (plain_list (codes "link ") refl) (link_opens text) (ap (λ l. codes "link " ++ l) (three_words (decimal unit) slot (decimal other)))
      (link_told s fits unit slot (and_first (is_u64 unit) (is_name slot) both) (and_second (is_u64 unit) (is_name slot) both) other (and_second (is_u64 unit && is_name slot) (is_u64 other) h))
  ask_line_is fits (asks.Unlink unit slot other) h =
      let text = spaced (decimal unit) (spaced slot (decimal other)) in
      let both = and_first (is_u64 unit && is_name slot) (is_u64 other) h in
      by_word words.Unlink 117 (drop 1 (codes "unlink ")) (asks.Unlink unit slot other) text _ (omega arith, omega arith) refl (plain_list (codes "unlink ") refl) (unlink_opens text) (ap (λ l. codes "unlink " ++ l) (three_words (decimal unit) slot (decimal other)))
      (unlink_told s fits unit slot (and_first (is_u64 unit) (is_name slot) both) (and_second (is_u64 unit) (is_name slot) both) other (and_second (is_u64 unit && is_name slot) (is_u64 other) h))

-- ---- a line in its place

-- white space at the ends of a line is none of it
pub line_is_read : (s : Schema) (p : Progress) (letter : ℕ) (rest : List ℕ) → IsGraphic letter → (letter == 35) ≡ false → IsTail (letter ∷ rest) → IsUtf8 (letter ∷ rest)
    → after_line s p (letter ∷ rest) ≡ after_words s (record { moves = p.moves; gathered = None }) p.gathered (letter ∷ rest)
unfolding after_line
line_is_read s p letter rest graphic no_mark tail utf8 =
    let q : Progress = record { moves = p.moves; gathered = None } in
    ap (λ l. cond (says_nothing l) (Ok p) (after_words s q p.gathered l)) (trim_whole letter rest graphic tail utf8)
    ∙ ap (λ b. cond b (Ok p) (after_words s q p.gathered (letter ∷ rest))) no_mark
