-- What is written of a move is read as this one move, and a history of moves is read as the moves.
use Rattle.std.proofs.Common.{◌≡◌, ◌^◌, ℕ, true, false, List, [], ◌∷◌, ◌++◌, Some, None, Result, Ok, decimal, inl, inr, refl, sym, ap, subst, ◌∙◌, codes, arith, append_assoc, append-nil, drop, leb-true, lt-ltb, ltb-true}
use Rattle.std.specs.Prelude.{◌==◌, nat_le, nat_lt, ◌&&◌}
use Rattle.std.specs.List.{flat_map, list_all}
use Rattle.std.specs.Str.{IsUtf8}
use Rattle.std.specs.Str.Lines.{lines}
use Rattle.std.proofs.lemmas.Str.{IsUtf8-append, IsUtf8-from_ascii, IsUtf8-nil}
use Rattle.std.proofs.lemmas.Str.Ascii.{IsAscii-cons, IsAscii-nil}
use Rattle.bb_basis.specs.Results.{◌>>=◌, try_fold}
use Rattle.bb_basis.proofs.BoolLemmas.{and_first, and_second}
use Rattle.bb_schema.specs.Fits as schemas
use Rattle.bb_schema.specs.Schema.{Schema}
use Rattle.bb_shell.specs.Ask.{Ask}
use Rattle.bb_run_held.specs.Moves.{Move, one_turn, advance, post, answer}
use Rattle.bb_moves.specs.Keywords.{keyword_of}
use Rattle.bb_moves.specs.MovesText.{Asks, Progress, after_line, after_move, after_words, inside, move_by, move_of, moves_of, nothing_read, outside}
use Rattle.bb_moves.specs.Words.{count_of, split_at}
use Rattle.bb_moves.specs.Written.{IsEnded, ask_line, asks_text, can_tell, history_text, move_text, tells_ask}
use Rattle.bb_moves.specs.declared.fault.Slip.{Slip}
use Rattle.bb_moves.specs.declared.keyword.Gathering.{Gathering}
use Rattle.bb_moves.specs.declared.keyword.Gathering.TheVariants as gatherings
use Rattle.bb_moves.proofs.AskLemmas.{ask_line_is, line_is_read, plain_list, unit_back, unit_word}
use Rattle.bb_moves.proofs.CutLemmas.{line_first}
use Rattle.bb_moves.proofs.GraphicLemmas.{IsGraphic, IsTail, IsWord, cut_at_line, each_passes, tail_behind, word_tail}
use Rattle.bb_moves.proofs.JoinLemmas.{all_read, lines_by_read, read_together}

-- the whole number of a move is a number of 64 bits too
count_low : (n : ℕ) → nat_lt n (2 ^ 32) ≡ true → nat_lt n (2 ^ 64) ≡ true
count_low n h = lt-ltb n (2 ^ 64) (let low = ltb-true n (2 ^ 32) h in omega (arith, low))

count_back : (n : ℕ) → nat_lt n (2 ^ 32) ≡ true → count_of (decimal n) ≡ Ok n
unfolding count_of
count_back n h = rw (unit_back n (count_low n h), h) refl

graphic_by : (b : ℕ) → (nat_le 33 b && nat_le b 126) ≡ true → IsGraphic b
graphic_by b h = (leb-true 33 b (and_first (nat_le 33 b) (nat_le b 126) h), leb-true b 126 (and_second (nat_le 33 b) (nat_le b 126) h))

-- ---- what is gathered

-- these asks are gathered, and nothing else was read
abbrev gathers : Gathering → List Ask → Progress
gathers kind asks = record { moves = []; gathered = Some (record { gathering = kind; asks = asks }) }

module _ (s : Schema) where
  step : (p q : Progress) (line : List ℕ) (ls : List (List ℕ)) (r : Result Progress Slip) → after_line s p line ≡ Ok q → try_fold (after_line s) q ls ≡ r → try_fold (after_line s) p (line ∷ ls) ≡ r
  unfolding try_fold
  step p q line ls r one rest = ap (λ t. t >>= λ u. try_fold (after_line s) u ls) one ∙ rest

  none_left : (p : Progress) → try_fold (after_line s) p (lines []) ≡ Ok p
  unfolding try_fold
  none_left p = refl

  -- a line, and then the lines of the rest
  line_then : (p q : Progress) (line rest : List ℕ) (r : Result Progress Slip) → IsTail line → after_line s p line ≡ Ok q → try_fold (after_line s) q (lines rest) ≡ r → try_fold (after_line s) p (lines (line ++ 10 ∷ rest)) ≡ r
  line_then p q line rest r tail one more = ap (try_fold (after_line s) p) (line_first line rest tail) ∙ step p q line (lines rest) r one more

  -- ---- words alone

  word_bytes : (letter : ℕ) (rest : List ℕ) → list_all (λ b. nat_le 33 b && nat_le b 126) (letter ∷ rest) ≡ true → IsWord (letter ∷ rest)
  word_bytes letter rest h = record { some = omega arith; bytes = each_passes (λ b. nat_le 33 b && nat_le b 126) IsGraphic graphic_by (letter ∷ rest) h }

  -- a line that begins with a letter
  letter_read : (p : Progress) (letter : ℕ) (rest : List ℕ) → IsGraphic letter → (letter == 35) ≡ false → IsTail (letter ∷ rest) → IsUtf8 (letter ∷ rest) → (q : Progress)
      → after_words s (record { moves = p.moves; gathered = None }) p.gathered (letter ∷ rest) ≡ Ok q → after_line s p (letter ∷ rest) ≡ Ok q
  letter_read p letter rest graphic no_mark tail utf8 q is = line_is_read s p letter rest graphic no_mark tail utf8 ∙ is

  turn_words : after_words s nothing_read None (codes "turn") ≡ Ok (all_read (one_turn ∷ []))
  unfolding outside keyword_of split_at after_move
  turn_words = refl

  post_words : after_words s nothing_read None (codes "post") ≡ Ok (gathers gatherings.Post [])
  unfolding outside keyword_of split_at after_move
  post_words = refl

  answer_words : after_words s nothing_read None (codes "answer") ≡ Ok (gathers gatherings.Answer [])
  unfolding outside keyword_of split_at after_move
  answer_words = refl

  end_words : (g : Asks) → after_words s nothing_read (Some g) (codes "end") ≡ Ok (all_read (move_of g ∷ []))
  unfolding inside keyword_of split_at
  end_words g = refl

  advance_opens : (n : List ℕ) → after_words s nothing_read None (codes "advance " ++ n) ≡ (count_of n >>= λ cycles. Ok (all_read (advance cycles ∷ [])))
  unfolding outside keyword_of split_at after_move
  advance_opens n = refl

  -- ---- asks, up to their end

  end_tail : IsTail (codes "end")
  end_tail = word_tail (codes "end") (word_bytes 101 (drop 1 (codes "end")) refl)

  asks_again : schemas.Fits s → (kind : Gathering) (done asks : List Ask) → list_all (tells_ask s) asks ≡ true → IsUtf8 (asks_text s asks)
      → try_fold (after_line s) (gathers kind done) (lines (asks_text s asks)) ≡ Ok (all_read (move_by kind (done ++ asks) ∷ []))
  asks_again fits kind done [] h utf8 =
      let g : Asks = record { gathering = kind; asks = done } in
      let cut = cut_at_line (codes "end") [] utf8 in
      let q = all_read (move_of g ∷ []) in
      line_then (gathers kind done) q (codes "end") [] (Ok q) end_tail
      (letter_read (gathers kind done) 101 (drop 1 (codes "end")) (omega arith, omega arith) refl end_tail cut.0 q (end_words g)) (none_left q)
      ∙ ap (λ l. Ok (all_read (move_by kind l ∷ []))) (sym (append-nil done))
  asks_again fits kind done (a ∷ more) h utf8 =
      let told = ask_line_is s fits a (and_first (tells_ask s a) (list_all (tells_ask s) more) h) in
      let line = ask_line s a in
      let rest = asks_text s more in
      let g : Asks = record { gathering = kind; asks = done } in
      let text : asks_text s (a ∷ more) ≡ line ++ 10 ∷ rest =
      append_assoc (line ++ codes "\n") (flat_map (λ ask. ask_line s ask ++ codes "\n") more) (codes "end\n") ∙ append_assoc line (codes "\n") rest in
      let cut = cut_at_line line rest (subst IsUtf8 text utf8) in
      let first : after_line s (gathers kind done) line ≡ Ok (gathers kind (done ++ a ∷ [])) =
      ap (after_line s (gathers kind done)) told.is
      ∙ (line_is_read s (gathers kind done) told.letter told.rest told.graphic told.no_mark (subst IsTail told.is told.tail) (subst IsUtf8 told.is cut.0)
      ∙ (ap (after_words s nothing_read (Some g)) (sym told.is) ∙ told.reads nothing_read g)) in
      ap (λ t. try_fold (after_line s) (gathers kind done) (lines t)) text
      ∙ (line_then (gathers kind done) (gathers kind (done ++ a ∷ [])) line rest _ told.tail first
      (asks_again fits kind (done ++ a ∷ []) more (and_second (tells_ask s a) (list_all (tells_ask s) more) h) cut.1)
      ∙ ap (λ l. Ok (all_read (move_by kind l ∷ []))) (append_assoc done (a ∷ []) more))

  -- ---- moves

  gathered_again : schemas.Fits s → (kind : Gathering) (letter : ℕ) (others : List ℕ) (asks : List Ask) → IsWord (letter ∷ others) → IsGraphic letter → (letter == 35) ≡ false
      → after_words s nothing_read None (letter ∷ others) ≡ Ok (gathers kind []) → list_all (tells_ask s) asks ≡ true → IsUtf8 ((letter ∷ others) ++ 10 ∷ asks_text s asks)
      → moves_of s ((letter ∷ others) ++ 10 ∷ asks_text s asks) ≡ Ok (move_by kind asks ∷ [])
  gathered_again fits kind letter others asks word graphic no_mark opens told utf8 =
      let line = letter ∷ others in
      let rest = asks_text s asks in
      let cut = cut_at_line line rest utf8 in
      let tail = word_tail line word in
      lines_by_read s (line ++ 10 ∷ rest) (move_by kind asks ∷ [])
      (line_then nothing_read (gathers kind []) line rest _ tail (letter_read nothing_read letter others graphic no_mark tail cut.0 (gathers kind []) opens) (asks_again fits kind [] asks told cut.1))

  pub again : schemas.Fits s → (m : Move) → can_tell s m ≡ true → IsUtf8 (move_text s m) → moves_of s (move_text s m) ≡ Ok (m ∷ [])
  unfolding can_tell move_text
  again fits one_turn h utf8 =
      let tail = word_tail (codes "turn") (word_bytes 116 (drop 1 (codes "turn")) refl) in
      let q = all_read (one_turn ∷ []) in
      lines_by_read s (codes "turn\n") (one_turn ∷ [])
      (line_then nothing_read q (codes "turn") [] (Ok q) tail (letter_read nothing_read 116 (drop 1 (codes "turn")) (omega arith, omega arith) refl tail (cut_at_line (codes "turn") [] utf8).0 q turn_words) (none_left q))
  again fits (advance n) h utf8 =
      let number = decimal n in
      let line = codes "advance " ++ number in
      let tail = tail_behind (codes "advance ") number (plain_list s (codes "advance ") refl) (word_tail number (unit_word n (count_low n h))) in
      let q = all_read (advance n ∷ []) in
      let opens : after_words s nothing_read None line ≡ Ok q = advance_opens number ∙ ap (λ r. r >>= λ cycles. Ok (all_read (advance cycles ∷ []))) (count_back n h) in
      lines_by_read s (line ++ codes "\n") (advance n ∷ [])
      (line_then nothing_read q line [] (Ok q) tail (letter_read nothing_read 97 (drop 1 (codes "advance ") ++ number) (omega arith, omega arith) refl tail (cut_at_line line [] utf8).0 q opens) (none_left q))
  again fits (post asks) h utf8 = gathered_again fits gatherings.Post 112 (drop 1 (codes "post")) asks (word_bytes 112 (drop 1 (codes "post")) refl) (omega arith, omega arith) refl post_words h utf8
  again fits (answer asks) h utf8 = gathered_again fits gatherings.Answer 97 (drop 1 (codes "answer")) asks (word_bytes 97 (drop 1 (codes "answer")) refl) (omega arith, omega arith) refl answer_words h utf8

  -- ---- a history

  asks_ended : (asks : List Ask) (word : List ℕ) → IsEnded (word ++ asks_text s asks)
  asks_ended asks word =
      let told = flat_map (λ ask. ask_line s ask ++ codes "\n") asks in
      inr (word ++ (told ++ codes "end"), ap (λ l. word ++ l) (sym (append_assoc told (codes "end") (codes "\n"))) ∙ sym (append_assoc word (told ++ codes "end") (codes "\n")))

  pub move_ended : (m : Move) → IsEnded (move_text s m)
  unfolding move_text
  move_ended one_turn = inr (codes "turn", refl)
  move_ended (advance n) = inr (codes "advance " ++ decimal n, refl)
  move_ended (post asks) = asks_ended asks (codes "post\n")
  move_ended (answer asks) = asks_ended asks (codes "answer\n")

  cut_ended : (a b : List ℕ) → IsEnded a → IsUtf8 (a ++ b) → IsUtf8 a × IsUtf8 b
  cut_ended a b (inl none) utf8 = (subst IsUtf8 (sym none) IsUtf8-nil, subst IsUtf8 (ap (λ l. l ++ b) none) utf8)
  cut_ended a b (inr ends) utf8 =
      let cut = cut_at_line ends.0 b (subst IsUtf8 (ap (λ l. l ++ b) ends.1 ∙ append_assoc ends.0 (codes "\n") b) utf8) in
      (subst IsUtf8 (sym ends.1) (IsUtf8-append ends.0 (codes "\n") cut.0 (IsUtf8-from_ascii (codes "\n") (IsAscii-cons 10 [] (omega arith) IsAscii-nil))), cut.1)

  pub history_again : schemas.Fits s → (ms : List Move) → list_all (can_tell s) ms ≡ true → IsUtf8 (history_text s ms) → moves_of s (history_text s ms) ≡ Ok ms
  history_again fits [] h utf8 = lines_by_read s [] [] (none_left nothing_read)
  history_again fits (m ∷ ms) h utf8 =
      let ends = move_ended m in
      let cut = cut_ended (move_text s m) (history_text s ms) ends utf8 in
      read_together s (move_text s m) (history_text s ms) (m ∷ []) ms ends (again fits m (and_first (can_tell s m) (list_all (can_tell s) ms) h) cut.0)
      (history_again fits ms (and_second (can_tell s m) (list_all (can_tell s) ms) h) cut.1)
