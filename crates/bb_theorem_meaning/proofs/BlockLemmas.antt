-- A test and the blocks after it do what they mean, and so do statements one after another.
use Rattle.std.proofs.Common.{◌≡◌, ◌⊎◌, inl, inr, ℕ, ◌≤◌, Bool, true, false, cond, List, [], ◌∷◌, length, Option, Ok, refl, subst, sym, ap, ◌∙◌, arith}
use Rattle.std.specs.Prelude.{take}
use Rattle.bb_basis.specs.Results.{◌>>=◌}
use Rattle.bb_code.specs.Code.{Code}
use Rattle.bb_verify_effect.specs.declared.part.Part.{Part}
use Rattle.bb_code.specs.declared.frame.Kind.{Kind}
use Rattle.bb_code.specs.declared.op.Op.TheVariants as ops
use Rattle.bb_schema.specs.Schema.{Schema}
use Rattle.bb_schema.specs.Fits as schemas
use Rattle.bb_lang.specs.Blocks.{BlockTree, absent, otherwise}
use Rattle.bb_compile_scope.specs.declared.scope.Scope.{Scope}
use Rattle.bb_compile_scope.specs.Ending.{block_ends}
use Rattle.bb_compile_scope.specs.LocalKinds.{is_free, kind_at, kinds_met}
use Rattle.bb_compile_scope.specs.declared.scope.NamedLocal.{NamedLocal}
use Rattle.bb_compile_scope.specs.Scope.{mark_of, back_to}
use Rattle.bb_theorem_accepted.specs.Buffer.{Buffer}
use Rattle.bb_theorem_accepted.specs.Buffers.{leave}
use Rattle.bb_compile.specs.declared.exits.Exits.{Exits}
use Rattle.bb_compile.specs.Statements.{statements_code}
use Rattle.bb_machine.specs.Changing.{State}
use Rattle.bb_theorem_accepted.proofs.Laws.{Clean, Grown, Has, AreAimed, AbsentLaid, ElseEnded, ElseOn, Guard, Branches, grown_none, grown_on, has_before, InEither, InOther, branches_absent, branches_else, same_more, more_after, block_count, aims_grown, aims_count, aims_has, aims_there, aimed_behind, aimed_before, jump_count, open_is, closed_is, end_count, open_has, jump_there, block_clean, block_now, block_grown, count_of}
use Rattle.bb_theorem_meaning.specs.Meaning.{Meaning}
use Rattle.bb_theorem_meaning.specs.Statements.{Scene, left, statements}
use Rattle.bb_theorem_meaning.proofs.ComeLemmas.{Comes, Gets, gets_none}
use Rattle.bb_theorem_meaning.proofs.MeansLemmas.{part_gets}
use Rattle.bb_theorem_meaning.proofs.NameLemmas.{AreTaken}
use Rattle.bb_theorem_meaning.proofs.AtomLemmas.{Good}
use Rattle.bb_theorem_meaning.proofs.SceneLemmas.{AreApart}
use Rattle.bb_theorem_meaning.proofs.KeepLemmas.{Keeps, Moves, moves_same, moves_kept, moves_on, moves_left, names_left, keeps_met, taken_kept, held_count}
use Rattle.bb_theorem_meaning.proofs.ActLemmas.{IsTidy, IsScene, Acts}
use Rattle.bb_theorem_meaning.proofs.EndLemmas.{block_never}
use Rattle.bb_theorem_meaning.proofs.BranchLemmas.{left_gets, jump_gets, never_gets}
use Rattle.bb_theorem_meaning.proofs.TestLemmas.{Tests, chosen}

-- a scope with the names of another, of whose locals none became free, is as tidy
pub tidy_kept : (s t : Scope) → t.names ≡ s.names → Keeps s.kinds t.kinds → IsTidy s → IsTidy t
tidy_kept s t names keeps tidy = record {
  taken = subst (AreTaken t.kinds) (sym names) (taken_kept s.names s.kinds t.kinds keeps tidy.taken);
  apart = subst AreApart (sym names) tidy.apart;
}

-- the kinds after a block, where the block may have ended
met_keeps : (ks one other now : List Kind) (ended : Bool) → Keeps ks one → Keeps ks other → now ≡ cond ended one (kinds_met one other) → Keeps ks now
met_keeps ks one other now true first second is = subst (Keeps ks) (sym is) first
met_keeps ks one other now false first second is = subst (Keeps ks) (sym is) (keeps_met ks one other first second)

either_keeps : (ks one other now : List Kind) (ended : Bool) → Keeps ks one → Keeps ks other → now ≡ cond ended one other → Keeps ks now
either_keeps ks one other now true first second is = subst (Keeps ks) (sym is) first
either_keeps ks one other now false first second is = subst (Keeps ks) (sym is) second

-- where the names of a block are forgotten, and that which a test declared before it
twice_left : (r u v : Scope) → Moves r u → Moves u v → Moves r (back_to (mark_of r) (back_to (mark_of u) v))
twice_left r u v first then = moves_left r (back_to (mark_of u) v) (moves_on r u (back_to (mark_of u) v) first (moves_left u v then))

names_twice : (r u v : Scope) → Moves r u → Moves u v → (back_to (mark_of r) (back_to (mark_of u) v)).names ≡ r.names
names_twice r u v first then = names_left r (back_to (mark_of u) v) (moves_on r u (back_to (mark_of u) v) first (moves_left u v then))

module _ (schema : Schema) (sf : schemas.Fits schema) (part : Part) (code : Code) (start : State) (good : (n : ℕ) (st : State) → Comes code start n (Ok st) → Good schema st.1) where
  abbrev GetsAt : ℕ → List NamedLocal → Meaning Scene → Type 0
  GetsAt n ns r = Gets code start (IsScene n ns) r n

  placed_as : (n m : ℕ) (ns ks : List NamedLocal) (r : Meaning Scene) → n ≡ m → ns ≡ ks → GetsAt n ns r → GetsAt m ks r
  placed_as n m ns ks r place names g = subst (λ k. GetsAt m k r) names (subst (λ i. GetsAt i ns r) place g)

  -- ---- a test, and the first block after it

  module _ (test : Scene → Meaning (Option Scene)) (first : BlockTree) (loops : ℕ) (s u v : Buffer) (exits : Exits) (gd : Guard s u exits) (g : Grown u v) (tests : Has code gd.behind → Tests code start s u exits gd test) (own : Has code v → Acts code start u v (statements first)) where
    abbrev a : Buffer
    a = gd.behind

    -- after the test, before a name is declared
    abbrev r : Buffer
    r = gd.tested

    abbrev w : Buffer
    w = leave (mark_of r.scope) (leave (mark_of u.scope) v)

    abbrev branch_grown : Grown r v
    branch_grown = grown_on r u v gd.named g

    long : length u.ops ≤ length v.ops
    long = let e = count_of u v g in omega (arith, e)

    short : length r.ops ≤ length u.ops
    short = let e = count_of r u gd.named in omega (arith, e)

    module _ (t : Buffer) (grown : Grown a t) (m : Tests code start s u exits gd test) (block : Acts code start u v (statements first)) where
      tidy_before : IsTidy s.scope → IsTidy r.scope
      tidy_before tidy = subst IsTidy (sym m.scope) tidy

      tidy_inner : IsTidy s.scope → IsTidy u.scope
      tidy_inner tidy = m.tidy (tidy_before tidy)

      -- what the blocks come to, where one of them is chosen
      branches_get : (at : ℕ) (other : Scene → Meaning Scene) → AreAimed code at (length a.ops) gd.es → Has code u → length r.ops ≤ at → at ≤ length t.ops → length u.ops ≤ length t.ops
          → ((scene after : Scene) → length scene.names ≡ length r.scope.names → GetsAt (length v.ops) v.scope.names (statements first after) → GetsAt (length t.ops) t.scope.names (left scene (statements first after)))
          → ((scene : Scene) (st : State) → Comes code start at (Ok st) → IsScene at r.scope.names scene st → GetsAt (length t.ops) t.scope.names (other scene))
          → IsTidy s.scope → (st : State) (scene : Scene) → Comes code start (length s.ops) (Ok st) → IsScene (length s.ops) s.scope.names scene st
          → GetsAt (length t.ops) t.scope.names (test scene >>= chosen (statements first) other scene)
      branches_get at other aimed has_u low high le onward elsewhere tidy st scene c here =
          let names : r.scope.names ≡ s.scope.names = ap (λ (c : Scope). c.names) m.scope in
          m.gets t (chosen (statements first) other scene) at grown aimed has_u tidy low high le st scene c here
          (λ after next c' is. onward scene after (held_count st.0.locals s.scope.names scene.names here.held ∙ ap length (sym names)) (block.gets (tidy_inner tidy) next after c' is))
          (λ next c' is. elsewhere scene next c' (subst (λ ns. IsScene at ns scene next) (sym names) is))

      -- the first block goes on after its names, and after that of the test
      first_left : IsTidy s.scope → (scene after : Scene) → length scene.names ≡ length r.scope.names → GetsAt (length v.ops) v.scope.names (statements first after) → GetsAt (length v.ops) r.scope.names (left scene (statements first after))
      first_left tidy scene after count got =
          let moves = moves_on r.scope u.scope v.scope m.moves (block.moves (tidy_inner tidy)) in
          left_gets code start r.scope.names moves.more (length v.ops) scene (statements first after) count (subst (λ ns. GetsAt (length v.ops) ns (statements first after)) moves.names got)

      -- a scope with the names that there were before, of whose locals none became free
      behind_moves : IsTidy s.scope → t.scope.names ≡ r.scope.names → Keeps r.scope.kinds t.scope.kinds → Moves s.scope t.scope
      behind_moves tidy names keeps = subst (λ c. Moves c t.scope) m.scope (moves_kept r.scope t.scope names keeps)

      behind_tidy : IsTidy s.scope → t.scope.names ≡ r.scope.names → Keeps r.scope.kinds t.scope.kinds → IsTidy t.scope
      behind_tidy tidy names keeps = tidy_kept r.scope t.scope names keeps (tidy_before tidy)

    -- ---- without `else`

    absent_acts : (t : Buffer) (ended now : Bool) → AbsentLaid (mark_of r.scope) (length a.ops) (length gd.es) ended w t now → Has code t → Acts code start s t (λ scene. test scene >>= chosen (statements first) (λ sc. Ok sc) scene)
    absent_acts t ended now al has =
        let all = al.alike.ops ∙ aimed_behind a r v gd.es gd.some gd.ops gd.texts gd.queries branch_grown in
        let more = same_more v t al.alike.texts al.alike.queries in
        let le_v = long in
        let le_u = short in
        let some = block_count a r v gd.es gd.some gd.ops gd.texts gd.queries branch_grown in
        let grown = aims_grown a r v gd.es gd.some gd.ops gd.texts gd.queries branch_grown t (length v.ops) [] all more in
        let count = aims_count a r v gd.es gd.some gd.ops gd.texts gd.queries branch_grown t (length v.ops) [] all more in
        let same_count : length t.ops ≡ length v.ops = omega (arith, count) in
        let there = aims_there a r v gd.es gd.some gd.ops gd.texts gd.queries branch_grown t (length v.ops) [] all more code (omega (arith, some)) gd.opens has in
        let has_v = aims_has a r v gd.es gd.some gd.ops gd.texts gd.queries branch_grown t (length v.ops) [] all more code gd.opens has in
        let block = own has_v in
        let m = tests (has_before code a t grown has) in
        let names_are : IsTidy s.scope → t.scope.names ≡ r.scope.names = λ tidy. al.names ∙ names_twice r.scope u.scope v.scope m.moves (block.moves (tidy_inner t grown m block tidy)) in
        let keeps : IsTidy s.scope → Keeps r.scope.kinds t.scope.kinds =
        λ tidy. met_keeps r.scope.kinds r.scope.kinds w.scope.kinds t.scope.kinds ended (λ i taken. taken) (twice_left r.scope u.scope v.scope m.moves (block.moves (tidy_inner t grown m block tidy))).keeps al.kinds in
        record {
          grown = grown_on s a t m.grown grown;
          clean = gd.adds.clean gd.clean_behind;
          tidy = λ tidy. behind_tidy t grown m block tidy (names_are tidy) (keeps tidy);
          moves = λ tidy. behind_moves t grown m block tidy (names_are tidy) (keeps tidy);
          gets = λ tidy st scene c here.
              branches_get t grown m block (length v.ops) (λ sc. Ok sc) there (has_before code u v g has_v) (omega (arith, le_u, le_v)) (omega (arith, same_count)) (omega (arith, le_v, same_count))
              (λ sc after size got. placed_as (length v.ops) (length t.ops) r.scope.names t.scope.names (left sc (statements first after)) (sym same_count) (sym (names_are tidy)) (first_left t grown m block tidy sc after size got))
              (λ sc next c' is. placed_as (length v.ops) (length t.ops) r.scope.names t.scope.names (Ok sc) (sym same_count) (sym (names_are tidy)) (gets_none code start (IsScene (length v.ops) r.scope.names) sc (length v.ops) next c' is))
              tidy st scene c here;
        }

    -- ---- with `else`

    module _ (b : BlockTree) (t : Buffer) (now : Bool) (has : Has code t) where
      -- the second block, where its names are forgotten
      second_gets : (x y : Buffer) → Acts code start x y (statements b) → IsTidy x.scope → (scene : Scene) (st : State) → Comes code start (length x.ops) (Ok st) → IsScene (length x.ops) x.scope.names scene st
          → GetsAt (length y.ops) x.scope.names (left scene (statements b scene))
      second_gets x y block tidy scene st c is =
          let moves = block.moves tidy in
          left_gets code start x.scope.names moves.more (length y.ops) scene (statements b scene) (held_count st.0.locals x.scope.names scene.names is.held)
          (subst (λ ns. GetsAt (length y.ops) ns (statements b scene)) moves.names (block.gets tidy st scene c is))

      ended_acts : (el : ElseEnded schema part loops (mark_of r.scope) (length a.ops) (length gd.es) b w t now) → block_ends first ≡ true → Grown el.inner el.end → (Has code el.end → Acts code start el.inner el.end (statements b))
          → Acts code start s t (λ scene. test scene >>= chosen (statements first) (λ sc. left sc (statements b sc)) scene)
      ended_acts el first_ends h second =
          let x = el.inner in
          let y = el.end in
          let all = aimed_before a r v gd.es gd.some gd.ops gd.texts gd.queries branch_grown x y el.begun.ops h in
          let has_y = has_before code y t (grown_none y t el.alike.ops el.alike.texts el.alike.queries) has in
          let more_y = more_after v x y y el.begun.texts el.begun.queries h refl refl in
          let more = more_after v x y t el.begun.texts el.begun.queries h el.alike.texts el.alike.queries in
          let le_v = long in
          let le_u = short in
          let some = block_count a r v gd.es gd.some gd.ops gd.texts gd.queries branch_grown in
          let grown = aims_grown a r v gd.es gd.some gd.ops gd.texts gd.queries branch_grown t (length v.ops) h.ops (el.alike.ops ∙ all) more in
          let count = aims_count a r v gd.es gd.some gd.ops gd.texts gd.queries branch_grown t (length v.ops) h.ops (el.alike.ops ∙ all) more in
          let begin_is = el.begun.ops ∙ aimed_behind a r v gd.es gd.some gd.ops gd.texts gd.queries branch_grown in
          let begin = aims_count a r v gd.es gd.some gd.ops gd.texts gd.queries branch_grown x (length v.ops) [] begin_is (same_more v x el.begun.texts el.begun.queries) in
          let begin_count : length v.ops ≡ length x.ops = omega (arith, begin) in
          let end_is : length t.ops ≡ length y.ops = ap length el.alike.ops in
          let there = aims_there a r v gd.es gd.some gd.ops gd.texts gd.queries branch_grown y (length v.ops) h.ops all more_y code (omega (arith, some)) gd.opens has_y in
          let has_v = aims_has a r v gd.es gd.some gd.ops gd.texts gd.queries branch_grown y (length v.ops) h.ops all more_y code gd.opens has_y in
          let block = own has_v in
          let other = second has_y in
          let m = tests (has_before code a t grown has) in
          let in_names : IsTidy s.scope → x.scope.names ≡ r.scope.names = λ tidy. el.names ∙ names_twice r.scope u.scope v.scope m.moves (block.moves (tidy_inner t grown m block tidy)) in
          let in_keeps : Keeps r.scope.kinds x.scope.kinds = λ i taken. subst (λ ks. is_free (kind_at ks i) ≡ false) (sym el.kinds) taken in
          let in_tidy : IsTidy s.scope → IsTidy x.scope = λ tidy. tidy_kept r.scope x.scope (in_names tidy) in_keeps (tidy_before t grown m block tidy) in
          let names_are : IsTidy s.scope → t.scope.names ≡ x.scope.names = λ tidy. el.names_after ∙ names_left x.scope y.scope (other.moves (in_tidy tidy)) in
          let keeps : IsTidy s.scope → Keeps r.scope.kinds t.scope.kinds =
          λ tidy. either_keeps r.scope.kinds w.scope.kinds (back_to (mark_of x.scope) y.scope).kinds t.scope.kinds now (twice_left r.scope u.scope v.scope m.moves (block.moves (tidy_inner t grown m block tidy))).keeps
          (λ i taken. (moves_left x.scope y.scope (other.moves (in_tidy tidy))).keeps i (in_keeps i taken)) el.kinds_after in
          record {
            grown = grown_on s a t m.grown grown;
            clean = gd.adds.clean gd.clean_behind;
            tidy = λ tidy. behind_tidy t grown m block tidy (names_are tidy ∙ in_names tidy) (keeps tidy);
            moves = λ tidy. behind_moves t grown m block tidy (names_are tidy ∙ in_names tidy) (keeps tidy);
            gets = λ tidy st scene c here.
                branches_get t grown m block (length v.ops) (λ sc. left sc (statements b sc)) there (has_before code u v g has_v) (omega (arith, le_u, le_v)) (omega (arith, count)) (omega (arith, le_v, count))
                (λ sc after size got.
                never_gets code start (IsScene (length v.ops) v.scope.names) (IsScene (length t.ops) t.scope.names) (length v.ops) (length t.ops) (statements first after) (λ q. Ok (record { names = take (length sc.names) q.names; board = q.board })) (omega (arith, count)) (block_never first after first_ends) got)
                (λ sc next c' is.
                placed_as (length y.ops) (length t.ops) x.scope.names t.scope.names (left sc (statements b sc)) (sym end_is) (sym (names_are tidy))
                (second_gets x y other (in_tidy tidy) sc next (subst (λ n. Comes code start n (Ok next)) begin_count c')
                (subst (λ n. IsScene n x.scope.names sc next) begin_count (subst (λ ns. IsScene (length v.ops) ns sc next) (sym (in_names tidy)) is))))
                tidy st scene c here;
          }

      on_acts : (el : ElseOn schema part loops (mark_of r.scope) (length a.ops) (length gd.es) b w t now) → Grown el.inner el.end → (Has code el.end → Acts code start el.inner el.end (statements b)) → Acts code start s t (λ scene. test scene >>= chosen (statements first) (λ sc. left sc (statements b sc)) scene)
      on_acts el h second =
          let x = el.inner in
          let y = el.end in
          let begin_is = open_is a r v gd.es gd.some gd.ops gd.texts gd.queries branch_grown x y t el.begun.ops h el.alike.ops in
          let all = closed_is a r v gd.es gd.some gd.ops gd.texts gd.queries branch_grown x y t el.begun.ops h el.alike.ops in
          let jumped = jump_count a r v gd.es gd.some gd.ops gd.texts gd.queries branch_grown x y t el.begun.ops h el.alike.ops in
          let end_is = end_count a r v gd.es gd.some gd.ops gd.texts gd.queries branch_grown x y t el.begun.ops h el.alike.ops in
          let has_y = open_has a r v gd.es gd.some gd.ops gd.texts gd.queries branch_grown x y t el.begun.ops h el.alike.ops code (same_more y t el.alike.texts el.alike.queries) has in
          let jump = jump_there a r v gd.es gd.some gd.ops gd.texts gd.queries branch_grown x y t el.begun.ops h el.alike.ops code has in
          let more_y = more_after v x y y el.begun.texts el.begun.queries h refl refl in
          let more = more_after v x y t el.begun.texts el.begun.queries h el.alike.texts el.alike.queries in
          let le_v = long in
          let le_u = short in
          let rest = count_of x y h in
          let grown = aims_grown a r v gd.es gd.some gd.ops gd.texts gd.queries branch_grown t (length x.ops) (ops.Jump (length y.ops) ∷ h.ops) all more in
          let there = aims_there a r v gd.es gd.some gd.ops gd.texts gd.queries branch_grown t (length x.ops) (ops.Jump (length y.ops) ∷ h.ops) all more code (omega (arith, jumped)) gd.opens has in
          let has_v = aims_has a r v gd.es gd.some gd.ops gd.texts gd.queries branch_grown y (length x.ops) (ops.Jump 0 ∷ h.ops) begin_is more_y code gd.opens has_y in
          let block = own has_v in
          let other = second has_y in
          let m = tests (has_before code a t grown has) in
          let in_names : IsTidy s.scope → x.scope.names ≡ r.scope.names = λ tidy. el.names ∙ names_twice r.scope u.scope v.scope m.moves (block.moves (tidy_inner t grown m block tidy)) in
          let in_keeps : Keeps r.scope.kinds x.scope.kinds = λ i taken. subst (λ ks. is_free (kind_at ks i) ≡ false) (sym el.kinds) taken in
          let in_tidy : IsTidy s.scope → IsTidy x.scope = λ tidy. tidy_kept r.scope x.scope (in_names tidy) in_keeps (tidy_before t grown m block tidy) in
          let names_are : IsTidy s.scope → t.scope.names ≡ x.scope.names = λ tidy. el.names_after ∙ names_left x.scope y.scope (other.moves (in_tidy tidy)) in
          let keeps : IsTidy s.scope → Keeps r.scope.kinds t.scope.kinds =
          λ tidy. met_keeps r.scope.kinds w.scope.kinds (back_to (mark_of x.scope) y.scope).kinds t.scope.kinds el.ended (twice_left r.scope u.scope v.scope m.moves (block.moves (tidy_inner t grown m block tidy))).keeps
          (λ i taken. (moves_left x.scope y.scope (other.moves (in_tidy tidy))).keeps i (in_keeps i taken)) el.kinds_after in
          record {
            grown = grown_on s a t m.grown grown;
            clean = gd.adds.clean gd.clean_behind;
            tidy = λ tidy. behind_tidy t grown m block tidy (names_are tidy ∙ in_names tidy) (keeps tidy);
            moves = λ tidy. behind_moves t grown m block tidy (names_are tidy ∙ in_names tidy) (keeps tidy);
            gets = λ tidy st scene c here.
                branches_get t grown m block (length x.ops) (λ sc. left sc (statements b sc)) there (has_before code u v g has_v) (omega (arith, le_u, le_v, jumped)) (omega (arith, end_is, rest)) (omega (arith, le_v, jumped, end_is, rest))
                (λ sc after size got.
                placed_as (length y.ops) (length t.ops) r.scope.names t.scope.names (left sc (statements first after)) (sym end_is) (sym (names_are tidy ∙ in_names tidy))
                (jump_gets code start r.scope.names (length v.ops) (length y.ops) (left sc (statements first after)) (omega (arith, jumped, rest)) jump (first_left t grown m block tidy sc after size got)))
                (λ sc next c' is.
                placed_as (length y.ops) (length t.ops) x.scope.names t.scope.names (left sc (statements b sc)) (sym end_is) (sym (names_are tidy))
                (second_gets x y other (in_tidy tidy) sc next c' (subst (λ ns. IsScene (length x.ops) ns sc next) (sym (in_names tidy)) is)))
                tidy st scene c here;
          }

    -- by whether the first block ended
    else_acts : (b : BlockTree) (t : Buffer) (now : Bool) → Has code t → (ended : Bool) → ended ≡ block_ends first → (T : (d : Bool) (x y : Buffer) → statements_code schema part loops false b x ≡ Ok (d, y) → Type 0)
        → ((d : Bool) (x y : Buffer) → Clean x → (is : statements_code schema part loops false b x ≡ Ok (d, y)) → T d x y is → Has code y → Acts code start x y (statements b))
        → ((d : Bool) (x y : Buffer) → statements_code schema part loops false b x ≡ Ok (d, y) → Grown x y) → Clean v
        → (sides : ((ended ≡ true) × ElseEnded schema part loops (mark_of r.scope) (length a.ops) (length gd.es) b w t now) ⊎ ((ended ≡ false) × ElseOn schema part loops (mark_of r.scope) (length a.ops) (length gd.es) b w t now))
        → InEither schema part loops (mark_of r.scope) (length a.ops) (length gd.es) b ended w t now T sides → Acts code start s t (λ scene. test scene >>= chosen (statements first) (λ sc. left sc (statements b sc)) scene)
    else_acts b t now has ended ends_so T second more clean (inl (e, el)) told =
        ended_acts b t now has el (sym ends_so ∙ e) (more now el.inner el.end el.block_is) (second now el.inner el.end (el.begun.flaw ∙ clean) el.block_is told)
    else_acts b t now has ended ends_so T second more clean (inr (e, el)) told =
        on_acts b t now has el (more el.ended el.inner el.end el.block_is) (second el.ended el.inner el.end (el.begun.flaw ∙ clean) el.block_is told)

  -- ---- statements, one after another

  pub acts_on : (s t u : Buffer) (f f' : Scene → Meaning Scene) → Acts code start s t f → Acts code start t u f' → Acts code start s u (λ scene. f scene >>= f')
  acts_on s t u f f' first then = record {
    grown = grown_on s t u first.grown then.grown;
    clean = first.clean;
    tidy = λ tidy. then.tidy (first.tidy tidy);
    moves = λ tidy. moves_on s.scope t.scope u.scope (first.moves tidy) (then.moves (first.tidy tidy));
    gets = λ tidy st scene c here.
        part_gets code start t u (IsScene (length t.ops) t.scope.names) (IsScene (length u.ops) u.scope.names) (f scene) f' then.grown (first.gets tidy st scene c here)
        (λ after next there is. then.gets (first.tidy tidy) next after there is);
  }

  pub acts_none : (s t : Buffer) → s ≡ t → Clean s → Acts code start s t (λ scene. Ok scene)
  acts_none s t same clean =
      subst (λ u. Acts code start s u (λ scene. Ok scene)) same
      (record {
        grown = grown_none s s refl refl refl;
        clean = clean;
        tidy = λ tidy. tidy;
        moves = λ tidy. moves_same s.scope s.scope refl;
        gets = λ tidy st scene c here. gets_none code start (IsScene (length s.ops) s.scope.names) scene (length s.ops) st c here;
      })

  -- an equal meaning
  pub acts_same : (s t : Buffer) (f f' : Scene → Meaning Scene) → ((scene : Scene) → f scene ≡ f' scene) → Acts code start s t f → Acts code start s t f'
  acts_same s t f f' same acts = record {
    grown = acts.grown;
    clean = acts.clean;
    tidy = acts.tidy;
    moves = acts.moves;
    gets = λ tidy st scene c here. subst (GetsAt (length t.ops) t.scope.names) (same scene) (acts.gets tidy st scene c here);
  }

  -- a test and the blocks after it
  module _ (test : Scene → Meaning (Option Scene)) (first : BlockTree) (loops : ℕ) (s t : Buffer) (now : Bool) where
    pub one_does : (br : Branches schema part loops first absent s t now) → (Has code br.guard.behind → Tests code start s br.inner br.exits br.guard test) → Grown br.inner br.blocks.end → (Has code br.blocks.end → Acts code start br.inner br.blocks.end (statements first)) → Has code t
        → Acts code start s t (λ scene. test scene >>= chosen (statements first) (λ sc. Ok sc) scene)
    one_does br tests g own has = absent_acts test first loops s br.inner br.blocks.end br.exits br.guard g tests own t br.blocks.ended now (branches_absent schema part loops first s t now br) has

    pub both_do : (b : BlockTree) → (br : Branches schema part loops first (otherwise b) s t now) → (Has code br.guard.behind → Tests code start s br.inner br.exits br.guard test) → (Has code br.blocks.end → Acts code start br.inner br.blocks.end (statements first))
        → (T : (d : Bool) (x y : Buffer) → statements_code schema part loops false b x ≡ Ok (d, y) → Type 0) → InOther schema part loops first b s t now br T
        → ((d : Bool) (x y : Buffer) → Clean x → (is : statements_code schema part loops false b x ≡ Ok (d, y)) → T d x y is → Has code y → Acts code start x y (statements b))
        → ((d : Bool) (x y : Buffer) → statements_code schema part loops false b x ≡ Ok (d, y) → Grown x y) → Has code t → Acts code start s t (λ scene. test scene >>= chosen (statements first) (λ sc. left sc (statements b sc)) scene)
    both_do b br tests own T told second more has =
        let blocks = br.blocks in
        let g = block_grown schema part first loops false blocks.ended br.inner blocks.end blocks.block_is in
        let clean = block_clean schema part first loops false blocks.ended br.inner blocks.end br.guard.clean blocks.block_is in
        let ends_so = block_now schema part first loops false blocks.ended br.inner blocks.end blocks.block_is in
        else_acts test first loops s br.inner blocks.end br.exits br.guard g tests own b t now has blocks.ended ends_so T second more clean (branches_else schema part loops first b s t now br) told
