-- What the compiler says that a loop's body leaves live is what the body spares of what was live before.
use Rattle.std.proofs.Common.{◌≡◌, ◌⊎◌, inl, inr, ℕ, zero, suc, ◌+◌, ◌-◌, ◌≤◌, Bool, true, false, cond, ◌&&◌, not, List, [], ◌∷◌, ◌++◌, length, map, Option, Some, None, refl, subst, sym, ap, ◌∙◌, arith}
use Rattle.std.specs.Prelude.{set, find, option_map}
use Rattle.std.specs.Option.{option_map_or}
use Rattle.std.specs.Str.{bytes_eq}
use Rattle.std.proofs.lemmas.List.{length-set, length-map}
use Rattle.bb_schema.specs.Schema.{Schema, class_named}
use Rattle.bb_code.specs.declared.frame.Kind.{Kind}
use Rattle.bb_code.specs.declared.frame.Kind.TheVariants as kinds
use Rattle.bb_verify_effect.specs.Kinds.{struck}
use Rattle.bb_lang.specs.Action.{Action}
use Rattle.bb_lang.specs.Action.TheVariants as actions
use Rattle.bb_lang.specs.Blocks.{BlockTree, StatementTree, OtherwiseTree, no_statement, before_others, action, if_of, with_of, for_of, absent, otherwise}
use Rattle.bb_compile_scope.specs.Kinds.{class_of, is_live}
use Rattle.bb_compile_scope.specs.Killed.{declared, unit_class, value_class, sequence_class, bound_name, bound_class, with_old, killed_name, struck_units, killed_action, after_block, killed_statement, killed_otherwise, killed_statements, killed_under}
use Rattle.bb_compile_scope.specs.LocalKinds.{is_free, kind_at}
use Rattle.bb_compile_scope.specs.Scope.{name_of, local_of}
use Rattle.bb_compile_scope.specs.declared.scope.NamedLocal.{NamedLocal}
use Rattle.bb_compile_scope.specs.declared.scope.Scope.{Scope}
use Rattle.bb_compile_scope.proofs.Laws.{struck_at, frees}
use Rattle.bb_theorem_accepted.proofs.kinds.KnowLemmas.{aged, free_aged}
use Rattle.bb_theorem_accepted.proofs.kinds.MoveLemmas.{Sole, struck_aged}
use Rattle.bb_theorem_accepted.proofs.sparing.ScopeLemmas.{onto_level, Levels, level_same, level_left, level_frees, level_on, level_twice}
use Rattle.bb_theorem_accepted.proofs.sparing.SpareLemmas.{Shape, shape, class_in, class_at, is_first, is_struck, bound_in, sequence_in, added_by, action_spares, statement_spares, other_spares, block_spares, adds, statement_fits, other_fits, block_fits, block_more, first_is}
use Rattle.bb_theorem_accepted.proofs.sparing.ShapeLemmas.{of, All, spares_on, reveals_on, spares_left, reveals_left, shaped_level, spares_twice, reveals_twice, spares_assigned, reveals_assigned, spares_struck, reveals_struck}
use Rattle.bb_theorem_accepted.proofs.sparing.KilledLemmas.{old_aged, declared_walks, statement_walks, block_walks, value_is, bound_is, sequence_is, class_of_name, Kills, KillsOne, kills_same, declared_kills, kills_level}

-- ---- assignment

-- a text that names nothing is that of no name
none_first : (ks : List Kind) (ns : List NamedLocal) (name : List ℕ) (j : ℕ) → option_map (λ (n : NamedLocal). n.local) (find (λ (n : NamedLocal). bytes_eq n.name name) ns) ≡ None → is_first (shape ks ns) name j ≡ false
none_first ks [] name j none = refl
none_first ks (n ∷ ns) name zero none = by_name (bytes_eq n.name name) none
  where
    by_name : (b : Bool) → option_map (λ (n : NamedLocal). n.local) (cond b (Some n) (find (λ (n : NamedLocal). bytes_eq n.name name) ns)) ≡ None → b ≡ false
    by_name true none = absurd cc
    by_name false none = refl
none_first ks (n ∷ ns) name (suc j) none = by_name (none_first ks ns name j) (bytes_eq n.name name) none
  where
    by_name : (option_map (λ (n : NamedLocal). n.local) (find (λ (n : NamedLocal). bytes_eq n.name name) ns) ≡ None → is_first (shape ks ns) name j ≡ false)
        → (b : Bool) → option_map (λ (n : NamedLocal). n.local) (cond b (Some n) (find (λ (n : NamedLocal). bytes_eq n.name name) ns)) ≡ None → cond b false (is_first (shape ks ns) name j) ≡ false
    by_name rest true none = absurd cc
    by_name rest false none = rest none

live_class : (k : Kind) → is_live k ≡ true → class_of k ≡ None → ⊥
live_class (kinds.Ref c) live none = absurd cc
live_class _ live none = absurd cc

is_not : (b : Bool) → b ≡ false → not b ≡ true
is_not b h = rw h refl

module _ (a : Scope) (name : List ℕ) (sole : Sole a.kinds a.names) where
  abbrev unnamed : ℕ → Bool
  unnamed j = not (is_first (of a) name j)

  -- the name holds no unit
  plain_kills : (local : ℕ) → local_of a name ≡ Some local → class_of (kind_at a.kinds local) ≡ None → Kills a a unnamed
  plain_kills local named none = record { spares = λ j n at live spared. live; reveals = λ j n at live. (live, by_name j n live (first_is a.kinds a.names name local j n sole named at)) }
    where
      by_name : (j : ℕ) (n : NamedLocal) → is_live (kind_at a.kinds n.local) ≡ true → ((is_first (of a) name j ≡ true) × (n.local ≡ local)) ⊎ ((is_first (of a) name j ≡ false) × (n.local ≡ local → ⊥)) → not (is_first (of a) name j) ≡ true
      by_name j n live (inl own) = absurd (live_class (kind_at a.kinds n.local) live (ap (λ i. class_of (kind_at a.kinds i)) own.1 ∙ none))
      by_name j n live (inr other) = is_not (is_first (of a) name j) other.0

  assign_kills : Kills a (killed_name name a) unnamed
  unfolding killed_name
  assign_kills = by_local (local_of a name) refl
    where
      by_class : (local : ℕ) (o : Option ℕ) → local_of a name ≡ Some local → class_of (kind_at a.kinds local) ≡ o → Kills a (with_old local o a) unnamed
      by_class local None named is = plain_kills local named is
      by_class local (Some c) named is =
          let b : Scope = record { names = a.names; kinds = set a.kinds local (kinds.Old c) } in
          record { spares = spares_assigned a b name local (kinds.Old c) sole named refl; reveals = reveals_assigned a b name local (kinds.Old c) sole named refl refl }

      by_local : (o : Option ℕ) → local_of a name ≡ o → Kills a (option_map_or (λ local. with_old local (class_of (kind_at a.kinds local)) a) o a) unnamed
      by_local None named = kills_same a unnamed (λ j. is_not (is_first (of a) name j) (none_first a.kinds a.names name j named))
      by_local (Some local) named = by_class local (class_of (kind_at a.kinds local)) named refl

-- ---- statements without blocks

-- the same names, and kinds that are the same but for units that may be deleted
pub level_aged : (a b : Scope) → b.names ≡ a.names → length b.kinds ≡ length a.kinds → ((i : ℕ) → aged (kind_at a.kinds i) ≡ aged (kind_at b.kinds i)) → Levels a b
level_aged a b names count same = record {
  names = names;
  agree = λ i taken. same i;
  count = count;
  free = λ i. sym (free_aged (kind_at b.kinds i)) ∙ (ap is_free (sym (same i)) ∙ free_aged (kind_at a.kinds i));
}

old_level : (local : ℕ) (o : Option ℕ) (a : Scope) → class_of (kind_at a.kinds local) ≡ o → Levels a (with_old local o a)
old_level local None a is = level_same a a refl refl
old_level local (Some c) a is = level_aged a (record { names = a.names; kinds = set a.kinds local (kinds.Old c) }) refl (length-set a.kinds local (kinds.Old c)) (λ i. old_aged a.kinds local c i is)

name_level : (name : List ℕ) (a : Scope) → Levels a (killed_name name a)
unfolding killed_name
name_level name a = by_local (local_of a name)
  where
    by_local : (o : Option ℕ) → Levels a (option_map_or (λ local. with_old local (class_of (kind_at a.kinds local)) a) o a)
    by_local None = level_same a a refl refl
    by_local (Some local) = old_level local (class_of (kind_at a.kinds local)) a refl

struck_level : (s : Schema) (o : Option ℕ) (a : Scope) → Levels a (struck_units s o a)
struck_level s None a = level_same a a refl refl
struck_level s (Some c) a =
    level_aged a (record { names = a.names; kinds = map (struck s c) a.kinds }) refl (length-map a.kinds (struck s c)) (λ i. sym (ap aged (struck_at s c a.kinds i) ∙ struck_aged s c (kind_at a.kinds i)))

module _ (s : Schema) where
  struck_kills : (o : Option ℕ) (a : Scope) → Kills a (struck_units s o a) (λ j. not (is_struck s o (class_at (of a) j)))
  struck_kills None a = kills_same a (λ j. not (is_struck s None (class_at (of a) j))) (λ j. refl)
  struck_kills (Some c) a =
      let b : Scope = record { names = a.names; kinds = map (struck s c) a.kinds } in
      record { spares = spares_struck s a b c refl; reveals = reveals_struck s a b c refl }

  -- nothing is done to the scope
  none_kills : (a : Scope) (p : ℕ → Bool) → Sole a.kinds a.names → ((j : ℕ) → p j ≡ true) → KillsOne a a [] p
  none_kills a p sole all = kills_level a a p sole (level_same a a refl refl) (kills_same a p all)

  action_kills : (x : Action) (a : Scope) → Sole a.kinds a.names → adds (action x) ≤ frees a.kinds → KillsOne a (killed_action s a x) (added_by s (of a) (action x)) (action_spares s (of a) x)
  unfolding killed_action
  action_kills (actions.Let name value) a sole fits = subst (λ c. KillsOne a (declared name (value_class a value) a) ((name, c) ∷ []) All) (value_is a value) (declared_kills name (value_class a value) a sole fits)
  action_kills (actions.New name class) a sole fits = declared_kills name (class_named s class) a sole fits
  action_kills (actions.Assign name value) a sole fits = kills_level a (killed_name name a) (λ j. not (is_first (of a) name j)) sole (name_level name a) (assign_kills a name sole)
  action_kills (actions.Delete unit) a sole fits =
      kills_level a (struck_units s (unit_class a unit) a) (λ j. not (is_struck s (class_in (of a) (name_of unit)) (class_at (of a) j))) sole (struck_level s (unit_class a unit) a)
      (subst (λ o. Kills a (struck_units s (unit_class a unit) a) (λ j. not (is_struck s o (class_at (of a) j)))) (class_of_name a unit) (struck_kills (unit_class a unit) a))
  action_kills (actions.Rate value) a sole fits = none_kills a (action_spares s (of a) (actions.Rate value)) sole (λ j. refl)
  action_kills actions.Decline a sole fits = none_kills a (action_spares s (of a) actions.Decline) sole (λ j. refl)
  action_kills (actions.Answer value) a sole fits = none_kills a (action_spares s (of a) (actions.Answer value)) sole (λ j. refl)
  action_kills (actions.Set unit slot value) a sole fits = none_kills a (action_spares s (of a) (actions.Set unit slot value)) sole (λ j. refl)
  action_kills (actions.Link unit slot other) a sole fits = none_kills a (action_spares s (of a) (actions.Link unit slot other)) sole (λ j. refl)
  action_kills (actions.Unlink unit slot other) a sole fits = none_kills a (action_spares s (of a) (actions.Unlink unit slot other)) sole (λ j. refl)
  action_kills (actions.Enter unit space) a sole fits = none_kills a (action_spares s (of a) (actions.Enter unit space)) sole (λ j. refl)
  action_kills (actions.Leave unit space) a sole fits = none_kills a (action_spares s (of a) (actions.Leave unit space)) sole (λ j. refl)
  action_kills (actions.Say values) a sole fits = none_kills a (action_spares s (of a) (actions.Say values)) sole (λ j. refl)

  -- ---- all statements

  pub added_count : (S : Shape) (x : StatementTree) → length (added_by s S x) ≡ adds x
  added_count S (action (actions.Let name value)) = refl
  added_count S (action (actions.New name class)) = refl
  added_count S (action (actions.Assign name value)) = refl
  added_count S (action (actions.Delete unit)) = refl
  added_count S (action (actions.Rate value)) = refl
  added_count S (action actions.Decline) = refl
  added_count S (action (actions.Answer value)) = refl
  added_count S (action (actions.Set unit slot value)) = refl
  added_count S (action (actions.Link unit slot other)) = refl
  added_count S (action (actions.Unlink unit slot other)) = refl
  added_count S (action (actions.Enter unit space)) = refl
  added_count S (action (actions.Leave unit space)) = refl
  added_count S (action (actions.Say values)) = refl
  added_count S (if_of test then other) = refl
  added_count S (with_of binding then other) = refl
  added_count S (for_of name sequence body) = refl

  other_level : (o : OtherwiseTree) (a : Scope) → Levels a (killed_otherwise s a o)
  unfolding killed_otherwise
  other_level absent a = level_same a a refl refl
  other_level (otherwise b) a = level_left a (killed_statements s a b) (block_walks s b a).0

  -- a block with a name of its own
  module _ (name : List ℕ) (class found : Option ℕ) (same : class ≡ found) (a : Scope) (sole : Sole a.kinds a.names) (some : 1 ≤ frees a.kinds) (b : BlockTree)
      (own : Sole (declared name class a).kinds (declared name class a).names → frees (declared name class a).kinds + 1 ≡ frees a.kinds → Kills (declared name class a) (killed_statements s (declared name class a) b) (block_spares s (of (declared name class a)) b)) where
    abbrev named : Scope
    named = declared name class a

    abbrev behind : Scope
    behind = after_block a (after_block named (killed_statements s named b))

    under_kills : Kills a behind (block_spares s (of a ++ (name, found) ∷ []) b)
    under_kills =
        let first = declared_kills name class a sole some in
        let onto = (declared_walks name class a).0 in
        let all = own (onto.sole sole) first.frees in
        subst (λ S. Kills a behind (block_spares s S b)) (first.shaped ∙ ap (λ c. of a ++ (name, c) ∷ []) same)
        (record {
          spares = spares_twice a named (killed_statements s named b) (block_spares s (of named) b) onto sole first.kills.spares all.spares;
          reveals = reveals_twice a named (killed_statements s named b) (block_spares s (of named) b) onto sole first.kills.reveals all.reveals;
        })

    under_level : Levels a behind
    under_level = level_twice a named (killed_statements s named b) (declared_walks name class a).0 (block_walks s b named).0

  -- one after another, where the first leaves the scope level
  kills_on : (a b c : Scope) (p : ℕ → Bool) (q : Shape → ℕ → Bool) → Sole a.kinds a.names → Levels a b → Levels b c → Kills a b p → Kills b c (q (of b)) → KillsOne a c [] (λ j. p j && q (of a) j)
  kills_on a b c p q sole lb lc one two =
      let then = subst (λ S. Kills b c (q S)) (shaped_level a b lb sole) two in
      kills_level a c (λ j. p j && q (of a) j) sole (level_on a b c lb lc)
      (record { spares = spares_on a b c p (q (of a)) (onto_level a b lb) one.spares then.spares; reveals = reveals_on a b c p (q (of a)) (onto_level a b lb) one.reveals then.reveals })

  mutual
    unfolding killed_statement killed_otherwise killed_statements statement_spares other_spares block_spares statement_fits other_fits block_fits

    pub statement_kills : (x : StatementTree) (a : Scope) → Sole a.kinds a.names → statement_fits x (frees a.kinds) → KillsOne a (killed_statement s a x) (added_by s (of a) x) (statement_spares s (of a) x)
    statement_kills (action x) a sole fits = action_kills x a sole fits
    statement_kills (if_of test then other) a sole fits =
        let c = killed_statements s a then in
        let b = after_block a c in
        let one = block_kills then a sole fits.0 in
        let lb = level_left a c (block_walks s then a).0 in
        let room = level_frees a b lb in
        kills_on a b (killed_otherwise s b other) (block_spares s (of a) then) (λ S. other_spares s S other) sole lb (other_level other b)
        (record { spares = spares_left a c (block_spares s (of a) then) sole one.spares; reveals = reveals_left a c (block_spares s (of a) then) sole one.reveals })
        (other_kills other b ((onto_level a b lb).sole sole) (subst (other_fits other) (sym room) fits.1))
    statement_kills (with_of binding then other) a sole fits =
        let name = bound_name binding in
        let class = bound_class s a binding in
        let inner = declared name class a in
        let b = after_block a (after_block inner (killed_statements s inner then)) in
        let own = (λ (u : Sole inner.kinds inner.names) (e : frees inner.kinds + 1 ≡ frees a.kinds). block_kills then inner u (block_more then (frees a.kinds - 1) (frees inner.kinds) (omega (arith, e)) fits.1)) in
        let one = under_kills name class (bound_in s (of a) binding) (bound_is s a binding) a sole fits.0 then own in
        let lb = under_level name class (bound_in s (of a) binding) (bound_is s a binding) a sole fits.0 then own in
        let room = level_frees a b lb in
        kills_on a b (killed_otherwise s b other) (block_spares s (of a ++ (name, bound_in s (of a) binding) ∷ []) then) (λ S. other_spares s S other) sole lb (other_level other b) one
        (other_kills other b ((onto_level a b lb).sole sole) (subst (other_fits other) (sym room) fits.2))
    statement_kills (for_of name sequence body) a sole fits =
        let class = sequence_class s a sequence in
        let inner = declared name class a in
        let some : 1 ≤ frees a.kinds = (let two = fits.0 in omega (arith, two)) in
        let own = (λ (u : Sole inner.kinds inner.names) (e : frees inner.kinds + 1 ≡ frees a.kinds). block_kills body inner u (block_more body (frees a.kinds - 2) (frees inner.kinds) (omega (arith, e)) fits.1)) in
        let one = under_kills name class (sequence_in s (of a) sequence) (sequence_is s a sequence) a sole some body own in
        let lb = under_level name class (sequence_in s (of a) sequence) (sequence_is s a sequence) a sole some body own in
        kills_level a (after_block a (after_block inner (killed_statements s inner body))) (block_spares s (of a ++ (name, sequence_in s (of a) sequence) ∷ []) body) sole lb one

    other_kills : (o : OtherwiseTree) (a : Scope) → Sole a.kinds a.names → other_fits o (frees a.kinds) → Kills a (killed_otherwise s a o) (other_spares s (of a) o)
    other_kills absent a sole fits = kills_same a (other_spares s (of a) absent) (λ j. refl)
    other_kills (otherwise b) a sole fits =
        let one = block_kills b a sole fits in
        record { spares = spares_left a (killed_statements s a b) (block_spares s (of a) b) sole one.spares; reveals = reveals_left a (killed_statements s a b) (block_spares s (of a) b) sole one.reveals }

    pub block_kills : (b : BlockTree) (a : Scope) → Sole a.kinds a.names → block_fits b (frees a.kinds) → Kills a (killed_statements s a b) (block_spares s (of a) b)
    block_kills no_statement a sole fits = kills_same a (block_spares s (of a) no_statement) (λ j. refl)
    block_kills (before_others place x others) a sole fits =
        let b = killed_statement s a x in
        let c = killed_statements s b others in
        let one = statement_kills x a sole fits.0 in
        let onto = (statement_walks s x a).0 in
        let count = added_count (of a) x in
        let room = one.frees in
        let two = block_kills others b (onto.sole sole) (block_more others (frees a.kinds - adds x) (frees b.kinds) (omega (arith, count, room)) fits.1) in
        let then = subst (λ S. Kills b c (block_spares s S others)) one.shaped two in
        record {
          spares = spares_on a b c (statement_spares s (of a) x) (block_spares s (of a ++ added_by s (of a) x) others) onto one.kills.spares then.spares;
          reveals = reveals_on a b c (statement_spares s (of a) x) (block_spares s (of a ++ added_by s (of a) x) others) onto one.kills.reveals then.reveals;
        }

  -- what a loop leaves live
  pub loop_kills : (a : Scope) (name : List ℕ) (class : Option ℕ) (body : BlockTree) → Sole a.kinds a.names → 1 ≤ frees a.kinds → block_fits body (frees a.kinds - 1) → Kills a (killed_under s a name class body) (block_spares s (of a ++ (name, class) ∷ []) body)
  loop_kills a name class body sole some fits =
      let inner = declared name class a in
      under_kills name class class refl a sole some body (λ u e. block_kills body inner u (block_more body (frees a.kinds - 1) (frees inner.kinds) (omega (arith, e)) fits))
