-- Scopes in which each name has a local of its own, and what comes of them: the names with what they hold are those
-- that the judgement says.
use Rattle.std.proofs.Common.{◌≡◌, ℕ, zero, suc, ◌<◌, Bool, true, false, cond, List, [], ◌∷◌, ◌++◌, length, map, Some, refl, subst, sym, ap, ◌∙◌, append_assoc}
use Rattle.std.specs.Prelude.{set, take, position, find, option_map}
use Rattle.std.specs.Str.{bytes_eq}
use Rattle.std.proofs.Math.Seq.{take-append_seam}
use Rattle.std.proofs.lemmas.List.{append-nil, length-set}
use Rattle.bb_basis.proofs.PositionLemmas.{position_within}
use Rattle.bb_code.specs.declared.frame.Kind.{Kind}
use Rattle.bb_code.specs.declared.frame.Kind.TheVariants as kinds
use Rattle.bb_verify_effect.specs.Kinds.{struck}
use Rattle.bb_schema.specs.Schema.{Schema}
use Rattle.bb_compile_scope.specs.LocalKinds.{is_free, kind_at, left_kind, kinds_left, met_kind, kinds_met}
use Rattle.bb_compile_scope.specs.Scope.{local_of, mark_of, back_to}
use Rattle.bb_compile_scope.specs.declared.scope.NamedLocal.{NamedLocal}
use Rattle.bb_compile_scope.specs.declared.scope.Scope.{Scope}
use Rattle.bb_compile_scope.proofs.Laws.{at_same, at_other, free_first, taken_within, frees_same, struck_at, length_paired, frees, met_free}
use Rattle.bb_theorem_grammar.specs.judged.Names.{Named, Names, with_named, held_with, with_kind, struck_name, struck_names, holding, held_met, names_met}
use Rattle.bb_theorem_grammar.specs.judged.Names as judged
use Rattle.bb_theorem_grammar.proofs.judged_lemmas.scopes.LocalLemmas.{frees_fewer, frees_kept, struck_free, length_struck, paired_at}
use Rattle.bb_theorem_grammar.proofs.judged_lemmas.scopes.NameLemmas.{named_in, names_of}

-- ---- tidy scopes

-- each name's local is taken
abbrev pub AllTaken : List Kind → List NamedLocal → Type 0
AllTaken ks [] = Unit {0}
AllTaken ks (n ∷ ns) = (is_free (kind_at ks n.local) ≡ false) × AllTaken ks ns

-- no name has the local
abbrev pub Elsewhere : ℕ → List NamedLocal → Type 0
Elsewhere local [] = Unit {0}
Elsewhere local (n ∷ ns) = (n.local ≡ local → ⊥) × Elsewhere local ns

abbrev pub AreApart : List NamedLocal → Type 0
AreApart [] = Unit {0}
AreApart (n ∷ ns) = Elsewhere n.local ns × AreApart ns

pub record Tidy (a : Scope) : Type 0 where
  pub taken : AllTaken a.kinds a.names
  pub apart : AreApart a.names

abbrev pub Stays : List Kind → List Kind → Type 0
Stays ks ls = (i : ℕ) → is_free (kind_at ks i) ≡ false → is_free (kind_at ls i) ≡ false

taken_on : (ks ls : List Kind) (ns : List NamedLocal) → Stays ks ls → AllTaken ks ns → AllTaken ls ns
taken_on ks ls [] stays all = tt
taken_on ks ls (n ∷ ns) stays all = (stays n.local all.0, taken_on ks ls ns stays all.1)

taken_more : (ks : List Kind) (ns : List NamedLocal) (n : NamedLocal) → is_free (kind_at ks n.local) ≡ false → AllTaken ks ns → AllTaken ks (ns ++ n ∷ [])
taken_more ks [] n held all = (held, tt)
taken_more ks (m ∷ ns) n held all = (all.0, taken_more ks ns n held all.1)

free_elsewhere : (ks : List Kind) (ns : List NamedLocal) (local : ℕ) → is_free (kind_at ks local) ≡ true → AllTaken ks ns → Elsewhere local ns
free_elsewhere ks [] local free all = tt
free_elsewhere ks (n ∷ ns) local free all =
    (λ e. absurd (let no : true ≡ false = sym free ∙ (ap (λ j. is_free (kind_at ks j)) (sym e) ∙ all.0) in cc), free_elsewhere ks ns local free all.1)

elsewhere_more : (local : ℕ) (ns : List NamedLocal) (n : NamedLocal) → (n.local ≡ local → ⊥) → Elsewhere local ns → Elsewhere local (ns ++ n ∷ [])
elsewhere_more local [] n other all = (other, tt)
elsewhere_more local (m ∷ ns) n other all = (all.0, elsewhere_more local ns n other all.1)

apart_more : (ns : List NamedLocal) (n : NamedLocal) → Elsewhere n.local ns → AreApart ns → AreApart (ns ++ n ∷ [])
apart_more [] n other all = (tt, tt)
apart_more (m ∷ ns) n other all = (elsewhere_more m.local ns n (λ e. other.0 (sym e)) all.0, apart_more ns n other.1 all.1)

-- ---- one scope comes of another

pub record Onto (a b : Scope) : Type 0 where
  pub more : List NamedLocal
  pub names : b.names ≡ a.names ++ more
  pub stays : Stays a.kinds b.kinds
  pub count : length b.kinds ≡ length a.kinds
  pub tidy : Tidy b

-- with the same names, and the same locals taken
pub record Levels (a b : Scope) : Type 0 where
  pub names : b.names ≡ a.names
  pub free : (i : ℕ) → is_free (kind_at b.kinds i) ≡ is_free (kind_at a.kinds i)
  pub count : length b.kinds ≡ length a.kinds

pub tidy_on : (a b : Scope) → b.names ≡ a.names → Stays a.kinds b.kinds → Tidy a → Tidy b
tidy_on a b names stays tidy = record {
  taken = subst (AllTaken b.kinds) (sym names) (taken_on a.kinds b.kinds a.names stays tidy.taken);
  apart = subst AreApart (sym names) tidy.apart;
}

pub onto_kept : (a b : Scope) → b.names ≡ a.names → Stays a.kinds b.kinds → length b.kinds ≡ length a.kinds → Tidy a → Onto a b
onto_kept a b names stays count tidy = record {
  more = [];
  names = names ∙ sym (append-nil a.names);
  stays = stays;
  count = count;
  tidy = tidy_on a b names stays tidy;
}

pub onto_same : (a b : Scope) → b ≡ a → Tidy a → Onto a b
onto_same a b same tidy =
    onto_kept a b (ap (λ (c : Scope). c.names) same) (λ i taken. ap (λ (c : Scope). is_free (kind_at c.kinds i)) same ∙ taken) (ap (λ (c : Scope). length c.kinds) same) tidy

pub onto_level : (a b : Scope) → Levels a b → Tidy a → Onto a b
onto_level a b l tidy = onto_kept a b l.names (λ i taken. l.free i ∙ taken) l.count tidy

pub onto_on : (a b c : Scope) → Onto a b → Onto b c → Onto a c
onto_on a b c first second = record {
  more = first.more ++ second.more;
  names = second.names ∙ (ap (λ l. l ++ second.more) first.names ∙ append_assoc a.names first.more second.more);
  stays = λ i taken. second.stays i (first.stays i taken);
  count = second.count ∙ first.count;
  tidy = second.tidy;
}

-- ---- names of a scope that is put together

pub names_eq : (held was : List Named) (room once : ℕ) → held ≡ was → room ≡ once → (let n : Names = record { held = held; room = room } in n) ≡ record { held = was; room = once }
names_eq held was room once h r = ap (λ l. record { held = l; room = room }) h ∙ ap (λ n. record { held = was; room = n }) r

pub names_put : (b : Scope) (ns : List NamedLocal) (ks : List Kind) → b.names ≡ ns → b.kinds ≡ ks → names_of b ≡ names_of (record { names = ns; kinds = ks })
names_put b ns ks names kinds_are =
    ap (λ l. names_of (record { names = b.names; kinds = l })) kinds_are ∙ ap (λ l. names_of (record { names = l; kinds = ks })) names

-- ---- a local is set

held_other : (ks : List Kind) (local : ℕ) (k : Kind) (ns : List NamedLocal) → Elsewhere local ns → map (named_in (set ks local k)) ns ≡ map (named_in ks) ns
held_other ks local k [] all = refl
held_other ks local k (n ∷ ns) all =
    ap (λ kind. record { name = n.name; kind = kind } ∷ map (named_in (set ks local k)) ns) (at_other ks local n.local k all.0) ∙ ap (λ rest. named_in ks n ∷ rest) (held_other ks local k ns all.1)

held_more : (ks : List Kind) (local : ℕ) (k : Kind) (name : List ℕ) (ns : List NamedLocal) → local < length ks → Elsewhere local ns
    → map (named_in (set ks local k)) (ns ++ record { name = name; local = local } ∷ []) ≡ map (named_in ks) ns ++ record { name = name; kind = k } ∷ []
held_more ks local k name [] within all = ap (λ kind. record { name = name; kind = kind } ∷ []) (at_same ks local k within)
held_more ks local k name (n ∷ ns) within all =
    ap (λ kind. record { name = n.name; kind = kind } ∷ map (named_in (set ks local k)) (ns ++ record { name = name; local = local } ∷ [])) (at_other ks local n.local k all.0)
    ∙ ap (λ rest. named_in ks n ∷ rest) (held_more ks local k name ns within all.1)

set_stays : (ks : List Kind) (local : ℕ) (k : Kind) → is_free (kind_at ks local) ≡ true → Stays ks (set ks local k)
set_stays ks local k free i taken =
    ap is_free (at_other ks local i k (λ e. absurd (let no : true ≡ false = sym free ∙ (ap (λ j. is_free (kind_at ks j)) (sym e) ∙ taken) in cc))) ∙ taken

-- a name is declared for the lowest free local
pub onto_declared : (a b : Scope) (name : List ℕ) (local : ℕ) (kind : Kind) → position is_free a.kinds ≡ Some local → is_free kind ≡ false → b.names ≡ a.names ++ record { name = name; local = local } ∷ [] → b.kinds ≡ set a.kinds local kind → Tidy a → Onto a b
onto_declared a b name local kind first held names kinds_are tidy = record {
  more = record { name = name; local = local } ∷ [];
  names = names;
  stays = stays;
  count = ap length kinds_are ∙ length-set a.kinds local kind;
  tidy = record {
    taken = subst (AllTaken b.kinds) (sym names) (taken_more b.kinds a.names (record { name = name; local = local }) now (taken_on a.kinds b.kinds a.names stays tidy.taken));
    apart = subst AreApart (sym names) (apart_more a.names (record { name = name; local = local }) (free_elsewhere a.kinds a.names local free tidy.taken) tidy.apart);
  };
}
  where
    free : is_free (kind_at a.kinds local) ≡ true
    free = free_first a.kinds local first

    stays : Stays a.kinds b.kinds
    stays i taken = ap (λ ks. is_free (kind_at ks i)) kinds_are ∙ set_stays a.kinds local kind free i taken

    now : is_free (kind_at b.kinds local) ≡ false
    now = ap (λ ks. is_free (kind_at ks local)) kinds_are ∙ (ap is_free (at_same a.kinds local kind (position_within is_free a.kinds local first)) ∙ held)

pub names_declared : (a : Scope) (name : List ℕ) (local : ℕ) (kind : Kind) → position is_free a.kinds ≡ Some local → is_free kind ≡ false → Tidy a
    → names_of (record { names = a.names ++ record { name = name; local = local } ∷ []; kinds = set a.kinds local kind }) ≡ with_named name kind (names_of a)
names_declared a name local kind first held tidy =
    names_eq _ _ _ _ (held_more a.kinds local kind name a.names (position_within is_free a.kinds local first) (free_elsewhere a.kinds a.names local (free_first a.kinds local first) tidy.taken)) (frees_fewer a.kinds local kind first held)

-- a loop takes the lowest free local for its sequence
pub onto_holding : (a b : Scope) (local : ℕ) (kind : Kind) → position is_free a.kinds ≡ Some local → b.names ≡ a.names → b.kinds ≡ set a.kinds local kind → Tidy a → Onto a b
onto_holding a b local kind first names kinds_are tidy =
    onto_kept a b names (λ i taken. ap (λ ks. is_free (kind_at ks i)) kinds_are ∙ set_stays a.kinds local kind (free_first a.kinds local first) i taken) (ap length kinds_are ∙ length-set a.kinds local kind) tidy

pub names_holding : (a : Scope) (local : ℕ) (kind : Kind) → position is_free a.kinds ≡ Some local → is_free kind ≡ false → Tidy a → names_of (record { names = a.names; kinds = set a.kinds local kind }) ≡ holding (names_of a)
names_holding a local kind first held tidy =
    names_eq _ _ _ _ (held_other a.kinds local kind a.names (free_elsewhere a.kinds a.names local (free_first a.kinds local first) tidy.taken)) (frees_fewer a.kinds local kind first held)

-- ---- another value for a name

-- the local of a name is that of one of these names
local_held : (ks : List Kind) (name : List ℕ) (ns : List NamedLocal) (local : ℕ) → option_map (λ n. n.local) (find (λ n. bytes_eq n.name name) ns) ≡ Some local → AllTaken ks ns → is_free (kind_at ks local) ≡ false
local_held ks name [] local at all = absurd cc
local_held ks name (n ∷ ns) local at all = by_name (λ found. local_held ks name ns local found all.1) (bytes_eq n.name name) at
  where
    by_name : (option_map (λ m. m.local) (find (λ m. bytes_eq m.name name) ns) ≡ Some local → is_free (kind_at ks local) ≡ false) → (b : Bool) → option_map (λ m. m.local) (cond b (Some n) (find (λ m. bytes_eq m.name name) ns)) ≡ Some local → is_free (kind_at ks local) ≡ false
    by_name rest true at = ap (λ j. is_free (kind_at ks j)) (let e : local ≡ n.local = cc in e) ∙ all.0
    by_name rest false at = rest at

pub name_taken : (a : Scope) (name : List ℕ) (local : ℕ) → local_of a name ≡ Some local → Tidy a → is_free (kind_at a.kinds local) ≡ false
name_taken a name local at tidy = local_held a.kinds name a.names local at tidy.taken

elsewhere_not : (other : ℕ) (name : List ℕ) (ns : List NamedLocal) (local : ℕ) → option_map (λ n. n.local) (find (λ n. bytes_eq n.name name) ns) ≡ Some local → Elsewhere other ns → other ≡ local → ⊥
elsewhere_not other name [] local at all same = absurd cc
elsewhere_not other name (n ∷ ns) local at all same = by_name (λ found. elsewhere_not other name ns local found all.1 same) (bytes_eq n.name name) at
  where
    by_name : (option_map (λ m. m.local) (find (λ m. bytes_eq m.name name) ns) ≡ Some local → ⊥) → (b : Bool) → option_map (λ m. m.local) (cond b (Some n) (find (λ m. bytes_eq m.name name) ns)) ≡ Some local → ⊥
    by_name rest true at = all.0 ((let e : n.local ≡ local = cc in e) ∙ sym same)
    by_name rest false at = rest at

held_assigned : (ks : List Kind) (name : List ℕ) (k : Kind) (ns : List NamedLocal) (local : ℕ) → option_map (λ n. n.local) (find (λ n. bytes_eq n.name name) ns) ≡ Some local → AllTaken ks ns → AreApart ns
    → map (named_in (set ks local k)) ns ≡ held_with name k (map (named_in ks) ns)
held_assigned ks name k [] local at all apart = absurd cc
held_assigned ks name k (n ∷ ns) local at all apart =
    by_name (λ found. held_assigned ks name k ns local found all.1 apart.1) (bytes_eq n.name name) at
  where
    by_name : (option_map (λ m. m.local) (find (λ m. bytes_eq m.name name) ns) ≡ Some local → map (named_in (set ks local k)) ns ≡ held_with name k (map (named_in ks) ns)) → (b : Bool)
        → option_map (λ m. m.local) (cond b (Some n) (find (λ m. bytes_eq m.name name) ns)) ≡ Some local
        → named_in (set ks local k) n ∷ map (named_in (set ks local k)) ns ≡ cond b (record { name = n.name; kind = k } ∷ map (named_in ks) ns) (named_in ks n ∷ held_with name k (map (named_in ks) ns))
    by_name rest true at =
        let e : local ≡ n.local = cc in
        ap (λ j. named_in (set ks j k) n ∷ map (named_in (set ks j k)) ns) e
        ∙ (ap (λ kind. record { name = n.name; kind = kind } ∷ map (named_in (set ks n.local k)) ns) (at_same ks n.local k (taken_within ks n.local all.0))
        ∙ ap (λ l. record { name = n.name; kind = k } ∷ l) (held_other ks n.local k ns apart.0))
    by_name rest false at =
        ap (λ kind. record { name = n.name; kind = kind } ∷ map (named_in (set ks local k)) ns) (at_other ks local n.local k (elsewhere_not n.local name ns local at apart.0))
        ∙ ap (λ l. named_in ks n ∷ l) (rest at)

pub names_assigned : (a : Scope) (name : List ℕ) (local : ℕ) (kind : Kind) → local_of a name ≡ Some local → is_free kind ≡ false → Tidy a → names_of (record { names = a.names; kinds = set a.kinds local kind }) ≡ with_kind name kind (names_of a)
names_assigned a name local kind at held tidy =
    names_eq _ _ _ _ (held_assigned a.kinds name kind a.names local at tidy.taken tidy.apart) (frees_kept a.kinds local kind (name_taken a name local at tidy) held)

pub assigned_stays : (ks : List Kind) (local : ℕ) (k : Kind) → is_free (kind_at ks local) ≡ false → is_free k ≡ false → (i : ℕ) → is_free (kind_at (set ks local k) i) ≡ is_free (kind_at ks i)
assigned_stays [] local k was now i = refl
assigned_stays (x ∷ xs) zero k was now zero = now ∙ sym was
assigned_stays (x ∷ xs) zero k was now (suc i) = refl
assigned_stays (x ∷ xs) (suc local) k was now zero = refl
assigned_stays (x ∷ xs) (suc local) k was now (suc i) = assigned_stays xs local k was now i

pub level_assigned : (a b : Scope) (local : ℕ) (kind : Kind) → is_free (kind_at a.kinds local) ≡ false → is_free kind ≡ false → b.names ≡ a.names → b.kinds ≡ set a.kinds local kind → Levels a b
level_assigned a b local kind was now names kinds_are = record {
  names = names;
  free = λ i. ap (λ ks. is_free (kind_at ks i)) kinds_are ∙ assigned_stays a.kinds local kind was now i;
  count = ap length kinds_are ∙ length-set a.kinds local kind;
}

-- ---- a unit was deleted

held_struck : (s : Schema) (c : ℕ) (ks : List Kind) (ns : List NamedLocal) → map (named_in (map (struck s c) ks)) ns ≡ map (struck_name s c) (map (named_in ks) ns)
held_struck s c ks [] = refl
held_struck s c ks (n ∷ ns) =
    ap (λ kind. record { name = n.name; kind = kind } ∷ map (named_in (map (struck s c) ks)) ns) (struck_at s c ks n.local) ∙ ap (λ l. struck_name s c (named_in ks n) ∷ l) (held_struck s c ks ns)

struck_same : (s : Schema) (c : ℕ) (ks : List Kind) (i : ℕ) → is_free (kind_at (map (struck s c) ks) i) ≡ is_free (kind_at ks i)
struck_same s c ks i = ap is_free (struck_at s c ks i) ∙ struck_free s c (kind_at ks i)

pub names_struck : (s : Schema) (c : ℕ) (a : Scope) → names_of (record { names = a.names; kinds = map (struck s c) a.kinds }) ≡ struck_names s c (names_of a)
names_struck s c a = names_eq _ _ _ _ (held_struck s c a.kinds a.names) (frees_same (map (struck s c) a.kinds) a.kinds (length_struck s c a.kinds) (struck_same s c a.kinds))

pub level_struck : (s : Schema) (c : ℕ) (a b : Scope) → b.names ≡ a.names → b.kinds ≡ map (struck s c) a.kinds → Levels a b
level_struck s c a b names kinds_are = record {
  names = names;
  free = λ i. ap (λ ks. is_free (kind_at ks i)) kinds_are ∙ struck_same s c a.kinds i;
  count = ap length kinds_are ∙ length_struck s c a.kinds;
}

-- ---- after a block

left_any : left_kind kinds.Any kinds.Any ≡ kinds.Any
left_any = refl

left_free : (k l : Kind) → (is_free k ≡ false → is_free l ≡ false) → is_free (left_kind k l) ≡ is_free k
left_free k l stays = by_free (is_free k) refl
  where
    by_free : (b : Bool) → is_free k ≡ b → is_free (cond b kinds.Any l) ≡ is_free k
    by_free true free = sym free
    by_free false held = stays held ∙ sym held

-- a name from before the block holds what it holds after it
left_held : (ks ls : List Kind) (ns more : List NamedLocal) → length ks ≡ length ls → AllTaken ks ns → map (named_in (kinds_left ks ls)) (take (length ns) (ns ++ more)) ≡ take (length (map (named_in ks) ns)) (map (named_in ls) (ns ++ more))
left_held ks ls [] more count all = refl
left_held ks ls (n ∷ ns) more count all =
    ap (λ kind. record { name = n.name; kind = kind } ∷ map (named_in (kinds_left ks ls)) (take (length ns) (ns ++ more)))
    (paired_at left_kind ks ls n.local left_any count ∙ ap (λ b. cond b kinds.Any (kind_at ls n.local)) all.0)
    ∙ ap (λ l. named_in ls n ∷ l) (left_held ks ls ns more count all.1)

pub level_left : (a b : Scope) → Onto a b → Levels a (back_to (mark_of a) b)
level_left a b o = record {
  names = ap (take (length a.names)) o.names ∙ take-append_seam a.names o.more;
  free = λ i. ap is_free (paired_at left_kind a.kinds b.kinds i left_any (sym o.count)) ∙ left_free (kind_at a.kinds i) (kind_at b.kinds i) (o.stays i);
  count = length_paired left_kind a.kinds b.kinds (sym o.count);
}

pub names_left : (a b : Scope) → Tidy a → Onto a b → names_of (back_to (mark_of a) b) ≡ judged.back_to (names_of a) (names_of b)
names_left a b tidy o =
    names_eq _ _ _ _
    (ap (λ l. map (named_in (kinds_left a.kinds b.kinds)) (take (length a.names) l)) o.names
    ∙ (left_held a.kinds b.kinds a.names o.more (sym o.count) tidy.taken
    ∙ ap (λ l. take (length (map (named_in a.kinds) a.names)) (map (named_in b.kinds) l)) (sym o.names)))
    (frees_same (kinds_left a.kinds b.kinds) a.kinds (level_left a b o).count (level_left a b o).free)

-- after a block whose names are forgotten, and then those before it
pub level_twice : (a b c : Scope) → Onto a b → Onto b c → Levels a (back_to (mark_of a) (back_to (mark_of b) c))
level_twice a b c first second =
    let inner = back_to (mark_of b) c in
    level_left a inner (onto_on a b inner first (onto_level b inner (level_left b c second) first.tidy))

held_twice : (ks bs cs : List Kind) (ns xs ys : List NamedLocal) → length bs ≡ length cs → AllTaken bs ns → take (length (map (named_in ks) ns)) (map (named_in (kinds_left bs cs)) (ns ++ xs)) ≡ take (length (map (named_in ks) ns)) (map (named_in cs) (ns ++ ys))
held_twice ks bs cs [] xs ys count all = refl
held_twice ks bs cs (n ∷ ns) xs ys count all =
    ap (λ kind. record { name = n.name; kind = kind } ∷ take (length (map (named_in ks) ns)) (map (named_in (kinds_left bs cs)) (ns ++ xs)))
    (paired_at left_kind bs cs n.local left_any count ∙ ap (λ b. cond b kinds.Any (kind_at cs n.local)) all.0)
    ∙ ap (λ l. named_in cs n ∷ l) (held_twice ks bs cs ns xs ys count all.1)

pub names_twice : (a b c : Scope) → Tidy a → Onto a b → Onto b c → names_of (back_to (mark_of a) (back_to (mark_of b) c)) ≡ judged.back_to (names_of a) (names_of c)
unfolding onto_on
names_twice a b c tidy first second =
    let inner = back_to (mark_of b) c in
    let level = level_left b c second in
    names_left a inner tidy (onto_on a b inner first (onto_level b inner level first.tidy))
    ∙ ap (λ l. record { held = l; room = frees a.kinds })
    (ap (λ l. take (length (map (named_in a.kinds) a.names)) (map (named_in (kinds_left b.kinds c.kinds)) l)) (level.names ∙ first.names)
    ∙ (held_twice a.kinds b.kinds c.kinds a.names first.more (first.more ++ second.more) (sym second.count) (taken_on a.kinds b.kinds a.names first.stays tidy.taken)
    ∙ ap (λ l. take (length (map (named_in a.kinds) a.names)) (map (named_in c.kinds) l)) (sym (onto_on a b c first second).names)))

-- ---- after branches

met_any : met_kind kinds.Any kinds.Any ≡ kinds.Any
met_any = refl

held_both : (ks ls : List Kind) (ns : List NamedLocal) → length ks ≡ length ls → map (named_in (kinds_met ks ls)) ns ≡ held_met (map (named_in ks) ns) (map (named_in ls) ns)
held_both ks ls [] count = refl
held_both ks ls (n ∷ ns) count =
    ap (λ kind. record { name = n.name; kind = kind } ∷ map (named_in (kinds_met ks ls)) ns) (paired_at met_kind ks ls n.local met_any count)
    ∙ ap (λ l. record { name = n.name; kind = met_kind (kind_at ks n.local) (kind_at ls n.local) } ∷ l) (held_both ks ls ns count)

pub level_met : (a b c : Scope) → Levels a b → Levels a c → Levels a (record { names = c.names; kinds = kinds_met b.kinds c.kinds })
level_met a b c one other =
    let count : length b.kinds ≡ length c.kinds = one.count ∙ sym other.count in
    record {
      names = other.names;
      free = λ i. ap is_free (paired_at met_kind b.kinds c.kinds i met_any count) ∙ met_free (kind_at b.kinds i) (kind_at c.kinds i) (is_free (kind_at a.kinds i)) (one.free i) (other.free i);
      count = length_paired met_kind b.kinds c.kinds count ∙ one.count;
    }

pub names_both : (a b c : Scope) → Levels a b → Levels a c → names_of (record { names = c.names; kinds = kinds_met b.kinds c.kinds }) ≡ names_met (names_of b) (names_of c)
names_both a b c one other =
    let count : length b.kinds ≡ length c.kinds = one.count ∙ sym other.count in
    let names : b.names ≡ c.names = one.names ∙ sym other.names in
    let met = level_met a b c one other in
    names_eq _ _ _ _
    (held_both b.kinds c.kinds c.names count ∙ ap (λ l. held_met (map (named_in b.kinds) l) (map (named_in c.kinds) c.names)) (sym names))
    (frees_same (kinds_met b.kinds c.kinds) c.kinds (met.count ∙ sym other.count) (λ i. met.free i ∙ sym (other.free i)))
