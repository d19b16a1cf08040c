-- Names that are numbered in turn, and facts of these names alone.
use Rattle.std.proofs.Common.{◌≡◌, ℕ, zero, suc, ◌+◌, ◌≤◌, ◌⊎◌, Bool, true, false, not, ◌&&◌, ◌||◌, Some, List, [], ◌∷◌, ◌++◌, length, map, fold, refl, sym, ◌∙◌, ap, subst, arith, inl, inr, slice_get, if◌then◌else◌, true≢false}
use Rattle.std.specs.List.{filter, list_any, list_all, position_from}
use Rattle.std.specs.Prelude.{codes}
use Rattle.std.specs.Str.{bytes_eq}
use Rattle.std.proofs.lemmas.Bool.{and_parts, or_cases, or_left, or_right, cases_Bool}
use Rattle.std.proofs.lemmas.List.Folds.{list_any-append}
use Rattle.std.proofs.lemmas.Slice.Eq.{bytes_eq-Decides}
use Rattle.sh_rows.specs.Numbers.{has_bit}
use Rattle.sh_tree.specs.declared.tree.Script.{Script}
use Rattle.sh_tree.specs.standard.program.Syntax.{Text}
use Rattle.sh_tree.proofs.ListLemmas.{text_same}
use Rattle.sh_runs.specs.standard.runs.Environment.{is_one_of}
use Rattle.sh_runs.specs.standard.runs.Worlds.{start_names}
use Rattle.sh_domain.specs.declared.knowledge.Knowledge.{Knowledge}
use Rattle.sh_domain.specs.declared.knowledge.Knowledge.TheVariants as kind
use Rattle.sh_domain.specs.Facts.{Facts, NotReached, Known, Declared, start_facts}
use Rattle.sh_domain.specs.Gains.{Gains, with_gains}
use Rattle.sh_domain.specs.Knowledge.{AreNumbered, LostOneByOne, NamesSuffice, among, contains, knowledge_facts}
use Rattle.sh_domain.specs.Names.{IsNumbering, first_names, number_of, with_text}
use Rattle.sh_domain.specs.Sights.{Sight}
use Rattle.sh_domain.specs.Views.{Certificate, Define, Lose, step, where_known}
use Rattle.sh_domain.proofs.KnowledgeLemmas.{numbered_only, same_tests}
use Rattle.sh_domain.proofs.MeetLemmas.{known_same}
use Rattle.sh_domain.proofs.OrderLemmas.{among_all}

-- Names in turn

-- the first place stays if more comes after
found_first : (p : Text → Bool) (i k : ℕ) (xs ys : List Text) → position_from p i xs ≡ Some k → position_from p i (xs ++ ys) ≡ Some k
found_first p i k [] ys e = cc
found_first p i k (x ∷ xs) ys e = elim (cases_Bool (p x)) [
  | inl s ↦ rw s (rw s at e)
  | inr s ↦ rw s (found_first p (i + 1) k xs ys (rw s at e))
]

found_last : (p : Text → Bool) (i : ℕ) (xs : List Text) (y : Text) → list_any p xs ≡ false → p y ≡ true → position_from p i (xs ++ y ∷ []) ≡ Some (i + length xs)
found_last p i [] y none there = let same : i ≡ i + 0 = omega arith in rw there (ap Some same)
found_last p i (x ∷ xs) y none there = elim (cases_Bool (p x)) [
  | inl s ↦ let one : true ≡ false = rw s at none in absurd (true≢false one)
  | inr s ↦ let same : (i + 1) + length xs ≡ i + suc (length xs) = omega arith in rw s (found_last p (i + 1) xs y (rw s at none) there ∙ ap Some same)
]

in_front_or_last : (xs : List Text) (x : Text) (k : ℕ) (t : Text) → slice_get (xs ++ x ∷ []) k ≡ Some t → (slice_get xs k ≡ Some t) ⊎ ((k ≡ length xs) × (x ≡ t))
in_front_or_last [] x zero t e = let same : x ≡ t = cc in inr (refl, same)
in_front_or_last [] x (suc k) t e = cc
in_front_or_last (y ∷ xs) x zero t e = inl e
in_front_or_last (y ∷ xs) x (suc k) t e = elim (in_front_or_last xs x k t e) [
  | inl h ↦ inl h
  | inr h ↦ inr (ap suc h.0, h.1)
]

record Own (names : List Text) : Type 0 where
  own : (k : ℕ) (t : Text) → slice_get names k ≡ Some t → number_of names t ≡ Some k

own_more : (names : List Text) (x : Text) (b : Bool) → is_one_of names x ≡ b → Own names → Own (if b then names else names ++ x ∷ [])
own_more names x true e h = h
own_more names x false e h = record { own = λ k t at. place k t (in_front_or_last names x k t at) }
  where
    place : (k : ℕ) (t : Text) → (slice_get names k ≡ Some t) ⊎ ((k ≡ length names) × (x ≡ t)) → number_of (names ++ x ∷ []) t ≡ Some k
    place k t (inl at) = found_first (λ n. bytes_eq n t) 0 k names (x ∷ []) (h.own k t at)
    place k t (inr at) =
        let last : number_of (names ++ x ∷ []) x ≡ Some (0 + length names) = found_last (λ n. bytes_eq n x) 0 names x e (text_same x) in
        let same : 0 + length names ≡ k = (let p = at.0 in omega arith) in
        ap (number_of (names ++ x ∷ [])) (sym at.1) ∙ last ∙ ap Some same

own_all : (names xs : List Text) → Own names → Own (fold with_text names xs)
own_all names [] h = h
own_all names (x ∷ xs) h = own_all (with_text names x) xs (own_more names x (is_one_of names x) refl h)

none_own : Own []
none_own = record { own = λ k t at. cc }

-- Which names are numbered

one_more : (names : List Text) (x t : Text) (b : Bool) → is_one_of names x ≡ b → is_one_of (if b then names else names ++ x ∷ []) t ≡ (is_one_of names t || bytes_eq x t)
one_more names x t true e = same_tests _ _ (λ h. or_left (is_one_of names t) (bytes_eq x t) h) (λ h. elim (or_cases (is_one_of names t) (bytes_eq x t) h) [
  | inl s ↦ s
  | inr s ↦ ap (is_one_of names) (sym ((bytes_eq-Decides x t).0 s)) ∙ e
])
one_more names x t false e = list_any-append (λ n. bytes_eq n t) names (x ∷ []) ∙ ap (λ b. is_one_of names t || b) (none (bytes_eq x t))
  where
    none : (b : Bool) → (b || false) ≡ b
    none true = refl
    none false = refl

each_more : (names xs : List Text) (t : Text) → is_one_of (fold with_text names xs) t ≡ (is_one_of names t || is_one_of xs t)
each_more names [] t = none (is_one_of names t)
  where
    none : (b : Bool) → b ≡ (b || false)
    none true = refl
    none false = refl
each_more names (x ∷ xs) t =
    each_more (with_text names x) xs t ∙ ap (λ b. b || is_one_of xs t) (one_more names x t (is_one_of names x) refl) ∙ turned (is_one_of names t) (bytes_eq x t) (is_one_of xs t)
  where
    turned : (a b c : Bool) → ((a || b) || c) ≡ (a || (b || c))
    turned true b c = refl
    turned false b c = refl

pub numbered : (b : List ℕ) (t : Script) (d : Declared) (names : List Text) → IsNumbering b t d names → length names ≤ 4096 → AreNumbered names
numbered b t d names n few =
    let all : Own names = subst Own (sym n.each_once) (own_all [] (first_names ++ d.names ++ map (λ (x : Sight). x.name) n.seen) none_own) in
    record { own = all.own; few = few }

-- the names of the start are numbered
start_numbered : (b : List ℕ) (s : Script) (d : Declared) (names : List Text) → IsNumbering b s d names → (t : Text) → (is_one_of start_names t || is_one_of d.names t) ≡ true → is_one_of names t ≡ true
start_numbered b s d names n t e =
    let seen = map (λ (x : Sight). x.name) n.seen in
    let is : is_one_of names t ≡ is_one_of (first_names ++ d.names ++ seen) t = ap (λ ns. is_one_of ns t) n.each_once ∙ each_more [] (first_names ++ d.names ++ seen) t in
    let split : is_one_of (first_names ++ d.names ++ seen) t ≡ ((is_one_of first_names t || is_one_of d.names t) || is_one_of seen t) =
    list_any-append (λ m. bytes_eq m t) (first_names ++ d.names) seen ∙ ap (λ x. x || is_one_of seen t) (list_any-append (λ m. bytes_eq m t) first_names d.names) in
    let firsts : is_one_of first_names t ≡ (is_one_of start_names t || is_one_of (codes "OPTARG" ∷ codes "!" ∷ []) t) = list_any-append (λ m. bytes_eq m t) start_names (codes "OPTARG" ∷ codes "!" ∷ []) in
    is ∙ split ∙ or_left (is_one_of first_names t || is_one_of d.names t) (is_one_of seen t) (elim (or_cases (is_one_of start_names t) (is_one_of d.names t) e) [
      | inl h ↦ or_left (is_one_of first_names t) (is_one_of d.names t) (firsts ∙ or_left (is_one_of start_names t) _ h)
      | inr h ↦ or_right (is_one_of first_names t) (is_one_of d.names t) h
    ])

-- Facts of these names alone

and_since : (a b : Bool) → (b ≡ true → a ≡ true) → (a && b) ≡ b
and_since true b h = refl
and_since false true h = h refl
and_since false false h = refl

among_itself : (names : List Text) (v f : Text → Bool) (a : ℕ) → ((t : Text) → v t ≡ true → is_one_of names t ≡ true) → ((t : Text) → f t ≡ true → is_one_of names t ≡ true)
    → among names (Known v f a) ≡ Known v f a
unfolding among
among_itself names v f a h k = known_same _ _ _ _ _ _ (λ t. and_since (is_one_of names t) (v t) (h t)) (λ t. and_since (is_one_of names t) (f t) (k t)) refl

start_among : (b : List ℕ) (s : Script) (d : Declared) (names : List Text) → IsNumbering b s d names → among names (start_facts d) ≡ start_facts d
unfolding start_facts
start_among b s d names n = among_itself names _ _ _ (start_numbered b s d names n) (λ t e. absurd (true≢false (sym e)))

set_among : (names : List Text) (p : ℕ → Bool) (t : Text) (o : Bool) → o ≡ (is_one_of names t && o) → o ≡ true → is_one_of names t ≡ true
set_among names p t o e h = (and_parts (is_one_of names t) o (sym e ∙ h)).0

known_among : (names : List Text) (k : Knowledge) → among names (knowledge_facts names k) ≡ knowledge_facts names k
unfolding knowledge_facts among
known_among names kind.NotReached = refl
known_among names (kind.Known s) =
    known_same _ _ _ _ _ _ (λ t. sym (numbered_only names (λ n. has_bit n s.vars.words) t)) (λ t. sym (numbered_only names (λ n. has_bit n s.functions.words) t)) refl

gained_among : (names : List Text) (k : Knowledge) (g : Gains) → list_all (is_one_of names) g.names ≡ true → among names (with_gains g (knowledge_facts names k)) ≡ with_gains g (knowledge_facts names k)
unfolding knowledge_facts among with_gains
gained_among names kind.NotReached g h = refl
gained_among names (kind.Known s) g h = among_itself names _ _ _
    (λ t e. elim (or_cases (is_one_of g.names t) (contains names s.vars t) e) [
      | inl a ↦ among_all (is_one_of names) g.names h t a
      | inr a ↦ set_among names (λ n. has_bit n s.vars.words) t _ (numbered_only names (λ n. has_bit n s.vars.words) t) a
    ])
    (λ t e. set_among names (λ n. has_bit n s.functions.words) t _ (numbered_only names (λ n. has_bit n s.functions.words) t) e)

defined_among : (names : List Text) (k : Knowledge) (c : Certificate) (function : Text) → is_one_of names function ≡ true
    → among names (step c (Define function) (knowledge_facts names k)) ≡ step c (Define function) (knowledge_facts names k)
unfolding knowledge_facts among step where_known
defined_among names kind.NotReached c function h = refl
defined_among names (kind.Known s) c function h = among_itself names _ _ _
    (λ t e. set_among names (λ n. has_bit n s.vars.words) t _ (numbered_only names (λ n. has_bit n s.vars.words) t) e)
    (λ t e. elim (or_cases (bytes_eq function t) (contains names s.functions t) e) [
      | inl a ↦ ap (is_one_of names) (sym ((bytes_eq-Decides function t).0 a)) ∙ h
      | inr a ↦ set_among names (λ n. has_bit n s.functions.words) t _ (numbered_only names (λ n. has_bit n s.functions.words) t) a
    ])

-- of the names that are gained those count that are numbered
told_names : (names xs : List Text) (t : Text) → is_one_of (filter (is_one_of names) xs) t ≡ (is_one_of names t && is_one_of xs t)
told_names names [] t = none (is_one_of names t)
  where
    none : (b : Bool) → false ≡ (b && false)
    none true = refl
    none false = refl
told_names names (x ∷ xs) t = elim (cases_Bool (is_one_of names x)) [
  | inl s ↦ rw s (ap (λ b. bytes_eq x t || b) (told_names names xs t) ∙ spread (bytes_eq x t) (is_one_of names t) (is_one_of xs t) (λ e. ap (is_one_of names) (sym ((bytes_eq-Decides x t).0 e)) ∙ s))
  | inr s ↦ rw s (told_names names xs t ∙ sym (alone (bytes_eq x t) (is_one_of names t) (is_one_of xs t) (λ e. ap (is_one_of names) (sym ((bytes_eq-Decides x t).0 e)) ∙ s)))
]
  where
    spread : (b n o : Bool) → (b ≡ true → n ≡ true) → (b || (n && o)) ≡ (n && (b || o))
    spread true n o h = rw (h refl) refl
    spread false n o h = refl

    alone : (b n o : Bool) → (b ≡ true → n ≡ false) → (n && (b || o)) ≡ (n && o)
    alone true n o h = rw (h refl) refl
    alone false n o h = refl

gained_told : (names : List Text) (k : Knowledge) (g : Gains)
    → among names (with_gains g (knowledge_facts names k)) ≡ with_gains (record { names = filter (is_one_of names) g.names; args = g.args }) (knowledge_facts names k)
unfolding knowledge_facts among with_gains
gained_told names kind.NotReached g = refl
gained_told names (kind.Known s) g = known_same _ _ _ _ _ _
    (λ t. spread (is_one_of names t) (is_one_of g.names t) (contains names s.vars t) (numbered_only names (λ n. has_bit n s.vars.words) t)
    ∙ ap (λ b. b || contains names s.vars t) (sym (told_names names g.names t)))
    (λ t. sym (numbered_only names (λ n. has_bit n s.functions.words) t))
    refl
  where
    spread : (n g v : Bool) → v ≡ (n && v) → (n && (g || v)) ≡ ((n && g) || v)
    spread true g v e = refl
    spread false g v e = sym e

pub names_suffice : NamesSuffice
names_suffice = record { numbered = numbered; start = start_among; known = known_among; told = gained_told; gained = gained_among; defined = defined_among }

-- Losses

lost_twice : (v a b : Bool) → (v && not (a || b)) ≡ ((v && not (a || false)) && not b)
lost_twice false a b = refl
lost_twice true true b = refl
lost_twice true false true = refl
lost_twice true false false = refl

kept_once : (v b : Bool) → (v && not b) ≡ ((v && true) && not b)
kept_once true b = refl
kept_once false b = refl

variable_first : (c : Certificate) (name : Text) (vars functions : List Text) (f : Facts)
    → step c (Lose (record { vars = name ∷ vars; functions = functions })) f
    ≡ step c (Lose (record { vars = vars; functions = functions })) (step c (Lose (record { vars = name ∷ []; functions = [] })) f)
unfolding step where_known
variable_first c name vars functions NotReached = refl
variable_first c name vars functions (Known v g a) = known_same _ _ _ _ _ _
    (λ t. lost_twice (v t) (bytes_eq name t) (is_one_of vars t))
    (λ t. kept_once (g t) (is_one_of functions t))
    refl

function_first : (c : Certificate) (name : Text) (vars functions : List Text) (f : Facts)
    → step c (Lose (record { vars = vars; functions = name ∷ functions })) f
    ≡ step c (Lose (record { vars = vars; functions = functions })) (step c (Lose (record { vars = []; functions = name ∷ [] })) f)
unfolding step where_known
function_first c name vars functions NotReached = refl
function_first c name vars functions (Known v g a) = known_same _ _ _ _ _ _
    (λ t. kept_once (v t) (is_one_of vars t))
    (λ t. lost_twice (g t) (bytes_eq name t) (is_one_of functions t))
    refl

pub lost_one_by_one : LostOneByOne
lost_one_by_one = record { variable = variable_first; function = function_first }
