-- What a simple command may drop, by the static texts of its words, is what the demands say.
use Rattle.std.proofs.Common.{◌≡◌, ℕ, Bool, true, false, not, ◌&&◌, if◌then◌else◌, List, [], ◌∷◌, ◌++◌, append-nil, codes, filter, flat_map, map, Option, Some, None, is_some, refl, sym, ap, ap₂, ◌∙◌}
use Rattle.std.specs.List.{position_from}
use Rattle.std.specs.Str.{bytes_eq}
use Rattle.std.proofs.lemmas.List.Elements.{filter_agree}
use Rattle.sh_tree.specs.declared.known.KnownName.TheVariants as known
use Rattle.sh_tree.specs.standard.program.Syntax as p
use Rattle.sh_tree.specs.standard.program.Syntax.{Text, Word}
use Rattle.sh_tree.specs.standard.program.Words.{static_of, operands_in}
use Rattle.sh_runs.specs.Calls.{called, callee_at, text_at, static_at, texts_with}
use Rattle.sh_runs.specs.standard.Kinds.{kind_of}
use Rattle.sh_runs.specs.standard.Kinds as kinds
use Rattle.sh_runs.specs.Profile.{Static}
use Rattle.sh_runs.specs.declared.kind.Kind.{Kind}
use Rattle.sh_runs.specs.declared.kind.Kind.TheVariants as kind
use Rattle.sh_runs.specs.standard.runs.Environment.{is_one_of}
use Rattle.sh_runs.proofs.PositionLemmas.{is_placed}
use Rattle.sh_domain.specs.Facts.{Facts, NotReached, Known, facts, claims, Variable}
use Rattle.sh_domain.specs.Gains.{Gains, words_gains, with_gains}
use Rattle.sh_domain.specs.Operands.{Names, no_names, unset_names}
use Rattle.sh_domain.specs.Rules.{utility_losses, builtin_losses, losses_by}
use Rattle.sh_domain.specs.Table.{Manner, Nameless, Utility, operands, prefixes, is_special, manner_of_name, manner_of_words, behind_words}
use Rattle.sh_domain.specs.Table as table
use Rattle.sh_domain.specs.Views.{Certificate, Before, Loss, OfNames, OfFunction, OfUnseen, Seen, at, lost, where_reached, steps, step, source_facts}
use Rattle.sh_demands.specs.Drops.{optarg, unset_drops, utility_drops, builtin_drops, unseen, call_drops}
use Rattle.sh_demands.specs.Places.{Source, known_behind, function_drops, called_drops, texts_drops}
use Rattle.sh_gains.proofs.KindLemmas.{texts_listed, special_same}

abbrev pub names_lost : Facts → Certificate → ℕ → List Loss → List Text
names_lost start c n ls = flat_map (λ l. l.vars ++ l.functions) (map (lost start c n) ls)

never : (b : Bool) → (b && false) ≡ false
never true = refl
never false = refl

abbrev place : List Text → Text → Option ℕ
place names t = position_from (λ n. bytes_eq n t) 1 names

-- A command to which some run comes

-- names that are lost there
lost_names : (start : Facts) (c : Certificate) (n : ℕ) (v f : Text → Bool) (a : ℕ) (x : Names) → facts (c.claim (Before n)) ≡ Known v f a → lost start c n (OfNames x) ≡ x
unfolding lost where_reached
lost_names start c n v f a x e = ap (λ g. where_reached g x) e

lost_function : (start : Facts) (c : Certificate) (n : ℕ) (v f : Text → Bool) (a : ℕ) (t : Text) → facts (c.claim (Before n)) ≡ Known v f a → lost start c n (OfFunction t) ≡ c.drops t
unfolding lost where_reached
lost_function start c n v f a t e = ap (λ g. where_reached g (c.drops t)) e

utility_lost : (start : Facts) (c : Certificate) (n : ℕ) (v f : Text → Bool) (a : ℕ) (functions names : List Text) → ((t : Text) → is_one_of names t ≡ is_one_of functions t)
    → facts (c.claim (Before n)) ≡ Known v f a → (k : Kind) (ws : List Word) → names_lost start c n (utility_losses functions k ws) ≡ utility_drops names k (map static_of ws)
unfolding utility_losses utility_drops unset_names
utility_lost start c n v f a functions names same e (kind.Special known.Unset) ws =
    let x : Names = record { vars = (unset_names ws).vars; functions = filter (is_one_of functions) (unset_names ws).functions } in
    ap (λ (l : Names). (l.vars ++ l.functions) ++ []) (lost_names start c n v f a x e)
    ∙ append-nil (x.vars ++ x.functions)
    ∙ ap (λ fs. (unset_names ws).vars ++ fs) (filter_agree (is_one_of functions) (is_one_of names) (λ t. sym (same t)) (unset_names ws).functions)
    ∙ ap (unset_drops names) (sym (texts_listed ws))
utility_lost start c n v f a functions names same e kind.Getopts ws =
    ap (λ (l : Names). (l.vars ++ l.functions) ++ []) (lost_names start c n v f a (record { vars = codes "OPTARG" ∷ []; functions = [] }) e)
utility_lost start c n v f a functions names same e k ws = refl

-- what is not known after the words
prefixes_lost : (start : Facts) (c : Certificate) (n : ℕ) (es : p.Elements)
    → names_lost start c n (map (OfUnseen (prefixes es)) (behind_words es (at (Before n)))) ≡ unseen (with_gains (words_gains (operands_in es)) (facts (c.claim (Before n)))) es
unfolding lost steps step source_facts unseen
prefixes_lost start c n es =
    append-nil (unseen (with_gains (words_gains (operands_in es)) (facts (c.claim (Before n)))) es ++ [])
    ∙ append-nil (unseen (with_gains (words_gains (operands_in es)) (facts (c.claim (Before n)))) es)

builtin_lost : (start : Facts) (c : Certificate) (n : ℕ) (v f : Text → Bool) (a : ℕ) (t : Text) (ls : List Loss) → facts (c.claim (Before n)) ≡ Known v f a
    → names_lost start c n (builtin_losses t ++ ls) ≡ builtin_drops t ++ names_lost start c n ls
unfolding builtin_drops
builtin_lost start c n v f a t ls e = go (bytes_eq t (codes "getopts"))
  where
    go : (b : Bool) → names_lost start c n ((if b then OfNames (record { vars = codes "OPTARG" ∷ []; functions = [] }) ∷ [] else []) ++ ls)
        ≡ (if b then optarg else []) ++ names_lost start c n ls
    go true = ap (λ (l : Names). (l.vars ++ l.functions) ++ names_lost start c n ls) (lost_names start c n v f a (record { vars = codes "OPTARG" ∷ []; functions = [] }) e)
    go false = refl

call_lost : (start : Facts) (c : Certificate) (n : ℕ) (v f : Text → Bool) (a : ℕ) (functions : List Text) (es : p.Elements) (t : Text) (ws : List Word) → facts (c.claim (Before n)) ≡ Known v f a
    → names_lost start c n (losses_by functions es (behind_words es (at (Before n))) (table.Call t ws))
    ≡ call_drops (c.drops t) t (with_gains (words_gains (operands_in es)) (facts (c.claim (Before n)))) es
unfolding losses_by
call_lost start c n v f a functions es t ws e =
    let prefixed = map (OfUnseen (prefixes es)) (behind_words es (at (Before n))) in
    ap (λ (l : Names). (l.vars ++ l.functions) ++ names_lost start c n (builtin_losses t ++ prefixed)) (lost_function start c n v f a t e)
    ∙ ap (λ us. ((c.drops t).vars ++ (c.drops t).functions) ++ us)
    (builtin_lost start c n v f a t prefixed e ∙ ap (λ us. builtin_drops t ++ us) (prefixes_lost start c n es))

-- By the texts of its words

module _ (start : Facts) (c : Certificate) (n : ℕ) (v f : Text → Bool) (a : ℕ) (functions : List Text) (s : Source) (es : p.Elements)
    (same : (t : Text) → is_one_of s.table.functions.names t ≡ is_one_of functions t)
    (kept : (t : Text) (k : ℕ) → place s.table.functions.names t ≡ Some k → function_drops s k ≡ c.drops t)
    (behind : (known_behind s n es).facts ≡ with_gains (words_gains (operands_in es)) (facts (c.claim (Before n))))
    (reached : facts (c.claim (Before n)) ≡ Known v f a) where
  abbrev seen : Seen
  seen = behind_words es (at (Before n))

  abbrev lost_as : Manner → List Text
  lost_as m = names_lost start c n (losses_by functions es seen m)

  abbrev chosen : Text → List Word → Bool → Manner
  chosen t ws b = if b then table.Call t ws else Utility (kind_of t) ws

  as_utility : (t : Text) (ws : List Word) → lost_as (Utility (kind_of t) ws) ≡ called_drops s n es t (map static_of ws) None
  unfolding called_drops losses_by
  as_utility t ws = utility_lost start c n v f a functions s.table.functions.names same reached (kind_of t) ws

  as_call : (t : Text) (ws : List Word) (k : ℕ) → place s.table.functions.names t ≡ Some k → lost_as (table.Call t ws) ≡ called_drops s n es t (map static_of ws) (Some k)
  unfolding called_drops
  as_call t ws k h =
      call_lost start c n v f a functions es t ws reached
      ∙ ap₂ (λ (x : Names) (g : Facts). call_drops x t g es) (sym (kept t k h)) (sym behind)

  by_place : (t : Text) (ws : List Word) (z : Bool) (o : Option ℕ) → kinds.is_special (kind_of t) ≡ z → place s.table.functions.names t ≡ o
      → lost_as (chosen t ws (is_one_of functions t && not (is_special (kind_of t)))) ≡ called_drops s n es t (map static_of ws) (called s.table.functions.names (Some t))
  unfolding called
  by_place t ws true o h k =
      ap (λ b. lost_as (chosen t ws (is_one_of functions t && not b))) (special_same (kind_of t) ∙ h)
      ∙ ap (λ b. lost_as (chosen t ws b)) (never (is_one_of functions t))
      ∙ as_utility t ws
      ∙ ap (λ b. called_drops s n es t (map static_of ws) (if b then None else place s.table.functions.names t)) (sym h)
  by_place t ws false None h k =
      ap (λ b. lost_as (chosen t ws (is_one_of functions t && not b))) (special_same (kind_of t) ∙ h)
      ∙ ap (λ b. lost_as (chosen t ws (b && true))) (sym (same t) ∙ sym (is_placed s.table.functions.names t 1) ∙ ap (λ (x : Option ℕ). is_some x) k)
      ∙ as_utility t ws
      ∙ ap (called_drops s n es t (map static_of ws)) (sym k)
      ∙ ap (λ b. called_drops s n es t (map static_of ws) (if b then None else place s.table.functions.names t)) (sym h)
  by_place t ws false (Some j) h k =
      ap (λ b. lost_as (chosen t ws (is_one_of functions t && not b))) (special_same (kind_of t) ∙ h)
      ∙ ap (λ b. lost_as (chosen t ws (b && true))) (sym (same t) ∙ sym (is_placed s.table.functions.names t 1) ∙ ap (λ (x : Option ℕ). is_some x) k)
      ∙ as_call t ws j k
      ∙ ap (called_drops s n es t (map static_of ws)) (sym k)
      ∙ ap (λ b. called_drops s n es t (map static_of ws) (if b then None else place s.table.functions.names t)) (sym h)

  by_words : (ws : List Word) → texts_with n s.table.rows ≡ map static_of ws → lost_as (manner_of_words functions ws) ≡ texts_drops s n es (map static_of ws)
  unfolding manner_of_words manner_of_name losses_by utility_losses texts_drops callee_at text_at static_at
  by_words [] h = refl
  by_words (w ∷ ws) h = go (static_of w) refl
    where
      go : (x : Static) → static_of w ≡ x → lost_as (manner_of_name functions x ws) ≡ texts_drops s n es (x ∷ map static_of ws)
      go None e = refl
      go (Some t) e =
          by_place t ws (kinds.is_special (kind_of t)) (place s.table.functions.names t) refl refl
          ∙ ap (called_drops s n es t (map static_of ws))
          (sym (ap (λ ts. called s.table.functions.names (static_at ts 0)) h ∙ ap (called s.table.functions.names) e))

  pub losses_told : texts_with n s.table.rows ≡ map static_of (operands es) → lost_as (table.manner functions es) ≡ texts_drops s n es (texts_with n s.table.rows)
  losses_told h = by_words (operands es) h ∙ ap (texts_drops s n es) (sym h)

-- A command to which no run comes drops nothing

none_unseen : (g : Gains) (ns : List Text) → filter (λ t. not (claims (with_gains g NotReached) (Variable t))) ns ≡ []
unfolding with_gains claims
none_unseen g [] = refl
none_unseen g (t ∷ ns) = none_unseen g ns

none_lost : (start : Facts) (c : Certificate) (n : ℕ) (x : Names) → facts (c.claim (Before n)) ≡ NotReached → lost start c n (OfNames x) ≡ no_names
unfolding lost where_reached
none_lost start c n x e = ap (λ g. where_reached g x) e

none_dropped : (start : Facts) (c : Certificate) (n : ℕ) (t : Text) → facts (c.claim (Before n)) ≡ NotReached → lost start c n (OfFunction t) ≡ no_names
unfolding lost where_reached
none_dropped start c n t e = ap (λ g. where_reached g (c.drops t)) e

no_builtin : (start : Facts) (c : Certificate) (n : ℕ) (t : Text) (ls : List Loss) → facts (c.claim (Before n)) ≡ NotReached → names_lost start c n (builtin_losses t ++ ls) ≡ names_lost start c n ls
no_builtin start c n t ls e = go (bytes_eq t (codes "getopts"))
  where
    go : (b : Bool) → names_lost start c n ((if b then OfNames (record { vars = codes "OPTARG" ∷ []; functions = [] }) ∷ [] else []) ++ ls) ≡ names_lost start c n ls
    go true = ap (λ (l : Names). (l.vars ++ l.functions) ++ names_lost start c n ls) (none_lost start c n (record { vars = codes "OPTARG" ∷ []; functions = [] }) e)
    go false = refl

no_utility : (start : Facts) (c : Certificate) (n : ℕ) (functions : List Text) → facts (c.claim (Before n)) ≡ NotReached → (k : Kind) (ws : List Word)
    → names_lost start c n (utility_losses functions k ws) ≡ []
unfolding utility_losses
no_utility start c n functions e (kind.Special known.Unset) ws =
    ap (λ (l : Names). (l.vars ++ l.functions) ++ [])
    (none_lost start c n (record { vars = (unset_names ws).vars; functions = filter (is_one_of functions) (unset_names ws).functions }) e)
no_utility start c n functions e kind.Getopts ws =
    ap (λ (l : Names). (l.vars ++ l.functions) ++ []) (none_lost start c n (record { vars = codes "OPTARG" ∷ []; functions = [] }) e)
no_utility start c n functions e k ws = refl

pub losses_nowhere : (start : Facts) (c : Certificate) (n : ℕ) (functions : List Text) (es : p.Elements) → facts (c.claim (Before n)) ≡ NotReached → (m : Manner)
    → names_lost start c n (losses_by functions es (behind_words es (at (Before n))) m) ≡ []
unfolding losses_by unseen
losses_nowhere start c n functions es e Nameless = refl
losses_nowhere start c n functions es e (Utility k ws) = no_utility start c n functions e k ws
losses_nowhere start c n functions es e (table.Call t ws) =
    let prefixed = map (OfUnseen (prefixes es)) (behind_words es (at (Before n))) in
    ap (λ (l : Names). (l.vars ++ l.functions) ++ names_lost start c n (builtin_losses t ++ prefixed)) (none_dropped start c n t e)
    ∙ no_builtin start c n t prefixed e
    ∙ prefixes_lost start c n es
    ∙ ap (λ g. filter (λ x. not (claims (with_gains (words_gains (operands_in es)) g) (Variable x))) (prefixes es)) e
    ∙ none_unseen (words_gains (operands_in es)) (prefixes es)
