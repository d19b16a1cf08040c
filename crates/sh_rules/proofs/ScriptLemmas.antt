-- A walk that does at each command what the rules require of it does what they require of the
-- script.
use Rattle.std.proofs.Common.{◌≡◌, ℕ, true, not, ◌&&◌, if◌then◌else◌, Option, Some, None, List, [], ◌∷◌, ◌++◌, filter, fold, flat_map, map, refl, sym, ap, ap₂, ◌∙◌}
use Rattle.std.specs.List.{list_all}
use Rattle.std.proofs.lemmas.Bool.{and_parts}
use Rattle.sh_tree.specs.declared.known.KnownName.TheVariants as known
use Rattle.sh_tree.specs.standard.program.Syntax as p
use Rattle.sh_tree.specs.standard.program.Syntax.{Text, Word}
use Rattle.sh_tree.specs.standard.program.Words.{static_of}
use Rattle.sh_runs.specs.standard.Kinds.{kind_of}
use Rattle.sh_runs.specs.declared.kind.Kind.{Kind}
use Rattle.sh_runs.specs.declared.kind.Kind.TheVariants as kind
use Rattle.sh_runs.specs.standard.runs.Environment.{is_one_of}
use Rattle.sh_domain.specs.declared.rule.FlowRule.{FlowRule}
use Rattle.sh_domain.specs.Entries.{Around, Entered, behind_redirects, script_entered}
use Rattle.sh_domain.specs.Facts.{Facts}
use Rattle.sh_domain.specs.Faults.{least, faults}
use Rattle.sh_domain.specs.Knowledge.{AreNumbered, among}
use Rattle.sh_domain.specs.Operands.{unset_names}
use Rattle.sh_domain.specs.Rules.{bound, bounds, functions_of, script_bounds}
use Rattle.sh_domain.specs.Rules as r
use Rattle.sh_domain.specs.Table.{Manner, Nameless, Utility, Call, manner, manner_of_name, manner_of_words, operands, is_special, behind_words}
use Rattle.sh_domain.specs.Views.{Before, OfNames, Seen, at}
use Rattle.sh_rules.specs.Asking.{Asking}
use Rattle.sh_rules.specs.Settings.{Setting}
use Rattle.sh_rules.specs.Walked.{script_walked}
use Rattle.sh_rules.specs.Meaning.{knows, met_of}
use Rattle.sh_rules.specs.CommandBounds.{command_told}
use Rattle.sh_rules.specs.LeastFault.{least_told}
use Rattle.sh_rules.specs.Asked.{ByConstraints, AreDefined, has_numbered_prefixes, LeastOfScripts}
use Rattle.sh_rules.proofs.EnteredLemmas.{script_same}
use Rattle.sh_rules.proofs.MeaningLemmas.{interprets, start_seen}
use Rattle.sh_rules.proofs.ToldLemmas.{least_of_constraints}
use Rattle.sh_rules.proofs.CommandLemmas.{command_same}

-- Of the functions of a script nothing is required but which they are

module _ (fs gs : List Text) (same : (t : Text) → is_one_of fs t ≡ is_one_of gs t) where
  filtered : (ts : List Text) → filter (is_one_of fs) ts ≡ filter (is_one_of gs) ts
  filtered [] = refl
  filtered (t ∷ ts) = ap₂ (λ b rest. if b then t ∷ rest else rest) (same t) (filtered ts)

  name_same : (o : Option Text) (ws : List Word) → manner_of_name fs o ws ≡ manner_of_name gs o ws
  unfolding manner_of_name
  name_same None ws = refl
  name_same (Some t) ws = ap (λ b. if b && not (is_special (kind_of t)) then Call t ws else Utility (kind_of t) ws) (same t)

  manner_same : (ws : List Word) → manner_of_words fs ws ≡ manner_of_words gs ws
  unfolding manner_of_words
  manner_same [] = refl
  manner_same (w ∷ ws) = name_same (static_of w) ws

  utility_same : (u : Kind) (ws : List Word) → r.utility_losses fs u ws ≡ r.utility_losses gs u ws
  unfolding r.utility_losses
  utility_same (kind.Special known.Unset) ws = ap (λ ts. OfNames (record { vars = (unset_names ws).vars; functions = ts }) ∷ []) (filtered (unset_names ws).functions)
  utility_same _ ws = refl

  by_manner : (es : p.Elements) (s : Seen) (m : Manner) → r.losses_by fs es s m ≡ r.losses_by gs es s m
  unfolding r.losses_by
  by_manner es s Nameless = refl
  by_manner es s (Utility u ws) = utility_same u ws
  by_manner es s (Call f ws) = refl

  module _ (by : FlowRule) (y : Around) (s : Seen) (n offset : ℕ) (rs : p.Redirects) where
    abbrev entered : p.Kind → Entered
    entered k = record { command = p.command n offset k rs; rule = by; around = y; seen = s }

    losses_same : (k : p.Kind) → r.losses fs (entered k) ≡ r.losses gs (entered k)
    unfolding r.losses
    losses_same (p.Simple es) =
        by_manner es (behind_words es (at (Before n))) (manner fs es) ∙ ap (r.losses_by gs es (behind_words es (at (Before n)))) (manner_same (operands es))
    losses_same (p.Group list) = refl
    losses_same (p.Subshell list) = refl
    losses_same (p.Conditional bs t) = refl
    losses_same (p.Loop kind condition body) = refl
    losses_same (p.For name ws body) = refl
    losses_same (p.Case w cs) = refl
    losses_same (p.Define name body) = refl

    kind_same : (t : Seen) (k : p.Kind) → r.kind_bounds fs y n t k ≡ r.kind_bounds gs y n t k
    unfolding r.kind_bounds
    kind_same t (p.Simple es) = ap (r.simple_bounds y n es) (manner_same (operands es))
    kind_same t (p.Group list) = refl
    kind_same t (p.Subshell list) = refl
    kind_same t (p.Conditional bs o) = refl
    kind_same t (p.Loop kind condition body) = refl
    kind_same t (p.For name ws body) = refl
    kind_same t (p.Case w cs) = refl
    kind_same t (p.Define name body) = refl

    command_asks : (k : p.Kind) → bounds fs (entered k) ≡ bounds gs (entered k)
    unfolding bounds
    command_asks k =
        ap₂ (λ ks ls. bound (Before n) n by s ++ ks ++ r.redirects_bounds n rs ++ r.counted y.drops n ls) (kind_same (behind_redirects n rs) k) (losses_same k)

  each_asks : (e : Entered) → bounds fs e ≡ bounds gs e
  each_asks e = go e.command
    where
      go : (c : p.Command) → bounds fs (record { command = c; rule = e.rule; around = e.around; seen = e.seen }) ≡ bounds gs (record { command = c; rule = e.rule; around = e.around; seen = e.seen })
      go (p.command n offset k rs) = command_asks e.rule e.around e.seen n offset rs k

  all_ask : (es : List Entered) → flat_map (bounds fs) es ≡ flat_map (bounds gs) es
  all_ask [] = refl
  all_ask (e ∷ es) = ap₂ (λ ks ls. ks ++ ls) (each_asks e) (all_ask es)

-- the constraints of a script, by the functions that it defines
pub script_asks : (functions : List Text) (t : p.Items) → AreDefined functions t → flat_map (bounds functions) (script_entered t) ≡ script_bounds t
unfolding script_bounds
script_asks functions t defined = all_ask functions (functions_of (script_entered t)) defined (script_entered t)

module _ {K : Type 0} (a : Asking K) (x : Setting) (h : AreNumbered x.names) (d : Facts) (g : ByConstraints K a x d) where
  each_same : (functions : List Text) (kept : K) (es : List Entered) → list_all (has_numbered_prefixes x.names) es ≡ true
      → fold (command_told a x functions) kept (map (met_of x d) es) ≡ g.all kept (flat_map (bounds functions) es)
  each_same functions kept [] named = sym (g.none kept)
  each_same functions kept (e ∷ es) named =
      let both = and_parts (has_numbered_prefixes x.names e) (list_all (has_numbered_prefixes x.names) es) named in
      each_same functions (command_told a x functions kept (met_of x d e)) es both.1
      ∙ ap (λ m. g.all m (flat_map (bounds functions) es)) (sym (command_same a x h d g functions e kept both.0))
      ∙ sym (g.joined kept (bounds functions e) (flat_map (bounds functions) es))

  pub script_told : (t : p.Items) (kept : K) → AreDefined x.functions t → list_all (has_numbered_prefixes x.names) (script_entered t) ≡ true
      → script_walked x (command_told a x x.functions) (among x.names d) kept t ≡ g.all kept (script_bounds t)
  script_told t kept defined named =
      script_same x (knows x d) (interprets x h d) (command_told a x x.functions) (among x.names d) kept t (start_seen x h d)
      ∙ each_same x.functions kept (script_entered t) named
      ∙ ap (g.all kept) (script_asks x.functions t defined)

pub least_of_scripts : LeastOfScripts
unfolding least faults
least_of_scripts x d t h defined named =
    let by = least_of_constraints x d h in
    script_told least_told x h d by.0 t None defined named ∙ by.1 None (script_bounds t)
