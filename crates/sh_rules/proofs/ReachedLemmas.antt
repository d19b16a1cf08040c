-- What is kept of names that a simple command drops, name by name.
use Rattle.std.proofs.Common.{◌≡◌, ℕ, Bool, true, false, not, cond, List, [], ◌∷◌, append-nil, filter, fold, map, codes, refl, sym, ap, ◌∙◌}
use Rattle.sh_tree.specs.declared.tree.Element.{Element, Assignment', Word', Redirection'}
use Rattle.sh_tree.specs.declared.tree.Element.TheVariants as element
use Rattle.sh_tree.specs.declared.tree.Redirect.{Redirect}
use Rattle.sh_tree.specs.declared.tree.Span.{Span}
use Rattle.sh_tree.specs.declared.tree.Word.{Word}
use Rattle.sh_tree.specs.standard.Tree.{text_of}
use Rattle.sh_tree.specs.standard.language.Bytes.{is_name}
use Rattle.sh_tree.specs.Lists.{element_from, elements_from}
use Rattle.sh_tree.specs.standard.program.Syntax as p
use Rattle.sh_tree.specs.standard.program.Syntax.{Text}
use Rattle.sh_tree.specs.standard.program.Words.{assignments_in}
use Rattle.sh_tree.proofs.ProgramRules as rules
use Rattle.sh_runs.specs.Profile.{Static}
use Rattle.sh_table.specs.WordTexts.{text_in}
use Rattle.sh_table.specs.declared.word_text.WordText.{WordText}
use Rattle.sh_runs.specs.standard.runs.Environment.{is_one_of}
use Rattle.sh_domain.specs.declared.knowledge.Knowledge.{Knowledge}
use Rattle.sh_domain.specs.declared.rule.FlowRule.TheVariants.{F13}
use Rattle.sh_domain.specs.Facts.{Facts, NotReached, Known, Nowhere, Variable, claims}
use Rattle.sh_domain.specs.Knowledge.{knowledge_facts}
use Rattle.sh_domain.specs.Operands.{Names, no_names}
use Rattle.sh_domain.specs.Table.{prefixes}
use Rattle.sh_domain.specs.Views.{Before, where_reached}
use Rattle.sh_gains.specs.Statics.{listed}
use Rattle.sh_operands.specs.declared.options.Letters.{Letters}
use Rattle.sh_operands.specs.Texts.{no_letters, removal_in, takes_variables, takes_functions, unset_behind}
use Rattle.sh_rules.specs.declared.claims.Claims.{Claims}
use Rattle.sh_rules.specs.Asking.{Asking, one_variable, one_function}
use Rattle.sh_rules.specs.Bounds.{fault}
use Rattle.sh_rules.specs.CommandBounds.{option_argument, unknown, drops_told, loses_told}
use Rattle.sh_rules.specs.Losses.{where_taken}
use Rattle.sh_rules.specs.Reached.{is_reached, unset_dropped, variable_dropped, function_dropped, defined_dropped, unknown_dropped, prefix_dropped}
use Rattle.sh_rules.specs.Settings.{Setting, known_at}
use Rattle.sh_rules.specs.Texts.{unset_by}
use Rattle.sh_rules.specs.Walks.{facts_in, setting}
use Rattle.sh_rules.proofs.OperandLemmas.{unset_vars, unset_functions, where_fold}
use Rattle.sh_rules.proofs.UtilityLemmas.{filtered_fold}

-- whether it is reached

pub reached : (c : Claims) (n : ℕ) (k : Knowledge) (b : Bool) → facts_in (setting c) k ≡ known_at (setting c) (Before n)
    → ((names : List Text) → b ≡ not (claims (knowledge_facts names k) Nowhere)) → b ≡ is_reached (setting c) n
unfolding is_reached facts_in
reached c n k b h e = e (setting c).names ∙ ap (λ f. not (claims f Nowhere)) h

module _ {K : Type 0} (a : Asking K) (x : Setting) (n : ℕ) (function : Text) where
  abbrev drops : Names → K → K
  drops names kept = drops_told a x n function names kept

  -- names one after the other

  variables_folded : (ts : List Text) (kept : K) → drops (record { vars = ts; functions = [] }) kept ≡ fold (variable_dropped a x n function) kept ts
  unfolding variable_dropped
  variables_folded [] kept = a.drops_nothing x function (fault n F13) kept
  variables_folded (t ∷ ts) kept =
      a.drops_both x function (fault n F13) (one_variable t) (record { vars = ts; functions = [] }) kept
      ∙ variables_folded ts (a.drop x function (fault n F13) (one_variable t) kept)

  functions_folded : (ts : List Text) (kept : K) → drops (record { vars = []; functions = ts }) kept ≡ fold (function_dropped a x n function) kept ts
  unfolding function_dropped
  functions_folded [] kept = a.drops_nothing x function (fault n F13) kept
  functions_folded (t ∷ ts) kept =
      a.drops_both x function (fault n F13) (one_function t) (record { vars = []; functions = ts }) kept
      ∙ functions_folded ts (a.drop x function (fault n F13) (one_function t) kept)

  names_folded : (vs fs : List Text) (kept : K)
      → drops (record { vars = vs; functions = fs }) kept ≡ fold (function_dropped a x n function) (fold (variable_dropped a x n function) kept vs) fs
  names_folded vs fs kept =
      ap (λ us. drops (record { vars = us; functions = fs }) kept) (sym (append-nil vs))
      ∙ a.drops_both x function (fault n F13) (record { vars = vs; functions = [] }) (record { vars = []; functions = fs }) kept
      ∙ functions_folded fs (drops (record { vars = vs; functions = [] }) kept)
      ∙ ap (λ k. fold (function_dropped a x n function) k fs) (variables_folded vs kept)

  -- where it is reached

  reached_names : (f : Facts) (names : Names) → not (claims f Nowhere) ≡ true → where_reached f names ≡ names
  unfolding claims where_reached
  reached_names NotReached names h = cc
  reached_names (Known v g m) names h = refl

  unreached_names : (f : Facts) (names : Names) → not (claims f Nowhere) ≡ false → where_reached f names ≡ no_names
  unfolding claims where_reached
  unreached_names NotReached names h = refl
  unreached_names (Known v g m) names h = cc

  pub there : (names : Names) (old new : K) → is_reached x n ≡ true → new ≡ drops names old → new ≡ loses_told a x n function names old
  unfolding is_reached loses_told
  there names old new h e = e ∙ ap (λ ns. drops ns old) (sym (reached_names (known_at x (Before n)) names h))

  pub not_there : (names : Names) (old : K) → is_reached x n ≡ false → old ≡ loses_told a x n function names old
  unfolding is_reached loses_told
  not_there names old h = sym (ap (λ ns. drops ns old) (unreached_names (known_at x (Before n)) names h) ∙ a.drops_nothing x function (fault n F13) old)

  pub optarg_reached : (old new : K) → is_reached x n ≡ true → new ≡ variable_dropped a x n function old (codes "OPTARG") → new ≡ loses_told a x n function option_argument old
  unfolding variable_dropped
  optarg_reached old new h e = there option_argument old new h e

  -- `unset`
  pub unset_told : (ts : List Static) (ws : List WordText) (l : Letters) (v w : Bool) (old mid new : K)
      → unset_behind no_letters ts ≡ (l, map (text_in x.script) ws) → v ≡ takes_variables (removal_in l) → w ≡ takes_functions (removal_in l)
      → mid ≡ where_taken v x (variable_dropped a x n function) old ws → new ≡ where_taken w x (defined_dropped a x n function) mid ws
      → new ≡ drops (unset_dropped x ts) old
  unfolding defined_dropped
  unset_told ts ws l v w old mid new h p q e d =
      let us : List Static = map (text_in x.script) ws in
      let ns : List Text = filter is_name (listed us) in
      let vars : fold (variable_dropped a x n function) old (unset_by ts).vars ≡ mid =
      ap (fold (variable_dropped a x n function) old) (unset_vars ts us l h ∙ ap (λ c. cond c ns []) (sym p)) ∙ where_fold v x (variable_dropped a x n function) old ws ∙ sym e in
      let functions : fold (defined_dropped a x n function) mid (unset_by ts).functions ≡ new =
      ap (fold (defined_dropped a x n function) mid) (unset_functions ts us l h ∙ ap (λ c. cond c ns []) (sym q)) ∙ where_fold w x (defined_dropped a x n function) mid ws ∙ sym d in
      let wanted : fold (function_dropped a x n function) mid (filter (is_one_of x.functions) (unset_by ts).functions) ≡ new =
      filtered_fold (is_one_of x.functions) (function_dropped a x n function) mid (unset_by ts).functions ∙ functions in
      sym (names_folded (unset_by ts).vars (filter (is_one_of x.functions) (unset_by ts).functions) old
      ∙ ap (λ k. fold (function_dropped a x n function) k (filter (is_one_of x.functions) (unset_by ts).functions)) vars ∙ wanted)

  -- prefix assignments

  pub prefix_dropped-Assignment : (k : Facts) (kept : K) (s : Span) (v : Word) → prefix_dropped a x n function k kept (element.Assignment s v) ≡ unknown_dropped a x n function k kept (text_of x.script s)
  unfolding prefix_dropped assignments_in
  prefix_dropped-Assignment k kept s v = ap (λ e. fold (unknown_dropped a x n function k) kept (prefixes e)) (rules.element_from-Assignment x.script s v p.no_elements)

  pub prefix_dropped-Word : (k : Facts) (kept : K) (v : Word) → prefix_dropped a x n function k kept (element.Word v) ≡ kept
  unfolding prefix_dropped assignments_in
  prefix_dropped-Word k kept v = ap (λ e. fold (unknown_dropped a x n function k) kept (prefixes e)) (rules.element_from-Word x.script v p.no_elements)

  pub prefix_dropped-Redirection : (k : Facts) (kept : K) (r : Redirect) → prefix_dropped a x n function k kept (element.Redirection r) ≡ kept
  unfolding prefix_dropped assignments_in
  prefix_dropped-Redirection k kept r = ap (λ e. fold (unknown_dropped a x n function k) kept (prefixes e)) (rules.element_from-Redirection x.script r p.no_elements)

  prefix_split : (k : Facts) (kept : K) (e : Element) (rest : p.Elements)
      → fold (unknown_dropped a x n function k) kept (prefixes (element_from x.script e rest)) ≡ fold (unknown_dropped a x n function k) (prefix_dropped a x n function k kept e) (prefixes rest)
  unfolding prefix_dropped element_from assignments_in
  prefix_split k kept (Assignment' name s shape row) rest = refl
  prefix_split k kept (Word' s shape row) rest = refl
  prefix_split k kept (Redirection' at number target) rest = refl

  prefixes_folded : (k : Facts) (kept : K) (es : List Element)
      → fold (unknown_dropped a x n function k) kept (prefixes (elements_from x.script es)) ≡ fold (prefix_dropped a x n function k) kept es
  unfolding elements_from assignments_in
  prefixes_folded k kept [] = refl
  prefixes_folded k kept (e ∷ es) = prefix_split k kept e (elements_from x.script es) ∙ prefixes_folded k (prefix_dropped a x n function k kept e) es

  pub prefixes_dropped : (k : Facts) (old new : K) (es : List Element) → new ≡ fold (prefix_dropped a x n function k) old es
      → new ≡ drops (unknown k (prefixes (elements_from x.script es))) old
  unfolding unknown unknown_dropped
  prefixes_dropped k old new es h =
      let ts : List Text = prefixes (elements_from x.script es) in
      h ∙ sym (variables_folded (filter (λ t. not (claims k (Variable t))) ts) old
      ∙ filtered_fold (λ t. not (claims k (Variable t))) (variable_dropped a x n function) old ts
      ∙ prefixes_folded k old es)

pub ruleset where_there = (there, not_there)

pub ruleset optarg_there = (optarg_reached, not_there)

pub ruleset prefixed = (prefix_dropped-Assignment, prefix_dropped-Word, prefix_dropped-Redirection)
