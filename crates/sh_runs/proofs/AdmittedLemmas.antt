-- The walk over a program against the list of its commands.
use Rattle.std.proofs.Common.{◌≡◌, ℕ, Bool, true, false, not, ◌&&◌, Option, Some, None, is_some, List, [], ◌∷◌, ◌++◌, filter_map, nat_lt, if◌then◌else◌, option_map, refl, sym, ap₂, ◌∙◌}
use Rattle.std.specs.List.{list_all, cons_option}
use Rattle.std.proofs.lemmas.List.Folds.{list_all-append}
use Rattle.sh_tree.specs.declared.refusal.Rule.{Rule}
use Rattle.sh_tree.specs.standard.program.Syntax as p
use Rattle.sh_runs.specs.Surroundings.{Surroundings, Located, outside, in_loop, in_function, in_part, in_item, items_located, list_located, links_located, pipeline_located, commands_located, command_located, kind_located, elements_located, redirect_located, redirects_located, branches_located, otherwise_located, for_words_located, words_located, clauses_located, word_located, part_located, operator_located, expression_located, operands_located}
use Rattle.sh_runs.specs.Profile.{Refused, command_rule, refused_at, least_refused, first_refused}
use Rattle.sh_runs.specs.Admitted.{items_admitted, list_admitted, links_admitted, pipeline_admitted, commands_admitted, command_admitted, kind_admitted, elements_admitted, redirect_admitted, redirects_admitted, branches_admitted, otherwise_admitted, for_words_admitted, words_admitted, clauses_admitted, word_admitted, part_admitted, operator_admitted, expression_admitted, operands_admitted, AdmittedAsListed}

abbrev refused : ℕ → ℕ → Rule → Refused
refused number at r = record { number = number; at = at; rule = r }

-- the command breaks no rule
abbrev pub is_free : Located → Bool
is_free l = not (is_some (refused_at l))

both : {a b : Bool} (xs ys : List Located) → a ≡ list_all is_free xs → b ≡ list_all is_free ys → (a && b) ≡ list_all is_free (xs ++ ys)
both xs ys h k = ap₂ (λ c d. c && d) h k ∙ sym (list_all-append is_free xs ys)

pub mapped : {A B : Type 0} (f : A → B) (o : Option A) → is_some (option_map f o) ≡ is_some o
mapped f None = refl
mapped f (Some v) = refl

with_command : {b : Bool} (x : Surroundings) (number at : ℕ) (kind : p.Kind) (rs : p.Redirects) (ls : List Located) → b ≡ list_all is_free ls
    → (not (is_some (command_rule x kind)) && b) ≡ list_all is_free (record { command = p.command number at kind rs; surroundings = x } ∷ ls)
unfolding refused_at
with_command x number at kind rs ls h = ap₂ (λ c d. not c && d) (sym (mapped (λ (r : Rule). refused number at r) (command_rule x kind))) h

mutual
  unfolding items_admitted items_located

  pub items_listed : (x : Surroundings) (t : p.Items) → items_admitted x t ≡ list_all is_free (items_located x t)
  items_listed x p.no_items = refl
  items_listed x (p.more_items list background rest) = both _ _ (list_listed (in_item x background) list) (items_listed x rest)

  list_listed : (x : Surroundings) (t : p.AndOr) → list_admitted x t ≡ list_all is_free (list_located x t)
  list_listed x (p.and_or first rest) = both _ _ (pipeline_listed x first) (links_listed x rest)

  links_listed : (x : Surroundings) (t : p.Links) → links_admitted x t ≡ list_all is_free (links_located x t)
  links_listed x p.no_links = refl
  links_listed x (p.more_links link q rest) = both _ _ (pipeline_listed x q) (links_listed x rest)

  pipeline_listed : (x : Surroundings) (t : p.Pipeline) → pipeline_admitted x t ≡ list_all is_free (pipeline_located x t)
  pipeline_listed x (p.pipeline negated cs) = commands_listed (in_part x cs) cs

  commands_listed : (x : Surroundings) (t : p.Commands) → commands_admitted x t ≡ list_all is_free (commands_located x t)
  commands_listed x p.no_commands = refl
  commands_listed x (p.more_commands c cs) = both _ _ (command_listed x c) (commands_listed x cs)

  command_listed : (x : Surroundings) (t : p.Command) → command_admitted x t ≡ list_all is_free (command_located x t)
  command_listed x (p.command number at kind rs) = with_command x number at kind rs _ (both _ _ (kind_listed x kind) (redirects_listed rs))

  kind_listed : (x : Surroundings) (t : p.Kind) → kind_admitted x t ≡ list_all is_free (kind_located x t)
  kind_listed x (p.Simple es) = elements_listed es
  kind_listed x (p.Group list) = items_listed x list
  kind_listed x (p.Subshell list) = items_listed outside list
  kind_listed x (p.Conditional branches otherwise) = both _ _ (branches_listed x branches) (otherwise_listed x otherwise)
  kind_listed x (p.Loop kind condition body) = both _ _ (items_listed (in_loop x) condition) (items_listed (in_loop x) body)
  kind_listed x (p.For name ws body) = both _ _ (for_words_listed ws) (items_listed (in_loop x) body)
  kind_listed x (p.Case w cs) = both _ _ (word_listed w) (clauses_listed x cs)
  kind_listed x (p.Define name body) = command_listed in_function body

  elements_listed : (t : p.Elements) → elements_admitted t ≡ list_all is_free (elements_located t)
  elements_listed p.no_elements = refl
  elements_listed (p.assignment name value es) = both _ _ (word_listed value) (elements_listed es)
  elements_listed (p.operand w es) = both _ _ (word_listed w) (elements_listed es)
  elements_listed (p.redirection r es) = both _ _ (redirect_listed r) (elements_listed es)

  redirect_listed : (t : p.Redirect) → redirect_admitted t ≡ list_all is_free (redirect_located t)
  redirect_listed (p.File w) = word_listed w
  redirect_listed (p.Here w) = word_listed w

  redirects_listed : (t : p.Redirects) → redirects_admitted t ≡ list_all is_free (redirects_located t)
  redirects_listed p.no_redirects = refl
  redirects_listed (p.more_redirects r rs) = both _ _ (redirect_listed r) (redirects_listed rs)

  branches_listed : (x : Surroundings) (t : p.Branches) → branches_admitted x t ≡ list_all is_free (branches_located x t)
  branches_listed x p.no_branches = refl
  branches_listed x (p.more_branches condition body rest) = both _ _ (both _ _ (items_listed x condition) (items_listed x body)) (branches_listed x rest)

  otherwise_listed : (x : Surroundings) (t : p.Otherwise) → otherwise_admitted x t ≡ list_all is_free (otherwise_located x t)
  otherwise_listed x p.no_else = refl
  otherwise_listed x (p.else_of list) = items_listed x list

  for_words_listed : (t : p.ForWords) → for_words_admitted t ≡ list_all is_free (for_words_located t)
  for_words_listed p.every_parameter = refl
  for_words_listed (p.listed ws) = words_listed ws

  words_listed : (t : p.Words) → words_admitted t ≡ list_all is_free (words_located t)
  words_listed p.no_words = refl
  words_listed (p.more_words w ws) = both _ _ (word_listed w) (words_listed ws)

  clauses_listed : (x : Surroundings) (t : p.Clauses) → clauses_admitted x t ≡ list_all is_free (clauses_located x t)
  clauses_listed x p.no_clauses = refl
  clauses_listed x (p.more_clauses patterns body end rest) = both _ _ (both _ _ (words_listed patterns) (items_listed x body)) (clauses_listed x rest)

  word_listed : (t : p.Word) → word_admitted t ≡ list_all is_free (word_located t)
  word_listed p.no_parts = refl
  word_listed (p.more_parts y w) = both _ _ (part_listed y) (word_listed w)

  part_listed : (t : p.Part) → part_admitted t ≡ list_all is_free (part_located t)
  part_listed (p.Double w) = word_listed w
  part_listed (p.Expansion at parameter operator) = operator_listed operator
  part_listed (p.Arithmetic at e) = expression_listed e
  part_listed (p.Substitution at list) = items_listed outside list
  part_listed t = refl

  operator_listed : (t : p.Operator) → operator_admitted t ≡ list_all is_free (operator_located t)
  operator_listed (p.Use action colon w) = word_listed w
  operator_listed (p.Remove removal w) = word_listed w
  operator_listed t = refl

  expression_listed : (t : p.Expression) → expression_admitted t ≡ list_all is_free (expression_located t)
  expression_listed (p.Expanded y) = part_listed y
  expression_listed (p.Parenthesis e) = expression_listed e
  expression_listed (p.Signed operator e) = expression_listed e
  expression_listed (p.Chain e rest) = both _ _ (expression_listed e) (operands_listed rest)
  expression_listed (p.Choice e then_one else_one) = both _ _ (both _ _ (expression_listed e) (expression_listed then_one)) (expression_listed else_one)
  expression_listed (p.Assigned at name operator e) = expression_listed e
  expression_listed t = refl

  operands_listed : (t : p.Operands) → operands_admitted t ≡ list_all is_free (operands_located t)
  operands_listed p.no_operands = refl
  operands_listed (p.more_operands operator e rest) = both _ _ (expression_listed e) (operands_listed rest)

either_some : (b : Bool) (q r : Refused) → is_some (if b then Some q else Some r) ≡ true
either_some true q r = refl
either_some false q r = refl

least_some : (r : Refused) (rs : List Refused) → is_some (least_refused (r ∷ rs)) ≡ true
unfolding least_refused
least_some r rs = go (least_refused rs) refl
  where
    go : (o : Option Refused) → least_refused rs ≡ o → is_some (least_refused (r ∷ rs)) ≡ true
    go None e = rw e refl
    go (Some q) e = rw e (either_some (nat_lt q.number r.number) q r)

-- the list of refused commands is empty where each command breaks no rule
none_refused : (ls : List Located) → list_all is_free ls ≡ not (is_some (least_refused (filter_map refused_at ls)))
unfolding least_refused
none_refused [] = refl
none_refused (l ∷ ls) = go (refused_at l) (none_refused ls)
  where
    go : (o : Option Refused) → list_all is_free ls ≡ not (is_some (least_refused (filter_map refused_at ls))) → (not (is_some o) && list_all is_free ls) ≡ not (is_some (least_refused (cons_option o (filter_map refused_at ls))))
    go None h = h
    go (Some r) h = rw (least_some r (filter_map refused_at ls)) refl

pub admitted_as_listed : AdmittedAsListed
unfolding first_refused
admitted_as_listed t = items_listed outside t ∙ none_refused (items_located outside t)
