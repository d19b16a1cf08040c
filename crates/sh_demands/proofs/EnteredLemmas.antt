-- What is reported of each command where it is, is reported of each as it is entered.
use Rattle.std.proofs.Common.{◌≡◌, ℕ, Bool, true, false, List, [], ◌∷◌, ◌++◌, fold, refl, sym, ◌∙◌, ap}
use Rattle.std.proofs.lemmas.List.Sums.{fold-append}
use Rattle.sh_tree.specs.declared.place.Place.{Place}
use Rattle.sh_tree.specs.standard.program.Syntax as p
use Rattle.sh_domain.specs.declared.rule.FlowRule.{FlowRule}
use Rattle.sh_domain.specs.declared.rule.FlowRule.TheVariants.{F1, F2, F3, F6, F7, F8, F9, F10, F11, F13}
use Rattle.sh_domain.specs.Entries.{Around, Entered, alone, in_loop, in_function, is_long, item_rule, item_around, item_seen, part_rule, part_around, link_seen, linked, pipeline_after, items_after, item_after, turns, falls, otherwise_seen, operand_seen, items_entered, list_entered, links_entered, pipeline_entered, commands_entered, command_entered, kind_entered, elements_entered, redirect_entered, redirects_entered, branches_entered, otherwise_entered, for_words_entered, words_entered, clauses_entered, patterns_entered, word_entered, part_entered, operator_entered, expression_entered, operands_entered, script_entered, behind_redirects}
use Rattle.sh_domain.specs.Gains.{part_gains, expanded_gains, word_gains, redirect_gains}
use Rattle.sh_domain.specs.Table.{behind_words}
use Rattle.sh_domain.specs.Views.{Seen, After, Both, at, Before, Head, Entry, gaining, gaining_names, without_job, if_zero, if_nonzero, in_any_case, at_start}
use Rattle.sh_demands.specs.Tellings.{EachIsTold, entered_told}
use Rattle.sh_demands.specs.Told.{Teller, item_shares, part_shares, items_told, list_told, links_told, pipeline_told, commands_told, command_told, kind_told, elements_told, redirect_told, redirects_told, branches_told, otherwise_told, for_words_told, words_told, clauses_told, word_told, part_told, operator_told, expression_told, operands_told}

item_shared : (background : Bool) (x : Around) → item_shares background x.shares ≡ (item_around background x).shares
unfolding item_around
item_shared true x = refl
item_shared false x = refl

part_shared : (long : Bool) (x : Around) → part_shares long x.shares ≡ (part_around long x).shares
unfolding part_around
part_shared true x = refl
part_shared false x = refl

-- one list after another
then : (f : Teller) (ps mid new : List Place) (xs ys : List Entered) → mid ≡ fold (entered_told f) ps xs → new ≡ fold (entered_told f) mid ys → new ≡ fold (entered_told f) ps (xs ++ ys)
then f ps mid new xs ys m n = n ∙ ap (λ qs. fold (entered_told f) qs ys) m ∙ sym (fold-append (entered_told f) ps xs ys)

mutual
  unfolding items_told items_entered

  pub items_go : (f : Teller) (by : FlowRule) (x : Around) (o : After) (t : p.Items) (ps : List Place) → items_told f x.shares ps t ≡ fold (entered_told f) ps (items_entered by x o t)
  items_go f by x o p.no_items ps = refl
  items_go f by x o (p.more_items list background rest) ps =
      let mid = list_told f (item_shares background x.shares) ps list in
      then f ps mid (items_told f x.shares mid rest)
      (list_entered (item_rule background by) (item_around background x) (item_seen background (in_any_case o)) list)
      (items_entered F2 x (item_after (in_any_case o) background list) rest)
      (ap (λ s. list_told f s ps list) (item_shared background x) ∙ list_goes f (item_rule background by) (item_around background x) (item_seen background (in_any_case o)) list ps)
      (items_go f F2 x (item_after (in_any_case o) background list) rest mid)

  list_goes : (f : Teller) (by : FlowRule) (x : Around) (s : Seen) (l : p.AndOr) (ps : List Place) → list_told f x.shares ps l ≡ fold (entered_told f) ps (list_entered by x s l)
  list_goes f by x s (p.and_or first rest) ps =
      let mid = pipeline_told f x.shares ps first in
      then f ps mid (links_told f x.shares mid rest) (pipeline_entered by x s first) (links_entered x (pipeline_after s first) rest)
      (pipeline_goes f by x s first ps) (links_go f x (pipeline_after s first) rest mid)

  links_go : (f : Teller) (x : Around) (o : After) (ls : p.Links) (ps : List Place) → links_told f x.shares ps ls ≡ fold (entered_told f) ps (links_entered x o ls)
  links_go f x o p.no_links ps = refl
  links_go f x o (p.more_links l q rest) ps =
      let mid = pipeline_told f x.shares ps q in
      let after = linked l o (pipeline_after (link_seen l o) q) in
      then f ps mid (links_told f x.shares mid rest) (pipeline_entered F3 x (link_seen l o) q) (links_entered x after rest)
      (pipeline_goes f F3 x (link_seen l o) q ps) (links_go f x after rest mid)

  pipeline_goes : (f : Teller) (by : FlowRule) (x : Around) (s : Seen) (q : p.Pipeline) (ps : List Place) → pipeline_told f x.shares ps q ≡ fold (entered_told f) ps (pipeline_entered by x s q)
  pipeline_goes f by x s (p.pipeline negated cs) ps =
      ap (λ b. commands_told f b ps cs) (part_shared (is_long cs) x)
      ∙ commands_go f (part_rule (is_long cs) by) (part_around (is_long cs) x) (item_seen (is_long cs) s) cs ps

  commands_go : (f : Teller) (by : FlowRule) (x : Around) (s : Seen) (cs : p.Commands) (ps : List Place) → commands_told f x.shares ps cs ≡ fold (entered_told f) ps (commands_entered by x s cs)
  commands_go f by x s p.no_commands ps = refl
  commands_go f by x s (p.more_commands c cs) ps =
      let mid = command_told f x.shares ps c in
      then f ps mid (commands_told f x.shares mid cs) (command_entered by x s c) (commands_entered by x s cs) (command_goes f by x s c ps) (commands_go f by x s cs mid)

  command_goes : (f : Teller) (by : FlowRule) (x : Around) (s : Seen) (c : p.Command) (ps : List Place) → command_told f x.shares ps c ≡ fold (entered_told f) ps (command_entered by x s c)
  command_goes f by x s (p.command n offset kind rs) ps =
      let own = f x.shares ps (p.command n offset kind rs) in
      let mid = redirects_told f own rs in
      then f own mid (kind_told f x.shares mid kind) (redirects_entered (at (Before n)) rs) (kind_entered x n (behind_redirects n rs) kind)
      (redirects_go f (at (Before n)) rs own) (kind_goes f x n (behind_redirects n rs) kind mid)

  kind_goes : (f : Teller) (x : Around) (n : ℕ) (s : Seen) (k : p.Kind) (ps : List Place) → kind_told f x.shares ps k ≡ fold (entered_told f) ps (kind_entered x n s k)
  kind_goes f x n s (p.Simple es) ps = elements_go f s (behind_words es s) es ps
  kind_goes f x n s (p.Group list) ps = items_go f F10 x (Both s) list ps
  kind_goes f x n s (p.Subshell list) ps = items_go f F11 alone (Both (without_job (at (Before n)))) list ps
  kind_goes f x n s (p.Conditional branches otherwise) ps =
      let mid = branches_told f x.shares ps branches in
      then f ps mid (otherwise_told f x.shares mid otherwise) (branches_entered x s branches) (otherwise_entered x (otherwise_seen s branches) otherwise)
      (branches_go f x s branches ps) (otherwise_goes f x (otherwise_seen s branches) otherwise mid)
  kind_goes f x n s (p.Loop kind condition body) ps =
      let mid = items_told f x.shares ps condition in
      let inside = turns kind (items_after (Both (at (Head n))) condition) in
      then f ps mid (items_told f x.shares mid body) (items_entered F7 (in_loop n x) (Both (at (Head n))) condition) (items_entered F7 (in_loop n x) (Both inside) body)
      (items_go f F7 (in_loop n x) (Both (at (Head n))) condition ps) (items_go f F7 (in_loop n x) (Both inside) body mid)
  kind_goes f x n s (p.For name ws body) ps =
      let mid = for_words_told f ps ws in
      let inside = gaining_names (name ∷ []) (at (Head n)) in
      then f ps mid (items_told f x.shares mid body) (for_words_entered s ws) (items_entered F8 (in_loop n x) (Both inside) body)
      (for_words_go f s ws ps) (items_go f F8 (in_loop n x) (Both inside) body mid)
  kind_goes f x n s (p.Case w cs) ps =
      let mid = word_told f ps w in
      then f ps mid (clauses_told f x.shares mid cs) (word_entered s w) (clauses_entered x (gaining (word_gains w) s) [] cs)
      (word_goes f s w ps) (clauses_go f x (gaining (word_gains w) s) [] cs mid)
  kind_goes f x n s (p.Define name body) ps = command_goes f F13 (in_function name) (at (Entry name)) body ps

  elements_go : (f : Teller) (s behind : Seen) (es : p.Elements) (ps : List Place) → elements_told f ps es ≡ fold (entered_told f) ps (elements_entered s behind es)
  elements_go f s behind p.no_elements ps = refl
  elements_go f s behind (p.assignment name value es) ps =
      let mid = word_told f ps value in
      then f ps mid (elements_told f mid es) (word_entered behind value) (elements_entered s behind es) (word_goes f behind value ps) (elements_go f s behind es mid)
  elements_go f s behind (p.operand w es) ps =
      let mid = word_told f ps w in
      then f ps mid (elements_told f mid es) (word_entered s w) (elements_entered (gaining (word_gains w) s) behind es)
      (word_goes f s w ps) (elements_go f (gaining (word_gains w) s) behind es mid)
  elements_go f s behind (p.redirection r es) ps =
      let mid = redirect_told f ps r in
      then f ps mid (elements_told f mid es) (redirect_entered behind r) (elements_entered s behind es) (redirect_goes f behind r ps) (elements_go f s behind es mid)

  redirect_goes : (f : Teller) (s : Seen) (r : p.Redirect) (ps : List Place) → redirect_told f ps r ≡ fold (entered_told f) ps (redirect_entered s r)
  redirect_goes f s (p.File w) ps = word_goes f s w ps
  redirect_goes f s (p.Here w) ps = word_goes f s w ps

  redirects_go : (f : Teller) (s : Seen) (rs : p.Redirects) (ps : List Place) → redirects_told f ps rs ≡ fold (entered_told f) ps (redirects_entered s rs)
  redirects_go f s p.no_redirects ps = refl
  redirects_go f s (p.more_redirects r rs) ps =
      let mid = redirect_told f ps r in
      then f ps mid (redirects_told f mid rs) (redirect_entered s r) (redirects_entered (gaining (redirect_gains r) s) rs)
      (redirect_goes f s r ps) (redirects_go f (gaining (redirect_gains r) s) rs mid)

  branches_go : (f : Teller) (x : Around) (s : Seen) (bs : p.Branches) (ps : List Place) → branches_told f x.shares ps bs ≡ fold (entered_told f) ps (branches_entered x s bs)
  branches_go f x s p.no_branches ps = refl
  branches_go f x s (p.more_branches condition body rest) ps =
      let first = items_told f x.shares ps condition in
      let mid = items_told f x.shares first body in
      let o = items_after (Both s) condition in
      then f ps mid (branches_told f x.shares mid rest) (items_entered F6 x (Both s) condition ++ items_entered F6 x (Both (if_zero o)) body) (branches_entered x (if_nonzero o) rest)
      (then f ps first mid (items_entered F6 x (Both s) condition) (items_entered F6 x (Both (if_zero o)) body)
      (items_go f F6 x (Both s) condition ps) (items_go f F6 x (Both (if_zero o)) body first))
      (branches_go f x (if_nonzero o) rest mid)

  otherwise_goes : (f : Teller) (x : Around) (s : Seen) (o : p.Otherwise) (ps : List Place) → otherwise_told f x.shares ps o ≡ fold (entered_told f) ps (otherwise_entered x s o)
  otherwise_goes f x s p.no_else ps = refl
  otherwise_goes f x s (p.else_of list) ps = items_go f F6 x (Both s) list ps

  for_words_go : (f : Teller) (s : Seen) (ws : p.ForWords) (ps : List Place) → for_words_told f ps ws ≡ fold (entered_told f) ps (for_words_entered s ws)
  for_words_go f s p.every_parameter ps = refl
  for_words_go f s (p.listed ws) ps = words_go f s ws ps

  words_go : (f : Teller) (s : Seen) (ws : p.Words) (ps : List Place) → words_told f ps ws ≡ fold (entered_told f) ps (words_entered s ws)
  words_go f s p.no_words ps = refl
  words_go f s (p.more_words w ws) ps =
      let mid = word_told f ps w in
      then f ps mid (words_told f mid ws) (word_entered s w) (words_entered (gaining (word_gains w) s) ws) (word_goes f s w ps) (words_go f (gaining (word_gains w) s) ws mid)

  clauses_go : (f : Teller) (x : Around) (s fallen : Seen) (cs : p.Clauses) (ps : List Place) → clauses_told f x.shares ps cs ≡ fold (entered_told f) ps (clauses_entered x s fallen cs)
  clauses_go f x s fallen p.no_clauses ps = refl
  clauses_go f x s fallen (p.more_clauses patterns body end rest) ps =
      let first = words_told f ps patterns in
      let mid = items_told f x.shares first body in
      let behind = falls end (items_after (Both (s ++ fallen)) body) in
      then f ps mid (clauses_told f x.shares mid rest) (patterns_entered s patterns ++ items_entered F9 x (Both (s ++ fallen)) body) (clauses_entered x s behind rest)
      (then f ps first mid (patterns_entered s patterns) (items_entered F9 x (Both (s ++ fallen)) body)
      (patterns_go f s patterns ps) (items_go f F9 x (Both (s ++ fallen)) body first))
      (clauses_go f x s behind rest mid)

  patterns_go : (f : Teller) (s : Seen) (ws : p.Words) (ps : List Place) → words_told f ps ws ≡ fold (entered_told f) ps (patterns_entered s ws)
  patterns_go f s p.no_words ps = refl
  patterns_go f s (p.more_words w ws) ps =
      let mid = word_told f ps w in
      then f ps mid (words_told f mid ws) (word_entered s w) (patterns_entered s ws) (word_goes f s w ps) (patterns_go f s ws mid)

  word_goes : (f : Teller) (s : Seen) (w : p.Word) (ps : List Place) → word_told f ps w ≡ fold (entered_told f) ps (word_entered s w)
  word_goes f s p.no_parts ps = refl
  word_goes f s (p.more_parts y w) ps =
      let mid = part_told f ps y in
      then f ps mid (word_told f mid w) (part_entered s y) (word_entered (gaining (part_gains y) s) w) (part_goes f s y ps) (word_goes f (gaining (part_gains y) s) w mid)

  part_goes : (f : Teller) (s : Seen) (y : p.Part) (ps : List Place) → part_told f ps y ≡ fold (entered_told f) ps (part_entered s y)
  part_goes f s (p.Double w) ps = word_goes f s w ps
  part_goes f s (p.Expansion offset parameter operator) ps = operator_goes f s parameter operator ps
  part_goes f s (p.Arithmetic offset e) ps = expression_goes f s e ps
  part_goes f s (p.Substitution offset list) ps = items_go f F11 alone (Both (without_job s)) list ps
  part_goes f s _ ps = refl

  operator_goes : (f : Teller) (s : Seen) (parameter : p.Parameter) (o : p.Operator) (ps : List Place) → operator_told f ps o ≡ fold (entered_told f) ps (operator_entered s parameter o)
  operator_goes f s parameter (p.Use by colon w) ps = word_goes f (operand_seen by parameter s) w ps
  operator_goes f s parameter (p.Remove removal w) ps = word_goes f s w ps
  operator_goes f s parameter _ ps = refl

  expression_goes : (f : Teller) (s : Seen) (e : p.Expression) (ps : List Place) → expression_told f ps e ≡ fold (entered_told f) ps (expression_entered s e)
  expression_goes f s (p.Expanded y) ps = part_goes f s y ps
  expression_goes f s (p.Parenthesis e) ps = expression_goes f s e ps
  expression_goes f s (p.Signed operator e) ps = expression_goes f s e ps
  expression_goes f s (p.Chain e rest) ps =
      let mid = expression_told f ps e in
      then f ps mid (operands_told f mid rest) (expression_entered s e) (operands_entered (gaining (expanded_gains e) s) rest)
      (expression_goes f s e ps) (operands_go f (gaining (expanded_gains e) s) rest mid)
  expression_goes f s (p.Choice e y n) ps =
      let first = expression_told f ps e in
      let mid = expression_told f first y in
      let behind = gaining (expanded_gains e) s in
      then f ps mid (expression_told f mid n) (expression_entered s e ++ expression_entered behind y) (expression_entered (gaining (expanded_gains y) behind) n)
      (then f ps first mid (expression_entered s e) (expression_entered behind y) (expression_goes f s e ps) (expression_goes f behind y first))
      (expression_goes f (gaining (expanded_gains y) behind) n mid)
  expression_goes f s (p.Assigned offset name operator e) ps = expression_goes f s e ps
  expression_goes f s _ ps = refl

  operands_go : (f : Teller) (s : Seen) (es : p.Operands) (ps : List Place) → operands_told f ps es ≡ fold (entered_told f) ps (operands_entered s es)
  operands_go f s p.no_operands ps = refl
  operands_go f s (p.more_operands operator e rest) ps =
      let mid = expression_told f ps e in
      then f ps mid (operands_told f mid rest) (expression_entered s e) (operands_entered (gaining (expanded_gains e) s) rest)
      (expression_goes f s e ps) (operands_go f (gaining (expanded_gains e) s) rest mid)

pub script_goes : (f : Teller) (t : p.Items) (ps : List Place) → items_told f false ps t ≡ fold (entered_told f) ps (script_entered t)
unfolding script_entered
script_goes f t ps = items_go f F1 alone (Both at_start) t ps

pub each_is_told : EachIsTold
each_is_told = record { each = script_goes }
