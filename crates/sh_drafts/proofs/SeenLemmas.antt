-- What is seen at a command of a script is seen after steps that define no function without a name.
use Rattle.std.proofs.Common.{◌≡◌, ℕ, Bool, true, false, if◌then◌else◌, List, [], ◌∷◌, ◌++◌, refl, ◌∙◌}
use Rattle.std.specs.List.{list_all}
use Rattle.std.proofs.lemmas.Bool.{and_from, and_parts}
use Rattle.std.proofs.lemmas.List.Folds.{list_all-append}
use Rattle.sh_tree.specs.declared.tree.Action.{Action}
use Rattle.sh_tree.specs.declared.tree.Action.TheVariants as action
use Rattle.sh_tree.specs.declared.tree.ClauseEnd.{ClauseEnd}
use Rattle.sh_tree.specs.declared.tree.ClauseEnd.TheVariants as clause
use Rattle.sh_tree.specs.declared.tree.Link.{Link}
use Rattle.sh_tree.specs.declared.tree.Link.TheVariants as link
use Rattle.sh_tree.specs.declared.tree.LoopKind.{LoopKind}
use Rattle.sh_tree.specs.declared.tree.LoopKind.TheVariants as loop
use Rattle.sh_tree.specs.standard.program.Syntax as p
use Rattle.sh_domain.specs.declared.rule.FlowRule.{FlowRule}
use Rattle.sh_domain.specs.Entries.{Around, Entered, alone, is_long, parts_after, pipeline_after, link_seen, linked, links_after, list_after, item_after, items_after, otherwise_seen, turns, ends, behind_list, falls, operand_seen, item_seen, items_entered, list_entered, links_entered, pipeline_entered, commands_entered, command_entered, kind_entered, elements_entered, redirect_entered, redirects_entered, branches_entered, otherwise_entered, for_words_entered, words_entered, clauses_entered, patterns_entered, word_entered, part_entered, operator_entered, expression_entered, operands_entered, script_entered}
use Rattle.sh_domain.specs.Gains.{Gains}
use Rattle.sh_domain.specs.Views.{Slot, Before, Head, Entry, Step, Gain, View, Seen, After, Both, Each, if_zero, if_nonzero, in_any_case, swapped, after_command, at, at_start, extended, stepped, gaining, without_job}
use Rattle.sh_drafts.specs.Functions.{step_names}

-- Steps

abbrev pub view_names : View → Bool
view_names v = list_all step_names v.steps

pub record SeenNames (s : Seen) : Type 0 where
  pub all : list_all view_names s ≡ true

pub none_seen : SeenNames []
none_seen = record { all = refl }

pub both_seen : {s t : Seen} → SeenNames s → SeenNames t → SeenNames (s ++ t)
both_seen {s = s} {t = t} h k = record { all = list_all-append view_names s t ∙ and_from (list_all view_names s) (list_all view_names t) h.all k.all }

pub at_seen : (slot : Slot) → SeenNames (at slot)
at_seen slot = record { all = refl }

start_seen : SeenNames at_start
start_seen = record { all = refl }

pub step_seen : {s : Seen} (x : Step) → step_names x ≡ true → SeenNames s → SeenNames (stepped x s)
step_seen {s = s} x e h = record { all = go s h.all }
  where
    view : (v : View) → view_names v ≡ true → view_names (extended x v) ≡ true
    view v k = list_all-append step_names v.steps (x ∷ []) ∙ and_from (list_all step_names v.steps) (list_all step_names (x ∷ [])) k (and_from (step_names x) true e refl)

    go : (s : Seen) → list_all view_names s ≡ true → list_all view_names (stepped x s) ≡ true
    go [] k = refl
    go (v ∷ s) k = let parts = and_parts (view_names v) (list_all view_names s) k in and_from (view_names (extended x v)) (list_all view_names (stepped x s)) (view v parts.0) (go s parts.1)

pub gain_seen : {s : Seen} (g : Gains) → SeenNames s → SeenNames (gaining g s)
unfolding step_names
gain_seen g h = step_seen (Gain g) refl h

pub without_seen : {s : Seen} → SeenNames s → SeenNames (without_job s)
unfolding step_names
without_seen h = step_seen _ refl h

pub either_seen : {s t : Seen} (b : Bool) → SeenNames s → SeenNames t → SeenNames (if b then s else t)
either_seen true h k = h
either_seen false h k = k

-- After lists

pub record AfterNames (o : After) : Type 0 where
  pub zero : SeenNames (if_zero o)
  pub nonzero : SeenNames (if_nonzero o)

pub both_after : {s : Seen} → SeenNames s → AfterNames (Both s)
unfolding if_zero if_nonzero
both_after h = record { zero = h; nonzero = h }

pub each_after : {z n : Seen} → SeenNames z → SeenNames n → AfterNames (Each z n)
unfolding if_zero if_nonzero
each_after h k = record { zero = h; nonzero = k }

pub any_after : (o : After) → AfterNames o → SeenNames (in_any_case o)
unfolding in_any_case if_zero if_nonzero
any_after (Both s) h = h.zero
any_after (Each z n) h = both_seen h.zero h.nonzero

swapped_after : (t : Bool) (o : After) → AfterNames o → AfterNames (swapped t o)
unfolding swapped
swapped_after false o h = h
swapped_after true o h = each_after h.nonzero h.zero

command_after : (n : ℕ) → AfterNames (after_command n)
command_after n = each_after (at_seen _) (at_seen _)

commands_after : (s : Seen) (cs : p.Commands) → SeenNames s → AfterNames (parts_after s cs)
unfolding parts_after
commands_after s p.no_commands h = both_after h
commands_after s (p.more_commands (p.command n offset kind rs) p.no_commands) h = command_after n
commands_after s (p.more_commands (p.command n offset kind rs) (p.more_commands d cs)) h = both_after h

after_pipeline : (s : Seen) (t : p.Pipeline) → SeenNames s → AfterNames (pipeline_after s t)
unfolding pipeline_after
after_pipeline s (p.pipeline negated cs) h = swapped_after negated (parts_after s cs) (commands_after s cs h)

after_link : (l : Link) (o : After) → AfterNames o → SeenNames (link_seen l o)
unfolding link_seen
after_link link.AndThen o h = h.zero
after_link link.OrElse o h = h.nonzero

after_linked : (l : Link) (o q : After) → AfterNames o → AfterNames q → AfterNames (linked l o q)
unfolding linked
after_linked link.AndThen o q h k = each_after k.zero (both_seen h.nonzero k.nonzero)
after_linked link.OrElse o q h k = each_after (both_seen h.zero k.zero) k.nonzero

after_links : (o : After) (t : p.Links) → AfterNames o → AfterNames (links_after o t)
unfolding links_after
after_links o p.no_links h = h
after_links o (p.more_links l q rest) h =
    after_links (linked l o (pipeline_after (link_seen l o) q)) rest (after_linked l o (pipeline_after (link_seen l o) q) h (after_pipeline (link_seen l o) q (after_link l o h)))

after_list : (s : Seen) (t : p.AndOr) → SeenNames s → AfterNames (list_after s t)
unfolding list_after
after_list s (p.and_or first rest) h = after_links (pipeline_after s first) rest (after_pipeline s first h)

after_item : (s : Seen) (background : Bool) (t : p.AndOr) → SeenNames s → AfterNames (item_after s background t)
unfolding item_after
after_item s false t h = after_list s t h
after_item s true t h = each_after (gain_seen _ h) none_seen

pub after_items : (o : After) (t : p.Items) → AfterNames o → AfterNames (items_after o t)
unfolding items_after
after_items o p.no_items h = h
after_items o (p.more_items list background rest) h =
    after_items (item_after (in_any_case o) background list) rest (after_item (in_any_case o) background list (any_after o h))

-- In compound commands and in words

pub after_conditions : (s : Seen) (t : p.Branches) → SeenNames s → SeenNames (otherwise_seen s t)
unfolding otherwise_seen
after_conditions s p.no_branches h = h
after_conditions s (p.more_branches condition body rest) h =
    after_conditions (if_nonzero (items_after (Both s) condition)) rest (after_items (Both s) condition (both_after h)).nonzero

pub turn_seen : (k : LoopKind) (o : After) → AfterNames o → SeenNames (turns k o)
unfolding turns
turn_seen loop.While o h = h.zero
turn_seen loop.Until o h = h.nonzero

pub end_seen : (k : LoopKind) (o : After) → AfterNames o → SeenNames (ends k o)
unfolding ends
end_seen loop.While o h = h.nonzero
end_seen loop.Until o h = h.zero

pub list_seen : (ws : p.ForWords) (s : Seen) → SeenNames s → SeenNames (behind_list ws s)
unfolding behind_list
list_seen p.every_parameter s h = h
list_seen (p.listed ws) s h = gain_seen _ h

pub fallen_seen : (end : ClauseEnd) (o : After) → AfterNames o → SeenNames (falls end o)
unfolding falls
fallen_seen clause.Break o h = none_seen
fallen_seen clause.FallThrough o h = any_after o h

word_seen : (a : Action) (parameter : p.Parameter) (s : Seen) → SeenNames s → SeenNames (operand_seen a parameter s)
unfolding operand_seen
word_seen action.Alternative parameter s h = gain_seen _ h
word_seen a parameter s h = h

process_seen : (t : Bool) (s : Seen) → SeenNames s → SeenNames (item_seen t s)
unfolding item_seen
process_seen true s h = without_seen h
process_seen false s h = h

-- The commands

abbrev entered_names : Entered → Bool
entered_names e = list_all view_names e.seen

record AllNames (es : List Entered) : Type 0 where
  all : list_all entered_names es ≡ true

none_named : AllNames []
none_named = record { all = refl }

joined : {xs ys : List Entered} → AllNames xs → AllNames ys → AllNames (xs ++ ys)
joined {xs = xs} {ys = ys} h k = record { all = list_all-append entered_names xs ys ∙ and_from (list_all entered_names xs) (list_all entered_names ys) h.all k.all }

first_named : {es : List Entered} (e : Entered) → SeenNames e.seen → AllNames es → AllNames (e ∷ es)
first_named {es = es} e h k = record { all = and_from (entered_names e) (list_all entered_names es) h.all k.all }

mutual
  unfolding items_entered

  items_named : (by : FlowRule) (x : Around) (o : After) (t : p.Items) → AfterNames o → AllNames (items_entered by x o t)
  items_named by x o p.no_items h = none_named
  items_named by x o (p.more_items list background rest) h =
      joined (list_named _ _ (item_seen background (in_any_case o)) list (process_seen background (in_any_case o) (any_after o h)))
      (items_named _ x (item_after (in_any_case o) background list) rest (after_item (in_any_case o) background list (any_after o h)))

  list_named : (by : FlowRule) (x : Around) (s : Seen) (t : p.AndOr) → SeenNames s → AllNames (list_entered by x s t)
  list_named by x s (p.and_or first rest) h = joined (pipeline_named by x s first h) (links_named x (pipeline_after s first) rest (after_pipeline s first h))

  links_named : (x : Around) (o : After) (t : p.Links) → AfterNames o → AllNames (links_entered x o t)
  links_named x o p.no_links h = none_named
  links_named x o (p.more_links l q rest) h =
      let seen = after_link l o h in
      joined (pipeline_named _ x (link_seen l o) q seen)
      (links_named x (linked l o (pipeline_after (link_seen l o) q)) rest (after_linked l o (pipeline_after (link_seen l o) q) h (after_pipeline (link_seen l o) q seen)))

  pipeline_named : (by : FlowRule) (x : Around) (s : Seen) (t : p.Pipeline) → SeenNames s → AllNames (pipeline_entered by x s t)
  pipeline_named by x s (p.pipeline negated cs) h = commands_named _ _ (item_seen (is_long cs) s) cs (process_seen (is_long cs) s h)

  commands_named : (by : FlowRule) (x : Around) (s : Seen) (t : p.Commands) → SeenNames s → AllNames (commands_entered by x s t)
  commands_named by x s p.no_commands h = none_named
  commands_named by x s (p.more_commands c cs) h = joined (command_named by x s c h) (commands_named by x s cs h)

  command_named : (by : FlowRule) (x : Around) (s : Seen) (t : p.Command) → SeenNames s → AllNames (command_entered by x s t)
  command_named by x s (p.command n offset k rs) h =
      first_named (record { command = p.command n offset k rs; rule = by; around = x; seen = s }) h (joined (redirects_named _ rs (at_seen (Before n))) (kind_named x n _ k (gain_seen _ (at_seen (Before n)))))

  kind_named : (x : Around) (n : ℕ) (s : Seen) (t : p.Kind) → SeenNames s → AllNames (kind_entered x n s t)
  kind_named x n s (p.Simple es) h = elements_named s _ es h (gain_seen _ h)
  kind_named x n s (p.Group list) h = items_named _ x _ list (both_after h)
  kind_named x n s (p.Subshell list) h = items_named _ alone _ list (both_after (without_seen (at_seen (Before n))))
  kind_named x n s (p.Conditional branches otherwise) h = joined (branches_named x s branches h) (otherwise_named x _ otherwise (after_conditions s branches h))
  kind_named x n s (p.Loop k condition body) h =
      joined (items_named _ _ _ condition (both_after (at_seen (Head n))))
      (items_named _ _ _ body (both_after (turn_seen k (items_after (Both (at (Head n))) condition) (after_items (Both (at (Head n))) condition (both_after (at_seen (Head n)))))))
  kind_named x n s (p.For name ws body) h = joined (for_words_named s ws h) (items_named _ _ _ body (both_after (gain_seen _ (at_seen (Head n)))))
  kind_named x n s (p.Case w cs) h = joined (word_named s w h) (clauses_named x _ _ cs (gain_seen _ h) none_seen)
  kind_named x n s (p.Define name body) h = command_named _ _ _ body (at_seen (Entry name))

  elements_named : (s behind : Seen) (t : p.Elements) → SeenNames s → SeenNames behind → AllNames (elements_entered s behind t)
  elements_named s behind p.no_elements h k = none_named
  elements_named s behind (p.assignment name value es) h k = joined (word_named behind value k) (elements_named s behind es h k)
  elements_named s behind (p.operand w es) h k = joined (word_named s w h) (elements_named _ behind es (gain_seen _ h) k)
  elements_named s behind (p.redirection r es) h k = joined (redirect_named behind r k) (elements_named s behind es h k)

  redirect_named : (s : Seen) (t : p.Redirect) → SeenNames s → AllNames (redirect_entered s t)
  redirect_named s (p.File w) h = word_named s w h
  redirect_named s (p.Here w) h = word_named s w h

  redirects_named : (s : Seen) (t : p.Redirects) → SeenNames s → AllNames (redirects_entered s t)
  redirects_named s p.no_redirects h = none_named
  redirects_named s (p.more_redirects r rs) h = joined (redirect_named s r h) (redirects_named _ rs (gain_seen _ h))

  branches_named : (x : Around) (s : Seen) (t : p.Branches) → SeenNames s → AllNames (branches_entered x s t)
  branches_named x s p.no_branches h = none_named
  branches_named x s (p.more_branches condition body rest) h =
      let tested = after_items (Both s) condition (both_after h) in
      joined (joined (items_named _ x _ condition (both_after h)) (items_named _ x _ body (both_after tested.zero))) (branches_named x _ rest tested.nonzero)

  otherwise_named : (x : Around) (s : Seen) (t : p.Otherwise) → SeenNames s → AllNames (otherwise_entered x s t)
  otherwise_named x s p.no_else h = none_named
  otherwise_named x s (p.else_of list) h = items_named _ x _ list (both_after h)

  for_words_named : (s : Seen) (t : p.ForWords) → SeenNames s → AllNames (for_words_entered s t)
  for_words_named s p.every_parameter h = none_named
  for_words_named s (p.listed ws) h = words_named s ws h

  words_named : (s : Seen) (t : p.Words) → SeenNames s → AllNames (words_entered s t)
  words_named s p.no_words h = none_named
  words_named s (p.more_words w ws) h = joined (word_named s w h) (words_named _ ws (gain_seen _ h))

  clauses_named : (x : Around) (s fallen : Seen) (t : p.Clauses) → SeenNames s → SeenNames fallen → AllNames (clauses_entered x s fallen t)
  clauses_named x s fallen p.no_clauses h k = none_named
  clauses_named x s fallen (p.more_clauses patterns body end rest) h k =
      let entered = both_after (both_seen h k) in
      joined (joined (patterns_named s patterns h) (items_named _ x _ body entered))
      (clauses_named x s _ rest h (fallen_seen end (items_after (Both (s ++ fallen)) body) (after_items (Both (s ++ fallen)) body entered)))

  patterns_named : (s : Seen) (t : p.Words) → SeenNames s → AllNames (patterns_entered s t)
  patterns_named s p.no_words h = none_named
  patterns_named s (p.more_words w ws) h = joined (word_named s w h) (patterns_named s ws h)

  word_named : (s : Seen) (t : p.Word) → SeenNames s → AllNames (word_entered s t)
  word_named s p.no_parts h = none_named
  word_named s (p.more_parts y w) h = joined (part_named s y h) (word_named _ w (gain_seen _ h))

  part_named : (s : Seen) (t : p.Part) → SeenNames s → AllNames (part_entered s t)
  part_named s (p.Double w) h = word_named s w h
  part_named s (p.Expansion offset parameter operator) h = operator_named s parameter operator h
  part_named s (p.Arithmetic offset e) h = expression_named s e h
  part_named s (p.Substitution offset list) h = items_named _ alone _ list (both_after (without_seen h))
  part_named s t h = none_named

  operator_named : (s : Seen) (parameter : p.Parameter) (t : p.Operator) → SeenNames s → AllNames (operator_entered s parameter t)
  operator_named s parameter (p.Use action colon w) h = word_named (operand_seen action parameter s) w (word_seen action parameter s h)
  operator_named s parameter (p.Remove removal w) h = word_named s w h
  operator_named s parameter t h = none_named

  expression_named : (s : Seen) (t : p.Expression) → SeenNames s → AllNames (expression_entered s t)
  expression_named s (p.Expanded y) h = part_named s y h
  expression_named s (p.Parenthesis e) h = expression_named s e h
  expression_named s (p.Signed operator e) h = expression_named s e h
  expression_named s (p.Chain e rest) h = joined (expression_named s e h) (operands_named _ rest (gain_seen _ h))
  expression_named s (p.Choice e then_one else_one) h =
      joined (joined (expression_named s e h) (expression_named _ then_one (gain_seen _ h))) (expression_named _ else_one (gain_seen _ (gain_seen _ h)))
  expression_named s (p.Assigned offset name operator e) h = expression_named s e h
  expression_named s t h = none_named

  operands_named : (s : Seen) (t : p.Operands) → SeenNames s → AllNames (operands_entered s t)
  operands_named s p.no_operands h = none_named
  operands_named s (p.more_operands operator e rest) h = joined (expression_named s e h) (operands_named _ rest (gain_seen _ h))

pub all_seen : (t : p.Items) → list_all (λ (e : Entered). list_all view_names e.seen) (script_entered t) ≡ true
unfolding script_entered
all_seen t = (items_named _ alone _ t (both_after start_seen)).all
