-- What a walk keeps of a piece of a tree, by the pieces one level below it.
use Rattle.std.proofs.Common.{◌≡◌, ℕ, ◌<◌, ◌≤◌, Bool, true, false, Option, Some, None, List, [], ◌∷◌, length, get_or, nat_lt, fold, refl, sym, ap, ap₂, ◌∙◌, arith}
use Rattle.std.proofs.lemmas.Bool.Decides.{nat_tests}
use Rattle.sh_tree.specs.declared.tree.Action.{Action}
use Rattle.sh_tree.specs.declared.tree.AndOr.{AndOr, out-AndOr}
use Rattle.sh_tree.specs.declared.tree.Binary.{Binary}
use Rattle.sh_tree.specs.declared.tree.Branch.{Branch, out-Branch}
use Rattle.sh_tree.specs.declared.tree.Clause.{Clause, out-Clause}
use Rattle.sh_tree.specs.declared.tree.Command.{Command, out-Command}
use Rattle.sh_tree.specs.declared.tree.CommandStyle.{CommandStyle}
use Rattle.sh_tree.specs.declared.tree.Direction.{Direction}
use Rattle.sh_tree.specs.declared.tree.Element.{Element, Assignment', Word', Redirection'}
use Rattle.sh_tree.specs.declared.tree.Element.TheVariants as element
use Rattle.sh_tree.specs.declared.tree.Expr.{Expr}
use Rattle.sh_tree.specs.declared.tree.Expr.TheVariants as expression
use Rattle.sh_tree.specs.declared.tree.HereDoc.{HereDoc}
use Rattle.sh_tree.specs.declared.tree.Item.{Item, out-Item}
use Rattle.sh_tree.specs.declared.tree.Kind.TheVariants as kind
use Rattle.sh_tree.specs.declared.tree.Link.{Link}
use Rattle.sh_tree.specs.declared.tree.LoopKind.{LoopKind}
use Rattle.sh_tree.specs.declared.tree.ParameterOperator.TheVariants as operator
use Rattle.sh_tree.specs.declared.tree.Param.{Param}
use Rattle.sh_tree.specs.declared.tree.Part.{Part}
use Rattle.sh_tree.specs.declared.tree.Part.TheVariants as part
use Rattle.sh_tree.specs.declared.tree.Pipe.{Pipe, out-Pipe}
use Rattle.sh_tree.specs.declared.tree.Redirect.{Redirect}
use Rattle.sh_tree.specs.declared.tree.Removal.{Removal}
use Rattle.sh_tree.specs.declared.tree.Script.{Script, out-Script}
use Rattle.sh_tree.specs.declared.tree.SingleStyle.{SingleStyle}
use Rattle.sh_tree.specs.declared.tree.Span.{Span}
use Rattle.sh_tree.specs.declared.tree.Subject.{Subject}
use Rattle.sh_tree.specs.declared.tree.Target.TheVariants as target
use Rattle.sh_tree.specs.declared.tree.Unary.{Unary}
use Rattle.sh_tree.specs.declared.tree.Word.{Word}
use Rattle.sh_tree.specs.standard.Tree.{text_of}
use Rattle.sh_tree.specs.Lists.{parts_from, words_from, operands_from, items_from, links_from, commands_from, element_from, elements_from, redirects_from, branches_from, otherwise_from, for_words_from, clauses_from}
use Rattle.sh_tree.specs.standard.program.Syntax as p
use Rattle.sh_tree.specs.standard.program.Trees as trees
use Rattle.sh_tree.proofs.ProgramRules as rules
use Rattle.sh_domain.specs.declared.rule.FlowRule.{FlowRule}
use Rattle.sh_domain.specs.declared.rule.FlowRule.TheVariants.{F1, F2, F3, F6, F7, F9, F10, F11, F12, F13}
use Rattle.sh_domain.specs.Entries.{Around, alone, in_function, is_long, item_rule, item_around, part_rule, part_around}
use Rattle.sh_domain.specs.Facts.{Facts, meet}
use Rattle.sh_domain.specs.Gains.{named, assigned_in}
use Rattle.sh_domain.specs.Views.{Before, Entry, Head}
use Rattle.sh_gains.specs.Knowing.{inner_gains, action_gains}
use Rattle.sh_rules.specs.Settings.{Setting, known_at, gained, without_job}
use Rattle.sh_rules.specs.Behind.{Behind, both, falls, in_any_case, link_known, started, turns}
use Rattle.sh_rules.specs.Walked.{Met, Trail, trail, trail_gained, Course, course, branch_body, branch_left, clause_body, clause_left, nothing_falls, items_walked, list_walked, links_walked, pipeline_walked, commands_walked, command_walked, kind_walked, elements_walked, redirect_walked, redirects_walked, branches_walked, otherwise_walked, for_words_walked, words_walked, clauses_walked, patterns_walked, word_walked, part_walked, operator_walked, expression_walked, operands_walked, script_walked}
use Rattle.sh_rules.specs.Walks.{pipe_behind, link_left, behind_item, item_left}
use Rattle.sh_rules.specs.Steps.{and_or_kept, pipe_kept, command_kept, script_ran, item_kept, item_step, link_step, kind_kept, target_step, redirect_step, element_step, element_gained, part_step, word_step, pattern_step, operator_step, expression_step, operand_step, branch_step, otherwise_kept, clause_step, from_kept, condition_ran, loop_kept, for_kept, for_words_kept, simple_kept}
use Rattle.sh_rules.proofs.GainLemmas.{elements_gained}

items_folded : {K : Type 0} (x : Setting) (w : K → Met → K) (y : Around) (c : Course K) (is : List Item) → items_walked x w y c (items_from x.script is) ≡ fold (item_step x w y) c is
unfolding items_walked items_from item_kept item_step and_or_kept item_left
items_folded x w y c [] = refl
items_folded x w y c (i ∷ is) = items_folded x w y (item_step x w y c i) is

pub script_out : {K : Type 0} (x : Setting) (w : K → Met → K) (y : Around) (c : Course K) (t : Script) → script_ran x w y c t ≡ fold (item_step x w y) c (out-Script t).items
unfolding script_ran
script_out x w y c t = ap (items_walked x w y c) (rules.script_of-out x.script t) ∙ items_folded x w y c (out-Script t).items

pub item_out : {K : Type 0} (x : Setting) (w : K → Met → K) (y : Around) (c : Course K) (i : Item)
    → item_step x w y c i ≡ course F2 (behind_item x (in_any_case c.behind) i) (item_kept x w c.by y (in_any_case c.behind) c.kept i)
unfolding item_step item_left behind_item
item_out x w y c i = refl

pub foreground : {K : Type 0} (x : Setting) (w : K → Met → K) (by : FlowRule) (y : Around) (k : Facts) (s : K) (i : Item) → (out-Item i).background ≡ false
    → item_kept x w by y k s i ≡ and_or_kept x w by y k s (out-Item i).list
unfolding item_kept item_rule item_around started
foreground x w by y k s i e = ap (λ b. and_or_kept x w (item_rule b by) (item_around b y) (started x b k) s (out-Item i).list) e

pub background : {K : Type 0} (x : Setting) (w : K → Met → K) (by : FlowRule) (y : Around) (k : Facts) (s : K) (i : Item) → (out-Item i).background ≡ true
    → item_kept x w by y k s i ≡ and_or_kept x w F11 alone (without_job x k) s (out-Item i).list
unfolding item_kept item_rule item_around started
background x w by y k s i e = ap (λ b. and_or_kept x w (item_rule b by) (item_around b y) (started x b k) s (out-Item i).list) e

links_folded : {K : Type 0} (x : Setting) (w : K → Met → K) (y : Around) (c : Course K) (ls : List (Link × Pipe)) → links_walked x w y c (links_from x.script ls) ≡ fold (link_step x w y) c ls
unfolding items_walked links_from link_step pipe_kept
links_folded x w y c [] = refl
links_folded x w y c (l ∷ ls) = links_folded x w y (link_step x w y c l) ls

pub and_or_out : {K : Type 0} (x : Setting) (w : K → Met → K) (by : FlowRule) (y : Around) (k : Facts) (s : K) (l : AndOr) → and_or_kept x w by y k s l
    ≡ (fold (link_step x w y) (course F3 (pipe_behind x k (out-AndOr l).first) (pipe_kept x w by y k s (out-AndOr l).first)) (out-AndOr l).rest).kept
unfolding items_walked and_or_kept pipe_kept pipe_behind
and_or_out x w by y k s l =
    ap (list_walked x w by y k s) (rules.and_or_of-out x.script l)
    ∙ ap (λ (c : Course _). c.kept) (links_folded x w y (course F3 (pipe_behind x k (out-AndOr l).first) (pipe_kept x w by y k s (out-AndOr l).first)) (out-AndOr l).rest)

no_turn : {K : Type 0} (x : Setting) (w : K → Met → K) (y : Around) (c : Course K) (ls : List (Link × Pipe)) → length ls < 1 → fold (link_step x w y) c ls ≡ c
no_turn x w y c [] h = refl
no_turn x w y c (l ∷ ls) h = absurd (omega (arith, h))

pub no_links : {K : Type 0} (x : Setting) (w : K → Met → K) (by : FlowRule) (y : Around) (k : Facts) (s : K) (l : AndOr) → length (out-AndOr l).rest < 1
    → and_or_kept x w by y k s l ≡ pipe_kept x w by y k s (out-AndOr l).first
no_links x w by y k s l h =
    and_or_out x w by y k s l
    ∙ ap (λ (c : Course _). c.kept) (no_turn x w y (course F3 (pipe_behind x k (out-AndOr l).first) (pipe_kept x w by y k s (out-AndOr l).first)) (out-AndOr l).rest h)

pub link_out : {K : Type 0} (x : Setting) (w : K → Met → K) (y : Around) (c : Course K) (l : Link) (q : Pipe) → link_step x w y c (l, q) ≡ course c.by (link_left x c.behind (l, q)) (pipe_kept x w c.by y (link_known l c.behind) c.kept q)
unfolding link_step
link_out x w y c l q = refl

pub long_parts : (b : List ℕ) (cs : List Command) → is_long (commands_from b cs) ≡ nat_lt 1 (length cs)
unfolding is_long commands_from
long_parts b [] = grind (arith, nat_tests)
long_parts b (c ∷ []) = grind (arith, nat_tests)
long_parts b (c ∷ d ∷ cs) = let more : nat_lt 1 (length (c ∷ d ∷ cs)) ≡ true = grind (arith, nat_tests) in sym more

commands_folded : {K : Type 0} (x : Setting) (w : K → Met → K) (by : FlowRule) (y : Around) (k : Facts) (s : K) (cs : List Command) → commands_walked x w by y k s (commands_from x.script cs) ≡ fold (command_kept x w by y k) s cs
unfolding items_walked commands_from command_kept
commands_folded x w by y k s [] = refl
commands_folded x w by y k s (c ∷ cs) = commands_folded x w by y k (command_kept x w by y k s c) cs

pipe_out : {K : Type 0} (x : Setting) (w : K → Met → K) (by : FlowRule) (y : Around) (k : Facts) (s : K) (q : Pipe) → pipe_kept x w by y k s q
    ≡ fold (command_kept x w (part_rule (nat_lt 1 (length (out-Pipe q).parts)) by) (part_around (nat_lt 1 (length (out-Pipe q).parts)) y) (started x (nat_lt 1 (length (out-Pipe q).parts)) k)) s
    (out-Pipe q).parts
unfolding items_walked pipe_kept
pipe_out x w by y k s q =
    ap (pipeline_walked x w by y k s) (rules.pipeline_of-out x.script q)
    ∙ ap (λ l. commands_walked x w (part_rule l by) (part_around l y) (started x l k) s (commands_from x.script (out-Pipe q).parts)) (long_parts x.script (out-Pipe q).parts)
    ∙ commands_folded x w _ _ _ s (out-Pipe q).parts

-- the parts by how many they are
parts_kept : {K : Type 0} → Setting → (K → Met → K) → FlowRule → Around → Facts → K → List Command → K
parts_kept x w by y k s cs = fold (command_kept x w (part_rule (nat_lt 1 (length cs)) by) (part_around (nat_lt 1 (length cs)) y) (started x (nat_lt 1 (length cs)) k)) s cs

none_kept : {K : Type 0} (x : Setting) (w : K → Met → K) (by : FlowRule) (y : Around) (k : Facts) (s : K) (cs : List Command) → length cs < 1 → parts_kept x w by y k s cs ≡ s
unfolding parts_kept
none_kept x w by y k s [] h = refl
none_kept x w by y k s (c ∷ cs) h = absurd (omega (arith, h))

one_kept : {K : Type 0} (x : Setting) (w : K → Met → K) (by : FlowRule) (y : Around) (k : Facts) (s : K) (cs : List Command) (c : Command) → 1 ≤ length cs → length cs < 2 → c ≡ get_or cs 0 c
    → parts_kept x w by y k s cs ≡ command_kept x w by y k s c
unfolding part_rule part_around started parts_kept
one_kept x w by y k s [] c l h e = absurd (omega (arith, l))
one_kept x w by y k s (d ∷ []) c l h e = ap (command_kept x w by y k s) (sym e)
one_kept x w by y k s (d ∷ f ∷ cs) c l h e = absurd (omega (arith, h))

more_kept : {K : Type 0} (x : Setting) (w : K → Met → K) (by : FlowRule) (y : Around) (k : Facts) (s : K) (cs : List Command) → 2 ≤ length cs
    → parts_kept x w by y k s cs ≡ fold (command_kept x w F12 (part_around true y) (without_job x k)) s cs
unfolding part_rule started parts_kept
more_kept x w by y k s cs h =
    let more : nat_lt 1 (length cs) ≡ true = grind (arith, nat_tests) in
    ap (λ l. fold (command_kept x w (part_rule l by) (part_around l y) (started x l k)) s cs) more

pub no_parts : {K : Type 0} (x : Setting) (w : K → Met → K) (by : FlowRule) (y : Around) (k : Facts) (s : K) (q : Pipe) → length (out-Pipe q).parts < 1 → pipe_kept x w by y k s q ≡ s
unfolding parts_kept
no_parts x w by y k s q h = pipe_out x w by y k s q ∙ none_kept x w by y k s (out-Pipe q).parts h

pub one_part : {K : Type 0} (x : Setting) (w : K → Met → K) (by : FlowRule) (y : Around) (k : Facts) (s : K) (q : Pipe) (c : Command)
    → 1 ≤ length (out-Pipe q).parts → length (out-Pipe q).parts < 2 → c ≡ get_or (out-Pipe q).parts 0 c → pipe_kept x w by y k s q ≡ command_kept x w by y k s c
unfolding parts_kept
one_part x w by y k s q c l h e = pipe_out x w by y k s q ∙ one_kept x w by y k s (out-Pipe q).parts c l h e

pub more_parts : {K : Type 0} (x : Setting) (w : K → Met → K) (by : FlowRule) (y : Around) (k : Facts) (s : K) (q : Pipe) → 2 ≤ length (out-Pipe q).parts
    → pipe_kept x w by y k s q ≡ fold (command_kept x w F12 (part_around true y) (without_job x k)) s (out-Pipe q).parts
unfolding parts_kept
more_parts x w by y k s q h = pipe_out x w by y k s q ∙ more_kept x w by y k s (out-Pipe q).parts h

parts_folded : {K : Type 0} (x : Setting) (w : K → Met → K) (t : Trail K) (ps : List Part) → word_walked x w t (parts_from x.script ps) ≡ fold (part_step x w) t ps
unfolding items_walked parts_from part_step
parts_folded x w t [] = refl
parts_folded x w t (y ∷ ps) = parts_folded x w (part_step x w t y) ps

pub target_step-File : {K : Type 0} (x : Setting) (w : K → Met → K) (t : Trail K) (d : Direction) (v : Word) → target_step x w t (target.File d v) ≡ word_step x w t v
unfolding items_walked target_step
target_step-File x w t d v = ap (redirect_walked x w t) (rules.target_of-File x.script d v) ∙ parts_folded x w t v.parts

pub target_step-Here : {K : Type 0} (x : Setting) (w : K → Met → K) (t : Trail K) (h : HereDoc) → target_step x w t (target.Here h) ≡ word_step x w t h.body
unfolding items_walked target_step
target_step-Here x w t h = ap (redirect_walked x w t) (rules.target_of-Here x.script h) ∙ parts_folded x w t h.body.parts

pub ruleset targets = (target_step-File, target_step-Here)

redirects_folded : {K : Type 0} (x : Setting) (w : K → Met → K) (t : Trail K) (rs : List Redirect) → redirects_walked x w t (redirects_from x.script rs) ≡ fold (redirect_step x w) t rs
unfolding items_walked redirects_from target_step
redirects_folded x w t [] = refl
redirects_folded x w t (r ∷ rs) = redirects_folded x w (redirect_step x w t r) rs

pub command_out : {K : Type 0} (x : Setting) (w : K → Met → K) (by : FlowRule) (y : Around) (k : Facts) (s : K) (c : Command) → command_kept x w by y k s c
    ≡ kind_kept x w y (out-Command c).number
    (fold (redirect_step x w) (trail (known_at x (Before (out-Command c).number)) (w s (record { command = trees.command_of x.script c; rule = by; around = y; known = k }))) (out-Command c).redirects)
    (out-Command c).kind
unfolding items_walked command_kept kind_kept
command_out x w by y k s c =
    let first = λ (d : p.Command). trail (known_at x (Before (out-Command c).number)) (w s (record { command = d; rule = by; around = y; known = k })) in
    let inner = λ (t : Trail _). kind_walked x w y (out-Command c).number t (trees.kind_of x.script (out-Command c).kind) in
    ap (command_walked x w by y k s) (rules.command_of-out x.script c)
    ∙ ap (λ d. inner (redirects_walked x w (first d) (redirects_from x.script (out-Command c).redirects))) (sym (rules.command_of-out x.script c))
    ∙ ap inner (redirects_folded x w (first (trees.command_of x.script c)) (out-Command c).redirects)

-- simple commands

element_split : {K : Type 0} (x : Setting) (w : K → Met → K) (k : Facts) (t : Trail K) (e : Element) (rest : p.Elements)
    → elements_walked x w k t (element_from x.script e rest) ≡ elements_walked x w k (element_step x w k t e) rest
unfolding items_walked element_from element_step
element_split x w k t (Assignment' name s shape row) rest = refl
element_split x w k t (Word' s shape row) rest = refl
element_split x w k t (Redirection' at number target) rest = refl

elements_folded : {K : Type 0} (x : Setting) (w : K → Met → K) (k : Facts) (t : Trail K) (es : List Element) → elements_walked x w k t (elements_from x.script es) ≡ fold (element_step x w k) t es
unfolding items_walked elements_from
elements_folded x w k t [] = refl
elements_folded x w k t (e ∷ es) = element_split x w k t e (elements_from x.script es) ∙ elements_folded x w k (element_step x w k t e) es

pub element_step-Assignment : {K : Type 0} (x : Setting) (w : K → Met → K) (k : Facts) (t : Trail K) (s : Span) (v : Word) → element_step x w k t (element.Assignment s v) ≡ trail t.known (pattern_step x w k t.kept v)
unfolding items_walked element_step
element_step-Assignment x w k t s v =
    ap (elements_walked x w k t) (rules.element_from-Assignment x.script s v p.no_elements) ∙ ap (λ (u : Trail _). trail t.known u.kept) (parts_folded x w (trail k t.kept) v.parts)

pub element_step-Word : {K : Type 0} (x : Setting) (w : K → Met → K) (k : Facts) (t : Trail K) (v : Word) → element_step x w k t (element.Word v) ≡ word_step x w t v
unfolding items_walked element_step
element_step-Word x w k t v = ap (elements_walked x w k t) (rules.element_from-Word x.script v p.no_elements) ∙ parts_folded x w t v.parts

pub element_step-Redirection : {K : Type 0} (x : Setting) (w : K → Met → K) (k : Facts) (t : Trail K) (r : Redirect) → element_step x w k t (element.Redirection r) ≡ trail t.known (target_step x w (trail k t.kept) r.target).kept
unfolding items_walked element_step target_step
element_step-Redirection x w k t r = ap (elements_walked x w k t) (rules.element_from-Redirection x.script r p.no_elements)

pub ruleset elements = (element_step-Assignment, element_step-Word, element_step-Redirection)

-- compound commands

branches_folded : {K : Type 0} (x : Setting) (w : K → Met → K) (y : Around) (t : Trail K) (bs : List Branch) → branches_walked x w y t (branches_from x.script bs) ≡ fold (branch_step x w y) t bs
unfolding items_walked branches_from script_ran
branches_folded x w y t [] = refl
branches_folded x w y t (c ∷ cs) = branches_folded x w y (branch_step x w y t c) cs

otherwise_same : {K : Type 0} (x : Setting) (w : K → Met → K) (y : Around) (t : Trail K) (o : Option Script) → otherwise_walked x w y t (otherwise_from x.script o) ≡ otherwise_kept x w y t o
unfolding items_walked otherwise_from otherwise_kept script_ran
otherwise_same x w y t None = refl
otherwise_same x w y t (Some list) = refl

words_folded : {K : Type 0} (x : Setting) (w : K → Met → K) (t : Trail K) (vs : List Word) → words_walked x w t (words_from x.script vs) ≡ fold (word_step x w) t vs
unfolding items_walked words_from
words_folded x w t [] = refl
words_folded x w t (v ∷ vs) = ap (λ u. words_walked x w u (words_from x.script vs)) (parts_folded x w t v.parts) ∙ words_folded x w (word_step x w t v) vs

for_words_same : {K : Type 0} (x : Setting) (w : K → Met → K) (t : Trail K) (o : Option (List Word)) → (for_words_walked x w t (for_words_from x.script o)).kept ≡ for_words_kept x w t o
unfolding items_walked for_words_from for_words_kept
for_words_same x w t None = refl
for_words_same x w t (Some vs) = ap (λ (u : Trail _). u.kept) (words_folded x w t vs)

patterns_folded : {K : Type 0} (x : Setting) (w : K → Met → K) (k : Facts) (s : K) (vs : List Word) → patterns_walked x w k s (words_from x.script vs) ≡ fold (pattern_step x w k) s vs
unfolding items_walked words_from
patterns_folded x w k s [] = refl
patterns_folded x w k s (v ∷ vs) =
    ap (λ (u : Trail _). patterns_walked x w k u.kept (words_from x.script vs)) (parts_folded x w (trail k s) v.parts) ∙ patterns_folded x w k (pattern_step x w k s v) vs

clauses_folded : {K : Type 0} (x : Setting) (w : K → Met → K) (y : Around) (k : Facts) (t : Trail K) (cs : List Clause) → clauses_walked x w y k t (clauses_from x.script cs) ≡ fold (clause_step x w y k) t cs
unfolding items_walked clauses_from script_ran
clauses_folded x w y k t [] = refl
clauses_folded x w y k t (c ∷ cs) =
    ap (λ s. clauses_walked x w y k (clause_left (out-Clause c).end (items_walked x w y (clause_body k t.known s) (trees.script_of x.script (out-Clause c).body))) (clauses_from x.script cs))
    (patterns_folded x w k t.kept (out-Clause c).patterns)
    ∙ clauses_folded x w y k (clause_step x w y k t c) cs

pub kind_kept-Simple : {K : Type 0} (x : Setting) (w : K → Met → K) (y : Around) (n : ℕ) (t : Trail K) (es : List Element) → kind_kept x w y n t (kind.Simple es) ≡ simple_kept x w t es
unfolding items_walked kind_kept
kind_kept-Simple x w y n t es =
    ap (kind_walked x w y n t) (rules.kind_of-Simple x.script es)
    ∙ ap (λ k. (elements_walked x w k t (elements_from x.script es)).kept) (elements_gained x t.known es)
    ∙ ap (λ (u : Trail _). u.kept) (elements_folded x w (fold (element_gained x) t.known es) t es)

pub kind_kept-Group : {K : Type 0} (x : Setting) (w : K → Met → K) (y : Around) (n : ℕ) (t : Trail K) (l : Script) → kind_kept x w y n t (kind.Group l) ≡ from_kept x w y F10 t.known t.kept l
unfolding items_walked kind_kept script_ran
kind_kept-Group x w y n t l = ap (kind_walked x w y n t) (rules.kind_of-Group x.script l)

pub kind_kept-Subshell : {K : Type 0} (x : Setting) (w : K → Met → K) (y : Around) (n : ℕ) (t : Trail K) (l : Script) → kind_kept x w y n t (kind.Subshell l) ≡ from_kept x w alone F11 (without_job x (known_at x (Before n))) t.kept l
unfolding items_walked kind_kept script_ran
kind_kept-Subshell x w y n t l = ap (kind_walked x w y n t) (rules.kind_of-Subshell x.script l)

pub kind_kept-Loop : {K : Type 0} (x : Setting) (w : K → Met → K) (y : Around) (n : ℕ) (t : Trail K) (k : LoopKind) (c l : Script) → kind_kept x w y n t (kind.Loop k c l) ≡ loop_kept x w y n k t.kept c l
unfolding items_walked kind_kept script_ran
kind_kept-Loop x w y n t k c l = ap (kind_walked x w y n t) (rules.kind_of-Loop x.script k c l)

pub kind_kept-Define : {K : Type 0} (x : Setting) (w : K → Met → K) (y : Around) (n : ℕ) (t : Trail K) (s : Span) (c : Command) → kind_kept x w y n t (kind.Define s c)
    ≡ command_kept x w F13 (in_function (text_of x.script s)) (known_at x (Entry (text_of x.script s))) t.kept c
unfolding items_walked kind_kept command_kept
kind_kept-Define x w y n t s c = ap (kind_walked x w y n t) (rules.kind_of-Define x.script s c)

pub kind_kept-Cond : {K : Type 0} (x : Setting) (w : K → Met → K) (y : Around) (n : ℕ) (t : Trail K) (bs : List Branch) (o : Option Script) → kind_kept x w y n t (kind.Cond bs o) ≡ otherwise_kept x w y (fold (branch_step x w y) t bs) o
unfolding items_walked kind_kept
kind_kept-Cond x w y n t bs o =
    ap (kind_walked x w y n t) (rules.kind_of-Cond x.script bs o)
    ∙ ap (λ u. otherwise_walked x w y u (otherwise_from x.script o)) (branches_folded x w y t bs) ∙ otherwise_same x w y (fold (branch_step x w y) t bs) o

pub kind_kept-For : {K : Type 0} (x : Setting) (w : K → Met → K) (y : Around) (n : ℕ) (t : Trail K) (s : Span) (o : Option (List Word)) (l : Script) → kind_kept x w y n t (kind.For s o l) ≡ for_kept x w y n s (for_words_kept x w t o) l
unfolding items_walked kind_kept script_ran
kind_kept-For x w y n t s o l =
    ap (kind_walked x w y n t) (rules.kind_of-For x.script s o l) ∙ ap (λ k. for_kept x w y n s k l) (for_words_same x w t o)

pub kind_kept-Branches : {K : Type 0} (x : Setting) (w : K → Met → K) (y : Around) (n : ℕ) (t : Trail K) (v : Word) (cs : List Clause) → kind_kept x w y n t (kind.Branches v cs)
    ≡ (fold (clause_step x w y (word_step x w t v).known) (nothing_falls (word_step x w t v).kept) cs).kept
unfolding items_walked kind_kept
kind_kept-Branches x w y n t v cs =
    ap (kind_walked x w y n t) (rules.kind_of-Branches x.script v cs)
    ∙ ap (λ (u : Trail _). (clauses_walked x w y u.known (nothing_falls u.kept) (clauses_from x.script cs)).kept) (parts_folded x w t v.parts)
    ∙ ap (λ (u : Trail _). u.kept) (clauses_folded x w y (word_step x w t v).known (nothing_falls (word_step x w t v).kept) cs)

pub ruleset kinds = (kind_kept-Simple, kind_kept-Group, kind_kept-Subshell, kind_kept-Cond, kind_kept-Loop, kind_kept-For, kind_kept-Branches, kind_kept-Define)

-- words

pub part_step-Plain : {K : Type 0} (x : Setting) (w : K → Met → K) (t : Trail K) (s : Span) → part_step x w t (part.Plain s) ≡ t
unfolding items_walked part_step
part_step-Plain x w t s = ap (part_walked x w t) (rules.part_of-Plain x.script s)

pub part_step-Escaped : {K : Type 0} (x : Setting) (w : K → Met → K) (t : Trail K) (s : Span) → part_step x w t (part.Escaped s) ≡ t
unfolding items_walked part_step
part_step-Escaped x w t s = ap (part_walked x w t) (rules.part_of-Escaped x.script s)

pub part_step-Single : {K : Type 0} (x : Setting) (w : K → Met → K) (t : Trail K) (style : SingleStyle) (s : Span) → part_step x w t (part.Single style s) ≡ t
unfolding items_walked part_step
part_step-Single x w t style s = ap (part_walked x w t) (rules.part_of-Single x.script style s)

pub part_step-Tilde : {K : Type 0} (x : Setting) (w : K → Met → K) (t : Trail K) (s : Span) → part_step x w t (part.Tilde s) ≡ t
unfolding items_walked part_step
part_step-Tilde x w t s = ap (part_walked x w t) (rules.part_of-Tilde x.script s)

pub part_step-Joined : {K : Type 0} (x : Setting) (w : K → Met → K) (t : Trail K) (s : Span) → part_step x w t (part.Joined s) ≡ t
unfolding items_walked part_step
part_step-Joined x w t s = ap (part_walked x w t) (rules.part_of-Joined x.script s)

pub part_step-Param : {K : Type 0} (x : Setting) (w : K → Met → K) (t : Trail K) (q : Param) → part_step x w t (part.Param q) ≡ operator_step x w t q.subject q.operator
unfolding items_walked part_step operator_step
part_step-Param x w t q = ap (part_walked x w t) (rules.part_of-Param x.script q)

pub part_step-Arith : {K : Type 0} (x : Setting) (w : K → Met → K) (t : Trail K) (s : Span) (e : Expr) → part_step x w t (part.Arith s e) ≡ trail_gained x (named (assigned_in (trees.expression_of x.script e))) (expression_step x w t e)
unfolding items_walked part_step expression_step
part_step-Arith x w t s e = ap (part_walked x w t) (rules.part_of-Arith x.script s e)

pub part_step-Command : {K : Type 0} (x : Setting) (w : K → Met → K) (t : Trail K) (style : CommandStyle) (s : Span) (l : Script) → part_step x w t (part.Command style s l) ≡ trail t.known (from_kept x w alone F11 (without_job x t.known) t.kept l)
unfolding items_walked part_step script_ran
part_step-Command x w t style s l = ap (part_walked x w t) (rules.part_of-Command x.script style s l)

pub part_step-Double : {K : Type 0} (x : Setting) (w : K → Met → K) (t : Trail K) (s : Span) (ps : List Part) → part_step x w t (part.Double s ps) ≡ fold (part_step x w) t ps
unfolding items_walked part_step
part_step-Double x w t s ps = ap (part_walked x w t) (rules.part_of-Double x.script s ps) ∙ parts_folded x w t ps

pub ruleset parts = (part_step-Double, part_step-Param, part_step-Arith, part_step-Command, part_step-Plain, part_step-Escaped, part_step-Single, part_step-Tilde, part_step-Joined)

pub operator_step-Value : {K : Type 0} (x : Setting) (w : K → Met → K) (t : Trail K) (s : Subject) → operator_step x w t s operator.Value ≡ t
unfolding items_walked operator_step
operator_step-Value x w t s = ap (operator_walked x w t (trees.parameter_of x.script s)) (rules.operator_of-Value x.script)

pub operator_step-Length : {K : Type 0} (x : Setting) (w : K → Met → K) (t : Trail K) (s : Subject) → operator_step x w t s operator.Length ≡ t
unfolding items_walked operator_step
operator_step-Length x w t s = ap (operator_walked x w t (trees.parameter_of x.script s)) (rules.operator_of-Length x.script)

pub operator_step-Use : {K : Type 0} (x : Setting) (w : K → Met → K) (t : Trail K) (s : Subject) (a : Action) (colon : Bool) (v : Word) → operator_step x w t s (operator.Use a colon v)
    ≡ trail (gained x (action_gains (trees.parameter_of x.script s) a) t.known) (pattern_step x w (gained x (inner_gains (trees.parameter_of x.script s) a) t.known) t.kept v)
unfolding items_walked operator_step
operator_step-Use x w t s a colon v =
    ap (operator_walked x w t (trees.parameter_of x.script s)) (rules.operator_of-Use x.script a colon v)
    ∙ ap (λ (u : Trail _). trail (gained x (action_gains (trees.parameter_of x.script s) a) t.known) u.kept)
    (parts_folded x w (trail_gained x (inner_gains (trees.parameter_of x.script s) a) t) v.parts)

pub operator_step-Remove : {K : Type 0} (x : Setting) (w : K → Met → K) (t : Trail K) (s : Subject) (r : Removal) (v : Word) → operator_step x w t s (operator.Remove r v) ≡ trail t.known (pattern_step x w t.known t.kept v)
unfolding items_walked operator_step
operator_step-Remove x w t s r v =
    ap (operator_walked x w t (trees.parameter_of x.script s)) (rules.operator_of-Remove x.script r v) ∙ ap (λ (u : Trail _). trail t.known u.kept) (parts_folded x w t v.parts)

pub ruleset operators = (operator_step-Value, operator_step-Length, operator_step-Use, operator_step-Remove)

operands_folded : {K : Type 0} (x : Setting) (w : K → Met → K) (t : Trail K) (es : List (Binary × Expr)) → operands_walked x w t (operands_from x.script es) ≡ fold (operand_step x w) t es
unfolding items_walked operands_from expression_step
operands_folded x w t [] = refl
operands_folded x w t (e ∷ es) = operands_folded x w (operand_step x w t e) es

pub expression_step-Constant : {K : Type 0} (x : Setting) (w : K → Met → K) (t : Trail K) (s : Span) → expression_step x w t (expression.Constant s) ≡ t
unfolding items_walked expression_step part_step
expression_step-Constant x w t s = ap (expression_walked x w t) (rules.expression_of-Constant x.script s)

pub expression_step-Variable : {K : Type 0} (x : Setting) (w : K → Met → K) (t : Trail K) (s : Span) → expression_step x w t (expression.Variable s) ≡ t
unfolding items_walked expression_step part_step
expression_step-Variable x w t s = ap (expression_walked x w t) (rules.expression_of-Variable x.script s)

pub expression_step-Expansion : {K : Type 0} (x : Setting) (w : K → Met → K) (t : Trail K) (y : Part) → expression_step x w t (expression.Expansion y) ≡ part_step x w t y
unfolding items_walked expression_step part_step
expression_step-Expansion x w t y = ap (expression_walked x w t) (rules.expression_of-Expansion x.script y)

pub expression_step-Parenthesis : {K : Type 0} (x : Setting) (w : K → Met → K) (t : Trail K) (e : Expr) → expression_step x w t (expression.Parenthesis e) ≡ expression_step x w t e
unfolding items_walked expression_step part_step
expression_step-Parenthesis x w t e = ap (expression_walked x w t) (rules.expression_of-Parenthesis x.script e)

pub expression_step-Unary : {K : Type 0} (x : Setting) (w : K → Met → K) (t : Trail K) (u : Unary) (e : Expr) → expression_step x w t (expression.Unary u e) ≡ expression_step x w t e
unfolding items_walked expression_step part_step
expression_step-Unary x w t u e = ap (expression_walked x w t) (rules.expression_of-Unary x.script u e)

pub expression_step-Choice : {K : Type 0} (x : Setting) (w : K → Met → K) (t : Trail K) (c y n : Expr) → expression_step x w t (expression.Choice c y n) ≡ expression_step x w (expression_step x w (expression_step x w t c) y) n
unfolding items_walked expression_step part_step
expression_step-Choice x w t c y n = ap (expression_walked x w t) (rules.expression_of-Choice x.script c y n)

pub expression_step-Assign : {K : Type 0} (x : Setting) (w : K → Met → K) (t : Trail K) (s : Span) (o : Option Binary) (e : Expr) → expression_step x w t (expression.Assign s o e) ≡ expression_step x w t e
unfolding items_walked expression_step part_step
expression_step-Assign x w t s o e = ap (expression_walked x w t) (rules.expression_of-Assign x.script s o e)

pub expression_step-Chain : {K : Type 0} (x : Setting) (w : K → Met → K) (t : Trail K) (e : Expr) (es : List (Binary × Expr)) → expression_step x w t (expression.Chain e es) ≡ fold (operand_step x w) (expression_step x w t e) es
unfolding items_walked expression_step
expression_step-Chain x w t e es = ap (expression_walked x w t) (rules.expression_of-Chain x.script e es) ∙ operands_folded x w (expression_step x w t e) es

pub ruleset expressions = (expression_step-Constant, expression_step-Variable, expression_step-Expansion, expression_step-Parenthesis, expression_step-Unary, expression_step-Chain, expression_step-Choice, expression_step-Assign)

-- lists that begin with what is known

pub from_made : {K : Type 0} (x : Setting) (w : K → Met → K) (y : Around) (by : FlowRule) (k : Facts) (s : K) (t : Script) (b0 b1 : FlowRule) (o0 o1 : Behind) (s1 : K)
    → b0 ≡ by → o0 ≡ both k → course b1 o1 s1 ≡ script_ran x w y (course b0 o0 s) t → s1 ≡ from_kept x w y by k s t
from_made x w y by k s t b0 b1 o0 o1 s1 h i e =
    ap (λ (c : Course _). c.kept) e ∙ ap₂ (λ b o. (script_ran x w y (course b o s) t).kept) h i

pub condition_kept : {K : Type 0} (x : Setting) (w : K → Met → K) (y : Around) (n : ℕ) (s : K) (condition : Script) (b0 b1 : FlowRule) (o0 o1 : Behind) (s1 : K)
    → b0 ≡ F7 → o0 ≡ both (known_at x (Head n)) → course b1 o1 s1 ≡ script_ran x w y (course b0 o0 s) condition → s1 ≡ (condition_ran x w y n s condition).kept
condition_kept x w y n s condition b0 b1 o0 o1 s1 h i e =
    ap (λ (c : Course _). c.kept) e ∙ ap₂ (λ b o. (script_ran x w y (course b o s) condition).kept) h i

pub condition_known : {K : Type 0} (x : Setting) (w : K → Met → K) (y : Around) (n : ℕ) (k : LoopKind) (s : K) (condition : Script) (b0 b1 : FlowRule) (o0 o1 : Behind) (f : Facts) (s1 : K)
    → b0 ≡ F7 → o0 ≡ both (known_at x (Head n)) → course b1 o1 s1 ≡ script_ran x w y (course b0 o0 s) condition → f ≡ turns k o1 → f ≡ turns k (condition_ran x w y n s condition).behind
condition_known x w y n k s condition b0 b1 o0 o1 f s1 h i e j =
    j ∙ ap (λ (c : Course _). turns k c.behind) e ∙ ap₂ (λ b o. turns k (script_ran x w y (course b o s) condition).behind) h i

pub branch_made : {K : Type 0} (x : Setting) (w : K → Met → K) (y : Around) (t : Trail K) (c : Branch) (b0 b1 : FlowRule) (o0 o1 : Behind) (s1 s2 : K)
    → b0 ≡ F6 → o0 ≡ both t.known → course b1 o1 s1 ≡ script_ran x w y (course b0 o0 t.kept) (out-Branch c).condition → s2 ≡ from_kept x w y F6 o1.zero s1 (out-Branch c).body
    → trail o1.nonzero s2 ≡ branch_step x w y t c
branch_made x w y t c b0 b1 o0 o1 s1 s2 h i e m =
    ap (trail o1.nonzero) m
    ∙ ap (λ (d : Course _). branch_left d (script_ran x w y (branch_body d) (out-Branch c).body))
    (e ∙ ap₂ (λ b o. script_ran x w y (course b o t.kept) (out-Branch c).condition) h i)

pub clause_made : {K : Type 0} (x : Setting) (w : K → Met → K) (y : Around) (k : Facts) (t : Trail K) (c : Clause) (b0 b1 : FlowRule) (o0 o1 : Behind) (f : Facts) (s1 s2 : K)
    → b0 ≡ F9 → o0 ≡ both (meet k t.known) → s1 ≡ fold (pattern_step x w k) t.kept (out-Clause c).patterns → course b1 o1 s2 ≡ script_ran x w y (course b0 o0 s1) (out-Clause c).body
    → f ≡ falls (out-Clause c).end o1 → trail f s2 ≡ clause_step x w y k t c
clause_made x w y k t c b0 b1 o0 o1 f s1 s2 h i j e m =
    ap (λ g. trail g s2) m
    ∙ ap (λ (d : Course _). clause_left (out-Clause c).end d)
    (e ∙ ap₂ (λ b o. script_ran x w y (course b o s1) (out-Clause c).body) h i)
    ∙ ap (λ s. clause_left (out-Clause c).end (script_ran x w y (clause_body k t.known s) (out-Clause c).body)) j

-- the script

pub whole_out : {K : Type 0} (x : Setting) (w : K → Met → K) (k : Facts) (s : K) (t : Script) → from_kept x w alone F1 k s t ≡ script_walked x w k s (trees.script_of x.script t)
unfolding script_ran
whole_out x w k s t = refl
