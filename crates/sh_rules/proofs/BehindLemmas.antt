-- What is known after a piece of a tree, by the pieces one level below it.
use Rattle.std.proofs.Common.{◌≡◌, ℕ, zero, suc, ◌<◌, ◌==◌, Bor, Bool, true, false, not, ◌&&◌, true≢false, Option, Some, None, is_some, unwrap_or, List, [], ◌∷◌, length, get_or, drop, fold, refl, sym, ap, ◌∙◌, arith}
use Rattle.sh_tree.specs.declared.tree.AndOr.{AndOr, out-AndOr}
use Rattle.sh_tree.specs.declared.tree.Command.{Command, out-Command}
use Rattle.sh_tree.specs.declared.tree.Item.{Item, out-Item}
use Rattle.sh_tree.specs.declared.tree.Link.{Link}
use Rattle.sh_tree.specs.declared.tree.Pipe.{Pipe, out-Pipe}
use Rattle.sh_tree.specs.declared.tree.Script.{Script, out-Script}
use Rattle.std.proofs.lemmas.Bool.Decides.{nat_tests}
use Rattle.std.specs.Option.{option_copied}
use Rattle.sh_tree.specs.standard.Words.{lone_part}
use Rattle.sh_tree.specs.Lists.{commands_from, links_from, items_from}
use Rattle.sh_tree.specs.standard.program.Syntax as p
use Rattle.sh_tree.specs.standard.program.Trees as trees
use Rattle.sh_tree.proofs.ProgramRules as rules
use Rattle.sh_domain.specs.Facts.{Facts, NotReached, meet}
use Rattle.sh_domain.specs.Gains.{job, named}
use Rattle.sh_domain.specs.Views.{AfterZero, AfterNonzero}
use Rattle.sh_rules.specs.Settings.{Setting, known_at, gained}
use Rattle.sh_domain.proofs.OrderLemmas.{within_itself, within_same, meet_first, meet_greatest}
use Rattle.sh_rules.specs.Behind.{Behind, IsSame, both, either, in_any_case, swapped, link_known, linked, parts_behind, pipeline_behind, links_behind, list_behind, behind_known, items_behind}
use Rattle.sh_domain.specs.declared.knowledge.Knowledge.TheVariants as knowledge
use Rattle.sh_domain.specs.Knowledge.{knowledge_facts}
use Rattle.sh_rules.specs.Walks.{facts_in, commands_behind, pipe_behind, link_left, and_or_behind, behind_item, item_left, is_settled, script_behind}

-- parts

one_part : (x : Setting) (k : Facts) (c : Command)
    → commands_behind x k (c ∷ []) ≡ either (known_at x (AfterZero (out-Command c).number)) (known_at x (AfterNonzero (out-Command c).number))
unfolding commands_behind commands_from parts_behind
one_part x k c = ap (λ d. parts_behind x k (p.more_commands d p.no_commands)) (rules.command_of-out x.script c)

no_part : (x : Setting) (k : Facts) → commands_behind x k [] ≡ both k
unfolding commands_behind commands_from parts_behind
no_part x k = refl

more : (x : Setting) (k : Facts) (c d : p.Command) (cs : p.Commands) → parts_behind x k (p.more_commands c (p.more_commands d cs)) ≡ both k
unfolding parts_behind
more x k (p.command n at kind rs) d cs = refl

more_parts : (x : Setting) (k : Facts) (c d : Command) (cs : List Command) → commands_behind x k (c ∷ d ∷ cs) ≡ both k
unfolding commands_behind commands_from
more_parts x k c d cs = more x k (trees.command_of x.script c) (trees.command_of x.script d) (commands_from x.script cs)

lone_parts : (x : Setting) (k : Facts) (cs : List Command) (c : Command) → lone_part cs ≡ Some c
    → commands_behind x k cs ≡ either (known_at x (AfterZero (out-Command c).number)) (known_at x (AfterNonzero (out-Command c).number))
unfolding lone_part
lone_parts x k [] c e = cc
lone_parts x k (d ∷ []) c e = one_part x k d ∙ ap (λ (o : Option Command). left (unwrap_or o d)) e
  where
    left : Command → Behind
    left c = either (known_at x (AfterZero (out-Command c).number)) (known_at x (AfterNonzero (out-Command c).number))
lone_parts x k (d ∷ f ∷ cs) c e = cc

other_parts : (x : Setting) (k : Facts) (cs : List Command) → lone_part cs ≡ None → commands_behind x k cs ≡ both k
unfolding lone_part
other_parts x k [] e = no_part x k
other_parts x k (d ∷ []) e = cc
other_parts x k (d ∷ f ∷ cs) e = more_parts x k d f cs

pipe_out : (x : Setting) (k : Facts) (q : Pipe) → pipe_behind x k q ≡ swapped (out-Pipe q).negated (commands_behind x k (out-Pipe q).parts)
unfolding pipe_behind pipeline_behind commands_behind
pipe_out x k q = ap (pipeline_behind x k) (rules.pipeline_of-out x.script q)

pub lone : (x : Setting) (k : Facts) (q : Pipe) (c : Command) → lone_part (out-Pipe q).parts ≡ Some c
    → pipe_behind x k q ≡ swapped (out-Pipe q).negated (either (known_at x (AfterZero (out-Command c).number)) (known_at x (AfterNonzero (out-Command c).number)))
lone x k q c e = pipe_out x k q ∙ ap (swapped (out-Pipe q).negated) (lone_parts x k (out-Pipe q).parts c e)

swapped_both : (b : Bool) (k : Facts) → swapped b (both k) ≡ both k
unfolding swapped
swapped_both true k = refl
swapped_both false k = refl

pub not_lone : (x : Setting) (k : Facts) (q : Pipe) → lone_part (out-Pipe q).parts ≡ None → pipe_behind x k q ≡ both k
not_lone x k q e = pipe_out x k q ∙ ap (swapped (out-Pipe q).negated) (other_parts x k (out-Pipe q).parts e) ∙ swapped_both (out-Pipe q).negated k

pub link_out : (x : Setting) (o : Behind) (l : Link) (q : Pipe) → link_left x o (l, q) ≡ linked l o (pipe_behind x (link_known l o) q)
unfolding pipe_behind
link_out x o l q = refl

-- lists

links_folded : (x : Setting) (o : Behind) (ls : List (Link × Pipe)) → links_behind x o (links_from x.script ls) ≡ fold (link_left x) o ls
unfolding links_behind links_from
links_folded x o [] = refl
links_folded x o (l ∷ ls) = links_folded x (link_left x o l) ls

pub and_or_out : (x : Setting) (k : Facts) (l : AndOr) → and_or_behind x k l ≡ fold (link_left x) (pipe_behind x k (out-AndOr l).first) (out-AndOr l).rest
unfolding and_or_behind list_behind pipe_behind
and_or_out x k l = ap (list_behind x k) (rules.and_or_of-out x.script l) ∙ links_folded x (pipe_behind x k (out-AndOr l).first) (out-AndOr l).rest

pub foreground : (x : Setting) (k : Facts) (i : Item) → (out-Item i).background ≡ false → behind_item x k i ≡ and_or_behind x k (out-Item i).list
unfolding behind_item behind_known and_or_behind
foreground x k i e = ap (λ b. behind_known x k b (trees.and_or_of x.script (out-Item i).list)) e

pub background : (x : Setting) (k : Facts) (i : Item) → (out-Item i).background ≡ true → behind_item x k i ≡ either (gained x (named (job ∷ [])) k) NotReached
unfolding behind_item behind_known
background x k i e = ap (λ b. behind_known x k b (trees.and_or_of x.script (out-Item i).list)) e

pub item_out : (x : Setting) (o : Behind) (i : Item) → item_left x o i ≡ behind_item x (in_any_case o) i
unfolding item_left behind_item
item_out x o i = refl

items_folded : (x : Setting) (o : Behind) (is : List Item) → items_behind x o (items_from x.script is) ≡ fold (item_left x) o is
unfolding items_behind items_from item_left
items_folded x o [] = refl
items_folded x o (i ∷ is) = items_folded x (item_left x o i) is

pub script_out : (x : Setting) (o : Behind) (t : Script) → script_behind x o t ≡ fold (item_left x) o (out-Script t).items
unfolding script_behind
script_out x o t = ap (items_behind x o) (rules.script_of-out x.script t) ∙ items_folded x o (out-Script t).items

-- what an item settles

alike_parts : (x : Setting) (j k : Facts) (cs : List Command) → is_some (lone_part cs) ≡ true → commands_behind x j cs ≡ commands_behind x k cs
unfolding lone_part
alike_parts x j k [] e = cc
alike_parts x j k (c ∷ []) e = one_part x j c ∙ sym (one_part x k c)
alike_parts x j k (c ∷ d ∷ cs) e = cc

alike_pipe : (x : Setting) (j k : Facts) (q : Pipe) → is_some (lone_part (out-Pipe q).parts) ≡ true → pipe_behind x j q ≡ pipe_behind x k q
alike_pipe x j k q e = pipe_out x j q ∙ ap (swapped (out-Pipe q).negated) (alike_parts x j k (out-Pipe q).parts e) ∙ sym (pipe_out x k q)

alike_list : (x : Setting) (j k : Facts) (l : AndOr) → is_some (lone_part (out-Pipe (out-AndOr l).first).parts) ≡ true → and_or_behind x j l ≡ and_or_behind x k l
alike_list x j k l e =
    and_or_out x j l ∙ ap (λ o. fold (link_left x) o (out-AndOr l).rest) (alike_pipe x j k (out-AndOr l).first e) ∙ sym (and_or_out x k l)

both_hold : (a b : Bool) → (not a && b) ≡ true → (a ≡ false) × (b ≡ true)
both_hold true b h = absurd (true≢false (sym h))
both_hold false b h = (refl, h)

alike : (x : Setting) (o p : Behind) (i : Item) → is_settled i ≡ true → item_left x o i ≡ item_left x p i
unfolding is_settled
alike x o p i e =
    let both = both_hold (out-Item i).background (is_some (lone_part (out-Pipe (out-AndOr (out-Item i).list).first).parts)) e in
    item_out x o i ∙ foreground x (in_any_case o) i both.0
    ∙ alike_list x (in_any_case o) (in_any_case p) (out-Item i).list both.1
    ∙ sym (foreground x (in_any_case p) i both.0) ∙ sym (item_out x p i)

pub settled_there : (x : Setting) (o p : Behind) (n : ℕ) (is : List Item) (i : Item) → n < length is → i ≡ get_or is n i → is_settled i ≡ true
    → fold (item_left x) o (drop n is) ≡ fold (item_left x) p is
settled_there x o p n [] i l h e = absurd (omega arith)
settled_there x o p zero (j ∷ js) i l h e = ap (λ q. fold (item_left x) q js) (alike x o p j (ap is_settled (sym h) ∙ e))
settled_there x o p (suc n) (j ∷ js) i l h e = settled_there x o (item_left x p j) n js i (omega (arith, l)) h e

-- a pipeline of two or more commands

none : (ls : List (Link × Pipe)) → true ≡ (length ls == 0) → ls ≡ []
none [] e = refl
none (l ∷ ls) e = absurd (grind (arith, nat_tests, e))

not_some : (p : Option (Bor Command)) (b : Bool) → is_some p ≡ not b → b ≡ true → option_copied p ≡ None
not_some None b e h = refl
not_some (Some c) true e h = absurd (true≢false e)
not_some (Some c) false e h = absurd (true≢false (sym h))

pub kept : (x : Setting) (o : Behind) (i : Item) (ls : List (Link × Pipe)) (p : Option (Bor Command)) (b : Bool) → (out-Item i).background ≡ false → ls ≡ (out-AndOr (out-Item i).list).rest → true ≡ (length ls == 0)
    → option_copied p ≡ lone_part (out-Pipe (out-AndOr (out-Item i).list).first).parts → is_some p ≡ not b → b ≡ true → item_left x o i ≡ both (in_any_case o)
kept x o i ls p b alone rest empty lone is h =
    let list = (out-Item i).list in
    item_out x o i ∙ foreground x (in_any_case o) i alone ∙ and_or_out x (in_any_case o) list
    ∙ ap (fold (link_left x) (pipe_behind x (in_any_case o) (out-AndOr list).first)) (sym rest ∙ none ls empty)
    ∙ not_lone x (in_any_case o) (out-AndOr list).first (sym lone ∙ not_some p b is h)

meet_itself : (f : Facts) → meet f f ≡ f
meet_itself f = within_same (meet f f) f (meet_first f f) (meet_greatest f f f (within_itself f) (within_itself f))

pub same_kept : (o : Behind) → IsSame o → both (in_any_case o) ≡ o
same_kept o e =
    let joined : in_any_case o ≡ o.zero = ap (meet o.zero) (sym e) ∙ meet_itself o.zero in
    ap both joined ∙ ap (either o.zero) e

-- the list of an item that is no asynchronous one

pub lone_out : (x : Setting) (k : Facts) (l : AndOr) (c : Command) → lone_part (out-Pipe (out-AndOr l).first).parts ≡ Some c
    → and_or_behind x k l
    ≡ fold (link_left x) (swapped (out-Pipe (out-AndOr l).first).negated (either (known_at x (AfterZero (out-Command c).number)) (known_at x (AfterNonzero (out-Command c).number)))) (out-AndOr l).rest
lone_out x k l c e = and_or_out x k l ∙ ap (λ o. fold (link_left x) o (out-AndOr l).rest) (lone x k (out-AndOr l).first c e)

pub foreground_out : (x : Setting) (o : Behind) (i : Item) → (out-Item i).background ≡ false → item_left x o i ≡ and_or_behind x (in_any_case o) (out-Item i).list
foreground_out x o i e = item_out x o i ∙ foreground x (in_any_case o) i e

-- where no run comes

pub nothing_known : (x : Setting) → facts_in x knowledge.NotReached ≡ NotReached
unfolding facts_in knowledge_facts
nothing_known x = refl
