-- What is known after a list, by its status: what `sh_domain` says of what is seen there, as one
-- fact for each.
-- POSIX.1-2024, XCU 2.9.2 (pipelines), 2.9.3 (lists).
use Rattle.std.specs.Prelude.{◌≡◌, Bool, true, false, [], ◌∷◌}
use Rattle.sh_tree.specs.declared.tree.ClauseEnd.{ClauseEnd}
use Rattle.sh_tree.specs.declared.tree.ClauseEnd.TheVariants as clause
use Rattle.sh_tree.specs.declared.tree.Link.{Link}
use Rattle.sh_tree.specs.declared.tree.Link.TheVariants as link
use Rattle.sh_tree.specs.declared.tree.LoopKind.{LoopKind}
use Rattle.sh_tree.specs.declared.tree.LoopKind.TheVariants as loop
use Rattle.sh_tree.specs.standard.program.Syntax as p
use Rattle.sh_domain.specs.Facts.{Facts, NotReached, meet}
use Rattle.sh_domain.specs.Gains.{job, named}
use Rattle.sh_domain.specs.Views.{AfterZero, AfterNonzero}
use Rattle.sh_rules.specs.Settings.{Setting, known_at, gained, without_job}

-- after a status of zero, and after another one
pub record Behind : Type 0 where
  pub zero : Facts
  pub nonzero : Facts

abbrev pub either : Facts → Facts → Behind
either z n = record { zero = z; nonzero = n }

-- the same after both
abbrev pub both : Facts → Behind
both k = either k k

abbrev pub IsSame : Behind → Type 0
IsSame o = o.zero ≡ o.nonzero

-- whatever the status was
abbrev pub in_any_case : Behind → Facts
in_any_case o = meet o.zero o.nonzero

unfoldable pub swapped : Bool → Behind → Behind
swapped false o = o
swapped true o = either o.nonzero o.zero

-- what the pipeline after `&&` or `||` is entered with
unfoldable pub link_known : Link → Behind → Facts
link_known link.AndThen o = o.zero
link_known link.OrElse o = o.nonzero

-- `a && b` is zero if b is, `a || b` is not zero if b is not
unfoldable pub linked : Link → Behind → Behind → Behind
linked link.AndThen o q = either q.zero (meet o.nonzero q.nonzero)
linked link.OrElse o q = either (meet o.zero q.zero) q.nonzero

-- a loop goes on while its condition is zero, or until it is
unfoldable pub turns : LoopKind → Behind → Facts
turns loop.While o = o.zero
turns loop.Until o = o.nonzero

-- `;&` goes on with the next list
unfoldable pub falls : ClauseEnd → Behind → Facts
falls clause.Break o = NotReached
falls clause.FallThrough o = in_any_case o

-- a process that is started, as an asynchronous item or a part of a pipeline, may have no `!`
unfoldable pub started : Setting → Bool → Facts → Facts
started x true k = without_job x k
started x false k = k

-- a command alone has its own facts; a pipeline of two or more leaves what was known before it
unfoldable pub parts_behind : Setting → Facts → p.Commands → Behind
parts_behind x k (p.more_commands (p.command n at kind rs) p.no_commands) = either (known_at x (AfterZero n)) (known_at x (AfterNonzero n))
parts_behind x k _ = both k

unfoldable pub pipeline_behind : Setting → Facts → p.Pipeline → Behind
pipeline_behind x k (p.pipeline negated cs) = swapped negated (parts_behind x k cs)

abbrev pub link_behind : Setting → Behind → Link → p.Pipeline → Behind
link_behind x o l q = linked l o (pipeline_behind x (link_known l o) q)

unfoldable pub links_behind : Setting → Behind → p.Links → Behind
links_behind x o p.no_links = o
links_behind x o (p.more_links l q rest) = links_behind x (link_behind x o l q) rest

unfoldable pub list_behind : Setting → Facts → p.AndOr → Behind
list_behind x k (p.and_or first rest) = links_behind x (pipeline_behind x k first) rest

-- after an item before which this is known in any case: after an asynchronous one `!` is set, and
-- its status is zero
unfoldable pub behind_known : Setting → Facts → Bool → p.AndOr → Behind
behind_known x k false list = list_behind x k list
behind_known x k true list = either (gained x (named (job ∷ [])) k) NotReached

abbrev pub item_behind : Setting → Behind → Bool → p.AndOr → Behind
item_behind x o background list = behind_known x (in_any_case o) background list

unfoldable pub items_behind : Setting → Behind → p.Items → Behind
items_behind x o p.no_items = o
items_behind x o (p.more_items list background rest) = items_behind x (item_behind x o background list) rest
