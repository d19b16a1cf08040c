-- A walk over facts goes over the commands as they are entered, by whatever what is known has to do
-- with what is seen.
use Rattle.std.proofs.Common.{◌≡◌, ℕ, Bool, true, false, List, [], ◌∷◌, ◌++◌, refl, sym, subst}
use Rattle.sh_tree.specs.declared.tree.ClauseEnd.{ClauseEnd}
use Rattle.sh_tree.specs.declared.tree.ClauseEnd.TheVariants as clause
use Rattle.sh_tree.specs.declared.tree.Action.{Action}
use Rattle.sh_tree.specs.declared.tree.Action.TheVariants as action
use Rattle.sh_tree.specs.declared.tree.Link.{Link}
use Rattle.sh_tree.specs.declared.tree.Link.TheVariants as link
use Rattle.sh_tree.specs.declared.tree.LoopKind.{LoopKind}
use Rattle.sh_tree.specs.declared.tree.LoopKind.TheVariants as loop
use Rattle.sh_tree.specs.standard.program.Syntax as p
use Rattle.sh_tree.specs.standard.program.Words.{operands_in}
use Rattle.sh_domain.specs.declared.rule.FlowRule.{FlowRule}
use Rattle.sh_domain.specs.declared.rule.FlowRule.TheVariants.{F2, F3, F6, F7, F8, F9, F10, F11, F13}
use Rattle.sh_domain.specs.Entries as e
use Rattle.sh_domain.specs.Entries.{Around, Entered}
use Rattle.sh_domain.specs.Facts.{Facts, NotReached, meet}
use Rattle.sh_domain.specs.Gains.{Gains, no_gains, and_gains, named, job, sure, operator_gains, assigned_in, part_gains, word_gains, words_gains, expanded_gains, operands_gains, redirect_gains, redirects_gains}
use Rattle.sh_domain.specs.Views.{Slot, Before, AfterZero, AfterNonzero, Head, Entry, Seen, After, Both, Each, if_zero, if_nonzero, at, gaining}
use Rattle.sh_domain.specs.Views as views
use Rattle.sh_gains.specs.Knowing.{inner_gains, action_gains}
use Rattle.sh_rules.specs.Settings.{Setting, known_at, gained, without_job}
use Rattle.sh_rules.specs.Behind.{Behind, both, either, in_any_case, swapped, link_known, linked, turns, falls, started, parts_behind, pipeline_behind, link_behind, links_behind, list_behind, behind_known, item_behind, items_behind}
use Rattle.sh_rules.specs.Walked.{Met, Trail, trail, trail_gained, Course, course, branch_body, branch_left, clause_body, clause_left, nothing_falls, items_walked, list_walked, links_walked, pipeline_walked, commands_walked, command_walked, kind_walked, elements_walked, redirect_walked, redirects_walked, branches_walked, otherwise_walked, for_words_walked, words_walked, clauses_walked, patterns_walked, word_walked, part_walked, operator_walked, expression_walked, operands_walked}
use Rattle.sh_rules.specs.Meaning.{met_at}
use Rattle.sh_rules.proofs.GainLemmas.{none_gained}

-- What is known follows what is seen: what this says of the two at a place it says of them after
-- each step of a walk.
pub record Follows (x : Setting) (R : Seen → Facts → Type 0) : Type 0 where
  pub slot : (s : Slot) → R (at s) (known_at x s)
  pub gain : (g : Gains) (s : Seen) (k : Facts) → R s k → R (gaining g s) (gained x g k)
  pub gains : (g h : Gains) (s : Seen) (k : Facts) → R (gaining h (gaining g s)) k → R (gaining (and_gains g h) s) k
  pub job : (s : Seen) (k : Facts) → R s k → R (views.without_job s) (without_job x k)
  pub joined : (s t : Seen) (k l : Facts) → R s k → R t l → R (s ++ t) (meet k l)
  pub twice : (s : Seen) (k l : Facts) → R s k → R s l → R s (meet k l)
  pub nothing : R [] NotReached

-- after a list, by its status
pub record Stands (R : Seen → Facts → Type 0) (o : After) (b : Behind) : Type 0 where
  pub zero : R (if_zero o) b.zero
  pub nonzero : R (if_nonzero o) b.nonzero

-- What is kept of commands, from what was kept before: nothing changes it if there are none, each
-- does where it is met, and all do one after the other.
pub record Leads {K : Type 0} (R : Seen → Facts → Type 0) (w : K → Met → K) (L : List Entered → K → K → Type 0) : Type 0 where
  pub none : (s : K) → L [] s s
  pub one : (y : Entered) (k : Facts) (s : K) → R y.seen k → L (y ∷ []) s (w s (met_at y k))
  pub more : (es fs : List Entered) (s t u : K) → L es s t → L fs t u → L (es ++ fs) s u

-- along a word, and along a list
pub record Led {K : Type 0} (R : Seen → Facts → Type 0) (L : List Entered → K → K → Type 0) (q : Seen) (es : List Entered) (s : K) (t : Trail K) : Type 0 where
  pub known : R q t.known
  pub kept : L es s t.kept

pub record Ran {K : Type 0} (R : Seen → Facts → Type 0) (L : List Entered → K → K → Type 0) (o : After) (es : List Entered) (s : K) (c : Course K) : Type 0 where
  pub behind : Stands R o c.behind
  pub kept : L es s c.kept

module _ (x : Setting) (R : Seen → Facts → Type 0) (f : Follows x R) where
  -- After lists

  pub both_stand : (s : Seen) (k : Facts) → R s k → Stands R (Both s) (both k)
  unfolding if_zero if_nonzero
  both_stand s k h = record { zero = h; nonzero = h }

  each_stand : (s t : Seen) (k l : Facts) → R s k → R t l → Stands R (Each s t) (either k l)
  unfolding if_zero if_nonzero
  each_stand s t k l h j = record { zero = h; nonzero = j }

  pub any_led : (o : After) (b : Behind) → Stands R o b → R (views.in_any_case o) (in_any_case b)
  unfolding views.in_any_case if_zero if_nonzero
  any_led (Both s) b h = f.twice s b.zero b.nonzero h.zero h.nonzero
  any_led (Each z n) b h = f.joined z n b.zero b.nonzero h.zero h.nonzero

  swapped_stand : (negated : Bool) (o : After) (b : Behind) → Stands R o b → Stands R (views.swapped negated o) (swapped negated b)
  unfolding swapped views.swapped
  swapped_stand false o b h = h
  swapped_stand true o b h = each_stand _ _ _ _ h.nonzero h.zero

  pub link_led : (l : Link) (o : After) (b : Behind) → Stands R o b → R (e.link_seen l o) (link_known l b)
  unfolding link_known e.link_seen
  link_led link.AndThen o b h = h.zero
  link_led link.OrElse o b h = h.nonzero

  linked_stand : (l : Link) (o r : After) (b c : Behind) → Stands R o b → Stands R r c → Stands R (e.linked l o r) (linked l b c)
  unfolding linked e.linked
  linked_stand link.AndThen o r b c h j = each_stand _ _ _ _ j.zero (f.joined (if_nonzero o) (if_nonzero r) b.nonzero c.nonzero h.nonzero j.nonzero)
  linked_stand link.OrElse o r b c h j = each_stand _ _ _ _ (f.joined (if_zero o) (if_zero r) b.zero c.zero h.zero j.zero) j.nonzero

  parts_stand : (s : Seen) (k : Facts) → R s k → (cs : p.Commands) → Stands R (e.parts_after s cs) (parts_behind x k cs)
  unfolding parts_behind e.parts_after
  parts_stand s k h p.no_commands = both_stand s k h
  parts_stand s k h (p.more_commands (p.command n offset kind rs) p.no_commands) = each_stand _ _ _ _ (f.slot (AfterZero n)) (f.slot (AfterNonzero n))
  parts_stand s k h (p.more_commands (p.command n offset kind rs) (p.more_commands d cs)) = both_stand s k h

  pub pipeline_stands : (s : Seen) (k : Facts) → R s k → (q : p.Pipeline) → Stands R (e.pipeline_after s q) (pipeline_behind x k q)
  unfolding pipeline_behind e.pipeline_after
  pipeline_stands s k h (p.pipeline negated cs) = swapped_stand negated _ _ (parts_stand s k h cs)

  pub next_stands : (l : Link) (o : After) (b : Behind) → Stands R o b → (q : p.Pipeline)
      → Stands R (e.linked l o (e.pipeline_after (e.link_seen l o) q)) (link_behind x b l q)
  next_stands l o b h q = linked_stand l o _ b _ h (pipeline_stands (e.link_seen l o) (link_known l b) (link_led l o b h) q)

  links_stand : (o : After) (b : Behind) → Stands R o b → (ls : p.Links) → Stands R (e.links_after o ls) (links_behind x b ls)
  unfolding links_behind e.links_after
  links_stand o b h p.no_links = h
  links_stand o b h (p.more_links l q rest) = links_stand (e.linked l o (e.pipeline_after (e.link_seen l o) q)) (link_behind x b l q) (next_stands l o b h q) rest

  list_stands : (s : Seen) (k : Facts) → R s k → (t : p.AndOr) → Stands R (e.list_after s t) (list_behind x k t)
  unfolding list_behind e.list_after
  list_stands s k h (p.and_or first rest) = links_stand _ _ (pipeline_stands s k h first) rest

  pub item_stands : (o : After) (b : Behind) → Stands R o b → (background : Bool) (t : p.AndOr)
      → Stands R (e.item_after (views.in_any_case o) background t) (item_behind x b background t)
  unfolding behind_known e.item_after
  item_stands o b h false t = list_stands _ _ (any_led o b h) t
  item_stands o b h true t = each_stand _ _ _ _ (f.gain (named (job ∷ [])) _ _ (any_led o b h)) f.nothing

  pub items_stand : (o : After) (b : Behind) → Stands R o b → (t : p.Items) → Stands R (e.items_after o t) (items_behind x b t)
  unfolding items_behind e.items_after
  items_stand o b h p.no_items = h
  items_stand o b h (p.more_items list background rest) =
      items_stand (e.item_after (views.in_any_case o) background list) (item_behind x b background list) (item_stands o b h background list) rest

  -- Steps

  none_led : (q : Seen) (k : Facts) → R q k → R (gaining no_gains q) k
  none_led q k h = subst (R (gaining no_gains q)) (none_gained x k) (f.gain no_gains q k h)

  pub started_led : (b : Bool) (q : Seen) (k : Facts) → R q k → R (e.item_seen b q) (started x b k)
  unfolding started e.item_seen
  started_led true q k h = f.job q k h
  started_led false q k h = h

  pub turns_led : (kind : LoopKind) (o : After) (b : Behind) → Stands R o b → R (e.turns kind o) (turns kind b)
  unfolding turns e.turns
  turns_led loop.While o b h = h.zero
  turns_led loop.Until o b h = h.nonzero

  pub falls_led : (end : ClauseEnd) (o : After) (b : Behind) → Stands R o b → R (e.falls end o) (falls end b)
  unfolding falls e.falls
  falls_led clause.Break o b h = f.nothing
  falls_led clause.FallThrough o b h = any_led o b h

  use_gains : (q : p.Parameter) (a : Action) (colon : Bool) (v : p.Word) → action_gains q a ≡ operator_gains q (p.Use a colon v)
  unfolding operator_gains action_gains
  use_gains q action.Default colon v = refl
  use_gains q action.Assign colon v = refl
  use_gains q action.Fault colon v = refl
  use_gains q action.Alternative colon v = refl

  used_led : (parameter : p.Parameter) (a : Action) (colon : Bool) (v : p.Word) (q : Seen) (k : Facts) → R q k
      → R (gaining (operator_gains parameter (p.Use a colon v)) q) (gained x (action_gains parameter a) k)
  used_led parameter a colon v q k h =
      subst (λ g. R (gaining (operator_gains parameter (p.Use a colon v)) q) (gained x g k)) (sym (use_gains parameter a colon v)) (f.gain (operator_gains parameter (p.Use a colon v)) q k h)

  operand_led : (a : Action) (parameter : p.Parameter) (q : Seen) (k : Facts) → R q k → R (e.operand_seen a parameter q) (gained x (inner_gains parameter a) k)
  unfolding inner_gains e.operand_seen
  operand_led action.Alternative parameter q k h = f.gain (sure parameter) q k h
  operand_led action.Default parameter q k h = subst (R q) (sym (none_gained x k)) h
  operand_led action.Assign parameter q k h = subst (R q) (sym (none_gained x k)) h
  operand_led action.Fault parameter q k h = subst (R q) (sym (none_gained x k)) h

  -- The walk

  module _ {K : Type 0} (w : K → Met → K) (L : List Entered → K → K → Type 0) (l : Leads R w L) where
    abbrev Along : Seen → List Entered → K → Trail K → Type 0
    Along q es s t = Led R L q es s t

    still : (q : Seen) (t : Trail K) → R q t.known → Along (gaining no_gains q) [] t.kept t
    still q t h = record { known = none_led q t.known h; kept = l.none t.kept }

    mutual
      unfolding items_walked e.items_entered e.items_after part_gains operator_gains redirect_gains redirects_gains e.otherwise_seen

      pub items_led : (by : FlowRule) (y : Around) (o : After) (b : Behind) → Stands R o b → (s : K) (t : p.Items)
          → Ran R L (e.items_after o t) (e.items_entered by y o t) s (items_walked x w y (course by b s) t)
      items_led by y o b h s p.no_items = record { behind = h; kept = l.none s }
      items_led by y o b h s (p.more_items list background rest) =
          let one = list_led (e.item_rule background by) (e.item_around background y) (e.item_seen background (views.in_any_case o)) (started x background (in_any_case b))
          (started_led background (views.in_any_case o) (in_any_case b) (any_led o b h)) s list in
          let others = items_led F2 y (e.item_after (views.in_any_case o) background list) (item_behind x b background list) (item_stands o b h background list)
          (list_walked x w (e.item_rule background by) (e.item_around background y) (started x background (in_any_case b)) s list) rest in
          record { behind = others.behind; kept = l.more _ _ _ _ _ one others.kept }

      list_led : (by : FlowRule) (y : Around) (q : Seen) (k : Facts) → R q k → (s : K) (t : p.AndOr) → L (e.list_entered by y q t) s (list_walked x w by y k s t)
      list_led by y q k h s (p.and_or first rest) =
          l.more _ _ _ _ _ (pipeline_led by y q k h s first)
          (links_led y (e.pipeline_after q first) (pipeline_behind x k first) (pipeline_stands q k h first) (pipeline_walked x w by y k s first) rest)

      links_led : (y : Around) (o : After) (b : Behind) → Stands R o b → (s : K) (t : p.Links) → L (e.links_entered y o t) s (links_walked x w y (course F3 b s) t).kept
      links_led y o b h s p.no_links = l.none s
      links_led y o b h s (p.more_links a q rest) =
          l.more _ _ _ _ _ (pipeline_led F3 y (e.link_seen a o) (link_known a b) (link_led a o b h) s q)
          (links_led y (e.linked a o (e.pipeline_after (e.link_seen a o) q)) (link_behind x b a q) (next_stands a o b h q) (pipeline_walked x w F3 y (link_known a b) s q) rest)

      pipeline_led : (by : FlowRule) (y : Around) (q : Seen) (k : Facts) → R q k → (s : K) (t : p.Pipeline) → L (e.pipeline_entered by y q t) s (pipeline_walked x w by y k s t)
      pipeline_led by y q k h s (p.pipeline negated cs) =
          commands_led (e.part_rule (e.is_long cs) by) (e.part_around (e.is_long cs) y) (e.item_seen (e.is_long cs) q) (started x (e.is_long cs) k) (started_led (e.is_long cs) q k h) s cs

      commands_led : (by : FlowRule) (y : Around) (q : Seen) (k : Facts) → R q k → (s : K) (t : p.Commands) → L (e.commands_entered by y q t) s (commands_walked x w by y k s t)
      commands_led by y q k h s p.no_commands = l.none s
      commands_led by y q k h s (p.more_commands c cs) =
          l.more _ _ _ _ _ (command_led by y q k h s c) (commands_led by y q k h (command_walked x w by y k s c) cs)

      command_led : (by : FlowRule) (y : Around) (q : Seen) (k : Facts) → R q k → (s : K) (t : p.Command) → L (e.command_entered by y q t) s (command_walked x w by y k s t)
      command_led by y q k h s (p.command n offset kind rs) =
          let c : Entered = record { command = p.command n offset kind rs; rule = by; around = y; seen = q } in
          let t : Trail K = trail (known_at x (Before n)) (w s (met_at c k)) in
          let inside = redirects_led (at (Before n)) t (f.slot (Before n)) rs in
          l.more _ _ _ _ _ (l.one c k s h)
          (l.more _ _ _ _ _ inside.kept (kind_led y n (e.behind_redirects n rs) (redirects_walked x w t rs) inside.known kind))

      kind_led : (y : Around) (n : ℕ) (q : Seen) (t : Trail K) → R q t.known → (k : p.Kind) → L (e.kind_entered y n q k) t.kept (kind_walked x w y n t k)
      kind_led y n q t h (p.Simple es) =
          elements_led q (gaining (words_gains (operands_in es)) q) (gained x (words_gains (operands_in es)) t.known) (f.gain (words_gains (operands_in es)) q t.known h) t h es
      kind_led y n q t h (p.Group list) = (items_led F10 y (Both q) (both t.known) (both_stand q t.known h) t.kept list).kept
      kind_led y n q t h (p.Subshell list) =
          (items_led F11 e.alone (Both (views.without_job (at (Before n)))) (both (without_job x (known_at x (Before n))))
          (both_stand _ _ (f.job (at (Before n)) (known_at x (Before n)) (f.slot (Before n)))) t.kept list).kept
      kind_led y n q t h (p.Conditional branches otherwise) =
          let b = branches_led y q t h branches in
          l.more _ _ _ _ _ b.kept (otherwise_led y (e.otherwise_seen q branches) (branches_walked x w y t branches) b.known otherwise)
      kind_led y n q t h (p.Loop kind condition body) =
          let before = both_stand (at (Head n)) (known_at x (Head n)) (f.slot (Head n)) in
          let first = items_walked x w (e.in_loop n y) (course F7 (both (known_at x (Head n))) t.kept) condition in
          let c = items_led F7 (e.in_loop n y) (Both (at (Head n))) (both (known_at x (Head n))) before t.kept condition in
          let again = both_stand _ _ (turns_led kind (e.items_after (Both (at (Head n))) condition) first.behind c.behind) in
          l.more _ _ _ _ _ c.kept
          (items_led F7 (e.in_loop n y) (Both (e.turns kind (e.items_after (Both (at (Head n))) condition))) (both (turns kind first.behind)) again first.kept body).kept
      kind_led y n q t h (p.For name ws body) =
          l.more _ _ _ _ _ (for_words_led q t h ws)
          (items_led F8 (e.in_loop n y) (Both (gaining (named (name ∷ [])) (at (Head n)))) (both (gained x (named (name ∷ [])) (known_at x (Head n))))
          (both_stand _ _ (f.gain (named (name ∷ [])) (at (Head n)) (known_at x (Head n)) (f.slot (Head n)))) (for_words_walked x w t ws).kept body).kept
      kind_led y n q t h (p.Case v cs) =
          let u = word_led q t h v in
          l.more _ _ _ _ _ u.kept
          (clauses_led y (gaining (word_gains v) q) [] (word_walked x w t v).known u.known (nothing_falls (word_walked x w t v).kept) f.nothing cs)
      kind_led y n q t h (p.Define name body) = command_led F13 (e.in_function name) (at (Entry name)) (known_at x (Entry name)) (f.slot (Entry name)) t.kept body

      elements_led : (q behind : Seen) (k : Facts) → R behind k → (t : Trail K) → R q t.known → (es : p.Elements)
          → L (e.elements_entered q behind es) t.kept (elements_walked x w k t es).kept
      elements_led q behind k j t h p.no_elements = l.none t.kept
      elements_led q behind k j t h (p.assignment name v es) =
          let u = word_led behind (trail k t.kept) j v in
          l.more _ _ _ _ _ u.kept (elements_led q behind k j (trail t.known (word_walked x w (trail k t.kept) v).kept) h es)
      elements_led q behind k j t h (p.operand v es) =
          let u = word_led q t h v in
          l.more _ _ _ _ _ u.kept (elements_led (gaining (word_gains v) q) behind k j (word_walked x w t v) u.known es)
      elements_led q behind k j t h (p.redirection r es) =
          let u = redirect_led behind (trail k t.kept) j r in
          l.more _ _ _ _ _ u.kept (elements_led q behind k j (trail t.known (redirect_walked x w (trail k t.kept) r).kept) h es)

      redirect_led : (q : Seen) (t : Trail K) → R q t.known → (r : p.Redirect) → Along (gaining (redirect_gains r) q) (e.redirect_entered q r) t.kept (redirect_walked x w t r)
      redirect_led q t h (p.File v) = word_led q t h v
      redirect_led q t h (p.Here v) = word_led q t h v

      redirects_led : (q : Seen) (t : Trail K) → R q t.known → (rs : p.Redirects) → Along (gaining (redirects_gains rs) q) (e.redirects_entered q rs) t.kept (redirects_walked x w t rs)
      redirects_led q t h p.no_redirects = still q t h
      redirects_led q t h (p.more_redirects r rs) =
          let u = redirect_led q t h r in
          let v = redirects_led (gaining (redirect_gains r) q) (redirect_walked x w t r) u.known rs in
          record { known = f.gains (redirect_gains r) (redirects_gains rs) q _ v.known; kept = l.more _ _ _ _ _ u.kept v.kept }

      branches_led : (y : Around) (q : Seen) (t : Trail K) → R q t.known → (bs : p.Branches) → Along (e.otherwise_seen q bs) (e.branches_entered y q bs) t.kept (branches_walked x w y t bs)
      branches_led y q t h p.no_branches = record { known = h; kept = l.none t.kept }
      branches_led y q t h (p.more_branches condition body rest) =
          let o = e.items_after (Both q) condition in
          let first = items_walked x w y (course F6 (both t.known) t.kept) condition in
          let then_ = items_walked x w y (branch_body first) body in
          let c = items_led F6 y (Both q) (both t.known) (both_stand q t.known h) t.kept condition in
          let b = items_led F6 y (Both (if_zero o)) (both first.behind.zero) (both_stand _ _ c.behind.zero) first.kept body in
          let others = branches_led y (if_nonzero o) (branch_left first then_) c.behind.nonzero rest in
          record { known = others.known; kept = l.more _ _ _ _ _ (l.more _ _ _ _ _ c.kept b.kept) others.kept }

      otherwise_led : (y : Around) (q : Seen) (t : Trail K) → R q t.known → (z : p.Otherwise) → L (e.otherwise_entered y q z) t.kept (otherwise_walked x w y t z)
      otherwise_led y q t h p.no_else = l.none t.kept
      otherwise_led y q t h (p.else_of list) = (items_led F6 y (Both q) (both t.known) (both_stand q t.known h) t.kept list).kept

      for_words_led : (q : Seen) (t : Trail K) → R q t.known → (ws : p.ForWords) → L (e.for_words_entered q ws) t.kept (for_words_walked x w t ws).kept
      for_words_led q t h p.every_parameter = l.none t.kept
      for_words_led q t h (p.listed ws) = words_led q t h ws

      words_led : (q : Seen) (t : Trail K) → R q t.known → (vs : p.Words) → L (e.words_entered q vs) t.kept (words_walked x w t vs).kept
      words_led q t h p.no_words = l.none t.kept
      words_led q t h (p.more_words v vs) =
          let u = word_led q t h v in
          l.more _ _ _ _ _ u.kept (words_led (gaining (word_gains v) q) (word_walked x w t v) u.known vs)

      clauses_led : (y : Around) (q fallen : Seen) (k : Facts) → R q k → (t : Trail K) → R fallen t.known → (cs : p.Clauses)
          → L (e.clauses_entered y q fallen cs) t.kept (clauses_walked x w y k t cs).kept
      clauses_led y q fallen k j t h p.no_clauses = l.none t.kept
      clauses_led y q fallen k j t h (p.more_clauses patterns body end rest) =
          let o = e.items_after (Both (q ++ fallen)) body in
          let left = items_walked x w y (clause_body k t.known (patterns_walked x w k t.kept patterns)) body in
          let b = items_led F9 y (Both (q ++ fallen)) (both (meet k t.known)) (both_stand _ _ (f.joined q fallen k t.known j h)) (patterns_walked x w k t.kept patterns) body in
          l.more _ _ _ _ _ (l.more _ _ _ _ _ (patterns_led q k j t.kept patterns) b.kept)
          (clauses_led y q (e.falls end o) k j (clause_left end left) (falls_led end o left.behind b.behind) rest)

      patterns_led : (q : Seen) (k : Facts) → R q k → (s : K) (vs : p.Words) → L (e.patterns_entered q vs) s (patterns_walked x w k s vs)
      patterns_led q k h s p.no_words = l.none s
      patterns_led q k h s (p.more_words v vs) =
          let u = word_led q (trail k s) h v in
          l.more _ _ _ _ _ u.kept (patterns_led q k h (word_walked x w (trail k s) v).kept vs)

      word_led : (q : Seen) (t : Trail K) → R q t.known → (v : p.Word) → Along (gaining (word_gains v) q) (e.word_entered q v) t.kept (word_walked x w t v)
      word_led q t h p.no_parts = still q t h
      word_led q t h (p.more_parts y v) =
          let u = part_led q t h y in
          let others = word_led (gaining (part_gains y) q) (part_walked x w t y) u.known v in
          record { known = f.gains (part_gains y) (word_gains v) q _ others.known; kept = l.more _ _ _ _ _ u.kept others.kept }

      part_led : (q : Seen) (t : Trail K) → R q t.known → (y : p.Part) → Along (gaining (part_gains y) q) (e.part_entered q y) t.kept (part_walked x w t y)
      part_led q t h (p.Double v) = word_led q t h v
      part_led q t h (p.Expansion offset parameter operator) = operator_led q t h parameter operator
      part_led q t h (p.Arithmetic offset a) =
          let u = expression_led q t h a in
          record { known = f.gains (expanded_gains a) (named (assigned_in a)) q _ (f.gain (named (assigned_in a)) (gaining (expanded_gains a) q) _ u.known); kept = u.kept }
      part_led q t h (p.Substitution offset list) = record {
        known = none_led q t.known h;
        kept = (items_led F11 e.alone (Both (views.without_job q)) (both (without_job x t.known)) (both_stand _ _ (f.job q t.known h)) t.kept list).kept;
      }
      part_led q t h (p.Plain z) = still q t h
      part_led q t h (p.Escaped z) = still q t h
      part_led q t h (p.Single style z) = still q t h
      part_led q t h (p.Tilde offset z) = still q t h
      part_led q t h p.Joined = still q t h

      operator_led : (q : Seen) (t : Trail K) → R q t.known → (parameter : p.Parameter) (z : p.Operator)
          → Along (gaining (operator_gains parameter z) q) (e.operator_entered q parameter z) t.kept (operator_walked x w t parameter z)
      operator_led q t h parameter (p.Use a colon v) = record {
        known = used_led parameter a colon v q t.known h;
        kept = (word_led (e.operand_seen a parameter q) (trail_gained x (inner_gains parameter a) t) (operand_led a parameter q t.known h) v).kept;
      }
      operator_led q t h parameter (p.Remove removal v) = record { known = none_led q t.known h; kept = (word_led q t h v).kept }
      operator_led q t h parameter p.Value = still q t h
      operator_led q t h parameter p.Length = still q t h

      expression_led : (q : Seen) (t : Trail K) → R q t.known → (a : p.Expression) → Along (gaining (expanded_gains a) q) (e.expression_entered q a) t.kept (expression_walked x w t a)
      expression_led q t h (p.Expanded y) = part_led q t h y
      expression_led q t h (p.Parenthesis a) = expression_led q t h a
      expression_led q t h (p.Signed operator a) = expression_led q t h a
      expression_led q t h (p.Chain a rest) =
          let u = expression_led q t h a in
          let others = operands_led (gaining (expanded_gains a) q) (expression_walked x w t a) u.known rest in
          record { known = f.gains (expanded_gains a) (operands_gains rest) q _ others.known; kept = l.more _ _ _ _ _ u.kept others.kept }
      expression_led q t h (p.Choice a b c) =
          let r = gaining (expanded_gains a) q in
          let one = expression_led q t h a in
          let two = expression_led r (expression_walked x w t a) one.known b in
          let three = expression_led (gaining (expanded_gains b) r) (expression_walked x w (expression_walked x w t a) b) two.known c in
          record {
            known = f.gains (expanded_gains a) (and_gains (expanded_gains b) (expanded_gains c)) q _ (f.gains (expanded_gains b) (expanded_gains c) r _ three.known);
            kept = l.more _ _ _ _ _ (l.more _ _ _ _ _ one.kept two.kept) three.kept;
          }
      expression_led q t h (p.Assigned offset name operator a) = expression_led q t h a
      expression_led q t h (p.Constant z) = still q t h
      expression_led q t h (p.Name offset name) = still q t h

      operands_led : (q : Seen) (t : Trail K) → R q t.known → (z : p.Operands) → Along (gaining (operands_gains z) q) (e.operands_entered q z) t.kept (operands_walked x w t z)
      operands_led q t h p.no_operands = still q t h
      operands_led q t h (p.more_operands operator a rest) =
          let u = expression_led q t h a in
          let others = operands_led (gaining (expanded_gains a) q) (expression_walked x w t a) u.known rest in
          record { known = f.gains (expanded_gains a) (operands_gains rest) q _ others.known; kept = l.more _ _ _ _ _ u.kept others.kept }
