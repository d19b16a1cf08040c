-- What is known where lists are entered, by the claims of a certificate that stays above all that
-- keep the rules.
use Rattle.std.proofs.Common.{◌≡◌, ◌==◌, ◌-◌, ◌++◌, ℕ, Bool, true, false, not, List, take, [], ◌∷◌, length, fold, refl, sym, ap, ◌∙◌, subst, arith, true≢false}
use Rattle.std.proofs.lemmas.Bool.Decides.{nat_tests}
use Rattle.sh_tree.specs.declared.tree.Item.{Item, out-Item}
use Rattle.sh_tree.specs.declared.tree.Command.{Command}
use Rattle.sh_tree.specs.declared.tree.Link.{Link}
use Rattle.sh_tree.specs.declared.tree.Link.TheVariants as link
use Rattle.sh_tree.specs.declared.tree.Pipe.{Pipe}
use Rattle.sh_tree.specs.Lists.{items_from}
use Rattle.sh_tree.specs.standard.program.Trees as trees
use Rattle.sh_domain.specs.declared.certificate.Certificate as kept
use Rattle.sh_domain.specs.declared.knowledge.Knowledge.{Knowledge}
use Rattle.sh_domain.specs.declared.rule.FlowRule.{FlowRule}
use Rattle.sh_domain.specs.declared.rule.FlowRule.TheVariants.{F2}
use Rattle.sh_domain.specs.Entries.{item_after, item_seen, items_after, link_seen, linked, pipeline_after}
use Rattle.sh_domain.specs.Facts.{Facts, NotReached, Known, Nowhere, claims}
use Rattle.sh_domain.specs.Gains.{Gains}
use Rattle.sh_domain.proofs.OrderLemmas.{meet_first, within_nowhere, within_through}
use Rattle.sh_domain.specs.Knowledge.{AreNumbered, knowledge_facts}
use Rattle.sh_domain.specs.Views as views
use Rattle.sh_domain.specs.Views.{After, Seen, Slot, at, gaining}
use Rattle.sh_rules.specs.declared.around.Around.{Around}
use Rattle.sh_rules.specs.declared.behind.Behind as code
use Rattle.sh_rules.specs.declared.claims.Claims.{Claims}
use Rattle.sh_rules.specs.declared.course.Course.{Course}
use Rattle.sh_rules.specs.Behind.{Behind, started}
use Rattle.sh_rules.specs.Asking.{Asking}
use Rattle.sh_rules.specs.Settings.{Setting, gained, known_at}
use Rattle.sh_rules.specs.Steps.{met_in}
use Rattle.sh_rules.specs.Visits.{command_by}
use Rattle.sh_rules.specs.Walks as walks
use Rattle.sh_rules.specs.Walks.{behind_in, facts_in, item_left, setting}
use Rattle.sh_rules.proofs.LedLemmas.{Follows, item_stands, next_stands, pipeline_stands, started_led}
use Rattle.sh_drafts.specs.declared.subject.Subject.{Subject}
use Rattle.sh_sweeps.specs.Asked.{asking_by}
use Rattle.sh_sweeps.specs.Sweeps.{ArePassed, IsPassed, Knows, KnowsBehind, known_behind, setting_by}
use Rattle.sh_drafts.specs.Ready.{IsOver}
use Rattle.sh_sweeps.proofs.SweepLemmas.{behind_of, knows_follow, stands_of}

-- By what the flow rules go by

pub unreached : (f : Facts) (b : Bool) → b ≡ not (claims f Nowhere) → b ≡ false → f ≡ NotReached
unfolding claims
unreached NotReached b e h = refl
unreached (Known v g a) b e h = absurd (true≢false (sym e ∙ h))

module _ (s : Subject) (c : kept.Certificate) (z : Claims) (same : setting z ≡ setting_by s c) where
  pub facts_by : (F : Setting → Facts) (k : Knowledge) → facts_in (setting z) k ≡ F (setting z) → facts_in (setting_by s c) k ≡ F (setting_by s c)
  facts_by F k is = subst (λ x. facts_in x k ≡ F x) same is

  pub behind_by : (F : Setting → Behind) (o : code.Behind) → behind_in (setting z) o ≡ F (setting z) → behind_in (setting_by s c) o ≡ F (setting_by s c)
  behind_by F o is = subst (λ x. behind_in x o ≡ F x) same is

  pub told_by : {K : Type 0} (a : Asking K) (by : FlowRule) (y : Around) (k : Knowledge) (m : Command) (old new : K) (stated : Bool) → s.stated ≡ stated
      → new ≡ command_by (asking_by stated a) (setting z) old (met_in (setting z) by y k m)
      → new ≡ command_by (asking_by s.stated a) (setting_by s c) old (met_in (setting_by s c) by y k m)
  told_by a by y k m old new stated is told =
      subst (λ b. new ≡ command_by (asking_by b a) (setting_by s c) old (met_in (setting_by s c) by y k m)) (sym is)
      (subst (λ x. new ≡ command_by (asking_by stated a) x old (met_in x by y k m)) same told)

-- What is known

module _ (s : Subject) (c : kept.Certificate) (h : AreNumbered s.names.now) (over : IsOver s c) where
  abbrev x : Setting
  x = setting_by s c

  abbrev follows : Follows x (Knows s)
  follows = knows_follow s c h over

  pub slot_known : (p : Slot) (k : Knowledge) → facts_in x k ≡ known_at x p → Knows s (at p) (knowledge_facts s.names.now k)
  unfolding facts_in
  slot_known p k is = subst (Knows s (at p)) (sym is) (follows.slot p)

  pub gains_known : (g : Gains) (known k : Knowledge) → facts_in x k ≡ gained x g (facts_in x known) → (q : Seen) → Knows s q (knowledge_facts s.names.now known) → Knows s (gaining g q) (knowledge_facts s.names.now k)
  unfolding facts_in
  gains_known g known k is q knows = subst (Knows s (gaining g q)) (sym is) (follows.gain g q _ knows)

  pub started_known : (b : Bool) (known k : Knowledge) → facts_in x k ≡ started x b (facts_in x known) → (q : Seen) → Knows s q (knowledge_facts s.names.now known) → Knows s (item_seen b q) (knowledge_facts s.names.now k)
  unfolding facts_in
  started_known b known k is q knows = subst (Knows s (item_seen b q)) (sym is) (started_led x (Knows s) follows b q _ knows)

  pub pipe_known : (known : Knowledge) (l : Pipe) (o : code.Behind) → behind_in x o ≡ walks.pipe_behind x (facts_in x known) l → (q : Seen) → Knows s q (knowledge_facts s.names.now known)
      → KnowsBehind s (pipeline_after q (trees.pipeline_of s.script.now l)) (known_behind s o)
  unfolding facts_in walks.pipe_behind
  pipe_known known l o is q knows =
      subst (KnowsBehind s (pipeline_after q (trees.pipeline_of s.script.now l))) (sym is) (behind_of s _ _ (pipeline_stands x (Knows s) follows q _ knows (trees.pipeline_of s.script.now l)))

  pub link_known : (before o : code.Behind) (l : Link × Pipe) → behind_in x o ≡ walks.link_left x (behind_in x before) l → (q : After) → KnowsBehind s q (known_behind s before)
      → KnowsBehind s (linked l.0 q (pipeline_after (link_seen l.0 q) (trees.pipeline_of s.script.now l.1))) (known_behind s o)
  unfolding facts_in
  link_known before o l is q knows =
      subst (KnowsBehind s (linked l.0 q (pipeline_after (link_seen l.0 q) (trees.pipeline_of s.script.now l.1)))) (sym is)
      (behind_of s _ _ (next_stands x (Knows s) follows l.0 q (known_behind s before) (stands_of s q (known_behind s before) knows) (trees.pipeline_of s.script.now l.1)))

  pub passed_on : (old new : Course) (i : Item) → new.by ≡ F2 → behind_in x new.behind ≡ item_left x (behind_in x old.behind) i → IsPassed s old new i
  unfolding facts_in item_left
  passed_on old new i by is = record {
    by = by;
    behind = λ o knows.
        subst (KnowsBehind s (item_after (views.in_any_case o) (out-Item i).background (trees.and_or_of s.script.now (out-Item i).list))) (sym is)
        (behind_of s _ _ (item_stands x (Knows s) follows o (known_behind s old.behind) (stands_of s o (known_behind s old.behind) knows) (out-Item i).background (trees.and_or_of s.script.now (out-Item i).list)));
  }

  -- items, whatever is known before them
  passes_all : (b : Behind) (is : List Item) (o : After) → KnowsBehind s o b → KnowsBehind s (items_after o (items_from s.script.now is)) (fold (item_left x) b is)
  unfolding facts_in item_left items_after items_from
  passes_all b [] o knows = knows
  passes_all b (i ∷ is) o knows =
      let list = trees.and_or_of s.script.now (out-Item i).list in
      passes_all (item_left x b i) is (item_after (views.in_any_case o) (out-Item i).background list) (behind_of s _ _ (item_stands x (Knows s) follows o b (stands_of s o b knows) (out-Item i).background list))

  pub all_passed : (old new : Course) (is : List Item) → new.by ≡ F2 → behind_in x new.behind ≡ fold (item_left x) (behind_in x old.behind) is → (length is == 0) ≡ false → ArePassed s old new is
  unfolding facts_in
  all_passed old new is by same some = record {
    none = λ e. absurd (true≢false (ap (λ (js : List Item). length js == 0) (sym e) ∙ some));
    by = λ i rest e. by;
    behind = λ o knows. subst (KnowsBehind s (items_after o (items_from s.script.now is))) (sym same) (passes_all (known_behind s old.behind) is o knows);
  }

-- no items

no_items : (is : List Item) → (length is == 0) ≡ true → is ≡ []
no_items [] e = refl
no_items (i ∷ is) e = absurd (grind (arith, nat_tests, e))

pub nothing_passed : (s : Subject) (c : Course) (is : List Item) → is ≡ [] → ArePassed s c c is
unfolding items_after items_from
nothing_passed s c is e = subst (ArePassed s c c) (sym e) (record { none = λ e. refl; by = λ i rest e. cc; behind = λ o knows. knows })

pub none_passed : (s : Subject) (c : Course) (is : List Item) → (length is == 0) ≡ true → ArePassed s c c is
none_passed s c is e = nothing_passed s c is (no_items is e)

-- after a pipeline by whose status nothing is known
module _ (s : Subject) (c : kept.Certificate) (h : AreNumbered s.names.now) (over : IsOver s c) where
  with_others : (q r : Seen) (k : Facts) → Knows s q k → Knows s (q ++ r) k
  with_others q r k knows other keeps = within_through _ _ _ ((knows_follow s c h over).joined q r k NotReached knows (λ o w. within_nowhere _) other keeps) (meet_first k NotReached)

  pub left_after_zero : (l : Link) (b : Behind) (o p : After) → l ≡ link.AndThen → KnowsBehind s o b → KnowsBehind s (linked l o p) (record { zero = NotReached; nonzero = b.nonzero })
  unfolding linked views.if_nonzero
  left_after_zero l b o p e knows =
      subst (λ m. KnowsBehind s (linked m o p) (record { zero = NotReached; nonzero = b.nonzero })) (sym e)
      (λ other keeps. record { zero = within_nowhere _; nonzero = with_others (views.if_nonzero o) (views.if_nonzero p) b.nonzero (λ z k. (knows z k).nonzero) other keeps })

  pub left_after_nonzero : (l : Link) (b : Behind) (o p : After) → l ≡ link.OrElse → KnowsBehind s o b → KnowsBehind s (linked l o p) (record { zero = b.zero; nonzero = NotReached })
  unfolding linked views.if_zero
  left_after_nonzero l b o p e knows =
      subst (λ m. KnowsBehind s (linked m o p) (record { zero = b.zero; nonzero = NotReached })) (sym e)
      (λ other keeps. record { zero = with_others (views.if_zero o) (views.if_zero p) b.zero (λ z k. (knows z k).zero) other keeps; nonzero = within_nowhere _ })

-- items after which nothing is known
pub left_out : (s : Subject) (old new : Course) (is : List Item) → new.by ≡ F2 → ((o : After) → KnowsBehind s o (known_behind s new.behind)) → (length is == 0) ≡ false → ArePassed s old new is
left_out s old new is by nothing some = record {
  none = λ e. absurd (true≢false (ap (λ (js : List Item). length js == 0) (sym e) ∙ some));
  by = λ i rest e. by;
  behind = λ o knows. nothing _;
}

pub none_between : (n : ℕ) (is : List Item) → take (n - n) is ≡ []
none_between n is = let same : n - n ≡ 0 = omega arith in ap (λ k. take k is) same ∙ front is
  where
    front : (is : List Item) → take 0 is ≡ []
    front [] = refl
    front (i ∷ is) = refl
