-- Where a sweep is in a command, by where it is before it: a lemma for each kind of command (XCU
-- 2.9).
use Rattle.std.proofs.Common.{◌≡◌, ◌≢◌, ℕ, zero, suc, not, ◌+◌, ◌-◌, ◌<◌, ◌≤◌, Bool, true, false, if◌then◌else◌, Option, Some, List, [], ◌∷◌, ◌++◌, append_assoc, append-nil, drop, get_or, length, nat_lt, refl, sym, ap, ◌∙◌, subst, take, arith}
use Rattle.std.proofs.lemmas.Bool.Decides.{nat_tests}
use Rattle.std.proofs.lemmas.List.{drop-drop, take-append-drop}
use Rattle.std.proofs.Math.Seq.{drop-cons}
use Rattle.sh_tree.specs.declared.tree.AndOr.{AndOr, out-AndOr}
use Rattle.sh_tree.specs.declared.tree.Branch.{Branch, out-Branch}
use Rattle.sh_tree.specs.declared.tree.Clause.{Clause, out-Clause}
use Rattle.sh_tree.specs.declared.tree.Command.{Command, out-Command}
use Rattle.sh_tree.specs.declared.tree.Item.{Item, out-Item}
use Rattle.sh_tree.specs.declared.tree.Kind.{Kind}
use Rattle.sh_tree.specs.declared.tree.LoopKind.{LoopKind}
use Rattle.sh_tree.specs.declared.tree.Link.{Link}
use Rattle.sh_tree.specs.declared.tree.Pipe.{Pipe, out-Pipe}
use Rattle.sh_tree.specs.declared.tree.Script.{Script, out-Script}
use Rattle.sh_tree.specs.Lists.{branches_from, clauses_from, commands_from, items_from, links_from, otherwise_from, redirects_from, words_from}
use Rattle.sh_tree.specs.standard.program.Syntax as p
use Rattle.sh_tree.specs.standard.program.Trees as trees
use Rattle.sh_tree.specs.standard.program.Trees.{script_of}
use Rattle.sh_tree.proofs.ProgramRules as rules
use Rattle.sh_domain.specs.declared.certificate.Certificate as kept
use Rattle.sh_domain.specs.declared.rule.FlowRule.{FlowRule}
use Rattle.sh_domain.specs.declared.rule.FlowRule.TheVariants.{F1, F2, F3, F6, F7, F8, F9, F10, F11, F12, F13}
use Rattle.sh_domain.specs.Entries as e
use Rattle.sh_domain.specs.Entries.{Around, Entered, behind_redirects}
use Rattle.sh_domain.proofs.EachLemmas.{each_parts}
use Rattle.sh_domain.proofs.OrderLemmas.{within_nowhere}
use Rattle.sh_domain.specs.Order.{IsWithin}
use Rattle.sh_domain.specs.Facts.{Facts, NotReached, Nowhere, claims, meet}
use Rattle.sh_domain.specs.Gains.{word_gains}
use Rattle.sh_domain.specs.Knowledge.{AreNumbered, among, knowledge_facts}
use Rattle.sh_domain.specs.Rules as r
use Rattle.sh_domain.specs.declared.knowledge.Knowledge.{Knowledge}
use Rattle.sh_domain.specs.Views as views
use Rattle.sh_domain.specs.Views.{After, Before, Both, Entry, Head, Seen, at, at_start, gaining, gaining_names, if_nonzero, if_zero}
use Rattle.sh_rules.specs.declared.course.Course.{Course}
use Rattle.sh_rules.specs.Behind.{Behind, both, in_any_case}
use Rattle.sh_rules.specs.Behind as behind
use Rattle.sh_rules.proofs.AboveLemmas.{stays_above}
use Rattle.sh_rules.proofs.LedLemmas.{any_led, falls_led, link_led}
use Rattle.sh_rules.proofs.WalkLemmas.{long_parts}
use Rattle.sh_domain.specs.Admitted.{claims_in, functions_in}
use Rattle.sh_drafts.specs.declared.subject.Subject.{Subject}
use Rattle.sh_sweeps.specs.Asked.{gathering}
use Rattle.sh_sweeps.specs.Sweeps.{AreBranches, AreClauses, AreItems, AreKept, AreLinks, AreParts, ArePassed, IsAndOr, IsCase, IsCommand, IsInside, IsLeft, IsList, IsPart, IsPassed, IsPipe, Knows, KnowsBehind, known_behind, setting_by}
use Rattle.sh_drafts.specs.Ready.{IsOver}
use Rattle.sh_drafts.specs.Starts.{start_of}
use Rattle.sh_sweeps.proofs.KnownLemmas.{unreached}
use Rattle.sh_sweeps.proofs.SweepLemmas.{first_part, knows_follow, last_part, stands_of}

module _ (s : Subject) where
  -- A command, and what is in it

  pub own_of : (by : FlowRule) (y : Around) (q : Seen) (m : p.Command) → IsPart s (e.command_entered by y q m) → IsPart s (record { command = m; rule = by; around = y; seen = q } ∷ [])
  unfolding e.items_entered
  own_of by y q (p.command n offset kind rs) part =
      first_part s (record { command = p.command n offset kind rs; rule = by; around = y; seen = q } ∷ []) (e.redirects_entered (at (Before n)) rs ++ e.kind_entered y n (behind_redirects n rs) kind) part

  pub own_part : (by : FlowRule) (y : Around) (k : Facts) (c : Command) (in_it : IsCommand s by y k c)
      → IsPart s (record { command = trees.command_of s.script.now c; rule = by; around = y; seen = in_it.seen } ∷ [])
  own_part by y k c in_it = own_of by y in_it.seen (trees.command_of s.script.now c) in_it.part

  inside_part : (by : FlowRule) (y : Around) (q : Seen) (n offset : ℕ) (kind : p.Kind) (rs : p.Redirects) → IsPart s (e.command_entered by y q (p.command n offset kind rs))
      → IsPart s (e.redirects_entered (at (Before n)) rs ++ e.kind_entered y n (behind_redirects n rs) kind)
  unfolding e.items_entered
  inside_part by y q n offset kind rs part =
      last_part s (record { command = p.command n offset kind rs; rule = by; around = y; seen = q } ∷ []) (e.redirects_entered (at (Before n)) rs ++ e.kind_entered y n (behind_redirects n rs) kind) part

  pub inside_placed : (by : FlowRule) (y : Around) (k : Facts) (c : Command) → IsCommand s by y k c → IsInside s y c
  inside_placed by y k c in_it = record { by = by; seen = in_it.seen; part = in_it.part }

  pub inside_parts : (y : Around) (c : Command) → IsInside s y c
      → IsPart s (e.redirects_entered (at (Before (out-Command c).number)) (redirects_from s.script.now (out-Command c).redirects)
      ++ e.kind_entered y (out-Command c).number (behind_redirects (out-Command c).number (redirects_from s.script.now (out-Command c).redirects)) (trees.kind_of s.script.now (out-Command c).kind))
  inside_parts y c here =
      inside_part here.by y here.seen _ _ _ _ (subst (λ m. IsPart s (e.command_entered here.by y here.seen m)) (rules.command_of-out s.script.now c) here.part)

  -- a definition, and what is in it
  pub defined_placed : (by : FlowRule) (y : Around) (q : Seen) (c : Command) (v : Kind) (name : p.Text) (body : p.Command) → (out-Command c).kind ≡ v → trees.kind_of s.script.now v ≡ p.Define name body
      → IsPart s (e.command_entered by y q (trees.command_of s.script.now c))
      → IsPart s (e.command_entered by y q (p.command (out-Command c).number (out-Command c).at (p.Define name body) (redirects_from s.script.now (out-Command c).redirects)))
  defined_placed by y q c v name body is same part =
      subst (λ m. IsPart s (e.command_entered by y q m))
      (rules.command_of-out s.script.now c
      ∙ ap (λ k. p.command (out-Command c).number (out-Command c).at k (redirects_from s.script.now (out-Command c).redirects)) (ap (trees.kind_of s.script.now) is ∙ same)) part

  pub kind_part : (by : FlowRule) (y : Around) (q : Seen) (n offset : ℕ) (kind : p.Kind) (rs : p.Redirects) → IsPart s (e.command_entered by y q (p.command n offset kind rs))
      → IsPart s (e.kind_entered y n (behind_redirects n rs) kind)
  kind_part by y q n offset kind rs part = last_part s (e.redirects_entered (at (Before n)) rs) (e.kind_entered y n (behind_redirects n rs) kind) (inside_part by y q n offset kind rs part)

  -- The kinds of commands

  pub group_placed : (y : Around) (n : ℕ) (q : Seen) (k : Facts) (t : p.Items) → IsPart s (e.kind_entered y n q (p.Group t)) → Knows s q k → IsList s F10 y k t
  unfolding e.items_entered
  group_placed y n q k t part knows = record { seen = q; part = part; knows = knows }

  pub subshell_placed : (y : Around) (n : ℕ) (q : Seen) (k : Facts) (t : p.Items) → IsPart s (e.kind_entered y n q (p.Subshell t)) → Knows s (views.without_job (at (Before n))) k → IsList s F11 e.alone k t
  unfolding e.items_entered
  subshell_placed y n q k t part knows = record { seen = views.without_job (at (Before n)); part = part; knows = knows }

  pub definition_placed : (y : Around) (n : ℕ) (q : Seen) (k : Facts) (name : p.Text) (c : Command) → IsPart s (e.kind_entered y n q (p.Define name (trees.command_of s.script.now c)))
      → Knows s (at (Entry name)) k → IsCommand s F13 (e.in_function name) k c
  unfolding e.items_entered
  definition_placed y n q k name c part knows = record { seen = at (Entry name); part = part; knows = knows }

  pub for_placed : (y : Around) (n : ℕ) (q : Seen) (k : Facts) (name : p.Text) (ws : p.ForWords) (t : p.Items) → IsPart s (e.kind_entered y n q (p.For name ws t))
      → Knows s (gaining_names (name ∷ []) (at (Head n))) k → IsList s F8 (e.in_loop n y) k t
  unfolding e.items_entered
  for_placed y n q k name ws t part knows = record {
    seen = gaining_names (name ∷ []) (at (Head n));
    part = last_part s (e.for_words_entered q ws) (e.items_entered F8 (e.in_loop n y) (Both (gaining_names (name ∷ []) (at (Head n)))) t) part;
    knows = knows;
  }

  pub condition_placed : (y : Around) (n : ℕ) (q : Seen) (k : Facts) (kind : LoopKind) (t u : p.Items) → IsPart s (e.kind_entered y n q (p.Loop kind t u)) → Knows s (at (Head n)) k → IsList s F7 (e.in_loop n y) k t
  unfolding e.items_entered
  condition_placed y n q k kind t u part knows = record {
    seen = at (Head n);
    part = first_part s (e.items_entered F7 (e.in_loop n y) (Both (at (Head n))) t) (e.items_entered F7 (e.in_loop n y) (Both (e.turns kind (e.items_after (Both (at (Head n))) t))) u) part;
    knows = knows;
  }

  pub body_placed : (y : Around) (n : ℕ) (q : Seen) (k : Facts) (kind : LoopKind) (t u : p.Items) → IsPart s (e.kind_entered y n q (p.Loop kind t u))
      → Knows s (e.turns kind (e.items_after (Both (at (Head n))) t)) k → IsList s F7 (e.in_loop n y) k u
  unfolding e.items_entered
  body_placed y n q k kind t u part knows = record {
    seen = e.turns kind (e.items_after (Both (at (Head n))) t);
    part = last_part s (e.items_entered F7 (e.in_loop n y) (Both (at (Head n))) t) (e.items_entered F7 (e.in_loop n y) (Both (e.turns kind (e.items_after (Both (at (Head n))) t))) u) part;
    knows = knows;
  }

  pub branches_placed : (y : Around) (n : ℕ) (q : Seen) (k : Facts) (bs : p.Branches) (z : p.Otherwise) → IsPart s (e.kind_entered y n q (p.Conditional bs z)) → Knows s q k
      → AreKept s (r.kind_bounds (functions_in s.script.now s.tree.now) y n q (p.Conditional bs z)) → AreBranches s y n k bs z
  unfolding e.items_entered r.kind_bounds
  branches_placed y n q k bs z part knows asked = record {
    seen = q;
    part = part;
    asked = λ other keeps. (each_parts _ _ _ (asked other keeps)).0;
    asked_last = λ other keeps. (each_parts _ _ _ (asked other keeps)).1;
    knows = knows;
  }

  pub case_placed : (y : Around) (n : ℕ) (q : Seen) (k : Facts) (w : p.Word) (cs : p.Clauses) → IsPart s (e.kind_entered y n q (p.Case w cs)) → Knows s q k
      → AreKept s (r.kind_bounds (functions_in s.script.now s.tree.now) y n q (p.Case w cs)) → IsCase s y n k w cs
  unfolding e.items_entered r.kind_bounds
  case_placed y n q k w cs part knows asked = record { inside = record { seen = q; part = part; knows = knows }; asked = λ other keeps. (each_parts _ _ _ (asked other keeps)).0 }

  -- A list that is entered

  pub list_at : (by : FlowRule) (y : Around) (k : Facts) (b : Behind) (t : Script) → b ≡ both k → IsList s by y k (script_of s.script.now t) → AreItems s by y b (out-Script t).items
  unfolding if_zero if_nonzero
  list_at by y k b t is in_it =
      subst (λ o. AreItems s by y o (out-Script t).items) (sym is)
      (record {
        seen = Both in_it.seen;
        part = subst (λ u. IsPart s (e.items_entered by y (Both in_it.seen) u)) (rules.script_of-out s.script.now t) in_it.part;
        knows = λ other keeps. record { zero = in_it.knows other keeps; nonzero = in_it.knows other keeps };
      })

  -- the list of the script
  pub start_placed : (at : Course) (k : Knowledge) → at.by ≡ F1 → known_behind s at.behind ≡ both (knowledge_facts s.names.now k) → knowledge_facts s.names.now k ≡ among s.names.now (start_of s)
      → AreItems s at.by e.alone (known_behind s at.behind) (out-Script s.tree.now).items
  unfolding e.script_entered
  start_placed at k by known start =
      subst (λ o. AreItems s at.by e.alone o (out-Script s.tree.now).items) (sym (known ∙ ap both start))
      (subst (λ f. AreItems s f e.alone (both (among s.names.now (start_of s))) (out-Script s.tree.now).items) (sym by)
      (record {
        seen = Both at_start;
        part = record { front = []; back = []; whole = ap (e.items_entered F1 e.alone (Both at_start)) (rules.script_of-out s.script.now s.tree.now) ∙ sym (append-nil _) };
        knows = λ other keeps. (stays_above gathering).start s.names.now (start_of s) (claims_in s.script.now s.tree.now other);
      }))

  -- the same where nothing is known
  pub start_unknown : (at : Course) → at.by ≡ F1 → ((o : After) → KnowsBehind s o (known_behind s at.behind)) → AreItems s at.by e.alone (known_behind s at.behind) (out-Script s.tree.now).items
  unfolding e.script_entered
  start_unknown at by unknown =
      subst (λ f. AreItems s f e.alone (known_behind s at.behind) (out-Script s.tree.now).items) (sym by)
      (record {
        seen = Both at_start;
        part = record { front = []; back = []; whole = ap (e.items_entered F1 e.alone (Both at_start)) (rules.script_of-out s.script.now s.tree.now) ∙ sym (append-nil _) };
        knows = unknown (Both at_start);
      })

  pub both_known : (q : Seen) (k : Facts) (b : Behind) → b ≡ both k → Knows s q k → KnowsBehind s (Both q) b
  unfolding if_zero if_nonzero
  both_known q k b is knows = subst (KnowsBehind s (Both q)) (sym is) (λ other keeps. record { zero = knows other keeps; nonzero = knows other keeps })

  -- what a list leaves, by what is left of it
  pub record GoesOn (o : After) (known : Behind) (all rest : List Item) : Type 0 where
    pub seen : After
    pub knows : KnowsBehind s seen known
    pub same : e.items_after seen (items_from s.script.now rest) ≡ e.items_after o (items_from s.script.now all)

  pub goes_next : (o : After) (old new : Course) (all : List Item) (i : Item) (is : List Item) → GoesOn o (known_behind s old.behind) all (i ∷ is) → IsPassed s old new i
      → GoesOn o (known_behind s new.behind) all is
  unfolding e.items_after items_from
  goes_next o old new all i is g passed = record {
    seen = e.item_after (views.in_any_case g.seen) (out-Item i).background (trees.and_or_of s.script.now (out-Item i).list);
    knows = passed.behind g.seen g.knows;
    same = g.same;
  }

  pub goes_last : (o : After) (known : Behind) (all : List Item) → GoesOn o known all [] → KnowsBehind s (e.items_after o (items_from s.script.now all)) known
  unfolding e.items_after items_from
  goes_last o known all g = subst (λ q. KnowsBehind s q known) g.same g.knows

  -- The branches of an `if`

  pub branch_condition : (y : Around) (n : ℕ) (k : Facts) (c : Branch) (cs : List Branch) (z : p.Otherwise) → AreBranches s y n k (branches_from s.script.now (c ∷ cs)) z
      → IsList s F6 y k (script_of s.script.now (out-Branch c).condition)
  unfolding e.items_entered branches_from
  branch_condition y n k c cs z here = record { seen = here.seen; part = first_part s _ _ (first_part s _ _ (first_part s _ _ here.part)); knows = here.knows }

  pub branch_body : (y : Around) (n : ℕ) (k left : Facts) (c : Branch) (cs : List Branch) (z : p.Otherwise)
      → ((q : Seen) → Knows s q k → Knows s (if_zero (e.items_after (Both q) (script_of s.script.now (out-Branch c).condition))) left) → AreBranches s y n k (branches_from s.script.now (c ∷ cs)) z
      → IsLeft s y n F6 left (script_of s.script.now (out-Branch c).body)
  unfolding e.items_entered branches_from r.branches_bounds
  branch_body y n k left c cs z known here = record {
    inside = record {
      seen = if_zero (e.items_after (Both here.seen) (script_of s.script.now (out-Branch c).condition));
      part = last_part s (e.items_entered F6 y (Both here.seen) (script_of s.script.now (out-Branch c).condition)) _ (first_part s _ _ (first_part s _ _ here.part));
      knows = known here.seen here.knows;
    };
    asked = λ other keeps. (each_parts _ _ _ (here.asked other keeps)).0;
  }

  pub branches_next : (y : Around) (n : ℕ) (k nonzero : Facts) (c : Branch) (cs : List Branch) (z : p.Otherwise)
      → ((q : Seen) → Knows s q k → Knows s (if_nonzero (e.items_after (Both q) (script_of s.script.now (out-Branch c).condition))) nonzero) → AreBranches s y n k (branches_from s.script.now (c ∷ cs)) z
      → AreBranches s y n nonzero (branches_from s.script.now cs) z
  unfolding e.items_entered e.otherwise_seen branches_from r.branches_bounds
  branches_next y n k nonzero c cs z known here =
      let q : Seen = here.seen in
      let o : After = e.items_after (Both q) (script_of s.script.now (out-Branch c).condition) in
      let condition : List Entered = e.items_entered F6 y (Both q) (script_of s.script.now (out-Branch c).condition) in
      let body : List Entered = e.items_entered F6 y (Both (if_zero o)) (script_of s.script.now (out-Branch c).body) in
      let others : List Entered = e.branches_entered y (if_nonzero o) (branches_from s.script.now cs) in
      let last : List Entered = e.otherwise_entered y (e.otherwise_seen (if_nonzero o) (branches_from s.script.now cs)) z in
      record {
        seen = if_nonzero o;
        part = last_part s (condition ++ body) (others ++ last) (subst (IsPart s) (append_assoc (condition ++ body) others last) here.part);
        asked = λ other keeps. (each_parts _ _ _ (here.asked other keeps)).1;
        asked_last = here.asked_last;
        knows = known q here.knows;
      }

  pub otherwise_placed : (y : Around) (n : ℕ) (k : Facts) (t : p.Items) → AreBranches s y n k p.no_branches (p.else_of t) → IsLeft s y n F6 k t
  unfolding e.items_entered e.otherwise_seen r.otherwise_bounds
  otherwise_placed y n k t here = record { inside = record { seen = here.seen; part = here.part; knows = here.knows }; asked = here.asked_last }

  pub else_placed : (y : Around) (n : ℕ) (k : Facts) (o : Option Script) (t : Script) → o ≡ Some t → AreBranches s y n k (branches_from s.script.now []) (otherwise_from s.script.now o)
      → IsLeft s y n F6 k (script_of s.script.now t)
  else_placed y n k o t is here =
      otherwise_placed y n k (script_of s.script.now t)
      (subst (λ bs. AreBranches s y n k bs (p.else_of (script_of s.script.now t))) (rules.branches_from-empty s.script.now)
      (subst (AreBranches s y n k (branches_from s.script.now [])) (ap (otherwise_from s.script.now) is ∙ rules.otherwise_from-Some s.script.now t) here))

  -- The clauses of a `case`

  pub clauses_placed : (y : Around) (n : ℕ) (k behind : Facts) (w : p.Word) (cs : p.Clauses) → ((q : Seen) → Knows s q k → Knows s (gaining (word_gains w) q) behind)
      → IsCase s y n k w cs → (c : kept.Certificate) → AreNumbered s.names.now → IsOver s c → AreClauses s y n behind NotReached cs
  clauses_placed y n k behind w cs known here c h over = record {
    seen = gaining (word_gains w) here.inside.seen;
    falls = [];
    part = last_part s (e.word_entered here.inside.seen w) (e.clauses_entered y (gaining (word_gains w) here.inside.seen) [] cs) here.inside.part;
    asked = here.asked;
    knows = known here.inside.seen here.inside.knows;
    knows_fallen = (knows_follow s c h over).nothing;
  }

  clause_met : (y : Around) (n : ℕ) (k fallen known : Facts) (cs : p.Clauses) → known ≡ meet k fallen → (x : kept.Certificate) → AreNumbered s.names.now → IsOver s x
      → (here : AreClauses s y n k fallen cs) → Knows s (here.seen ++ here.falls) known
  clause_met y n k fallen known cs same x h over here =
      subst (Knows s (here.seen ++ here.falls)) (sym same) ((knows_follow s x h over).joined here.seen here.falls k fallen here.knows here.knows_fallen)

  clause_part : (y : Around) (n : ℕ) (k fallen : Facts) (c : Clause) (cs : List Clause) (here : AreClauses s y n k fallen (clauses_from s.script.now (c ∷ cs)))
      → IsPart s (e.items_entered F9 y (Both (here.seen ++ here.falls)) (script_of s.script.now (out-Clause c).body))
  unfolding e.items_entered clauses_from
  clause_part y n k fallen c cs here =
      let q : Seen = here.seen ++ here.falls in
      let patterns : List Entered = e.patterns_entered here.seen (words_from s.script.now (out-Clause c).patterns) in
      let listed : List Entered = e.items_entered F9 y (Both q) (script_of s.script.now (out-Clause c).body) in
      last_part s patterns listed (first_part s (patterns ++ listed) (e.clauses_entered y here.seen (e.falls (out-Clause c).end (e.items_after (Both q) (script_of s.script.now (out-Clause c).body))) (clauses_from s.script.now cs)) here.part)

  pub clause_list : (y : Around) (n : ℕ) (k fallen known : Facts) (c : Clause) (cs : List Clause) → known ≡ meet k fallen → (x : kept.Certificate) → AreNumbered s.names.now → IsOver s x
      → AreClauses s y n k fallen (clauses_from s.script.now (c ∷ cs)) → IsList s F9 y known (script_of s.script.now (out-Clause c).body)
  clause_list y n k fallen known c cs same x h over here = record {
    seen = here.seen ++ here.falls;
    part = clause_part y n k fallen c cs here;
    knows = clause_met y n k fallen known _ same x h over here;
  }

  -- if no list that falls through is after it, the whole leaves what it does
  pub clause_left : (y : Around) (n : ℕ) (k fallen known : Facts) (c : Clause) (cs : List Clause) → known ≡ meet k fallen → (x : kept.Certificate) → AreNumbered s.names.now → IsOver s x
      → AreClauses s y n k fallen (clauses_from s.script.now (c ∷ cs)) → r.is_last (out-Clause c).end (clauses_from s.script.now cs) ≡ true → IsLeft s y n F9 known (script_of s.script.now (out-Clause c).body)
  unfolding clauses_from r.clauses_bounds
  clause_left y n k fallen known c cs same x h over here last =
      let listed : After = e.items_after (Both (here.seen ++ here.falls)) (script_of s.script.now (out-Clause c).body) in
      record {
        inside = record { seen = here.seen ++ here.falls; part = clause_part y n k fallen c cs here; knows = clause_met y n k fallen known _ same x h over here };
        asked = subst (λ b. AreKept s (if b then r.leaves n F9 listed else [])) last
            (λ other keeps. (each_parts _ (if r.is_last (out-Clause c).end (clauses_from s.script.now cs) then r.leaves n F9 listed else []) _ (here.asked other keeps)).0);
      }

  pub clauses_next : (y : Around) (n : ℕ) (k fallen known : Facts) (b : Behind) (next : Facts) (c : Clause) (cs : List Clause) → known ≡ meet k fallen → next ≡ behind.falls (out-Clause c).end b
      → ((q : Seen) → Knows s q known → KnowsBehind s (e.items_after (Both q) (script_of s.script.now (out-Clause c).body)) b) → (x : kept.Certificate) → AreNumbered s.names.now → IsOver s x
      → AreClauses s y n k fallen (clauses_from s.script.now (c ∷ cs)) → AreClauses s y n k next (clauses_from s.script.now cs)
  unfolding e.items_entered clauses_from r.clauses_bounds
  clauses_next y n k fallen known b next c cs same left behind x h over here =
      let q : Seen = here.seen ++ here.falls in
      let o : After = e.items_after (Both q) (script_of s.script.now (out-Clause c).body) in
      record {
        seen = here.seen;
        falls = e.falls (out-Clause c).end o;
        part = last_part s (e.patterns_entered here.seen (words_from s.script.now (out-Clause c).patterns) ++ e.items_entered F9 y (Both q) (script_of s.script.now (out-Clause c).body)) (e.clauses_entered y here.seen (e.falls (out-Clause c).end o) (clauses_from s.script.now cs)) here.part;
        asked = λ other keeps. (each_parts _ _ _ (here.asked other keeps)).1;
        knows = here.knows;
        knows_fallen = subst (Knows s (e.falls (out-Clause c).end o)) (sym left) (falls_led (setting_by s x) (Knows s) (knows_follow s x h over) (out-Clause c).end o b (stands_of s o b (behind q (clause_met y n k fallen known _ same x h over here))));
      }

  -- or if nothing of what is known after it is kept
  pub clauses_idle : (y : Around) (n : ℕ) (k fallen : Facts) (c : Clause) (cs : List Clause) → AreClauses s y n k fallen (clauses_from s.script.now (c ∷ cs)) → AreClauses s y n k NotReached (clauses_from s.script.now cs)
  unfolding e.items_entered clauses_from r.clauses_bounds
  clauses_idle y n k fallen c cs here =
      let q : Seen = here.seen ++ here.falls in
      let o : After = e.items_after (Both q) (script_of s.script.now (out-Clause c).body) in
      record {
        seen = here.seen;
        falls = e.falls (out-Clause c).end o;
        part = last_part s (e.patterns_entered here.seen (words_from s.script.now (out-Clause c).patterns) ++ e.items_entered F9 y (Both q) (script_of s.script.now (out-Clause c).body)) (e.clauses_entered y here.seen (e.falls (out-Clause c).end o) (clauses_from s.script.now cs)) here.part;
        asked = λ other keeps. (each_parts _ _ _ (here.asked other keeps)).1;
        knows = here.knows;
        knows_fallen = λ other keeps. within_nowhere _;
      }

  -- where a walk begins in it
  pub begun_at : (y : Around) (k : Facts) (at : Course) (by : FlowRule) (t : Script) (is : List Item) → at.by ≡ by → known_behind s at.behind ≡ both k → is ≡ (out-Script t).items → IsList s by y k (script_of s.script.now t)
      → AreItems s at.by y (known_behind s at.behind) is
  begun_at y k at by t is rule known same in_it =
      subst (AreItems s at.by y (known_behind s at.behind)) (sym same) (subst (λ f. AreItems s f y (known_behind s at.behind) (out-Script t).items) (sym rule) (list_at by y k (known_behind s at.behind) t known in_it))

  -- what is known after it
  pub known_after : (k : Facts) (at after : Course) (t : Script) (is : List Item) → known_behind s at.behind ≡ both k → is ≡ (out-Script t).items
      → ((o : After) → KnowsBehind s o (known_behind s at.behind) → KnowsBehind s (e.items_after o (items_from s.script.now is)) (known_behind s after.behind))
      → (q : Seen) → Knows s q k → KnowsBehind s (e.items_after (Both q) (script_of s.script.now t)) (known_behind s after.behind)
  known_after k at after t is known same behind q knows =
      subst (λ u. KnowsBehind s (e.items_after (Both q) u) (known_behind s after.behind)) (ap (items_from s.script.now) same ∙ sym (rules.script_of-out s.script.now t))
      (behind (Both q) (both_known q k (known_behind s at.behind) known knows))

  -- The items of a list

  abbrev item_left : After → Item → After
  item_left o i = e.item_after (views.in_any_case o) (out-Item i).background (trees.and_or_of s.script.now (out-Item i).list)

  pub items_next : (y : Around) (old new : Course) (i : Item) (is : List Item) → AreItems s old.by y (known_behind s old.behind) (i ∷ is) → IsPassed s old new i
      → AreItems s new.by y (known_behind s new.behind) is
  unfolding e.items_entered items_from
  items_next y old new i is here passed =
      let list : p.AndOr = trees.and_or_of s.script.now (out-Item i).list in
      let o : After = e.item_after (views.in_any_case here.seen) (out-Item i).background list in
      subst (λ by. AreItems s by y (known_behind s new.behind) is) (sym passed.by)
      (record {
        seen = o;
        part = last_part s
            (e.list_entered (e.item_rule (out-Item i).background old.by) (e.item_around (out-Item i).background y) (e.item_seen (out-Item i).background (views.in_any_case here.seen)) list)
            (e.items_entered F2 y o (items_from s.script.now is)) here.part;
        knows = passed.behind here.seen here.knows;
      })

  -- after some of them

  items_rest : (by : FlowRule) (y : Around) (o : After) (i : Item) (is js : List Item) → IsPart s (e.items_entered by y o (items_from s.script.now (i ∷ (is ++ js))))
      → IsPart s (e.items_entered F2 y (e.items_after o (items_from s.script.now (i ∷ is))) (items_from s.script.now js))
  unfolding e.items_entered e.items_after items_from
  items_rest by y o i [] js part = last_part s _ (e.items_entered F2 y (item_left o i) (items_from s.script.now js)) part
  items_rest by y o i (j ∷ is) js part = items_rest F2 y (item_left o i) j is js (last_part s _ (e.items_entered F2 y (item_left o i) (items_from s.script.now (j ∷ (is ++ js)))) part)

  pub after_some : (o : After) (is js : List Item) → e.items_after o (items_from s.script.now (is ++ js)) ≡ e.items_after (e.items_after o (items_from s.script.now is)) (items_from s.script.now js)
  unfolding e.items_after items_from
  after_some o [] js = refl
  after_some o (i ∷ is) js = after_some (item_left o i) is js

  pub items_over : (y : Around) (old new : Course) (is js : List Item) → AreItems s old.by y (known_behind s old.behind) (is ++ js) → ArePassed s old new is → AreItems s new.by y (known_behind s new.behind) js
  items_over y old new [] js here passed = subst (λ (at : Course). AreItems s at.by y (known_behind s at.behind) js) (sym (passed.none refl)) here
  items_over y old new (i ∷ is) js here passed =
      subst (λ by. AreItems s by y (known_behind s new.behind) js) (sym (passed.by i is refl))
      (record { seen = e.items_after here.seen (items_from s.script.now (i ∷ is)); part = items_rest old.by y here.seen i is js here.part; knows = passed.behind here.seen here.knows })

  pub goes_over : (o : After) (old new : Course) (all is js : List Item) → GoesOn o (known_behind s old.behind) all (is ++ js) → ArePassed s old new is → GoesOn o (known_behind s new.behind) all js
  goes_over o old new all is js g passed = record {
    seen = e.items_after g.seen (items_from s.script.now is);
    knows = passed.behind g.seen g.knows;
    same = sym (after_some g.seen is js) ∙ g.same;
  }

  -- the and-or list of an item
  pub and_or_placed : (y : Around) (at : Course) (i : Item) (is : List Item) (k : Facts) → ((q : Seen) → Knows s q (in_any_case (known_behind s at.behind)) → Knows s (e.item_seen (out-Item i).background q) k)
      → (c : kept.Certificate) → AreNumbered s.names.now → IsOver s c → AreItems s at.by y (known_behind s at.behind) (i ∷ is)
      → IsAndOr s (e.item_rule (out-Item i).background at.by) (e.item_around (out-Item i).background y) k (out-Item i).list
  unfolding e.items_entered items_from
  and_or_placed y at i is k known c h over here =
      let list : p.AndOr = trees.and_or_of s.script.now (out-Item i).list in
      let q : Seen = e.item_seen (out-Item i).background (views.in_any_case here.seen) in
      record {
        seen = q;
        part = first_part s (e.list_entered (e.item_rule (out-Item i).background at.by) (e.item_around (out-Item i).background y) q list)
            (e.items_entered F2 y (e.item_after (views.in_any_case here.seen) (out-Item i).background list) (items_from s.script.now is)) here.part;
        knows = known (views.in_any_case here.seen)
            (any_led (setting_by s c) (Knows s) (knows_follow s c h over) here.seen (known_behind s at.behind) (stands_of s here.seen (known_behind s at.behind) here.knows));
      }

  -- the list of an item that is no asynchronous one, and of one that is
  pub foreground_within : (y : Around) (at : Course) (i : Item) (is : List Item) (k : Facts) → (out-Item i).background ≡ false → ((q : Seen) → Knows s q (in_any_case (known_behind s at.behind)) → Knows s q k)
      → (c : kept.Certificate) → AreNumbered s.names.now → IsOver s c → AreItems s at.by y (known_behind s at.behind) (i ∷ is) → IsAndOr s at.by y k (out-Item i).list
  unfolding e.item_rule e.item_around e.item_seen
  foreground_within y at i is k own known c h over here =
      subst (λ b. IsAndOr s (e.item_rule b at.by) (e.item_around b y) k (out-Item i).list) own
      (and_or_placed y at i is k (subst (λ b. (q : Seen) → Knows s q (in_any_case (known_behind s at.behind)) → Knows s (e.item_seen b q) k) (sym own) known) c h over here)

  pub foreground_placed : (y : Around) (at : Course) (i : Item) (is : List Item) (k : Facts) → (out-Item i).background ≡ false → k ≡ in_any_case (known_behind s at.behind)
      → (c : kept.Certificate) → AreNumbered s.names.now → IsOver s c → AreItems s at.by y (known_behind s at.behind) (i ∷ is) → IsAndOr s at.by y k (out-Item i).list
  foreground_placed y at i is k own same = foreground_within y at i is k own (λ q w. subst (Knows s q) (sym same) w)

  pub background_placed : (y : Around) (at : Course) (i : Item) (is : List Item) (k : Facts) → (out-Item i).background ≡ true
      → ((q : Seen) → Knows s q (in_any_case (known_behind s at.behind)) → Knows s (views.without_job q) k)
      → (c : kept.Certificate) → AreNumbered s.names.now → IsOver s c → AreItems s at.by y (known_behind s at.behind) (i ∷ is) → IsAndOr s F11 e.alone k (out-Item i).list
  unfolding e.item_rule e.item_around e.item_seen
  background_placed y at i is k own known c h over here =
      subst (λ b. IsAndOr s (e.item_rule b at.by) (e.item_around b y) k (out-Item i).list) own
      (and_or_placed y at i is k
      (subst (λ b. (q : Seen) → Knows s q (in_any_case (known_behind s at.behind)) → Knows s (e.item_seen b q) k) (sym own) known)
      c h over here)

  -- its pipelines
  list_parts : (by : FlowRule) (y : Around) (q : Seen) (l : AndOr) → IsPart s (e.list_entered by y q (trees.and_or_of s.script.now l))
      → IsPart s (e.pipeline_entered by y q (trees.pipeline_of s.script.now (out-AndOr l).first)
      ++ e.links_entered y (e.pipeline_after q (trees.pipeline_of s.script.now (out-AndOr l).first)) (links_from s.script.now (out-AndOr l).rest))
  unfolding e.items_entered
  list_parts by y q l part = subst (λ z. IsPart s (e.list_entered by y q z)) (rules.and_or_of-out s.script.now l) part

  pub pipe_placed : (by : FlowRule) (y : Around) (k : Facts) (l : AndOr) → IsAndOr s by y k l → IsPipe s by y k (out-AndOr l).first
  pipe_placed by y k l here = record { seen = here.seen; part = first_part s _ _ (list_parts by y here.seen l here.part); knows = here.knows }

  pub links_placed : (by : FlowRule) (y : Around) (k : Facts) (l : AndOr) (b : Behind)
      → ((q : Seen) → Knows s q k → KnowsBehind s (e.pipeline_after q (trees.pipeline_of s.script.now (out-AndOr l).first)) b) → IsAndOr s by y k l → AreLinks s y b (out-AndOr l).rest
  links_placed by y k l b known here = record {
    seen = e.pipeline_after here.seen (trees.pipeline_of s.script.now (out-AndOr l).first);
    part = last_part s _ _ (list_parts by y here.seen l here.part);
    knows = known here.seen here.knows;
  }

  pub link_placed : (y : Around) (b : Behind) (k : Facts) (l : Link × Pipe) (ls : List (Link × Pipe)) → k ≡ behind.link_known l.0 b → (c : kept.Certificate) → AreNumbered s.names.now → IsOver s c
      → AreLinks s y b (l ∷ ls) → IsPipe s F3 y k l.1
  unfolding e.items_entered links_from
  link_placed y b k l ls same c h over here = record {
    seen = e.link_seen l.0 here.seen;
    part = first_part s (e.pipeline_entered F3 y (e.link_seen l.0 here.seen) (trees.pipeline_of s.script.now l.1)) _ here.part;
    knows = subst (Knows s (e.link_seen l.0 here.seen)) (sym same) (link_led (setting_by s c) (Knows s) (knows_follow s c h over) l.0 here.seen b (stands_of s here.seen b here.knows));
  }

  pub links_next : (y : Around) (b o : Behind) (l : Link × Pipe) (ls : List (Link × Pipe))
      → ((q : After) → KnowsBehind s q b → KnowsBehind s (e.linked l.0 q (e.pipeline_after (e.link_seen l.0 q) (trees.pipeline_of s.script.now l.1))) o) → AreLinks s y b (l ∷ ls) → AreLinks s y o ls
  unfolding e.items_entered links_from
  links_next y b o l ls known here = record {
    seen = e.linked l.0 here.seen (e.pipeline_after (e.link_seen l.0 here.seen) (trees.pipeline_of s.script.now l.1));
    part = last_part s (e.pipeline_entered F3 y (e.link_seen l.0 here.seen) (trees.pipeline_of s.script.now l.1)) _ here.part;
    knows = known here.seen here.knows;
  }

  -- the parts of a pipeline
  pub parts_placed : (by : FlowRule) (y : Around) (k k' : Facts) (l : Pipe) (is_long : Bool) → is_long ≡ nat_lt 1 (length (out-Pipe l).parts)
      → ((q : Seen) → Knows s q k → Knows s (e.item_seen is_long q) k') → IsPipe s by y k l → AreParts s (e.part_rule is_long by) (e.part_around is_long y) k' (out-Pipe l).parts
  unfolding e.items_entered
  parts_placed by y k k' l is_long long known here = record {
    seen = e.item_seen is_long here.seen;
    part = subst (λ z. IsPart s (e.commands_entered (e.part_rule z by) (e.part_around z y) (e.item_seen z here.seen) (commands_from s.script.now (out-Pipe l).parts)))
        (long_parts s.script.now (out-Pipe l).parts ∙ sym long) (subst (λ z. IsPart s (e.pipeline_entered by y here.seen z)) (rules.pipeline_of-out s.script.now l) here.part);
    knows = known here.seen here.knows;
  }

  -- the parts by how many they are
  pub long_placed : (by : FlowRule) (y : Around) (k k' : Facts) (l : Pipe) → 1 < length (out-Pipe l).parts
      → ((q : Seen) → Knows s q k → Knows s (views.without_job q) k') → IsPipe s by y k l → AreParts s F12 (e.part_around true y) k' (out-Pipe l).parts
  unfolding e.part_rule e.item_seen
  long_placed by y k k' l long known here =
      let is : nat_lt 1 (length (out-Pipe l).parts) ≡ true = grind (arith, nat_tests, long) in
      parts_placed by y k k' l true (sym is) known here

  pub short_placed : (by : FlowRule) (y : Around) (k : Facts) (l : Pipe) → length (out-Pipe l).parts ≤ 1 → IsPipe s by y k l → AreParts s by y k (out-Pipe l).parts
  unfolding e.part_rule e.part_around e.item_seen
  short_placed by y k l short here =
      let is : nat_lt 1 (length (out-Pipe l).parts) ≡ false = grind (arith, nat_tests, short) in
      parts_placed by y k k l false (sym is) (λ q w. w) here

  pub command_placed : (by : FlowRule) (y : Around) (k : Facts) (c : Command) (cs : List Command) → AreParts s by y k (c ∷ cs) → IsCommand s by y k c
  unfolding e.items_entered commands_from
  command_placed by y k c cs here = record { seen = here.seen; part = first_part s (e.command_entered by y here.seen (trees.command_of s.script.now c)) _ here.part; knows = here.knows }

  pub parts_next : (by : FlowRule) (y : Around) (k : Facts) (c : Command) (cs : List Command) → AreParts s by y k (c ∷ cs) → AreParts s by y k cs
  unfolding e.items_entered commands_from
  parts_next by y k c cs here = record { seen = here.seen; part = last_part s (e.command_entered by y here.seen (trees.command_of s.script.now c)) _ here.part; knows = here.knows }

-- What is left of a list, from an index

pub at_index : {A : Type 0} (xs : List A) (i : ℕ) (x : A) → i < length xs → x ≡ get_or xs i x → drop i xs ≡ x ∷ drop (i + 1) xs
at_index xs i x below is =
    let next : suc i ≡ i + 1 = omega arith in
    drop-cons xs i x below ∙ ap (λ y. y ∷ drop (suc i) xs) (sym is) ∙ ap (λ k. x ∷ drop k xs) next

-- and the piece before a later one
pub piece_before : {A : Type 0} (xs : List A) (i j : ℕ) → i ≤ j → take (j - i) (drop i xs) ++ drop j xs ≡ drop i xs
piece_before xs i j before =
    let sum : i + (j - i) ≡ j = omega (arith, before) in
    ap (λ ys. take (j - i) (drop i xs) ++ ys) (ap (λ k. drop k xs) (sym sum) ∙ sym (drop-drop (j - i) i xs)) ∙ take-append-drop (j - i) (drop i xs)

-- what is left from a later place, if each member before it may be left out
skipped : {A : Type 0} (P : List A → Type 0) → ((x : A) (xs : List A) → P (x ∷ xs) → P xs) → (n : ℕ) (xs : List A) → P xs → P (drop n xs)
skipped P step zero xs here = here
skipped P step (suc n) [] here = here
skipped P step (suc n) (x ∷ xs) here = skipped P step n xs (step x xs here)

-- so at the place at which a sweep goes on
pub left_at : {A : Type 0} (P : List A → Type 0) (is_known : Bool) (xs : List A) (i j : ℕ) → i ≤ j → (is_known ≡ true → j ≡ i) → (is_known ≡ false → (x : A) (ys : List A) → P (x ∷ ys) → P ys)
    → P (drop i xs) → P (drop j xs)
left_at P true xs i j before same step here = subst (λ k. P (drop k xs)) (sym (same refl)) here
left_at P false xs i j before same step here =
    let sum : i + (j - i) ≡ j = omega (arith, before) in
    subst P (drop-drop (j - i) i xs ∙ ap (λ k. drop k xs) sum) (skipped P (step refl) (j - i) (drop i xs) here)

pub found_below : (i n : ℕ) → i ≤ n → i ≢ n → i < n
found_below i n most other = omega (arith, most, other)

module _ (s : Subject) (y : Around) where
  pub parts_left : (by : FlowRule) (k : Facts) (is_known : Bool) (cs : List Command) (i j : ℕ) → i ≤ j → (is_known ≡ true → j ≡ i) → AreParts s by y k (drop i cs) → AreParts s by y k (drop j cs)
  parts_left by k is_known cs i j before same = left_at (AreParts s by y k) is_known cs i j before same (λ none c rest. parts_next s by y k c rest)

  pub branches_left : (n : ℕ) (known : Knowledge) (is_known : Bool) (bs : List Branch) (z : p.Otherwise) (i j : ℕ) → is_known ≡ not (claims (knowledge_facts s.names.now known) Nowhere) → i ≤ j → (is_known ≡ true → j ≡ i)
      → AreBranches s y n (knowledge_facts s.names.now known) (branches_from s.script.now (drop i bs)) z → AreBranches s y n (knowledge_facts s.names.now known) (branches_from s.script.now (drop j bs)) z
  branches_left n known is_known bs z i j reached before same =
      let k = knowledge_facts s.names.now known in
      left_at (λ cs. AreBranches s y n k (branches_from s.script.now cs) z) is_known bs i j before same
      (λ none b rest. branches_next s y n k k b rest z (λ q knows other keeps. subst (IsWithin _) (sym (unreached k is_known reached none)) (within_nowhere _)))

  pub clauses_left : (n : ℕ) (k f : Facts) (is_known : Bool) (cs : List Clause) (i j : ℕ) → (is_known ≡ false → f ≡ NotReached) → i ≤ j → (is_known ≡ true → j ≡ i)
      → AreClauses s y n k f (clauses_from s.script.now (drop i cs)) → AreClauses s y n k f (clauses_from s.script.now (drop j cs))
  clauses_left n k f is_known cs i j reached before same =
      left_at (λ ds. AreClauses s y n k f (clauses_from s.script.now ds)) is_known cs i j before same
      (λ none c rest here. subst (λ g. AreClauses s y n k g (clauses_from s.script.now rest)) (sym (reached none)) (clauses_idle s y n k f c rest here))

module _ (s : Subject) where
  -- the list from a place on, after the items before the next one
  behind_piece : {A : Type 0} (xs : List A) (i j : ℕ) (x : A) → i ≤ j → j < length xs → x ≡ get_or xs j x → drop i xs ≡ take (j - i) (drop i xs) ++ (x ∷ drop (j + 1) xs)
  behind_piece xs i j x before low is = sym (piece_before xs i j before) ∙ ap (λ ys. take (j - i) (drop i xs) ++ ys) (at_index xs j x low is)

  pub next_item : (y : Around) (is : List Item) (at next : ℕ) (i : Item) → at ≤ next → next < length is → i ≡ get_or is next i → (old new : Course) → AreItems s old.by y (known_behind s old.behind) (drop at is)
      → ArePassed s old new (take (next - at) (drop at is)) → AreItems s new.by y (known_behind s new.behind) (i ∷ drop (next + 1) is)
  next_item y is at next i before low found old new here passed =
      items_over s y old new (take (next - at) (drop at is)) (i ∷ drop (next + 1) is) (subst (AreItems s old.by y (known_behind s old.behind)) (behind_piece is at next i before low found) here) passed

  pub next_goes : (o : After) (is : List Item) (at next : ℕ) (i : Item) → at ≤ next → next < length is → i ≡ get_or is next i → (old new : Course) → GoesOn s o (known_behind s old.behind) is (drop at is)
      → ArePassed s old new (take (next - at) (drop at is)) → GoesOn s o (known_behind s new.behind) is (i ∷ drop (next + 1) is)
  next_goes o is at next i before low found old new g passed =
      goes_over s o old new is (take (next - at) (drop at is)) (i ∷ drop (next + 1) is) (subst (GoesOn s o (known_behind s old.behind) is) (behind_piece is at next i before low found) g) passed
