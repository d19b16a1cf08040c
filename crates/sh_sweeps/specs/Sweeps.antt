-- A sweep of the search over the commands of a script. Each is lowered by itself, with what is
-- known before it by the certificate as it is there.
-- The standard has no such thing: a certificate is lowered until it keeps all flow rules.
use Rattle.std.specs.Prelude.{◌≡◌, ◌-◌, ℕ, Some, true, List, [], ◌∷◌, ◌++◌}
use Rattle.sh_tree.specs.declared.tree.Command.{Command}
use Rattle.sh_tree.specs.declared.tree.AndOr.{AndOr}
use Rattle.sh_tree.specs.declared.tree.Item.{Item, out-Item}
use Rattle.sh_tree.specs.declared.tree.Kind.{Kind}
use Rattle.sh_tree.specs.declared.tree.Link.{Link}
use Rattle.sh_tree.specs.declared.tree.Pipe.{Pipe}
use Rattle.sh_tree.specs.Lists.{commands_from, items_from, links_from}
use Rattle.sh_tree.specs.standard.program.Syntax as p
use Rattle.sh_tree.specs.standard.program.Trees as trees
use Rattle.sh_tree.specs.standard.program.Trees.{script_of}
use Rattle.sh_runs.specs.Calls.{table_of}
use Rattle.sh_domain.specs.declared.certificate.Certificate as kept
use Rattle.sh_domain.specs.declared.rule.FlowRule.{FlowRule}
use Rattle.sh_domain.specs.declared.rule.FlowRule.TheVariants.{F2}
use Rattle.sh_domain.specs.Entries.{Around, Entered, branches_entered, clauses_entered, command_entered, commands_entered, elements_entered, item_after, items_after, items_entered, kind_entered, links_entered, list_entered, pipeline_entered, otherwise_entered, otherwise_seen, script_entered, word_entered}
use Rattle.sh_domain.specs.Facts.{Facts, facts}
use Rattle.sh_domain.specs.Faults.{broken}
use Rattle.sh_domain.specs.Gains.{Gains, word_gains}
use Rattle.sh_domain.specs.Inclusions.{Each}
use Rattle.sh_domain.specs.Knowledge.{knowledge_facts}
use Rattle.sh_domain.specs.Order.{IsWithin}
use Rattle.sh_domain.specs.Rules.{Constraint, branches_bounds, clauses_bounds, kind_bounds, leaves, otherwise_bounds}
use Rattle.sh_domain.specs.Sheets.{Sheet}
use Rattle.sh_domain.specs.Views.{After, Both, Seen, gaining, in_any_case}
use Rattle.sh_rules.specs.declared.behind.Behind as code
use Rattle.sh_rules.specs.declared.course.Course.{Course}
use Rattle.sh_rules.specs.Above.{SeesWithin}
use Rattle.sh_rules.specs.Behind.{Behind}
use Rattle.sh_rules.specs.Meaning.{sees}
use Rattle.sh_rules.specs.Settings.{Setting}
use Rattle.sh_domain.specs.Admitted.{claims_in, functions_in}
use Rattle.sh_drafts.specs.declared.place.Part.{Part}
use Rattle.sh_drafts.specs.Places as place
use Rattle.sh_drafts.specs.Places.{claim_there}
use Rattle.sh_drafts.specs.Ready.{Keeps}
use Rattle.sh_drafts.specs.declared.subject.Subject.{Subject}
use Rattle.sh_drafts.specs.Starts.{start_of}
use Rattle.sh_drafts.specs.Stated.{is_asked}

module _ (s : Subject) where
  -- what a walk over the script uses
  abbrev pub setting_by : kept.Certificate → Setting
  setting_by c = record {
    script = s.script.now;
    names = s.names.now;
    functions = functions_in s.script.now s.tree.now;
    rows = (table_of s.script.now s.tree.now).rows;
    kept = c;
  }

  -- What is known

  -- no sheet that keeps what is required sees more there
  abbrev pub Knows : Seen → Facts → Type 0
  Knows q k = (other : Sheet) → Keeps s other → IsWithin (sees s.names.now (start_of s) (claims_in s.script.now s.tree.now other) q) k

  -- nor after a list, by its status
  abbrev pub KnowsBehind : After → Behind → Type 0
  KnowsBehind o b = (other : Sheet) → Keeps s other → SeesWithin s.names.now (start_of s) (claims_in s.script.now s.tree.now other) o b

  abbrev pub known_behind : code.Behind → Behind
  known_behind o = record { zero = knowledge_facts s.names.now o.zero; nonzero = knowledge_facts s.names.now o.nonzero }

  -- What is kept

  -- each sheet that keeps what is required keeps these, as far as they are
  abbrev pub AreKept : List Constraint → Type 0
  AreKept ks = (other : Sheet) → Keeps s other → Each (λ b. is_asked s.stated b ≡ true → broken (start_of s) (claims_in s.script.now s.tree.now other) b ≡ []) ks

  -- and claims no more than this at a part of the command of a number
  abbrev pub ClaimsWithin : Part → ℕ → Facts → Type 0
  ClaimsWithin part n k = (other : Sheet) → Keeps s other → IsWithin (facts (claim_there other (Some (place.at part (n - 1))))) k

  -- Where a sweep is

  -- commands that are together in the script, as they are entered
  pub record IsPart (es : List Entered) : Type 0 where
    pub front : List Entered
    pub back : List Entered
    pub whole : script_entered (script_of s.script.now s.tree.now) ≡ front ++ (es ++ back)

  -- commands that are entered from somewhere, and what is known there
  pub record IsIn (entered : Seen → List Entered) (known : Facts) : Type 0 where
    pub seen : Seen
    pub part : IsPart (entered seen)
    pub knows : Knows seen known

  pub record IsAt (entered : After → List Entered) (known : Behind) : Type 0 where
    pub seen : After
    pub part : IsPart (entered seen)
    pub knows : KnowsBehind seen known

  -- a command
  abbrev pub IsCommand : FlowRule → Around → Facts → Command → Type 0
  IsCommand by y k c = IsIn (λ q. command_entered by y q (trees.command_of s.script.now c)) k

  -- the parts of a pipeline, or what is left of them
  abbrev pub AreParts : FlowRule → Around → Facts → List Command → Type 0
  AreParts by y k cs = IsIn (λ q. commands_entered by y q (commands_from s.script.now cs)) k

  abbrev pub IsPipe : FlowRule → Around → Facts → Pipe → Type 0
  IsPipe by y k l = IsIn (λ q. pipeline_entered by y q (trees.pipeline_of s.script.now l)) k

  abbrev pub IsAndOr : FlowRule → Around → Facts → AndOr → Type 0
  IsAndOr by y k l = IsIn (λ q. list_entered by y q (trees.and_or_of s.script.now l)) k

  -- what is left of the pipelines after `&&` and `||`
  abbrev pub AreLinks : Around → Behind → List (Link × Pipe) → Type 0
  AreLinks y k ls = IsAt (λ o. links_entered y o (links_from s.script.now ls)) k

  -- what is in the redirections of a command, and in it
  pub record IsInside (y : Around) (c : Command) : Type 0 where
    pub by : FlowRule
    pub seen : Seen
    pub part : IsPart (command_entered by y seen (trees.command_of s.script.now c))

  pub record IsKind (y : Around) (n : ℕ) (known : Facts) (kind : Kind) : Type 0 where
    pub inside : IsIn (λ q. kind_entered y n q (trees.kind_of s.script.now kind)) known
    pub asked : AreKept (kind_bounds (functions_in s.script.now s.tree.now) y n inside.seen (trees.kind_of s.script.now kind))

  -- what is left of the elements of a simple command: where its next word is expanded, and after
  -- all its words
  pub record AreElements (known behind : Facts) (es : p.Elements) : Type 0 where
    pub seen : Seen
    pub last : Seen
    pub part : IsPart (elements_entered seen last es)
    pub knows : Knows seen known
    pub knows_last : Knows last behind

  -- a word, or what is left of it
  abbrev pub IsWord : Facts → p.Word → Type 0
  IsWord k w = IsIn (λ q. word_entered q w) k

  -- what is known after something that leaves these set
  abbrev pub Gained : Gains → Facts → Facts → Type 0
  Gained g old new = (q : Seen) → Knows q old → Knows (gaining g q) new

  -- what is left of a list
  abbrev pub AreItems : FlowRule → Around → Behind → List Item → Type 0
  AreItems by y k is = IsAt (λ o. items_entered by y o (items_from s.script.now is)) k

  -- a list that is entered so whatever the status was
  abbrev pub IsList : FlowRule → Around → Facts → p.Items → Type 0
  IsList by y k t = IsIn (λ q. items_entered by y (Both q) t) k

  -- so that the command of a number leaves what the list does
  pub record IsLeft (y : Around) (n : ℕ) (by : FlowRule) (known : Facts) (t : p.Items) : Type 0 where
    pub inside : IsList by y known t
    pub asked : AreKept (leaves n by (items_after (Both inside.seen) t))

  -- what is left of an `if`
  pub record AreBranches (y : Around) (n : ℕ) (known : Facts) (bs : p.Branches) (z : p.Otherwise) : Type 0 where
    pub seen : Seen
    pub part : IsPart (branches_entered y seen bs ++ otherwise_entered y (otherwise_seen seen bs) z)
    pub asked : AreKept (branches_bounds n seen bs)
    pub asked_last : AreKept (otherwise_bounds n (otherwise_seen seen bs) z)
    pub knows : Knows seen known

  -- a `case`: its word, and its clauses after it
  pub record IsCase (y : Around) (n : ℕ) (known : Facts) (w : p.Word) (cs : p.Clauses) : Type 0 where
    pub inside : IsIn (λ q. word_entered q w ++ clauses_entered y (gaining (word_gains w) q) [] cs) known
    pub asked : AreKept (clauses_bounds n (gaining (word_gains w) inside.seen) [] cs)

  -- what is left of it: after its word, and after the list before it
  pub record AreClauses (y : Around) (n : ℕ) (known fallen : Facts) (cs : p.Clauses) : Type 0 where
    pub seen : Seen
    pub falls : Seen
    pub part : IsPart (clauses_entered y seen falls cs)
    pub asked : AreKept (clauses_bounds n seen falls cs)
    pub knows : Knows seen known
    pub knows_fallen : Knows falls fallen

  -- The walk goes on after an item.
  pub record IsPassed (old new : Course) (i : Item) : Type 0 where
    pub by : new.by ≡ F2
    pub behind : (o : After) → KnowsBehind o (known_behind old.behind)
        → KnowsBehind (item_after (in_any_case o) (out-Item i).background (trees.and_or_of s.script.now (out-Item i).list)) (known_behind new.behind)

  -- The walk goes on after some items, or stays if there is none.
  pub record ArePassed (old new : Course) (is : List Item) : Type 0 where
    pub none : is ≡ [] → new ≡ old
    pub by : (i : Item) (rest : List Item) → is ≡ i ∷ rest → new.by ≡ F2
    pub behind : (o : After) → KnowsBehind o (known_behind old.behind) → KnowsBehind (items_after o (items_from s.script.now is)) (known_behind new.behind)
