-- What a simple command needs while it is done, by its stages: its words, its redirections and
-- assignments, a utility, a call.
-- POSIX.1-2024, XCU 2.9.1 (simple commands), 2.9.5 (functions), 2.15 (special built-in utilities).
use Rattle.std.specs.Prelude.{◌≡◌, ℕ, ◌≤◌, Bool, true, false, List, [], ◌∷◌, length, map, ◌⊎◌}
use Rattle.sh_tree.specs.standard.language.Bytes.{is_name}
use Rattle.sh_tree.specs.standard.program.Syntax as p
use Rattle.sh_tree.specs.standard.program.Syntax.{Text, Word}
use Rattle.sh_tree.specs.standard.program.Words.{Assignments, redirects_in, assignments_in, operands_in}
use Rattle.sh_runs.specs.standard.Kinds.{kind_of}
use Rattle.sh_runs.specs.standard.runs.Environment.{is_one_of}
use Rattle.sh_runs.specs.standard.runs.Steps.{opened, Manner, Nameless, Special, Named, manner}
use Rattle.sh_runs.specs.standard.runs.Work.{Simple, Saved, Work, Words, Prepare, Utility, Call}
use Rattle.sh_domain.specs.Entries.{Around}
use Rattle.sh_domain.specs.Facts.{Facts, NotReached, Known, Function, Variable, claims, facts}
use Rattle.sh_domain.specs.Gains.{Gains, named, and_gains, with_gains, words_gains, redirects_gains}
use Rattle.sh_domain.specs.Inclusions.{CommandRules, behind}
use Rattle.sh_domain.specs.Operands.{total}
use Rattle.sh_domain.specs.Rules.{losses_by}
use Rattle.sh_domain.specs.Table as table
use Rattle.sh_domain.specs.Table.{is_special, is_redirected, prefixes, values_gains, assignments_gains, redirections_gains}
use Rattle.sh_domain.specs.Views.{Certificate, Before, Seen, counted_by, gaining, gaining_names}
use Rattle.sh_sound.specs.Fields.{FieldsFit, Begun}
use Rattle.sh_sound.specs.Going.{unset_before, WordAt, WordsAt, BodyOk}
use Rattle.sh_sound.specs.Holding.{Entails}

-- the names of assignments
abbrev pub names_of : Assignments → List Text
names_of xs = map (λ x. x.0) xs

-- what these assignments will leave set
abbrev pub left_gains : Assignments → Gains
left_gains xs = and_gains (values_gains xs) (named (names_of xs))

-- what is known after the words of a command, by what is claimed before it
abbrev pub behind_facts : Certificate → ℕ → p.Elements → Facts
behind_facts c n es = with_gains (words_gains (operands_in es)) (facts (c.claim (Before n)))

-- how many positional parameters there are at least
unfoldable pub parameters : Facts → ℕ
parameters NotReached = 0
parameters (Known v f a) = a

module _ (start : Facts) (c : Certificate) (defined : List Text) where
  -- what rules and demands give of the command, and that functions of the script have names
  pub record RulesAt (x : Around) (n : ℕ) (es : p.Elements) : Type 0 where
    pub seen : Seen
    pub offset : ℕ
    pub redirects : p.Redirects
    pub rules : CommandRules start c defined x seen n offset (p.Simple es) redirects (losses_by defined es (behind start c n es) (table.manner defined es))
    pub named : (t : Text) → is_one_of defined t ≡ true → is_name t ≡ true

  -- redirections and assignments are judged after the words, each by itself

  unfoldable pub EachOpened : Seen → p.Redirects → Type 0
  EachOpened b p.no_redirects = Unit {0}
  EachOpened b (p.more_redirects r rs) = WordAt start c defined b (opened r) × EachOpened b rs

  unfoldable pub EachValue : Seen → Assignments → Type 0
  EachValue b [] = Unit {0}
  EachValue b (x ∷ xs) = (is_name x.0 ≡ true) × WordAt start c defined b x.1 × EachValue b xs

  -- the redirections and assignments that are left of a command after its words
  pub record LeftAt (n : ℕ) (es : p.Elements) (rs : p.Redirects) (xs : Assignments) (s : Seen) : Type 0 where
    pub behind_words : Entails start c s (behind start c n es)
    pub opened : EachOpened (behind start c n es) rs
    pub values : EachValue (behind start c n es) xs
    pub redirected : is_redirected rs ≡ true → is_redirected (redirects_in es) ≡ true

  -- The words

  -- the words that are left may be expanded one after the other, and after them is known what the
  -- rules say
  pub record WordsStage (x : Around) (k : Simple) (left : p.Words) (rs : p.Redirects) (xs : Assignments) (s : Seen) : Type 0 where
    pub rules : RulesAt x k.number k.elements
    pub words : WordsAt start c defined s left
    pub behind_words : Entails start c (gaining (words_gains left) s) (behind start c k.number k.elements)
    pub redirects : rs ≡ redirects_in k.elements
    pub assignments : xs ≡ assignments_in k.elements
    pub opened : EachOpened (behind start c k.number k.elements) rs
    pub values : EachValue (behind start c k.number k.elements) xs

  -- Redirections and assignments

  -- What will be known when they are done: without a name what the assignments leave; at a special
  -- built-in utility what the redirections leave too. A function and another utility have all
  -- assignments left.
  unfoldable pub Settles : Manner → ℕ → p.Elements → p.Redirects → Assignments → Seen → Type 0
  Settles Nameless n es rs xs s = Entails start c (gaining (left_gains xs) s) (gaining (assignments_gains es) (behind start c n es))
  Settles (Special name ts) n es rs xs s =
      Entails start c (gaining (and_gains (left_gains xs) (redirects_gains rs)) s) (gaining (and_gains (assignments_gains es) (redirections_gains es)) (behind start c n es))
  Settles (Named name ts) n es rs xs s = xs ≡ assignments_in es

  -- The words are expanded, and have given these fields. What is left of the redirections and
  -- assignments may be expanded. A redirection has failed only if there is one.
  pub record PrepareStage (x : Around) (k : Simple) (fields : List Text) (rs : p.Redirects) (xs : Assignments) (failed : Bool) (s : Seen) : Type 0 where
    pub rules : RulesAt x k.number k.elements
    pub fits : FieldsFit (parameters (behind_facts c k.number k.elements)) k.elements [] fields
    pub left : LeftAt k.number k.elements rs xs s
    pub settles : Settles (manner fields) k.number k.elements rs xs s
    pub was_redirected : failed ≡ true → is_redirected (redirects_in k.elements) ≡ true

  -- A utility

  -- The name is none of a special built-in utility. No function of the script has it, or none that
  -- is known to be defined. All names of prefix assignments are given.
  pub record UtilityStage (x : Around) (k : Simple) (name : Text) (operands : List Text) (rs : p.Redirects) (xs : Assignments) (all : List Text) (s : Seen) : Type 0 where
    pub rules : RulesAt x k.number k.elements
    pub begun : Begun (parameters (behind_facts c k.number k.elements)) k.elements [] name operands
    pub left : LeftAt k.number k.elements rs xs s
    pub ordinary : is_special (kind_of name) ≡ false
    pub unclaimed : (is_one_of defined name ≡ false) ⊎ (claims (behind_facts c k.number k.elements) (Function name) ≡ false)
    pub prefixed : all ≡ prefixes k.elements

  -- A call

  -- The rules take the command for a call of this function. There are as many operands as they
  -- count. When the assignments that are left are done, all of their names are set; and those names
  -- that were not set before them nobody claims.
  pub record CallStage (x : Around) (n : ℕ) (function : Text) (operands : List Text) (body : p.Command) (rs : p.Redirects) (xs : Assignments) (saved : Saved) (s : Seen) : Type 0 where
    pub elements : p.Elements
    pub words : List Word
    pub rules : RulesAt x n elements
    pub calls : table.manner defined elements ≡ table.Call function words
    pub entered : BodyOk start c defined function body
    pub left : LeftAt n elements rs xs s
    pub counted : counted_by (total words) (parameters (behind_facts c n elements)) ≤ length operands
    pub prefixed : Entails start c (gaining_names (names_of xs) s) (gaining_names (prefixes elements) (behind start c n elements))
    pub among : (t : Text) → is_one_of (names_of xs) t ≡ true → is_one_of (prefixes elements) t ≡ true
    pub unset_among : (t : Text) → is_one_of (unset_before saved) t ≡ true → is_one_of (prefixes elements) t ≡ true
    pub unclaimed : (t : Text) → is_one_of (unset_before saved) t ≡ true → claims (behind_facts c n elements) (Variable t) ≡ false

  -- what each stage needs, if this is seen
  unfoldable pub SimpleAt : Around → Work → Seen → Type 0
  SimpleAt x (Words k left fields rs xs) s = WordsStage x k left rs xs s
  SimpleAt x (Prepare k fields rs xs failed) s = PrepareStage x k fields rs xs failed s
  SimpleAt x (Utility k name operands rs xs all values) s = UtilityStage x k name operands rs xs all s
  SimpleAt x (Call n function operands body rs xs saved) s = CallStage x n function operands body rs xs saved s
  SimpleAt x _ s = ⊥
