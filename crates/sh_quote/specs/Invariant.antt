-- What stays true of every process while a script runs whose expansions are quoted: each command
-- that is left keeps the rules, and IFS separates no numbers where the rules count on it.
-- POSIX.1-2024, XCU 2.6.5 (field splitting), 2.9 (shell commands).
use Rattle.std.specs.Prelude.{◌≡◌, ◌==◌, Bool, true, false, not, ◌&&◌, ◌||◌, List, [], ◌∷◌, ◌++◌, length, codes, Some, is_some, unwrap_or, flat_map}
use Rattle.std.specs.List.{list_any, list_all}
use Rattle.sh_tree.specs.standard.program.Syntax as p
use Rattle.sh_tree.specs.standard.program.Syntax.{Text}
use Rattle.sh_tree.specs.standard.program.Words.{Assignments, operands_in, redirects_in, assignments_in, static_of, assignment_in, words_in}
use Rattle.sh_tree.specs.declared.known.KnownName.TheVariants as known
use Rattle.sh_runs.specs.declared.kind.Kind.{Kind}
use Rattle.sh_runs.specs.declared.kind.Kind.TheVariants as kind
use Rattle.sh_runs.specs.Counts.{some_gives_field}
use Rattle.sh_runs.specs.standard.Kinds.{kind_of, is_declaration}
use Rattle.sh_runs.specs.Profile.{refused_at}
use Rattle.sh_runs.specs.Quoting.{word_assigns, is_ifs, is_steady}
use Rattle.sh_runs.specs.Rows.{text_gives_field, command_gives_fields}
use Rattle.sh_runs.specs.Surroundings.{Surroundings, Located, items_located, links_located, pipeline_located, command_located, branches_located, otherwise_located, word_located}
use Rattle.sh_runs.specs.standard.runs.Environment.{Environment}
use Rattle.sh_runs.specs.standard.runs.Operands as o
use Rattle.sh_runs.specs.standard.runs.Steps.{opened}
use Rattle.sh_runs.specs.standard.runs.Work.{Work, Items, Links, Pipeline, Negation, Command, Words, Prepare, Utility, Call, Return, Compound, If, Then, Test, Again, ForWords, ForFields, Clauses, Patterns, Fall, Saved}
use Rattle.sh_domain.specs.Operands.{statics}
use Rattle.sh_quote.specs.Places.{word_places, split_words}
use Rattle.sh_quote.specs.Steady.{is_static, steady_command, steady_assignment, steady_field, steady_declared, steady_operand, steady_getopts}

-- whether the rules count on numbers that splitting does not change
module _ (numbers : Bool) where
  -- a name whose value the rules watch
  abbrev pub watched : Text → Bool
  watched name = numbers && is_ifs name

  -- the command keeps the rules
  unfoldable pub is_good : Located → Bool
  is_good l =
      length (flat_map (word_places numbers) (split_words l.command)) == 0
      && (not numbers || steady_command l.command)
      && command_gives_fields l.command
      && not (is_some (refused_at l))

  abbrev pub AllGood : List Located → Type 0
  AllGood ls = list_all is_good ls ≡ true

  -- Words

  -- a word: it assigns no watched name, and the commands in it are good
  pub record WordGood (w : p.Word) : Type 0 where
    pub assigns : word_assigns watched w ≡ false
    pub located : AllGood (word_located w)

  unfoldable pub WordsGood : p.Words → Type 0
  WordsGood p.no_words = Unit {0}
  WordsGood (p.more_words w ws) = WordGood w × WordsGood ws

  unfoldable pub RedirectsGood : p.Redirects → Type 0
  RedirectsGood p.no_redirects = Unit {0}
  RedirectsGood (p.more_redirects r rs) = WordGood (opened r) × RedirectsGood rs

  -- an assignment: if it sets IFS, the value is steady
  pub record ValueGood (x : Text × p.Word) : Type 0 where
    pub word : WordGood x.1
    pub steady : numbers ≡ true → steady_assignment x ≡ true

  unfoldable pub ValuesGood : Assignments → Type 0
  ValuesGood [] = Unit {0}
  ValuesGood (x ∷ xs) = ValueGood x × ValuesGood xs

  -- a word whose fields are split
  pub record SplitGood (w : p.Word) : Type 0 where
    pub word : WordGood w
    pub quoted : word_places numbers w ≡ []

  unfoldable pub SplitWordsGood : p.Words → Type 0
  SplitWordsGood p.no_words = Unit {0}
  SplitWordsGood (p.more_words w ws) = SplitGood w × SplitWordsGood ws

  -- an operand of a command of this kind: an assignment in form of a declaration utility is not
  -- split
  pub record OperandGood (k : Kind) (w : p.Word) : Type 0 where
    pub word : WordGood w
    pub quoted : (is_declaration k && is_some (assignment_in w)) ≡ false → word_places numbers w ≡ []
    pub stands : text_gives_field w ≡ true

  unfoldable pub OperandsGood : Kind → p.Words → Type 0
  OperandsGood k p.no_words = Unit {0}
  OperandsGood k (p.more_words w ws) = OperandGood k w × OperandsGood k ws

  -- Operands of a utility that could set IFS: the fields so far, and the words that are left

  unfoldable pub SteadyGetopts : List Text → List p.Word → Type 0
  SteadyGetopts [] ws = steady_getopts ws ≡ true
  SteadyGetopts (t ∷ ts) ws = (list_any is_ifs ts ≡ false) × (list_all steady_operand ws ≡ true)

  unfoldable pub Steady : Kind → List Text → List p.Word → Type 0
  Steady (kind.Special known.Export) ts ws = (list_all steady_field ts ≡ true) × (list_all steady_declared ws ≡ true)
  Steady (kind.Special known.Readonly) ts ws = (list_all steady_field ts ≡ true) × (list_all steady_declared ws ≡ true)
  Steady kind.Read ts ws = (list_all is_static ws ≡ true) × (list_any is_ifs (unwrap_or (o.read_names (ts ++ statics ws)) []) ≡ false)
  Steady kind.Getopts ts ws = SteadyGetopts ts ws
  Steady _ ts ws = Unit {0}

  -- the fields of a command
  unfoldable pub FieldsGood : List Text → Type 0
  FieldsGood [] = Unit {0}
  FieldsGood (t ∷ ts) = numbers ≡ true → Steady (kind_of t) ts []

  -- after the name of a command
  pub record BehindGood (k : Kind) (ts : List Text) (left : p.Words) : Type 0 where
    pub operands : OperandsGood k left
    pub steady : numbers ≡ true → Steady k ts (words_in left)

  -- the name is static, and is one field
  pub record NameGood (w : p.Word) (left : p.Words) : Type 0 where
    pub name : Text
    pub static : static_of w ≡ Some name
    pub field : some_gives_field w ≡ true
    pub word : SplitGood w
    pub behind : BehindGood (kind_of name) [] left

  unfoldable pub LeftGood : List Text → p.Words → Type 0
  LeftGood [] p.no_words = Unit {0}
  LeftGood [] (p.more_words w left) = NameGood w left
  LeftGood (t ∷ ts) left = BehindGood (kind_of t) ts left

  -- What is left of a script

  unfoldable pub ItemsGood : p.Items → Type 0
  ItemsGood is = (x : Surroundings) × AllGood (items_located x is)

  unfoldable pub CommandGood : p.Command → Type 0
  CommandGood c = (x : Surroundings) × AllGood (command_located x c)

  unfoldable pub BranchesGood : p.Branches → p.Otherwise → Type 0
  BranchesGood branches otherwise = (x : Surroundings) × AllGood (branches_located x branches) × AllGood (otherwise_located x otherwise)

  unfoldable pub ClausesGood : p.Clauses → Type 0
  ClausesGood p.no_clauses = Unit {0}
  ClausesGood (p.more_clauses patterns body end rest) = WordsGood patterns × ItemsGood body × ClausesGood rest

  unfoldable pub ForWordsGood : p.ForWords → Type 0
  ForWordsGood p.every_parameter = Unit {0}
  ForWordsGood (p.listed ws) = SplitWordsGood ws

  unfoldable pub KindGood : p.Kind → Type 0
  KindGood (p.Simple es) = LeftGood [] (operands_in es) × RedirectsGood (redirects_in es) × ValuesGood (assignments_in es)
  KindGood (p.Group list) = ItemsGood list
  KindGood (p.Subshell list) = ItemsGood list
  KindGood (p.Conditional branches otherwise) = BranchesGood branches otherwise
  KindGood (p.Loop kind condition body) = ItemsGood condition × ItemsGood body
  KindGood (p.For name ws body) = (watched name ≡ false) × ForWordsGood ws × ItemsGood body
  KindGood (p.Case w cs) = WordGood w × ClausesGood cs
  KindGood (p.Define name body) = CommandGood body

  -- values that names had, or get for a while
  unfoldable pub SavedGood : Saved → Type 0
  SavedGood [] = Unit {0}
  SavedGood (x ∷ xs) = (watched x.0 ≡ true → is_steady x.1 ≡ true) × SavedGood xs

  unfoldable pub ShownGood : List (Text × Text) → Type 0
  ShownGood [] = Unit {0}
  ShownGood (x ∷ xs) = (watched x.0 ≡ true → is_steady (Some x.1) ≡ true) × ShownGood xs

  unfoldable pub WorkGood : Work → Type 0
  WorkGood (Items is) = ItemsGood is
  WorkGood (Links ls) = (x : Surroundings) × AllGood (links_located x ls)
  WorkGood (Pipeline q) = (x : Surroundings) × AllGood (pipeline_located x q)
  WorkGood Negation = Unit {0}
  WorkGood (Command c) = CommandGood c
  WorkGood (Words command left ts rs xs) = LeftGood ts left × RedirectsGood rs × ValuesGood xs
  WorkGood (Prepare command ts rs xs failed) = FieldsGood ts × RedirectsGood rs × ValuesGood xs
  WorkGood (Utility command name ts rs xs prefixes values) = FieldsGood (name ∷ ts) × RedirectsGood rs × ValuesGood xs × ShownGood values
  WorkGood (Call number name ts body rs xs saved) = CommandGood body × RedirectsGood rs × ValuesGood xs × SavedGood saved
  WorkGood (Return number name saved) = SavedGood saved
  WorkGood (Compound number rs kind) = RedirectsGood rs × KindGood kind
  WorkGood (If number branches otherwise) = BranchesGood branches otherwise
  WorkGood (Then number body branches otherwise) = ItemsGood body × BranchesGood branches otherwise
  WorkGood (Test number kind condition body last) = ItemsGood condition × ItemsGood body
  WorkGood (Again number kind condition body) = ItemsGood condition × ItemsGood body
  WorkGood (ForWords number name left ts body) = (watched name ≡ false) × SplitWordsGood left × ItemsGood body
  WorkGood (ForFields number name ts body) = (watched name ≡ false) × ItemsGood body
  WorkGood (Clauses number cs) = ClausesGood cs
  WorkGood (Patterns number left body end rest) = WordsGood left × ItemsGood body × ClausesGood rest
  WorkGood (Fall number cs) = ClausesGood cs

  unfoldable pub AllWorkGood : List Work → Type 0
  AllWorkGood [] = Unit {0}
  AllWorkGood (w ∷ ws) = WorkGood w × AllWorkGood ws

  -- every environment: IFS is steady, and the functions that are defined are good
  pub record EnvironmentGood (e : Environment) : Type 0 where
    pub ifs : numbers ≡ true → is_steady (e.variables (codes "IFS")) ≡ true
    pub functions : (t : Text) (c : p.Command) → e.functions t ≡ Some c → CommandGood c
