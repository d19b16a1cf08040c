-- The bare tree of a script: names, words and here-documents as bytes, without offsets and numbers.
-- POSIX.1-2024, XCU 2.7 (redirection), 2.9 (shell commands).
use Rattle.std.specs.Prelude.{ℕ, Bool, List, Option}
use Rattle.sh_tree.specs.declared.tree.ClauseEnd.{ClauseEnd}
use Rattle.sh_tree.specs.declared.tree.Direction.{Direction}
use Rattle.sh_tree.specs.declared.tree.Link.{Link}
use Rattle.sh_tree.specs.declared.tree.LoopKind.{LoopKind}

-- the bytes of a name, of a whole word, of a body, of an end line
abbrev pub Text : Type 0
Text = List ℕ

-- the body of a here-document, and the line that ends it without its newline (XCU 2.7.4)
pub record Document : Type 0 where
  pub body : Text
  pub end : Text

-- what a redirection opens (XCU 2.7)
pub data Opens : Type 0 where
  File : (direction : Direction) → Opens
  -- whether the operator is `<<-`
  Here : (strip : Bool) (document : Document) → Opens

-- a redirection: its IO number, what it opens, and the word after its operator
pub record Redirect : Type 0 where
  pub number : Option Text
  pub opens : Opens
  pub word : Text

-- an element of a simple command (XCU 2.9.1)
pub data Element : Type 0 where
  Assigns : (name value : Text) → Element
  -- the command name or an operand
  Operand : (word : Text) → Element
  Redirects : (redirect : Redirect) → Element

mutual
  -- the items of a list: and-or lists, each asynchronous or not (XCU 2.9.3)
  pub data Items : Type 0 where
    no_items : Items
    more_items : (first : Pipeline) (rest : Links) (background : Bool) → Items → Items

  -- the further pipelines of an and-or list, each with the operator before it
  pub data Links : Type 0 where
    no_links : Links
    more_links : (link : Link) (pipeline : Pipeline) → Links → Links

  -- a pipeline, and whether `!` precedes it (XCU 2.9.2)
  pub data Pipeline : Type 0 where
    pipeline : (negated : Bool) (parts : Commands) → Pipeline

  pub data Commands : Type 0 where
    no_commands : Commands
    more_commands : Command → Commands → Commands

  -- a command, and the redirections after a compound command
  pub data Command : Type 0 where
    command : (kind : Kind) (redirects : List Redirect) → Command

  -- what a command is (XCU 2.9.1, 2.9.4, 2.9.5)
  pub data Kind : Type 0 where
    Simple : (elements : List Element) → Kind
    Group : (list : Items) → Kind
    Subshell : (list : Items) → Kind
    Conditional : (branches : Branches) (otherwise : Otherwise) → Kind
    Loop : (kind : LoopKind) (condition body : Items) → Kind
    -- without `in` there are no words, not even an empty list
    For : (name : Text) (words : Option (List Text)) (body : Items) → Kind
    Case : (word : Text) (clauses : Clauses) → Kind
    Define : (name : Text) (body : Command) → Kind

  -- the conditions of `if` and its `elif`s, each with its list
  pub data Branches : Type 0 where
    no_branches : Branches
    more_branches : (condition body : Items) → Branches → Branches

  pub data Otherwise : Type 0 where
    no_else : Otherwise
    else_of : (body : Items) → Otherwise

  -- the clauses of `case`
  pub data Clauses : Type 0 where
    no_clauses : Clauses
    more_clauses : (patterns : List Text) (body : Items) (end : ClauseEnd) → Clauses → Clauses
