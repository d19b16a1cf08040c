-- The program that a script is: its commands and words, with an offset where something may be
-- reported of one.
-- POSIX.1-2024, XCU 2.2 (quoting), 2.5 (parameters), 2.6 (word expansions), 2.7 (redirection), 2.9
-- (shell commands).
use Rattle.std.specs.Prelude.{ℕ, Bool, List, Option}
use Rattle.sh_tree.specs.declared.tree.Action.{Action}
use Rattle.sh_tree.specs.declared.tree.Binary.{Binary}
use Rattle.sh_tree.specs.declared.tree.ClauseEnd.{ClauseEnd}
use Rattle.sh_tree.specs.declared.tree.Link.{Link}
use Rattle.sh_tree.specs.declared.tree.LoopKind.{LoopKind}
use Rattle.sh_tree.specs.declared.tree.Removal.{Removal}
use Rattle.sh_tree.specs.declared.tree.SingleStyle.{SingleStyle}
use Rattle.sh_tree.specs.declared.tree.Special as tree
use Rattle.sh_tree.specs.declared.tree.Unary.{Unary}

-- the bytes of a name, of literal text or of a value
abbrev pub Text : Type 0
Text = List ℕ

-- a parameter (XCU 2.5): a variable, a positional parameter by its number from 1, or a special
-- parameter
pub data Parameter : Type 0 where
  Variable : (name : Text) → Parameter
  Positional : (number : ℕ) → Parameter
  Special : (special : tree.Special) → Parameter

-- `at` is an offset in the script: of a command, of the `$` of an expansion, of a tilde, of a name
-- in arithmetic. A word, a list and any other row is empty, or has a first one and others after it.
mutual
  -- a part of a word (XCU 2.2, 2.6)
  pub data Part : Type 0 where
    -- literal bytes
    Plain : (text : Text) → Part
    -- the byte that a backslash keeps
    Escaped : (text : Text) → Part
    -- the bytes that single quotes keep, or those of `$'` after its escapes
    Single : (style : SingleStyle) (text : Text) → Part
    Double : (inside : Word) → Part
    Expansion : (at : ℕ) (parameter : Parameter) (operator : Operator) → Part
    Arithmetic : (at : ℕ) (expression : Expression) → Part
    Substitution : (at : ℕ) (list : Items) → Part
    -- a tilde, and the login name after it (XCU 2.6.1)
    Tilde : (at : ℕ) (login : Text) → Part
    -- a line continuation
    Joined : Part

  -- the parts of a word
  pub data Word : Type 0 where
    no_parts : Word
    more_parts : Part → Word → Word

  -- what an expansion does with its parameter (XCU 2.6.2)
  pub data Operator : Type 0 where
    Value : Operator
    Length : Operator
    Use : (action : Action) (colon : Bool) (word : Word) → Operator
    Remove : (removal : Removal) (pattern : Word) → Operator

  -- an arithmetic expression (XCU 2.6.4)
  pub data Expression : Type 0 where
    Constant : (text : Text) → Expression
    Name : (at : ℕ) (name : Text) → Expression
    Expanded : Part → Expression
    Parenthesis : Expression → Expression
    Signed : (operator : Unary) (operand : Expression) → Expression
    Chain : (first : Expression) (rest : Operands) → Expression
    Choice : (condition then_one else_one : Expression) → Expression
    Assigned : (at : ℕ) (name : Text) (operator : Option Binary) (value : Expression) → Expression

  -- operators of one level, each with the operand after it (XCU 2.6.4)
  pub data Operands : Type 0 where
    no_operands : Operands
    more_operands : (operator : Binary) (operand : Expression) → Operands → Operands

  -- the items of a list: and-or lists, each asynchronous or not (XCU 2.9.3)
  pub data Items : Type 0 where
    no_items : Items
    more_items : (list : AndOr) (background : Bool) → Items → Items

  -- an and-or list (XCU 2.9.3)
  pub data AndOr : Type 0 where
    and_or : (first : Pipeline) (rest : Links) → AndOr

  -- its further pipelines, each with the operator before it
  pub data Links : Type 0 where
    no_links : Links
    more_links : (link : Link) (pipeline : Pipeline) → Links → Links

  -- a pipeline, and whether `!` precedes it (XCU 2.9.2)
  pub data Pipeline : Type 0 where
    pipeline : (negated : Bool) (parts : Commands) → Pipeline

  -- the commands of a pipeline
  pub data Commands : Type 0 where
    no_commands : Commands
    more_commands : Command → Commands → Commands

  -- a command (XCU 2.9), its number from 1 in the order of starts, and the redirections after a
  -- compound command
  pub data Command : Type 0 where
    command : (number at : ℕ) (kind : Kind) (redirects : Redirects) → Command

  -- what a command is (XCU 2.9.1, 2.9.4, 2.9.5)
  pub data Kind : Type 0 where
    Simple : (elements : Elements) → Kind
    Group : (list : Items) → Kind
    Subshell : (list : Items) → Kind
    Conditional : (branches : Branches) (otherwise : Otherwise) → Kind
    Loop : (kind : LoopKind) (condition body : Items) → Kind
    For : (name : Text) (words : ForWords) (body : Items) → Kind
    Case : (word : Word) (clauses : Clauses) → Kind
    Define : (name : Text) (body : Command) → Kind

  -- the elements of a simple command, in the order of the source (XCU 2.9.1)
  pub data Elements : Type 0 where
    no_elements : Elements
    assignment : (name : Text) (value : Word) → Elements → Elements
    -- the command name or an operand
    operand : Word → Elements → Elements
    redirection : Redirect → Elements → Elements

  -- a redirection: the word that it opens, or the body of a here-document (XCU 2.7)
  pub data Redirect : Type 0 where
    File : (target : Word) → Redirect
    Here : (body : Word) → Redirect

  pub data Redirects : Type 0 where
    no_redirects : Redirects
    more_redirects : Redirect → Redirects → Redirects

  -- the conditions of `if` and its `elif`s, each with its list (XCU 2.9.4.4)
  pub data Branches : Type 0 where
    no_branches : Branches
    more_branches : (condition body : Items) → Branches → Branches

  -- the list after `else`, if it is there
  pub data Otherwise : Type 0 where
    no_else : Otherwise
    else_of : (body : Items) → Otherwise

  -- the words of `for`, or all positional parameters if there is no `in` (XCU 2.9.4.2)
  pub data ForWords : Type 0 where
    every_parameter : ForWords
    listed : (words : Words) → ForWords

  pub data Words : Type 0 where
    no_words : Words
    more_words : Word → Words → Words

  -- the clauses of `case`, each with its patterns, its list and how it ends (XCU 2.9.4.3)
  pub data Clauses : Type 0 where
    no_clauses : Clauses
    more_clauses : (patterns : Words) (body : Items) (end : ClauseEnd) → Clauses → Clauses
