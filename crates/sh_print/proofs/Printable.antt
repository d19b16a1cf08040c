-- Which bare trees have a canonical text that is read again: a constructor for each production.
-- Each word and here-document is read alike wherever it is, and the grammar misses nothing.
-- The depth is that of the piece's first token. `m`, `n` and `o` say how many commands begin in a
-- piece, those in its words and in the bodies of its here-documents too.
use Rattle.std.proofs.Common.{◌≡◌, ◌<◌, ℕ, suc, ◌+◌, Bool, true, false, not, ◌&&◌, ◌||◌, List, [], ◌∷◌, Option, Some, None}
use Rattle.std.specs.List.{list_any, list_all}
use Rattle.sh_copies.specs.Copied.{Role, Field, Unsplit, Value, Form, WordOf, TokenOf, DocumentOf, is_declaring}
use Rattle.sh_tree.specs.declared.token.command.Stage.{Stage}
use Rattle.sh_tree.specs.declared.token.command.Stage.TheVariants.{First, Prefixed, Named}
use Rattle.sh_tree.specs.declared.tree.ClauseEnd.{ClauseEnd}
use Rattle.sh_tree.specs.declared.tree.Direction.{Direction}
use Rattle.sh_tree.specs.declared.tree.Link.{Link}
use Rattle.sh_tree.specs.declared.tree.LoopKind.{LoopKind}
use Rattle.sh_tree.specs.standard.language.Bytes.{is_digit, is_first, is_name, is_newline}
use Rattle.sh_tree.specs.standard.language.Commands.{entry_of, is_named, reserved_words}
use Rattle.sh_tree.specs.standard.language.HereDocuments.{Mark, is_static, or_none}
use Rattle.sh_tree.specs.standard.language.Reading.{HasNoNul, is_empty, redirected}
use Rattle.sh_print.specs.Bare as bare
use Rattle.sh_print.specs.Bare.{Text, Document, Opens, Redirect, Element, Items, Links, Pipeline, Commands, Command, Kind, Branches, Otherwise, Clauses}

-- an IO number, if there is one, is digits
abbrev pub is_number : Option Text → Bool
is_number None = true
is_number (Some t) = is_first is_digit t && list_all is_digit t

abbrev pub is_here : Opens → Bool
is_here (bare.File direction) = false
is_here (bare.Here strip document) = true

-- a word of this form is a delimiter
abbrev pub is_delimiting : Form → Text → Bool
is_delimiting form w = is_static form.text && not form.dollar_quoted && not (list_any is_newline w)

-- the mark of a delimiter of this form
abbrev pub mark_of : (strip : Bool) → Form → (depth : ℕ) → Mark
mark_of strip form depth = record { strip = strip; quoted = form.quoted; delimiter = or_none form.text; depth = depth }

-- the stage after a word
abbrev pub stage_after : Stage → Text → Stage
stage_after (Named d) w = Named d
stage_after g w = Named (is_declaring w)

module _ (limit : ℕ) where
  -- `quiet` says whether a here-document waits, so that no newline token may come in the word.
  pub record PrintableWord (depth : ℕ) (quiet : Bool) (role : Role) (form : Form) (m : ℕ) (text : Text) : Type 0 where
    pub no_nul : HasNoNul text
    pub copied : WordOf limit depth quiet role form m text

  pub record PrintableDocument (mark : Mark) (m : ℕ) (document : Document) : Type 0 where
    pub body_no_nul : HasNoNul document.body
    pub end_no_nul : HasNoNul document.end
    pub copied : DocumentOf limit mark m document.body document.end

  -- Redirections and simple commands

  pub data PrintableRedirect : (depth : ℕ) → (quiet : Bool) → (m : ℕ) → Redirect → Type 0 where
    file : {depth m : ℕ} {quiet : Bool} {number : Option Text} {direction : Direction} {form : Form} {w : Text}
        → is_number number ≡ true → TokenOf (Named false) w → PrintableWord depth quiet Unsplit form m w
        → PrintableRedirect depth quiet m (record { number = number; opens = bare.File direction; word = w })
    here_document : {depth m n : ℕ} {quiet : Bool} {number : Option Text} {strip : Bool} {document : Document} {form : Form} {w : Text}
        → is_number number ≡ true → TokenOf (Named false) w → PrintableWord depth quiet Unsplit form m w
        → is_delimiting form w ≡ true → PrintableDocument (mark_of strip form depth) n document
        → PrintableRedirect depth quiet (m + n) (record { number = number; opens = bare.Here strip document; word = w })

  pub data PrintableRedirects : (depth : ℕ) → (quiet : Bool) → (m : ℕ) → List Redirect → Type 0 where
    no_redirects : {depth : ℕ} {quiet : Bool} → PrintableRedirects depth quiet 0 []
    more_redirects : {depth m n : ℕ} {quiet : Bool} {r : Redirect} {rs : List Redirect}
        → PrintableRedirect depth quiet m r → PrintableRedirects depth (quiet || is_here r.opens) n rs
        → PrintableRedirects depth quiet (m + n) (r ∷ rs)

  -- elements from this stage on
  pub data PrintableElements : (depth : ℕ) → Stage → (quiet : Bool) → (m : ℕ) → List Element → Type 0 where
    no_elements : {depth : ℕ} {g : Stage} {quiet : Bool} → PrintableElements depth g quiet 0 []
    assigned_element : {depth m n : ℕ} {g : Stage} {quiet : Bool} {name value : Text} {form : Form} {es : List Element}
        → is_named g ≡ false → is_name name ≡ true → PrintableWord depth quiet Value form m value
        → PrintableElements depth Prefixed quiet n es
        → PrintableElements depth g quiet (m + n) (bare.Assigns name value ∷ es)
    word_element : {depth m n : ℕ} {g : Stage} {quiet : Bool} {w : Text} {form : Form} {es : List Element}
        → TokenOf g w → PrintableWord depth quiet (Field g) form m w → PrintableElements depth (stage_after g w) quiet n es
        → PrintableElements depth g quiet (m + n) (bare.Operand w ∷ es)
    redirect_element : {depth m n : ℕ} {g : Stage} {quiet : Bool} {r : Redirect} {es : List Element}
        → PrintableRedirect depth quiet m r → PrintableElements depth (redirected g) (quiet || is_here r.opens) n es
        → PrintableElements depth g quiet (m + n) (bare.Redirects r ∷ es)

  -- the words of `for`
  pub data PrintableWords : (depth m : ℕ) → List Text → Type 0 where
    no_words : {depth : ℕ} → PrintableWords depth 0 []
    more_words : {depth m n : ℕ} {w : Text} {ws : List Text} {form : Form}
        → TokenOf (Named false) w → PrintableWord depth false (Field (Named false)) form m w → PrintableWords depth n ws
        → PrintableWords depth (m + n) (w ∷ ws)

  pub data PrintableForWords : (depth m : ℕ) → Option (List Text) → Type 0 where
    arguments : {depth : ℕ} → PrintableForWords depth 0 None
    listed : {depth m : ℕ} {ws : List Text} → PrintableWords depth m ws → PrintableForWords depth m (Some ws)

  -- one pattern or more
  pub data PrintablePatterns : (depth m : ℕ) → List Text → Type 0 where
    last_pattern : {depth m : ℕ} {w : Text} {form : Form}
        → TokenOf (Named false) w → PrintableWord depth false Unsplit form m w
        → PrintablePatterns depth m (w ∷ [])
    more_patterns : {depth m n : ℕ} {w : Text} {ws : List Text} {form : Form}
        → TokenOf (Named false) w → PrintableWord depth false Unsplit form m w → PrintablePatterns depth n ws
        → PrintablePatterns depth (m + n) (w ∷ ws)

  -- Commands

  mutual
    pub data PrintableCommand : (depth m : ℕ) → Command → Type 0 where
      simple_command : {depth m : ℕ} {es : List Element}
          → is_empty es ≡ false → PrintableElements depth First false m es
          → PrintableCommand depth (suc m) (bare.command (bare.Simple es) [])
      compound_command : {depth m n : ℕ} {k : Kind} {rs : List Redirect}
          → PrintableCompound depth m k → PrintableRedirects depth false n rs
          → PrintableCommand depth (suc (m + n)) (bare.command k rs)
      definition : {depth m n : ℕ} {name : Text} {k : Kind} {rs : List Redirect}
          → is_name name ≡ true → entry_of reserved_words name ≡ None
          → PrintableCompound depth m k → PrintableRedirects depth false n rs
          → PrintableCommand depth (suc (suc (m + n))) (bare.command (bare.Define name (bare.command k rs)) [])

    pub data PrintableCompound : (depth m : ℕ) → Kind → Type 0 where
      group : {depth m : ℕ} {list : Items} → depth < limit → PrintableList (depth + 1) m list → PrintableCompound depth m (bare.Group list)
      subshell : {depth m : ℕ} {list : Items} → depth < limit → PrintableList (depth + 1) m list → PrintableCompound depth m (bare.Subshell list)
      conditional : {depth m n : ℕ} {branches : Branches} {otherwise : Otherwise}
          → depth < limit → PrintableBranches (depth + 1) m branches → PrintableOtherwise (depth + 1) n otherwise
          → PrintableCompound depth (m + n) (bare.Conditional branches otherwise)
      loop : {depth m n : ℕ} {kind : LoopKind} {condition body : Items}
          → depth < limit → PrintableList (depth + 1) m condition → PrintableList (depth + 1) n body
          → PrintableCompound depth (m + n) (bare.Loop kind condition body)
      for_loop : {depth m n : ℕ} {name : Text} {words : Option (List Text)} {body : Items}
          → depth < limit → is_name name ≡ true → PrintableForWords (depth + 1) m words → PrintableList (depth + 1) n body
          → PrintableCompound depth (m + n) (bare.For name words body)
      case_of : {depth m n : ℕ} {w : Text} {form : Form} {clauses : Clauses}
          → depth < limit → TokenOf (Named false) w → PrintableWord (depth + 1) false Unsplit form m w → PrintableClauses (depth + 1) n clauses
          → PrintableCompound depth (m + n) (bare.Case w clauses)

    -- one branch or more
    pub data PrintableBranches : (depth m : ℕ) → Branches → Type 0 where
      last_branch : {depth m n : ℕ} {condition body : Items}
          → PrintableList depth m condition → PrintableList depth n body
          → PrintableBranches depth (m + n) (bare.more_branches condition body bare.no_branches)
      more_branches : {depth m n o : ℕ} {condition body : Items} {branches : Branches}
          → PrintableList depth m condition → PrintableList depth n body → PrintableBranches depth o branches
          → PrintableBranches depth (m + n + o) (bare.more_branches condition body branches)

    pub data PrintableOtherwise : (depth m : ℕ) → Otherwise → Type 0 where
      no_else : {depth : ℕ} → PrintableOtherwise depth 0 bare.no_else
      else_of : {depth m : ℕ} {body : Items} → PrintableList depth m body → PrintableOtherwise depth m (bare.else_of body)

    pub data PrintableClauses : (depth m : ℕ) → Clauses → Type 0 where
      no_clauses : {depth : ℕ} → PrintableClauses depth 0 bare.no_clauses
      more_clauses : {depth m n o : ℕ} {patterns : List Text} {body : Items} {end : ClauseEnd} {clauses : Clauses}
          → PrintablePatterns depth m patterns → PrintableSequence depth n body → PrintableClauses depth o clauses
          → PrintableClauses depth (m + n + o) (bare.more_clauses patterns body end clauses)

    pub data PrintablePipeline : (depth m : ℕ) → Pipeline → Type 0 where
      pipeline : {depth m : ℕ} {negated : Bool} {parts : Commands} → PrintableCommands depth m parts → PrintablePipeline depth m (bare.pipeline negated parts)

    -- one command or more
    pub data PrintableCommands : (depth m : ℕ) → Commands → Type 0 where
      last_command : {depth m : ℕ} {c : Command} → PrintableCommand depth m c → PrintableCommands depth m (bare.more_commands c bare.no_commands)
      more_commands : {depth m n : ℕ} {c : Command} {cs : Commands}
          → PrintableCommand depth m c → PrintableCommands depth n cs
          → PrintableCommands depth (m + n) (bare.more_commands c cs)

    pub data PrintableLinks : (depth m : ℕ) → Links → Type 0 where
      no_links : {depth : ℕ} → PrintableLinks depth 0 bare.no_links
      more_links : {depth m n : ℕ} {link : Link} {p : Pipeline} {rest : Links}
          → PrintablePipeline depth m p → PrintableLinks depth n rest
          → PrintableLinks depth (m + n) (bare.more_links link p rest)

    -- one item or more
    pub data PrintableList : (depth m : ℕ) → Items → Type 0 where
      last_item : {depth m n : ℕ} {first : Pipeline} {links : Links} {background : Bool}
          → PrintablePipeline depth m first → PrintableLinks depth n links
          → PrintableList depth (m + n) (bare.more_items first links background bare.no_items)
      more_items : {depth m n o : ℕ} {first : Pipeline} {links : Links} {background : Bool} {rest : Items}
          → PrintablePipeline depth m first → PrintableLinks depth n links → PrintableList depth o rest
          → PrintableList depth (m + n + o) (bare.more_items first links background rest)

    pub data PrintableSequence : (depth m : ℕ) → Items → Type 0 where
      nothing : {depth : ℕ} → PrintableSequence depth 0 bare.no_items
      sequence : {depth m : ℕ} {items : Items} → PrintableList depth m items → PrintableSequence depth m items

-- the bare tree of a whole script
abbrev pub Printable : (limit m : ℕ) → Items → Type 0
Printable limit m items = PrintableSequence limit 0 m items
