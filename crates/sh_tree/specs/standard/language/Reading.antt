-- Which bytes are which tree: a case for each production. A refused form has none.
-- POSIX.1-2024, XCU 2.2 (quoting), 2.4 (reserved words), 2.6 (word expansions), 2.7 (redirection),
-- 2.9 (commands), 2.10 (shell grammar).
use Rattle.std.specs.Prelude.{◌≡◌, ◌<◌, ◌≤◌, ℕ, ◌+◌, ◌-◌, Bool, true, false, not, ◌||◌, ◌&&◌, if◌then◌else◌, ◌==◌, List, [], ◌∷◌, length, take, codes, slice_index, Option, Some, None}
use Rattle.std.specs.List.{list_any}
use Rattle.sh_tree.specs.declared.limits.TheConstants.{MAX_COMMANDS, MAX_NESTING}
use Rattle.sh_tree.specs.declared.tree.Span.{Span}
use Rattle.sh_tree.specs.declared.tree.Script.{Script}
use Rattle.sh_tree.specs.declared.tree.Item.{Item}
use Rattle.sh_tree.specs.declared.tree.Link.{Link}
use Rattle.sh_tree.specs.declared.tree.AndOr.{AndOr}
use Rattle.sh_tree.specs.declared.tree.Pipe.{Pipe}
use Rattle.sh_tree.specs.declared.tree.Command.{Command}
use Rattle.sh_tree.specs.declared.tree.Kind.{Kind}
use Rattle.sh_tree.specs.declared.tree.Kind.TheVariants as kind
use Rattle.sh_tree.specs.declared.tree.LoopKind.TheVariants as loop
use Rattle.sh_tree.specs.declared.tree.Branch.{Branch}
use Rattle.sh_tree.specs.declared.tree.Clause.{Clause}
use Rattle.sh_tree.specs.declared.tree.ClauseEnd.{ClauseEnd}
use Rattle.sh_tree.specs.declared.tree.ClauseEnd.TheVariants.{Break}
use Rattle.sh_tree.specs.declared.tree.Element.{Element}
use Rattle.sh_tree.specs.declared.tree.Element.TheVariants as element
use Rattle.sh_tree.specs.declared.tree.Direction.{Direction}
use Rattle.sh_tree.specs.declared.tree.Redirect.{Redirect}
use Rattle.sh_tree.specs.declared.tree.Target.TheVariants.{File, Here}
use Rattle.sh_tree.specs.declared.tree.Word.{Word}
use Rattle.sh_tree.specs.declared.tree.Part.{Part}
use Rattle.sh_tree.specs.declared.tree.Part.TheVariants as part
use Rattle.sh_tree.specs.declared.tree.SingleStyle.{SingleStyle}
use Rattle.sh_tree.specs.declared.tree.CommandStyle.{CommandStyle}
use Rattle.sh_tree.specs.declared.tree.Subject.{Subject}
use Rattle.sh_tree.specs.declared.tree.Action.{Action}
use Rattle.sh_tree.specs.declared.tree.Removal.{Removal}
use Rattle.sh_tree.specs.declared.tree.ParameterOperator.TheVariants as operator
use Rattle.sh_tree.specs.declared.tree.Binary.{Binary}
use Rattle.sh_tree.specs.declared.tree.Unary.{Unary}
use Rattle.sh_tree.specs.declared.tree.Expr.{Expr}
use Rattle.sh_tree.specs.declared.tree.Expr.TheVariants as expr
use Rattle.sh_tree.specs.declared.token.word.Context.{Context}
use Rattle.sh_tree.specs.declared.token.word.Sign.{Sign}
use Rattle.sh_tree.specs.declared.token.word.Sign.TheVariants as sign
use Rattle.sh_tree.specs.declared.token.arithmetic.Figure.{Figure}
use Rattle.sh_tree.specs.declared.token.arithmetic.Figure.TheVariants as figure
use Rattle.sh_tree.specs.declared.token.command.Redirection.{Redirection}
use Rattle.sh_tree.specs.declared.token.command.Operator.TheVariants as op
use Rattle.sh_tree.specs.declared.token.command.Reserved.TheVariants as word
use Rattle.sh_tree.specs.declared.token.command.Stage.{Stage}
use Rattle.sh_tree.specs.declared.token.command.Stage.TheVariants.{First, Prefixed, Named}
use Rattle.sh_tree.specs.declared.token.command.Lead.{Lead}
use Rattle.sh_tree.specs.declared.token.command.Lead.TheVariants as lead
use Rattle.sh_tree.specs.standard.language.Words.{token, is_quoted, in_double, in_use, in_removal, in_arithmetic}
use Rattle.sh_tree.specs.standard.language.Substitutions.{commands_text, closes, removes_no_backslash}
use Rattle.sh_tree.specs.standard.language.Arithmetic.{lexeme, is_closed, binary_of, unary_of, assignment_of, unary_level}
use Rattle.sh_tree.specs.standard.language.Commands.{lead_at, blanks, name_end, declares, redirection, direction_of, strip_of, is_location, is_word, is_redirection, is_reserved, begins_simple, begins_compound, begins_command, begins_pipeline, separator, link_of, clause_end_of, is_bar, is_newline_lead, is_esac, is_open, is_bare_name}
use Rattle.sh_tree.specs.standard.language.Contexts.{in_word, in_unsplit, in_value, in_stage, in_document_of}
use Rattle.sh_tree.specs.standard.language.Parts.{is_quoted_word, keeps_lines}
use Rattle.sh_tree.specs.standard.language.HereDocuments.{Mark, is_delimiter, delimiter_of, end_line, behind_line, is_ambiguous, keeps_document}
use Rattle.sh_tree.specs.standard.language.States.{Spot, to, deeper, behind, Document, State, nth, document_count, waits, facing, within, next, past, begun, lower, as_deep, with_mark, on_line, in_document, with_document, closing}
use Rattle.sh_tree.specs.standard.language.Trees as tree
use Rattle.sh_tree.specs.standard.language.Trees.{span}

-- Places: where a reader comes to, over a token

module _ (b : List ℕ) where
  abbrev pub sign_at : Context → ℕ → Spot → Sign
  sign_at x prior s = (token b x prior s.at).sign

  abbrev pub after : Context → ℕ → Spot → ℕ
  after x prior s = (token b x prior s.at).end

  -- the plain byte before what follows a part with the sign that ends at j, or 0
  abbrev pub prior_of : Sign → ℕ → ℕ
  prior_of sign.Plain j = slice_index b (j - 1)
  prior_of _ j = 0

  abbrev pub figure_at : Spot → Figure
  figure_at s = (lexeme b s.at).figure

  abbrev pub figure_span : Spot → Span
  figure_span s = span (lexeme b s.at).start (lexeme b s.at).end

  -- after the token of arithmetic
  abbrev pub over : Spot → Spot
  over s = to (lexeme b s.at).end s

  abbrev pub lead_of : Stage → State → Lead
  lead_of g s = lead_at b g s.spot.at

  -- the token at a place where a command may begin
  abbrev pub lead_here : State → Lead
  lead_here s = lead_of First s

  -- at the token after a token of n bytes
  abbrev pub skip : ℕ → State → State
  skip n s = next b (s.spot.at + n) s

  -- at the token after a token with this text
  abbrev pub behind_token : List ℕ → State → State
  behind_token t s = skip (length t) s

  -- at the token after a name
  abbrev pub behind_name : State → State
  behind_name s = next b (name_end b s.spot.at) s

  -- where the newlines after a separator begin: a newline is one of them (XCU 2.10.2)
  abbrev pub parted : State → State
  parted s = if is_newline_lead (lead_here s) then s else behind_token (codes ";") s

  -- after the parenthesis with which a clause may begin (XCU 2.9.4.3)
  abbrev pub unopened : State → State
  unopened s = if is_open (lead_of (Named false) s) then behind_token (codes "(") s else s

  -- the stage after a word at i, and after a redirection
  abbrev pub stage_behind : Stage → ℕ → Stage
  stage_behind (Named d) i = Named d
  stage_behind g i = Named (declares b i)

-- a redirection at the front leaves a command without its name: a word after it is not reserved
-- (XCU 2.4)
abbrev pub redirected : Stage → Stage
redirected First = Prefixed
redirected g = g

unfoldable pub is_empty : {A : Type 0} → List A → Bool
is_empty [] = true
is_empty (x ∷ xs) = false

-- an expansion (XCU 2.6)
abbrev pub is_expansion : Sign → Bool
is_expansion (sign.Value p) = true
is_expansion (sign.Length p) = true
is_expansion (sign.Use p a c) = true
is_expansion (sign.Remove p r) = true
is_expansion (sign.Substitution style) = true
is_expansion sign.Arith = true
is_expansion _ = false

abbrev pub is_question : Figure → Bool
is_question figure.Question = true
is_question _ = false

abbrev pub is_figure_name : Figure → Bool
is_figure_name figure.Name = true
is_figure_name _ = false

unfoldable pub is_some : {A : Type 0} → Option A → Bool
is_some (Some a) = true
is_some None = false

-- a name and an operator that assigns (XCU 2.6.4)
abbrev pub assigns : List ℕ → Spot → Bool
assigns b s = is_figure_name (figure_at b s) && is_some (assignment_of (figure_at b (over b s)))

-- The comment of each constructor is its production, and the section if it has one of its own.
-- WORD, NAME, NEWLINE and the like are tokens (XCU 2.10.2). LB is any number of newlines. [x] is x
-- or nothing, and {x} is any number of x.
-- limit: how deep things may nest
module _ (limit : ℕ) where
  mutual
    -- Words (XCU 2.2, 2.6)

    -- the parts from s on, after the plain byte `prior`, up to the end of their context and over it
    pub data ReadsParts : List ℕ → Context → ℕ → Spot → Spot → List Part → Type 0 where
      -- the end of the context
      stop : {b : List ℕ} {x : Context} {prior : ℕ} {s : Spot}
          → sign_at b x prior s ≡ sign.Stop
          → ReadsParts b x prior s (to (after b x prior s) s) []
      -- TABS {part}, if `<<-` strips them (XCU 2.7.4)
      tabs : {b : List ℕ} {x : Context} {prior : ℕ} {s u : Spot} {ps : List Part}
          → sign_at b x prior s ≡ sign.Tabs → ReadsParts b x 0 (to (after b x prior s) s) u ps
          → ReadsParts b x prior s u ps
      -- part {part}
      more : {b : List ℕ} {x : Context} {prior : ℕ} {s u v : Spot} {g : Sign} {p : Part} {ps : List Part}
          → sign_at b x prior s ≡ g → ReadsPart b x g s (after b x prior s) v p → ReadsParts b x (prior_of b g v.at) v u ps
          → ReadsParts b x prior s u (p ∷ ps)

    -- the part from s to u, whose sign ends at e
    pub data ReadsPart : List ℕ → Context → Sign → Spot → ℕ → Spot → Part → Type 0 where
      -- literal bytes (XCU 2.2)
      plain : {b : List ℕ} {x : Context} {s : Spot} {e : ℕ}
          → ReadsPart b x sign.Plain s e (to e s) (part.Plain (span s.at e))
      -- a backslash and a byte (XCU 2.2.1)
      escaped : {b : List ℕ} {x : Context} {s : Spot} {e : ℕ}
          → ReadsPart b x sign.Escaped s e (to e s) (part.Escaped (span s.at e))
      -- a backslash and a newline (XCU 2.2.1)
      joined : {b : List ℕ} {x : Context} {s : Spot} {e : ℕ}
          → ReadsPart b x sign.Joined s e (to e s) (part.Joined (span s.at e))
      -- 'bytes' or $'bytes' (XCU 2.2.2, 2.2.4)
      single_quoted : {b : List ℕ} {x : Context} {s : Spot} {e : ℕ} {style : SingleStyle}
          → ReadsPart b x (sign.Single style) s e (to e s) (part.Single style (span s.at e))
      -- ~ or ~login (XCU 2.6.1)
      tilde : {b : List ℕ} {x : Context} {s : Spot} {e : ℕ}
          → ReadsPart b x sign.Tilde s e (to e s) (part.Tilde (span s.at e))
      -- " {part} " (XCU 2.2.3)
      double_quoted : {b : List ℕ} {x : Context} {s u : Spot} {e : ℕ} {ps : List Part}
          → ReadsParts b (in_double x) 0 (to e s) u ps
          → ReadsPart b x sign.Double s e (behind u.at u s) (part.Double (span s.at u.at) ps)
      -- $p or ${p} (XCU 2.6.2)
      value : {b : List ℕ} {x : Context} {s : Spot} {e : ℕ} {p : Subject}
          → ReadsPart b x (sign.Value p) s e (to e s) (tree.param s.at e p operator.Value)
      -- ${#p} (XCU 2.6.2)
      length_value : {b : List ℕ} {x : Context} {s : Spot} {e : ℕ} {p : Subject}
          → ReadsPart b x (sign.Length p) s e (to e s) (tree.param s.at e p operator.Length)
      -- ${p-w} ${p=w} ${p?w} ${p+w}, or with a colon before the sign (XCU 2.6.2)
      use_word : {b : List ℕ} {x : Context} {s u : Spot} {e : ℕ} {p : Subject} {a : Action} {colon : Bool} {ps : List Part}
          → s.depth < limit → ReadsParts b (in_use x a e) 0 (deeper e s) u ps
          → ReadsPart b x (sign.Use p a colon) s e (behind u.at u s) (tree.param s.at u.at p (operator.Use a colon (tree.word e (u.at - 1) ps)))
      -- ${p%w} ${p%%w} ${p#w} ${p##w} (XCU 2.6.2)
      removal : {b : List ℕ} {x : Context} {s u : Spot} {e : ℕ} {p : Subject} {r : Removal} {ps : List Part}
          → s.depth < limit → ReadsParts b (in_removal x e) 0 (deeper e s) u ps
          → ReadsPart b x (sign.Remove p r) s e (behind u.at u s) (tree.param s.at u.at p (operator.Remove r (tree.word e (u.at - 1) ps)))
      -- $(( expression )) (XCU 2.6.4)
      arithmetic : {b : List ℕ} {x : Context} {s u : Spot} {e : ℕ} {a : Expr}
          → s.depth < limit → ReadsExpression b (in_arithmetic x) (deeper e s) u a → figure_at b u ≡ figure.Close
          → is_closed b (over b u).at ≡ true
          → ReadsPart b x sign.Arith s e (behind ((over b u).at + 1) u s) (part.Arith (span s.at ((over b u).at + 1)) a)
      -- $( script ), or ` script ` in a text that ends with its closing backquote (XCU 2.6.3)
      substitution : {b : List ℕ} {x : Context} {s u : Spot} {e : ℕ} {style : CommandStyle} {t : Script}
          → s.depth < limit → removes_no_backslash style (is_quoted x.site) b e ≡ true
          → ReadsScript (commands_text style b e) (deeper (blanks s.joins (commands_text style b e) e) s) u t → closes style (commands_text style b e) u.at ≡ true
          → ReadsPart b x (sign.Substitution style) s e (behind (u.at + 1) u s) (part.Command style (span s.at (u.at + 1)) t)

    -- Arithmetic (XCU 2.6.4); x is the context of its expansions

    pub data ReadsExpression : List ℕ → Context → Spot → Spot → Expr → Type 0 where
      -- NAME ASSIGNMENT expression
      assignment : {b : List ℕ} {x : Context} {s u : Spot} {o : Option Binary} {e : Expr}
          → figure_at b s ≡ figure.Name → assignment_of (figure_at b (over b s)) ≡ Some o → s.depth < limit
          → ReadsExpression b x (deeper (over b (over b s)).at s) u e
          → ReadsExpression b x s (behind u.at u s) (expr.Assign (figure_span b s) o e)
      -- conditional
      no_assignment : {b : List ℕ} {x : Context} {s u : Spot} {e : Expr}
          → assigns b s ≡ false → ReadsConditional b x s u e
          → ReadsExpression b x s u e

    -- a conditional expression, or another one without an assignment (XCU 2.6.4)
    pub data ReadsConditional : List ℕ → Context → Spot → Spot → Expr → Type 0 where
      -- level 0
      one_level : {b : List ℕ} {x : Context} {s u : Spot} {e : Expr}
          → ReadsLevel b x 0 s u e → is_question (figure_at b u) ≡ false
          → ReadsConditional b x s u e
      -- level 0 ? expression : conditional
      choice : {b : List ℕ} {x : Context} {s u v w : Spot} {c y n : Expr}
          → ReadsLevel b x 0 s u c → figure_at b u ≡ figure.Question → u.depth < limit
          → ReadsExpression b x (deeper (over b u).at u) v y → figure_at b v ≡ figure.Colon → ReadsConditional b x (over b v) w n
          → ReadsConditional b x s (behind w.at w u) (expr.Choice c y n)

    -- an expression of binary operators of level l or tighter (XCU 2.6.4)
    pub data ReadsLevel : List ℕ → Context → ℕ → Spot → Spot → Expr → Type 0 where
      -- level l+1 {OPERATOR level l+1}, the operators of level l
      chain : {b : List ℕ} {x : Context} {l : ℕ} {s u v : Spot} {e : Expr} {es : List (Binary × Expr)}
          → l < unary_level → ReadsLevel b x (l + 1) s u e → ReadsOperands b x l u v es
          → ReadsLevel b x l s v (tree.chain_of e es)
      -- unary, after the tightest level
      operand : {b : List ℕ} {x : Context} {l : ℕ} {s u : Spot} {g : Figure} {e : Expr}
          → l ≡ unary_level → figure_at b s ≡ g → ReadsUnary b x g s u e
          → ReadsLevel b x l s u e

    -- the operators of level l that follow, with their operands (XCU 2.6.4)
    pub data ReadsOperands : List ℕ → Context → ℕ → Spot → Spot → List (Binary × Expr) → Type 0 where
      -- nothing
      no_operand : {b : List ℕ} {x : Context} {l : ℕ} {s : Spot}
          → binary_of l (figure_at b s) ≡ None
          → ReadsOperands b x l s s []
      -- OPERATOR level l+1 {OPERATOR level l+1}
      more_operands : {b : List ℕ} {x : Context} {l : ℕ} {s u v : Spot} {o : Binary} {e : Expr} {es : List (Binary × Expr)}
          → binary_of l (figure_at b s) ≡ Some o → ReadsLevel b x (l + 1) (over b s) u e → ReadsOperands b x l u v es
          → ReadsOperands b x l s v ((o, e) ∷ es)

    -- a unary expression, which begins with the figure (XCU 2.6.4)
    pub data ReadsUnary : List ℕ → Context → Figure → Spot → Spot → Expr → Type 0 where
      -- CONSTANT
      constant : {b : List ℕ} {x : Context} {s : Spot}
          → ReadsUnary b x figure.Constant s (over b s) (expr.Constant (figure_span b s))
      -- NAME
      variable : {b : List ℕ} {x : Context} {s : Spot}
          → ReadsUnary b x figure.Name s (over b s) (expr.Variable (figure_span b s))
      -- (+ | - | ~ | !) unary
      signed : {b : List ℕ} {x : Context} {s u : Spot} {g : Figure} {o : Unary} {e : Expr}
          → unary_of g ≡ Some o → s.depth < limit → ReadsLevel b x unary_level (deeper (over b s).at s) u e
          → ReadsUnary b x g s (behind u.at u s) (expr.Unary o e)
      -- ( expression )
      parenthesis : {b : List ℕ} {x : Context} {s u : Spot} {e : Expr}
          → s.depth < limit → ReadsExpression b x (deeper (over b s).at s) u e → figure_at b u ≡ figure.Close
          → ReadsUnary b x figure.Open s (behind (over b u).at u s) (expr.Parenthesis e)
      -- an expansion, which begins with `$` (XCU 2.6.4)
      expansion : {b : List ℕ} {x : Context} {s u : Spot} {g : Sign} {p : Part}
          → sign_at b x 0 (to (lexeme b s.at).start s) ≡ g → is_expansion g ≡ true
          → ReadsPart b x g (to (lexeme b s.at).start s) (after b x 0 (to (lexeme b s.at).start s)) u p
          → ReadsUnary b x figure.Dollar s u (expr.Expansion p)

    -- A whole word (XCU 2.10.1). The value of an assignment is the end of a token that begins with
    -- a name.
    pub data ReadsWord : List ℕ → Context → Spot → Spot → Word → Type 0 where
      -- {part}
      whole_word : {b : List ℕ} {x : Context} {s u : Spot} {ps : List Part}
          → ReadsParts b x 0 s u ps → not x.colons && is_location b s.at u.at ≡ false → keeps_lines b s.joins ps ≡ true
          → ReadsWord b x s u (tree.word s.at u.at ps)

    -- Redirections and here-documents (XCU 2.7); `body n` is the body of the n-th here-document of
    -- this level

    pub data ReadsRedirect : List ℕ → (ℕ → Document) → State → State → Redirect → Type 0 where
      -- [IO_NUMBER] (< | > | >| | >> | <> | <& | >&) WORD
      file : {b : List ℕ} {body : ℕ → Document} {s : State} {u : Spot} {r : Redirection} {d : Direction} {w : Word}
          → redirection b s.spot.at ≡ Some r → direction_of r.operator ≡ Some d
          → is_word (lead_of b (Named false) (next b r.end s)) ≡ true
          → ReadsWord b (in_unsplit (next b r.end s).spot.at) (facing (next b r.end s)) u w
          → ReadsRedirect b body s (past b u s) (tree.redirect r.at r.number (File d w))
      -- [IO_NUMBER] (<< | <<-) WORD (XCU 2.7.4)
      here_document : {b : List ℕ} {body : ℕ → Document} {s : State} {u : Spot} {r : Redirection} {strip : Bool} {w : Word}
          → redirection b s.spot.at ≡ Some r → strip_of r.operator ≡ Some strip
          → is_word (lead_of b (Named false) (next b r.end s)) ≡ true
          → ReadsWord b (in_unsplit (next b r.end s).spot.at) (facing (next b r.end s)) u w → is_delimiter b w ≡ true
          → ReadsRedirect b body s (with_mark (record { strip = strip; quoted = is_quoted_word w; delimiter = delimiter_of b w; depth = s.spot.depth }) (past b u s))
          (tree.redirect r.at r.number (Here (tree.here_doc strip w (body (document_count s)).text (body (document_count s)).end)))

    pub data ReadsRedirects : List ℕ → (ℕ → Document) → State → State → List Redirect → Type 0 where
      -- nothing
      no_redirect : {b : List ℕ} {body : ℕ → Document} {s : State}
          → is_redirection (lead_of b (Named false) s) ≡ false
          → ReadsRedirects b body s s []
      -- redirect {redirect}
      more_redirects : {b : List ℕ} {body : ℕ → Document} {s u v : State} {r : Redirect} {rs : List Redirect}
          → is_redirection (lead_of b (Named false) s) ≡ true → ReadsRedirect b body s u r → ReadsRedirects b body u v rs
          → ReadsRedirects b body s v (r ∷ rs)

    -- the bodies of the here-documents, one after the other (XCU 2.7.4)
    pub data ReadsDocuments : List ℕ → List Mark → State → State → Type 0 where
      -- nothing
      no_body : {b : List ℕ} {s : State} → ReadsDocuments b [] s s
      -- {LINE} END_LINE {body}
      more_bodies : {b : List ℕ} {s v : State} {u : Spot} {m : Mark} {ms : List Mark} {l : Span} {ps : List Part}
          → end_line m b s.spot.at ≡ Some l → is_ambiguous m b s.spot.at l ≡ false
          → keeps_document b s.spot.joins s.spot.tabs m (span s.spot.at (behind_line b l.end)) ≡ true
          → ReadsParts (take l.start b) (in_document_of m) 10 (in_document m s) u ps → keeps_lines b (not m.quoted) ps ≡ true
          → ReadsDocuments b ms (with_document (behind_line b l.end) (record { text = tree.word s.spot.at l.start ps; end = l }) u s) v
          → ReadsDocuments b (m ∷ ms) s v

    -- any number of newline tokens (XCU 2.10.2), each with the bodies of the here-documents before
    -- it (XCU 2.7.4)
    pub data ReadsBreaks : List ℕ → State → State → Type 0 where
      -- nothing
      no_break : {b : List ℕ} {s : State} → is_newline_lead (lead_here b s) ≡ false → ReadsBreaks b s s
      -- NEWLINE {body} {NEWLINE {body}}
      more_breaks : {b : List ℕ} {s u v : State}
          → is_newline_lead (lead_here b s) ≡ true → s.spot.quiet ≡ false
          → ReadsDocuments b s.pending (on_line (s.spot.at + 1) s) u → ReadsBreaks b (next b u.spot.at u) v
          → ReadsBreaks b s v

    -- Simple commands (XCU 2.9.1)

    pub data ReadsElements : List ℕ → (ℕ → Document) → Stage → State → State → List Element → Type 0 where
      -- nothing
      no_element : {b : List ℕ} {body : ℕ → Document} {g : Stage} {s : State}
          → begins_simple (lead_of b g s) ≡ false
          → ReadsElements b body g s s []
      -- NAME=WORD {element}
      assigned_element : {b : List ℕ} {body : ℕ → Document} {g : Stage} {s v : State} {u : Spot} {w : Word} {es : List Element}
          → lead_of b g s ≡ lead.Assignment
          → ReadsWord b (in_value (name_end b s.spot.at + 1)) (to (name_end b s.spot.at + 1) (facing s)) u w
          → ReadsElements b body Prefixed (past b u s) v es
          → ReadsElements b body g s v (element.Assignment (span s.spot.at (name_end b s.spot.at)) w ∷ es)
      -- WORD {element}: the command name or an operand
      word_element : {b : List ℕ} {body : ℕ → Document} {g : Stage} {s v : State} {u : Spot} {w : Word} {es : List Element}
          → lead_of b g s ≡ lead.Word → ReadsWord b (in_stage b g s.spot.at) (facing s) u w
          → ReadsElements b body (stage_behind b g s.spot.at) (past b u s) v es
          → ReadsElements b body g s v (element.Word w ∷ es)
      -- redirect {element}
      redirect_element : {b : List ℕ} {body : ℕ → Document} {g : Stage} {s u v : State} {r : Redirect} {es : List Element}
          → is_redirection (lead_of b g s) ≡ true → ReadsRedirect b body s u r → ReadsElements b body (redirected g) u v es
          → ReadsElements b body g s v (element.Redirection r ∷ es)

    -- Commands (XCU 2.9)

    -- a command; it gets the next number at its first byte
    pub data ReadsCommand : List ℕ → (ℕ → Document) → State → State → Command → Type 0 where
      -- element {element}
      simple_command : {b : List ℕ} {body : ℕ → Document} {s u : State} {es : List Element}
          → begins_simple (lead_here b s) ≡ true → ReadsElements b body First (begun s) u es
          → ReadsCommand b body s (closing false u) (tree.command (s.spot.count + 1) s.spot.at (kind.Simple es) [])
      -- compound {redirect}
      compound_command : {b : List ℕ} {body : ℕ → Document} {s u v : State} {l : Lead} {k : Kind} {rs : List Redirect}
          → lead_here b s ≡ l → ReadsCompound b body l (begun s) u k → ReadsRedirects b body u v rs
          → ReadsCommand b body s (closing (is_empty rs) v) (tree.command (s.spot.count + 1) s.spot.at k rs)
      -- NAME ( ) LB compound {redirect} (XCU 2.9.5)
      definition : {b : List ℕ} {body : ℕ → Document} {s u v : State} {c : Command}
          → lead_here b s ≡ lead.Definition → lead_of b (Named false) (behind_name b s) ≡ lead.Operator op.LeftParenthesis
          → lead_of b (Named false) (behind_token b (codes "(") (behind_name b s)) ≡ lead.Operator op.RightParenthesis
          → ReadsBreaks b (behind_token b (codes ")") (behind_token b (codes "(") (behind_name b (begun s)))) u
          → begins_compound (lead_here b u) ≡ true → ReadsCommand b body u v c
          → ReadsCommand b body s v (tree.command (s.spot.count + 1) s.spot.at (kind.Define (span s.spot.at (name_end b s.spot.at)) c) [])

    -- a compound command that begins with the token (XCU 2.9.4)
    pub data ReadsCompound : List ℕ → (ℕ → Document) → Lead → State → State → Kind → Type 0 where
      -- { list } (XCU 2.9.4.1)
      group : {b : List ℕ} {body : ℕ → Document} {s u : State} {t : Script}
          → s.spot.depth < limit → ReadsList b body (lower (behind_token b (codes "{") s)) u t
          → lead_here b u ≡ lead.Reserved word.RightBrace
          → ReadsCompound b body (lead.Reserved word.LeftBrace) s (as_deep s (behind_token b (codes "}") u)) (kind.Group t)
      -- ( list ) (XCU 2.9.4.1)
      subshell : {b : List ℕ} {body : ℕ → Document} {s u : State} {t : Script}
          → s.spot.depth < limit → ReadsList b body (lower (behind_token b (codes "(") s)) u t
          → lead_here b u ≡ lead.Operator op.RightParenthesis
          → ReadsCompound b body (lead.Operator op.LeftParenthesis) s (as_deep s (behind_token b (codes ")") u)) (kind.Subshell t)
      -- if list then list {elif list then list} [else list] fi (XCU 2.9.4.4)
      cond : {b : List ℕ} {body : ℕ → Document} {s u : State} {bs : List Branch} {o : Option Script}
          → s.spot.depth < limit → ReadsBranches b body (lower (behind_token b (codes "if") s)) u bs o
          → ReadsCompound b body (lead.Reserved word.If) s (as_deep s u) (kind.Cond bs o)
      -- while list do list done (XCU 2.9.4.5)
      while_loop : {b : List ℕ} {body : ℕ → Document} {s u v : State} {c t : Script}
          → s.spot.depth < limit → ReadsList b body (lower (behind_token b (codes "while") s)) u c → ReadsDo b body u v t
          → ReadsCompound b body (lead.Reserved word.While) s (as_deep s v) (kind.Loop loop.While c t)
      -- until list do list done (XCU 2.9.4.6)
      until_loop : {b : List ℕ} {body : ℕ → Document} {s u v : State} {c t : Script}
          → s.spot.depth < limit → ReadsList b body (lower (behind_token b (codes "until") s)) u c → ReadsDo b body u v t
          → ReadsCompound b body (lead.Reserved word.Until) s (as_deep s v) (kind.Loop loop.Until c t)
      -- for NAME [; LB | LB in {WORD} (; | NEWLINE) LB | LB] do list done (XCU 2.9.4.2)
      for_loop : {b : List ℕ} {body : ℕ → Document} {s u v : State} {o : Option (List Word)} {t : Script}
          → s.spot.depth < limit → is_bare_name b (behind_token b (codes "for") s).spot.at ≡ true
          → ReadsForWords b (behind_name b (lower (behind_token b (codes "for") s))) u o → ReadsDo b body u v t
          → ReadsCompound b body (lead.Reserved word.For) s (as_deep s v) (kind.For
          (span (behind_token b (codes "for") s).spot.at (name_end b (behind_token b (codes "for") s).spot.at)) o t)
      -- case WORD LB in LB {clause} esac (XCU 2.9.4.3)
      case_of : {b : List ℕ} {body : ℕ → Document} {s p q v : State} {u : Spot} {w : Word} {cs : List Clause}
          → s.spot.depth < limit → is_word (lead_of b (Named false) (behind_token b (codes "case") s)) ≡ true
          → ReadsWord b (in_unsplit (behind_token b (codes "case") s).spot.at) (facing (lower (behind_token b (codes "case") s))) u w
          → ReadsBreaks b (past b u (lower (behind_token b (codes "case") s))) p → lead_here b p ≡ lead.Reserved word.In
          → ReadsBreaks b (behind_token b (codes "in") p) q → ReadsClauses b body q v cs
          → ReadsCompound b body (lead.Reserved word.Case) s (as_deep s v) (kind.Branches w cs)

    -- `do`, a list and `done` (XCU 2.9.4.2, 2.9.4.5, 2.9.4.6)
    pub data ReadsDo : List ℕ → (ℕ → Document) → State → State → Script → Type 0 where
      -- do list done
      do_group : {b : List ℕ} {body : ℕ → Document} {s u : State} {t : Script}
          → lead_here b s ≡ lead.Reserved word.Do → ReadsList b body (behind_token b (codes "do") s) u t
          → lead_here b u ≡ lead.Reserved word.Done
          → ReadsDo b body s (behind_token b (codes "done") u) t

    -- a condition, `then`, a list, and what follows up to `fi` (XCU 2.9.4.4)
    pub data ReadsBranches : List ℕ → (ℕ → Document) → State → State → List Branch → Option Script → Type 0 where
      -- list then list {elif list then list} [else list] fi
      branch : {b : List ℕ} {body : ℕ → Document} {s u v w : State} {c t : Script} {bs : List Branch} {o : Option Script}
          → ReadsList b body s u c → lead_here b u ≡ lead.Reserved word.Then
          → ReadsList b body (behind_token b (codes "then") u) v t → ReadsElse b body v w bs o
          → ReadsBranches b body s w (tree.branch c t ∷ bs) o

    -- what follows a list of `if` up to `fi` (XCU 2.9.4.4)
    pub data ReadsElse : List ℕ → (ℕ → Document) → State → State → List Branch → Option Script → Type 0 where
      -- fi
      fi : {b : List ℕ} {body : ℕ → Document} {s : State}
          → lead_here b s ≡ lead.Reserved word.Fi
          → ReadsElse b body s (behind_token b (codes "fi") s) [] None
      -- else list fi
      otherwise : {b : List ℕ} {body : ℕ → Document} {s u : State} {t : Script}
          → lead_here b s ≡ lead.Reserved word.Else → ReadsList b body (behind_token b (codes "else") s) u t
          → lead_here b u ≡ lead.Reserved word.Fi
          → ReadsElse b body s (behind_token b (codes "fi") u) [] (Some t)
      -- elif list then list {elif list then list} [else list] fi
      elif : {b : List ℕ} {body : ℕ → Document} {s u : State} {bs : List Branch} {o : Option Script}
          → lead_here b s ≡ lead.Reserved word.Elif → ReadsBranches b body (behind_token b (codes "elif") s) u bs o
          → ReadsElse b body s u bs o

    -- what is between the name of `for` and its `do` (XCU 2.9.4.2)
    pub data ReadsForWords : List ℕ → State → State → Option (List Word) → Type 0 where
      -- ; LB
      arguments_ended : {b : List ℕ} {s u : State}
          → lead_here b s ≡ lead.Operator op.Semicolon → ReadsBreaks b (behind_token b (codes ";") s) u
          → ReadsForWords b s u None
      -- LB
      arguments : {b : List ℕ} {s u : State}
          → ReadsBreaks b s u → lead_here b u ≡ lead.Reserved word.Do
          → ReadsForWords b s u None
      -- LB in {WORD} (; | NEWLINE) LB
      listed : {b : List ℕ} {s u v w : State} {ws : List Word}
          → ReadsBreaks b s u → lead_here b u ≡ lead.Reserved word.In → ReadsWords b (behind_token b (codes "in") u) v ws
          → separator (lead_here b v) ≡ Some false → ReadsBreaks b (parted b v) w
          → ReadsForWords b s w (Some ws)

    -- the words of `for` (XCU 2.9.4.2)
    pub data ReadsWords : List ℕ → State → State → List Word → Type 0 where
      -- nothing
      no_word : {b : List ℕ} {s : State} → is_word (lead_of b (Named false) s) ≡ false → ReadsWords b s s []
      -- WORD {WORD}
      more_words : {b : List ℕ} {s v : State} {u : Spot} {w : Word} {ws : List Word}
          → is_word (lead_of b (Named false) s) ≡ true → ReadsWord b (in_word s.spot.at) (facing s) u w
          → ReadsWords b (past b u s) v ws
          → ReadsWords b s v (w ∷ ws)

    -- the clauses of `case`, and `esac` (XCU 2.9.4.3)
    pub data ReadsClauses : List ℕ → (ℕ → Document) → State → State → List Clause → Type 0 where
      -- esac
      esac : {b : List ℕ} {body : ℕ → Document} {s : State}
          → lead_here b s ≡ lead.Reserved word.Esac
          → ReadsClauses b body s (behind_token b (codes "esac") s) []
      -- [(] WORD {| WORD} ) [list | LB] esac
      last_clause : {b : List ℕ} {body : ℕ → Document} {s u v : State} {ws : List Word} {t : Script}
          → is_esac (lead_here b s) ≡ false → ReadsPatterns b (unopened b s) u ws
          → ReadsSequence b body (behind_token b (codes ")") u) v t → lead_here b v ≡ lead.Reserved word.Esac
          → ReadsClauses b body s (behind_token b (codes "esac") v) (tree.clause ws t Break ∷ [])
      -- [(] WORD {| WORD} ) [list | LB] (;; | ;&) LB {clause} esac, both marks of two bytes
      more_clauses : {b : List ℕ} {body : ℕ → Document} {s u v w z : State} {ws : List Word} {t : Script} {e : ClauseEnd} {cs : List Clause}
          → is_esac (lead_here b s) ≡ false → ReadsPatterns b (unopened b s) u ws
          → ReadsSequence b body (behind_token b (codes ")") u) v t → clause_end_of (lead_here b v) ≡ Some e
          → ReadsBreaks b (behind_token b (codes ";;") v) w → ReadsClauses b body w z cs
          → ReadsClauses b body s z (tree.clause ws t e ∷ cs)

    -- patterns between bars, up to `)` (XCU 2.9.4.3)
    pub data ReadsPatterns : List ℕ → State → State → List Word → Type 0 where
      -- WORD, before )
      last_pattern : {b : List ℕ} {s : State} {u : Spot} {w : Word}
          → is_word (lead_of b (Named false) s) ≡ true → ReadsWord b (in_unsplit s.spot.at) (facing s) u w
          → lead_of b (Named false) (past b u s) ≡ lead.Operator op.RightParenthesis
          → ReadsPatterns b s (past b u s) (w ∷ [])
      -- WORD | WORD {| WORD}
      more_patterns : {b : List ℕ} {s v : State} {u : Spot} {w : Word} {ws : List Word}
          → is_word (lead_of b (Named false) s) ≡ true → ReadsWord b (in_unsplit s.spot.at) (facing s) u w
          → lead_of b (Named false) (past b u s) ≡ lead.Operator op.Bar
          → ReadsPatterns b (behind_token b (codes "|") (past b u s)) v ws
          → ReadsPatterns b s v (w ∷ ws)

    -- Pipelines and lists (XCU 2.9.2, 2.9.3)

    -- a pipeline (XCU 2.9.2)
    pub data ReadsPipeline : List ℕ → (ℕ → Document) → State → State → Pipe → Type 0 where
      -- ! command {| LB command}
      negated : {b : List ℕ} {body : ℕ → Document} {s u : State} {cs : List Command}
          → lead_here b s ≡ lead.Reserved word.Bang → ReadsCommands b body (behind_token b (codes "!") s) u cs
          → ReadsPipeline b body s u (tree.pipe true cs)
      -- command {| LB command}
      straight : {b : List ℕ} {body : ℕ → Document} {s u : State} {cs : List Command}
          → begins_command (lead_here b s) ≡ true → ReadsCommands b body s u cs
          → ReadsPipeline b body s u (tree.pipe false cs)

    -- the commands of a pipeline (XCU 2.9.2)
    pub data ReadsCommands : List ℕ → (ℕ → Document) → State → State → List Command → Type 0 where
      -- command
      last_command : {b : List ℕ} {body : ℕ → Document} {s u : State} {c : Command}
          → ReadsCommand b body s u c → is_bar (lead_here b u) ≡ false
          → ReadsCommands b body s u (c ∷ [])
      -- command | LB command {| LB command}
      more_commands : {b : List ℕ} {body : ℕ → Document} {s u v w : State} {c : Command} {cs : List Command}
          → ReadsCommand b body s u c → is_bar (lead_here b u) ≡ true → ReadsBreaks b (behind_token b (codes "|") u) v
          → ReadsCommands b body v w cs
          → ReadsCommands b body s w (c ∷ cs)

    -- an and-or list (XCU 2.9.3)
    pub data ReadsAndOr : List ℕ → (ℕ → Document) → State → State → AndOr → Type 0 where
      -- pipeline {(&& | ||) LB pipeline}
      linked : {b : List ℕ} {body : ℕ → Document} {s u v : State} {p : Pipe} {ps : List (Link × Pipe)}
          → ReadsPipeline b body s u p → ReadsLinks b body u v ps
          → ReadsAndOr b body s v (tree.and_or p ps)

    -- the further pipelines of an and-or list (XCU 2.9.3)
    pub data ReadsLinks : List ℕ → (ℕ → Document) → State → State → List (Link × Pipe) → Type 0 where
      -- nothing
      no_link : {b : List ℕ} {body : ℕ → Document} {s : State}
          → link_of (lead_here b s) ≡ None
          → ReadsLinks b body s s []
      -- (&& | ||) LB pipeline {(&& | ||) LB pipeline}, both operators of two bytes
      more_links : {b : List ℕ} {body : ℕ → Document} {s u v w : State} {l : Link} {p : Pipe} {ps : List (Link × Pipe)}
          → link_of (lead_here b s) ≡ Some l → ReadsBreaks b (behind_token b (codes "&&") s) u → ReadsPipeline b body u v p
          → ReadsLinks b body v w ps
          → ReadsLinks b body s w ((l, p) ∷ ps)

    -- one item or more (XCU 2.9.3); a reserved word can follow the last one without a separator
    -- only where it may close something (XCU 2.4)
    pub data ReadsItems : List ℕ → (ℕ → Document) → State → State → List Item → Type 0 where
      -- and_or
      last_item : {b : List ℕ} {body : ℕ → Document} {s u : State} {l : AndOr}
          → ReadsAndOr b body s u l → separator (lead_here b u) ≡ None → not (is_reserved (lead_here b u)) || u.closed ≡ true
          → ReadsItems b body s u (tree.item l false ∷ [])
      -- and_or (; | & | NEWLINE) LB
      ended_item : {b : List ℕ} {body : ℕ → Document} {s u v : State} {l : AndOr} {g : Bool}
          → ReadsAndOr b body s u l → separator (lead_here b u) ≡ Some g → ReadsBreaks b (parted b u) v
          → begins_pipeline (lead_here b v) ≡ false
          → ReadsItems b body s v (tree.item l g ∷ [])
      -- and_or (; | & | NEWLINE) LB and_or {..}
      more_items : {b : List ℕ} {body : ℕ → Document} {s u v w : State} {l : AndOr} {g : Bool} {is : List Item}
          → ReadsAndOr b body s u l → separator (lead_here b u) ≡ Some g → ReadsBreaks b (parted b u) v
          → begins_pipeline (lead_here b v) ≡ true → ReadsItems b body v w is
          → ReadsItems b body s w (tree.item l g ∷ is)

    -- a compound list (XCU 2.9.3, 2.10.2)
    pub data ReadsList : List ℕ → (ℕ → Document) → State → State → Script → Type 0 where
      -- LB and_or {(; | & | NEWLINE) LB and_or} [(; | & | NEWLINE) LB]
      list : {b : List ℕ} {body : ℕ → Document} {s u v : State} {is : List Item}
          → ReadsBreaks b s u → begins_pipeline (lead_here b u) ≡ true → ReadsItems b body u v is
          → ReadsList b body s v (tree.script is)

    -- a list, or newlines alone (XCU 2.10.2)
    pub data ReadsSequence : List ℕ → (ℕ → Document) → State → State → Script → Type 0 where
      -- LB
      nothing : {b : List ℕ} {body : ℕ → Document} {s u : State}
          → ReadsBreaks b s u → begins_pipeline (lead_here b u) ≡ false
          → ReadsSequence b body s u (tree.script [])
      -- list
      sequence : {b : List ℕ} {body : ℕ → Document} {s u : State} {t : Script}
          → ReadsList b body s u t
          → ReadsSequence b body s u t

    -- a sequence with all its here-documents (XCU 2.7.4): the n-th operator has the n-th body
    pub data ReadsScript : List ℕ → Spot → Spot → Script → Type 0 where
      -- [list | LB], and the body of each of its here-documents
      script : {b : List ℕ} {s : Spot} {u : State} {t : Script}
          → ReadsSequence b (nth u.bodies) (within s) u t → waits u.pending ≡ false
          → ReadsScript b s u.spot t

-- no byte of the text is NUL: no text file has one
abbrev pub HasNoNul : List ℕ → Type 0
HasNoNul b = list_any (λ c. c == 0) b ≡ false

-- before the first token of a text
abbrev pub start : List ℕ → Spot
start b = record { at = blanks false b 0; count = 0; depth = 0; quiet = false; joins = false; tabs = false }

-- The whole text is the script (XCU 2.10.2), which has so many commands and nests no deeper than
-- the limit.
pub record ReadsTo (b : List ℕ) (limit count : ℕ) (t : Script) : Type 0 where
  pub no_nul : HasNoNul b
  pub end : Spot
  pub script : ReadsScript limit b (start b) end t
  pub to_end : end.at ≡ length b
  pub commands : end.count ≡ count

-- The text is the script, however deep it nests and however many commands it has.
abbrev pub Reads : List ℕ → Script → Type 0
Reads b t = (limit : ℕ) × (count : ℕ) × ReadsTo b limit count t

-- The same within the limits.
abbrev pub ReadsWithin : List ℕ → Script → Type 0
ReadsWithin b t = (count : ℕ) × ReadsTo b MAX_NESTING count t × (count ≤ MAX_COMMANDS)
