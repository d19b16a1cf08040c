-- What a word expands to, and what its expansion does. It may set variables, start processes, meet
-- a parameter that is not set, and end the process.
-- POSIX.1-2024, XCU 2.2.3 (double quotes), 2.5 (parameters), 2.6 (word expansions).
use Rattle.std.specs.Prelude.{ℕ, ◌-◌, ◌==◌, Bool, true, false, not, ◌&&◌, ◌||◌, if◌then◌else◌, List, [], ◌∷◌, ◌++◌, length, take, codes, Option, Some, None, is_some, slice_get}
use Rattle.std.specs.List.{flat_map}
use Rattle.sh_tree.specs.declared.tree.Action.{Action}
use Rattle.sh_tree.specs.declared.tree.Action.TheVariants as action
use Rattle.sh_tree.specs.declared.tree.Special as tree
use Rattle.sh_tree.specs.declared.tree.Special.TheVariants as special
use Rattle.sh_tree.specs.standard.program.Syntax.{Text, Parameter, Variable, Positional, Special, Part, Plain, Escaped, Single, Double, Expansion, Arithmetic, Substitution, Tilde, Joined, Word, no_parts, more_parts, Operator, Value, Length, Use, Remove, Expression, Constant, Name, Expanded, Parenthesis, Signed, Chain, Choice, Assigned, Operands, no_operands, more_operands}
use Rattle.sh_runs.specs.standard.runs.Environment.{Environment, Frame, with_variable, copied, separators}
use Rattle.sh_runs.specs.standard.runs.Numbers.{digits, integer_text, is_operand}
use Rattle.sh_runs.specs.standard.runs.Answers.{Given}
use Rattle.sh_runs.specs.standard.runs.States.{State, met, taken, with_environment, started, ending, stray}
use Rattle.sh_runs.specs.standard.runs.Arithmetic.{Computed, evaluate}

-- where bytes come from: the word itself, quotes, or an expansion outside quotes (XCU 2.6.5)
pub data Origin : Type 0 where
  Literal : Origin
  Quoted : Origin
  Unquoted : Origin

-- bytes with their origin; a break between two fields, as `"$@"` makes them (XCU 2.5.2)
pub data Piece : Type 0 where
  Bytes : Origin → Text → Piece
  Break : Piece

-- how a word is read: whether its fields are split (XCU 2.6.5), and the origin of its plain bytes
pub record Context : Type 0 where
  pub split : Bool
  pub plain : Origin

-- a command name, an operand, a word of `for` (XCU 2.6)
abbrev pub in_fields : Context
in_fields = record { split = true; plain = Literal }

-- a word that is one field whatever it holds: a value, the target of a redirection, a word or a
-- pattern of `case` (XCU 2.6)
abbrev pub in_one : Context
in_one = record { split = false; plain = Literal }

-- in double quotes (XCU 2.2.3)
abbrev pub in_quotes : Context → Context
in_quotes c = record c { plain = Quoted }

-- the origin of what an expansion gives (XCU 2.6.5)
unfoldable pub value_origin : Origin → Origin
value_origin Quoted = Quoted
value_origin _ = Unquoted

-- the word after `-` and `+`, whose own bytes are split too (XCU 2.6.2, 2.6.5)
abbrev pub in_default : Context → Context
in_default c = record c { plain = value_origin c.plain }

-- the text of pieces that are one field
unfoldable pub piece_text : Piece → Text
piece_text (Bytes origin t) = t
piece_text Break = []

abbrev pub pieces_text : List Piece → Text
pieces_text ps = flat_map piece_text ps

-- what an expansion gives, and the state afterwards (XCU 2.6)
pub record Outcome : Type 0 where
  pub pieces : List Piece
  pub state : State

abbrev pub gives : List Piece → State → Outcome
gives ps s = record { pieces = ps; state = s }

-- one after the other, unless the first ends the process
unfoldable pub followed : Outcome → (State → Outcome) → Outcome
followed o next = if o.state.ended then o else gives (o.pieces ++ (next o.state).pieces) (next o.state).state

-- with a separator between two texts
unfoldable pub joined_by : Text → List Text → Text
joined_by separator [] = []
joined_by separator (t ∷ []) = t
joined_by separator (t ∷ u ∷ ts) = t ++ separator ++ joined_by separator (u ∷ ts)

-- each text a field of its own
unfoldable pub broken : Origin → List Text → List Piece
broken origin [] = []
broken origin (t ∷ []) = Bytes origin t ∷ []
broken origin (t ∷ u ∷ ts) = Bytes origin t ∷ Break ∷ broken origin (u ∷ ts)

-- All positional parameters as one text. Between two of them, `$*` has the first separator
-- (XCU 2.5.2), and `$@`, for which the standard leaves it open, a space.
abbrev pub star_text : Environment → Frame → Text
star_text e f = joined_by (take 1 (separators e)) f

abbrev pub at_text : Frame → Text
at_text f = joined_by (32 ∷ []) f

-- `$*` (XCU 2.5.2): in quotes, and if fields are not split, it is one text, and otherwise each
-- parameter is a field of its own
unfoldable pub star_pieces : Context → Environment → Frame → List Piece
star_pieces c e f = if c.split then star_split (value_origin c.plain) else Bytes (value_origin c.plain) (star_text e f) ∷ []
  where
    star_split : Origin → List Piece
    star_split Quoted = Bytes Quoted (star_text e f) ∷ []
    star_split origin = broken origin f

-- `$@` (XCU 2.5.2): each parameter is a field of its own, in quotes too
unfoldable pub at_pieces : Context → Frame → List Piece
at_pieces c f = if c.split then broken (value_origin c.plain) f else Bytes (value_origin c.plain) (at_text f) ∷ []

-- whether a part is `$@`, and whether a word holds it: double quotes round it give no field of
-- their own (XCU 2.5.2)
unfoldable pub is_every : Part → Bool
is_every (Expansion at (Special special.At) Value) = true
is_every _ = false

unfoldable pub has_every : Word → Bool
has_every no_parts = false
has_every (more_parts x w) = is_every x || has_every w

-- what double quotes give beside what they hold: a field, which may be empty (XCU 2.6)
unfoldable pub quote_pieces : Bool → List Piece
quote_pieces true = []
quote_pieces false = Bytes Quoted [] ∷ []

unfoldable pub is_empty_value : Option Text → Bool
is_empty_value None = false
is_empty_value (Some t) = length t == 0

module _ (f : Frame) (status : ℕ) where
  -- the value of a special parameter, if it is set (XCU 2.5.2)
  unfoldable pub special_value : tree.Special → Environment → Given → Option Text
  special_value special.At e g = Some (at_text f)
  special_value special.Asterisk e g = Some (star_text e f)
  special_value special.NumberSign e g = Some (digits (length f))
  special_value special.QuestionMark e g = Some (digits status)
  special_value special.Hyphen e g = Some g.text
  special_value special.Dollar e g = Some (digits g.number)
  special_value special.Exclamation e g = if e.job then Some (digits g.number) else None
  special_value special.Zero e g = Some g.text

  -- the value of a parameter, if it is set (XCU 2.5)
  unfoldable pub value_of : Parameter → Environment → Given → Option Text
  value_of (Variable name) e g = e.variables name
  value_of (Positional n) e g = slice_get f (n - 1)
  value_of (Special c) e g = special_value c e g

  -- the value of a parameter that has to be set (XCU 2.6.2): if it is not, that is an event
  unfoldable pub needed : Context → Option Text → State → Outcome
  needed c (Some v) s = gives (Bytes (value_origin c.plain) v ∷ []) s
  needed c None s = gives (Bytes (value_origin c.plain) [] ∷ []) (met s)

  -- the value of a parameter without an operator: `$@` and `$*` are always set (XCU 2.5.2)
  unfoldable pub value_pieces : Context → Parameter → Option Text → State → Outcome
  value_pieces c (Special special.At) v s = gives (at_pieces c f) s
  value_pieces c (Special special.Asterisk) v s = gives (star_pieces c s.environment f) s
  value_pieces c p v s = needed c v s

  -- `=`: a variable gets the text, and nothing else can (XCU 2.6.2)
  unfoldable pub default_assigned : Context → Parameter → Text → Bool → State → Outcome
  default_assigned c (Variable name) t false s = gives (Bytes (value_origin c.plain) t ∷ []) (with_environment s (with_variable s.environment name (Some t)))
  default_assigned c _ t _ s = gives [] (ending s)

  -- `-`, `=`, `?` and `+` (XCU 2.6.2), with what the word after them expands to: in the same
  -- context, and as one field
  unfoldable pub used : Context → Parameter → Given → Action → Option Text → Bool → (State → Outcome) → (State → Outcome) → State → Outcome
  used c p g action.Default v true word text s = needed c v s
  used c p g action.Default v false word text s = word s
  used c p g action.Assign v true word text s = needed c v s
  used c p g action.Assign v false word text s = followed (gives [] (text s).state) (default_assigned c p (pieces_text (text s).pieces) g.fails)
  used c p g action.Fault v true word text s = needed c v s
  used c p g action.Fault v false word text s = gives [] (ending (text s).state)
  used c p g action.Alternative v true word text s = word s
  used c p g action.Alternative v false word text s = gives [] s

  -- an expansion inside arithmetic (XCU 2.6.4): unless its text is an integer constant, nothing more
  -- is said of the run
  unfoldable pub constant_in : Outcome → State
  constant_in o = if o.state.ended || is_operand (pieces_text o.pieces) then o.state else stray o.state

  -- what comes next, unless the process has ended
  unfoldable pub behind : State → (State → State) → State
  behind s next = if s.ended then s else next s

  -- A tilde-prefix (XCU 2.6.1). Without a login name it is the value of HOME, and an event if that
  -- is unset, which the standard leaves open.
  unfoldable pub tilde_pieces : Text → Given → State → Outcome
  tilde_pieces [] g s = needed (in_quotes in_one) (s.environment.variables (codes "HOME")) s
  tilde_pieces (c ∷ cs) g s = gives (Bytes Quoted g.text ∷ []) s

  -- what arithmetic gives (XCU 2.6.4): all expansions in it come first, then it is computed
  unfoldable pub computed_pieces : Context → Computed → Outcome
  computed_pieces c r = gives (Bytes (value_origin c.plain) (integer_text r.value) ∷ []) r.state

  -- Each expansion takes the next answer. The order is that of the text (XCU 2.6).
  unfoldable mutual
    pub expand_part : Context → Part → State → Outcome
    expand_part c (Plain t) s = gives (Bytes c.plain t ∷ []) s
    expand_part c (Escaped t) s = gives (Bytes Quoted t ∷ []) s
    expand_part c (Single style t) s = gives (Bytes Quoted t ∷ []) s
    expand_part c (Double w) s = followed (gives (quote_pieces (c.split && has_every w)) s) (expand (in_quotes c) w)
    expand_part c (Expansion at p operator) s = expand_operator c p operator (s.given 0) (value_of p s.environment (s.given 0)) (taken s)
    expand_part c (Arithmetic at e) s = followed (gives [] (expand_inside e s)) (λ t. computed_pieces c (evaluate e t))
    expand_part c (Substitution at list) s = gives (Bytes (value_origin c.plain) (s.given 0).text ∷ []) (started (record { environment = copied (s.given 0).carries s.environment; list = list }) (taken s))
    expand_part c (Tilde at login) s = tilde_pieces login (s.given 0) (taken s)
    expand_part c Joined s = gives [] s

    -- a word, part by part (XCU 2.6)
    pub expand : Context → Word → State → Outcome
    expand c no_parts s = gives [] s
    expand c (more_parts x w) s = followed (expand_part c x s) (expand c w)

    -- an expansion of a parameter that has this value (XCU 2.6.2); a colon counts an empty value as
    -- none
    pub expand_operator : Context → Parameter → Operator → Given → Option Text → State → Outcome
    expand_operator c p Value g v s = value_pieces c p v s
    expand_operator c p Length g None s = gives (Bytes (value_origin c.plain) (digits 0) ∷ []) (met s)
    expand_operator c p Length g (Some t) s = gives (Bytes (value_origin c.plain) (digits (length t)) ∷ []) s
    expand_operator c p (Use action colon w) g v s =
        used c p g action v (is_some v && not (colon && is_empty_value v)) (expand (in_default c) w) (expand in_one w) s
    expand_operator c p (Remove removal w) g v s =
        followed (gives [] (needed c v s).state) (λ t. followed (gives [] (expand in_one w t).state) (gives (Bytes (value_origin c.plain) g.text ∷ [])))

    -- the expansions inside an expression, in the order of the text (XCU 2.6.4)
    pub expand_inside : Expression → State → State
    expand_inside (Constant t) s = s
    expand_inside (Name at name) s = s
    expand_inside (Expanded x) s = constant_in (expand_part (in_quotes in_one) x s)
    expand_inside (Parenthesis e) s = expand_inside e s
    expand_inside (Signed operator e) s = expand_inside e s
    expand_inside (Chain e rest) s = behind (expand_inside e s) (expand_operands rest)
    expand_inside (Choice e then_one else_one) s = behind (behind (expand_inside e s) (expand_inside then_one)) (expand_inside else_one)
    expand_inside (Assigned at name operator e) s = expand_inside e s

    pub expand_operands : Operands → State → State
    expand_operands no_operands s = s
    expand_operands (more_operands operator e rest) s = behind (expand_inside e s) (expand_operands rest)
