-- What is reported of a token that has no place.
-- POSIX.1-2024, XCU 2.10 (shell grammar).
use Rattle.std.specs.Prelude.{◌≡◌, ℕ, ◌+◌, ◌<◌, ◌≤◌, Bool, true, false, List, [], ◌∷◌, drop, length, Option, Some, None, unwrap_or, Result, Ok, Err}
use Rattle.sh_tree.specs.declared.limits.TheConstants.{MAX_COMMANDS, MAX_NESTING}
use Rattle.sh_tree.specs.declared.refusal.Fault.{Fault}
use Rattle.sh_tree.specs.declared.refusal.Fault.TheVariants as fault
use Rattle.sh_tree.specs.declared.refusal.Form.{Form}
use Rattle.sh_tree.specs.declared.refusal.Form.TheVariants as form
use Rattle.sh_tree.specs.declared.refusal.Refusal.{Refusal}
use Rattle.sh_tree.specs.declared.refusal.Refusal.TheVariants.{Syntax, LeftOut, TooDeep, TooMany, Memory}
use Rattle.sh_tree.specs.declared.token.command.Stage.{Stage}
use Rattle.sh_tree.specs.declared.token.command.Stage.TheVariants.{First, Prefixed}
use Rattle.sh_tree.specs.declared.token.command.Lead.{Lead}
use Rattle.sh_tree.specs.declared.token.command.Lead.TheVariants as lead
use Rattle.sh_tree.specs.declared.tree.Script.{Script}
use Rattle.sh_tree.specs.standard.language.Commands.{lead_at}
use Rattle.sh_tree.specs.standard.language.Reading.{ReadsSequence, ReadsTo}
use Rattle.sh_tree.specs.standard.language.States as states
use Rattle.sh_tree.specs.standard.language.States.{Document, waits}
use Rattle.sh_grammar.specs.declared.mark.Mark.{Mark}
use Rattle.sh_grammar.specs.declared.state.State.{State}
use Rattle.sh_grammar.specs.Lines.{first_joined}
use Rattle.sh_grammar.specs.States.{here, first_of}
use Rattle.sh_grammar.specs.Ticks.{misplaced, overrun}
use Rattle.sh_grammar.specs.declared.ticks.Ticks.{Ticks}

-- a fault of syntax or a refused form, at its place in the text
abbrev pub IsFault : List ℕ → Refusal → Type 0
IsFault b (Syntax f at) = at ≤ length b
IsFault b (LeftOut f at) = at < length b
IsFault b _ = ⊥

-- Where the refused form is reported that the token at i is. A line continuation is reported at its
-- backslash, the first from the token's beginning on.
abbrev pub IsPlace : List ℕ → Form → ℕ → ℕ → Type 0
IsPlace b form.Continuation i at = at ≡ i + unwrap_or (first_joined (λ rest. true) (drop i b)) 0
IsPlace b _ i at = at ≡ i

-- What is reported of the token at i, which has no place there. For a backquote that depends on
-- what is around.
abbrev pub Tells : List ℕ → Lead → ℕ → Refusal → Type 0
Tells b (lead.LeftOut f) i e = (at : ℕ) × (e ≡ LeftOut f at) × IsPlace b f i at
Tells b lead.End i e = e ≡ Syntax fault.UnexpectedEnd i
Tells b lead.Backquote i e = (t : Ticks) × (e ≡ misplaced t i)
Tells b _ i e = e ≡ Syntax fault.UnexpectedToken i

-- What is reported at the end of the text: the closing backquote, over which something ran; the
-- first here-document that waits for its body; or else the fault at i.
abbrev pub ended_by : Option ℕ → List Mark → Fault → ℕ → Refusal
ended_by (Some at) ms f i = LeftOut form.BackquoteInside at
ended_by None [] f i = Syntax f i
ended_by None (m ∷ ms) f i = Syntax fault.OpenHereDoc m.at

abbrev pub ended : List ℕ → State → Fault → ℕ → Refusal
ended b s f i = ended_by (overrun s.ticks (length b)) s.pending f i

-- What is reported if no line ends the body of m, which begins at s: the closing backquote, over
-- which something ran; in a body whose lines are joined, that m goes on outside; or else m.
abbrev pub unended_by : Option ℕ → (joins : Bool) → ℕ → Refusal
unended_by (Some at) joins i = LeftOut form.BackquoteInside at
unended_by None true i = LeftOut form.HereAcross i
unended_by None false i = Syntax fault.OpenHereDoc i

abbrev pub unended : List ℕ → Mark → State → Refusal
unended b m s = unended_by (overrun s.ticks (length b)) s.joins m.at

-- what is reported of the token at s, which has no place there
abbrev pub TellsAt : List ℕ → Lead → State → Refusal → Type 0
TellsAt b lead.End s e = e ≡ ended b s fault.UnexpectedEnd s.at
TellsAt b lead.Backquote s e = e ≡ misplaced s.ticks s.at
TellsAt b l s e = Tells b l s.at e

-- how the token is read where nothing goes on: as a command's first token if a command could begin
-- there
unfoldable pub stage_at : Bool → Stage
stage_at true = First
stage_at false = Prefixed

-- what is reported of the token at i if nothing goes on there
abbrev pub Misplaced : List ℕ → ℕ → Refusal → Type 0
Misplaced b i e = (fresh : Bool) × Tells b (lead_at b (stage_at fresh) i) i e

-- What is reported if a sequence is read up to v and the text goes on there: the token at v. One
-- command too many is reported instead, if there are that many.
abbrev pub TellsBehind : List ℕ → states.State → Result Script Refusal → Type 0
TellsBehind b v (Ok t) = ⊥
TellsBehind b v (Err Memory) = Unit {0}
TellsBehind b v (Err TooMany) = MAX_COMMANDS < v.spot.count
TellsBehind b v (Err e) = Misplaced b v.spot.at e

-- the same of each sequence at the front of the text
abbrev pub TellsMisplaced : List ℕ → Result Script Refusal → Type 0
TellsMisplaced b r =
    (body : ℕ → Document) (v : states.State) (t : Script) → ReadsSequence MAX_NESTING b body (here (first_of b)) v t → v.spot.at < length b → TellsBehind b v r

-- What is reported if a sequence is read up to v, at the end of the text, and a here-document waits
-- there for its body: that it is open. One command too many is reported instead, if there are that
-- many.
abbrev pub TellsWaiting : states.State → Result Script Refusal → Type 0
TellsWaiting v (Ok t) = ⊥
TellsWaiting v (Err Memory) = Unit {0}
TellsWaiting v (Err TooMany) = MAX_COMMANDS < v.spot.count
TellsWaiting v (Err e) = (at : ℕ) × (e ≡ Syntax fault.OpenHereDoc at) × (at < v.spot.at)

-- the same of each sequence that is the text
abbrev pub TellsPending : List ℕ → Result Script Refusal → Type 0
TellsPending b r =
    (body : ℕ → Document) (v : states.State) (t : Script) → ReadsSequence MAX_NESTING b body (here (first_of b)) v t → v.spot.at ≡ length b → waits v.pending ≡ true
    → TellsWaiting v r

-- If a level too many is reported, nothing is read within the limit of nesting, however many
-- commands it has. If a command too many is, whatever is read has too many, however deep it nests.
abbrev pub TellsLimit : List ℕ → Result Script Refusal → Type 0
TellsLimit b (Err (TooDeep at)) = (count : ℕ) (t : Script) → ReadsTo b MAX_NESTING count t → ⊥
TellsLimit b (Err TooMany) = (limit count : ℕ) (t : Script) → ReadsTo b limit count t → MAX_COMMANDS < count
TellsLimit b _ = Unit {0}
