-- Where a reader of commands is: the place, what came before it, and what is open around it.
-- POSIX.1-2024, XCU 2.3 (token recognition), 2.4 (reserved words), 2.7.4 (here-documents), 2.10
-- (shell grammar).
--
-- The words of movement. Among the bytes of a word they lead from spot to spot. `to i` is the same
-- spot at the offset i. `deeper i` is there one level deeper. `behind i u` is at i as deep as
-- before, with the commands counted that were read up to u.
--
-- Among the tokens of commands they lead from state to state. `next i` is at the token at or after
-- i. `past u` is at the token after a word that was read up to u. `skip n` (in Reading) is at the
-- token after one of n bytes. `facing` is the spot from which a word is read. `within` is the state
-- from which the commands of a substitution are read. `begun` has one command more, `lower` is one
-- level deeper, and `as_deep` is as deep as another state. `over` (in Reading) is after a token of
-- arithmetic.
use Rattle.std.specs.Prelude.{ℕ, zero, suc, ◌+◌, Bool, true, false, not, ◌||◌, List, [], ◌∷◌, ◌++◌, length}
use Rattle.sh_tree.specs.declared.tree.Span.{Span}
use Rattle.sh_tree.specs.declared.tree.Word.{Word}
use Rattle.sh_tree.specs.standard.language.HereDocuments.{Mark}
use Rattle.sh_tree.specs.standard.language.Commands.{blanks}
use Rattle.sh_tree.specs.standard.language.Trees.{word, span}

-- Inside a word: the offset, how many commands began before it, and how many levels are open.
-- `quiet`: a here-document outside waits for its body, so that no newline token may come
-- (XCU 2.7.4). `joins`: this is in the body of a here-document whose lines are joined. `tabs`:
-- `<<-` strips the tabs at the beginning of lines around it.
pub record Spot : Type 0 where
  pub at : ℕ
  pub count : ℕ
  pub depth : ℕ
  pub quiet : Bool
  pub joins : Bool
  pub tabs : Bool

-- the spot at i
abbrev pub to : ℕ → Spot → Spot
to i s = record s { at = i }

-- the spot at i, one level deeper
abbrev pub deeper : ℕ → Spot → Spot
deeper i s = record s { at = i; depth = s.depth + 1 }

-- at i, after what was read inside, up to u
abbrev pub behind : ℕ → Spot → Spot → Spot
behind i u s = record s { at = i; count = u.count }

-- a here-document's body, and the line that ends it (XCU 2.7.4)
pub record Document : Type 0 where
  pub text : Word
  pub end : Span

-- Among commands: the spot, at a token's first byte. `closed`: a compound command without
-- redirections precedes it, so that a closing word is recognized (XCU 2.4). Of this level, the
-- here-documents whose bodies have not come, and those whose bodies have.
pub record State : Type 0 where
  pub spot : Spot
  pub closed : Bool
  pub pending : List Mark
  pub bodies : List Document

-- no document
abbrev pub no_document : Document
no_document = record { text = word 0 0 []; end = span 0 0 }

-- the n-th here-document
unfoldable pub nth : List Document → ℕ → Document
nth [] n = no_document
nth (d ∷ ds) zero = d
nth (d ∷ ds) (suc n) = nth ds n

-- how many here-document operators have come in this level
abbrev pub document_count : State → ℕ
document_count s = length s.bodies + length s.pending

-- a here-document waits for its body
unfoldable pub waits : List Mark → Bool
waits [] = false
waits (m ∷ ms) = true

-- before a word
abbrev pub facing : State → Spot
facing s = record s.spot { quiet = s.spot.quiet || waits s.pending }

-- in a substitution: its here-documents are its own (XCU 2.7.4)
abbrev pub within : Spot → State
within s = record { spot = s; closed = false; pending = []; bodies = [] }

module _ (b : List ℕ) where
  -- at the token at or after i
  abbrev pub next : ℕ → State → State
  next i s = record s { spot = to (blanks s.spot.joins b i) s.spot }

  -- at the token after what was read inside, up to u
  abbrev pub past : Spot → State → State
  past u s = record s { spot = behind (blanks s.spot.joins b u.at) u s.spot }

-- after the first byte of one more command
abbrev pub begun : State → State
begun s = record s { spot = record s.spot { count = s.spot.count + 1 } }

-- one level deeper, and as deep as r
abbrev pub lower : State → State
lower s = record s { spot = record s.spot { depth = s.spot.depth + 1 } }

abbrev pub as_deep : State → State → State
as_deep r s = record s { spot = record s.spot { depth = r.spot.depth } }

-- after a command: whether a closing word is recognized there (XCU 2.4)
abbrev pub closing : Bool → State → State
closing closed s = record s { closed = closed }

-- after a here-document's operator and delimiter (XCU 2.7.4)
abbrev pub with_mark : Mark → State → State
with_mark m s = record s { pending = s.pending ++ m ∷ [] }

-- after a newline, at i: the bodies of the here-documents before it come now (XCU 2.7.4)
abbrev pub on_line : ℕ → State → State
on_line i s = record s { spot = to i s.spot; pending = [] }

-- where the body of a here-document is read
abbrev pub in_document : Mark → State → Spot
in_document m s = record s.spot { depth = m.depth; quiet = false; joins = not m.quoted; tabs = s.spot.tabs || m.strip }

-- after a body that was read up to u, and its end line, which ends before i
abbrev pub with_document : ℕ → Document → Spot → State → State
with_document i d u s = record s { spot = behind i u s.spot; bodies = s.bodies ++ d ∷ [] }
