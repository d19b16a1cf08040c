-- Reserved words and what precedes them.
-- POSIX.1-2024, XCU 2.4 (reserved words), 2.9.4 (compound commands).
use Rattle.std.specs.Prelude.{◌≡◌, ◌<◌, ℕ, ◌+◌, List, codes, length, Result, Ok, Err}
use Rattle.sh_tree.specs.declared.token.command.Lead.TheVariants as lead
use Rattle.sh_tree.specs.declared.token.command.Reserved.{Reserved}
use Rattle.sh_tree.specs.declared.token.command.Reserved.TheVariants as word
use Rattle.sh_tree.specs.declared.token.command.Stage.TheVariants.{First}
use Rattle.sh_tree.specs.declared.refusal.Refusal.{Refusal}
use Rattle.sh_tree.specs.declared.tree.LoopKind.{LoopKind}
use Rattle.sh_tree.specs.declared.tree.LoopKind.TheVariants as loop
use Rattle.sh_tree.specs.declared.tree.Script.{Script}
use Rattle.sh_tree.specs.standard.language.Commands.{lead_at}
use Rattle.sh_tree.specs.standard.language.Reading.{ReadsList, ReadsDo, lead_here, behind_token}
use Rattle.sh_tree.specs.standard.language.States as states
use Rattle.sh_grammar.specs.declared.state.State.{State}
use Rattle.sh_grammar.specs.States.{here, moved, Stands}
use Rattle.sh_grammar.specs.Faults.{IsFault, TellsAt, stage_at}
use Rattle.sh_grammar.specs.Readers.{Reading, unread}

-- how a reserved word is written
abbrev pub reserved_text : Reserved → List ℕ
reserved_text word.Bang = codes "!"
reserved_text word.LeftBrace = codes "{"
reserved_text word.RightBrace = codes "}"
reserved_text word.Case = codes "case"
reserved_text word.Do = codes "do"
reserved_text word.Done = codes "done"
reserved_text word.Elif = codes "elif"
reserved_text word.Else = codes "else"
reserved_text word.Esac = codes "esac"
reserved_text word.Fi = codes "fi"
reserved_text word.For = codes "for"
reserved_text word.If = codes "if"
reserved_text word.In = codes "in"
reserved_text word.Then = codes "then"
reserved_text word.Until = codes "until"
reserved_text word.While = codes "while"

-- after the reserved word r at s
abbrev pub behind_reserved : List ℕ → Reserved → State → State
behind_reserved b r s = moved b (s.at + length (reserved_text r)) s

-- one level inside, after the reserved word r at s
abbrev pub entered : List ℕ → Reserved → State → State
entered b r s = record (behind_reserved b r s) { depth = s.depth + 1 }

-- after the reserved word r, which is at s; or what is reported of the token there
abbrev pub Expects : List ℕ → Reserved → State → Result State Refusal → Type 0
Expects b r s (Ok v) = (lead_at b First s.at ≡ lead.Reserved r) × (v ≡ behind_reserved b r s) × (s.at < v.at) × Stands b v
Expects b r s (Err e) = IsFault b e × (lead_at b First s.at ≡ lead.Reserved r → ⊥) × TellsAt b (lead_at b (stage_at s.fresh) s.at) s e

-- a list and the reserved word after it
abbrev pub ListBefore : List ℕ → Reserved → State → Reading Script
ListBefore b r s limit v t =
    (u : states.State) × ReadsList limit b unread (here s) u t × (lead_here b u ≡ lead.Reserved r) × (v ≡ behind_token b (reserved_text r) u)

abbrev pub DoFrom : List ℕ → State → Reading Script
DoFrom b s limit v t = ReadsDo limit b unread (here s) v t

-- the word with which a loop begins
abbrev pub loop_word : LoopKind → Reserved
loop_word loop.While = word.While
loop_word loop.Until = word.Until
