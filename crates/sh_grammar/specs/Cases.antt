-- Patterns, clauses and the words of `case`.
-- POSIX.1-2024, XCU 2.9.4.3 (case conditional construct).
use Rattle.std.specs.Prelude.{◌≡◌, ◌<◌, ◌⊎◌, ℕ, true, false, List, [], ◌∷◌, codes, Some, Result, Ok, Err}
use Rattle.sh_tree.specs.declared.token.command.Lead.TheVariants as lead
use Rattle.sh_tree.specs.declared.token.command.Reserved.TheVariants as word
use Rattle.sh_tree.specs.declared.token.command.Stage.TheVariants.{First, Named}
use Rattle.sh_tree.specs.declared.refusal.Refusal.{Refusal}
use Rattle.sh_tree.specs.declared.tree.Clause.{Clause}
use Rattle.sh_tree.specs.declared.tree.ClauseEnd.{ClauseEnd}
use Rattle.sh_tree.specs.declared.tree.ClauseEnd.TheVariants.{Break}
use Rattle.sh_tree.specs.declared.tree.Script.{Script}
use Rattle.sh_tree.specs.declared.tree.Word.{Word}
use Rattle.sh_tree.specs.standard.language.Commands.{lead_at, is_word, clause_end_of}
use Rattle.sh_tree.specs.standard.language.Contexts.{in_unsplit}
use Rattle.sh_tree.specs.standard.language.Reading.{ReadsPatterns, ReadsSequence, ReadsBreaks, ReadsClauses, lead_here, unopened, behind_token}
use Rattle.sh_tree.specs.standard.language.States as states
use Rattle.sh_tree.specs.standard.language.States.{Document}
use Rattle.sh_tree.specs.standard.language.Trees.{clause}
use Rattle.sh_grammar.specs.declared.state.State.{State}
use Rattle.sh_grammar.specs.Faults.{IsFault, TellsAt}
use Rattle.sh_grammar.specs.Phrases.{behind_reserved}
use Rattle.sh_grammar.specs.States.{here, Stands}
use Rattle.sh_grammar.specs.Readers.{Reading, WordAt, unread}

-- after the `in` at s, or what is reported of another token there; no command can begin there
abbrev pub ExpectsIn : List ℕ → State → Result State Refusal → Type 0
ExpectsIn b s (Ok v) = (lead_at b First s.at ≡ lead.Reserved word.In) × (v ≡ behind_reserved b word.In s) × (s.at < v.at) × Stands b v
ExpectsIn b s (Err e) = IsFault b e × (lead_at b First s.at ≡ lead.Reserved word.In → ⊥) × TellsAt b (lead_at b (Named false) s.at) s e

-- the word at s, whose fields are not split
abbrev pub UnsplitFrom : List ℕ → State → Reading Word
UnsplitFrom b s limit v w = (is_word (lead_at b (Named false) s.at) ≡ true) × WordAt b (in_unsplit s.at) s.at s limit v w

-- patterns between bars, and the `)` after them
abbrev pub PatternsFrom : List ℕ → State → Reading (List Word)
PatternsFrom b s limit v ws = (u : states.State) × ReadsPatterns limit b (here s) u ws × (v ≡ behind_token b (codes ")") u)

-- the patterns of a clause and its list, up to what ends it
abbrev pub ReadsClause : ℕ → List ℕ → (ℕ → Document) → states.State → states.State → List Word × Script → Type 0
ReadsClause limit b body s v c =
    (u : states.State) × ReadsPatterns limit b (unopened b s) u c.0 × ReadsSequence limit b body (behind_token b (codes ")") u) v c.1

abbrev pub ClauseFrom : List ℕ → State → Reading (List Word × Script)
ClauseFrom b s limit v c = ReadsClause limit b unread (here s) v c

abbrev pub ClausesFrom : List ℕ → State → Reading (List Clause)
ClausesFrom b s limit v cs = ReadsClauses limit b unread (here s) v cs

-- what is left of the clauses after the patterns and the list of one, which end at u
abbrev pub ReadsClauseTail : ℕ → List ℕ → (ℕ → Document) → List Word × Script → states.State → states.State → List Clause → Type 0
ReadsClauseTail limit b body c u v cs =
    ((lead_here b u ≡ lead.Reserved word.Esac) × (v ≡ behind_token b (codes "esac") u) × (cs ≡ clause c.0 c.1 Break ∷ []))
    ⊎ ((e : ClauseEnd) × (w : states.State) × (ds : List Clause) × (clause_end_of (lead_here b u) ≡ Some e) × ReadsBreaks limit b (behind_token b (codes ";;") u) w
    × ReadsClauses limit b body w v ds × (cs ≡ clause c.0 c.1 e ∷ ds))
