-- Words and the bodies of here-documents, by how they are read.
-- POSIX.1-2024, XCU 2.7.4 (here-document), 2.9.1 (simple commands).
use Rattle.std.specs.Prelude.{◌≡◌, ◌<◌, ◌≤◌, ℕ, List, length, Result, Ok, Err}
use Rattle.sh_tree.specs.declared.refusal.Refusal.{Refusal}
use Rattle.sh_tree.specs.declared.tree.Part.{Part}
use Rattle.sh_tree.specs.declared.tree.Word.{Word}
use Rattle.sh_tree.specs.declared.token.word.Context.{Context}
use Rattle.sh_tree.specs.declared.token.word.Sign.TheVariants as sign
use Rattle.sh_tree.specs.standard.language.Reading.{ReadsParts, sign_at}
use Rattle.sh_tree.specs.standard.language.States.{Spot, past}
use Rattle.sh_tree.specs.standard.language.Trees.{word}
use Rattle.sh_words.specs.Modes.{context_of, first_prior}
use Rattle.sh_words.specs.declared.mode.Mode.{Mode}
use Rattle.sh_words.specs.declared.mode.Mode.TheVariants as mode
use Rattle.sh_grammar.specs.declared.state.State.{State}
use Rattle.sh_grammar.specs.States.{spot_of, here}
use Rattle.sh_grammar.specs.Readers.{Reading, Refused}
use Rattle.sh_grammar.specs.Substitutions.{Counted}

-- no body
abbrev pub IsWhole : Mode → Type 0
IsWhole (mode.Body end strip quoted) = ⊥
IsWhole _ = Unit {0}

-- the context does not end at i, after the byte
abbrev pub BeginsBehind : ℕ → List ℕ → Context → ℕ → State → Type 0
BeginsBehind prior b x i s = sign_at b x prior (spot_of i s) ≡ sign.Stop → ⊥

abbrev pub Begins : List ℕ → Context → ℕ → State → Type 0
Begins b x i s = BeginsBehind 0 b x i s

-- the parts in the context from i on, after the byte, which belong to what is read from s on
abbrev pub PartsAt : List ℕ → Context → ℕ → ℕ → State → Reading (List Part)
PartsAt b x prior i s limit v ps = (u : Spot) × ReadsParts limit b x prior (spot_of i s) u ps × (v ≡ past b u (here s))

-- the word w in the context from i on, after the byte, which is the only one; with the commands in
-- it v is s
pub record Whole (b : List ℕ) (x : Context) (prior i : ℕ) (s : State) (w : Word) (v : State) : Type 0 where
  pub is : w ≡ word i w.span.end w.parts
  pub reads : ReadsParts 64 b x prior (spot_of i s) (spot_of w.span.end v) w.parts
  pub only : (limit : ℕ) (u : Spot) (qs : List Part) → ReadsParts limit b x prior (spot_of i s) u qs → (u ≡ spot_of w.span.end v) × (qs ≡ w.parts)
  pub from : i ≤ w.span.end
  pub within : w.span.end ≤ length b
  pub moves : BeginsBehind prior b x i s → i < w.span.end
  pub counted : Counted b s v

-- the word of a mode at i, or why there is none
abbrev pub Builds : List ℕ → Mode → ℕ → State → Result (Word × State) Refusal → Type 0
Builds b m i s (Ok r) = Whole b (context_of b m i) (first_prior m) i s r.0 r.1
Builds b m i s (Err e) = Refused b (PartsAt b (context_of b m i) (first_prior m) i s) e
