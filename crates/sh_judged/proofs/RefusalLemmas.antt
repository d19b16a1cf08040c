-- What the parts of a script's preparation refuse, the script is refused for.
use Rattle.std.proofs.Common.{◌≡◌, ℕ, ◌≤◌, inl, inr, List, length, None, Ok, Err}
use Rattle.sh_tree.specs.Answers.{IsText, Parses}
use Rattle.sh_tree.specs.declared.limits.TheConstants.{MAX_COMMANDS}
use Rattle.sh_tree.specs.declared.refusal.Refusal.{Refusal}
use Rattle.sh_tree.specs.declared.refusal.Refusal.TheVariants.{TooLong, NulByte, Syntax, LeftOut, TooDeep, TooMany, Memory, Profile, CertSyntax, CertShape}
use Rattle.sh_tree.specs.declared.tree.Script.{Script}
use Rattle.sh_tree.specs.standard.program.Trees.{script_of}
use Rattle.sh_grammar.specs.Faults.{TellsLimit, TellsMisplaced, TellsPending}
use Rattle.sh_table.specs.Admits.{Admits}
use Rattle.sh_runs.specs.Calls.{table_of}
use Rattle.sh_runs.specs.Profile.{first_refused}
use Rattle.sh_domain.specs.Facts.{Declared}
use Rattle.sh_domain.specs.Names.{Numbers}
use Rattle.sh_domain.proofs.TotalLemmas.{read_has_few_commands}
use Rattle.sh_accept.specs.Answers.{IsUnread, Refuses, NoRefusal}

-- what its reader reports of a text
pub reported : (b : List ℕ) (e : Refusal) → Parses b (Err e) → TellsLimit b (Err e) → (IsText b → TellsMisplaced b (Err e)) → (IsText b → TellsPending b (Err e)) → IsUnread b e
reported b e p l m w = record { refused = p; limit = l; misplaced = m; pending = w }

module _ (b : List ℕ) (d : Declared) where
  -- a text that is not read
  pub unread : (P : Refusal → Type 0) (e : Refusal) → IsUnread b e → Refuses b d P e
  unread P TooLong h = h
  unread P (NulByte at) h = h
  unread P (Syntax f at) h = h
  unread P (LeftOut f at) h = h
  unread P (TooDeep at) h = h
  unread P TooMany h = inl h
  unread P Memory h = h.refused
  unread P (Profile r at) h = absurd h.refused
  unread P (CertSyntax n) h = absurd h.refused
  unread P CertShape h = absurd h.refused

  -- a script whose table is refused: out of memory
  pub untabled : (P : Refusal → Type 0) (t : Script) (e : Refusal) → Parses b (Ok t)
      → (length (table_of b t).rows ≤ MAX_COMMANDS → e ≡ Memory) → Refuses b d P e
  untabled P t e p h = go e (h (read_has_few_commands b t p.1))
    where
      go : (e : Refusal) → e ≡ Memory → Refuses b d P e
      go Memory h = p.0
      go TooLong h = cc
      go (NulByte at) h = cc
      go (Syntax f at) h = cc
      go (LeftOut f at) h = cc
      go (TooDeep at) h = cc
      go TooMany h = cc
      go (Profile r at) h = cc
      go (CertSyntax n) h = cc
      go CertShape h = cc

  -- a script with a command that is refused
  pub refused : (P : Refusal → Type 0) (t : Script) (e : Refusal) → Parses b (Ok t) → Admits (script_of b t) (Err e) → Refuses b d P e
  refused P t TooLong p h = absurd h
  refused P t (NulByte at) p h = absurd h
  refused P t (Syntax f at) p h = absurd h
  refused P t (LeftOut f at) p h = absurd h
  refused P t (TooDeep at) p h = absurd h
  refused P t TooMany p h = absurd h
  refused P t Memory p h = p.0
  refused P t (Profile r at) p h = (t, p, h)
  refused P t (CertSyntax n) p h = absurd h
  refused P t CertShape p h = absurd h

  -- a script whose names are not numbered
  pub unnumbered : (P : Refusal → Type 0) (t : Script) (e : Refusal) → Parses b (Ok t) → first_refused (script_of b t) ≡ None
      → Numbers b t d (Err e) → Refuses b d P e
  unnumbered P t TooLong p a h = absurd h
  unnumbered P t (NulByte at) p a h = absurd h
  unnumbered P t (Syntax f at) p a h = absurd h
  unnumbered P t (LeftOut f at) p a h = absurd h
  unnumbered P t (TooDeep at) p a h = absurd h
  unnumbered P t TooMany p a h = inr (t, p, a, h)
  unnumbered P t Memory p a h = p.0
  unnumbered P t (Profile r at) p a h = absurd h
  unnumbered P t (CertSyntax n) p a h = absurd h
  unnumbered P t CertShape p a h = absurd h

  -- whatever else is refused of a script and a text, what is refused of the script alone is
  pub widened : (P : Refusal → Type 0) (e : Refusal) → Refuses b d NoRefusal e → Refuses b d P e
  widened P TooLong h = h
  widened P (NulByte at) h = h
  widened P (Syntax f at) h = h
  widened P (LeftOut f at) h = h
  widened P (TooDeep at) h = h
  widened P TooMany h = h
  widened P Memory h = h
  widened P (Profile r at) h = h
  widened P (CertSyntax n) h = absurd h
  widened P CertShape h = absurd h
