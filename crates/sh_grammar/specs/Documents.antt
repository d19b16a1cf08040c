-- Bodies of here-documents.
-- POSIX.1-2024, XCU 2.7.4 (here-document).
use Rattle.std.specs.Prelude.{◌≡◌, ◌≤◌, ℕ, true, false, not, List, map, take, Some, Result, Ok, Err}
use Rattle.sh_tree.specs.declared.refusal.Refusal.{Refusal}
use Rattle.sh_tree.specs.declared.tree.Part.{Part}
use Rattle.sh_tree.specs.declared.tree.Span.{Span}
use Rattle.sh_tree.specs.declared.limits.TheConstants.{MAX_COMMANDS}
use Rattle.sh_tree.specs.standard.language.Contexts.{in_document_of}
use Rattle.sh_tree.specs.standard.language.HereDocuments.{end_line, behind_line, is_ambiguous, keeps_document}
use Rattle.sh_tree.specs.standard.language.Parts.{keeps_lines}
use Rattle.sh_tree.specs.standard.language.Reading.{ReadsParts, ReadsDocuments}
use Rattle.sh_tree.specs.standard.language.States.{Spot, in_document, no_document, with_document}
use Rattle.sh_tree.specs.standard.language.States as states
use Rattle.sh_tree.specs.standard.language.Trees.{span, word}
use Rattle.sh_grammar.specs.declared.mark.Mark.{Mark}
use Rattle.sh_grammar.specs.declared.state.State.{State}
use Rattle.sh_grammar.specs.Faults.{IsFault}
use Rattle.sh_grammar.specs.Marks.{mark_of}
use Rattle.sh_grammar.specs.States.{here, Lies}
use Rattle.sh_grammar.specs.Readers.{Reading, Refused}

-- the state v is reached, and no other
pub record Passes (b : List ℕ) (R : Reading (Unit {0})) (least : ℕ) (v : State) : Type 0 where
  pub forth : (limit : ℕ) (u : states.State) → R limit u tt → u ≡ here v
  pub back : R 64 (here v) tt
  pub from : least ≤ v.at
  pub lies : Lies b v

abbrev pub Passing : List ℕ → Reading (Unit {0}) → ℕ → Result State Refusal → Type 0
Passing b R least (Ok v) = Passes b R least v
Passing b R least (Err e) = Refused b R e

-- the lines of the body from i on that the line l ends are read in one way
pub record IsKept (b : List ℕ) (m : Mark) (s : State) (l : Span) : Type 0 where
  pub plain : is_ambiguous (mark_of m) b s.at l ≡ false
  pub kept : keeps_document b s.joins s.tabs (mark_of m) (span s.at (behind_line b l.end)) ≡ true

abbrev pub Checks : List ℕ → Mark → State → Span → Result (Unit {0}) Refusal → Type 0
Checks b m s l (Ok x) = IsKept b m s l
Checks b m s l (Err e) = IsFault b e × (IsKept b m s l → ⊥)

-- the body at s
abbrev pub DocumentFrom : List ℕ → Mark → State → Reading (Unit {0})
DocumentFrom b m s limit v x =
    (l : Span) × (u : Spot) × (ps : List Part) × (end_line (mark_of m) b s.at ≡ Some l) × IsKept b m s l
    × ReadsParts limit (take l.start b) (in_document_of (mark_of m)) 10 (in_document (mark_of m) (here s)) u ps × (keeps_lines b (not m.quoted) ps ≡ true)
    × (v ≡ with_document (behind_line b l.end) (record { text = word s.at l.start ps; end = l }) u (here s))

-- the bodies from s on
abbrev pub DocumentsFrom : List ℕ → List Mark → State → Reading (Unit {0})
DocumentsFrom b ms s limit v x = ReadsDocuments limit b (map mark_of ms) (here s) v

-- the parts of the body of m from s on up to `end`, and the commands before its end; or why there
-- are none
pub record BodyOf (b : List ℕ) (m : Mark) (end : ℕ) (s : State) (ps : List Part) (count : ℕ) : Type 0 where
  pub last : Spot
  pub reads : ReadsParts 64 (take end b) (in_document_of (mark_of m)) 10 (in_document (mark_of m) (here s)) last ps
  pub only : (limit : ℕ) (u : Spot) (qs : List Part) → ReadsParts limit (take end b) (in_document_of (mark_of m)) 10 (in_document (mark_of m) (here s)) u qs → (u ≡ last) × (qs ≡ ps)
  pub kept : keeps_lines b (not m.quoted) ps ≡ true
  pub counts : last.count ≡ count
  pub few : count ≤ MAX_COMMANDS

abbrev pub BodyFrom : List ℕ → Mark → ℕ → State → Reading (List Part)
BodyFrom b m end s limit v ps =
    (u : Spot) × ReadsParts limit (take end b) (in_document_of (mark_of m)) 10 (in_document (mark_of m) (here s)) u ps × (keeps_lines b (not m.quoted) ps ≡ true)
    × (v ≡ with_document end no_document u (here s))

abbrev pub BodyRead : List ℕ → Mark → ℕ → State → Result (List Part × ℕ) Refusal → Type 0
BodyRead b m end s (Ok r) = BodyOf b m end s r.0 r.1
BodyRead b m end s (Err e) = Refused b (BodyFrom b m end s) e
