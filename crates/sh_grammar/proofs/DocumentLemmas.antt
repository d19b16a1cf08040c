-- Bodies of here-documents: one, and all that wait at a newline.
use Rattle.std.proofs.Common.{None, ◌≡◌, ℕ, ◌<◌, ◌≤◌, true, false, not, List, [], ◌∷◌, ◌++◌, ◌-◌, length, get_or, map, take, drop, arith, Some, refl, sym, ap, subst, ◌∙◌, le_refl, le_trans}
use Rattle.std.proofs.lemmas.Bool.{true≢false}
use Rattle.std.proofs.lemmas.List.{map-append, take_all}
use Rattle.sh_tree.specs.declared.refusal.Refusal.{Refusal}
use Rattle.sh_tree.specs.declared.tree.Part.{Part}
use Rattle.sh_tree.specs.declared.tree.Span.{Span}
use Rattle.sh_tree.specs.declared.tree.Word.{Word}
use Rattle.sh_tree.specs.standard.language.Contexts.{in_document_of}
use Rattle.sh_tree.specs.standard.language.HereDocuments as documents
use Rattle.sh_tree.specs.standard.language.HereDocuments.{end_line, behind_line}
use Rattle.sh_tree.specs.standard.language.Parts.{keeps_lines}
use Rattle.sh_tree.specs.standard.language.Reading as r
use Rattle.sh_tree.specs.standard.language.Reading.{ReadsParts, ReadsDocuments, is_some}
use Rattle.sh_tree.specs.standard.language.States as states
use Rattle.sh_tree.specs.standard.language.States.{Spot, in_document, past, waits, with_document}
use Rattle.sh_tree.specs.standard.language.Trees.{word}
use Rattle.sh_tree.proofs.Inversions.{some_one}
use Rattle.sh_tree.proofs.Counts.{documents_count}
use Rattle.sh_bodies.specs.declared.Document.{Document}
use Rattle.sh_bodies.specs.Fill.{document_of}
use Rattle.sh_grammar.specs.declared.mark.Mark.{Mark}
use Rattle.sh_grammar.specs.declared.state.State.{State}
use Rattle.sh_grammar.specs.Documents.{BodyFrom, BodyOf, DocumentFrom, DocumentsFrom, IsKept, Passes}
use Rattle.sh_grammar.specs.Marks.{mark_of}
use Rattle.sh_grammar.specs.Modes.{PartsAt, Whole}
use Rattle.sh_grammar.specs.Readers.{Nothing, Refused}
use Rattle.sh_grammar.specs.States.{AreBefore, Lies, here, in_body, spot_of}
use Rattle.sh_grammar.proofs.ReaderLemmas.{refused_by, refused_in}
use Rattle.sh_grammar.proofs.StateLemmas.{are_later, before_later}

-- One body

module _ (b : List ℕ) (m : Mark) (s : State) where
  module _ (line : Span) (is : Some line ≡ end_line (mark_of m) b s.at) where
    -- the line is the one that a reading finds
    same_line : (l : Span) → end_line (mark_of m) b s.at ≡ Some l → l ≡ line
    same_line l e = some_one (sym e ∙ sym is)

    pub document_refused : (e : Refusal) → Refused b (BodyFrom b m line.start s) e → Refused b (DocumentFrom b m s) e
    document_refused e h = refused_by b (BodyFrom b m line.start s) (DocumentFrom b m s) e
        (λ limit k x l.
        let u = l.1 in
        let ps = l.2 in
        let read = subst (λ (y : Span). ReadsParts limit (take y.start b) (in_document_of (mark_of m)) 10 (in_document (mark_of m) (here s)) u ps) (same_line l.0 l.3) l.5 in
        (with_document line.start states.no_document u (here s), ps, (u, read, l.6, refl), subst (λ (y : states.State). u.count ≤ y.spot.count) (sym l.7) (le_refl u.count))) h

    -- the state after it
    pub document_read : (ps : List Part) (count : ℕ) (v : State) → IsKept b m s line → BodyOf b m line.start s ps count → Lies b s → s.at ≤ behind_line b line.end
        → behind_line b line.end ≤ length b → v ≡ record s { at = behind_line b line.end; count = count; bodies = s.bodies ++ record { text = word s.at line.start ps; end = line } ∷ [] }
        → Passes b (DocumentFrom b m s) s.at v
    document_read ps count v kept body lies after within to = record {
      forth = λ limit u l.
          let read = subst (λ (y : Span). ReadsParts limit (take y.start b) (in_document_of (mark_of m)) 10 (in_document (mark_of m) (here s)) l.1 l.2) (same_line l.0 l.3) l.5 in
          let o = body.only limit l.1 l.2 read in
          l.7 ∙ ap (λ (y : Span). with_document (behind_line b y.end) (record { text = word s.at y.start l.2; end = y }) l.1 (here s)) (same_line l.0 l.3)
          ∙ ap (λ qs. with_document (behind_line b line.end) (record { text = word s.at line.start qs; end = line }) l.1 (here s)) o.1
          ∙ ap (λ w. with_document (behind_line b line.end) (record { text = word s.at line.start ps; end = line }) w (here s)) o.0 ∙ sym there;
      back = (line, body.last, ps, sym is, kept, body.reads, body.kept, there);
      from = subst (λ (y : State). s.at ≤ y.at) (sym to) after;
      lies = subst (Lies b) (sym to) (record {
        inside = within;
        few = body.few;
        shallow = lies.shallow;
        around = before_later s.at (behind_line b line.end) s.outer after lies.around;
        behind = are_later s.at (behind_line b line.end) s.pending after lies.behind;
      });
    }
      where
        one : Document
        one = record { text = word s.at line.start ps; end = line }

        -- the reading's state after it
        there : here v ≡ with_document (behind_line b line.end) (record { text = word s.at line.start ps; end = line }) body.last (here s)
        there =
            ap here to ∙ ap (λ ds. record (here (record s { at = behind_line b line.end; count = count })) { bodies = ds }) (map-append document_of s.bodies (one ∷ []))
            ∙ ap (λ n. with_document (behind_line b line.end) (document_of one) (record body.last { count = n }) (here s)) (sym body.counts)

-- a line ends the body
pub line_ends : (b : List ℕ) (m : Mark) (s t : State) (line : Span) → t ≡ s → Some line ≡ end_line (mark_of m) b t.at → end_line (mark_of m) b s.at ≡ None → ⊥
unfolding is_some
line_ends b m s t line same is none = true≢false (ap is_some (is ∙ ap (λ (v : State). end_line (mark_of m) b v.at) same ∙ none))

-- The parts of a body, by what is built in the text that ends with it

module _ (b : List ℕ) (m : Mark) (end : ℕ) (s : State) where
  abbrev text : List ℕ
  text = take end b

  -- where the body is read
  begins_there : spot_of s.at (in_body m s) ≡ in_document (mark_of m) (here s)
  unfolding is_some waits
  begins_there = refl

  parts_there : {limit : ℕ} {u : Spot} {ps : List Part} → ReadsParts limit text (in_document_of (mark_of m)) 10 (in_document (mark_of m) (here s)) u ps
      → ReadsParts limit text (in_document_of (mark_of m)) 10 (spot_of s.at (in_body m s)) u ps
  parts_there {limit = limit} {u = u} {ps = ps} h = subst (λ x. ReadsParts limit text (in_document_of (mark_of m)) 10 x u ps) (sym begins_there) h

  pub body_refused : (e : Refusal) → length text ≤ length b → Refused text (PartsAt text (in_document_of (mark_of m)) 10 s.at (in_body m s)) e → Refused b (BodyFrom b m end s) e
  body_refused e within h = refused_by b (PartsAt text (in_document_of (mark_of m)) 10 s.at (in_body m s)) (BodyFrom b m end s) e
      (λ limit k ps l. (past text l.0 (here (in_body m s)), ps, (l.0, parts_there l.1, refl), subst (λ (x : states.State). l.0.count ≤ x.spot.count) (sym l.3) (le_refl l.0.count)))
      (refused_in (PartsAt text (in_document_of (mark_of m)) 10 s.at (in_body m s)) text b e within h)

  module _ (w : Word) (last : State) (h : Whole text (in_document_of (mark_of m)) 10 s.at (in_body m s) w last) where
    pub body_read : keeps_lines b (not m.quoted) w.parts ≡ true → BodyOf b m end s w.parts last.count
    body_read kept = record {
      last = spot_of w.span.end last;
      reads = subst (λ x. ReadsParts 64 text (in_document_of (mark_of m)) 10 x (spot_of w.span.end last) w.parts) begins_there h.reads;
      only = λ limit u qs q. h.only limit u qs (parts_there q);
      kept = kept;
      counts = refl;
      few = h.counted.lies.few;
    }

    -- single quotes in it hold a continuation
    pub body_split : keeps_lines b (not m.quoted) w.parts ≡ false → Nothing (BodyFrom b m end s)
    body_split split limit k ps l =
        let o = h.only limit l.0 ps (parts_there l.1) in
        true≢false (sym l.2 ∙ ap (λ qs. keeps_lines b (not m.quoted) qs) o.1 ∙ split)

-- All bodies

-- what is left of the bodies at v is what is left at s
pub record DocumentsLeft (b : List ℕ) (all : List Mark) (s : State) (left : List Mark) (v : State) : Type 0 where
  pub forth : (limit : ℕ) (u : states.State) → DocumentsFrom b all s limit u tt → DocumentsFrom b left v limit u tt
  pub back : (u : states.State) → DocumentsFrom b left v 64 u tt → DocumentsFrom b all s 64 u tt
  pub from : s.at ≤ v.at
  pub lies : Lies b v
  pub marked : AreBefore (length b) left

pub documents_first : (b : List ℕ) (all : List Mark) (s : State) → Lies b s → AreBefore (length b) all → DocumentsLeft b all s all s
documents_first b all s lies marked = record { forth = λ limit u h. h; back = λ u h. h; from = le_refl s.at; lies = lies; marked = marked }

-- a body, and the others after it
first_document : {limit : ℕ} {b : List ℕ} {s u : states.State} {n : documents.Mark} {ms : List documents.Mark} → ReadsDocuments limit b (n ∷ ms) s u
    → (l : Span) × (w : Spot) × (ps : List Part) × (end_line n b s.spot.at ≡ Some l) × (documents.is_ambiguous n b s.spot.at l ≡ false)
    × (documents.keeps_document b s.spot.joins s.spot.tabs n (record { start = s.spot.at; end = behind_line b l.end }) ≡ true)
    × ReadsParts limit (take l.start b) (in_document_of n) 10 (in_document n s) w ps × (keeps_lines b (not n.quoted) ps ≡ true)
    × ReadsDocuments limit b ms (with_document (behind_line b l.end) (record { text = word s.spot.at l.start ps; end = l }) w s) u
first_document (r.more_bodies {u = w} {l = l} {ps = ps} e a c h k d) = (l, w, ps, e, a, c, h, k, d)

no_more : {limit : ℕ} {b : List ℕ} {s u : states.State} → ReadsDocuments limit b [] s u → u ≡ s
no_more r.no_body = refl

module _ (b : List ℕ) (all : List Mark) (s : State) (m : Mark) (ms : List Mark) (v : State) (h : DocumentsLeft b all s (m ∷ ms) v) where
  pub documents_more : (w : State) → Passes b (DocumentFrom b m v) v.at w → DocumentsLeft b all s ms w
  documents_more w one = record {
    forth = λ limit u k.
        let f = first_document (h.forth limit u k) in
        let at = one.forth limit _ (f.0, f.1, f.2, f.3, record { plain = f.4; kept = f.5 }, f.6, f.7, refl) in
        subst (λ x. ReadsDocuments limit b (map mark_of ms) x u) at f.8;
    back = λ u k.
        let t = one.back in
        h.back u (r.more_bodies {s = here v} t.3 t.4.plain t.4.kept t.5 t.6 (subst (λ x. ReadsDocuments 64 b (map mark_of ms) x u) t.7 k));
    from = le_trans h.from one.from;
    lies = one.lies;
    marked = h.marked.1;
  }

  pub documents_refused : (e : Refusal) → Refused b (DocumentFrom b m v) e → Refused b (DocumentsFrom b all s) e
  documents_refused e none = refused_by b (DocumentFrom b m v) (DocumentsFrom b all s) e
      (λ limit u x k.
      let f = first_document (h.forth limit u k) in (
        with_document (behind_line b f.0.end) (record { text = word v.at f.0.start f.2; end = f.0 }) f.1 (here v),
        tt,
        (f.0, f.1, f.2, f.3, record { plain = f.4; kept = f.5 }, f.6, f.7, refl),
        documents_count f.8,
      )) none

-- the first mark, and the others
pub mark_first : (ms : List Mark) (m : Mark) → 1 ≤ length ms → m ≡ get_or ms 0 m → ms ≡ m ∷ take (length ms - 1) (drop 1 ms)
mark_first [] m l at = absurd (omega (arith, l))
mark_first (x ∷ xs) m l at = ap (λ y. y ∷ xs) (sym at) ∙ ap (λ ys. m ∷ ys) (sym (take_all (length (x ∷ xs) - 1) xs (omega arith)))

pub no_marks : (ms : List Mark) → length ms < 1 → ms ≡ []
no_marks [] h = refl
no_marks (x ∷ xs) h = absurd (omega (arith, h))

pub documents_all : (b : List ℕ) (all : List Mark) (s v : State) → DocumentsLeft b all s [] v → Passes b (DocumentsFrom b all s) s.at v
documents_all b all s v h = record {
  forth = λ limit u k. no_more (h.forth limit u k);
  back = h.back (here v) r.no_body;
  from = h.from;
  lies = h.lies;
}
