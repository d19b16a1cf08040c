-- Printed here-documents are read at the newline before them.
use Rattle.std.proofs.Common.{◌≡◌, ℕ, suc, ◌+◌, ◌-◌, ◌≤◌, Bool, true, false, List, [], ◌∷◌, ◌++◌, length, drop, map, nat_lt, refl, sym, ap, subst, ◌∙◌, arith, length-drop, length-append, append_assoc, append-nil}
use Rattle.std.specs.List.{flat_map}
use Rattle.std.proofs.lemmas.Bool.{cond-true}
use Rattle.std.proofs.lemmas.Bool.Decides.{nat_tests}
use Rattle.std.proofs.lemmas.List.{map-append, length-map}
use Rattle.sh_tree.specs.declared.token.command.Stage.TheVariants.{First}
use Rattle.sh_tree.specs.standard.Tree.{text_of}
use Rattle.sh_tree.specs.standard.language.Commands.{lead_at, blanks, blank_length, gap_length, is_newline_lead}
use Rattle.sh_tree.specs.standard.language.Bytes.{is_first}
use Rattle.sh_tree.specs.standard.language.HereDocuments.{Mark, behind_line, keeps_document}
use Rattle.sh_tree.specs.standard.language.Reading as r
use Rattle.sh_tree.specs.standard.language.Reading.{ReadsDocuments, ReadsBreaks}
use Rattle.sh_tree.specs.standard.language.States.{State, Document}
use Rattle.sh_tree.specs.standard.language.Trees as tree
use Rattle.sh_tree.specs.standard.language.Trees.{span}
use Rattle.sh_print.specs.Bare as bare
use Rattle.sh_print.specs.Layout.{document_text, line_end}
use Rattle.sh_print.proofs.PlaceLemmas.{front, fronted, lead_there, off, one_off}
use Rattle.sh_print.proofs.OwnTokens.{newline_leads}
use Rattle.sh_print.proofs.RedirectTokens.{text_there}
use Rattle.sh_print.proofs.Printable.{PrintableDocument}

-- a state outside of here-documents and of what is quiet
abbrev pub place : (i n k : ℕ) → (closed : Bool) → List Mark → List Document → State
place i n k closed ms ds = record { spot = record { at = i; count = n; depth = k; quiet = false; joins = false; tabs = false }; closed = closed; pending = ms; bodies = ds }

module _ (b : List ℕ) where
  -- a here-document and its end line
  abbrev pub document_of : Document → bare.Document
  document_of d = record { body = text_of b d.text.span; end = text_of b d.end }

  -- the here-documents whose operators have come: those with bodies, and those that wait
  abbrev pub so_far : List Document → List bare.Document → List bare.Document
  so_far ds waiting = map document_of ds ++ waiting

  -- from the n-th on, the bodies are these
  pub data Fits (body : ℕ → Document) : ℕ → List bare.Document → Type 0 where
    no_fit : {n : ℕ} → Fits body n []
    one_fit : {n : ℕ} {d : bare.Document} {ds : List bare.Document} → document_of (body n) ≡ d → Fits body (n + 1) ds → Fits body n (d ∷ ds)

  pub fits_first : {body : ℕ → Document} {n : ℕ} {d : bare.Document} {ds : List bare.Document} → Fits body n (d ∷ ds) → document_of (body n) ≡ d
  fits_first (one_fit e f) = e

  pub fits_parts : {body : ℕ → Document} (before xs ys : List bare.Document) → Fits body (length before) (xs ++ ys)
      → Fits body (length before) xs × Fits body (length (before ++ xs)) ys
  fits_parts {body} before xs ys f =
      let parts = go (length before) xs f in
      (parts.0, subst (λ n. Fits body n ys) (sym (length-append before xs)) parts.1)
    where
      go : (n : ℕ) (zs : List bare.Document) → Fits body n (zs ++ ys) → Fits body n zs × Fits body (n + length zs) ys
      go n [] f = (no_fit, subst (λ m. Fits body m ys) (omega arith) f)
      go n (z ∷ zs) (one_fit e f) =
          let rest = go (n + 1) zs f in
          (one_fit e rest.0, subst (λ m. Fits body m ys) (omega arith) rest.1)

  -- the marks of the here-documents that wait, and how many commands begin in those
  pub data Marked (limit : ℕ) : ℕ → List Mark → List bare.Document → Type 0 where
    no_mark : Marked limit 0 [] []
    one_mark : {own others : ℕ} {m : Mark} {ms : List Mark} {d : bare.Document} {ds : List bare.Document}
        → PrintableDocument limit m own d → Marked limit others ms ds → Marked limit (own + others) (m ∷ ms) (d ∷ ds)

  pub marked_join : {limit held more : ℕ} {ms ns : List Mark} {ds es : List bare.Document} → Marked limit held ms ds → Marked limit more ns es → Marked limit (held + more) (ms ++ ns) (ds ++ es)
  marked_join {limit = limit} {more = more} {ns = ns} {es = es} no_mark k = subst (λ n. Marked limit n ns es) (let e : more ≡ 0 + more = omega arith in e) k
  marked_join {limit = limit} {more = more} {ns = ns} {es = es} (one_mark {own = own} {others = others} {m = m} {ms = ms} {d = d} {ds = ds} document h) k =
      let sum : own + (others + more) ≡ own + others + more = omega arith in
      subst (λ n. Marked limit n (m ∷ (ms ++ ns)) (d ∷ (ds ++ es))) sum (one_mark document (marked_join h k))

  marked_long : {limit held : ℕ} {ms : List Mark} {ds : List bare.Document} → Marked limit held ms ds → length ms ≡ length ds
  marked_long no_mark = refl
  marked_long (one_mark d h) = ap suc (marked_long h)

  -- how many operators have come
  pub count_is : {limit held : ℕ} {ms : List Mark} {waiting : List bare.Document} (ds : List Document) → Marked limit held ms waiting → length (so_far ds waiting) ≡ length ds + length ms
  count_is {ms = ms} {waiting = waiting} ds h = length-append (map document_of ds) waiting ∙ ap (λ n. n + length waiting) (length-map ds document_of) ∙ ap (λ n. length ds + n) (sym (marked_long h))

  -- the bodies after a newline
  pub record PrintedDocuments (limit held : ℕ) (ms : List Mark) (i n k : ℕ) (closed : Bool) (pending : List Mark) (ds : List Document) (documents : List bare.Document) (rest : List ℕ) : Type 0 where
    pub at : ℕ
    pub count : ℕ
    pub bodies : List Document
    pub reads : ReadsDocuments limit b ms (place i n k closed pending ds) (place at count k closed pending bodies)
    pub behind : drop at b ≡ rest
    pub inside : at ≤ length b
    pub kept : map document_of bodies ≡ map document_of ds ++ documents
    pub total : count ≡ n + held

  before_end : (i : ℕ) (c : ℕ) (cs : List ℕ) → drop i b ≡ c ∷ cs → nat_lt i (length b) ≡ true
  before_end i c cs e =
      let long : length b - i ≡ suc (length cs) = sym (length-drop i b) ∙ ap length e in
      grind (arith, nat_tests)

  past_byte : (i : ℕ) (c : ℕ) (cs : List ℕ) → drop i b ≡ c ∷ cs → i + 1 ≤ length b
  past_byte i c cs e =
      let long : length b - i ≡ suc (length cs) = sym (length-drop i b) ∙ ap length e in
      omega arith

  documents_print : (limit : ℕ) {held : ℕ} {ms : List Mark} {documents : List bare.Document} → Marked limit held ms documents → (i n k : ℕ) (closed : Bool) (pending : List Mark) (ds : List Document) (rest : List ℕ)
      → i ≤ length b → drop i b ≡ flat_map document_text documents ++ rest → PrintedDocuments limit held ms i n k closed pending ds documents rest
  unfolding keeps_document
  documents_print limit no_mark i n k closed pending ds rest inside e =
      record { at = i; count = n; bodies = ds; reads = r.no_body; behind = e; inside = inside; kept = sym (append-nil (map document_of ds)); total = (let e : n ≡ n + 0 = omega arith in e) }
  documents_print limit {ms = m ∷ ms} {documents = d ∷ documents} (one_mark printable marked) i n k closed pending ds rest inside e =
      let later = flat_map document_text documents ++ rest in
      let e1 : drop i b ≡ d.body ++ (d.end ++ 10 ∷ later) =
      e ∙ append_assoc (document_text d) (flat_map document_text documents) rest ∙ append_assoc d.body (d.end ++ 10 ∷ []) later ∙ ap (λ t. d.body ++ t) (append_assoc d.end (10 ∷ []) later) in
      let copied = printable.copied in
      let l = span (i + length d.body) (i + length d.body + length d.end) in
      let e2 : drop (i + length d.body) b ≡ d.end ++ 10 ∷ later = off b i d.body (d.end ++ 10 ∷ later) e1 in
      let e3 : drop l.end b ≡ 10 ∷ later = off b (i + length d.body) d.end (10 ∷ later) e2 in
      let read = copied.is_read b later i n e1 in
      let line : behind_line b l.end ≡ l.end + 1 = cond-true _ _ _ (before_end l.end 10 later e3) in
      let one : Document = record { text = tree.word i l.start read.1; end = l } in
      let here : document_of one ≡ d = ap (λ t. record { body = t; end = text_of b l }) (text_there b i d.body (d.end ++ 10 ∷ later) e1)
      ∙ ap (λ t. record { body = d.body; end = t }) (text_there b (i + length d.body) d.end (10 ∷ later) e2) in
      let p = documents_print limit marked (l.end + 1) read.0.count k closed pending (ds ++ one ∷ []) rest (past_byte l.end 10 later e3) (one_off b l.end e3) in
      record {
        at = p.at;
        count = p.count;
        bodies = p.bodies;
        reads = r.more_bodies (copied.ends b later i e1) (copied.is_unambiguous b later i e1) refl read.2 read.3
            (subst (λ j. ReadsDocuments limit b ms (place j read.0.count k closed pending (ds ++ one ∷ [])) (place p.at p.count k closed pending p.bodies)) (sym line) p.reads);
        behind = p.behind;
        inside = p.inside;
        kept = p.kept ∙ ap (λ t. t ++ documents) (map-append document_of ds (one ∷ [])) ∙ append_assoc (map document_of ds) (document_of one ∷ []) documents
            ∙ ap (λ x. map document_of ds ++ x ∷ documents) here;
        total = (let all = p.total in let own = read.4 in omega arith);
      }

  nothing_behind : (i : ℕ) → i ≤ length b → drop i b ≡ [] → blanks false b i ≡ length b
  unfolding blanks blank_length gap_length is_first
  nothing_behind i inside e =
      let none : blank_length false (drop i b) ≡ 0 = ap (blank_length false) e in
      let long : length b - i ≡ 0 = sym (length-drop i b) ∙ ap length e in
      omega arith

  -- a printed newline, the here-documents that waited, and the token after them
  pub record PrintedBreak (limit held i n k : ℕ) (closed : Bool) (ms : List Mark) (ds : List Document) (waiting : List bare.Document) (rest : List ℕ) : Type 0 where
    pub at : ℕ
    pub count : ℕ
    pub bodies : List Document
    pub reads : ReadsBreaks limit b (place i n k closed ms ds) (place at count k closed [] bodies)
    pub behind : drop at b ≡ front rest
    pub kept : so_far bodies [] ≡ so_far ds waiting
    pub to_end : rest ≡ [] → at ≡ length b
    pub total : count ≡ n + held

  pub break_print : (limit i n k : ℕ) (closed : Bool) (ms : List Mark) (ds : List Document) (waiting : List bare.Document) (rest : List ℕ) {held : ℕ} → Marked limit held ms waiting
      → drop i b ≡ line_end waiting ++ rest → is_newline_lead (lead_at (front rest) First 0) ≡ false → PrintedBreak limit held i n k closed ms ds waiting rest
  break_print limit i n k closed ms ds waiting rest marked e straight =
      let p = documents_print limit marked (i + 1) n k closed [] ds rest (past_byte i 10 (flat_map document_text waiting ++ rest) e) (one_off b i e) in
      let behind = fronted b p.at rest p.behind in
      record {
        at = blanks false b p.at;
        count = p.count;
        bodies = p.bodies;
        reads = r.more_breaks (ap is_newline_lead (lead_there b First i _ e ∙ newline_leads First (flat_map document_text waiting ++ rest))) refl p.reads
            (r.no_break (ap is_newline_lead (lead_there b First (blanks false b p.at) (front rest) behind) ∙ straight));
        behind = behind;
        kept = append-nil (map document_of p.bodies) ∙ p.kept;
        to_end = λ last. nothing_behind p.at p.inside (p.behind ∙ last);
        total = p.total;
      }
