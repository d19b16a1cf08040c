-- Redirections, here-documents and newlines are read wherever their bytes are.
-- POSIX.1-2024, XCU 2.7 (redirection), 2.7.4 (here-document), 2.10 (shell grammar).
use Rattle.std.proofs.Common.{◌≡◌, ℕ, ◌+◌, ◌-◌, ◌<◌, ◌≤◌, Bool, true, false, not, ◌&&◌, ◌||◌, List, [], ◌∷◌, length, drop, take, inl, inr, refl, sym, ap, ◌∙◌, subst, arith, length-drop, length-take, ⊎_elim}
use Rattle.std.specs.List.{list_any}
use Rattle.std.proofs.lemmas.Bool.{true≢false}
use Rattle.sh_tree.specs.declared.tree.Redirect.{Redirect}
use Rattle.sh_tree.specs.declared.tree.Target.TheVariants.{File, Here}
use Rattle.sh_tree.specs.declared.tree.Word.{Word}
use Rattle.sh_tree.specs.declared.token.command.Stage.TheVariants.{First, Named}
use Rattle.sh_tree.specs.declared.token.word.Context.{Context}
use Rattle.sh_tree.specs.standard.Tree.{text_of}
use Rattle.sh_tree.specs.standard.Words.{parts_text}
use Rattle.sh_tree.specs.standard.language.Bytes.{is_newline, is_first}
use Rattle.sh_tree.specs.standard.language.Commands.{direction_of, strip_of, is_word, is_redirection, is_newline_lead}
use Rattle.sh_tree.specs.standard.language.Contexts.{in_unsplit, in_word}
use Rattle.sh_tree.specs.standard.language.HereDocuments.{Mark, is_static, or_none, is_dollar_quoted, is_delimiter, delimiter_of, behind_line}
use Rattle.sh_tree.specs.standard.language.Parts.{is_quoted_word, is_quotation}
use Rattle.sh_tree.specs.standard.language.Reading as r
use Rattle.sh_tree.specs.standard.language.Reading.{ReadsWord, ReadsRedirect, ReadsRedirects, ReadsDocuments, ReadsBreaks}
use Rattle.sh_tree.specs.standard.language.States.{Spot, State, Document, document_count, facing, in_document, next, past, with_mark, on_line}
use Rattle.sh_tree.specs.standard.language.Trees as tree
use Rattle.sh_tree.specs.standard.language.Trees.{span}
use Rattle.sh_reads.proofs.MoveLemmas.{blanks_move, redirection_moves, line_behind, end_line_moves}
use Rattle.sh_copies.proofs.Blanks.{is_number_sign}
use Rattle.sh_copies.proofs.CommandsDocuments.{end_same, ambiguity_same, document_same, body_moves}
use Rattle.sh_copies.proofs.CommandsReady.{by_test, redirects_sign, breaks_sign}
use Rattle.sh_copies.proofs.CommandsTokens.{Ahead, Ready, MovedState, turns_at, lead_of_same, redirection_same, moved_next, moved_past, moved_mark, moved_line, moved_document, moved_facing}
use Rattle.sh_copies.proofs.Copies.{Copied, Found, KeptWord, limit_of, WordsMove, PartsMove}
use Rattle.sh_copies.proofs.Forward.{next_forward, word_forward, redirect_forward, redirects_forward, documents_forward, breaks_forward}
use Rattle.sh_copies.proofs.Lines.{end_line_inside}
use Rattle.sh_copies.proofs.Places.{further}
use Rattle.sh_copies.proofs.WordsTokens.{same_text}

-- Delimiters

pub word_span : {limit : ℕ} {b : List ℕ} {x : Context} {s u : Spot} {w : Word} → ReadsWord limit b x s u w → w.span ≡ span s.at u.at
word_span (r.whole_word i h k) = refl

delimiter_same : (b b' : List ℕ) (w w' : Word) → KeptWord b b' w w' → text_of b' w'.span ≡ text_of b w.span → is_delimiter b' w' ≡ is_delimiter b w
unfolding is_delimiter
delimiter_same b b' w w' k e =
    ap (λ t. is_static t && not (list_any is_dollar_quoted w'.parts) && not (list_any is_newline (text_of b' w'.span))) k.text
    ∙ ap (λ t. is_static (parts_text b w.parts) && not t && not (list_any is_newline (text_of b' w'.span))) k.dollar_quotes
    ∙ ap (λ t. is_static (parts_text b w.parts) && not (list_any is_dollar_quoted w.parts) && not (list_any is_newline t)) e

abbrev mark_of : List ℕ → Bool → ℕ → Word → Mark
mark_of b strip depth w = record { strip = strip; quoted = is_quoted_word w; delimiter = delimiter_of b w; depth = depth }

mark_same : (b b' : List ℕ) (strip : Bool) (depth depth' : ℕ) (w w' : Word) → KeptWord b b' w w' → depth' ≡ depth → mark_of b' strip depth' w' ≡ mark_of b strip depth w
unfolding is_quoted_word delimiter_of
mark_same b b' strip depth depth' w w' k e =
    ap (λ t. record { strip = strip; quoted = t; delimiter = or_none (parts_text b' w'.parts); depth = depth' }) k.quotes
    ∙ ap (λ t. record { strip = strip; quoted = list_any is_quotation w.parts; delimiter = or_none t; depth = depth' }) k.text
    ∙ ap (λ t. record { strip = strip; quoted = list_any is_quotation w.parts; delimiter = or_none (parts_text b w.parts); depth = t }) e

not_quiet : (t t' : Bool) → (t' ≡ true → t ≡ true) → t ≡ false → t' ≡ false
not_quiet t true f h = absurd (true≢false (sym (f refl) ∙ h))
not_quiet t false f h = refl

module _ {limit n : ℕ} (words : WordsMove limit n) (parts : PartsMove limit n) {b b' : List ℕ} (c : Copied b b') (ahead : Ahead c) where
  -- the state after what is read at the copy, and for any bodies its tree
  pub record FoundState (u : State) {A : Type 0} (Reading : (ℕ → Document) → State → A → Type 0) : Type 0 where
    pub to : State
    pub moved : MovedState c ahead u to
    pub reads : (body : ℕ → Document) → (t : A) × Reading body to t

  -- what is ready at the end is ready where it begins
  pub before : (i j : ℕ) → (is_first is_number_sign (drop j b) ≡ false → is_first is_number_sign (drop i b) ≡ false) → Ready c ahead j → Ready c ahead i
  before i j f ready = ⊎_elim (λ same. inl same) (λ none. inr (f none)) ready

  pub unsplit_moves : {s s' : State} {u : Spot} {w : Word} → MovedState c ahead s s' → ReadsWord limit b (in_unsplit s.spot.at) (facing s) u w → u.at < s.spot.at + n → u.at ≤ limit_of c
      → Found c u (KeptWord b b' w) (λ u' w'. ReadsWord limit b' (in_unsplit s'.spot.at) (facing s') u' w')
  unsplit_moves {s} {s'} m w size within = words.word c {o' = s'.spot.at} (moved_facing c ahead m) (turns_at c m.spot.place (in_unsplit s.spot.at) refl) w size (omega arith)

  pub field_moves : {s s' : State} {u : Spot} {w : Word} → MovedState c ahead s s' → ReadsWord limit b (in_word s.spot.at) (facing s) u w → u.at < s.spot.at + n → u.at ≤ limit_of c
      → Found c u (KeptWord b b' w) (λ u' w'. ReadsWord limit b' (in_word s'.spot.at) (facing s') u' w')
  field_moves {s} {s'} m w size within = words.word c {o' = s'.spot.at} (moved_facing c ahead m) (turns_at c m.spot.place (in_word s.spot.at) refl) w size (omega arith)

  -- Redirections

  pub redirect_moves : {body : ℕ → Document} {s s' u : State} {y : Redirect} → MovedState c ahead s s' → ReadsRedirect limit b body s u y → u.spot.at < s.spot.at + n → u.spot.at ≤ limit_of c
      → Ready c ahead u.spot.at → FoundState u (λ body' u' y'. ReadsRedirect limit b' body' s' u' y')
  redirect_moves {s' = s'} m (r.file {s = s} {u = u} {r = o} {d = d} h k i w) size within ready =
      let first = redirection_moves b s.spot.at o h in
      let second = next_forward b o.end s in
      let third = word_forward w in
      let fourth = blanks_move s.spot.joins b u.at in
      let same = redirection_same c ahead m.spot.place (omega arith) h in
      let at_word = moved_next c ahead m same.end (omega arith) (inr (by_test b is_word (Named false) (next b o.end s) refl i)) in
      let found = unsplit_moves at_word w (omega arith) (omega arith) in
      record {
        to = past b' found.to s';
        moved = moved_past c ahead m found.moved within ready;
        reads = λ body'. (
          tree.redirect same.to.at same.to.number (File d found.tree),
          r.file same.is (ap direction_of same.operator ∙ k) (ap is_word (lead_of_same c ahead at_word (omega arith) (Named false)) ∙ i) found.reads,
        );
      }
  redirect_moves {s' = s'} m (r.here_document {s = s} {u = u} {r = o} {strip = strip} {w = w} h k i word d) size within ready =
      let first = redirection_moves b s.spot.at o h in
      let second = next_forward b o.end s in
      let third = word_forward word in
      let fourth = blanks_move s.spot.joins b u.at in
      let same = redirection_same c ahead m.spot.place (omega arith) h in
      let at_word = moved_next c ahead m same.end (omega arith) (inr (by_test b is_word (Named false) (next b o.end s) refl i)) in
      let found = unsplit_moves at_word word (omega arith) (omega arith) in
      let text : text_of b' found.tree.span ≡ text_of b w.span =
      ap (text_of b') (word_span found.reads) ∙ same_text c at_word.spot.place found.moved.place (omega arith) (omega arith) ∙ sym (ap (text_of b) (word_span word)) in
      let mark = mark_of b strip s.spot.depth w in
      let mark' = mark_of b' strip s'.spot.depth found.tree in
      let marks : mark' ≡ mark = mark_same b b' strip s.spot.depth s'.spot.depth w found.tree found.keeps m.spot.depth in
      record {
        to = with_mark mark' (past b' found.to s');
        moved =
            subst (λ z. MovedState c ahead (with_mark mark (past b u s)) (with_mark z (past b' found.to s'))) (sym marks) (moved_mark c ahead mark (moved_past c ahead m found.moved within ready));
        reads = λ body'. (
          tree.redirect same.to.at same.to.number (Here (tree.here_doc strip found.tree (body' (document_count s')).text (body' (document_count s')).end)),
          r.here_document same.is (ap strip_of same.operator ∙ k) (ap is_word (lead_of_same c ahead at_word (omega arith) (Named false)) ∙ i) found.reads
              (delimiter_same b b' w found.tree found.keeps text ∙ d),
        );
      }

  pub redirects_move : {body : ℕ → Document} {s s' u : State} {ys : List Redirect} → MovedState c ahead s s' → ReadsRedirects limit b body s u ys → u.spot.at < s.spot.at + n → u.spot.at ≤ limit_of c
      → Ready c ahead u.spot.at → FoundState u (λ body' u' ys'. ReadsRedirects limit b' body' s' u' ys')
  redirects_move {s' = s'} m (r.no_redirect h) size within ready =
      record { to = s'; moved = m; reads = λ body'. ([], r.no_redirect (ap is_redirection (lead_of_same c ahead m within (Named false)) ∙ h)) }
  redirects_move {s = s} m (r.more_redirects {u = u} h i j) size within ready =
      let first = redirect_forward i in
      let second = redirects_forward j in
      let one = redirect_moves m i (omega arith) (omega arith) (before _ _ (redirects_sign j) ready) in
      let rest = redirects_move one.moved j (omega arith) within ready in
      record {
        to = rest.to;
        moved = rest.moved;
        reads = λ body'.
            let y = one.reads body' in
            let ys = rest.reads body' in
            (y.0 ∷ ys.0, r.more_redirects (ap is_redirection (lead_of_same c ahead m (omega arith) (Named false)) ∙ h) y.1 ys.1);
      }

  -- Newlines and the bodies after them

  pub documents_move : {ms : List Mark} {s s' v : State} → MovedState c ahead s s' → ReadsDocuments limit b ms s v → v.spot.at < s.spot.at + n → v.spot.at ≤ limit_of c
      → (v' : State) × MovedState c ahead v v' × ReadsDocuments limit b' ms s' v'
  documents_move {s' = s'} m r.no_body size within = (s', m, r.no_body)
  documents_move {s' = s'} m (r.more_bodies {s = s} {u = u} {m = k} {l = l} {ps = ps} h a keeps reads lines ds) size within =
      let first = end_line_moves k b s.spot.at l h in
      let low = first.0 in
      let high = first.1 in
      let second = line_behind b l.end in
      let third = documents_forward ds in
      let end = end_same c ahead k m.spot.place h (omega arith) in
      let text = same_text c m.spot.place end.start (omega arith) (omega arith) in
      let inside = end_line_inside k b s.spot.at l h in
      let inside' = end_line_inside k b' s'.spot.at end.to end.is in
      let low' = (end_line_moves k b' s'.spot.at end.to end.is).0 in
      let v = text_of b (span s.spot.at l.start) in
      let long = length-take (l.start - s.spot.at) (drop s.spot.at b) in
      let left = length-drop s.spot.at b in
      let v_long : length v ≡ l.start - s.spot.at = omega arith in
      let at = m.spot.place.at in
      let at' = m.spot.place.at' in
      let start = end.start.at in
      let start' = end.start.at' in
      let same_long : end.to.start - s'.spot.at ≡ l.start - s.spot.at = omega arith in
      let found = body_moves parts b b' v k (in_document k s) (in_document k s') u l.start end.to.start ps (omega arith) (omega arith)
      (ap (λ z. take z (drop s.spot.at b)) v_long) (ap (λ z. take z (drop s'.spot.at b')) (v_long ∙ sym same_long) ∙ text)
      refl refl (ap (λ t. t || k.strip) m.spot.tabs) (λ q. absurd (true≢false (sym q))) (omega arith) (omega arith) (omega arith) reads lines in
      let d : Document = record { text = tree.word s.spot.at l.start ps; end = l } in
      let d' : Document = record { text = tree.word s'.spot.at end.to.start found.parts; end = end.to } in
      let rest = documents_move (moved_document c ahead d d' u found.u (let k = found.counts in let k' = m.spot.counts in omega arith) m end.behind) ds (omega arith) within in (
        rest.0,
        rest.1,
        r.more_bodies end.is (ambiguity_same k b b' s.spot.at s'.spot.at l end.to text (same_text c end.start end.end high (omega arith)) ∙ a)
            (document_same b b' s.spot.joins s'.spot.joins s.spot.tabs s'.spot.tabs k (span s.spot.at (behind_line b l.end)) (span s'.spot.at (behind_line b' end.to.end)) m.spot.joins m.spot.tabs
            (same_text c m.spot.place end.behind (omega arith) (omega arith))
            ∙ keeps)
            found.reads found.keeps rest.2,
      )

  pub breaks_move : {s s' v : State} → MovedState c ahead s s' → ReadsBreaks limit b s v → v.spot.at < s.spot.at + n → v.spot.at ≤ limit_of c → Ready c ahead v.spot.at
      → (v' : State) × MovedState c ahead v v' × ReadsBreaks limit b' s' v'
  breaks_move {s' = s'} m (r.no_break h) size within ready = (s', m, r.no_break (ap is_newline_lead (lead_of_same c ahead m within First) ∙ h))
  breaks_move {s' = s'} m (r.more_breaks {s = s} {u = u} h q ds k) size within ready =
      let first = documents_forward ds in
      let second = next_forward b u.spot.at u in
      let third = breaks_forward k in
      let docs = documents_move (moved_line c ahead m (further c 1 m.spot.place)) ds (omega arith) (omega arith) in
      let token = moved_next c ahead docs.1 docs.1.spot.place (omega arith) (before _ _ (breaks_sign k) ready) in
      let rest = breaks_move token k (omega arith) within ready in (
        rest.0,
        rest.1,
        r.more_breaks (ap is_newline_lead (lead_of_same c ahead m (omega arith) First) ∙ h) (not_quiet s.spot.quiet s'.spot.quiet m.spot.quiet q)
            (subst (λ ms. ReadsDocuments limit b' ms (on_line (s'.spot.at + 1) s') docs.0) (sym m.pending) docs.2) rest.2,
      )
