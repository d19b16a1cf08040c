-- Redirections, by their operators.
use Rattle.std.proofs.Common.{◌≡◌, ℕ, Bool, ◌<◌, ◌≤◌, true, false, List, [], ◌∷◌, ◌++◌, length, Some, None, refl, sym, ap, subst, ◌∙◌, le_refl}
use Rattle.std.proofs.lemmas.Bool.{true≢false}
use Rattle.std.proofs.lemmas.List.{map-append}
use Rattle.sh_tree.specs.declared.limits.TheConstants.{MAX_NESTING}
use Rattle.sh_tree.specs.declared.token.command.Stage.TheVariants.{Named}
use Rattle.sh_tree.specs.declared.token.command.Redirection.{Redirection}
use Rattle.sh_tree.specs.declared.tree.Direction.{Direction}
use Rattle.sh_tree.specs.declared.tree.Word.{Word}
use Rattle.sh_tree.specs.declared.tree.Redirect.{Redirect}
use Rattle.sh_tree.specs.declared.tree.Target.TheVariants.{File, Here}
use Rattle.sh_tree.specs.declared.refusal.Refusal.{Refusal}
use Rattle.sh_tree.specs.declared.token.command.Operator.{Operator}
use Rattle.sh_tree.specs.declared.token.command.Operator.TheVariants as op
use Rattle.sh_tree.specs.standard.language.Commands.{blanks, lead_at, redirection, direction_of, strip_of, is_redirection, is_word}
use Rattle.sh_tree.specs.standard.language.Contexts.{in_unsplit}
use Rattle.sh_tree.specs.standard.language.Reading as r
use Rattle.sh_tree.specs.standard.language.Reading.{ReadsWord, ReadsRedirect, ReadsRedirects, lead_of}
use Rattle.sh_tree.specs.standard.language.States as states
use Rattle.sh_tree.specs.standard.language.States.{Spot, Document, document_count, facing, next, no_document, nth, past, waits, with_mark}
use Rattle.sh_tree.specs.standard.language.Trees as tree
use Rattle.sh_tree.specs.standard.language.HereDocuments as documents
use Rattle.sh_tree.specs.standard.language.HereDocuments.{is_delimiter, delimiter_of}
use Rattle.sh_tree.specs.standard.language.Parts.{is_quoted_word}
use Rattle.sh_tree.proofs.Inversions.{some_one, word_is, word_parts, redirects_end, redirects_first}
use Rattle.sh_tree.proofs.Counts.{redirects_count}
use Rattle.sh_reads.proofs.BeginningLemmas.{word_takes}
use Rattle.sh_reads.proofs.GapLemmas.{blanks_gap}
use Rattle.sh_grammar.specs.declared.state.State.{State}
use Rattle.sh_grammar.specs.declared.mark.Mark.{Mark}
use Rattle.sh_grammar.specs.States.{AreBefore, Stands, here}
use Rattle.sh_grammar.specs.Delimiters.{DelimiterIn}
use Rattle.sh_grammar.specs.Marks.{mark_of}
use Rattle.sh_grammar.specs.Targets.{TargetFrom}
use Rattle.sh_grammar.specs.Readers.{One, Nothing, Refused, WordAt, RedirectFrom, RedirectsFrom, unread}
use Rattle.sh_grammar.proofs.ReaderLemmas.{refused_by, Behind, nothing_yet, one_more, all_found, refused_behind}

not_both : (o : Operator) (d : Direction) → direction_of o ≡ Some d → strip_of o ≡ None
unfolding direction_of strip_of
not_both op.HereDoc d h = cc
not_both op.HereDocTabs d h = cc
not_both _ d h = refl

-- a redirection of a file, if the operator has a direction
abbrev FileOf : ℕ → List ℕ → states.State → states.State → Redirection → Direction → Redirect → Type 0
FileOf limit b s v at d q =
    (u : Spot) × (w : Word) × (v ≡ past b u s) × (q ≡ tree.redirect at.at at.number (File d w)) × (is_word (lead_of b (Named false) (next b at.end s)) ≡ true)
    × ReadsWord limit b (in_unsplit (next b at.end s).spot.at) (facing (next b at.end s)) u w

file_is : {limit : ℕ} {b : List ℕ} {body : ℕ → Document} {s v : states.State} {q : Redirect} (at : Redirection) (d : Direction) → redirection b s.spot.at ≡ Some at
    → direction_of at.operator ≡ Some d → ReadsRedirect limit b body s v q → FileOf limit b s v at d q
file_is {limit = limit} {b = b} {s = s} at d is file (r.file {u = u} {r = f} {d = e} {w = w} h o l read) =
    let same : f ≡ at = some_one (sym h ∙ is) in
    let direction : e ≡ d = some_one (sym o ∙ ap (λ p. direction_of p.operator) same ∙ file) in
    let Is = λ (p : Redirection). is_word (lead_of b (Named false) (next b p.end s)) ≡ true in (
      u,
      w,
      refl,
      ap (λ p. tree.redirect p.at p.number (File e w)) same ∙ ap (λ x. tree.redirect at.at at.number (File x w)) direction,
      subst Is same l,
      subst (λ p. ReadsWord limit b (in_unsplit (next b p.end s).spot.at) (facing (next b p.end s)) u w) same read,
    )
file_is at d is file (r.here_document {r = f} {strip = strip} h o l read k) =
    let same : f ≡ at = some_one (sym h ∙ is) in
    let e : Some strip ≡ None = sym o ∙ ap (λ p. strip_of p.operator) same ∙ not_both at.operator d file in
    cc

begins_redirect : {limit : ℕ} {b : List ℕ} {body : ℕ → Document} {s v : states.State} {q : Redirect} → ReadsRedirect limit b body s v q
    → (at : Redirection) × (redirection b s.spot.at ≡ Some at)
begins_redirect (r.file {r = f} h o l read) = (f, h)
begins_redirect (r.here_document {r = f} h o l read k) = (f, h)

pub no_redirect : (b : List ℕ) (s : State) → redirection b s.at ≡ None → Nothing (RedirectFrom b s)
no_redirect b s none limit v q l = let f = begins_redirect l in let no : Some f.0 ≡ None = sym f.1 ∙ none in cc

-- the word after the operator
abbrev TargetOf : ℕ → List ℕ → states.State → Redirection → Spot → Word → Type 0
TargetOf limit b s at u w =
    (is_word (lead_of b (Named false) (next b at.end s)) ≡ true) × ReadsWord limit b (in_unsplit (next b at.end s).spot.at) (facing (next b at.end s)) u w

-- each redirection has one, and ends after it
target_of : {limit : ℕ} {b : List ℕ} {body : ℕ → Document} {s v : states.State} {q : Redirect} (at : Redirection) → redirection b s.spot.at ≡ Some at
    → ReadsRedirect limit b body s v q → (u : Spot) × (w : Word) × TargetOf limit b s at u w × (v.spot.count ≡ u.count)
target_of {limit = limit} {b = b} {s = s} at is (r.file {u = u} {r = f} {w = w} h o l read) =
    (u, w, subst (λ p. TargetOf limit b s p u w) (some_one (sym h ∙ is)) (l, read), refl)
target_of {limit = limit} {b = b} {s = s} at is (r.here_document {u = u} {r = f} {w = w} h o l read k) =
    (u, w, subst (λ p. TargetOf limit b s p u w) (some_one (sym h ∙ is)) (l, read), refl)

no_direction : (o : Operator) (strip : Bool) → strip_of o ≡ Some strip → direction_of o ≡ None
unfolding direction_of strip_of
no_direction op.HereDoc strip h = refl
no_direction op.HereDocTabs strip h = refl
no_direction _ strip h = cc

-- the here-document of the word, at s
abbrev marked : List ℕ → Bool → Word → states.State → documents.Mark
marked b strip w s = record { strip = strip; quoted = is_quoted_word w; delimiter = delimiter_of b w; depth = s.spot.depth }

-- a here-document, if the operator is one
abbrev DocumentOf : ℕ → List ℕ → (ℕ → Document) → states.State → states.State → Redirection → Bool → Redirect → Type 0
DocumentOf limit b body s v at strip q =
    (u : Spot) × (w : Word) × TargetOf limit b s at u w × (is_delimiter b w ≡ true) × (v ≡ with_mark (marked b strip w s) (past b u s))
    × (q ≡ tree.redirect at.at at.number (Here (tree.here_doc strip w (body (document_count s)).text (body (document_count s)).end)))

document_is : {limit : ℕ} {b : List ℕ} {body : ℕ → Document} {s v : states.State} {q : Redirect} (at : Redirection) (strip : Bool) → redirection b s.spot.at ≡ Some at
    → strip_of at.operator ≡ Some strip → ReadsRedirect limit b body s v q → DocumentOf limit b body s v at strip q
document_is at strip is way (r.file {r = f} {d = e} h o l read) =
    let none : Some e ≡ None = sym o ∙ ap (λ p. direction_of p.operator) (some_one (sym h ∙ is)) ∙ no_direction at.operator strip way in
    cc
document_is {limit = limit} {b = b} {body = body} {s = s} at strip is way (r.here_document {u = u} {r = f} {strip = g} {w = w} h o l read k) =
    let same : f ≡ at = some_one (sym h ∙ is) in
    let stripped : g ≡ strip = some_one (sym o ∙ ap (λ p. strip_of p.operator) same ∙ way) in
    let document = λ (x : Bool). Here (tree.here_doc x w (body (document_count s)).text (body (document_count s)).end) in (
      u,
      w,
      subst (λ p. TargetOf limit b s p u w) same (l, read),
      k,
      ap (λ x. with_mark (marked b x w s) (past b u s)) stripped,
      ap (λ p. tree.redirect p.at p.number (document g)) same ∙ ap (λ x. tree.redirect at.at at.number (document x)) stripped,
    )

-- The word after an operator that ends at i

module _ (b : List ℕ) (i : ℕ) (s : State) where
  pub target_none : is_word (lead_at b (Named false) (blanks s.joins b i)) ≡ false → Nothing (TargetFrom b i s)
  target_none none limit v w l = true≢false (sym l.0 ∙ none)

  pub target_refused : (e : Refusal) → Refused b (WordAt b (in_unsplit (blanks s.joins b i)) (blanks s.joins b i) s) e → Refused b (TargetFrom b i s) e
  target_refused e h = refused_by b (WordAt b (in_unsplit (blanks s.joins b i)) (blanks s.joins b i) s) (TargetFrom b i s) e (λ limit v w l. (v, w, l.1, le_refl v.spot.count)) h

  pub target_read : (w : Word) (v : State) → is_word (lead_at b (Named false) (blanks s.joins b i)) ≡ true
      → One (WordAt b (in_unsplit (blanks s.joins b i)) (blanks s.joins b i) s) (here v) w → One (TargetFrom b i s) (here v) w
  target_read w v word h = record { reads = (word, h.reads); only = λ limit k y l. h.only limit k y l.1 }

  pub target_begins : (w : Word) (v : states.State) (limit : ℕ) → TargetFrom b i s limit v w → w.span.start < length b
  target_begins w v limit l =
      let j = blanks s.joins b i in
      let parts = word_parts l.1.1 in
      let inside = (word_takes b (Named false) j (word_is (lead_at b (Named false) j) l.0) (blanks_gap s.joins b i)).0 in
      subst (λ (x : Word). x.span.start < length b) (sym parts.1) inside

-- Redirections by their operators

module _ (b : List ℕ) (s : State) (at : Redirection) (is : redirection b s.at ≡ Some at) where
  pub redirect_refused : (e : Refusal) → Refused b (TargetFrom b at.end s) e → Refused b (RedirectFrom b s) e
  unfolding waits
  redirect_refused e h = refused_by b (TargetFrom b at.end s) (RedirectFrom b s) e
      (λ limit v q l.
      let t = target_of {s = here s} at is l in
      (past b t.0 (here s), t.1, (t.2.0, (t.0, t.2.1, refl)), subst (λ n. t.0.count ≤ n) (sym t.3) (le_refl t.0.count))) h

  pub redirect_read : (d : Direction) (w : Word) (v : State) → direction_of at.operator ≡ Some d → One (TargetFrom b at.end s) (here v) w
      → One (RedirectFrom b s) (here v) (tree.redirect at.at at.number (File d w))
  unfolding waits
  redirect_read d w v file h = record {
    reads =
        let t = h.reads in
        subst (λ k. ReadsRedirect 64 b unread (here s) k (tree.redirect at.at at.number (File d w))) (sym t.1.2) (r.file {s = here s} {u = t.1.0} is file t.0 t.1.1);
    only = λ limit k q l.
        let f = file_is {s = here s} at d is file l in
        let o = h.only limit k f.1 (f.4, (f.0, f.5, f.2)) in
        (o.0, f.3 ∙ ap (λ y. tree.redirect at.at at.number (File d y)) o.1);
  }

  -- an operator of neither
  pub redirect_neither : direction_of at.operator ≡ None → strip_of at.operator ≡ None → Nothing (RedirectFrom b s)
  redirect_neither none other limit k q l = neither l
    where
      neither : {limit : ℕ} {body : ℕ → Document} {v : states.State} {q : Redirect} → ReadsRedirect limit b body (here s) v q → ⊥
      neither (r.file {r = f} {d = e} h o l read) =
          let wrong : Some e ≡ None = sym o ∙ ap (λ p. direction_of p.operator) (some_one (sym h ∙ is)) ∙ none in
          cc
      neither (r.here_document {r = f} {strip = g} h o l read k) =
          let wrong : Some g ≡ None = sym o ∙ ap (λ p. strip_of p.operator) (some_one (sym h ∙ is)) ∙ other in
          cc

  module _ (strip : Bool) (way : strip_of at.operator ≡ Some strip) (w : Word) (v : State) (h : One (TargetFrom b at.end s) (here v) w) where
    -- its word is no delimiter
    pub document_refused : (e : Refusal) → Refused b (DelimiterIn b w) e → Refused b (RedirectFrom b s) e
    unfolding waits
    document_refused e none = refused_by b (DelimiterIn b w) (RedirectFrom b s) e
        (λ limit k q l.
        let t = document_is {s = here s} at strip is way l in
        let o = h.only limit (past b t.0 (here s)) t.1 (t.2.0, (t.0, t.2.1, refl)) in
        (k, tt, subst (λ y. is_delimiter b y ≡ true) o.1 t.3, le_refl k.spot.count)) none

    pub document_read : (m : Mark) → is_delimiter b w ≡ true → mark_of m ≡ marked b strip w (here s)
        → One (RedirectFrom b s) (here (record v { pending = v.pending ++ m ∷ [] })) (tree.redirect at.at at.number (Here (tree.here_doc strip w no_document.text no_document.end)))
    unfolding waits nth
    document_read m word is_mark =
        let q = tree.redirect at.at at.number (Here (tree.here_doc strip w no_document.text no_document.end)) in
        let end : here (record v { pending = v.pending ++ m ∷ [] }) ≡ with_mark (marked b strip w (here s)) (here v) =
        ap (λ ms. record (here v) { pending = ms }) (map-append mark_of v.pending (m ∷ [])) ∙ ap (λ n. with_mark n (here v)) is_mark in
        record {
          reads =
              let t = h.reads in
              let there : here (record v { pending = v.pending ++ m ∷ [] }) ≡ with_mark (marked b strip w (here s)) (past b t.1.0 (here s)) =
              end ∙ ap (λ x. with_mark (marked b strip w (here s)) x) t.1.2 in
              subst (λ k. ReadsRedirect 64 b unread (here s) k q) (sym there) (r.here_document {s = here s} {u = t.1.0} is way t.0 t.1.1 word);
          only = λ limit k p l.
              let t = document_is {s = here s} at strip is way l in
              let o = h.only limit (past b t.0 (here s)) t.1 (t.2.0, (t.0, t.2.1, refl)) in (
                t.4 ∙ ap (λ x. with_mark (marked b strip x (here s)) (past b t.0 (here s))) o.1 ∙ ap (λ x. with_mark (marked b strip w (here s)) x) o.0 ∙ sym end,
                t.5 ∙ ap (λ x. tree.redirect at.at at.number (Here (tree.here_doc strip x no_document.text no_document.end))) o.1,
              );
        }

-- one more waits
one_more_before : (i : ℕ) (ms : List Mark) (m : Mark) → AreBefore i ms → m.at < i → m.depth ≤ MAX_NESTING → AreBefore i (ms ++ m ∷ [])
one_more_before i [] m all before shallow = (before, tt, shallow)
one_more_before i (n ∷ ms) m all before shallow = (all.0, one_more_before i ms m all.1 before shallow, all.2)

pub awaiting_stands : (b : List ℕ) (v : State) (m : Mark) → Stands b v → m.at < v.at → m.depth ≤ MAX_NESTING → Stands b (record v { pending = v.pending ++ m ∷ [] })
awaiting_stands b v m h before shallow = record {
  inside = h.inside;
  settled = h.settled;
  few = h.few;
  shallow = h.shallow;
  around = h.around;
  behind = one_more_before v.at v.pending m h.behind before shallow;
}

-- Redirections after a compound command

pub record RedirectsFound (b : List ℕ) (s : State) (found : List Redirect) (v : State) : Type 0 where
  pub behind : Behind (RedirectsFrom b) s found v

pub redirects_none : (b : List ℕ) (s : State) → RedirectsFound b s [] s
redirects_none b s = record { behind = nothing_yet (RedirectsFrom b) s }

module _ (b : List ℕ) (s v : State) (found : List Redirect) (h : RedirectsFound b s found v) where
  pub redirects_more : (q : Redirect) (w : State) → is_redirection (lead_at b (Named false) v.at) ≡ true → One (RedirectFrom b v) (here w) q
      → RedirectsFound b s (found ++ q ∷ []) w
  redirects_more q w some one = record {
    behind = one_more (RedirectsFrom b) s v w found q h.behind (record {
      forth = λ limit k qs l.
          let f = redirects_first {s = here v} some l in
          let o = one.only limit f.0 f.1 f.4 in
          (f.2, f.3 ∙ ap (λ x. x ∷ f.2) o.1, subst (λ u. ReadsRedirects limit b unread u k f.2) o.0 f.5);
      back = λ k qs l. r.more_redirects {s = here v} some one.reads l;
    });
  }

  pub redirects_refused : (e : Refusal) → is_redirection (lead_at b (Named false) v.at) ≡ true → Refused b (RedirectFrom b v) e → Refused b (RedirectsFrom b s) e
  redirects_refused e some none =
      refused_behind (RedirectsFrom b) b s v found e h.behind (refused_by b (RedirectFrom b v) (RedirectsFrom b v) e (λ limit k qs l.
      let f = redirects_first {s = here v} some l in
      (f.0, f.1, f.4, redirects_count f.5)) none)

  pub redirects_all : is_redirection (lead_at b (Named false) v.at) ≡ false → One (RedirectsFrom b s) (here v) found
  redirects_all none = all_found (RedirectsFrom b) s v found (here v) h.behind
      (record { reads = r.no_redirect {s = here v} none; only = λ limit k qs l. redirects_end {s = here v} none l })
