-- Newlines between commands, and what follows blanks.
use Rattle.std.proofs.Common.{◌≡◌, ℕ, Bool, suc, ◌+◌, ◌≤◌, true, false, not, List, [], ◌∷◌, length, drop, Some, None, Ok, refl, sym, ap, subst, ◌∙◌, ⊎_elim, le_refl, ◌<◌, arith}
use Rattle.std.proofs.lemmas.Bool.{true≢false, cases_Bool, cond-true, cond-false, eqb-true}
use Rattle.std.proofs.lemmas.List.{drop-drop}
use Rattle.std.proofs.lemmas.List.Sums.{take_while-cons}
use Rattle.sh_tree.specs.declared.token.command.Stage.TheVariants.{First}
use Rattle.sh_tree.specs.standard.language.Bytes.{is_newline, is_first}
use Rattle.sh_tree.specs.standard.language.Commands.{gap_length, comment_length, is_comment, blank_length, blanks, lead_at, is_newline_lead}
use Rattle.sh_tree.specs.standard.language.Reading.{ReadsBreaks, ReadsDocuments, is_some}
use Rattle.sh_tree.specs.standard.language.Reading as r
use Rattle.sh_tree.specs.standard.language.States as states
use Rattle.sh_tree.specs.standard.language.States.{next, on_line}
use Rattle.sh_tree.specs.declared.refusal.Form.TheVariants as form
use Rattle.sh_tree.specs.declared.refusal.Refusal.{Refusal}
use Rattle.sh_tree.specs.declared.refusal.Refusal.TheVariants.{LeftOut}
use Rattle.sh_tree.proofs.Inversions.{no_breaks, some_breaks}
use Rattle.sh_tree.proofs.Counts.{breaks_count}
use Rattle.sh_reads.proofs.GapLemmas.{gap_settles}
use Rattle.sh_grammar.specs.Documents.{DocumentsFrom, Passes}
use Rattle.sh_grammar.specs.Breaks.{BreaksTo, BreaksFrom, Line, LineFrom, LineTo}
use Rattle.sh_grammar.specs.declared.state.State.{State}
use Rattle.sh_grammar.specs.Readers.{Refused}
use Rattle.sh_grammar.specs.States.{AreBefore, IsBefore, Lies, here, moved, pending_of, Stands}
use Rattle.sh_grammar.specs.declared.mark.Mark.{Mark}
use Rattle.sh_grammar.proofs.ReaderLemmas.{refused_by}
use Rattle.sh_grammar.proofs.StateLemmas.{are_later, before_later}

-- After blanks there are none

no_blanks : (joins : Bool) (cs : List ℕ) → gap_length cs ≡ 0 → is_comment joins cs ≡ false → blank_length joins cs ≡ 0
unfolding blank_length
no_blanks joins cs gap comment = cond-false _ _ _ (ap (λ n. is_comment joins (drop n cs)) gap ∙ comment) ∙ gap

newline_settles : (joins : Bool) (c : ℕ) (cs : List ℕ) → is_newline c ≡ true → blank_length joins (c ∷ cs) ≡ 0
unfolding gap_length is_first
newline_settles joins c cs is = subst (λ v. blank_length joins (v ∷ cs) ≡ 0) (sym (eqb-true c 10 is)) (here cs)
  where
    here : (ds : List ℕ) → blank_length joins (10 ∷ ds) ≡ 0
    here [] = no_blanks joins (10 ∷ []) refl refl
    here (d ∷ ds) = no_blanks joins (10 ∷ d ∷ ds) refl refl

comment_settles : (joins : Bool) (cs : List ℕ) → blank_length joins (drop (comment_length cs) cs) ≡ 0
unfolding gap_length is_first
comment_settles joins [] = no_blanks joins [] refl refl
comment_settles joins (c ∷ cs) = ⊎_elim
    (λ line.
    let none : comment_length (c ∷ cs) ≡ 0 = ap length (take_while-cons (λ d. not (is_newline d)) c cs ∙ cond-false _ _ _ (ap not line)) in
    ap (λ n. blank_length joins (drop n (c ∷ cs))) none ∙ newline_settles joins c cs line)
    (λ other.
    let more : comment_length (c ∷ cs) ≡ suc (comment_length cs) = ap length (take_while-cons (λ d. not (is_newline d)) c cs ∙ cond-true _ _ _ (ap not other)) in
    ap (λ n. blank_length joins (drop n (c ∷ cs))) more ∙ comment_settles joins cs)
    (cases_Bool (is_newline c))

blank_length_settles : (joins : Bool) (cs : List ℕ) → blank_length joins (drop (blank_length joins cs) cs) ≡ 0
unfolding blank_length
blank_length_settles joins cs =
    let rest = drop (gap_length cs) cs in
    ⊎_elim
    (λ comment.
    let whole : blank_length joins cs ≡ gap_length cs + comment_length rest = cond-true _ _ _ comment in
    ap (λ n. blank_length joins (drop n cs)) whole ∙ ap (λ v. blank_length joins v) (sym (drop-drop (comment_length rest) (gap_length cs) cs)) ∙ comment_settles joins rest)
    (λ other.
    let whole : blank_length joins cs ≡ gap_length cs = cond-false _ _ _ other in
    ap (λ n. blank_length joins (drop n cs)) whole ∙ no_blanks joins rest (gap_settles cs) other)
    (cases_Bool (is_comment joins rest))

pub blanks_settle : (joins : Bool) (b : List ℕ) (i : ℕ) → blanks joins b (blanks joins b i) ≡ blanks joins b i
unfolding blanks
blanks_settle joins b i =
    let none = blank_length_settles joins (drop i b) in
    let same : blank_length joins (drop (i + blank_length joins (drop i b)) b) ≡ 0 =
    ap (λ cs. blank_length joins cs) (sym (drop-drop (blank_length joins (drop i b)) i b)) ∙ none in
    omega arith

-- One newline

module _ (b : List ℕ) where
  -- one here-document outside waits
  pub line_across : (s : State) (at : ℕ) → Some at ≡ s.outer → Stands b s → Refused b (LineFrom b s) (LeftOut form.HereAcross at)
  unfolding is_some
  line_across s at is stands = (
    subst (IsBefore (length b)) (sym is) (before_later s.at (length b) s.outer stands.inside stands.around),
    λ limit k y l. let quiet : is_some s.outer ≡ true = ap is_some (sym is) in true≢false (sym quiet ∙ l.1),
  )

  -- `first` is after the newline at s, and the bodies lead from there to v
  module _ (s first v : State) (out : None ≡ s.outer) (is : first ≡ record s { at = s.at + 1; pending = [] }) where
    -- where the line's bodies are read
    line_first : here first ≡ on_line (s.at + 1) (here s)
    line_first = ap here is

    pub line_refused : (e : Refusal) → Refused b (DocumentsFrom b s.pending first) e → Refused b (LineFrom b s) e
    line_refused e h = refused_by b (DocumentsFrom b s.pending first) (LineFrom b s) e
        (λ limit k y l. (l.0, tt, subst (λ x. ReadsDocuments limit b (pending_of s) x l.0) (sym line_first) l.2, same_count k l.0 l.3)) h
      where
        same_count : (k u : states.State) → k ≡ next b u.spot.at u → u.spot.count ≤ k.spot.count
        same_count k u e = subst (λ x. u.spot.count ≤ x.spot.count) (sym e) (le_refl u.spot.count)

    pub line_over : Passes b (DocumentsFrom b s.pending first) first.at v → (w : State) → w ≡ moved b v.at v → v.at ≤ w.at → Stands b w → Line b s (Ok w)
    unfolding is_some
    line_over h w there after stands = record {
      forth = λ limit u l.
          let same = h.forth limit l.0 (subst (λ x. ReadsDocuments limit b (pending_of s) x l.0) (sym line_first) l.2) in
          l.3 ∙ ap (λ x. next b x.spot.at x) same ∙ sym (ap here there);
      back = (here v, ap is_some (sym out), subst (λ x. ReadsDocuments 64 b (pending_of s) x (here v)) line_first h.back, ap here there);
      from = let from = h.from in let at : first.at ≡ s.at + 1 = ap (λ (x : State). x.at) is in omega arith;
      stands = stands;
    }

  -- the same breaks are left at v as at s
  pub record Skips (s v : State) : Type 0 where
    pub forth : (limit : ℕ) (u : states.State) → ReadsBreaks limit b (here s) u → ReadsBreaks limit b (here v) u
    pub back : (u : states.State) → ReadsBreaks 64 b (here v) u → ReadsBreaks 64 b (here s) u

  pub skips_none : (s : State) → Skips s s
  skips_none s = record { forth = λ limit u h. h; back = λ u h. h }

  module _ (s v : State) (skips : Skips s v) where
    pub skips_one : (w : State) → is_newline_lead (lead_at b First v.at) ≡ true → LineTo b v w → Skips s w
    skips_one w line to = record {
      forth = λ limit u h.
          let f = some_breaks {s = here v} line (skips.forth limit u h) in
          let same = to.forth limit (next b f.0.spot.at f.0) (f.0, f.1, f.2, refl) in
          subst (λ x. ReadsBreaks limit b x u) same f.3;
      back = λ u h. let t = to.back in skips.back u (r.more_breaks {s = here v} line t.1 t.2 (subst (λ x. ReadsBreaks 64 b x u) t.3 h));
    }

    pub skips_refused : (e : Refusal) → is_newline_lead (lead_at b First v.at) ≡ true → Refused b (LineFrom b v) e → Refused b (BreaksFrom b s) e
    skips_refused e line none = refused_by b (LineFrom b v) (BreaksFrom b s) e
        (λ limit k y h. let f = some_breaks {s = here v} line (skips.forth limit k h) in (next b f.0.spot.at f.0, tt, (f.0, f.1, f.2, refl), breaks_count f.3)) none

    pub skips_all : is_newline_lead (lead_at b First v.at) ≡ false → s.at ≤ v.at → Stands b v → BreaksTo b s v
    skips_all none from stands = record {
      forth = λ limit u h. no_breaks none (skips.forth limit u h);
      back = skips.back (here v) (r.no_break none);
      none = none;
      from = from;
      stands = stands;
    }

-- Where states are

pub settled_stands : (b : List ℕ) (j : ℕ) (s : State) → Lies b s → j ≡ blanks s.joins b s.at → s.at ≤ j → j ≤ length b
    → Stands b (record s { at = j; fresh = true })
settled_stands b j s stands is after inside = record {
  inside = inside;
  settled = ap (blanks s.joins b) is ∙ blanks_settle s.joins b s.at ∙ sym is;
  few = stands.few;
  shallow = stands.shallow;
  around = before_later s.at j s.outer after stands.around;
  behind = are_later s.at j s.pending after stands.behind;
}

-- the operators of a line are in the text
pub line_marks : (b : List ℕ) (s : State) (ms : List Mark) → Stands b s → ms ≡ s.pending → AreBefore (length b) ms
line_marks b s ms stands is = subst (AreBefore (length b)) (sym is) (are_later s.at (length b) s.pending stands.inside stands.behind)

-- after a newline
pub line_lies : (b : List ℕ) (s first : State) → Stands b s → s.at < length b → first ≡ record s { at = s.at + 1; pending = [] } → Lies b first
line_lies b s first stands below is = subst (Lies b) (sym is) (record {
  inside = omega arith;
  few = stands.few;
  shallow = stands.shallow;
  around = before_later s.at (s.at + 1) s.outer (omega arith) stands.around;
  behind = tt;
})
