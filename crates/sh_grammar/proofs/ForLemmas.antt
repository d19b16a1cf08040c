-- `for`, its words and what separates them from `do`.
use Rattle.std.proofs.Common.{◌≡◌, ℕ, ◌+◌, ◌<◌, ◌≤◌, ◌⊎◌, inl, inr, true, false, List, [], ◌∷◌, ◌++◌, codes, Option, Some, None, refl, sym, ap, subst, ◌∙◌, arith}
use Rattle.std.proofs.lemmas.Bool.{true≢false}
use Rattle.sh_tree.specs.declared.token.command.Stage.TheVariants.{First, Named}
use Rattle.sh_tree.specs.declared.token.command.Lead.{Lead}
use Rattle.sh_tree.specs.declared.token.command.Lead.TheVariants as lead
use Rattle.sh_tree.specs.declared.token.command.Operator.TheVariants as op
use Rattle.sh_tree.specs.declared.token.command.Reserved.TheVariants as word
use Rattle.sh_tree.specs.declared.tree.Word.{Word}
use Rattle.sh_tree.specs.declared.tree.Script.{Script}
use Rattle.sh_tree.specs.declared.tree.Kind.{Kind}
use Rattle.sh_tree.specs.declared.tree.Kind.TheVariants as kind
use Rattle.sh_tree.specs.declared.refusal.Refusal.{Refusal}
use Rattle.sh_tree.specs.standard.language.Commands.{lead_at, is_word, is_newline_lead, separator, is_bare_name, name_end}
use Rattle.sh_tree.specs.standard.language.Contexts.{in_word, in_stage}
use Rattle.sh_tree.specs.standard.language.Reading as r
use Rattle.sh_tree.specs.standard.language.Reading.{ReadsWord, ReadsWords, ReadsForWords, ReadsBreaks, ReadsDo, ReadsCompound, lead_here, lead_of, skip, parted, behind_token, behind_name}
use Rattle.sh_tree.specs.standard.language.States as states
use Rattle.sh_tree.specs.standard.language.States.{Spot, Document, facing, past, waits, lower, as_deep}
use Rattle.sh_tree.specs.standard.language.Trees.{span}
use Rattle.sh_tree.proofs.Inversions.{no_breaks, word_is}
use Rattle.sh_tree.proofs.Counts.{words_count, breaks_count, do_count}
use Rattle.sh_reads.proofs.BeginningLemmas.{word_goes}
use Rattle.sh_reads.proofs.GapLemmas.{settled_gap}
use Rattle.sh_grammar.specs.Breaks.{BreaksTo, BreaksFrom}
use Rattle.sh_grammar.specs.declared.state.State.{State}
use Rattle.sh_grammar.specs.States.{here, moved, Stands}
use Rattle.sh_grammar.specs.Fors.{WordsFrom, ListedFrom, ForWordsFrom, for_named}
use Rattle.sh_grammar.specs.Modes.{Begins}
use Rattle.sh_grammar.specs.Phrases.{behind_reserved, entered, DoFrom}
use Rattle.sh_grammar.specs.Readers.{One, Nothing, Refused, WordAt, CompoundFrom, unread}
use Rattle.sh_grammar.proofs.ListLemmas.{parted_count}
use Rattle.sh_grammar.proofs.ReaderLemmas.{refused_by, Behind, nothing_yet, one_more, all_found, refused_behind}

-- Words

-- where a word begins, its context does not end
pub word_begins : (b : List ℕ) (s : State) → is_word (lead_at b (Named false) s.at) ≡ true → Stands b s → Begins b (in_word s.at) s.at s
unfolding in_stage
word_begins b s some stands = word_goes b (Named false) s.at (word_is _ some) (settled_gap s.joins b s.at stands.settled)

words_end : {limit : ℕ} {b : List ℕ} {s v : states.State} {ws : List Word} → is_word (lead_of b (Named false) s) ≡ false → ReadsWords limit b s v ws → (v ≡ s) × (ws ≡ [])
words_end none (r.no_word h) = (refl, refl)
words_end none (r.more_words h w l) = absurd (true≢false (sym h ∙ none))

words_first : {limit : ℕ} {b : List ℕ} {s v : states.State} {ws : List Word} → is_word (lead_of b (Named false) s) ≡ true → ReadsWords limit b s v ws
    → (u : Spot) × (w : Word) × (others : List Word) × (ws ≡ w ∷ others) × ReadsWord limit b (in_word s.spot.at) (facing s) u w × ReadsWords limit b (past b u s) v others
words_first some (r.no_word h) = absurd (true≢false (sym some ∙ h))
words_first some (r.more_words {u = u} {w = w} {ws = others} h read l) = (u, w, others, refl, read, l)

pub record WordsFound (b : List ℕ) (s : State) (found : List Word) (v : State) : Type 0 where
  pub behind : Behind (WordsFrom b) s found v

pub words_none : (b : List ℕ) (s : State) → WordsFound b s [] s
words_none b s = record { behind = nothing_yet (WordsFrom b) s }

module _ (b : List ℕ) (s v : State) (found : List Word) (h : WordsFound b s found v) where
  pub words_more : (x : Word) (w : State) → is_word (lead_at b (Named false) v.at) ≡ true → One (WordAt b (in_word v.at) v.at v) (here w) x → WordsFound b s (found ++ x ∷ []) w
  unfolding waits
  words_more x w some one = record {
    behind = one_more (WordsFrom b) s v w found x h.behind (record {
      forth = λ limit k ws l.
          let f = words_first {s = here v} some l in
          let o = one.only limit (past b f.0 (here v)) f.1 (f.0, f.4, refl) in
          (f.2, f.3 ∙ ap (λ y. y ∷ f.2) o.1, subst (λ u. ReadsWords limit b u k f.2) o.0 f.5);
      back = λ k ws l.
          let t = one.reads in
          r.more_words {s = here v} {u = t.0} some t.1 (subst (λ u. ReadsWords 64 b u k ws) t.2 l);
    });
  }

  pub words_refused : (e : Refusal) → is_word (lead_at b (Named false) v.at) ≡ true → Refused b (WordAt b (in_word v.at) v.at v) e → Refused b (WordsFrom b s) e
  unfolding waits
  words_refused e some none =
      refused_behind (WordsFrom b) b s v found e h.behind (refused_by b (WordAt b (in_word v.at) v.at v) (WordsFrom b v) e (λ limit k ws l.
      let f = words_first {s = here v} some l in
      (past b f.0 (here v), f.1, (f.0, f.4, refl), words_count f.5)) none)

  pub words_all : is_word (lead_at b (Named false) v.at) ≡ false → One (WordsFrom b s) (here v) found
  words_all none = all_found (WordsFrom b) s v found (here v) h.behind
      (record { reads = r.no_word {s = here v} none; only = λ limit k ws l. words_end {s = here v} none l })

-- Words and what ends them

module _ (b : List ℕ) (s : State) where
  pub listed_refused : (e : Refusal) → Refused b (WordsFrom b s) e → Refused b (ListedFrom b s) e
  listed_refused e h = refused_by b (WordsFrom b s) (ListedFrom b s) e
      (λ limit v ws l.
      let same = parted_count b l.0 in
      let more = breaks_count l.3 in
      (l.0, ws, l.1, omega arith)) h

  module _ (ws : List Word) (u : State) (one : One (WordsFrom b s) (here u) ws) where
    pub listed_unended : (separator (lead_at b First u.at) ≡ Some false → ⊥) → Nothing (ListedFrom b s)
    listed_unended none limit v xs l = let o = one.only limit l.0 xs l.1 in none (sym (ap (λ w. separator (lead_here b w)) o.0) ∙ l.2)

    pub listed_stopped : separator (lead_at b First u.at) ≡ Some false → (p : State) → here p ≡ parted b (here u) → (e : Refusal) → Refused b (BreaksFrom b p) e → Refused b (ListedFrom b s) e
    listed_stopped ends p at e none = refused_by b (BreaksFrom b p) (ListedFrom b s) e
        (λ limit w xs l.
        let o = one.only limit l.0 xs l.1 in
        (w, tt, subst (λ x. ReadsBreaks limit b x w) (ap (λ x. parted b x) o.0 ∙ sym at) l.3, omega arith)) none

    pub listed_read : separator (lead_at b First u.at) ≡ Some false → (p v : State) → here p ≡ parted b (here u) → BreaksTo b p v → One (ListedFrom b s) (here v) ws
    listed_read ends p v at breaks = record {
      reads = (here u, one.reads, ends, subst (λ w. ReadsBreaks 64 b w (here v)) at (breaks.back));
      only = λ limit w xs l.
          let o = one.only limit l.0 xs l.1 in
          (breaks.forth limit w (subst (λ x. ReadsBreaks limit b x w) (ap (λ x. parted b x) o.0 ∙ sym at) l.3), o.1);
    }

-- What is between the name and `do`

ended_of : {limit : ℕ} {b : List ℕ} {s u : states.State} {o : Option (List Word)} → lead_here b s ≡ lead.Operator op.Semicolon → ReadsForWords limit b s u o
    → (o ≡ None) × ReadsBreaks limit b (skip b 1 s) u
ended_of is (r.arguments_ended h k) = (refl, k)
ended_of {b = b} is (r.arguments k h) =
    let same = ap (λ w. lead_here b w) (no_breaks (ap is_newline_lead is) k) in
    let no : lead.Operator op.Semicolon ≡ lead.Reserved word.Do = sym is ∙ sym same ∙ h in
    cc
ended_of {b = b} is (r.listed k h ws e l) =
    let same = ap (λ w. lead_here b w) (no_breaks (ap is_newline_lead is) k) in
    let no : lead.Operator op.Semicolon ≡ lead.Reserved word.In = sym is ∙ sym same ∙ h in
    cc

-- where there is no `;`, and the newlines end at w
abbrev WordsOf : ℕ → List ℕ → states.State → states.State → Option (List Word) → Type 0
WordsOf limit b w u o =
    ((lead_here b w ≡ lead.Reserved word.Do) × (o ≡ None) × (u ≡ w))
    ⊎ ((lead_here b w ≡ lead.Reserved word.In) × (ws : List Word) × (o ≡ Some ws) × (v : states.State) × ReadsWords limit b (behind_token b (codes "in") w) v ws
    × (separator (lead_here b v) ≡ Some false) × ReadsBreaks limit b (parted b v) u)

words_of : {limit : ℕ} {b : List ℕ} {s u : states.State} {o : Option (List Word)} → (lead_here b s ≡ lead.Operator op.Semicolon → ⊥) → ReadsForWords limit b s u o
    → (w : states.State) × ReadsBreaks limit b s w × WordsOf limit b w u o
words_of none (r.arguments_ended h k) = absurd (none h)
words_of none (r.arguments {u = u} k h) = (u, k, inl (h, refl, refl))
words_of none (r.listed {u = u} {v = v} {ws = ws} k h words e l) = (u, k, inr (h, ws, refl, v, words, e, l))

words_of_count : {limit : ℕ} {b : List ℕ} {w u : states.State} {o : Option (List Word)} → WordsOf limit b w u o → w.spot.count ≤ u.spot.count
words_of_count (inl f) = let same = ap (λ z. z.spot.count) f.2 in omega arith
words_of_count {b = b} (inr f) = let first = words_count f.4 in let same = parted_count b f.3 in let second = breaks_count f.6 in omega arith

module _ (b : List ℕ) (s : State) where
  pub arguments_ended : lead_at b First s.at ≡ lead.Operator op.Semicolon → (w : State) → BreaksTo b (moved b (s.at + 1) s) w → One (ForWordsFrom b s) (here w) None
  arguments_ended is w breaks = record {
    reads = r.arguments_ended {s = here s} is (breaks.back);
    only = λ limit u o l. let f = ended_of {s = here s} is l in (breaks.forth limit u f.1, f.0);
  }

  pub arguments_stopped : lead_at b First s.at ≡ lead.Operator op.Semicolon → (e : Refusal) → Refused b (BreaksFrom b (moved b (s.at + 1) s)) e → Refused b (ForWordsFrom b s) e
  arguments_stopped is e none = refused_by b (BreaksFrom b (moved b (s.at + 1) s)) (ForWordsFrom b s) e
      (λ limit u o l. let f = ended_of {s = here s} is l in (u, tt, f.1, omega arith)) none

  pub for_words_stopped : (lead_at b First s.at ≡ lead.Operator op.Semicolon → ⊥) → (e : Refusal) → Refused b (BreaksFrom b s) e → Refused b (ForWordsFrom b s) e
  for_words_stopped other e none = refused_by b (BreaksFrom b s) (ForWordsFrom b s) e
      (λ limit u o l. let f = words_of {s = here s} other l in (f.0, tt, f.1, words_of_count f.2)) none

  module _ (none : lead_at b First s.at ≡ lead.Operator op.Semicolon → ⊥) (w : State) (breaks : BreaksTo b s w) where
    for_words_of : {limit : ℕ} {u : states.State} {o : Option (List Word)} → ReadsForWords limit b (here s) u o → WordsOf limit b (here w) u o
    for_words_of {limit = limit} {u = u} {o = o} l = let f = words_of {s = here s} none l in subst (λ x. WordsOf limit b x u o) (breaks.forth limit f.0 f.1) f.2

    pub arguments_read : lead_at b First w.at ≡ lead.Reserved word.Do → One (ForWordsFrom b s) (here w) None
    arguments_read is = record {
      reads = r.arguments {s = here s} (breaks.back) is;
      only = λ limit u o l. elim (for_words_of l) [
        | inl f ↦ (f.2, f.1)
        | inr f ↦ let no : lead.Reserved word.Do ≡ lead.Reserved word.In = sym is ∙ f.0 in absurd cc
      ];
    }

    pub for_words_none : (lead_at b First w.at ≡ lead.Reserved word.Do → ⊥) → (lead_at b First w.at ≡ lead.Reserved word.In → ⊥) → Nothing (ForWordsFrom b s)
    for_words_none bare listed limit u o l = elim (for_words_of l) [ inl f ↦ bare f.0 | inr f ↦ listed f.0 ]

    module _ (is : lead_at b First w.at ≡ lead.Reserved word.In) where
      listed_of : {limit : ℕ} {u : states.State} {o : Option (List Word)} → ReadsForWords limit b (here s) u o
          → (ws : List Word) × (o ≡ Some ws) × ListedFrom b (behind_reserved b word.In w) limit u ws
      listed_of l = elim (for_words_of l) [
        | inl f ↦ let no : lead.Reserved word.In ≡ lead.Reserved word.Do = sym is ∙ f.0 in absurd cc
        | inr f ↦ (f.1, f.2, (f.3, f.4, f.5, f.6))
      ]

      pub for_words_refused : (e : Refusal) → Refused b (ListedFrom b (behind_reserved b word.In w)) e → Refused b (ForWordsFrom b s) e
      for_words_refused e h = refused_by b (ListedFrom b (behind_reserved b word.In w)) (ForWordsFrom b s) e
          (λ limit u o l. let f = listed_of l in (u, f.0, f.2, omega arith)) h

      pub for_words_read : (ws : List Word) (v : State) → One (ListedFrom b (behind_reserved b word.In w)) (here v) ws → One (ForWordsFrom b s) (here v) (Some ws)
      for_words_read ws v one = record {
        reads = let l = one.reads in r.listed {s = here s} (breaks.back) is l.1 l.2 l.3;
        only = λ limit u o l.
            let f = listed_of l in
            let x = one.only limit u f.0 f.2 in
            (x.0, f.1 ∙ ap Some x.1);
      }

-- Loops

abbrev ForOf : ℕ → List ℕ → (ℕ → Document) → states.State → states.State → Kind → Type 0
ForOf limit b body s v k =
    (u w : states.State) × (o : Option (List Word)) × (t : Script) × (is_bare_name b (behind_token b (codes "for") s).spot.at ≡ true)
    × ReadsForWords limit b (behind_name b (lower (behind_token b (codes "for") s))) u o × ReadsDo limit b body u w t × (v ≡ as_deep s w)
    × (k ≡ kind.For (span (behind_token b (codes "for") s).spot.at (name_end b (behind_token b (codes "for") s).spot.at)) o t)

for_of : {limit : ℕ} {b : List ℕ} {body : ℕ → Document} {s v : states.State} {k : Kind} (l : Lead) → l ≡ lead.Reserved word.For → ReadsCompound limit b body l s v k
    → ForOf limit b body s v k
for_of l is (r.group d h e) = cc
for_of l is (r.subshell d h e) = cc
for_of l is (r.cond d h) = cc
for_of l is (r.while_loop d h g) = cc
for_of l is (r.until_loop d h g) = cc
for_of l is (r.for_loop {u = u} {v = w} {o = o} {t = t} d n h g) = (u, w, o, t, n, h, g, refl, refl)
for_of l is (r.case_of d i w h k g c) = cc

-- the name of the `for` at s
abbrev pub for_name : List ℕ → State → ℕ
for_name b s = (entered b word.For s).at

module _ (b : List ℕ) (s : State) where
  pub for_unnamed : is_bare_name b (for_name b s) ≡ false → Nothing (CompoundFrom b (lead.Reserved word.For) s)
  for_unnamed none limit v k l = let f = for_of {s = here s} _ refl l in true≢false (sym f.4 ∙ none)

  pub for_refused : (e : Refusal) → Refused b (ForWordsFrom b (for_named b s)) e → Refused b (CompoundFrom b (lead.Reserved word.For) s) e
  for_refused e h = refused_by b (ForWordsFrom b (for_named b s)) (CompoundFrom b (lead.Reserved word.For) s) e
      (λ limit v k l.
      let f = for_of {s = here s} _ refl l in
      let more = do_count f.6 in
      let same = ap (λ z. z.spot.count) f.7 in
      (f.0, f.2, f.5, omega arith)) h

  module _ (o : Option (List Word)) (u : State) (one : One (ForWordsFrom b (for_named b s)) (here u) o) where
    pub for_body_refused : (e : Refusal) → Refused b (DoFrom b u) e → Refused b (CompoundFrom b (lead.Reserved word.For) s) e
    for_body_refused e h = refused_by b (DoFrom b u) (CompoundFrom b (lead.Reserved word.For) s) e
        (λ limit v k l.
        let f = for_of {s = here s} _ refl l in
        let x = one.only limit f.0 f.2 f.5 in
        let same = ap (λ z. z.spot.count) f.7 in
        (f.1, f.3, subst (λ z. ReadsDo limit b unread z f.1 f.3) x.0 f.6, omega arith)) h

    pub for_read : s.depth < 64 → is_bare_name b (for_name b s) ≡ true → (t : Script) (v : State) → One (DoFrom b u) (here v) t
        → One (CompoundFrom b (lead.Reserved word.For) s) (as_deep (here s) (here v)) (kind.For (span (for_name b s) (name_end b (for_name b s))) o t)
    for_read below some t v done = record {
      reads = r.for_loop {s = here s} below some one.reads done.reads;
      only = λ limit w k l.
          let f = for_of {s = here s} _ refl l in
          let x = one.only limit f.0 f.2 f.5 in
          let y = done.only limit f.1 f.3 (subst (λ z. ReadsDo limit b unread z f.1 f.3) x.0 f.6) in
          let name = span (for_name b s) (name_end b (for_name b s)) in
          (f.7 ∙ ap (λ z. as_deep (here s) z) y.0, f.8 ∙ ap (λ z. kind.For name z f.3) x.1 ∙ ap (λ z. kind.For name o z) y.1);
    }
