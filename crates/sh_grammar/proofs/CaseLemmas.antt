-- `case`, its patterns and its clauses.
use Rattle.std.proofs.Common.{◌≡◌, ℕ, ◌+◌, ◌<◌, ◌≤◌, ◌⊎◌, inl, inr, true, false, List, [], ◌∷◌, ◌++◌, codes, Some, None, refl, sym, ap, subst, ◌∙◌, arith}
use Rattle.std.proofs.lemmas.Bool.{cond-true, cond-false, false_from_ne_true, true≢false}
use Rattle.sh_tree.specs.declared.token.command.Stage.TheVariants.{First, Named}
use Rattle.sh_tree.specs.declared.token.command.Lead.{Lead}
use Rattle.sh_tree.specs.declared.token.command.Lead.TheVariants as lead
use Rattle.sh_tree.specs.declared.token.command.Operator.TheVariants as op
use Rattle.sh_tree.specs.declared.token.command.Reserved.TheVariants as word
use Rattle.sh_tree.specs.declared.tree.Word.{Word}
use Rattle.sh_tree.specs.declared.tree.Script.{Script}
use Rattle.sh_tree.specs.declared.tree.Clause.{Clause}
use Rattle.sh_tree.specs.declared.tree.ClauseEnd.{ClauseEnd}
use Rattle.sh_tree.specs.declared.tree.ClauseEnd.TheVariants.{Break}
use Rattle.sh_tree.specs.declared.tree.Kind.{Kind}
use Rattle.sh_tree.specs.declared.tree.Kind.TheVariants as kind
use Rattle.sh_tree.specs.declared.refusal.Refusal.{Refusal}
use Rattle.sh_tree.specs.standard.language.Commands.{lead_at, is_word, is_open, is_esac, clause_end_of}
use Rattle.sh_tree.specs.standard.language.Contexts.{in_unsplit}
use Rattle.sh_tree.specs.standard.language.Reading as r
use Rattle.sh_tree.specs.standard.language.Reading.{ReadsWord, ReadsPatterns, ReadsSequence, ReadsBreaks, ReadsClauses, ReadsCompound, lead_here, lead_of, skip, unopened, behind_token}
use Rattle.sh_tree.specs.standard.language.States as states
use Rattle.sh_tree.specs.standard.language.States.{Spot, Document, facing, past, waits, lower, as_deep}
use Rattle.sh_tree.specs.standard.language.Trees.{clause}
use Rattle.sh_tree.proofs.Counts.{patterns_count, sequence_count, breaks_count, clauses_count}
use Rattle.sh_grammar.specs.Breaks.{BreaksTo, BreaksFrom}
use Rattle.sh_grammar.specs.Cases.{UnsplitFrom, PatternsFrom, ReadsClause, ClauseFrom, ClausesFrom, ReadsClauseTail}
use Rattle.sh_grammar.specs.declared.state.State.{State}
use Rattle.sh_grammar.specs.States.{here, moved}
use Rattle.sh_grammar.specs.Phrases.{behind_reserved, entered}
use Rattle.sh_grammar.specs.Readers.{One, Nothing, Refused, WordAt, SequenceFrom, CompoundFrom, unread}
use Rattle.sh_grammar.proofs.ReaderLemmas.{refused_by, Behind, nothing_yet, one_more, found_with, all_found, refused_behind}

-- Words that are not split

module _ (b : List ℕ) (s : State) where
  pub unsplit_none : is_word (lead_at b (Named false) s.at) ≡ false → Nothing (UnsplitFrom b s)
  unsplit_none none limit v w l = true≢false (sym l.0 ∙ none)

  pub unsplit_refused : (e : Refusal) → Refused b (WordAt b (in_unsplit s.at) s.at s) e → Refused b (UnsplitFrom b s) e
  unsplit_refused e h = refused_by b (WordAt b (in_unsplit s.at) s.at s) (UnsplitFrom b s) e (λ limit v w l. (v, w, l.1, omega arith)) h

  pub unsplit_read : is_word (lead_at b (Named false) s.at) ≡ true → (w : Word) (v : State) → One (WordAt b (in_unsplit s.at) s.at s) (here v) w
      → One (UnsplitFrom b s) (here v) w
  unsplit_read some w v one = record { reads = (some, one.reads); only = λ limit k x l. one.only limit k x l.1 }

-- Patterns

-- what follows a pattern that ends at u
abbrev BehindPattern : ℕ → List ℕ → states.State → states.State → List Word → Type 0
BehindPattern limit b u v ws =
    ((lead_of b (Named false) u ≡ lead.Operator op.RightParenthesis) × (v ≡ u) × (ws ≡ []))
    ⊎ ((lead_of b (Named false) u ≡ lead.Operator op.Bar) × ReadsPatterns limit b (skip b 1 u) v ws)

patterns_are : {limit : ℕ} {b : List ℕ} {s v : states.State} {ws : List Word} → ReadsPatterns limit b s v ws
    → (u : Spot) × (w : Word) × (others : List Word) × (ws ≡ w ∷ others) × (is_word (lead_of b (Named false) s) ≡ true)
    × ReadsWord limit b (in_unsplit s.spot.at) (facing s) u w × (u.count ≤ v.spot.count) × BehindPattern limit b (past b u s) v others
patterns_are (r.last_pattern {u = u} {w = w} h read e) = (u, w, [], refl, h, read, omega arith, inl (e, refl, refl))
patterns_are (r.more_patterns {u = u} {w = w} {ws = others} h read e l) =
    let more = patterns_count l in
    (u, w, others, refl, h, read, omega arith, inr (e, l))

pub record PatternsFound (b : List ℕ) (s : State) (found : List Word) (v : State) : Type 0 where
  pub behind : Behind (PatternsFrom b) s found v

pub patterns_none : (b : List ℕ) (s : State) → PatternsFound b s [] s
patterns_none b s = record { behind = nothing_yet (PatternsFrom b) s }

-- the word that comes first, up to its end, and what follows it
abbrev FirstPattern : ℕ → List ℕ → State → states.State → List Word → Type 0
FirstPattern limit b s v ws =
    (t u : states.State) × (w : Word) × (others : List Word) × (ws ≡ w ∷ others) × UnsplitFrom b s limit t w × (t.spot.count ≤ v.spot.count)
    × BehindPattern limit b t u others × (v ≡ skip b 1 u)

first_pattern : {limit : ℕ} {b : List ℕ} {v : states.State} {ws : List Word} (s : State) → PatternsFrom b s limit v ws
    → FirstPattern limit b s v ws
unfolding waits
first_pattern {b = b} s l =
    let f = patterns_are l.1 in
    let same = ap (λ z. z.spot.count) l.2 in
    (past b f.0 (here s), l.0, f.1, f.2, f.3, (f.4, (f.0, f.5, refl)), omega arith, f.7, l.2)

module _ (b : List ℕ) (s next : State) (found : List Word) (h : PatternsFound b s found next) where
  pub patterns_refused : (e : Refusal) → Refused b (UnsplitFrom b next) e → Refused b (PatternsFrom b s) e
  patterns_refused e none =
      refused_behind (PatternsFrom b) b s next found e h.behind
      (refused_by b (UnsplitFrom b next) (PatternsFrom b next) e (λ limit k ws l. let f = first_pattern next l in (f.0, f.2, f.5, f.6)) none)

  module _ (w : Word) (u : State) (one : One (UnsplitFrom b next) (here u) w) where
    -- what follows the pattern that was read
    pattern_here : {limit : ℕ} {k : states.State} {ws : List Word} → PatternsFrom b next limit k ws
        → (v : states.State) × (others : List Word) × (ws ≡ w ∷ others) × BehindPattern limit b (here u) v others × (k ≡ skip b 1 v)
    pattern_here {limit = limit} l =
        let f = first_pattern next l in
        let o = one.only limit f.0 f.2 f.5 in
        (f.1, f.3, f.4 ∙ ap (λ x. x ∷ f.3) o.1, subst (λ x. BehindPattern limit b x f.1 f.3) o.0 f.7, f.8)

    pub patterns_wrong : (lead_at b (Named false) u.at ≡ lead.Operator op.RightParenthesis → ⊥) → (lead_at b (Named false) u.at ≡ lead.Operator op.Bar → ⊥)
        → Nothing (PatternsFrom b s)
    patterns_wrong close bar limit k ws l =
        let t = h.behind.forth limit k ws l in
        let f = pattern_here t.2 in
        elim f.3 [ inl e ↦ close e.0 | inr m ↦ bar m.0 ]

    pub patterns_last : lead_at b (Named false) u.at ≡ lead.Operator op.RightParenthesis → One (PatternsFrom b s) (here (moved b (u.at + 1) u)) (found ++ w ∷ [])
    unfolding waits
    patterns_last close = found_with (PatternsFrom b) s next found (w ∷ []) (here (moved b (u.at + 1) u)) h.behind (record {
      reads =
          let t = one.reads in
          let x = t.1 in (
            here u,
            subst (λ z. ReadsPatterns 64 b (here next) z (w ∷ [])) (sym x.2) (r.last_pattern {s = here next} {u = x.0} t.0 x.1
                (ap (λ z. lead_of b (Named false) z) (sym x.2) ∙ close)),
            refl,
          );
      only = λ limit k ws l.
          let f = pattern_here l in
          elim f.3 [
            | inl e ↦ (f.4 ∙ ap (λ z. skip b 1 z) e.1, f.2 ∙ ap (λ z. w ∷ z) e.2)
            | inr m ↦ let no : lead.Operator op.RightParenthesis ≡ lead.Operator op.Bar = sym close ∙ m.0 in absurd cc
          ];
    })

    pub patterns_more : lead_at b (Named false) u.at ≡ lead.Operator op.Bar → PatternsFound b s (found ++ w ∷ []) (moved b (u.at + 1) u)
    unfolding waits
    patterns_more bar = record {
      behind = one_more (PatternsFrom b) s next (moved b (u.at + 1) u) found w h.behind (record {
        forth = λ limit k ws l.
            let f = pattern_here l in
            elim f.3 [
              | inl e ↦ let no : lead.Operator op.Bar ≡ lead.Operator op.RightParenthesis = sym bar ∙ e.0 in absurd cc
              | inr m ↦ (f.1, f.2, (f.0, m.1, f.4))
            ];
        back = λ k ws l.
            let t = one.reads in
            let x = t.1 in (
              l.0,
              r.more_patterns {s = here next} {u = x.0} t.0 x.1 (ap (λ z. lead_of b (Named false) z) (sym x.2) ∙ bar)
                  (subst (λ z. ReadsPatterns 64 b (skip b 1 z) l.0 ws) x.2 l.1),
              l.2,
            );
      });
    }

-- Clauses

open_is : (l : Lead) → is_open l ≡ true → l ≡ lead.Operator op.LeftParenthesis
open_is (lead.Operator op.LeftParenthesis) h = refl
open_is _ h = absurd (true≢false (sym h))

pub unopened_with : (b : List ℕ) (s : State) → lead_at b (Named false) s.at ≡ lead.Operator op.LeftParenthesis → here (moved b (s.at + 1) s) ≡ unopened b (here s)
unopened_with b s is = sym (cond-true _ _ _ (ap is_open is))

pub unopened_without : (b : List ℕ) (s : State) → (lead_at b (Named false) s.at ≡ lead.Operator op.LeftParenthesis → ⊥) → here s ≡ unopened b (here s)
unopened_without b s none = sym (cond-false _ _ _ (false_from_ne_true (is_open (lead_at b (Named false) s.at)) (λ some. none (open_is _ some))))

module _ (b : List ℕ) (s p : State) (at : here p ≡ unopened b (here s)) where
  pub clause_refused : (e : Refusal) → Refused b (PatternsFrom b p) e → Refused b (ClauseFrom b s) e
  clause_refused e h = refused_by b (PatternsFrom b p) (ClauseFrom b s) e
      (λ limit v c l.
      let more = sequence_count l.2 in
      (behind_token b (codes ")") l.0, c.0, (l.0, subst (λ z. ReadsPatterns limit b z l.0 c.0) (sym at) l.1, refl), more)) h

  module _ (ws : List Word) (u : State) (one : One (PatternsFrom b p) (here u) ws) where
    -- the list of the clause
    list_here : {limit : ℕ} {v : states.State} (c : List Word × Script) → ClauseFrom b s limit v c
        → (c.0 ≡ ws) × ReadsSequence limit b unread (here u) v c.1
    list_here {limit = limit} {v = v} c l =
        let o = one.only limit (behind_token b (codes ")") l.0) c.0 (l.0, subst (λ z. ReadsPatterns limit b z l.0 c.0) (sym at) l.1, refl) in
        (o.1, subst (λ z. ReadsSequence limit b unread z v c.1) o.0 l.2)

    pub clause_list_refused : (e : Refusal) → Refused b (SequenceFrom b u) e → Refused b (ClauseFrom b s) e
    clause_list_refused e h = refused_by b (SequenceFrom b u) (ClauseFrom b s) e
        (λ limit v c l. let f = list_here c l in (v, c.1, f.1, omega arith)) h

    pub clause_read : (t : Script) (v : State) → One (SequenceFrom b u) (here v) t → One (ClauseFrom b s) (here v) (ws, t)
    clause_read t v list = record {
      reads =
          let l = one.reads in
          (l.0, subst (λ z. ReadsPatterns 64 b z l.0 ws) at l.1, subst (λ z. ReadsSequence 64 b unread z (here v) t) l.2 list.reads);
      only = λ limit k c l.
          let f = list_here c l in
          let o = list.only limit k c.1 f.1 in
          (o.0, ap (λ x. (x, c.1)) f.0 ∙ ap (λ x. (ws, x)) o.1);
    }

esac_is : (l : Lead) → is_esac l ≡ true → l ≡ lead.Reserved word.Esac
esac_is (lead.Reserved word.Esac) h = refl
esac_is _ h = absurd (true≢false (sym h))

not_esac : (l : Lead) → (l ≡ lead.Reserved word.Esac → ⊥) → is_esac l ≡ false
not_esac l none = false_from_ne_true (is_esac l) (λ some. none (esac_is l some))

clauses_are : {limit : ℕ} {b : List ℕ} {body : ℕ → Document} {s v : states.State} {cs : List Clause} → (lead_here b s ≡ lead.Reserved word.Esac → ⊥)
    → ReadsClauses limit b body s v cs
    → (u : states.State) × (c : List Word × Script) × ReadsClause limit b body s u c × (u.spot.count ≤ v.spot.count) × ReadsClauseTail limit b body c u v cs
clauses_are none (r.esac h) = absurd (none h)
clauses_are none (r.last_clause {u = u} {v = v} {ws = ws} {t = t} h ps l e) = (v, (ws, t), (u, ps, l), omega arith, inl (e, refl, refl))
clauses_are none (r.more_clauses {u = u} {v = v} {w = w} {ws = ws} {t = t} {e = e} {cs = ds} h ps l i k cs) =
    let before = breaks_count k in
    let after = clauses_count cs in
    (v, (ws, t), (u, ps, l), omega arith, inr (e, w, ds, i, k, cs, refl))

ended_clauses : {limit : ℕ} {b : List ℕ} {body : ℕ → Document} {s v : states.State} {cs : List Clause} → lead_here b s ≡ lead.Reserved word.Esac
    → ReadsClauses limit b body s v cs → (v ≡ behind_token b (codes "esac") s) × (cs ≡ [])
ended_clauses is (r.esac h) = (refl, refl)
ended_clauses is (r.last_clause h ps l e) = absurd (true≢false (sym (ap is_esac is) ∙ h))
ended_clauses is (r.more_clauses h ps l i k cs) = absurd (true≢false (sym (ap is_esac is) ∙ h))

-- what ends a clause is no `esac`
not_both : (l : Lead) (e : ClauseEnd) → clause_end_of l ≡ Some e → l ≡ lead.Reserved word.Esac → ⊥
unfolding clause_end_of
not_both l e some is = let no : Some e ≡ None = sym some ∙ ap clause_end_of is in cc

some_end : {x y : ClauseEnd} → Some x ≡ Some y → x ≡ y
some_end e = cc

pub record ClausesFound (b : List ℕ) (s : State) (found : List Clause) (v : State) : Type 0 where
  pub behind : Behind (ClausesFrom b) s found v

pub clauses_none : (b : List ℕ) (s : State) → ClausesFound b s [] s
clauses_none b s = record { behind = nothing_yet (ClausesFrom b) s }

module _ (b : List ℕ) (s next : State) (found : List Clause) (h : ClausesFound b s found next) where
  pub clauses_all : lead_at b First next.at ≡ lead.Reserved word.Esac → One (ClausesFrom b s) (here (behind_reserved b word.Esac next)) found
  clauses_all is = all_found (ClausesFrom b) s next found (here (behind_reserved b word.Esac next)) h.behind
      (record { reads = r.esac {s = here next} is; only = λ limit k cs l. ended_clauses {s = here next} is l })

  module _ (some : lead_at b First next.at ≡ lead.Reserved word.Esac → ⊥) where
    pub clauses_refused : (e : Refusal) → Refused b (ClauseFrom b next) e → Refused b (ClausesFrom b s) e
    clauses_refused e none =
        refused_behind (ClausesFrom b) b s next found e h.behind
        (refused_by b (ClauseFrom b next) (ClausesFrom b next) e (λ limit k cs l. let f = clauses_are {s = here next} some l in (f.0, f.1, f.2, f.3)) none)

    module _ (ws : List Word) (t : Script) (u : State) (one : One (ClauseFrom b next) (here u) (ws, t)) where
      clause_tail : {limit : ℕ} {k : states.State} {cs : List Clause} → ReadsClauses limit b unread (here next) k cs
          → ReadsClauseTail limit b unread (ws, t) (here u) k cs
      clause_tail {limit = limit} {k = k} {cs = cs} l =
          let f = clauses_are {s = here next} some l in
          let o = one.only limit f.0 f.1 f.2 in
          subst (λ c. ReadsClauseTail limit b unread c (here u) k cs) o.1 (subst (λ z. ReadsClauseTail limit b unread f.1 z k cs) o.0 f.4)

      -- neither `esac` nor a mark follows the clause
      pub clauses_wrong : clause_end_of (lead_at b First u.at) ≡ None → (lead_at b First u.at ≡ lead.Reserved word.Esac → ⊥) → Nothing (ClausesFrom b s)
      clauses_wrong none last limit k cs l =
          let f = h.behind.forth limit k cs l in
          elim (clause_tail f.2) [
            | inl e ↦ last e.0
            | inr m ↦ let no : Some m.0 ≡ None = sym m.3 ∙ none in cc
          ]

      pub clauses_last : clause_end_of (lead_at b First u.at) ≡ None → lead_at b First u.at ≡ lead.Reserved word.Esac
          → One (ClausesFrom b s) (here (behind_reserved b word.Esac u)) (found ++ clause ws t Break ∷ [])
      clauses_last none last = found_with (ClausesFrom b) s next found (clause ws t Break ∷ []) (here (behind_reserved b word.Esac u)) h.behind (record {
        reads = let l = one.reads in r.last_clause {s = here next} (not_esac _ some) l.1 l.2 last;
        only = λ limit k cs l. elim (clause_tail l) [
          | inl e ↦ (e.1, e.2)
          | inr m ↦ let no : Some m.0 ≡ None = sym m.3 ∙ none in absurd cc
        ];
      })

      pub clauses_stopped : (i : ClauseEnd) → clause_end_of (lead_at b First u.at) ≡ Some i → (e : Refusal) → Refused b (BreaksFrom b (moved b (u.at + 2) u)) e
          → Refused b (ClausesFrom b s) e
      clauses_stopped i ends e none =
          refused_behind (ClausesFrom b) b s next found e h.behind
          (refused_by b (BreaksFrom b (moved b (u.at + 2) u)) (ClausesFrom b next) e (λ limit k cs l. elim (clause_tail l) [
            | inl last ↦ absurd (not_both _ i ends last.0)
            | inr m ↦ (m.1, tt, m.4, clauses_count m.5)
          ]) none)

      pub clauses_more : (e : ClauseEnd) → clause_end_of (lead_at b First u.at) ≡ Some e → (w : State) → BreaksTo b (moved b (u.at + 2) u) w
          → ClausesFound b s (found ++ clause ws t e ∷ []) w
      clauses_more e ends w breaks = record {
        behind = one_more (ClausesFrom b) s next w found (clause ws t e) h.behind (record {
          forth = λ limit k cs l. elim (clause_tail l) [
            | inl last ↦ absurd (not_both _ e ends last.0)
            | inr m ↦
                let same : m.0 ≡ e = some_end (sym m.3 ∙ ends) in
                (m.2, m.6 ∙ ap (λ x. clause ws t x ∷ m.2) same, subst (λ z. ReadsClauses limit b unread z k m.2) (breaks.forth limit m.1 m.4) m.5)
          ];
          back = λ k cs l. let c = one.reads in r.more_clauses {s = here next} {v = here u} (not_esac _ some) c.1 c.2 ends (breaks.back) l;
        });
      }

-- `case`

abbrev CaseOf : ℕ → List ℕ → (ℕ → Document) → states.State → states.State → Kind → Type 0
CaseOf limit b body s v k =
    (u : Spot) × (p q w : states.State) × (x : Word) × (cs : List Clause) × (is_word (lead_of b (Named false) (behind_token b (codes "case") s)) ≡ true)
    × ReadsWord limit b (in_unsplit (behind_token b (codes "case") s).spot.at) (facing (lower (behind_token b (codes "case") s))) u x
    × ReadsBreaks limit b (past b u (lower (behind_token b (codes "case") s))) p × (lead_here b p ≡ lead.Reserved word.In)
    × ReadsBreaks limit b (behind_token b (codes "in") p) q × ReadsClauses limit b body q w cs × (v ≡ as_deep s w) × (k ≡ kind.Branches x cs)

case_of : {limit : ℕ} {b : List ℕ} {body : ℕ → Document} {s v : states.State} {k : Kind} (l : Lead) → l ≡ lead.Reserved word.Case → ReadsCompound limit b body l s v k
    → CaseOf limit b body s v k
case_of l is (r.group d h e) = cc
case_of l is (r.subshell d h e) = cc
case_of l is (r.cond d h) = cc
case_of l is (r.while_loop d h g) = cc
case_of l is (r.until_loop d h g) = cc
case_of l is (r.for_loop d n h g) = cc
case_of l is (r.case_of {p = p} {q = q} {v = w} {u = u} {w = x} {cs = cs} d i h k e g c) = (u, p, q, w, x, cs, i, h, k, e, g, c, refl, refl)

-- the word, up to its end, and what follows it
abbrev CaseWord : ℕ → List ℕ → State → states.State → Kind → Type 0
CaseWord limit b s v k =
    (t p q w : states.State) × (x : Word) × (cs : List Clause) × UnsplitFrom b (entered b word.Case s) limit t x × ReadsBreaks limit b t p
    × (lead_here b p ≡ lead.Reserved word.In) × ReadsBreaks limit b (behind_token b (codes "in") p) q × ReadsClauses limit b unread q w cs
    × (v ≡ as_deep (here s) w) × (k ≡ kind.Branches x cs)

module _ (b : List ℕ) (s : State) where
  case_word : {limit : ℕ} {v : states.State} {k : Kind} → ReadsCompound limit b unread (lead.Reserved word.Case) (here s) v k
      → CaseWord limit b s v k
  unfolding waits
  case_word l =
      let f = case_of {s = here s} _ refl l in
      (past b f.0 (lower (behind_token b (codes "case") (here s))), f.1, f.2, f.3, f.4, f.5, (f.6, (f.0, f.7, refl)), f.8, f.9, f.10, f.11, f.12, f.13)

  pub case_word_refused : (e : Refusal) → Refused b (UnsplitFrom b (entered b word.Case s)) e → Refused b (CompoundFrom b (lead.Reserved word.Case) s) e
  case_word_refused e h = refused_by b (UnsplitFrom b (entered b word.Case s)) (CompoundFrom b (lead.Reserved word.Case) s) e
      (λ limit v k l.
      let f = case_word l in
      let first = breaks_count f.7 in
      let second = breaks_count f.9 in
      let third = clauses_count f.10 in
      let same = ap (λ z. z.spot.count) f.11 in
      (f.0, f.4, f.6, omega arith)) h

  pub case_stopped : (x : Word) (u : State) → One (UnsplitFrom b (entered b word.Case s)) (here u) x → (e : Refusal) → Refused b (BreaksFrom b u) e
      → Refused b (CompoundFrom b (lead.Reserved word.Case) s) e
  case_stopped x u one e none = refused_by b (BreaksFrom b u) (CompoundFrom b (lead.Reserved word.Case) s) e
      (λ limit v k l.
      let f = case_word l in
      let o = one.only limit f.0 f.4 f.6 in
      let second = breaks_count f.9 in
      let third = clauses_count f.10 in
      let same = ap (λ z. z.spot.count) f.11 in
      (f.1, tt, subst (λ z. ReadsBreaks limit b z f.1) o.0 f.7, omega arith)) none

  module _ (x : Word) (u : State) (one : One (UnsplitFrom b (entered b word.Case s)) (here u) x) (p : State) (first : BreaksTo b u p) where
    -- `in` follows the newlines, and then come newlines and the clauses
    case_here : {limit : ℕ} {v : states.State} {k : Kind} → ReadsCompound limit b unread (lead.Reserved word.Case) (here s) v k
        → (lead_at b First p.at ≡ lead.Reserved word.In) × (q w : states.State) × (cs : List Clause) × ReadsBreaks limit b (behind_token b (codes "in") (here p)) q
        × ReadsClauses limit b unread q w cs × (v ≡ as_deep (here s) w) × (k ≡ kind.Branches x cs)
    case_here {limit = limit} l =
        let f = case_word l in
        let o = one.only limit f.0 f.4 f.6 in
        let same : f.1 ≡ here p = first.forth limit f.1 (subst (λ z. ReadsBreaks limit b z f.1) o.0 f.7) in (
          sym (ap (λ z. lead_here b z) same) ∙ f.8,
          f.2,
          f.3,
          f.5,
          subst (λ z. ReadsBreaks limit b (behind_token b (codes "in") z) f.2) same f.9,
          f.10,
          f.11,
          f.12 ∙ ap (λ y. kind.Branches y f.5) o.1,
        )

    pub case_none : (lead_at b First p.at ≡ lead.Reserved word.In → ⊥) → Nothing (CompoundFrom b (lead.Reserved word.Case) s)
    case_none none limit v k l = let f = case_here l in none f.0

    pub case_in_stopped : (e : Refusal) → Refused b (BreaksFrom b (behind_reserved b word.In p)) e → Refused b (CompoundFrom b (lead.Reserved word.Case) s) e
    case_in_stopped e none = refused_by b (BreaksFrom b (behind_reserved b word.In p)) (CompoundFrom b (lead.Reserved word.Case) s) e
        (λ limit v k l.
        let f = case_here l in
        let third = clauses_count f.5 in
        let same = ap (λ z. z.spot.count) f.6 in
        (f.1, tt, f.4, omega arith)) none

    module _ (q : State) (second : BreaksTo b (behind_reserved b word.In p) q) where
      pub case_refused : (e : Refusal) → Refused b (ClausesFrom b q) e → Refused b (CompoundFrom b (lead.Reserved word.Case) s) e
      case_refused e h = refused_by b (ClausesFrom b q) (CompoundFrom b (lead.Reserved word.Case) s) e
          (λ limit v k l.
          let f = case_here l in
          let same = ap (λ z. z.spot.count) f.6 in
          (f.2, f.3, subst (λ z. ReadsClauses limit b unread z f.2 f.3) (second.forth limit f.1 f.4) f.5, omega arith)) h

      pub case_read : s.depth < 64 → lead_at b First p.at ≡ lead.Reserved word.In → (cs : List Clause) (v : State) → One (ClausesFrom b q) (here v) cs
          → One (CompoundFrom b (lead.Reserved word.Case) s) (as_deep (here s) (here v)) (kind.Branches x cs)
      unfolding waits
      case_read below is cs v clauses = record {
        reads =
            let t = one.reads in
            let y = t.1 in
            r.case_of {s = here s} {p = here p} {q = here q} {u = y.0} below t.0 y.1 (subst (λ z. ReadsBreaks 64 b z (here p)) y.2 (first.back)) is (second.back)
            clauses.reads;
        only = λ limit w k l.
            let f = case_here l in
            let o = clauses.only limit f.2 f.3 (subst (λ z. ReadsClauses limit b unread z f.2 f.3) (second.forth limit f.1 f.4) f.5) in
            (f.6 ∙ ap (λ z. as_deep (here s) z) o.0, f.7 ∙ ap (λ y. kind.Branches x y) o.1);
      }
