-- The whole text.
use Rattle.std.proofs.Common.{◌≡◌, ℕ, ◌<◌, ◌≤◌, false, List, length, map, Some, None, Result, Ok, Err, refl, sym, ap, subst, ◌∙◌, arith}
use Rattle.std.proofs.lemmas.Bool.{true≢false}
use Rattle.sh_tree.specs.declared.refusal.Fault.TheVariants as fault
use Rattle.sh_tree.specs.declared.limits.TheConstants.{MAX_COMMANDS, MAX_NESTING, MAX_SCRIPT}
use Rattle.sh_tree.specs.declared.refusal.Refusal.{Refusal}
use Rattle.sh_tree.specs.declared.refusal.Refusal.TheVariants.{TooLong, NulByte, Syntax, LeftOut, TooDeep, TooMany, Memory}
use Rattle.sh_tree.specs.declared.tree.Script.{Script}
use Rattle.sh_tree.specs.Answers.{IsText, Parses, first_nul}
use Rattle.sh_tree.specs.standard.language.Commands.{blanks, lead_at}
use Rattle.sh_tree.specs.standard.language.Reading as r
use Rattle.sh_tree.specs.standard.language.Reading.{is_some, ReadsSequence, ReadsTo, Reads}
use Rattle.sh_tree.specs.standard.language.States as states
use Rattle.sh_tree.specs.standard.language.States.{Document, nth, waits}
use Rattle.sh_tree.proofs.Inversions.{apart}
use Rattle.sh_bodies.specs.Fill.{document_of, fill}
use Rattle.sh_bodies.proofs.ReadingLemmas.{bodies}
use Rattle.sh_grammar.specs.declared.state.State.{State}
use Rattle.sh_grammar.specs.States.{here, first_of, Stands, waiting}
use Rattle.sh_grammar.specs.Faults.{IsFault, TellsAt, Misplaced, TellsBehind, TellsLimit, TellsMisplaced, TellsPending, TellsWaiting, stage_at}
use Rattle.sh_grammar.specs.Readers.{One, Refused, SequenceFrom, unread}
use Rattle.sh_grammar.proofs.BodyLemmas.{level_of, sequence_with}
use Rattle.sh_grammar.proofs.FaultLemmas.{first_in, first_inside, tells_inside}
use Rattle.sh_grammar.proofs.ItemLemmas.{inside_lead}
use Rattle.sh_grammar.proofs.SubstitutionLemmas.{filled_once, filled_reads, none_waits, some_wait}
use Rattle.sh_grammar.proofs.BreakLemmas.{blanks_settle}
use Rattle.sh_grammar.proofs.Nul.{has_no_nul}

pub first_stands : (b : List ℕ) (i : ℕ) → i ≡ blanks false b 0 → i ≤ length b → Stands b (first_of b)
first_stands b i is inside = record {
  inside = subst (λ v. v ≤ length b) is inside;
  settled = blanks_settle false b 0;
  few = omega arith;
  shallow = omega arith;
  around = tt;
  behind = tt;
}

-- a script of the text is a sequence from its first token to its end, after which no here-document
-- waits
record SequenceOf (b : List ℕ) (limit count : ℕ) (t : Script) : Type 0 where
  end : states.State
  tree : Script
  reads : SequenceFrom b (first_of b) limit end tree
  to_end : end.spot.at ≡ length b
  counted : end.spot.count ≡ count
  over : waits end.pending ≡ false
  whole : ReadsSequence limit b (nth end.bodies) (here (first_of b)) end t

sequence_of : (b : List ℕ) (limit count : ℕ) (t : Script) → ReadsTo b limit count t → SequenceOf b limit count t
unfolding is_some
sequence_of b limit count t q =
    let l = level_of q.script in
    record {
      end = l.end;
      tree = l.tree;
      reads = l.reads;
      to_end = ap (λ u. u.at) (sym l.is) ∙ q.to_end;
      counted = ap (λ u. u.count) (sym l.is) ∙ q.commands;
      over = l.over;
      whole = l.whole;
    }

module _ (b : List ℕ) (text : IsText b) where
  module _ (t : Script) (v : State) (one : One (SequenceFrom b (first_of b)) (here v) t) where
    pub text_read : length b ≤ v.at → None ≡ waiting None v.pending → v.at ≤ length b → v.count ≤ MAX_COMMANDS → Parses b (Ok (fill v.bodies t))
    unfolding is_some
    text_read over none within few =
        let end : v.at ≡ length b = omega arith in
        let read : ReadsTo b MAX_NESTING v.count (fill v.bodies t) = record {
          no_nul = has_no_nul b text.1;
          end = (here v).spot;
          script = r.script {u = here v} (filled_reads v.bodies t refl (λ u l. (one.only MAX_NESTING (here v) u l).1) one.reads) (none_waits v.pending none);
          to_end = end;
          commands = refl;
        } in (
          text,
          (v.count, read, few),
          λ u q.
              let s = sequence_of b q.0 q.1 u q.2 in
              let o = one.only q.0 s.end s.tree s.reads in
              let all : s.end.bodies ≡ map document_of v.bodies = ap (λ (w : states.State). w.bodies) o.0 in
              let whole : ReadsSequence q.0 b (bodies v.bodies) (here (first_of b)) s.end u = subst (λ ds. ReadsSequence q.0 b (nth ds) (here (first_of b)) s.end u) all s.whole in
              filled_once v.bodies t u refl (λ x m. (one.only q.0 s.end x m).1) whole,
        )

    told : (e : Refusal) → IsFault b e → ((u : Script) → Reads b u → ⊥) → Parses b (Err e)
    told (Syntax f at) is none = (text, is, none)
    told (LeftOut f at) is none = (text, is, none)
    told _ is none = absurd is

    -- the text goes on
    pub text_unended : (e : Refusal) → IsFault b e → v.at < length b → Parses b (Err e)
    text_unended e is inside = told e is none
      where
        none : (u : Script) → Reads b u → ⊥
        none u q =
            let s = sequence_of b q.0 q.1 u q.2 in
            let o = one.only q.0 s.end s.tree s.reads in
            let there : v.at ≡ length b = sym (ap (λ w. w.spot.at) o.0) ∙ s.to_end in
            omega arith

    -- a here-document waits
    pub text_waits : (at : ℕ) → Some at ≡ waiting None v.pending → Stands b v → Parses b (Err (Syntax fault.OpenHereDoc at))
    text_waits at some stands = told (Syntax fault.OpenHereDoc at) (first_inside b v at some stands) none
      where
        none : (u : Script) → Reads b u → ⊥
        none u q =
            let s = sequence_of b q.0 q.1 u q.2 in
            let o = one.only q.0 s.end s.tree s.reads in
            true≢false (sym (some_wait v.pending at some) ∙ sym (ap (λ (w : states.State). waits w.pending) o.0) ∙ s.over)

  pub text_refused : (e : Refusal) → Refused b (SequenceFrom b (first_of b)) e → Parses b (Err e)
  text_refused (Syntax f at) h = (text, h.0, λ u q. let s = sequence_of b q.0 q.1 u q.2 in h.1 q.0 s.end s.tree s.reads)
  text_refused (LeftOut f at) h = (text, h.0, λ u q. let s = sequence_of b q.0 q.1 u q.2 in h.1 q.0 s.end s.tree s.reads)
  text_refused (TooDeep at) h = (text, h.0, λ u q. let s = sequence_of b MAX_NESTING q.0 u q.1 in h.1 s.end s.tree s.reads)
  text_refused TooMany h = (
    text,
    λ u q.
        let s = sequence_of b MAX_NESTING q.0 u q.1 in
        let more = h MAX_NESTING s.end s.tree s.reads in
        let same = s.counted in
        let few : q.0 ≤ MAX_COMMANDS = q.2 in
        omega arith,
  )
  text_refused Memory h = text
  text_refused _ h = absurd h

-- What is reported after a sequence at the front

module _ (b : List ℕ) where
  module _ (t : Script) (v : State) (one : One (SequenceFrom b (first_of b)) (here v) t) where
    ends_at : (body : ℕ → Document) (u : states.State) (s : Script) → ReadsSequence MAX_NESTING b body (here (first_of b)) u s → u ≡ here v
    ends_at body u s l = let f = sequence_with unread l in let o = one.only MAX_NESTING u f.0 f.1 in o.0

    pub none_behind : length b ≤ v.at → (r : Result Script Refusal) → TellsMisplaced b r
    none_behind over r body u s l inside =
        let same : u.spot.at ≡ v.at = ap (λ w. w.spot.at) (ends_at body u s l) in
        absurd (omega arith)

    pub told_behind : (e : Refusal) → IsFault b e → v.at < length b → TellsAt b (lead_at b (stage_at v.fresh) v.at) v e → TellsMisplaced b (Err e)
    told_behind e is below told body u s l inside =
        let tells = tells_inside b (lead_at b (stage_at v.fresh) v.at) v e (inside_lead b (stage_at v.fresh) v.at below) told in
        go e is (subst (λ i. Misplaced b i e) (sym (ap (λ w. w.spot.at) (ends_at body u s l))) (v.fresh, tells))
      where
        go : (e : Refusal) → IsFault b e → Misplaced b u.spot.at e → TellsBehind b u (Err e)
        go (Syntax f at) is m = m
        go (LeftOut f at) is m = m
        go _ is m = absurd is

    -- the text goes on
    pub pending_before : v.at < length b → (r : Result Script Refusal) → TellsPending b r
    pending_before inside r body u s l over wait =
        let same : u.spot.at ≡ v.at = ap (λ w. w.spot.at) (ends_at body u s l) in
        absurd (omega arith)

    -- no here-document waits
    pub pending_none : None ≡ waiting None v.pending → (r : Result Script Refusal) → TellsPending b r
    pending_none none r body u s l over wait =
        absurd (true≢false (sym wait ∙ ap (λ (w : states.State). waits w.pending) (ends_at body u s l) ∙ none_waits v.pending none))

    -- one does
    pub pending_told : (at : ℕ) → Some at ≡ waiting None v.pending → Stands b v → TellsPending b (Err (Syntax fault.OpenHereDoc at))
    pending_told at some stands body u s l over wait = (at, refl, subst (λ n. at < n) (sym over) (first_in b v at some stands))

  pub refused_pending_none : (e : Refusal) → Refused b (SequenceFrom b (first_of b)) e → TellsPending b (Err e)
  refused_pending_none e h body u s l over wait = let f = sequence_with unread l in go e h f.0 f.1
    where
      go : (e : Refusal) → Refused b (SequenceFrom b (first_of b)) e → (t : Script) → SequenceFrom b (first_of b) MAX_NESTING u t → TellsWaiting u (Err e)
      go (Syntax f at) h t l = absurd (h.1 MAX_NESTING u t l)
      go (LeftOut f at) h t l = absurd (h.1 MAX_NESTING u t l)
      go (TooDeep at) h t l = absurd (h.1 u t l)
      go TooMany h t l = h MAX_NESTING u t l
      go Memory h t l = tt
      go _ h t l = absurd h

  pub refused_behind_none : (e : Refusal) → Refused b (SequenceFrom b (first_of b)) e → TellsMisplaced b (Err e)
  refused_behind_none e h body u s l inside = let f = sequence_with unread l in go e h f.0 f.1
    where
      go : (e : Refusal) → Refused b (SequenceFrom b (first_of b)) e → (t : Script) → SequenceFrom b (first_of b) MAX_NESTING u t → TellsBehind b u (Err e)
      go (Syntax f at) h t l = absurd (h.1 MAX_NESTING u t l)
      go (LeftOut f at) h t l = absurd (h.1 MAX_NESTING u t l)
      go (TooDeep at) h t l = absurd (h.1 u t l)
      go TooMany h t l = h MAX_NESTING u t l
      go Memory h t l = tt
      go _ h t l = absurd h

  pub long_is_none : MAX_SCRIPT < length b → IsText b → TellsMisplaced b (Err TooLong)
  long_is_none long text = let short = text.0 in absurd (omega arith)

  pub nul_is_none : (at : ℕ) → first_nul b ≡ Some at → IsText b → TellsMisplaced b (Err (NulByte at))
  unfolding is_some
  nul_is_none at is text = absurd (apart is_some (sym is ∙ text.1) refl refl)

  pub long_is_closed : MAX_SCRIPT < length b → IsText b → TellsPending b (Err TooLong)
  long_is_closed long text = let short = text.0 in absurd (omega arith)

  pub nul_is_closed : (at : ℕ) → first_nul b ≡ Some at → IsText b → TellsPending b (Err (NulByte at))
  unfolding is_some
  nul_is_closed at is text = absurd (apart is_some (sym is ∙ text.1) refl refl)

  -- What is reported of the limits

  pub limit_refused : (e : Refusal) → Refused b (SequenceFrom b (first_of b)) e → TellsLimit b (Err e)
  limit_refused (TooDeep at) h = λ count t q. let s = sequence_of b MAX_NESTING count t q in h.1 s.end s.tree s.reads
  limit_refused TooMany h = λ limit count t q. let s = sequence_of b limit count t q in subst (λ n. MAX_COMMANDS < n) s.counted (h limit s.end s.tree s.reads)
  limit_refused _ h = tt

  pub fault_unlimited : (e : Refusal) → IsFault b e → TellsLimit b (Err e)
  fault_unlimited (Syntax f at) is = tt
  fault_unlimited (LeftOut f at) is = tt
  fault_unlimited _ is = absurd is
