-- A whole word, by what a builder answers.
use Rattle.std.proofs.Common.{◌≡◌, ℕ, ◌+◌, ◌-◌, ◌<◌, ◌≤◌, ◌⊎◌, inl, inr, Bool, true, false, not, ◌&&◌, ◌||◌, List, [], ◌∷◌, length, map, Option, Some, None, nat_le, Ok, Err, refl, sym, ap, ◌∙◌, subst, le_refl, le_trans, lt_of_lt_of_le, arith}
use Rattle.std.proofs.lemmas.Bool.{true≢false, and_parts}
use Rattle.std.proofs.lemmas.Bool.Decides.{nat_tests}
use Rattle.sh_tree.specs.declared.tree.CommandStyle.{CommandStyle}
use Rattle.sh_tree.specs.declared.tree.Part.{Part}
use Rattle.sh_tree.specs.declared.tree.Script.{Script}
use Rattle.sh_tree.specs.declared.tree.Word.{Word}
use Rattle.sh_tree.specs.declared.refusal.Refusal.{Refusal}
use Rattle.sh_tree.specs.declared.refusal.Refusal.TheVariants.{TooLong, NulByte, Syntax, LeftOut, TooDeep, TooMany, Memory, Profile, CertSyntax, CertShape}
use Rattle.sh_tree.specs.declared.token.word.Context.{Context}
use Rattle.sh_tree.specs.declared.token.word.Sign.{Sign}
use Rattle.sh_tree.specs.declared.token.word.Sign.TheVariants as sign
use Rattle.sh_tree.specs.standard.language.Commands.{blanks, is_location}
use Rattle.sh_tree.specs.standard.language.Parts.{keeps_lines}
use Rattle.sh_tree.specs.standard.language.Reading as r
use Rattle.sh_tree.specs.standard.language.Reading.{ReadsParts, ReadsPart, ReadsScript, ReadsWord, is_some}
use Rattle.sh_tree.specs.standard.language.States as states
use Rattle.sh_tree.specs.standard.language.States.{Spot, past, waits, within}
use Rattle.sh_tree.specs.standard.language.Substitutions.{commands_text, closes, removes_no_backslash}
use Rattle.sh_tree.specs.standard.language.Trees.{word}
use Rattle.sh_tree.specs.standard.language.Words.{token}
use Rattle.sh_tree.proofs.Inversions.{word_parts}
use Rattle.sh_words.specs.declared.mode.Mode.{Mode}
use Rattle.sh_words.specs.declared.mode.Mode.TheVariants as mode
use Rattle.sh_words.specs.declared.builder.WordBuilder.{WordBuilder}
use Rattle.sh_words.specs.declared.builder.Next.TheVariants.{Done, Inner}
use Rattle.sh_words.specs.declared.frames.Focus.TheVariants as focus
use Rattle.sh_words.specs.Builders.{Goes, IsInside, IsNew, IsSoundIn, begin_of, mode_of, position}
use Rattle.sh_words.specs.Clauses.{Answers, Asks, Ends, Refuses, Runs, Waits, after_commands, commands_spot}
use Rattle.sh_words.specs.Modes.{context_of, first_prior, seen}
use Rattle.sh_words.specs.Rest.{Around, Rest, Left, spot}
use Rattle.sh_words.specs.Sound.{IsSound, RunMoves, TakesWord}
use Rattle.sh_words.specs.Sound as sound
use Rattle.sh_words.specs.Starts.{IsStart}
use Rattle.sh_words.specs.States.{fed}
use Rattle.sh_words.proofs.CountLemmas.{left_count}
use Rattle.sh_grammar.specs.declared.state.State.{State}
use Rattle.sh_grammar.specs.declared.mark.Mark.{Mark}
use Rattle.sh_grammar.specs.Marks.{mark_of}
use Rattle.sh_grammar.specs.States.{Lies, here, moved, pending_of, spot_of, substituted, waiting}
use Rattle.sh_grammar.specs.Readers.{One, Nothing, Reading, Refused, WordAt}
use Rattle.sh_grammar.specs.Modes.{BeginsBehind, IsWhole, PartsAt, Whole}
use Rattle.sh_grammar.specs.Substitutions.{AskedFrom, Counted, Handed}
use Rattle.sh_grammar.proofs.ReaderLemmas.{refused_by}

-- Where a word is read, the depth is the one around it

part_depth : {limit : ℕ} {b : List ℕ} {x : Context} {g : Sign} {s u : Spot} {e : ℕ} {p : Part} → ReadsPart limit b x g s e u p → u.depth ≡ s.depth
part_depth r.plain = refl
part_depth r.escaped = refl
part_depth r.joined = refl
part_depth r.single_quoted = refl
part_depth r.tilde = refl
part_depth (r.double_quoted h) = refl
part_depth r.value = refl
part_depth r.length_value = refl
part_depth (r.use_word l h) = refl
part_depth (r.removal l h) = refl
part_depth (r.arithmetic l h c d) = refl
part_depth (r.substitution l k h c) = refl

parts_depth : {limit : ℕ} {b : List ℕ} {x : Context} {prior : ℕ} {s u : Spot} {ps : List Part} → ReadsParts limit b x prior s u ps → u.depth ≡ s.depth
parts_depth (r.stop h) = refl
parts_depth (r.tabs h p) = parts_depth p
parts_depth (r.more h q p) = parts_depth p ∙ part_depth q

-- A mode that sees the whole text

pub whole_seen : (b : List ℕ) (m : Mode) → IsWhole m → seen b m ≡ b
whole_seen b mode.Word h = refl
whole_seen b mode.Unsplit h = refl
whole_seen b mode.Value h = refl
whole_seen b mode.Operand h = refl
whole_seen b (mode.Body end strip quoted) h = absurd h

pub whole_prior : (m : Mode) → IsWhole m → first_prior m ≡ 0
whole_prior mode.Word h = refl
whole_prior mode.Unsplit h = refl
whole_prior mode.Value h = refl
whole_prior mode.Operand h = refl
whole_prior (mode.Body end strip quoted) h = absurd h

-- what is around a word: no body of a here-document
abbrev around : State → Around
around v = record { count = v.count; quiet = is_some v.outer || waits (pending_of v); body = v.joins; tabs = v.tabs }

-- one waits there or here
waiting_is : (o : Option ℕ) (ms : List Mark) → is_some (waiting o ms) ≡ (is_some o || waits (map mark_of ms))
unfolding is_some waits
waiting_is (Some i) ms = refl
waiting_is None [] = refl
waiting_is None (m ∷ ms) = refl

-- what is left for the builder w, after as many commands as v, is what is left of the word at i
pub record Begun (b : List ℕ) (m : Mode) (i : ℕ) (s : State) (w : WordBuilder) (v : State) : Type 0 where
  pub forth : (limit : ℕ) (u : Spot) (ps : List Part) → ReadsParts limit b (context_of b m i) (first_prior m) (spot_of i s) u ps → Left b w limit (around v) u ps
  pub back : (u : Spot) (ps : List Part) → Left b w 64 (around v) u ps → ReadsParts 64 b (context_of b m i) (first_prior m) (spot_of i s) u ps

-- nothing is read yet, or bytes are
abbrev pub Moved : Mode → ℕ → WordBuilder → Type 0
Moved m i w = (i < position w) ⊎ (IsNew w × (position w ≡ i))

-- the driver of a builder: the builder as it is, and the state that counts the commands handed back
pub record Driven (b : List ℕ) (m : Mode) (i : ℕ) (s : State) (w : WordBuilder) (v : State) : Type 0 where
  pub begun : Begun b m i s w v
  pub goes : Goes w
  pub mode : mode_of w ≡ m
  pub begin : begin_of w ≡ i
  pub from : i ≤ position w
  pub inside : IsInside b w
  pub sound : IsSoundIn b w
  pub moved : Moved m i w
  pub counted : Counted b s v

module _ (b : List ℕ) (m : Mode) (all : seen b m ≡ b) (i : ℕ) (s : State) (w : WordBuilder) (start : IsStart w m s.depth i) where
  -- what is left for a builder that has read nothing is the word
  begun_new : Begun b m i s w s
  unfolding Left
  begun_new = record {
    forth = λ limit u ps h.
        let first : Rest b limit (around s) m focus.Start w.holder w.frames (spot (around s) s.depth i) u ps = h in
        rw (start.mode, start.focus, start.depth, start.at) first;
    back = λ u ps l.
        let first : Rest b 64 (around s) m focus.Start w.holder w.frames (spot (around s) s.depth i) u ps = rw (start.mode, start.focus, start.depth, start.at) at l in
        first;
  }

  pub driven_new : Lies b s → i ≤ length b → Driven b m i s w s
  driven_new lies inside =
      let sees : seen b w.mode ≡ b = ap (λ v. seen b v) start.mode ∙ all in
      record {
        begun = begun_new;
        goes = start.failed;
        mode = start.mode;
        begin = start.begin;
        from = subst (λ v. i ≤ v) (sym start.at) (le_refl i);
        inside = subst (λ v. w.at ≤ length v) (sym sees) (subst (λ v. v ≤ length b) (sym start.at) inside);
        sound = start.sound (seen b w.mode) lies.shallow;
        moved = inr (start.focus, start.at);
        counted = record { same = refl; lies = lies };
      }

module _ (b : List ℕ) (m : Mode) (all : seen b m ≡ b) (i : ℕ) (s v : State) (w : WordBuilder) (d : Driven b m i s w v) where
  abbrev parts_here : Reading (List Part)
  parts_here = PartsAt b (context_of b m i) (first_prior m) i s

  sees : seen b w.mode ≡ b
  sees = ap (λ x. seen b x) d.mode ∙ all

  nothing_left : (limit : ℕ) → ((g : Around) (u : Spot) (ps : List Part) → Left b w limit g u ps → ⊥) → (k : states.State) (ps : List Part) → parts_here limit k ps → ⊥
  nothing_left limit none k ps h = none (around v) h.0 ps (d.begun.forth limit h.0 ps h.1)

  refuses : (e : Refusal) → Refuses b (Left b w) e → Refused b parts_here e
  refuses Memory h = tt
  refuses (Syntax f at) h = (h.0, λ limit. nothing_left limit (h.1 limit))
  refuses (LeftOut f at) h = (h.0, λ limit. nothing_left limit (h.1 limit))
  refuses (TooDeep at) h = (h.0, nothing_left 64 h.1)
  refuses TooLong h = absurd h
  refuses (NulByte at) h = absurd h
  refuses TooMany h = absurd h
  refuses (Profile f at) h = absurd h
  refuses (CertSyntax k) h = absurd h
  refuses CertShape h = absurd h

  -- a refusal of the builder is one of the parts
  pub word_refused : (new : WordBuilder) (e : Refusal) → Runs (seen b w.mode) (Left (seen b w.mode) w) new (Err e) → Refused b parts_here e
  word_refused new e h = refuses e (subst (λ x. Refuses x (Left x w) e) sees h)

  -- the context does not end where a word begins, before anything of it is read
  begins : IsNew w → position w ≡ i → BeginsBehind (first_prior m) b (context_of b m i) i s → sound.Begins (seen b w.mode) w
  begins new at none stop =
      let there : (token b (context_of b m i) (first_prior m) i).sign ≡ sign.Stop =
      rw (d.mode, at) at (subst (λ x. (token x (context_of x w.mode w.at) (first_prior w.mode) w.at).sign ≡ sign.Stop) sees stop) in
      none there

  module _ (new : WordBuilder) where
    -- what a builder has read is the word
    pub word_done : (t : Word) → Answers (seen b w.mode) (Left (seen b w.mode) w) new (Done t) → RunMoves (seen b w.mode) w new (Ok (Done t))
        → TakesWord (seen b w.mode) w new (Ok (Done t)) → Whole b (context_of b m i) (first_prior m) i s t v
    word_done t answers moves takes =
        let ps = answers.0 in
        let begin : new.begin ≡ i = moves.2.1 ∙ d.begin in
        let is : t ≡ word i new.at ps = answers.1 ∙ ap (λ x. word x new.at ps) begin in
        let ends : Ends (Left b w) new.depth new.at ps = subst (λ x. Ends (Left x w) new.depth new.at ps) sees answers.2 in
        let reads : ReadsParts 64 b (context_of b m i) (first_prior m) (spot_of i s) (spot (around v) new.depth new.at) ps =
        d.begun.back (spot (around v) new.depth new.at) ps (ends.back (around v)) in
        let deep : new.depth ≡ s.depth = parts_depth reads in
        let same : new.depth ≡ v.depth = deep ∙ sym (ap (λ (x : State). x.depth) d.counted.same) in
        let within : new.at ≤ length b = subst (λ x. new.at ≤ length x) sees moves.1 in
        let from : i ≤ new.at = le_trans d.from moves.0 in
        rw is (record {
          is = refl;
          reads = subst (λ x. ReadsParts 64 b (context_of b m i) (first_prior m) (spot_of i s) (spot (around v) x new.at) ps) same reads;
          only = λ limit u qs h.
              let e = ends.forth limit (around v) u qs (d.begun.forth limit u qs h) in
              (e.0 ∙ ap (λ x. spot (around v) x new.at) same, e.1);
          from = from;
          within = within;
          moves = λ none. further none d.moved;
          counted = d.counted;
        })
      where
        further : BeginsBehind (first_prior m) b (context_of b m i) i s → Moved m i w → i < new.at
        further none (inl below) = lt_of_lt_of_le below moves.0
        further none (inr at) = subst (λ x. x < new.at) at.1 (takes at.0 (begins at.0 at.1 none))

    module _ (start at depth : ℕ) (style : CommandStyle) (quoted : Bool) where
      abbrev asked_here : Reading Script
      asked_here = AskedFrom b style quoted at depth v

      abbrev behind : Script → State → WordBuilder
      behind t end = fed new start style t (end.at + 1)

      -- where the commands that it asks for are read
      asked_at : commands_spot b (around v) style at depth ≡ (here (substituted (commands_text style b at) at depth v.ticks v)).spot
      unfolding is_some waits
      asked_at = ap (λ q. record (commands_spot b (around v) style at depth) { quiet = q }) (sym (waiting_is v.outer v.pending))

      -- the commands that it asks for, as what closes
      closed_here : {limit : ℕ} {u : Spot} {t : Script} → removes_no_backslash style quoted b at ≡ true
          → ReadsScript limit (commands_text style b at) (commands_spot b (around v) style at depth) u t → closes style (commands_text style b at) u.at ≡ true → asked_here limit (within u) t
      closed_here {limit = limit} {u = u} {t = t} keeps h close = (keeps, (subst (λ x. ReadsScript limit (commands_text style b at) x u t) asked_at h, close, refl))

      module _ (asks : Asks (seen b w.mode) (Left (seen b w.mode) w) new start at depth style quoted) where
        asked : Asks b (Left b w) new start at depth style quoted
        asked = subst (λ x. Asks x (Left x w) new start at depth style quoted) sees asks

        -- a refusal of the commands that it asks for is one of the word
        pub inner_refused : (e : Refusal) → Refused b asked_here e → Refused b parts_here e
        inner_refused e h = refused_by b asked_here parts_here e inside h
          where
            inside : (limit : ℕ) (k : states.State) (ps : List Part) → parts_here limit k ps → (j : states.State) × (x : Script) × asked_here limit j x × (j.spot.count ≤ k.spot.count)
            inside limit k ps q =
                let l = asked.forth limit (around v) q.0 ps (d.begun.forth limit q.0 ps q.1) in
                let some : l.0.count ≤ q.0.count = left_count b limit (after_commands (around v) l.0) q.0 ps (fed new start style l.1 (l.0.at + 1)) l.6 in
                (within l.0, l.1, closed_here l.5 l.3 l.4, subst (λ x. l.0.count ≤ x.spot.count) (sym q.2) some)

        -- and the builder goes on after them
        begun_fed : (t : Script) (end : State) → One asked_here (here end) t → Begun b m i s (behind t end) (record v { count = end.count })
        begun_fed t end one = record {
          forth = λ limit u ps h.
              let l = asked.forth limit (around v) u ps (d.begun.forth limit u ps h) in
              let o = one.only limit (within l.0) l.1 (closed_here l.5 l.3 l.4) in
              let spot_is : l.0 ≡ (here end).spot = ap (λ x. x.spot) o.0 in
              let there : Left b (fed new start style t (l.0.at + 1)) limit (after_commands (around v) l.0) u ps =
              subst (λ x. Left b (fed new start style x (l.0.at + 1)) limit (after_commands (around v) l.0) u ps) o.1 l.6 in
              subst (λ x. Left b (fed new start style t (x.at + 1)) limit (after_commands (around v) x) u ps) spot_is there;
          back = λ u ps l.
              let read = one.reads in
              let script : ReadsScript 64 (commands_text style b at) (commands_spot b (around v) style at depth) (here end).spot t =
              subst (λ x. ReadsScript 64 (commands_text style b at) x (here end).spot t) (sym asked_at) read.1.0 in
              d.begun.back u ps (asked.back (around v) u ps (here end).spot t script read.1.1 read.0 l);
        }

        module _ (waits : Waits new start style) (moves : RunMoves (seen b w.mode) w new (Ok (Inner at depth style quoted))) (back : WordBuilder) (t : Script) (end : State)
            (found : Handed b style quoted at depth v t end)
            (gives : (x : ℕ) (y : CommandStyle) → Waits new x y → Goes new → back ≡ fed new x y t (end.at + 1)) where
          -- what is left for it once they are handed back
          is_fed : back ≡ behind t end
          is_fed = gives start style waits (moves.5.3 ∙ d.goes)

          -- nearer to the end of the text
          pub fed_moves : length b - position back < length b - position w
          fed_moves =
              let below = found.within in
              let after = found.from in
              let stands_at : back.at ≡ end.at + 1 = ap (λ (x : WordBuilder). x.at) is_fed in
              let further : w.at < at = subst (λ x. w.at < x) moves.2 moves.0 in
              omega arith

          -- the builder goes on
          pub driven_fed : ((x : List ℕ) → end.at + 1 ≤ length x → IsSound x new → IsSound x back) → Driven b m i s back (record v { count = end.count })
          driven_fed keeps =
              let same = moves.5 in
              let mode : back.mode ≡ m = ap (λ (x : WordBuilder). x.mode) is_fed ∙ same.0 ∙ d.mode in
              let whole : seen b back.mode ≡ b = ap (λ x. seen b x) mode ∙ all in
              let below = found.within in
              let after = found.from in
              let sound : IsSound b new = subst (λ x. IsSound x new) sees moves.6 in
              let stands_at : back.at ≡ end.at + 1 = ap (λ (x : WordBuilder). x.at) is_fed in
              let further : w.at < at = subst (λ x. w.at < x) moves.2 moves.0 in
              let from = d.from in
              let more : i < end.at + 1 = omega arith in
              record {
                begun = subst (λ x. Begun b m i s x (record v { count = end.count })) (sym is_fed) (begun_fed t end found.one);
                goes = ap (λ (x : WordBuilder). x.failed) is_fed ∙ same.3 ∙ d.goes;
                mode = mode;
                begin = ap (λ (x : WordBuilder). x.begin) is_fed ∙ same.1 ∙ d.begin;
                from = subst (λ x. i ≤ x) (sym stands_at) (omega arith);
                inside = subst (λ x. back.at ≤ length x) (sym whole) (subst (λ x. x ≤ length b) (sym stands_at) (omega arith));
                sound = subst (λ x. IsSound x back) (sym whole) (keeps b (omega arith) sound);
                moved = inl (subst (λ x. i < x) (sym stands_at) more);
                counted = record {
                  same = ap (λ (x : State). record x { count = end.count }) d.counted.same;
                  lies = record {
                    inside = d.counted.lies.inside;
                    few = found.few;
                    shallow = d.counted.lies.shallow;
                    around = d.counted.lies.around;
                    behind = d.counted.lies.behind;
                  };
                };
              }

-- Whole words

-- a word is read where its parts are
parts_of_word : (b : List ℕ) (m : Mode) (i : ℕ) (s : State) → IsWhole m → (limit : ℕ) (k : states.State) (y : Word) → WordAt b (context_of b m i) i s limit k y
    → (ps : List Part) × PartsAt b (context_of b m i) (first_prior m) i s limit k ps
parts_of_word b m i s whole limit k y q =
    let is = word_parts q.1 in
    (is.0, (q.0, subst (λ p. ReadsParts limit b (context_of b m i) p (spot_of i s) q.0 is.0) (sym (whole_prior m whole)) is.2, q.2))

pub word_unread : (b : List ℕ) (m : Mode) (i : ℕ) (s : State) (e : Refusal) → IsWhole m → Refused b (PartsAt b (context_of b m i) (first_prior m) i s) e
    → Refused b (WordAt b (context_of b m i) i s) e
word_unread b m i s e whole h = refused_by b (PartsAt b (context_of b m i) (first_prior m) i s) (WordAt b (context_of b m i) i s) e
    (λ limit k y q. let f = parts_of_word b m i s whole limit k y q in (k, f.0, f.1, le_refl k.spot.count)) h

module _ (b : List ℕ) (m : Mode) (whole : IsWhole m) (i : ℕ) (s v : State) (w : Word) (h : Whole b (context_of b m i) (first_prior m) i s w v) where
  -- its parts are the only ones after no byte
  only_parts : (limit : ℕ) (u : Spot) (qs : List Part) → ReadsParts limit b (context_of b m i) 0 (spot_of i s) u qs → (u ≡ spot_of w.span.end v) × (qs ≡ w.parts)
  only_parts limit u qs q = h.only limit u qs (subst (λ p. ReadsParts limit b (context_of b m i) p (spot_of i s) u qs) (sym (whole_prior m whole)) q)

  pub word_read : not (context_of b m i).colons && is_location b i w.span.end ≡ false → keeps_lines b v.joins w.parts ≡ true
      → One (WordAt b (context_of b m i) i s) (here (moved b w.span.end v)) w
  word_read free kept =
      let x = context_of b m i in
      let end = w.span.end in
      let lines : keeps_lines b s.joins w.parts ≡ true = ap (λ (z : State). keeps_lines b z.joins w.parts) (sym h.counted.same) ∙ kept in
      let parts = subst (λ p. ReadsParts 64 b x p (spot_of i s) (spot_of end v) w.parts) (whole_prior m whole) h.reads in
      let behind : here (moved b end v) ≡ past b (spot_of end v) (here s) =
      ap (λ (z : State). here (record z { at = blanks z.joins b end; count = v.count; fresh = true })) h.counted.same in
      record {
        reads = (spot_of end v, subst (λ z. ReadsWord 64 b x (spot_of i s) (spot_of end v) z) (sym h.is) (r.whole_word parts free lines), behind);
        only = λ limit k y q.
            let is = word_parts q.1 in
            let e = only_parts limit q.0 is.0 is.2 in
            (q.2 ∙ ap (λ z. past b z (here s)) e.0 ∙ sym behind, is.1 ∙ ap (λ z. word i z.at is.0) e.0 ∙ ap (λ z. word i end z) e.1 ∙ sym h.is);
      }

  -- an IO location is no word
  pub word_located : not (context_of b m i).colons && is_location b i w.span.end ≡ true → Nothing (WordAt b (context_of b m i) i s)
  word_located located = λ limit k y q. none limit q.0 y q.1
    where
      none : (limit : ℕ) (k : Spot) (y : Word) → ReadsWord limit b (context_of b m i) (spot_of i s) k y → ⊥
      none limit k y (r.whole_word {ps = qs} q free l) =
          let e = only_parts limit k qs q in
          let there : not (context_of b m i).colons && is_location b i w.span.end ≡ false = subst (λ z. not (context_of b m i).colons && is_location b i z.at ≡ false) e.0 free in
          true≢false (sym located ∙ there)

  -- nor are quotes that hold a continuation, if lines are joined
  pub word_split : keeps_lines b v.joins w.parts ≡ false → Nothing (WordAt b (context_of b m i) i s)
  word_split split = λ limit k y q. none limit q.0 y q.1
    where
      none : (limit : ℕ) (k : Spot) (y : Word) → ReadsWord limit b (context_of b m i) (spot_of i s) k y → ⊥
      none limit k y (r.whole_word {ps = qs} q free l) =
          let e = only_parts limit k qs q in
          let same : keeps_lines b s.joins qs ≡ keeps_lines b v.joins w.parts =
          ap (λ z. keeps_lines b s.joins z) e.1 ∙ ap (λ (z : State). keeps_lines b z.joins w.parts) (sym h.counted.same) in
          true≢false (sym l ∙ same ∙ split)

-- an IO location has bytes
pub located_inside : (b : List ℕ) (i j : ℕ) → is_location b i j ≡ true → j ≤ length b → i < length b
unfolding is_location
located_inside b i j h inside =
    let long : nat_le (i + 3) j ≡ true = (and_parts _ _ (and_parts _ _ (and_parts _ _ h).0).0).0 in
    grind (arith, nat_tests)
