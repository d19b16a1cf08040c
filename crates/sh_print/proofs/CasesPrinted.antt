-- A printed `case` command is read, given that the lists in it are.
use Rattle.std.proofs.Common.{◌≡◌, ℕ, ◌+◌, ◌<◌, Bool, false, if◌then◌else◌, Some, List, [], ◌∷◌, ◌++◌, length, drop, map, codes, refl, sym, ap, subst, ◌∙◌, append_assoc, append-nil, arith}
use Rattle.std.specs.List.{flat_map}
use Rattle.sh_copies.specs.Copied.{Unsplit, Form, context_of, TokenOf, IsBehindWord}
use Rattle.sh_tree.specs.declared.tree.Clause.{Clause}
use Rattle.sh_tree.specs.declared.tree.ClauseEnd.{ClauseEnd}
use Rattle.sh_tree.specs.declared.tree.ClauseEnd.TheVariants as clause_end
use Rattle.sh_tree.specs.declared.tree.Kind.TheVariants as kind
use Rattle.sh_tree.specs.declared.tree.Script.{Script}
use Rattle.sh_tree.specs.declared.tree.Word.{Word}
use Rattle.sh_tree.specs.declared.token.command.Lead.TheVariants as lead
use Rattle.sh_tree.specs.declared.token.command.Reserved.TheVariants as word
use Rattle.sh_tree.specs.declared.token.command.Stage.TheVariants.{First, Named}
use Rattle.sh_tree.specs.standard.language.Bytes.{is_first}
use Rattle.sh_tree.specs.standard.language.Commands.{lead_at, blanks, begins_pipeline, begins_command, begins_simple, begins_compound, is_redirection, redirects, is_newline_lead, is_word, is_parenthesis, is_open, is_esac, clause_end_of}
use Rattle.sh_tree.specs.standard.language.Reading as r
use Rattle.sh_tree.specs.standard.language.Reading.{ReadsBreaks, ReadsPatterns, ReadsClauses, ReadsSequence, lead_here, behind_token}
use Rattle.sh_tree.specs.standard.language.States.{State, Document}
use Rattle.sh_tree.specs.standard.language.Trees as tree
use Rattle.sh_print.specs.Bare as bare
use Rattle.sh_print.specs.Bare.{Text}
use Rattle.sh_print.specs.Layout.{tabs, separated, items_text, clauses_text, clause_end_text}
use Rattle.sh_print.specs.Lists.{items_from, clauses_from}
use Rattle.sh_print.specs.Trees.{word_of, script_of}
use Rattle.sh_print.proofs.TreeLemmas.{kind_of-Branches}
use Rattle.sh_print.proofs.MadeLemmas.{clause_made, script_made}
use Rattle.sh_print.proofs.PlaceLemmas.{front, front_blank, front_none, front_tabs, fronted, lead_there, off, one_off}
use Rattle.sh_print.proofs.OwnTokens.{Gap, blank, line, reserved_text, reserved_leads, open_leads, open_is_no_esac, open_straight, bar_leads, break_leads, through_leads}
use Rattle.sh_print.proofs.DocumentsPrinted.{place, so_far, Fits, no_mark, break_print}
use Rattle.sh_print.proofs.ElementsPrinted.{token_starts, blank_word, word_print}
use Rattle.sh_print.proofs.JoinsPrinted.{IsStop}
use Rattle.sh_print.proofs.ListsPrinted.{PrintsList, line_front, reserved_front, kept_both, fits_both}
use Rattle.sh_print.proofs.LoopsPrinted.{no_waits}
use Rattle.sh_print.proofs.CompoundsPrinted.{PrintsCompound}
use Rattle.sh_print.proofs.Printable as p
use Rattle.sh_print.proofs.Printable.{PrintableWord, PrintablePatterns}
use Rattle.sh_copies.proofs.Leads.{closing_lead}

module _ (b : List ℕ) where
  -- Patterns

  abbrev pub patterns_text : List Text → List ℕ
  patterns_text ws = separated (codes " | ") ws

  bar_word : (cs : List ℕ) → IsBehindWord (32 ∷ 124 ∷ 32 ∷ cs)
  unfolding is_first
  bar_word cs = blank_word (124 ∷ 32 ∷ cs) (record { front_is = front_none 124 (32 ∷ cs) refl refl refl; closed = refl })

  close_word : (cs : List ℕ) → IsBehindWord (41 ∷ cs)
  unfolding is_first
  close_word cs = record { ends = refl; opens_nothing = ap (is_first is_parenthesis) (front_none 41 cs refl refl refl) }

  barred : {limit k m : ℕ} {ws : List Text} → PrintablePatterns limit k m ws → flat_map (λ u. codes " | " ++ u) ws ≡ codes " | " ++ patterns_text ws
  barred (p.last_pattern {w = w} token printable) = append_assoc (codes " | ") w []
  barred (p.more_patterns {w = w} {ws = ws} token printable more) = append_assoc (codes " | ") w (flat_map (λ u. codes " | " ++ u) ws)

  -- one pattern and those after it
  barred_text : {limit k m : ℕ} {ws : List Text} (w : Text) → PrintablePatterns limit k m ws → (cs : List ℕ) → patterns_text (w ∷ ws) ++ cs ≡ w ++ (32 ∷ 124 ∷ 32 ∷ (patterns_text ws ++ cs))
  barred_text {ws = ws} w more cs = append_assoc w (flat_map (λ u. codes " | " ++ u) ws) cs ∙ ap (λ t. w ++ (t ++ cs)) (barred more)

  last_text : (w : Text) (cs : List ℕ) → patterns_text (w ∷ []) ++ cs ≡ w ++ cs
  last_text w cs = ap (λ t. t ++ cs) (append-nil w)

  patterns_start : {limit k m : ℕ} {ws : List Text} → PrintablePatterns limit k m ws → (cs : List ℕ) → front (patterns_text ws ++ 41 ∷ cs) ≡ patterns_text ws ++ 41 ∷ cs
  patterns_start (p.last_pattern {w = w} token printable) cs =
      let same = last_text w (41 ∷ cs) in
      ap front same ∙ (token_starts w (41 ∷ cs) token (close_word cs)).front_is ∙ sym same
  patterns_start (p.more_patterns {w = w} {ws = ws} token printable more) cs =
      let same = barred_text w more (41 ∷ cs) in
      ap front same ∙ (token_starts w (32 ∷ 124 ∷ 32 ∷ (patterns_text ws ++ 41 ∷ cs)) token (bar_word (patterns_text ws ++ 41 ∷ cs))).front_is ∙ sym same

  record PrintedPatterns (limit m i n k : ℕ) (closed : Bool) (ds : List Document) (ws : List Text) (cs : List ℕ) : Type 0 where
    at : ℕ
    count : ℕ
    behind : drop at b ≡ 41 ∷ cs
    total : count ≡ n + m
    words : List Word
    reads : ReadsPatterns limit b (place i n k closed [] ds) (place at count k closed [] ds) words
    same : map (word_of b) words ≡ ws

  patterns_print : {limit k m : ℕ} {ws : List Text} → PrintablePatterns limit k m ws → (i n : ℕ) (closed : Bool) (ds : List Document) (cs : List ℕ) → drop i b ≡ patterns_text ws ++ 41 ∷ cs
      → PrintedPatterns limit m i n k closed ds ws cs
  unfolding context_of
  patterns_print {limit = limit} {k = k} (p.last_pattern {m = m} {w = w} {form = form} token printable) i n closed ds cs e =
      let e1 = e ∙ last_text w (41 ∷ cs) in
      let one = word_print b limit i n k closed [] ds false Unsplit form w (41 ∷ cs) printable no_waits e1 (close_word cs) in
      let j = blanks false b (i + length w) in
      let here : drop j b ≡ 41 ∷ cs = one.behind ∙ front_none 41 cs refl refl refl in
      record {
        at = j;
        count = n + m;
        behind = here;
        total = refl;
        words = tree.word i (i + length w) one.parts ∷ [];
        reads = r.last_pattern (ap is_word (token.is_lead b (41 ∷ cs) i e1 (close_word cs))) one.reads (lead_there b (Named false) j (41 ∷ cs) here ∙ closing_lead (Named false) cs);
        same = ap (λ t. t ∷ []) one.word_is;
      }
  patterns_print {limit = limit} {k = k} (p.more_patterns {m = m} {w = w} {ws = ws} {form = form} token printable more) i n closed ds cs e =
      let later = patterns_text ws ++ 41 ∷ cs in
      let tail = 124 ∷ 32 ∷ later in
      let e1 = e ∙ barred_text w more (41 ∷ cs) in
      let one = word_print b limit i n k closed [] ds false Unsplit form w (32 ∷ tail) printable no_waits e1 (bar_word later) in
      let j = blanks false b (i + length w) in
      let here : drop j b ≡ tail = one.behind ∙ front_blank 32 tail refl ∙ front_none 124 (32 ∷ later) refl refl refl in
      let others = patterns_print more (blanks false b (j + 1)) (n + m) closed ds cs (fronted b (j + 1) (32 ∷ later) (one_off b j here) ∙ front_blank 32 later refl ∙ patterns_start more cs) in
      record {
        at = others.at;
        count = others.count;
        behind = others.behind;
        total = (let all = others.total in omega arith);
        words = tree.word i (i + length w) one.parts ∷ others.words;
        reads = r.more_patterns (ap is_word (token.is_lead b (32 ∷ tail) i e1 (bar_word later))) one.reads
            (lead_there b (Named false) j tail here ∙ bar_leads (Named false) (32 ∷ later) blank) others.reads;
        same = ap (λ t. t ∷ map (word_of b) others.words) one.word_is ∙ ap (λ ts. w ∷ ts) others.same;
      }

  -- A newline, and a list or nothing

  pub record PrintedSequence (limit m i n k : ℕ) (closed : Bool) (ds : List Document) (items : bare.Items) (rest : List ℕ) : Type 0 where
    pub at : ℕ
    pub count : ℕ
    pub ended : Bool
    pub bodies : List Document
    pub met : List bare.Document
    pub kept : so_far b bodies [] ≡ so_far b ds [] ++ met
    pub behind : drop at b ≡ front rest
    pub total : count ≡ n + m
    pub reads : (body : ℕ → Document) → Fits b body (length (so_far b ds [])) met
        → (t : Script) × ReadsSequence limit b body (place i n k closed [] ds) (place at count k ended [] bodies) t × (script_of b t ≡ items)

  pub record PrintsSequence (limit k d m : ℕ) (items : bare.Items) : Type 0 where
    pub print : (i n : ℕ) (closed : Bool) (ds : List Document) (rest : List ℕ) → drop i b ≡ 10 ∷ (items_text d items ++ rest) → IsStop rest → PrintedSequence limit m i n k closed ds items rest

  pub nothing_prints : {limit k d : ℕ} → PrintsSequence limit k d 0 bare.no_items
  unfolding items_text items_from
  nothing_prints {limit = limit} {k = k} = record {
    print = λ i n closed ds rest e stop.
        let p = break_print b limit i n k closed [] ds [] rest no_mark e stop.straight in
        record {
          at = p.at;
          count = p.count;
          ended = closed;
          bodies = p.bodies;
          met = [];
          kept = p.kept ∙ sym (append-nil (so_far b ds []));
          behind = p.behind;
          total = p.total;
          reads = λ body f. (tree.script [], r.nothing p.reads (ap begins_pipeline (lead_there b First p.at (front rest) p.behind) ∙ stop.none), script_made b []);
        };
  }

  pub sequence_prints : {limit k d m : ℕ} {items : bare.Items} → PrintsList b limit k d m items → PrintsSequence limit k d m items
  sequence_prints list = record {
    print = λ i n closed ds rest e stop.
        let p = list.print i n closed ds rest e stop in
        record {
          at = p.at;
          count = p.count;
          ended = p.ended;
          bodies = p.bodies;
          met = p.met;
          kept = p.kept;
          behind = p.behind;
          total = p.total;
          reads = λ body f. let t = p.reads body f in (t.0, r.sequence t.1, t.2);
        };
  }

  -- Clauses

  -- what follows the clauses
  abbrev pub esac_text : ℕ → List ℕ → List ℕ
  esac_text d rest = tabs d ++ (codes "esac" ++ rest)

  pub record PrintedClauses (limit m i n k : ℕ) (closed : Bool) (ds : List Document) (clauses : bare.Clauses) (rest : List ℕ) : Type 0 where
    pub at : ℕ
    pub count : ℕ
    pub ended : Bool
    pub bodies : List Document
    pub met : List bare.Document
    pub kept : so_far b bodies [] ≡ so_far b ds [] ++ met
    pub behind : drop at b ≡ front rest
    pub total : count ≡ n + m
    pub reads : (body : ℕ → Document) → Fits b body (length (so_far b ds [])) met
        → (cs : List Clause) × ReadsClauses limit b body (place i n k closed [] ds) (place at count k ended [] bodies) cs × (clauses_from b cs ≡ clauses)

  pub record PrintsClauses (limit k d m : ℕ) (clauses : bare.Clauses) : Type 0 where
    pub straight : (rest : List ℕ) → Gap rest → is_newline_lead (lead_at (front (clauses_text d clauses ++ esac_text d rest)) First 0) ≡ false
    pub print : (i n : ℕ) (closed : Bool) (ds : List Document) (rest : List ℕ) → drop i b ≡ front (clauses_text d clauses ++ esac_text d rest) → Gap rest → PrintedClauses limit m i n k closed ds clauses rest

  -- esac
  pub esac_prints : {limit k : ℕ} (d : ℕ) → PrintsClauses limit k d 0 bare.no_clauses
  unfolding items_text reserved_text clauses_from
  esac_prints d = record {
    straight = λ rest gap. ap (λ t. is_newline_lead (lead_at t First 0)) (line_front d word.Esac rest) ∙ ap is_newline_lead (reserved_leads word.Esac rest gap);
    print = λ i n closed ds rest e gap.
        let here : drop i b ≡ codes "esac" ++ rest = e ∙ line_front d word.Esac rest in
        record {
          at = blanks false b (i + 4);
          count = n;
          ended = closed;
          bodies = ds;
          met = [];
          kept = sym (append-nil (so_far b ds []));
          behind = fronted b (i + 4) rest (off b i (codes "esac") rest here);
          total = (let none : n ≡ n + 0 = omega arith in none);
          reads = λ body f. ([], r.esac (lead_there b First i _ here ∙ reserved_leads word.Esac rest gap), refl);
        };
  }

  -- the mark at the end of a clause
  record EndStands (end : ClauseEnd) (cs : List ℕ) : Type 0 where
    front_is : front (clause_end_text end ++ 10 ∷ cs) ≡ clause_end_text end ++ 10 ∷ cs
    is_end : clause_end_of (lead_at (clause_end_text end ++ 10 ∷ cs) First 0) ≡ Some end
    none : begins_pipeline (lead_at (clause_end_text end ++ 10 ∷ cs) First 0) ≡ false
    straight : is_newline_lead (lead_at (clause_end_text end ++ 10 ∷ cs) First 0) ≡ false
    long : length (clause_end_text end) ≡ 2

  end_stands : (end : ClauseEnd) (cs : List ℕ) → EndStands end cs
  unfolding clause_end_of begins_pipeline begins_command begins_simple begins_compound is_redirection redirects
  end_stands clause_end.Break cs =
      let is = break_leads First (10 ∷ cs) line in
      record { front_is = front_none 59 (59 ∷ 10 ∷ cs) refl refl refl; is_end = ap clause_end_of is; none = ap begins_pipeline is; straight = ap is_newline_lead is; long = refl }
  end_stands clause_end.FallThrough cs =
      let is = through_leads First (10 ∷ cs) line in
      record { front_is = front_none 59 (38 ∷ 10 ∷ cs) refl refl refl; is_end = ap clause_end_of is; none = ap begins_pipeline is; straight = ap is_newline_lead is; long = refl }

  -- The pieces of a clause

  -- a clause from its `(` on, before further clauses
  abbrev behind_clauses : ℕ → bare.Clauses → List ℕ → List ℕ
  behind_clauses d clauses rest = clauses_text d clauses ++ esac_text d rest

  abbrev behind_list : ℕ → ClauseEnd → bare.Clauses → List ℕ → List ℕ
  behind_list d end clauses rest = tabs (d + 2) ++ (clause_end_text end ++ 10 ∷ behind_clauses d clauses rest)

  abbrev behind_patterns : ℕ → bare.Items → ClauseEnd → bare.Clauses → List ℕ → List ℕ
  behind_patterns d items end clauses rest = 10 ∷ (items_text (d + 2) items ++ behind_list d end clauses rest)

  clause_text : (d : ℕ) (patterns : List Text) (items : bare.Items) (end : ClauseEnd) (clauses : bare.Clauses) (rest : List ℕ)
      → front (clauses_text d (bare.more_clauses patterns items end clauses) ++ esac_text d rest) ≡ 40 ∷ (patterns_text patterns ++ 41 ∷ behind_patterns d items end clauses rest)
  unfolding items_text
  clause_text d patterns items end clauses rest =
      let mark = clause_end_text end in
      let inside = items_text (d + 2) items in
      let own = mark ++ 10 ∷ clauses_text d clauses in
      let tail = esac_text d rest in
      ap front (append_assoc (tabs (d + 1)) (40 ∷ (patterns_text patterns ++ (41 ∷ 10 ∷ (inside ++ (tabs (d + 2) ++ own))))) tail)
      ∙ front_tabs (d + 1) ((40 ∷ (patterns_text patterns ++ (41 ∷ 10 ∷ (inside ++ (tabs (d + 2) ++ own))))) ++ tail)
      ∙ front_none 40 ((patterns_text patterns ++ (41 ∷ 10 ∷ (inside ++ (tabs (d + 2) ++ own)))) ++ tail) refl refl refl
      ∙ ap (λ t. 40 ∷ t) (append_assoc (patterns_text patterns) (41 ∷ 10 ∷ (inside ++ (tabs (d + 2) ++ own))) tail
      ∙ ap (λ t. patterns_text patterns ++ 41 ∷ 10 ∷ t) (append_assoc inside (tabs (d + 2) ++ own) tail
      ∙ ap (λ t. inside ++ t) (append_assoc (tabs (d + 2)) own tail ∙ ap (λ t. tabs (d + 2) ++ t) (append_assoc mark (10 ∷ clauses_text d clauses) tail))))

  clause_reads : {limit : ℕ} {body : ℕ → Document} {s a v q z : State} {ws : List Word} {t : Script} {end : ClauseEnd} {cs : List Clause} (x : List ℕ) → drop s.spot.at b ≡ 40 ∷ x
      → ReadsPatterns limit b (behind_token b (codes "(") s) a ws → ReadsSequence limit b body (behind_token b (codes ")") a) v t → clause_end_of (lead_here b v) ≡ Some end
      → ReadsBreaks limit b (behind_token b (codes ";;") v) q → ReadsClauses limit b body q z cs → ReadsClauses limit b body s z (tree.clause ws t end ∷ cs)
  clause_reads {limit = limit} {s = s} {a = a} {ws = ws} x e patterns list ends breaks others =
      r.more_clauses (ap is_esac (lead_there b First s.spot.at (40 ∷ x) e) ∙ open_is_no_esac x)
      (subst (λ l. ReadsPatterns limit b (if is_open l then behind_token b (codes "(") s else s) a ws) (sym (lead_there b (Named false) s.spot.at (40 ∷ x) e ∙ open_leads false x)) patterns)
      list ends breaks others

  clause_same : (ws : List Word) (t : Script) (end : ClauseEnd) (cs : List Clause) (patterns : List Text) (items : bare.Items) (clauses : bare.Clauses) → map (word_of b) ws ≡ patterns → script_of b t ≡ items
      → clauses_from b cs ≡ clauses → clauses_from b (tree.clause ws t end ∷ cs) ≡ bare.more_clauses patterns items end clauses
  clause_same ws t end cs patterns items others h k l =
      clause_made b ws t end cs ∙ ap (λ m. bare.more_clauses m (script_of b t) end (clauses_from b cs)) h
      ∙ ap (λ m. bare.more_clauses patterns m end (clauses_from b cs)) k ∙ ap (bare.more_clauses patterns items end) l

  -- the list of a clause and its mark, from its newline to the token after the newline of the mark
  record PrintedInside (limit m i n k : ℕ) (closed : Bool) (ds : List Document) (items : bare.Items) (end : ClauseEnd) (cs : List ℕ) : Type 0 where
    at : ℕ
    count : ℕ
    ended : Bool
    bodies : List Document
    met : List bare.Document
    mark : State
    kept : so_far b bodies [] ≡ so_far b ds [] ++ met
    behind : drop at b ≡ front cs
    total : count ≡ n + m
    ends : clause_end_of (lead_here b mark) ≡ Some end
    breaks : ReadsBreaks limit b (behind_token b (codes ";;") mark) (place at count k ended [] bodies)
    reads : (body : ℕ → Document) → Fits b body (length (so_far b ds [])) met
        → (t : Script) × ReadsSequence limit b body (place i n k closed [] ds) mark t × (script_of b t ≡ items)

  inside_print : {limit k m : ℕ} {items : bare.Items} (d : ℕ) (end : ClauseEnd) → PrintsSequence limit k (d + 2) m items → (i n : ℕ) (closed : Bool) (ds : List Document) (cs : List ℕ)
      → drop i b ≡ 10 ∷ (items_text (d + 2) items ++ (tabs (d + 2) ++ (clause_end_text end ++ 10 ∷ cs))) → is_newline_lead (lead_at (front cs) First 0) ≡ false → PrintedInside limit m i n k closed ds items end cs
  inside_print {limit = limit} {k = k} {items = items} d end list i n closed ds cs e straight =
      let text = clause_end_text end ++ 10 ∷ cs in
      let ends = end_stands end cs in
      let here : front (tabs (d + 2) ++ text) ≡ text = front_tabs (d + 2) text ∙ ends.front_is in
      let one = list.print i n closed ds (tabs (d + 2) ++ text) e
      (record { none = ap (λ t. begins_pipeline (lead_at t First 0)) here ∙ ends.none; straight = ap (λ t. is_newline_lead (lead_at t First 0)) here ∙ ends.straight }) in
      let marked : drop one.at b ≡ text = one.behind ∙ here in
      let q = blanks false b (one.at + 2) in
      let line_there : drop q b ≡ 10 ∷ cs =
      fronted b (one.at + 2) (10 ∷ cs) (ap (λ m. drop (one.at + m) b) (sym ends.long) ∙ off b one.at (clause_end_text end) (10 ∷ cs) marked) ∙ front_none 10 cs refl refl refl in
      let p = break_print b limit q one.count k one.ended [] one.bodies [] cs no_mark line_there straight in
      record {
        at = p.at;
        count = p.count;
        ended = one.ended;
        bodies = p.bodies;
        met = one.met;
        mark = place one.at one.count k one.ended [] one.bodies;
        kept = p.kept ∙ one.kept;
        behind = p.behind;
        total = (let all = p.total in let first = one.total in omega arith);
        ends = ap clause_end_of (lead_there b First one.at text marked) ∙ ends.is_end;
        breaks = p.reads;
        reads = one.reads;
      }

  -- ( patterns ), a list or nothing, the mark at the end, and further clauses
  pub clause_prints : {limit k m o later : ℕ} {patterns : List Text} {items : bare.Items} {end : ClauseEnd} {clauses : bare.Clauses} (d : ℕ) → PrintablePatterns limit k m patterns → PrintsSequence limit k (d + 2) o items
      → PrintsClauses limit k d later clauses → PrintsClauses limit k d (m + o + later) (bare.more_clauses patterns items end clauses)
  clause_prints {limit = limit} {k = k} {patterns = patterns} {items = items} {end = end} {clauses = clauses} d printable list others = record {
    straight = λ rest gap. ap (λ t. is_newline_lead (lead_at t First 0)) (clause_text d patterns items end clauses rest) ∙ open_straight (patterns_text patterns ++ 41 ∷ behind_patterns d items end clauses rest);
    print = λ i n closed ds rest e gap.
        let inner = behind_patterns d items end clauses rest in
        let x = patterns_text patterns ++ 41 ∷ inner in
        let here : drop i b ≡ 40 ∷ x = e ∙ clause_text d patterns items end clauses rest in
        let words = patterns_print printable (blanks false b (i + 1)) n closed ds inner (fronted b (i + 1) x (one_off b i here) ∙ patterns_start printable inner) in
        let v = blanks false b (words.at + 1) in
        let there : drop v b ≡ inner = fronted b (words.at + 1) inner (one_off b words.at words.behind) ∙ front_none 10 (items_text (d + 2) items ++ behind_list d end clauses rest) refl refl refl in
        let one = inside_print d end list v words.count closed ds (behind_clauses d clauses rest) there (others.straight rest gap) in
        let two = others.print one.at one.count one.ended one.bodies rest one.behind gap in
        record {
          at = two.at;
          count = two.count;
          ended = two.ended;
          bodies = two.bodies;
          met = one.met ++ two.met;
          kept = kept_both (so_far b ds []) (so_far b one.bodies []) (so_far b two.bodies []) one.met two.met one.kept two.kept;
          behind = two.behind;
          total = (let all = two.total in let second = one.total in let first = words.total in omega arith);
          reads = λ body f.
              let parts = fits_both b (so_far b ds []) (so_far b one.bodies []) one.met two.met one.kept f in
              let t = one.reads body parts.0 in
              let cs = two.reads body parts.1 in
              (tree.clause words.words t.0 end ∷ cs.0, clause_reads x here words.reads t.1 one.ends one.breaks cs.1, clause_same words.words t.0 end cs.0 patterns items clauses words.same t.2 cs.2);
        };
  }

  -- case WORD in, its clauses and esac
  pub case_prints : {limit k m o : ℕ} {w : Text} {form : Form} {clauses : bare.Clauses} (d : ℕ) → k < limit → TokenOf (Named false) w → PrintableWord limit (k + 1) false Unsplit form m w
      → PrintsClauses limit (k + 1) d o clauses → PrintsCompound b limit k d (m + o) (bare.Case w clauses)
  unfolding items_text reserved_text begins_compound context_of is_first
  case_prints {limit = limit} {k = k} {m = m} {w = w} {form = form} {clauses = clauses} d deep token printable inner = record {
    print = λ i n closed ds rest e close.
        let c = clauses_text d clauses ++ esac_text d rest in
        let in_text = codes "in" ++ 10 ∷ c in
        let after = 32 ∷ in_text in
        let e1 : drop i b ≡ codes "case" ++ 32 ∷ (w ++ after) =
        e ∙ ap (λ t. codes "case " ++ t) (append_assoc w (codes " in" ++ 10 ∷ (clauses_text d clauses ++ (tabs d ++ codes "esac"))) rest
        ∙ ap (λ t. w ++ (codes " in" ++ 10 ∷ t)) (append_assoc (clauses_text d clauses) (tabs d ++ codes "esac") rest ∙ ap (λ t. clauses_text d clauses ++ t) (append_assoc (tabs d) (codes "esac") rest))) in
        let behind : IsBehindWord after = blank_word in_text (record { front_is = reserved_front word.In (10 ∷ c); closed = refl }) in
        let j = blanks false b (i + 4) in
        let e2 : drop j b ≡ w ++ after = fronted b (i + 4) (32 ∷ (w ++ after)) (off b i (codes "case") (32 ∷ (w ++ after)) e1) ∙ front_blank 32 (w ++ after) refl ∙ (token_starts w after token behind).front_is in
        let one = word_print b limit j n (k + 1) closed [] ds false Unsplit form w after printable no_waits e2 behind in
        let p = blanks false b (j + length w) in
        let e3 : drop p b ≡ in_text = one.behind ∙ front_blank 32 in_text refl ∙ reserved_front word.In (10 ∷ c) in
        let in_is = lead_there b First p in_text e3 ∙ reserved_leads word.In (10 ∷ c) line in
        let break = break_print b limit (blanks false b (p + 2)) (n + m) (k + 1) closed [] ds [] c no_mark
        (fronted b (p + 2) (10 ∷ c) (off b p (codes "in") (10 ∷ c) e3) ∙ front_none 10 c refl refl refl) (inner.straight rest close.gap) in
        let two = inner.print break.at break.count closed break.bodies rest break.behind close.gap in
        record {
          at = two.at;
          count = two.count;
          ended = two.ended;
          bodies = two.bodies;
          met = two.met;
          first = lead.Reserved word.Case;
          first_is = lead_there b First i _ e1 ∙ reserved_leads word.Case (32 ∷ (w ++ after)) blank;
          begins = refl;
          kept = two.kept ∙ ap (λ t. t ++ two.met) break.kept;
          behind = two.behind;
          total = (let all = two.total in let first = break.total in omega arith);
          reads = λ body f.
              let cs = two.reads body (subst (λ x. Fits b body (length x) two.met) (sym break.kept) f) in
              let x = tree.word j (j + length w) one.parts in (
                kind.Branches x cs.0,
                r.case_of deep (ap is_word (token.is_lead b after j e2 behind)) one.reads (r.no_break (ap is_newline_lead in_is)) in_is break.reads cs.1,
                kind_of-Branches b x cs.0 ∙ ap (λ t. bare.Case t (clauses_from b cs.0)) one.word_is ∙ ap (bare.Case w) cs.2,
              );
        };
  }
