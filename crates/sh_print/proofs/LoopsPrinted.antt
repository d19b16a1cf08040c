-- A printed loop over words is read, given that the list in it is.
use Rattle.std.proofs.Common.{◌≡◌, ℕ, ◌+◌, ◌<◌, Bool, true, false, Option, Some, None, List, [], ◌∷◌, ◌++◌, length, drop, map, codes, refl, sym, ap, subst, ◌∙◌, append_assoc, arith}
use Rattle.std.specs.List.{flat_map}
use Rattle.sh_copies.specs.Copied.{Field, context_of, IsBehindWord}
use Rattle.sh_tree.specs.declared.tree.Kind.TheVariants as kind
use Rattle.sh_tree.specs.declared.tree.Word.{Word}
use Rattle.sh_tree.specs.declared.token.command.Lead.TheVariants as lead
use Rattle.sh_tree.specs.declared.token.command.Reserved.TheVariants as word
use Rattle.sh_tree.specs.declared.token.command.Stage.TheVariants.{First, Named}
use Rattle.sh_tree.specs.standard.Tree.{text_of}
use Rattle.sh_tree.specs.standard.language.Commands.{lead_at, blanks, begins_compound, is_newline_lead, is_word, name_end, separator}
use Rattle.sh_tree.specs.standard.language.Contexts.{in_stage}
use Rattle.sh_tree.specs.standard.language.Reading as r
use Rattle.sh_tree.specs.standard.language.Reading.{ReadsForWords, ReadsWords}
use Rattle.sh_tree.specs.standard.language.States.{Document, waits}
use Rattle.sh_tree.specs.standard.language.Trees as tree
use Rattle.sh_tree.specs.standard.language.Trees.{span}
use Rattle.sh_print.specs.Bare as bare
use Rattle.sh_print.specs.Bare.{Text}
use Rattle.sh_print.specs.Layout.{tabs, block, items_text, for_words_text}
use Rattle.sh_print.specs.Lists.{words_from}
use Rattle.sh_print.specs.Trees.{word_of, script_of}
use Rattle.sh_print.proofs.TreeLemmas.{kind_of-For}
use Rattle.sh_print.proofs.PlaceLemmas.{front, front_blank, front_none, front_tabs, fronted, lead_there, off}
use Rattle.sh_print.proofs.OwnTokens.{Gap, blank, line, reserved_text, reserved_leads, newline_leads}
use Rattle.sh_print.proofs.NameTokens.{Name, name_ends, for_name, name_first}
use Rattle.sh_print.proofs.RedirectTokens.{text_there}
use Rattle.sh_print.proofs.DocumentsPrinted.{place, so_far, Fits, no_mark, break_print}
use Rattle.sh_print.proofs.ElementsPrinted.{gap_word, token_starts, blank_word, word_print}
use Rattle.sh_print.proofs.JoinsPrinted.{end_print, line_tail}
use Rattle.sh_print.proofs.ListsPrinted.{PrintsList, do_print, block_text, reserved_front}
use Rattle.sh_print.proofs.CompoundsPrinted.{PrintsCompound}
use Rattle.sh_print.proofs.Printable as p
use Rattle.sh_print.proofs.Printable.{PrintableWords, PrintableForWords}

pub no_waits : waits [] ≡ true → false ≡ true
unfolding waits
no_waits h = h

module _ (b : List ℕ) where
  -- The words of `for`

  abbrev words_text : List Text → List ℕ
  words_text ws = flat_map (λ w. 32 ∷ w) ws

  behind_words : {limit k m : ℕ} {ws : List Text} → PrintableWords limit k m ws → (cs : List ℕ) → IsBehindWord (words_text ws ++ 10 ∷ cs)
  behind_words p.no_words cs = gap_word (10 ∷ cs) line (line_tail cs).closed
  behind_words (p.more_words {w = w} {ws = ws} token printable more) cs =
      subst IsBehindWord (sym (append_assoc (32 ∷ w) (words_text ws) (10 ∷ cs)))
      (blank_word (w ++ (words_text ws ++ 10 ∷ cs)) (token_starts w (words_text ws ++ 10 ∷ cs) token (behind_words more cs)))

  record PrintedWords (limit m i n k : ℕ) (closed : Bool) (ds : List Document) (ws : List Text) (cs : List ℕ) : Type 0 where
    at : ℕ
    count : ℕ
    behind : drop at b ≡ 10 ∷ cs
    words : List Word
    reads : ReadsWords limit b (place i n k closed [] ds) (place at count k closed [] ds) words
    same : map (word_of b) words ≡ ws
    total : count ≡ n + m

  words_print : {limit k m : ℕ} {ws : List Text} → PrintableWords limit k m ws → (i n : ℕ) (closed : Bool) (ds : List Document) (cs : List ℕ) → drop i b ≡ front (words_text ws ++ 10 ∷ cs)
      → PrintedWords limit m i n k closed ds ws cs
  unfolding context_of in_stage
  words_print p.no_words i n closed ds cs e =
      let here : drop i b ≡ 10 ∷ cs = e ∙ front_none 10 cs refl refl refl in
      record { at = i; count = n; behind = here; words = []; reads = r.no_word (ap is_word (lead_there b (Named false) i (10 ∷ cs) here ∙ newline_leads (Named false) cs)); same = refl; total = (let e : n ≡ n + 0 = omega arith in e) }
  words_print {limit = limit} {k = k} (p.more_words {m = m} {w = w} {ws = ws} {form = form} token printable more) i n closed ds cs e =
      let later = words_text ws ++ 10 ∷ cs in
      let behind = behind_words more cs in
      let e1 : drop i b ≡ w ++ later = e ∙ ap front (append_assoc (32 ∷ w) (words_text ws) (10 ∷ cs)) ∙ front_blank 32 (w ++ later) refl ∙ (token_starts w later token behind).front_is in
      let one = word_print b limit i n k closed [] ds false (Field (Named false)) form w later printable no_waits e1 behind in
      let x = tree.word i (i + length w) one.parts in
      let others = words_print more (blanks false b (i + length w)) (n + m) closed ds cs one.behind in
      record {
        at = others.at;
        count = others.count;
        behind = others.behind;
        words = x ∷ others.words;
        reads = r.more_words (ap is_word (token.is_lead b later i e1 behind)) one.reads others.reads;
        same = ap (λ t. t ∷ map (word_of b) others.words) one.word_is ∙ ap (λ ts. w ∷ ts) others.same;
        total = (let all = others.total in omega arith);
      }

  -- what is between the name and `do`, from the token after the name
  record PrintedForWords (limit m i n k : ℕ) (closed : Bool) (ds : List Document) (ws : Option (List Text)) (rest : List ℕ) : Type 0 where
    at : ℕ
    count : ℕ
    bodies : List Document
    behind : drop at b ≡ front rest
    kept : so_far b bodies [] ≡ so_far b ds []
    words : Option (List Word)
    reads : ReadsForWords limit b (place i n k closed [] ds) (place at count k closed [] bodies) words
    same : words_from b words ≡ ws
    total : count ≡ n + m

  for_words_print : {limit k m : ℕ} {ws : Option (List Text)} → PrintableForWords limit k m ws → (i n : ℕ) (closed : Bool) (ds : List Document) (rest : List ℕ) → drop i b ≡ front (for_words_text ws ++ 10 ∷ rest)
      → lead_at (front rest) First 0 ≡ lead.Reserved word.Do → PrintedForWords limit m i n k closed ds ws rest
  unfolding reserved_text separator
  for_words_print {limit = limit} {k = k} p.arguments i n closed ds rest e do_is =
      let here : drop i b ≡ 10 ∷ rest = e ∙ front_none 10 rest refl refl refl in
      let p = break_print b limit i n k closed [] ds [] rest no_mark here (ap is_newline_lead do_is) in
      record {
        at = p.at;
        count = p.count;
        bodies = p.bodies;
        behind = p.behind;
        kept = p.kept;
        words = None;
        reads = r.arguments p.reads (lead_there b First p.at (front rest) p.behind ∙ do_is);
        same = refl;
        total = p.total;
      }
  for_words_print {limit = limit} {k = k} (p.listed {ws = ws} printable) i n closed ds rest e do_is =
      let list = words_text ws ++ 10 ∷ rest in
      let here : drop i b ≡ codes "in" ++ list = e ∙ ap front (append_assoc (codes " in") (words_text ws) (10 ∷ rest)) ∙ front_blank 32 (codes "in" ++ list) refl ∙ reserved_front word.In list in
      let gap : Gap list = words_gap ws rest in
      let in_is = lead_there b First i (codes "in" ++ list) here ∙ reserved_leads word.In list gap in
      let j = blanks false b (i + 2) in
      let words = words_print printable j n closed ds rest (fronted b (i + 2) list (off b i (codes "in") list here)) in
      let p = end_print b {limit = limit} no_mark words.at words.count k closed ds false rest (words.behind ∙ sym (front_none 10 rest refl refl refl)) (ap is_newline_lead do_is) in
      record {
        at = p.at;
        count = p.count;
        bodies = p.bodies;
        behind = p.behind;
        kept = p.kept;
        words = Some words.words;
        reads = r.listed (r.no_break (ap is_newline_lead in_is)) in_is words.reads p.separates p.reads;
        same = ap Some words.same;
        total = (let all = p.total in let first = words.total in omega arith);
      }
    where
      words_gap : (ws : List Text) (rest : List ℕ) → Gap (words_text ws ++ 10 ∷ rest)
      words_gap [] rest = line
      words_gap (w ∷ ws) rest = blank

  name_ends_gap : (i : ℕ) (w rest : List ℕ) → Name w → Gap rest → drop i b ≡ w ++ rest → name_end b i ≡ i + length w
  name_ends_gap i w _ name (blank {r = r}) e = name_ends b i w 32 r name refl e
  name_ends_gap i w _ name (line {r = r}) e = name_ends b i w 10 r name refl e

  for_gap : (ws : Option (List Text)) (rest : List ℕ) → Gap (for_words_text ws ++ 10 ∷ rest)
  for_gap None rest = line
  for_gap (Some ws) rest = blank

  -- for NAME, its words, do, a list and done
  pub for_prints : {limit k m o : ℕ} {name : Text} {ws : Option (List Text)} {items : bare.Items} (d : ℕ) → k < limit → Name name → PrintableForWords limit (k + 1) m ws → PrintsList b limit (k + 1) (d + 1) o items
      → PrintsCompound b limit k d (m + o) (bare.For name ws items)
  unfolding items_text reserved_text begins_compound
  for_prints {k = k} {name = name} {ws = ws} {items = items} d deep named printable list = record {
    print = λ i n closed ds rest e close.
        let do_block = block d (codes "do") (items_text (d + 1) items) in
        let do_text = do_block ++ (codes "done" ++ rest) in
        let same = block_text d (codes "do") (items_text (d + 1) items) (codes "done" ++ rest) in
        let inner = 10 ∷ (items_text (d + 1) items ++ (tabs d ++ (codes "done" ++ rest))) in
        let tail = tabs d ++ do_text in
        let do_front : front tail ≡ do_text = front_tabs d do_text ∙ ap front same ∙ reserved_front word.Do inner ∙ sym same in
        let do_is : lead_at (front tail) First 0 ≡ lead.Reserved word.Do = ap (λ t. lead_at t First 0) (do_front ∙ same) ∙ reserved_leads word.Do inner line in
        let after = for_words_text ws ++ 10 ∷ tail in
        let e1 : drop i b ≡ codes "for" ++ 32 ∷ (name ++ after) =
        e ∙ ap (λ t. codes "for " ++ t) (
        append_assoc name (for_words_text ws ++ (10 ∷ tabs d ++ (do_block ++ codes "done"))) rest
        ∙ ap (λ t. name ++ t) (append_assoc (for_words_text ws) (10 ∷ tabs d ++ (do_block ++ codes "done")) rest
        ∙ ap (λ t. for_words_text ws ++ 10 ∷ t) (append_assoc (tabs d) (do_block ++ codes "done") rest ∙ ap (λ t. tabs d ++ t) (append_assoc do_block (codes "done") rest)))) in
        let j = blanks false b (i + 3) in
        let e2 : drop j b ≡ name ++ after = fronted b (i + 3) (32 ∷ (name ++ after)) (off b i (codes "for") (32 ∷ (name ++ after)) e1) ∙ front_blank 32 (name ++ after) refl ∙ (name_first name after named).0 in
        let end = name_ends_gap j name after named (for_gap ws tail) e2 in
        let v = blanks false b (name_end b j) in
        let words = for_words_print printable v n closed ds tail (fronted b (name_end b j) after (ap (λ m. drop m b) end ∙ off b j name after e2)) do_is in
        let two = do_print b d list words.at words.count closed words.bodies rest (words.behind ∙ do_front) close.gap in
        record {
          at = two.at;
          count = two.count;
          ended = two.ended;
          bodies = two.bodies;
          met = two.met;
          first = lead.Reserved word.For;
          first_is = lead_there b First i _ e1 ∙ reserved_leads word.For (32 ∷ (name ++ after)) blank;
          begins = refl;
          kept = two.kept ∙ ap (λ t. t ++ two.met) words.kept;
          behind = two.behind;
          total = (let all = two.total in let first = words.total in omega arith);
          reads = λ body f.
              let t = two.reads body (subst (λ x. Fits b body (length x) two.met) (sym words.kept) f) in (
                kind.For (span j (name_end b j)) words.words t.0,
                r.for_loop deep (for_name b j name after named (for_gap ws tail) e2) words.reads t.1,
                kind_of-For b (span j (name_end b j)) words.words t.0
                    ∙ ap (λ m. bare.For (text_of b (span j m)) (words_from b words.words) (script_of b t.0)) end
                    ∙ ap (λ m. bare.For m (words_from b words.words) (script_of b t.0)) (text_there b j name after e2)
                    ∙ ap (λ m. bare.For name m (script_of b t.0)) words.same ∙ ap (bare.For name ws) t.2,
              );
        };
  }
