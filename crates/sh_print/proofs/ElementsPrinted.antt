-- Printed elements of a simple command and redirections of a compound command are read.
use Rattle.std.proofs.Common.{◌≡◌, ℕ, ◌+◌, Bool, true, false, not, ◌&&◌, ◌||◌, List, [], ◌∷◌, ◌++◌, length, drop, map, refl, sym, ap, subst, ◌∙◌, arith, append_assoc, append-nil}
use Rattle.std.proofs.Math.Bool.{or-true}
use Rattle.std.specs.List.{flat_map, list_any}
use Rattle.std.specs.Option.{option_map}
use Rattle.std.proofs.lemmas.Bool.{true≢false}
use Rattle.std.proofs.lemmas.Bool.Decides.{nat_tests}
use Rattle.sh_copies.specs.Copied.{Role, Field, Unsplit, Form, form_of, context_of, IsBehindWord, counted, TokenOf, begins_word}
use Rattle.sh_tree.specs.declared.tree.Element.{Element}
use Rattle.sh_tree.specs.declared.tree.Element.TheVariants as element
use Rattle.sh_tree.specs.declared.tree.Part.{Part}
use Rattle.sh_tree.specs.declared.tree.Redirect.{Redirect}
use Rattle.sh_tree.specs.declared.tree.Target.TheVariants as target
use Rattle.sh_tree.specs.declared.token.command.Stage.{Stage}
use Rattle.sh_tree.specs.declared.token.command.Stage.TheVariants.{First, Prefixed, Named}
use Rattle.sh_tree.specs.standard.Tree.{text_of}
use Rattle.sh_tree.specs.standard.language.Bytes.{is_newline, is_first}
use Rattle.sh_tree.specs.standard.language.Commands.{lead_at, blanks, is_parenthesis, is_word, is_redirection, begins_simple, name_end, direction_of, strip_of}
use Rattle.sh_tree.specs.standard.language.HereDocuments.{Mark, is_static, is_delimiter, delimiter_of}
use Rattle.sh_tree.specs.standard.language.Reading as r
use Rattle.sh_tree.specs.standard.language.Reading.{ReadsWord, ReadsRedirect, ReadsRedirects, ReadsElements, stage_behind}
use Rattle.sh_tree.specs.standard.language.States.{Document, facing, to, waits}
use Rattle.sh_tree.specs.standard.language.Trees as tree
use Rattle.sh_tree.specs.standard.language.Trees.{span}
use Rattle.sh_tree.proofs.Inversions.{redirection_is_simple, no_redirection}
use Rattle.sh_print.specs.Bare as bare
use Rattle.sh_print.specs.Layout.{opens_text, number_text, redirect_text, element_text, redirect_documents, element_documents}
use Rattle.sh_print.specs.Trees.{word_of, opened_of, redirect_of, element_of}
use Rattle.sh_print.proofs.TreeLemmas.{element_of-Assignment, element_of-Word, element_of-Redirection, opens_of-File, opens_of-Here, opened_of-File, opened_of-Here}
use Rattle.sh_print.proofs.PlaceLemmas.{front, front_blank, fronted, lead_there, off, one_off}
use Rattle.sh_print.proofs.OwnTokens.{Gap, blank, line}
use Rattle.sh_print.proofs.NameTokens.{name_ends, assignment_leads, name_first}
use Rattle.sh_print.proofs.RedirectTokens.{text_there, redirection_text, redirect_begins, redirect_first, sign_directs, sign_strips}
use Rattle.sh_print.proofs.DocumentsPrinted.{place, document_of, so_far, Fits, fits_first, fits_parts, Marked, no_mark, one_mark, marked_join, count_is}
use Rattle.sh_print.proofs.Printable as p
use Rattle.sh_print.proofs.Printable.{PrintableWord, PrintableRedirect, PrintableRedirects, PrintableElements, is_here, stage_after, mark_of}

-- What follows a word, a command or a list

-- after a command: a blank or a newline, and no element and no redirection at the next token
pub record IsTail (rest : List ℕ) : Type 0 where
  pub gap : Gap rest
  pub closed : is_first is_parenthesis (front rest) ≡ false
  pub ends : (g : Stage) → begins_simple (lead_at (front rest) g 0) ≡ false

-- after a closing word
pub record IsClosed (rest : List ℕ) : Type 0 where
  pub gap : Gap rest
  pub closed : is_first is_parenthesis (front rest) ≡ false

pub gap_word : (rest : List ℕ) → Gap rest → is_first is_parenthesis (front rest) ≡ false → IsBehindWord rest
unfolding is_first
gap_word _ (blank {r = r}) h = record { ends = refl; opens_nothing = h }
gap_word _ (line {r = r}) h = record { ends = refl; opens_nothing = h }

pub tail_word : (rest : List ℕ) → IsTail rest → IsBehindWord rest
tail_word rest t = gap_word rest t.gap t.closed

-- a token is at the start of a text, and it is no `(`
pub record Starts (cs : List ℕ) : Type 0 where
  pub front_is : front cs ≡ cs
  pub closed : is_first is_parenthesis cs ≡ false

pub token_starts : {g : Stage} (w rest : List ℕ) → TokenOf g w → IsBehindWord rest → Starts (w ++ rest)
unfolding is_first
token_starts [] rest t h = absurd (true≢false (sym t.first))
token_starts (c ∷ w) rest t h = record { front_is = ap (λ n. drop n (c ∷ w ++ rest)) (t.at_token rest h); closed = closes c t.first }
  where
    closes : (c : ℕ) → begins_word c ≡ true → is_parenthesis c ≡ false
    closes c h = grind (arith, nat_tests)

-- after a blank, a token
pub blank_word : (cs : List ℕ) → Starts cs → IsBehindWord (32 ∷ cs)
blank_word cs s = gap_word (32 ∷ cs) blank (ap (is_first is_parenthesis) (front_blank 32 cs refl ∙ s.front_is) ∙ s.closed)

redirect_whole : (q : bare.Redirect) (rest : List ℕ) → redirect_text q ++ rest ≡ redirection_text q.number q.opens (q.word ++ rest)
redirect_whole q rest = append_assoc (number_text q.number) (opens_text q.opens ++ 32 ∷ q.word) rest ∙ ap (λ t. number_text q.number ++ t) (append_assoc (opens_text q.opens) (32 ∷ q.word) rest)

or_left : (s t : Bool) → s ≡ true → (s || t) ≡ true
or_left s t h = ap (λ x. x || t) h

-- the text of further elements
abbrev pub tail_text : List bare.Element → List ℕ
tail_text es = flat_map (λ t. (32 ∷ []) ++ t) (map element_text es)

redirect_starts : {limit k m : ℕ} {quiet : Bool} (q : bare.Redirect) (rest : List ℕ) → PrintableRedirect limit k quiet m q → Starts (redirect_text q ++ rest)
redirect_starts q rest (p.file {w = w} digits token printable) =
    let first = redirect_first q.number q.opens (w ++ rest) digits in let same = redirect_whole q rest in
    record { front_is = ap front same ∙ first.0 ∙ sym same; closed = ap (is_first is_parenthesis) same ∙ first.1 }
redirect_starts q rest (p.here_document {w = w} digits token printable delimits printed) =
    let first = redirect_first q.number q.opens (w ++ rest) digits in let same = redirect_whole q rest in
    record { front_is = ap front same ∙ first.0 ∙ sym same; closed = ap (is_first is_parenthesis) same ∙ first.1 }

pub element_starts : {limit k m : ℕ} {g : Stage} {quiet : Bool} {e : bare.Element} {es : List bare.Element} → PrintableElements limit k g quiet m (e ∷ es) → (rest : List ℕ) → IsBehindWord rest
    → Starts (element_text e ++ rest)
element_starts (p.assigned_element {name = name} {value = value} stage named printable more) rest behind =
    let first = name_first name ((61 ∷ value) ++ rest) named in
    let same = append_assoc name (61 ∷ value) rest in
    record { front_is = ap front same ∙ first.0 ∙ sym same; closed = ap (is_first is_parenthesis) same ∙ first.1 }
element_starts (p.word_element {w = w} token printable more) rest behind = token_starts w rest token behind
element_starts (p.redirect_element {r = q} printable more) rest behind = redirect_starts q rest printable

blank_element : (x : bare.Element) (es : List bare.Element) (rest : List ℕ) → Starts (element_text x ++ (tail_text es ++ rest)) → IsBehindWord (tail_text (x ∷ es) ++ rest)
blank_element x es rest s =
    subst IsBehindWord (sym (append_assoc (32 ∷ element_text x) (tail_text es) rest)) (blank_word (element_text x ++ (tail_text es ++ rest)) s)

pub behind_element : {limit k m : ℕ} {g : Stage} {quiet : Bool} {es : List bare.Element} → PrintableElements limit k g quiet m es → (rest : List ℕ) → IsTail rest → IsBehindWord (tail_text es ++ rest)
behind_element p.no_elements rest tail = tail_word rest tail
behind_element (p.assigned_element {name = name} {value = value} {es = es} stage named printable more) rest tail =
    blank_element (bare.Assigns name value) es rest (element_starts (p.assigned_element stage named printable more) (tail_text es ++ rest) (behind_element more rest tail))
behind_element (p.word_element {w = w} {es = es} token printable more) rest tail =
    blank_element (bare.Operand w) es rest (element_starts (p.word_element token printable more) (tail_text es ++ rest) (behind_element more rest tail))
behind_element (p.redirect_element {r = q} {es = es} printable more) rest tail =
    blank_element (bare.Redirects q) es rest (element_starts (p.redirect_element printable more) (tail_text es ++ rest) (behind_element more rest tail))

-- an element after a blank
pub over_blank : (x : bare.Element) (es : List bare.Element) (rest : List ℕ) → Starts (element_text x ++ (tail_text es ++ rest)) → front (tail_text (x ∷ es) ++ rest) ≡ element_text x ++ (tail_text es ++ rest)
over_blank x es rest s =
    ap front (append_assoc (32 ∷ element_text x) (tail_text es) rest) ∙ front_blank 32 (element_text x ++ (tail_text es ++ rest)) refl ∙ s.front_is

abbrev pub redirects_text : List bare.Redirect → List ℕ
redirects_text qs = flat_map (λ q. 32 ∷ redirect_text q) qs

pub behind_close : {limit k m : ℕ} {quiet : Bool} {qs : List bare.Redirect} → PrintableRedirects limit k quiet m qs → (rest : List ℕ) → IsTail rest → IsClosed (redirects_text qs ++ rest)
behind_close p.no_redirects rest tail = record { gap = tail.gap; closed = tail.closed }
behind_close (p.more_redirects {r = q} {rs = qs} printable more) rest tail =
    let s = redirect_starts q (redirects_text qs ++ rest) printable in
    let same = append_assoc (32 ∷ redirect_text q) (redirects_text qs) rest in
    record {
      gap = subst Gap (sym same) blank;
      closed = ap (λ t. is_first is_parenthesis (front t)) same ∙ ap (is_first is_parenthesis) (front_blank 32 (redirect_text q ++ (redirects_text qs ++ rest)) refl ∙ s.front_is) ∙ s.closed;
    }

-- the first element
pub first_starts : {limit k m : ℕ} {g : Stage} {quiet : Bool} {e : bare.Element} {es : List bare.Element} → PrintableElements limit k g quiet m (e ∷ es) → (rest : List ℕ) → IsTail rest
    → Starts (element_text e ++ (tail_text es ++ rest))
first_starts (p.assigned_element {es = es} stage named printable more) rest tail = element_starts (p.assigned_element stage named printable more) (tail_text es ++ rest) (behind_element more rest tail)
first_starts (p.word_element {es = es} token printable more) rest tail = element_starts (p.word_element token printable more) (tail_text es ++ rest) (behind_element more rest tail)
first_starts (p.redirect_element {es = es} printable more) rest tail = element_starts (p.redirect_element printable more) (tail_text es ++ rest) (behind_element more rest tail)

module _ (b : List ℕ) where
  -- Words

  pub record PrintedWord (limit m i n k : ℕ) (closed : Bool) (ms : List Mark) (ds : List Document) (role : Role) (form : Form) (w : List ℕ) (rest : List ℕ) : Type 0 where
    pub parts : List Part
    pub reads : ReadsWord limit b (context_of role b i) (facing (place i n k closed ms ds)) (counted (i + length w) (n + m) (facing (place i n k closed ms ds))) (tree.word i (i + length w) parts)
    pub form_is : form_of b (tree.word i (i + length w) parts) ≡ form
    pub word_is : word_of b (tree.word i (i + length w) parts) ≡ w
    pub behind : drop (blanks false b (i + length w)) b ≡ front rest

  pub word_print : (limit i n k : ℕ) (closed : Bool) (ms : List Mark) (ds : List Document) (quiet : Bool) (role : Role) (form : Form) (w : List ℕ) (rest : List ℕ) {m : ℕ} → PrintableWord limit k quiet role form m w
      → (waits ms ≡ true → quiet ≡ true) → drop i b ≡ w ++ rest → IsBehindWord rest → PrintedWord limit m i n k closed ms ds role form w rest
  word_print limit i n k closed ms ds quiet role form w rest printable quietly e behind =
      let read = printable.copied.is_read b rest (facing (place i n k closed ms ds)) e behind (record { depth_is = refl; quiet_only = quietly; joins = refl; tabs = refl }) in
      record {
        parts = read.0;
        reads = read.1;
        form_is = read.2;
        word_is = text_there b i w rest e;
        behind = fronted b (i + length w) rest (off b i w rest e);
      }

  -- Redirections

  pub record PrintedRedirect (limit held m i n k : ℕ) (closed : Bool) (ms : List Mark) (ds : List Document) (waiting : List bare.Document) (quiet : Bool) (q : bare.Redirect) (rest : List ℕ) : Type 0 where
    pub at : ℕ
    pub count : ℕ
    pub marks : List Mark
    -- the commands in what waits
    pub left : ℕ
    pub marked : Marked b limit left marks (waiting ++ redirect_documents q)
    pub total : count + left ≡ n + held + m
    pub quietly : waits marks ≡ true → (quiet || is_here q.opens) ≡ true
    pub behind : drop at b ≡ front rest
    pub begins : (g : Stage) → is_redirection (lead_at b g i) ≡ true
    pub reads : (body : ℕ → Document) → Fits b body (length (so_far b ds waiting)) (redirect_documents q)
        → (x : Redirect) × ReadsRedirect limit b body (place i n k closed ms ds) (place at count k closed marks ds) x × (redirect_of b x ≡ q)

  pub redirect_print : {limit k held m : ℕ} {quiet : Bool} {q : bare.Redirect} → PrintableRedirect limit k quiet m q → (i n : ℕ) (closed : Bool) (ms : List Mark) (ds : List Document) (waiting : List bare.Document) (rest : List ℕ)
      → Marked b limit held ms waiting → (waits ms ≡ true → quiet ≡ true) → drop i b ≡ redirect_text q ++ rest → IsBehindWord rest → PrintedRedirect limit held m i n k closed ms ds waiting quiet q rest
  unfolding context_of is_delimiter delimiter_of
  redirect_print {limit = limit} {k = k} {held = held} {quiet = quiet} (p.file {m = m} {number = number} {direction = direction} {form = form} {w = w} digits token printable) i n closed ms ds waiting rest marked quietly e behind =
      let q : bare.Redirect = record { number = number; opens = bare.File direction; word = w } in
      let begins = redirect_begins b i number (bare.File direction) (w ++ rest) digits (e ∙ redirect_whole q rest) in
      let starts = token_starts w rest token behind in
      let j = blanks false b begins.token.end in
      let e1 : drop j b ≡ w ++ rest = fronted b begins.token.end (32 ∷ (w ++ rest)) begins.behind ∙ front_blank 32 (w ++ rest) refl ∙ starts.front_is in
      let one = word_print limit j n k closed ms ds quiet Unsplit form w rest printable quietly e1 behind in
      let x = tree.word j (j + length w) one.parts in
      record {
        at = blanks false b (j + length w);
        count = n + m;
        marks = ms;
        left = held;
        marked = subst (λ ds. Marked b limit held ms ds) (sym (append-nil waiting)) marked;
        total = (let e : n + m + held ≡ n + held + m = omega arith in e);
        quietly = λ h. or_left quiet false (quietly h);
        behind = one.behind;
        begins = begins.leads;
        reads = λ body f. (
          tree.redirect begins.token.at begins.token.number (target.File direction x),
          r.file begins.is (ap direction_of begins.operator_is ∙ sign_directs direction) (ap is_word (token.is_lead b rest j e1 behind)) one.reads,
          ap (λ o. record { number = option_map (text_of b) begins.token.number; opens = o; word = opened_of b (target.File direction x) }) (opens_of-File b direction x)
              ∙ ap (λ t. record { number = option_map (text_of b) begins.token.number; opens = bare.File direction; word = t }) (opened_of-File b direction x ∙ one.word_is)
              ∙ ap (λ m. record { number = m; opens = bare.File direction; word = w }) begins.number_is,
        );
      }
  redirect_print {limit = limit} {k = k} {held = held} {quiet = quiet} (p.here_document {m = m} {n = o} {number = number} {strip = strip} {document = document} {form = form} {w = w} digits token printable delimits printed) i n closed ms ds waiting rest marked quietly e behind =
      let q : bare.Redirect = record { number = number; opens = bare.Here strip document; word = w } in
      let begins = redirect_begins b i number (bare.Here strip document) (w ++ rest) digits (e ∙ redirect_whole q rest) in
      let starts = token_starts w rest token behind in
      let j = blanks false b begins.token.end in
      let e1 : drop j b ≡ w ++ rest = fronted b begins.token.end (32 ∷ (w ++ rest)) begins.behind ∙ front_blank 32 (w ++ rest) refl ∙ starts.front_is in
      let one = word_print limit j n k closed ms ds quiet Unsplit form w rest printable quietly e1 behind in
      let x = tree.word j (j + length w) one.parts in
      let mark = mark_of strip (form_of b x) k in
      let mine = subst (λ y. p.PrintableDocument limit (mark_of strip y k) o document) (sym one.form_is) printed in
      let delimiter : is_delimiter b x ≡ true =
      ap (λ y. is_static y.text && not y.dollar_quoted && not (list_any is_newline (word_of b x))) one.form_is
      ∙ ap (λ t. is_static form.text && not form.dollar_quoted && not (list_any is_newline t)) one.word_is ∙ delimits in
      record {
        at = blanks false b (j + length w);
        count = n + m;
        marks = ms ++ mark ∷ [];
        left = held + (o + 0);
        marked = marked_join b marked (one_mark mine no_mark);
        total = (let e : n + m + (held + (o + 0)) ≡ n + held + (m + o) = omega arith in e);
        quietly = λ h. or-true quiet;
        behind = one.behind;
        begins = begins.leads;
        reads = λ body f.
            let there : document_of b (body (length ds + length ms)) ≡ document = ap (λ m. document_of b (body m)) (sym (count_is b ds marked)) ∙ fits_first b f in
            let d = body (length ds + length ms) in
            let h = tree.here_doc strip x d.text d.end in (
              tree.redirect begins.token.at begins.token.number (target.Here h),
              r.here_document begins.is (ap strip_of begins.operator_is ∙ sign_strips strip document) (ap is_word (token.is_lead b rest j e1 behind)) one.reads delimiter,
              ap (λ o. record { number = option_map (text_of b) begins.token.number; opens = o; word = opened_of b (target.Here h) }) (opens_of-Here b h)
                  ∙ ap (λ y. record { number = option_map (text_of b) begins.token.number; opens = bare.Here strip y; word = opened_of b (target.Here h) }) there
                  ∙ ap (λ t. record { number = option_map (text_of b) begins.token.number; opens = bare.Here strip document; word = t }) (opened_of-Here b h ∙ one.word_is)
                  ∙ ap (λ m. record { number = m; opens = bare.Here strip document; word = w }) begins.number_is,
            );
      }

  -- Elements

  -- a word's stage is the one after its text
  stage_is : (g : Stage) (w rest : List ℕ) (i : ℕ) → TokenOf g w → drop i b ≡ w ++ rest → IsBehindWord rest → stage_behind b g i ≡ stage_after g w
  stage_is (Named d) w rest i token e behind = refl
  stage_is First w rest i token e behind = ap Named (token.declaring b rest i e behind)
  stage_is Prefixed w rest i token e behind = ap Named (token.declaring b rest i e behind)

  pub record PrintedElements (limit held m i n k : ℕ) (closed : Bool) (g : Stage) (ms : List Mark) (ds : List Document) (waiting : List bare.Document) (es : List bare.Element) (rest : List ℕ) : Type 0 where
    pub at : ℕ
    pub count : ℕ
    pub marks : List Mark
    pub left : ℕ
    pub marked : Marked b limit left marks (waiting ++ flat_map element_documents es)
    pub total : count + left ≡ n + held + m
    pub behind : drop at b ≡ front rest
    pub reads : (body : ℕ → Document) → Fits b body (length (so_far b ds waiting)) (flat_map element_documents es)
        → (xs : List Element) × ReadsElements limit b body g (place i n k closed ms ds) (place at count k closed marks ds) xs × (map (element_of b) xs ≡ es)

  -- the elements from the token at or after a blank on
  pub elements_print : {limit k held m : ℕ} {g : Stage} {quiet : Bool} {es : List bare.Element} → PrintableElements limit k g quiet m es → (i n : ℕ) (closed : Bool) (ms : List Mark) (ds : List Document) (waiting : List bare.Document) (rest : List ℕ)
      → Marked b limit held ms waiting → (waits ms ≡ true → quiet ≡ true) → drop i b ≡ front (tail_text es ++ rest) → IsTail rest → PrintedElements limit held m i n k closed g ms ds waiting es rest
  unfolding context_of
  elements_print {limit = limit} {held = held} {g = g} p.no_elements i n closed ms ds waiting rest marked quietly e tail = record {
    at = i;
    count = n;
    marks = ms;
    left = held;
    marked = subst (λ ds. Marked b limit held ms ds) (sym (append-nil waiting)) marked;
    total = (let e : n + held ≡ n + held + 0 = omega arith in e);
    behind = e;
    reads = λ body f. ([], r.no_element (ap begins_simple (lead_there b g i (front rest) e) ∙ tail.ends g), refl);
  }
  elements_print {limit = limit} {k = k} {g = g} {quiet = quiet} (p.assigned_element {m = m} {name = name} {value = value} {form = form} {es = es} stage named printable more) i n closed ms ds waiting rest marked quietly e tail =
      let later = tail_text es ++ rest in
      let behind = behind_element more rest tail in
      let e1 : drop i b ≡ name ++ 61 ∷ (value ++ later) =
      e ∙ over_blank (bare.Assigns name value) es rest (element_starts (p.assigned_element stage named printable more) later behind) ∙ append_assoc name (61 ∷ value) later in
      let end : name_end b i ≡ i + length name = name_ends b i name 61 (value ++ later) named refl e1 in
      let v = name_end b i + 1 in
      let e2 : drop v b ≡ value ++ later =
      ap (λ m. drop (m + 1) b) end ∙ one_off b (i + length name) (off b i name (61 ∷ (value ++ later)) e1) in
      let one = printable.copied.is_read b later (to v (facing (place i n k closed ms ds))) e2 behind (record { depth_is = refl; quiet_only = quietly; joins = refl; tabs = refl }) in
      let x = tree.word v (v + length value) one.0 in
      let j = blanks false b (v + length value) in
      let rest_of = elements_print more j (n + m) closed ms ds waiting rest marked quietly (fronted b (v + length value) later (off b v value later e2)) tail in
      record {
        at = rest_of.at;
        count = rest_of.count;
        marks = rest_of.marks;
        left = rest_of.left;
        marked = rest_of.marked;
        total = (let all = rest_of.total in omega arith);
        behind = rest_of.behind;
        reads = λ body f.
            let others = rest_of.reads body f in (
              element.Assignment (span i (name_end b i)) x ∷ others.0,
              r.assigned_element (lead_there b g i (name ++ 61 ∷ (value ++ later)) e1 ∙ assignment_leads g name (value ++ later) stage named) one.1 others.1,
              ap (λ y. y ∷ map (element_of b) others.0) (
                  element_of-Assignment b (span i (name_end b i)) x
                  ∙ ap (λ m. bare.Assigns (text_of b (span i m)) (word_of b x)) end
                  ∙ ap (λ t. bare.Assigns t (word_of b x)) (text_there b i name (61 ∷ (value ++ later)) e1)
                  ∙ ap (λ t. bare.Assigns name t) (text_there b v value later e2)
                  ) ∙ ap (λ ys. bare.Assigns name value ∷ ys) others.2,
            );
      }
  elements_print {limit = limit} {k = k} {g = g} {quiet = quiet} (p.word_element {m = m} {w = w} {form = form} {es = es} token printable more) i n closed ms ds waiting rest marked quietly e tail =
      let later = tail_text es ++ rest in
      let behind = behind_element more rest tail in
      let e1 : drop i b ≡ w ++ later = e ∙ over_blank (bare.Operand w) es rest (token_starts w later token behind) in
      let one = word_print limit i n k closed ms ds quiet (Field g) form w later printable quietly e1 behind in
      let j = blanks false b (i + length w) in
      let x = tree.word i (i + length w) one.parts in
      let rest_of = elements_print more j (n + m) closed ms ds waiting rest marked quietly one.behind tail in
      record {
        at = rest_of.at;
        count = rest_of.count;
        marks = rest_of.marks;
        left = rest_of.left;
        marked = rest_of.marked;
        total = (let all = rest_of.total in omega arith);
        behind = rest_of.behind;
        reads = λ body f.
            let others = rest_of.reads body f in (
              element.Word x ∷ others.0,
              r.word_element (token.is_lead b later i e1 behind) one.reads
                  (subst (λ h. ReadsElements limit b body h (place j (n + m) k closed ms ds) (place rest_of.at rest_of.count k closed rest_of.marks ds) others.0) (sym (stage_is g w later i token e1 behind)) others.1),
              ap (λ y. y ∷ map (element_of b) others.0) (element_of-Word b x ∙ ap bare.Operand one.word_is) ∙ ap (λ ys. bare.Operand w ∷ ys) others.2,
            );
      }
  elements_print {limit = limit} {k = k} {g = g} {quiet = quiet} (p.redirect_element {r = q} {es = es} printable more) i n closed ms ds waiting rest marked quietly e tail =
      let later = tail_text es ++ rest in
      let behind = behind_element more rest tail in
      let mine = redirect_documents q in
      let theirs = flat_map element_documents es in
      let e1 : drop i b ≡ redirect_text q ++ later = e ∙ over_blank (bare.Redirects q) es rest (element_starts (p.redirect_element printable more) later behind) in
      let one = redirect_print printable i n closed ms ds waiting later marked quietly e1 behind in
      let rest_of = elements_print more one.at one.count closed one.marks ds (waiting ++ mine) rest one.marked one.quietly one.behind tail in
      record {
        at = rest_of.at;
        count = rest_of.count;
        marks = rest_of.marks;
        left = rest_of.left;
        total = (let all = rest_of.total in let first = one.total in omega arith);
        marked = subst (λ ds. Marked b limit rest_of.left rest_of.marks ds) (append_assoc waiting mine theirs) rest_of.marked;
        behind = rest_of.behind;
        reads = λ body f.
            let parts = fits_parts b (so_far b ds waiting) mine theirs f in
            let first = one.reads body parts.0 in
            let others = rest_of.reads body (subst (λ ds. Fits b body (length ds) theirs) (append_assoc (map (document_of b) ds) waiting mine) parts.1) in (
              element.Redirection first.0 ∷ others.0,
              r.redirect_element (one.begins g) first.1 others.1,
              ap (λ y. y ∷ map (element_of b) others.0) (element_of-Redirection b first.0 ∙ ap bare.Redirects first.2) ∙ ap (λ ys. bare.Redirects q ∷ ys) others.2,
            );
      }

  -- Redirections after a compound command

  pub record PrintedRedirects (limit held m i n k : ℕ) (closed : Bool) (ms : List Mark) (ds : List Document) (waiting : List bare.Document) (qs : List bare.Redirect) (rest : List ℕ) : Type 0 where
    pub at : ℕ
    pub count : ℕ
    pub marks : List Mark
    pub left : ℕ
    pub marked : Marked b limit left marks (waiting ++ flat_map redirect_documents qs)
    pub total : count + left ≡ n + held + m
    pub behind : drop at b ≡ front rest
    pub reads : (body : ℕ → Document) → Fits b body (length (so_far b ds waiting)) (flat_map redirect_documents qs)
        → (xs : List Redirect) × ReadsRedirects limit b body (place i n k closed ms ds) (place at count k closed marks ds) xs × (map (redirect_of b) xs ≡ qs)

  pub redirects_print : {limit k held m : ℕ} {quiet : Bool} {qs : List bare.Redirect} → PrintableRedirects limit k quiet m qs → (i n : ℕ) (closed : Bool) (ms : List Mark) (ds : List Document) (waiting : List bare.Document) (rest : List ℕ)
      → Marked b limit held ms waiting → (waits ms ≡ true → quiet ≡ true) → drop i b ≡ front (redirects_text qs ++ rest) → IsTail rest → PrintedRedirects limit held m i n k closed ms ds waiting qs rest
  redirects_print {limit = limit} {held = held} p.no_redirects i n closed ms ds waiting rest marked quietly e tail = record {
    at = i;
    count = n;
    marks = ms;
    left = held;
    marked = subst (λ ds. Marked b limit held ms ds) (sym (append-nil waiting)) marked;
    total = (let e : n + held ≡ n + held + 0 = omega arith in e);
    behind = e;
    reads = λ body f. ([], r.no_redirect (ap is_redirection (lead_there b (Named false) i (front rest) e) ∙ no_redirection _ (tail.ends (Named false))), refl);
  }
  redirects_print {limit = limit} {k = k} {quiet = quiet} (p.more_redirects {r = q} {rs = qs} printable more) i n closed ms ds waiting rest marked quietly e tail =
      let later = redirects_text qs ++ rest in
      let close = behind_close more rest tail in
      let mine = redirect_documents q in
      let theirs = flat_map redirect_documents qs in
      let starts = redirect_starts q later printable in
      let e1 : drop i b ≡ redirect_text q ++ later =
      e ∙ ap front (append_assoc (32 ∷ redirect_text q) (redirects_text qs) rest) ∙ front_blank 32 (redirect_text q ++ later) refl ∙ starts.front_is in
      let one = redirect_print printable i n closed ms ds waiting later marked quietly e1 (gap_word later close.gap close.closed) in
      let rest_of = redirects_print more one.at one.count closed one.marks ds (waiting ++ mine) rest one.marked one.quietly one.behind tail in
      record {
        at = rest_of.at;
        count = rest_of.count;
        marks = rest_of.marks;
        left = rest_of.left;
        total = (let all = rest_of.total in let first = one.total in omega arith);
        marked = subst (λ ds. Marked b limit rest_of.left rest_of.marks ds) (append_assoc waiting mine theirs) rest_of.marked;
        behind = rest_of.behind;
        reads = λ body f.
            let parts = fits_parts b (so_far b ds waiting) mine theirs f in
            let first = one.reads body parts.0 in
            let others = rest_of.reads body (subst (λ ds. Fits b body (length ds) theirs) (append_assoc (map (document_of b) ds) waiting mine) parts.1) in (
              first.0 ∷ others.0,
              r.more_redirects (one.begins (Named false)) first.1 others.1,
              ap (λ y. y ∷ map (redirect_of b) others.0) first.2 ∙ ap (λ ys. q ∷ ys) others.2,
            );
      }

  -- what a simple command begins with
  pub elements_begin : {limit k m : ℕ} {quiet : Bool} {e : bare.Element} {es : List bare.Element} → PrintableElements limit k First quiet m (e ∷ es) → (i : ℕ) (rest : List ℕ) → IsTail rest
      → drop i b ≡ element_text e ++ (tail_text es ++ rest) → begins_simple (lead_at b First i) ≡ true
  unfolding begins_simple
  elements_begin (p.assigned_element {name = name} {value = value} {es = es} stage named printable more) i rest tail e =
      ap begins_simple (lead_there b First i _ (e ∙ append_assoc name (61 ∷ value) (tail_text es ++ rest)) ∙ assignment_leads First name (value ++ (tail_text es ++ rest)) stage named)
  elements_begin (p.word_element {w = w} {es = es} token printable more) i rest tail e =
      ap begins_simple (token.is_lead b (tail_text es ++ rest) i e (behind_element more rest tail))
  elements_begin (p.redirect_element {r = q} {es = es} printable more) i rest tail e = begins q (tail_text es ++ rest) printable e
    where
      begins : {limit k m : ℕ} {quiet : Bool} (q : bare.Redirect) (later : List ℕ) → PrintableRedirect limit k quiet m q → drop i b ≡ redirect_text q ++ later → begins_simple (lead_at b First i) ≡ true
      begins q later (p.file {w = w} digits token printable) e = redirection_is_simple _ ((redirect_begins b i q.number q.opens (w ++ later) digits (e ∙ redirect_whole q later)).leads First)
      begins q later (p.here_document {w = w} digits token printable delimits printed) e = redirection_is_simple _ ((redirect_begins b i q.number q.opens (w ++ later) digits (e ∙ redirect_whole q later)).leads First)
