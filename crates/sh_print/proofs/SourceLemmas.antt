-- What a reading of a text knows of its words, numbers and here-documents.
use Rattle.std.proofs.Common.{◌≡◌, ◌<◌, ℕ, zero, suc, ◌+◌, ◌-◌, ◌==◌, Bool, true, false, ◌&&◌, ◌||◌, if◌then◌else◌, List, [], ◌∷◌, ◌++◌, length, drop, take, Option, Some, None, refl, sym, ap, subst, ◌∙◌, arith, length-append}
use Rattle.std.specs.List.{list_any, list_all, take_while}
use Rattle.std.specs.Option.{option_map}
use Rattle.std.proofs.lemmas.Bool.{eq-eqb, or_parts, true≢false}
use Rattle.std.proofs.lemmas.List.{take-append-drop}
use Rattle.std.proofs.lemmas.List.Folds.{list_any-append}
use Rattle.sh_tree.specs.declared.tree.Span.{Span}
use Rattle.sh_tree.specs.declared.tree.Word.{Word}
use Rattle.sh_tree.specs.declared.token.command.Operator.{Operator}
use Rattle.sh_tree.specs.declared.token.command.Redirection.{Redirection}
use Rattle.sh_tree.specs.declared.token.command.Stage.TheVariants.{Named}
use Rattle.sh_tree.specs.declared.token.word.Context.{Context}
use Rattle.sh_tree.specs.standard.Tree.{text_of}
use Rattle.sh_tree.specs.standard.language.Bytes.{is_digit, is_first, run}
use Rattle.sh_tree.specs.standard.language.Commands.{redirects, number_of, redirection_by, digits_end, operator, redirection, is_newline_lead, is_open}
use Rattle.sh_tree.specs.standard.language.HereDocuments.{Mark}
use Rattle.sh_tree.specs.standard.language.Reading as r
use Rattle.sh_tree.specs.standard.language.Reading.{HasNoNul, ReadsWord, ReadsDocuments, ReadsBreaks, lead_of, lead_here, parted, unopened, skip}
use Rattle.sh_tree.specs.standard.language.States.{Spot, Document, State, nth, waits}
use Rattle.sh_tree.specs.standard.language.Trees as tree
use Rattle.sh_tree.specs.standard.language.Trees.{span}
use Rattle.sh_tree.proofs.Counts.{word_count, parts_count}
use Rattle.sh_reads.proofs.FrontLemmas.{front_whole, run_passes, run_taken, run_within, stands_at, stands_text}
use Rattle.sh_copies.specs.Copied.{Role, context_of, form_of, WordOf, IsMark, WordsAreCopied}
use Rattle.sh_print.specs.Bare as bare
use Rattle.sh_print.proofs.Printable.{is_number, PrintableWord, PrintableDocument}

-- Over plain variables

pub or_none : (t : Bool) → (t || false) ≡ true → t ≡ true
or_none true h = refl
or_none false h = h

-- If no byte of a text passes, none of its front and none of the rest does.
any_split : (p : ℕ → Bool) (n : ℕ) (cs : List ℕ) → list_any p cs ≡ false → (list_any p (take n cs) ≡ false) × (list_any p (drop n cs) ≡ false)
any_split p n cs h =
    or_parts (list_any p (take n cs)) (list_any p (drop n cs)) (sym (list_any-append p (take n cs) (drop n cs)) ∙ ap (list_any p) (take-append-drop n cs) ∙ h)

pub text_no_nul : (b : List ℕ) (s : Span) → HasNoNul b → HasNoNul (text_of b s)
text_no_nul b s h = (any_split (λ c. c == 0) _ (drop s.start b) (any_split (λ c. c == 0) s.start b h).1).0

nth_front : (ds : List Document) (d : Document) (k : ℕ) → k < length ds → nth (ds ++ d ∷ []) k ≡ nth ds k
unfolding nth
nth_front [] d k h = absurd (omega arith)
nth_front (e ∷ ds) d zero h = refl
nth_front (e ∷ ds) d (suc k) h = nth_front ds d k (omega arith)

nth_last : (ds : List Document) (d : Document) → nth (ds ++ d ∷ []) (length ds) ≡ d
unfolding nth
nth_last [] d = refl
nth_last (e ∷ ds) d = nth_last ds d

pub waits_more : (ms : List Mark) (m : Mark) → waits (ms ++ m ∷ []) ≡ true
unfolding waits
waits_more [] m = refl
waits_more (n ∷ ms) m = refl

-- IO numbers

first_some : (p : ℕ → Bool) (cs : List ℕ) → list_all p cs ≡ true → (length cs ≡ 0 → ⊥) → (is_first p cs && list_all p cs) ≡ true
unfolding is_first
first_some p [] h some = absurd (some refl)
first_some p (c ∷ cs) h some = go (p c) (list_all p cs) h
  where
    go : (t u : Bool) → (t && u) ≡ true → (t && (t && u)) ≡ true
    go true u k = k
    go false u k = k

number_given : (b : List ℕ) (i : ℕ) → is_number (option_map (text_of b) (number_of i (digits_end b i))) ≡ true
number_given b i = go (i == digits_end b i) refl
  where
    go : (t : Bool) → (i == digits_end b i) ≡ t → is_number (option_map (text_of b) (if t then None else Some (span i (digits_end b i)))) ≡ true
    go true is = refl
    go false is =
        let digits = drop i b in
        let text : text_of b (span i (digits_end b i)) ≡ take_while is_digit digits =
        stands_text b i (run is_digit digits) digits (stands_at b b i (front_whole b)) (run_within is_digit digits) ∙ run_taken is_digit digits in
        subst (λ t. (is_first is_digit t && list_all is_digit t) ≡ true) (sym text) (first_some is_digit (take_while is_digit digits) (run_passes is_digit digits)
        (λ none. true≢false (sym (eq-eqb i (digits_end b i) (omega arith)) ∙ is)))

redirection_number : (i at : ℕ) (o : Option (Operator × ℕ)) (found : Redirection) → redirection_by i at o ≡ Some found → found.number ≡ number_of i at
redirection_number i at (Some o) found h = go (redirects o.0) (record { number = number_of i at; operator = o.0; at = at; end = o.1 }) h
  where
    same : (k : Redirection) → Some k ≡ Some found → k ≡ found
    same k e = cc

    go : (t : Bool) (k : Redirection) → (if t then Some k else None) ≡ Some found → found.number ≡ k.number
    go true k e = ap (λ x. x.number) (sym (same k e))
    go false k e = cc
redirection_number i at None found h = cc

pub redirection_numbered : (b : List ℕ) (i : ℕ) (o : Redirection) → redirection b i ≡ Some o → is_number (option_map (text_of b) o.number) ≡ true
unfolding redirection
redirection_numbered b i o h =
    subst (λ n. is_number (option_map (text_of b) n) ≡ true) (sym (redirection_number i (digits_end b i) (operator b (digits_end b i)) o h)) (number_given b i)

-- Levels

-- The spot is so deep, and in no here-document.
abbrev pub Level : ℕ → Spot → Type 0
Level depth s = (s.depth ≡ depth) × (s.quiet ≡ false) × (s.joins ≡ false) × (s.tabs ≡ false)

-- what both states have, the chosen one has
pub either : (P : State → Type 0) (c : Bool) (s u : State) → P s → P u → P (if c then s else u)
either P true s u h k = h
either P false s u h k = k

pub parted_level : (b : List ℕ) (depth : ℕ) (s : State) → Level depth s.spot → Level depth (parted b s).spot
parted_level b depth s k = either (λ u. Level depth u.spot) (is_newline_lead (lead_here b s)) s (skip b 1 s) k k

pub unopened_level : (b : List ℕ) (depth : ℕ) (s : State) → Level depth s.spot → Level depth (unopened b s).spot
unopened_level b depth s k = either (λ u. Level depth u.spot) (is_open (lead_of b (Named false) s)) (skip b 1 s) s k k

documents_level : {limit : ℕ} {b : List ℕ} {ms : List Mark} {s u : State} (depth : ℕ) → ReadsDocuments limit b ms s u → Level depth s.spot → Level depth u.spot
documents_level depth r.no_body k = k
documents_level depth (r.more_bodies e a c h l ds) k = documents_level depth ds k

documents_pending : {limit : ℕ} {b : List ℕ} {ms : List Mark} {s u : State} → ReadsDocuments limit b ms s u → u.pending ≡ s.pending
documents_pending r.no_body = refl
documents_pending (r.more_bodies e a c h l ds) = documents_pending ds

-- Commands

-- how many commands begin between both spots
abbrev pub since : Spot → Spot → ℕ
since s u = u.count - s.count

pub word_since : {limit : ℕ} {b : List ℕ} {x : Context} {s u : Spot} {w : Word} → ReadsWord limit b x s u w → u.count ≡ s.count + since s u
word_since reads = let grows = word_count reads in omega arith

module _ (limit : ℕ) (b : List ℕ) (no_nul : HasNoNul b) (copies : WordsAreCopied) where
  -- Words

  pub word_given : {s u : Spot} {w : Word} (role : Role) (depth : ℕ) (quiet : Bool) → s.depth ≡ depth → s.joins ≡ false → s.tabs ≡ false → (quiet ≡ true → s.quiet ≡ true)
      → ReadsWord limit b (context_of role b s.at) s u w → PrintableWord limit depth quiet role (form_of b w) (since s u) (text_of b w.span)
  word_given {s = s} {u = u} {w = w} role depth quiet deep joins tabs loud reads =
      let k : WordOf limit s.depth s.quiet role (form_of b w) (since s u) (text_of b w.span) = copies.words limit (since s u) b role s u w joins tabs (word_since reads) reads in
      record {
        no_nul = text_no_nul b w.span no_nul;
        copied = record {
          is_read = λ c rest t e behind spot. k.is_read c rest t e behind
              (record { depth_is = spot.depth_is ∙ sym deep; quiet_only = λ h. loud (spot.quiet_only h); joins = spot.joins; tabs = spot.tabs });
        };
      }

  -- Here-documents; `body n` is the n-th one of the level

  abbrev pub document_of : Document → bare.Document
  document_of d = record { body = text_of b d.text.span; end = text_of b d.end }

  module _ (body : ℕ → Document) where
    abbrev pub Has : List Document → Type 0
    Has ds = (k : ℕ) → k < length ds → body k ≡ nth ds k

    -- the bodies of those that wait, from the n-th on, and how many commands begin in them
    abbrev pub Waiting : ℕ → ℕ → List Mark → Type 0
    Waiting held n [] = held ≡ 0
    Waiting held n (m ∷ ms) = (own : ℕ) × (others : ℕ) × (held ≡ own + others) × (IsMark m → PrintableDocument limit m own (document_of (body n))) × Waiting others (n + 1) ms

    -- The bodies that came are the first ones, and each that waits will be read.
    abbrev pub Fits : State → Type 0
    Fits s = (held : ℕ) × Has s.bodies × Waiting held (length s.bodies) s.pending

    -- What fits after a reading fits before it. The commands that begin in between, and those that
    -- begin in what waits, are counted once.
    abbrev pub Before : (s u : State) → Fits u → Type 0
    Before s u f = (e : Fits s) × (u.spot.count + f.0 ≡ s.spot.count + e.0)

    pub none_wait : (n : ℕ) (ms : List Mark) → waits ms ≡ false → Waiting 0 n ms
    unfolding waits
    none_wait n [] h = refl
    none_wait n (m ∷ ms) h = absurd (true≢false h)

    -- the last of those that wait
    last_waits : (held n : ℕ) (ms : List Mark) (m : Mark) → Waiting held n (ms ++ m ∷ [])
        → (others : ℕ) × (own : ℕ) × (held ≡ others + own) × Waiting others n ms × (IsMark m → PrintableDocument limit m own (document_of (body (n + length ms))))
    last_waits held n [] m w = (
      0,
      w.0,
      (let both = w.2 in let none = w.4 in omega arith),
      refl,
      subst (λ k. IsMark m → PrintableDocument limit m w.0 (document_of (body k))) (let e : n ≡ n + 0 = omega arith in e) w.3,
    )
    last_waits held n (o ∷ ms) m w =
        let rest = last_waits w.1 (n + 1) ms m w.4 in (
          w.0 + rest.0,
          rest.1,
          (let both = w.2 in let more = rest.2 in omega arith),
          (w.0, rest.0, refl, w.3, rest.3),
          subst (λ k. IsMark m → PrintableDocument limit m rest.1 (document_of (body k))) (let e : n + 1 + length ms ≡ n + suc (length ms) = omega arith in e) rest.4,
        )

    documents_given : {ms : List Mark} {s u : State} → ReadsDocuments limit b ms s u → s.spot.joins ≡ false → s.spot.tabs ≡ false → Has u.bodies
        → (held : ℕ) × Has s.bodies × Waiting held (length s.bodies) ms × (u.spot.count ≡ s.spot.count + held)
    documents_given {s = s} r.no_body joins tabs has = (0, has, refl, (let e : s.spot.count ≡ s.spot.count + 0 = omega arith in e))
    documents_given (r.more_bodies {s = s} {u = u} {m = m} {ms = ms} {l = l} {ps = ps} found clear kept parts lines more) joins tabs has =
        let d : Document = record { text = tree.word s.spot.at l.start ps; end = l } in
        let rest = documents_given more joins tabs has in
        let long : length (s.bodies ++ d ∷ []) ≡ length s.bodies + 1 = length-append s.bodies (d ∷ []) in
        let own : body (length s.bodies) ≡ d = rest.1 (length s.bodies) (omega arith) ∙ nth_last s.bodies d in
        let grows = parts_count parts in
        let n = u.count - s.spot.count in (
          n + rest.0,
          λ k h. rest.1 k (omega arith) ∙ nth_front s.bodies d k h,
          (
            n,
            rest.0,
            refl,
            λ mark. subst (λ x. PrintableDocument limit m n (document_of x)) (sym own) (record {
              body_no_nul = text_no_nul b d.text.span no_nul;
              end_no_nul = text_no_nul b l no_nul;
              copied = copies.documents limit n b m s u l ps joins tabs mark found clear parts lines (omega arith);
            }),
            subst (λ k. Waiting rest.0 k ms) long rest.2,
          ),
          (let all = rest.3 in omega arith),
        )

    pub breaks_given : {s u : State} (depth : ℕ) → ReadsBreaks limit b s u → Level depth s.spot → Level depth u.spot × ((f : Fits u) → Before s u f)
    breaks_given depth (r.no_break h) k = (k, λ f. (f, refl))
    breaks_given depth (r.more_breaks {s = s} {u = u} {v = v} h q ds more) k =
        let rest = breaks_given depth more (documents_level depth ds k) in (
          rest.0,
          λ f.
              let e = rest.1 f in
              let none : e.0.0 ≡ 0 = subst (λ ms. Waiting e.0.0 (length u.bodies) ms) (documents_pending ds) e.0.2 in
              let came = documents_given ds k.2 k.3 e.0.1 in
              ((came.0, came.1, came.2), (let both = e.1 in let all = came.3 in omega arith)),
        )

    pub parted_fits : (s v : State) (f : Fits v) → Before (parted b s) v f → Before s v f
    parted_fits s v f = either (λ u. Before u v f → Before s v f) (is_newline_lead (lead_here b s)) s (skip b 1 s) (λ e. e) (λ e. e)

    pub unopened_fits : (s v : State) (f : Fits v) → Before (unopened b s) v f → Before s v f
    unopened_fits s v f = either (λ u. Before u v f → Before s v f) (is_open (lead_of b (Named false) s)) (skip b 1 s) s (λ e. e) (λ e. e)

    -- what fits after an operator fits before it, and its own body is read
    pub last_fits : (s : State) (m : Mark) (f : (held : ℕ) × Has s.bodies × Waiting held (length s.bodies) (s.pending ++ m ∷ []))
        → (e : Fits s) × (own : ℕ) × (f.0 ≡ e.0 + own) × (IsMark m → PrintableDocument limit m own (document_of (body (length s.bodies + length s.pending))))
    last_fits s m f = let last = last_waits f.0 (length s.bodies) s.pending m f.2 in ((last.0, f.1, last.3), last.1, last.2, last.4)
