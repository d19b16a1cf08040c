-- Printed commands are read, given that the compound commands among them are.
use Rattle.std.proofs.Common.{◌≡◌, ℕ, suc, ◌+◌, Bool, true, false, None, List, [], ◌∷◌, ◌++◌, length, drop, map, codes, refl, sym, ap, subst, ◌∙◌, append_assoc, append-nil, arith}
use Rattle.std.specs.List.{flat_map}
use Rattle.std.proofs.lemmas.Bool.{true≢false}
use Rattle.sh_tree.specs.declared.tree.Command.{Command}
use Rattle.sh_tree.specs.declared.tree.Kind.TheVariants as kind
use Rattle.sh_tree.specs.declared.tree.LoopKind.TheVariants as loop
use Rattle.sh_tree.specs.declared.token.command.Lead.{Lead}
use Rattle.sh_tree.specs.declared.token.command.Lead.TheVariants as lead
use Rattle.sh_tree.specs.declared.token.command.Reserved.TheVariants as word
use Rattle.sh_tree.specs.declared.token.command.Stage.TheVariants.{First, Named}
use Rattle.sh_tree.specs.standard.Tree.{text_of}
use Rattle.sh_tree.specs.standard.language.Commands.{lead_at, blanks, begins_pipeline, begins_command, begins_simple, begins_compound, is_redirection, is_newline_lead, name_end, entry_of, reserved_words}
use Rattle.sh_tree.specs.standard.language.HereDocuments.{Mark}
use Rattle.sh_tree.specs.standard.language.Reading as r
use Rattle.sh_tree.specs.standard.language.Reading.{ReadsCommand, is_empty}
use Rattle.sh_tree.specs.standard.language.States.{Document}
use Rattle.sh_tree.specs.standard.language.Trees as tree
use Rattle.sh_tree.specs.standard.language.Trees.{span}
use Rattle.sh_tree.proofs.Inversions.{simple_command_begins, compound_command_begins}
use Rattle.sh_print.specs.Bare as bare
use Rattle.sh_print.specs.Bare.{Text}
use Rattle.sh_print.specs.Layout.{tabs, items_text, command_text, kind_text, pending, kind_pending, element_text, element_documents, redirect_documents}
use Rattle.sh_print.specs.Trees.{command_of, redirect_of}
use Rattle.sh_print.proofs.TreeLemmas.{kind_of-Simple, kind_of-Define}
use Rattle.sh_print.proofs.MadeLemmas.{command_made}
use Rattle.sh_print.proofs.PlaceLemmas.{front, front_none, front_tabs, fronted, lead_there, off, one_off}
use Rattle.sh_print.proofs.OwnTokens.{blank, line, reserved_text, reserved_leads, opening_leads, open_leads}
use Rattle.sh_print.proofs.NameTokens.{Name, name_ends, name_first, definition_leads}
use Rattle.sh_print.proofs.RedirectTokens.{text_there}
use Rattle.sh_print.proofs.DocumentsPrinted.{place, document_of, so_far, Fits, Marked, no_mark, break_print}
use Rattle.sh_print.proofs.ElementsPrinted.{IsTail, tail_text, redirects_text, behind_close, redirects_print, first_starts, over_blank, elements_print, elements_begin}
use Rattle.sh_print.proofs.ListsPrinted.{kept_both, fits_both}
use Rattle.sh_print.proofs.CompoundsPrinted.{PrintsCompound}
use Rattle.sh_print.proofs.LoopsPrinted.{no_waits}
use Rattle.sh_print.proofs.Printable as p
use Rattle.sh_print.proofs.Printable.{PrintableRedirects, PrintableElements, PrintableCompound, PrintableCommand}
use Rattle.sh_copies.proofs.Leads.{closing_lead}

-- What a command begins with

pub command_straight : (l : Lead) → begins_command l ≡ true → is_newline_lead l ≡ false
unfolding begins_command begins_simple begins_compound is_redirection
command_straight lead.Newline h = absurd (true≢false (sym h))
command_straight l h = refl

pub command_pipeline : (l : Lead) → begins_command l ≡ true → begins_pipeline l ≡ true
unfolding begins_pipeline
command_pipeline (lead.Reserved word.Bang) h = refl
command_pipeline l h = h

record KindStarts (cs : List ℕ) : Type 0 where
  front_is : front cs ≡ cs
  begins : begins_compound (lead_at cs First 0) ≡ true

kind_starts : {limit k m : ℕ} {what : bare.Kind} → PrintableCompound limit k m what → (d : ℕ) (rest : List ℕ) → KindStarts (kind_text d what ++ rest)
unfolding items_text reserved_text begins_compound
kind_starts (p.group deep list) d rest = record { front_is = front_none 123 _ refl refl refl; begins = ap begins_compound (reserved_leads word.LeftBrace (10 ∷ _) line) }
kind_starts (p.subshell deep list) d rest = record { front_is = front_none 40 _ refl refl refl; begins = ap begins_compound (opening_leads (10 ∷ _) line) }
kind_starts (p.conditional deep (p.last_branch test list) others) d rest = record { front_is = front_none 105 _ refl refl refl; begins = ap begins_compound (reserved_leads word.If (10 ∷ _) line) }
kind_starts (p.conditional deep (p.more_branches test list more) others) d rest = record { front_is = front_none 105 _ refl refl refl; begins = ap begins_compound (reserved_leads word.If (10 ∷ _) line) }
kind_starts (p.loop {kind = loop.While} deep test list) d rest = record { front_is = front_none 119 _ refl refl refl; begins = ap begins_compound (reserved_leads word.While (10 ∷ _) line) }
kind_starts (p.loop {kind = loop.Until} deep test list) d rest = record { front_is = front_none 117 _ refl refl refl; begins = ap begins_compound (reserved_leads word.Until (10 ∷ _) line) }
kind_starts (p.for_loop deep named words list) d rest = record { front_is = front_none 102 _ refl refl refl; begins = ap begins_compound (reserved_leads word.For (32 ∷ _) blank) }
kind_starts (p.case_of deep token printable others) d rest = record { front_is = front_none 99 _ refl refl refl; begins = ap begins_compound (reserved_leads word.Case (32 ∷ _) blank) }

compound_pending : {limit k m : ℕ} {what : bare.Kind} → PrintableCompound limit k m what → kind_pending what ≡ []
unfolding pending
compound_pending (p.group deep list) = refl
compound_pending (p.subshell deep list) = refl
compound_pending (p.conditional deep branches others) = refl
compound_pending (p.loop deep test list) = refl
compound_pending (p.for_loop deep named words list) = refl
compound_pending (p.case_of deep token printable others) = refl

mapped_empty : {A C : Type 0} (f : A → C) (xs : List A) → is_empty xs ≡ is_empty (map f xs)
unfolding is_empty
mapped_empty f [] = refl
mapped_empty f (x ∷ xs) = refl

-- a command's text, before what follows it
simple_text : (d : ℕ) (e : bare.Element) (es : List bare.Element) (rest : List ℕ) → command_text d (bare.command (bare.Simple (e ∷ es)) []) ++ rest ≡ element_text e ++ (tail_text es ++ rest)
unfolding items_text
simple_text d e es rest = ap (λ t. t ++ rest) (append-nil (element_text e ++ tail_text es)) ∙ append_assoc (element_text e) (tail_text es) rest

define_text : (d : ℕ) (name : Text) (c : bare.Command) (rest : List ℕ) → command_text d (bare.command (bare.Define name c) []) ++ rest ≡ name ++ (40 ∷ 41 ∷ 10 ∷ (tabs d ++ (command_text d c ++ rest)))
unfolding items_text
define_text d name c rest =
    ap (λ t. t ++ rest) (append-nil (name ++ (codes "()" ++ 10 ∷ (tabs d ++ command_text d c))))
    ∙ append_assoc name (codes "()" ++ 10 ∷ (tabs d ++ command_text d c)) rest ∙ ap (λ t. name ++ (40 ∷ 41 ∷ 10 ∷ t)) (append_assoc (tabs d) (command_text d c) rest)

compound_text : (d : ℕ) (what : bare.Kind) (qs : List bare.Redirect) (rest : List ℕ) → command_text d (bare.command what qs) ++ rest ≡ kind_text d what ++ (redirects_text qs ++ rest)
unfolding items_text
compound_text d what qs rest = append_assoc (kind_text d what) (redirects_text qs) rest

-- a token is at the start of the command's text, and it begins a command
pub record CommandStarts (cs : List ℕ) : Type 0 where
  pub front_is : front cs ≡ cs
  pub begins : begins_command (lead_at cs First 0) ≡ true

pub command_starts : {limit k m : ℕ} {c : bare.Command} → PrintableCommand limit k m c → (d : ℕ) (rest : List ℕ) → IsTail rest → CommandStarts (command_text d c ++ rest)
unfolding begins_command is_empty
command_starts (p.simple_command {es = []} some printable) d rest tail = absurd (true≢false some)
command_starts (p.simple_command {es = e ∷ es} some printable) d rest tail =
    let same = simple_text d e es rest in
    let text = element_text e ++ (tail_text es ++ rest) in
    record {
      front_is = ap front same ∙ (first_starts printable rest tail).front_is ∙ sym same;
      begins = ap (λ t. begins_command (lead_at t First 0)) same ∙ simple_command_begins _ (elements_begin text printable 0 rest tail refl);
    }
command_starts (p.compound_command {k = what} {rs = qs} printable opened) d rest tail =
    let same = compound_text d what qs rest in
    let s = kind_starts printable d (redirects_text qs ++ rest) in
    record { front_is = ap front same ∙ s.front_is ∙ sym same; begins = ap (λ t. begins_command (lead_at t First 0)) same ∙ compound_command_begins _ s.begins }
command_starts (p.definition {name = name} {k = what} {rs = qs} named free printable opened) d rest tail =
    let c = bare.command what qs in
    let same = define_text d name c rest in
    let inner = 41 ∷ 10 ∷ (tabs d ++ (command_text d c ++ rest)) in
    record { front_is = ap front same ∙ (name_first name (40 ∷ inner) named).0 ∙ sym same; begins = ap (λ t. begins_command (lead_at t First 0)) same ∙ ap begins_command (definition_leads name inner named free) }

module _ (b : List ℕ) where
  pub record PrintedCommand (limit m i n k : ℕ) (closed : Bool) (ds : List Document) (c : bare.Command) (rest : List ℕ) : Type 0 where
    pub at : ℕ
    pub count : ℕ
    pub ended : Bool
    pub marks : List Mark
    pub bodies : List Document
    pub met : List bare.Document
    -- the commands in what waits
    pub left : ℕ
    pub marked : Marked b limit left marks (pending c)
    pub total : count + left ≡ n + m
    pub kept : so_far b bodies (pending c) ≡ so_far b ds [] ++ met
    pub behind : drop at b ≡ front rest
    pub reads : (body : ℕ → Document) → Fits b body (length (so_far b ds [])) met
        → (x : Command) × ReadsCommand limit b body (place i n k closed [] ds) (place at count k ended marks bodies) x × (command_of b x ≡ c)

  -- so deep, with so many tabs before the line
  pub record PrintsCommand (limit k d m : ℕ) (c : bare.Command) : Type 0 where
    pub starts : (rest : List ℕ) → IsTail rest → CommandStarts (command_text d c ++ rest)
    pub print : (i n : ℕ) (closed : Bool) (ds : List Document) (rest : List ℕ) → drop i b ≡ command_text d c ++ rest → IsTail rest → PrintedCommand limit m i n k closed ds c rest

  -- a simple command
  simple_print : {limit k m : ℕ} {e : bare.Element} {es : List bare.Element} (d : ℕ) → PrintableElements limit k First false m (e ∷ es) → (i n : ℕ) (closed : Bool) (ds : List Document) (rest : List ℕ)
      → drop i b ≡ command_text d (bare.command (bare.Simple (e ∷ es)) []) ++ rest → IsTail rest → PrintedCommand limit (suc m) i n k closed ds (bare.command (bare.Simple (e ∷ es)) []) rest
  unfolding pending is_empty
  simple_print {limit = limit} {e = e} {es = es} d printable i n closed ds rest there tail =
      let met = flat_map element_documents (e ∷ es) in
      let here : drop i b ≡ element_text e ++ (tail_text es ++ rest) = there ∙ simple_text d e es rest in
      let p = elements_print b printable i (n + 1) closed [] ds [] rest no_mark no_waits (here ∙ sym (over_blank e es rest (first_starts printable rest tail))) tail in
      record {
        at = p.at;
        count = p.count;
        ended = false;
        marks = p.marks;
        bodies = ds;
        met = met;
        left = p.left;
        marked = subst (λ x. Marked b limit p.left p.marks x) (sym (append-nil met)) p.marked;
        total = (let all = p.total in omega arith);
        kept = ap (λ x. map (document_of b) ds ++ x) (append-nil met) ∙ ap (λ x. x ++ met) (sym (append-nil (map (document_of b) ds)));
        behind = p.behind;
        reads = λ body f. let xs = p.reads body f in (
          tree.command (n + 1) i (kind.Simple xs.0) [],
          r.simple_command (elements_begin b printable i rest tail here) xs.1,
          command_made b (n + 1) i (kind.Simple xs.0) [] ∙ ap (λ x. bare.command x []) (kind_of-Simple b xs.0 ∙ ap bare.Simple xs.2),
        );
      }

  -- a compound command and its redirections
  compound_print : {limit k d m o : ℕ} {what : bare.Kind} {qs : List bare.Redirect} → PrintsCompound b limit k d m what → kind_pending what ≡ [] → PrintableRedirects limit k false o qs → (i n : ℕ) (closed : Bool) (ds : List Document) (rest : List ℕ)
      → drop i b ≡ command_text d (bare.command what qs) ++ rest → IsTail rest → PrintedCommand limit (suc (m + o)) i n k closed ds (bare.command what qs) rest
  unfolding pending
  compound_print {limit = limit} {k = k} {d = d} {what = what} {qs = qs} prints none redirects i n closed ds rest there tail =
      let later = flat_map redirect_documents qs in
      let one = prints.print i (n + 1) closed ds (redirects_text qs ++ rest) (there ∙ compound_text d what qs rest) (behind_close redirects rest tail) in
      let two = redirects_print b redirects one.at one.count one.ended [] one.bodies [] rest no_mark no_waits one.behind tail in
      let joined : so_far b one.bodies (kind_pending what ++ later) ≡ so_far b one.bodies [] ++ later =
      ap (λ x. map (document_of b) one.bodies ++ (x ++ later)) none ∙ ap (λ x. x ++ later) (sym (append-nil (map (document_of b) one.bodies))) in
      record {
        at = two.at;
        count = two.count;
        ended = is_empty qs;
        marks = two.marks;
        bodies = one.bodies;
        met = one.met ++ later;
        left = two.left;
        marked = subst (λ x. Marked b limit two.left two.marks (x ++ later)) (sym none) two.marked;
        total = (let all = two.total in let first = one.total in omega arith);
        kept = kept_both (so_far b ds []) (so_far b one.bodies []) (so_far b one.bodies (kind_pending what ++ later)) one.met later one.kept joined;
        behind = two.behind;
        reads = λ body f.
            let parts = fits_both b (so_far b ds []) (so_far b one.bodies []) one.met later one.kept f in
            let x = one.reads body parts.0 in
            let rs = two.reads body parts.1 in (
              tree.command (n + 1) i x.0 rs.0,
              subst (λ t. ReadsCommand limit b body (place i n k closed [] ds) (place two.at two.count k t two.marks one.bodies) (tree.command (n + 1) i x.0 rs.0))
                  (mapped_empty (redirect_of b) rs.0 ∙ ap is_empty rs.2) (r.compound_command one.first_is x.1 rs.1),
              command_made b (n + 1) i x.0 rs.0 ∙ ap (λ y. bare.command y (map (redirect_of b) rs.0)) x.2 ∙ ap (bare.command what) rs.2,
            );
      }

  -- NAME ( ), a newline, and a compound command with its redirections
  define_print : {limit k d m o : ℕ} {name : Text} {what : bare.Kind} {qs : List bare.Redirect} → Name name → entry_of reserved_words name ≡ None → PrintsCompound b limit k d m what → PrintableCompound limit k m what
      → PrintableRedirects limit k false o qs → (i n : ℕ) (closed : Bool) (ds : List Document) (rest : List ℕ)
      → drop i b ≡ command_text d (bare.command (bare.Define name (bare.command what qs)) []) ++ rest → IsTail rest
      → PrintedCommand limit (suc (suc (m + o))) i n k closed ds (bare.command (bare.Define name (bare.command what qs)) []) rest
  unfolding pending
  define_print {limit = limit} {k = k} {d = d} {name = name} {what = what} {qs = qs} named free prints printable redirects i n closed ds rest there tail =
      let c = bare.command what qs in
      let text = command_text d c ++ rest in
      let inner = 41 ∷ 10 ∷ (tabs d ++ text) in
      let here : drop i b ≡ name ++ 40 ∷ inner = there ∙ define_text d name c rest in
      let end : name_end b i ≡ i + length name = name_ends b i name 40 inner named refl here in
      let j = blanks false b (name_end b i) in
      let e1 : drop j b ≡ 40 ∷ inner = fronted b (name_end b i) (40 ∷ inner) (ap (λ m. drop m b) end ∙ off b i name (40 ∷ inner) here) ∙ front_none 40 inner refl refl refl in
      let v = blanks false b (j + 1) in
      let e2 : drop v b ≡ inner = fronted b (j + 1) inner (one_off b j e1) ∙ front_none 41 (10 ∷ (tabs d ++ text)) refl refl refl in
      let q = blanks false b (v + 1) in
      let e3 : drop q b ≡ 10 ∷ (tabs d ++ text) = fronted b (v + 1) (10 ∷ (tabs d ++ text)) (one_off b v e2) ∙ front_none 10 (tabs d ++ text) refl refl refl in
      let starts = kind_starts printable d (redirects_text qs ++ rest) in
      let same = compound_text d what qs rest in
      let begins : begins_compound (lead_at text First 0) ≡ true = ap (λ t. begins_compound (lead_at t First 0)) same ∙ starts.begins in
      let at_text : front (tabs d ++ text) ≡ text = front_tabs d text ∙ ap front same ∙ starts.front_is ∙ sym same in
      let p = break_print b limit q (n + 1) k closed [] ds [] (tabs d ++ text) no_mark e3
      (ap (λ t. is_newline_lead (lead_at t First 0)) at_text ∙ command_straight _ (compound_command_begins _ begins)) in
      let e4 : drop p.at b ≡ text = p.behind ∙ at_text in
      let one = compound_print prints (compound_pending printable) redirects p.at p.count closed p.bodies rest e4 tail in
      record {
        at = one.at;
        count = one.count;
        ended = one.ended;
        marks = one.marks;
        bodies = one.bodies;
        met = one.met;
        left = one.left;
        marked = subst (λ x. Marked b limit one.left one.marks x) (sym (append-nil (pending c))) one.marked;
        total = (let all = one.total in let first = p.total in omega arith);
        kept = ap (so_far b one.bodies) (append-nil (pending c)) ∙ one.kept ∙ ap (λ x. x ++ one.met) p.kept;
        behind = one.behind;
        reads = λ body f.
            let x = one.reads body (subst (λ t. Fits b body (length t) one.met) (sym p.kept) f) in
            let s = span i (name_end b i) in (
              tree.command (n + 1) i (kind.Define s x.0) [],
              r.definition (lead_there b First i (name ++ 40 ∷ inner) here ∙ definition_leads name inner named free)
                  (lead_there b (Named false) j (40 ∷ inner) e1 ∙ open_leads false inner) (lead_there b (Named false) v inner e2 ∙ closing_lead (Named false) (10 ∷ (tabs d ++ text)))
                  p.reads (ap begins_compound (lead_there b First p.at text e4) ∙ begins) x.1,
              command_made b (n + 1) i (kind.Define s x.0) [] ∙ ap (λ y. bare.command y []) (kind_of-Define b s x.0
                  ∙ ap (λ m. bare.Define (text_of b (span i m)) (command_of b x.0)) end ∙ ap (λ t. bare.Define t (command_of b x.0)) (text_there b i name (40 ∷ inner) here) ∙ ap (bare.Define name) x.2),
            );
      }

  pub simple_prints : {limit k m : ℕ} {es : List bare.Element} (d : ℕ) → is_empty es ≡ false → PrintableElements limit k First false m es → PrintsCommand limit k d (suc m) (bare.command (bare.Simple es) [])
  unfolding is_empty
  simple_prints {es = []} d some printable = absurd (true≢false some)
  simple_prints {es = e ∷ es} d some printable = record { starts = command_starts (p.simple_command some printable) d; print = simple_print d printable }

  pub compound_prints : {limit k d m o : ℕ} {what : bare.Kind} {qs : List bare.Redirect} → PrintsCompound b limit k d m what → PrintableCompound limit k m what → PrintableRedirects limit k false o qs → PrintsCommand limit k d (suc (m + o)) (bare.command what qs)
  compound_prints {d = d} prints printable redirects = record {
    starts = command_starts (p.compound_command printable redirects) d;
    print = compound_print prints (compound_pending printable) redirects;
  }

  pub define_prints : {limit k d m o : ℕ} {name : Text} {what : bare.Kind} {qs : List bare.Redirect} → Name name → entry_of reserved_words name ≡ None → PrintsCompound b limit k d m what → PrintableCompound limit k m what
      → PrintableRedirects limit k false o qs → PrintsCommand limit k d (suc (suc (m + o))) (bare.command (bare.Define name (bare.command what qs)) [])
  define_prints {d = d} named free prints printable redirects = record {
    starts = command_starts (p.definition named free printable redirects) d;
    print = define_print named free prints printable redirects;
  }
