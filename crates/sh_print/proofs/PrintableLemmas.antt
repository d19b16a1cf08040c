-- A text that is read has a bare tree whose canonical text can be read.
use Rattle.std.proofs.Common.{◌≡◌, if◌then◌else◌, ◌<◌, ℕ, suc, ◌+◌, Bool, true, false, ◌||◌, List, [], ◌∷◌, map, length, drop, codes, Option, Some, None, refl, sym, ap, subst, ◌∙◌, ◌⊎◌, inl, inr, ⊎_elim, arith}
use Rattle.std.proofs.lemmas.Bool.{or_right, true≢false}
use Rattle.sh_tree.specs.declared.tree.AndOr.{AndOr, out-AndOr, out-roll-AndOr}
use Rattle.sh_tree.specs.declared.tree.Branch.{Branch}
use Rattle.sh_tree.specs.declared.tree.Clause.{Clause}
use Rattle.sh_tree.specs.declared.tree.ClauseEnd.{ClauseEnd}
use Rattle.sh_tree.specs.declared.tree.ClauseEnd.TheVariants.{Break}
use Rattle.sh_tree.specs.declared.tree.Command.{Command}
use Rattle.sh_tree.specs.declared.tree.Element.{Element}
use Rattle.sh_tree.specs.declared.tree.Item.{Item}
use Rattle.sh_tree.specs.declared.tree.Kind.{Kind}
use Rattle.sh_tree.specs.declared.tree.Kind.TheVariants as kind
use Rattle.sh_tree.specs.declared.tree.Link.{Link}
use Rattle.sh_tree.specs.declared.tree.LoopKind.TheVariants as loop
use Rattle.sh_tree.specs.declared.tree.Pipe.{Pipe}
use Rattle.sh_tree.specs.declared.tree.Redirect.{Redirect}
use Rattle.sh_tree.specs.declared.tree.Script.{Script}
use Rattle.sh_tree.specs.declared.tree.Span.{Span}
use Rattle.sh_tree.specs.declared.tree.Word.{Word}
use Rattle.sh_tree.specs.declared.token.word.Context.{Context}
use Rattle.sh_tree.specs.declared.token.word.Site.TheVariants as site
use Rattle.sh_tree.specs.declared.token.command.Lead.{Lead}
use Rattle.sh_tree.specs.declared.token.command.Lead.TheVariants as lead
use Rattle.sh_tree.specs.declared.token.command.Operator.TheVariants as op
use Rattle.sh_tree.specs.declared.token.command.Stage.{Stage}
use Rattle.sh_tree.specs.declared.token.command.Stage.TheVariants.{First, Prefixed, Named}
use Rattle.sh_tree.specs.standard.Tree.{text_of}
use Rattle.sh_tree.specs.standard.language.Bytes.{is_name}
use Rattle.sh_tree.specs.standard.language.Commands.{is_assignment, begins_compound, begins_simple, entry_of, is_open, is_redirection, is_word, name_end, redirects, reserved_words}
use Rattle.sh_tree.specs.standard.language.Contexts.{in_operand, in_value, in_word, in_stage, in_unsplit}
use Rattle.sh_tree.specs.standard.language.HereDocuments.{Mark, delimiter_of, is_delimiter}
use Rattle.sh_tree.specs.standard.language.Parts.{is_quoted_word}
use Rattle.sh_tree.specs.standard.language.Reading as r
use Rattle.sh_tree.specs.standard.language.Reading.{HasNoNul, ReadsTo, ReadsScript, ReadsSequence, ReadsList, ReadsItems, ReadsAndOr, ReadsLinks, ReadsPipeline, ReadsCommands, ReadsCommand, ReadsCompound, ReadsDo, ReadsBranches, ReadsElse, ReadsForWords, ReadsWords, ReadsClauses, ReadsPatterns, ReadsRedirect, ReadsRedirects, ReadsElements, ReadsWord, behind_token, is_empty, lead_here, lead_of, skip, stage_behind, unopened, parted}
use Rattle.sh_tree.specs.standard.language.States.{Spot, Document, State, as_deep, begun, document_count, facing, lower, next, nth, past, to, waits}
use Rattle.sh_tree.specs.standard.language.Trees as tree
use Rattle.sh_tree.specs.standard.language.Trees.{span}
use Rattle.sh_tree.proofs.Inversions.{word_is}
use Rattle.sh_reads.proofs.GapLemmas.{blanks_gap}
use Rattle.sh_reads.proofs.SettledLemmas.{IsSettled, breaks_settled, settled_next, settled_past, settled_parted, redirect_settled, and_or_settled}
use Rattle.sh_copies.specs.Copied.{Role, Field, Unsplit, Value, WordsAreCopied, TokenOf, context_of, form_of}
use Rattle.sh_copies.proofs.Declaring.{declares_read}
use Rattle.sh_print.specs.Bare as bare
use Rattle.sh_print.specs.Lists.{links_from, items_from, commands_from, branches_from, clauses_from, words_from}
use Rattle.sh_print.specs.Trees.{word_of, element_of, opened_of, opens_of, redirect_of, script_of, pipeline_of, command_of, kind_of}
use Rattle.sh_print.proofs.Printable as p
use Rattle.sh_print.proofs.Printable.{Printable, PrintableSequence, PrintableList, PrintableLinks, PrintablePipeline, PrintableCommands, PrintableCommand, PrintableCompound, PrintableBranches, PrintableOtherwise, PrintableForWords, PrintableWords, PrintableClauses, PrintablePatterns, PrintableRedirect, PrintableRedirects, PrintableElements, PrintableWord, is_here, stage_after}
use Rattle.sh_print.proofs.MadeLemmas.{script_made, item_listed, pipe_made, command_made, branch_made, clause_made}
use Rattle.sh_print.proofs.NameLemmas.{assigned_name, defined_name, name_read, not_named}
use Rattle.sh_print.proofs.SourceLemmas as source
use Rattle.sh_print.proofs.SourceLemmas.{Level, either, or_none, parted_level, redirection_numbered, since, unopened_level, waits_more, word_since}
use Rattle.sh_print.proofs.TreeLemmas.{kind_of-Simple, kind_of-Group, kind_of-Subshell, kind_of-Cond, kind_of-Loop, kind_of-For, kind_of-Branches, kind_of-Define, otherwise_from}

-- Words of simple commands

either_context : {A : Type 0} (f : Context → A) (v : A) (t : Bool) (x y : Context) → f x ≡ v → f y ≡ v → f (if t then x else y) ≡ v
either_context f v true x y h k = h
either_context f v false x y h k = k

stage_kept : {A : Type 0} (f : Context → A) (v : A) (b : List ℕ) (g : Stage) (i : ℕ) → ((n : ℕ) → f (in_word n) ≡ v) → ((n : ℕ) → f (in_value n) ≡ v) → f (in_stage b g i) ≡ v
unfolding in_stage in_operand
stage_kept f v b First i word value = word i
stage_kept f v b Prefixed i word value = word i
stage_kept f v b (Named d) i word value =
    either_context f v d (in_operand b i) (in_word i) (either_context f v (is_assignment (drop i b)) (in_value (name_end b i + 1)) (in_word i) (value (name_end b i + 1)) (word i)) (word i)

stage_given : {limit : ℕ} {b : List ℕ} {s u : Spot} {w : Word} (g : Stage) → ReadsWord limit b (in_stage b g s.at) s u w → stage_behind b g s.at ≡ stage_after g (text_of b w.span)
stage_given (Named d) reads = refl
stage_given {b = b} {s = s} g reads =
    ap Named (declares_read (stage_kept (λ x. x.site) site.Word b g s.at (λ n. refl) (λ n. refl)) (stage_kept (λ x. x.strip) false b g s.at (λ n. refl) (λ n. refl)) reads)

-- Leads

-- no compound command begins as a simple one does
not_simple : (l : Lead) → begins_compound l ≡ true → begins_simple l ≡ true → ⊥
unfolding begins_compound begins_simple is_redirection redirects
not_simple (lead.Operator op.LeftParenthesis) h k = true≢false (sym k)
not_simple (lead.Reserved o) h k = true≢false (sym k)
not_simple l h k = true≢false (sym h)

-- no command begins
nothing_since : (n held : ℕ) → n + held ≡ n + held + 0
nothing_since n held = omega arith

module _ (limit : ℕ) (b : List ℕ) (no_nul : HasNoNul b) (copies : WordsAreCopied) (body : ℕ → Document) where
  abbrev Fits : State → Type 0
  Fits s = source.Fits limit b no_nul copies body s

  abbrev Before : (s u : State) → Fits u → Type 0
  Before s u f = source.Before limit b no_nul copies body s u f

  -- The depth stays. What fits after the reading fits before it, and then P holds of the number of
  -- commands that begin in what is read.
  abbrev Gives : ℕ → State → State → (ℕ → Type 0) → Type 0
  Gives depth s u P = Level depth u.spot × ((f : Fits u) → (e : Fits s) × (m : ℕ) × (u.spot.count + f.0 ≡ s.spot.count + e.0 + m) × P m)

  -- The depth stays, and what fits after the reading fits before it.
  abbrev Leads : ℕ → State → State → Type 0
  Leads depth s u = Level depth u.spot × ((f : Fits u) → Before s u f)

  -- two pieces, in which so many commands begin together
  record Both (P Q : ℕ → Type 0) (m : ℕ) : Type 0 where
    one : ℕ
    two : ℕ
    sum : one + two ≡ m
    first : P one
    second : Q two

  joined : {P Q : ℕ → Type 0} (R : ℕ → Type 0) → ((m n : ℕ) → P m → Q n → R (m + n)) → (m : ℕ) → Both P Q m → R m
  joined R made m e = subst R e.sum (made e.one e.two e.first e.second)

  map_given : {P Q : ℕ → Type 0} (depth : ℕ) (s u : State) → ((m : ℕ) → P m → Q m) → Gives depth s u P → Gives depth s u Q
  map_given depth s u made m = (m.0, λ f. let e = m.1 f in (e.0, e.1, e.2, made e.1 e.3))

  -- a command
  begun_given : {P Q : ℕ → Type 0} (depth : ℕ) (s u : State) → ((m : ℕ) → P m → Q (suc m)) → Gives depth (begun s) u P → Gives depth s u Q
  begun_given depth s u made m = (m.0, λ f. let e = m.1 f in (e.0, suc e.1, (let all = e.2 in omega arith), made e.1 e.3))

  both_given : {P Q : ℕ → Type 0} (depth : ℕ) (s u v : State) → Gives depth s u P → (Level depth u.spot → Gives depth u v Q) → Gives depth s v (Both P Q)
  both_given depth s u v m more =
      let n = more m.0 in (
        n.0,
        λ f.
            let g = n.1 f in
            let e = m.1 g.0 in
            (e.0, e.1 + g.1, (let all = e.2 in let rest = g.2 in omega arith), record { one = e.1; two = g.1; sum = refl; first = e.3; second = g.3 }),
      )

  led_given : {P : ℕ → Type 0} (depth : ℕ) (s u v : State) → Leads depth s u → (Level depth u.spot → Gives depth u v P) → Gives depth s v P
  led_given depth s u v m more =
      let n = more m.0 in
      (n.0, λ f. let g = n.1 f in let e = m.1 g.0 in (e.0, g.1, (let all = e.1 in let rest = g.2 in omega arith), g.3))

  given_led : {P : ℕ → Type 0} (depth : ℕ) (s u v : State) → Gives depth s u P → (Level depth u.spot → Leads depth u v) → Gives depth s v P
  given_led depth s u v m more =
      let n = more m.0 in
      (n.0, λ f. let g = n.1 f in let e = m.1 g.0 in (e.0, e.1, (let all = e.2 in let rest = g.1 in omega arith), e.3))

  -- a reading one level deeper
  raised : {P : ℕ → Type 0} (depth : ℕ) (s u : State) → Level depth s.spot → (Level (depth + 1) (lower s).spot → Gives (depth + 1) (lower s) u P) → Gives depth s (as_deep s u) P
  raised depth s u k more = let m = more (ap (λ n. n + 1) k.0, k.1, k.2, k.3) in ((k.0, m.0.1, m.0.2, m.0.3), m.1)

  -- Words

  word_facing : {u : Spot} {w : Word} (s : State) (role : Role) (depth : ℕ) (quiet : Bool) → Level depth s.spot → (quiet ≡ true → waits s.pending ≡ true)
      → ReadsWord limit b (context_of role b s.spot.at) (facing s) u w → PrintableWord limit depth quiet role (form_of b w) (since s.spot u) (text_of b w.span)
  word_facing s role depth quiet k loud reads =
      source.word_given limit b no_nul copies role depth quiet k.0 k.2 k.3 (λ h. or_right s.spot.quiet (waits s.pending) (loud h)) reads

  never : {P : Type 0} → false ≡ true → P
  never h = absurd (true≢false (sym h))

  -- if no here-document waits
  word_loud : {u : Spot} {w : Word} (s : State) (role : Role) (depth : ℕ) → Level depth s.spot
      → ReadsWord limit b (context_of role b s.spot.at) (facing s) u w → PrintableWord limit depth false role (form_of b w) (since s.spot u) (text_of b w.span)
  word_loud s role depth k reads = word_facing s role depth false k never reads

  token_facing : {u : Spot} {w : Word} (s : State) (role : Role) (g : Stage) → IsSettled b s.spot → lead_of b g s ≡ lead.Word
      → ReadsWord limit b (context_of role b s.spot.at) (facing s) u w → TokenOf g (text_of b w.span)
  token_facing {u = u} {w = w} s role g here is reads = copies.tokens limit b role g (facing s) u w here is reads

  -- Redirections

  -- also, what waits after a redirection
  abbrev Goes : ℕ → Bool → State → State → Redirect → Type 0
  Goes depth quiet s u q =
      Level depth u.spot × ((quiet || is_here (redirect_of b q).opens) ≡ true → waits u.pending ≡ true)
      × ((f : Fits u) → (e : Fits s) × (m : ℕ) × (u.spot.count + f.0 ≡ s.spot.count + e.0 + m) × PrintableRedirect limit depth quiet m (redirect_of b q))

  redirect_given : {s u : State} {q : Redirect} (depth : ℕ) (quiet : Bool) → Level depth s.spot → (quiet ≡ true → waits s.pending ≡ true) → ReadsRedirect limit b body s u q → Goes depth quiet s u q
  unfolding opens_of opened_of context_of is_delimiter delimiter_of
  redirect_given depth quiet k loud (r.file {s = s} {u = u} {r = at} {d = d} {w = w} found direction is reads) =
      let s1 = next b at.end s in (
        k,
        λ h. loud (or_none quiet h),
        λ f. (
          f,
          since s.spot u,
          (let all = word_since reads in omega arith),
          p.file (redirection_numbered b s.spot.at at found) (token_facing s1 Unsplit (Named false) (settled_next b at.end s) (word_is _ is) reads) (word_facing s1 Unsplit depth quiet k loud reads),
        ),
      )
  redirect_given depth quiet k loud (r.here_document {s = s} {u = u} {r = at} {strip = strip} {w = w} found strips is reads delimits) =
      let s1 = next b at.end s in
      let mark : Mark = record { strip = strip; quoted = is_quoted_word w; delimiter = delimiter_of b w; depth = s.spot.depth } in (
        k,
        λ h. waits_more s.pending mark,
        λ f.
            let last = source.last_fits limit b no_nul copies body s mark f in
            let document = last.3 (copies.marks limit s.spot.depth strip b (facing s1) u w reads delimits) in (
              last.0,
              since s.spot u + last.1,
              (let all = word_since reads in let rest = last.2 in omega arith),
              p.here_document (redirection_numbered b s.spot.at at found) (token_facing s1 Unsplit (Named false) (settled_next b at.end s) (word_is _ is) reads) (word_facing s1 Unsplit depth quiet k loud reads)
                  delimits
                  (subst (λ n. p.PrintableDocument limit (record { strip = strip; quoted = is_quoted_word w; delimiter = delimiter_of b w; depth = n }) last.1 (source.document_of limit b no_nul copies (body (document_count s)))) k.0 document),
            ),
      )

  redirects_given : {s u : State} {qs : List Redirect} (depth : ℕ) (quiet : Bool) → Level depth s.spot → (quiet ≡ true → waits s.pending ≡ true) → ReadsRedirects limit b body s u qs
      → Gives depth s u (λ m. PrintableRedirects limit depth quiet m (map (redirect_of b) qs))
  redirects_given depth quiet k loud (r.no_redirect {s = s} h) = (k, λ f. (f, 0, nothing_since s.spot.count f.0, p.no_redirects))
  redirects_given depth quiet k loud (r.more_redirects {r = q} h one more) =
      let first = redirect_given depth quiet k loud one in
      let rest = redirects_given depth (quiet || is_here (redirect_of b q).opens) first.0 first.1 more in
      (rest.0, λ f. let g = rest.1 f in let e = first.2 g.0 in (e.0, e.1 + g.1, (let all = e.2 in let others = g.2 in omega arith), p.more_redirects e.3 g.3))

  -- Simple commands

  elements_given : {g : Stage} {s u : State} {es : List Element} (depth : ℕ) (quiet : Bool) → Level depth s.spot → IsSettled b s.spot → (quiet ≡ true → waits s.pending ≡ true)
      → ReadsElements limit b body g s u es → Gives depth s u (λ m. PrintableElements limit depth g quiet m (map (element_of b) es))
  unfolding element_of context_of
  elements_given depth quiet k here loud (r.no_element {s = s} h) = (k, λ f. (f, 0, nothing_since s.spot.count f.0, p.no_elements))
  elements_given depth quiet k here loud (r.assigned_element {g = g} {s = s} {u = u} is reads more) =
      let s1 : State = record s { spot = to (name_end b s.spot.at + 1) s.spot } in
      let rest = elements_given depth quiet k (settled_past b u s) loud more in
      let own = word_since reads in (
        rest.0,
        λ f.
            let e = rest.1 f in (
              e.0,
              since s.spot u + e.1,
              (let all = e.2 in omega arith),
              p.assigned_element (not_named b g s.spot.at is) (assigned_name b g s.spot.at is) (word_facing s1 Value depth quiet k loud reads) e.3,
            ),
      )
  elements_given depth quiet k here loud (r.word_element {g = g} {s = s} {u = u} {w = w} {es = es} is reads more) =
      let rest = elements_given depth quiet k (settled_past b u s) loud more in
      let own = word_since reads in
      let same = stage_given g reads in (
        rest.0,
        λ f.
            let e = rest.1 f in (
              e.0,
              since s.spot u + e.1,
              (let all = e.2 in omega arith),
              p.word_element (token_facing s (Field g) g here is reads) (word_facing s (Field g) depth quiet k loud reads)
                  (subst (λ x. PrintableElements limit depth x quiet e.1 (map (element_of b) es)) same e.3),
            ),
      )
  elements_given depth quiet k here loud (r.redirect_element {r = q} h one more) =
      let first = redirect_given depth quiet k loud one in
      let rest = elements_given depth (quiet || is_here (redirect_of b q).opens) first.0 (redirect_settled one) first.1 more in
      (rest.0, λ f. let g = rest.1 f in let e = first.2 g.0 in (e.0, e.1 + g.1, (let all = e.2 in let others = g.2 in omega arith), p.redirect_element e.3 g.3))

  -- what begins as a simple command has an element
  some_elements : {g : Stage} {s u : State} {es : List Element} → begins_simple (lead_of b g s) ≡ true → ReadsElements limit b body g s u es → is_empty (map (element_of b) es) ≡ false
  unfolding is_empty
  some_elements begins (r.no_element h) = absurd (true≢false (sym begins ∙ h))
  some_elements begins (r.assigned_element is reads more) = refl
  some_elements begins (r.word_element is reads more) = refl
  some_elements begins (r.redirect_element h one more) = refl

  -- Words of `for` and patterns

  words_given : {s u : State} {ws : List Word} (depth : ℕ) → Level depth s.spot → IsSettled b s.spot → ReadsWords limit b s u ws
      → Gives depth s u (λ m. PrintableWords limit depth m (map (word_of b) ws))
  unfolding context_of in_stage
  words_given depth k here (r.no_word {s = s} h) = (k, λ f. (f, 0, nothing_since s.spot.count f.0, p.no_words))
  words_given depth k here (r.more_words {s = s} {u = u} is reads more) =
      let rest = words_given depth k (settled_past b u s) more in
      let own = word_since reads in (
        rest.0,
        λ f.
            let e = rest.1 f in (
              e.0,
              since s.spot u + e.1,
              (let all = e.2 in omega arith),
              p.more_words (token_facing s (Field (Named false)) (Named false) here (word_is _ is) reads) (word_loud s (Field (Named false)) depth k reads) e.3,
            ),
      )

  patterns_given : {s u : State} {ws : List Word} (depth : ℕ) → Level depth s.spot → IsSettled b s.spot → ReadsPatterns limit b s u ws
      → Gives depth s u (λ m. PrintablePatterns limit depth m (map (word_of b) ws))
  unfolding context_of
  patterns_given depth k here (r.last_pattern {s = s} {u = u} is reads closes) = (
    k,
    λ f. (
      f,
      since s.spot u,
      (let all = word_since reads in omega arith),
      p.last_pattern (token_facing s Unsplit (Named false) here (word_is _ is) reads) (word_loud s Unsplit depth k reads),
    ),
  )
  patterns_given depth k here (r.more_patterns {s = s} {u = u} is reads bar more) =
      let rest = patterns_given depth k (settled_next b _ (past b u s)) more in
      let own = word_since reads in (
        rest.0,
        λ f.
            let e = rest.1 f in (
              e.0,
              since s.spot u + e.1,
              (let all = e.2 in omega arith),
              p.more_patterns (token_facing s Unsplit (Named false) here (word_is _ is) reads) (word_loud s Unsplit depth k reads) e.3,
            ),
      )

  unopened_settled : (s : State) → IsSettled b s.spot → IsSettled b (unopened b s).spot
  unopened_settled s here = either (λ u. IsSettled b u.spot) (is_open (lead_of b (Named false) s)) (skip b 1 s) s (settled_next b _ s) here

  leads_breaks : {s u : State} (depth : ℕ) → r.ReadsBreaks limit b s u → Level depth s.spot → Leads depth s u
  leads_breaks depth breaks k = source.breaks_given limit b no_nul copies body depth breaks k

  -- newlines after a separator
  leads_parted : {u : State} (depth : ℕ) (s : State) → r.ReadsBreaks limit b (parted b s) u → Level depth s.spot → Leads depth s u
  leads_parted {u} depth s breaks k =
      let m = leads_breaks depth breaks (parted_level b depth s k) in (m.0, λ f. source.parted_fits limit b no_nul copies body s u f (m.1 f))

  -- nothing but newlines
  breaks_alone : {P : ℕ → Type 0} (depth : ℕ) (s u : State) → P 0 → Leads depth s u → Gives depth s u P
  breaks_alone depth s u none m = (m.0, λ f. let e = m.1 f in (e.0, 0, (let all = e.1 in omega arith), none))

  for_words_given : {s u : State} {o : Option (List Word)} (depth : ℕ) → Level depth s.spot → IsSettled b s.spot → ReadsForWords limit b s u o
      → Gives depth s u (λ m. PrintableForWords limit depth m (words_from b o))
  for_words_given depth k here (r.arguments_ended {s = s} {u = u} h breaks) = breaks_alone depth s u p.arguments (leads_breaks depth breaks k)
  for_words_given depth k here (r.arguments {s = s} {u = u} breaks h) = breaks_alone depth s u p.arguments (leads_breaks depth breaks k)
  for_words_given depth k here (r.listed {s = s} {u = u} {v = v} {w = w} breaks h words ends lines) =
      map_given depth s w (λ m e. p.listed e)
      (led_given depth s u w (leads_breaks depth breaks k)
      (λ n. given_led depth u v w (words_given depth n (settled_next b _ u) words) (λ o. leads_parted depth v lines o)))

  -- Commands

  within_limit : (depth : ℕ) (s : Spot) → Level depth s → s.depth < limit → depth < limit
  within_limit depth s k deep = subst (λ n. n < limit) k.0 deep

  -- a compound command with its redirections
  abbrev Whole : ℕ → bare.Kind → List bare.Redirect → ℕ → Type 0
  Whole depth x rs m = Both (λ m. PrintableCompound limit depth m x) (λ m. PrintableRedirects limit depth false m rs) m

  abbrev Body : ℕ → bare.Command → ℕ → Type 0
  Body depth c m = (x : bare.Kind) × (rs : List bare.Redirect) × (n : ℕ) × (suc n ≡ m) × (c ≡ bare.command x rs) × Whole depth x rs n

  simple_made : (es : List Element) (depth number at : ℕ) → is_empty (map (element_of b) es) ≡ false → (m : ℕ) → PrintableElements limit depth First false m (map (element_of b) es)
      → PrintableCommand limit depth (suc m) (command_of b (tree.command number at (kind.Simple es) []))
  simple_made es depth number at some m given =
      subst (PrintableCommand limit depth (suc m)) (sym (command_made b number at (kind.Simple es) [] ∙ ap (λ x. bare.command x []) (kind_of-Simple b es))) (p.simple_command some given)

  compound_made : (c : Kind) (rs : List Redirect) (depth number at m : ℕ) → Whole depth (kind_of b c) (map (redirect_of b) rs) m
      → PrintableCommand limit depth (suc m) (command_of b (tree.command number at c rs))
  compound_made c rs depth number at m given =
      subst (PrintableCommand limit depth (suc m)) (sym (command_made b number at c rs))
      (subst (λ n. PrintableCommand limit depth (suc n) (bare.command (kind_of b c) (map (redirect_of b) rs))) given.sum (p.compound_command given.first given.second))

  body_made : (c : Kind) (rs : List Redirect) (depth number at m : ℕ) → Whole depth (kind_of b c) (map (redirect_of b) rs) m → Body depth (command_of b (tree.command number at c rs)) (suc m)
  body_made c rs depth number at m given = (kind_of b c, map (redirect_of b) rs, m, refl, command_made b number at c rs, given)

  defined_made : (s : Span) (c : Command) (depth number at : ℕ) → (is_name (text_of b s) ≡ true) × (entry_of reserved_words (text_of b s) ≡ None) → (m : ℕ) → Body depth (command_of b c) m
      → PrintableCommand limit depth (suc m) (command_of b (tree.command number at (kind.Define s c) []))
  defined_made s c depth number at named m given =
      let made = command_made b number at (kind.Define s c) [] ∙ ap (λ x. bare.command x []) (kind_of-Define b s c) ∙ ap (λ x. bare.command (bare.Define (text_of b s) x) []) given.4 in
      let whole = given.5 in
      subst (PrintableCommand limit depth (suc m)) (sym made)
      (subst (λ n. PrintableCommand limit depth (suc n) (bare.command (bare.Define (text_of b s) (bare.command given.0 given.1)) [])) (ap suc whole.sum ∙ given.3)
      (p.definition named.0 named.1 whole.first whole.second))

  -- the pipelines of an and-or list
  abbrev Pipelines : ℕ → AndOr → ℕ → Type 0
  Pipelines depth l m = Both (λ m. PrintablePipeline limit depth m (pipeline_of b (out-AndOr l).first)) (λ m. PrintableLinks limit depth m (links_from b (out-AndOr l).rest)) m

  last_made : (l : AndOr) (depth : ℕ) (g : Bool) (m : ℕ) → Pipelines depth l m → PrintableList limit depth m (items_from b (tree.item l g ∷ []))
  unfolding items_from
  last_made l depth g m given = subst (PrintableList limit depth m) (sym (item_listed b l g [])) (joined (λ m. PrintableList limit depth m (bare.more_items (pipeline_of b (out-AndOr l).first) (links_from b (out-AndOr l).rest) g bare.no_items)) (λ m n x y. p.last_item x y) m given)

  more_made : (l : AndOr) (is : List Item) (depth : ℕ) (g : Bool) (m : ℕ) → Both (Pipelines depth l) (λ m. PrintableList limit depth m (items_from b is)) m
      → PrintableList limit depth m (items_from b (tree.item l g ∷ is))
  more_made l is depth g m given =
      let first = given.first in
      subst (PrintableList limit depth m) (sym (item_listed b l g is))
      (subst (λ n. PrintableList limit depth n (bare.more_items (pipeline_of b (out-AndOr l).first) (links_from b (out-AndOr l).rest) g (items_from b is)))
      (ap (λ n. n + given.two) first.sum ∙ given.sum) (p.more_items first.first first.second given.second))

  -- what follows a branch of `if`: no branch or further ones, and `else` or nothing
  abbrev Further : ℕ → List Branch → ℕ → Type 0
  Further depth bs m = ((branches_from b bs ≡ bare.no_branches) × (m ≡ 0)) ⊎ PrintableBranches limit depth m (branches_from b bs)

  abbrev More : ℕ → List Branch → Option Script → ℕ → Type 0
  More depth bs o m = Both (Further depth bs) (λ m. PrintableOtherwise limit depth m (otherwise_from b o)) m

  abbrev Lists : ℕ → Script → Script → ℕ → Type 0
  Lists depth c t m = Both (λ m. PrintableList limit depth m (script_of b c)) (λ m. PrintableList limit depth m (script_of b t)) m

  abbrev Branches : ℕ → List Branch → Option Script → ℕ → Type 0
  Branches depth bs o m = Both (λ m. PrintableBranches limit depth m (branches_from b bs)) (λ m. PrintableOtherwise limit depth m (otherwise_from b o)) m

  branch_given : (c t : Script) (bs : List Branch) (o : Option Script) (depth m : ℕ) → Both (Lists depth c t) (More depth bs o) m → Branches depth (tree.branch c t ∷ bs) o m
  branch_given c t bs o depth m given =
      let lists = given.first in
      let more = given.second in
      record {
        one = given.one + more.one;
        two = more.two;
        sum = (let all = given.sum in let rest = more.sum in omega arith);
        first = subst (PrintableBranches limit depth (given.one + more.one)) (sym (branch_made b c t bs)) (⊎_elim
            (λ none. subst (λ xs. PrintableBranches limit depth (given.one + more.one) (bare.more_branches (script_of b c) (script_of b t) xs)) (sym none.0)
            (subst (λ n. PrintableBranches limit depth n (bare.more_branches (script_of b c) (script_of b t) bare.no_branches)) (let both = lists.sum in let e = none.1 in omega arith)
            (p.last_branch lists.first lists.second)))
            (λ others.
            subst (λ n. PrintableBranches limit depth n (bare.more_branches (script_of b c) (script_of b t) (branches_from b bs))) (ap (λ n. n + more.one) lists.sum) (p.more_branches lists.first lists.second others))
            more.first);
        second = more.second;
      }

  clauses_made : (ws : List Word) (t : Script) (end : ClauseEnd) (cs : List Clause) (depth m : ℕ)
      → Both (Both (λ m. PrintablePatterns limit depth m (map (word_of b) ws)) (λ m. PrintableSequence limit depth m (script_of b t))) (λ m. PrintableClauses limit depth m (clauses_from b cs)) m
      → PrintableClauses limit depth m (clauses_from b (tree.clause ws t end ∷ cs))
  clauses_made ws t end cs depth m given =
      let first = given.first in
      subst (PrintableClauses limit depth m) (sym (clause_made b ws t end cs))
      (subst (λ n. PrintableClauses limit depth n (bare.more_clauses (map (word_of b) ws) (script_of b t) end (clauses_from b cs))) (ap (λ n. n + given.two) first.sum ∙ given.sum)
      (p.more_clauses first.first first.second given.second))

  unopened_given : {u : State} {ws : List Word} (depth : ℕ) (s : State) → Level depth s.spot → IsSettled b s.spot → ReadsPatterns limit b (unopened b s) u ws
      → Gives depth s u (λ m. PrintablePatterns limit depth m (map (word_of b) ws))
  unopened_given {u} {ws} depth s k here patterns =
      let m = patterns_given depth (unopened_level b depth s k) (unopened_settled s here) patterns in
      either (λ x. Gives depth x u (λ m. PrintablePatterns limit depth m (map (word_of b) ws)) → Gives depth s u (λ m. PrintablePatterns limit depth m (map (word_of b) ws)))
      (is_open (lead_of b (Named false) s)) (skip b 1 s) s (λ e. e) (λ e. e) m

  not_defining : (l : Lead) → l ≡ lead.Definition → begins_compound l ≡ true → ⊥
  unfolding begins_compound
  not_defining l is h = true≢false (sym h ∙ ap begins_compound is)

  no_more : (depth : ℕ) → More depth [] None 0
  unfolding branches_from
  no_more depth = record { one = 0; two = 0; sum = refl; first = inl (refl, refl); second = p.no_else }

  last_else : (t : Script) (depth m : ℕ) → PrintableList limit depth m (script_of b t) → More depth [] (Some t) m
  unfolding branches_from
  last_else t depth m given = record { one = 0; two = m; sum = (let e : 0 + m ≡ m = omega arith in e); first = inl (refl, refl); second = p.else_of given }

  further_branches : (bs : List Branch) (o : Option Script) (depth m : ℕ) → Branches depth bs o m → More depth bs o m
  further_branches bs o depth m given = record { one = given.one; two = given.two; sum = given.sum; first = inr given.first; second = given.second }

  none_made : (depth : ℕ) → PrintableClauses limit depth 0 (clauses_from b [])
  unfolding clauses_from
  none_made depth = p.no_clauses

  last_clause_made : (ws : List Word) (t : Script) (depth m : ℕ) → Both (λ m. PrintablePatterns limit depth m (map (word_of b) ws)) (λ m. PrintableSequence limit depth m (script_of b t)) m
      → PrintableClauses limit depth m (clauses_from b (tree.clause ws t Break ∷ []))
  last_clause_made ws t depth m given = clauses_made ws t Break [] depth m (record { one = m; two = 0; sum = (let e : m + 0 ≡ m = omega arith in e); first = given; second = none_made depth })

  last_command_made : (c : Command) (depth m : ℕ) → PrintableCommand limit depth m (command_of b c) → PrintableCommands limit depth m (commands_from b (c ∷ []))
  unfolding commands_from
  last_command_made c depth m given = p.last_command given

  more_commands_made : (c : Command) (cs : List Command) (depth m : ℕ)
      → Both (λ m. PrintableCommand limit depth m (command_of b c)) (λ m. PrintableCommands limit depth m (commands_from b cs)) m
      → PrintableCommands limit depth m (commands_from b (c ∷ cs))
  unfolding commands_from
  more_commands_made c cs depth m given = joined (λ m. PrintableCommands limit depth m (bare.more_commands (command_of b c) (commands_from b cs))) (λ m n x y. p.more_commands x y) m given

  no_links_made : (depth : ℕ) → PrintableLinks limit depth 0 (links_from b [])
  unfolding links_from
  no_links_made depth = p.no_links

  more_links_made : (l : Link) (x : Pipe) (xs : List (Link × Pipe)) (depth m : ℕ) → Both (λ m. PrintablePipeline limit depth m (pipeline_of b x)) (λ m. PrintableLinks limit depth m (links_from b xs)) m
      → PrintableLinks limit depth m (links_from b ((l, x) ∷ xs))
  unfolding links_from
  more_links_made l x xs depth m given = joined (λ m. PrintableLinks limit depth m (bare.more_links l (pipeline_of b x) (links_from b xs))) (λ m n x y. p.more_links x y) m given

  nothing_made : (depth : ℕ) → PrintableSequence limit depth 0 (script_of b (tree.script []))
  unfolding items_from
  nothing_made depth = subst (PrintableSequence limit depth 0) (sym (script_made b [])) p.nothing

  -- the word of `case`, up to the token after it
  case_given : {u : Spot} {w : Word} (depth : ℕ) (s : State) → Level depth s.spot → IsSettled b s.spot → is_word (lead_of b (Named false) s) ≡ true
      → ReadsWord limit b (in_unsplit s.spot.at) (facing s) u w
      → Gives depth s (past b u s) (λ m. TokenOf (Named false) (text_of b w.span) × PrintableWord limit depth false Unsplit (form_of b w) m (text_of b w.span))
  unfolding context_of
  case_given {u} depth s k here is reads = (
    k,
    λ f. (f, since s.spot u, (let all = word_since reads in omega arith), (token_facing s Unsplit (Named false) here (word_is _ is) reads, word_loud s Unsplit depth k reads)),
  )

  mutual
    command_given : {s u : State} {c : Command} (depth : ℕ) → Level depth s.spot → IsSettled b s.spot → ReadsCommand limit b body s u c → Gives depth s u (λ m. PrintableCommand limit depth m (command_of b c))
    command_given depth k here (r.simple_command {s = s} {u = u} {es = es} begins reads) =
        begun_given depth s u (simple_made es depth (s.spot.count + 1) s.spot.at (some_elements begins reads)) (elements_given depth false k here never reads)
    command_given depth k here (r.compound_command {s = s} {u = u} {v = v} {k = c} {rs = rs} l compound more) =
        begun_given depth s v (compound_made c rs depth (s.spot.count + 1) s.spot.at) (both_given depth (begun s) u v (compound_given depth k compound) (λ m. redirects_given depth false m never more))
    command_given depth k here (r.definition {s = s} {u = u} {v = v} {c = c} l opens closes breaks begins reads) =
        begun_given depth s v (defined_made (span s.spot.at (name_end b s.spot.at)) c depth (s.spot.count + 1) s.spot.at (defined_name b s.spot.at l))
        (led_given depth (begun s) u v (leads_breaks depth breaks k) (λ m. body_given depth m begins reads))

    -- the body of a function
    body_given : {s u : State} {c : Command} (depth : ℕ) → Level depth s.spot → begins_compound (lead_here b s) ≡ true → ReadsCommand limit b body s u c → Gives depth s u (Body depth (command_of b c))
    body_given depth k begins (r.simple_command h reads) = absurd (not_simple _ begins h)
    body_given depth k begins (r.compound_command {s = s} {u = u} {v = v} {k = c} {rs = rs} l compound more) =
        begun_given depth s v (body_made c rs depth (s.spot.count + 1) s.spot.at) (both_given depth (begun s) u v (compound_given depth k compound) (λ m. redirects_given depth false m never more))
    body_given depth k begins (r.definition l opens closes breaks begins' reads) = absurd (not_defining _ l begins)

    compound_given : {l : Lead} {s u : State} {c : Kind} (depth : ℕ) → Level depth s.spot → ReadsCompound limit b body l s u c → Gives depth s u (λ m. PrintableCompound limit depth m (kind_of b c))
    compound_given depth k (r.group {s = s} {u = u} {t = t} deep inner h) =
        map_given depth s (as_deep s u) (λ m e. subst (PrintableCompound limit depth m) (sym (kind_of-Group b t)) (p.group (within_limit depth s.spot k deep) e))
        (raised depth s u k (λ m. list_given (depth + 1) m (settled_next b _ s) inner))
    compound_given depth k (r.subshell {s = s} {u = u} {t = t} deep inner h) =
        map_given depth s (as_deep s u) (λ m e. subst (PrintableCompound limit depth m) (sym (kind_of-Subshell b t)) (p.subshell (within_limit depth s.spot k deep) e))
        (raised depth s u k (λ m. list_given (depth + 1) m (settled_next b _ s) inner))
    compound_given depth k (r.cond {s = s} {u = u} {bs = bs} {o = o} deep branches) =
        map_given depth s (as_deep s u) (joined _ (λ m n x y. subst (PrintableCompound limit depth (m + n)) (sym (kind_of-Cond b bs o)) (p.conditional (within_limit depth s.spot k deep) x y)))
        (raised depth s u k (λ m. branches_given (depth + 1) m (settled_next b _ s) branches))
    compound_given depth k (r.while_loop {s = s} {u = u} {v = v} {c = c} {t = t} deep condition inner) =
        map_given depth s (as_deep s v) (joined _ (λ m n x y. subst (PrintableCompound limit depth (m + n)) (sym (kind_of-Loop b loop.While c t)) (p.loop (within_limit depth s.spot k deep) x y)))
        (raised depth s v k (λ m. both_given (depth + 1) (lower s) u v (list_given (depth + 1) m (settled_next b _ s) condition) (λ n. do_given (depth + 1) n inner)))
    compound_given depth k (r.until_loop {s = s} {u = u} {v = v} {c = c} {t = t} deep condition inner) =
        map_given depth s (as_deep s v) (joined _ (λ m n x y. subst (PrintableCompound limit depth (m + n)) (sym (kind_of-Loop b loop.Until c t)) (p.loop (within_limit depth s.spot k deep) x y)))
        (raised depth s v k (λ m. both_given (depth + 1) (lower s) u v (list_given (depth + 1) m (settled_next b _ s) condition) (λ n. do_given (depth + 1) n inner)))
    compound_given depth k (r.for_loop {s = s} {u = u} {v = v} {o = o} {t = t} deep named words inner) =
        let i = (behind_token b (codes "for") s).spot.at in
        map_given depth s (as_deep s v) (joined _ (λ m n x y. subst (PrintableCompound limit depth (m + n)) (sym (kind_of-For b (span i (name_end b i)) o t)) (p.for_loop (within_limit depth s.spot k deep) (name_read b i named) x y)))
        (raised depth s v k (λ m. both_given (depth + 1) (lower s) u v (for_words_given (depth + 1) m (settled_next b _ s) words) (λ n. do_given (depth + 1) n inner)))
    compound_given depth k (r.case_of {s = s} {p = x} {q = y} {v = v} {u = u} {w = w} {cs = cs} deep is reads before h behind clauses) =
        map_given depth s (as_deep s v) (joined _ (λ m n x y. subst (PrintableCompound limit depth (m + n)) (sym (kind_of-Branches b w cs)) (p.case_of (within_limit depth s.spot k deep) x.0 x.1 y)))
        (raised depth s v k (λ m. both_given (depth + 1) (lower s) y v
        (given_led (depth + 1) (lower s) x y
        (given_led (depth + 1) (lower s) (past b u (lower (behind_token b (codes "case") s))) x (case_given (depth + 1) (lower (behind_token b (codes "case") s)) m (settled_next b _ s) is reads)
        (λ n. leads_breaks (depth + 1) before n))
        (λ n. leads_breaks (depth + 1) behind n))
        (λ n. clauses_given (depth + 1) n (breaks_settled (settled_next b _ x) behind) clauses)))

    do_given : {s u : State} {t : Script} (depth : ℕ) → Level depth s.spot → ReadsDo limit b body s u t → Gives depth s u (λ m. PrintableList limit depth m (script_of b t))
    do_given depth k (r.do_group {s = s} h inner l) = list_given depth k (settled_next b _ s) inner

    branches_given : {s u : State} {bs : List Branch} {o : Option Script} (depth : ℕ) → Level depth s.spot → IsSettled b s.spot → ReadsBranches limit b body s u bs o
        → Gives depth s u (Branches depth bs o)
    branches_given depth k here (r.branch {s = s} {u = u} {v = v} {w = w} {c = c} {t = t} {bs = bs} {o = o} condition h inner more) =
        map_given depth s w (branch_given c t bs o depth)
        (both_given depth s v w (both_given depth s u v (list_given depth k here condition) (λ m. list_given depth m (settled_next b _ u) inner)) (λ m. else_given depth m more))

    else_given : {s u : State} {bs : List Branch} {o : Option Script} (depth : ℕ) → Level depth s.spot → ReadsElse limit b body s u bs o → Gives depth s u (More depth bs o)
    else_given depth k (r.fi {s = s} h) = (k, λ f. (f, 0, nothing_since s.spot.count f.0, no_more depth))
    else_given depth k (r.otherwise {s = s} {u = u} {t = t} h inner l) = map_given depth s u (last_else t depth) (list_given depth k (settled_next b _ s) inner)
    else_given depth k (r.elif {s = s} {u = u} h branches) = map_given depth s u (further_branches _ _ depth) (branches_given depth k (settled_next b _ s) branches)

    clauses_given : {s u : State} {cs : List Clause} (depth : ℕ) → Level depth s.spot → IsSettled b s.spot → ReadsClauses limit b body s u cs → Gives depth s u (λ m. PrintableClauses limit depth m (clauses_from b cs))
    clauses_given depth k here (r.esac {s = s} h) = (k, λ f. (f, 0, nothing_since s.spot.count f.0, none_made depth))
    clauses_given depth k here (r.last_clause {s = s} {u = u} {v = v} {ws = ws} {t = t} h patterns inner l) =
        map_given depth s v (last_clause_made ws t depth) (both_given depth s u v (unopened_given depth s k here patterns) (λ m. sequence_given depth m (settled_next b _ u) inner))
    clauses_given depth k here (r.more_clauses {s = s} {u = u} {v = v} {w = w} {z = z} {ws = ws} {t = t} {e = end} {cs = cs} h patterns inner l breaks more) =
        map_given depth s z (clauses_made ws t end cs depth)
        (both_given depth s w z
        (given_led depth s v w (both_given depth s u v (unopened_given depth s k here patterns) (λ m. sequence_given depth m (settled_next b _ u) inner)) (λ m. leads_breaks depth breaks m))
        (λ m. clauses_given depth m (breaks_settled (settled_next b _ v) breaks) more))

    pipeline_given : {s u : State} {x : Pipe} (depth : ℕ) → Level depth s.spot → IsSettled b s.spot → ReadsPipeline limit b body s u x → Gives depth s u (λ m. PrintablePipeline limit depth m (pipeline_of b x))
    pipeline_given depth k here (r.negated {s = s} {u = u} {cs = cs} h commands) =
        map_given depth s u (λ m e. subst (PrintablePipeline limit depth m) (sym (pipe_made b true cs)) (p.pipeline e)) (commands_given depth k (settled_next b _ s) commands)
    pipeline_given depth k here (r.straight {s = s} {u = u} {cs = cs} h commands) =
        map_given depth s u (λ m e. subst (PrintablePipeline limit depth m) (sym (pipe_made b false cs)) (p.pipeline e)) (commands_given depth k here commands)

    commands_given : {s u : State} {cs : List Command} (depth : ℕ) → Level depth s.spot → IsSettled b s.spot → ReadsCommands limit b body s u cs → Gives depth s u (λ m. PrintableCommands limit depth m (commands_from b cs))
    commands_given depth k here (r.last_command {s = s} {u = u} {c = c} command h) = map_given depth s u (last_command_made c depth) (command_given depth k here command)
    commands_given depth k here (r.more_commands {s = s} {u = u} {v = v} {w = w} {c = c} {cs = cs} command h breaks more) =
        map_given depth s w (more_commands_made c cs depth)
        (both_given depth s v w (given_led depth s u v (command_given depth k here command) (λ m. leads_breaks depth breaks m)) (λ m. commands_given depth m (breaks_settled (settled_next b _ u) breaks) more))

    links_given : {s u : State} {xs : List (Link × Pipe)} (depth : ℕ) → Level depth s.spot → ReadsLinks limit b body s u xs → Gives depth s u (λ m. PrintableLinks limit depth m (links_from b xs))
    links_given depth k (r.no_link {s = s} h) = (k, λ f. (f, 0, nothing_since s.spot.count f.0, no_links_made depth))
    links_given depth k (r.more_links {s = s} {u = u} {v = v} {w = w} {l = l} {p = x} {ps = xs} h breaks pipe more) =
        map_given depth s w (more_links_made l x xs depth)
        (led_given depth s u w (leads_breaks depth breaks k)
        (λ n. both_given depth u v w (pipeline_given depth n (breaks_settled (settled_next b _ s) breaks) pipe) (λ m. links_given depth m more)))

    and_or_given : {s u : State} {l : AndOr} (depth : ℕ) → Level depth s.spot → IsSettled b s.spot → ReadsAndOr limit b body s u l → Gives depth s u (Pipelines depth l)
    and_or_given depth k here (r.linked {s = s} {u = u} {v = v} {p = x} {ps = xs} pipe links) =
        map_given depth s v
        (λ m e. subst (λ l. Both (λ m. PrintablePipeline limit depth m (pipeline_of b l.first)) (λ m. PrintableLinks limit depth m (links_from b l.rest)) m) (sym (out-roll-AndOr (record { first = x; rest = xs }))) e)
        (both_given depth s u v (pipeline_given depth k here pipe) (λ m. links_given depth m links))

    items_given : {s u : State} {is : List Item} (depth : ℕ) → Level depth s.spot → IsSettled b s.spot → ReadsItems limit b body s u is → Gives depth s u (λ m. PrintableList limit depth m (items_from b is))
    items_given depth k here (r.last_item {s = s} {u = u} {l = l} list h e) = map_given depth s u (last_made l depth false) (and_or_given depth k here list)
    items_given depth k here (r.ended_item {s = s} {u = u} {v = v} {l = l} {g = g} list h breaks e) =
        map_given depth s v (last_made l depth g) (given_led depth s u v (and_or_given depth k here list) (λ m. leads_parted depth u breaks m))
    items_given depth k here (r.more_items {s = s} {u = u} {v = v} {w = w} {l = l} {g = g} {is = is} list h breaks e more) =
        map_given depth s w (more_made l is depth g)
        (both_given depth s v w (given_led depth s u v (and_or_given depth k here list) (λ m. leads_parted depth u breaks m))
        (λ m. items_given depth m (breaks_settled (settled_parted b u (and_or_settled here list)) breaks) more))

    list_given : {s u : State} {t : Script} (depth : ℕ) → Level depth s.spot → IsSettled b s.spot → ReadsList limit b body s u t → Gives depth s u (λ m. PrintableList limit depth m (script_of b t))
    list_given depth k here (r.list {s = s} {u = u} {v = v} {is = is} breaks h items) =
        map_given depth s v (λ m e. subst (PrintableList limit depth m) (sym (script_made b is)) e)
        (led_given depth s u v (leads_breaks depth breaks k) (λ m. items_given depth m (breaks_settled here breaks) items))

    sequence_given : {s u : State} {t : Script} (depth : ℕ) → Level depth s.spot → IsSettled b s.spot → ReadsSequence limit b body s u t → Gives depth s u (λ m. PrintableSequence limit depth m (script_of b t))
    sequence_given depth k here (r.nothing {s = s} {u = u} breaks h) = breaks_alone depth s u (nothing_made depth) (leads_breaks depth breaks k)
    sequence_given depth k here (r.sequence {s = s} {u = u} items) = map_given depth s u (λ m e. p.sequence e) (list_given depth k here items)

-- a script that is read at depth 0, before which no command has begun
script_given : {limit count : ℕ} {b : List ℕ} {s e : Spot} {t : Script} → HasNoNul b → WordsAreCopied → Level 0 s → IsSettled b s → s.count ≡ 0 → e.count ≡ count → ReadsScript limit b s e t
    → Printable limit count (script_of b t)
script_given {limit = limit} {count = count} {b = b} {t = t} no_nul copies k here first last (r.script {u = u} items none) =
    let m = sequence_given limit b no_nul copies (nth u.bodies) 0 k here items in
    let e = m.1 (0, λ i h. refl, source.none_wait limit b no_nul copies (nth u.bodies) (length u.bodies) u.pending none) in
    let held : e.0.0 ≡ 0 = e.0.2 in
    subst (λ n. Printable limit n (script_of b t)) (let all = e.2 in omega arith) e.3

pub printable : (b : List ℕ) (limit count : ℕ) (t : Script) → WordsAreCopied → ReadsTo b limit count t → Printable limit count (script_of b t)
printable b limit count t copies reads = script_given reads.no_nul copies (refl, refl, refl, refl) (blanks_gap false b 0) refl reads.commands reads.script
