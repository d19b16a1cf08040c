-- Elements of simple commands, by what each begins with.
use Rattle.std.proofs.Common.{◌≡◌, ℕ, ◌+◌, ◌<◌, ◌⊎◌, inl, inr, true, false, List, [], ◌∷◌, ◌++◌, refl, sym, ap, subst, ◌∙◌}
use Rattle.std.proofs.lemmas.Bool.{true≢false}
use Rattle.sh_tree.specs.declared.token.command.Stage.{Stage}
use Rattle.sh_tree.specs.declared.token.command.Stage.TheVariants.{First, Prefixed}
use Rattle.sh_tree.specs.declared.token.command.Lead.{Lead}
use Rattle.sh_tree.specs.declared.token.command.Lead.TheVariants as lead
use Rattle.sh_tree.specs.declared.tree.Word.{Word}
use Rattle.sh_tree.specs.declared.tree.Redirect.{Redirect}
use Rattle.sh_tree.specs.declared.tree.Element.{Element}
use Rattle.sh_tree.specs.declared.tree.Element.TheVariants as element
use Rattle.sh_tree.specs.declared.refusal.Refusal.{Refusal}
use Rattle.sh_tree.specs.standard.language.Commands.{lead_at, begins_simple, is_redirection, name_end}
use Rattle.sh_tree.specs.standard.language.Contexts.{in_value, in_stage}
use Rattle.sh_tree.specs.standard.language.Reading as r
use Rattle.sh_tree.specs.standard.language.Reading.{ReadsWord, ReadsElements, ReadsRedirect, lead_of, stage_behind, redirected}
use Rattle.sh_tree.specs.standard.language.States as states
use Rattle.sh_tree.specs.standard.language.States.{Spot, Document, to, facing, past, waits}
use Rattle.sh_tree.specs.standard.language.Trees.{span}
use Rattle.sh_tree.proofs.Inversions.{apart, no_redirection}
use Rattle.sh_tree.proofs.Counts.{elements_count}
use Rattle.sh_reads.proofs.BeginningLemmas.{word_goes}
use Rattle.sh_reads.proofs.GapLemmas.{settled_gap}
use Rattle.sh_grammar.specs.declared.state.State.{State}
use Rattle.sh_grammar.specs.States.{here, Stands}
use Rattle.sh_grammar.specs.Modes.{Begins}
use Rattle.sh_grammar.specs.Readers.{One, Refused, Steps, WordAt, RedirectFrom, ElementsFrom, unread}
use Rattle.sh_grammar.proofs.ReaderLemmas.{refused_by, Behind, nothing_yet, one_more, all_found, refused_behind}

-- What elements begin with

-- what begins an element and is no word and no assignment
pub rest_redirects : (l : Lead) → begins_simple l ≡ true → (l ≡ lead.Word → ⊥) → (l ≡ lead.Assignment → ⊥) → is_redirection l ≡ true
unfolding begins_simple is_redirection
rest_redirects lead.Word h w a = absurd (w refl)
rest_redirects lead.Assignment h w a = absurd (a refl)
rest_redirects _ h w a = h

no_elements : {limit : ℕ} {b : List ℕ} {body : ℕ → Document} {g : Stage} {s v : states.State} {es : List Element} → begins_simple (lead_of b g s) ≡ false
    → ReadsElements limit b body g s v es → (v ≡ s) × (es ≡ [])
unfolding begins_simple
no_elements none (r.no_element h) = (refl, refl)
no_elements none (r.assigned_element h w e) = absurd (apart begins_simple (sym h) refl none)
no_elements none (r.word_element h w e) = absurd (apart begins_simple (sym h) refl none)
no_elements {b = b} {g = g} {s = s} none (r.redirect_element h q e) = absurd (true≢false (sym h ∙ no_redirection (lead_of b g s) none))

-- a word, and the elements after it
abbrev FirstWord : ℕ → List ℕ → (ℕ → Document) → Stage → states.State → states.State → List Element → Type 0
FirstWord limit b body g s v es =
    (u : Spot) × (w : Word) × (fs : List Element) × (es ≡ element.Word w ∷ fs) × ReadsWord limit b (in_stage b g s.spot.at) (facing s) u w
    × ReadsElements limit b body (stage_behind b g s.spot.at) (past b u s) v fs

first_word : {limit : ℕ} {b : List ℕ} {body : ℕ → Document} {g : Stage} {s v : states.State} {es : List Element} → lead_of b g s ≡ lead.Word
    → ReadsElements limit b body g s v es → FirstWord limit b body g s v es
unfolding begins_simple is_redirection
first_word is (r.no_element h) = absurd (apart begins_simple (sym is) refl h)
first_word is (r.assigned_element h w e) = cc
first_word is (r.word_element {u = u} {w = w} {es = fs} h read e) = (u, w, fs, refl, read, e)
first_word is (r.redirect_element h q e) = absurd (apart is_redirection is h refl)

-- an assignment, and the elements after it
abbrev FirstAssignment : ℕ → List ℕ → (ℕ → Document) → states.State → states.State → List Element → Type 0
FirstAssignment limit b body s v es =
    (u : Spot) × (w : Word) × (fs : List Element) × (es ≡ element.Assignment (span s.spot.at (name_end b s.spot.at)) w ∷ fs)
    × ReadsWord limit b (in_value (name_end b s.spot.at + 1)) (to (name_end b s.spot.at + 1) (facing s)) u w × ReadsElements limit b body Prefixed (past b u s) v fs

first_assignment : {limit : ℕ} {b : List ℕ} {body : ℕ → Document} {g : Stage} {s v : states.State} {es : List Element} → lead_of b g s ≡ lead.Assignment
    → ReadsElements limit b body g s v es → FirstAssignment limit b body s v es
unfolding begins_simple is_redirection
first_assignment is (r.no_element h) = absurd (apart begins_simple (sym is) refl h)
first_assignment is (r.assigned_element {u = u} {w = w} {es = fs} h read e) = (u, w, fs, refl, read, e)
first_assignment is (r.word_element h read e) = cc
first_assignment is (r.redirect_element h q e) = absurd (apart is_redirection is h refl)

-- a redirection, and the elements after it
abbrev FirstRedirect : ℕ → List ℕ → (ℕ → Document) → Stage → states.State → states.State → List Element → Type 0
FirstRedirect limit b body g s v es =
    (u : states.State) × (q : Redirect) × (fs : List Element) × (es ≡ element.Redirection q ∷ fs) × ReadsRedirect limit b body s u q
    × ReadsElements limit b body (redirected g) u v fs

first_redirect : {limit : ℕ} {b : List ℕ} {body : ℕ → Document} {g : Stage} {s v : states.State} {es : List Element} → is_redirection (lead_of b g s) ≡ true
    → ReadsElements limit b body g s v es → FirstRedirect limit b body g s v es
unfolding is_redirection
first_redirect {b = b} {g = g} {s = s} is (r.no_element h) = absurd (true≢false (sym is ∙ no_redirection (lead_of b g s) h))
first_redirect is (r.assigned_element h w e) = absurd (apart is_redirection h is refl)
first_redirect is (r.word_element h w e) = absurd (apart is_redirection h is refl)
first_redirect is (r.redirect_element {u = u} {r = q} {es = fs} h read e) = (u, q, fs, refl, read, e)

-- The first element

module _ (b : List ℕ) (g : Stage) (s : State) where
  module _ (is : lead.Word ≡ lead_at b g s.at) where
    pub element_word : (w : Word) (v : State) (j : Stage) → j ≡ stage_behind b g s.at → One (WordAt b (in_stage b g s.at) s.at s) (here v) w
        → Steps (ElementsFrom b) (g, s) (element.Word w) (j, v)
    unfolding waits
    element_word w v j stage one = subst (λ t. Steps (ElementsFrom b) (g, s) (element.Word w) (t, v)) (sym stage) (record {
      forth = λ limit k es l.
          let f = first_word {s = here s} (sym is) l in
          let o = one.only limit (past b f.0 (here s)) f.1 (f.0, f.4, refl) in
          (f.2, f.3 ∙ ap (λ x. element.Word x ∷ f.2) o.1, subst (λ u. ReadsElements limit b unread (stage_behind b g s.at) u k f.2) o.0 f.5);
      back = λ k es l.
          let t = one.reads in
          r.word_element {s = here s} {u = t.0} (sym is) t.1 (subst (λ u. ReadsElements 64 b unread (stage_behind b g s.at) u k es) t.2 l);
    })

    pub element_word_none : (e : Refusal) → Refused b (WordAt b (in_stage b g s.at) s.at s) e → Refused b (ElementsFrom b (g, s)) e
    unfolding waits
    element_word_none e none = refused_by b (WordAt b (in_stage b g s.at) s.at s) (ElementsFrom b (g, s)) e
        (λ limit k es l. let f = first_word {s = here s} (sym is) l in (past b f.0 (here s), f.1, (f.0, f.4, refl), elements_count f.5)) none

  module _ (is : lead.Assignment ≡ lead_at b g s.at) (e : ℕ) (name : e ≡ name_end b s.at) where
    pub element_assignment : (w : Word) (v : State) → One (WordAt b (in_value (e + 1)) (e + 1) s) (here v) w
        → Steps (ElementsFrom b) (g, s) (element.Assignment (span s.at e) w) (Prefixed, v)
    unfolding waits
    element_assignment w v read =
        let one = subst (λ i. One (WordAt b (in_value (i + 1)) (i + 1) s) (here v) w) name read in
        subst (λ i. Steps (ElementsFrom b) (g, s) (element.Assignment (span s.at i) w) (Prefixed, v)) (sym name) (record {
          forth = λ limit k es l.
              let f = first_assignment {s = here s} (sym is) l in
              let o = one.only limit (past b f.0 (here s)) f.1 (f.0, f.4, refl) in (
                f.2,
                f.3 ∙ ap (λ x. element.Assignment (span s.at (name_end b s.at)) x ∷ f.2) o.1,
                subst (λ u. ReadsElements limit b unread Prefixed u k f.2) o.0 f.5,
              );
          back = λ k es l.
              let t = one.reads in
              r.assigned_element {s = here s} {u = t.0} (sym is) t.1 (subst (λ u. ReadsElements 64 b unread Prefixed u k es) t.2 l);
        })

    pub element_assignment_none : (f : Refusal) → Refused b (WordAt b (in_value (e + 1)) (e + 1) s) f → Refused b (ElementsFrom b (g, s)) f
    unfolding waits
    element_assignment_none f none = refused_by b (WordAt b (in_value (name_end b s.at + 1)) (name_end b s.at + 1) s) (ElementsFrom b (g, s)) f
        (λ limit k es l. let t = first_assignment {s = here s} (sym is) l in (past b t.0 (here s), t.1, (t.0, t.4, refl), elements_count t.5))
        (subst (λ i. Refused b (WordAt b (in_value (i + 1)) (i + 1) s) f) name none)

  module _ (is : is_redirection (lead_at b g s.at) ≡ true) where
    pub element_redirect : (q : Redirect) (v : State) (j : Stage) → j ≡ redirected g → One (RedirectFrom b s) (here v) q
        → Steps (ElementsFrom b) (g, s) (element.Redirection q) (j, v)
    element_redirect q v j stage one = subst (λ t. Steps (ElementsFrom b) (g, s) (element.Redirection q) (t, v)) (sym stage) (record {
      forth = λ limit k es l.
          let f = first_redirect {s = here s} is l in
          let o = one.only limit f.0 f.1 f.4 in
          (f.2, f.3 ∙ ap (λ x. element.Redirection x ∷ f.2) o.1, subst (λ u. ReadsElements limit b unread (redirected g) u k f.2) o.0 f.5);
      back = λ k es l. r.redirect_element {s = here s} is one.reads l;
    })

    pub element_redirect_none : (e : Refusal) → Refused b (RedirectFrom b s) e → Refused b (ElementsFrom b (g, s)) e
    element_redirect_none e none = refused_by b (RedirectFrom b s) (ElementsFrom b (g, s)) e
        (λ limit k es l. let f = first_redirect {s = here s} is l in (f.0, f.1, f.4, elements_count f.5)) none

-- where a word begins, its context does not end
pub begins_word : (b : List ℕ) (g : Stage) (s : State) → lead.Word ≡ lead_at b g s.at → Stands b s → Begins b (in_stage b g s.at) s.at s
begins_word b g s is stands = word_goes b g s.at (sym is) (settled_gap s.joins b s.at stands.settled)

-- The loop of the reader

-- the elements from the state s on are those that were found, and then those at `next`
pub record Found (b : List ℕ) (s : State) (found : List Element) (g : Stage) (next : State) : Type 0 where
  pub behind : Behind (ElementsFrom b) (First, s) found (g, next)

pub found_none : (b : List ℕ) (s : State) → Found b s [] First s
found_none b s = record { behind = nothing_yet (ElementsFrom b) (First, s) }

-- nothing was read yet, or bytes were
pub record Moved (s : State) (g : Stage) (next : State) : Type 0 where
  pub so : ((g ≡ First) × (next ≡ s)) ⊎ (s.at < next.at)

pub not_moved : (s : State) → Moved s First s
not_moved s = record { so = inl (refl, refl) }

pub moved_on : (s : State) (g : Stage) (next : State) → s.at < next.at → Moved s g next
moved_on s g next below = record { so = inr below }

module _ (b : List ℕ) (s next : State) (g : Stage) (found : List Element) (h : Found b s found g next) where
  pub elements_end : begins_simple (lead_at b g next.at) ≡ false → One (ElementsFrom b (First, s)) (here next) found
  elements_end none = all_found (ElementsFrom b) (First, s) (g, next) found (here next) h.behind
      (record { reads = r.no_element {s = here next} none; only = λ limit k es l. no_elements {s = here next} none l })

  pub elements_more : (x : Element) (j : Stage) (v : State) → Steps (ElementsFrom b) (g, next) x (j, v) → Found b s (found ++ x ∷ []) j v
  elements_more x j v steps = record { behind = one_more (ElementsFrom b) (First, s) (g, next) (j, v) found x h.behind steps }

  pub elements_refused : (e : Refusal) → Refused b (ElementsFrom b (g, next)) e → Refused b (ElementsFrom b (First, s)) e
  elements_refused e = refused_behind (ElementsFrom b) b (First, s) (g, next) found e h.behind
