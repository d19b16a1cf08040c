-- A text that begins with a simple command and ends after it is read as that command alone.
use Rattle.std.proofs.Common.{◌≡◌, ℕ, ◌+◌, Bool, true, false, List, [], ◌∷◌, Some, None, refl, sym, ap, ◌∙◌, subst}
use Rattle.std.proofs.lemmas.Bool.{true≢false}
use Rattle.sh_tree.specs.declared.tree.AndOr.{AndOr}
use Rattle.sh_tree.specs.declared.tree.Command.{Command}
use Rattle.sh_tree.specs.declared.tree.Element.{Element}
use Rattle.sh_tree.specs.declared.tree.Element.TheVariants as element
use Rattle.sh_tree.specs.declared.tree.Item.{Item}
use Rattle.sh_tree.specs.declared.tree.Kind.TheVariants as kind
use Rattle.sh_tree.specs.declared.tree.Link.{Link}
use Rattle.sh_tree.specs.declared.tree.Pipe.{Pipe}
use Rattle.sh_tree.specs.declared.tree.Script.{Script}
use Rattle.sh_tree.specs.declared.tree.Word.{Word}
use Rattle.sh_tree.specs.declared.token.command.Lead.TheVariants as lead
use Rattle.sh_tree.specs.declared.token.command.Stage.{Stage}
use Rattle.sh_tree.specs.declared.token.command.Stage.TheVariants.{First}
use Rattle.sh_tree.specs.standard.language.Commands.{is_bar, is_newline_lead, is_redirection, is_word, begins_simple, begins_compound, begins_command, begins_pipeline, separator, link_of}
use Rattle.sh_tree.specs.standard.language.Contexts.{in_stage}
use Rattle.sh_tree.specs.standard.language.Reading as r
use Rattle.sh_tree.specs.standard.language.Reading.{lead_of, lead_here, stage_behind, ReadsWord, ReadsElements, ReadsCommand, ReadsCommands, ReadsPipeline, ReadsLinks, ReadsAndOr, ReadsItems, ReadsSequence, ReadsScript}
use Rattle.sh_tree.specs.standard.language.States.{Spot, State, Document, nth, within, begun, past, facing, closing}
use Rattle.sh_tree.specs.standard.language.Trees.{command, pipe, and_or, item, item_of, script}
use Rattle.sh_tree.proofs.Inversions.{apart, no_breaks, script_is, compound_begins, redirection_is_simple}

module _ (limit : ℕ) (b : List ℕ) (body : ℕ → Document) where
  -- the first of the elements is a word
  abbrev pub WordFirst : Stage → State → State → List Element → Type 0
  WordFirst g s v es =
      (u : Spot) × (w : Word) × (fs : List Element) × (es ≡ element.Word w ∷ fs) × ReadsWord limit b (in_stage b g s.spot.at) (facing s) u w
      × ReadsElements limit b body (stage_behind b g s.spot.at) (past b u s) v fs

  -- a simple command from s to v
  abbrev pub IsSimple : State → State → Command → Type 0
  IsSimple s v c =
      (u : State) × (es : List Element) × (v ≡ closing false u) × (c ≡ command (s.spot.count + 1) s.spot.at (kind.Simple es) [])
      × ReadsElements limit b body First (begun s) u es

  -- neither a bar, a link nor a separator follows
  abbrev pub IsLast : State → Type 0
  IsLast u = (is_bar (lead_here b u) ≡ false) × (link_of (lead_here b u) ≡ None) × (separator (lead_here b u) ≡ None)

  -- what begins with a command is x of it if that is the last
  abbrev pub Alone : {A : Type 0} → State → State → A → (Command → A) → Type 0
  Alone s v x whole = (u : State) × (c : Command) × ReadsCommand limit b body s u c × (IsLast u → (v ≡ u) × (x ≡ whole c))

unparted : {A : Type 0} (b : List ℕ) {s u : State} {g : Bool} → u ≡ s → separator (lead_here b u) ≡ Some g → separator (lead_here b s) ≡ None → A
unparted b {g = g} e some none = let parts : Some g ≡ None = sym some ∙ ap (λ w. separator (lead_here b w)) e ∙ none in cc

module _ {limit : ℕ} {b : List ℕ} {body : ℕ → Document} where
  pub elements_none : {g : Stage} {s v : State} {es : List Element} → begins_simple (lead_of b g s) ≡ false → ReadsElements limit b body g s v es → (v ≡ s) × (es ≡ [])
  unfolding begins_simple
  elements_none none (r.no_element h) = (refl, refl)
  elements_none none (r.assigned_element h w e) = absurd (apart begins_simple (sym h) refl none)
  elements_none none (r.word_element h w e) = absurd (apart begins_simple (sym h) refl none)
  elements_none {g = g} {s = s} none (r.redirect_element h q e) = absurd (true≢false (sym (redirection_is_simple (lead_of b g s) h) ∙ none))

  pub word_first : {g : Stage} {s v : State} {es : List Element} → lead_of b g s ≡ lead.Word → ReadsElements limit b body g s v es → WordFirst limit b body g s v es
  unfolding begins_simple is_redirection
  word_first is (r.no_element h) = absurd (apart begins_simple (sym is) refl h)
  word_first is (r.assigned_element h w e) = absurd (apart is_word (sym is ∙ h) refl refl)
  word_first is (r.word_element {u = u} {w = w} {es = fs} h read e) = (u, w, fs, refl, read, e)
  word_first is (r.redirect_element h q e) = absurd (apart is_redirection is h refl)

  pub simple_is : {s v : State} {c : Command} → lead_here b s ≡ lead.Word → ReadsCommand limit b body s v c → IsSimple limit b body s v c
  unfolding begins_simple begins_compound is_redirection
  simple_is is (r.simple_command {u = u} {es = es} h e) = (u, es, refl, refl, e)
  simple_is is (r.compound_command h c q) = absurd (apart begins_compound (sym h ∙ is) (compound_begins c) refl)
  simple_is is (r.definition h o p k i c) = absurd (apart is_word (sym is ∙ h) refl refl)

  commands_alone : {s v : State} {cs : List Command} → ReadsCommands limit b body s v cs → Alone limit b body s v cs (λ c. c ∷ [])
  commands_alone (r.last_command {u = u} {c = c} h bar) = (u, c, h, λ last. (refl, refl))
  commands_alone (r.more_commands {u = u} {c = c} h bar k cs) = (u, c, h, λ last. absurd (true≢false (sym bar ∙ last.0)))

  pipeline_alone : {s v : State} {p : Pipe} → begins_command (lead_here b s) ≡ true → ReadsPipeline limit b body s v p → Alone limit b body s v p (λ c. pipe false (c ∷ []))
  unfolding begins_command begins_simple begins_compound is_redirection
  pipeline_alone some (r.negated h cs) = absurd (apart begins_command h some refl)
  pipeline_alone some (r.straight h cs) = let a = commands_alone cs in (a.0, a.1, a.2, λ last. let e = a.3 last in (e.0, ap (pipe false) e.1))

  unlinked : {s v : State} {ps : List (Link × Pipe)} → link_of (lead_here b s) ≡ None → ReadsLinks limit b body s v ps → (v ≡ s) × (ps ≡ [])
  unlinked none (r.no_link h) = (refl, refl)
  unlinked none (r.more_links h k p l) = cc

  and_or_alone : {s v : State} {l : AndOr} → begins_command (lead_here b s) ≡ true → ReadsAndOr limit b body s v l
      → Alone limit b body s v l (λ c. and_or (pipe false (c ∷ [])) [])
  and_or_alone some (r.linked {u = u} {v = v} {p = p} {ps = ps} h k) =
      let a = pipeline_alone some h in (
        a.0,
        a.1,
        a.2,
        λ last.
            let e = a.3 last in
            let none = unlinked (subst (λ w. link_of (lead_here b w) ≡ None) (sym e.0) last.1) k in
            (none.0 ∙ e.0, ap (λ q. and_or q ps) e.1 ∙ ap (and_or (pipe false (a.1 ∷ []))) none.1),
      )

  items_alone : {s v : State} {is : List Item} → begins_command (lead_here b s) ≡ true → ReadsItems limit b body s v is → Alone limit b body s v is (λ c. item_of c ∷ [])
  items_alone some (r.last_item h n c) = let a = and_or_alone some h in (a.0, a.1, a.2, λ last. let e = a.3 last in (e.0, ap (λ l. item l false ∷ []) e.1))
  items_alone some (r.ended_item h n k c) = let a = and_or_alone some h in (a.0, a.1, a.2, λ last. unparted b (a.3 last).0 n last.2)
  items_alone some (r.more_items h n k c i) = let a = and_or_alone some h in (a.0, a.1, a.2, λ last. unparted b (a.3 last).0 n last.2)

  sequence_alone : {s v : State} {t : Script} → is_newline_lead (lead_here b s) ≡ false → begins_pipeline (lead_here b s) ≡ true → begins_command (lead_here b s) ≡ true
      → ReadsSequence limit b body s v t → Alone limit b body s v t (λ c. script (item_of c ∷ []))
  sequence_alone on goes some (r.nothing k h) = absurd (true≢false (sym goes ∙ sym (ap (λ v. begins_pipeline (lead_here b v)) (no_breaks on k)) ∙ h))
  sequence_alone {v = v} on goes some (r.sequence (r.list {is = is} k h i)) =
      let a = items_alone some (subst (λ u. ReadsItems limit b body u v is) (no_breaks on k) i) in
      (a.0, a.1, a.2, λ last. let e = a.3 last in (e.0, ap script e.1))

module _ (limit : ℕ) (b : List ℕ) (s : Spot) where
  -- the elements of the simple command at s, and the script if nothing follows them
  abbrev pub IsLone : Script → Type 0
  IsLone t =
      (body : ℕ → Document) × (u : State) × (es : List Element) × ReadsElements limit b body First (begun (within s)) u es
      × (IsLast limit b body (closing false u) → t ≡ script (item_of (command (s.count + 1) s.at (kind.Simple es) []) ∷ []))

-- a script that begins with a word
pub lone_script : {limit : ℕ} {b : List ℕ} {s v : Spot} {t : Script} → lead_here b (within s) ≡ lead.Word → ReadsScript limit b s v t → IsLone limit b s t
unfolding begins_pipeline begins_command begins_simple
lone_script {limit = limit} {b = b} {s = s} is h =
    let q = script_is h in
    let body : ℕ → Document = nth q.0.bodies in
    let a = sequence_alone (ap is_newline_lead is) (ap begins_pipeline is) (ap begins_command is) q.3 in
    let c = simple_is is a.2 in
    (body, c.0, c.1, c.4, λ last. (a.3 (subst (IsLast limit b body) (sym c.2) last)).1 ∙ ap (λ k. script (item_of k ∷ [])) c.3)
