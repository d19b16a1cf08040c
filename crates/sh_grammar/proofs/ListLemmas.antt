-- Pipelines and lists.
use Rattle.std.proofs.Common.{◌≡◌, ℕ, ◌+◌, ◌≤◌, ◌⊎◌, inl, inr, Bool, true, false, not, ◌||◌, List, [], ◌∷◌, ◌++◌, Some, None, cond, refl, sym, ap, subst, ◌∙◌, le_trans, arith}
use Rattle.std.proofs.lemmas.Bool.{true≢false}
use Rattle.sh_tree.specs.declared.token.command.Stage.TheVariants.{First}
use Rattle.sh_tree.specs.declared.token.command.Lead.{Lead}
use Rattle.sh_tree.specs.declared.token.command.Lead.TheVariants as lead
use Rattle.sh_tree.specs.declared.token.command.Reserved.TheVariants as word
use Rattle.sh_tree.specs.declared.tree.Command.{Command}
use Rattle.sh_tree.specs.declared.tree.Pipe.{Pipe}
use Rattle.sh_tree.specs.declared.tree.Link.{Link}
use Rattle.sh_tree.specs.declared.tree.AndOr.{AndOr}
use Rattle.sh_tree.specs.declared.tree.Item.{Item}
use Rattle.sh_tree.specs.declared.tree.Script.{Script}
use Rattle.sh_tree.specs.declared.refusal.Refusal.{Refusal}
use Rattle.sh_tree.specs.standard.language.Commands.{lead_at, begins_simple, begins_compound, is_redirection, begins_command, begins_pipeline, separator, link_of, is_bar, is_reserved}
use Rattle.sh_tree.specs.standard.language.Reading as r
use Rattle.sh_tree.specs.standard.language.Reading.{ReadsBreaks, ReadsCommand, ReadsCommands, ReadsPipeline, ReadsLinks, ReadsAndOr, ReadsItems, ReadsSequence, lead_here, skip, parted}
use Rattle.sh_tree.specs.standard.language.States as states
use Rattle.sh_tree.specs.standard.language.States.{Document}
use Rattle.sh_tree.specs.standard.language.Trees.{script, item, and_or, pipe}
use Rattle.sh_tree.proofs.Counts.{commands_count, breaks_count, links_count, items_count, pipeline_count}
use Rattle.sh_grammar.specs.declared.state.State.{State}
use Rattle.sh_grammar.specs.States.{here, moved}
use Rattle.sh_grammar.specs.Breaks.{BreaksTo, BreaksFrom}
use Rattle.sh_grammar.specs.Items.{ReadsRest, ReadsTail, RestFrom}
use Rattle.sh_grammar.specs.Readers.{One, Nothing, Refused, CommandFrom, CommandsFrom, PipelineFrom, LinksFrom, AndOrFrom, SequenceFrom, unread}
use Rattle.sh_grammar.proofs.CommandLemmas.{command_begins}
use Rattle.sh_grammar.proofs.ReaderLemmas.{refused_by, Behind, nothing_yet, one_more, found_with, all_found, refused_behind}

-- Commands between bars

-- after a bar come more commands
abbrev MoreCommands : ℕ → List ℕ → (ℕ → Document) → states.State → states.State → List Command → Type 0
MoreCommands limit b body u v ds = (is_bar (lead_here b u) ≡ true) × (w : states.State) × ReadsBreaks limit b (skip b 1 u) w × ReadsCommands limit b body w v ds

commands_are : {limit : ℕ} {b : List ℕ} {body : ℕ → Document} {s v : states.State} {cs : List Command} → ReadsCommands limit b body s v cs
    → (u : states.State) × (c : Command) × (ds : List Command) × (cs ≡ c ∷ ds) × ReadsCommand limit b body s u c × (u.spot.count ≤ v.spot.count)
    × (((is_bar (lead_here b u) ≡ false) × (v ≡ u) × (ds ≡ [])) ⊎ MoreCommands limit b body u v ds)
commands_are (r.last_command {u = u} {c = c} h bar) = (u, c, [], refl, h, omega arith, inl (bar, refl, refl))
commands_are (r.more_commands {u = u} {v = v} {c = c} {cs = ds} h bar k l) =
    let before = breaks_count k in
    let after = commands_count l in
    (u, c, ds, refl, h, omega arith, inr (bar, v, k, l))

pub record CommandsFound (b : List ℕ) (s : State) (found : List Command) (v : State) : Type 0 where
  pub behind : Behind (CommandsFrom b) s found v

pub commands_none : (b : List ℕ) (s : State) → CommandsFound b s [] s
commands_none b s = record { behind = nothing_yet (CommandsFrom b) s }

module _ (b : List ℕ) (s next : State) (found : List Command) (h : CommandsFound b s found next) where
  pub commands_refused : (e : Refusal) → Refused b (CommandFrom b next) e → Refused b (CommandsFrom b s) e
  commands_refused e none =
      refused_behind (CommandsFrom b) b s next found e h.behind
      (refused_by b (CommandFrom b next) (CommandsFrom b next) e (λ limit k cs l. let f = commands_are l in (f.0, f.1, f.4, f.5)) none)

  module _ (c : Command) (u : State) (one : One (CommandFrom b next) (here u) c) where
    pub commands_last : is_bar (lead_at b First u.at) ≡ false → One (CommandsFrom b s) (here u) (found ++ c ∷ [])
    commands_last bar = found_with (CommandsFrom b) s next found (c ∷ []) (here u) h.behind (record {
      reads = r.last_command {u = here u} one.reads bar;
      only = λ limit k cs l.
          let f = commands_are l in
          let o = one.only limit f.0 f.1 f.4 in
          elim f.6 [
            | inl e ↦ (e.1 ∙ o.0, f.3 ∙ ap (λ d. d ∷ f.2) o.1 ∙ ap (λ ds. c ∷ ds) e.2)
            | inr m ↦ absurd (true≢false (sym m.0 ∙ ap (λ w. is_bar (lead_here b w)) o.0 ∙ bar))
          ];
    })

    pub commands_stopped : (e : Refusal) → is_bar (lead_at b First u.at) ≡ true → Refused b (BreaksFrom b (moved b (u.at + 1) u)) e → Refused b (CommandsFrom b s) e
    commands_stopped e bar none =
        refused_behind (CommandsFrom b) b s next found e h.behind
        (refused_by b (BreaksFrom b (moved b (u.at + 1) u)) (CommandsFrom b next) e (λ limit k cs l.
        let f = commands_are l in
        let o = one.only limit f.0 f.1 f.4 in
        elim f.6 [
          | inl e ↦ absurd (true≢false (sym bar ∙ sym (ap (λ w. is_bar (lead_here b w)) o.0) ∙ e.0))
          | inr m ↦ (m.1, tt, subst (λ x. ReadsBreaks limit b (skip b 1 x) m.1) o.0 m.2, commands_count m.3)
        ]) none)

    pub commands_more : is_bar (lead_at b First u.at) ≡ true → (w : State) → BreaksTo b (moved b (u.at + 1) u) w → CommandsFound b s (found ++ c ∷ []) w
    commands_more bar w breaks = record {
      behind = one_more (CommandsFrom b) s next w found c h.behind (record {
        forth = λ limit k cs l.
            let f = commands_are l in
            let o = one.only limit f.0 f.1 f.4 in
            elim f.6 [
              | inl e ↦ absurd (true≢false (sym bar ∙ sym (ap (λ w. is_bar (lead_here b w)) o.0) ∙ e.0))
              | inr m ↦
                  let same : m.1 ≡ here w = breaks.forth limit m.1 (subst (λ x. ReadsBreaks limit b (skip b 1 x) m.1) o.0 m.2) in
                  (f.2, f.3 ∙ ap (λ d. d ∷ f.2) o.1, subst (λ x. ReadsCommands limit b unread x k f.2) same m.3)
            ];
        back = λ k cs l. r.more_commands {u = here u} one.reads bar (breaks.back) l;
      });
    }

commands_begin : {limit : ℕ} {b : List ℕ} {body : ℕ → Document} {s v : states.State} {cs : List Command} → ReadsCommands limit b body s v cs → begins_command (lead_here b s) ≡ true
commands_begin l = let f = commands_are l in command_begins f.4

-- Pipelines

negated_of : {limit : ℕ} {b : List ℕ} {body : ℕ → Document} {s v : states.State} {p : Pipe} → lead_here b s ≡ lead.Reserved word.Bang → ReadsPipeline limit b body s v p
    → (cs : List Command) × (p ≡ pipe true cs) × ReadsCommands limit b body (skip b 1 s) v cs
unfolding begins_command begins_simple is_redirection begins_compound
negated_of bang (r.negated {cs = cs} h l) = (cs, refl, l)
negated_of bang (r.straight h l) = absurd (true≢false (sym h ∙ ap begins_command bang))

straight_of : {limit : ℕ} {b : List ℕ} {body : ℕ → Document} {s v : states.State} {p : Pipe} → (lead_here b s ≡ lead.Reserved word.Bang → ⊥) → ReadsPipeline limit b body s v p
    → (cs : List Command) × (p ≡ pipe false cs) × ReadsCommands limit b body s v cs
straight_of straight (r.negated h l) = absurd (straight h)
straight_of straight (r.straight {cs = cs} h l) = (cs, refl, l)

module _ (b : List ℕ) (s : State) where
  module _ (bang : lead_at b First s.at ≡ lead.Reserved word.Bang) where
    pub negated_refused : (e : Refusal) → Refused b (CommandsFrom b (moved b (s.at + 1) s)) e → Refused b (PipelineFrom b s) e
    negated_refused e none = refused_by b (CommandsFrom b (moved b (s.at + 1) s)) (PipelineFrom b s) e
        (λ limit v p l. let f = negated_of {s = here s} bang l in (v, f.0, f.2, omega arith)) none

    pub negated_read : (cs : List Command) (v : State) → One (CommandsFrom b (moved b (s.at + 1) s)) (here v) cs → One (PipelineFrom b s) (here v) (pipe true cs)
    negated_read cs v one = record {
      reads = r.negated {s = here s} bang one.reads;
      only = λ limit k p l. let f = negated_of {s = here s} bang l in let o = one.only limit k f.0 f.2 in (o.0, f.1 ∙ ap (λ ds. pipe true ds) o.1);
    }

  module _ (straight : lead_at b First s.at ≡ lead.Reserved word.Bang → ⊥) where
    pub straight_refused : (e : Refusal) → Refused b (CommandsFrom b s) e → Refused b (PipelineFrom b s) e
    straight_refused e none = refused_by b (CommandsFrom b s) (PipelineFrom b s) e
        (λ limit v p l. let f = straight_of {s = here s} straight l in (v, f.0, f.2, omega arith)) none

    pub straight_read : (cs : List Command) (v : State) → One (CommandsFrom b s) (here v) cs → One (PipelineFrom b s) (here v) (pipe false cs)
    straight_read cs v one = record {
      reads = let l = one.reads in r.straight (commands_begin l) l;
      only = λ limit k p l. let f = straight_of {s = here s} straight l in let o = one.only limit k f.0 f.2 in (o.0, f.1 ∙ ap (λ ds. pipe false ds) o.1);
    }

-- And-or lists

no_links : {limit : ℕ} {b : List ℕ} {body : ℕ → Document} {s v : states.State} {ps : List (Link × Pipe)} → link_of (lead_here b s) ≡ None → ReadsLinks limit b body s v ps
    → (v ≡ s) × (ps ≡ [])
no_links none (r.no_link h) = (refl, refl)
no_links none (r.more_links {l = l} h k p q) = let no : Some l ≡ None = sym h ∙ none in cc

first_link : {limit : ℕ} {b : List ℕ} {body : ℕ → Document} {s v : states.State} {ps : List (Link × Pipe)} (l : Link) → link_of (lead_here b s) ≡ Some l → ReadsLinks limit b body s v ps
    → (u w : states.State) × (p : Pipe) × (qs : List (Link × Pipe)) × (ps ≡ (l, p) ∷ qs) × ReadsBreaks limit b (skip b 2 s) u × ReadsPipeline limit b body u w p
    × ReadsLinks limit b body w v qs
first_link l some (r.no_link h) = let no : Some l ≡ None = sym some ∙ h in cc
first_link l some (r.more_links {u = u} {v = w} {l = m} {p = p} {ps = qs} h k g q) =
    let same : m ≡ l = some_link (sym h ∙ some) in
    (u, w, p, qs, ap (λ x. (x, p) ∷ qs) same, k, g, q)
  where
    some_link : {x y : Link} → Some x ≡ Some y → x ≡ y
    some_link e = cc

pub record LinksFound (b : List ℕ) (s : State) (found : List (Link × Pipe)) (v : State) : Type 0 where
  pub behind : Behind (LinksFrom b) s found v

pub links_none : (b : List ℕ) (s : State) → LinksFound b s [] s
links_none b s = record { behind = nothing_yet (LinksFrom b) s }

module _ (b : List ℕ) (s next : State) (found : List (Link × Pipe)) (h : LinksFound b s found next) where
  pub links_all : link_of (lead_at b First next.at) ≡ None → One (LinksFrom b s) (here next) found
  links_all none = all_found (LinksFrom b) s next found (here next) h.behind
      (record { reads = r.no_link {s = here next} none; only = λ limit k ps l. no_links {s = here next} none l })

  pub links_stopped : (l : Link) → link_of (lead_at b First next.at) ≡ Some l → (e : Refusal) → Refused b (BreaksFrom b (moved b (next.at + 2) next)) e → Refused b (LinksFrom b s) e
  links_stopped l some e none =
      refused_behind (LinksFrom b) b s next found e h.behind
      (refused_by b (BreaksFrom b (moved b (next.at + 2) next)) (LinksFrom b next) e (λ limit k ps q.
      let f = first_link {s = here next} l some q in
      (f.0, tt, f.5, le_trans (pipeline_count f.6) (links_count f.7))) none)

  module _ (l : Link) (some : link_of (lead_at b First next.at) ≡ Some l) (w : State) (breaks : BreaksTo b (moved b (next.at + 2) next) w) where
    pub links_refused : (e : Refusal) → Refused b (PipelineFrom b w) e → Refused b (LinksFrom b s) e
    links_refused e none =
        refused_behind (LinksFrom b) b s next found e h.behind
        (refused_by b (PipelineFrom b w) (LinksFrom b next) e (λ limit k ps q.
        let f = first_link {s = here next} l some q in
        (f.1, f.2, subst (λ x. ReadsPipeline limit b unread x f.1 f.2) (breaks.forth limit f.0 f.5) f.6, links_count f.7)) none)

    pub links_more : (p : Pipe) (v : State) → One (PipelineFrom b w) (here v) p → LinksFound b s (found ++ (l, p) ∷ []) v
    links_more p v one = record {
      behind = one_more (LinksFrom b) s next v found (l, p) h.behind (record {
        forth = λ limit k ps q.
            let f = first_link {s = here next} l some q in
            let o = one.only limit f.1 f.2 (subst (λ x. ReadsPipeline limit b unread x f.1 f.2) (breaks.forth limit f.0 f.5) f.6) in
            (f.3, f.4 ∙ ap (λ x. (l, x) ∷ f.3) o.1, subst (λ x. ReadsLinks limit b unread x k f.3) o.0 f.7);
        back = λ k ps q. r.more_links {s = here next} some (breaks.back) one.reads q;
      });
    }

list_of : {limit : ℕ} {b : List ℕ} {body : ℕ → Document} {s v : states.State} {l : AndOr} → ReadsAndOr limit b body s v l
    → (u : states.State) × (p : Pipe) × (ps : List (Link × Pipe)) × (l ≡ and_or p ps) × ReadsPipeline limit b body s u p × ReadsLinks limit b body u v ps
list_of (r.linked {u = u} {p = p} {ps = ps} q k) = (u, p, ps, refl, q, k)

pub first_refused : (b : List ℕ) (s : State) (e : Refusal) → Refused b (PipelineFrom b s) e → Refused b (AndOrFrom b s) e
first_refused b s e none = refused_by b (PipelineFrom b s) (AndOrFrom b s) e (λ limit v l q. let f = list_of q in (f.0, f.1, f.4, links_count f.5)) none

module _ (b : List ℕ) (s : State) (p : Pipe) (u : State) (one : One (PipelineFrom b s) (here u) p) where
  pub rest_refused : (e : Refusal) → Refused b (LinksFrom b u) e → Refused b (AndOrFrom b s) e
  rest_refused e none = refused_by b (LinksFrom b u) (AndOrFrom b s) e (λ limit v l q.
      let f = list_of q in
      let o = one.only limit f.0 f.1 f.4 in
      (v, f.2, subst (λ x. ReadsLinks limit b unread x v f.2) o.0 f.5, omega arith)) none

  pub list_linked : (ps : List (Link × Pipe)) (v : State) → One (LinksFrom b u) (here v) ps → One (AndOrFrom b s) (here v) (and_or p ps)
  list_linked ps v rest = record {
    reads = r.linked one.reads rest.reads;
    only = λ limit k l q.
        let f = list_of q in
        let o = one.only limit f.0 f.1 f.4 in
        let t = rest.only limit k f.2 (subst (λ x. ReadsLinks limit b unread x k f.2) o.0 f.5) in
        (t.0, f.3 ∙ ap (λ x. and_or x f.2) o.1 ∙ ap (λ xs. and_or p xs) t.1);
  }

-- Items

items_tail : {limit : ℕ} {b : List ℕ} {body : ℕ → Document} {s v : states.State} {xs : List Item} → ReadsItems limit b body s v xs
    → (u : states.State) × (l : AndOr) × ReadsAndOr limit b body s u l × ReadsTail limit b body l u v xs
items_tail (r.last_item {u = u} {l = l} h n k) = (u, l, h, inl (n, k, refl, refl))
items_tail (r.ended_item {u = u} {v = v} {l = l} {g = g} h n k e) = (u, l, h, inr (g, v, [], n, k, inl (e, refl, refl), refl))
items_tail (r.more_items {u = u} {v = v} {l = l} {g = g} {is = js} h n k e i) = (u, l, h, inr (g, v, js, n, k, inr (e, i), refl))

tail_items : {limit : ℕ} {b : List ℕ} {body : ℕ → Document} {s u v : states.State} {l : AndOr} {xs : List Item} → ReadsAndOr limit b body s u l
    → ReadsTail limit b body l u v xs → ReadsItems limit b body s v xs
tail_items h (inl t) = rw (t.2, t.3) (r.last_item h t.0 t.1)
tail_items h (inr t) = elim t.5 [
  | inl e ↦ rw (t.6, e.1, e.2) (r.ended_item h t.3 t.4 e.0)
  | inr i ↦ rw t.6 (r.more_items h t.3 t.4 i.0 i.1)
]

rest_count : {limit : ℕ} {b : List ℕ} {body : ℕ → Document} {s v : states.State} {xs : List Item} → ReadsRest limit b body s v xs → s.spot.count ≤ v.spot.count
rest_count (inl e) = let same = ap (λ w. w.spot.count) e.1 in omega arith
rest_count (inr i) = items_count i.1

pub parted_count : (b : List ℕ) (s : states.State) → (parted b s).spot.count ≡ s.spot.count
parted_count b s = go _
  where
    go : (t : Bool) → (cond t s (skip b 1 s)).spot.count ≡ s.spot.count
    go true = refl
    go false = refl

tail_count : {limit : ℕ} {b : List ℕ} {body : ℕ → Document} {u v : states.State} (l : AndOr) {xs : List Item} → ReadsTail limit b body l u v xs → u.spot.count ≤ v.spot.count
tail_count l (inl t) = let same = ap (λ w. w.spot.count) t.2 in omega arith
tail_count {b = b} {u = u} l (inr t) = let same = parted_count b u in let k = breaks_count t.4 in let m = rest_count t.5 in omega arith

-- a separator is no end
pub separates : (l : Lead) (g : Bool) → Some g ≡ separator l → l ≡ lead.End → ⊥
unfolding separator
separates l g some is = let no : Some g ≡ None = some ∙ ap separator is in cc

some_bool : {x y : Bool} → Some x ≡ Some y → x ≡ y
some_bool e = cc

pub record ItemsFound (b : List ℕ) (s : State) (found : List Item) (v : State) : Type 0 where
  pub behind : Behind (RestFrom b) s found v

pub items_none : (b : List ℕ) (s : State) → ItemsFound b s [] s
items_none b s = record { behind = nothing_yet (RestFrom b) s }

module _ (b : List ℕ) (s next : State) (found : List Item) (h : ItemsFound b s found next) where
  -- no pipeline begins
  pub items_all : begins_pipeline (lead_at b First next.at) ≡ false → One (RestFrom b s) (here next) found
  items_all none = all_found (RestFrom b) s next found (here next) h.behind (record {
    reads = inl (none, refl, refl);
    only = λ limit k xs l. elim l [
      | inl e ↦ (e.1, e.2)
      | inr i ↦ absurd (true≢false (sym i.0 ∙ none))
    ];
  })

  module _ (some : begins_pipeline (lead_at b First next.at) ≡ true) where
    items_here : {limit : ℕ} {k : states.State} {xs : List Item} → RestFrom b next limit k xs → ReadsItems limit b unread (here next) k xs
    items_here (inl e) = absurd (true≢false (sym some ∙ e.0))
    items_here (inr i) = i.1

    pub items_refused : (e : Refusal) → Refused b (AndOrFrom b next) e → Refused b (RestFrom b s) e
    items_refused e none =
        refused_behind (RestFrom b) b s next found e h.behind
        (refused_by b (AndOrFrom b next) (RestFrom b next) e (λ limit k xs l. let f = items_tail (items_here l) in (f.0, f.1, f.2, tail_count f.1 f.3)) none)

    module _ (l : AndOr) (u : State) (one : One (AndOrFrom b next) (here u) l) where
      tail_here : {limit : ℕ} {k : states.State} {xs : List Item} → RestFrom b next limit k xs → ReadsTail limit b unread l (here u) k xs
      tail_here {limit = limit} {k = k} {xs = xs} q =
          let f = items_tail (items_here q) in
          let o = one.only limit f.0 f.1 f.2 in
          subst (λ m. ReadsTail limit b unread m (here u) k xs) o.1 (subst (λ w. ReadsTail limit b unread f.1 w k xs) o.0 f.3)

      -- the last item, which no separator follows
      pub items_last : separator (lead_at b First u.at) ≡ None → not (is_reserved (lead_at b First u.at)) || u.closed ≡ true
          → One (RestFrom b s) (here u) (found ++ item l false ∷ [])
      items_last none closes = found_with (RestFrom b) s next found (item l false ∷ []) (here u) h.behind (record {
        reads = inr (some, r.last_item {u = here u} one.reads none closes);
        only = λ limit k xs q. elim (tail_here q) [
          | inl e ↦ (e.2, e.3)
          | inr m ↦ let no : Some m.0 ≡ None = sym m.3 ∙ none in absurd cc
        ];
      })

      -- a reserved word that closes nothing
      pub items_wrong : separator (lead_at b First u.at) ≡ None → not (is_reserved (lead_at b First u.at)) || u.closed ≡ false → Nothing (RestFrom b s)
      items_wrong none wrong limit k xs q =
          let t = h.behind.forth limit k xs q in
          elim (tail_here t.2) [
            | inl e ↦ true≢false (sym e.1 ∙ wrong)
            | inr m ↦ let no : Some m.0 ≡ None = sym m.3 ∙ none in cc
          ]

      pub items_stopped : (g : Bool) → separator (lead_at b First u.at) ≡ Some g → (p : State) → here p ≡ parted b (here u) → (e : Refusal) → Refused b (BreaksFrom b p) e
          → Refused b (RestFrom b s) e
      items_stopped g ends p parts e none =
          refused_behind (RestFrom b) b s next found e h.behind
          (refused_by b (BreaksFrom b p) (RestFrom b next) e (λ limit k xs q. elim (tail_here q) [
            | inl t ↦ let no : Some g ≡ None = sym ends ∙ t.0 in absurd cc
            | inr m ↦ (m.1, tt, subst (λ x. ReadsBreaks limit b x m.1) (sym parts) m.4, rest_count m.5)
          ]) none)

      pub items_more : (g : Bool) → separator (lead_at b First u.at) ≡ Some g → (p w : State) → here p ≡ parted b (here u) → BreaksTo b p w
          → ItemsFound b s (found ++ item l g ∷ []) w
      items_more g ends p w parts breaks = record {
        behind = one_more (RestFrom b) s next w found (item l g) h.behind (record {
          forth = λ limit k xs q. elim (tail_here q) [
            | inl e ↦ let no : Some g ≡ None = sym ends ∙ e.0 in absurd cc
            | inr m ↦
                let same : m.0 ≡ g = some_bool (sym m.3 ∙ ends) in
                let there : m.1 ≡ here w = breaks.forth limit m.1 (subst (λ x. ReadsBreaks limit b x m.1) (sym parts) m.4) in
                (m.2, m.6 ∙ ap (λ x. item l x ∷ m.2) same, subst (λ x. ReadsRest limit b unread x k m.2) there m.5)
          ];
          back = λ k xs q.
              inr (some, tail_items one.reads (inr (g, here w, xs, ends, subst (λ x. ReadsBreaks 64 b x (here w)) parts (breaks.back), q, refl)));
        });
      }

-- Sequences

sequence_rest : {limit : ℕ} {b : List ℕ} {body : ℕ → Document} {s v : states.State} {t : Script} → ReadsSequence limit b body s v t
    → (u : states.State) × (xs : List Item) × (t ≡ script xs) × ReadsBreaks limit b s u × ReadsRest limit b body u v xs
sequence_rest (r.nothing {u = u} k h) = (u, [], refl, k, inl (h, refl, refl))
sequence_rest (r.sequence (r.list {u = u} {is = xs} k h i)) = (u, xs, refl, k, inr (h, i))

rest_sequence : {limit : ℕ} {b : List ℕ} {body : ℕ → Document} {s u v : states.State} {xs : List Item} → ReadsBreaks limit b s u → ReadsRest limit b body u v xs
    → ReadsSequence limit b body s v (script xs)
rest_sequence k (inl e) = rw (e.1, e.2) (r.nothing k e.0)
rest_sequence k (inr i) = r.sequence (r.list k i.0 i.1)

pub sequence_stopped : (b : List ℕ) (s : State) (e : Refusal) → Refused b (BreaksFrom b s) e → Refused b (SequenceFrom b s) e
sequence_stopped b s e none = refused_by b (BreaksFrom b s) (SequenceFrom b s) e (λ limit v t l. let f = sequence_rest l in (f.0, tt, f.3, rest_count f.4)) none

module _ (b : List ℕ) (s u : State) (breaks : BreaksTo b s u) where
  pub sequence_refused : (e : Refusal) → Refused b (RestFrom b u) e → Refused b (SequenceFrom b s) e
  sequence_refused e none = refused_by b (RestFrom b u) (SequenceFrom b s) e (λ limit v t l.
      let f = sequence_rest l in
      (v, f.1, subst (λ x. ReadsRest limit b unread x v f.1) (breaks.forth limit f.0 f.3) f.4, omega arith)) none

  pub sequence_read : (xs : List Item) (v : State) → One (RestFrom b u) (here v) xs → One (SequenceFrom b s) (here v) (script xs)
  sequence_read xs v one = record {
    reads = rest_sequence (breaks.back) one.reads;
    only = λ limit k t l.
        let f = sequence_rest l in
        let o = one.only limit k f.1 (subst (λ x. ReadsRest limit b unread x k f.1) (breaks.forth limit f.0 f.3) f.4) in
        (o.0, f.2 ∙ ap (λ ys. script ys) o.1);
  }
