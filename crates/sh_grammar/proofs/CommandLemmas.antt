-- Commands, by the token at their first byte.
use Rattle.std.proofs.Common.{◌≡◌, ℕ, ◌+◌, ◌<◌, ◌≤◌, Bool, ◌||◌, true, false, List, [], Result, Ok, Err, refl, sym, ap, subst, ◌∙◌, le_refl, le_trans, arith}
use Rattle.std.proofs.lemmas.Bool.{true≢false}
use Rattle.sh_tree.specs.declared.limits.TheConstants.{MAX_COMMANDS}
use Rattle.sh_tree.specs.declared.token.command.Stage.TheVariants.{First}
use Rattle.sh_tree.specs.declared.token.command.Lead.{Lead}
use Rattle.sh_tree.specs.declared.token.command.Lead.TheVariants as lead
use Rattle.sh_tree.specs.declared.token.command.Operator.TheVariants as op
use Rattle.sh_tree.specs.declared.tree.Element.{Element}
use Rattle.sh_tree.specs.declared.tree.Redirect.{Redirect}
use Rattle.sh_tree.specs.declared.tree.Kind.{Kind}
use Rattle.sh_tree.specs.declared.tree.Kind.TheVariants as kind
use Rattle.sh_tree.specs.declared.tree.Command.{Command}
use Rattle.sh_tree.specs.declared.refusal.Refusal.{Refusal}
use Rattle.sh_tree.specs.standard.language.Commands.{lead_at, begins_simple, begins_compound, begins_command, is_redirection, redirects}
use Rattle.sh_tree.specs.standard.language.Reading as r
use Rattle.sh_tree.specs.standard.language.Reading.{ReadsElements, ReadsRedirects, ReadsCompound, ReadsCommand, lead_here, is_empty}
use Rattle.sh_tree.specs.standard.language.States as states
use Rattle.sh_tree.specs.standard.language.States.{Document, begun, closing}
use Rattle.sh_tree.specs.standard.language.Trees as tree
use Rattle.sh_tree.proofs.Inversions.{apart, compound_begins, simple_command_begins, compound_command_begins}
use Rattle.sh_tree.proofs.Counts.{command_count_more, redirects_count}
use Rattle.sh_grammar.specs.declared.state.State.{State}
use Rattle.sh_grammar.specs.States.{here}
use Rattle.sh_grammar.specs.Readers.{One, Nothing, NothingWithin, Crowded, Refused, ElementsFrom, Answers, RedirectsFrom, CompoundFrom, CommandFrom, unread}
use Rattle.sh_grammar.specs.Redirected.{RedirectedFrom}
use Rattle.sh_grammar.proofs.ReaderLemmas.{refused_by}

-- What begins a command

not_simple : (l : Lead) → begins_compound l ≡ true → begins_simple l ≡ false
unfolding begins_simple begins_compound is_redirection redirects
not_simple (lead.Operator op.LeftParenthesis) h = refl
not_simple (lead.Reserved w) h = refl
not_simple _ h = absurd (true≢false (sym h))

pub command_begins : {limit : ℕ} {b : List ℕ} {body : ℕ → Document} {s v : states.State} {c : Command} → ReadsCommand limit b body s v c → begins_command (lead_here b s) ≡ true
unfolding begins_command
command_begins (r.simple_command h e) = simple_command_begins _ h
command_begins (r.compound_command {l = l} is k q) = ap begins_command is ∙ compound_command_begins l (compound_begins k)
command_begins (r.definition h o p k i c) = ap begins_command h

-- the end of the text begins none
pub not_ended : (l : Lead) → begins_command l ≡ true → l ≡ lead.End → ⊥
unfolding begins_command begins_simple is_redirection begins_compound
not_ended l some is = true≢false (sym some ∙ ap begins_command is)

pub compound_some : (l : Lead) → begins_compound l ≡ true → l ≡ lead.End → ⊥
compound_some l some = not_ended l (compound_command_begins l some)

-- what begins a command and is neither simple nor compound
pub rest_defines : (l : Lead) → begins_command l ≡ true → begins_simple l ≡ false → begins_compound l ≡ false → l ≡ lead.Definition
unfolding begins_command
rest_defines lead.Definition h k m = refl
rest_defines l h k m = absurd (true≢false (sym h ∙ or_false (begins_simple l) (begins_compound l) k m))
  where
    or_false : (s t : Bool) → s ≡ false → t ≡ false → (s || t) ≡ false
    or_false s t k m = rw (k, m) refl

-- a token that begins no command
pub command_none : (b : List ℕ) (s : State) → begins_command (lead_at b First s.at) ≡ false → Nothing (CommandFrom b s)
command_none b s none limit v c l = true≢false (sym (command_begins l) ∙ none)

-- no more commands may begin
pub command_crowded : (b : List ℕ) (s : State) → s.count ≡ MAX_COMMANDS → Crowded (CommandFrom b s)
command_crowded b s many limit v c l = let more = command_count_more l in omega arith

-- Simple commands, from their elements

simple_of : {limit : ℕ} {b : List ℕ} {body : ℕ → Document} {s v : states.State} {c : Command} → begins_simple (lead_here b s) ≡ true → ReadsCommand limit b body s v c
    → (u : states.State) × (es : List Element) × (v ≡ closing false u) × (c ≡ tree.command (s.spot.count + 1) s.spot.at (kind.Simple es) [])
    × ReadsElements limit b body First (begun s) u es
unfolding begins_simple is_redirection
simple_of some (r.simple_command {u = u} {es = es} h e) = (u, es, refl, refl, e)
simple_of some (r.compound_command {l = l} is k q) = absurd (true≢false (sym some ∙ ap begins_simple is ∙ not_simple l (compound_begins k)))
simple_of some (r.definition h o p k i c) = absurd (apart begins_simple h some refl)

-- after one more command
abbrev pub one_more_command : State → State
one_more_command s = record s { count = s.count + 1 }

same_count : (u v : states.State) (closed : Bool) → v ≡ closing closed u → u.spot.count ≤ v.spot.count
same_count u v closed e = let same = ap (λ s. s.spot.count) e in omega arith

module _ (b : List ℕ) (s : State) (some : begins_simple (lead_at b First s.at) ≡ true) where
  pub simple_read : (es : List Element) (u : State) → One (ElementsFrom b (First, one_more_command s)) (here u) es
      → One (CommandFrom b s) (closing false (here u)) (tree.command (s.count + 1) s.at (kind.Simple es) [])
  simple_read es u h = record {
    reads = r.simple_command {s = here s} some h.reads;
    only = λ limit v c l.
        let f = simple_of {s = here s} some l in
        let o = h.only limit f.0 f.1 f.4 in
        (f.2 ∙ ap (closing false) o.0, f.3 ∙ ap (λ fs. tree.command (s.count + 1) s.at (kind.Simple fs) []) o.1);
  }

  pub simple_refused : (e : Refusal) → Refused b (ElementsFrom b (First, one_more_command s)) e → Refused b (CommandFrom b s) e
  simple_refused e h = refused_by b (ElementsFrom b (First, one_more_command s)) (CommandFrom b s) e
      (λ limit v c l. let f = simple_of {s = here s} some l in (f.0, f.1, f.4, same_count f.0 v false f.2)) h

-- Compound commands and their redirections

compound_of : {limit : ℕ} {b : List ℕ} {body : ℕ → Document} {s v : states.State} {c : Command} → begins_compound (lead_here b s) ≡ true → ReadsCommand limit b body s v c
    → (u w : states.State) × (k : Kind) × (qs : List Redirect) × (v ≡ closing (is_empty qs) w) × (c ≡ tree.command (s.spot.count + 1) s.spot.at k qs)
    × ReadsCompound limit b body (lead_here b s) (begun s) u k × ReadsRedirects limit b body u w qs
unfolding begins_compound
compound_of some (r.simple_command h e) = absurd (true≢false (sym h ∙ not_simple _ some))
compound_of {limit = limit} {b = b} {body = body} {s = s} some (r.compound_command {u = u} {v = w} {l = m} {k = k} {rs = qs} h c q) =
    (u, w, k, qs, refl, refl, subst (λ n. ReadsCompound limit b body n (begun s) u k) (sym h) c, q)
compound_of some (r.definition h o p k i c) = absurd (apart begins_compound h some refl)

compound_deeper : {limit : ℕ} {b : List ℕ} {body : ℕ → Document} {l : Lead} {s v : states.State} {k : Kind} → ReadsCompound limit b body l s v k → s.spot.depth < limit
compound_deeper (r.group d h e) = d
compound_deeper (r.subshell d h e) = d
compound_deeper (r.cond d h) = d
compound_deeper (r.while_loop d h g) = d
compound_deeper (r.until_loop d h g) = d
compound_deeper (r.for_loop d n h g) = d
compound_deeper (r.case_of d i w h k g c) = d

pub compound_with : (b : List ℕ) (s : State) (l : Lead) → l ≡ lead_at b First s.at → (k : Kind) (u : State) → One (CompoundFrom b l (one_more_command s)) (here u) k
    → One (CompoundFrom b (lead_at b First s.at) (one_more_command s)) (here u) k
compound_with b s l is k u one = subst (λ m. One (CompoundFrom b m (one_more_command s)) (here u) k) is one

module _ (b : List ℕ) (s : State) (some : begins_compound (lead_at b First s.at) ≡ true) where
  pub compound_deep : 64 ≤ s.depth → NothingWithin (CommandFrom b s)
  compound_deep deep v c l = let f = compound_of {s = here s} some l in let d = compound_deeper f.6 in omega arith

  pub compound_refused : (e : Refusal) → Refused b (CompoundFrom b (lead_at b First s.at) (one_more_command s)) e → Refused b (CommandFrom b s) e
  compound_refused e h = refused_by b (CompoundFrom b (lead_at b First s.at) (one_more_command s)) (CommandFrom b s) e
      (λ limit v c l.
      let f = compound_of {s = here s} some l in
      let more = redirects_count f.7 in
      let same = same_count f.1 v (is_empty f.3) f.4 in
      (f.0, f.2, f.6, omega arith)) h

  module _ (k : Kind) (u : State) (one : One (CompoundFrom b (lead_at b First s.at) (one_more_command s)) (here u) k) where
    redirected_in : (limit : ℕ) (v : states.State) (c : Command) → CommandFrom b s limit v c → RedirectedFrom b (s.count + 1) s.at k u limit v c
    redirected_in limit v c l =
        let f = compound_of {s = here s} some l in
        let o = one.only limit f.0 f.2 f.6 in
        (f.1, f.3, subst (λ w. ReadsRedirects limit b unread w f.1 f.3) o.0 f.7, f.4, f.5 ∙ ap (λ j. tree.command (s.count + 1) s.at j f.3) o.1)

    redirected_out : (v : states.State) (c : Command) → RedirectedFrom b (s.count + 1) s.at k u 64 v c → CommandFrom b s 64 v c
    redirected_out v c f =
        let l = r.compound_command {s = here s} refl one.reads f.2 in
        subst (λ w. CommandFrom b s 64 w c) (sym f.3) (subst (λ d. CommandFrom b s 64 (closing (is_empty f.1) f.0) d) (sym f.4) l)

    redirected_refused : (e : Refusal) → Refused b (RedirectedFrom b (s.count + 1) s.at k u) e → Refused b (CommandFrom b s) e
    redirected_refused e h = refused_by b (RedirectedFrom b (s.count + 1) s.at k u) (CommandFrom b s) e (λ limit v c l. (v, c, redirected_in limit v c l, le_refl v.spot.count)) h

    pub redirected_answers : (x : Result (Command × State) Refusal) → s.at + 1 ≤ u.at → Answers b (RedirectedFrom b (s.count + 1) s.at k u) u.at x → Answers b (CommandFrom b s) (s.at + 1) x
    redirected_answers (Ok x) further h = record {
      one = record {
        reads = redirected_out (here x.1) x.0 h.one.reads;
        only = λ limit v c l. h.one.only limit v c (redirected_in limit v c l);
      };
      from = le_trans further h.from;
      stands = h.stands;
    }
    redirected_answers (Err e) further h = redirected_refused e h

module _ (b : List ℕ) (n i : ℕ) (k : Kind) (u : State) where
  pub redirects_read : (qs : List Redirect) (v : State) → One (RedirectsFrom b u) (here v) qs → One (RedirectedFrom b n i k u) (closing (is_empty qs) (here v)) (tree.command n i k qs)
  redirects_read qs v h = record {
    reads = (here v, qs, h.reads, refl, refl);
    only = λ limit w c l.
        let p = h.only limit l.0 l.1 l.2 in
        (l.3 ∙ ap (λ t. closing (is_empty l.1) t) p.0 ∙ ap (λ xs. closing (is_empty xs) (here v)) p.1, l.4 ∙ ap (λ xs. tree.command n i k xs) p.1);
  }

  pub redirects_refused : (e : Refusal) → Refused b (RedirectsFrom b u) e → Refused b (RedirectedFrom b n i k u) e
  redirects_refused e h = refused_by b (RedirectsFrom b u) (RedirectedFrom b n i k u) e (λ limit v c l. (l.0, l.1, l.2, same_count l.0 v (is_empty l.1) l.3)) h
