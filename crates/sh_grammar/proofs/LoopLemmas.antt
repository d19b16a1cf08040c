-- Lists before reserved words, `while` and `until`.
use Rattle.std.proofs.Common.{◌≡◌, ℕ, ◌<◌, List, codes, refl, sym, ap, subst, ◌∙◌, arith}
use Rattle.sh_tree.specs.declared.token.command.Stage.TheVariants.{First}
use Rattle.sh_tree.specs.declared.token.command.Lead.{Lead}
use Rattle.sh_tree.specs.declared.token.command.Lead.TheVariants as lead
use Rattle.sh_tree.specs.declared.token.command.Reserved.{Reserved}
use Rattle.sh_tree.specs.declared.token.command.Reserved.TheVariants as word
use Rattle.sh_tree.specs.declared.tree.Script.{Script}
use Rattle.sh_tree.specs.declared.tree.Kind.{Kind}
use Rattle.sh_tree.specs.declared.tree.Kind.TheVariants as kind
use Rattle.sh_tree.specs.declared.tree.LoopKind.{LoopKind}
use Rattle.sh_tree.specs.declared.tree.LoopKind.TheVariants as loop
use Rattle.sh_tree.specs.declared.refusal.Refusal.{Refusal}
use Rattle.sh_tree.specs.standard.language.Commands.{lead_at}
use Rattle.sh_tree.specs.standard.language.Reading as r
use Rattle.sh_tree.specs.standard.language.Reading.{ReadsList, ReadsDo, ReadsCompound, lead_here, behind_token}
use Rattle.sh_tree.specs.standard.language.States as states
use Rattle.sh_tree.specs.standard.language.States.{Document, lower, as_deep}
use Rattle.sh_tree.proofs.Counts.{do_count}
use Rattle.sh_grammar.specs.declared.state.State.{State}
use Rattle.sh_grammar.specs.States.{here}
use Rattle.sh_grammar.specs.Phrases.{reserved_text, behind_reserved, entered, ListBefore, DoFrom, loop_word}
use Rattle.sh_grammar.specs.Readers.{One, Nothing, Refused, ListFrom, CompoundFrom, unread}
use Rattle.sh_grammar.proofs.ReaderLemmas.{refused_by}

module _ (b : List ℕ) (w : Reserved) (s : State) where
  pub before_refused : (e : Refusal) → Refused b (ListFrom b s) e → Refused b (ListBefore b w s) e
  before_refused e h = refused_by b (ListFrom b s) (ListBefore b w s) e (λ limit v t l. let same = ap (λ k. k.spot.count) l.3 in (l.0, t, l.1, omega arith)) h

  module _ (t : Script) (u : State) (one : One (ListFrom b s) (here u) t) where
    pub before_none : (lead_at b First u.at ≡ lead.Reserved w → ⊥) → Nothing (ListBefore b w s)
    before_none none limit v y l = let o = one.only limit l.0 y l.1 in none (sym (ap (λ k. lead_here b k) o.0) ∙ l.2)

    pub before_read : lead_at b First u.at ≡ lead.Reserved w → One (ListBefore b w s) (here (behind_reserved b w u)) t
    before_read closed = record {
      reads = (here u, one.reads, closed, refl);
      only = λ limit v y l. let o = one.only limit l.0 y l.1 in (l.3 ∙ ap (λ k. behind_token b (reserved_text w) k) o.0, o.1);
    }

do_of : {limit : ℕ} {b : List ℕ} {body : ℕ → Document} {s v : states.State} {t : Script} → ReadsDo limit b body s v t
    → (lead_here b s ≡ lead.Reserved word.Do) × (u : states.State) × ReadsList limit b body (behind_token b (codes "do") s) u t × (lead_here b u ≡ lead.Reserved word.Done) × (v ≡ behind_token b (codes "done") u)
do_of (r.do_group {u = u} h l d) = (h, u, l, d, refl)

module _ (b : List ℕ) (s : State) where
  pub do_none : (lead_at b First s.at ≡ lead.Reserved word.Do → ⊥) → Nothing (DoFrom b s)
  do_none none limit v t l = let f = do_of l in none f.0

  module _ (begins : lead_at b First s.at ≡ lead.Reserved word.Do) where
    pub do_refused : (e : Refusal) → Refused b (ListBefore b word.Done (behind_reserved b word.Do s)) e → Refused b (DoFrom b s) e
    do_refused e h = refused_by b (ListBefore b word.Done (behind_reserved b word.Do s)) (DoFrom b s) e
        (λ limit v t l. let f = do_of l in (v, t, (f.1, f.2, f.3, f.4), omega arith)) h

    pub do_read : (t : Script) (v : State) → One (ListBefore b word.Done (behind_reserved b word.Do s)) (here v) t → One (DoFrom b s) (here v) t
    do_read t v one = record {
      reads = let l = one.reads in subst (λ k. ReadsDo 64 b unread (here s) k t) (sym l.3) (r.do_group {s = here s} begins l.1 l.2);
      only = λ limit k y l. let f = do_of l in one.only limit k y (f.1, f.2, f.3, f.4);
    }

abbrev LoopOf : ℕ → List ℕ → (ℕ → Document) → LoopKind → states.State → states.State → Kind → Type 0
LoopOf limit b body k s v x =
    (u w : states.State) × (c t : Script) × ReadsList limit b body (lower (behind_token b (reserved_text (loop_word k)) s)) u c × ReadsDo limit b body u w t × (v ≡ as_deep s w) × (x ≡ kind.Loop k c t)

loop_of : {limit : ℕ} {b : List ℕ} {body : ℕ → Document} {s v : states.State} {x : Kind} (k : LoopKind) (l : Lead) → l ≡ lead.Reserved (loop_word k) → ReadsCompound limit b body l s v x
    → LoopOf limit b body k s v x
loop_of loop.While l is (r.while_loop {u = u} {v = w} {c = c} {t = t} d h g) = (u, w, c, t, h, g, refl, refl)
loop_of loop.Until l is (r.until_loop {u = u} {v = w} {c = c} {t = t} d h g) = (u, w, c, t, h, g, refl, refl)
loop_of loop.While l is (r.until_loop d h g) = cc
loop_of loop.While l is (r.group d h e) = cc
loop_of loop.While l is (r.subshell d h e) = cc
loop_of loop.While l is (r.cond d h) = cc
loop_of loop.While l is (r.for_loop d n h g) = cc
loop_of loop.While l is (r.case_of d i w h k g c) = cc
loop_of loop.Until l is (r.while_loop d h g) = cc
loop_of loop.Until l is (r.group d h e) = cc
loop_of loop.Until l is (r.subshell d h e) = cc
loop_of loop.Until l is (r.cond d h) = cc
loop_of loop.Until l is (r.for_loop d n h g) = cc
loop_of loop.Until l is (r.case_of d i w h k g c) = cc

loop_made : {limit : ℕ} {b : List ℕ} {body : ℕ → Document} {s u w : states.State} {c t : Script} (k : LoopKind) → s.spot.depth < limit
    → ReadsList limit b body (lower (behind_token b (reserved_text (loop_word k)) s)) u c → ReadsDo limit b body u w t → ReadsCompound limit b body (lead.Reserved (loop_word k)) s (as_deep s w) (kind.Loop k c t)
loop_made loop.While d l h = r.while_loop d l h
loop_made loop.Until d l h = r.until_loop d l h

module _ (b : List ℕ) (k : LoopKind) (s : State) (below : s.depth < 64) where
  pub condition_refused : (e : Refusal) → Refused b (ListFrom b (entered b (loop_word k) s)) e → Refused b (CompoundFrom b (lead.Reserved (loop_word k)) s) e
  condition_refused e h = refused_by b (ListFrom b (entered b (loop_word k) s)) (CompoundFrom b (lead.Reserved (loop_word k)) s) e
      (λ limit v x l.
      let f = loop_of k _ refl l in
      let more = do_count f.5 in
      let same = ap (λ z. z.spot.count) f.6 in
      (f.0, f.2, f.4, omega arith)) h

  module _ (c : Script) (u : State) (one : One (ListFrom b (entered b (loop_word k) s)) (here u) c) where
    pub body_refused : (e : Refusal) → Refused b (DoFrom b u) e → Refused b (CompoundFrom b (lead.Reserved (loop_word k)) s) e
    body_refused e h = refused_by b (DoFrom b u) (CompoundFrom b (lead.Reserved (loop_word k)) s) e
        (λ limit v x l.
        let f = loop_of k _ refl l in
        let o = one.only limit f.0 f.2 f.4 in
        let same = ap (λ z. z.spot.count) f.6 in
        (f.1, f.3, subst (λ z. ReadsDo limit b unread z f.1 f.3) o.0 f.5, omega arith)) h

    pub loop_read : (t : Script) (v : State) → One (DoFrom b u) (here v) t → One (CompoundFrom b (lead.Reserved (loop_word k)) s) (as_deep (here s) (here v)) (kind.Loop k c t)
    loop_read t v body_one = record {
      reads = loop_made k below one.reads body_one.reads;
      only = λ limit w x l.
          let f = loop_of k _ refl l in
          let o = one.only limit f.0 f.2 f.4 in
          let p = body_one.only limit f.1 f.3 (subst (λ z. ReadsDo limit b unread z f.1 f.3) o.0 f.5) in
          (f.6 ∙ ap (λ z. as_deep (here s) z) p.0, f.7 ∙ ap (λ y. kind.Loop k y f.3) o.1 ∙ ap (λ y. kind.Loop k c y) p.1);
    }
