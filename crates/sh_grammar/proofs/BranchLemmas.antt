-- The branches of `if`.
use Rattle.std.proofs.Common.{◌≡◌, ℕ, ◌<◌, List, [], ◌∷◌, ◌++◌, codes, Option, Some, None, refl, sym, ap, subst, ◌∙◌, arith}
use Rattle.std.proofs.lemmas.List.{append_assoc}
use Rattle.sh_tree.specs.declared.token.command.Stage.TheVariants.{First}
use Rattle.sh_tree.specs.declared.token.command.Lead.{Lead}
use Rattle.sh_tree.specs.declared.token.command.Lead.TheVariants as lead
use Rattle.sh_tree.specs.declared.token.command.Reserved.TheVariants as word
use Rattle.sh_tree.specs.declared.tree.Branch.{Branch}
use Rattle.sh_tree.specs.declared.tree.Script.{Script}
use Rattle.sh_tree.specs.declared.tree.Kind.{Kind}
use Rattle.sh_tree.specs.declared.tree.Kind.TheVariants as kind
use Rattle.sh_tree.specs.declared.refusal.Refusal.{Refusal}
use Rattle.sh_tree.specs.standard.language.Commands.{lead_at}
use Rattle.sh_tree.specs.standard.language.Reading as r
use Rattle.sh_tree.specs.standard.language.Reading.{ReadsList, ReadsBranches, ReadsElse, ReadsCompound, lead_here, behind_token}
use Rattle.sh_tree.specs.standard.language.States as states
use Rattle.sh_tree.specs.standard.language.States.{Document, lower, as_deep}
use Rattle.sh_tree.specs.standard.language.Trees.{branch}
use Rattle.sh_tree.proofs.Counts.{list_count, else_count}
use Rattle.sh_grammar.specs.declared.state.State.{State}
use Rattle.sh_grammar.specs.States.{here}
use Rattle.sh_grammar.specs.Phrases.{behind_reserved, entered, ListBefore}
use Rattle.sh_grammar.specs.Branches.{BranchFrom, BranchesFrom, OtherwiseFrom}
use Rattle.sh_grammar.specs.Readers.{One, Nothing, Refused, ListFrom, CompoundFrom, unread}
use Rattle.sh_grammar.proofs.ReaderLemmas.{refused_by}

-- One branch

module _ (b : List ℕ) (s : State) where
  pub test_refused : (e : Refusal) → Refused b (ListBefore b word.Then s) e → Refused b (BranchFrom b s) e
  test_refused e h = refused_by b (ListBefore b word.Then s) (BranchFrom b s) e (λ limit v x l. (l.0, l.1, l.3, list_count l.4)) h

  module _ (c : Script) (u : State) (one : One (ListBefore b word.Then s) (here u) c) where
    pub consequence_refused : (e : Refusal) → Refused b (ListFrom b u) e → Refused b (BranchFrom b s) e
    consequence_refused e h = refused_by b (ListFrom b u) (BranchFrom b s) e
        (λ limit v x l. let o = one.only limit l.0 l.1 l.3 in (v, l.2, subst (λ z. ReadsList limit b unread z v l.2) o.0 l.4, omega arith)) h

    pub branch_read : (t : Script) (v : State) → One (ListFrom b u) (here v) t → One (BranchFrom b s) (here v) (branch c t)
    branch_read t v list = record {
      reads = (here u, c, t, one.reads, list.reads, refl);
      only = λ limit k x l.
          let o = one.only limit l.0 l.1 l.3 in
          let p = list.only limit k l.2 (subst (λ z. ReadsList limit b unread z k l.2) o.0 l.4) in
          (p.0, l.5 ∙ ap (λ y. branch y l.2) o.1 ∙ ap (λ y. branch c y) p.1);
    }

-- What follows the last branch

fi_of : {limit : ℕ} {b : List ℕ} {body : ℕ → Document} {s v : states.State} {bs : List Branch} {o : Option Script} → (lead_here b s ≡ lead.Reserved word.Elif → ⊥)
    → (lead_here b s ≡ lead.Reserved word.Else → ⊥) → ReadsElse limit b body s v bs o
    → (lead_here b s ≡ lead.Reserved word.Fi) × (v ≡ behind_token b (codes "fi") s) × (bs ≡ []) × (o ≡ None)
fi_of more other (r.fi h) = (h, refl, refl, refl)
fi_of more other (r.otherwise h l e) = absurd (other h)
fi_of more other (r.elif h l) = absurd (more h)

abbrev ElseOf : ℕ → List ℕ → (ℕ → Document) → states.State → states.State → List Branch → Option Script → Type 0
ElseOf limit b body s v bs o =
    (u : states.State) × (t : Script) × ReadsList limit b body (behind_token b (codes "else") s) u t × (lead_here b u ≡ lead.Reserved word.Fi)
    × (v ≡ behind_token b (codes "fi") u) × (bs ≡ []) × (o ≡ Some t)

else_of : {limit : ℕ} {b : List ℕ} {body : ℕ → Document} {s v : states.State} {bs : List Branch} {o : Option Script} → lead_here b s ≡ lead.Reserved word.Else
    → ReadsElse limit b body s v bs o → ElseOf limit b body s v bs o
else_of is (r.fi h) = cc
else_of is (r.otherwise {u = u} {t = t} h l e) = (u, t, l, e, refl, refl, refl)
else_of is (r.elif h l) = cc

elif_of : {limit : ℕ} {b : List ℕ} {body : ℕ → Document} {s v : states.State} {bs : List Branch} {o : Option Script} → lead_here b s ≡ lead.Reserved word.Elif
    → ReadsElse limit b body s v bs o → ReadsBranches limit b body (behind_token b (codes "elif") s) v bs o
elif_of is (r.fi h) = cc
elif_of is (r.otherwise h l e) = cc
elif_of is (r.elif h l) = l

-- no branch comes where there is no `elif`
ended_of : {limit : ℕ} {b : List ℕ} {body : ℕ → Document} {s v : states.State} {bs : List Branch} {o : Option Script} → (lead_here b s ≡ lead.Reserved word.Elif → ⊥)
    → ReadsElse limit b body s v bs o → bs ≡ []
ended_of more (r.fi h) = refl
ended_of more (r.otherwise h l e) = refl
ended_of more (r.elif h l) = absurd (more h)

module _ (b : List ℕ) (s : State) where
  pub fi_none : (lead_at b First s.at ≡ lead.Reserved word.Elif → ⊥) → (lead_at b First s.at ≡ lead.Reserved word.Else → ⊥)
      → (lead_at b First s.at ≡ lead.Reserved word.Fi → ⊥) → Nothing (OtherwiseFrom b s)
  fi_none more other none limit v o l = none (fi_of more other l).0

  pub fi_read : lead_at b First s.at ≡ lead.Reserved word.Fi → One (OtherwiseFrom b s) (here (behind_reserved b word.Fi s)) None
  fi_read is = record {
    reads = r.fi {s = here s} is;
    only = λ limit v o l. let f = fi_of (λ more. absurd cc) (λ other. absurd cc) l in (f.1, f.3);
  }

  module _ (begins : lead_at b First s.at ≡ lead.Reserved word.Else) where
    pub else_refused : (e : Refusal) → Refused b (ListBefore b word.Fi (behind_reserved b word.Else s)) e → Refused b (OtherwiseFrom b s) e
    else_refused e h = refused_by b (ListBefore b word.Fi (behind_reserved b word.Else s)) (OtherwiseFrom b s) e
        (λ limit v o l. let f = else_of begins l in (v, f.1, (f.0, f.2, f.3, f.4), omega arith)) h

    pub else_read : (t : Script) (v : State) → One (ListBefore b word.Fi (behind_reserved b word.Else s)) (here v) t → One (OtherwiseFrom b s) (here v) (Some t)
    else_read t v one = record {
      reads = let l = one.reads in subst (λ k. ReadsElse 64 b unread (here s) k [] (Some t)) (sym l.3) (r.otherwise {s = here s} begins l.1 l.2);
      only = λ limit k o l. let f = else_of begins l in let p = one.only limit k f.1 (f.0, f.2, f.3, f.4) in (p.0, f.6 ∙ ap Some p.1);
    }

-- Branches

abbrev BranchesOf : ℕ → List ℕ → State → states.State → List Branch → Option Script → Type 0
BranchesOf limit b s w bs o = (v : states.State) × (x : Branch) × (cs : List Branch) × (bs ≡ x ∷ cs) × BranchFrom b s limit v x × ReadsElse limit b unread v w cs o

branches_at : {limit : ℕ} {b : List ℕ} {p w : states.State} {bs : List Branch} {o : Option Script} (s : State) → p ≡ here s
    → ReadsBranches limit b unread p w bs o → BranchesOf limit b s w bs o
branches_at {limit = limit} {b = b} s is (r.branch {u = u} {v = v} {c = c} {t = t} {bs = cs} h k l e) =
    (v, branch c t, cs, refl, (behind_token b (codes "then") u, c, t, (u, subst (λ q. ReadsList limit b unread q u c) is h, k, refl), l, refl), e)

branches_made : {limit : ℕ} {b : List ℕ} {v w : states.State} {x : Branch} {cs : List Branch} {o : Option Script} (s : State)
    → BranchFrom b s limit v x → ReadsElse limit b unread v w cs o → ReadsBranches limit b unread (here s) w (x ∷ cs) o
branches_made {limit = limit} {b = b} {v = v} {w = w} {cs = cs} {o = o} s l e =
    let list = subst (λ q. ReadsList limit b unread q v l.2) l.3.3 l.4 in
    subst (λ y. ReadsBranches limit b unread (here s) w (y ∷ cs) o) (sym l.5) (r.branch l.3.1 l.3.2 list e)

-- the branches from s on are those that were found, and then those from `next` on
pub record BranchesFound (b : List ℕ) (s : State) (found : List Branch) (next : State) : Type 0 where
  pub forth : (limit : ℕ) (k : states.State) (x : List Branch × Option Script) → BranchesFrom b s limit k x
      → (y : List Branch × Option Script) × (x ≡ (found ++ y.0, y.1)) × BranchesFrom b next limit k y
  pub back : (k : states.State) (y : List Branch × Option Script) → BranchesFrom b next 64 k y → BranchesFrom b s 64 k (found ++ y.0, y.1)

pub branches_none : (b : List ℕ) (s : State) → BranchesFound b s [] s
branches_none b s = record { forth = λ limit k x l. (x, refl, l); back = λ k y l. l }

module _ (b : List ℕ) (s next : State) (found : List Branch) (h : BranchesFound b s found next) where
  pub branches_refused : (e : Refusal) → Refused b (BranchFrom b next) e → Refused b (BranchesFrom b s) e
  branches_refused e none = refused_by b (BranchFrom b next) (BranchesFrom b s) e
      (λ limit k x l.
      let y = h.forth limit k x l in
      let f = branches_at next refl y.2 in
      (f.0, f.1, f.4, else_count f.5)) none

  module _ (x : Branch) (u : State) (one : One (BranchFrom b next) (here u) x) where
    pub branches_more : lead_at b First u.at ≡ lead.Reserved word.Elif → BranchesFound b s (found ++ x ∷ []) (behind_reserved b word.Elif u)
    branches_more more = record {
      forth = λ limit k z l.
          let y = h.forth limit k z l in
          let f = branches_at next refl y.2 in
          let p = one.only limit f.0 f.1 f.4 in
          let rest = elif_of more (subst (λ q. ReadsElse limit b unread q k f.2 y.0.1) p.0 f.5) in
          let these : y.0.0 ≡ x ∷ f.2 = f.3 ∙ ap (λ d. d ∷ f.2) p.1 in
          let all : found ++ y.0.0 ≡ (found ++ x ∷ []) ++ f.2 = ap (λ d. found ++ d) these ∙ sym (append_assoc found (x ∷ []) f.2) in
          ((f.2, y.0.1), y.1 ∙ ap (λ d. (d, y.0.1)) all, rest);
      back = λ k y l.
          let rest = branches_made next one.reads (r.elif {s = here u} more l) in
          subst (λ d. ReadsBranches 64 b unread (here s) k d y.1) (sym (append_assoc found (x ∷ []) y.0)) (h.back k (x ∷ y.0, y.1) rest);
    }

    module _ (last : lead_at b First u.at ≡ lead.Reserved word.Elif → ⊥) where
      pub last_refused : (e : Refusal) → Refused b (OtherwiseFrom b u) e → Refused b (BranchesFrom b s) e
      last_refused e none = refused_by b (OtherwiseFrom b u) (BranchesFrom b s) e
          (λ limit k z l.
          let y = h.forth limit k z l in
          let f = branches_at next refl y.2 in
          let p = one.only limit f.0 f.1 f.4 in
          let rest = subst (λ q. ReadsElse limit b unread q k f.2 y.0.1) p.0 f.5 in
          (k, y.0.1, subst (λ d. ReadsElse limit b unread (here u) k d y.0.1) (ended_of last rest) rest, omega arith)) none

      pub branches_read : (o : Option Script) (v : State) → One (OtherwiseFrom b u) (here v) o → One (BranchesFrom b s) (here v) (found ++ x ∷ [], o)
      branches_read o v end = record {
        reads = h.back (here v) (x ∷ [], o) (branches_made next one.reads end.reads);
        only = λ limit k z l.
            let y = h.forth limit k z l in
            let f = branches_at next refl y.2 in
            let p = one.only limit f.0 f.1 f.4 in
            let rest = subst (λ q. ReadsElse limit b unread q k f.2 y.0.1) p.0 f.5 in
            let none = ended_of last rest in
            let e = end.only limit k y.0.1 (subst (λ d. ReadsElse limit b unread (here u) k d y.0.1) none rest) in
            let these : y.0.0 ≡ x ∷ [] = f.3 ∙ ap (λ d. d ∷ f.2) p.1 ∙ ap (λ d. x ∷ d) none in
            (e.0, y.1 ∙ ap (λ d. (found ++ d, y.0.1)) these ∙ ap (λ d. (found ++ x ∷ [], d)) e.1);
      }

-- `if`

abbrev CondOf : ℕ → List ℕ → (ℕ → Document) → states.State → states.State → Kind → Type 0
CondOf limit b body s v x =
    (u : states.State) × (bs : List Branch) × (o : Option Script) × ReadsBranches limit b body (lower (behind_token b (codes "if") s)) u bs o × (v ≡ as_deep s u) × (x ≡ kind.Cond bs o)

cond_of : {limit : ℕ} {b : List ℕ} {body : ℕ → Document} {s v : states.State} {x : Kind} (l : Lead) → l ≡ lead.Reserved word.If → ReadsCompound limit b body l s v x
    → CondOf limit b body s v x
cond_of l is (r.cond {u = u} {bs = bs} {o = o} d h) = (u, bs, o, h, refl, refl)
cond_of l is (r.group d h e) = cc
cond_of l is (r.subshell d h e) = cc
cond_of l is (r.while_loop d h g) = cc
cond_of l is (r.until_loop d h g) = cc
cond_of l is (r.for_loop d n h g) = cc
cond_of l is (r.case_of d i w h k g c) = cc

module _ (b : List ℕ) (s : State) (below : s.depth < 64) where
  pub cond_refused : (e : Refusal) → Refused b (BranchesFrom b (entered b word.If s)) e → Refused b (CompoundFrom b (lead.Reserved word.If) s) e
  cond_refused e h = refused_by b (BranchesFrom b (entered b word.If s)) (CompoundFrom b (lead.Reserved word.If) s) e
      (λ limit v k l. let f = cond_of _ refl l in let same = ap (λ z. z.spot.count) f.4 in (f.0, (f.1, f.2), f.3, omega arith)) h

  pub cond_read : (bs : List Branch) (o : Option Script) (v : State) → One (BranchesFrom b (entered b word.If s)) (here v) (bs, o)
      → One (CompoundFrom b (lead.Reserved word.If) s) (as_deep (here s) (here v)) (kind.Cond bs o)
  cond_read bs o v h = record {
    reads = r.cond {s = here s} below h.reads;
    only = λ limit w k l.
        let f = cond_of _ refl l in
        let p = h.only limit f.0 (f.1, f.2) f.3 in
        (f.4 ∙ ap (λ z. as_deep (here s) z) p.0, f.5 ∙ ap (λ y. kind.Cond y.0 y.1) p.1);
  }
