-- Compound commands.
use Rattle.std.proofs.Common.{◌≡◌, ℕ, ◌<◌, List, [], ◌∷◌, refl, sym, ap, subst, ◌∙◌, arith}
use Rattle.sh_tree.specs.declared.token.command.Stage.TheVariants.{First}
use Rattle.sh_tree.specs.declared.token.command.Lead.{Lead}
use Rattle.sh_tree.specs.declared.token.command.Lead.TheVariants as lead
use Rattle.sh_tree.specs.declared.token.command.Operator.TheVariants as op
use Rattle.sh_tree.specs.declared.token.command.Reserved.{Reserved}
use Rattle.sh_tree.specs.declared.token.command.Reserved.TheVariants as word
use Rattle.sh_tree.specs.declared.tree.Item.{Item}
use Rattle.sh_tree.specs.declared.tree.Script.{Script, out-Script, out-roll-Script}
use Rattle.sh_tree.specs.declared.tree.Kind.{Kind}
use Rattle.sh_tree.specs.declared.tree.Kind.TheVariants as kind
use Rattle.sh_tree.specs.declared.refusal.Refusal.{Refusal}
use Rattle.sh_tree.specs.standard.language.Commands.{lead_at}
use Rattle.sh_tree.specs.standard.language.Reading as r
use Rattle.sh_tree.specs.standard.language.Reading.{ReadsItems, ReadsList, ReadsSequence, ReadsCompound, lead_here, skip}
use Rattle.sh_tree.specs.standard.language.States as states
use Rattle.sh_tree.specs.standard.language.States.{Document, lower, as_deep}
use Rattle.sh_tree.specs.standard.language.Trees as tree
use Rattle.sh_grammar.specs.declared.state.State.{State}
use Rattle.sh_grammar.specs.States.{here}
use Rattle.sh_grammar.specs.Readers.{One, Nothing, Refused, SequenceFrom, ListFrom, CompoundFrom, unread}
use Rattle.sh_grammar.specs.Brackets.{BracketFrom, inner, outer}
use Rattle.sh_grammar.proofs.ReaderLemmas.{refused_by}

-- Lists

items_some : {limit : ℕ} {b : List ℕ} {body : ℕ → Document} {s v : states.State} {is : List Item} → ReadsItems limit b body s v is → (x : Item) × (js : List Item) × (is ≡ x ∷ js)
items_some (r.last_item h n k) = (_, [], refl)
items_some (r.ended_item h n k e) = (_, [], refl)
items_some (r.more_items h n k e i) = (_, _, refl)

-- what a script holds
held : (is : List Item) → (out-Script (tree.script is)).items ≡ is
held is = ap (λ t. t.items) (out-roll-Script (record { items = is }))

nonempty : {A : Type 0} {xs ys : List A} {x : A} → xs ≡ x ∷ ys → xs ≡ [] → ⊥
nonempty {ys = ys} {x = x} some none = go (sym some ∙ none)
  where
    is_none : {A : Type 0} → List A → Type 0
    is_none [] = Unit {0}
    is_none (y ∷ ys) = ⊥

    go : x ∷ ys ≡ [] → ⊥
    go e = subst is_none (sym e) tt

list_some : {limit : ℕ} {b : List ℕ} {body : ℕ → Document} {s v : states.State} {t : Script} → ReadsList limit b body s v t → (out-Script t).items ≡ [] → ⊥
list_some (r.list {is = is} k h i) empty = let f = items_some i in nonempty f.2 (sym (held is) ∙ empty)

sequence_list : {limit : ℕ} {b : List ℕ} {body : ℕ → Document} {s v : states.State} {t : Script} → ((out-Script t).items ≡ [] → ⊥) → ReadsSequence limit b body s v t
    → ReadsList limit b body s v t
sequence_list some (r.nothing k h) = absurd (some (held []))
sequence_list some (r.sequence l) = l

pub list_refused : (b : List ℕ) (s : State) (e : Refusal) → Refused b (SequenceFrom b s) e → Refused b (ListFrom b s) e
list_refused b s e h = refused_by b (SequenceFrom b s) (ListFrom b s) e (λ limit v t l. (v, t, r.sequence l, omega arith)) h

pub list_empty : (b : List ℕ) (s : State) (t : Script) (v : State) → One (SequenceFrom b s) (here v) t → (out-Script t).items ≡ [] → Nothing (ListFrom b s)
list_empty b s t v h empty limit k y l = let o = h.only limit k y (r.sequence l) in list_some l (ap (λ x. (out-Script x).items) o.1 ∙ empty)

pub list_read : (b : List ℕ) (s : State) (t : Script) (v : State) → One (SequenceFrom b s) (here v) t → ((out-Script t).items ≡ [] → ⊥) → One (ListFrom b s) (here v) t
list_read b s t v h some = record { reads = sequence_list some h.reads; only = λ limit k y l. h.only limit k y (r.sequence l) }

-- Groups and subshells

module _ (b : List ℕ) (close : Lead) (s : State) where
  pub bracket_refused : (e : Refusal) → Refused b (ListFrom b (inner b s)) e → Refused b (BracketFrom b close s) e
  bracket_refused e h = refused_by b (ListFrom b (inner b s)) (BracketFrom b close s) e
      (λ limit v t l. let same = ap (λ w. w.spot.count) l.3 in (l.0, t, l.1, omega arith)) h

  module _ (t : Script) (u : State) (one : One (ListFrom b (inner b s)) (here u) t) where
    pub bracket_open : (lead_at b First u.at ≡ close → ⊥) → Nothing (BracketFrom b close s)
    bracket_open none limit v y l = let o = one.only limit l.0 y l.1 in none (sym (ap (λ w. lead_here b w) o.0) ∙ l.2)

    pub bracket_read : lead_at b First u.at ≡ close → One (BracketFrom b close s) (here (outer b s.depth u)) t
    bracket_read closed = record {
      reads = (here u, one.reads, closed, refl);
      only = λ limit v y l. let o = one.only limit l.0 y l.1 in (l.3 ∙ ap (λ w. as_deep (here s) (skip b 1 w)) o.0, o.1);
    }

abbrev Bracketed : ℕ → List ℕ → (ℕ → Document) → Lead → (Script → Kind) → states.State → states.State → Kind → Type 0
Bracketed limit b body close made s v k =
    (u : states.State) × (t : Script) × ReadsList limit b body (lower (skip b 1 s)) u t × (lead_here b u ≡ close) × (v ≡ as_deep s (skip b 1 u)) × (k ≡ made t)

group_of : {limit : ℕ} {b : List ℕ} {body : ℕ → Document} {s v : states.State} {k : Kind} (l : Lead) → l ≡ lead.Reserved word.LeftBrace → ReadsCompound limit b body l s v k
    → Bracketed limit b body (lead.Reserved word.RightBrace) kind.Group s v k
group_of l is (r.group {u = u} {t = t} d h e) = (u, t, h, e, refl, refl)
group_of l is (r.subshell d h e) = cc
group_of l is (r.cond d h) = cc
group_of l is (r.while_loop d h g) = cc
group_of l is (r.until_loop d h g) = cc
group_of l is (r.for_loop d n h g) = cc
group_of l is (r.case_of d i w h k g c) = cc

subshell_of : {limit : ℕ} {b : List ℕ} {body : ℕ → Document} {s v : states.State} {k : Kind} (l : Lead) → l ≡ lead.Operator op.LeftParenthesis → ReadsCompound limit b body l s v k
    → Bracketed limit b body (lead.Operator op.RightParenthesis) kind.Subshell s v k
subshell_of l is (r.group d h e) = cc
subshell_of l is (r.subshell {u = u} {t = t} d h e) = (u, t, h, e, refl, refl)
subshell_of l is (r.cond d h) = cc
subshell_of l is (r.while_loop d h g) = cc
subshell_of l is (r.until_loop d h g) = cc
subshell_of l is (r.for_loop d n h g) = cc
subshell_of l is (r.case_of d i w h k g c) = cc

module _ (b : List ℕ) (s : State) (below : s.depth < 64) where
  pub group_refused : (e : Refusal) → Refused b (BracketFrom b (lead.Reserved word.RightBrace) s) e → Refused b (CompoundFrom b (lead.Reserved word.LeftBrace) s) e
  group_refused e h = refused_by b (BracketFrom b (lead.Reserved word.RightBrace) s) (CompoundFrom b (lead.Reserved word.LeftBrace) s) e
      (λ limit v k l. let f = group_of _ refl l in (v, f.1, (f.0, f.2, f.3, f.4), omega arith)) h

  pub group_read : (t : Script) (v : State) → One (BracketFrom b (lead.Reserved word.RightBrace) s) (here v) t
      → One (CompoundFrom b (lead.Reserved word.LeftBrace) s) (here v) (kind.Group t)
  group_read t v h = record {
    reads =
        let l = h.reads in
        subst (λ w. ReadsCompound 64 b unread (lead.Reserved word.LeftBrace) (here s) w (kind.Group t)) (sym l.3) (r.group {s = here s} below l.1 l.2);
    only = λ limit w k l.
        let f = group_of _ refl l in
        let o = h.only limit w f.1 (f.0, f.2, f.3, f.4) in
        (o.0, f.5 ∙ ap kind.Group o.1);
  }

  pub subshell_refused : (e : Refusal) → Refused b (BracketFrom b (lead.Operator op.RightParenthesis) s) e → Refused b (CompoundFrom b (lead.Operator op.LeftParenthesis) s) e
  subshell_refused e h = refused_by b (BracketFrom b (lead.Operator op.RightParenthesis) s) (CompoundFrom b (lead.Operator op.LeftParenthesis) s) e
      (λ limit v k l. let f = subshell_of _ refl l in (v, f.1, (f.0, f.2, f.3, f.4), omega arith)) h

  pub subshell_read : (t : Script) (v : State) → One (BracketFrom b (lead.Operator op.RightParenthesis) s) (here v) t
      → One (CompoundFrom b (lead.Operator op.LeftParenthesis) s) (here v) (kind.Subshell t)
  subshell_read t v h = record {
    reads =
        let l = h.reads in
        subst (λ w. ReadsCompound 64 b unread (lead.Operator op.LeftParenthesis) (here s) w (kind.Subshell t)) (sym l.3) (r.subshell {s = here s} below l.1 l.2);
    only = λ limit w k l.
        let f = subshell_of _ refl l in
        let o = h.only limit w f.1 (f.0, f.2, f.3, f.4) in
        (o.0, f.5 ∙ ap kind.Subshell o.1);
  }

-- Tokens with which no compound command begins

pub other_word : {limit : ℕ} {b : List ℕ} {body : ℕ → Document} {w : Reserved} {s v : states.State} {k : Kind} → (w ≡ word.LeftBrace → ⊥) → (w ≡ word.Case → ⊥) → (w ≡ word.For → ⊥)
    → (w ≡ word.If → ⊥) → (w ≡ word.Until → ⊥) → (w ≡ word.While → ⊥) → ReadsCompound limit b body (lead.Reserved w) s v k → ⊥
other_word brace branches each condition before while (r.group d h e) = brace refl
other_word brace branches each condition before while (r.cond d h) = condition refl
other_word brace branches each condition before while (r.while_loop d h g) = while refl
other_word brace branches each condition before while (r.until_loop d h g) = before refl
other_word brace branches each condition before while (r.for_loop d n h g) = each refl
other_word brace branches each condition before while (r.case_of d i w h j g c) = branches refl

pub other_lead : {limit : ℕ} {b : List ℕ} {body : ℕ → Document} {l : Lead} {s v : states.State} {k : Kind} → ((w : Reserved) → l ≡ lead.Reserved w → ⊥)
    → (l ≡ lead.Operator op.LeftParenthesis → ⊥) → ReadsCompound limit b body l s v k → ⊥
other_lead reserved bracket (r.group d h e) = reserved word.LeftBrace refl
other_lead reserved bracket (r.subshell d h e) = bracket refl
other_lead reserved bracket (r.cond d h) = reserved word.If refl
other_lead reserved bracket (r.while_loop d h g) = reserved word.While refl
other_lead reserved bracket (r.until_loop d h g) = reserved word.Until refl
other_lead reserved bracket (r.for_loop d n h g) = reserved word.For refl
other_lead reserved bracket (r.case_of d i w h j g c) = reserved word.Case refl
