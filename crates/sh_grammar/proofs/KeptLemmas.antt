-- Line continuations, tabs and single quotes in bodies.
use Rattle.std.proofs.Common.{◌≡◌, ℕ, suc, ◌+◌, ◌<◌, ◌≤◌, Bool, true, false, not, ◌&&◌, ◌||◌, List, [], ◌∷◌, ◌++◌, length, drop, get_or, Option, Some, None, option_map, refl, sym, ap, subst, ◌∙◌, arith, length-drop}
use Rattle.std.proofs.Math.Seq.{drop-cons}
use Rattle.std.specs.Option.{option_or}
use Rattle.std.proofs.lemmas.Bool.{cond-true, cond-false, eqb-true, false_from_ne_true, true≢false}
use Rattle.std.proofs.lemmas.List.{drop-drop, drop_all}
use Rattle.sh_tree.specs.standard.Tree.{text_of}
use Rattle.sh_tree.specs.declared.tree.Span.{Span}
use Rattle.sh_tree.specs.standard.language.Bytes.{is_newline, is_tab, is_backslash, is_first}
use Rattle.sh_tree.specs.standard.language.HereDocuments.{has_joined, has_tabbed_line, is_split_text}
use Rattle.sh_grammar.specs.Lines.{joined_step, is_joined, first_joined}
use Rattle.sh_grammar.specs.Quotes.{SplitsIn, all_kept}

-- Tabs

pub tab_is : (c : ℕ) → c ≡ 9 → is_tab c ≡ true
tab_is c is = ap is_tab is

pub tab_not : (c : ℕ) → (c ≡ 9 → ⊥) → is_tab c ≡ false
tab_not c other = false_from_ne_true (is_tab c) (λ h. other (eqb-true c 9 h))

-- Line continuations

abbrev before : Bool → List ℕ → Bool
before tabbed rest = not tabbed || is_first is_tab rest

-- a text has a line continuation at its front, or further on, or there is no room for one
record JoinedFrom (tabbed : Bool) (cs : List ℕ) : Type 0 where
  more : 0 < joined_step cs → is_joined tabbed cs ≡ false → has_joined (before tabbed) cs ≡ has_joined (before tabbed) (drop (joined_step cs) cs)
  none : joined_step cs ≡ 0 → has_joined (before tabbed) cs ≡ false
  here : is_joined tabbed cs ≡ true → has_joined (before tabbed) cs ≡ true
  first_more : 0 < joined_step cs → is_joined tabbed cs ≡ false
      → first_joined (before tabbed) cs ≡ option_map (λ n. n + joined_step cs) (first_joined (before tabbed) (drop (joined_step cs) cs))
  first_none : joined_step cs ≡ 0 → first_joined (before tabbed) cs ≡ None
  first_here : is_joined tabbed cs ≡ true → first_joined (before tabbed) cs ≡ Some 0
  room : is_joined tabbed cs ≡ true → 1 < length cs

joined_from : (tabbed : Bool) (cs : List ℕ) → JoinedFrom tabbed cs
unfolding joined_step is_joined has_joined first_joined
joined_from tabbed [] = record {
  more = λ some other. absurd (omega arith);
  none = λ z. refl;
  here = λ h. cc;
  first_more = λ some other. absurd (omega arith);
  first_none = λ z. refl;
  first_here = λ h. cc;
  room = λ h. cc;
}
joined_from tabbed (c ∷ []) = record {
  more = λ some other. absurd (omega arith);
  none = λ z. refl;
  here = λ h. cc;
  first_more = λ some other. absurd (omega arith);
  first_none = λ z. refl;
  first_here = λ h. cc;
  room = λ h. cc;
}
joined_from tabbed (c ∷ d ∷ cs) = go (is_backslash c) refl (is_newline d && before tabbed cs) refl
  where
    go : (t : Bool) → is_backslash c ≡ t → (u : Bool) → (is_newline d && before tabbed cs) ≡ u → JoinedFrom tabbed (c ∷ d ∷ cs)
    go true e u f = record {
      more = λ some other.
          let none : u ≡ false = sym f ∙ sym (ap (λ v. v && (is_newline d && before tabbed cs)) e) ∙ other in
          cond-true _ _ _ e ∙ ap (λ v. v || has_joined (before tabbed) cs) (f ∙ none) ∙ sym (ap (λ k. has_joined (before tabbed) (drop k (c ∷ d ∷ cs))) (cond-true _ _ _ e));
      none = λ z. let two : joined_step (c ∷ d ∷ cs) ≡ 2 = cond-true _ _ _ e in absurd (omega arith);
      here = λ h.
          let so : (is_newline d && before tabbed cs) ≡ true = sym (ap (λ v. v && (is_newline d && before tabbed cs)) e) ∙ h in
          cond-true _ _ _ e ∙ ap (λ v. v || has_joined (before tabbed) cs) so;
      first_more = λ some other.
          let none : (is_newline d && before tabbed cs) ≡ false = sym (ap (λ v. v && (is_newline d && before tabbed cs)) e) ∙ other in
          cond-true _ _ _ e ∙ cond-false _ _ _ none ∙ sym (ap (λ k. option_map (λ n. n + k) (first_joined (before tabbed) (drop k (c ∷ d ∷ cs)))) (cond-true _ _ _ e));
      first_none = λ z. let two : joined_step (c ∷ d ∷ cs) ≡ 2 = cond-true _ _ _ e in absurd (omega arith);
      first_here = λ h.
          let so : (is_newline d && before tabbed cs) ≡ true = sym (ap (λ v. v && (is_newline d && before tabbed cs)) e) ∙ h in
          cond-true _ _ _ e ∙ cond-true _ _ _ so;
      room = λ h. omega arith;
    }
    go false e u f = record {
      more = λ some other. cond-false _ _ _ e ∙ sym (ap (λ k. has_joined (before tabbed) (drop k (c ∷ d ∷ cs))) (cond-false _ _ _ e));
      none = λ z. let one : joined_step (c ∷ d ∷ cs) ≡ 1 = cond-false _ _ _ e in absurd (omega arith);
      here = λ h. absurd (true≢false (sym h ∙ ap (λ v. v && (is_newline d && before tabbed cs)) e));
      first_more = λ some other. cond-false _ _ _ e ∙ sym (ap (λ k. option_map (λ n. n + k) (first_joined (before tabbed) (drop k (c ∷ d ∷ cs)))) (cond-false _ _ _ e));
      first_none = λ z. let one : joined_step (c ∷ d ∷ cs) ≡ 1 = cond-false _ _ _ e in absurd (omega arith);
      first_here = λ h. absurd (true≢false (sym h ∙ ap (λ v. v && (is_newline d && before tabbed cs)) e));
      room = λ h. omega arith;
    }

-- what is looked for is from i on, if it is in the text
pub record JoinedLeft (tabbed : Bool) (text : List ℕ) (i : ℕ) : Type 0 where
  pub same : has_joined (before tabbed) (drop i text) ≡ has_joined (before tabbed) text
  pub first : first_joined (before tabbed) text ≡ option_map (λ n. n + i) (first_joined (before tabbed) (drop i text))
  pub within : i ≤ length text

further_twice : (i k : ℕ) (o : Option ℕ) → option_map (λ n. n + i) (option_map (λ n. n + k) o) ≡ option_map (λ n. n + (i + k)) o
further_twice i k None = refl
further_twice i k (Some n) = let same : n + k + i ≡ n + (i + k) = omega arith in ap (λ m. Some m) same

pub joined_goes_on : (tabbed : Bool) (text : List ℕ) (i : ℕ) → JoinedLeft tabbed text i → 0 < joined_step (drop i text) → is_joined tabbed (drop i text) ≡ false
    → i + joined_step (drop i text) ≤ length text → JoinedLeft tabbed text (i + joined_step (drop i text))
joined_goes_on tabbed text i h some other within = record {
  same = ap (λ cs. has_joined (before tabbed) cs) (sym (drop-drop (joined_step (drop i text)) i text)) ∙ sym ((joined_from tabbed (drop i text)).more some other) ∙ h.same;
  first =
      h.first ∙ ap (λ o. option_map (λ n. n + i) o) ((joined_from tabbed (drop i text)).first_more some other) ∙ further_twice i (joined_step (drop i text)) _
      ∙ ap (λ cs. option_map (λ n. n + (i + joined_step (drop i text))) (first_joined (before tabbed) cs)) (drop-drop (joined_step (drop i text)) i text);
  within = within;
}

pub joined_on : (tabbed : Bool) (text : List ℕ) (i step : ℕ) → JoinedLeft tabbed text i → step ≡ joined_step (drop i text) → 0 < step → is_joined tabbed (drop i text) ≡ false
    → i + step ≤ length text → JoinedLeft tabbed text (i + step)
joined_on tabbed text i step h is some other within =
    rw is (joined_goes_on tabbed text i h (subst (λ n. 0 < n) is some) other (subst (λ n. i + n ≤ length text) is within))

pub joined_ends : (tabbed : Bool) (text : List ℕ) (i : ℕ) → JoinedLeft tabbed text i → joined_step (drop i text) ≡ 0 → false ≡ has_joined (before tabbed) text
joined_ends tabbed text i h none = sym ((joined_from tabbed (drop i text)).none none) ∙ h.same

pub joined_found : (tabbed : Bool) (text : List ℕ) (i : ℕ) → JoinedLeft tabbed text i → is_joined tabbed (drop i text) ≡ true → true ≡ has_joined (before tabbed) text
joined_found tabbed text i h is = sym ((joined_from tabbed (drop i text)).here is) ∙ h.same

pub joined_nowhere : (tabbed : Bool) (text : List ℕ) (i : ℕ) → JoinedLeft tabbed text i → joined_step (drop i text) ≡ 0 → None ≡ first_joined (before tabbed) text
joined_nowhere tabbed text i h none = sym (h.first ∙ ap (λ o. option_map (λ n. n + i) o) ((joined_from tabbed (drop i text)).first_none none))

pub joined_first : (tabbed : Bool) (text : List ℕ) (i : ℕ) → JoinedLeft tabbed text i → is_joined tabbed (drop i text) ≡ true → Some i ≡ first_joined (before tabbed) text
joined_first tabbed text i h is =
    let here : i ≡ 0 + i = omega arith in
    ap (λ n. Some n) here ∙ sym (h.first ∙ ap (λ o. option_map (λ n. n + i) o) ((joined_from tabbed (drop i text)).first_here is))

pub joined_room : (tabbed : Bool) (text : List ℕ) (i : ℕ) → is_joined tabbed (drop i text) ≡ true → i + 1 < length text
joined_room tabbed text i is = let room = (joined_from tabbed (drop i text)).room is in omega (arith, length-drop i text)

-- Lines that begin with a tab

pub record TabbedLeft (text : List ℕ) (begins : Bool) (i : ℕ) : Type 0 where
  pub same : has_tabbed_line begins (drop i text) ≡ has_tabbed_line true text
  pub within : i ≤ length text

module _ (text : List ℕ) (begins : Bool) (i : ℕ) (h : TabbedLeft text begins i) where
  pub tabbed_ends : length text ≤ i → false ≡ has_tabbed_line true text
  unfolding has_tabbed_line
  tabbed_ends over = ap (λ cs. has_tabbed_line begins cs) (sym (drop_all i text over)) ∙ h.same

  module _ (c : ℕ) (below : i < length text) (is : c ≡ get_or text i 0) where
    first : has_tabbed_line true text ≡ ((begins && is_tab c) || has_tabbed_line (is_newline c) (drop (i + 1) text))
    unfolding has_tabbed_line
    first =
        let at : suc i ≡ i + 1 = omega arith in
        sym h.same ∙ ap (λ cs. has_tabbed_line begins cs) (drop-cons text i 0 below ∙ ap (λ d. d ∷ drop (suc i) text) (sym is))
        ∙ ap (λ k. (begins && is_tab c) || has_tabbed_line (is_newline c) (drop k text)) at

    pub tabbed_found : begins ≡ true → is_tab c ≡ true → true ≡ has_tabbed_line true text
    tabbed_found begin tab = sym (first ∙ ap (λ v. (v && is_tab c) || has_tabbed_line (is_newline c) (drop (i + 1) text)) begin ∙ ap (λ v. v || has_tabbed_line (is_newline c) (drop (i + 1) text)) tab)

    pub tabbed_goes_on : (begins && is_tab c) ≡ false → TabbedLeft text (is_newline c) (i + 1)
    tabbed_goes_on other = record { same = sym (first ∙ ap (λ v. v || has_tabbed_line (is_newline c) (drop (i + 1) text)) other) ∙ refl; within = omega arith }

-- only what is asked for is reported
pub asked_none : (asked t : Bool) → asked ≡ false → false ≡ (asked && t)
asked_none asked t h = sym (ap (λ v. v && t) h)

-- Single quotes

-- what is true of the spans that are left is true of all
pub record Left (b : List ℕ) (rest all : List Span) : Type 0 where
  pub whole : (o : Option ℕ) → SplitsIn b rest o → SplitsIn b all o

kept_append : (b : List ℕ) (ss ts : List Span) → all_kept b (ss ++ ts) ≡ (all_kept b ss && all_kept b ts)
kept_append b [] ts = refl
kept_append b (s ∷ ss) ts = ap (λ v. not (is_split_text (text_of b s)) && v) (kept_append b ss ts) ∙ and_both (not (is_split_text (text_of b s))) (all_kept b ss) (all_kept b ts)
  where
    and_both : (x y z : Bool) → (x && (y && z)) ≡ ((x && y) && z)
    and_both true y z = refl
    and_both false y z = refl

-- where none of the first spans is split, what is true of the others is true of all
pub behind_kept : (b : List ℕ) (ss ts : List Span) (o : Option ℕ) → SplitsIn b ss None → SplitsIn b ts o → SplitsIn b (ss ++ ts) o
behind_kept b ss ts None h k = kept_append b ss ts ∙ ap (λ v. v && all_kept b ts) h ∙ k
behind_kept b ss ts (Some at) h k = (kept_append b ss ts ∙ ap (λ v. v && all_kept b ts) h ∙ k.0, k.1)

pub before_split : (b : List ℕ) (ss ts : List Span) (at : ℕ) → SplitsIn b ss (Some at) → SplitsIn b (ss ++ ts) (Some at)
before_split b ss ts at h = (kept_append b ss ts ∙ ap (λ v. v && all_kept b ts) h.0, h.1)

-- of the first of two
pub either_split : (b : List ℕ) (ss ts : List Span) (o p : Option ℕ) → SplitsIn b ss o → SplitsIn b ts p → SplitsIn b (ss ++ ts) (option_or o p)
either_split b ss ts None p h k = behind_kept b ss ts p h k
either_split b ss ts (Some at) p h k = before_split b ss ts at h
