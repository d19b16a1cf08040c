-- Lines of here-documents that are read in two ways, by what was asked of them.
use Rattle.std.proofs.Common.{◌≡◌, ℕ, ◌+◌, ◌<◌, Bool, true, false, not, ◌&&◌, ◌||◌, ◌-◌, List, length, drop, refl, sym, ap, subst, ◌∙◌, arith, length-take, length-drop}
use Rattle.std.proofs.lemmas.Bool.{true≢false}
use Rattle.sh_tree.specs.standard.Tree.{text_of}
use Rattle.sh_tree.specs.declared.tree.Span.{Span}
use Rattle.sh_tree.specs.standard.language.Bytes.{is_first, is_tab}
use Rattle.sh_tree.specs.standard.language.HereDocuments.{begins_late, behind_line, has_joined, has_tabbed_line, is_split_text, keeps_document}
use Rattle.sh_tree.specs.standard.language.Trees.{span}
use Rattle.sh_grammar.specs.declared.mark.Mark.{Mark}
use Rattle.sh_grammar.specs.declared.state.State.{State}
use Rattle.sh_grammar.specs.Documents.{IsKept}

-- Over plain variables

told_split : (x t r : Bool) → true ≡ (x && t) → ((not x || not t) && r) ≡ true → ⊥
told_split true true r h k = true≢false (sym k)
told_split true false r h k = true≢false h
told_split false t r h k = true≢false h

told_tabbed : (l x s t : Bool) → true ≡ ((x && not s) && t) → (l && (not x || s || not t)) ≡ true → ⊥
told_tabbed true true false true h k = true≢false (sym k)
told_tabbed false true false true h k = true≢false (sym k)
told_tabbed l true false false h k = true≢false h
told_tabbed l true true t h k = true≢false h
told_tabbed l false s t h k = true≢false h

joined_kept : (x t : Bool) → false ≡ (x && t) → (not x || not t) ≡ true
joined_kept false t h = refl
joined_kept true false h = refl
joined_kept true true h = absurd (true≢false (sym h))

tabs_kept : (x s t : Bool) → false ≡ ((x && not s) && t) → (not x || s || not t) ≡ true
tabs_kept false s t h = refl
tabs_kept true true t h = refl
tabs_kept true false false h = refl
tabs_kept true false true h = absurd (true≢false (sym h))

told_either : (p q : Bool) → true ≡ p → (p || q) ≡ false → ⊥
told_either true q h k = true≢false k
told_either false q h k = true≢false h

told_other : (p q : Bool) → true ≡ q → (p || q) ≡ false → ⊥
told_other true q h k = true≢false k
told_other false q h k = true≢false (h ∙ k)

neither : (p q : Bool) → false ≡ p → false ≡ q → (p || q) ≡ false
neither false q h k = sym k
neither true q h k = absurd (true≢false (sym h))

both : (p q : Bool) → p ≡ true → q ≡ true → (p && q) ≡ true
both true q h k = k
both false q h k = h

-- what was asked for, and of which text
pub asked_of : (p : List ℕ → Bool) (told asked whether : Bool) (t u : List ℕ) → told ≡ (asked && p t) → asked ≡ whether → t ≡ u → told ≡ (whether && p u)
asked_of p told asked whether t u is same text = is ∙ ap (λ a. a && p t) same ∙ ap (λ x. whether && p x) text

-- places

pub text_inside : (b t : List ℕ) (i e at : ℕ) → t ≡ text_of b (span i e) → at < length t → i + at < length b
text_inside b t i e at is within =
    let below : at < length (text_of b (span i e)) = subst (λ x. at < length x) is within in
    omega (arith, length-take (e - i) (drop i b), length-drop i b)

-- after a line continuation
pub behind_joined : (b t : List ℕ) (i e at : ℕ) → t ≡ text_of b (span i e) → at + 1 < length t → e < length b → i + at + 2 < length b
behind_joined b t i e at is within below =
    let inside : at + 1 < length (text_of b (span i e)) = subst (λ x. at + 1 < length x) is within in
    omega (arith, length-take (e - i) (drop i b), length-drop i b)

-- What the checks say

module _ (b : List ℕ) (m : Mark) (s : State) (l : Span) where
  abbrev lines : List ℕ
  lines = text_of b (span s.at (behind_line b l.end))

  abbrev tabbed : Bool
  tabbed = (m.strip && not m.quoted) && has_joined (is_first is_tab) (text_of b (span s.at l.start))

  abbrev late : Bool
  late = (not m.quoted && begins_late (text_of b l)) && is_split_text (text_of b l)

  pub ambiguous_told : true ≡ tabbed → IsKept b m s l → ⊥
  ambiguous_told h k = told_either tabbed late h k.plain

  pub late_told : true ≡ late → IsKept b m s l → ⊥
  late_told h k = told_other tabbed late h k.plain

  pub split_told : true ≡ ((s.joins && m.quoted) && is_split_text lines) → IsKept b m s l → ⊥
  unfolding keeps_document
  split_told h k = told_split (s.joins && m.quoted) (is_split_text lines) (not s.tabs || m.strip || not (has_tabbed_line true lines)) h k.kept

  pub tabbed_told : true ≡ ((s.tabs && not m.strip) && has_tabbed_line true lines) → IsKept b m s l → ⊥
  unfolding keeps_document
  tabbed_told h k = told_tabbed (not (s.joins && m.quoted) || not (is_split_text lines)) s.tabs m.strip (has_tabbed_line true lines) h k.kept

  pub lines_kept : false ≡ tabbed → false ≡ ((s.joins && m.quoted) && is_split_text lines) → false ≡ ((s.tabs && not m.strip) && has_tabbed_line true lines) → false ≡ late
      → IsKept b m s l
  unfolding keeps_document
  lines_kept ambiguous split stripped end = record {
    plain = neither tabbed late ambiguous end;
    kept = both _ _ (joined_kept (s.joins && m.quoted) (is_split_text lines) split) (tabs_kept s.tabs m.strip (has_tabbed_line true lines) stripped);
  }
