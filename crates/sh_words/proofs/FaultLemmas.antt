-- What is reported if a word cannot go on is at a place of the text.
use Rattle.std.proofs.Common.{◌≡◌, ℕ, ◌-◌, ◌<◌, ◌≤◌, Bool, true, false, ◌&&◌, cond, List, [], ◌∷◌, length, Option, refl, sym}
use Rattle.std.specs.Prelude.{is_some}
use Rattle.std.proofs.lemmas.Bool.{true≢false, and_parts, cond-false}
use Rattle.sh_tree.specs.declared.refusal.Form.TheVariants.{BackquoteInside}
use Rattle.sh_tree.specs.declared.refusal.Refusal.{Refusal}
use Rattle.sh_tree.specs.declared.refusal.Refusal.TheVariants.{Syntax, LeftOut}
use Rattle.sh_tree.specs.declared.tree.CommandStyle.TheVariants.{Backquote}
use Rattle.sh_tree.specs.declared.token.word.Sign.{Sign}
use Rattle.sh_tree.specs.declared.token.word.Sign.TheVariants as sign
use Rattle.sh_tree.specs.standard.language.Substitutions.{closes}
use Rattle.sh_scan.specs.Moves.{refuses}
use Rattle.sh_words.specs.declared.frames.Frame.{Frame}
use Rattle.sh_words.specs.declared.frames.Frame.TheVariants as frame
use Rattle.sh_words.specs.Clauses.{Never, Refuses}
use Rattle.sh_words.specs.Faults.{IsFault, IsReported, is_met, left_open, no_part, reported}
use Rattle.sh_words.specs.Rest.{Leftover}
use Rattle.sh_words.specs.Sound.{Deep}
use Rattle.sh_words.proofs.EndLemmas.{closes_inside}

pub left_open_is_fault : (b : List ℕ) (n i : ℕ) (fs : List Frame) → i ≤ length b → Deep b n fs → IsFault b (left_open fs i)
unfolding left_open
left_open_is_fault b n i [] inside deep = inside
left_open_is_fault b n i (frame.Opened h depth start begin o ∷ fs) inside deep = deep.2
left_open_is_fault b n i (frame.Operation f ∷ fs) inside deep = inside

pub no_part_is_fault : (b : List ℕ) (n start end : ℕ) (fs : List Frame) (s : Sign) → start ≤ length b → end ≤ length b → (refuses s ≡ true → end < length b) → Deep b n fs
    → IsFault b (no_part fs s start end)
unfolding no_part
no_part_is_fault b n start end fs (sign.Fault f) inside within refused deep = within
no_part_is_fault b n start end fs (sign.LeftOut f) inside within refused deep = refused refl
no_part_is_fault b n start end fs sign.Open inside within refused deep = left_open_is_fault b n start fs inside deep
no_part_is_fault b n start end fs _ inside within refused deep = inside

-- What is reported of a refusal

never_of : (b : List ℕ) (old : Leftover) (i : ℕ) (e : Refusal) → is_met b i e ≡ true → Refuses b old e → Never old
unfolding is_met
never_of b old i (Syntax f at) is h = h.1
never_of b old i (LeftOut f at) is h = h.1
never_of b old i _ is h = absurd (true≢false (sym is))

pub reported_refuses : (inside : Option Bool) (b : List ℕ) (old : Leftover) (e : Refusal) → Refuses b old e → Refuses b old (reported inside b e)
unfolding reported
reported_refuses inside b old e h = go (is_some inside && closes Backquote b (length b - 1) && is_met b (length b - 1) e) refl
  where
    go : (t : Bool) → (is_some inside && closes Backquote b (length b - 1) && is_met b (length b - 1) e) ≡ t → Refuses b old (cond t (LeftOut BackquoteInside (length b - 1)) e)
    go true is =
        let both = and_parts _ _ is in
        (closes_inside b (length b - 1) (and_parts _ _ both.0).1, never_of b old (length b - 1) e both.1 h)
    go false is = h

pub reported_stays : (inside : Option Bool) (b : List ℕ) (e : Refusal) → IsReported inside b (reported inside b e)
unfolding reported
reported_stays inside b e = go (is_some inside && closes Backquote b (length b - 1) && is_met b (length b - 1) e) refl
  where
    last : (t : Bool) → cond t (LeftOut BackquoteInside (length b - 1)) (LeftOut BackquoteInside (length b - 1)) ≡ LeftOut BackquoteInside (length b - 1)
    last true = refl
    last false = refl

    go : (t : Bool) → (is_some inside && closes Backquote b (length b - 1) && is_met b (length b - 1) e) ≡ t
        → cond t (LeftOut BackquoteInside (length b - 1)) e ≡ reported inside b (cond t (LeftOut BackquoteInside (length b - 1)) e)
    go true is = sym (last _)
    go false is = sym (cond-false _ _ _ is)
