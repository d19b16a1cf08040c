-- The backquote that closes, and backslashes before it.
use Rattle.std.proofs.Common.{◌≡◌, ℕ, ◌+◌, ◌<◌, ◌≤◌, Bool, true, false, ◌||◌, List, length, drop, Some, None, sym, ap, ◌∙◌, arith, length-drop, ⊎_elim}
use Rattle.std.proofs.Math.Nat.{eq-or-lt_of_le}
use Rattle.std.proofs.lemmas.List.{at_drop_more, at_drop_all}
use Rattle.memchr.specs.Find.{IsFirstByte, is_byte}
use Rattle.sh_tree.specs.standard.language.Bytes.{run}
use Rattle.sh_tree.specs.standard.language.Substitutions.{no_backquote, backquote_end, has_removed_backslash}
use Rattle.sh_scan.specs.Backquotes.{is_kept_first, IsFirstKept}
use Rattle.sh_scan.proofs.RunLemmas.{run_without, run_before}
use Rattle.sh_scan.proofs.StepLemmas.{behind, behind_is}

pub no_backquote_behind : (b : List ℕ) (e : ℕ) → e ≤ length b → IsFirstByte (is_byte 96) (behind b e) None → length b < backquote_end b e
no_backquote_behind b e inside none =
    let all : run no_backquote (drop e b) ≡ length (drop e b) = ap (run no_backquote) (sym (behind_is b e)) ∙ run_without 96 (behind b e) none ∙ ap length (behind_is b e) in
    omega (arith, all, length-drop e b)

pub backquote_behind : (b : List ℕ) (e k : ℕ) → IsFirstByte (is_byte 96) (behind b e) (Some k) → e + k + 1 ≡ backquote_end b e
backquote_behind b e k found =
    let before : run no_backquote (drop e b) ≡ k = ap (run no_backquote) (sym (behind_is b e)) ∙ run_before 96 (behind b e) k found in
    omega arith

-- none of the first n bytes is a backslash that goes before the commands are read
pub record Unkept (quoted : Bool) (cs : List ℕ) (n : ℕ) : Type 0 where
  pub before : (k : ℕ) → k < n → is_kept_first quoted (drop k cs) ≡ false
  pub rest : has_removed_backslash quoted cs ≡ has_removed_backslash quoted (drop n cs)

module _ (quoted : Bool) (cs : List ℕ) (n : ℕ) (so : Unkept quoted cs n) where
  module _ (inside : n < length cs) (t : Bool) (here : t ≡ is_kept_first quoted (behind cs n)) where
    first_so : is_kept_first quoted (drop n cs) ≡ t
    first_so = ap (is_kept_first quoted) (sym (behind_is cs n)) ∙ sym here

    has_so : has_removed_backslash quoted cs ≡ (t || has_removed_backslash quoted (drop (n + 1) cs))
    unfolding has_removed_backslash is_kept_first
    has_so =
        so.rest ∙ at_drop_more (has_removed_backslash quoted) cs n 0 inside
        ∙ ap (λ v. v || has_removed_backslash quoted (drop (n + 1) cs)) (sym (at_drop_more (is_kept_first quoted) cs n 0 inside) ∙ first_so)

    pub kept_found : t ≡ true → true ≡ has_removed_backslash quoted cs
    kept_found is = sym (has_so ∙ ap (λ v. v || has_removed_backslash quoted (drop (n + 1) cs)) is)

    pub kept_first : t ≡ true → IsFirstKept quoted cs n
    kept_first is = (first_so ∙ is, so.before)

    pub kept_goes : t ≡ false → Unkept quoted cs (n + 1)
    kept_goes other = record {
      before = λ k below. ⊎_elim
          (λ same. ap (λ i. is_kept_first quoted (drop i cs)) same ∙ first_so ∙ other)
          (λ less. so.before k less)
          (eq-or-lt_of_le (let le : k ≤ n = omega arith in le));
      rest = has_so ∙ ap (λ v. v || has_removed_backslash quoted (drop (n + 1) cs)) other;
    }

  pub kept_none : length cs ≤ n → false ≡ has_removed_backslash quoted cs
  unfolding has_removed_backslash
  kept_none ended = sym (so.rest ∙ at_drop_all (has_removed_backslash quoted) cs n ended)
