-- The tokens of commands at a place of a text are those at the start of what is there.
use Rattle.std.proofs.Common.{◌≡◌, ℕ, zero, suc, ◌+◌, ◌==◌, Bool, true, false, ◌&&◌, List, [], ◌∷◌, ◌++◌, length, drop, replicate, refl, sym, ap, ◌∙◌, arith, cond}
use Rattle.std.proofs.lemmas.Bool.{cond-true, cond-false}
use Rattle.std.proofs.lemmas.List.{drop-drop, drop_at}
use Rattle.sh_copies.proofs.Leads.{lead_front}
use Rattle.sh_tree.specs.declared.token.command.Stage.{Stage}
use Rattle.sh_tree.specs.standard.language.Bytes.{is_blank, is_newline, is_backslash, is_first}
use Rattle.sh_tree.specs.standard.language.Commands.{gap_length, comment_length, blank_length, blanks, lead_at}

-- the token at or after the start of a text
abbrev pub front : List ℕ → List ℕ
front cs = drop (blank_length false cs) cs

-- after a text that is at i
pub off : (b : List ℕ) (i : ℕ) (w cs : List ℕ) → drop i b ≡ w ++ cs → drop (i + length w) b ≡ cs
off b i w cs e = sym (drop-drop (length w) i b) ∙ ap (drop (length w)) e ∙ drop_at w cs (length w) refl

pub one_off : (b : List ℕ) (i : ℕ) {c : ℕ} {cs : List ℕ} → drop i b ≡ c ∷ cs → drop (i + 1) b ≡ cs
one_off b i e = sym (drop-drop 1 i b) ∙ ap (drop 1) e

-- at the token at or after i
pub fronted : (b : List ℕ) (i : ℕ) (cs : List ℕ) → drop i b ≡ cs → drop (blanks false b i) b ≡ front cs
unfolding blanks
fronted b i cs e = sym (drop-drop (blank_length false (drop i b)) i b) ∙ ap front e

-- how far the token is after so many bytes of blanks
abbrev over : ℕ → List ℕ → ℕ
over g cs = cond (is_first (λ c. c == 35) (drop g cs)) (g + comment_length (drop g cs)) g

over_is : (cs : List ℕ) → blank_length false cs ≡ over (gap_length cs) cs
unfolding blank_length
over_is cs = ap (λ t. cond t (gap_length cs + comment_length (drop (gap_length cs) cs)) (gap_length cs)) (and_true (is_first (λ c. c == 35) (drop (gap_length cs) cs)))
  where
    and_true : (t : Bool) → (t && true) ≡ t
    and_true true = refl
    and_true false = refl

over_one : (c g : ℕ) (cs : List ℕ) → drop (over (suc g) (c ∷ cs)) (c ∷ cs) ≡ drop (over g cs) cs
over_one c g cs = go (is_first (λ c. c == 35) (drop g cs)) (comment_length (drop g cs))
  where
    go : (t : Bool) (m : ℕ) → drop (cond t (suc g + m) (suc g)) (c ∷ cs) ≡ drop (cond t (g + m) g) cs
    go true m = let n : suc g + m ≡ suc (g + m) = omega arith in ap (λ k. drop k (c ∷ cs)) n
    go false m = refl

blank_gap : (c : ℕ) (cs : List ℕ) → is_blank c ≡ true → gap_length (c ∷ cs) ≡ suc (gap_length cs)
unfolding gap_length
blank_gap c [] is = cond-true _ _ _ is
blank_gap c (d ∷ cs) is = cond-true _ _ _ is ∙ omega arith

no_gap : (c : ℕ) (cs : List ℕ) → is_blank c ≡ false → is_backslash c ≡ false → gap_length (c ∷ cs) ≡ 0
unfolding gap_length
no_gap c [] k l = cond-false _ _ _ k
no_gap c (d ∷ cs) k l = cond-false _ _ _ k ∙ ap (λ t. cond (t && is_newline d) (2 + gap_length cs) 0) l

-- a blank before a token
pub front_blank : (c : ℕ) (cs : List ℕ) → is_blank c ≡ true → front (c ∷ cs) ≡ front cs
front_blank c cs is =
    ap (λ n. drop n (c ∷ cs)) (over_is (c ∷ cs) ∙ ap (λ g. over g (c ∷ cs)) (blank_gap c cs is)) ∙ over_one c (gap_length cs) cs
    ∙ ap (λ n. drop n cs) (sym (over_is cs))

-- no blank, no line continuation and no comment
pub front_none : (c : ℕ) (cs : List ℕ) → is_blank c ≡ false → is_backslash c ≡ false → (c == 35) ≡ false → front (c ∷ cs) ≡ c ∷ cs
unfolding is_first
front_none c cs k l m =
    ap (λ n. drop n (c ∷ cs)) (over_is (c ∷ cs) ∙ ap (λ g. over g (c ∷ cs)) (no_gap c cs k l) ∙ cond-false _ _ _ m)

pub front_tabs : (d : ℕ) (cs : List ℕ) → front (replicate d 9 ++ cs) ≡ front cs
front_tabs zero cs = refl
front_tabs (suc d) cs = front_blank 9 (replicate d 9 ++ cs) refl ∙ front_tabs d cs

pub lead_there : (b : List ℕ) (g : Stage) (i : ℕ) (cs : List ℕ) → drop i b ≡ cs → lead_at b g i ≡ lead_at cs g 0
lead_there b g i cs e = lead_front b g i ∙ ap (λ t. lead_at t g 0) e
