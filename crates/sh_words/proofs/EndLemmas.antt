-- Commands at the end of a text.
use Rattle.std.proofs.Common.{◌≡◌, ℕ, ◌<◌, ◌≤◌, Bool, true, List, length, drop, None, sym, ap, ◌∙◌, subst, arith, take_all, ⊎_elim}
use Rattle.std.proofs.lemmas.Bool.{true≢false, cond-true, le-leb, cases_order}
use Rattle.std.proofs.lemmas.List.{drop_all}
use Rattle.sh_tree.specs.declared.tree.CommandStyle.TheVariants.{Backquote}
use Rattle.sh_tree.specs.declared.tree.Script.{Script}
use Rattle.sh_tree.specs.declared.token.command.Lead.TheVariants as lead
use Rattle.sh_tree.specs.declared.token.command.Stage.TheVariants.{First}
use Rattle.sh_tree.specs.standard.language.Bytes.{is_last_backquote, longest}
use Rattle.sh_tree.specs.standard.language.Commands.{blanks, lead_at, lead_of, operator_of, operator, is_newline_lead, is_redirection, begins_simple, begins_compound, begins_command, begins_pipeline}
use Rattle.sh_tree.specs.standard.language.Reading.{ReadsScript}
use Rattle.sh_tree.specs.standard.language.States.{Spot, deeper}
use Rattle.sh_tree.specs.standard.language.Substitutions.{backquote_end, closes, commands_text}
use Rattle.sh_tree.proofs.Inversions.{script_is, no_sequence}

-- no token is there
lead_at_end : (b : List ℕ) (i : ℕ) → length b ≤ i → lead_at b First i ≡ lead.End
unfolding lead_at lead_of operator_of operator longest
lead_at_end b i beyond =
    let none : operator_of (drop i b) ≡ None = ap operator_of (drop_all i b beyond) in
    ap (λ o. lead_of b First i o) none ∙ cond-true _ _ _ (le-leb _ _ beyond)

-- only the script of nothing is read there
nothing_there : {limit : ℕ} {b : List ℕ} {s u : Spot} {t : Script} → length b ≤ s.at → ReadsScript limit b s u t → u ≡ s
unfolding begins_pipeline begins_command begins_simple begins_compound is_redirection
nothing_there {b = b} {s = s} beyond h =
    let q = script_is h in
    let end = lead_at_end b s.at beyond in
    q.1 ∙ ap (λ v. v.spot) (no_sequence (ap is_newline_lead end) (ap begins_pipeline end) q.3)

whole_text : (b : List ℕ) (e : ℕ) → length b ≤ e → commands_text Backquote b e ≡ b
unfolding commands_text
whole_text b e beyond = take_all (backquote_end b e) b (omega arith)

-- nothing is there that closes commands between backquotes
pub closes_inside : (b : List ℕ) (i : ℕ) → closes Backquote b i ≡ true → i < length b
unfolding closes is_last_backquote
closes_inside b i h = ⊎_elim (λ same. absurd (nothing (omega arith))) (λ other. ⊎_elim (λ less. less) (λ more. absurd (nothing (omega arith))) other) (cases_order i (length b))
  where
    nothing : length b ≤ i → ⊥
    nothing beyond = true≢false (sym h ∙ ap is_last_backquote (drop_all i b beyond))

pub nothing_closes : (limit : ℕ) (b : List ℕ) (joins : Bool) (s u : Spot) (t : Script) (e : ℕ) → length b ≤ e
    → ReadsScript limit (commands_text Backquote b e) (deeper (blanks joins (commands_text Backquote b e) e) s) u t → closes Backquote (commands_text Backquote b e) u.at ≡ true → ⊥
unfolding blanks
nothing_closes limit b joins s u t e beyond reads closed =
    let whole = whole_text b e beyond in
    let here : ReadsScript limit b (deeper (blanks joins b e) s) u t = subst (λ c. ReadsScript limit c (deeper (blanks joins c e) s) u t) whole reads in
    let behind : length b ≤ blanks joins b e = omega arith in
    let there : u.at ≡ blanks joins b e = ap (λ v. v.at) (nothing_there behind here) in
    let inside : u.at < length b = closes_inside b u.at (subst (λ c. closes Backquote c u.at ≡ true) whole closed) in
    omega arith
