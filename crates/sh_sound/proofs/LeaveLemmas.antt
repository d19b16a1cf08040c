-- The built-in utilities `break`, `continue` and `return`, by the operands that their rules read.
use Rattle.std.proofs.Common.{◌≡◌, ℕ, nat_lt, min, Bool, true, false, ◌&&◌, List, [], ◌∷◌, ◌++◌, length, map, Option, Some, None, is_some, unwrap_or, option_and_then, refl, sym, ap, ◌∙◌, subst, true≢false}
use Rattle.std.specs.List.{list_all}
use Rattle.std.proofs.lemmas.Bool.{and_parts}
use Rattle.sh_tree.specs.declared.known.KnownName.{KnownName}
use Rattle.sh_tree.specs.declared.known.KnownName.TheVariants as known
use Rattle.sh_tree.specs.declared.refusal.Rule.{Rule}
use Rattle.sh_tree.specs.standard.program.Syntax as p
use Rattle.sh_tree.specs.standard.program.Syntax.{Text, Word}
use Rattle.sh_tree.specs.standard.program.Words.{static_of, words_in}
use Rattle.sh_runs.specs.declared.kind.Kind.TheVariants as kind
use Rattle.sh_runs.specs.Profile.{Static, unless, or_rule, jumps_inside, kind_rule}
use Rattle.sh_runs.specs.standard.runs.Answers.{Answer}
use Rattle.sh_runs.specs.standard.runs.Builtins.{special}
use Rattle.sh_runs.specs.standard.runs.Environment.{Environment, Frame}
use Rattle.sh_runs.specs.standard.runs.Numbers.{number_in}
use Rattle.sh_runs.specs.standard.runs.Operands.{count_operand, status_operand}
use Rattle.sh_runs.specs.standard.runs.Work.{Work, loop_mark, broken_off, continued, Effect, goes}
use Rattle.sh_runs.specs.standard.runs.Rows.{is_count}
use Rattle.sh_domain.specs.Entries.{Around}
use Rattle.sh_domain.specs.Facts.{Facts}
use Rattle.sh_domain.specs.Inclusions.{surroundings_of, BreakRules, ContinueRules, ReturnRules, JumpRules}
use Rattle.sh_domain.specs.Operands.{first_number}
use Rattle.sh_domain.specs.Rules.{loop_at, jump_loop}
use Rattle.sh_domain.specs.Views.{Certificate, Seen, After}
use Rattle.sh_sound.specs.Fields.{Operand, Fields}
use Rattle.sh_sound.specs.Holding.{OneHolds}
use Rattle.sh_sound.specs.Going.{around, front, Good, ProcessOk, StepOk}
use Rattle.sh_sound.proofs.JumpLemmas.{loop_found, break_ok, continue_ok}
use Rattle.sh_sound.proofs.ReturnLemmas.{same_status, returned_ok}

uncounted : (t : Text) → number_in t ≡ None → is_count (Some t) ≡ false
unfolding is_count
uncounted t e = rw e refl

-- the count of a jump, which the rules and the step read alike
record Counts (ws : List Word) (ts : List Text) : Type 0 where
  count : ℕ
  ruled : first_number ws ≡ Some count
  done : count_operand ts ≡ Some count

counts : (m : ℕ) (ws : List Word) (ts : List Text) → Fields false m ws ts → list_all is_count (map static_of ws) ≡ true → Counts ws ts
unfolding Fields Operand first_number count_operand is_count
counts m [] ts h k = record { count = 1; ruled = refl; done = ap count_operand h }
counts m (w ∷ ws) ts h k = by (static_of w) refl (and_parts (is_count (static_of w)) (list_all is_count (map static_of ws)) k).0
  where
    by : (o : Static) → static_of w ≡ o → is_count o ≡ true → Counts (w ∷ ws) ts
    by None s c = cc
    by (Some t) s c = go (number_in t) refl c
      where
        first : ts ≡ t ∷ h.1
        first = h.2 ∙ ap (λ us. us ++ h.1) (h.3.static t s)

        go : (n : Option ℕ) → number_in t ≡ n → is_count (Some t) ≡ true → Counts (w ∷ ws) ts
        go None e c = absurd (true≢false (sym c ∙ uncounted t e))
        go (Some n) e c = record { count = n; ruled = ap (option_and_then number_in) s ∙ e; done = ap count_operand first ∙ e }

pub passed : (b : Bool) (r : Rule) → unless b r ≡ None → b ≡ true
unfolding unless
passed true r h = refl
passed false r h = cc

both_passed : (a b : Bool) (q r : Rule) → or_rule (unless a q) (unless b r) ≡ None → (a ≡ true) × (b ≡ true)
unfolding or_rule unless
both_passed true b q r h = (refl, passed b r h)
both_passed false b q r h = cc

in_loops : (n : ℕ) (ls : List ℕ) → (nat_lt 0 (min (length ls) 255) && true) ≡ true → is_some (loop_at n ls) ≡ true
in_loops n [] h = cc
in_loops n (l ∷ ls) h = loop_found n l ls

module _ (d : Facts) (c : Certificate) (defined : List Text) (SimpleAt : Around → Work → Seen → Type 0) (base : Around) (e : Environment) (fs : List Frame) (status : ℕ) (ws : List Work) (a : Answer) where
  abbrev Well : List Work → Type 0
  Well us = ProcessOk d c defined SimpleAt base e fs status us

  abbrev Ok : Effect → Type 0
  Ok x = StepOk d c defined SimpleAt base e fs status x

  abbrev Admitted : Bool → KnownName → List Word → Type 0
  Admitted quoted name others = kind_rule (surroundings_of (around base ws)) quoted (kind.Special name) (map static_of others) ≡ None

  pub break_leaves : (m : ℕ) (quoted : Bool) (vs : p.Words) (others : List Word) (ts : List Text) (s : Seen) (o : After) (us : List Work) (live : Well us) → Good d c defined SimpleAt base live.callers ws o
      → Fields false m others ts → Admitted quoted known.Break others → JumpRules d c (around base ws) (kind.Special known.Break) others s → OneHolds d c s e (front fs)
      → Ok (special e (front fs) status ws a vs known.Break ts)
  unfolding kind_rule special JumpRules jump_loop
  break_leaves m quoted vs others ts s o us live good given admitted rules h =
      let pass = both_passed (list_all is_count (map static_of others)) (jumps_inside (surroundings_of (around base ws)) (map static_of others)) _ _ admitted in
      let k = counts m others ts given pass.0 in
      subst (λ n. Ok (goes e (front fs) a.status (broken_off (loop_mark (unwrap_or n 1) ws) ws))) (sym k.done)
      (break_ok d c defined SimpleAt base e fs status ws k.count a.status s o us live good (in_loops k.count (around base ws).loops pass.1)
      (subst (λ n. BreakRules d c (jump_loop n (around base ws).loops) s) k.ruled rules) h)

  pub continue_leaves : (m : ℕ) (quoted : Bool) (vs : p.Words) (others : List Word) (ts : List Text) (s : Seen) (o : After) (us : List Work) (live : Well us) → Good d c defined SimpleAt base live.callers ws o
      → Fields false m others ts → Admitted quoted known.Continue others → JumpRules d c (around base ws) (kind.Special known.Continue) others s → OneHolds d c s e (front fs)
      → Ok (special e (front fs) status ws a vs known.Continue ts)
  unfolding kind_rule special JumpRules jump_loop
  continue_leaves m quoted vs others ts s o us live good given admitted rules h =
      let pass = both_passed (list_all is_count (map static_of others)) (jumps_inside (surroundings_of (around base ws)) (map static_of others)) _ _ admitted in
      let k = counts m others ts given pass.0 in
      subst (λ n. Ok (goes e (front fs) a.status (continued (loop_mark (unwrap_or n 1) ws) ws))) (sym k.done)
      (continue_ok d c defined SimpleAt base e fs status ws k.count a.status s o us live good (in_loops k.count (around base ws).loops pass.1)
      (subst (λ n. ContinueRules d c (jump_loop n (around base ws).loops) s) k.ruled rules) h)

  pub return_leaves : (quoted : Bool) (vs : p.Words) (w : Word) (others : List Word) (ts : List Text) (s : Seen) (o : After) (us : List Work) (live : Well us) → Good d c defined SimpleAt base live.callers ws o
      → words_in vs ≡ w ∷ others → Admitted quoted known.Return others → JumpRules d c (around base ws) (kind.Special known.Return) others s → OneHolds d c s e (front fs)
      → Ok (special e (front fs) status ws a vs known.Return ts)
  unfolding kind_rule special JumpRules
  return_leaves quoted vs w others ts s o us live good words admitted rules h =
      returned_ok d c defined SimpleAt base e fs status ws a (status_operand vs) s o us live good (passed (is_some (around base ws).function) _ admitted)
      (subst (λ n. ReturnRules d c n (around base ws).function s) (same_status vs w others words) rules) h
