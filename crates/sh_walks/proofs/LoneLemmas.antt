-- A walk keeps nothing of what is in a simple command, if no command is in it.
use Rattle.std.proofs.Common.{◌≡◌, ℕ, List, Bool, true, false, not, ◌&&◌, ◌||◌, refl, sym, ap, ◌∙◌}
use Rattle.std.proofs.lemmas.Bool.{and_parts, or_parts, true≢false, false≢true}
use Rattle.sh_tree.specs.declared.tree.Command.{Command, out-Command}
use Rattle.sh_tree.specs.standard.program.Syntax as p
use Rattle.sh_tree.specs.standard.program.Trees as trees
use Rattle.sh_tree.specs.Lists.{redirects_from}
use Rattle.sh_tree.proofs.ProgramRules as rules
use Rattle.sh_domain.specs.declared.rule.FlowRule.{FlowRule}
use Rattle.sh_domain.specs.Entries.{Around}
use Rattle.sh_domain.specs.Facts.{Facts}
use Rattle.sh_domain.specs.Gains.{words_gains}
use Rattle.sh_domain.specs.Views.{Before}
use Rattle.sh_tree.specs.standard.program.Words.{operands_in}
use Rattle.sh_gains.specs.Knowing.{inner_gains}
use Rattle.sh_rules.specs.Settings.{Setting, gained, known_at}
use Rattle.sh_rules.specs.Steps.{command_kept}
use Rattle.sh_rules.specs.Visits.{simple_in}
use Rattle.sh_rules.specs.Walked.{Met, Trail, trail, trail_gained, items_walked, command_walked, kind_walked, elements_walked, redirect_walked, redirects_walked, word_walked, part_walked, operator_walked, expression_walked, operands_walked}
use Rattle.sh_rules.proofs.WalkLemmas.{command_out}
use Rattle.sh_drafts.specs.Inner.{part_substitutes, word_substitutes, operator_substitutes, expression_substitutes, operands_substitute, redirect_substitutes, redirects_substitute, elements_substitute}
use Rattle.sh_walks.specs.Lone.{hold_none, is_lone, inside_kept}

module _ {K : Type 0} (x : Setting) (w : K → Met → K) where
  mutual
    unfolding part_substitutes items_walked

    word_kept : (v : p.Word) → word_substitutes v ≡ false → (t : Trail K) → (word_walked x w t v).kept ≡ t.kept
    word_kept p.no_parts e t = refl
    word_kept (p.more_parts y v) e t =
        let both = or_parts (part_substitutes y) (word_substitutes v) e in
        word_kept v both.1 (part_walked x w t y) ∙ part_kept y both.0 t

    part_kept : (y : p.Part) → part_substitutes y ≡ false → (t : Trail K) → (part_walked x w t y).kept ≡ t.kept
    part_kept (p.Plain s) e t = refl
    part_kept (p.Escaped s) e t = refl
    part_kept (p.Single style s) e t = refl
    part_kept (p.Double v) e t = word_kept v e t
    part_kept (p.Expansion at parameter o) e t = operator_kept o e t parameter
    part_kept (p.Arithmetic at y) e t = expression_kept y e t
    part_kept (p.Substitution at list) e t = absurd (true≢false e)
    part_kept (p.Tilde at login) e t = refl
    part_kept p.Joined e t = refl

    operator_kept : (o : p.Operator) → operator_substitutes o ≡ false → (t : Trail K) (parameter : p.Parameter) → (operator_walked x w t parameter o).kept ≡ t.kept
    operator_kept p.Value e t parameter = refl
    operator_kept p.Length e t parameter = refl
    operator_kept (p.Use action colon v) e t parameter = word_kept v e (trail_gained x (inner_gains parameter action) t)
    operator_kept (p.Remove removal v) e t parameter = word_kept v e t

    expression_kept : (y : p.Expression) → expression_substitutes y ≡ false → (t : Trail K) → (expression_walked x w t y).kept ≡ t.kept
    expression_kept (p.Constant s) e t = refl
    expression_kept (p.Name at name) e t = refl
    expression_kept (p.Expanded y) e t = part_kept y e t
    expression_kept (p.Parenthesis y) e t = expression_kept y e t
    expression_kept (p.Signed operator y) e t = expression_kept y e t
    expression_kept (p.Chain y rest) e t =
        let both = or_parts (expression_substitutes y) (operands_substitute rest) e in
        operands_kept rest both.1 (expression_walked x w t y) ∙ expression_kept y both.0 t
    expression_kept (p.Choice c y z) e t =
        let both = or_parts (expression_substitutes c || expression_substitutes y) (expression_substitutes z) e in
        let others = or_parts (expression_substitutes c) (expression_substitutes y) both.0 in
        expression_kept z both.1 (expression_walked x w (expression_walked x w t c) y)
        ∙ expression_kept y others.1 (expression_walked x w t c) ∙ expression_kept c others.0 t
    expression_kept (p.Assigned at name operator y) e t = expression_kept y e t

    operands_kept : (ys : p.Operands) → operands_substitute ys ≡ false → (t : Trail K) → (operands_walked x w t ys).kept ≡ t.kept
    operands_kept p.no_operands e t = refl
    operands_kept (p.more_operands operator y rest) e t =
        let both = or_parts (expression_substitutes y) (operands_substitute rest) e in
        operands_kept rest both.1 (expression_walked x w t y) ∙ expression_kept y both.0 t

  redirect_kept : (r : p.Redirect) → redirect_substitutes r ≡ false → (t : Trail K) → (redirect_walked x w t r).kept ≡ t.kept
  unfolding redirect_substitutes items_walked
  redirect_kept (p.File v) e t = word_kept v e t
  redirect_kept (p.Here v) e t = word_kept v e t

  redirects_kept : (rs : p.Redirects) → redirects_substitute rs ≡ false → (t : Trail K) → (redirects_walked x w t rs).kept ≡ t.kept
  unfolding redirects_substitute items_walked
  redirects_kept p.no_redirects e t = refl
  redirects_kept (p.more_redirects r rs) e t =
      let both = or_parts (redirect_substitutes r) (redirects_substitute rs) e in
      redirects_kept rs both.1 (redirect_walked x w t r) ∙ redirect_kept r both.0 t

  elements_kept : (es : p.Elements) → elements_substitute es ≡ false → (k : Facts) (t : Trail K) → (elements_walked x w k t es).kept ≡ t.kept
  unfolding elements_substitute items_walked
  elements_kept p.no_elements e k t = refl
  elements_kept (p.assignment name v es) e k t =
      let both = or_parts (word_substitutes v) (elements_substitute es) e in
      elements_kept es both.1 k (trail t.known (word_walked x w (trail k t.kept) v).kept) ∙ word_kept v both.0 (trail k t.kept)
  elements_kept (p.operand v es) e k t =
      let both = or_parts (word_substitutes v) (elements_substitute es) e in
      elements_kept es both.1 k (word_walked x w t v) ∙ word_kept v both.0 t
  elements_kept (p.redirection r es) e k t =
      let both = or_parts (redirect_substitutes r) (elements_substitute es) e in
      elements_kept es both.1 k (trail t.known (redirect_walked x w (trail k t.kept) r).kept) ∙ redirect_kept r both.0 (trail k t.kept)

  untrue : (b : Bool) → not b ≡ true → b ≡ false
  untrue true e = absurd (false≢true e)
  untrue false e = refl

  kind_same : (kind : p.Kind) → hold_none (simple_in kind) ≡ true → (y : Around) (n : ℕ) (t : Trail K) → (kind_walked x w y n t kind) ≡ t.kept
  unfolding simple_in items_walked
  kind_same (p.Simple es) e y n t = elements_kept es (untrue (elements_substitute es) e) (gained x (words_gains (operands_in es)) t.known) t
  kind_same (p.Group _) e y n t = absurd (false≢true e)
  kind_same (p.Subshell _) e y n t = absurd (false≢true e)
  kind_same (p.Conditional _ _) e y n t = absurd (false≢true e)
  kind_same (p.Loop _ _ _) e y n t = absurd (false≢true e)
  kind_same (p.For _ _ _) e y n t = absurd (false≢true e)
  kind_same (p.Case _ _) e y n t = absurd (false≢true e)
  kind_same (p.Define _ _) e y n t = absurd (false≢true e)

  -- of a command in which there is no other, only the visit to it is kept
  command_same : (d : p.Command) → is_lone d ≡ true → (by : FlowRule) (y : Around) (k : Facts) (s : K)
      → w s (record { command = d; rule = by; around = y; known = k }) ≡ command_walked x w by y k s d
  unfolding is_lone items_walked
  command_same (p.command n at kind rs) e by y k s =
      let both = and_parts (hold_none (simple_in kind)) (not (redirects_substitute rs)) e in
      let first = trail (known_at x (Before n)) (w s (record { command = p.command n at kind rs; rule = by; around = y; known = k })) in
      sym (kind_same kind both.0 y n (redirects_walked x w first rs) ∙ redirects_kept rs (untrue (redirects_substitute rs) both.1) first)

pub lone_out : {K : Type 0} (x : Setting) (w : K → Met → K) (by : FlowRule) (y : Around) (k : Facts) (s kept : K) (c : Command)
    → kept ≡ w s (record { command = trees.command_of x.script c; rule = by; around = y; known = k }) → is_lone (trees.command_of x.script c) ≡ true → kept ≡ command_kept x w by y k s c
unfolding command_kept
lone_out x w by y k s kept c met is = met ∙ command_same x w (trees.command_of x.script c) is by y k s

-- and of another one what a walk keeps inside it
pub inside_out : {K : Type 0} (x : Setting) (w : K → Met → K) (by : FlowRule) (y : Around) (k : Facts) (s visited kept : K) (c : Command)
    → visited ≡ w s (record { command = trees.command_of x.script c; rule = by; around = y; known = k }) → kept ≡ inside_kept x w y visited c → kept ≡ command_kept x w by y k s c
inside_out x w by y k s visited kept c met inside = inside ∙ ap (λ t. inside_kept x w y t c) met ∙ sym (command_out x w by y k s c)

-- whether it is lone, by its kind and its redirections
pub command_split : (b : List ℕ) (c : Command) → is_lone (trees.command_of b c) ≡ (hold_none (simple_in (trees.kind_of b (out-Command c).kind)) && not (redirects_substitute (redirects_from b (out-Command c).redirects)))
unfolding is_lone
command_split b c = ap is_lone (rules.command_of-out b c)
