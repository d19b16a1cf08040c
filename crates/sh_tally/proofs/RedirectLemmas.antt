-- What a walk over the redirections of compound commands adds for their counts.
use Rattle.std.proofs.Common.{◌≡◌, ℕ, ◌≤◌, true, if◌then◌else◌, length, List, [], ◌∷◌, Some, sym, ap, arith, refl, subst}
use Rattle.sh_tree.specs.declared.tree.Command.{Command, out-Command}
use Rattle.sh_tree.specs.declared.tree.Redirect.{Redirect}
use Rattle.sh_tree.specs.Lists.{redirects_from}
use Rattle.sh_tree.specs.standard.program.Syntax as p
use Rattle.sh_tree.specs.standard.program.Syntax.{Text}
use Rattle.sh_tree.specs.standard.program.Trees as trees
use Rattle.sh_tree.proofs.ProgramRules as rules
use Rattle.sh_domain.specs.declared.rule.FlowRule.{FlowRule}
use Rattle.sh_domain.specs.declared.rule.FlowRule.TheVariants.{F10}
use Rattle.sh_domain.specs.Entries as e
use Rattle.sh_domain.specs.Entries.{Around, behind_redirects}
use Rattle.sh_domain.specs.Gains.{redirect_gains, redirects_gains}
use Rattle.sh_domain.specs.Inclusions.{Each}
use Rattle.sh_domain.specs.Rules as r
use Rattle.sh_domain.specs.Rules.{bound}
use Rattle.sh_domain.specs.Table.{is_redirected}
use Rattle.sh_domain.specs.Views as views
use Rattle.sh_domain.specs.Views.{Before}
use Rattle.sh_counts.specs.declared.equations.Change.TheVariants.{Raise}
use Rattle.sh_counts.specs.declared.equations.Count.{Count}
use Rattle.sh_counts.specs.declared.equations.Equations.{Equations}
use Rattle.sh_tally.specs.declared.bounds.Tally.{Tally}
use Rattle.sh_tally.specs.declared.places.Part.TheVariants as part
use Rattle.sh_tally.specs.declared.views.Views.{Views}
use Rattle.sh_tally.specs.Tallies.{AreBounds, Tallies}
use Rattle.sh_tally.specs.Views.{command_index, index_of}
use Rattle.sh_tally.specs.Walks.{AddsCommand, AddsFrom, AddsRedirects, IsPart, Passes, Sight, names}
use Rattle.sh_tally.proofs.IterationLemmas.{ListPassed, list_begun, list_next, list_passed}
use Rattle.sh_tally.proofs.KindLemmas.{both_kept, kind_part, kind_texts, redirects_part}
use Rattle.sh_tally.proofs.ViewLemmas.{raised_less, raised_see, weaker_see}
use Rattle.sh_tally.proofs.WalkLemmas.{Unbroken, before_index, entered_bounds, place_bounds}

module _ (s : Tally) where
  abbrev pub RedirectsPassed : p.Redirects → p.Redirects → Views → Views → Equations → Equations → Type 0
  RedirectsPassed all rest known left old new = ListPassed s (λ q. e.redirects_entered q all) (λ q. e.redirects_entered q rest) (redirects_gains all) (redirects_gains rest) known left old new

  pub redirects_begun : (rs : p.Redirects) (known : Views) (old : Equations) → RedirectsPassed rs rs known known old old
  redirects_begun rs known old = list_begun s (λ q. e.redirects_entered q rs) (redirects_gains rs) known old

  pub redirects_next : (b : Text) (all : p.Redirects) (x : Redirect) (xs : List Redirect) (known now left : Views) (old mid new : Equations) → RedirectsPassed all (redirects_from b (x ∷ xs)) known now old mid
      → Passes s (λ q. e.redirect_entered q (trees.target_of b x.target)) (redirect_gains (trees.target_of b x.target)) now left mid new → RedirectsPassed all (redirects_from b xs) known left old new
  unfolding e.items_entered redirects_from redirects_gains
  redirects_next b all x xs known now left old mid new before one =
      list_next s (λ q. e.redirects_entered q all) (λ q. e.redirect_entered q (trees.target_of b x.target)) (λ q. e.redirects_entered q (redirects_from b xs)) (redirects_gains all) (redirect_gains (trees.target_of b x.target)) (redirects_gains (redirects_from b xs)) known now left old mid new before one

  pub redirects_passed : (b : Text) (all : p.Redirects) (known left : Views) (old new : Equations) → RedirectsPassed all (redirects_from b []) known left old new → Passes s (λ q. e.redirects_entered q all) (redirects_gains all) known left old new
  unfolding redirects_from redirects_gains
  redirects_passed b all known left old new before = list_passed s (λ q. e.redirects_entered q all) (λ q. e.redirects_entered q (redirects_from b [])) (redirects_gains all) (redirects_gains (redirects_from b [])) known left old new refl before

  -- A redirection that fails

  redirected : (b : Text) (rs : List Redirect) → 1 ≤ length rs → is_redirected (redirects_from b rs) ≡ true
  unfolding is_redirected redirects_from
  redirected b [] some = absurd (omega (arith, some))
  redirected b (x ∷ xs) some = refl

  pub none_failed : (n : ℕ) (rs : p.Redirects) (old : Equations) → AddsRedirects s n rs old old
  none_failed n rs old t u k kept tallied = tallied

  pub failed_added : (n : ℕ) (rs : List Redirect) (before : Views) (place : Count) (old new : Equations) → 1 ≤ length rs → place.index ≡ command_index part.Nonzero n → Sight s (views.at (Before n)) before
      → ((u : ℕ → ℕ) → AreBounds s.places u place (Raise 0) before → Tallies s.places u old new) → AddsRedirects s n (redirects_from s.script.now rs) old new
  unfolding index_of r.redirects_bounds
  failed_added n rs before place old new some at own asks t u k kept =
      asks u (place_bounds s t u k (views.AfterNonzero n) place n F10 (views.at (Before n)) before (ap Some (sym at))
      (subst (λ m. Each (Unbroken k.known k.claims) (if m then bound (views.AfterNonzero n) n F10 (views.at (Before n)) else [])) (redirected s.script.now rs some) kept) own)

  -- A command and its redirections

  pub command_redirected : (y : Around) (m : Command) (known : Views) (place : Count) (old mid one two new : Equations) → place.index ≡ command_index part.Before (out-Command m).number
      → ((u : ℕ → ℕ) → AreBounds s.places u place (Raise 0) known → Tallies s.places u old mid) → AddsRedirects s (out-Command m).number (redirects_from s.script.now (out-Command m).redirects) mid one
      → (before inside : Views) → Sight s (views.at (Before (out-Command m).number)) before
      → Passes s (λ q. e.redirects_entered q (redirects_from s.script.now (out-Command m).redirects)) (redirects_gains (redirects_from s.script.now (out-Command m).redirects)) before inside one two
      → AddsCommand s y (out-Command m).number (trees.kind_of s.script.now (out-Command m).kind) inside two new
      → (by : FlowRule) → AddsFrom s (λ q. e.command_entered by y q (trees.command_of s.script.now m)) known old new
  command_redirected y m known place old mid one two new at asks fails before inside own passed adds by t u q k sight part tallied =
      let b : Text = s.script.now in
      let n : ℕ = (out-Command m).number in
      let kind : p.Kind = trees.kind_of b (out-Command m).kind in
      let rs : p.Redirects = redirects_from b (out-Command m).redirects in
      let whole : IsPart t (e.command_entered by y q (p.command n (out-Command m).at kind rs)) = subst (λ z. IsPart t (e.command_entered by y q z)) (rules.command_of-out b m) part in
      let here : Sight s (views.at (Before n)) inside = weaker_see (names s) (views.at (Before n)) 0 before inside (raised_less (redirects_gains rs).args 0 before inside (omega arith) passed.gained) own in
      let behind : Sight s (behind_redirects n rs) inside = raised_see (names s) (views.at (Before n)) (redirects_gains rs) before inside passed.gained own in
      let kept = both_kept s y t u k by q n (out-Command m).at kind rs whole in
      adds (out-Command m).at rs here (kind_texts s y t u k by q n (out-Command m).at kind rs whole) t u (behind_redirects n rs) k behind (kind_part s y t by q n (out-Command m).at kind rs whole) kept.0
      (passed.adds t u (views.at (Before n)) k own (redirects_part s y t by q n (out-Command m).at kind rs whole)
      (fails t u k kept.1
      (asks u (entered_bounds s y by m known place (before_index s m place at) t u q k sight part) tallied)))
