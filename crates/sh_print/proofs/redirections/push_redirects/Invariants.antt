use Rattle.std.proofs.Common.{◌≡◌, ◌∷◌, ◌++◌, drop, map}
use Rattle.std.specs.List.{flat_map}
use Rattle.sh_print.specs.Layout.{redirect_text}
use Rattle.sh_print.specs.Trees.{redirect_of}
use Rattle.sh_print.proofs.redirections.push_redirects.Given as goal

abbrev pub invariant-loop-redirect : goal.invariant-loop-redirect
invariant-loop-redirect l =
    l.out.items ++ flat_map (λ r. 32 ∷ redirect_text r) (map (redirect_of l.script) (drop l.redirect-index l.redirects))
    ≡ l.initial.out.items ++ flat_map (λ r. 32 ∷ redirect_text r) (map (redirect_of l.script) l.redirects)
