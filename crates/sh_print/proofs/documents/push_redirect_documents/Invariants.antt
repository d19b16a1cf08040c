use Rattle.std.proofs.Common.{◌≡◌, ◌++◌, drop, map}
use Rattle.std.specs.List.{flat_map}
use Rattle.sh_print.specs.Layout.{redirect_documents}
use Rattle.sh_print.specs.Pending.{pending_text}
use Rattle.sh_print.specs.Trees.{redirect_of}
use Rattle.sh_print.proofs.documents.push_redirect_documents.Given as goal

abbrev pub invariant-loop-redirect : goal.invariant-loop-redirect
invariant-loop-redirect l =
    l.out.items ++ pending_text (flat_map redirect_documents (map (redirect_of l.script) (drop l.redirect-index l.redirects)))
    ≡ l.initial.out.items ++ pending_text (flat_map redirect_documents (map (redirect_of l.script) l.redirects))
