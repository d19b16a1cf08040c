use Rattle.std.proofs.Common.{◌≡◌, ◌++◌}
use Rattle.sh_print.specs.Layout.{tabs}
use Rattle.sh_print.proofs.pieces.push_tabs.Given as goal

abbrev pub invariant-loop-tab : goal.invariant-loop-tab
invariant-loop-tab l = l.out.items ≡ l.initial.out.items ++ tabs l._tab
