use Rattle.std.proofs.Common.{◌≡◌, ◌&&◌, ◌||◌, map, take}
use Rattle.sh_tree.specs.standard.program.Syntax.{Text}
use Rattle.sh_runs.specs.standard.runs.Environment.{is_one_of}
use Rattle.sh_domain.specs.Knowledge.{contains}
use Rattle.sh_domain.proofs.number_set.NumberSet.add_names.Given as goal

abbrev pub invariant-loop-text : goal.invariant-loop-text
invariant-loop-text l =
    (t : Text) → contains l.names l.self t ≡ (is_one_of l.names t && (is_one_of (map (λ v. v.items) (take l.text-index l.texts)) t || contains l.names l.fn.self t))
