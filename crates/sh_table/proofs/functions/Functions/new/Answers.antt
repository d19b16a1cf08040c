use Rattle.std.proofs.Common.{rules}
use Rattle.sh_table.proofs.FunctionLemmas.{functions_end}
use Rattle.sh_table.proofs.functions.Functions.new.Goals as goal

pub returns : goal.returns
returns c =
    λ ss e. functions_end c.args.script.now c.args.definitions.now ss c.loop-definition.definition-index _ c.loop-definition.functions c.loop-definition-test.false c.loop-definition.invariant
    (search rules) e
