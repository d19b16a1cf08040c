use Rattle.std.proofs.Common.{arith}
use Rattle.sh_judged.proofs.FindingLemmas.{none_there, some_found}
use Rattle.sh_judged.proofs.told.verdict_of.Goals as goal

pub returns-in-empty-clause-told : goal.returns-in-empty-clause-told
returns-in-empty-clause-told c = none_there c.args.places.now (let few = c.in-empty.len_below in omega arith)

pub invariant_of-result : goal.invariant_of-result
invariant_of-result c = record {
  some =
      some_found c.args.script.now c.args.places.now c.in_ok-findings-in-len1-up.findings.items (let some = c.in-len1-up.len_at_least in omega arith)
      c.in_ok-findings-in-len1-up.ensures;
}
