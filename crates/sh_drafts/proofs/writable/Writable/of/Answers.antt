use Rattle.std.proofs.Common.{arith}
use Rattle.sh_tree.specs.declared.limits.TheConstants.{MAX_NAMES}
use Rattle.sh_drafts.specs.Writable.{sets_in}
use Rattle.sh_drafts.proofs.LowerLemmas.{has_more, has_all, written_more}
use Rattle.sh_drafts.proofs.writable.Writable.of.Goals as goal

pub loop-number-preserved : goal.loop-number-preserved
loop-number-preserved c = record {
  written = written_more c.args.names.now (sets_in c.loop-number.vars c.loop-number.functions) (sets_in c.add_if.new.set c.add_if-in-loop-number.new.set) c.loop-number.number c.name-name.result.now _ _ c.name-name.ensures c.is_variable.ensures
      c.is_name.ensures c.add_if.ensures c.add_if-in-loop-number.ensures c.loop-number.invariant.written;
  all = has_more c.args.names.now (sets_in c.loop-number.vars c.loop-number.functions) (sets_in c.add_if.new.set c.add_if-in-loop-number.new.set) c.loop-number.number c.name-name.result.now _ _ c.name-name.ensures c.is_variable.ensures
      c.is_name.ensures c.add_if.ensures c.add_if-in-loop-number.ensures c.loop-number.invariant.all;
}

pub returns-clause-all : goal.returns-clause-all
returns-clause-all c = has_all c.args.names.now MAX_NAMES c.loop-number.number (sets_in c.loop-number.vars c.loop-number.functions) (omega (arith, c.count.ensures.count, c.min-number-end.ensures)) c.loop-number.invariant.all
