use Rattle.std.proofs.Common.{◌∙◌}
use Rattle.sh_tree.specs.standard.Words.{words_of}
use Rattle.sh_quote.specs.Unquoted.{operand_told}
use Rattle.sh_quote.proofs.UnquotedLemmas.{added_on, all_added, on_err, some_first, some_behind}
use Rattle.sh_quote.proofs.unquoted.add_operands.Goals as goal

pub loop-word-preserved : goal.loop-word-preserved
loop-word-preserved c =
    let f = operand_told c.args.script.now c.args.declares c.args.steady in
    record {
      all =
          added_on f (words_of c.loop-word.left.now) (words_of c.in-Some.rest.now) c.in-Some.word.now _ _ c.in-Some.ensures c.in_ok-add_operand.ensures.kept
          ∙ c.loop-word.invariant.all;
      some = λ h. c.loop-word.invariant.some (some_behind f (words_of c.loop-word.left.now) (words_of c.in-Some.rest.now) c.in-Some.word.now c.in-Some.ensures h);
    }

pub returns-clause-kept : goal.returns-clause-kept
returns-clause-kept c = all_added (operand_told c.args.script.now c.args.declares c.args.steady) (words_of c.loop-word.left.now) _ c.in_default.ensures ∙ c.loop-word.invariant.all

pub returns-in_err-add_operand-clause-some : goal.returns-in_err-add_operand-clause-some
returns-in_err-add_operand-clause-some c =
    on_err c.from_residual.result
    (c.loop-word.invariant.some
    (some_first (operand_told c.args.script.now c.args.declares c.args.steady) (words_of c.loop-word.left.now) (words_of c.in-Some.rest.now) c.in-Some.word.now c.in-Some.ensures
    c.in_err-add_operand.ensures.some))
