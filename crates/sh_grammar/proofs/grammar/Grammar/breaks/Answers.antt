use Rattle.std.proofs.Common.{sym, ap, ◌∙◌, arith}
use Rattle.sh_tree.specs.standard.language.Commands.{is_newline_lead}
use Rattle.sh_grammar.proofs.BreakLemmas.{skips_one, skips_all}
use Rattle.sh_grammar.proofs.grammar.Grammar.breaks.Goals as goal

pub loop-next-preserved : goal.loop-next-preserved
loop-next-preserved g c =
    let at = c.loop-next in
    let line = sym (c.is_newline.ensures ∙ ap is_newline_lead c.lead.ensures.value) ∙ c.loop-next-test.true in
    let to = c.in_ok-next.ensures.line in
    let from = at.invariant.from in
    let after = to.from in
    record {
      skips = skips_one c.args.script.now c.args.from at.next at.invariant.skips c.in_ok-next.next line to;
      from = omega arith;
      stands = to.stands;
    }

pub returns : goal.returns
returns g c =
    let at = c.loop-next in
    let none = sym (c.is_newline.ensures ∙ ap is_newline_lead c.lead.ensures.value) ∙ c.loop-next-test.false in
    skips_all c.args.script.now c.args.from at.next at.invariant.skips none at.invariant.from at.invariant.stands
