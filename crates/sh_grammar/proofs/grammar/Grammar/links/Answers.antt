use Rattle.std.proofs.Common.{sym, ap, subst, ◌∙◌, arith}
use Rattle.sh_tree.specs.standard.language.Commands.{link_of}
use Rattle.sh_grammar.specs.Breaks.{BreaksTo}
use Rattle.sh_grammar.proofs.ListLemmas.{links_all, links_more}
use Rattle.sh_grammar.proofs.grammar.Grammar.links.Goals as goal

pub loop-link-preserved : goal.loop-link-preserved
loop-link-preserved g c =
    let at = c.loop-link in
    let b = c.args.script.now in
    let some = sym (c.in-Some.ensures ∙ ap link_of c.lead.ensures.value) in
    let first = c.in_ok-first in
    let breaks = subst (λ v. BreaksTo b v first.first) c.next.ensures.value first.ensures in
    let pipe = c.in_ok-pipe in
    let from = at.invariant.from in
    let after = c.next.ensures.after in
    let before = first.ensures.from in
    let further = pipe.ensures.from in
    record {
      found = rw c.in_ok-push.ensures.ok (links_more b c.args.from at.next at.rest at.invariant.found c.in-Some.link some first.first breaks pipe.pipe pipe.behind
          pipe.ensures.one);
      from = omega arith;
      stands = pipe.ensures.stands;
    }

pub returns : goal.returns
returns g c =
    let at = c.loop-link in
    let none = sym (c.in_default.ensures ∙ ap link_of c.lead.ensures.value) in
    record {
      one = links_all c.args.script.now c.args.from at.next at.rest at.invariant.found none;
      from = at.invariant.from;
      stands = at.invariant.stands;
    }
