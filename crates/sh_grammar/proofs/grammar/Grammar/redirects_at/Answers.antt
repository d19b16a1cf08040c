use Rattle.std.proofs.Common.{sym, ap, ◌∙◌}
use Rattle.sh_tree.specs.standard.language.Commands.{is_redirection}
use Rattle.sh_grammar.proofs.RedirectLemmas.{redirects_all}
use Rattle.sh_grammar.proofs.grammar.Grammar.redirects_at.Goals as goal

pub returns : goal.returns
returns g c =
    let at = c.loop-next in
    let none = sym (c.is_redirection.ensures ∙ ap is_redirection c.lead.ensures.value) ∙ c.loop-next-test.false in
    record {
      one = redirects_all c.args.script.now c.args.from at.next at.redirects at.invariant.found none;
      from = at.invariant.from;
      stands = at.invariant.stands;
    }
