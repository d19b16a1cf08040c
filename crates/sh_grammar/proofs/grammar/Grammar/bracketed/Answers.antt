use Rattle.std.proofs.Common.{◌≡◌, sym, ap, subst, ◌∙◌, arith}
use Rattle.sh_tree.specs.declared.token.command.Stage.TheVariants.{First}
use Rattle.sh_tree.specs.standard.language.Commands.{lead_at}
use Rattle.sh_grammar.specs.Brackets.{BracketFrom, outer}
use Rattle.sh_grammar.specs.Readers.{One, ListFrom}
use Rattle.sh_grammar.specs.States.{here}
use Rattle.sh_grammar.proofs.CompoundLemmas.{bracket_read}
use Rattle.sh_grammar.proofs.grammar.Grammar.bracketed.Goals as goal

pub returns : goal.returns
returns g c =
    let b = c.args.script.now in
    let list = c.in_ok-list in
    let one = subst (λ s. One (ListFrom b s) (here list.behind) list.list) c.inside.ensures.value list.ensures.one in
    let closed : lead_at b First list.behind.at ≡ c.args.close = sym c.lead.ensures.value ∙ c.is_same.ensures.yes c.if-not-is_same.false in
    let further = c.outside.ensures.further in
    let before = list.ensures.from in
    let inside = c.inside.ensures.further in
    record {
      one = subst (λ v. One (BracketFrom b c.args.close c.args.from) (here v) list.list) (sym (c.outside.ensures.value ∙ ap (λ n. outer b n list.behind) c.depth-depth.ensures))
          (bracket_read b c.args.close c.args.from list.list list.behind one closed);
      from = omega arith;
      stands = c.outside.ensures.stands;
    }
