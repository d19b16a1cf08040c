use Rattle.std.proofs.Common.{map, arith, ap, ◌∙◌, refl}
use Rattle.sh_domain.specs.declared.numbered.Numbered.{Numbered}
use Rattle.sh_domain.specs.Numbered.{pair_of}
use Rattle.sh_domain.proofs.WritingLemmas.{all_numbered, next_numbered}
use Rattle.sh_domain.proofs.numbered.all_of.Goals as goal

pub loop-number-preserved : goal.loop-number-preserved
loop-number-preserved c =
    let x : Numbered = record { name = c.name-name.result; number = c.loop-number.number } in
    ap (map pair_of) c.in_ok-push.ensures.items
    ∙ next_numbered c.args.names.now c.loop-number.number c.loop-number.all.items x c.name-name.ensures refl c.loop-number.invariant

pub returns-clause-all : goal.returns-clause-all
returns-clause-all c = all_numbered c.args.names.now c.loop-number.number c.loop-number.all.items (omega (arith, c.count-number-end.ensures.count)) c.loop-number.invariant
