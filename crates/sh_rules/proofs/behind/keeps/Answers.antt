use Rattle.std.proofs.Common.{ap, ◌∙◌}
use Rattle.sh_tree.specs.standard.Words.{lone_part}
use Rattle.sh_rules.proofs.BehindLemmas.{kept}
use Rattle.sh_rules.proofs.behind.keeps.Goals as goal

pub returns : goal.returns
returns c = λ h x o. kept x o c.args.item.now _ c.lone_part.result c.is_none.result c.if-item.false c.as_slice.ensures c.if-not-is_empty.ensures (c.lone_part.ensures ∙ ap lone_part c.as_slice-2.ensures) c.is_none.ensures h
