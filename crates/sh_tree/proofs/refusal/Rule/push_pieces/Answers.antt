use Rattle.std.specs.Prelude.{codes, ◌++◌}
use Rattle.std.proofs.Common.{◌∙◌, ap}
use Rattle.sh_tree.specs.standard.Texts.{rule_name}
use Rattle.sh_tree.proofs.RefusalLemmas.{rule_done}
use Rattle.sh_tree.proofs.refusal.Rule.push_pieces.Goals as goal

pub returns-clause-ok : goal.returns-clause-ok
returns-clause-ok c =
    let out = c.args.out.now.items in
    let a = c.extend_from_slice.new.self.items in
    let b = c.extend_from_slice-2.new.self.items in
    rule_done out a b _ c.pieces.result.0.now c.pieces.result.1.now (codes " is outside the profile") (rule_name c.args.self)
    (c.in_ok-extend_from_slice.ensures.items ∙ ap (λ l. out ++ l) c.as_bytes.ensures.value)
    (c.in_ok-extend_from_slice-2.ensures.items ∙ ap (λ l. a ++ l) c.as_bytes-2.ensures.value)
    (c.in_ok-extend_from_slice-3.ensures.items ∙ ap (λ l. b ++ l) c.as_bytes-3.ensures.value)
    c.pieces.ensures
