use Rattle.std.proofs.Common.{◌==◌, ◌∙◌, ap}
use Rattle.std.proofs.lemmas.List.{take_rest}
use Rattle.sh_tree.specs.standard.language.Bytes.{is_first}
use Rattle.sh_scan.proofs.words.sites.begins_at.Goals as goal

pub returns-clause-value : goal.returns-clause-value
returns-clause-value c = c.begins_with.ensures.value ∙ ap (λ ys. is_first (λ d. d == c.args.byte) ys) (take_rest c.args.rest.now c.args.from)
