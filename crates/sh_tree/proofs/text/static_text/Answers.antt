use Rattle.std.proofs.Common.{◌≡◌, false, rules}
use Rattle.sh_tree.specs.standard.Words.{is_pattern}
use Rattle.sh_tree.proofs.ResultLemmas.{whatever}
use Rattle.sh_tree.proofs.text.static_text.Goals as goal

pub returns-clause-pattern : goal.returns-clause-pattern
returns-clause-pattern c =
    let plain : is_pattern c.args.script.now c.args.word.now.parts ≡ false = search rules in
    whatever c.unquoted_text.result plain
