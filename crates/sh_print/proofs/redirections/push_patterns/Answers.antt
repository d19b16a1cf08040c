use Rattle.std.proofs.Common.{◌-◌, codes, map, take, drop, length, ap}
use Rattle.std.proofs.lemmas.List.{drop_all}
use Rattle.sh_print.specs.Trees.{word_of}
use Rattle.sh_print.proofs.TextLemmas.{first_rest, separated_done}
use Rattle.sh_print.proofs.redirections.push_patterns.Goals as goal

pub returns : goal.returns
returns c =
    let xs = c.args.patterns.now in
    let rest = take (length xs - 1) (drop 1 xs) in
    separated_done (codes " | ") ((map (word_of c.args.script.now)) xs) ((map (word_of c.args.script.now)) (drop c.loop-pattern.pattern-index rest)) ((map (word_of c.args.script.now)) rest) (word_of c.args.script.now c.first-item.result) c.args.out.now.items c.push_word.new.out.items c.loop-pattern.out.items
    (ap (map (word_of c.args.script.now)) (first_rest xs c.first-item.result c.in-len1-up.len_at_least c.first-item.is)) c.in_ok-push_word.ensures (ap (map (word_of c.args.script.now)) (drop_all c.loop-pattern.pattern-index rest c.loop-pattern-test.false)) c.loop-pattern.invariant
