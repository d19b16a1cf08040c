use Rattle.std.proofs.Common.{◌≡◌, ◌+◌, ◌++◌, [], ◌∷◌, List, true, false, ap, ◌∙◌, rules, arith, drop}
use Rattle.sh_domain.specs.CompactReading.{loop_numbers}
use Rattle.sh_domain.specs.Reading.{is_loop, loops_of}
use Rattle.sh_facts.proofs.CompactReadLemmas.{numbers_on, number_pushed, number_skipped, numbers_end}
use Rattle.sh_facts.proofs.compact_reading.loop_numbers.Goals as goal
use Rattle.sh_facts.proofs.compact_reading.loop_numbers.Goals.{then-is_loop+in_ok-push, else-is_loop}

pub loop-command-preserved : goal.loop-command-preserved
loop-command-preserved c =
    let cs = c.args.commands.now in
    let j = c.loop-command.command-index in
    let number : c.loop-command.number + 1 ≡ j + 1 = ap (λ n. n + 1) c.loop-command.invariant.number in
    let ls = loops_of (drop (j + 1) cs) in
    let all = loop_numbers 1 (loops_of cs) in
    record {
      number = number;
      numbers = elim c.if-is_loop.branch [
        | then-is_loop+in_ok-push w ↦
            let loops : is_loop c.command-item.result.now ≡ true = search rules in
            let on = numbers_on cs j c.command-item.result c.loop-command.numbers.items true c.loop-command-test.true c.command-item.is loops c.loop-command.invariant.numbers in
            ap (λ (v : List _). v ++ loop_numbers (1 + (j + 1)) ls) (ap (λ x. x.items) w.numbers-is ∙ w.in_ok-push.ensures.items ∙ ap (λ n. c.loop-command.numbers.items ++ n ∷ []) number)
            ∙ number_pushed c.loop-command.numbers.items j ls all on
        | else-is_loop w ↦
            let none : is_loop c.command-item.result.now ≡ false = search rules in
            let on = numbers_on cs j c.command-item.result c.loop-command.numbers.items false c.loop-command-test.true c.command-item.is none c.loop-command.invariant.numbers in
            ap (λ x. x.items ++ loop_numbers (1 + (j + 1)) ls) w.numbers-is ∙ number_skipped c.loop-command.numbers.items j ls all on
      ];
    }

pub returns : goal.returns
returns c = numbers_end c.args.commands.now c.loop-command.command-index c.loop-command.numbers.items (omega (arith, c.loop-command-test.false)) c.loop-command.invariant.numbers
