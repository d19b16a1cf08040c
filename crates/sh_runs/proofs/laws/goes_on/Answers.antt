use Rattle.sh_runs.proofs.WorldLemmas.{has_step, run_ordered, some_awake, nobody_waited}
use Rattle.sh_runs.proofs.laws.goes_on.Goals as goal

pub returns-clause-some : goal.returns-clause-some
returns-clause-some c = λ t e f moves w h on p lives.
    let o = run_ordered e f t moves w h in
    let q = some_awake w w.next_process o o.below p lives in
    (q.0, λ a. has_step w (record { process = q.0; answer = a }) on q.1 q.2)

pub returns-clause-each : goal.returns-clause-each
returns-clause-each c = λ t e f moves w h on p lives nobody a. has_step w (record { process = p; answer = a }) on lives (nobody_waited w p nobody)
