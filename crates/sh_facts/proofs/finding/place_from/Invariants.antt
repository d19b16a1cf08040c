use Rattle.sh_facts.proofs.finding.place_from.Given as goal

abbrev pub decreases-loop-step : goal.decreases-loop-step
decreases-loop-step l = l.step
