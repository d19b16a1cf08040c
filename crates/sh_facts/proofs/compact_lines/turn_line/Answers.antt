use Rattle.std.proofs.Common.{refl}
use Rattle.sh_facts.specs.Fields.{line_of}
use Rattle.sh_facts.proofs.compact_lines.turn_line.Goals as goal

pub returns-in_err-line : goal.returns-in_err-line
unfolding line_of
returns-in_err-line c = rw (c.from_residual.ensures, ← c.in_err-line.ensures.at) refl

pub returns-in_err-turn_in : goal.returns-in_err-turn_in
unfolding line_of
returns-in_err-turn_in c = rw (c.from_residual-in_err-turn_in.ensures, ← c.in_ok-line.ensures.at, ← c.in_err-turn_in.ensures) refl

pub returns : goal.returns
unfolding line_of
returns c = rw (← c.in_ok-line.ensures.at, ← c.in_ok-turn_in.ensures) refl
