use Rattle.std.proofs.Common.{◌≡◌, ◌+◌, ◌-◌, ◌≤◌, length, take}
use Rattle.std.specs.Io.KnownBytes.{Appends}
use Rattle.sh_answers.proofs.moves.write_all.Given as goal

abbrev pub invariant-loop-at : goal.invariant-loop-at
invariant-loop-at g l =
    (l.at ≤ length l.text) × (l.borne ≤ 1024)
    × Appends (g.W.Outlet.contents l.initial.writer) (g.W.Outlet.contents l.writer) (take l.at l.text)
    × (g.W.Outlet.tally l.writer ≡ record (g.W.Outlet.tally l.initial.writer) { interruptions = (g.W.Outlet.tally l.initial.writer).interruptions + l.borne })

abbrev pub decreases-loop-at : goal.decreases-loop-at
decreases-loop-at g l = (length l.text - l.at) + (1024 - l.borne)
