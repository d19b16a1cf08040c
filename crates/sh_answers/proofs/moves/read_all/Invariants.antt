use Rattle.std.proofs.Common.{◌≡◌, ◌+◌, ◌-◌, ◌≤◌, vec_len}
use Rattle.std.specs.Io.KnownBytes.{Consumes}
use Rattle.sh_answers.proofs.moves.read_all.Given as goal

abbrev pub invariant-loop-chunk : goal.invariant-loop-chunk
invariant-loop-chunk g l =
    (vec_len l.text ≤ l.limit) × (l.borne ≤ 1024)
    × Consumes (g.R.Feed.remaining l.initial.reader) (g.R.Feed.remaining l.reader) l.text.items
    × (g.R.Feed.tally l.reader ≡ record (g.R.Feed.tally l.initial.reader) { interruptions = (g.R.Feed.tally l.initial.reader).interruptions + l.borne })
    × (g.R.Feed.cannot_fail l.initial.reader → g.R.Feed.cannot_fail l.reader)

abbrev pub decreases-loop-chunk : goal.decreases-loop-chunk
decreases-loop-chunk g l = (l.limit - vec_len l.text) + (1024 - l.borne)
