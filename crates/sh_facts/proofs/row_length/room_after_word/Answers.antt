use Rattle.std.proofs.Common.{◌≡◌, ◌+◌, ◌-◌, ◌/◌, ◌∙◌, ap, arith}
use Rattle.sh_facts.specs.Room.{bytes_from}
use Rattle.sh_facts.proofs.RowLengthLemmas.{none_held}
use Rattle.sh_facts.proofs.row_length.room_after_word.Goals as goal

pub returns-then-has_none : goal.returns-then-has_none
returns-then-has_none c =
    let order = c.requires.order in
    let word = c.requires.word in
    let end : c.args.from + (c.args.to - c.args.from) ≡ c.args.to = omega arith in
    ap (λ n. c.args.room + n)
    (none_held c.args.rows.now c.args.row c.args.names.now (c.args.to - c.args.from) c.args.from (omega (arith, c.requires.within))
    (λ n l u. c.has_none.ensures c.if-has_none.true n (let same : n / 64 ≡ c.args.from / 64 = omega arith in same))
    ∙ ap (bytes_from c.args.rows.now c.args.row c.args.names.now) end)
