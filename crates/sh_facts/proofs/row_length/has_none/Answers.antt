use Rattle.std.proofs.Common.{◌∙◌, List, ℕ, get_or, length, sym, ap, arith}
use Rattle.std.specs.Option.{option_copied}
use Rattle.std.proofs.lemmas.Bool.{eqb-true}
use Rattle.sh_facts.proofs.RowLengthLemmas.{no_row, no_word, word_held}
use Rattle.sh_facts.proofs.row_length.has_none.Goals as goal

pub returns-in_default : goal.returns-in_default
returns-in_default c = λ e k w. no_row c.args.rows.now.rows c.args.row.index (sym c.row.ensures.row ∙ ap option_copied c.in_default.is) k

pub returns-in-Some-get : goal.returns-in-Some-get
returns-in-Some-get c = λ e k w.
    word_held c.args.rows.now.rows c.args.row.index c.in-Some.row.now c.args.index (sym c.in-Some.ensures.row)
    (ap (λ (ws : List ℕ). get_or ws c.args.index 0) (sym c.words.ensures) ∙ sym (c.in-Some-get.ensures.lookup.3.1 0) ∙ eqb-true c.in-Some-get.word.now 0 e) k w

pub returns-in-None : goal.returns-in-None
returns-in-None c = λ e k w.
    no_word c.args.rows.now.rows c.args.row.index c.in-Some.row.now c.args.index (sym c.in-Some.ensures.row) (omega (arith, c.in-None.ensures.lookup.3, ap (λ (ws : List ℕ). length ws) c.words.ensures)) k w
