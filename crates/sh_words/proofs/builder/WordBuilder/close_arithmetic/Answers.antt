use Rattle.std.proofs.Common.{◌≡◌, rules, false, sym, ◌∙◌, refl}
use Rattle.sh_tree.proofs.Inversions.{apart}
use Rattle.sh_words.specs.Lexemes.{is_close}
use Rattle.sh_words.specs.States.{is_arithmetic}
use Rattle.sh_words.proofs.BadLemmas.{bad_is_fault}
use Rattle.sh_words.proofs.OperationLemmas.{not_closed_faults}
use Rattle.sh_words.proofs.builder.WordBuilder.close_arithmetic.Goals as goal
use Rattle.sh_words.proofs.builder.WordBuilder.close_arithmetic.Goals.{then-not-is_arithmetic-via-then-not-is_arithmetic}
use Rattle.sh_words.proofs.builder.WordBuilder.close_arithmetic.Goals.{then-not-is_arithmetic-via-else-not-is_arithmetic+then-ne}

pub returns-then-not-is_arithmetic : goal.returns-then-not-is_arithmetic
returns-then-not-is_arithmetic c =
    not_closed_faults c.args.script.now c.args.self.now c.args.self.now c.args.holder c.args.depth c.args.start c.args.opening c.args.expr c.args.token c.bad.result
    (rw c.bad.ensures (bad_is_fault c.args.script.now c.args.self.now.at c.args.token c.args.self.now.holder c.requires.token c.requires.began))
    (λ q. elim c.then-not-is_arithmetic.branch [
      | then-not-is_arithmetic-via-then-not-is_arithmetic w ↦ apart is_arithmetic (sym q.0) refl (sym c.is_arithmetic.ensures ∙ w.if-not-is_arithmetic.true)
      | then-not-is_arithmetic-via-else-not-is_arithmetic+then-ne w ↦ let other : is_close c.args.token.figure ≡ false = search rules in apart is_close (sym q.1) refl other
    ])
