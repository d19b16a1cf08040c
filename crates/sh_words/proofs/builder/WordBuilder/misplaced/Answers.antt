use Rattle.sh_words.proofs.BadLemmas.{bad_is_fault}
use Rattle.sh_words.proofs.builder.WordBuilder.misplaced.Goals as goal

pub returns-then-token-self : goal.returns-then-token-self
returns-then-token-self c = rw c.bad.ensures (bad_is_fault c.args.script.now c.args.self.now.at c.args.token c.args.self.now.holder c.requires.token c.requires.began)

pub returns-in_default : goal.returns-in_default
returns-in_default c =
    rw c.bad-in_default.ensures (bad_is_fault c.args.script.now c.args.self.now.at c.args.token c.args.self.now.holder c.requires.token c.requires.began)

pub returns-then-matches : goal.returns-then-matches
returns-then-matches c =
    rw c.bad-then-matches.ensures (bad_is_fault c.args.script.now c.args.self.now.at c.args.token c.args.self.now.holder c.requires.token c.requires.began)
