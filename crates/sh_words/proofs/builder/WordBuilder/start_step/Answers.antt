use Rattle.sh_words.proofs.PartLemmas.{start_keeps}
use Rattle.sh_words.proofs.builder.WordBuilder.start_step.Goals as goal

pub returns-clause-keeps : goal.returns-clause-keeps
returns-clause-keeps c = rw (c.context.ensures, c.first_prior.ensures, c.new.ensures) (start_keeps c.args.script.now c.args.self.now c.requires.sound.2)
