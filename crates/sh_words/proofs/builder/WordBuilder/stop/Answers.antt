use Rattle.std.proofs.Common.{ap, ◌∙◌, ◌∷◌}
use Rattle.sh_words.proofs.PartLemmas.{stop_done, close_steps, operation_stops}
use Rattle.sh_words.proofs.builder.WordBuilder.stop.Goals as goal

pub returns-in-None-clause-keeps : goal.returns-in-None-clause-keeps
returns-in-None-clause-keeps c =
    stop_done c.args.script.now c.args.self.now c.whole_word.new.self c.pop.new.self c.args.end c.whole_word.result c.in-None.ensures.0 c.requires.parts c.requires.stops
    c.whole_word.ensures.state c.whole_word.ensures.word

pub returns-in-Some-Opened-clause-keeps : goal.returns-in-Some-Opened-clause-keeps
returns-in-Some-Opened-clause-keeps c =
    let m = c.in-Some-Opened in
    close_steps c.args.script.now c.args.self.now c.close_part.new.self c.pop.new.self m.holder m.depth m.start m.inside m.opening c.args.end c.close_part.result
    (m.ensures ∙ ap (λ f. f ∷ c.pop.new.self) m.field-0-is) c.requires.sound.4 c.requires.parts c.requires.stops c.close_part.ensures

pub returns-clause-keeps : goal.returns-clause-keeps
returns-clause-keeps c =
    let m = c.in-Some-Operation in
    let frames = m.ensures ∙ ap (λ f. f ∷ c.pop.new.self) m.field-0-is in
    (c.requires.within, operation_stops c.args.script.now c.args.self.now c.pop.new.self m.field-0-0 c.args.end frames c.requires.stops)
