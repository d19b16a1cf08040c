use Rattle.std.proofs.Common.{◌≡◌, rules, false, sym, ◌∙◌}
use Rattle.sh_words.specs.declared.frames.Focus.TheVariants as focus
use Rattle.sh_words.specs.Rest.{Left, LeftPart}
use Rattle.sh_words.specs.Signs.{is_stop}
use Rattle.sh_words.specs.States.{focused}
use Rattle.sh_words.proofs.Exchange.{steps_alike}
use Rattle.sh_words.proofs.PartLemmas.{no_parts_left, part_alike, part_takes, tabs_keep}
use Rattle.sh_words.proofs.builder.WordBuilder.parts_step.Goals as goal

pub returns-in_default-clause-keeps : goal.returns-in_default-clause-keeps
returns-in_default-clause-keeps c = (c.requires.inside, no_parts_left c.args.script.now c.args.self.now c.in_default.field-0 c.in_default.field-1 c.in_default.is)

pub returns-then-is_part-clause-keeps : goal.returns-then-is_part-clause-keeps
returns-then-is_part-clause-keeps c =
    let b = c.args.script.now in
    let w = c.args.self.now in
    let m = c.in-Parts in
    let t = c.token_at-token.result in
    steps_alike b (Left b (focused w focus.Parts)) (LeftPart b w t.sign w.at t.end) c.part_step.new.self c.part_step.result
    (part_alike b w m.context m.prior m.parts t m.is c.token_at-token.ensures.value (sym c.is_part.ensures ∙ c.if-is_part.true)) c.part_step.ensures.keeps

pub returns-else-eq-clause-keeps : goal.returns-else-eq-clause-keeps
returns-else-eq-clause-keeps c =
    let m = c.in-Parts in
    let other : is_stop c.token_at-token.result.sign ≡ false = search rules in
    tabs_keep c.args.script.now c.args.self.now c.skip_tabs.new.self m.context m.prior m.parts c.token_at-token.result m.is c.token_at-token.ensures.value
    (sym c.is_part.ensures ∙ c.if-is_part.false) other c.skip_tabs.ensures

pub returns-then-is_part-clause-takes : goal.returns-then-is_part-clause-takes
returns-then-is_part-clause-takes c = part_takes c.args.script.now c.args.self.now c.part_step.new.self c.part_step.result c.part_step.ensures.takes
