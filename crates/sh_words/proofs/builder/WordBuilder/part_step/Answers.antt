use Rattle.std.proofs.Common.{◌≡◌, rules, false, sym, ap, ◌∙◌, subst}
use Rattle.sh_words.specs.Clauses.{Steps}
use Rattle.sh_words.specs.Signs.{is_substitution}
use Rattle.sh_words.specs.States.{opening_of}
use Rattle.sh_words.specs.Rest.{LeftPart}
use Rattle.sh_words.specs.Faults.{no_part}
use Rattle.sh_words.proofs.Exchange.{fault_refuses}
use Rattle.sh_words.proofs.FaultLemmas.{no_part_is_fault}
use Rattle.sh_words.proofs.PartLemmas.{whole_keeps, whole_works, whole_takes, opening_steps, opening_works, opening_takes, no_part_left}
use Rattle.sh_words.proofs.builder.WordBuilder.part_step.Goals as goal

pub returns-in-Some-clause-keeps : goal.returns-in-Some-clause-keeps
returns-in-Some-clause-keeps c =
    rw (c.in_ok-give.ensures, c.prior_after-next.ensures)
    (whole_keeps c.args.script.now c.args.self.now c.args.token.sign c.args.start c.args.token.end c.in-Some.part (sym c.whole_part.ensures ∙ c.in-Some.is))

pub returns-in-Some-clause-works : goal.returns-in-Some-clause-works
returns-in-Some-clause-works c =
    rw (c.in_ok-give.ensures)
    (whole_works c.args.script.now c.args.self.now c.args.token.sign c.args.start c.args.token.end c.prior_after-next.result c.in-Some.part c.requires.after c.requires.token.1
    c.requires.token.2 (sym c.whole_part.ensures ∙ c.in-Some.is))

pub returns-in-Some-opening_of-clause-keeps : goal.returns-in-Some-opening_of-clause-keeps
returns-in-Some-opening_of-clause-keeps c =
    let t = c.args.token in
    opening_steps c.args.script.now c.args.self.now c.open_part.new.self t.sign c.args.start t.end c.in-Some-opening_of.opening c.in-Some-opening_of.context c.open_part.result
    c.requires.inside c.requires.token.1 (ap (λ x. opening_of x t.sign t.end) (sym c.context.ensures) ∙ sym c.opening_of.ensures ∙ c.in-Some-opening_of.is) c.open_part.ensures

pub returns-in-Some-opening_of-clause-works : goal.returns-in-Some-opening_of-clause-works
returns-in-Some-opening_of-clause-works c =
    let t = c.args.token in
    opening_works c.args.script.now c.args.self.now c.open_part.new.self t.sign c.args.start t.end c.in-Some-opening_of.opening c.in-Some-opening_of.context c.open_part.result
    c.requires.after c.requires.token.1 c.requires.token.2 (ap (λ x. opening_of x t.sign t.end) (sym c.context.ensures) ∙ sym c.opening_of.ensures ∙ c.in-Some-opening_of.is)
    c.open_part.ensures

pub returns-in-Substitution-clause-keeps : goal.returns-in-Substitution-clause-keeps
returns-in-Substitution-clause-keeps c =
    let t = c.args.token in
    subst (λ s. Steps c.args.script.now (LeftPart c.args.script.now c.args.self.now s c.args.start t.end) c.substitution_step.new.self c.substitution_step.result) (sym c.in-Substitution.is)
    c.substitution_step.ensures.keeps

pub returns-clause-keeps : goal.returns-clause-keeps
returns-clause-keeps c =
    let b = c.args.script.now in
    let w = c.args.self.now in
    let t = c.args.token in
    let other : is_substitution t.sign ≡ false = search rules in
    rw (c.no_part.ensures)
    (fault_refuses b (LeftPart b w t.sign c.args.start t.end) (no_part w.frames t.sign c.args.start t.end)
    (no_part_is_fault b w.base c.args.start t.end w.frames t.sign c.requires.inside c.requires.token.1 c.requires.token.3 c.requires.sound.4)
    (no_part_left b w t.sign c.args.start t.end (sym c.whole_part.ensures ∙ c.in_default.is)
    (ap (λ x. opening_of x t.sign t.end) (sym c.context.ensures) ∙ sym c.opening_of.ensures ∙ c.in_default-opening_of.is)
    other))

pub returns-in-Some-clause-takes : goal.returns-in-Some-clause-takes
returns-in-Some-clause-takes c =
    rw (c.in_ok-give.ensures)
    (whole_takes c.args.token.sign c.args.start c.args.token.end c.in-Some.part c.requires.token.2 (sym c.whole_part.ensures ∙ c.in-Some.is))

pub returns-in-Some-opening_of-clause-takes : goal.returns-in-Some-opening_of-clause-takes
returns-in-Some-opening_of-clause-takes c =
    let t = c.args.token in
    opening_takes c.args.script.now c.args.self.now c.open_part.new.self t.sign c.args.start t.end c.in-Some-opening_of.opening c.in-Some-opening_of.context c.open_part.result
    c.requires.token.2 (ap (λ x. opening_of x t.sign t.end) (sym c.context.ensures) ∙ sym c.opening_of.ensures ∙ c.in-Some-opening_of.is) c.open_part.ensures
