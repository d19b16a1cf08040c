use Rattle.std.proofs.Common.{◌≡◌, sym, ap, ◌∙◌, subst}
use Rattle.sh_tree.specs.standard.language.Words.{token}
use Rattle.sh_words.specs.Clauses.{Refuses}
use Rattle.sh_words.specs.Rest.{IsOperand, LeftPart}
use Rattle.sh_words.specs.States.{context_in}
use Rattle.sh_words.proofs.Exchange.{steps_alike, fault_refuses}
use Rattle.sh_words.proofs.FaultLemmas.{no_part_is_fault}
use Rattle.sh_words.proofs.OperandLemmas.{Operand, no_operand_of_parts, expansion_alike, no_expansion}
use Rattle.sh_words.proofs.builder.WordBuilder.expansion_step.Goals as goal

pub returns-in_default-clause-keeps : goal.returns-in_default-clause-keeps
returns-in_default-clause-keeps c =
    let p = c.in_default in (c.requires.inside, no_operand_of_parts c.args.script.now c.args.self.now p.field-0 p.field-1 p.field-2 p.is)

pub returns-then-is_expansion-clause-keeps : goal.returns-then-is_expansion-clause-keeps
returns-then-is_expansion-clause-keeps c =
    let b = c.args.script.now in
    let w = c.args.self.now in
    let t = c.token_at-token.result in
    let operand : IsOperand w.holder = subst IsOperand (sym c.in-Operand.is) tt in
    let is : t ≡ token b (context_in w.holder) 0 c.args.start = c.token_at-token.ensures.value ∙ ap (λ h. token b (context_in h) 0 c.args.start) (sym c.in-Operand.is) in
    steps_alike b (Operand b w) (LeftPart b w t.sign c.args.start t.end) c.part_step.new.self c.part_step.result
    (expansion_alike b w t c.args.start operand c.requires.dollar c.requires.here is (sym c.is_expansion.ensures ∙ c.if-is_expansion.true)) c.part_step.ensures.keeps

pub returns-clause-keeps : goal.returns-clause-keeps
returns-clause-keeps c =
    let b = c.args.script.now in
    let w = c.args.self.now in
    let t = c.token_at-token.result in
    let is : t ≡ token b (context_in w.holder) 0 c.args.start = c.token_at-token.ensures.value ∙ ap (λ h. token b (context_in h) 0 c.args.start) (sym c.in-Operand.is) in
    subst (λ e. Refuses b (Operand b w) e) (sym c.no_part.ensures) (fault_refuses b (Operand b w) _
    (no_part_is_fault b w.base c.args.start t.end w.frames t.sign c.requires.inside c.token_at-token.ensures.within c.token_at-token.ensures.told c.requires.sound.4)
    (no_expansion b w t c.args.start c.requires.dollar c.requires.here is (sym c.is_expansion.ensures ∙ c.if-is_expansion.false)))
