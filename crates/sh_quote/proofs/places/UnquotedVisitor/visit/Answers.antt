use Rattle.std.proofs.Common.{option_map}
use Rattle.sh_quote.proofs.WholeLemmas.{still_short, told_at_visit}
use Rattle.sh_quote.proofs.places.UnquotedVisitor.visit.Goals as goal

pub returns-then-self : goal.returns-then-self
returns-then-self c = λ k h. still_short c.args.self.now.is_short _ k c.args.script.now c.args._around c.args.command.now c.if-self.true h

pub returns : goal.returns
returns c = λ k h.
    told_at_visit c.add_command-added.result c.args.script.now c.args.self.now.calls.now c.args.self.now.steady c.args.self.now.places.items c.add_command-added.new.places.items
    c.args.command.now c.args._around (option_map (λ t. t.now) c.text-name.result) c.text-name.ensures c.add_command-added.ensures.kept c.add_command-added.ensures.some
    c.args.self.now.is_short c.is_err-self.result c.if-self.false c.is_err-self.ensures.value k h
