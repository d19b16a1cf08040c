use Rattle.std.proofs.Common.{◌≡◌, ◌≤◌, length, Ok, sym, ap, ◌∙◌, subst}
use Rattle.sh_words.specs.declared.builder.WordBuilder.{WordBuilder}
use Rattle.sh_words.specs.declared.builder.Next.TheVariants.{Inner}
use Rattle.sh_words.specs.Clauses.{Answers}
use Rattle.sh_words.specs.Modes.{seen}
use Rattle.sh_words.specs.Rest.{Left}
use Rattle.sh_words.specs.Sound.{IsSound, RunMoves}
use Rattle.sh_words.specs.States.{fed}
use Rattle.show_tree.proofs.word.read_on.Goals as goal

-- commands were asked for
asked : (c : goal.In-Ok) → Answers (seen c.args.text.now c.args.builder.now.mode) (Left (seen c.args.text.now c.args.builder.now.mode) c.args.builder.now) c.run.new.self
    (Inner c.in-Ok-Inner.at c.in-Ok-Inner.depth c.in-Ok-Inner.style c.in-Ok-Inner.field-0-3)
asked c =
    subst (λ n. Answers (seen c.args.text.now c.args.builder.now.mode) (Left (seen c.args.text.now c.args.builder.now.mode) c.args.builder.now) c.run.new.self n)
    c.in-Ok-Inner.field-0-is (c.in-Ok-Inner.ensures.runs c.requires.continues.reads)

moved : (c : goal.In-Ok) → RunMoves (seen c.args.text.now c.args.builder.now.mode) c.args.builder.now c.run.new.self (Ok (Inner c.in-Ok-Inner.at c.in-Ok-Inner.depth c.in-Ok-Inner.style c.in-Ok-Inner.field-0-3))
moved c =
    subst (λ n. RunMoves (seen c.args.text.now c.args.builder.now.mode) c.args.builder.now c.run.new.self (Ok n)) c.in-Ok-Inner.field-0-is c.in-Ok-Inner.ensures.moves

-- and handed back
fed_is : (c : goal.In-Ok) → c.resume.new.self ≡ fed c.run.new.self (asked c).0 c.in-Ok-Inner.style c.no_commands.result c.closed-end.result
fed_is c = c.in-Ok.ensures.gives (asked c).0 c.in-Ok-Inner.style (asked c).1 ((moved c).5.3 ∙ c.requires.continues.reads)

pub returns-in-Ok : goal.returns-in-Ok
returns-in-Ok c = λ _. record {
  mode = ap (λ (w : WordBuilder). w.mode) (fed_is c) ∙ (moved c).5.0 ∙ c.requires.continues.mode;
  reads = ap (λ (w : WordBuilder). w.failed) (fed_is c) ∙ (moved c).5.3 ∙ c.requires.continues.reads;
  inside = subst (λ text. c.resume.new.self.at ≤ length text) c.seen.ensures.value
      (subst (λ at. at ≤ length c.seen.result.now) (sym (ap (λ (w : WordBuilder). w.at) (fed_is c))) c.closed-end.ensures);
  sound = c.in-Ok.ensures.sound (seen c.args.text.now c.args.mode) (subst (λ text. c.closed-end.result ≤ length text) c.seen.ensures.value c.closed-end.ensures)
      (subst (λ m. IsSound (seen c.args.text.now m) c.run.new.self) c.requires.continues.mode (moved c).6);
}
