use Rattle.std.proofs.Common.{Ok, ◌+◌, ◌≤◌, ◌∙◌, length, sym, ap, subst}
use Rattle.std.proofs.lemmas.Result.{err_from_is_err_and}
use Rattle.sh_words.specs.Clauses.{Answers}
use Rattle.sh_words.specs.Modes.{seen}
use Rattle.sh_words.specs.Rest.{Left}
use Rattle.sh_words.specs.States.{fed}
use Rattle.sh_words.specs.Sound.{RunMoves, TakesWord}
use Rattle.sh_grammar.specs.Readers.{Refused}
use Rattle.sh_grammar.specs.Substitutions.{AskedFrom, Handed}
use Rattle.sh_grammar.proofs.WordLemmas.{Driven, word_refused, word_done, inner_refused, driven_fed, fed_moves}
use Rattle.sh_grammar.proofs.grammar.Grammar.built.Goals as goal

pub returns-in_err-word : goal.returns-in_err-word
returns-in_err-word g c =
    let at = c.loop-last in
    let d = at.invariant.driven in
    let residual = c.from_residual-in_err-word in
    let p = err_from_is_err_and residual.result residual.ensures.1 in
    rw (p.1, p.2) (word_refused c.args.script.now c.args.mode c.requires.whole c.args.at c.args.from at.last at.builder d c.run.new.self _ (c.in_err-word.ensures.runs d.goes))

pub returns-in-Done : goal.returns-in-Done
returns-in-Done g c =
    let at = c.loop-last in
    let d = at.invariant.driven in
    let b = c.args.script.now in
    let w = at.builder in
    let new = c.run.new.self in
    let text = seen b w.mode in
    let found = c.in_ok-word.ensures in
    word_done b c.args.mode c.requires.whole c.args.at c.args.from at.last w d new c.in-Done.word
    (subst (λ n. Answers text (Left text w) new n) c.in-Done.is (found.runs d.goes)) (subst (λ n. RunMoves text w new (Ok n)) c.in-Done.is found.moves)
    (subst (λ n. TakesWord text w new (Ok n)) c.in-Done.is found.takes)

pub returns-in_err-commands-in-Inner : goal.returns-in_err-commands-in-Inner
returns-in_err-commands-in-Inner g c =
    let at = c.loop-last in
    let d = at.invariant.driven in
    let b = c.args.script.now in
    let w = at.builder in
    let new = c.run.new.self in
    let n = c.in-Inner in
    let text = seen b w.mode in
    let asked = subst (λ x. Answers text (Left text w) new x) n.is (c.in_ok-word.ensures.runs d.goes) in
    let residual = c.from_residual-in_err-commands-in-Inner in
    let p = err_from_is_err_and residual.result residual.ensures.1 in
    rw (p.1, p.2) (inner_refused b c.args.mode c.requires.whole c.args.at c.args.from at.last w d new asked.0 n.at n.depth n.style n.quoted asked.2 _
    (subst (λ s. Refused b (AskedFrom b n.style n.quoted n.at n.depth s) c.in_err-commands-in-Inner.field-0.0) c.get-here.ensures c.in_err-commands-in-Inner.ensures.hands))

pub loop-last-smaller : goal.loop-last-smaller
loop-last-smaller g c =
    let at = c.loop-last in
    let d = at.invariant.driven in
    let b = c.args.script.now in
    let w = at.builder in
    let new = c.run.new.self in
    let n = c.in-Inner in
    let text = seen b w.mode in
    let found = c.in_ok-commands-in-Inner in
    let asked = subst (λ x. Answers text (Left text w) new x) n.is (c.in_ok-word.ensures.runs d.goes) in
    fed_moves b c.args.mode c.requires.whole c.args.at c.args.from at.last w d new asked.0 n.at n.depth n.style n.quoted asked.2 asked.1
    (subst (λ x. RunMoves text w new (Ok x)) n.is c.in_ok-word.ensures.moves) c.resume.new.self found.commands found.end
    (subst (λ s. Handed b n.style n.quoted n.at n.depth s found.commands found.end) c.get-here.ensures found.ensures.hands)
    (λ start style waits goes. c.in_ok-resume-in-Inner.ensures.gives start style waits goes ∙ ap (λ i. fed new start style found.commands (i + 1)) c.at.ensures)

pub loop-last-preserved : goal.loop-last-preserved
loop-last-preserved g c =
    let at = c.loop-last in
    let d = at.invariant.driven in
    let b = c.args.script.now in
    let w = at.builder in
    let new = c.run.new.self in
    let n = c.in-Inner in
    let text = seen b w.mode in
    let found = c.in_ok-commands-in-Inner in
    let asked = subst (λ x. Answers text (Left text w) new x) n.is (c.in_ok-word.ensures.runs d.goes) in
    record {
      driven = subst (λ v. Driven b c.args.mode c.args.at c.args.from c.resume.new.self v) (sym (c.counting-last.ensures ∙ ap (λ k. record at.last { count = k }) c.count.ensures))
          (driven_fed b c.args.mode c.requires.whole c.args.at c.args.from at.last w d new asked.0 n.at n.depth n.style n.quoted asked.2 asked.1
          (subst (λ x. RunMoves text w new (Ok x)) n.is c.in_ok-word.ensures.moves) c.resume.new.self found.commands found.end
          (subst (λ s. Handed b n.style n.quoted n.at n.depth s found.commands found.end) c.get-here.ensures found.ensures.hands)
          (λ start style waits goes. c.in_ok-resume-in-Inner.ensures.gives start style waits goes ∙ ap (λ i. fed new start style found.commands (i + 1)) c.at.ensures)
          (λ x inside. c.in_ok-resume-in-Inner.ensures.sound x (subst (λ i. i + 1 ≤ length x) (sym c.at.ensures) inside)));
    }
