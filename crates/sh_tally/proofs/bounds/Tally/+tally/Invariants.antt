use Rattle.std.proofs.Common.{drop}
use Rattle.sh_tree.specs.Lists.{elements_from, operands_from, parts_from, redirects_from, words_from}
use Rattle.sh_rules.specs.Walks as walks
use Rattle.sh_tally.specs.Walks.{PassesValues, PassesWords}
use Rattle.sh_tally.proofs.IterationLemmas.{ListedPassed}
use Rattle.sh_tally.proofs.KindLemmas.{BranchesLeft, ClausesLeft, PatternsLeft}
use Rattle.sh_tally.proofs.RedirectLemmas.{RedirectsPassed}
use Rattle.sh_tally.proofs.WalkLemmas.{ItemsLeft, LinksLeft, PartsLeft}
use Rattle.sh_tally.proofs.WordLemmas.{OperandsPassed, PartsPassed}
use Rattle.sh_tally.proofs.bounds.Tally.+tally.Given as goal

abbrev pub invariant-items-loop-item : goal.invariant-items-loop-item
invariant-items-loop-item l = record { left : ItemsLeft l.self (walks.around l.self.script.now l.around) l.fn.known l.items l.initial.equations (drop l.item-index l.items) l.equations l.after }

abbrev pub invariant-links-loop-link : goal.invariant-links-loop-link
invariant-links-loop-link l = record { left : LinksLeft l.self (walks.around l.self.script.now l.around) l.fn.before l.links l.initial.equations (drop l.link-index l.links) l.equations l.after }

abbrev pub invariant-parts-loop-command : goal.invariant-parts-loop-command
invariant-parts-loop-command l = record { left : PartsLeft l.self (walks.around l.self.script.now l.around) l.known l.parts l.initial.equations (drop l.command-index l.parts) l.equations }

abbrev pub invariant-branches-loop-branch : goal.invariant-branches-loop-branch
invariant-branches-loop-branch l = record { left : BranchesLeft l.self (walks.around l.self.script.now l.around) l.number l.fn.known l.branches l.initial.equations (drop l.branch-index l.branches) l.equations l.left }

abbrev pub invariant-word_parts-loop-part : goal.invariant-word_parts-loop-part
invariant-word_parts-loop-part l = record { left : PartsPassed l.self (parts_from l.self.script.now l.parts) (parts_from l.self.script.now (drop l.part-index l.parts)) l.fn.known l.left l.initial.equations l.equations }

abbrev pub invariant-chain-loop-link : goal.invariant-chain-loop-link
invariant-chain-loop-link l = record { left : OperandsPassed l.self (operands_from l.self.script.now l.rest) (operands_from l.self.script.now (drop l.link-index l.rest)) l.fn.known l.left l.initial.equations l.equations }

abbrev pub invariant-operands-loop-element : goal.invariant-operands-loop-element
invariant-operands-loop-element l = record { left : PassesWords l.self (elements_from l.self.script.now l.elements) (elements_from l.self.script.now (drop l.element-index l.elements)) l.fn.known l.left l.initial.equations l.equations }

abbrev pub invariant-values-loop-element : goal.invariant-values-loop-element
invariant-values-loop-element l = record { left : PassesValues l.self (elements_from l.self.script.now l.elements) (elements_from l.self.script.now (drop l.element-index l.elements)) l.fn.known l.left l.initial.equations l.equations }

abbrev pub invariant-clauses-loop-clause : goal.invariant-clauses-loop-clause
invariant-clauses-loop-clause l = record { left : ClausesLeft l.self (walks.around l.self.script.now l.around) l.number l.known l.clauses l.initial.equations (drop l.clause-index l.clauses) l.equations l.left }

abbrev pub invariant-words-loop-word : goal.invariant-words-loop-word
invariant-words-loop-word l = record { left : ListedPassed l.self (words_from l.self.script.now l.words) (words_from l.self.script.now (drop l.word-index l.words)) l.fn.known l.left l.initial.equations l.equations }

abbrev pub invariant-redirects-loop-redirect : goal.invariant-redirects-loop-redirect
invariant-redirects-loop-redirect l = record { left : RedirectsPassed l.self (redirects_from l.self.script.now l.redirects) (redirects_from l.self.script.now (drop l.redirect-index l.redirects)) l.fn.known l.left l.initial.equations l.equations }

abbrev pub invariant-patterns-loop-pattern : goal.invariant-patterns-loop-pattern
invariant-patterns-loop-pattern l = record { left : PatternsLeft l.self l.known l.patterns l.initial.equations (drop l.pattern-index l.patterns) l.equations }
