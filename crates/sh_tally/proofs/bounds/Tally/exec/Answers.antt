use Rattle.std.proofs.Common.{◌≡◌, ◌-◌, ◌∷◌, ◌∙◌, None, drop, take, map, length, option_map, ap, sym}
use Rattle.std.proofs.lemmas.Result.{IfOk-weaker}
use Rattle.sh_tree.specs.Lists.{elements_from}
use Rattle.sh_table.specs.WordTexts.{text_in}
use Rattle.sh_rules.specs.Walks as walks
use Rattle.sh_tally.specs.Walks.{names}
use Rattle.sh_tally.proofs.SimpleLemmas.{exec_added, exec_failed, first_rest, none_mapped, nothing_run, unknown_run}
use Rattle.sh_tally.proofs.bounds.Tally.exec.Goals as goal

pub returns-in-empty : goal.returns-in-empty
returns-in-empty c =
    let s = c.args.self.now in
    let y = walks.around s.script.now c.args.around.now in
    let es = elements_from s.script.now c.args.elements.now in
    let none = none_mapped (text_in s.script.now) c.args.texts.now c.in-empty.len_below in
    IfOk-weaker c.leaves.result _ _
    (λ unit adds ws same. exec_added s y c.args.number es c.args.left ws c.args.equations.now c.leaves.new.equations c.both.result (nothing_run ws (same ∙ none)) (c.both.ensures (names s)) adds)
    c.leaves.ensures

pub returns-in-Some : goal.returns-in-Some
returns-in-Some c =
    let s = c.args.self.now in
    let y = walks.around s.script.now c.args.around.now in
    let es = elements_from s.script.now c.args.elements.now in
    IfOk-weaker c.bound.result _ _
    (λ unit adds ws same. exec_failed s y c.args.number es c.args.left ws c.args.equations.now c.bound.new.equations c.of.result c.of.ensures adds)
    c.bound.ensures

pub returns-in-None : goal.returns-in-None
returns-in-None c =
    let s = c.args.self.now in
    let b = s.script.now in
    let y = walks.around s.script.now c.args.around.now in
    let es = elements_from s.script.now c.args.elements.now in
    let xs = c.args.texts.now in
    let x = c.first-item.result in
    let rest = take (length xs - 1) (drop 1 xs) in
    let all : xs ≡ x ∷ rest = first_rest xs x c.in-len1-up.len_at_least c.first-item.is in
    let none : text_in b x ≡ None = sym c.get.ensures ∙ ap (option_map (λ t. t.now)) c.in-None.is in
    IfOk-weaker c.leaves-in-None.result _ _
    (λ unit adds ws same. exec_added s y c.args.number es c.args.left ws c.args.equations.now c.leaves-in-None.new.equations c.both-in-None.result
    (unknown_run ws (map (text_in b) rest) (same ∙ ap (map (text_in b)) all ∙ ap (λ o. o ∷ map (text_in b) rest) none)) (c.both-in-None.ensures (names s)) adds)
    c.leaves-in-None.ensures
