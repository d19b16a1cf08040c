use Rattle.std.proofs.Common.{◌≡◌, ◌-◌, ◌∷◌, Some, None, drop, take, map, length, option_map, refl, sym, ap, ◌∙◌, subst}
use Rattle.std.proofs.lemmas.Result.{IfOk-weaker}
use Rattle.sh_tree.specs.Lists.{elements_from}
use Rattle.sh_table.specs.WordTexts.{text_in}
use Rattle.sh_domain.specs.Table.{manner_of_name}
use Rattle.sh_rules.specs.TextBounds.{behind_name}
use Rattle.sh_rules.specs.Walks as walks
use Rattle.sh_tally.specs.Walks.{AddsManner, names}
use Rattle.sh_tally.proofs.SimpleLemmas.{first_rest, nameless_added, nameless_simple, named_simple, neutral_added, none_mapped, unnamed_manner}
use Rattle.sh_tally.proofs.bounds.Tally.simple_bounds.Goals as goal

pub returns-in-empty : goal.returns-in-empty
returns-in-empty c =
    let s = c.args.self.now in
    let y = walks.around s.script.now c.args.around.now in
    let es = elements_from s.script.now c.args.elements.now in
    let few = c.in-empty.len_below in
    IfOk-weaker c.leaves.result _ _
    (λ unit adds. nameless_simple s y c.args.number es c.args.left c.args.equations.now c.leaves.new.equations (map (text_in s.table.now.script) c.texts.result.now)
    (λ same. none_mapped (text_in s.table.now.script) c.texts.result.now few) (λ texts. c.texts.ensures ∙ texts.texts)
    (nameless_added s y c.args.number es c.args.left c.both.result c.args.equations.now c.leaves.new.equations (c.both.ensures (names s)) adds))
    c.leaves.ensures

pub returns-in-Some : goal.returns-in-Some
returns-in-Some c =
    let s = c.args.self.now in
    let b = s.script.now in
    let y = walks.around s.script.now c.args.around.now in
    let es = elements_from s.script.now c.args.elements.now in
    let xs = c.texts.result.now in
    let x = c.name-item.result in
    let rest = take (length xs - 1) (drop 1 xs) in
    let all : xs ≡ x ∷ rest = first_rest xs x c.in-len1-up.len_at_least c.name-item.is in
    let one : Some c.in-Some.name.now ≡ text_in b x = sym (ap (option_map (λ t. t.now)) c.in-Some.is) ∙ c.get.ensures in
    IfOk-weaker c.named.result _ _
    (λ unit adds. named_simple s y c.args.number es c.args.left c.args.equations.now c.named.new.equations (text_in b x) (map (text_in b) rest)
    (λ texts. ap (map (text_in b)) (sym all) ∙ ap (λ z. map (text_in z) xs) (sym texts.script) ∙ c.texts.ensures ∙ texts.texts)
    (λ same. subst (λ o. AddsManner s y c.args.number es c.args.left (manner_of_name (names s) o (behind_name es)) c.args.equations.now c.named.new.equations) one (adds (behind_name es) refl same)))
    c.named.ensures

pub returns-in-None : goal.returns-in-None
returns-in-None c =
    let s = c.args.self.now in
    let b = s.script.now in
    let y = walks.around s.script.now c.args.around.now in
    let es = elements_from s.script.now c.args.elements.now in
    let xs = c.texts.result.now in
    let x = c.name-item.result in
    let rest = take (length xs - 1) (drop 1 xs) in
    let all : xs ≡ x ∷ rest = first_rest xs x c.in-len1-up.len_at_least c.name-item.is in
    let none : None ≡ text_in b x = sym (ap (option_map (λ t. t.now)) c.in-None.is) ∙ c.get.ensures in
    IfOk-weaker c.leaves-in-None.result _ _
    (λ unit adds. named_simple s y c.args.number es c.args.left c.args.equations.now c.leaves-in-None.new.equations (text_in b x) (map (text_in b) rest)
    (λ texts. ap (map (text_in b)) (sym all) ∙ ap (λ z. map (text_in z) xs) (sym texts.script) ∙ c.texts.ensures ∙ texts.texts)
    (λ same. subst (λ o. AddsManner s y c.args.number es c.args.left (manner_of_name (names s) o (behind_name es)) c.args.equations.now c.leaves-in-None.new.equations) none
    (subst (λ m. AddsManner s y c.args.number es c.args.left m c.args.equations.now c.leaves-in-None.new.equations) (sym (unnamed_manner (names s) (behind_name es)))
    ((neutral_added s y c.args.number es c.args.left (behind_name es) c.args.equations.now c.leaves-in-None.new.equations c.both-in-None.result (c.both-in-None.ensures (names s)) adds).3))))
    c.leaves-in-None.ensures
