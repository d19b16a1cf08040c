use Rattle.std.proofs.Common.{◌≡◌, false, IfSome, sym, ap, ◌∙◌, subst}
use Rattle.std.proofs.lemmas.Result.{IfOk-weaker}
use Rattle.sh_tree.specs.Lists.{elements_from}
use Rattle.sh_runs.specs.declared.kind.Kind.TheVariants as kind
use Rattle.sh_runs.specs.standard.Kinds.{kind_of}
use Rattle.sh_domain.specs.Table as table
use Rattle.sh_rules.specs.Walks as walks
use Rattle.sh_tally.specs.Walks.{AddsManner, names}
use Rattle.sh_tally.proofs.SimpleLemmas.{call_manner, special_manner, utility_manner}
use Rattle.sh_tally.proofs.bounds.Tally.named.Goals as goal

pub returns-in-Some : goal.returns-in-Some
returns-in-Some c =
    let s = c.args.self.now in
    let y = walks.around s.script.now c.args.around.now in
    let es = elements_from s.script.now c.args.elements.now in
    let of : kind_of c.args.name.now ≡ kind.Special c.in-Some.special = sym c.kind_of-kind.ensures ∙ subst (λ o. IfSome o (λ x. c.kind_of-kind.result ≡ kind.Special x)) c.in-Some.is c.special_of.ensures.some in
    IfOk-weaker c.special.result _ _
    (λ unit adds ws behind same. subst (λ m. AddsManner s y c.args.number es c.args.left m c.args.equations.now c.special.new.equations) (sym (special_manner (names s) c.args.name.now ws c.in-Some.special of))
    (adds ws behind same))
    c.special.ensures

pub returns-then-is_function : goal.returns-then-is_function
returns-then-is_function c =
    let s = c.args.self.now in
    let y = walks.around s.script.now c.args.around.now in
    let es = elements_from s.script.now c.args.elements.now in
    let none : table.is_special (kind_of c.args.name.now) ≡ false = subst (λ k. table.is_special k ≡ false) c.kind_of-kind.ensures (c.special_of.ensures.none c.in-None.is) in
    let one = sym c.is_function.ensures ∙ c.if-is_function.true in
    IfOk-weaker c.call.result _ _
    (λ unit adds ws behind same. subst (λ m. AddsManner s y c.args.number es c.args.left m c.args.equations.now c.call.new.equations)
    (ap (table.Call c.args.name.now) (sym behind) ∙ sym (call_manner (names s) c.args.name.now ws one none)) adds)
    c.call.ensures

pub returns-else-is_function : goal.returns-else-is_function
returns-else-is_function c =
    let s = c.args.self.now in
    let y = walks.around s.script.now c.args.around.now in
    let es = elements_from s.script.now c.args.elements.now in
    let none = sym c.is_function.ensures ∙ c.if-is_function.false in
    IfOk-weaker c.utility.result _ _
    (λ unit adds ws behind same. subst (λ m. AddsManner s y c.args.number es c.args.left m c.args.equations.now c.utility.new.equations)
    (ap (λ k. table.Utility k ws) c.kind_of-kind.ensures ∙ sym (utility_manner (names s) c.args.name.now ws none)) (adds ws))
    c.utility.ensures
