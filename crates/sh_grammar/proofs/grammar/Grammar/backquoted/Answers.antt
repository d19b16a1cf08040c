use Rattle.std.proofs.Common.{◌<◌, ◌+◌, length, take, length-drop, length-take, sym, ap, subst, ◌∙◌, arith}
use Rattle.std.proofs.lemmas.List.{take_rest}
use Rattle.std.specs.Prelude.{is_some}
use Rattle.sh_tree.specs.standard.language.Substitutions.{has_removed_backslash}
use Rattle.sh_scan.specs.Backquotes.{IsFirstKept}
use Rattle.sh_grammar.specs.declared.ticks.Ticks.TheVariants.{Here}
use Rattle.sh_grammar.proofs.SubstitutionLemmas.{front_hands, kept_hands, kept_told, plain_told}
use Rattle.sh_grammar.proofs.grammar.Grammar.backquoted.Goals as goal

pub returns-in-None-clause-hands : goal.returns-in-None-clause-hands
returns-in-None-clause-hands g c =
    let b = c.args.script.now in
    let quoted = c.args.quoted in
    let none = ap (has_removed_backslash quoted) (sym (take_rest (take c.args.end b) c.args.at)) ∙ sym c.kept_backslash.ensures.value ∙ ap is_some c.in-None.is in
    front_hands b quoted c.args.at c.args.depth (Here quoted) c.args.around.now c.args.end c.requires.value c.requires.within c.level-found.result none c.level-found.ensures.reads

pub returns-in-Some-clause-hands : goal.returns-in-Some-clause-hands
returns-in-Some-clause-hands g c =
    let b = c.args.script.now in
    let quoted = c.args.quoted in
    let text = take c.args.end b in
    let some = ap (has_removed_backslash quoted) (sym (take_rest text c.args.at)) ∙ sym c.kept_backslash.ensures.value ∙ ap is_some c.in-Some.is in
    let below = c.in-Some.ensures.within in
    let ordered = c.requires.inside in
    let inside : c.args.at + c.in-Some.further < length b = omega (arith, ap length (take_rest text c.args.at), length-drop c.args.at text, length-take c.args.end b) in
    rw c.first_told.ensures (kept_hands b quoted c.args.at c.args.depth (Here quoted) c.args.around.now c.args.end c.requires.value c.requires.within c.level-found.result (c.args.at + c.in-Some.further)
    some inside c.level-found.ensures.reads)

pub returns-in-None-clause-told : goal.returns-in-None-clause-told
returns-in-None-clause-told g c =
    let quoted = c.args.quoted in
    let text = take c.args.end c.args.script.now in
    let none = ap (has_removed_backslash quoted) (sym (take_rest text c.args.at)) ∙ sym c.kept_backslash.ensures.value ∙ ap is_some c.in-None.is in
    plain_told text quoted c.args.at c.args.depth c.args.around.now c.level-found.result none c.level-found.ensures.told

pub returns-in-Some-clause-told : goal.returns-in-Some-clause-told
returns-in-Some-clause-told g c =
    let quoted = c.args.quoted in
    let text = take c.args.end c.args.script.now in
    let rest = take_rest text c.args.at in
    let some = ap (has_removed_backslash quoted) (sym rest) ∙ sym c.kept_backslash.ensures.value ∙ ap is_some c.in-Some.is in
    let found = c.level-found in
    rw c.first_told.ensures (kept_told text quoted c.args.at c.args.depth c.args.around.now found.result c.in-Some.further some
    (subst (λ cs. IsFirstKept quoted cs c.in-Some.further) rest c.in-Some.ensures.first) (record { reads = found.ensures.reads; told = found.ensures.told }))
