use Rattle.std.proofs.Common.{◌≡◌, false, refl, sym, ap, ◌∙◌, ◌++◌, rules}
use Rattle.sh_tree.specs.standard.language.Bytes.{is_first, is_operator_byte}
use Rattle.sh_tree.specs.standard.language.Commands.{operator_of, long_operators, short_operators}
use Rattle.sh_scan.proofs.OperatorLemmas.{none_begins, none_goes_on, longest_missed, all_within, all_move}
use Rattle.sh_scan.proofs.commands.operators.operator_of.Goals as goal

pub returns-then-not-begins_operator-clause-value : goal.returns-then-not-begins_operator-clause-value
unfolding operator_of is_first
returns-then-not-begins_operator-clause-value c =
    let other : c.begins_operator.result ≡ false = search rules in
    none_begins is_operator_byte (long_operators ++ short_operators) _ refl (sym c.begins_operator.ensures ∙ other)

pub returns-then-not-begins_operator-2-clause-value : goal.returns-then-not-begins_operator-2-clause-value
unfolding operator_of is_first
returns-then-not-begins_operator-2-clause-value c =
    let other : c.begins_operator-2.result ≡ false = search rules in
    let alone = ap (is_first is_operator_byte) (sym c.behind_first.ensures) ∙ sym c.begins_operator-2.ensures ∙ other in
    c.short_at.ensures ∙ longest_missed long_operators short_operators _ (none_goes_on is_operator_byte long_operators _ refl alone)

pub returns-then-not-begins_operator-2-clause-within : goal.returns-then-not-begins_operator-2-clause-within
returns-then-not-begins_operator-2-clause-within c = all_within short_operators _ _ refl c.short_at.ensures

pub returns-then-not-begins_operator-2-clause-moves : goal.returns-then-not-begins_operator-2-clause-moves
returns-then-not-begins_operator-2-clause-moves c = all_move short_operators c.args.rest.now _ refl c.short_at.ensures
