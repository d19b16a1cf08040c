-- The readings of texts with expansions of each kind.
use Rattle.std.proofs.Common.{false, [], ◌∷◌, refl, arith}
use Rattle.sh_tree.proofs.LanguageLemmas.{whole, at_word, at_token, no_bodies, alone_reads, computes, loosest_level}
use Rattle.sh_tree.specs.declared.tree.Action.TheVariants as action
use Rattle.sh_tree.specs.declared.tree.Expr.TheVariants as expr
use Rattle.sh_tree.specs.declared.tree.ParameterOperator.TheVariants as operator
use Rattle.sh_tree.specs.declared.tree.Part.TheVariants as part
use Rattle.sh_tree.specs.declared.tree.Removal.TheVariants as removal
use Rattle.sh_tree.specs.declared.tree.Special.TheVariants as special
use Rattle.sh_tree.specs.declared.tree.Subject.TheVariants.{Name, Special}
use Rattle.sh_tree.specs.standard.language.Contexts.{in_word, in_value}
use Rattle.sh_tree.specs.examples.Language.{plain, bare}
use Rattle.sh_tree.specs.standard.language.Reading as r
use Rattle.sh_tree.specs.standard.language.Reading.{ReadsParts, ReadsExpression, ReadsLevel, ReadsWord, ReadsCommand, ReadsAndOr, ReadsList, Reads}
use Rattle.sh_tree.specs.standard.language.Trees.{param}
use Rattle.sh_tree.specs.standard.language.Trees.{span, word}
use Rattle.sh_tree.specs.examples.Words.{all_fields_script, all_fields_text, colon_in_arithmetic_script, colon_in_arithmetic_text, colon_in_double_script, colon_in_double_text, colon_in_pattern_script, colon_in_pattern_text, exported_script, exported_text, octal_script, octal_text, quoted_default_script, quoted_default_text, removed_prefix_script, removed_prefix_text, status_script, status_text}
use Rattle.sh_tree.specs.standard.language.Words.{in_double, in_use, in_removal, in_arithmetic}

pub removed_prefix_reads : Reads removed_prefix_text removed_prefix_script
unfolding computes
removed_prefix_reads =
    let operand1 : ReadsParts 1 removed_prefix_text (in_removal (in_word 0) 4) 0 (at_word 4 1 1) (at_word 6 1 1) (plain 4 5 ∷ []) = r.more refl r.plain (r.stop refl) in
    let word2 : ReadsWord 1 removed_prefix_text (in_word 0) (at_word 0 1 0) (at_word 6 1 0) (word 0 6 (param 0 6 (Name (span 2 3)) (operator.Remove removal.ShortPrefix (bare 4 5)) ∷ [])) =
    r.whole_word (r.more refl (r.removal (omega arith) operand1) (r.stop refl)) refl refl in
    let command3 : ReadsCommand 1 removed_prefix_text no_bodies (at_token 0 0 0) (at_token 6 1 0) _ =
    r.simple_command refl (r.word_element refl word2 (r.no_element refl)) in
    let list4 : ReadsAndOr 1 removed_prefix_text no_bodies (at_token 0 0 0) (at_token 6 1 0) _ = alone_reads command3 refl refl refl in
    let list5 : ReadsList 1 removed_prefix_text no_bodies (at_token 0 0 0) (at_token 6 1 0) _ = r.list (r.no_break refl) refl (r.last_item list4 refl refl) in
    whole removed_prefix_text 1 (at_token 6 1 0) removed_prefix_script refl (r.sequence list5) refl refl

pub octal_reads : Reads octal_text octal_script
unfolding computes
octal_reads =
    let operand1 : ReadsLevel 1 octal_text (in_arithmetic (in_word 0)) 10 (at_word 3 1 1) (at_word 6 1 1) (expr.Constant (span 3 6)) = r.operand refl refl r.constant in
    let expression2 : ReadsExpression 1 octal_text (in_arithmetic (in_word 0)) (at_word 3 1 1) (at_word 6 1 1) (expr.Constant (span 3 6)) =
    r.no_assignment refl (r.one_level (loosest_level operand1 (λ l. refl)) refl) in
    let word3 : ReadsWord 1 octal_text (in_word 0) (at_word 0 1 0) (at_word 8 1 0) (word 0 8 (part.Arith (span 0 8) (expr.Constant (span 3 6)) ∷ [])) =
    r.whole_word (r.more refl (r.arithmetic (omega arith) expression2 refl refl) (r.stop refl)) refl refl in
    let command4 : ReadsCommand 1 octal_text no_bodies (at_token 0 0 0) (at_token 8 1 0) _ = r.simple_command refl (r.word_element refl word3 (r.no_element refl)) in
    let list5 : ReadsAndOr 1 octal_text no_bodies (at_token 0 0 0) (at_token 8 1 0) _ = alone_reads command4 refl refl refl in
    let list6 : ReadsList 1 octal_text no_bodies (at_token 0 0 0) (at_token 8 1 0) _ = r.list (r.no_break refl) refl (r.last_item list5 refl refl) in
    whole octal_text 1 (at_token 8 1 0) octal_script refl (r.sequence list6) refl refl

pub status_reads : Reads status_text status_script
unfolding computes
status_reads =
    let word1 : ReadsWord 0 status_text (in_word 0) (at_word 0 1 0) (at_word 4 1 0) (word 0 4 (param 0 4 (Special special.QuestionMark (span 2 3)) operator.Value ∷ [])) =
    r.whole_word (r.more refl r.value (r.stop refl)) refl refl in
    let command2 : ReadsCommand 0 status_text no_bodies (at_token 0 0 0) (at_token 4 1 0) _ = r.simple_command refl (r.word_element refl word1 (r.no_element refl)) in
    let list3 : ReadsAndOr 0 status_text no_bodies (at_token 0 0 0) (at_token 4 1 0) _ = alone_reads command2 refl refl refl in
    let list4 : ReadsList 0 status_text no_bodies (at_token 0 0 0) (at_token 4 1 0) _ = r.list (r.no_break refl) refl (r.last_item list3 refl refl) in
    whole status_text 0 (at_token 4 1 0) status_script refl (r.sequence list4) refl refl

pub quoted_default_reads : Reads quoted_default_text quoted_default_script
unfolding computes
quoted_default_reads =
    let operand1 : ReadsParts 1 quoted_default_text (in_use (in_double (in_word 0)) action.Default 5) 0 (at_word 5 1 1) (at_word 9 1 1) (plain 5 8 ∷ []) =
    r.more refl r.plain (r.stop refl) in
    let inside2 : ReadsParts 1 quoted_default_text (in_double (in_word 0)) 0 (at_word 1 1 0) (at_word 10 1 0) (param 1 9 (Name (span 3 4)) (operator.Use action.Default false (bare 5 8)) ∷ []) =
    r.more refl (r.use_word (omega arith) operand1) (r.stop refl) in
    let word3 : ReadsWord 1 quoted_default_text (in_word 0) (at_word 0 1 0) (at_word 10 1 0) (word 0 10 (part.Double (span 0 10) (param 1 9 (Name (span 3 4)) (operator.Use action.Default false (bare 5 8)) ∷ []) ∷ [])) =
    r.whole_word (r.more refl (r.double_quoted inside2) (r.stop refl)) refl refl in
    let command4 : ReadsCommand 1 quoted_default_text no_bodies (at_token 0 0 0) (at_token 10 1 0) _ =
    r.simple_command refl (r.word_element refl word3 (r.no_element refl)) in
    let list5 : ReadsAndOr 1 quoted_default_text no_bodies (at_token 0 0 0) (at_token 10 1 0) _ = alone_reads command4 refl refl refl in
    let list6 : ReadsList 1 quoted_default_text no_bodies (at_token 0 0 0) (at_token 10 1 0) _ = r.list (r.no_break refl) refl (r.last_item list5 refl refl) in
    whole quoted_default_text 1 (at_token 10 1 0) quoted_default_script refl (r.sequence list6) refl refl

pub all_fields_reads : Reads all_fields_text all_fields_script
unfolding computes
all_fields_reads =
    let inside1 : ReadsParts 1 all_fields_text (in_double (in_word 0)) 0 (at_word 1 1 0) (at_word 4 1 0) (param 1 3 (Special special.At (span 2 3)) operator.Value ∷ []) =
    r.more refl r.value (r.stop refl) in
    let word2 : ReadsWord 1 all_fields_text (in_word 0) (at_word 0 1 0) (at_word 4 1 0) (word 0 4 (part.Double (span 0 4) (param 1 3 (Special special.At (span 2 3)) operator.Value ∷ []) ∷ [])) =
    r.whole_word (r.more refl (r.double_quoted inside1) (r.stop refl)) refl refl in
    let operand3 : ReadsParts 1 all_fields_text (in_use (in_word 5) action.Alternative 9) 0 (at_word 9 1 1) (at_word 12 1 1) (param 9 11 (Special special.At (span 10 11)) operator.Value ∷ []) =
    r.more refl r.value (r.stop refl) in
    let word4 : ReadsWord 1 all_fields_text (in_word 5) (at_word 5 1 0) (at_word 12 1 0) (word 5 12 (param 5 12 (Name (span 7 8)) (operator.Use action.Alternative false (word 9 11 (param 9 11 (Special special.At (span 10 11)) operator.Value ∷ []))) ∷ [])) =
    r.whole_word (r.more refl (r.use_word (omega arith) operand3) (r.stop refl)) refl refl in
    let command5 : ReadsCommand 1 all_fields_text no_bodies (at_token 0 0 0) (at_token 12 1 0) _ =
    r.simple_command refl (r.word_element refl word2 (r.word_element refl word4 (r.no_element refl))) in
    let list6 : ReadsAndOr 1 all_fields_text no_bodies (at_token 0 0 0) (at_token 12 1 0) _ = alone_reads command5 refl refl refl in
    let list7 : ReadsList 1 all_fields_text no_bodies (at_token 0 0 0) (at_token 12 1 0) _ = r.list (r.no_break refl) refl (r.last_item list6 refl refl) in
    whole all_fields_text 1 (at_token 12 1 0) all_fields_script refl (r.sequence list7) refl refl

pub exported_reads : Reads exported_text exported_script
unfolding computes
exported_reads =
    let word1 : ReadsWord 0 exported_text (in_word 0) (at_word 0 1 0) (at_word 6 1 0) (bare 0 6) = r.whole_word (r.more refl r.plain (r.stop refl)) refl refl in
    let word2 : ReadsWord 0 exported_text (in_value 9) (at_word 7 1 0) (at_word 10 1 0) (word 7 10 (plain 7 9 ∷ part.Tilde (span 9 10) ∷ [])) =
    r.whole_word (r.more refl r.plain (r.more refl r.tilde (r.stop refl))) refl refl in
    let command3 : ReadsCommand 0 exported_text no_bodies (at_token 0 0 0) (at_token 10 1 0) _ =
    r.simple_command refl (r.word_element refl word1 (r.word_element refl word2 (r.no_element refl))) in
    let list4 : ReadsAndOr 0 exported_text no_bodies (at_token 0 0 0) (at_token 10 1 0) _ = alone_reads command3 refl refl refl in
    let list5 : ReadsList 0 exported_text no_bodies (at_token 0 0 0) (at_token 10 1 0) _ = r.list (r.no_break refl) refl (r.last_item list4 refl refl) in
    whole exported_text 0 (at_token 10 1 0) exported_script refl (r.sequence list5) refl refl

pub colon_in_double_reads : Reads colon_in_double_text colon_in_double_script
unfolding computes
colon_in_double_reads =
    let operand1 : ReadsParts 1 colon_in_double_text (in_removal (in_double (in_value 2)) 7) 0 (at_word 7 1 1) (at_word 10 1 1) (plain 7 9 ∷ []) =
    r.more refl r.plain (r.stop refl) in
    let inside2 : ReadsParts 1 colon_in_double_text (in_double (in_value 2)) 0 (at_word 3 1 0) (at_word 11 1 0) (param 3 10 (Name (span 5 6)) (operator.Remove removal.ShortSuffix (bare 7 9)) ∷ []) =
    r.more refl (r.removal (omega arith) operand1) (r.stop refl) in
    let word3 : ReadsWord 1 colon_in_double_text (in_value 2) (at_word 2 1 0) (at_word 11 1 0) (word 2 11 (part.Double (span 2 11) (param 3 10 (Name (span 5 6)) (operator.Remove removal.ShortSuffix (bare 7 9)) ∷ []) ∷ [])) =
    r.whole_word (r.more refl (r.double_quoted inside2) (r.stop refl)) refl refl in
    let command4 : ReadsCommand 1 colon_in_double_text no_bodies (at_token 0 0 0) (at_token 11 1 0) _ =
    r.simple_command refl (r.assigned_element refl word3 (r.no_element refl)) in
    let list5 : ReadsAndOr 1 colon_in_double_text no_bodies (at_token 0 0 0) (at_token 11 1 0) _ = alone_reads command4 refl refl refl in
    let list6 : ReadsList 1 colon_in_double_text no_bodies (at_token 0 0 0) (at_token 11 1 0) _ = r.list (r.no_break refl) refl (r.last_item list5 refl refl) in
    whole colon_in_double_text 1 (at_token 11 1 0) colon_in_double_script refl (r.sequence list6) refl refl

pub colon_in_arithmetic_reads : Reads colon_in_arithmetic_text colon_in_arithmetic_script
unfolding computes
colon_in_arithmetic_reads =
    let operand1 : ReadsParts 2 colon_in_arithmetic_text (in_removal (in_arithmetic (in_value 2)) 9) 0 (at_word 9 1 2) (at_word 13 1 2) (plain 9 12 ∷ []) =
    r.more refl r.plain (r.stop refl) in
    let operand2 : ReadsLevel 2 colon_in_arithmetic_text (in_arithmetic (in_value 2)) 10 (at_word 5 1 1) (at_word 13 1 1) (expr.Expansion (param 5 13 (Name (span 7 8)) (operator.Remove removal.ShortSuffix (bare 9 12)))) =
    r.operand refl refl (r.expansion refl refl (r.removal (omega arith) operand1)) in
    let expression3 : ReadsExpression 2 colon_in_arithmetic_text (in_arithmetic (in_value 2)) (at_word 5 1 1) (at_word 13 1 1) (expr.Expansion (param 5 13 (Name (span 7 8)) (operator.Remove removal.ShortSuffix (bare 9 12)))) =
    r.no_assignment refl (r.one_level (loosest_level operand2 (λ l. refl)) refl) in
    let word4 : ReadsWord 2 colon_in_arithmetic_text (in_value 2) (at_word 2 1 0) (at_word 15 1 0) (word 2 15 (part.Arith (span 2 15) (expr.Expansion (param 5 13 (Name (span 7 8)) (operator.Remove removal.ShortSuffix (bare 9 12)))) ∷ [])) =
    r.whole_word (r.more refl (r.arithmetic (omega arith) expression3 refl refl) (r.stop refl)) refl refl in
    let command5 : ReadsCommand 2 colon_in_arithmetic_text no_bodies (at_token 0 0 0) (at_token 15 1 0) _ =
    r.simple_command refl (r.assigned_element refl word4 (r.no_element refl)) in
    let list6 : ReadsAndOr 2 colon_in_arithmetic_text no_bodies (at_token 0 0 0) (at_token 15 1 0) _ = alone_reads command5 refl refl refl in
    let list7 : ReadsList 2 colon_in_arithmetic_text no_bodies (at_token 0 0 0) (at_token 15 1 0) _ = r.list (r.no_break refl) refl (r.last_item list6 refl refl) in
    whole colon_in_arithmetic_text 2 (at_token 15 1 0) colon_in_arithmetic_script refl (r.sequence list7) refl refl

pub colon_in_pattern_reads : Reads colon_in_pattern_text colon_in_pattern_script
unfolding computes
colon_in_pattern_reads =
    let operand1 : ReadsParts 1 colon_in_pattern_text (in_removal (in_value 2) 6) 0 (at_word 6 1 1) (at_word 9 1 1) (plain 6 7 ∷ part.Tilde (span 7 8) ∷ []) =
    r.more refl r.plain (r.more refl r.tilde (r.stop refl)) in
    let word2 : ReadsWord 1 colon_in_pattern_text (in_value 2) (at_word 2 1 0) (at_word 9 1 0) (word 2 9 (param 2 9 (Name (span 4 5)) (operator.Remove removal.ShortSuffix (word 6 8 (plain 6 7 ∷ part.Tilde (span 7 8) ∷ []))) ∷ [])) =
    r.whole_word (r.more refl (r.removal (omega arith) operand1) (r.stop refl)) refl refl in
    let command3 : ReadsCommand 1 colon_in_pattern_text no_bodies (at_token 0 0 0) (at_token 9 1 0) _ =
    r.simple_command refl (r.assigned_element refl word2 (r.no_element refl)) in
    let list4 : ReadsAndOr 1 colon_in_pattern_text no_bodies (at_token 0 0 0) (at_token 9 1 0) _ = alone_reads command3 refl refl refl in
    let list5 : ReadsList 1 colon_in_pattern_text no_bodies (at_token 0 0 0) (at_token 9 1 0) _ = r.list (r.no_break refl) refl (r.last_item list4 refl refl) in
    whole colon_in_pattern_text 1 (at_token 9 1 0) colon_in_pattern_script refl (r.sequence list5) refl refl
