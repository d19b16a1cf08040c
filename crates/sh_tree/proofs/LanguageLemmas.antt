-- The readings of texts, by the productions.
use Rattle.std.proofs.Common.{◌≡◌, ℕ, ◌+◌, ◌<◌, true, false, List, [], ◌∷◌, Some, None, length, take, codes, refl, arith}
use Rattle.sh_tree.specs.declared.tree.Script.{Script}
use Rattle.sh_tree.specs.standard.language.Bytes as bytes
use Rattle.sh_tree.specs.standard.language.Words as words
use Rattle.sh_tree.specs.standard.language.Substitutions as substitutions
use Rattle.sh_tree.specs.standard.language.Arithmetic as arithmetic
use Rattle.sh_tree.specs.standard.language.Commands as commands
use Rattle.sh_tree.specs.standard.language.HereDocuments as documents
use Rattle.sh_tree.specs.standard.language.Contexts as contexts
use Rattle.sh_tree.specs.standard.language.Parts as parts
use Rattle.sh_tree.specs.standard.language.States as states
use Rattle.sh_tree.specs.standard.Words.{parts_text, part_text}
use Rattle.sh_tree.specs.standard.language.States.{Spot, State, Document, within, nth, waits}
use Rattle.sh_tree.specs.standard.language.Reading as r
use Rattle.sh_tree.specs.standard.language.Reading.{ReadsParts, ReadsExpression, ReadsConditional, ReadsLevel, ReadsWord, ReadsRedirect, ReadsRedirects, ReadsDocuments, ReadsBreaks, ReadsElements, ReadsCommand, ReadsCompound, ReadsBranches, ReadsForWords, ReadsClauses, ReadsPatterns, ReadsCommands, ReadsAndOr, ReadsLinks, ReadsList, ReadsSequence, ReadsScript, ReadsTo, Reads, HasNoNul, start, lead_here, figure_at}
use Rattle.sh_tree.specs.declared.token.word.Context.{Context}
use Rattle.sh_tree.specs.declared.token.command.Stage.TheVariants.{First}
use Rattle.sh_tree.specs.declared.tree.Action.TheVariants as action
use Rattle.sh_tree.specs.declared.tree.Binary.TheVariants as binary
use Rattle.sh_tree.specs.declared.tree.Command.{Command}
use Rattle.sh_tree.specs.declared.tree.ClauseEnd.TheVariants.{Break}
use Rattle.sh_tree.specs.declared.tree.CommandStyle.TheVariants.{Paren, Backquote}
use Rattle.sh_tree.specs.declared.tree.Direction.TheVariants as direction
use Rattle.sh_tree.specs.declared.tree.Element.TheBlock.{shape-the_row-Part-0, hidden-the_row-Part-0}
use Rattle.sh_tree.specs.declared.tree.Element.TheVariants as element
use Rattle.sh_tree.specs.declared.tree.Expr.{Expr}
use Rattle.sh_tree.specs.declared.tree.Expr.TheVariants as expr
use Rattle.sh_tree.specs.declared.tree.Kind.TheVariants as kind
use Rattle.sh_tree.specs.declared.tree.Link.TheVariants as link
use Rattle.sh_tree.specs.declared.tree.Part.TheVariants as part
use Rattle.sh_tree.specs.declared.tree.Target.TheVariants.{File, Here}
use Rattle.sh_tree.specs.declared.tree.Unary.TheVariants as unary
use Rattle.sh_tree.specs.declared.token.command.Lead.TheVariants as lead
use Rattle.sh_tree.specs.declared.token.command.Operator.TheVariants as op
use Rattle.sh_tree.specs.declared.token.command.Reserved.TheVariants as reserved
use Rattle.sh_tree.specs.declared.tree.SingleStyle.TheVariants as single
use Rattle.sh_tree.specs.standard.language.Words.{in_double, in_use, in_removal, in_arithmetic}
use Rattle.sh_tree.specs.standard.language.Arithmetic.{unary_level, binary_of}
use Rattle.sh_tree.specs.standard.language.Commands.{begins_command, is_bar, link_of}
use Rattle.sh_tree.specs.standard.language.Contexts.{in_word, in_unsplit, in_value, in_document_of}
use Rattle.sh_tree.specs.standard.language.HereDocuments.{Mark}
use Rattle.sh_tree.specs.standard.language.Trees.{span, word, redirect, here_doc, command, pipe, and_or, script, branch, clause}
use Rattle.sh_tree.specs.examples.Language.{plain, bare, value, simple, ticked_text, ticked_inner, ticked_part, ticked_script, quoted_text, quoted_words, quoted_script, dollar_text, dollar_value, dollar_script, double_text, double_words, double_script, bare_text, bare_words, bare_script, assigned_text, assigned_parts, assigned_words, assigned_script, passed_text, passed_script, home_text, home_value, home_script, braces_text, braces_elements, braces_script, braced_text, default_part, length_part, removal_part, braced_words, braced_script, parameters_text, parameters_parts, parameters_words, parameters_script, arithmetic_text, product, sum, arithmetic_part, arithmetic_script, choice_text, choice_part, choice_script, substituted_text, inner_script, substituted_part, substituted_script, utility, lone, document_text, document_body, document_words, document_script, stripped_text, stripped_body, stripped_script, branch_text, branch_script, elif_text, elif_branches, elif_script, until_text, until_subshell, until_condition, until_script, every_text, every_command, every_script, loop_text, loop_script, case_text, case_clauses, case_script, through_text, through_clauses, through_script, defined_text, defined_command, defined_list, defined_script, unset_first_text, unset_first_words, unset_first_value, unset_first_script, unset_last_text, unset_last_words, unset_last_script, closed_text, closed_script, separated_text, separated_script, comment_text, substituted_case_text, case_echo, inner_clauses, inner_case, substituted_case_value, substituted_case_script}

-- what a reading of a known text computes
unfoldable pub computes : Unit {0}
unfolding bytes.is_first bytes.is_last_backquote words.backquoted words.dollar_quoted substitutions.commands_text substitutions.closes substitutions.removes_no_backslash substitutions.has_removed_backslash bytes.name_length bytes.decimal bytes.longest bytes.joined_length words.tilde_length words.is_tilde words.special_of words.named_value words.single_parameter words.parenthesis words.numeric_parameter words.parameter words.misfit words.action_of words.pattern_removal words.parameter_action words.parameter_operator words.parameter_length words.special_or_length words.braced_expansion words.dollar_expansion words.dollar words.stands words.plain_length words.continuation words.backslash words.single words.meant_by words.sign_by words.sign_of words.token arithmetic.space_length arithmetic.constant_length arithmetic.name_figure arithmetic.unknown arithmetic.figure_of arithmetic.lexeme_start arithmetic.lexeme arithmetic.binary_of arithmetic.unary_of arithmetic.assignment_of arithmetic.is_closed commands.gap_length commands.blank_length commands.blanks commands.operator_of commands.operator commands.is_split commands.direction_of commands.strip_of commands.redirects commands.bare_word commands.entry_of commands.is_assignment commands.name_end commands.declares commands.is_location commands.opening commands.whole_operator commands.operator_lead commands.reserved_lead commands.is_definition commands.name_lead commands.first_lead commands.word_lead commands.number_lead commands.other_lead commands.lead_of commands.lead_at commands.redirection commands.is_redirection commands.begins_simple commands.begins_compound commands.begins_command commands.begins_pipeline commands.clause_end_of commands.is_bare_name commands.separator commands.link_of documents.line_length documents.line_end documents.line_text documents.end_candidate documents.end_line_within documents.end_line documents.has_tabbed_line documents.has_joined contexts.in_operand contexts.in_document_of contexts.in_stage documents.is_static documents.is_dollar_quoted documents.is_delimiter documents.delimiter_of parts.is_quotation parts.is_quoted_word parts.singles_in parts.singles parts.keeps_lines documents.keeps_document states.nth states.waits r.is_empty r.is_some parts_text part_text shape-the_row-Part-0 hidden-the_row-Part-0 denote.Hole.Carrier.hidden
computes = tt

-- a text with this sequence is its script
pub read_to : (b : List ℕ) (limit : ℕ) (u : State) (t : Script) → HasNoNul b → ReadsSequence limit b (nth u.bodies) (within (start b)) u t → waits u.pending ≡ false
    → u.spot.at ≡ length b → ReadsTo b limit u.spot.count t
read_to b limit u t n h w e = record { no_nul = n; end = u.spot; script = r.script h w; to_end = e; commands = refl }

pub whole : (b : List ℕ) (limit : ℕ) (u : State) (t : Script) → HasNoNul b → ReadsSequence limit b (nth u.bodies) (within (start b)) u t → waits u.pending ≡ false
    → u.spot.at ≡ length b → Reads b t
whole b limit u t n h w e = (limit, u.spot.count, read_to b limit u t n h w e)

-- in words and among commands of so many commands and levels, with nothing waiting; after a
-- compound command too
abbrev pub at_word : ℕ → ℕ → ℕ → Spot
at_word i count depth = record { at = i; count = count; depth = depth; quiet = false; joins = false; tabs = false }

abbrev pub at_token : ℕ → ℕ → ℕ → State
at_token i count depth = record { spot = at_word i count depth; closed = false; pending = []; bodies = [] }

abbrev pub at_close : ℕ → ℕ → ℕ → State
at_close i count depth = record { spot = at_word i count depth; closed = true; pending = []; bodies = [] }

abbrev pub no_bodies : ℕ → Document
no_bodies = nth []

-- a command alone is a list, and one that a separator ends
pub alone_reads : {limit : ℕ} {b : List ℕ} {body : ℕ → Document} {s u : State} {c : Command} → ReadsCommand limit b body s u c → begins_command (lead_here b s) ≡ true
    → is_bar (lead_here b u) ≡ false → link_of (lead_here b u) ≡ None → ReadsAndOr limit b body s u (and_or (pipe false (c ∷ [])) [])
alone_reads h begins last unlinked = r.linked (r.straight begins (r.last_command h last)) (r.no_link unlinked)

pub quoted_reads : Reads quoted_text quoted_script
unfolding computes
quoted_reads =
    let echo : ReadsWord 0 quoted_text (in_word 0) (at_word 0 1 0) (at_word 4 1 0) (bare 0 4) = r.whole_word (r.more refl r.plain (r.stop refl)) refl refl in
    let value_parts : ReadsParts 0 quoted_text (in_double (in_word 5)) 0 (at_word 6 1 0) (at_word 9 1 0) (value 6 8 ∷ []) = r.more refl r.value (r.stop refl) in
    let value : ReadsWord 0 quoted_text (in_word 5) (at_word 5 1 0) (at_word 9 1 0) (word 5 9 (part.Double (span 5 9) (value 6 8 ∷ []) ∷ [])) =
    r.whole_word (r.more refl (r.double_quoted value_parts) (r.stop refl)) refl refl in
    let kept : ReadsWord 0 quoted_text (in_word 10) (at_word 10 1 0) (at_word 15 1 0) (word 10 15 (part.Single single.Plain (span 10 13) ∷ part.Escaped (span 13 15) ∷ [])) =
    r.whole_word (r.more refl r.single_quoted (r.more refl r.escaped (r.stop refl))) refl refl in
    let elements : ReadsElements 0 quoted_text no_bodies First (at_token 0 1 0) (at_token 15 1 0) quoted_words =
    r.word_element refl echo (r.word_element refl value (r.word_element refl kept (r.no_element refl))) in
    let list : ReadsAndOr 0 quoted_text no_bodies (at_token 0 0 0) (at_token 15 1 0) _ = alone_reads (r.simple_command refl elements) refl refl refl in
    whole quoted_text 0 (at_token 15 1 0) quoted_script refl (r.sequence (r.list (r.no_break refl) refl (r.last_item list refl refl))) refl refl

pub dollar_reads : Reads dollar_text dollar_script
unfolding computes
dollar_reads =
    let value : ReadsWord 0 dollar_text (in_value 2) (at_word 2 1 0) (at_word 28 1 0) dollar_value = r.whole_word (r.more refl r.single_quoted (r.stop refl)) refl refl in
    let elements : ReadsElements 0 dollar_text no_bodies First (at_token 0 1 0) (at_token 28 1 0) (element.Assignment (span 0 1) dollar_value ∷ []) =
    r.assigned_element refl value (r.no_element refl) in
    let list : ReadsAndOr 0 dollar_text no_bodies (at_token 0 0 0) (at_token 28 1 0) _ = alone_reads (r.simple_command refl elements) refl refl refl in
    whole dollar_text 0 (at_token 28 1 0) dollar_script refl (r.sequence (r.list (r.no_break refl) refl (r.last_item list refl refl))) refl refl

pub double_reads : Reads double_text double_script
unfolding computes
double_reads =
    let echo : ReadsWord 0 double_text (in_word 0) (at_word 0 1 0) (at_word 4 1 0) (bare 0 4) = r.whole_word (r.more refl r.plain (r.stop refl)) refl refl in
    let inner : ReadsParts 0 double_text (in_double (in_word 5)) 0 (at_word 6 1 0) (at_word 9 1 0) (value 6 8 ∷ []) = r.more refl r.value (r.stop refl) in
    let quoted : ReadsWord 0 double_text (in_word 5) (at_word 5 1 0) (at_word 9 1 0) (word 5 9 (part.Double (span 5 9) (value 6 8 ∷ []) ∷ [])) =
    r.whole_word (r.more refl (r.double_quoted inner) (r.stop refl)) refl refl in
    let elements : ReadsElements 0 double_text no_bodies First (at_token 0 1 0) (at_token 9 1 0) double_words =
    r.word_element refl echo (r.word_element refl quoted (r.no_element refl)) in
    let list : ReadsAndOr 0 double_text no_bodies (at_token 0 0 0) (at_token 9 1 0) _ = alone_reads (r.simple_command refl elements) refl refl refl in
    whole double_text 0 (at_token 9 1 0) double_script refl (r.sequence (r.list (r.no_break refl) refl (r.last_item list refl refl))) refl refl

pub bare_reads : Reads bare_text bare_script
unfolding computes
bare_reads =
    let echo : ReadsWord 0 bare_text (in_word 0) (at_word 0 1 0) (at_word 4 1 0) (bare 0 4) = r.whole_word (r.more refl r.plain (r.stop refl)) refl refl in
    let split : ReadsWord 0 bare_text (in_word 5) (at_word 5 1 0) (at_word 7 1 0) (word 5 7 (value 5 7 ∷ [])) = r.whole_word (r.more refl r.value (r.stop refl)) refl refl in
    let elements : ReadsElements 0 bare_text no_bodies First (at_token 0 1 0) (at_token 7 1 0) bare_words = r.word_element refl echo (r.word_element refl split (r.no_element refl)) in
    let list : ReadsAndOr 0 bare_text no_bodies (at_token 0 0 0) (at_token 7 1 0) _ = alone_reads (r.simple_command refl elements) refl refl refl in
    whole bare_text 0 (at_token 7 1 0) bare_script refl (r.sequence (r.list (r.no_break refl) refl (r.last_item list refl refl))) refl refl

pub assigned_reads : Reads assigned_text assigned_script
unfolding computes
assigned_reads =
    let one : ReadsWord 0 assigned_text (in_value 2) (at_word 2 1 0) (at_word 3 1 0) (bare 2 3) = r.whole_word (r.more refl r.plain (r.stop refl)) refl refl in
    let set : ReadsAndOr 0 assigned_text no_bodies (at_token 0 0 0) (at_token 3 1 0) _ =
    alone_reads (r.simple_command refl (r.assigned_element refl one (r.no_element refl))) refl refl refl in
    let line : ReadsBreaks 0 assigned_text (at_token 3 1 0) (at_token 4 1 0) = r.more_breaks refl refl r.no_body (r.no_break refl) in
    let echo : ReadsWord 0 assigned_text (in_word 4) (at_word 4 2 0) (at_word 8 2 0) (bare 4 8) = r.whole_word (r.more refl r.plain (r.stop refl)) refl refl in
    let inner : ReadsParts 0 assigned_text (in_double (in_word 9)) 0 (at_word 10 2 0) (at_word 13 2 0) (value 10 12 ∷ []) = r.more refl r.value (r.stop refl) in
    let quoted : ReadsWord 0 assigned_text (in_word 9) (at_word 9 2 0) (at_word 13 2 0) (word 9 13 assigned_parts) = r.whole_word (r.more refl (r.double_quoted inner) (r.stop refl)) refl refl in
    let elements : ReadsElements 0 assigned_text no_bodies First (at_token 4 2 0) (at_token 13 2 0) assigned_words =
    r.word_element refl echo (r.word_element refl quoted (r.no_element refl)) in
    let list : ReadsAndOr 0 assigned_text no_bodies (at_token 4 1 0) (at_token 13 2 0) _ = alone_reads (r.simple_command refl elements) refl refl refl in
    whole assigned_text 0 (at_token 13 2 0) assigned_script refl
    (r.sequence (r.list (r.no_break refl) refl (r.more_items set refl line refl (r.last_item list refl refl)))) refl refl

pub passed_reads : Reads passed_text passed_script
unfolding computes
passed_reads =
    let one : ReadsWord 0 passed_text (in_value 2) (at_word 2 1 0) (at_word 3 1 0) (bare 2 3) = r.whole_word (r.more refl r.plain (r.stop refl)) refl refl in
    let echo : ReadsWord 0 passed_text (in_word 4) (at_word 4 1 0) (at_word 8 1 0) (bare 4 8) = r.whole_word (r.more refl r.plain (r.stop refl)) refl refl in
    let inner : ReadsParts 0 passed_text (in_double (in_word 9)) 0 (at_word 10 1 0) (at_word 13 1 0) (value 10 12 ∷ []) = r.more refl r.value (r.stop refl) in
    let quoted : ReadsWord 0 passed_text (in_word 9) (at_word 9 1 0) (at_word 13 1 0) (word 9 13 assigned_parts) = r.whole_word (r.more refl (r.double_quoted inner) (r.stop refl)) refl refl in
    let elements : ReadsElements 0 passed_text no_bodies First (at_token 0 1 0) (at_token 13 1 0) (element.Assignment (span 0 1) (bare 2 3) ∷ assigned_words) =
    r.assigned_element refl one (r.word_element refl echo (r.word_element refl quoted (r.no_element refl))) in
    let list : ReadsAndOr 0 passed_text no_bodies (at_token 0 0 0) (at_token 13 1 0) _ = alone_reads (r.simple_command refl elements) refl refl refl in
    whole passed_text 0 (at_token 13 1 0) passed_script refl (r.sequence (r.list (r.no_break refl) refl (r.last_item list refl refl))) refl refl

pub home_reads : Reads home_text home_script
unfolding computes
home_reads =
    let value : ReadsWord 0 home_text (in_value 2) (at_word 2 1 0) (at_word 7 1 0) home_value =
    r.whole_word (r.more refl r.tilde (r.more refl r.plain (r.more refl r.tilde (r.stop refl)))) refl refl in
    let name : ReadsWord 0 home_text (in_word 8) (at_word 8 1 0) (at_word 9 1 0) (bare 8 9) = r.whole_word (r.more refl r.plain (r.stop refl)) refl refl in
    let elements : ReadsElements 0 home_text no_bodies First (at_token 0 1 0) (at_token 9 1 0) (element.Assignment (span 0 1) home_value ∷ element.Word (bare 8 9) ∷ []) =
    r.assigned_element refl value (r.word_element refl name (r.no_element refl)) in
    let list : ReadsAndOr 0 home_text no_bodies (at_token 0 0 0) (at_token 9 1 0) _ = alone_reads (r.simple_command refl elements) refl refl refl in
    whole home_text 0 (at_token 9 1 0) home_script refl (r.sequence (r.list (r.no_break refl) refl (r.last_item list refl refl))) refl refl

pub braces_reads : Reads braces_text braces_script
unfolding computes
braces_reads =
    let value : ReadsWord 0 braces_text (in_value 2) (at_word 2 1 0) (at_word 5 1 0) (bare 2 5) = r.whole_word (r.more refl r.plain (r.stop refl)) refl refl in
    let target : ReadsWord 0 braces_text (in_unsplit 6) (at_word 6 1 0) (at_word 7 1 0) (bare 6 7) = r.whole_word (r.more refl r.plain (r.stop refl)) refl refl in
    let output : ReadsRedirect 0 braces_text no_bodies (at_token 5 1 0) (at_token 7 1 0) (redirect 5 None (File direction.Write (bare 6 7))) = r.file refl refl refl target in
    let elements : ReadsElements 0 braces_text no_bodies First (at_token 0 1 0) (at_token 7 1 0) braces_elements =
    r.assigned_element refl value (r.redirect_element refl output (r.no_element refl)) in
    let list : ReadsAndOr 0 braces_text no_bodies (at_token 0 0 0) (at_token 7 1 0) _ = alone_reads (r.simple_command refl elements) refl refl refl in
    whole braces_text 0 (at_token 7 1 0) braces_script refl (r.sequence (r.list (r.no_break refl) refl (r.last_item list refl refl))) refl refl

pub braced_reads : Reads braced_text braced_script
unfolding computes
braced_reads =
    let below : 0 < 1 = omega arith in
    let echo : ReadsWord 1 braced_text (in_word 0) (at_word 0 1 0) (at_word 4 1 0) (bare 0 4) = r.whole_word (r.more refl r.plain (r.stop refl)) refl refl in
    let quoted : ReadsParts 1 braced_text (in_double (in_use (in_word 5) action.Default 10)) 0 (at_word 11 1 1) (at_word 13 1 1) (plain 11 12 ∷ []) = r.more refl r.plain (r.stop refl) in
    let default : ReadsParts 1 braced_text (in_use (in_word 5) action.Default 10) 0 (at_word 10 1 1) (at_word 14 1 1) (part.Double (span 10 13) (plain 11 12 ∷ []) ∷ []) =
    r.more refl (r.double_quoted quoted) (r.stop refl) in
    let used : ReadsWord 1 braced_text (in_word 5) (at_word 5 1 0) (at_word 14 1 0) (word 5 14 (default_part ∷ [])) =
    r.whole_word (r.more refl (r.use_word below default) (r.stop refl)) refl refl in
    let counted : ReadsWord 1 braced_text (in_word 15) (at_word 15 1 0) (at_word 20 1 0) (word 15 20 (length_part ∷ [])) =
    r.whole_word (r.more refl r.length_value (r.stop refl)) refl refl in
    let pattern : ReadsParts 1 braced_text (in_removal (in_double (in_word 21)) 26) 0 (at_word 26 1 1) (at_word 28 1 1) (plain 26 27 ∷ []) = r.more refl r.plain (r.stop refl) in
    let removed : ReadsParts 1 braced_text (in_double (in_word 21)) 0 (at_word 22 1 0) (at_word 29 1 0) (removal_part ∷ []) = r.more refl (r.removal below pattern) (r.stop refl) in
    let last : ReadsWord 1 braced_text (in_word 21) (at_word 21 1 0) (at_word 29 1 0) (word 21 29 (part.Double (span 21 29) (removal_part ∷ []) ∷ [])) =
    r.whole_word (r.more refl (r.double_quoted removed) (r.stop refl)) refl refl in
    let elements : ReadsElements 1 braced_text no_bodies First (at_token 0 1 0) (at_token 29 1 0) braced_words =
    r.word_element refl echo (r.word_element refl used (r.word_element refl counted (r.word_element refl last (r.no_element refl)))) in
    let list : ReadsAndOr 1 braced_text no_bodies (at_token 0 0 0) (at_token 29 1 0) _ = alone_reads (r.simple_command refl elements) refl refl refl in
    whole braced_text 1 (at_token 29 1 0) braced_script refl (r.sequence (r.list (r.no_break refl) refl (r.last_item list refl refl))) refl refl

pub parameters_reads : Reads parameters_text parameters_script
unfolding computes
parameters_reads =
    let echo : ReadsWord 0 parameters_text (in_word 0) (at_word 0 1 0) (at_word 4 1 0) (bare 0 4) = r.whole_word (r.more refl r.plain (r.stop refl)) refl refl in
    let inner : ReadsParts 0 parameters_text (in_double (in_word 5)) 0 (at_word 6 1 0) (at_word 18 1 0) parameters_parts =
    r.more refl r.value (r.more refl r.value (r.more refl r.joined (r.more refl r.value (r.stop refl)))) in
    let quoted : ReadsWord 0 parameters_text (in_word 5) (at_word 5 1 0) (at_word 18 1 0) (word 5 18 (part.Double (span 5 18) parameters_parts ∷ [])) =
    r.whole_word (r.more refl (r.double_quoted inner) (r.stop refl)) refl refl in
    let elements : ReadsElements 0 parameters_text no_bodies First (at_token 0 1 0) (at_token 18 1 0) parameters_words = r.word_element refl echo (r.word_element refl quoted (r.no_element refl)) in
    let list : ReadsAndOr 0 parameters_text no_bodies (at_token 0 0 0) (at_token 18 1 0) _ = alone_reads (r.simple_command refl elements) refl refl refl in
    whole parameters_text 0 (at_token 18 1 0) parameters_script refl (r.sequence (r.list (r.no_break refl) refl (r.last_item list refl refl))) refl refl

-- Arithmetic

-- no operator of this level follows
pub level_through : {limit : ℕ} {b : List ℕ} {x : Context} {l : ℕ} {s u : Spot} {e : Expr} → l < unary_level → ReadsLevel limit b x (l + 1) s u e → binary_of l (figure_at b u) ≡ None
    → ReadsLevel limit b x l s u e
level_through {e = e} below h none = r.chain {e = e} {es = []} below h (r.no_operand none)

-- no operator follows
pub loosest_level : {limit : ℕ} {b : List ℕ} {x : Context} {s u : Spot} {e : Expr} → ReadsLevel limit b x unary_level s u e → ((l : ℕ) → binary_of l (figure_at b u) ≡ None)
    → ReadsLevel limit b x 0 s u e
loosest_level {limit = limit} {b = b} {x = x} {s = s} {u = u} {e = e} h none =
    let times : ReadsLevel limit b x 9 s u e = level_through (omega arith) h (none 9) in
    let plus : ReadsLevel limit b x 8 s u e = level_through (omega arith) times (none 8) in
    let shift : ReadsLevel limit b x 7 s u e = level_through (omega arith) plus (none 7) in
    let less : ReadsLevel limit b x 6 s u e = level_through (omega arith) shift (none 6) in
    let equal : ReadsLevel limit b x 5 s u e = level_through (omega arith) less (none 5) in
    let bits : ReadsLevel limit b x 4 s u e = level_through (omega arith) equal (none 4) in
    let parity : ReadsLevel limit b x 3 s u e = level_through (omega arith) bits (none 3) in
    let either : ReadsLevel limit b x 2 s u e = level_through (omega arith) parity (none 2) in
    let both : ReadsLevel limit b x 1 s u e = level_through (omega arith) either (none 1) in
    level_through (omega arith) both (none 0)

pub arithmetic_reads : Reads arithmetic_text arithmetic_script
unfolding computes
arithmetic_reads =
    let three : ReadsLevel 2 arithmetic_text (in_arithmetic (in_word 5)) 10 (at_word 14 1 2) (at_word 15 1 2) (expr.Constant (span 14 15)) = r.operand refl refl r.constant in
    let two : ReadsLevel 2 arithmetic_text (in_arithmetic (in_word 5)) 10 (at_word 12 1 2) (at_word 13 1 2) (expr.Constant (span 12 13)) = r.operand refl refl r.constant in
    let one : ReadsLevel 2 arithmetic_text (in_arithmetic (in_word 5)) 9 (at_word 10 1 2) (at_word 11 1 2) (expr.Constant (span 10 11)) =
    level_through (omega arith) (r.operand refl refl r.constant) refl in
    let times : ReadsLevel 2 arithmetic_text (in_arithmetic (in_word 5)) 9 (at_word 12 1 2) (at_word 15 1 2) product =
    r.chain {e = expr.Constant (span 12 13)} {es = (binary.Multiply, expr.Constant (span 14 15)) ∷ []} (omega arith) two (r.more_operands refl three (r.no_operand refl)) in
    let plus : ReadsLevel 2 arithmetic_text (in_arithmetic (in_word 5)) 8 (at_word 10 1 2) (at_word 15 1 2) sum =
    r.chain {e = expr.Constant (span 10 11)} {es = (binary.Add, product) ∷ []} (omega arith) one (r.more_operands refl times (r.no_operand refl)) in
    let fourth : ReadsLevel 2 arithmetic_text (in_arithmetic (in_word 5)) 4 (at_word 10 1 2) (at_word 15 1 2) sum =
    level_through (omega arith) (level_through (omega arith) (level_through (omega arith) (level_through (omega arith) plus refl) refl) refl) refl in
    let loosest : ReadsLevel 2 arithmetic_text (in_arithmetic (in_word 5)) 0 (at_word 10 1 2) (at_word 15 1 2) sum =
    level_through (omega arith) (level_through (omega arith) (level_through (omega arith) (level_through (omega arith) fourth refl) refl) refl) refl in
    let right : ReadsExpression 2 arithmetic_text (in_arithmetic (in_word 5)) (at_word 10 1 2) (at_word 15 1 2) sum = r.no_assignment refl (r.one_level loosest refl) in
    let assigned : ReadsExpression 2 arithmetic_text (in_arithmetic (in_word 5)) (at_word 8 1 1) (at_word 15 1 1) (expr.Assign (span 8 9) None sum) =
    r.assignment refl refl (omega arith) right in
    let echo : ReadsWord 2 arithmetic_text (in_word 0) (at_word 0 1 0) (at_word 4 1 0) (bare 0 4) = r.whole_word (r.more refl r.plain (r.stop refl)) refl refl in
    let whole_expansion : ReadsWord 2 arithmetic_text (in_word 5) (at_word 5 1 0) (at_word 17 1 0) (word 5 17 (arithmetic_part ∷ [])) =
    r.whole_word (r.more refl (r.arithmetic (omega arith) assigned refl refl) (r.stop refl)) refl refl in
    let elements : ReadsElements 2 arithmetic_text no_bodies First (at_token 0 1 0) (at_token 17 1 0) (element.Word (bare 0 4) ∷ element.Word (word 5 17 (arithmetic_part ∷ [])) ∷ []) =
    r.word_element refl echo (r.word_element refl whole_expansion (r.no_element refl)) in
    let list : ReadsAndOr 2 arithmetic_text no_bodies (at_token 0 0 0) (at_token 17 1 0) _ = alone_reads (r.simple_command refl elements) refl refl refl in
    whole arithmetic_text 2 (at_token 17 1 0) arithmetic_script refl (r.sequence (r.list (r.no_break refl) refl (r.last_item list refl refl))) refl refl

pub choice_reads : Reads choice_text choice_script
unfolding computes
choice_reads =
    let x : ReadsLevel 3 choice_text (in_arithmetic (in_word 5)) 10 (at_word 9 1 2) (at_word 10 1 2) (expr.Variable (span 9 10)) = r.operand refl refl r.variable in
    let minus : ReadsLevel 3 choice_text (in_arithmetic (in_word 5)) 10 (at_word 8 1 1) (at_word 10 1 1) (expr.Unary unary.Minus (expr.Variable (span 9 10))) =
    r.operand refl refl (r.signed refl (omega arith) x) in
    let y : ReadsLevel 3 choice_text (in_arithmetic (in_word 5)) 10 (at_word 12 1 3) (at_word 13 1 3) (expr.Variable (span 12 13)) = r.operand refl refl r.variable in
    let inside : ReadsExpression 3 choice_text (in_arithmetic (in_word 5)) (at_word 12 1 3) (at_word 13 1 3) (expr.Variable (span 12 13)) =
    r.no_assignment refl (r.one_level (loosest_level y (λ l. refl)) refl) in
    let between : ReadsLevel 3 choice_text (in_arithmetic (in_word 5)) 10 (at_word 11 1 2) (at_word 14 1 2) (expr.Parenthesis (expr.Variable (span 12 13))) =
    r.operand refl refl (r.parenthesis (omega arith) inside refl) in
    let yes : ReadsExpression 3 choice_text (in_arithmetic (in_word 5)) (at_word 11 1 2) (at_word 14 1 2) (expr.Parenthesis (expr.Variable (span 12 13))) =
    r.no_assignment refl (r.one_level (loosest_level between (λ l. refl)) refl) in
    let z : ReadsLevel 3 choice_text (in_arithmetic (in_word 5)) 10 (at_word 15 1 2) (at_word 17 1 2) (expr.Expansion (value 15 17)) = r.operand refl refl (r.expansion refl refl r.value) in
    let no : ReadsConditional 3 choice_text (in_arithmetic (in_word 5)) (at_word 15 1 2) (at_word 17 1 2) (expr.Expansion (value 15 17)) =
    r.one_level (loosest_level z (λ l. refl)) refl in
    let choice : ReadsExpression 3 choice_text (in_arithmetic (in_word 5)) (at_word 8 1 1) (at_word 17 1 1) _ =
    r.no_assignment refl (r.choice (loosest_level minus (λ l. refl)) refl (omega arith) yes refl no) in
    let echo : ReadsWord 3 choice_text (in_word 0) (at_word 0 1 0) (at_word 4 1 0) (bare 0 4) = r.whole_word (r.more refl r.plain (r.stop refl)) refl refl in
    let whole_expansion : ReadsWord 3 choice_text (in_word 5) (at_word 5 1 0) (at_word 19 1 0) (word 5 19 (choice_part ∷ [])) =
    r.whole_word (r.more refl (r.arithmetic (omega arith) choice refl refl) (r.stop refl)) refl refl in
    let elements : ReadsElements 3 choice_text no_bodies First (at_token 0 1 0) (at_token 19 1 0) (element.Word (bare 0 4) ∷ element.Word (word 5 19 (choice_part ∷ [])) ∷ []) =
    r.word_element refl echo (r.word_element refl whole_expansion (r.no_element refl)) in
    let list : ReadsAndOr 3 choice_text no_bodies (at_token 0 0 0) (at_token 19 1 0) _ = alone_reads (r.simple_command refl elements) refl refl refl in
    whole choice_text 3 (at_token 19 1 0) choice_script refl (r.sequence (r.list (r.no_break refl) refl (r.last_item list refl refl))) refl refl

pub substituted_reads : Reads substituted_text substituted_script
unfolding computes
substituted_reads =
    let inner_echo : ReadsWord 1 substituted_text (in_word 8) (at_word 8 2 1) (at_word 12 2 1) (bare 8 12) = r.whole_word (r.more refl r.plain (r.stop refl)) refl refl in
    let operand : ReadsWord 1 substituted_text (in_word 13) (at_word 13 2 1) (at_word 14 2 1) (bare 13 14) = r.whole_word (r.more refl r.plain (r.stop refl)) refl refl in
    let inner_elements : ReadsElements 1 substituted_text no_bodies First (at_token 8 2 1) (at_token 14 2 1) (element.Word (bare 8 12) ∷ element.Word (bare 13 14) ∷ []) =
    r.word_element refl inner_echo (r.word_element refl operand (r.no_element refl)) in
    let inner_list : ReadsAndOr 1 substituted_text no_bodies (at_token 8 1 1) (at_token 14 2 1) _ = alone_reads (r.simple_command refl inner_elements) refl refl refl in
    let inner : ReadsScript 1 substituted_text (at_word 8 1 1) (at_word 14 2 1) inner_script =
    r.script {u = at_token 14 2 1} (r.sequence (r.list (r.no_break refl) refl (r.last_item inner_list refl refl))) refl in
    let echo : ReadsWord 1 substituted_text (in_word 0) (at_word 0 1 0) (at_word 4 1 0) (bare 0 4) = r.whole_word (r.more refl r.plain (r.stop refl)) refl refl in
    let between : ReadsParts 1 substituted_text (in_double (in_word 5)) 0 (at_word 6 1 0) (at_word 16 2 0) (part.Command Paren (span 6 15) inner_script ∷ []) =
    r.more refl (r.substitution (omega arith) refl inner refl) (r.stop refl) in
    let quotes : ReadsWord 1 substituted_text (in_word 5) (at_word 5 1 0) (at_word 16 2 0) (word 5 16 (substituted_part ∷ [])) =
    r.whole_word (r.more refl (r.double_quoted between) (r.stop refl)) refl refl in
    let elements : ReadsElements 1 substituted_text no_bodies First (at_token 0 1 0) (at_token 16 2 0) (element.Word (bare 0 4) ∷ element.Word (word 5 16 (substituted_part ∷ [])) ∷ []) =
    r.word_element refl echo (r.word_element refl quotes (r.no_element refl)) in
    let list : ReadsAndOr 1 substituted_text no_bodies (at_token 0 0 0) (at_token 16 2 0) _ = alone_reads (r.simple_command refl elements) refl refl refl in
    whole substituted_text 1 (at_token 16 2 0) substituted_script refl (r.sequence (r.list (r.no_break refl) refl (r.last_item list refl refl))) refl refl

pub ticked_reads : Reads ticked_text ticked_script
unfolding computes
ticked_reads =
    let inner_echo : ReadsWord 1 (take 14 ticked_text) (in_word 7) (at_word 7 2 1) (at_word 11 2 1) (bare 7 11) = r.whole_word (r.more refl r.plain (r.stop refl)) refl refl in
    let operand : ReadsWord 1 (take 14 ticked_text) (in_word 12) (at_word 12 2 1) (at_word 13 2 1) (bare 12 13) = r.whole_word (r.more refl r.plain (r.stop refl)) refl refl in
    let inner_elements : ReadsElements 1 (take 14 ticked_text) no_bodies First (at_token 7 2 1) (at_token 13 2 1) (element.Word (bare 7 11) ∷ element.Word (bare 12 13) ∷ []) =
    r.word_element refl inner_echo (r.word_element refl operand (r.no_element refl)) in
    let inner_list : ReadsAndOr 1 (take 14 ticked_text) no_bodies (at_token 7 1 1) (at_token 13 2 1) _ = alone_reads (r.simple_command refl inner_elements) refl refl refl in
    let inner : ReadsScript 1 (take 14 ticked_text) (at_word 7 1 1) (at_word 13 2 1) ticked_inner =
    r.script {u = at_token 13 2 1} (r.sequence (r.list (r.no_break refl) refl (r.last_item inner_list refl refl))) refl in
    let echo : ReadsWord 1 ticked_text (in_word 0) (at_word 0 1 0) (at_word 4 1 0) (bare 0 4) = r.whole_word (r.more refl r.plain (r.stop refl)) refl refl in
    let between : ReadsParts 1 ticked_text (in_double (in_word 5)) 0 (at_word 6 1 0) (at_word 15 2 0) (part.Command Backquote (span 6 14) ticked_inner ∷ []) =
    r.more refl (r.substitution (omega arith) refl inner refl) (r.stop refl) in
    let quotes : ReadsWord 1 ticked_text (in_word 5) (at_word 5 1 0) (at_word 15 2 0) (word 5 15 (ticked_part ∷ [])) =
    r.whole_word (r.more refl (r.double_quoted between) (r.stop refl)) refl refl in
    let elements : ReadsElements 1 ticked_text no_bodies First (at_token 0 1 0) (at_token 15 2 0) (element.Word (bare 0 4) ∷ element.Word (word 5 15 (ticked_part ∷ [])) ∷ []) =
    r.word_element refl echo (r.word_element refl quotes (r.no_element refl)) in
    let list : ReadsAndOr 1 ticked_text no_bodies (at_token 0 0 0) (at_token 15 2 0) _ = alone_reads (r.simple_command refl elements) refl refl refl in
    whole ticked_text 1 (at_token 15 2 0) ticked_script refl (r.sequence (r.list (r.no_break refl) refl (r.last_item list refl refl))) refl refl

pub substituted_case_reads : Reads substituted_case_text substituted_case_script
unfolding computes
substituted_case_reads =
    let subject : ReadsWord 2 substituted_case_text (in_unsplit 9) (at_word 9 2 2) (at_word 10 2 2) (bare 9 10) = r.whole_word (r.more refl r.plain (r.stop refl)) refl refl in
    let pattern : ReadsWord 2 substituted_case_text (in_unsplit 14) (at_word 14 2 2) (at_word 15 2 2) (bare 14 15) = r.whole_word (r.more refl r.plain (r.stop refl)) refl refl in
    let echo : ReadsWord 2 substituted_case_text (in_word 17) (at_word 17 3 2) (at_word 21 3 2) (bare 17 21) = r.whole_word (r.more refl r.plain (r.stop refl)) refl refl in
    let operand : ReadsWord 2 substituted_case_text (in_word 22) (at_word 22 3 2) (at_word 23 3 2) (bare 22 23) = r.whole_word (r.more refl r.plain (r.stop refl)) refl refl in
    let inner_elements : ReadsElements 2 substituted_case_text no_bodies First (at_token 17 3 2) (at_token 23 3 2) case_echo =
    r.word_element refl echo (r.word_element refl operand (r.no_element refl)) in
    let inner_list : ReadsAndOr 2 substituted_case_text no_bodies (at_token 17 2 2) (at_token 23 3 2) _ = alone_reads (r.simple_command refl inner_elements) refl refl refl in
    let body : ReadsSequence 2 substituted_case_text no_bodies (at_token 17 2 2) (at_token 23 3 2) (lone (simple 3 17 case_echo)) =
    r.sequence (r.list (r.no_break refl) refl (r.last_item inner_list refl refl)) in
    let clauses : ReadsClauses 2 substituted_case_text no_bodies (at_token 14 2 2) (at_token 30 3 2) inner_clauses =
    r.more_clauses refl (r.last_pattern {s = at_token 14 2 2} refl pattern refl) body refl (r.no_break refl) (r.esac refl) in
    let compound : ReadsCompound 2 substituted_case_text no_bodies (lead.Reserved reserved.Case) (at_token 4 2 1) (at_token 30 3 1) _ =
    r.case_of (omega arith) refl subject (r.no_break refl) refl (r.no_break refl) clauses in
    let inner_command : ReadsCommand 2 substituted_case_text no_bodies (at_token 4 1 1) (at_close 30 3 1) _ = r.compound_command refl compound (r.no_redirect refl) in
    let inner : ReadsScript 2 substituted_case_text (at_word 4 1 1) (at_word 30 3 1) inner_case =
    r.script {u = at_close 30 3 1} (r.sequence (r.list (r.no_break refl) refl (r.last_item (alone_reads inner_command refl refl refl) refl refl))) refl in
    let value : ReadsWord 2 substituted_case_text (in_value 2) (at_word 2 1 0) (at_word 31 3 0) substituted_case_value =
    r.whole_word (r.more refl (r.substitution (omega arith) refl inner refl) (r.stop refl)) refl refl in
    let elements : ReadsElements 2 substituted_case_text no_bodies First (at_token 0 1 0) (at_token 31 3 0) (element.Assignment (span 0 1) substituted_case_value ∷ []) =
    r.assigned_element refl value (r.no_element refl) in
    let list : ReadsAndOr 2 substituted_case_text no_bodies (at_token 0 0 0) (at_token 31 3 0) _ = alone_reads (r.simple_command refl elements) refl refl refl in
    whole substituted_case_text 2 (at_token 31 3 0) substituted_case_script refl (r.sequence (r.list (r.no_break refl) refl (r.last_item list refl refl))) refl refl

-- Here-documents

abbrev pub the_mark : Mark
the_mark = record { strip = false; quoted = false; delimiter = codes "E"; depth = 0 }

abbrev the_document : Document
the_document = record { text = document_body; end = span 15 16 }

abbrev the_bodies : ℕ → Document
the_bodies = nth (the_document ∷ [])

-- among commands, while the body waits, and after it
abbrev waiting : ℕ → ℕ → State
waiting i count = record (at_token i count 0) { pending = the_mark ∷ [] }

abbrev behind_body : ℕ → ℕ → State
behind_body i count = record (at_token i count 0) { bodies = the_document ∷ [] }

pub document_reads : Reads document_text document_script
unfolding computes
document_reads =
    let cat : ReadsWord 0 document_text (in_word 0) (at_word 0 1 0) (at_word 3 1 0) (bare 0 3) = r.whole_word (r.more refl r.plain (r.stop refl)) refl refl in
    let delimiter : ReadsWord 0 document_text (in_unsplit 6) (at_word 6 1 0) (at_word 7 1 0) (bare 6 7) = r.whole_word (r.more refl r.plain (r.stop refl)) refl refl in
    let operator : ReadsRedirect 0 document_text the_bodies (at_token 4 1 0) (waiting 7 1) (redirect 4 None (Here (here_doc false (bare 6 7) document_body (span 15 16)))) =
    r.here_document refl refl refl delimiter refl in
    let elements : ReadsElements 0 document_text the_bodies First (at_token 0 1 0) (waiting 7 1) document_words =
    r.word_element refl cat (r.redirect_element refl operator (r.no_element refl)) in
    let first : ReadsAndOr 0 document_text the_bodies (at_token 0 0 0) (waiting 7 1) _ = alone_reads (r.simple_command refl elements) refl refl refl in
    let second : ReadsCommand 0 document_text the_bodies (waiting 9 1) (waiting 10 2) (utility 2 9 10) =
    r.simple_command refl (r.word_element refl (r.whole_word (r.more refl r.plain (r.stop refl)) refl refl) (r.no_element refl)) in
    let body : ReadsParts 0 (take 15 document_text) (in_document_of the_mark) 10 (record (at_word 11 2 0) { joins = true }) (record (at_word 15 2 0) { joins = true }) document_body.parts =
    r.more refl r.plain (r.more refl r.value (r.more refl r.plain (r.stop refl))) in
    let bodies : ReadsDocuments 0 document_text (the_mark ∷ []) (at_token 11 2 0) (behind_body 17 2) = r.more_bodies refl refl refl body refl r.no_body in
    let line : ReadsBreaks 0 document_text (waiting 10 2) (behind_body 17 2) = r.more_breaks refl refl bodies (r.no_break refl) in
    whole document_text 0 (behind_body 17 2) document_script refl
    (r.sequence (r.list (r.no_break refl) refl
    (r.more_items first refl (r.no_break refl) refl (r.ended_item (alone_reads second refl refl refl) refl line refl))))
    refl refl

abbrev stripping : Mark
stripping = record { strip = true; quoted = false; delimiter = codes "E"; depth = 0 }

abbrev stripped_document : Document
stripped_document = record { text = stripped_body; end = span 8 10 }

abbrev stripped_bodies : ℕ → Document
stripped_bodies = nth (stripped_document ∷ [])

abbrev stripping_from : ℕ → State
stripping_from i = record (at_token i 1 0) { pending = stripping ∷ [] }

abbrev behind_stripped : ℕ → State
behind_stripped i = record (at_token i 1 0) { bodies = stripped_document ∷ [] }

pub stripped_reads : Reads stripped_text stripped_script
unfolding computes
stripped_reads =
    let delimiter : ReadsWord 0 stripped_text (in_unsplit 3) (at_word 3 1 0) (at_word 4 1 0) (bare 3 4) = r.whole_word (r.more refl r.plain (r.stop refl)) refl refl in
    let operator : ReadsRedirect 0 stripped_text stripped_bodies (at_token 0 1 0) (stripping_from 4) (redirect 0 None (Here (here_doc true (bare 3 4) stripped_body (span 8 10)))) =
    r.here_document refl refl refl delimiter refl in
    let elements : ReadsElements 0 stripped_text stripped_bodies First (at_token 0 1 0) (stripping_from 4) (element.Redirection (redirect 0 None (Here (here_doc true (bare 3 4) stripped_body (span 8 10)))) ∷ []) =
    r.redirect_element refl operator (r.no_element refl) in
    let body : ReadsParts 0 (take 8 stripped_text) (in_document_of stripping) 10 (record (at_word 5 1 0) { joins = true; tabs = true }) (record (at_word 8 1 0) { joins = true; tabs = true })
    stripped_body.parts =
    r.tabs refl (r.more refl r.plain (r.stop refl)) in
    let bodies : ReadsDocuments 0 stripped_text (stripping ∷ []) (at_token 5 1 0) (behind_stripped 11) = r.more_bodies refl refl refl body refl r.no_body in
    let line : ReadsBreaks 0 stripped_text (stripping_from 4) (behind_stripped 11) = r.more_breaks refl refl bodies (r.no_break refl) in
    whole stripped_text 0 (behind_stripped 11) stripped_script refl
    (r.sequence (r.list (r.no_break refl) refl (r.ended_item (alone_reads (r.simple_command refl elements) refl refl refl) refl line refl))) refl refl

-- Compound commands

pub branch_reads : Reads branch_text branch_script
unfolding computes
branch_reads =
    let a : ReadsCommand 1 branch_text no_bodies (at_token 3 1 1) (at_token 4 2 1) (utility 2 3 4) =
    r.simple_command refl (r.word_element refl (r.whole_word (r.more refl r.plain (r.stop refl)) refl refl) (r.no_element refl)) in
    let condition : ReadsList 1 branch_text no_bodies (at_token 3 1 1) (at_token 6 2 1) (lone (utility 2 3 4)) =
    r.list (r.no_break refl) refl (r.ended_item (alone_reads a refl refl refl) refl (r.no_break refl) refl) in
    let b : ReadsCommand 1 branch_text no_bodies (at_token 11 2 1) (at_token 12 3 1) (utility 3 11 12) =
    r.simple_command refl (r.word_element refl (r.whole_word (r.more refl r.plain (r.stop refl)) refl refl) (r.no_element refl)) in
    let body : ReadsList 1 branch_text no_bodies (at_token 11 2 1) (at_token 14 3 1) (lone (utility 3 11 12)) =
    r.list (r.no_break refl) refl (r.ended_item (alone_reads b refl refl refl) refl (r.no_break refl) refl) in
    let c : ReadsCommand 1 branch_text no_bodies (at_token 19 3 1) (at_token 20 4 1) (utility 4 19 20) =
    r.simple_command refl (r.word_element refl (r.whole_word (r.more refl r.plain (r.stop refl)) refl refl) (r.no_element refl)) in
    let otherwise : ReadsList 1 branch_text no_bodies (at_token 19 3 1) (at_token 22 4 1) (lone (utility 4 19 20)) =
    r.list (r.no_break refl) refl (r.ended_item (alone_reads c refl refl refl) refl (r.no_break refl) refl) in
    let branches : ReadsBranches 1 branch_text no_bodies (at_token 3 1 1) (at_token 24 4 1) (branch (lone (utility 2 3 4)) (lone (utility 3 11 12)) ∷ []) (Some (lone (utility 4 19 20))) =
    r.branch condition refl body (r.otherwise refl otherwise refl) in
    let compound : ReadsCompound 1 branch_text no_bodies (lead.Reserved reserved.If) (at_token 0 1 0) (at_token 24 4 0) _ = r.cond (omega arith) branches in
    let command : ReadsCommand 1 branch_text no_bodies (at_token 0 0 0) (at_close 24 4 0) _ = r.compound_command refl compound (r.no_redirect refl) in
    whole branch_text 1 (at_close 24 4 0) branch_script refl (r.sequence (r.list (r.no_break refl) refl (r.last_item (alone_reads command refl refl refl) refl refl))) refl refl

pub elif_reads : Reads elif_text elif_script
unfolding computes
elif_reads =
    let a : ReadsCommand 1 elif_text no_bodies (at_token 3 1 1) (at_token 4 2 1) (utility 2 3 4) =
    r.simple_command refl (r.word_element refl (r.whole_word (r.more refl r.plain (r.stop refl)) refl refl) (r.no_element refl)) in
    let first : ReadsList 1 elif_text no_bodies (at_token 3 1 1) (at_token 6 2 1) (lone (utility 2 3 4)) =
    r.list (r.no_break refl) refl (r.ended_item (alone_reads a refl refl refl) refl (r.no_break refl) refl) in
    let b : ReadsCommand 1 elif_text no_bodies (at_token 11 2 1) (at_token 12 3 1) (utility 3 11 12) =
    r.simple_command refl (r.word_element refl (r.whole_word (r.more refl r.plain (r.stop refl)) refl refl) (r.no_element refl)) in
    let first_body : ReadsList 1 elif_text no_bodies (at_token 11 2 1) (at_token 14 3 1) (lone (utility 3 11 12)) =
    r.list (r.no_break refl) refl (r.ended_item (alone_reads b refl refl refl) refl (r.no_break refl) refl) in
    let c : ReadsCommand 1 elif_text no_bodies (at_token 19 3 1) (at_token 20 4 1) (utility 4 19 20) =
    r.simple_command refl (r.word_element refl (r.whole_word (r.more refl r.plain (r.stop refl)) refl refl) (r.no_element refl)) in
    let second : ReadsList 1 elif_text no_bodies (at_token 19 3 1) (at_token 22 4 1) (lone (utility 4 19 20)) =
    r.list (r.no_break refl) refl (r.ended_item (alone_reads c refl refl refl) refl (r.no_break refl) refl) in
    let d : ReadsCommand 1 elif_text no_bodies (at_token 27 4 1) (at_token 28 5 1) (utility 5 27 28) =
    r.simple_command refl (r.word_element refl (r.whole_word (r.more refl r.plain (r.stop refl)) refl refl) (r.no_element refl)) in
    let second_body : ReadsList 1 elif_text no_bodies (at_token 27 4 1) (at_token 30 5 1) (lone (utility 5 27 28)) =
    r.list (r.no_break refl) refl (r.ended_item (alone_reads d refl refl refl) refl (r.no_break refl) refl) in
    let branches : ReadsBranches 1 elif_text no_bodies (at_token 3 1 1) (at_token 32 5 1) elif_branches None =
    r.branch first refl first_body (r.elif refl (r.branch second refl second_body (r.fi refl))) in
    let compound : ReadsCompound 1 elif_text no_bodies (lead.Reserved reserved.If) (at_token 0 1 0) (at_token 32 5 0) _ = r.cond (omega arith) branches in
    let command : ReadsCommand 1 elif_text no_bodies (at_token 0 0 0) (at_close 32 5 0) _ = r.compound_command refl compound (r.no_redirect refl) in
    whole elif_text 1 (at_close 32 5 0) elif_script refl (r.sequence (r.list (r.no_break refl) refl (r.last_item (alone_reads command refl refl refl) refl refl))) refl refl

pub until_reads : Reads until_text until_script
unfolding computes
until_reads =
    let a : ReadsCommand 2 until_text no_bodies (at_token 7 2 2) (at_token 8 3 2) (utility 3 7 8) =
    r.simple_command refl (r.word_element refl (r.whole_word (r.more refl r.plain (r.stop refl)) refl refl) (r.no_element refl)) in
    let inside : ReadsList 2 until_text no_bodies (at_token 7 2 2) (at_token 8 3 2) (lone (utility 3 7 8)) =
    r.list (r.no_break refl) refl (r.last_item (alone_reads a refl refl refl) refl refl) in
    let inner : ReadsCompound 2 until_text no_bodies (lead.Operator op.LeftParenthesis) (at_token 6 2 1) (at_token 10 3 1) (kind.Subshell (lone (utility 3 7 8))) = r.subshell (omega arith) inside refl in
    let subshell : ReadsCommand 2 until_text no_bodies (at_token 6 1 1) (at_close 10 3 1) until_subshell = r.compound_command refl inner (r.no_redirect refl) in
    let b : ReadsCommand 2 until_text no_bodies (at_close 13 3 1) (at_token 14 4 1) (utility 4 13 14) =
    r.simple_command refl (r.word_element refl (r.whole_word (r.more refl r.plain (r.stop refl)) refl refl) (r.no_element refl)) in
    let links : ReadsLinks 2 until_text no_bodies (at_close 10 3 1) (at_token 14 4 1) ((link.OrElse, pipe false (utility 4 13 14 ∷ [])) ∷ []) =
    r.more_links refl (r.no_break refl) (r.straight refl (r.last_command b refl)) (r.no_link refl) in
    let condition : ReadsList 2 until_text no_bodies (at_token 6 1 1) (at_token 16 4 1) until_condition =
    r.list (r.no_break refl) refl (r.ended_item (r.linked (r.straight refl (r.last_command subshell refl)) links) refl (r.no_break refl) refl) in
    let c : ReadsCommand 2 until_text no_bodies (at_token 19 4 1) (at_token 20 5 1) (utility 5 19 20) =
    r.simple_command refl (r.word_element refl (r.whole_word (r.more refl r.plain (r.stop refl)) refl refl) (r.no_element refl)) in
    let body : ReadsList 2 until_text no_bodies (at_token 19 4 1) (at_token 22 5 1) (lone (utility 5 19 20)) =
    r.list (r.no_break refl) refl (r.ended_item (alone_reads c refl refl refl) refl (r.no_break refl) refl) in
    let compound : ReadsCompound 2 until_text no_bodies (lead.Reserved reserved.Until) (at_token 0 1 0) (at_token 26 5 0) _ =
    r.until_loop (omega arith) condition (r.do_group refl body refl) in
    let command : ReadsCommand 2 until_text no_bodies (at_token 0 0 0) (at_close 26 5 0) _ = r.compound_command refl compound (r.no_redirect refl) in
    whole until_text 2 (at_close 26 5 0) until_script refl (r.sequence (r.list (r.no_break refl) refl (r.last_item (alone_reads command refl refl refl) refl refl))) refl refl

pub every_reads : Reads every_text every_script
unfolding computes
every_reads =
    let login : ReadsWord 1 every_text (in_word 9) (at_word 9 2 1) (at_word 11 2 1) (word 9 11 (part.Tilde (span 9 11) ∷ [])) = r.whole_word (r.more refl r.tilde (r.stop refl)) refl refl in
    let a : ReadsCommand 1 every_text no_bodies (at_token 9 1 1) (at_token 11 2 1) every_command = r.simple_command refl (r.word_element refl login (r.no_element refl)) in
    let body : ReadsList 1 every_text no_bodies (at_token 9 1 1) (at_token 13 2 1) (lone every_command) =
    r.list (r.no_break refl) refl (r.ended_item (alone_reads a refl refl refl) refl (r.no_break refl) refl) in
    let words : ReadsForWords 1 every_text (at_token 6 1 1) (at_token 6 1 1) None = r.arguments (r.no_break refl) refl in
    let compound : ReadsCompound 1 every_text no_bodies (lead.Reserved reserved.For) (at_token 0 1 0) (at_token 17 2 0) _ =
    r.for_loop (omega arith) refl words (r.do_group refl body refl) in
    let command : ReadsCommand 1 every_text no_bodies (at_token 0 0 0) (at_close 17 2 0) _ = r.compound_command refl compound (r.no_redirect refl) in
    whole every_text 1 (at_close 17 2 0) every_script refl (r.sequence (r.list (r.no_break refl) refl (r.last_item (alone_reads command refl refl refl) refl refl))) refl refl

pub loop_reads : Reads loop_text loop_script
unfolding computes
loop_reads =
    let a : ReadsWord 1 loop_text (in_word 9) (at_word 9 1 1) (at_word 10 1 1) (bare 9 10) = r.whole_word (r.more refl r.plain (r.stop refl)) refl refl in
    let words : ReadsForWords 1 loop_text (at_token 6 1 1) (at_token 12 1 1) (Some (bare 9 10 ∷ [])) =
    r.listed (r.no_break refl) refl (r.more_words refl a (r.no_word refl)) refl (r.no_break refl) in
    let b : ReadsCommand 1 loop_text no_bodies (at_token 15 1 1) (at_token 16 2 1) (utility 2 15 16) =
    r.simple_command refl (r.word_element refl (r.whole_word (r.more refl r.plain (r.stop refl)) refl refl) (r.no_element refl)) in
    let body : ReadsList 1 loop_text no_bodies (at_token 15 1 1) (at_token 18 2 1) (lone (utility 2 15 16)) =
    r.list (r.no_break refl) refl (r.ended_item (alone_reads b refl refl refl) refl (r.no_break refl) refl) in
    let compound : ReadsCompound 1 loop_text no_bodies (lead.Reserved reserved.For) (at_token 0 1 0) (at_token 22 2 0) _ =
    r.for_loop (omega arith) refl words (r.do_group refl body refl) in
    let command : ReadsCommand 1 loop_text no_bodies (at_token 0 0 0) (at_close 22 2 0) _ = r.compound_command refl compound (r.no_redirect refl) in
    whole loop_text 1 (at_close 22 2 0) loop_script refl (r.sequence (r.list (r.no_break refl) refl (r.last_item (alone_reads command refl refl refl) refl refl))) refl refl

pub case_reads : Reads case_text case_script
unfolding computes
case_reads =
    let subject : ReadsWord 1 case_text (in_unsplit 5) (at_word 5 1 1) (at_word 6 1 1) (bare 5 6) = r.whole_word (r.more refl r.plain (r.stop refl)) refl refl in
    let b : ReadsWord 1 case_text (in_unsplit 11) (at_word 11 1 1) (at_word 12 1 1) (bare 11 12) = r.whole_word (r.more refl r.plain (r.stop refl)) refl refl in
    let c : ReadsWord 1 case_text (in_unsplit 13) (at_word 13 1 1) (at_word 14 1 1) (bare 13 14) = r.whole_word (r.more refl r.plain (r.stop refl)) refl refl in
    let patterns : ReadsPatterns 1 case_text (at_token 11 1 1) (at_token 14 1 1) (bare 11 12 ∷ bare 13 14 ∷ []) = r.more_patterns refl b refl (r.last_pattern refl c refl) in
    let d : ReadsCommand 1 case_text no_bodies (at_token 16 1 1) (at_token 17 2 1) (utility 2 16 17) =
    r.simple_command refl (r.word_element refl (r.whole_word (r.more refl r.plain (r.stop refl)) refl refl) (r.no_element refl)) in
    let body : ReadsSequence 1 case_text no_bodies (at_token 16 1 1) (at_token 17 2 1) (lone (utility 2 16 17)) =
    r.sequence (r.list (r.no_break refl) refl (r.last_item (alone_reads d refl refl refl) refl refl)) in
    let any : ReadsWord 1 case_text (in_unsplit 20) (at_word 20 2 1) (at_word 21 2 1) (bare 20 21) = r.whole_word (r.more refl r.plain (r.stop refl)) refl refl in
    let last : ReadsClauses 1 case_text no_bodies (at_token 20 2 1) (at_token 27 2 1) (clause (bare 20 21 ∷ []) (script []) Break ∷ []) =
    r.last_clause refl (r.last_pattern {s = at_token 20 2 1} refl any refl) (r.nothing (r.no_break refl) refl) refl in
    let clauses : ReadsClauses 1 case_text no_bodies (at_token 10 1 1) (at_token 27 2 1) case_clauses = r.more_clauses refl patterns body refl (r.no_break refl) last in
    let compound : ReadsCompound 1 case_text no_bodies (lead.Reserved reserved.Case) (at_token 0 1 0) (at_token 27 2 0) _ =
    r.case_of (omega arith) refl subject (r.no_break refl) refl (r.no_break refl) clauses in
    let command : ReadsCommand 1 case_text no_bodies (at_token 0 0 0) (at_close 27 2 0) _ = r.compound_command refl compound (r.no_redirect refl) in
    whole case_text 1 (at_close 27 2 0) case_script refl (r.sequence (r.list (r.no_break refl) refl (r.last_item (alone_reads command refl refl refl) refl refl))) refl refl

pub through_reads : Reads through_text through_script
unfolding computes
through_reads =
    let subject : ReadsWord 1 through_text (in_unsplit 5) (at_word 5 1 1) (at_word 6 1 1) (bare 5 6) = r.whole_word (r.more refl r.plain (r.stop refl)) refl refl in
    let b : ReadsWord 1 through_text (in_unsplit 10) (at_word 10 1 1) (at_word 11 1 1) (bare 10 11) = r.whole_word (r.more refl r.plain (r.stop refl)) refl refl in
    let c : ReadsCommand 1 through_text no_bodies (at_token 13 1 1) (at_token 14 2 1) (utility 2 13 14) =
    r.simple_command refl (r.word_element refl (r.whole_word (r.more refl r.plain (r.stop refl)) refl refl) (r.no_element refl)) in
    let body : ReadsSequence 1 through_text no_bodies (at_token 13 1 1) (at_token 14 2 1) (lone (utility 2 13 14)) =
    r.sequence (r.list (r.no_break refl) refl (r.last_item (alone_reads c refl refl refl) refl refl)) in
    let d : ReadsWord 1 through_text (in_unsplit 17) (at_word 17 2 1) (at_word 18 2 1) (bare 17 18) = r.whole_word (r.more refl r.plain (r.stop refl)) refl refl in
    let last : ReadsClauses 1 through_text no_bodies (at_token 17 2 1) (at_token 27 2 1) (clause (bare 17 18 ∷ []) (script []) Break ∷ []) =
    r.more_clauses refl (r.last_pattern {s = at_token 17 2 1} refl d refl) (r.nothing (r.no_break refl) refl) refl (r.no_break refl) (r.esac refl) in
    let clauses : ReadsClauses 1 through_text no_bodies (at_token 10 1 1) (at_token 27 2 1) through_clauses =
    r.more_clauses refl (r.last_pattern {s = at_token 10 1 1} refl b refl) body refl (r.no_break refl) last in
    let compound : ReadsCompound 1 through_text no_bodies (lead.Reserved reserved.Case) (at_token 0 1 0) (at_token 27 2 0) _ =
    r.case_of (omega arith) refl subject (r.no_break refl) refl (r.no_break refl) clauses in
    let command : ReadsCommand 1 through_text no_bodies (at_token 0 0 0) (at_close 27 2 0) _ = r.compound_command refl compound (r.no_redirect refl) in
    whole through_text 1 (at_close 27 2 0) through_script refl (r.sequence (r.list (r.no_break refl) refl (r.last_item (alone_reads command refl refl refl) refl refl))) refl refl

pub defined_reads : Reads defined_text defined_script
unfolding computes
defined_reads =
    let a : ReadsCommand 1 defined_text no_bodies (at_token 6 2 1) (at_token 7 3 1) (utility 3 6 7) =
    r.simple_command refl (r.word_element refl (r.whole_word (r.more refl r.plain (r.stop refl)) refl refl) (r.no_element refl)) in
    let body : ReadsList 1 defined_text no_bodies (at_token 6 2 1) (at_token 9 3 1) (lone (utility 3 6 7)) =
    r.list (r.no_break refl) refl (r.ended_item (alone_reads a refl refl refl) refl (r.no_break refl) refl) in
    let group : ReadsCompound 1 defined_text no_bodies (lead.Reserved reserved.LeftBrace) (at_token 4 2 0) (at_token 11 3 0) (kind.Group (lone (utility 3 6 7))) = r.group (omega arith) body refl in
    let target : ReadsWord 1 defined_text (in_unsplit 12) (at_word 12 3 0) (at_word 13 3 0) (bare 12 13) = r.whole_word (r.more refl r.plain (r.stop refl)) refl refl in
    let redirects : ReadsRedirects 1 defined_text no_bodies (at_token 11 3 0) (at_token 14 3 0) (redirect 11 None (File direction.Write (bare 12 13)) ∷ []) =
    r.more_redirects refl (r.file refl refl refl target) (r.no_redirect refl) in
    let function : ReadsCommand 1 defined_text no_bodies (at_token 4 1 0) (at_token 14 3 0) defined_command = r.compound_command refl group redirects in
    let definition : ReadsCommand 1 defined_text no_bodies (at_token 0 0 0) (at_token 14 3 0) (command 1 0 (kind.Define (span 0 1) defined_command) []) =
    r.definition refl refl refl (r.no_break refl) refl function in
    let c : ReadsCommand 1 defined_text no_bodies (at_token 19 3 0) (at_token 21 4 0) (utility 4 19 20) =
    r.simple_command refl (r.word_element refl (r.whole_word (r.more refl r.plain (r.stop refl)) refl refl) (r.no_element refl)) in
    let d : ReadsCommand 1 defined_text no_bodies (at_token 23 4 0) (at_token 25 5 0) (utility 5 23 24) =
    r.simple_command refl (r.word_element refl (r.whole_word (r.more refl r.plain (r.stop refl)) refl refl) (r.no_element refl)) in
    let piped : ReadsCommands 1 defined_text no_bodies (at_token 19 3 0) (at_token 25 5 0) (utility 4 19 20 ∷ utility 5 23 24 ∷ []) =
    r.more_commands c refl (r.no_break refl) (r.last_command d refl) in
    let links : ReadsLinks 1 defined_text no_bodies (at_token 14 3 0) (at_token 25 5 0) ((link.AndThen, pipe true (utility 4 19 20 ∷ utility 5 23 24 ∷ [])) ∷ []) =
    r.more_links refl (r.no_break refl) (r.negated refl piped) (r.no_link refl) in
    let list : ReadsAndOr 1 defined_text no_bodies (at_token 0 0 0) (at_token 25 5 0) defined_list = r.linked (r.straight refl (r.last_command definition refl)) links in
    whole defined_text 1 (at_token 26 5 0) defined_script refl (r.sequence (r.list (r.no_break refl) refl (r.ended_item list refl (r.no_break refl) refl))) refl refl

pub unset_first_reads : Reads unset_first_text unset_first_script
unfolding computes
unset_first_reads =
    let unset : ReadsWord 0 unset_first_text (in_word 0) (at_word 0 1 0) (at_word 5 1 0) (bare 0 5) = r.whole_word (r.more refl r.plain (r.stop refl)) refl refl in
    let x : ReadsWord 0 unset_first_text (in_word 6) (at_word 6 1 0) (at_word 7 1 0) (bare 6 7) = r.whole_word (r.more refl r.plain (r.stop refl)) refl refl in
    let elements : ReadsElements 0 unset_first_text no_bodies First (at_token 0 1 0) (at_token 8 1 0) unset_first_words =
    r.word_element refl unset (r.word_element refl x (r.no_element refl)) in
    let echo : ReadsWord 0 unset_first_text (in_word 10) (at_word 10 2 0) (at_word 14 2 0) (bare 10 14) = r.whole_word (r.more refl r.plain (r.stop refl)) refl refl in
    let inner : ReadsParts 0 unset_first_text (in_double (in_word 15)) 0 (at_word 16 2 0) (at_word 19 2 0) (value 16 18 ∷ []) = r.more refl r.value (r.stop refl) in
    let quoted : ReadsWord 0 unset_first_text (in_word 15) (at_word 15 2 0) (at_word 19 2 0) (word 15 19 (part.Double (span 15 19) (value 16 18 ∷ []) ∷ [])) =
    r.whole_word (r.more refl (r.double_quoted inner) (r.stop refl)) refl refl in
    let value_elements : ReadsElements 0 unset_first_text no_bodies First (at_token 10 2 0) (at_token 19 2 0) unset_first_value =
    r.word_element refl echo (r.word_element refl quoted (r.no_element refl)) in
    let c : ReadsCommand 0 unset_first_text no_bodies (at_token 0 0 0) (at_token 8 1 0) (simple 1 0 unset_first_words) = r.simple_command refl elements in
    let d : ReadsCommand 0 unset_first_text no_bodies (at_token 10 1 0) (at_token 19 2 0) (simple 2 10 unset_first_value) = r.simple_command refl value_elements in
    let list : ReadsAndOr 0 unset_first_text no_bodies (at_token 0 0 0) (at_token 19 2 0) _ =
    r.linked (r.straight refl (r.more_commands c refl (r.no_break refl) (r.last_command d refl))) (r.no_link refl) in
    whole unset_first_text 0 (at_token 19 2 0) unset_first_script refl (r.sequence (r.list (r.no_break refl) refl (r.last_item list refl refl))) refl refl

pub unset_last_reads : Reads unset_last_text unset_last_script
unfolding computes
unset_last_reads =
    let echo : ReadsWord 0 unset_last_text (in_word 0) (at_word 0 1 0) (at_word 4 1 0) (bare 0 4) = r.whole_word (r.more refl r.plain (r.stop refl)) refl refl in
    let inner : ReadsParts 0 unset_last_text (in_double (in_word 5)) 0 (at_word 6 1 0) (at_word 9 1 0) (value 6 8 ∷ []) = r.more refl r.value (r.stop refl) in
    let quoted : ReadsWord 0 unset_last_text (in_word 5) (at_word 5 1 0) (at_word 9 1 0) (word 5 9 (part.Double (span 5 9) (value 6 8 ∷ []) ∷ [])) =
    r.whole_word (r.more refl (r.double_quoted inner) (r.stop refl)) refl refl in
    let value_elements : ReadsElements 0 unset_last_text no_bodies First (at_token 0 1 0) (at_token 10 1 0) double_words =
    r.word_element refl echo (r.word_element refl quoted (r.no_element refl)) in
    let unset : ReadsWord 0 unset_last_text (in_word 12) (at_word 12 2 0) (at_word 17 2 0) (bare 12 17) = r.whole_word (r.more refl r.plain (r.stop refl)) refl refl in
    let x : ReadsWord 0 unset_last_text (in_word 18) (at_word 18 2 0) (at_word 19 2 0) (bare 18 19) = r.whole_word (r.more refl r.plain (r.stop refl)) refl refl in
    let elements : ReadsElements 0 unset_last_text no_bodies First (at_token 12 2 0) (at_token 19 2 0) unset_last_words =
    r.word_element refl unset (r.word_element refl x (r.no_element refl)) in
    let c : ReadsCommand 0 unset_last_text no_bodies (at_token 0 0 0) (at_token 10 1 0) (simple 1 0 double_words) = r.simple_command refl value_elements in
    let d : ReadsCommand 0 unset_last_text no_bodies (at_token 12 1 0) (at_token 19 2 0) (simple 2 12 unset_last_words) = r.simple_command refl elements in
    let list : ReadsAndOr 0 unset_last_text no_bodies (at_token 0 0 0) (at_token 19 2 0) _ =
    r.linked (r.straight refl (r.more_commands c refl (r.no_break refl) (r.last_command d refl))) (r.no_link refl) in
    whole unset_last_text 0 (at_token 19 2 0) unset_last_script refl (r.sequence (r.list (r.no_break refl) refl (r.last_item list refl refl))) refl refl

pub closed_reads : Reads closed_text closed_script
unfolding computes
closed_reads =
    let a : ReadsCommand 2 closed_text no_bodies (at_token 4 2 2) (at_token 5 3 2) (utility 3 4 5) =
    r.simple_command refl (r.word_element refl (r.whole_word (r.more refl r.plain (r.stop refl)) refl refl) (r.no_element refl)) in
    let innermost : ReadsList 2 closed_text no_bodies (at_token 4 2 2) (at_token 7 3 2) (lone (utility 3 4 5)) =
    r.list (r.no_break refl) refl (r.ended_item (alone_reads a refl refl refl) refl (r.no_break refl) refl) in
    let inner : ReadsCompound 2 closed_text no_bodies (lead.Reserved reserved.LeftBrace) (at_token 2 2 1) (at_token 9 3 1) (kind.Group (lone (utility 3 4 5))) = r.group (omega arith) innermost refl in
    let command : ReadsCommand 2 closed_text no_bodies (at_token 2 1 1) (at_close 9 3 1) _ = r.compound_command refl inner (r.no_redirect refl) in
    let list : ReadsList 2 closed_text no_bodies (at_token 2 1 1) (at_close 9 3 1) _ = r.list (r.no_break refl) refl (r.last_item (alone_reads command refl refl refl) refl refl) in
    let outer : ReadsCompound 2 closed_text no_bodies (lead.Reserved reserved.LeftBrace) (at_token 0 1 0) (at_close 10 3 0) _ = r.group (omega arith) list refl in
    let whole_command : ReadsCommand 2 closed_text no_bodies (at_token 0 0 0) (at_close 10 3 0) _ = r.compound_command refl outer (r.no_redirect refl) in
    whole closed_text 2 (at_close 10 3 0) closed_script refl (r.sequence (r.list (r.no_break refl) refl (r.last_item (alone_reads whole_command refl refl refl) refl refl))) refl refl

pub separated_reads : Reads separated_text separated_script
unfolding computes
separated_reads =
    let a : ReadsCommand 1 separated_text no_bodies (at_token 2 1 1) (at_token 3 2 1) (utility 2 2 3) =
    r.simple_command refl (r.word_element refl (r.whole_word (r.more refl r.plain (r.stop refl)) refl refl) (r.no_element refl)) in
    let body : ReadsList 1 separated_text no_bodies (at_token 2 1 1) (at_token 5 2 1) (lone (utility 2 2 3)) =
    r.list (r.no_break refl) refl (r.ended_item (alone_reads a refl refl refl) refl (r.no_break refl) refl) in
    let group : ReadsCompound 1 separated_text no_bodies (lead.Reserved reserved.LeftBrace) (at_token 0 1 0) (at_token 6 2 0) (kind.Group (lone (utility 2 2 3))) = r.group (omega arith) body refl in
    let command : ReadsCommand 1 separated_text no_bodies (at_token 0 0 0) (at_close 6 2 0) _ = r.compound_command refl group (r.no_redirect refl) in
    whole separated_text 1 (at_close 7 2 0) separated_script refl
    (r.sequence (r.list (r.no_break refl) refl (r.ended_item (alone_reads command refl refl refl) refl (r.no_break refl) refl))) refl refl

-- Texts without a command

pub empty_reads : Reads [] (script [])
unfolding computes
empty_reads = whole [] 0 (at_token 0 0 0) (script []) refl (r.nothing (r.no_break refl) refl) refl refl

pub comment_reads : Reads comment_text (script [])
unfolding computes
comment_reads =
    let line : ReadsBreaks 0 comment_text (at_token 3 0 0) (at_token 4 0 0) = r.more_breaks refl refl r.no_body (r.no_break refl) in
    whole comment_text 0 (at_token 4 0 0) (script []) refl (r.nothing line refl) refl refl
