-- The readings of texts with here-documents.
use Rattle.std.proofs.Common.{ℕ, true, false, [], ◌∷◌, None, take, codes, refl, arith}
use Rattle.sh_tree.proofs.LanguageLemmas.{whole, at_word, at_token, at_close, no_bodies, alone_reads, computes}
use Rattle.sh_tree.specs.declared.token.command.Lead.TheVariants as lead
use Rattle.sh_tree.specs.declared.token.command.Reserved.TheVariants as reserved
use Rattle.sh_tree.specs.declared.tree.CommandStyle.TheVariants.{Paren}
use Rattle.sh_tree.specs.declared.tree.Element.TheVariants as element
use Rattle.sh_tree.specs.declared.tree.ParameterOperator.TheVariants as operator
use Rattle.sh_tree.specs.declared.tree.Part.TheVariants as part
use Rattle.sh_tree.specs.declared.tree.Removal.TheVariants as removal
use Rattle.sh_tree.specs.declared.tree.SingleStyle.TheVariants as single
use Rattle.sh_tree.specs.declared.tree.Subject.TheVariants.{Name}
use Rattle.sh_tree.specs.declared.tree.Target.TheVariants.{Here}
use Rattle.sh_tree.specs.standard.language.Contexts.{in_word, in_unsplit, in_document_of}
use Rattle.sh_tree.specs.examples.Documents.{counted_document_script, counted_document_text, group_document_script, group_document_text, inner_document_script, inner_document_text, joined_end_script, joined_end_text, paired_comment_script, paired_comment_text, paired_document_script, paired_document_text, paired_quotes_script, paired_quotes_text, piped_document_script, piped_document_text, quiet_script, quiet_text, tabs_in_pattern_script, tabs_in_pattern_text, tabs_in_quotes_script, tabs_in_quotes_text, two_documents_script, two_documents_text, unended_line_script, unended_line_text, verbatim_script, verbatim_text}
use Rattle.sh_tree.specs.examples.Language.{plain, bare, simple, utility, lone}
use Rattle.sh_tree.specs.standard.language.HereDocuments.{Mark}
use Rattle.sh_tree.specs.standard.language.Reading as r
use Rattle.sh_tree.specs.standard.language.Reading.{ReadsParts, ReadsWord, ReadsRedirect, ReadsDocuments, ReadsBreaks, ReadsCommand, ReadsCompound, ReadsAndOr, ReadsList, ReadsScript, Reads}
use Rattle.sh_tree.specs.standard.language.States.{Document, nth}
use Rattle.sh_tree.specs.standard.language.Trees.{param}
use Rattle.sh_tree.specs.standard.language.Trees.{span, word, redirect, here_doc}
use Rattle.sh_tree.specs.standard.language.Words.{in_removal}

abbrev verbatim_mark : Mark
verbatim_mark = record { strip = false; quoted = true; delimiter = codes "E"; depth = 0 }

abbrev verbatim_document : Document
verbatim_document = record { text = bare 6 10; end = span 10 11 }

abbrev verbatim_bodies : ℕ → Document
verbatim_bodies = nth (verbatim_document ∷ [])

pub verbatim_reads : Reads verbatim_text verbatim_script
unfolding computes
verbatim_reads =
    let word1 : ReadsWord 0 verbatim_text (in_unsplit 2) (at_word 2 1 0) (at_word 5 1 0) (word 2 5 (part.Single single.Plain (span 2 5) ∷ [])) =
    r.whole_word (r.more refl r.single_quoted (r.stop refl)) refl refl in
    let operator2 : ReadsRedirect 0 verbatim_text verbatim_bodies (at_token 0 1 0) (record (at_token 5 1 0) { pending = verbatim_mark ∷ [] }) _ =
    r.here_document refl refl refl word1 refl in
    let command3 : ReadsCommand 0 verbatim_text verbatim_bodies (at_token 0 0 0) (record (at_token 5 1 0) { pending = verbatim_mark ∷ [] }) _ =
    r.simple_command refl (r.redirect_element refl operator2 (r.no_element refl)) in
    let list4 : ReadsAndOr 0 verbatim_text verbatim_bodies (at_token 0 0 0) (record (at_token 5 1 0) { pending = verbatim_mark ∷ [] }) _ =
    alone_reads command3 refl refl refl in
    let body5 : ReadsParts 0 (take 10 verbatim_text) (in_document_of verbatim_mark) 10 (at_word 6 1 0) (at_word 10 1 0) (plain 6 10 ∷ []) =
    r.more refl r.plain (r.stop refl) in
    let bodies6 : ReadsDocuments 0 verbatim_text (verbatim_mark ∷ []) (at_token 6 1 0) (record (at_token 12 1 0) { bodies = verbatim_document ∷ [] }) =
    r.more_bodies refl refl refl body5 refl r.no_body in
    let line7 : ReadsBreaks 0 verbatim_text (record (at_token 5 1 0) { pending = verbatim_mark ∷ [] }) (record (at_token 12 1 0) { bodies = verbatim_document ∷ [] }) =
    r.more_breaks refl refl bodies6 (r.no_break refl) in
    let list8 : ReadsList 0 verbatim_text verbatim_bodies (at_token 0 0 0) (record (at_token 12 1 0) { bodies = verbatim_document ∷ [] }) _ =
    r.list (r.no_break refl) refl (r.ended_item list4 refl line7 refl) in
    whole verbatim_text 0 (record (at_token 12 1 0) { bodies = verbatim_document ∷ [] }) verbatim_script refl (r.sequence list8) refl refl

abbrev two_documents_mark : Mark
two_documents_mark = record { strip = false; quoted = false; delimiter = codes "A"; depth = 0 }

abbrev two_documents_mark1 : Mark
two_documents_mark1 = record { strip = false; quoted = false; delimiter = codes "B"; depth = 0 }

abbrev two_documents_document : Document
two_documents_document = record { text = bare 8 10; end = span 10 11 }

abbrev two_documents_document1 : Document
two_documents_document1 = record { text = bare 12 14; end = span 14 15 }

abbrev two_documents_bodies : ℕ → Document
two_documents_bodies = nth (two_documents_document ∷ two_documents_document1 ∷ [])

pub two_documents_reads : Reads two_documents_text two_documents_script
unfolding computes
two_documents_reads =
    let word1 : ReadsWord 0 two_documents_text (in_unsplit 2) (at_word 2 1 0) (at_word 3 1 0) (bare 2 3) = r.whole_word (r.more refl r.plain (r.stop refl)) refl refl in
    let operator2 : ReadsRedirect 0 two_documents_text two_documents_bodies (at_token 0 1 0) (record (at_token 4 1 0) { pending = two_documents_mark ∷ [] }) _ =
    r.here_document refl refl refl word1 refl in
    let word3 : ReadsWord 0 two_documents_text (in_unsplit 6) (record (at_word 6 1 0) { quiet = true }) (record (at_word 7 1 0) { quiet = true }) (bare 6 7) =
    r.whole_word (r.more refl r.plain (r.stop refl)) refl refl in
    let operator4 : ReadsRedirect 0 two_documents_text two_documents_bodies (record (at_token 4 1 0) { pending = two_documents_mark ∷ [] }) (record (at_token 7 1 0) { pending = two_documents_mark ∷ two_documents_mark1 ∷ [] }) _ =
    r.here_document refl refl refl word3 refl in
    let command5 : ReadsCommand 0 two_documents_text two_documents_bodies (at_token 0 0 0) (record (at_token 7 1 0) { pending = two_documents_mark ∷ two_documents_mark1 ∷ [] }) _ =
    r.simple_command refl (r.redirect_element refl operator2 (r.redirect_element refl operator4 (r.no_element refl))) in
    let list6 : ReadsAndOr 0 two_documents_text two_documents_bodies (at_token 0 0 0) (record (at_token 7 1 0) { pending = two_documents_mark ∷ two_documents_mark1 ∷ [] }) _ =
    alone_reads command5 refl refl refl in
    let body7 : ReadsParts 0 (take 10 two_documents_text) (in_document_of two_documents_mark) 10 (record (at_word 8 1 0) { joins = true }) (record (at_word 10 1 0) { joins = true }) (plain 8 10 ∷ []) =
    r.more refl r.plain (r.stop refl) in
    let body8 : ReadsParts 0 (take 14 two_documents_text) (in_document_of two_documents_mark1) 10 (record (at_word 12 1 0) { joins = true }) (record (at_word 14 1 0) { joins = true }) (plain 12 14 ∷ []) =
    r.more refl r.plain (r.stop refl) in
    let bodies9 : ReadsDocuments 0 two_documents_text (two_documents_mark ∷ two_documents_mark1 ∷ []) (at_token 8 1 0) (record (at_token 16 1 0) { bodies = two_documents_document ∷ two_documents_document1 ∷ [] }) =
    r.more_bodies refl refl refl body7 refl (r.more_bodies refl refl refl body8 refl r.no_body) in
    let line10 : ReadsBreaks 0 two_documents_text (record (at_token 7 1 0) { pending = two_documents_mark ∷ two_documents_mark1 ∷ [] }) (record (at_token 16 1 0) { bodies = two_documents_document ∷ two_documents_document1 ∷ [] }) =
    r.more_breaks refl refl bodies9 (r.no_break refl) in
    let list11 : ReadsList 0 two_documents_text two_documents_bodies (at_token 0 0 0) (record (at_token 16 1 0) { bodies = two_documents_document ∷ two_documents_document1 ∷ [] }) _ =
    r.list (r.no_break refl) refl (r.ended_item list6 refl line10 refl) in
    whole two_documents_text 0 (record (at_token 16 1 0) { bodies = two_documents_document ∷ two_documents_document1 ∷ [] }) two_documents_script refl (r.sequence list11) refl refl

abbrev group_document_mark : Mark
group_document_mark = record { strip = false; quoted = false; delimiter = codes "E"; depth = 1 }

abbrev group_document_document : Document
group_document_document = record { text = bare 6 8; end = span 8 9 }

abbrev group_document_bodies : ℕ → Document
group_document_bodies = nth (group_document_document ∷ [])

pub group_document_reads : Reads group_document_text group_document_script
unfolding computes
group_document_reads =
    let word1 : ReadsWord 1 group_document_text (in_unsplit 4) (at_word 4 2 1) (at_word 5 2 1) (bare 4 5) = r.whole_word (r.more refl r.plain (r.stop refl)) refl refl in
    let operator2 : ReadsRedirect 1 group_document_text group_document_bodies (at_token 2 2 1) (record (at_token 5 2 1) { pending = group_document_mark ∷ [] }) _ =
    r.here_document refl refl refl word1 refl in
    let command3 : ReadsCommand 1 group_document_text group_document_bodies (at_token 2 1 1) (record (at_token 5 2 1) { pending = group_document_mark ∷ [] }) _ =
    r.simple_command refl (r.redirect_element refl operator2 (r.no_element refl)) in
    let list4 : ReadsAndOr 1 group_document_text group_document_bodies (at_token 2 1 1) (record (at_token 5 2 1) { pending = group_document_mark ∷ [] }) _ =
    alone_reads command3 refl refl refl in
    let body5 : ReadsParts 1 (take 8 group_document_text) (in_document_of group_document_mark) 10 (record (at_word 6 2 1) { joins = true }) (record (at_word 8 2 1) { joins = true }) (plain 6 8 ∷ []) =
    r.more refl r.plain (r.stop refl) in
    let bodies6 : ReadsDocuments 1 group_document_text (group_document_mark ∷ []) (at_token 6 2 1) (record (at_token 10 2 1) { bodies = group_document_document ∷ [] }) =
    r.more_bodies refl refl refl body5 refl r.no_body in
    let line7 : ReadsBreaks 1 group_document_text (record (at_token 5 2 1) { pending = group_document_mark ∷ [] }) (record (at_token 10 2 1) { bodies = group_document_document ∷ [] }) =
    r.more_breaks refl refl bodies6 (r.no_break refl) in
    let list8 : ReadsList 1 group_document_text group_document_bodies (at_token 2 1 1) (record (at_token 10 2 1) { bodies = group_document_document ∷ [] }) _ =
    r.list (r.no_break refl) refl (r.ended_item list4 refl line7 refl) in
    let compound9 : ReadsCompound 1 group_document_text group_document_bodies (lead.Reserved reserved.LeftBrace) (at_token 0 1 0) (record (at_token 11 2 0) { bodies = group_document_document ∷ [] }) _ =
    r.group (omega arith) list8 refl in
    let command10 : ReadsCommand 1 group_document_text group_document_bodies (at_token 0 0 0) (record (at_close 11 2 0) { bodies = group_document_document ∷ [] }) _ =
    r.compound_command refl compound9 (r.no_redirect refl) in
    let list11 : ReadsAndOr 1 group_document_text group_document_bodies (at_token 0 0 0) (record (at_close 11 2 0) { bodies = group_document_document ∷ [] }) _ =
    alone_reads command10 refl refl refl in
    let list12 : ReadsList 1 group_document_text group_document_bodies (at_token 0 0 0) (record (at_close 11 2 0) { bodies = group_document_document ∷ [] }) _ =
    r.list (r.no_break refl) refl (r.last_item list11 refl refl) in
    whole group_document_text 1 (record (at_close 11 2 0) { bodies = group_document_document ∷ [] }) group_document_script refl (r.sequence list12) refl refl

abbrev inner_document_mark : Mark
inner_document_mark = record { strip = false; quoted = false; delimiter = codes "E"; depth = 1 }

abbrev inner_document_document : Document
inner_document_document = record { text = bare 6 8; end = span 8 9 }

abbrev inner_document_bodies : ℕ → Document
inner_document_bodies = nth (inner_document_document ∷ [])

pub inner_document_reads : Reads inner_document_text inner_document_script
unfolding computes
inner_document_reads =
    let word1 : ReadsWord 1 inner_document_text (in_unsplit 4) (at_word 4 2 1) (at_word 5 2 1) (bare 4 5) = r.whole_word (r.more refl r.plain (r.stop refl)) refl refl in
    let operator2 : ReadsRedirect 1 inner_document_text inner_document_bodies (at_token 2 2 1) (record (at_token 5 2 1) { pending = inner_document_mark ∷ [] }) _ =
    r.here_document refl refl refl word1 refl in
    let command3 : ReadsCommand 1 inner_document_text inner_document_bodies (at_token 2 1 1) (record (at_token 5 2 1) { pending = inner_document_mark ∷ [] }) _ =
    r.simple_command refl (r.redirect_element refl operator2 (r.no_element refl)) in
    let list4 : ReadsAndOr 1 inner_document_text inner_document_bodies (at_token 2 1 1) (record (at_token 5 2 1) { pending = inner_document_mark ∷ [] }) _ =
    alone_reads command3 refl refl refl in
    let body5 : ReadsParts 1 (take 8 inner_document_text) (in_document_of inner_document_mark) 10 (record (at_word 6 2 1) { joins = true }) (record (at_word 8 2 1) { joins = true }) (plain 6 8 ∷ []) =
    r.more refl r.plain (r.stop refl) in
    let bodies6 : ReadsDocuments 1 inner_document_text (inner_document_mark ∷ []) (at_token 6 2 1) (record (at_token 10 2 1) { bodies = inner_document_document ∷ [] }) =
    r.more_bodies refl refl refl body5 refl r.no_body in
    let line7 : ReadsBreaks 1 inner_document_text (record (at_token 5 2 1) { pending = inner_document_mark ∷ [] }) (record (at_token 10 2 1) { bodies = inner_document_document ∷ [] }) =
    r.more_breaks refl refl bodies6 (r.no_break refl) in
    let list8 : ReadsList 1 inner_document_text inner_document_bodies (at_token 2 1 1) (record (at_token 10 2 1) { bodies = inner_document_document ∷ [] }) _ =
    r.list (r.no_break refl) refl (r.ended_item list4 refl line7 refl) in
    let inner9 : ReadsScript 1 inner_document_text (at_word 2 1 1) (at_word 10 2 1) _ =
    r.script {u = (record (at_token 10 2 1) { bodies = inner_document_document ∷ [] })} (r.sequence list8) refl in
    let word10 : ReadsWord 1 inner_document_text (in_word 0) (at_word 0 1 0) (at_word 11 2 0) (word 0 11 (part.Command Paren (span 0 11) (lone (simple 2 2 (element.Redirection (redirect 2 None (Here (here_doc false (bare 4 5) (bare 6 8) (span 8 9)))) ∷ []))) ∷ [])) =
    r.whole_word (r.more refl (r.substitution (omega arith) refl inner9 refl) (r.stop refl)) refl refl in
    let command11 : ReadsCommand 1 inner_document_text no_bodies (at_token 0 0 0) (at_token 11 2 0) _ =
    r.simple_command refl (r.word_element refl word10 (r.no_element refl)) in
    let list12 : ReadsAndOr 1 inner_document_text no_bodies (at_token 0 0 0) (at_token 11 2 0) _ = alone_reads command11 refl refl refl in
    let list13 : ReadsList 1 inner_document_text no_bodies (at_token 0 0 0) (at_token 11 2 0) _ = r.list (r.no_break refl) refl (r.last_item list12 refl refl) in
    whole inner_document_text 1 (at_token 11 2 0) inner_document_script refl (r.sequence list13) refl refl

abbrev piped_document_mark : Mark
piped_document_mark = record { strip = false; quoted = false; delimiter = codes "E"; depth = 0 }

abbrev piped_document_document : Document
piped_document_document = record { text = bare 8 10; end = span 10 11 }

abbrev piped_document_bodies : ℕ → Document
piped_document_bodies = nth (piped_document_document ∷ [])

pub piped_document_reads : Reads piped_document_text piped_document_script
unfolding computes
piped_document_reads =
    let word1 : ReadsWord 0 piped_document_text (in_unsplit 2) (at_word 2 1 0) (at_word 3 1 0) (bare 2 3) = r.whole_word (r.more refl r.plain (r.stop refl)) refl refl in
    let operator2 : ReadsRedirect 0 piped_document_text piped_document_bodies (at_token 0 1 0) (record (at_token 4 1 0) { pending = piped_document_mark ∷ [] }) _ =
    r.here_document refl refl refl word1 refl in
    let command3 : ReadsCommand 0 piped_document_text piped_document_bodies (at_token 0 0 0) (record (at_token 4 1 0) { pending = piped_document_mark ∷ [] }) _ =
    r.simple_command refl (r.redirect_element refl operator2 (r.no_element refl)) in
    let word4 : ReadsWord 0 piped_document_text (in_word 6) (record (at_word 6 2 0) { quiet = true }) (record (at_word 7 2 0) { quiet = true }) (bare 6 7) =
    r.whole_word (r.more refl r.plain (r.stop refl)) refl refl in
    let command5 : ReadsCommand 0 piped_document_text piped_document_bodies (record (at_token 6 1 0) { pending = piped_document_mark ∷ [] }) (record (at_token 7 2 0) { pending = piped_document_mark ∷ [] }) _ =
    r.simple_command refl (r.word_element refl word4 (r.no_element refl)) in
    let list6 : ReadsAndOr 0 piped_document_text piped_document_bodies (at_token 0 0 0) (record (at_token 7 2 0) { pending = piped_document_mark ∷ [] }) _ =
    r.linked (r.straight refl (r.more_commands command3 refl (r.no_break refl) (r.last_command command5 refl))) (r.no_link refl) in
    let body7 : ReadsParts 0 (take 10 piped_document_text) (in_document_of piped_document_mark) 10 (record (at_word 8 2 0) { joins = true }) (record (at_word 10 2 0) { joins = true }) (plain 8 10 ∷ []) =
    r.more refl r.plain (r.stop refl) in
    let bodies8 : ReadsDocuments 0 piped_document_text (piped_document_mark ∷ []) (at_token 8 2 0) (record (at_token 12 2 0) { bodies = piped_document_document ∷ [] }) =
    r.more_bodies refl refl refl body7 refl r.no_body in
    let line9 : ReadsBreaks 0 piped_document_text (record (at_token 7 2 0) { pending = piped_document_mark ∷ [] }) (record (at_token 12 2 0) { bodies = piped_document_document ∷ [] }) =
    r.more_breaks refl refl bodies8 (r.no_break refl) in
    let list10 : ReadsList 0 piped_document_text piped_document_bodies (at_token 0 0 0) (record (at_token 12 2 0) { bodies = piped_document_document ∷ [] }) _ =
    r.list (r.no_break refl) refl (r.ended_item list6 refl line9 refl) in
    whole piped_document_text 0 (record (at_token 12 2 0) { bodies = piped_document_document ∷ [] }) piped_document_script refl (r.sequence list10) refl refl

abbrev counted_document_mark : Mark
counted_document_mark = record { strip = false; quoted = false; delimiter = codes "E"; depth = 0 }

abbrev counted_document_document : Document
counted_document_document = record { text = word 7 12 (part.Command Paren (span 7 11) (lone (utility 3 9 10)) ∷ plain 11 12 ∷ []); end = span 12 13 }

abbrev counted_document_bodies : ℕ → Document
counted_document_bodies = nth (counted_document_document ∷ [])

pub counted_document_reads : Reads counted_document_text counted_document_script
unfolding computes
counted_document_reads =
    let word1 : ReadsWord 1 counted_document_text (in_unsplit 2) (at_word 2 1 0) (at_word 3 1 0) (bare 2 3) =
    r.whole_word (r.more refl r.plain (r.stop refl)) refl refl in
    let operator2 : ReadsRedirect 1 counted_document_text counted_document_bodies (at_token 0 1 0) (record (at_token 3 1 0) { pending = counted_document_mark ∷ [] }) _ =
    r.here_document refl refl refl word1 refl in
    let command3 : ReadsCommand 1 counted_document_text counted_document_bodies (at_token 0 0 0) (record (at_token 3 1 0) { pending = counted_document_mark ∷ [] }) _ =
    r.simple_command refl (r.redirect_element refl operator2 (r.no_element refl)) in
    let list4 : ReadsAndOr 1 counted_document_text counted_document_bodies (at_token 0 0 0) (record (at_token 3 1 0) { pending = counted_document_mark ∷ [] }) _ =
    alone_reads command3 refl refl refl in
    let word5 : ReadsWord 1 counted_document_text (in_word 5) (record (at_word 5 2 0) { quiet = true }) (record (at_word 6 2 0) { quiet = true }) (bare 5 6) =
    r.whole_word (r.more refl r.plain (r.stop refl)) refl refl in
    let command6 : ReadsCommand 1 counted_document_text counted_document_bodies (record (at_token 5 1 0) { pending = counted_document_mark ∷ [] }) (record (at_token 6 2 0) { pending = counted_document_mark ∷ [] }) _ =
    r.simple_command refl (r.word_element refl word5 (r.no_element refl)) in
    let list7 : ReadsAndOr 1 counted_document_text counted_document_bodies (record (at_token 5 1 0) { pending = counted_document_mark ∷ [] }) (record (at_token 6 2 0) { pending = counted_document_mark ∷ [] }) _ =
    alone_reads command6 refl refl refl in
    let word8 : ReadsWord 1 (take 12 counted_document_text) (in_word 9) (record (at_word 9 3 1) { joins = true }) (record (at_word 10 3 1) { joins = true }) (bare 9 10) =
    r.whole_word (r.more refl r.plain (r.stop refl)) refl refl in
    let command9 : ReadsCommand 1 (take 12 counted_document_text) no_bodies (record (at_token 9 2 1) { spot = record (at_word 9 2 1) { joins = true } }) (record (at_token 10 3 1) { spot = record (at_word 10 3 1) { joins = true } }) _ =
    r.simple_command refl (r.word_element refl word8 (r.no_element refl)) in
    let list10 : ReadsAndOr 1 (take 12 counted_document_text) no_bodies (record (at_token 9 2 1) { spot = record (at_word 9 2 1) { joins = true } }) (record (at_token 10 3 1) { spot = record (at_word 10 3 1) { joins = true } }) _ =
    alone_reads command9 refl refl refl in
    let list11 : ReadsList 1 (take 12 counted_document_text) no_bodies (record (at_token 9 2 1) { spot = record (at_word 9 2 1) { joins = true } }) (record (at_token 10 3 1) { spot = record (at_word 10 3 1) { joins = true } }) _ =
    r.list (r.no_break refl) refl (r.last_item list10 refl refl) in
    let inner12 : ReadsScript 1 (take 12 counted_document_text) (record (at_word 9 2 1) { joins = true }) (record (at_word 10 3 1) { joins = true }) _ =
    r.script {u = (record (at_token 10 3 1) { spot = record (at_word 10 3 1) { joins = true } })} (r.sequence list11) refl in
    let body13 : ReadsParts 1 (take 12 counted_document_text) (in_document_of counted_document_mark) 10 (record (at_word 7 2 0) { joins = true }) (record (at_word 12 3 0) { joins = true }) (part.Command Paren (span 7 11) (lone (utility 3 9 10)) ∷ plain 11 12 ∷ []) =
    r.more refl (r.substitution (omega arith) refl inner12 refl) (r.more refl r.plain (r.stop refl)) in
    let bodies14 : ReadsDocuments 1 counted_document_text (counted_document_mark ∷ []) (at_token 7 2 0) (record (at_token 14 3 0) { bodies = counted_document_document ∷ [] }) =
    r.more_bodies refl refl refl body13 refl r.no_body in
    let line15 : ReadsBreaks 1 counted_document_text (record (at_token 6 2 0) { pending = counted_document_mark ∷ [] }) (record (at_token 14 3 0) { bodies = counted_document_document ∷ [] }) =
    r.more_breaks refl refl bodies14 (r.no_break refl) in
    let list16 : ReadsList 1 counted_document_text counted_document_bodies (at_token 0 0 0) (record (at_token 14 3 0) { bodies = counted_document_document ∷ [] }) _ =
    r.list (r.no_break refl) refl (r.more_items list4 refl (r.no_break refl) refl (r.ended_item list7 refl line15 refl)) in
    whole counted_document_text 1 (record (at_token 14 3 0) { bodies = counted_document_document ∷ [] }) counted_document_script refl (r.sequence list16) refl refl

abbrev joined_end_mark : Mark
joined_end_mark = record { strip = false; quoted = false; delimiter = codes "EF"; depth = 0 }

abbrev joined_end_document : Document
joined_end_document = record { text = bare 5 7; end = span 7 11 }

abbrev joined_end_bodies : ℕ → Document
joined_end_bodies = nth (joined_end_document ∷ [])

pub joined_end_reads : Reads joined_end_text joined_end_script
unfolding computes
joined_end_reads =
    let word1 : ReadsWord 0 joined_end_text (in_unsplit 2) (at_word 2 1 0) (at_word 4 1 0) (bare 2 4) = r.whole_word (r.more refl r.plain (r.stop refl)) refl refl in
    let operator2 : ReadsRedirect 0 joined_end_text joined_end_bodies (at_token 0 1 0) (record (at_token 4 1 0) { pending = joined_end_mark ∷ [] }) _ =
    r.here_document refl refl refl word1 refl in
    let command3 : ReadsCommand 0 joined_end_text joined_end_bodies (at_token 0 0 0) (record (at_token 4 1 0) { pending = joined_end_mark ∷ [] }) _ =
    r.simple_command refl (r.redirect_element refl operator2 (r.no_element refl)) in
    let list4 : ReadsAndOr 0 joined_end_text joined_end_bodies (at_token 0 0 0) (record (at_token 4 1 0) { pending = joined_end_mark ∷ [] }) _ =
    alone_reads command3 refl refl refl in
    let body5 : ReadsParts 0 (take 7 joined_end_text) (in_document_of joined_end_mark) 10 (record (at_word 5 1 0) { joins = true }) (record (at_word 7 1 0) { joins = true }) (plain 5 7 ∷ []) =
    r.more refl r.plain (r.stop refl) in
    let bodies6 : ReadsDocuments 0 joined_end_text (joined_end_mark ∷ []) (at_token 5 1 0) (record (at_token 12 1 0) { bodies = joined_end_document ∷ [] }) =
    r.more_bodies refl refl refl body5 refl r.no_body in
    let line7 : ReadsBreaks 0 joined_end_text (record (at_token 4 1 0) { pending = joined_end_mark ∷ [] }) (record (at_token 12 1 0) { bodies = joined_end_document ∷ [] }) =
    r.more_breaks refl refl bodies6 (r.no_break refl) in
    let list8 : ReadsList 0 joined_end_text joined_end_bodies (at_token 0 0 0) (record (at_token 12 1 0) { bodies = joined_end_document ∷ [] }) _ =
    r.list (r.no_break refl) refl (r.ended_item list4 refl line7 refl) in
    whole joined_end_text 0 (record (at_token 12 1 0) { bodies = joined_end_document ∷ [] }) joined_end_script refl (r.sequence list8) refl refl

abbrev unended_line_mark : Mark
unended_line_mark = record { strip = false; quoted = false; delimiter = codes "E"; depth = 0 }

abbrev unended_line_document : Document
unended_line_document = record { text = bare 4 6; end = span 6 7 }

abbrev unended_line_bodies : ℕ → Document
unended_line_bodies = nth (unended_line_document ∷ [])

pub unended_line_reads : Reads unended_line_text unended_line_script
unfolding computes
unended_line_reads =
    let word1 : ReadsWord 0 unended_line_text (in_unsplit 2) (at_word 2 1 0) (at_word 3 1 0) (bare 2 3) = r.whole_word (r.more refl r.plain (r.stop refl)) refl refl in
    let operator2 : ReadsRedirect 0 unended_line_text unended_line_bodies (at_token 0 1 0) (record (at_token 3 1 0) { pending = unended_line_mark ∷ [] }) _ =
    r.here_document refl refl refl word1 refl in
    let command3 : ReadsCommand 0 unended_line_text unended_line_bodies (at_token 0 0 0) (record (at_token 3 1 0) { pending = unended_line_mark ∷ [] }) _ =
    r.simple_command refl (r.redirect_element refl operator2 (r.no_element refl)) in
    let list4 : ReadsAndOr 0 unended_line_text unended_line_bodies (at_token 0 0 0) (record (at_token 3 1 0) { pending = unended_line_mark ∷ [] }) _ =
    alone_reads command3 refl refl refl in
    let body5 : ReadsParts 0 (take 6 unended_line_text) (in_document_of unended_line_mark) 10 (record (at_word 4 1 0) { joins = true }) (record (at_word 6 1 0) { joins = true }) (plain 4 6 ∷ []) =
    r.more refl r.plain (r.stop refl) in
    let bodies6 : ReadsDocuments 0 unended_line_text (unended_line_mark ∷ []) (at_token 4 1 0) (record (at_token 7 1 0) { bodies = unended_line_document ∷ [] }) =
    r.more_bodies refl refl refl body5 refl r.no_body in
    let line7 : ReadsBreaks 0 unended_line_text (record (at_token 3 1 0) { pending = unended_line_mark ∷ [] }) (record (at_token 7 1 0) { bodies = unended_line_document ∷ [] }) =
    r.more_breaks refl refl bodies6 (r.no_break refl) in
    let list8 : ReadsList 0 unended_line_text unended_line_bodies (at_token 0 0 0) (record (at_token 7 1 0) { bodies = unended_line_document ∷ [] }) _ =
    r.list (r.no_break refl) refl (r.ended_item list4 refl line7 refl) in
    whole unended_line_text 0 (record (at_token 7 1 0) { bodies = unended_line_document ∷ [] }) unended_line_script refl (r.sequence list8) refl refl

abbrev quiet_mark : Mark
quiet_mark = record { strip = false; quoted = false; delimiter = codes "E"; depth = 0 }

abbrev quiet_document : Document
quiet_document = record { text = word 9 9 []; end = span 9 10 }

abbrev quiet_bodies : ℕ → Document
quiet_bodies = nth (quiet_document ∷ [])

pub quiet_reads : Reads quiet_text quiet_script
unfolding computes
quiet_reads =
    let word1 : ReadsWord 1 quiet_text (in_unsplit 2) (at_word 2 1 0) (at_word 3 1 0) (bare 2 3) = r.whole_word (r.more refl r.plain (r.stop refl)) refl refl in
    let operator2 : ReadsRedirect 1 quiet_text quiet_bodies (at_token 0 1 0) (record (at_token 4 1 0) { pending = quiet_mark ∷ [] }) _ =
    r.here_document refl refl refl word1 refl in
    let word3 : ReadsWord 1 quiet_text (in_word 6) (record (at_word 6 2 1) { quiet = true }) (record (at_word 7 2 1) { quiet = true }) (bare 6 7) =
    r.whole_word (r.more refl r.plain (r.stop refl)) refl refl in
    let command4 : ReadsCommand 1 quiet_text no_bodies (record (at_token 6 1 1) { spot = record (at_word 6 1 1) { quiet = true } }) (record (at_token 7 2 1) { spot = record (at_word 7 2 1) { quiet = true } }) _ =
    r.simple_command refl (r.word_element refl word3 (r.no_element refl)) in
    let list5 : ReadsAndOr 1 quiet_text no_bodies (record (at_token 6 1 1) { spot = record (at_word 6 1 1) { quiet = true } }) (record (at_token 7 2 1) { spot = record (at_word 7 2 1) { quiet = true } }) _ =
    alone_reads command4 refl refl refl in
    let list6 : ReadsList 1 quiet_text no_bodies (record (at_token 6 1 1) { spot = record (at_word 6 1 1) { quiet = true } }) (record (at_token 7 2 1) { spot = record (at_word 7 2 1) { quiet = true } }) _ =
    r.list (r.no_break refl) refl (r.last_item list5 refl refl) in
    let inner7 : ReadsScript 1 quiet_text (record (at_word 6 1 1) { quiet = true }) (record (at_word 7 2 1) { quiet = true }) (lone (utility 2 6 7)) =
    r.script {u = (record (at_token 7 2 1) { spot = record (at_word 7 2 1) { quiet = true } })} (r.sequence list6) refl in
    let word8 : ReadsWord 1 quiet_text (in_word 4) (record (at_word 4 1 0) { quiet = true }) (record (at_word 8 2 0) { quiet = true }) (word 4 8 (part.Command Paren (span 4 8) (lone (utility 2 6 7)) ∷ [])) =
    r.whole_word (r.more refl (r.substitution (omega arith) refl inner7 refl) (r.stop refl)) refl refl in
    let command9 : ReadsCommand 1 quiet_text quiet_bodies (at_token 0 0 0) (record (at_token 8 2 0) { pending = quiet_mark ∷ [] }) _ =
    r.simple_command refl (r.redirect_element refl operator2 (r.word_element refl word8 (r.no_element refl))) in
    let list10 : ReadsAndOr 1 quiet_text quiet_bodies (at_token 0 0 0) (record (at_token 8 2 0) { pending = quiet_mark ∷ [] }) _ = alone_reads command9 refl refl refl in
    let body11 : ReadsParts 1 (take 9 quiet_text) (in_document_of quiet_mark) 10 (record (at_word 9 2 0) { joins = true }) (record (at_word 9 2 0) { joins = true }) [] =
    r.stop refl in
    let bodies12 : ReadsDocuments 1 quiet_text (quiet_mark ∷ []) (at_token 9 2 0) (record (at_token 11 2 0) { bodies = quiet_document ∷ [] }) =
    r.more_bodies refl refl refl body11 refl r.no_body in
    let line13 : ReadsBreaks 1 quiet_text (record (at_token 8 2 0) { pending = quiet_mark ∷ [] }) (record (at_token 11 2 0) { bodies = quiet_document ∷ [] }) =
    r.more_breaks refl refl bodies12 (r.no_break refl) in
    let list14 : ReadsList 1 quiet_text quiet_bodies (at_token 0 0 0) (record (at_token 11 2 0) { bodies = quiet_document ∷ [] }) _ =
    r.list (r.no_break refl) refl (r.ended_item list10 refl line13 refl) in
    whole quiet_text 1 (record (at_token 11 2 0) { bodies = quiet_document ∷ [] }) quiet_script refl (r.sequence list14) refl refl

abbrev paired_comment_mark : Mark
paired_comment_mark = record { strip = false; quoted = false; delimiter = codes "E"; depth = 0 }

abbrev paired_comment_document : Document
paired_comment_document = record { text = word 4 16 (part.Command Paren (span 4 15) (lone (utility 2 6 7)) ∷ plain 15 16 ∷ []); end = span 16 17 }

abbrev paired_comment_bodies : ℕ → Document
paired_comment_bodies = nth (paired_comment_document ∷ [])

pub paired_comment_reads : Reads paired_comment_text paired_comment_script
unfolding computes
paired_comment_reads =
    let word1 : ReadsWord 1 paired_comment_text (in_unsplit 2) (at_word 2 1 0) (at_word 3 1 0) (bare 2 3) = r.whole_word (r.more refl r.plain (r.stop refl)) refl refl in
    let operator2 : ReadsRedirect 1 paired_comment_text paired_comment_bodies (at_token 0 1 0) (record (at_token 3 1 0) { pending = paired_comment_mark ∷ [] }) _ =
    r.here_document refl refl refl word1 refl in
    let command3 : ReadsCommand 1 paired_comment_text paired_comment_bodies (at_token 0 0 0) (record (at_token 3 1 0) { pending = paired_comment_mark ∷ [] }) _ =
    r.simple_command refl (r.redirect_element refl operator2 (r.no_element refl)) in
    let list4 : ReadsAndOr 1 paired_comment_text paired_comment_bodies (at_token 0 0 0) (record (at_token 3 1 0) { pending = paired_comment_mark ∷ [] }) _ =
    alone_reads command3 refl refl refl in
    let word5 : ReadsWord 1 (take 16 paired_comment_text) (in_word 6) (record (at_word 6 2 1) { joins = true }) (record (at_word 7 2 1) { joins = true }) (bare 6 7) =
    r.whole_word (r.more refl r.plain (r.stop refl)) refl refl in
    let command6 : ReadsCommand 1 (take 16 paired_comment_text) no_bodies (record (at_token 6 1 1) { spot = record (at_word 6 1 1) { joins = true } }) (record (at_token 13 2 1) { spot = record (at_word 13 2 1) { joins = true } }) _ =
    r.simple_command refl (r.word_element refl word5 (r.no_element refl)) in
    let list7 : ReadsAndOr 1 (take 16 paired_comment_text) no_bodies (record (at_token 6 1 1) { spot = record (at_word 6 1 1) { joins = true } }) (record (at_token 13 2 1) { spot = record (at_word 13 2 1) { joins = true } }) _ =
    alone_reads command6 refl refl refl in
    let line8 : ReadsBreaks 1 (take 16 paired_comment_text) (record (at_token 13 2 1) { spot = record (at_word 13 2 1) { joins = true } }) (record (at_token 14 2 1) { spot = record (at_word 14 2 1) { joins = true } }) =
    r.more_breaks refl refl r.no_body (r.no_break refl) in
    let list9 : ReadsList 1 (take 16 paired_comment_text) no_bodies (record (at_token 6 1 1) { spot = record (at_word 6 1 1) { joins = true } }) (record (at_token 14 2 1) { spot = record (at_word 14 2 1) { joins = true } }) _ =
    r.list (r.no_break refl) refl (r.ended_item list7 refl line8 refl) in
    let inner10 : ReadsScript 1 (take 16 paired_comment_text) (record (at_word 6 1 1) { joins = true }) (record (at_word 14 2 1) { joins = true }) (lone (utility 2 6 7)) =
    r.script {u = (record (at_token 14 2 1) { spot = record (at_word 14 2 1) { joins = true } })} (r.sequence list9) refl in
    let body11 : ReadsParts 1 (take 16 paired_comment_text) (in_document_of paired_comment_mark) 10 (record (at_word 4 1 0) { joins = true }) (record (at_word 16 2 0) { joins = true }) (part.Command Paren (span 4 15) (lone (utility 2 6 7)) ∷ plain 15 16 ∷ []) =
    r.more refl (r.substitution (omega arith) refl inner10 refl) (r.more refl r.plain (r.stop refl)) in
    let bodies12 : ReadsDocuments 1 paired_comment_text (paired_comment_mark ∷ []) (at_token 4 1 0) (record (at_token 18 2 0) { bodies = paired_comment_document ∷ [] }) =
    r.more_bodies refl refl refl body11 refl r.no_body in
    let line13 : ReadsBreaks 1 paired_comment_text (record (at_token 3 1 0) { pending = paired_comment_mark ∷ [] }) (record (at_token 18 2 0) { bodies = paired_comment_document ∷ [] }) =
    r.more_breaks refl refl bodies12 (r.no_break refl) in
    let list14 : ReadsList 1 paired_comment_text paired_comment_bodies (at_token 0 0 0) (record (at_token 18 2 0) { bodies = paired_comment_document ∷ [] }) _ =
    r.list (r.no_break refl) refl (r.ended_item list4 refl line13 refl) in
    whole paired_comment_text 1 (record (at_token 18 2 0) { bodies = paired_comment_document ∷ [] }) paired_comment_script refl (r.sequence list14) refl refl

abbrev paired_quotes_mark : Mark
paired_quotes_mark = record { strip = false; quoted = false; delimiter = codes "E"; depth = 0 }

abbrev paired_quotes_document : Document
paired_quotes_document = record { text = word 4 17 (part.Command Paren (span 4 16) (lone (simple 2 6 (element.Word (bare 6 7) ∷ element.Word (word 8 15 (part.Single single.Plain (span 8 15) ∷ [])) ∷ []))) ∷ plain 16 17 ∷ []); end = span 17 18 }

abbrev paired_quotes_bodies : ℕ → Document
paired_quotes_bodies = nth (paired_quotes_document ∷ [])

pub paired_quotes_reads : Reads paired_quotes_text paired_quotes_script
unfolding computes
paired_quotes_reads =
    let word1 : ReadsWord 1 paired_quotes_text (in_unsplit 2) (at_word 2 1 0) (at_word 3 1 0) (bare 2 3) = r.whole_word (r.more refl r.plain (r.stop refl)) refl refl in
    let operator2 : ReadsRedirect 1 paired_quotes_text paired_quotes_bodies (at_token 0 1 0) (record (at_token 3 1 0) { pending = paired_quotes_mark ∷ [] }) _ =
    r.here_document refl refl refl word1 refl in
    let command3 : ReadsCommand 1 paired_quotes_text paired_quotes_bodies (at_token 0 0 0) (record (at_token 3 1 0) { pending = paired_quotes_mark ∷ [] }) _ =
    r.simple_command refl (r.redirect_element refl operator2 (r.no_element refl)) in
    let list4 : ReadsAndOr 1 paired_quotes_text paired_quotes_bodies (at_token 0 0 0) (record (at_token 3 1 0) { pending = paired_quotes_mark ∷ [] }) _ =
    alone_reads command3 refl refl refl in
    let word5 : ReadsWord 1 (take 17 paired_quotes_text) (in_word 6) (record (at_word 6 2 1) { joins = true }) (record (at_word 7 2 1) { joins = true }) (bare 6 7) =
    r.whole_word (r.more refl r.plain (r.stop refl)) refl refl in
    let word6 : ReadsWord 1 (take 17 paired_quotes_text) (in_word 8) (record (at_word 8 2 1) { joins = true }) (record (at_word 15 2 1) { joins = true }) (word 8 15 (part.Single single.Plain (span 8 15) ∷ [])) =
    r.whole_word (r.more refl r.single_quoted (r.stop refl)) refl refl in
    let command7 : ReadsCommand 1 (take 17 paired_quotes_text) no_bodies (record (at_token 6 1 1) { spot = record (at_word 6 1 1) { joins = true } }) (record (at_token 15 2 1) { spot = record (at_word 15 2 1) { joins = true } }) _ =
    r.simple_command refl (r.word_element refl word5 (r.word_element refl word6 (r.no_element refl))) in
    let list8 : ReadsAndOr 1 (take 17 paired_quotes_text) no_bodies (record (at_token 6 1 1) { spot = record (at_word 6 1 1) { joins = true } }) (record (at_token 15 2 1) { spot = record (at_word 15 2 1) { joins = true } }) _ =
    alone_reads command7 refl refl refl in
    let list9 : ReadsList 1 (take 17 paired_quotes_text) no_bodies (record (at_token 6 1 1) { spot = record (at_word 6 1 1) { joins = true } }) (record (at_token 15 2 1) { spot = record (at_word 15 2 1) { joins = true } }) _ =
    r.list (r.no_break refl) refl (r.last_item list8 refl refl) in
    let inner10 : ReadsScript 1 (take 17 paired_quotes_text) (record (at_word 6 1 1) { joins = true }) (record (at_word 15 2 1) { joins = true }) _ =
    r.script {u = (record (at_token 15 2 1) { spot = record (at_word 15 2 1) { joins = true } })} (r.sequence list9) refl in
    let body11 : ReadsParts 1 (take 17 paired_quotes_text) (in_document_of paired_quotes_mark) 10 (record (at_word 4 1 0) { joins = true }) (record (at_word 17 2 0) { joins = true }) (part.Command Paren (span 4 16) (lone (simple 2 6 (element.Word (bare 6 7) ∷ element.Word (word 8 15 (part.Single single.Plain (span 8 15) ∷ [])) ∷ []))) ∷ plain 16 17 ∷ []) =
    r.more refl (r.substitution (omega arith) refl inner10 refl) (r.more refl r.plain (r.stop refl)) in
    let bodies12 : ReadsDocuments 1 paired_quotes_text (paired_quotes_mark ∷ []) (at_token 4 1 0) (record (at_token 19 2 0) { bodies = paired_quotes_document ∷ [] }) =
    r.more_bodies refl refl refl body11 refl r.no_body in
    let line13 : ReadsBreaks 1 paired_quotes_text (record (at_token 3 1 0) { pending = paired_quotes_mark ∷ [] }) (record (at_token 19 2 0) { bodies = paired_quotes_document ∷ [] }) =
    r.more_breaks refl refl bodies12 (r.no_break refl) in
    let list14 : ReadsList 1 paired_quotes_text paired_quotes_bodies (at_token 0 0 0) (record (at_token 19 2 0) { bodies = paired_quotes_document ∷ [] }) _ =
    r.list (r.no_break refl) refl (r.ended_item list4 refl line13 refl) in
    whole paired_quotes_text 1 (record (at_token 19 2 0) { bodies = paired_quotes_document ∷ [] }) paired_quotes_script refl (r.sequence list14) refl refl

abbrev paired_document_mark : Mark
paired_document_mark = record { strip = false; quoted = false; delimiter = codes "E"; depth = 0 }

abbrev paired_document_mark1 : Mark
paired_document_mark1 = record { strip = false; quoted = true; delimiter = codes "F"; depth = 1 }

abbrev paired_document_document : Document
paired_document_document = record { text = bare 12 15; end = span 15 16 }

abbrev paired_document_document1 : Document
paired_document_document1 = record { text = word 4 19 (part.Command Paren (span 4 18) (lone (simple 2 6 (element.Redirection (redirect 6 None (Here (here_doc false (word 8 11 (part.Single single.Plain (span 8 11) ∷ [])) (bare 12 15) (span 15 16)))) ∷ []))) ∷ plain 18 19 ∷ []); end = span 19 20 }

abbrev paired_document_bodies : ℕ → Document
paired_document_bodies = nth (paired_document_document ∷ [])

abbrev paired_document_bodies1 : ℕ → Document
paired_document_bodies1 = nth (paired_document_document1 ∷ [])

pub paired_document_reads : Reads paired_document_text paired_document_script
unfolding computes
paired_document_reads =
    let word1 : ReadsWord 1 paired_document_text (in_unsplit 2) (at_word 2 1 0) (at_word 3 1 0) (bare 2 3) = r.whole_word (r.more refl r.plain (r.stop refl)) refl refl in
    let operator2 : ReadsRedirect 1 paired_document_text paired_document_bodies1 (at_token 0 1 0) (record (at_token 3 1 0) { pending = paired_document_mark ∷ [] }) _ =
    r.here_document refl refl refl word1 refl in
    let command3 : ReadsCommand 1 paired_document_text paired_document_bodies1 (at_token 0 0 0) (record (at_token 3 1 0) { pending = paired_document_mark ∷ [] }) _ =
    r.simple_command refl (r.redirect_element refl operator2 (r.no_element refl)) in
    let list4 : ReadsAndOr 1 paired_document_text paired_document_bodies1 (at_token 0 0 0) (record (at_token 3 1 0) { pending = paired_document_mark ∷ [] }) _ =
    alone_reads command3 refl refl refl in
    let word5 : ReadsWord 1 (take 19 paired_document_text) (in_unsplit 8) (record (at_word 8 2 1) { joins = true }) (record (at_word 11 2 1) { joins = true }) (word 8 11 (part.Single single.Plain (span 8 11) ∷ [])) =
    r.whole_word (r.more refl r.single_quoted (r.stop refl)) refl refl in
    let operator6 : ReadsRedirect 1 (take 19 paired_document_text) paired_document_bodies (record (at_token 6 2 1) { spot = record (at_word 6 2 1) { joins = true } }) (record (at_token 11 2 1) { spot = record (at_word 11 2 1) { joins = true }; pending = paired_document_mark1 ∷ [] }) _ =
    r.here_document refl refl refl word5 refl in
    let command7 : ReadsCommand 1 (take 19 paired_document_text) paired_document_bodies (record (at_token 6 1 1) { spot = record (at_word 6 1 1) { joins = true } }) (record (at_token 11 2 1) { spot = record (at_word 11 2 1) { joins = true }; pending = paired_document_mark1 ∷ [] }) _ =
    r.simple_command refl (r.redirect_element refl operator6 (r.no_element refl)) in
    let list8 : ReadsAndOr 1 (take 19 paired_document_text) paired_document_bodies (record (at_token 6 1 1) { spot = record (at_word 6 1 1) { joins = true } }) (record (at_token 11 2 1) { spot = record (at_word 11 2 1) { joins = true }; pending = paired_document_mark1 ∷ [] }) _ =
    alone_reads command7 refl refl refl in
    let body9 : ReadsParts 1 (take 15 paired_document_text) (in_document_of paired_document_mark1) 10 (at_word 12 2 1) (at_word 15 2 1) (plain 12 15 ∷ []) =
    r.more refl r.plain (r.stop refl) in
    let bodies10 : ReadsDocuments 1 (take 19 paired_document_text) (paired_document_mark1 ∷ []) (record (at_token 12 2 1) { spot = record (at_word 12 2 1) { joins = true } }) (record (at_token 17 2 1) { spot = record (at_word 17 2 1) { joins = true }; bodies = paired_document_document ∷ [] }) =
    r.more_bodies refl refl refl body9 refl r.no_body in
    let line11 : ReadsBreaks 1 (take 19 paired_document_text) (record (at_token 11 2 1) { spot = record (at_word 11 2 1) { joins = true }; pending = paired_document_mark1 ∷ [] }) (record (at_token 17 2 1) { spot = record (at_word 17 2 1) { joins = true }; bodies = paired_document_document ∷ [] }) =
    r.more_breaks refl refl bodies10 (r.no_break refl) in
    let list12 : ReadsList 1 (take 19 paired_document_text) paired_document_bodies (record (at_token 6 1 1) { spot = record (at_word 6 1 1) { joins = true } }) (record (at_token 17 2 1) { spot = record (at_word 17 2 1) { joins = true }; bodies = paired_document_document ∷ [] }) _ =
    r.list (r.no_break refl) refl (r.ended_item list8 refl line11 refl) in
    let inner13 : ReadsScript 1 (take 19 paired_document_text) (record (at_word 6 1 1) { joins = true }) (record (at_word 17 2 1) { joins = true }) _ =
    r.script {u = (record (at_token 17 2 1) { spot = record (at_word 17 2 1) { joins = true }; bodies = paired_document_document ∷ [] })} (r.sequence list12) refl in
    let body14 : ReadsParts 1 (take 19 paired_document_text) (in_document_of paired_document_mark) 10 (record (at_word 4 1 0) { joins = true }) (record (at_word 19 2 0) { joins = true }) (part.Command Paren (span 4 18) (lone (simple 2 6 (element.Redirection (redirect 6 None (Here (here_doc false (word 8 11 (part.Single single.Plain (span 8 11) ∷ [])) (bare 12 15) (span 15 16)))) ∷ []))) ∷ plain 18 19 ∷ []) =
    r.more refl (r.substitution (omega arith) refl inner13 refl) (r.more refl r.plain (r.stop refl)) in
    let bodies15 : ReadsDocuments 1 paired_document_text (paired_document_mark ∷ []) (at_token 4 1 0) (record (at_token 21 2 0) { bodies = paired_document_document1 ∷ [] }) =
    r.more_bodies refl refl refl body14 refl r.no_body in
    let line16 : ReadsBreaks 1 paired_document_text (record (at_token 3 1 0) { pending = paired_document_mark ∷ [] }) (record (at_token 21 2 0) { bodies = paired_document_document1 ∷ [] }) =
    r.more_breaks refl refl bodies15 (r.no_break refl) in
    let list17 : ReadsList 1 paired_document_text paired_document_bodies1 (at_token 0 0 0) (record (at_token 21 2 0) { bodies = paired_document_document1 ∷ [] }) _ =
    r.list (r.no_break refl) refl (r.ended_item list4 refl line16 refl) in
    whole paired_document_text 1 (record (at_token 21 2 0) { bodies = paired_document_document1 ∷ [] }) paired_document_script refl (r.sequence list17) refl refl

abbrev tabs_in_pattern_mark : Mark
tabs_in_pattern_mark = record { strip = true; quoted = false; delimiter = codes "E"; depth = 0 }

abbrev tabs_in_pattern_document : Document
tabs_in_pattern_document = record { text = word 5 16 (param 5 15 (Name (span 7 8)) (operator.Remove removal.ShortSuffix (word 9 14 (part.Single single.Plain (span 9 14) ∷ []))) ∷ plain 15 16 ∷ []); end = span 16 17 }

abbrev tabs_in_pattern_bodies : ℕ → Document
tabs_in_pattern_bodies = nth (tabs_in_pattern_document ∷ [])

pub tabs_in_pattern_reads : Reads tabs_in_pattern_text tabs_in_pattern_script
unfolding computes
tabs_in_pattern_reads =
    let word1 : ReadsWord 1 tabs_in_pattern_text (in_unsplit 3) (at_word 3 1 0) (at_word 4 1 0) (bare 3 4) = r.whole_word (r.more refl r.plain (r.stop refl)) refl refl in
    let operator2 : ReadsRedirect 1 tabs_in_pattern_text tabs_in_pattern_bodies (at_token 0 1 0) (record (at_token 4 1 0) { pending = tabs_in_pattern_mark ∷ [] }) _ =
    r.here_document refl refl refl word1 refl in
    let command3 : ReadsCommand 1 tabs_in_pattern_text tabs_in_pattern_bodies (at_token 0 0 0) (record (at_token 4 1 0) { pending = tabs_in_pattern_mark ∷ [] }) _ =
    r.simple_command refl (r.redirect_element refl operator2 (r.no_element refl)) in
    let list4 : ReadsAndOr 1 tabs_in_pattern_text tabs_in_pattern_bodies (at_token 0 0 0) (record (at_token 4 1 0) { pending = tabs_in_pattern_mark ∷ [] }) _ =
    alone_reads command3 refl refl refl in
    let operand5 : ReadsParts 1 (take 16 tabs_in_pattern_text) (in_removal (in_document_of tabs_in_pattern_mark) 9) 0 (record (at_word 9 1 1) { joins = true; tabs = true }) (record (at_word 15 1 1) { joins = true; tabs = true }) (part.Single single.Plain (span 9 14) ∷ []) =
    r.more refl r.single_quoted (r.stop refl) in
    let body6 : ReadsParts 1 (take 16 tabs_in_pattern_text) (in_document_of tabs_in_pattern_mark) 10 (record (at_word 5 1 0) { joins = true; tabs = true }) (record (at_word 16 1 0) { joins = true; tabs = true }) (param 5 15 (Name (span 7 8)) (operator.Remove removal.ShortSuffix (word 9 14 (part.Single single.Plain (span 9 14) ∷ []))) ∷ plain 15 16 ∷ []) =
    r.more refl (r.removal (omega arith) operand5) (r.more refl r.plain (r.stop refl)) in
    let bodies7 : ReadsDocuments 1 tabs_in_pattern_text (tabs_in_pattern_mark ∷ []) (at_token 5 1 0) (record (at_token 18 1 0) { bodies = tabs_in_pattern_document ∷ [] }) =
    r.more_bodies refl refl refl body6 refl r.no_body in
    let line8 : ReadsBreaks 1 tabs_in_pattern_text (record (at_token 4 1 0) { pending = tabs_in_pattern_mark ∷ [] }) (record (at_token 18 1 0) { bodies = tabs_in_pattern_document ∷ [] }) =
    r.more_breaks refl refl bodies7 (r.no_break refl) in
    let list9 : ReadsList 1 tabs_in_pattern_text tabs_in_pattern_bodies (at_token 0 0 0) (record (at_token 18 1 0) { bodies = tabs_in_pattern_document ∷ [] }) _ =
    r.list (r.no_break refl) refl (r.ended_item list4 refl line8 refl) in
    whole tabs_in_pattern_text 1 (record (at_token 18 1 0) { bodies = tabs_in_pattern_document ∷ [] }) tabs_in_pattern_script refl (r.sequence list9) refl refl

abbrev tabs_in_quotes_mark : Mark
tabs_in_quotes_mark = record { strip = true; quoted = false; delimiter = codes "E"; depth = 0 }

abbrev tabs_in_quotes_document : Document
tabs_in_quotes_document = record { text = word 5 17 (part.Command Paren (span 5 16) (lone (simple 2 7 (element.Word (bare 7 8) ∷ element.Word (word 9 15 (part.Single single.Plain (span 9 15) ∷ [])) ∷ []))) ∷ plain 16 17 ∷ []); end = span 17 18 }

abbrev tabs_in_quotes_bodies : ℕ → Document
tabs_in_quotes_bodies = nth (tabs_in_quotes_document ∷ [])

pub tabs_in_quotes_reads : Reads tabs_in_quotes_text tabs_in_quotes_script
unfolding computes
tabs_in_quotes_reads =
    let word1 : ReadsWord 1 tabs_in_quotes_text (in_unsplit 3) (at_word 3 1 0) (at_word 4 1 0) (bare 3 4) = r.whole_word (r.more refl r.plain (r.stop refl)) refl refl in
    let operator2 : ReadsRedirect 1 tabs_in_quotes_text tabs_in_quotes_bodies (at_token 0 1 0) (record (at_token 4 1 0) { pending = tabs_in_quotes_mark ∷ [] }) _ =
    r.here_document refl refl refl word1 refl in
    let command3 : ReadsCommand 1 tabs_in_quotes_text tabs_in_quotes_bodies (at_token 0 0 0) (record (at_token 4 1 0) { pending = tabs_in_quotes_mark ∷ [] }) _ =
    r.simple_command refl (r.redirect_element refl operator2 (r.no_element refl)) in
    let list4 : ReadsAndOr 1 tabs_in_quotes_text tabs_in_quotes_bodies (at_token 0 0 0) (record (at_token 4 1 0) { pending = tabs_in_quotes_mark ∷ [] }) _ =
    alone_reads command3 refl refl refl in
    let word5 : ReadsWord 1 (take 17 tabs_in_quotes_text) (in_word 7) (record (at_word 7 2 1) { joins = true; tabs = true }) (record (at_word 8 2 1) { joins = true; tabs = true }) (bare 7 8) =
    r.whole_word (r.more refl r.plain (r.stop refl)) refl refl in
    let word6 : ReadsWord 1 (take 17 tabs_in_quotes_text) (in_word 9) (record (at_word 9 2 1) { joins = true; tabs = true }) (record (at_word 15 2 1) { joins = true; tabs = true }) (word 9 15 (part.Single single.Plain (span 9 15) ∷ [])) =
    r.whole_word (r.more refl r.single_quoted (r.stop refl)) refl refl in
    let command7 : ReadsCommand 1 (take 17 tabs_in_quotes_text) no_bodies (record (at_token 7 1 1) { spot = record (at_word 7 1 1) { joins = true; tabs = true } }) (record (at_token 15 2 1) { spot = record (at_word 15 2 1) { joins = true; tabs = true } }) _ =
    r.simple_command refl (r.word_element refl word5 (r.word_element refl word6 (r.no_element refl))) in
    let list8 : ReadsAndOr 1 (take 17 tabs_in_quotes_text) no_bodies (record (at_token 7 1 1) { spot = record (at_word 7 1 1) { joins = true; tabs = true } }) (record (at_token 15 2 1) { spot = record (at_word 15 2 1) { joins = true; tabs = true } }) _ =
    alone_reads command7 refl refl refl in
    let list9 : ReadsList 1 (take 17 tabs_in_quotes_text) no_bodies (record (at_token 7 1 1) { spot = record (at_word 7 1 1) { joins = true; tabs = true } }) (record (at_token 15 2 1) { spot = record (at_word 15 2 1) { joins = true; tabs = true } }) _ =
    r.list (r.no_break refl) refl (r.last_item list8 refl refl) in
    let inner10 : ReadsScript 1 (take 17 tabs_in_quotes_text) (record (at_word 7 1 1) { joins = true; tabs = true }) (record (at_word 15 2 1) { joins = true; tabs = true }) _ =
    r.script {u = (record (at_token 15 2 1) { spot = record (at_word 15 2 1) { joins = true; tabs = true } })} (r.sequence list9) refl in
    let body11 : ReadsParts 1 (take 17 tabs_in_quotes_text) (in_document_of tabs_in_quotes_mark) 10 (record (at_word 5 1 0) { joins = true; tabs = true }) (record (at_word 17 2 0) { joins = true; tabs = true }) (part.Command Paren (span 5 16) (lone (simple 2 7 (element.Word (bare 7 8) ∷ element.Word (word 9 15 (part.Single single.Plain (span 9 15) ∷ [])) ∷ []))) ∷ plain 16 17 ∷ []) =
    r.more refl (r.substitution (omega arith) refl inner10 refl) (r.more refl r.plain (r.stop refl)) in
    let bodies12 : ReadsDocuments 1 tabs_in_quotes_text (tabs_in_quotes_mark ∷ []) (at_token 5 1 0) (record (at_token 19 2 0) { bodies = tabs_in_quotes_document ∷ [] }) =
    r.more_bodies refl refl refl body11 refl r.no_body in
    let line13 : ReadsBreaks 1 tabs_in_quotes_text (record (at_token 4 1 0) { pending = tabs_in_quotes_mark ∷ [] }) (record (at_token 19 2 0) { bodies = tabs_in_quotes_document ∷ [] }) =
    r.more_breaks refl refl bodies12 (r.no_break refl) in
    let list14 : ReadsList 1 tabs_in_quotes_text tabs_in_quotes_bodies (at_token 0 0 0) (record (at_token 19 2 0) { bodies = tabs_in_quotes_document ∷ [] }) _ =
    r.list (r.no_break refl) refl (r.ended_item list4 refl line13 refl) in
    whole tabs_in_quotes_text 1 (record (at_token 19 2 0) { bodies = tabs_in_quotes_document ∷ [] }) tabs_in_quotes_script refl (r.sequence list14) refl refl
