-- The readings of texts with commands of each kind.
use Rattle.std.proofs.Common.{[], Some, None, refl, arith}
use Rattle.sh_tree.proofs.LanguageLemmas.{whole, at_word, at_token, at_close, no_bodies, alone_reads, computes}
use Rattle.sh_tree.specs.declared.token.command.Lead.TheVariants as lead
use Rattle.sh_tree.specs.declared.token.command.Reserved.TheVariants as reserved
use Rattle.sh_tree.specs.declared.tree.Direction.TheVariants as direction
use Rattle.sh_tree.specs.declared.tree.Kind.TheVariants as kind
use Rattle.sh_tree.specs.declared.tree.Target.TheVariants.{File}
use Rattle.sh_tree.specs.examples.Commands.{behind_assignment_script, behind_assignment_text, case_lines_script, case_lines_text, for_ended_script, for_ended_text, for_none_script, for_none_text, for_two_script, for_two_text, numbered_script, numbered_text, pattern_esac_script, pattern_esac_text, patterns_script, patterns_text, redirected_script, redirected_text, while_script, while_text}
use Rattle.sh_tree.specs.standard.language.Contexts.{in_word, in_unsplit, in_value}
use Rattle.sh_tree.specs.examples.Language.{bare, utility, lone}
use Rattle.sh_tree.specs.standard.language.Reading as r
use Rattle.sh_tree.specs.standard.language.Reading.{ReadsWord, ReadsRedirect, ReadsBreaks, ReadsCommand, ReadsCompound, ReadsAndOr, ReadsList, Reads}
use Rattle.sh_tree.specs.standard.language.Trees.{span, redirect, command}

pub while_reads : Reads while_text while_script
unfolding computes
while_reads =
    let word1 : ReadsWord 1 while_text (in_word 6) (at_word 6 2 1) (at_word 7 2 1) (bare 6 7) = r.whole_word (r.more refl r.plain (r.stop refl)) refl refl in
    let command2 : ReadsCommand 1 while_text no_bodies (at_token 6 1 1) (at_token 7 2 1) (utility 2 6 7) =
    r.simple_command refl (r.word_element refl word1 (r.no_element refl)) in
    let list3 : ReadsAndOr 1 while_text no_bodies (at_token 6 1 1) (at_token 7 2 1) _ = alone_reads command2 refl refl refl in
    let list4 : ReadsList 1 while_text no_bodies (at_token 6 1 1) (at_token 9 2 1) (lone (utility 2 6 7)) =
    r.list (r.no_break refl) refl (r.ended_item list3 refl (r.no_break refl) refl) in
    let word5 : ReadsWord 1 while_text (in_word 12) (at_word 12 3 1) (at_word 13 3 1) (bare 12 13) = r.whole_word (r.more refl r.plain (r.stop refl)) refl refl in
    let command6 : ReadsCommand 1 while_text no_bodies (at_token 12 2 1) (at_token 13 3 1) (utility 3 12 13) =
    r.simple_command refl (r.word_element refl word5 (r.no_element refl)) in
    let list7 : ReadsAndOr 1 while_text no_bodies (at_token 12 2 1) (at_token 13 3 1) _ = alone_reads command6 refl refl refl in
    let list8 : ReadsList 1 while_text no_bodies (at_token 12 2 1) (at_token 15 3 1) (lone (utility 3 12 13)) =
    r.list (r.no_break refl) refl (r.ended_item list7 refl (r.no_break refl) refl) in
    let compound9 : ReadsCompound 1 while_text no_bodies (lead.Reserved reserved.While) (at_token 0 1 0) (at_token 19 3 0) _ =
    r.while_loop (omega arith) list4 (r.do_group refl list8 refl) in
    let command10 : ReadsCommand 1 while_text no_bodies (at_token 0 0 0) (at_close 19 3 0) _ = r.compound_command refl compound9 (r.no_redirect refl) in
    let list11 : ReadsAndOr 1 while_text no_bodies (at_token 0 0 0) (at_close 19 3 0) _ = alone_reads command10 refl refl refl in
    let list12 : ReadsList 1 while_text no_bodies (at_token 0 0 0) (at_close 19 3 0) _ = r.list (r.no_break refl) refl (r.last_item list11 refl refl) in
    whole while_text 1 (at_close 19 3 0) while_script refl (r.sequence list12) refl refl

pub for_ended_reads : Reads for_ended_text for_ended_script
unfolding computes
for_ended_reads =
    let word1 : ReadsWord 1 for_ended_text (in_word 10) (at_word 10 2 1) (at_word 11 2 1) (bare 10 11) = r.whole_word (r.more refl r.plain (r.stop refl)) refl refl in
    let command2 : ReadsCommand 1 for_ended_text no_bodies (at_token 10 1 1) (at_token 11 2 1) (utility 2 10 11) =
    r.simple_command refl (r.word_element refl word1 (r.no_element refl)) in
    let list3 : ReadsAndOr 1 for_ended_text no_bodies (at_token 10 1 1) (at_token 11 2 1) _ = alone_reads command2 refl refl refl in
    let list4 : ReadsList 1 for_ended_text no_bodies (at_token 10 1 1) (at_token 13 2 1) (lone (utility 2 10 11)) =
    r.list (r.no_break refl) refl (r.ended_item list3 refl (r.no_break refl) refl) in
    let compound5 : ReadsCompound 1 for_ended_text no_bodies (lead.Reserved reserved.For) (at_token 0 1 0) (at_token 17 2 0) _ =
    r.for_loop (omega arith) refl (r.arguments_ended refl (r.no_break refl)) (r.do_group refl list4 refl) in
    let command6 : ReadsCommand 1 for_ended_text no_bodies (at_token 0 0 0) (at_close 17 2 0) _ = r.compound_command refl compound5 (r.no_redirect refl) in
    let list7 : ReadsAndOr 1 for_ended_text no_bodies (at_token 0 0 0) (at_close 17 2 0) _ = alone_reads command6 refl refl refl in
    let list8 : ReadsList 1 for_ended_text no_bodies (at_token 0 0 0) (at_close 17 2 0) (lone (command 1 0 (kind.For (span 4 5) None (lone (utility 2 10 11))) [])) =
    r.list (r.no_break refl) refl (r.last_item list7 refl refl) in
    whole for_ended_text 1 (at_close 17 2 0) for_ended_script refl (r.sequence list8) refl refl

pub for_none_reads : Reads for_none_text for_none_script
unfolding computes
for_none_reads =
    let line1 : ReadsBreaks 1 for_none_text (at_token 5 1 1) (at_token 6 1 1) = r.more_breaks refl refl r.no_body (r.no_break refl) in
    let line2 : ReadsBreaks 1 for_none_text (at_token 8 1 1) (at_token 9 1 1) = r.more_breaks refl refl r.no_body (r.no_break refl) in
    let line3 : ReadsBreaks 1 for_none_text (at_token 11 1 1) (at_token 12 1 1) = r.more_breaks refl refl r.no_body (r.no_break refl) in
    let word4 : ReadsWord 1 for_none_text (in_word 12) (at_word 12 2 1) (at_word 13 2 1) (bare 12 13) = r.whole_word (r.more refl r.plain (r.stop refl)) refl refl in
    let command5 : ReadsCommand 1 for_none_text no_bodies (at_token 12 1 1) (at_token 13 2 1) (utility 2 12 13) =
    r.simple_command refl (r.word_element refl word4 (r.no_element refl)) in
    let list6 : ReadsAndOr 1 for_none_text no_bodies (at_token 12 1 1) (at_token 13 2 1) _ = alone_reads command5 refl refl refl in
    let line7 : ReadsBreaks 1 for_none_text (at_token 13 2 1) (at_token 14 2 1) = r.more_breaks refl refl r.no_body (r.no_break refl) in
    let list8 : ReadsList 1 for_none_text no_bodies (at_token 11 1 1) (at_token 14 2 1) (lone (utility 2 12 13)) =
    r.list line3 refl (r.ended_item list6 refl line7 refl) in
    let compound9 : ReadsCompound 1 for_none_text no_bodies (lead.Reserved reserved.For) (at_token 0 1 0) (at_token 18 2 0) _ =
    r.for_loop (omega arith) refl (r.listed line1 refl (r.no_word refl) refl line2) (r.do_group refl list8 refl) in
    let command10 : ReadsCommand 1 for_none_text no_bodies (at_token 0 0 0) (at_close 18 2 0) _ = r.compound_command refl compound9 (r.no_redirect refl) in
    let list11 : ReadsAndOr 1 for_none_text no_bodies (at_token 0 0 0) (at_close 18 2 0) _ = alone_reads command10 refl refl refl in
    let list12 : ReadsList 1 for_none_text no_bodies (at_token 0 0 0) (at_close 18 2 0) _ = r.list (r.no_break refl) refl (r.last_item list11 refl refl) in
    whole for_none_text 1 (at_close 18 2 0) for_none_script refl (r.sequence list12) refl refl

pub for_two_reads : Reads for_two_text for_two_script
unfolding computes
for_two_reads =
    let word1 : ReadsWord 1 for_two_text (in_word 9) (at_word 9 1 1) (at_word 10 1 1) (bare 9 10) = r.whole_word (r.more refl r.plain (r.stop refl)) refl refl in
    let word2 : ReadsWord 1 for_two_text (in_word 11) (at_word 11 1 1) (at_word 12 1 1) (bare 11 12) = r.whole_word (r.more refl r.plain (r.stop refl)) refl refl in
    let line3 : ReadsBreaks 1 for_two_text (at_token 12 1 1) (at_token 13 1 1) = r.more_breaks refl refl r.no_body (r.no_break refl) in
    let word4 : ReadsWord 1 for_two_text (in_word 16) (at_word 16 2 1) (at_word 17 2 1) (bare 16 17) = r.whole_word (r.more refl r.plain (r.stop refl)) refl refl in
    let command5 : ReadsCommand 1 for_two_text no_bodies (at_token 16 1 1) (at_token 17 2 1) (utility 2 16 17) =
    r.simple_command refl (r.word_element refl word4 (r.no_element refl)) in
    let list6 : ReadsAndOr 1 for_two_text no_bodies (at_token 16 1 1) (at_token 17 2 1) _ = alone_reads command5 refl refl refl in
    let line7 : ReadsBreaks 1 for_two_text (at_token 17 2 1) (at_token 18 2 1) = r.more_breaks refl refl r.no_body (r.no_break refl) in
    let list8 : ReadsList 1 for_two_text no_bodies (at_token 16 1 1) (at_token 18 2 1) (lone (utility 2 16 17)) =
    r.list (r.no_break refl) refl (r.ended_item list6 refl line7 refl) in
    let compound9 : ReadsCompound 1 for_two_text no_bodies (lead.Reserved reserved.For) (at_token 0 1 0) (at_token 22 2 0) _ =
    r.for_loop (omega arith) refl (r.listed (r.no_break refl) refl (r.more_words refl word1 (r.more_words refl word2 (r.no_word refl))) refl line3) (r.do_group refl list8 refl) in
    let command10 : ReadsCommand 1 for_two_text no_bodies (at_token 0 0 0) (at_close 22 2 0) _ = r.compound_command refl compound9 (r.no_redirect refl) in
    let list11 : ReadsAndOr 1 for_two_text no_bodies (at_token 0 0 0) (at_close 22 2 0) _ = alone_reads command10 refl refl refl in
    let list12 : ReadsList 1 for_two_text no_bodies (at_token 0 0 0) (at_close 22 2 0) _ = r.list (r.no_break refl) refl (r.last_item list11 refl refl) in
    whole for_two_text 1 (at_close 22 2 0) for_two_script refl (r.sequence list12) refl refl

pub case_lines_reads : Reads case_lines_text case_lines_script
unfolding computes
case_lines_reads =
    let word1 : ReadsWord 1 case_lines_text (in_unsplit 5) (at_word 5 1 1) (at_word 6 1 1) (bare 5 6) = r.whole_word (r.more refl r.plain (r.stop refl)) refl refl in
    let line2 : ReadsBreaks 1 case_lines_text (at_token 6 1 1) (at_token 7 1 1) = r.more_breaks refl refl r.no_body (r.no_break refl) in
    let line3 : ReadsBreaks 1 case_lines_text (at_token 9 1 1) (at_token 10 1 1) = r.more_breaks refl refl r.no_body (r.no_break refl) in
    let word4 : ReadsWord 1 case_lines_text (in_unsplit 10) (at_word 10 1 1) (at_word 11 1 1) (bare 10 11) = r.whole_word (r.more refl r.plain (r.stop refl)) refl refl in
    let line5 : ReadsBreaks 1 case_lines_text (at_token 12 1 1) (at_token 13 1 1) = r.more_breaks refl refl r.no_body (r.no_break refl) in
    let word6 : ReadsWord 1 case_lines_text (in_word 13) (at_word 13 2 1) (at_word 14 2 1) (bare 13 14) = r.whole_word (r.more refl r.plain (r.stop refl)) refl refl in
    let command7 : ReadsCommand 1 case_lines_text no_bodies (at_token 13 1 1) (at_token 14 2 1) (utility 2 13 14) =
    r.simple_command refl (r.word_element refl word6 (r.no_element refl)) in
    let list8 : ReadsAndOr 1 case_lines_text no_bodies (at_token 13 1 1) (at_token 14 2 1) _ = alone_reads command7 refl refl refl in
    let line9 : ReadsBreaks 1 case_lines_text (at_token 14 2 1) (at_token 15 2 1) = r.more_breaks refl refl r.no_body (r.no_break refl) in
    let list10 : ReadsList 1 case_lines_text no_bodies (at_token 12 1 1) (at_token 15 2 1) (lone (utility 2 13 14)) =
    r.list line5 refl (r.ended_item list8 refl line9 refl) in
    let line11 : ReadsBreaks 1 case_lines_text (at_token 17 2 1) (at_token 18 2 1) = r.more_breaks refl refl r.no_body (r.no_break refl) in
    let compound12 : ReadsCompound 1 case_lines_text no_bodies (lead.Reserved reserved.Case) (at_token 0 1 0) (at_token 22 2 0) _ =
    r.case_of (omega arith) refl word1 line2 refl line3 (r.more_clauses refl (r.last_pattern refl word4 refl) (r.sequence list10) refl line11 (r.esac refl)) in
    let command13 : ReadsCommand 1 case_lines_text no_bodies (at_token 0 0 0) (at_close 22 2 0) _ = r.compound_command refl compound12 (r.no_redirect refl) in
    let list14 : ReadsAndOr 1 case_lines_text no_bodies (at_token 0 0 0) (at_close 22 2 0) _ = alone_reads command13 refl refl refl in
    let list15 : ReadsList 1 case_lines_text no_bodies (at_token 0 0 0) (at_close 22 2 0) _ = r.list (r.no_break refl) refl (r.last_item list14 refl refl) in
    whole case_lines_text 1 (at_close 22 2 0) case_lines_script refl (r.sequence list15) refl refl

pub patterns_reads : Reads patterns_text patterns_script
unfolding computes
patterns_reads =
    let word1 : ReadsWord 1 patterns_text (in_unsplit 5) (at_word 5 1 1) (at_word 6 1 1) (bare 5 6) = r.whole_word (r.more refl r.plain (r.stop refl)) refl refl in
    let word2 : ReadsWord 1 patterns_text (in_unsplit 10) (at_word 10 1 1) (at_word 11 1 1) (bare 10 11) = r.whole_word (r.more refl r.plain (r.stop refl)) refl refl in
    let word3 : ReadsWord 1 patterns_text (in_unsplit 12) (at_word 12 1 1) (at_word 13 1 1) (bare 12 13) = r.whole_word (r.more refl r.plain (r.stop refl)) refl refl in
    let word4 : ReadsWord 1 patterns_text (in_word 15) (at_word 15 2 1) (at_word 16 2 1) (bare 15 16) = r.whole_word (r.more refl r.plain (r.stop refl)) refl refl in
    let command5 : ReadsCommand 1 patterns_text no_bodies (at_token 15 1 1) (at_token 16 2 1) (utility 2 15 16) =
    r.simple_command refl (r.word_element refl word4 (r.no_element refl)) in
    let list6 : ReadsAndOr 1 patterns_text no_bodies (at_token 15 1 1) (at_token 16 2 1) _ = alone_reads command5 refl refl refl in
    let list7 : ReadsList 1 patterns_text no_bodies (at_token 15 1 1) (at_token 16 2 1) (lone (utility 2 15 16)) =
    r.list (r.no_break refl) refl (r.last_item list6 refl refl) in
    let compound8 : ReadsCompound 1 patterns_text no_bodies (lead.Reserved reserved.Case) (at_token 0 1 0) (at_token 23 2 0) _ =
    r.case_of (omega arith) refl word1 (r.no_break refl) refl (r.no_break refl) (r.more_clauses refl (r.more_patterns refl word2 refl (r.last_pattern refl word3 refl)) (r.sequence list7) refl (r.no_break refl) (r.esac refl)) in
    let command9 : ReadsCommand 1 patterns_text no_bodies (at_token 0 0 0) (at_close 23 2 0) _ = r.compound_command refl compound8 (r.no_redirect refl) in
    let list10 : ReadsAndOr 1 patterns_text no_bodies (at_token 0 0 0) (at_close 23 2 0) _ = alone_reads command9 refl refl refl in
    let list11 : ReadsList 1 patterns_text no_bodies (at_token 0 0 0) (at_close 23 2 0) _ = r.list (r.no_break refl) refl (r.last_item list10 refl refl) in
    whole patterns_text 1 (at_close 23 2 0) patterns_script refl (r.sequence list11) refl refl

pub pattern_esac_reads : Reads pattern_esac_text pattern_esac_script
unfolding computes
pattern_esac_reads =
    let word1 : ReadsWord 1 pattern_esac_text (in_unsplit 5) (at_word 5 1 1) (at_word 6 1 1) (bare 5 6) = r.whole_word (r.more refl r.plain (r.stop refl)) refl refl in
    let word2 : ReadsWord 1 pattern_esac_text (in_unsplit 11) (at_word 11 1 1) (at_word 15 1 1) (bare 11 15) =
    r.whole_word (r.more refl r.plain (r.stop refl)) refl refl in
    let word3 : ReadsWord 1 pattern_esac_text (in_word 17) (at_word 17 2 1) (at_word 18 2 1) (bare 17 18) = r.whole_word (r.more refl r.plain (r.stop refl)) refl refl in
    let command4 : ReadsCommand 1 pattern_esac_text no_bodies (at_token 17 1 1) (at_token 18 2 1) (utility 2 17 18) =
    r.simple_command refl (r.word_element refl word3 (r.no_element refl)) in
    let list5 : ReadsAndOr 1 pattern_esac_text no_bodies (at_token 17 1 1) (at_token 18 2 1) _ = alone_reads command4 refl refl refl in
    let list6 : ReadsList 1 pattern_esac_text no_bodies (at_token 17 1 1) (at_token 18 2 1) (lone (utility 2 17 18)) =
    r.list (r.no_break refl) refl (r.last_item list5 refl refl) in
    let compound7 : ReadsCompound 1 pattern_esac_text no_bodies (lead.Reserved reserved.Case) (at_token 0 1 0) (at_token 25 2 0) _ =
    r.case_of (omega arith) refl word1 (r.no_break refl) refl (r.no_break refl) (r.more_clauses refl (r.last_pattern refl word2 refl) (r.sequence list6) refl (r.no_break refl) (r.esac refl)) in
    let command8 : ReadsCommand 1 pattern_esac_text no_bodies (at_token 0 0 0) (at_close 25 2 0) _ = r.compound_command refl compound7 (r.no_redirect refl) in
    let list9 : ReadsAndOr 1 pattern_esac_text no_bodies (at_token 0 0 0) (at_close 25 2 0) _ = alone_reads command8 refl refl refl in
    let list10 : ReadsList 1 pattern_esac_text no_bodies (at_token 0 0 0) (at_close 25 2 0) _ = r.list (r.no_break refl) refl (r.last_item list9 refl refl) in
    whole pattern_esac_text 1 (at_close 25 2 0) pattern_esac_script refl (r.sequence list10) refl refl

pub redirected_reads : Reads redirected_text redirected_script
unfolding computes
redirected_reads =
    let word1 : ReadsWord 0 redirected_text (in_unsplit 1) (at_word 1 1 0) (at_word 2 1 0) (bare 1 2) = r.whole_word (r.more refl r.plain (r.stop refl)) refl refl in
    let target2 : ReadsRedirect 0 redirected_text no_bodies (at_token 0 1 0) (at_token 3 1 0) (redirect 0 None (File direction.Read (bare 1 2))) =
    r.file refl refl refl word1 in
    let word3 : ReadsWord 0 redirected_text (in_unsplit 4) (at_word 4 1 0) (at_word 5 1 0) (bare 4 5) = r.whole_word (r.more refl r.plain (r.stop refl)) refl refl in
    let target4 : ReadsRedirect 0 redirected_text no_bodies (at_token 3 1 0) (at_token 6 1 0) (redirect 3 None (File direction.Write (bare 4 5))) =
    r.file refl refl refl word3 in
    let word5 : ReadsWord 0 redirected_text (in_unsplit 8) (at_word 8 1 0) (at_word 9 1 0) (bare 8 9) = r.whole_word (r.more refl r.plain (r.stop refl)) refl refl in
    let target6 : ReadsRedirect 0 redirected_text no_bodies (at_token 6 1 0) (at_token 10 1 0) (redirect 6 None (File direction.Clobber (bare 8 9))) =
    r.file refl refl refl word5 in
    let word7 : ReadsWord 0 redirected_text (in_unsplit 12) (at_word 12 1 0) (at_word 13 1 0) (bare 12 13) = r.whole_word (r.more refl r.plain (r.stop refl)) refl refl in
    let target8 : ReadsRedirect 0 redirected_text no_bodies (at_token 10 1 0) (at_token 14 1 0) (redirect 10 None (File direction.Append (bare 12 13))) =
    r.file refl refl refl word7 in
    let word9 : ReadsWord 0 redirected_text (in_unsplit 16) (at_word 16 1 0) (at_word 17 1 0) (bare 16 17) = r.whole_word (r.more refl r.plain (r.stop refl)) refl refl in
    let target10 : ReadsRedirect 0 redirected_text no_bodies (at_token 14 1 0) (at_token 18 1 0) (redirect 14 None (File direction.Both (bare 16 17))) =
    r.file refl refl refl word9 in
    let word11 : ReadsWord 0 redirected_text (in_unsplit 20) (at_word 20 1 0) (at_word 21 1 0) (bare 20 21) =
    r.whole_word (r.more refl r.plain (r.stop refl)) refl refl in
    let target12 : ReadsRedirect 0 redirected_text no_bodies (at_token 18 1 0) (at_token 22 1 0) (redirect 18 None (File direction.CopyIn (bare 20 21))) =
    r.file refl refl refl word11 in
    let word13 : ReadsWord 0 redirected_text (in_unsplit 24) (at_word 24 1 0) (at_word 25 1 0) (bare 24 25) =
    r.whole_word (r.more refl r.plain (r.stop refl)) refl refl in
    let target14 : ReadsRedirect 0 redirected_text no_bodies (at_token 22 1 0) (at_token 25 1 0) (redirect 22 None (File direction.CopyOut (bare 24 25))) =
    r.file refl refl refl word13 in
    let command15 : ReadsCommand 0 redirected_text no_bodies (at_token 0 0 0) (at_token 25 1 0) _ =
    r.simple_command refl (r.redirect_element refl target2 (r.redirect_element refl target4 (r.redirect_element refl target6 (r.redirect_element refl target8 (r.redirect_element refl target10 (r.redirect_element refl target12 (r.redirect_element refl target14 (r.no_element refl)))))))) in
    let list16 : ReadsAndOr 0 redirected_text no_bodies (at_token 0 0 0) (at_token 25 1 0) _ = alone_reads command15 refl refl refl in
    let list17 : ReadsList 0 redirected_text no_bodies (at_token 0 0 0) (at_token 25 1 0) _ = r.list (r.no_break refl) refl (r.last_item list16 refl refl) in
    whole redirected_text 0 (at_token 25 1 0) redirected_script refl (r.sequence list17) refl refl

pub numbered_reads : Reads numbered_text numbered_script
unfolding computes
numbered_reads =
    let word1 : ReadsWord 0 numbered_text (in_word 0) (at_word 0 1 0) (at_word 1 1 0) (bare 0 1) = r.whole_word (r.more refl r.plain (r.stop refl)) refl refl in
    let word2 : ReadsWord 0 numbered_text (in_unsplit 4) (at_word 4 1 0) (at_word 5 1 0) (bare 4 5) = r.whole_word (r.more refl r.plain (r.stop refl)) refl refl in
    let target3 : ReadsRedirect 0 numbered_text no_bodies (at_token 2 1 0) (at_token 5 1 0) (redirect 3 (Some (span 2 3)) (File direction.Write (bare 4 5))) =
    r.file refl refl refl word2 in
    let command4 : ReadsCommand 0 numbered_text no_bodies (at_token 0 0 0) (at_token 5 1 0) _ =
    r.simple_command refl (r.word_element refl word1 (r.redirect_element refl target3 (r.no_element refl))) in
    let list5 : ReadsAndOr 0 numbered_text no_bodies (at_token 0 0 0) (at_token 5 1 0) _ = alone_reads command4 refl refl refl in
    let list6 : ReadsList 0 numbered_text no_bodies (at_token 0 0 0) (at_token 5 1 0) _ = r.list (r.no_break refl) refl (r.last_item list5 refl refl) in
    whole numbered_text 0 (at_token 5 1 0) numbered_script refl (r.sequence list6) refl refl

pub behind_assignment_reads : Reads behind_assignment_text behind_assignment_script
unfolding computes
behind_assignment_reads =
    let word1 : ReadsWord 0 behind_assignment_text (in_value 2) (at_word 2 1 0) (at_word 3 1 0) (bare 2 3) = r.whole_word (r.more refl r.plain (r.stop refl)) refl refl in
    let word2 : ReadsWord 0 behind_assignment_text (in_word 4) (at_word 4 1 0) (at_word 6 1 0) (bare 4 6) = r.whole_word (r.more refl r.plain (r.stop refl)) refl refl in
    let command3 : ReadsCommand 0 behind_assignment_text no_bodies (at_token 0 0 0) (at_token 6 1 0) _ =
    r.simple_command refl (r.assigned_element refl word1 (r.word_element refl word2 (r.no_element refl))) in
    let list4 : ReadsAndOr 0 behind_assignment_text no_bodies (at_token 0 0 0) (at_token 6 1 0) _ = alone_reads command3 refl refl refl in
    let list5 : ReadsList 0 behind_assignment_text no_bodies (at_token 0 0 0) (at_token 6 1 0) _ = r.list (r.no_break refl) refl (r.last_item list4 refl refl) in
    whole behind_assignment_text 0 (at_token 6 1 0) behind_assignment_script refl (r.sequence list5) refl refl
