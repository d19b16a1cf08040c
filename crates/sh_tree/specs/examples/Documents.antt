-- Texts with here-documents, and their trees.
-- POSIX.1-2024, XCU 2.7.4 (here-document).
use Rattle.std.specs.Prelude.{ℕ, true, false, List, [], ◌∷◌, codes, None}
use Rattle.sh_tree.specs.declared.tree.CommandStyle.TheVariants.{Paren}
use Rattle.sh_tree.specs.declared.tree.Element.TheVariants as element
use Rattle.sh_tree.specs.declared.tree.Kind.TheVariants as kind
use Rattle.sh_tree.specs.declared.tree.ParameterOperator.TheVariants as operator
use Rattle.sh_tree.specs.declared.tree.Part.TheVariants as part
use Rattle.sh_tree.specs.declared.tree.Removal.TheVariants as removal
use Rattle.sh_tree.specs.declared.tree.Script.{Script}
use Rattle.sh_tree.specs.declared.tree.SingleStyle.TheVariants as single
use Rattle.sh_tree.specs.declared.tree.Subject.TheVariants.{Name}
use Rattle.sh_tree.specs.declared.tree.Target.TheVariants.{Here}
use Rattle.sh_tree.specs.examples.Language.{plain, bare, simple, utility, lone}
use Rattle.sh_tree.specs.standard.language.Reading.{Reads}
use Rattle.sh_tree.specs.standard.language.Trees.{param, redirect, command, and_or, item, here_doc, item_of, span, word, pipe, script}

-- nothing in a body is special after a quoted delimiter
abbrev pub verbatim_text : List ℕ
verbatim_text = codes "<<'E'\n$x\\\nE\n"

abbrev pub verbatim_script : Script
verbatim_script = lone (simple 1 0 (element.Redirection (redirect 0 None (Here (here_doc false (word 2 5 (part.Single single.Plain (span 2 5)
    ∷ [])) (bare 6 10) (span 10 11)))) ∷ []))

-- two documents on one line
abbrev pub two_documents_text : List ℕ
two_documents_text = codes "<<A <<B\na\nA\nb\nB\n"

abbrev pub two_documents_script : Script
two_documents_script = lone (simple 1 0 (element.Redirection (redirect 0 None (Here (here_doc false (bare 2 3) (bare 8 10) (span 10 11))))
    ∷ element.Redirection (redirect 4 None (Here (here_doc false (bare 6 7) (bare 12 14) (span 14 15)))) ∷ []))

-- the body is in the group
abbrev pub group_document_text : List ℕ
group_document_text = codes "{ <<E\na\nE\n}"

abbrev pub group_document_script : Script
group_document_script = lone (command 1 0 (kind.Group (lone (simple 2 2 (element.Redirection (redirect 2 None
    (Here (here_doc false (bare 4 5) (bare 6 8) (span 8 9)))) ∷ [])))) [])

-- the body is in the substitution
abbrev pub inner_document_text : List ℕ
inner_document_text = codes "$(<<E\na\nE\n)"

abbrev pub inner_document_script : Script
inner_document_script = lone (simple 1 0 (element.Word (word 0 11
    (part.Command Paren (span 0 11) (lone (simple 2 2 (element.Redirection (redirect 2 None
    (Here (here_doc false (bare 4 5) (bare 6 8) (span 8 9)))) ∷ []))) ∷ [])) ∷ []))

-- the body is after the pipeline
abbrev pub piped_document_text : List ℕ
piped_document_text = codes "<<E | a\nb\nE\n"

abbrev pub piped_document_script : Script
piped_document_script = script (item (and_or (pipe false (simple 1 0 (element.Redirection (redirect 0 None
    (Here (here_doc false (bare 2 3) (bare 8 10) (span 10 11)))) ∷ []) ∷ utility 2 6 7 ∷ [])) []) false ∷ [])

-- the command in the body is the third one
abbrev pub counted_document_text : List ℕ
counted_document_text = codes "<<E; a\n$(b)\nE\n"

abbrev pub counted_document_script : Script
counted_document_script = script (item_of (simple 1 0 (element.Redirection (redirect 0 None (Here (here_doc false (bare 2 3) (word 7 12
    (part.Command Paren (span 7 11) (lone (utility 3 9 10)) ∷ plain 11 12 ∷ [])) (span 12 13)))) ∷ [])) ∷ item_of (utility 2 5 6) ∷ [])

-- a line continuation in the end line
abbrev pub joined_end_text : List ℕ
joined_end_text = codes "<<EF\na\nE\\\nF\n"

abbrev pub joined_end_script : Script
joined_end_script = lone (simple 1 0 (element.Redirection (redirect 0 None (Here (here_doc false (bare 2 4) (bare 5 7) (span 7 11)))) ∷ []))

-- an end line without a newline
abbrev pub unended_line_text : List ℕ
unended_line_text = codes "<<E\na\nE"

abbrev pub unended_line_script : Script
unended_line_script = lone (simple 1 0 (element.Redirection (redirect 0 None (Here (here_doc false (bare 2 3) (bare 4 6) (span 6 7)))) ∷ []))

-- a substitution on one line, while the body is awaited
abbrev pub quiet_text : List ℕ
quiet_text = codes "<<E $(a)\nE\n"

abbrev pub quiet_script : Script
quiet_script = lone (simple 1 0 (element.Redirection (redirect 0 None (Here (here_doc false (bare 2 3) (word 9 9 []) (span 9 10))))
    ∷ element.Word (word 4 8 (part.Command Paren (span 4 8) (lone (utility 2 6 7)) ∷ [])) ∷ []))

-- a comment that ends in two backslashes, in a body
abbrev pub paired_comment_text : List ℕ
paired_comment_text = codes "<<E\n$(: # c\\\\\n)\nE\n"

abbrev pub paired_comment_script : Script
paired_comment_script = lone (simple 1 0 (element.Redirection (redirect 0 None (Here (here_doc false (bare 2 3) (word 4 16
    (part.Command Paren (span 4 15) (lone (utility 2 6 7)) ∷ plain 15 16 ∷ [])) (span 16 17)))) ∷ []))

-- single quotes with two backslashes before a newline, in a body
abbrev pub paired_quotes_text : List ℕ
paired_quotes_text = codes "<<E\n$(: 'a\\\\\nb')\nE\n"

abbrev pub paired_quotes_script : Script
paired_quotes_script = lone (simple 1 0 (element.Redirection (redirect 0 None (Here (here_doc false (bare 2 3) (word 4 17
    (part.Command Paren (span 4 16) (lone (simple 2 6 (element.Word (bare 6 7) ∷ element.Word (word 8 15 (part.Single single.Plain (span 8 15)
    ∷ [])) ∷ []))) ∷ plain 16 17 ∷ [])) (span 17 18)))) ∷ []))

-- a quoted body with such a line, in a body
abbrev pub paired_document_text : List ℕ
paired_document_text = codes "<<E\n$(<<'F'\n\\\\\nF\n)\nE\n"

abbrev pub paired_document_script : Script
paired_document_script = lone (simple 1 0 (element.Redirection (redirect 0 None (Here (here_doc false (bare 2 3) (word 4 19
    (part.Command Paren (span 4 18) (lone (simple 2 6 (element.Redirection (redirect 6 None (Here (here_doc false (word 8 11
    (part.Single single.Plain (span 8 11) ∷ [])) (bare 12 15) (span 15 16)))) ∷ []))) ∷ plain 18 19 ∷ [])) (span 19 20)))) ∷ []))

-- the tabs of lines in single quotes, in a pattern, belong to their part
abbrev pub tabs_in_pattern_text : List ℕ
tabs_in_pattern_text = codes "<<-E\n${x%'\n\tr'}\nE\n"

abbrev pub tabs_in_pattern_script : Script
tabs_in_pattern_script = lone (simple 1 0 (element.Redirection (redirect 0 None (Here (here_doc true (bare 3 4)
    (word 5 16 (param 5 15 (Name (span 7 8)) (operator.Remove removal.ShortSuffix (word 9 14 (part.Single single.Plain (span 9 14) ∷ [])))
    ∷ plain 15 16 ∷ [])) (span 16 17)))) ∷ []))

-- so do those in quotes inside a substitution
abbrev pub tabs_in_quotes_text : List ℕ
tabs_in_quotes_text = codes "<<-E\n$(: 'a\n\tb')\nE\n"

abbrev pub tabs_in_quotes_script : Script
tabs_in_quotes_script = lone (simple 1 0 (element.Redirection (redirect 0 None (Here (here_doc true (bare 3 4) (word 5 17
    (part.Command Paren (span 5 16) (lone (simple 2 7 (element.Word (bare 7 8) ∷ element.Word (word 9 15 (part.Single single.Plain (span 9 15)
    ∷ [])) ∷ []))) ∷ plain 16 17 ∷ [])) (span 17 18)))) ∷ []))

-- each text is its tree
pub record DocumentsRead : Type 0 where
  pub verbatim_read : Reads verbatim_text verbatim_script
  pub two_documents_read : Reads two_documents_text two_documents_script
  pub group_document_read : Reads group_document_text group_document_script
  pub inner_document_read : Reads inner_document_text inner_document_script
  pub piped_document_read : Reads piped_document_text piped_document_script
  pub counted_document_read : Reads counted_document_text counted_document_script
  pub joined_end_read : Reads joined_end_text joined_end_script
  pub unended_line_read : Reads unended_line_text unended_line_script
  pub quiet_read : Reads quiet_text quiet_script
  pub paired_comment_read : Reads paired_comment_text paired_comment_script
  pub paired_quotes_read : Reads paired_quotes_text paired_quotes_script
  pub paired_document_read : Reads paired_document_text paired_document_script
  pub tabs_in_pattern_read : Reads tabs_in_pattern_text tabs_in_pattern_script
  pub tabs_in_quotes_read : Reads tabs_in_quotes_text tabs_in_quotes_script
