-- Trees and their canonical texts, against which the definitions are held.
-- POSIX.1-2024, XCU 2.7 (redirection), 2.9 (shell commands).
use Rattle.std.specs.Prelude.{◌≡◌, ℕ, true, false, List, [], ◌∷◌, codes, None}
use Rattle.sh_tree.specs.declared.tree.ClauseEnd.TheVariants.{Break, FallThrough}
use Rattle.sh_tree.specs.declared.tree.Direction.TheVariants as direction
use Rattle.sh_tree.specs.declared.tree.Element.TheVariants as element
use Rattle.sh_tree.specs.declared.tree.Kind.TheVariants as kind
use Rattle.sh_tree.specs.declared.tree.Link.TheVariants as link
use Rattle.sh_tree.specs.declared.tree.LoopKind.TheVariants as loop
use Rattle.sh_tree.specs.declared.tree.Redirect.{Redirect}
use Rattle.sh_tree.specs.declared.tree.Script.{Script}
use Rattle.sh_tree.specs.declared.tree.Target.TheVariants.{File, Here}
use Rattle.sh_tree.specs.examples.Language as l
use Rattle.sh_tree.specs.examples.Language.{bare, simple, utility, lone}
use Rattle.sh_tree.specs.examples.Commands as c
use Rattle.sh_tree.specs.examples.Documents as d
use Rattle.sh_tree.specs.standard.language.Trees.{redirect, here_doc, command, pipe, and_or, item, item_of, script, clause, span}
use Rattle.sh_print.specs.Layout.{canon}

-- the here-document whose operator is at `at`, with the word, the body and the end line from these
-- offsets on
abbrev here : (at word end_word body end end_line : ℕ) → Redirect
here at word end_word body end end_line = redirect at None (Here (here_doc false (bare word end_word) (bare body end) (span end end_line)))

-- items on lines of their own, the last one asynchronous
abbrev pub lines_text : List ℕ
lines_text = codes "a;\n\n\nb &\n"

abbrev pub lines_script : Script
lines_script = script (item_of (utility 1 0 1) ∷ item (and_or (pipe false (utility 2 5 6 ∷ [])) []) true ∷ [])

-- here-documents that are pending after `&&` and `||`
abbrev pub linked_text : List ℕ
linked_text = codes "a <<E && b <<F || c\n1\nE\n2\nF\n"

abbrev pub linked_script : Script
linked_script = script (item (and_or (pipe false (simple 1 0 (element.Word (bare 0 1) ∷ element.Redirection (here 2 4 5 20 22 23) ∷ []) ∷ []))
    ((link.AndThen, pipe false (simple 2 9 (element.Word (bare 9 10) ∷ element.Redirection (here 11 13 14 24 26 27) ∷ []) ∷ []))
    ∷ (link.OrElse, pipe false (utility 3 18 19 ∷ [])) ∷ [])) false ∷ [])

-- one that is pending after `|`, in a pipeline with `!`
abbrev pub negated_text : List ℕ
negated_text = codes "! a <<E | b\n1\nE\n"

abbrev pub negated_script : Script
negated_script = script (item (and_or (pipe true (simple 1 2 (element.Word (bare 2 3) ∷ element.Redirection (here 4 6 7 12 14 15) ∷ []) ∷ utility 2 10 11 ∷ [])) []) false ∷ [])

-- one that is pending after a loop, and one inside it
abbrev pub looped_text : List ℕ
looped_text = codes "while read x; do y <<E; done <<F\n1\nE\n2\nF\n"

abbrev pub looped_script : Script
looped_script = lone (command 1 0 (kind.Loop loop.While (lone (simple 2 6 (element.Word (bare 6 10) ∷ element.Word (bare 11 12) ∷ [])))
    (lone (simple 3 17 (element.Word (bare 17 18) ∷ element.Redirection (here 19 21 22 33 35 36) ∷ [])))) (here 29 31 32 37 39 40 ∷ []))

-- one that is pending after a function definition
abbrev pub body_text : List ℕ
body_text = codes "f() { a; } >f <<E\n1\nE\n"

abbrev pub body_script : Script
body_script = lone (command 1 0 (kind.Define (span 0 1) (command 2 4 (kind.Group (lone (utility 3 6 7)))
    (redirect 11 None (File direction.Write (bare 12 13)) ∷ here 14 16 17 18 20 21 ∷ []))) [])

-- each way in which a clause ends
abbrev pub clauses_text : List ℕ
clauses_text = codes "case x in (a) b;& (c|d) e;; esac\n"

abbrev pub clauses_script : Script
clauses_script = lone (command 1 0 (kind.Branches (bare 5 6) (clause (bare 11 12 ∷ []) (lone (utility 2 14 15)) FallThrough
    ∷ clause (bare 19 20 ∷ bare 21 22 ∷ []) (lone (utility 3 24 25)) Break ∷ [])) [])

-- each tree prints so
pub record PrintsAsExpected : Type 0 where
  pub empty : canon l.comment_text (script []) ≡ []
  pub quoted : canon l.quoted_text l.quoted_script ≡ codes "echo \"$x\" 'a'\\b\n"
  pub home : canon l.home_text l.home_script ≡ codes "a=~/b:~ c\n"
  pub substituted : canon l.substituted_text l.substituted_script ≡ codes "echo \"$(echo a)\"\n"
  pub document : canon l.document_text l.document_script ≡ codes "cat << E\nx$y\nE\nb\n"
  pub stripped : canon l.stripped_text l.stripped_script ≡ codes "<<- E\n\ta\n\tE\n"
  pub branches : canon l.branch_text l.branch_script ≡ codes "if\n\ta\nthen\n\tb\nelse\n\tc\nfi\n"
  pub elif : canon l.elif_text l.elif_script ≡ codes "if\n\ta\nthen\n\tb\nelif\n\tc\nthen\n\td\nfi\n"
  pub until : canon l.until_text l.until_script ≡ codes "until\n\t(\n\t\ta\n\t) || b\ndo\n\tc\ndone\n"
  pub every : canon l.every_text l.every_script ≡ codes "for x\ndo\n\t~a\ndone\n"
  pub cases : canon l.case_text l.case_script ≡ codes "case a in\n\t(b | c)\n\t\td\n\t\t;;\n\t(*)\n\t\t;;\nesac\n"
  pub defined : canon l.defined_text l.defined_script ≡ codes "f()\n{\n\ta\n} > b && ! c | d &\n"
  pub closed : canon l.closed_text l.closed_script ≡ codes "{\n\t{\n\t\ta\n\t}\n}\n"
  pub while : canon c.while_text c.while_script ≡ codes "while\n\ta\ndo\n\tb\ndone\n"
  pub for_none : canon c.for_none_text c.for_none_script ≡ codes "for x in\ndo\n\ta\ndone\n"
  pub for_two : canon c.for_two_text c.for_two_script ≡ codes "for x in a b\ndo\n\tc\ndone\n"
  pub redirected : canon c.redirected_text c.redirected_script ≡ codes "< a > b >| c >> d <> e <& f >& g\n"
  pub numbered : canon c.numbered_text c.numbered_script ≡ codes "a 2> b\n"
  pub two_documents : canon d.two_documents_text d.two_documents_script ≡ codes "<< A << B\na\nA\nb\nB\n"
  pub group_document : canon d.group_document_text d.group_document_script ≡ codes "{\n\t<< E\na\nE\n}\n"
  pub inner_document : canon d.inner_document_text d.inner_document_script ≡ codes "$(<<E\na\nE\n)\n"
  pub piped_document : canon d.piped_document_text d.piped_document_script ≡ codes "<< E |\nb\nE\na\n"
  pub joined_end : canon d.joined_end_text d.joined_end_script ≡ codes "<< EF\na\nE\\\nF\n"
  pub unended_line : canon d.unended_line_text d.unended_line_script ≡ codes "<< E\na\nE\n"
  pub lines : canon lines_text lines_script ≡ codes "a\nb &\n"
  pub linked : canon linked_text linked_script ≡ codes "a << E &&\n1\nE\nb << F ||\n2\nF\nc\n"
  pub negated : canon negated_text negated_script ≡ codes "! a << E |\n1\nE\nb\n"
  pub looped : canon looped_text looped_script ≡ codes "while\n\tread x\ndo\n\ty << E\n1\nE\ndone << F\n2\nF\n"
  pub body : canon body_text body_script ≡ codes "f()\n{\n\ta\n} > f << E\n1\nE\n"
  pub clauses : canon clauses_text clauses_script ≡ codes "case x in\n\t(a)\n\t\tb\n\t\t;&\n\t(c | d)\n\t\te\n\t\t;;\nesac\n"
