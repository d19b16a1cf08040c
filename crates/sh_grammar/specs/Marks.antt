-- Here-documents that wait, as the reading says them.
-- POSIX.1-2024, XCU 2.7.4 (here-document).
use Rattle.sh_tree.specs.standard.language.HereDocuments as documents
use Rattle.sh_grammar.specs.declared.mark.Mark.{Mark}

-- a here-document that waits for its body
abbrev pub mark_of : Mark → documents.Mark
mark_of m = record { strip = m.strip; quoted = m.quoted; delimiter = m.delimiter.items; depth = m.depth }
