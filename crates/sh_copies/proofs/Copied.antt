-- Whole words and here-documents are read alike wherever their bytes are.
-- POSIX.1-2024, XCU 2.3 (token recognition), 2.7.4 (here-document).
use Rattle.sh_copies.specs.Copied.{WordsAreCopied}
use Rattle.sh_copies.proofs.CopiedMarks.{mark_copied}
use Rattle.sh_copies.proofs.CopiedTokens.{token_copied}
use Rattle.sh_copies.proofs.LinesDocuments.{document_copied}
use Rattle.sh_copies.proofs.Readings.{parts_all_move}
use Rattle.sh_copies.proofs.WordsCopied.{word_copied}

pub words_are_copied : WordsAreCopied
words_are_copied = record { words = word_copied; tokens = token_copied; marks = mark_copied; documents = λ limit commands. document_copied limit commands (parts_all_move limit) }
