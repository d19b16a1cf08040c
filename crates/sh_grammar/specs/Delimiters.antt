-- The words after the operators of here-documents.
-- POSIX.1-2024, XCU 2.7.4 (here-document).
use Rattle.std.specs.Prelude.{◌≡◌, ℕ, Bool, true, if◌then◌else◌, List, Option, Some, None, Result, Ok, Err}
use Rattle.sh_tree.specs.declared.refusal.Form.TheVariants as form
use Rattle.sh_tree.specs.declared.refusal.Refusal.{Refusal}
use Rattle.sh_tree.specs.declared.refusal.Refusal.TheVariants.{LeftOut, Memory}
use Rattle.sh_tree.specs.declared.tree.Word.{Word}
use Rattle.sh_tree.specs.standard.language.HereDocuments.{is_delimiter, delimiter_of}
use Rattle.sh_tree.specs.standard.language.Parts.{is_quoted_word}
use Rattle.sh_grammar.specs.declared.mark.Mark.{Mark}
use Rattle.sh_grammar.specs.Marks.{mark_of}
use Rattle.sh_grammar.specs.Readers.{Reading, Refused}

-- the delimiter of the word, if it is one
abbrev pub delimiter_in : List ℕ → Word → Option (List ℕ)
delimiter_in b w = if is_delimiter b w then Some (delimiter_of b w) else None

-- the word is a delimiter, whatever follows it
abbrev pub DelimiterIn : List ℕ → Word → Reading (Unit {0})
DelimiterIn b w limit v x = is_delimiter b w ≡ true

-- the here-document with the operator at i, at a depth of n open levels, that ends with the word;
-- or that the word is no delimiter
abbrev pub Awaits : List ℕ → ℕ → Bool → Word → ℕ → Result Mark Refusal → Type 0
Awaits b i strip w n (Ok m) =
    (m.at ≡ i) × (is_delimiter b w ≡ true) × (mark_of m ≡ record { strip = strip; quoted = is_quoted_word w; delimiter = delimiter_of b w; depth = n })
Awaits b i strip w n (Err e) = Refused b (DelimiterIn b w) e

-- what is reported of a word that is no delimiter
abbrev pub TellsDelimiter : Word → Refusal → Type 0
TellsDelimiter w Memory = Unit {0}
TellsDelimiter w e = e ≡ LeftOut form.HereWord w.span.start
