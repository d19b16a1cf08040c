-- What is between the name of `for` and its `do`.
-- POSIX.1-2024, XCU 2.9.4.2 (for loop).
use Rattle.std.specs.Prelude.{◌≡◌, ℕ, false, List, Option, Some}
use Rattle.sh_tree.specs.declared.token.command.Reserved.TheVariants as word
use Rattle.sh_tree.specs.declared.tree.Word.{Word}
use Rattle.sh_tree.specs.standard.language.Commands.{separator, name_end}
use Rattle.sh_tree.specs.standard.language.Reading.{ReadsWords, ReadsForWords, ReadsBreaks, lead_here, parted}
use Rattle.sh_tree.specs.standard.language.States as states
use Rattle.sh_grammar.specs.declared.state.State.{State}
use Rattle.sh_grammar.specs.States.{here, moved}
use Rattle.sh_grammar.specs.Phrases.{entered}
use Rattle.sh_grammar.specs.Readers.{Reading}

abbrev pub WordsFrom : List ℕ → State → Reading (List Word)
WordsFrom b s limit v ws = ReadsWords limit b (here s) v ws

-- words, and the `;` or the newlines after them
abbrev pub ListedFrom : List ℕ → State → Reading (List Word)
ListedFrom b s limit v ws =
    (u : states.State) × ReadsWords limit b (here s) u ws × (separator (lead_here b u) ≡ Some false) × ReadsBreaks limit b (parted b u) v

abbrev pub ForWordsFrom : List ℕ → State → Reading (Option (List Word))
ForWordsFrom b s limit v o = ReadsForWords limit b (here s) v o

-- one level inside, after the name of the `for` at s
abbrev pub for_named : List ℕ → State → State
for_named b s = moved b (name_end b (entered b word.For s).at) (entered b word.For s)
