-- What is judged of a command's own words, after its redirections. The commands in them are judged
-- for themselves.
-- POSIX.1-2024, XCU 2.7 (redirection), 2.9.1 (simple commands), 2.9.4 (compound commands).
use Rattle.std.specs.Prelude.{List}
use Rattle.sh_tree.specs.declared.place.Place.{Place}
use Rattle.sh_tree.specs.standard.program.Syntax as p
use Rattle.sh_tree.specs.standard.program.Words.{operands_in}
use Rattle.sh_domain.specs.Gains.{words_gains}
use Rattle.sh_gains.specs.Knowing.{Knowing, gained}
use Rattle.sh_demands.specs.Judged.{Judged, judged, aside, word_judged}

-- by what is known at another place
abbrev pub beside : Knowing → (Judged → Judged) → Judged → Judged
beside k judge s = aside s (judge (judged k s.places))

-- words one after the other
unfoldable pub words_judged : Judged → p.Words → Judged
words_judged s p.no_words = s
words_judged s (p.more_words w ws) = words_judged (word_judged s w) ws

-- words that are each judged by itself
unfoldable pub patterns_judged : Judged → p.Words → Judged
patterns_judged s p.no_words = s
patterns_judged s (p.more_words w ws) = patterns_judged (aside s (word_judged s w)) ws

unfoldable pub redirect_judged : Judged → p.Redirect → Judged
redirect_judged s (p.File w) = word_judged s w
redirect_judged s (p.Here w) = word_judged s w

unfoldable pub redirects_judged : Judged → p.Redirects → Judged
redirects_judged s p.no_redirects = s
redirects_judged s (p.more_redirects r rs) = redirects_judged (redirect_judged s r) rs

-- the words of a simple command one after the other, and by what is known after them each
-- redirection and each value
unfoldable pub elements_judged : Knowing → Judged → p.Elements → Judged
elements_judged k s p.no_elements = s
elements_judged k s (p.assignment name value es) = elements_judged k (beside k (λ t. word_judged t value) s) es
elements_judged k s (p.operand w es) = elements_judged k (word_judged s w) es
elements_judged k s (p.redirection r es) = elements_judged k (beside k (λ t. redirect_judged t r) s) es

unfoldable pub clauses_judged : Judged → p.Clauses → Judged
clauses_judged s p.no_clauses = s
clauses_judged s (p.more_clauses patterns body end rest) = clauses_judged (patterns_judged s patterns) rest

unfoldable pub for_words_judged : Judged → p.ForWords → Judged
for_words_judged s p.every_parameter = s
for_words_judged s (p.listed ws) = words_judged s ws

unfoldable pub kind_judged : Judged → p.Kind → Judged
kind_judged s (p.Simple es) = elements_judged (gained (words_gains (operands_in es)) s.known) s es
kind_judged s (p.For name ws body) = for_words_judged s ws
kind_judged s (p.Case w cs) = clauses_judged (word_judged s w) cs
kind_judged s _ = s

-- the places of a command before which this is known
abbrev pub own_places : Knowing → List Place → p.Kind → p.Redirects → List Place
own_places k ps kind rs = (kind_judged (redirects_judged (judged k ps) rs) kind).places
