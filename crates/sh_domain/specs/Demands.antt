-- The demands, as the list of the places where one is unmet, each once.
-- POSIX.1-2024, XCU 2.6 (word expansions), 2.9 (shell commands), 2.13 (shell execution
-- environment): the parts of a pipeline may share an environment, so none may drop what another
-- relies on.
use Rattle.std.specs.Prelude.{ℕ, Bool, true, false, not, ◌&&◌, if◌then◌else◌, List, [], ◌∷◌, ◌++◌, map, flat_map, fold, is_some}
use Rattle.sh_tree.specs.declared.place.Place.{Place}
use Rattle.sh_tree.specs.declared.place.Code.TheVariants.{P1, P2}
use Rattle.sh_tree.specs.standard.program.Syntax as p
use Rattle.sh_tree.specs.standard.program.Syntax.{Text, Word}
use Rattle.sh_runs.specs.declared.kind.Kind.{Kind}
use Rattle.sh_tree.specs.declared.known.KnownName.TheVariants as known
use Rattle.sh_tree.specs.standard.program.Words.{operands_in}
use Rattle.sh_runs.specs.declared.kind.Kind.TheVariants as kind
use Rattle.sh_runs.specs.standard.runs.Environment.{is_one_of}
use Rattle.sh_domain.specs.Entries.{Entered, script_entered}
use Rattle.sh_domain.specs.Facts.{Facts, facts, claims, Nowhere}
use Rattle.sh_domain.specs.Gains.{with_gains, through, words_gains, redirects_gains}
use Rattle.sh_domain.specs.Needs.{word_unmet, words_unmet, patterns_unmet, redirect_unmet, redirects_unmet}
use Rattle.sh_domain.specs.Operands.{Names, positional_words}
use Rattle.sh_domain.specs.Rules.{functions_of, losses}
use Rattle.sh_domain.specs.Table.{Manner, Utility, manner}
use Rattle.sh_domain.specs.Views.{Certificate, Before, Loss, lost}

-- U1 to U3: the parameters, tildes and names of arithmetic in the words of a command

-- the words of a simple command one after the other, and after them each redirection and each value
-- by itself
unfoldable pub elements_unmet : Facts → Facts → p.Elements → List Place
elements_unmet f behind p.no_elements = []
elements_unmet f behind (p.assignment name value es) = word_unmet behind value ++ elements_unmet f behind es
elements_unmet f behind (p.operand w es) = word_unmet f w ++ elements_unmet (through w f) behind es
elements_unmet f behind (p.redirection r es) = redirect_unmet behind r ++ elements_unmet f behind es

unfoldable pub clauses_unmet : Facts → p.Clauses → List Place
clauses_unmet f p.no_clauses = []
clauses_unmet f (p.more_clauses patterns body end rest) = patterns_unmet f patterns ++ clauses_unmet f rest

unfoldable pub for_words_unmet : Facts → p.ForWords → List Place
for_words_unmet f p.every_parameter = []
for_words_unmet f (p.listed ws) = words_unmet f ws

-- in a command's own words, after its redirections; the commands in it have demands of their own
unfoldable pub kind_unmet : Facts → p.Kind → List Place
kind_unmet f (p.Simple es) = elements_unmet f (with_gains (words_gains (operands_in es)) f) es
kind_unmet f (p.For name ws body) = for_words_unmet f ws
kind_unmet f (p.Case w cs) = word_unmet f w ++ clauses_unmet (through w f) cs
kind_unmet f _ = []

-- P1: what a command in a part of a pipeline may drop

unfoldable pub with_text : List Text → Text → List Text
with_text names t = if is_one_of names t then names else names ++ t ∷ []

-- variables and functions, each name once
abbrev pub each_once : List Names → List Text
each_once losses = fold with_text [] (flat_map (λ l. l.vars ++ l.functions) losses)

-- the names that a command drops
abbrev pub dropped : Facts → Certificate → ℕ → List Loss → List Text
dropped start c n ls = each_once (map (lost start c n) ls)

-- P2: a command that changes the positional parameters

unfoldable pub kind_moves : Kind → List Word → Bool
kind_moves (kind.Special known.Shift) ws = true
kind_moves (kind.Special known.Set) ws = is_some (positional_words ws)
kind_moves _ ws = false

unfoldable pub moves : Manner → Bool
moves (Utility kind ws) = kind_moves kind ws
moves _ = false

unfoldable pub command_moves : List Text → p.Kind → Bool
command_moves functions (p.Simple es) = moves (manner functions es)
command_moves functions _ = false

-- a place at the start of a command
abbrev pub drop_at : ℕ → Text → Place
drop_at at name = record { at = at; code = P1; subject = name }

unfoldable pub move_at : ℕ → Bool → List Place
move_at at false = []
move_at at true = record { at = at; code = P2; subject = [] } ∷ []

-- some run comes there
unfoldable pub is_reached : Facts → Bool
is_reached f = not (claims f Nowhere)

-- P1 and P2 of the command n that is there, in a part of a pipeline
unfoldable pub shared_unmet : Facts → Certificate → List Text → Entered → ℕ → ℕ → p.Kind → List Place
shared_unmet start c functions e n at kind =
    map (drop_at at) (dropped start c n (losses functions e)) ++ move_at at (command_moves functions kind && is_reached (facts (c.claim (Before n))))

-- of a command
unfoldable pub unmet : Facts → Certificate → List Text → Entered → List Place
unmet start c functions e = of_command e.command
  where
    of_command : p.Command → List Place
    of_command (p.command n at kind rs) =
        redirects_unmet (facts (c.claim (Before n))) rs
        ++ kind_unmet (with_gains (redirects_gains rs) (facts (c.claim (Before n)))) kind
        ++ (if e.around.shares then shared_unmet start c functions e n at kind else [])

-- of a script
unfoldable pub demands : Facts → Certificate → p.Items → List Place
demands start c t = flat_map (unmet start c (functions_of (script_entered t))) (script_entered t)
