-- Words of a program that is formed give fields; so it is of every script that is read, and its
-- runs have rows.
use Rattle.std.proofs.Common.{◌≡◌, Bool, true, false, not, ◌&&◌, ◌||◌, if◌then◌else◌, None, is_some, List, [], ◌∷◌, refl}
use Rattle.std.specs.List.{list_all}
use Rattle.std.proofs.lemmas.Bool.{and_parts, and_from}
use Rattle.sh_tree.specs.standard.language.Bytes.{is_name}
use Rattle.sh_tree.specs.standard.program.Syntax as p
use Rattle.sh_tree.specs.standard.program.Trees.{script_of}
use Rattle.sh_tree.specs.standard.program.Words.{is_pattern, word_text, static_of, words_in, operands_in}
use Rattle.sh_runs.specs.Counts.{some_gives_field}
use Rattle.sh_runs.specs.Rows.{text_gives_field, kind_gives_fields, command_gives_fields, gives_fields}
use Rattle.sh_runs.specs.Surroundings.{Located, outside, items_located}
use Rattle.sh_runs.proofs.RowLemmas.{rows_are_there}
use Rattle.sh_domain.specs.Inclusions.{word_formed, field_formed, elements_formed, redirect_formed, redirects_formed, kind_formed, command_formed, is_formed}
use Rattle.sh_domain.specs.Readings.{ReadGivesFields, ReadHasRows}
use Rattle.sh_domain.specs.Table.{is_redirected}
use Rattle.sh_domain.proofs.ReadLemmas.{read_formed}

field_given : (w : p.Word) → field_formed w ≡ true → text_gives_field w ≡ true
unfolding text_gives_field static_of
field_given w h = go (is_pattern w) (and_parts (word_formed w) (not (is_some (word_text w)) || some_gives_field w) h).1
  where
    go : (b : Bool) → (not (is_some (word_text w)) || some_gives_field w) ≡ true → (not (is_some (if b then None else word_text w)) || some_gives_field w) ≡ true
    go true k = refl
    go false k = k

elements_given : (es : p.Elements) → elements_formed es ≡ true → list_all text_gives_field (words_in (operands_in es)) ≡ true
unfolding elements_formed operands_in words_in
elements_given p.no_elements h = refl
elements_given (p.assignment name value es) h = elements_given es (and_parts (is_name name && word_formed value) (elements_formed es) h).1
elements_given (p.operand w es) h =
    let parts = and_parts (field_formed w) (elements_formed es) h in
    and_from (text_gives_field w) (list_all text_gives_field (words_in (operands_in es))) (field_given w parts.0) (elements_given es parts.1)
elements_given (p.redirection r es) h = elements_given es (and_parts (redirect_formed r) (elements_formed es) h).1

command_given : (c : p.Command) → command_formed c ≡ true → command_gives_fields c ≡ true
unfolding command_formed kind_formed command_gives_fields kind_gives_fields
command_given (p.command n offset (p.Simple es) rs) h =
    elements_given es (and_parts (elements_formed es) (not (is_redirected rs)) (and_parts (elements_formed es && not (is_redirected rs)) (redirects_formed rs) h).0).0
command_given (p.command n offset (p.Group list) rs) h = refl
command_given (p.command n offset (p.Subshell list) rs) h = refl
command_given (p.command n offset (p.Conditional parts otherwise) rs) h = refl
command_given (p.command n offset (p.Loop kind condition body) rs) h = refl
command_given (p.command n offset (p.For name ws body) rs) h = refl
command_given (p.command n offset (p.Case w cs) rs) h = refl
command_given (p.command n offset (p.Define name body) rs) h = refl

all_given : (ls : List Located) → list_all (λ (l : Located). command_formed l.command) ls ≡ true → list_all (λ (l : Located). command_gives_fields l.command) ls ≡ true
all_given [] h = refl
all_given (l ∷ ls) h =
    let parts = and_parts (command_formed l.command) (list_all (λ (l : Located). command_formed l.command) ls) h in
    and_from (command_gives_fields l.command) (list_all (λ (l : Located). command_gives_fields l.command) ls) (command_given l.command parts.0) (all_given ls parts.1)

pub formed_gives_fields : (t : p.Items) → is_formed t ≡ true → gives_fields t ≡ true
formed_gives_fields t formed = all_given (items_located outside t) formed

pub read_gives_fields : ReadGivesFields
read_gives_fields b t reads = formed_gives_fields (script_of b t) (read_formed b t reads)

pub read_has_rows : ReadHasRows
read_has_rows b t reads admitted e f moves w none runs = rows_are_there (script_of b t) e f moves w admitted (read_gives_fields b t reads) none runs
