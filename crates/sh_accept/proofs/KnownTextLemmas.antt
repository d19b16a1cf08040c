-- The one reading of a known text, and that it is admitted, by computation.
use Rattle.std.proofs.Common.{◌≡◌, ℕ, ◌≤◌, false, List, [], ◌∷◌, length, codes, None, Ok, refl, sym, ap, ◌∙◌, subst, arith}
use Rattle.std.specs.Borrow.{Bor}
use Rattle.std.specs.List.{flat_map}
use Rattle.std.specs.List.Sorted.{IsPermutation}
use Rattle.std.proofs.lemmas.List.Sorted.{IsNonDecreasingBy-short, IsPermutation-refl}
use Rattle.sh_tree.specs.Answers.{IsText, Parses}
use Rattle.sh_tree.specs.Commands.{commands_of, of_script}
use Rattle.sh_tree.specs.declared.limits.TheConstants.{MAX_COMMANDS, MAX_NAMES}
use Rattle.sh_tree.specs.declared.tree.AndOr.{roll-AndOr}
use Rattle.sh_tree.specs.declared.tree.Command.{Command, out-Command, roll-Command}
use Rattle.sh_tree.specs.declared.tree.Element.TheVariants as element
use Rattle.sh_tree.specs.declared.tree.Element.TheBlock.{shape-the_row-Part-0, hidden-the_row-Part-0, shape-the_row-Element-3, hidden-the_row-Element-3, shape-the_row-AndOr-rest-2-8, hidden-the_row-AndOr-rest-2-8, shape-the_row-Redirect-9, hidden-the_row-Redirect-9, shape-the_row-Command-10, hidden-the_row-Command-10, shape-the_row-Item-11, hidden-the_row-Item-11}
use Rattle.sh_tree.specs.declared.tree.Item.{roll-Item}
use Rattle.sh_tree.specs.declared.tree.Part.{Part}
use Rattle.sh_tree.specs.declared.tree.Part.TheVariants as part
use Rattle.sh_tree.specs.declared.tree.Pipe.{roll-Pipe}
use Rattle.sh_tree.specs.declared.tree.Script.{Script, roll-Script}
use Rattle.sh_tree.specs.declared.tree.Subject.TheVariants.{Name}
use Rattle.sh_tree.specs.declared.token.command.Stage.TheVariants.{First, Named}
use Rattle.sh_tree.specs.declared.token.word.Sign.TheVariants as sign
use Rattle.sh_tree.specs.examples.Language.{plain, bare, value, simple, lone as lone_of, double_text, double_parts, double_words, double_script}
use Rattle.sh_tree.specs.standard.Words as words
use Rattle.sh_tree.specs.standard.Words.{escaped, escape_of}
use Rattle.sh_tree.specs.standard.language.Contexts.{in_word}
use Rattle.sh_tree.specs.standard.language.Reading as r
use Rattle.sh_tree.specs.standard.language.Reading.{Reads, ReadsWithin, ReadsParts, ReadsWord, ReadsElements, ReadsAndOr, stage_behind}
use Rattle.sh_tree.specs.standard.language.States.{Spot, past, closing, behind as spot_behind}
use Rattle.sh_tree.specs.standard.language.Trees.{span, word}
use Rattle.sh_tree.specs.standard.language.Words.{in_double}
use Rattle.sh_tree.specs.standard.program.Syntax.{Text}
use Rattle.sh_tree.specs.standard.program.Trees.{script_of, parameter_of, part_of}
use Rattle.sh_tree.proofs.Inversions.{PartIs, first_part, stopped, one_part_word}
use Rattle.sh_tree.proofs.LanguageLemmas.{computes as readings, read_to, at_word, at_token, no_bodies, alone_reads}
use Rattle.sh_runs.specs.Calls.{defined, with_name, names_of, functions_of, table_of}
use Rattle.sh_runs.specs.Profile.{first_refused}
use Rattle.sh_runs.specs.Sites.{form_of, site_of, placed as site_placed, by_number, sites_of}
use Rattle.sh_runs.proofs.ProfileLemmas.{computes as profile}
use Rattle.sh_domain.proofs.TextLemmas.{computes as texts}
use Rattle.sh_domain.specs.Admitted.{IsAdmitted, functions_in}
use Rattle.sh_domain.specs.Names.{IsNumbering}
use Rattle.sh_domain.specs.Reading.{AreLoops, kind_loops}
use Rattle.sh_domain.specs.Sights as sights
use Rattle.sh_domain.specs.examples.Programs.{names_in}
use Rattle.sh_domain.specs.Sights.{Sight, in_command}
use Rattle.sh_accept.specs.examples.Accepted.{with_x}
use Rattle.sh_accept.proofs.LoneReadingLemmas.{IsLast, lone_script, word_first, elements_none}

-- Its one reading

double_within : ReadsWithin double_text double_script
unfolding readings
double_within =
    let few : 1 ≤ MAX_COMMANDS = omega arith in
    let echo : ReadsWord 64 double_text (in_word 0) (at_word 0 1 0) (at_word 4 1 0) (bare 0 4) = r.whole_word (r.more refl r.plain (r.stop refl)) refl refl in
    let inner : ReadsParts 64 double_text (in_double (in_word 5)) 0 (at_word 6 1 0) (at_word 9 1 0) (value 6 8 ∷ []) = r.more refl r.value (r.stop refl) in
    let quoted : ReadsWord 64 double_text (in_word 5) (at_word 5 1 0) (at_word 9 1 0) (word 5 9 double_parts) =
    r.whole_word (r.more refl (r.double_quoted inner) (r.stop refl)) refl refl in
    let elements : ReadsElements 64 double_text no_bodies First (at_token 0 1 0) (at_token 9 1 0) double_words =
    r.word_element refl echo (r.word_element refl quoted (r.no_element refl)) in
    let list : ReadsAndOr 64 double_text no_bodies (at_token 0 0 0) (at_token 9 1 0) _ = alone_reads (r.simple_command refl elements) refl refl refl in
    (1, read_to double_text 64 (at_token 9 1 0) double_script refl (r.sequence (r.list (r.no_break refl) refl (r.last_item list refl refl))) refl refl, few)

-- what is in its double quotes
value_only : (limit : ℕ) (v : Spot) (q : Part) → PartIs limit double_text (in_word 5) sign.Double (at_word 5 1 0) 6 v q
    → (v ≡ at_word 9 1 0) × (q ≡ part.Double (span 5 9) (value 6 8 ∷ []))
unfolding readings
value_only limit v q is =
    let first = first_part (sign.Value (Name (span 7 8))) refl refl is.4 in
    let rest : ReadsParts limit double_text (in_double (in_word 5)) 0 (at_word 8 1 0) is.0 first.2 =
    subst (λ s. ReadsParts limit double_text (in_double (in_word 5)) 0 s is.0 first.2) first.4.0 first.5 in
    let end = stopped refl rest in
    let parts : is.1 ≡ value 6 8 ∷ [] = first.3 ∙ ap (λ p. p ∷ first.2) first.4.1 ∙ ap (λ ps. value 6 8 ∷ ps) end.1 in (
      is.2 ∙ ap (λ (u : Spot). spot_behind u.at u (at_word 5 1 0)) end.0,
      is.3 ∙ ap (λ (u : Spot). part.Double (span 5 u.at) is.1) end.0 ∙ ap (part.Double (span 5 9)) parts,
    )

double_only : (t : Script) → Reads double_text t → t ≡ double_script
unfolding readings
double_only t h =
    let limit = h.0 in
    let lone = lone_script refl h.2.script in
    let body = lone.0 in
    let echo = word_first refl lone.3 in
    let bare_word = one_part_word sign.Plain (plain 0 4) 4 refl refl (λ v p q. q) refl refl echo.4 in
    let rest : ReadsElements limit double_text body (Named false) (at_token 5 1 0) lone.1 echo.2 =
    subst (λ u. ReadsElements limit double_text body (Named false) (past double_text u (at_token 0 1 0)) lone.1 echo.2) bare_word.0 echo.5 in
    let quoted = word_first refl rest in
    let quoted_word = one_part_word sign.Double (part.Double (span 5 9) (value 6 8 ∷ [])) 9 refl refl (value_only limit) refl refl quoted.4 in
    let end : ReadsElements limit double_text body (Named false) (at_token 9 1 0) lone.1 quoted.2 =
    subst (λ u. ReadsElements limit double_text body (Named false) (past double_text u (at_token 5 1 0)) lone.1 quoted.2) quoted_word.0 quoted.5 in
    let none = elements_none refl end in
    let elements : lone.2 ≡ double_words = echo.3
    ∙ ap (λ w. element.Word w ∷ echo.2) bare_word.1
    ∙ ap (λ es. element.Word (bare 0 4) ∷ es)
    (quoted.3 ∙ ap (λ w. element.Word w ∷ quoted.2) quoted_word.1 ∙ ap (λ es. element.Word (word 5 9 double_parts) ∷ es) none.1) in
    lone.4 (subst (IsLast limit double_text body) (sym (ap (closing false) none.0)) (refl, refl, refl)) ∙ ap (λ es. lone_of (simple 1 0 es)) elements

double_is_text : IsText double_text
double_is_text = (omega arith, refl)

double_parses : Parses double_text (Ok double_script)
double_parses = (double_is_text, double_within, double_only)

-- Its names and its loops

-- what its tree computes
unfoldable pub computes : Unit {0}
unfolding of_script out-Command roll-Script roll-Item roll-AndOr roll-Pipe roll-Command denote.Hole.Carrier.out denote.Hole.Carrier.roll denote.Hole.Carrier.hidden denote.Hole.Carrier.shown shape-the_row-Part-0 hidden-the_row-Part-0 shape-the_row-Element-3 hidden-the_row-Element-3 shape-the_row-Command-10 hidden-the_row-Command-10 shape-the_row-Item-11 hidden-the_row-Item-11 shape-the_row-AndOr-rest-2-8 hidden-the_row-AndOr-rest-2-8 shape-the_row-Redirect-9 hidden-the_row-Redirect-9 sights.in_row sights.subject_sights sights.in_element sights.in_kind sights.operand_sights sights.by_name sights.named_sights words.form_of words.word_in words.static_text words.is_pattern words.has_wildcard words.has_bracket words.parts_text words.part_text kind_loops escaped escape_of parameter_of part_of defined with_name names_of functions_of table_of form_of site_of site_placed by_number sites_of profile
computes = tt

abbrev seen : List Sight
seen = record { at = 7; name = codes "x" } ∷ []

double_seen : flat_map (in_command double_text) (commands_of double_script) ≡ seen
unfolding computes
double_seen = refl

abbrev pub double_names : List Text
double_names = names_in (codes "IFS OPTIND PPID OPTARG ! x")

double_numbering : IsNumbering double_text double_script with_x double_names
unfolding texts
double_numbering = record {
  seen = seen;
  in_order = record {
    commands = commands_of double_script;
    all_commands = IsPermutation-refl (commands_of double_script);
    all = subst (IsPermutation (flat_map (in_command double_text) (commands_of double_script))) double_seen (IsPermutation-refl _);
    ordered = IsNonDecreasingBy-short (λ (x : Sight). x.at) seen (omega arith);
  };
  each_once = refl;
}

pub double_loops : AreLoops double_script (false ∷ [])
unfolding computes
double_loops =
    let lent : List (Bor Command) = record { ref_ptr = (0, 0); now = simple 1 0 double_words } ∷ [] in
    record {
      commands = lent;
      all = IsPermutation-refl (simple 1 0 double_words ∷ []);
      ordered = IsNonDecreasingBy-short (λ (c : Bor Command). (out-Command c.now).number) lent (omega arith);
      each = refl;
    }

double_profile : first_refused (script_of double_text double_script) ≡ None
unfolding computes
double_profile = refl

six_names : length double_names ≡ 6
unfolding texts
six_names = refl

pub double_admitted : IsAdmitted double_text with_x double_script double_names
double_admitted = record { reading = double_parses; profile = double_profile; numbered = (double_numbering, few) }
  where
    few : length double_names ≤ MAX_NAMES
    few = let six = six_names in omega arith

pub double_functions : functions_in double_text double_script ≡ []
unfolding computes
double_functions = refl
