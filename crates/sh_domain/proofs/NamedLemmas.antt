-- If a command of a program is formed, each name that is seen in its tree is a name.
use Rattle.std.proofs.Common.{◌≡◌, ℕ, ◌==◌, ◌≤◌, Bool, true, false, not, ◌&&◌, ◌||◌, nat_lt, if◌then◌else◌, List, [], ◌∷◌, ◌++◌, length, take, Option, Some, None, flat_map, refl, sym, ap, ◌∙◌, subst, arith}
use Rattle.std.specs.List.{list_all}
use Rattle.std.specs.Prelude.{codes}
use Rattle.std.specs.Str.{bytes_eq}
use Rattle.std.proofs.lemmas.Bool.{and_parts, and_from}
use Rattle.std.proofs.lemmas.List.{take_all}
use Rattle.std.proofs.lemmas.List.Folds.{list_all-append}
use mathlib.Core.Former.{none_left, one_more}
use Rattle.sh_tree.specs.declared.tree.Clause.{Clause, out-Clause}
use Rattle.sh_tree.specs.declared.tree.Command.{Command, out-Command}
use Rattle.sh_tree.specs.declared.tree.Element.{Assignment', Word', Redirection'}
use Rattle.sh_tree.specs.declared.tree.Expr.{Expr, Variable, Expansion, Parenthesis', Unary', Chain', Choice', Assign', Row_of-Expr, end_of-Expr, more_of-Expr, Row_of-Expr-Chain-1-2, end_of-Expr-Chain-1-2, more_of-Expr-Chain-1-2}
use Rattle.sh_tree.specs.declared.tree.Kind.{Kind, Simple', For', Branches', Define', Held-Kind-For-1, Kind-For-1-None', Kind-For-1-Some', Row_of-Element, end_of-Element, more_of-Element, items-the_row-Element, items-the_row-Word, items-the_row-Clause}
use Rattle.sh_tree.specs.declared.tree.ParameterOperator.{ParameterOperator, Use', Remove'}
use Rattle.sh_tree.specs.declared.tree.Part.{Part, Plain, Double', Param', Arith', Row_of-Part, end_of-Part, more_of-Part}
use Rattle.sh_tree.specs.declared.tree.Redirect.{Redirect}
use Rattle.sh_tree.specs.declared.tree.Subject.{Subject}
use Rattle.sh_tree.specs.declared.tree.Subject.TheVariants as subject
use Rattle.sh_tree.specs.declared.tree.Target.{Target, File', Here'}
use Rattle.sh_tree.specs.declared.tree.Word.{Word}
use Rattle.sh_tree.specs.standard.Tree.{text_of}
use Rattle.sh_tree.specs.standard.Words.{words_of}
use Rattle.sh_tree.specs.standard.language.Bytes.{is_name, is_name_start, is_name_byte, is_first, name_length, run}
use Rattle.sh_tree.specs.standard.language.Commands.{is_assignment}
use Rattle.sh_tree.specs.Lists.{parts_from, words_from, redirects_from, clauses_from}
use Rattle.sh_tree.specs.standard.program.Syntax as p
use Rattle.sh_tree.specs.standard.program.Syntax.{Text}
use Rattle.sh_tree.specs.standard.program.Trees as trees
use Rattle.sh_tree.proofs.ProgramRules as rules
use Rattle.sh_domain.specs.Inclusions.{parameter_formed, part_formed, word_formed, operator_formed, expression_formed, operands_formed, field_formed, fields_formed, words_formed, redirect_formed, redirects_formed, elements_formed, for_words_formed, clauses_formed, kind_formed, command_formed}
use Rattle.sh_domain.specs.Sights.{Sight, sight, subject_sights, in_row, in_part, in_operator, in_box, in_chain, in_expression, in_word, in_target, in_redirect, in_element, in_clause, in_list, in_kind, in_command, that_are_names, if_name, names_behind, second_sights, named_by, getopts_sights, front_sights, assigned_in, assigned_sights, assigned_sight, static_sights, behind_options, unset_sights, read_behind, read_sights, named_sights, by_name, operand_sights}
use Rattle.sh_domain.specs.Table.{is_redirected}
use Rattle.sh_reads.proofs.FrontLemmas.{Stands, name_run, name_stands, run_within, stands_text}

-- each of these is a name
abbrev pub Named : List Sight → Type 0
Named ss = list_all (λ (s : Sight). is_name s.name) ss ≡ true

join : (ss ts : List Sight) → Named ss → Named ts → Named (ss ++ ts)
join ss ts h k = list_all-append (λ (s : Sight). is_name s.name) ss ts ∙ and_from _ _ h k

first : (s : Sight) (ss : List Sight) → is_name s.name ≡ true → Named ss → Named (s ∷ ss)
first s ss h k = and_from (is_name s.name) (list_all (λ (x : Sight). is_name x.name) ss) h k

either : (t : Bool) (ss ts : List Sight) → (t ≡ true → Named ss) → Named ts → Named (if t then ss else ts)
either true ss ts h k = h refl
either false ss ts h k = k

-- Operands

chosen_named : (xs : List Sight) → Named (that_are_names xs)
chosen_named [] = refl
chosen_named (x ∷ xs) = join (if_name x) (that_are_names xs) (either (is_name x.name) (x ∷ []) [] (λ h. first x [] h refl) refl) (chosen_named xs)

behind_named : (o : Option (List Sight)) → Named (names_behind o)
unfolding names_behind
behind_named None = refl
behind_named (Some xs) = chosen_named xs

second_named : (at : ℕ) (o q : Option Text) → Named (named_by at o q)
unfolding named_by second_sights
second_named at None q = refl
second_named at (Some t) None = refl
second_named at (Some t) (Some name) =
    either _ (record { at = at; name = name } ∷ []) [] (λ h. first (record { at = at; name = name }) [] (and_parts (is_name name) _ h).0 refl) refl

begins : (t : Text) → is_assignment t ≡ true → is_first is_name_start t ≡ true
unfolding is_assignment name_length
begins t h = go (is_first is_name_start t) (and_parts (not (name_length t == 0)) _ h).0
  where
    go : (q : Bool) → not ((if q then run is_name_byte t else 0) == 0) ≡ true → q ≡ true
    go true h = refl
    go false h = h

-- what is before the `=` of an assignment
front_is_name : (t : Text) → is_assignment t ≡ true → is_name (take (name_length t) t) ≡ true
front_is_name t h =
    let first = begins t h in
    let stands : Stands t 0 t = (length t, sym (take_all (length t) t (omega arith))) in
    let within : name_length t ≤ length t = subst (λ n. n ≤ length t) (sym (name_run t first)) (run_within is_name_byte t) in
    subst (λ u. is_name u ≡ true) (stands_text t 0 (name_length t) t stands within) (name_stands t 0 t stands first)

front_named : (at : ℕ) (t : Text) → Named (front_sights at t)
unfolding front_sights
front_named at t =
    either (is_assignment t) (record { at = at; name = take (name_length t) t } ∷ []) []
    (λ h. first (record { at = at; name = take (name_length t) t }) [] (front_is_name t h) refl) refl

module _ (b : List ℕ) where
  getopts_named : (ws : List Word) → Named (getopts_sights b ws)
  unfolding getopts_sights
  getopts_named [] = refl
  getopts_named (w ∷ []) = refl
  getopts_named (w ∷ v ∷ ws) = second_named v.span.start _ _

  part_assigned : (w : Word) (ps : List Part) → Named (assigned_in b w ps)
  unfolding assigned_in
  part_assigned w [] = refl
  part_assigned w (Plain s ∷ ps) = front_named w.span.start (text_of b s)
  part_assigned w (x ∷ ps) = refl

  assigned_named : (ws : List Word) → Named (assigned_sights b ws)
  assigned_named [] = refl
  assigned_named (w ∷ ws) = join (assigned_sight b w) (assigned_sights b ws) (part_assigned w w.parts) (assigned_named ws)

  read_named : (ws : List Word) → Named (read_sights b ws)
  read_named ws =
      let behind = read_behind false (static_sights b ws) in
      either (nat_lt (length (static_sights b ws)) (length ws)) [] (names_behind behind) (λ h. refl) (behind_named behind)

  named_named : (t : Text) (ws : List Word) → Named (named_sights b t ws)
  unfolding named_sights
  named_named t ws =
      let exports = bytes_eq (codes "export") t || bytes_eq (codes "readonly") t in
      let declares = if exports then assigned_sights b ws else [] in
      let takes = if bytes_eq (codes "getopts") t then getopts_sights b ws else declares in
      let reads = if bytes_eq (codes "read") t then read_sights b ws else takes in
      either (bytes_eq (codes "unset") t) (unset_sights b ws) reads (λ h. chosen_named (behind_options (static_sights b ws)))
      (either (bytes_eq (codes "read") t) (read_sights b ws) takes (λ h. read_named ws)
      (either (bytes_eq (codes "getopts") t) (getopts_sights b ws) declares (λ h. getopts_named ws)
      (either exports (assigned_sights b ws) [] (λ h. assigned_named ws) refl)))

  by_name_named : (o : Option Text) (ws : List Word) → Named (by_name b o ws)
  unfolding by_name
  by_name_named None ws = refl
  by_name_named (Some t) ws = named_named t ws

  operands_named : (ws : List Word) → Named (operand_sights b ws)
  unfolding operand_sights
  operands_named [] = refl
  operands_named (w ∷ ws) = by_name_named _ ws

  -- Words

  subject_named : (x : Subject) → parameter_formed (trees.parameter_of b x) ≡ true → Named (subject_sights b x)
  unfolding subject_sights trees.parameter_of parameter_formed
  subject_named (subject.Name s) h = first (sight b s) [] h refl
  subject_named (subject.Positional n s) h = refl
  subject_named (subject.Special c s) h = refl

  mutual
    unfolding in_row trees.part_of part_formed

    row_named : {m : _} (row : Row_of-Part m) → word_formed (trees.word_of b row) ≡ true → Named (in_row b row)
    row_named end_of-Part h = refl
    row_named (more_of-Part x rest) h =
        let both = and_parts (part_formed (trees.part_of b x)) (word_formed (trees.word_of b rest)) h in
        join (in_part b x) (in_row b rest) (part_named x both.0) (row_named rest both.1)

    part_named : (x : Part) → part_formed (trees.part_of b x) ≡ true → Named (in_part b x)
    part_named (Double' span shape parts) h = row_named parts h
    part_named (Param' span x operator) h =
        let both = and_parts (parameter_formed (trees.parameter_of b x)) (operator_formed (trees.operator_of b operator)) h in
        join (subject_sights b x) (in_operator b operator) (subject_named x both.0) (operator_named operator both.1)
    part_named (Arith' span shape expression) h = box_named expression h
    part_named _ h = refl

    operator_named : (o : ParameterOperator) → operator_formed (trees.operator_of b o) ≡ true → Named (in_operator b o)
    operator_named (Use' action colon span shape parts) h = row_named parts h
    operator_named (Remove' removal span shape parts) h = row_named parts h
    operator_named _ h = refl

    box_named : (row : Row_of-Expr (one_more none_left)) → expression_formed (trees.held_of b row) ≡ true → Named (in_box b row)
    box_named (more_of-Expr e end_of-Expr) h = join (in_expression b e) [] (expression_named e h) refl

    chain_named : {m : _} (row : Row_of-Expr-Chain-1-2 m) → operands_formed (trees.operands_of b row) ≡ true → Named (in_chain b row)
    chain_named end_of-Expr-Chain-1-2 h = refl
    chain_named (more_of-Expr-Chain-1-2 operator e rest) h =
        let both = and_parts (expression_formed (trees.expression_of b e)) (operands_formed (trees.operands_of b rest)) h in
        join (in_expression b e) (in_chain b rest) (expression_named e both.0) (chain_named rest both.1)

    expression_named : (e : Expr) → expression_formed (trees.expression_of b e) ≡ true → Named (in_expression b e)
    expression_named (Variable s) h = first (sight b s) [] h refl
    expression_named (Expansion x) h = part_named x h
    expression_named (Parenthesis' shape e) h = box_named e h
    expression_named (Unary' operator shape e) h = box_named e h
    expression_named (Chain' shape front shape' rest) h =
        let both = and_parts (expression_formed (trees.held_of b front)) (operands_formed (trees.operands_of b rest)) h in
        join (in_box b front) (in_chain b rest) (box_named front both.0) (chain_named rest both.1)
    expression_named (Choice' s condition s' then_one s'' else_one) h =
        let all = and_parts (expression_formed (trees.held_of b condition) && expression_formed (trees.held_of b then_one)) (expression_formed (trees.held_of b else_one)) h in
        let two = and_parts (expression_formed (trees.held_of b condition)) (expression_formed (trees.held_of b then_one)) all.0 in
        join (in_box b condition ++ in_box b then_one) (in_box b else_one)
        (join (in_box b condition) (in_box b then_one) (box_named condition two.0) (box_named then_one two.1)) (box_named else_one all.1)
    expression_named (Assign' name operator shape e) h =
        let both = and_parts (is_name (text_of b name)) (expression_formed (trees.held_of b e)) h in
        first (sight b name) (in_box b e) both.0 (box_named e both.1)
    expression_named _ h = refl

  -- Lists

  word_named : (ps : List Part) → word_formed (parts_from b ps) ≡ true → Named (flat_map (in_part b) ps)
  unfolding parts_from part_formed
  word_named [] h = refl
  word_named (x ∷ xs) h =
      let both = and_parts (part_formed (trees.part_of b x)) (word_formed (parts_from b xs)) h in
      join (in_part b x) (flat_map (in_part b) xs) (part_named x both.0) (word_named xs both.1)

  words_named : (ws : List Word) → words_formed (words_from b ws) ≡ true → Named (flat_map (in_word b) ws)
  unfolding words_from words_formed
  words_named [] h = refl
  words_named (w ∷ ws) h =
      let both = and_parts (word_formed (parts_from b w.parts)) (words_formed (words_from b ws)) h in
      join (in_word b w) (flat_map (in_word b) ws) (word_named w.parts both.0) (words_named ws both.1)

  fields_named : (ws : List Word) → fields_formed (words_from b ws) ≡ true → Named (flat_map (in_word b) ws)
  unfolding words_from fields_formed
  fields_named [] h = refl
  fields_named (w ∷ ws) h =
      let both = and_parts (field_formed (parts_from b w.parts)) (fields_formed (words_from b ws)) h in
      let word = and_parts (word_formed (parts_from b w.parts)) _ both.0 in
      join (in_word b w) (flat_map (in_word b) ws) (word_named w.parts word.0) (fields_named ws both.1)

  target_named : (t : Target) → redirect_formed (trees.target_of b t) ≡ true → Named (in_target b t)
  unfolding in_target trees.part_of redirect_formed
  target_named (File' direction span shape parts) h = row_named parts h
  target_named (Here' strip span shape delimiter span' shape' body end) h = row_named body h

  redirects_named : (rs : List Redirect) → redirects_formed (redirects_from b rs) ≡ true → Named (flat_map (in_redirect b) rs)
  unfolding redirects_from redirects_formed
  redirects_named [] h = refl
  redirects_named (r ∷ rs) h =
      let both = and_parts (redirect_formed (trees.target_of b r.target)) (redirects_formed (redirects_from b rs)) h in
      join (in_redirect b r) (flat_map (in_redirect b) rs) (target_named r.target both.0) (redirects_named rs both.1)

  clauses_named : (cs : List Clause) → clauses_formed (clauses_from b cs) ≡ true → Named (flat_map (in_clause b) cs)
  unfolding clauses_from clauses_formed
  clauses_named [] h = refl
  clauses_named (c ∷ cs) h =
      let both = and_parts (words_formed (words_from b (out-Clause c).patterns)) (clauses_formed (clauses_from b cs)) h in
      join (in_clause b c) (flat_map (in_clause b) cs) (words_named (out-Clause c).patterns both.0) (clauses_named cs both.1)

  elements_named : {m : _} (row : Row_of-Element m) → elements_formed (trees.elements_of b row) ≡ true → Named (flat_map (in_element b) (items-the_row-Element _ row))
  unfolding in_element trees.part_of elements_formed
  elements_named end_of-Element h = refl
  elements_named (more_of-Element (Assignment' name span shape parts) rest) h =
      let all = and_parts (is_name (text_of b name) && word_formed (trees.word_of b parts)) (elements_formed (trees.elements_of b rest)) h in
      let one = and_parts (is_name (text_of b name)) (word_formed (trees.word_of b parts)) all.0 in
      join (sight b name ∷ in_row b parts) (flat_map (in_element b) (items-the_row-Element _ rest)) (first (sight b name) (in_row b parts) one.0 (row_named parts one.1))
      (elements_named rest all.1)
  elements_named (more_of-Element (Word' span shape parts) rest) h =
      let all = and_parts (field_formed (trees.word_of b parts)) (elements_formed (trees.elements_of b rest)) h in
      let one = and_parts (word_formed (trees.word_of b parts)) _ all.0 in
      join (in_row b parts) (flat_map (in_element b) (items-the_row-Element _ rest)) (row_named parts one.0) (elements_named rest all.1)
  elements_named (more_of-Element (Redirection' at number target) rest) h =
      let all = and_parts (redirect_formed (trees.target_of b target)) (elements_formed (trees.elements_of b rest)) h in
      join (in_target b target) (flat_map (in_element b) (items-the_row-Element _ rest)) (target_named target all.0) (elements_named rest all.1)

  list_named : (o : Held-Kind-For-1) → for_words_formed (trees.for_words_of b o) ≡ true → Named (in_list b o)
  unfolding in_list trees.part_of for_words_formed
  list_named Kind-For-1-None' h = refl
  list_named (Kind-For-1-Some' shape row) h = fields_named (items-the_row-Word _ row) (ap fields_formed (sym (rules.words_listed b row)) ∙ h)

  -- Commands

  kind_named : (k : Kind) (rs : p.Redirects) → kind_formed (trees.kind_of b k) rs ≡ true → Named (in_kind b k)
  unfolding in_kind trees.part_of kind_formed
  kind_named (Simple' shape row) rs h =
      let both = and_parts (elements_formed (trees.elements_of b row)) (not (is_redirected rs)) h in
      join (flat_map (in_element b) (items-the_row-Element _ row)) (operand_sights b (words_of (items-the_row-Element _ row))) (elements_named row both.0)
      (operands_named (words_of (items-the_row-Element _ row)))
  kind_named (For' name words body) rs h =
      let both = and_parts (is_name (text_of b name)) (for_words_formed (trees.for_words_of b words)) h in
      first (sight b name) (in_list b words) both.0 (list_named words both.1)
  kind_named (Branches' span shape parts shape' row) rs h =
      let both = and_parts (word_formed (trees.word_of b parts)) (clauses_formed (trees.clauses_of b row)) h in
      join (in_row b parts) (flat_map (in_clause b) (items-the_row-Clause _ row)) (row_named parts both.0)
      (clauses_named (items-the_row-Clause _ row) (ap clauses_formed (sym (rules.clauses_listed b row)) ∙ both.1))
  kind_named (Define' name shape body) rs h = first (sight b name) [] h refl
  kind_named _ rs h = refl

  pub command_named : (c : Command) → command_formed (trees.command_of b c) ≡ true → Named (in_command b c)
  unfolding command_formed
  command_named c h =
      let rs = redirects_from b (out-Command c).redirects in
      let both = and_parts (kind_formed (trees.kind_of b (out-Command c).kind) rs) (redirects_formed rs) (ap command_formed (sym (rules.command_of-out b c)) ∙ h) in
      join (in_kind b (out-Command c).kind) (flat_map (in_redirect b) (out-Command c).redirects) (kind_named (out-Command c).kind rs both.0)
      (redirects_named (out-Command c).redirects both.1)
