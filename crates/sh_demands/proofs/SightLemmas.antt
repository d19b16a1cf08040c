-- The names that a command may set are among those that are seen in it.
use Rattle.std.proofs.Common.{◌≡◌, ℕ, Bool, true, List, [], ◌∷◌, ◌++◌, flat_map, refl, ap, ◌∙◌}
use Rattle.std.specs.List.{list_all}
use Rattle.std.proofs.lemmas.Bool.{and_parts, and_from}
use Rattle.sh_tree.specs.declared.tree.Clause.{Clause, out-Clause}
use Rattle.sh_tree.specs.declared.tree.Command.{Command, out-Command}
use Rattle.sh_tree.specs.declared.tree.Element.{Assignment', Word', Redirection'}
use Rattle.sh_tree.specs.declared.tree.Expr.{Expr, Expansion, Parenthesis', Unary', Chain', Choice', Assign', Row_of-Expr, end_of-Expr, more_of-Expr, Row_of-Expr-Chain-1-2, end_of-Expr-Chain-1-2, more_of-Expr-Chain-1-2}
use Rattle.sh_tree.specs.declared.tree.Kind.{Kind, Simple', For', Branches', Held-Kind-For-1, Kind-For-1-None', Kind-For-1-Some', Row_of-Element, end_of-Element, more_of-Element, items-the_row-Element, items-the_row-Word, items-the_row-Clause}
use Rattle.sh_tree.specs.declared.tree.ParameterOperator.{ParameterOperator, Use', Remove'}
use Rattle.sh_tree.specs.declared.tree.Part.{Part, Double', Param', Arith', Row_of-Part, end_of-Part, more_of-Part}
use Rattle.sh_tree.specs.declared.tree.Redirect.{Redirect}
use Rattle.sh_tree.specs.declared.tree.Special.{Special}
use Rattle.sh_tree.specs.declared.tree.Special.TheVariants as special
use Rattle.sh_tree.specs.declared.tree.Subject.{Subject}
use Rattle.sh_tree.specs.declared.tree.Subject.TheVariants as subject
use Rattle.sh_tree.specs.declared.tree.Target.{Target, File', Here'}
use Rattle.sh_tree.specs.declared.tree.Word.{Word}
use Rattle.sh_tree.specs.standard.Tree.{text_of}
use Rattle.sh_tree.specs.Lists.{parts_from, words_from, redirects_from, clauses_from}
use Rattle.sh_tree.specs.standard.program.Syntax as p
use Rattle.sh_tree.specs.standard.program.Syntax.{Text}
use Rattle.sh_tree.specs.standard.program.Trees as trees
use Rattle.sh_tree.proofs.ProgramRules as rules
use Rattle.sh_domain.specs.Gains.{job, sure}
use Rattle.sh_domain.specs.Sights.{Sight, sight, subject_sights, in_row, in_part, in_operator, in_box, in_chain, in_expression, in_word, in_target, in_redirect, in_element, in_clause, in_list, in_kind, in_command, operand_sights}
use Rattle.sh_tree.specs.standard.Words.{words_of}
use Rattle.sh_demands.specs.Within.{part_within, word_within, operator_within, expression_within, operands_within, words_within, redirect_within, redirects_within, elements_within, clauses_within, for_words_within, kind_within, command_within}
use Rattle.sh_gains.proofs.SightLemmas.{Seen, front, rest_of}

-- where `!` passes a test
module _ (b : List ℕ) (q : Text → Bool) (is_job : q job ≡ true) where
  special_seen : (c : Special) → list_all q (sure (p.Special c)).names ≡ true
  unfolding sure
  special_seen special.Exclamation = and_from (q job) true is_job refl
  special_seen _ = refl

  subject_seen : (x : Subject) → Seen q (subject_sights b x) → list_all q (sure (trees.parameter_of b x)).names ≡ true
  unfolding subject_sights trees.parameter_of sure
  subject_seen (subject.Name s) h = h
  subject_seen (subject.Positional n s) h = refl
  subject_seen (subject.Special c s) h = special_seen c

  mutual
    unfolding in_row trees.part_of part_within

    row_seen : {m : _} (row : Row_of-Part m) → Seen q (in_row b row) → word_within q (trees.word_of b row) ≡ true
    row_seen end_of-Part h = refl
    row_seen (more_of-Part x rest) h = and_from _ _ (part_seen x (front q (in_part b x) (in_row b rest) h)) (row_seen rest (rest_of q (in_part b x) (in_row b rest) h))

    part_seen : (x : Part) → Seen q (in_part b x) → part_within q (trees.part_of b x) ≡ true
    part_seen (Double' span shape parts) h = row_seen parts h
    part_seen (Param' span x operator) h =
        and_from _ _ (subject_seen x (front q (subject_sights b x) (in_operator b operator) h)) (operator_seen operator (rest_of q (subject_sights b x) (in_operator b operator) h))
    part_seen (Arith' span shape expression) h = box_seen expression h
    part_seen _ h = refl

    operator_seen : (o : ParameterOperator) → Seen q (in_operator b o) → operator_within q (trees.operator_of b o) ≡ true
    operator_seen (Use' action colon span shape parts) h = row_seen parts h
    operator_seen (Remove' removal span shape parts) h = row_seen parts h
    operator_seen _ h = refl

    box_seen : {m : _} (row : Row_of-Expr m) → Seen q (in_box b row) → expression_within q (trees.held_of b row) ≡ true
    box_seen end_of-Expr h = refl
    box_seen (more_of-Expr e rest) h = expression_seen e (front q (in_expression b e) (in_box b rest) h)

    chain_seen : {m : _} (row : Row_of-Expr-Chain-1-2 m) → Seen q (in_chain b row) → operands_within q (trees.operands_of b row) ≡ true
    chain_seen end_of-Expr-Chain-1-2 h = refl
    chain_seen (more_of-Expr-Chain-1-2 operator e rest) h =
        and_from _ _ (expression_seen e (front q (in_expression b e) (in_chain b rest) h)) (chain_seen rest (rest_of q (in_expression b e) (in_chain b rest) h))

    expression_seen : (e : Expr) → Seen q (in_expression b e) → expression_within q (trees.expression_of b e) ≡ true
    expression_seen (Expansion x) h = part_seen x h
    expression_seen (Parenthesis' shape e) h = box_seen e h
    expression_seen (Unary' operator shape e) h = box_seen e h
    expression_seen (Chain' shape first shape' rest) h =
        and_from _ _ (box_seen first (front q (in_box b first) (in_chain b rest) h)) (chain_seen rest (rest_of q (in_box b first) (in_chain b rest) h))
    expression_seen (Choice' s condition s' then_one s'' else_one) h =
        let two = in_box b condition ++ in_box b then_one in
        let first = front q two (in_box b else_one) h in
        and_from _ _ (box_seen condition (front q (in_box b condition) (in_box b then_one) first))
        (and_from _ _ (box_seen then_one (rest_of q (in_box b condition) (in_box b then_one) first)) (box_seen else_one (rest_of q two (in_box b else_one) h)))
    expression_seen (Assign' name operator shape e) h =
        let parts = and_parts (q (text_of b name)) (list_all (λ (s : Sight). q s.name) (in_box b e)) h in
        and_from _ _ parts.0 (box_seen e parts.1)
    expression_seen _ h = refl

  -- lists

  word_seen : (ps : List Part) → Seen q (flat_map (in_part b) ps) → word_within q (parts_from b ps) ≡ true
  unfolding parts_from part_within
  word_seen [] h = refl
  word_seen (x ∷ xs) h =
      and_from _ _ (part_seen x (front q (in_part b x) (flat_map (in_part b) xs) h)) (word_seen xs (rest_of q (in_part b x) (flat_map (in_part b) xs) h))

  words_seen : (ws : List Word) → Seen q (flat_map (in_word b) ws) → words_within q (words_from b ws) ≡ true
  unfolding words_from words_within
  words_seen [] h = refl
  words_seen (w ∷ ws) h =
      and_from _ _ (word_seen w.parts (front q (in_word b w) (flat_map (in_word b) ws) h)) (words_seen ws (rest_of q (in_word b w) (flat_map (in_word b) ws) h))

  target_seen : (t : Target) → Seen q (in_target b t) → redirect_within q (trees.target_of b t) ≡ true
  unfolding in_target trees.part_of redirect_within
  target_seen (File' direction span shape parts) h = row_seen parts h
  target_seen (Here' strip span shape delimiter span' shape' body end) h = row_seen body h

  redirects_seen : (rs : List Redirect) → Seen q (flat_map (in_redirect b) rs) → redirects_within q (redirects_from b rs) ≡ true
  unfolding redirects_from redirects_within
  redirects_seen [] h = refl
  redirects_seen (r ∷ rs) h =
      and_from _ _ (target_seen r.target (front q (in_redirect b r) (flat_map (in_redirect b) rs) h)) (redirects_seen rs (rest_of q (in_redirect b r) (flat_map (in_redirect b) rs) h))

  clauses_seen : (cs : List Clause) → Seen q (flat_map (in_clause b) cs) → clauses_within q (clauses_from b cs) ≡ true
  unfolding clauses_from clauses_within
  clauses_seen [] h = refl
  clauses_seen (c ∷ cs) h =
      and_from _ _ (words_seen (out-Clause c).patterns (front q (in_clause b c) (flat_map (in_clause b) cs) h))
      (clauses_seen cs (rest_of q (in_clause b c) (flat_map (in_clause b) cs) h))

  -- after the name that an assignment sets
  elements_seen : {m : _} (row : Row_of-Element m) → Seen q (flat_map (in_element b) (items-the_row-Element _ row)) → elements_within q (trees.elements_of b row) ≡ true
  unfolding in_element trees.part_of elements_within
  elements_seen end_of-Element h = refl
  elements_seen (more_of-Element (Assignment' name span shape parts) rest) h =
      let one = sight b name ∷ in_row b parts in
      let more = flat_map (in_element b) (items-the_row-Element _ rest) in
      and_from _ _ (row_seen parts (rest_of q (sight b name ∷ []) (in_row b parts) (front q one more h))) (elements_seen rest (rest_of q one more h))
  elements_seen (more_of-Element (Word' span shape parts) rest) h =
      let more = flat_map (in_element b) (items-the_row-Element _ rest) in
      and_from _ _ (row_seen parts (front q (in_row b parts) more h)) (elements_seen rest (rest_of q (in_row b parts) more h))
  elements_seen (more_of-Element (Redirection' at number target) rest) h =
      let more = flat_map (in_element b) (items-the_row-Element _ rest) in
      and_from _ _ (target_seen target (front q (in_target b target) more h)) (elements_seen rest (rest_of q (in_target b target) more h))

  list_seen : (o : Held-Kind-For-1) → Seen q (in_list b o) → for_words_within q (trees.for_words_of b o) ≡ true
  unfolding in_list trees.part_of for_words_within
  list_seen Kind-For-1-None' h = refl
  list_seen (Kind-For-1-Some' shape row) h = ap (words_within q) (rules.words_listed b row) ∙ words_seen (items-the_row-Word _ row) h

  -- commands

  kind_seen : (k : Kind) → Seen q (in_kind b k) → kind_within q (trees.kind_of b k) ≡ true
  unfolding in_kind trees.part_of kind_within
  kind_seen (Simple' shape row) h =
      elements_seen row (front q (flat_map (in_element b) (items-the_row-Element _ row)) (operand_sights b (words_of (items-the_row-Element _ row))) h)
  kind_seen (For' name words body) h = list_seen words (rest_of q (sight b name ∷ []) (in_list b words) h)
  kind_seen (Branches' span shape parts shape' row) h =
      let clauses = flat_map (in_clause b) (items-the_row-Clause _ row) in
      and_from _ _ (row_seen parts (front q (in_row b parts) clauses h))
      (ap (clauses_within q) (rules.clauses_listed b row) ∙ clauses_seen (items-the_row-Clause _ row) (rest_of q (in_row b parts) clauses h))
  kind_seen _ h = refl

  pub command_seen : (c : Command) → Seen q (in_command b c) → command_within q (trees.command_of b c) ≡ true
  unfolding command_within
  command_seen c h =
      let own = in_kind b (out-Command c).kind in
      let redirects = flat_map (in_redirect b) (out-Command c).redirects in
      ap (command_within q) (rules.command_of-out b c)
      ∙ and_from _ _ (redirects_seen (out-Command c).redirects (rest_of q own redirects h)) (kind_seen (out-Command c).kind (front q own redirects h))
