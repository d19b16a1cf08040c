-- What holds of each command of a tree holds of each command of its program, where it is.
use Rattle.std.proofs.Common.{◌≡◌, ℕ, Bool, true, List, ◌++◌, refl, sym, ◌∙◌}
use Rattle.std.specs.List.{list_all}
use Rattle.std.proofs.lemmas.Bool.{and_parts, and_from}
use Rattle.std.proofs.lemmas.List.Folds.{list_all-append}
use Rattle.sh_tree.specs.declared.tree.AndOr.{AndOr, AndOr', Row_of-AndOr-rest-2, end_of-AndOr-rest-2, more_of-AndOr-rest-2}
use Rattle.sh_tree.specs.declared.tree.Branch.{Branch'}
use Rattle.sh_tree.specs.declared.tree.Clause.{Clause'}
use Rattle.sh_tree.specs.declared.tree.Command.{Command, Command', Row_of-Redirect, end_of-Redirect, more_of-Redirect}
use Rattle.sh_tree.specs.declared.tree.Element.{Assignment', Word', Redirection'}
use Rattle.sh_tree.specs.declared.tree.Expr.{Expr, Expansion, Parenthesis', Unary', Chain', Choice', Assign', Row_of-Expr, end_of-Expr, more_of-Expr, Row_of-Expr-Chain-1-2, end_of-Expr-Chain-1-2, more_of-Expr-Chain-1-2}
use Rattle.sh_tree.specs.declared.tree.Item.{Item'}
use Rattle.sh_tree.specs.declared.tree.Kind.{Kind, Simple', Group, Subshell, Cond', Loop, For', Branches', Define', Row_of-Element, end_of-Element, more_of-Element, Row_of-Branch, end_of-Branch, more_of-Branch, Row_of-Word, end_of-Word, more_of-Word, Row_of-Clause, end_of-Clause, more_of-Clause, Held-Kind-Cond-1, Kind-Cond-1-None', Kind-Cond-1-Some', Held-Kind-For-1, Kind-For-1-None', Kind-For-1-Some'}
use Rattle.sh_tree.specs.declared.tree.ParameterOperator.{ParameterOperator, Use', Remove'}
use Rattle.sh_tree.specs.declared.tree.Part.{Part, Double', Param', Arith', Row_of-Part, end_of-Part, more_of-Part}
use Rattle.sh_tree.specs.declared.tree.Part.TheVariants as part
use Rattle.sh_tree.specs.declared.tree.Pipe.{Pipe, Pipe', Row_of-Command, end_of-Command, more_of-Command}
use Rattle.sh_tree.specs.declared.tree.Script.{Script, Script', Row_of-Item, end_of-Item, more_of-Item}
use Rattle.sh_tree.specs.declared.tree.Target.{Target, File', Here'}
use Rattle.sh_tree.specs.standard.program.Syntax as p
use Rattle.sh_tree.specs.standard.program.Trees as trees
use Rattle.sh_tree.specs.Commands as tree
use Rattle.sh_runs.specs.Surroundings.{Surroundings, Located, items_located, list_located, links_located, pipeline_located, commands_located, command_located, kind_located, elements_located, redirect_located, redirects_located, branches_located, otherwise_located, for_words_located, words_located, clauses_located, word_located, part_located, operator_located, expression_located, operands_located}

-- of a test of commands in a tree and one of commands in a program, which an empty group passes
module _ (b : List ℕ) (ok : Command → Bool) (test : p.Command → Bool) (each : (c : Command) → ok c ≡ true → test (trees.command_of b c) ≡ true)
    (empty : test (p.command 0 0 (p.Group p.no_items) p.no_redirects) ≡ true) where
  abbrev Holds : List Command → Type 0
  Holds cs = list_all ok cs ≡ true

  abbrev Stands : List Located → Type 0
  Stands ls = list_all (λ (l : Located). test l.command) ls ≡ true

  front : (cs ds : List Command) → Holds (cs ++ ds) → Holds cs
  front cs ds h = (and_parts (list_all ok cs) (list_all ok ds) (sym (list_all-append ok cs ds) ∙ h)).0

  rest_of : (cs ds : List Command) → Holds (cs ++ ds) → Holds ds
  rest_of cs ds h = (and_parts (list_all ok cs) (list_all ok ds) (sym (list_all-append ok cs ds) ∙ h)).1

  joined : (ls ms : List Located) → Stands ls → Stands ms → Stands (ls ++ ms)
  joined ls ms h k = list_all-append (λ (l : Located). test l.command) ls ms ∙ and_from _ _ h k

  both : (cs ds : List Command) (ls ms : List Located) → (Holds cs → Stands ls) → (Holds ds → Stands ms) → Holds (cs ++ ds) → Stands (ls ++ ms)
  both cs ds ls ms h k e = joined ls ms (h (front cs ds e)) (k (rest_of cs ds e))

  mutual
    unfolding tree.of_script trees.part_of items_located

    script_stands : (x : Surroundings) (t : Script) → Holds (tree.of_script t) → Stands (items_located x (trees.script_of b t))
    script_stands x (Script' shape row) h = items_stand x row h

    items_stand : {m : _} (x : Surroundings) (row : Row_of-Item m) → Holds (tree.of_items row) → Stands (items_located x (trees.items_of b row))
    items_stand x end_of-Item h = refl
    items_stand x (more_of-Item (Item' list background) rest) h = both (tree.of_and_or list) (tree.of_items rest) _ _ (and_or_stands _ list) (items_stand x rest) h

    and_or_stands : (x : Surroundings) (l : AndOr) → Holds (tree.of_and_or l) → Stands (list_located x (trees.and_or_of b l))
    and_or_stands x (AndOr' first shape row) h = both (tree.of_pipe first) (tree.of_links row) _ _ (pipe_stands x first) (links_stand x row) h

    links_stand : {m : _} (x : Surroundings) (row : Row_of-AndOr-rest-2 m) → Holds (tree.of_links row) → Stands (links_located x (trees.links_of b row))
    links_stand x end_of-AndOr-rest-2 h = refl
    links_stand x (more_of-AndOr-rest-2 link q rest) h = both (tree.of_pipe q) (tree.of_links rest) _ _ (pipe_stands x q) (links_stand x rest) h

    pipe_stands : (x : Surroundings) (q : Pipe) → Holds (tree.of_pipe q) → Stands (pipeline_located x (trees.pipeline_of b q))
    pipe_stands x (Pipe' negated shape row) h = commands_stand _ row h

    commands_stand : {m : _} (x : Surroundings) (row : Row_of-Command m) → Holds (tree.of_commands row) → Stands (commands_located x (trees.commands_of b row))
    commands_stand x end_of-Command h = refl
    commands_stand x (more_of-Command c rest) h = both (tree.of_command c) (tree.of_commands rest) _ _ (command_stands x c) (commands_stand x rest) h

    command_stands : (x : Surroundings) (c : Command) → Holds (tree.of_command c) → Stands (command_located x (trees.command_of b c))
    command_stands x (Command' number at kind shape row) h =
        let parts = and_parts (ok (Command' number at kind shape row)) (list_all ok (tree.of_kind kind ++ tree.of_redirects row)) h in
        and_from (test (trees.command_of b (Command' number at kind shape row))) _ (each (Command' number at kind shape row) parts.0)
        (both (tree.of_kind kind) (tree.of_redirects row) _ _ (kind_stands x kind) (redirects_stand row) parts.1)

    body_stands : {m : _} (x : Surroundings) (row : Row_of-Command m) → Holds (tree.of_commands row) → Stands (command_located x (trees.body_of b row))
    body_stands x end_of-Command h = and_from (test (p.command 0 0 (p.Group p.no_items) p.no_redirects)) true empty refl
    body_stands x (more_of-Command c rest) h = command_stands x c (front (tree.of_command c) (tree.of_commands rest) h)

    kind_stands : (x : Surroundings) (k : Kind) → Holds (tree.of_kind k) → Stands (kind_located x (trees.kind_of b k))
    kind_stands x (Simple' shape row) h = elements_stand row h
    kind_stands x (Group list) h = script_stands _ list h
    kind_stands x (Subshell list) h = script_stands _ list h
    kind_stands x (Cond' shape row otherwise) h = both (tree.of_branches row) (tree.of_otherwise otherwise) _ _ (branches_stand x row) (otherwise_stands x otherwise) h
    kind_stands x (Loop k condition body) h = both (tree.of_script condition) (tree.of_script body) _ _ (script_stands _ condition) (script_stands _ body) h
    kind_stands x (For' name words body) h = both (tree.of_list words) (tree.of_script body) _ _ (list_stands words) (script_stands _ body) h
    kind_stands x (Branches' span shape word shape' clauses) h = both (tree.of_parts word) (tree.of_clauses clauses) _ _ (parts_stand word) (clauses_stand x clauses) h
    kind_stands x (Define' name shape row) h = body_stands _ row h

    elements_stand : {m : _} (row : Row_of-Element m) → Holds (tree.of_elements row) → Stands (elements_located (trees.elements_of b row))
    elements_stand end_of-Element h = refl
    elements_stand (more_of-Element (Assignment' name span shape parts) rest) h = both (tree.of_parts parts) (tree.of_elements rest) _ _ (parts_stand parts) (elements_stand rest) h
    elements_stand (more_of-Element (Word' span shape parts) rest) h = both (tree.of_parts parts) (tree.of_elements rest) _ _ (parts_stand parts) (elements_stand rest) h
    elements_stand (more_of-Element (Redirection' at number target) rest) h = both (tree.of_target target) (tree.of_elements rest) _ _ (target_stands target) (elements_stand rest) h

    redirects_stand : {m : _} (row : Row_of-Redirect m) → Holds (tree.of_redirects row) → Stands (redirects_located (trees.redirects_of b row))
    redirects_stand end_of-Redirect h = refl
    redirects_stand (more_of-Redirect at number target rest) h = both (tree.of_target target) (tree.of_redirects rest) _ _ (target_stands target) (redirects_stand rest) h

    target_stands : (t : Target) → Holds (tree.of_target t) → Stands (redirect_located (trees.target_of b t))
    target_stands (File' direction span shape parts) h = parts_stand parts h
    target_stands (Here' strip span shape delimiter span' shape' body end) h = parts_stand body (rest_of (tree.of_parts delimiter) (tree.of_parts body) h)

    branches_stand : {m : _} (x : Surroundings) (row : Row_of-Branch m) → Holds (tree.of_branches row) → Stands (branches_located x (trees.branches_of b row))
    branches_stand x end_of-Branch h = refl
    branches_stand x (more_of-Branch (Branch' condition body) rest) h =
        both (tree.of_script condition ++ tree.of_script body) (tree.of_branches rest) _ _
        (both (tree.of_script condition) (tree.of_script body) _ _ (script_stands x condition) (script_stands x body)) (branches_stand x rest) h

    otherwise_stands : (x : Surroundings) (o : Held-Kind-Cond-1) → Holds (tree.of_otherwise o) → Stands (otherwise_located x (trees.otherwise_of b o))
    otherwise_stands x Kind-Cond-1-None' h = refl
    otherwise_stands x (Kind-Cond-1-Some' list) h = script_stands x list h

    list_stands : (o : Held-Kind-For-1) → Holds (tree.of_list o) → Stands (for_words_located (trees.for_words_of b o))
    list_stands Kind-For-1-None' h = refl
    list_stands (Kind-For-1-Some' shape row) h = words_stand row h

    words_stand : {m : _} (row : Row_of-Word m) → Holds (tree.of_words row) → Stands (words_located (trees.words_of b row))
    words_stand end_of-Word h = refl
    words_stand (more_of-Word span shape parts rest) h = both (tree.of_parts parts) (tree.of_words rest) _ _ (parts_stand parts) (words_stand rest) h

    clauses_stand : {m : _} (x : Surroundings) (row : Row_of-Clause m) → Holds (tree.of_clauses row) → Stands (clauses_located x (trees.clauses_of b row))
    clauses_stand x end_of-Clause h = refl
    clauses_stand x (more_of-Clause (Clause' shape patterns body end) rest) h =
        both (tree.of_words patterns ++ tree.of_script body) (tree.of_clauses rest) _ _
        (both (tree.of_words patterns) (tree.of_script body) _ _ (words_stand patterns) (script_stands x body)) (clauses_stand x rest) h

    parts_stand : {m : _} (row : Row_of-Part m) → Holds (tree.of_parts row) → Stands (word_located (trees.word_of b row))
    parts_stand end_of-Part h = refl
    parts_stand (more_of-Part y rest) h = both (tree.of_part y) (tree.of_parts rest) _ _ (part_stands y) (parts_stand rest) h

    part_stands : (y : Part) → Holds (tree.of_part y) → Stands (part_located (trees.part_of b y))
    part_stands (Double' span shape parts) h = parts_stand parts h
    part_stands (Param' span subject operator) h = operator_stands operator h
    part_stands (Arith' span shape expression) h = box_stands expression h
    part_stands (part.Command style span list) h = script_stands _ list h
    part_stands _ h = refl

    operator_stands : (o : ParameterOperator) → Holds (tree.of_operator o) → Stands (operator_located (trees.operator_of b o))
    operator_stands (Use' action colon span shape parts) h = parts_stand parts h
    operator_stands (Remove' removal span shape parts) h = parts_stand parts h
    operator_stands _ h = refl

    box_stands : {m : _} (row : Row_of-Expr m) → Holds (tree.of_expressions row) → Stands (expression_located (trees.held_of b row))
    box_stands end_of-Expr h = refl
    box_stands (more_of-Expr e rest) h = expression_stands e (front (tree.of_expression e) (tree.of_expressions rest) h)

    chain_stands : {m : _} (row : Row_of-Expr-Chain-1-2 m) → Holds (tree.of_chain row) → Stands (operands_located (trees.operands_of b row))
    chain_stands end_of-Expr-Chain-1-2 h = refl
    chain_stands (more_of-Expr-Chain-1-2 operator e rest) h = both (tree.of_expression e) (tree.of_chain rest) _ _ (expression_stands e) (chain_stands rest) h

    expression_stands : (e : Expr) → Holds (tree.of_expression e) → Stands (expression_located (trees.expression_of b e))
    expression_stands (Expansion y) h = part_stands y h
    expression_stands (Parenthesis' shape e) h = box_stands e h
    expression_stands (Unary' operator shape e) h = box_stands e h
    expression_stands (Chain' shape first shape' rest) h = both (tree.of_expressions first) (tree.of_chain rest) _ _ (box_stands first) (chain_stands rest) h
    expression_stands (Choice' s condition s' then_one s'' else_one) h =
        both (tree.of_expressions condition ++ tree.of_expressions then_one) (tree.of_expressions else_one) _ _
        (both (tree.of_expressions condition) (tree.of_expressions then_one) _ _ (box_stands condition) (box_stands then_one)) (box_stands else_one) h
    expression_stands (Assign' name operator shape e) h = box_stands e h
    expression_stands _ h = refl

  pub all_stand : (x : Surroundings) (t : Script) → Holds (tree.of_script t) → Stands (items_located x (trees.script_of b t))
  all_stand x t h = script_stands x t h
