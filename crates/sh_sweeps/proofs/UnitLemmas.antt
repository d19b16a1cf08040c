-- Each command of a script that is read is somewhere in it, so the body of a definition is entered
-- by its number (XCU 2.9.5).
--
-- No delimiter of a here-document is entered. So commands are found by number: each occurs as often
-- in the tree as in its program.
use Rattle.std.proofs.Common.{◌≡◌, ℕ, ◌+◌, ◌<◌, ◌≤◌, ◌==◌, cond, nat_le, Bool, true, false, List, [], ◌∷◌, ◌++◌, append-nil, map, length, get_or, refl, sym, ap, ◌∙◌, subst, ◌⊎◌, inl, inr, arith, eq-eqb}
use Rattle.std.specs.List.{All, sum_by}
use Rattle.std.specs.List.Sorted.{IsPermutation}
use Rattle.std.proofs.lemmas.Bool.Decides.{nat_tests}
use Rattle.std.proofs.lemmas.List.{get_or-map, length-map}
use Rattle.std.proofs.lemmas.List.Elements.{All-cons, All-nil}
use Rattle.std.proofs.lemmas.List.Sorted.{All-permutation}
use Rattle.std.proofs.lemmas.List.Sums.{sum_by-cons}
use Rattle.sh_tree.specs.declared.tree.AndOr.{AndOr, AndOr', Row_of-AndOr-rest-2, end_of-AndOr-rest-2, more_of-AndOr-rest-2}
use Rattle.sh_tree.specs.declared.tree.Branch.{Branch'}
use Rattle.sh_tree.specs.declared.tree.Clause.{Clause'}
use Rattle.sh_tree.specs.declared.tree.Command.{Command, Command', out-Command, Row_of-Redirect, end_of-Redirect, more_of-Redirect}
use Rattle.sh_tree.specs.declared.tree.Element.{Assignment', Word', Redirection'}
use Rattle.sh_tree.specs.declared.tree.Expr.{Expr, Expansion, Parenthesis', Unary', Chain', Choice', Assign', Row_of-Expr, end_of-Expr, more_of-Expr, Row_of-Expr-Chain-1-2, end_of-Expr-Chain-1-2, more_of-Expr-Chain-1-2}
use Rattle.sh_tree.specs.declared.tree.Item.{Item'}
use Rattle.sh_tree.specs.declared.tree.Kind.{Kind, Simple', Group, Subshell, Cond', Loop, For', Branches', Define', Row_of-Element, end_of-Element, more_of-Element, Row_of-Branch, end_of-Branch, more_of-Branch, Row_of-Word, end_of-Word, more_of-Word, Row_of-Clause, end_of-Clause, more_of-Clause, Held-Kind-Cond-1, Kind-Cond-1-None', Kind-Cond-1-Some', Held-Kind-For-1, Kind-For-1-None', Kind-For-1-Some'}
use Rattle.sh_tree.specs.declared.tree.ParameterOperator.{ParameterOperator, Use', Remove'}
use Rattle.sh_tree.specs.declared.tree.Part.{Part, Double', Param', Arith', Row_of-Part, end_of-Part, more_of-Part}
use Rattle.sh_tree.specs.declared.tree.Part.TheVariants as part
use Rattle.sh_tree.specs.declared.tree.Pipe.{Pipe, Pipe', Row_of-Command, end_of-Command, more_of-Command}
use Rattle.sh_tree.specs.declared.tree.Script.{Script, Script', Row_of-Item, end_of-Item, more_of-Item}
use Rattle.sh_tree.specs.declared.tree.Target.{Target, File', Here'}
use Rattle.sh_tree.specs.standard.program.Syntax as p
use Rattle.sh_tree.specs.standard.program.Trees as trees
use Rattle.sh_tree.specs.declared.limits.TheConstants.{MAX_NESTING}
use Rattle.sh_tree.specs.Commands as tree
use Rattle.sh_tree.specs.Commands.{commands_of}
use Rattle.sh_tree.proofs.ProgramRules.{command_of-out}
use Rattle.sh_tree.specs.standard.Tree.{text_of}
use Rattle.sh_runs.specs.Surroundings.{Surroundings, Located, outside, items_located, list_located, links_located, pipeline_located, commands_located, command_located, kind_located, elements_located, redirect_located, redirects_located, branches_located, otherwise_located, for_words_located, words_located, clauses_located, word_located, part_located, operator_located, expression_located, operands_located}
use Rattle.sh_domain.specs.declared.rule.FlowRule.{FlowRule}
use Rattle.sh_domain.specs.declared.rule.FlowRule.TheVariants.{F1, F2, F3, F6, F7, F8, F9, F10, F11, F13}
use Rattle.sh_domain.specs.Admitted.{IsAdmitted}
use Rattle.sh_domain.specs.Entries as e
use Rattle.sh_domain.specs.Entries.{Around, Entered, behind_redirects}
use Rattle.sh_domain.specs.Gains.{expanded_gains, part_gains, redirect_gains, word_gains}
use Rattle.sh_domain.specs.Table.{behind_words}
use Rattle.sh_domain.specs.Views.{After, Before, Both, Entry, Head, Seen, at, at_start, gaining, gaining_names, if_nonzero, if_zero, in_any_case, without_job}
use Rattle.sh_domain.proofs.CountedLemmas.{tree_given}
use Rattle.sh_domain.proofs.NumberCounts.{held, held_command, held_join}
use Rattle.sh_domain.proofs.NumberLemmas.{read_given}
use Rattle.sh_drafts.specs.declared.subject.Subject.{Subject}
use Rattle.sh_sweeps.specs.Sweeps.{IsPart}
use Rattle.sh_sweeps.proofs.SweepLemmas.{first_part, last_part}

-- A command of a list

abbrev IsOf : Command → List Command → Type 0
IsOf c [] = ⊥
IsOf c (d ∷ ds) = (d ≡ c) ⊎ IsOf c ds

in_front : (c : Command) (cs ds : List Command) → IsOf c cs → IsOf c (cs ++ ds)
in_front c [] ds h = absurd h
in_front c (x ∷ cs) ds (inl e) = inl e
in_front c (x ∷ cs) ds (inr h) = inr (in_front c cs ds h)

in_rest : (c : Command) (cs ds : List Command) → IsOf c ds → IsOf c (cs ++ ds)
in_rest c [] ds h = h
in_rest c (x ∷ cs) ds h = inr (in_rest c cs ds h)

all_of : (P : Command → Type 0) (cs : List Command) → ((c : Command) → IsOf c cs → P c) → All P cs
all_of P [] h = All-nil P
all_of P (c ∷ cs) h = All-cons P c cs (h c (inl refl)) (all_of P cs (λ d i. h d (inr i)))

-- how many of them have a number
abbrev one_if : Bool → ℕ
one_if t = cond t 1 0

abbrev times : ℕ → List Command → ℕ
times n cs = sum_by (λ c. one_if ((out-Command c).number == n)) cs

first_times : (n : ℕ) (c : Command) (cs : List Command) → times n (c ∷ cs) ≡ one_if ((out-Command c).number == n) + times n cs
first_times n c cs = sum_by-cons (λ (d : Command). one_if ((out-Command d).number == n)) c cs

itself : (m n : ℕ) → m ≡ n → one_if (m == n) ≡ 1
itself m n e = ap one_if (eq-eqb m n e)

counted : (n : ℕ) (c : Command) (cs : List Command) → IsOf c cs → (out-Command c).number ≡ n → 0 < times n cs
counted n c [] h e = absurd h
counted n c (x ∷ cs) (inl is) e =
    let here = first_times n x cs in
    let one = itself (out-Command x).number n (ap (λ (d : Command). (out-Command d).number) is ∙ e) in
    omega (arith, here, one)
counted n c (x ∷ cs) (inr h) e =
    let here = first_times n x cs in
    let rest = counted n c cs h e in
    omega (arith, here, rest)

-- if a number occurs once, one command has it
only_one : (n : ℕ) (c d : Command) (cs : List Command) → times n cs ≤ 1 → IsOf c cs → IsOf d cs → (out-Command c).number ≡ n → (out-Command d).number ≡ n → d ≡ c
only_one n c d [] few h k e f = absurd h
only_one n c d (x ∷ cs) few (inl h) (inl k) e f = sym k ∙ h
only_one n c d (x ∷ cs) few (inl h) (inr k) e f =
    let here = first_times n x cs in
    let one = itself (out-Command x).number n (ap (λ (y : Command). (out-Command y).number) h ∙ e) in
    let rest = counted n d cs k f in
    absurd (omega (arith, here, one, rest, few))
only_one n c d (x ∷ cs) few (inr h) (inl k) e f =
    let here = first_times n x cs in
    let one = itself (out-Command x).number n (ap (λ (y : Command). (out-Command y).number) k ∙ f) in
    let rest = counted n c cs h e in
    absurd (omega (arith, here, one, rest, few))
only_one n c d (x ∷ cs) few (inr h) (inr k) e f =
    let here = first_times n x cs in
    only_one n c d cs (omega (arith, here, few)) h k e f

unfoldable number_in : p.Command → ℕ
number_in (p.command n at k rs) = n

-- Where a command is

module _ (s : Subject) where
  abbrev b : List ℕ
  b = s.script.now

  pub record Stands (c : Command) : Type 0 where
    pub by : FlowRule
    pub around : Around
    pub seen : Seen
    pub part : IsPart s (e.command_entered by around seen (trees.command_of b c))

  module _ (n : ℕ) (some : 0 < n) where
    -- a command of a list that has the number, and is in the script
    record Found (cs : List Command) : Type 0 where
      command : Command
      of : IsOf command cs
      number : number_in (trees.command_of b command) ≡ n
      stands : Stands command

    -- one is found in a piece of the tree, or its program has none
    abbrev Seeks : List Command → List Located → Type 0
    Seeks cs ls = Found cs ⊎ (held n ls ≡ 0)

    found_in_front : (cs ds : List Command) → Found cs → Found (cs ++ ds)
    found_in_front cs ds f = record { command = f.command; of = in_front f.command cs ds f.of; number = f.number; stands = f.stands }

    found_in_rest : (cs ds : List Command) → Found ds → Found (cs ++ ds)
    found_in_rest cs ds f = record { command = f.command; of = in_rest f.command cs ds f.of; number = f.number; stands = f.stands }

    front_alone : (cs ds : List Command) (ls : List Located) → Seeks cs ls → Seeks (cs ++ ds) ls
    front_alone cs ds ls (inl f) = inl (found_in_front cs ds f)
    front_alone cs ds ls (inr h) = inr h

    rest_alone : (cs ds : List Command) (ls : List Located) → Seeks ds ls → Seeks (cs ++ ds) ls
    rest_alone cs ds ls (inl f) = inl (found_in_rest cs ds f)
    rest_alone cs ds ls (inr h) = inr h

    joined : (cs ds : List Command) (ls ms : List Located) → Seeks cs ls → Seeks ds ms → Seeks (cs ++ ds) (ls ++ ms)
    joined cs ds ls ms (inl f) k = inl (found_in_front cs ds f)
    joined cs ds ls ms (inr h) (inl f) = inl (found_in_rest cs ds f)
    joined cs ds ls ms (inr h) (inr k) = let all = held_join n ls ms in inr (omega (arith, all, h, k))

    none : Seeks [] []
    unfolding held
    none = inr refl

    both : (cs ds : List Command) (ls ms : List Located) (es fs : List Entered) → (IsPart s es → Seeks cs ls) → (IsPart s fs → Seeks ds ms) → IsPart s (es ++ fs) → Seeks (cs ++ ds) (ls ++ ms)
    both cs ds ls ms es fs h k part = joined cs ds ls ms (h (first_part s es fs part)) (k (last_part s es fs part))

    -- where the second is entered first
    turned : (cs ds : List Command) (ls ms : List Located) (es fs : List Entered) → (IsPart s es → Seeks cs ls) → (IsPart s fs → Seeks ds ms) → IsPart s (fs ++ es) → Seeks (cs ++ ds) (ls ++ ms)
    turned cs ds ls ms es fs h k part = joined cs ds ls ms (h (last_part s fs es part)) (k (first_part s fs es part))

    own : (x : Surroundings) (c : Command) (cs : List Command) (m offset : ℕ) (k : p.Kind) (rs : p.Redirects) → trees.command_of b c ≡ p.command m offset k rs → Stands c
        → (t : Bool) → t ≡ (m == n) → Seeks cs (kind_located x k ++ redirects_located rs) → Seeks (c ∷ cs) (command_located x (p.command m offset k rs))
    unfolding number_in
    own x c cs m offset k rs same stands true is rest = inl (record { command = c; of = inl refl; number = ap number_in same ∙ grind (arith, nat_tests, is); stands = stands })
    own x c cs m offset k rs same stands false is (inl f) = inl (record { command = f.command; of = inr f.of; number = f.number; stands = f.stands })
    own x c cs m offset k rs same stands false is (inr h) =
        let all = held_command n x m offset k rs in
        let inside = held_join n (kind_located x k) (redirects_located rs) in
        let other : one_if (m == n) ≡ 0 = ap one_if (sym is) in
        inr (omega (arith, all, inside, other, h))

    empty : (x : Surroundings) → held n (command_located x (p.command 0 0 (p.Group p.no_items) p.no_redirects)) ≡ 0
    unfolding items_located held
    empty x =
        let all = held_command n x 0 0 (p.Group p.no_items) p.no_redirects in
        let other : one_if (0 == n) ≡ 0 = grind (arith, nat_tests, some) in
        omega (arith, all, other)

    mutual
      unfolding tree.of_script trees.part_of items_located e.items_entered

      script_sought : (x : Surroundings) (by : FlowRule) (y : Around) (o : After) (t : Script) → IsPart s (e.items_entered by y o (trees.script_of b t)) → Seeks (tree.of_script t) (items_located x (trees.script_of b t))
      script_sought x by y o (Script' shape row) part = items_sought x by y o row part

      items_sought : {m : _} (x : Surroundings) (by : FlowRule) (y : Around) (o : After) (row : Row_of-Item m) → IsPart s (e.items_entered by y o (trees.items_of b row)) → Seeks (tree.of_items row) (items_located x (trees.items_of b row))
      items_sought x by y o end_of-Item part = none
      items_sought x by y o (more_of-Item (Item' list background) rest) part =
          both (tree.of_and_or list) (tree.of_items rest) _ _ _ _
          (and_or_sought _ (e.item_rule background by) (e.item_around background y) (e.item_seen background (in_any_case o)) list)
          (items_sought x F2 y (e.item_after (in_any_case o) background (trees.and_or_of b list)) rest) part

      and_or_sought : (x : Surroundings) (by : FlowRule) (y : Around) (q : Seen) (l : AndOr) → IsPart s (e.list_entered by y q (trees.and_or_of b l)) → Seeks (tree.of_and_or l) (list_located x (trees.and_or_of b l))
      and_or_sought x by y q (AndOr' first shape row) part =
          both (tree.of_pipe first) (tree.of_links row) _ _ _ _ (pipe_sought x by y q first) (links_sought x y (e.pipeline_after q (trees.pipeline_of b first)) row) part

      links_sought : {m : _} (x : Surroundings) (y : Around) (o : After) (row : Row_of-AndOr-rest-2 m) → IsPart s (e.links_entered y o (trees.links_of b row)) → Seeks (tree.of_links row) (links_located x (trees.links_of b row))
      links_sought x y o end_of-AndOr-rest-2 part = none
      links_sought x y o (more_of-AndOr-rest-2 link z rest) part =
          both (tree.of_pipe z) (tree.of_links rest) _ _ _ _ (pipe_sought x F3 y (e.link_seen link o) z)
          (links_sought x y (e.linked link o (e.pipeline_after (e.link_seen link o) (trees.pipeline_of b z))) rest) part

      pipe_sought : (x : Surroundings) (by : FlowRule) (y : Around) (q : Seen) (z : Pipe) → IsPart s (e.pipeline_entered by y q (trees.pipeline_of b z)) → Seeks (tree.of_pipe z) (pipeline_located x (trees.pipeline_of b z))
      pipe_sought x by y q (Pipe' negated shape row) part =
          let long : Bool = e.is_long (trees.commands_of b row) in
          commands_sought _ (e.part_rule long by) (e.part_around long y) (e.item_seen long q) row part

      commands_sought : {m : _} (x : Surroundings) (by : FlowRule) (y : Around) (q : Seen) (row : Row_of-Command m) → IsPart s (e.commands_entered by y q (trees.commands_of b row)) → Seeks (tree.of_commands row) (commands_located x (trees.commands_of b row))
      commands_sought x by y q end_of-Command part = none
      commands_sought x by y q (more_of-Command c rest) part = both (tree.of_command c) (tree.of_commands rest) _ _ _ _ (command_sought x by y q c) (commands_sought x by y q rest) part

      command_sought : (x : Surroundings) (by : FlowRule) (y : Around) (q : Seen) (c : Command) → IsPart s (e.command_entered by y q (trees.command_of b c)) → Seeks (tree.of_command c) (command_located x (trees.command_of b c))
      command_sought x by y q (Command' number offset kind shape row) part =
          own x (Command' number offset kind shape row) (tree.of_kind kind ++ tree.of_redirects row) number offset (trees.kind_of b kind) (trees.redirects_of b row) refl
          (record { by = by; around = y; seen = q; part = part }) (number == n) refl
          (turned (tree.of_kind kind) (tree.of_redirects row) _ _ _ _ (kind_sought x y number (behind_redirects number (trees.redirects_of b row)) kind) (redirects_sought (at (Before number)) row)
          (last_part s (record { command = p.command number offset (trees.kind_of b kind) (trees.redirects_of b row); rule = by; around = y; seen = q } ∷ []) _ part))

      body_sought : {m : _} (x : Surroundings) (by : FlowRule) (y : Around) (q : Seen) (row : Row_of-Command m) → IsPart s (e.command_entered by y q (trees.body_of b row)) → Seeks (tree.of_commands row) (command_located x (trees.body_of b row))
      body_sought x by y q end_of-Command part = inr (empty x)
      body_sought x by y q (more_of-Command c rest) part = front_alone (tree.of_command c) (tree.of_commands rest) _ (command_sought x by y q c part)

      kind_sought : (x : Surroundings) (y : Around) (number : ℕ) (q : Seen) (k : Kind) → IsPart s (e.kind_entered y number q (trees.kind_of b k)) → Seeks (tree.of_kind k) (kind_located x (trees.kind_of b k))
      kind_sought x y number q (Simple' shape row) part = elements_sought q (behind_words (trees.elements_of b row) q) row part
      kind_sought x y number q (Group list) part = script_sought _ F10 y (Both q) list part
      kind_sought x y number q (Subshell list) part = script_sought _ F11 e.alone (Both (without_job (at (Before number)))) list part
      kind_sought x y number q (Cond' shape row otherwise) part =
          both (tree.of_branches row) (tree.of_otherwise otherwise) _ _ _ _ (branches_sought x y q row) (otherwise_sought x y (e.otherwise_seen q (trees.branches_of b row)) otherwise) part
      kind_sought x y number q (Loop kind condition body) part =
          both (tree.of_script condition) (tree.of_script body) _ _ _ _ (script_sought _ F7 (e.in_loop number y) (Both (at (Head number))) condition)
          (script_sought _ F7 (e.in_loop number y) (Both (e.turns kind (e.items_after (Both (at (Head number))) (trees.script_of b condition)))) body) part
      kind_sought x y number q (For' name words body) part =
          both (tree.of_list words) (tree.of_script body) _ _ _ _ (list_sought q words)
          (script_sought _ F8 (e.in_loop number y) (Both (gaining_names (text_of b name ∷ []) (at (Head number)))) body) part
      kind_sought x y number q (Branches' span shape word shape' clauses) part =
          both (tree.of_parts word) (tree.of_clauses clauses) _ _ _ _ (parts_sought q word) (clauses_sought x y (gaining (word_gains (trees.word_of b word)) q) [] clauses) part
      kind_sought x y number q (Define' name shape row) part = body_sought _ F13 (e.in_function (text_of b name)) (at (Entry (text_of b name))) row part

      elements_sought : {m : _} (q behind : Seen) (row : Row_of-Element m) → IsPart s (e.elements_entered q behind (trees.elements_of b row)) → Seeks (tree.of_elements row) (elements_located (trees.elements_of b row))
      elements_sought q behind end_of-Element part = none
      elements_sought q behind (more_of-Element (Assignment' name span shape parts) rest) part =
          both (tree.of_parts parts) (tree.of_elements rest) _ _ _ _ (parts_sought behind parts) (elements_sought q behind rest) part
      elements_sought q behind (more_of-Element (Word' span shape parts) rest) part =
          both (tree.of_parts parts) (tree.of_elements rest) _ _ _ _ (parts_sought q parts) (elements_sought (gaining (word_gains (trees.word_of b parts)) q) behind rest) part
      elements_sought q behind (more_of-Element (Redirection' offset number target) rest) part =
          both (tree.of_target target) (tree.of_elements rest) _ _ _ _ (target_sought behind target) (elements_sought q behind rest) part

      redirects_sought : {m : _} (q : Seen) (row : Row_of-Redirect m) → IsPart s (e.redirects_entered q (trees.redirects_of b row)) → Seeks (tree.of_redirects row) (redirects_located (trees.redirects_of b row))
      redirects_sought q end_of-Redirect part = none
      redirects_sought q (more_of-Redirect offset number target rest) part =
          both (tree.of_target target) (tree.of_redirects rest) _ _ _ _ (target_sought q target) (redirects_sought (gaining (redirect_gains (trees.target_of b target)) q) rest) part

      target_sought : (q : Seen) (t : Target) → IsPart s (e.redirect_entered q (trees.target_of b t)) → Seeks (tree.of_target t) (redirect_located (trees.target_of b t))
      target_sought q (File' direction span shape parts) part = parts_sought q parts part
      target_sought q (Here' strip span shape delimiter span' shape' body end) part = rest_alone (tree.of_parts delimiter) (tree.of_parts body) _ (parts_sought q body part)

      branches_sought : {m : _} (x : Surroundings) (y : Around) (q : Seen) (row : Row_of-Branch m) → IsPart s (e.branches_entered y q (trees.branches_of b row)) → Seeks (tree.of_branches row) (branches_located x (trees.branches_of b row))
      branches_sought x y q end_of-Branch part = none
      branches_sought x y q (more_of-Branch (Branch' condition body) rest) part =
          let o : After = e.items_after (Both q) (trees.script_of b condition) in
          both (tree.of_script condition ++ tree.of_script body) (tree.of_branches rest) _ _ _ _
          (both (tree.of_script condition) (tree.of_script body) _ _ _ _ (script_sought x F6 y (Both q) condition) (script_sought x F6 y (Both (if_zero o)) body)) (branches_sought x y (if_nonzero o) rest) part

      otherwise_sought : (x : Surroundings) (y : Around) (q : Seen) (o : Held-Kind-Cond-1) → IsPart s (e.otherwise_entered y q (trees.otherwise_of b o)) → Seeks (tree.of_otherwise o) (otherwise_located x (trees.otherwise_of b o))
      otherwise_sought x y q Kind-Cond-1-None' part = none
      otherwise_sought x y q (Kind-Cond-1-Some' list) part = script_sought x F6 y (Both q) list part

      list_sought : (q : Seen) (o : Held-Kind-For-1) → IsPart s (e.for_words_entered q (trees.for_words_of b o)) → Seeks (tree.of_list o) (for_words_located (trees.for_words_of b o))
      list_sought q Kind-For-1-None' part = none
      list_sought q (Kind-For-1-Some' shape row) part = words_sought q row part

      words_sought : {m : _} (q : Seen) (row : Row_of-Word m) → IsPart s (e.words_entered q (trees.words_of b row)) → Seeks (tree.of_words row) (words_located (trees.words_of b row))
      words_sought q end_of-Word part = none
      words_sought q (more_of-Word span shape parts rest) part =
          both (tree.of_parts parts) (tree.of_words rest) _ _ _ _ (parts_sought q parts) (words_sought (gaining (word_gains (trees.word_of b parts)) q) rest) part

      patterns_sought : {m : _} (q : Seen) (row : Row_of-Word m) → IsPart s (e.patterns_entered q (trees.words_of b row)) → Seeks (tree.of_words row) (words_located (trees.words_of b row))
      patterns_sought q end_of-Word part = none
      patterns_sought q (more_of-Word span shape parts rest) part = both (tree.of_parts parts) (tree.of_words rest) _ _ _ _ (parts_sought q parts) (patterns_sought q rest) part

      clauses_sought : {m : _} (x : Surroundings) (y : Around) (q fallen : Seen) (row : Row_of-Clause m) → IsPart s (e.clauses_entered y q fallen (trees.clauses_of b row)) → Seeks (tree.of_clauses row) (clauses_located x (trees.clauses_of b row))
      clauses_sought x y q fallen end_of-Clause part = none
      clauses_sought x y q fallen (more_of-Clause (Clause' shape patterns body end) rest) part =
          both (tree.of_words patterns ++ tree.of_script body) (tree.of_clauses rest) _ _ _ _
          (both (tree.of_words patterns) (tree.of_script body) _ _ _ _ (patterns_sought q patterns) (script_sought x F9 y (Both (q ++ fallen)) body))
          (clauses_sought x y q (e.falls end (e.items_after (Both (q ++ fallen)) (trees.script_of b body))) rest) part

      parts_sought : {m : _} (q : Seen) (row : Row_of-Part m) → IsPart s (e.word_entered q (trees.word_of b row)) → Seeks (tree.of_parts row) (word_located (trees.word_of b row))
      parts_sought q end_of-Part part = none
      parts_sought q (more_of-Part z rest) part = both (tree.of_part z) (tree.of_parts rest) _ _ _ _ (part_sought q z) (parts_sought (gaining (part_gains (trees.part_of b z)) q) rest) part

      part_sought : (q : Seen) (z : Part) → IsPart s (e.part_entered q (trees.part_of b z)) → Seeks (tree.of_part z) (part_located (trees.part_of b z))
      part_sought q (Double' span shape parts) part = parts_sought q parts part
      part_sought q (Param' span subject operator) part = operator_sought q (trees.parameter_of b subject) operator part
      part_sought q (Arith' span shape expression) part = box_sought q expression part
      part_sought q (part.Command style span list) part = script_sought _ F11 e.alone (Both (without_job q)) list part
      part_sought q _ part = none

      operator_sought : (q : Seen) (parameter : p.Parameter) (o : ParameterOperator) → IsPart s (e.operator_entered q parameter (trees.operator_of b o)) → Seeks (tree.of_operator o) (operator_located (trees.operator_of b o))
      operator_sought q parameter (Use' action colon span shape parts) part = parts_sought (e.operand_seen action parameter q) parts part
      operator_sought q parameter (Remove' removal span shape parts) part = parts_sought q parts part
      operator_sought q parameter _ part = none

      box_sought : {m : _} (q : Seen) (row : Row_of-Expr m) → IsPart s (e.expression_entered q (trees.held_of b row)) → Seeks (tree.of_expressions row) (expression_located (trees.held_of b row))
      box_sought q end_of-Expr part = none
      box_sought q (more_of-Expr z rest) part = front_alone (tree.of_expression z) (tree.of_expressions rest) _ (expression_sought q z part)

      chain_sought : {m : _} (q : Seen) (row : Row_of-Expr-Chain-1-2 m) → IsPart s (e.operands_entered q (trees.operands_of b row)) → Seeks (tree.of_chain row) (operands_located (trees.operands_of b row))
      chain_sought q end_of-Expr-Chain-1-2 part = none
      chain_sought q (more_of-Expr-Chain-1-2 operator z rest) part =
          both (tree.of_expression z) (tree.of_chain rest) _ _ _ _ (expression_sought q z) (chain_sought (gaining (expanded_gains (trees.expression_of b z)) q) rest) part

      expression_sought : (q : Seen) (z : Expr) → IsPart s (e.expression_entered q (trees.expression_of b z)) → Seeks (tree.of_expression z) (expression_located (trees.expression_of b z))
      expression_sought q (Expansion z) part = part_sought q z part
      expression_sought q (Parenthesis' shape z) part = box_sought q z part
      expression_sought q (Unary' operator shape z) part = box_sought q z part
      expression_sought q (Chain' shape first shape' rest) part =
          both (tree.of_expressions first) (tree.of_chain rest) _ _ _ _ (box_sought q first) (chain_sought (gaining (expanded_gains (trees.held_of b first)) q) rest) part
      expression_sought q (Choice' shape condition shape' then_one shape'' else_one) part =
          let behind : Seen = gaining (expanded_gains (trees.held_of b condition)) q in
          both (tree.of_expressions condition ++ tree.of_expressions then_one) (tree.of_expressions else_one) _ _ _ _
          (both (tree.of_expressions condition) (tree.of_expressions then_one) _ _ _ _ (box_sought q condition) (box_sought behind then_one)) (box_sought (gaining (expanded_gains (trees.held_of b then_one)) behind) else_one) part
      expression_sought q (Assign' name operator shape z) part = box_sought q z part
      expression_sought q _ part = none

  -- in a script that is admitted each is somewhere
  module _ (admitted : IsAdmitted b s.policy.now s.tree.now s.names.now) where
    abbrev program : List Located
    program = items_located outside (trees.script_of b s.tree.now)

    whole : IsPart s (e.items_entered F1 e.alone (Both at_start) (trees.script_of b s.tree.now))
    unfolding e.script_entered
    whole = record { front = []; back = []; whole = sym (append-nil _) }

    once : (n m k : ℕ) → 0 < m → m + one_if (nat_le n 0) ≡ one_if (nat_le n k) → (0 < n) × (m ≤ 1)
    once n m k some is = (grind (arith, nat_tests, some, is), grind (arith, nat_tests, some, is))

    found_itself : (n : ℕ) (some : 0 < n) (c : Command) → IsOf c (commands_of s.tree.now) → (out-Command c).number ≡ n → times n (commands_of s.tree.now) ≤ 1 → 0 < held n program
        → Seeks n some (commands_of s.tree.now) program → Stands c
    unfolding number_in
    found_itself n some c h same few there (inl f) =
        let number : (out-Command f.command).number ≡ n = sym (ap number_in (command_of-out b f.command)) ∙ f.number in
        subst Stands (only_one n c f.command (commands_of s.tree.now) few h f.of same number) f.stands
    found_itself n some c h same few there (inr none) = absurd (omega (arith, there, none))

    stands_by : (c : Command) → IsOf c (commands_of s.tree.now) → Stands c
    stands_by c h =
        let n = (out-Command c).number in
        let reading = admitted.reading.1 in
        let tree = tree_given b s.tree.now MAX_NESTING reading.0 reading.1 n in
        let entered = read_given b s.tree.now MAX_NESTING reading.0 reading.1 n in
        let some = counted n c (commands_of s.tree.now) h refl in
        let bounds : (0 < n) × (times n (commands_of s.tree.now) ≤ 1) = once n (times n (commands_of s.tree.now)) reading.0 some tree in
        let there : 0 < held n program = omega (arith, tree, entered, some) in
        found_itself n bounds.0 c h refl bounds.1 there (script_sought n bounds.0 outside F1 e.alone (Both at_start) s.tree.now whole)

    pub unit_placed : {R : Type 0} (rs : List R) (now : R → Command) → IsPermutation (commands_of s.tree.now) (map now rs) → (i : ℕ) (r : R) → i < length rs → r ≡ get_or rs i r → Stands (now r)
    unit_placed rs now same i r low is =
        let all = All-permutation Stands (commands_of s.tree.now) (map now rs) same (all_of Stands (commands_of s.tree.now) stands_by) in
        let long = length-map rs now in
        subst Stands (get_or-map now rs i r (now r) low ∙ ap now (sym is)) (all i (now r) (omega (arith, long, low)))
