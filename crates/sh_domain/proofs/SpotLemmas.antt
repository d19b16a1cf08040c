-- Each unmet place has a spot of its own.
use Rattle.std.proofs.Common.{◌≡◌, ℕ, ◌+◌, ◌≤◌, Bool, true, false, ◌&&◌, if◌then◌else◌, Option, Some, None, List, [], ◌∷◌, ◌++◌, map, ◌∙◌, ap, arith}
use Rattle.std.specs.List.{flat_map}
use Rattle.std.proofs.lemmas.Grind.{flat_map-append}
use Rattle.sh_tree.specs.declared.place.Code.{Code}
use Rattle.sh_tree.specs.declared.place.Code.TheVariants.{U1, U2, U3}
use Rattle.sh_tree.specs.declared.place.Place.{Place}
use Rattle.sh_tree.specs.declared.tree.Action.TheVariants as action
use Rattle.sh_tree.specs.standard.program.Syntax as p
use Rattle.sh_tree.specs.standard.program.Syntax.{Text}
use Rattle.sh_tree.specs.standard.program.Trees.{script_of}
use Rattle.sh_domain.specs.declared.rule.FlowRule.{FlowRule}
use Rattle.sh_domain.specs.Demands.{elements_unmet, clauses_unmet, for_words_unmet, kind_unmet, dropped, command_moves, drop_at, move_at, is_reached, shared_unmet, unmet, demands}
use Rattle.sh_domain.specs.Entries.{Around, Entered, items_entered, list_entered, links_entered, pipeline_entered, commands_entered, command_entered, kind_entered, elements_entered, redirect_entered, redirects_entered, branches_entered, otherwise_entered, for_words_entered, words_entered, clauses_entered, patterns_entered, word_entered, part_entered, operator_entered, expression_entered, operands_entered, script_entered}
use Rattle.sh_domain.specs.Facts.{Facts, facts, claims, Variable}
use Rattle.sh_domain.specs.Gains.{with_gains, redirects_gains}
use Rattle.sh_domain.specs.Needs.{wanted, covers, parameter_text, needed, name_needed, target_needed, reads_unmet, operands_read, part_unmet, word_unmet, operator_unmet, expanded_unmet, operands_expanded, words_unmet, patterns_unmet, redirect_unmet, redirects_unmet}
use Rattle.sh_domain.specs.Rules.{functions_of, losses}
use Rattle.sh_reads.specs.Spots.{Spot, OfCommand, OfWord, items_spots, list_spots, links_spots, pipeline_spots, commands_spots, command_spots, kind_spots, elements_spots, redirect_spots, redirects_spots, branches_spots, otherwise_spots, for_words_spots, words_spots, clauses_spots, word_spots, part_spots, operator_spots, expression_spots, operands_spots}
use Rattle.sh_domain.specs.Places.{PlacesStandOnce, ReadPlacesStandOnce}
use Rattle.sh_domain.specs.Views.{Certificate, Before, Seen, After, lost}
use Rattle.sh_domain.proofs.CountLemmas.{times, times_join, times_none, places_once, word_place, is_word_U1, is_word_U2, is_word_U3, names_once, shared_once}
use Rattle.sh_reads.proofs.HitLemmas.{hits, hits_join, hits_cons, spots_once}
use Rattle.sh_reads.proofs.OnceLemmas.{read_spots_once}

-- A place that is wanted

wanted_once : (q : Place) (b : Bool) (at : ℕ) (code : Code) (t : Text) → times q (record { at = at; code = code; subject = t } ∷ []) ≤ hits q (OfWord at ∷ []) → times q (wanted b at code t) ≤ hits q (OfWord at ∷ [])
unfolding wanted
wanted_once q true at code t h = let none = times_none q in omega arith
wanted_once q false at code t h = h

needed_once : (q : Place) (f : Facts) (at : ℕ) (x : p.Parameter) → times q (needed f at x) ≤ hits q (OfWord at ∷ [])
needed_once q f at x = wanted_once q (covers f x) at U1 (parameter_text x) (word_place q at U1 _ is_word_U1)

name_once : (q : Place) (f : Facts) (code : Code) (at : ℕ) (name : Text) → times q (record { at = at; code = code; subject = name } ∷ []) ≤ hits q (OfWord at ∷ []) → times q (name_needed f code at name) ≤ hits q (OfWord at ∷ [])
unfolding name_needed
name_once q f code at name h = wanted_once q (claims f (Variable name)) at code name h

target_once : {A : Type 0} (q : Place) (f : Facts) (o : Option A) (at : ℕ) (name : Text) → times q (target_needed f o at name) ≤ hits q (OfWord at ∷ [])
unfolding target_needed
target_once q f None at name = let none = times_none q in omega arith
target_once q f (Some operator) at name = name_once q f U3 at name (word_place q at U3 name is_word_U3)

module _ (U : Entered → List Place) (q : Place) (known : ℕ → Facts) where
  -- how often the place is reported of commands
  nested : List Entered → ℕ
  nested es = times q (flat_map U es)

  nested_none : nested [] ≡ 0
  unfolding nested
  nested_none = times_none q

  nested_join : (xs ys : List Entered) → nested (xs ++ ys) ≡ nested xs + nested ys
  unfolding nested
  nested_join xs ys = ap (times q) (flat_map-append U xs ys) ∙ times_join q (flat_map U xs) (flat_map U ys)

  nested_cons : (e : Entered) (es : List Entered) → nested (e ∷ es) ≡ times q (U e) + nested es
  unfolding nested
  nested_cons e es = times_join q (U e) (flat_map U es)

  -- of nothing
  nothing : times q [] + nested [] ≤ hits q []
  nothing = let a = times_none q in let b = nested_none in omega arith

  none_nested : nested [] ≤ hits q []
  none_nested = let b = nested_none in omega arith

  -- of two pieces
  two : (a b : List Place) (c d : List Entered) (e f : List Spot) → times q a + nested c ≤ hits q e → times q b + nested d ≤ hits q f → times q (a ++ b) + nested (c ++ d) ≤ hits q (e ++ f)
  two a b c d e f h k = let x = times_join q a b in let y = nested_join c d in let z = hits_join q e f in omega arith

  two_nested : (c d : List Entered) (e f : List Spot) → nested c ≤ hits q e → nested d ≤ hits q f → nested (c ++ d) ≤ hits q (e ++ f)
  two_nested c d e f h k = let y = nested_join c d in let z = hits_join q e f in omega arith

  -- of a piece without words of its own
  only_nested : (c : List Entered) (e : List Spot) → nested c ≤ hits q e → times q [] + nested c ≤ hits q e
  only_nested c e h = let a = times_none q in omega arith

  -- of words, and of what is in commands after them
  own_then : (a : List Place) (c d : List Entered) (e f : List Spot) → times q a + nested c ≤ hits q e → nested d ≤ hits q f → times q a + nested (c ++ d) ≤ hits q (e ++ f)
  own_then a c d e f h k = let y = nested_join c d in let z = hits_join q e f in omega arith

  -- of a place, and of what comes after it
  place_then : (s : Spot) (a b : List Place) (c : List Entered) (f : List Spot) → times q a ≤ hits q (s ∷ []) → times q b + nested c ≤ hits q f → times q (a ++ b) + nested c ≤ hits q (s ∷ f)
  place_then s a b c f h k = let x = times_join q a b in let z = hits_cons q s f in omega arith

  place_only : (s : Spot) (a : List Place) → times q a ≤ hits q (s ∷ []) → times q a + nested [] ≤ hits q (s ∷ [])
  place_only s a h = let b = nested_none in omega arith

  place_skipped : (s : Spot) (b : List Place) (c : List Entered) (f : List Spot) → times q b + nested c ≤ hits q f → times q b + nested c ≤ hits q (s ∷ f)
  place_skipped s b c f h = let z = hits_cons q s f in omega arith

  no_place : (s : Spot) → times q [] + nested [] ≤ hits q (s ∷ [])
  no_place s = let a = times_none q in let b = nested_none in omega arith

  -- of arithmetic: its expansions, the names that it reads, and what is in it
  three : (a b v w : List Place) (c d : List Entered) (e f : List Spot) → times q a + times q v + nested c ≤ hits q e → times q b + times q w + nested d ≤ hits q f
      → times q (a ++ b) + times q (v ++ w) + nested (c ++ d) ≤ hits q (e ++ f)
  three a b v w c d e f h k = let x = times_join q a b in let u = times_join q v w in let y = nested_join c d in let z = hits_join q e f in omega arith

  three_none : times q [] + times q [] + nested [] ≤ hits q []
  three_none = let a = times_none q in let b = nested_none in omega arith

  read_only : (s : Spot) (v : List Place) → times q v ≤ hits q (s ∷ []) → times q [] + times q v + nested [] ≤ hits q (s ∷ [])
  read_only s v h = let a = times_none q in let b = nested_none in omega arith

  read_then : (s : Spot) (a v w : List Place) (c : List Entered) (f : List Spot) → times q v ≤ hits q (s ∷ []) → times q a + times q w + nested c ≤ hits q f → times q a + times q (v ++ w) + nested c ≤ hits q (s ∷ f)
  read_then s a v w c f h k = let x = times_join q v w in let z = hits_cons q s f in omega arith

  expanded_only : (a : List Place) (c : List Entered) (e : List Spot) → times q a + nested c ≤ hits q e → times q a + times q [] + nested c ≤ hits q e
  expanded_only a c e h = let b = times_none q in omega arith

  joined : (a v : List Place) (c : List Entered) (e : List Spot) → times q a + times q v + nested c ≤ hits q e → times q (a ++ v) + nested c ≤ hits q e
  joined a v c e h = let x = times_join q a v in omega arith

  -- of a command that is there: its own places, those of its words, and what is in it
  whole : (s : Spot) (own : Entered) (r k : List Place) (c d : List Entered) (e f : List Spot) → times q (U own) ≤ hits q (s ∷ []) + times q r + times q k
      → times q r + nested c ≤ hits q f → times q k + nested d ≤ hits q e → nested (own ∷ (c ++ d)) ≤ hits q (s ∷ (e ++ f))
  whole s own r k c d e f h i j =
      let x = nested_cons own (c ++ d) in let y = nested_join c d in let z = hits_cons q s (e ++ f) in let w = hits_join q e f in omega arith

  module _
      (own :
      (n at : ℕ) (k : p.Kind) (rs : p.Redirects) (rule : FlowRule) (x : Around) (s : Seen)
      → times q (U (record { command = p.command n at k rs; rule = rule; around = x; seen = s }))
      ≤ hits q (OfCommand at ∷ []) + times q (redirects_unmet (known n) rs) + times q (kind_unmet (with_gains (redirects_gains rs) (known n)) k))
    where
      mutual
        unfolding word_unmet reads_unmet elements_unmet clauses_unmet for_words_unmet kind_unmet words_unmet patterns_unmet redirect_unmet redirects_unmet word_entered word_spots

        items_counted : (by : FlowRule) (x : Around) (o : After) (t : p.Items) → nested (items_entered by x o t) ≤ hits q (items_spots t)
        items_counted by x o p.no_items = none_nested
        items_counted by x o (p.more_items list background rest) = two_nested _ _ _ _ (list_counted _ _ _ list) (items_counted _ x _ rest)

        list_counted : (by : FlowRule) (x : Around) (s : Seen) (t : p.AndOr) → nested (list_entered by x s t) ≤ hits q (list_spots t)
        list_counted by x s (p.and_or first rest) = two_nested _ _ _ _ (pipeline_counted by x s first) (links_counted x _ rest)

        links_counted : (x : Around) (o : After) (t : p.Links) → nested (links_entered x o t) ≤ hits q (links_spots t)
        links_counted x o p.no_links = none_nested
        links_counted x o (p.more_links l r rest) = two_nested _ _ _ _ (pipeline_counted _ x _ r) (links_counted x _ rest)

        pipeline_counted : (by : FlowRule) (x : Around) (s : Seen) (t : p.Pipeline) → nested (pipeline_entered by x s t) ≤ hits q (pipeline_spots t)
        pipeline_counted by x s (p.pipeline negated cs) = commands_counted _ _ _ cs

        commands_counted : (by : FlowRule) (x : Around) (s : Seen) (t : p.Commands) → nested (commands_entered by x s t) ≤ hits q (commands_spots t)
        commands_counted by x s p.no_commands = none_nested
        commands_counted by x s (p.more_commands c cs) = two_nested _ _ _ _ (command_counted by x s c) (commands_counted by x s cs)

        command_counted : (by : FlowRule) (x : Around) (s : Seen) (t : p.Command) → nested (command_entered by x s t) ≤ hits q (command_spots t)
        command_counted by x s (p.command n offset k rs) = whole _ _ _ _ _ _ _ _ (own n offset k rs by x s) (redirects_counted _ _ rs) (kind_counted _ x n _ k)

        kind_counted : (f : Facts) (x : Around) (n : ℕ) (s : Seen) (t : p.Kind) → times q (kind_unmet f t) + nested (kind_entered x n s t) ≤ hits q (kind_spots t)
        kind_counted f x n s (p.Simple es) = elements_counted _ _ _ _ es
        kind_counted f x n s (p.Group list) = only_nested _ _ (items_counted _ x _ list)
        kind_counted f x n s (p.Subshell list) = only_nested _ _ (items_counted _ _ _ list)
        kind_counted f x n s (p.Conditional branches otherwise) = only_nested _ _ (two_nested _ _ _ _ (branches_counted x s branches) (otherwise_counted x _ otherwise))
        kind_counted f x n s (p.Loop k condition body) = only_nested _ _ (two_nested _ _ _ _ (items_counted _ _ _ condition) (items_counted _ _ _ body))
        kind_counted f x n s (p.For name ws body) = own_then _ _ _ _ _ (for_words_counted f s ws) (items_counted _ _ _ body)
        kind_counted f x n s (p.Case w cs) = two _ _ _ _ _ _ (word_counted f s w) (clauses_counted _ x _ _ cs)
        kind_counted f x n s (p.Define name body) = only_nested _ _ (command_counted _ _ _ body)

        elements_counted : (f g : Facts) (s behind : Seen) (t : p.Elements) → times q (elements_unmet f g t) + nested (elements_entered s behind t) ≤ hits q (elements_spots t)
        elements_counted f g s behind p.no_elements = nothing
        elements_counted f g s behind (p.assignment name value es) = two _ _ _ _ _ _ (word_counted g behind value) (elements_counted f g s behind es)
        elements_counted f g s behind (p.operand w es) = two _ _ _ _ _ _ (word_counted f s w) (elements_counted _ g _ behind es)
        elements_counted f g s behind (p.redirection r es) = two _ _ _ _ _ _ (redirect_counted g behind r) (elements_counted f g s behind es)

        redirect_counted : (f : Facts) (s : Seen) (t : p.Redirect) → times q (redirect_unmet f t) + nested (redirect_entered s t) ≤ hits q (redirect_spots t)
        redirect_counted f s (p.File w) = word_counted f s w
        redirect_counted f s (p.Here w) = word_counted f s w

        redirects_counted : (f : Facts) (s : Seen) (t : p.Redirects) → times q (redirects_unmet f t) + nested (redirects_entered s t) ≤ hits q (redirects_spots t)
        redirects_counted f s p.no_redirects = nothing
        redirects_counted f s (p.more_redirects r rs) = two _ _ _ _ _ _ (redirect_counted f s r) (redirects_counted _ _ rs)

        branches_counted : (x : Around) (s : Seen) (t : p.Branches) → nested (branches_entered x s t) ≤ hits q (branches_spots t)
        branches_counted x s p.no_branches = none_nested
        branches_counted x s (p.more_branches condition body rest) =
            two_nested _ _ _ _ (two_nested _ _ _ _ (items_counted _ x _ condition) (items_counted _ x _ body)) (branches_counted x _ rest)

        otherwise_counted : (x : Around) (s : Seen) (t : p.Otherwise) → nested (otherwise_entered x s t) ≤ hits q (otherwise_spots t)
        otherwise_counted x s p.no_else = none_nested
        otherwise_counted x s (p.else_of list) = items_counted _ x _ list

        for_words_counted : (f : Facts) (s : Seen) (t : p.ForWords) → times q (for_words_unmet f t) + nested (for_words_entered s t) ≤ hits q (for_words_spots t)
        for_words_counted f s p.every_parameter = nothing
        for_words_counted f s (p.listed ws) = words_counted f s ws

        words_counted : (f : Facts) (s : Seen) (t : p.Words) → times q (words_unmet f t) + nested (words_entered s t) ≤ hits q (words_spots t)
        words_counted f s p.no_words = nothing
        words_counted f s (p.more_words w ws) = two _ _ _ _ _ _ (word_counted f s w) (words_counted _ _ ws)

        patterns_counted : (f : Facts) (s : Seen) (t : p.Words) → times q (patterns_unmet f t) + nested (patterns_entered s t) ≤ hits q (words_spots t)
        patterns_counted f s p.no_words = nothing
        patterns_counted f s (p.more_words w ws) = two _ _ _ _ _ _ (word_counted f s w) (patterns_counted f s ws)

        clauses_counted : (f : Facts) (x : Around) (s fallen : Seen) (t : p.Clauses) → times q (clauses_unmet f t) + nested (clauses_entered x s fallen t) ≤ hits q (clauses_spots t)
        clauses_counted f x s fallen p.no_clauses = nothing
        clauses_counted f x s fallen (p.more_clauses patterns body end rest) =
            two _ _ _ _ _ _ (own_then _ _ _ _ _ (patterns_counted f s patterns) (items_counted _ x _ body)) (clauses_counted f x s _ rest)

        word_counted : (f : Facts) (s : Seen) (t : p.Word) → times q (word_unmet f t) + nested (word_entered s t) ≤ hits q (word_spots t)
        word_counted f s p.no_parts = nothing
        word_counted f s (p.more_parts y w) = two _ _ _ _ _ _ (part_counted f s y) (word_counted _ _ w)

        part_counted : (f : Facts) (s : Seen) (t : p.Part) → times q (part_unmet f t) + nested (part_entered s t) ≤ hits q (part_spots t)
        part_counted f s (p.Double w) = word_counted f s w
        part_counted f s (p.Expansion offset parameter operator) = operator_counted f s offset parameter operator
        part_counted f s (p.Arithmetic offset e) = place_skipped _ _ _ _ (joined _ _ _ _ (expression_counted f _ s e))
        part_counted f s (p.Substitution offset list) = place_skipped _ _ _ _ (only_nested _ _ (items_counted _ _ _ list))
        part_counted f s (p.Tilde offset []) = place_only _ _ (name_once q f U2 offset _ (word_place q offset U2 _ is_word_U2))
        part_counted f s (p.Tilde offset (c ∷ login)) = no_place _
        part_counted f s t = nothing

        operator_counted : (f : Facts) (s : Seen) (offset : ℕ) (parameter : p.Parameter) (t : p.Operator)
            → times q (operator_unmet f offset parameter t) + nested (operator_entered s parameter t) ≤ hits q (OfWord offset ∷ operator_spots t)
        operator_counted f s offset parameter p.Value = place_only _ _ (needed_once q f offset parameter)
        operator_counted f s offset parameter p.Length = place_only _ _ (needed_once q f offset parameter)
        operator_counted f s offset parameter (p.Remove removal w) = place_then _ _ _ _ _ (needed_once q f offset parameter) (word_counted f s w)
        operator_counted f s offset parameter (p.Use action.Alternative colon w) = place_skipped _ _ _ _ (word_counted _ _ w)
        operator_counted f s offset parameter (p.Use _ colon w) = place_skipped _ _ _ _ (word_counted _ _ w)

        expression_counted : (f g : Facts) (s : Seen) (t : p.Expression) → times q (expanded_unmet f t) + times q (reads_unmet g t) + nested (expression_entered s t) ≤ hits q (expression_spots t)
        expression_counted f g s (p.Constant text) = three_none
        expression_counted f g s (p.Name offset name) = read_only _ _ (name_once q g U3 offset name (word_place q offset U3 name is_word_U3))
        expression_counted f g s (p.Expanded y) = expanded_only _ _ _ (part_counted f s y)
        expression_counted f g s (p.Parenthesis e) = expression_counted f g s e
        expression_counted f g s (p.Signed operator e) = expression_counted f g s e
        expression_counted f g s (p.Chain e rest) = three _ _ _ _ _ _ _ _ (expression_counted f g s e) (operands_counted _ g _ rest)
        expression_counted f g s (p.Choice e then_one else_one) =
            three _ _ _ _ _ _ _ _ (three _ _ _ _ _ _ _ _ (expression_counted f g s e) (expression_counted _ g _ then_one)) (expression_counted _ g _ else_one)
        expression_counted f g s (p.Assigned offset name operator e) = read_then _ _ _ _ _ _ (target_once q g operator offset name) (expression_counted f g s e)

        operands_counted : (f g : Facts) (s : Seen) (t : p.Operands) → times q (operands_expanded f t) + times q (operands_read g t) + nested (operands_entered s t) ≤ hits q (operands_spots t)
        operands_counted f g s p.no_operands = three_none
        operands_counted f g s (p.more_operands operator e rest) = three _ _ _ _ _ _ _ _ (expression_counted f g s e) (operands_counted _ g _ rest)

-- A command's own places

shared_or_not : (q : Place) (at : ℕ) (shares : Bool) (xs : List Place) → times q xs ≤ hits q (OfCommand at ∷ []) → times q (if shares then xs else []) ≤ hits q (OfCommand at ∷ [])
shared_or_not q at true xs h = h
shared_or_not q at false xs h = let none = times_none q in omega arith

own_counted : (start : Facts) (c : Certificate) (functions : List Text) (q : Place) (n at : ℕ) (k : p.Kind) (rs : p.Redirects) (rule : FlowRule) (x : Around) (s : Seen)
    → times q (unmet start c functions (record { command = p.command n at k rs; rule = rule; around = x; seen = s }))
    ≤ hits q (OfCommand at ∷ []) + times q (redirects_unmet (facts (c.claim (Before n))) rs) + times q (kind_unmet (with_gains (redirects_gains rs) (facts (c.claim (Before n)))) k)
unfolding unmet shared_unmet
own_counted start c functions q n at k rs rule x s =
    let e : Entered = record { command = p.command n at k rs; rule = rule; around = x; seen = s } in
    let f = facts (c.claim (Before n)) in
    let shared = map (drop_at at) (dropped start c n (losses functions e)) ++ move_at at (command_moves functions k && is_reached f) in
    let most = shared_or_not q at x.shares shared (shared_once q at (dropped start c n (losses functions e)) _ (names_once (map (lost start c n) (losses functions e)))) in
    let inner = times_join q (redirects_unmet f rs) (kind_unmet (with_gains (redirects_gains rs) f) k) in
    let outer = times_join q (redirects_unmet f rs ++ kind_unmet (with_gains (redirects_gains rs) f) k) (if x.shares then shared else []) in
    omega arith

pub script_counted : (start : Facts) (c : Certificate) (q : Place) (t : p.Items) → times q (demands start c t) ≤ hits q (items_spots t)
unfolding demands script_entered nested
script_counted start c q t =
    items_counted (unmet start c (functions_of (script_entered t))) q (λ n. facts (c.claim (Before n))) (own_counted start c (functions_of (script_entered t)) q) _ _ _ t

pub places_stand_once : PlacesStandOnce
places_stand_once start c t h = places_once (demands start c t) (λ q. let all = script_counted start c q t in let most = spots_once q (items_spots t) h in omega arith)

pub read_places_once : ReadPlacesStandOnce
read_places_once start c b t reads = places_stand_once start c (script_of b t) (read_spots_once b t reads)
