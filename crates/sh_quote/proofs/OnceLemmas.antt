-- Each place outside quotes has a spot of its own.
use Rattle.std.proofs.Common.{◌≡◌, ℕ, ◌+◌, ◌≤◌, Bool, true, false, not, ◌&&◌, if◌then◌else◌, List, [], ◌∷◌, ◌++◌, filter, option_map, unwrap_or, is_some, refl, ◌∙◌, ap, arith}
use Rattle.std.specs.List.{flat_map}
use Rattle.std.proofs.lemmas.Grind.{flat_map-append}
use Rattle.sh_tree.specs.declared.place.Code.TheVariants.{Q1}
use Rattle.sh_tree.specs.declared.place.Place.{Place}
use Rattle.sh_tree.specs.standard.program.Syntax as p
use Rattle.sh_tree.specs.standard.program.Syntax.{Word}
use Rattle.sh_tree.specs.standard.program.Trees.{script_of}
use Rattle.sh_tree.specs.standard.program.Words.{assignment_in, operands_in, static_of, words_in}
use Rattle.sh_runs.specs.standard.Kinds.{is_declaration, kind_of}
use Rattle.sh_runs.specs.Quoting.{word_begins_pattern}
use Rattle.sh_runs.specs.Surroundings.{Surroundings, Located, outside, items_located, list_located, links_located, pipeline_located, commands_located, command_located, kind_located, elements_located, redirect_located, redirects_located, branches_located, otherwise_located, for_words_located, words_located, clauses_located, word_located, part_located, operator_located, expression_located, operands_located}
use Rattle.sh_reads.specs.Spots.{Spot, OfWord, items_spots, list_spots, links_spots, pipeline_spots, commands_spots, command_spots, kind_spots, elements_spots, redirect_spots, redirects_spots, branches_spots, otherwise_spots, for_words_spots, words_spots, clauses_spots, word_spots, part_spots, operator_spots, expression_spots, operands_spots}
use Rattle.sh_reads.proofs.HitLemmas.{hits, hits_join, hits_cons, is_of_command, spots_once}
use Rattle.sh_reads.proofs.OnceLemmas.{read_spots_once}
use Rattle.sh_domain.proofs.CountLemmas.{times, times_join, times_none, places_once, word_place}
use Rattle.sh_quote.specs.Once.{UnquotedStandOnce, ReadUnquotedStandOnce}
use Rattle.sh_quote.specs.Places.{told_at, part_places, parts_places, word_places, split_operands, split_words, unquoted}
use Rattle.sh_quote.specs.Steady.{for_words, steady}

is_word : is_of_command Q1 ≡ false
unfolding is_of_command
is_word = refl

told_once : (q : Place) (b : Bool) (at : ℕ) → times q (told_at b at) ≤ hits q (OfWord at ∷ [])
unfolding told_at
told_once q true at = let none = times_none q in omega arith
told_once q false at = word_place q at Q1 [] is_word

-- The words that are split are among all words

module _ (q : Place) (f : Word → List Place) where
  -- how often the place is reported of words
  told : List Word → ℕ
  told ws = times q (flat_map f ws)

  told_more : (w : Word) (ws : List Word) → told (w ∷ ws) ≡ times q (f w) + told ws
  unfolding told
  told_more w ws = times_join q (f w) (flat_map f ws)

  fewer_kept : (test : Word → Bool) (ws : List Word) → told (filter test ws) ≤ told ws
  fewer_kept test [] = omega arith
  fewer_kept test (w ∷ ws) = go (test w) (fewer_kept test ws)
    where
      go : (t : Bool) → told (filter test ws) ≤ told ws → told (if t then w ∷ filter test ws else filter test ws) ≤ told (w ∷ ws)
      go true h = let a = told_more w (filter test ws) in let b = told_more w ws in omega arith
      go false h = let b = told_more w ws in omega arith

  fewer_if : (t : Bool) (xs ys : List Word) → told xs ≤ told ys → told (if t then xs else ys) ≤ told ys
  fewer_if true xs ys h = h
  fewer_if false xs ys h = omega arith

  pub fewer_split : (ws : List Word) → times q (flat_map f (split_operands ws)) ≤ times q (flat_map f ws)
  unfolding split_operands told
  fewer_split [] = omega arith
  fewer_split (w ∷ ws) =
      let less = fewer_if (unwrap_or (option_map (λ t. is_declaration (kind_of t)) (static_of w)) false) (filter (λ v. not (is_some (assignment_in v))) ws) ws (fewer_kept (λ v. not (is_some (assignment_in v))) ws) in
      let a = told_more w (if unwrap_or (option_map (λ t. is_declaration (kind_of t)) (static_of w)) false then filter (λ v. not (is_some (assignment_in v))) ws else ws) in
      let b = told_more w ws in
      omega arith

module _ (q : Place) (whole : Bool) where
  -- the places of a command's own words
  own : p.Command → List Place
  own c = flat_map (word_places whole) (split_words c)

  -- how often the place is reported of commands
  nested : List Located → ℕ
  nested ls = times q (flat_map (λ (l : Located). own l.command) ls)

  nested_none : nested [] ≡ 0
  unfolding nested
  nested_none = times_none q

  nested_join : (xs ys : List Located) → nested (xs ++ ys) ≡ nested xs + nested ys
  unfolding nested
  nested_join xs ys =
      ap (times q) (flat_map-append (λ (l : Located). own l.command) xs ys) ∙ times_join q (flat_map (λ (l : Located). own l.command) xs) (flat_map (λ (l : Located). own l.command) ys)

  nested_cons : (l : Located) (ls : List Located) → nested (l ∷ ls) ≡ times q (own l.command) + nested ls
  unfolding nested
  nested_cons l ls = times_join q (own l.command) (flat_map (λ (k : Located). own k.command) ls)

  -- of nothing
  nothing : times q [] + nested [] ≤ hits q []
  nothing = let a = times_none q in let b = nested_none in omega arith

  none_nested : nested [] ≤ hits q []
  none_nested = let b = nested_none in omega arith

  -- of two pieces
  two : (a b : List Place) (c d : List Located) (e f : List Spot) → times q a + nested c ≤ hits q e → times q b + nested d ≤ hits q f → times q (a ++ b) + nested (c ++ d) ≤ hits q (e ++ f)
  two a b c d e f h k = let x = times_join q a b in let y = nested_join c d in let z = hits_join q e f in omega arith

  two_nested : (c d : List Located) (e f : List Spot) → nested c ≤ hits q e → nested d ≤ hits q f → nested (c ++ d) ≤ hits q (e ++ f)
  two_nested c d e f h k = let y = nested_join c d in let z = hits_join q e f in omega arith

  -- of a piece without places of its own, or whose own places do not count
  only_nested : (c : List Located) (e : List Spot) → nested c ≤ hits q e → times q [] + nested c ≤ hits q e
  only_nested c e h = let a = times_none q in omega arith

  without : (a : List Place) (c : List Located) (e : List Spot) → times q a + nested c ≤ hits q e → nested c ≤ hits q e
  without a c e h = omega arith

  fewer : (a b : List Place) (c : List Located) (e : List Spot) → times q a ≤ times q b → times q b + nested c ≤ hits q e → times q a + nested c ≤ hits q e
  fewer a b c e h k = omega arith

  -- of places, and of commands before or after their own
  own_then : (a : List Place) (c d : List Located) (e f : List Spot) → times q a + nested c ≤ hits q e → nested d ≤ hits q f → times q a + nested (c ++ d) ≤ hits q (e ++ f)
  own_then a c d e f h k = let y = nested_join c d in let z = hits_join q e f in omega arith

  own_behind : (a : List Place) (c d : List Located) (e f : List Spot) → nested c ≤ hits q e → times q a + nested d ≤ hits q f → times q a + nested (c ++ d) ≤ hits q (e ++ f)
  own_behind a c d e f h k = let y = nested_join c d in let z = hits_join q e f in omega arith

  -- of a place, and of what is in its expansion
  place_then : (s : Spot) (a : List Place) (c : List Located) (f : List Spot) → times q a ≤ hits q (s ∷ []) → nested c ≤ hits q f → times q a + nested c ≤ hits q (s ∷ f)
  place_then s a c f h k = let z = hits_cons q s f in omega arith

  spot_skipped : (s : Spot) (c : List Located) (f : List Spot) → nested c ≤ hits q f → nested c ≤ hits q (s ∷ f)
  spot_skipped s c f h = let z = hits_cons q s f in omega arith

  no_place : (s : Spot) → times q [] + nested [] ≤ hits q (s ∷ [])
  no_place s = let a = times_none q in let b = nested_none in omega arith

  -- of a command: its own places, and what is in it
  command_whole : (s : Spot) (l : Located) (c d : List Located) (e f : List Spot) → times q (own l.command) + nested c ≤ hits q e → nested d ≤ hits q f → nested (l ∷ (c ++ d)) ≤ hits q (s ∷ (e ++ f))
  command_whole s l c d e f h k =
      let x = nested_cons l (c ++ d) in let y = nested_join c d in let z = hits_cons q s (e ++ f) in let w = hits_join q e f in omega arith

  mutual
    unfolding own part_places parts_places word_places split_words for_words operands_in words_in items_located items_spots

    items_counted : (x : Surroundings) (t : p.Items) → nested (items_located x t) ≤ hits q (items_spots t)
    items_counted x p.no_items = none_nested
    items_counted x (p.more_items list background rest) = two_nested _ _ _ _ (list_counted _ list) (items_counted x rest)

    list_counted : (x : Surroundings) (t : p.AndOr) → nested (list_located x t) ≤ hits q (list_spots t)
    list_counted x (p.and_or first rest) = two_nested _ _ _ _ (pipeline_counted x first) (links_counted x rest)

    links_counted : (x : Surroundings) (t : p.Links) → nested (links_located x t) ≤ hits q (links_spots t)
    links_counted x p.no_links = none_nested
    links_counted x (p.more_links l r rest) = two_nested _ _ _ _ (pipeline_counted x r) (links_counted x rest)

    pipeline_counted : (x : Surroundings) (t : p.Pipeline) → nested (pipeline_located x t) ≤ hits q (pipeline_spots t)
    pipeline_counted x (p.pipeline negated cs) = commands_counted _ cs

    commands_counted : (x : Surroundings) (t : p.Commands) → nested (commands_located x t) ≤ hits q (commands_spots t)
    commands_counted x p.no_commands = none_nested
    commands_counted x (p.more_commands c cs) = two_nested _ _ _ _ (command_counted x c) (commands_counted x cs)

    command_counted : (x : Surroundings) (t : p.Command) → nested (command_located x t) ≤ hits q (command_spots t)
    command_counted x (p.command n at k rs) = command_whole _ _ _ _ _ _ (kind_counted n at rs x k) (redirects_counted rs)

    kind_counted : (n at : ℕ) (rs : p.Redirects) (x : Surroundings) (t : p.Kind) → times q (own (p.command n at t rs)) + nested (kind_located x t) ≤ hits q (kind_spots t)
    kind_counted n at rs x (p.Simple es) = fewer _ _ _ _ (fewer_split q (word_places whole) (words_in (operands_in es))) (elements_counted es)
    kind_counted n at rs x (p.Group list) = only_nested _ _ (items_counted x list)
    kind_counted n at rs x (p.Subshell list) = only_nested _ _ (items_counted _ list)
    kind_counted n at rs x (p.Conditional branches otherwise) = only_nested _ _ (two_nested _ _ _ _ (branches_counted x branches) (otherwise_counted x otherwise))
    kind_counted n at rs x (p.Loop k condition body) = only_nested _ _ (two_nested _ _ _ _ (items_counted _ condition) (items_counted _ body))
    kind_counted n at rs x (p.For name ws body) = own_then _ _ _ _ _ (for_words_counted ws) (items_counted _ body)
    kind_counted n at rs x (p.Case w cs) = only_nested _ _ (two_nested _ _ _ _ (word_nested w) (clauses_counted x cs))
    kind_counted n at rs x (p.Define name body) = only_nested _ _ (command_counted _ body)

    elements_counted : (t : p.Elements) → times q (flat_map (word_places whole) (words_in (operands_in t))) + nested (elements_located t) ≤ hits q (elements_spots t)
    elements_counted p.no_elements = nothing
    elements_counted (p.assignment name value es) = own_behind _ _ _ _ _ (word_nested value) (elements_counted es)
    elements_counted (p.operand w es) = two _ _ _ _ _ _ (word_counted (whole && not (word_begins_pattern w)) w) (elements_counted es)
    elements_counted (p.redirection r es) = own_behind _ _ _ _ _ (redirect_counted r) (elements_counted es)

    redirect_counted : (t : p.Redirect) → nested (redirect_located t) ≤ hits q (redirect_spots t)
    redirect_counted (p.File w) = word_nested w
    redirect_counted (p.Here w) = word_nested w

    redirects_counted : (t : p.Redirects) → nested (redirects_located t) ≤ hits q (redirects_spots t)
    redirects_counted p.no_redirects = none_nested
    redirects_counted (p.more_redirects r rs) = two_nested _ _ _ _ (redirect_counted r) (redirects_counted rs)

    branches_counted : (x : Surroundings) (t : p.Branches) → nested (branches_located x t) ≤ hits q (branches_spots t)
    branches_counted x p.no_branches = none_nested
    branches_counted x (p.more_branches condition body rest) =
        two_nested _ _ _ _ (two_nested _ _ _ _ (items_counted x condition) (items_counted x body)) (branches_counted x rest)

    otherwise_counted : (x : Surroundings) (t : p.Otherwise) → nested (otherwise_located x t) ≤ hits q (otherwise_spots t)
    otherwise_counted x p.no_else = none_nested
    otherwise_counted x (p.else_of list) = items_counted x list

    for_words_counted : (t : p.ForWords) → times q (flat_map (word_places whole) (for_words t)) + nested (for_words_located t) ≤ hits q (for_words_spots t)
    for_words_counted p.every_parameter = nothing
    for_words_counted (p.listed ws) = split_counted ws

    split_counted : (t : p.Words) → times q (flat_map (word_places whole) (words_in t)) + nested (words_located t) ≤ hits q (words_spots t)
    split_counted p.no_words = nothing
    split_counted (p.more_words w ws) = two _ _ _ _ _ _ (word_counted (whole && not (word_begins_pattern w)) w) (split_counted ws)

    words_counted : (t : p.Words) → nested (words_located t) ≤ hits q (words_spots t)
    words_counted p.no_words = none_nested
    words_counted (p.more_words w ws) = two_nested _ _ _ _ (word_nested w) (words_counted ws)

    clauses_counted : (x : Surroundings) (t : p.Clauses) → nested (clauses_located x t) ≤ hits q (clauses_spots t)
    clauses_counted x p.no_clauses = none_nested
    clauses_counted x (p.more_clauses patterns body end rest) =
        two_nested _ _ _ _ (two_nested _ _ _ _ (words_counted patterns) (items_counted x body)) (clauses_counted x rest)

    word_nested : (t : p.Word) → nested (word_located t) ≤ hits q (word_spots t)
    word_nested p.no_parts = none_nested
    word_nested (p.more_parts y w) = two_nested _ _ _ _ (without _ _ _ (part_counted true y)) (word_nested w)

    word_counted : (numbers : Bool) (t : p.Word) → times q (parts_places numbers t) + nested (word_located t) ≤ hits q (word_spots t)
    word_counted numbers p.no_parts = nothing
    word_counted numbers (p.more_parts y w) = two _ _ _ _ _ _ (part_counted numbers y) (word_counted numbers w)

    part_counted : (numbers : Bool) (t : p.Part) → times q (part_places numbers t) + nested (part_located t) ≤ hits q (part_spots t)
    part_counted numbers (p.Double w) = only_nested _ _ (word_nested w)
    part_counted numbers (p.Expansion at parameter operator) = place_then _ _ _ _ (told_once q _ at) (operator_counted operator)
    part_counted numbers (p.Arithmetic at e) = place_then _ _ _ _ (told_once q numbers at) (expression_counted e)
    part_counted numbers (p.Substitution at list) = place_then _ _ _ _ (told_once q false at) (items_counted _ list)
    part_counted numbers (p.Tilde at login) = no_place _
    part_counted numbers t = nothing

    operator_counted : (t : p.Operator) → nested (operator_located t) ≤ hits q (operator_spots t)
    operator_counted (p.Use action colon w) = word_nested w
    operator_counted (p.Remove removal w) = word_nested w
    operator_counted t = none_nested

    expression_counted : (t : p.Expression) → nested (expression_located t) ≤ hits q (expression_spots t)
    expression_counted (p.Constant text) = none_nested
    expression_counted (p.Name at name) = spot_skipped _ _ _ none_nested
    expression_counted (p.Expanded y) = without _ _ _ (part_counted true y)
    expression_counted (p.Parenthesis e) = expression_counted e
    expression_counted (p.Signed operator e) = expression_counted e
    expression_counted (p.Chain e rest) = two_nested _ _ _ _ (expression_counted e) (operands_counted rest)
    expression_counted (p.Choice e then_one else_one) =
        two_nested _ _ _ _ (two_nested _ _ _ _ (expression_counted e) (expression_counted then_one)) (expression_counted else_one)
    expression_counted (p.Assigned at name operator e) = spot_skipped _ _ _ (expression_counted e)

    operands_counted : (t : p.Operands) → nested (operands_located t) ≤ hits q (operands_spots t)
    operands_counted p.no_operands = none_nested
    operands_counted (p.more_operands operator e rest) = two_nested _ _ _ _ (expression_counted e) (operands_counted rest)

pub unquoted_counted : (q : Place) (t : p.Items) → times q (unquoted t) ≤ hits q (items_spots t)
unfolding unquoted nested own
unquoted_counted q t = items_counted q (steady t) outside t

pub unquoted_stand_once : UnquotedStandOnce
unquoted_stand_once t h = places_once (unquoted t) (λ q. let all = unquoted_counted q t in let most = spots_once q (items_spots t) h in omega arith)

pub read_unquoted_once : ReadUnquotedStandOnce
read_unquoted_once b t reads = unquoted_stand_once (script_of b t) (read_spots_once b t reads)
