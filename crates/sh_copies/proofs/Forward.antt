-- Whatever is read ends no earlier than it begins.
use Rattle.std.proofs.Common.{ℕ, ◌+◌, ◌≤◌, Bool, true, false, if◌then◌else◌, Option, List, le_refl, le_trans, arith}
use Rattle.sh_tree.specs.declared.tree.AndOr.{AndOr}
use Rattle.sh_tree.specs.declared.tree.Binary.{Binary}
use Rattle.sh_tree.specs.declared.tree.Branch.{Branch}
use Rattle.sh_tree.specs.declared.tree.Clause.{Clause}
use Rattle.sh_tree.specs.declared.tree.Command.{Command}
use Rattle.sh_tree.specs.declared.tree.Element.{Element}
use Rattle.sh_tree.specs.declared.tree.Expr.{Expr}
use Rattle.sh_tree.specs.declared.tree.Item.{Item}
use Rattle.sh_tree.specs.declared.tree.Kind.{Kind}
use Rattle.sh_tree.specs.declared.tree.Link.{Link}
use Rattle.sh_tree.specs.declared.tree.Part.{Part}
use Rattle.sh_tree.specs.declared.tree.Pipe.{Pipe}
use Rattle.sh_tree.specs.declared.tree.Redirect.{Redirect}
use Rattle.sh_tree.specs.declared.tree.Script.{Script}
use Rattle.sh_tree.specs.declared.tree.Word.{Word}
use Rattle.sh_tree.specs.declared.token.arithmetic.Figure.{Figure}
use Rattle.sh_tree.specs.declared.token.command.Lead.{Lead}
use Rattle.sh_tree.specs.declared.token.command.Stage.{Stage}
use Rattle.sh_tree.specs.declared.token.command.Stage.TheVariants.{Named}
use Rattle.sh_tree.specs.declared.token.word.Context.{Context}
use Rattle.sh_tree.specs.declared.token.word.Sign.{Sign}
use Rattle.sh_tree.specs.standard.language.Arithmetic.{lexeme}
use Rattle.sh_tree.specs.standard.language.Commands.{is_newline_lead, is_open}
use Rattle.sh_tree.specs.standard.language.HereDocuments.{Mark}
use Rattle.sh_tree.specs.standard.language.Substitutions.{commands_text}
use Rattle.sh_tree.specs.standard.language.Reading as r
use Rattle.sh_tree.specs.standard.language.Reading.{over, lead_of, lead_here, skip, behind_name, parted, unopened, ReadsParts, ReadsPart, ReadsExpression, ReadsConditional, ReadsLevel, ReadsOperands, ReadsUnary, ReadsWord, ReadsRedirect, ReadsRedirects, ReadsDocuments, ReadsBreaks, ReadsElements, ReadsCommand, ReadsCompound, ReadsDo, ReadsBranches, ReadsElse, ReadsForWords, ReadsWords, ReadsClauses, ReadsPatterns, ReadsPipeline, ReadsCommands, ReadsAndOr, ReadsLinks, ReadsItems, ReadsList, ReadsSequence, ReadsScript}
use Rattle.sh_tree.specs.standard.language.States.{Spot, State, Document, begun, next, past}
use Rattle.sh_reads.proofs.FigureLemmas.{figure_moves}
use Rattle.sh_reads.proofs.MoveLemmas.{blanks_move, name_moves, redirection_moves, line_behind, end_line_moves}
use Rattle.sh_reads.proofs.TakeLemmas.{token_moves}

pub over_forward : (b : List ℕ) (s : Spot) → s.at ≤ (over b s).at
over_forward b s = let m = figure_moves b s in le_trans m.0 m.1

pub next_forward : (b : List ℕ) (i : ℕ) (s : State) → i ≤ (next b i s).spot.at
next_forward b i s = blanks_move s.spot.joins b i

pub skip_forward : (b : List ℕ) (n : ℕ) (s : State) → s.spot.at ≤ (skip b n s).spot.at
skip_forward b n s = let m = blanks_move s.spot.joins b (s.spot.at + n) in omega arith

pub name_forward : (b : List ℕ) (s : State) → s.spot.at ≤ (behind_name b s).spot.at
name_forward b s = le_trans (name_moves b s.spot.at) (blanks_move s.spot.joins b _)

either_forward : (n : ℕ) (t : Bool) (s u : State) → n ≤ s.spot.at → n ≤ u.spot.at → n ≤ (if t then s else u).spot.at
either_forward n true s u h k = h
either_forward n false s u h k = k

pub parted_forward : (b : List ℕ) (s : State) → s.spot.at ≤ (parted b s).spot.at
parted_forward b s = either_forward s.spot.at (is_newline_lead (lead_here b s)) s (skip b 1 s) (le_refl _) (skip_forward b 1 s)

pub unopened_forward : (b : List ℕ) (s : State) → s.spot.at ≤ (unopened b s).spot.at
unopened_forward b s = either_forward s.spot.at (is_open (lead_of b (Named false) s)) (skip b 1 s) s (skip_forward b 1 s) (le_refl _)

module _ {limit : ℕ} where
  mutual
    pub parts_forward : {b : List ℕ} {x : Context} {prior : ℕ} {s u : Spot} {ps : List Part} → ReadsParts limit b x prior s u ps → s.at ≤ u.at
    parts_forward {b = b} (r.stop {x = x} {prior = prior} {s = s} h) = token_moves b x prior s.at
    parts_forward {b = b} (r.tabs {x = x} {prior = prior} {s = s} h i) = le_trans (token_moves b x prior s.at) (parts_forward i)
    parts_forward {b = b} (r.more {x = x} {prior = prior} {s = s} h i j) = le_trans (token_moves b x prior s.at) (le_trans (part_forward i) (parts_forward j))

    pub part_forward : {b : List ℕ} {x : Context} {g : Sign} {s u : Spot} {e : ℕ} {p : Part} → ReadsPart limit b x g s e u p → e ≤ u.at
    part_forward r.plain = le_refl _
    part_forward r.escaped = le_refl _
    part_forward r.joined = le_refl _
    part_forward r.single_quoted = le_refl _
    part_forward r.tilde = le_refl _
    part_forward (r.double_quoted i) = parts_forward i
    part_forward r.value = le_refl _
    part_forward r.length_value = le_refl _
    part_forward (r.use_word d i) = parts_forward i
    part_forward (r.removal d i) = parts_forward i
    part_forward {b = b} (r.arithmetic {u = u} d i h c) = let m = over_forward b u in let k = expression_forward i in omega arith
    part_forward {b = b} (r.substitution {s = s} {e = e} {style = style} d k i c) =
        let m = blanks_move s.joins (commands_text style b e) e in
        let h = script_forward i in
        omega arith

    pub expression_forward : {b : List ℕ} {x : Context} {s u : Spot} {e : Expr} → ReadsExpression limit b x s u e → s.at ≤ u.at
    expression_forward {b = b} (r.assignment {s = s} n a d i) = le_trans (over_forward b s) (le_trans (over_forward b (over b s)) (expression_forward i))
    expression_forward (r.no_assignment h i) = conditional_forward i

    pub conditional_forward : {b : List ℕ} {x : Context} {s u : Spot} {e : Expr} → ReadsConditional limit b x s u e → s.at ≤ u.at
    conditional_forward (r.one_level i h) = level_forward i
    conditional_forward {b = b} (r.choice {u = u} {v = v} i h d j k n) =
        le_trans (level_forward i) (le_trans (over_forward b u) (le_trans (expression_forward j) (le_trans (over_forward b v) (conditional_forward n))))

    pub level_forward : {b : List ℕ} {x : Context} {l : ℕ} {s u : Spot} {e : Expr} → ReadsLevel limit b x l s u e → s.at ≤ u.at
    level_forward (r.chain l i j) = le_trans (level_forward i) (operands_forward j)
    level_forward (r.operand l h i) = unary_forward i

    pub operands_forward : {b : List ℕ} {x : Context} {l : ℕ} {s u : Spot} {es : List (Binary × Expr)} → ReadsOperands limit b x l s u es → s.at ≤ u.at
    operands_forward (r.no_operand h) = le_refl _
    operands_forward {b = b} (r.more_operands {s = s} h i j) = le_trans (over_forward b s) (le_trans (level_forward i) (operands_forward j))

    pub unary_forward : {b : List ℕ} {x : Context} {g : Figure} {s u : Spot} {e : Expr} → ReadsUnary limit b x g s u e → s.at ≤ u.at
    unary_forward {b = b} (r.constant {s = s}) = over_forward b s
    unary_forward {b = b} (r.variable {s = s}) = over_forward b s
    unary_forward {b = b} (r.signed {s = s} h d i) = le_trans (over_forward b s) (level_forward i)
    unary_forward {b = b} (r.parenthesis {s = s} {u = u} d i h) = le_trans (over_forward b s) (le_trans (expression_forward i) (over_forward b u))
    unary_forward {b = b} (r.expansion {x = x} {s = s} h k i) =
        le_trans (figure_moves b s).0 (le_trans (token_moves b x 0 (lexeme b s.at).start) (part_forward i))

    pub word_forward : {b : List ℕ} {x : Context} {s u : Spot} {w : Word} → ReadsWord limit b x s u w → s.at ≤ u.at
    word_forward (r.whole_word i h k) = parts_forward i

    pub redirect_forward : {b : List ℕ} {body : ℕ → Document} {s u : State} {y : Redirect} → ReadsRedirect limit b body s u y → s.spot.at ≤ u.spot.at
    redirect_forward {b = b} (r.file {s = s} {u = u} {r = o} h d k w) =
        let m = redirection_moves b s.spot.at o h in
        let first = next_forward b o.end s in
        let inside = word_forward w in
        let behind = blanks_move s.spot.joins b u.at in
        omega arith
    redirect_forward {b = b} (r.here_document {s = s} {u = u} {r = o} h t k w d) =
        let m = redirection_moves b s.spot.at o h in
        let first = next_forward b o.end s in
        let inside = word_forward w in
        let behind = blanks_move s.spot.joins b u.at in
        omega arith

    pub redirects_forward : {b : List ℕ} {body : ℕ → Document} {s u : State} {ys : List Redirect} → ReadsRedirects limit b body s u ys → s.spot.at ≤ u.spot.at
    redirects_forward (r.no_redirect h) = le_refl _
    redirects_forward (r.more_redirects h i j) = le_trans (redirect_forward i) (redirects_forward j)

    pub documents_forward : {b : List ℕ} {ms : List Mark} {s u : State} → ReadsDocuments limit b ms s u → s.spot.at ≤ u.spot.at
    documents_forward r.no_body = le_refl _
    documents_forward {b = b} (r.more_bodies {s = s} {m = m} {l = l} h a k ps n ds) =
        let lines = end_line_moves m b s.spot.at l h in
        le_trans lines.0 (le_trans lines.1 (le_trans (line_behind b l.end) (documents_forward ds)))

    pub breaks_forward : {b : List ℕ} {s u : State} → ReadsBreaks limit b s u → s.spot.at ≤ u.spot.at
    breaks_forward (r.no_break h) = le_refl _
    breaks_forward {b = b} (r.more_breaks {s = s} {u = u} h q ds k) =
        let first = documents_forward ds in
        let second = next_forward b u.spot.at u in
        let third = breaks_forward k in
        omega arith

    pub elements_forward : {b : List ℕ} {body : ℕ → Document} {g : Stage} {s u : State} {es : List Element} → ReadsElements limit b body g s u es → s.spot.at ≤ u.spot.at
    elements_forward (r.no_element h) = le_refl _
    elements_forward {b = b} (r.assigned_element {s = s} {u = u} h w es) =
        let name = name_moves b s.spot.at in
        let inside = word_forward w in
        let behind = blanks_move s.spot.joins b u.at in
        let rest = elements_forward es in
        omega arith
    elements_forward {b = b} (r.word_element {s = s} {u = u} h w es) = le_trans (word_forward w) (le_trans (blanks_move s.spot.joins b u.at) (elements_forward es))
    elements_forward (r.redirect_element h i es) = le_trans (redirect_forward i) (elements_forward es)

    pub command_forward : {b : List ℕ} {body : ℕ → Document} {s u : State} {c : Command} → ReadsCommand limit b body s u c → s.spot.at ≤ u.spot.at
    command_forward (r.simple_command h es) = elements_forward es
    command_forward (r.compound_command h k rs) = le_trans (compound_forward k) (redirects_forward rs)
    command_forward {b = b} (r.definition {s = s} h o p k i c) =
        let name = behind_name b (begun s) in
        let inside = skip b 1 name in
        le_trans (name_forward b (begun s)) (le_trans (skip_forward b 1 name) (le_trans (skip_forward b 1 inside) (le_trans (breaks_forward k) (command_forward c))))

    pub compound_forward : {b : List ℕ} {body : ℕ → Document} {l : Lead} {s u : State} {k : Kind} → ReadsCompound limit b body l s u k → s.spot.at ≤ u.spot.at
    compound_forward {b = b} (r.group {s = s} {u = u} d t h) = le_trans (skip_forward b 1 s) (le_trans (list_forward t) (skip_forward b 1 u))
    compound_forward {b = b} (r.subshell {s = s} {u = u} d t h) = le_trans (skip_forward b 1 s) (le_trans (list_forward t) (skip_forward b 1 u))
    compound_forward {b = b} (r.cond {s = s} d bs) = le_trans (skip_forward b 2 s) (branches_forward bs)
    compound_forward {b = b} (r.while_loop {s = s} d c t) = le_trans (skip_forward b 5 s) (le_trans (list_forward c) (do_forward t))
    compound_forward {b = b} (r.until_loop {s = s} d c t) = le_trans (skip_forward b 5 s) (le_trans (list_forward c) (do_forward t))
    compound_forward {b = b} (r.for_loop {s = s} d n ws t) =
        le_trans (skip_forward b 3 s) (le_trans (name_forward b (skip b 3 s)) (le_trans (for_words_forward ws) (do_forward t)))
    compound_forward {b = b} (r.case_of {s = s} {p = p} {u = u} d h w k i j cs) =
        le_trans (skip_forward b 4 s) (le_trans (word_forward w) (le_trans (blanks_move s.spot.joins b u.at)
        (le_trans (breaks_forward k) (le_trans (skip_forward b 2 p) (le_trans (breaks_forward j) (clauses_forward cs))))))

    pub do_forward : {b : List ℕ} {body : ℕ → Document} {s u : State} {t : Script} → ReadsDo limit b body s u t → s.spot.at ≤ u.spot.at
    do_forward {b = b} (r.do_group {s = s} {u = u} h t k) = le_trans (skip_forward b 2 s) (le_trans (list_forward t) (skip_forward b 4 u))

    pub branches_forward : {b : List ℕ} {body : ℕ → Document} {s u : State} {bs : List Branch} {o : Option Script} → ReadsBranches limit b body s u bs o → s.spot.at ≤ u.spot.at
    branches_forward {b = b} (r.branch {u = u} c h t e) = le_trans (list_forward c) (le_trans (skip_forward b 4 u) (le_trans (list_forward t) (else_forward e)))

    pub else_forward : {b : List ℕ} {body : ℕ → Document} {s u : State} {bs : List Branch} {o : Option Script} → ReadsElse limit b body s u bs o → s.spot.at ≤ u.spot.at
    else_forward {b = b} (r.fi {s = s} h) = skip_forward b 2 s
    else_forward {b = b} (r.otherwise {s = s} {u = u} h t k) = le_trans (skip_forward b 4 s) (le_trans (list_forward t) (skip_forward b 2 u))
    else_forward {b = b} (r.elif {s = s} h bs) = le_trans (skip_forward b 4 s) (branches_forward bs)

    pub for_words_forward : {b : List ℕ} {s u : State} {o : Option (List Word)} → ReadsForWords limit b s u o → s.spot.at ≤ u.spot.at
    for_words_forward {b = b} (r.arguments_ended {s = s} h k) = le_trans (skip_forward b 1 s) (breaks_forward k)
    for_words_forward (r.arguments k h) = breaks_forward k
    for_words_forward {b = b} (r.listed {u = u} {v = v} k h ws i l) =
        le_trans (breaks_forward k) (le_trans (skip_forward b 2 u) (le_trans (words_forward ws) (le_trans (parted_forward b v) (breaks_forward l))))

    pub words_forward : {b : List ℕ} {s u : State} {ws : List Word} → ReadsWords limit b s u ws → s.spot.at ≤ u.spot.at
    words_forward (r.no_word h) = le_refl _
    words_forward {b = b} (r.more_words {s = s} {u = u} h w ws) = le_trans (word_forward w) (le_trans (blanks_move s.spot.joins b u.at) (words_forward ws))

    pub clauses_forward : {b : List ℕ} {body : ℕ → Document} {s u : State} {cs : List Clause} → ReadsClauses limit b body s u cs → s.spot.at ≤ u.spot.at
    clauses_forward {b = b} (r.esac {s = s} h) = skip_forward b 4 s
    clauses_forward {b = b} (r.last_clause {s = s} {u = u} {v = v} h ps t k) =
        le_trans (unopened_forward b s) (le_trans (patterns_forward ps) (le_trans (skip_forward b 1 u) (le_trans (sequence_forward t) (skip_forward b 4 v))))
    clauses_forward {b = b} (r.more_clauses {s = s} {u = u} {v = v} h ps t i k cs) =
        le_trans (unopened_forward b s) (le_trans (patterns_forward ps) (le_trans (skip_forward b 1 u) (le_trans (sequence_forward t)
        (le_trans (skip_forward b 2 v) (le_trans (breaks_forward k) (clauses_forward cs))))))

    pub patterns_forward : {b : List ℕ} {s u : State} {ws : List Word} → ReadsPatterns limit b s u ws → s.spot.at ≤ u.spot.at
    patterns_forward {b = b} (r.last_pattern {s = s} {u = u} h w k) = le_trans (word_forward w) (blanks_move s.spot.joins b u.at)
    patterns_forward {b = b} (r.more_patterns {s = s} {u = u} h w k ws) =
        le_trans (word_forward w) (le_trans (blanks_move s.spot.joins b u.at) (le_trans (skip_forward b 1 (past b u s)) (patterns_forward ws)))

    pub pipeline_forward : {b : List ℕ} {body : ℕ → Document} {s u : State} {p : Pipe} → ReadsPipeline limit b body s u p → s.spot.at ≤ u.spot.at
    pipeline_forward {b = b} (r.negated {s = s} h cs) = le_trans (skip_forward b 1 s) (commands_forward cs)
    pipeline_forward (r.straight h cs) = commands_forward cs

    pub commands_forward : {b : List ℕ} {body : ℕ → Document} {s u : State} {cs : List Command} → ReadsCommands limit b body s u cs → s.spot.at ≤ u.spot.at
    commands_forward (r.last_command c h) = command_forward c
    commands_forward {b = b} (r.more_commands {u = u} c h k cs) = le_trans (command_forward c) (le_trans (skip_forward b 1 u) (le_trans (breaks_forward k) (commands_forward cs)))

    pub and_or_forward : {b : List ℕ} {body : ℕ → Document} {s u : State} {l : AndOr} → ReadsAndOr limit b body s u l → s.spot.at ≤ u.spot.at
    and_or_forward (r.linked p ps) = le_trans (pipeline_forward p) (links_forward ps)

    pub links_forward : {b : List ℕ} {body : ℕ → Document} {s u : State} {ps : List (Link × Pipe)} → ReadsLinks limit b body s u ps → s.spot.at ≤ u.spot.at
    links_forward (r.no_link h) = le_refl _
    links_forward {b = b} (r.more_links {s = s} h k p ps) = le_trans (skip_forward b 2 s) (le_trans (breaks_forward k) (le_trans (pipeline_forward p) (links_forward ps)))

    pub items_forward : {b : List ℕ} {body : ℕ → Document} {s u : State} {is : List Item} → ReadsItems limit b body s u is → s.spot.at ≤ u.spot.at
    items_forward (r.last_item l h k) = and_or_forward l
    items_forward {b = b} (r.ended_item {u = u} l h k e) = le_trans (and_or_forward l) (le_trans (parted_forward b u) (breaks_forward k))
    items_forward {b = b} (r.more_items {u = u} l h k e is) = le_trans (and_or_forward l) (le_trans (parted_forward b u) (le_trans (breaks_forward k) (items_forward is)))

    pub list_forward : {b : List ℕ} {body : ℕ → Document} {s u : State} {t : Script} → ReadsList limit b body s u t → s.spot.at ≤ u.spot.at
    list_forward (r.list k h is) = le_trans (breaks_forward k) (items_forward is)

    pub sequence_forward : {b : List ℕ} {body : ℕ → Document} {s u : State} {t : Script} → ReadsSequence limit b body s u t → s.spot.at ≤ u.spot.at
    sequence_forward (r.nothing k h) = breaks_forward k
    sequence_forward (r.sequence t) = list_forward t

    pub script_forward : {b : List ℕ} {s u : Spot} {t : Script} → ReadsScript limit b s u t → s.at ≤ u.at
    script_forward (r.script t h) = sequence_forward t
