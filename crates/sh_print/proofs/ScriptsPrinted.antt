-- A canonical text is read, and its bare tree is the one that it is the text of.
use Rattle.std.proofs.Common.{◌≡◌, ℕ, suc, ◌+◌, false, List, [], ◌∷◌, ◌++◌, drop, map, refl, sym, ap, subst, ◌∙◌, arith, append-nil}
use Rattle.sh_tree.specs.declared.tree.Script.{Script}
use Rattle.sh_tree.specs.declared.token.command.Stage.TheVariants.{First}
use Rattle.sh_tree.specs.standard.language.Bytes.{is_first}
use Rattle.sh_tree.specs.standard.language.Commands.{blanks, blank_length, gap_length, begins_pipeline, begins_command, begins_simple, begins_compound, is_redirection, is_newline_lead}
use Rattle.sh_tree.specs.standard.language.Reading as r
use Rattle.sh_tree.specs.standard.language.Reading.{ReadsTo, HasNoNul}
use Rattle.sh_tree.specs.standard.language.States.{Document, nth, waits}
use Rattle.sh_tree.specs.standard.language.Trees as tree
use Rattle.sh_print.specs.Bare as bare
use Rattle.sh_print.specs.Layout.{items_text}
use Rattle.sh_print.specs.Lists.{items_from}
use Rattle.sh_print.specs.Trees.{script_of}
use Rattle.sh_print.proofs.MadeLemmas.{script_made}
use Rattle.sh_print.proofs.PlaceLemmas.{front, fronted, lead_there}
use Rattle.sh_print.proofs.OwnTokens.{end_leads}
use Rattle.sh_print.proofs.DocumentsPrinted.{place, document_of, Fits, no_fit, one_fit}
use Rattle.sh_print.proofs.JoinsPrinted.{IsStop, begins_straight}
use Rattle.sh_print.proofs.CompoundsPrinted.{PrintsCompound, PrintsElse, PrintsBranches, group_prints, subshell_prints, loop_prints, branch_prints, fi_prints, otherwise_prints, elif_prints, conditional_prints}
use Rattle.sh_print.proofs.LoopsPrinted.{for_prints}
use Rattle.sh_print.proofs.CasesPrinted.{PrintsSequence, PrintsClauses, nothing_prints, sequence_prints, esac_prints, clause_prints, case_prints}
use Rattle.sh_print.proofs.CommandsPrinted.{PrintsCommand, simple_prints, compound_prints, define_prints}
use Rattle.sh_print.proofs.PipelinesPrinted.{PrintsCommands, PrintsPipeline, last_prints, more_prints, pipeline_prints}
use Rattle.sh_print.proofs.ItemsPrinted.{PrintsLinks, PrintsItems, no_links_print, more_links_print, last_item_prints, more_items_print, list_prints}
use Rattle.sh_print.proofs.Printable as p
use Rattle.sh_print.proofs.Printable.{Printable, PrintableCommand, PrintableCompound, PrintableBranches, PrintableOtherwise, PrintableClauses, PrintablePipeline, PrintableCommands, PrintableLinks, PrintableList, PrintableSequence}

module _ (b : List ℕ) where
  mutual
    items_print : {limit k m : ℕ} {items : bare.Items} → PrintableList limit k m items → (d : ℕ) → PrintsItems b limit k d m items
    items_print (p.last_item {background = background} first links) d = last_item_prints b d background (pipeline_print first d) (links_print links d)
    items_print (p.more_items {background = background} first links rest) d = more_items_print b d background (pipeline_print first d) (links_print links d) (items_print rest d)

    links_print : {limit k m : ℕ} {links : bare.Links} → PrintableLinks limit k m links → (d : ℕ) → PrintsLinks b limit k d m links
    links_print p.no_links d = no_links_print b d
    links_print (p.more_links {link = l} x rest) d = more_links_print b d l (pipeline_print x d) (links_print rest d)

    pipeline_print : {limit k m : ℕ} {x : bare.Pipeline} → PrintablePipeline limit k m x → (d : ℕ) → PrintsPipeline b limit k d m x
    pipeline_print (p.pipeline {negated = negated} parts) d = pipeline_prints b d negated (commands_print parts d)

    commands_print : {limit k m : ℕ} {cs : bare.Commands} → PrintableCommands limit k m cs → (d : ℕ) → PrintsCommands b limit k d m cs
    commands_print (p.last_command c) d = last_prints b d (command_print c d)
    commands_print (p.more_commands c cs) d = more_prints b d (command_print c d) (commands_print cs d)

    command_print : {limit k m : ℕ} {c : bare.Command} → PrintableCommand limit k m c → (d : ℕ) → PrintsCommand b limit k d m c
    command_print (p.simple_command some elements) d = simple_prints b d some elements
    command_print (p.compound_command what redirects) d = compound_prints b (compound_print what d) what redirects
    command_print (p.definition named free what redirects) d = define_prints b named free (compound_print what d) what redirects

    compound_print : {limit k m : ℕ} {what : bare.Kind} → PrintableCompound limit k m what → (d : ℕ) → PrintsCompound b limit k d m what
    compound_print (p.group deep list) d = group_prints b d deep (list_prints b (items_print list (d + 1)))
    compound_print (p.subshell deep list) d = subshell_prints b d deep (list_prints b (items_print list (d + 1)))
    compound_print (p.conditional deep branches otherwise) d = conditional_prints b d deep (branches_print branches d (else_print otherwise d))
    compound_print (p.loop {kind = how} deep condition list) d = loop_prints b d how deep (list_prints b (items_print condition (d + 1))) (list_prints b (items_print list (d + 1)))
    compound_print (p.for_loop deep named words list) d = for_prints b d deep named words (list_prints b (items_print list (d + 1)))
    compound_print (p.case_of deep token word clauses) d = case_prints b d deep token word (clauses_print clauses d)

    branches_print : {limit k m o : ℕ} {branches : bare.Branches} {otherwise : bare.Otherwise} → PrintableBranches limit k m branches → (d : ℕ) → PrintsElse b limit k d o bare.no_branches otherwise
        → PrintsBranches b limit k d (m + o) branches otherwise
    branches_print (p.last_branch condition list) d last = branch_prints b d (list_prints b (items_print condition (d + 1))) (list_prints b (items_print list (d + 1))) last
    branches_print {limit = limit} {k = k} {o = o} {otherwise = otherwise} (p.more_branches {m = m} {n = n} {o = more} {condition = test} {body = body} {branches = others} condition list branches) d last =
        subst (λ n. PrintsBranches b limit k d n (bare.more_branches test body others) otherwise) (let sum : m + n + (more + o) ≡ m + n + more + o = omega arith in sum)
        (branch_prints b d (list_prints b (items_print condition (d + 1))) (list_prints b (items_print list (d + 1))) (more_print branches d last))

    -- the branches after the first
    more_print : {limit k m o : ℕ} {branches : bare.Branches} {otherwise : bare.Otherwise} → PrintableBranches limit k m branches → (d : ℕ) → PrintsElse b limit k d o bare.no_branches otherwise
        → PrintsElse b limit k d (m + o) branches otherwise
    more_print (p.last_branch condition list) d last = elif_prints b d (branch_prints b d (list_prints b (items_print condition (d + 1))) (list_prints b (items_print list (d + 1))) last)
    more_print {limit = limit} {k = k} {o = o} {otherwise = otherwise} (p.more_branches {m = m} {n = n} {o = more} {condition = test} {body = body} {branches = others} condition list branches) d last =
        subst (λ n. PrintsElse b limit k d n (bare.more_branches test body others) otherwise) (let sum : m + n + (more + o) ≡ m + n + more + o = omega arith in sum)
        (elif_prints b d (branch_prints b d (list_prints b (items_print condition (d + 1))) (list_prints b (items_print list (d + 1))) (more_print branches d last)))

    else_print : {limit k m : ℕ} {otherwise : bare.Otherwise} → PrintableOtherwise limit k m otherwise → (d : ℕ) → PrintsElse b limit k d m bare.no_branches otherwise
    else_print p.no_else d = fi_prints b d
    else_print (p.else_of list) d = otherwise_prints b d (list_prints b (items_print list (d + 1)))

    clauses_print : {limit k m : ℕ} {clauses : bare.Clauses} → PrintableClauses limit k m clauses → (d : ℕ) → PrintsClauses b limit k d m clauses
    clauses_print p.no_clauses d = esac_prints b d
    clauses_print (p.more_clauses patterns list clauses) d = clause_prints b d patterns (sequence_print list (d + 2)) (clauses_print clauses d)

    sequence_print : {limit k m : ℕ} {items : bare.Items} → PrintableSequence limit k m items → (d : ℕ) → PrintsSequence b limit k d m items
    sequence_print p.nothing d = nothing_prints b
    sequence_print (p.sequence list) d = sequence_prints b (list_prints b (items_print list d))

-- the bodies that came are those that the reading counted on
fits_nth : (b : List ℕ) (ds : List Document) → Fits b (nth ds) 0 (map (document_of b) ds)
unfolding nth
fits_nth b ds = go ds (nth ds) 0 (λ n. ap (nth ds) (omega arith))
  where
    go : (xs : List Document) (body : ℕ → Document) (k : ℕ) → ((n : ℕ) → body (k + n) ≡ nth xs n) → Fits b body k (map (document_of b) xs)
    go [] body k same = no_fit
    go (x ∷ xs) body k same = one_fit (ap (document_of b) (ap body (omega arith) ∙ same 0)) (go xs body (k + 1) (λ n. ap body (omega arith) ∙ same (suc n)))

-- the end of a text
end_stops : IsStop []
unfolding begins_pipeline begins_command begins_simple begins_compound is_redirection blank_length gap_length is_first
end_stops = record { none = ap begins_pipeline (end_leads First); straight = ap is_newline_lead (end_leads First) }

-- What the text of a bare tree reads to.
pub printable_reads : (limit m : ℕ) (items : bare.Items) → Printable limit m items → HasNoNul (items_text 0 items)
    → (u : Script) × ReadsTo (items_text 0 items) limit m u × (script_of (items_text 0 items) u ≡ items)
unfolding items_text items_from waits blanks blank_length gap_length is_first
printable_reads limit _ _ p.nothing none = (
  tree.script [],
  record {
    no_nul = none;
    end = record { at = 0; count = 0; depth = 0; quiet = false; joins = false; tabs = false };
    script = r.script (r.nothing (r.no_break (ap is_newline_lead (end_leads First))) end_stops.none) refl;
    to_end = refl;
    commands = refl;
  },
  script_made [] [],
)
printable_reads limit m items (p.sequence list) none =
    let b = items_text 0 items in
    let all = items_print b list 0 in
    let i = blanks false b 0 in
    let whole : b ++ [] ≡ b = append-nil b in
    let there : drop i b ≡ front (b ++ []) = fronted b 0 b refl ∙ ap front (sym whole) in
    let begins = all.begins [] in
    let q = all.print i 0 false [] [] there end_stops in
    let is = q.reads (nth q.bodies) (subst (λ t. Fits b (nth q.bodies) 0 t) (sym (append-nil (map (document_of b) q.bodies)) ∙ q.kept) (fits_nth b q.bodies)) in (
      tree.script is.0,
      record {
        no_nul = none;
        end = (place q.at q.count 0 q.ended [] q.bodies).spot;
        script = r.script (r.sequence (r.list (r.no_break (ap is_newline_lead (lead_there b First i _ there) ∙ begins_straight _ begins)) (ap begins_pipeline (lead_there b First i _ there) ∙ begins) is.1)) refl;
        to_end = q.to_end refl;
        commands = (let all = q.total in omega arith);
      },
      script_made b is.0 ∙ is.2,
    )
