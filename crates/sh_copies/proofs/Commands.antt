-- The commands of a substitution are read wherever their bytes are.
-- POSIX.1-2024, XCU 2.6.3 (command substitution), 2.9 (commands), 2.10 (shell grammar).
use Rattle.std.proofs.Common.{◌≡◌, ℕ, ◌+◌, ◌<◌, ◌≤◌, Bool, true, false, not, ◌||◌, List, [], ◌∷◌, drop, Option, Some, None, inr, refl, sym, ap, ◌∙◌, subst, arith}
use Rattle.sh_tree.specs.declared.tree.AndOr.{AndOr}
use Rattle.sh_tree.specs.declared.tree.Branch.{Branch}
use Rattle.sh_tree.specs.declared.tree.Clause.{Clause}
use Rattle.sh_tree.specs.declared.tree.ClauseEnd.{ClauseEnd}
use Rattle.sh_tree.specs.declared.tree.ClauseEnd.TheVariants.{Break}
use Rattle.sh_tree.specs.declared.tree.Command.{Command}
use Rattle.sh_tree.specs.declared.tree.Element.{Element}
use Rattle.sh_tree.specs.declared.tree.Element.TheVariants as element
use Rattle.sh_tree.specs.declared.tree.Item.{Item}
use Rattle.sh_tree.specs.declared.tree.Kind.{Kind}
use Rattle.sh_tree.specs.declared.tree.Kind.TheVariants as kind
use Rattle.sh_tree.specs.declared.tree.Link.{Link}
use Rattle.sh_tree.specs.declared.tree.LoopKind.TheVariants as loop
use Rattle.sh_tree.specs.declared.tree.Pipe.{Pipe}
use Rattle.sh_tree.specs.declared.tree.Redirect.{Redirect}
use Rattle.sh_tree.specs.declared.tree.Script.{Script}
use Rattle.sh_tree.specs.declared.tree.Word.{Word}
use Rattle.sh_tree.specs.declared.token.command.Lead.{Lead}
use Rattle.sh_tree.specs.declared.token.command.Stage.{Stage}
use Rattle.sh_tree.specs.declared.token.command.Stage.TheVariants.{First, Named}
use Rattle.sh_tree.specs.standard.language.Bytes.{is_first}
use Rattle.sh_tree.specs.standard.language.Commands.{name_end, is_bare_name, is_redirection, is_reserved, is_word, is_esac, is_bar, begins_simple, begins_compound, begins_command, begins_pipeline, separator, link_of, clause_end_of}
use Rattle.sh_tree.specs.standard.language.Contexts.{in_value}
use Rattle.sh_tree.specs.standard.language.Reading as r
use Rattle.sh_tree.specs.standard.language.Reading.{lead_of, lead_here, skip, behind_name, is_empty, is_some, ReadsWord, ReadsRedirects, ReadsElements, ReadsCommand, ReadsCompound, ReadsDo, ReadsBranches, ReadsElse, ReadsForWords, ReadsWords, ReadsClauses, ReadsPatterns, ReadsPipeline, ReadsCommands, ReadsAndOr, ReadsLinks, ReadsItems, ReadsList, ReadsSequence}
use Rattle.sh_tree.specs.standard.language.States.{State, Document, past, facing, within, begun, as_deep, closing}
use Rattle.sh_tree.specs.standard.language.Trees as tree
use Rattle.sh_tree.specs.standard.language.Trees.{span}
use Rattle.sh_reads.proofs.MoveLemmas.{blanks_move, name_moves}
use Rattle.sh_copies.proofs.Blanks.{is_number_sign}
use Rattle.sh_copies.proofs.CommandsMove.{FoundState, before, unsplit_moves, field_moves, redirect_moves, redirects_move, breaks_move}
use Rattle.sh_copies.proofs.CommandsReady.{NoSign, by_test, by_lead, redirects_sign, breaks_sign, elements_sign, command_sign, words_sign, for_words_sign, do_sign, list_sign, branches_sign, else_sign, patterns_sign, clauses_sign, commands_sign, pipeline_sign, links_sign, items_sign, sequence_sign}
use Rattle.sh_copies.proofs.CommandsTokens.{Ahead, Ready, MovedState, turns_at, lead_of_same, context_same, bare_name_same, name_same, stage_same, moved_past, moved_skip, moved_name, moved_begun, moved_lower, moved_as_deep, moved_closing, moved_facing, moved_parted, moved_unopened}
use Rattle.sh_copies.proofs.Copies.{Copied, limit_of, WordsMove, PartsMove}
use Rattle.sh_copies.proofs.Forward.{skip_forward, name_forward, parted_forward, unopened_forward, word_forward, redirect_forward, redirects_forward, breaks_forward, elements_forward, command_forward, compound_forward, do_forward, branches_forward, else_forward, for_words_forward, words_forward, clauses_forward, patterns_forward, pipeline_forward, commands_forward, and_or_forward, links_forward, items_forward, list_forward, sequence_forward}
use Rattle.sh_copies.proofs.Leads.{name_is_no_sign}
use Rattle.sh_copies.proofs.Places.{less_deep, further, moved_to}

-- there are redirections if one begins
empty_is : {limit : ℕ} {b : List ℕ} {body : ℕ → Document} {s u : State} {ys : List Redirect} → ReadsRedirects limit b body s u ys → is_empty ys ≡ not (is_redirection (lead_of b (Named false) s))
unfolding is_empty
empty_is (r.no_redirect h) = ap not (sym h)
empty_is (r.more_redirects h i j) = ap not (sym h)

-- a token that separates items
abbrev separates : Lead → Bool
separates l = is_some (separator l)

module _ {limit n : ℕ} (words : WordsMove limit n) (parts : PartsMove limit n) {b b' : List ℕ} (c : Copied b b') (ahead : Ahead c) where
  abbrev SameState : State → State → Type 0
  SameState s s' = MovedState c ahead s s'

  abbrev IsReady : State → Type 0
  IsReady s = Ready c ahead s.spot.at

  abbrev FoundAt : State → {A : Type 0} → ((ℕ → Document) → State → A → Type 0) → Type 0
  FoundAt u {A} reading = FoundState words parts c ahead u {A = A} reading

  -- Words

  separated : {g : Bool} (v : State) → separator (lead_here b v) ≡ Some g → NoSign b v
  unfolding separator is_some
  separated v i = by_test b separates First v refl (ap is_some i)

  words_move : {s s' u : State} {ws : List Word} → SameState s s' → ReadsWords limit b s u ws → u.spot.at < s.spot.at + n → u.spot.at ≤ limit_of c → IsReady u
      → FoundAt u (λ body' u' ws'. ReadsWords limit b' s' u' ws')
  words_move {s' = s'} m (r.no_word h) size within ready = record { to = s'; moved = m; reads = λ body'. ([], r.no_word (ap is_word (lead_of_same c ahead m within (Named false)) ∙ h)) }
  words_move {s' = s'} m (r.more_words {s = s} {u = u} h w ws) size within ready =
      let first = word_forward w in
      let second = blanks_move s.spot.joins b u.at in
      let third = words_forward ws in
      let found = field_moves words parts c ahead m w (omega arith) (omega arith) in
      let token = moved_past c ahead m found.moved (omega arith) (before words parts c ahead _ _ (words_sign ws) ready) in
      let rest = words_move token ws (omega arith) within ready in
      record {
        to = rest.to;
        moved = rest.moved;
        reads = λ body'. let z = rest.reads body' in (found.tree ∷ z.0, r.more_words (ap is_word (lead_of_same c ahead m (omega arith) (Named false)) ∙ h) found.reads z.1);
      }

  patterns_move : {s s' u : State} {ws : List Word} → SameState s s' → ReadsPatterns limit b s u ws → u.spot.at < s.spot.at + n → u.spot.at ≤ limit_of c → IsReady u
      → FoundAt u (λ body' u' ws'. ReadsPatterns limit b' s' u' ws')
  patterns_move {s' = s'} m (r.last_pattern {s = s} {u = u} h w k) size within ready =
      let first = word_forward w in
      let second = blanks_move s.spot.joins b u.at in
      let found = unsplit_moves words parts c ahead m w (omega arith) (omega arith) in
      let token = moved_past c ahead m found.moved within ready in
      record {
        to = past b' found.to s';
        moved = token;
        reads = λ body'. (
          found.tree ∷ [],
          r.last_pattern (ap is_word (lead_of_same c ahead m (omega arith) (Named false)) ∙ h) found.reads (lead_of_same c ahead token within (Named false) ∙ k),
        );
      }
  patterns_move {s' = s'} m (r.more_patterns {s = s} {u = u} h w k ws) size within ready =
      let first = word_forward w in
      let second = blanks_move s.spot.joins b u.at in
      let third = skip_forward b 1 (past b u s) in
      let fourth = patterns_forward ws in
      let found = unsplit_moves words parts c ahead m w (omega arith) (omega arith) in
      let token = moved_past c ahead m found.moved (omega arith) (inr (by_lead b (Named false) (past b u s) _ k refl)) in
      let behind = moved_skip c ahead 1 token (omega arith) (before words parts c ahead _ _ (λ z. patterns_sign ws) ready) in
      let rest = patterns_move behind ws (omega arith) within ready in
      record {
        to = rest.to;
        moved = rest.moved;
        reads = λ body'.
            let z = rest.reads body' in (
              found.tree ∷ z.0,
              r.more_patterns (ap is_word (lead_of_same c ahead m (omega arith) (Named false)) ∙ h) found.reads (lead_of_same c ahead token (omega arith) (Named false) ∙ k) z.1,
            );
      }

  for_words_move : {s s' u : State} {o : Option (List Word)} → SameState s s' → ReadsForWords limit b s u o → u.spot.at < s.spot.at + n → u.spot.at ≤ limit_of c → IsReady u
      → FoundAt u (λ body' u' o'. ReadsForWords limit b' s' u' o')
  for_words_move m (r.arguments_ended {s = s} h k) size within ready =
      let first = skip_forward b 1 s in
      let second = breaks_forward k in
      let behind = moved_skip c ahead 1 m (omega arith) (before words parts c ahead _ _ (breaks_sign k) ready) in
      let rest = breaks_move words parts c ahead behind k (omega arith) within ready in
      record { to = rest.0; moved = rest.1; reads = λ body'. (None, r.arguments_ended (lead_of_same c ahead m (omega arith) First ∙ h) rest.2) }
  for_words_move m (r.arguments k h) size within ready =
      let rest = breaks_move words parts c ahead m k size within ready in
      record { to = rest.0; moved = rest.1; reads = λ body'. (None, r.arguments rest.2 (lead_of_same c ahead rest.1 within First ∙ h)) }
  for_words_move {s = s} m (r.listed {u = u} {v = v} k h ws i l) size within ready =
      let first = breaks_forward k in
      let second = skip_forward b 2 u in
      let third = words_forward ws in
      let fourth = parted_forward b v in
      let fifth = breaks_forward l in
      let gap = breaks_move words parts c ahead m k (omega arith) (omega arith) (inr (by_lead b First u _ h refl)) in
      let ended : NoSign b v = separated v i in
      let behind = moved_skip c ahead 2 gap.1 (omega arith) (inr (words_sign ws ended)) in
      let list = words_move behind ws (omega arith) (omega arith) (inr ended) in
      let token = moved_parted c ahead list.moved (omega arith) (omega arith) (before words parts c ahead _ _ (breaks_sign l) ready) in
      let rest = breaks_move words parts c ahead token l (omega arith) within ready in
      record {
        to = rest.0;
        moved = rest.1;
        reads = λ body'.
            let z = list.reads body' in (
              Some z.0,
              r.listed gap.2 (lead_of_same c ahead gap.1 (omega arith) First ∙ h) z.1 (ap separator (lead_of_same c ahead list.moved (omega arith) First) ∙ i) rest.2,
            );
      }

  elements_move : {body : ℕ → Document} {g : Stage} {s s' u : State} {es : List Element} → SameState s s' → ReadsElements limit b body g s u es → u.spot.at < s.spot.at + n → u.spot.at ≤ limit_of c → IsReady u
      → FoundAt u (λ body' u' es'. ReadsElements limit b' body' g s' u' es')
  elements_move {g = g} {s' = s'} m (r.no_element h) size within ready =
      record { to = s'; moved = m; reads = λ body'. ([], r.no_element (ap begins_simple (lead_of_same c ahead m within g) ∙ h)) }
  elements_move {g = g} {s' = s'} m (r.assigned_element {s = s} {u = u} h w es) size within ready =
      let first = name_moves b s.spot.at in
      let second = word_forward w in
      let third = blanks_move s.spot.joins b u.at in
      let fourth = elements_forward es in
      let value = further c 1 (name_same c ahead m.spot.place (omega arith)) in
      let found = words.word c {o' = name_end b' s'.spot.at + 1} (moved_to c (moved_facing c ahead m) value) (turns_at c value (in_value (name_end b s.spot.at + 1)) refl) w (omega arith) (omega arith) in
      let token = moved_past c ahead m found.moved (omega arith) (before words parts c ahead _ _ (elements_sign es) ready) in
      let rest = elements_move token es (omega arith) within ready in
      record {
        to = rest.to;
        moved = rest.moved;
        reads = λ body'.
            let z = rest.reads body' in (
              element.Assignment (span s'.spot.at (name_end b' s'.spot.at)) found.tree ∷ z.0,
              r.assigned_element (lead_of_same c ahead m (omega arith) g ∙ h) found.reads z.1,
            );
      }
  elements_move {g = g} {s' = s'} m (r.word_element {s = s} {v = v} {u = u} h w es) size within ready =
      let first = word_forward w in
      let second = blanks_move s.spot.joins b u.at in
      let third = elements_forward es in
      let context = context_same c ahead g m.spot.place (omega arith) in
      let found = words.word c (moved_facing c ahead m) context.turns w (omega arith) (omega arith) in
      let token = moved_past c ahead m found.moved (omega arith) (before words parts c ahead _ _ (elements_sign es) ready) in
      let rest = elements_move token es (omega arith) within ready in
      record {
        to = rest.to;
        moved = rest.moved;
        reads = λ body'.
            let z = rest.reads body' in (
              element.Word found.tree ∷ z.0,
              r.word_element (lead_of_same c ahead m (omega arith) g ∙ h) (subst (λ x. ReadsWord limit b' x (facing s') found.to found.tree) context.is found.reads)
                  (subst (λ k. ReadsElements limit b' body' k (past b' found.to s') rest.to z.0) (sym (stage_same c ahead g m.spot.place (omega arith))) z.1),
            );
      }
  elements_move {g = g} {s = s} m (r.redirect_element {u = u} h i es) size within ready =
      let first = redirect_forward i in
      let second = elements_forward es in
      let one = redirect_moves words parts c ahead m i (omega arith) (omega arith) (before words parts c ahead _ _ (elements_sign es) ready) in
      let rest = elements_move one.moved es (omega arith) within ready in
      record {
        to = rest.to;
        moved = rest.moved;
        reads = λ body'.
            let y = one.reads body' in
            let z = rest.reads body' in
            (element.Redirection y.0 ∷ z.0, r.redirect_element (ap is_redirection (lead_of_same c ahead m (omega arith) g) ∙ h) y.1 z.1);
      }

  -- Commands

  clause_ended : {e : ClauseEnd} (v : State) → clause_end_of (lead_here b v) ≡ Some e → NoSign b v
  unfolding clause_end_of is_some
  clause_ended v i = by_test b (λ l. is_some (clause_end_of l)) First v refl (ap is_some i)

  patterns_end : {s u : State} {ws : List Word} → ReadsPatterns limit b s u ws → NoSign b u
  patterns_end (r.last_pattern {s = s} {u = u} h w k) = by_lead b (Named false) (past b u s) _ k refl
  patterns_end (r.more_patterns h w k ws) = patterns_end ws

  bare_sign : (i : ℕ) → is_bare_name b i ≡ true → is_first is_number_sign (drop i b) ≡ false
  unfolding is_bare_name
  bare_sign i h = name_is_no_sign b i h

  abbrev ready_before : (i j : ℕ) → (is_first is_number_sign (drop j b) ≡ false → is_first is_number_sign (drop i b) ≡ false) → Ready c ahead j → Ready c ahead i
  ready_before i j f ready = before words parts c ahead i j f ready

  mutual
    command_moves : {body : ℕ → Document} {s s' u : State} {k : Command} → SameState s s' → ReadsCommand limit b body s u k → u.spot.at < s.spot.at + n → u.spot.at ≤ limit_of c → IsReady u
        → FoundAt u (λ body' u' k'. ReadsCommand limit b' body' s' u' k')
    command_moves {s' = s'} m (r.simple_command {s = s} h es) size within ready =
        let first = elements_forward es in
        let found = elements_move (moved_begun c ahead m) es (omega arith) within ready in
        record {
          to = closing false found.to;
          moved = moved_closing c ahead false found.moved;
          reads = λ body'.
              let z = found.reads body' in (
                tree.command (s'.spot.count + 1) s'.spot.at (kind.Simple z.0) [],
                r.simple_command (ap begins_simple (lead_of_same c ahead m (omega arith) First) ∙ h) z.1,
              );
        }
    command_moves {s' = s'} m (r.compound_command {s = s} {u = u} {v = v} {rs = rs} h k rds) size within ready =
        let first = compound_forward k in
        let second = redirects_forward rds in
        let one = compound_moves (moved_begun c ahead m) k (omega arith) (omega arith) (ready_before _ _ (redirects_sign rds) ready) in
        let rest = redirects_move words parts c ahead one.moved rds (omega arith) within ready in
        record {
          to = closing (is_empty rs) rest.to;
          moved = moved_closing c ahead (is_empty rs) rest.moved;
          reads = λ body'.
              let y = one.reads body' in
              let z = rest.reads body' in
              let empty : is_empty z.0 ≡ is_empty rs = empty_is z.1 ∙ ap (λ l. not (is_redirection l)) (lead_of_same c ahead one.moved (omega arith) (Named false)) ∙ sym (empty_is rds) in (
                tree.command (s'.spot.count + 1) s'.spot.at y.0 z.0,
                subst (λ t. ReadsCommand limit b' body' s' (closing t rest.to) (tree.command (s'.spot.count + 1) s'.spot.at y.0 z.0)) empty
                    (r.compound_command (lead_of_same c ahead m (omega arith) First ∙ h) y.1 z.1),
              );
        }
    command_moves {s' = s'} m (r.definition {s = s} {u = u} h o p k i body) size within ready =
        let name = behind_name b (begun s) in
        let opened = skip b 1 name in
        let closed = skip b 1 opened in
        let first = name_forward b (begun s) in
        let second = skip_forward b 1 name in
        let third = skip_forward b 1 opened in
        let fourth = breaks_forward k in
        let fifth = command_forward body in
        let at_name = moved_name c ahead (moved_begun c ahead m) (omega arith) (omega arith) (inr (by_lead b (Named false) name _ o refl)) in
        let at_open = moved_skip c ahead 1 at_name (omega arith) (inr (by_lead b (Named false) opened _ p refl)) in
        let sign = command_sign body in
        let at_close = moved_skip c ahead 1 at_open (omega arith) (inr (breaks_sign k sign)) in
        let gap = breaks_move words parts c ahead at_close k (omega arith) (omega arith) (inr sign) in
        let rest = command_moves gap.1 body (omega arith) within ready in
        record {
          to = rest.to;
          moved = rest.moved;
          reads = λ body'.
              let z = rest.reads body' in (
                tree.command (s'.spot.count + 1) s'.spot.at (kind.Define (span s'.spot.at (name_end b' s'.spot.at)) z.0) [],
                r.definition (lead_of_same c ahead m (omega arith) First ∙ h) (lead_of_same c ahead at_name (omega arith) (Named false) ∙ o)
                    (lead_of_same c ahead at_open (omega arith) (Named false) ∙ p) gap.2 (ap begins_compound (lead_of_same c ahead gap.1 (omega arith) First) ∙ i) z.1,
              );
        }

    compound_moves : {body : ℕ → Document} {l : Lead} {s s' u : State} {k : Kind} → SameState s s' → ReadsCompound limit b body l s u k → u.spot.at < s.spot.at + n → u.spot.at ≤ limit_of c → IsReady u
        → FoundAt u (λ body' u' k'. ReadsCompound limit b' body' l s' u' k')
    compound_moves {s' = s'} m (r.group {s = s} {u = u} d t h) size within ready =
        let first = skip_forward b 1 s in
        let second = list_forward t in
        let third = skip_forward b 1 u in
        let inside = list_moves (moved_lower c ahead (moved_skip c ahead 1 m (omega arith) (inr (list_sign t)))) t (omega arith) (omega arith) (inr (by_lead b First u _ h refl)) in
        let behind = moved_skip c ahead 1 inside.moved within ready in
        record {
          to = as_deep s' (skip b' 1 inside.to);
          moved = moved_as_deep c ahead m behind;
          reads = λ body'.
              let z = inside.reads body' in
              (kind.Group z.0, r.group (less_deep s.spot.depth s'.spot.depth limit m.spot.depth d) z.1 (lead_of_same c ahead inside.moved (omega arith) First ∙ h));
        }
    compound_moves {s' = s'} m (r.subshell {s = s} {u = u} d t h) size within ready =
        let first = skip_forward b 1 s in
        let second = list_forward t in
        let third = skip_forward b 1 u in
        let inside = list_moves (moved_lower c ahead (moved_skip c ahead 1 m (omega arith) (inr (list_sign t)))) t (omega arith) (omega arith) (inr (by_lead b First u _ h refl)) in
        let behind = moved_skip c ahead 1 inside.moved within ready in
        record {
          to = as_deep s' (skip b' 1 inside.to);
          moved = moved_as_deep c ahead m behind;
          reads = λ body'.
              let z = inside.reads body' in
              (kind.Subshell z.0, r.subshell (less_deep s.spot.depth s'.spot.depth limit m.spot.depth d) z.1 (lead_of_same c ahead inside.moved (omega arith) First ∙ h));
        }
    compound_moves {s' = s'} m (r.cond {s = s} d bs) size within ready =
        let first = skip_forward b 2 s in
        let second = branches_forward bs in
        let inside = branches_move (moved_lower c ahead (moved_skip c ahead 2 m (omega arith) (inr (branches_sign bs)))) bs (omega arith) within ready in
        record {
          to = as_deep s' inside.to;
          moved = moved_as_deep c ahead m inside.moved;
          reads = λ body'. let z = inside.reads body' in (kind.Cond z.0.0 z.0.1, r.cond (less_deep s.spot.depth s'.spot.depth limit m.spot.depth d) z.1);
        }
    compound_moves {s' = s'} m (r.while_loop {s = s} {u = u} d k t) size within ready =
        let first = skip_forward b 5 s in
        let second = list_forward k in
        let third = do_forward t in
        let inside = list_moves (moved_lower c ahead (moved_skip c ahead 5 m (omega arith) (inr (list_sign k)))) k (omega arith) (omega arith) (inr (do_sign t)) in
        let rest = do_moves inside.moved t (omega arith) within ready in
        record {
          to = as_deep s' rest.to;
          moved = moved_as_deep c ahead m rest.moved;
          reads = λ body'.
              let y = inside.reads body' in
              let z = rest.reads body' in
              (kind.Loop loop.While y.0 z.0, r.while_loop (less_deep s.spot.depth s'.spot.depth limit m.spot.depth d) y.1 z.1);
        }
    compound_moves {s' = s'} m (r.until_loop {s = s} {u = u} d k t) size within ready =
        let first = skip_forward b 5 s in
        let second = list_forward k in
        let third = do_forward t in
        let inside = list_moves (moved_lower c ahead (moved_skip c ahead 5 m (omega arith) (inr (list_sign k)))) k (omega arith) (omega arith) (inr (do_sign t)) in
        let rest = do_moves inside.moved t (omega arith) within ready in
        record {
          to = as_deep s' rest.to;
          moved = moved_as_deep c ahead m rest.moved;
          reads = λ body'.
              let y = inside.reads body' in
              let z = rest.reads body' in
              (kind.Loop loop.Until y.0 z.0, r.until_loop (less_deep s.spot.depth s'.spot.depth limit m.spot.depth d) y.1 z.1);
        }
    compound_moves {s' = s'} m (r.for_loop {s = s} d name ws t) size within ready =
        let first = skip_forward b 3 s in
        let second = name_forward b (skip b 3 s) in
        let third = for_words_forward ws in
        let fourth = do_forward t in
        let at_name = moved_skip c ahead 3 m (omega arith) (inr (bare_sign (skip b 3 s).spot.at name)) in
        let behind = moved_name c ahead (moved_lower c ahead at_name) (omega arith) (omega arith) (inr (for_words_sign ws)) in
        let list = for_words_move behind ws (omega arith) (omega arith) (inr (do_sign t)) in
        let rest = do_moves list.moved t (omega arith) within ready in
        record {
          to = as_deep s' rest.to;
          moved = moved_as_deep c ahead m rest.moved;
          reads = λ body'.
              let y = list.reads body' in
              let z = rest.reads body' in (
                kind.For (span (skip b' 3 s').spot.at (name_end b' (skip b' 3 s').spot.at)) y.0 z.0,
                r.for_loop (less_deep s.spot.depth s'.spot.depth limit m.spot.depth d) (bare_name_same c ahead at_name.spot.place (omega arith) ∙ name) y.1 z.1,
              );
        }
    compound_moves {s' = s'} m (r.case_of {s = s} {p = p} {q = q} {u = u} d h w k i j cs) size within ready =
        let entered = skip b 4 s in
        let first = skip_forward b 4 s in
        let second = word_forward w in
        let third = blanks_move s.spot.joins b u.at in
        let fourth = breaks_forward k in
        let fifth = skip_forward b 2 p in
        let sixth = breaks_forward j in
        let seventh = clauses_forward cs in
        let at_word = moved_skip c ahead 4 m (omega arith) (inr (by_test b is_word (Named false) entered refl h)) in
        let found = unsplit_moves words parts c ahead (moved_lower c ahead at_word) w (omega arith) (omega arith) in
        let sign : NoSign b p = by_lead b First p _ i refl in
        let behind = moved_past c ahead (moved_lower c ahead at_word) found.moved (omega arith) (inr (breaks_sign k sign)) in
        let gap = breaks_move words parts c ahead behind k (omega arith) (omega arith) (inr sign) in
        let at_in = moved_skip c ahead 2 gap.1 (omega arith) (inr (breaks_sign j (clauses_sign cs))) in
        let lines = breaks_move words parts c ahead at_in j (omega arith) (omega arith) (inr (clauses_sign cs)) in
        let rest = clauses_move lines.1 cs (omega arith) within ready in
        record {
          to = as_deep s' rest.to;
          moved = moved_as_deep c ahead m rest.moved;
          reads = λ body'.
              let z = rest.reads body' in (
                kind.Branches found.tree z.0,
                r.case_of (less_deep s.spot.depth s'.spot.depth limit m.spot.depth d) (ap is_word (lead_of_same c ahead at_word (omega arith) (Named false)) ∙ h) found.reads gap.2
                    (lead_of_same c ahead gap.1 (omega arith) First ∙ i) lines.2 z.1,
              );
        }

    do_moves : {body : ℕ → Document} {s s' u : State} {t : Script} → SameState s s' → ReadsDo limit b body s u t → u.spot.at < s.spot.at + n → u.spot.at ≤ limit_of c → IsReady u
        → FoundAt u (λ body' u' t'. ReadsDo limit b' body' s' u' t')
    do_moves {s' = s'} m (r.do_group {s = s} {u = u} h t k) size within ready =
        let first = skip_forward b 2 s in
        let second = list_forward t in
        let third = skip_forward b 4 u in
        let inside = list_moves (moved_skip c ahead 2 m (omega arith) (inr (list_sign t))) t (omega arith) (omega arith) (inr (by_lead b First u _ k refl)) in
        record {
          to = skip b' 4 inside.to;
          moved = moved_skip c ahead 4 inside.moved within ready;
          reads = λ body'.
              let z = inside.reads body' in (z.0, r.do_group (lead_of_same c ahead m (omega arith) First ∙ h) z.1 (lead_of_same c ahead inside.moved (omega arith) First ∙ k));
        }

    branches_move : {body : ℕ → Document} {s s' u : State} {bs : List Branch} {o : Option Script} → SameState s s' → ReadsBranches limit b body s u bs o → u.spot.at < s.spot.at + n → u.spot.at ≤ limit_of c → IsReady u
        → FoundAt u {A = List Branch × Option Script} (λ body' u' z. ReadsBranches limit b' body' s' u' z.0 z.1)
    branches_move {s = s} m (r.branch {u = u} {v = v} k h t e) size within ready =
        let first = list_forward k in
        let second = skip_forward b 4 u in
        let third = list_forward t in
        let fourth = else_forward e in
        let one = list_moves m k (omega arith) (omega arith) (inr (by_lead b First u _ h refl)) in
        let two = list_moves (moved_skip c ahead 4 one.moved (omega arith) (inr (list_sign t))) t (omega arith) (omega arith) (inr (else_sign e)) in
        let rest = else_moves two.moved e (omega arith) within ready in
        record {
          to = rest.to;
          moved = rest.moved;
          reads = λ body'.
              let x = one.reads body' in
              let y = two.reads body' in
              let z = rest.reads body' in
              ((tree.branch x.0 y.0 ∷ z.0.0, z.0.1), r.branch x.1 (lead_of_same c ahead one.moved (omega arith) First ∙ h) y.1 z.1);
        }

    else_moves : {body : ℕ → Document} {s s' u : State} {bs : List Branch} {o : Option Script} → SameState s s' → ReadsElse limit b body s u bs o → u.spot.at < s.spot.at + n → u.spot.at ≤ limit_of c → IsReady u
        → FoundAt u {A = List Branch × Option Script} (λ body' u' z. ReadsElse limit b' body' s' u' z.0 z.1)
    else_moves {s' = s'} m (r.fi {s = s} h) size within ready =
        let first = skip_forward b 2 s in
        record { to = skip b' 2 s'; moved = moved_skip c ahead 2 m within ready; reads = λ body'. (([], None), r.fi (lead_of_same c ahead m (omega arith) First ∙ h)) }
    else_moves m (r.otherwise {s = s} {u = u} h t k) size within ready =
        let first = skip_forward b 4 s in
        let second = list_forward t in
        let third = skip_forward b 2 u in
        let inside = list_moves (moved_skip c ahead 4 m (omega arith) (inr (list_sign t))) t (omega arith) (omega arith) (inr (by_lead b First u _ k refl)) in
        record {
          to = skip b' 2 inside.to;
          moved = moved_skip c ahead 2 inside.moved within ready;
          reads = λ body'.
              let z = inside.reads body' in
              (([], Some z.0), r.otherwise (lead_of_same c ahead m (omega arith) First ∙ h) z.1 (lead_of_same c ahead inside.moved (omega arith) First ∙ k));
        }
    else_moves m (r.elif {s = s} h bs) size within ready =
        let first = skip_forward b 4 s in
        let second = branches_forward bs in
        let rest = branches_move (moved_skip c ahead 4 m (omega arith) (inr (branches_sign bs))) bs (omega arith) within ready in
        record { to = rest.to; moved = rest.moved; reads = λ body'. let z = rest.reads body' in (z.0, r.elif (lead_of_same c ahead m (omega arith) First ∙ h) z.1) }

    clauses_move : {body : ℕ → Document} {s s' u : State} {cs : List Clause} → SameState s s' → ReadsClauses limit b body s u cs → u.spot.at < s.spot.at + n → u.spot.at ≤ limit_of c → IsReady u
        → FoundAt u (λ body' u' cs'. ReadsClauses limit b' body' s' u' cs')
    clauses_move {s' = s'} m (r.esac {s = s} h) size within ready =
        let first = skip_forward b 4 s in
        record { to = skip b' 4 s'; moved = moved_skip c ahead 4 m within ready; reads = λ body'. ([], r.esac (lead_of_same c ahead m (omega arith) First ∙ h)) }
    clauses_move m (r.last_clause {s = s} {u = u} {v = v} h ps t k) size within ready =
        let first = unopened_forward b s in
        let second = patterns_forward ps in
        let third = skip_forward b 1 u in
        let fourth = sequence_forward t in
        let fifth = skip_forward b 4 v in
        let sign : NoSign b v = by_lead b First v _ k refl in
        let open_at = moved_unopened c ahead m (omega arith) (omega arith) (inr (patterns_sign ps)) in
        let one = patterns_move open_at ps (omega arith) (omega arith) (inr (patterns_end ps)) in
        let two = sequence_moves (moved_skip c ahead 1 one.moved (omega arith) (inr (sequence_sign t sign))) t (omega arith) (omega arith) (inr sign) in
        record {
          to = skip b' 4 two.to;
          moved = moved_skip c ahead 4 two.moved within ready;
          reads = λ body'.
              let y = one.reads body' in
              let z = two.reads body' in (
                tree.clause y.0 z.0 Break ∷ [],
                r.last_clause (ap is_esac (lead_of_same c ahead m (omega arith) First) ∙ h) y.1 z.1 (lead_of_same c ahead two.moved (omega arith) First ∙ k),
              );
        }
    clauses_move m (r.more_clauses {s = s} {u = u} {v = v} {w = w} {e = e} h ps t i k cs) size within ready =
        let first = unopened_forward b s in
        let second = patterns_forward ps in
        let third = skip_forward b 1 u in
        let fourth = sequence_forward t in
        let fifth = skip_forward b 2 v in
        let sixth = breaks_forward k in
        let seventh = clauses_forward cs in
        let sign : NoSign b v = clause_ended v i in
        let open_at = moved_unopened c ahead m (omega arith) (omega arith) (inr (patterns_sign ps)) in
        let one = patterns_move open_at ps (omega arith) (omega arith) (inr (patterns_end ps)) in
        let two = sequence_moves (moved_skip c ahead 1 one.moved (omega arith) (inr (sequence_sign t sign))) t (omega arith) (omega arith) (inr sign) in
        let gap = breaks_move words parts c ahead (moved_skip c ahead 2 two.moved (omega arith) (inr (breaks_sign k (clauses_sign cs)))) k (omega arith) (omega arith) (inr (clauses_sign cs)) in
        let rest = clauses_move gap.1 cs (omega arith) within ready in
        record {
          to = rest.to;
          moved = rest.moved;
          reads = λ body'.
              let x = one.reads body' in
              let y = two.reads body' in
              let z = rest.reads body' in (
                tree.clause x.0 y.0 e ∷ z.0,
                r.more_clauses (ap is_esac (lead_of_same c ahead m (omega arith) First) ∙ h) x.1 y.1 (ap clause_end_of (lead_of_same c ahead two.moved (omega arith) First) ∙ i) gap.2 z.1,
              );
        }

    pipeline_moves : {body : ℕ → Document} {s s' u : State} {p : Pipe} → SameState s s' → ReadsPipeline limit b body s u p → u.spot.at < s.spot.at + n → u.spot.at ≤ limit_of c → IsReady u
        → FoundAt u (λ body' u' p'. ReadsPipeline limit b' body' s' u' p')
    pipeline_moves m (r.negated {s = s} h cs) size within ready =
        let first = skip_forward b 1 s in
        let second = commands_forward cs in
        let rest = commands_move (moved_skip c ahead 1 m (omega arith) (inr (commands_sign cs))) cs (omega arith) within ready in
        record { to = rest.to; moved = rest.moved; reads = λ body'. let z = rest.reads body' in (tree.pipe true z.0, r.negated (lead_of_same c ahead m (omega arith) First ∙ h) z.1) }
    pipeline_moves m (r.straight h cs) size within ready =
        let first = commands_forward cs in
        let rest = commands_move m cs size within ready in
        record {
          to = rest.to;
          moved = rest.moved;
          reads = λ body'. let z = rest.reads body' in (tree.pipe false z.0, r.straight (ap begins_command (lead_of_same c ahead m (omega arith) First) ∙ h) z.1);
        }

    commands_move : {body : ℕ → Document} {s s' u : State} {cs : List Command} → SameState s s' → ReadsCommands limit b body s u cs → u.spot.at < s.spot.at + n → u.spot.at ≤ limit_of c → IsReady u
        → FoundAt u (λ body' u' cs'. ReadsCommands limit b' body' s' u' cs')
    commands_move m (r.last_command k h) size within ready =
        let one = command_moves m k size within ready in
        record { to = one.to; moved = one.moved; reads = λ body'. let z = one.reads body' in (z.0 ∷ [], r.last_command z.1 (ap is_bar (lead_of_same c ahead one.moved within First) ∙ h)) }
    commands_move {s = s} m (r.more_commands {u = u} {v = v} k h i cs) size within ready =
        let first = command_forward k in
        let second = skip_forward b 1 u in
        let third = breaks_forward i in
        let fourth = commands_forward cs in
        let one = command_moves m k (omega arith) (omega arith) (inr (by_test b is_bar First u refl h)) in
        let gap = breaks_move words parts c ahead (moved_skip c ahead 1 one.moved (omega arith) (inr (breaks_sign i (commands_sign cs)))) i (omega arith) (omega arith) (inr (commands_sign cs)) in
        let rest = commands_move gap.1 cs (omega arith) within ready in
        record {
          to = rest.to;
          moved = rest.moved;
          reads = λ body'.
              let y = one.reads body' in
              let z = rest.reads body' in
              (y.0 ∷ z.0, r.more_commands y.1 (ap is_bar (lead_of_same c ahead one.moved (omega arith) First) ∙ h) gap.2 z.1);
        }

    and_or_moves : {body : ℕ → Document} {s s' u : State} {l : AndOr} → SameState s s' → ReadsAndOr limit b body s u l → u.spot.at < s.spot.at + n → u.spot.at ≤ limit_of c → IsReady u
        → FoundAt u (λ body' u' l'. ReadsAndOr limit b' body' s' u' l')
    and_or_moves {s = s} m (r.linked p ps) size within ready =
        let first = pipeline_forward p in
        let second = links_forward ps in
        let one = pipeline_moves m p (omega arith) (omega arith) (ready_before _ _ (links_sign ps) ready) in
        let rest = links_move one.moved ps (omega arith) within ready in
        record {
          to = rest.to;
          moved = rest.moved;
          reads = λ body'. let y = one.reads body' in let z = rest.reads body' in (tree.and_or y.0 z.0, r.linked y.1 z.1);
        }

    links_move : {body : ℕ → Document} {s s' u : State} {ps : List (Link × Pipe)} → SameState s s' → ReadsLinks limit b body s u ps → u.spot.at < s.spot.at + n → u.spot.at ≤ limit_of c → IsReady u
        → FoundAt u (λ body' u' ps'. ReadsLinks limit b' body' s' u' ps')
    links_move {s' = s'} m (r.no_link h) size within ready = record { to = s'; moved = m; reads = λ body'. ([], r.no_link (ap link_of (lead_of_same c ahead m within First) ∙ h)) }
    links_move m (r.more_links {s = s} {u = u} {l = l} h k p ps) size within ready =
        let first = skip_forward b 2 s in
        let second = breaks_forward k in
        let third = pipeline_forward p in
        let fourth = links_forward ps in
        let gap = breaks_move words parts c ahead (moved_skip c ahead 2 m (omega arith) (inr (breaks_sign k (pipeline_sign p)))) k (omega arith) (omega arith) (inr (pipeline_sign p)) in
        let one = pipeline_moves gap.1 p (omega arith) (omega arith) (ready_before _ _ (links_sign ps) ready) in
        let rest = links_move one.moved ps (omega arith) within ready in
        record {
          to = rest.to;
          moved = rest.moved;
          reads = λ body'.
              let y = one.reads body' in
              let z = rest.reads body' in
              ((l, y.0) ∷ z.0, r.more_links (ap link_of (lead_of_same c ahead m (omega arith) First) ∙ h) gap.2 y.1 z.1);
        }

    items_move : {body : ℕ → Document} {s s' u : State} {is : List Item} → SameState s s' → ReadsItems limit b body s u is → u.spot.at < s.spot.at + n → u.spot.at ≤ limit_of c → IsReady u
        → FoundAt u (λ body' u' is'. ReadsItems limit b' body' s' u' is')
    items_move m (r.last_item {u = u} l h k) size within ready =
        let one = and_or_moves m l size within ready in
        let token = lead_of_same c ahead one.moved within First in
        record {
          to = one.to;
          moved = one.moved;
          reads = λ body'.
              let z = one.reads body' in
              (tree.item z.0 false ∷ [], r.last_item z.1 (ap separator token ∙ h) (ap (λ x. not (is_reserved x) || one.to.closed) token ∙ ap (λ t. not (is_reserved (lead_here b u)) || t) one.moved.closed ∙ k));
        }
    items_move {s = s} m (r.ended_item {u = u} {v = v} {g = g} l h k e) size within ready =
        let first = and_or_forward l in
        let second = parted_forward b u in
        let third = breaks_forward k in
        let one = and_or_moves m l (omega arith) (omega arith) (inr (separated u h)) in
        let token = moved_parted c ahead one.moved (omega arith) (omega arith) (ready_before _ _ (breaks_sign k) ready) in
        let rest = breaks_move words parts c ahead token k (omega arith) within ready in
        record {
          to = rest.0;
          moved = rest.1;
          reads = λ body'.
              let z = one.reads body' in (
                tree.item z.0 g ∷ [],
                r.ended_item z.1 (ap separator (lead_of_same c ahead one.moved (omega arith) First) ∙ h) rest.2 (ap begins_pipeline (lead_of_same c ahead rest.1 within First) ∙ e),
              );
        }
    items_move {s = s} m (r.more_items {u = u} {v = v} {g = g} l h k e is) size within ready =
        let first = and_or_forward l in
        let second = parted_forward b u in
        let third = breaks_forward k in
        let fourth = items_forward is in
        let one = and_or_moves m l (omega arith) (omega arith) (inr (separated u h)) in
        let token = moved_parted c ahead one.moved (omega arith) (omega arith) (inr (breaks_sign k (items_sign is))) in
        let gap = breaks_move words parts c ahead token k (omega arith) (omega arith) (inr (items_sign is)) in
        let rest = items_move gap.1 is (omega arith) within ready in
        record {
          to = rest.to;
          moved = rest.moved;
          reads = λ body'.
              let y = one.reads body' in
              let z = rest.reads body' in (
                tree.item y.0 g ∷ z.0,
                r.more_items y.1 (ap separator (lead_of_same c ahead one.moved (omega arith) First) ∙ h) gap.2 (ap begins_pipeline (lead_of_same c ahead gap.1 (omega arith) First) ∙ e) z.1,
              );
        }

    list_moves : {body : ℕ → Document} {s s' u : State} {t : Script} → SameState s s' → ReadsList limit b body s u t → u.spot.at < s.spot.at + n → u.spot.at ≤ limit_of c → IsReady u
        → FoundAt u (λ body' u' t'. ReadsList limit b' body' s' u' t')
    list_moves {s = s} m (r.list {u = u} k h is) size within ready =
        let first = breaks_forward k in
        let second = items_forward is in
        let gap = breaks_move words parts c ahead m k (omega arith) (omega arith) (inr (items_sign is)) in
        let rest = items_move gap.1 is (omega arith) within ready in
        record {
          to = rest.to;
          moved = rest.moved;
          reads = λ body'. let z = rest.reads body' in (tree.script z.0, r.list gap.2 (ap begins_pipeline (lead_of_same c ahead gap.1 (omega arith) First) ∙ h) z.1);
        }

    pub sequence_moves : {body : ℕ → Document} {s s' u : State} {t : Script} → SameState s s' → ReadsSequence limit b body s u t → u.spot.at < s.spot.at + n → u.spot.at ≤ limit_of c → IsReady u
        → FoundAt u (λ body' u' t'. ReadsSequence limit b' body' s' u' t')
    sequence_moves m (r.nothing k h) size within ready =
        let gap = breaks_move words parts c ahead m k size within ready in
        record { to = gap.0; moved = gap.1; reads = λ body'. (tree.script [], r.nothing gap.2 (ap begins_pipeline (lead_of_same c ahead gap.1 within First) ∙ h)) }
    sequence_moves m (r.sequence t) size within ready =
        let inside = list_moves m t size within ready in
        record { to = inside.to; moved = inside.moved; reads = λ body'. let z = inside.reads body' in (z.0, r.sequence z.1) }
