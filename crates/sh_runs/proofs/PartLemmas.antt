-- What passes a test in a part of a pipeline passes it in a process of its own, if the test asks no
-- more of a command there.
use Rattle.std.proofs.Common.{◌≡◌, ◌&&◌, ◌||◌, Bool, true, false, List, [], ◌∷◌, ◌++◌, refl, subst}
use Rattle.std.proofs.lemmas.Bool.{and_parts}
use Rattle.sh_tree.specs.standard.program.Syntax as p
use Rattle.sh_runs.specs.Surroundings.{Surroundings, Located, has_loop, outside, in_loop, in_part, in_item, items_located, list_located, links_located, pipeline_located, commands_located, command_located, kind_located, redirects_located, branches_located, otherwise_located, for_words_located, words_located, clauses_located, word_located}
use Rattle.sh_runs.proofs.ExpansionLemmas.{Each, each_parts, each_joined}

-- the same place, perhaps in no part of a pipeline in a loop
abbrev pub freed : Bool → Surroundings → Surroundings
freed b x = record x { beyond = b && x.beyond }

parts_are : (h b c : Bool) → ((h || b) && (h || c)) ≡ (h || (b && c))
parts_are true b c = refl
parts_are false b c = refl

module _ (ok : Located → Bool) (freer : (b : Bool) (x : Surroundings) (c : p.Command) → ok (record { command = c; surroundings = x }) ≡ true → ok (record { command = c; surroundings = freed b x }) ≡ true) where
  both : (xs ys vs ws : List Located) → (Each ok xs → Each ok vs) → (Each ok ys → Each ok ws) → Each ok (xs ++ ys) → Each ok (vs ++ ws)
  both xs ys vs ws f g h = let k = each_parts ok xs ys h in each_joined ok vs ws (f k.0) (g k.1)

  same : (xs : List Located) → Each ok xs → Each ok xs
  same xs h = h

  mutual
    unfolding items_located in_item in_part

    items_freed : (b : Bool) (x : Surroundings) (t : p.Items) → Each ok (items_located x t) → Each ok (items_located (freed b x) t)
    items_freed b x p.no_items h = h
    items_freed b x (p.more_items list true rest) h = both _ _ _ _ (same (list_located outside list)) (items_freed b x rest) h
    items_freed b x (p.more_items list false rest) h = both _ _ _ _ (list_freed b x list) (items_freed b x rest) h

    list_freed : (b : Bool) (x : Surroundings) (t : p.AndOr) → Each ok (list_located x t) → Each ok (list_located (freed b x) t)
    list_freed b x (p.and_or first rest) h = both _ _ _ _ (pipeline_freed b x first) (links_freed b x rest) h

    links_freed : (b : Bool) (x : Surroundings) (t : p.Links) → Each ok (links_located x t) → Each ok (links_located (freed b x) t)
    links_freed b x p.no_links h = h
    links_freed b x (p.more_links link q rest) h = both _ _ _ _ (pipeline_freed b x q) (links_freed b x rest) h

    pipeline_freed : (b : Bool) (x : Surroundings) (t : p.Pipeline) → Each ok (pipeline_located x t) → Each ok (pipeline_located (freed b x) t)
    pipeline_freed b x (p.pipeline negated p.no_commands) h = h
    pipeline_freed b x (p.pipeline negated (p.more_commands c p.no_commands)) h = commands_freed b x (p.more_commands c p.no_commands) h
    pipeline_freed b x (p.pipeline negated (p.more_commands c (p.more_commands d cs))) h =
        subst (λ (beyond : Bool). Each ok (commands_located (record { loops = 0; function = false; beyond = beyond }) (p.more_commands c (p.more_commands d cs))))
        (parts_are (has_loop x) b x.beyond)
        (commands_freed (has_loop x || b) (in_part x (p.more_commands c (p.more_commands d cs))) (p.more_commands c (p.more_commands d cs)) h)

    pub commands_freed : (b : Bool) (x : Surroundings) (t : p.Commands) → Each ok (commands_located x t) → Each ok (commands_located (freed b x) t)
    commands_freed b x p.no_commands h = h
    commands_freed b x (p.more_commands c cs) h = both _ _ _ _ (command_freed b x c) (commands_freed b x cs) h

    command_freed : (b : Bool) (x : Surroundings) (t : p.Command) → Each ok (command_located x t) → Each ok (command_located (freed b x) t)
    command_freed b x (p.command number at kind rs) h =
        both (record { command = p.command number at kind rs; surroundings = x } ∷ []) _ (record { command = p.command number at kind rs; surroundings = freed b x } ∷ []) _
        (λ k. rw (freer b x (p.command number at kind rs) (and_parts _ true k).0) refl)
        (both _ _ _ _ (kind_freed b x kind) (same (redirects_located rs))) h

    kind_freed : (b : Bool) (x : Surroundings) (t : p.Kind) → Each ok (kind_located x t) → Each ok (kind_located (freed b x) t)
    kind_freed b x (p.Simple es) h = h
    kind_freed b x (p.Group list) h = items_freed b x list h
    kind_freed b x (p.Subshell list) h = h
    kind_freed b x (p.Conditional branches otherwise) h = both _ _ _ _ (branches_freed b x branches) (otherwise_freed b x otherwise) h
    kind_freed b x (p.Loop kind condition body) h = both _ _ _ _ (items_freed b (in_loop x) condition) (items_freed b (in_loop x) body) h
    kind_freed b x (p.For name ws body) h = both _ _ _ _ (same (for_words_located ws)) (items_freed b (in_loop x) body) h
    kind_freed b x (p.Case w cs) h = both _ _ _ _ (same (word_located w)) (clauses_freed b x cs) h
    kind_freed b x (p.Define name body) h = h

    branches_freed : (b : Bool) (x : Surroundings) (t : p.Branches) → Each ok (branches_located x t) → Each ok (branches_located (freed b x) t)
    branches_freed b x p.no_branches h = h
    branches_freed b x (p.more_branches condition body rest) h =
        both _ _ _ _ (both _ _ _ _ (items_freed b x condition) (items_freed b x body)) (branches_freed b x rest) h

    otherwise_freed : (b : Bool) (x : Surroundings) (t : p.Otherwise) → Each ok (otherwise_located x t) → Each ok (otherwise_located (freed b x) t)
    otherwise_freed b x p.no_else h = h
    otherwise_freed b x (p.else_of list) h = items_freed b x list h

    clauses_freed : (b : Bool) (x : Surroundings) (t : p.Clauses) → Each ok (clauses_located x t) → Each ok (clauses_located (freed b x) t)
    clauses_freed b x p.no_clauses h = h
    clauses_freed b x (p.more_clauses patterns body end rest) h =
        both _ _ _ _ (both _ _ _ _ (same (words_located patterns)) (items_freed b x body)) (clauses_freed b x rest) h
