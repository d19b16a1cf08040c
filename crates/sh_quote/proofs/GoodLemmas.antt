-- Commands of a program that keeps the rules of quoting are good.
use Rattle.std.proofs.Common.{◌≡◌, ℕ, ◌==◌, Bool, true, false, not, ◌&&◌, ◌||◌, if◌then◌else◌, Option, Some, None, is_some, unwrap_or, option_map, List, [], ◌∷◌, ◌++◌, length, flat_map, filter, map, refl, sym, ap, subst, ◌∙◌, eqb-true}
use Rattle.std.specs.List.{list_any, list_all}
use Rattle.std.proofs.lemmas.Bool.{and_parts, and_from, or_parts, false≢true, not-true, true≢false}
use Rattle.std.proofs.lemmas.List.Folds.{list_any-append, list_all-append}
use Rattle.std.proofs.lemmas.List.{nil_from_length}
use Rattle.std.proofs.lemmas.Option.{none-some}
use Rattle.sh_tree.specs.declared.known.KnownName.TheVariants as known
use Rattle.sh_tree.specs.declared.refusal.Rule.TheVariants as rule
use Rattle.sh_tree.specs.declared.place.Place.{Place}
use Rattle.sh_tree.specs.standard.program.Syntax as p
use Rattle.sh_tree.specs.standard.program.Syntax.{Text}
use Rattle.sh_tree.specs.standard.program.Words.{operands_in, redirects_in, assignments_in, static_of, assignment_in, words_in}
use Rattle.sh_runs.specs.declared.kind.Kind.{Kind}
use Rattle.sh_runs.specs.declared.kind.Kind.TheVariants as kind
use Rattle.sh_runs.specs.Counts.{some_gives_field}
use Rattle.sh_runs.specs.standard.Kinds.{kind_of, is_declaration}
use Rattle.sh_runs.specs.Profile.{named_rule, words_rule, command_rule, refused_at}
use Rattle.sh_runs.specs.Quoting.{word_assigns, is_ifs}
use Rattle.sh_runs.specs.Rows.{text_gives_field, kind_gives_fields, command_gives_fields}
use Rattle.sh_runs.specs.Surroundings.{Surroundings, Located, outside, in_loop, in_function, items_located, command_located, kind_located, elements_located, redirect_located, redirects_located, branches_located, otherwise_located, for_words_located, words_located, clauses_located, word_located}
use Rattle.sh_runs.specs.standard.runs.Operands as o
use Rattle.sh_runs.specs.standard.runs.Steps.{opened}
use Rattle.sh_runs.proofs.ExpansionLemmas.{each_parts, word_assigns_none}
use Rattle.sh_domain.specs.Operands.{statics, read_names}
use Rattle.sh_quote.specs.Places.{word_places, split_operands, split_words}
use Rattle.sh_quote.specs.Steady.{redirect_words, value_words, for_words, pattern_words, kind_words, is_static, steady_assignment, steady_operands, steady_words, steady_kind, steady_command}
use Rattle.sh_quote.specs.Invariant.{watched, is_good, AllGood, WordGood, WordsGood, RedirectsGood, ValuesGood, SplitWordsGood, OperandsGood, SteadyGetopts, Steady, NameGood, LeftGood, ItemsGood, CommandGood, BranchesGood, ClausesGood, ForWordsGood, KindGood}

-- Lists

pub nil_parts : {A : Type 0} (xs ys : List A) → xs ++ ys ≡ [] → (xs ≡ []) × (ys ≡ [])
nil_parts [] ys h = (refl, h)
nil_parts (x ∷ xs) ys h = cc

module _ (numbers : Bool) where
  -- what the command keeps
  record Kept (l : Located) : Type 0 where
    quoted : flat_map (word_places numbers) (split_words l.command) ≡ []
    steady : numbers ≡ true → steady_command l.command ≡ true
    stands : command_gives_fields l.command ≡ true
    free : refused_at l ≡ None

  where_counted : (b c : Bool) → (not b || c) ≡ true → b ≡ true → c ≡ true
  where_counted true c h e = h
  where_counted false c h e = absurd (false≢true e)

  is_none : {A : Type 0} (v : Option A) → not (is_some v) ≡ true → v ≡ None
  is_none None h = refl
  is_none (Some v) h = absurd (false≢true h)

  kept : (l : Located) → is_good numbers l ≡ true → Kept l
  unfolding is_good
  kept l h =
      let told : List Place = flat_map (word_places numbers) (split_words l.command) in
      let a = and_parts (length told == 0 && (not numbers || steady_command l.command) && command_gives_fields l.command) (not (is_some (refused_at l))) h in
      let b = and_parts (length told == 0 && (not numbers || steady_command l.command)) (command_gives_fields l.command) a.0 in
      let c = and_parts (length told == 0) (not numbers || steady_command l.command) b.0 in
      record {
        quoted = nil_from_length told (eqb-true (length told) 0 c.0);
        steady = where_counted numbers (steady_command l.command) c.1;
        stands = b.1;
        free = is_none (refused_at l) a.1;
      }

  -- and where all is kept the command is good
  pub good_from : (l : Located) → flat_map (word_places numbers) (split_words l.command) ≡ [] → (numbers ≡ true → steady_command l.command ≡ true) → command_gives_fields l.command ≡ true
      → not (is_some (refused_at l)) ≡ true → is_good numbers l ≡ true
  unfolding is_good
  good_from l q s c f = rw (q, counted numbers s, c, f) refl
    where
      counted : (b : Bool) → (b ≡ true → steady_command l.command ≡ true) → (not b || steady_command l.command) ≡ true
      counted true h = h refl
      counted false h = refl

  -- Words

  -- a word assigns no watched name
  unwatched : (w : p.Word) → (numbers ≡ true → word_assigns is_ifs w ≡ false) → word_assigns (watched numbers) w ≡ false
  unwatched w h = go numbers h
    where
      go : (b : Bool) → (b ≡ true → word_assigns is_ifs w ≡ false) → word_assigns (λ n. b && is_ifs n) w ≡ false
      go true k = k refl
      go false k = word_assigns_none w

  -- no word of the list assigns IFS, if that counts
  abbrev NoneAssigns : List p.Word → Type 0
  NoneAssigns ws = numbers ≡ true → list_any (word_assigns is_ifs) ws ≡ false

  first_assigns : (w : p.Word) (ws : List p.Word) → NoneAssigns (w ∷ ws) → (word_assigns (watched numbers) w ≡ false) × NoneAssigns ws
  first_assigns w ws h =
      (unwatched w (λ e. (or_parts (word_assigns is_ifs w) (list_any (word_assigns is_ifs) ws) (h e)).0), λ e. (or_parts (word_assigns is_ifs w) (list_any (word_assigns is_ifs) ws) (h e)).1)

  parts_assign : (vs ws : List p.Word) → NoneAssigns (vs ++ ws) → NoneAssigns vs × NoneAssigns ws
  parts_assign vs ws h =
      let split = λ (e : numbers ≡ true). or_parts (list_any (word_assigns is_ifs) vs) (list_any (word_assigns is_ifs) ws) (sym (list_any-append (word_assigns is_ifs) vs ws) ∙ h e) in
      (λ e. (split e).0, λ e. (split e).1)

  words_good : (ws : p.Words) → NoneAssigns (words_in ws) → AllGood numbers (words_located ws) → WordsGood numbers ws
  unfolding words_located WordsGood words_in
  words_good p.no_words h k = tt
  words_good (p.more_words w ws) h k =
      let a = first_assigns w (words_in ws) h in
      let b = each_parts (is_good numbers) (word_located w) (words_located ws) k in
      (record { assigns = a.0; located = b.0 }, words_good ws a.1 b.1)

  redirect_good : (r : p.Redirect) → word_assigns (watched numbers) (opened r) ≡ false → AllGood numbers (redirect_located r) → WordGood numbers (opened r)
  unfolding redirect_located opened
  redirect_good (p.File w) h k = record { assigns = h; located = k }
  redirect_good (p.Here w) h k = record { assigns = h; located = k }

  redirects_good : (rs : p.Redirects) → NoneAssigns (redirect_words rs) → AllGood numbers (redirects_located rs) → RedirectsGood numbers rs
  unfolding redirects_located RedirectsGood redirect_words
  redirects_good p.no_redirects h k = tt
  redirects_good (p.more_redirects r rs) h k =
      let a = first_assigns (opened r) (redirect_words rs) h in
      let b = each_parts (is_good numbers) (redirect_located r) (redirects_located rs) k in
      (redirect_good r a.0 b.0, redirects_good rs a.1 b.1)

  split_words_good : (ws : p.Words) → NoneAssigns (words_in ws) → flat_map (word_places numbers) (words_in ws) ≡ [] → AllGood numbers (words_located ws) → SplitWordsGood numbers ws
  unfolding words_located SplitWordsGood words_in
  split_words_good p.no_words h q k = tt
  split_words_good (p.more_words w ws) h q k =
      let a = first_assigns w (words_in ws) h in
      let b = each_parts (is_good numbers) (word_located w) (words_located ws) k in
      let c = nil_parts (word_places numbers w) (flat_map (word_places numbers) (words_in ws)) q in
      (record { word = record { assigns = a.0; located = b.0 }; quoted = c.0 }, split_words_good ws a.1 c.1 b.1)

  -- Simple commands

  -- the commands in the words of the elements
  record Elements (es : p.Elements) : Type 0 where
    operands : AllGood numbers (words_located (operands_in es))
    redirects : AllGood numbers (redirects_located (redirects_in es))
    values : (h : NoneAssigns (value_words (assignments_in es))) → (numbers ≡ true → list_all steady_assignment (assignments_in es) ≡ true) → ValuesGood numbers (assignments_in es)

  in_elements : (es : p.Elements) → AllGood numbers (elements_located es) → Elements es
  unfolding elements_located operands_in redirects_in assignments_in words_located redirects_located value_words ValuesGood
  in_elements p.no_elements h = record { operands = refl; redirects = refl; values = λ k l. tt }
  in_elements (p.assignment name value es) h =
      let a = each_parts (is_good numbers) (word_located value) (elements_located es) h in
      let rest : Elements es = in_elements es a.1 in
      record {
        operands = rest.operands;
        redirects = rest.redirects;
        values = λ k l.
            let b = first_assigns value (value_words (assignments_in es)) k in (
              record {
                word = record { assigns = b.0; located = a.0 };
                steady = λ e. (and_parts (steady_assignment (name, value)) (list_all steady_assignment (assignments_in es)) (l e)).0;
              },
              rest.values b.1 (λ e. (and_parts (steady_assignment (name, value)) (list_all steady_assignment (assignments_in es)) (l e)).1),
            );
      }
  in_elements (p.operand w es) h =
      let a = each_parts (is_good numbers) (word_located w) (elements_located es) h in
      let rest : Elements es = in_elements es a.1 in
      record {
        operands = list_all-append (is_good numbers) (word_located w) (words_located (operands_in es)) ∙ and_from _ _ a.0 rest.operands;
        redirects = rest.redirects;
        values = rest.values;
      }
  in_elements (p.redirection r es) h =
      let a = each_parts (is_good numbers) (redirect_located r) (elements_located es) h in
      let rest : Elements es = in_elements es a.1 in
      record {
        operands = rest.operands;
        redirects = list_all-append (is_good numbers) (redirect_located r) (redirects_located (redirects_in es)) ∙ and_from _ _ a.0 rest.redirects;
        values = rest.values;
      }

  -- the operands whose fields are split
  abbrev split_by : Bool → List p.Word → List p.Word
  split_by declares ws = if declares then filter (λ v. not (is_some (assignment_in v))) ws else ws

  places_by : (declares : Bool) (w : p.Word) (ws : List p.Word) → flat_map (word_places numbers) (split_by declares (w ∷ ws)) ≡ []
      → ((declares && is_some (assignment_in w)) ≡ false → word_places numbers w ≡ []) × (flat_map (word_places numbers) (split_by declares ws) ≡ [])
  places_by false w ws h = let a = nil_parts (word_places numbers w) (flat_map (word_places numbers) ws) h in (λ e. a.0, a.1)
  places_by true w ws h = go (is_some (assignment_in w)) h
    where
      go : (b : Bool) → flat_map (word_places numbers) (if not b then w ∷ filter (λ v. not (is_some (assignment_in v))) ws else filter (λ v. not (is_some (assignment_in v))) ws) ≡ []
          → ((true && b) ≡ false → word_places numbers w ≡ []) × (flat_map (word_places numbers) (filter (λ v. not (is_some (assignment_in v))) ws) ≡ [])
      go true k = (λ e. absurd (true≢false e), k)
      go false k = let a = nil_parts (word_places numbers w) (flat_map (word_places numbers) (filter (λ v. not (is_some (assignment_in v))) ws)) k in (λ e. a.0, a.1)

  operands_good : (k : Kind) (ws : p.Words) → NoneAssigns (words_in ws) → AllGood numbers (words_located ws) → list_all text_gives_field (words_in ws) ≡ true
      → flat_map (word_places numbers) (split_by (is_declaration k) (words_in ws)) ≡ [] → OperandsGood numbers k ws
  unfolding words_located OperandsGood words_in
  operands_good k p.no_words h l s q = tt
  operands_good k (p.more_words w ws) h l s q =
      let a = first_assigns w (words_in ws) h in
      let b = each_parts (is_good numbers) (word_located w) (words_located ws) l in
      let c = and_parts (text_gives_field w) (list_all text_gives_field (words_in ws)) s in
      let d = places_by (is_declaration k) w (words_in ws) q in
      (record { word = record { assigns = a.0; located = b.0 }; quoted = d.0; stands = c.0 }, operands_good k ws a.1 b.1 c.1 d.1)

  -- the operands of a utility do not let it set IFS
  read_steady : (ws : List p.Word) → list_all is_static ws ≡ true → not (list_any is_ifs (read_names ws)) ≡ true → list_any is_ifs (unwrap_or (o.read_names (statics ws)) []) ≡ false
  unfolding read_names
  read_steady ws h k = subst (λ (b : Bool). list_any is_ifs (if b then unwrap_or (o.read_names (statics ws)) [] else []) ≡ false) h (not-true (list_any is_ifs (read_names ws)) k)

  operands_steady : (k : Kind) (ws : List p.Word) → steady_operands k ws ≡ true → Steady numbers k [] ws
  unfolding steady_operands Steady SteadyGetopts
  operands_steady (kind.Special known.Export) ws h = (refl, h)
  operands_steady (kind.Special known.Readonly) ws h = (refl, h)
  operands_steady kind.Read ws h =
      let a = and_parts (list_all is_static ws) (not (list_any is_ifs (read_names ws))) h in
      (a.0, read_steady ws a.0 a.1)
  operands_steady kind.Getopts ws h = h
  operands_steady k ws h = tt

  -- a command of words has a static name
  no_name : (x : Surroundings) (w : p.Word) (ws : p.Words) → static_of w ≡ None → words_rule x (p.more_words w ws) ≡ None → ⊥
  unfolding words_rule named_rule
  no_name x w ws e r = none-some rule.ComputedName (sym r ∙ ap (λ v. named_rule x w v (map static_of (words_in ws))) e)

  stands_static : (w : p.Word) (t : Text) → static_of w ≡ Some t → text_gives_field w ≡ true → some_gives_field w ≡ true
  unfolding text_gives_field
  stands_static w t e h = subst (λ (v : Option Text). (not (is_some v) || some_gives_field w) ≡ true) e h

  -- the name is static, and gives a field
  simple_left : (x : Surroundings) (ws : p.Words) → words_rule x ws ≡ None → NoneAssigns (words_in ws) → AllGood numbers (words_located ws) → list_all text_gives_field (words_in ws) ≡ true
      → flat_map (word_places numbers) (split_operands (words_in ws)) ≡ [] → (numbers ≡ true → steady_words (words_in ws) ≡ true) → LeftGood numbers [] ws
  unfolding words_rule LeftGood words_located words_in split_operands steady_words
  simple_left x p.no_words r h l s q c = tt
  simple_left x (p.more_words w ws) r h l s q c = go (static_of w) refl
    where
      a : (word_assigns (watched numbers) w ≡ false) × NoneAssigns (words_in ws)
      a = first_assigns w (words_in ws) h

      b : AllGood numbers (word_located w) × AllGood numbers (words_located ws)
      b = each_parts (is_good numbers) (word_located w) (words_located ws) l

      d : (text_gives_field w ≡ true) × (list_all text_gives_field (words_in ws) ≡ true)
      d = and_parts (text_gives_field w) (list_all text_gives_field (words_in ws)) s

      go : (v : Option Text) → static_of w ≡ v → NameGood numbers w ws
      go None e = absurd (no_name x w ws e r)
      go (Some t) e =
          let places : (word_places numbers w ≡ []) × (flat_map (word_places numbers) (split_by (unwrap_or (option_map (λ u. is_declaration (kind_of u)) (static_of w)) false) (words_in ws)) ≡ []) =
          nil_parts (word_places numbers w) _ q in
          record {
            name = t;
            static = e;
            field = stands_static w t e d.0;
            word = record { word = record { assigns = a.0; located = b.0 }; quoted = places.0 };
            behind = record {
              operands = operands_good (kind_of t) ws a.1 b.1 d.1
                  (subst (λ (v : Option Text). flat_map (word_places numbers) (split_by (unwrap_or (option_map (λ u. is_declaration (kind_of u)) v) false) (words_in ws)) ≡ []) e places.1);
              steady = λ n. operands_steady (kind_of t) (words_in ws) (subst (λ (v : Option Text). unwrap_or (option_map (λ u. steady_operands (kind_of u) (words_in ws)) v) true ≡ true) e (c n));
            };
          }

  -- Commands

  no_rule : {A B : Type 0} (f : A → B) (v : Option A) → option_map f v ≡ None → v ≡ None
  no_rule f None h = refl
  no_rule f (Some a) h = cc

  unwatched_name : (name : Text) → (numbers ≡ true → not (is_ifs name) ≡ true) → watched numbers name ≡ false
  unwatched_name name h = go numbers h
    where
      go : (b : Bool) → (b ≡ true → not (is_ifs name) ≡ true) → (b && is_ifs name) ≡ false
      go true k = not-true (is_ifs name) (k refl)
      go false k = refl

  clauses_good : (x : Surroundings) (cs : p.Clauses) → NoneAssigns (pattern_words cs) → AllGood numbers (clauses_located x cs) → ClausesGood numbers cs
  unfolding clauses_located ClausesGood pattern_words ItemsGood
  clauses_good x p.no_clauses h k = tt
  clauses_good x (p.more_clauses patterns body end rest) h k =
      let a = parts_assign (words_in patterns) (pattern_words rest) h in
      let b = each_parts (is_good numbers) (words_located patterns ++ items_located x body) (clauses_located x rest) k in
      let c = each_parts (is_good numbers) (words_located patterns) (items_located x body) b.0 in
      (words_good patterns a.0 c.0, (x, c.1), clauses_good x rest a.1 b.1)

  for_words_good : (ws : p.ForWords) → NoneAssigns (for_words ws) → flat_map (word_places numbers) (for_words ws) ≡ [] → AllGood numbers (for_words_located ws) → ForWordsGood numbers ws
  unfolding for_words_located ForWordsGood for_words
  for_words_good p.every_parameter h q k = tt
  for_words_good (p.listed ws) h q k = split_words_good ws h q k

  -- what the rules require of a command of this kind
  record Asked (x : Surroundings) (kind : p.Kind) : Type 0 where
    places : flat_map (word_places numbers) (split_words (p.command 0 0 kind p.no_redirects)) ≡ []
    steady : numbers ≡ true → steady_kind kind ≡ true
    assigns : NoneAssigns (kind_words kind)
    stands : command_gives_fields (p.command 0 0 kind p.no_redirects) ≡ true
    free : command_rule x kind ≡ None

  kind_good : (x : Surroundings) (kind : p.Kind) → Asked x kind → AllGood numbers (kind_located x kind) → KindGood numbers kind
  unfolding kind_located KindGood kind_words split_words steady_kind command_gives_fields kind_gives_fields command_rule ItemsGood CommandGood BranchesGood
  kind_good x (p.Simple es) q k =
      let a = parts_assign (words_in (operands_in es) ++ redirect_words (redirects_in es)) (value_words (assignments_in es)) q.assigns in
      let b = parts_assign (words_in (operands_in es)) (redirect_words (redirects_in es)) a.0 in
      let n : Elements es = in_elements es k in
      let s = λ (e : numbers ≡ true). and_parts (list_all steady_assignment (assignments_in es)) (steady_words (words_in (operands_in es))) (q.steady e) in (
        simple_left x (operands_in es) q.free b.0 n.operands q.stands q.places (λ e. (s e).1),
        redirects_good (redirects_in es) b.1 n.redirects,
        n.values a.1 (λ e. (s e).0),
      )
  kind_good x (p.Group list) q k = (x, k)
  kind_good x (p.Subshell list) q k = (outside, k)
  kind_good x (p.Conditional branches otherwise) q k = let a = each_parts (is_good numbers) (branches_located x branches) (otherwise_located x otherwise) k in (x, a.0, a.1)
  kind_good x (p.Loop kind condition body) q k =
      let a = each_parts (is_good numbers) (items_located (in_loop x) condition) (items_located (in_loop x) body) k in ((in_loop x, a.0), (in_loop x, a.1))
  kind_good x (p.For name ws body) q k =
      let a = each_parts (is_good numbers) (for_words_located ws) (items_located (in_loop x) body) k in
      (unwatched_name name q.steady, for_words_good ws q.assigns q.places a.0, (in_loop x, a.1))
  kind_good x (p.Case w cs) q k =
      let a = each_parts (is_good numbers) (word_located w) (clauses_located x cs) k in
      let b = first_assigns w (pattern_words cs) q.assigns in
      (record { assigns = b.0; located = a.0 }, clauses_good x cs b.1 a.1)
  kind_good x (p.Define name body) q k = (in_function, k)

  same_places : (number at : ℕ) (kind : p.Kind) (rs : p.Redirects) → flat_map (word_places numbers) (split_words (p.command number at kind rs)) ≡ []
      → flat_map (word_places numbers) (split_words (p.command 0 0 kind p.no_redirects)) ≡ []
  unfolding split_words
  same_places number at (p.Simple es) rs h = h
  same_places number at (p.For name ws body) rs h = h
  same_places number at kind rs h = refl

  same_stands : (number at : ℕ) (kind : p.Kind) (rs : p.Redirects) → command_gives_fields (p.command number at kind rs) ≡ true → command_gives_fields (p.command 0 0 kind p.no_redirects) ≡ true
  unfolding command_gives_fields
  same_stands number at kind rs h = h

  -- a good command
  pub command_good : (x : Surroundings) (number at : ℕ) (kind : p.Kind) (rs : p.Redirects) → AllGood numbers (command_located x (p.command number at kind rs))
      → RedirectsGood numbers rs × KindGood numbers kind
  unfolding command_located steady_command refused_at
  command_good x number at kind rs h =
      let l : Located = record { command = p.command number at kind rs; surroundings = x } in
      let a = and_parts (is_good numbers l) (list_all (is_good numbers) (kind_located x kind ++ redirects_located rs)) h in
      let b = each_parts (is_good numbers) (kind_located x kind) (redirects_located rs) a.1 in
      let k : Kept l = kept l a.0 in
      let s = λ (e : numbers ≡ true). and_parts (steady_kind kind) (not (list_any (word_assigns is_ifs) (redirect_words rs ++ kind_words kind))) (k.steady e) in
      let c = parts_assign (redirect_words rs) (kind_words kind) (λ e. not-true (list_any (word_assigns is_ifs) (redirect_words rs ++ kind_words kind)) (s e).1) in (
        redirects_good rs c.0 b.1,
        kind_good x kind (record { places = same_places number at kind rs k.quoted; steady = λ e. (s e).0; assigns = c.1; stands = same_stands number at kind rs k.stands; free = no_rule _ (command_rule x kind) k.free }) b.0,
      )
