-- An admitted program comes to no utility without a row: the name of each command is static text,
-- which is its first field, and the marks of what is round it are after it.
use Rattle.std.proofs.Common.{◌≡◌, ℕ, Bool, true, false, not, ◌&&◌, ◌||◌, if◌then◌else◌, Option, Some, None, is_some, List, [], ◌∷◌, ◌++◌, map, unwrap_or, append_assoc, append-nil, refl, sym, ap, subst, ◌∙◌}
use Rattle.std.specs.List.{list_all}
use Rattle.std.proofs.lemmas.Bool.{and_parts}
use Rattle.std.proofs.lemmas.Option.{none-some}
use Rattle.sh_tree.specs.declared.known.KnownName.{KnownName}
use Rattle.sh_tree.specs.declared.known.KnownName.TheVariants as known
use Rattle.sh_tree.specs.declared.refusal.Rule.{Rule}
use Rattle.sh_tree.specs.standard.program.Syntax as p
use Rattle.sh_tree.specs.standard.program.Syntax.{Text}
use Rattle.sh_tree.specs.standard.program.Words.{static_of, words_in, operands_in, is_plainly}
use Rattle.sh_runs.specs.declared.kind.Kind.{Kind}
use Rattle.sh_runs.specs.declared.kind.Kind.TheVariants as kind
use Rattle.sh_runs.specs.standard.Kinds.{kind_of, is_declaration}
use Rattle.sh_runs.specs.Counts.{some_gives_field}
use Rattle.sh_runs.specs.Surroundings.{Surroundings, Located, has_loop, outside, items_located}
use Rattle.sh_runs.specs.Profile.{Static, unless, or_rule, are_enough, jumps_inside, kind_rule, named_rule, words_rule, command_rule, refused_at}
use Rattle.sh_runs.specs.Rows.{text_gives_field, kind_gives_fields, command_gives_fields, RowsAreThere}
use Rattle.sh_runs.specs.standard.runs.Environment.{Environment, Frame}
use Rattle.sh_runs.specs.standard.runs.Answers.{Answer}
use Rattle.sh_runs.specs.standard.runs.States.{fresh}
use Rattle.sh_runs.specs.standard.runs.Expansion.{Context, in_fields, expand}
use Rattle.sh_runs.specs.standard.runs.Operands.{ends_options, is_dashed, count_operand}
use Rattle.sh_runs.specs.standard.runs.Work.{Simple, Work, Prepare, Utility}
use Rattle.sh_runs.specs.standard.runs.Steps.{Named, named_manner, manner, is_declared, word_context, word_fields}
use Rattle.sh_runs.specs.standard.runs.Rows.{is_no_action, traps_nothing, may_run, runs_utility, has_command_letters, describes, commands_utility, is_count, is_reserved_elsewhere, special_has_row, utility_has_row, manner_has_row, has_row}
use Rattle.sh_runs.proofs.AdmittedLemmas.{is_free, items_listed, mapped}
use Rattle.sh_runs.proofs.ExpansionLemmas.{Each}
use Rattle.sh_runs.proofs.LeftLemmas.{Known, Follows, LeftStands, WorkStands, run_stands}
use Rattle.sh_runs.proofs.MarkLemmas.{around, loop_is_marked, function_is_marked}
use Rattle.sh_runs.proofs.PartLemmas.{freed}
use Rattle.sh_runs.proofs.StaticLemmas.{static_fields}

-- Fields of words

-- these are the fields of words with this static text: a word that has some gives it as its one
-- field
unfoldable Fits : List Static → List Text → Type 0
Fits [] us = us ≡ []
Fits (s ∷ ss) us = (vs : List Text) × (rest : List Text) × (us ≡ vs ++ rest) × ((t : Text) → s ≡ Some t → vs ≡ t ∷ []) × Fits ss rest

-- those after a first word
abbrev Behind : Text → List Static → List Text → Type 0
Behind t ss us = (rest : List Text) × (us ≡ t ∷ rest) × Fits ss rest

fits_first : (t : Text) (ss : List Static) (us : List Text) → Fits (Some t ∷ ss) us → Behind t ss us
unfolding Fits
fits_first t ss us h = (h.1, h.2 ∙ ap (λ vs. vs ++ h.1) (h.3 t refl), h.4)

fits_nothing : (us : List Text) → Fits [] us → us ≡ []
unfolding Fits
fits_nothing us h = h

counts_fit : (ss : List Static) (us : List Text) → list_all is_count ss ≡ true → Fits ss us → list_all (λ t. is_count (Some t)) us ≡ true
unfolding is_count
counts_fit [] us h k = rw (fits_nothing us k) refl
counts_fit (None ∷ ss) us h k = cc
counts_fit (Some t ∷ ss) us h k =
    let rest : Behind t ss us = fits_first t ss us k in
    let both = and_parts (is_count (Some t)) (list_all is_count ss) h in
    rw (rest.1, both.0) (counts_fit ss rest.0 both.1 rest.2)

no_action_fits : (ss : List Static) (us : List Text) → is_no_action ss ≡ true → Fits ss us → is_no_action (map Some us) ≡ true
unfolding is_no_action
no_action_fits [] us h k = rw (fits_nothing us k) refl
no_action_fits (None ∷ ss) us h k = cc
no_action_fits (Some t ∷ ss) us h k = let rest : Behind t ss us = fits_first t ss us k in rw (rest.1) h

traps_fit : (ss : List Static) (us : List Text) → traps_nothing ss ≡ true → Fits ss us → traps_nothing (map Some us) ≡ true
unfolding traps_nothing is_no_action
traps_fit [] us h k = rw (fits_nothing us k) refl
traps_fit (None ∷ ss) us h k = cc
traps_fit (Some t ∷ ss) us h k =
    let rest : Behind t ss us = fits_first t ss us k in
    rw (rest.1) (go rest.0 rest.2 (ends_options t) h)
  where
    go : (us : List Text) → Fits ss us → (b : Bool) → (if b then is_no_action ss else is_no_action (Some t ∷ ss)) ≡ true
        → (if b then is_no_action (map Some us) else is_no_action (map Some (t ∷ us))) ≡ true
    go us k true h = no_action_fits ss us h k
    go us k false h = h

runs_fit : (ss : List Static) (us : List Text) → runs_utility ss ≡ true → Fits ss us → runs_utility (map Some us) ≡ true
unfolding runs_utility
runs_fit [] us h k = rw (fits_nothing us k) refl
runs_fit (None ∷ ss) us h k = cc
runs_fit (Some t ∷ ss) us h k = let rest : Behind t ss us = fits_first t ss us k in rw (rest.1) h

commands_fit : (ss : List Static) (us : List Text) → commands_utility ss ≡ true → Fits ss us → commands_utility (map Some us) ≡ true
unfolding commands_utility
commands_fit [] us h k = rw (fits_nothing us k) refl
commands_fit (None ∷ ss) us h k = cc
commands_fit (Some t ∷ ss) us h k =
    let rest : Behind t ss us = fits_first t ss us k in
    rw (rest.1) (go (map Some rest.0) (λ i. runs_fit ss rest.0 i rest.2) (λ i. commands_fit ss rest.0 i rest.2) (ends_options t) (is_dashed t) (has_command_letters t) (describes t) h)
  where
    go : (us : List Static) → (runs_utility ss ≡ true → runs_utility us ≡ true) → (commands_utility ss ≡ true → commands_utility us ≡ true) → (b c d v : Bool)
        → (if b then runs_utility ss else (if c then d && (v || commands_utility ss) else may_run (kind_of t))) ≡ true
        → (if b then runs_utility us else (if c then d && (v || commands_utility us) else may_run (kind_of t))) ≡ true
    go us k l true c d v h = k h
    go us k l false true true true h = refl
    go us k l false true true false h = l h
    go us k l false true false v h = cc
    go us k l false false d v h = h

-- What a name admits

-- a command with this name and these operands after it has a row, if these are round it
unfoldable name_has_row : Surroundings → Kind → List Text → Bool
name_has_row x (kind.Special known.Break) ts = list_all (λ t. is_count (Some t)) ts && has_loop x
name_has_row x (kind.Special known.Continue) ts = list_all (λ t. is_count (Some t)) ts && has_loop x
name_has_row x (kind.Special known.Return) ts = x.function
name_has_row x (kind.Special known.Dot) ts = false
name_has_row x (kind.Special known.Eval) ts = false
name_has_row x (kind.Special known.Trap) ts = traps_nothing (map Some ts)
name_has_row x (kind.Refused name) ts = is_reserved_elsewhere name
name_has_row x kind.Command ts = commands_utility (map Some ts)
name_has_row x k ts = true

unless_none : (b : Bool) (r : Rule) → unless b r ≡ None → b ≡ true
unfolding unless
unless_none true r h = refl
unless_none false r h = cc

or_none : (q r : Option Rule) → or_rule q r ≡ None → (q ≡ None) × (r ≡ None)
unfolding or_rule
or_none None r h = (refl, h)
or_none (Some q) r h = cc

jumps_fit : (x : Surroundings) (ss : List Static) (us : List Text) (q r : Rule) → or_rule (unless (list_all is_count ss) q) (unless (jumps_inside x ss) r) ≡ None → Fits ss us
    → (list_all (λ t. is_count (Some t)) us && has_loop x) ≡ true
jumps_fit x ss us q r h k =
    let both = or_none _ _ h in
    rw (counts_fit ss us (unless_none _ q both.0) k, (and_parts (has_loop x) _ (unless_none _ r both.1)).0) refl

kind_fits : (x : Surroundings) (quoted : Bool) (k : Kind) (ss : List Static) (us : List Text) → kind_rule x quoted k ss ≡ None
    → (is_declaration k ≡ false → Fits ss us) → name_has_row x k us ≡ true
unfolding kind_rule is_declaration name_has_row
kind_fits x quoted (kind.Special known.Break) ss us h k = jumps_fit x ss us _ _ h (k refl)
kind_fits x quoted (kind.Special known.Continue) ss us h k = jumps_fit x ss us _ _ h (k refl)
kind_fits x quoted (kind.Special known.Return) ss us h k = unless_none x.function _ h
kind_fits x quoted (kind.Special known.Dot) ss us h k = cc
kind_fits x quoted (kind.Special known.Eval) ss us h k = cc
kind_fits x quoted (kind.Special known.Trap) ss us h k = traps_fit ss us (unless_none _ _ h) (k refl)
kind_fits x quoted (kind.Refused name) ss us h k = unless_none _ _ h
kind_fits x quoted kind.Command ss us h k = commands_fit ss us (unless_none _ _ h) (k refl)
kind_fits x quoted k ss us h i = refl

-- What is known of a simple command

abbrev GiveFields : p.Words → Type 0
GiveFields vs = list_all text_gives_field (words_in vs) ≡ true

-- before its first word it breaks no rule; after it, whatever the fields of the words that are left
-- will be, it has a row
unfoldable RowsKnown : Known
RowsKnown x k left [] = (words_rule x left ≡ None) × GiveFields left
RowsKnown x k left (t ∷ ts) =
    ((us : List Text) → (is_declaration (kind_of t) ≡ false → Fits (map static_of (words_in left)) us) → name_has_row x (kind_of t) (ts ++ us) ≡ true) × GiveFields left

static_gives : (w : p.Word) (t : Text) → text_gives_field w ≡ true → static_of w ≡ Some t → some_gives_field w ≡ true
unfolding text_gives_field
static_gives w t h s = go (static_of w) s h
  where
    go : (o : Option Text) → o ≡ Some t → (not (is_some o) || some_gives_field w) ≡ true → some_gives_field w ≡ true
    go None i j = absurd (none-some t i)
    go (Some u) i j = j

-- a word with a static text gives it
static_field : (c : Context) (w : p.Word) (t : Text) (e : Environment) (f : Frame) (status : ℕ) (a : Answer) → c ≡ in_fields → text_gives_field w ≡ true
    → static_of w ≡ Some t → word_fields c a (expand f status c w (fresh e a.given)) ≡ t ∷ []
unfolding word_fields
static_field c w t e f status a same h s =
    subst (λ d. word_fields d a (expand f status d w (fresh e a.given)) ≡ t ∷ []) (sym same)
    (static_fields w t s (static_gives w t h s) _ a.directory f status (fresh e a.given) refl)

rule_behind : (x : Surroundings) (w : p.Word) (left : p.Words) (o : Static) → named_rule x w o (map static_of (words_in left)) ≡ None
    → (t : Text) × (o ≡ Some t) × (kind_rule x (not (is_plainly t w)) (kind_of t) (map static_of (words_in left)) ≡ None)
unfolding named_rule
rule_behind x w left None h = cc
rule_behind x w left (Some t) h = (t, refl, (or_none _ _ h).0)

rows_go : (x : Surroundings) (k : Simple) (w : p.Word) (left : p.Words) (ts : List Text) (e : Environment) (f : Frame) (status : ℕ) (a : Answer)
    → RowsKnown x k (p.more_words w left) ts
    → RowsKnown x k left (ts ++ word_fields (word_context ts w) a (expand f status (word_context ts w) w (fresh e a.given)))
unfolding RowsKnown words_rule words_in is_declared Fits
rows_go x k w left [] e f status a h =
    let both = and_parts (text_gives_field w) _ h.1 in
    let name = rule_behind x w left (static_of w) h.0 in
    subst (RowsKnown x k left) (sym (static_field in_fields w name.0 e f status a refl both.0 name.1))
    ((λ us fits. kind_fits x (not (is_plainly name.0 w)) (kind_of name.0) _ us name.2 fits), both.1)
rows_go x k w left (t ∷ ts) e f status a h =
    let both = and_parts (text_gives_field w) _ h.1 in
    let new : List Text = word_fields (word_context (t ∷ ts) w) a (expand f status (word_context (t ∷ ts) w) w (fresh e a.given)) in (
      (λ us fits.
          subst (λ vs. name_has_row x (kind_of t) vs ≡ true) (sym (append_assoc ts new us))
          (h.0 (new ++ us)
          (λ plain. (new, us, refl, (λ u s. static_field (word_context (t ∷ ts) w) w u e f status a (rw plain refl) both.0 s), fits plain)))),
      both.1,
    )

-- the test: the command breaks no rule, and its words give fields
abbrev passes : Located → Bool
passes l = is_free l && command_gives_fields l.command

free_rule : (x : Surroundings) (number at : ℕ) (kind : p.Kind) (rs : p.Redirects) → is_free (record { command = p.command number at kind rs; surroundings = x }) ≡ true
    → command_rule x kind ≡ None
unfolding refused_at
free_rule x number at kind rs h = go (command_rule x kind) (ap not (sym (mapped _ (command_rule x kind))) ∙ h)
  where
    go : (o : Option Rule) → not (is_some o) ≡ true → o ≡ None
    go None i = refl
    go (Some r) i = cc

-- outside of parts of pipelines no more is refused

or_freed : (q r s : Option Rule) → or_rule q r ≡ None → (r ≡ None → s ≡ None) → or_rule q s ≡ None
unfolding or_rule
or_freed None r s h k = k h
or_freed (Some q) r s h k = cc

jumps_freed : (loop b beyond enough : Bool) (r : Rule) → unless (loop && (not beyond || enough)) r ≡ None → unless (loop && (not (b && beyond) || enough)) r ≡ None
unfolding unless
jumps_freed false b beyond enough r h = cc
jumps_freed true false beyond enough r h = refl
jumps_freed true true beyond enough r h = h

kind_freed : (b : Bool) (x : Surroundings) (quoted : Bool) (k : Kind) (ss : List Static) → kind_rule x quoted k ss ≡ None → kind_rule (freed b x) quoted k ss ≡ None
unfolding kind_rule
kind_freed b x quoted (kind.Special known.Break) ss h = or_freed _ _ _ h (jumps_freed (has_loop x) b x.beyond (are_enough x.loops ss) _)
kind_freed b x quoted (kind.Special known.Continue) ss h = or_freed _ _ _ h (jumps_freed (has_loop x) b x.beyond (are_enough x.loops ss) _)
kind_freed b x quoted k ss h = h

named_freed : (b : Bool) (x : Surroundings) (w : p.Word) (o : Static) (ss : List Static) → named_rule x w o ss ≡ None → named_rule (freed b x) w o ss ≡ None
unfolding named_rule or_rule
named_freed b x w None ss h = cc
named_freed b x w (Some t) ss h = let both = or_none _ _ h in rw (kind_freed b x _ _ ss both.0) both.1

words_freed : (b : Bool) (x : Surroundings) (ws : p.Words) → words_rule x ws ≡ None → words_rule (freed b x) ws ≡ None
unfolding words_rule
words_freed b x p.no_words h = refl
words_freed b x (p.more_words w ws) h = named_freed b x w (static_of w) _ h

rule_freed : (b : Bool) (x : Surroundings) (k : p.Kind) → command_rule x k ≡ None → command_rule (freed b x) k ≡ None
unfolding command_rule
rule_freed b x (p.Simple es) h = words_freed b x (operands_in es) h
rule_freed b x k h = h

pub free_freed : (b : Bool) (x : Surroundings) (c : p.Command) → is_free (record { command = c; surroundings = x }) ≡ true → is_free (record { command = c; surroundings = freed b x }) ≡ true
unfolding refused_at
free_freed b x (p.command number at kind rs) h =
    ap not (mapped _ (command_rule (freed b x) kind)) ∙ ap (λ (o : Option Rule). not (is_some o)) (rule_freed b x kind (free_rule x number at kind rs h))

passes_freed : (b : Bool) (x : Surroundings) (c : p.Command) → passes (record { command = c; surroundings = x }) ≡ true → passes (record { command = c; surroundings = freed b x }) ≡ true
passes_freed b x c h =
    let both = and_parts (is_free (record { command = c; surroundings = x })) _ h in
    rw (free_freed b x c both.0, both.1) refl

rows_follow : Follows passes RowsKnown
unfolding RowsKnown command_rule command_gives_fields kind_gives_fields
rows_follow = record {
  freer = passes_freed;
  begins = λ x number at es rs h.
      let l : Located = record { command = p.command number at (p.Simple es) rs; surroundings = x } in
      let both = and_parts (is_free l) _ h in
      (free_rule x number at (p.Simple es) rs both.0, both.1);
  goes = λ x k w left ts e f status a h on. rows_go x k w left ts e f status a h;
}

-- A utility that the work comes to

special_row : (ws : List Work) (name : KnownName) (ts : List Text) → name_has_row (around ws) (kind.Special name) ts ≡ true → special_has_row ws name ts ≡ true
unfolding name_has_row special_has_row
special_row ws known.Break ts h = rw (loop_is_marked (unwrap_or (count_operand ts) 1) ws) h
special_row ws known.Continue ts h = rw (loop_is_marked (unwrap_or (count_operand ts) 1) ws) h
special_row ws known.Return ts h = function_is_marked ws ∙ h
special_row ws known.Trap ts h = h
special_row ws known.Dot ts h = h
special_row ws known.Eval ts h = h
special_row ws name ts h = refl

manner_row : (ws : List Work) (k : Kind) (t : Text) (ts : List Text) → name_has_row (around ws) k ts ≡ true → manner_has_row ws (named_manner k t ts) ≡ true
unfolding manner_has_row named_manner
manner_row ws (kind.Special name) t ts h = special_row ws name ts h
manner_row ws k t ts h = refl

utility_row : (x : Surroundings) (k : Kind) (t : Text) (ts : List Text) → named_manner k t ts ≡ Named t ts → name_has_row x k ts ≡ true → utility_has_row k ts ≡ true
unfolding named_manner name_has_row utility_has_row
utility_row x (kind.Special name) t ts m h = cc
utility_row x (kind.Refused name) t ts m h = h
utility_row x kind.Command t ts m h = h
utility_row x k t ts m h = refl

-- once all words are expanded
known_row : (x : Surroundings) (k : Simple) (t : Text) (ts : List Text) → RowsKnown x k p.no_words (t ∷ ts) → name_has_row x (kind_of t) ts ≡ true
unfolding RowsKnown words_in Fits
known_row x k t ts h = subst (λ us. name_has_row x (kind_of t) us ≡ true) (append-nil ts) (h.0 [] (λ plain. refl))

prepared_row : (ws : List Work) (k : Simple) (ts : List Text) → RowsKnown (around ws) k p.no_words ts → manner_has_row ws (manner ts) ≡ true
unfolding manner manner_has_row
prepared_row ws k [] h = refl
prepared_row ws k (t ∷ ts) h = manner_row ws (kind_of t) t ts (known_row (around ws) k t ts h)

work_row : (ws : List Work) → LeftStands passes RowsKnown ws → has_row ws ≡ true
unfolding LeftStands WorkStands has_row manner
work_row [] h = refl
work_row (Prepare k ts rs xs failed ∷ ws) h = prepared_row ws k ts h.0.0
work_row (Utility k t ts rs xs prefixes values ∷ ws) h = utility_row (around ws) (kind_of t) t ts h.0.1 (known_row (around ws) k t ts h.0.0)
work_row (w ∷ ws) h = refl

-- Programs

both_pass : (ls : List Located) → list_all is_free ls ≡ true → list_all (λ (l : Located). command_gives_fields l.command) ls ≡ true → Each passes ls
both_pass [] h k = refl
both_pass (l ∷ ls) h k =
    let a = and_parts (is_free l) _ h in
    let b = and_parts (command_gives_fields l.command) _ k in
    rw (a.0, b.0) (both_pass ls a.1 b.1)

pub rows_are_there : RowsAreThere
rows_are_there t e f moves w admitted give none h n r lives =
    let pass : Each passes (items_located outside t) = both_pass (items_located outside t) (sym (items_listed outside t) ∙ admitted) give in
    work_row r.work (run_stands passes RowsKnown rows_follow e f t moves w (λ name body d. absurd (none-some body (sym (none name) ∙ d))) pass h n r lives)
