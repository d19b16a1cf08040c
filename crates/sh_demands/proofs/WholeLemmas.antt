-- What the walk reports of a whole script are its demands.
use Rattle.std.proofs.Common.{◌≡◌, ℕ, suc, ◌-◌, Bool, true, false, ◌&&◌, if◌then◌else◌, List, [], ◌∷◌, ◌++◌, append_assoc, append-nil, flat_map, fold, map, Option, Some, None, slice_get, unwrap_or, option_map, option_and_then, refl, sym, ap, ap₂, ◌∙◌, arith}
use Rattle.std.specs.List.{list_all, position_from}
use Rattle.std.specs.Str.{bytes_eq}
use Rattle.std.proofs.lemmas.Bool.{and_parts}
use Rattle.std.proofs.lemmas.Option.{slice_get-map, same_Some}
use Rattle.sh_tree.specs.declared.place.Place.{Place}
use Rattle.sh_tree.specs.declared.tree.Script.{Script}
use Rattle.sh_tree.specs.standard.program.Syntax as p
use Rattle.sh_tree.specs.standard.program.Syntax.{Text}
use Rattle.sh_tree.specs.standard.program.Trees.{script_of}
use Rattle.sh_tree.specs.standard.program.Words.{static_of, operands_in}
use Rattle.sh_runs.specs.Calls as calls
use Rattle.sh_runs.specs.Calls.{Table, table_of, texts_with}
use Rattle.sh_runs.specs.Numbering.{is_numbered}
use Rattle.sh_runs.specs.standard.runs.Environment.{is_one_of}
use Rattle.sh_runs.proofs.PositionLemmas.{place_later}
use Rattle.sh_domain.specs.declared.certificate.Certificate as kept
use Rattle.sh_domain.specs.declared.certificate.Entry.{Entry}
use Rattle.sh_domain.specs.declared.certificate.FunctionEntry.{FunctionEntry}
use Rattle.sh_domain.specs.declared.rule.FlowRule.{FlowRule}
use Rattle.sh_domain.specs.Certificates.{claim_of, drops_of, in_byte_order, sheet_of}
use Rattle.sh_domain.specs.Demands.{kind_unmet, with_text, drop_at, move_at, is_reached, command_moves, shared_unmet, unmet, demands}
use Rattle.sh_domain.specs.Entries.{Around, Entered, script_entered}
use Rattle.sh_domain.specs.Facts.{Unreached, Facts, NotReached, Known, facts, claims}
use Rattle.sh_domain.specs.Gains.{words_gains, redirects_gains, with_gains}
use Rattle.sh_domain.specs.Knowledge.{AreNumbered}
use Rattle.sh_domain.specs.Names.{number_of}
use Rattle.sh_domain.specs.Needs.{redirects_unmet}
use Rattle.sh_domain.specs.Operands.{no_names}
use Rattle.sh_domain.specs.Rules.{functions_of, losses}
use Rattle.sh_domain.specs.Sheets.{certificate_of}
use Rattle.sh_domain.specs.Table.{operands, manner}
use Rattle.sh_domain.specs.Views.{Certificate, Before, Seen}
use Rattle.sh_domain.proofs.KnownNameLemmas.{names_suffice}
use Rattle.sh_domain.proofs.SlotLemmas.{claims_are_entries}
use Rattle.sh_demands.specs.Moves.{moves_by}
use Rattle.sh_demands.specs.Places.{Source, source_of, known_before, known_behind, function_drops, texts_drops, sharing, reached_sharing, shared, command_places}
use Rattle.sh_demands.specs.Tellings.{entered_told}
use Rattle.sh_demands.specs.Told.{items_told}
use Rattle.sh_demands.specs.ToldWalks.{script_step}
use Rattle.sh_demands.specs.Whole.{AreNamesOf, DemandsAreTold}
use Rattle.sh_gains.specs.Claims.{kept_claims}
use Rattle.sh_demands.specs.Within.{command_within, redirects_within, kind_within}
use Rattle.sh_gains.proofs.DefinedLemmas.{functions_same}
use Rattle.sh_demands.proofs.EnteredLemmas.{script_goes}
use Rattle.sh_demands.proofs.LossLemmas.{names_lost, losses_told, losses_nowhere}
use Rattle.sh_demands.proofs.MoveLemmas.{moves_tell}
use Rattle.sh_demands.proofs.OnceLemmas.{all_once}
use Rattle.sh_demands.proofs.OwnTellLemmas.{own_told, elements_pass}
use Rattle.sh_demands.proofs.ReachLemmas.{names_reach}
use Rattle.sh_demands.proofs.TellLemmas.{facts_whole}
use Rattle.sh_gains.proofs.TextLemmas.{has_texts, own_texts, table_texts}

-- what is claimed before a command, by its number
pub claim_before : (names : List Text) (c : kept.Certificate) (x : Table) (n : ℕ)
    → unwrap_or (slice_get (source_of names c x).before (n - 1)) Unreached
    ≡ unwrap_or (option_map (λ (e : Entry). claim_of (in_byte_order names) c.rows e.before) (slice_get c.entries.items (n - 1))) Unreached
claim_before names c x n = ap (λ o. unwrap_or o Unreached) (slice_get-map (λ (e : Entry). claim_of (in_byte_order names) c.rows e.before) c.entries.items (n - 1))

-- and what a function may drop
pub drops_kept : (names : List Text) (c : kept.Certificate) (x : Table) (k : ℕ)
    → function_drops (source_of names c x) k
    ≡ unwrap_or (option_map (λ (e : FunctionEntry). drops_of (in_byte_order names) c.rows e.drops) (slice_get c.functions.items (k - 1))) no_names
drops_kept names c x k = ap (λ o. unwrap_or o no_names) (slice_get-map (λ (e : FunctionEntry). drops_of (in_byte_order names) c.rows e.drops) c.functions.items (k - 1))

claimed : (functions names : List Text) (c : kept.Certificate) (x : Table) (n : ℕ)
    → (known_before (source_of names c x) n).facts ≡ facts ((certificate_of functions (sheet_of (in_byte_order names) c)).claim (Before n))
claimed functions names c x n = ap facts (claim_before names c x n ∙ sym ((claims_are_entries (in_byte_order names) c functions).before n))

dropped : (functions names : List Text) (c : kept.Certificate) (x : Table) (t : Text) (k : ℕ) → position_from (λ n. bytes_eq n t) 1 functions ≡ Some k
    → function_drops (source_of names c x) k ≡ (certificate_of functions (sheet_of (in_byte_order names) c)).drops t
dropped functions names c x t k h =
    drops_kept names c x k ∙ go (number_of functions t) refl (sym (place_later t 0 functions) ∙ h) ∙ sym ((claims_are_entries (in_byte_order names) c functions).drops t)
  where
    go : (o : Option ℕ) → number_of functions t ≡ o → option_map suc o ≡ Some k
        → unwrap_or (option_map (λ (e : FunctionEntry). drops_of (in_byte_order names) c.rows e.drops) (slice_get c.functions.items (k - 1))) no_names
        ≡ unwrap_or (option_map (λ (e : FunctionEntry). drops_of (in_byte_order names) c.rows e.drops) (option_and_then (slice_get c.functions.items) (number_of functions t))) no_names
    go None e f = cc
    go (Some j) e f =
        let same : suc j ≡ k = same_Some _ _ f in
        let less : k - 1 ≡ j = omega (arith, same) in
        ap (λ i. unwrap_or (option_map (λ (e : FunctionEntry). drops_of (in_byte_order names) c.rows e.drops) (slice_get c.functions.items i)) no_names) less
        ∙ ap (λ (o : Option ℕ). unwrap_or (option_map (λ (e : FunctionEntry). drops_of (in_byte_order names) c.rows e.drops) (option_and_then (slice_get c.functions.items) o)) no_names) (sym e)

-- A simple command in a part of a pipeline

all_true : (b : Bool) → (b && true) ≡ b
all_true true = refl
all_true false = refl

all_false : (b : Bool) → (b && false) ≡ false
all_false true = refl
all_false false = refl

module _ (start : Facts) (c : Certificate) (s : Source) (functions : List Text) (n at : ℕ) (es : p.Elements)
    (same : (t : Text) → is_one_of s.table.functions.names t ≡ is_one_of functions t)
    (kept : (t : Text) (k : ℕ) → position_from (λ m. bytes_eq m t) 1 s.table.functions.names ≡ Some k → function_drops s k ≡ c.drops t)
    (before : (known_before s n).facts ≡ facts (c.claim (Before n)))
    (behind : (known_behind s n es).facts ≡ with_gains (words_gains (operands_in es)) (facts (c.claim (Before n))))
    (texts : texts_with n s.table.rows ≡ map static_of (operands es)) where
  abbrev told : Entered → List Text → Bool → List Place
  told e names reached = map (drop_at at) (fold with_text [] names) ++ move_at at (command_moves functions (p.Simple es) && reached)

  moved : moves_by (texts_with n s.table.rows) ≡ command_moves functions (p.Simple es)
  moved = ap moves_by texts ∙ moves_tell.moves functions es

  by_facts : (e : Entered) (qs : List Place) (f : Facts) → facts (c.claim (Before n)) ≡ f → (names : List Text) → names ≡ names_lost start c n (losses functions e)
      → (f ≡ NotReached → names ≡ []) → ((v w : Text → Bool) (a : ℕ) → f ≡ Known v w a → names ≡ texts_drops s n es (texts_with n s.table.rows))
      → (if is_reached f then sharing s n at qs es else qs) ≡ qs ++ told e names (is_reached f)
  unfolding is_reached claims sharing move_at with_text
  by_facts e qs NotReached h names m none some =
      sym (append-nil qs)
      ∙ ap₂ (λ (ns : List Text) (b : Bool). qs ++ (map (drop_at at) (fold with_text [] ns) ++ move_at at b)) (sym (none refl)) (sym (all_false (command_moves functions (p.Simple es))))
  by_facts e qs (Known v w a) h names m none some =
      ap₂ (λ (ps : List Place) (b : Bool). ps ++ move_at at b) (all_once at qs (texts_drops s n es (texts_with n s.table.rows))) moved
      ∙ append_assoc qs (map (drop_at at) (fold with_text [] (texts_drops s n es (texts_with n s.table.rows)))) (move_at at (command_moves functions (p.Simple es)))
      ∙ ap₂ (λ (ns : List Text) (b : Bool). qs ++ (map (drop_at at) (fold with_text [] ns) ++ move_at at b)) (sym (some v w a refl)) (sym (all_true (command_moves functions (p.Simple es))))

  pub simple_shared : (rs : p.Redirects) (rule : FlowRule) (x : Around) (seen : Seen) (qs : List Place)
      → reached_sharing s n at qs (p.Simple es)
      ≡ qs ++ shared_unmet start c functions (record { command = p.command n at (p.Simple es) rs; rule = rule; around = x; seen = seen }) n at (p.Simple es)
  unfolding reached_sharing shared_unmet losses
  simple_shared rs rule x seen qs =
      let e : Entered = record { command = p.command n at (p.Simple es) rs; rule = rule; around = x; seen = seen } in
      ap (λ f. if is_reached f then sharing s n at qs es else qs) before
      ∙ by_facts e qs (facts (c.claim (Before n))) refl (names_lost start c n (losses functions e)) refl
      (λ h. losses_nowhere start c n functions es h (manner functions es))
      (λ v w a h. losses_told start c n v w a functions s es same kept behind h texts)

-- A command, as it is entered

command_shared : (start : Facts) (b : List ℕ) (t : Script) (names : List Text) (c : kept.Certificate) (functions : List Text)
    → ((u : Text) → is_one_of (table_of b t).functions.names u ≡ is_one_of functions u)
    → (n at : ℕ) (k : p.Kind) (rs : p.Redirects) (rule : FlowRule) (x : Around) (seen : Seen) (qs : List Place) → kind_within (is_one_of names) k ≡ true
    → has_texts (table_of b t).rows (p.command n at k rs) ≡ true
    → reached_sharing (source_of names c (table_of b t)) n at qs k
    ≡ qs ++ shared_unmet start (kept_claims b t names c) functions (record { command = p.command n at k rs; rule = rule; around = x; seen = seen }) n at k
unfolding reached_sharing shared_unmet losses command_moves kind_within move_at
command_shared start b t names c functions same n at (p.Simple es) rs rule x seen qs w h =
    let fs = (table_of b t).functions.names in
    let s = source_of names c (table_of b t) in
    let before = claimed fs names c (table_of b t) n in
    simple_shared start (kept_claims b t names c) s functions n at es same (λ u k e. dropped fs names c (table_of b t) u k e) before
    (facts_whole (words_gains (operands_in es)) (known_before s n) (elements_pass (is_one_of names) es w) ∙ ap (with_gains (words_gains (operands_in es))) before)
    (own_texts (table_of b t).rows n at es rs h) rs rule x seen qs
command_shared start b t names c functions same n at k rs rule x seen qs w h = sym (append-nil qs)

maybe_shared : (s : Source) (shares : Bool) (n at : ℕ) (qs xs : List Place) (k : p.Kind) → reached_sharing s n at qs k ≡ qs ++ xs
    → shared s shares n at qs k ≡ qs ++ (if shares then xs else [])
unfolding shared
maybe_shared s true n at qs xs k h = h
maybe_shared s false n at qs xs k h = sym (append-nil qs)

one_told : (start : Facts) (b : List ℕ) (t : Script) (names : List Text) (c : kept.Certificate) (functions : List Text)
    → ((u : Text) → is_one_of (table_of b t).functions.names u ≡ is_one_of functions u)
    → (y : p.Command) (rule : FlowRule) (x : Around) (seen : Seen) (ps : List Place) → command_within (is_one_of names) y ≡ true → has_texts (table_of b t).rows y ≡ true
    → command_places (source_of names c (table_of b t)) x.shares ps y
    ≡ ps ++ unmet start (kept_claims b t names c) functions (record { command = y; rule = rule; around = x; seen = seen })
unfolding command_places command_within unmet
one_told start b t names c functions same (p.command n at kind rs) rule x seen ps w h =
    let e : Entered = record { command = p.command n at kind rs; rule = rule; around = x; seen = seen } in
    let s = source_of names c (table_of b t) in
    let cert = kept_claims b t names c in
    let both = and_parts (redirects_within (is_one_of names) rs) (kind_within (is_one_of names) kind) w in
    let own = redirects_unmet (facts (cert.claim (Before n))) rs ++ kind_unmet (with_gains (redirects_gains rs) (facts (cert.claim (Before n)))) kind in
    let more = if x.shares then shared_unmet start cert functions e n at kind else [] in
    ap (λ qs. shared s x.shares n at qs kind)
    (own_told kind rs (known_before s n) ps both.0 both.1
    ∙ ap (λ f. ps ++ (redirects_unmet f rs ++ kind_unmet (with_gains (redirects_gains rs) f) kind)) (claimed (table_of b t).functions.names names c (table_of b t) n))
    ∙ maybe_shared s x.shares n at (ps ++ own) (shared_unmet start cert functions e n at kind) kind
    (command_shared start b t names c functions same n at kind rs rule x seen (ps ++ own) both.1 h)
    ∙ append_assoc ps own more

each_told : (start : Facts) (b : List ℕ) (t : Script) (names : List Text) (c : kept.Certificate) (functions : List Text)
    → ((u : Text) → is_one_of (table_of b t).functions.names u ≡ is_one_of functions u)
    → (es : List Entered) → list_all (λ (e : Entered). command_within (is_one_of names) e.command) es ≡ true
    → list_all (λ (e : Entered). has_texts (table_of b t).rows e.command) es ≡ true → (ps : List Place)
    → fold (entered_told (command_places (source_of names c (table_of b t)))) ps es ≡ ps ++ flat_map (unmet start (kept_claims b t names c) functions) es
each_told start b t names c functions same [] w h ps = sym (append-nil ps)
each_told start b t names c functions same (e ∷ es) w h ps =
    let cert = kept_claims b t names c in
    let within = and_parts (command_within (is_one_of names) e.command) (list_all (λ (x : Entered). command_within (is_one_of names) x.command) es) w in
    let have = and_parts (has_texts (table_of b t).rows e.command) (list_all (λ (x : Entered). has_texts (table_of b t).rows x.command) es) h in
    each_told start b t names c functions same es within.1 have.1 (command_places (source_of names c (table_of b t)) e.around.shares ps e.command)
    ∙ ap (λ qs. qs ++ flat_map (unmet start cert functions) es) (one_told start b t names c functions same e.command e.rule e.around e.seen ps within.0 have.0)
    ∙ append_assoc ps (unmet start cert functions e) (flat_map (unmet start cert functions) es)

-- A script

table_functions : (b : List ℕ) (t : Script) (u : Text) → is_one_of (table_of b t).functions.names u ≡ is_one_of (functions_of (script_entered (script_of b t))) u
unfolding table_of calls.functions_of
table_functions b t u = functions_same (script_of b t) u

pub demands_are_told : DemandsAreTold
unfolding demands
demands_are_told = record {
  told = λ start b t names c numbered within ps.
      script_goes (command_places (source_of names c (table_of b t))) (script_of b t) ps
      ∙ each_told start b t names c (functions_of (script_entered (script_of b t))) (table_functions b t) (script_entered (script_of b t)) within (table_texts b t numbered) ps;
}

pub whole_told : (b : List ℕ) (t : Script) (names : List Text) (c : kept.Certificate) (x : Table) (s : Source)
    → x ≡ table_of b t → is_numbered (script_of b t) ≡ true → AreNamesOf b t names → s ≡ source_of names c x
    → (start : Facts) → script_step (command_places s) b false [] t ≡ demands start (kept_claims b t names c) (script_of b t)
unfolding script_step
whole_told b t names c x s e numbered a k start =
    ap (λ y. items_told (command_places y) false [] (script_of b t)) (k ∙ ap (source_of names c) e)
    ∙ demands_are_told.told start b t names c numbered (names_reach.within b t a.declared names a.numbered) []

-- the names of a script are numbered, and its table has its text

pub names_numbered : (b : List ℕ) (t : Script) (names : List Text) → AreNamesOf b t names → AreNumbered names
names_numbered b t names a = names_suffice.numbered b t a.declared names a.numbered a.few

pub table_text : (b : List ℕ) (t : Script) (x : Table) → x ≡ table_of b t → x.script ≡ b
unfolding table_of
table_text b t x e = ap (λ (y : Table). y.script) e
