-- What is gathered of what the flow rules require, one thing after the other, and by a walk over a
-- script.
use Rattle.std.proofs.Common.{◌≡◌, ℕ, ◌≤◌, Bool, true, false, ◌&&◌, ◌||◌, if◌then◌else◌, Option, Some, None, option_map, List, [], length, slice_get, unwrap_or, refl, sym, ap, ap₂, ◌∙◌, subst, arith}
use Rattle.std.specs.Prelude.{option_and_then}
use Rattle.std.proofs.Math.Path.{fun_ext}
use Rattle.std.specs.List.{list_all}
use Rattle.sh_tree.specs.declared.limits.TheConstants.{MAX_COMMANDS, MAX_NESTING}
use Rattle.sh_tree.specs.declared.tree.Script.{Script}
use Rattle.sh_tree.specs.standard.program.Syntax.{Text}
use Rattle.sh_tree.specs.standard.program.Trees.{script_of}
use Rattle.sh_runs.specs.Calls.{table_of}
use Rattle.sh_runs.specs.Numbering.{is_numbered}
use Rattle.sh_runs.specs.standard.runs.Environment.{is_one_of}
use Rattle.sh_domain.specs.declared.certificate.Certificate as kept
use Rattle.sh_domain.specs.declared.certificate.Entry.{Entry}
use Rattle.sh_domain.specs.declared.certificate.Facts as value
use Rattle.sh_domain.specs.declared.certificate.FunctionEntry.{FunctionEntry}
use Rattle.sh_domain.specs.declared.knowledge.Knowledge.{Knowledge}
use Rattle.sh_domain.specs.Certificates.{claim_of, drops_of, in_byte_order}
use Rattle.sh_domain.specs.Entries.{Entered, script_entered}
use Rattle.sh_domain.specs.Facts.{Facts, Claim, Unreached, Declared, within}
use Rattle.sh_domain.specs.Faults.{are_among}
use Rattle.sh_domain.specs.Knowledge.{AreNumbered, among, knowledge_facts}
use Rattle.sh_domain.specs.Names.{IsNumbering, number_of}
use Rattle.sh_domain.specs.Operands.{Names, no_names}
use Rattle.sh_domain.specs.Reading.{claim_fits}
use Rattle.sh_domain.specs.Rules.{script_bounds}
use Rattle.sh_domain.specs.Slots.{entry_of}
use Rattle.sh_domain.specs.Views as views
use Rattle.sh_domain.specs.Views.{Slot}
use Rattle.sh_domain.proofs.DifferLemmas.{read_is_numbered}
use Rattle.sh_domain.proofs.TotalLemmas.{read_has_few_commands, rows_length}
use Rattle.sh_gains.proofs.TextLemmas.{has_texts, entered_have}
use Rattle.sh_table.specs.Numerals.{most}
use Rattle.sh_drafts.specs.Facts as number
use Rattle.sh_rules.specs.declared.claims.Claims.{Claims}
use Rattle.sh_rules.specs.Settings.{Setting, certificate, claimed_at}
use Rattle.sh_rules.specs.Walked.{script_walked}
use Rattle.sh_rules.specs.Walks.{facts_in, setting}
use Rattle.sh_rules.specs.Meaning.{knows}
use Rattle.sh_rules.specs.Visits.{command_by}
use Rattle.sh_rules.specs.Asked.{ByConstraints, AreDefined}
use Rattle.sh_rules.specs.Asking.{Asking}
use Rattle.sh_rules.proofs.NestLemmas.{script_shallow}
use Rattle.sh_rules.proofs.PrefixLemmas.{prefixes_are_numbered, table_defines}
use Rattle.sh_rules.proofs.RuleLemmas.{walk_same}
use Rattle.sh_rules.proofs.ScriptLemmas.{script_told}
use Rattle.sh_rules.proofs.SlotLemmas.{entries, head_claim}
use Rattle.sh_domain.specs.Admitted.{IsAdmitted, claims_in, functions_in}
use Rattle.sh_drafts.specs.declared.place.Place.{Place}
use Rattle.sh_drafts.specs.Gathered.{Gathered, fitting, fitting_place, is_at, is_number, next_of, bounded, counted, gathered, all_gathered}
use Rattle.sh_drafts.specs.Gathering.{tested_at, tested_by, met, with_sets, or_false, none_passes}
use Rattle.sh_sweeps.specs.Asked.{gathering, asking_by}
use Rattle.sh_drafts.specs.Numbers.{name_passes, by_number, numbers_in}
use Rattle.sh_drafts.specs.Places.{place_of}
use Rattle.sh_drafts.specs.declared.subject.Subject.{Subject}
use Rattle.sh_drafts.specs.Stated.{asked_bounds}
use Rattle.sh_sweeps.specs.Sweeps.{setting_by}
use Rattle.sh_drafts.specs.Turns.{sheet_by}
use Rattle.sh_drafts.specs.Working.{Sets, joined}
use Rattle.sh_drafts.specs.Starts.{start_of}
use Rattle.sh_drafts.proofs.NumberLemmas.{claim_known}
use Rattle.sh_sweeps.proofs.StatedLemmas.{asked_all, by_asked}
use Rattle.sh_drafts.proofs.TogetherLemmas.{gathered_together}

-- One thing more

pub with_nothing : (f : number.Facts) → f ≡ number.meet f number.NotReached
unfolding number.meet
with_nothing number.NotReached = refl
with_nothing (number.Known v f a) = refl

pub nothing_met : (g : Gathered) → g ≡ met number.NotReached g
nothing_met g = ap (λ f. record g { known = f }) (with_nothing g.known)

pub known_put : (g : Gathered) (f h : number.Facts) → h ≡ number.meet g.known f → record g { known = h } ≡ met f g
known_put g f h e = ap (λ k. record g { known = k }) e

abbrev pub sets_put : Gathered → (ℕ → Bool) → (ℕ → Bool) → Gathered
sets_put g v f = record g { sets = record { vars = v; functions = f } }

pub sets_joined : (g : Gathered) (z : Sets) (v f : ℕ → Bool) → ((k : ℕ) → v k ≡ (g.sets.vars k || z.vars k)) → ((k : ℕ) → f k ≡ (g.sets.functions k || z.functions k)) → sets_put g v f ≡ with_sets z g
sets_joined g z v f vars functions = ap₂ (sets_put g) (fun_ext vars) (fun_ext functions)

-- where nothing of a kind is lost
pub none_joined : (names : List Text) (old : ℕ → Bool) (k : ℕ) → old k ≡ (old k || name_passes (is_one_of []) (slice_get names k))
none_joined names old k = sym (ap (λ b. old k || b) (none_passes (slice_get names k)) ∙ or_false (old k))

pub nothing_lost : (names : List Text) (g : Gathered) → g ≡ with_sets (numbers_in names no_names) g
nothing_lost names g = sets_joined g (numbers_in names no_names) g.sets.vars g.sets.functions (none_joined names g.sets.vars) (none_joined names g.sets.functions)

-- What is required of a place and a function

module _ (x : Setting) where
  module _ (slot : Slot) (c : Claim) (k : Facts) (o : Option Place) (kept here : Bool) (old mid : Gathered) (claim : c ≡ claimed_at x slot) (test : kept ≡ within c k)
      (found : o ≡ place_of x.functions slot) (is : here ≡ is_at o old.place) (between : mid ≡ tested_at o kept old) where
    abbrev bound_of : Option Place → Bool → Bool → Gathered
    bound_of p t i = record old {
      kept = old.kept && t;
      known = if i then number.meet old.known (by_number x.names k) else old.known;
      next_place = next_of (t || is_at p old.place) (option_and_then fitting_place p) old.next_place;
    }

    bounds : (b : Bool) → here ≡ b → bound_of o kept b ≡ bounded x.names x.functions slot (claimed_at x slot) k old
    unfolding bounded
    bounds b e =
        ap (bound_of o kept) (sym e ∙ is) ∙ ap₂ (λ (p : Option Place) (t : Bool). bound_of p t (is_at p old.place)) found (test ∙ ap (λ d. within d k) claim)

    pub bound_here : (new : Gathered) → here ≡ true → new ≡ met (by_number x.names k) mid → new ≡ bounded x.names x.functions slot (claimed_at x slot) k old
    bound_here new e last = last ∙ ap (met (by_number x.names k)) between ∙ bounds true e

    pub bound_away : here ≡ false → mid ≡ bounded x.names x.functions slot (claimed_at x slot) k old
    bound_away e = between ∙ bounds false e

  module _ (name : Text) (lost : Names) (o : Option ℕ) (kept here : Bool) (old mid : Gathered) (test : kept ≡ are_among lost ((certificate x).drops name))
      (found : o ≡ number_of x.functions name) (is : here ≡ is_number o old.function) (between : mid ≡ tested_by o kept old) where
    abbrev drop_of : Option ℕ → Bool → Bool → Gathered
    drop_of i t b = record old {
      kept = old.kept && t;
      sets = if b then joined (numbers_in x.names lost) old.sets else old.sets;
      next_function = next_of (t || is_number i old.function) (option_and_then fitting i) old.next_function;
    }

    drops : (b : Bool) → here ≡ b → drop_of o kept b ≡ counted x.names x.functions name ((certificate x).drops name) lost old
    unfolding counted
    drops b e = ap (drop_of o kept) (sym e ∙ is) ∙ ap₂ (λ (i : Option ℕ) (t : Bool). drop_of i t (is_number i old.function)) found test

    pub drop_here : (new : Gathered) → here ≡ true → new ≡ with_sets (numbers_in x.names lost) mid → new ≡ counted x.names x.functions name ((certificate x).drops name) lost old
    drop_here new e last = last ∙ ap (with_sets (numbers_in x.names lost)) between ∙ drops true e

    pub drop_away : here ≡ false → mid ≡ counted x.names x.functions name ((certificate x).drops name) lost old
    drop_away e = between ∙ drops false e

  -- what a function drops that is called, by its entry
  pub entry_drops : (name : Text) (e : FunctionEntry) → entry_of x.kept x.functions name ≡ Some e → (certificate x).drops name ≡ drops_of (in_byte_order x.names) x.kept.rows e.drops
  entry_drops name e is = (entries x).drops name ∙ ap (λ o. unwrap_or (option_map (λ (d : FunctionEntry). drops_of (in_byte_order x.names) x.kept.rows d.drops) o) no_names) is

  pub none_drops : (name : Text) → entry_of x.kept x.functions name ≡ None → (certificate x).drops name ≡ no_names
  none_drops name is = (entries x).drops name ∙ ap (λ o. unwrap_or (option_map (λ (d : FunctionEntry). drops_of (in_byte_order x.names) x.kept.rows d.drops) o) no_names) is

-- What is gathered follows the constraints

module _ (x : Setting) (h : AreNumbered x.names) where
  claimed_fits : {E : Type 0} (f : E → value.Facts) (o : Option E) (c : Claim) → c ≡ unwrap_or (option_map (λ e. claim_of (in_byte_order x.names) x.kept.rows (f e)) o) Unreached → claim_fits x.names c ≡ true
  unfolding claim_fits
  claimed_fits f None c e = ap (claim_fits x.names) e
  claimed_fits f (Some a) c e = ap (claim_fits x.names) e ∙ claim_known x.names h x.kept.rows (f a)

  slot_fits : (slot : Slot) → claim_fits x.names ((certificate x).claim slot) ≡ true
  unfolding claimed_at
  slot_fits (views.Before n) = claimed_fits (λ (e : Entry). e.before) _ _ ((entries x).before n)
  slot_fits (views.AfterZero n) = claimed_fits (λ (e : Entry). e.zero) _ _ ((entries x).zero n)
  slot_fits (views.AfterNonzero n) = claimed_fits (λ (e : Entry). e.nonzero) _ _ ((entries x).nonzero n)
  slot_fits (views.Head n) = claimed_fits (λ (f : value.Facts). f) _ _ (head_claim x n)
  slot_fits (views.Entry f) = claimed_fits (λ (e : FunctionEntry). e.before) _ _ ((entries x).entered f)
  slot_fits (views.ReturnsZero f) = claimed_fits (λ (e : FunctionEntry). e.zero) _ _ ((entries x).returns_zero f)
  slot_fits (views.ReturnsNonzero f) = claimed_fits (λ (e : FunctionEntry). e.nonzero) _ _ ((entries x).returns_nonzero f)

  pub by_constraints : (d : Facts) → ByConstraints Gathered gathering x d
  unfolding claimed_at knows gathered
  by_constraints d = record {
    all = all_gathered x.names x.functions d (certificate x);
    none = λ g. refl;
    joined = λ g ks ls. gathered_together.lists x.names x.functions d (certificate x) g ks ls;
    bounded = λ slot n rule s g. gathered_together.views x.names x.functions h d (certificate x) slot (slot_fits slot) n rule s g;
    counted = λ f n l g. refl;
  }

-- A script that is admitted

module _ (b : List ℕ) (d : Declared) (t : Script) (names : List Text) (admitted : IsAdmitted b d t names) where
  pub commands_numbered : is_numbered (script_of b t) ≡ true
  commands_numbered = read_is_numbered b t (MAX_NESTING, admitted.reading.1.0, admitted.reading.1.1)

  pub few_commands : length (table_of b t).rows ≤ MAX_COMMANDS
  few_commands = read_has_few_commands b t admitted.reading.1

  walk_gathers : (stated : Bool) (x : Setting) (start : Facts) (old : Gathered) → AreNumbered x.names → x.names ≡ names → x.functions ≡ (table_of b t).functions.names → x.rows ≡ (table_of b t).rows
      → script_walked x (command_by (asking_by stated gathering) x) (among x.names start) old (script_of b t)
      ≡ all_gathered x.names x.functions start (certificate x) old (asked_bounds stated (script_bounds (script_of b t)))
  unfolding by_constraints table_of
  walk_gathers stated x start old h same functions rows =
      let a : Asking Gathered = asking_by stated gathering in
      let i = by_asked gathering x stated start (by_constraints x h start) in
      let few = few_commands in
      let length = rows_length b t in
      walk_same a x start h (script_of b t) old
      (ap (λ rs. list_all (λ (e : Entered). has_texts rs e.command) (script_entered (script_of b t))) rows ∙ entered_have (script_of b t) commands_numbered)
      (script_shallow most (script_of b t) (omega (arith, few, length)))
      ∙ script_told a x h start i (script_of b t) old (subst (λ fs. AreDefined fs (script_of b t)) (sym functions) (table_defines b t))
      (prefixes_are_numbered b t d x.names (subst (IsNumbering b t d) (sym same) admitted.numbered.0))
      ∙ asked_all gathering x stated start (by_constraints x h start) old (script_bounds (script_of b t))

-- all that is required of a certificate of it is gathered by a walk
pub walk_asks : (s : Subject) (c : kept.Certificate) (z : Claims) → setting z ≡ setting_by s c → (start : Knowledge) (old new : Gathered)
    → AreNumbered s.names.now → IsAdmitted s.script.now s.policy.now s.tree.now s.names.now
    → knowledge_facts s.names.now start ≡ among s.names.now (start_of s)
    → (stated : Bool) → s.stated ≡ stated → new ≡ script_walked (setting z) (command_by (asking_by stated gathering) (setting z)) (facts_in (setting z) start) old (script_of (setting z).script s.tree.now)
    → new ≡ all_gathered s.names.now (functions_in s.script.now s.tree.now) (start_of s) (claims_in s.script.now s.tree.now (sheet_by s.names.now c)) old (asked_bounds s.stated (script_bounds (script_of s.script.now s.tree.now)))
unfolding facts_in
walk_asks s c z same start old new h admitted begun stated is walked =
    let x = setting_by s c in
    subst (λ y. new ≡ script_walked y (command_by (asking_by stated gathering) y) (facts_in y start) old (script_of y.script s.tree.now)) same walked
    ∙ ap (λ k. script_walked x (command_by (asking_by stated gathering) x) k old (script_of s.script.now s.tree.now)) begun
    ∙ walk_gathers s.script.now s.policy.now s.tree.now s.names.now admitted stated x (start_of s) old h refl refl refl
    ∙ ap (λ b. all_gathered s.names.now (functions_in s.script.now s.tree.now) (start_of s) (claims_in s.script.now s.tree.now (sheet_by s.names.now c)) old (asked_bounds b (script_bounds (script_of s.script.now s.tree.now)))) (sym is)
