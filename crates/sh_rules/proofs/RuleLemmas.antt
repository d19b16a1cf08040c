-- A walk that visits each command by the call table reports the least fault of a script.
use Rattle.std.proofs.Common.{◌≡◌, ℕ, ◌≤◌, true, nat_le, List, [], ◌∷◌, length, map, fold, Option, Some, None, refl, sym, ap, ◌∙◌, subst, arith}
use Rattle.std.specs.List.{list_all}
use Rattle.std.proofs.lemmas.Bool.{and_parts}
use Rattle.std.proofs.lemmas.Bool.Decides.{nat_tests}
use Rattle.sh_tree.specs.declared.limits.TheConstants.{MAX_COMMANDS}
use Rattle.sh_tree.specs.declared.tree.Script.{Script}
use Rattle.sh_tree.specs.standard.program.Syntax as p
use Rattle.sh_tree.specs.standard.program.Syntax.{Text}
use Rattle.sh_tree.specs.standard.program.Trees.{script_of}
use Rattle.sh_runs.specs.Calls.{Table, table_of, texts_with}
use Rattle.sh_runs.specs.Numbering.{is_numbered}
use Rattle.sh_runs.specs.Surroundings.{outside, items_located}
use Rattle.sh_domain.specs.declared.knowledge.Knowledge.{Knowledge}
use Rattle.sh_domain.specs.Certificates.{in_byte_order, sheet_of}
use Rattle.sh_domain.specs.Entries.{Around, Entered, script_entered}
use Rattle.sh_domain.specs.Facts.{Facts, Declared, start_facts}
use Rattle.sh_domain.specs.Faults.{Fault, least, faults}
use Rattle.sh_domain.specs.Inclusions.{Each}
use Rattle.sh_domain.specs.Knowledge.{AreNumbered, among, knowledge_facts}
use Rattle.sh_domain.specs.Names.{IsNumbering}
use Rattle.sh_domain.specs.Sheets.{certificate_of}
use Rattle.sh_domain.specs.Table.{is_redirected}
use Rattle.sh_domain.specs.Views.{Before}
use Rattle.sh_domain.proofs.TotalLemmas.{rows_length}
use Rattle.sh_gains.specs.Claims.{kept_claims}
use Rattle.sh_gains.proofs.TextLemmas.{has_texts, own_texts, table_texts}
use Rattle.sh_table.specs.Numerals.{most}
use Rattle.sh_rules.specs.declared.claims.Claims.{Claims}
use Rattle.sh_rules.specs.Asking.{Asking}
use Rattle.sh_rules.specs.Settings.{Setting, certificate}
use Rattle.sh_rules.specs.Walked.{script_walked}
use Rattle.sh_rules.specs.Above.{DoesAsked, VisitsDoAsked}
use Rattle.sh_rules.specs.Meaning.{knows, met_at, met_of}
use Rattle.sh_rules.specs.Bounds.{fault, redirects_told}
use Rattle.sh_rules.specs.CommandBounds.{counted_told, kind_drops_told, claims_told, command_told, redirected}
use Rattle.sh_rules.specs.LeastFault.{least_told}
use Rattle.sh_rules.specs.Asked.{AreDefined}
use Rattle.sh_rules.specs.TextTells.{simple_by, drops_by, calls_by}
use Rattle.sh_rules.specs.Visits.{simple_in, claims_as, claims_by, drops_as, counted_by, command_by}
use Rattle.sh_rules.specs.Walks.{facts_in, setting}
use Rattle.sh_rules.proofs.CalleeLemmas.{one_called}
use Rattle.sh_rules.proofs.EnteredLemmas.{script_same}
use Rattle.sh_rules.proofs.MeaningLemmas.{interprets, start_seen}
use Rattle.sh_rules.proofs.NestLemmas.{script_shallow}
use Rattle.sh_rules.proofs.PrefixLemmas.{prefixes_are_numbered, table_defines}
use Rattle.sh_rules.proofs.ScriptLemmas.{least_of_scripts}
use Rattle.sh_rules.proofs.WordLemmas.{texts_tell}

-- A command

module _ {K : Type 0} (a : Asking K) (x : Setting) where
  module _ (n offset : ℕ) (rs : p.Redirects) where
    claims_same : (y : Around) (k : Facts) (kind : p.Kind) (kept : K) → has_texts x.rows (p.command n offset kind rs) ≡ true → length y.loops ≤ most
        → claims_by a x n y k kind kept ≡ claims_told a x x.functions y n k kind kept
    unfolding claims_as simple_in claims_told
    claims_same y k (p.Simple es) kept texts few =
        ap (λ b. simple_by a x n y es b (texts_with n x.rows) kept) (one_called x.functions (texts_with n x.rows))
        ∙ ap (λ ts. simple_by a x n y es (calls_by x.functions ts) ts kept) (own_texts x.rows n offset es rs texts)
        ∙ (texts_tell a).simple x n x.functions y es kept few
    claims_same y k (p.Group list) kept texts few = refl
    claims_same y k (p.Subshell list) kept texts few = refl
    claims_same y k (p.Conditional bs o) kept texts few = refl
    claims_same y k (p.Loop kind condition body) kept texts few = refl
    claims_same y k (p.For name ws body) kept texts few = refl
    claims_same y k (p.Case w cs) kept texts few = refl
    claims_same y k (p.Define name body) kept texts few = refl

    drops_same : (f : Text) (kind : p.Kind) (kept : K) → has_texts x.rows (p.command n offset kind rs) ≡ true
        → counted_by a x n (Some f) kind kept ≡ kind_drops_told a x n f x.functions kind kept
    unfolding drops_as simple_in kind_drops_told
    drops_same f (p.Simple es) kept texts =
        ap (λ b. drops_by a x n f es b (texts_with n x.rows) kept) (one_called x.functions (texts_with n x.rows))
        ∙ ap (λ ts. drops_by a x n f es (calls_by x.functions ts) ts kept) (own_texts x.rows n offset es rs texts)
        ∙ (texts_tell a).drops x n f es kept
    drops_same f (p.Group list) kept texts = refl
    drops_same f (p.Subshell list) kept texts = refl
    drops_same f (p.Conditional bs o) kept texts = refl
    drops_same f (p.Loop kind condition body) kept texts = refl
    drops_same f (p.For name ws body) kept texts = refl
    drops_same f (p.Case w cs) kept texts = refl
    drops_same f (p.Define name body) kept texts = refl

    counted_same : (o : Option Text) (kind : p.Kind) (kept : K) → has_texts x.rows (p.command n offset kind rs) ≡ true
        → counted_by a x n o kind kept ≡ counted_told a x n o x.functions kind kept
    unfolding drops_as counted_told
    counted_same None kind kept texts = refl
    counted_same (Some f) kind kept texts = drops_same f kind kept texts

  few_loops : (n : ℕ) → nat_le n most ≡ true → n ≤ most
  few_loops n h = grind (arith, nat_tests, h)

  command_same : (e : Entered) (k : Facts) (kept : K) → has_texts x.rows e.command ≡ true → nat_le (length e.around.loops) most ≡ true
      → command_by a x kept (met_at e k) ≡ command_told a x x.functions kept (met_at e k)
  unfolding command_by command_told
  command_same e k kept texts few = go e.command texts
    where
      go : (c : p.Command) → has_texts x.rows c ≡ true
          → command_by a x kept (met_at (record { command = c; rule = e.rule; around = e.around; seen = e.seen }) k)
          ≡ command_told a x x.functions kept (met_at (record { command = c; rule = e.rule; around = e.around; seen = e.seen }) k)
      go (p.command n offset kind rs) texts =
          counted_same n offset rs e.around.drops kind _ texts
          ∙ ap (λ m. counted_told a x n e.around.drops x.functions kind (redirects_told a x n (is_redirected rs) m))
          (claims_same n offset rs e.around (redirected x n rs) kind (a.bound x (Before n) (fault n e.rule) k kept) texts (few_loops (length e.around.loops) few))

  each_does : (es : List Entered) → list_all (λ (e : Entered). has_texts x.rows e.command) es ≡ true
      → list_all (λ (e : Entered). nat_le (length e.around.loops) most) es ≡ true → Each (DoesAsked a x x.functions (command_by a x)) es
  unfolding Each
  each_does [] texts few = tt
  each_does (e ∷ es) texts few =
      let own = and_parts (has_texts x.rows e.command) (list_all (λ (f : Entered). has_texts x.rows f.command) es) texts in
      let less = and_parts (nat_le (length e.around.loops) most) (list_all (λ (f : Entered). nat_le (length f.around.loops) most) es) few in
      (λ k kept. command_same e k kept own.0 less.0, each_does es own.1 less.1)

  module _ (d : Facts) where
    each_same : (kept : K) (es : List Entered) → Each (DoesAsked a x x.functions (command_by a x)) es
        → fold (command_by a x) kept (map (met_of x d) es) ≡ fold (command_told a x x.functions) kept (map (met_of x d) es)
    unfolding Each
    each_same kept [] does = refl
    each_same kept (e ∷ es) does =
        ap (λ k. fold (command_by a x) k (map (met_of x d) es)) (does.0 (knows x d e.seen) kept)
        ∙ each_same (command_told a x x.functions kept (met_of x d e)) es does.1

    pub walk_same : (h : AreNumbered x.names) (t : p.Items) (kept : K) → list_all (λ (e : Entered). has_texts x.rows e.command) (script_entered t) ≡ true
        → list_all (λ (e : Entered). nat_le (length e.around.loops) most) (script_entered t) ≡ true
        → script_walked x (command_by a x) (among x.names d) kept t ≡ script_walked x (command_told a x x.functions) (among x.names d) kept t
    walk_same h t kept texts few =
        script_same x (knows x d) (interprets x h d) (command_by a x) (among x.names d) kept t (start_seen x h d)
        ∙ each_same kept (script_entered t) (each_does (script_entered t) texts few)
        ∙ sym (script_same x (knows x d) (interprets x h d) (command_told a x x.functions) (among x.names d) kept t (start_seen x h d))

-- A script

few_loops_in : (b : List ℕ) (t : Script) → length (table_of b t).rows ≤ MAX_COMMANDS
    → list_all (λ (e : Entered). nat_le (length e.around.loops) most) (script_entered (script_of b t)) ≡ true
few_loops_in b t few =
    let same = rows_length b t in
    let less : length (items_located outside (script_of b t)) ≤ most = omega (arith, few, same) in
    script_shallow most (script_of b t) less

-- a visit by the table does what the rules ask at each command of the script
pub visits_do_asked : {K : Type 0} (a : Asking K) → VisitsDoAsked K a
visits_do_asked a x b t rows numbered few =
    each_does a x (script_entered (script_of b t))
    (ap (λ rs. list_all (λ (e : Entered). has_texts rs e.command) (script_entered (script_of b t))) rows ∙ table_texts b t numbered)
    (few_loops_in b t few)

-- what a walk over facts reports is the least fault
told : (x : Setting) (d : Declared) (b : List ℕ) (t : Script) → AreNumbered x.names → x.script ≡ b → x.functions ≡ (table_of b t).functions.names → x.rows ≡ (table_of b t).rows
    → is_numbered (script_of b t) ≡ true → length (table_of b t).rows ≤ MAX_COMMANDS → IsNumbering b t d x.names
    → script_walked x (command_by least_told x) (among x.names (start_facts d)) None (script_of b t) ≡ least (faults (start_facts d) (certificate x) (script_of b t))
told x d b t h script functions rows numbered few names =
    walk_same least_told x (start_facts d) h (script_of b t) None
    (ap (λ rs. list_all (λ (e : Entered). has_texts rs e.command) (script_entered (script_of b t))) rows ∙ table_texts b t numbered)
    (few_loops_in b t few)
    ∙ least_of_scripts x (start_facts d) (script_of b t) h (subst (λ fs. AreDefined fs (script_of b t)) (sym functions) (table_defines b t)) (prefixes_are_numbered b t d x.names names)

pub rules_told : (c : Claims) (d : Declared) (t : Script) (start : Knowledge) (new : Option Fault) → c.calls.now ≡ table_of c.script.now t
    → is_numbered (script_of c.script.now t) ≡ true → length (table_of c.script.now t).rows ≤ MAX_COMMANDS → IsNumbering c.script.now t d c.names.now
    → knowledge_facts c.names.now start ≡ among c.names.now (start_facts d)
    → new ≡ script_walked (setting c) (command_by least_told (setting c)) (facts_in (setting c) start) None (script_of (setting c).script t)
    → new ≡ least (faults (start_facts d) (kept_claims c.script.now t c.names.now c.certificate.now) (script_of c.script.now t))
unfolding setting facts_in
rules_told c d t start new table numbered few names begun walked =
    walked
    ∙ ap (λ k. script_walked (setting c) (command_by least_told (setting c)) k None (script_of c.script.now t)) begun
    ∙ told (setting c) d c.script.now t c.numbered refl (ap (λ (y : Table). y.functions.names) table) (ap (λ (y : Table). y.rows) table) numbered few names
    ∙ ap (λ (y : Table). least (faults (start_facts d) (certificate_of y.functions.names (sheet_of (in_byte_order c.names.now) c.certificate.now)) (script_of c.script.now t))) table
