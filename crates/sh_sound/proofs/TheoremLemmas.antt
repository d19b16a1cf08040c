-- If rules and demands hold, no run expands a parameter that is not set.
use Rattle.std.proofs.Common.{◌≡◌, true, false, ◌||◌, Option, Some, None, List, [], ◌∷◌, bytes_eq, inl, inr, refl, sym, ◌∙◌, subst}
use Rattle.std.specs.List.{list_all, cons_option}
use Rattle.std.proofs.lemmas.Bool.{and_parts, or_cases, or_left, or_right}
use Rattle.std.proofs.lemmas.Option.{same_Some, none-some}
use Rattle.std.proofs.lemmas.Slice.Eq.{bytes_eq-Decides}
use Rattle.sh_tree.specs.standard.language.Bytes.{is_name}
use Rattle.sh_tree.specs.standard.program.Syntax as p
use Rattle.sh_tree.specs.standard.program.Syntax.{Text}
use Rattle.sh_runs.specs.standard.runs.Environment.{Environment, Frame, is_one_of}
use Rattle.sh_runs.specs.standard.runs.Work.{Work, Items}
use Rattle.sh_runs.specs.standard.runs.Worlds.{Process, World, start_names, start_world, IsStart}
use Rattle.sh_domain.specs.declared.rule.FlowRule.TheVariants.{F1}
use Rattle.sh_domain.specs.Entries.{Around, Entered, alone, script_entered}
use Rattle.sh_domain.specs.Facts.{Facts, Declared, start_facts}
use Rattle.sh_domain.specs.Gains.{job}
use Rattle.sh_domain.specs.Inclusions.{Each, EnteredRules, is_formed, command_formed, kind_formed, redirects_formed}
use Rattle.sh_domain.specs.Rules.{defined_by, functions_of}
use Rattle.sh_domain.specs.Views.{Certificate, Seen, Both, at_start, steps, source_facts}
use Rattle.sh_domain.proofs.EnteredWalk.{script_formed}
use Rattle.sh_domain.proofs.InclusionLemmas.{rules_give}
use Rattle.sh_sound.specs.Doing.{SimpleAt}
use Rattle.sh_sound.specs.Going.{around, front, FrontGood, Good, GoodIn, Stays, ProcessOk}
use Rattle.sh_sound.specs.Holding.{Stands, Holds, OneHolds}
use Rattle.sh_sound.proofs.ActLemmas.{act_ok}
use Rattle.sh_sound.proofs.ExpansionLemmas.{job_no_name}
use Rattle.sh_sound.proofs.HoldLemmas.{all_one, both_holds}
use Rattle.sh_sound.proofs.ListLemmas.{leads_same}
use Rattle.sh_sound.proofs.SharingLemmas.{SharingOf, copy_shares}
use Rattle.sh_sound.specs.Theorem.{RulesSuffice}
use Rattle.sh_sound.proofs.WorldLemmas.{WorldWell, put_lives, run_well, no_unset_event}

-- The functions of the script

defined_named : (k : p.Command) (f : Text) → defined_by k ≡ Some f → command_formed k ≡ true → is_name f ≡ true
unfolding defined_by command_formed kind_formed
defined_named (p.command n offset (p.Define name body) rs) f h k = subst (λ t. is_name t ≡ true) (same_Some name f h) (and_parts (is_name name) (redirects_formed rs) k).0
defined_named (p.command n offset (p.Simple es) rs) f h k = absurd (none-some f h)
defined_named (p.command n offset (p.Group list) rs) f h k = absurd (none-some f h)
defined_named (p.command n offset (p.Subshell list) rs) f h k = absurd (none-some f h)
defined_named (p.command n offset (p.Conditional parts otherwise) rs) f h k = absurd (none-some f h)
defined_named (p.command n offset (p.Loop kind condition body) rs) f h k = absurd (none-some f h)
defined_named (p.command n offset (p.For name ws body) rs) f h k = absurd (none-some f h)
defined_named (p.command n offset (p.Case w cs) rs) f h k = absurd (none-some f h)

names_named : (es : List Entered) → list_all (λ e. command_formed e.command) es ≡ true → (f : Text) → is_one_of (functions_of es) f ≡ true → is_name f ≡ true
names_named [] formed f h = cc
names_named (x ∷ es) formed f h =
    let parts = and_parts (command_formed x.command) (list_all (λ e. command_formed e.command) es) formed in
    go (defined_by x.command) refl h parts.0 (names_named es parts.1 f)
  where
    go : (o : Option Text) → defined_by x.command ≡ o → is_one_of (cons_option o (functions_of es)) f ≡ true → command_formed x.command ≡ true
        → (is_one_of (functions_of es) f ≡ true → is_name f ≡ true) → is_name f ≡ true
    go None e k formed rest = rest k
    go (Some g) e k formed rest = elim (or_cases (bytes_eq g f) (is_one_of (functions_of es) f) k) [
      | inl same ↦ subst (λ t. is_name t ≡ true) ((bytes_eq-Decides g f).0 same) (defined_named x.command g e formed)
      | inr other ↦ rest other
    ]

-- each command defines one of these, if the functions of all commands are among them
all_listed : (es : List Entered) (all : List Text) → ((f : Text) → is_one_of (functions_of es) f ≡ true → is_one_of all f ≡ true)
    → Each (λ x. (f : Text) → defined_by x.command ≡ Some f → is_one_of all f ≡ true) es
unfolding Each
all_listed [] all h = tt
all_listed (x ∷ es) all h = (here, all_listed es all (λ f k. h f (later (defined_by x.command) f k)))
  where
    later : (o : Option Text) (f : Text) → is_one_of (functions_of es) f ≡ true → is_one_of (cons_option o (functions_of es)) f ≡ true
    later None f k = k
    later (Some g) f k = or_right (bytes_eq g f) (is_one_of (functions_of es) f) k

    first : (o : Option Text) (f : Text) → o ≡ Some f → is_one_of (cons_option o (functions_of es)) f ≡ true
    first None f e = absurd (none-some f e)
    first (Some g) f e = or_left (bytes_eq g f) (is_one_of (functions_of es) f) ((bytes_eq-Decides g f).1 (same_Some g f e))

    here : (f : Text) → defined_by x.command ≡ Some f → is_one_of all f ≡ true
    here f e = h f (first (defined_by x.command) f e)

module _ (d : Facts) (c : Certificate) where
  stand_each : (defined : List Text) (es : List Entered) → ((f : Text) → is_one_of defined f ≡ true → is_name f ≡ true) → Each (EnteredRules d c defined) es
      → Each (λ x. (f : Text) → defined_by x.command ≡ Some f → is_one_of defined f ≡ true) es → Each (Stands d c defined) es
  unfolding Each
  stand_each defined [] named rules listed = tt
  stand_each defined (x ∷ es) named rules listed = (record { rules = rules.0; listed = listed.0; named = named }, stand_each defined es named rules.1 listed.1)

  -- every command of the script has its rules
  pub all_stand : (t : p.Items) → is_formed t ≡ true → Each (EnteredRules d c (functions_of (script_entered t))) (script_entered t)
      → Each (Stands d c (functions_of (script_entered t))) (script_entered t)
  all_stand t formed rules =
      let es : List Entered = script_entered t in
      stand_each (functions_of es) es (names_named es (script_formed t formed)) rules (all_listed es (functions_of es) (λ f k. k))

-- The start

module _ (d : Declared) (c : Certificate) where
  -- what is declared is true
  start_holds : (e : Environment) (f : Frame) → list_all is_name d.names ≡ true → IsStart d.names d.args e f → Holds (start_facts d) e f
  unfolding Holds start_facts
  start_holds e f named begin = record {
    variables = λ t i s. elim (or_cases (is_one_of start_names t) (is_one_of d.names t) s) [ inl a ↦ begin.always t a | inr b ↦ begin.declared t b ];
    job = λ s. absurd (job_no_name job (all_one is_name d.names job named (or_job s)) refl);
    functions = λ t i s. cc;
    parameters = begin.parameters;
  }
    where
      or_job : (is_one_of start_names job || is_one_of d.names job) ≡ true → is_one_of d.names job ≡ true
      or_job s = s

  -- one process, which has the script to run
  pub start_well : (SimpleAt : Around → Work → Seen → Type 0) (defined : List Text) (e : Environment) (f : Frame) (t : p.Items) → list_all is_name d.names ≡ true → IsStart d.names d.args e f
      → Each (Stands (start_facts d) c defined) (script_entered t) → WorldWell (start_facts d) c defined SimpleAt (start_world e f t)
  unfolding start_world script_entered GoodIn Good FrontGood Stays around front OneHolds steps source_facts
  start_well SimpleAt defined e f t named begin stand = record {
    sharing = copy_shares empty 0 (Items t ∷ []) nobody;
    lives = put_lives (start_facts d) c defined SimpleAt (λ n. None) (λ n. e) (λ n. f) 0 first (record { base = alone; shares = λ h. cc; well = well }) (λ q s h. absurd (none-some s h));
  }
    where
      empty : World
      empty = record { environments = λ n. e; frames = λ n. f; processes = λ n. None; next_environment = 0; next_frame = 0; next_process = 0; over = false }

      first : Process
      first = record { environment = 0; frames = 0 ∷ []; parent = None; status = 0; work = Items t ∷ [] }

      nobody : SharingOf empty
      nobody = record {
        placed = λ p r h. absurd (none-some r h);
        environment = λ p q r s h k a b g. absurd (none-some r h);
        frame = λ p q r s h k n a b. absurd (none-some r h);
      }

      well : ProcessOk (start_facts d) c defined SimpleAt alone e (f ∷ []) 0 (Items t ∷ [])
      well = record {
        known = Both at_start;
        callers = [];
        good = record { after = Both at_start; leads = leads_same (start_facts d) c defined SimpleAt (Both at_start); goes = ((F1, stand), record { none_waits = refl; no_loop = refl; no_function = refl }) };
        holds = both_holds (start_facts d) c 0 at_start e f (inl (start_holds e f named begin));
        stays = (f, refl);
        bodies = λ g body h. absurd (none-some body (sym (begin.functions g) ∙ h));
      }

-- The theorem
pub rules_suffice : RulesSuffice
rules_suffice d c t named admitted formed rules met e f begin moves w runs whole m =
    let known : Facts = start_facts d in
    let defined : List Text = functions_of (script_entered t) in
    let stand = all_stand known c t formed (rules_give known c t admitted formed rules met) in
    let start : WorldWell known c defined (SimpleAt known c defined) (start_world e f t) = start_well d c (SimpleAt known c defined) defined e f t named begin stand in
    no_unset_event known c defined (SimpleAt known c defined) (act_ok known c defined) w m
    (run_well known c defined (SimpleAt known c defined) (act_ok known c defined) moves (start_world e f t) w start whole runs)
