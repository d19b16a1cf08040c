-- The greatest certificate of a known text, which is accepted.
use Rattle.std.proofs.Common.{◌≡◌, ◌≤◌, ℕ, zero, suc, ◌-◌, true, false, List, [], ◌∷◌, length, codes, refl, sym, ap, ◌∙◌, subst, arith, true≢false}
use Rattle.std.specs.Prelude.{unwrap_or, slice_get}
use Rattle.std.specs.List.{flat_map}
use Rattle.std.specs.Str.{bytes_eq}
use Rattle.std.proofs.lemmas.List.Folds.{list_any-append}
use Rattle.sh_tree.specs.examples.Language.{double_text, double_script}
use Rattle.sh_tree.specs.standard.program.Syntax.{Text}
use Rattle.sh_tree.specs.standard.program.Trees.{script_of}
use Rattle.sh_runs.specs.standard.runs.Worlds.{start_names}
use Rattle.sh_domain.specs.Admitted.{Fits, KeepsRules, IsGreatest, claims_in}
use Rattle.sh_domain.specs.Compacts.{compact_text, turns_from, with_turn, turn_lines}
use Rattle.sh_domain.specs.Facts.{Claim, Unreached, Known, facts, start_facts}
use Rattle.sh_domain.specs.Faults.{broken, faults}
use Rattle.sh_domain.specs.Gains.{no_gains}
use Rattle.sh_domain.specs.Inclusions.{Each}
use Rattle.sh_domain.specs.Order as order
use Rattle.sh_domain.specs.Order.{IsWithin, IsBelow, AreAmong}
use Rattle.sh_domain.specs.Reading.{claim_fits, head_fits, commands_fit}
use Rattle.sh_domain.specs.Rules.{Constraint, Within, script_bounds}
use Rattle.sh_domain.specs.Sheets.{Sheet, CommandClaims, nowhere, claim_at, function_at}
use Rattle.sh_domain.specs.Spelling.{IsSheet, is_writable, is_writable_head}
use Rattle.sh_domain.specs.Views.{Slot, Before, AfterZero, AfterNonzero, Head, Entry, ReturnsZero, ReturnsNonzero, View, Start, At, Gain, Certificate, steps, view_facts}
use Rattle.sh_domain.specs.declared.limits.TheConstants.{MAX_CERTIFICATE}
use Rattle.sh_domain.specs.declared.rule.FlowRule.TheVariants.{F1, F4}
use Rattle.sh_domain.specs.examples.Programs.{known}
use Rattle.sh_domain.specs.examples.Texts.{command}
use Rattle.sh_domain.proofs.AnswerLemmas.{computes as rules}
use Rattle.sh_domain.proofs.EachLemmas.{each_none}
use Rattle.sh_domain.proofs.MonotoneLemmas.{fits_below, steps_grow}
use Rattle.sh_domain.proofs.OrderLemmas.{within_itself, within_nowhere, within_through}
use Rattle.sh_domain.proofs.TextLemmas.{computes as texts}
use Rattle.sh_quote.proofs.QuoteLemmas.{computes as quoting}
use Rattle.sh_accept.specs.Accepted.{MeetsDemands, IsAccepted, IsQuoted}
use Rattle.sh_accept.specs.Answers.{IsBest, IsStart, IsTextOf}
use Rattle.sh_accept.specs.examples.Accepted.{KnownIsAccepted, with_x, sure_text, sure_compact_text}
use Rattle.sh_accept.proofs.KnownTextLemmas.{computes, double_names, double_admitted, double_functions, double_loops}
use Rattle.sh_accept.proofs.PassedLemmas.{linted_is_checked}

-- round its one command
abbrev sure : Claim
sure = known (codes "IFS OPTIND PPID x") [] 0

abbrev one_command : CommandClaims
one_command = command sure sure sure

abbrev sheet : Sheet
sheet = record { commands = one_command ∷ []; functions = [] }

double_fit : Fits double_text double_script double_names sheet
unfolding claim_fits head_fits commands_fit texts
double_fit = record { loops = false ∷ []; are_loops = double_loops; fit = rw double_functions refl }

double_rules : KeepsRules double_text with_x double_script sheet
unfolding computes rules texts claim_at
double_rules = refl

-- What a certificate claims of it that keeps the rules: no more than what is known at the start

abbrev after_words : View
after_words = record { source = At (Before 1); steps = Gain no_gains ∷ [] }

abbrev double_bounds : List Constraint
double_bounds = Within (Before 1) 1 F1 (record { source = Start; steps = [] }) ∷ Within (AfterZero 1) 1 F4 after_words ∷ Within (AfterNonzero 1) 1 F4 after_words ∷ []

bounds_are : script_bounds (script_of double_text double_script) ≡ double_bounds
unfolding computes rules
bounds_are = refl

below_itself : (c : Certificate) → IsBelow c c
below_itself c = record { claimed = λ s. within_itself (facts (c.claim s)); dropped = λ f. record { vars = λ x h. h; functions = λ x h. h } }

abbrev AtMost : Certificate → Slot → Type 0
AtMost c s = IsWithin (facts (c.claim s)) (start_facts with_x)

at_most : (c : Certificate) → faults (start_facts with_x) c (script_of double_text double_script) ≡ [] → AtMost c (Before 1) × AtMost c (AfterZero 1) × AtMost c (AfterNonzero 1)
unfolding Each order.Fits steps rules texts
at_most c keeps =
    let start = start_facts with_x in
    let each : Each (λ k. broken start c k ≡ []) double_bounds = each_none (broken start c) double_bounds (ap (flat_map (broken start c)) (sym bounds_are) ∙ keeps) in
    let own = below_itself c in
    let before : AtMost c (Before 1) = fits_below start c c (Within (Before 1) 1 F1 (record { source = Start; steps = [] })) own each.0 in
    let gained : IsWithin (view_facts start c after_words) start = steps_grow c c (Gain no_gains ∷ []) _ _ own before in
    let zero = fits_below start c c (Within (AfterZero 1) 1 F4 after_words) own each.1.0 in
    let nonzero = fits_below start c c (Within (AfterNonzero 1) 1 F4 after_words) own each.1.1.0 in
    (before, within_through _ _ _ zero gained, within_through _ _ _ nonzero gained)

start_is : facts sure ≡ start_facts with_x
unfolding rules texts
start_is = λ i. Known (λ x. list_any-append (λ n. bytes_eq n x) start_names (codes "x" ∷ []) i) (λ x. false) 0

-- of the others it claims that no run comes there, which is most
first_alone : (f : CommandClaims → Claim) (cs : List CommandClaims) (c : CommandClaims) (k : ℕ) → f nowhere ≡ Unreached → IsWithin (facts (f (unwrap_or (slice_get cs 0) nowhere))) (facts (f c))
    → IsWithin (facts (f (unwrap_or (slice_get cs k) nowhere))) (facts (f (unwrap_or (slice_get (c ∷ []) k) nowhere)))
unfolding facts
first_alone f cs c zero none h = h
first_alone f cs c (suc k) none h = rw none (within_nowhere _)

module _ (other : Sheet) (keeps : KeepsRules double_text with_x double_script other) where
  abbrev others : Certificate
  others = claims_in double_text double_script other

  abbrev own : Certificate
  own = claims_in double_text double_script sheet

  most : AtMost others (Before 1) × AtMost others (AfterZero 1) × AtMost others (AfterNonzero 1)
  most = at_most others keeps

  sure_within : (c : Claim) → IsWithin (facts c) (start_facts with_x) → IsWithin (facts c) (facts sure)
  sure_within c h = subst (IsWithin (facts c)) (sym start_is) h

  claimed : (s : Slot) → IsWithin (facts (others.claim s)) (facts (own.claim s))
  unfolding claim_at function_at facts computes
  claimed (Before n) = first_alone (λ c. c.before) other.commands one_command (n - 1) refl (sure_within _ most.0)
  claimed (AfterZero n) = first_alone (λ c. c.zero) other.commands one_command (n - 1) refl (sure_within _ most.1)
  claimed (AfterNonzero n) = first_alone (λ c. c.nonzero) other.commands one_command (n - 1) refl (sure_within _ most.2)
  claimed (Head n) = first_alone (λ c. unwrap_or c.head Unreached) other.commands one_command (n - 1) refl (within_nowhere _)
  claimed (Entry f) = within_nowhere _
  claimed (ReturnsZero f) = within_nowhere _
  claimed (ReturnsNonzero f) = within_nowhere _

  dropped : (f : Text) → AreAmong (own.drops f) (others.drops f)
  unfolding function_at computes
  dropped f = record { vars = λ x h. absurd (true≢false (sym h)); functions = λ x h. absurd (true≢false (sym h)) }

sheet_spelled : IsSheet sheet
unfolding texts is_writable is_writable_head
sheet_spelled = record { commands = refl; functions = refl; few_commands = refl; few_functions = refl }

double_greatest : IsGreatest double_text with_x double_script double_names sheet
double_greatest = record {
  fit = double_fit;
  rules = double_rules;
  above = λ other fit keeps. record { claimed = claimed other keeps; dropped = dropped other keeps };
  spelled = sheet_spelled;
}

-- What it leaves unmet, and its texts

double_met : MeetsDemands double_text with_x double_script sheet
unfolding computes rules texts claim_at
double_met = refl

double_quoted : IsQuoted double_text double_script
unfolding computes quoting
double_quoted = refl

double_best : IsBest double_text with_x double_script sheet
double_best = record { names = double_names; admitted = double_admitted; greatest = double_greatest }

double_accepted : IsAccepted double_text with_x sheet
double_accepted = record {
  tree = double_script;
  names = double_names;
  admitted = double_admitted;
  fit = double_fit;
  rules = double_rules;
  met = double_met;
  quoted = double_quoted;
}

start_known : IsStart with_x sure
unfolding texts is_writable
start_known = record { known = start_is; written = refl }

full_spelled : IsTextOf true with_x sheet sure_text
unfolding IsTextOf texts
full_spelled = refl

compact_spelled : IsTextOf false with_x sheet sure_compact_text
unfolding IsTextOf texts turns_from with_turn turn_lines compact_text
compact_spelled = (sure, start_known, refl)

full_short : length sure_text ≤ MAX_CERTIFICATE
full_short = let so_long : length sure_text ≡ 110 = refl in omega arith

compact_short : length sure_compact_text ≤ MAX_CERTIFICATE
compact_short = let so_long : length sure_compact_text ≡ 74 = refl in omega arith

pub known_is_accepted : KnownIsAccepted
known_is_accepted = record {
  passes = linted_is_checked.best true double_text with_x double_script sheet sure_text double_best double_accepted full_spelled full_short;
  compact_passes = linted_is_checked.best false double_text with_x double_script sheet sure_compact_text double_best double_accepted compact_spelled compact_short;
  lints = (sheet, double_accepted);
  full = record { tree = double_script; certificate = sheet; best = double_best; spelled = full_spelled };
  compact = record { tree = double_script; certificate = sheet; best = double_best; spelled = compact_spelled };
}
