-- From clap's facts on a parse to what a line says.
use Rattle.std.proofs.Common.{◌≡◌, ◌∙◌, ◌⊎◌, ℕ, Bool, false, true, true≢false, refl, sym, ap, codes, subst, List, [], Option, Some, None, inl, inr}
use Rattle.std.specs.Prelude.{IsSome, option_map}
use Rattle.std.specs.Str.{bytes_eq}
use Rattle.clap.specs.Words.{IsAmong, Row, Text, fault_of, first_of, first_value, is_simple, is_simple_and_free, rows_of, subcommand_of}
use Rattle.clap.specs.Faults.{level_fault}
use Rattle.clap.specs.Walk.{nothing_held, rows_after}
use Rattle.clap.specs.declared.error.kind.ErrorKind.{ErrorKind}
use Rattle.clap.specs.declared.error.kind.ErrorKind.TheVariants.{OutOfMemory}
use Rattle.clap.specs.declared.parser.matches.Found.{Found}
use Rattle.clap.proofs.OnLiterals.{clap_on_literals}
use Rattle.clap.proofs.WalkLemmas.{first_value-rows}
use Rattle.sh_line.specs.App.{shset_app}
use Rattle.sh_line.specs.Line.{AreApart, GivesNumber, HasCertificate, HasNumber, HasTwoInputs, IsCertificateOf, IsGivenNumber, IsNumberOf, IsSourceOf, IsWhole, StopsAs, StopsAt, StopsPolicy, StopsRead, action_name}
use Rattle.sh_line.specs.declared.line.Source.{Source}
use Rattle.sh_line.specs.declared.line.Source.TheVariants.{Input, File}
use Rattle.sh_line.specs.declared.line.Stop.{Stop}
use Rattle.sh_line.specs.declared.line.Stop.TheVariants.{Usage, Help, BadName, Memory}
use Rattle.sh_answers.specs.declared.task.Action.{Action}
use Rattle.sh_answers.specs.declared.task.Action.TheVariants.{Lint, Cert, Check, Print}
use Rattle.sh_line.proofs.LineWholeLemmas.{certificate_found, certifying, certifying_counts, certifying_reads, checking, checking_counts, checking_reads, file_found, found_passes, number_found, printing, printing_reads, reading, reading_counts, reading_reads}

-- clap's clauses say what the program's command line takes
pub is_simple-shset : is_simple shset_app ≡ true
unfolding clap_on_literals
is_simple-shset = refl

pub is_simple_and_free-shset : is_simple_and_free shset_app ≡ true
unfolding clap_on_literals
is_simple_and_free-shset = refl

pub pair_from_parts : {X A B : Type 0} (f : X → A) (g : X → B) (s : Option X) (a : A) (b : B) → Some a ≡ option_map f s
    → Some b ≡ option_map {T = A × B} (λ p. p.1) (option_map {T = X} {U = A × B} (λ x. (f x, g x)) s)
    → option_map {T = X} {U = A × B} (λ x. (f x, g x)) s ≡ Some (a, b)
pair_from_parts f g None a b p q = cc
pair_from_parts f g (Some x) a b p q =
    let e : f x ≡ a = cc in
    let d : g x ≡ b = cc in
    rw (e, d) refl

pub no_file : (f : Found) (id : Text) → IsSome (first_of id (rows_of f)) → None ≡ first_value f id → ⊥
no_file f id some none =
    let e : None ≡ first_of id (rows_of f) = none ∙ first_value-rows f id in
    let bad : IsSome {T = Text} None = subst (λ (o : Option Text). IsSome o) (sym e) some in
    cc

-- each subcommand is whole where its level has no fault

lint_whole : (words : List Text) → level_fault (reading (action_name Lint)) [] nothing_held words false [] ≡ []
    → IsWhole (action_name Lint) (rows_after (reading (action_name Lint)).rules [] words)
lint_whole words passes =
    record {
      action = (Lint, refl);
      file = file_found (reading (action_name Lint)) (reading_reads (action_name Lint)) words passes;
      cert = cert;
      args = args;
    }
  where
    cert : (a : Action) → action_name Lint ≡ action_name a → HasCertificate a (rows_after (reading (action_name Lint)).rules [] words)
    cert Lint e = tt
    cert (Cert full) e = tt
    cert Check e = cc
    cert Print e = tt

    number : GivesNumber (rows_after (reading (action_name Lint)).rules [] words)
    number = number_found (reading (action_name Lint)) (reading_reads (action_name Lint)) words passes (reading_counts (action_name Lint))

    args : (a : Action) → action_name Lint ≡ action_name a → HasNumber a (rows_after (reading (action_name Lint)).rules [] words)
    args Lint e = number
    args (Cert full) e = number
    args Check e = number
    args Print e = tt

cert_whole : (words : List Text) → level_fault certifying [] nothing_held words false [] ≡ []
    → IsWhole (codes "cert") (rows_after certifying.rules [] words)
cert_whole words passes =
    record {
      action = (Cert false, refl);
      file = file_found certifying certifying_reads words passes;
      cert = cert;
      args = args;
    }
  where
    cert : (a : Action) → codes "cert" ≡ action_name a → HasCertificate a (rows_after certifying.rules [] words)
    cert Lint e = tt
    cert (Cert full) e = tt
    cert Check e = cc
    cert Print e = tt

    number : GivesNumber (rows_after certifying.rules [] words)
    number = number_found certifying certifying_reads words passes certifying_counts

    args : (a : Action) → codes "cert" ≡ action_name a → HasNumber a (rows_after certifying.rules [] words)
    args Lint e = number
    args (Cert full) e = number
    args Check e = number
    args Print e = tt

check_whole : (words : List Text) → level_fault checking [] nothing_held words false [] ≡ []
    → IsWhole (action_name Check) (rows_after checking.rules [] words)
check_whole words passes =
    record {
      action = (Check, refl);
      file = file_found checking checking_reads words passes;
      cert = cert;
      args = args;
    }
  where
    cert : (a : Action) → action_name Check ≡ action_name a → HasCertificate a (rows_after checking.rules [] words)
    cert Lint e = tt
    cert (Cert full) e = tt
    cert Check e = certificate_found words passes
    cert Print e = tt

    number : GivesNumber (rows_after checking.rules [] words)
    number = number_found checking checking_reads words passes checking_counts

    args : (a : Action) → action_name Check ≡ action_name a → HasNumber a (rows_after checking.rules [] words)
    args Lint e = number
    args (Cert full) e = number
    args Check e = number
    args Print e = tt

-- no other action has this name
not_printed : (name : Text) → bytes_eq name (codes "print") ≡ false → codes "print" ≡ name → ⊥
not_printed name apart e = true≢false (ap (λ t. bytes_eq t (codes "print")) e ∙ apart)

print_whole : (words : List Text) → level_fault printing [] nothing_held words false [] ≡ []
    → IsWhole (action_name Print) (rows_after printing.rules [] words)
print_whole words passes =
    record {
      action = (Print, refl);
      file = file_found printing printing_reads words passes;
      cert = cert;
      args = args;
    }
  where
    cert : (a : Action) → action_name Print ≡ action_name a → HasCertificate a (rows_after printing.rules [] words)
    cert Lint e = tt
    cert (Cert full) e = tt
    cert Check e = absurd (not_printed (codes "check") refl e)
    cert Print e = tt

    args : (a : Action) → action_name Print ≡ action_name a → HasNumber a (rows_after printing.rules [] words)
    args Lint e = absurd (not_printed (codes "lint") refl e)
    args (Cert full) e = absurd (not_printed (codes "cert") refl e)
    args Check e = absurd (not_printed (codes "check") refl e)
    args Print e = tt

-- what a parse with no fault finds is whole
pub whole : (words : List Text) (q : Text × List Row) → fault_of shset_app words ≡ [] → subcommand_of shset_app words ≡ Some q → IsWhole q.0 q.1
whole words q none is = found_passes (λ p. IsWhole p.0 p.1) (lint_whole, (cert_whole, (check_whole, (print_whole, tt)))) words q none is

-- Both files are standard input, or they are apart

module _ (name : Text) (rows : List Row) (file : Text) where
  pub two_inputs : (a : Action) (script : Source) (cert : Option Source) → name ≡ action_name a → first_of (codes "FILE") rows ≡ Some file
      → IsSourceOf file script → IsCertificateOf a rows cert → (script ≡ Input) × (cert ≡ Some Input) → HasTwoInputs name rows
  two_inputs Lint Input (Some Input) is given named other both = absurd other
  two_inputs (Cert full) Input (Some Input) is given named other both = absurd other
  two_inputs Print Input (Some Input) is given named other both = absurd other
  two_inputs Check Input (Some Input) is given named other both = (is, given ∙ ap Some named, other.1 ∙ ap Some other.2)
  two_inputs a Input None is given named other both = cc
  two_inputs a Input (Some (File f)) is given named other both = cc
  two_inputs a (File f) cert is given named other both = cc

  pub not_two : (a : Action) (script : Source) (cert : Option Source) → name ≡ action_name a → first_of (codes "FILE") rows ≡ Some file
      → IsSourceOf file script → IsCertificateOf a rows cert → AreApart script cert → HasTwoInputs name rows → ⊥
  not_two a (File f) cert is given named other apart two =
      let same : Some file ≡ Some (codes "-") = sym given ∙ two.1 in
      named.0 cc
  not_two Lint Input cert is given named other apart two = cc
  not_two (Cert full) Input cert is given named other apart two = cc
  not_two Print Input cert is given named other apart two = not_printed (codes "check") refl (sym is ∙ two.0)
  not_two Check Input None is given named other apart two = other
  not_two Check Input (Some Input) is given named other apart two = apart
  not_two Check Input (Some (File f)) is given named other apart two =
      let same : Some other.0 ≡ Some (codes "-") = sym other.1 ∙ two.2 in
      other.2.0 cc

pub policy_stops : (name : Text) (rows : List Row) (s : Stop) → (HasTwoInputs name rows → ⊥) → StopsPolicy rows s → StopsRead name rows s
policy_stops name rows (Usage text) apart s = absurd s
policy_stops name rows (Help text) apart s = s
policy_stops name rows BadName apart s = (apart, s)
policy_stops name rows Memory apart s = tt

pub no_certificate : (f : Found) → HasCertificate Check (rows_of f) → None ≡ first_value f (codes "CERT") → ⊥
no_certificate f some none = no_file f (codes "CERT") some none

-- The number of positional parameters, for an action that has one

-- the actions that have one
abbrev pub Counts : Action → Type 0
Counts a = (a ≡ Lint) ⊎ (((full : Bool) × (a ≡ Cert full)) ⊎ (a ≡ Check))

not_print : (a : Action) → Counts a → a ≡ Print → ⊥
not_print a (inl e) is = let same : Lint ≡ Print = sym e ∙ is in cc
not_print a (inr (inl e)) is = let same : Cert e.0 ≡ Print = sym e.1 ∙ is in cc
not_print a (inr (inr e)) is = let same : Check ≡ Print = sym e ∙ is in cc

pub number_given : (a : Action) (rows : List Row) → Counts a → HasNumber a rows → GivesNumber rows
number_given Lint rows other has = has
number_given (Cert full) rows other has = has
number_given Check rows other has = has
number_given Print rows other has = absurd (not_print Print other refl)

pub number_is : (a : Action) (rows : List Row) (n : ℕ) → Counts a → IsGivenNumber rows n → IsNumberOf a rows n
number_is Lint rows n other is = is
number_is (Cert full) rows n other is = is
number_is Check rows n other is = is
number_is Print rows n other is = absurd (not_print Print other refl)

-- an error of clap's is answered as its kind says
pub error_stops : (words : List Text) (kind : ErrorKind) (s : Stop) → (kind ≡ OutOfMemory) ⊎ IsAmong kind (fault_of shset_app words)
    → StopsAs kind s → StopsAt words s
error_stops words kind (Usage text) (inl m) s = absurd (s.1 m)
error_stops words kind (Usage text) (inr k) s = inl (kind, k, s.0)
error_stops words kind (Help text) (inl m) (inl s) = cc
error_stops words kind (Help text) (inl m) (inr s) = cc
error_stops words kind (Help text) (inr k) s = (kind, k, s)
error_stops words kind BadName h s = absurd s
error_stops words kind Memory h s = tt

pub read_stops : (words : List Text) (q : Text × List Row) (s : Stop) → fault_of shset_app words ≡ [] → subcommand_of shset_app words ≡ Some q
    → StopsRead q.0 q.1 s → StopsAt words s
read_stops words q (Usage text) none is s = inr (none, q, is, s)
read_stops words q (Help text) none is s = absurd s
read_stops words q BadName none is s = (none, q, is, s)
read_stops words q Memory none is s = tt
