-- The least fault so far: if a place claims more than is known, or a function does not drop what it
-- has to, the command breaks the rule.
-- The standard has no such rules: what is claimed of a place has to be known there in every run.
use Rattle.std.specs.Prelude.{◌≡◌, Bool, true, false, ◌&&◌, if◌then◌else◌, Option, Some, None}
use Rattle.std.proofs.Common.{refl, sym, ap, ◌∙◌}
use Rattle.std.proofs.lemmas.List.Folds.{list_all-append}
use Rattle.std.specs.List.{list_all}
use Rattle.sh_runs.specs.standard.runs.Environment.{is_one_of}
use Rattle.sh_domain.specs.Facts.{Facts, within}
use Rattle.sh_domain.specs.Faults.{Fault, precedes, lesser, are_among}
use Rattle.sh_domain.specs.Operands.{Names, no_names}
use Rattle.sh_domain.specs.Views.{Slot}
use Rattle.sh_rules.specs.Settings.{Setting, certificate, claimed_at}
use Rattle.sh_rules.specs.Asking.{Asking, both_names}

-- the fault is reported if the test fails
unfoldable pub with_test : Bool → Fault → Option Fault → Option Fault
with_test true f least = least
with_test false f least = lesser least f

-- whether what the certificate claims at this place is known
abbrev pub is_within : Setting → Slot → Facts → Bool
is_within x slot k = within (claimed_at x slot) k

-- One fault, reported more than once

either_way : {A : Type 0} (b : Bool) (a : A) → (if b then a else a) ≡ a
either_way true a = refl
either_way false a = refl

itself : (f : Fault) → lesser (Some f) f ≡ Some f
unfolding lesser
itself f = either_way (precedes f f) (Some f)

told_again : (f a : Fault) (first : Bool) → lesser (if first then Some f else Some a) f ≡ (if first then Some f else lesser (Some a) f)
told_again f a true = itself f
told_again f a false = refl

chosen_again : (f a : Fault) (first : Bool) → (if first then Some f else (if first then Some f else Some a)) ≡ (if first then Some f else Some a)
chosen_again f a true = refl
chosen_again f a false = refl

twice : (f : Fault) (least : Option Fault) → lesser (lesser least f) f ≡ lesser least f
unfolding lesser
twice f None = itself f
twice f (Some a) = told_again f a (precedes f a) ∙ chosen_again f a (precedes f a)

pub tests_joined : (a b : Bool) (f : Fault) (least : Option Fault) → with_test b f (with_test a f least) ≡ with_test (a && b) f least
unfolding with_test
tests_joined true b f least = refl
tests_joined false true f least = refl
tests_joined false false f least = twice f least

-- Names that are dropped together

pub nothing_told : (d : Names) (f : Fault) (least : Option Fault) → with_test (are_among no_names d) f least ≡ least
unfolding are_among with_test
nothing_told d f least = refl

regrouped : (v f w g : Bool) → ((v && w) && (f && g)) ≡ ((v && f) && (w && g))
regrouped true true w g = refl
regrouped true false true g = refl
regrouped true false false g = refl
regrouped false f w g = refl

both_among : (a b d : Names) → are_among (both_names a b) d ≡ (are_among a d && are_among b d)
unfolding are_among
both_among a b d =
    ap (λ c. c && list_all (is_one_of d.functions) (both_names a b).functions) (list_all-append (is_one_of d.vars) a.vars b.vars)
    ∙ ap (λ c. (list_all (is_one_of d.vars) a.vars && list_all (is_one_of d.vars) b.vars) && c) (list_all-append (is_one_of d.functions) a.functions b.functions)
    ∙ regrouped (list_all (is_one_of d.vars) a.vars) (list_all (is_one_of d.functions) a.functions) (list_all (is_one_of d.vars) b.vars) (list_all (is_one_of d.functions) b.functions)

pub both_told : (a b d : Names) (f : Fault) (least : Option Fault)
    → with_test (are_among (both_names a b) d) f least ≡ with_test (are_among b d) f (with_test (are_among a d) f least)
both_told a b d f least = ap (λ c. with_test c f least) (both_among a b d) ∙ sym (tests_joined (are_among a d) (are_among b d) f least)

-- what is kept is the least fault
abbrev pub least_told : Asking (Option Fault)
least_told = record {
  bound = λ x slot f k least. with_test (is_within x slot k) f least;
  drop = λ x function f names least. with_test (are_among names ((certificate x).drops function)) f least;
  drops_nothing = λ x function f least. nothing_told ((certificate x).drops function) f least;
  drops_both = λ x function f a b least. both_told a b ((certificate x).drops function) f least;
}
