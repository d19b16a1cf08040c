-- A parse of the program's words with no fault finds a subcommand, with all that a line is made of.
use Rattle.std.proofs.Common.{◌≡◌, ◌∙◌, ◌||◌, Bool, cond, drop, true, false, not, refl, sym, ap, subst, arith, codes, List, [], ◌∷◌, Option, Some, None, is_some, inl, inr}
use Rattle.std.specs.Prelude.{⊤, find, fold, option_and_then, pos, slice_get}
use Rattle.std.specs.Option.{option_map, option_map_or}
use Rattle.std.specs.Str.{bytes_eq}
use Rattle.clap.specs.Lexer.{without_minus}
use Rattle.clap.specs.Values.{IsSignedIn, read_as, refused_kind}
use Rattle.clap.specs.ValueTests.{accepts}
use Rattle.clap.specs.Walk.{Row, Rule, Text, answers_to, first_of, has_row, nothing_held, row_text, rows_after, settled, stop_after, walk, with_default}
use Rattle.clap.specs.Simple.{Shape, argument_words, built, built_leaf, entered, filled, inherited, label_of, marked_built, names_of, on_top, rows_at, subcommand_of, with_index, with_leaf_noted}
use Rattle.clap.specs.Takes.{is_given}
use Rattle.clap.specs.Kinds.{value_kinds}
use Rattle.clap.specs.Faults.{check_fault, entered_fault, fault_of, level_fault}
use Rattle.clap.specs.declared.builder.value_parser.Reading.{Reading}
use Rattle.clap.specs.declared.builder.value_parser.Reading.TheVariants.{WithoutMinus}
use Rattle.clap.specs.declared.builder.value_parser.ValueParser.{ValueParser}
use Rattle.clap.specs.declared.builder.value_parser.ValueParser.TheVariants.{Signed}
use Rattle.clap.specs.declared.error.kind.ErrorKind.TheVariants as kind
use Rattle.clap.proofs.ValueTestLemmas.{accepts-Accepts}
use Rattle.sh_line.specs.App.{args_rule, certifying_app, checking_app, printing_app, reading_app, shset_app}
use Rattle.sh_line.specs.Line.{GivesNumber}
use Rattle.sh_line.proofs.LineRowLemmas.{AllGood, AllSound, Sound, default_row, given_row, level-good, level_checks, row_found}

accepted : (i : Bool) (p : ValueParser) (v : Text) → value_kinds i p v ≡ [] → accepts i p v ≡ true
accepted i p v e = go (accepts i p v) refl
  where
    go : (b : Bool) → accepts i p v ≡ b → b ≡ true
    go true is = refl
    go false is =
        let bad : refused_kind p ∷ [] ≡ [] = rw is at e in
        cc

-- the settings that a subcommand takes from the program
abbrev above : Shape
above = (on_top with_leaf_noted (on_top marked_built shset_app)).top

-- a subcommand that reads a script, as it is built
abbrev pub reading : Text → Shape
reading name = built_leaf (inherited above (reading_app name).top)

-- a value of `--args` is a number in its range
abbrev Fits : Text → Reading → Text → Type 0
Fits id how v = bytes_eq id (codes "args") ≡ true → (how ≡ WithoutMinus) × IsSignedIn (pos 0) (pos 65535) v

-- a check, as it is built
abbrev pub checking : Shape
checking = built_leaf (inherited above (checking_app (codes "check")).top)

-- a certificate that is shown, as it is built
abbrev pub certifying : Shape
certifying = built_leaf (inherited above (certifying_app (codes "cert")).top)

-- a print, as it is built
abbrev pub printing : Shape
printing = built_leaf (inherited above (printing_app (codes "print")).top)

-- the first argument of the others
abbrev filled_args : Rule
filled_args = with_index 1 (filled args_rule)

-- A subcommand whose first argument is `--args`.
pub record Counts (s : Shape) : Type 0 where
  pub later : List Rule
  pub first : s.rules ≡ filled_args ∷ later

-- A subcommand that wants a file.
pub record Reads (s : Shape) : Type 0 where
  pub sound : AllSound Fits s.rules
  pub file : (rows : List Row) → check_fault s rows false ≡ [] → is_given (codes "FILE") rows ≡ true

args_sound : Sound Fits filled_args
args_sound =
    record {
      takes = inl (omega arith);
      fits = λ v e is. (refl, accepts-Accepts false (Signed (pos 0) (pos 65535)) v (accepted false (Signed (pos 0) (pos 65535)) v e));
    }

one_given : (b : Bool) → cond (not b || false) (kind.MissingRequiredArgument ∷ []) [] ≡ [] → b ≡ true
one_given true e = refl
one_given false e = cc

both_given : (a b : Bool) → cond (not a || (not b || false)) (kind.MissingRequiredArgument ∷ []) [] ≡ [] → (a ≡ true) × (b ≡ true)
both_given true true e = (refl, refl)
both_given true false e = cc
both_given false b e = cc

pub reading_reads : (name : Text) → Reads (reading name)
reading_reads name =
    record {
      sound = (
        args_sound,
        (record { takes = inl (omega arith); fits = λ v e is. cc }, (record { takes = inl (omega arith); fits = λ v e is. cc }, (record { takes = inr (inl refl); fits = λ v e is. cc }, tt))),
      );
      file = λ rows e. one_given (is_given (codes "FILE") rows) e;
    }

pub reading_counts : (name : Text) → Counts (reading name)
reading_counts name = record { later = drop 1 (reading name).rules; first = refl }

pub certifying_reads : Reads certifying
certifying_reads =
    record {
      sound = (
        args_sound,
        (
          record { takes = inr (inr (codes "true", [], refl, λ is. cc)); fits = λ v e is. cc },
          (record { takes = inl (omega arith); fits = λ v e is. cc }, (record { takes = inl (omega arith); fits = λ v e is. cc }, (record { takes = inr (inl refl); fits = λ v e is. cc }, tt))),
        ),
      );
      file = λ rows e. one_given (is_given (codes "FILE") rows) e;
    }

pub certifying_counts : Counts certifying
certifying_counts = record { later = drop 1 certifying.rules; first = refl }

pub printing_reads : Reads printing
printing_reads =
    record {
      sound = (record { takes = inl (omega arith); fits = λ v e is. cc }, (record { takes = inr (inl refl); fits = λ v e is. cc }, tt));
      file = λ rows e. one_given (is_given (codes "FILE") rows) e;
    }

certificate_given : (rows : List Row) → check_fault checking rows false ≡ [] → (is_given (codes "FILE") rows ≡ true) × (is_given (codes "CERT") rows ≡ true)
certificate_given rows e = both_given (is_given (codes "FILE") rows) (is_given (codes "CERT") rows) e

pub checking_reads : Reads checking
checking_reads =
    record {
      sound = (
        args_sound,
        (
          record { takes = inl (omega arith); fits = λ v e is. cc },
          (record { takes = inl (omega arith); fits = λ v e is. cc }, (record { takes = inl (omega arith); fits = λ v e is. cc }, (record { takes = inr (inl refl); fits = λ v e is. cc }, tt))),
        ),
      );
      file = λ rows e. (certificate_given rows e).0;
    }

pub checking_counts : Counts checking
checking_counts = record { later = drop 1 checking.rules; first = refl }

read_at : (r : Row) (v : Text) → r.reading ≡ WithoutMinus → slice_get r.values 0 ≡ Some v → row_text r ≡ Some (without_minus v)
read_at r v how is = ap (λ (o : Option Text). option_map (read_as r.reading) o) is ∙ ap (λ (h : Reading). Some (read_as h v)) how

-- what such a subcommand finds where its level has no fault
module _ (s : Shape) (r : Reads s) (words : List Text) (passes : level_fault s [] nothing_held words false [] ≡ []) where
  good : AllGood Fits (rows_after s.rules [] words)
  good = level-good Fits s r.sound [] nothing_held words false [] passes tt

  checked : check_fault s (rows_after s.rules [] words) false ≡ []
  checked = (level_checks s [] nothing_held words false [] passes).0

  first_found : (id : Text) → is_given id (rows_after s.rules [] words) ≡ true → is_some (first_of id (rows_after s.rules [] words)) ≡ true
  first_found id given =
      let rows = rows_after s.rules [] words in
      let row = row_found Fits (λ r. bytes_eq r.id id) rows good (given_row id rows given) in
      ap is_some (ap (option_and_then (λ (r : Row). slice_get r.values 0)) row.1 ∙ row.3.is)

  pub file_found : is_some (first_of (codes "FILE") (rows_after s.rules [] words)) ≡ true
  file_found = first_found (codes "FILE") (r.file (rows_after s.rules [] words) checked)

  pub number_found : Counts s → GivesNumber (rows_after s.rules [] words)
  number_found n =
      let held = (settled s.rules (walk s.rules [] nothing_held words).held).rows in
      let there = subst (λ rs. has_row (codes "args") (fold with_default held rs) ≡ true) (sym n.first) (default_row filled_args (codes "0") [] n.later held refl) in
      let row = row_found Fits (λ r. bytes_eq r.id (codes "args")) (rows_after s.rules [] words) good there in
      let number = row.3.fits row.2 in (
        row.3.first,
        ap (option_and_then row_text) row.1 ∙ read_at row.0 row.3.first number.0 row.3.is,
        number.1,
      )

pub certificate_found : (words : List Text) → level_fault checking [] nothing_held words false [] ≡ []
    → is_some (first_of (codes "CERT") (rows_after checking.rules [] words)) ≡ true
certificate_found words passes =
    first_found checking checking_reads words passes (codes "CERT")
    (certificate_given (rows_after checking.rules [] words) (checked checking checking_reads words passes)).1

-- ---- the program's own level

-- what holds of each subcommand whose level has no fault
abbrev pub EachLevel : (Text × List Row → Type 0) → List Shape → Type 0
EachLevel P [] = ⊤
EachLevel P (s ∷ rest) = ((words : List Text) → level_fault s [] nothing_held words false [] ≡ [] → P (rows_at s words)) × EachLevel P rest

level_entered : (P : Text × List Row → Type 0) (p : Shape → Bool) (subs : List Shape) (words : List Text) (q : Text × List Row) → EachLevel P subs
    → option_map (λ s. rows_at s words) (find p subs) ≡ Some q → option_map_or (λ s. level_fault s [] nothing_held words false []) (find p subs) [] ≡ [] → P q
level_entered P p [] words q each e passes = cc
level_entered P p (s ∷ rest) words q each e passes = go (p s) (level_entered P p rest words q each.1) e passes
  where
    go : (b : Bool)
        → (option_map (λ s. rows_at s words) (find p rest) ≡ Some q → option_map_or (λ s. level_fault s [] nothing_held words false []) (find p rest) [] ≡ [] → P q)
        → option_map (λ s. rows_at s words) (cond b (Some s) (find p rest)) ≡ Some q
        → option_map_or (λ s. level_fault s [] nothing_held words false []) (cond b (Some s) (find p rest)) [] ≡ [] → P q
    go true rec e passes =
        let same : rows_at s words ≡ q = cc in
        subst P same (each.0 words passes)
    go false rec e passes = rec e passes

-- and so of what is found, if the words have no fault and name a subcommand
pub found_passes : (P : Text × List Row → Type 0) → EachLevel P (built shset_app).subs → (words : List Text) (q : Text × List Row)
    → fault_of shset_app words ≡ [] → subcommand_of shset_app words ≡ Some q → P q
found_passes P each words q none is =
    go (stop_after (built shset_app).top.rules (names_of (built shset_app)) (argument_words shset_app words)) is
    (level_checks (built shset_app).top (names_of (built shset_app)) nothing_held (argument_words shset_app words) _ _ none).1
  where
    go : (stop : Option (Text × List Text)) → entered (built shset_app) stop ≡ Some q → entered_fault (built shset_app) stop ≡ [] → P q
    go None e passes = cc
    go (Some p) e passes = level_entered P (λ s. answers_to p.0 (label_of s)) (built shset_app).subs p.1 q each e passes
