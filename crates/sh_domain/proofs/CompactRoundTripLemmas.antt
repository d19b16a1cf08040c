-- The first line of a text gives its version, and what is written of a compact certificate reads
-- back.
use Rattle.std.proofs.Common.{◌≡◌, ℕ, ◌+◌, ◌≤◌, nat_le, Bool, true, false, if◌then◌else◌, List, [], ◌∷◌, length, map, Option, Some, None, Result, Ok, Err, refl, sym, ap, ◌∙◌, arith}
use Rattle.std.specs.Str.{bytes_eq}
use Rattle.std.proofs.lemmas.Bool.Decides.{nat_tests}
use Rattle.std.proofs.lemmas.List.{length-map}
use Rattle.std.proofs.lemmas.List.Elements.{recursion_from_All}
use Rattle.sh_tree.specs.declared.refusal.Refusal.{Refusal}
use Rattle.sh_tree.specs.declared.refusal.Refusal.TheVariants.{TooLong, NulByte, Syntax, LeftOut, TooDeep, TooMany, Memory, Profile, CertSyntax, CertShape}
use Rattle.sh_tree.specs.declared.tree.Script.{Script}
use Rattle.sh_tree.specs.standard.program.Syntax.{Text}
use Rattle.sh_domain.specs.declared.certificate.Facts as value
use Rattle.sh_domain.specs.declared.compact.Compact.{Compact}
use Rattle.sh_domain.specs.declared.compact.Given.{Given}
use Rattle.sh_domain.specs.declared.compact.Given.TheVariants as given
use Rattle.sh_domain.specs.declared.limits.TheConstants.{MAX_CERTIFICATE}
use Rattle.sh_domain.specs.Certificates.{in_byte_order, function_claims, sheet_of}
use Rattle.sh_domain.specs.CompactForms as form
use Rattle.sh_domain.specs.CompactForms.{GivenSheet, is_compact_line, begins_compact, is_compact, given_as, read_given, read_compact_sheet, read_compact_text}
use Rattle.sh_domain.specs.CompactReading.{ReadsGiven, compact_fits, given_fits, given_claims}
use Rattle.sh_domain.specs.CompactRoundTrips.{TurnsPass, CompactHasText, compact_claimed, compact_written, given_text, ClaimsCompact, WrittenCompactReadsBack, GivenIsWritten}
use Rattle.sh_domain.specs.Compacts.{CompactSheet, compact_line, compact_text, turns_of}
use Rattle.sh_domain.specs.CompactSpelling.{turns_rise, IsCompactSheet}
use Rattle.sh_domain.specs.Forms.{cut_at, formed, whole_line, read_line, is_first, read_sheet, read_text}
use Rattle.sh_domain.specs.KeptRows.{KeptRows}
use Rattle.sh_domain.specs.Names.{are_distinct}
use Rattle.sh_domain.specs.Reading.{AreLoops}
use Rattle.sh_domain.specs.RoundTrips.{FunctionPasses}
use Rattle.sh_domain.specs.Sheets.{Sheet, first_line, certificate_text}
use Rattle.sh_domain.proofs.CompactSpellingLemmas.{compact_spelled, compact_read_back}
use Rattle.sh_domain.proofs.RoundTripLemmas.{true_false, fact_rises, functions_rise, few}
use Rattle.sh_domain.proofs.SpellingLemmas.{err_ok, behind_ok, same_text, spelled}
use Rattle.sh_domain.proofs.WritableLemmas.{ok_same, ok_err, within}

-- The version of a text

line_begins : (o : Option (Text × Text)) (a : Unit {0} × Text) → whole_line is_compact_line 1 o ≡ Ok a → begins_compact o ≡ true
unfolding whole_line begins_compact formed
line_begins None a e = absurd (err_ok e)
line_begins (Some x) a e = go (bytes_eq compact_line x.0) e
  where
    go : (b : Bool) → formed 1 x.1 (if b then Some tt else None) ≡ Ok a → b ≡ true
    go true h = refl
    go false h = absurd (err_ok h)

first_begins : (o : Option (Text × Text)) (a : Unit {0} × Text) → whole_line is_first 1 o ≡ Ok a → begins_compact o ≡ false
unfolding whole_line begins_compact formed
first_begins None a e = refl
first_begins (Some x) a e = go (bytes_eq first_line x.0) refl e
  where
    go : (b : Bool) → bytes_eq first_line x.0 ≡ b → formed 1 x.1 (if b then Some tt else None) ≡ Ok a → bytes_eq compact_line x.0 ≡ false
    go true s h = ap (bytes_eq compact_line) (sym (same_text first_line x.0 s))
    go false s h = absurd (err_ok h)

pub compact_short : (t : Text) → length t ≤ MAX_CERTIFICATE → read_compact_text t ≡ read_compact_sheet t
unfolding read_compact_text
compact_short t l = let small : nat_le (length t) MAX_CERTIFICATE ≡ true = grind (arith, nat_tests) in rw small refl

pub compact_within : (t : Text) (s : CompactSheet) → read_compact_text t ≡ Ok s → read_compact_sheet t ≡ Ok s
unfolding read_compact_text
compact_within t s e = by (nat_le (length t) MAX_CERTIFICATE) e
  where
    by : (b : Bool) → (if b then read_compact_sheet t else Err 0) ≡ Ok s → read_compact_sheet t ≡ Ok s
    by true h = h
    by false h = absurd (err_ok h)

compact_begins : (t : Text) (s : CompactSheet) → read_compact_text t ≡ Ok s → is_compact t ≡ true
unfolding read_compact_sheet
compact_begins t s e = let a = behind_ok (read_line is_compact_line 1 t) _ s (compact_within t s e) in line_begins (cut_at 10 t) a.0 a.1

full_begins : (t : Text) (s : Sheet) → read_text t ≡ Ok s → is_compact t ≡ false
unfolding read_sheet
full_begins t s e = let a = behind_ok (read_line is_first 1 t) _ s (within t s e) in first_begins (cut_at 10 t) a.0 a.1

-- a text of either version is given as one of that version

pub compact_given : (t : Text) (s : CompactSheet) → read_compact_text t ≡ Ok s → read_given t ≡ Ok (form.Compact s)
unfolding given_as
compact_given t s e = rw (compact_begins t s e, e) refl

pub full_given : (t : Text) (s : Sheet) → read_text t ≡ Ok s → read_given t ≡ Ok (form.Full s)
unfolding given_as
full_given t s e = rw (full_begins t s e, e) refl

compact_as : (r : Result CompactSheet ℕ) (s : CompactSheet) → given_as form.Compact r ≡ Ok (form.Compact s) → r ≡ Ok s
unfolding given_as
compact_as (Ok x) s e = let same : x ≡ s = cc in ap Ok same
compact_as (Err k) s e = absurd (err_ok e)

full_as : (r : Result Sheet ℕ) (s : Sheet) → given_as form.Full r ≡ Ok (form.Full s) → r ≡ Ok s
unfolding given_as
full_as (Ok x) s e = let same : x ≡ s = cc in ap Ok same
full_as (Err k) s e = absurd (err_ok e)

not_full : (r : Result CompactSheet ℕ) (s : Sheet) → given_as form.Compact r ≡ Ok (form.Full s) → ⊥
unfolding given_as
not_full (Ok x) s e = cc
not_full (Err k) s e = err_ok e

not_compact : (r : Result Sheet ℕ) (s : CompactSheet) → given_as form.Full r ≡ Ok (form.Compact s) → ⊥
unfolding given_as
not_compact (Ok x) s e = cc
not_compact (Err k) s e = err_ok e

pub given_compact : (t : Text) (s : CompactSheet) → read_given t ≡ Ok (form.Compact s) → read_compact_text t ≡ Ok s
given_compact t s e = go (is_compact t) e
  where
    go : (b : Bool) → (if b then given_as form.Compact (read_compact_text t) else given_as form.Full (read_text t)) ≡ Ok (form.Compact s) → read_compact_text t ≡ Ok s
    go true h = compact_as (read_compact_text t) s h
    go false h = absurd (not_compact (read_text t) s h)

pub given_full : (t : Text) (s : Sheet) → read_given t ≡ Ok (form.Full s) → read_text t ≡ Ok s
given_full t s e = go (is_compact t) e
  where
    go : (b : Bool) → (if b then given_as form.Compact (read_compact_text t) else given_as form.Full (read_text t)) ≡ Ok (form.Full s) → read_text t ≡ Ok s
    go true h = absurd (not_full (read_compact_text t) s h)
    go false h = full_as (read_text t) s h

-- What a compact certificate claims may be written

small : (n m : ℕ) → n ≤ m → nat_le n m ≡ true
small n m l = grind (arith, nat_tests)

turns_good : (names : List Text) (rows : KeptRows) → are_distinct names ≡ true → (least : ℕ) (hs : List (ℕ × value.Facts)) → TurnsPass names rows least hs → turns_rise least (turns_of (in_byte_order names) rows hs) ≡ true
unfolding TurnsPass turns_rise
turns_good names rows d least [] h = refl
turns_good names rows d least (x ∷ xs) h = rw (small least x.0 h.0, small x.0 65535 h.1, fact_rises names rows d x.1 h.2) (turns_good names rows d (x.0 + 1) xs h.3)

compact_rises : (names : List Text) (c : Compact) → CompactHasText names c → IsCompactSheet (compact_claimed names c)
compact_rises names c h = record {
  start = fact_rises names c.rows h.distinct c.start h.start;
  heads = turns_good names c.rows h.distinct 0 c.heads.entries h.heads;
  functions = functions_rise names c.rows h.distinct c.functions.items (recursion_from_All (FunctionPasses names c.rows) c.functions.items h.functions);
  few_commands = small c.commands 65535 h.few_commands;
  few_heads = few (length (turns_of (in_byte_order names) c.rows c.heads.entries)) (length c.heads.entries) (length-map c.heads.entries _) h.few_heads;
  few_functions = few (length (map (function_claims (in_byte_order names) c.rows) c.functions.items)) (length c.functions.items) (length-map c.functions.items (function_claims (in_byte_order names) c.rows)) h.few_functions;
}

-- What its text is read as, for a script that it fits

module _ (names : List Text) (c : Compact) (t : Script) (functions : ℕ) (same : read_given (compact_written names c) ≡ Ok (form.Compact (compact_claimed names c)))
    (fit : (loops : List Bool) → AreLoops t loops → compact_fits names loops functions (compact_claimed names c) ≡ true) where
  answered : (r : Result Given Refusal) → ReadsGiven (compact_written names c) t functions names r → ClaimsCompact names (compact_claimed names c) r
  unfolding given_fits
  answered (Ok g) x = ok_same (sym x.2.claims ∙ same)
  answered (Err CertShape) x =
      let is : x.2.sheet ≡ form.Compact (compact_claimed names c) = ok_same (sym x.2.claims ∙ same) in
      true_false (sym (fit x.0 x.1) ∙ ap (given_fits names x.0 functions) (sym is) ∙ x.2.misfit)
  answered (Err (CertSyntax k)) x = ok_err (sym same ∙ x)
  answered (Err Memory) x = tt
  answered (Err TooLong) x = x
  answered (Err (NulByte k)) x = x
  answered (Err (Syntax f k)) x = x
  answered (Err (LeftOut f k)) x = x
  answered (Err (TooDeep k)) x = x
  answered (Err TooMany) x = x
  answered (Err (Profile f k)) x = x

pub written_compact_reads_back : WrittenCompactReadsBack
written_compact_reads_back = record {
  rising = compact_rises;
  back = λ names c h. compact_read_back (compact_claimed names c) (compact_rises names c h);
  read = λ names c t functions r h l f x.
      let back = compact_short (compact_written names c) l ∙ compact_read_back (compact_claimed names c) (compact_rises names c h) in
      answered names c t functions (compact_given (compact_written names c) (compact_claimed names c) back) f r x;
}

-- What is read is what is written again

text_again : (text : Text) (names : List Text) (g : Given) → read_given text ≡ Ok (given_claims names g) → given_text names g ≡ text
unfolding given_claims given_text
text_again text names (given.Full c) e = spelled text (sheet_of (in_byte_order names) c) (within text (sheet_of (in_byte_order names) c) (given_full text (sheet_of (in_byte_order names) c) e))
text_again text names (given.Compact c) e = compact_spelled text (compact_claimed names c) (compact_within text (compact_claimed names c) (given_compact text (compact_claimed names c) e))

unfoldable sheet_text : GivenSheet → Text
sheet_text (form.Full s) = certificate_text s
sheet_text (form.Compact s) = compact_text s

claims_text : (names : List Text) (g : Given) → sheet_text (given_claims names g) ≡ given_text names g
unfolding given_claims given_text sheet_text
claims_text names (given.Full c) = refl
claims_text names (given.Compact c) = refl

pub given_is_written : GivenIsWritten
given_is_written = record {
  again = λ text t functions names g x. text_again text names g x.2.claims;
  one = λ text other t functions names g d x y e.
      sym (text_again text names g x.2.claims) ∙ sym (claims_text names g) ∙ ap sheet_text e ∙ claims_text names d ∙ text_again other names d y.2.claims;
}
