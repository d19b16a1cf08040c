-- The whole text of a compact certificate, and whether it fits a script.
use Rattle.std.proofs.Common.{◌≡◌, ℕ, suc, ◌+◌, ◌<◌, ◌≤◌, nat_eq, nat_le, Bool, true, false, ◌&&◌, List, [], ◌∷◌, length, map, Result, Ok, Err, refl, sym, ap, ap₂, ◌∙◌, arith}
use Rattle.std.specs.List.{list_all}
use Rattle.std.specs.Prelude.{IsErrOf, IsOk}
use Rattle.std.proofs.lemmas.Bool.{and_parts}
use Rattle.std.proofs.lemmas.Bool.Decides.{nat_tests}
use Rattle.sh_tree.specs.declared.refusal.Refusal.{Refusal}
use Rattle.sh_tree.specs.declared.refusal.Refusal.TheVariants.{TooLong, NulByte, Syntax, LeftOut, TooDeep, TooMany, Memory, Profile, CertSyntax, CertShape}
use Rattle.sh_tree.specs.declared.tree.Script.{Script}
use Rattle.sh_tree.specs.standard.program.Syntax.{Text}
use Rattle.sh_domain.specs.declared.certificate.Certificate.{Certificate}
use Rattle.sh_domain.specs.declared.certificate.Facts as value
use Rattle.sh_domain.specs.declared.compact.Compact.{Compact}
use Rattle.sh_domain.specs.declared.compact.Given.TheVariants as given
use Rattle.sh_domain.specs.declared.limits.TheConstants.{MAX_CERTIFICATE}
use Rattle.sh_domain.specs.Certificates.{in_byte_order, claim_of, function_claims, sheet_of}
use Rattle.sh_domain.specs.CompactForms as form
use Rattle.sh_domain.specs.CompactForms.{Counts, GivenSheet, is_compact, is_compact_line, compact_counts_in, start_in, read_turns, read_compact_sheet, read_compact_text, read_given, given_as}
use Rattle.sh_domain.specs.CompactReading.{loop_numbers, turns_fit, compact_fits, given_fits, given_claims, ReadsGiven}
use Rattle.sh_domain.specs.Compacts.{CompactSheet, compact_claims, turns_of}
use Rattle.sh_domain.specs.Facts.{Claim}
use Rattle.sh_domain.specs.Forms.{read_line, read_lines, read_text, function_in}
use Rattle.sh_domain.specs.KeptRows.{KeptRows}
use Rattle.sh_domain.specs.Reading.{AreLoops, Reads, claim_fits, functions_fit, function_fits}
use Rattle.sh_domain.specs.Sheets.{FunctionClaims, function_fields}
use Rattle.sh_domain.specs.Spelling.{is_writable}
use Rattle.sh_domain.proofs.CompactRoundTripLemmas.{compact_short, compact_within, compact_given, full_given}
use Rattle.sh_domain.proofs.CompactSpellingLemmas.{turns_spelled, compact_is_sheet}
use Rattle.sh_domain.proofs.SpellingLemmas.{behind_ok, ended_some, lines_spelled, function_spelled}
use Rattle.sh_domain.proofs.WritableLemmas.{ok_same, ok_err}
use Rattle.sh_facts.specs.declared.forms.FactText.{FactText}
use Rattle.sh_facts.specs.CompactParts.{IsCompactOf, IsOtherCompact, AnswersCompact, ReadsCompact, ReadsTurns, NoTurnsFit}
use Rattle.sh_facts.specs.Fields as field
use Rattle.sh_facts.specs.Fields.{left_of, outcome}
use Rattle.sh_facts.specs.ReadParts.{ReadsFacts, ReadsFunctions, NoFunctionsFit, Misses}
use Rattle.sh_facts.proofs.ReadingLemmas.{stay_on}
use Rattle.sh_facts.proofs.WholeLemmas.{true_false, and_false, has_sheet, refused_so}

-- The form

pub too_long : (t : Text) → MAX_CERTIFICATE < length t → read_compact_text t ≡ Err 0
unfolding read_compact_text
too_long t l = let past : nat_le (length t) MAX_CERTIFICATE ≡ false = grind (arith, nat_tests) in rw past refl

pub faulty : (t : Text) (k : ℕ) → length t ≤ MAX_CERTIFICATE → Err k ≡ outcome (read_compact_sheet t) → read_compact_text t ≡ Err k
faulty t k l e = compact_short t l ∙ refused_so (read_compact_sheet t) k (sym e)

pub has_form : (t : Text) → length t ≤ MAX_CERTIFICATE → Ok (tt {0}) ≡ outcome (read_compact_sheet t) → outcome (read_compact_text t) ≡ Ok (tt {0})
has_form t l e = ap outcome (compact_short t l) ∙ sym e

-- The parts of a text that has the form

record Parts (s : CompactSheet) (w : Text) (x : Counts) (st : Claim) : Type 0 where
  left : Text
  commands : s.commands ≡ x.commands
  start : s.start ≡ st
  turns : read_turns 4 0 x.loops w ≡ Ok (s.heads, left)
  functions : read_lines function_in (4 + x.loops) 1 x.functions left ≡ Ok (s.functions, [])

parts : (t u v w : Text) (x : Counts) (st : Claim) (s : CompactSheet) → read_compact_sheet t ≡ Ok s → left_of (read_line is_compact_line 1 t) ≡ Ok u → read_line compact_counts_in 2 u ≡ Ok (x, v)
    → read_line start_in 3 v ≡ Ok (st, w) → Parts s w x st
unfolding read_compact_sheet left_of
parts t u v w x st s e first counts start =
    let a = behind_ok (read_line is_compact_line 1 t) _ s e in
    let b = behind_ok (read_line compact_counts_in 2 a.0.1) _ s a.2 in
    let c = behind_ok (read_line start_in 3 b.0.1) _ s b.2 in
    let d = behind_ok (read_turns 4 0 b.0.0.loops c.0.1) _ s c.2 in
    let f = behind_ok (read_lines function_in (4 + b.0.0.loops) 1 b.0.0.functions d.0.1) _ s d.2 in
    let last = ended_some (4 + b.0.0.loops + b.0.0.functions) (record { commands = b.0.0.commands; start = c.0.0; heads = d.0.0; functions = f.0.0 }) s f.0.1 f.2 in
    let behind_first : a.0.1 ≡ u = ok_same (sym (ap left_of a.1) ∙ first) in
    let read : b.0 ≡ (x, v) = ok_same (sym b.1 ∙ ap (read_line compact_counts_in 2) behind_first ∙ counts) in
    let started : c.0 ≡ (st, w) = ok_same (sym c.1 ∙ ap (λ (z : Counts × Text). read_line start_in 3 z.1) read ∙ start) in
    record {
      left = d.0.1;
      commands = ap (λ (z : CompactSheet). z.commands) (sym last.0) ∙ ap (λ (z : Counts × Text). z.0.commands) read;
      start = ap (λ (z : CompactSheet). z.start) (sym last.0) ∙ ap (λ (z : Claim × Text). z.0) started;
      turns = sym (ap₂ (λ (z : Counts × Text) (y : Claim × Text). read_turns 4 0 z.0.loops y.1) read started) ∙ d.1 ∙ ap (λ (z : CompactSheet). Ok (z.heads, d.0.1)) last.0;
      functions =
          sym (ap (λ (z : Counts × Text). read_lines function_in (4 + z.0.loops) 1 z.0.functions d.0.1) read) ∙ f.1
          ∙ ap₂ (λ (z : CompactSheet) (y : Text). Ok (z.functions, y)) last.0 last.1;
    }

turns_long : (names : List Text) (ks : List ℕ) (hs : List (ℕ × Claim)) → turns_fit names ks hs ≡ true → length hs ≡ length ks
unfolding turns_fit
turns_long names [] [] h = refl
turns_long names [] (x ∷ hs) h = absurd (true_false (sym h))
turns_long names (k ∷ ks) [] h = absurd (true_false (sym h))
turns_long names (k ∷ ks) (x ∷ hs) h = ap suc (turns_long names ks hs (and_parts _ (turns_fit names ks hs) h).1)

module _ (t : Text) (names : List Text) (loops : List Bool) (functions : ℕ) (formed : outcome (read_compact_text t) ≡ Ok (tt {0})) where
  sheet : (s : CompactSheet) × (read_compact_text t ≡ Ok s)
  sheet = has_sheet (read_compact_text t) formed

  pub has_first : (k : ℕ) → left_of (read_line is_compact_line 1 t) ≡ Err k → ⊥
  unfolding read_compact_sheet left_of
  has_first k e =
      let a = behind_ok (read_line is_compact_line 1 t) _ sheet.0 (compact_within t sheet.0 sheet.1) in
      ok_err (sym (ap left_of a.1) ∙ e)

  pub has_counts : (u : Text) (k : ℕ) → left_of (read_line is_compact_line 1 t) ≡ Ok u → read_line compact_counts_in 2 u ≡ Err k → ⊥
  unfolding read_compact_sheet left_of
  has_counts u k first e =
      let a = behind_ok (read_line is_compact_line 1 t) _ sheet.0 (compact_within t sheet.0 sheet.1) in
      let b = behind_ok (read_line compact_counts_in 2 a.0.1) _ sheet.0 a.2 in
      let behind_first : a.0.1 ≡ u = ok_same (sym (ap left_of a.1) ∙ first) in
      ok_err (sym b.1 ∙ ap (read_line compact_counts_in 2) behind_first ∙ e)

  pub has_start : (u v : Text) (x : Counts) (k : ℕ) → left_of (read_line is_compact_line 1 t) ≡ Ok u → read_line compact_counts_in 2 u ≡ Ok (x, v) → read_line start_in 3 v ≡ Err k → ⊥
  unfolding read_compact_sheet left_of
  has_start u v x k first counts e =
      let a = behind_ok (read_line is_compact_line 1 t) _ sheet.0 (compact_within t sheet.0 sheet.1) in
      let b = behind_ok (read_line compact_counts_in 2 a.0.1) _ sheet.0 a.2 in
      let c = behind_ok (read_line start_in 3 b.0.1) _ sheet.0 b.2 in
      let behind_first : a.0.1 ≡ u = ok_same (sym (ap left_of a.1) ∙ first) in
      let read : b.0 ≡ (x, v) = ok_same (sym b.1 ∙ ap (read_line compact_counts_in 2) behind_first ∙ counts) in
      ok_err (sym c.1 ∙ ap (λ (z : Counts × Text). read_line start_in 3 z.1) read ∙ e)

  other : compact_fits names loops functions sheet.0 ≡ false → IsOtherCompact t names loops functions
  other h = record { sheet = sheet.0; claims = sheet.1; misfit = h }

  module _ (u v w : Text) (x : Counts) (st : Claim) (first : left_of (read_line is_compact_line 1 t) ≡ Ok u) (counts : read_line compact_counts_in 2 u ≡ Ok (x, v)) (start : read_line start_in 3 v ≡ Ok (st, w)) where
    p : Parts sheet.0 w x st
    p = parts t u v w x st sheet.0 (compact_within t sheet.0 sheet.1) first counts start

    heads_long : length sheet.0.heads ≡ x.loops
    heads_long = (turns_spelled 4 0 x.loops w (sheet.0.heads, p.left) p.turns).1

    functions_long : length sheet.0.functions ≡ x.functions
    functions_long = (lines_spelled function_in function_fields function_spelled (4 + x.loops) 1 x.functions p.left (sheet.0.functions, []) p.functions).1

    -- what does not fit, by the part that does not
    misfits : (a b c d : Bool) → nat_eq sheet.0.commands (length loops) ≡ a → claim_fits names sheet.0.start ≡ b → turns_fit names (loop_numbers 1 loops) sheet.0.heads ≡ c → functions_fit names functions sheet.0.functions ≡ d
        → (a && b && c && d) ≡ false → IsOtherCompact t names loops functions
    misfits a b c d h k l m n = other (rw (h, k, l, m) n)

    last_false : (a b c : Bool) → (a && b && c && false) ≡ false
    last_false a b c = and_false (a && b && c)

    other_commands : nat_eq x.commands (length loops) ≡ false → IsOtherCompact t names loops functions
    other_commands h = misfits false _ _ _ (ap (λ k. nat_eq k (length loops)) p.commands ∙ h) refl refl refl refl

    pub no_start : claim_fits names st ≡ false → IsOtherCompact t names loops functions
    no_start h = misfits (nat_eq sheet.0.commands (length loops)) false _ _ refl (ap (claim_fits names) p.start ∙ h) refl refl (second (nat_eq sheet.0.commands (length loops)) _ _)
      where
        second : (a c d : Bool) → (a && false && c && d) ≡ false
        second true c d = refl
        second false c d = refl

    no_heads : turns_fit names (loop_numbers 1 loops) sheet.0.heads ≡ false → IsOtherCompact t names loops functions
    no_heads h = misfits (nat_eq sheet.0.commands (length loops)) (claim_fits names sheet.0.start) false _ refl refl h refl (third (nat_eq sheet.0.commands (length loops)) (claim_fits names sheet.0.start) _)
      where
        third : (a b d : Bool) → (a && b && false && d) ≡ false
        third a b d = ap (λ c. c && d) (and_false (a && b))

    pub other_loops : nat_eq x.loops (length (loop_numbers 1 loops)) ≡ false → IsOtherCompact t names loops functions
    other_loops h = no_heads (go (turns_fit names (loop_numbers 1 loops) sheet.0.heads) refl)
      where
        go : (b : Bool) → turns_fit names (loop_numbers 1 loops) sheet.0.heads ≡ b → b ≡ false
        go false e = refl
        go true e =
            absurd (let same : x.loops ≡ length (loop_numbers 1 loops) = sym heads_long ∙ turns_long names (loop_numbers 1 loops) sheet.0.heads e in
            let w : nat_eq x.loops (length (loop_numbers 1 loops)) ≡ true = grind (arith, nat_tests) in true_false (sym w ∙ h))

    no_functions_fit : functions_fit names functions sheet.0.functions ≡ false → IsOtherCompact t names loops functions
    no_functions_fit h =
        misfits (nat_eq sheet.0.commands (length loops)) (claim_fits names sheet.0.start) (turns_fit names (loop_numbers 1 loops) sheet.0.heads) false refl refl refl h
        (last_false (nat_eq sheet.0.commands (length loops)) (claim_fits names sheet.0.start) (turns_fit names (loop_numbers 1 loops) sheet.0.heads))

    other_functions : nat_eq x.functions functions ≡ false → IsOtherCompact t names loops functions
    other_functions h = no_functions_fit (ap (λ b. b && list_all (function_fits names) sheet.0.functions) (ap (λ k. nat_eq k functions) functions_long ∙ h))

    pub other_counts : (nat_eq x.commands (length loops) && nat_eq x.functions functions) ≡ false → IsOtherCompact t names loops functions
    other_counts = go (nat_eq x.commands (length loops)) refl
      where
        go : (b : Bool) → nat_eq x.commands (length loops) ≡ b → (b && nat_eq x.functions functions) ≡ false → IsOtherCompact t names loops functions
        go false e h = other_commands e
        go true e h = other_functions h

    module _ (all : x.loops ≡ length (loop_numbers 1 loops)) where
      pub no_turns : NoTurnsFit names (loop_numbers 1 loops) w → IsOtherCompact t names loops functions
      no_turns h = no_heads (h (sheet.0.heads, p.left) (ap (λ k. read_turns 4 0 k w) (sym all) ∙ p.turns))

      module _ (z : Text) (old rows : KeptRows) (entries : List (ℕ × value.Facts)) (r : ReadsTurns names (loop_numbers 1 loops) w old entries z rows) where
        pair : ◌≡◌ {A = List (ℕ × Claim) × Text} (r.read, z) (sheet.0.heads, p.left)
        pair = ok_same (sym r.reading ∙ ap (λ k. read_turns 4 0 k w) (sym all) ∙ p.turns)

        same_left : z ≡ p.left
        same_left = ap (λ (y : List (ℕ × Claim) × Text). y.1) pair

        pub no_functions : NoFunctionsFit names (4 + x.loops) x.functions z → IsOtherCompact t names loops functions
        no_functions h =
            let none : list_all (function_fits names) sheet.0.functions ≡ false = h (sheet.0.functions, []) (ap (read_lines function_in (4 + x.loops) 1 x.functions) same_left ∙ p.functions) in
            no_functions_fit (ap (λ b. nat_eq (length sheet.0.functions) functions && b) none ∙ and_false (nat_eq (length sheet.0.functions) functions))

        pub whole : (c : Compact) (fact : FactText) (none : KeptRows) → x.commands ≡ length loops → x.functions ≡ functions → c.commands ≡ x.commands → field.claim_of fact ≡ st → entries ≡ c.heads.entries
            → ReadsFacts names fact none c.start old → ReadsFunctions names (4 + x.loops) x.functions z rows c.functions.items c.rows → IsCompactOf t names loops functions c
        whole c fact none long count commands_are is e s q =
            let order = in_byte_order names in
            let good = compact_is_sheet t sheet.0 (compact_within t sheet.0 sheet.1) in
            let functions_are : ◌≡◌ {A = List FunctionClaims × Text} (q.read, q.left) (sheet.0.functions, []) = ok_same (sym q.reading ∙ ap (read_lines function_in (4 + x.loops) 1 x.functions) same_left ∙ p.functions) in
            let start_is : field.claim_of fact ≡ sheet.0.start = is ∙ sym p.start in
            let one : c.commands ≡ sheet.0.commands = commands_are ∙ sym p.commands in
            let two : claim_of order c.rows c.start ≡ sheet.0.start =
            s.lasting c.rows (stay_on old.rows rows.rows c.rows.rows r.stay q.stay) (ap is_writable start_is ∙ good.start) ∙ start_is in
            let three : turns_of order c.rows c.heads.entries ≡ sheet.0.heads = ap (turns_of order c.rows) (sym e) ∙ r.lasting c.rows q.stay ∙ ap (λ (y : List (ℕ × Claim) × Text). y.0) pair in
            let four : map (function_claims order c.rows) c.functions.items ≡ sheet.0.functions = q.lasting c.rows (λ i l. refl) ∙ ap (λ (y : List FunctionClaims × Text). y.0) functions_are in
            let claimed : sheet.0 ≡ compact_claims order c = sym (built one two three four) in
            let commands_good : nat_eq sheet.0.commands (length loops) ≡ true = let l : sheet.0.commands ≡ length loops = p.commands ∙ long in grind (arith, nat_tests) in
            let start_good : claim_fits names sheet.0.start ≡ true = ap (claim_fits names) (sym start_is) ∙ s.fit in
            let turns_good : turns_fit names (loop_numbers 1 loops) sheet.0.heads ≡ true = ap (λ (y : List (ℕ × Claim) × Text). turns_fit names (loop_numbers 1 loops) y.0) (sym pair) ∙ r.fit in
            let functions_good : list_all (function_fits names) sheet.0.functions ≡ true = ap (λ (y : List FunctionClaims × Text). list_all (function_fits names) y.0) (sym functions_are) ∙ q.fit in
            let number : nat_eq (length sheet.0.functions) functions ≡ true = let l : length sheet.0.functions ≡ functions = functions_long ∙ count in grind (arith, nat_tests) in
            record { claims = sheet.1 ∙ ap Ok claimed; fit = ap (compact_fits names loops functions) (sym claimed) ∙ rw (commands_good, start_good, turns_good, number, functions_good) refl }
          where
            built : {n m : ℕ} {s u : Claim} {hs gs : List (ℕ × Claim)} {fs es : List FunctionClaims} → n ≡ m → s ≡ u → hs ≡ gs → fs ≡ es
                → ◌≡◌ {A = CompactSheet} (record { commands = n; start = s; heads = hs; functions = fs }) (record { commands = m; start = u; heads = gs; functions = es })
            built a b c d = cc

-- The answer for a script

pub for_script : (t : Text) (script : Script) (names : List Text) (loops : List Bool) (functions : ℕ) (r : Result Compact Refusal) → AreLoops script loops → AnswersCompact t names loops functions r → ReadsCompact t script functions names r
for_script t script names loops functions (Ok c) a h = (loops, a, h)
for_script t script names loops functions (Err CertShape) a h = (loops, a, h)
for_script t script names loops functions (Err (CertSyntax k)) a h = h
for_script t script names loops functions (Err Memory) a h = tt
for_script t script names loops functions (Err TooLong) a h = absurd h
for_script t script names loops functions (Err (NulByte k)) a h = absurd h
for_script t script names loops functions (Err (Syntax f k)) a h = absurd h
for_script t script names loops functions (Err (LeftOut f k)) a h = absurd h
for_script t script names loops functions (Err (TooDeep k)) a h = absurd h
for_script t script names loops functions (Err TooMany) a h = absurd h
for_script t script names loops functions (Err (Profile f k)) a h = absurd h

-- an error of a part is the answer's
pub missed : (t : Text) (names : List Text) (loops : List Bool) (functions : ℕ) (P : Type 0) (e : Refusal) → (P → IsOtherCompact t names loops functions) → Misses P e → AnswersCompact t names loops functions (Err e)
missed t names loops functions P TooMany i h = absurd h
missed t names loops functions P Memory i h = tt
missed t names loops functions P TooLong i h = absurd h
missed t names loops functions P (NulByte a) i h = absurd h
missed t names loops functions P (Syntax x a) i h = absurd h
missed t names loops functions P (LeftOut x a) i h = absurd h
missed t names loops functions P (TooDeep a) i h = absurd h
missed t names loops functions P (Profile r a) i h = absurd h
missed t names loops functions P (CertSyntax a) i h = absurd h
missed t names loops functions P CertShape i h = i h

-- The answer of either version is that of the version that the first line gives

as_given : {A : Type 0} (f : A → GivenSheet) (r : Result A ℕ) → IsOk r → IsOk (given_as f r)
unfolding given_as
as_given f (Ok x) h = refl
as_given f (Err k) h = cc

-- an error, whatever else could be answered
pub same_error : (A B : Type 0) (x y : Refusal) → IsErrOf {T = A} (Err x) y → IsErrOf {T = B} (Err x) y
same_error A B x y e = let same : x ≡ y = cc in ap Err same

pub compact_is_read : (t : Text) → is_compact t ≡ true → IsOk (read_compact_text t) → IsOk (read_given t)
compact_is_read t is h = rw is (as_given form.Compact (read_compact_text t) h)

pub full_is_read : (t : Text) → is_compact t ≡ false → IsOk (read_text t) → IsOk (read_given t)
full_is_read t is h = rw is (as_given form.Full (read_text t) h)

module _ (t : Text) (script : Script) (names : List Text) (functions : ℕ) where
  pub compact_read : (c : Compact) → ReadsCompact t script functions names (Ok c) → ReadsGiven t script functions names (Ok (given.Compact c))
  unfolding given_claims given_fits
  compact_read c x = (x.0, x.1, record { claims = compact_given t (compact_claims (in_byte_order names) c) x.2.claims; fit = x.2.fit })

  pub compact_refused : is_compact t ≡ true → (e : Refusal) → ReadsCompact t script functions names (Err e) → ReadsGiven t script functions names (Err e)
  unfolding given_as given_fits
  compact_refused is CertShape x = (x.0, x.1, record { sheet = form.Compact x.2.sheet; claims = compact_given t x.2.sheet x.2.claims; misfit = x.2.misfit })
  compact_refused is (CertSyntax k) x = rw (is, x) refl
  compact_refused is Memory x = tt
  compact_refused is TooLong x = absurd x
  compact_refused is (NulByte k) x = absurd x
  compact_refused is (Syntax f k) x = absurd x
  compact_refused is (LeftOut f k) x = absurd x
  compact_refused is (TooDeep k) x = absurd x
  compact_refused is TooMany x = absurd x
  compact_refused is (Profile f k) x = absurd x

  pub full_read : (c : Certificate) → Reads t script functions names (Ok c) → ReadsGiven t script functions names (Ok (given.Full c))
  unfolding given_claims given_fits
  full_read c x = (x.0, x.1, record { claims = full_given t (sheet_of (in_byte_order names) c) x.2.claims; fit = x.2.fit })

  pub full_refused : is_compact t ≡ false → (e : Refusal) → Reads t script functions names (Err e) → ReadsGiven t script functions names (Err e)
  unfolding given_as given_fits
  full_refused is CertShape x = (x.0, x.1, record { sheet = form.Full x.2.sheet; claims = full_given t x.2.sheet x.2.claims; misfit = x.2.misfit })
  full_refused is (CertSyntax k) x = rw (is, x) refl
  full_refused is Memory x = tt
  full_refused is TooLong x = absurd x
  full_refused is (NulByte k) x = absurd x
  full_refused is (Syntax f k) x = absurd x
  full_refused is (LeftOut f k) x = absurd x
  full_refused is (TooDeep k) x = absurd x
  full_refused is TooMany x = absurd x
  full_refused is (Profile f k) x = absurd x
