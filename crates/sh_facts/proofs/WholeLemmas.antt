-- The whole text of a certificate, and whether it fits a script.
use Rattle.std.proofs.Common.{◌≡◌, ℕ, suc, ◌+◌, ◌<◌, ◌≤◌, nat_eq, nat_le, Bool, true, false, ◌&&◌, List, [], ◌∷◌, length, map, Option, Result, Ok, Err, refl, sym, ap, ap₂, ◌∙◌, arith}
use Rattle.std.specs.List.{list_all}
use Rattle.std.specs.Prelude.{IsOk}
use Rattle.std.proofs.lemmas.Bool.{and_parts}
use Rattle.std.proofs.lemmas.Bool.Decides.{nat_tests}
use Rattle.sh_tree.specs.declared.refusal.Refusal.{Refusal}
use Rattle.sh_tree.specs.declared.refusal.Refusal.TheVariants.{TooLong, NulByte, Syntax, LeftOut, TooDeep, TooMany, Memory, Profile, CertSyntax, CertShape}
use Rattle.sh_tree.specs.declared.tree.Script.{Script}
use Rattle.sh_tree.specs.standard.program.Syntax.{Text}
use Rattle.sh_domain.specs.declared.certificate.Certificate.{Certificate}
use Rattle.sh_domain.specs.declared.certificate.Entry.{Entry}
use Rattle.sh_domain.specs.declared.certificate.Facts as value
use Rattle.sh_domain.specs.declared.limits.TheConstants.{MAX_CERTIFICATE}
use Rattle.indexmap.specs.IndexMap.{get}
use Rattle.sh_domain.specs.Certificates.{in_byte_order, commands_from, function_claims, sheet_of}
use Rattle.sh_facts.specs.Fields.{left_of, outcome}
use Rattle.sh_domain.specs.Forms.{read_line, read_lines, is_first, counts_in, command_in, function_in, read_sheet, read_text}
use Rattle.sh_domain.specs.KeptRows.{KeptRows}
use Rattle.sh_domain.specs.Reading.{AreLoops, IsTextOf, IsOther, Answers, Reads, fits, commands_fit, functions_fit, function_fits}
use Rattle.sh_facts.specs.ReadParts.{ReadsCommands, ReadsFunctions, NoneFit, NoFunctionsFit, Misses}
use Rattle.sh_domain.specs.Sheets.{Sheet, CommandClaims, FunctionClaims, command_fields, function_fields}
use Rattle.sh_domain.proofs.SpellingLemmas.{err_ok, behind_ok, ended_some, lines_spelled, command_spelled, function_spelled}
use Rattle.sh_domain.proofs.WritableLemmas.{short, within, ok_same, ok_err}

-- The form

pub true_false : true ≡ false → ⊥
true_false e = cc

false_true : false ≡ true → ⊥
false_true e = cc

pub and_false : (a : Bool) → (a && false) ≡ false
and_false true = refl
and_false false = refl

pub has_sheet : {A : Type 0} (r : Result A ℕ) → outcome r ≡ Ok (tt {0}) → (s : A) × (r ≡ Ok s)
unfolding outcome
has_sheet (Ok s) e = (s, refl)
has_sheet (Err k) e = absurd (err_ok e)

pub refused_so : {A : Type 0} (r : Result A ℕ) (k : ℕ) → outcome r ≡ Err k → r ≡ Err k
unfolding outcome
refused_so (Ok s) k e = absurd (ok_err e)
refused_so (Err j) k e = let same : j ≡ k = cc in ap Err same

pub too_long : (t : Text) → MAX_CERTIFICATE < length t → read_text t ≡ Err 0
unfolding read_text
too_long t l = let past : nat_le (length t) MAX_CERTIFICATE ≡ false = grind (arith, nat_tests) in rw past refl

pub faulty : (t : Text) (k : ℕ) → length t ≤ MAX_CERTIFICATE → Err k ≡ outcome (read_sheet t) → read_text t ≡ Err k
faulty t k l e = short t l ∙ refused_so (read_sheet t) k (sym e)

pub has_form : (t : Text) → length t ≤ MAX_CERTIFICATE → Ok (tt {0}) ≡ outcome (read_sheet t) → outcome (read_text t) ≡ Ok (tt {0})
has_form t l e = ap outcome (short t l) ∙ sym e

pub is_read : {A : Type 0} (r : Result A ℕ) → outcome r ≡ Ok (tt {0}) → IsOk r
is_read r e = let s = has_sheet r e in rw s.1 refl

-- The parts of a text that has the form

record Parts (s : Sheet) (v : Text) (n m : ℕ) : Type 0 where
  left : Text
  commands : read_lines command_in 3 1 n v ≡ Ok (s.commands, left)
  functions : read_lines function_in (3 + n) 1 m left ≡ Ok (s.functions, [])

parts : (t u v : Text) (n m : ℕ) (s : Sheet) → read_sheet t ≡ Ok s → left_of (read_line is_first 1 t) ≡ Ok u → read_line counts_in 2 u ≡ Ok ((n, m), v) → Parts s v n m
unfolding read_sheet left_of
parts t u v n m s e first counts =
    let a = behind_ok (read_line is_first 1 t) _ s e in
    let b = behind_ok (read_line counts_in 2 a.0.1) _ s a.2 in
    let c = behind_ok (read_lines command_in 3 1 b.0.0.0 b.0.1) _ s b.2 in
    let d = behind_ok (read_lines function_in (3 + b.0.0.0) 1 b.0.0.1 c.0.1) _ s c.2 in
    let last = ended_some (3 + b.0.0.0 + b.0.0.1) (record { commands = c.0.0; functions = d.0.0 }) s d.0.1 d.2 in
    let behind_first : a.0.1 ≡ u = ok_same (sym (ap left_of a.1) ∙ first) in
    let read : b.0 ≡ ((n, m), v) = ok_same (sym b.1 ∙ ap (read_line counts_in 2) behind_first ∙ counts) in
    record {
      left = c.0.1;
      commands = sym (ap (λ (x : (ℕ × ℕ) × Text). read_lines command_in 3 1 x.0.0 x.1) read) ∙ c.1 ∙ ap (λ (x : Sheet). Ok (x.commands, c.0.1)) last.0;
      functions =
          sym (ap (λ (x : (ℕ × ℕ) × Text). read_lines function_in (3 + x.0.0) 1 x.0.1 c.0.1) read) ∙ d.1
          ∙ ap₂ (λ (x : Sheet) (y : Text). Ok (x.functions, y)) last.0 last.1;
    }

lengths : (names : List Text) (loops : List Bool) (cs : List CommandClaims) → commands_fit names loops cs ≡ true → length cs ≡ length loops
unfolding commands_fit
lengths names [] [] h = refl
lengths names [] (c ∷ cs) h = absurd (false_true h)
lengths names (l ∷ ls) [] h = absurd (false_true h)
lengths names (l ∷ ls) (c ∷ cs) h = ap suc (lengths names ls cs (and_parts _ (commands_fit names ls cs) h).1)

module _ (t : Text) (names : List Text) (loops : List Bool) (functions : ℕ) (form : outcome (read_text t) ≡ Ok (tt {0})) where
  sheet : (s : Sheet) × (read_text t ≡ Ok s)
  sheet = has_sheet (read_text t) form

  pub has_first : (k : ℕ) → left_of (read_line is_first 1 t) ≡ Err k → ⊥
  unfolding read_sheet left_of
  has_first k e =
      let a = behind_ok (read_line is_first 1 t) _ sheet.0 (within t sheet.0 sheet.1) in
      ok_err (sym (ap left_of a.1) ∙ e)

  pub has_counts : (u : Text) (k : ℕ) → left_of (read_line is_first 1 t) ≡ Ok u → read_line counts_in 2 u ≡ Err k → ⊥
  unfolding read_sheet left_of
  has_counts u k first e =
      let a = behind_ok (read_line is_first 1 t) _ sheet.0 (within t sheet.0 sheet.1) in
      let b = behind_ok (read_line counts_in 2 a.0.1) _ sheet.0 a.2 in
      let behind_first : a.0.1 ≡ u = ok_same (sym (ap left_of a.1) ∙ first) in
      ok_err (sym b.1 ∙ ap (read_line counts_in 2) behind_first ∙ e)

  other : fits names loops functions sheet.0 ≡ false → IsOther t names loops functions
  other h = record { sheet = sheet.0; claims = sheet.1; misfit = h }

  module _ (u v : Text) (n m : ℕ) (first : left_of (read_line is_first 1 t) ≡ Ok u) (counts : read_line counts_in 2 u ≡ Ok ((n, m), v)) where
    p : Parts sheet.0 v n m
    p = parts t u v n m sheet.0 (within t sheet.0 sheet.1) first counts

    commands_long : length sheet.0.commands ≡ n
    commands_long = (lines_spelled command_in command_fields command_spelled 3 1 n v (sheet.0.commands, p.left) p.commands).1

    functions_long : length sheet.0.functions ≡ m
    functions_long = (lines_spelled function_in function_fields function_spelled (3 + n) 1 m p.left (sheet.0.functions, []) p.functions).1

    pub other_commands : nat_eq n (length loops) ≡ false → IsOther t names loops functions
    other_commands h = other (go (commands_fit names loops sheet.0.commands) refl)
      where
        go : (b : Bool) → commands_fit names loops sheet.0.commands ≡ b → (b && functions_fit names functions sheet.0.functions) ≡ false
        go false e = refl
        go true e = absurd (let same : n ≡ length loops = sym commands_long ∙ lengths names loops sheet.0.commands e in let w : nat_eq n (length loops) ≡ true = grind (arith, nat_tests) in true_false (sym w ∙ h))

    pub other_functions : nat_eq m functions ≡ false → IsOther t names loops functions
    other_functions h =
        let w : nat_eq (length sheet.0.functions) functions ≡ false = ap (λ k. nat_eq k functions) functions_long ∙ h in
        other (ap (λ b. commands_fit names loops sheet.0.commands && (b && list_all (function_fits names) sheet.0.functions)) w ∙ and_false (commands_fit names loops sheet.0.commands))

    module _ (all : n ≡ length loops) where
      pub no_commands : NoneFit names loops v → IsOther t names loops functions
      no_commands h =
          let none : commands_fit names loops sheet.0.commands ≡ false = h (sheet.0.commands, p.left) (ap (λ k. read_lines command_in 3 1 k v) (sym all) ∙ p.commands) in
          other (ap (λ b. b && functions_fit names functions sheet.0.functions) none)

      module _ (w : Text) (entries : List Entry) (heads : ℕ → Option value.Facts) (rows : KeptRows) (r : ReadsCommands names loops v entries heads w rows) where
        pair : ◌≡◌ {A = List CommandClaims × Text} (r.claims, w) (sheet.0.commands, p.left)
        pair = ok_same (sym r.reading ∙ ap (λ k. read_lines command_in 3 1 k v) (sym all) ∙ p.commands)

        pub no_functions : NoFunctionsFit names (3 + n) m w → IsOther t names loops functions
        no_functions h =
            let same : w ≡ p.left = ap (λ (x : List CommandClaims × Text). x.1) pair in
            let none : list_all (function_fits names) sheet.0.functions ≡ false = h (sheet.0.functions, []) (ap (read_lines function_in (3 + n) 1 m) same ∙ p.functions) in
            other (ap (λ b. commands_fit names loops sheet.0.commands && (nat_eq (length sheet.0.functions) functions && b)) none
            ∙ ap (λ b. commands_fit names loops sheet.0.commands && b) (and_false (nat_eq (length sheet.0.functions) functions)) ∙ and_false (commands_fit names loops sheet.0.commands))

        pub whole : (c : Certificate) → m ≡ functions → entries ≡ c.entries.items → ((k : ℕ) → get nat_eq c.heads k ≡ heads k) → ReadsFunctions names (3 + n) m w rows c.functions.items c.rows → IsTextOf t names loops functions c
        whole c count e heads_are q =
            let same : w ≡ p.left = ap (λ (x : List CommandClaims × Text). x.1) pair in
            let functions_are : ◌≡◌ {A = List FunctionClaims × Text} (q.read, q.left) (sheet.0.functions, []) = ok_same (sym q.reading ∙ ap (read_lines function_in (3 + n) 1 m) same ∙ p.functions) in
            let first : commands_from (in_byte_order names) c 1 c.entries.items ≡ sheet.0.commands =
            ap (commands_from (in_byte_order names) c 1) (sym e) ∙ r.lasting c q.stay heads_are ∙ ap (λ (x : List CommandClaims × Text). x.0) pair in
            let second : map (function_claims (in_byte_order names) c.rows) c.functions.items ≡ sheet.0.functions = q.lasting c.rows (λ i l. refl) ∙ ap (λ (x : List FunctionClaims × Text). x.0) functions_are in
            let claimed : sheet.0 ≡ sheet_of (in_byte_order names) c = sym (ap₂ (λ (x : List CommandClaims) (y : List FunctionClaims). record { commands = x; functions = y }) first second) in
            let commands_good : commands_fit names loops sheet.0.commands ≡ true = ap (λ (x : List CommandClaims × Text). commands_fit names loops x.0) (sym pair) ∙ r.fit in
            let functions_good : list_all (function_fits names) sheet.0.functions ≡ true = ap (λ (x : List FunctionClaims × Text). list_all (function_fits names) x.0) (sym functions_are) ∙ q.fit in
            let number : nat_eq (length sheet.0.functions) functions ≡ true = let l : length sheet.0.functions ≡ functions = functions_long ∙ count in grind (arith, nat_tests) in
            record { claims = sheet.1 ∙ ap Ok claimed; fit = ap (fits names loops functions) (sym claimed) ∙ rw (commands_good, number, functions_good) refl }

-- The answer for a script

pub for_script : (t : Text) (script : Script) (names : List Text) (loops : List Bool) (functions : ℕ) (r : Result Certificate Refusal) → AreLoops script loops → Answers t names loops functions r → Reads t script functions names r
for_script t script names loops functions (Ok c) a h = (loops, a, h)
for_script t script names loops functions (Err CertShape) a h = (loops, a, h)
for_script t script names loops functions (Err (CertSyntax k)) a h = h
for_script t script names loops functions (Err Memory) a h = tt
for_script t script names loops functions (Err TooLong) a h = absurd h
for_script t script names loops functions (Err (NulByte k)) a h = absurd h
for_script t script names loops functions (Err (Syntax f k)) a h = absurd h
for_script t script names loops functions (Err (LeftOut f k)) a h = absurd h
for_script t script names loops functions (Err (TooDeep k)) a h = absurd h
for_script t script names loops functions (Err TooMany) a h = absurd h
for_script t script names loops functions (Err (Profile f k)) a h = absurd h

-- an error of a part is the answer's
pub missed : (t : Text) (names : List Text) (loops : List Bool) (functions : ℕ) (P : Type 0) (e : Refusal) → (P → IsOther t names loops functions) → Misses P e → Answers t names loops functions (Err e)
missed t names loops functions P TooMany i h = absurd h
missed t names loops functions P Memory i h = tt
missed t names loops functions P TooLong i h = absurd h
missed t names loops functions P (NulByte a) i h = absurd h
missed t names loops functions P (Syntax x a) i h = absurd h
missed t names loops functions P (LeftOut x a) i h = absurd h
missed t names loops functions P (TooDeep a) i h = absurd h
missed t names loops functions P (Profile r a) i h = absurd h
missed t names loops functions P (CertSyntax a) i h = absurd h
missed t names loops functions P CertShape i h = i h
