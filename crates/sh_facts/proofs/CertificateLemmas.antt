-- The lines of a certificate, read one after the other.
use Rattle.std.proofs.Common.{◌≡◌, ℕ, suc, ◌+◌, ◌-◌, ◌<◌, ◌≤◌, nat_eq, Bool, true, false, ◌&&◌, List, [], ◌∷◌, ◌++◌, length, map, drop, get_or, append_assoc, append-nil, Option, Some, None, Ok, Err, refl, sym, ap, ap₂, ◌∙◌, arith}
use Rattle.std.specs.Borrow.{Bor}
use Rattle.std.specs.List.{list_all}
use Rattle.std.proofs.lemmas.Bool.Decides.{nat_tests}
use Rattle.std.proofs.lemmas.List.{drop_more, drop_all, length-map, length-append, map-append}
use Rattle.std.proofs.lemmas.List.Folds.{list_all-append}
use Rattle.indexmap.specs.IndexMap.{get}
use Rattle.sh_tree.specs.declared.refusal.Refusal.{Refusal}
use Rattle.sh_tree.specs.declared.refusal.Refusal.TheVariants.{TooLong, NulByte, Syntax, LeftOut, TooDeep, TooMany, Memory, Profile, CertSyntax, CertShape}
use Rattle.sh_tree.specs.declared.tree.Command.{Command}
use Rattle.sh_tree.specs.standard.program.Syntax.{Text}
use Rattle.sh_domain.specs.declared.certificate.Certificate.{Certificate}
use Rattle.sh_domain.specs.declared.certificate.Facts as value
use Rattle.sh_domain.specs.declared.certificate.Entry.{Entry}
use Rattle.sh_domain.specs.declared.certificate.FunctionEntry.{FunctionEntry}
use Rattle.sh_facts.specs.declared.forms.CommandTexts.{CommandTexts}
use Rattle.sh_facts.specs.declared.forms.FunctionTexts.{FunctionTexts}
use Rattle.sh_domain.specs.Certificates.{in_byte_order, commands_from, command_claims, function_claims}
use Rattle.sh_facts.specs.Fields as field
use Rattle.sh_facts.specs.Fields.{line_of, line_in}
use Rattle.sh_domain.specs.Forms.{Reading, behind, read_lines, cut_at, pieces, command_in, function_in}
use Rattle.sh_domain.specs.KeptRows.{KeptRows, Stay}
use Rattle.sh_domain.specs.Reading.{is_loop, command_fits, commands_fit, function_fits}
use Rattle.sh_domain.specs.Reading.{loops_of}
use Rattle.sh_facts.specs.ReadParts.{ReadsCommand, ReadsFunction, ReadsCommands, ReadsFunctions, NoneFit, NoFunctionsFit, Misfits, Misses}
use Rattle.sh_domain.specs.Sheets.{CommandClaims, FunctionClaims}
use Rattle.sh_domain.proofs.SpellingLemmas.{err_ok, none_some, map_some}
use Rattle.sh_domain.proofs.WritableLemmas.{command_writable, function_writable}
use Rattle.sh_facts.proofs.LineLemmas.{line_read, line_refused}
use Rattle.sh_facts.proofs.ReadingLemmas.{stay_on}
use Rattle.sh_domain.proofs.WritingLemmas.{commands_append}

-- Lines after others

unfoldable pub onto : {A : Type 0} → List A → Reading (List A) → Reading (List A)
onto xs r = behind r (λ y. Ok (xs ++ y.0, y.1))

pub onto_step : {A : Type 0} (xs : List A) (a : A) (r : Reading (List A)) → onto xs (behind r (λ y. Ok (a ∷ y.0, y.1))) ≡ onto (xs ++ a ∷ []) r
unfolding onto behind
onto_step xs a (Err k) = refl
onto_step xs a (Ok y) = ap (λ us. Ok (us, y.1)) (sym (append_assoc xs (a ∷ []) y.0))

pub onto_none : {A : Type 0} (r : Reading (List A)) → r ≡ onto [] r
unfolding onto behind
onto_none (Err k) = refl
onto_none (Ok y) = refl

pub onto_ok : {A : Type 0} (xs : List A) (r : Reading (List A)) (z : List A × Text) → onto xs r ≡ Ok z → (ys : List A) × (z.0 ≡ xs ++ ys)
unfolding onto behind
onto_ok xs (Err k) z e = absurd (err_ok e)
onto_ok {A} xs (Ok y) z e = let same : (xs ++ y.0, y.1) ≡ z = cc in (y.0, sym (ap (λ (u : List A × Text). u.0) same))

by_line : {A : Type 0} (f : Text → Option A) (o : Option (Text × Text)) (x : A × Text) → line_of f o ≡ Some x → (l : Text) × (f l ≡ Some x.0)
unfolding line_of
by_line f None x e = absurd (none_some e)
by_line {A} f (Some y) x e = let i = map_some {B = A × Text} (λ a. (a, y.1)) (f y.0) x e in (y.0, i.1 ∙ ap (λ (z : A × Text). Some z.0) i.2)

pub line_is : {A : Type 0} (f : Text → Option A) (t : Text) (x : A × Text) → line_in f t ≡ Some x → (l : Text) × (f l ≡ Some x.0)
line_is f t x e = by_line f (cut_at 10 t) x e

module _ {A : Type 0} (f : ℕ → Text → Option A) (first count j : ℕ) (t left : Text) (xs : List A) (lt : j < count)
    (inv : read_lines f first 1 count t ≡ onto xs (read_lines f (first + j) (1 + j) (count - j) left)) where
  more : count - j ≡ suc (count - (j + 1))
  more = omega arith

  pub read_on : (x : A × Text) → line_in (f (j + 1)) left ≡ Some x → read_lines f first 1 count t ≡ onto (xs ++ x.0 ∷ []) (read_lines f (first + (j + 1)) (1 + (j + 1)) (count - (j + 1)) x.1)
  unfolding read_lines behind
  read_on x e =
      let here : 1 + j ≡ j + 1 = omega arith in
      let line : first + j + 1 ≡ first + (j + 1) = omega arith in
      let next : j + 1 + 1 ≡ 1 + (j + 1) = omega arith in
      inv ∙ ap₂ (λ i n. onto xs (read_lines f (first + j) i n left)) here more
      ∙ ap (λ (r : Reading A). onto xs (behind r (λ x. behind (read_lines f (first + j + 1) (j + 1 + 1) (count - (j + 1)) x.1) (λ y. Ok (x.0 ∷ y.0, y.1))))) (line_read (f (j + 1)) (first + j) left x e)
      ∙ onto_step xs x.0 (read_lines f (first + j + 1) (j + 1 + 1) (count - (j + 1)) x.1)
      ∙ ap₂ (λ k i. onto (xs ++ x.0 ∷ []) (read_lines f k i (count - (j + 1)) x.1)) line next

  pub read_no_more : None ≡ line_in (f (j + 1)) left → (z : List A × Text) → read_lines f first 1 count t ≡ Ok z → ⊥
  unfolding read_lines behind onto
  read_no_more e z h =
      let here : 1 + j ≡ j + 1 = omega arith in
      let all : read_lines f first 1 count t ≡ Err (first + j) =
      inv ∙ ap₂ (λ i n. onto xs (read_lines f (first + j) i n left)) here more
      ∙ ap (λ (r : Reading A). onto xs (behind r (λ x. behind (read_lines f (first + j + 1) (j + 1 + 1) (count - (j + 1)) x.1) (λ y. Ok (x.0 ∷ y.0, y.1))))) (line_refused (f (j + 1)) (first + j) left (sym e)) in
      err_ok (sym all ∙ h)

read_all : {A : Type 0} (f : ℕ → Text → Option A) (first count j : ℕ) (t left : Text) (xs : List A) → count ≤ j
    → read_lines f first 1 count t ≡ onto xs (read_lines f (first + j) (1 + j) (count - j) left) → read_lines f first 1 count t ≡ Ok (xs, left)
unfolding read_lines onto behind
read_all f first count j t left xs le inv =
    let none : count - j ≡ 0 = omega arith in
    inv ∙ ap (λ n. onto xs (read_lines f (first + j) (1 + j) n left)) none ∙ ap (λ us. Ok (us, left)) (append-nil xs)

-- The lines of commands

pub record InCommands (names : List Text) (commands : List (Bor Command)) (t : Text) (j : ℕ) (left : Text) (rows : KeptRows) (entries : List Entry) (heads : ℕ → Option value.Facts) : Type 0 where
  pub claims : List CommandClaims
  pub reading : read_lines command_in 3 1 (length commands) t ≡ onto claims (read_lines command_in (3 + j) (1 + j) (length commands - j) left)
  pub fit : (later : List CommandClaims) → commands_fit names (loops_of commands) (claims ++ later) ≡ commands_fit names (loops_of (drop j commands)) later
  pub count : rows.count ≡ length names
  pub long : length entries ≡ j
  pub none : (k : ℕ) → j < k → heads k ≡ None
  pub lasting : (c : Certificate) → Stay rows.rows c.rows.rows → ((k : ℕ) → k ≤ j → get nat_eq c.heads k ≡ heads k) → commands_from (in_byte_order names) c 1 entries ≡ claims

pub commands_begin : (names : List Text) (commands : List (Bor Command)) (t : Text) (rows : KeptRows) (heads : ℕ → Option value.Facts) → rows.count ≡ length names → ((k : ℕ) → heads k ≡ None)
    → InCommands names commands t 0 t rows [] heads
unfolding commands_from
commands_begin names commands t rows heads n h = record {
  claims = [];
  reading = let whole : length commands - 0 ≡ length commands = omega arith in onto_none (read_lines command_in 3 1 (length commands) t) ∙ ap (λ n. onto [] (read_lines command_in 3 1 n t)) (sym whole);
  fit = λ later. refl;
  count = n;
  long = refl;
  none = λ k lt. h k;
  lasting = λ c s e. refl;
}

module _ (names : List Text) (commands : List (Bor Command)) (t : Text) (j : ℕ) (left : Text) (rows : KeptRows) (entries : List Entry) (heads : ℕ → Option value.Facts) (command : Bor Command) (x : CommandTexts) (rest : Text)
    (inv : InCommands names commands t j left rows entries heads) (lt : j < length commands) (item : command ≡ get_or commands j command) (line : line_in (command_in (j + 1)) left ≡ Some (field.command_of x, rest)) where
  loops_on : loops_of (drop j commands) ≡ is_loop command.now ∷ loops_of (drop (j + 1) commands)
  loops_on = ap loops_of (drop_more commands j command lt ∙ ap (λ (c : Bor Command). c ∷ drop (j + 1) commands) (sym item))

  fits_on : (later : List CommandClaims) → commands_fit names (loops_of commands) ((inv.claims ++ field.command_of x ∷ []) ++ later) ≡ (command_fits names (is_loop command.now) (field.command_of x) && commands_fit names (loops_of (drop (j + 1) commands)) later)
  unfolding commands_fit
  fits_on later =
      ap (commands_fit names (loops_of commands)) (append_assoc inv.claims (field.command_of x ∷ []) later) ∙ inv.fit (field.command_of x ∷ later)
      ∙ ap (λ ls. commands_fit names ls (field.command_of x ∷ later)) loops_on

  pub commands_on : (new : KeptRows) (e : Entry) (head : Option value.Facts) (after : ℕ → Option value.Facts) → ReadsCommand names x (is_loop command.now) rows e head new → (heads (j + 1) ≡ None → after (j + 1) ≡ head)
      → ((k : ℕ) → nat_eq (j + 1) k ≡ false → after k ≡ heads k) → InCommands names commands t (j + 1) rest new (entries ++ e ∷ []) after
  commands_on new e head after r put others =
      let writable = let l = line_is (command_in (j + 1)) left (field.command_of x, rest) line in command_writable (j + 1) (pieces 32 l.0) (field.command_of x) l.1 in
      record {
        claims = inv.claims ++ field.command_of x ∷ [];
        reading = read_on command_in 3 (length commands) j t left inv.claims lt inv.reading (field.command_of x, rest) line;
        fit = λ later. fits_on later ∙ ap (λ b. b && commands_fit names (loops_of (drop (j + 1) commands)) later) r.fit;
        count = r.count ∙ inv.count;
        long = length-append entries (e ∷ []) ∙ ap (λ n. n + 1) inv.long;
        none = λ k l. let apart : nat_eq (j + 1) k ≡ false = grind (arith, nat_tests) in others k apart ∙ inv.none k (omega (arith, l));
        lasting = λ c s same.
            let number : j + 1 ≡ 1 + length entries = let n = inv.long in omega (arith, n) in
            let at_end : get nat_eq c.heads (j + 1) ≡ head = same (j + 1) (omega arith) ∙ put (inv.none (j + 1) (omega arith)) in
            let before : (k : ℕ) → k ≤ j → get nat_eq c.heads k ≡ heads k = λ k l. let apart : nat_eq (j + 1) k ≡ false = grind (arith, nat_tests) in same k (omega (arith, l)) ∙ others k apart in
            commands_append (in_byte_order names) c 1 (j + 1) entries e number
            ∙ ap₂ (λ us h. us ++ command_claims (in_byte_order names) c.rows e h ∷ []) (inv.lasting c (stay_on rows.rows new.rows c.rows.rows r.stay s) before) at_end
            ∙ ap (λ (u : CommandClaims). inv.claims ++ u ∷ []) (r.lasting c.rows s writable);
      }

  pub command_misfits : command_fits names (is_loop command.now) (field.command_of x) ≡ false → NoneFit names (loops_of commands) t
  command_misfits none z e =
      let long : length (loops_of commands) ≡ length commands = length-map commands (λ (c : Bor Command). is_loop c.now) in
      let all : read_lines command_in 3 1 (length commands) t ≡ Ok z = ap (λ n. read_lines command_in 3 1 n t) (sym long) ∙ e in
      let on = read_on command_in 3 (length commands) j t left inv.claims lt inv.reading (field.command_of x, rest) line in
      let p = onto_ok (inv.claims ++ field.command_of x ∷ []) _ z (sym on ∙ all) in
      ap (commands_fit names (loops_of commands)) p.1 ∙ fits_on p.0 ∙ ap (λ b. b && commands_fit names (loops_of (drop (j + 1) commands)) p.0) none

pub no_command : (names : List Text) (commands : List (Bor Command)) (t : Text) (j : ℕ) (left : Text) (rows : KeptRows) (entries : List Entry) (heads : ℕ → Option value.Facts) → InCommands names commands t j left rows entries heads
    → j < length commands → None ≡ line_in (command_in (j + 1)) left → NoneFit names (loops_of commands) t
no_command names commands t j left rows entries heads inv lt none z e =
    let long : length (loops_of commands) ≡ length commands = length-map commands (λ (c : Bor Command). is_loop c.now) in
    let all : read_lines command_in 3 1 (length commands) t ≡ Ok z = ap (λ n. read_lines command_in 3 1 n t) (sym long) ∙ e in
    absurd (read_no_more command_in 3 (length commands) j t left inv.claims lt inv.reading none z all)

pub commands_end : (names : List Text) (commands : List (Bor Command)) (t : Text) (j : ℕ) (left : Text) (rows : KeptRows) (entries : List Entry) (heads : ℕ → Option value.Facts) → InCommands names commands t j left rows entries heads
    → length commands ≤ j → ReadsCommands names (loops_of commands) t entries heads left rows
unfolding commands_fit
commands_end names commands t j left rows entries heads inv le =
    let long : length (loops_of commands) ≡ length commands = length-map commands (λ (c : Bor Command). is_loop c.now) in
    record {
      claims = inv.claims;
      reading = ap (λ n. read_lines command_in 3 1 n t) long ∙ read_all command_in 3 (length commands) j t left inv.claims le inv.reading;
      fit = ap (commands_fit names (loops_of commands)) (sym (append-nil inv.claims)) ∙ inv.fit [] ∙ ap (λ (cs : List (Bor Command)). commands_fit names (loops_of cs) []) (drop_all j commands le);
      count = inv.count;
      lasting = λ c s same. inv.lasting c s (λ k l. same k);
    }

-- The lines of functions

pub record InFunctions (names : List Text) (first count : ℕ) (t : Text) (j : ℕ) (left : Text) (old rows : KeptRows) (entries : List FunctionEntry) : Type 0 where
  pub claims : List FunctionClaims
  pub reading : read_lines function_in first 1 count t ≡ onto claims (read_lines function_in (first + j) (1 + j) (count - j) left)
  pub fit : list_all (function_fits names) claims ≡ true
  pub same : rows.count ≡ length names
  pub stay : Stay old.rows rows.rows
  pub lasting : (later : KeptRows) → Stay rows.rows later.rows → map (function_claims (in_byte_order names) later) entries ≡ claims

pub functions_begin : (names : List Text) (first count : ℕ) (t : Text) (rows : KeptRows) → rows.count ≡ length names → InFunctions names first count t 0 t rows rows []
functions_begin names first count t rows n = record {
  claims = [];
  reading =
      let whole : count - 0 ≡ count = omega arith in
      let here : first + 0 ≡ first = omega arith in
      onto_none (read_lines function_in first 1 count t) ∙ ap₂ (λ k n. onto [] (read_lines function_in k 1 n t)) (sym here) (sym whole);
  fit = refl;
  same = n;
  stay = λ i l. refl;
  lasting = λ later s. refl;
}

module _ (names : List Text) (first count : ℕ) (t : Text) (j : ℕ) (left : Text) (old rows : KeptRows) (entries : List FunctionEntry) (x : FunctionTexts) (rest : Text)
    (inv : InFunctions names first count t j left old rows entries) (lt : j < count) (line : line_in (function_in (j + 1)) left ≡ Some (field.function_of x, rest)) where
  pub functions_on : (new : KeptRows) (e : FunctionEntry) → ReadsFunction names x rows e new → InFunctions names first count t (j + 1) rest old new (entries ++ e ∷ [])
  functions_on new e r =
      let writable = let l = line_is (function_in (j + 1)) left (field.function_of x, rest) line in function_writable (j + 1) (pieces 32 l.0) (field.function_of x) l.1 in
      record {
        claims = inv.claims ++ field.function_of x ∷ [];
        reading = read_on function_in first count j t left inv.claims lt inv.reading (field.function_of x, rest) line;
        fit = list_all-append (function_fits names) inv.claims (field.function_of x ∷ []) ∙ rw (inv.fit, r.fit) refl;
        same = r.count ∙ inv.same;
        stay = stay_on old.rows rows.rows new.rows inv.stay r.stay;
        lasting = λ later s.
            map-append (function_claims (in_byte_order names) later) entries (e ∷ [])
            ∙ ap₂ (λ (us : List FunctionClaims) (u : FunctionClaims). us ++ u ∷ []) (inv.lasting later (stay_on rows.rows new.rows later.rows r.stay s)) (r.lasting later s writable);
      }

  pub function_misfits : function_fits names (field.function_of x) ≡ false → NoFunctionsFit names first count t
  function_misfits none z e =
      let on = read_on function_in first count j t left inv.claims lt inv.reading (field.function_of x, rest) line in
      let p = onto_ok (inv.claims ++ field.function_of x ∷ []) _ z (sym on ∙ e) in
      let front : list_all (function_fits names) (inv.claims ++ field.function_of x ∷ []) ≡ false = list_all-append (function_fits names) inv.claims (field.function_of x ∷ []) ∙ rw (inv.fit, none) refl in
      ap (list_all (function_fits names)) p.1 ∙ list_all-append (function_fits names) (inv.claims ++ field.function_of x ∷ []) p.0
      ∙ ap (λ b. b && list_all (function_fits names) p.0) front

pub no_function : (names : List Text) (first count : ℕ) (t : Text) (j : ℕ) (left : Text) (old rows : KeptRows) (entries : List FunctionEntry) → InFunctions names first count t j left old rows entries
    → j < count → None ≡ line_in (function_in (j + 1)) left → NoFunctionsFit names first count t
no_function names first count t j left old rows entries inv lt none z e = absurd (read_no_more function_in first count j t left inv.claims lt inv.reading none z e)

pub functions_end : (names : List Text) (first count : ℕ) (t : Text) (j : ℕ) (left : Text) (old rows : KeptRows) (entries : List FunctionEntry) → InFunctions names first count t j left old rows entries
    → count ≤ j → ReadsFunctions names first count t old entries rows
functions_end names first count t j left old rows entries inv le = record {
  read = inv.claims;
  left = left;
  reading = read_all function_in first count j t left inv.claims le inv.reading;
  fit = inv.fit;
  sized = inv.same;
  stay = inv.stay;
  lasting = inv.lasting;
}

-- what is said where the answer is that nothing fits
pub missing : (f : Bool) (P : Type 0) (e : Refusal) → (f ≡ false → P) → Misfits f e → Misses P e
missing f P TooMany i h = absurd h
missing f P Memory i h = tt
missing f P TooLong i h = absurd h
missing f P (NulByte a) i h = absurd h
missing f P (Syntax x a) i h = absurd h
missing f P (LeftOut x a) i h = absurd h
missing f P (TooDeep a) i h = absurd h
missing f P (Profile r a) i h = absurd h
missing f P (CertSyntax a) i h = absurd h
missing f P CertShape i h = i h
