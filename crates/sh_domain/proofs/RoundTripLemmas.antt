-- What is written of a certificate that has a text reads back, and what is read is written again.
use Rattle.std.proofs.Common.{◌≡◌, ℕ, zero, suc, ◌+◌, ◌≤◌, nat_eq, nat_le, Bool, true, false, ◌&&◌, if◌then◌else◌, List, [], ◌∷◌, length, map, Option, Some, None, option_map, Result, Ok, Err, refl, sym, ap, ◌∙◌, subst, arith, codes}
use Rattle.std.specs.List.{AllByRecursion, filter, list_all}
use Rattle.std.specs.Str.{bytes_eq}
use Rattle.std.proofs.lemmas.Bool.{and_parts}
use Rattle.std.proofs.lemmas.Bool.Decides.{nat_tests}
use Rattle.std.proofs.lemmas.List.{length-map}
use Rattle.std.proofs.lemmas.List.Elements.{recursion_from_All}
use Rattle.indexmap.specs.IndexMap.{get}
use Rattle.sh_tree.specs.declared.refusal.Refusal.{Refusal}
use Rattle.sh_tree.specs.declared.refusal.Refusal.TheVariants.{TooLong, NulByte, Syntax, LeftOut, TooDeep, TooMany, Memory, Profile, CertSyntax, CertShape}
use Rattle.sh_tree.specs.declared.tree.Script.{Script}
use Rattle.sh_tree.specs.standard.language.Bytes.{is_name}
use Rattle.sh_tree.specs.standard.program.Syntax.{Text}
use Rattle.sh_domain.specs.declared.certificate.Certificate.{Certificate}
use Rattle.sh_domain.specs.declared.certificate.Drops.{Drops}
use Rattle.sh_domain.specs.declared.certificate.Entry.{Entry}
use Rattle.sh_domain.specs.declared.certificate.Facts as value
use Rattle.sh_domain.specs.declared.certificate.Facts.TheVariants as value_kind
use Rattle.sh_domain.specs.declared.certificate.FunctionEntry.{FunctionEntry}
use Rattle.sh_domain.specs.declared.rows.RowId.{RowId}
use Rattle.sh_domain.specs.Certificates.{in_byte_order, names_at, claim_of, drops_of, command_claims, commands_from, function_claims}
use Rattle.sh_domain.specs.Forms.{is_variable, is_rising, are_rising, both, number_in, counts_of, counts_in, command_in, function_in, pieces, read_line, read_lines, is_first, read_sheet, read_text}
use Rattle.sh_domain.specs.KeptRows.{KeptRows, holds_at}
use Rattle.sh_domain.specs.Names.{are_distinct}
use Rattle.sh_domain.specs.Reading.{Reads, fits}
use Rattle.sh_domain.specs.RoundTrips.{RowPasses, SetsPass, FactsPass, EntryPasses, FunctionPasses, HasText, claimed, written, Claims, FitsScript, WrittenReadsBack, ReadIsWritten}
use Rattle.sh_domain.specs.Sheets.{Sheet, precedes, certificate_of, certificate_text, command_fields, function_fields}
use Rattle.sh_domain.specs.Spelling.{is_writable, is_writable_head, are_writable, is_command, is_function, IsSheet}
use Rattle.sh_domain.proofs.WritableLemmas.{command_writable, function_writable}
use Rattle.sh_domain.proofs.ReadBackLemmas.{read_back}
use Rattle.sh_domain.proofs.RowReadLemmas.{rises, rises_rising, IsAt, names_of, order_at, order_rises}
use Rattle.sh_domain.proofs.SpellingLemmas.{none_some, if_some, both_some, behind_ok, number_spelled, line_spelled, lines_spelled, command_spelled, function_spelled, ended_some, spelled}
use Rattle.sh_domain.proofs.WritableLemmas.{short, within, ok_same, ok_err}
use Rattle.sh_domain.proofs.WritingLemmas.{length_commands}

pub true_false : true ≡ false → ⊥
true_false e = cc

-- The names of a row

filtered_all : (q : Text → Bool) (f : ℕ × Text → Bool) (xs : List (ℕ × Text)) → list_all q (names_of xs) ≡ true → list_all q (names_of (filter f xs)) ≡ true
filtered_all q f [] h = refl
filtered_all q f (x ∷ xs) h = let p = and_parts (q x.1) (list_all q (names_of xs)) h in go (f x) p.0 (filtered_all q f xs p.1)
  where
    go : (b : Bool) → q x.1 ≡ true → list_all q (names_of (filter f xs)) ≡ true → list_all q (names_of (if b then x ∷ filter f xs else filter f xs)) ≡ true
    go true e r = rw e r
    go false e r = r

pub filtered_rises : (f : ℕ × Text → Bool) (xs : List (ℕ × Text)) → rises (names_of xs) ≡ true → rises (names_of (filter f xs)) ≡ true
unfolding rises
filtered_rises f [] h = refl
filtered_rises f (x ∷ xs) h =
    let p = and_parts (list_all (precedes x.1) (names_of xs)) (rises (names_of xs)) h in
    go (f x) (filtered_all (precedes x.1) f xs p.0) (filtered_rises f xs p.1)
  where
    go : (b : Bool) → list_all (precedes x.1) (names_of (filter f xs)) ≡ true → rises (names_of (filter f xs)) ≡ true → rises (names_of (if b then x ∷ filter f xs else filter f xs)) ≡ true
    go true e r = rw e r
    go false e r = r

pub passing : (q : Text → Bool) (f : ℕ × Text → Bool) (names : List Text) (xs : List (ℕ × Text)) → ((x : ℕ × Text) → IsAt names x → f x ≡ true → q x.1 ≡ true) → AllByRecursion (IsAt names) xs
    → list_all q (names_of (filter f xs)) ≡ true
passing q f names [] h a = refl
passing q f names (x ∷ xs) h a = go (f x) refl (passing q f names xs h a.1)
  where
    go : (b : Bool) → f x ≡ b → list_all q (names_of (filter f xs)) ≡ true → list_all q (names_of (if b then x ∷ filter f xs else filter f xs)) ≡ true
    go true e r = rw (h x a.0 e) r
    go false e r = r

-- What a certificate claims may be written

module _ (names : List Text) (rows : KeptRows) (distinct : are_distinct names ≡ true) where
  row_rises : (q : Text → Bool) (id : RowId) → RowPasses q names rows id → are_rising q (names_at (in_byte_order names) rows id) ≡ true
  row_rises q id h =
      let held : ℕ × Text → Bool = λ x. holds_at rows.rows id.index x.0 in
      let all : list_all q (names_of (filter held (in_byte_order names))) ≡ true = passing q held names (in_byte_order names) (λ x a e. h x.0 x.1 a e) (order_at names) in
      let rising : is_rising (names_of (filter held (in_byte_order names))) ≡ true =
      rises_rising (names_of (filter held (in_byte_order names))) (filtered_rises held (in_byte_order names) (order_rises names distinct)) in
      rw all rising

  sets_rise : (d : Drops) → SetsPass names rows d.vars d.functions → are_writable (drops_of (in_byte_order names) rows d) ≡ true
  sets_rise d h = rw (row_rises is_variable d.vars h.vars) (row_rises is_name d.functions h.functions)

  pub fact_rises : (f : value.Facts) → FactsPass names rows f → is_writable (claim_of (in_byte_order names) rows f) ≡ true
  unfolding FactsPass is_writable claim_of
  fact_rises value_kind.NotReached h = refl
  fact_rises (value_kind.Known v f a) h =
      let few : a ≤ 65535 = h.1 in
      let small : nat_le a 65535 ≡ true = grind (arith, nat_tests) in
      rw (row_rises is_variable v h.0.vars, row_rises is_name f h.0.functions) small

  head_rises : (o : Option value.Facts) → ((f : value.Facts) → o ≡ Some f → FactsPass names rows f) → is_writable_head (option_map (claim_of (in_byte_order names) rows) o) ≡ true
  unfolding is_writable_head
  head_rises None h = refl
  head_rises (Some f) h = fact_rises f (h f refl)

  entry_rises : (e : Entry) (head : Option value.Facts) → EntryPasses names rows e → ((f : value.Facts) → head ≡ Some f → FactsPass names rows f)
      → is_command (command_claims (in_byte_order names) rows e head) ≡ true
  entry_rises e head h k = rw (fact_rises e.before h.before, fact_rises e.zero h.zero, fact_rises e.nonzero h.nonzero) (head_rises head k)

  function_rises : (e : FunctionEntry) → FunctionPasses names rows e → is_function (function_claims (in_byte_order names) rows e) ≡ true
  function_rises e h = rw (fact_rises e.before h.before, sets_rise e.drops h.drops, fact_rises e.zero h.zero) (fact_rises e.nonzero h.nonzero)

  pub functions_rise : (es : List FunctionEntry) → AllByRecursion (FunctionPasses names rows) es → list_all is_function (map (function_claims (in_byte_order names) rows) es) ≡ true
  functions_rise [] h = refl
  functions_rise (e ∷ es) h = rw (function_rises e h.0) (functions_rise es h.1)

commands_rise : (names : List Text) (c : Certificate) → HasText names c → (k : ℕ) (es : List Entry) → AllByRecursion (EntryPasses names c.rows) es → list_all is_command (commands_from (in_byte_order names) c k es) ≡ true
unfolding commands_from
commands_rise names c h k [] a = refl
commands_rise names c h k (e ∷ es) a = rw (entry_rises names c.rows h.distinct e (get nat_eq c.heads k) a.0 (h.heads k)) (commands_rise names c h (k + 1) es a.1)

pub few : (n m : ℕ) → n ≡ m → m ≤ 65535 → nat_le n 65535 ≡ true
few n m e l = grind (arith, nat_tests)

pub written_rises : (names : List Text) (c : Certificate) → HasText names c → IsSheet (claimed names c)
written_rises names c h = record {
  commands = commands_rise names c h 1 c.entries.items (recursion_from_All (EntryPasses names c.rows) c.entries.items h.entries);
  functions = functions_rise names c.rows h.distinct c.functions.items (recursion_from_All (FunctionPasses names c.rows) c.functions.items h.functions);
  few_commands = few (length (commands_from (in_byte_order names) c 1 c.entries.items)) (length c.entries.items) (length_commands (in_byte_order names) c 1 c.entries.items) h.few_commands;
  few_functions = few (length (map (function_claims (in_byte_order names) c.rows) c.functions.items)) (length c.functions.items) (length-map c.functions.items (function_claims (in_byte_order names) c.rows)) h.few_functions;
}

-- What the text of a sheet is read as, for a script that it fits

module _ (names : List Text) (c : Certificate) (t : Script) (functions : ℕ) (same : read_text (written names c) ≡ Ok (claimed names c)) (fit : FitsScript t functions names c) where
  answered : (r : Result Certificate Refusal) → Reads (written names c) t functions names r → Claims names (claimed names c) r
  answered (Ok d) x = ok_same (sym x.2.claims ∙ same)
  answered (Err CertShape) x =
      let is : x.2.sheet ≡ claimed names c = ok_same (sym x.2.claims ∙ same) in
      true_false (sym (fit x.0 x.1) ∙ ap (fits names x.0 functions) (sym is) ∙ x.2.misfit)
  answered (Err (CertSyntax k)) x = ok_err (sym same ∙ x)
  answered (Err Memory) x = tt
  answered (Err TooLong) x = x
  answered (Err (NulByte k)) x = x
  answered (Err (Syntax f k)) x = x
  answered (Err (LeftOut f k)) x = x
  answered (Err (TooDeep k)) x = x
  answered (Err TooMany) x = x
  answered (Err (Profile f k)) x = x

pub written_reads_back : WrittenReadsBack
written_reads_back = record {
  rising = written_rises;
  back = λ names c h. read_back (claimed names c) (written_rises names c h);
  read = λ names c t functions r h l f x.
      answered names c t functions (short (written names c) l ∙ read_back (claimed names c) (written_rises names c h)) f r x;
}

-- What is read is a sheet

pub lines_good : {A : Type 0} (f : ℕ → Text → Option A) (good : A → Bool) → ((i : ℕ) (l : Text) (a : A) → f i l ≡ Some a → good a ≡ true) → (k i n : ℕ) (t : Text) (y : List A × Text)
    → read_lines f k i n t ≡ Ok y → list_all good y.0 ≡ true
unfolding read_lines
lines_good {A} f good s k i zero t y e = ap (λ (z : List A × Text). list_all good z.0) (sym (ok_same e))
lines_good {A} f good s k i (suc n) t y e =
    let p = behind_ok (read_line (f i) k t) _ y e in
    let q = behind_ok (read_lines f (k + 1) (i + 1) n p.0.1) _ y p.2 in
    let same : (p.0.0 ∷ q.0.0, q.0.1) ≡ y = ok_same q.2 in
    let here = line_spelled (f i) k t p.0 p.1 in
    let first : good p.0.0 ≡ true = s i here.0 p.0.0 here.1 in
    let rest : list_all good q.0.0 ≡ true = lines_good f good s (k + 1) (i + 1) n p.0.1 q.0 q.1 in
    ap (λ (z : List A × Text). list_all good z.0) (sym same) ∙ rw first rest

counts_few : (ts : List Text) (x : ℕ × ℕ) → counts_of ts ≡ Some x → (x.0 ≤ 65535) × (x.1 ≤ 65535)
unfolding counts_of
counts_few [] x e = absurd (none_some e)
counts_few (c ∷ []) x e = absurd (none_some e)
counts_few (c ∷ n ∷ []) x e = absurd (none_some e)
counts_few (c ∷ n ∷ f ∷ []) x e = absurd (none_some e)
counts_few (c ∷ n ∷ f ∷ m ∷ o ∷ ts) x e = absurd (none_some e)
counts_few (c ∷ n ∷ f ∷ m ∷ []) x e =
    let i = if_some (bytes_eq (codes "commands") c && bytes_eq (codes "functions") f) (both (λ x y. (x, y)) (number_in n) (number_in m)) x e in
    let p = both_some (λ (x y : ℕ). (x, y)) (number_in n) (number_in m) x i.1 in
    (subst (λ (y : ℕ × ℕ). y.0 ≤ 65535) p.4 (number_spelled n p.0 p.2).1, subst (λ (y : ℕ × ℕ). y.1 ≤ 65535) p.4 (number_spelled m p.1 p.3).1)

pub read_is_sheet : (t : Text) (s : Sheet) → read_sheet t ≡ Ok s → IsSheet s
unfolding read_sheet
read_is_sheet t s e =
    let a = behind_ok (read_line is_first 1 t) _ s e in
    let b = behind_ok (read_line counts_in 2 a.0.1) _ s a.2 in
    let c = behind_ok (read_lines command_in 3 1 b.0.0.0 b.0.1) _ s b.2 in
    let d = behind_ok (read_lines function_in (3 + b.0.0.0) 1 b.0.0.1 c.0.1) _ s c.2 in
    let last = ended_some (3 + b.0.0.0 + b.0.0.1) (record { commands = c.0.0; functions = d.0.0 }) s d.0.1 d.2 in
    let counts = line_spelled counts_in 2 a.0.1 b.0 b.1 in
    let small = counts_few (pieces 32 counts.0) b.0.0 counts.1 in
    let commands_long : length c.0.0 ≡ b.0.0.0 = (lines_spelled command_in command_fields command_spelled 3 1 b.0.0.0 b.0.1 c.0 c.1).1 in
    let functions_long : length d.0.0 ≡ b.0.0.1 = (lines_spelled function_in function_fields function_spelled (3 + b.0.0.0) 1 b.0.0.1 c.0.1 d.0 d.1).1 in
    subst IsSheet last.0 (record {
      commands = lines_good command_in is_command (λ i l c e. command_writable i (pieces 32 l) c e) 3 1 b.0.0.0 b.0.1 c.0 c.1;
      functions = lines_good function_in is_function (λ i l c e. function_writable i (pieces 32 l) c e) (3 + b.0.0.0) 1 b.0.0.1 c.0.1 d.0 d.1;
      few_commands = few (length c.0.0) b.0.0.0 commands_long small.0;
      few_functions = few (length d.0.0) b.0.0.1 functions_long small.1;
    })

pub read_is_written : ReadIsWritten
read_is_written = record {
  again = λ text t functions names c x. spelled text (claimed names c) (within text (claimed names c) x.2.claims);
  rising = λ text t functions names c x. read_is_sheet text (claimed names c) (within text (claimed names c) x.2.claims);
  asked = λ text t functions names of_functions c s x e. ap (certificate_of of_functions) (ok_same (sym x.2.claims ∙ e));
  one = λ text other t functions names c d x y e.
      sym (spelled text (claimed names c) (within text (claimed names c) x.2.claims)) ∙ ap certificate_text e ∙ spelled other (claimed names d) (within other (claimed names d) y.2.claims);
}
