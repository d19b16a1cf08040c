-- The lines of loops, read one after the other.
use Rattle.std.proofs.Common.{◌≡◌, ℕ, suc, ◌+◌, ◌-◌, ◌<◌, ◌≤◌, nat_eq, nat_le, Bool, true, false, ◌&&◌, List, [], ◌∷◌, ◌++◌, length, drop, get_or, append_assoc, append-nil, Option, Some, None, Ok, Err, refl, sym, ap, ap₂, ◌∙◌, arith}
use Rattle.std.specs.Borrow.{Bor}
use Rattle.std.proofs.lemmas.Bool.Decides.{nat_tests}
use Rattle.std.proofs.lemmas.List.{drop_more, drop_all, map-append}
use Rattle.sh_tree.specs.declared.tree.Command.{Command}
use Rattle.sh_tree.specs.standard.program.Syntax.{Text}
use Rattle.sh_domain.specs.declared.certificate.Facts as value
use Rattle.sh_domain.specs.Certificates.{in_byte_order, claim_of}
use Rattle.sh_domain.specs.CompactForms.{turn_in, read_turns}
use Rattle.sh_domain.specs.CompactReading.{loop_numbers, turns_fit}
use Rattle.sh_domain.specs.Compacts.{turns_of}
use Rattle.sh_domain.specs.Facts.{Claim}
use Rattle.sh_domain.specs.Forms.{Reading, behind, pieces}
use Rattle.sh_domain.specs.KeptRows.{KeptRows, Stay}
use Rattle.sh_domain.specs.Reading.{claim_fits, is_loop, loops_of}
use Rattle.sh_domain.proofs.CompactSpellingLemmas.{turn_fields_spelled}
use Rattle.sh_domain.proofs.SpellingLemmas.{err_ok}
use Rattle.sh_facts.specs.declared.compact_forms.TurnText.{TurnText}
use Rattle.sh_facts.specs.CompactFields.{turn_of}
use Rattle.sh_facts.specs.CompactParts.{ReadsTurns, NoTurnsFit}
use Rattle.sh_facts.specs.Fields as field
use Rattle.sh_facts.specs.Fields.{line_in}
use Rattle.sh_facts.specs.ReadParts.{ReadsFacts}
use Rattle.sh_facts.proofs.CertificateLemmas.{onto, onto_step, onto_none, onto_ok, line_is}
use Rattle.sh_facts.proofs.LineLemmas.{line_read, line_refused}
use Rattle.sh_facts.proofs.ReadingLemmas.{stay_on}

-- The numbers of the loops

-- those of the first commands

pub numbers_on : (commands : List (Bor Command)) (j : ℕ) (command : Bor Command) (numbers : List ℕ) (l : Bool) → j < length commands → command ≡ get_or commands j command → is_loop command.now ≡ l
    → numbers ++ loop_numbers (1 + j) (loops_of (drop j commands)) ≡ loop_numbers 1 (loops_of commands) → numbers ++ loop_numbers (1 + j) (l ∷ loops_of (drop (j + 1) commands)) ≡ loop_numbers 1 (loops_of commands)
numbers_on commands j command numbers l lt item is inv =
    let here : loops_of (drop j commands) ≡ l ∷ loops_of (drop (j + 1) commands) =
    ap loops_of (drop_more commands j command lt ∙ ap (λ (c : Bor Command). c ∷ drop (j + 1) commands) (sym item)) ∙ ap (λ b. b ∷ loops_of (drop (j + 1) commands)) is in
    ap (λ ls. numbers ++ loop_numbers (1 + j) ls) (sym here) ∙ inv

pub number_pushed : (numbers : List ℕ) (j : ℕ) (ls : List Bool) (all : List ℕ) → numbers ++ loop_numbers (1 + j) (true ∷ ls) ≡ all → (numbers ++ (j + 1) ∷ []) ++ loop_numbers (1 + (j + 1)) ls ≡ all
unfolding loop_numbers
number_pushed numbers j ls all e =
    let here : 1 + j ≡ j + 1 = omega arith in
    let next : 1 + j + 1 ≡ 1 + (j + 1) = omega arith in
    append_assoc numbers ((j + 1) ∷ []) (loop_numbers (1 + (j + 1)) ls) ∙ ap₂ (λ n m. numbers ++ n ∷ loop_numbers m ls) (sym here) (sym next) ∙ e

pub number_skipped : (numbers : List ℕ) (j : ℕ) (ls : List Bool) (all : List ℕ) → numbers ++ loop_numbers (1 + j) (false ∷ ls) ≡ all → numbers ++ loop_numbers (1 + (j + 1)) ls ≡ all
unfolding loop_numbers
number_skipped numbers j ls all e =
    let next : 1 + j + 1 ≡ 1 + (j + 1) = omega arith in
    ap (λ m. numbers ++ loop_numbers m ls) (sym next) ∙ e

pub numbers_end : (commands : List (Bor Command)) (j : ℕ) (numbers : List ℕ) → length commands ≤ j → numbers ++ loop_numbers (1 + j) (loops_of (drop j commands)) ≡ loop_numbers 1 (loops_of commands)
    → numbers ≡ loop_numbers 1 (loops_of commands)
unfolding loop_numbers
numbers_end commands j numbers le inv =
    sym (append-nil numbers) ∙ sym (ap (λ (cs : List (Bor Command)). numbers ++ loop_numbers (1 + j) (loops_of cs)) (drop_all j commands le)) ∙ inv

-- Lines after others

module _ (count j least : ℕ) (t left : Text) (xs : List (ℕ × Claim)) (lt : j < count) (inv : read_turns 4 0 count t ≡ onto xs (read_turns (4 + j) least (count - j) left)) where
  more : count - j ≡ suc (count - (j + 1))
  more = omega arith

  read_on : (x : (ℕ × Claim) × Text) → line_in (turn_in least) left ≡ Some x → read_turns 4 0 count t ≡ onto (xs ++ x.0 ∷ []) (read_turns (4 + (j + 1)) (x.0.0 + 1) (count - (j + 1)) x.1)
  unfolding read_turns behind
  read_on x e =
      let line : 4 + j + 1 ≡ 4 + (j + 1) = omega arith in
      inv ∙ ap (λ n. onto xs (read_turns (4 + j) least n left)) more
      ∙ ap (λ (r : Reading (ℕ × Claim)). onto xs (behind r (λ x. behind (read_turns (4 + j + 1) (x.0.0 + 1) (count - (j + 1)) x.1) (λ y. Ok (x.0 ∷ y.0, y.1))))) (line_read (turn_in least) (4 + j) left x e)
      ∙ onto_step xs x.0 (read_turns (4 + j + 1) (x.0.0 + 1) (count - (j + 1)) x.1)
      ∙ ap (λ k. onto (xs ++ x.0 ∷ []) (read_turns k (x.0.0 + 1) (count - (j + 1)) x.1)) line

  read_no_more : None ≡ line_in (turn_in least) left → (z : List (ℕ × Claim) × Text) → read_turns 4 0 count t ≡ Ok z → ⊥
  unfolding read_turns behind onto
  read_no_more e z h =
      let all : read_turns 4 0 count t ≡ Err (4 + j) =
      inv ∙ ap (λ n. onto xs (read_turns (4 + j) least n left)) more
      ∙ ap (λ (r : Reading (ℕ × Claim)). onto xs (behind r (λ x. behind (read_turns (4 + j + 1) (x.0.0 + 1) (count - (j + 1)) x.1) (λ y. Ok (x.0 ∷ y.0, y.1))))) (line_refused (turn_in least) (4 + j) left (sym e)) in
      err_ok (sym all ∙ h)

read_all : (count j least : ℕ) (t left : Text) (xs : List (ℕ × Claim)) → count ≤ j → read_turns 4 0 count t ≡ onto xs (read_turns (4 + j) least (count - j) left) → read_turns 4 0 count t ≡ Ok (xs, left)
unfolding read_turns onto behind
read_all count j least t left xs le inv =
    let none : count - j ≡ 0 = omega arith in
    inv ∙ ap (λ n. onto xs (read_turns (4 + j) least n left)) none ∙ ap (λ us. Ok (us, left)) (append-nil xs)

-- The lines of loops

pub record InTurns (names : List Text) (numbers : List ℕ) (t : Text) (j least : ℕ) (left : Text) (old rows : KeptRows) (entries : List (ℕ × value.Facts)) (heads : ℕ → Option value.Facts) : Type 0 where
  pub read : List (ℕ × Claim)
  pub reading : read_turns 4 0 (length numbers) t ≡ onto read (read_turns (4 + j) least (length numbers - j) left)
  pub fit : (later : List (ℕ × Claim)) → turns_fit names numbers (read ++ later) ≡ turns_fit names (drop j numbers) later
  pub same : rows.count ≡ length names
  pub stay : Stay old.rows rows.rows
  pub none : (k : ℕ) → least ≤ k → heads k ≡ None
  pub lasting : (later : KeptRows) → Stay rows.rows later.rows → turns_of (in_byte_order names) later entries ≡ read

pub turns_begin : (names : List Text) (numbers : List ℕ) (t : Text) (rows : KeptRows) (heads : ℕ → Option value.Facts) → rows.count ≡ length names → ((k : ℕ) → heads k ≡ None)
    → InTurns names numbers t 0 0 t rows rows [] heads
turns_begin names numbers t rows heads n h = record {
  read = [];
  reading = let whole : length numbers - 0 ≡ length numbers = omega arith in onto_none (read_turns 4 0 (length numbers) t) ∙ ap (λ n. onto [] (read_turns 4 0 n t)) (sym whole);
  fit = λ later. refl;
  same = n;
  stay = λ i l. refl;
  none = λ k l. h k;
  lasting = λ later s. refl;
}

module _ (names : List Text) (numbers : List ℕ) (t : Text) (j least : ℕ) (left : Text) (old rows : KeptRows) (entries : List (ℕ × value.Facts)) (heads : ℕ → Option value.Facts) (number : ℕ) (x : TurnText) (rest : Text)
    (inv : InTurns names numbers t j least left old rows entries heads) (lt : j < length numbers) (item : number ≡ get_or numbers j 0) (line : line_in (turn_in least) left ≡ Some (turn_of x, rest)) where
  on : read_turns 4 0 (length numbers) t ≡ onto (inv.read ++ turn_of x ∷ []) (read_turns (4 + (j + 1)) (x.number + 1) (length numbers - (j + 1)) rest)
  on = read_on (length numbers) j least t left inv.read lt inv.reading (turn_of x, rest) line

  fits_on : (later : List (ℕ × Claim)) → turns_fit names numbers ((inv.read ++ turn_of x ∷ []) ++ later) ≡ (nat_eq number x.number && claim_fits names (field.claim_of x.facts) && turns_fit names (drop (j + 1) numbers) later)
  unfolding turns_fit
  fits_on later =
      ap (turns_fit names numbers) (append_assoc inv.read (turn_of x ∷ []) later) ∙ inv.fit (turn_of x ∷ later)
      ∙ ap (λ ks. turns_fit names ks (turn_of x ∷ later)) (drop_more numbers j 0 lt ∙ ap (λ n. n ∷ drop (j + 1) numbers) (sym item))

  misfit : (nat_eq number x.number && claim_fits names (field.claim_of x.facts)) ≡ false → NoTurnsFit names numbers t
  misfit fails z e =
      let p = onto_ok (inv.read ++ turn_of x ∷ []) _ z (sym on ∙ e) in
      ap (turns_fit names numbers) p.1 ∙ fits_on p.0 ∙ ap (λ b. b && turns_fit names (drop (j + 1) numbers) p.0) fails

  pub other_turn : nat_eq x.number number ≡ false → NoTurnsFit names numbers t
  other_turn o =
      let other : nat_eq number x.number ≡ false = grind (arith, nat_tests) in
      misfit (ap (λ b. b && claim_fits names (field.claim_of x.facts)) other)

  pub turn_misfits : claim_fits names (field.claim_of x.facts) ≡ false → NoTurnsFit names numbers t
  turn_misfits none = misfit (go (nat_eq number x.number) none)
    where
      go : (b : Bool) → claim_fits names (field.claim_of x.facts) ≡ false → (b && claim_fits names (field.claim_of x.facts)) ≡ false
      go true e = e
      go false e = refl

  pub turn_free : x.number ≡ number → heads number ≡ None
  turn_free same =
      let l = line_is (turn_in least) left (turn_of x, rest) line in
      let above : nat_le least x.number ≡ true = (turn_fields_spelled least (pieces 32 l.0) (turn_of x) l.1).number in
      inv.none number (grind (arith, nat_tests, above, same))

  pub turns_on : x.number ≡ number → (new : KeptRows) (f : value.Facts) (after : ℕ → Option value.Facts) → ReadsFacts names x.facts rows f new → ((k : ℕ) → nat_eq number k ≡ false → after k ≡ heads k)
      → InTurns names numbers t (j + 1) (number + 1) rest old new (entries ++ (number, f) ∷ []) after
  turns_on same new f after r others =
      let l = line_is (turn_in least) left (turn_of x, rest) line in
      let is = turn_fields_spelled least (pieces 32 l.0) (turn_of x) l.1 in
      let above : nat_le least x.number ≡ true = is.number in
      let here : nat_eq number x.number ≡ true = grind (arith, nat_tests, same) in
      record {
        read = inv.read ++ turn_of x ∷ [];
        reading = on ∙ ap (λ n. onto (inv.read ++ turn_of x ∷ []) (read_turns (4 + (j + 1)) (n + 1) (length numbers - (j + 1)) rest)) same;
        fit = λ later. fits_on later ∙ ap₂ (λ a b. a && b && turns_fit names (drop (j + 1) numbers) later) here r.fit;
        same = r.count ∙ inv.same;
        stay = stay_on old.rows rows.rows new.rows inv.stay r.stay;
        none = λ k l. let apart : nat_eq number k ≡ false = grind (arith, nat_tests, l) in others k apart ∙ inv.none k (grind (arith, nat_tests, above, same, l));
        lasting = λ later s.
            map-append (λ (h : ℕ × value.Facts). (h.0, claim_of (in_byte_order names) later h.1)) entries ((number, f) ∷ [])
            ∙ ap₂ (λ (us : List (ℕ × Claim)) (u : ℕ × Claim). us ++ u ∷ []) (inv.lasting later (stay_on rows.rows new.rows later.rows r.stay s)) (ap₂ (λ (n : ℕ) (c : Claim). (n, c)) (sym same) (r.lasting later s is.claim));
      }

pub no_turn : (names : List Text) (numbers : List ℕ) (t : Text) (j least : ℕ) (left : Text) (old rows : KeptRows) (entries : List (ℕ × value.Facts)) (heads : ℕ → Option value.Facts)
    → InTurns names numbers t j least left old rows entries heads → j < length numbers → None ≡ line_in (turn_in least) left → NoTurnsFit names numbers t
no_turn names numbers t j least left old rows entries heads inv lt none z e = absurd (read_no_more (length numbers) j least t left inv.read lt inv.reading none z e)

pub turns_end : (names : List Text) (numbers : List ℕ) (t : Text) (j least : ℕ) (left : Text) (old rows : KeptRows) (entries : List (ℕ × value.Facts)) (heads : ℕ → Option value.Facts)
    → InTurns names numbers t j least left old rows entries heads → length numbers ≤ j → ReadsTurns names numbers t old entries left rows
unfolding turns_fit
turns_end names numbers t j least left old rows entries heads inv le = record {
  read = inv.read;
  reading = read_all (length numbers) j least t left inv.read le inv.reading;
  fit = ap (turns_fit names numbers) (sym (append-nil inv.read)) ∙ inv.fit [] ∙ ap (λ ks. turns_fit names ks []) (drop_all j numbers le);
  sized = inv.same;
  stay = inv.stay;
  lasting = inv.lasting;
}
