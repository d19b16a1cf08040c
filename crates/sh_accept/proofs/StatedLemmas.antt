-- What a compact certificate states fits a script, and has a text, if the compact certificate does.
use Rattle.std.proofs.Common.{◌≡◌, ℕ, zero, suc, ◌+◌, ◌<◌, nat_eq, nat_le, cond, Bool, true, false, ◌&&◌, List, [], ◌∷◌, length, Some, None, get_or, refl, sym, ◌∙◌, ap, arith, true≢false}
use Rattle.std.specs.List.{list_all}
use Rattle.std.specs.Map.{lookup}
use Rattle.std.proofs.lemmas.Bool.{and_parts}
use Rattle.std.proofs.lemmas.Bool.Decides.{nat_tests}
use Rattle.sh_tree.specs.standard.program.Syntax.{Text}
use Rattle.sh_domain.specs.CompactReading.{compact_fits, loop_numbers, turns_fit}
use Rattle.sh_domain.specs.Compacts.{CompactSheet, stated_commands, stated_sheet}
use Rattle.sh_domain.specs.CompactSpelling.{IsCompactSheet, turns_rise}
use Rattle.sh_domain.specs.Facts.{Claim}
use Rattle.sh_domain.specs.Reading.{claim_fits, head_fits, commands_fit, functions_fit, fits}
use Rattle.sh_domain.specs.Spelling.{IsSheet, is_command, is_writable, is_writable_head}
use Rattle.sh_accept.proofs.CompactLemmas.{and_all}

-- Turns

same_number : (n m : ℕ) → nat_eq n m ≡ true → n ≡ m
same_number n m h = grind (arith, nat_tests)

none_before : (names : List Text) (k : ℕ) (ls : List Bool) (hs : List (ℕ × Claim)) (m : ℕ) → turns_fit names (loop_numbers k ls) hs ≡ true → m < k → lookup (nat_eq m) hs ≡ None
unfolding turns_fit loop_numbers
none_before names k [] [] m f l = refl
none_before names k [] (h ∷ hs) m f l = absurd (true≢false (sym f))
none_before names k (false ∷ ls) hs m f l = none_before names (k + 1) ls hs m f (omega arith)
none_before names k (true ∷ ls) [] m f l = refl
none_before names k (true ∷ ls) (h ∷ hs) m f l =
    let both = and_parts (nat_eq k h.0 && claim_fits names h.1) (turns_fit names (loop_numbers (k + 1) ls) hs) f in
    let here : k ≡ h.0 = same_number k h.0 (and_parts (nat_eq k h.0) (claim_fits names h.1) both.0).0 in
    let apart : nat_eq m h.0 ≡ false = grind (arith, nat_tests) in
    ap (λ b. cond b (Some h.1) (lookup (nat_eq m) hs)) apart ∙ none_before names (k + 1) ls hs m both.1 (omega arith)

-- a head for each loop
turn_fits : (names : List Text) (k : ℕ) (ls : List Bool) (hs : List (ℕ × Claim)) (j : ℕ) → turns_fit names (loop_numbers k ls) hs ≡ true → j < length ls
    → head_fits names (get_or ls j false) (lookup (nat_eq (k + j)) hs) ≡ true
unfolding turns_fit loop_numbers head_fits
turn_fits names k [] hs j f l = absurd (omega arith)
turn_fits names k (false ∷ ls) hs zero f l = ap (head_fits names false) (none_before names (k + 1) ls hs (k + 0) f (omega arith))
turn_fits names k (false ∷ ls) hs (suc j) f l =
    let next : k + suc j ≡ k + 1 + j = omega arith in
    ap (λ n. head_fits names (get_or ls j false) (lookup (nat_eq n) hs)) next ∙ turn_fits names (k + 1) ls hs j f (omega arith)
turn_fits names k (true ∷ ls) [] j f l = absurd (true≢false (sym f))
turn_fits names k (true ∷ ls) (h ∷ hs) zero f l =
    let both = and_parts (nat_eq k h.0 && claim_fits names h.1) (turns_fit names (loop_numbers (k + 1) ls) hs) f in
    let own = and_parts (nat_eq k h.0) (claim_fits names h.1) both.0 in
    let same : nat_eq (k + 0) h.0 ≡ true = (let here : k ≡ h.0 = same_number k h.0 own.0 in grind (arith, nat_tests)) in
    ap (λ b. head_fits names true (cond b (Some h.1) (lookup (nat_eq (k + 0)) hs))) same ∙ own.1
turn_fits names k (true ∷ ls) (h ∷ hs) (suc j) f l =
    let both = and_parts (nat_eq k h.0 && claim_fits names h.1) (turns_fit names (loop_numbers (k + 1) ls) hs) f in
    let apart : nat_eq (k + suc j) h.0 ≡ false = (let here : k ≡ h.0 = same_number k h.0 (and_parts (nat_eq k h.0) (claim_fits names h.1) both.0).0 in grind (arith, nat_tests)) in
    let next : k + suc j ≡ k + 1 + j = omega arith in
    ap (λ b. head_fits names (get_or ls j false) (cond b (Some h.1) (lookup (nat_eq (k + suc j)) hs))) apart
    ∙ ap (λ n. head_fits names (get_or ls j false) (lookup (nat_eq n) hs)) next
    ∙ turn_fits names (k + 1) ls hs j both.1 (omega arith)

commands_stated : (names : List Text) (k : ℕ) (ls : List Bool) (hs : List (ℕ × Claim)) → ((j : ℕ) → j < length ls → head_fits names (get_or ls j false) (lookup (nat_eq (k + j)) hs) ≡ true)
    → commands_fit names ls (stated_commands k (length ls) hs) ≡ true
unfolding stated_commands commands_fit claim_fits
commands_stated names k [] hs h = refl
commands_stated names k (l ∷ ls) hs h =
    let first : k + 0 ≡ k = omega arith in
    let own : head_fits names l (lookup (nat_eq k) hs) ≡ true = sym (ap (λ n. head_fits names l (lookup (nat_eq n) hs)) first) ∙ h 0 (omega arith) in
    and_all _ _ own
    (commands_stated names (k + 1) ls hs (λ j m. let next : k + suc j ≡ k + 1 + j = omega arith in sym (ap (λ n. head_fits names (get_or ls j false) (lookup (nat_eq n) hs)) next) ∙ h (suc j) (omega arith)))

pub stated_fits : (names : List Text) (ls : List Bool) (functions : ℕ) (k : CompactSheet) → compact_fits names ls functions k ≡ true → fits names ls functions (stated_sheet k) ≡ true
stated_fits names ls functions k h =
    let last = and_parts (nat_eq k.commands (length ls) && claim_fits names k.start && turns_fit names (loop_numbers 1 ls) k.heads) (functions_fit names functions k.functions) h in
    let turns = and_parts (nat_eq k.commands (length ls) && claim_fits names k.start) (turns_fit names (loop_numbers 1 ls) k.heads) last.0 in
    let count : k.commands ≡ length ls = same_number k.commands (length ls) (and_parts (nat_eq k.commands (length ls)) (claim_fits names k.start) turns.0).0 in
    and_all _ _ (ap (λ n. commands_fit names ls (stated_commands 1 n k.heads)) count ∙ commands_stated names 1 ls k.heads (λ j l. turn_fits names 1 ls k.heads j turns.1 l)) last.1

-- Texts

turn_written : (test : ℕ → Bool) (least : ℕ) (hs : List (ℕ × Claim)) → turns_rise least hs ≡ true → is_writable_head (lookup test hs) ≡ true
unfolding turns_rise is_writable_head
turn_written test least [] h = refl
turn_written test least (x ∷ hs) h =
    let both = and_parts (nat_le least x.0 && nat_le x.0 65535 && is_writable x.1) (turns_rise (x.0 + 1) hs) h in
    go (test x.0) (and_parts (nat_le least x.0 && nat_le x.0 65535) (is_writable x.1) both.0).1 (turn_written test (x.0 + 1) hs both.1)
  where
    go : (b : Bool) → is_writable x.1 ≡ true → is_writable_head (lookup test hs) ≡ true → is_writable_head (cond b (Some x.1) (lookup test hs)) ≡ true
    go true own rest = own
    go false own rest = rest

commands_written : (k n : ℕ) (hs : List (ℕ × Claim)) → turns_rise 0 hs ≡ true → list_all is_command (stated_commands k n hs) ≡ true
unfolding stated_commands is_writable
commands_written k zero hs h = refl
commands_written k (suc n) hs h = and_all _ _ (turn_written (nat_eq k) 0 hs h) (commands_written (k + 1) n hs h)

as_many_stated : (k n : ℕ) (hs : List (ℕ × Claim)) → length (stated_commands k n hs) ≡ n
unfolding stated_commands
as_many_stated k zero hs = refl
as_many_stated k (suc n) hs = ap suc (as_many_stated (k + 1) n hs)

pub stated_written : (k : CompactSheet) → IsCompactSheet k → IsSheet (stated_sheet k)
stated_written k h = record {
  commands = commands_written 1 k.commands k.heads h.heads;
  functions = h.functions;
  few_commands = ap (λ n. nat_le n 65535) (as_many_stated 1 k.commands k.heads) ∙ h.few_commands;
  few_functions = h.few_functions;
}
