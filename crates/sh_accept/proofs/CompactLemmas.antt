-- The compact form of a certificate has a text if the certificate has one, and fits a script if the
-- certificate does.
use Rattle.std.proofs.Common.{◌≡◌, ℕ, ◌+◌, ◌≤◌, nat_eq, nat_le, Bool, true, false, ◌&&◌, List, [], ◌∷◌, length, Option, Some, None, refl, sym, ap₂, arith, true≢false}
use Rattle.std.specs.List.{list_all}
use Rattle.std.proofs.lemmas.Bool.{and_parts}
use Rattle.std.proofs.lemmas.Bool.Decides.{nat_tests}
use Rattle.sh_tree.specs.standard.program.Syntax.{Text}
use Rattle.sh_domain.specs.CompactReading.{loop_numbers, turns_fit}
use Rattle.sh_domain.specs.Compacts.{with_turn, turns_from, compact_of_sheet}
use Rattle.sh_domain.specs.CompactSpelling.{IsCompactSheet, turns_rise}
use Rattle.sh_domain.specs.Facts.{Claim}
use Rattle.sh_domain.specs.Reading.{claim_fits, head_fits, command_fits, commands_fit}
use Rattle.sh_domain.specs.Sheets.{Sheet, CommandClaims}
use Rattle.sh_domain.specs.Spelling.{IsSheet, is_writable, is_writable_head, is_command}

pub and_all : (a b : Bool) → a ≡ true → b ≡ true → (a && b) ≡ true
and_all a b h k = ap₂ (λ x y. x && y) h k

few_turns : (k : ℕ) (cs : List CommandClaims) → length (turns_from k cs) ≤ length cs
unfolding turns_from with_turn
few_turns k [] = omega arith
few_turns k (c ∷ cs) = go c.head (few_turns (k + 1) cs)
  where
    go : (h : Option Claim) → length (turns_from (k + 1) cs) ≤ length cs → length (with_turn k h (turns_from (k + 1) cs)) ≤ length (c ∷ cs)
    go None l = omega arith
    go (Some h) l = omega arith

writable_turn : (c : CommandClaims) → is_command c ≡ true → is_writable_head c.head ≡ true
writable_turn c h = (and_parts (is_writable c.before && is_writable c.zero && is_writable c.nonzero) (is_writable_head c.head) h).1

turns_written : (least k : ℕ) (cs : List CommandClaims) → least ≤ k → k + length cs ≤ 65536 → list_all is_command cs ≡ true → turns_rise least (turns_from k cs) ≡ true
unfolding turns_from with_turn turns_rise is_writable_head
turns_written least k [] l m h = refl
turns_written least k (c ∷ cs) l m h =
    let both = and_parts (is_command c) (list_all is_command cs) h in
    go c.head (writable_turn c both.0) (turns_written least (k + 1) cs (omega arith) (omega arith) both.1) (turns_written (k + 1) (k + 1) cs (omega arith) (omega arith) both.1)
  where
    from : nat_le least k ≡ true
    from = grind (arith, nat_tests)

    most : nat_le k 65535 ≡ true
    most = let few : k ≤ 65535 = omega arith in grind (arith, nat_tests)

    go : (h : Option Claim) → is_writable_head h ≡ true → turns_rise least (turns_from (k + 1) cs) ≡ true → turns_rise (k + 1) (turns_from (k + 1) cs) ≡ true → turns_rise least (with_turn k h (turns_from (k + 1) cs)) ≡ true
    go None w skipped next = skipped
    go (Some h) w skipped next = and_all _ _ (and_all _ _ (and_all _ _ from most) w) next

pub compact_written : (w : Claim) (c : Sheet) → is_writable w ≡ true → IsSheet c → IsCompactSheet (compact_of_sheet w c)
compact_written w c start s =
    let few : length c.commands ≤ 65535 = grind (arith, nat_tests) in
    let less = few_turns 1 c.commands in
    record {
      start = start;
      heads = turns_written 0 1 c.commands (omega arith) (omega arith) s.commands;
      functions = s.functions;
      few_commands = s.few_commands;
      few_heads = (let most : length (turns_from 1 c.commands) ≤ 65535 = omega arith in grind (arith, nat_tests));
      few_functions = s.few_functions;
    }

pub turns_fitting : (names : List Text) (k : ℕ) (ls : List Bool) (cs : List CommandClaims) → commands_fit names ls cs ≡ true → turns_fit names (loop_numbers k ls) (turns_from k cs) ≡ true
unfolding turns_from with_turn turns_fit loop_numbers commands_fit head_fits
turns_fitting names k [] [] h = refl
turns_fitting names k [] (c ∷ cs) h = absurd (true≢false (sym h))
turns_fitting names k (l ∷ ls) [] h = absurd (true≢false (sym h))
turns_fitting names k (l ∷ ls) (c ∷ cs) h =
    let both = and_parts (command_fits names l c) (commands_fit names ls cs) h in
    go l c.head (and_parts (claim_fits names c.before && claim_fits names c.zero && claim_fits names c.nonzero) (head_fits names l c.head) both.0).1 (turns_fitting names (k + 1) ls cs both.1)
  where
    itself : nat_eq k k ≡ true
    itself = grind (arith, nat_tests)

    go : (l : Bool) (h : Option Claim) → head_fits names l h ≡ true → turns_fit names (loop_numbers (k + 1) ls) (turns_from (k + 1) cs) ≡ true
        → turns_fit names (loop_numbers k (l ∷ ls)) (with_turn k h (turns_from (k + 1) cs)) ≡ true
    go true (Some h) f rest = and_all _ _ (and_all _ _ itself f) rest
    go true None f rest = absurd (true≢false (sym f))
    go false None f rest = rest
    go false (Some h) f rest = absurd (true≢false (sym f))
