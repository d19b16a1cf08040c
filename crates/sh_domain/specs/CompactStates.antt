-- What the compact certificate of a certificate states.
-- The standard has no such thing: what is surely set (XCU 2.5) at the start, at each turn of a loop
-- and round each function.
use Rattle.std.specs.Prelude.{◌≡◌, true, ◌≤◌, ℕ, List, length, map, nat_eq}
use Rattle.std.specs.List.{list_all}
use Rattle.indexmap.specs.IndexMap.{get}
use Rattle.sh_tree.specs.standard.program.Syntax.{Text}
use Rattle.sh_domain.specs.declared.certificate.Certificate.{Certificate}
use Rattle.sh_domain.specs.declared.certificate.Entry.{Entry}
use Rattle.sh_domain.specs.declared.certificate.Facts.TheVariants.{NotReached}
use Rattle.sh_domain.specs.declared.compact.Compact.{Compact}
use Rattle.sh_domain.specs.declared.knowledge.Knowledge.{Knowledge}
use Rattle.sh_domain.specs.Certificates.{in_byte_order, sheet_of}
use Rattle.sh_domain.specs.Compacts.{compact_claims, compact_of_sheet, known_claim, start_claim, stated_by, stated_sheet}
use Rattle.sh_domain.specs.Facts.{Claim, Declared, facts, start_facts}
use Rattle.sh_domain.specs.Forms.{is_variable}
use Rattle.sh_domain.specs.Knowledge.{AreNumbered, among, knowledge_facts}
use Rattle.sh_domain.specs.Names.{are_distinct}
use Rattle.sh_domain.specs.Sheets.{Sheet, certificate_of}
use Rattle.sh_domain.specs.Spelling.{is_writable}
use Rattle.sh_domain.specs.Views.{Head, Entry as Entered, ReturnsZero, ReturnsNonzero}

-- no run comes before or after a command
abbrev pub unreached_entry : Entry
unreached_entry = record { before = NotReached; zero = NotReached; nonzero = NotReached }

-- At each turn of a loop and round each function it states what the certificate claims, and of the
-- start what is known. At the start of a script these are the names that are set there, and they
-- may be written. A kept one states what a certificate claims that has its heads and functions, and
-- claims nothing of its commands.
pub record CompactsState : Type 0 where
  pub head : (functions : List Text) (start : Claim) (s : Sheet) (n : ℕ) → (stated_by functions (compact_of_sheet start s)).claim (Head n) ≡ (certificate_of functions s).claim (Head n)
  pub entered : (functions : List Text) (start : Claim) (s : Sheet) (f : Text) → (stated_by functions (compact_of_sheet start s)).claim (Entered f) ≡ (certificate_of functions s).claim (Entered f)
  pub returns_zero : (functions : List Text) (start : Claim) (s : Sheet) (f : Text) → (stated_by functions (compact_of_sheet start s)).claim (ReturnsZero f) ≡ (certificate_of functions s).claim (ReturnsZero f)
  pub returns_nonzero : (functions : List Text) (start : Claim) (s : Sheet) (f : Text)
      → (stated_by functions (compact_of_sheet start s)).claim (ReturnsNonzero f) ≡ (certificate_of functions s).claim (ReturnsNonzero f)
  pub drops : (functions : List Text) (start : Claim) (s : Sheet) (f : Text) → (stated_by functions (compact_of_sheet start s)).drops f ≡ (certificate_of functions s).drops f
  pub start : (names : List Text) (k : Knowledge) → AreNumbered names → facts (known_claim (in_byte_order names) k) ≡ knowledge_facts names k
  pub started : (names : List Text) (k : Knowledge) (d : Declared) → AreNumbered names → knowledge_facts names k ≡ among names (start_facts d) → known_claim (in_byte_order names) k ≡ start_claim names d
  pub written : (names : List Text) (d : Declared) → are_distinct names ≡ true → list_all is_variable names ≡ true → d.args ≤ 65535 → is_writable (start_claim names d) ≡ true
  pub kept : (order : List (ℕ × Text)) (k : Compact) (c : Certificate) → map (λ (e : Entry). unreached_entry) c.entries.items ≡ c.entries.items → length c.entries.items ≡ k.commands
      → ((n : ℕ) → get nat_eq c.heads n ≡ get nat_eq k.heads n) → c.rows ≡ k.rows → c.functions.items ≡ k.functions.items → stated_sheet (compact_claims order k) ≡ sheet_of order c
