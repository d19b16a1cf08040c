-- A compact certificate as claims about names, and its text.
-- The standard has no such thing: what is surely set (XCU 2.5) at the start, at each turn of a loop
-- and round each function. What holds round the commands follows from these.
use Rattle.std.specs.Prelude.{ℕ, zero, suc, ◌+◌, nat_eq, ◌||◌, List, [], ◌∷◌, ◌++◌, filter, length, map, codes, Option, Some, None}
use Rattle.std.specs.Fmt.{decimal}
use Rattle.std.specs.Map.{lookup}
use Rattle.sh_tree.specs.standard.program.Syntax.{Text}
use Rattle.sh_runs.specs.standard.runs.Environment.{is_one_of}
use Rattle.sh_runs.specs.standard.runs.Worlds.{start_names}
use Rattle.sh_domain.specs.declared.certificate.Facts as value
use Rattle.sh_domain.specs.declared.compact.Compact.{Compact}
use Rattle.sh_domain.specs.declared.knowledge.Knowledge.{Knowledge}
use Rattle.sh_domain.specs.declared.knowledge.Knowledge.TheVariants as knowledge
use Rattle.sh_domain.specs.declared.number_set.NumberSet.{NumberSet}
use Rattle.sh_domain.specs.Certificates.{claim_of, function_claims, in_byte_order}
use Rattle.sh_domain.specs.Facts.{Claim, Unreached, Claimed, Declared}
use Rattle.sh_domain.specs.KeptRows.{KeptRows}
use Rattle.sh_domain.specs.NumberSets.{numbers_of}
use Rattle.sh_domain.specs.Sheets.{Sheet, CommandClaims, FunctionClaims, certificate_of, claim_text, line, numbered_lines, function_fields}
use Rattle.sh_domain.specs.Views.{Certificate}

-- so many commands, the start, each turn of the loops by the numbers of their commands, and the
-- functions by their numbers from 1
pub record CompactSheet : Type 0 where
  pub commands : ℕ
  pub start : Claim
  pub heads : List (ℕ × Claim)
  pub functions : List FunctionClaims

-- What it states: of a command, what is claimed at each turn if it is a loop

-- n commands, the first of which has the number k
unfoldable pub stated_commands : ℕ → ℕ → List (ℕ × Claim) → List CommandClaims
stated_commands k zero hs = []
stated_commands k (suc n) hs = record { before = Unreached; zero = Unreached; nonzero = Unreached; head = lookup (nat_eq k) hs } ∷ stated_commands (k + 1) n hs

abbrev pub stated_sheet : CompactSheet → Sheet
stated_sheet s = record { commands = stated_commands 1 s.commands s.heads; functions = s.functions }

-- where its functions have these names
abbrev pub stated_by : List Text → CompactSheet → Certificate
stated_by functions s = certificate_of functions (stated_sheet s)

-- Of a certificate, with what is known at the start

unfoldable pub with_turn : ℕ → Option Claim → List (ℕ × Claim) → List (ℕ × Claim)
with_turn k None hs = hs
with_turn k (Some h) hs = (k, h) ∷ hs

-- the turns of the loops among these commands, the first of which has the number k
unfoldable pub turns_from : ℕ → List CommandClaims → List (ℕ × Claim)
turns_from k [] = []
turns_from k (c ∷ cs) = with_turn k c.head (turns_from (k + 1) cs)

abbrev pub compact_of_sheet : (start : Claim) → Sheet → CompactSheet
compact_of_sheet start s = record { commands = length s.commands; start = start; heads = turns_from 1 s.commands; functions = s.functions }

-- Of names in this order, what is claimed by a kept one, and by what is known

-- of the facts at the heads of loops
abbrev pub turns_of : (order : List (ℕ × Text)) → KeptRows → List (ℕ × value.Facts) → List (ℕ × Claim)
turns_of order rows hs = map (λ h. (h.0, claim_of order rows h.1)) hs

abbrev pub compact_claims : (order : List (ℕ × Text)) → Compact → CompactSheet
compact_claims order c = record {
  commands = c.commands;
  start = claim_of order c.rows c.start;
  heads = turns_of order c.rows c.heads.entries;
  functions = map (function_claims order c.rows) c.functions.items;
}

-- those whose numbers are in the set
abbrev pub names_among : (order : List (ℕ × Text)) → NumberSet → List Text
names_among order s = map (λ x. x.1) (filter (λ x. numbers_of s x.0) order)

unfoldable pub known_claim : (order : List (ℕ × Text)) → Knowledge → Claim
known_claim order knowledge.NotReached = Unreached
known_claim order (knowledge.Known s) = Claimed (names_among order s.vars) (names_among order s.functions) s.args

-- where a script with these names starts: those that are set there, and no function
abbrev pub start_claim : List Text → Declared → Claim
start_claim names d = Claimed (map (λ x. x.1) (filter (λ x. is_one_of start_names x.1 || is_one_of d.names x.1) (in_byte_order names))) [] d.args

-- Texts

abbrev pub compact_line : Text
compact_line = codes "shset certificate 2"

abbrev pub compact_counts : (commands functions loops : ℕ) → List Text
compact_counts n m l = codes "commands" ∷ decimal n ∷ codes "functions" ∷ decimal m ∷ codes "loops" ∷ decimal l ∷ []

abbrev pub start_fields : Claim → List Text
start_fields c = codes "s" ∷ claim_text c ∷ []

abbrev pub turn_fields : ℕ × Claim → List Text
turn_fields h = codes "h" ∷ decimal h.0 ∷ claim_text h.1 ∷ []

unfoldable pub turn_lines : List (ℕ × Claim) → Text
turn_lines [] = []
turn_lines (h ∷ hs) = line (turn_fields h) ++ turn_lines hs

-- the one text of a compact certificate
unfoldable pub compact_text : CompactSheet → Text
compact_text s =
    line (compact_line ∷ [])
    ++ line (compact_counts s.commands (length s.functions) (length s.heads))
    ++ line (start_fields s.start)
    ++ turn_lines s.heads
    ++ numbered_lines function_fields 1 s.functions
