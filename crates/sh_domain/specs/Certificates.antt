-- What a certificate claims: facts about names as bytes.
-- The standard has no such thing: what is surely set (XCU 2.5) round each command and each
-- function.
use Rattle.std.specs.Prelude.{ℕ, ◌+◌, nat_eq, List, [], ◌∷◌, filter, fold, map, option_map, if◌then◌else◌, Option}
use Rattle.indexmap.specs.IndexMap.{get}
use Rattle.sh_tree.specs.standard.program.Syntax.{Text}
use Rattle.sh_domain.specs.declared.rows.RowId.{RowId}
use Rattle.sh_domain.specs.declared.certificate.Facts as value
use Rattle.sh_domain.specs.declared.certificate.Facts.TheVariants as value_kind
use Rattle.sh_domain.specs.declared.certificate.Entry.{Entry}
use Rattle.sh_domain.specs.declared.certificate.Drops.{Drops}
use Rattle.sh_domain.specs.declared.certificate.FunctionEntry.{FunctionEntry}
use Rattle.sh_domain.specs.declared.certificate.Certificate.{Certificate}
use Rattle.sh_domain.specs.Facts.{Claim, Unreached, Claimed}
use Rattle.sh_domain.specs.KeptRows.{KeptRows, holds_at}
use Rattle.sh_domain.specs.Operands.{Names}
use Rattle.sh_domain.specs.Sheets.{Sheet, CommandClaims, FunctionClaims, precedes}

-- names with their numbers, from k on
unfoldable pub numbered : ℕ → List Text → List (ℕ × Text)
numbered k [] = []
numbered k (t ∷ ts) = (k, t) ∷ numbered (k + 1) ts

-- put before the first whose name it precedes
unfoldable pub placed : List (ℕ × Text) → ℕ × Text → List (ℕ × Text)
placed [] x = x ∷ []
placed (y ∷ ys) x = if precedes x.1 y.1 then x ∷ y ∷ ys else y ∷ placed ys x

-- names with their numbers, in rising byte order
abbrev pub in_byte_order : List Text → List (ℕ × Text)
in_byte_order names = fold placed [] (numbered 0 names)

-- of these names, in their order, those whose numbers are in the row
abbrev pub names_at : (order : List (ℕ × Text)) → KeptRows → RowId → List Text
names_at order rows id = map (λ x. x.1) (filter (λ x. holds_at rows.rows id.index x.0) order)

unfoldable pub claim_of : (order : List (ℕ × Text)) → KeptRows → value.Facts → Claim
claim_of order rows value_kind.NotReached = Unreached
claim_of order rows (value_kind.Known v f a) = Claimed (names_at order rows v) (names_at order rows f) a

abbrev pub drops_of : (order : List (ℕ × Text)) → KeptRows → Drops → Names
drops_of order rows d = record { vars = names_at order rows d.vars; functions = names_at order rows d.functions }

abbrev pub command_claims : (order : List (ℕ × Text)) → KeptRows → Entry → Option value.Facts → CommandClaims
command_claims order rows e head = record {
  before = claim_of order rows e.before;
  zero = claim_of order rows e.zero;
  nonzero = claim_of order rows e.nonzero;
  head = option_map (claim_of order rows) head;
}

abbrev pub function_claims : (order : List (ℕ × Text)) → KeptRows → FunctionEntry → FunctionClaims
function_claims order rows e = record {
  before = claim_of order rows e.before;
  drops = drops_of order rows e.drops;
  zero = claim_of order rows e.zero;
  nonzero = claim_of order rows e.nonzero;
}

-- the commands from the number k on, each with its head if it is a loop
unfoldable pub commands_from : (order : List (ℕ × Text)) → Certificate → ℕ → List Entry → List CommandClaims
commands_from order c k [] = []
commands_from order c k (e ∷ es) = command_claims order c.rows e (get nat_eq c.heads k) ∷ commands_from order c (k + 1) es

-- what a certificate claims, for the names of its numbers in this order
abbrev pub sheet_of : (order : List (ℕ × Text)) → Certificate → Sheet
sheet_of order c = record { commands = commands_from order c 1 c.entries.items; functions = map (function_claims order c.rows) c.functions.items }
