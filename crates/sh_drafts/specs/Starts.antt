-- What is known at the start of a script: what a compact certificate states, or what is declared.
-- POSIX.1-2024, XCU 2.5 (parameters and variables): what is set when a script begins.
use Rattle.std.specs.Prelude.{Bool, true, false, List}
use Rattle.sh_tree.specs.standard.program.Syntax.{Text}
use Rattle.sh_domain.specs.declared.compact.Compact.{Compact}
use Rattle.sh_domain.specs.Certificates.{in_byte_order}
use Rattle.sh_domain.specs.Compacts.{compact_claims}
use Rattle.sh_domain.specs.Facts.{Facts, Declared, facts, start_facts}
use Rattle.sh_drafts.specs.declared.subject.Subject.{Subject}

-- of these names, if claims are stated or not
unfoldable pub start_by : Bool → List Text → Declared → Compact → Facts
start_by false names d k = start_facts d
start_by true names d k = facts (compact_claims (in_byte_order names) k).start

abbrev pub start_of : Subject → Facts
start_of s = start_by s.stated s.names.now s.policy.now s.compact.now
