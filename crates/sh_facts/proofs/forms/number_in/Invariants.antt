use Rattle.std.proofs.Common.{◌≡◌, drop}
use Rattle.sh_facts.proofs.FormLemmas.{valued}
use Rattle.sh_facts.proofs.forms.number_in.Given as goal

-- the number that goes on with the digits that are left is that of all digits
abbrev pub invariant-loop-byte : goal.invariant-loop-byte
invariant-loop-byte l = valued l.value (drop l.byte-index l.text) ≡ valued 0 l.text
