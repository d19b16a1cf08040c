use Rattle.std.proofs.Common.{◌≡◌, ◌+◌}
use Rattle.sh_domain.specs.Certificates.{in_byte_order}
use Rattle.sh_facts.proofs.CompactTextLemmas.{turns_bytes}
use Rattle.sh_facts.proofs.compact_length.room_after_turns.Given as goal

abbrev pub invariant-loop-index : goal.invariant-loop-index
invariant-loop-index l =
    l.left + turns_bytes (in_byte_order l.names) l.compact.rows l.compact.heads.entries 0
    ≡ l.fn.room + turns_bytes (in_byte_order l.names) l.compact.rows l.compact.heads.entries l.index
