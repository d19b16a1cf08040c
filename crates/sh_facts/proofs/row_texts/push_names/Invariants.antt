use Rattle.std.proofs.Common.{◌≡◌, ◌++◌, take, map}
use Rattle.sh_domain.specs.Certificates.{names_at}
use Rattle.sh_domain.specs.Numbered.{pair_in, is_none}
use Rattle.sh_domain.specs.Sheets.{names_text}
use Rattle.sh_facts.proofs.row_texts.push_names.Given as goal

abbrev pub invariant-loop-number : goal.invariant-loop-number
invariant-loop-number l = record {
  written : l.out.items ≡ l.initial.out.items ++ names_text (names_at (take l.number-index (map (pair_in l.names) l.numbers)) l.rows l.fn.id);
  first : l.is_first ≡ is_none (names_at (take l.number-index (map (pair_in l.names) l.numbers)) l.rows l.fn.id);
}
