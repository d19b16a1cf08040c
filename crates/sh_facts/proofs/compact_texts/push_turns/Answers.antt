use Rattle.std.proofs.Common.{◌++◌, refl, sym, ap, append-nil, ◌∙◌}
use Rattle.sh_domain.specs.Certificates.{claim_of, in_byte_order}
use Rattle.sh_domain.specs.Compacts.{turn_fields, turn_lines}
use Rattle.sh_domain.specs.Sheets.{line}
use Rattle.sh_facts.specs.RowTexts.{NamedRows}
use Rattle.sh_facts.proofs.CompactTextLemmas.{turns_written}
use Rattle.sh_facts.proofs.compact_texts.push_turns.Goals as goal

pub loop-index-init : goal.loop-index-init
unfolding turn_lines
loop-index-init c = record { written = sym (append-nil c.args.out.now.items); same = refl }

pub loop-index-preserved : goal.loop-index-preserved
loop-index-preserved c =
    let claims = λ (t : NamedRows). c.loop-index.out.items ++ line (turn_fields (c.in-Some.number.now, claim_of (in_byte_order t.names) t.rows c.in-Some.facts.now)) in
    record {
      written = turns_written (in_byte_order c.args.texts.now.names) c.args.texts.now.rows c.args.compact.now.heads.entries c.loop-index.index (c.in-Some.number.now, c.in-Some.facts.now) c.args.out.now.items c.loop-index.out.items
          c.push_turn.new.out.items (sym c.in-Some.ensures.entry) c.loop-index.invariant.written (c.in_ok-push_turn.ensures.text ∙ ap claims c.loop-index.invariant.same);
      same = c.push_turn.ensures.same ∙ c.loop-index.invariant.same;
    }
