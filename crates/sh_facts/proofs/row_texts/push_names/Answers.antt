use Rattle.std.proofs.Common.{◌≡◌, ◌&&◌, ◌++◌, not, Some, slice_get, get_or, refl, sym, ap, append-nil, ◌∙◌, rules}
use Rattle.std.specs.Option.{option_copied}
use Rattle.sh_domain.specs.Certificates.{in_byte_order}
use Rattle.sh_domain.specs.KeptRows.{holds_at}
use Rattle.sh_domain.specs.Numbered.{is_none, next_if}
use Rattle.sh_domain.specs.Sheets.{joined, names_text}
use Rattle.sh_domain.proofs.RowLemmas.{bits_at}
use Rattle.sh_domain.proofs.WritingLemmas.{row_written, row_first}
use Rattle.sh_facts.proofs.RowTextLemmas.{none_named}
use Rattle.sh_facts.proofs.row_texts.push_names.Goals as goal

pub returns-in_default : goal.returns-in_default
unfolding joined
returns-in_default c =
    let none = none_named c.args.rows.now c.args.id (sym c.row.ensures.row ∙ ap option_copied c.in_default.is) (in_byte_order c.args.names.now) in
    sym (ap (λ ts. c.args.out.now.items ++ names_text ts) none ∙ append-nil c.args.out.now.items)

pub loop-number-init : goal.loop-number-init
unfolding joined is_none
loop-number-init c = record { written = search rules; first = refl }

pub loop-number-preserved : goal.loop-number-preserved
loop-number-preserved c =
    let ks = c.in_byte_order-numbers.result.now in
    let i = c.loop-number.number-index in
    let k = get_or ks i 0 in
    let is : slice_get c.args.rows.now.rows c.args.id.index ≡ Some c.in-Some.row.now = search rules in
    let held : c.is_in-is_wanted.result ≡ holds_at c.args.rows.now.rows c.args.id.index k = c.is_in-is_wanted.ensures ∙ sym (bits_at c.args.rows.now.rows c.args.id.index c.in-Some.row.now is k) in
    record {
      written = row_written c.args.rows.now c.args.id c.args.names.now ks i k c.name.result.now c.args.out.now.items c.loop-number.out.items c.push_wanted.new.out.items c.loop-number.is_first c.loop-number-test.true refl c.name.ensures
          c.loop-number.invariant.written c.loop-number.invariant.first (c.in_ok-is_first.ensures.text ∙ ap (λ b. c.loop-number.out.items ++ next_if b c.loop-number.is_first c.name.result.now) held);
      first = row_first c.args.rows.now c.args.id c.args.names.now ks i k c.name.result.now c.loop-number.is_first c.in_ok-is_first.is_first c.loop-number-test.true refl c.name.ensures c.loop-number.invariant.first
          (c.in_ok-is_first.ensures.first ∙ ap (λ b. c.loop-number.is_first && not b) held);
    }
