use Rattle.std.proofs.Common.{◌≡◌, ◌<◌, ◌||◌, length, sym, ap, subst, ◌∙◌, rules}
use Rattle.std.proofs.lemmas.Result.{err_from_is_err_and}
use Rattle.sh_domain.specs.Forms.{pieces}
use Rattle.sh_domain.specs.Names.{is_among}
use Rattle.sh_facts.specs.ReadParts.{IsRowOf}
use Rattle.sh_domain.specs.Reading.{are_known}
use Rattle.sh_facts.proofs.ReadingLemmas.{split_pieces, split_nothing}
use Rattle.sh_facts.proofs.reading.row_of.Goals as goal
use Rattle.sh_facts.proofs.reading.row_of.Goals.{then-not-is_empty+in_ok-add_names, else-not-is_empty}

pub returns-in_err-add_names-clause-refusal : goal.returns-in_err-add_names-clause-refusal
returns-in_err-add_names-clause-refusal c =
    let p = err_from_is_err_and c.from_residual-in_err-add_names.result c.from_residual-in_err-add_names.ensures.1 in
    let some : 0 < length c.args.text.now = search rules in
    rw (p.1, p.2, split_pieces c.args.text.now some) c.in_err-add_names.ensures.refusal

pub returns-clause-ok : goal.returns-clause-ok
returns-clause-ok c =
    let names = c.args.names.now in
    let t = c.args.text.now in
    elim c.if-not-is_empty.branch [
      | then-not-is_empty+in_ok-add_names w ↦
          let some : 0 < length t = search rules in
          let pieces_are = split_pieces t some in
          subst (IsRowOf names t) (sym w.row-is) (record {
            distinct = c.count.ensures.distinct;
            count = w.in_ok-add_names.ensures.count ∙ c.in_ok-row.ensures.limit ∙ c.count.ensures.count;
            fit = ap (are_known names) pieces_are ∙ w.in_ok-add_names.ensures.known;
            numbers = λ k. w.in_ok-add_names.ensures.numbers k ∙ ap (λ b. b || is_among names (pieces 44 t) k) (c.in_ok-row.ensures.numbers k) ∙ ap (λ ts. is_among names ts k) (sym pieces_are);
          })
      | else-not-is_empty w ↦
          let none : length t ≡ 0 = search rules in
          let pieces_are = split_nothing t none in
          subst (IsRowOf names t) (sym w.row-is) (record {
            distinct = c.count.ensures.distinct;
            count = c.in_ok-row.ensures.limit ∙ c.count.ensures.count;
            fit = ap (are_known names) pieces_are;
            numbers = λ k. c.in_ok-row.ensures.numbers k ∙ ap (λ ts. is_among names ts k) (sym pieces_are);
          })
    ]
