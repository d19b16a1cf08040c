use Rattle.std.proofs.Common.{refl, sym, ap, ◌∙◌}
use Rattle.std.specs.Option.{option_map}
use Rattle.sh_tree.specs.standard.language.HereDocuments as documents
use Rattle.sh_tree.specs.standard.language.Parts.{is_quoted_word}
use Rattle.sh_grammar.proofs.DelimiterLemmas.{delimiter_is, not_delimiter}
use Rattle.sh_grammar.proofs.delimiters.mark_at.Goals as goal

pub returns-in-Some-clause-marks : goal.returns-in-Some-clause-marks
returns-in-Some-clause-marks c =
    let w = c.args.word.now in
    let items = c.in-Some.delimiter.items in
    let is = delimiter_is c.args.script.now w items (ap (option_map (λ v. v.items)) (sym c.in-Some.is) ∙ c.in_ok-delimiter.ensures) in
    let whole : _ → _ → documents.Mark = λ q d. record { strip = c.args.strip; quoted = q; delimiter = d; depth = c.args.depth } in
    (refl, is.0, ap (λ q. whole q items) c.is_quoted.ensures ∙ ap (λ d. whole (is_quoted_word w) d) (sym is.1))

pub returns-in-None-clause-marks : goal.returns-in-None-clause-marks
returns-in-None-clause-marks c = not_delimiter c.args.script.now c.args.word.now c.requires.begins (ap (option_map (λ v. v.items)) (sym c.in-None.is) ∙ c.in_ok-delimiter.ensures)
