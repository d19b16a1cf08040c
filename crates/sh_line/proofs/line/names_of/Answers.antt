use Rattle.std.proofs.Common.{ap, ◌∙◌, codes, map, unwrap_or, List, ℕ, [], Bor, Option}
use Rattle.std.proofs.lemmas.Result.{IfOk-weaker}
use Rattle.clap.specs.Words.{found_of, Text}
use Rattle.clap.proofs.WalkLemmas.{raw_values-rows}
use Rattle.sh_line.proofs.line.names_of.Goals as goal

abbrev or_none : Option (List Text) → List Text
or_none o = unwrap_or o []

pub returns-in-Some : goal.returns-in-Some
returns-in-Some c =
    IfOk-weaker c.bytes_of.result _ _
    (λ v h. h ∙ ap or_none (c.in-Some.ensures ∙ raw_values-rows (found_of c.args.sub.now) (codes "NAME")))
    c.bytes_of.ensures

pub returns-in-None : goal.returns-in-None
returns-in-None c =
    ap (map (λ (s : Bor (List ℕ)). s.now)) c.new.ensures.items ∙ ap or_none (c.in-None.ensures ∙ raw_values-rows (found_of c.args.sub.now) (codes "NAME"))
