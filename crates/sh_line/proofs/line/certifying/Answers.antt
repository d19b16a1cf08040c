use Rattle.std.proofs.Common.{◌∙◌, codes}
use Rattle.clap.specs.Words.{found_of}
use Rattle.clap.proofs.WalkLemmas.{one_text-rows}
use Rattle.sh_line.proofs.line.certifying.Goals as goal

pub returns-clause-shown : goal.returns-clause-shown
returns-clause-shown c =
    let same = one_text-rows (found_of c.args.sub.now) (codes "full") in
    record {
      given = λ e. c.get_flag.ensures.value (same ∙ e);
      by_default = λ e. c.get_flag.ensures.other (same ∙ e);
      none = λ e. c.get_flag.ensures.none (same ∙ e);
    }
