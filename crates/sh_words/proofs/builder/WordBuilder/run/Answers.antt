use Rattle.std.proofs.Common.{◌≡◌, ap, sym, ◌∙◌, subst}
use Rattle.sh_words.specs.Builders.{inside_of, text_of}
use Rattle.sh_words.specs.Clauses.{Refuses}
use Rattle.sh_words.specs.Faults.{IsReported, reported}
use Rattle.sh_words.specs.Rest.{Left}
use Rattle.sh_words.proofs.FaultLemmas.{reported_refuses, reported_stays}
use Rattle.sh_words.proofs.builder.WordBuilder.run.Goals as goal

pub returns-in-Err-clause-runs : goal.returns-in-Err-clause-runs
returns-in-Err-clause-runs c = λ goes.
    let w = c.args.self.now in
    let b = text_of c.args.script.now w in
    let old = Left b w in
    let e = c.in-Err.found in
    let refuses = subst (λ t. Refuses t (Left t w) e) c.seen-seen.ensures.value c.in-Err.ensures.runs in
    let is : c.reported-refusal.result ≡ reported w.inside b e = c.reported-refusal.ensures ∙ ap (λ t. reported w.inside t e) c.seen-seen.ensures.value in
    subst (λ f. Refuses b old f) (sym is) (reported_refuses w.inside b old e refuses)

pub returns-in-Err-clause-told : goal.returns-in-Err-clause-told
returns-in-Err-clause-told c = λ goes.
    let w = c.args.self.now in
    let b = text_of c.args.script.now w in
    let is : c.reported-refusal.result ≡ reported w.inside b c.in-Err.found = c.reported-refusal.ensures ∙ ap (λ t. reported w.inside t c.in-Err.found) c.seen-seen.ensures.value in
    subst (λ f. IsReported (inside_of w) b f) (sym is) (reported_stays w.inside b c.in-Err.found)
