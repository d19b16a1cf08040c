use Rattle.std.proofs.Common.{◌≡◌, None, rules, refl, sym, ap, ◌∙◌, subst, true≢false}
use Rattle.sh_drafts.specs.Facts.{Facts, IsWithin, meet}
use Rattle.sh_drafts.specs.Kept.{sight_facts}
use Rattle.sh_drafts.specs.Writable.{sets_in}
use Rattle.sh_drafts.proofs.FactLemmas.{sight_numbered}
use Rattle.sh_drafts.proofs.LowerLemmas.{claimed_is, names_within, nothing_claimed, met_fits, met_fits_known, there_still, sight_passes, is_lowered, still_works}
use Rattle.sh_drafts.proofs.lower.lower.Goals as goal

pub keep-requires-clause-named : goal.keep-requires-clause-named
keep-requires-clause-named c = met_fits _ _ _ _ c.args.known.now c.requires.count c.meet_facts.ensures c.requires.named

pub put-requires : goal.put-requires
put-requires c = there_still c.args.certificate.now _ c.args.place c.facts_at.result c.in-Some.facts refl refl refl c.facts_at.ensures c.in-Some.is

pub returns-clause-lowered : goal.returns-clause-lowered
returns-clause-lowered c = λ loops functions working.
    is_lowered c.args.names.now loops functions c.args.certificate.now _ c.put.new.certificate c.args.place c.in-Some.facts c.in_ok-kept.kept (sight_facts c.args.known.now) (sym c.facts_at.ensures ∙ c.in-Some.is)
    c.in_ok-kept.ensures.stay c.in_ok-kept.ensures.count refl refl refl c.in_ok-put.ensures (c.in_ok-kept.ensures.facts ∙ c.meet_facts.ensures) working
    (λ h. true≢false (sym (c.is_within.ensures.1 h) ∙ c.if-is_within.false))

pub returns-clause-working : goal.returns-clause-working
returns-clause-working c = λ loops functions working.
    still_works c.args.names.now loops functions c.args.certificate.now _ c.put.new.certificate c.args.place c.in-Some.facts c.in_ok-kept.kept (sight_facts c.args.known.now) (sym c.facts_at.ensures ∙ c.in-Some.is)
    c.in_ok-kept.ensures.stay c.in_ok-kept.ensures.count refl refl refl c.in_ok-put.ensures (c.in_ok-kept.ensures.facts ∙ c.meet_facts.ensures) working
    c.in_ok-kept.ensures.placed (sight_numbered _ c.args.known.now c.requires.named)
    (sight_passes c.args.names.now c.keep.new.rows c.in_ok-kept.kept c.meet_facts.new.sight c.in_ok-kept.ensures.facts (c.has.ensures.written c.if-not-has.false c.args.names.now c.requires.written))

pub returns-clause-fits : goal.returns-clause-fits
returns-clause-fits c =
    met_fits_known _ c.put.new.certificate c.args.place c.in_ok-kept.kept _ (sight_facts c.args.known.now) (sets_in c.args.writable.now.vars c.args.writable.now.functions) c.in_ok-put.ensures
    (c.in_ok-kept.ensures.facts ∙ c.meet_facts.ensures)

pub returns-in_default-clause-fits : goal.returns-in_default-clause-fits
returns-in_default-clause-fits c = record {
  within = λ f at_p w.
      let none : c.facts_at.result ≡ None = search rules in
      absurd (nothing_claimed c.args.certificate.now c.args.place c.facts_at.result c.facts_at.ensures none f at_p);
}

pub returns-in_default-clause-idle : goal.returns-in_default-clause-idle
returns-in_default-clause-idle c = λ e. returns-in_default-clause-fits c

pub returns-then-is_within-clause-fits : goal.returns-then-is_within-clause-fits
returns-then-is_within-clause-fits c = record {
  within = λ f at_p w.
      let same = claimed_is c.args.certificate.now c.args.place c.in-Some.facts (sym c.facts_at.ensures ∙ c.in-Some.is) f at_p in
      subst (λ (g : Facts). IsWithin g (sight_facts c.args.known.now)) same (c.is_within.ensures.0 c.if-is_within.true);
}

pub returns-then-is_within-clause-idle : goal.returns-then-is_within-clause-idle
returns-then-is_within-clause-idle c = λ e. returns-then-is_within-clause-fits c

pub returns-then-not-has-clause-fits : goal.returns-then-not-has-clause-fits
returns-then-not-has-clause-fits c = record {
  within = λ f at_p w.
      let same = claimed_is c.args.certificate.now c.args.place c.in-Some.facts (sym c.facts_at.ensures ∙ c.in-Some.is) f at_p in
      let met = c.meet_facts.ensures ∙ ap (λ (g : Facts). meet g (sight_facts c.args.known.now)) same in
      absurd (true≢false (sym (c.has.ensures.all (names_within c.meet_facts.new.sight (meet f (sight_facts c.args.known.now)) (sets_in c.args.writable.now.vars c.args.writable.now.functions) met w)) ∙ c.if-not-has.true));
}

pub returns-then-not-has-clause-idle : goal.returns-then-not-has-clause-idle
returns-then-not-has-clause-idle c = λ e. returns-then-not-has-clause-fits c
