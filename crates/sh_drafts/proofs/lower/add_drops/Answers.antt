use Rattle.std.proofs.Common.{◌≡◌, None, rules, refl, sym, ◌∙◌, subst, true≢false}
use Rattle.sh_drafts.specs.Working.{AreBelow, AreWithin, Sets, joined}
use Rattle.sh_drafts.specs.Writable.{sets_in}
use Rattle.sh_drafts.proofs.LowerLemmas.{rows_few, dropped_is, nothing_dropped, union_within, drops_there, union_below, union_has_both, union_kept, fine_drops, is_counted, counting_works}
use Rattle.sh_drafts.proofs.lower.add_drops.Goals as goal

pub keep_drops-requires-clause-below : goal.keep_drops-requires-clause-below
keep_drops-requires-clause-below c =
    subst (λ n. AreBelow n (sets_in c.join_row.new.self c.join_row-2.new.self)) (sym c.requires.count)
    (union_below c.args.names.now c.args.certificate.now.rows c.in-Some.drops (sets_in c.args.vars.now c.args.functions.now) (sets_in c.join_row.new.self c.join_row-2.new.self)
    (c.requires.fine c.in-Some.drops (sym c.drops_of.ensures ∙ c.in-Some.is)).below c.requires.below (c.join_row.ensures.all (rows_few c.requires.count c.requires.few)) (c.join_row-2.ensures.all (rows_few c.requires.count c.requires.few)))

pub put_drops-requires : goal.put_drops-requires
put_drops-requires c = drops_there c.args.certificate.now.functions.items c.args.index c.drops_of.result c.in-Some.drops c.drops_of.ensures c.in-Some.is

pub returns-clause-counted : goal.returns-clause-counted
returns-clause-counted c = λ loops defined working.
    is_counted c.args.names.now loops defined c.args.certificate.now _ c.put_drops.new.certificate c.args.index c.in-Some.drops c.in_ok-kept.kept (sets_in c.args.vars.now c.args.functions.now) (sym c.drops_of.ensures ∙ c.in-Some.is)
    c.in_ok-kept.ensures.stay c.in_ok-kept.ensures.count refl refl refl c.put_drops.ensures
    (union_kept c.args.certificate.now.rows c.keep_drops.new.rows c.in-Some.drops c.in_ok-kept.kept (sets_in c.args.vars.now c.args.functions.now) (sets_in c.join_row.new.self c.join_row-2.new.self) c.in_ok-kept.ensures.sets (c.join_row.ensures.all (rows_few c.requires.count c.requires.few)) (c.join_row-2.ensures.all (rows_few c.requires.count c.requires.few)))
    working (λ h. true≢false (sym (c.are_in_rows.ensures.all h) ∙ c.if-are_in_rows.false))

pub returns-clause-working : goal.returns-clause-working
returns-clause-working c = λ loops defined working.
    counting_works c.args.names.now loops defined c.args.certificate.now _ c.put_drops.new.certificate c.args.index c.in-Some.drops c.in_ok-kept.kept (sets_in c.args.vars.now c.args.functions.now) (sym c.drops_of.ensures ∙ c.in-Some.is)
    c.in_ok-kept.ensures.stay c.in_ok-kept.ensures.count refl refl refl c.put_drops.ensures
    (union_kept c.args.certificate.now.rows c.keep_drops.new.rows c.in-Some.drops c.in_ok-kept.kept (sets_in c.args.vars.now c.args.functions.now) (sets_in c.join_row.new.self c.join_row-2.new.self) c.in_ok-kept.ensures.sets (c.join_row.ensures.all (rows_few c.requires.count c.requires.few)) (c.join_row-2.ensures.all (rows_few c.requires.count c.requires.few)))
    working
    (fine_drops c.args.names.now c.keep_drops.new.rows c.in_ok-kept.kept (sets_in c.join_row.new.self c.join_row-2.new.self) c.in_ok-kept.ensures.sets c.in_ok-kept.ensures.vars c.in_ok-kept.ensures.functions
    (union_below c.args.names.now c.args.certificate.now.rows c.in-Some.drops (sets_in c.args.vars.now c.args.functions.now) (sets_in c.join_row.new.self c.join_row-2.new.self)
    (c.requires.fine c.in-Some.drops (sym c.drops_of.ensures ∙ c.in-Some.is)).below c.requires.below (c.join_row.ensures.all (rows_few c.requires.count c.requires.few)) (c.join_row-2.ensures.all (rows_few c.requires.count c.requires.few)))
    (c.has.ensures.written c.if-not-has.false c.args.names.now c.requires.written))

pub returns-clause-fits : goal.returns-clause-fits
returns-clause-fits c =
    union_has_both _ c.put_drops.new.certificate c.args.index c.in_ok-kept.kept (sets_in c.args.vars.now c.args.functions.now) _ (sets_in c.args.writable.now.vars c.args.writable.now.functions) c.put_drops.ensures
    (union_kept c.args.certificate.now.rows c.keep_drops.new.rows c.in-Some.drops c.in_ok-kept.kept (sets_in c.args.vars.now c.args.functions.now) (sets_in c.join_row.new.self c.join_row-2.new.self) c.in_ok-kept.ensures.sets (c.join_row.ensures.all (rows_few c.requires.count c.requires.few)) (c.join_row-2.ensures.all (rows_few c.requires.count c.requires.few)))

pub returns-in_default-clause-fits : goal.returns-in_default-clause-fits
returns-in_default-clause-fits c = record {
  within = λ s at_i w.
      let none : c.drops_of.result ≡ None = search rules in
      absurd (nothing_dropped c.args.certificate.now c.args.index c.drops_of.result c.drops_of.ensures none s at_i);
}

pub returns-in_default-clause-idle : goal.returns-in_default-clause-idle
returns-in_default-clause-idle c = λ e. returns-in_default-clause-fits c

pub returns-then-are_in_rows-clause-fits : goal.returns-then-are_in_rows-clause-fits
returns-then-are_in_rows-clause-fits c = record {
  within = λ s at_i w.
      let same = dropped_is c.args.certificate.now c.args.index c.in-Some.drops (sym c.drops_of.ensures ∙ c.in-Some.is) s at_i in
      subst (AreWithin (sets_in c.args.vars.now c.args.functions.now)) same (c.are_in_rows.ensures.there c.if-are_in_rows.true);
}

pub returns-then-are_in_rows-clause-idle : goal.returns-then-are_in_rows-clause-idle
returns-then-are_in_rows-clause-idle c = λ e. returns-then-are_in_rows-clause-fits c

pub returns-then-not-has-clause-fits : goal.returns-then-not-has-clause-fits
returns-then-not-has-clause-fits c = record {
  within = λ s at_i w.
      let same = dropped_is c.args.certificate.now c.args.index c.in-Some.drops (sym c.drops_of.ensures ∙ c.in-Some.is) s at_i in
      let may : Sets = sets_in c.args.writable.now.vars c.args.writable.now.functions in
      let all = subst (λ (z : Sets). AreWithin (joined (sets_in c.args.vars.now c.args.functions.now) z) may) (sym same) w in
      absurd (true≢false (sym (c.has.ensures.all (union_within c.args.certificate.now.rows c.in-Some.drops (sets_in c.args.vars.now c.args.functions.now) (sets_in c.join_row.new.self c.join_row-2.new.self) may (c.join_row.ensures.all (rows_few c.requires.count c.requires.few)) (c.join_row-2.ensures.all (rows_few c.requires.count c.requires.few)) all)) ∙ c.if-not-has.true));
}

pub returns-then-not-has-clause-idle : goal.returns-then-not-has-clause-idle
returns-then-not-has-clause-idle c = λ e. returns-then-not-has-clause-fits c
