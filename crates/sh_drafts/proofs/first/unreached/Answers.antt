use Rattle.std.proofs.Common.{length, sym, ◌∙◌}
use Rattle.std.proofs.lemmas.List.{length-map}
use Rattle.sh_domain.specs.Reading.{loops_of}
use Rattle.sh_drafts.proofs.FirstLemmas.{first_works, claims_all, drops_nothing}
use Rattle.sh_drafts.proofs.first.unreached.Goals as goal

pub returns-clause-working : goal.returns-clause-working
returns-clause-working c = λ names e.
    first_works c.in_ok-none.none (loops_of c.args.commands.now) (length c.args.commands.now) c.args.functions _ (length-map c.args.commands.now _) (c.in_ok-entries.ensures.items_if_clones_equal (λ y e. e)) c.in_ok-heads.ensures
    (c.in_ok-functions.ensures.items_if_clones_equal (λ y e. e)) c.in_ok-none.ensures.there c.in_ok-none.ensures.none names (c.no_names.ensures.count ∙ c.new-rows.ensures.count ∙ sym e)

pub returns-clause-claims : goal.returns-clause-claims
returns-clause-claims c =
    claims_all c.in_ok-none.none (loops_of c.args.commands.now) (length c.args.commands.now) c.args.functions _ (length-map c.args.commands.now _) (c.in_ok-entries.ensures.items_if_clones_equal (λ y e. e)) c.in_ok-heads.ensures
    (c.in_ok-functions.ensures.items_if_clones_equal (λ y e. e)) c.in_ok-none.ensures.there c.in_ok-none.ensures.none

pub returns-clause-drops : goal.returns-clause-drops
returns-clause-drops c =
    drops_nothing c.in_ok-none.none (loops_of c.args.commands.now) (length c.args.commands.now) c.args.functions _ (length-map c.args.commands.now _) (c.in_ok-entries.ensures.items_if_clones_equal (λ y e. e)) c.in_ok-heads.ensures
    (c.in_ok-functions.ensures.items_if_clones_equal (λ y e. e)) c.in_ok-none.ensures.there c.in_ok-none.ensures.none
