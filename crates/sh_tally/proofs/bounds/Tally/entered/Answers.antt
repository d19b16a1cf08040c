use Rattle.std.proofs.Common.{◌≡◌, Some, IfSome, option_map, sym, ap, ◌∙◌, subst}
use Rattle.sh_domain.specs.Names.{number_of}
use Rattle.sh_domain.specs.Views.{Entry}
use Rattle.sh_tally.specs.declared.places.End.TheVariants as end
use Rattle.sh_tally.specs.Views.{function_index, index_of}
use Rattle.sh_tally.specs.Walks.{names}
use Rattle.sh_tally.proofs.bounds.Tally.entered.Goals as goal

pub returns-in-Some : goal.returns-in-Some
unfolding index_of
returns-in-Some c =
    let s = c.args.self.now in
    let numbered : number_of (names s) c.args.name.now ≡ Some c.in-Some.function = subst (λ o. IfSome o (λ f. number_of (names s) c.args.name.now ≡ Some f)) c.in-Some.is c.function.ensures in
    c.at.ensures (names s) (Entry c.args.name.now) (ap (option_map (function_index end.Entered)) numbered ∙ ap Some (sym c.of.ensures))
