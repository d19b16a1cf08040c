use Rattle.std.proofs.Common.{sym}
use Rattle.sh_rules.proofs.DropLemmas.{variable_there}
use Rattle.sh_rules.proofs.claims.Claims.drops_variable.Goals as goal

pub returns-in-Some : goal.returns-in-Some
returns-in-Some c =
    let s = c.args.self.now in
    variable_there s _ c.args.name.now c.in-Some.entry.now c.has_variable.result s.numbered (sym c.in-Some.ensures) c.has_variable.ensures
