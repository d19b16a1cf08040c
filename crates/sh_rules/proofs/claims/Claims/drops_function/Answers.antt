use Rattle.std.proofs.Common.{sym}
use Rattle.sh_rules.proofs.DropLemmas.{function_there}
use Rattle.sh_rules.proofs.claims.Claims.drops_function.Goals as goal

pub returns-in-Some : goal.returns-in-Some
returns-in-Some c =
    let s = c.args.self.now in
    function_there s _ c.args.name.now c.in-Some.entry.now c.has_function.result s.numbered (sym c.in-Some.ensures) c.has_function.ensures
