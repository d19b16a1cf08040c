use Rattle.std.proofs.Common.{sym, ap, subst, ◌∙◌, map}
use Rattle.std.proofs.lemmas.Result.{IfErr-weaker, IfOk-weaker}
use Rattle.clap.specs.Words.{App, HasKind, fault_of, found_of, is_simple, is_simple_and_free, kind_of, rows_of, subcommand_of}
use Rattle.sh_line.proofs.LineLemmas.{error_stops, is_simple-shset, is_simple_and_free-shset, pair_from_parts, read_stops, whole}
use Rattle.sh_line.proofs.line.command_line.Goals as goal

pub returns-in-Err-clause-stop : goal.returns-in-Err-clause-stop
returns-in-Err-clause-stop g c =
    let words = map g.S.AsStr.text c.args.words.now in
    let free = ap is_simple_and_free c.in_ok-command.ensures ∙ is_simple_and_free-shset in
    error_stops words (kind_of c.in-Err.error) c.stop_of.result
    (subst (λ (a : App). HasKind (fault_of a words) c.in-Err.error) c.in_ok-command.ensures (c.in-Err.ensures.kinds free))
    c.stop_of.ensures

pub read_line-requires : goal.read_line-requires
read_line-requires g c =
    let words = map g.S.AsStr.text c.args.words.now in
    let free = ap is_simple_and_free c.in_ok-command.ensures ∙ is_simple_and_free-shset in
    let none = sym (ap (λ (a : App). fault_of a words) c.in_ok-command.ensures) ∙ c.in-Ok.ensures.kinds free in
    let simple = ap is_simple c.in_ok-command.ensures ∙ is_simple-shset in
    let entered = (c.in-Ok.ensures.matches simple).1 in
    let pair = pair_from_parts _ _ _ _ _ c.in-Some.ensures.name c.in-Some.ensures.rows in
    whole words (c.in-Some.name.now, rows_of (found_of c.in-Some.sub.now)) none (sym (ap (λ (a : App). subcommand_of a words) c.in_ok-command.ensures) ∙ sym entered ∙ pair)

pub returns-clause-taken : goal.returns-clause-taken
returns-clause-taken g c =
    let words = map g.S.AsStr.text c.args.words.now in
    let free = ap is_simple_and_free c.in_ok-command.ensures ∙ is_simple_and_free-shset in
    IfOk-weaker c.read_line.result _ _
    (λ l h. sym (ap (λ (a : App). fault_of a words) c.in_ok-command.ensures) ∙ c.in-Ok.ensures.kinds free)
    c.read_line.ensures.line

pub returns-clause-line : goal.returns-clause-line
returns-clause-line g c =
    let words = map g.S.AsStr.text c.args.words.now in
    let simple = ap is_simple c.in_ok-command.ensures ∙ is_simple-shset in
    let entered = (c.in-Ok.ensures.matches simple).1 in
    let pair = pair_from_parts _ _ _ _ _ c.in-Some.ensures.name c.in-Some.ensures.rows in
    IfOk-weaker c.read_line.result _ _
    (λ l h. ((c.in-Some.name.now, rows_of (found_of c.in-Some.sub.now)), sym (ap (λ (a : App). subcommand_of a words) c.in_ok-command.ensures) ∙ sym entered ∙ pair, h))
    c.read_line.ensures.line

pub returns-clause-stop : goal.returns-clause-stop
returns-clause-stop g c =
    let words = map g.S.AsStr.text c.args.words.now in
    let free = ap is_simple_and_free c.in_ok-command.ensures ∙ is_simple_and_free-shset in
    let none = sym (ap (λ (a : App). fault_of a words) c.in_ok-command.ensures) ∙ c.in-Ok.ensures.kinds free in
    let simple = ap is_simple c.in_ok-command.ensures ∙ is_simple-shset in
    let entered = (c.in-Ok.ensures.matches simple).1 in
    let pair = pair_from_parts _ _ _ _ _ c.in-Some.ensures.name c.in-Some.ensures.rows in
    IfErr-weaker c.read_line.result _ _
    (λ s h. read_stops words (c.in-Some.name.now, rows_of (found_of c.in-Some.sub.now)) s none (sym (ap (λ (a : App). subcommand_of a words) c.in_ok-command.ensures) ∙ sym entered ∙ pair) h)
    c.read_line.ensures.stop
