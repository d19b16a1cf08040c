use Rattle.std.proofs.Common.{ap, ◌∙◌, option_map}
use Rattle.sh_quote.specs.Unquoted.{kind_told}
use Rattle.sh_quote.proofs.UnquotedLemmas.{nothing_told, in_list, kind_told-For, kind_told-Group, kind_told-Subshell, kind_told-Cond, kind_told-Loop, kind_told-Branches, kind_told-Define}
use Rattle.sh_quote.proofs.unquoted.add_kind.Goals as goal

pub returns-in-None-clause-kept : goal.returns-in-None-clause-kept
returns-in-None-clause-kept c =
    nothing_told _ _
    (ap (kind_told c.args.script.now (option_map (λ t. t.now) c.args.name) c.args.steady) c.in-For.is
    ∙ kind_told-For c.args.script.now (option_map (λ t. t.now) c.args.name) c.args.steady c.in-For.name c.in-For.words c.in-For.body
    ∙ ap (in_list c.args.script.now c.args.steady) c.in-None.is)

pub returns-in-Group-clause-kept : goal.returns-in-Group-clause-kept
returns-in-Group-clause-kept c =
    nothing_told _ _
    (ap (kind_told c.args.script.now (option_map (λ t. t.now) c.args.name) c.args.steady) c.in-Group.is
    ∙ kind_told-Group c.args.script.now (option_map (λ t. t.now) c.args.name) c.args.steady _)

pub returns-in-Subshell-clause-kept : goal.returns-in-Subshell-clause-kept
returns-in-Subshell-clause-kept c =
    nothing_told _ _
    (ap (kind_told c.args.script.now (option_map (λ t. t.now) c.args.name) c.args.steady) c.in-Subshell.is
    ∙ kind_told-Subshell c.args.script.now (option_map (λ t. t.now) c.args.name) c.args.steady _)

pub returns-in-Cond-clause-kept : goal.returns-in-Cond-clause-kept
returns-in-Cond-clause-kept c =
    nothing_told _ _
    (ap (kind_told c.args.script.now (option_map (λ t. t.now) c.args.name) c.args.steady) c.in-Cond.is
    ∙ kind_told-Cond c.args.script.now (option_map (λ t. t.now) c.args.name) c.args.steady _ _)

pub returns-in-Loop-clause-kept : goal.returns-in-Loop-clause-kept
returns-in-Loop-clause-kept c =
    nothing_told _ _
    (ap (kind_told c.args.script.now (option_map (λ t. t.now) c.args.name) c.args.steady) c.in-Loop.is
    ∙ kind_told-Loop c.args.script.now (option_map (λ t. t.now) c.args.name) c.args.steady _ _ _)

pub returns-in-Branches-clause-kept : goal.returns-in-Branches-clause-kept
returns-in-Branches-clause-kept c =
    nothing_told _ _
    (ap (kind_told c.args.script.now (option_map (λ t. t.now) c.args.name) c.args.steady) c.in-Branches.is
    ∙ kind_told-Branches c.args.script.now (option_map (λ t. t.now) c.args.name) c.args.steady _ _)

pub returns-in-Define-clause-kept : goal.returns-in-Define-clause-kept
returns-in-Define-clause-kept c =
    nothing_told _ _
    (ap (kind_told c.args.script.now (option_map (λ t. t.now) c.args.name) c.args.steady) c.in-Define.is
    ∙ kind_told-Define c.args.script.now (option_map (λ t. t.now) c.args.name) c.args.steady _ _)
